pub mod Facts
mod Judgements
mod NumberLemmas
mod Places
mod Records
mod Spelled
