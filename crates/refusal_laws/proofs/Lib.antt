pub mod Facts
mod Outcomes
mod Writers
mod Holds
mod Others
mod Steps
