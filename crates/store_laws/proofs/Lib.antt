pub mod Facts
mod Looks
mod Names
mod Steps
mod Trees
