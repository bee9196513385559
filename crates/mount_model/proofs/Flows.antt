-- Machines that make calls.
pub mod Facts
pub mod Running
pub mod Composing
pub mod NameLemmas
pub mod OrderLemmas
