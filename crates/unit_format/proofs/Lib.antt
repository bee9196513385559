pub mod Facts
mod Eating
mod Spelled
mod Fronts
mod Totals
mod Newest
mod Isolation
