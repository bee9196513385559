mod Calls
mod Ends
pub mod Facts
mod Fronts
mod Happening
mod Histories
mod Keeps
mod Shares
mod Views
