-- Statements that look at a file are steps of a plain machine.
pub mod Answered
pub mod Listings
pub mod Reading
pub mod Gathered
pub mod Amounts
pub mod Counts
pub mod Attributes
pub mod Seeing
pub mod Telling
pub mod Works
pub mod Opened
pub mod Readers
pub mod Opening
pub mod Refreshing
