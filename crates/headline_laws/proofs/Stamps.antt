-- By which of the clock's times the stamps are that lines tell.
pub mod Floors
pub mod Marks
pub mod Spent
pub mod Times
pub mod Topped
pub mod Wrote
