pub mod Items
pub mod Read
pub mod Reading
pub mod ReadingOutcomes
pub mod Text
pub mod Widths
pub mod Words
pub mod Messages
