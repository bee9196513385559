-- Where a caller stands in a history, and how it goes through the calls of a statement.
pub mod Carrying
pub mod Coming
pub mod Earlier
pub mod Finding
pub mod Letting
pub mod Standing
