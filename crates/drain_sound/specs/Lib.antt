pub mod Draining
pub mod Fronts
pub mod Kept
pub mod Steps
pub mod Views
