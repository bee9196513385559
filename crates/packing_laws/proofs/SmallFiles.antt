-- The units in the bytes of a region, and what readers are told of them.
pub mod Answering
pub mod Covered
pub mod FirstUnits
pub mod Fronts
pub mod Isolating
pub mod LaterUnits
pub mod OneSpelling
pub mod Places
pub mod Regions
pub mod Views
