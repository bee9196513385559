-- Flattened and packed indices, made and in the making.
pub mod BeingMade
pub mod FlatActs
pub mod FlatPaths
pub mod FlatRooms
pub mod Flats
pub mod FlatsLater
pub mod Flattening
pub mod Installing
pub mod Makings
