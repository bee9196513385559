-- Containers that are made, held and truncated.
pub mod Excluding
pub mod HeldLater
pub mod HeldRooms
pub mod Holding
pub mod NewRooms
pub mod Truncating
