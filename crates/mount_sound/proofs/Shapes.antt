-- The shape of what stands in a room.
pub mod Acting
pub mod Containers
pub mod Facts
pub mod Held
pub mod Items
pub mod Losing
pub mod Mounts
pub mod Steps
pub mod Trees
