-- The cases of each step that changes a tree.
pub mod Creating
pub mod Emptied
pub mod Entering
pub mod Folders
pub mod Moving
pub mod NewRooms
pub mod Overwriting
pub mod Removing
pub mod Rooms
pub mod Syncing
pub mod Writing
