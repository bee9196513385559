-- What a copying leaves.
pub mod Apart
pub mod Asked
pub mod Causes
pub mod Cleared
pub mod Copying
pub mod Elsewhere
pub mod Emptied
pub mod Files
pub mod Marking
pub mod Newest
pub mod Opened
pub mod Readers
pub mod Spared
pub mod Staying
pub mod Truncating
pub mod Undamaged
pub mod Views
