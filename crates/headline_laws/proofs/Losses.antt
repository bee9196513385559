-- What a loss of power after the run leaves of what lines told.
pub mod KeptNow
pub mod LostTree
pub mod SyncedLines
pub mod Surviving
