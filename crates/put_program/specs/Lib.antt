pub mod Alone
pub mod Copied
pub mod CopyingLawsSeen
pub mod Importing
pub mod Others
pub mod Putting
pub mod Seen
pub mod Shown
