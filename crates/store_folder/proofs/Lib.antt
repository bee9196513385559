mod Listed
pub mod Doubting
pub mod ForEach
pub mod Finding
pub mod Answered
mod AnsweredFolders
mod AnsweredRooms
pub mod AnsweredSteps
pub mod Clearing
pub mod Acting
pub mod Entering
pub mod InRooms
pub mod Staying
pub mod FailedRooms
pub mod Ending
pub mod Removing
pub mod Attempted
mod ActingOpen
