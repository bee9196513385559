-- What holds from the mounting on, along each step and each lawful history.
pub mod Fine
pub mod Growing
pub mod Histories
pub mod LandedLater
pub mod LawfulParts
pub mod Mounting
pub mod SoundLater
pub mod Staying
pub mod Steps
