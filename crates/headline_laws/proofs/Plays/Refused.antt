-- What calls on a container are refused for, and what they never are.
pub mod BehindHold
pub mod Missing
pub mod Plainly
pub mod Reasons
pub mod Taken
pub mod Unheld
pub mod Unmarked
