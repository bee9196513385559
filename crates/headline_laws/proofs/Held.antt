-- Why statements are refused as held, and what a recovery found that ended a hold.
pub mod Around
pub mod HeldLines
pub mod HoldCalls
pub mod HolderRows
pub mod LeftShut
pub mod LetGo
pub mod Shut
pub mod Shutting
pub mod Sought
