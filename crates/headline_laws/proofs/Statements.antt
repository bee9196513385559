-- What each statement does, and what its actor keeps.
pub mod Again
pub mod Capacity
pub mod Chains
pub mod Did
pub mod DidByName
pub mod Does
pub mod Ends
pub mod Handles
pub mod Hosts
pub mod Known
pub mod Living
pub mod LivingLines
pub mod Refreshed
pub mod StillOpen
pub mod SureLines
