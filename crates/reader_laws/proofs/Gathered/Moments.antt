-- What later moments of a history have of earlier ones, and what one caller sees of it.
pub mod Bounds
pub mod Growing
pub mod Issuing
pub mod LaterTruncates
pub mod Placing
pub mod Seeing
pub mod Sparing
pub mod Stepping
