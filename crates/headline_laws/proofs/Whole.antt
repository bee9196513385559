-- The whole page of what the lines of a run say.
pub mod Assembled
pub mod HeldNames
pub mod Items
pub mod Page
pub mod TooFar
