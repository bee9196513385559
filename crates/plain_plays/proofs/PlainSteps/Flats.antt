-- A statement that flattens a file is a step of a plain machine.
pub mod Aside
pub mod Calls
pub mod Covering
pub mod Installing
pub mod Flattening
