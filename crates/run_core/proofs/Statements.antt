-- An actor may make its calls.
pub mod Coming
pub mod Safety
pub mod Works
pub mod Facts
