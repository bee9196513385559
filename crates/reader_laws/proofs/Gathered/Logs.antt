-- What is read of the indices and logs of writers.
pub mod Fronts
pub mod Gathers
pub mod Readable
pub mod Within
