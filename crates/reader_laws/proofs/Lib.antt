pub mod Calls
pub mod Containers
pub mod Droppings
pub mod Facts
pub mod Faults
pub mod Gathered
pub mod OpenReaders
pub mod Soundness
