-- Calls that make, flush, sync and close a writer's droppings keep soundness.
pub mod Building
pub mod Closing
pub mod Flooring
pub mod Flushes
pub mod Openings
pub mod Syncing
