pub mod Clock
pub mod Memory
pub mod Sink
pub mod Source
