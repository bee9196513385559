pub mod Admitted
pub mod Logical
pub mod Memory
pub mod Mounts
pub mod Settled
pub mod Stopped
pub mod Truncating
pub mod WholeCalls
