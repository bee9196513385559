pub mod Breaking
pub mod Holding
pub mod Memory
pub mod WholeCalls
