-- Small files put.
pub mod Breaking
pub mod Calls
pub mod Cases
pub mod Facts
pub mod OnePut
pub mod Outcomes
pub mod Putted
pub mod Told
pub mod Troubles
pub mod Writers
