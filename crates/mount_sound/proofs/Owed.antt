-- What is owed lasts while others call.
pub mod DroppingOwed
pub mod FlatOwed
pub mod HoldOwed
pub mod OwedLater
pub mod RecoveryOwed
