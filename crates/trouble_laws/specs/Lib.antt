pub mod Ends
pub mod Undamaged
