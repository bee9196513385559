pub mod Beside
pub mod Failing
pub mod Held
pub mod Marked
pub mod Read
pub mod Sparing
pub mod Strict
pub mod Undamaged
