-- Small files that are packed, as the plain machine has it.
pub mod Called
pub mod Taking
pub mod Writing
pub mod Putting
pub mod Placing
pub mod Whole
