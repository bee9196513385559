-- Writes that are kept stay, and later readers have them.
pub mod Lasting
pub mod Packing
pub mod Readers
pub mod SameWrites
