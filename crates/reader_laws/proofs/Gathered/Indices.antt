-- What is read of flattened and packed indices.
pub mod Covering
pub mod FileReading
pub mod FlatReading
pub mod Flats
pub mod PackReading
