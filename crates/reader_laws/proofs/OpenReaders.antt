-- Who runs the programs of an opening has opened a reader of one cut.
pub mod Alike
pub mod Counts
pub mod Cuts
pub mod Openings
pub mod Portions
pub mod Readers
pub mod Workers
