-- What the statements on a writer show, and what all others leave of it.
pub mod Asking
pub mod OneWriters
pub mod Others
pub mod Spared
pub mod Sparing
pub mod StuckLines
pub mod WriterLines
