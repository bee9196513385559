-- What is read of scripts and inputs, and what is written out.
pub mod CatLemmas
pub mod CommandLemmas
pub mod InputLemmas
pub mod Inputs
pub mod PackInputs
pub mod Pieces
pub mod Slices
pub mod SmallTexts
pub mod Words
