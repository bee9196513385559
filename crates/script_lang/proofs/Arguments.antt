-- The arguments of lines: numbers, names and data, and their rules.
pub mod DataLemmas
pub mod Decimals
pub mod Digits
pub mod FileNames
pub mod NumberLemmas
pub mod RuleLemmas
