-- The grammar: what is a script, and which fault is the first.
pub mod ActorNames
pub mod Conditions
pub mod Declarations
pub mod Faults
pub mod Forms
pub mod Grammar
pub mod Kinds
pub mod Layout
pub mod Phases
pub mod Ranges
pub mod Spelling
pub mod Told
-- A script that is generated.
pub mod Generated
-- Laws of it.
pub mod Laws
-- What lists keep.
pub mod Compact
-- How scripts are read, step by step.
pub mod Data
pub mod Drafts
pub mod Lines
pub mod Names
pub mod Numbers
pub mod Reading
pub mod Scripts
pub mod Shown
pub mod Spoken
pub mod Statements
pub mod Verbs
pub mod Words
pub mod Messages
