-- The lines of a run are orderly.
pub mod AnswerSteps
pub mod Answering
pub mod Causes
pub mod Numbering
pub mod Orderly
pub mod Places
pub mod Standing
pub mod Synced
