-- Whole scripts, line after line, read or generated.
pub mod Answering
pub mod Cuts
pub mod DraftLemmas
pub mod ExactLemmas
pub mod GeneratedLemmas
pub mod Keeping
pub mod Keys
pub mod ScriptLemmas
pub mod ScriptsAgain
