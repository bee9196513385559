-- What a caller's calls in a history come to, and what reads from an open reader give.
pub mod Answers
pub mod Calling
pub mod Histories
pub mod LogReads
pub mod Troubles
pub mod Truncating
