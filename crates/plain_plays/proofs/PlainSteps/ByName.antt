-- Statements on a file by its name, and the one that lists all files, are steps of a plain machine.
pub mod Looking
pub mod Naming
pub mod Turning
pub mod Found
pub mod Holding
pub mod OpenWriters
pub mod Holds
pub mod LetGo
pub mod Renaming
pub mod Greatest
pub mod Listed
pub mod Marking
pub mod MoreTruncs
pub mod Cutting
pub mod Cuts
pub mod Entries
pub mod Mended
