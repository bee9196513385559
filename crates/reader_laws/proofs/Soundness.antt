-- What a sound state has for those that list and read its containers.
pub mod Folders
pub mod HadItems
pub mod KnownNames
pub mod LookEnds
pub mod NoBreaks
pub mod ScanOwners
pub mod ScanStands
