-- Programs that end in a fault only where one was answered.
pub mod EndsWell
pub mod FilesWell
pub mod FlattenLooks
pub mod Looking
pub mod OpeningLooks
pub mod ReaderLooks
pub mod RefreshLooks
