-- What one call does, whosever it is.
pub mod Acting
pub mod Aside
pub mod FlatFiles
pub mod Looking
pub mod Making
pub mod Nothing
