-- What steps tell that only look.
pub mod Answering
pub mod Exactly
pub mod Listed
pub mod Listings
