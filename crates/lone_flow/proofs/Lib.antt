mod Causes
mod Coming
mod Migrations
mod Packs
pub mod SmallPuts
pub mod SmallReads
