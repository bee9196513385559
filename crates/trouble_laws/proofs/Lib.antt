mod Walking
mod Finding
mod Writers
mod Listed
mod Naming
mod Checks
mod OneWriter
mod Recovering
mod Flattening
mod PackChecks
mod Stamped
mod Sighting
mod Migrating
pub mod Facts
