pub mod Facts
mod Acting
mod Listing
mod Making
mod Stopping
mod Steps
mod Mounting
mod Failing
