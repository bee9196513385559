mod Before
mod Beginning
mod Broken
mod Dead
mod Deciding
pub mod Facts
pub mod Flows
mod Foreign
mod Holders
mod Holding
mod Idle
mod Lasting
mod NoWriters
mod Outcomes
mod Places
mod Ranges
mod Replying
mod Rows
mod Stopping
pub mod Stories
mod Tables
