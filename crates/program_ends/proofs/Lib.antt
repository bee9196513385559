pub mod Facts
mod Leaving
mod Mounts
mod OutputLemmas
mod Statuses
mod Unmounted
