mod Courses
pub mod Facts
mod Mounts
pub mod Replays
mod SingleRuns
mod Streams
