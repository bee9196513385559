mod AllowedLemmas
mod Copying
mod Courses
mod Driving
pub mod Facts
mod FaultLemmas
mod FineLemmas
mod LooksLemmas
mod Planning
mod Reading
mod RisenLemmas
