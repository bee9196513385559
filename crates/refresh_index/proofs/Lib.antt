pub mod HostLemmas
pub mod LookLemmas
mod TruncLemmas
mod UnpackedLemmas
