pub mod ClipLemmas
pub mod CutLemmas
pub mod ListsLemmas
pub mod RoomLemmas
pub mod SweepLemmas
pub mod WriterLemmas
