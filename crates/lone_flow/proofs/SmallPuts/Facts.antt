-- What other crates may cite of this crate's proofs.
pub use Rattle.lone_flow.proofs.SmallPuts.Cases.{put_cases}
pub use Rattle.lone_flow.proofs.SmallPuts.OnePut.{GaveBack, WasPut, put_full, put_made, put_stopped, stuck_of}
pub use Rattle.lone_flow.proofs.SmallPuts.Troubles.{EndsSo, LastsBehind, WritersEnd, writer_so}
pub use Rattle.lone_flow.proofs.SmallPuts.Writers.{open_free, write_free}
