-- What other crates may cite of this crate's proofs.
pub use Rattle.writer_laws.proofs.Closes.{close_ends}
pub use Rattle.writer_laws.proofs.Enterings.{EnteredBy, entered_by}
pub use Rattle.writer_laws.proofs.Leavings.{CloseTold, ClosedBy, HasSynced, closed_by, writes_both}
pub use Rattle.writer_laws.proofs.Machines.{sync_ends, write_ends}
pub use Rattle.writer_laws.proofs.Opens.{opened_ends}
pub use Rattle.writer_laws.proofs.Rows.{some_eq}
pub use Rattle.writer_laws.proofs.Steps.{AtOnePlace}
pub use Rattle.writer_laws.proofs.Telling.{Goes, Spares, SyncedBy, WriteTold, WroteBy, goes, none_told, sync_list, synced_by, write_list, wrote_by_it}
pub use Rattle.writer_laws.proofs.Waits.{handle_waits}
