-- What other crates may cite of this crate's proofs.
pub use Rattle.sharing_laws.proofs.Alone.{OpensSo, ReadAll, ShareFailed, err_is, opens_so, read_alone, runs_more, then_made}
pub use Rattle.sharing_laws.proofs.Behind.{all_named, alone_opened, pieces_run, runs_by_workers, runs_in_turn, was_listed}
pub use Rattle.sharing_laws.proofs.Dealing.{all_among, dealt, dealt_listed}
pub use Rattle.sharing_laws.proofs.Made.{parts_gathered, parts_of, reader_made}
