-- What other crates may cite of this crate's proofs.
pub use Rattle.trouble_laws.proofs.Finding.{failure_plain}
pub use Rattle.trouble_laws.proofs.Flattening.{flatten_ends}
pub use Rattle.trouble_laws.proofs.Migrating.{migrate_ends}
pub use Rattle.trouble_laws.proofs.Naming.{rename_ends, tell_ends, truncate_ends}
pub use Rattle.trouble_laws.proofs.Recovering.{recover_ends}
pub use Rattle.trouble_laws.proofs.Walking.{Ends, ends_call, ends_done}
pub use Rattle.trouble_laws.proofs.Writers.{close_ends, open_ends, sync_ends, write_ends}
