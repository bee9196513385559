-- What other crates may cite of this crate's proofs.
pub use Rattle.packing_laws.proofs.Kept.Lasting.{KeptLaw, keeps_later, keeps_mounts, opened_holds}
pub use Rattle.packing_laws.proofs.OnlyUnits.Alone.{Comes, IsMade, Reaches, comes_both, comes_none, is_made, made_reaches, reaches_on}
pub use Rattle.packing_laws.proofs.Puts.Named.{Named, writer_named}
pub use Rattle.packing_laws.proofs.Puts.Putting.{Adds, HasWritten, adds}
pub use Rattle.packing_laws.proofs.Puts.Syncing.{Opens, opens, synced_keeps}
