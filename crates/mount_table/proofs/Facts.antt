-- What other crates may cite of this crate's proofs.
pub use Rattle.mount_table.proofs.Rolls.{regular_as}
