-- What other crates may cite of this crate's proofs.
pub use Rattle.migrate_laws.proofs.Left.{IsWhole, IsWholeIn, whole_now, whole_stays}
pub use Rattle.migrate_laws.proofs.Migrating.{all_ordered, all_push}
pub use Rattle.migrate_laws.proofs.Showing.{migrated_later}
