-- What other crates may cite of this crate's proofs.
pub use Rattle.recovery_laws.proofs.Holds.Listed.{file_named, folder_listed}
pub use Rattle.recovery_laws.proofs.Holds.Safety.{IsFree, LastsOne, fine_lasts, lasts_all, may_free, may_lasts, safe_ask, safe_free}
pub use Rattle.recovery_laws.proofs.Holds.Telling.{safe_telling}
pub use Rattle.recovery_laws.proofs.Holds.Truncating.{safe_rename, safe_truncate}
