-- What other crates may cite of this crate's proofs.
pub use Rattle.recovery_laws.proofs.Cleanly.{Cleanly, Stays, asks_safe, cleanly_so, cleanly_stays, cleanly_then, safe_given, safe_on_ok, stays_both, stays_either, stays_so, stays_some}
pub use Rattle.recovery_laws.proofs.FirstEntries.{AreLogged, HasFirst, first_stays, in_log, log_there, logged_stays}
pub use Rattle.recovery_laws.proofs.Recovering.{safe_recovery}
