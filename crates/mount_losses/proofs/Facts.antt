-- What other crates may cite of this crate's proofs.
pub use Rattle.mount_losses.proofs.Losses.{has_index, least_safe_of, lost_told, marked_kept}
pub use Rattle.mount_losses.proofs.Surviving.{kept_survive}
