-- What other crates may cite of this crate's proofs.
pub use Rattle.share_workers.proofs.Items.{taken_item}
pub use Rattle.mount_core.proofs.Memory.{before_last, memory_both, none_refused, not_refused, on_err, refused_last}
