-- What other crates may cite of this crate's proofs.
pub use Rattle.drain_sound.proofs.DrainLemmas.{told_leaves}
pub use Rattle.drain_sound.proofs.LastsLemmas.{target_lasts}
pub use Rattle.drain_sound.proofs.LossLemmas.{lost_target}
pub use Rattle.drain_sound.proofs.MarkLemmas.{item_apart}
pub use Rattle.drain_sound.proofs.MissLemmas.{copied_landed, landed_then, misses_nothing}
pub use Rattle.drain_sound.proofs.ShapeLemmas.{container_of, no_marks}
pub use Rattle.drain_sound.proofs.StepLemmas.{step_target}
pub use Rattle.drain_sound.proofs.ViewLemmas.{begins_sound, prefix_there, seen_there, stood_source}
pub use Rattle.drain_sound.proofs.WriterLemmas.{one_host_there}
