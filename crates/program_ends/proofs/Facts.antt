-- What other crates may cite of this crate's proofs.
pub use Rattle.program_ends.proofs.Leaving.{FailingLeavesSound, all_leave_sound, leaves_sound, was_run}
pub use Rattle.program_ends.proofs.Mounts.MountLemmas.{all_caused, fault_line_alone, has_next, why_fails}
pub use Rattle.program_ends.proofs.Mounts.SoundMarks.{all_unmounted_undamaged, unmounted_undamaged}
pub use Rattle.program_ends.proofs.Unmounted.{SaidUnmounted}
