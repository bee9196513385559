use Rattle.std.proofs.Common.{ℕ, ◌<◌, slice_index_or}
use Rattle.turn_object.specs.History.{StartsWith}
use Rattle.turn_object.specs.Front.{IsLegalFront}
use Rattle.turn_object.specs.Pass.{start_of, front, seen_of, IsPassOf}
use Rattle.thread_runs.specs.Phases.{Keeps, HandedOver}
use Rattle.thread_runs.specs.Each.{ChangedTo}
use Rattle.mount_model.specs.Step.{IsStep}
use Rattle.mount_sound.specs.Owed.{Permits}
use Rattle.thread_runs.proofs.phase.gather_all.Given as goal

abbrev pub invariant-loop-index : goal.invariant-loop-index
invariant-loop-index g l =
    IsPassOf l.turn l.main × IsLegalFront IsStep Permits (start_of l.turn) (front l.main) × Keeps l.index 0 l.fn.main l.main × StartsWith (seen_of l.main) (seen_of l.fn.main)
    × ChangedTo (HandedOver l.turn) l.index l.fn.players l.players
    × ((k : ℕ) (d : _) → k < l.index → StartsWith (seen_of l.main) (seen_of (slice_index_or l.fn.players k d).pass))
