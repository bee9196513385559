-- A drain over a mount, as the laws have it.
use Rattle.std.proofs.Common.{◌≡◌, ℕ, List, Option}
use Rattle.plfs_types.specs.Names.{IsLogicalName}
use Rattle.store_api.specs.Acts.{Stored}
use Rattle.mount_model.specs.Mounting.{IsMounted}
use Rattle.mount_model.specs.Paths.{Name}
use Rattle.mount_model.specs.State.{State}
use Rattle.drain_copy.specs.Telling.{DrainsOn}
use Rattle.drain_sound.specs.Draining.{Happening}
use Rattle.drain_program.specs.Course.{IsDrainOver}
use Rattle.drain_program.specs.Driven.{IsDriven}
use Rattle.drain_program.proofs.AbsentLemmas.{drain_of_none}
use Rattle.drain_program.proofs.TargetLemmas.{DrainLaws, copied_all, drain_from, holds_throughout, stays_target}

module _ (laws : DrainLaws) (name : Name) (logical : IsLogicalName name) (times : Option (List ℕ)) (source target : Stored) (start : State) (mounted : IsMounted 0 times source start)
    (happened : List Happening) (left : DrainsOn) (end : State) (target_end : Stored) (driven : IsDriven name start target happened left end target_end) (source_end : Stored) (ends_so : end.store ≡ source_end) where
  abbrev pub drain_over : IsDrainOver name times source target left source_end target_end
  drain_over = record {
    start = start;
    end = end;
    mounted = mounted;
    happened = happened;
    driven = driven;
    ends_so = ends_so;
    holds = holds_throughout laws name logical times source target start mounted happened left end target_end driven;
    stays = stays_target laws name logical times source target start mounted happened left end target_end driven source_end ends_so;
    copies = copied_all laws name logical times source target start mounted happened left end target_end driven source_end ends_so;
    lawful = drain_from laws name logical times source target start mounted happened left end target_end driven;
    lacking = λ none none_there. drain_of_none laws name logical times source target start mounted none none_there happened left end target_end driven;
  }
