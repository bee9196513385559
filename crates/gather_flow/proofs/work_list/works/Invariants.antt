use Rattle.std.proofs.Common.{◌≡◌, ◌++◌, map}
use Rattle.mount_model.specs.Standing.{ready}
use Rattle.index_reader.specs.Stages.{share_standing}
use Rattle.gather_flow.specs.Shares.{programs_from}
use Rattle.gather_flow.proofs.work_list.works.Given as goal

-- behind the machines so far come those of the workers that are left
abbrev pub invariant-loop-worker : goal.invariant-loop-worker
invariant-loop-worker l =
    map (λ flow. share_standing flow) l.works ++ map (λ program. ready program) (programs_from l.workers l.listed l.worker)
    ≡ map (λ program. ready program) (programs_from l.workers l.listed 0)
