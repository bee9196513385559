use Rattle.std.proofs.Common.{◌≡◌, ◌+◌, ◌++◌, vec_len, map}
use Rattle.std.specs.List.{All}
use Rattle.turn_object.specs.Pass.{parts_of, mine_of, seen_of, ended_of, IsPassOf}
use Rattle.share_workers.specs.declared.worker.Part.TheVariants.{ToRead}
use Rattle.share_workers.specs.Workers.{IsGiven, Reader}
use Rattle.share_workers.proofs.workers.split_all.Given as goal

abbrev pub invariant-loop-flow : goal.invariant-loop-flow
invariant-loop-flow g l =
    IsPassOf l.turn l.pass
    × ((seen_of l.pass ≡ seen_of l.fn.pass) × (mine_of l.pass ≡ mine_of l.fn.pass) × (ended_of l.pass ≡ ended_of l.fn.pass))
    × (parts_of l.pass + vec_len l.workers ≡ parts_of l.fn.pass)
    × All (IsGiven l.turn (seen_of l.fn.pass)) l.workers.items
    × (map (λ (w : Reader). w.part) l.workers.items ++ map (λ flow. ToRead flow) l.flow-iterator.rest.items ≡ map (λ flow. ToRead flow) l.fn.works)
