use Rattle.std.proofs.Common.{◌≡◌, ℕ, rules}
use Rattle.plain_file.specs.Sources.{source_at}
use Rattle.interval_merge.specs.Lists.{newest_source}
use Rattle.interval_merge.proofs.ListsLemmas.{ArePieces-joined}
use Rattle.interval_merge.proofs.tournament.merge_all.Goals as goal

pub returns-clause-joined : goal.returns-clause-joined
returns-clause-joined c = λ entries are.
    let says : (x : ℕ) → source_at c.in_ok-merged.merged x ≡ newest_source c.args.lists x = λ x. search rules in
    ArePieces-joined entries c.args.lists c.in_ok-merged.merged c.in_ok-merged.ensures.runs says are
