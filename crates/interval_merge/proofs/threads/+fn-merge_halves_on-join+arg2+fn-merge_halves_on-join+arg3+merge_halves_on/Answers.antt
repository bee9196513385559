use Rattle.std.proofs.Common.{◌≡◌, ◌/◌, ℕ, List}
use Rattle.plain_file.specs.declared.pieces.Piece.{Piece}
use Rattle.plain_file.specs.Sources.{source_at}
use Rattle.interval_merge.specs.Lists.{newest_source}
use Rattle.interval_merge.proofs.ListsLemmas.{halves, newest_source-halves, told_of}
use Rattle.interval_merge.proofs.threads.+fn-merge_halves_on-join+arg2+fn-merge_halves_on-join+arg3+merge_halves_on.Goals as goal

pub returns-clause-newest : goal.returns-clause-newest
returns-clause-newest g t c =
    let front : List (List Piece) = c.split_off.new.self.items in
    let back : List (List Piece) = c.in_ok-back.back.items in
    let says : List (List Piece) → List Piece → Type 0 = λ lists merged. (x : ℕ) → source_at merged x ≡ newest_source lists x in
    let first : (x : ℕ) → source_at c.in_ok-a.a x ≡ newest_source front x = told_of (says front) c.join-a.result.0 c.in_ok-a.a c.join-a.ensures.first c.in_ok-a.was in
    let second : (x : ℕ) → source_at c.in_ok-b.b x ≡ newest_source back x = told_of (says back) c.join-a.result.1 c.in_ok-b.b c.join-a.ensures.second c.in_ok-b.was in
    newest_source-halves c.args.lists.items front back c.in_ok-a.a c.in_ok-b.b c.in_ok-merged.merged
    (halves c.args.lists.items front back (c.len-2.result / 2) c.in_ok-back.ensures.items c.in_ok-back.ensures.tail) first second c.in_ok-merged.ensures.newer
