use Rattle.std.proofs.Common.{◌≡◌, ◌≤◌, List, ℕ, map, take, sym, ap, ◌∙◌, arith}
use Rattle.std.specs.List.{range_with_len}
use Rattle.std.proofs.lemmas.List.FromFn.{take-map-range_with_len}
use Rattle.outcomes.specs.Data.{ramp_byte, first_difference}
use Rattle.outcomes.proofs.Agreeing.{ramp_of, ramp_agrees}
use Rattle.outcomes.proofs.data.begins_with_ramp.Goals as goal

pub returns-then-repeats : goal.returns-then-repeats
returns-then-repeats c = λ told.
    let first = c.args.first in
    let few = c.min.result in
    let begins = ap (λ (xs : List ℕ). take few xs) c.period-beginning.ensures ∙ take-map-range_with_len (ramp_byte first) 0 256 few (omega (arith, c.min.ensures)) ∙ ap (λ n. ramp_of first n) c.min.ensures in
    ramp_agrees c.args.len first c.args.found.now (c.repeats.ensures c.if-repeats.true)
    (ap (λ wanted. first_difference 0 wanted c.args.found.now) (sym begins) ∙ c.begins_with.ensures told)
