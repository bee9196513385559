use Rattle.std.proofs.Common.{◌<◌, ◌≤◌, ◌-◌, ℕ, List, sym, subst, length-drop}
use Rattle.index_entry.specs.Spelling.{number_in}
use Rattle.index_reader.proofs.Indices.PackedLemmas.{Seeking, sought_here, sought_further}
use Rattle.index_reader.proofs.packed.run_of.Goals as goal

pub returns-then-number-count-clause-value : goal.returns-then-number-count-clause-value
returns-then-number-count-clause-value c =
    let lt : c.loop-left.number < number_in 24 c.loop-left.rest.now = subst (λ n. c.loop-left.number < n) c.number_at-count.ensures c.if-number-count.true in
    sym (sought_here c.args.number c.args.runs c.loop-left.left c.loop-left.number c.args.bytes.now c.loop-left.rest.now c.loop-left.invariant c.loop-left-test.true lt)

pub loop-left-preserved : goal.loop-left-preserved
loop-left-preserved c =
    let rest = c.loop-left.rest.now in
    let ge : number_in 24 rest ≤ c.loop-left.number = subst (λ n. n ≤ c.loop-left.number) c.number_at-count.ensures c.if-number-count.false in
    subst (λ n. Seeking c.args.number c.args.runs c.args.bytes.now (c.loop-left.left - 1) (c.loop-left.number - n) c.from-rest.result.now) (sym c.number_at-count.ensures)
    (subst (λ (r : List ℕ). Seeking c.args.number c.args.runs c.args.bytes.now (c.loop-left.left - 1) (c.loop-left.number - number_in 24 rest) r) (sym c.from-rest.ensures)
    (sought_further c.args.number c.args.runs c.loop-left.left c.loop-left.number c.args.bytes.now rest c.loop-left.invariant c.loop-left-test.true ge (length-drop 64 rest)))
