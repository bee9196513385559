use Rattle.std.proofs.Common.{◌≡◌, ◌≤◌, ◌<◌, ◌*◌, ◌/◌, ◌%◌, ◌++◌, List, ℕ, length, take, ap, ◌∙◌, arith}
use Rattle.std.proofs.Math.Nat.{mod-lt}
use Rattle.outcomes.proofs.Agreeing.{ramp_of, one_copy_more, last_part}
use Rattle.outcomes.proofs.data.ramp_by.Goals as goal

pub loop-copy-preserved : goal.loop-copy-preserved
loop-copy-preserved c =
    let front = c.args.front.now in
    c.in_ok-extend_from_slice.ensures.items
    ∙ (λ i. c.loop-copy.invariant i ++ c.requires.begins i)
    ∙ one_copy_more c.args.first (length front) c.requires.whole c.loop-copy._copy

pub returns : goal.returns
returns c =
    let front = c.args.front.now in
    let len = c.args.len in
    let all : c.loop-copy._copy ≡ len / length front = omega (arith, c.loop-copy-test.false, c.loop-copy.auto._copy-end) in
    let below : len % length front < length front = mod-lt len c.requires.some in
    let least : len % length front ≤ length front = omega (arith, below) in
    let whole = c.loop-copy.invariant ∙ ap (λ n. ramp_of c.args.first (length front * n)) all in
    let part = ap (λ (xs : List ℕ). take (len % length front) xs) c.requires.begins in
    c.in_ok-extend_from_slice-2.ensures.items ∙ (λ i. whole i ++ part i) ∙ last_part c.args.first (length front) c.requires.whole len least
