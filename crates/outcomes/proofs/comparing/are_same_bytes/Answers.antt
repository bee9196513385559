use Rattle.std.proofs.Common.{◌≡◌, ◌-◌, ◌++◌, List, ℕ, length, take, drop, take-add, sym, ap, ◌∙◌, arith}
use Rattle.std.proofs.lemmas.List.{length-drop, take_all, take-append-drop}
use Rattle.std.specs.Cmp.Lexicographic.{bytes_decides}
use Rattle.outcomes.proofs.comparing.are_same_bytes.Goals as goal

pub loop-at-preserved : goal.loop-at-preserved
loop-at-preserved c =
    let a = c.args.a.now in
    let b = c.args.b.now in
    let at = c.loop-at.at in
    let next = c.are_same_bytes_at.ensures.0 c.if-not-are_same_bytes_at.false in
    (omega (arith, c.loop-at-test.true, c.loop-at.invariant.0), take-add at 64 a ∙ (λ i. c.loop-at.invariant.1 i ++ next i) ∙ sym (take-add at 64 b))

whole : (xs : List ℕ) (at : ℕ) → take at xs ++ take (length xs - at) (drop at xs) ≡ xs
whole xs at = ap (λ ys. take at xs ++ ys) (take_all (length xs - at) (drop at xs) (omega (arith, length-drop at xs))) ∙ take-append-drop at xs

pub returns : goal.returns
returns c =
    let a = c.args.a.now in
    let b = c.args.b.now in
    let at = c.loop-at.at in
    let decided = bytes_decides (take (length a - at) (drop at a)) (take (length b - at) (drop at b)) in (
      λ told. sym (whole a at) ∙ (λ i. c.loop-at.invariant.1 i ++ decided.0 (sym c.eq.ensures ∙ told) i) ∙ whole b at,
      λ same. c.eq.ensures ∙ decided.1 (λ i. take (length (same i) - at) (drop at (same i))),
    )
