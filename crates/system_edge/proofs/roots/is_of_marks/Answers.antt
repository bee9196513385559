use Rattle.std.proofs.Common.{◌≡◌, ◌-◌, inl, inr, true, false, length, take, get_or, refl, ap, ◌∙◌, subst, arith}
use Rattle.system_edge.specs.Roots.{EndsInMarks}
use Rattle.system_edge.proofs.Holders.{SoFar, all_apart, lies_in}
use Rattle.system_edge.proofs.roots.is_of_marks.Goals as goal

pub returns-then-ends_in_marks-2 : goal.returns-then-ends_in_marks-2
returns-then-ends_in_marks-2 c =
    let path = c.args.path.now in
    let place = c.loop-place.place in
    let slash : get_or path place 0 ≡ 47 = subst (λ l. get_or l place 0 ≡ 47) c.as_bytes.ensures.value c.if-as_bytes-place-eq47.true in
    let all : place - 0 ≡ place = omega arith in
    let front = c.range.ensures.value ∙ ap (λ n. take n path) all in
    (λ _. inr (take place path, lies_in path place c.loop-place-test.true slash, subst EndsInMarks front (c.if-ends_in_marks-2.ensures.0 refl)), λ _. refl)

pub returns : goal.returns
returns c =
    let path = c.args.path.now in
    let whole : c.loop-place.place ≡ length path = omega (arith, c.loop-place-test.false, c.loop-place.auto.place-end) in
    let so_far : SoFar (λ holder. ¬ EndsInMarks holder) path (length path) = subst (λ n. SoFar (λ holder. ¬ EndsInMarks holder) path n) whole c.loop-place.invariant in (
      λ is. (let no : ⊥ = cc in absurd no),
      λ of. elim of as (λ _. false ≡ true) [
        | inl ends ↦ c.if-ends_in_marks.ensures.1 ends
        | inr lies ↦ absurd (all_apart (λ holder. ¬ EndsInMarks holder) path so_far lies.0 lies.1 lies.2)
      ],
    )
