use Rattle.std.proofs.Common.{◌≡◌, inl, inr, true, false, not, length, take, refl, ap, subst, arith}
use Rattle.system_edge.specs.Roots.{IsNoContainer}
use Rattle.system_edge.proofs.Holders.{SoFar, all_apart, denied_so, lies_in}
use Rattle.system_edge.proofs.roots.check_path.Goals as goal

pub returns-in-Err-clause-denied : goal.returns-in-Err-clause-denied
returns-in-Err-clause-denied g c = denied_so (g.L.Looks.told c.args.looks.now) c.args.path.now c.args.path.now c.in-Err.why (inl refl) c.in-Err.ensures.unseen

pub returns-in-Ok-true-is_held_at-clause-denied : goal.returns-in-Ok-true-is_held_at-clause-denied
returns-in-Ok-true-is_held_at-clause-denied g c =
    let path = c.args.path.now in
    let place = c.loop-place.place in
    let held = c.in-Ok-true-is_held_at.ensures.held c.in-Ok-true-is_held_at.field-0-test in
    (take place path, lies_in path place c.loop-place-test.true held.0, held.1)

pub returns-in-Err-is_held_at-clause-denied : goal.returns-in-Err-is_held_at-clause-denied
returns-in-Err-is_held_at-clause-denied g c =
    let path = c.args.path.now in
    let place = c.loop-place.place in
    let unseen = c.in-Err-is_held_at.ensures.unseen in
    denied_so (g.L.Looks.told c.args.looks.now) path (take place path) c.in-Err-is_held_at.why (inr (lies_in path place c.loop-place-test.true unseen.0)) unseen.1

pub returns-clause-free : goal.returns-clause-free
returns-clause-free g c =
    let path = c.args.path.now in
    let told = g.L.Looks.told c.args.looks.now in
    let whole : c.loop-place.place ≡ length path = omega (arith, c.loop-place-test.false, c.loop-place.auto.place-end) in
    let so_far : SoFar (IsNoContainer told) path (length path) = subst (λ n. SoFar (IsNoContainer told) path n) whole c.loop-place.invariant in
    record { no_marks = λ of. (let told_so : false ≡ true = c.if-is_of_marks.ensures.1 of in let no : ⊥ = cc in no); no_container = c.in-Ok-false.ensures.none (ap not c.in-Ok-false.field-0-test); apart = all_apart (IsNoContainer told) path so_far }
