use Rattle.std.proofs.Common.{◌≡◌, ◌<◌, ◌≤◌, length, get_or, Some, ap, sym, ◌∙◌, subst, arith, refl}
use Rattle.std.proofs.lemmas.Option.{slice_get_read}
use Rattle.store_api.specs.declared.tree.Room.{Room}
use Rattle.store_api.specs.Effect.{number_of}
use Rattle.store_tests.proofs.Apart.{one_more_first, all_first}
use Rattle.store_tests.proofs.opening.rooms_differ.Goals as goal

pub loop-number-init : goal.loop-number-init
loop-number-init c = λ i room below at. absurd (omega (arith, below))

pub loop-number-preserved : goal.loop-number-preserved
loop-number-preserved c =
    let rooms = c.args.tree.now.rooms in
    let number = c.loop-number.number in
    let room = c.index-as_slice-number.result in
    let e = ap length c.as_slice-number-end.ensures in
    let test = c.loop-number-test.true in
    let below : number < length rooms = omega (arith, e, test) in
    let got : room ≡ get_or rooms number room = subst (λ xs. room ≡ get_or xs number room) c.as_slice.ensures c.index-as_slice-number.is in
    let at = slice_get_read rooms (length rooms) number room refl below got in
    let is : number_of c.args.tree.now room.name ≡ Some number =
    ap (λ (r : Room). number_of c.args.tree.now r.name) c.index-as_slice-number.is ∙ sym c.number_of.ensures ∙ c.in-Some.is ∙ ap Some c.if-first-number.false in
    one_more_first c.args.tree.now number room c.loop-number.invariant at is

pub returns : goal.returns
returns c = λ _.
    let e = ap length c.as_slice-number-end.ensures in
    let past = c.loop-number-test.false in
    let long : length c.args.tree.now.rooms ≤ c.loop-number.number = omega (arith, e, past) in
    all_first c.args.tree.now c.loop-number.number long c.loop-number.invariant
