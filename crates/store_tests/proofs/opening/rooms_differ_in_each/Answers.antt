use Rattle.std.proofs.Common.{◌≡◌, ◌<◌, ◌≤◌, length, get_or, ap, arith, refl, subst}
use Rattle.std.proofs.lemmas.Option.{slice_get_read}
use Rattle.store_laws.specs.Differ.{RoomsDiffer}
use Rattle.store_memory.specs.MemoryStore.{tree_in}
use Rattle.store_tests.proofs.Apart.{one_more_apart, all_apart}
use Rattle.store_tests.proofs.opening.rooms_differ_in_each.Goals as goal

pub loop-number-init : goal.loop-number-init
loop-number-init c = λ i store below at. absurd (omega (arith, below))

pub loop-number-preserved : goal.loop-number-preserved
loop-number-preserved c =
    let stores = c.args.stores.now in
    let number = c.loop-number.number in
    let store = c.index-as_slice-number.result in
    let e = ap length c.as_slice-number-end.ensures in
    let test = c.loop-number-test.true in
    let below : number < length stores = omega (arith, e, test) in
    let got : store ≡ get_or stores number store = subst (λ xs. store ≡ get_or xs number store) c.as_slice.ensures c.index-as_slice-number.is in
    let at = slice_get_read stores (length stores) number store refl below got in
    let differ : RoomsDiffer (tree_in store) = subst RoomsDiffer c.tree.ensures (c.rooms_differ.ensures c.if-not-rooms_differ.false) in
    one_more_apart stores number store c.loop-number.invariant at differ

pub returns : goal.returns
returns c = λ _.
    let e = ap length c.as_slice-number-end.ensures in
    let past = c.loop-number-test.false in
    let long : length c.args.stores.now ≤ c.loop-number.number = omega (arith, e, past) in
    all_apart c.args.stores.now c.loop-number.number long c.loop-number.invariant
