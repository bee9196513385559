use Rattle.std.proofs.Common.{rules, ◌≡◌, ℕ, Option, None, subst}
use Rattle.std.specs.Prelude.{◌≢◌}
use Rattle.store_api.specs.Names.{marks_name}
use Rattle.tree_check.specs.Rooms.{IsNamed}
use Rattle.shape_check.proofs.Facts.{looked_same}
use Rattle.tree_check.proofs.RoomLemmas.{ShowsRoom, any_fails, container_named, container_named_fails, marks_fail, marks_told, no_room_named}
use Rattle.tree_check.proofs.checking.check_named.Goals as goal

pub returns-in_err-number-clause-err : goal.returns-in_err-number-clause-err
returns-in_err-number-clause-err g c =
    let old = g.S.Store.stored c.args.store.now in
    any_fails (IsNamed c.args.marks c.args.name) old old (g.S.Store.stored c.find_room.new.store) c.from_residual.result (looked_same old) (search rules)

pub returns-in_default-clause-err : goal.returns-in_default-clause-err
returns-in_default-clause-err g c =
    let none : c.in_ok-number.field-0 ≡ None = search rules in
    no_room_named c.args.marks c.args.name (g.S.Store.stored c.args.store.now) (g.S.Store.stored c.find_room.new.store)
    (subst (λ (found : Option ℕ). ShowsRoom (g.S.Store.stored c.args.store.now) c.args.name found) none c.in_ok-number.ensures.ok)

pub returns-then-eq-clause-ok : goal.returns-then-eq-clause-ok
returns-then-eq-clause-ok g c =
    let named : c.args.name ≡ marks_name = search rules in
    marks_told c.args.marks c.args.name c.in-Some.number (g.S.Store.stored c.args.store.now) (g.S.Store.stored c.find_room.new.store)
    (subst (λ (found : Option ℕ). ShowsRoom (g.S.Store.stored c.args.store.now) c.args.name found) c.in-Some.is c.in_ok-number.ensures.ok) c.find_room.ensures.looked c.check_marks_room.result named c.check_marks_room.ensures.ok

pub returns-then-eq-clause-err : goal.returns-then-eq-clause-err
returns-then-eq-clause-err g c =
    let named : c.args.name ≡ marks_name = search rules in
    marks_fail c.args.marks c.args.name c.in-Some.number (g.S.Store.stored c.args.store.now) (g.S.Store.stored c.find_room.new.store)
    (subst (λ (found : Option ℕ). ShowsRoom (g.S.Store.stored c.args.store.now) c.args.name found) c.in-Some.is c.in_ok-number.ensures.ok) c.find_room.ensures.looked (g.S.Store.stored c.check_marks_room.new.store) c.check_marks_room.result named c.check_marks_room.ensures.err

pub returns-else-eq-clause-ok : goal.returns-else-eq-clause-ok
returns-else-eq-clause-ok g c =
    let other : c.args.name ≢ marks_name = search rules in
    container_named c.args.marks c.args.name c.in-Some.number (g.S.Store.stored c.args.store.now) (g.S.Store.stored c.find_room.new.store)
    (subst (λ (found : Option ℕ). ShowsRoom (g.S.Store.stored c.args.store.now) c.args.name found) c.in-Some.is c.in_ok-number.ensures.ok) c.find_room.ensures.looked c.check_container.result other c.check_container.ensures.ok

pub returns-else-eq-clause-err : goal.returns-else-eq-clause-err
returns-else-eq-clause-err g c =
    let other : c.args.name ≢ marks_name = search rules in
    container_named_fails c.args.marks c.args.name c.in-Some.number (g.S.Store.stored c.args.store.now) (g.S.Store.stored c.find_room.new.store)
    (subst (λ (found : Option ℕ). ShowsRoom (g.S.Store.stored c.args.store.now) c.args.name found) c.in-Some.is c.in_ok-number.ensures.ok) c.find_room.ensures.looked (g.S.Store.stored c.check_container.new.store) c.check_container.result other c.check_container.ensures.err
