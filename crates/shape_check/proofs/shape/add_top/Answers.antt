use Rattle.std.proofs.Common.{rules, ◌≡◌, List, [], Option, subst}
use Rattle.std.specs.Prelude.{ℕ, ◌≢◌}
use Rattle.shape_check.proofs.ShapeLemmas.{ShowsFolder, adds_empty, adds_file, adds_files, folder_foreign}
use Rattle.shape_check.proofs.shape.add_top.Goals as goal

pub returns-then-eq-clause-ok : goal.returns-then-eq-clause-ok
returns-then-eq-clause-ok g c =
    let empty : c.args.top ≡ [] = search rules in
    adds_empty c.args.place.now (g.S.Store.stored c.args.store.now) c.args.top c.at_top.result c.args.paths.now c.check_file.result empty c.at_top.ensures c.check_file.ensures.ok

pub returns-in-Some-clause-ok : goal.returns-in-Some-clause-ok
returns-in-Some-clause-ok g c =
    let other : c.args.top ≢ [] = search rules in
    adds_files c.args.place.now (g.S.Store.stored c.args.store.now) c.args.top c.as_slice.result.now c.args.paths.now c.add_folder.new.paths c.add_folder.result other
    (rw c.as_slice.ensures (subst (λ (found : Option (List (List ℕ))). ShowsFolder (g.S.Store.stored c.args.store.now) c.args.place.now.number c.args.top found) c.in-Some.is c.in_ok-names.ensures.ok)) c.add_folder.ensures.ok

pub returns-in-Some-clause-err : goal.returns-in-Some-clause-err
returns-in-Some-clause-err g c =
    folder_foreign c.args.place.now (g.S.Store.stored c.args.store.now) (g.S.Store.stored c.list.new.store) c.args.top c.as_slice.result.now c.add_folder.result
    (rw c.as_slice.ensures (subst (λ (found : Option (List (List ℕ))). ShowsFolder (g.S.Store.stored c.args.store.now) c.args.place.now.number c.args.top found) c.in-Some.is c.in_ok-names.ensures.ok)) c.add_folder.ensures.err

pub returns-in-None-clause-ok : goal.returns-in-None-clause-ok
returns-in-None-clause-ok g c =
    adds_file c.args.place.now (g.S.Store.stored c.args.store.now) (g.S.Store.stored c.list.new.store) c.args.top c.at_top-in-None.result c.args.paths.now c.check_file-in-None.result
    (subst (λ (found : Option (List (List ℕ))). ShowsFolder (g.S.Store.stored c.args.store.now) c.args.place.now.number c.args.top found) c.in-None.is c.in_ok-names.ensures.ok) c.list.ensures.looked c.at_top-in-None.ensures c.check_file-in-None.ensures.ok
