use Rattle.std.proofs.Common.{rules, ◌≡◌, List, [], Option, subst}
use Rattle.std.specs.Prelude.{ℕ, ◌≢◌}
use Rattle.shape_check.proofs.MarkLemmas.{ShowsFolder, empty_fine, file_fine, folder_judged, folder_right}
use Rattle.shape_check.proofs.marks.check_top.Goals as goal

pub returns-then-eq-clause-ok : goal.returns-then-eq-clause-ok
returns-then-eq-clause-ok g c =
    let is : c.args.top ≡ [] = search rules in
    empty_fine (g.S.Store.stored c.args.store.now) c.args.number c.args.top c.check_top_file.result is c.check_top_file.ensures.ok

pub returns-in-Some-clause-ok : goal.returns-in-Some-clause-ok
returns-in-Some-clause-ok g c =
    let other : c.args.top ≢ [] = search rules in
    folder_judged (g.S.Store.stored c.args.store.now) c.args.number c.args.top c.in-Some._names c.judge_folder.result other
    (subst (λ (found : Option (List (List ℕ))). ShowsFolder (g.S.Store.stored c.args.store.now) c.args.number c.args.top found) c.in-Some.is c.in_ok-_names.ensures.ok) c.judge_folder.ensures.ok

pub returns-in-Some-clause-err : goal.returns-in-Some-clause-err
returns-in-Some-clause-err g c =
    folder_right (g.S.Store.stored c.args.store.now) (g.S.Store.stored c.list.new.store) c.args.number c.args.top c.in-Some._names c.judge_folder.result
    (subst (λ (found : Option (List (List ℕ))). ShowsFolder (g.S.Store.stored c.args.store.now) c.args.number c.args.top found) c.in-Some.is c.in_ok-_names.ensures.ok) c.judge_folder.ensures.err

pub returns-in-None-clause-ok : goal.returns-in-None-clause-ok
returns-in-None-clause-ok g c =
    file_fine (g.S.Store.stored c.args.store.now) (g.S.Store.stored c.list.new.store) c.args.number c.args.top c.check_top_file-in-None.result
    (subst (λ (found : Option (List (List ℕ))). ShowsFolder (g.S.Store.stored c.args.store.now) c.args.number c.args.top found) c.in-None.is c.in_ok-_names.ensures.ok) c.list.ensures.looked c.check_top_file-in-None.ensures.ok
