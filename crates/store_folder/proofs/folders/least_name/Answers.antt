use Rattle.std.proofs.Common.{List, ℕ, ◌≡◌, Ok, None, subst}
use Rattle.std.specs.Prelude.{slice_get}
use Rattle.folder_calls.specs.Calls.{listed_folder, with_call}
use Rattle.store_folder.proofs.Listed.{none_listed}
use Rattle.store_folder.proofs.folders.least_name.Goals as goal

pub returns-in_default-clause-empty : goal.returns-in_default-clause-empty
returns-in_default-clause-empty g c made =
    let told = c.in_ok-names.ensures.told in
    let Lists : List (List ℕ) → Type 0 = λ names. g.C.Calls.log c.names_in.new.calls ≡ with_call (g.C.Calls.log c.args.calls.now) (listed_folder c.args.path.now (Ok names)) in
    let none = subst (λ items. None ≡ slice_get items 0) c.deref.ensures.value c.in_default.ensures.value in
    subst Lists (none_listed told.0 c.in_ok-names.names.items told.2.0 none) told.1
