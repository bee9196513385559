use Rattle.std.proofs.Common.{[], ◌∷◌, Ok, refl, subst, rules}
use Rattle.folder_calls.specs.declared.reason.Kind.{Kind}
use Rattle.folder_calls.specs.declared.reason.Kind.TheVariants.{Absent, File, Other}
use Rattle.folder_calls.specs.Calls.{Makes, looked_at}
use Rattle.store_folder.specs.FailedClearing.{not_looked}
use Rattle.store_folder.specs.Leftovers.{left}
use Rattle.store_folder.proofs.Clearing.{clears, clears_in_vain}
use Rattle.store_folder.proofs.Entering.{if_err}
use Rattle.store_folder.proofs.leftovers.clear.Goals as goal

pub returns-in-Folder-clause-cleared : goal.returns-in-Folder-clause-cleared
returns-in-Folder-clause-cleared g c =
    let Looks : Kind → Type 0 = λ kind. Makes (looked_at c.args.path.now (Ok kind) ∷ []) (g.C.Calls.log c.args.calls.now) (g.C.Calls.log c.look.new.self) in
    clears c.args.path.now _ _ _ c.empty.result (subst Looks c.in-Folder.is c.in_ok-look.ensures.call) c.empty.ensures.emptied

pub returns-in-Absent-clause-cleared : goal.returns-in-Absent-clause-cleared
returns-in-Absent-clause-cleared g c =
    let Looks : Kind → Type 0 = λ kind. Makes (looked_at c.args.path.now (Ok kind) ∷ []) (g.C.Calls.log c.args.calls.now) (g.C.Calls.log c.look.new.self) in
    left Absent refl refl (subst Looks c.in-Absent.is c.in_ok-look.ensures.call)

pub returns-in-File-clause-cleared : goal.returns-in-File-clause-cleared
returns-in-File-clause-cleared g c =
    let Looks : Kind → Type 0 = λ kind. Makes (looked_at c.args.path.now (Ok kind) ∷ []) (g.C.Calls.log c.args.calls.now) (g.C.Calls.log c.look.new.self) in
    left (File c.in-File.len) refl refl (subst Looks c.in-File.is c.in_ok-look.ensures.call)

pub returns-in-Other-clause-cleared : goal.returns-in-Other-clause-cleared
returns-in-Other-clause-cleared g c =
    let Looks : Kind → Type 0 = λ kind. Makes (looked_at c.args.path.now (Ok kind) ∷ []) (g.C.Calls.log c.args.calls.now) (g.C.Calls.log c.look.new.self) in
    left Other refl refl (subst Looks c.in-Other.is c.in_ok-look.ensures.call)

pub returns-in_err-look-clause-fails : goal.returns-in_err-look-clause-fails
returns-in_err-look-clause-fails g c = if_err c.from_residual.result c.in_err-look.field-0.0 _ (search rules) (not_looked c.in_err-look.field-0.0 c.in_err-look.ensures.failed (search rules))

pub returns-in-Folder-clause-fails : goal.returns-in-Folder-clause-fails
returns-in-Folder-clause-fails g c =
    let Looks : Kind → Type 0 = λ kind. Makes (looked_at c.args.path.now (Ok kind) ∷ []) (g.C.Calls.log c.args.calls.now) (g.C.Calls.log c.look.new.self) in
    clears_in_vain c.args.path.now _ _ _ c.empty.result (subst Looks c.in-Folder.is c.in_ok-look.ensures.call) c.empty.ensures.fails
