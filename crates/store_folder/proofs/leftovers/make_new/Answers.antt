use Rattle.std.proofs.Common.{[], ◌∷◌, Bool, Ok, refl, subst, rules}
use Rattle.folder_calls.specs.Calls.{Makes, made_folder}
use Rattle.store_folder.specs.FailedClearing.{not_made, not_cleared}
use Rattle.store_folder.specs.Leftovers.{Clears, never}
use Rattle.store_folder.proofs.Clearing.{tries, tries_in_vain}
use Rattle.store_folder.proofs.Entering.{if_err}
use Rattle.store_folder.proofs.leftovers.make_new.Goals as goal

pub returns-then-not-branch-clause-tried : goal.returns-then-not-branch-clause-tried
returns-then-not-branch-clause-tried g c =
    let Told : Bool → Type 0 = λ is_made. Makes (made_folder c.args.path.now (Ok is_made) ∷ []) (g.C.Calls.log c.args.calls.now) (g.C.Calls.log c.make_folder.new.self) in
    let Cleared : Bool → Type 0 = λ is_gone. Clears c.args.path.now (g.C.Calls.log c.make_folder.new.self) (g.C.Calls.log c.clear.new.calls) is_gone in
    never _ refl (subst Told c.if-branch.false c.in_ok-make_folder.ensures.call) (subst Cleared c.if-not-branch.true c.in_ok-clear.ensures.cleared)

pub returns-clause-tried : goal.returns-clause-tried
returns-clause-tried g c =
    let Told : Bool → Type 0 = λ is_made. Makes (made_folder c.args.path.now (Ok is_made) ∷ []) (g.C.Calls.log c.args.calls.now) (g.C.Calls.log c.make_folder.new.self) in
    let Cleared : Bool → Type 0 = λ is_gone. Clears c.args.path.now (g.C.Calls.log c.make_folder.new.self) (g.C.Calls.log c.clear.new.calls) is_gone in
    tries c.args.path.now _ _ _ _ c.make_folder-2.result (subst Told c.if-branch.false c.in_ok-make_folder.ensures.call) (subst Cleared c.if-not-branch.false c.in_ok-clear.ensures.cleared) c.make_folder-2.ensures.call

pub returns-in_err-make_folder-clause-fails : goal.returns-in_err-make_folder-clause-fails
returns-in_err-make_folder-clause-fails g c = if_err c.from_residual.result c.in_err-make_folder.field-0.0 _ (search rules) (not_made c.in_err-make_folder.field-0.0 c.in_err-make_folder.ensures.failed (search rules))

pub returns-in_err-clear-clause-fails : goal.returns-in_err-clear-clause-fails
returns-in_err-clear-clause-fails g c =
    let Told : Bool → Type 0 = λ is_made. Makes (made_folder c.args.path.now (Ok is_made) ∷ []) (g.C.Calls.log c.args.calls.now) (g.C.Calls.log c.make_folder.new.self) in
    if_err c.from_residual-in_err-clear.result c.in_err-clear.field-0.0 _ (search rules) (not_cleared _ (subst Told c.if-branch.false c.in_ok-make_folder.ensures.call) c.in_err-clear.ensures.fails)

pub returns-clause-fails : goal.returns-clause-fails
returns-clause-fails g c =
    let Told : Bool → Type 0 = λ is_made. Makes (made_folder c.args.path.now (Ok is_made) ∷ []) (g.C.Calls.log c.args.calls.now) (g.C.Calls.log c.make_folder.new.self) in
    let Cleared : Bool → Type 0 = λ is_gone. Clears c.args.path.now (g.C.Calls.log c.make_folder.new.self) (g.C.Calls.log c.clear.new.calls) is_gone in
    tries_in_vain c.args.path.now _ _ _ _ c.make_folder-2.result c.make_folder-2.ensures.failed (subst Told c.if-branch.false c.in_ok-make_folder.ensures.call) (subst Cleared c.if-not-branch.false c.in_ok-clear.ensures.cleared) c.make_folder-2.ensures.call
