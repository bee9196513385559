use Rattle.std.proofs.Common.{List, ℕ, subst, rules}
use Rattle.store_folder.specs.FailedClearing.{FailsToClearItem, not_listed, not_cleared, not_removed}
use Rattle.store_folder.specs.ForEach.{ForEach, FailsAtOne}
use Rattle.store_folder.specs.Leftovers.{ClearsItem}
use Rattle.store_folder.proofs.Entering.{if_err}
use Rattle.store_folder.proofs.leftovers.empty.Goals as goal

pub returns-in_err-names-clause-fails : goal.returns-in_err-names-clause-fails
returns-in_err-names-clause-fails g c = if_err c.from_residual.result c.in_err-names.field-0.0 _ (search rules) (not_listed (search rules))

pub returns-in_err-cleared-clause-fails : goal.returns-in_err-cleared-clause-fails
returns-in_err-cleared-clause-fails g c =
    let Among : List (List ℕ) → Type 0 = λ names. FailsAtOne (ClearsItem c.args.path.now) (FailsToClearItem c.args.path.now c.in_err-cleared.field-0.0) names (g.C.Calls.log c.list.new.self) (g.C.Calls.log c.clear_items-cleared.new.calls) in
    if_err c.from_residual-in_err-cleared.result c.in_err-cleared.field-0.0 _ (search rules) (not_cleared c.in_ok-names.names (g.C.Calls.log c.list.new.self) (search rules) (subst Among c.as_slice.ensures c.in_err-cleared.ensures.fails))

pub returns-in_err-end-clause-fails : goal.returns-in_err-end-clause-fails
returns-in_err-end-clause-fails g c =
    let Made : List (List ℕ) → Type 0 = λ names. ForEach (ClearsItem c.args.path.now) names (g.C.Calls.log c.list.new.self) (g.C.Calls.log c.clear_items-cleared.new.calls) in
    if_err c.from_residual-in_err-end.result c.in_err-end.field-0.0 _ (search rules) (not_removed c.in_ok-names.names (g.C.Calls.log c.list.new.self) (g.C.Calls.log c.clear_items-cleared.new.calls) c.in_err-end.field-0.0 c.in_err-end.ensures.failed (search rules) (subst Made c.as_slice.ensures c.in_ok-cleared.ensures.cleared) (search rules))
