use Rattle.std.proofs.Common.{◌∙◌, subst, Bool, List, ℕ, refl, arith, rules}
use Rattle.folder_calls.specs.declared.failure.Failure.TheVariants.{NoMemory}
use Rattle.store_folder.specs.FailedClearing.{FailsToTry, starved, not_tried, none_free}
use Rattle.store_folder.specs.Leftovers.{Tries}
use Rattle.store_folder.specs.Paths.{building_path}
use Rattle.store_folder.proofs.Clearing.{passes_more}
use Rattle.store_folder.proofs.Entering.{if_err}
use Rattle.store_folder.proofs.leftovers.new_folder.Goals as goal

pub returns-then-branch-clause-taken : goal.returns-then-branch-clause-taken
returns-then-branch-clause-taken g c =
    let TriedAt : List ℕ → Type 0 = λ path. Tries path (g.C.Calls.log c.loop-k.calls) (g.C.Calls.log c.make_new.new.calls) c.in_ok-make_new.field-0 in
    let tried = subst TriedAt (c.as_str.ensures.value ∙ c.in_ok-path.ensures.ok) c.in_ok-make_new.ensures.tried in
    let MadeSo : Bool → Type 0 = λ is_made. Tries (building_path c.args.root.now c.loop-k.k-counter) (g.C.Calls.log c.loop-k.calls) (g.C.Calls.log c.make_new.new.calls) is_made in
    record {
      k = c.loop-k.k-counter;
      passed = _;
      passes = c.loop-k.invariant.passed;
      takes = subst MadeSo c.if-branch.true tried;
      is = c.in_ok-path.ensures.ok;
    }

pub returns-in_err-path-clause-fails : goal.returns-in_err-path-clause-fails
returns-in_err-path-clause-fails g c = if_err c.from_residual.result NoMemory _ (search rules) (starved c.loop-k.k-counter refl c.loop-k.invariant.passed)

pub returns-in_err-make_new-clause-fails : goal.returns-in_err-make_new-clause-fails
returns-in_err-make_new-clause-fails g c =
    let At : List ℕ → Type 0 = λ path. FailsToTry path (g.C.Calls.log c.loop-k.calls) (g.C.Calls.log c.make_new.new.calls) c.in_err-make_new.field-0.0 in
    if_err c.from_residual-in_err-make_new.result c.in_err-make_new.field-0.0 _ (search rules) (not_tried c.loop-k.k-counter _ c.loop-k.invariant.passed (subst At (c.as_str.ensures.value ∙ c.in_ok-path.ensures.ok) c.in_err-make_new.ensures.fails))

pub returns-clause-fails : goal.returns-clause-fails
returns-clause-fails g c = none_free c.loop-k.k-counter (omega arith) (search rules) c.loop-k.invariant.passed

pub loop-k-preserved : goal.loop-k-preserved
loop-k-preserved g c =
    let TriedAt : List ℕ → Type 0 = λ path. Tries path (g.C.Calls.log c.loop-k.calls) (g.C.Calls.log c.make_new.new.calls) c.in_ok-make_new.field-0 in
    let tried = subst TriedAt (c.as_str.ensures.value ∙ c.in_ok-path.ensures.ok) c.in_ok-make_new.ensures.tried in
    let MadeSo : Bool → Type 0 = λ is_made. Tries (building_path c.args.root.now c.loop-k.k-counter) (g.C.Calls.log c.loop-k.calls) (g.C.Calls.log c.make_new.new.calls) is_made in
    record {
      passed = passes_more c.args.root.now c.loop-k.k-counter _ _ _ c.loop-k.invariant.passed (subst MadeSo c.if-branch.false tried);
    }
