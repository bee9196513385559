use Rattle.std.proofs.Common.{◌≡◌, ◌<◌, List, length, sym, subst, ap, ◌∙◌}
use Rattle.std.specs.Prelude.{All}
use Rattle.script_lang.specs.declared.script.Numbered.{Numbered}
use Rattle.script_lang.specs.declared.script.Phase.{Phase}
use Rattle.run_core.specs.Cast.{statements_in}
use Rattle.thread_runs.specs.declared.told.Told.{Told}
use Rattle.thread_runs.specs.Collecting.{lines_in, HaveLines, ArePut}
use Rattle.thread_runs.proofs.Closing.{ok_also}
use Rattle.thread_runs.proofs.Handing.{ok_is, ok_with}
use Rattle.thread_runs.proofs.RightRuns.{all_there}
use Rattle.thread_runs.proofs.running.in_order.Goals as goal

pub collect-requires-clause-there : goal.collect-requires-clause-there
collect-requires-clause-there c =
    let given = ok_is c.args.told (λ all. (length all.items ≡ length c.args.script.now.actors) × HaveLines (statements_in c.args.script.now.phases) (lines_in all.items)) c.in_ok-all.all c.in_ok-all.was c.requires.enough in
    let count = length c.as_mut_slice.result.now in
    let many : count ≡ length c.args.script.now.actors = ap length c.as_mut_slice.ensures.value ∙ given.0 in
    subst (λ (z : List Phase). All (λ (phase : Phase). All (λ (s : Numbered). s.actor < count) phase.statements) z) (sym c.as_slice.ensures) (all_there c.args.script.now count c.requires.playable many)

pub collect-requires-clause-enough : goal.collect-requires-clause-enough
collect-requires-clause-enough c =
    let given = ok_is c.args.told (λ all. (length all.items ≡ length c.args.script.now.actors) × HaveLines (statements_in c.args.script.now.phases) (lines_in all.items)) c.in_ok-all.all c.in_ok-all.was c.requires.enough in
    subst (λ (z : List Phase). HaveLines (statements_in z) (lines_in c.as_mut_slice.result.now)) (sym c.as_slice.ensures)
    (subst (λ (z : List Told). HaveLines (statements_in c.args.script.now.phases) (lines_in z)) (sym c.as_mut_slice.ensures.value) given.1)

pub returns : goal.returns
returns c =
    ok_also c.collect.result (λ lines. ArePut (statements_in c.as_slice.result.now) (lines_in c.as_mut_slice.result.now) lines) _
    (λ lines put.
    ok_with c.args.told (λ all. ArePut (statements_in c.args.script.now.phases) (lines_in all.items) lines) c.in_ok-all.all c.in_ok-all.was
    (subst (λ (z : List Phase). ArePut (statements_in z) (lines_in c.in_ok-all.all.items) lines) c.as_slice.ensures
    (subst (λ (z : List Told). ArePut (statements_in c.as_slice.result.now) (lines_in z) lines) c.as_mut_slice.ensures.value put)))
    c.collect.ensures
