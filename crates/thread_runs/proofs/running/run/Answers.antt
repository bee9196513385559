use Rattle.std.proofs.Common.{sym, ◌∙◌}
use Rattle.std.proofs.lemmas.List.{length-map}
use Rattle.run_core.specs.Cast.{statements_in}
use Rattle.thread_runs.specs.declared.told.Told.{Told}
use Rattle.thread_runs.specs.Closing.{HasRun}
use Rattle.thread_runs.specs.Collecting.{lines_in, IsOkWith, ArePut}
use Rattle.thread_runs.proofs.Closing.{ok_also}
use Rattle.thread_runs.proofs.Handing.{ok_both}
use Rattle.thread_runs.proofs.RightRuns.{have_lines, told_as_many, is_right, has_text, has_cause}
use Rattle.thread_runs.proofs.running.run.Goals as goal

pub in_order-requires-clause-enough : goal.in_order-requires-clause-enough
in_order-requires-clause-enough g c =
    let script = c.args.script.now in
    let after = c.run_all-mount.result.0 in
    ok_also c.run_all-mount.result.1 (λ told. HasRun script.actors script.phases c.args.mount (lines_in told.items) after) _
    (λ told run. (
      sym (length-map told.items (λ (t : Told). t.lines.items)) ∙ told_as_many script c.args.mount (lines_in told.items) after run,
      have_lines script c.args.mount (lines_in told.items) after run,
    ))
    c.run_all-mount.ensures.run

pub returns-clause-right : goal.returns-clause-right
returns-clause-right g c =
    let script = c.args.script.now in
    let after = c.run_all-mount.result.0 in
    ok_also c.in_order.result (λ lines. IsOkWith c.run_all-mount.result.1 (λ told. ArePut (statements_in script.phases) (lines_in told.items) lines)) _
    (λ lines put.
    let b = ok_both c.run_all-mount.result.1 (λ told. HasRun script.actors script.phases c.args.mount (lines_in told.items) after) (λ told. ArePut (statements_in script.phases) (lines_in told.items) lines) c.run_all-mount.ensures.run put in
    is_right script c.args.mount (lines_in b.0.items) lines after b.1 b.2)
    c.in_order.ensures

pub returns-clause-text : goal.returns-clause-text
returns-clause-text g c =
    let script = c.args.script.now in
    let after = c.run_all-mount.result.0 in
    ok_also c.in_order.result (λ lines. IsOkWith c.run_all-mount.result.1 (λ told. ArePut (statements_in script.phases) (lines_in told.items) lines)) _
    (λ lines put.
    let b = ok_both c.run_all-mount.result.1 (λ told. HasRun script.actors script.phases c.args.mount (lines_in told.items) after) (λ told. ArePut (statements_in script.phases) (lines_in told.items) lines) c.run_all-mount.ensures.run put in
    has_text script c.args.mount (lines_in b.0.items) lines after c.requires.playable b.1 b.2)
    c.in_order.ensures

pub returns-clause-cause : goal.returns-clause-cause
returns-clause-cause g c =
    let script = c.args.script.now in
    let after = c.run_all-mount.result.0 in
    ok_also c.in_order.result (λ lines. IsOkWith c.run_all-mount.result.1 (λ told. ArePut (statements_in script.phases) (lines_in told.items) lines)) _
    (λ lines put.
    let b = ok_both c.run_all-mount.result.1 (λ told. HasRun script.actors script.phases c.args.mount (lines_in told.items) after) (λ told. ArePut (statements_in script.phases) (lines_in told.items) lines) c.run_all-mount.ensures.run put in
    has_cause script c.args.mount (lines_in b.0.items) lines after c.requires.playable b.1 b.2)
    c.in_order.ensures
