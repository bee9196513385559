use Rattle.std.proofs.Common.{◌≡◌, true, sym, subst, List}
use Rattle.turn_object.specs.Pass.{start_of, front}
use Rattle.script_lang.specs.declared.line.Line.{Line}
use Rattle.thread_runs.specs.Closing.{HasRun}
use Rattle.thread_runs.specs.Collecting.{lines_in}
use Rattle.thread_runs.specs.Running.{Leaves}
use Rattle.thread_runs.proofs.Beginning.{has_begun}
use Rattle.thread_runs.proofs.Closing.{has_run, leads_on, ok_also}
use Rattle.thread_runs.proofs.leaving.finish.Goals as goal

pub returns-clause-goes_on : goal.returns-clause-goes_on
returns-clause-goes_on g c = leads_on (start_of c.args.turn) (front c.leave_all-told.new.main) c.in-Ok.mount c.close.ensures.legal c.in-Ok.ensures.object

pub returns-clause-begins : goal.returns-clause-begins
returns-clause-begins g c = λ actors phases left between.
    let all = c.leave_all-told.ensures.left in
    has_begun c.args.turn actors phases left c.args.main c.leave_all-told.new.main c.args.players.items all.0 all.1 c.in-Ok.mount between all.2 c.close.ensures.legal c.close.ensures.whole c.close.ensures.apart c.in-Ok.ensures.object

pub returns-clause-run : goal.returns-clause-run
returns-clause-run g c =
    let left = c.leave_all-told.ensures.left in
    ok_also c.leave_all-told.result (λ told. (lines_in told.items ≡ left.0) × (left.1 ≡ true)) _
    (λ all told actors phases between.
    let l = subst (λ z. Leaves c.args.turn c.args.main c.leave_all-told.new.main c.args.players.items left.0 z) told.1 left.2 in
    let run = has_run c.args.turn actors phases c.args.main c.leave_all-told.new.main c.args.players.items left.0 c.in-Ok.mount between l c.close.ensures.legal c.close.ensures.whole c.close.ensures.apart c.in-Ok.ensures.object in
    subst (λ (z : List (List Line)). HasRun actors phases (start_of c.args.turn) z c.in-Ok.mount) (sym told.0) run)
    left.3
