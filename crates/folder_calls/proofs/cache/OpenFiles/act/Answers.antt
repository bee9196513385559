use Rattle.std.proofs.Common.{refl, sym}
use Rattle.store_api.specs.Step.{step_of}
use Rattle.folder_calls.proofs.UsedLast.{used_last, acted, failed}
use Rattle.folder_calls.proofs.cache.OpenFiles.act.Goals as goal

pub returns-in-Ok-clause-acts : goal.returns-in-Ok-clause-acts
returns-in-Ok-clause-acts g c =
    let last = c.act.new.self in
    let new = used_last c.args.self.now c.args.key.now last in
    acted c.args.self.now new c.args.key.now c.in-Some.held.now (g.C.Calls.log c.args.calls.now) (g.C.Calls.log c.act.new.calls) (step_of c.args.step.now) (sym c.in-Some.ensures.value) c.in-Ok.answer last c.in-Ok.ensures.acts c.in-Ok.ensures.after refl

pub returns-in-Err-clause-acts : goal.returns-in-Err-clause-acts
returns-in-Err-clause-acts g c =
    let last = c.act.new.self in
    let between = used_last c.args.self.now c.args.key.now last in
    failed c.args.self.now c.take.new.self c.args.key.now c.in-Some.held.now (g.C.Calls.log c.args.calls.now) (g.C.Calls.log c.act.new.calls) (step_of c.args.step.now) (sym c.in-Some.ensures.value) c.in-Err.failure between last c.in-Err.ensures.acts refl c.take.ensures.rest c.take.ensures.others
