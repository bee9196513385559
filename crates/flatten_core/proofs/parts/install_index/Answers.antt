use Rattle.std.proofs.Common.{ap, ◌∙◌}
use Rattle.std.specs.Prelude.{Result}
use Rattle.mount_model.specs.declared.stuck.Stuck.{Stuck}
use Rattle.mount_model.specs.Program.{followed_by}
use Rattle.mount_model.specs.Standing.{Standing, ready, rest_of}
use Rattle.mount_model.specs.Composed.{is_awaiting, then_on}
use Rattle.mount_model.specs.declared.call.Call.{Call}
use Rattle.mount_model.specs.declared.reply.Reply.{Reply}
use Rattle.flat_format.specs.Spelling.{flat_spelling}
use Rattle.flatten_core.specs.declared.flattening.Flattened.{Flattened}
use Rattle.flatten_core.specs.Flattening.{tells}
use Rattle.flatten_core.specs.Installing.{install_program}
use Rattle.flatten_core.proofs.parts.install_index.Goals as goal

pub returns-clause-goes_on : goal.returns-clause-goes_on
returns-clause-goes_on c =
    ap (λ (s : Standing Call Reply (Result (Unit {0}) Stuck)). then_on s (tells c.in_ok-told.told)) c.in_ok-stage.ensures.standing
    ∙ ap (λ (t : Flattened). ready (followed_by (install_program c.args.started.room c.args.started.flat c.args.index.now.covers (flat_spelling c.args.index.now)) (tells t))) c.in_ok-told.ensures

pub returns-clause-underway : goal.returns-clause-underway
returns-clause-underway c = (c.in_ok-stage.ensures.underway, ap (λ (s : Standing Call Reply (Result (Unit {0}) Stuck)). is_awaiting (rest_of s)) c.in_ok-stage.ensures.standing)
