use Rattle.std.proofs.Common.{◌≡◌, Some}
use Rattle.mount_model.specs.declared.call.Call.{Call}
use Rattle.mount_model.specs.Standing.{next_of}
use Rattle.mount_model.specs.Composed.{calling}
use Rattle.mount_model.specs.FlowReplies.{on_ok}
use Rattle.gather_flow.specs.Gathering.{gather_rest}
use Rattle.flatten_core.specs.Flattening.{installs_gathered}
use Rattle.mount_model.proofs.Flows.Composing.{given_again, given_next, given_rest}
use Rattle.flatten_core.proofs.giving.give_call.Goals as goal

pub returns-clause-call : goal.returns-clause-call
returns-clause-call c = given_next (on_ok (installs_gathered c.args.started)) c.args.call (gather_rest c.args.gathering) c.requires.0

pub returns-clause-owed : goal.returns-clause-owed
returns-clause-owed c = c.requires.1

pub returns-clause-rest : goal.returns-clause-rest
returns-clause-rest c = given_rest (on_ok (installs_gathered c.args.started)) c.args.call (gather_rest c.args.gathering)

pub returns-clause-again : goal.returns-clause-again
returns-clause-again c = given_again (on_ok (installs_gathered c.args.started)) (λ (asked : Call). next_of (calling c.args.call (gather_rest c.args.gathering) (on_ok (installs_gathered c.args.started))) ≡ Some asked) (gather_rest c.args.gathering) c.requires.0

pub returns-clause-underway : goal.returns-clause-underway
returns-clause-underway c = (c.requires.0, tt)
