use Rattle.std.proofs.Common.{◌≡◌, Some}
use Rattle.mount_model.specs.declared.call.Call.{Call}
use Rattle.mount_model.specs.Standing.{next_of}
use Rattle.mount_model.specs.Composed.{calling}
use Rattle.gather_flow.specs.Gathering.{gather_rest}
use Rattle.refresh_index.specs.Refreshing.{if_gathered}
use Rattle.mount_model.proofs.Flows.Composing.{given_again, given_next, given_rest}
use Rattle.refresh_index.proofs.giving.give_call.Goals as goal

pub returns-clause-call : goal.returns-clause-call
returns-clause-call c = given_next (if_gathered c.args.held) c.args.call (gather_rest c.args.gathering) c.requires.0

pub returns-clause-owed : goal.returns-clause-owed
returns-clause-owed c = c.requires.1

pub returns-clause-rest : goal.returns-clause-rest
returns-clause-rest c = given_rest (if_gathered c.args.held) c.args.call (gather_rest c.args.gathering)

pub returns-clause-again : goal.returns-clause-again
returns-clause-again c = given_again (if_gathered c.args.held) (λ (asked : Call). next_of (calling c.args.call (gather_rest c.args.gathering) (if_gathered c.args.held)) ≡ Some asked) (gather_rest c.args.gathering) c.requires.0

pub returns-clause-underway : goal.returns-clause-underway
returns-clause-underway c = (c.requires.0, tt)
