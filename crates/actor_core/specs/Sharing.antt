-- The shares of a container's droppings, which workers read, or the actor itself.
use Rattle.std.specs.Prelude.{List, [], map, Option, Some, None, Result}
use Rattle.mount_model.specs.Process.{shares}
use Rattle.mount_model.specs.declared.stuck.Stuck.{Stuck}
use Rattle.mount_model.specs.Running.{asking}
use Rattle.mount_model.specs.FlowReplies.{Tries, on_ok}
use Rattle.index_reader.specs.declared.opened.OpenReader.{OpenReader}
use Rattle.index_reader.specs.declared.sharing.Share.{Share}
use Rattle.gather_flow.specs.Shares.{by_itself}
use Rattle.gather_flow.specs.Workers.{all_of}
use Rattle.actor_core.specs.declared.kept.Stop.{Stop}
use Rattle.actor_core.specs.Stopping.{carried}
use Rattle.actor_core.specs.Work.{Work}

-- Workers read the shares, or the actor itself. Where a stop is armed the actor does, since the stop counts its own calls.
abbrev pub shared : Option Stop → List (Tries Share) → (List Share → Tries OpenReader) → (Option Stop → Result OpenReader Stuck → Work) → Work → Work
shared None programs opens next halted =
    shares (map asking programs) (λ results. carried (on_ok opens (all_of results)) None next halted) (carried (by_itself programs [] opens) None next halted)
shared (Some stop) programs opens next halted = carried (by_itself programs [] opens) (Some stop) next halted
