-- Where the stages of a read stand in its program.
use Rattle.std.specs.Prelude.{ℕ, ◌+◌, List, ◌∷◌, length, Result}
use Rattle.mount_model.specs.declared.stuck.Stuck.{Stuck}
use Rattle.mount_model.specs.Program.{done}
use Rattle.mount_model.specs.Standing.{Standing, ready}
use Rattle.mount_model.specs.FlowReplies.{Tries}
use Rattle.mount_model.specs.declared.call.Call.{Call}
use Rattle.mount_model.specs.declared.reply.Reply.{Reply}
use Rattle.index_reader.specs.declared.placing.Placed.{Placed}
use Rattle.index_reader.specs.declared.placing.Placed.TheVariants.{Logged}
use Rattle.index_reader.specs.declared.reading.Reading.{Reading}
use Rattle.index_reader.specs.declared.reading.Stage.{Stage}
use Rattle.index_reader.specs.declared.reading.Stage.TheVariants.{Asking, Ended}
use Rattle.index_reader.specs.Reading.{spells}

abbrev pub part_left : ℕ → List Placed → List ℕ → Stage → Tries (List ℕ)
part_left room rest sofar (Asking place) = spells room (Logged place ∷ rest) sofar
part_left room rest sofar (Ended result) = done result

abbrev pub part_calls : List Placed → Stage → ℕ
part_calls rest (Asking place) = length rest + 1
part_calls rest (Ended result) = 0

abbrev pub read_standing : Reading → Standing Call Reply (Result (List ℕ) Stuck)
read_standing flow = ready (part_left flow.room flow.rest flow.sofar flow.stage)

abbrev pub read_left : Reading → ℕ
read_left flow = part_calls flow.rest flow.stage
