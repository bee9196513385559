-- Where the machines stand in their programs: what follows the reply to the call that is out.
use Rattle.std.specs.Prelude.{ℕ, ◌+◌, ◌*◌, ◌^◌, [], ◌∷◌, ◌++◌, length}
use Rattle.mount_model.specs.Program.{done, ask, followed_by}
use Rattle.mount_model.specs.FlowListed.{told_by}
use Rattle.mount_model.specs.FlowReplies.{Tries, given, on_ok, trouble}
use Rattle.mount_model.specs.Standing.{replied, rest_of}
use Rattle.mount_model.specs.declared.reply.Reply.{Reply}
use Rattle.mount_model.specs.Paths.{log_path, metadata}
use Rattle.mount_model.specs.Step.{OwedBy}
use Rattle.index_reader.specs.OpenStages.{open_calls_left, open_standing}
use Rattle.index_reader.specs.Replies.{log_length_in}
use Rattle.index_reader.specs.Stages.{tail_calls, tail_standing}
use Rattle.index_reader.specs.TruncStages.{trunc_left, trunc_standing}
use Rattle.drain_read.specs.declared.container.ContainerRead.{ContainerRead}
use Rattle.drain_read.specs.declared.container.ContainerTurn.{ContainerTurn}
use Rattle.drain_read.specs.declared.container.ContainerTurn.TheVariants as container
use Rattle.drain_read.specs.declared.container.Stage.{Stage}
use Rattle.drain_read.specs.declared.container.Stage.TheVariants.{Listing, Reading, Truncs}
use Rattle.drain_read.specs.declared.held.HeldRead.{HeldRead}
use Rattle.drain_read.specs.declared.held.HeldStage.{HeldStage}
use Rattle.drain_read.specs.declared.held.HeldStage.TheVariants as held
use Rattle.drain_read.specs.declared.held.HeldTurn.{HeldTurn}
use Rattle.drain_read.specs.declared.held.HeldTurn.TheVariants as turn
use Rattle.drain_read.specs.declared.held.Held.{Held}
use Rattle.drain_read.specs.declared.read.Contained.{Contained}
use Rattle.drain_read.specs.declared.read.Known.{Known}
use Rattle.drain_read.specs.Holding.{lists_settled, measures, measures_all, mirror_of, settled_named}
use Rattle.drain_read.specs.Reading.{contains, read_as, reads_all, reads_listed}

-- ---- a container

abbrev pub stage_rest : Known → Stage → Reply → Tries Contained
stage_rest known (Listing s) reply = followed_by (replied (rest_of (open_standing s.scan)) reply) (on_ok (reads_listed known))
stage_rest known (Reading rest d t sofar) reply = followed_by (replied (rest_of (tail_standing t.flow)) reply) (on_ok (λ tail. reads_all known rest (sofar ++ read_as known.keeps d tail ∷ [])))
stage_rest known (Truncs writers t) reply = followed_by (replied (rest_of (trunc_standing t.flow)) reply) (on_ok (contains known writers))

abbrev pub container_rest : ContainerRead → Reply → Tries Contained
container_rest r reply = stage_rest r.known r.stage reply

abbrev pub container_turn : ContainerTurn → Tries Contained
container_turn (container.Asks call r) = ask call (container_rest r)
container_turn (container.Over result) = done result

-- the caller may make its call
abbrev pub IsOwedContainer : ContainerTurn → Type 0
IsOwedContainer (container.Asks call r) = OwedBy call
IsOwedContainer (container.Over result) = Unit {0}

-- bounds on the calls that are left, with the one that is out
abbrev pub droppings_calls : ℕ → ℕ
droppings_calls count = count * (2 ^ 64 + 3) + 1

abbrev pub container_bound : ℕ
container_bound = 40 + droppings_calls (2 ^ 64)

abbrev pub stage_calls : Stage → ℕ
stage_calls (Listing s) = open_calls_left s.scan + droppings_calls (2 ^ 64)
stage_calls (Reading rest d t sofar) = tail_calls t.flow + droppings_calls (length rest)
stage_calls (Truncs writers t) = trunc_left t.flow

abbrev pub container_left : ContainerRead → ℕ
container_left r = stage_calls r.stage

abbrev pub container_turn_left : ContainerTurn → ℕ
container_turn_left (container.Asks call r) = container_left r
container_turn_left (container.Over result) = 0

-- ---- what a target has

abbrev pub held_stage_rest : ℕ → HeldStage → Reply → Tries Held
held_stage_rest room (held.Container r) reply = followed_by (container_rest r reply) (on_ok (lists_settled room))
held_stage_rest room (held.Metadata writers) reply = on_ok (measures_all room writers) (told_by metadata (λ names. settled_named names []) reply)
held_stage_rest room (held.Logs settled w rest sofar) reply =
    given (log_length_in reply) (trouble (log_path w.host w.writer) reply) (λ log. measures room settled rest (sofar ++ mirror_of w log ∷ []))

abbrev pub held_rest : HeldRead → Reply → Tries Held
held_rest r reply = held_stage_rest r.room r.stage reply

abbrev pub held_turn : HeldTurn → Tries Held
held_turn (turn.Asks call r) = ask call (held_rest r)
held_turn (turn.Over result) = done result

abbrev pub IsOwedHeld : HeldTurn → Type 0
IsOwedHeld (turn.Asks call r) = OwedBy call
IsOwedHeld (turn.Over result) = Unit {0}

abbrev pub held_bound : ℕ
held_bound = container_bound + (2 ^ 64 + 1)

abbrev pub held_calls : HeldStage → ℕ
held_calls (held.Container r) = container_left r + (2 ^ 64 + 1)
held_calls (held.Metadata writers) = 2 ^ 64 + 1
held_calls (held.Logs settled w rest sofar) = length rest + 1

abbrev pub held_left : HeldRead → ℕ
held_left r = held_calls r.stage

abbrev pub held_turn_left : HeldTurn → ℕ
held_turn_left (turn.Asks call r) = held_left r
held_turn_left (turn.Over result) = 0
