-- Where the steps for one writer stand in its calls.
use Rattle.std.specs.Prelude.{ℕ, ◌+◌, ◌^◌, Result}
use Rattle.mount_model.specs.declared.stuck.Stuck.{Stuck}
use Rattle.mount_model.specs.Standing.{Standing, asked, ready}
use Rattle.mount_model.specs.Program.{done}
use Rattle.mount_model.specs.declared.call.Call.{Call}
use Rattle.mount_model.specs.declared.reply.Reply.{Reply}
use Rattle.mount_model.specs.declared.names.Metadata.{Metadata}
use Rattle.migrate_core.specs.declared.migrated.Fate.{Fate}
use Rattle.migrate_core.specs.declared.steps.Step.{Step}
use Rattle.migrate_core.specs.declared.steps.Step.TheVariants.{Measure, Read, Start, Putting, Put, Sync, Install}
use Rattle.migrate_core.specs.declared.writers.After.{After}
use Rattle.migrate_core.specs.declared.writers.After.TheVariants.{GoesOn, Is}
use Rattle.migrate_core.specs.Writers.{writer_program, reads_on, starts, puts, syncs, installs, if_done}

abbrev pub step_standing : ℕ → Metadata → Step → Standing Call Reply (Result Fate Stuck)
step_standing room m Measure = ready (writer_program room m)
step_standing room m (Read r) = ready (reads_on room m r.left r.tail)
step_standing room m (Start p) = ready (starts room m p.bytes p.packed)
step_standing room m (Putting flat p) = ready (puts p.bytes p.packed flat)
step_standing room m (Put flat packed) = asked (if_done (syncs flat packed))
step_standing room m (Sync flat packed) = ready (syncs flat packed)
step_standing room m (Install flat packed) = ready (installs flat packed)

abbrev pub after_standing : ℕ → Metadata → After → Standing Call Reply (Result Fate Stuck)
after_standing room m (GoesOn step) = step_standing room m step
after_standing room m (Is result) = ready (done result)

-- bounds on the calls that are left
abbrev pub step_calls : Step → ℕ
step_calls Measure = 2 ^ 20 + 5
step_calls (Read r) = r.left + 4
step_calls (Start p) = 4
step_calls (Putting flat p) = 3
step_calls (Put flat packed) = 3
step_calls (Sync flat packed) = 2
step_calls (Install flat packed) = 1

abbrev pub after_calls : After → ℕ
after_calls (GoesOn step) = step_calls step
after_calls (Is result) = 0
