-- Where the stages of a migration stand in its program.
use Rattle.std.specs.Prelude.{◌≡◌, ℕ, ◌+◌, ◌*◌, ◌^◌, Bool, true, length, Result, Err}
use Rattle.mount_model.specs.declared.stuck.Stuck.{Stuck}
use Rattle.mount_model.specs.Program.{done, followed_by}
use Rattle.mount_model.specs.Standing.{Standing, ready, rest_of}
use Rattle.mount_model.specs.Composed.{then_on, is_awaiting}
use Rattle.mount_model.specs.declared.call.Call.{Call}
use Rattle.mount_model.specs.declared.reply.Reply.{Reply}
use Rattle.mount_model.specs.FlowReplies.{Tries, on_ok}
use Rattle.index_reader.specs.declared.opening.AfterOpen.{AfterOpen}
use Rattle.index_reader.specs.declared.opening.AfterOpen.TheVariants as after
use Rattle.index_reader.specs.OpenStages.{after_open, after_open_calls, open_calls_left, open_rest, open_standing}
use Rattle.migrate_core.specs.declared.migrated.Migrated.{Migrated}
use Rattle.migrate_core.specs.declared.stage.Underway.{Underway}
use Rattle.migrate_core.specs.declared.stage.Stage.{Stage}
use Rattle.migrate_core.specs.declared.stage.Stage.TheVariants as stage
use Rattle.migrate_core.specs.Counting.{noted}
use Rattle.migrate_core.specs.Migrating.{lists_metadata, migrate_at_program, migrate_program, migrates, migrates_listed}
use Rattle.migrate_core.specs.Steps.{step_calls, step_standing}

-- one writer is packed, and then those that are left
abbrev pub underway : Underway → Standing Call Reply (Result Migrated Stuck)
underway u = then_on (step_standing u.room u.meta u.step) (on_ok (λ fate. migrates u.room u.rest (noted fate u.tally.sofar)))

abbrev pub migrating : Stage → Standing Call Reply (Result Migrated Stuck)
migrating (stage.Finding name) = ready (migrate_program name)
migrating (stage.Top room) = ready (migrate_at_program room)
migrating (stage.Metadata room scan) = ready (lists_metadata room (after_open scan))
migrating (stage.Scanning room scan metas) = ready (followed_by (open_rest scan) (on_ok (migrates_listed room metas)))
migrating (stage.Underway u) = underway u
migrating (stage.Ended outcome) = ready (done outcome)

-- what follows once the top was listed: a trouble of that is the outcome, or else the metadata are listed
abbrev pub shown_program : ℕ → AfterOpen → Tries Migrated
shown_program room (after.Is (Err why)) = done (Err why)
shown_program room scan = lists_metadata room (after_open scan)

-- a listing has a further call
abbrev pub is_underway : Stage → Bool
is_underway (stage.Scanning room scan metas) = is_awaiting (rest_of (open_standing scan))
is_underway stage = true

abbrev pub IsUnderway : Stage → Type 0
IsUnderway stage = is_underway stage ≡ true

-- a bound on the calls for one writer
abbrev pub writer_calls : ℕ
writer_calls = 2 ^ 20 + 5

abbrev pub calls_left : Stage → ℕ
calls_left (stage.Finding name) = 2 ^ 64 * writer_calls + 43
calls_left (stage.Top room) = 2 ^ 64 * writer_calls + 42
calls_left (stage.Metadata room scan) = after_open_calls scan + (2 ^ 64 * writer_calls + 1)
calls_left (stage.Scanning room scan metas) = open_calls_left scan + 2 ^ 64 * writer_calls
calls_left (stage.Underway u) = step_calls u.step + length u.rest * writer_calls
calls_left (stage.Ended outcome) = 0
