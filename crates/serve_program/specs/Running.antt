-- A whole run.
use Rattle.std.specs.Prelude.{◌≡◌, ◌+◌, ◌++◌, ◌==◌, ℕ, Bool, true, false, List, Some, if◌then◌else◌, length}
use Rattle.edge_io.specs.Sink.{Taking}
use Rattle.edge_io.specs.Source.{Given}
use Rattle.store_api.specs.Acts.{Stored}
use Rattle.mount_model.specs.declared.mount_trouble.MountTrouble.{MountTrouble}
use Rattle.mount_model.specs.declared.mount_trouble.MountTrouble.TheVariants as troubles
use Rattle.mount_model.specs.Failing.{FailsToMount}
use Rattle.mount_model.specs.Mounting.{IsMounted}
use Rattle.mount_model.specs.State.{State}
use Rattle.script_lang.specs.declared.line.Line.{Line}
use Rattle.script_lang.specs.declared.script.ActorDecl.{ActorDecl}
use Rattle.script_lang.specs.declared.script.Numbered.{Numbered}
use Rattle.program_ends.specs.Ends.{Ends, IsUntouched}
use Rattle.run_core.specs.Breaking.{IsPlayBroken}
use Rattle.run_core.specs.Play.{IsPlay}
use Rattle.serve_core.specs.declared.client.Client.{Client}
use Rattle.serve_core.specs.Serving.{script_of}
use Rattle.serve_program.specs.declared.exchange.Stop.{Stop}
use Rattle.serve_program.specs.declared.exchange.Stop.TheVariants as stops
use Rattle.serve_program.specs.Closing.{BreaksClosing, closings, worst}
use Rattle.serve_program.specs.Exchange.{ExchangeEnds, Exchanged, Starves}

-- memory was refused
abbrev pub is_starved : Stop → Bool
is_starved stops.NoMemory = true
is_starved other = false

-- ---- statuses

-- of an exchange that ended so
abbrev pub stop_status : Stop → ℕ
stop_status stops.End = 0
stop_status stops.Unread = 5
stop_status stops.Unwritten = 6
stop_status stops.NoMemory = 3
stop_status stops.Spent = 5

-- and behind it this was the greatest trouble of the closings, which goes before
abbrev pub status_of : Stop → ℕ → ℕ
status_of stop trouble = if trouble == 0 then stop_status stop else trouble

abbrev pub unmounted_status : MountTrouble → ℕ
unmounted_status (troubles.Damaged file) = 7
unmounted_status troubles.NoMarks = 7
unmounted_status troubles.Spent = 1
unmounted_status troubles.Fault = 4
unmounted_status troubles.NoMemory = 3

-- The frames were exchanged, and then each client closed its writer: what was asked for, with the closings behind it, is a play with these lines. Or memory was
-- refused behind the frames that were exchanged: all calls are a front of those of a play of what was asked for, with the request of the next frame behind it. Or
-- it was refused behind some closings: they are a front of a play of what was asked for, with these and the next one behind it. Or there was none for the clients.
pub data RunsOn (declared : List ActorDecl) (start : State) (given : Given) (taking : Taking) (status : ℕ) (end : State) (given_after : Given) (taking_after : Taking) : Type 0 where
  closes : (stop : Stop) (asked : List Numbered) (lines more : List Line) (clients : List Client) (mid : State)
      → ExchangeEnds declared start given taking stop asked lines clients mid given_after taking_after → (stop ≡ stops.NoMemory → ⊥)
      → IsPlay (script_of declared (asked ++ closings (length declared))) start (lines ++ more) end → status ≡ status_of stop (worst more)
      → RunsOn declared start given taking status end given_after taking_after
  starves : (asked more : List Numbered) (lines : List Line) (old new : List Client) (now : State) (given_now : Given) (taking_now : Taking)
      → Exchanged declared start given taking asked lines old now given_now taking_now → Starves old now given_now taking_now more new end given_after taking_after
      → IsPlayBroken (script_of declared (asked ++ more)) start end → status ≡ 3
      → RunsOn declared start given taking status end given_after taking_after
  unclosed : (stop : Stop) (asked : List Numbered) (lines : List Line) (clients : List Client) (mid : State)
      → ExchangeEnds declared start given taking stop asked lines clients mid given_after taking_after → (stop ≡ stops.NoMemory → ⊥)
      → (breaks : BreaksClosing clients mid end) → IsPlayBroken (script_of declared (asked ++ closings (breaks.count + 1))) start end → status ≡ 3
      → RunsOn declared start given taking status end given_after taking_after
  unmade : end ≡ start → given_after ≡ given → taking_after ≡ taking → status ≡ 3 → RunsOn declared start given taking status end given_after taking_after

-- A mount was made of the store as it was, on which that went so and led to what is left of it. Or the mounting broke off, and nothing was read or written. Or
-- memory was refused before that.
pub data Runs (declared : List ActorDecl) (given given_after : Given) (e : Ends) (status : ℕ) : Type 0 where
  mounted : (start end : State) → IsMounted 0 e.times e.stored start → RunsOn declared start given e.taking status end given_after e.taking_after → e.stored_after ≡ Some end.store
      → Runs declared given given_after e status
  unmounted : (trouble : MountTrouble) (after : Stored) → FailsToMount e.stored trouble after → e.stored_after ≡ Some after → given_after ≡ given → e.taking_after ≡ e.taking → status ≡ unmounted_status trouble
      → Runs declared given given_after e status
  unbegun : IsUntouched e → given_after ≡ given → e.taking_after ≡ e.taking → status ≡ 3 → Runs declared given given_after e status
