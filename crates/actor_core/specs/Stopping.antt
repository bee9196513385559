-- A program that its actor may stop within.
use Rattle.std.specs.Prelude.{ℕ, ◌-◌, ◌==◌, Bool, false, if◌then◌else◌, Option, Some, None}
use Rattle.mount_model.specs.Program.{Program, done, ask}
use Rattle.mount_model.specs.Process.{Process, asks}
use Rattle.mount_model.specs.Standing.{Rest, over, awaits}
use Rattle.mount_model.specs.declared.call.Call.{Call}
use Rattle.mount_model.specs.declared.call.Ask.{Ask}
use Rattle.mount_model.specs.declared.reply.Reply.{Reply}
use Rattle.actor_core.specs.declared.kept.Stop.{Stop}

-- whether the stop is within the next call
abbrev pub is_due : Option Stop → Bool
is_due None = false
is_due (Some stop) = stop.call == 1

-- after how many bytes the next call is broken off
abbrev pub due_bytes : Option Stop → Option ℕ
due_bytes None = None
due_bytes (Some stop) = if stop.call == 1 then Some stop.bytes else None

-- the stop after one more call
abbrev pub one_nearer : Option Stop → Option Stop
one_nearer None = None
one_nearer (Some stop) = Some (record { call = stop.call - 1; bytes = stop.bytes })

-- the call, broken off where the stop is within it
abbrev pub stoppable : Option Stop → Call → Ask
stoppable armed call = record { call = call; stop = due_bytes armed }

module _ {R X L : Type 0} where
  -- The calls of a program, the armed stop among them. Its result leads on, with the stop as it is then; or the actor has stopped.
  abbrev pub carried : Program Call Reply R → Option Stop → (Option Stop → R → Process Ask Reply X L) → Process Ask Reply X L → Process Ask Reply X L
  carried (done result) armed next halted = next armed result
  carried (ask call k) armed next halted =
      asks (stoppable armed call) (λ reply. if is_due armed then halted else carried (k reply) (one_nearer armed) next halted)

  -- what follows the reply to the program's call
  abbrev pub carried_on : Rest Call Reply R → Option Stop → (Option Stop → R → Process Ask Reply X L) → Process Ask Reply X L → Reply → Process Ask Reply X L
  carried_on (over result) armed next halted reply = next armed result
  carried_on (awaits k) armed next halted reply = if is_due armed then halted else carried (k reply) (one_nearer armed) next halted
