-- A caller makes the calls of a machine's program, while others make calls of their own.
use Rattle.std.specs.Prelude.{ℕ, List, None}
use Rattle.turn_object.specs.Callers.{made_by}
use Rattle.mount_model.specs.declared.call.Ask.{Ask}
use Rattle.mount_model.specs.declared.call.Call.{Call}
use Rattle.mount_model.specs.declared.reply.Reply.{Reply}
use Rattle.mount_model.specs.History.{Event}
use Rattle.mount_model.specs.Program.{Program, done, ask}
use Rattle.mount_model.specs.Calls.{AreCallsOf}

-- a call that isn't broken off
abbrev pub unbroken : Call → Ask
unbroken call = record { call = call; stop = None }

-- the program with calls of which none is broken off
abbrev pub asking : {Result : Type 0} → Program Call Reply Result → Program Ask Reply Result
asking (done result) = done result
asking (ask call k) = ask (unbroken call) (λ reply. asking (k reply))

-- In these events the caller makes the calls of the program and no others, none is broken off, each goes on with its
-- reply, and this is what it ends with.
abbrev pub Runs : {Result : Type 0} → ℕ → Program Call Reply Result → List Event → Result → Type 0
Runs caller program events result = AreCallsOf (asking program) (made_by caller events) result
