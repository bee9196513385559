-- The calls that open a writer: MakeContainer, Enter, Floor, MakeHostdir, MakeIndex, MakeLog.
use Rattle.std.specs.Prelude.{ℕ, List, Result, Ok, Err}
use Rattle.mount_model.specs.declared.stuck.Stuck.{Stuck}
use Rattle.mount_model.specs.Program.{Program, done, ask}
use Rattle.mount_model.specs.declared.call.Call.{Call}
use Rattle.mount_model.specs.declared.call.Call.TheVariants.{MakeContainer, Enter, Floor, MakeHostdir, MakeIndex, MakeLog, Exit}
use Rattle.mount_model.specs.declared.reply.Reply.{Reply}
use Rattle.mount_model.specs.declared.reply.Reply.TheVariants.{Room, Entered, Floored, Done}
use Rattle.writer_flow.specs.declared.handle.WriterHandle.{WriterHandle}
use Rattle.writer_flow.specs.Handle.{opened_of}
use Rattle.writer_flow.specs.Ending.{trouble}

abbrev pub Opening : Type 0
Opening = Program Call Reply (Result WriterHandle Stuck)

-- it leaves, and the first trouble is the outcome, whatever is answered then
abbrev pub leaves : ℕ → Stuck → Opening
leaves writer why = ask (Exit writer) (λ reply. done (Err why))

-- after a trouble that follows Entered it leaves
abbrev pub if_done : ℕ → Opening → Reply → Opening
if_done writer next Done = next
if_done writer next reply = leaves writer (trouble reply)

abbrev pub makes_log : ℕ → ℕ → Opening
makes_log writer cap = ask (MakeLog writer) (if_done writer (done (Ok (opened_of writer cap))))

abbrev pub makes_index : ℕ → ℕ → Opening
makes_index writer cap = ask (MakeIndex writer) (if_done writer (makes_log writer cap))

abbrev pub makes_hostdir : ℕ → ℕ → Opening
makes_hostdir writer cap = ask (MakeHostdir writer) (if_done writer (makes_index writer cap))

abbrev pub if_floored : ℕ → ℕ → Reply → Opening
if_floored writer cap (Floored floor) = makes_hostdir writer cap
if_floored writer cap reply = leaves writer (trouble reply)

abbrev pub finds_floor : ℕ → ℕ → Opening
finds_floor writer cap = ask (Floor writer) (if_floored writer cap)

abbrev pub if_entered : ℕ → Reply → Opening
if_entered cap (Entered writer) = finds_floor writer cap
if_entered cap reply = done (Err (trouble reply))

abbrev pub enters : ℕ → ℕ → ℕ → Opening
enters room host cap = ask (Enter room host cap) (if_entered cap)

abbrev pub if_made : ℕ → ℕ → Reply → Opening
if_made host cap (Room room) = enters room host cap
if_made host cap reply = done (Err (trouble reply))

abbrev pub open_program : List ℕ → ℕ → ℕ → Opening
open_program name host cap = ask (MakeContainer name) (if_made host cap)
