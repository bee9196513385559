-- What a program comes to whose calls a caller makes: it goes on from what the caller has, and each refusal has its reason.
use Rattle.std.specs.Prelude.{◌≡◌, ℕ, Some, Result, Ok, Err}
use Rattle.mount_model.specs.Program.{Program, ask, done}
use Rattle.mount_model.specs.declared.call.Call.{Call}
use Rattle.mount_model.specs.declared.reply.Refusal.{Refusal}
use Rattle.mount_model.specs.declared.reply.Reply.{Reply}
use Rattle.mount_model.specs.declared.reply.Reply.TheVariants as reply
use Rattle.mount_model.specs.declared.row.Flattening.{Flattening}
use Rattle.mount_model.specs.declared.row.FlatStage.{FlatStage}
use Rattle.mount_model.specs.declared.row.Holder.{Holder}
use Rattle.mount_model.specs.declared.row.Row.{Row}
use Rattle.mount_model.specs.declared.row.Stage.{Stage}
use Rattle.mount_model.specs.Step.{Answers}
use Rattle.mount_model.specs.Table.{holder_of}
use Rattle.mount_model.proofs.Facts.{IsUnderway}
use Rattle.mount_model.specs.declared.stuck.Stuck.{Stuck}
use Rattle.mount_model.specs.declared.stuck.Stuck.TheVariants as stuck
use Rattle.reader_laws.specs.Moments.{IsSoundAt, Moment}
use Rattle.reader_laws.specs.Failing.{IsContainerAt}
use Rattle.refusal_laws.specs.Reasons.{HasReason}
use Rattle.writer_laws.specs.Knowing.{HasRow}

-- what a caller has: nothing of which is asked, a container that is there, a writer at a stage, a writer with this row, a hold, a flattening at a stage
pub data Fact : Type 0 where
  anything : Fact
  stands : ℕ → Fact
  staged : ℕ → Stage → Fact
  rowed : ℕ → Row → Fact
  held : ℕ → Fact
  flattens : ℕ → FlatStage → Fact

abbrev pub IsSo : ℕ → Fact → Moment → Type 0
IsSo n anything m = Unit {0}
IsSo n (stands room) m = IsContainerAt m room
IsSo n (staged w stage) m = (row : Row) × HasRow n w row m.state × (row.stage ≡ stage)
IsSo n (rowed w row) m = HasRow n w row m.state
IsSo n (held holder) m = (h : Holder) × (holder_of n holder m.state.table.holders ≡ Some h)
IsSo n (flattens id at) m = (f : Flattening) × IsUnderway n at id m.state.table.flattenings f

-- a call of the caller was answered so, and refused for its reason alone
pub record Stepped (n : ℕ) (m : Moment) (call : Call) (rep : Reply) (next : Moment) : Type 0 where
  pub sound : IsSoundAt m
  pub sound_then : IsSoundAt next
  pub answers : Answers m.state n call rep next.state
  pub reason : (why : Refusal) → rep ≡ reply.Refused why → HasReason m.state n call why
  pub grows : (room : ℕ) → IsContainerAt m room → IsContainerAt next room

-- From what the caller has the program comes to such a result, whatever is answered.
abbrev pub Goes : {R : Type 0} → ℕ → (R → Type 0) → Fact → Program Call Reply R → Type 0
Goes n good fact (done r) = good r
Goes n good fact (ask call k) = (m next : Moment) (rep : Reply) → Stepped n m call rep next → IsSo n fact m → (after : Fact) × IsSo n after next × Goes n good after (k rep)

-- it comes to less
pub goes_more : {R : Type 0} (n : ℕ) (good better : R → Type 0) → ((r : R) → good r → better r) → (fact : Fact) (p : Program Call Reply R) → Goes n good fact p → Goes n better fact p
goes_more n good better more fact (done r) goes = more r goes
goes_more n good better more fact (ask call k) goes = λ m next rep s so. (let g = goes m next rep s so in (g.0, g.1, goes_more n good better more g.0 (k rep) g.2))

-- ---- a trouble

-- a refusal is such a one
abbrev pub IsTroubleSo : (Refusal → Type 0) → Stuck → Type 0
IsTroubleSo fine (stuck.Refused why) = fine why
IsTroubleSo fine other = Unit {0}

-- a program that tries something comes to this, or to such a trouble
abbrev pub EndsSo : {R : Type 0} → (R → Type 0) → (Refusal → Type 0) → Result R Stuck → Type 0
EndsSo good fine (Ok r) = good r
EndsSo good fine (Err why) = IsTroubleSo fine why
