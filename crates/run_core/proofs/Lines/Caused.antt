-- A line tells of a fault only where a fault was answered.
use Rattle.std.proofs.Common.{◌≡◌, ◌≢◌, ◌⊎◌, inl, inr, ℕ, zero, suc, ◌≤◌, ◌<◌, List, [], ◌∷◌, length, refl, sym, subst, get_or, arith}
use Rattle.plfs_types.specs.Counts.{HasRisen}
use Rattle.mount_model.specs.declared.reply.Reply.{Reply}
use Rattle.mount_model.specs.declared.reply.Reply.TheVariants as reply_of
use Rattle.mount_model.specs.State.{State}
use Rattle.mount_model.specs.History.{Event, state_after}
use Rattle.mount_model.proofs.Facts.{step_causes, step_fits}
use Rattle.mount_sound.specs.Owed.{IsLawful}
use Rattle.script_lang.specs.declared.line.Line.{Line}
use Rattle.script_lang.specs.declared.script.Script.{Script}
use Rattle.mount_core.specs.Memory.{HadMemory}
use Rattle.run_core.specs.Faults.{TellsFault, HasFault}
use Rattle.run_core.specs.Play.{IsPlay}
use Rattle.run_core.specs.Conditions.{IsPlayable}
use Rattle.run_core.proofs.Lines.GoodLines.{AreWell, AreGood, lines_good}
use Rattle.run_core.proofs.Lines.WorksCaused.{IsWell, NoFault, work_caused}

-- ---- the count of faults

fault_or : (reply : Reply) → (reply ≡ reply_of.Fault) ⊎ (reply ≢ reply_of.Fault)
fault_or reply_of.Fault = inl refl
fault_or reply_of.Greeted = inr (λ e. cc)
fault_or (reply_of.Room room) = inr (λ e. cc)
fault_or (reply_of.Rooms names) = inr (λ e. cc)
fault_or (reply_of.Looked answer) = inr (λ e. cc)
fault_or (reply_of.Entered writer) = inr (λ e. cc)
fault_or (reply_of.Floored floor) = inr (λ e. cc)
fault_or reply_of.Done = inr (λ e. cc)
fault_or (reply_of.Wrote stamp) = inr (λ e. cc)
fault_or (reply_of.Flushed landed) = inr (λ e. cc)
fault_or (reply_of.Synced landed) = inr (λ e. cc)
fault_or (reply_of.Holding holder) = inr (λ e. cc)
fault_or (reply_of.Marked stamp) = inr (λ e. cc)
fault_or (reply_of.Started flat) = inr (λ e. cc)
fault_or (reply_of.Mended made) = inr (λ e. cc)
fault_or reply_of.Stopped = inr (λ e. cc)
fault_or (reply_of.Refused why) = inr (λ e. cc)
fault_or (reply_of.Damaged folder file) = inr (λ e. cc)
fault_or reply_of.NoMemory = inr (λ e. cc)

pub risen_before : (a b c : ℕ) → a ≤ b → HasRisen b c → HasRisen a c
risen_before a b c le (inl lt) = inl (omega (arith, le, lt))
risen_before a b c le (inr most) = inr most

risen_after : (a b c : ℕ) → HasRisen a b → b ≤ c → HasRisen a c
risen_after a b c (inl lt) le = inl (omega (arith, le, lt))
risen_after a b c (inr most) le = inr (omega (arith, le, most))

pub never_falls : (start : State) (history : List Event) → IsLawful start history → start.store.faults ≤ (state_after start history).store.faults
never_falls start [] lawful = omega arith
never_falls start (e ∷ es) lawful =
    let here = (step_causes start e.after e.caller e.ask e.reply lawful.1).never_falls in
    let there = never_falls e.after es lawful.2 in
    omega (arith, here, there)

pub well_or_risen : (start : State) (history : List Event) → IsLawful start history → HadMemory history → HasRisen start.store.faults (state_after start history).store.faults ⊎ AreWell IsWell NoFault history
well_or_risen start [] lawful had = inr tt
well_or_risen start (e ∷ es) lawful had =
    let causes = step_causes start e.after e.caller e.ask e.reply lawful.1 in
    let Goal : Type 0 = HasRisen start.store.faults (state_after e.after es).store.faults ⊎ (IsWell e.ask e.reply × AreWell IsWell NoFault es) in
    elim (fault_or e.reply) as (λ _. Goal) [
      | inl bad ↦ inl (risen_after start.store.faults e.after.store.faults (state_after e.after es).store.faults (causes.cause bad) (never_falls e.after es lawful.2))
      | inr good ↦ elim (well_or_risen e.after es lawful.2 had.1) as (λ _. Goal) [
        | inl risen ↦ inl (risen_before start.store.faults e.after.store.faults (state_after e.after es).store.faults causes.never_falls risen)
        | inr rest ↦ inr ((good, had.0, step_fits start e.after e.caller e.ask e.reply lawful.1), rest)
      ]
    ]

none_at : (lines : List Line) (k : ℕ) (line : Line) → AreGood IsWell NoFault lines → k < length lines → TellsFault (get_or lines k line) → ⊥
none_at [] k line none lt bad = omega (arith, lt)
none_at (l ∷ lines) zero line none lt bad = none.0 bad
none_at (l ∷ lines) (suc k) line none lt bad = none_at lines k line none.1 (omega (arith, lt)) bad

pub none_has : (lines : List Line) → AreGood IsWell NoFault lines → HasFault lines → ⊥
none_has lines none has = none_at lines has.0 has.1 none has.2 (subst TellsFault (sym has.3) has.4)

-- Where a line of a play tells of a fault, the store's count of faults has risen.
pub play_caused : (script : Script) (start : State) (lines : List Line) (end : State) → IsPlayable script → IsPlay script start lines end → HasFault lines → HasRisen start.store.faults end.store.faults
play_caused script start lines end playable p has =
    let R : State → Type 0 = λ s. HasRisen start.store.faults s.store.faults in
    elim (well_or_risen start p.history p.leads.lawful p.had_memory) as (λ _. R end) [
      | inl risen ↦ subst R p.leads.ends risen
      | inr well ↦ absurd (none_has lines (lines_good IsWell NoFault work_caused script p.history lines well p.in_turns) has)
    ]
