-- A drain that ends in a fault of its source, or of its target, has made that store fail.
use Rattle.std.proofs.Common.{◌≡◌, ◌≢◌, ℕ, ◌≤◌, true, false, List, [], ◌∷◌, refl, ap, sym, ◌⊎◌, inl, inr, subst, arith}
use Rattle.std.specs.Prelude.{Bool, Ok, Err}
use Rattle.std.specs.List.{AllByRecursion}
use Rattle.plfs_types.specs.Counts.{HasRisen}
use Rattle.store_api.specs.declared.step.Answer.{Answer}
use Rattle.store_api.specs.declared.store.Trouble.TheVariants.{Fault as ToldFault, NoMemory as ToldNoMemory}
use Rattle.store_api.specs.Acts.{Acts, Stored}
use Rattle.mount_model.specs.declared.reply.Reply.{Reply}
use Rattle.mount_model.specs.declared.reply.Reply.TheVariants as reply_of
use Rattle.mount_model.specs.Paths.{Name}
use Rattle.mount_model.specs.Replies.{FitsAsk, FitsCall}
use Rattle.mount_model.proofs.Facts.{step_causes, step_fits}
use Rattle.mount_model.specs.declared.stuck.Stuck.TheVariants as stuck
use Rattle.reader_laws.specs.Moments.{Moment, next_moment}
use Rattle.drain_copy.specs.declared.outcome.DrainStuck.TheVariants.{Source, TargetFault}
use Rattle.drain_copy.specs.Asking.{acts, calls, ends}
use Rattle.mount_model.specs.Making.{Told}
use Rattle.drain_copy.specs.Draining.{drain_program}
use Rattle.drain_copy.specs.Telling.{DrainsOn, Outcome}
use Rattle.drain_sound.specs.Draining.{Act, Happening, at_source, at_target, source_after, target_after}
use Rattle.drain_laws.specs.Driving.{AreMade, Drives}
use Rattle.drain_laws.specs.Faults.{EndsInFault, WasServed}
use Rattle.drain_laws.proofs.FaultLemmas.{EndsInFaultOf, NeverFaults, drain_never}

-- ---- the counts

risen_before : (a b c : ℕ) → a ≤ b → HasRisen b c → HasRisen a c
risen_before a b c le (inl lt) = inl (omega (arith, le, lt))
risen_before a b c le (inr most) = inr most

risen_after : (a b c : ℕ) → HasRisen a b → b ≤ c → HasRisen a c
risen_after a b c (inl lt) le = inl (omega (arith, lt, le))
risen_after a b c (inr most) le = inr (omega (arith, le, most))

source_grows : (m : Moment) (store : Stored) (happened : List Happening) → AreMade m store happened → m.state.store.faults ≤ (source_after m happened).state.store.faults
source_grows m store [] made = omega arith
source_grows m store (at_source e ∷ rest) made = (let here = (step_causes m.state e.after e.caller e.ask e.reply made.0.1).never_falls in omega (arith, here, source_grows (next_moment m e) store rest made.1))
source_grows m store (at_target a ∷ rest) made = source_grows m a.after rest made.1

no_fewer : (a : Act) (store : Stored) (told : Told) → Acts a.step store a.after told → store.faults ≤ a.after.faults
no_fewer a store (Ok answer) acted = omega (arith, acted.faults)
no_fewer a store (Err ToldFault) acted = acted.faults
no_fewer a store (Err ToldNoMemory) acted = (let same : a.after.faults ≡ store.faults = ap (λ (s : Stored). s.faults) acted in omega (arith, same))

target_grows : (m : Moment) (store : Stored) (happened : List Happening) → AreMade m store happened → store.faults ≤ (target_after store happened).faults
target_grows m store [] made = omega arith
target_grows m store (at_source e ∷ rest) made = target_grows (next_moment m e) store rest made.1
target_grows m store (at_target a ∷ rest) made = omega (arith, no_fewer a store a.answer made.0, target_grows m a.after rest made.1)

answer_is : (answer : Answer) (told : Told) → told ≡ Ok answer → told ≡ Err ToldFault → ⊥
answer_is answer told is e = cc

-- the count of faults has risen meanwhile, the source's where that is told of, and else the target's
abbrev Risen : Bool → Moment → Stored → List Happening → Type 0
Risen true m store happened = HasRisen m.state.store.faults (source_after m happened).state.store.faults
Risen false m store happened = HasRisen store.faults (target_after store happened).faults

fault_or : (reply : Reply) → (reply ≡ reply_of.Fault) ⊎ (reply ≢ reply_of.Fault)
fault_or reply_of.Fault = inl refl
fault_or reply_of.Greeted = inr (λ e. cc)
fault_or (reply_of.Room room) = inr (λ e. cc)
fault_or (reply_of.Rooms names) = inr (λ e. cc)
fault_or (reply_of.Looked told) = inr (λ e. cc)
fault_or (reply_of.Entered writer) = inr (λ e. cc)
fault_or (reply_of.Floored floor) = inr (λ e. cc)
fault_or reply_of.Done = inr (λ e. cc)
fault_or (reply_of.Wrote stamp) = inr (λ e. cc)
fault_or (reply_of.Flushed landed) = inr (λ e. cc)
fault_or (reply_of.Synced landed) = inr (λ e. cc)
fault_or (reply_of.Holding holder) = inr (λ e. cc)
fault_or (reply_of.Marked stamp) = inr (λ e. cc)
fault_or (reply_of.Started flat) = inr (λ e. cc)
fault_or (reply_of.Mended made) = inr (λ e. cc)
fault_or reply_of.Stopped = inr (λ e. cc)
fault_or (reply_of.Refused why) = inr (λ e. cc)
fault_or (reply_of.Damaged folder file) = inr (λ e. cc)
fault_or reply_of.NoMemory = inr (λ e. cc)

module _ (caller : ℕ) (outcome : Outcome) where
  risen_here : EndsInFaultOf true outcome → (p : DrainsOn) (m : Moment) (store : Stored) (happened : List Happening) → NeverFaults true p → AreMade m store happened → AllByRecursion (WasServed caller) happened → Drives caller p happened (ends outcome) → Risen true m store happened
  risen_here bad p m store [] never made served drives = absurd ((subst (NeverFaults true) (sym drives) never) bad)
  risen_here bad p m store (at_source e ∷ rest) never made served (inl (other, drives)) =
      risen_before m.state.store.faults e.after.store.faults _ (step_causes m.state e.after e.caller e.ask e.reply made.0.1).never_falls (risen_here bad p (next_moment m e) store rest never made.1 served.1 drives)
  risen_here bad (ends out) m store (at_source e ∷ rest) never made served (inr (own, (next, is, drives))) = absurd is
  risen_here bad (acts step k) m store (at_source e ∷ rest) never made served (inr (own, (next, is, drives))) = absurd is
  risen_here bad (calls call k) m store (at_source e ∷ rest) never made served (inr (own, (next, is, drives))) =
      let causes = step_causes m.state e.after e.caller e.ask e.reply made.0.1 in
      elim (fault_or e.reply) as (λ _. Risen true m store (at_source e ∷ rest)) [
        | inl told ↦ risen_after m.state.store.faults e.after.store.faults _ (causes.cause told) (source_grows (next_moment m e) store rest made.1)
        | inr good ↦
            let fits : FitsCall call e.reply = subst (λ a. FitsAsk a e.reply) is.0 (step_fits m.state e.after e.caller e.ask e.reply made.0.1) in
            let goes : NeverFaults true next = subst (NeverFaults true) (sym is.1) (never e.reply fits good (served.0 own)) in
            risen_before m.state.store.faults e.after.store.faults _ causes.never_falls (risen_here bad next (next_moment m e) store rest goes made.1 served.1 drives)
      ]
  risen_here bad (ends out) m store (at_target a ∷ rest) never made served (next, is, drives) = absurd is
  risen_here bad (calls call k) m store (at_target a ∷ rest) never made served (next, is, drives) = absurd is
  risen_here bad (acts step k) m store (at_target a ∷ rest) never made served (next, is, drives) =
      let goes : NeverFaults true next = subst (NeverFaults true) (sym is.1) (never a.answer tt served.0) in
      risen_here bad next m a.after rest goes made.1 served.1 drives

  risen_there : EndsInFaultOf false outcome → (p : DrainsOn) (m : Moment) (store : Stored) (happened : List Happening) → NeverFaults false p → AreMade m store happened → AllByRecursion (WasServed caller) happened → Drives caller p happened (ends outcome) → Risen false m store happened
  risen_there bad p m store [] never made served drives = absurd ((subst (NeverFaults false) (sym drives) never) bad)
  risen_there bad p m store (at_source e ∷ rest) never made served (inl (other, drives)) = risen_there bad p (next_moment m e) store rest never made.1 served.1 drives
  risen_there bad (ends out) m store (at_source e ∷ rest) never made served (inr (own, (next, is, drives))) = absurd is
  risen_there bad (acts step k) m store (at_source e ∷ rest) never made served (inr (own, (next, is, drives))) = absurd is
  risen_there bad (calls call k) m store (at_source e ∷ rest) never made served (inr (own, (next, is, drives))) =
      let fits : FitsCall call e.reply = subst (λ a. FitsAsk a e.reply) is.0 (step_fits m.state e.after e.caller e.ask e.reply made.0.1) in
      let goes : NeverFaults false next = subst (NeverFaults false) (sym is.1) (never e.reply fits tt (served.0 own)) in
      risen_there bad next (next_moment m e) store rest goes made.1 served.1 drives
  risen_there bad (ends out) m store (at_target a ∷ rest) never made served (next, is, drives) = absurd is
  risen_there bad (calls call k) m store (at_target a ∷ rest) never made served (next, is, drives) = absurd is
  risen_there bad (acts step k) m store (at_target a ∷ rest) never made served (next, is, drives) = by_told a.answer refl made.0 (λ goes. risen_there bad next m a.after rest goes made.1 served.1 drives)
    where
      by_told : (told : Told) → a.answer ≡ told → Acts a.step store a.after told → (NeverFaults false next → Risen false m a.after rest) → Risen false m store (at_target a ∷ rest)
      by_told (Ok answer) is_so acted more =
          let free : a.answer ≢ Err ToldFault = λ e. answer_is answer a.answer is_so e in
          risen_before store.faults a.after.faults _ (no_fewer a store a.answer made.0) (more (subst (NeverFaults false) (sym is.1) (never a.answer free served.0)))
      by_told (Err ToldFault) is_so acted more = risen_after store.faults a.after.faults _ acted.cause (target_grows m a.after rest made.1)
      by_told (Err ToldNoMemory) is_so acted more = absurd (served.0 is_so)

pub source_risen : (caller : ℕ) (name : Name) (m : Moment) (store : Stored) (happened : List Happening) → AreMade m store happened → AllByRecursion (WasServed caller) happened → Drives caller (drain_program name) happened (ends (Err (Source stuck.Fault)))
    → HasRisen m.state.store.faults (source_after m happened).state.store.faults
source_risen caller name m store happened made served drives = risen_here caller (Err (Source stuck.Fault)) tt (drain_program name) m store happened (drain_never true name) made served drives

pub target_risen : (caller : ℕ) (name : Name) (m : Moment) (store : Stored) (happened : List Happening) → AreMade m store happened → AllByRecursion (WasServed caller) happened → Drives caller (drain_program name) happened (ends (Err TargetFault))
    → HasRisen store.faults (target_after store happened).faults
target_risen caller name m store happened made served drives = risen_there caller (Err TargetFault) tt (drain_program name) m store happened (drain_never false name) made served drives

pub fault_risen : (caller : ℕ) (name : Name) (m : Moment) (store : Stored) (happened : List Happening) (outcome : Outcome) → AreMade m store happened → AllByRecursion (WasServed caller) happened → Drives caller (drain_program name) happened (ends outcome) → EndsInFault outcome
    → HasRisen m.state.store.faults (source_after m happened).state.store.faults ⊎ HasRisen store.faults (target_after store happened).faults
fault_risen caller name m store happened (Err (Source stuck.Fault)) made served drives bad = inl (source_risen caller name m store happened made served drives)
fault_risen caller name m store happened (Err TargetFault) made served drives bad = inr (target_risen caller name m store happened made served drives)
fault_risen caller name m store happened outcome made served drives bad = absurd bad
