-- A copying ends in a fault only where the store's count of faults has risen.
use Rattle.std.proofs.Common.{◌≡◌, ◌⊎◌, inl, inr, ℕ, ◌≤◌, Bool, true, false, List, [], ◌∷◌, Option, Some, None, Result, Ok, Err, subst, arith}
use Rattle.std.specs.List.{AllByRecursion}
use Rattle.plfs_types.specs.Counts.{HasRisen}
use Rattle.edge_io.specs.Source.{Given}
use Rattle.mount_model.specs.Program.{Program, done, ask}
use Rattle.mount_model.specs.declared.stuck.Stuck.{Stuck}
use Rattle.mount_model.specs.declared.stuck.Stuck.TheVariants as stuck
use Rattle.mount_model.specs.Running.{Runs}
use Rattle.mount_model.proofs.Flows.Facts.{runs_done, runs_next}
use Rattle.mount_model.specs.declared.call.Ask.{Ask}
use Rattle.mount_model.specs.declared.call.Call.{Call}
use Rattle.mount_model.specs.declared.reply.Reply.{Reply}
use Rattle.mount_model.specs.Replies.{FitsAsk, FitsCall}
use Rattle.mount_model.specs.History.{Event}
use Rattle.mount_model.specs.Paths.{Name}
use Rattle.mount_model.specs.State.{State}
use Rattle.lone_flow.specs.Driving.{Makes, greets_first}
use Rattle.lone_flow.specs.Faults.{IsFault}
use Rattle.writer_flow.specs.declared.handle.WriterHandle.{WriterHandle}
use Rattle.writer_flow.specs.Closing.{close_program}
use Rattle.writer_flow.specs.Opening.{open_program}
use Rattle.writer_flow.specs.Syncing.{sync_program}
use Rattle.writer_flow.specs.Writing.{write_program}
use Rattle.trunc_rename.specs.Truncating.{truncate_program}
use Rattle.run_core.proofs.Facts.{AreWell, EndsIn, IsWell, NoFault, close_well, ends_well, is_no_fault, keeps_well, never_falls, open_well, risen_before, stays_well, sync_stays, well_or_risen, write_stays}
use Rattle.lone_flow.proofs.SmallPuts.Facts.{LastsBehind, stuck_of}
use Rattle.copy_core.specs.declared.copying.Copied.{Copied}
use Rattle.copy_core.specs.Clearing.{free_program}
use Rattle.copy_core.specs.Copying.{Copies}
use Rattle.copy_core.proofs.Facts.{CopiesEnd, copy_stuck}
use Rattle.put_program.proofs.Copyings.Truncating.{free_well, truncate_well}

-- ---- a program whose calls are answered without a fault

ends_fine : {R : Type 0} (fine : R → Bool) (p : Program Call Reply R) (events : List Event) (result : R) → EndsIn fine p → AreWell IsWell NoFault events → AllByRecursion (λ (e : Event). e.caller ≡ 0) events → Runs 0 p events result → fine result ≡ true
ends_fine fine (done out) [] result ends well own runs = subst (λ r. fine r ≡ true) runs.1 ends
ends_fine fine (done out) (e ∷ es) result ends well own runs = absurd ((runs_done 0 out e es result runs).0 own.0)
ends_fine fine (ask call k) [] result ends well own runs = absurd runs
ends_fine fine (ask call k) (e ∷ es) result ends well own runs = elim (runs_next 0 call k e es result runs) as (λ _. fine result ≡ true) [
  | inl (other, on) ↦ absurd (other own.0)
  | inr (mine, asked, on) ↦
      let fits : FitsCall call e.reply = subst (λ (a : Ask). FitsAsk a e.reply) asked well.0.2 in
      elim (ends e.reply fits) as (λ _. fine result ≡ true) [
        | inl none ↦ absurd (well.0.1 none)
        | inr rest ↦ elim rest as (λ _. fine result ≡ true) [
          | inl bad ↦ absurd (well.0.0 bad)
          | inr more ↦ ends_fine fine (k e.reply) es result more well.1 own.1 on
        ]
      ]
]

-- ---- what was made

-- the count of faults has risen between these states
abbrev Rose : State → State → Type 0
Rose start end = HasRisen start.store.faults end.store.faults

abbrev NotFewer : State → State → Type 0
NotFewer start end = start.store.faults ≤ end.store.faults

-- a trouble behind this state is no fault, or the count has risen
abbrev IsCausedIn : State → Stuck → State → Type 0
IsCausedIn start why end = Rose start end ⊎ (why ≡ stuck.Fault → ⊥)

not_fewer : {R : Type 0} (program : Program Call Reply R) (start : State) (result : R) (end : State) → Makes program start result end → NotFewer start end
not_fewer program start result end m = subst (λ (s : State). NotFewer start s) m.made.ends (never_falls start m.events m.made.lawful)

made_fine : {R : Type 0} (fine : R → Bool) (program : Program Call Reply R) (start : State) (result : R) (end : State) → EndsIn fine program → Makes program start result end → Rose start end ⊎ (fine result ≡ true)
made_fine fine program start result end ends m = elim (well_or_risen start m.events m.made.lawful m.had_memory) as (λ _. Rose start end ⊎ (fine result ≡ true)) [
  | inl risen ↦ inl (subst (λ (s : State). Rose start s) m.made.ends risen)
  | inr well ↦ inr (ends_fine fine (greets_first program) m.events result (λ reply fits. inr (inr ends)) well m.made.own m.runs)
]

no_fault : (R : Type 0) (why : Stuck) → is_no_fault {A = R} (Err why) ≡ true → why ≡ stuck.Fault → ⊥
no_fault R why fine is = let bad : false ≡ true = subst (λ (w : Stuck). is_no_fault {A = R} (Err w) ≡ true) is fine in cc

kept_stuck : (h : Option WriterHandle) (r : Result ℕ Stuck) (why : Stuck) → keeps_well h r ≡ true → stuck_of h r ≡ Some why → why ≡ stuck.Fault → ⊥
kept_stuck None (Ok n) why kept is bad = let wrong : false ≡ true = kept in cc
kept_stuck None (Err w) why kept is bad = no_fault ℕ w kept (let same : w ≡ stuck.Fault = cc in same)
kept_stuck (Some handle) (Ok n) why kept is bad = cc
kept_stuck (Some handle) (Err w) why kept is bad = no_fault ℕ w kept (let same : w ≡ stuck.Fault = cc in same)

module _ (start : State) where
  caused_in : {R : Type 0} (fine : R → Bool) (program : Program Call Reply R) (now : State) (result : R) (why : Stuck) (end : State) → EndsIn fine program → NotFewer start now → Makes program now result end → (fine result ≡ true → why ≡ stuck.Fault → ⊥) → IsCausedIn start why end
  caused_in fine program now result why end ends le makes good = elim (made_fine fine program now result end ends makes) as (λ _. IsCausedIn start why end) [
    | inl risen ↦ inl (risen_before start.store.faults now.store.faults end.store.faults le risen)
    | inr fits ↦ inr (good fits)
  ]

  lasts : LastsBehind (NotFewer start)
  lasts R program now result end le makes = (let more = not_fewer program now result end makes in omega (arith, le, more))

  ends : CopiesEnd (NotFewer start) (IsCausedIn start)
  ends = record {
    finds = λ name now why end le makes. caused_in is_no_fault (free_program name) now (Err why) why end (free_well name) le makes (no_fault (Unit {0}) why);
    cuts = λ name now why end le makes. caused_in is_no_fault (truncate_program name 0) now (Err why) why end (truncate_well name 0) le makes (no_fault ℕ why);
    opens = λ name host now why end le makes. caused_in is_no_fault (open_program name host 1) now (Err why) why end (open_well name host 1) le makes (no_fault WriterHandle why);
    writes = λ handle at block now out end le makes why stuck. caused_in stays_well (write_program handle at block) now out why end (write_stays handle at block) le makes (λ kept. kept_stuck out.handle out.result why kept stuck);
    syncs = λ handle now out end le makes why stuck. caused_in stays_well (sync_program handle) now out why end (sync_stays handle) le makes (λ kept. kept_stuck out.handle out.result why kept stuck);
    closes = λ handle now out end le makes why is. caused_in ends_well (close_program handle) now out why end (close_well handle) le makes (λ fine. no_fault ℕ why (subst (λ (r : Result ℕ Stuck). is_no_fault r ≡ true) is fine));
    is_too_far = λ end le. inr (λ is. cc);
  }

  fault_caused : (why : Stuck) (end : State) → IsCausedIn start why end → ◌≡◌ {A = Result Copied Stuck} (Err why) (Err stuck.Fault) → Rose start end
  fault_caused why end (inl risen) bad = risen
  fault_caused why end (inr good) bad = absurd (good (let is : why ≡ stuck.Fault = cc in is))

pub copy_caused : (name : Name) (host : ℕ) (over : Bool) (start : State) (old : Given) (told : Result Copied Stuck) (end : State) (new : Given) → Copies name host over start old told end new → IsFault told → HasRisen start.store.faults end.store.faults
copy_caused name host over start old (Ok copied) end new copies bad = absurd (cc)
copy_caused name host over start old (Err why) end new copies bad = fault_caused start why end (copy_stuck (NotFewer start) (IsCausedIn start) (lasts start) (ends start) name host over start old why end new (omega arith) copies) bad
