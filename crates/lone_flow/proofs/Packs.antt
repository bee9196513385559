-- What is known of a migration that caller 0 ran by itself.
use Rattle.std.proofs.Common.{◌≡◌, inl, inr, ℕ, List, [], ◌∷◌, Result, Ok, Err, IfOk, refl, sym, subst}
use Rattle.std.specs.List.{AllByRecursion}
use Rattle.std.specs.Prelude.{OnErr}
use Rattle.plfs_types.specs.Counts.{HasRisen}
use Rattle.mount_model.specs.declared.stuck.Stuck.{Stuck}
use Rattle.mount_model.specs.Running.{Runs, asking}
use Rattle.mount_model.specs.Standing.{Standing, ready}
use Rattle.mount_model.proofs.Flows.Facts.{runs_next}
use Rattle.mount_model.specs.declared.call.Ask.{Ask}
use Rattle.mount_model.specs.declared.call.Call.{Call}
use Rattle.mount_model.specs.declared.call.Call.TheVariants.{Greet}
use Rattle.mount_model.specs.declared.reply.Reply.{Reply}
use Rattle.mount_model.specs.History.{Event, state_after}
use Rattle.mount_model.specs.State.{State}
use Rattle.mount_sound.specs.Issued.{issued_after}
use Rattle.mount_sound.specs.Ledger.{Ledger}
use Rattle.mount_model.specs.Step.{IsStep}
use Rattle.mount_sound.specs.Owed.{IsLawful, Permits}
use Rattle.mount_sound.specs.Sound.{IsClean, IsFine, IsSoundFor}
use Rattle.mount_sound.proofs.Facts.{later}
use Rattle.mount_model.specs.Program.{Program}
use Rattle.mount_model.specs.Safe.{IsSafe}
use Rattle.migrate_core.specs.declared.migrated.Migrated.{Migrated}
use Rattle.migrate_core.specs.Migrating.{migrate_program}
use Rattle.migrate_laws.specs.Migrated.{HasMigrated}
use Rattle.migrate_laws.specs.Moments.{IsLooking}
use Rattle.migrate_laws.proofs.Facts.{migrated_later}
use Rattle.trouble_laws.specs.Ends.{AlwaysEnds}
use Rattle.trouble_laws.specs.Undamaged.{IsUndamaged}
use Rattle.lone_flow.specs.Driving.{BeginsToDrive, BeginsToMake, Drives, Makes, MayDrive, greets_first}
use Rattle.lone_flow.specs.Faults.{IsFault}
use Rattle.lone_flow.specs.Migrating.{Migrates}
use Rattle.lone_flow.proofs.Causes.{run_caused}
use Rattle.lone_flow.proofs.Migrations.{migration_well}

-- what its calls were behind the greeting, from a sound state
record Behind {R : Type 0} (program : Program Call Reply R) (result : R) (end : State) : Type 0 where
  pub issued : Ledger
  pub start : State
  pub events : List Event
  pub lawful : IsLawful start events
  pub sound : IsSoundFor issued start
  pub runs : Runs 0 program events result
  pub ends : state_after start events ≡ end

behind_greeting : {R : Type 0} (program : Program Call Reply R) (start : State) (events : List Event) (result : R) (issued : Ledger) → IsLawful start events → IsSoundFor issued start → AllByRecursion (λ (e : Event). e.caller ≡ 0) events → Runs 0 (greets_first program) events result → Behind program result (state_after start events)
behind_greeting program start [] result issued lawful sound own runs = absurd runs
behind_greeting program start (e ∷ es) result issued lawful sound own runs = elim (runs_next 0 Greet (λ reply. program) e es result runs) as (λ _. Behind program result (state_after e.after es)) [
  | inl (other, on) ↦ absurd (other own.0)
  | inr (mine, asked, on) ↦ record {
    issued = issued_after issued start e.ask.call e.reply;
    start = e.after;
    events = es;
    lawful = lawful.2;
    sound = later issued start e.after e.caller e.ask e.reply lawful.0 lawful.1 sound;
    runs = on;
    ends = refl;
  }
]

behind : {R : Type 0} (program : Program Call Reply R) (start : State) (result : R) (end : State) → Makes program start result end → IsFine start → IsClean start → Behind program result end
behind program start result end m fine clean =
    let s = fine.sound clean in
    subst (λ (z : State). Behind program result z) m.made.ends (behind_greeting program start m.events result s.0 m.made.lawful s.1 m.made.own m.runs)

-- ---- of a migration

-- what the law of a migration says
abbrev pub LeavesNoWriterOut : Type 0
LeavesNoWriterOut = (caller : ℕ) (name : List ℕ) (issued : Ledger) (start : State) (events : List Event) (out : Migrated) → IsLawful start events → IsSoundFor issued start → Runs caller (migrate_program name) events (Ok out) → HasMigrated caller name start events out

-- it holds from the greeting on
shown : (name : List ℕ) (start : State) (events : List Event) (out : Migrated) (issued : Ledger) → LeavesNoWriterOut → IsLawful start events → IsSoundFor issued start → AllByRecursion (λ (e : Event). e.caller ≡ 0) events → Runs 0 (greets_first (migrate_program name)) events (Ok out) → HasMigrated 0 name start events out
shown name start [] out issued law lawful sound own runs = absurd runs
shown name start (e ∷ es) out issued law lawful sound own runs = elim (runs_next 0 Greet (λ reply. migrate_program name) e es (Ok out) runs) as (λ _. HasMigrated 0 name start (e ∷ es) out) [
  | inl (other, on) ↦ absurd (other own.0)
  | inr (mine, asked, on) ↦ migrated_later start [] e es 0 out tt (subst (λ (a : Ask). IsLooking a.call) (sym asked) tt) name
      (law 0 name (issued_after issued start e.ask.call e.reply) e.after es out lawful.2 (later issued start e.after e.caller e.ask e.reply lawful.0 lawful.1 sound) on)
]

shows : (name : List ℕ) (start : State) (result : Result Migrated Stuck) (end : State) → LeavesNoWriterOut → (m : Makes (migrate_program name) start result end) → IsFine start → IsClean start → IfOk result (λ out. HasMigrated 0 name start m.events out)
shows name start (Err why) end law m fine clean = tt
shows name start (Ok out) end law m fine clean = let s = fine.sound clean in shown name start m.events out s.0 law m.made.lawful s.1 m.made.own m.runs

undamaged : (name : List ℕ) (start : State) (result : Result Migrated Stuck) (end : State) → AlwaysEnds IsUndamaged (migrate_program name) → Makes (migrate_program name) start result end → IsFine start → IsClean start → IsUndamaged result
undamaged name start result end law made fine clean =
    let b = behind (migrate_program name) start result end made fine clean in
    law 0 b.issued b.start b.events result b.lawful b.sound b.runs

caused : (name : List ℕ) (start : State) (result : Result Migrated Stuck) (end : State) → Makes (migrate_program name) start result end → IsFault result → HasRisen start.store.faults end.store.faults
caused name start result end m bad =
    subst (λ (z : State). HasRisen start.store.faults z.store.faults) m.made.ends
    (run_caused (greets_first (migrate_program name)) start m.events result (λ reply answered. migration_well name) m.made.lawful m.had_memory m.made.own m.runs bad)

-- ---- what a driver answers

module _ (name : List ℕ) (start end : State) (standing : Standing Call Reply (Result Migrated Stuck)) (is : standing ≡ ready (migrate_program name)) where
  made_so : (ended : Result Migrated Stuck) → Drives standing start ended end → Makes (migrate_program name) start ended end
  made_so ended d = subst (λ (s : Standing Call Reply (Result Migrated Stuck)). Drives s start ended end) is d

  pub all_made : {E : Type 0} (result : Result (Result Migrated Stuck) E) → LeavesNoWriterOut → IsFine start → IfOk result (λ ended. Drives standing start ended end) → IfOk result (λ ended. Migrates name start ended end)
  all_made (Ok ended) law fine d = record { made = made_so ended d; shows = shows name start ended end law (made_so ended d) fine }
  all_made (Err none) law fine d = tt

  pub all_caused : {E : Type 0} (result : Result (Result Migrated Stuck) E) → IfOk result (λ ended. Drives standing start ended end) → IfOk result (λ ended. IsFault ended → HasRisen start.store.faults end.store.faults)
  all_caused (Ok ended) d = caused name start ended end (made_so ended d)
  all_caused (Err none) d = tt

  pub all_undamaged : {E : Type 0} (result : Result (Result Migrated Stuck) E) → AlwaysEnds IsUndamaged (migrate_program name) → IsFine start → IfOk result (λ ended. Drives standing start ended end) → IfOk result (λ ended. IsClean start → IsUndamaged ended)
  all_undamaged (Ok ended) law fine d = undamaged name start ended end law (made_so ended d) fine
  all_undamaged (Err none) law fine d = tt

  pub all_broken : {E : Type 0} (result : Result (Result Migrated Stuck) E) → OnErr result (BeginsToDrive standing start end) → OnErr result (BeginsToMake (migrate_program name) start end)
  all_broken (Ok ended) broken = tt
  all_broken (Err none) broken = subst (λ (s : Standing Call Reply (Result Migrated Stuck)). BeginsToDrive s start end) is broken

-- the law that a migration is always allowed
abbrev pub IsAlwaysAllowed : Type 0
IsAlwaysAllowed = (caller : ℕ) (name : List ℕ) (state : State) → IsFine state → IsSafe IsStep Permits caller (asking (migrate_program name)) state

pub may_migrate : (name : List ℕ) (start : State) (standing : Standing Call Reply (Result Migrated Stuck)) → standing ≡ ready (migrate_program name) → IsAlwaysAllowed → IsFine start → MayDrive standing start
may_migrate name start standing is law fine = subst (λ (s : Standing Call Reply (Result Migrated Stuck)). MayDrive s start) (sym is) (law 0 name start fine)
