-- A play's lines are what the plain machine says, where no call met a fault.
use Rattle.std.proofs.Common.{◌≡◌, ◌≤◌, ◌<◌, ◌+◌, ◌-◌, ◌^◌, ℕ, zero, suc, inl, inr, List, [], ◌∷◌, length, map, Option, Some, refl, sym, ap, ◌∙◌, subst, arith}
use Rattle.std.specs.Prelude.{slice_get}
use Rattle.std.specs.List.{AllByRecursion}
use Rattle.std.proofs.lemmas.List.Elements.{recursion_from_All}
use Rattle.store_api.specs.declared.tree.Tree.{Tree}
use Rattle.store_api.specs.Acts.{Stored}
use Rattle.mount_sound.proofs.Shapes.Facts.{empty_shaped}
use Rattle.mount_model.specs.History.{Event, state_after}
use Rattle.mount_model.specs.Mounting.{IsMounted}
use Rattle.mount_model.specs.State.{State}
use Rattle.mount_model.specs.Table.{row_of}
use Rattle.mount_model.specs.declared.row.Row.{Row}
use Rattle.mount_model.proofs.Facts.{step_causes}
use Rattle.mount_sound.specs.Owed.{IsLawful, IsNotLive}
use Rattle.mount_sound.specs.Sound.{IsSoundTree}
use Rattle.mount_sound.proofs.Facts.{mounted_sound, no_writes}
use Rattle.mount_core.specs.Memory.{HadMemory}
use Rattle.mount_model.specs.Performers.{performer}
use Rattle.script_lang.specs.declared.line.Line.{Line}
use Rattle.script_lang.specs.declared.script.ActorDecl.{ActorDecl}
use Rattle.script_lang.specs.declared.script.Numbered.{Numbered}
use Rattle.script_lang.specs.declared.script.Phase.{Phase}
use Rattle.script_lang.specs.declared.script.Script.{Script}
use Rattle.script_lang.specs.Ranges.{FitsNumbered, FitsPhase, FitsScript}
use Rattle.reader_laws.specs.Moments.{Moment, moment_after, next_moment}
use Rattle.actor_core.specs.Progress.{fresh}
use Rattle.run_core.specs.Cast.{cast, cast_from, statements_in}
use Rattle.run_core.specs.Course.{course_of}
use Rattle.run_core.specs.Play.{IsPlay}
use Rattle.plain_machine.specs.Machine.{Plain, PlainActor, PlainWriter}
use Rattle.plain_machine.specs.ByName.{dead}
use Rattle.plain_machine.specs.Running.{IsNoStop, IsPlainPhase, IsPlainScript, nobody}
use Rattle.plain_plays.specs.Beginning.{bare_tree, first_machine}
use Rattle.plain_plays.specs.Mirrors.{Mirrors}
use Rattle.plain_plays.proofs.PlainSteps.Facts.{begins_so, machine_so}
use Rattle.plain_plays.specs.Saying.{BeginsPlainly, IsMirrored, MetNoFault, SaysOfSome, SaysPlainly}
use Rattle.plain_plays.proofs.Apart.{all_apart, drawn_first}
use Rattle.plain_plays.proofs.NotAlive.{DeadStayOut, dead_are_out, dead_first}
use Rattle.plain_plays.proofs.Phases.{AreResting, IsMeantPhase, phases_taken}
use Rattle.plain_plays.proofs.Written.{AllWell, IsMeant}

-- ---- no call met a fault

-- the count of faults never falls
pub faults_rise : (old : State) (events : List Event) → IsLawful old events → old.store.faults ≤ (state_after old events).store.faults
faults_rise old [] lawful = omega (arith)
faults_rise old (e ∷ events) lawful =
    let rest = faults_rise e.after events lawful.2 in
    let never = (step_causes old e.after e.caller e.ask e.reply lawful.1).never_falls in
    omega (arith, rest, never)

pub all_well : (old : State) (events : List Event) → IsLawful old events → HadMemory events → (state_after old events).store.faults ≤ old.store.faults → old.store.faults < 2 ^ 64 - 1 → AllWell events
all_well old [] lawful memory none counted = tt
all_well old (e ∷ events) lawful memory none counted =
    let rest = faults_rise e.after events lawful.2 in
    let causes = step_causes old e.after e.caller e.ask e.reply lawful.1 in
    let never = causes.never_falls in (
      (
        λ faulted. elim (causes.cause faulted) as (λ _. ⊥) [
          | inl risen ↦ absurd (omega (arith, rest, none, risen))
          | inr full ↦ absurd (omega (arith, rest, none, full, counted))
        ],
        memory.0,
      ),
      all_well e.after events lawful.2 memory.1 (omega (arith, never, none)) (omega (arith, rest, none, counted)),
    )

-- the state of a moment is that of the history
pub state_of : (m : Moment) (events : List Event) → (moment_after m events).state ≡ state_after m.state events
state_of m [] = refl
state_of m (e ∷ events) = state_of (next_moment m e) events

-- ---- the statements that the law is about

statements_meant : (count : ℕ) (statements : List Numbered) → AllByRecursion (FitsNumbered count) statements → AllByRecursion (λ (s : Numbered). IsNoStop s.statement) statements → AllByRecursion (IsMeant count) statements
statements_meant count [] fits plain = tt
statements_meant count (s ∷ ss) fits plain = (record { fits = fits.0; no_stop = plain.0 }, statements_meant count ss fits.1 plain.1)

phases_meant : (count : ℕ) (phases : List Phase) → AllByRecursion (FitsPhase count) phases → AllByRecursion IsPlainPhase phases → AllByRecursion (IsMeantPhase count) phases
phases_meant count [] fits plain = tt
phases_meant count (phase ∷ phases) fits plain = (
  record {
    no_turns = plain.0.no_turns;
    statements = statements_meant count phase.statements (recursion_from_All (FitsNumbered count) phase.statements fits.0.numbered) (recursion_from_All (λ (s : Numbered). IsNoStop s.statement) phase.statements plain.0.no_stops);
  },
  phases_meant count phases fits.1 plain.1,
)

-- ---- the actors as a play begins

none_at : {X : Type 0} (n : ℕ) (x : X) → slice_get [] n ≡ Some x → ⊥
none_at n x e = cc

some_one : {X : Type 0} (a b : X) → Some a ≡ Some b → a ≡ b
some_one a b e = cc

cast_at : (from : ℕ) (phases : List Phase) (actors : List ActorDecl) (n : ℕ) (declared : ActorDecl) → slice_get actors n ≡ Some declared → slice_get (cast_from from phases actors) n ≡ Some (performer (from + n) (course_of (from + n) phases declared) [])
cast_at from phases [] n declared e = absurd (none_at n declared e)
cast_at from phases (d ∷ actors) zero declared e =
    let same : d ≡ declared = some_one d declared e in
    let at : from ≡ from + 0 = omega arith in
    λ i. Some (performer (at i) (course_of (at i) phases (same i)) [])
cast_at from phases (d ∷ actors) (suc n) declared e =
    let at : (from + 1) + n ≡ from + suc n = omega arith in
    cast_at (from + 1) phases actors n declared e ∙ (λ i. Some (performer (at i) (course_of (at i) phases declared) []))

nobody_at : (actors : List ActorDecl) (n : ℕ) (declared : ActorDecl) → slice_get actors n ≡ Some declared → slice_get (map nobody actors) n ≡ Some (nobody declared)
nobody_at [] n declared e = absurd (none_at n declared e)
nobody_at (d ∷ actors) zero declared e = ap (λ (x : ActorDecl). Some (nobody x)) (some_one d declared e)
nobody_at (d ∷ actors) (suc n) declared e = nobody_at actors n declared e

begin : (script : Script) (m : Moment) (p : Plain) → p.actors ≡ map nobody script.actors → AreResting m p script.phases script.actors (cast script)
begin script m p actors place declared at = record {
  kept = fresh declared.host declared.cap;
  stands = record {
    actor = nobody declared;
    has = record { there = ap (λ (l : List PlainActor). slice_get l place) actors ∙ nobody_at script.actors place declared at; its_own = tt };
    reader = tt;
    host = refl;
    cap = refl;
    unarmed = refl;
    stays = refl;
  };
  is = cast_at 0 script.phases script.actors place declared at ∙ (let same : 0 + place ≡ place = omega arith in λ i. Some (performer (same i) (course_of (same i) script.phases declared) []));
}

-- ---- the law

-- A play's lines are what the machine says that had what the mount had.
pub plays_so : (script : Script) (start end : State) (lines : List Line) (p : Plain) → FitsScript script → IsPlainScript script → BeginsPlainly script start p → IsPlay script start lines end → MetNoFault start end → SaysPlainly script p lines end
plays_so script start end lines p fits plain begins play well =
    let m : Moment = record { state = start; issued = begins.mirrored.issued } in
    let count : ℕ = length script.actors in
    let meant = phases_meant count script.phases (recursion_from_All (FitsPhase count) script.phases fits.phased) (recursion_from_All IsPlainPhase script.phases plain) in
    let faults : (state_after start play.history).store.faults ≡ start.store.faults = ap (λ (s : State). s.store.faults) play.leads.ends ∙ well.none in
    let calls = all_well start play.history play.leads.lawful play.had_memory (omega (arith, faults)) well.counted in
    let t = phases_taken script.actors script.phases lines m p (cast script) play.history begins.mirrored.mirrors (dead_first m p begins.mirrored.mirrors begins.dead_out) meant (begin script m p begins.actors) play.leads.lawful calls play.in_turns in
    let last : (moment_after m play.history).state ≡ end = state_of m play.history ∙ play.leads.ends in
    record {
      last = t.last;
      takes = t.takes;
      mirrored = record { issued = (moment_after m play.history).issued; mirrors = subst (λ (s : State). Mirrors (record { state = s; issued = (moment_after m play.history).issued }) t.last) last t.mirrors };
      dead_out = dead_are_out end t.last (subst (λ (s : State). DeadStayOut s t.last) last t.out);
      apart = λ before. all_apart script.actors p (statements_in script.phases) lines t.last (drawn_first m p begins.mirrored.mirrors) before t.takes;
    }

-- ---- a mount as it begins

-- no writer is live in a table that has none
all_out : (state : State) (ws : List PlainWriter) → state.table.writers ≡ [] → AllByRecursion (λ (w : PlainWriter). IsNotLive state w.id) ws
all_out state [] none = tt
all_out state (w ∷ ws) none = (λ row found. absurd (no_row w.id row (sym (ap (λ (rows : List Row). row_of w.id rows) none) ∙ found)), all_out state ws none)
  where
    no_row : (id : ℕ) (row : Row) → row_of id [] ≡ Some row → ⊥
    no_row id row e = cc

pub begins_on : (script : Script) (serial : ℕ) (times : Option (List ℕ)) (opened : Stored) (start : State) (p : Plain) → IsMounted serial times opened start → IsMirrored start p → p.actors ≡ map nobody script.actors → BeginsPlainly script start p
begins_on script serial times opened start p mounted mirrored actors = record { mirrored = mirrored; actors = actors; dead_out = λ n room there. all_out start (dead room) mounted.no_writers }

-- ---- a mount over a store without rooms

bare_sound : IsSoundTree bare_tree
bare_sound = record {
  shaped = empty_shaped bare_tree refl;
  issued = λ number writer. [];
  rooms = λ number room there. absurd (none_at number room there);
  writes = λ number writer. no_writes writer;
  all_landed = λ number room there writer fits. absurd (none_at number room there);
  fitting = λ number writer past. refl;
  roomless = λ number writer e. refl;
  flats = λ number room there. absurd (none_at number room there);
}

pub bare_mirrored : (actors : List PlainActor) (times : Option (List ℕ)) (opened : Stored) (start : State) → opened.tree ≡ Some bare_tree → IsMounted 0 times opened start → IsMirrored start (first_machine actors times start.mount)
bare_mirrored actors times opened start bare mounted =
    let m : Moment = record { state = start; issued = bare_sound.issued } in
    record { issued = bare_sound.issued; mirrors = begins_so times opened m actors bare mounted (mounted_sound 0 times opened start bare_tree mounted bare bare_sound) }

pub begun_so : (script : Script) (times : Option (List ℕ)) (opened : Stored) (start end : State) (lines : List Line) → FitsScript script → IsPlainScript script → opened.tree ≡ Some bare_tree → IsMounted 0 times opened start → IsPlay script start lines end → MetNoFault start end
    → SaysPlainly script (first_machine (map nobody script.actors) times start.mount) lines end
begun_so script times opened start end lines fits plain bare mounted play well =
    let p : Plain = first_machine (map nobody script.actors) times start.mount in
    plays_so script start end lines p fits plain (begins_on script 0 times opened start p mounted (bare_mirrored (map nobody script.actors) times opened start bare mounted) refl) play well

-- ---- a mount over a sound tree

-- a machine that begins with it
pub record MachineBegins (script : Script) (start : State) : Type 0 where
  pub machine : Plain
  pub begins : BeginsPlainly script start machine

pub machine_begins : (script : Script) (serial : ℕ) (times : Option (List ℕ)) (opened : Stored) (tree : Tree) (start : State) → opened.tree ≡ Some tree → IsSoundTree tree → IsMounted serial times opened start → MachineBegins script start
machine_begins script serial times opened tree start told sound mounted =
    let m : Moment = record { state = start; issued = sound.issued } in
    let found = machine_so m (map nobody script.actors) (mounted_sound serial times opened start tree mounted told sound) mounted.no_holders in
    record { machine = found.machine; begins = begins_on script serial times opened start found.machine mounted (record { issued = sound.issued; mirrors = found.mirrors }) found.has_actors }

pub sound_so : (script : Script) (serial : ℕ) (times : Option (List ℕ)) (opened : Stored) (tree : Tree) (start end : State) (lines : List Line) → FitsScript script → IsPlainScript script → opened.tree ≡ Some tree → IsSoundTree tree → IsMounted serial times opened start → IsPlay script start lines end → MetNoFault start end
    → SaysOfSome script start lines end
sound_so script serial times opened tree start end lines fits plain told sound mounted play well =
    let found = machine_begins script serial times opened tree start told sound mounted in
    record { machine = found.machine; begins = found.begins; says = plays_so script start end lines found.machine fits plain found.begins play well }
