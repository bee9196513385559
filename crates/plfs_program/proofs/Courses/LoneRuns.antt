-- Calls that a caller by itself makes on a mount that a plain machine mirrors.
use Rattle.std.proofs.Common.{◌≡◌, ◌≤◌, ◌+◌, ℕ, List, [], ◌∷◌, ◌++◌, length, Option, None, Some, Result, Ok, Err, sym, ap, refl, ◌∙◌, inl, inr, subst, arith}
use Rattle.std.specs.Prelude.{min}
use Rattle.mount_model.specs.declared.call.Ask.{Ask}
use Rattle.mount_model.specs.declared.call.Call.{Call}
use Rattle.mount_model.specs.declared.call.Call.TheVariants.{Find, Greet, Look}
use Rattle.mount_model.specs.declared.reply.Reply.{Reply}
use Rattle.mount_model.specs.declared.stuck.Stuck.{Stuck as Trouble}
use Rattle.mount_model.specs.History.{AreBy, Event, state_after}
use Rattle.mount_model.specs.Paths.{Name}
use Rattle.mount_model.specs.Program.{AsksOnly, Program, ask, done}
use Rattle.mount_model.specs.Running.{Runs}
use Rattle.mount_model.specs.State.{State}
use Rattle.mount_model.proofs.Flows.Facts.{runs_next}
use Rattle.mount_sound.specs.Owed.{IsLawful}
use Rattle.migrate_laws.specs.Moments.{IsLooking}
use Rattle.index_reader.proofs.Facts.{IsLook, OnlyLooks}
use Rattle.index_reader.specs.declared.opened.OpenReader.{OpenReader}
use Rattle.read_plan.specs.Plan.{plan_of}
use Rattle.reader_laws.specs.Moments.{Moment, moment_after, next_moment}
use Rattle.unit_format.specs.declared.finding.Region.{Region}
use Rattle.unit_format.specs.declared.finding.Unit.{Unit as Found}
use Rattle.unit_format.specs.declared.units.TheConstants.{MAX_CONTENT}
use Rattle.pack_files.specs.declared.scan.ScanStuck.{ScanStuck}
use Rattle.pack_files.specs.Scanning.{scan_program}
use Rattle.lone_flow.specs.Driving.{AreMade, Makes, greets_first}
use Rattle.lone_flow.specs.Naming.{NamesIn}
use Rattle.lone_flow.specs.Scans.{ScansAll, ScansFrom}
use Rattle.lone_flow.specs.Unpacking.{ReadsFound, ReadsIn, reads, scans_stuck, unit_program}
use Rattle.lone_flow.proofs.SmallReads.Looked.{made_both}
use Rattle.lone_flow.proofs.SmallReads.Looks.{read_looks, scan_looks}
use Rattle.plain_machine.specs.Machine.{Plain}
use Rattle.plain_plays.specs.ByItself.{AreIdle}
use Rattle.plain_plays.specs.Mirrors.{Mirrors}
use Rattle.plain_plays.specs.Saying.{IsMirrored, MetNoFault}
use Rattle.plain_plays.specs.Served.{GoesWell}
use Rattle.plain_plays.proofs.Facts.{AllWell, all_well, asked_only, faults_rise, goes_well, idle_mirrors, state_of}

-- ---- calls that greet and look

-- calls lead from one state to the other, each of which greets or looks
pub record StaysIdle (start end : State) : Type 0 where
  pub events : List Event
  pub made : AreMade start events end
  pub idle : AreIdle events

idle_append : (xs ys : List Event) → AreIdle xs → AreIdle ys → AreIdle (xs ++ ys)
idle_append [] ys x y = y
idle_append (e ∷ xs) ys x y = (x.0, idle_append xs ys x.1 y)

idle_none : (state : State) → StaysIdle state state
idle_none state = record { events = []; made = record { lawful = tt; ends = refl; own = tt }; idle = tt }

idle_both : (a b c : State) → StaysIdle a b → StaysIdle b c → StaysIdle a c
idle_both a b c x y = record { events = x.events ++ y.events; made = made_both a b c x.events y.events x.made y.made; idle = idle_append x.events y.events x.idle y.idle }

look_idle : (call : Call) → IsLook call → IsLooking call
look_idle (Find name) is = tt
look_idle (Look room look) is = tt
look_idle call is = absurd is

asks_idle : {R : Type 0} (program : Program Call Reply R) → OnlyLooks program → AsksOnly IsLooking program
asks_idle (done result) looks = tt
asks_idle (ask call k) looks = (look_idle call looks.0, λ reply. asks_idle (k reply) (looks.1 reply))

idle_made : {R : Type 0} (program : Program Call Reply R) (start : State) (result : R) (end : State) → OnlyLooks program → Makes program start result end → StaysIdle start end
idle_made program start result end looks m = record { events = m.events; made = m.made; idle = asked_only IsLooking 0 m.events (greets_first program) result (tt, λ reply. asks_idle program looks) m.made.own m.runs }

-- ---- small files that are read

module _ (reader : OpenReader) where
  scans_idle : (region : ℕ) (start : State) (regions : List Region) (end : State) → ScansFrom reader region start regions end → StaysIdle start end
  scans_idle region start [] end same = subst (StaysIdle start) (sym same) (idle_none start)
  scans_idle region start (r ∷ regions) end (next, makes, more) =
      idle_both start next end (idle_made (scan_program reader region) start (Ok r) next (scan_looks reader region) makes) (scans_idle (region + 1) next regions end more)

  all_idle : (start : State) (told : Result (List Region) ScanStuck) (end : State) → ScansAll reader start told end → StaysIdle start end
  all_idle start (Ok regions) end (all, scans) = scans_idle 0 start regions end scans
  all_idle start (Err why) end up = idle_both start up.last end (scans_idle 0 start up.regions up.last up.scans) (idle_made (scan_program reader (length up.regions)) up.last (Err why) end (scan_looks reader (length up.regions)) up.ends)

  unit_idle : (unit : Found) (start : State) (read : Result (List ℕ) Trouble) (end : State) → Makes (unit_program reader unit) start read end → StaysIdle start end
  unit_idle unit start read end makes = idle_made (unit_program reader unit) start read end (read_looks reader.room reader.hosts (plan_of reader.pieces reader.size unit.at (min unit.len MAX_CONTENT))) makes

  found_idle : (found : Option Found) (start : State) (told : Result (Option (List ℕ)) ScanStuck) (end : State) → ReadsFound reader found start told end → StaysIdle start end
  found_idle None start told end (none, same) = subst (StaysIdle start) (sym same) (idle_none start)
  found_idle (Some unit) start (Ok None) end read = absurd read
  found_idle (Some unit) start (Ok (Some content)) end makes = unit_idle unit start (Ok content) end makes
  found_idle (Some unit) start (Err why) end (trouble, is, makes) = unit_idle unit start (Err trouble) end makes

  pub reads_idle : (file : Name) (start : State) (told : Result (Option (List ℕ)) ScanStuck) (end : State) → ReadsIn reader file start told end → StaysIdle start end
  reads_idle file start told end (reads regions scanned found all is read) = idle_both start scanned end (all_idle start (Ok regions) scanned all) (found_idle found scanned told end read)
  reads_idle file start told end (scans_stuck why same stuck) = all_idle start (Err why) end stuck

  pub names_idle : (start : State) (told : Result (List Name) ScanStuck) (end : State) → NamesIn reader start told end → StaysIdle start end
  names_idle start (Ok names) end (regions, all, same) = all_idle start (Ok regions) end all
  names_idle start (Err why) end stuck = all_idle start (Err why) end stuck

-- ---- what they leave

pub made_rises : (start : State) (events : List Event) (end : State) → AreMade start events end → start.store.faults ≤ end.store.faults
made_rises start events end made = subst (λ (s : State). start.store.faults ≤ s.store.faults) made.ends (faults_rise start events made.lawful)

-- no call before some others met a fault
pub none_before : {R : Type 0} (program : Program Call Reply R) (result : R) (a b c : State) → Makes program a result b → StaysIdle b c → MetNoFault a c → MetNoFault a b
none_before program result a b c first later none =
    let begins = made_rises a first.events b first.made in
    let goes_on = made_rises b later.events c later.made in
    let same = none.none in
    record { none = omega (arith, begins, goes_on, same); counted = none.counted }

pub idle_leaves : (m : Moment) (p : Plain) (start end : State) → m.state ≡ start → StaysIdle start end → Mirrors m p → IsMirrored end p
idle_leaves m p start end here idles o =
    let s : StaysIdle m.state end = subst (λ z. StaysIdle z end) (sym here) idles in
    let last : Moment = moment_after m s.events in
    let is : last.state ≡ end = state_of m s.events ∙ s.made.ends in
    record { issued = last.issued; mirrors = subst (λ (z : State). Mirrors (record { state = z; issued = last.issued }) p) is (idle_mirrors m p s.events s.made.lawful s.idle o) }

-- ---- a program behind its greeting

pub record IsAlone {R : Type 0} (program : Program Call Reply R) (m : Moment) (result : R) (end : State) : Type 0 where
  pub greeting : Event
  pub events : List Event
  pub first : IsLawful m.state (greeting ∷ [])
  pub greets : AreIdle (greeting ∷ [])
  pub lawful : IsLawful (next_moment m greeting).state events
  pub well : GoesWell 0 events
  pub by : AreBy 0 events
  pub runs : Runs 0 program events result
  pub ends : (moment_after (next_moment m greeting) events).state ≡ end

alone_from : {R : Type 0} (program : Program Call Reply R) (m : Moment) (events : List Event) (result : R) → IsLawful m.state events → AreBy 0 events → AllWell events → Runs 0 (greets_first program) events result → IsAlone program m result (state_after m.state events)
alone_from program m [] result lawful own well runs = absurd runs
alone_from program m (e ∷ es) result lawful own well runs = elim (runs_next 0 Greet (λ reply. program) e es result runs) as (λ _. IsAlone program m result (state_after e.after es)) [
  | inl (other, on) ↦ absurd (other own.0)
  | inr (mine, asked, on) ↦ record {
    greeting = e;
    events = es;
    first = (lawful.0, lawful.1, tt);
    greets = ((ap (λ (a : Ask). a.stop) asked, subst IsLooking (sym (ap (λ (a : Ask). a.call) asked)) tt), tt);
    lawful = lawful.2;
    well = goes_well 0 es well.1;
    by = own.1;
    runs = on;
    ends = state_of (next_moment m e) es;
  }
]

pub alone : {R : Type 0} (program : Program Call Reply R) (m : Moment) (result : R) (end : State) → Makes program m.state result end → MetNoFault m.state end → IsAlone program m result end
alone program m result end makes none =
    let faults : (state_after m.state makes.events).store.faults ≡ m.state.store.faults = ap (λ (s : State). s.store.faults) makes.made.ends ∙ none.none in
    let well = all_well m.state makes.events makes.made.lawful makes.had_memory (omega (arith, faults)) none.counted in
    subst (IsAlone program m result) makes.made.ends (alone_from program m makes.events result makes.made.lawful makes.made.own well makes.runs)

-- the machine is mirrored behind the greeting too
pub greeted_mirrors : {R : Type 0} (program : Program Call Reply R) (m : Moment) (result : R) (end : State) (p : Plain) (a : IsAlone program m result end) → Mirrors m p → Mirrors (next_moment m a.greeting) p
greeted_mirrors program m result end p a o = idle_mirrors m p (a.greeting ∷ []) a.first a.greets o
