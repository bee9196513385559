-- The region is read before anything is written, and the machine's file has what was found there.
use Rattle.std.proofs.Common.{◌≡◌, ◌≤◌, ◌<◌, ◌-◌, ◌^◌, ℕ, inl, inr, List, [], ◌∷◌, ◌++◌, Option, Some, None, Result, Ok, Err, refl, sym, ap, ◌∙◌, subst, arith}
use Rattle.std.specs.Prelude.{slice_get}
use Rattle.plfs_types.specs.Counts.{HasRisen}
use Rattle.index_entry.specs.Records.{IsBytes}
use Rattle.plain_file.proofs.Facts.{All-Among}
use Rattle.turn_object.proofs.Facts.{state_append}
use Rattle.mount_core.specs.Memory.{HadMemory}
use Rattle.mount_model.specs.declared.reply.Refusal.TheVariants as refusal
use Rattle.mount_model.specs.declared.reply.Reply.TheVariants.{NoMemory}
use Rattle.mount_model.specs.declared.stuck.Stuck.{Stuck}
use Rattle.mount_model.specs.declared.stuck.Stuck.TheVariants as stuck
use Rattle.mount_model.specs.FlowListed.{file_in}
use Rattle.mount_model.specs.FlowReplies.{Tries, given, on_ok, room_in, trouble}
use Rattle.mount_model.specs.History.{AreBy, Event, state_after}
use Rattle.mount_model.specs.Paths.{Name}
use Rattle.mount_model.specs.Program.{ask, done, followed_by}
use Rattle.mount_model.specs.Running.{Runs}
use Rattle.mount_model.specs.State.{State}
use Rattle.mount_sound.specs.Owed.{IsLawful}
use Rattle.mount_sound.proofs.Facts.{lawful_first, lawful_rest}
use Rattle.reader_laws.specs.Failing.{WantsMemory}
use Rattle.reader_laws.specs.Gathering.{Gathered}
use Rattle.reader_laws.specs.Moments.{IsSoundAt, Moment, moment_after}
use Rattle.reader_laws.specs.Opened.{HasOpenReader}
use Rattle.reader_laws.specs.View.{view}
use Rattle.reader_laws.proofs.Gathered.Facts.{any_found, sound_after}
use Rattle.index_reader.specs.declared.listing.Listing.{Listing}
use Rattle.index_reader.specs.declared.opened.OpenReader.{OpenReader}
use Rattle.index_reader.specs.declared.sharing.Share.{Share}
use Rattle.index_reader.specs.Opening.{open_at_program, open_read_program}
use Rattle.index_reader.specs.Truncs.{trunc_program}
use Rattle.index_reader.proofs.Facts.{IsLook}
use Rattle.gather_flow.specs.Gathering.{if_truncs_listed, reads_truncs}
use Rattle.gather_flow.specs.OneIndex.{reader_of}
use Rattle.gather_flow.specs.Shares.{by_itself, programs_from}
use Rattle.opening_flow.specs.Opening.{opening_program, opens, reads_as}
use Rattle.unit_format.specs.declared.finding.Region.{Region}
use Rattle.unit_format.specs.declared.units.TheConstants.{REGIONS}
use Rattle.pack_files.specs.declared.scan.ScanStuck.{ScanStuck}
use Rattle.pack_files.specs.Scanning.{scan_program}
use Rattle.pack_laws.specs.Scanned.{HasFailed, IsScanOf}
use Rattle.lone_flow.specs.Driving.{Makes}
use Rattle.lone_flow.proofs.SmallReads.Looks.{scan_looks}
use Rattle.writer_flow.specs.declared.handle.WriterHandle.{WriterHandle}
use Rattle.plain_machine.specs.Machine.{Plain, PlainReader, PlainRoom}
use Rattle.plain_machine.specs.Finding.{find}
use Rattle.plain_machine.specs.Landed.{bytes_seen, file_of}
use Rattle.plain_plays.specs.Asking.{read_in_program, reads_and_opens}
use Rattle.plain_plays.specs.Readers.{MirrorsReader}
use Rattle.plain_plays.specs.Served.{GoesWell}
use Rattle.plain_plays.proofs.NotAlive.{dead_later}
use Rattle.plain_plays.proofs.Packings.Called.{MeetsNoFault, called}
use Rattle.plain_plays.proofs.Packings.Taking.{IsThere}
use Rattle.plain_plays.proofs.Plays.{faults_rise, state_of}
use Rattle.plain_plays.proofs.PlainSteps.ByName.Found.{finds}
use Rattle.plain_plays.proofs.PlainSteps.ByName.Looking.{IsAlike, alike_both, handle_alike, machine_alike, run_alike}
use Rattle.plain_plays.proofs.PlainSteps.Looks.Gathered.{HasGathered, gathered, sights_of}
use Rattle.plain_plays.proofs.PlainSteps.Looks.Opened.{mirrored}
use Rattle.plain_plays.proofs.PlainSteps.Looks.Readers.{lawful_both, seen_bytes}
use Rattle.plain_plays.proofs.PlainSteps.Reaching.{ended, over_alone}
use Rattle.plain_plays.proofs.PlainSteps.Steps.Alone.{asked_only}

-- ---- an opening by the caller is that of an actor which reads the shares by itself

-- what follows two programs follows the second
followed_both : {A B C : Type 0} (p : Tries A) (next : A → Tries B) (last : B → Tries C) → followed_by (followed_by p (on_ok next)) (on_ok last) ≡ followed_by p (on_ok (λ a. followed_by (next a) (on_ok last)))
followed_both (done (Ok a)) next last = refl
followed_both (done (Err because)) next last = refl
followed_both (ask q k) next last = λ i. ask q (λ reply. followed_both (k reply) next last i)

shares_both : {A B : Type 0} (programs : List (Tries Share)) (sofar : List Share) (first : List Share → Tries A) (last : A → Tries B) → followed_by (by_itself programs sofar first) (on_ok last) ≡ by_itself programs sofar (λ shares. followed_by (first shares) (on_ok last))
shares_both [] sofar first last = refl
shares_both (p ∷ programs) sofar first last =
    followed_both p (λ share. by_itself programs (sofar ++ share ∷ []) first) last ∙ (λ i. followed_by p (on_ok (λ share. shares_both programs (sofar ++ share ∷ []) first last i)))

opens_same : (listing : Listing) → opens 1 listing ≡ reads_and_opens 1 listing
opens_same listing =
    shares_both (programs_from 1 listing 0) [] (reads_truncs listing) reads_as
    ∙ (λ i. by_itself (programs_from 1 listing 0) [] (λ shares. followed_both (trunc_program listing.room) (if_truncs_listed listing shares) reads_as i))

opening_same : (name : Name) → opening_program name 1 ≡ read_in_program name 1
opening_same name = λ i. followed_by (open_read_program name) (on_ok (λ listing. opens_same listing i))

-- ---- looks leave the actor as it was

there_after : (m : Moment) (p : Plain) (handle : Option WriterHandle) (events : List Event) → IsLawful m.state events → IsAlike m (moment_after m events) → IsThere m p handle → IsThere (moment_after m events) p handle
there_after m p handle events lawful alike s =
    let next : Moment = moment_after m events in
    let sound : IsSoundAt next = sound_after m events lawful s.mirrors.sound in
    record {
      mirrors = machine_alike m next alike sound p s.mirrors;
      actor = s.actor;
      has = record { there = s.has.there; its_own = handle_alike m next alike sound p 0 handle s.actor.writer s.has.its_own };
      out = dead_later m events p lawful s.out;
    }

-- ---- a reader is opened

-- The reader has the machine's file of this name; or there is none, and the opening is refused.
pub data OpensFile (p : Plain) (name : Name) (m : Moment) (out : Result OpenReader Stuck) : Type 0 where
  opened : (reader : OpenReader) (number : ℕ) (room : PlainRoom) → find p name ≡ Some number → slice_get p.rooms number ≡ Some room → out ≡ Ok reader → MirrorsReader m reader (file_of number room) → OpensFile p name m out
  missing : find p name ≡ None → out ≡ Err (stuck.Refused refusal.NoRoom) → OpensFile p name m out

-- It was so at the end of calls that led to this state.
pub record OpensPlainly (p : Plain) (name : Name) (out : Result OpenReader Stuck) (end : State) : Type 0 where
  pub m : Moment
  pub at : m.state ≡ end
  pub there : IsThere m p None
  pub shows : OpensFile p name m out

module _ (m : Moment) (p : Plain) (s : IsThere m p None) (name : Name) where
  abbrev Reads : Moment → Result OpenReader Stuck → Type 0
  Reads last out = OpensFile p name last out × IsAlike m last

  reads_so : (events : List Event) (out : Result OpenReader Stuck) → IsLawful m.state events → GoesWell 0 events → AreBy 0 events → Runs 0 (read_in_program name 1) events out → Reads (moment_after m events) out
  reads_so events out lawful well by runs = elim (finds m 0 p s.mirrors name (λ reply. followed_by (given (room_in reply) (trouble (file_in [] []) reply) open_at_program) (on_ok (reads_and_opens 1))) events out lawful well by runs) as (λ _. Reads (moment_after m events) out) [
    | inr (g, alike, none) ↦
        let over : Err (stuck.Refused refusal.NoRoom) ≡ out = ended 0 (Err (stuck.Refused refusal.NoRoom)) g.rest out g.runs in
        let last : g.mid ≡ moment_after m events = ap (moment_after g.mid) (sym (over_alone 0 (Err (stuck.Refused refusal.NoRoom)) g.rest out g.by g.runs)) ∙ g.ends in
        (missing none (sym over), subst (IsAlike m) last alike)
    | inl (n, g, f) ↦
        let some : 1 ≤ 1 = omega arith in
        let h : HasGathered reader_of 1 g.mid n g.rest out = gathered reader_of 1 some n 0 g.mid g.rest out g.sound f.had g.lawful g.well g.by g.runs in
        let reader : OpenReader = reader_of h.listing h.shares h.truncs in
        let last : Moment = moment_after g.mid g.rest in
        let it : MirrorsReader last reader (file_of n f.room) = mirrored g.mid n g.rest reader h.opened h.room p f.mirrors f.room f.there in
        subst (λ x. Reads x out) g.ends (opened reader n f.room f.is f.there h.is it, alike_both m g.mid last f.alike h.last)
  ]

pub opens_file : (m : Moment) (p : Plain) (s : IsThere m p None) (name : Name) (start : State) (out : Result OpenReader Stuck) (end : State) → m.state ≡ start → Makes (opening_program name 1) start out end → MeetsNoFault start end → OpensPlainly p name out end
opens_file m p s name start out end at makes quiet =
    let c = called m (opening_program name 1) start out end at makes quiet in
    let runs : Runs 0 (read_in_program name 1) c.events out = subst (λ program. Runs 0 program c.events out) (opening_same name) c.runs in
    let r = reads_so m p s name c.events out c.lawful c.well c.by runs in
    record { m = moment_after m c.events; at = c.ends; there = there_after m p None c.events c.lawful r.1 s; shows = r.0 }

-- ---- its region is scanned

-- what the law of a scan says
abbrev pub ScanLaw : Type 0
ScanLaw = (caller region : ℕ) (start end : Moment) (reader : OpenReader) (cut : List Gathered) (between scanning : List Event) (told : Result Region ScanStuck)
    → region < REGIONS → IsLawful end.state (between ++ scanning) → IsSoundAt end → HasOpenReader start end reader cut → IsBytes (view end cut reader.truncs) → Runs caller (scan_program reader region) scanning told
    → IsScanOf caller (state_after end.state between) reader.pieces region (view end cut reader.truncs) scanning told

had_memory : (events : List Event) → GoesWell 0 events → AreBy 0 events → HadMemory events
had_memory [] well by = tt
had_memory (e ∷ events) well by = ((well.0 by.0).1, had_memory events well.1 by.1)

memory_first : (first rest : List Event) → HadMemory (first ++ rest) → HadMemory first
memory_first [] rest had = tt
memory_first (e ∷ first) rest had = (had.0, memory_first first rest had.1)

memory_rest : (first rest : List Event) → HadMemory (first ++ rest) → HadMemory rest
memory_rest [] rest had = had
memory_rest (e ∷ first) rest had = memory_rest first rest had.1

no_want : (events : List Event) → HadMemory events → WantsMemory 0 events → ⊥
no_want events had wants =
    let f = any_found (λ (e : Event). (e.caller ≡ 0) × (e.reply ≡ NoMemory)) events wants in
    All-Among (λ (e : Event). e.reply ≡ NoMemory → ⊥) events f.0 had f.1 f.2.1

not_risen : (a b c d : ℕ) → a ≤ b → b ≤ c → c ≤ d → d ≤ a → a < 2 ^ 64 - 1 → HasRisen b c → ⊥
not_risen a b c d first then last none counted (inl less) = omega (arith, first, last, none, less)
not_risen a b c d first then last none counted (inr most) = omega (arith, last, none, counted, most)

-- where nothing failed no call of the scan did
scan_fails : (start : State) (events : List Event) (why : Stuck) → IsLawful start events → HadMemory events → MeetsNoFault start (state_after start events) → HasFailed 0 start events why → ⊥
scan_fails start events why lawful had quiet f =
    let all : IsLawful start (f.before ++ (f.reading ++ f.later)) = subst (IsLawful start) f.split lawful in
    let one : State = state_after start f.before in
    let two : State = state_after one f.reading in
    let behind : IsLawful one (f.reading ++ f.later) = lawful_rest start f.before (f.reading ++ f.later) all in
    let a = faults_rise start f.before (lawful_first start f.before (f.reading ++ f.later) all) in
    let b = faults_rise one f.reading (lawful_first one f.reading f.later behind) in
    let c = faults_rise two f.later (lawful_rest one f.reading f.later behind) in
    let last : state_after two f.later ≡ state_after start events =
    sym (state_append one f.reading f.later) ∙ sym (state_append start f.before (f.reading ++ f.later)) ∙ ap (state_after start) (sym f.split) in
    let none : (state_after two f.later).store.faults ≤ start.store.faults = subst (λ (s : State). s.store.faults ≤ start.store.faults) (sym last) quiet.none in
    elim f.fails.1 as (λ _. ⊥) [
      | inl risen ↦ not_risen start.store.faults one.store.faults two.store.faults (state_after two f.later).store.faults a b c none quiet.counted risen
      | inr wants ↦ no_want f.reading (memory_first f.reading f.later (memory_rest f.before (f.reading ++ f.later) (subst HadMemory f.split had))) wants
    ]

-- What a scan told of the machine's file.
pub record ScansPlainly (p : Plain) (bytes : List ℕ) (reader : OpenReader) (region : ℕ) (told : Result Region ScanStuck) (end : State) : Type 0 where
  pub m : Moment
  pub at : m.state ≡ end
  pub there : IsThere m p None
  pub from : State
  pub events : List Event
  pub tells : IsScanOf 0 from reader.pieces region bytes events told
  pub well : (why : Stuck) → HasFailed 0 from events why → ⊥

pub scans_so : ScanLaw → (m : Moment) (p : Plain) (s : IsThere m p None) (reader : OpenReader) (file : PlainReader) (it : MirrorsReader m reader file) (region : ℕ) → region < REGIONS → IsBytes (bytes_seen file) → (start : State) (told : Result Region ScanStuck) (end : State) → m.state ≡ start
    → Makes (scan_program reader region) start told end → MeetsNoFault start end → ScansPlainly p (bytes_seen file) reader region told end
scans_so law m p s reader file it region known are start told end at makes quiet =
    let c = called m (scan_program reader region) start told end at makes quiet in
    let seen : view it.until it.cut reader.truncs ≡ bytes_seen file = seen_bytes m reader file it in
    let whole : IsLawful it.until.state (it.since ++ c.events) = lawful_both it.since c.events it.until it.lawful (subst (λ (x : Moment). IsLawful x.state c.events) it.now c.lawful) in
    let tells = law 0 region it.begin it.until reader it.cut it.since c.events told known whole it.sound it.has (subst IsBytes (sym seen) are) c.runs in
    let from_is : state_after it.until.state it.since ≡ m.state = sym (state_of it.until it.since) ∙ ap (λ (x : Moment). x.state) (sym it.now) in
    let looks = asked_only IsLook 0 c.events (scan_program reader region) told (scan_looks reader region) c.by c.runs in
    let alike : IsAlike m (moment_after m c.events) = run_alike c.events m s.mirrors.sound c.lawful (sights_of c.events looks) in
    let here : MeetsNoFault m.state (state_after m.state c.events) = subst (λ (x : State). MeetsNoFault m.state x) (sym (sym (state_of m c.events) ∙ c.ends)) (subst (λ (x : State). MeetsNoFault x end) (sym at) quiet) in
    let Scanned : List ℕ × State → Type 0 = λ z. IsScanOf 0 z.1 reader.pieces region z.0 c.events told in
    record {
      m = moment_after m c.events;
      at = c.ends;
      there = there_after m p None c.events c.lawful alike s;
      from = m.state;
      events = c.events;
      tells = subst Scanned (λ i. (seen i, from_is i)) tells;
      well = λ why failed. scan_fails m.state c.events why c.lawful (had_memory c.events c.well c.by) here failed;
    }
