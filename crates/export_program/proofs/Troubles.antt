-- A file's trouble is told truly, and so is that of who names all files.
use Rattle.std.proofs.Common.{◌≡◌, ◌≢◌, inl, inr, ℕ, ◌*◌, ◌-◌, ◌≤◌, true, false, List, [], ◌∷◌, ◌++◌, length, Option, Result, Ok, Err, refl, sym, ap, ◌∙◌, subst, arith}
use Rattle.std.specs.List.{AllByRecursion, range_with_len}
use Rattle.plfs_types.specs.Counts.{HasRisen}
use Rattle.turn_object.proofs.Facts.{state_append}
use Rattle.edge_io.specs.Sink.{Taking}
use Rattle.read_plan.specs.Plan.{plan_of}
use Rattle.mount_model.specs.Program.{Program, done, ask}
use Rattle.mount_model.specs.declared.stuck.Stuck.{Stuck as Trouble}
use Rattle.mount_model.specs.declared.stuck.Stuck.TheVariants as trouble
use Rattle.mount_model.specs.Running.{Runs}
use Rattle.mount_model.proofs.Flows.Facts.{runs_done, runs_next}
use Rattle.mount_model.specs.declared.call.Ask.{Ask}
use Rattle.mount_model.specs.declared.call.Call.{Call}
use Rattle.mount_model.specs.declared.call.Call.TheVariants.{Rooms}
use Rattle.mount_model.specs.declared.reply.Reply.{Reply}
use Rattle.mount_model.specs.declared.reply.Reply.TheVariants as reply_of
use Rattle.mount_model.specs.declared.reply.Refusal.{Refusal}
use Rattle.mount_model.specs.Replies.{FitsAsk, FitsCall, IsTrouble, damaged, fault, no_memory, refused}
use Rattle.mount_model.specs.History.{Event, state_after}
use Rattle.mount_model.specs.Paths.{Name}
use Rattle.mount_model.specs.State.{State}
use Rattle.mount_sound.specs.Owed.{IsLawful}
use Rattle.mount_sound.specs.Sound.{IsFine as IsFineState}
use Rattle.mount_undamaged.specs.Damage.{ShowsNoDamage}
use Rattle.lone_flow.specs.Driving.{Makes, greets_first}
use Rattle.run_core.proofs.Facts.{AreWell, IsAnswered, IsFine, IsWell, Looks, NoFault, each_looks, listing_looks, never_falls, read_looks, risen_before, then_looks, truncs_look, well_or_risen}
use Rattle.index_reader.specs.declared.listing.Listing.{Listing}
use Rattle.index_reader.specs.declared.opened.OpenReader.{OpenReader}
use Rattle.index_reader.specs.declared.sharing.Share.{Share}
use Rattle.index_reader.specs.Opening.{open_read_program}
use Rattle.index_reader.specs.Truncs.{trunc_program}
use Rattle.gather_flow.specs.Gathering.{if_truncs_listed, reads_truncs, shares_from}
use Rattle.opening_flow.specs.Opening.{opening_program, opens as opens_from, reads_as}
use Rattle.actor_core.specs.Names.{names_program, names_told}
use Rattle.reader_laws.specs.Moments.{IsSoundAt, Moment, next_moment}
use Rattle.reader_laws.proofs.Gathered.Facts.{sound_after}
use Rattle.reader_laws.specs.Failing.{FailsOrLacks}
use Rattle.reader_laws.specs.Opened.{HasOpenedIn}
use Rattle.trouble_laws.specs.Ends.{AlwaysEnds}
use Rattle.trouble_laws.specs.Undamaged.{IsNoDamage, IsUndamaged}
use Rattle.trouble_laws.proofs.Facts.{ends_call, ends_done}
use Rattle.packing_laws.specs.Seen.{moment_seen}
use Rattle.packing_laws.proofs.Unpacking.Facts.{Follows, HasReached, HasSeen, OpeningsEnd, ReadTrouble, ReadsFail, follows, has_seen, reads_fail}
use Rattle.export_program.specs.declared.filling.Filled.{Filled}
use Rattle.export_program.specs.declared.filling.Filled.TheVariants as filled
use Rattle.export_program.specs.declared.piece.Unwritten.{Unwritten}
use Rattle.export_program.specs.declared.piece.Unwritten.TheVariants as unwritten
use Rattle.export_program.specs.Exporting.{WritesFile, ended, opens, opens_stuck, whole}
use Rattle.export_program.specs.Filling.{Fills, FillsMade}
use Rattle.export_program.specs.Filling as filling
use Rattle.export_program.specs.Looking.{HasOnlyLooked}
use Rattle.export_program.specs.Pieces.{WritesPiece, piece_length, piece_program}
use Rattle.export_program.specs.Shelf.{Deed}
use Rattle.export_program.specs.Troubles.{IsTrueTrouble}
use Rattle.export_program.proofs.Leading.{makes_lead, written_leads}
use Rattle.export_program.proofs.Looks.{opening_looks}
use Rattle.export_program.proofs.Seeing.{IsBehind, behind}

-- ---- a program whose calls are answered without a fault

-- while its calls are answered, none of them by a fault or for want of memory, it ends in no fault
abbrev EndsFine : {R : Type 0} → Program Call Reply (Result R Trouble) → Type 0
EndsFine (done result) = IsFine result
EndsFine (ask call k) = (reply : Reply) → IsAnswered call reply → EndsFine (k reply)

looks_fine : {R : Type 0} (well : Type 0) (p : Program Call Reply (Result R Trouble)) → well → Looks well p → EndsFine p
looks_fine well (done result) w looks = looks w
looks_fine well (ask call k) w looks = λ reply answered. looks_fine (well × IsAnswered call reply) (k reply) (w, answered) (looks reply)

runs_fine : {R : Type 0} (p : Program Call Reply (Result R Trouble)) (events : List Event) (result : Result R Trouble) → EndsFine p → AreWell IsWell NoFault events → AllByRecursion (λ (e : Event). e.caller ≡ 0) events → Runs 0 p events result → IsFine result
runs_fine {R} (done out) [] result ends well own runs = subst (λ (r : Result R Trouble). IsFine r) runs.1 ends
runs_fine (done out) (e ∷ es) result ends well own runs = absurd ((runs_done 0 out e es result runs).0 own.0)
runs_fine (ask call k) [] result ends well own runs = absurd runs
runs_fine (ask call k) (e ∷ es) result ends well own runs = elim (runs_next 0 call k e es result runs) as (λ _. IsFine result) [
  | inl (other, on) ↦ absurd (other own.0)
  | inr (mine, asked, on) ↦
      let fits : FitsCall call e.reply = subst (λ (a : Ask). FitsAsk a e.reply) asked well.0.2 in
      runs_fine (k e.reply) es result (ends e.reply (record { fits = fits; has_memory = well.0.1; is_good = well.0.0 })) well.1 own.1 on
]

-- ---- the count of faults

abbrev Rose : State → State → Type 0
Rose start end = HasRisen start.store.faults end.store.faults

abbrev NotFewer : State → State → Type 0
NotFewer start end = start.store.faults ≤ end.store.faults

pub looked_not_fewer : (start end : State) → HasOnlyLooked start end → NotFewer start end
looked_not_fewer start end l = subst (λ (s : State). NotFewer start s) l.made.ends (never_falls start l.events l.made.lawful)

no_fault : (R : Type 0) (why : Trouble) → IsFine {A = R} (Err why) → why ≡ trouble.Fault → ⊥
no_fault R why fine is = let bad : false ≡ true = subst (λ (w : Trouble). IsFine {A = R} (Err w)) is fine in cc

made_caused : {R : Type 0} (program : Program Call Reply (Result R Trouble)) (start : State) (why : Trouble) (end : State) → EndsFine program → Makes program start (Err why) end → why ≡ trouble.Fault → Rose start end
made_caused {R} program start why end ends m bad = elim (well_or_risen start m.events m.made.lawful m.had_memory) as (λ _. Rose start end) [
  | inl risen ↦ subst (λ (s : State). Rose start s) m.made.ends risen
  | inr well ↦ absurd (no_fault R why (runs_fine (greets_first program) m.events (Err why) (λ reply answered. ends) well m.made.own m.runs) bad)
]

-- ---- an opening, and a piece

truncates_look : (listing : Listing) (shares : List Share) (well : Type 0) → Looks well (reads_truncs listing shares)
truncates_look listing shares well = then_looks well (trunc_program listing.room) (if_truncs_listed listing shares) (truncs_look listing.room well) (λ more truncs w. refl)

opens_look : (listing : Listing) (well : Type 0) → Looks well (opens_from 1 listing)
opens_look listing well =
    then_looks well (shares_from 1 listing 0 []) reads_as (each_looks 1 listing (range_with_len 0 (1 - 0)) [] (reads_truncs listing) well (λ more shares. truncates_look listing shares more)) (λ more all w. refl)

opening_fine : (name : Name) → EndsFine (opening_program name 1)
opening_fine name = looks_fine (Unit {0}) (opening_program name 1) tt (then_looks (Unit {0}) (open_read_program name) (opens_from 1) (listing_looks name (Unit {0})) (λ more listing. opens_look listing more))

piece_fine : (reader : OpenReader) (k : ℕ) → EndsFine (piece_program reader k)
piece_fine reader k = looks_fine (Unit {0}) (piece_program reader k) tt (read_looks reader.room reader.hosts (plan_of reader.pieces reader.size (k * piece_length) piece_length) (Unit {0}))

-- ---- a file

stuck_is : (why : Trouble) (w : Unwritten) → ◌≡◌ {A = Result ℕ Unwritten} (Err (unwritten.Stuck why)) (Err w) → w ≡ unwritten.Stuck why
stuck_is why w is = cc

same_trouble : (why w : Trouble) → ◌≡◌ {A = Result ℕ Unwritten} (Err (unwritten.Stuck why)) (Err (unwritten.Stuck w)) → w ≡ why
same_trouble why w is = cc

-- the read that ended so
as_read : (reader : OpenReader) (k : ℕ) (mid : State) (taken : Taking) (w : Unwritten) (end : State) (after : Taking) (why : Trouble) → WritesPiece reader k mid taken (Err w) end after → ◌≡◌ {A = Result ℕ Unwritten} (Err (unwritten.Stuck why)) (Err w) → Makes (piece_program reader k) mid (Err why) end
as_read reader k mid taken w end after why writes is = (subst (λ (x : Unwritten). WritesPiece reader k mid taken (Err x) end after) (stuck_is why w is) writes).0

pub file_caused : (name : Name) (start : State) (taking : Taking) (why : Trouble) (end : State) (after : Taking) → WritesFile name start taking (Err (unwritten.Stuck why)) end after → why ≡ trouble.Fault → Rose start end
file_caused name start taking why end after (opens reader opened makes (whole pieces written count told)) bad = absurd (cc)
file_caused name start taking why end after (opens reader opened makes (ended pieces w mid taken written writes told)) bad =
    let first = looked_not_fewer start opened (makes_lead (opening_program name 1) (opening_looks name) start (Ok reader) opened makes) in
    let second = looked_not_fewer opened mid (written_leads reader opened taking pieces mid taken written) in
    risen_before start.store.faults mid.store.faults end.store.faults (omega (arith, first, second)) (made_caused (piece_program reader (length pieces)) mid why end (piece_fine reader (length pieces)) (as_read reader (length pieces) mid taken w end after why writes told) bad)
file_caused name start taking why end after (opens_stuck w told untaken makes) bad =
    made_caused (opening_program name 1) start why end (opening_fine name) (subst (λ (x : Trouble). Makes (opening_program name 1) start (Err x) end) (same_trouble why w told) makes) bad

-- ---- from a sound state

fault_undamaged : (why : Trouble) → why ≡ trouble.Fault → IsNoDamage why
fault_undamaged why is = subst (λ (w : Trouble). IsNoDamage w) (sym is) tt

lacks_undamaged : (caller : ℕ) (from : State) (events : List Event) (why : Trouble) → FailsOrLacks caller from events why → IsNoDamage why
lacks_undamaged caller from events why (inl fails) = fault_undamaged why fails.0
lacks_undamaged caller from events why (inr none) = subst (λ (w : Trouble). IsNoDamage w) (sym none) tt

lawful_both : (start : State) (first rest : List Event) → IsLawful start first → IsLawful (state_after start first) rest → IsLawful start (first ++ rest)
lawful_both start [] rest one other = other
lawful_both start (e ∷ first) rest one other = (one.0, one.1, lawful_both e.after first rest one.2 other)

reached_on : (from opened mid : State) → HasReached from opened → HasOnlyLooked opened mid → HasReached from mid
reached_on from opened mid r l = record {
  events = r.events ++ l.events;
  lawful = lawful_both from r.events l.events r.lawful (subst (λ (s : State). IsLawful s l.events) (sym r.ends) l.made.lawful);
  ends = state_append from r.events l.events ∙ ap (λ (s : State). state_after s l.events) r.ends ∙ l.made.ends;
}

module _ (openings : OpeningsEnd) (reads : ReadTrouble) (name : Name) (start : Moment) (sound : IsSoundAt start) where
  opening_undamaged : (why : Trouble) (end : State) → Makes (opening_program name 1) start.state (Err why) end → IsNoDamage why
  opening_undamaged why end makes =
      let b : IsBehind (opening_program name 1) start.state (Err why) end = behind (opening_program name 1) start.state (Err why) end makes in
      let g : Moment = next_moment start b.greeting in
      lacks_undamaged 0 g.state b.events why (openings 0 1 name g b.events (Err why) (omega arith) b.lawful.2 (sound_after start (b.greeting ∷ []) (b.lawful.0, b.lawful.1, tt) sound) b.runs)

  -- what the opened reader's file was seen in
  read_undamaged : (reader : OpenReader) (opened : State) → Makes (opening_program name 1) start.state (Ok reader) opened → (k : ℕ) (mid : State) (why : Trouble) (end : State) → HasOnlyLooked opened mid → Makes (piece_program reader k) mid (Err why) end → IsNoDamage why
  read_undamaged reader opened makes k mid why end looked read =
      let b : IsBehind (opening_program name 1) start.state (Ok reader) opened = behind (opening_program name 1) start.state (Ok reader) opened makes in
      let begun : Moment = next_moment start b.greeting in
      let fine : IsSoundAt begun = sound_after start (b.greeting ∷ []) (b.lawful.0, b.lawful.1, tt) sound in
      let o : HasOpenedIn 0 begun b.events reader = openings 0 1 name begun b.events (Ok reader) (omega arith) b.lawful.2 fine b.runs in
      let s : HasSeen (moment_seen begun b.events reader o) opened = subst (λ (z : State). HasSeen (moment_seen begun b.events reader o) z) b.ends (has_seen begun b.events reader o b.lawful.2 fine) in
      let from : State = (moment_seen begun b.events reader o).state in
      let fail : ReadsFail reader from = reads_fail begun b.events reader o s.sound reads in
      let f : Follows from (piece_program reader k) (Err why) end = follows from mid end (piece_program reader k) (Err why) (reached_on from opened mid s.reached looked) read in
      fault_undamaged why (fail f.waited f.mine (k * piece_length) piece_length why f.lawful f.runs).0

  file_undamaged : (taking : Taking) (why : Trouble) (end : State) (after : Taking) → WritesFile name start.state taking (Err (unwritten.Stuck why)) end after → IsNoDamage why
  file_undamaged taking why end after (opens reader opened makes (whole pieces written count told)) = absurd (cc)
  file_undamaged taking why end after (opens reader opened makes (ended pieces w mid taken written writes told)) =
      read_undamaged reader opened makes (length pieces) mid why end (written_leads reader opened taking pieces mid taken written) (as_read reader (length pieces) mid taken w end after why writes told)
  file_undamaged taking why end after (opens_stuck w told untaken makes) = opening_undamaged why end (subst (λ (x : Trouble). Makes (opening_program name 1) start.state (Err x) end) (same_trouble why w told) makes)

-- ---- the names

none_fine : {may : Refusal → Type 0} (reply : Reply) → reply ≢ reply_of.NoMemory → reply ≢ reply_of.Fault → IsTrouble may reply → IsFine (names_told reply)
none_fine reply had good (refused why may e) = subst (λ (r : Reply). IsFine (names_told r)) (sym e) refl
none_fine reply had good (damaged folder file e) = subst (λ (r : Reply). IsFine (names_told r)) (sym e) refl
none_fine reply had good (fault e) = absurd (good e)
none_fine reply had good (no_memory e) = absurd (had e)

names_fine : EndsFine names_program
names_fine = λ reply answered. elim answered.fits as (λ _. IsFine (names_told reply)) [
  | inl p ↦ subst (λ (r : Reply). IsFine (names_told r)) (sym p.1) refl
  | inr t ↦ none_fine reply answered.has_memory answered.is_good t
]

names_undamaged : (reply : Reply) → ShowsNoDamage reply → IsUndamaged (names_told reply)
names_undamaged (reply_of.Rooms names) shows = tt
names_undamaged (reply_of.Damaged folder file) shows = absurd shows
names_undamaged reply shows = tt

names_end : AlwaysEnds IsUndamaged names_program
names_end caller issued start events result lawful sound runs =
    ends_call caller IsUndamaged Rooms (λ reply. done (names_told reply)) (λ reply shows. ends_done caller IsUndamaged (names_told reply) (names_undamaged reply shows)) start issued events result lawful sound runs

unnamed_undamaged : (start : Moment) (why : Trouble) (end : State) → IsSoundAt start → Makes names_program start.state (Err why) end → IsNoDamage why
unnamed_undamaged start why end sound makes =
    let b : IsBehind names_program start.state (Err why) end = behind names_program start.state (Err why) end makes in
    let g : Moment = next_moment start b.greeting in
    names_end 0 g.issued g.state b.events (Err why) b.lawful.2 (sound_after start (b.greeting ∷ []) (b.lawful.0, b.lawful.1, tt) sound) b.runs

-- ---- from a state that is fine

pub names_true : (start : State) (why : Trouble) (end : State) → IsFineState start → Makes names_program start (Err why) end → IsTrueTrouble start why end
names_true start why end fine makes = record {
  cause = made_caused names_program start why end names_fine makes;
  undamaged = λ told. (let s = fine.sound told in unnamed_undamaged (record { state = start; issued = s.0 }) why end s.1 makes);
}

file_true : OpeningsEnd → ReadTrouble → (name : Name) (start : State) (taking : Taking) (why : Trouble) (end : State) (after : Taking) → IsFineState start → WritesFile name start taking (Err (unwritten.Stuck why)) end after → IsTrueTrouble start why end
file_true openings reads name start taking why end after fine writes = record {
  cause = file_caused name start taking why end after writes;
  undamaged = λ told. (let s = fine.sound told in file_undamaged openings reads name (record { state = start; issued = s.0 }) s.1 taking why end after writes);
}

stuck_why : (w why : Trouble) → filled.Stuck w ≡ filled.Stuck why → w ≡ why
stuck_why w why is = cc

made_true : OpeningsEnd → ReadTrouble → (name : Name) (taking : Taking) (start : State) (deeds : Option (List Deed)) (told : Filled) (end : State) (deeds_after : Option (List Deed)) → IsFineState start → FillsMade name taking start deeds told end deeds_after → (why : Trouble) → told ≡ filled.Stuck why → IsTrueTrouble start why end
made_true openings reads name taking start deeds told end deeds_after fine (filling.whole size after writes (filling.was_kept adds is)) why stuck = absurd (cc)
made_true openings reads name taking start deeds told end deeds_after fine (filling.whole size after writes (filling.was_lost adds is)) why stuck = absurd (cc)
made_true openings reads name taking start deeds told end deeds_after fine (filling.stuck w after writes same is) why stuck =
    subst (λ (x : Trouble). IsTrueTrouble start x end) (stuck_why w why (sym is ∙ stuck)) (file_true openings reads name start taking w end after fine writes)
made_true openings reads name taking start deeds told end deeds_after fine (filling.broken after writes same is) why stuck = absurd (cc)

pub fills_true : OpeningsEnd → ReadTrouble → (name : Name) (start : State) (deeds : Option (List Deed)) (told : Filled) (end : State) (deeds_after : Option (List Deed)) → IsFineState start → Fills name start deeds told end deeds_after → (why : Trouble) → told ≡ filled.Stuck why → IsTrueTrouble start why end
fills_true openings reads name start deeds told end deeds_after fine (filling.fills taking empty made) why stuck = made_true openings reads name taking start deeds told end deeds_after fine made why stuck
fills_true openings reads name start deeds told end deeds_after fine (filling.exists adds same is) why stuck = absurd (cc)
fills_true openings reads name start deeds told end deeds_after fine (filling.failed adds same is) why stuck = absurd (cc)
