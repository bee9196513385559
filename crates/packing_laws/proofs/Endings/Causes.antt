-- Who unpacks, names or packs by itself ends in a fault only where one was answered.
use Rattle.std.proofs.Common.{◌≡◌, ◌⊎◌, inl, inr, ℕ, zero, suc, ◌+◌, ◌*◌, ◌-◌, ◌≤◌, min, Bool, true, false, List, [], ◌∷◌, length, Option, Some, None, Result, Ok, Err, refl, sym, ap, subst, arith}
use Rattle.std.specs.Prelude.{if◌then◌else◌}
use Rattle.std.specs.Int.{div_ceil}
use Rattle.std.specs.List.{AllByRecursion, range_with_len}
use Rattle.plfs_types.specs.Counts.{HasRisen}
use Rattle.plain_file.specs.declared.pieces.Piece.{Piece}
use Rattle.read_plan.specs.Plan.{plan_of}
use Rattle.mount_model.specs.Program.{Program, done, ask, followed_by}
use Rattle.mount_model.specs.declared.call.Ask.{Ask}
use Rattle.mount_model.specs.declared.call.Call.{Call}
use Rattle.mount_model.specs.declared.reply.Reply.{Reply}
use Rattle.mount_model.specs.Replies.{FitsAsk, FitsCall}
use Rattle.mount_model.specs.History.{Event, state_after}
use Rattle.mount_model.specs.Paths.{Name}
use Rattle.mount_model.specs.State.{State}
use Rattle.mount_model.specs.declared.stuck.Stuck.{Stuck as Trouble}
use Rattle.mount_model.specs.declared.stuck.Stuck.TheVariants as trouble
use Rattle.mount_model.specs.Running.{Runs}
use Rattle.mount_model.proofs.Flows.Facts.{runs_done, runs_next}
use Rattle.lone_flow.specs.Driving.{Makes, greets_first}
use Rattle.run_core.proofs.Facts.{AreWell, EndsIn, IsAnswered, IsFine, IsWell, Looks, NoFault, close_well, each_looks, ends_well, is_no_fault, keeps_well, listing_looks, never_falls, open_well, read_looks, risen_before, stays_well, sync_stays, then_looks, truncs_look, well_or_risen, write_stays}
use Rattle.index_reader.specs.declared.listing.Listing.{Listing}
use Rattle.index_reader.specs.declared.opened.OpenReader.{OpenReader}
use Rattle.index_reader.specs.declared.sharing.Share.{Share}
use Rattle.index_reader.specs.Opening.{open_read_program}
use Rattle.index_reader.specs.Reading.{read_program}
use Rattle.index_reader.specs.Truncs.{trunc_program}
use Rattle.gather_flow.specs.Gathering.{if_truncs_listed, reads_truncs, shares_from}
use Rattle.opening_flow.specs.Opening.{opening_program, opens, reads_as}
use Rattle.writer_flow.specs.declared.handle.WriterHandle.{WriterHandle}
use Rattle.writer_flow.specs.declared.handle.WriterOut.{WriterOut}
use Rattle.writer_flow.specs.Closing.{close_program}
use Rattle.writer_flow.specs.Opening.{open_program}
use Rattle.writer_flow.specs.Syncing.{sync_program}
use Rattle.unit_format.specs.declared.finding.Region.{Region}
use Rattle.unit_format.specs.declared.finding.Unit.{Unit as Found}
use Rattle.unit_format.specs.declared.scanner.Scanner.{Scanner}
use Rattle.unit_format.specs.declared.units.TheConstants.{MAX_CONTENT, REGION_SIZE}
use Rattle.unit_format.specs.Scanning.{begins_at, eaten, finished, is_settled}
use Rattle.unit_format.specs.Units.{unit_spelling}
use Rattle.pack_files.specs.declared.scan.ScanStuck.{ScanStuck}
use Rattle.pack_files.specs.declared.scan.ScanStuck.TheVariants.{Bad, Stuck}
use Rattle.pack_files.specs.Putting.{put_program}
use Rattle.pack_files.specs.Scanning.{Scans, chunk_size, further, read_then, region_end, scan_program, scans, told_as}
use Rattle.lone_flow.specs.Naming.{Names}
use Rattle.lone_flow.specs.Naming as naming
use Rattle.lone_flow.specs.Scans.{ScansAll, ScansFrom}
use Rattle.lone_flow.specs.Unpacking.{ReadsFound, ReadsIn, Unpacks, opens as opens_so, opens_stuck, reads, scans_stuck}
use Rattle.pack_input.specs.declared.files.NamedFile.{NamedFile}
use Rattle.lone_flow.specs.declared.packing.Packed.{Packed}
use Rattle.lone_flow.proofs.SmallPuts.Facts.{EndsSo, LastsBehind, WritersEnd, stuck_of, writer_so}
use Rattle.lone_flow.specs.Beginning.{BeginsAt, BeginsWithout, ScansFor, opens as begins_opened, opens_none}
use Rattle.lone_flow.specs.Packing.{Packs, begins_stuck, goes_on}
use Rattle.packing_laws.specs.Troubles.{TellsFault}

-- ---- programs that end so while no fault is answered

-- While its calls are answered, none of them by a fault or for want of memory, its result is one of these.
abbrev pub EndsAs : {R : Type 0} → (R → Type 0) → Program Call Reply R → Type 0
EndsAs fine (done result) = fine result
EndsAs fine (ask call k) = (reply : Reply) → IsAnswered call reply → EndsAs fine (k reply)

looks_end : {R : Type 0} (well : Type 0) (p : Program Call Reply (Result R Trouble)) → well → Looks well p → EndsAs IsFine p
looks_end well (done result) w looks = looks w
looks_end well (ask call k) w looks = λ reply answered. looks_end (well × IsAnswered call reply) (k reply) (w, answered) (looks reply)

abbrev Fine : {R : Type 0} → (R → Bool) → R → Type 0
Fine fine result = fine result ≡ true

in_ends : {R : Type 0} (fine : R → Bool) (p : Program Call Reply R) → EndsIn fine p → EndsAs (Fine fine) p
in_ends fine (done result) well = well
in_ends fine (ask call k) well = λ reply answered. elim (well reply answered.fits) as (λ _. EndsAs (Fine fine) (k reply)) [
  | inl none ↦ absurd (answered.has_memory none)
  | inr rest ↦ elim rest as (λ _. EndsAs (Fine fine) (k reply)) [
    | inl bad ↦ absurd (answered.is_good bad)
    | inr more ↦ in_ends fine (k reply) more
  ]
]

then_ends : {A R : Type 0} (fine : A → Type 0) (good : R → Type 0) (p : Program Call Reply A) (next : A → Program Call Reply R) → EndsAs fine p → ((a : A) → fine a → EndsAs good (next a)) → EndsAs good (followed_by p next)
then_ends fine good (done a) next ends goes = goes a ends
then_ends fine good (ask call k) next ends goes = λ reply answered. then_ends fine good (k reply) next (ends reply answered) goes

either_ends : {R : Type 0} (good : R → Type 0) (b : Bool) (p q : Program Call Reply R) → EndsAs good p → EndsAs good q → EndsAs good (if b then p else q)
either_ends good true p q one other = one
either_ends good false p q one other = other

-- so it ended where its calls were answered so
runs_so : {R : Type 0} (fine : R → Type 0) (p : Program Call Reply R) (events : List Event) (result : R) → EndsAs fine p → AreWell IsWell NoFault events → AllByRecursion (λ (e : Event). e.caller ≡ 0) events → Runs 0 p events result → fine result
runs_so fine (done out) [] result ends well own runs = subst fine runs.1 ends
runs_so fine (done out) (e ∷ es) result ends well own runs = absurd ((runs_done 0 out e es result runs).0 own.0)
runs_so fine (ask call k) [] result ends well own runs = absurd runs
runs_so fine (ask call k) (e ∷ es) result ends well own runs = elim (runs_next 0 call k e es result runs) as (λ _. fine result) [
  | inl (other, on) ↦ absurd (other own.0)
  | inr (mine, asked, on) ↦
      let fits : FitsCall call e.reply = subst (λ (a : Ask). FitsAsk a e.reply) asked well.0.2 in
      runs_so fine (k e.reply) es result (ends e.reply (record { fits = fits; has_memory = well.0.1; is_good = well.0.0 })) well.1 own.1 on
]

-- ---- what was made

-- the count of faults has risen between these states
abbrev Rose : State → State → Type 0
Rose start end = HasRisen start.store.faults end.store.faults

abbrev NotFewer : State → State → Type 0
NotFewer start end = start.store.faults ≤ end.store.faults

made_not_fewer : {R : Type 0} (program : Program Call Reply R) (start : State) (result : R) (end : State) → Makes program start result end → NotFewer start end
made_not_fewer program start result end m = subst (λ (s : State). NotFewer start s) m.made.ends (never_falls start m.events m.made.lawful)

made_so : {R : Type 0} (fine : R → Type 0) (program : Program Call Reply R) (start : State) (result : R) (end : State) → EndsAs fine program → Makes program start result end → Rose start end ⊎ fine result
made_so fine program start result end ends m = elim (well_or_risen start m.events m.made.lawful m.had_memory) as (λ _. Rose start end ⊎ fine result) [
  | inl risen ↦ inl (subst (λ (s : State). Rose start s) m.made.ends risen)
  | inr well ↦ inr (runs_so fine (greets_first program) m.events result (λ reply answered. ends) well m.made.own m.runs)
]

-- a fault is told only where the count has risen
abbrev Caused : {R : Type 0} → State → Result R ScanStuck → State → Type 0
Caused start told end = TellsFault told → Rose start end

caused_behind : {R : Type 0} (start mid : State) (told : Result R ScanStuck) (end : State) → NotFewer start mid → Caused mid told end → Caused start told end
caused_behind start mid told end le caused bad = risen_before start.store.faults mid.store.faults end.store.faults le (caused bad)

both : (a b c : State) → NotFewer a b → NotFewer b c → NotFewer a c
both a b c one other = omega (arith, one, other)

none : (state : State) → NotFewer state state
none state = omega arith

-- ---- an opening

truncates_look : (listing : Listing) (shares : List Share) (well : Type 0) → Looks well (reads_truncs listing shares)
truncates_look listing shares well = then_looks well (trunc_program listing.room) (if_truncs_listed listing shares) (truncs_look listing.room well) (λ more truncs w. refl)

opens_look : (listing : Listing) (well : Type 0) → Looks well (opens 1 listing)
opens_look listing well =
    then_looks well (shares_from 1 listing 0 []) reads_as (each_looks 1 listing (range_with_len 0 (1 - 0)) [] (reads_truncs listing) well (λ more shares. truncates_look listing shares more)) (λ more all w. refl)

opening_ends : (name : Name) → EndsAs IsFine (opening_program name 1)
opening_ends name =
    looks_end (Unit {0}) (opening_program name 1) tt (then_looks (Unit {0}) (open_read_program name) (opens 1) (listing_looks name (Unit {0})) (λ more listing. opens_look listing more))

not_fine : (R : Type 0) (why : Trouble) → IsFine {A = R} (Err why) → why ≡ trouble.Fault → ⊥
not_fine R why fine is = let bad : false ≡ true = subst (λ (w : Trouble). IsFine {A = R} (Err w)) is fine in cc

-- what is told of a trouble that its call ended in
stuck_caused : {A R : Type 0} (program : Program Call Reply (Result A Trouble)) (start : State) (why : Trouble) (told : Result R ScanStuck) (end : State) → EndsAs IsFine program → Makes program start (Err why) end → told ≡ Err (Stuck why) → Caused start told end
stuck_caused {A} program start why told end ends makes same bad = elim (made_so IsFine program start (Err why) end ends makes) as (λ _. Rose start end) [
  | inl risen ↦ risen
  | inr fine ↦ absurd (not_fine A why fine (let is : why ≡ trouble.Fault = cc in is))
]

-- ---- a scan

abbrev NoFaultTold : {R : Type 0} → Result R ScanStuck → Type 0
NoFaultTold told = TellsFault told → ⊥

told_ends : (pieces : List Piece) (result : Result Region ℕ) → NoFaultTold (told_as pieces result)
told_ends pieces (Ok s) bad = cc
told_ends pieces (Err place) bad = cc

read_ends : (next : List ℕ → Scans) (result : Result (List ℕ) Trouble) → IsFine result → ((bytes : List ℕ) → EndsAs NoFaultTold (next bytes)) → EndsAs NoFaultTold (read_then next result)
read_ends next (Ok bytes) fine goes = goes bytes
read_ends next (Err why) fine goes = λ bad. not_fine (List ℕ) why fine (let is : why ≡ trouble.Fault = cc in is)

scans_end : (r : OpenReader) (k here : ℕ) (s : Scanner) → EndsAs NoFaultTold (scans r k here s)
scans_end r zero here s = told_ends r.pieces (finished s)
scans_end r (suc k) here s =
    let program = read_program r.room r.hosts (plan_of r.pieces r.size here chunk_size) in
    let next : List ℕ → Scans = λ bytes. scans r k (further here) (eaten s bytes) in
    either_ends NoFaultTold (is_settled s.part) (done (told_as r.pieces (finished s))) (followed_by program (read_then next)) (told_ends r.pieces (finished s))
    (then_ends IsFine NoFaultTold program (read_then next) (looks_end (Unit {0}) program tt (read_looks r.room r.hosts (plan_of r.pieces r.size here chunk_size) (Unit {0})))
    (λ result fine. read_ends next result fine (λ bytes. scans_end r k (further here) (eaten s bytes))))

scan_ends : (r : OpenReader) (region : ℕ) → EndsAs NoFaultTold (scan_program r region)
scan_ends r region =
    let start = region * REGION_SIZE in
    let stop = region * REGION_SIZE + REGION_SIZE in
    let end = region_end r.size start stop in
    scans_end r (div_ceil (end - start) chunk_size) start (begins_at stop end start [])

scan_caused : (reader : OpenReader) (region : ℕ) (start : State) (told : Result Region ScanStuck) (end : State) → Makes (scan_program reader region) start told end → Caused start told end
scan_caused reader region start told end makes bad = elim (made_so NoFaultTold (scan_program reader region) start told end (scan_ends reader region) makes) as (λ _. Rose start end) [
  | inl risen ↦ risen
  | inr fine ↦ absurd (fine bad)
]

-- of whatever type the result is
any_caused : {A R : Type 0} (start : State) (why : ScanStuck) (end : State) → Caused {R = A} start (Err why) end → Caused {R = R} start (Err why) end
any_caused {A} start why end caused bad =
    let is : why ≡ Stuck trouble.Fault = cc in
    let Told : ScanStuck → Result A ScanStuck = λ w. Err w in
    caused (ap Told is)

-- ---- all scans

scans_not_fewer : (reader : OpenReader) (region : ℕ) (start : State) (regions : List Region) (end : State) → ScansFrom reader region start regions end → NotFewer start end
scans_not_fewer reader region start [] end same = subst (λ (s : State). NotFewer start s) (sym same) (none start)
scans_not_fewer reader region start (r ∷ regions) end (next, makes, others) = both start next end (made_not_fewer (scan_program reader region) start (Ok r) next makes) (scans_not_fewer reader (region + 1) next regions end others)

all_caused : (reader : OpenReader) (start : State) (why : ScanStuck) (end : State) → ScansAll reader start (Err why) end → Caused {R = List Region} start (Err why) end
all_caused reader start why end s =
    caused_behind start s.last (Err why) end (scans_not_fewer reader 0 start s.regions s.last s.scans) (any_caused {A = Region} s.last why end (scan_caused reader (length s.regions) s.last (Err why) end s.ends))

-- ---- unpacking

found_caused : (reader : OpenReader) (found : Option Found) (start : State) (told : Result (Option (List ℕ)) ScanStuck) (end : State) → ReadsFound reader found start told end → Caused start told end
found_caused reader None start told end (is, same) = λ bad. absurd (cc)
found_caused reader (Some unit) start (Ok None) end read = absurd read
found_caused reader (Some unit) start (Ok (Some content)) end read = λ bad. absurd (cc)
found_caused reader (Some unit) start (Err why) end (w, is, makes) =
    let parts = plan_of reader.pieces reader.size unit.at (min unit.len MAX_CONTENT) in
    let program = read_program reader.room reader.hosts parts in
    let Told : ScanStuck → Result (Option (List ℕ)) ScanStuck = λ x. Err x in
    stuck_caused program start w (Err why) end (looks_end (Unit {0}) program tt (read_looks reader.room reader.hosts parts (Unit {0}))) makes (ap Told is)

read_caused : (reader : OpenReader) (file : Name) (start : State) (told : Result (Option (List ℕ)) ScanStuck) (end : State) → ReadsIn reader file start told end → Caused start told end
read_caused reader file start told end (reads regions scanned found all is read) = caused_behind start scanned told end (scans_not_fewer reader 0 start regions scanned all.1) (found_caused reader found scanned told end read)
read_caused reader file start told end (scans_stuck why same all) =
    subst (λ (t : Result (Option (List ℕ)) ScanStuck). Caused start t end) (sym same) (any_caused {A = List Region} start why end (all_caused reader start why end all))

pub unpacked_caused : (name file : Name) (start : State) (told : Result (Option (List ℕ)) ScanStuck) (end : State) → Unpacks name file start told end → Caused start told end
unpacked_caused name file start told end (opens_so reader opened makes read) =
    caused_behind start opened told end (made_not_fewer (opening_program name 1) start (Ok reader) opened makes) (read_caused reader file opened told end read)
unpacked_caused name file start told end (opens_stuck why same makes) = stuck_caused (opening_program name 1) start why told end (opening_ends name) makes same

-- ---- naming

names_caused : (reader : OpenReader) (start : State) (told : Result (List Name) ScanStuck) (end : State) → naming.NamesIn reader start told end → Caused start told end
names_caused reader start (Ok names) end named = λ bad. absurd (cc)
names_caused reader start (Err why) end all = any_caused {A = List Region} start why end (all_caused reader start why end all)

pub named_caused : (name : Name) (start : State) (told : Result (List Name) ScanStuck) (end : State) → Names name start told end → Caused start told end
named_caused name start told end (naming.opens reader opened makes named) =
    caused_behind start opened told end (made_not_fewer (opening_program name 1) start (Ok reader) opened makes) (names_caused reader opened told end named)
named_caused name start told end (naming.opens_stuck why same makes) = stuck_caused (opening_program name 1) start why told end (opening_ends name) makes same

-- ---- packing

begun_not_fewer : (name : Name) (region at : ℕ) (start end : State) → BeginsAt name region start (Ok at) end → NotFewer start end
begun_not_fewer name region at start end (begins_opened reader opened makes (r, scans_it, is)) =
    both start opened end (made_not_fewer (opening_program name 1) start (Ok reader) opened makes) (made_not_fewer (scan_program reader region) opened (Ok r) end scans_it)
begun_not_fewer name region at start end (opens_none why makes without) = made_not_fewer (opening_program name 1) start (Err why) end makes

begins_caused : (name : Name) (region : ℕ) (start : State) (why : ScanStuck) (end : State) → BeginsAt name region start (Err why) end → Caused {R = ℕ} start (Err why) end
begins_caused name region start why end (begins_opened reader opened makes scans_it) =
    caused_behind start opened (Err why) end (made_not_fewer (opening_program name 1) start (Ok reader) opened makes) (any_caused {A = Region} opened why end (scan_caused reader region opened (Err why) end scans_it))
begins_caused name region start why end (opens_none w makes (inl (gone, told))) = λ bad. absurd (cc)
begins_caused name region start why end (opens_none w makes (inr (other, told))) = stuck_caused (opening_program name 1) start w (Err why) end (opening_ends name) makes told

-- a trouble behind this state is no fault, or the count has risen
abbrev IsCausedIn : State → Trouble → State → Type 0
IsCausedIn start why end = Rose start end ⊎ (why ≡ trouble.Fault → ⊥)

kept_stuck : (h : Option WriterHandle) (r : Result ℕ Trouble) (why : Trouble) → keeps_well h r ≡ true → stuck_of h r ≡ Some why → why ≡ trouble.Fault → ⊥
kept_stuck None (Ok n) why kept is bad = let wrong : false ≡ true = kept in cc
kept_stuck None (Err w) why kept is bad = not_fine ℕ w kept (let same : w ≡ trouble.Fault = cc in same)
kept_stuck (Some handle) (Ok n) why kept is bad = cc
kept_stuck (Some handle) (Err w) why kept is bad = not_fine ℕ w kept (let same : w ≡ trouble.Fault = cc in same)

module _ (start : State) where
  in_all : {R : Type 0} (fine : R → Type 0) (program : Program Call Reply R) (now : State) (result : R) (why : Trouble) (end : State) → EndsAs fine program → NotFewer start now → Makes program now result end → (fine result → why ≡ trouble.Fault → ⊥) → IsCausedIn start why end
  in_all fine program now result why end ends le makes good = elim (made_so fine program now result end ends makes) as (λ _. IsCausedIn start why end) [
    | inl risen ↦ inl (risen_before start.store.faults now.store.faults end.store.faults le risen)
    | inr fits ↦ inr (good fits)
  ]

  lasts : LastsBehind (NotFewer start)
  lasts R program now result end le makes = both start now end le (made_not_fewer program now result end makes)

  writers : WritersEnd (NotFewer start) (IsCausedIn start)
  writers = record {
    opens = λ name now why end le makes. in_all (Fine is_no_fault) (open_program name 0 64) now (Err why) why end (in_ends is_no_fault (open_program name 0 64) (open_well name 0 64)) le makes (λ fine. not_fine WriterHandle why fine);
    puts = λ handle at f now out end le makes why stuck. in_all (Fine stays_well) (put_program handle at f) now out why end (in_ends stays_well (put_program handle at f) (write_stays handle at (unit_spelling f))) le makes (λ kept. kept_stuck out.handle out.result why kept stuck);
    syncs = λ handle now out end le makes why stuck. in_all (Fine stays_well) (sync_program handle) now out why end (in_ends stays_well (sync_program handle) (sync_stays handle)) le makes (λ kept. kept_stuck out.handle out.result why kept stuck);
    closes = λ handle now out end le makes why is. in_all (Fine ends_well) (close_program handle) now out why end (in_ends ends_well (close_program handle) (close_well handle)) le makes (λ fine. not_fine ℕ why (subst (λ (r : Result ℕ Trouble). is_no_fault r ≡ true) is fine));
  }

  ends_caused : (told : Result Packed ScanStuck) (end : State) → EndsSo (IsCausedIn start) told end → Caused start told end
  ends_caused (Ok told) end so = λ bad. absurd (cc)
  ends_caused (Err (Bad place)) end so = absurd so
  ends_caused (Err (Stuck why)) end (inl risen) = λ bad. risen
  ends_caused (Err (Stuck why)) end (inr good) = λ bad. absurd (good (let is : why ≡ trouble.Fault = cc in is))

pub packed_caused : (name : Name) (region : ℕ) (files : List NamedFile) (start : State) (told : Result Packed ScanStuck) (end : State) → Packs name region files start told end → Caused start told end
packed_caused name region files start told end (goes_on at from begins packs) =
    ends_caused start told end (writer_so (NotFewer start) (IsCausedIn start) (lasts start) (writers start) name region files at from told end (begun_not_fewer name region at start from begins) packs)
packed_caused name region files start told end (begins_stuck why begins same) =
    subst (λ (t : Result Packed ScanStuck). Caused start t end) (sym same) (any_caused {A = ℕ} start why end (begins_caused name region start why end begins))
