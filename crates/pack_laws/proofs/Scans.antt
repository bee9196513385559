-- A scan, chunk by chunk.
use Rattle.std.proofs.Common.{◌≡◌, ℕ, zero, suc, ◌+◌, ◌-◌, ◌*◌, ◌/◌, ◌%◌, ◌<◌, ◌≤◌, ◌^◌, min, max, true, false, List, [], ◌∷◌, ◌++◌, length, take, drop, get_or, Result, Ok, Err, refl, sym, ap, subst, ◌∙◌, inl, inr, ◌⊎◌, arith}
use Rattle.std.specs.Int.{div_ceil}
use Rattle.std.proofs.Math.Seq.{take-add}
use Rattle.std.proofs.lemmas.Bool.{cases_Bool, cases_lt}
use Rattle.std.proofs.lemmas.List.{append-nil, append_assoc, take_all, drop-drop, length-take, length-drop}
use Rattle.index_entry.specs.Records.{IsBytes}
use Rattle.index_entry.proofs.Facts.{IsBytes-drop}
use Rattle.plain_file.specs.File.{slice}
use Rattle.plain_file.specs.declared.pieces.Piece.{Piece}
use Rattle.read_plan.specs.Plan.{plan_of}
use Rattle.mount_model.specs.declared.call.Call.{Call}
use Rattle.mount_model.specs.declared.reply.Reply.{Reply}
use Rattle.mount_model.specs.History.{Event, state_after}
use Rattle.mount_model.specs.State.{State}
use Rattle.mount_sound.specs.Owed.{IsLawful}
use Rattle.mount_sound.proofs.Facts.{lawful_first}
use Rattle.mount_model.specs.Program.{Program, done, followed_by}
use Rattle.mount_model.specs.declared.stuck.Stuck.{Stuck as Trouble}
use Rattle.mount_model.specs.Running.{Runs}
use Rattle.mount_model.proofs.Flows.Facts.{RunsInTwo, runs_in_two}
use Rattle.index_reader.specs.declared.opened.OpenReader.{OpenReader}
use Rattle.index_reader.specs.Reading.{read_program}
use Rattle.reader_laws.specs.Failing.{FailsByStore}
use Rattle.unit_format.specs.declared.finding.Region.{Region}
use Rattle.unit_format.specs.declared.scanner.Scanner.{Scanner}
use Rattle.unit_format.specs.declared.units.TheConstants.{REGION_SIZE, REGIONS}
use Rattle.unit_format.specs.Regions.{places_of}
use Rattle.unit_format.specs.Scanning.{begins_at, eaten, fed, finished, is_settled}
use Rattle.unit_format.proofs.Facts.{eaten_settled, IsTold, total}
use Rattle.pack_files.specs.declared.scan.ScanStuck.{ScanStuck}
use Rattle.pack_files.specs.declared.scan.ScanStuck.TheVariants.{Stuck, Bad}
use Rattle.pack_files.specs.Scanning.{scans, after_read, chunk_size, further, region_end, scan_program, told as told_of, told_as, units_of}
use Rattle.pack_laws.specs.Scanned.{region_start, region_stop, region_bytes, TellsUnits, HasFailed, IsScanOf}

-- ---- bytes

IsBytes-take : (n : ℕ) (bytes : List ℕ) → IsBytes bytes → IsBytes (take n bytes)
IsBytes-take zero bytes are i = omega arith
IsBytes-take (suc n) [] are i = omega arith
IsBytes-take (suc n) (b ∷ bytes) are zero = are 0
IsBytes-take (suc n) (b ∷ bytes) are (suc i) = IsBytes-take n bytes (λ j. are (suc j)) i

eaten-append : (s : Scanner) (a b : List ℕ) → eaten s (a ++ b) ≡ eaten (eaten s a) b
eaten-append s [] b = refl
eaten-append s (x ∷ a) b = eaten-append (fed s x) a b

state_after-append : (start : State) (first rest : List Event) → state_after start (first ++ rest) ≡ state_after (state_after start first) rest
state_after-append start [] rest = refl
state_after-append start (event ∷ first) rest = state_after-append event.after first rest

-- ---- chunk by chunk

-- of a file the bytes of so many chunks from this place on
abbrev chunks_from : List ℕ → ℕ → ℕ → List ℕ
chunks_from file zero here = []
chunks_from file (suc k) here = slice file here chunk_size ++ chunks_from file k (further here)

module _ (caller : ℕ) (from : State) (r : OpenReader) (file : List ℕ)
    (reads : (between reading : List Event) (at len : ℕ) (bytes : List ℕ) → IsLawful from (between ++ reading)
    → Runs caller (read_program r.room r.hosts (plan_of r.pieces r.size at len)) reading (Ok bytes) → bytes ≡ slice file at len)
    (fails : (between reading : List Event) (at len : ℕ) (why : Trouble) → IsLawful from (between ++ reading)
    → Runs caller (read_program r.room r.hosts (plan_of r.pieces r.size at len)) reading (Err why) → FailsByStore caller (state_after from between) reading why) where
  -- what was told is what the bytes come to, or one of the reads failed
  abbrev Comes : Scanner → List ℕ → List Event → List Event → Result Region ScanStuck → Type 0
  Comes s bytes between events told =
      (told ≡ told_of r.pieces (eaten s bytes)) ⊎ ((why : Trouble) × (told ≡ Err (Stuck why)) × HasFailed caller (state_after from between) events why)

  further_failed : (between first rest events : List Event) (why : Trouble) → events ≡ first ++ rest → HasFailed caller (state_after from (between ++ first)) rest why → HasFailed caller (state_after from between) events why
  further_failed between first rest events why all f = record {
    before = first ++ f.before;
    reading = f.reading;
    later = f.later;
    split = all ∙ ap (λ (es : List Event). first ++ es) f.split ∙ sym (append_assoc first f.before (f.reading ++ f.later));
    fails = subst (λ (s : State). FailsByStore caller s f.reading why)
        (ap (λ (s : State). state_after s f.before) (state_after-append from between first) ∙ sym (state_after-append (state_after from between) first f.before)) f.fails;
  }

  -- behind the read of a chunk
  come_behind : (k here : ℕ) (s : Scanner) (between first rest events : List Event) (told : Result Region ScanStuck) (value : Result (List ℕ) Trouble) → events ≡ first ++ rest → IsLawful from (between ++ events)
      → Runs caller (read_program r.room r.hosts (plan_of r.pieces r.size here chunk_size)) first value → Runs caller (after_read r k (further here) s value) rest told
      → ((t : Scanner) (before others : List Event) → IsLawful from (before ++ others) → Runs caller (scans r k (further here) t) others told → Comes t (chunks_from file k (further here)) before others told)
      → Comes s (chunks_from file (suc k) here) between events told
  come_behind k here s between first rest events told (Err why) all lawful read then later = inr (
    why,
    sym then.1,
    record {
      before = [];
      reading = first;
      later = rest;
      split = all;
      fails = fails between first here chunk_size why
          (lawful_first from (between ++ first) rest (subst (λ (es : List Event). IsLawful from es) (ap (λ (es : List Event). between ++ es) all ∙ sym (append_assoc between first rest)) lawful)) read;
    },
  )
  come_behind k here s between first rest events told (Ok bytes) all lawful read then later =
      let whole : IsLawful from ((between ++ first) ++ rest) = subst (λ (es : List Event). IsLawful from es) (ap (λ (es : List Event). between ++ es) all ∙ sym (append_assoc between first rest)) lawful in
      let same : bytes ≡ slice file here chunk_size = reads between first here chunk_size bytes (lawful_first from (between ++ first) rest whole) read in
      elim (later (eaten s bytes) (between ++ first) rest whole then) [
        | inl comes ↦ inl (comes ∙ ap (told_of r.pieces) (sym (eaten-append s bytes (chunks_from file k (further here))) ∙ ap (λ (b : List ℕ). eaten s (b ++ chunks_from file k (further here))) same))
        | inr failed ↦ inr (failed.0, failed.1, further_failed between first rest events failed.0 all failed.2)
      ]

  come_on : (k here : ℕ) (s : Scanner) (between events : List Event) (told : Result Region ScanStuck) → IsLawful from (between ++ events) → Runs caller (scans r k here s) events told → Comes s (chunks_from file k here) between events told
  come_on zero here s between events told lawful runs = inl (sym runs.1)
  come_on (suc k) here s between events told lawful runs = elim (cases_Bool (is_settled s.part)) [
    | inl settled ↦
        let ended : scans r (suc k) here s ≡ done (told_of r.pieces s) = rw settled refl in
        let over : Runs caller (done (told_of r.pieces s)) events told = subst (λ (p : Program Call Reply (Result Region ScanStuck)). Runs caller p events told) ended runs in
        inl (sym over.1 ∙ ap (told_of r.pieces) (sym (eaten_settled s (chunks_from file (suc k) here) settled)))
    | inr going ↦
        let reads_on : scans r (suc k) here s ≡ followed_by (read_program r.room r.hosts (plan_of r.pieces r.size here chunk_size)) (after_read r k (further here) s) = rw going refl in
        let two : RunsInTwo caller (read_program r.room r.hosts (plan_of r.pieces r.size here chunk_size)) (after_read r k (further here) s) events told =
        runs_in_two caller (read_program r.room r.hosts (plan_of r.pieces r.size here chunk_size)) (after_read r k (further here) s) events told
        (subst (λ (p : Program Call Reply (Result Region ScanStuck)). Runs caller p events told) reads_on runs) in
        come_behind k here s between two.first two.rest events told two.value two.all lawful two.runs two.then_runs
        (λ t before others l went. come_on k (further here) t before others told l went)
  ]

-- ---- the chunks of a region are its bytes

chunks_are : (file : List ℕ) (k here : ℕ) → here + k * 2 ^ 20 ≤ 2 ^ 41 → chunks_from file k here ≡ take (k * 2 ^ 20) (drop here file)
chunks_are file zero here within = let none : 0 ≡ zero * 2 ^ 20 = omega arith in ap (λ (n : ℕ). take n (drop here file)) none
chunks_are file (suc k) here within =
    let next : further here ≡ here + 2 ^ 20 = omega arith in
    let sum : 2 ^ 20 + k * 2 ^ 20 ≡ suc k * 2 ^ 20 = omega arith in
    ap (λ (n : ℕ). slice file here chunk_size ++ chunks_from file k n) next
    ∙ ap (λ (l : List ℕ). slice file here chunk_size ++ l) (chunks_are file k (here + 2 ^ 20) (omega (arith, sum)))
    ∙ ap (λ (l : List ℕ). take (2 ^ 20) (drop here file) ++ take (k * 2 ^ 20) l) (sym (drop-drop (2 ^ 20) here file))
    ∙ sym (take-add (2 ^ 20) (k * 2 ^ 20) (drop here file))
    ∙ ap (λ (n : ℕ). take n (drop here file)) sum

ceil_covers : (x : ℕ) → x ≤ div_ceil x (2 ^ 20) * 2 ^ 20
ceil_covers x = omega arith

ceil_few : (x : ℕ) → div_ceil x (2 ^ 20) * 2 ^ 20 < x + 2 ^ 20
ceil_few x = omega arith

ceil_exact : (x : ℕ) → x ≡ 2 ^ 32 → div_ceil x (2 ^ 20) * 2 ^ 20 ≡ 2 ^ 32
ceil_exact x e = omega (arith, e)

same_bytes : (file : List ℕ) (start end : ℕ) → end ≡ region_end (length file) start (start + 2 ^ 32) → take (div_ceil (end - start) (2 ^ 20) * 2 ^ 20) (drop start file) ≡ take (2 ^ 32) (drop start file)
same_bytes file start end is =
    let long : length (drop start file) ≡ length file - start = length-drop start file in
    elim (cases_lt (length (drop start file)) (2 ^ 32)) [
      | inl few ↦
          let covered : length (drop start file) ≤ div_ceil (end - start) (2 ^ 20) * 2 ^ 20 = omega (arith, long, is, few, ceil_covers (end - start)) in
          take_all (div_ceil (end - start) (2 ^ 20) * 2 ^ 20) (drop start file) covered ∙ sym (take_all (2 ^ 32) (drop start file) (omega (arith, few)))
      | inr many ↦ ap (λ (n : ℕ). take n (drop start file)) (ceil_exact (end - start) (omega (arith, long, is, many)))
    ]

ends_so : (file : List ℕ) (start end : ℕ) → end ≡ region_end (length file) start (start + 2 ^ 32) → start + length (slice file start (2 ^ 32)) ≡ end
ends_so file start end is = omega (arith, is, length-take (2 ^ 32) (drop start file), length-drop start file)

-- ---- what is told

tells : (caller region : ℕ) (from : State) (pieces : List Piece) (file : List ℕ) (events : List Event) (told : Result Region ScanStuck) (s : Scanner)
    → told ≡ told_of pieces s → IsTold (region_start region) (region_stop region) (region_bytes region file) [] (finished s) → IsScanOf caller from pieces region file events told
tells caller region from pieces file events told s is (inl (files, last, has, e)) =
    let all : told ≡ Ok (record { units = units_of pieces (places_of (region_start region) files); end = last }) = is ∙ ap (told_as pieces) e in
    subst (λ (t : Result Region ScanStuck). IsScanOf caller from pieces region file events t) (sym all) (record { files = files; has = has; units = refl })
tells caller region from pieces file events told s is (inr (place, wrong, e)) =
    let all : told ≡ Err (Bad place) = is ∙ ap (told_as pieces) e in
    subst (λ (t : Result Region ScanStuck). IsScanOf caller from pieces region file events t) (sym all) wrong

pub scan_tells : (caller region : ℕ) (from : State) (r : OpenReader) (file : List ℕ) (between scanning : List Event) (told : Result Region ScanStuck)
    → ((between reading : List Event) (at len : ℕ) (bytes : List ℕ) → IsLawful from (between ++ reading)
    → Runs caller (read_program r.room r.hosts (plan_of r.pieces r.size at len)) reading (Ok bytes) → bytes ≡ slice file at len)
    → ((between reading : List Event) (at len : ℕ) (why : Trouble) → IsLawful from (between ++ reading)
    → Runs caller (read_program r.room r.hosts (plan_of r.pieces r.size at len)) reading (Err why) → FailsByStore caller (state_after from between) reading why)
    → region < REGIONS → r.size ≡ length file → IsBytes file → IsLawful from (between ++ scanning) → Runs caller (scan_program r region) scanning told
    → IsScanOf caller (state_after from between) r.pieces region file scanning told
scan_tells caller region from r file between scanning told reads fails known size are lawful runs =
    let start : ℕ = region * REGION_SIZE in
    let stop : ℕ = region * REGION_SIZE + REGION_SIZE in
    let end : ℕ = region_end r.size start stop in
    let k : ℕ = div_ceil (end - start) (2 ^ 20) in
    let end_is : end ≡ region_end (length file) start stop = ap (λ (n : ℕ). region_end n start stop) size in
    let bytes : List ℕ = region_bytes region file in
    let chunks : chunks_from file k start ≡ bytes = chunks_are file k start (omega (arith, known, ceil_few (end - start))) ∙ same_bytes file start end end_is in
    let holds : IsBytes bytes = IsBytes-take (2 ^ 32) (drop start file) (IsBytes-drop start file are) in
    elim (come_on caller from r file reads fails k start (begins_at stop end start []) between scanning told lawful runs) [
      | inl comes ↦ tells caller region (state_after from between) r.pieces file scanning told (eaten (begins_at stop end start []) bytes)
          (comes ∙ ap (λ (b : List ℕ). told_of r.pieces (eaten (begins_at stop end start []) b)) chunks)
          (total stop end start bytes holds (ends_so file start end end_is) (omega arith) (omega (arith, known)))
      | inr failed ↦ subst (λ (t : Result Region ScanStuck). IsScanOf caller (state_after from between) r.pieces region file scanning t) (sym failed.1) failed.2
    ]
