-- The scans of small files, and the naming of all, go one way.
use Rattle.std.proofs.Common.{◌≡◌, ℕ, zero, suc, ◌+◌, ◌<◌, List, [], ◌∷◌, ◌++◌, length, Result, Ok, Err, refl, sym, ap, subst, append_assoc, arith}
use Rattle.std.proofs.lemmas.List.{append-nil}
use Rattle.mount_model.specs.History.{Event}
use Rattle.mount_model.specs.State.{State}
use Rattle.mount_model.specs.Paths.{Name}
use Rattle.store_api.specs.Names.{in_byte_order}
use Rattle.mount_model.specs.declared.stuck.Stuck.{Stuck as Trouble}
use Rattle.index_reader.specs.declared.opened.OpenReader.{OpenReader}
use Rattle.opening_flow.specs.Opening.{opening_program}
use Rattle.unit_format.specs.declared.finding.Region.{Region}
use Rattle.unit_format.specs.declared.units.TheConstants.{REGIONS}
use Rattle.pack_files.specs.declared.scan.ScanStuck.{ScanStuck}
use Rattle.pack_files.specs.declared.scan.ScanStuck.TheVariants.{Stuck}
use Rattle.pack_files.specs.Scanning.{scan_program}
use Rattle.lone_flow.specs.Scans.{ScansFrom, ScansAll}
use Rattle.lone_flow.specs.Naming.{Names, NamesIn, names_in, opens, opens_stuck}
use Rattle.plfs_program.specs.LoneCalls.{names_calls, naming_calls, regions_calls, scans_calls}
use Rattle.plfs_program.proofs.SingleRuns.OneWay.{Doing, GoesOneWay, DoneBy, Gives, MakesBy, Then, as_one_way, gives_one_way, makes_one_way, then_gives, then_one_way}

abbrev Regions : Type 0
Regions = Result (List Region) ScanStuck

-- ---- one region after the other

abbrev joined : Region → Regions → Regions
joined r (Ok regions) = Ok (r ∷ regions)
joined r (Err why) = Err why

-- behind a region its scan's trouble ends it, or the rest goes on
abbrev GoesOn : Doing Regions → Result Region ScanStuck → Doing Regions
GoesOn rest (Err why) = Gives (Err why)
GoesOn rest (Ok r) = Then rest (λ regions. Gives (joined r regions))

-- so many regions are left, the first one has this number
abbrev ScansOn : OpenReader → ℕ → ℕ → Doing Regions
ScansOn reader zero region = Gives (Ok [])
ScansOn reader (suc n) region = Then (MakesBy (scan_program reader region)) (GoesOn (ScansOn reader n (region + 1)))

goes_on_one_way : (rest : Doing Regions) → GoesOneWay rest → (r : Result Region ScanStuck) → GoesOneWay (GoesOn rest r)
goes_on_one_way rest one (Err why) = gives_one_way (Err why)
goes_on_one_way rest one (Ok r) = then_one_way rest (λ regions. Gives (joined r regions)) one (λ regions. gives_one_way (joined r regions))

scans_one_way : (reader : OpenReader) (n region : ℕ) → GoesOneWay (ScansOn reader n region)
scans_one_way reader zero region = gives_one_way (Ok [])
scans_one_way reader (suc n) region =
    then_one_way (MakesBy (scan_program reader region)) (GoesOn (ScansOn reader n (region + 1))) (makes_one_way (scan_program reader region))
    (goes_on_one_way (ScansOn reader n (region + 1)) (scans_one_way reader n (region + 1)))

-- ---- all of them

all_shown : (reader : OpenReader) (n region : ℕ) (start end : State) (regions : List Region) → length regions ≡ n → (scans : ScansFrom reader region start regions end) → ScansOn reader n region start (regions_calls reader region start regions end scans) (Ok regions) end
all_shown reader zero region start end [] long is = (refl, refl, is)
all_shown reader zero region start end (r ∷ regions) long scans = absurd (omega (arith, long))
all_shown reader (suc n) region start end [] long is = absurd (omega (arith, long))
all_shown reader (suc n) region start end (r ∷ regions) long (next, made, more) = (
  Ok r,
  next,
  made.events,
  regions_calls reader (region + 1) next regions end more,
  refl,
  (made, refl),
  then_gives (ScansOn reader n (region + 1)) (λ told. joined r told) next (regions_calls reader (region + 1) next regions end more) (Ok regions) (Ok (r ∷ regions)) end (all_shown reader n (region + 1) next end regions (omega (arith, long)) more) refl,
)

-- the scan of the next region, by these calls, ended in a trouble
stuck_shown : (reader : OpenReader) (n region : ℕ) (start mid end : State) (regions : List Region) (why : ScanStuck) (last : List Event) → length regions < n → (scans : ScansFrom reader region start regions mid)
    → MakesBy (scan_program reader (region + length regions)) mid last (Err why) end → ScansOn reader n region start (regions_calls reader region start regions mid scans ++ last) (Err why) end
stuck_shown reader zero region start mid end regions why last few scans made = absurd (omega (arith, few))
stuck_shown reader (suc n) region start mid end [] why last few is made =
    let here : MakesBy (scan_program reader region) start last (Err why) end = subst (λ (z : ℕ × State). MakesBy (scan_program reader z.0) z.1 last (Err why) end) (λ i. (plus_none region i, is i)) made in
    (Err why, end, last, [], sym (append-nil last), here, (refl, refl, refl))
  where
    plus_none : (n : ℕ) → n + 0 ≡ n
    plus_none n = omega (arith)
stuck_shown reader (suc n) region start mid end (r ∷ regions) why last few (next, first, more) made =
    let there : region + length (r ∷ regions) ≡ (region + 1) + length regions = omega (arith) in
    let ending : MakesBy (scan_program reader ((region + 1) + length regions)) mid last (Err why) end = subst (λ z. MakesBy (scan_program reader z) mid last (Err why) end) there made in
    let behind : List Event = regions_calls reader (region + 1) next regions mid more ++ last in (
      Ok r,
      next,
      first.events,
      behind,
      append_assoc first.events (regions_calls reader (region + 1) next regions mid more) last,
      (first, refl),
      then_gives (ScansOn reader n (region + 1)) (λ told. joined r told) next behind (Err why) (Err why) end (stuck_shown reader n (region + 1) next mid end regions why last (omega (arith, few)) more ending) refl,
    )

all_or_stuck : (reader : OpenReader) (start : State) (regions : Regions) (end : State) (scans : ScansAll reader start regions end) → ScansOn reader REGIONS 0 start (scans_calls reader start regions end scans) regions end
all_or_stuck reader start (Ok regions) end (all, scans) = all_shown reader REGIONS 0 start end regions all scans
all_or_stuck reader start (Err why) end upto =
    stuck_shown reader REGIONS 0 start upto.last end upto.regions why upto.ends.events upto.few upto.scans (subst (λ z. MakesBy (scan_program reader z) upto.last upto.ends.events (Err why) end) (from_none (length upto.regions)) (upto.ends, refl))
  where
    from_none : (n : ℕ) → n ≡ 0 + n
    from_none n = omega (arith)

abbrev pub ScansBy : OpenReader → Doing Regions
ScansBy reader = DoneBy (ScansAll reader) (scans_calls reader)

pub all_scans_one_way : (reader : OpenReader) → GoesOneWay (ScansBy reader)
all_scans_one_way reader = as_one_way (ScansAll reader) (scans_calls reader) (ScansOn reader REGIONS 0) (λ start regions end scans. all_or_stuck reader start regions end scans) (scans_one_way reader REGIONS 0)

-- ---- the names

abbrev Told : Type 0
Told = Result (List Name) ScanStuck

abbrev named : Regions → Told
named (Ok regions) = Ok (in_byte_order (names_in regions))
named (Err why) = Err why

abbrev NamesBy : OpenReader → Doing Told
NamesBy reader = Then (ScansBy reader) (λ regions. Gives (named regions))

names_by : (reader : OpenReader) (start : State) (told : Told) (end : State) (names : NamesIn reader start told end) → NamesBy reader start (names_calls reader start told end names) told end
names_by reader start (Ok names) end (regions, scans, is) = then_gives (ScansBy reader) named start (scans_calls reader start (Ok regions) end scans) (Ok regions) (Ok names) end (scans, refl) (ap Ok is)
names_by reader start (Err why) end scans = then_gives (ScansBy reader) named start (scans_calls reader start (Err why) end scans) (Err why) (Err why) end (scans, refl) refl

abbrev BehindOpening : Result OpenReader Trouble → Doing Told
BehindOpening (Ok reader) = NamesBy reader
BehindOpening (Err why) = Gives (Err (Stuck why))

abbrev NamesSo : Name → Doing Told
NamesSo name = Then (MakesBy (opening_program name 1)) BehindOpening

names_so : (name : Name) (start : State) (told : Told) (end : State) (names : Names name start told end) → NamesSo name start (naming_calls name start told end names) told end
names_so name start told end (opens reader opened made names) = (Ok reader, opened, made.events, names_calls reader opened told end names, refl, (made, refl), names_by reader opened told end names)
names_so name start told end (opens_stuck trouble is made) = (Err trouble, end, made.events, [], sym (append-nil made.events), (made, refl), (is, refl, refl))

behind_one_way : (opened : Result OpenReader Trouble) → GoesOneWay (BehindOpening opened)
behind_one_way (Ok reader) = then_one_way (ScansBy reader) (λ regions. Gives (named regions)) (all_scans_one_way reader) (λ regions. gives_one_way (named regions))
behind_one_way (Err why) = gives_one_way (Err (Stuck why))

pub names_one_way : (name : Name) → GoesOneWay (DoneBy (Names name) (naming_calls name))
names_one_way name =
    as_one_way (Names name) (naming_calls name) (NamesSo name) (λ start told end names. names_so name start told end names) (then_one_way (MakesBy (opening_program name 1)) BehindOpening (makes_one_way (opening_program name 1)) behind_one_way)
