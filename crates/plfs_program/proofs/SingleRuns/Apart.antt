-- The units that a scan tells stand one behind the other.
use Rattle.std.proofs.Common.{◌≡◌, ℕ, zero, suc, ◌+◌, ◌-◌, ◌*◌, ◌<◌, ◌≤◌, ◌^◌, min, ◌==◌, Bool, true, false, if◌then◌else◌, List, [], ◌∷◌, ◌++◌, Option, Some, None, Result, Ok, Err, refl, subst, arith}
use Rattle.std.specs.List.{All, AllByRecursion}
use Rattle.std.proofs.lemmas.Bool.Decides.{nat_tests}
use Rattle.std.proofs.lemmas.List.Elements.{All-cons, All-nil}
use Rattle.plain_file.specs.declared.pieces.Piece.{Piece}
use Rattle.mount_model.specs.State.{State}
use Rattle.mount_model.specs.declared.call.Call.TheVariants.{Greet}
use Rattle.mount_model.specs.declared.reply.Reply.{Reply}
use Rattle.mount_model.specs.History.{Event}
use Rattle.mount_model.specs.Running.{Runs}
use Rattle.mount_model.specs.declared.stuck.Stuck.{Stuck as Trouble}
use Rattle.mount_model.proofs.Flows.Facts.{runs_in_two}
use Rattle.mount_model.specs.Program.{done, ask, followed_by}
use Rattle.lone_flow.specs.Driving.{Makes}
use Rattle.read_plan.specs.Plan.{plan_of}
use Rattle.index_reader.specs.declared.opened.OpenReader.{OpenReader}
use Rattle.index_reader.specs.Reading.{read_program}
use Rattle.unit_format.specs.declared.units.TheConstants.{REGION_SIZE}
use Rattle.unit_format.specs.declared.scanner.Part.{Part}
use Rattle.unit_format.specs.declared.scanner.Part.TheVariants.{Count, Size, Name, Content, Over, Bad}
use Rattle.unit_format.specs.declared.scanner.Scanner.{Scanner}
use Rattle.unit_format.specs.declared.finding.Unit.{Unit as Found}
use Rattle.unit_format.specs.declared.finding.Region.{Region}
use Rattle.unit_format.specs.Alike.{StandApart}
use Rattle.plfs_types.specs.Names.{name_of}
use Rattle.unit_format.specs.Units.{unseen_unit}
use Rattle.unit_format.specs.Scanning.{begins_at, expects, is_settled, after_count, after_size, after_file, after_name, number_of, sizes_fit, judged, judged_as, kept, less_more, fed, eaten, ends_region}
use Rattle.pack_files.specs.declared.scan.ScanStuck.TheVariants.{Stuck}
use Rattle.pack_files.specs.Scanning.{unit_of, units_of, Scans, told, told_as, scans, scan_program, further, chunk_size, read_then, region_end}

-- ---- files, one behind the other

abbrev Behind : List Found → Type 0
Behind [] = Unit {0}
Behind (f ∷ files) = AllByRecursion (λ (g : Found). f.at < g.at) files × Behind files

-- none is past this place
abbrev Until : ℕ → List Found → Type 0
Until place files = AllByRecursion (λ (f : Found). f.at ≤ place) files

behind_more : (files : List Found) (f : Found) (place : ℕ) → Behind files → Until place files → place < f.at → Behind (files ++ f ∷ [])
behind_more [] f place b u less = (tt, tt)
behind_more (g ∷ files) f place b u less = (further_all files b.0, behind_more files f place b.1 u.1 less)
  where
    further_all : (files : List Found) → AllByRecursion (λ (h : Found). g.at < h.at) files → AllByRecursion (λ (h : Found). g.at < h.at) (files ++ f ∷ [])
    further_all [] all = (omega (arith, u.0, less), tt)
    further_all (h ∷ hs) all = (all.0, further_all hs all.1)

until_more : (files : List Found) (f : Found) (place next : ℕ) → Until place files → place ≤ next → f.at ≤ next → Until next (files ++ f ∷ [])
until_more [] f place next u more here = (here, tt)
until_more (g ∷ files) f place next u more here = (omega (arith, u.0, more), until_more files f place next u.1 more here)

-- ---- a scan's files are so

abbrev PartFits : Part → ℕ → ℕ → Type 0
PartFits (Name at len) place end = (place < at) × (at + len ≤ end)
PartFits other place end = Unit {0}

record Fits (s : Scanner) : Type 0 where
  behind : Behind s.units
  until : Until s.place s.units
  room : s.end < 2 ^ 64
  part : PartFits s.part s.place s.end

if_fits : (c : Bool) (x y : Scanner) → (c ≡ true → Fits x) → (c ≡ false → Fits y) → Fits (if c then x else y)
if_fits true x y a b = a refl
if_fits false x y a b = b refl

-- the part is another, of which nothing is asked
expects_fits : (s : Scanner) (part : Part) (more : ℕ) → Fits s → PartFits part s.place s.end → Fits (expects s part more)
expects_fits s part more f p = record { behind = f.behind; until = f.until; room = f.room; part = p }

count_fits : (s : Scanner) (name : ℕ) → Fits s → Fits (after_count s name)
count_fits s name f = if_fits (name == 0) (expects s Over 0) (expects s (Size name) 7) (λ e. expects_fits s Over 0 f tt) (λ e. expects_fits s (Size name) 7 f tt)

past_start : (place end name content : ℕ) → sizes_fit place end name content ≡ true → (place < place + 16 + name) × (place + 16 + name + content ≤ end)
past_start place end name content e = let within : place + 16 + name + content ≤ end = grind (arith, nat_tests) in (omega (arith), within)

size_fits : (s : Scanner) (name content : ℕ) → Fits s → Fits (after_size s name content)
size_fits s name content f =
    if_fits (sizes_fit s.place s.end name content) (expects s (Name (s.place + 16 + name) content) (name - 1)) (expects s Bad 0)
    (λ e. expects_fits s (Name (s.place + 16 + name) content) (name - 1) f (past_start s.place s.end name content e)) (λ e. expects_fits s Bad 0 f tt)

file_fits : (s : Scanner) (file : Found) (next : ℕ) → Fits s → s.place < file.at → file.at ≤ next → Fits (after_file s file next)
file_fits s file next f past here =
    let behind = behind_more s.units file s.place f.behind f.until past in
    let until = until_more s.units file s.place next f.until (omega (arith, past, here)) here in
    if_fits (file.len == 0) (begins_at s.stop s.end next (s.units ++ file ∷ [])) (record s { place = next; part = Content; more = file.len - 1; got = []; units = s.units ++ file ∷ [] })
    (λ e. record { behind = behind; until = until; room = f.room; part = tt }) (λ e. record { behind = behind; until = until; room = f.room; part = tt })

name_fits : (s : Scanner) (name : Option (List ℕ)) (at len : ℕ) → Fits s → s.place < at → at + len ≤ s.end → Fits (after_name s name at len)
name_fits s None at len f past fits = expects_fits s Bad 0 f tt
name_fits s (Some name) at len f past fits =
    let room = f.room in
    file_fits s (unseen_unit name at len) (min (at + len) (2 ^ 64 - 1)) f past (grind (arith, room, fits))

judged_fits : (s : Scanner) (part : Part) → s.part ≡ part → Fits s → Fits (judged_as part s)
judged_fits s Count is f = count_fits s (number_of s.got) f
judged_fits s (Size name) is f = size_fits s name (number_of s.got) f
judged_fits s (Name at len) is f = let p : PartFits (Name at len) s.place s.end = subst (λ q. PartFits q s.place s.end) is f.part in name_fits s (name_of s.got) at len f p.0 p.1
judged_fits s Content is f = record { behind = f.behind; until = f.until; room = f.room; part = tt }
judged_fits s Over is f = f
judged_fits s Bad is f = f

kept_fits : (s : Scanner) (bytes : List ℕ) → Fits s → Fits (kept s bytes)
kept_fits s bytes f = record { behind = f.behind; until = f.until; room = f.room; part = f.part }

less_fits : (s : Scanner) (count : ℕ) → Fits s → Fits (less_more s count)
less_fits s count f = record { behind = f.behind; until = f.until; room = f.room; part = f.part }

fed_fits : (s : Scanner) (b : ℕ) → Fits s → Fits (fed s b)
fed_fits s b f =
    let after = kept_fits s (b ∷ []) f in
    if_fits (is_settled s.part) s _ (λ e. f) (λ e.
    if_fits (s.more == 0) (judged (kept s (b ∷ []))) (less_more (kept s (b ∷ [])) 1) (λ z. judged_fits (kept s (b ∷ [])) (kept s (b ∷ [])).part refl after) (λ z. less_fits (kept s (b ∷ [])) 1 after))

eaten_fits : (s : Scanner) (bytes : List ℕ) → Fits s → Fits (eaten s bytes)
eaten_fits s [] f = f
eaten_fits s (b ∷ bytes) f = eaten_fits (fed s b) bytes (fed_fits s b f)

-- ---- the units are so too

all_past : (pieces : List Piece) (n : ℕ) (files : List Found) → AllByRecursion (λ (f : Found). n < f.at) files → All (λ (u : Found). n < u.at) (units_of pieces files)
all_past pieces n [] all = All-nil (λ (u : Found). n < u.at)
all_past pieces n (f ∷ files) all = All-cons (λ (u : Found). n < u.at) (unit_of pieces f) (units_of pieces files) all.0 (all_past pieces n files all.1)

units_apart : (pieces : List Piece) (files : List Found) → Behind files → StandApart (units_of pieces files)
units_apart pieces [] b = tt
units_apart pieces (f ∷ files) b = (all_past pieces f.at files b.0, units_apart pieces files b.1)

told_apart : (pieces : List Piece) (s : Scanner) (r : Region) → Fits s → told pieces s ≡ Ok r → StandApart r.units
told_apart pieces s r f is = elim (ends_region s.part s) as (λ c. told_as pieces (if c then Ok (record { units = s.units; end = s.place }) else Err s.place) ≡ Ok r → StandApart r.units) [
  | true ↦ λ e. (let same : record { units = units_of pieces s.units; end = s.place } ≡ r = cc in subst (λ (q : Region). StandApart q.units) same (units_apart pieces s.units f.behind))
  | false ↦ λ e. absurd (cc)
] is

-- ---- and so they are once the calls of a scan were made

behind_read : (next : List ℕ → Scans) (r : Region) (rest : List Event) (bytes : Result (List ℕ) Trouble) → ((read : List ℕ) → Runs 0 (next read) rest (Ok r) → StandApart r.units) → Runs 0 (read_then next bytes) rest (Ok r) → StandApart r.units
behind_read next r rest (Ok bytes) apart a = apart bytes a
behind_read next r rest (Err why) apart a = let no : Err (Stuck why) ≡ Ok r = a.1 in absurd (cc)

scans_apart : (reader : OpenReader) (n here : ℕ) (s : Scanner) (events : List Event) (r : Region) → Fits s → Runs 0 (scans reader n here s) events (Ok r) → StandApart r.units
scans_apart reader zero here s events r f runs = told_apart reader.pieces s r f runs.1
scans_apart reader (suc n) here s events r f runs =
    let next : List ℕ → Scans = λ bytes. scans reader n (further here) (eaten s bytes) in
    let goes : Scans = followed_by (read_program reader.room reader.hosts (plan_of reader.pieces reader.size here chunk_size)) (read_then next) in
    elim (is_settled s.part) as (λ c. Runs 0 (if c then done (told reader.pieces s) else goes) events (Ok r) → StandApart r.units) [
      | true ↦ λ a. told_apart reader.pieces s r f a.1
      | false ↦ λ a. (
          let two = runs_in_two 0 (read_program reader.room reader.hosts (plan_of reader.pieces reader.size here chunk_size)) (read_then next) events (Ok r) a in
          behind_read next r two.rest two.value (λ bytes more. scans_apart reader n (further here) (eaten s bytes) two.rest r (eaten_fits s bytes f) more) two.then_runs)
    ] runs

few_bytes : (region size start stop : ℕ) → region < 256 → start ≡ region * REGION_SIZE → stop ≡ region * REGION_SIZE + REGION_SIZE → region_end size start stop < 2 ^ 64
few_bytes region size start stop few a b = grind (arith)

pub scan_apart : (reader : OpenReader) (region : ℕ) (start end : State) (r : Region) → region < 256 → Makes (scan_program reader region) start (Ok r) end → StandApart r.units
scan_apart reader region start end r few made =
    let two = runs_in_two 0 (ask Greet (λ (reply : Reply). done reply)) (λ reply. scan_program reader region) made.events (Ok r) made.runs in
    let begins : Fits (begins_at (region * REGION_SIZE + REGION_SIZE) (region_end reader.size (region * REGION_SIZE) (region * REGION_SIZE + REGION_SIZE)) (region * REGION_SIZE) []) =
    record { behind = tt; until = tt; room = few_bytes region reader.size (region * REGION_SIZE) (region * REGION_SIZE + REGION_SIZE) few refl refl; part = tt } in
    scans_apart reader _ (region * REGION_SIZE) _ two.rest r begins two.then_runs
