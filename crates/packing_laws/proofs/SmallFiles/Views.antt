-- The view of a cut of a container that has only units, and what a scan of it tells.
use Rattle.std.proofs.Common.{◌≡◌, ℕ, zero, suc, ◌+◌, ◌*◌, ◌≤◌, List, [], ◌∷◌, ◌++◌, length, take, map, None, refl, sym, subst, arith}
use Rattle.std.specs.List.{All, AllByRecursion, Contains}
use Rattle.std.proofs.lemmas.List.{append-nil}
use Rattle.std.proofs.lemmas.List.Elements.{All-contains, All-from_recursion, All-head, recursion_from_All}
use Rattle.index_entry.specs.Records.{IsBytes}
use Rattle.plfs_types.specs.declared.entries.Trunc.{Trunc}
use Rattle.plfs_types.specs.declared.entries.Entry.{Entry}
use Rattle.plain_file.specs.declared.changes.Change.{Change}
use Rattle.plain_file.specs.declared.changes.Change.TheVariants.{Write}
use Rattle.plain_file.specs.File.{HasItsBytes, plain}
use Rattle.plain_file.specs.Shows.{ShowsNewest, truncs_of, write_at}
use Rattle.plain_file.proofs.Facts.{Among, Among-at, ShowsNewest-plain}
use Rattle.mount_sound.specs.Ledger.{Written}
use Rattle.unit_format.specs.declared.units.TheConstants.{REGION_SIZE}
use Rattle.reader_laws.specs.Gathering.{Gathered, IsAdmissible, IsPrefixOf}
use Rattle.reader_laws.specs.GatheringListing.{AreTruncsAt}
use Rattle.reader_laws.specs.Moments.{HadTrunc, IsSoundAt, Moment, issued_by, landed}
use Rattle.reader_laws.specs.GatheringOpening.{HasView}
use Rattle.reader_laws.specs.View.{WritersRise, changes_in, cut_off, writes_in}
use Rattle.mount_sound.specs.Ledger.{change_of}
use Rattle.reader_laws.proofs.Gathered.Facts.{All-append}
use Rattle.reader_laws.proofs.Gathered.OpenReaders.Viewing.{bytes_all, keys_differ}
use Rattle.unit_format.specs.Units.{SmallFile, unit_spelling}
use Rattle.packing_laws.specs.HasOnly.{HasOnlyUnits, IsWrittenAt}
use Rattle.packing_laws.specs.OnlyUnits.{AreOnlyUnits, Filing, PutsUnit}
use Rattle.packing_laws.proofs.SmallFiles.Covered.{covered_shows, entry_among}
use Rattle.packing_laws.proofs.SmallFiles.Places.{unit_long}
use Rattle.packing_laws.proofs.SmallFiles.Regions.{Front, are_bytes, front, none_truncated}

-- ---- the changes of a cut

all_less : (P : Written → Type 0) (m n : ℕ) (writes : List Written) → m ≤ n → AllByRecursion P (take n writes) → AllByRecursion P (take m writes)
all_less P zero n [] few all = tt
all_less P zero n (w ∷ writes) few all = tt
all_less P (suc m) n [] few all = tt
all_less P (suc m) zero (w ∷ writes) few all = absurd (omega (arith, few))
all_less P (suc m) (suc n) (w ∷ writes) few all = (all.0, all_less P m n writes (omega (arith, few)) all.1)

cut_writes : (filing : Filing) (start end : Moment) (room : ℕ) (cut : List Gathered) → HasOnlyUnits filing end room → IsAdmissible start end cut → WritersRise room cut → AllByRecursion (λ (w : Written). PutsUnit filing (change_of w)) (writes_in end cut)
cut_writes filing start end room [] has admissible rise = tt
cut_writes filing start end room (g ∷ cut) has admissible rise =
    let P : Written → Type 0 = λ w. PutsUnit filing (change_of w) in
    let p : IsPrefixOf start end g = admissible.0 in
    let landed_all : AllByRecursion P (take (landed end g.dropping) (issued_by end g.dropping)) = recursion_from_All P (take (landed end g.dropping) (issued_by end g.dropping)) (has.writes g.dropping rise.0 p.stands) in
    All-append P (take g.count (issued_by end g.dropping)) (writes_in end cut) (all_less P g.count (landed end g.dropping) (issued_by end g.dropping) p.most landed_all) (cut_writes filing start end room cut has admissible.1 rise.2)

all_mapped : (P : Change → Type 0) (writes : List Written) → AllByRecursion (λ (w : Written). P (change_of w)) writes → AllByRecursion P (map change_of writes)
all_mapped P [] all = tt
all_mapped P (w ∷ writes) all = (all.0, all_mapped P writes all.1)

none_listed : (m : Moment) (room : ℕ) (truncs : List Trunc) → AreTruncsAt m room truncs → ((stamp size : ℕ) → HadTrunc m room stamp size → ⊥) → truncs ≡ []
none_listed m room [] are none = refl
none_listed m room (t ∷ truncs) are none = absurd (none t.stamp t.size (All-head (λ (u : Trunc). HadTrunc m room u.stamp u.size) t truncs are.there))

-- all changes that a reader sees put units
pub cut_units : (filing : Filing) (start end : Moment) (room : ℕ) (cut : List Gathered) (truncs : List Trunc) → HasOnlyUnits filing end room → HasView start end room cut truncs → AreOnlyUnits filing (changes_in end cut truncs)
cut_units filing start end room cut truncs has v =
    let P : Change → Type 0 = PutsUnit filing in
    let none : truncs ≡ [] = none_listed end room truncs v.all_truncs has.no_truncates in
    let writes : AllByRecursion P (map change_of (writes_in end cut)) = all_mapped P (writes_in end cut) (cut_writes filing start end room cut has v.admissible v.rise) in
    let all : AllByRecursion P (map change_of (writes_in end cut) ++ map cut_off []) = subst (λ cs. AllByRecursion P cs) (sym (append-nil (map change_of (writes_in end cut)))) writes in
    record {
      is_filing = has.is_filing;
      each = All-from_recursion P (changes_in end cut truncs) (subst (λ ts. AllByRecursion P (map change_of (writes_in end cut) ++ map cut_off ts)) (sym none) all);
    }

-- ---- its regions

-- where nothing shows no unit was written
unwritten_at : (filing : Filing) (changes : List Change) → AreOnlyUnits filing changes → All HasItsBytes changes → (place : ℕ) (e : Entry) (f : SmallFile) → write_at changes place ≡ None → Contains changes (Write e (unit_spelling f)) → e.at ≡ place → ⊥
unwritten_at filing changes units full place e f none there at =
    let among : Among (Write e (unit_spelling f)) changes = Among-at changes there.0 (Write e (unit_spelling f)) there.1 there.2 in
    let long : length (unit_spelling f) ≡ e.len = All-contains HasItsBytes changes (Write e (unit_spelling f)) full there in
    let truncs : truncs_of changes ≡ [] = none_truncated filing changes (recursion_from_All (PutsUnit filing) changes units.each) in
    covered_shows changes place e truncs (entry_among changes e (unit_spelling f) among) (omega (arith, at)) (omega (arith, at, long, unit_long f)) none

-- what a reader of units alone sees of a region
pub record SeesUnits (filing : Filing) (changes : List Change) (region : ℕ) : Type 0 where
  pub bytes : IsBytes (plain changes)
  pub front : Front changes (plain changes) (region * REGION_SIZE) (region * REGION_SIZE + REGION_SIZE) (filing region)
  pub unwritten : (place : ℕ) (f : SmallFile) → write_at changes place ≡ None → IsWrittenAt changes place f → ⊥

pub sees_units : (filing : Filing) (end : Moment) (room : ℕ) (cut : List Gathered) (truncs : List Trunc) (region : ℕ) → IsSoundAt end → WritersRise room cut → AreOnlyUnits filing (changes_in end cut truncs) → SeesUnits filing (changes_in end cut truncs) region
sees_units filing end room cut truncs region sound rise units =
    let changes : List Change = changes_in end cut truncs in
    let full : All HasItsBytes changes = bytes_all end sound room cut truncs rise in
    let shows : ShowsNewest changes (plain changes) = ShowsNewest-plain changes (keys_differ end sound room cut truncs rise) (recursion_from_All HasItsBytes changes full) in
    record {
      bytes = are_bytes filing changes (plain changes) shows full units;
      front = front filing changes (plain changes) shows full units region;
      unwritten = λ place f none w. unwritten_at filing changes units full place w.0 f none w.1 w.2;
    }
