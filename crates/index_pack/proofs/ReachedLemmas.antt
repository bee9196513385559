-- The runs so far, those still to come, and what the first ones come to.
use Rattle.std.proofs.Common.{◌≡◌, ℕ, zero, suc, ◌+◌, ◌-◌, ◌*◌, ◌<◌, ◌≤◌, List, [], ◌∷◌, ◌++◌, length, drop, refl, sym, ap, ◌∙◌, subst, arith, mul-suc}
use Rattle.std.proofs.lemmas.List.{length-append, drop-drop}
use Rattle.std.proofs.Math.Nat.{mul-le-mul_left}
use Rattle.plfs_types.specs.declared.entries.Entry.{Entry}
use Rattle.index_entry.specs.Entries.{logged, last_stamp}
use Rattle.index_entry.specs.Records.{IsBytes, records_in}
use Rattle.index_entry.specs.Spelling.{FitsPlaces}
use Rattle.index_entry.proofs.Facts.{IsBytes-drop, grows}
use Rattle.index_pack.specs.declared.runs.Run.{Run}
use Rattle.index_pack.specs.Bad.{BreaksAt}
use Rattle.index_pack.specs.RunEnds.{EndsWell, run_stamp}
use Rattle.index_pack.specs.Reading.{run_in, runs_in, from_run, later_runs}
use Rattle.index_pack.specs.Runs.{entry_of, run_entries, entries_of, Ends, CouldGoOn}
use Rattle.index_pack.specs.Valid.{IsValidRun, AreValidBehind, AreValidRuns, writer_of}
use Rattle.index_pack.proofs.Ends.{valid_run, valid_ends_well, places_fit}
use Rattle.index_pack.proofs.Following.{last_stamp-run_entries, logged-run_entries, length-run_entries}
use Rattle.index_pack.proofs.Formats.{runs_format}

-- ---- the runs from one on

pub later_is : (n index : ℕ) (bytes : List ℕ) → index < n → later_runs n index bytes ≡ run_in (from_run index bytes) ∷ later_runs n (index + 1) bytes
later_is n index bytes lt =
    let left : n - index ≡ suc (n - (index + 1)) = omega arith in
    let place : 24 + 64 * index + 64 ≡ 24 + 64 * (index + 1) = omega arith in
    let behind : drop 64 (from_run index bytes) ≡ from_run (index + 1) bytes = drop-drop 64 (24 + 64 * index) bytes ∙ ap (λ (k : ℕ). drop k bytes) place in
    ap (λ (k : ℕ). records_in run_in 64 k (from_run index bytes)) left
    ∙ ap (λ (rest : List ℕ). run_in (from_run index bytes) ∷ records_in run_in 64 (n - (index + 1)) rest) behind

pub later_all : (n : ℕ) (bytes : List ℕ) → later_runs n 0 bytes ≡ runs_in n bytes
later_all n bytes =
    let all : n - 0 ≡ n = omega arith in
    let place : 24 + 64 * 0 ≡ 24 = omega arith in
    ap (λ (k : ℕ). records_in run_in 64 k (from_run 0 bytes)) all ∙ ap (λ (k : ℕ). records_in run_in 64 n (drop k bytes)) place

pub later_none : (n : ℕ) (bytes : List ℕ) → later_runs n n bytes ≡ []
later_none n bytes = let none : n - n ≡ 0 = omega arith in ap (λ (k : ℕ). records_in run_in 64 k (from_run n bytes)) none

-- the last run ends, and another one where it could not go on with the next
pub last_ends : (n index : ℕ) (bytes : List ℕ) (r : Run) → index + 1 ≡ n → Ends r (later_runs n (index + 1) bytes)
last_ends n index bytes r is =
    let none : later_runs n (index + 1) bytes ≡ [] = ap (λ (i : ℕ). later_runs n i bytes) is ∙ later_none n bytes in
    let P : List Run → Type 0 = λ runs. Ends r runs in
    subst P (sym none) tt

pub ends_next : (n index : ℕ) (bytes : List ℕ) (r next : Run) (e : Entry) → index + 1 < n → next ≡ run_in (from_run (index + 1) bytes) → e ≡ entry_of next 0
    → (CouldGoOn r e → ⊥) → Ends r (later_runs n (index + 1) bytes)
ends_next n index bytes r next e lt is first cannot =
    let P : List Run → Type 0 = λ runs. Ends r runs in
    let Q : Entry → Type 0 = λ x. CouldGoOn r x → ⊥ in
    subst P (sym (later_is n (index + 1) bytes lt)) (subst Q (first ∙ ap (λ (q : Run). entry_of q 0) is) cannot)

pub next_cannot : (n index : ℕ) (bytes : List ℕ) (r next : Run) (e : Entry) → index + 1 < n → next ≡ run_in (from_run (index + 1) bytes) → e ≡ entry_of next 0
    → Ends r (later_runs n (index + 1) bytes) → CouldGoOn r e → ⊥
next_cannot n index bytes r next e lt is first ends =
    let P : List Run → Type 0 = λ runs. Ends r runs in
    let Q : Entry → Type 0 = λ x. CouldGoOn r x → ⊥ in
    subst Q (sym (first ∙ ap (λ (q : Run). entry_of q 0) is)) (subst P (later_is n (index + 1) bytes lt) ends)

-- a run that was read keeps all rules where it ends well and is as long as it can be
pub is_valid : (writer last offset : ℕ) (r q : Run) (later : List Run) → r ≡ q → EndsWell writer last offset r → Ends r later → IsValidRun writer last offset q later
is_valid writer last offset r q later same well ends =
    let P : Run → Type 0 = λ p. IsValidRun writer last offset p later in
    subst P same (valid_run writer last offset r later well ends)

pub valid_well : (writer last offset : ℕ) (r q : Run) (later : List Run) → r ≡ q → IsValidRun writer last offset q later → EndsWell writer last offset r
valid_well writer last offset r q later same valid =
    let P : Run → Type 0 = λ p. IsValidRun writer last offset p later in
    valid_ends_well writer last offset r later (subst P (sym same) valid)

pub valid_ends : (writer last offset : ℕ) (r q : Run) (later : List Run) → r ≡ q → IsValidRun writer last offset q later → Ends r later
valid_ends writer last offset r q later same valid = let P : Run → Type 0 = λ p. Ends p later in subst P (sym same) valid.ends

-- ---- what the runs so far come to

-- So many runs keep the rules, and come to so many entries, this last stamp and so many bytes: what holds of the rest
-- behind them holds of all.
pub record HasReached (writer : ℕ) (all rest : List Run) (index entries stamp bytes : ℕ) : Type 0 where
  pub some : entries ≤ bytes
  pub valid : AreValidBehind writer stamp bytes rest → AreValidBehind writer 0 0 all
  pub breaks : (i : ℕ) → BreaksAt writer stamp bytes rest i → BreaksAt writer 0 0 all (index + i)
  pub sum : length (entries_of all) ≡ entries + length (entries_of rest)

begin_reached : (writer : ℕ) (all : List Run) → HasReached writer all all 0 0 0 0
begin_reached writer all = record {
  some = omega arith;
  valid = λ valid. valid;
  breaks = λ i breaks. let P : ℕ → Type 0 = λ j. BreaksAt writer 0 0 all j in subst P (omega arith) breaks;
  sum = omega arith;
}

pub begins : (writer n : ℕ) (bytes : List ℕ) → HasReached writer (runs_in n bytes) (later_runs n 0 bytes) 0 0 0 0
begins writer n bytes =
    let P : List Run → Type 0 = λ rest. HasReached writer (runs_in n bytes) rest 0 0 0 0 in
    subst P (sym (later_all n bytes)) (begin_reached writer (runs_in n bytes))

step_reached : (writer : ℕ) (all : List Run) (r : Run) (rest : List Run) (index entries stamp bytes : ℕ) (entries_then stamp_then bytes_then : ℕ)
    → HasReached writer all (r ∷ rest) index entries stamp bytes → IsValidRun writer stamp bytes r rest
    → entries_then ≡ entries + r.count → stamp_then ≡ run_stamp r → bytes_then ≡ bytes + r.count * r.len → entries_then ≤ bytes_then
    → HasReached writer all rest (index + 1) entries_then stamp_then bytes_then
step_reached writer all r rest index entries stamp bytes entries_then stamp_then bytes_then reached valid more last sum some =
    let stamps : last_stamp stamp (run_entries r) ≡ stamp_then = last_stamp-run_entries r stamp valid.shape ∙ sym last in
    let sums : bytes + logged (run_entries r) ≡ bytes_then = omega (arith, sum, logged-run_entries r) in
    let G : ℕ → Type 0 = λ s. AreValidBehind writer s bytes_then rest in
    let H : ℕ → Type 0 = λ b. AreValidBehind writer (last_stamp stamp (run_entries r)) b rest in
    record {
      some = some;
      valid = λ later. reached.valid (valid, subst H (sym sums) (subst G (sym stamps) later));
      breaks = λ i breaks. (
          let B : ℕ → Type 0 = λ s. BreaksAt writer s bytes_then rest i in
          let D : ℕ → Type 0 = λ b. BreaksAt writer (last_stamp stamp (run_entries r)) b rest i in
          let E : ℕ → Type 0 = λ j. BreaksAt writer 0 0 all j in
          subst E (omega arith) (reached.breaks (suc i) (valid, subst D (sym sums) (subst B (sym stamps) breaks))));
      sum = omega (arith, reached.sum, more, length-append (run_entries r) (entries_of rest), length-run_entries r);
    }

pub steps : (writer n index : ℕ) (bytes : List ℕ) (entries stamp sum entries_then stamp_then sum_then : ℕ) → index < n
    → HasReached writer (runs_in n bytes) (later_runs n index bytes) index entries stamp sum
    → IsValidRun writer stamp sum (run_in (from_run index bytes)) (later_runs n (index + 1) bytes)
    → entries_then ≡ entries + (run_in (from_run index bytes)).count → stamp_then ≡ run_stamp (run_in (from_run index bytes))
    → sum_then ≡ sum + (run_in (from_run index bytes)).count * (run_in (from_run index bytes)).len → entries_then ≤ sum_then
    → HasReached writer (runs_in n bytes) (later_runs n (index + 1) bytes) (index + 1) entries_then stamp_then sum_then
steps writer n index bytes entries stamp sum entries_then stamp_then sum_then lt reached valid more last sums some =
    let P : List Run → Type 0 = λ rest. HasReached writer (runs_in n bytes) rest index entries stamp sum in
    step_reached writer (runs_in n bytes) (run_in (from_run index bytes)) (later_runs n (index + 1) bytes) index entries stamp sum entries_then stamp_then sum_then
    (subst P (later_is n index bytes lt) reached) valid more last sums some

pub stops : (writer n index : ℕ) (bytes : List ℕ) (entries stamp sum : ℕ) → index < n
    → HasReached writer (runs_in n bytes) (later_runs n index bytes) index entries stamp sum
    → (IsValidRun writer stamp sum (run_in (from_run index bytes)) (later_runs n (index + 1) bytes) → ⊥)
    → BreaksAt writer 0 0 (runs_in n bytes) index
stops writer n index bytes entries stamp sum lt reached broken =
    let P : List Run → Type 0 = λ rest. BreaksAt writer stamp sum rest 0 in
    let E : ℕ → Type 0 = λ j. BreaksAt writer 0 0 (runs_in n bytes) j in
    subst E (omega arith) (reached.breaks 0 (subst P (sym (later_is n index bytes lt)) broken))

pub ends_valid : (writer n index : ℕ) (bytes : List ℕ) (entries stamp sum : ℕ) → index ≡ n
    → HasReached writer (runs_in n bytes) (later_runs n index bytes) index entries stamp sum → AreValidBehind writer 0 0 (runs_in n bytes)
ends_valid writer n index bytes entries stamp sum is reached =
    let P : List Run → Type 0 = λ rest. AreValidBehind writer stamp sum rest in
    let Q : ℕ → Type 0 = λ i. AreValidBehind writer stamp sum (later_runs n i bytes) in
    reached.valid (subst Q (sym is) (subst P (sym (later_none n bytes)) tt))

pub ends_counted : (writer n index : ℕ) (bytes : List ℕ) (entries stamp sum : ℕ) → index ≡ n
    → HasReached writer (runs_in n bytes) (later_runs n index bytes) index entries stamp sum → length (entries_of (runs_in n bytes)) ≡ entries
ends_counted writer n index bytes entries stamp sum is reached =
    let none : later_runs n index bytes ≡ [] = ap (λ (i : ℕ). later_runs n i bytes) is ∙ later_none n bytes in
    let nothing : length (entries_of (later_runs n index bytes)) ≡ 0 = ap (λ (runs : List Run). length (entries_of runs)) none in
    omega (arith, reached.sum, nothing)

-- entries are no more than their bytes
pub few_entries : (writer last offset : ℕ) (r : Run) → EndsWell writer last offset r → r.count ≤ r.count * r.len
few_entries writer last offset r well =
    let whole : r.count * 1 ≤ r.count * r.len = mul-le-mul_left r.count well.some in omega (arith, whole)

-- one run more
pub runs_further : (n : ℕ) (bytes : List ℕ) (r : Run) → r ≡ run_in (from_run n bytes) → runs_in (n + 1) bytes ≡ runs_in n bytes ++ r ∷ []
runs_further n bytes r is = grows run_in 64 24 n bytes (runs_in n bytes) r refl is

-- ---- the entries of each run have 64 bits

each_fits : (writer last offset n : ℕ) (bytes : List ℕ) → IsBytes bytes → AreValidBehind writer last offset (records_in run_in 64 n bytes)
    → (index : ℕ) → index < n → (k : ℕ) → k < (run_in (drop (64 * index) bytes)).count → FitsPlaces (entry_of (run_in (drop (64 * index) bytes)) k)
each_fits writer last offset zero bytes are valid index lt k less = absurd (omega arith)
each_fits writer last offset (suc n) bytes are valid zero lt k less =
    let none : 64 * 0 ≡ 0 = omega arith in
    let P : ℕ → Type 0 = λ at. k < (run_in (drop at bytes)).count in
    let Q : ℕ → Type 0 = λ at. FitsPlaces (entry_of (run_in (drop at bytes)) k) in
    subst Q (sym none) (places_fit writer last offset k (run_in bytes)
    (valid_ends_well writer last offset (run_in bytes) (records_in run_in 64 n (drop 64 bytes)) valid.0) (runs_format.fits bytes are) (subst P none less))
each_fits writer last offset (suc n) bytes are valid (suc index) lt k less =
    let further : drop (64 * index) (drop 64 bytes) ≡ drop (64 * suc index) bytes =
    drop-drop (64 * index) 64 bytes ∙ ap (λ (at : ℕ). drop at bytes) (omega (arith, mul-suc 64 index)) in
    let P : List ℕ → Type 0 = λ rest. k < (run_in rest).count in
    let Q : List ℕ → Type 0 = λ rest. FitsPlaces (entry_of (run_in rest) k) in
    subst Q further (each_fits writer (last_stamp last (run_entries (run_in bytes))) (offset + logged (run_entries (run_in bytes))) n (drop 64 bytes) (IsBytes-drop 64 bytes are) valid.1
    index (omega arith) k (subst P (sym further) less))

pub entries_fit : (n : ℕ) (bytes : List ℕ) → IsBytes bytes → AreValidRuns (runs_in n bytes) → (index : ℕ) → index < n → (r : Run) → r ≡ run_in (from_run index bytes)
    → (k : ℕ) → k < r.count → FitsPlaces (entry_of r k)
entries_fit n bytes are valid index lt r is k less =
    let further : drop (64 * index) (drop 24 bytes) ≡ from_run index bytes = drop-drop (64 * index) 24 bytes in
    let same : run_in (drop (64 * index) (drop 24 bytes)) ≡ r = ap run_in further ∙ sym is in
    let P : Run → Type 0 = λ q. k < q.count in
    let Q : Run → Type 0 = λ q. FitsPlaces (entry_of q k) in
    subst Q same (each_fits (writer_of (runs_in n bytes)) 0 0 n (drop 24 bytes) (IsBytes-drop 24 bytes are) valid index lt k (subst P (sym same) less))
