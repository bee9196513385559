-- Runs are valid or break a rule at one place, and are valid where they are the longest ones of entries that can be packed.
use Rattle.std.proofs.Common.{◌≡◌, ℕ, zero, suc, ◌+◌, ◌-◌, ◌*◌, ◌≤◌, ◌^◌, List, [], ◌∷◌, ◌++◌, length, refl, sym, ap, ◌∙◌, subst, arith, inl, inr, ◌⊎◌, Result, Ok, Err, IfOk, IfErr}
use Rattle.std.specs.List.{AllByRecursion, flat_map}
use Rattle.std.specs.Int.{w64, to_le_bytes}
use Rattle.plfs_types.specs.declared.entries.Entry.{Entry}
use Rattle.index_entry.specs.Entries.{AreEntriesOf, logged, last_stamp}
use Rattle.index_entry.specs.Spelling.{number_in}
use Rattle.index_entry.specs.Records.{IsBytes}
use Rattle.index_pack.specs.declared.runs.Run.{Run}
use Rattle.index_pack.specs.declared.trouble.PackTrouble.{PackTrouble}
use Rattle.index_pack.specs.declared.trouble.PackTrouble.TheVariants.{NoMemory, Bad}
use Rattle.index_pack.specs.Bad.{HasHead, HasCount, HasLength, BreaksAt, BreaksFirst, IsBadAt, IsPackTrouble}
use Rattle.index_pack.specs.Reading.{runs_in}
use Rattle.index_pack.specs.Runs.{entry_of, entries_from, run_entries, entries_of, AreMaximal}
use Rattle.index_pack.specs.Spelling.{letters, run_spelling, FitsRun, SpellsRuns, Packs}
use Rattle.index_pack.specs.Valid.{IsCount, CanBePacked, AreValidBehind, AreValidRuns, writer_of}
use Rattle.index_pack.proofs.Following.{both_of, first_of, rest_of, head_of, logged-append}
use Rattle.index_pack.proofs.Growing.{few_runs}
use Rattle.index_pack.proofs.Longest.{runs_are_one}
use Rattle.index_pack.proofs.Spelled.{count_spelled, head_spelled, length_spelled, one_spelled, spelled_in}

-- ---- valid runs are the longest ones of entries by the rules

valid_maximal : (writer last offset : ℕ) (runs : List Run) → AreValidBehind writer last offset runs → AreMaximal runs
valid_maximal writer last offset [] valid = tt
valid_maximal writer last offset (r ∷ runs) valid = (
  valid.0.shape,
  valid.0.ends,
  valid_maximal writer (last_stamp last (run_entries r)) (offset + logged (run_entries r)) runs valid.1,
)

valid_entries : (writer last offset : ℕ) (runs : List Run) → AreValidBehind writer last offset runs → AreEntriesOf writer last offset (entries_of runs)
valid_entries writer last offset [] valid = tt
valid_entries writer last offset (r ∷ runs) valid =
    both_of writer last offset (offset + logged (run_entries r)) (run_entries r) (entries_of runs) refl valid.0.in_order
    (valid_entries writer (last_stamp last (run_entries r)) (offset + logged (run_entries r)) runs valid.1)

valid_near : (writer last offset : ℕ) (runs : List Run) → AreValidBehind writer last offset runs → offset ≤ 2 ^ 56 → offset + logged (entries_of runs) ≤ 2 ^ 56
valid_near writer last offset [] valid near = omega (arith, near)
valid_near writer last offset (r ∷ runs) valid near =
    omega (
      arith,
      logged-append (run_entries r) (entries_of runs),
      valid_near writer (last_stamp last (run_entries r)) (offset + logged (run_entries r)) runs valid.1 valid.0.near,
    )

valid_of : (writer last offset : ℕ) (runs : List Run) → AreMaximal runs → AreEntriesOf writer last offset (entries_of runs) → offset + logged (entries_of runs) ≤ 2 ^ 56
    → AreValidBehind writer last offset runs
valid_of writer last offset [] longest are near = tt
valid_of writer last offset (r ∷ runs) longest are near =
    let sum : logged (entries_of (r ∷ runs)) ≡ logged (run_entries r) + logged (entries_of runs) = logged-append (run_entries r) (entries_of runs) in (
      record {
        shape = longest.0;
        in_order = first_of writer last offset (run_entries r) (entries_of runs) are;
        near = omega (arith, near, sum);
        ends = longest.1;
      },
      valid_of writer (last_stamp last (run_entries r)) (offset + logged (run_entries r)) runs longest.2
          (rest_of writer last offset (offset + logged (run_entries r)) (run_entries r) (entries_of runs) refl are)
          (omega (arith, near, sum)),
    )

pub valid_of_owner : (writer : ℕ) (runs : List Run) → AreMaximal runs → AreEntriesOf writer 0 0 (entries_of runs) → logged (entries_of runs) ≤ 2 ^ 56 → AreValidBehind writer 0 0 runs
valid_of_owner writer runs longest are near = valid_of writer 0 0 runs longest are (omega (arith, near))

-- the writer of the first run is that of the entries
valid_of_first : (writer : ℕ) (runs : List Run) → AreMaximal runs → AreEntriesOf writer 0 0 (entries_of runs) → logged (entries_of runs) ≤ 2 ^ 56 → AreValidRuns runs
valid_of_first writer [] longest are near = tt
valid_of_first writer (r ∷ runs) longest are near =
    let P : List Entry → Type 0 = λ es. AreEntriesOf writer 0 0 es in
    let firsts : AreEntriesOf writer 0 0 (entry_of r 0 ∷ entries_from r 1 (r.count - 1)) =
    subst P (head_of r longest.0) (first_of writer 0 0 (run_entries r) (entries_of runs) are) in
    let Q : ℕ → Type 0 = λ w. AreValidBehind w 0 0 (r ∷ runs) in
    subst Q (sym firsts.0.owner) (valid_of_owner writer (r ∷ runs) longest are near)

pub packed_valid : (bytes : List ℕ) (entries : List Entry) → (p : Packs bytes entries) → AreValidRuns p.runs
packed_valid bytes entries p =
    let P : List Entry → Type 0 = λ es. AreEntriesOf p.valid.owner 0 0 es in
    valid_of_first p.valid.owner p.runs p.maximal (subst P (sym p.same) p.valid.in_order) (omega (arith, p.valid.near, ap logged p.same))

pub valid_packed : (bytes : List ℕ) (runs : List Run) → AreValidRuns runs → IsCount (length (entries_of runs)) → SpellsRuns bytes (length (entries_of runs)) runs → Packs bytes (entries_of runs)
valid_packed bytes runs valid counted spells = record {
  valid = record {
    owner = writer_of runs;
    in_order = valid_entries (writer_of runs) 0 0 runs valid;
    near = omega (arith, valid_near (writer_of runs) 0 0 runs valid (omega arith));
    counted = counted;
  };
  runs = runs;
  maximal = valid_maximal (writer_of runs) 0 0 runs valid;
  same = refl;
  spells = spells;
}

-- what is written: the letters, both counts, and the runs
pub written : (entries : List Entry) (runs : List Run) (a b c d bytes : List ℕ) → CanBePacked entries → AreMaximal runs → entries_of runs ≡ entries → AllByRecursion FitsRun runs
    → a ≡ letters → b ≡ a ++ to_le_bytes w64 (length entries) → c ≡ b ++ to_le_bytes w64 (length runs) → d ≡ c ++ flat_map run_spelling runs → bytes ≡ d
    → Packs bytes entries
written entries runs a b c d bytes can longest same fit one two three four five = record {
  valid = can;
  runs = runs;
  maximal = longest;
  same = same;
  spells = record {
    counted = omega (arith, can.counted.1);
    runs_counted = omega (arith, can.counted.1, few_runs runs longest, ap length same);
    runs_fit = fit;
    spelled = five ∙ four ∙ ap (λ (l : List ℕ). l ++ flat_map run_spelling runs) (three
        ∙ ap (λ (l : List ℕ). l ++ to_le_bytes w64 (length runs)) (two ∙ ap (λ (l : List ℕ). l ++ to_le_bytes w64 (length entries)) one));
  };
}

-- ---- one place

valid_breaks_none : (writer last offset : ℕ) (runs : List Run) (index : ℕ) → AreValidBehind writer last offset runs → BreaksAt writer last offset runs index → ⊥
valid_breaks_none writer last offset [] index valid breaks = breaks
valid_breaks_none writer last offset (r ∷ runs) zero valid breaks = breaks valid.0
valid_breaks_none writer last offset (r ∷ runs) (suc index) valid breaks =
    valid_breaks_none writer (last_stamp last (run_entries r)) (offset + logged (run_entries r)) runs index valid.1 breaks.1

one_break : (writer last offset : ℕ) (runs : List Run) (i j : ℕ) → BreaksAt writer last offset runs i → BreaksAt writer last offset runs j → i ≡ j
one_break writer last offset [] i j a b = elim a [ ]
one_break writer last offset (r ∷ runs) zero zero a b = refl
one_break writer last offset (r ∷ runs) zero (suc j) a b = absurd (a b.0)
one_break writer last offset (r ∷ runs) (suc i) zero a b = absurd (b a.0)
one_break writer last offset (r ∷ runs) (suc i) (suc j) a b =
    ap (λ (n : ℕ). suc n) (one_break writer (last_stamp last (run_entries r)) (offset + logged (run_entries r)) runs i j a.1 b.1)

one_first : (count : ℕ) (runs : List Run) (p q : ℕ) → BreaksFirst count runs p → BreaksFirst count runs q → p ≡ q
one_first count runs p q (inl a) (inl b) = omega (arith, a.2, b.2, one_break (writer_of runs) 0 0 runs a.0 b.0 a.1 b.1)
one_first count runs p q (inl a) (inr b) = absurd (valid_breaks_none (writer_of runs) 0 0 runs a.0 b.0 a.1)
one_first count runs p q (inr a) (inl b) = absurd (valid_breaks_none (writer_of runs) 0 0 runs b.0 a.0 b.1)
one_first count runs p q (inr a) (inr b) = omega (arith, a.2, b.2)

packed_breaks_none : (bytes : List ℕ) (entries : List Entry) (place : ℕ) → (p : Packs bytes entries) → BreaksFirst (length entries) p.runs place → ⊥
packed_breaks_none bytes entries place p (inl a) = valid_breaks_none (writer_of p.runs) 0 0 p.runs a.0 (packed_valid bytes entries p) a.1
packed_breaks_none bytes entries place p (inr a) = a.1 (ap length p.same)

pub packed_or_bad : (bytes : List ℕ) (entries : List Entry) (place : ℕ) → Packs bytes entries → IsBadAt bytes place → ⊥
packed_or_bad bytes entries place p (inl a) = a.0 (head_spelled bytes (length entries) p.runs p.spells)
packed_or_bad bytes entries place p (inr (inl a)) =
    a.1 (subst IsCount (sym (count_spelled bytes (length entries) p.runs p.spells)) p.valid.counted)
packed_or_bad bytes entries place p (inr (inr (inl a))) = a.2 (length_spelled bytes (length entries) p.runs p.spells)
packed_or_bad bytes entries place p (inr (inr (inr a))) =
    let same = one_spelled bytes a.0 (length entries) a.1 p.runs a.2 p.spells in
    let P : ℕ → Type 0 = λ n. BreaksFirst n a.1 place in
    let Q : List Run → Type 0 = λ rs. BreaksFirst (length entries) rs place in
    packed_breaks_none bytes entries place p (subst Q same.1 (subst P same.0 a.4))

has_count : (bytes : List ℕ) (count : ℕ) (runs : List Run) → SpellsRuns bytes count runs → IsCount count → HasCount bytes
has_count bytes count runs spells is = subst IsCount (sym (count_spelled bytes count runs spells)) is

pub one_place : (bytes : List ℕ) (p q : ℕ) → IsBadAt bytes p → IsBadAt bytes q → p ≡ q
one_place bytes p q (inl a) (inl b) = omega (arith, a.1, b.1)
one_place bytes p q (inl a) (inr (inl b)) = absurd (a.0 b.0)
one_place bytes p q (inl a) (inr (inr (inl b))) = absurd (a.0 b.0)
one_place bytes p q (inl a) (inr (inr (inr b))) = absurd (a.0 (head_spelled bytes b.0 b.1 b.2))
one_place bytes p q (inr (inl a)) (inl b) = absurd (b.0 a.0)
one_place bytes p q (inr (inl a)) (inr (inl b)) = omega (arith, a.2, b.2)
one_place bytes p q (inr (inl a)) (inr (inr (inl b))) = absurd (a.1 b.1)
one_place bytes p q (inr (inl a)) (inr (inr (inr b))) = absurd (a.1 (has_count bytes b.0 b.1 b.2 b.3))
one_place bytes p q (inr (inr (inl a))) (inl b) = absurd (b.0 a.0)
one_place bytes p q (inr (inr (inl a))) (inr (inl b)) = absurd (b.1 a.1)
one_place bytes p q (inr (inr (inl a))) (inr (inr (inl b))) = omega (arith, a.3, b.3)
one_place bytes p q (inr (inr (inl a))) (inr (inr (inr b))) = absurd (a.2 (length_spelled bytes b.0 b.1 b.2))
one_place bytes p q (inr (inr (inr a))) (inl b) = absurd (b.0 (head_spelled bytes a.0 a.1 a.2))
one_place bytes p q (inr (inr (inr a))) (inr (inl b)) = absurd (b.1 (has_count bytes a.0 a.1 a.2 a.3))
one_place bytes p q (inr (inr (inr a))) (inr (inr (inl b))) = absurd (b.2 (length_spelled bytes a.0 a.1 a.2))
one_place bytes p q (inr (inr (inr a))) (inr (inr (inr b))) =
    let same = one_spelled bytes b.0 a.0 b.1 a.1 b.2 a.2 in
    let P : ℕ → Type 0 = λ n. BreaksFirst n b.1 q in
    let Q : List Run → Type 0 = λ rs. BreaksFirst a.0 rs q in
    one_first a.0 a.1 p q a.4 (subst Q same.1 (subst P same.0 b.4))

-- ---- what is read

-- the runs that bytes have break a rule
pub bad_run : (bytes : List ℕ) (n index : ℕ) → IsBytes bytes → HasHead bytes → HasCount bytes → HasLength bytes → n ≡ number_in 16 bytes
    → BreaksAt (writer_of (runs_in n bytes)) 0 0 (runs_in n bytes) index → IsBadAt bytes (24 + 64 * index)
bad_run bytes n index are head count len is breaks =
    let P : ℕ → Type 0 = λ m. BreaksAt (writer_of (runs_in m bytes)) 0 0 (runs_in m bytes) index in
    inr (inr (inr (number_in 8 bytes, runs_in (number_in 16 bytes) bytes, spelled_in bytes are head len, count, inl (index, subst P is breaks, refl))))

-- the runs that bytes have keep the rules, and have another number of entries
pub bad_count : (bytes : List ℕ) (n : ℕ) → IsBytes bytes → HasHead bytes → HasCount bytes → HasLength bytes → n ≡ number_in 16 bytes
    → AreValidRuns (runs_in n bytes) → (length (entries_of (runs_in n bytes)) ≡ number_in 8 bytes → ⊥) → IsBadAt bytes 8
bad_count bytes n are head count len is valid other =
    let P : ℕ → Type 0 = λ m. AreValidRuns (runs_in m bytes) in
    let Q : ℕ → Type 0 = λ m. length (entries_of (runs_in m bytes)) ≡ number_in 8 bytes → ⊥ in
    inr (inr (inr (number_in 8 bytes, runs_in (number_in 16 bytes) bytes, spelled_in bytes are head len, count, inr (subst P is valid, subst Q is other, refl))))

pub found : (bytes : List ℕ) (n : ℕ) (entries : List Entry) → IsBytes bytes → HasHead bytes → HasCount bytes → HasLength bytes → n ≡ number_in 16 bytes
    → AreValidRuns (runs_in n bytes) → length (entries_of (runs_in n bytes)) ≡ number_in 8 bytes → entries ≡ entries_of (runs_in n bytes) → Packs bytes entries
found bytes n entries are head count len is valid counts same =
    let P : ℕ → Type 0 = λ m. SpellsRuns bytes (number_in 8 bytes) (runs_in m bytes) in
    let spells : SpellsRuns bytes (number_in 8 bytes) (runs_in n bytes) = subst P (sym is) (spelled_in bytes are head len) in
    let Q : ℕ → Type 0 = λ c. SpellsRuns bytes c (runs_in n bytes) in
    let R : List Entry → Type 0 = λ es. Packs bytes es in
    subst R (sym same) (valid_packed bytes (runs_in n bytes) valid (subst IsCount (sym counts) count) (subst Q (sym counts) spells))

-- ---- one packing of entries, and one list of entries of a packing

pub one_packing : (entries : List Entry) (a b : List ℕ) → Packs a entries → Packs b entries → a ≡ b
one_packing entries a b p q =
    let runs : p.runs ≡ q.runs = runs_are_one p.runs q.runs p.maximal q.maximal (p.same ∙ sym q.same) in
    let P : List Run → Type 0 = λ rs. SpellsRuns a (length entries) rs in
    (subst P runs p.spells).spelled ∙ sym q.spells.spelled

pub one_list : (bytes : List ℕ) (a b : List Entry) → Packs bytes a → Packs bytes b → a ≡ b
one_list bytes a b p q =
    let same = one_spelled bytes (length a) (length b) p.runs q.runs p.spells q.spells in
    sym p.same ∙ ap entries_of same.1 ∙ q.same

pub only : (bytes : List ℕ) (answer : Result (List Entry) PackTrouble) → IfOk answer (λ read. Packs bytes read) → IfErr answer (IsPackTrouble bytes)
    → (entries : List Entry) → Packs bytes entries → (answer ≡ Ok entries) ⊎ (answer ≡ Err NoMemory)
only bytes (Ok read) is bad entries packs = let same : read ≡ entries = one_list bytes read entries is packs in inl cc
only bytes (Err NoMemory) is bad entries packs = inr refl
only bytes (Err (Bad place)) is bad entries packs = absurd (packed_or_bad bytes entries place packs bad)

pub exact : (bytes : List ℕ) (answer : Result (List Entry) PackTrouble) → IfOk answer (λ read. Packs bytes read) → IfErr answer (IsPackTrouble bytes)
    → (place : ℕ) → IsBadAt bytes place → (answer ≡ Err (Bad place)) ⊎ (answer ≡ Err NoMemory)
exact bytes (Ok read) is bad place is_bad = absurd (packed_or_bad bytes read place is is_bad)
exact bytes (Err NoMemory) is bad place is_bad = inr refl
exact bytes (Err (Bad at)) is bad place is_bad = let same : at ≡ place = one_place bytes at place bad is_bad in inl cc
