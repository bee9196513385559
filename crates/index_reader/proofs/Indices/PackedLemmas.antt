-- The entries of a packed index, and the run that has one of them.
use Rattle.std.proofs.Common.{◌≡◌, ◌<◌, ◌≤◌, ◌+◌, ◌-◌, ◌*◌, ℕ, zero, suc, nat_lt, false, List, [], ◌∷◌, length, take, drop, Some, refl, ap, ◌∙◌, sym, subst, arith}
use Rattle.std.specs.Prelude.{slice_get}
use Rattle.std.specs.List.{All}
use Rattle.std.proofs.lemmas.Bool.{cond-true, cond-false, lt-ltb}
use Rattle.std.proofs.lemmas.Bool.Decides.{nat_tests}
use Rattle.std.proofs.lemmas.Option.{none-some, same_Some}
use Rattle.std.proofs.lemmas.List.Elements.{All-cons, All-nil, All-drop}
use Rattle.plfs_types.specs.declared.entries.Entry.{Entry}
use Rattle.plfs_types.specs.declared.limits.TheConstants.{MAX_LOG}
use Rattle.interval_merge.specs.Writer.{HasPiece}
use Rattle.index_entry.specs.Entries.{AreEntriesOf, logged, last_stamp}
use Rattle.index_entry.specs.Records.{records_in}
use Rattle.index_entry.specs.Spelling.{number_in}
use Rattle.index_pack.specs.Bad.{HasLength}
use Rattle.index_pack.proofs.Facts.{length_spelled}
use Rattle.index_pack.specs.Reading.{run_in}
use Rattle.index_pack.specs.Spelling.{Packs}
use Rattle.index_reader.specs.Packs.{run_of}
use Rattle.index_reader.specs.Packed.{IsOfOne}

-- ---- entries of one writer

inner : {A : Type 0} (y z : A) (xs : List A) (x : A) → slice_get (y ∷ z ∷ xs) (length (y ∷ z ∷ xs) - 1) ≡ Some x → slice_get (z ∷ xs) (length (z ∷ xs) - 1) ≡ Some x
inner {A} y z xs x stands =
    let one_less : length (z ∷ xs) - 1 ≡ length xs = omega arith in
    let two : suc (length xs) ≡ length (y ∷ z ∷ xs) - 1 = omega arith in
    let a : slice_get (z ∷ xs) (length (z ∷ xs) - 1) ≡ slice_get (z ∷ xs) (length xs) = ap (λ (k : ℕ). slice_get (z ∷ xs) k) one_less in
    let b : slice_get (y ∷ z ∷ xs) (suc (length xs)) ≡ slice_get (y ∷ z ∷ xs) (length (y ∷ z ∷ xs) - 1) = ap (λ (k : ℕ). slice_get (y ∷ z ∷ xs) k) two in
    a ∙ b ∙ stands

last_end : (writer last offset : ℕ) (es : List Entry) (e : Entry) → AreEntriesOf writer last offset es → slice_get es (length es - 1) ≡ Some e → e.physical + e.len ≡ offset + logged es
last_end writer last offset [] e are stands = absurd (none-some e stands)
last_end writer last offset (x ∷ []) e are stands =
    let same : x ≡ e = same_Some x e stands in
    let at : x.physical ≡ offset = are.0.place in
    ap (λ (y : Entry). y.physical + y.len) (sym same) ∙ omega (arith, at)
last_end writer last offset (x ∷ y ∷ es) e are stands = last_end writer x.stamp (offset + x.len) (y ∷ es) e are.1 (inner x y es e stands) ∙ omega arith

last_is : (last : ℕ) (es : List Entry) (e : Entry) → slice_get es (length es - 1) ≡ Some e → e.stamp ≡ last_stamp last es
last_is last [] e stands = absurd (none-some e stands)
last_is last (x ∷ []) e stands = let same : x ≡ e = same_Some x e stands in ap (λ (y : Entry). y.stamp) (sym same)
last_is last (x ∷ y ∷ es) e stands = last_is x.stamp (y ∷ es) e (inner x y es e stands)

-- the last entry ends where all end
pub ends_all : (es : List Entry) (e : Entry) → IsOfOne es → slice_get es (length es - 1) ≡ Some e → e.physical + e.len ≡ logged es
ends_all es e one stands = omega (arith, last_end one.owner 0 0 es e one.in_order stands)

pub stamped_last : (es : List Entry) (e : Entry) → slice_get es (length es - 1) ≡ Some e → e.stamp ≡ last_stamp 0 es
stamped_last es e stands = last_is 0 es e stands

first_of : (writer last offset count : ℕ) (es : List Entry) → AreEntriesOf writer last offset es → AreEntriesOf writer last offset (take count es)
first_of writer last offset zero es are = tt
first_of writer last offset (suc count) [] are = tt
first_of writer last offset (suc count) (e ∷ es) are = (are.0, first_of writer e.stamp (offset + e.len) count es are.1)

first_logged : (count : ℕ) (es : List Entry) → logged (take count es) ≤ logged es
first_logged zero es = omega arith
first_logged (suc count) [] = omega arith
first_logged (suc count) (e ∷ es) = omega (arith, first_logged count es)

-- the first so many are of one writer too
pub first_of_one : (count : ℕ) (es : List Entry) → IsOfOne es → IsOfOne (take count es)
first_of_one count es one = record {
  owner = one.owner;
  in_order = first_of one.owner 0 0 count es one.in_order;
  near = omega (arith, one.near, first_logged count es);
}

pieces_from : (writer last offset : ℕ) (es : List Entry) → AreEntriesOf writer last offset es → offset + logged es ≤ MAX_LOG → All HasPiece es
pieces_from writer last offset [] are near = All-nil HasPiece
pieces_from writer last offset (e ∷ es) are near =
    let at : e.physical ≡ offset = are.0.place in
    All-cons HasPiece e es (record { not_empty = are.0.some; within = are.0.within; in_log = omega (arith, at, near) })
    (pieces_from writer e.stamp (offset + e.len) es are.1 (omega (arith, near)))

-- they are pieces of the file
pub pieces_of_one : (count : ℕ) (es : List Entry) → IsOfOne es → All HasPiece (drop count es)
pieces_of_one count es one = All-drop HasPiece count es (pieces_from one.owner 0 0 es one.in_order (omega (arith, one.near)))

pub packed_of_one : (bytes : List ℕ) (es : List Entry) → Packs bytes es → IsOfOne es
packed_of_one bytes es p = record { owner = p.valid.owner; in_order = p.valid.in_order; near = p.valid.near }

pub packed_whole : (bytes : List ℕ) (es : List Entry) → Packs bytes es → HasLength bytes
packed_whole bytes es p = length_spelled bytes (length es) p.runs p.spells

-- ---- runs

run_count : (bytes : List ℕ) → (run_in bytes).count ≡ number_in 24 bytes
unfolding run_in
run_count bytes = refl

-- What is left of the runs in which an entry is sought, and what is left of its number.
pub record Seeking (number runs : ℕ) (bytes : List ℕ) (left later : ℕ) (rest : List ℕ) : Type 0 where
  pub within : left ≤ runs
  pub enough : 64 * left ≤ length rest
  pub same : run_of number (records_in run_in 64 runs bytes) ≡ (runs - left) + run_of later (records_in run_in 64 left rest)

pub seeking_starts : (number runs : ℕ) (bytes : List ℕ) → 64 * runs ≤ length bytes → Seeking number runs bytes runs number bytes
seeking_starts number runs bytes enough = record { within = omega arith; enough = enough; same = omega arith }

here : (number left : ℕ) (rest : List ℕ) → number < number_in 24 rest → run_of number (records_in run_in 64 (suc left) rest) ≡ 0
here number left rest lt =
    let less : number < (run_in rest).count = subst (λ n. number < n) (sym (run_count rest)) lt in
    cond-true (nat_lt number (run_in rest).count) 0 (1 + run_of (number - (run_in rest).count) (records_in run_in 64 left (drop 64 rest))) (lt-ltb number (run_in rest).count less)

not_less : (a b : ℕ) → b ≤ a → nat_lt a b ≡ false
not_less a b le = grind (arith, nat_tests)

further : (number left : ℕ) (rest : List ℕ) → number_in 24 rest ≤ number → run_of number (records_in run_in 64 (suc left) rest) ≡ 1 + run_of (number - number_in 24 rest) (records_in run_in 64 left (drop 64 rest))
further number left rest ge =
    let more : nat_lt number (run_in rest).count ≡ false = subst (λ n. nat_lt number n ≡ false) (sym (run_count rest)) (not_less number (number_in 24 rest) ge) in
    cond-false (nat_lt number (run_in rest).count) 0 (1 + run_of (number - (run_in rest).count) (records_in run_in 64 left (drop 64 rest))) more
    ∙ ap (λ n. 1 + run_of (number - n) (records_in run_in 64 left (drop 64 rest))) (run_count rest)

-- the entry is in the first run that is left
pub sought_here : (number runs left later : ℕ) (bytes rest : List ℕ) → Seeking number runs bytes left later rest → 0 < left → later < number_in 24 rest
    → run_of number (records_in run_in 64 runs bytes) ≡ runs - left
sought_here number runs zero later bytes rest s some lt = absurd (omega (arith, some))
sought_here number runs (suc left) later bytes rest s some lt = omega (arith, s.same, here later left rest lt)

-- the entry is past the first run that is left
pub sought_further : (number runs left later : ℕ) (bytes rest : List ℕ) → Seeking number runs bytes left later rest → 0 < left → number_in 24 rest ≤ later
    → length (drop 64 rest) ≡ length rest - 64 → Seeking number runs bytes (left - 1) (later - number_in 24 rest) (drop 64 rest)
sought_further number runs zero later bytes rest s some ge long = absurd (omega (arith, some))
sought_further number runs (suc left) later bytes rest s some ge long =
    let one_less : suc left - 1 ≡ left = omega arith in
    subst (λ n. Seeking number runs bytes n (later - number_in 24 rest) (drop 64 rest)) (sym one_less) (record {
      within = omega (arith, s.within);
      enough = omega (arith, s.enough, long);
      same = omega (arith, s.same, s.within, further later left rest ge);
    })

-- no run is left
pub sought_past : (number runs later : ℕ) (bytes rest : List ℕ) → Seeking number runs bytes 0 later rest → run_of number (records_in run_in 64 runs bytes) ≡ runs
sought_past number runs later bytes rest s = omega (arith, s.same)
