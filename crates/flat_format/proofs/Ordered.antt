-- Covers and pieces in order: one more at the end, the first ones of them, and where a writer's cover stands.
use Rattle.std.proofs.Common.{◌≡◌, ℕ, zero, suc, ◌+◌, ◌-◌, ◌<◌, ◌≤◌, List, [], ◌∷◌, ◌++◌, length, take, get_or, Some, Bool, not, true, false, refl, ap, sym, subst, arith, nat_lt, inl, inr}
use Rattle.std.specs.Prelude.{slice_get}
use Rattle.std.specs.List.{AllWithin, AllByRecursion}
use Rattle.std.specs.List.Sorted.{IsPartitionedBy}
use Rattle.std.proofs.lemmas.Bool.{ltb-true, ltb-false, lt-ltb}
use Rattle.std.proofs.lemmas.Option.{none-some, same_Some, slice_get_within, get_or_from_slice_get}
use Rattle.plfs_types.specs.declared.entries.Cover.{Cover}
use Rattle.plain_file.specs.declared.pieces.Piece.{Piece}
use Rattle.plain_file.specs.Runs.{IsPiece, Joins, AreRuns}
use Rattle.plain_file.proofs.Facts.{shorter_last}
use Rattle.flat_format.specs.Covers.{IsCover, AreCovers, IsCoveredBy, AnyCovers, IsFlatPiece}
use Rattle.flat_format.specs.Valid.{AreFlatPieces}
use Rattle.flat_format.specs.Order.{HasPassedCovers, AtLast}

-- ---- the last one

-- the item at a place, whatever stands for one past the end
pub reads : {A : Type 0} (xs : List A) (place : ℕ) (d : A) → place < length xs → slice_get xs place ≡ Some (get_or xs place d)
reads [] place d lt = absurd (omega arith)
reads (x ∷ xs) zero d lt = refl
reads (x ∷ xs) (suc place) d lt = reads xs place d (omega arith)

pub at_last : {A : Type 0} (P : A → Type 0) (xs : List A) (x : A) → slice_get xs (length xs - 1) ≡ Some x → P x → AtLast P xs
at_last P [] x stands holds = tt
at_last P (y ∷ []) x stands holds = let same : x ≡ y = sym (same_Some y x stands) in subst P same holds
at_last P (y ∷ z ∷ xs) x stands holds = at_last P (z ∷ xs) x (shorter_last y z xs x stands) holds

pub from_last : {A : Type 0} (P : A → Type 0) (xs : List A) (x : A) → slice_get xs (length xs - 1) ≡ Some x → AtLast P xs → P x
from_last P [] x stands holds = absurd (none-some x stands)
from_last P (y ∷ []) x stands holds = let same : y ≡ x = same_Some y x stands in subst P same holds
from_last P (y ∷ z ∷ xs) x stands holds = from_last P (z ∷ xs) x (shorter_last y z xs x stands) holds

-- ---- covers

pub push_cover : (covers : List Cover) (c : Cover) → AreCovers covers → IsCover c → AtLast (λ (b : Cover). b.writer < c.writer) covers → AreCovers (covers ++ c ∷ [])
push_cover [] c are is above = (is, tt, tt)
push_cover (b ∷ []) c are is above = (are.0, above, (is, tt, tt))
push_cover (b ∷ d ∷ covers) c are is above = (are.0, are.1, push_cover (d ∷ covers) c are.2 is above)

pub pop_cover : (covers : List Cover) (c : Cover) → AreCovers (covers ++ c ∷ []) → IsCover c × AtLast (λ (b : Cover). b.writer < c.writer) covers
pop_cover [] c are = (are.0, tt)
pop_cover (b ∷ []) c are = (are.2.0, are.1)
pop_cover (b ∷ d ∷ covers) c are = pop_cover (d ∷ covers) c are.2

pub first_covers : (count : ℕ) (covers : List Cover) → AreCovers covers → AreCovers (take count covers)
first_covers zero covers are = tt
first_covers (suc count) [] are = tt
first_covers (suc zero) (c ∷ covers) are = (are.0, tt, tt)
first_covers (suc (suc count)) (c ∷ []) are = are
first_covers (suc (suc count)) (c ∷ d ∷ covers) are = (are.0, are.1, first_covers (suc count) (d ∷ covers) are.2)

-- ---- pieces

pub push_piece : (pieces : List Piece) (p : Piece) → AreRuns pieces → IsPiece p → AtLast (λ (q : Piece). (q.at + q.len ≤ p.at) × (Joins q p → ⊥)) pieces → AreRuns (pieces ++ p ∷ [])
push_piece [] p are is apart = (is, tt, tt)
push_piece (q ∷ []) p are is apart = (are.0, apart, (is, tt, tt))
push_piece (q ∷ r ∷ pieces) p are is apart = (are.0, are.1, push_piece (r ∷ pieces) p are.2 is apart)

pub pop_piece : (pieces : List Piece) (p : Piece) → AreRuns (pieces ++ p ∷ []) → IsPiece p × AtLast (λ (q : Piece). (q.at + q.len ≤ p.at) × (Joins q p → ⊥)) pieces
pop_piece [] p are = (are.0, tt)
pop_piece (q ∷ []) p are = (are.2.0, are.1)
pop_piece (q ∷ r ∷ pieces) p are = pop_piece (r ∷ pieces) p are.2

pub first_runs : (count : ℕ) (pieces : List Piece) → AreRuns pieces → AreRuns (take count pieces)
first_runs zero pieces are = tt
first_runs (suc count) [] are = tt
first_runs (suc zero) (p ∷ pieces) are = (are.0, tt, tt)
first_runs (suc (suc count)) (p ∷ []) are = are
first_runs (suc (suc count)) (p ∷ q ∷ pieces) are = (are.0, are.1, first_runs (suc count) (q ∷ pieces) are.2)

-- ---- a writer's cover

later : (c : Cover) (covers : List Cover) (j : ℕ) (d : Cover) → AreCovers (c ∷ covers) → j < length covers → c.writer < (get_or covers j d).writer
later c [] j d are lt = absurd (omega arith)
later c (b ∷ covers) zero d are lt = are.1
later c (b ∷ covers) (suc j) d are lt = omega (arith, are.1, later b covers j d are.2 (omega arith))

below_first : (writer : ℕ) (covers : List Cover) → AreCovers covers → (i j : ℕ) (d : Cover) → i ≤ j → j < length covers → nat_lt (get_or covers j d).writer writer ≡ true → nat_lt (get_or covers i d).writer writer ≡ true
below_first writer [] are i j d le lt h = absurd (omega arith)
below_first writer (c ∷ covers) are zero zero d le lt h = h
below_first writer (c ∷ covers) are (suc i) zero d le lt h = absurd (omega arith)
below_first writer (c ∷ covers) are zero (suc j) d le lt h =
    lt-ltb c.writer writer (omega (arith, later c covers j d are (omega arith), ltb-true (get_or covers j d).writer writer h))
below_first writer (c ∷ covers) are (suc i) (suc j) d le lt h = below_first writer covers are.2 i j d (omega arith) (omega arith) h

-- the covers of lesser writers stand in front of the others
pub partitioned : (writer : ℕ) (covers : List Cover) → AreCovers covers → IsPartitionedBy (λ (c : Cover). nat_lt c.writer writer) covers
partitioned writer covers are = λ i j d le lt h. below_first writer covers are i j d le lt h

pub passed : (writer i : ℕ) (covers : List Cover) → i ≤ length covers → AllWithin (λ (c : Cover). nat_lt c.writer writer ≡ true) covers 0 i → AllWithin (λ (c : Cover). nat_lt c.writer writer ≡ false) covers i (length covers) → HasPassedCovers writer i covers
passed writer zero [] le lesser others = tt
passed writer zero (c ∷ covers) le lesser others = ltb-false c.writer writer (others 0 c (omega arith) (omega arith))
passed writer (suc i) [] le lesser others = tt
passed writer (suc i) (c ∷ covers) le lesser others = (
  ltb-true c.writer writer (lesser 0 c (omega arith) (omega arith)),
  passed writer i covers (omega arith)
      (λ k d low high. lesser (suc k) d (omega arith) (omega arith))
      (λ k d low high. others (suc k) d (omega arith) (omega arith)),
)

-- a cover of this writer stands behind all covers of lesser ones
passed_one : (writer place : ℕ) (covers : List Cover) (c : Cover) → AreCovers covers → slice_get covers place ≡ Some c → c.writer ≡ writer → HasPassedCovers writer place covers
passed_one writer place [] c are stands is = absurd (none-some c stands)
passed_one writer zero (b ∷ covers) c are stands is =
    let same : b ≡ c = same_Some b c stands in
    let of : b.writer ≡ c.writer = ap (λ (d : Cover). d.writer) same in
    omega (arith, of, is)
passed_one writer (suc place) (b ∷ covers) c are stands is =
    let at : get_or covers place c ≡ c = get_or_from_slice_get covers place c c stands in
    let above : b.writer < (get_or covers place c).writer = later b covers place c are (slice_get_within covers place c stands) in
    let of : (get_or covers place c).writer ≡ c.writer = ap (λ (d : Cover). d.writer) at in
    (omega (arith, above, of, is), passed_one writer place covers c are.2 stands is)

pub passed_at : (writer place : ℕ) (covers : List Cover) (d : Cover) → AreCovers covers → place < length covers → (get_or covers place d).writer ≡ writer → HasPassedCovers writer place covers
passed_at writer place covers d are lt is = passed_one writer place covers (get_or covers place d) are (reads covers place d lt) is

-- a cover at any place may count it
pub counted_at : (p : Piece) (place : ℕ) (covers : List Cover) (c : Cover) → slice_get covers place ≡ Some c → IsCoveredBy p c → AnyCovers p covers
counted_at p place [] c stands is = absurd (none-some c stands)
counted_at p zero (b ∷ covers) c stands is = let same : c ≡ b = sym (same_Some b c stands) in inl (subst (IsCoveredBy p) same is)
counted_at p (suc place) (b ∷ covers) c stands is = inr (counted_at p place covers c stands is)

later_counts : (p : Piece) (c : Cover) (covers : List Cover) → AreCovers (c ∷ covers) → AnyCovers p covers → c.writer < p.writer
later_counts p c [] are any = elim any [ ]
later_counts p c (b ∷ covers) are (inl is) = omega (arith, are.1, is.writers)
later_counts p c (b ∷ covers) are (inr any) = omega (arith, are.1, later_counts p b covers are.2 any)

-- no other cover does than the first of its writer or a greater one
pub counted_here : (p : Piece) (place : ℕ) (covers : List Cover) → AreCovers covers → HasPassedCovers p.writer place covers → AnyCovers p covers
    → (c : Cover) × (slice_get covers place ≡ Some c) × IsCoveredBy p c
counted_here p zero [] are from any = elim any [ ]
counted_here p (suc place) [] are from any = elim any [ ]
counted_here p zero (c ∷ covers) are from (inl is) = (c, refl, is)
counted_here p zero (c ∷ covers) are from (inr any) = absurd (omega (arith, from, later_counts p c covers are any))
counted_here p (suc place) (c ∷ covers) are from (inl is) = absurd (omega (arith, from.0, is.writers))
counted_here p (suc place) (c ∷ covers) are from (inr any) = counted_here p place covers are.2 from.1 any

pub counted_at_place : (p : Piece) (place : ℕ) (covers : List Cover) (d : Cover) → place < length covers → IsCoveredBy p (get_or covers place d) → AnyCovers p covers
counted_at_place p place covers d lt is = counted_at p place covers (get_or covers place d) (reads covers place d lt) is

pub place_counts : (p : Piece) (place : ℕ) (covers : List Cover) (d : Cover) → AreCovers covers → HasPassedCovers p.writer place covers → AnyCovers p covers → IsCoveredBy p (get_or covers place d)
place_counts p place covers d are from any =
    let here = counted_here p place covers are from any in
    subst (IsCoveredBy p) (sym (get_or_from_slice_get covers place here.0 d here.1)) here.2

pub place_within : (p : Piece) (place : ℕ) (covers : List Cover) → AreCovers covers → HasPassedCovers p.writer place covers → AnyCovers p covers → place < length covers
place_within p place covers are from any =
    let here = counted_here p place covers are from any in
    slice_get_within covers place here.0 here.1

-- ---- this of each, and of one more

pub each_push : {A : Type 0} (P : A → Type 0) (xs : List A) (x : A) → AllByRecursion P xs → P x → AllByRecursion P (xs ++ x ∷ [])
each_push P [] x all is = (is, tt)
each_push P (y ∷ xs) x all is = (all.0, each_push P xs x all.1 is)

pub each_pop : {A : Type 0} (P : A → Type 0) (xs : List A) (x : A) → AllByRecursion P (xs ++ x ∷ []) → P x
each_pop P [] x all = all.0
each_pop P (y ∷ xs) x all = each_pop P xs x all.1

pub each_first : {A : Type 0} (P : A → Type 0) (count : ℕ) (xs : List A) → AllByRecursion P xs → AllByRecursion P (take count xs)
each_first P zero xs all = tt
each_first P (suc count) [] all = tt
each_first P (suc count) (x ∷ xs) all = (all.0, each_first P count xs all.1)

pub first_pieces : (covers : List Cover) (count : ℕ) (pieces : List Piece) → AreFlatPieces covers pieces → AreFlatPieces covers (take count pieces)
first_pieces covers count pieces are = record {
  runs = first_runs count pieces are.runs;
  covered = each_first (IsFlatPiece covers) count pieces are.covered;
}

-- ---- tests

pub from_not : (b : Bool) → not b ≡ true → b ≡ true → ⊥
from_not true is_not is = cc
from_not false is_not is = cc

pub not_true : (b : Bool) → (b ≡ true → ⊥) → not b ≡ true
not_true true is_not = absurd (is_not refl)
not_true false is_not = refl
