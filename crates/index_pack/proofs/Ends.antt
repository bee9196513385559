-- A run keeps the rules of its entries exactly where its first and its last one are where they may be.
use Rattle.std.proofs.Common.{◌≡◌, ℕ, zero, suc, ◌+◌, ◌-◌, ◌*◌, ◌<◌, ◌≤◌, ◌^◌, List, refl, subst, arith}
use Rattle.std.proofs.Math.Nat.{mul-le-mul_right, suc-mul}
use Rattle.index_entry.specs.Entries.{MayFollow, AreEntriesOf, logged}
use Rattle.index_entry.specs.Spelling.{FitsPlaces}
use Rattle.index_pack.specs.declared.runs.Run.{Run}
use Rattle.index_pack.specs.RunEnds.{EndsWell}
use Rattle.index_pack.specs.Runs.{entry_of, entries_from, run_entries, IsRun, Ends}
use Rattle.index_pack.specs.Spelling.{FitsRun}
use Rattle.index_pack.specs.Valid.{IsValidRun}
use Rattle.index_pack.proofs.Following.{logged-run_entries}

-- entry k may follow
next_from : (r : Run) (k last writer offset : ℕ) → EndsWell writer last offset r → suc k ≤ r.count → (before : ℕ) → before < r.stamp + k * r.step
    → MayFollow r.writer before (r.physical + k * r.len) (entry_of r k)
next_from r k last writer offset well by before later =
    let strides : k * r.stride ≤ (r.count - 1) * r.stride = mul-le-mul_right r.stride (omega arith) in
    let stamps : k * r.step ≤ (r.count - 1) * r.step = mul-le-mul_right r.step (omega arith) in
    record {
      some = well.some;
      within = omega (arith, well.within, strides);
      owner = refl;
      later = later;
      in_range = omega (arith, well.in_range, stamps);
      place = refl;
    }

-- so many entries of the run, from entry k on
goes_from : (r : Run) (k n last writer offset before : ℕ) → EndsWell writer last offset r → k + n ≡ r.count → before < r.stamp + k * r.step
    → AreEntriesOf r.writer before (r.physical + k * r.len) (entries_from r k n)
goes_from r k zero last writer offset before well sum later = tt
goes_from r k (suc zero) last writer offset before well sum later = (next_from r k last writer offset well (omega arith) before later, tt)
goes_from r k (suc (suc n)) last writer offset before well sum later =
    let behind : r.physical + suc k * r.len ≡ r.physical + k * r.len + r.len = omega (arith, suc-mul k r.len) in
    let rises : 1 ≤ r.step = well.shape.rises (omega arith) in
    let P : ℕ → Type 0 = λ at. AreEntriesOf r.writer (r.stamp + k * r.step) at (entries_from r (suc k) (suc n)) in (
      next_from r k last writer offset well (omega arith) before later,
      subst P behind (goes_from r (suc k) (suc n) last writer offset (r.stamp + k * r.step) well (omega arith) (omega (arith, rises, suc-mul k r.step))),
    )

pub goes_on : (writer last offset : ℕ) (r : Run) → EndsWell writer last offset r → AreEntriesOf writer last offset (run_entries r)
goes_on writer last offset r well =
    let from : AreEntriesOf r.writer last (r.physical + 0 * r.len) (run_entries r) = goes_from r 0 r.count last writer offset last well (omega arith) (omega (arith, well.later)) in
    let P : ℕ → Type 0 = λ w. AreEntriesOf w last offset (run_entries r) in
    let Q : ℕ → Type 0 = λ at. AreEntriesOf r.writer last at (run_entries r) in
    subst P well.owner (subst Q (omega (arith, well.place)) from)

pub valid_run : (writer last offset : ℕ) (r : Run) (later : List Run) → EndsWell writer last offset r → Ends r later → IsValidRun writer last offset r later
valid_run writer last offset r later well ends = record {
  shape = well.shape;
  in_order = goes_on writer last offset r well;
  near = omega (arith, well.near, logged-run_entries r);
  ends = ends;
}

-- ---- and back

last_of : (r : Run) (k n writer before place : ℕ) → AreEntriesOf writer before place (entries_from r k (suc n)) → (stamp : ℕ) × (at : ℕ) × MayFollow writer stamp at (entry_of r (k + n))
last_of r k zero writer before place are =
    let P : ℕ → Type 0 = λ i. MayFollow writer before place (entry_of r i) in (before, place, subst P (omega arith) are.0)
last_of r k (suc n) writer before place are =
    let later = last_of r (suc k) n writer (r.stamp + k * r.step) (place + r.len) are.1 in
    let P : ℕ → Type 0 = λ i. MayFollow writer later.0 later.1 (entry_of r i) in
    (later.0, later.1, subst P (omega arith) later.2)

first_entry : (r : Run) (n writer last offset : ℕ) → AreEntriesOf writer last offset (entries_from r 0 (suc n)) → MayFollow writer last offset (entry_of r 0)
first_entry r n writer last offset are = are.0

pub ends_well : (writer last offset : ℕ) (r : Run) → IsRun r → AreEntriesOf writer last offset (run_entries r) → offset + logged (run_entries r) ≤ 2 ^ 56 → EndsWell writer last offset r
ends_well writer last offset r shape are near =
    let n : ℕ = r.count - 1 in
    let count : r.count ≡ suc n = omega (arith, shape.counted) in
    let P : ℕ → Type 0 = λ c. AreEntriesOf writer last offset (entries_from r 0 c) in
    let whole : AreEntriesOf writer last offset (entries_from r 0 (suc n)) = subst P count are in
    let first = first_entry r n writer last offset whole in
    let last_one = last_of r 0 n writer last offset whole in
    let Q : ℕ → Type 0 = λ i. MayFollow writer last_one.0 last_one.1 (entry_of r i) in
    let end : MayFollow writer last_one.0 last_one.1 (entry_of r n) = subst Q (omega arith) last_one.2 in
    record {
      shape = shape;
      owner = first.owner;
      place = omega (arith, first.place);
      later = omega (arith, first.later);
      some = first.some;
      within = end.within;
      in_range = end.in_range;
      near = omega (arith, near, logged-run_entries r);
    }

pub valid_ends_well : (writer last offset : ℕ) (r : Run) (later : List Run) → IsValidRun writer last offset r later → EndsWell writer last offset r
valid_ends_well writer last offset r later valid = ends_well writer last offset r valid.shape valid.in_order valid.near

-- each number of each entry has 64 bits
pub places_fit : (writer last offset k : ℕ) (r : Run) → EndsWell writer last offset r → FitsRun r → k < r.count → FitsPlaces (entry_of r k)
places_fit writer last offset k r well fits lt =
    let strides : k * r.stride ≤ (r.count - 1) * r.stride = mul-le-mul_right r.stride (omega arith) in
    let stamps : k * r.step ≤ (r.count - 1) * r.step = mul-le-mul_right r.step (omega arith) in
    let lens : k * r.len ≤ r.count * r.len = mul-le-mul_right r.len (omega arith) in
    record {
      at_fits = omega (arith, well.within, strides);
      len_fits = fits.len_fits;
      physical_fits = omega (arith, well.near, well.place, lens);
      stamp_fits = omega (arith, well.in_range, stamps);
      writer_fits = fits.writer_fits;
    }
