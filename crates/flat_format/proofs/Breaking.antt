-- The first record that breaks a rule.
use Rattle.std.proofs.Common.{ℕ, ◌+◌, ◌<◌, List, sym, subst, arith}
use Rattle.index_entry.specs.Records.{records_in}
use Rattle.index_entry.proofs.Facts.{length-records_in, take-records_in}
use Rattle.flat_format.specs.Bad.{BreaksAt}

pub breaks : {A : Type 0} (AreValid : List A → Type 0) (read : List ℕ → A) (width n k : ℕ) (bytes : List ℕ) → k < n
    → AreValid (records_in read width k bytes) → (AreValid (records_in read width (k + 1) bytes) → ⊥)
    → BreaksAt AreValid (records_in read width n bytes) k
breaks AreValid read width n k bytes lt before broken = record {
  there = omega (arith, lt, length-records_in read width n bytes);
  before = subst AreValid (sym (take-records_in read width k n bytes (omega arith))) before;
  broken = λ are. broken (subst AreValid (take-records_in read width (k + 1) n bytes (omega arith)) are);
}
