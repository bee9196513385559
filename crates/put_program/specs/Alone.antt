-- A cut with the writes of one writer alone.
use Rattle.std.specs.Prelude.{◌≡◌, ℕ, List, ◌∷◌, ◌++◌}
use Rattle.std.specs.List.{AllByRecursion}
use Rattle.reader_laws.specs.Gathering.{Gathered}
use Rattle.reader_laws.specs.Moments.{Dropping}

-- the cut has so many writes of this writer, and none of another one
pub record HasAlone (writer : Dropping) (count : ℕ) (cut : List Gathered) : Type 0 where
  pub before : List Gathered
  pub own : Gathered
  pub behind : List Gathered
  pub split : cut ≡ before ++ own ∷ behind
  pub is : own.dropping ≡ writer
  pub counts : own.count ≡ count
  pub none_before : AllByRecursion (λ (g : Gathered). g.count ≡ 0) before
  pub none_behind : AllByRecursion (λ (g : Gathered). g.count ≡ 0) behind
