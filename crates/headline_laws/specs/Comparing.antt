-- Where bytes differ from what is wanted.
use Rattle.std.specs.Prelude.{◌≡◌, ◌≢◌, ⊤, ℕ, List, [], ◌∷◌, ◌++◌, length}
use Rattle.outcomes.specs.Data.{place_past}

-- it has ended, or it begins with another byte
abbrev pub BeginsOtherwise : ℕ → List ℕ → Type 0
BeginsOtherwise byte [] = ⊤
BeginsOtherwise byte (b ∷ bytes) = b ≢ byte

-- Of what is wanted from there on, the byte at this place is the first that the bytes found have not.
pub record FirstDifference (at : ℕ) (wanted found : List ℕ) (place : ℕ) : Type 0 where
  pub same : List ℕ
  pub byte : ℕ
  pub missed : List ℕ
  pub other : List ℕ
  pub wanted_is : wanted ≡ same ++ byte ∷ missed
  pub found_is : found ≡ same ++ other
  pub differs : BeginsOtherwise byte other
  pub place_is : place ≡ place_past at (length same)
