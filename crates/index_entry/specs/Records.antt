-- Records of one width, one behind the other.
use Rattle.std.specs.Prelude.{◌≡◌, ℕ, zero, suc, ◌≤◌, ◌<◌, List, [], ◌∷◌, ◌++◌, length, take, drop, get_or}

-- each number is one of a byte
abbrev pub IsBytes : List ℕ → Type 0
IsBytes bytes = (i : ℕ) → get_or bytes i 0 < 256

-- so many records from the front
abbrev pub records_in : {A : Type 0} → (List ℕ → A) → ℕ → ℕ → List ℕ → List A
records_in read width zero bytes = []
records_in read width (suc count) bytes = read bytes ∷ records_in read width count (drop width bytes)

-- A record's spelling, and how it is read: what is spelled is read, and any bytes are spelled by what is read of them.
pub record IsFormat (A : Type 0) (width : ℕ) (spell : A → List ℕ) (read : List ℕ → A) (Fits : A → Type 0) : Type 0 where
  pub wide : (x : A) → length (spell x) ≡ width
  pub again : (x : A) (rest : List ℕ) → Fits x → read (spell x ++ rest) ≡ x
  pub back : (bytes : List ℕ) → IsBytes bytes → width ≤ length bytes → spell (read bytes) ≡ take width bytes
  pub fits : (bytes : List ℕ) → IsBytes bytes → Fits (read bytes)
