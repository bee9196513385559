-- Writers of a plain machine of whom each stands in one room.
use Rattle.std.specs.Prelude.{◌≡◌, ◌⊎◌, ℕ, List, [], ◌∷◌, Some, slice_get}
use Rattle.plain_machine.specs.Machine.{Plain, PlainRoom, PlainWriter}

-- one of these writers has this id
abbrev pub HasId : ℕ → List PlainWriter → Type 0
HasId id [] = ⊥
HasId id (w ∷ writers) = (w.id ≡ id) ⊎ HasId id writers

-- no two rooms have writers of one id
abbrev pub AreApart : Plain → Type 0
AreApart p = (id number other : ℕ) (a b : PlainRoom) → slice_get p.rooms number ≡ Some a → slice_get p.rooms other ≡ Some b → HasId id a.writers → HasId id b.writers → number ≡ other
