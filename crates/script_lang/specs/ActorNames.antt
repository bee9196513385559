-- The names of actors.
use Rattle.std.specs.Prelude.{◌≡◌, ◌⊎◌, ℕ, ◌≤◌, ◌&&◌, ◌||◌, nat_eq, nat_le, Bool, All, List, length, slice_index, Option, IsTrue, position, codes}
use Rattle.std.specs.Cmp.Lexicographic.{pointwise}
use Rattle.script_lang.specs.declared.script.ActorDecl.{ActorDecl}

-- a to z
abbrev pub is_lower_letter : ℕ → Bool
is_lower_letter b = nat_le 97 b && nat_le b 122

-- a to z, or 0 to 9
abbrev pub is_actor_byte : ℕ → Bool
is_actor_byte b = is_lower_letter b || (nat_le 48 b && nat_le b 57)

-- a word that begins a line of its own kind
abbrev pub IsKeyword : List ℕ → Type 0
IsKeyword word = (word ≡ codes "actor") ⊎ (word ≡ codes "phase") ⊎ (word ≡ codes "turn")

-- 1 to 16 of a-z and 0-9, the first a letter, and no keyword
pub record IsActorName (name : List ℕ) : Type 0 where
  pub not_empty : 1 ≤ length name
  pub short : length name ≤ 16
  pub bytes : All (λ b. IsTrue (is_actor_byte b)) name
  pub letter : IsTrue (is_lower_letter (slice_index name 0))
  pub free : IsKeyword name → ⊥

-- two words are one
abbrev pub is_word : List ℕ → List ℕ → Bool
is_word a b = pointwise nat_eq a b

-- the place of the first actor of this name
abbrev pub actor_place : List ActorDecl → List ℕ → Option ℕ
actor_place actors name = position (λ actor. is_word name actor.name) actors
