-- The first item of a list with which a rule of lists is broken.
use Rattle.std.specs.Prelude.{ℕ, ◌+◌, Bool, if◌then◌else◌, List, length, take, Option, Some, None, Result, Err}
use Rattle.mount_model.specs.Names.{find_below}

-- the place of the first item that may not stand behind those before it
abbrev pub first_break : {A : Type 0} → (List A → Bool) → List A → Option ℕ
first_break keeps xs = find_below (λ index. if keeps (take (index + 1) xs) then None else Some index) (length xs)

-- the place of what breaks a rule, or what follows where nothing does
abbrev pub unless_broken : {X : Type 0} → Option ℕ → (ℕ → ℕ) → Result X ℕ → Result X ℕ
unless_broken None place next = next
unless_broken (Some index) place next = Err (place index)
