-- Regions that hold the same units of a name, whatever other units they have.
use Rattle.std.specs.Prelude.{◌≡◌, ◌↔◌, ◌<◌, ⊤, ℕ, List, [], ◌∷◌}
use Rattle.std.specs.List.{All, Contains}
use Rattle.unit_format.specs.declared.finding.Unit.{Unit as Found}
use Rattle.unit_format.specs.declared.finding.Region.{Region}

-- one unit stands behind the other
abbrev pub StandApart : List Found → Type 0
StandApart [] = ⊤
StandApart (u ∷ units) = All (λ (v : Found). u.at < v.at) units × StandApart units

-- in both regions a unit of this name is the same, and has the same place and key
abbrev pub HasSame : List ℕ → Region → Region → Type 0
HasSame name r s = (u : Found) → u.name ≡ name → (Contains r.units u ↔ Contains s.units u)

-- region by region
abbrev pub AreAlike : List ℕ → List Region → List Region → Type 0
AreAlike name [] [] = ⊤
AreAlike name (r ∷ a) (s ∷ b) = HasSame name r s × AreAlike name a b
AreAlike name [] (s ∷ b) = ⊥
AreAlike name (r ∷ a) [] = ⊥
