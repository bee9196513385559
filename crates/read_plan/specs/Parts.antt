-- Parts of a read: how long they are, and what they spell.
use Rattle.std.specs.Prelude.{ℕ, Bool, true, false, List, [], ◌∷◌, ◌++◌, replicate}
use Rattle.plain_file.specs.File.{slice}
use Rattle.read_plan.specs.declared.part.Part.{Part}
use Rattle.read_plan.specs.declared.part.Part.TheVariants.{Hole, From}

abbrev pub part_len : Part → ℕ
part_len (Hole len) = len
part_len (From writer physical len) = len

-- the part's bytes are in a log
abbrev pub is_logged : Part → Bool
is_logged (Hole len) = false
is_logged (From writer physical len) = true

-- the first part, if there is one, is no hole
abbrev pub BeginsLogged : List Part → Type 0
BeginsLogged [] = Unit {0}
BeginsLogged (Hole len ∷ parts) = ⊥
BeginsLogged (From writer physical len ∷ parts) = Unit {0}

-- no two holes are neighbours
abbrev pub AreHolesApart : List Part → Type 0
AreHolesApart [] = Unit {0}
AreHolesApart (Hole len ∷ parts) = BeginsLogged parts × AreHolesApart parts
AreHolesApart (From writer physical len ∷ parts) = AreHolesApart parts

-- the bytes that the parts spell: zeros for a hole, and the rest from the writers' logs
abbrev pub spelled : (ℕ → List ℕ) → List Part → List ℕ
spelled logs [] = []
spelled logs (Hole len ∷ parts) = replicate len 0 ++ spelled logs parts
spelled logs (From writer physical len ∷ parts) = slice (logs writer) physical len ++ spelled logs parts
