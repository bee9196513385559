-- The files in the place of standard input: their words, and the bytes that they have left.
use Rattle.std.specs.Prelude.{◌≡◌, ⊤, ℕ, List, [], ◌∷◌, ◌++◌, Option, Some, None, codes}
use Rattle.system_edge.specs.declared.inputs.Input.{Input}
use Rattle.system_edge.specs.declared.inputs.Input.TheVariants as input

-- the words that name files begin with this one, where there are any
abbrev pub BeginsWithFrom : List (List ℕ) → Type 0
BeginsWithFrom [] = ⊤
BeginsWithFrom (word ∷ words) = word ≡ codes "--from"

-- these bytes and then those, where both are told
abbrev pub both_left : Option (List ℕ) → Option (List ℕ) → Option (List ℕ)
both_left None rest = None
both_left (Some bytes) None = None
both_left (Some bytes) (Some rest) = Some (bytes ++ rest)

-- the bytes that these have left, one behind the other, of which the last one comes first
abbrev pub all_left : {F : Type 0} → (F → Option (List ℕ)) → List F → Option (List ℕ)
all_left left [] = Some []
all_left left (file ∷ files) = both_left (all_left left files) (left file)

-- those of standard input, or of the files in its place
abbrev pub input_left : {R F : Type 0} → (R → Option (List ℕ)) → (F → Option (List ℕ)) → Input R F → Option (List ℕ)
input_left standard left (input.Standard reader) = standard reader
input_left standard left (input.Files files) = all_left left files.opened.items
