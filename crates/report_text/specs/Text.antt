-- Lines as text.
use Rattle.std.specs.Prelude.{ℕ, List, [], ◌∷◌, ◌++◌}
use Rattle.std.specs.List.{flat_map, join_with_byte, All}
use Rattle.std.specs.Fmt.{decimal}
use Rattle.plfs_types.specs.Names.{IsLogicalName}
use Rattle.script_lang.specs.declared.line.Line.{Line}
use Rattle.script_lang.specs.declared.line.Outcome.{Outcome}
use Rattle.script_lang.specs.declared.line.Outcome.TheVariants.{Listed}
use Rattle.report_text.specs.Words.{outcome_words}

-- words with a space between each two
abbrev pub spaced : List (List ℕ) → List ℕ
spaced words = join_with_byte 32 words

abbrev pub text_of_outcome : Outcome → List ℕ
text_of_outcome outcome = spaced (outcome_words outcome)

-- the number and the words of the outcome
abbrev pub body_of_line : Line → List ℕ
body_of_line line = spaced (decimal line.number ∷ outcome_words line.outcome)

-- the same and a line feed
abbrev pub text_of_line : Line → List ℕ
text_of_line line = body_of_line line ++ 10 ∷ []

abbrev pub text_of : List Line → List ℕ
text_of lines = flat_map text_of_line lines

-- the names that are listed are logical names
abbrev pub ListsLogicalNames : Outcome → Type 0
ListsLogicalNames (Listed names) = All IsLogicalName names
ListsLogicalNames _ = Unit {0}

-- only such lines have a text
abbrev pub HaveText : List Line → Type 0
HaveText lines = All (λ line. ListsLogicalNames line.outcome) lines
