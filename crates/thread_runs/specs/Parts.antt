-- The parts of a phase.
use Rattle.std.specs.Prelude.{◌≡◌, ℕ, List, Some, map, slice_get}
use Rattle.script_lang.specs.declared.script.Numbered.{Numbered}
use Rattle.run_core.specs.Course.{own}
use Rattle.thread_runs.specs.declared.parts.Part.{Part}

-- what an actor has to do
abbrev pub statements_of : Part → List Numbered
statements_of part = map (λ s. s.now) part.statements.items

abbrev pub dealt : List Part → List (List Numbered)
dealt parts = map (λ (part : Part). statements_of part) parts

-- each of these actors, of which the first has place 0, has its own of the statements, in their order
abbrev pub AreParts : List Numbered → List (List Numbered) → Type 0
AreParts statements parts = (place : ℕ) (part : List Numbered) → slice_get parts place ≡ Some part → part ≡ own place statements
