-- Lines that tell of no damage.
use Rattle.std.specs.Prelude.{⊤, List}
use Rattle.std.specs.List.{All}
use Rattle.script_lang.specs.declared.line.Line.{Line}
use Rattle.script_lang.specs.declared.line.Outcome.{Outcome}
use Rattle.script_lang.specs.declared.line.Outcome.TheVariants.{Damaged}

-- the statement found nothing that no sound container has there
abbrev pub IsUndamaged : Outcome → Type 0
IsUndamaged (Damaged folder file place) = ⊥
IsUndamaged other = ⊤

abbrev pub AreUndamaged : List Line → Type 0
AreUndamaged lines = All (λ (line : Line). IsUndamaged line.outcome) lines
