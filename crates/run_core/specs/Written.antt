-- What is written of the order of turns and of statements.
use Rattle.std.specs.Prelude.{ℕ, Bool, true, false, List, [], ◌∷◌, ◌++◌, map, replicate}
use Rattle.mount_model.specs.declared.call.Ask.{Ask}
use Rattle.mount_model.specs.declared.call.Call.{Call}
use Rattle.mount_model.specs.declared.call.Call.TheVariants.{Greet}
use Rattle.script_lang.specs.declared.script.Numbered.{Numbered}
use Rattle.script_lang.specs.declared.script.Phase.{Phase}
use Rattle.script_lang.specs.declared.script.Turned.{Turned}
use Rattle.mount_model.specs.InTurns.{WrittenOrder}

-- a line `turn A N` is N turns of A
abbrev pub turns_of : List Turned → List ℕ
turns_of [] = []
turns_of (turned ∷ later) = replicate turned.count turned.actor ++ turns_of later

-- whose statements they are
abbrev pub whose : List Numbered → List ℕ
whose statements = map (λ (s : Numbered). s.actor) statements

abbrev pub written_of : Phase → WrittenOrder
written_of phase = record { turns = turns_of phase.turns; statements = whose phase.statements }

abbrev pub greets : Call → Bool
greets Greet = true
greets _ = false

-- a greeting takes no turn
abbrev pub is_greeting : Ask → Bool
is_greeting ask = greets ask.call
