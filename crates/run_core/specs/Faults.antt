-- Lines that tell of a failed store.
use Rattle.std.specs.Prelude.{◌≡◌, List}
use Rattle.std.specs.List.{Any}
use Rattle.script_lang.specs.declared.line.Line.{Line}
use Rattle.script_lang.specs.declared.line.Outcome.TheVariants.{Fault}

-- a statement ended with a fault of the store
abbrev pub TellsFault : Line → Type 0
TellsFault line = line.outcome ≡ Fault

abbrev pub HasFault : List Line → Type 0
HasFault lines = Any TellsFault lines
