-- Which scripts are played.
use Rattle.script_lang.specs.declared.script.Script.{Script}
use Rattle.script_lang.specs.Ranges.{FitsScript}

-- Each actor that is named is declared, capacities are 1 to 4096, and numbers and data are in their ranges.
pub record IsPlayable (script : Script) : Type 0 where
  pub fits : FitsScript script
