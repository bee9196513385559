-- The lines of a run.
use Rattle.std.specs.Prelude.{ℕ, List, Option}
use Rattle.store_api.specs.Acts.{Stored}
use Rattle.mount_model.specs.declared.mount_trouble.MountTrouble.{MountTrouble}
use Rattle.mount_model.specs.Failing.{FailsToMount}
use Rattle.script_lang.specs.declared.line.Line.{Line}
use Rattle.script_lang.specs.declared.script.Script.{Script}
use Rattle.plfs_program.specs.Calling.{IsPlayedOn}
use Rattle.program_ends.specs.Mounting.{IsUnmounted}
use Rattle.plfs_program.specs.Ways.{Way}

-- The mounting broke off, which line 0 says alone; or a mount was made, and these are the lines that the script, played in this way, has on it.
pub data AreLinesOf (way : Way) (times : Option (List ℕ)) (before after : Stored) (script : Script) (lines : List Line) : Type 0 where
  unmounted : (trouble : MountTrouble) → FailsToMount before trouble after → IsUnmounted trouble lines → AreLinesOf way times before after script lines
  mounted : IsPlayedOn way times before script lines after → AreLinesOf way times before after script lines
