-- How a run goes that writes out all files.
use Rattle.std.specs.Prelude.{◌≡◌, ℕ, false, List, Option, Some}
use Rattle.store_api.specs.Acts.{Stored}
use Rattle.mount_model.specs.State.{State}
use Rattle.mount_model.specs.Mounting.{IsMounted}
use Rattle.mount_model.specs.Failing.{FailsToMount}
use Rattle.mount_model.specs.declared.mount_trouble.MountTrouble.{MountTrouble}
use Rattle.script_lang.specs.declared.line.Line.{Line}
use Rattle.program_ends.specs.Ends.{Ends}
use Rattle.program_ends.specs.Mounting.{IsUnmounted}
use Rattle.program_ends.specs.Outcomes.{has_line, is_damage}
use Rattle.program_ends.specs.SoundTrees.{TellsSoundTree}
use Rattle.export_program.specs.Looking.{HasOnlyLooked}
use Rattle.export_program.specs.Passing.{WritesAll, at}
use Rattle.export_program.specs.Seen.{HoldCuts}
use Rattle.export_program.specs.Shelf.{Deed}
use Rattle.program_ends.specs.Unmounted.{IsUnmountedSaid}

-- A mount was made of the store as it was, and on it all files were written out, which led to what is left of the store. No call changed anything. Where the store
-- told a sound tree, each file that was kept has the bytes of one cut of its container.
pub record IsExported (deeds deeds_after : Option (List Deed)) (e : Ends) (after : Stored) (status : ℕ) : Type 0 where
  pub start : State
  pub end : State
  pub mounted : IsMounted 0 e.times e.stored start
  pub writes : WritesAll (at start deeds e.taking) (at end deeds_after e.taking_after) status
  pub left : end.store ≡ after
  pub looks : HasOnlyLooked start end
  pub seen : TellsSoundTree e.stored → HoldCuts start deeds deeds_after

-- The mounting broke off, and that was said: of damage only where the store told no sound tree. Or all files were written out.
pub data ExportCourse (deeds deeds_after : Option (List Deed)) (e : Ends) (status : ℕ) : Type 0 where
  unmounted : (why : MountTrouble) (after : Stored) → e.stored_after ≡ Some after → FailsToMount e.stored why after → deeds_after ≡ deeds → (TellsSoundTree e.stored → (lines : List Line) → IsUnmounted why lines → has_line is_damage lines ≡ false) → IsUnmountedSaid why e.taking e.taking_after status → ExportCourse deeds deeds_after e status
  exported : (after : Stored) → e.stored_after ≡ Some after → IsExported deeds deeds_after e after status → ExportCourse deeds deeds_after e status
