-- How a statement refreshes the file of an open reader.
use Rattle.std.specs.Prelude.{◌≡◌, ℕ, List, ◌++◌}
use Rattle.plfs_types.specs.declared.entries.Trunc.{Trunc}
use Rattle.mount_model.specs.History.{Event}
use Rattle.reader_laws.specs.Moments.{Moment}
use Rattle.refresh_laws.specs.Refreshing.{IsNotBelow}
use Rattle.headline_laws.specs.OneFile.{OneFile}
use Rattle.headline_laws.specs.Opening.{SeesOneFile, Stretch}

-- In this stretch the caller saw the container of the former file anew, whatever its name is by then. The file has all writes of the former one and its truncates,
-- and behind them those that came.
pub record RefreshesOneFile (start : Moment) (caller : ℕ) (stretch : Stretch) (former file : OneFile) : Type 0 where
  pub earlier : List Event
  pub first : Event
  pub sees : SeesOneFile start caller stretch earlier first file
  pub same : file.room ≡ former.room
  pub above : IsNotBelow former.cut file.cut
  pub came : List Trunc
  pub truncates : file.truncs ≡ former.truncs ++ came
