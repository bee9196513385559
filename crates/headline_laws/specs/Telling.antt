-- What the line that tells of a file shows of it.
use Rattle.std.specs.Prelude.{◌≡◌, ℕ, List, length}
use Rattle.plfs_types.specs.declared.entries.ShareBytes.{ShareBytes}
use Rattle.plfs_types.specs.declared.entries.Trunc.{Trunc}
use Rattle.mount_model.specs.Paths.{Name}
use Rattle.attr_flow.specs.Shares.{stored_in}
use Rattle.reader_laws.specs.Moments.{Moment}
use Rattle.look_laws.specs.Shares.{shares_seen}
use Rattle.headline_laws.specs.OneFile.{OneFile, seen_bytes}
use Rattle.headline_laws.specs.Opening.{OpensOneFile, Stretch}

-- the size, the bytes of each writer and of all of them, and the truncates are those of the file
pub record TellsOfFile (size stored : ℕ) (shares : List ShareBytes) (truncs : List Trunc) (file : OneFile) : Type 0 where
  pub size_is : size ≡ length (seen_bytes file)
  pub shares_are : shares ≡ shares_seen file.moment file.cut
  pub stored_is : stored ≡ stored_in shares
  pub truncates : truncs ≡ file.truncs

-- What is told of the file of this name is that of one plain file, as a reader would have opened it in this stretch, whether somebody had it open or not.
abbrev pub ShowsTold : Moment → ℕ → Stretch → Name → ℕ → ℕ → List ShareBytes → List Trunc → Type 0
ShowsTold start caller stretch name size stored shares truncs = (file : OneFile) × OpensOneFile start caller stretch name file × TellsOfFile size stored shares truncs file
