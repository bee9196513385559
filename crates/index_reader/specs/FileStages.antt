-- Where the reading of a file stands in its program.
use Rattle.std.specs.Prelude.{ℕ, List}
use Rattle.mount_model.specs.FlowReplies.{Tries}
use Rattle.mount_model.specs.Program.{done}
use Rattle.index_reader.specs.declared.parts.FileRead.{FileRead}
use Rattle.index_reader.specs.declared.bytes.AfterPart.{AfterPart}
use Rattle.index_reader.specs.declared.bytes.AfterPart.TheVariants.{GoesOn, Is}
use Rattle.index_reader.specs.FileReads.{bytes_on}

abbrev pub file_left : ℕ → FileRead → Tries (List ℕ)
file_left room f = bytes_on room f.path f.told f.left f.sofar

abbrev pub part_left : ℕ → AfterPart → Tries (List ℕ)
part_left room (GoesOn f) = file_left room f
part_left room (Is result) = done result

abbrev pub part_calls : AfterPart → ℕ
part_calls (GoesOn f) = f.left
part_calls (Is result) = 0
