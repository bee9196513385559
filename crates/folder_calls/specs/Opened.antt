-- Which files are open.
use Rattle.std.specs.Prelude.{Option}
use Rattle.std.specs.Map.{lookup}
use Rattle.folder_calls.specs.declared.cache.FileKey.{FileKey}
use Rattle.folder_calls.specs.declared.cache.OpenFiles.{OpenFiles}
use Rattle.folder_calls.specs.declared.held.Held.{Held}
use Rattle.folder_calls.specs.Keys.{same_file}

-- the file under this key, where it is open
abbrev pub held_at : {F : Type 0} → OpenFiles F → FileKey → Option (Held F)
held_at open_files key = lookup (same_file key) open_files.files.entries
