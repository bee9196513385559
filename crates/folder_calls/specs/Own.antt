-- Which files are this run's own.
use Rattle.std.specs.Prelude.{Bool}
use Rattle.std.specs.HashSet.{contains}
use Rattle.folder_calls.specs.declared.cache.FileKey.{FileKey}
use Rattle.folder_calls.specs.declared.own.OwnFiles.{OwnFiles}
use Rattle.folder_calls.specs.Keys.{same_file}

-- the file had no bytes as this run met it, so that all that it has are this run's
abbrev pub is_own : OwnFiles → FileKey → Bool
is_own own key = contains same_file own.keys key
