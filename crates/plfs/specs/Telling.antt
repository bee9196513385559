-- How a run ends that began none, and what is said of one that failed.
use Rattle.std.specs.Prelude.{ℕ, Bool, true, false, length, nat_lt}
use Rattle.spread_store.specs.declared.opening.SpreadTrouble.{SpreadTrouble}
use Rattle.spread_store.specs.declared.opening.SpreadTrouble.TheVariants as trouble
use Rattle.plfs.specs.declared.task.Task.{Task}
use Rattle.plfs.specs.declared.task.Task.TheVariants as task

-- the status where folders can't be opened as one
abbrev pub unopened_status : SpreadTrouble → ℕ
unopened_status trouble.NoMemory = 3
unopened_status trouble.Fault = 4
unopened_status (trouble.Doubled name) = 7

-- a file that couldn't be read has a name: one of a folder that is put, or the next one behind so many that stand in the place of standard input
abbrev pub names_a_file : Task → ℕ → Bool
names_a_file (task.Import asked folder entries) read = true
names_a_file (task.Copy words asked files opened) read = nat_lt read (length files.now)
names_a_file _ read = false
