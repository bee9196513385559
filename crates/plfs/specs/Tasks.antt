-- What a task of the program writes, and what works beside it.
use Rattle.std.specs.Prelude.{Bool, true, false, not}
use Rattle.command_line.specs.declared.commands.Command.TheVariants as command
use Rattle.plfs.specs.Streams.{copies_the_input, writes_a_file}
use Rattle.plfs.specs.declared.task.Task.{Task}
use Rattle.plfs.specs.declared.task.Task.TheVariants as task

-- it writes whole files of a container out
abbrev pub writes_whole_files : Task → Bool
writes_whole_files (task.Plfs words (command.Cat name) input) = true
writes_whole_files (task.Copy words asked files opened) = not (copies_the_input asked)
writes_whole_files (task.Export asked folder) = true
writes_whole_files _ = false

-- threads may be at work beside the one that runs it: those of a script, those that serve, or one that reads whole files ahead
abbrev pub starts_threads : Task → Bool
starts_threads (task.Plfs words command.Run input) = true
starts_threads (task.Serve host board) = true
starts_threads it = writes_whole_files it

-- what it writes has lines that begin with a number
abbrev pub has_lines : Task → Bool
has_lines (task.Plfs words asked input) = not (writes_a_file asked)
has_lines (task.Copy words asked files opened) = copies_the_input asked
has_lines (task.Import asked folder entries) = false
has_lines (task.Serve host board) = false
has_lines _ = true

-- it copies standard input or the files in its place, as it goes
abbrev pub copies_as_it_goes : Task → Bool
copies_as_it_goes (task.Copy words asked files opened) = copies_the_input asked
copies_as_it_goes _ = false
