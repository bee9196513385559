-- What a command reads and writes.
use Rattle.std.specs.Prelude.{Bool, true, false}
use Rattle.command_line.specs.declared.commands.Command.{Command}
use Rattle.command_line.specs.declared.commands.Command.TheVariants as command
use Rattle.copy_program.specs.declared.words.CopyCommand.{CopyCommand}
use Rattle.copy_program.specs.declared.words.CopyCommand.TheVariants.{Put, Get}

-- it reads standard input: a script, or the small files that it packs
abbrev pub reads_the_input : Command → Bool
reads_the_input command.Run = true
reads_the_input command.Play = true
reads_the_input (command.Pack _ _) = true
reads_the_input _ = false

-- it writes the bytes of a file
abbrev pub writes_a_file : Command → Bool
writes_a_file (command.Cat _) = true
writes_a_file (command.Unpack _ _) = true
writes_a_file _ = false

-- it copies standard input, as it goes
abbrev pub copies_the_input : CopyCommand → Bool
copies_the_input (Put _ _ _) = true
copies_the_input (Get _) = false
