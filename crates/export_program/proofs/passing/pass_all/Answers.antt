use Rattle.std.proofs.Common.{refl}
use Rattle.export_program.specs.Passing as passing
use Rattle.export_program.proofs.Troubles.{names_true}
use Rattle.export_program.proofs.passing.pass_all.Goals as goal

pub returns-in-Ok-listed-clause-all : goal.returns-in-Ok-listed-clause-all
returns-in-Ok-listed-clause-all g c = passing.listed c.in-Ok-listed.names c.list_files.new.mount (rw c.in-Ok-listed.is at c.in-Ok.ensures.makes) (rw c.backwards.ensures at c.pass_each.ensures.each)

pub returns-in-Err-clause-all : goal.returns-in-Err-clause-all
returns-in-Err-clause-all g c = passing.unlisted c.in-Err.why (rw c.in-Err.is at c.in-Ok.ensures.makes) (names_true c.args.mount.now c.in-Err.why c.list_files.new.mount c.requires (rw c.in-Err.is at c.in-Ok.ensures.makes)) refl c.say_unlisted.ensures
