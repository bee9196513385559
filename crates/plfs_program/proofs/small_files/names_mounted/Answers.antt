use Rattle.std.proofs.Common.{refl}
use Rattle.plfs_program.specs.SmallFiles.{broke_off, ended_so}
use Rattle.plfs_program.proofs.small_files.names_mounted.Goals as goal

pub returns : goal.returns
returns g c = ended_so c.in-Ok.told c.in-Ok.ensures.names c.in-Ok.ensures.looks c.say_told_names.ensures

pub returns-in_default : goal.returns-in_default
returns-in_default g c = broke_off c.in_default.ensures.broken_off c.in_default.ensures.looks refl refl
