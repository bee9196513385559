use Rattle.plfs_program.specs.Migrating.{ended_so}
use Rattle.plfs_program.proofs.migrating.migrate_mounted.Goals as goal

pub returns : goal.returns
returns g c = ended_so c.in-Ok.ended (record { made = c.in-Ok.ensures.made; cause = c.in-Ok.ensures.cause; undamaged = c.in-Ok.ensures.undamaged }) c.say_ended.ensures
