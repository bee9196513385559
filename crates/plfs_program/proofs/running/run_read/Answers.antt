use Rattle.plfs_program.specs.Course.{played}
use Rattle.plfs_program.proofs.running.run_read.Goals as goal

pub returns : goal.returns
returns g c bytes reads = played c.args.script.now reads c.run_script.ensures
