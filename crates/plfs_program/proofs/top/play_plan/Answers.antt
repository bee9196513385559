use Rattle.std.proofs.Common.{refl}
use Rattle.plfs_program.specs.Course.{planned}
use Rattle.plfs_program.proofs.top.play_plan.Goals as goal

pub returns : goal.returns
returns g c words command are plans = planned command c.args.plan.now are plans refl c.play_script.ensures
