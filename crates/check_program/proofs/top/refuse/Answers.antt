use Rattle.std.proofs.Common.{ap}
use Rattle.std.specs.Option.{option_map}
use Rattle.check_program.specs.Course.{usage}
use Rattle.check_program.proofs.top.refuse.Goals as goal

pub returns : goal.returns
returns g c words times none = usage none (ap (option_map g.S.Store.stored) c.ends.ensures.store) c.say.ensures c.ends.ensures.status
