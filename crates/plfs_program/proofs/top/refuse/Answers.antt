use Rattle.std.proofs.Common.{refl, rules}
use Rattle.plfs_program.specs.Course.{usage}
use Rattle.plfs_program.proofs.top.refuse.Goals as goal

pub returns : goal.returns
returns g c words given times none = usage none refl (search (rules, c.ends.ensures.store)) c.say.ensures c.ends.ensures.status
