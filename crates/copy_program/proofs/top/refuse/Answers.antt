use Rattle.std.proofs.Common.{ap, refl, rules}
use Rattle.std.specs.Option.{option_map}
use Rattle.copy_program.specs.Course.{usage}
use Rattle.copy_program.proofs.top.refuse.Goals as goal

pub returns-clause-course : goal.returns-clause-course
returns-clause-course g c words given times none = usage none refl (search (rules, c.ends.ensures.store)) c.say.ensures c.ends.ensures.status

pub returns-clause-sound : goal.returns-clause-sound
returns-clause-sound g c told = (g.S.Store.stored c.args.store, ap (option_map g.S.Store.stored) c.ends.ensures.store, told)
