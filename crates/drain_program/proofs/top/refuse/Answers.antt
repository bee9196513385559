use Rattle.std.proofs.Common.{ap, rules}
use Rattle.std.specs.Option.{option_map}
use Rattle.drain_program.specs.Course.{usage}
use Rattle.drain_program.proofs.top.refuse.Goals as goal

pub returns-clause-course : goal.returns-clause-course
returns-clause-course g c words times none = usage none (search (rules, c.ends.ensures.store)) (ap g.D.Store.stored c.ends.ensures.target) c.say.ensures c.ends.ensures.status

pub returns-clause-sound : goal.returns-clause-sound
returns-clause-sound g c told = (g.S.Store.stored c.args.store, ap (option_map g.S.Store.stored) c.ends.ensures.store, told)
