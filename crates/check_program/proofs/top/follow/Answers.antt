use Rattle.std.proofs.Common.{ap, sym}
use Rattle.std.specs.Option.{option_map}
use Rattle.check_program.specs.Course.{checks}
use Rattle.check_program.proofs.top.follow.Goals as goal

pub returns : goal.returns
returns g c words times is =
    checks c.args.command (g.S.Store.stored c.obey-status.new.store) is (ap (option_map g.S.Store.stored) c.ends.ensures.store) c.obey-status.ensures.looked (rw (sym c.ends.ensures.status) at c.obey-status.ensures.course)
