use Rattle.std.proofs.Common.{◌≡◌, arith, sym, subst}
use Rattle.std.proofs.lemmas.Grind.{common_steps}
use Rattle.index_reader.specs.Hosts.{AreByWriter, hosts_of}
use Rattle.index_reader.proofs.Containers.HostLemmas.{hosts_ascend}
use Rattle.index_reader.proofs.hosts.hosts_of.Goals as goal

pub returns-clause-order : goal.returns-clause-order
returns-clause-order c =
    let all : c.loop-dropping.hosts ≡ hosts_of c.args.droppings.now = grind (arith, common_steps) in
    subst AreByWriter (sym all) (hosts_ascend c.args.droppings.now c.requires)
