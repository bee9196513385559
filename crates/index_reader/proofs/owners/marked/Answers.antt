use Rattle.std.proofs.Common.{◌≡◌, arith, map, sym, subst}
use Rattle.std.proofs.lemmas.Grind.{common_steps}
use Rattle.index_reader.specs.Listing.{AreByWriter}
use Rattle.index_reader.specs.Opening.{dropping_of}
use Rattle.index_reader.proofs.Containers.OwnerLemmas.{droppings_ascend}
use Rattle.index_reader.proofs.owners.marked.Goals as goal

pub returns-clause-ascends : goal.returns-clause-ascends
returns-clause-ascends c =
    let all : c.loop-owner.droppings ≡ map (dropping_of c.args.packs.now) c.args.list.now = grind (arith, common_steps) in
    subst AreByWriter (sym all) (droppings_ascend c.args.packs.now c.args.list.now c.requires)
