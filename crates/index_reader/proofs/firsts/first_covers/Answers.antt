use Rattle.std.proofs.Common.{sym, subst}
use Rattle.index_reader.specs.Gathered.{AreFirstOf}
use Rattle.index_reader.proofs.Indices.FirstLemmas.{first_of}
use Rattle.index_reader.proofs.firsts.first_covers.Goals as goal

pub returns : goal.returns
returns c = subst (AreFirstOf c.args.told.now) (sym c.in_ok-covers.ensures) (first_of c.args.told.now c.in_ok-firsts.firsts c.in_ok-firsts.ensures)
