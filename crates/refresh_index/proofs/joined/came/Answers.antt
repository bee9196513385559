use Rattle.std.proofs.Common.{◌++◌, sym, subst}
use Rattle.index_reader.specs.declared.gathered.Gathered.{Gathered}
use Rattle.index_reader.specs.Covered.{AreByWriter}
use Rattle.index_reader.specs.Gathered.{covers_of}
use Rattle.gather_flow.proofs.CoverLemmas.{first_rise}
use Rattle.refresh_index.proofs.joined.came.Goals as goal

pub returns-clause-covers : goal.returns-clause-covers
returns-clause-covers c =
    let P : Gathered → Type 0 = λ g. AreByWriter g.flat.covers in
    subst P (sym c.in_ok-came.ensures.gathered) (first_rise (covers_of c.args.all.shares ++ c.args.all.listed.flat.covers))
