use Rattle.std.proofs.lemmas.Bool.{eqb-true}
use Rattle.flat_format.proofs.Ordered.{passed_at}
use Rattle.flat_format.proofs.rules.is_at.Goals as goal

pub returns-then-place-covers-clause-passed : goal.returns-then-place-covers-clause-passed
returns-then-place-covers-clause-passed c = λ test.
    passed_at c.args.writer c.args.place c.args.covers.now _ c.requires c.if-place-covers.true (eqb-true _ _ test)
