use Rattle.std.proofs.Common.{rules}
use Rattle.tree_check.proofs.TruncLemmas.{trunc_none, trunc_only}
use Rattle.tree_check.proofs.truncates.trunc_in.Goals as goal

pub returns-in-Some-clause-only : goal.returns-in-Some-clause-only
returns-in-Some-clause-only c = λ trunc is. trunc_only c.args.path.now c.in-Some.item c.trunc_of.result trunc (search rules) (search rules) is

pub returns-in-None-clause-only : goal.returns-in-None-clause-only
returns-in-None-clause-only c = λ trunc is. trunc_none c.args.path.now c.read.result c.in-None.is c.read.ensures.only trunc is
