use Rattle.std.proofs.Common.{refl, subst}
use Rattle.plfs_types.specs.Names.{IsLogicalName}
use Rattle.export_program.specs.Passing as passing
use Rattle.export_program.proofs.passing.pass_told.Goals as goal

pub returns-in-Some-clause-passes : goal.returns-in-Some-clause-passes
returns-in-Some-clause-passes g c = passing.passes (subst IsLogicalName c.bytes.ensures.value (c.in-Some.ensures.rule.0 refl)) (rw (c.in-Some.ensures.value, c.bytes.ensures.value) at c.pass_named.ensures.passes)
