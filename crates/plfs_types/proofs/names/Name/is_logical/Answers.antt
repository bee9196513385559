use Rattle.std.proofs.Common.{ap, ◌∙◌}
use Rattle.plfs_types.specs.Names.{is_logical}
use Rattle.plfs_types.proofs.NameTests.{decided}
use Rattle.plfs_types.proofs.names.Name.is_logical.Goals as goal

pub returns-clause-value : goal.returns-clause-value
returns-clause-value c = c.is_some.ensures ∙ decided c.bytes.result.now c.read.result c.read.ensures.rule ∙ ap is_logical c.bytes.ensures.value
