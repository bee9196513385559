use Rattle.plfs_types.proofs.NameTests.{read_so}
use Rattle.plfs_types.proofs.names.name_in.Goals as goal

pub returns : goal.returns
returns c = read_so c.args.bytes.now c.read.result c.read.ensures.rule c.read.ensures.value
