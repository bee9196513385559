use Rattle.std.proofs.Common.{arith, rules}
use Rattle.plfs_program.proofs.Streams.InputLemmas.{front_held}
use Rattle.plfs_program.proofs.held.take_front.Goals as goal

pub returns : goal.returns
returns c =
    front_held 1048577 c.min-limit.result c.args.bytes.now.items c.replace.result.items c.replace.new.dest.items (omega (arith, c.min-limit.ensures, c.len.ensures, c.args.bytes.now.ok.0)) (search rules) (search rules)
