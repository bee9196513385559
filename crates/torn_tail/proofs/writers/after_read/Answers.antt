use Rattle.std.proofs.Common.{rules}
use Rattle.torn_tail.proofs.ReadLemmas.{read_follows}
use Rattle.torn_tail.proofs.writers.after_read.Goals as goal

pub returns-clause-goes_on : goal.returns-clause-goes_on
returns-clause-goes_on c = λ room.
    read_follows room c.args.reads.told c.args.reads.log c.args.reads.left c.next_read-asked.result c.args.reads.ended c.args.entry c.args.reads.counted.run c.args.reply c.in-Some.bytes c.as_slice-bytes.result.now c.look-went.result.0 c.look-went.result.1.run _
    (search rules) (search rules) (search rules) (search rules) (c.after_look.ensures.goes_on room)
