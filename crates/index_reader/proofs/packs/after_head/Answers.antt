use Rattle.std.proofs.Common.{◌∙◌, ap, sym}
use Rattle.index_reader.specs.Packed.{headed_program}
use Rattle.index_reader.proofs.Containers.FileLemmas.{damaged_tail, whole_tail, headed_then}
use Rattle.index_reader.proofs.packs.after_head.Goals as goal

pub returns-in-Fault-clause-goes_on : goal.returns-in-Fault-clause-goes_on
returns-in-Fault-clause-goes_on c = λ room.
    headed_then room c.args.path c.args.cover c.args.told c.in-Some.head c.args.reply c.judge.result (damaged_tail c.damage.result) (sym c.bytes_in.ensures ∙ c.in-Some.is) (c.judge.ensures.value room c.args.path)
    (ap damaged_tail c.damage.ensures ∙ ap (headed_program room c.args.path c.args.cover c.args.told c.in-Some.head) (sym c.in-Fault.is))

pub returns-in-Covered-clause-goes_on : goal.returns-in-Covered-clause-goes_on
returns-in-Covered-clause-goes_on c = λ room.
    headed_then room c.args.path c.args.cover c.args.told c.in-Some.head c.args.reply c.judge.result (whole_tail c.args.cover c.new.result) (sym c.bytes_in.ensures ∙ c.in-Some.is) (c.judge.ensures.value room c.args.path)
    (ap (whole_tail c.args.cover) c.new.ensures ∙ ap (headed_program room c.args.path c.args.cover c.args.told c.in-Some.head) (sym c.in-Covered.is))
