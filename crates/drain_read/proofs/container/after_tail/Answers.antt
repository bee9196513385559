use Rattle.std.proofs.Common.{◌++◌, [], ◌∷◌, sym, ◌∙◌}
use Rattle.mount_model.specs.FlowReplies.{on_ok}
use Rattle.mount_model.specs.Standing.{replied, rest_of}
use Rattle.index_reader.specs.declared.entries.Tail.{Tail}
use Rattle.index_reader.specs.Stages.{tail_standing}
use Rattle.drain_read.specs.Reading.{read_as, reads_all}
use Rattle.drain_read.proofs.Asking.{asked_on}
use Rattle.drain_read.proofs.container.after_tail.Goals as goal

pub returns-in-Ok-Some-clause-goes_on : goal.returns-in-Ok-Some-clause-goes_on
returns-in-Ok-Some-clause-goes_on c = asked_on
    (on_ok (λ (tail : Tail). reads_all c.args.known c.args.rest (c.args.sofar ++ read_as c.args.known.keeps c.args.dropping tail ∷ [])))
    (replied (rest_of (tail_standing c.args.tail.flow)) c.args.reply)
    (tail_standing c.take.new.self) (tail_standing c.next.new.self) c.in-Ok-Some.call
    c.in_default.ensures.goes_on
    (sym c.in-Ok-Some.field-0-is ∙ c.in-Ok-Some.ensures.call)
    c.in-Ok-Some.ensures.rest
