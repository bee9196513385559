use Rattle.std.proofs.Common.{ap, ◌∙◌, sym}
use Rattle.mount_model.specs.Standing.{ready}
use Rattle.writer_flow.specs.Writing.{write_program}
use Rattle.writer_flow.specs.WritingStages.{write_standing}
use Rattle.outcomes.specs.Data.{bytes_of}
use Rattle.outcomes.proofs.DataLemmas.{length_is}
use Rattle.actor_core.proofs.Carrying.{written}
use Rattle.actor_core.proofs.actor.Actor.write.Goals as goal

pub returns : goal.returns
returns c =
    written c.args.self.now.kept c.args.self.now.stop c.args.at _ (bytes_of c.args.content) c.in-Some.handle (write_standing c.new-flow.result) c.args.self.now.kept.writer
    (c.new-flow.ensures ∙ ap (λ block. ready (write_program c.in-Some.handle c.args.at block)) c.in_ok-block.ensures)
    c.in-Some.is c.if-handle.false (c.length-len.ensures ∙ sym (length_is c.args.content)) c.if-len-eq0.false
