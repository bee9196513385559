use Rattle.std.proofs.Common.{refl, subst}
use Rattle.mount_model.specs.Standing.{rest_of}
use Rattle.writer_flow.specs.WritingStages.{write_standing}
use Rattle.actor_core.specs.declared.doing.Doing.{Doing}
use Rattle.actor_core.specs.declared.doing.Doing.TheVariants.{Writing}
use Rattle.actor_core.specs.Endings.{wrote}
use Rattle.actor_core.specs.Work.{finishes}
use Rattle.actor_core.specs.Standings.{AwaitsReply}
use Rattle.actor_core.proofs.Doings.{takes_so}
use Rattle.actor_core.proofs.taking.reply_taken.Goals as goal

pub returns-in-Writing-clause-goes_on : goal.returns-in-Writing-clause-goes_on
returns-in-Writing-clause-goes_on c =
    let P : Doing → Type 0 = λ doing. AwaitsReply doing in
    takes_so (rest_of (write_standing c.in-Writing.flow)) (write_standing c.take.new.self) (λ kept left out. finishes (wrote kept c.in-Writing.at c.in-Writing.len out)) c.args.doing.now (Writing c.in-Writing.flow c.in-Writing.at c.in-Writing.len) (Writing c.take.new.self c.in-Writing.at c.in-Writing.len) c.take.result c.args.reply
    c.in-Writing.is (λ kept stop. refl) (λ kept stop. refl) (subst P c.in-Writing.is c.requires) c.take.ensures.goes_on
