use Rattle.std.proofs.Common.{List, ℕ, ◌∙◌, subst}
use Rattle.program_ends.specs.Reported.{IsReported}
use Rattle.drain_program.proofs.saying.say_taken.Goals as goal

pub returns : goal.returns
returns g c = subst (λ (text : List ℕ). IsReported text 1 (g.O.Sink.taking c.args.out.now) (g.O.Sink.taking c.say_text.new.out) c.say_text.result) (c.as_slice.ensures.value ∙ c.in-Ok.ensures) c.say_text.ensures.reported
