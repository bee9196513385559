use Rattle.std.proofs.Common.{◌≡◌, ◌∷◌, List, ap, sym, ◌∙◌}
use Rattle.std.proofs.lemmas.Result.{IfOk-weaker}
use Rattle.index_reader.specs.declared.listing.Dropping.{Dropping}
use Rattle.drain_read.specs.declared.container.ContainerTurn.{ContainerTurn}
use Rattle.drain_read.specs.Reading.{reads_all}
use Rattle.drain_read.specs.Stages.{container_turn}
use Rattle.drain_read.proofs.container.read_next.Goals as goal

pub returns-in-Some-clause-goes_on : goal.returns-in-Some-clause-goes_on
returns-in-Some-clause-goes_on c =
    IfOk-weaker c.begin_tail.result
    (λ (turn : ContainerTurn). container_turn turn ≡ reads_all c.args.known (c.in-Some.dropping ∷ c.pop.new.self) c.args.sofar)
    (λ (turn : ContainerTurn). container_turn turn ≡ reads_all c.args.known c.args.rest c.args.sofar)
    (λ turn h. h ∙ ap (λ (r : List Dropping). reads_all c.args.known r c.args.sofar) (sym c.in-Some.ensures))
    c.begin_tail.ensures.goes_on
