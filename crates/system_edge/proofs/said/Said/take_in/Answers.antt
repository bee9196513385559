use Rattle.std.proofs.Common.{rules, ◌∙◌}
use Rattle.system_edge.specs.Telling.{memory_of}
use Rattle.system_edge.proofs.Remembering.{line_taken, rest_taken, was_alive}
use Rattle.system_edge.proofs.said.Said.take_in.Goals as goal

pub loop-line-preserved : goal.loop-line-preserved
loop-line-preserved c = record {
  heard = λ alive.
      let was = was_alive c.loop-line.self.is_lost c.take_line.new.self.is_lost (λ t. (c.take_line.ensures.lost t).0) alive in
      line_taken (memory_of c.loop-line.self) (memory_of c.take_line.new.self) c.loop-line.rest.now c.take_line.ensures.found c.in-Some.line.now c.in-Some.behind.now (λ f. c.take_line.ensures.heard f alive) (search rules) ∙ c.loop-line.invariant.heard was;
  lost = search rules;
  same = search rules;
}

pub returns-clause-heard : goal.returns-clause-heard
returns-clause-heard c alive =
    let was = was_alive c.loop-line.self.is_lost c.remember.new.self.is_lost (λ t. (c.remember.ensures.lost t).0) alive in
    rest_taken (memory_of c.loop-line.self) (memory_of c.remember.new.self) c.loop-line.rest.now c.remember.ensures.found (search rules) (λ f. c.remember.ensures.more f alive) (search rules) ∙ c.loop-line.invariant.heard was
