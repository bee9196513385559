use Rattle.std.proofs.Common.{◌≡◌, ◌+◌, ◌-◌, ◌^◌, ℕ, suc, Option, None, subst, rules, arith}
use Rattle.serve_program.specs.declared.exchange.Stop.{Stop}
use Rattle.serve_program.specs.Exchange.{StepsSo}
use Rattle.serve_program.proofs.Exchanges.{SoFar, none_yet, rest_on, spent_so, stops_so, went_on}
use Rattle.serve_program.proofs.exchange.exchange.Goals as goal

pub loop-i-init : goal.loop-i-init
loop-i-init g c = record {
  so_far = λ declared new. none_yet declared c.args.clients.now c.args.mount.now (g.I.Frames.given c.args.input.now) (g.O.Sink.taking c.args.out.now) new;
  rest = c.requires.rest;
  fine = c.requires.fine;
}

pub returns-in-Some-clause-exchanged : goal.returns-in-Some-clause-exchanged
returns-in-Some-clause-exchanged g c = λ declared new.
    let given = g.I.Frames.given in
    let taking = g.O.Sink.taking in
    let Steps : Option Stop → Type 0 = λ z. StepsSo c.loop-i.clients c.loop-i.mount (given c.loop-i.input) (taking c.loop-i.out) z c.step.new.clients c.step.new.mount (given c.step.new.input) (taking c.step.new.out) in
    stops_so c.in-Some.stop declared c.args.mount.now c.loop-i.mount c.step.new.mount (given c.args.input.now) (given c.loop-i.input) (given c.step.new.input) (taking c.args.out.now) (taking c.loop-i.out) (taking c.step.new.out) c.loop-i._i c.loop-i.clients c.step.new.clients
    (c.loop-i.invariant.so_far declared new) (subst Steps c.in-Some.is c.step.ensures.steps)

pub loop-i-preserved : goal.loop-i-preserved
loop-i-preserved g c =
    let given = g.I.Frames.given in
    let taking = g.O.Sink.taking in
    let Steps : Option Stop → Type 0 = λ z. StepsSo c.loop-i.clients c.loop-i.mount (given c.loop-i.input) (taking c.loop-i.out) z c.step.new.clients c.step.new.mount (given c.step.new.input) (taking c.step.new.out) in
    let none : Steps None = subst Steps c.in_default.is c.step.ensures.steps in
    record {
      so_far = λ declared new.
          let So : ℕ → Type 0 = λ z. SoFar declared c.args.mount.now (given c.args.input.now) (taking c.args.out.now) z c.step.new.clients c.step.new.mount (given c.step.new.input) (taking c.step.new.out) in
          let next : suc c.loop-i._i ≡ c.loop-i._i + 1 = omega arith in
          subst So next (went_on declared c.args.mount.now c.loop-i.mount c.step.new.mount (given c.args.input.now) (given c.loop-i.input) (given c.step.new.input) (taking c.args.out.now) (taking c.loop-i.out) (taking c.step.new.out) c.loop-i._i c.loop-i.clients
          c.step.new.clients (c.loop-i.invariant.so_far declared new) none);
      rest = rest_on c.loop-i.clients c.step.new.clients c.loop-i.mount c.step.new.mount (given c.loop-i.input) (given c.step.new.input) (taking c.loop-i.out) (taking c.step.new.out) c.loop-i.invariant.rest none;
      fine = c.step.ensures.fine;
    }

pub returns-clause-exchanged : goal.returns-clause-exchanged
returns-clause-exchanged g c = λ declared new.
    let given = g.I.Frames.given in
    let taking = g.O.Sink.taking in
    let So : ℕ → Type 0 = λ z. SoFar declared c.args.mount.now (given c.args.input.now) (taking c.args.out.now) z c.loop-i.clients c.loop-i.mount (given c.loop-i.input) (taking c.loop-i.out) in
    let all : c.loop-i._i ≡ 2 ^ 64 - 1 = search rules in
    spent_so declared c.args.mount.now c.loop-i.mount (given c.args.input.now) (given c.loop-i.input) (taking c.args.out.now) (taking c.loop-i.out) c.loop-i.clients (subst So all (c.loop-i.invariant.so_far declared new))
