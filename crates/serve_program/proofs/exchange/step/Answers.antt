use Rattle.std.proofs.Common.{sym, subst}
use Rattle.frame_streams.specs.declared.arriving.Arrival.{Arrival}
use Rattle.serve_program.specs.Exchange.{IsUnread}
use Rattle.serve_program.proofs.Frames.{came_so, starved_so, unread_so}
use Rattle.serve_program.proofs.exchange.step.Goals as goal

pub returns-in_default-clause-steps : goal.returns-in_default-clause-steps
returns-in_default-clause-steps g c =
    starved_so (g.I.Frames.given c.args.input.now) (g.I.Frames.given c.next.new.self) (g.O.Sink.taking c.args.out.now) c.args.clients.now c.args.mount.now c.in_default.ensures.begun

pub returns-in-Frame-clause-steps : goal.returns-in-Frame-clause-steps
returns-in-Frame-clause-steps g c =
    let given = g.I.Frames.given in
    let taking = g.O.Sink.taking in
    came_so c.in-Ok.arrival c.in-Frame.head c.in-Frame.payload (given c.args.input.now) (given c.next.new.self) (taking c.args.out.now) (taking c.step_on.new.out) c.args.clients.now c.step_on.new.clients c.args.mount.now c.step_on.new.mount c.step_on.result
    c.in-Frame.is c.in-Ok.ensures.arrives c.step_on.ensures.steps

pub returns-in-Cut-clause-steps : goal.returns-in-Cut-clause-steps
returns-in-Cut-clause-steps g c =
    unread_so c.in-Ok.arrival (g.I.Frames.given c.args.input.now) (g.I.Frames.given c.next.new.self) (g.O.Sink.taking c.args.out.now) c.args.clients.now c.args.mount.now (subst (λ (z : Arrival). IsUnread z) (sym c.in-Cut.is) tt) c.in-Ok.ensures.arrives

pub returns-in-Long-clause-steps : goal.returns-in-Long-clause-steps
returns-in-Long-clause-steps g c =
    unread_so c.in-Ok.arrival (g.I.Frames.given c.args.input.now) (g.I.Frames.given c.next.new.self) (g.O.Sink.taking c.args.out.now) c.args.clients.now c.args.mount.now (subst (λ (z : Arrival). IsUnread z) (sym c.in-Long.is) tt) c.in-Ok.ensures.arrives

pub returns-in-Failed-clause-steps : goal.returns-in-Failed-clause-steps
returns-in-Failed-clause-steps g c =
    unread_so c.in-Ok.arrival (g.I.Frames.given c.args.input.now) (g.I.Frames.given c.next.new.self) (g.O.Sink.taking c.args.out.now) c.args.clients.now c.args.mount.now (subst (λ (z : Arrival). IsUnread z) (sym c.in-Failed.is) tt) c.in-Ok.ensures.arrives
