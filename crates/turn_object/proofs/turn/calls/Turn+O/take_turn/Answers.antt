use Rattle.std.proofs.Common.{rules}
use Rattle.turn_object.specs.Pass.{start_of}
use Rattle.turn_object.proofs.Calls.{slot_of, may_served, front_served, called_served, called_before}
use Rattle.turn_object.proofs.turn.calls.Turn+O.take_turn.Goals as goal

pub serve-reply-requires-clause-slot : goal.serve-reply-requires-clause-slot
serve-reply-requires-clause-slot g c = slot_of g.O.Object.step g.O.Object.may _ _ _ _ c.wait_for_turn.ensures.turn.1 (search rules)

pub serve-reply-requires-clause-may : goal.serve-reply-requires-clause-may
serve-reply-requires-clause-may g c = may_served g.O.Object.step g.O.Object.may g.met.O.Object.may_lasts _ _ _ _ _ _ c.wait_for_turn.ensures.turn.1 (search rules) (search rules) (search rules)

pub returns-clause-legal : goal.returns-clause-legal
returns-clause-legal g c =
    let called = c.serve-reply.ensures.called in
    let served = c.wait_for_turn.ensures.turn.1 in
    front_served g.O.Object.step g.O.Object.may c.take_ticket-ticket.result c.unwrap_or-number.result c.take_ticket-ticket.new.seat.me c.wait_for_turn.new.seat.me c.serve-reply.new.seat.me (start_of c.args.self.now) c.args.ask.now c.serve-reply.result called.0 served (search rules) (search rules)
    (may_served g.O.Object.step g.O.Object.may g.met.O.Object.may_lasts _ _ _ _ _ _ served (search rules) (search rules) (search rules)) called.1 called.2

pub returns-clause-called : goal.returns-clause-called
returns-clause-called g c =
    let called = c.serve-reply.ensures.called in
    let served = c.wait_for_turn.ensures.turn.1 in
    called_before g.O.Object.step g.O.Object.may _ _ _ _ _ _ _ c.take_ticket-ticket.ensures.ticket
    (called_served g.O.Object.step g.O.Object.may c.take_ticket-ticket.result c.unwrap_or-number.result c.take_ticket-ticket.new.seat.me c.wait_for_turn.new.seat.me c.serve-reply.new.seat.me (start_of c.args.self.now) c.args.ask.now c.serve-reply.result called.0 served (search rules)
    (may_served g.O.Object.step g.O.Object.may g.met.O.Object.may_lasts _ _ _ _ _ _ served (search rules) (search rules) (search rules)) called.1 called.2)
