use Rattle.std.proofs.Common.{subst}
use Rattle.turn_object.specs.Pass.{front, start_of}
use Rattle.drain_copy.specs.Machine.{drain_standing}
use Rattle.drain_copy.specs.Standing.{IsGiven}
use Rattle.drain_turn_tests.proofs.Passes.{may_call, may_go_on, may_go_on_told}
use Rattle.drain_turn_tests.proofs.asking.ask_next.Goals as goal

pub call-reply-requires-clause-may : goal.call-reply-requires-clause-may
call-reply-requires-clause-may g c =
    let given = subst (λ n. IsGiven (drain_standing c.args.drain.now) n (drain_standing c.next.new.self)) c.in-Source.is c.in-Ok.ensures.given in
    may_call (start_of c.args.turn.now) (front c.args.pass.now) (drain_standing c.args.drain.now) (drain_standing c.next.new.self) c.in-Source.call c.requires.may given

pub returns-in-Ok-take_source-clause-may : goal.returns-in-Ok-take_source-clause-may
returns-in-Ok-take_source-clause-may g c =
    let given = subst (λ n. IsGiven (drain_standing c.args.drain.now) n (drain_standing c.next.new.self)) c.in-Source.is c.in-Ok.ensures.given in
    let called = c.call-reply.ensures in
    may_go_on (start_of c.args.turn.now) (front c.args.pass.now) (front c.call-reply.new.pass) (drain_standing c.args.drain.now) (drain_standing c.next.new.self) (drain_standing c.take_source.new.self) c.in-Source.call c.call-reply.result c.requires.may given c.requires.can.known
    called.legal called.called c.in-Ok-take_source.ensures.goes_on

pub returns-in-Ok-take_target-clause-may : goal.returns-in-Ok-take_target-clause-may
returns-in-Ok-take_target-clause-may g c =
    let given = subst (λ n. IsGiven (drain_standing c.args.drain.now) n (drain_standing c.next.new.self)) c.in-Target.is c.in-Ok.ensures.given in
    may_go_on_told (start_of c.args.turn.now) (front c.args.pass.now) (drain_standing c.args.drain.now) (drain_standing c.next.new.self) (drain_standing c.take_target.new.self) c.in-Target.step c.act-told.result c.requires.may given c.in-Ok-take_target.ensures.goes_on
