use Rattle.std.proofs.Common.{refl, arith}
use Rattle.serve_program.specs.Answering.{passed}
use Rattle.serve_program.proofs.Frames.{asks_nothing, asks_so, breaks_if, made_if}
use Rattle.serve_program.proofs.answering.answer_frame.Goals as goal

pub answer_request-requires-clause-there : goal.answer_request-requires-clause-there
answer_request-requires-clause-there g c = let f = c.in-Some.ensures.found in omega (arith, f.0.by_one, c.requires.many)

pub returns-in-Some-clause-answers : goal.returns-in-Some-clause-answers
returns-in-Some-clause-answers g c =
    made_if c.answer_request.result c.args.head c.args.payload c.in-Some.asked c.args.clients.now c.args.mount.now c.answer_request.new.clients c.answer_request.new.mount
    (asks_so c.args.head c.args.payload c.in-Some.asked c.in-Some.ensures.found) c.answer_request.ensures.answers

pub returns-in-Some-clause-broken : goal.returns-in-Some-clause-broken
returns-in-Some-clause-broken g c =
    breaks_if c.answer_request.result c.args.head c.args.payload c.in-Some.asked c.args.clients.now c.args.mount.now c.answer_request.new.clients c.answer_request.new.mount
    (asks_so c.args.head c.args.payload c.in-Some.asked c.in-Some.ensures.found) c.answer_request.ensures.broken

pub returns-in-None-clause-answers : goal.returns-in-None-clause-answers
returns-in-None-clause-answers g c =
    passed (asks_nothing c.args.head c.args.payload c.request.result c.in-None.is c.request.ensures.only) c.no_request.ensures refl refl
