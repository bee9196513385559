use Rattle.std.proofs.Common.{◌≡◌, true, false, refl, rules, arith}
use Rattle.serve_program.specs.Running.{is_starved}
use Rattle.serve_program.proofs.Runnings.{closed_so, closing_starved, exchange_starved, rest_then, starved_is, unstarved}
use Rattle.serve_program.proofs.whole.serve_clients.Goals as goal

pub exchange-stop-requires-clause-rest : goal.exchange-stop-requires-clause-rest
exchange-stop-requires-clause-rest g c = c.requires.begun.rest

pub exchange-stop-requires-clause-many : goal.exchange-stop-requires-clause-many
exchange-stop-requires-clause-many g c = omega (arith, c.requires.begun.long, c.requires.many)

pub returns-then-is_starved-clause-runs : goal.returns-then-is_starved-clause-runs
returns-then-is_starved-clause-runs g c =
    let starved : is_starved c.exchange-stop.result ≡ true = search rules in
    exchange_starved c.args.actors.now c.args.mount.now c.exchange-stop.new.mount (g.I.Frames.given c.args.input.now) (g.I.Frames.given c.exchange-stop.new.input) (g.O.Sink.taking c.args.out.now) (g.O.Sink.taking c.exchange-stop.new.out)
    c.exchange-stop.result c.exchange-stop.new.clients 3 (c.exchange-stop.ensures.exchanged c.args.actors.now c.requires.begun) (starved_is c.exchange-stop.result starved) refl

pub close_all-requires-clause-rest : goal.close_all-requires-clause-rest
close_all-requires-clause-rest g c =
    let other : is_starved c.exchange-stop.result ≡ false = search rules in
    rest_then c.args.actors.now c.args.mount.now c.exchange-stop.new.mount (g.I.Frames.given c.args.input.now) (g.I.Frames.given c.exchange-stop.new.input) (g.O.Sink.taking c.args.out.now) (g.O.Sink.taking c.exchange-stop.new.out)
    c.exchange-stop.result c.exchange-stop.new.clients (c.exchange-stop.ensures.exchanged c.args.actors.now c.requires.begun) (unstarved c.exchange-stop.result other)

pub returns-in_default-clause-runs : goal.returns-in_default-clause-runs
returns-in_default-clause-runs g c =
    let other : is_starved c.exchange-stop.result ≡ false = search rules in
    closing_starved c.args.actors.now c.args.mount.now c.exchange-stop.new.mount c.close_all.new.mount (g.I.Frames.given c.args.input.now) (g.I.Frames.given c.exchange-stop.new.input) (g.O.Sink.taking c.args.out.now) (g.O.Sink.taking c.exchange-stop.new.out)
    c.exchange-stop.result c.exchange-stop.new.clients 3 (c.exchange-stop.ensures.exchanged c.args.actors.now c.requires.begun) (unstarved c.exchange-stop.result other) c.in_default.ensures.broken refl

pub returns-clause-runs : goal.returns-clause-runs
returns-clause-runs g c =
    let other : is_starved c.exchange-stop.result ≡ false = search rules in
    closed_so c.args.actors.now c.args.mount.now c.exchange-stop.new.mount c.close_all.new.mount (g.I.Frames.given c.args.input.now) (g.I.Frames.given c.exchange-stop.new.input) (g.O.Sink.taking c.args.out.now) (g.O.Sink.taking c.exchange-stop.new.out)
    c.exchange-stop.result c.exchange-stop.new.clients c.close_all.new.clients c.status_of.result c.in-Ok.trouble (c.exchange-stop.ensures.exchanged c.args.actors.now c.requires.begun) (unstarved c.exchange-stop.result other) c.in-Ok.ensures.closes c.status_of.ensures
