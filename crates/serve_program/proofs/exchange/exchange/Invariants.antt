use Rattle.std.proofs.Common.{List}
use Rattle.mount_sound.specs.Sound.{IsFine}
use Rattle.script_lang.specs.declared.script.ActorDecl.{ActorDecl}
use Rattle.serve_core.specs.Making.{AreAtRest}
use Rattle.serve_core.specs.Serving.{AreNew}
use Rattle.serve_program.proofs.Exchanges.{SoFar}
use Rattle.serve_program.proofs.exchange.exchange.Given as goal

abbrev pub invariant-loop-i : goal.invariant-loop-i
invariant-loop-i g l =
    let given = g.I.Frames.given in
    let taking = g.O.Sink.taking in
    record {
      so_far : (declared : List ActorDecl) → AreNew declared l.fn.clients → SoFar declared l.fn.mount (given l.fn.input) (taking l.fn.out) l._i l.clients l.mount (given l.input) (taking l.out);
      rest : AreAtRest l.clients;
      fine : IsFine l.mount;
    }
