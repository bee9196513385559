use Rattle.std.proofs.Common.{take}
use Rattle.serve_core.specs.Serving.{AreNew}
use Rattle.serve_core.proofs.cast.clients_of.Given as goal

abbrev pub invariant-loop-declared : goal.invariant-loop-declared
invariant-loop-declared l = AreNew (take l.declared-index l.actors) l.clients.items
