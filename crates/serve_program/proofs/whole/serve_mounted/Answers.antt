use Rattle.std.proofs.Common.{List, refl, sym, subst}
use Rattle.serve_core.specs.declared.client.Client.{Client}
use Rattle.serve_core.specs.Serving.{AreNew}
use Rattle.serve_program.specs.Running.{unmade}
use Rattle.serve_program.proofs.whole.serve_mounted.Goals as goal

pub serve_clients-requires-clause-begun : goal.serve_clients-requires-clause-begun
serve_clients-requires-clause-begun g c = subst (λ (z : List Client). AreNew c.args.actors.now z) (sym c.deref_mut.ensures.value) c.in-Ok.ensures

pub returns-in_default-clause-runs : goal.returns-in_default-clause-runs
returns-in_default-clause-runs g c = unmade refl refl refl refl
