use Rattle.std.proofs.Common.{List, ap, refl, sym, subst, ◌∙◌}
use Rattle.std.specs.Prelude.{All}
use Rattle.std.specs.Option.{option_map}
use Rattle.script_lang.specs.declared.script.ActorDecl.{ActorDecl}
use Rattle.script_lang.specs.Ranges.{FitsActor}
use Rattle.program_ends.specs.Ends.{Ends, ends_of}
use Rattle.serve_program.specs.Running.{Runs, unbegun}
use Rattle.serve_program.proofs.Actors.{actors_fit, actors_many_of}
use Rattle.serve_program.proofs.whole.serve_host.Goals as goal

pub serve_actors-requires-clause-fits : goal.serve_actors-requires-clause-fits
serve_actors-requires-clause-fits g c = subst (λ (z : List ActorDecl). All FitsActor z) (sym (c.as_slice.ensures ∙ c.in-Ok.ensures)) (actors_fit c.args.host)

pub serve_actors-requires-clause-many : goal.serve_actors-requires-clause-many
serve_actors-requires-clause-many g c = actors_many_of c.args.host _ (c.as_slice.ensures ∙ c.in-Ok.ensures)

pub returns-in-Ok : goal.returns-in-Ok
returns-in-Ok g c =
    let e : Ends = ends_of (g.C.Clock.times c.args.clock) (g.O.Sink.taking c.args.out.now) (g.O.Sink.taking c.serve_actors.new.out) (g.S.Store.stored c.args.store) (option_map g.S.Store.stored c.serve_actors.result.store) in
    subst (λ (z : List ActorDecl). Runs z (g.I.Frames.given c.args.input.now) (g.I.Frames.given c.serve_actors.new.input) e c.serve_actors.result.status) (c.as_slice.ensures ∙ c.in-Ok.ensures) c.serve_actors.ensures

pub returns-in-Err : goal.returns-in-Err
returns-in-Err g c = unbegun (ap (option_map g.S.Store.stored) c.ends.ensures.store) refl refl c.ends.ensures.status
