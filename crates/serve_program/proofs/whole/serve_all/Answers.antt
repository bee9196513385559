use Rattle.std.specs.Option.{option_map}
use Rattle.program_ends.specs.Ends.{Ends, ends_of}
use Rattle.serve_program.specs.Words.{actors_on}
use Rattle.serve_program.proofs.Soundness.{run_leaves}
use Rattle.serve_program.proofs.whole.serve_all.Goals as goal

pub returns-clause-sound : goal.returns-clause-sound
returns-clause-sound g c =
    let e : Ends = ends_of (g.C.Clock.times c.args.clock) (g.O.Sink.taking c.args.out.now) (g.O.Sink.taking c.serve_host.new.out) (g.S.Store.stored c.args.store) (option_map g.S.Store.stored c.serve_host.result.store) in
    run_leaves (actors_on c.args.host) (g.I.Frames.given c.args.input.now) (g.I.Frames.given c.serve_host.new.input) e c.serve_host.result.status c.a_failed_mounting_leaves_a_sound_tree.ensures c.serve_host.ensures
