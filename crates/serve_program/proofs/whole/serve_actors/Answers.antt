use Rattle.std.proofs.Common.{ap, refl}
use Rattle.std.specs.Option.{option_map}
use Rattle.mount_sound.proofs.Facts.{mounted_fine}
use Rattle.program_ends.specs.Ends.{Ends, ends_of}
use Rattle.serve_program.proofs.Runnings.{not_run_so, runs_so}
use Rattle.serve_program.proofs.whole.serve_actors.Goals as goal

pub serve_mounted-status-requires-clause-fine : goal.serve_mounted-status-requires-clause-fine
serve_mounted-status-requires-clause-fine g c = mounted_fine 0 (g.C.Clock.times c.args.clock) (g.S.Store.stored c.args.store) c.in-Ok.mount c.in-Ok.ensures.ok

pub returns-in-Ok : goal.returns-in-Ok
returns-in-Ok g c =
    let e : Ends = ends_of (g.C.Clock.times c.args.clock) (g.O.Sink.taking c.args.out.now) (g.O.Sink.taking c.serve_mounted-status.new.out) (g.S.Store.stored c.args.store) (option_map g.S.Store.stored c.ends.result.store) in
    runs_so c.args.actors.now (g.I.Frames.given c.args.input.now) (g.I.Frames.given c.serve_mounted-status.new.input) e c.ends.result.status c.serve_mounted-status.result c.in-Ok.mount c.serve_mounted-status.new.mount (g.S.Store.stored c.close.result)
    (ap (option_map g.S.Store.stored) c.ends.ensures.store) c.in-Ok.ensures.ok c.close.ensures c.ends.ensures.status c.serve_mounted-status.ensures.runs

pub returns-in-Err : goal.returns-in-Err
returns-in-Err g c =
    let e : Ends = ends_of (g.C.Clock.times c.args.clock) (g.O.Sink.taking c.args.out.now) (g.O.Sink.taking c.args.out.now) (g.S.Store.stored c.args.store) (option_map g.S.Store.stored c.ends-in-Err.result.store) in
    not_run_so c.args.actors.now (g.I.Frames.given c.args.input.now) e c.ends-in-Err.result.status c.unmounted_status.result c.in-Err.trouble (g.S.Store.stored c.in-Err.store)
    (ap (option_map g.S.Store.stored) c.ends-in-Err.ensures.store) c.in-Err.ensures.err refl c.ends-in-Err.ensures.status c.unmounted_status.ensures
