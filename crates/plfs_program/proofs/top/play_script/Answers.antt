use Rattle.std.proofs.Common.{ap, sym}
use Rattle.std.specs.Option.{option_map}
use Rattle.program_ends.specs.Ends.{ends_of, Ends}
use Rattle.plfs_program.specs.Showing.{shows_of}
use Rattle.plfs_program.specs.Ways.{by_turns}
use Rattle.plfs_program.proofs.Courses.CourseLemmas.{reported}
use Rattle.plfs_program.proofs.top.play_script.Goals as goal

pub returns : goal.returns
returns g c =
    let e : Ends = ends_of (g.C.Clock.times c.args.clock) (g.O.Sink.taking c.args.out.now) (g.O.Sink.taking c.report-status.new.out) (g.S.Store.stored c.args.store) (option_map g.S.Store.stored c.ends-2.result.store) in
    reported by_turns c.args.script.now (shows_of c.args.shown) c.in-Ok.lines e c.ends-2.result.status (g.S.Store.stored c.work-store.result.store)
    (ap (option_map g.S.Store.stored) c.ends-2.ensures.store)
    c.work-store.ensures.left (rw c.in-Ok.is at c.work-store.ensures.in_turn) (rw c.in-Ok.is at c.work-store.ensures.cause) (rw c.in-Ok.is at c.work-store.ensures.undamaged)
    (rw (sym c.ends-2.ensures.status) at c.report-status.ensures.told)
