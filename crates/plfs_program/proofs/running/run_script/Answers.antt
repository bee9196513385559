use Rattle.std.proofs.Common.{ap, sym}
use Rattle.std.specs.Option.{option_map}
use Rattle.program_ends.specs.Ends.{ends_of, Ends}
use Rattle.plfs_program.specs.Showing.{all_lines}
use Rattle.plfs_program.specs.Ways.{on_threads}
use Rattle.plfs_program.proofs.Courses.CourseLemmas.{reported}
use Rattle.plfs_program.proofs.running.run_script.Goals as goal

pub returns : goal.returns
returns g c =
    let e : Ends = ends_of (g.C.Clock.times c.args.clock) (g.O.Sink.taking c.args.out.now) (g.O.Sink.taking c.report-status.new.out) (g.S.Store.stored c.args.store) (option_map g.S.Store.stored c.ends-2.result.store) in
    reported on_threads c.args.script.now all_lines c.in-Ok.lines e c.ends-2.result.status (g.S.Store.stored c.work_on_threads-store.result.store)
    (ap (option_map g.S.Store.stored) c.ends-2.ensures.store)
    c.work_on_threads-store.ensures.left (rw c.in-Ok.is at c.work_on_threads-store.ensures.right) (rw c.in-Ok.is at c.work_on_threads-store.ensures.cause) (rw c.in-Ok.is at c.work_on_threads-store.ensures.undamaged)
    (rw (sym c.ends-2.ensures.status) at c.report-status.ensures.told)
