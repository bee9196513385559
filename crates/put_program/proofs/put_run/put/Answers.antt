use Rattle.std.proofs.Common.{ap, refl, subst, sym}
use Rattle.std.specs.Option.{option_map}
use Rattle.store_api.specs.Acts.{Stored}
use Rattle.mount_sound.proofs.Facts.{mounted_fine}
use Rattle.program_ends.specs.Ends.{Ends, ends_of}
use Rattle.put_program.specs.Putting.{PutsOn}
use Rattle.put_program.proofs.PutCourses.{not_put_so, put_so}
use Rattle.put_program.proofs.put_run.put.Goals as goal

pub put_mounted-status-requires : goal.put_mounted-status-requires
put_mounted-status-requires g c = mounted_fine 0 (g.C.Clock.times c.args.clock) (g.S.Store.stored c.args.store) c.in-Ok.mount c.in-Ok.ensures.ok

pub returns-in-Ok : goal.returns-in-Ok
returns-in-Ok g c =
    let e : Ends = ends_of (g.C.Clock.times c.args.clock) (g.O.Sink.taking c.args.out.now) (g.O.Sink.taking c.put_mounted-status.new.out) (g.S.Store.stored c.args.store) (option_map g.S.Store.stored c.ends.result.store) in
    put_so c.args.name c.args.host c.args.over (g.I.Source.given c.args.input.now) (g.I.Source.given c.put_mounted-status.new.input) e c.ends.result.status c.in-Ok.mount c.put_mounted-status.new.mount (g.S.Store.stored c.close.result)
    (ap (option_map g.S.Store.stored) c.ends.ensures.store) c.in-Ok.ensures.ok c.close.ensures (subst (λ (x : Stored). PutsOn x c.args.name c.args.host c.args.over c.in-Ok.mount (g.I.Source.given c.args.input.now) e.taking c.put_mounted-status.new.mount (g.I.Source.given c.put_mounted-status.new.input) e.taking_after c.ends.result.status)
    c.in-Ok.ensures.ok.opened_is (rw (sym c.ends.ensures.status) at c.put_mounted-status.ensures.puts))

pub returns-in-Err : goal.returns-in-Err
returns-in-Err g c =
    let e : Ends = ends_of (g.C.Clock.times c.args.clock) (g.O.Sink.taking c.args.out.now) (g.O.Sink.taking c.say_unmounted-status.new.out) (g.S.Store.stored c.args.store) (option_map g.S.Store.stored c.ends-in-Err.result.store) in
    not_put_so c.args.name c.args.host c.args.over (g.I.Source.given c.args.input.now) (g.I.Source.given c.args.input.now) e c.ends-in-Err.result.status c.in-Err.trouble (g.S.Store.stored c.in-Err.store)
    (ap (option_map g.S.Store.stored) c.ends-in-Err.ensures.store) c.in-Err.ensures.err c.in-Err.ensures.fault refl (rw (sym c.ends-in-Err.ensures.status) at c.say_unmounted-status.ensures)
