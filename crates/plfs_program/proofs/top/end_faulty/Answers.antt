use Rattle.std.proofs.Common.{rules, ◌∙◌}
use Rattle.std.specs.Option.{option_map}
use Rattle.program_ends.specs.Ends.{ends_of, Ends}
use Rattle.plfs_program.specs.Course.{faulty}
use Rattle.plfs_program.specs.Faults.{fault_line}
use Rattle.plfs_program.proofs.Courses.CourseLemmas.{said_as}
use Rattle.plfs_program.proofs.top.end_faulty.Goals as goal

pub returns : goal.returns
returns g c way bytes times reads =
    let e : Ends = ends_of times (g.O.Sink.taking c.args.out.now) (g.O.Sink.taking c.say.new.out) (g.S.Store.stored c.args.store) (option_map g.S.Store.stored c.ends-2.result.store) in
    faulty (record { line = c.args.line; kind = c.args.kind }) reads (search (rules, c.ends-2.ensures.store))
    (said_as (fault_line c.args.line c.args.kind) c.deref.result.now e (c.deref.ensures.value ∙ c.in-Ok.ensures) c.say.ensures) c.ends-2.ensures.status
