use Rattle.std.proofs.Common.{None, Some, ◌≡◌, sym, ◌∙◌, subst, rules}
use Rattle.std.specs.Option.{option_map}
use Rattle.command_line.specs.Commands.{IsCommand}
use Rattle.command_line.specs.declared.commands.Command.{Command}
use Rattle.command_line.specs.declared.commands.Command.TheVariants.{Run}
use Rattle.program_ends.specs.Ends.{ends_of, Ends}
use Rattle.plfs_program.proofs.Courses.CourseLaws.{goes_as_before, same_command}
use Rattle.plfs_program.proofs.running.follow.Goals as goal

pub returns-in_default-command : goal.returns-in_default-command
returns-in_default-command g c =
    let e : Ends = ends_of (g.C.Clock.times c.args.clock) (g.O.Sink.taking c.args.out.now) (g.O.Sink.taking c.refuse.new.out) (g.S.Store.stored c.args.store) (option_map g.S.Store.stored c.refuse.result.store) in
    goes_as_before c.args.words.now (g.I.Input.given c.args.input.now) (g.I.Input.given c.args.input.now) e c.refuse.result.status
    (λ spelled. let bad : None ≡ Some Run = sym c.in_default-command.is ∙ c.in-Ok.ensures.exact Run spelled in cc)
    (c.refuse.ensures c.args.words.now _ _ (λ command built spelled. let bad : None ≡ Some command = sym c.in_default-command.is ∙ c.in-Ok.ensures.exact command spelled in cc))

pub returns-then-is_run : goal.returns-then-is_run
returns-then-is_run g c =
    let so : c.in-Some.command ≡ Run = c.is_run.ensures.run (search rules) in
    c.run.ensures c.args.words.now (subst (λ (command : Command). IsCommand c.args.words.now command) so (rw c.in-Some.is at c.in-Ok.ensures.found))

pub returns-else-is_run : goal.returns-else-is_run
returns-else-is_run g c =
    let e : Ends = ends_of (g.C.Clock.times c.args.clock) (g.O.Sink.taking c.args.out.now) (g.O.Sink.taking c.obey.new.out) (g.S.Store.stored c.args.store) (option_map g.S.Store.stored c.obey.result.store) in
    goes_as_before c.args.words.now (g.I.Input.given c.args.input.now) (g.I.Input.given c.obey.new.input) e c.obey.result.status
    (λ spelled. let same : Some Run ≡ Some c.in-Some.command = sym (c.in-Ok.ensures.exact Run spelled) ∙ c.in-Some.is in c.is_run.ensures.other (search rules) (sym (same_command Run c.in-Some.command same)))
    (c.obey.ensures c.args.words.now (rw c.in-Some.is at c.in-Ok.ensures.found) (λ other spelled. let same : Some other ≡ Some c.in-Some.command = sym (c.in-Ok.ensures.exact other spelled) ∙ c.in-Some.is in cc))
