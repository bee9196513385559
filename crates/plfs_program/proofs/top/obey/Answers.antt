use Rattle.std.proofs.Common.{subst}
use Rattle.command_line.specs.Commands.{IsCommand}
use Rattle.plfs_program.specs.Commands.{IsBuiltCommand}
use Rattle.plfs_program.proofs.top.obey.Goals as goal

pub returns-in_default-built : goal.returns-in_default-built
returns-in_default-built g c words are one = c.refuse.ensures words _ _ (λ other built spelled. (rw c.in_default-built.is at c.in-Ok.ensures.other) (subst IsBuiltCommand (one other spelled) built))

pub returns-in-Play : goal.returns-in-Play
returns-in-Play g c words are one =
    let so = rw c.in-Play.is at (rw c.in-Some.is at c.in-Ok.ensures.same) in
    c.play.ensures words (subst (λ command. IsCommand words command) so are)

pub returns-in-Cat : goal.returns-in-Cat
returns-in-Cat g c words are one =
    let so = rw c.in-Cat.is at (rw c.in-Some.is at c.in-Ok.ensures.same) in
    c.cat.ensures words (subst (λ command. IsCommand words command) so.0 are)

pub returns-in-Migrate : goal.returns-in-Migrate
returns-in-Migrate g c words are one =
    let so = rw c.in-Migrate.is at (rw c.in-Some.is at c.in-Ok.ensures.same) in
    c.migrate.ensures words (subst (λ command. IsCommand words command) so are)

pub returns-in-Unpack : goal.returns-in-Unpack
returns-in-Unpack g c words are one =
    let so = rw c.in-Unpack.is at (rw c.in-Some.is at c.in-Ok.ensures.same) in
    c.unpack.ensures words (subst (λ command. IsCommand words command) so are)

pub returns-in-Names : goal.returns-in-Names
returns-in-Names g c words are one =
    let so = rw c.in-Names.is at (rw c.in-Some.is at c.in-Ok.ensures.same) in
    c.names.ensures words (subst (λ command. IsCommand words command) so are)

pub returns-in-Planned : goal.returns-in-Planned
returns-in-Planned g c words are one = c.play_plan.ensures words c.args.command are (rw c.in-Planned.is at (rw c.in-Some.is at c.in-Ok.ensures.same)).0

pub pack-requires : goal.pack-requires
pack-requires g c = (rw c.in-Pack.is at (rw c.in-Some.is at c.in-Ok.ensures.same)).1

pub returns-in-Pack : goal.returns-in-Pack
returns-in-Pack g c words are one =
    let so = rw c.in-Pack.is at (rw c.in-Some.is at c.in-Ok.ensures.same) in
    c.pack.ensures words (subst (λ command. IsCommand words command) so.0 are)
