use Rattle.std.proofs.Common.{None, Some, ◌≡◌, sym, ◌∙◌}
use Rattle.plfs_program.proofs.top.follow.Goals as goal

pub returns-in_default-command : goal.returns-in_default-command
returns-in_default-command g c = c.refuse.ensures c.args.words.now _ _ (λ command built spelled. let bad : None ≡ Some command = sym c.in_default-command.is ∙ c.in-Ok.ensures.exact command spelled in cc)

pub returns : goal.returns
returns g c = c.obey.ensures c.args.words.now (rw c.in-Some.is at c.in-Ok.ensures.found) (λ other spelled. let same : Some other ≡ Some c.in-Some.command = sym (c.in-Ok.ensures.exact other spelled) ∙ c.in-Some.is in cc)
