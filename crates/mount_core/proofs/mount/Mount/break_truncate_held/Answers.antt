use Rattle.std.proofs.Common.{refl, sym, ◌∙◌}
use Rattle.mount_core.proofs.Truncating.{not_asked}
use Rattle.mount_core.proofs.mount.Mount.break_truncate_held.Goals as goal

pub returns-in-Some : goal.returns-in-Some
returns-in-Some g c = let refused = sym c.truncate_check.ensures.same ∙ c.in-Some.is in not_asked _ _ _ _ _ (rw refused refl)
