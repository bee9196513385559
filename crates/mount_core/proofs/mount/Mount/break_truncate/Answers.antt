use Rattle.std.proofs.Common.{refl, sym, ◌∙◌}
use Rattle.mount_core.proofs.Truncating.{not_asked}
use Rattle.mount_core.proofs.mount.Mount.break_truncate.Goals as goal

pub returns-in-None : goal.returns-in-None
returns-in-None g c = let nobody = sym c.holder_of.ensures ∙ c.in-None.is in rw (← c.self.view_is) (not_asked _ _ _ _ _ (rw nobody refl))
