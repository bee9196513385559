use Rattle.std.proofs.Common.{rules}
use Rattle.mount_core.proofs.Logical.{logical_kept}
use Rattle.mount_core.proofs.finding.logical.Goals as goal

pub returns : goal.returns
returns c = rw (c.from_vec.ensures, ← c.into_vec-names.ensures) (logical_kept _ (λ f name b g called. search rules) _ _ _ c.retain.ensures.filtered)
