use Rattle.std.proofs.Common.{refl}
use Rattle.index_pack.proofs.ReachedLemmas.{is_valid, valid_well}
use Rattle.index_pack.proofs.unpacking.passed.Goals as goal

pub returns-in_default-clause-none : goal.returns-in_default-clause-none
returns-in_default-clause-none c =
    λ valid. c.in_default.ensures.none (valid_well _ _ _ c.run_at-run.result _ _ c.run_at-run.ensures valid)

pub returns-clause-valid : goal.returns-clause-valid
returns-clause-valid c =
    is_valid _ _ _ c.run_at-run.result _ _ c.run_at-run.ensures c.in-Some.ensures.well (c.if-not-is_longest.ensures.0 refl)
