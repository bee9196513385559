-- The steps of one writer.
use Rattle.std.proofs.Common.{◌≡◌, ◌<◌, ◌-◌, ℕ, zero, suc, refl, arith}
use Rattle.drain_copy.specs.declared.stages.Making.{Making}
use Rattle.drain_copy.specs.declared.stages.Making.TheVariants.{Entry, Hostdir, Index, Log, LogKept, IndexKept}
use Rattle.drain_copy.specs.declared.work.Work.{Work}
use Rattle.drain_copy.specs.Asking.{acts}
use Rattle.drain_copy.specs.Stages.{making_program, making_rest, making_step}

-- the step, and what follows its answer, are what is to be made and all that follows
pub making_same : (making : Making) (work : Work) → acts (making_step making work.copying) (making_rest making work) ≡ making_program making work
making_same Entry work = refl
making_same Hostdir work = refl
making_same Index work = refl
making_same Log work = refl
making_same LogKept work = refl
making_same IndexKept work = refl

-- where parts are left there is a next one
pub some_parts : (n : ℕ) → 0 < n → n ≡ suc (n - 1)
some_parts zero some = absurd (omega arith)
some_parts (suc n) some = omega arith
