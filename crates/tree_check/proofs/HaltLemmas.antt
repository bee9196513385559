-- Why a check was broken off, by what was found.
use Rattle.std.proofs.Common.{◌≡◌, inl, inr, Result, Ok, Err, refl, sym, ◌∙◌, subst}
use Rattle.std.specs.Prelude.{IfErr}
use Rattle.store_api.specs.declared.tree.Tree.{Tree}
use Rattle.store_api.specs.Acts.{Stored}
use Rattle.shape_check.specs.declared.finding.Finding.{Finding}
use Rattle.shape_check.specs.Rightness.{Fails}
use Rattle.tree_check.specs.declared.halting.Halt.{Halt}
use Rattle.tree_check.specs.declared.halting.Halt.TheVariants.{Fault, NoMemory, Untold}
use Rattle.tree_check.specs.Halting.{Halts, IsHaltOf, finding_of_halt}

module _ (P : Tree → Type 0) (old new : Stored) where
  found_so : (halt : Halt) → Fails P old new (finding_of_halt halt) → Halts P old new halt
  found_so Fault f = record { cause = λ e. f.cause refl; told = λ tree seen has e. absurd (cc) }
  found_so NoMemory f = record { cause = λ e. absurd (cc); told = λ tree seen has e. absurd (cc) }
  found_so Untold f = record { cause = λ e. absurd (cc); told = λ tree seen has e. f.right tree seen has }

  pub halts_so : (finding : Finding) (halt : Halt) → finding ≡ finding_of_halt halt → Fails P old new finding → Halts P old new halt
  halts_so finding halt same f = found_so halt (subst (Fails P old new) same f)

  one_halts : (finding : Finding) (halt : Halt) → IsHaltOf finding halt → Fails P old new finding → Halts P old new halt
  one_halts finding halt (inl none) f = record {
    cause = λ e. (let clash : NoMemory ≡ Fault = sym none ∙ e in absurd (cc));
    told = λ tree seen has e. (let clash : NoMemory ≡ Untold = sym none ∙ e in absurd (cc));
  }
  one_halts finding halt (inr same) f = halts_so finding halt same f

  pub all_halt : {A : Type 0} (finding : Finding) (result : Result A Halt) → IfErr result (IsHaltOf finding) → Fails P old new finding → IfErr result (Halts P old new)
  all_halt finding (Ok value) why f = tt
  all_halt finding (Err halt) why f = one_halts finding halt why f
