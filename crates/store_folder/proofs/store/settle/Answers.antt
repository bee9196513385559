use Rattle.std.proofs.Common.{◌∙◌, ℕ, ◌≤◌, refl, subst}
use Rattle.plfs_types.specs.Counts.{HasRisen}
use Rattle.store_folder.proofs.store.settle.Goals as goal

pub returns-in-Err-Failed-clause-told : goal.returns-in-Err-Failed-clause-told
returns-in-Err-Failed-clause-told g c step =
    let acted = c.count_act-in-Err-Failed.ensures in
    let faulted = c.count_fault.ensures in
    let RisesTo : ℕ → Type 0 = λ faults. HasRisen faults c.count_fault.new.self.faults in
    let IsBelow : ℕ → Type 0 = λ faults. faults ≤ c.count_fault.new.self.faults in
    record {
      tree = refl;
      acts = faulted.same ∙ acted.risen;
      faults = subst IsBelow acted.same faulted.never_falls;
      cause = subst RisesTo acted.same faulted.cause;
    }
