-- What is found wrong of a part is found of the whole.
use Rattle.std.proofs.Common.{◌≡◌, Bool, true, false, Result, Ok, Err, sym, ◌∙◌}
use Rattle.std.specs.Prelude.{IfErr, IsTrue}
use Rattle.std.proofs.lemmas.Bool.{false≢true}
use Rattle.store_api.specs.declared.tree.Tree.{Tree}
use Rattle.store_api.specs.Acts.{Stored}
use Rattle.shape_check.specs.declared.finding.Finding.{Finding}
use Rattle.shape_check.specs.declared.finding.Finding.TheVariants.{NoMemory}
use Rattle.shape_check.specs.Rightness.{Fails}
use Rattle.shape_check.specs.Seeing.{IsSeen, IsLookedAt}
use Rattle.shape_check.proofs.Facts.{no_memory, risen_on, seen_on}

-- Q holds wherever P does, of what the store shows
abbrev pub Gives : Stored → (Tree → Type 0) → (Tree → Type 0) → Type 0
Gives stored P Q = (tree : Tree) → IsSeen stored tree → P tree → Q tree

pub fails_for : (P Q : Tree → Type 0) (old mid new : Stored) (finding : Finding) → Gives old P Q → IsLookedAt old mid → Fails Q mid new finding → Fails P old new finding
fails_for P Q old mid new finding gives looked f = record {
  cause = λ e. risen_on old.faults mid.faults new.faults looked.counted (f.cause e);
  right = λ tree seen has. f.right tree (seen_on old mid tree looked seen) (gives tree seen has);
}

pub all_fail_for : {A : Type 0} (P Q : Tree → Type 0) (old mid new : Stored) (result : Result A Finding) → Gives old P Q → IsLookedAt old mid → IfErr result (Fails Q mid new) → IfErr result (Fails P old new)
all_fail_for P Q old mid new (Ok value) gives looked f = tt
all_fail_for P Q old mid new (Err finding) gives looked f = fails_for P Q old mid new finding gives looked f

-- want of memory is no fault
pub none_left : {A : Type 0} (P : Tree → Type 0) (old new : Stored) (result : Result A Finding) → IfErr result (λ finding. finding ≡ NoMemory) → IfErr result (Fails P old new)
none_left P old new (Ok value) none = tt
none_left P old new (Err finding) none = no_memory P old new finding none

-- an answer of no is none of yes
pub denied : (is : Bool) → is ≡ false → IsTrue is → ⊥
denied is e holds = let so : is ≡ true = holds in false≢true (sym e ∙ so)
