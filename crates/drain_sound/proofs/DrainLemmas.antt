-- A store that holds a target holds one while a drain goes on.
use Rattle.std.proofs.Common.{◌≡◌, ℕ, List, [], ◌∷◌, Some, ap, sym}
use Rattle.std.specs.Prelude.{Err, Ok, Result}
use Rattle.store_api.specs.declared.step.Answer.{Answer}
use Rattle.store_api.specs.declared.store.Trouble.{Trouble}
use Rattle.store_api.specs.declared.store.Trouble.TheVariants.{Fault, NoMemory}
use Rattle.store_api.specs.declared.tree.Tree.{Tree}
use Rattle.store_api.specs.Acts.{Stored}
use Rattle.store_api.specs.Effect.{Effect}
use Rattle.store_api.specs.Leaves.{MayLeave, not_made, whole}
use Rattle.store_api.specs.Loss.{Loses}
use Rattle.store_api.specs.Step.{Step}
use Rattle.store_laws.specs.Tells.{Tells}
use Rattle.store_laws.proofs.Facts.{acts_told}
use Rattle.mount_model.specs.Paths.{Name}
use Rattle.mount_sound.specs.Sound.{IsSoundTree}
use Rattle.mount_losses.specs.Losing.{LosesUnkept}
use Rattle.reader_laws.specs.Moments.{IsSoundAt, Moment, next_moment}
use Rattle.reader_laws.proofs.Gathered.Facts.{sound_after}
use Rattle.drain_sound.specs.Draining.{Happening, HoldsTarget, IsDraining, at_source, at_target, source_after, target_after}
use Rattle.drain_sound.specs.Fronts.{IsTarget}
use Rattle.drain_sound.proofs.LastsLemmas.{target_lasts}
use Rattle.drain_sound.proofs.LossLemmas.{lost_target}
use Rattle.drain_sound.proofs.StepLemmas.{step_target}

-- whatever is told of a step, the tree is one that it may leave
pub told_leaves : (x : Step) (tree after : Tree) (told : Result Answer Trouble) → Tells x tree told after → MayLeave tree x after
told_leaves x tree after (Ok answer) t = whole (sym (ap (λ (e : Effect). e.tree) t))
told_leaves x tree after (Err Fault) t = t
told_leaves x tree after (Err NoMemory) t = not_made t

module _ (number : ℕ) (name : Name) (losses : (tree lost : Tree) → Loses tree lost → (s : IsSoundTree tree) → LosesUnkept s.issued tree lost) where
  holds : (source : Moment) (store : Stored) (tree : Tree) → store.tree ≡ Some tree → IsTarget source number name tree → HoldsTarget source number name store
  holds source store tree told t = record {
    tree = tree;
    told = told;
    target = t;
    lost = λ left l. lost_target source number name tree left (losses tree left l) t l;
  }

  pub drain_holds : (source : Moment) (store : Stored) (happened : List Happening) → IsSoundAt source → HoldsTarget source number name store → IsDraining source number name store happened → HoldsTarget (source_after source happened) number name (target_after store happened)
  drain_holds source store [] s h d = h
  drain_holds source store (at_source event ∷ rest) s h d =
      drain_holds (next_moment source event) store rest (sound_after source (event ∷ []) d.0 s)
      (holds (next_moment source event) store h.tree h.told (target_lasts source number name h.tree (event ∷ []) d.0 s h.target)) d.1
  drain_holds source store (at_target act ∷ rest) s h d =
      let a = acts_told act.step store act.after h.tree act.answer h.told d.0 in
      drain_holds source act.after rest s
      (holds source act.after a.0 a.1 (step_target source number name h.tree a.0 act.step s h.target (d.1 h.tree h.told) (told_leaves act.step h.tree a.0 act.answer a.2))) d.2
