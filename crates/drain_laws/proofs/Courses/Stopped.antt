-- Why a drain ended before it was through.
use Rattle.std.proofs.Common.{◌≡◌, ℕ, true, false, List, [], Some, sym, ◌∙◌, subst}
use Rattle.std.specs.Prelude.{Err}
use Rattle.store_api.specs.declared.tree.Tree.{Tree}
use Rattle.store_api.specs.Acts.{Stored}
use Rattle.mount_model.specs.declared.reply.Refusal.TheVariants.{NoRoom}
use Rattle.mount_model.specs.Paths.{Name}
use Rattle.container_layout.specs.Paths.{openhosts}
use Rattle.mount_model.specs.declared.stuck.Stuck.TheVariants as stuck
use Rattle.reader_laws.specs.Moments.{IsSoundAt, Moment}
use Rattle.drain_copy.specs.declared.outcome.DrainStuck.{DrainStuck}
use Rattle.drain_copy.specs.declared.outcome.DrainStuck.TheVariants.{Source, Taken, TargetDamaged, TargetFault}
use Rattle.drain_copy.specs.Asking.{ends}
use Rattle.drain_copy.specs.Draining.{drain_program}
use Rattle.drain_copy.specs.Planning.{taken}
use Rattle.drain_copy.specs.Telling.{DrainsOn}
use Rattle.drain_sound.specs.Draining.{Happening, target_after}
use Rattle.drain_sound.specs.Fronts.{IsTarget}
use Rattle.drain_laws.specs.Driving.{AreMade, Drives, FindsRoom}
use Rattle.drain_laws.specs.Ending.{HasOpenhosts, IsTaken, LacksOpenhosts, WhyEnded, no_container, no_openhosts, source_failed, target_failed, was_taken}
use Rattle.drain_laws.proofs.Courses.Course.{HasBegun, HasStoppedBy, halted, stopped, stopped_in, took}
use Rattle.drain_laws.proofs.Courses.Sought.{HaltsBy}
use Rattle.drain_laws.proofs.Courses.Taken.{taken_so}
use Rattle.drain_laws.proofs.Planning.Aims.{IsFair}

module _ (caller number : ℕ) (name : Name) (source : Moment) (s : IsSoundAt source) (t : Tree) (target : IsTarget source number name t) (store : Stored) (told : store.tree ≡ Some t) (happened : List Happening) (made : AreMade source store happened) (finds : FindsRoom caller number happened) (left : DrainsOn) (drives : Drives caller (drain_program name) happened left) where
  abbrev Why : DrainStuck → Type 0
  Why why = WhyEnded caller number name source store happened why

  why_halted : (why : DrainStuck) → HaltsBy caller name source happened why → Why why
  why_halted TargetFault h = target_failed
  why_halted (Source stuck.Fault) h = source_failed
  why_halted (Source (stuck.Refused NoRoom)) h = no_container h
  why_halted (Source (stuck.Refused why)) h = absurd h
  why_halted (Source (stuck.Damaged folder file place)) h = absurd h
  why_halted (TargetDamaged folder file place) h = absurd h
  why_halted (Taken writer there here) h = absurd h

  why_fair : (after : Tree) → (target_after store happened).tree ≡ Some after → (why : DrainStuck) → IsFair name after why → Why why
  why_fair after now TargetFault fair = target_failed
  why_fair after now (Source stuck.Fault) fair = source_failed
  why_fair after now (Source (stuck.Refused why)) fair = absurd fair
  why_fair after now (Source (stuck.Damaged folder file place)) fair = absurd fair
  why_fair after now (TargetDamaged folder file place) (folder_is, file_is, place_is, lacks) =
      subst (λ f. Why (TargetDamaged f file place)) (sym folder_is) (subst (λ f. Why (TargetDamaged openhosts f place)) (sym file_is) (subst (λ p. Why (TargetDamaged openhosts [] p)) (sym place_is) (no_openhosts after now lacks)))
  why_fair after now (Taken writer there here) fair = absurd fair

  why_taken : (b : HasBegun caller number name source s t target store told happened made finds left drives) (why : DrainStuck) → taken b.read.held b.read.contained.writers ≡ Some why → Why why
  why_taken b (Taken writer there here) e = was_taken writer there here (taken_so caller number name source s t target store told happened made finds left drives b (Taken writer there here) e)
  why_taken b why e = absurd (taken_so caller number name source s t target store told happened made finds left drives b why e)

  pub why_ended : (why : DrainStuck) → left ≡ ends (Err why) → Why why
  why_ended why is = by_stop (stopped caller number name source s t target store told happened made finds left drives why is)
    where
      by_stop : HasStoppedBy caller number name source s t target store told happened made finds left drives why → Why why
      by_stop (halted h) = why_halted why h
      by_stop (took b e) = why_taken b why e
      by_stop (stopped_in after now fair) = why_fair after now why fair

-- ---- what a reason says

module _ (caller number : ℕ) (name : Name) (source : Moment) (store : Stored) (happened : List Happening) where
  -- of a writer that was taken
  abbrev TakenBy : DrainStuck → Type 0
  TakenBy (Taken writer there here) = IsTaken caller number name source store happened writer there here
  TakenBy why = Unit {0}

  taken_by : (why : DrainStuck) → WhyEnded caller number name source store happened why → TakenBy why
  taken_by why source_failed = tt
  taken_by why target_failed = tt
  taken_by why (no_container none) = tt
  taken_by why (no_openhosts tree now lacks) = tt
  taken_by why (was_taken writer there here is) = is

  pub its_taken : (writer there here : ℕ) → WhyEnded caller number name source store happened (Taken writer there here) → IsTaken caller number name source store happened writer there here
  its_taken writer there here why = taken_by (Taken writer there here) why

  -- of damage at the target
  abbrev LackingBy : DrainStuck → Type 0
  LackingBy (TargetDamaged folder file place) = (tree : Tree) × ((target_after store happened).tree ≡ Some tree) × LacksOpenhosts name tree
  LackingBy why = Unit {0}

  lacking_by : (why : DrainStuck) → WhyEnded caller number name source store happened why → LackingBy why
  lacking_by why source_failed = tt
  lacking_by why target_failed = tt
  lacking_by why (no_container none) = tt
  lacking_by why (no_openhosts tree now lacks) = (tree, now, lacks)
  lacking_by why (was_taken writer there here is) = tt

  pub never_lacks : (folder file : Name) (place : ℕ) → HasOpenhosts name (target_after store happened) → WhyEnded caller number name source store happened (TargetDamaged folder file place) → ⊥
  never_lacks folder file place opens why =
      let (tree, now, lacks) = lacking_by (TargetDamaged folder file place) why in
      let clash : true ≡ false = sym (opens tree lacks.n lacks.room now lacks.at) ∙ lacks.none in
      cc
