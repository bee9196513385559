-- What a caller by itself does on a mount that was made of a store comes to one thing, where the faulted acts left the same.
use Rattle.std.proofs.Common.{◌≡◌, ℕ, ◌-◌, ◌<◌, ◌≤◌, ◌^◌, inl, inr, List, [], ◌∷◌, Option, Some, sym, ap, ◌∙◌, refl, subst, arith}
use Rattle.std.specs.List.{AllByRecursion}
use Rattle.plfs_types.specs.Counts.{HasRisen}
use Rattle.store_api.specs.Acts.{Stored}
use Rattle.script_lang.specs.declared.line.Outcome.{Outcome}
use Rattle.mount_model.specs.State.{State}
use Rattle.mount_model.specs.History.{Event, state_after}
use Rattle.mount_model.specs.Mounting.{IsMounted}
use Rattle.mount_model.specs.Failing.{FailsToMount}
use Rattle.mount_model.specs.declared.mount_trouble.MountTrouble.{MountTrouble}
use Rattle.step_laws.specs.Alike.{IsTold, StillCounts}
use Rattle.step_laws.proofs.Facts.{fails_one, fails_rise, mounts_or_fails, mounts_one, mounted_faults, mounted_tells}
use Rattle.program_ends.specs.Mounting.{unmounted_of}
use Rattle.plfs_program.specs.FaultedActs.{left_by_faulted, left_where_faulted}
use Rattle.plfs_program.proofs.Replays.FaultedActs.{faulted_so, later_acts, none_left, planned_from}
use Rattle.plfs_program.proofs.Replays.Replaying.{faults_rise}
use Rattle.plfs_program.proofs.SingleRuns.Mountings.{fault_is_why, left_alike, not_later}
use Rattle.plfs_program.proofs.SingleRuns.OneWay.{Doing, GoesOneWay}
use Rattle.plfs_program.proofs.SingleRuns.Twice.{tells_why, outcome_one}

-- The mounting broke off, of which that is said; or on the mount that was made this was done, and that is said of its result. The faulted acts left these
-- stores.
pub data CameTo {R S : Type 0} (Does : Doing R) (say : R → S) (bad : Outcome → S) (times : Option (List ℕ)) (before after : Stored) (said : S) (failures : List Stored) : Type 0 where
  broke : (why : MountTrouble) (outcome : Outcome) → FailsToMount before why after → unmounted_of why ≡ Some outcome → said ≡ bad outcome → left_where_faulted before after ≡ failures → CameTo Does say bad times before after said failures
  came : (start end : State) (calls : List Event) (r : R) → IsMounted 0 times before start → Does start calls r end → end.store ≡ after → said ≡ say r → left_by_faulted start.store calls ≡ failures → CameTo Does say bad times before after said failures

module _ {R S : Type 0} (Does : Doing R) (say : R → S) (bad : Outcome → S) (times : List ℕ) (before after other : Stored) (told : IsTold before) (room : before.faults < 2 ^ 64 - 1) (goes : GoesOneWay Does) (failures : List Stored) (still : AllByRecursion StillCounts failures) where
  start_room : (start : State) → IsMounted 0 (Some times) before start → start.store.faults < 2 ^ 64 - 1
  start_room start mounted = subst (λ n. n < 2 ^ 64 - 1) (sym (mounted_faults 0 (Some times) before start mounted)) room

  -- two mountings broke off for one reason
  why_one : (a b : MountTrouble) (first second : Outcome) → FailsToMount before a after → FailsToMount before b other → unmounted_of a ≡ Some first → unmounted_of b ≡ Some second → left_where_faulted before after ≡ left_where_faulted before other → (a ≡ b) × (after ≡ other)
  why_one a b first second failed failed_too is is_too same = elim (left_alike before after other same).alike as (λ _. (a ≡ b) × (after ≡ other)) [
    | inl quiet ↦ fails_one before told room after other a b quiet.0 quiet.1 (tells_why a first is) (tells_why b second is_too) failed failed_too
    | inr risen ↦ (
      fault_is_why before after a risen.0 failed ∙ sym (fault_is_why before other b (λ e. risen.0 (ap (λ (s : Stored). s.faults) risen.1 ∙ e)) failed_too),
      risen.1,
    )
  ]

  -- where one broke off the other made no mount
  broke_or_came : (left : Stored) (why : MountTrouble) (outcome : Outcome) (start end : State) (calls : List Event) (r : R) → FailsToMount before why left → unmounted_of why ≡ Some outcome → left_where_faulted before left ≡ failures
      → IsMounted 0 (Some times) before start → Does start calls r end → left_by_faulted start.store calls ≡ failures → ⊥
  broke_or_came left why outcome start end calls r failed is fails mounted does fails_too =
      faulted_so before left (λ z. z ≡ failures → ⊥)
      (λ quiet e. mounts_or_fails before told room left why quiet (tells_why why outcome is) 0 (Some times) start mounted failed)
      (λ risen e.
      let lead = goes.leads start calls r end does in
      let alone : failures ≡ left ∷ [] = sym e in
      let its : left_by_faulted start.store calls ≡ left ∷ [] = fails_too ∙ alone in
      let few : AllByRecursion StillCounts (left ∷ []) = subst (λ z. AllByRecursion StillCounts z) alone still in
      let later = later_acts start calls (mounted_tells 0 times before start told mounted) (start_room start mounted) lead.lawful lead.memory (subst (λ z. AllByRecursion StillCounts z) (sym its) few) in
      let here : AllByRecursion (λ (s : Stored). start.store.acts < s.acts) (left ∷ []) = subst (λ z. AllByRecursion (λ (s : Stored). start.store.acts < s.acts) z) its later in
      not_later (Some times) before left why start few.0 failed mounted here.0) fails

  pub came_one : (said too : S) → CameTo Does say bad (Some times) before after said failures → CameTo Does say bad (Some times) before other too failures → (said ≡ too) × (after ≡ other)
  came_one said too (broke a first failed is says fails) (broke b second failed_too is_too says_too fails_too) =
      let one = why_one a b first second failed failed_too is is_too (fails ∙ sym fails_too) in
      (says ∙ ap bad (outcome_one a b first second one.0 is is_too) ∙ sym says_too, one.1)
  came_one said too (broke a first failed is says fails) (came start end calls r mounted does left says_too fails_too) = absurd (broke_or_came after a first start end calls r failed is fails mounted does fails_too)
  came_one said too (came start end calls r mounted does left says fails) (broke b second failed_too is_too says_too fails_too) = absurd (broke_or_came other b second start end calls r failed_too is_too fails_too mounted does fails)
  came_one said too (came start end calls r mounted does left says fails) (came first last others s mounted_too does_too left_too says_too fails_too) =
      let is : start ≡ first = mounts_one 0 (Some times) before start first told mounted mounted_too in
      let P : State → Type 0 = λ z. Does z others s last × (left_by_faulted z.store others ≡ failures) in
      let again : Does start others s last × (left_by_faulted start.store others ≡ failures) = subst P (sym is) (does_too, fails_too) in
      let tells = mounted_tells 0 times before start told mounted in
      let less = start_room start mounted in
      let plan = planned_from failures still in
      let a = goes.leads start calls r end does in
      let b = goes.leads start others s last again.0 in
      let one = goes.one plan.plan plan.counts start calls others r s end last tells less (plan.keeps start calls tells less a.lawful a.memory fails) (plan.keeps start others tells less b.lawful b.memory again.1) does again.0 in
      (says ∙ ap say one.0 ∙ sym says_too, sym left ∙ ap (λ (z : State). z.store) one.1 ∙ left_too)

-- ---- where no count of the store has risen, no act faulted

as_before : (before after : ℕ) → before ≤ after → (HasRisen before after → ⊥) → after ≡ before
as_before before after rises none =
    let within : before < after → ⊥ = λ more. none (inl more) in
    omega (arith, rises, within)

pub came_quiet : {R S : Type 0} (Does : Doing R) (say : R → S) (bad : Outcome → S) (times : Option (List ℕ)) (before after : Stored) (said : S) (failures : List Stored) → GoesOneWay Does → (HasRisen before.faults after.faults → ⊥)
    → CameTo Does say bad times before after said failures → failures ≡ []
came_quiet Does say bad times before after said failures goes none (broke why outcome failed is says fails) =
    sym fails ∙ faulted_so before after (λ z. z ≡ []) (λ same. refl) (λ risen. absurd (risen (as_before before.faults after.faults (fails_rise before after why failed) none)))
came_quiet Does say bad times before after said failures goes none (came start end calls r mounted does left says fails) =
    let lead = goes.leads start calls r end does in
    let up = faults_rise start calls lead.lawful in
    let here : (state_after start calls).store.faults ≡ after.faults = ap (λ (s : State). s.store.faults) lead.ends ∙ ap (λ (s : Stored). s.faults) left in
    let first : start.store.faults ≡ before.faults = mounted_faults 0 times before start mounted in
    let more : before.faults ≤ after.faults = omega (arith, up, here, first) in
    sym fails ∙ none_left start calls lead.lawful (here ∙ as_before before.faults after.faults more none ∙ sym first)
