-- From a drain over a mount to the run that made it.
use Rattle.std.proofs.Common.{◌≡◌, ℕ, ◌⊎◌, inl, inr, List, Option, Some, Result, Ok, Err, refl, sym, ap, ◌∙◌, subst}
use Rattle.plfs_types.specs.Counts.{HasRisen}
use Rattle.plfs_types.specs.Names.{IsLogicalName}
use Rattle.store_api.specs.declared.store.Trouble.TheVariants.{Fault as ToldFault, NoMemory as ToldNoMemory}
use Rattle.store_api.specs.Acts.{Acts, Stored}
use Rattle.mount_model.specs.Failing.{FailsToMount}
use Rattle.mount_model.specs.Making.{Told}
use Rattle.mount_model.specs.Mounting.{IsMounted, marks_step, room_told}
use Rattle.mount_model.specs.Paths.{Name}
use Rattle.mount_model.specs.State.{State}
use Rattle.mount_model.specs.declared.mount_trouble.MountTrouble.{MountTrouble}
use Rattle.mount_model.specs.declared.mount_trouble.MountTrouble.TheVariants as trouble
use Rattle.mount_model.specs.declared.stuck.Stuck.TheVariants as stuck
use Rattle.script_lang.specs.declared.line.Line.{Line}
use Rattle.script_lang.specs.declared.line.Outcome.{Outcome}
use Rattle.script_lang.specs.declared.line.Outcome.TheVariants.{Fault}
use Rattle.report_text.specs.Text.{text_of}
use Rattle.program_ends.specs.Ends.{Ends}
use Rattle.program_ends.specs.Reported.{IsReported}
use Rattle.program_ends.specs.Mounting.{unmounted_of}
use Rattle.program_ends.specs.Outcomes.{status_of}
use Rattle.program_ends.specs.Output.{IsPrinted, IsCutOff}
use Rattle.program_ends.proofs.Facts.{SaidUnmounted}
use Rattle.drain_copy.specs.declared.outcome.Drained.{Drained}
use Rattle.drain_copy.specs.declared.outcome.DrainStuck.{DrainStuck}
use Rattle.drain_copy.specs.declared.outcome.DrainStuck.TheVariants.{Source, Taken, TargetDamaged, TargetFault}
use Rattle.drain_laws.specs.Faults.{EndsInFault}
use Rattle.drain_program.specs.Course.{DrainRun, DrainsOver, IsDrainLeft, IsDrainedAs, begun, broke_off, cut_off, ended_so, exhausted, mounted, printed, unmounted, was_begun}
use Rattle.drain_program.specs.Driven.{DrainsTo, moment_of}
use Rattle.drain_program.specs.Reporting.{DrainReport, drain_status, drain_text, had, report_of}
use Rattle.drain_program.proofs.StepLemmas.{all_had}
use Rattle.drain_program.proofs.OverLemmas.{drain_over}
use Rattle.drain_program.proofs.TargetLemmas.{DrainLaws, nothing_issued}

-- ---- faults

-- nothing failed in a mounting that was made
mounted_faults : (times : Option (List ℕ)) (opened : Stored) (start : State) → IsMounted 0 times opened start → start.store.faults ≡ opened.faults
mounted_faults times opened start m =
    let d = m.draws in
    d.marked.faults ∙ d.lists.faults ∙ roomed d.tells.told d.tells.made d.tells.tells
  where
    roomed : {room : ℕ} (told : Told) → Acts marks_step opened m.draws.roomed told → room_told told ≡ Some room → m.draws.roomed.faults ≡ opened.faults
    roomed (Ok answer) made tells = made.faults
    roomed (Err ToldFault) made tells = absurd (cc)
    roomed (Err ToldNoMemory) made tells = absurd (cc)

ends_in_fault : (outcome : Result Drained DrainStuck) → report_of outcome ≡ had Fault → EndsInFault outcome
ends_in_fault (Ok drained) told = absurd (cc)
ends_in_fault (Err (Source stuck.Fault)) told = tt
ends_in_fault (Err (Source (stuck.Damaged folder file place))) told = absurd (cc)
ends_in_fault (Err (Source (stuck.Refused why))) told = absurd (cc)
ends_in_fault (Err TargetFault) told = tt
ends_in_fault (Err (TargetDamaged folder file place)) told = absurd (cc)
ends_in_fault (Err (Taken writer there here)) told = absurd (cc)

unmounted_fault : (why : MountTrouble) (outcome : Outcome) → unmounted_of why ≡ Some outcome → had outcome ≡ had Fault → why ≡ trouble.Fault
unmounted_fault trouble.Fault outcome told is = refl
unmounted_fault (trouble.Damaged file) outcome told is = absurd (cc)
unmounted_fault trouble.NoMarks outcome told is = absurd (cc)
unmounted_fault trouble.Spent outcome told is = absurd (cc)
unmounted_fault trouble.NoMemory outcome told is = absurd (cc)

module _ (name : Name) (e : Ends) (target target_end : Stored) (status : ℕ) where
  -- what was said became of it
  said_so : (report : DrainReport) → IsDrainedAs name report e target target_end → IsDrainLeft name e target target_end → IsReported (drain_text report) (drain_status report) e.taking e.taking_after status → DrainRun name e target target_end status
  said_so report d left (inl (told, all)) = printed report d all told
  said_so report d left (inr (inl (told, part))) = cut_off report d part told
  said_so report d left (inr (inr (told, untold))) = exhausted left untold told

  -- ---- on a mount

  drained_cause : DrainLaws → (start end : State) (after : Stored) → IsMounted 0 e.times e.stored start → after ≡ end.store → (outcome : Result Drained DrainStuck) → DrainsTo name start target outcome end target_end → report_of outcome ≡ had Fault → HasRisen e.stored.faults after.faults ⊎ HasRisen target.faults target_end.faults
  drained_cause laws start end after made left outcome d told = elim (laws.faults 0 name (moment_of nothing_issued start) target d.happened outcome (d.driven.made nothing_issued) d.had_memory d.driven.drives (ends_in_fault outcome told)) as (λ _. HasRisen e.stored.faults after.faults ⊎ HasRisen target.faults target_end.faults) [
    | inl risen ↦
        let R : ℕ → ℕ → Type 0 = λ a b. HasRisen a b in
        inl (subst (λ a. R a after.faults) (mounted_faults e.times e.stored start made)
        (subst (λ b. R start.store.faults b) (ap (λ (s : State). s.store.faults) (d.driven.ends_source nothing_issued) ∙ ap (λ (s : Stored). s.faults) (sym left)) risen))
    | inr risen ↦ inr (subst (λ (s : Stored). HasRisen target.faults s.faults) d.driven.ends_target risen)
  ]

  pub drained_so : DrainLaws → IsLogicalName name → (start end : State) (after : Stored) → e.stored_after ≡ Some after → IsMounted 0 e.times e.stored start → after ≡ end.store → DrainsOver name start target e.taking end target_end e.taking_after status → DrainRun name e target target_end status
  drained_so laws logical start end after is made left (ended_so outcome d said) =
      let over = drain_over laws name logical e.times e.stored target start made d.happened _ end target_end d.driven after (sym left) in
      said_so (report_of outcome) (record { after = after; left = is; came = mounted outcome over d.had_memory refl; cause = drained_cause laws start end after made left outcome d }) (begun after is _ over (all_had d.happened d.had_memory)) said
  drained_so laws logical start end after is made left (was_begun b same told) =
      exhausted (begun after is b.left (drain_over laws name logical e.times e.stored target start made b.happened b.left end target_end b.driven after (sym left)) b.had_memory) same told

  -- ---- without a mount

  unmounted_as : (why : MountTrouble) (outcome : Outcome) (after : Stored) → e.stored_after ≡ Some after → FailsToMount e.stored why after → (why ≡ trouble.Fault → HasRisen e.stored.faults after.faults) → unmounted_of why ≡ Some outcome → target_end ≡ target → IsDrainedAs name (had outcome) e target target_end
  unmounted_as why outcome after is failed cause told same = record { after = after; left = is; came = unmounted why outcome failed told same refl; cause = λ bad. inl (cause (unmounted_fault why outcome told bad)) }

  pub not_drained_so : (why : MountTrouble) (after : Stored) → e.stored_after ≡ Some after → FailsToMount e.stored why after → (why ≡ trouble.Fault → HasRisen e.stored.faults after.faults) → target_end ≡ target → SaidUnmounted why e.taking e.taking_after status → DrainRun name e target target_end status
  not_drained_so why after is failed cause same (inl (lines, (outcome, told, only), said)) =
      let Says : List Line → Type 0 = λ z. ((status ≡ status_of z) × IsPrinted (text_of z) e.taking e.taking_after) ⊎ ((status ≡ 6) × IsCutOff (text_of z) e.taking e.taking_after) in
      let d : IsDrainedAs name (had outcome) e target target_end = unmounted_as why outcome after is failed cause told same in
      elim (subst Says only said) as (λ _. DrainRun name e target target_end status) [
        | inl all ↦ printed (had outcome) d all.1 all.0
        | inr part ↦ cut_off (had outcome) d part.1 part.0
      ]
  not_drained_so why after is failed cause same (inr (told, untold)) = exhausted (broke_off after is why failed same) untold told
