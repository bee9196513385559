-- What a course says of the stores that are left.
use Rattle.std.proofs.Common.{◌≡◌, ℕ, suc, ◌≤◌, ◌⊎◌, inl, inr, List, [], ◌∷◌, ◌++◌, Some, Result, Ok, Err, refl, sym, ap, ◌∙◌, subst, append_assoc, arith}
use Rattle.plfs_types.specs.Counts.{HasRisen}
use Rattle.store_api.specs.declared.tree.Tree.{Tree}
use Rattle.store_api.specs.Acts.{Stored}
use Rattle.mount_model.specs.Failing.{FailsToMount}
use Rattle.mount_model.specs.History.{Event, state_after}
use Rattle.mount_model.specs.Paths.{Name}
use Rattle.store_api.specs.Names.{marks_folder}
use Rattle.mount_model.specs.State.{State}
use Rattle.mount_model.specs.declared.mount_trouble.MountTrouble.{MountTrouble}
use Rattle.mount_model.specs.declared.mount_trouble.MountTrouble.TheVariants as trouble
use Rattle.mount_sound.specs.Owed.{IsLawful}
use Rattle.mount_sound.proofs.Facts.{mounted_sound}
use Rattle.reader_laws.specs.Moments.{Moment, next_moment}
use Rattle.reader_laws.proofs.Gathered.Facts.{legal_first}
use Rattle.mount_model.specs.declared.stuck.Stuck.{Stuck}
use Rattle.mount_model.specs.declared.stuck.Stuck.TheVariants as stuck
use Rattle.outcomes.specs.Outcomes.{stuck_outcome, why_of}
use Rattle.run_core.specs.Leading.{GoesOn}
use Rattle.script_lang.specs.declared.line.Outcome.{Outcome}
use Rattle.script_lang.specs.declared.line.Outcome.TheVariants.{Damaged, Fault, Refused}
use Rattle.script_lang.specs.declared.line.Why.TheVariants.{MountsSpent}
use Rattle.program_ends.specs.Leaving.{broke_off as not_mounted, ran}
use Rattle.program_ends.specs.Ends.{Ends}
use Rattle.program_ends.specs.Mounting.{unmounted_of}
use Rattle.program_ends.specs.SoundTrees.{LeavesSoundTree, TellsSoundTree}
use Rattle.program_ends.proofs.Facts.{FailingLeavesSound, all_leave_sound, was_run}
use Rattle.drain_copy.specs.declared.outcome.Drained.{Drained}
use Rattle.drain_copy.specs.declared.outcome.DrainStuck.{DrainStuck}
use Rattle.drain_copy.specs.declared.outcome.DrainStuck.TheVariants.{Source, Taken, TargetDamaged, TargetFault}
use Rattle.drain_copy.specs.Asking.{ends}
use Rattle.drain_copy.specs.Telling.{DrainsOn}
use Rattle.drain_sound.specs.Draining.{Happening, at_source, at_target, source_after}
use Rattle.drain_sound.specs.Views.{mounted_there}
use Rattle.drain_laws.specs.Driving.{AreMade}
use Rattle.drain_laws.specs.Gathered.{began_at, events_in, listed_at}
use Rattle.drain_laws.specs.Keeping.{IsLeftOf}
use Rattle.drain_program.specs.Course.{DrainCourse, DrainRun, IsDrainEnd, IsDrainLeft, IsDrainOver, IsDrainedAs, begun, broke_off, cut_off, drains, exhausted, mounted, printed, unmounted, usage}
use Rattle.drain_program.specs.Driven.{IsDriven, moment_of}
use Rattle.drain_program.specs.Reporting.{DrainReport, drain_status, had, report_of, went_on, wrote}
use Rattle.drain_program.specs.Targets.{HasCopiedAll, HasSource, HasTarget, ShowsAll}
use Rattle.drain_program.specs.Words.{IsDrainCommand}
use Rattle.drain_program.proofs.TargetLemmas.{nothing_issued}
use Rattle.drain_program.proofs.WordLemmas.{one_name}

-- ---- the calls at the source

abbrev source_calls : List Happening → List Event
source_calls [] = []
source_calls (at_source e ∷ rest) = e ∷ source_calls rest
source_calls (at_target a ∷ rest) = source_calls rest

calls_lawful : (m : Moment) (store : Stored) (happened : List Happening) → AreMade m store happened → IsLawful m.state (source_calls happened)
calls_lawful m store [] made = tt
calls_lawful m store (at_source e ∷ rest) made = (made.0.0, made.0.1, calls_lawful (next_moment m e) store rest made.1)
calls_lawful m store (at_target a ∷ rest) made = calls_lawful m a.after rest made.1

-- they are those that stand in it
calls_are : (happened : List Happening) → source_calls happened ≡ events_in happened
calls_are [] = refl
calls_are (at_source e ∷ rest) = ap (λ es. e ∷ es) (calls_are rest)
calls_are (at_target a ∷ rest) = calls_are rest

calls_end : (m : Moment) (happened : List Happening) → state_after m.state (source_calls happened) ≡ (source_after m happened).state
calls_end m [] = refl
calls_end m (at_source e ∷ rest) = calls_end (next_moment m e) rest
calls_end m (at_target a ∷ rest) = calls_end m rest

driven_leads : (name : Name) (start : State) (target : Stored) (happened : List Happening) (left : DrainsOn) (end : State) (target_end : Stored) → IsDriven name start target happened left end target_end → GoesOn start end
driven_leads name start target happened left end target_end d = record {
  events = source_calls happened;
  leads = record {
    lawful = calls_lawful (moment_of nothing_issued start) target happened (d.made nothing_issued);
    ends = calls_end (moment_of nothing_issued start) happened ∙ d.ends_source nothing_issued;
  };
}

-- ---- statuses

never : (n k : ℕ) → 1 ≤ k → n ≡ k → n ≡ 0 → ⊥
never n k some is zero = omega (arith, some, is, zero)

stuck_status : (why : Stuck) → drain_status (had (stuck_outcome why)) ≡ 0 → ⊥
stuck_status stuck.Fault well = never (drain_status (had Fault)) 4 (omega arith) refl well
stuck_status (stuck.Damaged folder file place) well = never (drain_status (had (Damaged folder file place))) 7 (omega arith) refl well
stuck_status (stuck.Refused why) well = never (drain_status (had (Refused (why_of why)))) 1 (omega arith) refl well

unmounted_status : (why : MountTrouble) (outcome : Outcome) → unmounted_of why ≡ Some outcome → drain_status (had outcome) ≡ 0 → ⊥
unmounted_status (trouble.Damaged file) outcome told well = let same : Damaged marks_folder file 0 ≡ outcome = cc in never (drain_status (had outcome)) 7 (omega arith) (ap (λ o. drain_status (had o)) (sym same)) well
unmounted_status trouble.NoMarks outcome told well = let same : Damaged marks_folder [] 0 ≡ outcome = cc in never (drain_status (had outcome)) 7 (omega arith) (ap (λ o. drain_status (had o)) (sym same)) well
unmounted_status trouble.Spent outcome told well = let same : Refused MountsSpent ≡ outcome = cc in never (drain_status (had outcome)) 1 (omega arith) (ap (λ o. drain_status (had o)) (sym same)) well
unmounted_status trouble.Fault outcome told well = let same : Fault ≡ outcome = cc in never (drain_status (had outcome)) 4 (omega arith) (ap (λ o. drain_status (had o)) (sym same)) well
unmounted_status trouble.NoMemory outcome told well = absurd (cc)

pub apart : (n a b : ℕ) → suc a ≤ b → n ≡ a → n ≡ b → ⊥
apart n a b less is other = omega (arith, less, is, other)

-- status 4 is that of a fault alone
only_fault : (report : DrainReport) → drain_status report ≡ 4 → report ≡ had Fault
only_fault (wrote drained) four = absurd (apart (drain_status (wrote drained)) 0 4 (omega arith) refl four)
only_fault (went_on writer there here) four = absurd (apart (drain_status (went_on writer there here)) 1 4 (omega arith) refl four)
only_fault (had Fault) four = refl
only_fault (had (Damaged folder file place)) four = absurd (apart (drain_status (had (Damaged folder file place))) 4 7 (omega arith) four refl)
only_fault (had (Refused why)) four = absurd (apart (drain_status (had (Refused why))) 1 4 (omega arith) refl four)
only_fault (had outcome) four = absurd (apart (drain_status (had outcome)) 0 4 (omega arith) refl four)

module _ (name : Name) (e : Ends) (target target_end : Stored) (status : ℕ) where
  -- ---- a sound source

  over_sound : (left : DrainsOn) (after : Stored) → IsDrainOver name e.times e.stored target left after target_end → FailingLeavesSound → TellsSoundTree e.stored → TellsSoundTree after
  over_sound left after over failing told =
      all_leave_sound GoesOn (λ old new goes. goes) e.times e.stored after failing
      (ran (was_run GoesOn e.times e.stored after over.start over.end over.mounted (driven_leads name over.start target over.happened left over.end target_end over.driven) (sym over.ends_so))) told

  failed_sound : (after : Stored) (why : MountTrouble) → FailsToMount e.stored why after → FailingLeavesSound → TellsSoundTree e.stored → TellsSoundTree after
  failed_sound after why failed failing told = all_leave_sound GoesOn (λ old new goes. goes) e.times e.stored after failing (not_mounted why failed) told

  ended_sound : (report : DrainReport) (after : Stored) → IsDrainEnd name e.times e.stored target after target_end report → FailingLeavesSound → TellsSoundTree e.stored → TellsSoundTree after
  ended_sound report after (unmounted why outcome failed told same is) failing tells = failed_sound after why failed failing tells
  ended_sound report after (mounted outcome over had_memory is) failing tells = over_sound (ends outcome) after over failing tells

  left_sound : IsDrainLeft name e target target_end → FailingLeavesSound → TellsSoundTree e.stored → LeavesSoundTree e.stored_after
  left_sound (broke_off after is why failed same) failing tells = (after, is, failed_sound after why failed failing tells)
  left_sound (begun after is rest over had_memory) failing tells = (after, is, over_sound rest after over failing tells)

  as_sound : (report : DrainReport) → IsDrainedAs name report e target target_end → FailingLeavesSound → TellsSoundTree e.stored → LeavesSoundTree e.stored_after
  as_sound report d failing tells = (d.after, d.left, ended_sound report d.after d.came failing tells)

  pub run_sound : DrainRun name e target target_end status → FailingLeavesSound → TellsSoundTree e.stored → LeavesSoundTree e.stored_after
  run_sound (printed report d all is) failing tells = as_sound report d failing tells
  run_sound (cut_off report d part is) failing tells = as_sound report d failing tells
  run_sound (exhausted left same is) failing tells = left_sound left failing tells

  -- ---- the target

  abbrev Stays : ℕ → Type 0
  Stays number = (target_end ≡ target) ⊎ ((after : Stored) × (e.stored_after ≡ Some after) × HasTarget number name after target_end)

  ended_stays : (report : DrainReport) (after : Stored) → e.stored_after ≡ Some after → IsDrainEnd name e.times e.stored target after target_end report → (number : ℕ) → HasSource number name e.stored → HasTarget number name e.stored target → Stays number
  ended_stays report after left (unmounted why outcome failed told same is) number from has = inl same
  ended_stays report after left (mounted outcome over had_memory is) number from has = inr (after, left, over.stays number from has)

  left_stays : IsDrainLeft name e target target_end → (number : ℕ) → HasSource number name e.stored → HasTarget number name e.stored target → Stays number
  left_stays (broke_off after is why failed same) number from has = inl same
  left_stays (begun after is rest over had_memory) number from has = inr (after, is, over.stays number from has)

  pub run_stays : DrainRun name e target target_end status → (number : ℕ) → HasSource number name e.stored → HasTarget number name e.stored target → Stays number
  run_stays (printed report d all is) number from has = ended_stays report d.after d.left d.came number from has
  run_stays (cut_off report d part is) number from has = ended_stays report d.after d.left d.came number from has
  run_stays (exhausted left same is) number from has = left_stays left number from has

  -- ---- faults

  pub run_cause : DrainRun name e target target_end status → status ≡ 4 → (after : Stored) × (e.stored_after ≡ Some after) × (HasRisen e.stored.faults after.faults ⊎ HasRisen target.faults target_end.faults)
  run_cause (printed report d all is) four = (d.after, d.left, d.cause (only_fault report (sym is ∙ four)))
  run_cause (cut_off report d part is) four = absurd (apart status 4 6 (omega arith) four is)
  run_cause (exhausted left same is) four = absurd (apart status 3 4 (omega arith) is four)

  -- ---- all is copied

  pub run_copies : DrainRun name e target target_end status → status ≡ 0 → (number : ℕ) → HasSource number name e.stored → HasTarget number name e.stored target → HasCopiedAll number name e.stored target_end
  run_copies (printed report d all is) zero number from has = by_end report d.after d.came (sym is ∙ zero)
    where
      by_outcome : (after : Stored) (outcome : Result Drained DrainStuck) → IsDrainOver name e.times e.stored target (ends outcome) after target_end → drain_status (report_of outcome) ≡ 0 → HasCopiedAll number name e.stored target_end
      by_outcome after (Ok drained) over well = over.copies drained refl number from has
      by_outcome after (Err (Source why)) over well = absurd (stuck_status why well)
      by_outcome after (Err TargetFault) over well = absurd (never (drain_status (had Fault)) 4 (omega arith) refl well)
      by_outcome after (Err (TargetDamaged folder file place)) over well = absurd (never (drain_status (had (Damaged folder file place))) 7 (omega arith) refl well)
      by_outcome after (Err (Taken writer there here)) over well = absurd (never (drain_status (went_on writer there here)) 1 (omega arith) refl well)

      by_end : (report : DrainReport) (after : Stored) → IsDrainEnd name e.times e.stored target after target_end report → drain_status report ≡ 0 → HasCopiedAll number name e.stored target_end
      by_end report after (unmounted why outcome failed told same is_so) well = absurd (unmounted_status why outcome told (subst (λ r. drain_status r ≡ 0) is_so well))
      by_end report after (mounted outcome over had_memory is_so) well = by_outcome after outcome over (subst (λ r. drain_status r ≡ 0) is_so well)
  run_copies (cut_off report d part is) zero number from has = absurd (omega (arith, is, zero))
  run_copies (exhausted left same is) zero number from has = absurd (omega (arith, is, zero))

  -- ---- what readers of the target see

  pub run_shows : DrainRun name e target target_end status → status ≡ 0 → (number : ℕ) → HasSource number name e.stored → HasTarget number name e.stored target → (tree : Tree) → IsLeftOf target_end tree → ShowsAll number name e.stored tree
  run_shows (printed report d all is) zero number from has tree left_of = by_end report d.after d.came (sym is ∙ zero)
    where
      by_outcome : (after : Stored) (outcome : Result Drained DrainStuck) → IsDrainOver name e.times e.stored target (ends outcome) after target_end → drain_status (report_of outcome) ≡ 0 → ShowsAll number name e.stored tree
      by_outcome after (Ok drained) over well =
          let start : Moment = mounted_there from.sound over.start in
          let (g, shows) = (over.lawful number from has).shows drained refl tree left_of in
          let lawful : IsLawful start.state (events_in over.happened) = subst (IsLawful start.state) (calls_are over.happened) (calls_lawful start target over.happened (over.driven.made from.sound.issued)) in
          record {
            first = began_at start g;
            last = listed_at start g;
            moments = record {
              start = start;
              sound = mounted_sound 0 e.times e.stored over.start from.tree over.mounted from.told from.sound;
              times = e.times;
              mounted = over.mounted;
              before = g.before;
              between = g.first ∷ g.between;
              lawful = legal_first start (g.before ++ (g.first ∷ g.between)) (g.listing ∷ g.later) (subst (IsLawful start.state) (g.split ∙ sym (append_assoc g.before (g.first ∷ g.between) (g.listing ∷ g.later))) lawful);
              begins = refl;
              ends = refl;
            };
            shows = shows;
          }
      by_outcome after (Err (Source why)) over well = absurd (stuck_status why well)
      by_outcome after (Err TargetFault) over well = absurd (never (drain_status (had Fault)) 4 (omega arith) refl well)
      by_outcome after (Err (TargetDamaged folder file place)) over well = absurd (never (drain_status (had (Damaged folder file place))) 7 (omega arith) refl well)
      by_outcome after (Err (Taken writer there here)) over well = absurd (never (drain_status (went_on writer there here)) 1 (omega arith) refl well)

      by_end : (report : DrainReport) (after : Stored) → IsDrainEnd name e.times e.stored target after target_end report → drain_status report ≡ 0 → ShowsAll number name e.stored tree
      by_end report after (unmounted why outcome failed told same is_so) well = absurd (unmounted_status why outcome told (subst (λ r. drain_status r ≡ 0) is_so well))
      by_end report after (mounted outcome over had_memory is_so) well = by_outcome after outcome over (subst (λ r. drain_status r ≡ 0) is_so well)
  run_shows (cut_off report d part is) zero number from has tree left_of = absurd (apart status 0 6 (omega arith) zero is)
  run_shows (exhausted left same is) zero number from has tree left_of = absurd (apart status 0 3 (omega arith) zero is)

-- ---- by its words

module _ (words : List (List ℕ)) (e : Ends) (target target_end : Stored) (status : ℕ) where
  pub course_stays : DrainCourse words e target target_end status → (number : ℕ) (name : Name) → IsDrainCommand words name → HasSource number name e.stored → HasTarget number name e.stored target
      → (target_end ≡ target) ⊎ ((after : Stored) × (e.stored_after ≡ Some after) × HasTarget number name after target_end)
  course_stays (usage none same kept said is) number name command from has = inl kept
  course_stays (drains other is run) number name command from has =
      run_stays name e target target_end status (subst (λ n. DrainRun n e target target_end status) (one_name words other name is command) run) number from has

  pub course_cause : DrainCourse words e target target_end status → status ≡ 4 → (after : Stored) × (e.stored_after ≡ Some after) × (HasRisen e.stored.faults after.faults ⊎ HasRisen target.faults target_end.faults)
  course_cause (usage none same kept said is) four = absurd (apart status 2 4 (omega arith) is four)
  course_cause (drains name is run) four = run_cause name e target target_end status run four

  pub course_copies : DrainCourse words e target target_end status → (number : ℕ) (name : Name) → IsDrainCommand words name → HasSource number name e.stored → HasTarget number name e.stored target → status ≡ 0 → HasCopiedAll number name e.stored target_end
  course_copies (usage none same kept said is) number name command from has zero = absurd (none name command)
  course_copies (drains other is run) number name command from has zero =
      run_copies name e target target_end status (subst (λ n. DrainRun n e target target_end status) (one_name words other name is command) run) zero number from has

  pub course_shows : DrainCourse words e target target_end status → (number : ℕ) (name : Name) → IsDrainCommand words name → HasSource number name e.stored → HasTarget number name e.stored target → status ≡ 0 → (tree : Tree) → IsLeftOf target_end tree → ShowsAll number name e.stored tree
  course_shows (usage none same kept said is) number name command from has zero tree left_of = absurd (none name command)
  course_shows (drains other is run) number name command from has zero tree left_of =
      run_shows name e target target_end status (subst (λ n. DrainRun n e target target_end status) (one_name words other name is command) run) zero number from has tree left_of
