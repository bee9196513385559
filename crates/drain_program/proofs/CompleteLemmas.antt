-- Where nothing broke a drain is through, or refused, or memory was.
use Rattle.std.proofs.Common.{◌≡◌, ℕ, ◌⊎◌, inl, inr, true, false, List, [], ◌∷◌, ◌++◌, Some, refl, sym, ap, ◌∙◌, subst, arith}
use Rattle.std.specs.Prelude.{Ok, Err, slice_get}
use Rattle.std.specs.List.{AllByRecursion}
use Rattle.std.proofs.lemmas.Bool.{cond-true}
use Rattle.std.proofs.lemmas.Bool.Decides.{nat_tests}
use Rattle.plfs_types.specs.Counts.{HasRisen}
use Rattle.store_api.specs.declared.tree.Tree.{Tree}
use Rattle.store_api.specs.Acts.{Stored}
use Rattle.turn_object.specs.Callers.{is_by, made_by}
use Rattle.mount_model.specs.declared.reply.Refusal.TheVariants.{NoRoom}
use Rattle.mount_model.specs.declared.mount_trouble.MountTrouble.{MountTrouble}
use Rattle.mount_model.specs.declared.mount_trouble.MountTrouble.TheVariants as trouble
use Rattle.mount_model.specs.Failing.{FailsToMount}
use Rattle.mount_model.specs.History.{Event}
use Rattle.mount_model.specs.Paths.{Name, openhosts}
use Rattle.mount_sound.specs.Sound.{IsSoundTree}
use Rattle.mount_sound.proofs.Facts.{mounted_sound, one_tree}
use Rattle.mount_model.specs.declared.stuck.Stuck.TheVariants as stuck
use Rattle.reader_laws.specs.Moments.{IsSoundAt, Moment, moment_after}
use Rattle.outcomes.specs.Outcomes.{stuck_outcome}
use Rattle.script_lang.specs.declared.line.Outcome.{Outcome}
use Rattle.script_lang.specs.declared.line.Outcome.TheVariants.{Damaged, Fault, Refused}
use Rattle.script_lang.specs.declared.line.Why.TheVariants.{MountsSpent}
use Rattle.program_ends.specs.Outcomes.{IsDone}
use Rattle.program_ends.specs.Ends.{Ends}
use Rattle.program_ends.specs.Mounting.{AreWhy, listed_marks, unmounted_of}
use Rattle.drain_copy.specs.declared.outcome.DrainStuck.{DrainStuck}
use Rattle.drain_copy.specs.Asking.{ends}
use Rattle.drain_sound.specs.Draining.{Happening, at_source, at_target}
use Rattle.drain_sound.specs.Views.{mounted_there}
use Rattle.drain_laws.specs.Ending.{HadNoContainer, HasOpenhosts, IsTaken, WhyEnded, no_container, no_openhosts, source_failed, target_failed, was_taken}
use Rattle.drain_laws.specs.Gathered.{events_in}
use Rattle.drain_program.specs.Complete.{HadNoTrouble, WhyRefused, no_file, spent, taken_by}
use Rattle.drain_program.specs.Course.{DrainCourse, DrainRun, IsDrainEnd, IsDrainOver, cut_off, drains, exhausted, mounted, printed, unmounted, usage}
use Rattle.drain_program.specs.Driven.{IsOwn}
use Rattle.drain_program.specs.Reporting.{DrainReport, drain_status, had, report_of, went_on, wrote}
use Rattle.drain_program.specs.Targets.{HasSource, HasTarget, IsDrainable, LacksContainer, both, neither}
use Rattle.drain_program.specs.Words.{IsDrainCommand}
use Rattle.drain_program.proofs.CourseLemmas.{apart, run_cause}
use Rattle.drain_program.proofs.MarkLemmas.{undamaged_marks}
use Rattle.drain_program.proofs.TargetLemmas.{name_kept}
use Rattle.drain_program.proofs.WordLemmas.{one_name}

-- ---- statuses

-- of no damage and no fault it is one of these
done_of : (report : DrainReport) → (drain_status report ≡ 7 → ⊥) → (drain_status report ≡ 4 → ⊥) → IsDone (drain_status report)
done_of (wrote drained) whole quiet = inl refl
done_of (went_on writer there here) whole quiet = inr (inl refl)
done_of (had (Damaged folder file place)) whole quiet = absurd (whole refl)
done_of (had Fault) whole quiet = absurd (quiet refl)
done_of (had (Refused why)) whole quiet = inr (inl refl)
done_of (had outcome) whole quiet = inl refl

-- ---- a caller by itself

-- none of its calls was before its first
none_but_own : (happened : List Happening) (before : List Event) (first : Event) (later : List Event) → AllByRecursion IsOwn happened → events_in happened ≡ before ++ first ∷ later → made_by 0 before ≡ [] → before ≡ []
none_but_own happened [] first later own split none = refl
none_but_own [] (e ∷ before) first later own split none = absurd (cc)
none_but_own (at_target a ∷ happened) (e ∷ before) first later own split none = none_but_own happened (e ∷ before) first later own.1 split none
none_but_own (at_source x ∷ happened) (e ∷ before) first later own split none =
    let same : x ≡ e = cc in
    let by : is_by 0 e ≡ true = its_own e (ap (λ (y : Event). y.caller) (sym same) ∙ own.0) in
    let clash : e ∷ made_by 0 before ≡ [] = sym (cond-true (is_by 0 e) (e ∷ made_by 0 before) (made_by 0 before) by) ∙ none in
    absurd (cc)
  where
    its_own : (e : Event) → e.caller ≡ 0 → is_by 0 e ≡ true
    its_own e own = grind (arith, nat_tests, own)

-- the law of what listed marks have to do with a mounting that breaks off
abbrev pub MarksAreWhy : Type 0
MarksAreWhy = (before after : Stored) (trouble : MountTrouble) (tree : Tree) → FailsToMount before trouble after → before.tree ≡ Some tree → AreWhy (listed_marks tree) trouble

-- a drain that ended for this reason
abbrev Over : Name → Ends → Stored → Stored → DrainStuck → Stored → Type 0
Over name e target target_end why after = IsDrainOver name e.times e.stored target (ends (Err why)) after target_end

-- what is known of a drain of this source and target, wherever it ended
record Known (name : Name) (e : Ends) (target target_end : Stored) (number : ℕ) : Type 0 where
  pub tree : Tree
  pub told : e.stored.tree ≡ Some tree
  pub sound : IsSoundTree tree
  pub at : ℕ
  pub reason : (why : DrainStuck) (after : Stored) (over : Over name e target target_end why after) → WhyEnded 0 at name (mounted_there sound over.start) target over.happened why
  pub lacked : (why : DrainStuck) (after : Stored) (over : Over name e target target_end why after) → HadNoContainer 0 name (mounted_there sound over.start) over.happened → WhyRefused number name e.stored target
  pub taken : (why : DrainStuck) (after : Stored) (over : Over name e target target_end why after) (writer there here : ℕ) → IsTaken 0 at name (mounted_there sound over.start) target over.happened writer there here → WhyRefused number name e.stored target
  pub opens : HasOpenhosts name target → (why : DrainStuck) (after : Stored) → Over name e target target_end why after → HasOpenhosts name target_end

-- ---- the source has the container

module _ (name : Name) (e : Ends) (target target_end : Stored) (number : ℕ) (from : HasSource number name e.stored) (has : HasTarget number name e.stored target) where
  never_lacks : (why : DrainStuck) (after : Stored) (over : Over name e target target_end why after) → HadNoContainer 0 name (mounted_there from.sound over.start) over.happened → ⊥
  never_lacks why after over none =
      let start : Moment = mounted_there from.sound over.start in
      let s : IsSoundAt start = mounted_sound 0 e.times e.stored over.start from.tree over.mounted from.told from.sound in
      let first : none.before ≡ [] = none_but_own over.happened none.before none.first none.later over.driven.own none.split none.none_before in
      let told : over.start.store.tree ≡ Some none.tree = ap (λ es. (moment_after start es).state.store.tree) (sym first) ∙ none.told in
      let kept = name_kept e.times e.stored over.start over.mounted from.tree none.tree from.told told number from.room from.at.there in
      none.free number kept.0 kept.1 (kept.2 ∙ from.at.named)

  known_room : Known name e target target_end number
  known_room = record {
    tree = from.tree;
    told = from.told;
    sound = from.sound;
    at = number;
    reason = λ why after over. (over.lawful number from has).reason why refl;
    lacked = λ why after over none. absurd (never_lacks why after over none);
    taken = λ why after over writer there here taken. taken_by (record {
      start = mounted_there from.sound over.start;
      sound = mounted_sound 0 e.times e.stored over.start from.tree over.mounted from.told from.sound;
      times = e.times;
      mounted = over.mounted;
      happened = over.happened;
      writer = writer;
      there = there;
      here = here;
      taken = taken;
    });
    opens = λ opens why after over. (over.lawful number from has).opens opens;
  }

-- ---- neither has one

module _ (name : Name) (e : Ends) (target target_end : Stored) (number : ℕ) (none : LacksContainer name e.stored) (none_there : LacksContainer name target) where
  none_taken : (why : DrainStuck) (after : Stored) (over : Over name e target target_end why after) (writer there here : ℕ) → IsTaken 0 0 name (mounted_there none.sound over.start) target over.happened writer there here → ⊥
  none_taken why after over writer there here taken =
      none_there.free taken.n taken.room (subst (λ (t : Tree). slice_get t.rooms taken.n ≡ Some taken.room) (one_tree taken.tree none_there.tree target.tree taken.told none_there.told) taken.at.there) taken.at.named

  known_none : Known name e target target_end number
  known_none = record {
    tree = none.tree;
    told = none.told;
    sound = none.sound;
    at = 0;
    reason = λ why after over. (over.lacking none none_there).reason why refl;
    lacked = λ why after over was. no_file none;
    taken = λ why after over writer there here taken. absurd (none_taken why after over writer there here taken);
    opens = λ opens why after over. (over.lacking none none_there).opens;
  }

known_of : (name : Name) (e : Ends) (target target_end : Stored) (number : ℕ) → IsDrainable number name e.stored target → Known name e target target_end number
known_of name e target target_end number (both from has) = known_room name e target target_end number from has
known_of name e target target_end number (neither none none_there) = known_none name e target target_end number none none_there

-- ---- either

module _ (name : Name) (e : Ends) (target target_end : Stored) (status : ℕ) (because : MarksAreWhy) (number : ℕ) (known : Known name e target target_end number) where
  why_unmounted : (why : MountTrouble) (after : Stored) → FailsToMount e.stored why after → AreWhy (listed_marks known.tree) why
  why_unmounted why after failed = because e.stored after why known.tree failed known.told

  -- ---- a mounting that broke off

  unmounted_whole : (why : MountTrouble) (outcome : Outcome) → AreWhy (listed_marks known.tree) why → unmounted_of why ≡ Some outcome → drain_status (had outcome) ≡ 7 → ⊥
  unmounted_whole (trouble.Damaged file) outcome marks told seven = undamaged_marks known.tree file known.sound marks
  unmounted_whole trouble.NoMarks outcome marks told seven = undamaged_marks known.tree [] known.sound marks
  unmounted_whole trouble.Spent outcome marks told seven = let same : Refused MountsSpent ≡ outcome = cc in apart (drain_status (had outcome)) 1 7 (omega arith) (ap (λ o. drain_status (had o)) (sym same)) seven
  unmounted_whole trouble.Fault outcome marks told seven = let same : Fault ≡ outcome = cc in apart (drain_status (had outcome)) 4 7 (omega arith) (ap (λ o. drain_status (had o)) (sym same)) seven
  unmounted_whole trouble.NoMemory outcome marks told seven = cc

  unmounted_refused : (why : MountTrouble) (outcome : Outcome) → AreWhy (listed_marks known.tree) why → unmounted_of why ≡ Some outcome → drain_status (had outcome) ≡ 1 → WhyRefused number name e.stored target
  unmounted_refused (trouble.Damaged file) outcome marks told one = absurd (undamaged_marks known.tree file known.sound marks)
  unmounted_refused trouble.NoMarks outcome marks told one = absurd (undamaged_marks known.tree [] known.sound marks)
  unmounted_refused trouble.Spent outcome marks told one = spent known.tree known.told marks
  unmounted_refused trouble.Fault outcome marks told one = let same : Fault ≡ outcome = cc in absurd (apart (drain_status (had outcome)) 1 4 (omega arith) one (ap (λ o. drain_status (had o)) (sym same)))
  unmounted_refused trouble.NoMemory outcome marks told one = absurd (cc)

  -- ---- a drain that ended

  ended_refused : (why : DrainStuck) (after : Stored) (over : Over name e target target_end why after) → WhyEnded 0 known.at name (mounted_there known.sound over.start) target over.happened why → drain_status (report_of (Err why)) ≡ 1 → WhyRefused number name e.stored target
  ended_refused why after over source_failed one = absurd (apart (drain_status (had Fault)) 1 4 (omega arith) one refl)
  ended_refused why after over target_failed one = absurd (apart (drain_status (had Fault)) 1 4 (omega arith) one refl)
  ended_refused why after over (no_container none) one = known.lacked why after over none
  ended_refused why after over (no_openhosts tree now lacks) one = absurd (apart (drain_status (had (Damaged openhosts [] 0))) 1 7 (omega arith) one refl)
  ended_refused why after over (was_taken writer there here taken) one = known.taken why after over writer there here taken

  end_refused : (report : DrainReport) (after : Stored) → IsDrainEnd name e.times e.stored target after target_end report → drain_status report ≡ 1 → WhyRefused number name e.stored target
  end_refused report after (unmounted why outcome failed told same is) one = unmounted_refused why outcome (why_unmounted why after failed) told (subst (λ r. drain_status r ≡ 1) is one)
  end_refused report after (mounted (Ok drained) over had_memory is) one = absurd (apart (drain_status (wrote drained)) 0 1 (omega arith) refl (subst (λ r. drain_status r ≡ 1) is one))
  end_refused report after (mounted (Err why) over had_memory is) one = ended_refused why after over (known.reason why after over) (subst (λ r. drain_status r ≡ 1) is one)

  run_refused : DrainRun name e target target_end status → status ≡ 1 → WhyRefused number name e.stored target
  run_refused (printed report d all is) one = end_refused report d.after d.came (sym is ∙ one)
  run_refused (cut_off report d part is) one = absurd (apart status 1 6 (omega arith) one is)
  run_refused (exhausted left same is) one = absurd (apart status 1 3 (omega arith) one is)

  module _ (opens : HasOpenhosts name target) where
    ended_whole : (why : DrainStuck) (after : Stored) (over : Over name e target target_end why after) → WhyEnded 0 known.at name (mounted_there known.sound over.start) target over.happened why → drain_status (report_of (Err why)) ≡ 7 → ⊥
    ended_whole why after over source_failed seven = apart (drain_status (had Fault)) 4 7 (omega arith) refl seven
    ended_whole why after over target_failed seven = apart (drain_status (had Fault)) 4 7 (omega arith) refl seven
    ended_whole why after over (no_container none) seven = apart (drain_status (had (stuck_outcome (stuck.Refused NoRoom)))) 1 7 (omega arith) refl seven
    ended_whole why after over (no_openhosts tree now lacks) seven =
        let has_it = known.opens opens why after over tree lacks.n lacks.room (ap (λ (k : Stored). k.tree) (sym over.driven.ends_target) ∙ now) lacks.at in
        let clash : true ≡ false = sym has_it ∙ lacks.none in
        cc
    ended_whole why after over (was_taken writer there here taken) seven = apart (drain_status (went_on writer there here)) 1 7 (omega arith) refl seven

    end_whole : (report : DrainReport) (after : Stored) → IsDrainEnd name e.times e.stored target after target_end report → drain_status report ≡ 7 → ⊥
    end_whole report after (unmounted why outcome failed told same is) seven = unmounted_whole why outcome (why_unmounted why after failed) told (subst (λ r. drain_status r ≡ 7) is seven)
    end_whole report after (mounted (Ok drained) over had_memory is) seven = apart (drain_status (wrote drained)) 0 7 (omega arith) refl (subst (λ r. drain_status r ≡ 7) is seven)
    end_whole report after (mounted (Err why) over had_memory is) seven = ended_whole why after over (known.reason why after over) (subst (λ r. drain_status r ≡ 7) is seven)

    run_whole : DrainRun name e target target_end status → status ≡ 7 → ⊥
    run_whole (printed report d all is) seven = end_whole report d.after d.came (sym is ∙ seven)
    run_whole (cut_off report d part is) seven = apart status 6 7 (omega arith) is seven
    run_whole (exhausted left same is) seven = apart status 3 7 (omega arith) is seven

    run_complete : HadNoTrouble e target target_end → DrainRun name e target target_end status → IsDone status
    run_complete quiet (printed report d all is) = subst IsDone (sym is) (done_of report (end_whole report d.after d.came) (λ four. no_fault (run_cause name e target target_end status (printed report d all is) (is ∙ four))))
      where
        no_fault : (after : Stored) × (e.stored_after ≡ Some after) × (HasRisen e.stored.faults after.faults ⊎ HasRisen target.faults target_end.faults) → ⊥
        no_fault (after, left, inl risen) = quiet.store after left risen
        no_fault (after, left, inr risen) = quiet.target_store risen
    run_complete quiet (cut_off report d part is) = absurd (elim part.cause [ inl risen ↦ quiet.sink risen | inr stalled ↦ quiet.stalls stalled ])
    run_complete quiet (exhausted left same is) = inr (inr is)

-- ---- by its words

module _ (words : List (List ℕ)) (e : Ends) (target target_end : Stored) (status : ℕ) (because : MarksAreWhy) where
  its_run : (other name : Name) → IsDrainCommand words other → IsDrainCommand words name → DrainRun other e target target_end status → DrainRun name e target target_end status
  its_run other name is command run = subst (λ n. DrainRun n e target target_end status) (one_name words other name is command) run

  pub course_whole : DrainCourse words e target target_end status → (number : ℕ) (name : Name) → IsDrainCommand words name → IsDrainable number name e.stored target → HasOpenhosts name target → status ≡ 7 → ⊥
  course_whole (usage none same kept said is) number name command pair opens seven = apart status 2 7 (omega arith) is seven
  course_whole (drains other is run) number name command pair opens seven = run_whole name e target target_end status because number (known_of name e target target_end number pair) opens (its_run other name is command run) seven

  pub course_complete : DrainCourse words e target target_end status → (number : ℕ) (name : Name) → IsDrainCommand words name → IsDrainable number name e.stored target → HasOpenhosts name target → HadNoTrouble e target target_end → IsDone status
  course_complete (usage none same kept said is) number name command pair opens quiet = absurd (none name command)
  course_complete (drains other is run) number name command pair opens quiet = run_complete name e target target_end status because number (known_of name e target target_end number pair) opens quiet (its_run other name is command run)

  pub course_refused : DrainCourse words e target target_end status → (number : ℕ) (name : Name) → IsDrainCommand words name → IsDrainable number name e.stored target → status ≡ 1 → WhyRefused number name e.stored target
  course_refused (usage none same kept said is) number name command pair one = absurd (none name command)
  course_refused (drains other is run) number name command pair one = run_refused name e target target_end status because number (known_of name e target target_end number pair) (its_run other name is command run) one
