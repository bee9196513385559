-- From a copying on a mount to the run that made it.
use Rattle.std.proofs.Common.{◌≡◌, ◌≢◌, ℕ, ◌⊎◌, inl, inr, Bool, true, false, List, [], ◌∷◌, Some, Result, Ok, Err, IfOk, refl, sym, subst, arith}
use Rattle.plfs_types.specs.Counts.{HasRisen}
use Rattle.edge_io.specs.Source.{Given}
use Rattle.store_api.specs.Acts.{Stored}
use Rattle.mount_model.specs.State.{State}
use Rattle.mount_model.specs.Paths.{Name}
use Rattle.mount_model.specs.Failing.{FailsToMount}
use Rattle.mount_model.specs.Mounting.{IsMounted}
use Rattle.mount_model.specs.declared.mount_trouble.MountTrouble.{MountTrouble}
use Rattle.mount_model.specs.declared.mount_trouble.MountTrouble.TheVariants as trouble
use Rattle.mount_model.specs.declared.stuck.Stuck.{Stuck}
use Rattle.mount_model.specs.declared.stuck.Stuck.TheVariants.{Fault}
use Rattle.trouble_laws.specs.Undamaged.{IsUndamaged}
use Rattle.copy_core.specs.declared.copying.Copied.{Copied}
use Rattle.copy_core.specs.Blocks.{joined}
use Rattle.copy_core.specs.Copying.{Copies}
use Rattle.copy_core.proofs.Facts.{begun_copying_called, copied_called}
use Rattle.mount_sound.specs.Sound.{IsFine}
use Rattle.reader_laws.specs.Moments.{IsSoundAt, Moment}
use Rattle.put_program.specs.Copied.{HasCopied, IsKeptCopy}
use Rattle.put_program.specs.CopyingLawsSeen.{LaterReadersSee}
use Rattle.script_lang.specs.declared.line.Line.{Line}
use Rattle.script_lang.specs.declared.line.Outcome.{Outcome}
use Rattle.report_text.specs.Text.{text_of}
use Rattle.run_core.specs.Leading.{GoesOn}
use Rattle.run_core.proofs.Facts.{risen_before}
use Rattle.lone_flow.specs.Calling.{HasCalled}
use Rattle.program_ends.specs.Leaving.{broke_off as unmounted_left, ran, IsRun, IsStoreLeft}
use Rattle.program_ends.specs.Ends.{Ends}
use Rattle.program_ends.specs.Reported.{IsReported, line_zero}
use Rattle.program_ends.specs.Mounting.{unmounted_of}
use Rattle.program_ends.specs.Outcomes.{is_damage, is_fault, status_of}
use Rattle.program_ends.specs.Output.{IsPrinted, IsCutOff}
use Rattle.program_ends.specs.SoundTrees.{LeavesSoundTree, TellsSoundTree}
use Rattle.program_ends.proofs.Facts.{FailingLeavesSound, SaidUnmounted, all_leave_sound, fault_line_alone, unmounted_undamaged, was_run}
use Rattle.put_program.specs.Seen.{IsSeen}
use Rattle.put_program.proofs.Statuses.{ended_in_fault, ended_undamaged, mounting_keeps, or_false, or_true, put_seven}
use Rattle.put_program.specs.Putting.{EndsTruly, HasBegunToPut, IsEndOf, IsPutAs, PutCourse, PutEnd, PutsOn, broke_off, cut_off, end_of, ended_so, exhausted, mounted, printed, put_status, put_text, starved, unmounted}

-- ---- what later readers see

-- what the laws of a copied source say
pub record CopyLaws : Type 0 where
  pub kept : (name : Name) (host : ℕ) (over : Bool) (start : Moment) (old : Given) (copied : Copied) (end : State) (new : Given) → IsSoundAt start → Copies name host over start.state old (Ok copied) end new → IsKeptCopy name start old copied end new
  pub seen : (name : Name) (blocks : List (List ℕ)) (id : ℕ) (start : Moment) (end : State) → IsSoundAt start → (c : HasCopied name blocks id start end) → LaterReadersSee start c (joined blocks)
  pub whole : (name : Name) (start : Moment) (old : Given) (copied : Copied) (end : State) (new : Given) (bytes : List ℕ) → (k : IsKeptCopy name start old copied end new) → copied.is_whole ≡ true → old.left ≡ Some bytes → joined k.blocks ≡ bytes

-- from a mount that is fine
pub seen_so : CopyLaws → (name : List ℕ) (host : ℕ) (over : Bool) (start : State) (given : Given) (result : Result Copied Stuck) (end : State) (given_after : Given) → IsFine start → Copies name host over start given result end given_after → TellsSoundTree start.opened
    → IfOk result (λ copied. IsSeen name start given copied end given_after)
seen_so laws name host over start given (Err why) end given_after fine copies told = tt
seen_so laws name host over start given (Ok copied) end given_after fine copies told =
    let s = fine.sound told in
    let m : Moment = record { state = start; issued = s.0 } in
    let kept : IsKeptCopy name m given copied end given_after = laws.kept name host over m given copied end given_after s.1 copies in
    record {
      moment = m;
      here = refl;
      sound = s.1;
      kept = kept;
      seen = laws.seen name kept.blocks copied.writer m end s.1 kept.copy;
      whole = λ bytes whole all. laws.whole name m given copied end given_after bytes kept whole all;
    }

-- what the laws of its troubles say
pub record TroubleLaws : Type 0 where
  pub fault : (name : Name) (host : ℕ) (over : Bool) (start : State) (old : Given) (told : Result Copied Stuck) (end : State) (new : Given) → Copies name host over start old told end new → told ≡ Err Fault → HasRisen start.store.faults end.store.faults
  pub damage : (name : Name) (host : ℕ) (over : Bool) (start : Moment) (old : Given) (told : Result Copied Stuck) (end : State) (new : Given) → IsSoundAt start → Copies name host over start.state old told end new → IsUndamaged told

pub truly_so : TroubleLaws → (name : List ℕ) (host : ℕ) (over : Bool) (start : State) (given : Given) (result : Result Copied Stuck) (end : State) (given_after : Given) → IsFine start → Copies name host over start given result end given_after → EndsTruly start.opened start result end
truly_so laws name host over start given result end given_after fine copies = record {
  cause = laws.fault name host over start given result end given_after copies;
  undamaged = λ told. (let s = fine.sound told in laws.damage name host over (record { state = start; issued = s.0 }) given result end given_after s.1 copies);
}

module _ (name : List ℕ) (host : ℕ) (over : Bool) (given given_after : Given) (e : Ends) (status : ℕ) where
  -- ---- on a mount

  was_put : (start end : State) (after : Stored) → IsMounted 0 e.times e.stored start → after ≡ end.store → HasBegunToPut name host over given given_after start end → IsRun (HasBegunToPut name host over given given_after) e.times e.stored after
  was_put start end after made left begun = was_run (HasBegunToPut name host over given given_after) e.times e.stored after start end made begun left

  put_as : (start end : State) (after : Stored) (result : Result Copied Stuck) → e.stored_after ≡ Some after → IsMounted 0 e.times e.stored start → after ≡ end.store → Copies name host over start given result end given_after → EndsTruly e.stored start result end → (TellsSoundTree e.stored → IfOk result (λ copied. IsSeen name start given copied end given_after)) → IsPutAs name host over given given_after (end_of result) e
  put_as start end after result is made left copies truly seen = record {
    after = after;
    left = is;
    came = mounted result (record { start = start; end = end; mounted = made; copies = copies; left = sym left; seen = seen }) refl;
    cause = λ bad. subst (λ (s : Stored). HasRisen e.stored.faults s.faults) (sym left) (risen_before e.stored.faults start.store.faults end.store.faults (mounting_keeps e.times e.stored start made) (truly.cause (ended_in_fault result bad)));
    undamaged = λ told. ended_undamaged result (truly.undamaged told);
  }

  -- what was said became of it
  said_so : (ended : PutEnd) (after : Stored) → e.stored_after ≡ Some after → IsPutAs name host over given given_after ended e → IsRun (HasBegunToPut name host over given given_after) e.times e.stored after → IsReported (put_text ended) (put_status ended) e.taking e.taking_after status → PutCourse name host over given given_after e status
  said_so ended after is p run (inl (told, all)) = printed ended p all told
  said_so ended after is p run (inr (inl (told, part))) = cut_off ended p part told
  said_so ended after is p run (inr (inr (told, untold))) = exhausted after is run untold told

  pub put_so : (start end : State) (after : Stored) → e.stored_after ≡ Some after → IsMounted 0 e.times e.stored start → after ≡ end.store → PutsOn e.stored name host over start given e.taking end given_after e.taking_after status → PutCourse name host over given given_after e status
  put_so start end after is made left (ended_so result copies truly seen said) = said_so (end_of result) after is (put_as start end after result is made left copies truly seen) (was_put start end after made left (inl (result, copies))) said
  put_so start end after is made left (broke_off begun same told) = exhausted after is (was_put start end after made left (inr begun)) same told

  -- ---- without a mount

  unmounted_as : (why : MountTrouble) (outcome : Outcome) (after : Stored) → e.stored_after ≡ Some after → FailsToMount e.stored why after → (why ≡ trouble.Fault → HasRisen e.stored.faults after.faults) → unmounted_of why ≡ Some outcome → given_after ≡ given → IsPutAs name host over given given_after (Err outcome) e
  unmounted_as why outcome after is failed cause told same = record {
    after = after;
    left = is;
    came = unmounted why outcome failed told same refl;
    cause = λ bad. fault_line_alone why outcome (line_zero outcome ∷ []) (HasRisen e.stored.faults after.faults) told refl cause (or_true (is_fault outcome) bad);
    undamaged = λ sound. or_false (is_damage outcome) (unmounted_undamaged e.stored after why (line_zero outcome ∷ []) failed (outcome, told, refl) sound);
  }

  pub not_put_so : (why : MountTrouble) (after : Stored) → e.stored_after ≡ Some after → FailsToMount e.stored why after → (why ≡ trouble.Fault → HasRisen e.stored.faults after.faults) → given_after ≡ given → SaidUnmounted why e.taking e.taking_after status → PutCourse name host over given given_after e status
  not_put_so why after is failed cause same (inl (lines, (outcome, told, only), said)) =
      let Says : List Line → Type 0 = λ z. ((status ≡ status_of z) × IsPrinted (text_of z) e.taking e.taking_after) ⊎ ((status ≡ 6) × IsCutOff (text_of z) e.taking e.taking_after) in
      let p : IsPutAs name host over given given_after (Err outcome) e = unmounted_as why outcome after is failed cause told same in
      elim (subst Says only said) as (λ _. PutCourse name host over given given_after e status) [
        | inl all ↦ printed (Err outcome) p all.1 all.0
        | inr part ↦ cut_off (Err outcome) p part.1 part.0
      ]
  not_put_so why after is failed cause same (inr (told, untold)) = starved why after is failed same untold told

  -- ---- a sound tree is left

  called_leads : (start end : State) → HasCalled start end → GoesOn start end
  called_leads start end c = record { events = c.events; leads = record { lawful = c.made.lawful; ends = c.made.ends } }

  begun_leads : (start end : State) → HasBegunToPut name host over given given_after start end → GoesOn start end
  begun_leads start end (inl (result, copies)) = called_leads start end (copied_called name host over start given result end given_after copies)
  begun_leads start end (inr begun) = called_leads start end (begun_copying_called name host over start given end given_after begun)

  left_so : FailingLeavesSound → IsStoreLeft (HasBegunToPut name host over given given_after) e → TellsSoundTree e.stored → LeavesSoundTree e.stored_after
  left_so failing left told = (left.after, left.left, all_leave_sound (HasBegunToPut name host over given given_after) begun_leads e.times e.stored left.after failing left.lawful told)

  -- the calls that what was said tells of
  came_left : (after : Stored) (ended : PutEnd) → e.stored_after ≡ Some after → IsEndOf e.times e.stored after name host over given given_after ended → IsStoreLeft (HasBegunToPut name host over given given_after) e
  came_left after ended is (unmounted why outcome failed told same ended_as) = record { after = after; left = is; lawful = unmounted_left why failed }
  came_left after ended is (mounted result on ended_as) = record { after = after; left = is; lawful = ran (was_put on.start on.end after on.mounted (sym on.left) (inl (result, on.copies))) }

  pub put_leaves : FailingLeavesSound → PutCourse name host over given given_after e status → TellsSoundTree e.stored → LeavesSoundTree e.stored_after
  put_leaves failing (printed ended p all is) told = left_so failing (came_left p.after ended p.left p.came) told
  put_leaves failing (cut_off ended p part is) told = left_so failing (came_left p.after ended p.left p.came) told
  put_leaves failing (starved why after is failed same untold said) told = left_so failing (record { after = after; left = is; lawful = unmounted_left why failed }) told
  put_leaves failing (exhausted after is run untold said) told = left_so failing (record { after = after; left = is; lawful = ran run }) told

  -- ---- statuses

  pub put_undamaged : PutCourse name host over given given_after e status → TellsSoundTree e.stored → status ≢ 7
  put_undamaged (printed ended p all is) told seven = put_seven status ended (p.undamaged told) is seven
  put_undamaged (cut_off ended p part is) told seven = omega (arith, is, seven)
  put_undamaged (starved why after same failed kept untold is) told seven = omega (arith, is, seven)
  put_undamaged (exhausted after same run untold is) told seven = omega (arith, is, seven)
