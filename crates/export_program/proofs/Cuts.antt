-- The files that were kept have the bytes of cuts.
use Rattle.std.proofs.Common.{◌≡◌, ℕ, Bool, false, List, [], ◌∷◌, ◌++◌, Option, Some, None, Ok, refl, sym, ap, ◌∙◌, subst, append_assoc}
use Rattle.std.specs.Prelude.{IfSome}
use Rattle.std.specs.List.{AllByRecursion}
use Rattle.edge_io.specs.Sink.{Taking, TakesOn}
use Rattle.store_api.specs.Acts.{Stored}
use Rattle.mount_model.specs.Paths.{Name}
use Rattle.mount_model.specs.State.{State}
use Rattle.mount_model.specs.History.{state_after}
use Rattle.mount_model.specs.Mounting.{IsMounted}
use Rattle.mount_sound.proofs.Facts.{mounted_sound}
use Rattle.reader_laws.specs.Moments.{IsSoundAt, Moment, moment_after}
use Rattle.reader_laws.proofs.Gathered.Facts.{follows, sound_after}
use Rattle.actor_core.specs.Names.{names_program}
use Rattle.program_ends.specs.Ends.{Ends}
use Rattle.program_ends.specs.SoundTrees.{TellsSoundTree}
use Rattle.export_program.specs.declared.filling.Filled.{Filled}
use Rattle.export_program.specs.Course.{IsExported}
use Rattle.export_program.specs.Exporting.{WritesFile}
use Rattle.export_program.specs.Filling.{BeginsToFill, Fills, FillsMade, KeepsWhole}
use Rattle.export_program.specs.Filling as filling
use Rattle.export_program.specs.Looking.{HasOnlyLooked}
use Rattle.export_program.specs.Passing.{At, HavePassed, Passes, PassesFile, WritesAll, at}
use Rattle.export_program.specs.Passing as passing
use Rattle.export_program.specs.Seen.{HoldCuts, HoldsCut, IsCut, IsSeenWhole}
use Rattle.export_program.specs.Shelf.{Adds, Deed, IsEmpty, kept, starved, unkept, unmade}
use Rattle.export_program.proofs.Leading.{all_both, all_lead, called_both, have_lead, makes_lead}
use Rattle.export_program.proofs.Looks.{names_look}

-- ---- deeds one behind the other

hold_still : (start : State) (old new : Option (List Deed)) → new ≡ old → HoldCuts start old new
hold_still start None new same = same
hold_still start (Some deeds) new same = ([], same, tt)

hold_more : (start : State) (deeds added : List Deed) (new : Option (List Deed)) → AllByRecursion (HoldsCut start) added → HoldCuts start (Some (added ++ deeds)) new → HoldCuts start (Some deeds) new
hold_more start deeds added new all (more, is, all_more) = (more ++ added, is ∙ ap Some (sym (append_assoc more added deeds)), all_both (HoldsCut start) more added all_more all)

hold_both : (start : State) (old mid new : Option (List Deed)) → HoldCuts start old mid → HoldCuts start mid new → HoldCuts start old new
hold_both start None mid new one other = subst (λ (o : Option (List Deed)). HoldCuts start o new) one other
hold_both start (Some deeds) mid new (added, is, all) other = hold_more start deeds added new all (subst (λ (o : Option (List Deed)). HoldCuts start o new) is other)

hold_one : (start : State) (deed : Deed) (old new : Option (List Deed)) → HoldsCut start deed → Adds deed old new → HoldCuts start old new
hold_one start deed None new holds adds = adds
hold_one start deed (Some deeds) new holds adds = (deed ∷ [], adds, (holds, tt))

-- ---- one file

-- what a file has that had no byte and took these
taken_is : (P : List ℕ → Type 0) (bytes : List ℕ) (old new : Option (List ℕ)) → IfSome old (λ b. b ≡ []) → TakesOn bytes old new → P bytes → IfSome new P
taken_is P bytes None new empty takes p = subst (λ (o : Option (List ℕ)). IfSome o P) (sym takes) tt
taken_is P bytes (Some before) new empty takes p = subst (λ (o : Option (List ℕ)). IfSome o P) (sym takes) (subst P (ap (λ (b : List ℕ). b ++ bytes) (sym empty)) p)

-- what the law of a file that is written out says
abbrev pub WholeLaw : Type 0
WholeLaw = (name : Name) (start : Moment) (taking : Taking) (size : ℕ) (end : State) (taking_after : Taking) → IsSoundAt start → WritesFile name start.state taking (Ok size) end taking_after → IsSeenWhole name start taking size taking_after

module _ (law : WholeLaw) (m : Moment) (sound : IsSoundAt m) where
  kept_cut : (name : Name) (taking : Taking) (start : State) (size : ℕ) (end : State) (after : Taking) → HasOnlyLooked m.state start → IsEmpty taking → WritesFile name start taking (Ok size) end after → IfSome after.taken (IsCut m.state name)
  kept_cut name taking start size end after reached empty writes =
      let now : Moment = moment_after m reached.events in
      let here : now.state ≡ state_after m.state reached.events = (follows m reached.events).0 in
      let there : now.state ≡ start = here ∙ reached.made.ends in
      let fine : IsSoundAt now = sound_after m reached.events reached.made.lawful sound in
      let seen : IsSeenWhole name now taking size after = law name now taking size end after fine (subst (λ (s : State). WritesFile name s taking (Ok size) end after) (sym there) writes) in
      taken_is (IsCut m.state name) _ taking.taken after.taken empty seen.written.bytes
      (record { moment = now; reached = record { events = reached.events; made = record { lawful = reached.made.lawful; ends = sym here; own = reached.made.own }; look = reached.look }; sound = fine; sees = seen.sees; is = refl })

  keeps_hold : (name : Name) (taking : Taking) (start : State) (size : ℕ) (end : State) (after : Taking) (deeds : Option (List Deed)) (told : Filled) (deeds_after : Option (List Deed)) → HasOnlyLooked m.state start → IsEmpty taking → WritesFile name start taking (Ok size) end after → KeepsWhole name size after deeds told deeds_after
      → HoldCuts m.state deeds deeds_after
  keeps_hold name taking start size end after deeds told deeds_after reached empty writes (filling.was_kept adds is) = hold_one m.state (kept name after.taken) deeds deeds_after (kept_cut name taking start size end after reached empty writes) adds
  keeps_hold name taking start size end after deeds told deeds_after reached empty writes (filling.was_lost adds is) = hold_one m.state (unkept name) deeds deeds_after tt adds

  made_holds : (name : Name) (taking : Taking) (start : State) (deeds : Option (List Deed)) (told : Filled) (end : State) (deeds_after : Option (List Deed)) → HasOnlyLooked m.state start → IsEmpty taking → FillsMade name taking start deeds told end deeds_after → HoldCuts m.state deeds deeds_after
  made_holds name taking start deeds told end deeds_after reached empty (filling.whole size after writes keeps) = keeps_hold name taking start size end after deeds told deeds_after reached empty writes keeps
  made_holds name taking start deeds told end deeds_after reached empty (filling.stuck why after writes same is) = hold_still m.state deeds deeds_after same
  made_holds name taking start deeds told end deeds_after reached empty (filling.broken after writes same is) = hold_still m.state deeds deeds_after same

  fill_holds : (name : Name) (start : State) (deeds : Option (List Deed)) (told : Filled) (end : State) (deeds_after : Option (List Deed)) → HasOnlyLooked m.state start → Fills name start deeds told end deeds_after → HoldCuts m.state deeds deeds_after
  fill_holds name start deeds told end deeds_after reached (filling.fills taking empty f) = made_holds name taking start deeds told end deeds_after reached empty f
  fill_holds name start deeds told end deeds_after reached (filling.exists adds same is) = hold_one m.state (unmade name _) deeds deeds_after tt adds
  fill_holds name start deeds told end deeds_after reached (filling.failed adds same is) = hold_one m.state (unmade name _) deeds deeds_after tt adds

  begun_holds : (name : Name) (start : State) (deeds : Option (List Deed)) (end : State) (deeds_after : Option (List Deed)) → BeginsToFill name start deeds end deeds_after → HoldCuts m.state deeds deeds_after
  begun_holds name start deeds end deeds_after (filling.in_filling taking empty (filling.in_writing after begins same)) = hold_still m.state deeds deeds_after same
  begun_holds name start deeds end deeds_after (filling.in_filling taking empty (filling.in_keeping size after writes adds)) = hold_one m.state (starved name) deeds deeds_after tt adds
  begun_holds name start deeds end deeds_after (filling.in_making adds same) = hold_one m.state (unmade name _) deeds deeds_after tt adds

  -- ---- one behind the other

  passed_file_holds : (name : Name) (old new : At) (status : ℕ) (ends : Bool) → HasOnlyLooked m.state old.state → PassesFile name old new status ends → HoldCuts m.state old.deeds new.deeds
  passed_file_holds name old new status ends reached (passing.fills told f truly line) = fill_holds name old.state old.deeds told new.state new.deeds reached f
  passed_file_holds name old new status ends reached (passing.broke_off begins untold is last) = begun_holds name old.state old.deeds new.state new.deeds begins

  passes_hold : (name : Name) (old new : At) (status : ℕ) (ends : Bool) → HasOnlyLooked m.state old.state → Passes name old new status ends → HoldCuts m.state old.deeds new.deeds
  passes_hold name old new status ends reached (passing.passes logical f) = passed_file_holds name old new status ends reached f
  passes_hold name old new status ends reached (passing.none other same is last) = hold_still m.state old.deeds new.deeds (ap (λ (a : At). a.deeds) same)

  have_hold : (old : At) (names : List (List ℕ)) (new : At) (ends : Bool) (greatest : ℕ) → HasOnlyLooked m.state old.state → HavePassed old names new ends greatest → HoldCuts m.state old.deeds new.deeds
  have_hold old [] new ends greatest reached h = hold_still m.state old.deeds new.deeds (ap (λ (a : At). a.deeds) h.0)
  have_hold old (name ∷ names) new ends greatest reached (mid, so_far, status, earlier, one, is) =
      hold_both m.state old.deeds mid.deeds new.deeds (have_hold old names mid false so_far reached earlier)
      (passes_hold name mid new status ends (called_both m.state old.state mid.state reached (have_lead old names mid false so_far earlier)) one)

  all_hold : (deeds : Option (List Deed)) (taking : Taking) (new : At) (status : ℕ) → WritesAll (at m.state deeds taking) new status → HoldCuts m.state deeds new.deeds
  all_hold deeds taking new status (passing.listed names mid makes each) = have_hold (at mid deeds taking) each.passed new each.ends status (makes_lead names_program names_look m.state _ mid makes) each.have
  all_hold deeds taking new status (passing.unlisted why makes truly same said) = hold_still m.state deeds new.deeds same
  all_hold deeds taking new status (passing.unnamed begins same untold is) = hold_still m.state deeds new.deeds same

-- ---- the run

cuts_held : WholeLaw → (deeds deeds_after : Option (List Deed)) (e : Ends) (status : ℕ) (start end : State) → IsMounted 0 e.times e.stored start → WritesAll (at start deeds e.taking) (at end deeds_after e.taking_after) status → TellsSoundTree e.stored → HoldCuts start deeds deeds_after
cuts_held law deeds deeds_after e status start end mounted writes (tree, is, of) =
    all_hold law (record { state = start; issued = of.issued }) (mounted_sound 0 e.times e.stored start tree mounted is of) deeds e.taking (at end deeds_after e.taking_after) status writes

pub exported_so : WholeLaw → (deeds deeds_after : Option (List Deed)) (e : Ends) (after : Stored) (status : ℕ) (start end : State) → IsMounted 0 e.times e.stored start → WritesAll (at start deeds e.taking) (at end deeds_after e.taking_after) status → end.store ≡ after → IsExported deeds deeds_after e after status
exported_so law deeds deeds_after e after status start end mounted writes left = record {
  start = start;
  end = end;
  mounted = mounted;
  writes = writes;
  left = left;
  looks = all_lead (at start deeds e.taking) (at end deeds_after e.taking_after) status writes;
  seen = cuts_held law deeds deeds_after e status start end mounted writes;
}
