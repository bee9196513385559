-- What the status of a run says.
use Rattle.std.proofs.Common.{◌≡◌, ℕ, ◌⊎◌, inl, inr, Bool, true, false, ◌||◌, List, [], ◌∷◌, ◌++◌, Some, refl, ap, sym, ◌∙◌, subst}
use Rattle.std.specs.List.{AllByRecursion}
use Rattle.plfs_types.specs.Counts.{HasRisen}
use Rattle.edge_io.specs.Sink.{Taking}
use Rattle.store_api.specs.declared.tree.Tree.{Tree}
use Rattle.store_api.specs.Acts.{Stored}
use Rattle.store_api.specs.AllKept.{all_kept}
use Rattle.store_api.specs.Names.{same_name}
use Rattle.store_laws.specs.Differ.{is_listed}
use Rattle.store_laws.specs.There.{IsFree}
use Rattle.store_laws.proofs.Facts.{name_eq, name_refl}
use Rattle.mount_model.specs.Paths.{Name}
use Rattle.store_api.specs.Names.{marks_name}
use Rattle.mount_sound.specs.Sound.{IsSoundTree}
use Rattle.tree_laws.specs.Checked.{HoldsBytes, IsCheckedTree}
use Rattle.tree_laws.specs.Complaints.{Complaint as Kind, InRoomOf, IsBroken}
use Rattle.tree_laws.specs.Listable.{IsListable}
use Rattle.shape_check.specs.declared.finding.Complaint.{Complaint}
use Rattle.shape_check.specs.Rightness.{complaint_of}
use Rattle.shape_check.specs.Seeing.{IsSeen}
use Rattle.tree_check.specs.declared.halting.Halt.{Halt}
use Rattle.tree_check.specs.declared.halting.Halt.TheVariants.{Fault, NoMemory, Untold}
use Rattle.tree_check.specs.Complaining.{AreToldOf, IsRightIn, IsRightOf}
use Rattle.tree_check.specs.Rooms.{IsRightRoom}
use Rattle.tree_check.proofs.Facts.{bytes_kept, listable_kept, names_there, rooms_checked, seen_kept}
use Rattle.program_ends.specs.Ends.{Ends}
use Rattle.program_ends.specs.Reported.{IsReported}
use Rattle.check_program.specs.declared.words.CheckCommand.{CheckCommand}
use Rattle.check_program.specs.declared.words.CheckCommand.TheVariants.{All, One}
use Rattle.check_program.specs.Course.{AreAsked, AreThere, BreaksOff, CheckCourse, ChecksOn, ChecksRooms, IsHalted, OfTold, absent, broken, checked, checks, first_asked, halted, sound, stopped, unlisted, marks_untold, unsaid, usage}
use Rattle.check_program.specs.Lines.{halt_status, halt_text, no_file_line, sound_line}
use Rattle.check_program.specs.Verdict.{HasFailed, IsUnchanged, IsVerdict, Tells, WorkedWell}
use Rattle.check_program.specs.Words.{IsCheckCommand}

-- ---- what is told of each of several rooms

-- nothing is complained of any
pub none_told : (tree : Tree) (names : List Name) → AreToldOf tree names [] → (name : Name) → is_listed name names ≡ true → InRoomOf tree name (IsRightRoom tree)
none_told tree [] told name listed = absurd (cc)
none_told tree (n ∷ names) told name listed = by_name (same_name n name) refl listed (none_told tree names (subst (AreToldOf tree names) (nothing told.0 told.1 told.2).1 told.4) name)
  where
    nothing : (first rest : List Complaint) → [] ≡ first ++ rest → (first ≡ []) × (rest ≡ [])
    nothing [] rest e = (refl, sym e)
    nothing (c ∷ first) rest e = absurd (cc)

    by_name : (same : Bool) → same_name n name ≡ same → (same || is_listed name names) ≡ true → (is_listed name names ≡ true → InRoomOf tree name (IsRightRoom tree)) → InRoomOf tree name (IsRightRoom tree)
    by_name true same e rest = subst (λ (m : Name). InRoomOf tree m (IsRightRoom tree)) (name_eq n name same) (told.3.none (nothing told.0 told.1 told.2).0)
    by_name false same e rest = rest e

-- all complaints are right
right_both : (tree : Tree) (a b : List Complaint) → AllByRecursion (IsRightOf tree) a → AllByRecursion (IsRightOf tree) b → AllByRecursion (IsRightOf tree) (a ++ b)
right_both tree [] b all more = more
right_both tree (c ∷ a) b all more = (all.0, right_both tree a b all.1 more)

right_alone : (tree : Tree) (name : Name) (found : List Complaint) → AllByRecursion (IsRightIn tree name) found → AllByRecursion (IsRightOf tree) found
right_alone tree name [] all = tt
right_alone tree name (c ∷ found) all = (all.0.0, right_alone tree name found all.1)

pub all_right : (tree : Tree) (names : List Name) (found : List Complaint) → AreToldOf tree names found → AllByRecursion (IsRightOf tree) found
all_right tree [] found told = subst (AllByRecursion (IsRightOf tree)) (sym told) tt
all_right tree (n ∷ names) found told = subst (AllByRecursion (IsRightOf tree)) (sym told.2) (right_both tree told.0 told.1 (right_alone tree n told.0 told.3.right) (all_right tree names told.1 told.4))

listed_first : (name : Name) → is_listed name (name ∷ []) ≡ true
listed_first name = ap (λ (b : Bool). b || false) (name_refl name)

-- ---- what a status is of

-- the sink or the store has failed, by the counts before and after
abbrev SinkFailed : Taking → Taking → Type 0
SinkFailed taking taking_after = HasRisen taking.faults taking_after.faults ⊎ HasRisen taking.stalls taking_after.stalls

data StatusIs (P Fine Wrong : Tree → Type 0) (old new : Stored) (taking taking_after : Taking) (status : ℕ) : Type 0 where
  is_sound : status ≡ 0 → OfTold P Fine old → StatusIs P Fine Wrong old new taking taking_after status
  is_broken : status ≡ 7 → OfTold P Wrong old → StatusIs P Fine Wrong old new taking taking_after status
  is_absent : status ≡ 1 → StatusIs P Fine Wrong old new taking taking_after status
  is_starved : status ≡ 3 → StatusIs P Fine Wrong old new taking taking_after status
  is_faulty : status ≡ 4 → HasRisen old.faults new.faults → StatusIs P Fine Wrong old new taking taking_after status
  is_cut_off : status ≡ 6 → SinkFailed taking taking_after → StatusIs P Fine Wrong old new taking taking_after status

module _ (P Fine Wrong : Tree → Type 0) (old new : Stored) (taking taking_after : Taking) (status : ℕ) where
  -- a text was reported behind others
  reported : (text : List ℕ) (decided : ℕ) (mid : Taking) → mid.faults ≡ taking.faults → mid.stalls ≡ taking.stalls → (status ≡ decided → StatusIs P Fine Wrong old new taking taking_after status) → IsReported text decided mid taking_after status
      → StatusIs P Fine Wrong old new taking taking_after status
  reported text decided mid faults stalls all (inl told) = all told.0
  reported text decided mid faults stalls all (inr (inl part)) = is_cut_off part.0 (elim part.1.cause [
    | inl rose ↦ inl (subst (λ (n : ℕ). HasRisen n taking_after.faults) faults rose)
    | inr rose ↦ inr (subst (λ (n : ℕ). HasRisen n taking_after.stalls) stalls rose)
  ])
  reported text decided mid faults stalls all (inr (inr none)) = is_starved none.0

  halt_is : (halt : Halt) → (halt ≡ Fault → HasRisen old.faults new.faults) → ((tree : Tree) → IsSeen old tree → P tree → halt ≡ Untold → ⊥) → status ≡ halt_status halt → StatusIs P Fine Wrong old new taking taking_after status
  halt_is Fault cause told is = is_faulty is (cause refl)
  halt_is NoMemory cause told is = is_starved is
  halt_is Untold cause told is = is_broken is (λ tree seen has. absurd (told tree seen has refl))

  halted_is : (room : Name) (mid : Taking) → mid.faults ≡ taking.faults → mid.stalls ≡ taking.stalls → IsHalted P room old new mid taking_after status → StatusIs P Fine Wrong old new taking taking_after status
  halted_is room mid faults stalls h = reported (halt_text room h.halt) (halt_status h.halt) mid faults stalls (halt_is h.halt h.why.cause h.why.told) h.reported

  off_is : (room : Name) (mid : Taking) → mid.faults ≡ taking.faults → mid.stalls ≡ taking.stalls → BreaksOff P room old new mid taking_after status → StatusIs P Fine Wrong old new taking taking_after status
  off_is room mid faults stalls (halted h) = halted_is room mid faults stalls h
  off_is room mid faults stalls (unsaid found told (inl part)) = is_cut_off part.0 (elim part.1.cause [
    | inl rose ↦ inl (subst (λ (n : ℕ). HasRisen n taking_after.faults) faults rose)
    | inr rose ↦ inr (subst (λ (n : ℕ). HasRisen n taking_after.stalls) stalls rose)
  ])
  off_is room mid faults stalls (unsaid found told (inr none)) = is_starved none.0

-- ---- of a run

-- the rooms that are asked for are as in a sound tree
abbrev AreFine : CheckCommand → Tree → Type 0
AreFine command tree = (names : List Name) × AreAsked command names tree × ((name : Name) → is_listed name names ≡ true → InRoomOf tree name (IsRightRoom tree))

-- some complaint is right
abbrev IsWrong : Tree → Type 0
IsWrong tree = (complaint : Kind) × IsBroken tree complaint

are_there : (command : CheckCommand) (names : List Name) (tree : Tree) → IsListable tree → AreAsked command names tree → AreThere names tree
are_there All names tree listable are = record { listable = listable; there = names_there tree names are }
are_there (One name) names tree listable are = record {
  listable = listable;
  there = λ other listed free. are.1 (subst (λ (n : Name). IsFree tree n) (sym (only other (subst (λ (l : List Name). is_listed other l ≡ true) are.0 listed))) free);
}
  where
    or_none : (b : Bool) → (b || false) ≡ true → b ≡ true
    or_none true e = refl
    or_none false e = e

    only : (other : Name) → is_listed other (name ∷ []) ≡ true → name ≡ other
    only other listed = name_eq name other (or_none (same_name name other) listed)

module _ (command : CheckCommand) (old new : Stored) (taking taking_after : Taking) (status : ℕ) where
  there_of : (names : List Name) → OfTold IsListable (AreAsked command names) old → OfTold IsListable (AreThere names) old
  there_of names asked tree seen listable = are_there command names tree listable (asked tree seen listable)

  of_there : (names : List Name) → OfTold IsListable (AreAsked command names) old → StatusIs (AreThere names) (AreFine command) IsWrong old new taking taking_after status → StatusIs IsListable (AreFine command) IsWrong old new taking taking_after status
  of_there names asked (is_sound is fine) = is_sound is (λ tree seen listable. fine tree seen (there_of names asked tree seen listable))
  of_there names asked (is_broken is wrong) = is_broken is (λ tree seen listable. wrong tree seen (there_of names asked tree seen listable))
  of_there names asked (is_absent is) = is_absent is
  of_there names asked (is_starved is) = is_starved is
  of_there names asked (is_faulty is rose) = is_faulty is rose
  of_there names asked (is_cut_off is rose) = is_cut_off is rose

  rooms_is : (names : List Name) → OfTold IsListable (AreAsked command names) old → ChecksRooms (AreThere names) names old new taking taking_after status → StatusIs IsListable (AreFine command) IsWrong old new taking taking_after status
  rooms_is names asked (sound told said) = reported IsListable (AreFine command) IsWrong old new taking taking_after status sound_line 0 taking refl refl
      (λ is. is_sound is (λ tree seen listable. (names, asked tree seen listable, none_told tree names (told tree seen (there_of names asked tree seen listable))))) said
  rooms_is names asked (broken first more told printed is) = is_broken is (λ tree seen listable. (complaint_of first, (all_right tree names (first ∷ more) (told tree seen (there_of names asked tree seen listable))).0))
  rooms_is names asked (stopped b) = of_there names asked (off_is (AreThere names) (AreFine command) IsWrong old new taking taking_after status b.room b.mid b.said.printed.faults b.said.printed.stalls b.off)
  rooms_is names asked (marks_untold h) = of_there names asked (halted_is (AreThere names) (AreFine command) IsWrong old new taking taking_after status marks_name taking refl refl h)

  checked_is : ChecksOn command old new taking taking_after status → StatusIs IsListable (AreFine command) IsWrong old new taking taking_after status
  checked_is (unlisted h) = halted_is IsListable (AreFine command) IsWrong old new taking taking_after status (first_asked command) taking refl refl h
  checked_is (absent name is free said) = reported IsListable (AreFine command) IsWrong old new taking taking_after status no_file_line 1 taking refl refl (λ s. is_absent s) said
  checked_is (checked names asked c) = rooms_is names asked c

-- ---- what each status says

module _ (words : List (List ℕ)) (e : Ends) (status : ℕ) where
  fine_of : (command : CheckCommand) (after : Stored) → StatusIs IsListable (AreFine command) IsWrong e.stored after e.taking e.taking_after status → status ≡ 0 → OfTold IsListable (AreFine command) e.stored
  fine_of command after (is_sound is fine) zero = fine
  fine_of command after (is_broken is wrong) zero = (let clash : 7 ≡ 0 = sym is ∙ zero in absurd (cc))
  fine_of command after (is_absent is) zero = (let clash : 1 ≡ 0 = sym is ∙ zero in absurd (cc))
  fine_of command after (is_starved is) zero = (let clash : 3 ≡ 0 = sym is ∙ zero in absurd (cc))
  fine_of command after (is_faulty is rose) zero = (let clash : 4 ≡ 0 = sym is ∙ zero in absurd (cc))
  fine_of command after (is_cut_off is rose) zero = (let clash : 6 ≡ 0 = sym is ∙ zero in absurd (cc))

  wrong_of : (command : CheckCommand) (after : Stored) → StatusIs IsListable (AreFine command) IsWrong e.stored after e.taking e.taking_after status → status ≡ 7 → OfTold IsListable IsWrong e.stored
  wrong_of command after (is_sound is fine) seven = (let clash : 0 ≡ 7 = sym is ∙ seven in absurd (cc))
  wrong_of command after (is_broken is wrong) seven = wrong
  wrong_of command after (is_absent is) seven = (let clash : 1 ≡ 7 = sym is ∙ seven in absurd (cc))
  wrong_of command after (is_starved is) seven = (let clash : 3 ≡ 7 = sym is ∙ seven in absurd (cc))
  wrong_of command after (is_faulty is rose) seven = (let clash : 4 ≡ 7 = sym is ∙ seven in absurd (cc))
  wrong_of command after (is_cut_off is rose) seven = (let clash : 6 ≡ 7 = sym is ∙ seven in absurd (cc))

  faulty_of : (command : CheckCommand) (after : Stored) → StatusIs IsListable (AreFine command) IsWrong e.stored after e.taking e.taking_after status → status ≡ 4 → HasRisen e.stored.faults after.faults
  faulty_of command after (is_sound is fine) four = (let clash : 0 ≡ 4 = sym is ∙ four in absurd (cc))
  faulty_of command after (is_broken is wrong) four = (let clash : 7 ≡ 4 = sym is ∙ four in absurd (cc))
  faulty_of command after (is_absent is) four = (let clash : 1 ≡ 4 = sym is ∙ four in absurd (cc))
  faulty_of command after (is_starved is) four = (let clash : 3 ≡ 4 = sym is ∙ four in absurd (cc))
  faulty_of command after (is_faulty is rose) four = rose
  faulty_of command after (is_cut_off is rose) four = (let clash : 6 ≡ 4 = sym is ∙ four in absurd (cc))

  verdict_of : (command : CheckCommand) (after : Stored) → e.stored_after ≡ Some after → StatusIs IsListable (AreFine command) IsWrong e.stored after e.taking e.taking_after status → WorkedWell e → IsVerdict status
  verdict_of command after left (is_sound is fine) well = inl is
  verdict_of command after left (is_broken is wrong) well = inr (inl is)
  verdict_of command after left (is_absent is) well = inr (inr (inl is))
  verdict_of command after left (is_starved is) well = inr (inr (inr (inr is)))
  verdict_of command after left (is_faulty is rose) well = absurd (well.store (after, left, rose))
  verdict_of command after left (is_cut_off is (inl rose)) well = absurd (well.sink rose)
  verdict_of command after left (is_cut_off is (inr rose)) well = absurd (well.stalls rose)

  -- the words are one command
  no_words : (command : CheckCommand) → IsCheckCommand words command → words ≡ [] → command ≡ All
  no_words All is none = refl
  no_words (One name) is none = (let clash : [] ≡ name ∷ [] = sym none ∙ is.0 in absurd (cc))

  one_word : (command : CheckCommand) (name : Name) → IsCheckCommand words command → words ≡ name ∷ [] → command ≡ One name
  one_word All name is one = (let clash : [] ≡ name ∷ [] = sym is ∙ one in absurd (cc))
  one_word (One other) name is one = (let same : other ∷ [] ≡ name ∷ [] = sym is.0 ∙ one in ap One (first_is same))
    where
      first_is : other ∷ [] ≡ name ∷ [] → other ≡ name
      first_is same = cc

  pub says_sound : ((tree : Tree) → HoldsBytes tree → IsCheckedTree tree → IsSoundTree tree) → CheckCourse words e status → (tree : Tree) → Tells e.stored tree → HoldsBytes tree → words ≡ [] → status ≡ 0 → IsSoundTree (all_kept tree)
  says_sound law (usage none untouched said is) tree tells bytes words_are zero = (let clash : 2 ≡ 0 = sym is ∙ zero in absurd (cc))
  says_sound law (checks command after is left looked on) tree tells bytes words_are zero = (
      let F : CheckCommand → Type 0 = λ c. OfTold IsListable (AreFine c) e.stored in
      let fine = subst F (no_words command is words_are) (fine_of command after (checked_is command e.stored after e.taking e.taking_after status on) zero) in
      let f = fine (all_kept tree) (seen_kept tree e.stored tells.tells) (listable_kept tree tells.listable) in
      law (all_kept tree) (bytes_kept tree bytes) (rooms_checked (all_kept tree) f.0 (listable_kept tree tells.listable) f.1 f.2))

  pub says_fine : CheckCourse words e status → (tree : Tree) (name : Name) → Tells e.stored tree → words ≡ name ∷ [] → status ≡ 0 → InRoomOf (all_kept tree) name (IsRightRoom (all_kept tree))
  says_fine (usage none untouched said is) tree name tells words_are zero = (let clash : 2 ≡ 0 = sym is ∙ zero in absurd (cc))
  says_fine (checks command after is left looked on) tree name tells words_are zero = (
      let F : CheckCommand → Type 0 = λ c. OfTold IsListable (AreFine c) e.stored in
      let fine = subst F (one_word command name is words_are) (fine_of command after (checked_is command e.stored after e.taking e.taking_after status on) zero) in
      let f = fine (all_kept tree) (seen_kept tree e.stored tells.tells) (listable_kept tree tells.listable) in
      f.2 name (subst (λ (l : List Name). is_listed name l ≡ true) (sym f.1.0) (listed_first name)))

  pub says_broken : ((tree : Tree) (complaint : Kind) → IsBroken tree complaint → IsSoundTree tree → ⊥) → CheckCourse words e status → (tree : Tree) → Tells e.stored tree → status ≡ 7 → IsSoundTree (all_kept tree) → ⊥
  says_broken law (usage none untouched said is) tree tells seven = (let clash : 2 ≡ 7 = sym is ∙ seven in absurd (cc))
  says_broken law (checks command after is left looked on) tree tells seven = (
      let wrong = wrong_of command after (checked_is command e.stored after e.taking e.taking_after status on) seven in
      let w = wrong (all_kept tree) (seen_kept tree e.stored tells.tells) (listable_kept tree tells.listable) in
      law (all_kept tree) w.0 w.1)

  pub says_fault : CheckCourse words e status → status ≡ 4 → HasFailed e.stored e.stored_after
  says_fault (usage none untouched said is) four = (let clash : 2 ≡ 4 = sym is ∙ four in absurd (cc))
  says_fault (checks command after is left looked on) four = (after, left, faulty_of command after (checked_is command e.stored after e.taking e.taking_after status on) four)

  pub says_verdict : CheckCourse words e status → WorkedWell e → IsVerdict status
  says_verdict (usage none untouched said is) well = inr (inr (inr (inl is)))
  says_verdict (checks command after is left looked on) well = verdict_of command after left (checked_is command e.stored after e.taking e.taking_after status on) well

  pub stays : CheckCourse words e status → IsUnchanged e.stored e.stored_after
  stays (usage none untouched said is) = (e.stored, untouched, refl)
  stays (checks command after is left looked on) = (after, left, looked.same)
