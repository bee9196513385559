-- What is told of rooms, of one after the other.
use Rattle.std.proofs.Common.{◌≡◌, ℕ, zero, suc, ◌+◌, ◌≤◌, Bool, true, false, ◌||◌, List, [], ◌∷◌, ◌++◌, length, take, Option, Some, Result, Ok, Err, refl, ap, sym, ◌∙◌, subst, append-nil, append_assoc, arith}
use Rattle.std.specs.Prelude.{slice_get, IfErr}
use Rattle.std.proofs.lemmas.List.{take_all}
use Rattle.edge_io.specs.Sink.{Taking}
use Rattle.store_api.specs.declared.tree.Tree.{Tree}
use Rattle.store_api.specs.Acts.{Stored}
use Rattle.store_laws.specs.Says.{AreRoomNames}
use Rattle.mount_model.specs.Paths.{Name}
use Rattle.store_api.specs.Names.{marks_name}
use Rattle.tree_laws.specs.Listable.{IsListable}
use Rattle.shape_check.specs.declared.finding.Complaint.{Complaint}
use Rattle.shape_check.specs.Seeing.{IsSeen, IsLookedAt, IsAny}
use Rattle.shape_check.specs.Told.{TellsRoom}
use Rattle.shape_check.proofs.Facts.{looked_same, risen_on, seen_on}
use Rattle.tree_check.specs.declared.halting.Halt.{Halt}
use Rattle.tree_check.specs.Complaining.{AreToldOf, IsToldOf}
use Rattle.tree_check.specs.Halting.{Halts}
use Rattle.tree_check.specs.Rooms.{HasRooms, IsNamed}
use Rattle.tree_check.proofs.Facts.{listed_there}
use Rattle.program_ends.specs.Reported.{IsReported}
use Rattle.program_ends.specs.Output.{IsPrinted}
use Rattle.check_program.specs.declared.words.CheckCommand.{CheckCommand}
use Rattle.check_program.specs.declared.words.CheckCommand.TheVariants.{All, One}
use Rattle.check_program.specs.Course.{AreAsked, AreThere, BreaksOff, BreaksOffBehind, ChecksOn, ChecksRooms, IsHalted, OfTold, SaysRoom, SaysRooms, broken, checked, first_asked, halted, sound, stopped, unlisted, marks_untold, unsaid}
use Rattle.check_program.specs.Lines.{are_some, complaint_lines, halt_status, halt_text, sound_line}
use Rattle.check_program.proofs.Printing.{first_of, lines_printed, none_of, printed_none, printed_nothing, some_of_both}

-- ---- one room more

told_more : (tree : Tree) (names : List Name) (i : ℕ) (name : Name) (found first : List Complaint) → slice_get names i ≡ Some name → AreToldOf tree (take i names) found → IsToldOf first name tree → AreToldOf tree (take (suc i) names) (found ++ first)
told_more tree [] i name found first at before this = absurd (cc)
told_more tree (n ∷ ns) zero name found first at before this = (
    let same : n ≡ name = cc in
    (first, [], ap (λ (l : List Complaint). l ++ first) before ∙ sym (append-nil first), subst (λ (m : Name). IsToldOf first m tree) (sym same) this, refl))
told_more tree (n ∷ ns) (suc i) name found first at before this =
    (before.0, before.1 ++ first, ap (λ (l : List Complaint). l ++ first) before.2 ∙ append_assoc before.0 before.1 first, before.3, told_more tree ns i name before.1 first at before.4 this)

-- ---- what is known of less

-- Q holds wherever P does, of what the store shows
abbrev pub Gives : Stored → (Tree → Type 0) → (Tree → Type 0) → Type 0
Gives stored P Q = (tree : Tree) → IsSeen stored tree → P tree → Q tree

module _ (P Q : Tree → Type 0) (old mid : Stored) (gives : Gives old P Q) (looked : IsLookedAt old mid) where
  pub told_on : (T : Tree → Type 0) → OfTold Q T mid → OfTold P T old
  told_on T told = λ tree seen has. told tree (seen_on old mid tree looked seen) (gives tree seen has)

  pub halts_on : (new : Stored) (halt : Halt) → Halts Q mid new halt → Halts P old new halt
  halts_on new halt h = record {
    cause = λ e. risen_on old.faults mid.faults new.faults looked.counted (h.cause e);
    told = λ tree seen has. h.told tree (seen_on old mid tree looked seen) (gives tree seen has);
  }

  pub halted_on : (room : Name) (new : Stored) (taking taking_after : Taking) (status : ℕ) → IsHalted Q room mid new taking taking_after status → IsHalted P room old new taking taking_after status
  halted_on room new taking taking_after status h = record { halt = h.halt; why = halts_on new h.halt h.why; reported = h.reported }

  pub off_on : (room : Name) (new : Stored) (taking taking_after : Taking) (status : ℕ) → BreaksOff Q room mid new taking taking_after status → BreaksOff P room old new taking taking_after status
  off_on room new taking taking_after status (halted h) = halted (halted_on room new taking taking_after status h)
  off_on room new taking taking_after status (unsaid found told rest) = unsaid found (told_on (IsToldOf found room) told) rest

  pub said_on : (names : List Name) (taking taking_after : Taking) (any : Bool) → SaysRooms Q names mid taking taking_after any → SaysRooms P names old taking taking_after any
  said_on names taking taking_after any s = record { found = s.found; told = told_on (λ tree. AreToldOf tree names s.found) s.told; printed = s.printed; any = s.any }

  pub behind_on : (names : List Name) (new : Stored) (taking taking_after : Taking) (status : ℕ) → BreaksOffBehind Q names mid new taking taking_after status → BreaksOffBehind P names old new taking taking_after status
  behind_on names new taking taking_after status b = record {
    count = b.count;
    room = b.room;
    is_next = b.is_next;
    mid = b.mid;
    any = b.any;
    said = said_on (take b.count names) taking b.mid b.any b.said;
    off = off_on b.room new b.mid taking_after status b.off;
  }

  pub checks_on : (names : List Name) (new : Stored) (taking taking_after : Taking) (status : ℕ) → ChecksRooms Q names mid new taking taking_after status → ChecksRooms P names old new taking taking_after status
  checks_on names new taking taking_after status (sound told said) = sound (told_on (λ tree. AreToldOf tree names []) told) said
  checks_on names new taking taking_after status (broken first more told printed is) = broken first more (told_on (λ tree. AreToldOf tree names (first ∷ more)) told) printed is
  checks_on names new taking taking_after status (stopped b) = stopped (behind_on names new taking taking_after status b)
  checks_on names new taking taking_after status (marks_untold h) = marks_untold (halted_on marks_name new taking taking_after status h)

-- ---- the loop

module _ (marks : Option ℕ) (names : List Name) (old : Stored) where
  pub said_none : (P : Tree → Type 0) (taking : Taking) → SaysRooms P (take 0 names) old taking taking false
  said_none P taking = record { found = []; told = λ tree seen has. refl; printed = printed_none taking; any = refl }

  named_at : (i : ℕ) (name : Name) → slice_get names i ≡ Some name → Gives old (HasRooms marks names) (IsNamed marks name)
  named_at i name at tree seen has = record { marked = has.marked; there = has.there name (listed_there names i name at) }

  told_at : (i : ℕ) (name : Name) (mid : Stored) (found first : List Complaint) → slice_get names i ≡ Some name → IsLookedAt old mid → OfTold (HasRooms marks names) (λ tree. AreToldOf tree (take i names) found) old
      → OfTold (IsNamed marks name) (IsToldOf first name) mid → OfTold (HasRooms marks names) (λ tree. AreToldOf tree (take (i + 1) names) (found ++ first)) old
  told_at i name mid found first at looked before this tree seen has =
      let next : suc i ≡ i + 1 = omega arith in
      subst (λ (n : ℕ). AreToldOf tree (take n names) (found ++ first)) next
      (told_more tree names i name found first at (before tree seen has) (this tree (seen_on old mid tree looked seen) (named_at i name at tree seen has)))

  pub said_more : (i : ℕ) (name : Name) (mid : Stored) (taking now taking_after : Taking) (any this both : Bool) → slice_get names i ≡ Some name → IsLookedAt old mid → SaysRooms (HasRooms marks names) (take i names) old taking now any
      → SaysRoom (IsNamed marks name) name mid now taking_after this → both ≡ (any || this) → SaysRooms (HasRooms marks names) (take (i + 1) names) old taking taking_after both
  said_more i name mid taking now taking_after any this both at looked s r is = record {
    found = s.found ++ r.found;
    told = told_at i name mid s.found r.found at looked s.told r.told;
    printed = lines_printed s.found r.found taking now taking_after s.printed r.printed;
    any = is ∙ ap (λ (b : Bool). b || this) s.any ∙ ap (λ (b : Bool). are_some s.found || b) r.any ∙ sym (some_of_both s.found r.found);
  }

  pub said_all : (i : ℕ) (taking now : Taking) (any : Bool) → length names ≤ i → SaysRooms (HasRooms marks names) (take i names) old taking now any → SaysRooms (HasRooms marks names) names old taking now any
  said_all i taking now any past s = subst (λ (l : List Name). SaysRooms (HasRooms marks names) l old taking now any) (take_all i names past) s

  pub off_behind : (i : ℕ) (name : Name) (mid new : Stored) (taking now taking_after : Taking) (any : Bool) (status : ℕ) → slice_get names i ≡ Some name → IsLookedAt old mid → SaysRooms (HasRooms marks names) (take i names) old taking now any
      → BreaksOff (IsNamed marks name) name mid new now taking_after status → BreaksOffBehind (HasRooms marks names) names old new taking taking_after status
  off_behind i name mid new taking now taking_after any status at looked s off = record {
    count = i;
    room = name;
    is_next = at;
    mid = now;
    any = any;
    said = s;
    off = off_on (HasRooms marks names) (IsNamed marks name) old mid (named_at i name at) looked name new now taking_after status off;
  }

module _ (marks : Option ℕ) (names : List Name) (old : Stored) where
  pub all_off_behind : (i : ℕ) (name : Name) (mid new : Stored) (taking now taking_after : Taking) (any : Bool) (result : Result Bool ℕ) → slice_get names i ≡ Some name → IsLookedAt old mid → SaysRooms (HasRooms marks names) (take i names) old taking now any
      → IfErr result (BreaksOff (IsNamed marks name) name mid new now taking_after) → IfErr result (BreaksOffBehind (HasRooms marks names) names old new taking taking_after)
  all_off_behind i name mid new taking now taking_after any (Ok value) at looked s off = tt
  all_off_behind i name mid new taking now taking_after any (Err status) at looked s off = off_behind marks names old i name mid new taking now taking_after any status at looked s off

-- ---- the rooms of these names

-- what the store tells of the room of marks
abbrev pub ShowsMarks : Stored → Option ℕ → Type 0
ShowsMarks old marks = (tree : Tree) → IsSeen old tree → TellsRoom tree marks_name marks

-- whatever the tree is
pub any_halt : (P : Tree → Type 0) (old new : Stored) (room : Name) (halt : Halt) (taking taking_after : Taking) (status : ℕ) → Halts IsAny old new halt → IsReported (halt_text room halt) (halt_status halt) taking taking_after status
    → IsHalted P room old new taking taking_after status
any_halt P old new room halt taking taking_after status h said = record { halt = halt; why = halts_on P IsAny old old (λ tree seen has. tt) (looked_same old) new halt h; reported = said }

module _ (names : List Name) (marks : Option ℕ) (old mid new : Stored) (shows : ShowsMarks old marks) (looked : IsLookedAt old mid) (taking taking_after : Taking) where
  has_rooms : Gives old (AreThere names) (HasRooms marks names)
  has_rooms tree seen are = record { marked = record { listable = are.listable; tells = shows tree seen }; there = are.there }

  pub rooms_stop : (status : ℕ) → BreaksOffBehind (HasRooms marks names) names mid new taking taking_after status → ChecksRooms (AreThere names) names old new taking taking_after status
  rooms_stop status off = stopped (behind_on (AreThere names) (HasRooms marks names) old mid has_rooms looked names new taking taking_after status off)

  pub rooms_broken : (any : Bool) (status : ℕ) → any ≡ true → SaysRooms (HasRooms marks names) names mid taking taking_after any → status ≡ 7 → ChecksRooms (AreThere names) names old new taking taking_after status
  rooms_broken any status some s is = (
      let f = first_of s.found (sym some ∙ s.any) in
      broken f.0 f.1
      (told_on (AreThere names) (HasRooms marks names) old mid has_rooms looked (λ tree. AreToldOf tree names (f.0 ∷ f.1)) (subst (λ (l : List Complaint). OfTold (HasRooms marks names) (λ tree. AreToldOf tree names l) mid) f.2 s.told))
      (subst (λ (l : List Complaint). IsPrinted (complaint_lines l) taking taking_after) f.2 s.printed) is)

  pub rooms_sound : (any : Bool) (now : Taking) (status : ℕ) → any ≡ false → SaysRooms (HasRooms marks names) names mid taking now any → IsReported sound_line 0 now taking_after status → ChecksRooms (AreThere names) names old new taking taking_after status
  rooms_sound any now status none s said = (
      let nothing : s.found ≡ [] = none_of s.found (sym none ∙ s.any) in
      let same : now ≡ taking = printed_nothing taking now (subst (λ (l : List Complaint). IsPrinted (complaint_lines l) taking now) nothing s.printed) in
      sound
      (told_on (AreThere names) (HasRooms marks names) old mid has_rooms looked (λ tree. AreToldOf tree names []) (subst (λ (l : List Complaint). OfTold (HasRooms marks names) (λ tree. AreToldOf tree names l) mid) nothing s.told))
      (subst (λ (t : Taking). IsReported sound_line 0 t taking_after status) same said))

-- ---- the whole run

pub all_asked : (old : Stored) (names : List Name) → ((tree : Tree) → IsSeen old tree → AreRoomNames tree names) → OfTold IsListable (AreAsked All names) old
all_asked old names are tree seen listable = are tree seen

pub one_asked : (old : Stored) (name : Name) (number : ℕ) → ((tree : Tree) → IsSeen old tree → TellsRoom tree name (Some number)) → OfTold IsListable (AreAsked (One name) (name ∷ [])) old
one_asked old name number shows tree seen listable = (refl, λ free. (let of = shows tree seen in free number of.room of.has_room of.named))

pub checks_later : (command : CheckCommand) (names : List Name) (old mid new : Stored) (taking taking_after : Taking) (status : ℕ) → OfTold IsListable (AreAsked command names) old → IsLookedAt old mid
    → ChecksRooms (AreThere names) names mid new taking taking_after status → ChecksOn command old new taking taking_after status
checks_later command names old mid new taking taking_after status asked looked c =
    checked names asked (checks_on (AreThere names) (AreThere names) old mid (λ tree seen are. are) looked names new taking taking_after status c)

pub unlisted_so : (command : CheckCommand) (old new : Stored) (halt : Halt) (taking taking_after : Taking) (status : ℕ) → Halts IsAny old new halt → IsReported (halt_text (first_asked command) halt) (halt_status halt) taking taking_after status
    → ChecksOn command old new taking taking_after status
unlisted_so command old new halt taking taking_after status h said = unlisted (any_halt IsListable old new (first_asked command) halt taking taking_after status h said)
