-- What a mounting finds over a told tree.
use Rattle.std.proofs.Common.{ℕ, zero, suc, ◌≡◌, ◌-◌, ◌<◌, ◌^◌, Bool, true, false, ◌&&◌, ◌||◌, cond, if◌then◌else◌, nat_lt, List, [], ◌∷◌, ◌++◌, length, slice_get, slice_set, Option, Some, None, IfOk, Result, Ok, Err, refl, sym, ap, subst, ◌∙◌, inl, inr, arith}
use Rattle.std.specs.List.{position, position_or_len, find, AllByRecursion}
use Rattle.std.specs.Option.{option_and_then}
use Rattle.std.specs.Fmt.{decimal}
use Rattle.std.specs.Cmp.Lexicographic.{same_text}
use Rattle.std.proofs.lemmas.Bool.Decides.{nat_tests}
use Rattle.std.proofs.lemmas.List.Elements.{recursion_from_All}
use Rattle.std.proofs.lemmas.List.Folds.{find_at}
use Rattle.std.proofs.lemmas.List.Quantifiers.{position-Some}
use Rattle.std.proofs.lemmas.Option.{slice_get_past}
use Rattle.store_api.specs.declared.tree.File.{File}
use Rattle.store_api.specs.declared.tree.Room.{Room}
use Rattle.store_api.specs.declared.tree.Tree.{Tree}
use Rattle.store_api.specs.declared.step.Answer.{Answer}
use Rattle.store_api.specs.declared.step.Answer.TheVariants.{Made, Names, NoFolder}
use Rattle.store_api.specs.declared.store.Trouble.TheVariants as told_trouble
use Rattle.store_api.specs.Acts.{Stored, Goes, Acts}
use Rattle.store_api.specs.Effect.{Effect, effect, number_of, new_room, room_made, or_no_room, room_after}
use Rattle.store_api.specs.Names.{same_name}
use Rattle.store_api.specs.Kept.{empty_file}
use Rattle.store_api.specs.Room as rooms
use Rattle.store_api.specs.Step.{Name, Step}
use Rattle.script_lang.specs.declared.line.Line.{Line}
use Rattle.script_lang.specs.declared.line.Outcome.{Outcome}
use Rattle.mount_model.specs.Making.{Told}
use Rattle.store_api.specs.Names.{marks_folder}
use Rattle.store_api.specs.Names.{marks_name}
use Rattle.mount_model.specs.State.{State}
use Rattle.mount_model.specs.Listed.{IsGreatest, IsMarkOf}
use Rattle.mount_model.specs.Mounting.{marks_step, list_step, mark_step, room_told, IsMounted}
use Rattle.mount_model.specs.declared.mount_trouble.MountTrouble.{MountTrouble}
use Rattle.mount_model.specs.declared.mount_trouble.MountTrouble.TheVariants as trouble
use Rattle.mount_model.specs.Failing.{names_told, made_told, trouble_of, LeavesNone, FailsToMount, no_room, no_names, no_next, no_mark}
use Rattle.program_ends.specs.Mounting.{listed_in, listed_or_none, listed_in_room, listed_marks, AreWhy, HaveNext, unmounted_of, IsUnmounted}
use Rattle.script_lang.specs.declared.line.Outcome.TheVariants as of
use Rattle.script_lang.specs.declared.line.Why.TheVariants.{MountsSpent}
use Rattle.program_ends.specs.Outcomes.{has_line, is_fault}
use Rattle.program_ends.proofs.Mounts.ListingLemmas.{of_listed}
use Rattle.program_ends.proofs.Mounts.MarkLaws.{IsUpTo, above_greatest}

-- ---- lists

slice_get_last : {X : Type 0} (xs : List X) (x : X) → slice_get (xs ++ x ∷ []) (length xs) ≡ Some x
slice_get_last [] x = refl
slice_get_last (y ∷ ys) x = slice_get_last ys x

nowhere : {X : Type 0} (xs : List X) (n : ℕ) (b : Bool) → nat_lt n (length xs) ≡ b → cond b (Some n) None ≡ None → slice_get xs n ≡ None
nowhere xs n true below is = cc
nowhere xs n false below is = slice_get_past xs n (grind (arith, nat_tests))

somewhere : {X : Type 0} (xs : List X) (n i : ℕ) (b : Bool) → nat_lt n (length xs) ≡ b → cond b (Some n) None ≡ Some i → (i ≡ n) × (i < length xs)
somewhere xs n i true below is = let same : n ≡ i = cc in let less : n < length xs = grind (arith, nat_tests) in (sym same, omega arith)
somewhere xs n i false below is = cc

-- where no place has it, none is found
pub find_nowhere : {X : Type 0} (p : X → Bool) (xs : List X) → position p xs ≡ None → find p xs ≡ None
find_nowhere p xs is = find_at p xs ∙ nowhere xs (position_or_len p xs) _ refl is

-- what stands at the first place is found
pub find_there : {X : Type 0} (p : X → Bool) (xs : List X) (i : ℕ) → position p xs ≡ Some i → (slice_get xs i ≡ find p xs) × (i < length xs)
find_there p xs i is =
    let at = somewhere xs (position_or_len p xs) i _ refl is in
    (rw (at.0) (sym (find_at p xs)), at.1)

listed_in_place : (room : Option Room) → (room ≡ None → ⊥) → option_and_then listed_in room ≡ listed_or_none room
listed_in_place None there = absurd (there refl)
listed_in_place (Some room) there = refl

within_is_some : {X : Type 0} (xs : List X) (i : ℕ) → i < length xs → slice_get xs i ≡ None → ⊥
within_is_some [] i inside is = omega arith
within_is_some (x ∷ xs) zero inside is = cc
within_is_some (x ∷ xs) (suc i) inside is = within_is_some xs i (omega arith) is

set_found : {X : Type 0} (xs : List X) (i : ℕ) (x : X) → slice_get xs i ≡ Some x → slice_set xs i x ≡ xs
set_found [] i x is = refl
set_found (y ∷ ys) zero x is = let same : y ≡ x = cc in cc
set_found (y ∷ ys) (suc i) x is = ap (λ l. y ∷ l) (set_found ys i x is)

-- ---- the room of the marks is found or made

abbrev pub is_marks_room : Room → Bool
is_marks_room room = same_name room.name marks_name

-- the room that was told lists what the tree listed before
record Finds (tree : Tree) (e : Effect) : Type 0 where
  tells : (room : ℕ) → room_told (Ok e.answer) ≡ Some room → listed_in_room e.tree room ≡ listed_marks tree
  some : room_told (Ok e.answer) ≡ None → ⊥

same_number : (a b : ℕ) → Some a ≡ Some b → a ≡ b
same_number a b e = cc

finds_where : (tree : Tree) (number : Option ℕ) → number_of tree marks_name ≡ number → Finds tree (room_made tree (new_room marks_name (marks_folder ∷ []) []) number)
finds_where tree None is =
    let made : Tree = record { rooms = tree.rooms ++ new_room marks_name (marks_folder ∷ []) [] ∷ [] } in
    let listed : listed_in_room made (length tree.rooms) ≡ listed_marks tree =
    ap (λ r. option_and_then listed_in r) (slice_get_last tree.rooms (new_room marks_name (marks_folder ∷ []) [])) ∙ sym (ap listed_or_none (find_nowhere is_marks_room tree.rooms is)) in
    record {
      tells = λ room told. subst (λ n. listed_in_room made n ≡ listed_marks tree) (same_number (length tree.rooms) room told) listed;
      some = λ none. cc;
    }
finds_where tree (Some i) is =
    let there = find_there is_marks_room tree.rooms i is in
    let listed : listed_in_room tree i ≡ listed_marks tree = listed_in_place (slice_get tree.rooms i) (within_is_some tree.rooms i there.1) ∙ ap listed_or_none there.0 in
    record {
      tells = λ room told. subst (λ n. listed_in_room tree n ≡ listed_marks tree) (same_number i room told) listed;
      some = λ none. cc;
    }

finds : (tree : Tree) → Finds tree (effect tree marks_step)
finds tree = finds_where tree (number_of tree marks_name) refl

-- ---- the marks are listed

-- the names that were told are those that the room lists, and the tree stays
record Lists (tree : Tree) (n : ℕ) (e : Effect) : Type 0 where
  tells : (names : List Name) → names_told (Ok e.answer) ≡ Some names → (e.tree ≡ tree) × (listed_in_room tree n ≡ Some names)
  other : names_told (Ok e.answer) ≡ None → listed_in_room tree n ≡ None

same_names : (a b : List Name) → Some a ≡ Some b → a ≡ b
same_names a b e = cc

lists_where : (tree : Tree) (n : ℕ) (room : Room) (has : Bool) → rooms.has_folder room marks_folder ≡ has → slice_get tree.rooms n ≡ Some room
    → Lists tree n (room_after tree n (if has then rooms.stays room (Names (rooms.listing room marks_folder)) else rooms.stays room NoFolder))
lists_where tree n room true has is =
    let listed : listed_in_room tree n ≡ Some (rooms.listing room marks_folder) = ap (λ r. option_and_then listed_in r) is ∙ ap (λ h. if h then Some (rooms.listing room marks_folder) else None) has in
    record {
      tells = λ names told. (ap (λ rs. record { rooms = rs }) (set_found tree.rooms n room is), listed ∙ ap (λ ns. Some ns) (same_names (rooms.listing room marks_folder) names told));
      other = λ none. absurd (cc);
    }
lists_where tree n room false has is = record {
  tells = λ names told. absurd (cc);
  other = λ none. ap (λ r. option_and_then listed_in r) is ∙ ap (λ h. if h then Some (rooms.listing room marks_folder) else None) has;
}

lists_in : (tree : Tree) (n : ℕ) (room : Option Room) → slice_get tree.rooms n ≡ room → Lists tree n (or_no_room tree n (λ r. rooms.folder_listed r marks_folder) room)
lists_in tree n None is = record { tells = λ names told. absurd (cc); other = λ none. ap (λ r. option_and_then listed_in r) is }
lists_in tree n (Some room) is = lists_where tree n room (rooms.has_folder room marks_folder) refl is

lists : (tree : Tree) (n : ℕ) → Lists tree n (effect tree (list_step n))
lists tree n = lists_in tree n (slice_get tree.rooms n) refl

-- ---- the next mark is new

abbrev nobody : File
nobody = empty_file [] []

both_pass : (a b : Bool) → (a && b) ≡ true → (a ≡ true) × (b ≡ true)
both_pass true true is = (refl, refl)
both_pass true false is = cc
both_pass false b is = cc

not_there : (room : Room) (names : List Name) (greatest number place : ℕ) → rooms.listing room marks_folder ≡ names → IsGreatest IsMarkOf names greatest → greatest < number → number < 2 ^ 32
    → rooms.place_of room marks_folder (decimal number) ≡ Some place → ⊥
not_there room names greatest number place listed is above fits found =
    let (inside, passes, first) = position-Some (rooms.is_at marks_folder (decimal number)) room.files place nobody found in
    let (in_folder, named) = both_pass _ _ passes in
    let P : List Name → Type 0 = λ ns. AllByRecursion (IsUpTo greatest) ns in
    let mark = of_listed (IsUpTo greatest) room marks_folder place nobody (subst P (sym listed) (recursion_from_All (IsUpTo greatest) names is.numbers)) inside in_folder in
    above_greatest _ greatest number mark (same_text _ (decimal number) (sym named)) above fits

made_where_new : (room : Room) (name : Name) (place : Option ℕ) → ((i : ℕ) → place ≡ Some i → ⊥) → (rooms.made_if_absent room marks_folder name place).answer ≡ Made
made_where_new room name None new = refl
made_where_new room name (Some i) new = absurd (new i refl)

created_where : (room : Room) (name : Name) (names : List Name) (has : Bool) → (if has then Some (rooms.listing room marks_folder) else None) ≡ Some names
    → (rooms.listing room marks_folder ≡ names → (rooms.made_if_absent room marks_folder name (rooms.place_of room marks_folder name)).answer ≡ Made)
    → (if has then rooms.made_if_absent room marks_folder name (rooms.place_of room marks_folder name) else rooms.stays room NoFolder).answer ≡ Made
created_where room name names true is made = made cc
created_where room name names false is made = cc

created_in : (tree : Tree) (n : ℕ) (name : Name) (names : List Name) (room : Option Room) → option_and_then listed_in room ≡ Some names
    → ((r : Room) → rooms.listing r marks_folder ≡ names → (rooms.made_if_absent r marks_folder name (rooms.place_of r marks_folder name)).answer ≡ Made)
    → (or_no_room tree n (λ r. rooms.file_created r marks_folder name) room).answer ≡ Made
created_in tree n name names None is made = cc
created_in tree n name names (Some room) is made = created_where room name names (rooms.has_folder room marks_folder) is (made room)

creates : (tree : Tree) (n number greatest : ℕ) (names : List Name) → listed_in_room tree n ≡ Some names → IsGreatest IsMarkOf names greatest → greatest < number → number < 2 ^ 32 → (effect tree (mark_step n number)).answer ≡ Made
creates tree n number greatest names listed all above fits =
    created_in tree n (decimal number) names (slice_get tree.rooms n) listed
    (λ room here. made_where_new room (decimal number) _ (λ place found. not_there room names greatest number place here all above fits found))

-- ---- acts over a told tree

-- the act was made: the tree goes on by its effect
record GoesOn (step : Step) (tree : Tree) (answer : Answer) (new : Stored) : Type 0 where
  after : Tree
  told : new.tree ≡ Some after
  does : effect tree step ≡ record { tree = after; answer = answer }

goes_on : (step : Step) (old new : Stored) (tree : Tree) (answer : Answer) → old.tree ≡ Some tree → Acts step old new (Ok answer) → GoesOn step tree answer new
goes_on step old new tree answer is made =
    let g = subst (λ o. Goes (λ before after. effect before step ≡ record { tree = after; answer = answer }) o new.tree) is made.tree in
    record { after = g.0; told = g.1; does = g.2 }

-- ---- what the marks say

-- where the act told no answer of its own, it is the store's trouble
failing : (marks : Option (List Name)) (told : Told) (why : MountTrouble) → why ≡ trouble_of told → ((answer : Answer) → told ≡ Ok answer → AreWhy marks trouble.NoMarks) → AreWhy marks why
failing marks (Ok answer) why is ok = subst (AreWhy marks) (sym is) (ok answer refl)
failing marks (Err told_trouble.Fault) why is ok = subst (AreWhy marks) (sym is) tt
failing marks (Err told_trouble.NoMemory) why is ok = subst (AreWhy marks) (sym is) tt

-- ---- the three acts

-- the tree after the first act, and what it lists in the room that was told
record Roomed (tree : Tree) (room : ℕ) (roomed : Stored) : Type 0 where
  after : Tree
  told : roomed.tree ≡ Some after
  listed : listed_in_room after room ≡ listed_marks tree

answer_of : (e : Effect) (after : Tree) (answer : Answer) → e ≡ record { tree = after; answer = answer } → (e.tree ≡ after) × (e.answer ≡ answer)
answer_of e after answer is = (ap (λ (x : Effect). x.tree) is, ap (λ (x : Effect). x.answer) is)

roomed_as : (tree : Tree) (opened roomed : Stored) (room : ℕ) (told : Told) → opened.tree ≡ Some tree → Acts marks_step opened roomed told → room_told told ≡ Some room → Roomed tree room roomed
roomed_as tree opened roomed room (Ok answer) is made tells =
    let g = goes_on marks_step opened roomed tree answer is made in
    let parts = answer_of (effect tree marks_step) g.after answer g.does in
    let found = (finds tree).tells room (ap (λ a. room_told (Ok a)) parts.1 ∙ tells) in
    record { after = g.after; told = g.told; listed = ap (λ t. listed_in_room t room) (sym parts.0) ∙ found }
roomed_as tree opened roomed room (Err told_trouble.Fault) is made tells = absurd (cc)
roomed_as tree opened roomed room (Err told_trouble.NoMemory) is made tells = absurd (cc)

room_is_told : (tree : Tree) (opened roomed : Stored) (told : Told) (answer : Answer) → opened.tree ≡ Some tree → Acts marks_step opened roomed told → told ≡ Ok answer → room_told told ≡ None → ⊥
room_is_told tree opened roomed (Ok other) answer is made same none =
    let g = goes_on marks_step opened roomed tree other is made in
    let parts = answer_of (effect tree marks_step) g.after other g.does in
    (finds tree).some (ap (λ a. room_told (Ok a)) parts.1 ∙ none)
room_is_told tree opened roomed (Err other) answer is made same none = absurd (cc)

-- the names that the second act told are those listed before, and the tree stays
listed_as : (tree : Tree) (room : ℕ) (roomed left : Stored) (names : List Name) → roomed.tree ≡ Some tree → Acts (list_step room) roomed left (Ok (Names names)) → (left.tree ≡ Some tree) × (listed_in_room tree room ≡ Some names)
listed_as tree room roomed left names is made =
    let g = goes_on (list_step room) roomed left tree (Names names) is made in
    let parts = answer_of (effect tree (list_step room)) g.after (Names names) g.does in
    let l = (lists tree room).tells names (ap (λ a. names_told (Ok a)) parts.1) in
    (g.told ∙ ap (λ t. Some t) (sym parts.0 ∙ l.0), l.1)

none_listed : (tree : Tree) (room : ℕ) (roomed left : Stored) (told : Told) (answer : Answer) → roomed.tree ≡ Some tree → Acts (list_step room) roomed left told → told ≡ Ok answer → names_told told ≡ None → listed_in_room tree room ≡ None
none_listed tree room roomed left (Ok other) answer is made same none =
    let g = goes_on (list_step room) roomed left tree other is made in
    let parts = answer_of (effect tree (list_step room)) g.after other g.does in
    (lists tree room).other (ap (λ a. names_told (Ok a)) parts.1 ∙ none)
none_listed tree room roomed left (Err other) answer is made same none = absurd (cc)

-- the third act makes the next mark
mark_is_made : (tree : Tree) (room mount greatest : ℕ) (listed left : Stored) (names : List Name) (told : Told) (answer : Answer) → listed.tree ≡ Some tree → Acts (mark_step room mount) listed left told → told ≡ Ok answer
    → listed_in_room tree room ≡ Some names → IsGreatest IsMarkOf names greatest → greatest < mount → mount < 2 ^ 32 → made_told told ≡ false → ⊥
mark_is_made tree room mount greatest listed left names (Ok other) answer is made same all known above fits none =
    let g = goes_on (mark_step room mount) listed left tree other is made in
    let parts = answer_of (effect tree (mark_step room mount)) g.after other g.does in
    let made_it : other ≡ Made = sym parts.1 ∙ creates tree room mount greatest names all known above fits in
    let told_it : made_told (Ok other) ≡ true = ap (λ a. made_told (Ok a)) made_it in
    cc
mark_is_made tree room mount greatest listed left names (Err other) answer is made same all known above fits none = absurd (cc)

-- ---- names that leave no next mark

why_none : (names : List Name) (why : MountTrouble) → LeavesNone names why → AreWhy (Some names) why
why_none names why (inl (file, least, is)) = subst (AreWhy (Some names)) (sym is) least
why_none names why (inr (known, is)) = subst (AreWhy (Some names)) (sym is) known

-- ---- why a mounting fails over a told tree

pub why_fails : (opened left : Stored) (why : MountTrouble) → FailsToMount opened why left → (tree : Tree) → opened.tree ≡ Some tree → AreWhy (listed_marks tree) why
why_fails opened left why (no_room failed) tree is =
    failing (listed_marks tree) failed.told why failed.cause (λ answer told. absurd (room_is_told tree opened left failed.told answer is failed.made told failed.other))
why_fails opened left why (no_names roomed room tells failed) tree is =
    let r = roomed_as tree opened roomed room tells.told is tells.made tells.tells in
    failing (listed_marks tree) failed.told why failed.cause (λ answer told.
    subst (λ m. AreWhy m trouble.NoMarks) (sym (none_listed r.after room roomed left failed.told answer r.told failed.made told failed.other) ∙ r.listed) refl)
why_fails opened left why (no_next roomed room names tells listed none) tree is =
    let r = roomed_as tree opened roomed room tells.told is tells.made tells.tells in
    let l = listed_as r.after room roomed left names r.told listed in
    subst (λ m. AreWhy m why) (sym l.1 ∙ r.listed) (why_none names why none)
why_fails opened left why (no_mark roomed listed room names mount tells lists_them next failed) tree is =
    let r = roomed_as tree opened roomed room tells.told is tells.made tells.tells in
    let l = listed_as r.after room roomed listed names r.told lists_them in
    failing (listed_marks tree) failed.told why failed.cause (λ answer told.
    absurd (mark_is_made r.after room mount next.greatest listed left names failed.told answer l.0 failed.made told l.1 next.found (omega (arith, next.next)) next.fits failed.other))

-- ---- a mounting that drew a number

pub has_next : (serial : ℕ) (times : Option (List ℕ)) (opened : Stored) (new : State) → IsMounted serial times opened new → (tree : Tree) → opened.tree ≡ Some tree → HaveNext (listed_marks tree)
has_next serial times opened new m tree is =
    let d = m.draws in
    let r = roomed_as tree opened d.roomed new.marks d.tells.told is d.tells.made d.tells.tells in
    let l = listed_as r.after new.marks d.roomed d.listed d.names r.told d.lists in
    let less : d.next.greatest < 2 ^ 32 - 1 = omega (arith, d.next.next, d.next.fits) in
    subst HaveNext (sym l.1 ∙ r.listed) (d.next.greatest, d.next.found, less)

-- ---- the line of a mounting that broke off

by_trouble : (why : MountTrouble) (outcome : Outcome) (R : Type 0) → unmounted_of why ≡ Some outcome → (why ≡ trouble.Fault → R) → (is_fault outcome || false) ≡ true → R
by_trouble (trouble.Damaged file) outcome R is cause bad = let same : outcome ≡ of.Damaged marks_folder file 0 = cc in absurd (let wrong : false ≡ true = ap (λ o. is_fault o || false) (sym same) ∙ bad in cc)
by_trouble trouble.NoMarks outcome R is cause bad = let same : outcome ≡ of.Damaged marks_folder [] 0 = cc in absurd (let wrong : false ≡ true = ap (λ o. is_fault o || false) (sym same) ∙ bad in cc)
by_trouble trouble.Spent outcome R is cause bad = let same : outcome ≡ of.Refused MountsSpent = cc in absurd (let wrong : false ≡ true = ap (λ o. is_fault o || false) (sym same) ∙ bad in cc)
by_trouble trouble.Fault outcome R is cause bad = cause refl
by_trouble trouble.NoMemory outcome R is cause bad = absurd (cc)

-- the line of a mounting that broke off is a fault only where the mounting had one
pub fault_line_alone : (why : MountTrouble) (outcome : Outcome) (lines : List Line) (R : Type 0) → unmounted_of why ≡ Some outcome → lines ≡ (record { number = 0; outcome = outcome }) ∷ [] → (why ≡ trouble.Fault → R) → has_line is_fault lines ≡ true → R
fault_line_alone why outcome lines R is only cause bad =
    let here : (is_fault outcome || false) ≡ true = ap (λ ls. has_line is_fault ls) (sym only) ∙ bad in
    by_trouble why outcome R is cause here

pub all_caused : {E : Type 0} (why : MountTrouble) (result : Result (List Line) E) (R : Type 0) → IfOk result (IsUnmounted why) → (why ≡ trouble.Fault → R) → IfOk result (λ lines. has_line is_fault lines ≡ true → R)
all_caused why (Ok lines) R (outcome, is, only) cause = fault_line_alone why outcome lines R is only cause
all_caused why (Err e) R only cause = tt
