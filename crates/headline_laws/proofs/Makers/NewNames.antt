-- What a call does of the names of all containers: it makes one container, or gives one another name, or leaves them as they are.
use Rattle.std.proofs.Common.{◌≡◌, ◌<◌, ◌+◌, inl, inr, ℕ, zero, suc, List, [], ◌∷◌, ◌++◌, length, map, take, drop, Option, Some, None, Ok, Err, refl, sym, ap, ◌∙◌, subst, arith}
use Rattle.std.specs.Prelude.{⊤, slice_get, slice_set}
use Rattle.std.proofs.lemmas.Bool.{cases_eq}
use Rattle.std.proofs.lemmas.List.{length-map}
use Rattle.std.proofs.lemmas.Option.{same_Some}
use Rattle.plain_file.proofs.Facts.{Among}
use Rattle.store_api.specs.declared.step.Answer.{Answer}
use Rattle.store_api.specs.declared.step.Answer.TheVariants as answer
use Rattle.store_api.specs.Effect.{in_room, or_no_room, tree_after}
use Rattle.store_api.specs.Leaves.{in_part, not_made, whole, with_first}
use Rattle.store_api.specs.Room as room
use Rattle.store_api.specs.Step.{Step, create, cut, find_room, length_of, list_folder, make_folder, make_room, read_at, remove, remove_folder, rename_room, replace, rooms as all_rooms, sync, write_at}
use Rattle.store_api.specs.declared.store.Trouble.TheVariants as trouble
use Rattle.store_api.specs.declared.tree.Room.{Room}
use Rattle.store_api.specs.declared.tree.Tree.{Tree}
use Rattle.store_laws.specs.Changes.{RoomMade, RoomRenamed}
use Rattle.store_laws.specs.Naming.{NamesRoom}
use Rattle.store_laws.specs.Outcomes.{IsLook, MadeOrNot}
use Rattle.store_laws.specs.Says.{WhyNoRoomMade}
use Rattle.store_laws.specs.Tells.{Tells}
use Rattle.store_laws.specs.There.{IsFree as IsFreeIn}
use Rattle.store_laws.proofs.Facts.{acts_told, keeps_rooms, make_room_told, rename_room_told}
use Rattle.mount_model.specs.declared.call.Ask.{Ask}
use Rattle.mount_model.specs.declared.call.Call.{Call}
use Rattle.mount_model.specs.declared.call.Call.TheVariants.{MakeContainer, Move}
use Rattle.mount_model.specs.declared.reply.Refusal.{Refusal}
use Rattle.mount_model.specs.declared.reply.Refusal.TheVariants.{NotHolder}
use Rattle.mount_model.specs.declared.reply.Reply.{Reply}
use Rattle.mount_model.specs.declared.reply.Reply.TheVariants as reply
use Rattle.mount_model.specs.declared.row.Holder.{Holder}
use Rattle.mount_model.specs.Entering.{next_id}
use Rattle.mount_model.specs.Finding.{make_outcome}
use Rattle.mount_model.specs.Holding.{RenamesRoom, rename_outcome, rename_step}
use Rattle.mount_model.specs.Making.{Refuses, Told}
use Rattle.mount_model.specs.Paths.{Name, new_files, new_folders}
use Rattle.mount_model.specs.State.{State, Table, timed}
use Rattle.mount_model.specs.Step.{Answers, IsStep}
use Rattle.mount_model.specs.Stopped.{IsLeftBy}
use Rattle.mount_model.specs.Table.{holder_at, holder_of}
use Rattle.mount_model.proofs.Facts.{match_cases, step_cases, stop_left}
use Rattle.mount_sound.proofs.Facts.{GoesOn, OfEachAct, step_acts}
use Rattle.reader_laws.proofs.Gathered.Facts.{among, is_among}
use Rattle.headline.specs.Names.{IsFree, names_in}
use Rattle.headline_laws.proofs.Story.Listing.{name_of_room}

-- the names that are told of the containers
abbrev pub names_of : Option Tree → List Name
names_of None = []
names_of (Some tree) = names_in tree

abbrev pub names_now : State → List Name
names_now state = names_of state.store.tree

-- the container of this number gets this name
abbrev pub with_name : List Name → ℕ → Name → List Name
with_name names number name = take number names ++ name ∷ drop (number + 1) names

-- ---- lists

set_long : {X : Type 0} (xs : List X) (i : ℕ) (y : X) → length (slice_set xs i y) ≡ length xs
set_long [] i y = refl
set_long (x ∷ xs) zero y = refl
set_long (x ∷ xs) (suc i) y = ap suc (set_long xs i y)

there_less : {X : Type 0} (xs : List X) (i : ℕ) (x : X) → slice_get xs i ≡ Some x → i < length xs
there_less [] i x is = absurd (cc)
there_less (y ∷ xs) zero x is = omega arith
there_less (y ∷ xs) (suc i) x is = let less = there_less xs i x is in omega (arith, less)

abbrev names_all : List Room → List Name
names_all rooms = map (λ (r : Room). r.name) rooms

with_more : (x : Name) (names : List Name) (i : ℕ) (name : Name) → with_name (x ∷ names) (suc i) name ≡ x ∷ with_name names i name
with_more x names i name = (let one : suc i + 1 ≡ suc (i + 1) = omega arith in ap (λ k. x ∷ (take i names ++ name ∷ drop k (x ∷ names))) one)

set_named : (rooms : List Room) (i : ℕ) (old new : Room) → slice_get rooms i ≡ Some old → names_all (slice_set rooms i new) ≡ with_name (names_all rooms) i new.name
set_named [] i old new is = absurd (cc)
set_named (r ∷ rooms) zero old new is = refl
set_named (r ∷ rooms) (suc i) old new is = ap (λ zs. r.name ∷ zs) (set_named rooms i old new is) ∙ sym (with_more r.name (names_all rooms) i new.name)

pub names_more : (rooms : List Room) (new : Room) → names_all (rooms ++ new ∷ []) ≡ names_all rooms ++ new.name ∷ []
names_more [] new = refl
names_more (r ∷ rooms) new = ap (λ zs. r.name ∷ zs) (names_more rooms new)

pub added : (names : List Name) (name : Name) → with_name names (length names) name ≡ names ++ name ∷ []
added [] name = refl
added (x ∷ names) name = with_more x names (length names) name ∙ ap (λ zs. x ∷ zs) (added names name)

-- rooms that have the same names, one for one
names_same : (rs ss : List Room) → length ss ≡ length rs → ((n : ℕ) (r : Room) → slice_get rs n ≡ Some r → (s : Room) × (slice_get ss n ≡ Some s) × (s.name ≡ r.name)) → names_all ss ≡ names_all rs
names_same [] [] long each = refl
names_same [] (s ∷ ss) long each = absurd (omega (arith, long))
names_same (r ∷ rs) [] long each = absurd (omega (arith, long))
names_same (r ∷ rs) (s ∷ ss) long each =
    let h = each 0 r refl in
    ap (λ z. z ∷ names_all ss) (ap (λ (x : Room). x.name) (same_Some s h.0 h.1) ∙ h.2) ∙ ap (λ zs. r.name ∷ zs) (names_same rs ss (omega (arith, long)) (λ n x is. each (suc n) x is))

pub free_names : (tree : Tree) (name : Name) → IsFreeIn tree name → IsFree name (names_in tree)
free_names tree name free at = let f = name_of_room tree.rooms name (among (names_in tree) name at) in free f.number f.room f.there f.is

-- ---- steps that name no room

abbrev pub NamesNone : Step → Type 0
NamesNone (make_room name folders files) = ⊥
NamesNone (rename_room n to) = ⊥
NamesNone step = ⊤

in_room_long : (tree : Tree) (n : ℕ) (outcome : Room → room.Outcome) → length (in_room tree n outcome).tree.rooms ≡ length tree.rooms
in_room_long tree n outcome = elim (slice_get tree.rooms n) as (λ o. length (or_no_room tree n outcome o).tree.rooms ≡ length tree.rooms) [
  | None ↦ refl
  | Some r ↦ set_long tree.rooms n (outcome r).room
]

effect_long : (step : Step) (tree : Tree) → NamesNone step → length (tree_after tree step).rooms ≡ length tree.rooms
effect_long all_rooms tree none = refl
effect_long (find_room name) tree none = refl
effect_long (make_room name folders files) tree none = absurd none
effect_long (rename_room n to) tree none = absurd none
effect_long (make_folder n folder) tree none = in_room_long tree n (λ r. room.folder_made r folder)
effect_long (remove_folder n folder) tree none = in_room_long tree n (λ r. room.folder_removed r folder)
effect_long (list_folder n folder) tree none = in_room_long tree n (λ r. room.folder_listed r folder)
effect_long (create n folder file) tree none = in_room_long tree n (λ r. room.file_created r folder file)
effect_long (remove n folder file) tree none = in_room_long tree n (λ r. room.file_removed r folder file)
effect_long (replace n folder from to) tree none = in_room_long tree n (λ r. room.file_renamed r folder from to)
effect_long (length_of n folder file) tree none = in_room_long tree n (λ r. room.length_told r folder file)
effect_long (read_at n folder file at len) tree none = in_room_long tree n (λ r. room.bytes_read r folder file at len)
effect_long (write_at n folder file at bytes) tree none = in_room_long tree n (λ r. room.bytes_written r folder file at bytes)
effect_long (cut n folder file len) tree none = in_room_long tree n (λ r. room.file_cut r folder file len)
effect_long (sync n folder file) tree none = in_room_long tree n (λ r. room.file_synced r folder file)

first_none : (k : ℕ) (step : Step) → NamesNone step → NamesNone (with_first k step)
first_none k (make_room name folders files) none = none
first_none k (rename_room n to) none = none
first_none k (write_at n folder file at bytes) none = tt
first_none k step none = tt

tells_long : (step : Step) (tree : Tree) (told : Told) (after : Tree) → NamesNone step → Tells step tree told after → length after.rooms ≡ length tree.rooms
tells_long step tree (Ok what) after none t = ap (λ e. length e.tree.rooms) (sym t) ∙ effect_long step tree none
tells_long step tree (Err trouble.Fault) after none (not_made is) = ap (λ (x : Tree). length x.rooms) is
tells_long step tree (Err trouble.Fault) after none (whole is) = ap (λ (x : Tree). length x.rooms) is ∙ effect_long step tree none
tells_long step tree (Err trouble.Fault) after none (in_part k answered is) = ap (λ (x : Tree). length x.rooms) is ∙ effect_long (with_first k step) tree (first_none k step none)
tells_long step tree (Err trouble.NoMemory) after none t = ap (λ (x : Tree). length x.rooms) t

no_room_named : (step : Step) (n : ℕ) → NamesNone step → NamesRoom step n → ⊥
no_room_named (make_room name folders files) n none named = named
no_room_named (rename_room k to) n none named = none
no_room_named step n none named = named

pub names_kept : (step : Step) (tree : Tree) (told : Told) (after : Tree) → NamesNone step → Tells step tree told after → names_in after ≡ names_in tree
names_kept step tree told after none t =
    names_same tree.rooms after.rooms (tells_long step tree told after none t)
    (λ n r there. let k = keeps_rooms step tree told after t n r there in (k.0, k.1, k.2.name (no_room_named step n none)))

-- ---- calls

-- The call made the container of this number, or gave it another name.
pub data NewName (call : Call) (table : Table) (names : List Name) (number : ℕ) (name : Name) : Type 0 where
  made : call ≡ MakeContainer name → number ≡ length names → IsFree name names → NewName call table names number name
  moved : (holder : ℕ) (h : Holder) → call ≡ Move holder name → holder_at holder table.holders ≡ Some h → number ≡ h.room → number < length names → IsFree name names → NewName call table names number name

data NamesAs (table : Table) (call : Call) (step : Step) : Type 0 where
  no_name : NamesNone step → NamesAs table call step
  makes : (name : Name) → call ≡ MakeContainer name → step ≡ make_room name new_folders new_files → NamesAs table call step
  moves : (holder : ℕ) (h : Holder) (to : Name) → call ≡ Move holder to → holder_at holder table.holders ≡ Some h → step ≡ rename_room h.room to → NamesAs table call step

look_none : (step : Step) → IsLook step → NamesNone step
look_none all_rooms look = tt
look_none (find_room name) look = tt
look_none (list_folder n folder) look = tt
look_none (length_of n folder file) look = tt
look_none (read_at n folder file at len) look = tt
look_none step look = absurd look

each_names : (old : State) (caller : ℕ) → OfEachAct old.table (next_id old) caller (NamesAs old.table)
each_names old caller = record {
  looks = λ call step look. no_name (look_none step look);
  rooms = λ name. makes name refl refl;
  enters = λ n host most. no_name tt;
  hostdirs = λ writer row. no_name tt;
  indices = λ writer row held. no_name tt;
  logs = λ writer row held. no_name tt;
  writes = λ writer row held at bytes. no_name tt;
  flushes = λ writer row held. no_name tt;
  log_syncs = λ writer row. no_name tt;
  index_syncs = λ writer row. no_name tt;
  metas = λ writer row. no_name tt;
  exits = λ writer row held. no_name tt;
  holds = λ n. no_name tt;
  truncates = λ holder h held stamp size top fits above. no_name tt;
  renames = λ holder h held to. moves holder h to refl held refl;
  releases = λ holder h held. no_name tt;
  starts = λ n f makes. no_name tt;
  puts = λ flat f held bytes. no_name tt;
  flat_syncs = λ flat f held. no_name tt;
  installs = λ flat f held. no_name tt;
  packs = λ n host writer f makes fits. no_name tt;
  dropping_syncs = λ n host writer is_log fits. no_name tt;
  mends = λ n host writer count fits. no_name tt;
  mend_metas = λ n host cover last fits. no_name tt;
  buries = λ n host writer fits. no_name tt;
  mend_holds = λ n. no_name tt;
}

-- the names stay, or one container has this name from then on
pub data NamesNext (call : Call) (table : Table) (names new : List Name) : Type 0 where
  stay : new ≡ names → NamesNext call table names new
  another : (number : ℕ) (name : Name) → NewName call table names number name → new ≡ with_name names number name → NamesNext call table names new

room_new : (call : Call) (table : Table) (name : Name) (tree after : Tree) → call ≡ MakeContainer name → RoomMade tree name new_folders new_files after → NamesNext call table (names_in tree) (names_in after)
room_new call table name tree after asked m =
    let is : names_in after ≡ names_in tree ++ name ∷ [] = ap (λ (x : Tree). names_in x) m.gives ∙ names_more tree.rooms m.new ∙ ap (λ z. names_in tree ++ z ∷ []) m.named in
    another (length (names_in tree)) name (made asked refl (free_names tree name m.free)) (is ∙ sym (added (names_in tree) name))

room_moved : (call : Call) (table : Table) (holder : ℕ) (h : Holder) (to : Name) (tree after : Tree) → call ≡ Move holder to → holder_at holder table.holders ≡ Some h → RoomRenamed tree h.room to after → NamesNext call table (names_in tree) (names_in after)
room_moved call table holder h to tree after asked held m =
    let less = there_less tree.rooms h.room m.room m.has_room in
    let long = length-map tree.rooms (λ (r : Room). r.name) in
    another h.room to (moved holder h asked held refl (omega (arith, less, long)) (free_names tree to m.free))
    (ap (λ (x : Tree). names_in x) m.gives ∙ set_named tree.rooms h.room m.room m.new m.has_room ∙ ap (λ z. with_name (names_in tree) h.room z) m.named)

act_names : (call : Call) (table : Table) (step : Step) (tree : Tree) (told : Told) (after : Tree) → NamesAs table call step → Tells step tree told after → NamesNext call table (names_in tree) (names_in after)
act_names call table step tree told after (no_name none) t = stay (names_kept step tree told after none t)
act_names call table step tree told after (makes name asked is) t = elim (make_room_told name new_folders new_files tree told after (subst (λ s. Tells s tree told after) is t)).either as (λ _. NamesNext call table (names_in tree) (names_in after)) [
  | inl m ↦ room_new call table name tree after asked m
  | inr stays ↦ stay (ap names_in stays)
]
act_names call table step tree told after (moves holder h to asked held is) t = elim (rename_room_told h.room to tree told after (subst (λ s. Tells s tree told after) is t)).either as (λ _. NamesNext call table (names_in tree) (names_in after)) [
  | inl m ↦ room_moved call table holder h to tree after asked held m
  | inr stays ↦ stay (ap names_in stays)
]

-- the law of this file
pub step_names : (old new : State) (caller : ℕ) (ask : Ask) (rep : Reply) (tree : Tree) → IsStep old caller ask rep new → old.store.tree ≡ Some tree → NamesNext ask.call old.table (names_now old) (names_now new)
step_names old new caller ask rep tree stepped told =
    let g : GoesOn (NamesAs old.table ask.call) tree new = step_acts (NamesAs old.table) old new caller ask rep tree (each_names old caller) stepped told in
    let was : names_now old ≡ names_in tree = ap names_of told in
    let is : names_now new ≡ names_in g.0 = ap names_of g.1 in
    subst (λ zs. NamesNext ask.call old.table zs (names_now new)) (sym was) (subst (λ zs. NamesNext ask.call old.table (names_in tree) zs) (sym is) (elim g.2 as (λ _. NamesNext ask.call old.table (names_in tree) (names_in g.0)) [
      | inl stays ↦ stay (ap names_in stays)
      | inr a ↦ act_names ask.call old.table a.step tree a.told g.0 a.holds a.tells
    ]))

-- ---- one call that changed the names

-- a name that none had is among those with it
in_middle : (front : List Name) (name : Name) (rest : List Name) → Among name (front ++ name ∷ rest)
in_middle [] name rest = inl refl
in_middle (x ∷ front) name rest = inr (in_middle front name rest)

pub names_differ : (names : List Name) (number : ℕ) (name : Name) → IsFree name names → with_name names number name ≡ names → ⊥
names_differ names number name free same = free (is_among names name (subst (Among name) same (in_middle (take number names) name (drop (number + 1) names))))

module _ (caller holder : ℕ) (to : Name) where
  -- who gives a container another name holds it
  by_answer : (at : State) (rep : Reply) (new : State) → Answers at caller (Move holder to) rep new → (new ≡ at → ⊥) → (h : Holder) × (holder_of caller holder at.table.holders ≡ Some h)
  by_answer at rep new a differ = elim (match_cases (holder_of caller holder at.table.holders) (Refuses NotHolder at rep new) (λ h. RenamesRoom h to at rep new) a) as (λ _. (h : Holder) × (holder_of caller holder at.table.holders ≡ Some h)) [
    | inl (none, refused) ↦ absurd (differ refused.1)
    | inr (h, is, does) ↦ (h, is)
  ]

  pub moves_by : (old new : State) (ask : Ask) (rep : Reply) → IsStep old caller ask rep new → ask.call ≡ Move holder to → (names_now new ≡ names_now old → ⊥) → (h : Holder) × (holder_of caller holder old.table.holders ≡ Some h)
  moves_by old new ask rep stepped asked differ = step_cases old caller ask rep new ((h : Holder) × (holder_of caller holder old.table.holders ≡ Some h)) stepped
      (λ whole a. by_answer old rep new (subst (λ c. Answers old caller c rep new) asked a) (λ same. differ (ap names_now same)))
      (λ k some x.
      let left : IsLeftBy old caller ask.call new = stop_left old caller k ask.call rep new x in
      elim left.short as (λ _. (h : Holder) × (holder_of caller holder old.table.holders ≡ Some h)) [
        | inl same ↦ absurd (differ (ap names_of (left.like.tree ∙ ap (λ (z : State). z.store.tree) same)))
        | inr (other, which, a) ↦ by_answer (timed None old) other left.cut (subst (λ c. Answers (timed None old) caller c other left.cut) asked a) (λ same. differ (ap names_of (left.like.tree ∙ ap (λ (z : State). z.store.tree) same)))
      ])

  -- where it is refused, the names stay
  pub refused_stays : (old new : State) (why : Refusal) (tree : Tree) → Answers old caller (Move holder to) (reply.Refused why) new → old.store.tree ≡ Some tree → names_now new ≡ names_now old
  refused_stays old new why tree a told = elim (match_cases (holder_of caller holder old.table.holders) (Refuses NotHolder old (reply.Refused why) new) (λ h. RenamesRoom h to old (reply.Refused why) new) a) as (λ _. names_now new ≡ names_now old) [
    | inl (none, refused) ↦ ap names_now refused.1
    | inr (h, is, does) ↦ by_told h does
  ]
    where
      by_told : (h : Holder) → RenamesRoom h to old (reply.Refused why) new → names_now new ≡ names_now old
      by_told h does = by does.makes.told refl does.makes.answered
        where
          t : (x : Tree) × (new.store.tree ≡ Some x) × Tells (rename_step h to) tree does.makes.told x
          t = acts_told (rename_step h to) old.store new.store tree does.makes.told told does.makes.made

          stays : (what : Answer) → does.makes.told ≡ Ok what → (what ≡ answer.Made → ⊥) → names_now new ≡ names_now old
          stays what is other = ap names_of t.1 ∙ ap names_in ((rename_room_told h.room to tree does.makes.told t.0 t.2).stays what is other).0 ∙ sym (ap names_of told)

          by : (what : Told) → does.makes.told ≡ what → reply.Refused why ≡ (rename_outcome old.table what).reply → names_now new ≡ names_now old
          by (Ok answer.Made) is says = absurd (cc)
          by (Ok answer.TargetThere) is says = stays answer.TargetThere is (λ clash. cc)
          by (Ok answer.NoRoom) is says = stays answer.NoRoom is (λ clash. cc)
          by (Ok answer.NoFolder) is says = absurd (cc)
          by (Ok other) is says = absurd (cc)
          by (Err trouble.Fault) is says = absurd (cc)
          by (Err trouble.NoMemory) is says = absurd (cc)

-- A container that was made has the next number, as its call is told.
pub makes_number : (old new : State) (caller : ℕ) (name : Name) (number : ℕ) (tree : Tree) → Answers old caller (MakeContainer name) (reply.Room number) new → old.store.tree ≡ Some tree → (names_now new ≡ names_now old → ⊥) → number ≡ length (names_now old)
makes_number old new caller name number tree a told differ = by a.makes.told refl a.makes.answered
  where
    t : (x : Tree) × (new.store.tree ≡ Some x) × Tells (make_room name new_folders new_files) tree a.makes.told x
    t = acts_told (make_room name new_folders new_files) old.store new.store tree a.makes.told told a.makes.made

    m : MadeOrNot tree (answer.Number (length tree.rooms)) (RoomMade tree name new_folders new_files) (WhyNoRoomMade tree name) a.makes.told t.0
    m = make_room_told name new_folders new_files tree a.makes.told t.0 t.2

    same_number : (x y : ℕ) → ◌≡◌ {A = Answer} (answer.Number x) (answer.Number y) → x ≡ y
    same_number x y is = cc

    same_room : (x y : ℕ) → ◌≡◌ {A = Reply} (reply.Room x) (reply.Room y) → x ≡ y
    same_room x y is = cc

    long : length (names_now old) ≡ length tree.rooms
    long = ap (λ o. length (names_of o)) told ∙ length-map tree.rooms (λ (r : Room). r.name)

    stays : (what : Answer) → a.makes.told ≡ Ok what → (what ≡ answer.Number (length tree.rooms) → ⊥) → ⊥
    stays what is other = differ (ap names_of t.1 ∙ ap names_in (m.stays what is other).0 ∙ sym (ap names_of told))

    by : (what : Told) → a.makes.told ≡ what → reply.Room number ≡ (make_outcome old.table what).reply → number ≡ length (names_now old)
    by (Ok (answer.Number r)) is says = elim (cases_eq r (length tree.rooms)) as (λ _. number ≡ length (names_now old)) [
      | inl same ↦ same_room number r says ∙ same ∙ sym long
      | inr other ↦ absurd (stays (answer.Number r) is (λ clash. other (same_number r (length tree.rooms) clash)))
    ]
    by (Ok (answer.Old r)) is says = absurd (stays (answer.Old r) is (λ clash. cc))
    by (Ok answer.NoRoom) is says = absurd (cc)
    by (Ok answer.NoFolder) is says = absurd (cc)
    by (Ok other) is says = absurd (cc)
    by (Err trouble.Fault) is says = absurd (cc)
    by (Err trouble.NoMemory) is says = absurd (cc)
