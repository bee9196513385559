-- A container that was found is there on, so that a truncate or a rename of a name that is there never ends as of no such file.
use Rattle.std.proofs.Common.{◌≡◌, ℕ, nat_eq, Bool, true, false, List, [], ◌∷◌, get_or, Some, None, Result, Ok, Err, refl, sym, ap, ◌∙◌, inl, inr, subst, arith}
use Rattle.std.specs.Prelude.{◌==◌, ◌-◌, ◌^◌, nat_le, nat_lt, slice_get, if◌then◌else◌}
use Rattle.std.proofs.lemmas.Bool.Decides.{nat_tests}
use Rattle.plfs_types.specs.declared.limits.TheConstants.{MAX_SIZE, MAX_STAMP}
use Rattle.plfs_types.specs.declared.names.Path.{Path}
use Rattle.container_layout.specs.declared.items.Item.TheVariants.{Access}
use Rattle.container_layout.proofs.Facts.{elsewhere}
use Rattle.store_api.specs.declared.step.Answer.{Answer}
use Rattle.store_api.specs.declared.step.Answer.TheVariants.{Absent, Made, Names, NoFolder, NoRoom, NotEmpty, Number, Old, TargetThere}
use Rattle.store_api.specs.declared.store.Trouble.TheVariants.{Fault, NoMemory}
use Rattle.store_api.specs.declared.tree.Room.{Room as RoomThere}
use Rattle.store_api.specs.declared.tree.Tree.{Tree}
use Rattle.store_api.specs.Step.{find_room}
use Rattle.store_laws.specs.Files.{file_at}
use Rattle.store_laws.specs.Says.{FindTells, ListTells}
use Rattle.store_laws.specs.Tells.{Tells}
use Rattle.store_laws.specs.There.{IsFree, LacksRoom}
use Rattle.store_laws.proofs.Facts.{acts_told, create_told, find_tells, list_tells, look_answered, make_folder_told, remove_folder_told, rename_room_told}
use Rattle.mount_model.specs.declared.call.Call.TheVariants.{Find, Hold, Look, Mark, Move, Release}
use Rattle.mount_model.specs.declared.call.Look.TheVariants.{List as ListFolder}
use Rattle.mount_model.specs.declared.reply.Refusal.{Refusal}
use Rattle.mount_model.specs.declared.reply.Refusal.TheVariants as refusal
use Rattle.mount_model.specs.declared.reply.Reply.{Reply}
use Rattle.mount_model.specs.declared.reply.Reply.TheVariants.{Refused, Room}
use Rattle.mount_model.specs.declared.row.Holder.{Holder}
use Rattle.mount_model.specs.Entering.{draw_check}
use Rattle.mount_model.specs.Finding.{find_outcome}
use Rattle.mount_model.specs.History.{Event}
use Rattle.mount_model.specs.Holding.{HoldOutcome, HoldsRoom, TruncatesAt, hold_step, holding, release_outcome, release_step, rename_outcome, rename_step, truncate_check, truncate_outcome, truncate_stamp, truncate_step}
use Rattle.mount_model.specs.Looking.{listing_reply, look_outcome, look_step}
use Rattle.mount_model.specs.Making.{MakesAct, Refuses, Told, otherwise, room_check}
use Rattle.mount_model.specs.Paths.{Name, access_path, trunc_path, truncs}
use Rattle.store_api.specs.Names.{marks_folder}
use Rattle.container_layout.specs.Paths.{openhosts}
use Rattle.mount_model.specs.State.{State, Table}
use Rattle.mount_model.specs.Step.{Answers}
use Rattle.mount_model.specs.Table.{holder_of}
use Rattle.mount_model.proofs.Facts.{is_holding, match_cases}
use Rattle.mount_sound.specs.Owed.{IsLawful}
use Rattle.mount_model.specs.declared.stuck.Stuck.{Stuck}
use Rattle.mount_model.specs.declared.stuck.Stuck.TheVariants as stuck
use Rattle.mount_model.specs.Running.{Runs, unbroken}
use Rattle.mount_model.specs.Program.{ask}
use Rattle.mount_model.specs.FlowReplies.{Tries, failure, given, room_in}
use Rattle.trunc_rename.specs.Holding.{holder_in, holds}
use Rattle.trunc_rename.specs.Renaming.{moves}
use Rattle.trunc_rename.specs.Truncating.{lists_metadata}
use Rattle.reader_laws.specs.Moments.{IsSoundAt, Moment, moment_after, next_moment}
use Rattle.reader_laws.proofs.Gathered.Facts.{grows_after, in_a_room, in_tree, sound_after}
use Rattle.reader_laws.specs.Failing.{IsContainerAt}
use Rattle.reader_laws.proofs.Facts.{answered}
use Rattle.headline_laws.specs.Refusing.{FindsNone}
use Rattle.headline_laws.proofs.Plays.Callers.Finding.{container_found}
use Rattle.headline_laws.proofs.Plays.Holds.Held.{OnFind, OnHold, alone, answered_so, found_room, its_step, one_tree}
use Rattle.headline_laws.proofs.Plays.Refused.Reasons.{GoesFor, IsReplyFor, Lasts, RefusesFor, call_goes, failure_for, given_goes, metadata_goes, moves_go}
use Rattle.headline_laws.proofs.Plays.Refused.Unheld.{HasAsked, draw_reason, given_or_not, has_asked, refused_so}

-- the reason is not that there is no such room
abbrev pub IsThere : Refusal → Type 0
IsThere refusal.NoRoom = ⊥
IsThere other = Unit {0}

abbrev ThereReply : Reply → Type 0
ThereReply reply = IsReplyFor IsThere reply

-- ---- a container stands on

abbrev pub Stands : ℕ → Moment → Type 0
Stands room m = IsContainerAt m room

stands_on : (room : ℕ) → Lasts (Stands room)
stands_on room m event later sound lawful had = (grows_after m (event ∷ []) (lawful.0, lawful.1, tt) sound).stands room Access tt had

not_lacking : (tree : Tree) (room : ℕ) (r : RoomThere) → slice_get tree.rooms room ≡ Some r → LacksRoom tree room → ⊥
not_lacking tree room r there lacks = let clash : Some r ≡ None = sym there ∙ lacks in cc

module _ (m : Moment) (s : IsSoundAt m) (room : ℕ) (had : IsContainerAt m room) where
  its_room : (r : RoomThere) × (slice_get s.shape.tree.rooms room ≡ Some r) × (file_at r access_path ≡ Some had.bytes)
  its_room = in_a_room (slice_get s.shape.tree.rooms room) access_path had.bytes (in_tree m s room access_path had.bytes had.there)

  has_room : LacksRoom s.shape.tree room → ⊥
  has_room = not_lacking s.shape.tree room its_room.0 its_room.1

  -- the room of the marks has no such file
  no_mark : [] ≡ marks_folder → ⊥
  no_mark clash = elsewhere (ap (λ (l : List ℕ). get_or l 0 0) clash) refl

  not_marks : room ≡ m.state.marks → ⊥
  not_marks same =
      let both : Some its_room.0 ≡ Some s.shape.marks = sym its_room.1 ∙ ap (λ n. slice_get s.shape.tree.rooms n) same ∙ s.shape.has_marks in
      let one : its_room.0 ≡ s.shape.marks = cc in
      let mark = s.shape.is_marks.files access_path had.bytes (subst (λ r. file_at r access_path ≡ Some had.bytes) one its_room.2) in
      no_mark (ap (λ (p : Path). p.folder) mark.3)

-- ---- replies

otherwise_there : (folder file : Name) (told : Told) → (told ≡ Ok NoRoom → ⊥) → ThereReply (otherwise folder file told)
otherwise_there folder file (Ok NoRoom) never = absurd (never refl)
otherwise_there folder file (Ok NoFolder) never = tt
otherwise_there folder file (Ok answer) never = tt
otherwise_there folder file (Err Fault) never = tt
otherwise_there folder file (Err NoMemory) never = tt

apart : (a b : ℕ) → (a ≡ b → ⊥) → nat_eq a b ≡ false
apart a b other = grind (arith, nat_tests)

check_there : (old : State) (room : ℕ) (why : Refusal) → (room ≡ old.marks → ⊥) → draw_check old room ≡ Some why → IsThere why
check_there old room why other e = elim (draw_reason (room == old.marks) (nat_le (2 ^ 32 - 1) old.serial) why e) as (λ _. IsThere why) [
  | inl (marks, is) ↦ absurd (let clash : true ≡ false = sym marks ∙ apart room old.marks other in cc)
  | inr is ↦ subst IsThere (sym is) tt
]

room_there : (marks : Bool) (why : Refusal) → marks ≡ false → (if marks then Some refusal.NoRoom else None) ≡ Some why → IsThere why
room_there true why is e = absurd (cc)
room_there false why is e = absurd (cc)

size_there : (far spent : Bool) (why : Refusal) → (if far then Some refusal.TooFar else if spent then Some refusal.StampsSpent else None) ≡ Some why → IsThere why
size_there true spent why e = (let same : refusal.TooFar ≡ why = cc in subst IsThere same tt)
size_there false true why e = (let same : refusal.StampsSpent ≡ why = cc in subst IsThere same tt)
size_there false false why e = absurd (cc)

hold_there : (h : Holder) (table : Table) (told : Told) (reply : Reply) (after : Table) → (told ≡ Ok NoRoom → ⊥) → HoldOutcome h table told reply after → ThereReply reply
hold_there h table (Ok Made) reply after never o = subst ThereReply (sym o.0) tt
hold_there h table (Ok NoFolder) reply after never o = subst ThereReply (sym o.0) tt
hold_there h table (Ok (NotEmpty least)) reply after never o = elim o.0 as (λ _. ThereReply reply) [
  | inl busy ↦ subst ThereReply (sym busy.3) tt
  | inr other ↦ subst ThereReply (sym other.1) tt
]
hold_there h table told reply after never o = subst ThereReply (sym o.0) (otherwise_there openhosts [] told never)

listing_there : (folder : Name) (told : Told) → (told ≡ Ok NoRoom → ⊥) → ThereReply (listing_reply folder told)
listing_there folder (Ok (Names names)) never = tt
listing_there folder (Ok NoFolder) never = tt
listing_there folder told never = otherwise_there folder [] told never

mark_there : (stamp size : ℕ) (table : Table) (told : Told) → (told ≡ Ok NoRoom → ⊥) → ThereReply (truncate_outcome stamp size table told).reply
mark_there stamp size table (Ok Made) never = tt
mark_there stamp size table told never = otherwise_there truncs (trunc_path stamp size).file told never

move_there : (table : Table) (told : Told) → (told ≡ Ok NoRoom → ⊥) → ThereReply (rename_outcome table told).reply
move_there table (Ok Made) never = tt
move_there table (Ok TargetThere) never = tt
move_there table told never = otherwise_there [] [] told never

release_there : (h : Holder) (table : Table) (told : Told) → (told ≡ Ok NoRoom → ⊥) → ThereReply (release_outcome h table told).reply
release_there h table (Ok Made) never = tt
release_there h table (Ok (Old room)) never = tt
release_there h table (Err Fault) never = tt
release_there h table told never = otherwise_there openhosts [] told never

-- ---- calls

module _ (n room : ℕ) where
  holds_there : RefusesFor IsThere (Stands room) n (Hold room)
  holds_there m s had reply after a = elim (match_cases (draw_check m.state room) (HoldsRoom n room m.state reply after) (λ why. Refuses why m.state reply after) a) as (λ _. ThereReply reply) [
    | inl (none, does) ↦
        let t = acts_told (hold_step room) m.state.store after.store s.shape.tree does.told s.shape.told does.made in
        hold_there (holding m.state n room) m.state.table does.told reply after.table (λ is. has_room m s room had ((remove_folder_told room openhosts s.shape.tree does.told t.0 t.2).stays NoRoom is (λ e. cc)).1) does.outcome
    | inr (why, some, refused) ↦ subst ThereReply (sym refused.0) (check_there m.state room why (not_marks m s room had) some)
  ]

  looks_there : (folder : Name) → RefusesFor IsThere (Stands room) n (Look room (ListFolder folder))
  looks_there folder m s had reply after a = elim (match_cases (room_check m.state room) (MakesAct (look_step room (ListFolder folder)) (look_outcome (ListFolder folder) m.state) m.state reply after) (λ why. Refuses why m.state reply after) a) as (λ _. ThereReply reply) [
    | inl (none, l) ↦
        let t = acts_told (look_step room (ListFolder folder)) m.state.store after.store s.shape.tree l.told s.shape.told l.made in
        subst ThereReply (sym l.answered) (listing_there folder l.told (λ is. has_room m s room had
        (look_answered (look_step room (ListFolder folder)) s.shape.tree (ListTells s.shape.tree room folder) (list_tells s.shape.tree room folder) NoRoom t.0 (subst (λ o. Tells (look_step room (ListFolder folder)) s.shape.tree o t.0) is t.2)).1))
    | inr (why, some, refused) ↦ subst ThereReply (sym refused.0) (room_there (nat_eq room m.state.marks) why (apart room m.state.marks (not_marks m s room had)) some)
  ]

  -- the room of a hold is there
  held_there : (m : Moment) (s : IsSoundAt m) (holder : ℕ) (h : Holder) → holder_of n holder m.state.table.holders ≡ Some h → LacksRoom s.shape.tree h.room → ⊥
  held_there m s holder h held =
      let is = s.held.each holder h (is_holding n holder m.state.table.holders h held).found in
      not_lacking s.shape.tree h.room is.room is.there

  marks_there : (holder size top : ℕ) → RefusesFor IsThere (Stands room) n (Mark holder size top)
  marks_there holder size top m s had reply after a = elim (match_cases (holder_of n holder m.state.table.holders) _ _ a) as (λ _. ThereReply reply) [
    | inl (none, unheld) ↦ subst ThereReply (sym unheld.0) tt
    | inr (h, held, does) ↦ elim (match_cases (truncate_check size top) (TruncatesAt h size top m.state reply after) (λ why. Refuses why m.state reply after) does) as (λ _. ThereReply reply) [
      | inr (why, some, refused) ↦ subst ThereReply (sym refused.0) (size_there (nat_lt MAX_SIZE size) (nat_le MAX_STAMP top) why some)
      | inl (passed, t) ↦
          let stamp : ℕ = truncate_stamp t.time top in
          let k = acts_told (truncate_step h stamp size) m.state.store after.store s.shape.tree t.makes.told s.shape.told t.makes.made in
          subst ThereReply (sym t.makes.answered) (mark_there stamp size m.state.table t.makes.told (λ is. held_there m s holder h held ((create_told h.room (trunc_path stamp size) s.shape.tree t.makes.told k.0 k.2).stays NoRoom is (λ e. cc)).1))
    ]
  ]

  names_there : (holder : ℕ) (to : Name) → RefusesFor IsThere (Stands room) n (Move holder to)
  names_there holder to m s had reply after a = elim (match_cases (holder_of n holder m.state.table.holders) _ _ a) as (λ _. ThereReply reply) [
    | inl (none, unheld) ↦ subst ThereReply (sym unheld.0) tt
    | inr (h, held, does) ↦
        let k = acts_told (rename_step h to) m.state.store after.store s.shape.tree does.makes.told s.shape.told does.makes.made in
        subst ThereReply (sym does.makes.answered) (move_there m.state.table does.makes.told (λ is. held_there m s holder h held ((rename_room_told h.room to s.shape.tree does.makes.told k.0 k.2).stays NoRoom is (λ e. cc)).1))
  ]

  releases_there : (holder : ℕ) → RefusesFor IsThere (Stands room) n (Release holder)
  releases_there holder m s had reply after a = elim (match_cases (holder_of n holder m.state.table.holders) _ _ a) as (λ _. ThereReply reply) [
    | inl (none, unheld) ↦ subst ThereReply (sym unheld.0) tt
    | inr (h, held, does) ↦
        let k = acts_told (release_step h) m.state.store after.store s.shape.tree does.told s.shape.told does.made in
        subst ThereReply (sym does.answered) (release_there h m.state.table does.told (λ is. held_there m s holder h held ((make_folder_told h.room openhosts s.shape.tree does.told k.0 k.2).stays NoRoom is (λ e. cc)).1))
  ]

  pub moves_there : (to : Name) (holder : ℕ) → GoesFor IsThere (Stands room) n (moves to holder)
  moves_there to holder = moves_go IsThere (Stands room) (stands_on room) n releases_there to holder (names_there holder to)

  pub metadata_there : (size holder : ℕ) → GoesFor IsThere (Stands room) n (lists_metadata size room holder)
  metadata_there size holder = metadata_goes IsThere (Stands room) (stands_on room) n releases_there size room holder looks_there (marks_there holder size)

-- ---- the statement

find_told : (table : Table) (told : Told) → Refused refusal.NoRoom ≡ (find_outcome table told).reply → (told ≡ Ok NoRoom → ⊥) → told ≡ Ok Absent
find_told table (Ok Absent) e never = refl
find_told table (Ok NoRoom) e never = absurd (never refl)
find_told table (Ok NoFolder) e never = absurd (cc)
find_told table (Ok (Number room)) e never = absurd (cc)
find_told table (Ok answer) e never = absurd (cc)
find_told table (Err Fault) e never = absurd (cc)
find_told table (Err NoMemory) e never = absurd (cc)

-- no room has the name
none_named : (m : Moment) (s : IsSoundAt m) (n : ℕ) (name : Name) (after : State) → Answers m.state n (Find name) (Refused refusal.NoRoom) after → IsFree s.shape.tree name
none_named m s n name after a =
    let t = acts_told (find_room name) m.state.store after.store s.shape.tree a.makes.told s.shape.told a.makes.made in
    let says : (answer : Answer) → a.makes.told ≡ Ok answer → FindTells s.shape.tree name answer = λ answer is. (look_answered (find_room name) s.shape.tree (FindTells s.shape.tree name) (find_tells s.shape.tree name) answer t.0 (subst (λ o. Tells (find_room name) s.shape.tree o t.0) is t.2)).1 in
    says Absent (find_told m.state.table a.makes.told a.makes.answered (says NoRoom))

module _ {R : Type 0} (n : ℕ) (name : Name) (next : ℕ → ℕ → Tries R) where
  abbrev Lost : Result R Stuck
  Lost = Err (stuck.Refused refusal.NoRoom)

  -- Where what follows a hold never ends so, no container had the name.
  pub finds_none : (m : Moment) (events : List Event) → ((room holder : ℕ) → GoesFor IsThere (Stands room) n (next room holder)) → IsLawful m.state events → IsSoundAt m
      → Runs n (ask (Find name) (λ reply. given (room_in reply) (failure reply) (λ room. holds room (next room)))) events (Err (stuck.Refused refusal.NoRoom)) → FindsNone m n (alone events) name
  finds_none m events goes lawful sound runs =
      let f = has_asked n m (Find name) (OnFind next) events Lost lawful sound runs in
      elim (given_or_not n (room_in f.event.reply) (failure f.event.reply) (λ room. holds room (next room)) f.later (stuck.Refused refusal.NoRoom) f.runs) as (λ _. FindsNone m n (alone events) name) [
        | inl fails ↦ none f (refused_so f.event.reply refusal.NoRoom fails)
        | inr (room, found, on) ↦ absurd (gone f room (found_room f.event.reply room found) on)
      ]
    where
      none : (f : HasAsked n m (Find name) (OnFind next) events Lost) → f.event.reply ≡ Refused refusal.NoRoom → FindsNone m n (alone events) name
      none f told =
          let at_find : Moment = moment_after m f.before in
          let free : IsFree f.sound.shape.tree name = none_named at_find f.sound n name f.event.after
          (answered at_find.state n (Find name) (unbroken (Find name)) (Refused refusal.NoRoom) f.event.after refl (its_step n (Find name) (Refused refusal.NoRoom) at_find.state f.event f.own f.asked told f.lawful.1)) in
          record {
            earlier = f.before;
            finding = f.event;
            later = f.later;
            split = f.split;
            finds = answered_so n (Find name) (Refused refusal.NoRoom) f.event f.own f.asked told;
            free = λ tree has. subst (λ (t : Tree). IsFree t name) (one_tree f.sound.shape.tree tree at_find.state.store.tree f.sound.shape.told has) free;
          }

      gone : (f : HasAsked n m (Find name) (OnFind next) events Lost) (room : ℕ) → f.event.reply ≡ Room room → Runs n (holds room (next room)) f.later Lost → ⊥
      gone f room told on =
          let at_find : Moment = moment_after m f.before in
          let had : IsContainerAt at_find room = container_found at_find f.sound n room name f.event.after
          (answered at_find.state n (Find name) (unbroken (Find name)) (Room room) f.event.after refl (its_step n (Find name) (Room room) at_find.state f.event f.own f.asked told f.lawful.1)) in
          call_goes IsThere (Stands room) (stands_on room) n (Hold room) (OnHold next room) (holds_there n room)
          (λ reply is. given_goes IsThere (Stands room) (stands_on room) n (holder_in reply) (failure reply) (next room) (failure_for IsThere reply is) (goes room))
          (next_moment at_find f.event) f.later Lost (sound_after at_find (f.event ∷ []) (f.lawful.0, f.lawful.1, tt) f.sound) (stands_on room at_find f.event f.later f.sound f.lawful had) f.lawful.2 on
