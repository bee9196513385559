-- What was found or made by a name is a container, and no room of marks.
use Rattle.std.proofs.Common.{◌≡◌, ℕ, Bool, true, false, List, [], length, get_or, nat_le, Option, Some, None, Ok, Err, refl, sym, ap, ◌∙◌, inl, inr, subst, arith, if◌then◌else◌}
use Rattle.std.specs.Prelude.{◌==◌, ◌-◌, ◌^◌, slice_get, slice_index}
use Rattle.std.proofs.lemmas.Bool.Decides.{nat_tests}
use Rattle.std.proofs.lemmas.Bool.{cases_eq}
use Rattle.container_layout.proofs.Facts.{elsewhere}
use Rattle.plfs_types.specs.declared.names.Path.{Path}
use Rattle.plfs_types.specs.Names.{IsLogicalName}
use Rattle.store_api.specs.declared.step.Answer.TheVariants as answer
use Rattle.store_api.specs.declared.store.Trouble.TheVariants as trouble
use Rattle.store_api.specs.declared.tree.Room.{Room as RoomThere}
use Rattle.store_api.specs.declared.tree.Tree.{Tree}
use Rattle.store_api.specs.Names.{marks_folder}
use Rattle.store_api.specs.Step.{find_room, make_room}
use Rattle.store_laws.specs.Changes.{RoomMade}
use Rattle.store_laws.specs.Files.{file_at}
use Rattle.store_laws.specs.Outcomes.{MadeOrNot}
use Rattle.store_laws.specs.Says.{FindTells, WhyNoRoomMade}
use Rattle.store_laws.specs.Tells.{Tells}
use Rattle.store_laws.specs.There.{IsRoomOf, LacksRoom}
use Rattle.store_laws.proofs.Facts.{acts_told, added_room, find_tells, look_answered, make_room_told}
use Rattle.mount_model.specs.declared.call.Call.TheVariants.{Find, MakeContainer}
use Rattle.mount_model.specs.declared.reply.Reply.TheVariants.{Room}
use Rattle.mount_model.specs.Finding.{find_outcome, make_outcome}
use Rattle.mount_model.specs.declared.reply.Refusal.{Refusal}
use Rattle.mount_model.specs.declared.reply.Refusal.TheVariants as refusal
use Rattle.mount_model.specs.Entering.{draw_check}
use Rattle.mount_model.specs.Making.{Told, or_reason, room_check}
use Rattle.mount_model.specs.Paths.{Name, access_path, new_files, new_folders}
use Rattle.mount_model.specs.State.{State, Table}
use Rattle.mount_model.specs.Step.{Answers}
use Rattle.reader_laws.specs.Moments.{IsSoundAt, Moment, file_in_room, file_told}
use Rattle.reader_laws.proofs.Gathered.Facts.{in_a_room, in_tree}
use Rattle.reader_laws.specs.Failing.{IsContainerAt}

same_tree : (a b : Tree) (o : Option Tree) → o ≡ Some a → o ≡ Some b → a ≡ b
same_tree a b o p q = cc

-- a room of such a name is a container
named_container : (m : Moment) (s : IsSoundAt m) (name : Name) (room : ℕ) (r : RoomThere) → IsLogicalName name → slice_get s.shape.tree.rooms room ≡ Some r → r.name ≡ name → IsContainerAt m room
named_container m s name room r logical there named = elim (s.shape.shaped.rooms room r there) as (λ _. IsContainerAt m room) [
  | inl marks ↦ absurd (logical.no_dot (ap (λ l. slice_index l 0) (sym named ∙ marks.named)))
  | inr c ↦ record {
    is_item = record { in_range = tt; widths = tt };
    bytes = [];
    there = ap (λ o. file_told o room access_path) s.shape.told ∙ ap (λ o. file_in_room o access_path) there ∙ c.has_access;
  }
]

-- ---- what was made

-- the room that was told has this name then
made_named : (tree after : Tree) (name : Name) (folders files : List Name) (told : Told) (table : Table) (room : ℕ) → Room room ≡ (make_outcome table told).reply → MadeOrNot tree (answer.Number (length tree.rooms)) (RoomMade tree name folders files) (WhyNoRoomMade tree name) told after
    → (r : RoomThere) × (slice_get after.rooms room ≡ Some r) × (r.name ≡ name)
made_named tree after name folders files (Ok (answer.Number n)) table room e m =
    let same : n ≡ room = cc in
    elim (cases_eq n (length tree.rooms)) as (λ _. (r : RoomThere) × (slice_get after.rooms room ≡ Some r) × (r.name ≡ name)) [
      | inl last ↦
          let r = m.done (ap (λ k. Ok (answer.Number k)) last) in
          (r.new, subst (λ k. slice_get after.rooms k ≡ Some r.new) (sym last ∙ same) (ap (λ (t : Tree). slice_get t.rooms (length tree.rooms)) r.gives ∙ added_room tree r.new), r.named)
      | inr other ↦ absurd (m.stays (answer.Number n) refl (λ is. other (number_is n (length tree.rooms) is))).1
    ]
  where
    number_is : (a b : ℕ) → answer.Number a ≡ answer.Number b → a ≡ b
    number_is a b is = cc
made_named tree after name folders files (Ok (answer.Old n)) table room e m =
    let same : n ≡ room = cc in
    let s = m.stays (answer.Old n) refl (λ is. cc) in
    (s.1.room, subst (λ k. slice_get after.rooms k ≡ Some s.1.room) same (ap (λ (t : Tree). slice_get t.rooms n) s.0 ∙ s.1.has_room), s.1.named)
made_named tree after name folders files (Ok other) table room e m = absurd (cc)
made_named tree after name folders files (Err trouble.Fault) table room e m = absurd (cc)
made_named tree after name folders files (Err trouble.NoMemory) table room e m = absurd (cc)

-- what was found or made is a container
pub made_there : (m next : Moment) (n : ℕ) (name : Name) (room : ℕ) → IsSoundAt m → IsSoundAt next → Answers m.state n (MakeContainer name) (Room room) next.state → IsContainerAt next room
made_there m next n name room s s2 a =
    let acts = a.makes in
    let t = acts_told (make_room name new_folders new_files) m.state.store next.state.store s.shape.tree acts.told s.shape.told acts.made in
    let r = made_named s.shape.tree t.0 name new_folders new_files acts.told m.state.table room acts.answered (make_room_told name new_folders new_files s.shape.tree acts.told t.0 t.2) in
    let there : slice_get s2.shape.tree.rooms room ≡ Some r.0 = ap (λ (x : Tree). slice_get x.rooms room) (same_tree s2.shape.tree t.0 next.state.store.tree s2.shape.told t.1) ∙ r.1 in
    named_container next s2 name room r.0 a.named there r.2

-- ---- what was found

number_found : (table : Table) (told : Told) (room : ℕ) → Room room ≡ (find_outcome table told).reply → told ≡ Ok (answer.Number room)
number_found table (Ok (answer.Number n)) room e = let same : n ≡ room = cc in ap (λ k. Ok (answer.Number k)) same
number_found table (Ok other) room e = absurd (cc)
number_found table (Err trouble.Fault) room e = absurd (cc)
number_found table (Err trouble.NoMemory) room e = absurd (cc)

-- is a container
pub found_there : (m : Moment) (n : ℕ) (name : Name) (room : ℕ) (after : State) → IsSoundAt m → Answers m.state n (Find name) (Room room) after → IsContainerAt m room
found_there m n name room after s a =
    let t = acts_told (find_room name) m.state.store after.store s.shape.tree a.makes.told s.shape.told a.makes.made in
    let told : Tells (find_room name) s.shape.tree (Ok (answer.Number room)) t.0 = subst (λ o. Tells (find_room name) s.shape.tree o t.0) (number_found m.state.table a.makes.told room a.makes.answered) t.2 in
    let is : IsRoomOf s.shape.tree name room = (look_answered (find_room name) s.shape.tree (FindTells s.shape.tree name) (find_tells s.shape.tree name) (answer.Number room) t.0 told).1 in
    named_container m s name room is.room a.named is.has_room is.named

-- ---- where it is there

module _ (m : Moment) (s : IsSoundAt m) (room : ℕ) (had : IsContainerAt m room) where
  its_room : (r : RoomThere) × (slice_get s.shape.tree.rooms room ≡ Some r) × (file_at r access_path ≡ Some had.bytes)
  its_room = in_a_room (slice_get s.shape.tree.rooms room) access_path had.bytes (in_tree m s room access_path had.bytes had.there)

  pub has_room : LacksRoom s.shape.tree room → ⊥
  has_room lacks = let clash : Some its_room.0 ≡ None = sym its_room.1 ∙ lacks in cc

  no_mark : [] ≡ marks_folder → ⊥
  no_mark clash = elsewhere (ap (λ (l : List ℕ). get_or l 0 0) clash) refl

  pub not_marks : room ≡ m.state.marks → ⊥
  not_marks same =
      let both : Some its_room.0 ≡ Some s.shape.marks = sym its_room.1 ∙ ap (λ n. slice_get s.shape.tree.rooms n) same ∙ s.shape.has_marks in
      let one : its_room.0 ≡ s.shape.marks = cc in
      let mark = s.shape.is_marks.files access_path had.bytes (subst (λ r. file_at r access_path ≡ Some had.bytes) one its_room.2) in
      no_mark (ap (λ (p : Path). p.folder) mark.3)

  marked : (b : Bool) → (room == m.state.marks) ≡ b → b ≡ true → ⊥
  marked b is on = not_marks (let same : (room == m.state.marks) ≡ true = is ∙ on in grind (arith, nat_tests))

  -- so the check of its number finds no reason
  pub no_check : (why : Refusal) → room_check m.state room ≡ Some why → ⊥
  no_check why check = by (room == m.state.marks) refl check
    where
      by : (b : Bool) → (room == m.state.marks) ≡ b → (if b then Some refusal.NoRoom else None) ≡ Some why → ⊥
      by true is some = marked true is refl
      by false is some = cc

  -- and where it is to be drawn in, that no id is left
  pub drawn_spent : (why : Refusal) → draw_check m.state room ≡ Some why → why ≡ refusal.IdsSpent
  drawn_spent why check = by (room == m.state.marks) refl check
    where
      spent : (b : Bool) → (if b then Some refusal.IdsSpent else None) ≡ Some why → why ≡ refusal.IdsSpent
      spent true some = (let same : refusal.IdsSpent ≡ why = cc in sym same)
      spent false some = absurd (cc)

      by : (b : Bool) → (room == m.state.marks) ≡ b → or_reason (if b then Some refusal.NoRoom else None) (if nat_le (2 ^ 32 - 1) m.state.serial then Some refusal.IdsSpent else None) ≡ Some why → why ≡ refusal.IdsSpent
      by true is some = absurd (marked true is refl)
      by false is some = spent (nat_le (2 ^ 32 - 1) m.state.serial) some
