-- What the calls of an opening leave, where they did their work.
use Rattle.std.proofs.Common.{◌≡◌, ◌≤◌, ◌+◌, ◌*◌, ◌-◌, ◌^◌, ℕ, Bool, true, false, nat_eq, nat_le, List, [], ◌∷◌, ◌++◌, length, get_or, Option, Some, None, Ok, Err, refl, sym, ap, ◌∙◌, inl, inr, subst, arith, if◌then◌else◌}
use Rattle.std.specs.Prelude.{slice_get, slice_index}
use Rattle.std.specs.List.{All}
use Rattle.std.proofs.lemmas.Bool.{cases_eq}
use Rattle.std.proofs.lemmas.Bool.Decides.{nat_tests}
use Rattle.std.proofs.lemmas.List.Elements.{All-head, All-tail}
use Rattle.container_layout.specs.Paths.{hostdir_of}
use Rattle.container_layout.proofs.Facts.{elsewhere}
use Rattle.plfs_types.specs.declared.names.Path.{Path}
use Rattle.store_api.specs.declared.step.Answer.TheVariants as answer
use Rattle.store_api.specs.declared.store.Trouble.TheVariants as trouble
use Rattle.store_api.specs.declared.tree.Room.{Room as RoomThere}
use Rattle.store_api.specs.declared.tree.Tree.{Tree}
use Rattle.store_api.specs.Step.{make_room}
use Rattle.store_laws.specs.Changes.{RoomMade}
use Rattle.store_laws.specs.Files.{file_at}
use Rattle.store_laws.specs.Outcomes.{MadeOrNot}
use Rattle.store_laws.specs.Says.{WhyNoRoomMade}
use Rattle.store_laws.specs.There.{LacksRoom}
use Rattle.store_laws.proofs.Facts.{acts_told, added_room, make_room_told}
use Rattle.mount_model.specs.declared.call.Call.TheVariants.{Enter, Floor, MakeContainer, MakeHostdir, MakeIndex, MakeLog}
use Rattle.mount_model.specs.declared.reply.Refusal.{Refusal}
use Rattle.mount_model.specs.declared.reply.Refusal.TheVariants as refusal
use Rattle.mount_model.specs.declared.reply.Reply.TheVariants.{Done, Entered, Floored, Room}
use Rattle.mount_model.specs.declared.row.Row.{Row}
use Rattle.mount_model.specs.declared.row.Stage.{Stage}
use Rattle.mount_model.specs.declared.row.Stage.TheVariants as stage
use Rattle.mount_model.specs.Building.{build_outcome, hostdir_step, index_step, log_step}
use Rattle.mount_model.specs.Entering.{EntersAs, draw_check, enter_outcome, entered, next_id, serial_check}
use Rattle.mount_model.specs.Finding.{make_outcome}
use Rattle.mount_model.specs.Flooring.{FloorOutcome, FloorsRow, floored}
use Rattle.mount_model.specs.History.{Event}
use Rattle.mount_model.specs.Making.{MakesAct, Refuses, Told, or_reason}
use Rattle.mount_model.specs.Paths.{Name, access_path, index_path, new_files, new_folders, log_path}
use Rattle.store_api.specs.Names.{marks_folder}
use Rattle.mount_model.specs.Regular.{IsDrawn}
use Rattle.mount_model.specs.State.{State, Table, put}
use Rattle.mount_model.specs.Step.{Answers}
use Rattle.mount_model.specs.Table.{at_stage, only, row_of}
use Rattle.mount_model.proofs.Facts.{match_cases, row_of-push}
use Rattle.reader_laws.specs.Moments.{HadItem, IsSoundAt, Moment, file_in_room, file_told, next_moment}
use Rattle.reader_laws.proofs.Gathered.Facts.{grows_after, in_a_room, in_tree}
use Rattle.container_layout.specs.declared.items.Item.TheVariants.{Access}
use Rattle.refusal_laws.specs.Reasons.{IsChecked}
use Rattle.writer_laws.specs.Knowing.{HasRow}
use Rattle.plain_plays.specs.Opens.{IsSpent}
use Rattle.plain_plays.proofs.PlainSteps.Doing.{its_row, put_row}
use Rattle.plain_plays.proofs.PlainSteps.Reaching.{StaysUnderOthers}

-- ---- a container

-- a container has this number: its access file stands
abbrev pub IsContainerAt : ℕ → Moment → Type 0
IsContainerAt room m = HadItem m room Access

pub stands_on : (me room : ℕ) → StaysUnderOthers me (IsContainerAt room)
stands_on me room m event rest sound lawful other had = (grows_after m (event ∷ []) (lawful.0, lawful.1, tt) sound).stands room Access tt had

same_tree : (a b : Tree) (o : Option Tree) → o ≡ Some a → o ≡ Some b → a ≡ b
same_tree a b o p q = cc

-- the room that was told has this name then
made_named : (tree after : Tree) (name : Name) (folders files : List Name) (told : Told) (table : Table) (room : ℕ) → Room room ≡ (make_outcome table told).reply → MadeOrNot tree (answer.Number (length tree.rooms)) (RoomMade tree name folders files) (WhyNoRoomMade tree name) told after
    → (r : RoomThere) × (slice_get after.rooms room ≡ Some r) × (r.name ≡ name)
made_named tree after name folders files (Ok (answer.Number n)) table room e m =
    let same : n ≡ room = cc in
    elim (cases_eq n (length tree.rooms)) as (λ _. (r : RoomThere) × (slice_get after.rooms room ≡ Some r) × (r.name ≡ name)) [
      | inl last ↦
          let r = m.done (ap (λ k. Ok (answer.Number k)) last) in
          (r.new, subst (λ k. slice_get after.rooms k ≡ Some r.new) (sym last ∙ same) (ap (λ (t : Tree). slice_get t.rooms (length tree.rooms)) r.gives ∙ added_room tree r.new), r.named)
      | inr other ↦ absurd (m.stays (answer.Number n) refl (λ is. other (number_is n (length tree.rooms) is))).1
    ]
  where
    number_is : (a b : ℕ) → answer.Number a ≡ answer.Number b → a ≡ b
    number_is a b is = cc
made_named tree after name folders files (Ok (answer.Old n)) table room e m =
    let same : n ≡ room = cc in
    let s = m.stays (answer.Old n) refl (λ is. cc) in
    (s.1.room, subst (λ k. slice_get after.rooms k ≡ Some s.1.room) same (ap (λ (t : Tree). slice_get t.rooms n) s.0 ∙ s.1.has_room), s.1.named)
made_named tree after name folders files (Ok other) table room e m = absurd (cc)
made_named tree after name folders files (Err trouble.Fault) table room e m = absurd (cc)
made_named tree after name folders files (Err trouble.NoMemory) table room e m = absurd (cc)

-- what was found or made is a container
pub made_there : (m : Moment) (me : ℕ) (name : Name) (room : ℕ) (event : Event) → IsSoundAt m → IsSoundAt (next_moment m event) → Answers m.state me (MakeContainer name) (Room room) event.after → IsContainerAt room (next_moment m event)
made_there m me name room event s s2 a =
    let acts = a.makes in
    let t = acts_told (make_room name new_folders new_files) m.state.store event.after.store s.shape.tree acts.told s.shape.told acts.made in
    let n = made_named s.shape.tree t.0 name new_folders new_files acts.told m.state.table room acts.answered (make_room_told name new_folders new_files s.shape.tree acts.told t.0 t.2) in
    let there : slice_get s2.shape.tree.rooms room ≡ Some n.0 = ap (λ (x : Tree). slice_get x.rooms room) (same_tree s2.shape.tree t.0 event.after.store.tree s2.shape.told t.1) ∙ n.1 in
    elim (s2.shape.shaped.rooms room n.0 there) as (λ _. IsContainerAt room (next_moment m event)) [
      | inl marks ↦ absurd (a.named.no_dot (ap (λ l. slice_index l 0) (sym n.2 ∙ marks.named)))
      | inr c ↦ record {
        is_item = record { in_range = tt; widths = tt };
        bytes = [];
        there = ap (λ o. file_told o room access_path) s2.shape.told ∙ ap (λ o. file_in_room o access_path) there ∙ c.has_access;
      }
    ]

module _ (m : Moment) (s : IsSoundAt m) (room : ℕ) (had : IsContainerAt room m) where
  pub its_room : (r : RoomThere) × (slice_get s.shape.tree.rooms room ≡ Some r) × (file_at r access_path ≡ Some had.bytes)
  its_room = in_a_room (slice_get s.shape.tree.rooms room) access_path had.bytes (in_tree m s room access_path had.bytes had.there)

  pub has_room : LacksRoom s.shape.tree room → ⊥
  has_room lacks = let clash : Some its_room.0 ≡ None = sym its_room.1 ∙ lacks in cc

  no_mark : [] ≡ marks_folder → ⊥
  no_mark clash = elsewhere (ap (λ (l : List ℕ). get_or l 0 0) clash) refl

  pub not_marks : room ≡ m.state.marks → ⊥
  not_marks same =
      let both : Some its_room.0 ≡ Some s.shape.marks = sym its_room.1 ∙ ap (λ n. slice_get s.shape.tree.rooms n) same ∙ s.shape.has_marks in
      let one : its_room.0 ≡ s.shape.marks = cc in
      let mark = s.shape.is_marks.files access_path had.bytes (subst (λ r. file_at r access_path ≡ Some had.bytes) one its_room.2) in
      no_mark (ap (λ (p : Path). p.folder) mark.3)

  -- an id was not drawn since none was left
  pub only_spent : (why : Refusal) → IsChecked (draw_check m.state room) why → (why ≡ refusal.IdsSpent) × IsSpent m
  only_spent why check =
      let apart : nat_eq room m.state.marks ≡ false = let other : room ≡ m.state.marks → ⊥ = not_marks in grind (arith, nat_tests) in
      spent_so (nat_le (2 ^ 32 - 1) m.state.serial) refl (subst (λ b. or_reason (if b then Some refusal.NoRoom else None) (serial_check m.state) ≡ Some why) apart check)
    where
      spent_so : (b : Bool) → nat_le (2 ^ 32 - 1) m.state.serial ≡ b → (if b then Some refusal.IdsSpent else None) ≡ Some why → (why ≡ refusal.IdsSpent) × IsSpent m
      spent_so true is e = (let same : why ≡ refusal.IdsSpent = cc in same, grind (arith, nat_tests, is))
      spent_so false is e = absurd (cc)

-- ---- a new row

undrawn : (mount serial last id next : ℕ) → serial ≤ last → id ≡ mount * 2 ^ 32 + serial → next ≡ mount * 2 ^ 32 + (last + 1) → nat_eq id next ≡ false
undrawn mount serial last id next l e f = let away : id ≡ next → ⊥ = λ s. omega arith in grind (arith, nat_tests)

pub never_drawn : (old : State) (rows : List Row) → All (λ (row : Row). IsDrawn old row.id) rows → row_of (next_id old) rows ≡ None
never_drawn old [] a = refl
never_drawn old (r ∷ rows) a =
    let d : IsDrawn old r.id = All-head (λ (row : Row). IsDrawn old row.id) r rows a in
    rw (undrawn old.mount d.0 old.serial r.id (next_id old) d.2 d.3 refl) (never_drawn old rows (All-tail (λ (row : Row). IsDrawn old row.id) r rows a))

enter_made : (row : Row) (table : Table) (told : Told) (w : ℕ) → Entered w ≡ (enter_outcome row table told).reply → ((enter_outcome row table told).table ≡ record table { writers = table.writers ++ row ∷ [] }) × (row.id ≡ w)
enter_made row table (Ok answer.Made) w e = (refl, let same : row.id ≡ w = cc in same)
enter_made row table (Ok answer.NoRoom) w e = absurd (cc)
enter_made row table (Ok answer.NoFolder) w e = absurd (cc)
enter_made row table (Ok other) w e = absurd (cc)
enter_made row table (Err trouble.Fault) w e = absurd (cc)
enter_made row table (Err trouble.NoMemory) w e = absurd (cc)

-- the caller has the writer that has entered
pub enter_does : (m : Moment) (s : IsSoundAt m) (me room host cap w : ℕ) (new : State) → Answers m.state me (Enter room host cap) (Entered w) new → HasRow me w (entered m.state me room host cap) new
enter_does m s me room host cap w new a = elim (match_cases (draw_check m.state room) (EntersAs me room host cap m.state (Entered w) new) (λ why. Refuses why m.state (Entered w) new) a) as (λ _. HasRow me w (entered m.state me room host cap) new) [
  | inr (why, some, refused) ↦ absurd (let other = refused.0 in cc)
  | inl (none, e) ↦
      let mine : Row = entered m.state me room host cap in
      let made = enter_made mine m.state.table e.makes.told w e.makes.answered in
      let rows : new.table.writers ≡ m.state.table.writers ++ mine ∷ [] = ap (λ (x : State). x.table.writers) e.makes.after ∙ ap (λ (t : Table). t.writers) made.0 in
      let at : row_of mine.id (m.state.table.writers ++ mine ∷ []) ≡ Some mine = row_of-push m.state.table.writers mine (never_drawn m.state m.state.table.writers s.regular.drawn) in
      record { there = subst (λ rs. row_of w rs ≡ Some mine) (sym rows) (subst (λ i. row_of i (m.state.table.writers ++ mine ∷ []) ≡ Some mine) made.1 at); owned = refl }
]

-- ---- what a writer builds

floor_made : (row : Row) (table after : Table) (told : Told) (floor : ℕ) → FloorOutcome row table told (Floored floor) after → (x : ℕ) × (after ≡ put (floored x row) table)
floor_made row table after (Ok (answer.Names names)) floor (inl f) = (f.0, f.3)
floor_made row table after (Ok (answer.Names names)) floor (inr f) = absurd (let other = f.2 in cc)
floor_made row table after (Ok answer.NoRoom) floor f = absurd (let other = f.0 in cc)
floor_made row table after (Ok answer.NoFolder) floor f = absurd (let other = f.0 in cc)
floor_made row table after (Ok told) floor f = absurd (let other = f.0 in cc)
floor_made row table after (Err trouble.Fault) floor f = absurd (let other = f.0 in cc)
floor_made row table after (Err trouble.NoMemory) floor f = absurd (let other = f.0 in cc)

build_made : (to : Stage) (folder file : Name) (row : Row) (table : Table) (told : Told) → Done ≡ (build_outcome to folder file row table told).reply → (build_outcome to folder file row table told).table ≡ put (at_stage to row) table
build_made to folder file row table (Ok answer.Made) e = refl
build_made to folder file row table (Ok (answer.Old room)) e = refl
build_made to folder file row table (Ok answer.NoRoom) e = absurd (cc)
build_made to folder file row table (Ok answer.NoFolder) e = absurd (cc)
build_made to folder file row table (Ok other) e = absurd (cc)
build_made to folder file row table (Err trouble.Fault) e = absurd (cc)
build_made to folder file row table (Err trouble.NoMemory) e = absurd (cc)

module _ (me w : ℕ) (row : Row) (old new : State) (h : HasRow me w row old) where
  pub floor_does : (floor : ℕ) → only stage.Entered row.stage ≡ true → Answers old me (Floor w) (Floored floor) new → (x : ℕ) × HasRow me w (floored x row) new
  floor_does floor at a =
      let d = its_row me w (only stage.Entered) row old (Floored floor) new (λ r. FloorsRow r old (Floored floor) new) h at a in
      let made = floor_made row old.table new.table d.told floor d.outcome in
      (made.0, put_row me w row (floored made.0 row) old new h refl refl made.1)

  pub hostdir_does : only stage.Floored row.stage ≡ true → Answers old me (MakeHostdir w) Done new → HasRow me w (at_stage stage.Housed row) new
  hostdir_does at a =
      let d = its_row me w (only stage.Floored) row old Done new (λ r. MakesAct (hostdir_step r) (build_outcome stage.Housed (hostdir_of r.host) [] r old.table) old Done new) h at a in
      put_row me w row (at_stage stage.Housed row) old new h refl refl (ap (λ (x : State). x.table) d.after ∙ build_made stage.Housed (hostdir_of row.host) [] row old.table d.told d.answered)

  pub index_made_does : only stage.Housed row.stage ≡ true → Answers old me (MakeIndex w) Done new → HasRow me w (at_stage stage.Indexed row) new
  index_made_does at a =
      let d = its_row me w (only stage.Housed) row old Done new (λ r. MakesAct (index_step r) (build_outcome stage.Indexed (hostdir_of r.host) (index_path r.host r.id).file r old.table) old Done new) h at a in
      put_row me w row (at_stage stage.Indexed row) old new h refl refl (ap (λ (x : State). x.table) d.after ∙ build_made stage.Indexed (hostdir_of row.host) (index_path row.host row.id).file row old.table d.told d.answered)

  pub log_made_does : only stage.Indexed row.stage ≡ true → Answers old me (MakeLog w) Done new → HasRow me w (at_stage stage.Open row) new
  log_made_does at a =
      let d = its_row me w (only stage.Indexed) row old Done new (λ r. MakesAct (log_step r) (build_outcome stage.Open (hostdir_of r.host) (log_path r.host r.id).file r old.table) old Done new) h at a in
      put_row me w row (at_stage stage.Open row) old new h refl refl (ap (λ (x : State). x.table) d.after ∙ build_made stage.Open (hostdir_of row.host) (log_path row.host row.id).file row old.table d.told d.answered)
