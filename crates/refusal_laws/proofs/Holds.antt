-- Why calls that find, enter, hold and rename a container are refused.
use Rattle.std.proofs.Common.{◌≡◌, ◌⊎◌, ℕ, List, [], ◌∷◌, Some, None, Ok, Err, refl, sym, ap, ◌∙◌, inl, inr, subst}
use Rattle.plfs_types.specs.declared.names.Path.{Path}
use Rattle.store_api.specs.declared.step.Answer.{Answer}
use Rattle.store_api.specs.declared.step.Answer.TheVariants.{Absent, Made, Names, NoFolder, NoRoom, NotEmpty, Number, Old, TargetThere}
use Rattle.store_api.specs.declared.store.Trouble.TheVariants.{Fault}
use Rattle.store_api.specs.declared.tree.Tree.{Tree}
use Rattle.store_api.specs.Step.{find_room, make_room, rooms as all_rooms}
use Rattle.store_laws.specs.Says.{FindTells, RoomsTell}
use Rattle.store_laws.specs.Tells.{Tells}
use Rattle.store_laws.specs.There.{IsFree, IsRoomOf, LacksFolder, LacksRoom, ListsFolder}
use Rattle.store_laws.proofs.Facts.{acts_told, create_told, find_tells, look_answered, make_folder_told, make_room_told, remove_folder_told, rename_room_told, rooms_tell}
use Rattle.mount_model.specs.declared.reply.Refusal.{Refusal}
use Rattle.mount_model.specs.declared.reply.Refusal.TheVariants as refusal
use Rattle.mount_model.specs.declared.reply.Reply.TheVariants.{Refused}
use Rattle.mount_model.specs.declared.row.Holder.{Holder}
use Rattle.mount_model.specs.declared.row.Row.{Row}
use Rattle.mount_model.specs.Entering.{Enters, EntersAs, draw_check, enter_outcome, enter_step, entered, next_id}
use Rattle.mount_model.specs.Finding.{Finds, MakesContainer, NamesRooms, RoomsReply, find_outcome, make_outcome}
use Rattle.mount_model.specs.Holding.{HoldOutcome, HoldsContainer, HoldsRoom, OnHolder, Releases, Renames, Truncates, TruncatesAt, hold_step, holding, release_outcome, release_step, rename_outcome, rename_step, truncate_check, truncate_outcome, truncate_stamp, truncate_step}
use Rattle.mount_model.specs.Making.{Refuses, Told}
use Rattle.mount_model.specs.Paths.{Name, new_files, new_folders, open_path, trunc_path, truncs}
use Rattle.container_layout.specs.Paths.{openhosts}
use Rattle.mount_model.specs.State.{State, Table, timed}
use Rattle.mount_model.specs.Table.{holder_of}
use Rattle.mount_model.proofs.Facts.{is_holding, match_cases}
use Rattle.mount_sound.specs.Ledger.{Ledger}
use Rattle.mount_sound.specs.Sound.{IsSoundFor}
use Rattle.refusal_laws.specs.Reasons.{HasNoHold, IsChecked, IsOpenBy, IsShut, LacksIt, Shows}
use Rattle.refusal_laws.proofs.Outcomes.{IsPlain, act_lacks, by_check, one_told, otherwise_refused, same_why}

-- ---- outcomes

find_told : (table : Table) (told : Told) (why : Refusal) → Refused why ≡ (find_outcome table told).reply → (told ≡ Ok NoRoom → ⊥) → (told ≡ Ok Absent) × (why ≡ refusal.NoRoom)
find_told table (Ok (Number room)) why e never = absurd (cc)
find_told table (Ok Absent) why e never = (refl, same_why why refusal.NoRoom e)
find_told table told why e never = absurd (never (otherwise_refused [] [] told why e).0)

make_told : (table : Table) (told : Told) (why : Refusal) → Refused why ≡ (make_outcome table told).reply → told ≡ Ok NoRoom
make_told table (Ok (Number room)) why e = absurd (cc)
make_told table (Ok (Old room)) why e = absurd (cc)
make_told table told why e = (otherwise_refused [] [] told why e).0

rooms_told : (told : Told) (why : Refusal) → RoomsReply told (Refused why) → told ≡ Ok NoRoom
rooms_told (Ok (Names names)) why e = absurd (let other = e.1 in cc)
rooms_told told why e = (otherwise_refused [] [] told why e).0

enter_told : (row : Row) (table : Table) (told : Told) (why : Refusal) → Refused why ≡ (enter_outcome row table told).reply → ((told ≡ Ok NoRoom) × (why ≡ refusal.NoRoom)) ⊎ ((told ≡ Ok NoFolder) × (why ≡ refusal.Held))
enter_told row table (Ok Made) why e = absurd (cc)
enter_told row table (Ok NoFolder) why e = inr (refl, same_why why refusal.Held e)
enter_told row table told why e = inl (otherwise_refused openhosts (open_path row.host row.id).file told why e)

move_told : (table : Table) (told : Told) (why : Refusal) → Refused why ≡ (rename_outcome table told).reply → ((told ≡ Ok NoRoom) × (why ≡ refusal.NoRoom)) ⊎ ((told ≡ Ok TargetThere) × (why ≡ refusal.Exists))
move_told table (Ok Made) why e = absurd (cc)
move_told table (Ok TargetThere) why e = inr (refl, same_why why refusal.Exists e)
move_told table told why e = inl (otherwise_refused [] [] told why e)

mark_plain : (stamp size : ℕ) (table : Table) → IsPlain (truncate_outcome stamp size table)
mark_plain stamp size table (Ok Made) why e = absurd (cc)
mark_plain stamp size table told why e = otherwise_refused truncs (trunc_path stamp size).file told why e

release_plain : (h : Holder) (table : Table) → IsPlain (release_outcome h table)
release_plain h table (Ok Made) why e = absurd (cc)
release_plain h table (Ok (Old room)) why e = absurd (cc)
release_plain h table (Err Fault) why e = absurd (cc)
release_plain h table told why e = otherwise_refused openhosts [] told why e

-- what the store told of the folder of who has a container open
data ToldOfHold (told : Told) (why : Refusal) : Type 0 where
  lacks : told ≡ Ok NoRoom → why ≡ refusal.NoRoom → ToldOfHold told why
  shut : told ≡ Ok NoFolder → why ≡ refusal.Held → ToldOfHold told why
  open_by : (least : Name) → told ≡ Ok (NotEmpty least) → (host writer : ℕ) → least ≡ (open_path host writer).file → why ≡ refusal.Busy host writer → ToldOfHold told why

hold_told : (h : Holder) (table after : Table) (told : Told) (why : Refusal) → HoldOutcome h table told (Refused why) after → ToldOfHold told why
hold_told h table after (Ok Made) why o = absurd (let other = o.0 in cc)
hold_told h table after (Ok NoFolder) why o = shut refl (same_why why refusal.Held o.0)
hold_told h table after (Ok (NotEmpty least)) why o = elim o.0 as (λ _. ToldOfHold (Ok (NotEmpty least)) why) [
  | inl busy ↦ open_by least refl busy.0 busy.1 (ap (λ (p : Path). p.file) busy.2.printed) (same_why why (refusal.Busy busy.0 busy.1) busy.3)
  | inr other ↦ absurd (let is = other.1 in cc)
]
hold_told h table after told why o = let t = otherwise_refused openhosts [] told why o.0 in lacks t.0 t.1

-- ---- calls

module _ (issued : Ledger) (old new : State) (s : IsSoundFor issued old) (caller : ℕ) (why : Refusal) where
  -- what holds of the tree of soundness is what the store shows
  shows : (holds : Tree → Type 0) → holds s.shape.tree → Shows old holds
  shows holds is tree told = subst holds (one_told s.shape.tree tree old.store.tree s.shape.told told) is

  pub find_reason : (name : Name) → Finds name old (Refused why) new → (why ≡ refusal.NoRoom) × Shows old (λ tree. IsFree tree name)
  find_reason name f =
      let t = acts_told (find_room name) old.store new.store s.shape.tree f.makes.told s.shape.told f.makes.made in
      let says : (answer : Answer) → f.makes.told ≡ Ok answer → FindTells s.shape.tree name answer = λ answer is. (look_answered (find_room name) s.shape.tree (FindTells s.shape.tree name) (find_tells s.shape.tree name) answer t.0 (subst (λ o. Tells (find_room name) s.shape.tree o t.0) is t.2)).1 in
      let told = find_told old.table f.makes.told why f.makes.answered (says NoRoom) in
      (told.1, shows (λ tree. IsFree tree name) (says Absent told.0))

  pub make_reason : (name : Name) → MakesContainer name old (Refused why) new → ⊥
  make_reason name f =
      let t = acts_told (make_room name new_folders new_files) old.store new.store s.shape.tree f.makes.told s.shape.told f.makes.made in
      ((make_room_told name new_folders new_files s.shape.tree f.makes.told t.0 t.2).stays NoRoom (make_told old.table f.makes.told why f.makes.answered) (λ e. cc)).1

  pub rooms_reason : NamesRooms old (Refused why) new → ⊥
  rooms_reason f =
      let t = acts_told all_rooms old.store new.store s.shape.tree f.told s.shape.told f.made in
      (look_answered all_rooms s.shape.tree (RoomsTell s.shape.tree) (rooms_tell s.shape.tree) NoRoom t.0 (subst (λ o. Tells all_rooms s.shape.tree o t.0) (rooms_told f.told why f.answered) t.2)).1

  pub enter_reason : (room host cap : ℕ) → Enters caller room host cap old (Refused why) new → IsChecked (draw_check old room) why ⊎ LacksIt old room why ⊎ IsShut old room why
  enter_reason room host cap f = by_check (draw_check old room) old new why (EntersAs caller room host cap old (Refused why) new) (IsChecked (draw_check old room) why ⊎ LacksIt old room why ⊎ IsShut old room why) f (λ some. inl some)
      (λ none does.
      let t = acts_told (enter_step old room host) old.store new.store s.shape.tree does.makes.told s.shape.told does.makes.made in
      let c = create_told room (open_path host (next_id old)) s.shape.tree does.makes.told t.0 t.2 in
      elim (enter_told (entered old caller room host cap) old.table does.makes.told why does.makes.answered) as (λ _. IsChecked (draw_check old room) why ⊎ LacksIt old room why ⊎ IsShut old room why) [
        | inl gone ↦ inr (inl (gone.1, shows (λ tree. LacksRoom tree room) (c.stays NoRoom gone.0 (λ e. cc)).1))
        | inr away ↦ inr (inr (away.1, shows (λ tree. LacksFolder tree room openhosts) (c.stays NoFolder away.0 (λ e. cc)).1))
      ])

  pub hold_reason : (room : ℕ) → HoldsContainer caller room old (Refused why) new → IsChecked (draw_check old room) why ⊎ LacksIt old room why ⊎ IsShut old room why ⊎ IsOpenBy old room why
  hold_reason room f = by_check (draw_check old room) old new why (HoldsRoom caller room old (Refused why) new) (IsChecked (draw_check old room) why ⊎ LacksIt old room why ⊎ IsShut old room why ⊎ IsOpenBy old room why) f (λ some. inl some)
      (λ none does.
      let t = acts_told (hold_step room) old.store new.store s.shape.tree does.told s.shape.told does.made in
      let c = remove_folder_told room openhosts s.shape.tree does.told t.0 t.2 in
      elim (hold_told (holding old caller room) old.table new.table does.told why does.outcome) as (λ _. IsChecked (draw_check old room) why ⊎ LacksIt old room why ⊎ IsShut old room why ⊎ IsOpenBy old room why) [
        | lacks told is ↦ inr (inl (is, shows (λ tree. LacksRoom tree room) (c.stays NoRoom told (λ e. cc)).1))
        | shut told is ↦ inr (inr (inl (is, shows (λ tree. LacksFolder tree room openhosts) (c.stays NoFolder told (λ e. cc)).1)))
        | open_by least told host writer named is ↦
            let l = (c.stays (NotEmpty least) told (λ e. cc)).1 in
            inr (inr (inr (host, writer, is, shows (λ tree. (later : List Name) × ListsFolder tree room openhosts ((open_path host writer).file ∷ later)) (l.0, subst (λ name. ListsFolder s.shape.tree room openhosts (name ∷ l.0)) named l.1))))
      ])

  -- there is no such hold, or what is held decides
  on_hold : (holder : ℕ) (does : Holder → Type 0) (R : Type 0) → OnHolder caller holder old (Refused why) new does → (HasNoHold caller holder old why → R) → ((h : Holder) → (LacksRoom s.shape.tree h.room → ⊥) → does h → R) → R
  on_hold holder does R on none some = elim (match_cases (holder_of caller holder old.table.holders) (Refuses refusal.NotHolder old (Refused why) new) does on) as (λ _. R) [
    | inl (is, refused) ↦ none (same_why why refusal.NotHolder refused.0, is)
    | inr (h, is, made) ↦
        let held = s.held.each holder h (is_holding caller holder old.table.holders h is).found in
        some h (λ lacks. let clash : Some held.room ≡ None = sym held.there ∙ lacks in cc) made
  ]

  pub mark_reason : (holder size top : ℕ) → Truncates caller holder size top old (Refused why) new → HasNoHold caller holder old why ⊎ IsChecked (truncate_check size top) why
  mark_reason holder size top f = on_hold holder _ _ f (λ none. inl none)
      (λ h there d. by_check (truncate_check size top) old new why (TruncatesAt h size top old (Refused why) new) (HasNoHold caller holder old why ⊎ IsChecked (truncate_check size top) why) d (λ some. inr some)
      (λ none t. absurd (there (act_lacks (truncate_step h (truncate_stamp t.time top) size) (truncate_outcome (truncate_stamp t.time top) size old.table) (timed t.times old) new why s.shape.tree h.room s.shape.told (mark_plain (truncate_stamp t.time top) size old.table)
      (λ after tells. ((create_told h.room (trunc_path (truncate_stamp t.time top) size) s.shape.tree (Ok NoRoom) after tells).stays NoRoom refl (λ e. cc)).1) t.makes).1)))

  pub move_reason : (holder : ℕ) (to : Name) → Renames caller holder to old (Refused why) new → HasNoHold caller holder old why ⊎ ((why ≡ refusal.Exists) × Shows old (λ tree. (other : ℕ) × IsRoomOf tree to other))
  move_reason holder to f = on_hold holder _ _ f (λ none. inl none)
      (λ h there d.
      let t = acts_told (rename_step h to) old.store new.store s.shape.tree d.makes.told s.shape.told d.makes.made in
      let c = rename_room_told h.room to s.shape.tree d.makes.told t.0 t.2 in
      elim (move_told old.table d.makes.told why d.makes.answered) as (λ _. HasNoHold caller holder old why ⊎ ((why ≡ refusal.Exists) × Shows old (λ tree. (other : ℕ) × IsRoomOf tree to other))) [
        | inl gone ↦ absurd (there (c.stays NoRoom gone.0 (λ e. cc)).1)
        | inr taken ↦ inr (taken.1, shows (λ tree. (other : ℕ) × IsRoomOf tree to other) (c.stays TargetThere taken.0 (λ e. cc)).1)
      ])

  pub release_reason : (holder : ℕ) → Releases caller holder old (Refused why) new → HasNoHold caller holder old why
  release_reason holder f = on_hold holder _ _ f (λ none. none)
      (λ h there d. absurd (there (act_lacks (release_step h) (release_outcome h old.table) old new why s.shape.tree h.room s.shape.told (release_plain h old.table)
      (λ after tells. ((make_folder_told h.room openhosts s.shape.tree (Ok NoRoom) after tells).stays NoRoom refl (λ e. cc)).1) d).1))
