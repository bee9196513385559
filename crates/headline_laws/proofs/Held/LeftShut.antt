-- A container that nobody could enter as the mount began was left so in the tree before.
use Rattle.std.proofs.Common.{◌≡◌, inl, inr, ℕ, Bool, true, false, List, [], ◌∷◌, length, Option, Some, None, Ok, Err, refl, sym, ap, ◌∙◌}
use Rattle.std.specs.Prelude.{slice_get}
use Rattle.std.proofs.lemmas.Bool.{cases_eq}
use Rattle.container_layout.specs.Paths.{openhosts}
use Rattle.store_api.specs.declared.step.Answer.TheVariants as answer
use Rattle.store_api.specs.declared.store.Trouble.TheVariants.{Fault, NoMemory}
use Rattle.store_api.specs.declared.tree.Room.{Room}
use Rattle.store_api.specs.declared.tree.Tree.{Tree}
use Rattle.store_api.specs.Acts.{Acts, Stored}
use Rattle.store_api.specs.Names.{marks_folder, marks_name}
use Rattle.store_api.specs.Room.{has_folder}
use Rattle.store_api.specs.Step.{Step}
use Rattle.store_laws.specs.Changes.{RoomMade}
use Rattle.store_laws.specs.Naming.{NamesFolder}
use Rattle.store_laws.specs.Outcomes.{MadeOrNot}
use Rattle.store_laws.specs.Says.{WhyNoRoomMade}
use Rattle.store_laws.specs.There.{HoldsFolder, LacksFolder}
use Rattle.store_laws.proofs.Facts.{acts_told, keeps_rooms, make_room_told, slice_get_more}
use Rattle.mount_model.specs.History.{Event}
use Rattle.mount_model.specs.Making.{Told}
use Rattle.mount_model.specs.Mounting.{IsMounted, list_step, mark_step, marks_step, room_told}
use Rattle.mount_model.specs.State.{State}
use Rattle.mount_model.proofs.Facts.{step_place}
use Rattle.mount_sound.specs.Owed.{IsLawful}
use Rattle.reader_laws.specs.Moments.{Moment, moment_after, next_moment}
use Rattle.headline_laws.proofs.Held.Shut.{not_both, told_none}

-- ---- the room of the mounts' marks stays the same one

pub marks_stay : (m : Moment) (events : List Event) → IsLawful m.state events → (moment_after m events).state.marks ≡ m.state.marks
marks_stay m [] lawful = refl
marks_stay m (e ∷ events) lawful = marks_stay (next_moment m e) events lawful.2 ∙ (step_place m.state e.after e.caller e.ask e.reply lawful.1).marks

-- ---- an act of the mounting

act_keeps : (step : Step) (old new : Stored) (tree : Tree) (told : Told) (n : ℕ) → Acts step old new told → (NamesFolder step n openhosts → ⊥) → old.tree ≡ Some tree → HoldsFolder tree n openhosts → (after : Tree) × (new.tree ≡ Some after) × HoldsFolder after n openhosts
act_keeps step old new tree told n acts spares is h =
    let t = acts_told step old new tree told is acts in
    let k = keeps_rooms step tree told t.0 t.2 n h.room h.has_room in
    (t.0, t.1, record { room = k.0; has_room = k.1; there = k.2.folders openhosts spares ∙ h.there })

number_same : (a b : ℕ) → answer.Number a ≡ answer.Number b → a ≡ b
number_same a b is = cc

-- the room that was made is that of the marks
made_marks : (tree after : Tree) (marks : ℕ) (told : Told) → room_told told ≡ Some marks → MadeOrNot tree (answer.Number (length tree.rooms)) (RoomMade tree marks_name (marks_folder ∷ []) []) (WhyNoRoomMade tree marks_name) told after → (after ≡ tree → ⊥) → marks ≡ length tree.rooms
made_marks tree after marks (Ok (answer.Number k)) is m never = elim (cases_eq k (length tree.rooms)) as (λ _. marks ≡ length tree.rooms) [
  | inl last ↦ (let same : k ≡ marks = cc in sym same ∙ last)
  | inr other ↦ absurd (never (m.stays (answer.Number k) refl (λ e. other (number_same k (length tree.rooms) e))).0)
]
made_marks tree after marks (Ok (answer.Old k)) is m never = absurd (never (m.stays (answer.Old k) refl (λ e. cc)).0)
made_marks tree after marks (Ok other) is m never = absurd (cc)
made_marks tree after marks (Err Fault) is m never = absurd (cc)
made_marks tree after marks (Err NoMemory) is m never = absurd (cc)

-- ---- the law of this file

module _ (times : Option (List ℕ)) (opened : Stored) (start : State) (tree : Tree) (n : ℕ) (mounted : IsMounted 0 times opened start) (tells : opened.tree ≡ Some tree) (apart : n ≡ start.marks → ⊥) (shut : (now : Tree) → start.store.tree ≡ Some now → LacksFolder now n openhosts) where
  not_open : HoldsFolder tree n openhosts → ⊥
  not_open h =
      let d = mounted.draws in
      let a = act_keeps marks_step opened d.roomed tree d.tells.told n d.tells.made (λ no. no) tells h in
      let b = act_keeps (list_step start.marks) d.roomed d.listed a.0 (Ok (answer.Names d.names)) n d.lists (λ no. no) a.1 a.2 in
      let c = act_keeps (mark_step start.marks start.mount) d.listed start.store b.0 (Ok answer.Made) n d.marked (λ no. no) b.1 b.2 in
      not_both c.0 n c.2 (shut c.0 c.1)

  not_new : slice_get tree.rooms n ≡ None → ⊥
  not_new none =
      let d = mounted.draws in
      let a = acts_told marks_step opened d.roomed tree d.tells.told tells d.tells.made in
      let b = acts_told (list_step start.marks) d.roomed d.listed a.0 (Ok (answer.Names d.names)) a.1 d.lists in
      let c = acts_told (mark_step start.marks start.mount) d.listed start.store b.0 (Ok answer.Made) b.1 d.marked in
      let never : slice_get a.0.rooms n ≡ None → ⊥ = λ gone.
      let second = told_none a.0 n gone (list_step start.marks) (Ok (answer.Names d.names)) b.0 tt b.2 in
      let third = told_none b.0 n second (mark_step start.marks start.mount) (Ok answer.Made) c.0 tt c.2 in
      let l = shut c.0 c.1 in
      let clash : Some l.room ≡ None = sym l.has_room ∙ third in
      cc in
      let changed : a.0 ≡ tree → ⊥ = λ same. never (ap (λ (t : Tree). slice_get t.rooms n) same ∙ none) in
      let made = make_room_told marks_name (marks_folder ∷ []) [] tree d.tells.told a.0 a.2 in
      elim made.either as (λ _. ⊥) [
        | inr same ↦ changed same
        | inl r ↦ by a.0 r never (made_marks tree a.0 start.marks d.tells.told d.tells.tells made changed) (slice_get a.0.rooms n) refl
      ]
    where
      by : (after : Tree) → RoomMade tree marks_name (marks_folder ∷ []) [] after → (slice_get after.rooms n ≡ None → ⊥) → start.marks ≡ length tree.rooms → (o : Option Room) → slice_get after.rooms n ≡ o → ⊥
      by after r never marks None e = never e
      by after r never marks (Some room) e =
          let g = slice_get_more tree.rooms n room r.new (ap (λ (t : Tree). slice_get t.rooms n) (sym r.gives) ∙ e) in
          let clash : None ≡ Some room = sym none ∙ g.1 (λ at. apart (at ∙ sym marks)) in
          cc

  pub left_shut : (room : Room) × (slice_get tree.rooms n ≡ Some room) × (has_folder room openhosts ≡ false)
  left_shut = by (slice_get tree.rooms n) refl
    where
      Was : Type 0
      Was = (room : Room) × (slice_get tree.rooms n ≡ Some room) × (has_folder room openhosts ≡ false)

      in_it : (room : Room) (b : Bool) → slice_get tree.rooms n ≡ Some room → has_folder room openhosts ≡ b → Was
      in_it room true there has = absurd (not_open (record { room = room; has_room = there; there = has }))
      in_it room false there has = (room, there, has)

      by : (o : Option Room) → slice_get tree.rooms n ≡ o → Was
      by None e = absurd (not_new e)
      by (Some room) e = in_it room (has_folder room openhosts) e refl
