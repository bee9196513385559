-- A drain whose source and target have no container of the name.
use Rattle.std.proofs.Common.{◌≡◌, ℕ, zero, suc, List, [], ◌∷◌, ◌++◌, Option, Some, refl, ap, sym, ◌∙◌, ◌⊎◌, inl, inr, subst}
use Rattle.std.specs.Prelude.{slice_get, Ok}
use Rattle.std.proofs.lemmas.Bool.{cases_eq}
use Rattle.plfs_types.specs.Names.{IsLogicalName}
use Rattle.store_api.specs.declared.step.Answer.TheVariants.{Made, Names}
use Rattle.store_api.specs.declared.tree.Room.{Room}
use Rattle.store_api.specs.declared.tree.Tree.{Tree}
use Rattle.store_api.specs.Acts.{Stored}
use Rattle.store_laws.specs.Tells.{Tells}
use Rattle.store_laws.specs.There.{IsFree, IsRoomOf}
use Rattle.store_laws.proofs.Facts.{acts_told, changed_room, create_told, look_told, make_room_told, other_room}
use Rattle.mount_model.specs.declared.call.Call.TheVariants.{Find}
use Rattle.mount_model.specs.declared.reply.Reply.TheVariants.{Room as RoomReply}
use Rattle.mount_model.specs.Making.{Told as StoreTold}
use Rattle.mount_model.specs.Mounting.{IsMounted, list_step, mark_step, marks_step}
use Rattle.mount_model.specs.Paths.{Name, mark_path}
use Rattle.store_api.specs.Names.{marks_folder}
use Rattle.store_api.specs.Names.{marks_name}
use Rattle.mount_model.specs.State.{State}
use Rattle.mount_sound.proofs.Facts.{mounted_sound, one_tree}
use Rattle.mount_model.specs.Running.{unbroken}
use Rattle.reader_laws.specs.Moments.{IsSoundAt, Moment}
use Rattle.reader_laws.proofs.Gathered.Facts.{answers_as}
use Rattle.drain_copy.specs.Draining.{drain_program}
use Rattle.drain_copy.specs.Telling.{DrainsOn}
use Rattle.drain_sound.specs.Draining.{Happening, HoldsTarget}
use Rattle.drain_sound.specs.Views.{mounted_there}
use Rattle.drain_laws.specs.Driving.{AreMade, FindsRoom}
use Rattle.drain_laws.specs.Ending.{HasOpenhosts}
use Rattle.drain_program.specs.Driven.{IsDriven}
use Rattle.drain_program.specs.From.{IsDrainOfNone}
use Rattle.drain_program.specs.Targets.{LacksContainer}
use Rattle.drain_program.proofs.TargetLemmas.{DrainLaws, OneRoom, drain_finds_first, finds_first, name_found}

-- ---- a mounting gives no room the name

added_or_was : (rooms : List Room) (new room : Room) (n : ℕ) → slice_get (rooms ++ new ∷ []) n ≡ Some room → (slice_get rooms n ≡ Some room) ⊎ (room ≡ new)
added_or_was [] new room zero e = inr (cc)
added_or_was [] new room (suc n) e = absurd (cc)
added_or_was (r ∷ rooms) new room zero e = inl e
added_or_was (r ∷ rooms) new room (suc n) e = added_or_was rooms new room n e

some_room : (a b : Room) (o : Option Room) → o ≡ Some a → o ≡ Some b → a ≡ b
some_room a b o p q = cc

module _ (name : Name) (logical : IsLogicalName name) where
  other_name : marks_name ≡ name → ⊥
  other_name same = (subst IsLogicalName (sym same) logical).no_dot refl

  roomed_free : (t after : Tree) (told : StoreTold) → Tells marks_step t told after → IsFree t name → IsFree after name
  roomed_free t after told tells free n room there named = elim (make_room_told marks_name (marks_folder ∷ []) [] t told after tells).either as (λ _. ⊥) [
    | inr same ↦ free n room (subst (λ (x : Tree). slice_get x.rooms n ≡ Some room) same there) named
    | inl c ↦ elim (added_or_was t.rooms c.new room n (sym (ap (λ (x : Tree). slice_get x.rooms n) c.gives) ∙ there)) as (λ _. ⊥) [
      | inl was ↦ free n room was named
      | inr is ↦ other_name (sym c.named ∙ ap (λ (r : Room). r.name) (sym is) ∙ named)
    ]
  ]

  marked_free : (k mount : ℕ) (t after : Tree) (told : StoreTold) → Tells (mark_step k mount) t told after → IsFree t name → IsFree after name
  marked_free k mount t after told tells free n room there named = elim (create_told k (mark_path mount) t told after tells).either as (λ _. ⊥) [
    | inr same ↦ free n room (subst (λ (x : Tree). slice_get x.rooms n ≡ Some room) same there) named
    | inl c ↦ elim (cases_eq n k) as (λ _. ⊥) [
      | inl same ↦
          let here : slice_get after.rooms k ≡ Some c.new = ap (λ (x : Tree). slice_get x.rooms k) c.gives ∙ changed_room t k c.room c.new c.has_room in
          let one : room ≡ c.new = some_room room c.new (slice_get after.rooms k) (subst (λ j. slice_get after.rooms j ≡ Some room) same there) here in
          free k c.room c.has_room (sym c.others.name ∙ ap (λ (r : Room). r.name) (sym one) ∙ named)
      | inr other ↦ free n room (sym (ap (λ (x : Tree). slice_get x.rooms n) c.gives ∙ other_room t k n c.new other) ∙ there) named
    ]
  ]

  pub free_still : (times : Option (List ℕ)) (source : Stored) (start : State) → IsMounted 0 times source start → (tree now : Tree) → source.tree ≡ Some tree → start.store.tree ≡ Some now → IsFree tree name → IsFree now name
  free_still times source start mounted tree now told now_is free =
      let d = mounted.draws in
      let a = acts_told marks_step source d.roomed tree d.tells.told told d.tells.made in
      let b = acts_told (list_step start.marks) d.roomed d.listed a.0 (Ok (Names d.names)) a.1 d.lists in
      let put = acts_told (mark_step start.marks start.mount) d.listed start.store b.0 (Ok Made) b.1 d.marked in
      let last : now ≡ put.0 = one_tree now put.0 start.store.tree now_is put.1 in
      let listed : b.0 ≡ a.0 = look_told (list_step start.marks) a.0 (Ok (Names d.names)) b.0 tt b.2 in
      let roomed : IsFree a.0 name = roomed_free tree a.0 d.tells.told a.2 free in
      subst (λ t. IsFree t name) (sym last) (marked_free start.marks start.mount b.0 put.0 (Ok Made) put.2 (subst (λ t. IsFree t name) (sym listed) roomed))

-- ---- over a mount

module _ (laws : DrainLaws) (name : Name) (logical : IsLogicalName name) (times : Option (List ℕ)) (source target : Stored) (start : State) (mounted : IsMounted 0 times source start)
    (none : LacksContainer name source) (none_there : LacksContainer name target) (happened : List Happening) (left : DrainsOn) (end : State) (target_end : Stored) (driven : IsDriven name start target happened left end target_end) where
  abbrev begun : Moment
  begun = mounted_there none.sound start

  begun_sound : IsSoundAt begun
  begun_sound = mounted_sound 0 times source start none.tree mounted none.told none.sound

  holds : HoldsTarget begun 0 name target
  holds =
      let t = laws.fresh begun 0 name none_there.tree logical none_there.sound none_there.free in
      record { tree = none_there.tree; told = none_there.told; target = t; lost = λ left_of loses. laws.loss begun 0 name none_there.tree left_of t loses }

  made : AreMade begun target happened
  made = driven.made none.sound.issued

  no_room : OneRoom name 0 start
  no_room caller room after step =
      let is : IsRoomOf begun_sound.shape.tree name room = name_found start caller name room after begun_sound.shape.tree (answers_as start caller (unbroken (Find name)) (Find name) (RoomReply room) (RoomReply room) after refl refl refl step) begun_sound.shape.told in
      absurd (free_still name logical times source start mounted none.tree begun_sound.shape.tree none.told begun_sound.shape.told none.free room is.room is.has_room is.named)

  finds : FindsRoom 0 0 happened
  finds = finds_first name 0 begun target (drain_program name) left happened no_room driven.own made driven.drives (drain_finds_first name)

  pub drain_of_none : IsDrainOfNone name begun target happened left target_end
  drain_of_none = record {
    reason = laws.reasons 0 name begun target happened left begun_sound holds made finds driven.drives;
    opens = subst (HasOpenhosts name) driven.ends_target (laws.opens 0 name begun target happened left begun_sound holds made finds driven.drives
        (λ tree n room told at. absurd (none_there.free n room (subst (λ (t : Tree). slice_get t.rooms n ≡ Some room) (one_tree tree none_there.tree target.tree told none_there.told) at.there) at.named)));
  }
