-- What the line of a rename shows of its container.
use Rattle.std.proofs.Common.{◌≡◌, ℕ, List, Option, Some, Ok, Err, refl, sym, ap, ◌∙◌, inl, inr, subst, arith}
use Rattle.std.specs.Prelude.{slice_get}
use Rattle.std.proofs.lemmas.Bool.{cases_eq}
use Rattle.store_api.specs.declared.step.Answer.TheVariants.{Made, NoFolder, NoRoom, TargetThere}
use Rattle.store_api.specs.declared.store.Trouble.TheVariants.{Fault, NoMemory}
use Rattle.store_api.specs.declared.tree.Room.{Room as RoomThere}
use Rattle.store_api.specs.declared.tree.Tree.{Tree}
use Rattle.store_laws.specs.Changes.{RoomRenamed}
use Rattle.store_laws.specs.Differ.{RoomsDiffer}
use Rattle.store_laws.specs.There.{IsFree, IsRoomOf}
use Rattle.store_laws.proofs.Facts.{acts_told, file_at_same, rename_room_told, slice_get-slice_set, slice_get_other-slice_set}
use Rattle.mount_model.specs.declared.call.Call.TheVariants.{Move}
use Rattle.mount_model.specs.declared.reply.Reply.{Reply}
use Rattle.mount_model.specs.declared.reply.Reply.TheVariants.{Done}
use Rattle.mount_model.specs.declared.row.Holder.{Holder}
use Rattle.mount_model.specs.History.{Event}
use Rattle.mount_model.specs.Holding.{rename_outcome, rename_step}
use Rattle.mount_model.specs.Making.{Told}
use Rattle.mount_model.specs.Paths.{Name}
use Rattle.mount_model.specs.State.{State, Table}
use Rattle.mount_model.specs.Step.{Answers}
use Rattle.mount_model.specs.Table.{holder_of}
use Rattle.mount_model.proofs.Facts.{is_holding, match_cases}
use Rattle.mount_sound.specs.Owed.{IsLawful}
use Rattle.mount_model.specs.Running.{Runs, unbroken}
use Rattle.trunc_rename.specs.Holding.{lets_go}
use Rattle.trunc_rename.specs.Renaming.{moved, moves, rename_program}
use Rattle.reader_laws.specs.Moments.{IsSoundAt, Moment, file_in_room, file_told, moment_after, next_moment}
use Rattle.reader_laws.proofs.Facts.{answered}
use Rattle.headline_laws.specs.Changing.{IsRenamed, RenamesFile}
use Rattle.headline_laws.proofs.Plays.Holds.Held.{HoldsOnly, alone, answered_so, change_of, changed, has_called, has_held, its_step, let_go_so, one_tree}

-- ---- what a rename did

told_made : (table : Table) (told : Told) → Done ≡ (rename_outcome table told).reply → told ≡ Ok Made
told_made table (Ok Made) e = refl
told_made table (Ok TargetThere) e = absurd (cc)
told_made table (Ok NoRoom) e = absurd (cc)
told_made table (Ok NoFolder) e = absurd (cc)
told_made table (Ok other) e = absurd (cc)
told_made table (Err Fault) e = absurd (cc)
told_made table (Err NoMemory) e = absurd (cc)

-- The caller's hold is of this room, which was renamed.
record IsMoved (n holder : ℕ) (to : Name) (m : Moment) (sound : IsSoundAt m) (after : State) : Type 0 where
  pub h : Holder
  pub held : holder_of n holder m.state.table.holders ≡ Some h
  pub tree : Tree
  pub told : after.store.tree ≡ Some tree
  pub made : RoomRenamed sound.shape.tree h.room to tree

is_moved : (n holder : ℕ) (to : Name) (m : Moment) (sound : IsSoundAt m) (after : State) → Answers m.state n (Move holder to) Done after → IsMoved n holder to m sound after
is_moved n holder to m sound after a = elim (match_cases (holder_of n holder m.state.table.holders) _ _ a) as (λ _. IsMoved n holder to m sound after) [
  | inl (none, refused) ↦ absurd (let e = refused.0 in cc)
  | inr (h, held, does) ↦
      let is : does.makes.told ≡ Ok Made = told_made m.state.table does.makes.told does.makes.answered in
      let a = acts_told (rename_step h to) m.state.store after.store sound.shape.tree does.makes.told sound.shape.told does.makes.made in
      record { h = h; held = held; tree = a.0; told = a.1; made = (rename_room_told h.room to sound.shape.tree does.makes.told a.0 a.2).done is }
]

-- it is the room that is held by this number
moved_room : (n holder room : ℕ) (to : Name) (m : Moment) (sound : IsSoundAt m) (after : State) → HoldsOnly n holder room m.state → (i : IsMoved n holder to m sound after) → RoomRenamed sound.shape.tree room to i.tree
moved_room n holder room to m sound after only i = subst (λ r. RoomRenamed sound.shape.tree r to i.tree) (only i.h (is_holding n holder m.state.table.holders i.h i.held)) i.made

one_room : (a b : RoomThere) (o : Option RoomThere) → o ≡ Some a → o ≡ Some b → a ≡ b
one_room a b o p q = cc

module _ (tree : Tree) (number : ℕ) (to : Name) (after : Tree) (made : RoomRenamed tree number to after) where
  room_now : slice_get after.rooms number ≡ Some made.new
  room_now = ap (λ (t : Tree). slice_get t.rooms number) made.gives ∙ slice_get-slice_set tree.rooms number made.room made.new made.has_room

  others_now : (k : ℕ) → (k ≡ number → ⊥) → slice_get after.rooms k ≡ slice_get tree.rooms k
  others_now k other = ap (λ (t : Tree). slice_get t.rooms k) made.gives ∙ slice_get_other-slice_set tree.rooms number k made.new other

  -- it has the name, and is the first that has
  has_name : IsRoomOf after to number
  has_name = record {
    room = made.new;
    has_room = room_now;
    named = made.named;
    first = λ k other less at is. made.free k other (sym (others_now k (λ same. absurd (omega (arith, less, same)))) ∙ at) is;
  }

  -- no other has the name that it had
  lost_name : (name : Name) → RoomsDiffer tree → IsRoomOf tree name number → IsFree after name
  lost_name name differ was k other at is = elim (cases_eq k number) as (λ _. ⊥) [
    | inl same ↦
        let new : other ≡ made.new = one_room other made.new (slice_get after.rooms number) (ap (λ x. slice_get after.rooms x) (sym same) ∙ at) room_now in
        let old : was.room ≡ made.room = one_room was.room made.room (slice_get tree.rooms number) was.has_room made.has_room in
        made.free number was.room was.has_room (was.named ∙ sym is ∙ ap (λ (r : RoomThere). r.name) new ∙ made.named)
    | inr apart ↦ apart (differ k number other was.room (sym (others_now k apart) ∙ at) was.has_room (is ∙ sym was.named))
  ]

-- the renaming, from one moment to the other
is_renamed : (before after : Moment) (room : ℕ) (name to : Name) (sound : IsSoundAt before) (tree : Tree) → after.state.store.tree ≡ Some tree → RoomRenamed sound.shape.tree room to tree → IsRenamed before after room name to
is_renamed before after room name to sound tree told made =
    let was : Tree = sound.shape.tree in
    let is : (x : Tree) → before.state.store.tree ≡ Some x → was ≡ x = λ x has. one_tree was x before.state.store.tree sound.shape.told has in
    let then_is : (x : Tree) → after.state.store.tree ≡ Some x → tree ≡ x = λ x has. one_tree tree x after.state.store.tree told has in
    record {
      free = λ x has. subst (λ t. IsFree t to) (is x has) made.free;
      named = λ x has. subst (λ t. IsRoomOf t to room) (then_is x has) (has_name was room to tree made);
      same = λ path.
          ap (λ o. file_told o room path) told ∙ ap (λ o. file_in_room o path) (room_now was room to tree made) ∙ file_at_same made.room made.new path made.same_files
          ∙ sym (ap (λ o. file_told o room path) sound.shape.told ∙ ap (λ o. file_in_room o path) made.has_room);
      gone = λ had x has. subst (λ t. IsFree t name) (then_is x has) (lost_name was room to tree made name sound.shape.shaped.rooms_differ (had was sound.shape.told));
    }

-- ---- the calls of a rename

moved_by : (reply : Reply) (out : Unit {0}) → moved reply ≡ Ok out → reply ≡ Done
moved_by Done out e = refl
moved_by reply out e = absurd (cc)

-- ---- the rename

pub renamed : (n : ℕ) (m : Moment) (name to : Name) (out : Unit {0}) (events : List Event) → IsLawful m.state events → IsSoundAt m → Runs n (rename_program name to) events (Ok out) → RenamesFile m n (alone events) name to
renamed n m name to out events lawful sound runs =
    let h = has_held n m name (λ room. moves to) events out lawful sound runs in
    let k = has_called n h.holder h.room h.now (Move h.holder to) (λ reply. lets_go h.holder (moved reply)) h.rest (Ok out) h.lawful h.sound h.only h.runs in
    let told : k.event.reply ≡ Done = moved_by k.event.reply out (let_go_so n h.holder (moved k.event.reply) k.later out k.runs) in
    let there : Moment = moment_after h.now k.before in
    let a = answered there.state n (Move h.holder to) (unbroken (Move h.holder to)) Done k.event.after refl (its_step n (Move h.holder to) Done there.state k.event k.own k.asked told k.lawful.1) in
    let i = is_moved n h.holder to there k.sound k.event.after a in
    let its : i.h.room ≡ h.room = k.only i.h (is_holding n h.holder there.state.table.holders i.h i.held) in
    let made : RoomRenamed k.sound.shape.tree h.room to i.tree = moved_room n h.holder h.room to there k.sound k.event.after k.only i in
    record {
      change = change_of n m name (λ room. moves to) events (Ok out) h k.before k.event k.later;
      made = changed n m name (λ room. moves to) events (Ok out) (λ holder. Move holder to) Done h k.before k.event k.later k.split (answered_so n (Move h.holder to) Done k.event k.own k.asked told) (i.h, i.held, its);
      renamed = subst (λ (x : Moment). IsRenamed x (next_moment x k.event) h.room name to) (sym (h.is_now k.before)) (is_renamed there (next_moment there k.event) h.room name to k.sound i.tree i.told made);
    }
