-- A mounting over a target leaves one.
use Rattle.std.proofs.Common.{◌≡◌, ℕ, List, [], ◌∷◌, length, Option, Some, refl, ap, sym, ◌∙◌, inl, inr, subst, arith}
use Rattle.std.specs.Prelude.{Ok, slice_get}
use Rattle.std.proofs.lemmas.Bool.{cases_eq}
use Rattle.store_api.specs.declared.step.Answer.TheVariants.{Made, Names, Number, Old}
use Rattle.store_api.specs.declared.tree.Room.{Room}
use Rattle.store_api.specs.declared.tree.Tree.{Tree}
use Rattle.store_api.specs.Acts.{Stored}
use Rattle.store_laws.specs.Tells.{Tells}
use Rattle.store_laws.proofs.Facts.{acts_told, added_room, look_told, make_room_told}
use Rattle.mount_model.specs.Making.{Told}
use Rattle.mount_model.specs.Mounting.{IsMounted, list_step, mark_step, marks_step, room_told}
use Rattle.mount_model.specs.Paths.{Name}
use Rattle.store_api.specs.Names.{marks_folder}
use Rattle.store_api.specs.Names.{marks_name}
use Rattle.mount_model.specs.State.{State}
use Rattle.mount_sound.proofs.Facts.{one_tree}
use Rattle.reader_laws.specs.Moments.{IsSoundAt, Moment}
use Rattle.drain_sound.specs.Fronts.{IsTarget}
use Rattle.drain_sound.specs.Steps.{IsNamedRoom}
use Rattle.drain_sound.specs.Steps as step
use Rattle.drain_sound.proofs.DrainLemmas.{told_leaves}
use Rattle.drain_sound.proofs.StepLemmas.{step_target}

-- the room of marks, as it was told
record HasMarks (tree : Tree) (n : ℕ) : Type 0 where
  room : Room
  is : IsNamedRoom tree n marks_name room

some_is : (a b : ℕ) → Some a ≡ Some b → a ≡ b
some_is a b e = cc

marks_room : (tree after : Tree) (told : Told) (n : ℕ) → Tells marks_step tree told after → room_told told ≡ Some n → HasMarks after n
marks_room tree after (Ok (Number k)) n t e = elim (cases_eq k (length tree.rooms)) as (λ _. HasMarks after n) [
  | inl last ↦
      let made = (make_room_told marks_name (marks_folder ∷ []) [] tree (Ok (Number k)) after t).done (ap (λ x. Ok (Number x)) last) in
      let here : slice_get after.rooms (length tree.rooms) ≡ Some made.new = ap (λ (x : Tree). slice_get x.rooms (length tree.rooms)) made.gives ∙ added_room tree made.new in
      subst (HasMarks after) (sym last ∙ some_is k n e) (record { room = made.new; is = record { there = here; named = made.named } })
  | inr other ↦ absurd ((make_room_told marks_name (marks_folder ∷ []) [] tree (Ok (Number k)) after t).stays (Number k) refl (λ same. other (cc))).1
]
marks_room tree after (Ok (Old k)) n t e =
    let old = (make_room_told marks_name (marks_folder ∷ []) [] tree (Ok (Old k)) after t).stays (Old k) refl (λ same. cc) in
    subst (HasMarks after) (some_is k n e) (record { room = old.1.room; is = record { there = ap (λ (x : Tree). slice_get x.rooms k) old.0 ∙ old.1.has_room; named = old.1.named } })
marks_room tree after told n t e = absurd (cc)

pub mounting_target : (source : Moment) (number : ℕ) (name : Name) (tree after : Tree) (serial : ℕ) (times : Option (List ℕ)) (opened : Stored) (start : State) → IsSoundAt source → IsTarget source number name tree → IsMounted serial times opened start → opened.tree ≡ Some tree → start.store.tree ≡ Some after → IsTarget source number name after
mounting_target source number name tree after serial times opened start s t m told now =
    let d = m.draws in
    let a = acts_told marks_step opened d.roomed tree d.tells.told told d.tells.made in
    let marked = marks_room tree a.0 d.tells.told start.marks a.2 d.tells.tells in
    let made : IsTarget source number name a.0 = step_target source number name tree a.0 marks_step s t step.marks (told_leaves marks_step tree a.0 d.tells.told a.2) in
    let b = acts_told (list_step start.marks) d.roomed d.listed a.0 (Ok (Names d.names)) a.1 d.lists in
    let same : b.0 ≡ a.0 = look_told (list_step start.marks) a.0 (Ok (Names d.names)) b.0 tt b.2 in
    let c = acts_told (mark_step start.marks start.mount) d.listed start.store b.0 (Ok Made) b.1 d.marked in
    let is : IsNamedRoom b.0 start.marks marks_name marked.room = subst (λ x. IsNamedRoom x start.marks marks_name marked.room) (sym same) marked.is in
    let drawn : IsTarget source number name c.0 =
    step_target source number name b.0 c.0 (mark_step start.marks start.mount) s (subst (IsTarget source number name) (sym same) made) (step.mark start.marks start.mount marked.room is (omega (arith, d.next.next)) d.next.fits) (told_leaves (mark_step start.marks start.mount) b.0 c.0 (Ok Made) c.2) in
    subst (IsTarget source number name) (one_tree c.0 after start.store.tree c.1 now) drawn
