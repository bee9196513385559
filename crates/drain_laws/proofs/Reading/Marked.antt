-- A target with a mark more, over which a mount may be thought.
use Rattle.std.proofs.Common.{◌≡◌, ℕ, ◌-◌, ◌^◌, true, false, List, [], ◌∷◌, Some, None, refl, ap, sym, ◌∙◌, inl, inr, subst, arith}
use Rattle.std.specs.Prelude.{length, slice_get}
use Rattle.store_api.specs.declared.step.Answer.{Answer}
use Rattle.store_api.specs.declared.step.Answer.TheVariants.{NoFolder, NoRoom, Old}
use Rattle.store_api.specs.declared.tree.Room.{Room}
use Rattle.store_api.specs.declared.tree.Tree.{Tree}
use Rattle.store_api.specs.Effect.{effect, tree_after}
use Rattle.store_api.specs.Leaves.{whole}
use Rattle.store_api.specs.Room.{has_folder}
use Rattle.store_api.specs.Step.{Step, create, make_room}
use Rattle.store_laws.specs.Files.{file_at}
use Rattle.store_laws.specs.Says.{WhyNotCreated, WhyNoRoomMade}
use Rattle.store_laws.proofs.Facts.{changed_room, create_cases, make_room_cases, other_room}
use Rattle.mount_model.specs.Paths.{Name, mark_path}
use Rattle.store_api.specs.Names.{marks_folder}
use Rattle.store_api.specs.Names.{marks_name}
use Rattle.mount_sound.specs.Marks.{IsMarksRoom}
use Rattle.reader_laws.specs.Moments.{IsSoundAt, Moment}
use Rattle.drain_copy.specs.Telling.{roomed}
use Rattle.drain_sound.specs.Fronts.{IsTarget}
use Rattle.drain_sound.specs.Steps.{IsNamedRoom}
use Rattle.drain_sound.specs.Steps as step
use Rattle.drain_sound.proofs.Facts.{no_marks, step_target}
use Rattle.drain_laws.proofs.Reading.Beside.{IsMarked}
use Rattle.drain_laws.proofs.Copying.Mild.{some_room}
use Rattle.drain_laws.proofs.Copying.Roomed.{Roomed, came, stood, room_told}

-- the target with one mark more, whose containers are as they were
pub record MarkedTarget (source : Moment) (number : ℕ) (name : Name) (t : Tree) : Type 0 where
  pub tree : Tree
  pub target : IsTarget source number name tree
  pub marks : ℕ
  pub room : Room
  pub marked : IsMarked tree marks room
  pub same : (n : ℕ) (its : Room) → IsNamedRoom t n name its → slice_get tree.rooms n ≡ Some its
  pub apart : (n : ℕ) (its : Room) → IsNamedRoom t n name its → n ≡ marks → ⊥

module _ (source : Moment) (s : IsSoundAt source) (number : ℕ) (name : Name) (t : Tree) (target : IsTarget source number name t) where
  marks_step : Step
  marks_step = make_room marks_name (marks_folder ∷ []) []

  number_told : (tree : Tree) (answer : Answer) → WhyNoRoomMade tree marks_name answer → (n : ℕ) × (roomed answer ≡ Some n)
  number_told tree (Old n) why = (n, refl)
  number_told tree answer why = absurd why

  -- the room of marks
  pub first : (n : ℕ) × (roomed (effect t (make_room marks_name (marks_folder ∷ []) [])).answer ≡ Some n)
  first = elim (make_room_cases t marks_name (marks_folder ∷ []) []) as (λ _. (n : ℕ) × (roomed (effect t (make_room marks_name (marks_folder ∷ []) [])).answer ≡ Some n)) [
    | inl (made, c) ↦ (length t.rooms, ap roomed made)
    | inr stays ↦ number_told t (effect t (make_room marks_name (marks_folder ∷ []) [])).answer stays.why
  ]

  abbrev roomed_tree : Tree
  roomed_tree = tree_after t (make_room marks_name (marks_folder ∷ []) [])

  with_marks : Roomed t roomed_tree marks_name (marks_folder ∷ []) [] first.0
  with_marks = room_told t roomed_tree marks_name (marks_folder ∷ []) [] (effect t (make_room marks_name (marks_folder ∷ []) [])).answer first.0 refl first.1

  its_marks : Roomed t roomed_tree marks_name (marks_folder ∷ []) [] first.0 → (room : Room) × IsNamedRoom roomed_tree first.0 marks_name room
  its_marks (came new at free bare on back) = (new, at)
  its_marks (stood room at same) = (room, subst (λ x. IsNamedRoom x first.0 marks_name room) (sym same) at)

  container_kept : Roomed t roomed_tree marks_name (marks_folder ∷ []) [] first.0 → (n : ℕ) (its : Room) → slice_get t.rooms n ≡ Some its → slice_get roomed_tree.rooms n ≡ Some its
  container_kept (came new at free bare on back) n its there = on n its there
  container_kept (stood room at same) n its there = ap (λ (x : Tree). slice_get x.rooms n) same ∙ there

  roomed_target : IsTarget source number name roomed_tree
  roomed_target = step_target source number name t roomed_tree (make_room marks_name (marks_folder ∷ []) []) s target step.marks (whole refl)

  mark_step : ℕ → Step
  mark_step n = create n (mark_path (2 ^ 32 - 1)).folder (mark_path (2 ^ 32 - 1)).file

  module _ (room : Room) (at : IsNamedRoom roomed_tree first.0 marks_name room) where
    abbrev marked_tree : Tree
    marked_tree = tree_after roomed_tree (create first.0 (mark_path (2 ^ 32 - 1)).folder (mark_path (2 ^ 32 - 1)).file)

    marked_target : IsTarget source number name marked_tree
    marked_target = step_target source number name roomed_tree marked_tree (create first.0 (mark_path (2 ^ 32 - 1)).folder (mark_path (2 ^ 32 - 1)).file) s roomed_target (step.mark first.0 (2 ^ 32 - 1) room at (omega arith) (omega arith)) (whole refl)

    is_marks : (tree : Tree) (r : Room) → IsTarget source number name tree → IsNamedRoom tree first.0 marks_name r → IsMarksRoom r
    is_marks tree r x named = elim (x.sound.shaped.rooms first.0 r named.there) as (λ _. IsMarksRoom r) [
      | inl m ↦ m
      | inr c ↦ absurd (no_marks r.name r c.named refl named.named)
    ]

    empty_mark : (bytes : List ℕ) → file_at room (mark_path (2 ^ 32 - 1)) ≡ Some bytes → bytes ≡ []
    empty_mark bytes e = ((is_marks roomed_tree room roomed_target at).files (mark_path (2 ^ 32 - 1)) bytes e).4

    apart : (n : ℕ) (its : Room) → IsNamedRoom t n name its → n ≡ first.0 → ⊥
    apart n its named same =
        let one : its ≡ room = some_room its room (slice_get roomed_tree.rooms first.0) (subst (λ k. slice_get roomed_tree.rooms k ≡ Some its) same (container_kept with_marks n its named.there)) at.there in
        no_marks name its target.logical named.named (ap (λ (r : Room). r.name) one ∙ at.named)

    stays_why : (answer : Answer) → WhyNotCreated roomed_tree first.0 (mark_path (2 ^ 32 - 1)) answer → file_at room (mark_path (2 ^ 32 - 1)) ≡ Some []
    stays_why NoRoom lacks = let clash : None ≡ Some room = sym lacks ∙ at.there in absurd (cc)
    stays_why NoFolder lacks =
        let same : lacks.room ≡ room = some_room lacks.room room (slice_get roomed_tree.rooms first.0) lacks.has_room at.there in
        let has = (is_marks roomed_tree room roomed_target at).has_marks in
        let none = subst (λ r. has_folder r marks_folder ≡ false) same lacks.none in
        let clash : true ≡ false = sym has ∙ none in
        absurd (cc)
    stays_why (Old k) (zero_is, held) =
        let same : held.room ≡ room = some_room held.room room (slice_get roomed_tree.rooms first.0) held.has_room at.there in
        let there : file_at room (mark_path (2 ^ 32 - 1)) ≡ Some held.bytes = subst (λ r. file_at r (mark_path (2 ^ 32 - 1)) ≡ Some held.bytes) same held.there in
        there ∙ ap (λ b. Some b) (empty_mark held.bytes there)
    stays_why answer why = absurd why

    pub marked_so : MarkedTarget source number name t
    marked_so = elim (create_cases roomed_tree first.0 (mark_path (2 ^ 32 - 1))) as (λ _. MarkedTarget source number name t) [
      | inl (made, c) ↦
          let is : c.room ≡ room = some_room c.room room (slice_get roomed_tree.rooms first.0) c.has_room at.there in
          let here : slice_get marked_tree.rooms first.0 ≡ Some c.new = ap (λ (x : Tree). slice_get x.rooms first.0) c.gives ∙ changed_room roomed_tree first.0 c.room c.new c.has_room in
          let named : IsNamedRoom marked_tree first.0 marks_name c.new = record { there = here; named = c.others.name ∙ ap (λ (r : Room). r.name) is ∙ at.named } in
          record {
            tree = marked_tree;
            target = marked_target;
            marks = first.0;
            room = c.new;
            marked = (here, is_marks marked_tree c.new marked_target named, c.now);
            same = λ n its its_named. ap (λ (x : Tree). slice_get x.rooms n) c.gives ∙ other_room roomed_tree first.0 n c.new (apart n its its_named) ∙ container_kept with_marks n its its_named.there;
            apart = apart;
          }
      | inr stays ↦
          let here : slice_get marked_tree.rooms first.0 ≡ Some room = ap (λ (x : Tree). slice_get x.rooms first.0) stays.same ∙ at.there in
          record {
            tree = marked_tree;
            target = marked_target;
            marks = first.0;
            room = room;
            marked = (here, is_marks roomed_tree room roomed_target at, stays_why (effect roomed_tree (create first.0 (mark_path (2 ^ 32 - 1)).folder (mark_path (2 ^ 32 - 1)).file)).answer stays.why);
            same = λ n its its_named. ap (λ (x : Tree). slice_get x.rooms n) stays.same ∙ container_kept with_marks n its its_named.there;
            apart = apart;
          }
    ]

  pub with_mark : MarkedTarget source number name t
  with_mark = let m = its_marks with_marks in marked_so m.0 m.1
