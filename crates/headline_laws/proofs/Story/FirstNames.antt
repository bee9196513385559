-- The names at first: those of the tree before, and that of the marks of mounts, for which a mounting makes a room where there is none.
use Rattle.std.proofs.Common.{◌≡◌, inl, inr, ℕ, List, [], ◌∷◌, ◌++◌, length, Option, Some, Ok, Err, refl, ap, ◌∙◌}
use Rattle.std.proofs.lemmas.Bool.{cases_eq}
use Rattle.store_api.specs.Acts.{Acts, Stored}
use Rattle.store_api.specs.Names.{marks_folder, marks_name}
use Rattle.store_api.specs.Step.{Step}
use Rattle.store_api.specs.declared.step.Answer.{Answer}
use Rattle.store_api.specs.declared.step.Answer.TheVariants.{Made, Names, Number, Old}
use Rattle.store_api.specs.declared.tree.Tree.{Tree}
use Rattle.store_laws.specs.Changes.{RoomMade}
use Rattle.store_laws.specs.Outcomes.{MadeOrNot}
use Rattle.store_laws.specs.Says.{WhyNoRoomMade}
use Rattle.store_laws.specs.Tells.{Tells}
use Rattle.store_laws.specs.There.{IsRoomOf}
use Rattle.store_laws.proofs.Facts.{acts_told, make_room_told}
use Rattle.mount_model.specs.Making.{Told}
use Rattle.mount_model.specs.Mounting.{IsMounted, list_step, mark_step, marks_step, room_told}
use Rattle.mount_model.specs.Paths.{Name}
use Rattle.mount_model.specs.State.{State}
use Rattle.reader_laws.proofs.Gathered.Facts.{is_among}
use Rattle.headline.specs.Run.{Run}
use Rattle.headline.specs.Names.{AreFirstNames, fresh, marked, names_in}
use Rattle.headline_laws.proofs.Makers.NewNames.{NamesNone, free_names, names_kept, names_more, names_now, names_of}
use Rattle.headline_laws.proofs.Story.Listing.{room_of_name}

-- through an act that names no room
act_keeps : (step : Step) (old new : Stored) (tree : Tree) (told : Told) → NamesNone step → Acts step old new told → old.tree ≡ Some tree → (after : Tree) × (new.tree ≡ Some after) × (names_in after ≡ names_in tree)
act_keeps step old new tree told none acts is =
    let t = acts_told step old new tree told is acts in
    (t.0, t.1, names_kept step tree told t.0 none t.2)

module _ (run : Run) (names : List Name) where
  marks_there : (k : ℕ) → IsRoomOf run.before marks_name k → names ≡ names_in run.before → AreFirstNames run names
  marks_there k r is = marked (is_among (names_in run.before) marks_name (room_of_name run.before.rooms marks_name k r.room r.has_room r.named)) is

  marks_new : (after : Tree) → RoomMade run.before marks_name (marks_folder ∷ []) [] after → names ≡ names_in after → AreFirstNames run names
  marks_new after m is = fresh (free_names run.before marks_name m.free) (is ∙ ap names_in m.gives ∙ names_more run.before.rooms m.new ∙ ap (λ z. names_in run.before ++ z ∷ []) m.named)

  same_number : (a b : ℕ) → ◌≡◌ {A = Answer} (Number a) (Number b) → a ≡ b
  same_number a b is = cc

  one_tree : (x y : Tree) (o : Option Tree) → o ≡ Some x → o ≡ Some y → x ≡ y
  one_tree x y o p q = cc

  by_told : (told : Told) (room : ℕ) (old new : Stored) → Acts marks_step old new told → old.tree ≡ Some run.before → room_told told ≡ Some room → (after : Tree) → new.tree ≡ Some after → names ≡ names_in after → AreFirstNames run names
  by_told told room old new acts is tells after now names_are = by told refl tells
    where
      t : (x : Tree) × (new.tree ≡ Some x) × Tells marks_step run.before told x
      t = acts_told marks_step old new run.before told is acts

      m : MadeOrNot run.before (Number (length run.before.rooms)) (RoomMade run.before marks_name (marks_folder ∷ []) []) (WhyNoRoomMade run.before marks_name) told t.0
      m = make_room_told marks_name (marks_folder ∷ []) [] run.before told t.0 t.2

      names_is : names ≡ names_in t.0
      names_is = names_are ∙ ap names_in (one_tree after t.0 new.tree now t.1)

      by : (what : Told) → told ≡ what → room_told what ≡ Some room → AreFirstNames run names
      by (Ok (Number r)) e some = elim (cases_eq r (length run.before.rooms)) as (λ _. AreFirstNames run names) [
        | inl same ↦ marks_new t.0 (m.done (e ∙ ap (λ k. Ok (Number k)) same)) names_is
        | inr other ↦ absurd ((m.stays (Number r) e (λ clash. other (same_number r (length run.before.rooms) clash))).1)
      ]
      by (Ok (Old r)) e some = (let s = m.stays (Old r) e (λ clash. let c : ◌≡◌ {A = Answer} (Old r) (Number (length run.before.rooms)) = clash in cc) in marks_there r s.1 (names_is ∙ ap names_in s.0))
      by (Ok answer) e some = absurd (cc)
      by (Err why) e some = absurd (cc)

-- the law of this file
pub first_names : (run : Run) (times : Option (List ℕ)) (opened : Stored) (start : State) → IsMounted 0 times opened start → opened.tree ≡ Some run.before → AreFirstNames run (names_now start)
first_names run times opened start mounted is =
    let d = mounted.draws in
    let a = acts_told marks_step opened d.roomed run.before d.tells.told is d.tells.made in
    let b = act_keeps (list_step start.marks) d.roomed d.listed a.0 (Ok (Names d.names)) tt d.lists a.1 in
    let c = act_keeps (mark_step start.marks start.mount) d.listed start.store b.0 (Ok Made) tt d.marked b.1 in
    by_told run (names_now start) d.tells.told start.marks opened d.roomed d.tells.made is d.tells.tells a.0 a.1 (ap names_of c.1 ∙ c.2 ∙ b.2)
