-- What an act tells of the step that it made, and what it leaves.
use Rattle.std.proofs.Common.{◌≡◌, ◌≤◌, ℕ, List, length, take, min, Option, Some, None, refl, ap, sym, ◌∙◌, ◌⊎◌, inl, inr, subst, arith}
use Rattle.std.specs.Prelude.{Result, Ok, Err}
use Rattle.std.proofs.lemmas.List.{take_min, take_all}
use Rattle.plfs_types.specs.declared.names.Path.{Path}
use Rattle.store_api.specs.declared.tree.Tree.{Tree}
use Rattle.store_api.specs.declared.step.Answer.{Answer}
use Rattle.store_api.specs.declared.step.Answer.TheVariants.{Made, Number}
use Rattle.store_api.specs.declared.store.Trouble.{Trouble}
use Rattle.store_api.specs.declared.store.Trouble.TheVariants.{Fault, NoMemory}
use Rattle.store_api.specs.Step.{Step, Name, make_room, rename_room, make_folder, remove_folder, create, remove, replace, write_at, cut, sync as sync_file}
use Rattle.store_api.specs.Effect.{Effect, effect, tree_after}
use Rattle.store_api.specs.Leaves.{MayLeave, not_made, whole, in_part, with_first}
use Rattle.store_api.specs.Acts.{Stored, Acts, Goes}
use Rattle.store_laws.specs.Tells.{Tells}
use Rattle.store_laws.specs.Changes.{Created, Wrote, WasCut, WasSynced, Removed, Replaced, FolderMade, FolderRemoved, RoomMade, RoomRenamed}
use Rattle.store_laws.specs.Says.{WhyNoRoomMade, WhyNotRenamed, WhyNoFolderMade, WhyNoFolderRemoved, WhyNotCreated, WhyNoFile, WhyNotWritten}
use Rattle.store_laws.specs.Outcomes.{ChangesOrStays, MadeOrNot, WroteInPart, WriteTold}
use Rattle.store_laws.proofs.Steps.Creating.{create_cases}
use Rattle.store_laws.proofs.Steps.Writing.{write_cases, cut_cases}
use Rattle.store_laws.proofs.Steps.Syncing.{sync_cases}
use Rattle.store_laws.proofs.Steps.Removing.{remove_cases}
use Rattle.store_laws.proofs.Steps.Moving.{replace_cases}
use Rattle.store_laws.proofs.Steps.Folders.{make_folder_cases}
use Rattle.store_laws.proofs.Steps.Emptied.{remove_folder_cases}
use Rattle.store_laws.proofs.Steps.NewRooms.{make_room_cases, rename_room_cases}

-- ---- from the acts of a store

goes_told : (moves : Tree → Tree → Type 0) (old new : Option Tree) (tree : Tree) → old ≡ Some tree → Goes moves old new → (after : Tree) × (new ≡ Some after) × moves tree after
goes_told moves None new tree e g = absurd (cc)
goes_told moves (Some t) new tree e g = let same : t ≡ tree = cc in (g.0, g.1, subst (λ x. moves x g.0) same g.2)

-- a store that tells its tree goes on to tell one, and the act tells what became of it
pub acts_told : (step : Step) (old new : Stored) (tree : Tree) (told : Result Answer Trouble) → old.tree ≡ Some tree → Acts step old new told → (after : Tree) × (new.tree ≡ Some after) × Tells step tree told after
acts_told step old new tree (Ok answer) e a = goes_told (λ before after. effect before step ≡ record { tree = after; answer = answer }) old.tree new.tree tree e a.tree
acts_told step old new tree (Err Fault) e a = goes_told (λ before after. MayLeave before step after) old.tree new.tree tree e a.tree
acts_told step old new tree (Err NoMemory) e a = (tree, ap (λ (s : Stored). s.tree) a ∙ e, refl)

-- ---- steps that are made whole or not

module _ (step : Step) (tree : Tree) (change : Answer) (changed : Tree → Type 0) (says : Answer → Type 0) (cases : ChangesOrStays tree change changed says (effect tree step)) where
  made_whole : (after : Tree) → after ≡ tree_after tree step → changed after ⊎ (after ≡ tree)
  made_whole after e = elim cases as (λ _. changed after ⊎ (after ≡ tree)) [
    | inl c ↦ inl (subst changed (sym e) c.1)
    | inr s ↦ inr (e ∙ s.same)
  ]

  of_answer : (answer : Answer) (after : Tree) → Tells step tree (Ok answer) after → MadeOrNot tree change changed says (Ok answer) after
  of_answer answer after t =
      let at : (effect tree step).tree ≡ after = ap (λ (x : Effect). x.tree) t in
      let is : (effect tree step).answer ≡ answer = ap (λ (x : Effect). x.answer) t in
      record {
        either = made_whole after (sym at);
        done = λ told. elim cases as (λ _. changed after) [
          | inl c ↦ subst changed at c.1
          | inr s ↦ let same : answer ≡ change = cc in absurd (s.unmade (is ∙ same))
        ];
        stays = λ other told unmade. elim cases as (λ _. (after ≡ tree) × says other) [
          | inl c ↦ let same : answer ≡ other = cc in absurd (unmade (sym same ∙ sym is ∙ c.0))
          | inr s ↦ let same : answer ≡ other = cc in (sym at ∙ s.same, subst says (is ∙ same) s.why)
        ];
      }

  of_trouble : (trouble : Trouble) (after : Tree) → changed after ⊎ (after ≡ tree) → MadeOrNot tree change changed says (Err trouble) after
  of_trouble trouble after e = record { either = e; done = λ told. absurd (cc); stays = λ other told unmade. absurd (cc) }

  left : ((k : ℕ) → with_first k step ≡ step) → (after : Tree) → MayLeave tree step after → changed after ⊎ (after ≡ tree)
  left all after (not_made e) = inr e
  left all after (whole e) = made_whole after e
  left all after (in_part k m e) = made_whole after (e ∙ ap (λ s. tree_after tree s) (all k))

  -- whatever is told, the step was made or the tree stayed
  pub step_told : ((k : ℕ) → with_first k step ≡ step) → (told : Result Answer Trouble) (after : Tree) → Tells step tree told after → MadeOrNot tree change changed says told after
  step_told all (Ok answer) after t = of_answer answer after t
  step_told all (Err Fault) after t = of_trouble Fault after (left all after t)
  step_told all (Err NoMemory) after t = of_trouble NoMemory after (inr t)

pub create_told : (n : ℕ) (path : Path) (tree : Tree) (told : Result Answer Trouble) (after : Tree) → Tells (create n path.folder path.file) tree told after → MadeOrNot tree Made (Created tree n path) (WhyNotCreated tree n path) told after
create_told n path tree told after t = step_told (create n path.folder path.file) tree Made (Created tree n path) (WhyNotCreated tree n path) (create_cases tree n path) (λ k. refl) told after t

pub remove_told : (n : ℕ) (path : Path) (tree : Tree) (told : Result Answer Trouble) (after : Tree) → Tells (remove n path.folder path.file) tree told after → MadeOrNot tree Made (Removed tree n path) (WhyNoFile tree n path) told after
remove_told n path tree told after t = step_told (remove n path.folder path.file) tree Made (Removed tree n path) (WhyNoFile tree n path) (remove_cases tree n path) (λ k. refl) told after t

pub replace_told : (n : ℕ) (path : Path) (to : Name) (tree : Tree) (told : Result Answer Trouble) (after : Tree) → Tells (replace n path.folder path.file to) tree told after → MadeOrNot tree Made (Replaced tree n path to) (WhyNoFile tree n path) told after
replace_told n path to tree told after t = step_told (replace n path.folder path.file to) tree Made (Replaced tree n path to) (WhyNoFile tree n path) (replace_cases tree n path to) (λ k. refl) told after t

pub cut_told : (n : ℕ) (path : Path) (len : ℕ) (tree : Tree) (told : Result Answer Trouble) (after : Tree) → Tells (cut n path.folder path.file len) tree told after → MadeOrNot tree Made (WasCut tree n path len) (WhyNotWritten tree n path len) told after
cut_told n path len tree told after t = step_told (cut n path.folder path.file len) tree Made (WasCut tree n path len) (WhyNotWritten tree n path len) (cut_cases tree n path len) (λ k. refl) told after t

pub make_folder_told : (n : ℕ) (folder : Name) (tree : Tree) (told : Result Answer Trouble) (after : Tree) → Tells (make_folder n folder) tree told after → MadeOrNot tree Made (FolderMade tree n folder) (WhyNoFolderMade tree n folder) told after
make_folder_told n folder tree told after t = step_told (make_folder n folder) tree Made (FolderMade tree n folder) (WhyNoFolderMade tree n folder) (make_folder_cases tree n folder) (λ k. refl) told after t

pub remove_folder_told : (n : ℕ) (folder : Name) (tree : Tree) (told : Result Answer Trouble) (after : Tree) → Tells (remove_folder n folder) tree told after → MadeOrNot tree Made (FolderRemoved tree n folder) (WhyNoFolderRemoved tree n folder) told after
remove_folder_told n folder tree told after t = step_told (remove_folder n folder) tree Made (FolderRemoved tree n folder) (WhyNoFolderRemoved tree n folder) (remove_folder_cases tree n folder) (λ k. refl) told after t

pub make_room_told : (name : Name) (folders files : List Name) (tree : Tree) (told : Result Answer Trouble) (after : Tree) → Tells (make_room name folders files) tree told after → MadeOrNot tree (Number (length tree.rooms)) (RoomMade tree name folders files) (WhyNoRoomMade tree name) told after
make_room_told name folders files tree told after t = step_told (make_room name folders files) tree (Number (length tree.rooms)) (RoomMade tree name folders files) (WhyNoRoomMade tree name) (make_room_cases tree name folders files) (λ k. refl) told after t

pub rename_room_told : (n : ℕ) (to : Name) (tree : Tree) (told : Result Answer Trouble) (after : Tree) → Tells (rename_room n to) tree told after → MadeOrNot tree Made (RoomRenamed tree n to) (WhyNotRenamed tree n to) told after
rename_room_told n to tree told after t = step_told (rename_room n to) tree Made (RoomRenamed tree n to) (WhyNotRenamed tree n to) (rename_room_cases tree n to) (λ k. refl) told after t

pub sync_told : (n : ℕ) (path : Path) (tree : Tree) (told : Result Answer Trouble) (after : Tree) → Tells (sync_file n path.folder path.file) tree told after → MadeOrNot tree Made (WasSynced tree n path) (WhyNoFile tree n path) told after
sync_told n path tree told after t = step_told (sync_file n path.folder path.file) tree Made (WasSynced tree n path) (WhyNoFile tree n path) (sync_cases tree n path) (λ k. refl) told after t

-- ---- a write

of_part : (n : ℕ) (path : Path) (at : ℕ) (bytes : List ℕ) (tree after : Tree) (k : ℕ) → k ≤ length bytes → after ≡ tree_after tree (write_at n path.folder path.file at (take k bytes)) → WroteInPart n path at bytes tree after
of_part n path at bytes tree after k within e = elim (write_cases tree n path at (take k bytes)) as (λ _. WroteInPart n path at bytes tree after) [
  | inl w ↦ inr (k, within, subst (λ x. Wrote tree n path at (take k bytes) x) (sym e) w.1)
  | inr s ↦ inl (e ∙ s.same)
]

left_of_write : (n : ℕ) (path : Path) (at : ℕ) (bytes : List ℕ) (tree after : Tree) → MayLeave tree (write_at n path.folder path.file at bytes) after → WroteInPart n path at bytes tree after
left_of_write n path at bytes tree after (not_made e) = inl e
left_of_write n path at bytes tree after (whole e) =
    of_part n path at bytes tree after (length bytes) (omega arith) (e ∙ ap (λ b. tree_after tree (write_at n path.folder path.file at b)) (sym (take_all (length bytes) bytes (omega arith))))
left_of_write n path at bytes tree after (in_part k m e) =
    of_part n path at bytes tree after (min k (length bytes)) (omega arith) (e ∙ ap (λ b. tree_after tree (write_at n path.folder path.file at b)) (sym (take_min k bytes)))

-- a write was made, or left its first bytes, or nothing
pub write_told : (n : ℕ) (path : Path) (at : ℕ) (bytes : List ℕ) (tree : Tree) (told : Result Answer Trouble) (after : Tree) → Tells (write_at n path.folder path.file at bytes) tree told after → WriteTold n path at bytes tree told after
write_told n path at bytes tree (Ok answer) after t = elim (write_cases tree n path at bytes) as (λ _. WriteTold n path at bytes tree (Ok answer) after) [
  | inl w ↦ inl (ap (λ a. Ok a) (sym (ap (λ (x : Effect). x.answer) t) ∙ w.0), subst (λ x. Wrote tree n path at bytes x) (ap (λ (x : Effect). x.tree) t) w.1)
  | inr s ↦ inr (λ m. let is : answer ≡ Made = cc in s.unmade (ap (λ (x : Effect). x.answer) t ∙ is), inl (sym (ap (λ (x : Effect). x.tree) t) ∙ s.same))
]
write_told n path at bytes tree (Err Fault) after t = inr (λ m. cc, left_of_write n path at bytes tree after t)
write_told n path at bytes tree (Err NoMemory) after t = inr (λ m. cc, inl t)

-- where it answered that it was not made, the answer says why
pub write_refused : (n : ℕ) (path : Path) (at : ℕ) (bytes : List ℕ) (tree : Tree) (answer : Answer) (after : Tree) → Tells (write_at n path.folder path.file at bytes) tree (Ok answer) after → (answer ≡ Made → ⊥) → (after ≡ tree) × WhyNotWritten tree n path at answer
write_refused n path at bytes tree answer after t unmade =
    (of_answer (write_at n path.folder path.file at bytes) tree Made (Wrote tree n path at bytes) (WhyNotWritten tree n path at) (write_cases tree n path at bytes) answer after t).stays answer refl unmade
