-- A step that removes no file and cuts none leaves each file no shorter.
use Rattle.std.proofs.Common.{◌≡◌, ◌≤◌, ℕ, List, [], length, take, slice_get, Some, None, refl, ap, sym, ◌∙◌, inl, inr, subst, arith}
use Rattle.std.specs.Prelude.{Result}
use Rattle.std.proofs.lemmas.Bool.{cases_eq}
use Rattle.plfs_types.specs.Bytes.{overwritten}
use Rattle.plfs_types.specs.declared.names.Path.{Path}
use Rattle.store_api.specs.declared.tree.Room.{Room}
use Rattle.store_api.specs.declared.tree.Tree.{Tree}
use Rattle.store_api.specs.declared.step.Answer.{Answer}
use Rattle.store_api.specs.declared.store.Trouble.{Trouble}
use Rattle.store_api.specs.Step.{Step, create, remove, replace, write_at, cut}
use Rattle.store_laws.specs.Files.{file_at, AreTwo}
use Rattle.store_laws.specs.Tells.{Tells}
use Rattle.store_laws.specs.Changes.{with_room, Wrote, Created}
use Rattle.store_laws.specs.Naming.{NamesFile, KeepsRooms, Lengthens, OnlyAdds}
use Rattle.store_laws.proofs.Names.Naming.{path_cases}
use Rattle.store_laws.proofs.Trees.Telling.{create_told, write_told}
use Rattle.store_laws.proofs.Steps.Overwriting.{length-overwritten}
use Rattle.store_laws.proofs.Trees.Keeping.{changed_room, other_room}
use Rattle.store_laws.proofs.Trees.Touching.{keeps_rooms}

pub lengthens_same : (tree after : Tree) → after ≡ tree → Lengthens tree after
lengthens_same tree after same n room path bytes e at = (room, bytes, ap (λ (t : Tree). slice_get t.rooms n) same ∙ e, at, omega arith)

pub lengthens_trans : (a b c : Tree) → Lengthens a b → Lengthens b c → Lengthens a c
lengthens_trans a b c f g n room path bytes e at =
    let x = f n room path bytes e at in
    let y = g n x.0 path x.1 x.2 x.3 in
    (y.0, y.1, y.2, y.3, omega (arith, x.4, y.4))

-- a step that names no file leaves each as it is
unnamed : (step : Step) (tree after : Tree) → KeepsRooms step tree after → ((n : ℕ) (path : Path) → NamesFile step n path → ⊥) → Lengthens tree after
unnamed step tree after keeps none n room path bytes e at =
    let kept = keeps n room e in
    (kept.0, bytes, kept.1, kept.2.files path (none n path) ∙ at, omega arith)

-- where one file of one room has changed
lengthens_by : (tree : Tree) (n : ℕ) (path : Path) (room new : Room) (now : List ℕ) (after : Tree) → slice_get tree.rooms n ≡ Some room → after ≡ with_room tree n new → file_at new path ≡ Some now → ((other : Path) → AreTwo other path → file_at new other ≡ file_at room other)
    → ((old : List ℕ) → file_at room path ≡ Some old → length old ≤ length now) → Lengthens tree after
lengthens_by tree n path room new now after there gives is others grows m r other bytes e at = elim (cases_eq m n) as (λ _. (x : Room) × (longer : List ℕ) × (slice_get after.rooms m ≡ Some x) × (file_at x other ≡ Some longer) × (length bytes ≤ length longer)) [
  | inl here ↦
      let both : Some room ≡ Some r = sym there ∙ ap (λ k. slice_get tree.rooms k) (sym here) ∙ e in
      let same : room ≡ r = cc in
      let was : file_at room other ≡ Some bytes = subst (λ x. file_at x other ≡ Some bytes) (sym same) at in
      let stands : slice_get after.rooms m ≡ Some new = ap (λ k. slice_get after.rooms k) here ∙ ap (λ (t : Tree). slice_get t.rooms n) gives ∙ changed_room tree n room new there in
      elim (path_cases other path) as (λ _. (x : Room) × (longer : List ℕ) × (slice_get after.rooms m ≡ Some x) × (file_at x other ≡ Some longer) × (length bytes ≤ length longer)) [
        | inl one ↦ (new, now, stands, ap (λ p. file_at new p) one ∙ is, grows bytes (subst (λ p. file_at room p ≡ Some bytes) one was))
        | inr two ↦ (new, bytes, stands, others other two ∙ was, omega arith)
      ]
  | inr apart ↦ (r, bytes, ap (λ (t : Tree). slice_get t.rooms m) gives ∙ other_room tree n m new apart ∙ e, at, omega arith)
]

pub created_lengthens : (tree : Tree) (n : ℕ) (path : Path) (after : Tree) → Created tree n path after → Lengthens tree after
created_lengthens tree n path after c = lengthens_by tree n path c.room c.new [] after c.has_room c.gives c.now c.others.files (λ old e. absurd (let clash : None ≡ Some old = sym c.none ∙ e in cc))

longer : (old now : List ℕ) (at : ℕ) (bytes : List ℕ) → at ≤ length old → now ≡ overwritten old at bytes → length old ≤ length now
longer old now at bytes within e = omega (arith, length-overwritten old at bytes within, ap length e)

pub wrote_lengthens : (tree : Tree) (n : ℕ) (path : Path) (at : ℕ) (bytes : List ℕ) (after : Tree) → Wrote tree n path at bytes after → Lengthens tree after
wrote_lengthens tree n path at bytes after w =
    lengthens_by tree n path w.room w.new (overwritten w.old at bytes) after w.has_room w.gives w.now w.others.files
    (λ old e.
    let both : Some w.old ≡ Some old = sym w.there ∙ e in
    let same : w.old ≡ old = cc in
    subst (λ l. length l ≤ length (overwritten w.old at bytes)) same (longer w.old (overwritten w.old at bytes) at bytes w.within refl))

-- whatever is told
pub lengthens_told : (step : Step) (tree : Tree) (told : Result Answer Trouble) (after : Tree) → OnlyAdds step → Tells step tree told after → Lengthens tree after
lengthens_told (remove n folder file) tree told after adds t = absurd adds
lengthens_told (replace n folder from to) tree told after adds t = absurd adds
lengthens_told (cut n folder file len) tree told after adds t = absurd adds
lengthens_told (create n folder file) tree told after adds t =
    let path : Path = record { folder = folder; file = file } in
    elim (create_told n path tree told after t).either as (λ _. Lengthens tree after) [
      | inl c ↦ created_lengthens tree n path after c
      | inr same ↦ lengthens_same tree after same
    ]
lengthens_told (write_at n folder file at bytes) tree told after adds t =
    let path : Path = record { folder = folder; file = file } in
    elim (write_told n path at bytes tree told after t) as (λ _. Lengthens tree after) [
      | inl w ↦ wrote_lengthens tree n path at bytes after w.1
      | inr (u, inl same) ↦ lengthens_same tree after same
      | inr (u, inr p) ↦ wrote_lengthens tree n path at (take p.0 bytes) after p.2
    ]
lengthens_told step tree told after adds t = unnamed step tree after (keeps_rooms step tree told after t) (λ n path named. named)
