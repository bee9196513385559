-- What an act left of an item was there before, unless the act may make it.
use Rattle.std.proofs.Common.{◌≡◌, ◌⊎◌, inl, inr, ℕ, List, false, Option, Some, None, Ok, refl, sym, ap, ◌∙◌, subst}
use Rattle.std.specs.Prelude.{⊤, slice_get}
use Rattle.std.proofs.lemmas.Bool.{cases_eq}
use Rattle.plfs_types.specs.declared.names.Path.{Path}
use Rattle.container_layout.specs.declared.items.Item.{Item}
use Rattle.container_layout.specs.Items.{IsItem}
use Rattle.container_layout.specs.Paths.{path_of}
use Rattle.store_api.specs.declared.step.Answer.TheVariants.{Made, Names}
use Rattle.store_api.specs.declared.tree.Room.{Room}
use Rattle.store_api.specs.declared.tree.Tree.{Tree}
use Rattle.store_api.specs.Acts.{Stored}
use Rattle.store_api.specs.Names.{marks_folder}
use Rattle.store_api.specs.Room.{is_top}
use Rattle.store_api.specs.Step.{Step, cut, remove, write_at}
use Rattle.store_laws.specs.Files.{file_at}
use Rattle.store_laws.specs.Naming.{NamesFile}
use Rattle.store_laws.specs.Tells.{Tells}
use Rattle.store_laws.proofs.Facts.{acts_told, cut_told, keeps_rooms, path_cases, remove_told, write_told}
use Rattle.mount_model.specs.History.{Event}
use Rattle.mount_model.specs.Making.{Told}
use Rattle.mount_model.specs.Mounting.{IsMounted, list_step, mark_step, marks_step}
use Rattle.mount_model.specs.State.{State}
use Rattle.mount_sound.proofs.Facts.{ActsOn, no_item, rooms_from}
use Rattle.reader_laws.specs.Moments.{HadItem, IsSoundAt, Moment, file_in_room, file_then, file_told, next_moment}
use Rattle.reader_laws.proofs.Gathered.Facts.{in_a_room}

-- the step changes or removes only a file that is there
abbrev pub ChangesOnly : Step → Type 0
ChangesOnly (remove n folder file) = ⊤
ChangesOnly (write_at n folder file at bytes) = ⊤
ChangesOnly (cut n folder file len) = ⊤
ChangesOnly step = ⊥

-- a room of the tree has the item
pub record IsIn (tree : Tree) (number : ℕ) (item : Item) : Type 0 where
  pub room : Room
  pub there : slice_get tree.rooms number ≡ Some room
  pub bytes : List ℕ
  pub has : file_at room (path_of item) ≡ Some bytes

-- ---- one act

module _ (tree : Tree) (told : Told) (after : Tree) (number : ℕ) (item : Item) (is_item : IsItem item) (below : is_top (path_of item).folder ≡ false) (i : IsIn after number item) where
  as_before : after ≡ tree → IsIn tree number item
  as_before same = record { room = i.room; there = ap (λ (t : Tree). slice_get t.rooms number) (sym same) ∙ i.there; bytes = i.bytes; has = i.has }

  unnamed : (step : Step) → Tells step tree told after → (NamesFile step number (path_of item) → ⊥) → IsIn tree number item
  unnamed step tells spares =
      elim (rooms_from (λ x. x ≡ step) tree after (inr (record { step = step; told = told; holds = refl; tells = tells })) number i.room i.there) as (λ _. IsIn tree number item) [
        | inr bare ↦ absurd (no_item i.room item i.bytes bare below (record { is_item = is_item; there = i.has }))
        | inl (room, was) ↦
            let k = keeps_rooms step tree told after tells number room was in
            let both : Some k.0 ≡ Some i.room = sym k.1 ∙ i.there in
            let same : k.0 ≡ i.room = cc in
            record { room = room; there = was; bytes = i.bytes; has = sym (k.2.files (path_of item) spares) ∙ ap (λ (r : Room). file_at r (path_of item)) same ∙ i.has }
      ]

  -- a file of this room and path was there
  named_there : (n : ℕ) (path : Path) (room : Room) (old : List ℕ) → number ≡ n → path_of item ≡ path → slice_get tree.rooms n ≡ Some room → file_at room path ≡ Some old → IsIn tree number item
  named_there n path room old at same there has = record { room = room; there = ap (slice_get tree.rooms) at ∙ there; bytes = old; has = ap (file_at room) same ∙ has }

  writes : (n : ℕ) (path : Path) (at : ℕ) (bytes : List ℕ) → Tells (write_at n path.folder path.file at bytes) tree told after → number ≡ n → path_of item ≡ path → IsIn tree number item
  writes n path at bytes tells here same = elim (write_told n path at bytes tree told after tells) as (λ _. IsIn tree number item) [
    | inl w ↦ named_there n path w.1.room w.1.old here same w.1.has_room w.1.there
    | inr (u, inl stays) ↦ as_before stays
    | inr (u, inr p) ↦ named_there n path p.2.room p.2.old here same p.2.has_room p.2.there
  ]

  cuts : (n : ℕ) (path : Path) (len : ℕ) → Tells (cut n path.folder path.file len) tree told after → number ≡ n → path_of item ≡ path → IsIn tree number item
  cuts n path len tells here same = elim (cut_told n path len tree told after tells).either as (λ _. IsIn tree number item) [
    | inl c ↦ named_there n path c.room c.old here same c.has_room c.there
    | inr stays ↦ as_before stays
  ]

  removes : (n : ℕ) (path : Path) → Tells (remove n path.folder path.file) tree told after → number ≡ n → path_of item ≡ path → IsIn tree number item
  removes n path tells here same = elim (remove_told n path tree told after tells).either as (λ _. IsIn tree number item) [
    | inl c ↦ named_there n path c.room c.old here same c.has_room c.there
    | inr stays ↦ as_before stays
  ]

  by_path : (step : Step) (n : ℕ) (path : Path) → Tells step tree told after → ((path_of item).folder ≡ path.folder → (path_of item).file ≡ path.file → number ≡ n → NamesFile step number (path_of item)) → (NamesFile step number (path_of item) → (number ≡ n) × ((path_of item).folder ≡ path.folder) × ((path_of item).file ≡ path.file))
      → (number ≡ n → path_of item ≡ path → IsIn tree number item) → IsIn tree number item
  by_path step n path tells names named changes = elim (cases_eq number n) as (λ _. IsIn tree number item) [
    | inr other ↦ unnamed step tells (λ x. other (named x).0)
    | inl here ↦ elim (path_cases (path_of item) path) as (λ _. IsIn tree number item) [
      | inr two ↦ unnamed step tells (λ x. two (named x).1 (named x).2)
      | inl same ↦ changes here same
    ]
  ]

  pub was_in : (step : Step) → Tells step tree told after → (NamesFile step number (path_of item) → ChangesOnly step) → IsIn tree number item
  was_in (write_at n folder file at bytes) tells only =
      by_path (write_at n folder file at bytes) n (record { folder = folder; file = file }) tells (λ f g here. (here, (f, g))) (λ x. (x.0, x.1.0, x.1.1)) (λ here same. writes n (record { folder = folder; file = file }) at bytes tells here same)
  was_in (remove n folder file) tells only = by_path (remove n folder file) n (record { folder = folder; file = file }) tells (λ f g here. (here, (f, g))) (λ x. (x.0, x.1.0, x.1.1)) (λ here same. removes n (record { folder = folder; file = file }) tells here same)
  was_in (cut n folder file len) tells only = by_path (cut n folder file len) n (record { folder = folder; file = file }) tells (λ f g here. (here, (f, g))) (λ x. (x.0, x.1.0, x.1.1)) (λ here same. cuts n (record { folder = folder; file = file }) len tells here same)
  was_in step tells only = unnamed step tells only

-- ---- one step

module _ (m : Moment) (s : IsSoundAt m) (e : Event) (number : ℕ) (item : Item) (below : is_top (path_of item).folder ≡ false) where
  then_in : (tree : Tree) → e.after.store.tree ≡ Some tree → HadItem (next_moment m e) number item → IsIn tree number item
  then_in tree told had =
      let now = in_a_room (slice_get tree.rooms number) (path_of item) had.bytes (ap (λ o. file_told o number (path_of item)) (sym told) ∙ had.there) in
      record { room = now.0; there = now.1; bytes = had.bytes; has = now.2 }

  had_in : IsItem item → IsIn s.shape.tree number item → HadItem m number item
  had_in is_item i = record { is_item = is_item; bytes = i.bytes; there = ap (λ o. file_told o number (path_of item)) s.shape.told ∙ ap (λ o. file_in_room o (path_of item)) i.there ∙ i.has }

  -- what an act did of which this holds, where this is decided
  pub by_act : (P : Step → Type 0) (Else : Type 0) → ((step : Step) → P step → (NamesFile step number (path_of item) → ChangesOnly step) ⊎ Else) → (after : Tree) → e.after.store.tree ≡ Some after → ActsOn P s.shape.tree after → HadItem (next_moment m e) number item → HadItem m number item ⊎ Else
  by_act P Else decides after told (inl same) had =
      let i = then_in after told had in
      inl (had_in had.is_item (record { room = i.room; there = ap (λ (t : Tree). slice_get t.rooms number) (sym same) ∙ i.there; bytes = i.bytes; has = i.has }))
  by_act P Else decides after told (inr a) had = elim (decides a.step a.holds) as (λ _. HadItem m number item ⊎ Else) [
    | inr else ↦ inr else
    | inl only ↦ inl (had_in had.is_item (was_in s.shape.tree a.told after number item had.is_item below (then_in after told had) a.step a.tells only))
  ]

  -- where the tree stays
  pub same_state : e.after ≡ m.state → HadItem (next_moment m e) number item → HadItem m number item
  same_state same had = record { is_item = had.is_item; bytes = had.bytes; there = ap (λ (x : State). file_told x.store.tree number (path_of item)) (sym same) ∙ had.there }

  pub same_tree : (after : Tree) → e.after.store.tree ≡ Some after → after ≡ s.shape.tree → HadItem (next_moment m e) number item → HadItem m number item
  same_tree after told same had = record { is_item = had.is_item; bytes = had.bytes; there = ap (λ o. file_told o number (path_of item)) (s.shape.told ∙ ap (λ (t : Tree). Some t) (sym same) ∙ sym told) ∙ had.there }

pub has_or_not : (m : Moment) (number : ℕ) (item : Item) → IsItem item → HadItem m number item ⊎ (HadItem m number item → ⊥)
has_or_not m number item is_item = by (file_then m number (path_of item)) refl
  where
    by : (o : Option (List ℕ)) → file_then m number (path_of item) ≡ o → HadItem m number item ⊎ (HadItem m number item → ⊥)
    by (Some bytes) is = inl (record { is_item = is_item; bytes = bytes; there = is })
    by None is = inr (λ had. let clash : None ≡ Some had.bytes = sym is ∙ had.there in absurd (cc))

-- ---- as the mount began

one_tree : (a b : Tree) (o : Option Tree) → o ≡ Some a → o ≡ Some b → a ≡ b
one_tree a b o is also = cc

-- an item with which the mount began was there before
pub mounted_back : (times : Option (List ℕ)) (opened : Stored) (start : State) (tree after : Tree) (number : ℕ) (item : Item) → IsMounted 0 times opened start → opened.tree ≡ Some tree → start.store.tree ≡ Some after → IsItem item → is_top (path_of item).folder ≡ false → ((path_of item).folder ≡ marks_folder → ⊥)
    → IsIn after number item → IsIn tree number item
mounted_back times opened start tree after number item mounted is told is_item below apart i =
    let d = mounted.draws in
    let a = acts_told marks_step opened d.roomed tree d.tells.told is d.tells.made in
    let b = acts_told (list_step start.marks) d.roomed d.listed a.0 (Ok (Names d.names)) a.1 d.lists in
    let c = acts_told (mark_step start.marks start.mount) d.listed start.store b.0 (Ok Made) b.1 d.marked in
    let same : after ≡ c.0 = one_tree after c.0 start.store.tree told c.1 in
    let third = was_in b.0 (Ok Made) c.0 number item is_item below (subst (λ t. IsIn t number item) same i) (mark_step start.marks start.mount) c.2 (λ names. absurd (apart names.1.0)) in
    let second = was_in a.0 (Ok (Names d.names)) b.0 number item is_item below third (list_step start.marks) b.2 (λ none. absurd none) in
    was_in tree d.tells.told a.0 number item is_item below second marks_step a.2 (λ none. absurd none)
