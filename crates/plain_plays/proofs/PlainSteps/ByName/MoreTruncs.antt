-- A truncate's file is made in a room: its truncates are one more, and no writer's files change.
use Rattle.std.proofs.Common.{◌≡◌, ◌≤◌, ◌<◌, ℕ, List, [], ◌∷◌, ◌++◌, get_or, Some, refl, ap, ◌∙◌, inl, inr, arith}
use Rattle.std.specs.List.{AllByRecursion}
use Rattle.std.proofs.lemmas.Bool.{cases_eq}
use Rattle.std.proofs.lemmas.List.Elements.{All-from_recursion}
use Rattle.plfs_types.specs.declared.entries.Trunc.{Trunc}
use Rattle.plfs_types.specs.declared.names.Path.{Path}
use Rattle.plain_file.proofs.Facts.{Among}
use Rattle.container_layout.specs.declared.items.Item.TheVariants as item
use Rattle.container_layout.specs.Paths.{path_of}
use Rattle.container_layout.specs.Items.{IsItem}
use Rattle.container_layout.proofs.Facts.{elsewhere, same_items}
use Rattle.store_api.specs.declared.tree.Room.{Room as RoomThere}
use Rattle.store_laws.specs.Files.{file_at}
use Rattle.mount_model.specs.Paths.{Name, trunc_path, truncs}
use Rattle.reader_laws.specs.GatheringListing.{AreTruncsAt, StampsRise}
use Rattle.plfs_types.specs.Places.{IsAmong}
use Rattle.reader_laws.specs.Moments.{HadTrunc, Moment, file_in_room}
use Rattle.reader_laws.proofs.Gathered.Facts.{all_at, among, among_left, among_right, is_among}
use Rattle.plain_machine.specs.Machine.{PlainRoom}
use Rattle.plain_plays.specs.Mirrors.{MirrorsRoom}
use Rattle.plain_plays.proofs.PlainSteps.ByName.Turning.{KeepsDroppings, Turns, by_room, had_before, had_now}

-- ---- the truncates are one more

each_push : (P : Trunc → Type 0) (ts : List Trunc) (new : Trunc) → AllByRecursion P ts → P new → AllByRecursion P (ts ++ new ∷ [])
each_push P [] new all now = (now, tt)
each_push P (t ∷ ts) new all now = (all.0, each_push P ts new all.1 now)

rise_push : (ts : List Trunc) (new : Trunc) → StampsRise ts → AllByRecursion (λ (t : Trunc). t.stamp < new.stamp) ts → StampsRise (ts ++ new ∷ [])
rise_push [] new rise below = (tt, tt)
rise_push (t ∷ ts) new rise below = (each_push (λ (later : Trunc). t.stamp < later.stamp) ts new rise.0 below.0, rise_push ts new rise.1 below.1)

members : (P : Trunc → Type 0) (ts : List Trunc) → ((t : Trunc) → Among t ts → P t) → AllByRecursion P ts
members P [] f = tt
members P (t ∷ ts) f = (f t (inl refl), members P ts (λ u a. f u (inr a)))

module _ (m : Moment) (n : ℕ) (old : RoomThere) (room : PlainRoom) (shows : MirrorsRoom m n old room) (stamp size top : ℕ) (below : (t : Trunc) → Among t room.truncs → t.stamp ≤ top) (above : top < stamp) (is : IsItem (item.Trunc stamp size)) (last : Moment) (final : RoomThere) (turns : Turns n old final m last) (made : file_at final (trunc_path stamp size) ≡ Some [])
    (others : (other : Path) → (other.folder ≡ truncs → other.file ≡ (trunc_path stamp size).file → ⊥) → file_at final other ≡ file_at old other) where
  abbrev New : Trunc
  New = record { stamp = stamp; size = size }

  two_paths : (t : Trunc) → IsItem (item.Trunc t.stamp t.size) → (t.stamp ≡ stamp → t.size ≡ size → ⊥) → (path_of (item.Trunc t.stamp t.size)).folder ≡ truncs → (path_of (item.Trunc t.stamp t.size)).file ≡ (trunc_path stamp size).file → ⊥
  two_paths t is_item apart f g =
      let same : item.Trunc t.stamp t.size ≡ item.Trunc stamp size = same_items (item.Trunc t.stamp t.size) (item.Trunc stamp size) is_item is (λ i. record { folder = truncs; file = g i }) in
      let a : t.stamp ≡ stamp = cc in
      let b : t.size ≡ size = cc in
      apart a b

  other_same : (t : Trunc) → IsItem (item.Trunc t.stamp t.size) → (t.stamp ≡ stamp → t.size ≡ size → ⊥) → file_at final (path_of (item.Trunc t.stamp t.size)) ≡ file_at old (path_of (item.Trunc t.stamp t.size))
  other_same t is_item apart = others (path_of (item.Trunc t.stamp t.size)) (two_paths t is_item apart)

  stays : (t : Trunc) → Among t room.truncs → HadTrunc last n t.stamp t.size
  stays t a =
      let had : HadTrunc m n t.stamp t.size = all_at (λ (x : Trunc). HadTrunc m n x.stamp x.size) room.truncs t shows.truncs.there a in
      had_now n old final m last turns (item.Trunc t.stamp t.size) (other_same t had.is_item (λ same size_same. let l = below t a in omega (arith, l, above, same))) had

  is_there : HadTrunc last n stamp size
  is_there = record { is_item = is; bytes = []; there = by_room last.state.store.tree n (trunc_path stamp size) ∙ ap (λ x. file_in_room x (trunc_path stamp size)) turns.now ∙ made }

  earlier : (t : Trunc) → (t.stamp ≡ stamp → t.size ≡ size → ⊥) → HadTrunc last n t.stamp t.size → IsAmong t (room.truncs ++ New ∷ [])
  earlier t apart had =
      let before : HadTrunc m n t.stamp t.size = had_before n old final m last turns (item.Trunc t.stamp t.size) (other_same t had.is_item apart) had in
      is_among (room.truncs ++ New ∷ []) t (among_left t room.truncs (New ∷ []) (among room.truncs t (shows.truncs.all t before)))

  which : (t : Trunc) → HadTrunc last n t.stamp t.size → IsAmong t (room.truncs ++ New ∷ [])
  which t had = elim (cases_eq t.stamp stamp) as (λ _. IsAmong t (room.truncs ++ New ∷ [])) [
    | inr other ↦ earlier t (λ same size_same. other same) had
    | inl same ↦ elim (cases_eq t.size size) as (λ _. IsAmong t (room.truncs ++ New ∷ [])) [
      | inr other ↦ earlier t (λ stamp_same size_same. other size_same) had
      | inl size_same ↦ is_among (room.truncs ++ New ∷ []) t (among_right t room.truncs (New ∷ []) (inl (λ i. record { stamp = same i; size = size_same i })))
    ]
  ]

  pub more_truncs : AreTruncsAt last n (room.truncs ++ New ∷ [])
  more_truncs = record {
    rise = rise_push room.truncs New shows.truncs.rise (members (λ (t : Trunc). t.stamp < stamp) room.truncs (λ t a. let l = below t a in omega (arith, l, above)));
    there = All-from_recursion (λ (t : Trunc). HadTrunc last n t.stamp t.size) (room.truncs ++ New ∷ []) (each_push (λ (t : Trunc). HadTrunc last n t.stamp t.size) room.truncs New (members (λ (t : Trunc). HadTrunc last n t.stamp t.size) room.truncs stays) is_there);
    all = which;
  }

first_byte : (a b : Name) → a ≡ b → get_or a 0 0 ≡ get_or b 0 0
first_byte a b e = ap (λ (n : Name). get_or n 0 0) e

-- a truncate's file is no writer's
pub not_droppings : (stamp size : ℕ) (old new : RoomThere) → ((other : Path) → (other.folder ≡ truncs → other.file ≡ (trunc_path stamp size).file → ⊥) → file_at new other ≡ file_at old other) → KeepsDroppings old new
not_droppings stamp size old new same = record {
  index = λ host writer. same (path_of (item.Index host writer)) (λ f g. elsewhere (first_byte _ _ f) refl);
  log = λ host writer. same (path_of (item.Log host writer)) (λ f g. elsewhere (first_byte _ _ f) refl);
  opens = λ host writer. same (path_of (item.OpenHost host writer)) (λ f g. elsewhere (first_byte _ _ f) refl);
}
