-- Each writer of a machine that has what a mount has, has its droppings in the tree.
use Rattle.std.proofs.Common.{◌≡◌, inl, inr, ◌≤◌, ℕ, true, false, List, [], ◌∷◌, length, min, Option, Some, None, refl, sym, ap, ◌∙◌, subst, arith}
use Rattle.std.specs.Prelude.{MatchOption, is_some, slice_get}
use Rattle.std.specs.List.{AllByRecursion}
use Rattle.container_layout.specs.declared.items.Item.TheVariants as item
use Rattle.store_api.specs.declared.tree.Room.{Room}
use Rattle.store_api.specs.declared.tree.Tree.{Tree}
use Rattle.store_laws.specs.Files.{file_at}
use Rattle.store_laws.specs.Prefix.{IsPrefix}
use Rattle.mount_model.specs.Paths.{index_path, open_path}
use Rattle.mount_sound.specs.Dropping.{IsDropping, IsWriter, bytes_of, log_bytes}
use Rattle.mount_sound.specs.Items.{HasItem, HasItemOf, HasMeta}
use Rattle.mount_sound.specs.Landed.{whole}
use Rattle.mount_sound.specs.Ledger.{Written, content}
use Rattle.mount_sound.proofs.Facts.{landed_is}
use Rattle.reader_laws.specs.Moments.{Dropping, IsSoundAt, Moment, issued_by}
use Rattle.reader_laws.proofs.Gathered.Facts.{landed_whole}
use Rattle.plain_machine.specs.Machine.{Plain, PlainWriter}
use Rattle.plain_plays.specs.Droppings.{HasDroppings, HaveDroppings}
use Rattle.plain_plays.specs.Mirrors.{Mirrors, MirrorsAt, MirrorsWriter, room_told}
use Rattle.plain_plays.specs.Plainly.{dropping_of}
use Rattle.plain_plays.proofs.PlainSteps.Steps.AnyMount.{file_here}

none_whole : (n : ℕ) → min (whole []) n ≡ 0
none_whole n = omega arith

no_file : (o : Option (List ℕ)) → is_some o ≡ false → o ≡ None
no_file None e = refl
no_file (Some bytes) e = absurd (let wrong : true ≡ false = e in cc)

some_file : (o : Option (List ℕ)) → is_some o ≡ true → (bytes : List ℕ) × (o ≡ Some bytes)
some_file None e = absurd (let wrong : false ≡ true = e in cc)
some_file (Some bytes) e = (bytes, refl)

one_tree : (a b : Tree) → Some a ≡ Some b → a ≡ b
one_tree a b e = cc

-- ---- a writer

module _ (m : Moment) (s : IsSoundAt m) (n : ℕ) (r : Room) (at : slice_get s.shape.tree.rooms n ≡ Some r) (w : PlainWriter) (o : MirrorsWriter m n w) where
  abbrev its : Dropping
  its = dropping_of n w

  writer_here : IsWriter r w.id (issued_by m its)
  writer_here = (s.sound.rooms n r at).writers w.id o.named.widths.1

  host_is : HasItemOf r w.host w.id → writer_here.host ≡ w.host
  host_is has = sym (writer_here.one_host w.host has)

  -- it has its room open where its entry stands there
  entry_is : is_some (file_at r (open_path w.host w.id)) ≡ w.is_open
  entry_is = ap is_some (sym (file_here m s n r at (open_path w.host w.id))) ∙ o.opens

  has_entry : w.is_open ≡ true → HasItemOf r w.host w.id
  has_entry entered =
      let f = some_file (file_at r (open_path w.host w.id)) (entry_is ∙ entered) in
      let entry : HasItem r (item.OpenHost w.host w.id) f.0 = record { is_item = record { in_range = tt; widths = o.named.widths }; there = f.1 } in
      inr (inl (f.0, entry))

  has_index : (bytes : List ℕ) → file_at r (index_path w.host w.id) ≡ Some bytes → HasItem r (item.Index w.host w.id) bytes
  has_index bytes there = record { is_item = o.named; there = there }

  -- so many have landed, by its index dropping
  landed_by_index : (file : Option (List ℕ)) → file_at r (index_path w.host w.id) ≡ file → w.landed ≡ min (whole (bytes_of file)) (length (issued_by m its))
  landed_by_index file there = sym o.landed_is ∙ landed_whole m s its o.named ∙ ap (λ f. min (whole (bytes_of f)) (length (issued_by m its))) (file_here m s n r at (index_path w.host w.id) ∙ there)

  some_landed : (file : Option (List ℕ)) → file_at r (index_path w.host w.id) ≡ file → 1 ≤ w.landed → HasItemOf r w.host w.id
  some_landed None there some = absurd (let none : w.landed ≡ 0 = landed_by_index None there ∙ none_whole (length (issued_by m its)) in omega (arith, none, some))
  some_landed (Some bytes) there some = inl (bytes, has_index bytes there)

  abbrev IsIndex : ℕ → List Written → ℕ → Option (List ℕ) → Type 0
  IsIndex host writes count file = MatchOption file (count ≡ 0) (IsDropping w.id writes count (length (log_bytes r host w.id)))

  index_is : (file : Option (List ℕ)) → file_at r (index_path w.host w.id) ≡ file → IsIndex w.host w.issued w.landed file
  index_is None there = landed_by_index None there ∙ none_whole (length (issued_by m its))
  index_is (Some bytes) there =
      let has = has_index bytes there in
      let counted : writer_here.landed ≡ w.landed = landed_is r w.host w.id (issued_by m its) bytes writer_here has ∙ sym (landed_by_index (Some bytes) there) in
      let here : IsIndex w.host (issued_by m its) writer_here.landed (file_at r (index_path w.host w.id)) = subst (λ h. IsIndex h (issued_by m its) writer_here.landed (file_at r (index_path h w.id))) (host_is (inl (bytes, has))) writer_here.index in
      let P : List Written × ℕ × Option (List ℕ) → Type 0 = λ z. IsIndex w.host z.0 z.1 z.2 in
      subst P (λ i. (o.issued i, counted i, there i)) here

  log_is : HasItemOf r w.host w.id → IsPrefix (content w.issued) (log_bytes r w.host w.id)
  log_is has =
      let P : List Written × ℕ → Type 0 = λ z. IsPrefix (content z.0) (log_bytes r z.1 w.id) in
      subst P (λ i. (o.issued i, host_is has i)) writer_here.log

  told_is : w.is_open ≡ false → 1 ≤ w.landed → HasMeta r w.host w.id
  told_is shut some = elim (file_at r (index_path w.host w.id)) as (λ f. file_at r (index_path w.host w.id) ≡ f → HasMeta r w.host w.id) [
    | None ↦ λ there. absurd (let none : w.landed ≡ 0 = landed_by_index None there ∙ none_whole (length (issued_by m its)) in omega (arith, none, some))
    | Some bytes ↦ λ there.
        let has = has_index bytes there in
        let host = host_is (inl (bytes, has)) in
        let counted : writer_here.landed ≡ w.landed = landed_is r w.host w.id (issued_by m its) bytes writer_here has ∙ sym (landed_by_index (Some bytes) there) in
        let gone : file_at r (open_path writer_here.host w.id) ≡ None = ap (λ h. file_at r (open_path h w.id)) host ∙ no_file (file_at r (open_path w.host w.id)) (entry_is ∙ shut) in
        subst (λ h. HasMeta r h w.id) host (writer_here.left gone (omega (arith, counted, some)))
  ] refl

  has_droppings : HasDroppings r w
  has_droppings = record {
    index = index_is (file_at r (index_path w.host w.id)) refl;
    log = λ trace. elim trace as (λ _. IsPrefix (content w.issued) (log_bytes r w.host w.id)) [
      | inl some ↦ log_is (some_landed (file_at r (index_path w.host w.id)) refl some)
      | inr entered ↦ log_is (has_entry entered)
    ];
    told = told_is;
  }

-- ---- all of them

each_has : (m : Moment) (s : IsSoundAt m) (n : ℕ) (r : Room) → slice_get s.shape.tree.rooms n ≡ Some r → (ws : List PlainWriter) → AllByRecursion (MirrorsWriter m n) ws → AllByRecursion (HasDroppings r) ws
each_has m s n r at [] each = tt
each_has m s n r at (w ∷ ws) each = (has_droppings m s n r at w each.0, each_has m s n r at ws each.1)

pub droppings_so : (m : Moment) (p : Plain) → Mirrors m p → (tree : Tree) → m.state.store.tree ≡ Some tree → HaveDroppings tree p
droppings_so m p o tree told number r room there has =
    let s = o.sound in
    let same : tree ≡ s.shape.tree = one_tree tree s.shape.tree (sym told ∙ s.shape.told) in
    let at : slice_get s.shape.tree.rooms number ≡ Some r = ap (λ (t : Tree). slice_get t.rooms number) (sym same) ∙ there in
    let both : MirrorsAt m number (Some r) (Some room) = subst (MirrorsAt m number (Some r)) has (subst (λ x. MirrorsAt m number x (slice_get p.rooms number)) (ap (λ t. room_told t number) told ∙ there) (o.rooms number)) in
    each_has m s number r at room.writers both.writers
