-- In a room that nobody has open, the entries that have landed are told by the metadata.
use Rattle.std.proofs.Common.{◌≡◌, ℕ, ◌+◌, ◌^◌, ◌≤◌, ◌<◌, List, [], ◌∷◌, Some, None, true, false, take, ap, sym, ◌∙◌, subst, inl, inr, arith}
use Rattle.std.specs.Prelude.{slice_get}
use Rattle.std.specs.List.{AllByRecursion}
use Rattle.std.proofs.lemmas.Bool.{cases_lt}
use Rattle.plfs_types.specs.declared.entries.Entry.{Entry}
use Rattle.container_layout.specs.declared.items.Item.TheVariants.{OpenHost, Index, Meta}
use Rattle.container_layout.specs.Items.{IsItem}
use Rattle.store_api.specs.declared.tree.Room.{Room}
use Rattle.store_api.specs.Room.{has_folder}
use Rattle.store_laws.specs.Files.{file_at}
use Rattle.mount_model.specs.declared.row.Holder.{Holder}
use Rattle.mount_model.specs.Paths.{open_path}
use Rattle.container_layout.specs.Paths.{openhosts}
use Rattle.mount_model.specs.State.{State, last_id}
use Rattle.mount_model.specs.Table.{holder_at}
use Rattle.mount_model.proofs.Facts.{holder_apart}
use Rattle.mount_sound.specs.Shape.{IsDrawnBy}
use Rattle.mount_sound.specs.Container.{IsContainer}
use Rattle.mount_sound.proofs.Shapes.Facts.{container_at, item_held, shape_of}
use Rattle.mount_sound.specs.Dropping.{IsWriter}
use Rattle.mount_sound.specs.Entries.{AreEntriesOf, last_stamp}
use Rattle.mount_sound.specs.Held.{IsHeldIn}
use Rattle.mount_sound.specs.Items.{HasItem, HasMeta}
use Rattle.mount_sound.specs.Ledger.{Ledger, entries_in}
use Rattle.mount_sound.specs.Sound.{IsSoundFor}
use Rattle.mount_sound.specs.There.{landed_entries}
use Rattle.mount_sound.proofs.Facts.{in_order_take, writer_told}
use Rattle.recovery_laws.proofs.Holds.Tops.{cases_Option}

-- no stamp of these entries is above this one
abbrev pub Below : ℕ → List Entry → Type 0
Below top es = AllByRecursion (λ (e : Entry). e.stamp ≤ top) es

pub below_less : (low high : ℕ) (es : List Entry) → low ≤ high → Below low es → Below high es
below_less low high [] l b = tt
below_less low high (e ∷ es) l b = (omega (arith, l, b.0), below_less low high es l b.1)

-- no stamp is above the last one
below_last : (writer last offset : ℕ) (es : List Entry) → AreEntriesOf writer last offset es → (last ≤ last_stamp last es) × Below (last_stamp last es) es
below_last writer last offset [] are = (omega arith, tt)
below_last writer last offset (e ∷ es) are =
    let rest = below_last writer e.stamp (offset + e.len) es are.1 in
    (omega (arith, are.0.later, rest.0), (rest.0, rest.1))

module _ (l : Ledger) (state : State) (s : IsSoundFor l state) (number : ℕ) (h : Holder) (found : holder_at number state.table.holders ≡ Some h) (room : Room) (there : slice_get s.shape.tree.rooms h.room ≡ Some room) where
  held : IsHeldIn s.shape.tree h
  held = s.held.each number h found

  shut : has_folder room openhosts ≡ false
  unfolding held
  shut = let both : Some held.room ≡ Some room = sym held.there ∙ there in let same : held.room ≡ room = cc in ap (λ (r : Room). has_folder r openhosts) (sym same) ∙ held.closed

  -- nobody has it open
  none_open : (host writer : ℕ) → host < 2 ^ 32 → writer < 2 ^ 64 → file_at room (open_path host writer) ≡ None
  none_open host writer fits small = elim (cases_Option (file_at room (open_path host writer))) [
    | inl none ↦ none
    | inr some ↦ (let c : IsContainer (IsDrawnBy (last_id state) s.shape.tree) room =
        container_at (last_id state) state.marks state.mount h.room s.shape.tree room (shape_of state s.shape) (holder_apart state.mount state.serial state.marks state.table.holders number h s.regular.holders found) there in
        let is : IsItem (OpenHost host writer) = record { in_range = tt; widths = (fits, small) } in
        let opened : has_folder room openhosts ≡ true = (item_held (IsDrawnBy (last_id state) s.shape.tree) room (OpenHost host writer) some.0 c is some.1).housed in
        let closed : has_folder room openhosts ≡ false = shut in
        let clash : true ≡ false = sym opened ∙ closed in absurd cc)
  ]

  -- What has landed of a writer has no stamp above those of the metadata.
  pub landed_below : (top : ℕ) → ((last bytes stamp host writer : ℕ) (content : List ℕ) → HasItem room (Meta last bytes stamp host writer) content → stamp ≤ top)
      → (host writer : ℕ) (content : List ℕ) → HasItem room (Index host writer) content → Below top (landed_entries room host writer)
  landed_below top metas host writer content item =
      let small : writer < 2 ^ 64 = item.is_item.widths.1 in
      let w : IsWriter room writer (l h.room writer) = (s.sound.rooms h.room room there).writers writer small in
      let es : List Entry = entries_in (l h.room writer) in
      let same : host ≡ w.host = w.one_host host (inl (content, item)) in
      let told : landed_entries room host writer ≡ take w.landed es = ap (λ x. landed_entries room x writer) same ∙ writer_told room writer (l h.room writer) w small (s.sound.writes h.room writer) in
      let order : AreEntriesOf writer 0 0 (take w.landed es) = in_order_take w.landed writer 0 0 es (s.sound.writes h.room writer).in_order in
      subst (Below top) (sym told) (elim (cases_lt 0 w.landed) as (λ _. Below top (take w.landed es)) [
        | inl some ↦ (let meta : HasMeta room w.host writer = w.left (none_open w.host writer w.host_fits small) (omega (arith, some)) in
            let tells = w.told meta.last meta.bytes meta.stamp meta.content meta.has in
            let below : meta.stamp ≤ top = metas meta.last meta.bytes meta.stamp w.host writer meta.content meta.has in
            below_less (last_stamp 0 (take w.landed es)) top (take w.landed es) (omega (arith, below, tells.latest)) (below_last writer 0 0 (take w.landed es) order).1)
        | inr none ↦ (let e : w.landed ≡ 0 = omega (arith, none) in subst (λ n. Below top (take n es)) (sym e) (none_taken es))
      ])
    where
      none_taken : (es : List Entry) → Below top (take 0 es)
      none_taken [] = tt
      none_taken (e ∷ es) = tt
