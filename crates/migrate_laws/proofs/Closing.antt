-- The writers that closed a file, by their metadata droppings in a sound room.
use Rattle.std.proofs.Common.{◌≡◌, ◌≤◌, ◌<◌, ℕ, List, length, Some, sym, ◌∙◌, inr, subst, arith}
use Rattle.std.specs.Prelude.{slice_get}
use Rattle.container_layout.specs.declared.items.Item.TheVariants.{Meta, Packed}
use Rattle.plfs_types.specs.declared.limits.TheConstants.{MAX_PACKED}
use Rattle.store_api.specs.declared.tree.Room.{Room}
use Rattle.store_api.specs.declared.tree.Tree.{Tree}
use Rattle.mount_model.specs.declared.names.Metadata.{Metadata}
use Rattle.mount_model.specs.declared.row.Making.TheVariants as making
use Rattle.mount_model.specs.State.{State}
use Rattle.mount_sound.specs.Dropping.{IsWriter}
use Rattle.mount_sound.specs.Flats.{IsRightPack}
use Rattle.mount_sound.specs.Items.{HasItem, HasMeta}
use Rattle.mount_sound.specs.Ledger.{Ledger}
use Rattle.mount_sound.specs.Owed.{StandsInRoom}
use Rattle.mount_sound.specs.Sound.{IsSoundFor}
use Rattle.mount_sound.proofs.Facts.{one_tree, some_room}
use Rattle.migrate_laws.specs.Closed.{HasClosed, IsPacked, IsTooLong, WriterOf}
use Rattle.migrate_laws.proofs.Left.{IsLeft, IsWholeIn}
use Rattle.migrate_laws.proofs.Listed.{PackStands}
use Rattle.migrate_laws.proofs.Looking.{IsStanding}
use Rattle.migrate_laws.proofs.Reading.{IsLong}

-- the writer of a metadata dropping
abbrev pub of_meta : Metadata → WriterOf
of_meta m = record { host = m.host; writer = m.writer }

-- what a closed writer left
abbrev pub left_by : WriterOf → Metadata
left_by w = record { last = 0; bytes = 0; stamp = 0; host = w.host; writer = w.writer }

pub closed_of : (number : ℕ) (m : Metadata) (state : State) → 1 ≤ m.stamp → IsStanding number m state → StandsInRoom state number (HasClosed (of_meta m))
closed_of number m state wrote f = λ tree told. let x = f tree told in (x.0, x.1, record { last = m.last; bytes = m.bytes; stamp = m.stamp; content = x.2.0; stands = x.2.1; wrote = wrote })

pub closed_left : (number : ℕ) (w : WriterOf) (state : State) → StandsInRoom state number (HasClosed w) → IsLeft number (left_by w) state
closed_left number w state f = λ tree told. let x = f tree told in let h : HasClosed w x.0 = x.2 in (x.0, x.1, record { last = h.last; bytes = h.bytes; stamp = h.stamp; content = h.content; has = h.stands })

pub long_so : (number : ℕ) (m : Metadata) (state : State) → IsLong number m state → StandsInRoom state number (IsTooLong (of_meta m))
long_so number m state f = λ tree told.
    let x = f.1 tree told in
    let w : IsWholeIn m.host m.writer f.0 x.0 = x.2 in
    (x.0, x.1, subst (λ es. MAX_PACKED < length es) (sym w.landed) f.2)

module _ (l : Ledger) (state : State) (s : IsSoundFor l state) (number : ℕ) where
  -- what holds of a room of its tree holds as the store tells it
  so_told : (holds : Room → Type 0) → (room : Room) × (slice_get s.shape.tree.rooms number ≡ Some room) × holds room → StandsInRoom state number holds
  so_told holds p tree told = subst (λ (t : Tree). (room : Room) × (slice_get t.rooms number ≡ Some room) × holds room) (one_tree s.shape.tree tree state.store.tree s.shape.told told) p

  module _ (room : Room) (there : slice_get s.shape.tree.rooms number ≡ Some room) where
    one_host : (writer host other : ℕ) → HasMeta room host writer → HasMeta room other writer → host ≡ other
    one_host writer host other a b =
        let w : IsWriter room writer (l number writer) = (s.sound.rooms number room there).writers writer a.has.is_item.widths.1 in
        w.one_host host (inr (inr a)) ∙ sym (w.one_host other (inr (inr b)))

    one_stamp : (writer host : ℕ) (m : Metadata) (h : HasMeta room host writer) (content : List ℕ) → m.writer ≡ writer → HasItem room (Meta m.last m.bytes m.stamp m.host m.writer) content → (m.host ≡ host) × (m.stamp ≡ h.stamp)
    one_stamp writer host m h content is has =
        let w : IsWriter room writer (l number writer) = (s.sound.rooms number room there).writers writer h.has.is_item.widths.1 in
        let it : HasItem room (Meta m.last m.bytes m.stamp m.host writer) content = subst (λ n. HasItem room (Meta m.last m.bytes m.stamp m.host n) content) is has in
        let left : HasMeta room m.host writer = record { last = m.last; bytes = m.bytes; stamp = m.stamp; content = content; has = it } in
        let mine : m.host ≡ w.host = w.one_host m.host (inr (inr left)) in
        let its : host ≡ w.host = w.one_host host (inr (inr h)) in
        let one = w.told m.last m.bytes m.stamp content (subst (λ n. HasItem room (Meta m.last m.bytes m.stamp n writer) content) mine it) in
        let two = w.told h.last h.bytes h.stamp h.content (subst (λ n. HasItem room (Meta h.last h.bytes h.stamp n writer) h.content) its h.has) in
        (mine ∙ sym its, one.latest ∙ sym two.latest)

  -- all metadata droppings of a closed writer are of its host and tell its stamp
  pub its_own : (w : WriterOf) → StandsInRoom state number (HasClosed w) → (m : Metadata) → IsStanding number m state → m.writer ≡ w.writer → (m.host ≡ w.host) × (1 ≤ m.stamp)
  its_own w closed m stands is =
      let x = closed s.shape.tree s.shape.told in
      let h : HasClosed w x.0 = x.2 in
      let y = stands s.shape.tree s.shape.told in
      let same : y.0 ≡ x.0 = some_room y.0 x.0 (slice_get s.shape.tree.rooms number) y.1 x.1 in
      let left : HasMeta x.0 w.host w.writer = record { last = h.last; bytes = h.bytes; stamp = h.stamp; content = h.content; has = h.stands } in
      let one = one_stamp x.0 x.1 w.writer w.host m left y.2.0 is (subst (λ r. HasItem r (Meta m.last m.bytes m.stamp m.host m.writer) y.2.0) same y.2.1) in
      (one.0, omega (arith, one.1, h.wrote))

  -- its packed index is of its host
  pub packed_by : (w : WriterOf) → IsLeft number (left_by w) state → PackStands number w.writer state → StandsInRoom state number (IsPacked w)
  packed_by w left f =
      let x = left s.shape.tree s.shape.told in
      let y = f.1 s.shape.tree s.shape.told in
      let same : y.0 ≡ x.0 = some_room y.0 x.0 (slice_get s.shape.tree.rooms number) y.1 x.1 in
      let has : HasItem x.0 (Packed f.0 w.writer) y.2.0 = subst (λ r. HasItem r (Packed f.0 w.writer) y.2.0) same y.2.1 in
      let right : IsRightPack x.0 f.0 w.writer y.2.0 = (s.flats number x.0 x.1 (making.Pack f.0 w.writer) 0 y.2.0 has).0 in
      let one : f.0 ≡ w.host = one_host x.0 x.1 w.writer f.0 w.host right.left x.2 in
      so_told (IsPacked w) (x.0, x.1, (y.2.0, subst (λ n. HasItem x.0 (Packed n w.writer) y.2.0) one has))

  -- who has a packed index isn't too long
  pub not_both : (w : WriterOf) → StandsInRoom state number (IsPacked w) → StandsInRoom state number (IsTooLong w) → ⊥
  not_both w packed long =
      let x = packed s.shape.tree s.shape.told in
      let y = long s.shape.tree s.shape.told in
      let same : y.0 ≡ x.0 = some_room y.0 x.0 (slice_get s.shape.tree.rooms number) y.1 x.1 in
      let right : IsRightPack x.0 w.host w.writer x.2.0 = (s.flats number x.0 x.1 (making.Pack w.host w.writer) 0 x.2.0 x.2.1).0 in
      let more : IsTooLong w x.0 = subst (IsTooLong w) same y.2 in
      omega (arith, more, right.packs.valid.counted.1)
