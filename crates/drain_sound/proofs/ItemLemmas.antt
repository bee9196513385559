-- A room of a target goes on as one where one item's file has come, or has changed.
use Rattle.std.proofs.Common.{◌≡◌, ℕ, zero, suc, ◌≤◌, ◌⊎◌, true, List, [], ◌∷◌, length, take, drop, Option, Some, None, refl, ap, sym, ◌∙◌, inl, inr, subst, arith}
use Rattle.std.proofs.lemmas.Bool.{cases_eq}
use Rattle.plfs_types.specs.Bytes.{overwritten}
use Rattle.plfs_types.specs.declared.names.Path.{Path}
use Rattle.container_layout.specs.declared.items.Item.{Item}
use Rattle.container_layout.specs.declared.items.Item.TheVariants.{OpenHost, Meta, Trunc, Index, Log}
use Rattle.container_layout.specs.Items.{IsItem}
use Rattle.container_layout.specs.Paths.{path_of}
use Rattle.container_layout.proofs.Facts.{same_items}
use Rattle.store_api.specs.declared.tree.Room.{Room}
use Rattle.store_api.specs.declared.tree.Tree.{Tree}
use Rattle.store_api.specs.Room.{has_folder}
use Rattle.store_laws.specs.Changes.{with_room}
use Rattle.store_laws.specs.Differ.{PathsDiffer}
use Rattle.store_laws.specs.Files.{AreTwo, SameButFile, file_at, kept_at}
use Rattle.store_laws.specs.Prefix.{IsPrefix}
use Rattle.store_laws.proofs.Facts.{path_cases, prefix-overwritten}
use Rattle.mount_model.specs.declared.row.Making.{Making}
use Rattle.mount_model.specs.declared.row.Making.TheVariants as making
use Rattle.mount_model.specs.Paths.{access_path, installed_item}
use Rattle.mount_sound.specs.Container.{IsOfId, MayHold}
use Rattle.mount_sound.specs.Marks.{IsOfMark}
use Rattle.mount_sound.specs.Dropping.{bytes_of}
use Rattle.mount_sound.specs.Items.{HasItem, HasItemOf, HasMeta}
use Rattle.mount_sound.proofs.Facts.{owner}
use Rattle.reader_laws.specs.Moments.{HadTrunc, Moment, Stood}
use Rattle.drain_sound.specs.Fronts.{IsDrainedFrom, index_there, log_there, dropping_in}
use Rattle.drain_sound.proofs.ContainerLemmas.{GoesOn, IsContainerYet, RoomGoesOn}
use Rattle.drain_sound.proofs.ShapeLemmas.{container_filed}
use Rattle.drain_sound.proofs.WriterLemmas.{FrontsStay, StaysThere}

-- an item that a drain makes or writes
abbrev pub IsDrained : Item → Type 0
IsDrained (OpenHost host writer) = Unit {0}
IsDrained (Index host writer) = Unit {0}
IsDrained (Log host writer) = Unit {0}
IsDrained (Trunc stamp size) = Unit {0}
IsDrained item = ⊥

-- it is of this host and writer
abbrev pub IsOf : Item → ℕ → ℕ → Type 0
IsOf (OpenHost h w) host writer = (h ≡ host) × (w ≡ writer)
IsOf (Index h w) host writer = (h ≡ host) × (w ≡ writer)
IsOf (Log h w) host writer = (h ≡ host) × (w ≡ writer)
IsOf item host writer = ⊥

-- its id is allowed, where it has one
ids_wider : (few many : ℕ → Type 0) (item : Item) → IsDrained item → ((id : ℕ) → few id → many id) → IsOfId few item → IsOfId many item
ids_wider few many (OpenHost host writer) is more of = more writer of
ids_wider few many (Index host writer) is more of = more writer of
ids_wider few many (Log host writer) is more of = more writer of
ids_wider few many (Trunc stamp size) is more of = tt
ids_wider few many item is more of = absurd is

not_installed : (makes : Making) (id : ℕ) (changed : Item) → IsDrained changed → installed_item makes id ≡ changed → ⊥
not_installed making.Flat id changed is e = subst IsDrained (sym e) is
not_installed (making.Pack host writer) id changed is e = subst IsDrained (sym e) is

access_apart : (changed : Item) → IsDrained changed → AreTwo access_path (path_of changed)
access_apart (OpenHost host writer) is folder file = cc
access_apart (Index host writer) is folder file = cc
access_apart (Log host writer) is folder file = cc
access_apart (Trunc stamp size) is folder file = cc
access_apart item is folder file = absurd is

owner_cases : (o : Option ℕ) (writer : ℕ) → (o ≡ Some writer) ⊎ (o ≡ Some writer → ⊥)
owner_cases None writer = inr (λ e. cc)
owner_cases (Some w) writer = elim (cases_eq w writer) as (λ _. (Some w ≡ Some writer) ⊎ (Some w ≡ Some writer → ⊥)) [
  | inl same ↦ inl (ap (λ x. Some x) same)
  | inr other ↦ inr (λ e. other (cc))
]

-- ---- bytes over a front

prefix_is_take : (b whole : List ℕ) → IsPrefix b whole → b ≡ take (length b) whole
prefix_is_take [] [] p = refl
prefix_is_take [] (y ∷ whole) p = refl
prefix_is_take (x ∷ b) [] p = absurd p
prefix_is_take (x ∷ b) (y ∷ whole) p = ap (λ z. z ∷ b) p.0 ∙ ap (λ l. y ∷ l) (prefix_is_take b whole p.1)

-- bytes that follow in the whole leave a front of it
pub front_over : (whole old b : List ℕ) (at : ℕ) → IsPrefix old whole → at ≤ length old → IsPrefix b (drop at whole) → IsPrefix (overwritten old at b) whole
front_over whole old b at p within q = subst (λ x. IsPrefix (overwritten old at x) whole) (sym (prefix_is_take b (drop at whole) q)) (prefix-overwritten whole old at (length b) p within)

pub front_takes : (n : ℕ) (a c : List ℕ) → IsPrefix a c → n ≤ length a → take n a ≡ take n c
front_takes zero [] [] p l = refl
front_takes zero [] (z ∷ c) p l = refl
front_takes zero (x ∷ a) [] p l = absurd p
front_takes zero (x ∷ a) (z ∷ c) p l = refl
front_takes (suc n) [] c p l = absurd (omega arith)
front_takes (suc n) (x ∷ a) [] p l = absurd p
front_takes (suc n) (x ∷ a) (z ∷ c) p l = ap (λ y. y ∷ take n a) p.0 ∙ ap (λ t. z ∷ t) (front_takes n a c p.1 (omega arith))

-- a file that stays, stays kept
pub same_fronts : (room new : Room) (path : Path) → file_at new path ≡ file_at room path → kept_at new path ≡ kept_at room path → FrontsStay room new path
same_fronts room new path file kept old e front long was = record { bytes = old; there = file ∙ e; long = long; kept = omega (arith, was, kept) }

-- ---- the room

-- One item's file has come, or its bytes have changed: to a front of what has landed at the source, where it is a dropping,
-- and of a truncate of the source, where it is one.
pub record ItemChanged (source : Moment) (number : ℕ) (tree : Tree) (room new : Room) (changed : Item) : Type 0 where
  pub is_item : IsItem changed
  pub drains : IsDrained changed
  pub others : SameButFile (path_of changed) room new
  pub differ : PathsDiffer room → PathsDiffer new
  pub housed : has_folder room (path_of changed).folder ≡ true
  pub bytes : List ℕ
  pub now : file_at new (path_of changed) ≡ Some bytes
  pub holds : MayHold changed bytes
  pub marked : IsOfId (IsOfMark tree) changed
  pub stood : (host writer : ℕ) → IsOf changed host writer → Stood source (dropping_in number host writer)
  pub index : (host writer : ℕ) → Index host writer ≡ changed → IsPrefix bytes (index_there source (dropping_in number host writer))
  pub log : (host writer : ℕ) → Log host writer ≡ changed → IsPrefix bytes (log_there source (dropping_in number host writer))
  pub truncate : (stamp size : ℕ) → Trunc stamp size ≡ changed → HadTrunc source number stamp size

module _ (source : Moment) (number : ℕ) (tree : Tree) (n : ℕ) (room new : Room) (changed : Item) (c : ItemChanged source number tree room new changed) where
  -- an item is that one, or its file is as it was
  item_cases : (item : Item) → IsItem item → (item ≡ changed) ⊎ ((file_at new (path_of item) ≡ file_at room (path_of item)) × (kept_at new (path_of item) ≡ kept_at room (path_of item)))
  item_cases item is = elim (path_cases (path_of item) (path_of changed)) as (λ _. (item ≡ changed) ⊎ ((file_at new (path_of item) ≡ file_at room (path_of item)) × (kept_at new (path_of item) ≡ kept_at room (path_of item)))) [
    | inl same ↦ inl (same_items item changed is c.is_item same)
    | inr two ↦ inr (c.others.files (path_of item) two, c.others.kepts (path_of item) two)
  ]

  stays_unless : (item : Item) → IsItem item → (item ≡ changed → ⊥) → StaysThere room new item
  stays_unless item is other = elim (item_cases item is) as (λ _. StaysThere room new item) [
    | inl same ↦ absurd (other same)
    | inr stays ↦ record { file = stays.0; kept = omega (arith, stays.1) }
  ]

  its_stood : (item : Item) (bytes : List ℕ) (host writer : ℕ) → IsOf item host writer → HasItem new item bytes → (HasItem room item bytes → Stood source (dropping_in number host writer)) → Stood source (dropping_in number host writer)
  its_stood item bytes host writer of h was = elim (item_cases item h.is_item) as (λ _. Stood source (dropping_in number host writer)) [
    | inl same ↦ c.stood host writer (subst (λ i. IsOf i host writer) same of)
    | inr stays ↦ was (record { is_item = h.is_item; there = sym stays.0 ∙ h.there })
  ]

  its_meta : (host writer : ℕ) → HasMeta new host writer → HasMeta room host writer
  its_meta host writer m =
      let s = stays_unless (Meta m.last m.bytes m.stamp host writer) m.has.is_item (λ e. subst IsDrained (sym e) c.drains) in
      record { last = m.last; bytes = m.bytes; stamp = m.stamp; content = m.content; has = record { is_item = m.has.is_item; there = sym s.file ∙ m.has.there } }

  hosts : IsDrainedFrom source number room → (host writer : ℕ) → HasItemOf new host writer → Stood source (dropping_in number host writer)
  hosts d host writer (inl i) = its_stood (Index host writer) i.0 host writer (refl, refl) i.1 (λ h. d.hosts host writer (inl (i.0, h)))
  hosts d host writer (inr (inl i)) = its_stood (OpenHost host writer) i.0 host writer (refl, refl) i.1 (λ h. d.hosts host writer (inr (inl (i.0, h))))
  hosts d host writer (inr (inr m)) = d.hosts host writer (inr (inr (its_meta host writer m)))

  its_front : (item : Item) (there : List ℕ) → IsItem item → (item ≡ changed → IsPrefix c.bytes there) → IsPrefix (bytes_of (file_at room (path_of item))) there → IsPrefix (bytes_of (file_at new (path_of item))) there
  its_front item there is own was = elim (item_cases item is) as (λ _. IsPrefix (bytes_of (file_at new (path_of item))) there) [
    | inl same ↦
        let at : file_at new (path_of item) ≡ Some c.bytes = ap (λ i. file_at new (path_of i)) same ∙ c.now in
        subst (λ o. IsPrefix (bytes_of o) there) (sym at) (own same)
    | inr stays ↦ subst (λ o. IsPrefix (bytes_of o) there) (sym stays.0) was
  ]

  changed_drained : IsDrainedFrom source number room → IsDrainedFrom source number new
  changed_drained d = record {
    hosts = hosts d;
    fronts = λ host writer is.
        let f = d.fronts host writer is in
        record {
          index = its_front (Index host writer) (index_there source (dropping_in number host writer)) is (c.index host writer) f.index;
          log = its_front (Log host writer) (log_there source (dropping_in number host writer)) (record { in_range = tt; widths = is.widths }) (c.log host writer) f.log;
        };
    truncates = λ stamp size bytes h. elim (item_cases (Trunc stamp size) h.is_item) as (λ _. HadTrunc source number stamp size) [
      | inl same ↦ c.truncate stamp size same
      | inr stays ↦ d.truncates stamp size bytes (record { is_item = h.is_item; there = sym stays.0 ∙ h.there })
    ];
  }

  changed_container : IsContainerYet tree n room new
  changed_container wider was =
      container_filed (IsOfMark (with_room tree n new)) room new (path_of changed) c.bytes c.others c.differ (access_apart changed c.drains)
      (record { item = changed; is_at = record { is_item = c.is_item; printed = refl }; holds = c.holds; id = ids_wider (IsOfMark tree) (IsOfMark (with_room tree n new)) changed c.drains wider c.marked; housed = c.housed }) c.now was

  -- the room goes on, where its writer does
  pub item_goes_on : IsDrainedFrom source number room → ((writer : ℕ) → owner changed ≡ Some writer → GoesOn source number room new writer) → RoomGoesOn source number tree n room new
  item_goes_on d goes = record {
    named = c.others.name;
    drained = changed_drained d;
    each = λ writer fits. elim (owner_cases (owner changed) writer) as (λ _. ((item : Item) → IsItem item → owner item ≡ Some writer → StaysThere room new item) ⊎ GoesOn source number room new writer) [
      | inl its ↦ inr (goes writer its)
      | inr other ↦ inl (λ item is o. stays_unless item is (λ e. other (sym (ap owner e) ∙ o)))
    ];
    installed = λ makes id is. stays_unless (installed_item makes id) is (not_installed makes id changed c.drains);
    container = changed_container;
  }
