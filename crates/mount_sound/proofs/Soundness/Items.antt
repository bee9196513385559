-- Items of a room: two of them have two paths, and a change of one leaves the others.
use Rattle.std.proofs.Common.{◌≡◌, ◌≤◌, ◌<◌, ◌^◌, ℕ, List, true, Option, Some, None, refl, ap, sym, ◌∙◌, inl, inr, arith}
use Rattle.container_layout.specs.declared.items.Item.{Item}
use Rattle.container_layout.specs.declared.items.Item.TheVariants.{Access, OpenHost, Meta, Trunc, Flat, TmpFlat, Index, Log, Packed, TmpPacked}
use Rattle.container_layout.specs.Items.{IsItem}
use Rattle.container_layout.specs.Paths.{path_of, hostdir_of}
use Rattle.container_layout.proofs.Facts.{same_items}
use Rattle.store_api.specs.declared.tree.Room.{Room}
use Rattle.store_api.specs.Room.{has_folder}
use Rattle.store_laws.specs.Files.{file_at, kept_at, AreTwo, SameButFile}
use Rattle.store_laws.proofs.Facts.{has_folder_same, file_at_same, kept_at_same}
use Rattle.mount_model.specs.Paths.{Name}
use Rattle.mount_sound.specs.Items.{HasItem, HasMeta, HasItemOf}

-- The writer that an item is of, and its host. A packed index is of none here: it stands by what its writer's metadata
-- dropping tells.
abbrev pub owner : Item → Option ℕ
owner Access = None
owner (OpenHost host writer) = Some writer
owner (Meta last bytes stamp host writer) = Some writer
owner (Trunc stamp size) = None
owner (Flat id) = None
owner (TmpFlat id) = None
owner (Index host writer) = Some writer
owner (Log host writer) = Some writer
owner (Packed host writer) = None
owner (TmpPacked host id) = None

abbrev pub host_of : Item → Option ℕ
host_of Access = None
host_of (OpenHost host writer) = Some host
host_of (Meta last bytes stamp host writer) = Some host
host_of (Trunc stamp size) = None
host_of (Flat id) = None
host_of (TmpFlat id) = None
host_of (Index host writer) = Some host
host_of (Log host writer) = Some host
host_of (Packed host writer) = None
host_of (TmpPacked host id) = None

pub is_index : (host writer : ℕ) → host < 2 ^ 32 → writer < 2 ^ 64 → IsItem (Index host writer)
is_index host writer h w = record { in_range = tt; widths = (h, w) }

pub is_log : (host writer : ℕ) → host < 2 ^ 32 → writer < 2 ^ 64 → IsItem (Log host writer)
is_log host writer h w = record { in_range = tt; widths = (h, w) }

pub is_open : (host writer : ℕ) → host < 2 ^ 32 → writer < 2 ^ 64 → IsItem (OpenHost host writer)
is_open host writer h w = record { in_range = tt; widths = (h, w) }

-- two items have two paths
pub apart : (a b : Item) → IsItem a → IsItem b → (a ≡ b → ⊥) → AreTwo (path_of a) (path_of b)
apart a b is_a is_b other = λ folder file. other (same_items a b is_a is_b (λ i. record { folder = folder i; file = file i }))

-- one item of the room may have changed, and no folder went
pub record SameButItem (changed : Item) (room new : Room) : Type 0 where
  pub is_item : IsItem changed
  pub others : (item : Item) → IsItem item → (item ≡ changed → ⊥) → file_at new (path_of item) ≡ file_at room (path_of item)
  pub kepts : (item : Item) → IsItem item → (item ≡ changed → ⊥) → kept_at new (path_of item) ≡ kept_at room (path_of item)
  pub folders : (folder : Name) → has_folder room folder ≡ true → has_folder new folder ≡ true

pub same_but_item : (changed : Item) (room new : Room) → IsItem changed → SameButFile (path_of changed) room new → SameButItem changed room new
same_but_item changed room new is s = record {
  is_item = is;
  others = λ item is_other other. s.files (path_of item) (apart item changed is_other is other);
  kepts = λ item is_other other. s.kepts (path_of item) (apart item changed is_other is other);
  folders = λ folder there. has_folder_same room new folder s.folders ∙ there;
}

-- the room has the same of this writer and keeps no less of it, the same truncates, and no fewer folders of droppings
pub record SameFor (writer : ℕ) (room new : Room) : Type 0 where
  pub owned : (item : Item) → IsItem item → owner item ≡ Some writer → file_at new (path_of item) ≡ file_at room (path_of item)
  pub kepts : (item : Item) → IsItem item → owner item ≡ Some writer → kept_at room (path_of item) ≤ kept_at new (path_of item)
  pub truncates : (stamp size : ℕ) → IsItem (Trunc stamp size) → file_at new (path_of (Trunc stamp size)) ≡ file_at room (path_of (Trunc stamp size))
  pub folders : (host : ℕ) → has_folder room (hostdir_of host) ≡ true → has_folder new (hostdir_of host) ≡ true

pub same_refl : (writer : ℕ) (room : Room) → SameFor writer room room
same_refl writer room = record { owned = λ item is o. refl; kepts = λ item is o. omega arith; truncates = λ stamp size is. refl; folders = λ host there. there }

pub other_owner : (item changed : Item) (a b : ℕ) → owner item ≡ Some a → owner changed ≡ Some b → (a ≡ b → ⊥) → item ≡ changed → ⊥
other_owner item changed a b of_a of_b other same = let owners : owner item ≡ owner changed = ap owner same in other (cc)

pub no_owner : (item changed : Item) (b : ℕ) → owner item ≡ None → owner changed ≡ Some b → item ≡ changed → ⊥
no_owner item changed b of_none of_b same = let owners : owner item ≡ owner changed = ap owner same in cc

pub other_host : (item changed : Item) (a b : ℕ) → host_of item ≡ Some a → host_of changed ≡ Some b → (a ≡ b → ⊥) → item ≡ changed → ⊥
other_host item changed a b of_a of_b other same = let hosts : host_of item ≡ host_of changed = ap host_of same in other (cc)

-- a change of one writer's item leaves what the room has of the others
pub same_for : (changed : Item) (writer q : ℕ) (room new : Room) → owner changed ≡ Some writer → (q ≡ writer → ⊥) → SameButItem changed room new → SameFor q room new
same_for changed writer q room new of_writer other s = record {
  owned = λ item is o. s.others item is (other_owner item changed q writer o of_writer other);
  kepts = λ item is o. omega (arith, s.kepts item is (other_owner item changed q writer o of_writer other));
  truncates = λ stamp size is. s.others (Trunc stamp size) is (no_owner (Trunc stamp size) changed writer refl of_writer);
  folders = λ host there. s.folders (hostdir_of host) there;
}

-- a change of a writer's item leaves the truncates
pub same_truncates : (changed : Item) (writer : ℕ) (room new : Room) → owner changed ≡ Some writer → SameButItem changed room new → (stamp size : ℕ) → IsItem (Trunc stamp size) → file_at new (path_of (Trunc stamp size)) ≡ file_at room (path_of (Trunc stamp size))
same_truncates changed writer room new of_writer s stamp size is = s.others (Trunc stamp size) is (no_owner (Trunc stamp size) changed writer refl of_writer)

-- no file changes where a folder is made
pub same_for_files : (writer : ℕ) (room new : Room) → new.files ≡ room.files → ((host : ℕ) → has_folder room (hostdir_of host) ≡ true → has_folder new (hostdir_of host) ≡ true) → SameFor writer room new
same_for_files writer room new same folders = record {
  owned = λ item is o. file_at_same room new (path_of item) same;
  kepts = λ item is o. omega (arith, kept_at_same room new (path_of item) same);
  truncates = λ stamp size is. file_at_same room new (path_of (Trunc stamp size)) same;
  folders = folders;
}

-- what the old room had, where an item is as it was
pub had : (room new : Room) (item : Item) (bytes : List ℕ) → (IsItem item → file_at new (path_of item) ≡ file_at room (path_of item)) → HasItem new item bytes → HasItem room item bytes
had room new item bytes same h = record { is_item = h.is_item; there = sym (same h.is_item) ∙ h.there }

pub has_still : (room new : Room) (item : Item) (bytes : List ℕ) → (IsItem item → file_at new (path_of item) ≡ file_at room (path_of item)) → HasItem room item bytes → HasItem new item bytes
has_still room new item bytes same h = record { is_item = h.is_item; there = same h.is_item ∙ h.there }

pub had_meta : (room new : Room) (host writer : ℕ) → SameFor writer room new → HasMeta new host writer → HasMeta room host writer
had_meta room new host writer s m = record { last = m.last; bytes = m.bytes; stamp = m.stamp; content = m.content; has = had room new (Meta m.last m.bytes m.stamp host writer) m.content (λ is. s.owned (Meta m.last m.bytes m.stamp host writer) is refl) m.has }

pub has_meta_still : (room new : Room) (host writer : ℕ) → SameFor writer room new → HasMeta room host writer → HasMeta new host writer
has_meta_still room new host writer s m = record { last = m.last; bytes = m.bytes; stamp = m.stamp; content = m.content; has = has_still room new (Meta m.last m.bytes m.stamp host writer) m.content (λ is. s.owned (Meta m.last m.bytes m.stamp host writer) is refl) m.has }

-- what the old room had of a writer, where each of its items of this host is as it was
pub had_item_of : (room new : Room) (host writer : ℕ) → ((item : Item) → IsItem item → owner item ≡ Some writer → host_of item ≡ Some host → file_at new (path_of item) ≡ file_at room (path_of item)) → HasItemOf new host writer → HasItemOf room host writer
had_item_of room new host writer same (inl i) = inl (i.0, had room new (Index host writer) i.0 (λ is. same (Index host writer) is refl refl) i.1)
had_item_of room new host writer same (inr (inl o)) = inr (inl (o.0, had room new (OpenHost host writer) o.0 (λ is. same (OpenHost host writer) is refl refl) o.1))
had_item_of room new host writer same (inr (inr m)) = inr (inr (record { last = m.last; bytes = m.bytes; stamp = m.stamp; content = m.content; has = had room new (Meta m.last m.bytes m.stamp host writer) m.content (λ is. same (Meta m.last m.bytes m.stamp host writer) is refl refl) m.has }))
