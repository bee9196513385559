-- A container of which each item is right is as in a sound tree.
use Rattle.std.proofs.Common.{◌≡◌, ℕ, inl, true, false, List, [], length, Option, Some, None, Result, Ok, Err, refl, ap, sym, ◌∙◌, subst, arith}
use Rattle.std.specs.Prelude.{slice_get, IfErr, IfOk}
use Rattle.std.specs.BTreeMap.{BTreeMap, get}
use Rattle.std.specs.Ordering.{nat_cmp}
use Rattle.std.proofs.lemmas.Bool.{false≢true}
use Rattle.plfs_types.specs.declared.entries.Entry.{Entry}
use Rattle.plfs_types.specs.declared.entries.Trunc.{Trunc}
use Rattle.plfs_types.specs.declared.names.Path.{Path}
use Rattle.container_layout.specs.declared.items.Item.{Item}
use Rattle.container_layout.specs.declared.items.Item.TheVariants as item
use Rattle.container_layout.specs.Paths.{path_of}
use Rattle.store_api.specs.declared.tree.Room.{Room}
use Rattle.store_api.specs.declared.tree.Tree.{Tree}
use Rattle.store_api.specs.Acts.{Stored}
use Rattle.store_laws.specs.Files.{file_at}
use Rattle.mount_model.specs.Paths.{index_path, installed_item, installed_of}
use Rattle.mount_model.specs.declared.row.Making.{Making}
use Rattle.mount_model.specs.declared.row.Making.TheVariants as making
use Rattle.mount_sound.specs.Dropping.{bytes_of, AreBeside}
use Rattle.mount_sound.specs.Flats.{IsRightFor}
use Rattle.mount_sound.specs.Items.{HasItem, HasMeta, HasItemOf}
use Rattle.mount_sound.specs.Sound.{TruncatesDiffer}
use Rattle.mount_sound.specs.There.{landed_in}
use Rattle.tree_laws.specs.Checked.{IsCheckedDropping, IsCheckedWriter, IsCheckedRoom}
use Rattle.shape_check.specs.declared.files.Place.{Place}
use Rattle.shape_check.specs.declared.finding.Complaint.{Complaint}
use Rattle.shape_check.specs.declared.finding.Finding.{Finding}
use Rattle.shape_check.specs.Files.{IsPlaced, OfPlace}
use Rattle.shape_check.specs.Rightness.{Fails}
use Rattle.shape_check.specs.Seeing.{IsSeen, IsLookedAt}
use Rattle.shape_check.specs.Shape.{EachAt, HasShape}
use Rattle.shape_check.proofs.Facts.{kept_whole, seen_on}
use Rattle.tree_check.specs.declared.owners.Owner.{Owner}
use Rattle.tree_check.specs.Complaining.{IsRightOfItem, TellsOfContainer, TellsOfItems}
use Rattle.tree_check.specs.Known.{IsRightItem, IsRightAt, IsLeftWriter, IsOpenWriter, IsKnownAll, OfKnownAll}
use Rattle.tree_check.specs.Owners.{AreOwnersAt, AreOwnersOf}
use Rattle.tree_check.specs.Truncates.{AreTruncsAt}
use Rattle.tree_check.proofs.EachLemmas.{each_none}
use Rattle.tree_check.proofs.Failing.{all_fail_for}
use Rattle.tree_check.proofs.IndexLemmas.{index_widths}
use Rattle.tree_check.proofs.OwnerLemmas.{one_host, owners_in_room}
use Rattle.tree_check.proofs.TruncLemmas.{truncs_in_room, truncs_differ}
use Rattle.tree_check.proofs.WriterLemmas.{none_landed}

module _ (stored : Stored) (tree : Tree) (seen : IsSeen stored tree) (number : ℕ) (room : Room) (there : slice_get tree.rooms number ≡ Some room) (paths : List Path) (shape : HasShape paths tree room)
    (owners : BTreeMap ℕ Owner) (are : AreOwnersOf owners room) (right : EachAt IsRightAt paths tree room) where
  item_right : (it : Item) (bytes : List ℕ) → HasItem room it bytes → ((path_of it).folder ≡ [] → ⊥) → IsRightItem it tree room
  item_right it bytes has below = right (path_of it) (shape.all (path_of it) bytes below has.there) it (record { is_item = has.is_item; printed = refl })

  meta_right : (last sum stamp host writer : ℕ) (content : List ℕ) → HasItem room (item.Meta last sum stamp host writer) content → IsLeftWriter room last sum stamp host writer
  meta_right last sum stamp host writer content has = item_right (item.Meta last sum stamp host writer) content has (λ top. absurd (cc))

  index_right : (host writer : ℕ) (bytes : List ℕ) → HasItem room (item.Index host writer) bytes → (HasMeta room host writer → ⊥) → IsOpenWriter room host writer
  index_right host writer bytes has = item_right (item.Index host writer) bytes has (λ top. absurd (cc))

  left_writer : (host writer : ℕ) → HasItemOf room host writer → HasMeta room host writer → IsCheckedWriter room host writer
  left_writer host writer has meta =
      let w : IsLeftWriter room meta.last meta.bytes meta.stamp host writer = meta_right meta.last meta.bytes meta.stamp host writer meta.content meta.has in
      record {
        alone = λ other has_other. one_host owners room host other writer are has has_other;
        dropping = w.fine.dropping;
        left = λ gone some. meta;
        told = λ last bytes stamp content h. (meta_right last bytes stamp host writer content h).told;
        settled = λ m. w.settled;
        beside = w.fine.beside;
      }

  as_meta : (last sum stamp host writer : ℕ) (content : List ℕ) → HasItem room (item.Meta last sum stamp host writer) content → HasMeta room host writer
  as_meta last sum stamp host writer content has = record { last = last; bytes = sum; stamp = stamp; content = content; has = has }

  open_writer : (host writer : ℕ) → HasItemOf room host writer → (HasMeta room host writer → ⊥) → (found : Option (List ℕ)) → file_at room (index_path host writer) ≡ found → IsCheckedWriter room host writer
  open_writer host writer has stays None e =
      let none : landed_in room host writer ≡ 0 = ap (λ (es : List Entry). length es) (none_landed room host writer e) in
      record {
        alone = λ other has_other. one_host owners room host other writer are has has_other;
        dropping = subst (λ (found : Option (List ℕ)). IsCheckedDropping writer (bytes_of found)) (sym e) (record { in_order = tt; small = omega arith });
        left = λ gone some. absurd (omega (arith, some, none));
        told = λ last bytes stamp content h. absurd (stays (as_meta last bytes stamp host writer content h));
        settled = λ meta. absurd (stays meta);
        beside = λ stamp size content h. subst (AreBeside stamp) (sym (none_landed room host writer e)) (inl tt);
      }
  open_writer host writer has stays (Some bytes) e =
      let w : IsOpenWriter room host writer = index_right host writer bytes (record { is_item = record { in_range = tt; widths = index_widths room host writer has }; there = e }) stays in
      record {
        alone = λ other has_other. one_host owners room host other writer are has has_other;
        dropping = w.fine.dropping;
        left = λ gone some. absurd (w.accounted gone some);
        told = λ last bytes stamp content h. absurd (stays (as_meta last bytes stamp host writer content h));
        settled = λ meta. absurd (stays meta);
        beside = w.fine.beside;
      }

  stays_open : (host writer : ℕ) (known : Owner) → get nat_cmp owners writer ≡ Some known → known.has_left ≡ false → HasMeta room host writer → ⊥
  stays_open host writer known e l meta =
      let gone = are.gone host writer meta in
      let one : Some gone.0 ≡ Some known = sym gone.1 ∙ e in
      let same : gone.0 ≡ known = cc in
      false≢true (sym l ∙ ap (λ (o : Owner). o.has_left) (sym same) ∙ gone.3)

  writer_right : (host writer : ℕ) → HasItemOf room host writer → IsCheckedWriter room host writer
  writer_right host writer has =
      let known = are.known host writer has in
      elim (known.0.has_left) as (λ b. known.0.has_left ≡ b → IsCheckedWriter room host writer) [
        | true ↦ λ l. left_writer host writer has (subst (λ (h : ℕ). HasMeta room h writer) known.2 (are.left writer known.0 known.1 l))
        | false ↦ λ l. open_writer host writer has (stays_open host writer known.0 known.1 l) (file_at room (index_path host writer)) refl
      ] refl

  flat_right : (makes : Making) (id : ℕ) (bytes : List ℕ) → HasItem room (installed_item makes id) bytes → IsRightFor room makes bytes
  flat_right making.Flat id bytes has = item_right (item.Flat id) bytes has (λ top. absurd (cc)) bytes has.there
  flat_right (making.Pack host writer) id bytes has = item_right (item.Packed host writer) bytes has (λ top. absurd (cc)) bytes has.there

  pub checked_room : TruncatesDiffer room → IsCheckedRoom room
  checked_room differ = record {
    writers = writer_right;
    truncates = differ;
    flats = λ makes id bytes has. (flat_right makes id bytes has, omega (arith, kept_whole stored tree number room (installed_of makes id) bytes seen there has.there));
  }

-- ---- a container that is checked

module _ (place : Place) (paths : List Path) (owners : BTreeMap ℕ Owner) (truncs : List Trunc) (old mid : Stored) (shape : OfPlace (HasShape paths) place old) (owners_are : AreOwnersAt paths owners) (truncs_are : AreTruncsAt paths truncs) (looked : IsLookedAt old mid) where
  known_all : (tree : Tree) → IsSeen old tree → IsPlaced place tree → IsKnownAll place owners truncs paths tree
  known_all tree seen at = (let s : HasShape paths tree at.room = shape tree seen at in record {
    placed = at;
    files = s.are;
    truncs_are = truncs_in_room at.room tree paths truncs s truncs_are;
    owners_are = owners_in_room at.room tree paths s owners owners_are;
  })

  pub container_told : (result : Result (List Complaint) Finding) → IfOk result (λ found. OfKnownAll (TellsOfItems paths found) place owners truncs paths mid) → IfOk result (λ found. OfPlace (TellsOfContainer found) place old)
  unfolding known_all
  container_told (Err finding) told = tt
  container_told (Ok found) told = λ tree seen at. (
      let s : HasShape paths tree at.room = shape tree seen at in
      let each : TellsOfItems paths found tree at.room = told tree (seen_on old mid tree looked seen) (known_all tree seen at) in
      record {
        paths = paths;
        shape = s;
        each = each;
        none = λ none. record {
          shape = s.container;
          checked = checked_room old tree seen place.number at.room at.there paths s owners (owners_in_room at.room tree paths s owners owners_are)
              (each_none (IsRightOfItem tree at.room) (λ (p : Path). IsRightAt p tree at.room) paths (subst (λ (l : List Complaint). TellsOfItems paths l tree at.room) none each)) (truncs_differ at.room tree paths truncs s truncs_are);
        };
      })

  pub container_fails : {A : Type 0} (new : Stored) (result : Result A Finding) → IfErr result (Fails (IsKnownAll place owners truncs paths) mid new) → IfErr result (Fails (IsPlaced place) old new)
  container_fails new result f = all_fail_for (IsPlaced place) (IsKnownAll place owners truncs paths) old mid new result known_all looked f
