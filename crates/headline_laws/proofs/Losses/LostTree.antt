-- What a tree that a loss of power leaves has of the tree before it: all items, and of each writer the first writes.
use Rattle.std.proofs.Common.{◌≡◌, inl, ℕ, List, [], ◌++◌, length, map, take, drop, Some, sym, ap, ◌∙◌, subst, arith}
use Rattle.std.specs.Prelude.{slice_get}
use Rattle.container_layout.specs.declared.items.Item.{Item}
use Rattle.container_layout.specs.declared.items.Item.TheVariants.{Index, Log}
use Rattle.container_layout.specs.Paths.{path_of}
use Rattle.store_api.specs.declared.tree.Room.{Room}
use Rattle.store_api.specs.declared.tree.Tree.{Tree}
use Rattle.store_api.specs.Loss.{Loses}
use Rattle.store_laws.specs.Prefix.{IsPrefix}
use Rattle.store_laws.proofs.Facts.{have_lost, prefix_rest}
use Rattle.mount_sound.specs.Dropping.{IsWriter, bytes_of, log_bytes}
use Rattle.mount_sound.specs.Items.{HasItem}
use Rattle.mount_sound.specs.Ledger.{Written, content, entries_in}
use Rattle.mount_sound.specs.Sound.{IsSoundTree}
use Rattle.mount_sound.specs.There.{landed_entries, landed_in as many_in}
use Rattle.mount_sound.proofs.Facts.{take_all, writer_told}
use Rattle.reader_laws.specs.Moments.{file_in_room}
use Rattle.reader_laws.proofs.Gathered.Facts.{in_a_room, length-entries}
use Rattle.headline.specs.Trees.{Has, bytes_in, landed_in, log_in, logged_write, or_none}
use Rattle.headline_laws.proofs.Trees.Still.{Tells, all_logged, file_of, none_or, written}

-- each item stands
pub item_stays : (tree lost : Tree) → Loses tree lost → (n : ℕ) (item : Item) → Has tree n item → Has lost n item
item_stays tree lost loses n item (bytes, is) =
    let r = in_a_room (slice_get tree.rooms n) (path_of item) bytes (sym (file_of tree n item) ∙ is) in
    let l = (have_lost tree lost loses).rooms n r.0 r.1 in
    let f = l.2.files (path_of item) bytes r.2 in
    (f.front, file_of lost n item ∙ ap (λ o. file_in_room o (path_of item)) l.1 ∙ f.there)

-- Index and log of a writer of a sound tree tell all that it issued.
pub record TreeTells (tree : Tree) (room : Room) (n host id : ℕ) (its : List Written) : Type 0 where
  pub tells : Tells tree n host id its
  pub many : many_in room host id ≡ length its

pub tree_told : (tree : Tree) (s : IsSoundTree tree) (n host id : ℕ) (room : Room) (bytes : List ℕ) → slice_get tree.rooms n ≡ Some room → HasItem room (Index host id) bytes → TreeTells tree room n host id (s.issued n id)
tree_told tree s n host id room bytes there has =
    let its : List Written = s.issued n id in
    let log : List ℕ = log_bytes room host id in
    let w : IsWriter room id its = (s.rooms n room there).writers id has.is_item.widths.1 in
    let same : host ≡ w.host = w.one_host host (inl (bytes, has)) in
    let landed : landed_entries room host id ≡ entries_in its =
    ap (λ h. landed_entries room h id) same ∙ writer_told room id its w has.is_item.widths.1 (s.writes n id) ∙ ap (λ k. take k (entries_in its)) (s.all_landed n room there id has.is_item.widths.1)
    ∙ take_all (entries_in its) (length its) (omega (arith, length-entries its)) in
    let begins : IsPrefix (content its) log = subst (λ h. IsPrefix (content its) (log_bytes room h id)) (sym same) w.log in
    let split : log ≡ content its ++ drop (length (content its)) log = prefix_rest (content its) log begins in
    let file : (item : Item) → or_none (bytes_in tree n item) ≡ bytes_of (file_in_room (Some room) (path_of item)) = λ item. none_or (bytes_in tree n item) ∙ ap bytes_of (file_of tree n item ∙ ap (λ o. file_in_room o (path_of item)) there) in
    let right = s.writes n id in
    let all : map (logged_write log) (entries_in its) ≡ map written its = ap (λ l. map (logged_write l) (entries_in its)) split ∙ all_logged id 0 [] its (drop (length (content its)) log) right.in_order right.full in
    record {
      tells = record {
        writes = ap (λ i. landed_in i (log_in tree n host id)) (file (Index host id)) ∙ ap (λ l. landed_in (bytes_of (file_in_room (Some room) (path_of (Index host id)))) l) (file (Log host id)) ∙ ap (map (logged_write log)) landed ∙ all;
        rest = drop (length (content its)) log;
        log = file (Log host id) ∙ split;
      };
      many = ap length landed ∙ length-entries its;
    }
