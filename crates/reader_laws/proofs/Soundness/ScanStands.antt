-- What a scan of a container has found so far, and what it is yet to find, in any sound state.
use Rattle.std.proofs.Common.{◌≡◌, ℕ, ◌+◌, ◌<◌, ◌%◌, nat_eq, true, false, List, [], ◌∷◌, Option, Some, None, refl, ap, sym, ◌∙◌, ◌⊎◌, inl, inr, subst, arith}
use Rattle.std.specs.Prelude.{Result, Ok, slice_get}
use Rattle.std.specs.List.{AllByRecursion}
use Rattle.std.proofs.lemmas.Bool.{cond-true}
use Rattle.std.proofs.lemmas.Bool.Decides.{nat_tests}
use Rattle.plfs_types.specs.declared.entries.Cover.{Cover}
use Rattle.plfs_types.specs.declared.names.Path.{Path}
use Rattle.plain_file.proofs.Facts.{Among, All-Among}
use Rattle.container_layout.specs.declared.items.Item.{Item}
use Rattle.container_layout.specs.declared.items.Item.TheVariants as item
use Rattle.container_layout.specs.Paths.{IsAt, hostdir_of, path_of}
use Rattle.store_api.specs.declared.tree.Room.{Room}
use Rattle.store_laws.specs.Files.{file_at}
use Rattle.store_laws.specs.There.{ListsFolder}
use Rattle.store_laws.proofs.Facts.{ordered_differ}
use Rattle.mount_model.specs.Paths.{Name, index_path}
use Rattle.flat_format.specs.declared.flat.Flat.{Flat}
use Rattle.mount_model.specs.declared.stuck.Stuck.{Stuck}
use Rattle.mount_model.specs.FlowListed.{file_in}
use Rattle.index_reader.specs.declared.listing.Listing.{Listing}
use Rattle.index_reader.specs.declared.scanning.Scan.{Scan}
use Rattle.index_reader.specs.Items.{hostdir_item}
use Rattle.index_reader.specs.Opening.{has_owner, is_of_host, listed, listing_of, lone_pack, uncovered, unless_lone, unless_uncovered}
use Rattle.index_reader.specs.Scanning.{has_writer, owner, scanned, taken_all, unless_foreign}
use Rattle.index_reader.specs.Searching.{has_name}
use Rattle.index_reader.proofs.Facts.{hostdir_item-here}
use Rattle.reader_laws.specs.GatheringListing.{IsIndexName}
use Rattle.reader_laws.specs.Moments.{Moment, IsSoundAt, Dropping, Grows, HadItem}
use Rattle.reader_laws.proofs.Gathered.Facts.{All-weaker, all_named, file_named, file_of, index_name, its_hostdir, named_dropping, named_file, not_top}
use Rattle.reader_laws.proofs.Soundness.HadItems.{HasIt, has_item, had_item, one_index_host, pack_has_index}
use Rattle.reader_laws.proofs.Soundness.KnownNames.{hostdir_known, none_foreign}
use Rattle.reader_laws.proofs.Soundness.LookEnds.{HasContainer}
use Rattle.reader_laws.proofs.Soundness.ScanOwners.{HasOwner, IsBefore, IsKnown, all_taken_so, has_its, owner_there}
use Rattle.reader_laws.proofs.Containers.Scanning.{Owner, HasTaken, NameOwner, dropping, host_of_folder}
use Rattle.reader_laws.proofs.Faults.TruncFails.{name_is_item}

-- ---- what was found

-- an index dropping that was found, in none of the folders that are left
abbrev IsFound : Moment → ℕ → List ℕ → Owner → Type 0
IsFound m room ks o = HadItem m room (item.Index o.host o.writer) × (Among (o.host % 32) ks → ⊥)

-- a packed index that was found, with its index dropping
abbrev IsFoundPack : Moment → ℕ → List ℕ → List Owner → Owner → Type 0
IsFoundPack m room ks indices o = HadItem m room (item.Packed o.host o.writer) × (Among (o.host % 32) ks → ⊥) × Among o indices

-- The cover's index dropping stands, and was found, or its folder is yet to be listed.
pub record IsMet (m : Moment) (room : ℕ) (top : List Name) (ks : List ℕ) (indices : List Owner) (c : Cover) : Type 0 where
  pub host : ℕ
  pub stands : HadItem m room (item.Index host c.writer)
  pub met : Among (owner host c.writer) indices ⊎ (Among (host % 32) ks × (has_name (hostdir_of host) top ≡ true))

-- What was scanned of the room, where the folders of these numbers are left: the covers' droppings were found, or will be.
pub record IsScanned (m : Moment) (room : ℕ) (top : List Name) (ks : List ℕ) (covers : List Cover) (scan : Scan) : Type 0 where
  pub indices : AllByRecursion (IsFound m room ks) scan.indices
  pub packs : AllByRecursion (IsFoundPack m room ks scan.indices) scan.packs
  pub covers_met : AllByRecursion (IsMet m room top ks scan.indices) covers

-- so it is later
pub scanned_later : (a b : Moment) (room : ℕ) (top : List Name) (ks : List ℕ) (covers : List Cover) (scan : Scan) → Grows a b → IsScanned a room top ks covers scan → IsScanned b room top ks covers scan
scanned_later a b room top ks covers scan goes h = record {
  indices = All-weaker (IsFound a room ks) (IsFound b room ks) scan.indices (λ o f. (goes.stands room (item.Index o.host o.writer) tt f.0, f.1)) h.indices;
  packs = All-weaker (IsFoundPack a room ks scan.indices) (IsFoundPack b room ks scan.indices) scan.packs (λ o f. (goes.stands room (item.Packed o.host o.writer) tt f.0, f.1, f.2)) h.packs;
  covers_met = All-weaker (IsMet a room top ks scan.indices) (IsMet b room top ks scan.indices) covers (λ c i. record { host = i.host; stands = goes.stands room (item.Index i.host c.writer) tt i.stands; met = i.met }) h.covers_met;
}

both_ways : {P : Type 0} (a : Name) (b : Name) (top : List Name) → a ≡ b → has_name a top ≡ true → has_name b top ≡ false → P
both_ways a b top same yes_ no_ = let clash : true ≡ false = sym yes_ ∙ ap (λ n. has_name n top) same ∙ no_ in absurd (cc)

-- a folder that the top doesn't name is passed over
pub scanned_past : (m : Moment) (room k : ℕ) (top : List Name) (ks : List ℕ) (covers : List Cover) (scan : Scan) → k < 32 → has_name (hostdir_of k) top ≡ false → IsScanned m room top (k ∷ ks) covers scan → IsScanned m room top ks covers scan
scanned_past m room k top ks covers scan small lacks h = record {
  indices = All-weaker (IsFound m room (k ∷ ks)) (IsFound m room ks) scan.indices (λ o f. (f.0, λ a. f.1 (inr a))) h.indices;
  packs = All-weaker (IsFoundPack m room (k ∷ ks) scan.indices) (IsFoundPack m room ks scan.indices) scan.packs (λ o f. (f.0, (λ a. f.1 (inr a)), f.2)) h.packs;
  covers_met = All-weaker (IsMet m room top (k ∷ ks) scan.indices) (IsMet m room top ks scan.indices) covers (λ c i. record { host = i.host; stands = i.stands; met = left i.host c i.met }) h.covers_met;
}
  where
    left : (host : ℕ) (c : Cover) → Among (owner host c.writer) scan.indices ⊎ (Among (host % 32) (k ∷ ks) × (has_name (hostdir_of host) top ≡ true)) → Among (owner host c.writer) scan.indices ⊎ (Among (host % 32) ks × (has_name (hostdir_of host) top ≡ true))
    left host c (inl met) = inl met
    left host c (inr (inl here, named)) = both_ways (hostdir_of host) (hostdir_of k) top (its_hostdir host k here) named lacks
    left host c (inr (inr later, named)) = inr (later, named)

-- ---- one folder

of_folder : (host k : ℕ) → host % 32 ≡ k → hostdir_of k ≡ hostdir_of host
of_folder host k number = sym (its_hostdir host k number)

module _ (m : Moment) (s : IsSoundAt m) (room k : ℕ) (small : k < 32) (names : List Name) (c : HasContainer m s room) (l : ListsFolder s.shape.tree room (hostdir_of k) names) where
  abbrev folder_ : Name
  folder_ = hostdir_of k

  file_there : (name : Name) → Among name names → (bytes : List ℕ) × (file_at l.room (file_of folder_ name) ≡ Some bytes)
  file_there name a = named_file l.room folder_ name names (not_top k) l.entries a

  -- an item whose name is listed stands
  item_stands : (it : Item) (name : Name) → Among name names → IsAt (file_in folder_ name) it → HadItem m room it
  item_stands it name a at =
      let f = file_there name a in
      had_item m s room it l.room f.0 l.has_room (record { is_item = at.is_item; there = subst (λ p. file_at l.room p ≡ Some f.0) at.printed f.1 })

  known : (name : Name) → Among name names → IsKnown m s room k name
  known name a =
      let f = name_is_item m s room folder_ names c l (not_top k) name a in
      let it : Item = f.1.item in
      let is : hostdir_item (file_in folder_ name) ≡ Some it = hostdir_item-here (file_in folder_ name) it (hostdir_known it k (sym (ap (λ (p : Path). p.folder) f.1.is_at.printed))) f.1.is_at in
      (it, is, item_stands it name a f.1.is_at)

  -- what was found in other folders has none of its names
  elsewhere_named : (host : ℕ) (kind : Item) (name : Name) → (path_of kind).folder ≡ hostdir_of host → (host % 32 ≡ k → ⊥) → IsAt (file_in folder_ name) kind → ⊥
  elsewhere_named host kind name folder other at = other (host_of_folder k host small (ap (λ (p : Path). p.folder) at.printed ∙ folder))

  -- The folder's names show no damage.
  pub folder_scans : (top : List Name) (ks : List ℕ) (covers : List Cover) (scan : Scan) → IsScanned m room top (k ∷ ks) covers scan → (new : Scan) × (scanned folder_ names scan ≡ Ok new)
  folder_scans top ks covers scan h =
      let t = all_taken_so m s room k names scan (ordered_differ names l.entries.ordered) known
      (All-weaker (IsFound m room (k ∷ ks)) (IsBefore m s room k (λ x w. item.Index x w) names) scan.indices (λ o f. (f.0, λ name a at. elsewhere_named o.host (item.Index o.host o.writer) name refl (λ e. f.1 (inl e)) at)) h.indices)
      (All-weaker (IsFoundPack m room (k ∷ ks) scan.indices) (IsBefore m s room k (λ x w. item.Packed x w) names) scan.packs (λ o f. (f.0, λ name a at. elsewhere_named o.host (item.Packed o.host o.writer) name refl (λ e. f.1 (inl e)) at)) h.packs) in
      (t.0, ap (λ o. unless_foreign folder_ o (taken_all folder_ names scan)) (none_foreign folder_ names (λ name a. (let i = known name a in (i.0, i.1)))) ∙ t.1)

  module _ (scan new : Scan) (t : HasTaken room k names scan new) where
    same_owner : (a b : Owner) → dropping room a ≡ dropping room b → a ≡ b
    same_owner a b e = let host : a.host ≡ b.host = ap (λ (d : Dropping). d.host) e in let writer : a.writer ≡ b.writer = ap (λ (d : Dropping). d.writer) e in (λ i. owner (host i) (writer i))

    -- an index dropping that stands in the folder was found
    finds : (host writer : ℕ) → host % 32 ≡ k → HadItem m room (item.Index host writer) → Among (owner host writer) new.indices
    finds host writer number had =
        let d : Dropping = record { room = room; host = host; writer = writer } in
        let x : HasIt m s room (item.Index host writer) = has_item m s room (item.Index host writer) had in
        let path : Path = index_path host writer in
        let same : x.room ≡ l.room = one x.room l.room (slice_get s.shape.tree.rooms room) x.there l.has_room in
        let at : file_at l.room (file_of folder_ path.file) ≡ Some x.bytes = subst (λ f. file_at l.room (record { folder = f; file = path.file }) ≡ Some x.bytes) (its_hostdir host k number) (subst (λ r. file_at r path ≡ Some x.bytes) same x.has.there) in
        let found : Among d t.ds = named_dropping room k names t.ds path.file d t.are (file_named l.room folder_ path.file names x.bytes l.entries at) (index_name room k d had.is_item refl number) in
        let its = All-Among (λ (e : Dropping). (o : Owner) × Among o new.indices × (dropping room o ≡ e)) t.ds d t.goes.found found in
        subst (λ o. Among o new.indices) (same_owner its.0 (owner host writer) its.2) its.1
      where
        one : (a b : Room) (o : Option Room) → o ≡ Some a → o ≡ Some b → a ≡ b
        one a b o p q = cc

    -- a dropping that was found stands in the folder
    stands_there : (o : Owner) → Among (dropping room o) t.ds → HadItem m room (item.Index o.host o.writer) × (o.host % 32 ≡ k)
    stands_there o a =
        let n = All-Among _ t.ds (dropping room o) (all_named room k names t.ds t.are) a in
        let i : IsIndexName room k n.0 (dropping room o) = n.2 in
        (item_stands (item.Index o.host o.writer) n.0 n.1 i.named, i.folder)

    -- so does a packed index, with its index dropping
    pack_there : (o : Owner) → NameOwner folder_ names o → HadItem m room (item.Packed o.host o.writer) × (o.host % 32 ≡ k)
    pack_there o (name, a, at) = (item_stands (item.Packed o.host o.writer) name a at, host_of_folder k o.host small (ap (λ (p : Path). p.folder) at.printed))

    not_left : (ks : List ℕ) (host : ℕ) → (Among k ks → ⊥) → host % 32 ≡ k → Among (host % 32) ks → ⊥
    not_left ks host once number a = once (subst (λ n. Among n ks) number a)

    -- What was scanned with this folder.
    pub scanned_on : (top : List Name) (ks : List ℕ) (covers : List Cover) → (Among k ks → ⊥) → IsScanned m room top (k ∷ ks) covers scan → IsScanned m room top ks covers new
    scanned_on top ks covers once h = record {
      indices = each (IsFound m room ks) new.indices (λ o a. index_found o (All-Among (λ (p : Owner). Among p scan.indices ⊎ Among (dropping room p) t.ds) new.indices o t.goes.from a));
      packs = each (IsFoundPack m room ks new.indices) new.packs (λ o a. pack_found o (t.packs.from o a));
      covers_met = All-weaker (IsMet m room top (k ∷ ks) scan.indices) (IsMet m room top ks new.indices) covers (λ x i. record { host = i.host; stands = i.stands; met = met i.host x i.stands i.met }) h.covers_met;
    }
      where
        each : {X : Type 0} (P : X → Type 0) (xs : List X) → ((x : X) → Among x xs → P x) → AllByRecursion P xs
        each P [] f = tt
        each P (x ∷ xs) f = (f x (inl refl), each P xs (λ y a. f y (inr a)))

        index_found : (o : Owner) → Among o scan.indices ⊎ Among (dropping room o) t.ds → IsFound m room ks o
        index_found o (inl old) = let f = All-Among (IsFound m room (k ∷ ks)) scan.indices o h.indices old in (f.0, λ a. f.1 (inr a))
        index_found o (inr now) = let f = stands_there o now in (f.0, not_left ks o.host once f.1)

        pack_found : (o : Owner) → Among o scan.packs ⊎ NameOwner folder_ names o → IsFoundPack m room ks new.indices o
        pack_found o (inl old) = let f = All-Among (IsFoundPack m room (k ∷ ks) scan.indices) scan.packs o h.packs old in (f.0, (λ a. f.1 (inr a)), t.goes.kept o f.2)
        pack_found o (inr now) = let f = pack_there o now in (f.0, not_left ks o.host once f.1, finds o.host o.writer f.1 (pack_has_index m s room o.host o.writer f.0))

        met : (host : ℕ) (x : Cover) → HadItem m room (item.Index host x.writer) → Among (owner host x.writer) scan.indices ⊎ (Among (host % 32) (k ∷ ks) × (has_name (hostdir_of host) top ≡ true)) → Among (owner host x.writer) new.indices ⊎ (Among (host % 32) ks × (has_name (hostdir_of host) top ≡ true))
        met host x stands (inl old) = inl (t.goes.kept (owner host x.writer) old)
        met host x stands (inr (inl here, named)) = inl (finds host x.writer here stands)
        met host x stands (inr (inr later, named)) = inr (later, named)

-- ---- all folders

same : (a b : ℕ) → a ≡ b → nat_eq a b ≡ true
same a b e = grind (arith, nat_tests)

module _ (m : Moment) (s : IsSoundAt m) (room : ℕ) (top : List Name) where
  all_covered : (indices : List Owner) (index : ℕ) (covers : List Cover) → AllByRecursion (IsMet m room top [] indices) covers → uncovered indices index covers ≡ None
  all_covered indices index [] met = refl
  all_covered indices index (c ∷ covers) met =
      cond-true (has_writer c.writer indices) (uncovered indices (index + 1) covers) (Some index) (has_its (owner met.0.host c.writer) indices (there met.0.met)) ∙ all_covered indices (index + 1) covers met.1
    where
      there : {A B : Type 0} → A ⊎ (⊥ × B) → A
      there (inl a) = a
      there (inr b) = absurd b.0

  none_lone : (indices packs : List Owner) → AllByRecursion (IsFound m room []) indices → AllByRecursion (IsFoundPack m room [] indices) packs → lone_pack indices packs ≡ None
  none_lone indices [] all found = refl
  none_lone indices (o ∷ packs) all found =
      let p : HasOwner o.writer indices = owner_there o.writer indices (has_its o indices found.0.2) in
      let its = All-Among (IsFound m room []) indices p.o all p.its in
      let mine = All-Among (IsFound m room []) indices o all found.0.2 in
      let host : p.o.host ≡ o.host = one_index_host m s room p.o.host o.host o.writer (subst (λ w. HadItem m room (item.Index p.o.host w)) p.is its.0) mine.0 in
      cond-true (has_owner o indices) (lone_pack indices packs) (Some o) (ap (is_of_host o.host) p.found ∙ same p.o.host o.host host) ∙ none_lone indices packs all found.1

  -- What was scanned whole is listed without damage.
  pub listed_well : (id : ℕ) (flat : Flat) (scan : Scan) → IsScanned m room top [] flat.covers scan → listed room id flat scan ≡ Ok (listing_of room flat scan)
  listed_well id flat scan h =
      let told_ : Result Listing Stuck = Ok (listing_of room flat scan) in
      ap (λ o. unless_uncovered id o (unless_lone (lone_pack scan.indices scan.packs) told_)) (all_covered scan.indices 0 flat.covers h.covers_met)
      ∙ ap (λ o. unless_lone o told_) (none_lone scan.indices scan.packs h.indices h.packs)
