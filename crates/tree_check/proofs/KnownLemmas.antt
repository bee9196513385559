-- What is shown of the items of a container.
use Rattle.std.proofs.Common.{◌≡◌, ℕ, suc, ◌+◌, ◌≤◌, ◌⊎◌, inl, inr, true, false, List, [], length, take, Option, Some, None, Result, Ok, Err, refl, ap, sym, ◌∙◌, subst, arith}
use Rattle.std.specs.Prelude.{slice_get, IfErr, OnOk}
use Rattle.std.specs.BTreeMap.{BTreeMap, get}
use Rattle.std.specs.Ordering.{nat_cmp}
use Rattle.std.proofs.lemmas.Bool.{false≢true}
use Rattle.std.proofs.lemmas.List.{take_all}
use Rattle.plfs_types.specs.declared.entries.Trunc.{Trunc}
use Rattle.plfs_types.specs.declared.names.Path.{Path}
use Rattle.container_layout.specs.declared.items.Item.{Item}
use Rattle.container_layout.specs.declared.items.Item.TheVariants as item
use Rattle.container_layout.specs.Paths.{IsAt}
use Rattle.container_layout.proofs.Facts.{one_item}
use Rattle.store_api.specs.declared.tree.Room.{Room}
use Rattle.store_api.specs.declared.tree.Tree.{Tree}
use Rattle.store_api.specs.Acts.{Stored}
use Rattle.store_laws.specs.Files.{file_at}
use Rattle.mount_model.specs.Paths.{index_path}
use Rattle.mount_sound.specs.Items.{HasItem, HasMeta, HasItemOf}
use Rattle.shape_check.specs.declared.files.Place.{Place}
use Rattle.shape_check.specs.declared.finding.Complaint.{Complaint}
use Rattle.shape_check.specs.declared.finding.Finding.{Finding}
use Rattle.shape_check.specs.declared.finding.Finding.TheVariants.{Broken, Fault, NoMemory, Untold}
use Rattle.shape_check.specs.Files.{IsPlaced, OfPlace}
use Rattle.shape_check.specs.Rightness.{Fails, IsFoundIn, IsRight}
use Rattle.shape_check.specs.Seeing.{IsLookedAt, IsSeen}
use Rattle.shape_check.specs.Shape.{IsOneOf}
use Rattle.shape_check.proofs.Facts.{found_by, no_memory, risen_on, seen_on}
use Rattle.tree_check.specs.declared.droppings.Dropping.{Dropping}
use Rattle.tree_check.specs.declared.owners.Owner.{Owner}
use Rattle.tree_check.specs.Complaining.{HasNoted, IsRightOfItem, TellsOfItems}
use Rattle.tree_check.specs.Concerning.{IsOfFile, IsOfFlat, IsOfItem, IsOfItemAt}
use Rattle.tree_check.specs.Droppings.{IsDroppingOf, landed_of, AreBesideAll, IsBetween}
use Rattle.tree_check.specs.Indices.{FindsOwned, IsOwnedAt, OfOwnedAt}
use Rattle.tree_check.specs.Known.{FindsAt, IsRightItem, IsRightAt, IsAtWork, OfWork, IsKnownAt, OfKnownAt, IsKnownAll, OfKnownAll, IsOpenAt, IsOpenEntry}
use Rattle.tree_check.specs.Owners.{AreOwnersOf, left_before}
use Rattle.tree_check.proofs.EachLemmas.{each_fine, each_wrong}
use Rattle.tree_check.proofs.OwnerLemmas.{path_there}
use Rattle.tree_check.proofs.WriterLemmas.{between_fails, fine_of, landed_number}

-- ---- what is known of less

module _ (place : Place) (owners : BTreeMap ℕ Owner) (truncs : List Trunc) (path : Path) where
  as_owned : (tree : Tree) → IsKnownAt place owners truncs path tree → IsOwnedAt place owners path tree
  as_owned tree known = record { owned = record { placed = known.at.placed; owners_are = known.owners_are }; bytes = known.at.bytes; there = known.at.there }

  pub work_known : (Q : Tree → Room → Type 0) (old : Stored) (result : Result Unit Finding) → OnOk result (OfWork Q place truncs path old) → OnOk result (OfKnownAt Q place owners truncs path old)
  work_known Q old (Err finding) q = tt
  work_known Q old (Ok done) q = λ tree seen known. q tree seen known.at

  pub work_fails : (old new : Stored) (result : Result Unit Finding) → IfErr result (Fails (IsAtWork place truncs path) old new) → IfErr result (Fails (IsKnownAt place owners truncs path) old new)
  work_fails old new (Ok done) f = tt
  work_fails old new (Err finding) f = record { cause = f.cause; right = λ tree seen known. f.right tree seen known.at }

  pub owned_known : (Q : Tree → Room → Type 0) (old : Stored) (result : Result Unit Finding) → OnOk result (OfOwnedAt Q place owners path old) → OnOk result (OfKnownAt Q place owners truncs path old)
  unfolding as_owned
  owned_known Q old (Err finding) q = tt
  owned_known Q old (Ok done) q = λ tree seen known. q tree seen (as_owned tree known)

  pub owned_fails : (old new : Stored) (result : Result Unit Finding) → IfErr result (Fails (IsOwnedAt place owners path) old new) → IfErr result (Fails (IsKnownAt place owners truncs path) old new)
  owned_fails old new (Ok done) f = tt
  owned_fails old new (Err finding) f = record { cause = f.cause; right = λ tree seen known. f.right tree seen (as_owned tree known) }

  pub placed_fails : (old new : Stored) (finding : Finding) → Fails (IsPlaced place) old new finding → Fails (IsKnownAt place owners truncs path) old new finding
  placed_fails old new finding f = record { cause = f.cause; right = λ tree seen known. f.right tree seen known.at.placed }

  -- what is found of it is found of its item
  pub found_known : (P : Complaint → Type 0) (R : Room → Complaint → Type 0) (old : Stored) (result : Result Unit Finding) → ((room : Room) (complaint : Complaint) → P complaint → R room complaint) → IfErr result (IsFoundIn place.name P)
      → IfErr result (FindsAt R place owners truncs path old)
  found_known P R old (Ok done) gives found = tt
  found_known P R old (Err finding) gives found = λ tree seen known. found_by place.name P (R known.at.placed.room) (gives known.at.placed.room) finding found

  pub flat_known : (id : ℕ) (old : Stored) (result : Result Unit Finding) → IfErr result (FindsOwned (IsOfFlat path) place owners path old) → IfErr result (FindsAt (IsOfItem path (item.Flat id)) place owners truncs path old)
  unfolding as_owned
  flat_known id old (Ok done) found = tt
  flat_known id old (Err finding) found = λ tree seen known.
      found_by place.name (IsOfFlat path known.at.placed.room) (IsOfItem path (item.Flat id) known.at.placed.room) (λ complaint of. of) finding (found tree seen (as_owned tree known))

  -- ---- the item at a path

  pub found_at : (it : Item) (old : Stored) (result : Result Unit Finding) → IsAt path it → IfErr result (FindsAt (IsOfItem path it) place owners truncs path old) → IfErr result (FindsAt (IsOfItemAt path) place owners truncs path old)
  found_at it old (Ok done) at found = tt
  found_at it old (Err finding) at found = λ tree seen known.
      found_by place.name (IsOfItem path it known.at.placed.room) (IsOfItemAt path known.at.placed.room) (λ complaint of. (it, at, of)) finding (found tree seen known)

  pub right_at : (it : Item) (old : Stored) (result : Result Unit Finding) → IsAt path it → OnOk result (OfKnownAt (IsRightItem it) place owners truncs path old) → OnOk result (OfKnownAt (IsRightAt path) place owners truncs path old)
  right_at it old (Err finding) at q = tt
  right_at it old (Ok done) at q = λ tree seen known other also. subst (λ (i : Item). IsRightItem i tree known.at.placed.room) (one_item path it other at also) (q tree seen known)

  pub right_none : (old : Stored) → ((it : Item) → IsAt path it → None ≡ Some it) → OfKnownAt (IsRightAt path) place owners truncs path old
  right_none old none = λ tree seen known it at. (let clash : None ≡ Some it = none it at in absurd (cc))

  -- ---- the index dropping of a writer

  module _ (host writer : ℕ) (is_index : IsAt path (item.Index host writer)) where
    its_index : (tree : Tree) (known : IsKnownAt place owners truncs path tree) → HasItem known.at.placed.room (item.Index host writer) known.at.bytes
    its_index tree known = record { is_item = is_index.is_item; there = ap (file_at known.at.placed.room) (sym is_index.printed) ∙ known.at.there }

    left_meta : (room : Room) (found : Option Owner) → get nat_cmp owners writer ≡ found → left_before found ≡ true → AreOwnersOf owners room → HasItemOf room host writer → HasMeta room host writer
    left_meta room None e l are has = absurd (false≢true l)
    left_meta room (Some found) e l are has =
        let known = are.known host writer has in
        let one : Some found ≡ Some known.0 = sym e ∙ known.1 in
        let same : found ≡ known.0 = cc in
        subst (λ (h : ℕ). HasMeta room h writer) (ap (λ (o : Owner). o.host) same ∙ known.2) (are.left writer found e l)

    pub index_left : (old : Stored) → left_before (get nat_cmp owners writer) ≡ true → OfKnownAt (IsRightItem (item.Index host writer)) place owners truncs path old
    index_left old l = λ tree seen known stays. absurd (stays (left_meta known.at.placed.room (get nat_cmp owners writer) refl l known.owners_are (inl (known.at.bytes, its_index tree known))))

    stays_open : (room : Room) → AreOwnersOf owners room → left_before (get nat_cmp owners writer) ≡ false → HasMeta room host writer → ⊥
    stays_open room are l meta =
        let gone = are.gone host writer meta in
        false≢true (sym l ∙ ap left_before gone.1 ∙ gone.3)

    -- what is found of the dropping of one that hasn't left
    pub index_found : (old : Stored) (result : Result Unit Finding) → left_before (get nat_cmp owners writer) ≡ false → IfErr result (IsFoundIn place.name (IsOfFile (index_path host writer)))
        → IfErr result (FindsAt (IsOfItem path (item.Index host writer)) place owners truncs path old)
    index_found old (Ok done) l found = tt
    index_found old (Err finding) l found = λ tree seen known.
        found_by place.name (IsOfFile (index_path host writer)) (IsOfItem path (item.Index host writer) known.at.placed.room)
        (λ complaint of. (of ∙ ap Some (sym is_index.printed), stays_open known.at.placed.room known.owners_are l)) finding found

    module _ (dropping : Dropping) where
      pub accounted_fails : (old mid new : Stored) (result : Result Unit Finding) → left_before (get nat_cmp owners writer) ≡ false → IsLookedAt old mid → OfPlace (IsDroppingOf host writer dropping) place old
          → IfErr result (Fails (IsOpenAt place host writer dropping.landed) mid new) → IfErr result (Fails (IsKnownAt place owners truncs path) old new)
      accounted_fails old mid new (Ok done) l looked is f = tt
      accounted_fails old mid new (Err finding) l looked is f = record {
        cause = λ e. risen_on old.faults mid.faults new.faults looked.counted (f.cause e);
        right = λ tree seen known. f.right tree (seen_on old mid tree looked seen) (record {
          placed = known.at.placed;
          bytes = known.at.bytes;
          has = its_index tree known;
          landed_are = landed_number host writer dropping tree known.at.placed.room (is tree seen known.at.placed);
          stays = stays_open known.at.placed.room known.owners_are l;
        });
      }

      pub beside_fails : (old new : Stored) (result : Result Unit Finding) → OfPlace (IsDroppingOf host writer dropping) place old → IfErr result (IsBetween place.name host writer (landed_of dropping) truncs)
          → IfErr result (Fails (IsKnownAt place owners truncs path) old new)
      beside_fails old new result is wrong =
          between_fails (IsKnownAt place owners truncs path) place host writer dropping truncs old new result is_index.is_item.widths.0 is_index.is_item.widths.1 (λ tree known. (known.at.placed, known.at.truncs_are)) is wrong

      pub index_so : (old mid : Stored) (result : Result Unit Finding) → IsLookedAt old mid → OfPlace (IsDroppingOf host writer dropping) place old → OfPlace (IsOpenEntry host writer dropping.landed) place mid
          → OnOk result (AreBesideAll truncs (landed_of dropping)) → OnOk result (OfKnownAt (IsRightItem (item.Index host writer)) place owners truncs path old)
      index_so old mid (Err finding) looked is accounted beside = tt
      index_so old mid (Ok done) looked is accounted beside = λ tree seen known stays. (
          let d : IsDroppingOf host writer dropping tree known.at.placed.room = is tree seen known.at.placed in
          record {
            fine = fine_of host writer dropping truncs tree known.at.placed.room d known.at.truncs_are beside;
            accounted = λ gone some. accounted tree (seen_on old mid tree looked seen) known.at.placed gone (omega (arith, some, landed_number host writer dropping tree known.at.placed.room d));
          })

-- ---- one item after the other

module _ (place : Place) (owners : BTreeMap ℕ Owner) (truncs : List Trunc) (paths : List Path) where
  at_path : (path : Path) (tree : Tree) → IsKnownAll place owners truncs paths tree → IsOneOf paths path → IsKnownAt place owners truncs path tree
  at_path path tree known one = (let file = known.files path one in
      record { at = record { placed = known.placed; bytes = file.0; there = file.1; truncs_are = known.truncs_are }; owners_are = known.owners_are })

  pub items_none : (old : Stored) → OfKnownAll (TellsOfItems (take 0 paths) []) place owners truncs paths old
  items_none old = λ tree seen known. tt

  so_far : (i : ℕ) (found : List Complaint) (tree : Tree) (room : Room) → TellsOfItems (take (suc i) paths) found tree room → TellsOfItems (take (i + 1) paths) found tree room
  so_far i found tree room told = (let next : suc i ≡ i + 1 = omega arith in subst (λ (n : ℕ). TellsOfItems (take n paths) found tree room) next told)

  -- what is found of the item at a path is right, and of this item
  wrong_item : (path : Path) (mid : Stored) (complaint : Complaint) (tree : Tree) → IsSeen mid tree → (known : IsKnownAll place owners truncs paths tree) → IsOneOf paths path
      → ((tree : Tree) → IsSeen mid tree → IsKnownAt place owners truncs path tree → IsRight tree (Broken complaint)) → FindsAt (IsOfItemAt path) place owners truncs path mid (Broken complaint) → IsRightOfItem tree known.placed.room path complaint
  unfolding at_path
  wrong_item path mid complaint tree seen known one right named =
      ((right tree seen (at_path path tree known one), (named tree seen (at_path path tree known one)).0 ∙ sym known.placed.named), (named tree seen (at_path path tree known one)).1)

  pub items_more : (i : ℕ) (path : Path) (old mid new : Stored) (told : Result Unit Finding) (found more : List Complaint) → slice_get paths i ≡ Some path → IsLookedAt old mid
      → OfKnownAll (TellsOfItems (take i paths) found) place owners truncs paths old → OnOk told (OfKnownAt (IsRightAt path) place owners truncs path mid) → IfErr told (Fails (IsKnownAt place owners truncs path) mid new)
      → IfErr told (FindsAt (IsOfItemAt path) place owners truncs path mid) → HasNoted told found more → OfKnownAll (TellsOfItems (take (i + 1) paths) more) place owners truncs paths old
  unfolding at_path
  items_more i path old mid new (Ok done) found more at looked before fine wrong named noted = λ tree seen known. so_far i more tree known.placed.room
      (subst (λ (l : List Complaint). TellsOfItems (take (suc i) paths) l tree known.placed.room) (sym noted)
      (each_fine (IsRightOfItem tree known.placed.room) (λ (p : Path). IsRightAt p tree known.placed.room) paths i path found at (fine tree (seen_on old mid tree looked seen) (at_path path tree known (path_there paths i path at))) (before tree seen known)))
  items_more i path old mid new (Err (Broken complaint)) found more at looked before fine wrong named noted = λ tree seen known. so_far i more tree known.placed.room
      (subst (λ (l : List Complaint). TellsOfItems (take (suc i) paths) l tree known.placed.room) (sym noted)
      (each_wrong (IsRightOfItem tree known.placed.room) (λ (p : Path). IsRightAt p tree known.placed.room) paths i path found complaint at (wrong_item path mid complaint tree (seen_on old mid tree looked seen) known (path_there paths i path at) wrong.right named) (before tree seen known)))
  items_more i path old mid new (Err Fault) found more at looked before fine wrong named noted = absurd noted
  items_more i path old mid new (Err NoMemory) found more at looked before fine wrong named noted = absurd noted
  items_more i path old mid new (Err Untold) found more at looked before fine wrong named noted = absurd noted

  pub items_all : (i : ℕ) (found : List Complaint) (old : Stored) → length paths ≤ i → OfKnownAll (TellsOfItems (take i paths) found) place owners truncs paths old → OfKnownAll (TellsOfItems paths found) place owners truncs paths old
  items_all i found old past told = subst (λ (l : List Path). OfKnownAll (TellsOfItems l found) place owners truncs paths old) (take_all i paths past) told

  pub noted_fails : (path : Path) (mid new : Stored) (told result : Result Unit Finding) → IfErr told (Fails (IsKnownAt place owners truncs path) mid new) → IfErr result (λ finding. (finding ≡ NoMemory) ⊎ (told ≡ Err finding))
      → IfErr result (Fails (IsKnownAt place owners truncs path) mid new)
  noted_fails path mid new told (Ok done) wrong why = tt
  noted_fails path mid new told (Err finding) wrong (inl none) = no_memory (IsKnownAt place owners truncs path) mid new finding none
  noted_fails path mid new told (Err finding) wrong (inr same) = subst (λ (r : Result Unit Finding). IfErr r (Fails (IsKnownAt place owners truncs path) mid new)) same wrong

  pub item_fails_all : {A : Type 0} (i : ℕ) (path : Path) (old mid new : Stored) (result : Result A Finding) → slice_get paths i ≡ Some path → IsLookedAt old mid → IfErr result (Fails (IsKnownAt place owners truncs path) mid new)
      → IfErr result (Fails (IsKnownAll place owners truncs paths) old new)
  item_fails_all i path old mid new (Ok done) at looked f = tt
  item_fails_all i path old mid new (Err finding) at looked f = record {
    cause = λ e. risen_on old.faults mid.faults new.faults looked.counted (f.cause e);
    right = λ tree seen known. f.right tree (seen_on old mid tree looked seen) (at_path path tree known (path_there paths i path at));
  }
