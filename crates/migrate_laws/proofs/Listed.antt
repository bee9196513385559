-- A packed index that the listings of a container's folders show stands.
use Rattle.std.proofs.Common.{◌≡◌, ◌==◌, ℕ, nat_lt, suc, nat_eq, Bool, true, false, ◌||◌, List, [], ◌∷◌, Option, Some, None, refl, ap, sym, ◌∙◌, ◌⊎◌, inl, inr, subst, arith}
use Rattle.std.specs.Prelude.{◌&&◌, if◌then◌else◌, is_some, map, Result, Ok, Err, slice_get}
use Rattle.std.proofs.lemmas.Bool.Decides.{nat_tests}
use Rattle.plfs_types.specs.declared.names.Path.{Path}
use Rattle.container_layout.specs.declared.items.Item.{Item}
use Rattle.container_layout.specs.declared.items.Item.TheVariants as item
use Rattle.container_layout.specs.Paths.{IsAt, hostdir_of}
use Rattle.store_api.specs.declared.step.Answer.TheVariants.{Names}
use Rattle.store_api.specs.declared.tree.Room.{Room}
use Rattle.store_api.specs.declared.tree.Tree.{Tree}
use Rattle.store_api.specs.Names.{same_name}
use Rattle.store_api.specs.Room.{is_top}
use Rattle.store_laws.specs.Differ.{is_listed}
use Rattle.store_laws.specs.Files.{file_at}
use Rattle.store_laws.specs.There.{ListsFolder}
use Rattle.store_laws.proofs.Facts.{name_refl}
use Rattle.mount_model.specs.declared.stuck.Stuck.{Stuck}
use Rattle.mount_model.specs.Running.{unbroken}
use Rattle.mount_model.specs.FlowReplies.{Tries, damage, given, names_in, on_ok, trouble}
use Rattle.mount_model.specs.FlowListed.{file_in}
use Rattle.mount_model.specs.Program.{done}
use Rattle.mount_model.specs.declared.call.Call.TheVariants.{Look}
use Rattle.mount_model.specs.declared.call.Look.TheVariants.{List as ListFolder}
use Rattle.mount_model.specs.declared.reply.Reply.{Reply}
use Rattle.mount_model.specs.declared.reply.Reply.TheVariants.{Looked}
use Rattle.mount_model.specs.Paths.{Name}
use Rattle.mount_model.specs.State.{State}
use Rattle.mount_model.specs.Step.{IsStep}
use Rattle.mount_sound.specs.Items.{HasItem}
use Rattle.mount_sound.specs.Ledger.{Ledger}
use Rattle.mount_sound.specs.Owed.{May, StandsInRoom}
use Rattle.mount_sound.specs.Sound.{IsSoundFor}
use Rattle.mount_sound.proofs.Facts.{item_later, one_tree}
use Rattle.recovery_laws.proofs.Holds.Facts.{folder_listed}
use Rattle.recovery_laws.proofs.Facts.{Stays}
use Rattle.index_reader.specs.declared.listing.Dropping.{Dropping}
use Rattle.index_reader.specs.declared.listing.Listing.{Listing}
use Rattle.index_reader.specs.declared.scanning.Scan.{Scan}
use Rattle.index_reader.specs.Found.{item_of}
use Rattle.index_reader.specs.Items.{hostdir_item}
use Rattle.index_reader.specs.Opening.{dropping_of, listing_of, lone_pack, no_flat, scans, unless_lone}
use Rattle.index_reader.specs.Scanning.{foreign_in, has_writer, nothing_found, owner, placed, scanned, taken, taken_all, unless_foreign}
use Rattle.index_reader.proofs.Facts.{hostdir_item-at}
use Rattle.migrate_core.specs.Chosen.{is_packed}
use Rattle.migrate_laws.proofs.Ends.{Ends, ends_ask, ends_done}

-- ---- writers that are among those found

abbrev item_type : {A : Type 0} → List A → Type 0
item_type {A} items = A

-- a writer that was found, with its host
abbrev pub Owner : Type 0
Owner = item_type nothing_found.indices

-- a test that holds of the first or of the others
by_first : (w x : ℕ) (found rest : Option Owner) → is_some found ≡ true → is_some (if w == x then found else rest) ≡ true → (w ≡ x) ⊎ (is_some rest ≡ true)
by_first w x found rest is h = elim (w == x) as (λ b. (w == x) ≡ b → is_some (if b then found else rest) ≡ true → (w ≡ x) ⊎ (is_some rest ≡ true)) [
  | true ↦ λ e on. (let same : w ≡ x = grind (arith, nat_tests, e) in inl same)
  | false ↦ λ e on. inr on
] refl h

if_behind : (b : Bool) (found rest : Option Owner) → is_some found ≡ true → is_some rest ≡ true → is_some (if b then found else rest) ≡ true
if_behind true found rest is on = is
if_behind false found rest is on = on

pub has_first : (x : ℕ) (o : Owner) (owners : List Owner) → has_writer x (o ∷ owners) ≡ true → (o.writer ≡ x) ⊎ (has_writer x owners ≡ true)
has_first x o owners h = by_first o.writer x (Some o) _ refl h

pub has_behind : (x : ℕ) (o : Owner) (owners : List Owner) → has_writer x owners ≡ true → has_writer x (o ∷ owners) ≡ true
has_behind x o owners h = if_behind (o.writer == x) (Some o) _ refl h

if_first : (b : Bool) (found rest : Option Owner) → b ≡ true → is_some found ≡ true → is_some (if b then found else rest) ≡ true
if_first true found rest e is = is
if_first false found rest e is = absurd (let clash : false ≡ true = e in cc)

pub has_here : (x : ℕ) (o : Owner) (owners : List Owner) → o.writer ≡ x → has_writer x (o ∷ owners) ≡ true
has_here x o owners same = let is : (o.writer == x) ≡ true = grind (arith, nat_tests, same) in if_first (o.writer == x) (Some o) _ is refl

placed_behind : (x : ℕ) (o p : Owner) (owners : List Owner) → (has_writer x (placed o owners) ≡ true → (o.writer ≡ x) ⊎ (has_writer x owners ≡ true)) → (p.writer ≡ x) ⊎ (has_writer x (placed o owners) ≡ true) → (o.writer ≡ x) ⊎ (has_writer x (p ∷ owners) ≡ true)
placed_behind x o p owners again (inl same) = inr (has_here x p owners same)
placed_behind x o p owners again (inr on) = elim (again on) [
  | inl same ↦ inl same
  | inr was ↦ inr (has_behind x p owners was)
]

-- one more is that one, or was there
has_placed : (x : ℕ) (o : Owner) (owners : List Owner) → has_writer x (placed o owners) ≡ true → (o.writer ≡ x) ⊎ (has_writer x owners ≡ true)
has_placed x o [] h = has_first x o [] h
has_placed x o (p ∷ owners) h = elim (nat_lt o.writer p.writer) as (λ b. has_writer x (if b then o ∷ p ∷ owners else p ∷ placed o owners) ≡ true → (o.writer ≡ x) ⊎ (has_writer x (p ∷ owners) ≡ true)) [
  | true ↦ λ on. has_first x o (p ∷ owners) on
  | false ↦ λ on. placed_behind x o p owners (has_placed x o owners) (has_first x p (placed o owners) on)
] h

-- a dropping that is packed is one of these packed indices
item_packed : (x : ℕ) (packs indices : List Owner) → is_packed (item_of (λ (d : Dropping). d.writer) x (map (dropping_of packs) indices)) ≡ true → has_writer x packs ≡ true
item_packed x packs [] h = absurd (let clash : false ≡ true = h in cc)
item_packed x packs (o ∷ indices) h = elim (o.writer == x) as (λ b. (o.writer == x) ≡ b → is_packed (if b then Some (dropping_of packs o) else item_of (λ (d : Dropping). d.writer) x (map (dropping_of packs) indices)) ≡ true → has_writer x packs ≡ true) [
  | true ↦ λ e on. (let same : o.writer ≡ x = grind (arith, nat_tests, e) in subst (λ n. has_writer n packs ≡ true) same on)
  | false ↦ λ e on. item_packed x packs indices on
] refl h

-- ---- the packed indices that were found stand

some_length : (n : ℕ) → nat_eq (suc n) 0 ≡ false
some_length n = grind (arith, nat_tests)

-- a folder of droppings isn't the top
pub not_top : (k : ℕ) → is_top (hostdir_of k) ≡ false
not_top k = some_length _

some_file : (o : Option (List ℕ)) (b c : Bool) → b ≡ false → (is_some o || (b && c)) ≡ true → (bytes : List ℕ) × (o ≡ Some bytes)
some_file (Some bytes) b c below e = (bytes, refl)
some_file None b c below e = absurd (let clash : false ≡ true = sym (ap (λ (x : Bool). x && c) below) ∙ e in cc)

module _ (number : ℕ) where
  -- a packed index of the writer stands
  abbrev pub PackStands : ℕ → State → Type 0
  PackStands writer state = (host : ℕ) × StandsInRoom state number (λ room. (bytes : List ℕ) × HasItem room (item.Packed host writer) bytes)

  pack_stays : (writer : ℕ) → Stays (PackStands writer)
  pack_stays writer l old new other asked reply may step s f = (f.0, item_later l old new other asked reply may step s (item.Packed f.0 writer) tt number f.1)

  abbrev ScanStands : Scan → State → Type 0
  ScanStands scan state = (writer : ℕ) → has_writer writer scan.packs ≡ true → PackStands writer state

  scan_stays : (scan : Scan) → Stays (ScanStands scan)
  scan_stays scan l old new other asked reply may step s f = λ writer is. pack_stays writer l old new other asked reply may step s (f writer is)

  abbrev pub ListingStands : List Dropping → State → Type 0
  ListingStands droppings state = (writer : ℕ) → is_packed (item_of (λ (d : Dropping). d.writer) writer droppings) ≡ true → PackStands writer state

  pub listing_stays : (droppings : List Dropping) → Stays (ListingStands droppings)
  listing_stays droppings l old new other asked reply may step s f = λ writer is. pack_stays writer l old new other asked reply may step s (f writer is)

  -- ---- one listing

  module _ (caller k : ℕ) (l : Ledger) (state : State) (s : IsSoundFor l state) (all : List Name) (after : State) (step : IsStep state caller (unbroken (Look number (ListFolder (hostdir_of k)))) (Looked (Names all)) after) where
    lists : ListsFolder s.shape.tree number (hostdir_of k) all
    lists = folder_listed state s.shape.tree caller number (hostdir_of k) all after s.shape.told step

    named_pack : (name : Name) → is_listed name all ≡ true → (host writer : ℕ) → hostdir_item (file_in (hostdir_of k) name) ≡ Some (item.Packed host writer) → PackStands writer state
    named_pack name there host writer is =
        let at : IsAt (file_in (hostdir_of k) name) (item.Packed host writer) = hostdir_item-at (file_in (hostdir_of k) name) (item.Packed host writer) is in
        let file = some_file (file_at lists.room (file_in (hostdir_of k) name)) (is_top (hostdir_of k)) (is_listed name lists.room.folders) (not_top k) (sym (lists.entries.exactly name) ∙ there) in
        let has : HasItem lists.room (item.Packed host writer) file.0 = record { is_item = at.is_item; there = ap (λ p. file_at lists.room p) (sym at.printed) ∙ file.1 } in
        (host, λ tree told. subst (λ (t : Tree). (room : Room) × (slice_get t.rooms number ≡ Some room) × ((bytes : List ℕ) × HasItem room (item.Packed host writer) bytes)) (one_tree s.shape.tree tree state.store.tree s.shape.told told) (lists.room, lists.has_room, (file.0, has)))

    -- it went on where that was no damage
    unless_ok : (b : Bool) (why : Stuck) (next : Result Scan Stuck) (more : Scan) → (if b then Err why else next) ≡ Ok more → next ≡ Ok more
    unless_ok true why next more e = absurd (let clash : Err why ≡ Ok more = e in cc)
    unless_ok false why next more e = e

    same_scan : (x y : Scan) → ◌≡◌ {A = Result Scan Stuck} (Ok x) (Ok y) → x ≡ y
    same_scan x y e = cc

    or_left : (x y : Bool) → x ≡ true → (x || y) ≡ true
    or_left true y e = refl
    or_left false y e = absurd (let clash : false ≡ true = e in cc)

    or_right : (x y : Bool) → y ≡ true → (x || y) ≡ true
    or_right true y e = refl
    or_right false y e = e

    module _ (name : Name) (names : List Name) (scan more : Scan) (within : (other : Name) → is_listed other (name ∷ names) ≡ true → is_listed other all ≡ true) (stand : ScanStands scan state)
        (again : (next : Scan) → ScanStands next state → taken_all (hostdir_of k) names next ≡ Ok more → ScanStands more state) where
      abbrev path : Path
      path = file_in (hostdir_of k) name

      one_more : (host writer : ℕ) → hostdir_item path ≡ Some (item.Packed host writer) → (x : ℕ) → has_writer x (placed (owner host writer) scan.packs) ≡ true → PackStands x state
      one_more host writer is x has = elim (has_placed x (owner host writer) scan.packs has) [
        | inl same ↦ subst (λ n. PackStands n state) same (named_pack name (within name (or_left (same_name name name) (is_listed name names) (name_refl name))) host writer is)
        | inr was ↦ stand x was
      ]

      by_item : (o : Option Item) → hostdir_item path ≡ o → taken path o scan (λ x. taken_all (hostdir_of k) names x) ≡ Ok more → ScanStands more state
      by_item (Some (item.Index host writer)) is h =
          again (record { indices = placed (owner host writer) scan.indices; packs = scan.packs }) stand
          (unless_ok (has_writer writer scan.indices) (damage path 0) _ more h)
      by_item (Some (item.Packed host writer)) is h =
          again (record { indices = scan.indices; packs = placed (owner host writer) scan.packs }) (one_more host writer is)
          (unless_ok (has_writer writer scan.packs) (damage path 0) _ more h)
      by_item other is h = again scan stand h

    all_stand : (names : List Name) (scan more : Scan) → ((name : Name) → is_listed name names ≡ true → is_listed name all ≡ true) → ScanStands scan state → taken_all (hostdir_of k) names scan ≡ Ok more → ScanStands more state
    all_stand [] scan more within stand e = subst (λ (x : Scan). ScanStands x state) (same_scan scan more e) stand
    all_stand (name ∷ names) scan more within stand e =
        by_item name names scan more within stand
        (λ next now on. all_stand names next more (λ other there. within other (or_right (same_name name other) (is_listed other names) there)) now on)
        (hostdir_item (file_in (hostdir_of k) name)) refl e

    pub scan_stands : (scan more : Scan) → ScanStands scan state → scanned (hostdir_of k) all scan ≡ Ok more → ScanStands more state
    scan_stands scan more stand e = by_foreign (foreign_in (hostdir_of k) all) e
      where
        by_foreign : (o : Option Name) → unless_foreign (hostdir_of k) o (taken_all (hostdir_of k) all scan) ≡ Ok more → ScanStands more state
        by_foreign None h = all_stand all scan more (λ name there. there) stand h
        by_foreign (Some name) h = absurd (let clash : Err (damage (file_in (hostdir_of k) name) 0) ≡ Ok more = h in cc)

  -- ---- all of them

  abbrev pub ScanEnds : Result Listing Stuck → State → Type 0
  ScanEnds (Ok listing) state = ListingStands listing.droppings state
  ScanEnds (Err why) state = Unit {0}

  pub of_names : (reply : Reply) (names : List Name) → names_in reply ≡ Some names → reply ≡ Looked (Names names)
  of_names (Looked (Names told)) names e = let same : told ≡ names = cc in ap (λ n. Looked (Names n)) same
  of_names reply names e = absurd cc

  module _ (caller : ℕ) where
    abbrev EndsScan : Tries Listing → State → Type 0
    EndsScan program state = Ends caller ScanEnds program state

    failed : (why : Stuck) (state : State) → EndsScan (done (Err why)) state
    failed why state = ends_done caller ScanEnds (Err why) (λ now. Unit {0}) (λ l old new other asked reply may step s f. tt) (λ l now s f. tt) state tt

    by_lone : (scan : Scan) (o : Option Owner) (state : State) → ScanStands scan state → EndsScan (done (unless_lone o (Ok (listing_of number no_flat scan)))) state
    by_lone scan None state stand = ends_done caller ScanEnds (Ok (listing_of number no_flat scan)) (ScanStands scan) (scan_stays scan) (λ l now s f. λ writer is. f writer (item_packed writer scan.packs scan.indices is)) state stand
    by_lone scan (Some o) state stand = failed _ state

    abbrev pub ScansEnd : List ℕ → Type 0
    ScansEnd ks = (scan : Scan) (state : State) → ScanStands scan state → EndsScan (scans number 0 no_flat ks scan) state

    one_scan : (k : ℕ) (ks : List ℕ) → ScansEnd ks → ScansEnd (k ∷ ks)
    one_scan k ks again scan = ends_ask caller ScanEnds (ScanStands scan) (λ l old new other asked reply differ may step s f. scan_stays scan l old new other asked reply may step s f) (Look number (ListFolder (hostdir_of k)))
        (λ reply. given (names_in reply) (trouble (file_in (hostdir_of k) []) reply) (λ names. on_ok (λ more. scans number 0 no_flat ks more) (scanned (hostdir_of k) names scan)))
        (λ l state reply after may step s f. by_names l state reply after may step s f (names_in reply) refl)
      where
        by_result : (l : Ledger) (state : State) (names : List Name) (after : State) → May state caller (unbroken (Look number (ListFolder (hostdir_of k)))) → IsStep state caller (unbroken (Look number (ListFolder (hostdir_of k)))) (Looked (Names names)) after → IsSoundFor l state → ScanStands scan state
            → (r : Result Scan Stuck) → scanned (hostdir_of k) names scan ≡ r → EndsScan (on_ok (λ more. scans number 0 no_flat ks more) r) after
        by_result l state names after may step s f (Err why) is = failed why after
        by_result l state names after may step s f (Ok more) is =
            again more after (scan_stays more l state after caller (unbroken (Look number (ListFolder (hostdir_of k)))) (Looked (Names names)) may step s (scan_stands caller k l state s names after step scan more f is))

        by_names : (l : Ledger) (state : State) (reply : Reply) (after : State) → May state caller (unbroken (Look number (ListFolder (hostdir_of k)))) → IsStep state caller (unbroken (Look number (ListFolder (hostdir_of k)))) reply after → IsSoundFor l state → ScanStands scan state
            → (o : Option (List Name)) → names_in reply ≡ o → EndsScan (given o (trouble (file_in (hostdir_of k) []) reply) (λ names. on_ok (λ more. scans number 0 no_flat ks more) (scanned (hostdir_of k) names scan))) after
        by_names l state reply after may step s f None is = failed (trouble (file_in (hostdir_of k) []) reply) after
        by_names l state reply after may step s f (Some names) is =
            by_result l state names after may (subst (λ r. IsStep state caller (unbroken (Look number (ListFolder (hostdir_of k)))) r after) (of_names reply names is) step) s f (scanned (hostdir_of k) names scan) refl

    pub scans_end : (ks : List ℕ) → ScansEnd ks
    scans_end [] scan state stand = by_lone scan (lone_pack scan.indices scan.packs) state stand
    scans_end (k ∷ ks) scan state stand = one_scan k ks (scans_end ks) scan state stand
