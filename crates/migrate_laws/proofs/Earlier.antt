-- A packed index that stood before a container was listed is found by its listings.
use Rattle.std.proofs.Common.{◌≡◌, ◌≤◌, ◌<◌, ◌+◌, ◌%◌, ◌==◌, ℕ, zero, suc, nat_lt, Bool, true, false, ◌||◌, List, [], ◌∷◌, ◌++◌, get_or, Option, Some, None, refl, ap, sym, ◌∙◌, ◌⊎◌, inl, inr, subst, arith}
use Rattle.std.specs.Prelude.{if◌then◌else◌, is_some, codes, map, Result, Ok, Err, slice_get}
use Rattle.std.specs.Fmt.{decimal}
use Rattle.std.specs.List.{range_with_len}
use Rattle.std.proofs.lemmas.Bool.{cases_eq}
use Rattle.std.proofs.lemmas.Bool.Decides.{nat_tests}
use Rattle.plfs_types.specs.declared.names.Path.{Path}
use Rattle.container_layout.specs.declared.items.Item.{Item}
use Rattle.container_layout.specs.declared.items.Item.TheVariants as item
use Rattle.container_layout.specs.Paths.{hostdir_of, path_of}
use Rattle.container_layout.proofs.Facts.{elsewhere}
use Rattle.store_api.specs.declared.step.Answer.TheVariants.{Names}
use Rattle.store_api.specs.declared.tree.Room.{Room}
use Rattle.store_api.specs.Names.{same_name}
use Rattle.store_api.specs.Room.{has_folder}
use Rattle.store_laws.specs.Differ.{is_listed}
use Rattle.store_laws.specs.Files.{file_at}
use Rattle.store_laws.specs.There.{ListsFolder}
use Rattle.store_laws.proofs.Facts.{name_eq}
use Rattle.mount_model.specs.declared.stuck.Stuck.{Stuck}
use Rattle.mount_model.specs.Running.{unbroken}
use Rattle.mount_model.specs.FlowReplies.{Tries, damage, given, names_in, on_ok, trouble}
use Rattle.mount_model.specs.FlowListed.{file_in}
use Rattle.mount_model.specs.Program.{done}
use Rattle.mount_model.specs.declared.call.Call.TheVariants.{Look}
use Rattle.mount_model.specs.declared.call.Look.TheVariants.{List as ListFolder, Top}
use Rattle.mount_model.specs.declared.reply.Reply.{Reply}
use Rattle.mount_model.specs.declared.reply.Reply.TheVariants.{Looked}
use Rattle.mount_model.specs.Paths.{Name, flats, metadata, truncs}
use Rattle.store_api.specs.Names.{marks_folder}
use Rattle.mount_model.specs.State.{State}
use Rattle.mount_model.specs.Step.{IsStep}
use Rattle.mount_sound.specs.Items.{HasItem}
use Rattle.mount_sound.specs.Ledger.{Ledger}
use Rattle.mount_sound.specs.Owed.{May, StandsInRoom}
use Rattle.mount_sound.specs.Sound.{IsSoundFor}
use Rattle.mount_sound.proofs.Facts.{item_later, some_room}
use Rattle.recovery_laws.proofs.Holds.Facts.{file_named, folder_listed}
use Rattle.recovery_laws.proofs.Facts.{Stays}
use Rattle.index_reader.specs.declared.listing.Dropping.{Dropping}
use Rattle.index_reader.specs.declared.listing.Listing.{Listing}
use Rattle.index_reader.specs.declared.scanning.Scan.{Scan}
use Rattle.index_reader.specs.Found.{item_of}
use Rattle.index_reader.specs.Items.{hostdir_item}
use Rattle.index_reader.specs.Opening.{dropping_of, has_owner, is_of_host, listing_of, lone_pack, no_flat, scans, unless_lone}
use Rattle.index_reader.specs.Scanning.{foreign_in, has_writer, owner, owner_of, placed, scanned, taken, taken_all, unless_foreign}
use Rattle.index_reader.specs.Searching.{has_name, same_bytes}
use Rattle.index_reader.specs.Tops.{access, foreign_at_top, required, shown, top_shows}
use Rattle.container_layout.specs.Paths.{hostdirs}
use Rattle.index_reader.proofs.Facts.{hostdir_item-here, same_bytes-itself}
use Rattle.migrate_core.specs.Chosen.{is_packed}
use Rattle.migrate_laws.specs.Closed.{IsPacked, WriterOf}
use Rattle.migrate_laws.proofs.Ends.{Ends, ends_ask, ends_done}
use Rattle.migrate_laws.proofs.Listed.{Owner, has_behind, has_first, has_here, not_top, of_names}

-- ---- the top shows its folder

-- one of them is this number
abbrev pub IsIn : ℕ → List ℕ → Type 0
IsIn k [] = ⊥
IsIn k (j ∷ ks) = (k ≡ j) ⊎ IsIn k ks

in_range : (from n k : ℕ) → from ≤ k → k < from + n → IsIn k (range_with_len from n)
in_range from zero k low high = absurd (omega arith)
in_range from (suc n) k low high = elim (cases_eq k from) as (λ _. IsIn k (from ∷ range_with_len (from + 1) n)) [
  | inl e ↦ inl e
  | inr other ↦ inr (in_range (from + 1) n k (omega (arith, other, low)) (omega arith))
]

remainder : (host k : ℕ) → host % 32 ≡ k → host % 32 ≡ k % 32
remainder host k e = omega arith

its_folder : (host k : ℕ) → host % 32 ≡ k → hostdir_of host ≡ hostdir_of k
its_folder host k e = ap (λ n. codes "hostdir." ++ decimal n) (remainder host k e)

shown_there : (names : List Name) (k : ℕ) (ks : List ℕ) → has_name (hostdir_of k) names ≡ true → IsIn k ks → IsIn k (shown names ks)
shown_there names k [] named there = absurd there
shown_there names k (j ∷ ks) named (inl same) = it_is (has_name (hostdir_of j) names) (subst (λ n. has_name (hostdir_of n) names ≡ true) same named) same
  where
    it_is : (b : Bool) → b ≡ true → k ≡ j → IsIn k (if b then j ∷ shown names ks else shown names ks)
    it_is true e is = inl is
    it_is false e is = absurd (let clash : false ≡ true = e in cc)
shown_there names k (j ∷ ks) named (inr on) = if_named (has_name (hostdir_of j) names) (shown_there names k ks named on)
  where
    if_named : (b : Bool) → IsIn k (shown names ks) → IsIn k (if b then j ∷ shown names ks else shown names ks)
    if_named true there = inr there
    if_named false there = there

name_there : (name : Name) (names : List Name) → is_listed name names ≡ true → has_name name names ≡ true
name_there name [] e = absurd (let clash : false ≡ true = e in cc)
name_there name (other ∷ names) e = elim (same_name other name) as (λ b. same_name other name ≡ b → (b || is_listed name names) ≡ true → has_name name (other ∷ names) ≡ true) [
  | true ↦ λ same h. it_is (same_bytes name other) (ap (same_bytes name) (name_eq other name same) ∙ same_bytes-itself name)
  | false ↦ λ differ h. if_so (same_bytes name other) (name_there name names h)
] refl e
  where
    it_is : (b : Bool) → b ≡ true → (if b then true else has_name name names) ≡ true
    it_is true h = refl
    it_is false h = absurd (let clash : false ≡ true = h in cc)

    if_so : (b : Bool) → has_name name names ≡ true → (if b then true else has_name name names) ≡ true
    if_so true h = refl
    if_so false h = h

required_ok : (name : Name) (path : Path) (names : List Name) (next : Result (List ℕ) Stuck) (ks : List ℕ) → required name path names next ≡ Ok ks → next ≡ Ok ks
required_ok name path names next ks h = by_name (has_name name names) h
  where
    by_name : (b : Bool) → (if b then next else Err (damage path 0)) ≡ Ok ks → next ≡ Ok ks
    by_name true e = e
    by_name false e = absurd (let clash : ◌≡◌ {A = Result (List ℕ) Stuck} (Err (damage path 0)) (Ok ks) = e in cc)

foreign_ok : {X : Type 0} (folder : Name) (o : Option Name) (next : Result X Stuck) (x : X) → unless_foreign folder o next ≡ Ok x → next ≡ Ok x
foreign_ok folder None next x h = h
foreign_ok {X} folder (Some name) next x h = let clash : ◌≡◌ {A = Result X Stuck} (Err (damage (file_in folder name) 0)) (Ok x) = h in absurd (not_ok (damage (file_in folder name) 0) x clash)
  where
    not_ok : (w : Stuck) (y : X) → ◌≡◌ {A = Result X Stuck} (Err w) (Ok y) → ⊥
    not_ok w y c = cc

same_list : (a b : List ℕ) → ◌≡◌ {A = Result (List ℕ) Stuck} (Ok a) (Ok b) → a ≡ b
same_list a b e = cc

shows_all : (names : List Name) (ks : List ℕ) → top_shows names ≡ Ok ks → shown names hostdirs ≡ ks
shows_all names ks h = same_list (shown names hostdirs) ks
    (required_ok truncs (file_in truncs []) names _ ks (required_ok metadata (file_in metadata []) names _ ks (required_ok flats (file_in flats []) names _ ks
    (required_ok access (file_in [] access) names _ ks (foreign_ok [] (foreign_at_top names) _ ks h)))))

module _ (l : Ledger) (state : State) (s : IsSoundFor l state) (number : ℕ) (w : WriterOf) (stands : StandsInRoom state number (IsPacked w)) where
  has_hostdir : (room : Room) → slice_get s.shape.tree.rooms number ≡ Some room → (bytes : List ℕ) → HasItem room (item.Packed w.host w.writer) bytes → has_folder room (hostdir_of w.host) ≡ true
  has_hostdir room there bytes has = elim (s.shape.shaped.rooms number room there) as (λ _. has_folder room (hostdir_of w.host) ≡ true) [
    | inl marks ↦
        let mark = marks.files (path_of (item.Packed w.host w.writer)) bytes has.there in
        let clash : marks_folder ≡ hostdir_of w.host = sym (ap (λ (p : Path). p.folder) mark.3) in
        elsewhere (ap (λ (l : List ℕ). get_or l 0 0) clash) refl
    | inr container ↦ (container.files (path_of (item.Packed w.host w.writer)) bytes has.there).housed
  ]

  or_true : (a b : Bool) → b ≡ true → (a || b) ≡ true
  or_true true b e = refl
  or_true false b e = e

  pub top_has : (caller : ℕ) (names : List Name) (after : State) → IsStep state caller (unbroken (Look number Top)) (Looked (Names names)) after → (ks : List ℕ) → top_shows names ≡ Ok ks → IsIn (w.host % 32) ks
  top_has caller names after step ks shows =
      let x = stands s.shape.tree s.shape.told in
      let lists : ListsFolder s.shape.tree number [] names = folder_listed state s.shape.tree caller number [] names after s.shape.told (record { does = step.does }) in
      let same : x.0 ≡ lists.room = some_room x.0 lists.room (slice_get s.shape.tree.rooms number) x.1 lists.has_room in
      let has : has_folder lists.room (hostdir_of w.host) ≡ true = subst (λ r. has_folder r (hostdir_of w.host) ≡ true) same (has_hostdir x.0 x.1 x.2.0 x.2.1) in
      let listed : is_listed (hostdir_of w.host) lists.room.folders ≡ true = sym (ap (λ b. b || is_listed (hostdir_of w.host) lists.room.folders) (not_top w.host)) ∙ has in
      let named : is_listed (hostdir_of w.host) names ≡ true = lists.entries.exactly (hostdir_of w.host) ∙ or_true (is_some (file_at lists.room (file_in [] (hostdir_of w.host)))) (is_listed (hostdir_of w.host) lists.room.folders) listed in
      let there : has_name (hostdir_of (w.host % 32)) names ≡ true = subst (λ f. has_name f names ≡ true) (its_folder w.host (w.host % 32) refl) (name_there (hostdir_of w.host) names named) in
      subst (IsIn (w.host % 32)) (shows_all names ks shows) (shown_there names (w.host % 32) hostdirs there (in_range 0 32 (w.host % 32) (omega arith) (omega arith)))

  -- the listing of its folder names it
  pub folder_has : (caller k : ℕ) (names : List Name) (after : State) → IsStep state caller (unbroken (Look number (ListFolder (hostdir_of k)))) (Looked (Names names)) after → w.host % 32 ≡ k
      → (name : Name) × (is_listed name names ≡ true) × (hostdir_item (file_in (hostdir_of k) name) ≡ Some (item.Packed w.host w.writer))
  folder_has caller k names after step its =
      let x = stands s.shape.tree s.shape.told in
      let lists : ListsFolder s.shape.tree number (hostdir_of k) names = folder_listed state s.shape.tree caller number (hostdir_of k) names after s.shape.told step in
      let same : x.0 ≡ lists.room = some_room x.0 lists.room (slice_get s.shape.tree.rooms number) x.1 lists.has_room in
      let has : HasItem lists.room (item.Packed w.host w.writer) x.2.0 = subst (λ r. HasItem r (item.Packed w.host w.writer) x.2.0) same x.2.1 in
      let name : Name = (path_of (item.Packed w.host w.writer)).file in
      let is : path_of (item.Packed w.host w.writer) ≡ file_in (hostdir_of k) name = ap (λ folder. file_in folder name) (its_folder w.host k its) in (
        name,
        file_named lists.room (hostdir_of k) name names x.2.0 lists.entries (sym (ap (λ p. file_at lists.room p) is) ∙ has.there),
        hostdir_item-here (file_in (hostdir_of k) name) (item.Packed w.host w.writer) refl (record { is_item = has.is_item; printed = sym is }),
      )

-- ---- what was found

keeps_behind : (x : ℕ) (o p : Owner) (owners : List Owner) → (has_writer x owners ≡ true → has_writer x (placed o owners) ≡ true) → (p.writer ≡ x) ⊎ (has_writer x owners ≡ true) → has_writer x (p ∷ placed o owners) ≡ true
keeps_behind x o p owners again (inl same) = has_here x p (placed o owners) same
keeps_behind x o p owners again (inr rest) = has_behind x p (placed o owners) (again rest)

placed_keeps : (x : ℕ) (o : Owner) (owners : List Owner) → has_writer x owners ≡ true → has_writer x (placed o owners) ≡ true
placed_keeps x o [] h = absurd (let clash : false ≡ true = h in cc)
placed_keeps x o (p ∷ owners) h = elim (nat_lt o.writer p.writer) as (λ b. has_writer x (if b then o ∷ p ∷ owners else p ∷ placed o owners) ≡ true) [
  | true ↦ has_behind x o (p ∷ owners) h
  | false ↦ keeps_behind x o p owners (placed_keeps x o owners) (has_first x p owners h)
]

placed_has : (o : Owner) (owners : List Owner) → has_writer o.writer (placed o owners) ≡ true
placed_has o [] = has_here o.writer o [] refl
placed_has o (p ∷ owners) = elim (nat_lt o.writer p.writer) as (λ b. has_writer o.writer (if b then o ∷ p ∷ owners else p ∷ placed o owners) ≡ true) [
  | true ↦ has_here o.writer o (p ∷ owners) refl
  | false ↦ has_behind o.writer p (placed o owners) (placed_has o owners)
]

unless_ok : (b : Bool) (why : Stuck) (next : Result Scan Stuck) (more : Scan) → (if b then Err why else next) ≡ Ok more → next ≡ Ok more
unless_ok true why next more e = absurd (let clash : Err why ≡ Ok more = e in cc)
unless_ok false why next more e = e

same_scan : (x y : Scan) → ◌≡◌ {A = Result Scan Stuck} (Ok x) (Ok y) → x ≡ y
same_scan x y e = cc

module _ (x k : ℕ) where
  abbrev path_in : Name → Path
  path_in name = file_in (hostdir_of k) name

  -- each goes on with what was found until then
  abbrev GoesOn : List Name → Scan → Type 0
  GoesOn names more = (scan : Scan) → has_writer x scan.packs ≡ true → taken_all (hostdir_of k) names scan ≡ Ok more → has_writer x more.packs ≡ true

  keeps_one : (name : Name) (names : List Name) (scan more : Scan) → GoesOn names more → has_writer x scan.packs ≡ true → (o : Option Item) → taken (path_in name) o scan (λ s. taken_all (hostdir_of k) names s) ≡ Ok more → has_writer x more.packs ≡ true
  keeps_one name names scan more again has (Some (item.Index host writer)) h = again (record { indices = placed (owner host writer) scan.indices; packs = scan.packs }) has (unless_ok (has_writer writer scan.indices) (damage (path_in name) 0) _ more h)
  keeps_one name names scan more again has (Some (item.Packed host writer)) h = again (record { indices = scan.indices; packs = placed (owner host writer) scan.packs }) (placed_keeps x (owner host writer) scan.packs has) (unless_ok (has_writer writer scan.packs) (damage (path_in name) 0) _ more h)
  keeps_one name names scan more again has other h = again scan has h

  -- what was found before is kept
  keeps : (names : List Name) (more : Scan) → GoesOn names more
  keeps [] more scan has e = subst (λ (s : Scan). has_writer x s.packs ≡ true) (same_scan scan more e) has
  keeps (name ∷ names) more scan has e = keeps_one name names scan more (keeps names more) has (hostdir_item (path_in name)) e

  abbrev Takes : List Name → Scan → Type 0
  Takes names more = (scan : Scan) → taken_all (hostdir_of k) names scan ≡ Ok more → has_writer x more.packs ≡ true

  takes_on : (name : Name) (names : List Name) (scan more : Scan) → Takes names more → (o : Option Item) → taken (path_in name) o scan (λ s. taken_all (hostdir_of k) names s) ≡ Ok more → has_writer x more.packs ≡ true
  takes_on name names scan more again (Some (item.Index host writer)) h = again (record { indices = placed (owner host writer) scan.indices; packs = scan.packs }) (unless_ok (has_writer writer scan.indices) (damage (path_in name) 0) _ more h)
  takes_on name names scan more again (Some (item.Packed host writer)) h = again (record { indices = scan.indices; packs = placed (owner host writer) scan.packs }) (unless_ok (has_writer writer scan.packs) (damage (path_in name) 0) _ more h)
  takes_on name names scan more again other h = again scan h

  takes_it : (host : ℕ) (name : Name) (names : List Name) (scan more : Scan) → (o : Option Item) → o ≡ Some (item.Packed host x) → taken (path_in name) o scan (λ s. taken_all (hostdir_of k) names s) ≡ Ok more → has_writer x more.packs ≡ true
  takes_it host name names scan more o it h =
      let packed : taken (path_in name) (Some (item.Packed host x)) scan (λ s. taken_all (hostdir_of k) names s) ≡ Ok more = subst (λ q. taken (path_in name) q scan (λ s. taken_all (hostdir_of k) names s) ≡ Ok more) it h in
      keeps names more (record { indices = scan.indices; packs = placed (owner host x) scan.packs }) (placed_has (owner host x) scan.packs) (unless_ok (has_writer x scan.packs) (damage (path_in name) 0) _ more packed)

  -- a packed index that is named is found
  takes : (host : ℕ) (name : Name) (names : List Name) (more : Scan) → is_listed name names ≡ true → hostdir_item (path_in name) ≡ Some (item.Packed host x) → Takes names more
  takes host name [] more listed is scan e = absurd (let clash : false ≡ true = listed in cc)
  takes host name (other ∷ names) more listed is scan e = by_name (λ there. takes host name names more there is) (same_name other name) refl
    where
      by_name : (is_listed name names ≡ true → Takes names more) → (b : Bool) → same_name other name ≡ b → has_writer x more.packs ≡ true
      by_name again true same = takes_it host other names scan more (hostdir_item (path_in other)) (ap (λ n. hostdir_item (path_in n)) (name_eq other name same) ∙ is) e
      by_name again false differ = takes_on other names scan more (again (sym (ap (λ b. b || is_listed name names) differ) ∙ listed)) (hostdir_item (path_in other)) e

-- ---- its dropping is packed

if_owned : (o : Owner) (indices packs : List Owner) → lone_pack indices (o ∷ packs) ≡ None → (has_owner o indices ≡ true) × (lone_pack indices packs ≡ None)
if_owned o indices packs h = by_test (has_owner o indices) refl h
  where
    by_test : (b : Bool) → has_owner o indices ≡ b → (if b then lone_pack indices packs else Some o) ≡ None → (has_owner o indices ≡ true) × (lone_pack indices packs ≡ None)
    by_test true is e = (is, e)
    by_test false is e = absurd (let clash : Some o ≡ None = e in cc)

owned : (host : ℕ) (found : Option Owner) → is_of_host host found ≡ true → is_some found ≡ true
owned host None e = e
owned host (Some o) e = refl

not_lone : (x : ℕ) (indices packs : List Owner) → lone_pack indices packs ≡ None → has_writer x packs ≡ true → has_writer x indices ≡ true
not_lone x indices [] none h = absurd (let clash : false ≡ true = h in cc)
not_lone x indices (o ∷ packs) none h =
    let both = if_owned o indices packs none in
    elim (has_first x o packs h) [
      | inl same ↦ subst (λ n. has_writer n indices ≡ true) same (owned o.host (owner_of o.writer indices) both.0)
      | inr on ↦ not_lone x indices packs both.1 on
    ]

is_packed_there : (x : ℕ) (packs indices : List Owner) → has_writer x packs ≡ true → has_writer x indices ≡ true → is_packed (item_of (λ (d : Dropping). d.writer) x (map (dropping_of packs) indices)) ≡ true
is_packed_there x packs [] has h = absurd (let clash : false ≡ true = h in cc)
is_packed_there x packs (o ∷ indices) has h = elim (o.writer == x) as (λ b. (o.writer == x) ≡ b → is_some (if b then Some o else owner_of x indices) ≡ true → is_packed (if b then Some (dropping_of packs o) else item_of (λ (d : Dropping). d.writer) x (map (dropping_of packs) indices)) ≡ true) [
  | true ↦ λ e on. (let same : o.writer ≡ x = grind (arith, nat_tests, e) in subst (λ n. has_writer n packs ≡ true) (sym same) has)
  | false ↦ λ e on. is_packed_there x packs indices has on
] refl h

-- ---- all listings

module _ (caller number : ℕ) (w : WriterOf) where
  abbrev Stands : State → Type 0
  Stands state = StandsInRoom state number (IsPacked w)

  pub packed_stay : Stays Stands
  packed_stay l old new other asked reply may step s f = item_later l old new other asked reply may step s (item.Packed w.host w.writer) tt number f

  -- its folder is to be listed, or it was found
  abbrev pub IsFound : List ℕ → Scan → Type 0
  IsFound ks scan = IsIn (w.host % 32) ks ⊎ (has_writer w.writer scan.packs ≡ true)

  abbrev pub ShowsPacked : Result Listing Stuck → State → Type 0
  ShowsPacked (Ok listing) state = is_packed (item_of (λ (d : Dropping). d.writer) w.writer listing.droppings) ≡ true
  ShowsPacked (Err why) state = Unit {0}

  abbrev EndsShown : Tries Listing → State → Type 0
  EndsShown program state = Ends caller ShowsPacked program state

  failed : (why : Stuck) (state : State) → EndsShown (done (Err why)) state
  failed why state = ends_done caller ShowsPacked (Err why) (λ now. Unit {0}) (λ l old new other asked reply may step s f. tt) (λ l now s f. tt) state tt

  by_lone : (scan : Scan) (o : Option Owner) (state : State) → lone_pack scan.indices scan.packs ≡ o → has_writer w.writer scan.packs ≡ true → EndsShown (done (unless_lone o (Ok (listing_of number no_flat scan)))) state
  by_lone scan None state none has = ends_done caller ShowsPacked (Ok (listing_of number no_flat scan)) (λ now. Unit {0}) (λ l old new other asked reply may step s f. tt)
      (λ l now s f. is_packed_there w.writer scan.packs scan.indices has (not_lone w.writer scan.indices scan.packs none has)) state tt
  by_lone scan (Some o) state some has = failed _ state

  abbrev pub ScansShow : List ℕ → Type 0
  ScansShow ks = (scan : Scan) (state : State) → Stands state → IsFound ks scan → EndsShown (scans number 0 no_flat ks scan) state

  module _ (k : ℕ) (ks : List ℕ) (again : ScansShow ks) (scan : Scan) (so : IsFound (k ∷ ks) scan) where
    found_now : (l : Ledger) (state : State) (names : List Name) (after : State) → IsStep state caller (unbroken (Look number (ListFolder (hostdir_of k)))) (Looked (Names names)) after → IsSoundFor l state → Stands state → (more : Scan) → scanned (hostdir_of k) names scan ≡ Ok more → IsFound ks more
    found_now l state names after step s f more is =
        let all : taken_all (hostdir_of k) names scan ≡ Ok more = foreign_ok (hostdir_of k) (foreign_in (hostdir_of k) names) (taken_all (hostdir_of k) names scan) more is in
        elim so [
          | inl (inl here) ↦ (let n = folder_has l state s number w f caller k names after step here in inr (takes w.writer k w.host n.0 names more n.1 n.2 scan all))
          | inl (inr on) ↦ inl on
          | inr has ↦ inr (keeps w.writer k names more scan has all)
        ]

    by_result : (l : Ledger) (state : State) (names : List Name) (after : State) → May state caller (unbroken (Look number (ListFolder (hostdir_of k)))) → IsStep state caller (unbroken (Look number (ListFolder (hostdir_of k)))) (Looked (Names names)) after → IsSoundFor l state → Stands state
        → (r : Result Scan Stuck) → scanned (hostdir_of k) names scan ≡ r → EndsShown (on_ok (λ more. scans number 0 no_flat ks more) r) after
    by_result l state names after may step s f (Err why) is = failed why after
    by_result l state names after may step s f (Ok more) is =
        again more after (packed_stay l state after caller (unbroken (Look number (ListFolder (hostdir_of k)))) (Looked (Names names)) may step s f) (found_now l state names after step s f more is)

    by_names : (l : Ledger) (state : State) (reply : Reply) (after : State) → May state caller (unbroken (Look number (ListFolder (hostdir_of k)))) → IsStep state caller (unbroken (Look number (ListFolder (hostdir_of k)))) reply after → IsSoundFor l state → Stands state
        → (o : Option (List Name)) → names_in reply ≡ o → EndsShown (given o (trouble (file_in (hostdir_of k) []) reply) (λ names. on_ok (λ more. scans number 0 no_flat ks more) (scanned (hostdir_of k) names scan))) after
    by_names l state reply after may step s f None is = failed (trouble (file_in (hostdir_of k) []) reply) after
    by_names l state reply after may step s f (Some names) is =
        by_result l state names after may (subst (λ r. IsStep state caller (unbroken (Look number (ListFolder (hostdir_of k)))) r after) (of_names number reply names is) step) s f (scanned (hostdir_of k) names scan) refl

    one_scan : (state : State) → Stands state → EndsShown (scans number 0 no_flat (k ∷ ks) scan) state
    one_scan = ends_ask caller ShowsPacked Stands (λ l old new other asked reply differ may step s f. packed_stay l old new other asked reply may step s f) (Look number (ListFolder (hostdir_of k)))
        (λ reply. given (names_in reply) (trouble (file_in (hostdir_of k) []) reply) (λ names. on_ok (λ more. scans number 0 no_flat ks more) (scanned (hostdir_of k) names scan)))
        (λ l state reply after may step s f. by_names l state reply after may step s f (names_in reply) refl)

  pub scans_show : (ks : List ℕ) → ScansShow ks
  scans_show [] scan state f (inl never) = absurd never
  scans_show [] scan state f (inr has) = by_lone scan (lone_pack scan.indices scan.packs) state refl has
  scans_show (k ∷ ks) scan state f so = one_scan k ks (scans_show ks) scan so state f
