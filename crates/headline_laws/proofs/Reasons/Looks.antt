-- Which refusals the programs that read a container end in, whatever is answered: that it is not there; and where it is there, none.
use Rattle.std.proofs.Common.{◌≡◌, ℕ, zero, suc, ◌+◌, ◌-◌, ◌*◌, ◌/◌, Bool, true, false, List, [], ◌∷◌, ◌++◌, length, map, drop, min, nat_le, nat_lt, Option, Some, None, Result, Ok, Err, refl, subst, inl, inr}
use Rattle.std.specs.Prelude.{if◌then◌else◌, ◌==◌}
use Rattle.plfs_types.specs.declared.entries.Cover.{Cover}
use Rattle.plfs_types.specs.declared.entries.Entry.{Entry}
use Rattle.plfs_types.specs.declared.entries.Trunc.{Trunc}
use Rattle.plfs_types.specs.declared.names.Path.{Path}
use Rattle.container_layout.specs.declared.items.Item.{Item}
use Rattle.container_layout.specs.declared.items.Item.TheVariants as item
use Rattle.container_layout.specs.Paths.{hostdir_of}
use Rattle.index_entry.specs.Spelling.{entry_in, number_in as number_at}
use Rattle.index_pack.specs.declared.trouble.TheConstants.{HEAD_SIZE}
use Rattle.flat_format.specs.declared.flat.Flat.{Flat}
use Rattle.mount_model.specs.declared.stuck.Stuck.{Stuck}
use Rattle.mount_model.specs.FlowReplies.{Tries, bytes_in, damage, given, names_in, on_ok, trouble}
use Rattle.mount_model.specs.Entries.{is_next}
use Rattle.mount_model.specs.FlowListed.{file_in}
use Rattle.mount_model.specs.Program.{Program, ask, done, followed_by}
use Rattle.mount_model.specs.declared.call.Look.TheVariants.{Top, Length, Read, List as ListFolder}
use Rattle.mount_model.specs.Paths.{Name, flats, metadata, truncs, flat_path, index_path, log_path}
use Rattle.index_reader.specs.declared.entries.Tail.{Tail}
use Rattle.index_reader.specs.declared.listing.Dropping.{Dropping}
use Rattle.index_reader.specs.declared.scanning.Scan.{Scan}
use Rattle.index_reader.specs.declared.sharing.Sofar.{Sofar}
use Rattle.index_reader.specs.Replies.{number_in, log_length_in}
use Rattle.index_reader.specs.Covered.{cover_of}
use Rattle.index_reader.specs.Entries.{longer, checked}
use Rattle.index_reader.specs.FileReads.{first_rest, next_part, parts, parts_of, bytes_left}
use Rattle.index_reader.specs.FlatRules.{flat_fault, flat_told}
use Rattle.index_reader.specs.Items.{flat_item, hostdir_item}
use Rattle.index_reader.specs.Newest.{flats_path, greater_id, if_flat, newest_in}
use Rattle.index_reader.specs.Opening.{flat_first, flat_or_damage, flat_program, flat_rest, if_newest, listed, listing_of, lone_pack, no_flat, open_at_program, scans, top_program, uncovered, unless_lone, unless_uncovered, unless_unfit}
use Rattle.index_reader.specs.PackRules.{pack_told}
use Rattle.index_reader.specs.Packs.{begins_covered, head_fault, head_then, if_headed, no_tail, pack_program, pack_rest, pack_tail, packed_path, run_place, tail_past, writer_of}
use Rattle.index_reader.specs.Scanning.{foreign_in, has_writer, nothing_found, scanned, taken, taken_all, unless_foreign}
use Rattle.index_reader.specs.Searching.{has_name}
use Rattle.index_reader.specs.Sharing.{added, dropping_program, gathers, nothing, share_program}
use Rattle.index_reader.specs.Tails.{if_checked, if_logged, if_told, log_then, looked, reads, tail_program}
use Rattle.mount_model.specs.Entries.{next_read, reads_of}
use Rattle.index_reader.specs.Tops.{access, foreign_at_top, required, shown, top_shows}
use Rattle.container_layout.specs.Paths.{hostdirs}
use Rattle.mount_model.specs.Names.{trunc_in}
use Rattle.index_reader.specs.Truncs.{if_trunc, inserted, trunc_program, truncs_of, truncs_path}
use Rattle.std.specs.List.{range_with_len}
use Rattle.store_api.specs.declared.step.Answer.TheVariants.{NoFolder}
use Rattle.mount_model.specs.declared.call.Call.{Call}
use Rattle.mount_model.specs.declared.call.Call.TheVariants.{Look}
use Rattle.mount_model.specs.declared.call.Look.{Look as Looking}
use Rattle.mount_model.specs.declared.reply.Refusal.{Refusal}
use Rattle.mount_model.specs.declared.reply.Refusal.TheVariants as refusal
use Rattle.mount_model.specs.declared.reply.Reply.{Reply}
use Rattle.mount_model.specs.declared.reply.Reply.TheVariants as reply
use Rattle.index_reader.specs.declared.listing.Listing.{Listing}
use Rattle.index_reader.specs.declared.sharing.Share.{Share}
use Rattle.gather_flow.specs.Dealing.{dealt_to}
use Rattle.gather_flow.specs.Shares.{by_itself, programs_from, worker_program}
use Rattle.gather_flow.specs.OneIndex.{attr_of}
use Rattle.actor_core.specs.Telling.{tells_by}
use Rattle.reader_laws.specs.Moments.{Moment}
use Rattle.reader_laws.specs.Failing.{IsContainerAt}
use Rattle.store_laws.specs.There.{LacksRoom}
use Rattle.mount_model.specs.Making.{room_check}
use Rattle.headline_laws.proofs.Reasons.Containers.{has_room, no_check}
use Rattle.headline_laws.proofs.Reasons.Goes.{EndsSo, Fact, Goes, IsSo, IsTroubleSo, Stepped, stands}
use Rattle.headline_laws.proofs.Reasons.Holds.{roomed_so}

-- it is refused only since there is no such container
abbrev pub IsLacking : Refusal → Type 0
IsLacking why = why ≡ refusal.NoRoom

abbrev pub IsFine : {A : Type 0} → Result A Stuck → Type 0
IsFine result = EndsSo (λ a. Unit {0}) IsLacking result

-- or never
abbrev pub never_refused : Refusal → Type 0
never_refused why = ⊥

abbrev pub IsWell : {A : Type 0} → Result A Stuck → Type 0
IsWell result = EndsSo (λ a. Unit {0}) never_refused result

-- which container is looked at: any, or that of this number
abbrev pub Anywhere : ℕ → Type 0
Anywhere room = Unit {0}

abbrev pub At : ℕ → ℕ → Type 0
At room k = k ≡ room

-- what a scan's lists are of
abbrev item_type : {A : Type 0} → List A → Type 0
item_type {A} items = A

either_of : {X : Type 0} (P : X → Type 0) (b : Bool) (x y : X) → P x → P y → P (if b then x else y)
either_of P true x y one other = one
either_of P false x y one other = other

-- ---- programs that look at such containers, and are refused so alone

module _ (Fine : Refusal → Type 0) (Home : ℕ → Type 0) where
  abbrev pub EndsFine : {A : Type 0} → Result A Stuck → Type 0
  EndsFine result = EndsSo (λ a. Unit {0}) Fine result

  -- what looks at such a container
  abbrev pub IsLooking : Call → Type 0
  IsLooking (Look room look) = Home room
  IsLooking call = ⊥

  abbrev pub IsFound : Reply → Type 0
  IsFound rep = (why : Refusal) → rep ≡ reply.Refused why → Fine why

  -- It looks alone, and comes to such a result where its looks are refused so alone.
  abbrev pub Seeks : {R : Type 0} → Tries R → Type 0
  Seeks (done r) = EndsFine r
  Seeks (ask call k) = IsLooking call × ((rep : Reply) → IsFound rep → Seeks (k rep))

  -- ---- one program after another

  either_goes : {R : Type 0} (b : Bool) (p q : Tries R) → Seeks p → Seeks q → Seeks (if b then p else q)
  either_goes true p q one other = one
  either_goes false p q one other = other

  pub on_ok_goes : {A R : Type 0} (next : A → Tries R) (result : Result A Stuck) → EndsFine result → ((a : A) → Seeks (next a)) → Seeks (on_ok next result)
  on_ok_goes next (Ok a) fine goes = goes a
  on_ok_goes next (Err why) fine goes = fine

  pub then_goes : {A R : Type 0} (p : Tries A) (next : A → Tries R) → Seeks p → ((a : A) → Seeks (next a)) → Seeks (followed_by p (on_ok next))
  then_goes (done (Ok a)) next seeks goes = goes a
  then_goes (done (Err why)) next seeks goes = seeks
  then_goes (ask call k) next seeks goes = (seeks.0, λ rep found. then_goes (k rep) next (seeks.1 rep found) goes)

  -- ---- a look

  trouble_fine : (path : Path) (rep : Reply) → IsFound rep → IsTroubleSo Fine (trouble path rep)
  trouble_fine path (reply.Refused why) fine = fine why refl
  trouble_fine path (reply.Damaged folder file) fine = tt
  trouble_fine path (reply.Looked NoFolder) fine = tt
  trouble_fine path (reply.Looked answer) fine = tt
  trouble_fine path rep fine = tt

  given_goes : {A R : Type 0} (item : Option A) (path : Path) (rep : Reply) (next : A → Tries R) → IsFound rep → ((a : A) → Seeks (next a)) → Seeks (given item (trouble path rep) next)
  given_goes None path rep next fine goes = trouble_fine path rep fine
  given_goes (Some a) path rep next fine goes = goes a

  look_goes : {A R : Type 0} (room : ℕ) → Home room → (look : Looking) (f : Reply → Option A) (path : Path) (next : A → Tries R) → ((a : A) → Seeks (next a)) → Seeks (ask (Look room look) (λ rep. given (f rep) (trouble path rep) next))
  look_goes room home look f path next goes = (home, λ rep found. given_goes (f rep) path rep next found goes)

  module _ (room : ℕ) (home : Home room) where
    -- ---- a file

    parts_look : (n : ℕ) (path : Path) (told left : ℕ) (sofar : List ℕ) → Seeks (parts n room path told left sofar)
    parts_look zero path told left sofar = tt
    parts_look (suc n) path told left sofar = look_goes room home (Read path (told - left) (next_part left)) bytes_in path _
        (λ bytes. either_goes (nat_le (next_part left) (length bytes)) (parts n room path told (left - next_part left) (sofar ++ bytes)) (done (Ok (sofar ++ bytes))) (parts_look n path told (left - next_part left) (sofar ++ bytes)) tt)

    bytes_look : {R : Type 0} (path : Path) (told left : ℕ) (sofar : List ℕ) (next : List ℕ → Tries R) → ((bytes : List ℕ) → Seeks (next bytes)) → Seeks (followed_by (bytes_left room path told left sofar) (on_ok next))
    bytes_look path told left sofar next goes = then_goes (bytes_left room path told left sofar) next (parts_look (parts_of left) path told left sofar) goes

    -- ---- a listing

    flat_fine : (id : ℕ) (result : Result Flat ℕ) → EndsFine (flat_or_damage id result)
    flat_fine id (Ok flat) = tt
    flat_fine id (Err place) = tt

    rest_looks : (id told : ℕ) (first : List ℕ) → Seeks (flat_rest room id told first)
    rest_looks id told first =
        then_goes (first_rest room (flat_path id) told first) (λ bytes. done (flat_or_damage id (flat_told bytes)))
        (either_goes (nat_le (next_part told) (length first)) (bytes_left room (flat_path id) told (told - next_part told) first) (done (Ok first)) (parts_look (parts_of (told - next_part told)) (flat_path id) told (told - next_part told) first) tt)
        (λ bytes. flat_fine id (flat_told bytes))

    fit_looks : (id : ℕ) (fault : Option ℕ) (next : Tries Flat) → Seeks next → Seeks (unless_unfit id fault next)
    fit_looks id None next goes = goes
    fit_looks id (Some place) next goes = tt

    first_looks : (id told : ℕ) → Seeks (flat_first room id told)
    first_looks id told = look_goes room home (Read (flat_path id) 0 (next_part told)) bytes_in (flat_path id) _
        (λ first. fit_looks id (flat_fault told first) (flat_rest room id told first) (rest_looks id told first))

    flat_looks : (id : ℕ) → Seeks (flat_program room id)
    flat_looks id = look_goes room home (Length (flat_path id)) number_in (flat_path id) _
        (λ told. either_goes (told == 0) (done (Err (damage (flat_path id) 0))) (flat_first room id told) tt (first_looks id told))

    foreign_fine : {X : Type 0} (folder : Name) (found : Option Name) (next : Result X Stuck) → EndsFine next → EndsFine (unless_foreign folder found next)
    foreign_fine folder None next fine = fine
    foreign_fine folder (Some name) next fine = tt

    taken_fine : (path : Path) (found : Option Item) (scan : Scan) (next : Scan → Result Scan Stuck) → ((more : Scan) → EndsFine (next more)) → EndsFine (taken path found scan next)
    taken_fine path (Some (item.Index host writer)) scan next fine = either_of (λ r. EndsFine r) (has_writer writer scan.indices) (Err (damage path 0)) _ tt (fine _)
    taken_fine path (Some (item.Packed host writer)) scan next fine = either_of (λ r. EndsFine r) (has_writer writer scan.packs) (Err (damage path 0)) _ tt (fine _)
    taken_fine path other scan next fine = fine scan

    taken_all_fine : (folder : Name) (names : List Name) (scan : Scan) → EndsFine (taken_all folder names scan)
    taken_all_fine folder [] scan = tt
    taken_all_fine folder (name ∷ names) scan = taken_fine (file_in folder name) (hostdir_item (file_in folder name)) scan (λ more. taken_all folder names more) (λ more. taken_all_fine folder names more)

    scanned_fine : (folder : Name) (names : List Name) (scan : Scan) → EndsFine (scanned folder names scan)
    scanned_fine folder names scan = foreign_fine folder (foreign_in folder names) (taken_all folder names scan) (taken_all_fine folder names scan)

    uncovered_fine : {X : Type 0} (id : ℕ) (found : Option ℕ) (next : Result X Stuck) → EndsFine next → EndsFine (unless_uncovered id found next)
    uncovered_fine id None next fine = fine
    uncovered_fine id (Some index) next fine = tt

    lone_fine : {X : Type 0} (found : Option (item_type nothing_found.indices)) (next : Result X Stuck) → EndsFine next → EndsFine (unless_lone found next)
    lone_fine None next fine = fine
    lone_fine (Some owner) next fine = tt

    listed_fine : (id : ℕ) (flat : Flat) (scan : Scan) → EndsFine (listed room id flat scan)
    listed_fine id flat scan =
        uncovered_fine id (uncovered scan.indices 0 flat.covers) (unless_lone (lone_pack scan.indices scan.packs) (Ok (listing_of room flat scan)))
        (lone_fine (lone_pack scan.indices scan.packs) (Ok (listing_of room flat scan)) tt)

    scans_look : (id : ℕ) (flat : Flat) (ks : List ℕ) (scan : Scan) → Seeks (scans room id flat ks scan)
    scans_look id flat [] scan = listed_fine id flat scan
    scans_look id flat (k ∷ ks) scan = look_goes room home (ListFolder (hostdir_of k)) names_in (file_in (hostdir_of k) []) _
        (λ names. on_ok_goes (λ found. scans room id flat ks found) (scanned (hostdir_of k) names scan) (scanned_fine (hostdir_of k) names scan) (λ found. scans_look id flat ks found))

    required_fine : {X : Type 0} (name : Name) (path : Path) (names : List Name) (next : Result X Stuck) → EndsFine next → EndsFine (required name path names next)
    required_fine name path names next fine = either_of (λ r. EndsFine r) (has_name name names) next (Err (damage path 0)) fine tt

    top_fine : (names : List Name) → EndsFine (top_shows names)
    top_fine names =
        foreign_fine [] (foreign_at_top names) _
        (required_fine access (file_in [] access) names _
        (required_fine flats (file_in flats []) names _
        (required_fine metadata (file_in metadata []) names _
        (required_fine truncs (file_in truncs []) names (Ok (shown names hostdirs)) tt))))

    pub top_looks : (id : ℕ) (flat : Flat) → Seeks (top_program room id flat)
    top_looks id flat = look_goes room home Top names_in (file_in [] []) _
        (λ names. on_ok_goes (λ ks. scans room id flat ks nothing_found) (top_shows names) (top_fine names) (λ ks. scans_look id flat ks nothing_found))

    newest_looks : (newest : Option ℕ) → Seeks (if_newest room newest)
    newest_looks None = top_looks 0 no_flat
    newest_looks (Some id) = then_goes (flat_program room id) (λ flat. top_program room id flat) (flat_looks id) (λ flat. top_looks id flat)

    if_flat_fine : (name : Name) (found : Option Item) (newest : Option ℕ) (next : Option ℕ → Result (Option ℕ) Stuck) → ((further : Option ℕ) → EndsFine (next further)) → EndsFine (if_flat name found newest next)
    if_flat_fine name None newest next fine = tt
    if_flat_fine name (Some (item.Flat id)) newest next fine = fine (greater_id id newest)
    if_flat_fine name (Some other) newest next fine = fine newest

    newest_fine : (names : List Name) (newest : Option ℕ) → EndsFine (newest_in names newest)
    newest_fine [] newest = tt
    newest_fine (name ∷ names) newest = if_flat_fine name (flat_item (flats_path name)) newest (λ further. newest_in names further) (λ further. newest_fine names further)

    pub open_at_looks : Seeks (open_at_program room)
    open_at_looks = look_goes room home (ListFolder flats) names_in (flats_path []) _
        (λ names. on_ok_goes (if_newest room) (newest_in names None) (newest_fine names None) (λ newest. newest_looks newest))

    -- ---- a share

    checked_looks : (d : Dropping) (goes_on : Bool → Tail → Tries Tail) (full : Bool) (log n : ℕ) (bytes : List ℕ) (tail : Tail) → ((past : Bool) (next : Tail) → Seeks (goes_on past next)) → Seeks (if_checked d goes_on full (checked log n bytes tail))
    checked_looks d goes_on full log zero bytes tail goes = either_goes full (goes_on false tail) (done (Ok tail)) (goes false tail) tt
    checked_looks d goes_on full log (suc n) bytes tail goes =
        either_of (λ went. Seeks (if_checked d goes_on full went)) (is_next tail.cover (entry_in bytes)) _ _
        (either_of (λ went. Seeks (if_checked d goes_on full went)) (nat_le ((entry_in bytes).physical + (entry_in bytes).len) log) _ _
        (checked_looks d goes_on full log n (drop 40 bytes) (longer (entry_in bytes) tail) goes)
        (either_goes full (goes_on true tail) (done (Ok tail)) (goes true tail) tt))
        tt

    looked_looks : (d : Dropping) (goes_on : Bool → Tail → Tries Tail) (full ended : Bool) (log asked : ℕ) (bytes : List ℕ) (tail : Tail) → ((past : Bool) (next : Tail) → Seeks (goes_on past next)) → Seeks (if_checked d goes_on full (looked ended log asked bytes tail))
    looked_looks d goes_on full true log asked bytes tail goes = either_goes full (goes_on true tail) (done (Ok tail)) (goes true tail) tt
    looked_looks d goes_on full false log asked bytes tail goes = checked_looks d goes_on full log (min (length bytes / 40) asked) bytes tail goes

    reads_look : (n : ℕ) (d : Dropping) (log whole left : ℕ) (ended : Bool) (tail : Tail) → Seeks (reads n room d log whole left ended tail)
    reads_look zero d log whole left ended tail = tt
    reads_look (suc n) d log whole left ended tail = look_goes room home (Read (index_path d.host d.writer) (40 * (whole - left)) (40 * next_read left)) bytes_in (index_path d.host d.writer) _
        (λ bytes. looked_looks d (λ past next. reads n room d log whole (left - next_read left) past next) (nat_le (40 * next_read left) (length bytes)) ended log (next_read left) bytes tail
        (λ past next. reads_look n d log whole (left - next_read left) past next))

    log_looks : (d : Dropping) (tail : Tail) (whole : ℕ) → Seeks (log_then room d tail whole)
    log_looks d tail whole = look_goes room home (Length (log_path d.host d.writer)) log_length_in (log_path d.host d.writer) (if_logged room d tail whole)
        (λ log. either_goes (nat_lt log tail.cover.bytes) (done (Err (damage (log_path d.host d.writer) log))) (reads (reads_of (whole - tail.cover.count)) room d log whole (whole - tail.cover.count) false tail) tt
        (reads_look (reads_of (whole - tail.cover.count)) d log whole (whole - tail.cover.count) false tail))

    tail_looks : (d : Dropping) (tail : Tail) → Seeks (tail_program room d tail)
    tail_looks d tail = look_goes room home (Length (index_path d.host d.writer)) number_in (index_path d.host d.writer) (if_told room d tail)
        (λ told. either_goes (nat_lt (told / 40) tail.cover.count) (done (Err (damage (index_path d.host d.writer) told))) (log_then room d tail (told / 40)) tt (log_looks d tail (told / 40)))

    pack_fine : (path : Path) (cover : Cover) (bytes : List ℕ) (result : Result (List Entry) ℕ) → EndsFine (pack_tail path cover bytes result)
    pack_fine path cover bytes (Err place) = tt
    pack_fine path cover bytes (Ok entries) =
        either_of (λ r. EndsFine r) (writer_of entries == cover.writer) (if begins_covered cover entries then Ok (tail_past cover entries) else Err (damage path (run_place cover.count bytes))) (Err (damage path HEAD_SIZE))
        (either_of (λ r. EndsFine r) (begins_covered cover entries) (Ok (tail_past cover entries)) (Err (damage path (run_place cover.count bytes))) tt tt) tt

    headed_looks : (path : Path) (cover : Cover) (told : ℕ) (head : List ℕ) (found : Option ℕ) → Seeks (if_headed room path cover told head found)
    headed_looks path cover told head (Some place) = tt
    headed_looks path cover told head None =
        either_goes (number_at 8 head == cover.count) (done (Ok (no_tail cover))) (pack_rest room path cover told head) tt
        (bytes_look path told (told - HEAD_SIZE) head (λ bytes. done (pack_tail path cover bytes (pack_told bytes))) (λ bytes. pack_fine path cover bytes (pack_told bytes)))

    pack_looks : (path : Path) (cover : Cover) → Seeks (pack_program room path cover)
    pack_looks path cover = look_goes room home (Length path) number_in path (head_then room path cover)
        (λ told. look_goes room home (Read path 0 HEAD_SIZE) bytes_in path _ (λ head. headed_looks path cover told head (head_fault told cover.count head)))

    dropping_looks : (d : Dropping) (cover : Cover) → Seeks (dropping_program room d cover)
    dropping_looks d cover = either_goes d.packed (pack_program room (packed_path d.host d.writer) cover) (tail_program room d (no_tail cover)) (pack_looks (packed_path d.host d.writer) cover) (tail_looks d (no_tail cover))

    gathers_look : (covers : List Cover) (ds : List Dropping) (sofar : Sofar) → Seeks (gathers room covers ds sofar)
    gathers_look covers [] sofar = tt
    gathers_look covers (d ∷ ds) sofar =
        then_goes (dropping_program room d (cover_of d.writer covers)) (λ tail. gathers room covers ds (added tail sofar)) (dropping_looks d (cover_of d.writer covers)) (λ tail. gathers_look covers ds (added tail sofar))

    pub share_looks : (share : List Dropping) (covers : List Cover) → Seeks (share_program room share covers)
    share_looks share covers = gathers_look covers share nothing

    -- ---- truncates

    if_trunc_fine : (name : Name) (found : Option Trunc) (next : Trunc → Result (List Trunc) Stuck) → ((t : Trunc) → EndsFine (next t)) → EndsFine (if_trunc name found next)
    if_trunc_fine name None next fine = tt
    if_trunc_fine name (Some t) next fine = fine t

    truncs_fine : (names : List Name) (sofar : List Trunc) → EndsFine (truncs_of names sofar)
    truncs_fine [] sofar = tt
    truncs_fine (name ∷ names) sofar = if_trunc_fine name (trunc_in name) (λ t. truncs_of names (inserted t sofar)) (λ t. truncs_fine names (inserted t sofar))

    pub truncs_look : Seeks (trunc_program room)
    truncs_look = look_goes room home (ListFolder truncs) names_in (truncs_path []) _ (λ names. truncs_fine names [])

  -- ---- shares, and the truncates behind them

  pub each_looks : {R : Type 0} (workers : ℕ) (listing : Listing) → Home listing.room → (numbers : List ℕ) (sofar : List Share) (next : List Share → Tries R) → ((shares : List Share) → Seeks (next shares)) → Seeks (by_itself (map (worker_program workers listing) numbers) sofar next)
  each_looks workers listing home [] sofar next goes = goes sofar
  each_looks workers listing home (worker ∷ numbers) sofar next goes =
      then_goes (worker_program workers listing worker) (λ share. by_itself (map (worker_program workers listing) numbers) (sofar ++ share ∷ []) next)
      (share_looks listing.room home (dealt_to workers worker 0 listing.droppings) listing.flat.covers) (λ share. each_looks workers listing home numbers (sofar ++ share ∷ []) next goes)

  tells_looks : (listing : Listing) → Home listing.room → (shares : List Share) → Seeks (tells_by listing shares)
  tells_looks listing home shares = then_goes (trunc_program listing.room) (λ truncs. done (Ok (attr_of listing shares truncs))) (truncs_look listing.room home) (λ truncs. tt)

  -- the same of the index that tells of a file
  pub telling_looks : (listing : Listing) → Home listing.room → Seeks (by_itself (programs_from 1 listing 0) [] (tells_by listing))
  telling_looks listing home = each_looks 1 listing home (range_with_len 0 (1 - 0)) [] (tells_by listing) (λ shares. tells_looks listing home shares)

-- ---- with what its caller has

module _ (me : ℕ) where
  looked_fine : (room : ℕ) (look : Looking) (m next : Moment) (rep : Reply) → Stepped me m (Look room look) rep next → IsFound IsLacking Anywhere rep
  looked_fine room look m next rep s why is = elim (s.reason why is) as (λ _. IsLacking why) [
    | inl check ↦ roomed_so (room == m.state.marks) why check
    | inr lacks ↦ lacks.0
  ]

  pub look_fine : (call : Call) → IsLooking IsLacking Anywhere call → (m next : Moment) (rep : Reply) → Stepped me m call rep next → IsFound IsLacking Anywhere rep
  look_fine (Look room look) is m next rep s = looked_fine room look m next rep s
  look_fine call is m next rep s = absurd is

  -- what stays while it looks is there behind it
  pub through : {A S : Type 0} (fact : Fact) (good : S → Type 0) → ((call : Call) (m next : Moment) (rep : Reply) → IsLooking IsLacking Anywhere call → Stepped me m call rep next → IsSo me fact m → IsSo me fact next)
      → (p : Tries A) (after : Result A Stuck → Program Call Reply S) → Seeks IsLacking Anywhere p → ((result : Result A Stuck) → IsFine result → Goes me good fact (after result)) → Goes me good fact (followed_by p after)
  through fact good stays (done r) after seeks on = on r seeks
  through fact good stays (ask call k) after seeks on = λ m next rep s so. (fact, stays call m next rep seeks.0 s so, through fact good stays (k rep) after (seeks.1 rep (look_fine call seeks.0 m next rep s)) on)

  -- a look at a container that is there isn't refused
  pub look_there : (room : ℕ) (call : Call) → IsLooking never_refused (At room) call → (m next : Moment) (rep : Reply) → Stepped me m call rep next → IsContainerAt m room → IsFound never_refused (At room) rep
  look_there room (Look k look) is m next rep s had why refused = elim (s.reason why refused) as (λ _. ⊥) [
    | inl check ↦ no_check m s.sound room had why (subst (λ (x : ℕ). room_check m.state x ≡ Some why) is check)
    | inr lacks ↦ has_room m s.sound room had (subst (LacksRoom s.sound.shape.tree) is (lacks.1 s.sound.shape.tree s.sound.shape.told))
  ]
  look_there room call is m next rep s had why refused = absurd is

  -- so it goes on without a refusal
  pub there_goes : {A : Type 0} (room : ℕ) (p : Tries A) → Seeks never_refused (At room) p → Goes me (EndsFine never_refused (At room)) (stands room) p
  there_goes room (done r) seeks = seeks
  there_goes room (ask call k) seeks = λ m next rep s so. (stands room, s.grows room so, there_goes room (k rep) (seeks.1 rep (look_there room call seeks.0 m next rep s so)))
