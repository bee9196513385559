-- A reader's programs end in a fault only where one was answered.
use Rattle.std.proofs.Common.{ℕ, zero, suc, ◌+◌, ◌-◌, ◌*◌, ◌/◌, Bool, true, false, List, [], ◌∷◌, ◌++◌, length, take, drop, min, replicate, nat_le, nat_lt, Option, Some, None, Result, Ok, Err, refl}
use Rattle.std.specs.Prelude.{if◌then◌else◌, ◌==◌}
use Rattle.plfs_types.specs.declared.entries.Cover.{Cover}
use Rattle.plfs_types.specs.declared.entries.Entry.{Entry}
use Rattle.plfs_types.specs.declared.entries.Trunc.{Trunc}
use Rattle.plfs_types.specs.declared.names.Path.{Path}
use Rattle.plain_file.specs.declared.parts.WriterHost.{WriterHost}
use Rattle.container_layout.specs.declared.items.Item.{Item}
use Rattle.container_layout.specs.declared.items.Item.TheVariants as item
use Rattle.container_layout.specs.Paths.{hostdir_of}
use Rattle.index_entry.specs.Spelling.{entry_in, number_in as number_at}
use Rattle.index_pack.specs.declared.trouble.TheConstants.{HEAD_SIZE}
use Rattle.flat_format.specs.declared.flat.Flat.{Flat}
use Rattle.read_plan.specs.declared.part.Part.{Part}
use Rattle.mount_model.specs.declared.stuck.Stuck.{Stuck}
use Rattle.mount_model.specs.FlowReplies.{Tries, on_ok, names_in, bytes_in, damage}
use Rattle.mount_model.specs.Entries.{is_next}
use Rattle.mount_model.specs.FlowListed.{file_in}
use Rattle.mount_model.specs.Program.{done, followed_by}
use Rattle.mount_model.specs.declared.call.Look.TheVariants.{Top, Length, Read, List as ListFolder}
use Rattle.mount_model.specs.Paths.{Name, flats, metadata, truncs, flat_path, index_path, log_path}
use Rattle.index_reader.specs.declared.entries.Tail.{Tail}
use Rattle.index_reader.specs.declared.listing.Dropping.{Dropping}
use Rattle.index_reader.specs.declared.placing.Placed.{Placed}
use Rattle.index_reader.specs.declared.placing.Placed.TheVariants.{Zeros, Logged}
use Rattle.index_reader.specs.declared.scanning.Scan.{Scan}
use Rattle.index_reader.specs.declared.sharing.Sofar.{Sofar}
use Rattle.index_reader.specs.Replies.{number_in, log_length_in}
use Rattle.index_reader.specs.Covered.{cover_of}
use Rattle.index_reader.specs.Entries.{longer, checked}
use Rattle.index_reader.specs.FileReads.{first_rest, next_part, parts, parts_of, bytes_left}
use Rattle.index_reader.specs.FlatRules.{flat_fault, flat_told}
use Rattle.index_reader.specs.Items.{flat_item, hostdir_item}
use Rattle.index_reader.specs.Newest.{flats_path, greater_id, if_flat, newest_in}
use Rattle.index_reader.specs.Opening.{flat_first, flat_or_damage, flat_program, flat_rest, if_newest, listed, listing_of, lone_pack, no_flat, open_at_program, open_read_program, scans, top_program, uncovered, unless_lone, unless_uncovered, unless_unfit}
use Rattle.index_reader.specs.PackRules.{pack_told}
use Rattle.index_reader.specs.Packs.{begins_covered, head_fault, head_then, if_headed, no_tail, pack_program, pack_rest, pack_tail, packed_path, run_place, tail_past, writer_of}
use Rattle.index_reader.specs.Reading.{placed_all, ends_at, spells, read_program}
use Rattle.index_reader.specs.Scanning.{foreign_in, has_writer, nothing_found, scanned, taken, taken_all, unless_foreign}
use Rattle.index_reader.specs.Searching.{has_name}
use Rattle.index_reader.specs.Sharing.{added, dropping_program, gathers, nothing, share_program}
use Rattle.index_reader.specs.Tails.{if_checked, if_logged, if_told, log_then, looked, reads, tail_program}
use Rattle.mount_model.specs.Entries.{next_read, reads_of}
use Rattle.index_reader.specs.Tops.{access, foreign_at_top, required, shown, top_shows}
use Rattle.container_layout.specs.Paths.{hostdirs}
use Rattle.mount_model.specs.Names.{trunc_in}
use Rattle.index_reader.specs.Truncs.{if_trunc, inserted, trunc_program, truncs_of, truncs_path}
use Rattle.run_core.proofs.Faults.Looking.{IsFine, Looks, either_of, either_looks, on_ok_looks, then_looks, look_looks, find_looks}

-- ---- a file

parts_look : (n room : ℕ) (path : Path) (told left : ℕ) (sofar : List ℕ) (well : Type 0) → Looks well (parts n room path told left sofar)
parts_look zero room path told left sofar well = λ w. refl
parts_look (suc n) room path told left sofar well = look_looks well room (Read path (told - left) (next_part left)) bytes_in path _
    (λ more bytes. either_looks more (nat_le (next_part left) (length bytes)) (parts n room path told (left - next_part left) (sofar ++ bytes)) (done (Ok (sofar ++ bytes))) (parts_look n room path told (left - next_part left) (sofar ++ bytes) more) (λ w. refl))

bytes_look : {R : Type 0} (room : ℕ) (path : Path) (told left : ℕ) (sofar : List ℕ) (next : List ℕ → Tries R) (well : Type 0) → ((more : Type 0) (bytes : List ℕ) → Looks more (next bytes)) → Looks well (followed_by (bytes_left room path told left sofar) (on_ok next))
bytes_look room path told left sofar next well goes = then_looks well (bytes_left room path told left sofar) next (parts_look (parts_of left) room path told left sofar well) goes

-- ---- a listing

flat_fine : (id : ℕ) (result : Result Flat ℕ) → IsFine (flat_or_damage id result)
flat_fine id (Ok flat) = refl
flat_fine id (Err place) = refl

rest_looks : (room id told : ℕ) (first : List ℕ) (well : Type 0) → Looks well (flat_rest room id told first)
rest_looks room id told first well =
    then_looks well (first_rest room (flat_path id) told first) (λ bytes. done (flat_or_damage id (flat_told bytes)))
    (either_looks well (nat_le (next_part told) (length first)) (bytes_left room (flat_path id) told (told - next_part told) first) (done (Ok first)) (parts_look (parts_of (told - next_part told)) room (flat_path id) told (told - next_part told) first well) (λ w. refl))
    (λ later bytes w. flat_fine id (flat_told bytes))

fit_looks : (id : ℕ) (fault : Option ℕ) (next : Tries Flat) (well : Type 0) → Looks well next → Looks well (unless_unfit id fault next)
fit_looks id None next well goes = goes
fit_looks id (Some place) next well goes = λ w. refl

first_looks : (room id told : ℕ) (well : Type 0) → Looks well (flat_first room id told)
first_looks room id told well = look_looks well room (Read (flat_path id) 0 (next_part told)) bytes_in (flat_path id) _
    (λ more first. fit_looks id (flat_fault told first) (flat_rest room id told first) more (rest_looks room id told first more))

flat_looks : (room id : ℕ) (well : Type 0) → Looks well (flat_program room id)
flat_looks room id well = look_looks well room (Length (flat_path id)) number_in (flat_path id) _
    (λ more told. either_looks more (told == 0) (done (Err (damage (flat_path id) 0))) (flat_first room id told) (λ w. refl) (first_looks room id told more))

foreign_fine : {X : Type 0} (folder : Name) (found : Option Name) (next : Result X Stuck) → IsFine next → IsFine (unless_foreign folder found next)
foreign_fine folder None next fine = fine
foreign_fine folder (Some name) next fine = refl

taken_fine : (path : Path) (found : Option Item) (scan : Scan) (next : Scan → Result Scan Stuck) → ((more : Scan) → IsFine (next more)) → IsFine (taken path found scan next)
taken_fine path (Some (item.Index host writer)) scan next fine = either_of (λ r. IsFine r) (has_writer writer scan.indices) (Err (damage path 0)) _ refl (fine _)
taken_fine path (Some (item.Packed host writer)) scan next fine = either_of (λ r. IsFine r) (has_writer writer scan.packs) (Err (damage path 0)) _ refl (fine _)
taken_fine path other scan next fine = fine scan

taken_all_fine : (folder : Name) (names : List Name) (scan : Scan) → IsFine (taken_all folder names scan)
taken_all_fine folder [] scan = refl
taken_all_fine folder (name ∷ names) scan = taken_fine (file_in folder name) (hostdir_item (file_in folder name)) scan (λ more. taken_all folder names more) (λ more. taken_all_fine folder names more)

scanned_fine : (folder : Name) (names : List Name) (scan : Scan) → IsFine (scanned folder names scan)
scanned_fine folder names scan = foreign_fine folder (foreign_in folder names) (taken_all folder names scan) (taken_all_fine folder names scan)

uncovered_fine : {X : Type 0} (id : ℕ) (found : Option ℕ) (next : Result X Stuck) → IsFine next → IsFine (unless_uncovered id found next)
uncovered_fine id None next fine = fine
uncovered_fine id (Some index) next fine = refl

-- what a scan's lists are of
abbrev item_type : {A : Type 0} → List A → Type 0
item_type {A} items = A

lone_fine : {X : Type 0} (found : Option (item_type nothing_found.indices)) (next : Result X Stuck) → IsFine next → IsFine (unless_lone found next)
lone_fine None next fine = fine
lone_fine (Some owner) next fine = refl

listed_fine : (room id : ℕ) (flat : Flat) (scan : Scan) → IsFine (listed room id flat scan)
listed_fine room id flat scan =
    uncovered_fine id (uncovered scan.indices 0 flat.covers) (unless_lone (lone_pack scan.indices scan.packs) (Ok (listing_of room flat scan)))
    (lone_fine (lone_pack scan.indices scan.packs) (Ok (listing_of room flat scan)) refl)

scans_look : (room id : ℕ) (flat : Flat) (ks : List ℕ) (scan : Scan) (well : Type 0) → Looks well (scans room id flat ks scan)
scans_look room id flat [] scan well = λ w. listed_fine room id flat scan
scans_look room id flat (k ∷ ks) scan well = look_looks well room (ListFolder (hostdir_of k)) names_in (file_in (hostdir_of k) []) _
    (λ more names. on_ok_looks more (λ found. scans room id flat ks found) (scanned (hostdir_of k) names scan) (scanned_fine (hostdir_of k) names scan) (λ found. scans_look room id flat ks found more))

required_fine : {X : Type 0} (name : Name) (path : Path) (names : List Name) (next : Result X Stuck) → IsFine next → IsFine (required name path names next)
required_fine name path names next fine = either_of (λ r. IsFine r) (has_name name names) next (Err (damage path 0)) fine refl

top_fine : (names : List Name) → IsFine (top_shows names)
top_fine names =
    foreign_fine [] (foreign_at_top names) _
    (required_fine access (file_in [] access) names _
    (required_fine flats (file_in flats []) names _
    (required_fine metadata (file_in metadata []) names _
    (required_fine truncs (file_in truncs []) names (Ok (shown names hostdirs)) refl))))

pub top_looks : (room id : ℕ) (flat : Flat) (well : Type 0) → Looks well (top_program room id flat)
top_looks room id flat well = look_looks well room Top names_in (file_in [] []) _
    (λ more names. on_ok_looks more (λ ks. scans room id flat ks nothing_found) (top_shows names) (top_fine names) (λ ks. scans_look room id flat ks nothing_found more))

newest_looks : (room : ℕ) (newest : Option ℕ) (well : Type 0) → Looks well (if_newest room newest)
newest_looks room None well = top_looks room 0 no_flat well
newest_looks room (Some id) well = then_looks well (flat_program room id) (λ flat. top_program room id flat) (flat_looks room id well) (λ more flat. top_looks room id flat more)

if_flat_fine : (name : Name) (found : Option Item) (newest : Option ℕ) (next : Option ℕ → Result (Option ℕ) Stuck) → ((further : Option ℕ) → IsFine (next further)) → IsFine (if_flat name found newest next)
if_flat_fine name None newest next fine = refl
if_flat_fine name (Some (item.Flat id)) newest next fine = fine (greater_id id newest)
if_flat_fine name (Some other) newest next fine = fine newest

newest_fine : (names : List Name) (newest : Option ℕ) → IsFine (newest_in names newest)
newest_fine [] newest = refl
newest_fine (name ∷ names) newest = if_flat_fine name (flat_item (flats_path name)) newest (λ further. newest_in names further) (λ further. newest_fine names further)

pub open_at_looks : (room : ℕ) (well : Type 0) → Looks well (open_at_program room)
open_at_looks room well = look_looks well room (ListFolder flats) names_in (flats_path []) _
    (λ more names. on_ok_looks more (if_newest room) (newest_in names None) (newest_fine names None) (λ newest. newest_looks room newest more))

pub listing_looks : (name : List ℕ) (well : Type 0) → Looks well (open_read_program name)
listing_looks name well = find_looks well name (file_in [] []) open_at_program (λ more room. open_at_looks room more)

-- ---- a share

checked_looks : (d : Dropping) (goes_on : Bool → Tail → Tries Tail) (full : Bool) (log n : ℕ) (bytes : List ℕ) (tail : Tail) (well : Type 0) → ((past : Bool) (next : Tail) → Looks well (goes_on past next)) → Looks well (if_checked d goes_on full (checked log n bytes tail))
checked_looks d goes_on full log zero bytes tail well goes = either_looks well full (goes_on false tail) (done (Ok tail)) (goes false tail) (λ w. refl)
checked_looks d goes_on full log (suc n) bytes tail well goes =
    either_of (λ went. Looks well (if_checked d goes_on full went)) (is_next tail.cover (entry_in bytes)) _ _
    (either_of (λ went. Looks well (if_checked d goes_on full went)) (nat_le ((entry_in bytes).physical + (entry_in bytes).len) log) _ _
    (checked_looks d goes_on full log n (drop 40 bytes) (longer (entry_in bytes) tail) well goes)
    (either_looks well full (goes_on true tail) (done (Ok tail)) (goes true tail) (λ w. refl)))
    (λ w. refl)

looked_looks : (d : Dropping) (goes_on : Bool → Tail → Tries Tail) (full ended : Bool) (log asked : ℕ) (bytes : List ℕ) (tail : Tail) (well : Type 0) → ((past : Bool) (next : Tail) → Looks well (goes_on past next)) → Looks well (if_checked d goes_on full (looked ended log asked bytes tail))
looked_looks d goes_on full true log asked bytes tail well goes = either_looks well full (goes_on true tail) (done (Ok tail)) (goes true tail) (λ w. refl)
looked_looks d goes_on full false log asked bytes tail well goes = checked_looks d goes_on full log (min (length bytes / 40) asked) bytes tail well goes

reads_look : (n room : ℕ) (d : Dropping) (log whole left : ℕ) (ended : Bool) (tail : Tail) (well : Type 0) → Looks well (reads n room d log whole left ended tail)
reads_look zero room d log whole left ended tail well = λ w. refl
reads_look (suc n) room d log whole left ended tail well = look_looks well room (Read (index_path d.host d.writer) (40 * (whole - left)) (40 * next_read left)) bytes_in (index_path d.host d.writer) _
    (λ more bytes. looked_looks d (λ past next. reads n room d log whole (left - next_read left) past next) (nat_le (40 * next_read left) (length bytes)) ended log (next_read left) bytes tail more
    (λ past next. reads_look n room d log whole (left - next_read left) past next more))

log_looks : (room : ℕ) (d : Dropping) (tail : Tail) (whole : ℕ) (well : Type 0) → Looks well (log_then room d tail whole)
log_looks room d tail whole well = look_looks well room (Length (log_path d.host d.writer)) log_length_in (log_path d.host d.writer) (if_logged room d tail whole)
    (λ more log. either_looks more (nat_lt log tail.cover.bytes) (done (Err (damage (log_path d.host d.writer) log))) (reads (reads_of (whole - tail.cover.count)) room d log whole (whole - tail.cover.count) false tail) (λ w. refl)
    (reads_look (reads_of (whole - tail.cover.count)) room d log whole (whole - tail.cover.count) false tail more))

tail_looks : (room : ℕ) (d : Dropping) (tail : Tail) (well : Type 0) → Looks well (tail_program room d tail)
tail_looks room d tail well = look_looks well room (Length (index_path d.host d.writer)) number_in (index_path d.host d.writer) (if_told room d tail)
    (λ more told. either_looks more (nat_lt (told / 40) tail.cover.count) (done (Err (damage (index_path d.host d.writer) told))) (log_then room d tail (told / 40)) (λ w. refl) (log_looks room d tail (told / 40) more))

pack_fine : (path : Path) (cover : Cover) (bytes : List ℕ) (result : Result (List Entry) ℕ) → IsFine (pack_tail path cover bytes result)
pack_fine path cover bytes (Err place) = refl
pack_fine path cover bytes (Ok entries) =
    either_of (λ r. IsFine r) (writer_of entries == cover.writer) (if begins_covered cover entries then Ok (tail_past cover entries) else Err (damage path (run_place cover.count bytes))) (Err (damage path HEAD_SIZE))
    (either_of (λ r. IsFine r) (begins_covered cover entries) (Ok (tail_past cover entries)) (Err (damage path (run_place cover.count bytes))) refl refl) refl

headed_looks : (room : ℕ) (path : Path) (cover : Cover) (told : ℕ) (head : List ℕ) (found : Option ℕ) (well : Type 0) → Looks well (if_headed room path cover told head found)
headed_looks room path cover told head (Some place) well = λ w. refl
headed_looks room path cover told head None well =
    either_looks well (number_at 8 head == cover.count) (done (Ok (no_tail cover))) (pack_rest room path cover told head) (λ w. refl)
    (bytes_look room path told (told - HEAD_SIZE) head (λ bytes. done (pack_tail path cover bytes (pack_told bytes))) well (λ more bytes w. pack_fine path cover bytes (pack_told bytes)))

pack_looks : (room : ℕ) (path : Path) (cover : Cover) (well : Type 0) → Looks well (pack_program room path cover)
pack_looks room path cover well = look_looks well room (Length path) number_in path (head_then room path cover)
    (λ more told. look_looks more room (Read path 0 HEAD_SIZE) bytes_in path _ (λ later head. headed_looks room path cover told head (head_fault told cover.count head) later))

dropping_looks : (room : ℕ) (d : Dropping) (cover : Cover) (well : Type 0) → Looks well (dropping_program room d cover)
dropping_looks room d cover well = either_looks well d.packed (pack_program room (packed_path d.host d.writer) cover) (tail_program room d (no_tail cover)) (pack_looks room (packed_path d.host d.writer) cover well) (tail_looks room d (no_tail cover) well)

gathers_look : (room : ℕ) (covers : List Cover) (ds : List Dropping) (sofar : Sofar) (well : Type 0) → Looks well (gathers room covers ds sofar)
gathers_look room covers [] sofar well = λ w. refl
gathers_look room covers (d ∷ ds) sofar well =
    then_looks well (dropping_program room d (cover_of d.writer covers)) (λ tail. gathers room covers ds (added tail sofar)) (dropping_looks room d (cover_of d.writer covers) well) (λ more tail. gathers_look room covers ds (added tail sofar) more)

pub share_looks : (room : ℕ) (share : List Dropping) (covers : List Cover) (well : Type 0) → Looks well (share_program room share covers)
share_looks room share covers well = gathers_look room covers share nothing well

-- ---- truncates

if_trunc_fine : (name : Name) (found : Option Trunc) (next : Trunc → Result (List Trunc) Stuck) → ((t : Trunc) → IsFine (next t)) → IsFine (if_trunc name found next)
if_trunc_fine name None next fine = refl
if_trunc_fine name (Some t) next fine = fine t

truncs_fine : (names : List Name) (sofar : List Trunc) → IsFine (truncs_of names sofar)
truncs_fine [] sofar = refl
truncs_fine (name ∷ names) sofar = if_trunc_fine name (trunc_in name) (λ t. truncs_of names (inserted t sofar)) (λ t. truncs_fine names (inserted t sofar))

pub truncs_look : (room : ℕ) (well : Type 0) → Looks well (trunc_program room)
truncs_look room well = look_looks well room (ListFolder truncs) names_in (truncs_path []) _ (λ more names w. truncs_fine names [])

-- ---- a read

spells_look : (room : ℕ) (parts : List Placed) (sofar : List ℕ) (well : Type 0) → Looks well (spells room parts sofar)
spells_look room [] sofar well = λ w. refl
spells_look room (Zeros len ∷ parts) sofar well = spells_look room parts (sofar ++ replicate len 0) well
spells_look room (Logged p ∷ parts) sofar well = look_looks well room (Read (log_path p.host p.writer) p.at p.len) bytes_in (log_path p.host p.writer) _
    (λ more bytes. either_looks more (nat_lt (length bytes) p.len) (done (Err (damage (log_path p.host p.writer) (ends_at p (length bytes))))) (spells room parts (sofar ++ take p.len bytes)) (λ w. refl) (spells_look room parts (sofar ++ take p.len bytes) more))

pub read_looks : (room : ℕ) (hosts : List WriterHost) (parts : List Part) (well : Type 0) → Looks well (read_program room hosts parts)
read_looks room hosts parts well = spells_look room (placed_all hosts parts) [] well
