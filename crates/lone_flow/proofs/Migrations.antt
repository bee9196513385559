-- A migration ends in a fault only where one was answered.
use Rattle.std.proofs.Common.{◌≡◌, ◌≢◌, ◌⊎◌, inl, inr, ℕ, zero, suc, ◌-◌, ◌*◌, ◌/◌, Bool, true, false, List, [], ◌∷◌, ◌++◌, Option, Some, None, Result, Ok, Err, nat_lt, sym, ap, ◌∙◌, subst}
use Rattle.std.specs.Prelude.{if◌then◌else◌, ◌==◌}
use Rattle.plfs_types.specs.declared.names.Path.{Path}
use Rattle.store_api.specs.declared.step.Answer.{Answer}
use Rattle.store_api.specs.declared.step.Answer.TheVariants as answer
use Rattle.container_layout.specs.declared.items.Item.{Item}
use Rattle.container_layout.specs.declared.items.Item.TheVariants as item
use Rattle.container_layout.specs.Paths.{hostdir_of}
use Rattle.plfs_types.specs.declared.limits.TheConstants.{MAX_PACKED}
use Rattle.mount_model.specs.declared.stuck.Stuck.{Stuck}
use Rattle.mount_model.specs.Program.{done, ask, followed_by}
use Rattle.mount_model.specs.declared.call.Call.TheVariants.{Look}
use Rattle.mount_model.specs.declared.call.Look.{Look as Looking}
use Rattle.mount_model.specs.declared.call.Look.TheVariants.{Length, List as ListFolder, Read, Top}
use Rattle.mount_model.specs.declared.reply.Refusal.{Refusal}
use Rattle.mount_model.specs.declared.reply.Reply.{Reply}
use Rattle.mount_model.specs.declared.reply.Reply.TheVariants.{Done, Fault, Looked, NoMemory, Room, Started}
use Rattle.mount_model.specs.Paths.{Name, flats, index_path, metadata, truncs}
use Rattle.mount_model.specs.Replies.{IsTrouble, refused, damaged, fault, no_memory}
use Rattle.mount_model.specs.declared.names.Metadata.{Metadata}
use Rattle.mount_model.specs.FlowListed.{file_in, or_trouble, told_by}
use Rattle.mount_model.specs.Names.{meta_in}
use Rattle.mount_model.specs.FlowReplies.{Tries, bytes_in, damage, failure, given, on_ok, room_in, trouble, names_in}
use Rattle.index_reader.specs.declared.listing.Listing.{Listing}
use Rattle.index_reader.specs.declared.scanning.Scan.{Scan}
use Rattle.index_reader.specs.Opening.{listed, listing_of, lone_pack, no_flat, scans, uncovered, unless_lone, unless_uncovered}
use Rattle.index_reader.specs.Scanning as scanning
use Rattle.index_reader.specs.Scanning.{foreign_in, has_writer, nothing_found, scanned, taken, taken_all, unless_foreign}
use Rattle.index_reader.specs.Items.{hostdir_item}
use Rattle.index_reader.specs.Searching.{has_name}
use Rattle.index_reader.specs.Tops.{access, foreign_at_top, required, shown, top_shows}
use Rattle.container_layout.specs.Paths.{hostdirs}
use Rattle.migrate_core.specs.declared.migrated.Migrated.{Migrated}
use Rattle.migrate_core.specs.Chosen.{chosen, metas_named}
use Rattle.migrate_core.specs.Counting.{noted, nothing}
use Rattle.migrate_core.specs.Entries.{checked, no_entries}
use Rattle.migrate_core.specs.Migrating.{lists_metadata, migrate_at_program, migrate_program, migrates, migrates_listed, migrates_shown}
use Rattle.migrate_core.specs.Words.{Fate, Packed, Tail, is_packed, passed_over}
use Rattle.migrate_core.specs.Writers.{counts_of, flat_in, if_done, installs, or_damage, puts, reads, reads_then, sized, starts, syncs, writer_program}
use Rattle.mount_model.specs.Entries.{next_read, reads_of}
use Rattle.index_reader.specs.Replies.{number_in}
use Rattle.lone_flow.proofs.Causes.{EndsWell, HasNoFault, IsAnswered, IsNoFault, either_well, failure_plain, given_well, look_plain, on_ok_well, then_well}

either_fine : {X : Type 0} (b : Bool) (x y : Result X Stuck) → HasNoFault x → HasNoFault y → HasNoFault (if b then x else y)
either_fine true x y one other = one
either_fine false x y one other = other

-- ---- looks

-- what a look gives leads on
look_well : {A R : Type 0} (room : ℕ) (look : Looking) (f : Reply → Option A) (path : Path) (next : A → Tries R) → ((a : A) → EndsWell (next a)) → EndsWell (ask (Look room look) (λ reply. given (f reply) (trouble path reply) next))
look_well room look f path next goes = λ reply answered. given_well (f reply) (trouble path reply) next (λ none. look_plain room look path reply answered) goes

-- the same by the words of a reader
same_trouble : (path : Path) (told : Answer) → IsNoFault (trouble path (Looked told))
same_trouble path answer.NoFolder = tt
same_trouble path answer.Made = tt
same_trouble path (answer.Old room) = tt
same_trouble path answer.Absent = tt
same_trouble path answer.NoRoom = tt
same_trouble path (answer.NotEmpty least) = tt
same_trouble path answer.TargetThere = tt
same_trouble path (answer.Names names) = tt
same_trouble path (answer.Number value) = tt
same_trouble path (answer.Bytes bytes) = tt
same_trouble path answer.Beyond = tt

read_troubled : {may : Refusal → Type 0} (path : Path) (reply : Reply) → reply ≢ NoMemory → reply ≢ Fault → IsTrouble may reply → IsNoFault (trouble path reply)
read_troubled path reply had good (refused why may e) = subst (λ (r : Reply). IsNoFault (trouble path r)) (sym e) tt
read_troubled path reply had good (damaged folder file e) = subst (λ (r : Reply). IsNoFault (trouble path r)) (sym e) tt
read_troubled path reply had good (fault e) = absurd (good e)
read_troubled path reply had good (no_memory e) = absurd (had e)

read_plain : (room : ℕ) (look : Looking) (path : Path) (reply : Reply) → IsAnswered (Look room look) reply → IsNoFault (trouble path reply)
read_plain room look path reply answered = elim answered.fits as (λ _. IsNoFault (trouble path reply)) [
  | inl p ↦ subst (λ (r : Reply). IsNoFault (trouble path r)) (sym p.2) (same_trouble path p.0)
  | inr t ↦ read_troubled path reply answered.has_memory answered.is_good t
]

read_given : {A R : Type 0} (found : Option A) (why : Stuck) (next : A → Tries R) → IsNoFault why → ((a : A) → EndsWell (next a)) → EndsWell (given found why next)
read_given None why next fine goes = fine
read_given (Some a) why next fine goes = goes a

read_on_ok : {A R : Type 0} (next : A → Tries R) (result : Result A Stuck) → HasNoFault result → ((a : A) → EndsWell (next a)) → EndsWell (on_ok next result)
read_on_ok next (Ok a) fine goes = goes a
read_on_ok next (Err why) fine goes = fine

read_well : {A R : Type 0} (room : ℕ) (look : Looking) (f : Reply → Option A) (path : Path) (next : A → Tries R) → ((a : A) → EndsWell (next a)) → EndsWell (ask (Look room look) (λ reply. given (f reply) (trouble path reply) next))
read_well room look f path next goes = λ reply answered. read_given (f reply) (trouble path reply) next (read_plain room look path reply answered) goes

-- ---- listings

foreign_fine : {X : Type 0} (folder : Name) (found : Option Name) (next : Result X Stuck) → HasNoFault next → HasNoFault (unless_foreign folder found next)
foreign_fine folder None next fine = fine
foreign_fine folder (Some name) next fine = tt

taken_fine : (path : Path) (found : Option Item) (scan : Scan) (next : Scan → Result Scan Stuck) → ((more : Scan) → HasNoFault (next more)) → HasNoFault (taken path found scan next)
taken_fine path (Some (item.Index host writer)) scan next fine = either_fine (has_writer writer scan.indices) (Err (damage path 0)) _ tt (fine _)
taken_fine path (Some (item.Packed host writer)) scan next fine = either_fine (has_writer writer scan.packs) (Err (damage path 0)) _ tt (fine _)
taken_fine path other scan next fine = fine scan

taken_all_fine : (folder : Name) (names : List Name) (scan : Scan) → HasNoFault (taken_all folder names scan)
taken_all_fine folder [] scan = tt
taken_all_fine folder (name ∷ names) scan = taken_fine (file_in folder name) (hostdir_item (file_in folder name)) scan (λ more. taken_all folder names more) (λ more. taken_all_fine folder names more)

scanned_fine : (folder : Name) (names : List Name) (scan : Scan) → HasNoFault (scanned folder names scan)
scanned_fine folder names scan = foreign_fine folder (foreign_in folder names) (taken_all folder names scan) (taken_all_fine folder names scan)

uncovered_fine : {X : Type 0} (id : ℕ) (found : Option ℕ) (next : Result X Stuck) → HasNoFault next → HasNoFault (unless_uncovered id found next)
uncovered_fine id None next fine = fine
uncovered_fine id (Some index) next fine = tt

-- what a scan's lists are of
abbrev item_type : {A : Type 0} → List A → Type 0
item_type {A} items = A

lone_fine : {X : Type 0} (found : Option (item_type nothing_found.indices)) (next : Result X Stuck) → HasNoFault next → HasNoFault (unless_lone found next)
lone_fine None next fine = fine
lone_fine (Some owner) next fine = tt

listed_fine : (room : ℕ) (scan : Scan) → HasNoFault (listed room 0 no_flat scan)
listed_fine room scan =
    uncovered_fine 0 (uncovered scan.indices 0 no_flat.covers) (unless_lone (lone_pack scan.indices scan.packs) (Ok (listing_of room no_flat scan)))
    (lone_fine (lone_pack scan.indices scan.packs) (Ok (listing_of room no_flat scan)) tt)

scans_well : (room : ℕ) (ks : List ℕ) (scan : Scan) → EndsWell (scans room 0 no_flat ks scan)
scans_well room [] scan = listed_fine room scan
scans_well room (k ∷ ks) scan = read_well room (ListFolder (hostdir_of k)) names_in (file_in (hostdir_of k) []) _
    (λ names. read_on_ok (λ found. scans room 0 no_flat ks found) (scanned (hostdir_of k) names scan) (scanned_fine (hostdir_of k) names scan) (λ found. scans_well room ks found))

required_fine : {X : Type 0} (name : Name) (path : Path) (names : List Name) (next : Result X Stuck) → HasNoFault next → HasNoFault (required name path names next)
required_fine name path names next fine = either_fine (has_name name names) next (Err (damage path 0)) fine tt

top_fine : (names : List Name) → HasNoFault (top_shows names)
top_fine names =
    foreign_fine [] (foreign_at_top names) _
    (required_fine access (file_in [] access) names _
    (required_fine flats (file_in flats []) names _
    (required_fine metadata (file_in metadata []) names _
    (required_fine truncs (file_in truncs []) names (Ok (shown names hostdirs)) tt))))

-- ---- the packed index is made

done_well : {may : Refusal → Type 0} (next : Tries Fate) → EndsWell next → (reply : Reply) → reply ≢ NoMemory → reply ≢ Fault → (reply ≡ Done) ⊎ IsTrouble may reply → EndsWell (if_done next reply)
done_well next well reply had good (inl is) = subst (λ (r : Reply). EndsWell (if_done next r)) (sym is) well
done_well next well reply had good (inr (refused why may e)) = subst (λ (r : Reply). EndsWell (if_done next r)) (sym e) tt
done_well next well reply had good (inr (damaged folder file e)) = subst (λ (r : Reply). EndsWell (if_done next r)) (sym e) tt
done_well next well reply had good (inr (fault e)) = absurd (good e)
done_well next well reply had good (inr (no_memory e)) = absurd (had e)

installs_well : (flat : ℕ) (packed : Packed) → EndsWell (installs flat packed)
installs_well flat packed = λ reply answered. done_well (done (Ok (is_packed packed))) tt reply answered.has_memory answered.is_good answered.fits

syncs_well : (flat : ℕ) (packed : Packed) → EndsWell (syncs flat packed)
syncs_well flat packed = λ reply answered. done_well (installs flat packed) (installs_well flat packed) reply answered.has_memory answered.is_good answered.fits

puts_well : (bytes : List ℕ) (packed : Packed) (flat : ℕ) → EndsWell (puts bytes packed flat)
puts_well bytes packed flat = λ reply answered. done_well (syncs flat packed) (syncs_well flat packed) reply answered.has_memory answered.is_good answered.fits

start_plain : {may : Refusal → Type 0} (reply : Reply) → reply ≢ NoMemory → reply ≢ Fault → ((flat : ℕ) × (reply ≡ Started flat)) ⊎ IsTrouble may reply → flat_in reply ≡ None → IsNoFault (failure reply)
start_plain reply had good (inl p) none = absurd (let bad : Some p.0 ≡ None = sym (ap flat_in p.1) ∙ none in cc)
start_plain reply had good (inr t) none = failure_plain reply had good t

starts_well : (room : ℕ) (m : Metadata) (bytes : List ℕ) (packed : Packed) → EndsWell (starts room m bytes packed)
starts_well room m bytes packed = λ reply answered. given_well (flat_in reply) (failure reply) (puts bytes packed) (λ none. start_plain reply answered.has_memory answered.is_good answered.fits none) (puts_well bytes packed)

-- ---- the entries are read

or_damage_well : (path : Path) (next : Tail → Tries Fate) (found : Result Tail ℕ) → ((tail : Tail) → EndsWell (next tail)) → EndsWell (or_damage path next found)
or_damage_well path next (Ok tail) goes = goes tail
or_damage_well path next (Err place) goes = tt

reads_then_well : (room : ℕ) (m : Metadata) (left : ℕ) (tail : Tail) (more : Tail → Tries Fate) → ((later : Tail) → EndsWell (more later)) → EndsWell (reads_then room m left tail more)
reads_then_well room m left tail more goes =
    look_well room (Read (index_path m.host m.writer) (40 * tail.cover.count) (40 * next_read left)) bytes_in (index_path m.host m.writer) _
    (λ bytes. or_damage_well (index_path m.host m.writer) more (checked (next_read left) bytes tail) goes)

reads_well : (n room : ℕ) (m : Metadata) (left : ℕ) (tail : Tail) → EndsWell (reads n room m left tail)
reads_well zero room m left tail = starts_well room m _ (counts_of tail.entries)
reads_well (suc n) room m left tail = reads_then_well room m left tail (λ more. reads n room m (left - next_read left) more) (λ more. reads_well n room m (left - next_read left) more)

sized_well : (room : ℕ) (m : Metadata) (told count : ℕ) → EndsWell (sized room m told count)
sized_well room m told count =
    either_well (nat_lt MAX_PACKED count) (done (Ok passed_over)) _ tt
    (either_well (count == 0) (done (Err (damage (index_path m.host m.writer) told))) _ tt (reads_well (reads_of count) room m count (no_entries m.writer)))

writer_well : (room : ℕ) (m : Metadata) → EndsWell (writer_program room m)
writer_well room m = look_well room (Length (index_path m.host m.writer)) number_in (index_path m.host m.writer) _ (λ told. sized_well room m told (told / 40))

-- ---- all of it

migrates_well : (room : ℕ) (metas : List Metadata) (sofar : Migrated) → EndsWell (migrates room metas sofar)
migrates_well room [] sofar = tt
migrates_well room (m ∷ metas) sofar = then_well (writer_program room m) (λ fate. migrates room metas (noted fate sofar)) (writer_well room m) (λ fate. migrates_well room metas (noted fate sofar))

or_fine : {A B : Type 0} (found : Option A) (why : Stuck) (next : A → Result B Stuck) → IsNoFault why → ((a : A) → HasNoFault (next a)) → HasNoFault (or_trouble found why next)
or_fine None why next fine goes = fine
or_fine (Some a) why next fine goes = goes a

metas_fine : (names : List Name) (sofar : List Metadata) → HasNoFault (metas_named names sofar)
metas_fine [] sofar = tt
metas_fine (name ∷ names) sofar = or_fine (meta_in name) (damage (file_in metadata name) 0) (λ (m : Metadata). metas_named names (sofar ++ m ∷ [])) tt (λ m. metas_fine names (sofar ++ m ∷ []))

metadata_well : (room : ℕ) (scan : Tries Listing) → EndsWell scan → EndsWell (lists_metadata room scan)
metadata_well room scan well = λ reply answered.
    on_ok_well (λ metas. followed_by scan (on_ok (migrates_listed room metas))) (told_by metadata (λ names. metas_named names []) reply)
    (or_fine _ (trouble (file_in metadata []) reply) (λ names. metas_named names []) (look_plain room (ListFolder metadata) (file_in metadata []) reply answered) (λ names. metas_fine names []))
    (λ metas. then_well scan (migrates_listed room metas) well (λ listing. migrates_well room (chosen listing.droppings metas) nothing))

at_well : (room : ℕ) → EndsWell (migrate_at_program room)
at_well room = read_well room Top names_in (file_in [] []) _
    (λ names. read_on_ok (migrates_shown room) (top_shows names) (top_fine names) (λ folders. metadata_well room (scans room 0 no_flat folders nothing_found) (scans_well room folders nothing_found)))

find_plain : {may : Refusal → Type 0} (reply : Reply) → reply ≢ NoMemory → reply ≢ Fault → ((room : ℕ) × (reply ≡ Room room)) ⊎ IsTrouble may reply → room_in reply ≡ None → IsNoFault (failure reply)
find_plain reply had good (inl p) none = absurd (let bad : Some p.0 ≡ None = sym (ap room_in p.1) ∙ none in cc)
find_plain reply had good (inr t) none = failure_plain reply had good t

pub migration_well : (name : Name) → EndsWell (migrate_program name)
migration_well name = λ reply answered. given_well (room_in reply) (failure reply) migrate_at_program (λ none. find_plain reply answered.has_memory answered.is_good answered.fits none) at_well
