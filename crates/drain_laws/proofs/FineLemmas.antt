-- A program that reads a container ends in trouble only as its replies do, or in damage.
use Rattle.std.proofs.Common.{ℕ, zero, suc, ◌+◌, ◌-◌, ◌*◌, ◌/◌, nat_le, nat_lt, min, drop, Bool, true, false, List, [], ◌∷◌, ◌++◌, length, Option, Some, None}
use Rattle.std.specs.Prelude.{Result, Ok, Err, if◌then◌else◌}
use Rattle.plfs_types.specs.declared.entries.Trunc.{Trunc}
use Rattle.plfs_types.specs.declared.names.Path.{Path}
use Rattle.container_layout.specs.declared.items.Item.{Item}
use Rattle.container_layout.specs.declared.items.Item.TheVariants as item
use Rattle.container_layout.specs.Paths.{hostdir_of}
use Rattle.mount_model.specs.declared.reply.Reply.{Reply}
use Rattle.mount_model.specs.Paths.{Name, flats, index_path, log_path, metadata, truncs}
use Rattle.mount_model.specs.declared.names.Metadata.{Metadata}
use Rattle.mount_model.specs.declared.stuck.Stuck.{Stuck}
use Rattle.mount_model.specs.declared.stuck.Stuck.TheVariants as stuck
use Rattle.mount_model.specs.FlowListed.{file_in, known, or_trouble, told_by}
use Rattle.mount_model.specs.Names.{meta_in, trunc_in}
use Rattle.mount_model.specs.FlowReplies.{Tries, bytes_in, damage, given, names_in, on_ok, trouble}
use Rattle.mount_model.specs.Program.{done, ask, followed_by}
use Rattle.flat_format.specs.declared.flat.Flat.{Flat}
use Rattle.index_reader.specs.declared.entries.Tail.{Tail}
use Rattle.index_reader.specs.declared.listing.Dropping.{Dropping as Listed}
use Rattle.index_reader.specs.declared.scanning.Scan.{Scan}
use Rattle.index_entry.specs.Spelling.{entry_in}
use Rattle.mount_model.specs.Entries.{is_next}
use Rattle.index_reader.specs.Covered.{cover_of}
use Rattle.index_reader.specs.Entries.{checked, longer}
use Rattle.index_reader.specs.Items.{hostdir_item}
use Rattle.index_reader.specs.Opening.{listed, listing_of, lone_pack, no_flat, scan_program, scans, uncovered, unless_lone, unless_uncovered}
use Rattle.index_reader.specs.Packs.{no_tail, packed_path}
use Rattle.index_reader.specs.Replies.{log_length_in, number_in}
use Rattle.index_reader.specs.Scanning.{foreign_in, has_writer, nothing_found, scanned, taken, taken_all, unless_foreign}
use Rattle.index_reader.specs.Searching.{has_name}
use Rattle.index_reader.specs.Tails.{if_checked, if_logged, if_told, log_then, looked, reads, reads_left, tail_program}
use Rattle.mount_model.specs.Entries.{next_read, reads_of}
use Rattle.index_reader.specs.Tops.{access, foreign_at_top, required, shown, top_shows}
use Rattle.container_layout.specs.Paths.{hostdirs}
use Rattle.index_reader.specs.Truncs.{if_trunc, inserted, trunc_program, truncs_of, truncs_path}
use Rattle.drain_read.specs.declared.held.Mirror.{Mirror}
use Rattle.drain_read.specs.declared.read.Known.{Known}
use Rattle.drain_read.specs.declared.read.WriterRead.{WriterRead}
use Rattle.drain_read.specs.Holding.{held_program, lists_settled, measures, measures_all, mirror_of, settled_named, unknown}
use Rattle.drain_read.specs.Reading.{contained_program, contains, read_as, reads_all, reads_listed}

-- replies of a kind, and the troubles that they lead to, of which damage is one
module _ (Good : Reply → Type 0) (Fine : Stuck → Type 0) (hurt : (folder file : Name) (place : ℕ) → Fine (stuck.Damaged folder file place)) (troubled : (path : Path) (reply : Reply) → Good reply → Fine (trouble path reply)) where
  abbrev pub EndsFine : {X : Type 0} → Result X Stuck → Type 0
  EndsFine (Ok x) = Unit {0}
  EndsFine (Err why) = Fine why

  -- whatever is replied of this kind, it ends well or in such a trouble
  abbrev pub IsFineOn : {X : Type 0} → Tries X → Type 0
  IsFineOn (done out) = EndsFine out
  IsFineOn (ask call k) = (reply : Reply) → Good reply → IsFineOn (k reply)

  -- ---- how programs are put together

  fine_then : {A X : Type 0} (p : Tries A) (next : A → Tries X) → IsFineOn p → ((a : A) → IsFineOn (next a)) → IsFineOn (followed_by p (on_ok next))
  fine_then (done (Ok a)) next fine goes = goes a
  fine_then (done (Err why)) next fine goes = fine
  fine_then (ask q k) next fine goes = λ reply good. fine_then (k reply) next (fine reply good) goes

  fine_given : {A X : Type 0} (o : Option A) (why : Stuck) (next : A → Tries X) → Fine why → ((a : A) → IsFineOn (next a)) → IsFineOn (given o why next)
  fine_given None why next fine goes = fine
  fine_given (Some a) why next fine goes = goes a

  fine_ok : {A X : Type 0} (next : A → Tries X) (value : Result A Stuck) → EndsFine value → ((a : A) → IsFineOn (next a)) → IsFineOn (on_ok next value)
  fine_ok next (Ok a) fine goes = goes a
  fine_ok next (Err why) fine goes = fine

  fine_if : {X : Type 0} (test : Bool) (p q : Tries X) → IsFineOn p → IsFineOn q → IsFineOn (if test then p else q)
  fine_if true p q one other = one
  fine_if false p q one other = other

  ends_if : {X : Type 0} (test : Bool) (p q : Result X Stuck) → EndsFine p → EndsFine q → EndsFine (if test then p else q)
  ends_if true p q one other = one
  ends_if false p q one other = other

  hurt_at : (path : Path) (place : ℕ) → Fine (damage path place)
  hurt_at path place = hurt path.folder path.file place

  -- ---- the scan

  not_foreign : {X : Type 0} (folder : Name) (o : Option Name) (next : Result X Stuck) → EndsFine next → EndsFine (unless_foreign folder o next)
  not_foreign folder None next fine = fine
  not_foreign folder (Some name) next fine = hurt_at (file_in folder name) 0

  taken_fine : (path : Path) (o : Option Item) (scan : Scan) (next : Scan → Result Scan Stuck) → ((s : Scan) → EndsFine (next s)) → EndsFine (taken path o scan next)
  taken_fine path None scan next goes = goes scan
  taken_fine path (Some (item.Index host writer)) scan next goes = ends_if (has_writer writer scan.indices) _ _ (hurt_at path 0) (goes _)
  taken_fine path (Some (item.Packed host writer)) scan next goes = ends_if (has_writer writer scan.packs) _ _ (hurt_at path 0) (goes _)
  taken_fine path (Some other) scan next goes = goes scan

  all_fine : (folder : Name) (names : List Name) (scan : Scan) → EndsFine (taken_all folder names scan)
  all_fine folder [] scan = tt
  all_fine folder (name ∷ names) scan = taken_fine (file_in folder name) (hostdir_item (file_in folder name)) scan (λ more. taken_all folder names more) (λ more. all_fine folder names more)

  scanned_fine : (folder : Name) (names : List Name) (scan : Scan) → EndsFine (scanned folder names scan)
  scanned_fine folder names scan = not_foreign folder (foreign_in folder names) (taken_all folder names scan) (all_fine folder names scan)

  required_fine : {X : Type 0} (name : Name) (path : Path) (names : List Name) (next : Result X Stuck) → EndsFine next → EndsFine (required name path names next)
  required_fine name path names next fine = ends_if (has_name name names) next (Err (damage path 0)) fine (hurt_at path 0)

  top_fine : (names : List Name) → EndsFine (top_shows names)
  top_fine names =
      not_foreign [] (foreign_at_top names) _ (required_fine access (file_in [] access) names _ (required_fine flats (file_in flats []) names _ (required_fine metadata (file_in metadata []) names _ (required_fine truncs (file_in truncs []) names (Ok (shown names hostdirs)) tt))))

  uncovered_fine : {X : Type 0} (id : ℕ) (o : Option ℕ) (next : Result X Stuck) → EndsFine next → EndsFine (unless_uncovered id o next)
  uncovered_fine id None next fine = fine
  uncovered_fine id (Some index) next fine = hurt _ _ _

  listed_fine : (room id : ℕ) (flat : Flat) (scan : Scan) → EndsFine (listed room id flat scan)
  listed_fine room id flat scan = uncovered_fine id (uncovered scan.indices 0 flat.covers) (unless_lone (lone_pack scan.indices scan.packs) (Ok (listing_of room flat scan)))
      (elim (lone_pack scan.indices scan.packs) as (λ o. EndsFine (unless_lone o (Ok (listing_of room flat scan)))) [ None ↦ tt | Some o ↦ hurt_at (packed_path o.host o.writer) 0 ])

  scans_fine : (room id : ℕ) (flat : Flat) (ks : List ℕ) (scan : Scan) → IsFineOn (scans room id flat ks scan)
  scans_fine room id flat [] scan = listed_fine room id flat scan
  scans_fine room id flat (k ∷ ks) scan = λ reply good. fine_given (names_in reply) _ _ (troubled (file_in (hostdir_of k) []) reply good)
      (λ names. fine_ok (λ more. scans room id flat ks more) (scanned (hostdir_of k) names scan) (scanned_fine (hostdir_of k) names scan) (λ more. scans_fine room id flat ks more))

  scan_fine : (room : ℕ) → IsFineOn (scan_program room)
  scan_fine room = λ reply good. fine_given (names_in reply) _ _ (troubled _ reply good)
      (λ names. fine_ok (λ ks. scans room 0 no_flat ks nothing_found) (top_shows names) (top_fine names) (λ ks. scans_fine room 0 no_flat ks nothing_found))

  -- ---- one dropping

  both : {A : Type 0} (P : A → Type 0) (test : Bool) (x y : A) → P x → P y → P (if test then x else y)
  both P true x y one other = one
  both P false x y one other = other

  checked_fine : (d : Listed) (more : Bool → Tail → Tries Tail) (full : Bool) (log count : ℕ) (bytes : List ℕ) (tail : Tail) → ((past : Bool) (longer_ : Tail) → IsFineOn (more past longer_)) → IsFineOn (if_checked d more full (checked log count bytes tail))
  checked_fine d more full log zero bytes tail goes = fine_if full (more false tail) (done (Ok tail)) (goes false tail) tt
  checked_fine d more full log (suc count) bytes tail goes =
      both (λ p. IsFineOn (if_checked d more full p)) (is_next tail.cover (entry_in bytes)) _ _
      (both (λ p. IsFineOn (if_checked d more full p)) (nat_le ((entry_in bytes).physical + (entry_in bytes).len) log) _ _
      (checked_fine d more full log count (drop 40 bytes) (longer (entry_in bytes) tail) goes)
      (fine_if full (more true tail) (done (Ok tail)) (goes true tail) tt))
      (hurt_at (index_path d.host d.writer) (40 * tail.cover.count))

  looked_fine : (d : Listed) (more : Bool → Tail → Tries Tail) (full ended : Bool) (log asked : ℕ) (bytes : List ℕ) (tail : Tail) → ((past : Bool) (longer_ : Tail) → IsFineOn (more past longer_)) → IsFineOn (if_checked d more full (looked ended log asked bytes tail))
  looked_fine d more full true log asked bytes tail goes = fine_if full (more true tail) (done (Ok tail)) (goes true tail) tt
  looked_fine d more full false log asked bytes tail goes = checked_fine d more full log (min (length bytes / 40) asked) bytes tail goes

  reads_fine : (n room : ℕ) (d : Listed) (log whole left : ℕ) (ended : Bool) (tail : Tail) → IsFineOn (reads n room d log whole left ended tail)
  reads_fine zero room d log whole left ended tail = tt
  reads_fine (suc n) room d log whole left ended tail = λ reply good. fine_given (bytes_in reply) (trouble (index_path d.host d.writer) reply) _ (troubled (index_path d.host d.writer) reply good)
      (λ bytes. looked_fine d (λ past after. reads n room d log whole (left - next_read left) past after) (nat_le (40 * next_read left) (length bytes)) ended log (next_read left) bytes tail
      (λ past after. reads_fine n room d log whole (left - next_read left) past after))

  log_fine : (room : ℕ) (d : Listed) (tail : Tail) (whole : ℕ) → IsFineOn (log_then room d tail whole)
  log_fine room d tail whole = λ reply good. fine_given (log_length_in reply) (trouble (log_path d.host d.writer) reply) (if_logged room d tail whole) (troubled (log_path d.host d.writer) reply good)
      (λ log. fine_if (nat_lt log tail.cover.bytes) _ (reads_left room d log whole (whole - tail.cover.count) false tail) (hurt_at (log_path d.host d.writer) log) (reads_fine (reads_of (whole - tail.cover.count)) room d log whole (whole - tail.cover.count) false tail))

  tail_fine : (room : ℕ) (d : Listed) (tail : Tail) → IsFineOn (tail_program room d tail)
  tail_fine room d tail = λ reply good. fine_given (number_in reply) (trouble (index_path d.host d.writer) reply) (if_told room d tail) (troubled (index_path d.host d.writer) reply good)
      (λ told. fine_if (nat_lt (told / 40) tail.cover.count) _ (log_then room d tail (told / 40)) (hurt_at (index_path d.host d.writer) told) (log_fine room d tail (told / 40)))

  -- ---- a container

  trunc_fine : (name : Name) (o : Option Trunc) (next : Trunc → Result (List Trunc) Stuck) → ((t : Trunc) → EndsFine (next t)) → EndsFine (if_trunc name o next)
  trunc_fine name None next goes = hurt_at (truncs_path name) 0
  trunc_fine name (Some t) next goes = goes t

  truncs_fine : (names : List Name) (sofar : List Trunc) → EndsFine (truncs_of names sofar)
  truncs_fine [] sofar = tt
  truncs_fine (name ∷ names) sofar = trunc_fine name (trunc_in name) (λ t. truncs_of names (inserted t sofar)) (λ t. truncs_fine names (inserted t sofar))

  lists_fine : (room : ℕ) → IsFineOn (trunc_program room)
  lists_fine room = λ reply good. fine_given (names_in reply) (trouble (truncs_path []) reply) (λ names. done (truncs_of names [])) (troubled (truncs_path []) reply good) (λ names. truncs_fine names [])

  reads_all_fine : (known_ : Known) (ds : List Listed) (sofar : List WriterRead) → IsFineOn (reads_all known_ ds sofar)
  reads_all_fine known_ [] sofar = fine_then (trunc_program known_.room) (contains known_ sofar) (lists_fine known_.room) (λ ts. tt)
  reads_all_fine known_ (d ∷ ds) sofar =
      fine_then (tail_program known_.room d (no_tail (cover_of d.writer known_.covers))) (λ tail. reads_all known_ ds (sofar ++ read_as known_.keeps d tail ∷ [])) (tail_fine known_.room d (no_tail (cover_of d.writer known_.covers)))
      (λ tail. reads_all_fine known_ ds (sofar ++ read_as known_.keeps d tail ∷ []))

  pub contained_fine : (known_ : Known) → IsFineOn (contained_program known_)
  contained_fine known_ = fine_then (scan_program known_.room) (reads_listed known_) (scan_fine known_.room) (λ listing. reads_all_fine known_ listing.droppings [])

  -- ---- what a target has

  known_fine : (name : Name) (o : Option Metadata) (next : Metadata → Result (List ℕ) Stuck) → ((m : Metadata) → EndsFine (next m)) → EndsFine (known metadata name o next)
  known_fine name None next goes = hurt_at (file_in metadata name) 0
  known_fine name (Some m) next goes = goes m

  settled_fine : (names : List Name) (sofar : List ℕ) → EndsFine (settled_named names sofar)
  settled_fine [] sofar = tt
  settled_fine (name ∷ names) sofar = known_fine name (meta_in name) (λ (m : Metadata). settled_named names (sofar ++ m.writer ∷ [])) (λ m. settled_fine names (sofar ++ m.writer ∷ []))

  measures_fine : (room : ℕ) (settled : List ℕ) (ws : List WriterRead) (sofar : List Mirror) → IsFineOn (measures room settled ws sofar)
  measures_fine room settled [] sofar = tt
  measures_fine room settled (w ∷ ws) sofar = λ reply good. fine_given (log_length_in reply) (trouble (log_path w.host w.writer) reply) (λ log. measures room settled ws (sofar ++ mirror_of w log ∷ [])) (troubled (log_path w.host w.writer) reply good)
      (λ log. measures_fine room settled ws (sofar ++ mirror_of w log ∷ []))

  told_fine : (o : Option (List Name)) (why : Stuck) → Fine why → EndsFine (or_trouble o why (λ names. settled_named names []))
  told_fine None why fine = fine
  told_fine (Some names) why fine = settled_fine names []

  pub held_fine : (room : ℕ) → IsFineOn (held_program room)
  held_fine room = fine_then (contained_program (unknown room)) (lists_settled room) (contained_fine (unknown room))
      (λ contained reply good. fine_ok (measures_all room contained.writers) (told_by metadata (λ names. settled_named names []) reply) (told_fine (names_in reply) (trouble (file_in metadata []) reply) (troubled (file_in metadata []) reply good))
      (λ settled. measures_fine room settled contained.writers []))
