-- The program that reads a container reads no log, and syncs nothing.
use Rattle.std.proofs.Common.{◌≡◌, ℕ, zero, suc, ◌+◌, ◌-◌, ◌*◌, ◌/◌, nat_eq, nat_le, nat_lt, Bool, true, false, List, [], ◌∷◌, ◌++◌, length, min, drop, Option, Some, None, ap}
use Rattle.std.specs.Prelude.{Result, Ok, Err, if◌then◌else◌}
use Rattle.plfs_types.specs.declared.names.Path.{Path}
use Rattle.container_layout.specs.Paths.{hostdir_of}
use Rattle.index_entry.specs.Spelling.{entry_in}
use Rattle.mount_model.specs.declared.call.Call.TheVariants.{Find, Look}
use Rattle.mount_model.specs.declared.call.Look.TheVariants.{Top, List as ListFolder, Length, Read}
use Rattle.mount_model.specs.Paths.{Name, index_path, log_path, truncs}
use Rattle.mount_model.specs.declared.stuck.Stuck.{Stuck}
use Rattle.mount_model.specs.Entries.{is_next}
use Rattle.mount_model.specs.FlowReplies.{Tries, bytes_in, given, names_in, on_ok}
use Rattle.mount_model.specs.Program.{done, ask, followed_by}
use Rattle.index_reader.specs.declared.entries.Tail.{Tail}
use Rattle.index_reader.specs.declared.listing.Dropping.{Dropping as Listed}
use Rattle.index_reader.specs.declared.scanning.Scan.{Scan}
use Rattle.index_reader.specs.Covered.{cover_of}
use Rattle.index_reader.specs.Entries.{checked, longer}
use Rattle.index_reader.specs.Opening.{no_flat, scan_program, scans}
use Rattle.index_reader.specs.Packs.{no_tail}
use Rattle.index_reader.specs.Replies.{log_length_in, number_in}
use Rattle.index_reader.specs.Scanning.{nothing_found, scanned}
use Rattle.index_reader.specs.Tails.{if_checked, if_logged, if_told, log_then, looked, reads, reads_left, tail_program}
use Rattle.mount_model.specs.Entries.{next_read, reads_of}
use Rattle.index_reader.specs.Tops.{top_shows}
use Rattle.index_reader.specs.Truncs.{trunc_program, truncs_of}
use Rattle.flat_format.specs.declared.flat.Flat.{Flat}
use Rattle.drain_read.specs.declared.read.Known.{Known}
use Rattle.drain_read.specs.declared.read.WriterRead.{WriterRead}
use Rattle.drain_read.specs.Reading.{contained_program, contains, read_as, reads_all, reads_listed}
use Rattle.drain_laws.specs.Resting.{SparesAll}
use Rattle.drain_laws.proofs.Driving.Passing.{AsksOnly}

-- ---- the calls

-- whether the name begins with an i, as that of an index dropping does
abbrev begins_so : Name → Bool
begins_so [] = false
begins_so (letter ∷ name) = nat_eq letter 105

no_log : (h w host writer : ℕ) → index_path h w ≡ log_path host writer → ⊥
no_log h w host writer e = let clash : true ≡ false = ap (λ (p : Path). begins_so p.file) e in cc

read_path : (a b : Path) (room from at len place most : ℕ) → Look room (Read a at len) ≡ Look from (Read b place most) → a ≡ b
read_path a b room from at len place most e = cc

pub spares_find : (name : Name) → SparesAll (Find name)
spares_find name = (λ from host writer at len e. cc, λ room host writer is_log e. cc)

spares_top : (room : ℕ) → SparesAll (Look room Top)
spares_top room = (λ from host writer at len e. cc, λ r host writer is_log e. cc)

spares_list : (room : ℕ) (folder : Name) → SparesAll (Look room (ListFolder folder))
spares_list room folder = (λ from host writer at len e. cc, λ r host writer is_log e. cc)

spares_length : (room : ℕ) (path : Path) → SparesAll (Look room (Length path))
spares_length room path = (λ from host writer at len e. cc, λ r host writer is_log e. cc)

spares_index : (room h w at len : ℕ) → SparesAll (Look room (Read (index_path h w) at len))
spares_index room h w at len = (
  λ from host writer place most e. no_log h w host writer (read_path (index_path h w) (log_path host writer) room from at len place most e),
  λ r host writer is_log e. cc,
)

-- ---- how programs are put together

abbrev Spares : {X : Type 0} → Tries X → Type 0
Spares p = AsksOnly SparesAll p

spares_on : {A X : Type 0} (p : Tries A) (next : A → Tries X) → Spares p → ((a : A) → Spares (next a)) → Spares (followed_by p (on_ok next))
spares_on (done (Ok a)) next only more = more a
spares_on (done (Err why)) next only more = tt
spares_on (ask call k) next only more = (only.0, λ r. spares_on (k r) next (only.1 r) more)

spares_ok : {A X : Type 0} (value : Result A Stuck) (next : A → Tries X) → ((a : A) → Spares (next a)) → Spares (on_ok next value)
spares_ok (Ok a) next more = more a
spares_ok (Err why) next more = tt

spares_if : {X : Type 0} (test : Bool) (p q : Tries X) → Spares p → Spares q → Spares (if test then p else q)
spares_if true p q a b = a
spares_if false p q a b = b

spares_given : {A X : Type 0} (found : Option A) (why : Stuck) (next : A → Tries X) → ((a : A) → Spares (next a)) → Spares (given found why next)
spares_given None why next more = tt
spares_given (Some a) why next more = more a

-- ---- the scan

spares_scans : (room id : ℕ) (flat : Flat) (ks : List ℕ) (scan : Scan) → Spares (scans room id flat ks scan)
spares_scans room id flat [] scan = tt
spares_scans room id flat (k ∷ ks) scan = (
  spares_list room (hostdir_of k),
  λ r. spares_given (names_in r) _ (λ names. on_ok (λ more. scans room id flat ks more) (scanned (hostdir_of k) names scan))
      (λ names. spares_ok (scanned (hostdir_of k) names scan) (λ more. scans room id flat ks more) (λ more. spares_scans room id flat ks more)),
)

spares_scan : (room : ℕ) → Spares (scan_program room)
spares_scan room = (
  spares_top room,
  λ r. spares_given (names_in r) _ (λ names. on_ok (λ ks. scans room 0 no_flat ks nothing_found) (top_shows names))
      (λ names. spares_ok (top_shows names) (λ ks. scans room 0 no_flat ks nothing_found) (λ ks. spares_scans room 0 no_flat ks nothing_found)),
)

-- ---- one dropping

both : {A : Type 0} (P : A → Type 0) (b : Bool) (x y : A) → P x → P y → P (if b then x else y)
both P true x y good bad = good
both P false x y good bad = bad

spares_checked : (d : Listed) (more : Bool → Tail → Tries Tail) (full : Bool) (log count : ℕ) (bytes : List ℕ) (tail : Tail) → ((past : Bool) (after : Tail) → Spares (more past after)) → Spares (if_checked d more full (checked log count bytes tail))
spares_checked d more full log zero bytes tail h = spares_if full (more false tail) (done (Ok tail)) (h false tail) tt
spares_checked d more full log (suc count) bytes tail h =
    both (λ p. Spares (if_checked d more full p)) (is_next tail.cover (entry_in bytes)) _ _
    (both (λ p. Spares (if_checked d more full p)) (nat_le ((entry_in bytes).physical + (entry_in bytes).len) log) _ _
    (spares_checked d more full log count (drop 40 bytes) (longer (entry_in bytes) tail) h)
    (spares_if full (more true tail) (done (Ok tail)) (h true tail) tt))
    tt

spares_looked : (d : Listed) (more : Bool → Tail → Tries Tail) (full ended : Bool) (log asked : ℕ) (bytes : List ℕ) (tail : Tail) → ((past : Bool) (after : Tail) → Spares (more past after)) → Spares (if_checked d more full (looked ended log asked bytes tail))
spares_looked d more full true log asked bytes tail h = spares_if full (more true tail) (done (Ok tail)) (h true tail) tt
spares_looked d more full false log asked bytes tail h = spares_checked d more full log (min (length bytes / 40) asked) bytes tail h

spares_reads : (count room : ℕ) (d : Listed) (log whole left : ℕ) (ended : Bool) (tail : Tail) → Spares (reads count room d log whole left ended tail)
spares_reads zero room d log whole left ended tail = tt
spares_reads (suc count) room d log whole left ended tail = (
  spares_index room d.host d.writer (40 * (whole - left)) (40 * next_read left),
  λ r. spares_given (bytes_in r) _
      (λ bytes. if_checked d (λ past longer. reads count room d log whole (left - next_read left) past longer) (nat_le (40 * next_read left) (length bytes)) (looked ended log (next_read left) bytes tail))
      (λ bytes. spares_looked d (λ past longer. reads count room d log whole (left - next_read left) past longer) (nat_le (40 * next_read left) (length bytes)) ended log (next_read left) bytes tail
      (λ past after. spares_reads count room d log whole (left - next_read left) past after)),
)

spares_tail : (room : ℕ) (d : Listed) (tail : Tail) → Spares (tail_program room d tail)
spares_tail room d tail = (
  spares_length room (index_path d.host d.writer),
  λ r. spares_given (number_in r) _ (if_told room d tail) (λ told. spares_if (nat_lt (told / 40) tail.cover.count) (done (Err _)) (log_then room d tail (told / 40)) tt (
    spares_length room (log_path d.host d.writer),
    λ s. spares_given (log_length_in s) _ (if_logged room d tail (told / 40)) (λ log. spares_if (nat_lt log tail.cover.bytes) (done (Err _)) (reads_left room d log (told / 40) (told / 40 - tail.cover.count) false tail) tt
        (spares_reads (reads_of (told / 40 - tail.cover.count)) room d log (told / 40) (told / 40 - tail.cover.count) false tail)),
  )),
)

-- ---- all

spares_truncs : (room : ℕ) → Spares (trunc_program room)
spares_truncs room = (spares_list room truncs, λ r. spares_given (names_in r) _ (λ names. done (truncs_of names [])) (λ names. tt))

spares_all : (known : Known) (ds : List Listed) (sofar : List WriterRead) → Spares (reads_all known ds sofar)
spares_all known [] sofar = spares_on (trunc_program known.room) (contains known sofar) (spares_truncs known.room) (λ ts. tt)
spares_all known (d ∷ ds) sofar =
    spares_on (tail_program known.room d (no_tail (cover_of d.writer known.covers))) (λ tail. reads_all known ds (sofar ++ read_as known.keeps d tail ∷ []))
    (spares_tail known.room d (no_tail (cover_of d.writer known.covers)))
    (λ tail. spares_all known ds (sofar ++ read_as known.keeps d tail ∷ []))

pub spares_contained : (known : Known) → Spares (contained_program known)
spares_contained known = spares_on (scan_program known.room) (reads_listed known) (spares_scan known.room) (λ listing. spares_all known listing.droppings [])
