-- The programs that list a container and read its shares only look at what is there.
use Rattle.std.proofs.Common.{ℕ, zero, suc, ◌-◌, ◌*◌, ◌/◌, Bool, true, false, List, [], ◌∷◌, ◌++◌, length, nat_le, nat_lt, Option, Some, None, Result, Ok, Err}
use Rattle.std.specs.Prelude.{◌==◌, if◌then◌else◌}
use Rattle.plfs_types.specs.declared.entries.Cover.{Cover}
use Rattle.plfs_types.specs.declared.names.Path.{Path}
use Rattle.container_layout.specs.Paths.{hostdir_of}
use Rattle.flat_format.specs.declared.flat.Flat.{Flat}
use Rattle.mount_model.specs.declared.stuck.Stuck.{Stuck}
use Rattle.mount_model.specs.FlowReplies.{Tries, given, on_ok, room_in, names_in, bytes_in, trouble}
use Rattle.mount_model.specs.Program.{AsksOnly, Program, done, ask, followed_by}
use Rattle.mount_model.specs.Paths.{flat_path, index_path, log_path}
use Rattle.mount_model.specs.declared.call.Call.{Call}
use Rattle.mount_model.specs.declared.call.Call.TheVariants.{Find, Look}
use Rattle.mount_model.specs.declared.reply.Reply.{Reply}
use Rattle.index_reader.specs.declared.entries.Tail.{Tail}
use Rattle.index_reader.specs.declared.listing.Dropping.{Dropping}
use Rattle.index_reader.specs.declared.scanning.Scan.{Scan}
use Rattle.index_reader.specs.declared.sharing.Sofar.{Sofar}
use Rattle.index_reader.specs.Replies.{number_in, log_length_in}
use Rattle.index_reader.specs.Covered.{cover_of}
use Rattle.index_reader.specs.FileReads.{first_rest, next_part, parts, parts_of, bytes_left}
use Rattle.index_reader.specs.FlatRules.{flat_fault, flat_told}
use Rattle.index_reader.specs.Newest.{newest_in}
use Rattle.index_reader.specs.Opening.{flat_first, flat_or_damage, flat_program, flat_rest, if_newest, no_flat, open_at_program, open_read_program, scans, top_program, unless_unfit}
use Rattle.index_reader.specs.PackRules.{pack_told}
use Rattle.index_reader.specs.Packs.{head_fault, head_then, if_headed, no_tail, pack_program, pack_rest, pack_tail, packed_path}
use Rattle.index_reader.specs.Scanning.{nothing_found, scanned}
use Rattle.index_reader.specs.Sharing.{added, dropping_program, gathers, nothing, share_program}
use Rattle.index_reader.specs.Tails.{if_logged, if_told, log_then, looked, reads, tail_program}
use Rattle.mount_model.specs.Entries.{next_read, reads_of}
use Rattle.index_reader.specs.Tops.{top_shows}
use Rattle.index_reader.specs.Truncs.{trunc_program}
use Rattle.index_reader.proofs.Indices.TailLemmas.{if_checked_asks}

-- the call finds a name or looks into a room
abbrev pub IsLook : Call → Type 0
IsLook (Find name) = Unit {0}
IsLook (Look room look) = Unit {0}
IsLook call = ⊥

abbrev pub OnlyLooks : {R : Type 0} → Program Call Reply R → Type 0
OnlyLooks p = AsksOnly IsLook p

then_looks : {R S : Type 0} (p : Program Call Reply R) (next : R → Program Call Reply S) → ((r : R) → OnlyLooks (next r)) → OnlyLooks p → OnlyLooks (followed_by p next)
then_looks (done r) next goes looks = goes r
then_looks (ask q k) next goes looks = (looks.0, λ reply. then_looks (k reply) next goes (looks.1 reply))

given_looks : {A R : Type 0} (o : Option A) (why : Stuck) (next : A → Tries R) → ((a : A) → OnlyLooks (next a)) → OnlyLooks (given o why next)
given_looks None why next goes = tt
given_looks (Some a) why next goes = goes a

on_ok_looks : {A R : Type 0} (next : A → Tries R) → ((a : A) → OnlyLooks (next a)) → (result : Result A Stuck) → OnlyLooks (on_ok next result)
on_ok_looks next goes (Ok a) = goes a
on_ok_looks next goes (Err because) = tt

if_looks : {R : Type 0} (b : Bool) (p q : Tries R) → OnlyLooks p → OnlyLooks q → OnlyLooks (if b then p else q)
if_looks true p q one other = one
if_looks false p q one other = other

-- ---- a file

parts_looks : (n room : ℕ) (path : Path) (told left : ℕ) (sofar : List ℕ) → OnlyLooks (parts n room path told left sofar)
parts_looks zero room path told left sofar = tt
parts_looks (suc n) room path told left sofar = (
  tt,
  λ reply. given_looks (bytes_in reply) (trouble path reply) _
      (λ bytes. if_looks (nat_le (next_part left) (length bytes)) _ _ (parts_looks n room path told (left - next_part left) (sofar ++ bytes)) tt),
)

bytes_looks : {R : Type 0} (room : ℕ) (path : Path) (told left : ℕ) (sofar : List ℕ) (next : List ℕ → Tries R)
    → ((bytes : List ℕ) → OnlyLooks (next bytes)) → OnlyLooks (followed_by (bytes_left room path told left sofar) (on_ok next))
bytes_looks room path told left sofar next goes =
    then_looks (bytes_left room path told left sofar) (on_ok next) (λ result. on_ok_looks next goes result) (parts_looks (parts_of left) room path told left sofar)

-- ---- a listing

rest_looks : (room id told : ℕ) (first : List ℕ) → OnlyLooks (flat_rest room id told first)
rest_looks room id told first =
    then_looks (first_rest room (flat_path id) told first) (on_ok (λ bytes. done (flat_or_damage id (flat_told bytes))))
    (λ result. on_ok_looks (λ bytes. done (flat_or_damage id (flat_told bytes))) (λ bytes. tt) result)
    (if_looks (nat_le (next_part told) (length first)) _ _ (parts_looks (parts_of (told - next_part told)) room (flat_path id) told (told - next_part told) first) tt)

fit_looks : (id : ℕ) (fault : Option ℕ) (next : Tries Flat) → OnlyLooks next → OnlyLooks (unless_unfit id fault next)
fit_looks id None next goes = goes
fit_looks id (Some place) next goes = tt

first_looks : (room id told : ℕ) → OnlyLooks (flat_first room id told)
first_looks room id told = (
  tt,
  λ reply. given_looks (bytes_in reply) (trouble (flat_path id) reply) _
      (λ first. fit_looks id (flat_fault told first) (flat_rest room id told first) (rest_looks room id told first)),
)

flat_looks : (room id : ℕ) → OnlyLooks (flat_program room id)
flat_looks room id = (
  tt,
  λ reply. given_looks (number_in reply) (trouble (flat_path id) reply) _
      (λ told. if_looks (told == 0) _ _ tt (first_looks room id told)),
)

scans_looks : (room id : ℕ) (flat : Flat) (ks : List ℕ) (scan : Scan) → OnlyLooks (scans room id flat ks scan)
scans_looks room id flat [] scan = tt
scans_looks room id flat (k ∷ ks) scan = (
  tt,
  λ reply. given_looks (names_in reply) _ _
      (λ names. on_ok_looks (λ more. scans room id flat ks more) (λ more. scans_looks room id flat ks more) (scanned (hostdir_of k) names scan)),
)

top_looks : (room id : ℕ) (flat : Flat) → OnlyLooks (top_program room id flat)
top_looks room id flat = (
  tt,
  λ reply. given_looks (names_in reply) _ _
      (λ names. on_ok_looks (λ ks. scans room id flat ks nothing_found) (λ ks. scans_looks room id flat ks nothing_found) (top_shows names)),
)

newest_looks : (room : ℕ) (newest : Option ℕ) → OnlyLooks (if_newest room newest)
newest_looks room None = top_looks room 0 no_flat
newest_looks room (Some id) =
    then_looks (flat_program room id) (on_ok (λ flat. top_program room id flat))
    (λ result. on_ok_looks (λ flat. top_program room id flat) (λ flat. top_looks room id flat) result) (flat_looks room id)

open_at_looks : (room : ℕ) → OnlyLooks (open_at_program room)
open_at_looks room = (
  tt,
  λ reply. given_looks (names_in reply) _ _ (λ names. on_ok_looks (if_newest room) (newest_looks room) (newest_in names None)),
)

pub listing_looks : (name : List ℕ) → OnlyLooks (open_read_program name)
listing_looks name = (tt, λ reply. given_looks (room_in reply) _ open_at_program open_at_looks)

-- ---- a share

reads_looks : (n room : ℕ) (d : Dropping) (log whole left : ℕ) (ended : Bool) (tail : Tail) → OnlyLooks (reads n room d log whole left ended tail)
reads_looks zero room d log whole left ended tail = tt
reads_looks (suc n) room d log whole left ended tail = (
  tt,
  λ reply. given_looks (bytes_in reply) (trouble (index_path d.host d.writer) reply) _
      (λ bytes. if_checked_asks IsLook d (λ past longer. reads n room d log whole (left - next_read left) past longer) (nat_le (40 * next_read left) (length bytes)) (looked ended log (next_read left) bytes tail)
      (λ past longer. reads_looks n room d log whole (left - next_read left) past longer)),
)

log_looks : (room : ℕ) (d : Dropping) (tail : Tail) (whole : ℕ) → OnlyLooks (log_then room d tail whole)
log_looks room d tail whole = (
  tt,
  λ reply. given_looks (log_length_in reply) (trouble (log_path d.host d.writer) reply) (if_logged room d tail whole)
      (λ log. if_looks (nat_lt log tail.cover.bytes) _ _ tt (reads_looks (reads_of (whole - tail.cover.count)) room d log whole (whole - tail.cover.count) false tail)),
)

tail_looks : (room : ℕ) (d : Dropping) (tail : Tail) → OnlyLooks (tail_program room d tail)
tail_looks room d tail = (
  tt,
  λ reply. given_looks (number_in reply) (trouble (index_path d.host d.writer) reply) (if_told room d tail)
      (λ told. if_looks (nat_lt (told / 40) tail.cover.count) _ _ tt (log_looks room d tail (told / 40))),
)

headed_looks : (room : ℕ) (path : Path) (cover : Cover) (told : ℕ) (head : List ℕ) (fault : Option ℕ) → OnlyLooks (if_headed room path cover told head fault)
headed_looks room path cover told head (Some place) = tt
headed_looks room path cover told head None =
    if_looks _ (done (Ok (no_tail cover))) (pack_rest room path cover told head) tt
    (bytes_looks room path told (told - 24) head (λ bytes. done (pack_tail path cover bytes (pack_told bytes))) (λ bytes. tt))

pack_looks : (room : ℕ) (path : Path) (cover : Cover) → OnlyLooks (pack_program room path cover)
pack_looks room path cover = (
  tt,
  λ reply. given_looks (number_in reply) (trouble path reply) (head_then room path cover)
      (λ told. (
        tt,
        λ again. given_looks (bytes_in again) (trouble path again) (λ head. if_headed room path cover told head (head_fault told cover.count head))
            (λ head. headed_looks room path cover told head (head_fault told cover.count head)),
      )),
)

gathers_looks : (room : ℕ) (covers : List Cover) (ds : List Dropping) (sofar : Sofar) → OnlyLooks (gathers room covers ds sofar)
gathers_looks room covers [] sofar = tt
gathers_looks room covers (d ∷ ds) sofar =
    let cover = cover_of d.writer covers in
    then_looks (dropping_program room d cover) (on_ok (λ tail. gathers room covers ds (added tail sofar)))
    (λ result. on_ok_looks (λ tail. gathers room covers ds (added tail sofar)) (λ tail. gathers_looks room covers ds (added tail sofar)) result)
    (if_looks d.packed (pack_program room (packed_path d.host d.writer) cover) (tail_program room d (no_tail cover)) (pack_looks room (packed_path d.host d.writer) cover) (tail_looks room d (no_tail cover)))

pub share_looks : (room : ℕ) (share : List Dropping) (covers : List Cover) → OnlyLooks (share_program room share covers)
share_looks room share covers = gathers_looks room covers share nothing

-- ---- truncates

pub truncs_looks : (room : ℕ) → OnlyLooks (trunc_program room)
truncs_looks room = (tt, λ reply. given_looks (names_in reply) _ _ (λ names. tt))
