-- The calls that list a container: its flattened indices, of which the newest is read, its top, and its folders of
-- droppings.
use Rattle.std.specs.Prelude.{ℕ, ◌+◌, ◌*◌, ◌==◌, Bool, false, if◌then◌else◌, List, [], ◌∷◌, map, Option, Some, None, Result, Ok, Err}
use Rattle.plfs_types.specs.declared.entries.Cover.{Cover}
use Rattle.container_layout.specs.Paths.{hostdir_of}
use Rattle.flat_format.specs.declared.flat.Flat.{Flat}
use Rattle.flat_format.specs.declared.flat.TheConstants.{HEAD_SIZE, COVER_SIZE}
use Rattle.mount_model.specs.declared.stuck.Stuck.{Stuck}
use Rattle.mount_model.specs.FlowReplies.{Tries, given, on_ok, room_in, names_in, damage, trouble, bytes_in}
use Rattle.mount_model.specs.FlowListed.{file_in}
use Rattle.mount_model.specs.Program.{done, ask, followed_by}
use Rattle.mount_model.specs.declared.call.Call.TheVariants.{Find, Look}
use Rattle.mount_model.specs.declared.call.Look.TheVariants.{List as ListFolder, Length, Read, Top}
use Rattle.mount_model.specs.Paths.{Name, flats, flat_path}
use Rattle.index_reader.specs.declared.listing.Dropping.{Dropping}
use Rattle.index_reader.specs.declared.listing.Listing.{Listing}
use Rattle.index_reader.specs.declared.owners.Owner.{Owner}
use Rattle.index_reader.specs.declared.scanning.Scan.{Scan}
use Rattle.index_reader.specs.Replies.{number_in}
use Rattle.index_reader.specs.FileReads.{first_rest, next_part}
use Rattle.index_reader.specs.FlatRules.{flat_fault, flat_told}
use Rattle.index_reader.specs.Newest.{newest_in, flats_path}
use Rattle.index_reader.specs.Packs.{packed_path}
use Rattle.index_reader.specs.Scanning.{owner_of, has_writer, nothing_found, scanned}
use Rattle.index_reader.specs.Tops.{top_shows}

-- ---- the newest flattened index

abbrev pub no_flat : Flat
no_flat = record { covers = []; pieces = [] }

-- bytes that are no flattened index are damage at the place of the first fault
abbrev pub flat_or_damage : ℕ → Result Flat ℕ → Result Flat Stuck
flat_or_damage id (Ok flat) = Ok flat
flat_or_damage id (Err place) = Err (damage (flat_path id) place)

-- the Reads behind the first one, and what all bytes are
abbrev pub flat_rest : ℕ → ℕ → ℕ → List ℕ → Tries Flat
flat_rest room id told first = followed_by (first_rest room (flat_path id) told first) (on_ok (λ bytes. done (flat_or_damage id (flat_told bytes))))

-- first bytes with a fault are damage there, before any others are read
abbrev pub unless_unfit : ℕ → Option ℕ → Tries Flat → Tries Flat
unless_unfit id None next = next
unless_unfit id (Some place) next = done (Err (damage (flat_path id) place))

abbrev pub if_begun : ℕ → ℕ → ℕ → List ℕ → Tries Flat
if_begun room id told first = unless_unfit id (flat_fault told first) (flat_rest room id told first)

-- the first Read, and all that follows
abbrev pub flat_first : ℕ → ℕ → ℕ → Tries Flat
flat_first room id told = ask
    (Look room (Read (flat_path id) 0 (next_part told)))
    (λ reply. given (bytes_in reply) (trouble (flat_path id) reply) (if_begun room id told))

-- no bytes are no flattened index
abbrev pub flat_bytes : ℕ → ℕ → ℕ → Tries Flat
flat_bytes room id told = if told == 0 then done (Err (damage (flat_path id) 0)) else flat_first room id told

abbrev pub flat_program : ℕ → ℕ → Tries Flat
flat_program room id = ask
    (Look room (Length (flat_path id)))
    (λ reply. given (number_in reply) (trouble (flat_path id) reply) (flat_bytes room id))

-- ---- what was listed

-- the place among the covers of the first one whose writer has no index dropping
abbrev pub uncovered : List Owner → ℕ → List Cover → Option ℕ
uncovered indices index [] = None
uncovered indices index (c ∷ covers) = if has_writer c.writer indices then uncovered indices (index + 1) covers else Some index

-- there is one, of this host
abbrev pub is_of_host : ℕ → Option Owner → Bool
is_of_host host None = false
is_of_host host (Some o) = o.host == host

-- the writer is there, with this host
abbrev pub has_owner : Owner → List Owner → Bool
has_owner o owners = is_of_host o.host (owner_of o.writer owners)

-- the first packed index whose host and writer have no index dropping
abbrev pub lone_pack : List Owner → List Owner → Option Owner
lone_pack indices [] = None
lone_pack indices (o ∷ packs) = if has_owner o indices then lone_pack indices packs else Some o

abbrev pub dropping_of : List Owner → Owner → Dropping
dropping_of packs o = record { host = o.host; writer = o.writer; packed = has_writer o.writer packs }

abbrev pub listing_of : ℕ → Flat → Scan → Listing
listing_of room flat scan = record { room = room; droppings = map (dropping_of scan.packs) scan.indices; flat = flat }

-- a covered writer without an index dropping is damage at its cover
abbrev pub unless_uncovered : {X : Type 0} → ℕ → Option ℕ → Result X Stuck → Result X Stuck
unless_uncovered id None next = next
unless_uncovered id (Some index) next = Err (damage (flat_path id) (HEAD_SIZE + COVER_SIZE * index))

-- a packed index without an index dropping is damage
abbrev pub unless_lone : {X : Type 0} → Option Owner → Result X Stuck → Result X Stuck
unless_lone None next = next
unless_lone (Some o) next = Err (damage (packed_path o.host o.writer) 0)

-- all that was listed, with the flattened index of this id, or one of nothing where there is none
abbrev pub listed : ℕ → ℕ → Flat → Scan → Result Listing Stuck
listed room id flat scan = unless_uncovered id (uncovered scan.indices 0 flat.covers) (unless_lone (lone_pack scan.indices scan.packs) (Ok (listing_of room flat scan)))

-- ---- the calls

-- a List of each folder of droppings that is left
abbrev pub scans : ℕ → ℕ → Flat → List ℕ → Scan → Tries Listing
scans room id flat [] scan = done (listed room id flat scan)
scans room id flat (k ∷ ks) scan = ask
    (Look room (ListFolder (hostdir_of k)))
    (λ reply. given (names_in reply) (trouble (file_in (hostdir_of k) []) reply)
    (λ names. on_ok (λ more. scans room id flat ks more) (scanned (hostdir_of k) names scan)))

abbrev pub top_program : ℕ → ℕ → Flat → Tries Listing
top_program room id flat = ask
    (Look room Top)
    (λ reply. given (names_in reply) (trouble (file_in [] []) reply)
    (λ names. on_ok (λ ks. scans room id flat ks nothing_found) (top_shows names)))

-- the top and the droppings alone
abbrev pub scan_program : ℕ → Tries Listing
scan_program room = top_program room 0 no_flat

-- the newest flattened index is read, where there is one
abbrev pub if_newest : ℕ → Option ℕ → Tries Listing
if_newest room None = top_program room 0 no_flat
if_newest room (Some id) = followed_by (flat_program room id) (on_ok (λ flat. top_program room id flat))

abbrev pub open_at_program : ℕ → Tries Listing
open_at_program room = ask
    (Look room (ListFolder flats))
    (λ reply. given (names_in reply) (trouble (flats_path []) reply) (λ names. on_ok (if_newest room) (newest_in names None)))

abbrev pub open_read_program : Name → Tries Listing
open_read_program name = ask (Find name) (λ reply. given (room_in reply) (trouble (file_in [] []) reply) open_at_program)
