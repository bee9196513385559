-- The statements that are on no writer: none of their calls is on one, and their actor keeps its writer.
use Rattle.std.proofs.Common.{ℕ, zero, suc, ◌+◌, ◌-◌, ◌*◌, ◌/◌, Bool, true, false, List, [], ◌∷◌, ◌++◌, drop, length, map, min, replicate, take, nat_eq, nat_le, nat_lt, Option, Some, None, Result, Ok, Err}
use Rattle.std.specs.Prelude.{if◌then◌else◌}
use Rattle.std.specs.List.{range_with_len}
use Rattle.plfs_types.specs.declared.entries.Cover.{Cover}
use Rattle.plain_file.specs.declared.parts.ReaderParts.{ReaderParts}
use Rattle.plain_file.specs.declared.parts.WriterHost.{WriterHost}
use Rattle.mount_model.specs.declared.names.Metadata.{Metadata}
use Rattle.mount_model.specs.declared.names.OpenEntry.{OpenEntry}
use Rattle.mount_model.specs.declared.stuck.Stuck.{Stuck}
use Rattle.mount_model.specs.Entries.{is_next, next_read, reads_of}
use Rattle.mount_model.specs.FlowListed.{told_by}
use Rattle.mount_model.specs.Order.{entries_by_writer}
use Rattle.mount_model.specs.FlowReplies.{Tries, bytes_in, failure, given, is_no_folder, length_in, on_ok, room_in, trouble, damage}
use Rattle.mount_model.specs.Program.{AsksOnly, Program, ask, done, followed_by}
use Rattle.store_api.specs.declared.step.Answer.TheVariants.{Names}
use Rattle.mount_model.specs.Paths.{Name, index_path, log_path, metadata, truncs}
use Rattle.container_layout.specs.Paths.{openhosts}
use Rattle.mount_model.specs.declared.call.Call.{Call}
use Rattle.mount_model.specs.declared.call.Call.TheVariants.{Find, Hold, Look, Mark, Move, Release}
use Rattle.mount_model.specs.declared.call.Look.{Look as Sight}
use Rattle.mount_model.specs.declared.reply.Reply.{Reply}
use Rattle.mount_model.specs.declared.reply.Reply.TheVariants.{Done, Looked, Room}
use Rattle.mount_model.proofs.Facts.{IsOnNoWriter}
use Rattle.read_plan.specs.declared.part.Part.{Part}
use Rattle.index_reader.specs.declared.listing.Dropping.{Dropping}
use Rattle.index_reader.specs.declared.listing.Listing.{Listing}
use Rattle.index_reader.specs.declared.placing.Placed.{Placed}
use Rattle.index_reader.specs.declared.placing.Placed.TheVariants.{Logged, Zeros}
use Rattle.index_reader.specs.declared.sharing.Share.{Share}
use Rattle.index_reader.specs.Opening.{open_at_program, open_read_program, scan_program}
use Rattle.index_reader.specs.Reading.{ends_at, placed_all, read_program, spells}
use Rattle.index_reader.specs.Sharing.{share_program}
use Rattle.index_reader.specs.Truncs.{trunc_program}
use Rattle.index_reader.proofs.Facts.{IsLook, OnlyLooks, listing_looks, share_looks, truncs_looks}
use Rattle.gather_flow.specs.Dealing.{dealt_to}
use Rattle.gather_flow.specs.Shares.{by_itself, worker_program}
use Rattle.attr_flow.specs.Asking as attr
use Rattle.attr_flow.specs.Listings.{is_open, metadata_named}
use Rattle.trunc_rename.specs.Holding.{holder_in, holds, lets_go, or_lets_go}
use Rattle.trunc_rename.specs.Renaming.{moves, rename_program}
use Rattle.trunc_rename.specs.Tops.{metadata_top, truncs_top}
use Rattle.trunc_rename.specs.Truncating as trunc
use Rattle.torn_tail.specs.declared.recovering.Recovered.{Recovered}
use Rattle.torn_tail.specs.Recovering as recover
use Rattle.torn_tail.specs.Writers as bury
use Rattle.index_entry.specs.Spelling.{entry_in}
use Rattle.torn_tail.specs.Entries.{checked, longer, looked}
use Rattle.torn_tail.specs.Words.{Run, Went, all_there, breaks, ends}
use Rattle.gather_flow.specs.Gathering.{if_truncs_listed, reads_truncs, shares_from}
use Rattle.gather_flow.specs.OneIndex.{attr_of, flat_of}
use Rattle.flat_format.specs.declared.flat.Flat.{Flat}
use Rattle.flat_format.specs.Spelling.{flat_spelling}
use Rattle.refresh_index.specs.Refreshing.{refresh_program}
use Rattle.refresh_index.proofs.LookLemmas.{refresh_looks}
use Rattle.flatten_core.specs.declared.starting.Started.{Started}
use Rattle.flatten_core.specs.Flattening as flatten
use Rattle.flatten_core.specs.Installing as install
use Rattle.flatten_core.specs.Starting as begin
use Rattle.actor_core.specs.Opened.{if_truncs, opens}
use Rattle.actor_core.specs.Owed.{EachAsksOnly}
use Rattle.actor_core.specs.Telling.{tells_by}
use Rattle.mount_model.specs.Running.{asking}
use Rattle.headline_laws.proofs.Plays.Callers.Coming.{IsQuiet, IsQuietly}

abbrev pub AsksQuiet : {R : Type 0} → Program Call Reply R → Type 0
AsksQuiet p = AsksOnly IsQuiet p

then_none : {R S : Type 0} (p : Program Call Reply R) (next : R → Program Call Reply S) → ((r : R) → AsksQuiet (next r)) → AsksQuiet p → AsksQuiet (followed_by p next)
then_none (done r) next goes none = goes r
then_none (ask q k) next goes none = (none.0, λ reply. then_none (k reply) next goes (none.1 reply))

given_none : {A R : Type 0} (o : Option A) (why : Stuck) (next : A → Tries R) → ((a : A) → AsksQuiet (next a)) → AsksQuiet (given o why next)
given_none None why next goes = tt
given_none (Some a) why next goes = goes a

on_ok_none : {A R : Type 0} (next : A → Tries R) → ((a : A) → AsksQuiet (next a)) → (result : Result A Stuck) → AsksQuiet (on_ok next result)
on_ok_none next goes (Ok a) = goes a
on_ok_none next goes (Err why) = tt

either_none : {R : Type 0} (b : Bool) (p q : Program Call Reply R) → AsksQuiet p → AsksQuiet q → AsksQuiet (if b then p else q)
either_none true p q one other = one
either_none false p q one other = other

-- ---- readers

look_none : (call : Call) → IsLook call → IsQuiet call
look_none (Find name) is = tt
look_none (Look room l) is = tt
look_none other is = absurd is

looks_none : {R : Type 0} (p : Program Call Reply R) → OnlyLooks p → AsksQuiet p
looks_none (done r) looks = tt
looks_none (ask call k) looks = (look_none call looks.0, λ reply. looks_none (k reply) (looks.1 reply))

pub ok_none : {A R : Type 0} (next : A → Tries R) → ((a : A) → AsksQuiet (next a)) → (result : Result A Stuck) → AsksQuiet (on_ok next result)
ok_none next goes (Ok a) = goes a
ok_none next goes (Err why) = tt

told_none : {A R : Type 0} (o : Option A) (why : Stuck) (next : A → Tries R) → ((a : A) → AsksQuiet (next a)) → AsksQuiet (given o why next)
told_none None why next goes = tt
told_none (Some a) why next goes = goes a

pub listing_none : (name : Name) → AsksQuiet (open_read_program name)
listing_none name = looks_none (open_read_program name) (listing_looks name)

pub listing_at_none : (room : ℕ) → AsksQuiet (open_at_program room)
listing_at_none room = looks_none (open_at_program room) ((listing_looks []).1 (Room room))

pub truncs_none : (room : ℕ) → AsksQuiet (trunc_program room)
truncs_none room = looks_none (trunc_program room) (truncs_looks room)

share_none : (room : ℕ) (share : List Dropping) (covers : List Cover) → AsksQuiet (share_program room share covers)
share_none room share covers = looks_none (share_program room share covers) (share_looks room share covers)

-- so each worker asks
asking_quiet : {R : Type 0} (p : Program Call Reply R) → AsksQuiet p → AsksOnly IsQuietly (asking p)
asking_quiet (done r) quiet = tt
asking_quiet (ask call k) quiet = (quiet.0, λ reply. asking_quiet (k reply) (quiet.1 reply))

pub workers_quiet : (workers : ℕ) (listing : Listing) (numbers : List ℕ) → EachAsksOnly IsQuietly (map asking (map (worker_program workers listing) numbers))
workers_quiet workers listing [] = tt
workers_quiet workers listing (worker ∷ numbers) = (asking_quiet (worker_program workers listing worker) (share_none listing.room (dealt_to workers worker 0 listing.droppings) listing.flat.covers), workers_quiet workers listing numbers)

pub itself_none : {R : Type 0} (workers : ℕ) (listing : Listing) (numbers : List ℕ) (sofar : List Share) (next : List Share → Tries R) → ((shares : List Share) → AsksQuiet (next shares)) → AsksQuiet (by_itself (map (worker_program workers listing) numbers) sofar next)
itself_none workers listing [] sofar next goes = goes sofar
itself_none workers listing (worker ∷ numbers) sofar next goes =
    then_none (worker_program workers listing worker) (on_ok (λ share. by_itself (map (worker_program workers listing) numbers) (sofar ++ share ∷ []) next))
    (λ result. ok_none (λ share. by_itself (map (worker_program workers listing) numbers) (sofar ++ share ∷ []) next) (λ share. itself_none workers listing numbers (sofar ++ share ∷ []) next goes) result)
    (share_none listing.room (dealt_to workers worker 0 listing.droppings) listing.flat.covers)

spells_none : (room : ℕ) (parts : List Placed) (sofar : List ℕ) → AsksQuiet (spells room parts sofar)
spells_none room [] sofar = tt
spells_none room (Zeros len ∷ parts) sofar = spells_none room parts (sofar ++ replicate len 0)
spells_none room (Logged p ∷ parts) sofar = (
  tt,
  λ reply. told_none (bytes_in reply) (trouble (log_path p.host p.writer) reply)
      (λ bytes. if nat_lt (length bytes) p.len
      then done (Err (damage (log_path p.host p.writer) (ends_at p (length bytes))))
      else spells room parts (sofar ++ take p.len bytes))
      (λ bytes. either_none (nat_lt (length bytes) p.len) (done (Err (damage (log_path p.host p.writer) (ends_at p (length bytes))))) (spells room parts (sofar ++ take p.len bytes)) tt (spells_none room parts (sofar ++ take p.len bytes))),
)

pub read_none : (room : ℕ) (hosts : List WriterHost) (parts : List Part) → AsksQuiet (read_program room hosts parts)
read_none room hosts parts = spells_none room (placed_all hosts parts) []

pub refresh_none : (held : ReaderParts) → AsksQuiet (refresh_program held)
refresh_none held = looks_none (refresh_program held) (refresh_looks held)

-- ---- what is told of a file

lists_truncs_none : (room : ℕ) (metas : List Metadata) → AsksQuiet (attr.lists_truncs room metas)
lists_truncs_none room metas = (tt, λ reply. tt)

lists_metadata_none : (room : ℕ) → AsksQuiet (attr.lists_metadata room)
lists_metadata_none room = (tt, λ reply. on_ok_none (attr.lists_truncs room) (lists_truncs_none room) (told_by metadata (λ names. metadata_named names []) reply))

if_open_none : (room : ℕ) (is : Bool) → AsksQuiet (attr.if_open room is)
if_open_none room true = tt
if_open_none room false = lists_metadata_none room

lists_open_none : (room : ℕ) → AsksQuiet (attr.lists_open room)
lists_open_none room = (tt, λ reply. on_ok_none (attr.if_open room) (if_open_none room) (is_open reply))

pub attr_none : (name : Name) → AsksQuiet (attr.attr_program name)
attr_none name = (tt, λ reply. given_none (room_in reply) (failure reply) attr.lists_open lists_open_none)

-- ---- truncating and renaming

-- each call of theirs is one of these
module _ (these : Call → Type 0) (finds : (name : Name) → these (Find name)) (looks : (room : ℕ) (look : Sight) → these (Look room look)) (holds_it : (room : ℕ) → these (Hold room)) (releases : (holder : ℕ) → these (Release holder)) where
  given_asks : {A R : Type 0} (o : Option A) (why : Stuck) (next : A → Tries R) → ((a : A) → AsksOnly these (next a)) → AsksOnly these (given o why next)
  given_asks None why next goes = tt
  given_asks (Some a) why next goes = goes a

  lets_go_asks : {R : Type 0} (holder : ℕ) (outcome : Result R Stuck) → AsksOnly these (lets_go holder outcome)
  lets_go_asks holder outcome = (releases holder, λ reply. tt)

  or_lets_go_asks : {A R : Type 0} (holder : ℕ) (next : A → Tries R) (result : Result A Stuck) → ((a : A) → AsksOnly these (next a)) → AsksOnly these (or_lets_go holder next result)
  or_lets_go_asks holder next (Ok a) goes = goes a
  or_lets_go_asks {A} {R} holder next (Err why) goes = (releases holder, λ reply. tt)

  holds_asks : {R : Type 0} (room : ℕ) (next : ℕ → Tries R) → ((holder : ℕ) → AsksOnly these (next holder)) → AsksOnly these (holds room next)
  holds_asks room next goes = (holds_it room, λ reply. given_asks (holder_in reply) (failure reply) next goes)

  module _ (size : ℕ) (marks_it : (holder top : ℕ) → these (Mark holder size top)) where
    marks_asks : (holder top : ℕ) → AsksOnly these (trunc.marks size holder top)
    marks_asks holder top = (marks_it holder top, λ reply. (releases holder, λ last. tt))

    tops_asks : (room holder top : ℕ) → AsksOnly these (trunc.lists_truncs size room holder top)
    tops_asks room holder top = (looks room _, λ reply. or_lets_go_asks holder (trunc.marks size holder) (told_by truncs (λ names. truncs_top names top) reply) (marks_asks holder))

    metas_asks : (room holder : ℕ) → AsksOnly these (trunc.lists_metadata size room holder)
    metas_asks room holder = (looks room _, λ reply. or_lets_go_asks holder (trunc.lists_truncs size room holder) (told_by metadata (λ names. metadata_top names 0) reply) (tops_asks room holder))

    pub truncate_asks : (name : Name) → AsksOnly these (trunc.truncate_program name size)
    truncate_asks name = (finds name, λ reply. given_asks (room_in reply) (failure reply) (λ room. holds room (trunc.lists_metadata size room)) (λ room. holds_asks room (trunc.lists_metadata size room) (metas_asks room)))

  pub rename_asks : (name to : Name) → ((holder : ℕ) → these (Move holder to)) → AsksOnly these (rename_program name to)
  rename_asks name to moves_it = (finds name, λ reply. given_asks (room_in reply) (failure reply) (λ room. holds room (moves to)) (λ room. holds_asks room (moves to) (λ holder. (moves_it holder, λ moved. (releases holder, λ last. tt)))))

pub truncate_none : (name : Name) (size : ℕ) → AsksOnly IsOnNoWriter (trunc.truncate_program name size)
truncate_none name size = truncate_asks IsOnNoWriter (λ name. tt) (λ room look. tt) (λ room. tt) (λ holder. tt) size (λ holder top. tt) name

pub rename_none : (name to : Name) → AsksOnly IsOnNoWriter (rename_program name to)
rename_none name to = rename_asks IsOnNoWriter (λ name. tt) (λ room look. tt) (λ room. tt) (λ holder. tt) name to (λ holder. tt)

-- ---- recovering

fate_none : (next : Tries _) (reply : Reply) → AsksQuiet next → AsksQuiet (bury.if_done next reply)
fate_none next Done goes = goes
fate_none next reply goes = tt

synced_none : (next : Tries _) (reply : Reply) → AsksQuiet next → AsksQuiet (bury.if_synced next reply)
synced_none next Done goes = goes
synced_none next reply goes = tt

module _ (room : ℕ) (e : OpenEntry) where
  buries_none : (count : ℕ) → AsksQuiet (bury.buries room e count)
  buries_none count = (tt, λ reply. fate_none _ reply tt)

  meta_none : (run : Run) → AsksQuiet (bury.mends_meta room e run)
  meta_none run = (tt, λ reply. fate_none (bury.buries room e run.cover.count) reply (buries_none run.cover.count))

  syncs_none : (run : Run) → AsksQuiet (bury.syncs_log room e run)
  syncs_none run = (tt, λ reply. synced_none (bury.syncs_index room e run) reply (tt, λ again. synced_none (bury.mends_meta room e run) again (meta_none run)))

  keeps_none : (run : Run) → AsksQuiet (bury.keeps room e run)
  keeps_none run = either_none (nat_eq run.cover.count 0) (bury.buries room e 0) (bury.syncs_log room e run) (buries_none 0) (syncs_none run)

  found_none : (told : ℕ) (run : Run) → AsksQuiet (bury.found room e told run)
  found_none told run = either_none (nat_eq told (40 * run.cover.count)) (bury.keeps room e run) (bury.mends room e run) (keeps_none run) (tt, λ reply. fate_none (bury.keeps room e run) reply (keeps_none run))

  module _ (P : Went × Run → Type 0) (all_good : (run : Run) → P (all_there, run)) (some_good : (run : Run) → P (ends, run)) (bad : (run : Run) → P (breaks, run)) where
    checked_none : (log k : ℕ) (bytes : List ℕ) (run : Run) → P (checked log k bytes run)
    checked_none log zero bytes run = all_good run
    checked_none log (suc k) bytes run = elim (is_next run.cover (entry_in bytes)) as (λ b. P (if b then (if nat_le ((entry_in bytes).physical + (entry_in bytes).len) log then checked log k (drop 40 bytes) (longer (entry_in bytes) run) else (ends, run)) else (breaks, run))) [
      | true ↦ elim (nat_le ((entry_in bytes).physical + (entry_in bytes).len) log) as (λ b. P (if b then checked log k (drop 40 bytes) (longer (entry_in bytes) run) else (ends, run))) [
        | true ↦ checked_none log k (drop 40 bytes) (longer (entry_in bytes) run)
        | false ↦ some_good run
      ]
      | false ↦ bad run
    ]

    looked_none : (past : Bool) (log asked : ℕ) (bytes : List ℕ) (run : Run) → P (looked past log asked bytes run)
    looked_none true log asked bytes run = some_good run
    looked_none false log asked bytes run = checked_none log (min (length bytes / 40) asked) bytes run

  reads_none : (n told log left : ℕ) (ended : Bool) (run : Run) → AsksQuiet (bury.reads n room e told log left ended run)
  reads_none zero told log left ended run = found_none told run
  reads_none (suc n) told log left ended run = (
    tt,
    λ reply. given_none (bytes_in reply) (trouble (index_path e.host e.writer) reply) _
        (λ bytes.
        let full : Bool = nat_le (40 * next_read left) (length bytes) in
        let more : Bool → Run → Tries _ = λ past longer_run. bury.reads n room e told log (left - next_read left) past longer_run in
        looked_none (λ w. AsksQuiet (bury.if_checked e (bury.found room e told) more full w))
        (λ r. either_none full (more false r) (bury.found room e told r) (reads_none n told log (left - next_read left) false r) (found_none told r))
        (λ r. either_none full (more true r) (bury.found room e told r) (reads_none n told log (left - next_read left) true r) (found_none told r))
        (λ r. tt)
        ended log (next_read left) bytes run),
  )

  log_none : (told : ℕ) → AsksQuiet (bury.measures_log room e told)
  log_none told = (tt, λ reply. given_none (length_in reply) (trouble (log_path e.host e.writer) reply) _ (λ log. reads_none (reads_of (told / 40)) told log (told / 40) false _))

  writer_none : AsksQuiet (bury.writer_program room e)
  writer_none = (tt, λ reply. fate_none (bury.measures_index room e) reply (tt, λ told. given_none (length_in told) (trouble (index_path e.host e.writer) told) (bury.measures_log room e) log_none))

recovers_none : (room : ℕ) (entries : List OpenEntry) (sofar : Recovered) → AsksQuiet (recover.recovers room entries sofar)
recovers_none room [] sofar = tt
recovers_none room (e ∷ entries) sofar = then_none (bury.writer_program room e) (on_ok (λ fate. recover.recovers room entries (recover.noted e fate sofar))) (λ result. on_ok_none (λ fate. recover.recovers room entries (recover.noted e fate sofar)) (λ fate. recovers_none room entries (recover.noted e fate sofar)) result) (writer_none room e)

open_none : (room : ℕ) → AsksQuiet (recover.lists_open room)
open_none room = (
  tt,
  λ reply. either_none (is_no_folder reply) (recover.mends_hold room) (recover.recovers_listed room (told_by openhosts (λ names. recover.entries_named names []) reply)) (tt, λ last. tt)
      (on_ok_none (λ entries. recover.recovers room (entries_by_writer entries) recover.nothing) (λ entries. recovers_none room (entries_by_writer entries) recover.nothing) (told_by openhosts (λ names. recover.entries_named names []) reply)),
)

pub recover_none : (name : Name) → AsksQuiet (recover.recover_program name)
recover_none name = (tt, λ reply. given_none (room_in reply) (failure reply) recover.lists_open open_none)

-- ---- flattening

install_none : (next : Tries (Unit {0})) (reply : Reply) → AsksQuiet next → AsksQuiet (install.if_done next reply)
install_none next Done goes = goes
install_none next reply goes = tt

puts_none : (flat : ℕ) (bytes : List ℕ) → AsksQuiet (install.puts flat bytes)
puts_none flat bytes = (tt, λ reply. install_none (install.syncs_flat flat) reply (tt, λ again. install_none (install.installs flat) again (tt, λ last. tt)))

each_none : (room flat : ℕ) (bytes : List ℕ) (ds : List Dropping) → AsksQuiet (install.syncs room flat bytes ds)
each_none room flat bytes [] = puts_none flat bytes
each_none room flat bytes (d ∷ ds) = (tt, λ reply. install_none (install.syncs_index room d (install.syncs room flat bytes ds)) reply (tt, λ again. install_none (install.syncs room flat bytes ds) again (each_none room flat bytes ds)))

covered_none : (room flat : ℕ) (bytes : List ℕ) (result : Result (List Dropping) ℕ) → AsksQuiet (install.syncs_covered room flat bytes result)
covered_none room flat bytes (Err place) = tt
covered_none room flat bytes (Ok droppings) = each_none room flat bytes droppings

scan_none : (room : ℕ) → AsksQuiet (scan_program room)
scan_none room = looks_none (scan_program room) (((listing_looks []).1 (Room room)).1 (Looked (Names [])))

installs_none : (room flat : ℕ) (covers : List Cover) (bytes : List ℕ) → AsksQuiet (install.install_program room flat covers bytes)
installs_none room flat covers bytes = then_none (scan_program room) (on_ok (install.syncs_listed room flat covers bytes)) (λ result. on_ok_none (install.syncs_listed room flat covers bytes) (λ listing. covered_none room flat bytes _) result) (scan_none room)

index_none : (started : Started) (index : Flat) → AsksQuiet (flatten.installs_index started index)
index_none started index =
    then_none (install.install_program started.room started.flat index.covers (flat_spelling index)) (flatten.tells (flatten.flattened started index)) (λ result. on_ok_none (λ installed. done (Ok (flatten.flattened started index))) (λ installed. tt) result)
    (installs_none started.room started.flat index.covers (flat_spelling index))

read_truncs : (listing : Listing) (shares : List Share) → AsksQuiet (reads_truncs listing shares)
read_truncs listing shares = then_none (trunc_program listing.room) (on_ok (if_truncs_listed listing shares)) (λ result. ok_none (if_truncs_listed listing shares) (λ ts. tt) result) (truncs_none listing.room)

gathers_none : (started : Started) (listing : Listing) → AsksQuiet (flatten.gathers started listing)
gathers_none started listing =
    then_none (shares_from 1 listing 0 []) (on_ok (flatten.installs_gathered started)) (λ result. on_ok_none (flatten.installs_gathered started) (λ read. index_none started (flat_of read.listed read.shares)) result)
    (itself_none 1 listing (range_with_len 0 (1 - 0)) [] (reads_truncs listing) (read_truncs listing))

lists_none : (started : Started) → AsksQuiet (flatten.lists started)
lists_none started = then_none (open_at_program started.room) (on_ok (flatten.gathers started)) (λ result. on_ok_none (flatten.gathers started) (gathers_none started) result) (listing_at_none started.room)

pub flatten_none : (name : Name) → AsksQuiet (flatten.flatten_program name)
flatten_none name = then_none (begin.start_program name) (on_ok flatten.lists) (λ result. on_ok_none flatten.lists lists_none result) (tt, λ reply. given_none (room_in reply) (failure reply) begin.begins (λ room. (tt, λ last. tt)))

-- ---- what follows the shares of a reader

pub after_shares : (listing : Listing) (shares : List Share) → AsksQuiet (opens listing shares)
after_shares listing shares = then_none (trunc_program listing.room) (on_ok (if_truncs listing shares)) (λ result. ok_none (if_truncs listing shares) (λ ts. tt) result) (truncs_none listing.room)

pub tells_none : (listing : Listing) (shares : List Share) → AsksQuiet (tells_by listing shares)
tells_none listing shares = then_none (trunc_program listing.room) (on_ok (λ ts. done (Ok (attr_of listing shares ts)))) (λ result. ok_none (λ ts. done (Ok (attr_of listing shares ts))) (λ ts. tt) result) (truncs_none listing.room)
