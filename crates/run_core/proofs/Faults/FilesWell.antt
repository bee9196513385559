-- The programs that truncate, rename, recover and tell of a file end in a fault only where one was answered.
use Rattle.std.proofs.Common.{◌≡◌, ℕ, zero, suc, ◌+◌, ◌-◌, ◌*◌, ◌/◌, Bool, true, false, List, [], ◌∷◌, ◌++◌, drop, length, min, nat_eq, nat_le, Result, Ok, Err, Option, Some, None, refl, sym, subst, max, ◌⊎◌}
use Rattle.std.specs.Prelude.{if◌then◌else◌}
use Rattle.plfs_types.specs.declared.entries.Trunc.{Trunc}
use Rattle.plfs_types.specs.declared.names.Path.{Path}
use Rattle.store_api.specs.declared.step.Answer.{Answer}
use Rattle.store_api.specs.declared.step.Answer.TheVariants as answer
use Rattle.mount_model.specs.declared.stuck.Stuck.{Stuck}
use Rattle.mount_model.specs.declared.stuck.Stuck.TheVariants as stuck
use Rattle.mount_model.specs.Program.{done, ask, followed_by}
use Rattle.mount_model.specs.declared.call.Call.TheVariants.{Bury, Find, Hold, Inspect, Look, Mark, Mend, MendHold, MendMeta, Move, Release, SyncDropping}
use Rattle.mount_model.specs.declared.call.Look.{Look as Sight}
use Rattle.mount_model.specs.declared.call.Look.TheVariants.{Length, Read, List as ListFolder}
use Rattle.mount_model.specs.declared.reply.Refusal.{Refusal}
use Rattle.mount_model.specs.declared.reply.Reply.{Reply}
use Rattle.mount_model.specs.declared.reply.Reply.TheVariants.{Damaged, Done, Holding, Looked, Marked, Mended, Refused, Room, Rooms}
use Rattle.mount_model.specs.Paths.{Name, index_path, log_path, metadata, truncs}
use Rattle.container_layout.specs.Paths.{openhosts}
use Rattle.mount_model.specs.Replies.{IsTrouble}
use Rattle.mount_model.specs.Shown.{MayShow}
use Rattle.mount_model.specs.declared.names.Metadata.{Metadata}
use Rattle.mount_model.specs.declared.names.OpenEntry.{OpenEntry}
use Rattle.mount_model.specs.FlowListed.{file_in, or_trouble, told_by}
use Rattle.mount_model.specs.Names.{meta_in, open_in, trunc_in}
use Rattle.mount_model.specs.Order.{entries_by_writer}
use Rattle.mount_model.specs.FlowReplies.{Tries, bytes_in, damage, failure, given, is_no_folder, length_in, on_ok, room_in, trouble}
use Rattle.trunc_rename.specs.Holding.{holder_in, holds, lets_go, or_lets_go, released}
use Rattle.trunc_rename.specs.Tops.{metadata_top, truncs_top}
use Rattle.trunc_rename.specs.Truncating.{lists_metadata as lists_metadata_top, lists_truncs as lists_truncs_top, marked, marks, truncate_program}
use Rattle.trunc_rename.specs.Renaming.{moved, moves, rename_program}
use Rattle.attr_flow.specs.declared.attr_flow.AttrOut.{AttrOut}
use Rattle.attr_flow.specs.Asking.{attr_program, attributes, if_open, lists_metadata, lists_open, lists_truncs}
use Rattle.attr_flow.specs.Listings.{has_entry, is_open, metadata_named, truncs_named}
use Rattle.torn_tail.specs.declared.recovering.Recovered.{Recovered}
use Rattle.torn_tail.specs.Words.{Run}
use Rattle.index_entry.specs.Spelling.{entry_in}
use Rattle.mount_model.specs.Entries.{is_next}
use Rattle.torn_tail.specs.Entries.{checked, longer, looked, no_entries}
use Rattle.torn_tail.specs.Recovering.{entries_named, hold_mended, lists_open as lists_writers, mends_hold, noted, nothing, recover_program, recovers, recovers_listed}
use Rattle.torn_tail.specs.Writers.{buries, found, if_checked, if_done, if_synced, is_alive, keeps, measures_index, measures_log, mends, mends_meta, not_done, reads, reads_left, reads_then, syncs_index, syncs_log, writer_program}
use Rattle.mount_model.specs.Entries.{next_read, reads_of}
use Rattle.actor_core.specs.Names.{names_program, names_told}
use Rattle.run_core.proofs.Faults.EndsWell.{EndsIn, GoesWell, by_reply, is_no_fault, then_well}

-- it ends in no fault
abbrev Well : {R : Type 0} → Tries R → Type 0
Well program = EndsIn is_no_fault program

abbrev Fine : {R : Type 0} → Result R Stuck → Type 0
Fine result = is_no_fault result ≡ true

-- of whatever type the result is
err_fine : (A R : Type 0) (why : Stuck) → Fine {R = A} (Err why) → Fine {R = R} (Err why)
err_fine A R stuck.Fault fine = fine
err_fine A R (stuck.Damaged folder file place) fine = fine
err_fine A R (stuck.Refused why) fine = fine

on_ok_well : {A R : Type 0} (next : A → Tries R) (result : Result A Stuck) → Fine result → ((a : A) → Well (next a)) → Well (on_ok next result)
on_ok_well next (Ok a) fine goes = goes a
on_ok_well {A} {R} next (Err why) fine goes = err_fine A R why fine

-- ---- looks

or_fine : {A B : Type 0} (found : Option A) (why : Stuck) (next : A → Result B Stuck) → Fine {R = B} (Err why) → ((a : A) → Fine (next a)) → Fine (or_trouble found why next)
or_fine None why next fine goes = fine
or_fine (Some a) why next fine goes = goes a

trouble_fine : (R : Type 0) (path : Path) (told : Answer) → Fine {R = R} (Err (trouble path (Looked told)))
trouble_fine R path answer.NoFolder = refl
trouble_fine R path answer.Made = refl
trouble_fine R path (answer.Old room) = refl
trouble_fine R path answer.Absent = refl
trouble_fine R path answer.NoRoom = refl
trouble_fine R path (answer.NotEmpty least) = refl
trouble_fine R path answer.TargetThere = refl
trouble_fine R path (answer.Names names) = refl
trouble_fine R path (answer.Number value) = refl
trouble_fine R path (answer.Bytes bytes) = refl
trouble_fine R path answer.Beyond = refl

-- what a listing tells
told_fine : {A : Type 0} (folder : Name) (tells : List Name → Result A Stuck) → ((names : List Name) → Fine (tells names)) → (told : Answer) → Fine (told_by folder tells (Looked told))
told_fine folder tells fine (answer.Names names) = fine names
told_fine folder tells fine answer.NoFolder = refl
told_fine folder tells fine answer.Made = refl
told_fine folder tells fine (answer.Old room) = refl
told_fine folder tells fine answer.Absent = refl
told_fine folder tells fine answer.NoRoom = refl
told_fine folder tells fine (answer.NotEmpty least) = refl
told_fine folder tells fine answer.TargetThere = refl
told_fine folder tells fine (answer.Number value) = refl
told_fine folder tells fine (answer.Bytes bytes) = refl
told_fine folder tells fine answer.Beyond = refl

-- a look, after which the program ends well whatever it shows
look_well : {R : Type 0} (room : ℕ) (look : Sight) (k : Reply → Tries R) → ((told : Answer) → Well (k (Looked told))) → ((why : Refusal) → Well (k (Refused why))) → ((folder file : Name) → Well (k (Damaged folder file))) → Well (ask (Look room look) k)
look_well room look k shows refuses damages = λ reply fits.
    by_reply is_no_fault k ((told : Answer) × MayShow look told × (reply ≡ Looked told)) reply fits (λ p. subst (λ r. Well (k r)) (sym p.2) (shows p.0)) refuses damages

given_well : {A R : Type 0} (found : Option A) (why : Stuck) (next : A → Tries R) → Fine {R = R} (Err why) → ((a : A) → Well (next a)) → Well (given found why next)
given_well None why next fine goes = fine
given_well (Some a) why next fine goes = goes a

-- what it gives leads on
measure_well : {A R : Type 0} (room : ℕ) (look : Sight) (f : Reply → Option A) (path : Path) (next : A → Tries R) → ((a : A) → Well (next a)) → Well (ask (Look room look) (λ reply. given (f reply) (trouble path reply) next))
measure_well {A} {R} room look f path next goes =
    look_well room look (λ reply. given (f reply) (trouble path reply) next)
    (λ told. given_well (f (Looked told)) (trouble path (Looked told)) next (trouble_fine R path told) goes)
    (λ why. given_well (f (Refused why)) (stuck.Refused why) next refl goes)
    (λ folder file. given_well (f (Damaged folder file)) (stuck.Damaged folder file 0) next refl goes)

pub find_well : {R : Type 0} (name : Name) (next : ℕ → Tries R) → ((room : ℕ) → Well (next room)) → Well (ask (Find name) (λ reply. given (room_in reply) (failure reply) next))
find_well name next goes = λ reply fits.
    by_reply is_no_fault (λ r. given (room_in r) (failure r) next) ((room : ℕ) × (reply ≡ Room room)) reply fits (λ p. subst (λ r. Well (given (room_in r) (failure r) next)) (sym p.1) (goes p.0)) (λ why. refl) (λ folder file. refl)

-- ---- a container is held

released_done : {R : Type 0} (outcome : Result R Stuck) → Fine outcome → Fine (released outcome Done)
released_done (Ok result) fine = refl
released_done (Err why) fine = fine

released_refused : {R : Type 0} (outcome : Result R Stuck) (why : Refusal) → Fine outcome → Fine (released outcome (Refused why))
released_refused (Ok result) because fine = refl
released_refused (Err why) because fine = fine

released_damaged : {R : Type 0} (outcome : Result R Stuck) (folder file : Name) → Fine outcome → Fine (released outcome (Damaged folder file))
released_damaged (Ok result) folder file fine = refl
released_damaged (Err why) folder file fine = fine

lets_go_well : {R : Type 0} (holder : ℕ) (outcome : Result R Stuck) → Fine outcome → Well (lets_go holder outcome)
lets_go_well holder outcome fine = λ reply fits.
    by_reply is_no_fault (λ r. done (released outcome r)) (reply ≡ Done) reply fits (λ e. subst (λ r. Well (done (released outcome r))) (sym e) (released_done outcome fine)) (λ why. released_refused outcome why fine) (λ folder file. released_damaged outcome folder file fine)

or_lets_go_well : {A R : Type 0} (holder : ℕ) (next : A → Tries R) (result : Result A Stuck) → Fine result → ((a : A) → Well (next a)) → Well (or_lets_go holder next result)
or_lets_go_well holder next (Ok a) fine goes = goes a
or_lets_go_well {A} {R} holder next (Err why) fine goes = lets_go_well {R = R} holder (Err why) (err_fine A R why fine)

holds_well : {R : Type 0} (room : ℕ) (next : ℕ → Tries R) → ((holder : ℕ) → Well (next holder)) → Well (holds room next)
holds_well room next goes = λ reply fits.
    by_reply is_no_fault (λ r. given (holder_in r) (failure r) next) ((holder : ℕ) × (reply ≡ Holding holder)) reply fits (λ p. subst (λ r. Well (given (holder_in r) (failure r) next)) (sym p.1) (goes p.0)) (λ why. refl) (λ folder file. refl)

-- ---- a truncate

metadata_top_fine : (names : List Name) (top : ℕ) → Fine (metadata_top names top)
metadata_top_fine [] top = refl
metadata_top_fine (name ∷ names) top = or_fine (meta_in name) (damage (file_in metadata name) 0) (λ (m : Metadata). metadata_top names (max top m.stamp)) refl (λ m. metadata_top_fine names (max top m.stamp))

truncs_top_fine : (names : List Name) (top : ℕ) → Fine (truncs_top names top)
truncs_top_fine [] top = refl
truncs_top_fine (name ∷ names) top = or_fine (trunc_in name) (damage (file_in truncs name) 0) (λ (t : Trunc). truncs_top names (max top t.stamp)) refl (λ t. truncs_top_fine names (max top t.stamp))

marks_well : (size holder top : ℕ) → Well (marks size holder top)
marks_well size holder top = λ reply fits.
    by_reply is_no_fault (λ r. lets_go holder (marked r)) ((stamp : ℕ) × (reply ≡ Marked stamp)) reply fits (λ p. subst (λ r. Well (lets_go holder (marked r))) (sym p.1) (lets_go_well holder (Ok p.0) refl))
    (λ why. lets_go_well holder (marked (Refused why)) refl) (λ folder file. lets_go_well holder (marked (Damaged folder file)) refl)

-- a listing, whose trouble lets go
lists_well : {A R : Type 0} (room holder : ℕ) (folder : Name) (tells : List Name → Result A Stuck) (next : A → Tries R) → ((names : List Name) → Fine (tells names)) → ((a : A) → Well (next a))
    → Well (ask (Look room (ListFolder folder)) (λ reply. or_lets_go holder next (told_by folder tells reply)))
lists_well room holder folder tells next fine goes =
    look_well room (ListFolder folder) (λ reply. or_lets_go holder next (told_by folder tells reply))
    (λ told. or_lets_go_well holder next (told_by folder tells (Looked told)) (told_fine folder tells fine told) goes)
    (λ why. or_lets_go_well holder next (told_by folder tells (Refused why)) refl goes)
    (λ in_folder file. or_lets_go_well holder next (told_by folder tells (Damaged in_folder file)) refl goes)

pub truncate_well : (name : List ℕ) (size : ℕ) → EndsIn is_no_fault (truncate_program name size)
truncate_well name size =
    find_well name (λ room. holds room (lists_metadata_top size room))
    (λ room. holds_well room (lists_metadata_top size room)
    (λ holder. lists_well room holder metadata (λ names. metadata_top names 0) (lists_truncs_top size room holder) (λ names. metadata_top_fine names 0)
    (λ top. lists_well room holder truncs (λ names. truncs_top names top) (marks size holder) (λ names. truncs_top_fine names top) (λ greatest. marks_well size holder greatest))))

-- ---- a rename

moves_well : (to : List ℕ) (holder : ℕ) → Well (moves to holder)
moves_well to holder = λ reply fits.
    by_reply is_no_fault (λ r. lets_go holder (moved r)) (reply ≡ Done) reply fits (λ e. subst (λ r. Well (lets_go holder (moved r))) (sym e) (lets_go_well holder (Ok tt) refl))
    (λ why. lets_go_well holder (moved (Refused why)) refl) (λ folder file. lets_go_well holder (moved (Damaged folder file)) refl)

pub rename_well : (name to : List ℕ) → EndsIn is_no_fault (rename_program name to)
rename_well name to = find_well name (λ room. holds room (moves to)) (λ room. holds_well room (moves to) (moves_well to))

-- ---- what tells of a file

has_entry_fine : (names : List Name) (before : Bool) → Fine (has_entry names before)
has_entry_fine [] before = refl
has_entry_fine (name ∷ names) before = or_fine (open_in name) (damage (file_in openhosts name) 0) (λ (e : OpenEntry). has_entry names true) refl (λ e. has_entry_fine names true)

metadata_fine : (names : List Name) (sofar : List Metadata) → Fine (metadata_named names sofar)
metadata_fine [] sofar = refl
metadata_fine (name ∷ names) sofar = or_fine (meta_in name) (damage (file_in metadata name) 0) (λ (m : Metadata). metadata_named names (sofar ++ m ∷ [])) refl (λ m. metadata_fine names (sofar ++ m ∷ []))

truncs_fine : (names : List Name) (sofar : List Trunc) → Fine (truncs_named names sofar)
truncs_fine [] sofar = refl
truncs_fine (name ∷ names) sofar = or_fine (trunc_in name) (damage (file_in truncs name) 0) (λ (t : Trunc). truncs_named names (sofar ++ t ∷ [])) refl (λ t. truncs_fine names (sofar ++ t ∷ []))

attributes_fine : (metas : List Metadata) (result : Result (List Trunc) Stuck) → Fine result → Fine (attributes metas result)
attributes_fine metas (Ok listed) fine = refl
attributes_fine metas (Err why) fine = err_fine (List Trunc) AttrOut why fine

lists_truncs_well : (room : ℕ) (metas : List Metadata) → Well (lists_truncs room metas)
lists_truncs_well room metas =
    let tells : List Name → Result (List Trunc) Stuck = λ names. truncs_named names [] in
    look_well room (ListFolder truncs) (λ reply. done (attributes metas (told_by truncs tells reply)))
    (λ told. attributes_fine metas (told_by truncs tells (Looked told)) (told_fine truncs tells (λ names. truncs_fine names []) told))
    (λ why. refl) (λ folder file. refl)

lists_metadata_well : (room : ℕ) → Well (lists_metadata room)
lists_metadata_well room =
    let tells : List Name → Result (List Metadata) Stuck = λ names. metadata_named names [] in
    look_well room (ListFolder metadata) (λ reply. on_ok (lists_truncs room) (told_by metadata tells reply))
    (λ told. on_ok_well (lists_truncs room) (told_by metadata tells (Looked told)) (told_fine metadata tells (λ names. metadata_fine names []) told) (lists_truncs_well room))
    (λ why. refl) (λ folder file. refl)

if_open_well : (room : ℕ) (open_now : Bool) → Well (if_open room open_now)
if_open_well room true = refl
if_open_well room false = lists_metadata_well room

is_open_fine : (told : Answer) → Fine (is_open (Looked told))
is_open_fine told = elim (is_no_folder (Looked told)) as (λ b. Fine (if b then Ok false else told_by openhosts (λ names. has_entry names false) (Looked told))) [
  | true ↦ refl
  | false ↦ told_fine openhosts (λ names. has_entry names false) (λ names. has_entry_fine names false) told
]

pub attr_well : (name : List ℕ) → EndsIn is_no_fault (attr_program name)
attr_well name =
    find_well name lists_open
    (λ room. look_well room (ListFolder openhosts) (λ reply. on_ok (if_open room) (is_open reply))
    (λ told. on_ok_well (if_open room) (is_open (Looked told)) (is_open_fine told) (if_open_well room))
    (λ why. refl) (λ folder file. refl))

-- ---- a recovery

either_fine : {R : Type 0} (b : Bool) (x y : Result R Stuck) → Fine x → Fine y → Fine (if b then x else y)
either_fine true x y one other = one
either_fine false x y one other = other

not_done_fine : (why : Refusal) → Fine (not_done (Refused why))
not_done_fine why = either_fine (is_alive (Refused why)) _ (Err (failure (Refused why))) refl refl

-- calls that are answered Done lead on
done_well : {may : Refusal → Type 0} (next : Tries _) (reply : Reply) → Well next → (reply ≡ Done) ⊎ IsTrouble may reply → GoesWell is_no_fault (if_done next) reply
done_well next reply well fits =
    by_reply is_no_fault (if_done next) (reply ≡ Done) reply fits (λ is. subst (λ r. Well (if_done next r)) (sym is) well) not_done_fine (λ folder file. refl)

synced_well : {may : Refusal → Type 0} (next : Tries _) (reply : Reply) → Well next → (reply ≡ Done) ⊎ IsTrouble may reply → GoesWell is_no_fault (if_synced next) reply
synced_well next reply well fits =
    by_reply is_no_fault (if_synced next) (reply ≡ Done) reply fits (λ is. subst (λ r. Well (if_synced next r)) (sym is) well) (λ why. refl) (λ folder file. refl)

buries_well : (room : ℕ) (e : OpenEntry) (count : ℕ) → Well (buries room e count)
buries_well room e count = λ reply fits.
    done_well (done _) reply refl fits

mends_meta_well : (room : ℕ) (e : OpenEntry) (run : Run) → Well (mends_meta room e run)
mends_meta_well room e run = λ reply fits.
    done_well (buries room e run.cover.count) reply (buries_well room e run.cover.count) fits

syncs_index_well : (room : ℕ) (e : OpenEntry) (run : Run) → Well (syncs_index room e run)
syncs_index_well room e run = λ reply fits.
    synced_well (mends_meta room e run) reply (mends_meta_well room e run) fits

syncs_log_well : (room : ℕ) (e : OpenEntry) (run : Run) → Well (syncs_log room e run)
syncs_log_well room e run = λ reply fits.
    synced_well (syncs_index room e run) reply (syncs_index_well room e run) fits

keeps_well : (room : ℕ) (e : OpenEntry) (run : Run) → Well (keeps room e run)
keeps_well room e run = elim (nat_eq run.cover.count 0) as (λ b. Well (if b then buries room e 0 else syncs_log room e run)) [
  | true ↦ buries_well room e 0
  | false ↦ syncs_log_well room e run
]

mends_well : (room : ℕ) (e : OpenEntry) (run : Run) → Well (mends room e run)
mends_well room e run = λ reply fits.
    done_well (keeps room e run) reply (keeps_well room e run) fits

found_well : (room : ℕ) (e : OpenEntry) (told : ℕ) (run : Run) → Well (found room e told run)
found_well room e told run = elim (nat_eq told (40 * run.cover.count)) as (λ b. Well (if b then keeps room e run else mends room e run)) [
  | true ↦ keeps_well room e run
  | false ↦ mends_well room e run
]

either_well : {R : Type 0} (b : Bool) (p q : Tries R) → Well p → Well q → Well (if b then p else q)
either_well true p q one other = one
either_well false p q one other = other

either_of : {X : Type 0} (P : X → Type 0) (b : Bool) (x y : X) → P x → P y → P (if b then x else y)
either_of P true x y one other = one
either_of P false x y one other = other

checked_well : (e : OpenEntry) (ends : Run → Tries _) (more : Bool → Run → Tries _) (full : Bool) (log n : ℕ) (bytes : List ℕ) (run : Run) → ((run : Run) → Well (ends run)) → ((past : Bool) (run : Run) → Well (more past run))
    → Well (if_checked e ends more full (checked log n bytes run))
checked_well e ends more full log zero bytes run ending going = either_well full (more false run) (ends run) (going false run) (ending run)
checked_well e ends more full log (suc n) bytes run ending going =
    either_of (λ went. Well (if_checked e ends more full went)) (is_next run.cover (entry_in bytes)) _ _
    (either_of (λ went. Well (if_checked e ends more full went)) (nat_le ((entry_in bytes).physical + (entry_in bytes).len) log) _ _
    (checked_well e ends more full log n (drop 40 bytes) (longer (entry_in bytes) run) ending going)
    (either_well full (more true run) (ends run) (going true run) (ending run)))
    refl

looked_well : (e : OpenEntry) (ends : Run → Tries _) (more : Bool → Run → Tries _) (full ended : Bool) (log asked : ℕ) (bytes : List ℕ) (run : Run) → ((run : Run) → Well (ends run)) → ((past : Bool) (run : Run) → Well (more past run))
    → Well (if_checked e ends more full (looked ended log asked bytes run))
looked_well e ends more full true log asked bytes run ending going = either_well full (more true run) (ends run) (going true run) (ending run)
looked_well e ends more full false log asked bytes run ending going = checked_well e ends more full log (min (length bytes / 40) asked) bytes run ending going

reads_then_well : (room : ℕ) (e : OpenEntry) (told log left : ℕ) (ended : Bool) (run : Run) (more : Bool → Run → Tries _) → ((past : Bool) (longer : Run) → Well (more past longer)) → Well (reads_then room e told log left ended run more)
reads_then_well room e told log left ended run more going =
    measure_well room (Read (index_path e.host e.writer) (40 * (told / 40 - left)) (40 * next_read left)) bytes_in (index_path e.host e.writer)
    (λ bytes. if_checked e (found room e told) more (nat_le (40 * next_read left) (length bytes)) (looked ended log (next_read left) bytes run))
    (λ bytes. looked_well e (found room e told) more (nat_le (40 * next_read left) (length bytes)) ended log (next_read left) bytes run (found_well room e told) going)

reads_well : (n room : ℕ) (e : OpenEntry) (told log left : ℕ) (ended : Bool) (run : Run) → Well (reads n room e told log left ended run)
reads_well zero room e told log left ended run = found_well room e told run
reads_well (suc n) room e told log left ended run =
    reads_then_well room e told log left ended run (λ past longer. reads n room e told log (left - next_read left) past longer) (λ past longer. reads_well n room e told log (left - next_read left) past longer)

measures_well : (room : ℕ) (e : OpenEntry) → Well (measures_index room e)
measures_well room e =
    measure_well room (Length (index_path e.host e.writer)) length_in (index_path e.host e.writer) (measures_log room e)
    (λ told. measure_well room (Length (log_path e.host e.writer)) length_in (log_path e.host e.writer) (λ log. reads_left room e told log (told / 40) false (no_entries e.writer))
    (λ log. reads_well (reads_of (told / 40)) room e told log (told / 40) false (no_entries e.writer)))

writer_well : (room : ℕ) (e : OpenEntry) → Well (writer_program room e)
writer_well room e = λ reply fits.
    done_well (measures_index room e) reply (measures_well room e) fits

recovers_well : (room : ℕ) (entries : List OpenEntry) (sofar : Recovered) → Well (recovers room entries sofar)
recovers_well room [] sofar = refl
recovers_well room (e ∷ entries) sofar =
    then_well is_no_fault is_no_fault (writer_program room e) (on_ok (λ fate. recovers room entries (noted e fate sofar)))
    (λ result fine. on_ok_well (λ fate. recovers room entries (noted e fate sofar)) result fine (λ fate. recovers_well room entries (noted e fate sofar))) (writer_well room e)

mends_hold_well : (room : ℕ) → Well (mends_hold room)
mends_hold_well room = λ reply fits.
    by_reply is_no_fault (λ r. done (hold_mended r)) ((made : Bool) × (reply ≡ Mended made)) reply fits (λ p. subst (λ r. Well (done (hold_mended r))) (sym p.1) refl) (λ why. refl) (λ folder file. refl)

entries_fine : (names : List Name) (sofar : List OpenEntry) → Fine (entries_named names sofar)
entries_fine [] sofar = refl
entries_fine (name ∷ names) sofar = or_fine (open_in name) (damage (file_in openhosts name) 0) (λ (e : OpenEntry). entries_named names (sofar ++ e ∷ [])) refl (λ e. entries_fine names (sofar ++ e ∷ []))

pub recover_well : (name : List ℕ) → EndsIn is_no_fault (recover_program name)
recover_well name =
    let tells : List Name → Result (List OpenEntry) Stuck = λ names. entries_named names [] in
    find_well name lists_writers
    (λ room. look_well room (ListFolder openhosts) (λ reply. if is_no_folder reply then mends_hold room else recovers_listed room (told_by openhosts tells reply))
    (λ told. either_well (is_no_folder (Looked told)) (mends_hold room) (recovers_listed room (told_by openhosts tells (Looked told))) (mends_hold_well room)
    (on_ok_well (λ entries. recovers room (entries_by_writer entries) nothing) (told_by openhosts tells (Looked told)) (told_fine openhosts tells (λ names. entries_fine names []) told) (λ entries. recovers_well room (entries_by_writer entries) nothing)))
    (λ why. refl) (λ folder file. refl))

-- ---- the names of all files

pub names_well : EndsIn is_no_fault names_program
names_well = λ reply fits.
    by_reply is_no_fault (λ r. done (names_told r)) ((names : List Name) × (reply ≡ Rooms names)) reply fits (λ p. subst (λ r. Well (done (names_told r))) (sym p.1) refl) (λ why. refl) (λ folder file. refl)
