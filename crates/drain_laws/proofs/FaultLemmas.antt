-- A drain ends in a fault of its source, or of its target, only where that one failed.
use Rattle.std.proofs.Common.{◌≡◌, ◌≢◌, ℕ, zero, suc, ◌+◌, ◌-◌, nat_lt, min, length, Bool, true, false, List, [], ◌∷◌, Option, Some, None, refl, sym, ◌∙◌, inl, inr, subst}
use Rattle.std.specs.Prelude.{Result, Ok, Err, if◌then◌else◌}
use Rattle.std.proofs.lemmas.Bool.{cases_Bool, cond-true, cond-false}
use Rattle.plfs_types.specs.declared.entries.Trunc.{Trunc}
use Rattle.plfs_types.specs.declared.limits.TheConstants.{ENTRIES_A_READ}
use Rattle.plfs_types.specs.declared.names.Path.{Path}
use Rattle.store_api.specs.declared.step.Answer.{Answer}
use Rattle.store_api.specs.declared.step.Answer.TheVariants.{NoFolder}
use Rattle.store_api.specs.declared.store.Trouble.TheVariants.{Fault as ToldFault, NoMemory as ToldNoMemory}
use Rattle.store_api.specs.Step.{write_at}
use Rattle.container_layout.specs.Paths.{hostdir_of}
use Rattle.mount_model.specs.declared.call.Call.{Call}
use Rattle.mount_model.specs.declared.call.Call.TheVariants.{Find, Look, SyncDropping}
use Rattle.mount_model.specs.declared.call.Look.{Look as Sight}
use Rattle.mount_model.specs.declared.call.Look.TheVariants.{Read}
use Rattle.mount_model.specs.declared.reply.Refusal.{Refusal}
use Rattle.mount_model.specs.declared.reply.Reply.{Reply}
use Rattle.mount_model.specs.declared.reply.Reply.TheVariants as reply_of
use Rattle.mount_model.specs.Paths.{Name, mark_path}
use Rattle.container_layout.specs.Paths.{openhosts}
use Rattle.mount_model.specs.Replies.{FitsCall, IsTrouble, damaged, fault, no_memory, refused}
use Rattle.mount_model.specs.declared.stuck.Stuck.{Stuck}
use Rattle.mount_model.specs.declared.stuck.Stuck.TheVariants as stuck
use Rattle.mount_model.specs.FlowReplies.{Tries, bytes_in, damage, failure, room_in, trouble}
use Rattle.mount_model.specs.Program.{AsksOnly, done, ask}
use Rattle.drain_read.specs.declared.held.Held.{Held}
use Rattle.drain_read.specs.declared.read.Contained.{Contained}
use Rattle.drain_read.specs.declared.read.WriterRead.{WriterRead}
use Rattle.drain_read.specs.Holding.{held_program}
use Rattle.drain_read.specs.Reading.{contained_program}
use Rattle.drain_copy.specs.declared.outcome.Drained.{Drained}
use Rattle.drain_copy.specs.declared.outcome.DrainStuck.{DrainStuck}
use Rattle.drain_copy.specs.declared.outcome.DrainStuck.TheVariants.{Source, Taken, TargetDamaged, TargetFault}
use Rattle.drain_copy.specs.declared.parts.TheConstants.{LOG_PART}
use Rattle.drain_copy.specs.declared.plan.Copying.{Copying}
use Rattle.drain_copy.specs.declared.plan.Due.{Due}
use Rattle.drain_copy.specs.declared.plan.Job.{Job}
use Rattle.drain_copy.specs.declared.plan.Owner.{Owner}
use Rattle.drain_copy.specs.Asking.{acts, at_source as on_source, at_target as on_target, calls, ends, look_reply}
use Rattle.mount_model.specs.Making.{Told}
use Rattle.drain_copy.specs.Copying.{copies, copies_bytes, copies_log, copies_writer, entry_of, given_part, index_of, log_of, makes_hostdir, makes_index, makes_log, part_told, parts_of, puts_truncs, trunc_file, writes_entries, writes_index}
use Rattle.drain_copy.specs.Draining.{copies_to, drain_program, finds_source, gathers, if_gathered, if_held, job_of, known_at, makes_all_marks, makes_marks, makes_marks_room, reads_target, syncs, syncs_second, unless_taken}
use Rattle.drain_copy.specs.Planning.{count_there, is_taken, mounts_of, nothing_held, owners_of, taken}
use Rattle.drain_copy.specs.Telling.{DrainsOn, Outcome, done_in, entry_made, folder_alone, found_room, kept, made_now, made_or_old, on_good, or_damaged, or_stuck, roomed, sought, stuck_there, told_well}
use Rattle.drain_laws.proofs.FineLemmas.{EndsFine, IsFineOn, contained_fine, held_fine}
use Rattle.drain_laws.proofs.LooksLemmas.{contained_only}

-- ---- replies that are no fault

-- of the source, to a look
abbrev GoodHere : Reply → Type 0
GoodHere (reply_of.Looked answer) = Unit {0}
GoodHere (reply_of.Refused why) = Unit {0}
GoodHere (reply_of.Damaged folder file) = Unit {0}
GoodHere reply = ⊥

abbrev FineHere : Stuck → Type 0
FineHere stuck.Fault = ⊥
FineHere why = Unit {0}

troubled_here : (path : Path) (reply : Reply) → GoodHere reply → FineHere (trouble path reply)
troubled_here path (reply_of.Looked NoFolder) good = tt
troubled_here path (reply_of.Looked answer) good = tt
troubled_here path (reply_of.Refused why) good = tt
troubled_here path (reply_of.Damaged folder file) good = tt
troubled_here path reply good = absurd good

-- of the target, to a look
abbrev GoodThere : Reply → Type 0
GoodThere (reply_of.Looked answer) = Unit {0}
GoodThere reply = ⊥

abbrev FineThere : Stuck → Type 0
FineThere (stuck.Damaged folder file place) = Unit {0}
FineThere why = ⊥

troubled_there : (path : Path) (reply : Reply) → GoodThere reply → FineThere (trouble path reply)
troubled_there path (reply_of.Looked NoFolder) good = tt
troubled_there path (reply_of.Looked answer) good = tt
troubled_there path reply good = absurd good

-- what was told at the target, as a reply
good_there : (answer : Answer) → GoodThere (look_reply (Ok answer))
good_there NoFolder = tt
good_there answer = tt

-- ---- programs that end in no fault

-- the source failed, where that is asked of, or else the target
abbrev pub EndsInFaultOf : Bool → Outcome → Type 0
EndsInFaultOf true (Err (Source stuck.Fault)) = Unit {0}
EndsInFaultOf false (Err TargetFault) = Unit {0}
EndsInFaultOf is_source outcome = ⊥

-- a reply of the source, and what the target told, where only the failures of the other store are left out
abbrev pub Serves : Bool → Reply → Type 0
Serves true reply = reply ≢ reply_of.Fault
Serves false reply = Unit {0}

abbrev pub ServesThere : Bool → Told → Type 0
ServesThere true told = Unit {0}
ServesThere false told = told ≢ Err ToldFault

-- Where the source doesn't fail, or else the target, and memory isn't refused, it doesn't end in a fault of that one.
abbrev pub NeverFaults : Bool → DrainsOn → Type 0
NeverFaults b (ends outcome) = EndsInFaultOf b outcome → ⊥
NeverFaults b (calls call k) = (reply : Reply) → FitsCall call reply → Serves b reply → reply ≢ reply_of.NoMemory → NeverFaults b (k reply)
NeverFaults b (acts step k) = (told : Told) → ServesThere b told → told ≢ Err ToldNoMemory → NeverFaults b (k told)

abbrev NoFault : {X : Type 0} → Bool → Result X DrainStuck → Type 0
NoFault b (Ok x) = Unit {0}
NoFault b (Err why) = EndsInFaultOf b (Err why) → ⊥

never_on : {X : Type 0} (b : Bool) (next : X → DrainsOn) (r : Result X DrainStuck) → NoFault b r → ((x : X) → NeverFaults b (next x)) → NeverFaults b (on_good next r)
never_on b next (Ok x) none goes = goes x
never_on b next (Err why) none goes = none

-- damage is no fault
no_hurt : (b : Bool) (folder file : Name) (place : ℕ) → EndsInFaultOf b (Err (TargetDamaged folder file place)) → ⊥
no_hurt true folder file place bad = bad
no_hurt false folder file place bad = bad

no_damage : {X : Type 0} (b : Bool) (path : Path) (o : Option X) → NoFault b (or_damaged path o)
no_damage b path None = no_hurt b path.folder path.file 0
no_damage b path (Some x) = tt

-- so is an answer that isn't wanted
told_so : {X : Type 0} (b : Bool) (path : Path) (good : Answer → Option X) (told : Told) → ServesThere b told → told ≢ Err ToldNoMemory → NoFault b (told_well path good told)
told_so b path good (Ok answer) served had = no_damage b path (good answer)
told_so true path good (Err ToldFault) served had = λ bad. bad
told_so false path good (Err ToldFault) served had = absurd (served refl)
told_so b path good (Err ToldNoMemory) served had = absurd (had refl)

never_told : {X : Type 0} (b : Bool) (path : Path) (good : Answer → Option X) (next : X → DrainsOn) → ((x : X) → NeverFaults b (next x)) → (told : Told) → ServesThere b told → told ≢ Err ToldNoMemory → NeverFaults b (on_good next (told_well path good told))
never_told b path good next goes told served had = never_on b next (told_well path good told) (told_so b path good told served had) goes

no_entry : (b : Bool) (path : Path) (told : Told) → ServesThere b told → told ≢ Err ToldNoMemory → NoFault b (entry_made path told)
no_entry b path (Ok NoFolder) served had = no_hurt b openhosts [] 0
no_entry b path (Ok answer) served had = told_so b path made_or_old (Ok answer) served had
no_entry b path (Err why) served had = told_so b path made_or_old (Err why) served had

-- ---- what the source replies

-- a trouble of the source is no fault of the target, and it is none of the source where that served
source_fine : (b : Bool) (why : Stuck) → (b ≡ true → FineHere why) → EndsInFaultOf b (Err (Source why)) → ⊥
source_fine true why fine bad = none why (fine refl) bad
  where
    none : (why : Stuck) → FineHere why → EndsInFaultOf true (Err (Source why)) → ⊥
    none stuck.Fault fine bad = fine
    none (stuck.Refused why) fine bad = bad
    none (stuck.Damaged folder file place) fine bad = bad
source_fine false why fine bad = bad

failed_fine : {may : Refusal → Type 0} (reply : Reply) → IsTrouble may reply → reply ≢ reply_of.Fault → reply ≢ reply_of.NoMemory → FineHere (failure reply)
failed_fine reply (refused why m is) good had = subst (λ r. FineHere (failure r)) (sym is) tt
failed_fine reply (damaged folder file is) good had = subst (λ r. FineHere (failure r)) (sym is) tt
failed_fine reply (fault is) good had = absurd (good is)
failed_fine reply (no_memory is) good had = absurd (had is)

looked_well : (room : ℕ) (sight : Sight) (reply : Reply) → FitsCall (Look room sight) reply → reply ≢ reply_of.Fault → reply ≢ reply_of.NoMemory → GoodHere reply
looked_well room sight reply (inl answer) good had = subst GoodHere (sym answer.2) tt
looked_well room sight reply (inr (refused why m is)) good had = subst GoodHere (sym is) tt
looked_well room sight reply (inr (damaged folder file is)) good had = subst GoodHere (sym is) tt
looked_well room sight reply (inr (fault is)) good had = absurd (good is)
looked_well room sight reply (inr (no_memory is)) good had = absurd (had is)

never_so : false ≡ true → ⊥
never_so e = cc

-- where the source is judged, it served
serves : (b : Bool) (reply : Reply) → Serves b reply → b ≡ true → reply ≢ reply_of.Fault
serves true reply served is = served
serves false reply served is = absurd (never_so is)

found_well : (b : Bool) (name : Name) (reply : Reply) → FitsCall (Find name) reply → Serves b reply → reply ≢ reply_of.NoMemory → NoFault b (found_room reply)
found_well b name reply (inl answer) good had = subst (λ r. NoFault b (found_room r)) (sym answer.1) tt
found_well b name reply (inr bad) good had = not_there (room_in reply)
  where
    not_there : (o : Option ℕ) → NoFault b (or_stuck o (failure reply))
    not_there None = source_fine b (failure reply) (λ is. failed_fine reply bad (serves b reply good is) had)
    not_there (Some room) = tt

kept_well : (b : Bool) (room host writer : ℕ) (log : Bool) (reply : Reply) → FitsCall (SyncDropping room host writer log) reply → Serves b reply → reply ≢ reply_of.NoMemory → NoFault b (kept reply)
kept_well b room host writer log reply (inl is) good had = subst (λ r. NoFault b (kept r)) (sym is) tt
kept_well b room host writer log reply (inr bad) good had = not_done (done_in reply)
  where
    not_done : (o : Option (Unit {0})) → NoFault b (or_stuck o (failure reply))
    not_done None = source_fine b (failure reply) (λ is. failed_fine reply bad (serves b reply good is) had)
    not_done (Some made) = tt

no_short : (b : Bool) (path : Path) (at len : ℕ) (bytes : List ℕ) (test : Bool) → NoFault b (if test then Err (Source (damage path (at + length bytes))) else Ok bytes)
no_short b path at len bytes true = source_fine b (damage path (at + length bytes)) (λ is. tt)
no_short b path at len bytes false = tt

part_well : (b : Bool) (path : Path) (at len : ℕ) (reply : Reply) (o : Option (List ℕ)) → (b ≡ true → GoodHere reply) → NoFault b (given_part path at len reply o)
part_well b path at len reply None good = source_fine b (trouble path reply) (λ is. troubled_here path reply (good is))
part_well b path at len reply (Some bytes) good = no_short b path at len bytes (nat_lt (length bytes) len)

-- ---- copying

module _ (b : Bool) where
  -- one that is through ends in none
  never_end : (to : ℕ) (drained : Drained) → NeverFaults b (puts_truncs to [] drained)
  never_end to drained = by_side b
    where
      by_side : (b : Bool) → EndsInFaultOf b (Ok drained) → ⊥
      by_side true bad = bad
      by_side false bad = bad

  truncs_never : (to : ℕ) (ts : List Trunc) (drained : Drained) → NeverFaults b (puts_truncs to ts drained)
  truncs_never to [] drained = never_end to drained
  truncs_never to (t ∷ ts) drained = never_told b (trunc_file t) made_or_old (λ made. puts_truncs to ts drained) (λ made. truncs_never to ts drained)

  module _ (next : DrainsOn) (goes : NeverFaults b next) (c : Copying) where
    index_never : (n left : ℕ) → NeverFaults b (writes_index next n c left)
    index_never zero left = never_told b (index_of c.due) made_now (λ made. next) (λ made. goes)
    index_never (suc n) left = never_told b (index_of c.due) made_now (λ made. writes_index next n c (left - min left ENTRIES_A_READ)) (λ made. index_never n (left - min left ENTRIES_A_READ))

    entries_never : NeverFaults b (writes_entries next c)
    entries_never = index_never (parts_of ENTRIES_A_READ (length c.due.entries)) (length c.due.entries)

    abbrev writes_part : ℕ → ℕ → List ℕ → DrainsOn
    writes_part n left bytes = acts (write_at c.to (log_of c.due).folder (log_of c.due).file (c.due.bytes - left) bytes) (λ told. on_good (λ made. copies_log next n c (left - min left LOG_PART)) (told_well (log_of c.due) made_now told))

    written : (n left : ℕ) (bytes : List ℕ) → NeverFaults b (copies_log next n c (left - min left LOG_PART)) → NeverFaults b (writes_part n left bytes)
    written n left bytes more = never_told b (log_of c.due) made_now (λ made. copies_log next n c (left - min left LOG_PART)) (λ made. more)

    log_never : (n left : ℕ) → NeverFaults b (copies_log next n c left)
    log_never zero left = never_told b (log_of c.due) made_now (λ made. writes_entries next c) (λ made. entries_never)
    log_never (suc n) left = λ reply fits good had. never_on b (writes_part n left) (part_told (log_of c.due) (c.due.bytes - left) (min left LOG_PART) reply)
        (part_well b (log_of c.due) (c.due.bytes - left) (min left LOG_PART) reply (bytes_in reply) (λ is. looked_well c.from (Read (log_of c.due) (c.due.bytes - left) (min left LOG_PART)) reply fits (serves b reply good is) had))
        (λ bytes. written n left bytes (log_never n (left - min left LOG_PART)))

    bytes_never : NeverFaults b (copies_bytes next c)
    bytes_never = log_never (parts_of LOG_PART (c.due.bytes - c.due.log)) (c.due.bytes - c.due.log)

    log_made : NeverFaults b (makes_log next c)
    log_made = never_told b (log_of c.due) made_or_old (λ made. copies_bytes next c) (λ made. bytes_never)

    index_made : NeverFaults b (makes_index next c)
    index_made = never_told b (index_of c.due) made_or_old (λ made. makes_log next c) (λ made. log_made)

    host_made : NeverFaults b (makes_hostdir next c)
    host_made = never_told b (folder_alone (hostdir_of c.due.host)) made_or_old (λ made. makes_index next c) (λ made. index_made)

    writer_never : NeverFaults b (copies_writer next c)
    writer_never = λ told served had. never_on b (λ made. makes_hostdir next c) (entry_made (entry_of c.due) told) (no_entry b (entry_of c.due) told served had) (λ made. host_made)

  copies_never : (from to : ℕ) (ts : List Trunc) (drained : Drained) (dues : List Due) → NeverFaults b (copies from to ts drained dues)
  copies_never from to ts drained [] = truncs_never to ts drained
  copies_never from to ts drained (due ∷ dues) = writer_never (copies from to ts drained dues) (copies_never from to ts drained dues) (record { from = from; to = to; due = due })

  marks_never : (job : Job) (marks : ℕ) (ms : List ℕ) → NeverFaults b (makes_marks job marks ms)
  marks_never job marks [] = never_told b (folder_alone []) roomed (copies_to job) (λ to. copies_never job.from to job.truncs job.drained job.dues)
  marks_never job marks (m ∷ ms) = never_told b (mark_path m) made_or_old (λ made. makes_marks job marks ms) (λ made. marks_never job marks ms)

  makes_never : (job : Job) (mounts : List ℕ) → NeverFaults b (makes_marks_room job mounts)
  makes_never job mounts = never_told b (folder_alone []) roomed (makes_all_marks job mounts) (λ marks. marks_never job marks mounts)

  second_never : (room : ℕ) (o : Owner) (next : DrainsOn) → NeverFaults b next → NeverFaults b (syncs_second room o next)
  second_never room o next goes = λ reply fits good had. never_on b (λ made. next) (kept reply) (kept_well b room o.host o.writer false reply fits good had) (λ made. goes)

  syncs_never : (room : ℕ) (os : List Owner) (next : DrainsOn) → NeverFaults b next → NeverFaults b (syncs room os next)
  syncs_never room [] next goes = goes
  syncs_never room (o ∷ os) next goes = λ reply fits good had. never_on b (λ made. syncs_second room o (syncs room os next)) (kept reply) (kept_well b room o.host o.writer true reply fits good had) (λ made. second_never room o (syncs room os next) (syncs_never room os next goes))

-- ---- reading

abbrev IsRoomLook : Call → Type 0
IsRoomLook (Look room sight) = Unit {0}
IsRoomLook call = ⊥

-- the replies that are judged at the side that is told of, and the troubles there
abbrev Heard : Bool → Reply → Type 0
Heard true reply = GoodHere reply
Heard false reply = Unit {0}

abbrev MayMeet : Bool → Stuck → Type 0
MayMeet true why = FineHere why
MayMeet false why = Unit {0}

heard_hurt : (b : Bool) (folder file : Name) (place : ℕ) → MayMeet b (stuck.Damaged folder file place)
heard_hurt true folder file place = tt
heard_hurt false folder file place = tt

heard_trouble : (b : Bool) (path : Path) (reply : Reply) → Heard b reply → MayMeet b (trouble path reply)
heard_trouble true path reply good = troubled_here path reply good
heard_trouble false path reply good = tt

abbrev HeardThere : Bool → Reply → Type 0
HeardThere true reply = Unit {0}
HeardThere false reply = GoodThere reply

abbrev MayMeetThere : Bool → Stuck → Type 0
MayMeetThere true why = Unit {0}
MayMeetThere false why = FineThere why

there_hurt : (b : Bool) (folder file : Name) (place : ℕ) → MayMeetThere b (stuck.Damaged folder file place)
there_hurt true folder file place = tt
there_hurt false folder file place = tt

there_trouble : (b : Bool) (path : Path) (reply : Reply) → HeardThere b reply → MayMeetThere b (trouble path reply)
there_trouble true path reply good = tt
there_trouble false path reply good = troubled_there path reply good

good_look : (b : Bool) (call : Call) (reply : Reply) → IsRoomLook call → FitsCall call reply → Serves b reply → reply ≢ reply_of.NoMemory → Heard b reply
good_look true (Look room sight) reply is fits good had = looked_well room sight reply fits good had
good_look true call reply is fits good had = absurd is
good_look false call reply is fits good had = tt

look_told : (b : Bool) (told : Told) → ServesThere b told → told ≢ Err ToldNoMemory → HeardThere b (look_reply told)
look_told true told served had = tt
look_told false (Ok answer) served had = good_there answer
look_told false (Err ToldFault) served had = absurd (served refl)
look_told false (Err ToldNoMemory) served had = absurd (had refl)

module _ (b : Bool) where
  abbrev Here : {X : Type 0} → Result X Stuck → Type 0
  Here out = EndsFine (Heard b) (MayMeet b) (heard_hurt b) (heard_trouble b) out

  abbrev There : {X : Type 0} → Result X Stuck → Type 0
  There out = EndsFine (HeardThere b) (MayMeetThere b) (there_hurt b) (there_trouble b) out

  source_never : {X : Type 0} (p : Tries X) (next : Result X Stuck → DrainsOn) → AsksOnly IsRoomLook p → IsFineOn (Heard b) (MayMeet b) (heard_hurt b) (heard_trouble b) p → ((out : Result X Stuck) → Here out → NeverFaults b (next out)) → NeverFaults b (on_source p next)
  source_never (done out) next only fine goes = goes out fine
  source_never (ask q k) next only fine goes = λ reply fits good had. source_never (k reply) next (only.1 reply) (fine reply (good_look b q reply only.0 fits good had)) goes

  target_never : {X : Type 0} (p : Tries X) (next : Result X Stuck → DrainsOn) → IsFineOn (HeardThere b) (MayMeetThere b) (there_hurt b) (there_trouble b) p → ((out : Result X Stuck) → There out → NeverFaults b (next out)) → NeverFaults b (on_target p next)
  target_never (done out) next fine goes = goes out fine
  target_never (ask q k) next fine goes = λ told served had. target_never (k (look_reply told)) next (fine (look_reply told) (look_told b told served had)) goes

  -- ---- a drain

  taken_never : (held : Held) (ws : List WriterRead) (why : DrainStuck) → taken held ws ≡ Some why → EndsInFaultOf b (Err why) → ⊥
  taken_never held [] why is bad = cc
  taken_never held (w ∷ ws) why is bad = elim (cases_Bool (is_taken held w)) as (λ _. ⊥) [
    | inl there ↦
        let both : Some (Taken w.writer (count_there held w.writer) w.cover.count) ≡ Some why = sym (cond-true (is_taken held w) (Some (Taken w.writer (count_there held w.writer) w.cover.count)) (taken held ws) there) ∙ is in
        let same : Taken w.writer (count_there held w.writer) w.cover.count ≡ why = cc in
        no_taken b w.writer (count_there held w.writer) w.cover.count (subst (λ d. EndsInFaultOf b (Err d)) (sym same) bad)
    | inr free ↦ taken_never held ws why (sym (cond-false (is_taken held w) (Some (Taken w.writer (count_there held w.writer) w.cover.count)) (taken held ws) free) ∙ is) bad
  ]
    where
      no_taken : (b : Bool) (writer there here : ℕ) → EndsInFaultOf b (Err (Taken writer there here)) → ⊥
      no_taken true writer there here bad = bad
      no_taken false writer there here bad = bad

  gathers_never : (name : Name) (held : Held) (room : ℕ) → NeverFaults b (gathers name held room)
  gathers_never name held room =
      source_never (contained_program (known_at held room)) (if_gathered name held) (contained_only IsRoomLook (λ n sight. tt) (known_at held room))
      (contained_fine (Heard b) (MayMeet b) (heard_hurt b) (heard_trouble b) (known_at held room)) by_out
    where
      by_taken : (contained : Contained) (o : Option DrainStuck) → taken held contained.writers ≡ o → NeverFaults b (unless_taken o (syncs contained.room (owners_of contained.writers) (makes_marks_room (job_of name held contained) (mounts_of contained.writers))))
      by_taken contained None is = syncs_never b contained.room (owners_of contained.writers) (makes_marks_room (job_of name held contained) (mounts_of contained.writers)) (makes_never b (job_of name held contained) (mounts_of contained.writers))
      by_taken contained (Some why) is = taken_never held contained.writers why is

      told_fine : (b : Bool) (why : Stuck) → MayMeet b why → b ≡ true → FineHere why
      told_fine true why fine is = fine
      told_fine false why fine is = absurd (never_so is)

      by_out : (out : Result Contained Stuck) → Here out → NeverFaults b (if_gathered name held out)
      by_out (Err why) fine = source_fine b why (told_fine b why fine)
      by_out (Ok contained) fine = by_taken contained (taken held contained.writers) refl

  finds_never : (name : Name) (held : Held) → NeverFaults b (finds_source name held)
  finds_never name held = λ reply fits good had. never_on b (gathers name held) (found_room reply) (found_well b name reply fits good had) (λ room. gathers_never name held room)

  pub drain_never : (name : Name) → NeverFaults b (drain_program name)
  drain_never name = never_told b (folder_alone []) sought (reads_target name) by_found
    where
      not_there : (b : Bool) (why : Stuck) → MayMeetThere b why → EndsInFaultOf b (Err (stuck_there why)) → ⊥
      not_there true stuck.Fault fine bad = bad
      not_there true (stuck.Damaged folder file place) fine bad = bad
      not_there true (stuck.Refused why) fine bad = bad
      not_there false (stuck.Damaged folder file place) fine bad = bad
      not_there false stuck.Fault fine bad = fine
      not_there false (stuck.Refused why) fine bad = fine

      by_held : (out : Result Held Stuck) → There out → NeverFaults b (if_held name out)
      by_held (Err why) fine = not_there b why fine
      by_held (Ok held) fine = finds_never name held

      by_found : (found : Option ℕ) → NeverFaults b (reads_target name found)
      by_found None = finds_never name nothing_held
      by_found (Some room) = target_never (held_program room) (if_held name) (held_fine (HeardThere b) (MayMeetThere b) (there_hurt b) (there_trouble b) room) by_held
