-- Which replies each call has, and what a fault says of the store.
use Rattle.std.proofs.Common.{◌≡◌, ◌≤◌, ◌-◌, ◌^◌, ℕ, List, [], ◌∷◌, length, Option, Some, None, Bool, true, false, refl, ap, sym, ◌∙◌, ◌⊎◌, inl, inr, subst, arith, Ok, Err, nat_le, nat_lt, nat_eq, ◌||◌, ◌+◌}
use Rattle.std.proofs.lemmas.Bool.Decides.{nat_tests}
use Rattle.std.specs.Prelude.{if◌then◌else◌, MatchOption}
use Rattle.plfs_types.specs.Counts.{HasRisen}
use Rattle.plfs_types.specs.declared.names.Path.{Path}
use Rattle.plfs_types.specs.declared.entries.Entry.{Entry}
use Rattle.plfs_types.specs.declared.limits.TheConstants.{MAX_SIZE, MAX_STAMP}
use Rattle.store_api.specs.declared.step.Answer.{Answer}
use Rattle.store_api.specs.declared.step.Answer.TheVariants as answer
use Rattle.store_api.specs.declared.store.Trouble.TheVariants as trouble
use Rattle.store_api.specs.Step.{Step}
use Rattle.store_api.specs.Acts.{Stored, Acts}
use Rattle.mount_model.specs.declared.row.Row.{Row}
use Rattle.mount_model.specs.declared.row.Stage.{Stage}
use Rattle.mount_model.specs.declared.row.Holder.{Holder}
use Rattle.mount_model.specs.declared.row.Flattening.{Flattening}
use Rattle.mount_model.specs.declared.row.Making.TheVariants as kind
use Rattle.mount_model.specs.declared.row.FlatStage.{FlatStage}
use Rattle.mount_model.specs.declared.row.FlatStage.TheVariants as flat_stage
use Rattle.mount_model.specs.declared.call.Look.{Look as Sight}
use Rattle.mount_model.specs.declared.call.Look.TheVariants as sight
use Rattle.mount_model.specs.declared.call.Call.{Call}
use Rattle.mount_model.specs.declared.call.Call.TheVariants.{Greet, Find, MakeContainer, Rooms, Look, Enter, Floor, MakeHostdir, MakeIndex, MakeLog, Write, Flush, SyncLog, SyncIndex, PutMeta, Exit, Hold, Mark, Move, Release, StartFlat, PutFlat, SyncFlat, InstallFlat, StartPack, SyncDropping, Inspect, Mend, MendMeta, Bury, MendHold}
use Rattle.mount_model.specs.declared.call.Ask.{Ask}
use Rattle.mount_model.specs.declared.reply.Refusal.{Refusal}
use Rattle.mount_model.specs.declared.reply.Refusal.TheVariants as refusal
use Rattle.mount_model.specs.declared.reply.Reply.{Reply}
use Rattle.mount_model.specs.declared.reply.Reply.TheVariants as reply_of
use Rattle.container_layout.specs.Paths.{hostdir_of}
use Rattle.mount_model.specs.Paths.{Name, truncs, metadata, dropping_path, open_path, index_path, log_path, trunc_path, temporary}
use Rattle.container_layout.specs.Paths.{openhosts}
use Rattle.mount_model.specs.State.{State, Table, drawn, timed}
use Rattle.mount_model.specs.Making.{Told, CallOutcome, otherwise, MakesAct, room_check, or_reason, OnWriter, UnlessRefused}
use Rattle.mount_model.specs.Finding.{find_outcome, make_outcome, RoomsReply}
use Rattle.mount_model.specs.Looking.{look_reply, listing_reply, length_reply, read_reply}
use Rattle.mount_model.specs.Entering.{EntersAs, serial_check, draw_check, enter_outcome, entered}
use Rattle.mount_model.specs.Flooring.{FloorOutcome}
use Rattle.mount_model.specs.Building.{build_outcome}
use Rattle.mount_model.specs.Writing.{write_check, write_outcome}
use Rattle.mount_model.specs.Flushing.{FlushesRow, flush_outcome, sync_log_outcome, sync_index_outcome}
use Rattle.mount_model.specs.Leaving.{meta_file, put_meta_check, put_meta_outcome, exit_check, exit_outcome}
use Rattle.mount_model.specs.Holding.{holding, NotEmptyReply, HoldOutcome, OnHolder, truncate_check, truncate_outcome, TruncatesAt, rename_outcome, RenamesRoom, release_outcome}
use Rattle.mount_model.specs.Flattening.{begun_flat, start_outcome, StartsPackOf, OnFlattening, put_flat_outcome, sync_flat_outcome, install_outcome}
use Rattle.mount_model.specs.Recovering.{done_outcome, SyncsIt, live_reason, alive_check, mend_check, MendsIt, mended_file, mend_meta_outcome, MendsItsMeta, bury_outcome, BuriesIt, held_reason, mend_hold_check, mend_hold_outcome}
use Rattle.mount_model.specs.Stopping.{part_made, begun, MakesPart, IsEndedBy, Stops}
use Rattle.mount_model.specs.Step.{Answers, IsStep}
use Rattle.mount_model.specs.Replies.{IsTrouble, refused, damaged, fault, no_memory, IsAnswerTo, FitsCall, FitsAsk, HasItsCause}
use Rattle.mount_model.specs.Refusals.{IsOneOf, MayRefuse}
use Rattle.mount_model.specs.Shown.{IsListing, MayShow}
use Rattle.mount_model.specs.Mounting.{marks_step, list_step, mark_step, IsMounted}
use Rattle.mount_model.specs.Table.{row_of, is_live, writer_of, holder_of, is_held_room, flattening_of}
use Rattle.mount_model.proofs.Deciding.{match_cases, step_cases}

-- ---- what an act told decides

-- the reply is the call's own or a trouble, and a fault only where the act told one
pub record Tells (call : Call) (told : Told) (reply : Reply) : Type 0 where
  pub fits : IsAnswerTo call reply ⊎ IsTrouble (MayRefuse call) reply
  pub faulted : reply ≡ reply_of.Fault → told ≡ Err trouble.Fault

module _ (call : Call) (nowhere : MayRefuse call refusal.NoRoom) where
  otherwise_tells : (folder file : Name) (told : Told) → Tells call told (otherwise folder file told)
  otherwise_tells folder file (Ok answer.NoRoom) = record { fits = inr (refused refusal.NoRoom nowhere refl); faulted = λ e. absurd (cc) }
  otherwise_tells folder file (Ok answer.NoFolder) = record { fits = inr (damaged folder [] refl); faulted = λ e. absurd (cc) }
  otherwise_tells folder file (Ok told) = record { fits = inr (damaged folder file refl); faulted = λ e. absurd (cc) }
  otherwise_tells folder file (Err trouble.Fault) = record { fits = inr (fault refl); faulted = λ e. refl }
  otherwise_tells folder file (Err trouble.NoMemory) = record { fits = inr (no_memory refl); faulted = λ e. absurd (cc) }

  done_tells : (told : Told) (reply : Reply) → IsAnswerTo call reply → (reply ≡ reply_of.Fault → ⊥) → Tells call told reply
  done_tells told reply is other = record { fits = inl is; faulted = λ e. absurd (other e) }

module _ (call : Call) (nowhere : MayRefuse call refusal.NoRoom) (table : Table) where
  find_tells : ((room : ℕ) → IsAnswerTo call (reply_of.Room room)) → (told : Told) → Tells call told (find_outcome table told).reply
  find_tells is (Ok (answer.Number room)) = done_tells call nowhere _ _ (is room) (λ e. cc)
  find_tells is (Ok answer.Absent) = record { fits = inr (refused refusal.NoRoom nowhere refl); faulted = λ e. absurd (cc) }
  find_tells is told = otherwise_tells call nowhere [] [] told

  make_tells : ((room : ℕ) → IsAnswerTo call (reply_of.Room room)) → (told : Told) → Tells call told (make_outcome table told).reply
  make_tells is (Ok (answer.Number room)) = done_tells call nowhere _ _ (is room) (λ e. cc)
  make_tells is (Ok (answer.Old room)) = done_tells call nowhere _ _ (is room) (λ e. cc)
  make_tells is told = otherwise_tells call nowhere [] [] told

  enter_tells : MayRefuse call refusal.Held → (row : Row) → IsAnswerTo call (reply_of.Entered row.id) → (told : Told) → Tells call told (enter_outcome row table told).reply
  enter_tells held row is (Ok answer.Made) = done_tells call nowhere _ _ is (λ e. cc)
  enter_tells held row is (Ok answer.NoFolder) = record { fits = inr (refused refusal.Held held refl); faulted = λ e. absurd (cc) }
  enter_tells held row is told = otherwise_tells call nowhere openhosts (open_path row.host row.id).file told

  build_tells : (stage : Stage) (folder file : Name) (row : Row) → IsAnswerTo call reply_of.Done → (told : Told) → Tells call told (build_outcome stage folder file row table told).reply
  build_tells stage folder file row is (Ok answer.Made) = done_tells call nowhere _ _ is (λ e. cc)
  build_tells stage folder file row is (Ok (answer.Old room)) = done_tells call nowhere _ _ is (λ e. cc)
  build_tells stage folder file row is told = otherwise_tells call nowhere folder file told

  write_tells : (stamp : ℕ) (row : Row) (at len : ℕ) → IsAnswerTo call (reply_of.Wrote stamp) → (told : Told) → Tells call told (write_outcome stamp row at len table told).reply
  write_tells stamp row at len is (Ok answer.Made) = done_tells call nowhere _ _ is (λ e. cc)
  write_tells stamp row at len is told = otherwise_tells call nowhere (hostdir_of row.host) (log_path row.host row.id).file told

  flush_tells : (row : Row) → ((landed : ℕ) → IsAnswerTo call (reply_of.Flushed landed)) → (told : Told) → Tells call told (flush_outcome row table told).reply
  flush_tells row is (Ok answer.Made) = done_tells call nowhere _ _ (is _) (λ e. cc)
  flush_tells row is told = otherwise_tells call nowhere (hostdir_of row.host) (index_path row.host row.id).file told

  sync_log_tells : (row : Row) → IsAnswerTo call reply_of.Done → (told : Told) → Tells call told (sync_log_outcome row table told).reply
  sync_log_tells row is (Ok answer.Made) = done_tells call nowhere _ _ is (λ e. cc)
  sync_log_tells row is told = otherwise_tells call nowhere (hostdir_of row.host) (log_path row.host row.id).file told

  sync_index_tells : (row : Row) → IsAnswerTo call (reply_of.Synced row.landed) → (told : Told) → Tells call told (sync_index_outcome row table told).reply
  sync_index_tells row is (Ok answer.Made) = done_tells call nowhere _ _ is (λ e. cc)
  sync_index_tells row is told = otherwise_tells call nowhere (hostdir_of row.host) (index_path row.host row.id).file told

  put_meta_tells : (row : Row) → IsAnswerTo call reply_of.Done → (told : Told) → Tells call told (put_meta_outcome row table told).reply
  put_meta_tells row is (Ok answer.Made) = done_tells call nowhere _ _ is (λ e. cc)
  put_meta_tells row is (Ok (answer.Old room)) = done_tells call nowhere _ _ is (λ e. cc)
  put_meta_tells row is (Err trouble.NoMemory) = record { fits = inr (no_memory refl); faulted = λ e. absurd (cc) }
  put_meta_tells row is told = otherwise_tells call nowhere metadata (meta_file row) told

  exit_tells : (row : Row) → IsAnswerTo call reply_of.Done → (told : Told) → Tells call told (exit_outcome row table told).reply
  exit_tells row is (Ok answer.Made) = done_tells call nowhere _ _ is (λ e. cc)
  exit_tells row is (Err trouble.Fault) = record { fits = inr (fault refl); faulted = λ e. refl }
  exit_tells row is told = otherwise_tells call nowhere openhosts (open_path row.host row.id).file told

  truncate_tells : (stamp size : ℕ) → IsAnswerTo call (reply_of.Marked stamp) → (told : Told) → Tells call told (truncate_outcome stamp size table told).reply
  truncate_tells stamp size is (Ok answer.Made) = done_tells call nowhere _ _ is (λ e. cc)
  truncate_tells stamp size is told = otherwise_tells call nowhere truncs (trunc_path stamp size).file told

  rename_tells : MayRefuse call refusal.Exists → IsAnswerTo call reply_of.Done → (told : Told) → Tells call told (rename_outcome table told).reply
  rename_tells taken is (Ok answer.Made) = done_tells call nowhere _ _ is (λ e. cc)
  rename_tells taken is (Ok answer.TargetThere) = record { fits = inr (refused refusal.Exists taken refl); faulted = λ e. absurd (cc) }
  rename_tells taken is told = otherwise_tells call nowhere [] [] told

  release_tells : (h : Holder) → IsAnswerTo call reply_of.Done → (told : Told) → Tells call told (release_outcome h table told).reply
  release_tells h is (Ok answer.Made) = done_tells call nowhere _ _ is (λ e. cc)
  release_tells h is (Ok (answer.Old room)) = done_tells call nowhere _ _ is (λ e. cc)
  release_tells h is (Err trouble.Fault) = record { fits = inr (fault refl); faulted = λ e. refl }
  release_tells h is told = otherwise_tells call nowhere openhosts [] told

  start_tells : (f : Flattening) → IsAnswerTo call (reply_of.Started f.id) → (told : Told) → Tells call told (start_outcome f table told).reply
  start_tells f is (Ok answer.Made) = done_tells call nowhere _ _ is (λ e. cc)
  start_tells f is told = otherwise_tells call nowhere (temporary f).folder (temporary f).file told

  put_flat_tells : (f : Flattening) → IsAnswerTo call reply_of.Done → (told : Told) → Tells call told (put_flat_outcome f table told).reply
  put_flat_tells f is (Ok answer.Made) = done_tells call nowhere _ _ is (λ e. cc)
  put_flat_tells f is told = otherwise_tells call nowhere (temporary f).folder (temporary f).file told

  sync_flat_tells : (f : Flattening) → IsAnswerTo call reply_of.Done → (told : Told) → Tells call told (sync_flat_outcome f table told).reply
  sync_flat_tells f is (Ok answer.Made) = done_tells call nowhere _ _ is (λ e. cc)
  sync_flat_tells f is told = otherwise_tells call nowhere (temporary f).folder (temporary f).file told

  install_tells : (f : Flattening) → IsAnswerTo call reply_of.Done → (told : Told) → Tells call told (install_outcome f table told).reply
  install_tells f is (Ok answer.Made) = done_tells call nowhere _ _ is (λ e. cc)
  install_tells f is (Err trouble.Fault) = record { fits = inr (fault refl); faulted = λ e. refl }
  install_tells f is told = otherwise_tells call nowhere (temporary f).folder (temporary f).file told

  done_outcome_tells : (folder file : Name) → IsAnswerTo call reply_of.Done → (told : Told) → Tells call told (done_outcome folder file table told).reply
  done_outcome_tells folder file is (Ok answer.Made) = done_tells call nowhere _ _ is (λ e. cc)
  done_outcome_tells folder file is told = otherwise_tells call nowhere folder file told

  mend_meta_tells : (file : Name) → IsAnswerTo call reply_of.Done → (told : Told) → Tells call told (mend_meta_outcome file table told).reply
  mend_meta_tells file is (Ok answer.Made) = done_tells call nowhere _ _ is (λ e. cc)
  mend_meta_tells file is (Ok (answer.Old room)) = done_tells call nowhere _ _ is (λ e. cc)
  mend_meta_tells file is told = otherwise_tells call nowhere metadata file told

  bury_tells : (file : Name) → IsAnswerTo call reply_of.Done → (told : Told) → Tells call told (bury_outcome file table told).reply
  bury_tells file is (Ok answer.Made) = done_tells call nowhere _ _ is (λ e. cc)
  bury_tells file is (Ok answer.Absent) = done_tells call nowhere _ _ is (λ e. cc)
  bury_tells file is (Ok answer.NoFolder) = done_tells call nowhere _ _ is (λ e. cc)
  bury_tells file is told = otherwise_tells call nowhere openhosts file told

  mend_hold_tells : ((made : Bool) → IsAnswerTo call (reply_of.Mended made)) → (told : Told) → Tells call told (mend_hold_outcome table told).reply
  mend_hold_tells is (Ok answer.Made) = done_tells call nowhere _ _ (is true) (λ e. cc)
  mend_hold_tells is (Ok (answer.Old room)) = done_tells call nowhere _ _ (is false) (λ e. cc)
  mend_hold_tells is told = otherwise_tells call nowhere openhosts [] told

at_most : (a b : ℕ) → nat_le a b ≡ true → a ≤ b
at_most a b t = grind (arith, nat_tests)

module _ (room : ℕ) (look : Sight) where
  -- what the look may show is its answer
  shown : (told : Answer) → MayShow look told → IsAnswerTo (Look room look) (reply_of.Looked told)
  shown told may = (told, may, refl)

  shows : (told : Told) (seen : Answer) → MayShow look seen → Tells (Look room look) told (reply_of.Looked seen)
  shows told seen may = done_tells (Look room look) (inl refl) told (reply_of.Looked seen) (shown seen may) (λ e. cc)

  other : (folder file : Name) (told : Told) → Tells (Look room look) told (otherwise folder file told)
  other folder file told = otherwise_tells (Look room look) (inl refl) folder file told

  listing_tells : ((told : Answer) → IsListing told → MayShow look told) → (folder : Name) (told : Told) → Tells (Look room look) told (listing_reply folder told)
  listing_tells may folder (Ok (answer.Names names)) = shows _ _ (may _ (inl (names, refl)))
  listing_tells may folder (Ok answer.NoFolder) = shows _ _ (may _ (inr refl))
  listing_tells may folder told = other folder [] told

length_tells : (room : ℕ) (path : Path) (told : Told) → Tells (Look room (sight.Length path)) told (length_reply path told)
length_tells room path (Ok (answer.Number value)) = shows room (sight.Length path) _ _ (inl (value, refl))
length_tells room path (Ok answer.NoFolder) = shows room (sight.Length path) _ _ (inr (inr refl))
length_tells room path (Ok answer.Absent) = shows room (sight.Length path) _ _ (inr (inl refl))
length_tells room path told = other room (sight.Length path) path.folder path.file told

bytes_tell : (room : ℕ) (path : Path) (at len : ℕ) (bytes : List ℕ) (told : Told) (b : Bool) → nat_le (length bytes) len ≡ b → Tells (Look room (sight.Read path at len)) told (if b then reply_of.Looked (answer.Bytes bytes) else reply_of.Damaged path.folder path.file)
bytes_tell room path at len bytes told true t = shows room (sight.Read path at len) told _ (inl (bytes, at_most (length bytes) len t, refl))
bytes_tell room path at len bytes told false t = record { fits = inr (damaged path.folder path.file refl); faulted = λ e. absurd (cc) }

read_tells : (room : ℕ) (path : Path) (at len : ℕ) (told : Told) → Tells (Look room (sight.Read path at len)) told (read_reply path len told)
read_tells room path at len (Ok (answer.Bytes bytes)) = bytes_tell room path at len bytes _ (nat_le (length bytes) len) refl
read_tells room path at len (Ok answer.NoFolder) = shows room (sight.Read path at len) _ _ (inr (inr refl))
read_tells room path at len (Ok answer.Absent) = shows room (sight.Read path at len) _ _ (inr (inl refl))
read_tells room path at len told = other room (sight.Read path at len) path.folder path.file told

look_tells : (room : ℕ) (look : Sight) (told : Told) → Tells (Look room look) told (look_reply look told)
look_tells room sight.Top told = listing_tells room sight.Top (λ seen is. is) [] told
look_tells room (sight.List folder) told = listing_tells room (sight.List folder) (λ seen is. is) folder told
look_tells room (sight.Length path) told = length_tells room path told
look_tells room (sight.Read path at len) told = read_tells room path at len told

-- ---- what an act does to the count of faults

acts_fall : (step : Step) (old new : Stored) (told : Told) → Acts step old new told → old.faults ≤ new.faults
acts_fall step old new (Ok told) a = let same : new.faults ≡ old.faults = a.faults in omega (arith, same)
acts_fall step old new (Err trouble.Fault) a = a.faults
acts_fall step old new (Err trouble.NoMemory) a = let same : new.faults ≡ old.faults = ap (λ (s : Stored). s.faults) a in omega (arith, same)

acts_rise : (step : Step) (old new : Stored) (told : Told) → Acts step old new told → told ≡ Err trouble.Fault → HasRisen old.faults new.faults
acts_rise step old new (Ok told) a e = absurd (cc)
acts_rise step old new (Err trouble.Fault) a e = a.cause
acts_rise step old new (Err trouble.NoMemory) a e = absurd (cc)

-- ---- each step

-- the reply fits, and a fault has its cause
pub record IsAnswered (call : Call) (old new : State) (reply : Reply) : Type 0 where
  pub fits : IsAnswerTo call reply ⊎ IsTrouble (MayRefuse call) reply
  pub cause : HasItsCause old new reply

module _ (call : Call) (old : State) (reply : Reply) (new : State) where
  quiet : old.store.faults ≡ new.store.faults → (reply ≡ reply_of.Fault → ⊥) → HasItsCause old new reply
  quiet same other = record { never_falls = omega (arith, same); cause = λ e. absurd (other e) }

  unchanged : new ≡ old → IsAnswerTo call reply → (reply ≡ reply_of.Fault → ⊥) → IsAnswered call old new reply
  unchanged e is other = record { fits = inl is; cause = quiet (ap (λ (s : State). s.store.faults) (sym e)) other }

  no_fault : (why : Refusal) → reply ≡ reply_of.Refused why → reply ≡ reply_of.Fault → ⊥
  no_fault why is e = cc

  refusing : (why : Refusal) → MayRefuse call why → reply ≡ reply_of.Refused why → new ≡ old → IsAnswered call old new reply
  refusing why may is e = record { fits = inr (refused why may is); cause = quiet (ap (λ (s : State). s.store.faults) (sym e)) (no_fault why is) }

  by_act : (step : Step) (told : Told) → Acts step old.store new.store told → Tells call told reply → IsAnswered call old new reply
  by_act step told made tells = record {
    fits = tells.fits;
    cause = record { never_falls = acts_fall step old.store new.store told made; cause = λ e. acts_rise step old.store new.store told made (tells.faulted e) };
  }

  -- the state before the act may have drawn a serial or asked the clock
  making : (step : Step) (outcome : Told → CallOutcome) (base : State) → base.store ≡ old.store → ((told : Told) → Tells call told (outcome told).reply) → MakesAct step outcome base reply new → IsAnswered call old new reply
  making step outcome base same tells m = by_act step m.told (subst (λ s. Acts step s new.store m.told) same m.made) (subst (Tells call m.told) (sym m.answered) (tells m.told))

  on_writer : MayRefuse call refusal.NotOpen → (caller : ℕ) (stages : Stage → Bool) (id : ℕ) (does : Row → Type 0) → OnWriter caller stages id old reply new does → ((row : Row) → does row → IsAnswered call old new reply) → IsAnswered call old new reply
  on_writer may caller stages id does on made_so = elim (match_cases (writer_of caller stages id old.table.writers) _ _ on) as (λ _. IsAnswered call old new reply) [
    | inl (none, r) ↦ refusing refusal.NotOpen may r.0 r.1
    | inr (row, is, made) ↦ made_so row made
  ]

  on_holder : MayRefuse call refusal.NotHolder → (caller number : ℕ) (does : Holder → Type 0) → OnHolder caller number old reply new does → ((h : Holder) → does h → IsAnswered call old new reply) → IsAnswered call old new reply
  on_holder may caller number does on made_so = elim (match_cases (holder_of caller number old.table.holders) _ _ on) as (λ _. IsAnswered call old new reply) [
    | inl (none, r) ↦ refusing refusal.NotHolder may r.0 r.1
    | inr (h, is, made) ↦ made_so h made
  ]

  on_flattening : MayRefuse call refusal.NotOpen → (caller : ℕ) (stage : FlatStage) (id : ℕ) (does : Flattening → Type 0) → OnFlattening caller stage id old reply new does → ((f : Flattening) → does f → IsAnswered call old new reply) → IsAnswered call old new reply
  on_flattening may caller stage id does on made_so = elim (match_cases (flattening_of caller stage id old.table.flattenings) _ _ on) as (λ _. IsAnswered call old new reply) [
    | inl (none, r) ↦ refusing refusal.NotOpen may r.0 r.1
    | inr (f, is, made) ↦ made_so f made
  ]

  unless_refused : (check : Option Refusal) → ((why : Refusal) → check ≡ Some why → MayRefuse call why) → (does : Type 0) → UnlessRefused check old reply new does → (does → IsAnswered call old new reply) → IsAnswered call old new reply
  unless_refused check may does on made_so = elim (match_cases check _ _ on) as (λ _. IsAnswered call old new reply) [
    | inl (none, made) ↦ made_so made
    | inr (why, some, r) ↦ refusing why (may why some) r.0 r.1
  ]

rooms_tell : (told : Told) (reply : Reply) → RoomsReply told reply → Tells Rooms told reply
rooms_tell (Ok (answer.Names names)) reply r = done_tells Rooms (inl refl) _ reply (r.0, r.1) (λ e. let f : reply ≡ reply_of.Rooms r.0 = r.1 in cc)
rooms_tell told reply r = subst (Tells Rooms _) (sym r) (otherwise_tells Rooms (inl refl) [] [] _)

floor_tells : (writer : ℕ) (row : Row) (table : Table) (told : Told) (reply : Reply) (after : Table) → FloorOutcome row table told reply after → Tells (Floor writer) told reply
floor_tells writer row table (Ok (answer.Names names)) reply after o = elim o as (λ _. Tells (Floor writer) (Ok (answer.Names names)) reply) [
  | inl (floor, is, answered, same) ↦ done_tells (Floor writer) (inl refl) _ reply (floor, answered) (λ e. cc)
  | inr (name, foreign, answered, same) ↦ record { fits = inr (damaged truncs name answered); faulted = λ e. absurd (cc) }
]
floor_tells writer row table told reply after o = subst (Tells (Floor writer) _) (sym o.0) (otherwise_tells (Floor writer) (inl refl) truncs [] _)

hold_tells : (room : ℕ) (h : Holder) (table : Table) (told : Told) (reply : Reply) (after : Table) → HoldOutcome h table told reply after → Tells (Hold room) told reply
hold_tells room h table (Ok answer.Made) reply after o = done_tells (Hold room) (inl (inl refl)) _ reply (h.number, o.0) (λ e. let f : reply ≡ reply_of.Holding h.number = o.0 in cc)
hold_tells room h table (Ok answer.NoFolder) reply after o = record { fits = inr (refused refusal.Held (inl (inr (inr (inl refl)))) o.0); faulted = λ e. let f : reply ≡ reply_of.Refused refusal.Held = o.0 in absurd (cc) }
hold_tells room h table (Ok (answer.NotEmpty least)) reply after o = not_empty o.0
  where
    not_empty : NotEmptyReply least reply → Tells (Hold room) (Ok (answer.NotEmpty least)) reply
    not_empty (inl (host, writer, is, answered)) = record { fits = inr (refused (refusal.Busy host writer) (inr (host, writer, refl)) answered); faulted = λ e. absurd (cc) }
    not_empty (inr (none, answered)) = record { fits = inr (damaged openhosts least answered); faulted = λ e. absurd (cc) }
hold_tells room h table told reply after o = subst (Tells (Hold room) _) (sym o.0) (otherwise_tells (Hold room) (inl (inl refl)) openhosts [] _)

enter_answered : (old : State) (reply : Reply) (new : State) (caller room host most : ℕ) → EntersAs caller room host most old reply new → IsAnswered (Enter room host most) old new reply
enter_answered old reply new caller room host most e = making (Enter room host most) old reply new _ _ (drawn old) refl (enter_tells (Enter room host most) (inl refl) old.table (inr (inr (inl refl))) (entered old caller room host most) (_, refl)) e.makes

-- ---- why a check refuses

reason : (b : Bool) (why got : Refusal) (rest : Option Refusal) → (if b then Some why else rest) ≡ Some got → (got ≡ why) ⊎ (rest ≡ Some got)
reason true why got rest e = inl (cc)
reason false why got rest e = inr e

only_reason : (b : Bool) (why got : Refusal) → (if b then Some why else None) ≡ Some got → got ≡ why
only_reason true why got e = cc
only_reason false why got e = absurd (cc)

first_or : (first other : Option Refusal) (got : Refusal) → or_reason first other ≡ Some got → (first ≡ Some got) ⊎ (other ≡ Some got)
first_or None other got e = inr e
first_or (Some why) other got e = inl e

-- what a check of the room alone, or then of the serials, has against a call
no_room_reason : (old : State) (room : ℕ) (why : Refusal) → room_check old room ≡ Some why → why ≡ refusal.NoRoom
no_room_reason old room why e = only_reason (nat_eq room old.marks) refusal.NoRoom why e

draw_reason : (old : State) (room : ℕ) (why : Refusal) → draw_check old room ≡ Some why → (why ≡ refusal.NoRoom) ⊎ (why ≡ refusal.IdsSpent)
draw_reason old room why e = elim (first_or (room_check old room) (serial_check old) why e) as (λ _. (why ≡ refusal.NoRoom) ⊎ (why ≡ refusal.IdsSpent)) [
  | inl nowhere ↦ inl (no_room_reason old room why nowhere)
  | inr spent ↦ inr (only_reason (nat_le (2 ^ 32 - 1) old.serial) refusal.IdsSpent why spent)
]

room_reason : (old : State) (room : ℕ) (look : Sight) (why : Refusal) → room_check old room ≡ Some why → MayRefuse (Look room look) why
room_reason old room look why e = inl (no_room_reason old room why e)

enter_reason : (old : State) (room host most : ℕ) (why : Refusal) → draw_check old room ≡ Some why → MayRefuse (Enter room host most) why
enter_reason old room host most why e = elim (draw_reason old room why e) as (λ _. MayRefuse (Enter room host most) why) [
  | inl nowhere ↦ inl nowhere
  | inr spent ↦ inr (inl spent)
]

hold_reason : (old : State) (room : ℕ) (why : Refusal) → draw_check old room ≡ Some why → MayRefuse (Hold room) why
hold_reason old room why e = elim (draw_reason old room why e) as (λ _. MayRefuse (Hold room) why) [
  | inl nowhere ↦ inl (inl nowhere)
  | inr spent ↦ inl (inr (inl spent))
]

start_reason : (old : State) (room : ℕ) (why : Refusal) → draw_check old room ≡ Some why → MayRefuse (StartFlat room) why
start_reason old room why e = elim (draw_reason old room why e) as (λ _. MayRefuse (StartFlat room) why) [
  | inl nowhere ↦ inl nowhere
  | inr spent ↦ inr (inl spent)
]

truncate_reason : (number size top : ℕ) (why : Refusal) → truncate_check size top ≡ Some why → MayRefuse (Mark number size top) why
truncate_reason number size top why e = elim (reason (nat_lt MAX_SIZE size) refusal.TooFar why (if nat_le MAX_STAMP top then Some refusal.StampsSpent else None) e) as (λ _. MayRefuse (Mark number size top) why) [
  | inl far ↦ inr (inr (inl far))
  | inr near ↦ inr (inr (inr (inl (only_reason (nat_le MAX_STAMP top) refusal.StampsSpent why near))))
]

live_why : (found : Option Row) (why : Refusal) → live_reason found ≡ Some why → why ≡ refusal.Alive
live_why None why e = absurd (cc)
live_why (Some row) why e = only_reason (is_live row.stage) refusal.Alive why e

-- why a writer's droppings are not mended
mend_reason : (old : State) (room writer : ℕ) (why : Refusal) → mend_check old room writer ≡ Some why → IsOneOf why (refusal.NoRoom ∷ refusal.Alive ∷ [])
mend_reason old room writer why e = elim (first_or (room_check old room) (alive_check old writer) why e) as (λ _. IsOneOf why (refusal.NoRoom ∷ refusal.Alive ∷ [])) [
  | inl nowhere ↦ inl (no_room_reason old room why nowhere)
  | inr live ↦ inr (inl (live_why (row_of writer old.table.writers) why live))
]

mend_hold_reason : (old : State) (room : ℕ) (why : Refusal) → mend_hold_check old room ≡ Some why → MayRefuse (MendHold room) why
mend_hold_reason old room why e = elim (first_or (room_check old room) (held_reason room old.table.holders) why e) as (λ _. MayRefuse (MendHold room) why) [
  | inl nowhere ↦ inl (no_room_reason old room why nowhere)
  | inr held ↦ inr (inl (only_reason (is_held_room room old.table.holders) refusal.Held why held))
]

write_reason : (writer at : ℕ) (block : List ℕ) (row : Row) (why : Refusal) → write_check row at (length block) ≡ Some why → MayRefuse (Write writer at block) why
write_reason writer at block row why e = elim (reason (nat_lt (2 ^ 40) (at + length block) || nat_lt (2 ^ 56) (row.stored + length block)) refusal.TooFar why (if nat_le (2 ^ 63 - 1) row.last || nat_le (2 ^ 63 - 1) row.floor then Some refusal.StampsSpent else if nat_le row.pending.capacity (length row.pending.entries) then Some refusal.Full else None) e) as (λ _. MayRefuse (Write writer at block) why) [
  | inl far ↦ inr (inr (inl far))
  | inr near ↦ elim (reason (nat_le (2 ^ 63 - 1) row.last || nat_le (2 ^ 63 - 1) row.floor) refusal.StampsSpent why (if nat_le row.pending.capacity (length row.pending.entries) then Some refusal.Full else None) near) as (λ _. MayRefuse (Write writer at block) why) [
    | inl spent ↦ inr (inr (inr (inl spent)))
    | inr left ↦ inr (inr (inr (inr (inl (only_reason _ refusal.Full why left)))))
  ]
]

flush_answered : (old : State) (reply : Reply) (new : State) (writer : ℕ) (row : Row) (pending : List Entry) → FlushesRow row pending old reply new → IsAnswered (Flush writer) old new reply
flush_answered old reply new writer row [] f = unchanged (Flush writer) old reply new f.1 (row.landed, f.0) (λ e. let g : reply ≡ reply_of.Flushed row.landed = f.0 in cc)
flush_answered old reply new writer row (first ∷ rest) f = making (Flush writer) old reply new _ _ old refl (flush_tells (Flush writer) (inl refl) old.table row (λ landed. (landed, refl))) f

answered : (old : State) (reply : Reply) (new : State) (caller : ℕ) (call : Call) → Answers old caller call reply new → IsAnswered call old new reply
answered old reply new caller Greet a = unchanged Greet old reply new a.1 a.0 (λ e. let g : reply ≡ reply_of.Greeted = a.0 in cc)
answered old reply new caller (Find name) a = making (Find name) old reply new _ _ old refl (find_tells (Find name) (inl refl) old.table (λ room. (room, refl))) a.makes
answered old reply new caller (MakeContainer name) a = making (MakeContainer name) old reply new _ _ old refl (make_tells (MakeContainer name) (inl refl) old.table (λ room. (room, refl))) a.makes
answered old reply new caller Rooms a = by_act Rooms old reply new _ a.told a.made (rooms_tell a.told reply a.answered)
answered old reply new caller (Look room look) a = unless_refused (Look room look) old reply new (room_check old room) (room_reason old room look) _ a (λ m.
    making (Look room look) old reply new _ _ old refl (look_tells room look) m)
answered old reply new caller (Enter room host most) a = unless_refused (Enter room host most) old reply new (draw_check old room) (enter_reason old room host most) _ a (enter_answered old reply new caller room host most)
answered old reply new caller (Floor writer) a = on_writer (Floor writer) old reply new (inr (inl refl)) caller _ writer _ a (λ row f.
    by_act (Floor writer) old reply new _ f.told f.made (floor_tells writer row old.table f.told reply new.table f.outcome))
answered old reply new caller (MakeHostdir writer) a = on_writer (MakeHostdir writer) old reply new (inr (inl refl)) caller _ writer _ a (λ row m.
    making (MakeHostdir writer) old reply new _ _ old refl (build_tells (MakeHostdir writer) (inl refl) old.table _ _ _ row refl) m)
answered old reply new caller (MakeIndex writer) a = on_writer (MakeIndex writer) old reply new (inr (inl refl)) caller _ writer _ a (λ row m.
    making (MakeIndex writer) old reply new _ _ old refl (build_tells (MakeIndex writer) (inl refl) old.table _ _ _ row refl) m)
answered old reply new caller (MakeLog writer) a = on_writer (MakeLog writer) old reply new (inr (inl refl)) caller _ writer _ a (λ row m.
    making (MakeLog writer) old reply new _ _ old refl (build_tells (MakeLog writer) (inl refl) old.table _ _ _ row refl) m)
answered old reply new caller (Write writer at block) a = on_writer (Write writer at block) old reply new (inr (inl refl)) caller _ writer _ a (λ row u.
    unless_refused (Write writer at block) old reply new (write_check row at (length block)) (write_reason writer at block row) _ u (λ w.
    making (Write writer at block) old reply new _ _ (timed w.times old) refl (write_tells (Write writer at block) (inl refl) old.table _ row at (length block) (_, refl)) w.makes))
answered old reply new caller (Flush writer) a = on_writer (Flush writer) old reply new (inr (inl refl)) caller _ writer _ a (λ row f. flush_answered old reply new writer row row.pending.entries f)
answered old reply new caller (SyncLog writer) a = on_writer (SyncLog writer) old reply new (inr (inl refl)) caller _ writer _ a (λ row m.
    making (SyncLog writer) old reply new _ _ old refl (sync_log_tells (SyncLog writer) (inl refl) old.table row refl) m)
answered old reply new caller (SyncIndex writer) a = on_writer (SyncIndex writer) old reply new (inr (inl refl)) caller _ writer _ a (λ row m.
    making (SyncIndex writer) old reply new _ _ old refl (sync_index_tells (SyncIndex writer) (inl refl) old.table row (row.landed, refl)) m)
answered old reply new caller (PutMeta writer) a = on_writer (PutMeta writer) old reply new (inr (inl refl)) caller _ writer _ a (λ row u.
    unless_refused (PutMeta writer) old reply new (put_meta_check row) (λ why e. inr (inr (inl (only_reason _ refusal.NotFlushed why e)))) _ u (λ m.
    making (PutMeta writer) old reply new _ _ old refl (put_meta_tells (PutMeta writer) (inl refl) old.table row refl) m))
answered old reply new caller (Exit writer) a = on_writer (Exit writer) old reply new (inr (inl refl)) caller _ writer _ a (λ row u.
    unless_refused (Exit writer) old reply new (exit_check row) (λ why e. inr (inr (inl (only_reason _ refusal.NoMeta why e)))) _ u (λ m.
    making (Exit writer) old reply new _ _ old refl (exit_tells (Exit writer) (inl refl) old.table row refl) m))
answered old reply new caller (Hold room) a = unless_refused (Hold room) old reply new (draw_check old room) (hold_reason old room) _ a (λ h.
    by_act (Hold room) old reply new _ h.told h.made (hold_tells room (holding old caller room) old.table h.told reply new.table h.outcome))
answered old reply new caller (Mark number size top) a = on_holder (Mark number size top) old reply new (inr (inl refl)) caller number _ a (λ h u.
    unless_refused (Mark number size top) old reply new (truncate_check size top) (truncate_reason number size top) _ u (λ (t : TruncatesAt h size top old reply new).
    making (Mark number size top) old reply new _ _ (timed t.times old) refl (truncate_tells (Mark number size top) (inl refl) old.table _ size (_, refl)) t.makes))
answered old reply new caller (Move number to) a = on_holder (Move number to) old reply new (inr (inl refl)) caller number _ a (λ h (r : RenamesRoom h to old reply new).
    making (Move number to) old reply new _ _ old refl (rename_tells (Move number to) (inl refl) old.table (inr (inr (inl refl))) refl) r.makes)
answered old reply new caller (Release number) a = on_holder (Release number) old reply new (inr (inl refl)) caller number _ a (λ h m.
    making (Release number) old reply new _ _ old refl (release_tells (Release number) (inl refl) old.table h refl) m)
answered old reply new caller (StartFlat room) a = unless_refused (StartFlat room) old reply new (draw_check old room) (start_reason old room) _ a (λ m.
    making (StartFlat room) old reply new _ _ (drawn old) refl (start_tells (StartFlat room) (inl refl) old.table (begun_flat old caller room kind.Flat) (_, refl)) m)
answered old reply new caller (PutFlat flat bytes) a = on_flattening (PutFlat flat bytes) old reply new (inr (inl refl)) caller flat_stage.Begun flat _ a (λ f m.
    making (PutFlat flat bytes) old reply new _ _ old refl (put_flat_tells (PutFlat flat bytes) (inl refl) old.table f refl) m)
answered old reply new caller (SyncFlat flat) a = on_flattening (SyncFlat flat) old reply new (inr (inl refl)) caller flat_stage.Put flat _ a (λ f m.
    making (SyncFlat flat) old reply new _ _ old refl (sync_flat_tells (SyncFlat flat) (inl refl) old.table f refl) m)
answered old reply new caller (InstallFlat flat) a = on_flattening (InstallFlat flat) old reply new (inr (inl refl)) caller flat_stage.Synced flat _ a (λ f m.
    making (InstallFlat flat) old reply new _ _ old refl (install_tells (InstallFlat flat) (inl refl) old.table f refl) m)
answered old reply new caller (StartPack room host writer) a = unless_refused (StartPack room host writer) old reply new (draw_check old room) (start_reason old room) _ a (λ (x : StartsPackOf caller room host writer old reply new).
    making (StartPack room host writer) old reply new _ _ (drawn old) refl (start_tells (StartPack room host writer) (inl refl) old.table (begun_flat old caller room (kind.Pack host writer)) (_, refl)) x.makes)
answered old reply new caller (SyncDropping room host writer is_log) a = unless_refused (SyncDropping room host writer is_log) old reply new (room_check old room) (λ why e. inl (no_room_reason old room why e)) _ a (λ (m : SyncsIt room host writer is_log old reply new).
    making (SyncDropping room host writer is_log) old reply new _ _ old refl (done_outcome_tells (SyncDropping room host writer is_log) (inl refl) old.table (dropping_path is_log host writer).folder (dropping_path is_log host writer).file refl) m.makes)
answered old reply new caller (Inspect writer) a = unless_refused (Inspect writer) old reply new (alive_check old writer) (λ why e. inl (live_why (row_of writer old.table.writers) why e)) ((reply ≡ reply_of.Done) × (new ≡ old)) a (λ m.
    unchanged (Inspect writer) old reply new m.1 m.0 (λ e. let g : reply ≡ reply_of.Done = m.0 in cc))
answered old reply new caller (Mend room host writer count) a = unless_refused (Mend room host writer count) old reply new (mend_check old room writer) (mend_reason old room writer) _ a (λ (m : MendsIt room host writer count old reply new).
    making (Mend room host writer count) old reply new _ _ old refl (done_outcome_tells (Mend room host writer count) (inl refl) old.table (index_path host writer).folder (index_path host writer).file refl) m.makes)
answered old reply new caller (MendMeta room host cover last) a = unless_refused (MendMeta room host cover last) old reply new (mend_check old room cover.writer) (mend_reason old room cover.writer) _ a (λ (m : MendsItsMeta room host cover last old reply new).
    making (MendMeta room host cover last) old reply new _ _ old refl (mend_meta_tells (MendMeta room host cover last) (inl refl) old.table (mended_file host cover last) refl) m.makes)
answered old reply new caller (Bury room host writer) a = unless_refused (Bury room host writer) old reply new (mend_check old room writer) (mend_reason old room writer) _ a (λ (m : BuriesIt room host writer old reply new).
    making (Bury room host writer) old reply new _ _ old refl (bury_tells (Bury room host writer) (inl refl) old.table (open_path host writer).file refl) m.makes)
answered old reply new caller (MendHold room) a = unless_refused (MendHold room) old reply new (mend_hold_check old room) (mend_hold_reason old room) _ a (λ m.
    making (MendHold room) old reply new _ _ old refl (mend_hold_tells (MendHold room) (inl refl) old.table (λ made. (made, refl))) m)

-- ---- a call that is broken off

part_falls : (part : Option Step) (old new : Stored) (told : Told) → MakesPart part old new told → old.faults ≤ new.faults
part_falls None old new told m = omega (arith, ap (λ (s : Stored). s.faults) m.1)
part_falls (Some step) old new told m = acts_fall step old new told m

-- what is answered then, and what the store counts
record EndsSo (old new : State) (store : Stored) (reply : Reply) : Type 0 where
  pub answered : (reply ≡ reply_of.Stopped) ⊎ (reply ≡ reply_of.NoMemory)
  pub store_is : new.store ≡ store

ends_so : (told : Told) (reply : Reply) (old from : State) (store : Stored) (times : Option (List ℕ)) (caller : ℕ) (new : State) → IsEndedBy told reply (record from { store = store; times = times }) caller new → EndsSo old new store reply
ends_so (Err trouble.NoMemory) reply old from store times caller new e = record { answered = inr e.0; store_is = ap (λ (s : State). s.store) e.1 }
ends_so (Err trouble.Fault) reply old from store times caller new e = record { answered = inl e.0; store_is = ap (λ (s : State). s.store) e.1 }
ends_so (Ok answer) reply old from store times caller new e = record { answered = inl e.0; store_is = ap (λ (s : State). s.store) e.1 }

not_fault : (reply : Reply) → (reply ≡ reply_of.Stopped) ⊎ (reply ≡ reply_of.NoMemory) → reply ≡ reply_of.Fault → ⊥
not_fault reply (inl stopped) f = let both : reply_of.Stopped ≡ reply_of.Fault = sym stopped ∙ f in cc
not_fault reply (inr memory) f = let both : reply_of.NoMemory ≡ reply_of.Fault = sym memory ∙ f in cc

stopped_causes : (old new : State) (caller k : ℕ) (call : Call) (reply : Reply) → Stops caller k call old reply new → HasItsCause old new reply
stopped_causes old new caller k call reply x =
    let e = ends_so x.told reply old (begun old call) x.store x.times caller new x.after in
    record {
      never_falls = omega (arith, part_falls (part_made k x.time old caller call) old.store x.store x.told x.made, ap (λ (s : Stored). s.faults) e.store_is);
      cause = λ f. absurd (not_fault reply e.answered f);
    }

-- A stop is answered so, or by want of memory.
pub stop_replies : (old : State) (caller k : ℕ) (call : Call) (reply : Reply) (new : State) → Stops caller k call old reply new → (reply ≡ reply_of.Stopped) ⊎ (reply ≡ reply_of.NoMemory)
stop_replies old caller k call reply new x = (ends_so x.told reply old (begun old call) x.store x.times caller new x.after).answered

fits_call : (old : State) (reply : Reply) (new : State) (caller : ℕ) (call : Call) → Answers old caller call reply new → FitsCall call reply
fits_call old reply new caller Greet a = a.0
fits_call old reply new caller call a = (answered old reply new caller call a).fits

-- Each reply fits its call, and whether that was broken off.
pub step_fits : (old new : State) (caller : ℕ) (ask : Ask) (reply : Reply) → IsStep old caller ask reply new → FitsAsk ask reply
step_fits old new caller ask reply s = step_cases old caller ask reply new (FitsAsk ask reply) s
    (λ none a. subst (λ stop. MatchOption stop (FitsCall ask.call reply) (λ k. (reply ≡ reply_of.Stopped) ⊎ (reply ≡ reply_of.NoMemory))) (sym none) (fits_call old reply new caller ask.call a))
    (λ k some x. subst (λ stop. MatchOption stop (FitsCall ask.call reply) (λ k. (reply ≡ reply_of.Stopped) ⊎ (reply ≡ reply_of.NoMemory))) (sym some) (ends_so x.told reply old (begun old ask.call) x.store x.times caller new x.after).answered)

-- A fault has its cause.
pub step_causes : (old new : State) (caller : ℕ) (ask : Ask) (reply : Reply) → IsStep old caller ask reply new → HasItsCause old new reply
step_causes old new caller ask reply s = step_cases old caller ask reply new (HasItsCause old new reply) s
    (λ none a. (answered old reply new caller ask.call a).cause)
    (λ k some x. stopped_causes old new caller k ask.call reply x)

-- Mounting lowers no count.
pub mounting_rises : (serial : ℕ) (times : Option (List ℕ)) (opened : Stored) (new : State) → IsMounted serial times opened new → opened.faults ≤ new.store.faults
mounting_rises serial times opened new m =
    let d = m.draws in
    omega (
      arith,
      acts_fall marks_step opened d.roomed d.tells.told d.tells.made,
      acts_fall (list_step new.marks) d.roomed d.listed (Ok (answer.Names d.names)) d.lists,
      acts_fall (mark_step new.marks new.mount) d.listed new.store (Ok answer.Made) d.marked,
    )
