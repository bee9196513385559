-- A call that is refused, or wants memory, changes nothing.
use Rattle.std.proofs.Common.{◌≡◌, ℕ, List, [], ◌∷◌, length, Option, Some, None, refl, sym, ap, ◌∙◌, ◌⊎◌, inl, inr, subst, Ok, Err, nat_le, Bool, true, false, if◌then◌else◌}
use Rattle.plfs_types.specs.declared.names.Path.{Path}
use Rattle.plfs_types.specs.declared.entries.Entry.{Entry}
use Rattle.store_api.specs.declared.tree.Tree.{Tree}
use Rattle.store_api.specs.declared.step.Answer.{Answer}
use Rattle.store_api.specs.declared.step.Answer.TheVariants as answer
use Rattle.store_api.specs.declared.store.Trouble.TheVariants as trouble
use Rattle.store_api.specs.Step.{Step, rooms, find_room, make_room, rename_room, make_folder, remove_folder, list_folder, create, remove, replace, length_of, read_at, write_at, cut, sync as sync_file}
use Rattle.store_api.specs.Effect.{Effect, effect, tree_after}
use Rattle.store_api.specs.Acts.{Stored, Acts, Goes}
use Rattle.store_laws.specs.Changes.{Created, Wrote, WasCut, WasSynced, Removed, Replaced, FolderMade, FolderRemoved, RoomMade, RoomRenamed}
use Rattle.store_laws.specs.Outcomes.{ChangesOrStays}
use Rattle.store_laws.proofs.Facts.{look_same, create_cases, remove_folder_cases, make_folder_cases, replace_cases, make_room_cases, rename_room_cases, remove_cases, sync_cases, write_cases, cut_cases}
use Rattle.mount_model.specs.declared.row.Row.{Row}
use Rattle.mount_model.specs.declared.row.Stage.{Stage}
use Rattle.mount_model.specs.declared.row.Holder.{Holder}
use Rattle.mount_model.specs.declared.row.Flattening.{Flattening}
use Rattle.mount_model.specs.declared.row.Making.TheVariants as kind
use Rattle.mount_model.specs.declared.row.FlatStage.{FlatStage}
use Rattle.mount_model.specs.declared.row.FlatStage.TheVariants as flat_stage
use Rattle.mount_model.specs.declared.call.Look.{Look as Sight}
use Rattle.mount_model.specs.declared.call.Look.TheVariants as sight
use Rattle.mount_model.specs.declared.call.Call.{Call}
use Rattle.mount_model.specs.declared.call.Call.TheVariants.{Greet, Find, MakeContainer, Rooms, Look, Enter, Floor, MakeHostdir, MakeIndex, MakeLog, Write, Flush, SyncLog, SyncIndex, PutMeta, Exit, Hold, Mark, Move, Release, StartFlat, PutFlat, SyncFlat, InstallFlat, StartPack, SyncDropping, Inspect, Mend, MendMeta, Bury, MendHold}
use Rattle.mount_model.specs.declared.call.Ask.{Ask}
use Rattle.mount_model.specs.declared.reply.Refusal.{Refusal}
use Rattle.mount_model.specs.declared.reply.Refusal.TheVariants.{NoRoom}
use Rattle.mount_model.specs.declared.reply.Reply.{Reply}
use Rattle.mount_model.specs.declared.reply.Reply.TheVariants.{Looked, Damaged, Holding, Done, Refused, NoMemory}
use Rattle.mount_model.specs.Paths.{Name, truncs, metadata, dropping_path, open_path, index_path, log_path, trunc_path, temporary}
use Rattle.container_layout.specs.Paths.{openhosts}
use Rattle.container_layout.specs.Paths.{hostdir_of}
use Rattle.mount_model.specs.Table.{may_close, writer_of}
use Rattle.mount_model.specs.State.{State, Table, put, drawn, timed}
use Rattle.mount_model.specs.Making.{Told, CallOutcome, otherwise, MakesAct, room_check, OnWriter, UnlessRefused}
use Rattle.mount_model.specs.Finding.{find_outcome, make_outcome, RoomsReply}
use Rattle.mount_model.specs.Looking.{look_reply, listing_reply, length_reply, read_reply}
use Rattle.mount_model.specs.Entering.{draw_check, enter_outcome, entered}
use Rattle.mount_model.specs.Flooring.{FloorOutcome}
use Rattle.mount_model.specs.Building.{build_outcome}
use Rattle.mount_model.specs.Writing.{WritesAt, write_check, write_outcome, stamp_at}
use Rattle.mount_model.specs.Flushing.{FlushesRow, flush_outcome, sync_log_outcome, sync_index_outcome}
use Rattle.mount_model.specs.Leaving.{closing, put_meta_check, put_meta_outcome, exit_check, exit_outcome}
use Rattle.mount_model.specs.Holding.{holding, HoldOutcome, OnHolder, truncate_check, truncate_outcome, TruncatesAt, rename_outcome, RenamesRoom, release_outcome}
use Rattle.mount_model.specs.Flattening.{begun_flat, start_outcome, StartsPackOf, OnFlattening, put_flat_outcome, sync_flat_outcome, install_outcome}
use Rattle.mount_model.specs.Recovering.{done_outcome, SyncsIt, alive_check, mend_check, MendsIt, mended_file, mend_meta_outcome, MendsItsMeta, bury_outcome, BuriesIt, mend_hold_check, mend_hold_outcome}
use Rattle.mount_model.specs.Stopping.{part_made, begun, MakesPart, IsEndedBy}
use Rattle.mount_model.specs.Step.{Answers, IsStep}
use Rattle.mount_model.specs.Unchanged.{IsGivenUp, OnlyCloses, ChangesNothing}
use Rattle.mount_model.proofs.Deciding.{match_cases, on_writer, on_holder, on_flattening, unless_refused, is_held, step_cases}
use Rattle.mount_model.proofs.Stopping.{begun_table}

-- ---- answers that leave a tree

-- a change is answered otherwise
record IsUnmade (told : Answer) : Type 0 where
  not_made : told ≡ answer.Made → ⊥
  not_numbered : (n : ℕ) → told ≡ answer.Number n → ⊥

stays_there : (tree : Tree) (change told : Answer) (changed : Tree → Type 0) (says : Answer → Type 0) (out : Effect) → ChangesOrStays tree change changed says out → out.answer ≡ told → (told ≡ change → ⊥) → out.tree ≡ tree
stays_there tree change told changed says out cases is other = elim cases as (λ _. out.tree ≡ tree) [
  | inl c ↦ absurd (other (sym is ∙ c.0))
  | inr s ↦ s.same
]

abbrev at : Name → Name → Path
at folder file = record { folder = folder; file = file }

still_tree : (tree : Tree) (step : Step) (told : Answer) → IsUnmade told → (effect tree step).answer ≡ told → tree_after tree step ≡ tree
still_tree tree rooms told un is = look_same rooms tree tt
still_tree tree (find_room name) told un is = look_same (find_room name) tree tt
still_tree tree (make_room name folders files) told un is = stays_there tree (answer.Number (length tree.rooms)) told (RoomMade tree name folders files) _ _ (make_room_cases tree name folders files) is (un.not_numbered (length tree.rooms))
still_tree tree (rename_room n to) told un is = stays_there tree answer.Made told (RoomRenamed tree n to) _ _ (rename_room_cases tree n to) is un.not_made
still_tree tree (make_folder n folder) told un is = stays_there tree answer.Made told (FolderMade tree n folder) _ _ (make_folder_cases tree n folder) is un.not_made
still_tree tree (remove_folder n folder) told un is = stays_there tree answer.Made told (FolderRemoved tree n folder) _ _ (remove_folder_cases tree n folder) is un.not_made
still_tree tree (list_folder n folder) told un is = look_same (list_folder n folder) tree tt
still_tree tree (create n folder file) told un is = stays_there tree answer.Made told (Created tree n (at folder file)) _ _ (create_cases tree n (at folder file)) is un.not_made
still_tree tree (remove n folder file) told un is = stays_there tree answer.Made told (Removed tree n (at folder file)) _ _ (remove_cases tree n (at folder file)) is un.not_made
still_tree tree (replace n folder from to) told un is = stays_there tree answer.Made told (Replaced tree n (at folder from) to) _ _ (replace_cases tree n (at folder from) to) is un.not_made
still_tree tree (length_of n folder file) told un is = look_same (length_of n folder file) tree tt
still_tree tree (read_at n folder file from len) told un is = look_same (read_at n folder file from len) tree tt
still_tree tree (write_at n folder file from bytes) told un is = stays_there tree answer.Made told (Wrote tree n (at folder file) from bytes) _ _ (write_cases tree n (at folder file) from bytes) is un.not_made
still_tree tree (cut n folder file len) told un is = stays_there tree answer.Made told (WasCut tree n (at folder file) len) _ _ (cut_cases tree n (at folder file) len) is un.not_made
still_tree tree (sync_file n folder file) told un is = stays_there tree answer.Made told (WasSynced tree n (at folder file)) _ _ (sync_cases tree n (at folder file)) is un.not_made

still_goes : (step : Step) (told : Answer) (old new : Option Tree) → IsUnmade told → Goes (λ before after. effect before step ≡ record { tree = after; answer = told }) old new → new ≡ old
still_goes step told None new un g = g
still_goes step told (Some tree) new un g =
    g.1 ∙ ap (λ t. Some t) (sym (ap (λ (x : Effect). x.tree) g.2) ∙ still_tree tree step told un (ap (λ (x : Effect). x.answer) g.2))

-- what was told says that the tree stayed
abbrev IsStill : Told → Type 0
IsStill told = (told ≡ Err trouble.NoMemory) ⊎ ((is : Answer) × (told ≡ Ok is) × IsUnmade is)

still_acts : (step : Step) (old new : Stored) (told : Told) → IsStill told → Acts step old new told → new.tree ≡ old.tree
still_acts step old new told (inl memory) made = ap (λ (s : Stored). s.tree) (subst (Acts step old new) memory made)
still_acts step old new told (inr (is, same, un)) made = still_goes step is old.tree new.tree un (subst (Acts step old new) same made).tree

-- ---- replies to what was told

-- the reply is none of these
never : (X : Type 0) (reply : Reply) → ((why : Refusal) → reply ≡ Refused why → ⊥) → (reply ≡ NoMemory → ⊥) → IsGivenUp reply → X
never X reply refused memory (inl (why, e)) = absurd (refused why e)
never X reply refused memory (inr e) = absurd (memory e)

-- a call was given up: the tree stayed, and the table is this one
record IsIdle (table : Table) (told : Told) (after : Table) : Type 0 where
  still : IsStill told
  same : after ≡ table

nowhere : IsStill (Ok answer.NoRoom)
nowhere = inr (answer.NoRoom, refl, record { not_made = λ e. cc; not_numbered = λ n e. cc })

otherwise_still : (folder file : Name) (told : Told) → IsGivenUp (otherwise folder file told) → IsStill told
otherwise_still folder file (Ok answer.NoRoom) g = nowhere
otherwise_still folder file (Ok answer.NoFolder) g = never _ _ (λ why e. cc) (λ e. cc) g
otherwise_still folder file (Ok told) g = never _ _ (λ why e. cc) (λ e. cc) g
otherwise_still folder file (Err trouble.Fault) g = never _ _ (λ why e. cc) (λ e. cc) g
otherwise_still folder file (Err trouble.NoMemory) g = inl refl

module _ (table : Table) where
  -- the call has no line of its own for what was told
  rest : (folder file : Name) (told : Told) → IsGivenUp (otherwise folder file told) → IsIdle table told table
  rest folder file told g = record { still = otherwise_still folder file told g; same = refl }

  find_idle : (told : Told) → IsGivenUp (find_outcome table told).reply → IsIdle table told (find_outcome table told).table
  find_idle (Ok (answer.Number room)) g = never _ _ (λ why e. cc) (λ e. cc) g
  find_idle (Ok answer.Absent) g = record { still = inr (answer.Absent, refl, record { not_made = λ e. cc; not_numbered = λ n e. cc }); same = refl }
  find_idle told g = rest [] [] told g

  make_idle : (told : Told) → IsGivenUp (make_outcome table told).reply → IsIdle table told (make_outcome table told).table
  make_idle (Ok (answer.Number room)) g = never _ _ (λ why e. cc) (λ e. cc) g
  make_idle (Ok (answer.Old room)) g = never _ _ (λ why e. cc) (λ e. cc) g
  make_idle told g = rest [] [] told g

  enter_idle : (row : Row) (told : Told) → IsGivenUp (enter_outcome row table told).reply → IsIdle table told (enter_outcome row table told).table
  enter_idle row (Ok answer.Made) g = never _ _ (λ why e. cc) (λ e. cc) g
  enter_idle row (Ok answer.NoFolder) g = record { still = inr (answer.NoFolder, refl, record { not_made = λ e. cc; not_numbered = λ n e. cc }); same = refl }
  enter_idle row told g = rest openhosts (open_path row.host row.id).file told g

  build_idle : (stage : Stage) (folder file : Name) (row : Row) (told : Told) → IsGivenUp (build_outcome stage folder file row table told).reply → IsIdle table told (build_outcome stage folder file row table told).table
  build_idle stage folder file row (Ok answer.Made) g = never _ _ (λ why e. cc) (λ e. cc) g
  build_idle stage folder file row (Ok (answer.Old room)) g = never _ _ (λ why e. cc) (λ e. cc) g
  build_idle stage folder file row told g = rest folder file told g

  write_idle : (stamp : ℕ) (row : Row) (from len : ℕ) (told : Told) → IsGivenUp (write_outcome stamp row from len table told).reply → IsIdle table told (write_outcome stamp row from len table told).table
  write_idle stamp row from len (Ok answer.Made) g = never _ _ (λ why e. cc) (λ e. cc) g
  write_idle stamp row from len told g = rest (hostdir_of row.host) (log_path row.host row.id).file told g

  flush_idle : (row : Row) (told : Told) → IsGivenUp (flush_outcome row table told).reply → IsIdle table told (flush_outcome row table told).table
  flush_idle row (Ok answer.Made) g = never _ _ (λ why e. cc) (λ e. cc) g
  flush_idle row told g = rest (hostdir_of row.host) (index_path row.host row.id).file told g

  sync_log_idle : (row : Row) (told : Told) → IsGivenUp (sync_log_outcome row table told).reply → IsIdle table told (sync_log_outcome row table told).table
  sync_log_idle row (Ok answer.Made) g = never _ _ (λ why e. cc) (λ e. cc) g
  sync_log_idle row told g = rest (hostdir_of row.host) (log_path row.host row.id).file told g

  sync_index_idle : (row : Row) (told : Told) → IsGivenUp (sync_index_outcome row table told).reply → IsIdle table told (sync_index_outcome row table told).table
  sync_index_idle row (Ok answer.Made) g = never _ _ (λ why e. cc) (λ e. cc) g
  sync_index_idle row told g = rest (hostdir_of row.host) (index_path row.host row.id).file told g

  exit_idle : (row : Row) (told : Told) → IsGivenUp (exit_outcome row table told).reply → IsIdle table told (exit_outcome row table told).table
  exit_idle row (Ok answer.Made) g = never _ _ (λ why e. cc) (λ e. cc) g
  exit_idle row (Err trouble.Fault) g = never _ _ (λ why e. cc) (λ e. cc) g
  exit_idle row told g = rest openhosts (open_path row.host row.id).file told g

  truncate_idle : (stamp size : ℕ) (told : Told) → IsGivenUp (truncate_outcome stamp size table told).reply → IsIdle table told (truncate_outcome stamp size table told).table
  truncate_idle stamp size (Ok answer.Made) g = never _ _ (λ why e. cc) (λ e. cc) g
  truncate_idle stamp size told g = rest truncs (trunc_path stamp size).file told g

  rename_idle : (told : Told) → IsGivenUp (rename_outcome table told).reply → IsIdle table told (rename_outcome table told).table
  rename_idle (Ok answer.Made) g = never _ _ (λ why e. cc) (λ e. cc) g
  rename_idle (Ok answer.TargetThere) g = record { still = inr (answer.TargetThere, refl, record { not_made = λ e. cc; not_numbered = λ n e. cc }); same = refl }
  rename_idle told g = rest [] [] told g

  release_idle : (h : Holder) (told : Told) → IsGivenUp (release_outcome h table told).reply → IsIdle table told (release_outcome h table told).table
  release_idle h (Ok answer.Made) g = never _ _ (λ why e. cc) (λ e. cc) g
  release_idle h (Ok (answer.Old room)) g = never _ _ (λ why e. cc) (λ e. cc) g
  release_idle h (Err trouble.Fault) g = never _ _ (λ why e. cc) (λ e. cc) g
  release_idle h told g = rest openhosts [] told g

  start_idle : (f : Flattening) (told : Told) → IsGivenUp (start_outcome f table told).reply → IsIdle table told (start_outcome f table told).table
  start_idle f (Ok answer.Made) g = never _ _ (λ why e. cc) (λ e. cc) g
  start_idle f told g = rest (temporary f).folder (temporary f).file told g

  put_flat_idle : (f : Flattening) (told : Told) → IsGivenUp (put_flat_outcome f table told).reply → IsIdle table told (put_flat_outcome f table told).table
  put_flat_idle f (Ok answer.Made) g = never _ _ (λ why e. cc) (λ e. cc) g
  put_flat_idle f told g = rest (temporary f).folder (temporary f).file told g

  sync_flat_idle : (f : Flattening) (told : Told) → IsGivenUp (sync_flat_outcome f table told).reply → IsIdle table told (sync_flat_outcome f table told).table
  sync_flat_idle f (Ok answer.Made) g = never _ _ (λ why e. cc) (λ e. cc) g
  sync_flat_idle f told g = rest (temporary f).folder (temporary f).file told g

  install_idle : (f : Flattening) (told : Told) → IsGivenUp (install_outcome f table told).reply → IsIdle table told (install_outcome f table told).table
  install_idle f (Ok answer.Made) g = never _ _ (λ why e. cc) (λ e. cc) g
  install_idle f (Err trouble.Fault) g = never _ _ (λ why e. cc) (λ e. cc) g
  install_idle f told g = rest (temporary f).folder (temporary f).file told g

  done_idle : (folder file : Name) (told : Told) → IsGivenUp (done_outcome folder file table told).reply → IsIdle table told (done_outcome folder file table told).table
  done_idle folder file (Ok answer.Made) g = never _ _ (λ why e. cc) (λ e. cc) g
  done_idle folder file told g = rest folder file told g

  mend_meta_idle : (file : Name) (told : Told) → IsGivenUp (mend_meta_outcome file table told).reply → IsIdle table told (mend_meta_outcome file table told).table
  mend_meta_idle file (Ok answer.Made) g = never _ _ (λ why e. cc) (λ e. cc) g
  mend_meta_idle file (Ok (answer.Old room)) g = never _ _ (λ why e. cc) (λ e. cc) g
  mend_meta_idle file told g = rest metadata file told g

  bury_idle : (file : Name) (told : Told) → IsGivenUp (bury_outcome file table told).reply → IsIdle table told (bury_outcome file table told).table
  bury_idle file (Ok answer.Made) g = never _ _ (λ why e. cc) (λ e. cc) g
  bury_idle file (Ok answer.Absent) g = never _ _ (λ why e. cc) (λ e. cc) g
  bury_idle file (Ok answer.NoFolder) g = never _ _ (λ why e. cc) (λ e. cc) g
  bury_idle file told g = rest openhosts file told g

  mend_hold_idle : (told : Told) → IsGivenUp (mend_hold_outcome table told).reply → IsIdle table told (mend_hold_outcome table told).table
  mend_hold_idle (Ok answer.Made) g = never _ _ (λ why e. cc) (λ e. cc) g
  mend_hold_idle (Ok (answer.Old room)) g = never _ _ (λ why e. cc) (λ e. cc) g
  mend_hold_idle told g = rest openhosts [] told g

-- the making of a metadata dropping: its writer closes where the room isn't there
record ClosesOrIdle (row : Row) (table : Table) (told : Told) (reply : Reply) (after : Table) : Type 0 where
  still : IsStill told
  either : (after ≡ table) ⊎ ((reply ≡ Refused NoRoom) × (after ≡ put (closing row) table))

put_meta_idle : (table : Table) (row : Row) (told : Told) → IsGivenUp (put_meta_outcome row table told).reply → ClosesOrIdle row table told (put_meta_outcome row table told).reply (put_meta_outcome row table told).table
put_meta_idle table row (Ok answer.Made) g = never _ _ (λ why e. cc) (λ e. cc) g
put_meta_idle table row (Ok (answer.Old room)) g = never _ _ (λ why e. cc) (λ e. cc) g
put_meta_idle table row (Ok answer.NoRoom) g = record { still = nowhere; either = inr (refl, refl) }
put_meta_idle table row (Ok answer.NoFolder) g = never _ _ (λ why e. cc) (λ e. cc) g
put_meta_idle table row (Ok told) g = never _ _ (λ why e. cc) (λ e. cc) g
put_meta_idle table row (Err trouble.NoMemory) g = record { still = inl refl; either = inl refl }
put_meta_idle table row (Err trouble.Fault) g = never _ _ (λ why e. cc) (λ e. cc) g

-- ---- looks

listing_still : (folder : Name) (told : Told) → IsGivenUp (listing_reply folder told) → IsStill told
listing_still folder (Ok (answer.Names names)) g = never _ _ (λ why e. cc) (λ e. cc) g
listing_still folder (Ok answer.NoFolder) g = never _ _ (λ why e. cc) (λ e. cc) g
listing_still folder told g = otherwise_still folder [] told g

length_still : (path : Path) (told : Told) → IsGivenUp (length_reply path told) → IsStill told
length_still path (Ok (answer.Number value)) g = never _ _ (λ why e. cc) (λ e. cc) g
length_still path (Ok answer.NoFolder) g = never _ _ (λ why e. cc) (λ e. cc) g
length_still path (Ok answer.Absent) g = never _ _ (λ why e. cc) (λ e. cc) g
length_still path told g = otherwise_still path.folder path.file told g

bytes_given : (X : Type 0) (path : Path) (bytes : List ℕ) (b : Bool) → IsGivenUp (if b then Looked (answer.Bytes bytes) else Damaged path.folder path.file) → X
bytes_given X path bytes true g = never X _ (λ why e. cc) (λ e. cc) g
bytes_given X path bytes false g = never X _ (λ why e. cc) (λ e. cc) g

read_still : (path : Path) (len : ℕ) (told : Told) → IsGivenUp (read_reply path len told) → IsStill told
read_still path len (Ok (answer.Bytes bytes)) g = bytes_given _ path bytes (nat_le (length bytes) len) g
read_still path len (Ok answer.NoFolder) g = never _ _ (λ why e. cc) (λ e. cc) g
read_still path len (Ok answer.Absent) g = never _ _ (λ why e. cc) (λ e. cc) g
read_still path len told g = otherwise_still path.folder path.file told g

look_still : (look : Sight) (told : Told) → IsGivenUp (look_reply look told) → IsStill told
look_still sight.Top told g = listing_still [] told g
look_still (sight.List folder) told g = listing_still folder told g
look_still (sight.Length path) told g = length_still path told g
look_still (sight.Read path from len) told g = read_still path len told g

rooms_still : (told : Told) (reply : Reply) → RoomsReply told reply → IsGivenUp reply → IsStill told
rooms_still (Ok (answer.Names names)) reply r g = never _ reply (λ why e. let f = r.1 in cc) (λ e. let f = r.1 in cc) g
rooms_still told reply r g = otherwise_still [] [] told (subst IsGivenUp r g)

floor_idle : (row : Row) (table : Table) (told : Told) (reply : Reply) (after : Table) → FloorOutcome row table told reply after → IsGivenUp reply → IsIdle table told after
floor_idle row table (Ok (answer.Names names)) reply after o g = elim o as (λ _. IsIdle table (Ok (answer.Names names)) after) [
  | inl (floor, is, answered, same) ↦ never _ reply (λ why e. cc) (λ e. cc) g
  | inr (name, foreign, answered, same) ↦ never _ reply (λ why e. cc) (λ e. cc) g
]
floor_idle row table told reply after o g = record { still = otherwise_still truncs [] told (subst IsGivenUp o.0 g); same = o.1 }

hold_idle : (h : Holder) (table : Table) (told : Told) (reply : Reply) (after : Table) → HoldOutcome h table told reply after → IsGivenUp reply → IsIdle table told after
hold_idle h table (Ok answer.Made) reply after o g = never _ reply (λ why e. let f : reply ≡ Holding h.number = o.0 in cc) (λ e. let f : reply ≡ Holding h.number = o.0 in cc) g
hold_idle h table (Ok answer.NoFolder) reply after o g = record { still = inr (answer.NoFolder, refl, record { not_made = λ e. cc; not_numbered = λ n e. cc }); same = o.1 }
hold_idle h table (Ok (answer.NotEmpty least)) reply after o g = record { still = inr (answer.NotEmpty least, refl, record { not_made = λ e. cc; not_numbered = λ n e. cc }); same = o.1 }
hold_idle h table told reply after o g = record { still = otherwise_still openhosts [] told (subst IsGivenUp o.0 g); same = o.1 }

-- ---- each call

module _ (caller : ℕ) (call : Call) (old : State) (reply : Reply) (new : State) (given : IsGivenUp reply) where
  unchanged : new ≡ old → ChangesNothing caller call old reply new
  unchanged e = record { tree = ap (λ (s : State). s.store.tree) e; table = inl (ap (λ (s : State). s.table) e) }

  by_act : (step : Step) (told : Told) → Acts step old.store new.store told → IsIdle old.table told new.table → ChangesNothing caller call old reply new
  by_act step told made idle = record { tree = still_acts step old.store new.store told idle.still made; table = inl idle.same }

  -- the state before the act may have drawn a serial or asked the clock
  making : (step : Step) (outcome : Told → CallOutcome) (base : State) → base.store ≡ old.store → ((told : Told) → IsGivenUp (outcome told).reply → IsIdle old.table told (outcome told).table) → MakesAct step outcome base reply new → ChangesNothing caller call old reply new
  making step outcome base same idle m =
      let was = idle m.told (subst IsGivenUp m.answered given) in
      by_act step m.told (subst (λ s. Acts step s new.store m.told) same m.made) (record { still = was.still; same = ap (λ (s : State). s.table) m.after ∙ was.same })

  on_own : (stages : Stage → Bool) (id : ℕ) (does : Row → Type 0) → OnWriter caller stages id old reply new does → ((row : Row) → does row → ChangesNothing caller call old reply new) → ChangesNothing caller call old reply new
  on_own stages id does on made = on_writer caller stages id old reply new does (ChangesNothing caller call old reply new) on unchanged (λ row held. made row)

  on_held : (number : ℕ) (does : Holder → Type 0) → OnHolder caller number old reply new does → ((h : Holder) → does h → ChangesNothing caller call old reply new) → ChangesNothing caller call old reply new
  on_held number does on made = on_holder caller number old reply new does (ChangesNothing caller call old reply new) on unchanged (λ h held. made h)

  on_flat : (stage : FlatStage) (id : ℕ) (does : Flattening → Type 0) → OnFlattening caller stage id old reply new does → ((f : Flattening) → does f → ChangesNothing caller call old reply new) → ChangesNothing caller call old reply new
  on_flat stage id does on made = on_flattening caller stage id old reply new does (ChangesNothing caller call old reply new) on unchanged (λ f flat. made f)

  by_check : (check : Option Refusal) (does : Type 0) → UnlessRefused check old reply new does → (does → ChangesNothing caller call old reply new) → ChangesNothing caller call old reply new
  by_check check does on made = unless_refused check old reply new does (ChangesNothing caller call old reply new) on unchanged (λ none. made)

  flushing : (row : Row) (pending : List Entry) → FlushesRow row pending old reply new → ChangesNothing caller call old reply new
  flushing row [] f = unchanged f.1
  flushing row (first ∷ others) f = making _ _ old refl (flush_idle old.table row) f

closes : (caller : ℕ) (old : State) (reply : Reply) (new : State) (row : Row) → IsGivenUp reply → writer_of caller may_close row.id old.table.writers ≡ Some row → (step : Step) → MakesAct step (put_meta_outcome row old.table) old reply new → ChangesNothing caller (PutMeta row.id) old reply new
closes caller old reply new row given found step m =
    let was = put_meta_idle old.table row m.told (subst IsGivenUp m.answered given) in
    let left : new.table ≡ (put_meta_outcome row old.table m.told).table = ap (λ (s : State). s.table) m.after in
    record {
      tree = still_acts step old.store new.store m.told was.still m.made;
      table = elim (was.either) as (λ _. (new.table ≡ old.table) ⊎ OnlyCloses caller (PutMeta row.id) old reply new) [
        | inl same ↦ inl (left ∙ same)
        | inr (refused, is) ↦ inr (record { row = row; asked = refl; nowhere = m.answered ∙ refused; found = found; left = left ∙ is })
      ];
    }

put_meta_idles : (caller writer : ℕ) (old : State) (reply : Reply) (new : State) → IsGivenUp reply → Answers old caller (PutMeta writer) reply new → ChangesNothing caller (PutMeta writer) old reply new
put_meta_idles caller writer old reply new given a = elim (match_cases (writer_of caller may_close writer old.table.writers) _ _ a) as (λ _. ChangesNothing caller (PutMeta writer) old reply new) [
  | inl (none, refused) ↦ unchanged caller (PutMeta writer) old reply new given refused.1
  | inr (row, is, u) ↦
      let own : row.id ≡ writer = (is_held caller may_close writer old.table.writers row is).is in
      let found : writer_of caller may_close row.id old.table.writers ≡ Some row = subst (λ id. writer_of caller may_close id old.table.writers ≡ Some row) (sym own) is in
      by_check caller (PutMeta writer) old reply new given (put_meta_check row) _ u (λ m. subst (λ id. ChangesNothing caller (PutMeta id) old reply new) own (closes caller old reply new row given found _ m))
]

answers_idle : (caller : ℕ) (call : Call) (old : State) (reply : Reply) (new : State) → IsGivenUp reply → Answers old caller call reply new → ChangesNothing caller call old reply new
answers_idle caller Greet old reply new given a = unchanged caller Greet old reply new given a.1
answers_idle caller (Find name) old reply new given a = making caller (Find name) old reply new given _ _ old refl (find_idle old.table) a.makes
answers_idle caller (MakeContainer name) old reply new given a = making caller (MakeContainer name) old reply new given _ _ old refl (make_idle old.table) a.makes
answers_idle caller Rooms old reply new given a = by_act caller Rooms old reply new given _ a.told a.made (record { still = rooms_still a.told reply a.answered given; same = ap (λ (s : State). s.table) a.after })
answers_idle caller (Look room look) old reply new given a = by_check caller (Look room look) old reply new given _ _ a (λ m. making caller (Look room look) old reply new given _ _ old refl (λ told g. record { still = look_still look told g; same = refl }) m)
answers_idle caller (Enter room host most) old reply new given a = by_check caller (Enter room host most) old reply new given (draw_check old room) _ a (λ e. making caller (Enter room host most) old reply new given _ _ (drawn old) refl (enter_idle old.table (entered old caller room host most)) e.makes)
answers_idle caller (Floor writer) old reply new given a = on_own caller (Floor writer) old reply new given _ writer _ a (λ row f. by_act caller (Floor writer) old reply new given _ f.told f.made (floor_idle row old.table f.told reply new.table f.outcome given))
answers_idle caller (MakeHostdir writer) old reply new given a = on_own caller (MakeHostdir writer) old reply new given _ writer _ a (λ row m. making caller (MakeHostdir writer) old reply new given _ _ old refl (build_idle old.table _ _ _ row) m)
answers_idle caller (MakeIndex writer) old reply new given a = on_own caller (MakeIndex writer) old reply new given _ writer _ a (λ row m. making caller (MakeIndex writer) old reply new given _ _ old refl (build_idle old.table _ _ _ row) m)
answers_idle caller (MakeLog writer) old reply new given a = on_own caller (MakeLog writer) old reply new given _ writer _ a (λ row m. making caller (MakeLog writer) old reply new given _ _ old refl (build_idle old.table _ _ _ row) m)
answers_idle caller (Write writer from block) old reply new given a = on_own caller (Write writer from block) old reply new given _ writer _ a (λ row u.
    by_check caller (Write writer from block) old reply new given (write_check row from (length block)) _ u (λ (w : WritesAt row from block old reply new).
    making caller (Write writer from block) old reply new given _ _ (timed w.times old) refl (write_idle old.table (stamp_at w.time row) row from (length block)) w.makes))
answers_idle caller (Flush writer) old reply new given a = on_own caller (Flush writer) old reply new given _ writer _ a (λ row f. flushing caller (Flush writer) old reply new given row row.pending.entries f)
answers_idle caller (SyncLog writer) old reply new given a = on_own caller (SyncLog writer) old reply new given _ writer _ a (λ row m. making caller (SyncLog writer) old reply new given _ _ old refl (sync_log_idle old.table row) m)
answers_idle caller (SyncIndex writer) old reply new given a = on_own caller (SyncIndex writer) old reply new given _ writer _ a (λ row m. making caller (SyncIndex writer) old reply new given _ _ old refl (sync_index_idle old.table row) m)
answers_idle caller (PutMeta writer) old reply new given a = put_meta_idles caller writer old reply new given a
answers_idle caller (Exit writer) old reply new given a = on_own caller (Exit writer) old reply new given _ writer _ a (λ row u.
    by_check caller (Exit writer) old reply new given (exit_check row) _ u (λ m. making caller (Exit writer) old reply new given _ _ old refl (exit_idle old.table row) m))
answers_idle caller (Hold room) old reply new given a = by_check caller (Hold room) old reply new given (draw_check old room) _ a (λ h.
    by_act caller (Hold room) old reply new given _ h.told h.made (hold_idle (holding old caller room) old.table h.told reply new.table h.outcome given))
answers_idle caller (Mark number size top) old reply new given a = on_held caller (Mark number size top) old reply new given number _ a (λ h u.
    by_check caller (Mark number size top) old reply new given (truncate_check size top) _ u (λ (t : TruncatesAt h size top old reply new).
    making caller (Mark number size top) old reply new given _ _ (timed t.times old) refl (truncate_idle old.table _ size) t.makes))
answers_idle caller (Move number to) old reply new given a = on_held caller (Move number to) old reply new given number _ a (λ h (r : RenamesRoom h to old reply new).
    making caller (Move number to) old reply new given _ _ old refl (rename_idle old.table) r.makes)
answers_idle caller (Release number) old reply new given a = on_held caller (Release number) old reply new given number _ a (λ h m. making caller (Release number) old reply new given _ _ old refl (release_idle old.table h) m)
answers_idle caller (StartFlat room) old reply new given a = by_check caller (StartFlat room) old reply new given (draw_check old room) _ a (λ m.
    making caller (StartFlat room) old reply new given _ _ (drawn old) refl (start_idle old.table (begun_flat old caller room kind.Flat)) m)
answers_idle caller (PutFlat flat bytes) old reply new given a = on_flat caller (PutFlat flat bytes) old reply new given flat_stage.Begun flat _ a (λ f m. making caller (PutFlat flat bytes) old reply new given _ _ old refl (put_flat_idle old.table f) m)
answers_idle caller (SyncFlat flat) old reply new given a = on_flat caller (SyncFlat flat) old reply new given flat_stage.Put flat _ a (λ f m. making caller (SyncFlat flat) old reply new given _ _ old refl (sync_flat_idle old.table f) m)
answers_idle caller (InstallFlat flat) old reply new given a = on_flat caller (InstallFlat flat) old reply new given flat_stage.Synced flat _ a (λ f m. making caller (InstallFlat flat) old reply new given _ _ old refl (install_idle old.table f) m)
answers_idle caller (StartPack room host writer) old reply new given a = by_check caller (StartPack room host writer) old reply new given (draw_check old room) _ a (λ (x : StartsPackOf caller room host writer old reply new).
    making caller (StartPack room host writer) old reply new given _ _ (drawn old) refl (start_idle old.table (begun_flat old caller room (kind.Pack host writer))) x.makes)
answers_idle caller (SyncDropping room host writer is_log) old reply new given a = by_check caller (SyncDropping room host writer is_log) old reply new given (room_check old room) _ a (λ (m : SyncsIt room host writer is_log old reply new).
    making caller (SyncDropping room host writer is_log) old reply new given _ _ old refl (done_idle old.table (dropping_path is_log host writer).folder (dropping_path is_log host writer).file) m.makes)
answers_idle caller (Inspect writer) old reply new given a = by_check caller (Inspect writer) old reply new given (alive_check old writer) ((reply ≡ Done) × (new ≡ old)) a (λ m. unchanged caller (Inspect writer) old reply new given m.1)
answers_idle caller (Mend room host writer count) old reply new given a = by_check caller (Mend room host writer count) old reply new given (mend_check old room writer) _ a (λ (m : MendsIt room host writer count old reply new).
    making caller (Mend room host writer count) old reply new given _ _ old refl (done_idle old.table (index_path host writer).folder (index_path host writer).file) m.makes)
answers_idle caller (MendMeta room host cover last) old reply new given a = by_check caller (MendMeta room host cover last) old reply new given (mend_check old room cover.writer) _ a (λ (m : MendsItsMeta room host cover last old reply new).
    making caller (MendMeta room host cover last) old reply new given _ _ old refl (mend_meta_idle old.table (mended_file host cover last)) m.makes)
answers_idle caller (Bury room host writer) old reply new given a = by_check caller (Bury room host writer) old reply new given (mend_check old room writer) _ a (λ (m : BuriesIt room host writer old reply new).
    making caller (Bury room host writer) old reply new given _ _ old refl (bury_idle old.table (open_path host writer).file) m.makes)
answers_idle caller (MendHold room) old reply new given a = by_check caller (MendHold room) old reply new given (mend_hold_check old room) _ a (λ m. making caller (MendHold room) old reply new given _ _ old refl (mend_hold_idle old.table) m)

-- ---- a call that is broken off

part_idle : (part : Option Step) (old new : Stored) → MakesPart part old new (Err trouble.NoMemory) → new.tree ≡ old.tree
part_idle None old new m = absurd (let told = m.0 in cc)
part_idle (Some step) old new m = ap (λ (s : Stored). s.tree) m

stop_idle : (caller k time : ℕ) (call : Call) (old : State) (reply : Reply) (new : State) (told : Told) (store : Stored) (times : Option (List ℕ)) → IsGivenUp reply → MakesPart (part_made k time old caller call) old.store store told
    → IsEndedBy told reply (record (begun old call) { store = store; times = times }) caller new → ChangesNothing caller call old reply new
stop_idle caller k time call old reply new (Err trouble.NoMemory) store times given made e = record {
  tree = ap (λ (s : State). s.store.tree) e.1 ∙ part_idle (part_made k time old caller call) old.store store made;
  table = inl (ap (λ (s : State). s.table) e.1 ∙ begun_table old call);
}
stop_idle caller k time call old reply new (Err trouble.Fault) store times given made e = never _ reply (λ why f. let s = e.0 in cc) (λ f. let s = e.0 in cc) given
stop_idle caller k time call old reply new (Ok told) store times given made e = never _ reply (λ why f. let s = e.0 in cc) (λ f. let s = e.0 in cc) given

-- Where a call is given up, it changes nothing.
pub step_idle : (old new : State) (caller : ℕ) (ask : Ask) (reply : Reply) → IsStep old caller ask reply new → IsGivenUp reply → ChangesNothing caller ask.call old reply new
step_idle old new caller ask reply s given = step_cases old caller ask reply new (ChangesNothing caller ask.call old reply new) s
    (λ none a. answers_idle caller ask.call old reply new given a)
    (λ k some x. stop_idle caller k x.time ask.call old reply new x.told x.store x.times given x.made x.after)
