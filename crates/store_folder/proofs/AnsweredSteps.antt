-- Where a step is answered, none of the calls that it made failed.
use Rattle.std.proofs.Common.{◌≡◌, ℕ, Bool, inl, inr, List, length, true, false, Option, Some, None, Ok, refl, ap, ◌∙◌, arith, rules}
use Rattle.std.proofs.lemmas.Bool.{cases_lt}
use Rattle.store_api.specs.declared.step.Answer.{Answer}
use Rattle.store_api.specs.declared.step.Answer.TheVariants.{Made, Old, Absent, NoRoom, NoFolder, NotEmpty, TargetThere, Names, Number, Bytes, Beyond}
use Rattle.store_api.specs.Step.{Step, rooms, find_room, make_room, rename_room, make_folder, remove_folder, list_folder, create, remove, replace, length_of, read_at, write_at, cut, sync}
use Rattle.folder_calls.specs.declared.held.Held.{Held}
use Rattle.folder_calls.specs.declared.cache.FileKey.{FileKey}
use Rattle.folder_calls.specs.Calls.{Log}
use Rattle.folder_calls.specs.Opened.{held_at}
use Rattle.folder_calls.specs.Own.{is_own}
use Rattle.folder_calls.specs.OpenFiles.{ReadsOpen, GoesOver, WritesOpen, CutsOpen, SyncsOpen, ActsOpen, given_at, over_at}
use Rattle.store_folder.specs.declared.disk.Disk.{Disk}
use Rattle.store_folder.specs.Paths.{folder_path}
use Rattle.store_folder.specs.Places.{IsNamed, ActsAt, once_opened, not_there, unopened}
use Rattle.store_folder.specs.Rooms.{InRoom}
use Rattle.store_folder.specs.Steps.{Numbers, PerformsOnFile, Performs}
use Rattle.store_folder.proofs.Answered.{NoneFailed, unchanged, one, four}
use Rattle.store_folder.proofs.AnsweredFolders.{folder_made, folder_removed, folder_told, file_created, file_removed, file_replaced, no_file_found}
use Rattle.store_folder.proofs.AnsweredRooms.{rooms_listed, room_added, room_renamed}

module _ {F : Type 0} (held : Held F) (log later : Log F) where
  bytes_read : (at len : ℕ) (answer : Answer) → ReadsOpen held log later at len (Ok answer) → NoneFailed log later
  bytes_read at len (Bytes bytes) made = elim (cases_lt 0 (given_at held at len)) [
    | inl some ↦ one _ _ _ (made.call (omega (arith, some))) refl
    | inr none ↦ unchanged (made.none (omega (arith, none)))
  ]
  bytes_read at len Made made = absurd made
  bytes_read at len (Old number) made = absurd made
  bytes_read at len Absent made = absurd made
  bytes_read at len NoRoom made = absurd made
  bytes_read at len NoFolder made = absurd made
  bytes_read at len (NotEmpty least) made = absurd made
  bytes_read at len TargetThere made = absurd made
  bytes_read at len (Names names) made = absurd made
  bytes_read at len (Number value) made = absurd made
  bytes_read at len Beyond made = absurd made

  gone_over : (at : ℕ) (bytes : List ℕ) (between : Log F) → GoesOver held at bytes log between → NoneFailed log between
  gone_over at bytes between over = elim (cases_lt 0 (over_at held at bytes)) [
    | inl some ↦ one _ _ _ (over.same (omega (arith, some))) refl
    | inr none ↦ unchanged (over.none (omega (arith, none)))
  ]

  bytes_written : (at : ℕ) (bytes : List ℕ) (answer : Answer) → WritesOpen held log later at bytes (Ok answer) → NoneFailed log later
  bytes_written at bytes Beyond made = unchanged made.1
  bytes_written at bytes Made made = one _ _ _ made.1.2 refl ∙ gone_over at bytes made.1.0 made.1.1
  bytes_written at bytes (Old number) made = absurd made
  bytes_written at bytes Absent made = absurd made
  bytes_written at bytes NoRoom made = absurd made
  bytes_written at bytes NoFolder made = absurd made
  bytes_written at bytes (NotEmpty least) made = absurd made
  bytes_written at bytes TargetThere made = absurd made
  bytes_written at bytes (Names names) made = absurd made
  bytes_written at bytes (Number value) made = absurd made
  bytes_written at bytes (Bytes others) made = absurd made

  file_cut : (len : ℕ) (answer : Answer) → CutsOpen held log later len (Ok answer) → NoneFailed log later
  file_cut len Beyond made = unchanged made.1
  file_cut len Made made = one _ _ _ made.1 refl
  file_cut len (Old number) made = absurd made
  file_cut len Absent made = absurd made
  file_cut len NoRoom made = absurd made
  file_cut len NoFolder made = absurd made
  file_cut len (NotEmpty least) made = absurd made
  file_cut len TargetThere made = absurd made
  file_cut len (Names names) made = absurd made
  file_cut len (Number value) made = absurd made
  file_cut len (Bytes bytes) made = absurd made

  file_synced : (answer : Answer) → SyncsOpen held log later (Ok answer) → NoneFailed log later
  file_synced Made made = one _ _ _ made refl
  file_synced (Old number) made = absurd made
  file_synced Absent made = absurd made
  file_synced NoRoom made = absurd made
  file_synced NoFolder made = absurd made
  file_synced (NotEmpty least) made = absurd made
  file_synced TargetThere made = absurd made
  file_synced (Names names) made = absurd made
  file_synced (Number value) made = absurd made
  file_synced (Bytes bytes) made = absurd made
  file_synced Beyond made = absurd made

  -- a step on an open file; other steps are answered with no call
  acted_on : (step : Step) (answer : Answer) → ActsOpen held log later step (Ok answer) → NoneFailed log later
  acted_on (length_of room folder file) answer made = unchanged made.1
  acted_on (read_at room folder file at len) answer made = bytes_read at len answer made
  acted_on (write_at room folder file at bytes) answer made = bytes_written at bytes answer made
  acted_on (cut room folder file len) answer made = file_cut len answer made
  acted_on (sync room folder file) answer made = file_synced answer made
  acted_on rooms answer made = unchanged made.1
  acted_on (find_room name) answer made = unchanged made.1
  acted_on (make_room name folders files) answer made = unchanged made.1
  acted_on (rename_room room to) answer made = unchanged made.1
  acted_on (make_folder room folder) answer made = unchanged made.1
  acted_on (remove_folder room folder) answer made = unchanged made.1
  acted_on (list_folder room folder) answer made = unchanged made.1
  acted_on (create room folder file) answer made = unchanged made.1
  acted_on (remove room folder file) answer made = unchanged made.1
  acted_on (replace room folder from to) answer made = unchanged made.1

-- a step on a file that is open, or is opened for it
acted_at : {F : Type 0} (place : Option (Held F)) (is_own : Bool) (log later : Log F) (named : Type 0) (room folder file : List ℕ) (step : Step) (answer : Answer) → ActsAt place is_own log later named room folder file step (Ok answer) → NoneFailed log later
acted_at (Some held) is_own log later named room folder file step answer acts = acted_on held log later step answer acts
acted_at None is_own log later named room folder file step answer (once_opened held between opens acts) = acted_on held between later step answer acts ∙ four _ _ _ _ _ _ opens.1 refl refl refl refl
acted_at None is_own log later named room folder file step answer (not_there told is finds) = no_file_found log later room folder file told finds
acted_at None is_own log later named room folder file step answer (unopened failure is fails) = absurd (search (rules, is))

-- a step in a room of this number, or there is none
in_room : {C F : Type 0} (disk : Disk C F) (room : ℕ) (answer : Answer) (log later : Log F) (says : List ℕ → Type 0) → ((path : List ℕ) → says path → NoneFailed log later) → InRoom disk room answer log later says → NoneFailed log later
in_room disk room answer log later says well told = elim (cases_lt room (length disk.rooms.items)) [
  | inl within ↦ well _ (told.1 within)
  | inr past ↦ unchanged (told.0 past).1
]

module _ {C F : Type 0} (log_of : C → Log F) (old new : Disk C F) where
  on_file : (key : FileKey) (step : Step) (answer : Answer) → PerformsOnFile old new (log_of old.calls) (log_of new.calls) key step answer → NoneFailed (log_of old.calls) (log_of new.calls)
  on_file key step answer told =
      in_room old key.room answer _ _ _ (λ path. acted_at (held_at old.open key) (is_own old.own key) _ _ (IsNamed old key) path (folder_path path key.folder) key.file step answer) told.1

  -- one line for each step
  pub performed : (step : Step) (answer : Answer) → Performs old new (log_of old.calls) (log_of new.calls) step answer → NoneFailed (log_of old.calls) (log_of new.calls)
  performed rooms answer told = unchanged (ap (λ (disk : Disk C F). log_of disk.calls) told.0)
  performed (find_room name) answer told = unchanged (ap (λ (disk : Disk C F). log_of disk.calls) told.0)
  performed (make_room name folders files) answer told = room_added old new name _ _ folders files answer told.1
  performed (rename_room room to) answer told = in_room old room answer _ _ _ (room_renamed old new to _ _ room answer) told.1
  performed (make_folder room folder) answer told = in_room old room answer _ _ _ (λ path. folder_made _ _ path (folder_path path folder) answer) told.1
  performed (remove_folder room folder) answer told = in_room old room answer _ _ _ (λ path. folder_removed _ _ path folder answer) told.1
  performed (list_folder room folder) answer told = in_room old room answer _ _ _ (λ path. folder_told _ _ path (folder_path path folder) answer) told.1
  performed (create room folder file) answer told = in_room old room answer _ _ _ (λ path. file_created _ _ path (folder_path path folder) file answer) told.1
  performed (remove room folder file) answer (has, gone, told) = in_room old room answer _ _ _ (λ path. file_removed _ _ path (folder_path path folder) file answer) told
  performed (replace room folder from to) answer (has, gone, there, told) = in_room old room answer _ _ _ (λ path. file_replaced _ _ path (folder_path path folder) from to answer) told
  performed (length_of room folder file) answer told = on_file (record { room = room; folder = folder; file = file }) (length_of room folder file) answer told
  performed (read_at room folder file at len) answer told = on_file (record { room = room; folder = folder; file = file }) (read_at room folder file at len) answer told
  performed (write_at room folder file at bytes) answer told = on_file (record { room = room; folder = folder; file = file }) (write_at room folder file at bytes) answer told
  performed (cut room folder file len) answer told = on_file (record { room = room; folder = folder; file = file }) (cut room folder file len) answer told
  performed (sync room folder file) answer told = on_file (record { room = room; folder = folder; file = file }) (sync room folder file) answer told

  -- the rooms have their numbers, or got them
  pub numbered : Numbers old new (log_of old.calls) (log_of new.calls) → NoneFailed (log_of old.calls) (log_of new.calls)
  numbered told =
      elim old.is_numbered as (λ b. old.is_numbered ≡ b → NoneFailed (log_of old.calls) (log_of new.calls)) [
        | true ↦ λ is. unchanged (ap (λ (disk : Disk C F). log_of disk.calls) (told.before is))
        | false ↦ λ is. rooms_listed _ _ _ _ (told.first is)
      ] refl
