-- How each step ends among numbered rooms, of what its calls and its files are.
use Rattle.std.proofs.Common.{◌≡◌, ◌⊎◌, ◌||◌, ◌≤◌, inl, ℕ, List, length, true, false, Option, Some, None, Result, Ok, Err, ap, refl, subst, sym, ◌∙◌}
use Rattle.std.proofs.lemmas.Bool.{false≢true}
use Rattle.std.specs.Prelude.{IfOk, IfErr, IfSome, OnErr}
use Rattle.store_api.specs.declared.step.Answer.{Answer}
use Rattle.store_api.specs.declared.step.Answer.TheVariants.{NoRoom}
use Rattle.store_api.specs.Step.{Step, rooms, find_room, make_room, rename_room, make_folder, remove_folder, list_folder, create, remove, replace, length_of, read_at, write_at, cut, sync}
use Rattle.folder_calls.specs.declared.cache.FileKey.{FileKey}
use Rattle.folder_calls.specs.declared.cache.OpenFiles.{OpenFiles}
use Rattle.folder_calls.specs.declared.failure.Failure.{Failure}
use Rattle.folder_calls.specs.declared.held.Held.{Held}
use Rattle.folder_calls.specs.declared.own.OwnFiles.{OwnFiles}
use Rattle.folder_calls.specs.Calls.{Log}
use Rattle.folder_calls.specs.Keys.{same_file}
use Rattle.folder_calls.specs.Opened.{held_at}
use Rattle.folder_calls.specs.Own.{is_own}
use Rattle.store_folder.specs.declared.disk.Disk.{Disk}
use Rattle.store_folder.specs.Failing.{Fails}
use Rattle.store_folder.specs.Files.{CreatesFile, RemovesFile, ReplacesFile}
use Rattle.store_folder.specs.Folders.{MakesFolder, RemovesFolder, TellsFolder}
use Rattle.store_folder.specs.Leaving.{LeavesRooms, LeavesOpen, StaysOpen, LeavesActed, ClosesOne, Closes, EndsAmongRooms}
use Rattle.store_folder.specs.Paths.{folder_path}
use Rattle.store_folder.specs.Places.{file_of, takes_name, ActsOnFile, ActsAt, BecomesOwn, IsNamed}
use Rattle.store_folder.specs.Rooms.{HasRooms, HasFiles, IsStill, InRoom, AddsRoom, RenamesRoom}
use Rattle.store_folder.specs.Steps.{Performs}
use Rattle.store_folder.proofs.Acting.{of_its_step}
use Rattle.store_folder.proofs.Entering.{on_err, if_any_err, if_ok_map}
use Rattle.store_folder.proofs.Staying.{none, of_its_file, rooms_of_its_file, fails_of_its_file, performs_of_its_file}

-- the key of a file
abbrev pub key_of : ℕ → List ℕ → List ℕ → FileKey
key_of room folder file = record { room = room; folder = folder; file = file }

-- a step on a file takes no name from any, or gives it one
keeps_names : (its key : FileKey) (step : Step) → file_of step ≡ Some its → takes_name step key ≡ false
keeps_names its key (length_of room folder file) is = refl
keeps_names its key (read_at room folder file at len) is = refl
keeps_names its key (write_at room folder file at bytes) is = refl
keeps_names its key (cut room folder file len) is = refl
keeps_names its key (sync room folder file) is = refl
keeps_names its key rooms is = refl
keeps_names its key (find_room name) is = refl
keeps_names its key (make_room name folders files) is = refl
keeps_names its key (rename_room room to) is = refl
keeps_names its key (make_folder room folder) is = refl
keeps_names its key (remove_folder room folder) is = refl
keeps_names its key (list_folder room folder) is = refl
keeps_names its key (create room folder file) is = refl
keeps_names its key (remove room folder file) is = absurd (none is)
keeps_names its key (replace room folder from to) is = absurd (none is)

-- a step on a file in a room that is there, or there is none
in_its_room : {C F : Type 0} (disk : Disk C F) (its : FileKey) (log later : Log F) (step : Step) (end : Result Answer Failure) → (length disk.rooms.items ≤ its.room → (end ≡ Ok NoRoom) × (later ≡ log)) → ActsOnFile disk its log later step end → IfOk end (λ answer. InRoom disk its.room answer log later (λ room. ActsAt (held_at disk.open its) (is_own disk.own its) log later (IsNamed disk its) room (folder_path room its.folder) its.file step (Ok answer)))
in_its_room disk its log later step (Ok answer) no_room acts = ((λ past. let is = (no_room past).0 in (cc, (no_room past).1)), acts)
in_its_room disk its log later step (Err failure) no_room acts = tt

module _ {C F : Type 0} (old new : Disk C F) (end : Result Answer Failure) where
  -- a step on a file that failed closes that file alone
  closes_its_file : (its : FileKey) (step : Step) → file_of step ≡ Some its → OnErr end (ClosesOne old new its) → Closes old new step end
  closes_its_file its (length_of room folder file) is closed =
      let same : its ≡ record { room = room; folder = folder; file = file } = cc in
      subst (λ (key : FileKey). OnErr end (ClosesOne old new key)) same closed
  closes_its_file its (read_at room folder file at len) is closed =
      let same : its ≡ record { room = room; folder = folder; file = file } = cc in
      subst (λ (key : FileKey). OnErr end (ClosesOne old new key)) same closed
  closes_its_file its (write_at room folder file at bytes) is closed =
      let same : its ≡ record { room = room; folder = folder; file = file } = cc in
      subst (λ (key : FileKey). OnErr end (ClosesOne old new key)) same closed
  closes_its_file its (cut room folder file len) is closed =
      let same : its ≡ record { room = room; folder = folder; file = file } = cc in
      subst (λ (key : FileKey). OnErr end (ClosesOne old new key)) same closed
  closes_its_file its (sync room folder file) is closed =
      let same : its ≡ record { room = room; folder = folder; file = file } = cc in
      subst (λ (key : FileKey). OnErr end (ClosesOne old new key)) same closed
  closes_its_file its rooms is closed = absurd (none is)
  closes_its_file its (find_room name) is closed = absurd (none is)
  closes_its_file its (make_room name folders files) is closed = absurd (none is)
  closes_its_file its (rename_room room to) is closed = absurd (none is)
  closes_its_file its (make_folder room folder) is closed = absurd (none is)
  closes_its_file its (remove_folder room folder) is closed = absurd (none is)
  closes_its_file its (list_folder room folder) is closed = absurd (none is)
  closes_its_file its (create room folder file) is closed = absurd (none is)
  closes_its_file its (remove room folder file) is closed = absurd (none is)
  closes_its_file its (replace room folder from to) is closed = absurd (none is)

module _ {C F : Type 0} (log : C → Log F) (old new : Disk C F) (end : Result Answer Failure) where
  -- a step that leaves the files as they are
  files_stay : (step : Step) → HasFiles old new → IfOk end (Performs old new (log old.calls) (log new.calls) step) → IfErr end (Fails old (log old.calls) (log new.calls) step) → OnErr end (LeavesRooms old new (log old.calls) (log new.calls) step) → IfSome (file_of step) (λ key. ActsOnFile old key (log old.calls) (log new.calls) step end) → ((key : FileKey) (held : Held F) → held_at old.open key ≡ Some held → LeavesOpen old (log old.calls) (log new.calls) step end key held) → (new.open ≡ old.open → Closes old new step end) → ((key : FileKey) → takes_name step key ≡ false) → EndsAmongRooms log old new step end
  files_stay step same performs fails leaves on_file opened closes keeps =
      record {
        root = same.0;
        numbered = same.1;
        performs = performs;
        fails = fails;
        rooms = leaves;
        on_file = on_file;
        opened = λ key held there. opened key held (subst (λ (open_files : OpenFiles F). held_at open_files key ≡ Some held) same.2 there);
        closes = closes same.2;
        own = λ key its. inl (subst (λ (own : OwnFiles). is_own own key ≡ true) same.3 its);
        renames = λ key takes. absurd (false≢true (sym (keeps key) ∙ takes));
        keeps_own = λ key was takes. subst (λ (own : OwnFiles). is_own own key ≡ true) (sym same.3) was;
      }

  -- a step that leaves all as it is
  of_still : IsStill old new → HasFiles old new
  of_still same = (same.0.0, same.0.2, same.1, same.2)

  rooms_of_still : IsStill old new → OnErr end (new.rooms.items ≡ old.rooms.items)
  rooms_of_still same = on_err end _ (ap (λ names. names.items) same.0.1)

  pub rooms_told : new ≡ old → IfOk end (Performs old new (log old.calls) (log new.calls) rooms) → IfErr end (Fails old (log old.calls) (log new.calls) rooms) → EndsAmongRooms log old new rooms end
  rooms_told same performs fails =
      let files : HasFiles old new = subst (λ (disk : Disk C F). HasFiles old disk) (sym same) (refl, refl, refl, refl) in
      files_stay rooms files performs fails (on_err end _ (ap (λ (disk : Disk C F). disk.rooms.items) same)) tt (λ key held there. there) (λ closes. closes) (λ key. refl)

  pub room_found : (name : List ℕ) → new ≡ old → IfOk end (Performs old new (log old.calls) (log new.calls) (find_room name)) → IfErr end (Fails old (log old.calls) (log new.calls) (find_room name)) → EndsAmongRooms log old new (find_room name) end
  room_found name same performs fails =
      let files : HasFiles old new = subst (λ (disk : Disk C F). HasFiles old disk) (sym same) (refl, refl, refl, refl) in
      files_stay (find_room name) files performs fails (on_err end _ (ap (λ (disk : Disk C F). disk.rooms.items) same)) tt (λ key held there. there) (λ closes. closes) (λ key. refl)

  pub room_made : (name : List ℕ) (folders files : List (List ℕ)) → HasFiles old new → IfOk end (AddsRoom old new name (log old.calls) (log new.calls) folders files) → IfErr end (Fails old (log old.calls) (log new.calls) (make_room name folders files)) → OnErr end (LeavesRooms old new (log old.calls) (log new.calls) (make_room name folders files)) → EndsAmongRooms log old new (make_room name folders files) end
  room_made name folders files same adds fails leaves =
      files_stay (make_room name folders files) same (if_ok_map end _ _ (λ answer made. (same, made)) adds) fails leaves tt (λ key held there. there) (λ closes. closes) (λ key. refl)

  pub room_renamed : (room : ℕ) (to : List ℕ) → HasFiles old new → IfOk end (λ answer. InRoom old room answer (log old.calls) (log new.calls) (RenamesRoom old new to (log old.calls) (log new.calls) room answer)) → IfErr end (Fails old (log old.calls) (log new.calls) (rename_room room to)) → OnErr end (LeavesRooms old new (log old.calls) (log new.calls) (rename_room room to)) → EndsAmongRooms log old new (rename_room room to) end
  room_renamed room to same renames fails leaves =
      files_stay (rename_room room to) same (if_ok_map end _ _ (λ answer made. (same, made)) renames) fails leaves tt (λ key held there. there) (λ closes. closes) (λ key. refl)

  pub folder_made : (room : ℕ) (folder : List ℕ) → IsStill old new → IfOk end (λ answer. InRoom old room answer (log old.calls) (log new.calls) (λ path. MakesFolder (log old.calls) (log new.calls) path (folder_path path folder) answer)) → IfErr end (Fails old (log old.calls) (log new.calls) (make_folder room folder)) → EndsAmongRooms log old new (make_folder room folder) end
  folder_made room folder same makes fails =
      files_stay (make_folder room folder) (of_still same) (if_ok_map end _ _ (λ answer made. (same, made)) makes) fails (rooms_of_still same) tt (λ key held there. there) (λ closes. closes) (λ key. refl)

  pub folder_removed : (room : ℕ) (folder : List ℕ) → IsStill old new → IfOk end (λ answer. InRoom old room answer (log old.calls) (log new.calls) (λ path. RemovesFolder (log old.calls) (log new.calls) path folder answer)) → IfErr end (Fails old (log old.calls) (log new.calls) (remove_folder room folder)) → EndsAmongRooms log old new (remove_folder room folder) end
  folder_removed room folder same removes fails =
      files_stay (remove_folder room folder) (of_still same) (if_ok_map end _ _ (λ answer made. (same, made)) removes) fails (rooms_of_still same) tt (λ key held there. there) (λ closes. closes) (λ key. refl)

  pub folder_told : (room : ℕ) (folder : List ℕ) → IsStill old new → IfOk end (λ answer. InRoom old room answer (log old.calls) (log new.calls) (λ path. TellsFolder (log old.calls) (log new.calls) path (folder_path path folder) answer)) → IfErr end (Fails old (log old.calls) (log new.calls) (list_folder room folder)) → EndsAmongRooms log old new (list_folder room folder) end
  folder_told room folder same lists fails =
      files_stay (list_folder room folder) (of_still same) (if_ok_map end _ _ (λ answer made. (same, made)) lists) fails (rooms_of_still same) tt (λ key held there. there) (λ closes. closes) (λ key. refl)

  module _ (room : ℕ) (folder file : List ℕ) where
    -- a file that was to be made
    pub file_created : HasRooms old new → new.own ≡ old.own → IfOk end (λ answer. InRoom old room answer (log old.calls) (log new.calls) (λ path. CreatesFile (log old.calls) (log new.calls) path (folder_path path folder) file answer)) → IfErr end (Fails old (log old.calls) (log new.calls) (create room folder file)) → OnErr end (ClosesOne old new (key_of room folder file)) → ((key : FileKey) (held : Held F) → held_at new.open key ≡ Some held → LeavesOpen old (log old.calls) (log new.calls) (create room folder file) end key held) → EndsAmongRooms log old new (create room folder file) end
    file_created has own creates fails closes opened =
        record {
          root = has.0;
          numbered = has.2;
          performs = if_ok_map end _ _ (λ answer made. (has, made)) creates;
          fails = fails;
          rooms = on_err end _ (ap (λ names. names.items) has.1);
          on_file = tt;
          opened = opened;
          closes = closes;
          own = λ key its. inl (subst (λ (own : OwnFiles). is_own own key ≡ true) own its);
          renames = λ key takes. absurd (false≢true takes);
          keeps_own = λ key was takes. subst (λ (own : OwnFiles). is_own own key ≡ true) (sym own) was;
        }

    -- a file that was to be removed
    pub file_removed : HasRooms old new → held_at new.open (key_of room folder file) ≡ None → IfOk end (λ answer. InRoom old room answer (log old.calls) (log new.calls) (λ path. RemovesFile (log old.calls) (log new.calls) path (folder_path path folder) file answer)) → IfErr end (Fails old (log old.calls) (log new.calls) (remove room folder file)) → ClosesOne old new (key_of room folder file) → ((key : FileKey) (held : Held F) → held_at new.open key ≡ Some held → StaysOpen old (key_of room folder file) key held) → ((key : FileKey) → is_own new.own key ≡ true → is_own old.own key ≡ true) → ((key : FileKey) → same_file (key_of room folder file) key ≡ true → is_own new.own key ≡ false) → ((key : FileKey) → same_file (key_of room folder file) key ≡ false → is_own new.own key ≡ is_own old.own key) → EndsAmongRooms log old new (remove room folder file) end
    file_removed has gone removes fails closes opened only not_own others =
        record {
          root = has.0;
          numbered = has.2;
          performs = if_ok_map end _ _ (λ answer made. (has, gone, made)) removes;
          fails = fails;
          rooms = on_err end _ (ap (λ names. names.items) has.1);
          on_file = tt;
          opened = opened;
          closes = closes;
          own = λ key its. inl (only key its);
          renames = not_own;
          keeps_own = λ key was takes. others key takes ∙ was;
        }

    -- a file that was to get another name
    pub file_replaced : (to : List ℕ) → HasRooms old new → (held_at new.open (key_of room folder file) ≡ None) × (held_at new.open (key_of room folder to) ≡ None) → IfOk end (λ answer. InRoom old room answer (log old.calls) (log new.calls) (λ path. ReplacesFile (log old.calls) (log new.calls) path (folder_path path folder) file to answer)) → IfErr end (Fails old (log old.calls) (log new.calls) (replace room folder file to)) → Closes old new (replace room folder file to) end → ((key : FileKey) (held : Held F) → held_at new.open key ≡ Some held → StaysOpen old (key_of room folder file) key held × StaysOpen old (key_of room folder to) key held) → ((key : FileKey) → is_own new.own key ≡ true → is_own old.own key ≡ true) → ((key : FileKey) → (same_file (key_of room folder file) key || same_file (key_of room folder to) key) ≡ true → is_own new.own key ≡ false) → ((key : FileKey) → (same_file (key_of room folder file) key || same_file (key_of room folder to) key) ≡ false → is_own new.own key ≡ is_own old.own key) → EndsAmongRooms log old new (replace room folder file to) end
    file_replaced to has gone replaces fails closes opened only not_own others =
        record {
          root = has.0;
          numbered = has.2;
          performs = if_ok_map end _ _ (λ answer made. (has, gone.0, gone.1, made)) replaces;
          fails = fails;
          rooms = on_err end _ (ap (λ names. names.items) has.1);
          on_file = tt;
          opened = opened;
          closes = closes;
          own = λ key its. inl (only key its);
          renames = not_own;
          keeps_own = λ key was takes. others key takes ∙ was;
        }

  -- a step on a file
  pub file_acted : (its : FileKey) (step : Step) → file_of step ≡ Some its → HasRooms old new → (length old.rooms.items ≤ its.room → (end ≡ Ok NoRoom) × (log new.calls ≡ log old.calls)) → ActsOnFile old its (log old.calls) (log new.calls) step end → OnErr end (ClosesOne old new its) → ((key : FileKey) (held : Held F) → held_at new.open key ≡ Some held → LeavesActed old (log old.calls) (log new.calls) its step end key held) → ((key : FileKey) → is_own new.own key ≡ true → (is_own old.own key ≡ true) ⊎ BecomesOwn old (Some its) key (log old.calls)) → ((key : FileKey) → is_own old.own key ≡ true → is_own new.own key ≡ true) → EndsAmongRooms log old new step end
  file_acted its step is has no_room on_file closes opened own lasts =
      record {
        root = has.0;
        numbered = has.2;
        performs = if_ok_map end _ _ (λ answer acts. performs_of_its_file old new _ _ answer its step is (has, acts)) (in_its_room old its _ _ step end no_room on_file);
        fails = if_any_err end _ (fails_of_its_file old new _ _ its step is);
        rooms = on_err end _ (rooms_of_its_file old new _ _ its step is (ap (λ names. names.items) has.1));
        on_file = subst (λ (file : Option FileKey). IfSome file (λ key. ActsOnFile old key (log old.calls) (log new.calls) step end)) (sym is) on_file;
        opened = λ key held there. of_its_file old _ _ end key held its step is (opened key held there);
        closes = closes_its_file old new end its step is closes;
        own = λ key now. of_its_step old its (log old.calls) (log new.calls) (file_of step) key (is_own old.own key ≡ true) is (own key now);
        renames = λ key takes. absurd (false≢true (sym (keeps_names its key step is) ∙ takes));
        keeps_own = λ key was takes. lasts key was;
      }

-- how a step ended is said of what it ended with
pub ends_with : {C F : Type 0} (log : C → Log F) (old new : Disk C F) (step : Step) (end told : Result Answer Failure) → told ≡ end → EndsAmongRooms log old new step end → EndsAmongRooms log old new step told
ends_with log old new step end told is ends = subst (λ (told : Result Answer Failure). EndsAmongRooms log old new step told) (sym is) ends

-- and of the step that was asked for
pub ends_step : {C F : Type 0} (log : C → Log F) (old new : Disk C F) (step asked : Step) (end : Result Answer Failure) → asked ≡ step → EndsAmongRooms log old new step end → EndsAmongRooms log old new asked end
ends_step log old new step asked end is ends = subst (λ (asked : Step). EndsAmongRooms log old new asked end) (sym is) ends
