-- Which files stay open.
use Rattle.std.proofs.Common.{◌≡◌, ◌||◌, ℕ, List, Bool, true, false, Option, Some, None, Result, Ok, Err, cond, refl, sym, subst, ◌∙◌}
use Rattle.store_api.specs.declared.step.Answer.{Answer}
use Rattle.store_api.specs.Step.{Step, rooms, find_room, make_room, rename_room, make_folder, remove_folder, list_folder, create, remove, replace, length_of, read_at, write_at, cut, sync}
use Rattle.folder_calls.specs.declared.cache.FileKey.{FileKey}
use Rattle.folder_calls.specs.declared.failure.Failure.{Failure}
use Rattle.folder_calls.specs.declared.held.Held.{Held}
use Rattle.folder_calls.specs.Calls.{Log}
use Rattle.folder_calls.specs.Keys.{same_file}
use Rattle.store_folder.specs.declared.disk.Disk.{Disk}
use Rattle.store_folder.specs.Failing.{Fails}
use Rattle.store_folder.specs.Leaving.{OpensMade, LeavesActed, LeavesOpen, LeavesRooms}
use Rattle.store_folder.specs.Places.{file_of}
use Rattle.store_folder.specs.Steps.{PerformsOnFile, Performs}

pub none : {A : Type 0} {one : A} → ◌≡◌ {A = Option A} None (Some one) → ⊥
none is = cc

module _ {F : Type 0} (other : FileKey) (held : Held F) where
  -- what is open once a file was taken out is another file, and was open before
  pub stays : (its : FileKey) (before after : Option (Held F)) → after ≡ cond (same_file its other) None before → after ≡ Some held → (same_file its other ≡ false) × (before ≡ Some held)
  stays its before after taken there = (elim (same_file its other) as (λ y. same_file its other ≡ y → (same_file its other ≡ false) × (before ≡ Some held)) [
    | true ↦ λ t. let taken' = rw t at taken in absurd (cc)
    | false ↦ λ t. let taken' = rw t at taken in (t, sym taken' ∙ there)
  ]) refl

  -- and so it is where two were
  pub both_stay : (its also : FileKey) (before between after : Option (Held F)) → between ≡ cond (same_file its other) None before → after ≡ cond (same_file also other) None between → after ≡ Some held → ((same_file its other ≡ false) × (before ≡ Some held)) × ((same_file also other ≡ false) × (before ≡ Some held))
  both_stay its also before between after first second there =
      let last = stays also between after second there in
      let all = stays its before between first last.1 in
      (all, (last.0, all.1))

module _ {C F : Type 0} (old : Disk C F) (log later : Log F) (end : Result Answer Failure) (other : FileKey) (held : Held F) where
  -- what a step on a file leaves open is said of the step
  pub of_its_file : (its : FileKey) (step : Step) → file_of step ≡ Some its → LeavesActed old log later its step end other held → LeavesOpen old log later step end other held
  of_its_file its (length_of room folder file) is leaves =
      let same : its ≡ record { room = room; folder = folder; file = file } = cc in
      subst (λ (key : FileKey). LeavesActed old log later key (length_of room folder file) end other held) same leaves
  of_its_file its (read_at room folder file at len) is leaves =
      let same : its ≡ record { room = room; folder = folder; file = file } = cc in
      subst (λ (key : FileKey). LeavesActed old log later key (read_at room folder file at len) end other held) same leaves
  of_its_file its (write_at room folder file at bytes) is leaves =
      let same : its ≡ record { room = room; folder = folder; file = file } = cc in
      subst (λ (key : FileKey). LeavesActed old log later key (write_at room folder file at bytes) end other held) same leaves
  of_its_file its (cut room folder file len) is leaves =
      let same : its ≡ record { room = room; folder = folder; file = file } = cc in
      subst (λ (key : FileKey). LeavesActed old log later key (cut room folder file len) end other held) same leaves
  of_its_file its (sync room folder file) is leaves =
      let same : its ≡ record { room = room; folder = folder; file = file } = cc in
      subst (λ (key : FileKey). LeavesActed old log later key (sync room folder file) end other held) same leaves
  of_its_file its rooms is leaves = absurd (none is)
  of_its_file its (find_room name) is leaves = absurd (none is)
  of_its_file its (make_room name folders files) is leaves = absurd (none is)
  of_its_file its (rename_room room to) is leaves = absurd (none is)
  of_its_file its (make_folder room folder) is leaves = absurd (none is)
  of_its_file its (remove_folder room folder) is leaves = absurd (none is)
  of_its_file its (list_folder room folder) is leaves = absurd (none is)
  of_its_file its (create room folder file) is leaves = absurd (none is)
  of_its_file its (remove room folder file) is leaves = absurd (none is)
  of_its_file its (replace room folder from to) is leaves = absurd (none is)

-- rooms that could not be listed have no numbers
pub no_numbers : {A E : Type 0} (is_numbered : Bool) (X : Type 0) (listed : Result A E) (value : A) (failure : E) → (is_numbered ≡ true → (listed ≡ Ok value) × X) → listed ≡ Err failure → is_numbered ≡ false
no_numbers false X listed value failure done failed = refl
no_numbers true X listed value failure done failed = let ok = (done refl).0 in cc

module _ {C F : Type 0} (old new : Disk C F) (log later : Log F) (its : FileKey) where
  -- a step on a file leaves the rooms as they are
  pub rooms_of_its_file : (step : Step) → file_of step ≡ Some its → new.rooms.items ≡ old.rooms.items → LeavesRooms old new log later step
  rooms_of_its_file (length_of room folder file) is same = same
  rooms_of_its_file (read_at room folder file at len) is same = same
  rooms_of_its_file (write_at room folder file at bytes) is same = same
  rooms_of_its_file (cut room folder file len) is same = same
  rooms_of_its_file (sync room folder file) is same = same
  rooms_of_its_file rooms is same = absurd (none is)
  rooms_of_its_file (find_room name) is same = absurd (none is)
  rooms_of_its_file (make_room name folders files) is same = absurd (none is)
  rooms_of_its_file (rename_room room to) is same = absurd (none is)
  rooms_of_its_file (make_folder room folder) is same = absurd (none is)
  rooms_of_its_file (remove_folder room folder) is same = absurd (none is)
  rooms_of_its_file (list_folder room folder) is same = absurd (none is)
  rooms_of_its_file (create room folder file) is same = absurd (none is)
  rooms_of_its_file (remove room folder file) is same = absurd (none is)
  rooms_of_its_file (replace room folder from to) is same = absurd (none is)

  -- and how it fails is said of its file
  pub fails_of_its_file : (step : Step) → file_of step ≡ Some its → (failure : Failure) → Fails old log later step failure
  fails_of_its_file (length_of room folder file) is failure = tt
  fails_of_its_file (read_at room folder file at len) is failure = tt
  fails_of_its_file (write_at room folder file at bytes) is failure = tt
  fails_of_its_file (cut room folder file len) is failure = tt
  fails_of_its_file (sync room folder file) is failure = tt
  fails_of_its_file rooms is failure = absurd (none is)
  fails_of_its_file (find_room name) is failure = absurd (none is)
  fails_of_its_file (make_room name folders files) is failure = absurd (none is)
  fails_of_its_file (rename_room room to) is failure = absurd (none is)
  fails_of_its_file (make_folder room folder) is failure = absurd (none is)
  fails_of_its_file (remove_folder room folder) is failure = absurd (none is)
  fails_of_its_file (list_folder room folder) is failure = absurd (none is)
  fails_of_its_file (create room folder file) is failure = absurd (none is)
  fails_of_its_file (remove room folder file) is failure = absurd (none is)
  fails_of_its_file (replace room folder from to) is failure = absurd (none is)

-- a file that was made by the texts of its paths was made by these paths
pub made_by_paths : {F : Type 0} (log later : Log F) (shown_room room shown_folder folder file : List ℕ) (end : Result Answer Failure) (held : Held F) → shown_room ≡ room → shown_folder ≡ folder → OpensMade log later shown_room shown_folder file end held → OpensMade log later room folder file end held
made_by_paths log later shown_room room shown_folder folder file end held is also made =
    let InRoom : List ℕ → Type 0 = λ path. OpensMade log later path shown_folder file end held in
    let InFolder : List ℕ → Type 0 = λ path. OpensMade log later room path file end held in
    subst InFolder also (subst InRoom is made)

module _ {C F : Type 0} (old new : Disk C F) (log later : Log F) (answer : Answer) (its : FileKey) where
  -- and how it is answered
  pub performs_of_its_file : (step : Step) → file_of step ≡ Some its → PerformsOnFile old new log later its step answer → Performs old new log later step answer
  performs_of_its_file (length_of room folder file) is performs =
      let same : its ≡ record { room = room; folder = folder; file = file } = cc in
      subst (λ (key : FileKey). PerformsOnFile old new log later key (length_of room folder file) answer) same performs
  performs_of_its_file (read_at room folder file at len) is performs =
      let same : its ≡ record { room = room; folder = folder; file = file } = cc in
      subst (λ (key : FileKey). PerformsOnFile old new log later key (read_at room folder file at len) answer) same performs
  performs_of_its_file (write_at room folder file at bytes) is performs =
      let same : its ≡ record { room = room; folder = folder; file = file } = cc in
      subst (λ (key : FileKey). PerformsOnFile old new log later key (write_at room folder file at bytes) answer) same performs
  performs_of_its_file (cut room folder file len) is performs =
      let same : its ≡ record { room = room; folder = folder; file = file } = cc in
      subst (λ (key : FileKey). PerformsOnFile old new log later key (cut room folder file len) answer) same performs
  performs_of_its_file (sync room folder file) is performs =
      let same : its ≡ record { room = room; folder = folder; file = file } = cc in
      subst (λ (key : FileKey). PerformsOnFile old new log later key (sync room folder file) answer) same performs
  performs_of_its_file rooms is performs = absurd (none is)
  performs_of_its_file (find_room name) is performs = absurd (none is)
  performs_of_its_file (make_room name folders files) is performs = absurd (none is)
  performs_of_its_file (rename_room room to) is performs = absurd (none is)
  performs_of_its_file (make_folder room folder) is performs = absurd (none is)
  performs_of_its_file (remove_folder room folder) is performs = absurd (none is)
  performs_of_its_file (list_folder room folder) is performs = absurd (none is)
  performs_of_its_file (create room folder file) is performs = absurd (none is)
  performs_of_its_file (remove room folder file) is performs = absurd (none is)
  performs_of_its_file (replace room folder from to) is performs = absurd (none is)

-- none of two names is the run's own once both were taken out
pub neither_own : (first second was now : Bool) → (first ≡ true → was ≡ false) → (second ≡ true → now ≡ false) → (now ≡ true → was ≡ true) → (first || second) ≡ true → now ≡ false
neither_own first second was false gone also only one = refl
neither_own true second was true gone also only one = sym (only refl) ∙ gone refl
neither_own false second was true gone also only one = also one

-- what was so of all but two names is so of another
pub others_stay : (first second was between now : Bool) → (first ≡ false → between ≡ was) → (second ≡ false → now ≡ between) → (first || second) ≡ false → now ≡ was
others_stay false false was between now one also is = also refl ∙ one refl
others_stay false true was between now one also is = cc
others_stay true second was between now one also is = cc

-- what isn't open isn't where another was taken out
pub stays_closed : {F : Type 0} (is_other : Bool) (before after : Option (Held F)) → after ≡ cond is_other None before → before ≡ None → after ≡ None
stays_closed true before after taken was = taken
stays_closed false before after taken was = taken ∙ was
