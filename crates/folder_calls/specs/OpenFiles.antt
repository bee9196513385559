-- What a step on an open file answers, and the calls that it makes.
use Rattle.std.specs.Prelude.{◌≡◌, ℕ, ◌+◌, ◌-◌, ◌^◌, ◌<◌, ◌≤◌, min, max, List, [], ◌∷◌, length, take, Bool, if◌then◌else◌, Result, Ok, Err}
use Rattle.store_api.specs.declared.step.Answer.{Answer}
use Rattle.store_api.specs.declared.step.Answer.TheVariants.{Made, Number, Bytes, Beyond}
use Rattle.store_api.specs.Step.{Step, length_of, read_at, write_at, cut, sync}
use Rattle.folder_calls.specs.declared.failure.Failure.{Failure}
use Rattle.folder_calls.specs.declared.failure.Failure.TheVariants.{Failed, NoMemory}
use Rattle.folder_calls.specs.declared.held.Held.{Held}
use Rattle.folder_calls.specs.Calls.{Log, Makes, measured_file, read_bytes, wrote_bytes, resized_file, synced_file}

-- how many bytes of earlier runs a file has that was found with this length: all, but where it is this run's own
abbrev pub met_of : Bool → ℕ → ℕ
met_of is_own len = if is_own then 0 else len

-- a file is held with the length that one call gave
abbrev pub IsHeld : {F : Type 0} → F → Bool → Log F → Log F → Result (Held F) Failure → Type 0
IsHeld file is_own log later (Ok held) = (held.file ≡ file) × (held.met ≡ met_of is_own held.len) × Makes (measured_file file (Ok held.len) ∷ []) log later
IsHeld file is_own log later (Err failure) = (failure ≡ Failed) × Makes (measured_file file (Err failure) ∷ []) log later

-- how many bytes a read gives: as many as are asked for, and none past the end
abbrev pub given_at : {F : Type 0} → Held F → ℕ → ℕ → ℕ
given_at held at len = min (held.len - at) len

-- a look at the bytes of a file failed: its one call did, or memory lacks, and no call was made
abbrev pub FailsToLook : {F : Type 0} → Held F → ℕ → ℕ → Log F → Log F → Failure → Type 0
FailsToLook held at len log later Failed = Makes (read_bytes held.file at len (Err Failed) ∷ []) log later
FailsToLook held at len log later NoMemory = later ≡ log

-- how many bytes of earlier runs a write of these bytes goes over
abbrev pub over_at : {F : Type 0} → Held F → ℕ → List ℕ → ℕ
over_at held at bytes = min (held.met - at) (length bytes)

module _ {F : Type 0} (held : Held F) (at : ℕ) (bytes : List ℕ) (log later : Log F) where
  -- the bytes of earlier runs that a write goes over were read, and they are the same; no call is made where there are none
  pub record GoesOver : Type 0 where
    pub none : over_at held at bytes ≡ 0 → later ≡ log
    pub same : 1 ≤ over_at held at bytes → Makes (read_bytes held.file at (over_at held at bytes) (Ok (take (over_at held at bytes) bytes)) ∷ []) log later

  -- a write that would go over bytes of earlier runs is not made: others are there, they can't be read, or memory lacks
  abbrev pub IsStopped : Failure → Type 0
  IsStopped Failed =
      (1 ≤ over_at held at bytes) × ((there : Result (List ℕ) Failure) × (¬ (there ≡ Ok (take (over_at held at bytes) bytes))) × Makes (read_bytes held.file at (over_at held at bytes) there ∷ []) log later)
  IsStopped NoMemory = (1 ≤ over_at held at bytes) × (later ≡ log)

module _ {F : Type 0} (held : Held F) (log later : Log F) where
  -- the length is known, and no call asks for it
  abbrev pub TellsLength : Result Answer Failure → Type 0
  TellsLength result = (result ≡ Ok (Number held.len)) × (later ≡ log)

  -- A read answers the bytes that its one call gave. None is asked for where none is left, or where memory lacks.
  pub record ReadsBytes (at len : ℕ) (bytes : List ℕ) : Type 0 where
    pub count : length bytes ≡ given_at held at len
    pub none : given_at held at len ≡ 0 → later ≡ log
    pub call : 1 ≤ given_at held at len → Makes (read_bytes held.file at (given_at held at len) (Ok bytes) ∷ []) log later

  abbrev pub ReadsOpen : ℕ → ℕ → Result Answer Failure → Type 0
  ReadsOpen at len (Ok (Bytes bytes)) = ReadsBytes at len bytes
  ReadsOpen at len (Ok other) = ⊥
  ReadsOpen at len (Err NoMemory) = later ≡ log
  ReadsOpen at len (Err Failed) = (1 ≤ given_at held at len) × Makes (read_bytes held.file at (given_at held at len) (Err Failed) ∷ []) log later

  -- a write that failed: it was not made, since it would change bytes of earlier runs, or its call failed
  pub data FailsToWrite (at : ℕ) (bytes : List ℕ) (failure : Failure) : Type 0 where
    not_made : IsStopped held at bytes log later failure → FailsToWrite at bytes failure
    not_done : (between : Log F) → failure ≡ Failed → GoesOver held at bytes log between → Makes (wrote_bytes held.file at bytes (Err failure) ∷ []) between later → FailsToWrite at bytes failure

  -- A write is one call with just these bytes at just this place, and none where the place is past the end. Bytes of
  -- earlier runs stay as they are: where it goes over some, they are read first, and are the same.
  abbrev pub WritesOpen : ℕ → List ℕ → Result Answer Failure → Type 0
  WritesOpen at bytes (Ok Beyond) = (held.len < at) × (later ≡ log)
  WritesOpen at bytes (Ok Made) = (at ≤ held.len) × ((between : Log F) × GoesOver held at bytes log between × Makes (wrote_bytes held.file at bytes (Ok tt) ∷ []) between later)
  WritesOpen at bytes (Ok other) = ⊥
  WritesOpen at bytes (Err failure) = (at ≤ held.len) × FailsToWrite at bytes failure

  -- A cut is one call with just this length, and none where the file is shorter.
  abbrev pub CutsOpen : ℕ → Result Answer Failure → Type 0
  CutsOpen len (Ok Beyond) = (held.len < len) × (later ≡ log)
  CutsOpen len (Ok Made) = (len ≤ held.len) × Makes (resized_file held.file len (Ok tt) ∷ []) log later
  CutsOpen len (Ok other) = ⊥
  CutsOpen len (Err failure) = (failure ≡ Failed) × (len ≤ held.len) × Makes (resized_file held.file len (Err failure) ∷ []) log later

  -- a sync is one call
  abbrev pub SyncsOpen : Result Answer Failure → Type 0
  SyncsOpen (Ok Made) = Makes (synced_file held.file (Ok tt) ∷ []) log later
  SyncsOpen (Ok other) = ⊥
  SyncsOpen (Err failure) = (failure ≡ Failed) × Makes (synced_file held.file (Err failure) ∷ []) log later

  -- one line for each step on an open file
  abbrev pub ActsOpen : Step → Result Answer Failure → Type 0
  ActsOpen (length_of room folder file) result = TellsLength result
  ActsOpen (read_at room folder file at len) result = ReadsOpen at len result
  ActsOpen (write_at room folder file at bytes) result = WritesOpen at bytes result
  ActsOpen (cut room folder file len) result = CutsOpen len result
  ActsOpen (sync room folder file) result = SyncsOpen result
  ActsOpen other result = (result ≡ Err Failed) × (later ≡ log)

-- the file after a write that was answered so: it is longer where the bytes end past its end
abbrev pub grown : {F : Type 0} → Held F → ℕ → List ℕ → Answer → Held F
grown held at bytes Made = record { file = held.file; len = max held.len (min (at + length bytes) (2 ^ 64 - 1)); met = held.met }
grown held at bytes other = held

-- the file after a cut that was answered so
abbrev pub cut_to : {F : Type 0} → Held F → ℕ → Answer → Held F
cut_to held len Made = record { file = held.file; len = len; met = min held.met len }
cut_to held len other = held

-- the file after a step that was answered so
abbrev pub held_after : {F : Type 0} → Held F → Step → Answer → Held F
held_after held (write_at room folder file at bytes) answer = grown held at bytes answer
held_after held (cut room folder file len) answer = cut_to held len answer
held_after held other answer = held
