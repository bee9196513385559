-- The calls of the system, and the log of them.
use Rattle.std.specs.Prelude.{◌≡◌, ℕ, List, [], ◌∷◌, ◌++◌, Bool, Option, Some, None, Result, Ok, Err, is_err, count_by, fold}
use Rattle.folder_calls.specs.declared.failure.Failure.{Failure}
use Rattle.folder_calls.specs.declared.reason.Kind.{Kind}
use Rattle.folder_calls.specs.declared.calls.Removal.{Removal}

-- a call: its arguments and how it ended, at a read with the bytes that it gave
pub data Call (F : Type 0) : Type 0 where
  looked_at : List ℕ → Result Kind Failure → Call F
  listed_folder : List ℕ → Result (List (List ℕ)) Failure → Call F
  opened_file : List ℕ → Result (Option F) Failure → Call F
  created_file : List ℕ → Result (Option F) Failure → Call F
  measured_file : F → Result ℕ Failure → Call F
  read_bytes : F → ℕ → ℕ → Result (List ℕ) Failure → Call F
  wrote_bytes : F → ℕ → List ℕ → Result (Unit {0}) Failure → Call F
  resized_file : F → ℕ → Result (Unit {0}) Failure → Call F
  synced_file : F → Result (Unit {0}) Failure → Call F
  made_folder : List ℕ → Result Bool Failure → Call F
  synced_folder : List ℕ → Result (Unit {0}) Failure → Call F
  removed_file : List ℕ → Result Bool Failure → Call F
  removed_folder : List ℕ → Result Removal Failure → Call F
  renamed_item : List ℕ → List ℕ → Result (Unit {0}) Failure → Call F

-- the calls made so far, where they are told
abbrev pub Log : Type 0 → Type 0
Log F = Option (List (Call F))

-- whether a call failed
abbrev pub has_failed : {F : Type 0} → Call F → Bool
has_failed (looked_at path end) = is_err end
has_failed (listed_folder path end) = is_err end
has_failed (opened_file path end) = is_err end
has_failed (created_file path end) = is_err end
has_failed (measured_file file end) = is_err end
has_failed (read_bytes file at len end) = is_err end
has_failed (wrote_bytes file at bytes end) = is_err end
has_failed (resized_file file len end) = is_err end
has_failed (synced_file file end) = is_err end
has_failed (made_folder path end) = is_err end
has_failed (synced_folder path end) = is_err end
has_failed (removed_file path end) = is_err end
has_failed (removed_folder path end) = is_err end
has_failed (renamed_item from to end) = is_err end

-- how many calls of a told log failed
unfoldable pub failed_calls : {F : Type 0} → Log F → ℕ
failed_calls None = 0
failed_calls (Some log) = count_by has_failed log

-- a told log with this call at its end, and one that isn't told as it is
unfoldable pub with_call : {F : Type 0} → Log F → Call F → Log F
with_call None call = None
with_call (Some log) call = Some (log ++ call ∷ [])

-- a told log grows by these calls, and one that isn't told stays untold
abbrev pub Makes : {F : Type 0} → List (Call F) → Log F → Log F → Type 0
Makes calls log later = later ≡ fold with_call log calls

-- how a read ended that left these bytes in its buffer
abbrev pub giving : List ℕ → Result (Unit {0}) Failure → Result (List ℕ) Failure
giving bytes (Ok done) = Ok bytes
giving bytes (Err failure) = Err failure
