-- How a step on an open file ended, and which files it leaves open.
use Rattle.std.specs.Prelude.{◌≡◌, true, false, Some, Result, IsOkAnd, IfOk, OnErr}
use Rattle.std.specs.Map.{remove_entry, set_value}
use Rattle.store_api.specs.declared.step.Answer.{Answer}
use Rattle.store_api.specs.Step.{Step}
use Rattle.lru.specs.LruCache.{lru_cache, promoted}
use Rattle.folder_calls.specs.declared.cache.FileKey.{FileKey}
use Rattle.folder_calls.specs.declared.cache.OpenFiles.{OpenFiles}
use Rattle.folder_calls.specs.declared.failure.Failure.{Failure}
use Rattle.folder_calls.specs.declared.held.Held.{Held}
use Rattle.folder_calls.specs.Calls.{Log}
use Rattle.folder_calls.specs.Keys.{same_file}
use Rattle.folder_calls.specs.OpenFiles.{ActsOpen, held_after}
use Rattle.folder_calls.specs.Opened.{held_at}

module _ {F : Type 0} (old new : OpenFiles F) (key : FileKey) where
  -- the file of this key is as it is given, and is the one that was used last, with all others as they were
  abbrev pub IsUsedLast : Held F → Type 0
  IsUsedLast held = new.files ≡ lru_cache (set_value (same_file key) (promoted (same_file key) old.files.entries) held) old.files.cap

  -- A step was made on the file of this key, which was open. It stays open as the step left it, or is closed where the
  -- step failed. All others stay as they were.
  pub record ActsHeld (log later : Log F) (step : Step) (end : Result Answer Failure) : Type 0 where
    pub held : Held F
    pub was_open : held_at old key ≡ Some held
    pub acts : ActsOpen held log later step end
    pub kept : IfOk end (λ answer. IsUsedLast (held_after held step answer))
    pub closed : OnErr end (new.files.entries ≡ remove_entry (same_file key) old.files.entries)
    pub its : (other : FileKey) (one : Held F) → same_file key other ≡ true → held_at new other ≡ Some one → IsOkAnd end (λ answer. one ≡ held_after held step answer)
    pub others : (other : FileKey) → same_file key other ≡ false → held_at new other ≡ held_at old other
