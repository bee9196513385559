-- How what was left of a room is cleared.
use Rattle.std.proofs.Common.{◌≡◌, ℕ, ◌+◌, List, [], ◌∷◌, Bool, true, false, inl, inr, Result, Ok, Err, subst, sym, add-one}
use Rattle.std.specs.Prelude.{IfOk, IfErr, OnErr}
use Rattle.folder_calls.specs.declared.failure.Failure.{Failure}
use Rattle.folder_calls.specs.declared.failure.Failure.TheVariants.{Failed}
use Rattle.folder_calls.specs.declared.reason.Kind.TheVariants.{Folder}
use Rattle.folder_calls.specs.Calls.{Log, Makes, looked_at, made_folder}
use Rattle.store_folder.specs.FailedClearing.{FailsToRemoveLeftover, FailsToClearItem, not_cleared, FailsToEmpty, FailsToClear, not_emptied, ClearsUp, FailsToTry, not_made_again}
use Rattle.store_folder.specs.Leftovers.{Empties, Clears, emptied, Tries, after_clearing, PassesBy}
use Rattle.store_folder.specs.Paths.{item_of, building_path}

module _ {F : Type 0} (path : List ℕ) (log between later : Log F) where
  -- a folder is emptied after the look at it
  pub clears : (result : Result Bool Failure) → Makes (looked_at path (Ok Folder) ∷ []) log between → IfOk result (Empties path between later) → IfOk result (Clears path log later)
  clears (Ok is_gone) looks empties = emptied between looks empties
  clears (Err failure) looks empties = tt

  -- a folder is made after the place was cleared
  pub tries : (cleared : Log F) (result : Result Bool Failure) → Makes (made_folder path (Ok false) ∷ []) log between → Clears path between cleared true → Makes (made_folder path result ∷ []) cleared later → IfOk result (Tries path log later)
  tries cleared (Ok is_made) taken clears made = after_clearing between cleared taken clears made
  tries cleared (Err failure) taken clears made = tt

  -- or that failed in turn
  pub tries_in_vain : (cleared : Log F) (result : Result Bool Failure) → IfErr result (λ failure. failure ≡ Failed) → Makes (made_folder path (Ok false) ∷ []) log between → Clears path between cleared true → Makes (made_folder path result ∷ []) cleared later → IfErr result (FailsToTry path log later)
  tries_in_vain cleared (Ok is_made) failed taken clears made = tt
  tries_in_vain cleared (Err failure) failed taken clears made = not_made_again failure between cleared failed taken clears made

  -- a folder could not be emptied after the look at it
  pub clears_in_vain : (result : Result Bool Failure) → Makes (looked_at path (Ok Folder) ∷ []) log between → IfErr result (FailsToEmpty path between later) → IfErr result (FailsToClear path log later)
  clears_in_vain (Ok is_gone) looks fails = tt
  clears_in_vain (Err failure) looks fails = not_emptied between looks fails

-- one place more that isn't free
pub passes_more : {F : Type 0} (root : List ℕ) (k : ℕ) (log between later : Log F) → PassesBy root k log between → Tries (building_path root k) between later false → PassesBy root (k + 1) log later
passes_more root k log between later before tried =
    let Passes : ℕ → Type 0 = λ n. PassesBy root n log later in
    subst Passes (sym (add-one k)) (between, before, tried)

module _ {F : Type 0} (log later : Log F) where
  -- what was asked for a clearing cleared, or failed to
  pub clears_up : (path : List ℕ) (result : Result Bool Failure) → IfOk result (Clears path log later) → IfErr result (FailsToClear path log later) → ClearsUp path log later
  clears_up path (Ok is_gone) clears fails = inl (is_gone, clears)
  clears_up path (Err failure) clears fails = inr (failure, fails)

  -- an item could not be cleared by the text of its path
  pub item_stays : {A : Type 0} (folder name shown : List ℕ) (result : Result A Failure) → shown ≡ item_of folder name → IfErr result (λ failure. failure ≡ Failed) → OnErr result (FailsToRemoveLeftover shown log later) → IfErr result (λ failure. FailsToClearItem folder failure name log later)
  item_stays folder name shown (Ok value) is failed fails = tt
  item_stays folder name shown (Err failure) is failed fails =
      let At : List ℕ → Type 0 = λ path. FailsToRemoveLeftover path log later in
      not_cleared failed (subst At is fails)
