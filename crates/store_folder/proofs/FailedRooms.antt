-- Rooms that could not be built.
use Rattle.std.proofs.Common.{◌≡◌, List, ℕ, [], ◌∷◌, Bool, Some, None, Result, Ok, Err, subst, ap, ◌∙◌}
use Rattle.std.specs.Prelude.{IfErr, OnErr}
use Rattle.folder_calls.specs.declared.failure.Failure.{Failure}
use Rattle.folder_calls.specs.declared.failure.Failure.TheVariants.{Failed}
use Rattle.folder_calls.specs.declared.reason.Kind.{Kind}
use Rattle.folder_calls.specs.Calls.{Log, Makes, with_call, created_file, synced_file, looked_at, made_folder, synced_folder, renamed_item}
use Rattle.store_folder.specs.FailedBuilding.{FailsToBuildFolder, not_synced, FailsToPutFile, no_file, FailsToBuildFile, not_put, FailsToFill, not_moved, FailsToBuildRoom, not_filled}
use Rattle.store_folder.specs.FailedClearing.{ClearsUp}
use Rattle.store_folder.specs.Files.{IsNoFile}
use Rattle.store_folder.specs.ForEach.{ForEach}
use Rattle.store_folder.specs.NewRooms.{BuildsFolder, BuildsFile, TakesPlace}
use Rattle.store_folder.specs.Paths.{item_of}

module _ {F : Type 0} (log between later : Log F) where
  -- a folder was made, and the sync of it failed
  pub folder_unsynced : (new name : List ℕ) (is_new : Bool) (result : Result (Unit {0}) Failure) → Makes (made_folder (item_of new name) (Ok is_new) ∷ []) log between → IfErr result (λ failure. failure ≡ Failed) → Makes (synced_folder (item_of new name) result ∷ []) between later → IfErr result (λ failure. FailsToBuildFolder new failure name log later)
  folder_unsynced new name is_new (Ok done) made failed syncs = tt
  folder_unsynced new name is_new (Err failure) made failed syncs =
      not_synced is_new failure failed (syncs ∙ ap (λ log. with_call log (synced_folder (item_of new name) (Err failure))) made)

  -- a file was made, and the sync of it failed
  pub file_unsynced : (path : List ℕ) (made : F) (result : Result (Unit {0}) Failure) → Makes (created_file path (Ok (Some made)) ∷ []) log between → Makes (synced_file made result ∷ []) between later → OnErr result (FailsToPutFile path log later)
  file_unsynced path made (Ok done) creates syncs = tt
  file_unsynced path made (Err failure) creates syncs = not_synced made failure (syncs ∙ ap (λ log. with_call log (synced_file made (Err failure))) creates)

  -- what stands in the place of a file is none
  pub file_in_the_way : (path : List ℕ) (result : Result (Unit {0}) Failure) → Makes (created_file path (Ok None) ∷ []) log between → OnErr result ((end : Result Kind Failure) × IsNoFile end × Makes (looked_at path end ∷ []) between later) → OnErr result (FailsToPutFile path log later)
  file_in_the_way path (Ok done) creates looks = tt
  file_in_the_way path (Err failure) creates (end, none, looks) = no_file end none (looks ∙ ap (λ log. with_call log (looked_at path end)) creates)

  -- a folder that was filled and synced was not moved
  pub folder_unmoved : (new path : List ℕ) (folders files : List (List ℕ)) (first filled : Log F) (result : Result (Unit {0}) Failure) → ForEach (BuildsFolder new) folders first filled → ForEach (BuildsFile new) files filled log → Makes (synced_folder new (Ok tt) ∷ []) log between → IfErr result (λ failure. failure ≡ Failed) → Makes (renamed_item new path result ∷ []) between later → IfErr result (FailsToFill new path folders files first later)
  folder_unmoved new path folders files first filled (Ok done) with_folders with_files syncs failed moves = tt
  folder_unmoved new path folders files first filled (Err failure) with_folders with_files syncs failed moves =
      not_moved filled log failure failed with_folders with_files (moves ∙ ap (λ log. with_call log (renamed_item new path (Err failure))) syncs)

module _ {F : Type 0} (log later : Log F) where
  -- a file was not put there by the text of its path
  pub file_unbuilt : {A : Type 0} (new name shown : List ℕ) (result : Result A Failure) → shown ≡ item_of new name → IfErr result (λ failure. failure ≡ Failed) → OnErr result (FailsToPutFile shown log later) → IfErr result (λ failure. FailsToBuildFile new failure name log later)
  file_unbuilt new name shown (Ok value) is failed fails = tt
  file_unbuilt new name shown (Err failure) is failed fails =
      let At : List ℕ → Type 0 = λ path. FailsToPutFile path log later in
      not_put failed (subst At is fails)

  -- a room was not built by the texts of the paths
  pub room_unbuilt : (root path shown_root shown_path : List ℕ) (folders files : List (List ℕ)) (failure : Failure) → shown_root ≡ root → shown_path ≡ path → FailsToBuildRoom shown_root shown_path folders files log later failure → FailsToBuildRoom root path folders files log later failure
  room_unbuilt root path shown_root shown_path folders files failure is_root is_path fails =
      let In : List ℕ → Type 0 = λ text. FailsToBuildRoom text shown_path folders files log later failure in
      let At : List ℕ → Type 0 = λ text. FailsToBuildRoom root text folders files log later failure in
      subst At is_path (subst In is_root fails)

  -- what was built in a place and failed was cleared, by the texts of its path
  pub room_unfilled : (root path new shown again : List ℕ) (folders files : List (List ℕ)) (found troubled : Log F) (failure : Failure) → shown ≡ new → again ≡ new → TakesPlace root new log found → FailsToFill shown path folders files found troubled failure → ClearsUp again troubled later → FailsToBuildRoom root path folders files log later failure
  room_unfilled root path new shown again folders files found troubled failure is is_again takes fails clears =
      let Fills : List ℕ → Type 0 = λ text. FailsToFill text path folders files found troubled failure in
      let Clears : List ℕ → Type 0 = λ text. ClearsUp text troubled later in
      not_filled new found troubled takes (subst Fills is fails) (subst Clears is_again clears)
