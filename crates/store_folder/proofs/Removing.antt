-- The folder that was to be removed, by its name: at the top that is empty.
use Rattle.std.proofs.Common.{◌≡◌, ◌==◌, ℕ, List, [], ◌∷◌, length, Bool, true, false, subst, sym, ◌∙◌, rules}
use Rattle.std.proofs.lemmas.Bool.{false≢true}
use Rattle.store_api.specs.declared.step.Answer.{Answer}
use Rattle.folder_calls.specs.declared.failure.Failure.{Failure}
use Rattle.folder_calls.specs.Calls.{Log}
use Rattle.store_folder.specs.Failing.{FailsToRemoveTop, FailsToRemoveItem, FailsToRemoveSpot, FailsToRemoveFolder}
use Rattle.store_folder.specs.Folders.{RemovesTop, RemovesItem, RemovesSpot, RemovesFolder}
use Rattle.store_folder.specs.Paths.{folder_path}

-- a name with a byte isn't empty
not_empty : (byte : ℕ) (rest : List ℕ) → (length (byte ∷ rest) == 0) ≡ false
not_empty byte rest = search rules

module _ {F : Type 0} (log later : Log F) (shown_room room : List ℕ) (is_room : shown_room ≡ room) where
  pub spot_told : (folder shown : List ℕ) (is_top : Bool) (answer : Answer) → is_top ≡ (length folder == 0) → shown ≡ folder_path room folder → RemovesSpot log later is_top shown_room shown answer → RemovesFolder log later room folder answer
  spot_told [] shown true answer is path told =
      let At : List ℕ → Type 0 = λ text. RemovesTop log later text answer in
      subst At is_room told
  spot_told [] shown false answer is path told = absurd (false≢true is)
  spot_told (byte ∷ rest) shown true answer is path told = absurd (false≢true (sym (is ∙ not_empty byte rest)))
  spot_told (byte ∷ rest) shown false answer is path told =
      let In : List ℕ → Type 0 = λ text. RemovesItem log later text shown answer in
      let At : List ℕ → Type 0 = λ text. RemovesItem log later room text answer in
      subst At path (subst In is_room told)

  pub spot_failed : (folder shown : List ℕ) (is_top : Bool) (failure : Failure) → is_top ≡ (length folder == 0) → shown ≡ folder_path room folder → FailsToRemoveSpot log later is_top shown_room shown failure → FailsToRemoveFolder log later room folder failure
  spot_failed [] shown true failure is path fails =
      let At : List ℕ → Type 0 = λ text. FailsToRemoveTop log later text failure in
      subst At is_room fails
  spot_failed [] shown false failure is path fails = absurd (false≢true is)
  spot_failed (byte ∷ rest) shown true failure is path fails = absurd (false≢true (sym (is ∙ not_empty byte rest)))
  spot_failed (byte ∷ rest) shown false failure is path fails =
      let In : List ℕ → Type 0 = λ text. FailsToRemoveItem log later text shown failure in
      let At : List ℕ → Type 0 = λ text. FailsToRemoveItem log later room text failure in
      subst At path (subst In is_room fails)
