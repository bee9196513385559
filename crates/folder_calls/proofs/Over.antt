-- A write that failed.
use Rattle.std.proofs.Common.{◌≡◌, ◌≤◌, ℕ, List, [], ◌∷◌, Result, Err, sym, subst}
use Rattle.store_api.specs.declared.step.Answer.{Answer}
use Rattle.folder_calls.specs.declared.failure.Failure.{Failure}
use Rattle.folder_calls.specs.declared.failure.Failure.TheVariants.{Failed}
use Rattle.folder_calls.specs.declared.held.Held.{Held}
use Rattle.folder_calls.specs.Calls.{Log, Makes, wrote_bytes}
use Rattle.folder_calls.specs.OpenFiles.{GoesOver, WritesOpen, not_done}

module _ {F : Type 0} (held : Held F) (log between later : Log F) (at : ℕ) (bytes : List ℕ) where
  -- its call failed, behind the look at what it goes over
  pub write_failed : (result : Result Answer Failure) (failure : Failure) → result ≡ Err failure → failure ≡ Failed → at ≤ held.len → GoesOver held at bytes log between → Makes (wrote_bytes held.file at bytes (Err failure) ∷ []) between later → WritesOpen held log later at bytes result
  write_failed result failure is failed within over made =
      let Writes : Result Answer Failure → Type 0 = λ result. WritesOpen held log later at bytes result in
      subst Writes (sym is) (within, not_done between failed over made)
