-- Steps on files that are open, or are opened for the step.
use Rattle.std.proofs.Common.{◌≡◌, ◌⊎◌, ◌≤◌, ◌<◌, ℕ, inl, inr, Bool, true, List, length, Option, Some, None, Result, Ok, Err, refl, subst, sym, rules}
use Rattle.std.proofs.lemmas.Bool.{cases_lt}
use Rattle.std.specs.Prelude.{IfSome}
use Rattle.store_api.specs.declared.step.Answer.{Answer}
use Rattle.store_api.specs.Step.{Step}
use Rattle.folder_calls.specs.declared.failure.Failure.{Failure}
use Rattle.store_folder.specs.declared.files.Found.{Found}
use Rattle.store_folder.specs.declared.files.Found.TheVariants.{There, Not}
use Rattle.folder_calls.specs.declared.cache.FileKey.{FileKey}
use Rattle.folder_calls.specs.declared.held.Held.{Held}
use Rattle.folder_calls.specs.Keys.{same_file}
use Rattle.folder_calls.specs.Opened.{held_at}
use Rattle.folder_calls.specs.Own.{is_own as is_own_file}
use Rattle.folder_calls.specs.Calls.{Log}
use Rattle.store_folder.specs.Files.{FailsToOpen}
use Rattle.folder_calls.specs.OpenFiles.{ActsOpen}
use Rattle.store_folder.specs.declared.disk.Disk.{Disk}
use Rattle.store_folder.specs.Paths.{room_path, folder_path}
use Rattle.store_folder.specs.Places.{FindsFile, ActsAt, BecomesOwn, once_opened, not_there, unopened}

module _ {F : Type 0} (is_own : Bool) (log between later : Log F) (named : Type 0) (room folder file : List ℕ) (step : Step) where
  -- the calls on a file follow those that open it
  pub acts_found : (result : Result Answer Failure) (place : Option (Held F)) (held : Held F) → FindsFile place is_own log between room folder file (There held) → ActsOpen held between later step result → ActsAt place is_own log later named room folder file step result
  acts_found result (Some open_one) held (same, no_call) acts =
      let one : held ≡ open_one = search (rules, same) in
      let Acts : Held F → Type 0 = λ one. ActsOpen one log later step result in
      let ActsFrom : Log F → Type 0 = λ start. ActsOpen held start later step result in
      subst Acts one (subst ActsFrom no_call acts)
  acts_found result None held opens acts = once_opened held between opens acts

  -- a file that isn't there is answered so
  pub acts_missing : (answer : Answer) (place : Option (Held F)) → FindsFile place is_own log later room folder file (Not answer) → ActsAt place is_own log later named room folder file step (Ok answer)
  acts_missing answer (Some open_one) (same, no_call) = search (rules, same)
  acts_missing answer None opens = not_there answer refl opens

  -- one that can't be opened was not open
  pub acts_failed : (failure : Failure) (place : Option (Held F)) → IfSome place (λ held. (◌≡◌ {A = Result (Found F) Failure} (Err failure) (Ok (There held))) × (between ≡ log)) → FailsToOpen log later named room folder file failure → ActsAt place is_own log later named room folder file step (Err failure)
  acts_failed failure (Some open_one) (same, no_call) fails = search (rules, same)
  acts_failed failure None was_open fails = unopened failure refl fails

module _ {C F : Type 0} (disk : Disk C F) (key : FileKey) (log between : Log F) where
  -- the file that was found with no bytes is this run's own
  pub becomes_own : (held : Held F) (other : FileKey) (was : Type 0) → (length disk.rooms.items ≤ key.room → ⊥) → (key.room < length disk.rooms.items → FindsFile (held_at disk.open key) (is_own_file disk.own key) log between (room_path disk key.room) (folder_path (room_path disk key.room) key.folder) key.file (There held)) → was ⊎ ((same_file key other ≡ true) × (held.len ≡ 0)) → was ⊎ BecomesOwn disk (Some key) other log
  becomes_own held other was no_room finds (inl is) = inl is
  becomes_own held other was no_room finds (inr (same, empty)) = elim (cases_lt key.room (length disk.rooms.items)) [
    | inl within ↦ inr (same, (held, between, finds within, empty))
    | inr past ↦ absurd (no_room past)
  ]

  -- what is said of the file of a step is said of the step
  pub of_its_step : (file : Option FileKey) (other : FileKey) (was : Type 0) → file ≡ Some key → was ⊎ BecomesOwn disk (Some key) other log → was ⊎ BecomesOwn disk file other log
  of_its_step file other was is owns =
      let Owns : Option FileKey → Type 0 = λ file. was ⊎ BecomesOwn disk file other log in
      subst Owns (sym is) owns
