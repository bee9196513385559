-- Steps on files that are open.
use Rattle.std.proofs.Common.{◌≡◌, ◌⊎◌, ◌<◌, inl, inr, true, false, length, Option, Some, Result, Ok, Err, arith, refl, sym, subst, ◌∙◌}
use Rattle.std.specs.Prelude.{IfSome}
use Rattle.store_api.specs.declared.step.Answer.{Answer}
use Rattle.store_api.specs.Step.{Step}
use Rattle.folder_calls.specs.Acted.{ActsHeld}
use Rattle.folder_calls.specs.declared.cache.FileKey.{FileKey}
use Rattle.folder_calls.specs.declared.cache.OpenFiles.{OpenFiles}
use Rattle.folder_calls.specs.declared.failure.Failure.{Failure}
use Rattle.folder_calls.specs.declared.held.Held.{Held}
use Rattle.folder_calls.specs.declared.own.OwnFiles.{OwnFiles}
use Rattle.folder_calls.specs.Calls.{Log}
use Rattle.folder_calls.specs.Keys.{same_file}
use Rattle.folder_calls.specs.Opened.{held_at}
use Rattle.folder_calls.specs.Own.{is_own}
use Rattle.store_folder.specs.declared.disk.Disk.{Disk}
use Rattle.store_folder.specs.declared.files.Found.TheVariants.{There}
use Rattle.store_folder.specs.Leaving.{LeavesActed, OpensActed, EndsAmongRooms}
use Rattle.store_folder.specs.Paths.{room_path, folder_path}
use Rattle.store_folder.specs.Places.{FindsFile, ActsAt, IsNamed, file_of}
use Rattle.store_folder.specs.Rooms.{HasRooms}
use Rattle.store_folder.proofs.Ending.{file_acted}

-- the folder with these calls, these open files and these files of its own
abbrev pub among : {C F : Type 0} → Disk C F → C → OpenFiles F → OwnFiles → Disk C F
among disk calls open_files own = record { calls = calls; alloc = disk.alloc; root = disk.root; rooms = disk.rooms; is_numbered = disk.is_numbered; «open» = open_files; own = own }

module _ {C F : Type 0} (log : C → Log F) (old new : Disk C F) (key : FileKey) (step : Step) where
  module _ (held : Held F) (is : held_at old.open key ≡ Some held) where
    -- a file that is open is found with no call
    finds : FindsFile (held_at old.open key) (is_own old.own key) (log old.calls) (log old.calls) (room_path old key.room) (folder_path (room_path old key.room) key.folder) key.file (There held)
    finds =
        let Finds : Option (Held F) → Type 0 = λ place. FindsFile place (is_own old.own key) (log old.calls) (log old.calls) (room_path old key.room) (folder_path (room_path old key.room) key.folder) key.file (There held) in
        subst Finds (sym is) (refl, refl)

    -- and its length is the one that it is held with
    empty : IfSome (held_at old.open key) (λ one. one.len ≡ 0) → held.len ≡ 0
    empty none = subst (λ (place : Option (Held F)). IfSome place (λ one. one.len ≡ 0)) is none

  -- the file of this key is open as its step left it
  opens : (end : Result Answer Failure) (other : FileKey) (one : Held F) → ActsHeld old.open new.open key (log old.calls) (log new.calls) step end → same_file key other ≡ true → held_at new.open other ≡ Some one → OpensActed old (log old.calls) (log new.calls) key step end one
  opens (Ok answer) other one acted same there = (acted.held, log old.calls, finds acted.held acted.was_open, acted.acts, acted.its other one same there)
  opens (Err failure) other one acted same there = acted.its other one same there

  -- A step on an open file ends as its calls do. It stays open as the step left it, or is closed.
  pub held_acted : (end : Result Answer Failure) → file_of step ≡ Some key → HasRooms old new → key.room < length old.rooms.items → ActsHeld old.open new.open key (log old.calls) (log new.calls) step end → ((other : FileKey) → is_own new.own other ≡ true → (is_own old.own other ≡ true) ⊎ ((same_file key other ≡ true) × IfSome (held_at old.open key) (λ held. held.len ≡ 0))) → ((other : FileKey) → is_own old.own other ≡ true → is_own new.own other ≡ true) → EndsAmongRooms log old new step end
  held_acted end its has within acted only lasts =
      let room = room_path old key.room in
      let Acts : Option (Held F) → Type 0 = λ place. ActsAt place (is_own old.own key) (log old.calls) (log new.calls) (IsNamed old key) room (folder_path room key.folder) key.file step end in
      file_acted log old new end key step its has
      (λ past. absurd (omega arith))
      (λ there. subst Acts (sym acted.was_open) acted.acts)
      acted.closed
      (λ other one there. (elim (same_file key other) as (λ y. same_file key other ≡ y → LeavesActed old (log old.calls) (log new.calls) key step end other one) [
        | true ↦ λ t. inr (t, opens end other one acted t there)
        | false ↦ λ t. inl (t, sym (acted.others other t) ∙ there)
      ]) refl)
      (λ other own. elim (only other own) [
        | inl was ↦ inl was
        | inr its_own ↦ inr (its_own.0, (acted.held, log old.calls, finds acted.held acted.was_open, empty acted.held acted.was_open its_own.1))
      ])
      lasts

-- where no file of this key is open, and nothing was done, a step ends as it does from there
pub as_it_was : {C F : Type 0} (log : C → Log F) (old new : Disk C F) (calls : C) (open_files : OpenFiles F) (own : OwnFiles) (step : Step) (end : Result Answer Failure) → open_files ≡ old.open → calls ≡ old.calls → own ≡ old.own → EndsAmongRooms log (among old calls open_files own) new step end → EndsAmongRooms log old new step end
as_it_was {C = C} {F = F} log old new calls open_files own step end same_open same_calls same_own ends =
    let Ends : Disk C F → Type 0 = λ disk. EndsAmongRooms log disk new step end in
    let first : EndsAmongRooms log (among old old.calls open_files own) new step end = subst (λ (calls : C). Ends (among old calls open_files own)) same_calls ends in
    let second : EndsAmongRooms log (among old old.calls old.open own) new step end = subst (λ (files : OpenFiles F). Ends (among old old.calls files own)) same_open first in
    subst (λ (files : OwnFiles). Ends (among old old.calls old.open files)) same_own second
