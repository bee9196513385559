use Rattle.std.proofs.Common.{◌≡◌, ◌∙◌, inl, inr, List, ℕ, Ok, Err, ap, refl, rules}
use Rattle.std.specs.Prelude.{string_bytes}
use Rattle.store_api.specs.declared.step.Answer.{Answer}
use Rattle.store_api.specs.declared.step.Answer.TheVariants.{NoRoom}
use Rattle.store_api.specs.Step.{create}
use Rattle.folder_calls.specs.declared.cache.OpenFiles.{OpenFiles}
use Rattle.folder_calls.specs.declared.failure.Failure.{Failure}
use Rattle.folder_calls.specs.declared.failure.Failure.TheVariants.{Failed}
use Rattle.store_folder.specs.Failing.{FailsUncalled, FailsToCreate}
use Rattle.store_folder.specs.Files.{CreatesFile}
use Rattle.store_folder.specs.Paths.{room_path, folder_path}
use Rattle.store_folder.specs.Places.{IsNamed}
use Rattle.store_folder.proofs.Ending.{ends_with, file_created}
use Rattle.store_folder.proofs.Entering.{on_err_map, with_failed, fails_by_paths}
use Rattle.store_folder.proofs.InRooms.{of_one, in_no_room, in_folder}
use Rattle.store_folder.proofs.Staying.{stays, made_by_paths}
use Rattle.store_folder.proofs.disk.Disk.create.Goals as goal

pub returns-in_err-spot : goal.returns-in_err-spot
unfolding IsNamed
returns-in_err-spot g c =
    let key = c.args.key.now in
    let failure = c.in_err-spot.field-0.0 in
    record {
      ends = ends_with g.C.Calls.log c.args.self.now _ (create key.room key.folder key.file) (Err failure) _ (search rules) (file_created g.C.Calls.log c.args.self.now _ (Err failure) key.room key.folder key.file (refl, refl, refl) refl tt (inl ((λ named. c.in_err-spot.ensures.memory named.0 named.1), refl)) c.take.ensures.rest (λ other held there. inl (stays other held key _ _ (c.take.ensures.others other) there)));
    }

pub returns-in_default : goal.returns-in_default
returns-in_default g c =
    let key = c.args.key.now in
    record {
      ends = file_created g.C.Calls.log c.args.self.now _ (Ok NoRoom) key.room key.folder key.file (refl, refl, refl) refl (in_no_room c.args.self.now key.room key.folder (g.C.Calls.log c.args.self.now.calls) (g.C.Calls.log c.args.self.now.calls) (λ path. CreatesFile (g.C.Calls.log c.args.self.now.calls) (g.C.Calls.log c.args.self.now.calls) path (folder_path path key.folder) key.file NoRoom) c.in_ok-spot.field-0 c.in_default.is c.in_ok-spot.ensures.there refl) tt tt (λ other held there. inl (stays other held key _ _ (c.take.ensures.others other) there));
    }

pub returns-in_err-path : goal.returns-in_err-path
unfolding IsNamed
returns-in_err-path g c =
    let key = c.args.key.now in
    let failure = c.in_err-path.field-0.0 in
    record {
      ends = ends_with g.C.Calls.log c.args.self.now _ (create key.room key.folder key.file) (Err failure) _ (search rules) (file_created g.C.Calls.log c.args.self.now _ (Err failure) key.room key.folder key.file (refl, refl, refl) refl tt (inl ((λ named. c.in_err-path.ensures.memory named.2), refl)) c.take.ensures.rest (λ other held there. inl (stays other held key _ _ (c.take.ensures.others other) there)));
    }

pub returns : goal.returns
returns g c =
    let key = c.args.key.now in
    let room = room_path c.args.self.now key.room in
    let folder = folder_path room key.folder in
    let start = g.C.Calls.log c.args.self.now.calls in
    let later = g.C.Calls.log c.create_in-answer.new.calls in
    let end = c.create_in-answer.result in
    let in_it = of_one c.in_ok-spot.field-0 c.in-Some.spot (λ spot. string_bytes spot.room ≡ room) c.in-Some.is c.in_ok-spot.ensures.room in
    let of_it = of_one c.in_ok-spot.field-0 c.in-Some.spot (λ spot. string_bytes spot.folder ≡ folder) c.in-Some.is c.in_ok-spot.ensures.folder in
    let Tells : List ℕ → List ℕ → Answer → Type 0 = λ room folder answer. CreatesFile start later room folder key.file answer in
    let Fails : List ℕ → List ℕ → Failure → Type 0 = λ room folder failure. (failure ≡ Failed) × FailsToCreate start later room folder key.file in
    record {
      ends = file_created g.C.Calls.log c.args.self.now _ end key.room key.folder key.file (refl, refl, refl) refl
          (in_folder c.args.self.now key.room key.folder start later Tells end c.in_ok-spot.field-0 c.in-Some.spot c.in-Some.is c.in_ok-spot.ensures.absent c.in_ok-spot.ensures.room c.in_ok-spot.ensures.folder c.create_in-answer.ensures.creates)
          (fails_by_paths end (string_bytes c.in-Some.spot.room) room (string_bytes c.in-Some.spot.folder) folder (FailsUncalled start later (IsNamed c.args.self.now key)) Fails in_it of_it (with_failed end _ _ c.create_in-answer.ensures.failed c.create_in-answer.ensures.fails))
          (on_err_map end _ _ (λ same. ap (λ (files : OpenFiles g.row.F.Denot). files.files.entries) same ∙ c.take.ensures.rest) c.create_in-answer.ensures.open)
          (λ other held there. elim (c.create_in-answer.ensures.opened other held there) [
            | inl was ↦ inl (stays other held key _ _ (c.take.ensures.others other) was)
            | inr made ↦ inr (made.0, made_by_paths _ _ (string_bytes c.in-Some.spot.room) room (string_bytes c.in-Some.spot.folder) folder key.file _ held in_it of_it made.1)
          ]);
    }
