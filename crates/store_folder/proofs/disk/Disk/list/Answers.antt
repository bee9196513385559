use Rattle.std.proofs.Common.{◌≡◌, inl, List, ℕ, Ok, Err, refl, rules}
use Rattle.std.specs.Prelude.{string_bytes}
use Rattle.store_api.specs.declared.step.Answer.{Answer}
use Rattle.store_api.specs.declared.step.Answer.TheVariants.{NoRoom}
use Rattle.store_api.specs.Step.{list_folder}
use Rattle.folder_calls.specs.declared.failure.Failure.{Failure}
use Rattle.store_folder.specs.Failing.{FailsUncalled, IsNamedFolder, FailsToList}
use Rattle.store_folder.specs.Folders.{TellsFolder}
use Rattle.store_folder.specs.Paths.{room_path, folder_path}
use Rattle.store_folder.proofs.Ending.{ends_with, folder_told}
use Rattle.store_folder.proofs.Entering.{fails_by_paths}
use Rattle.store_folder.proofs.InRooms.{of_one, in_no_room, in_folder}
use Rattle.store_folder.proofs.disk.Disk.list.Goals as goal

pub returns-in_err-spot : goal.returns-in_err-spot
returns-in_err-spot g c =
    let failure = c.in_err-spot.field-0.0 in
    record {
      ends = ends_with g.C.Calls.log c.args.self.now _ (list_folder c.args.room c.args.folder.now) (Err failure) _ (search rules) (folder_told g.C.Calls.log c.args.self.now _ (Err failure) c.args.room c.args.folder.now ((refl, refl, refl), refl, refl) tt (inl ((λ named. c.in_err-spot.ensures.memory named.0 named.1), refl)));
    }

pub returns-in_default : goal.returns-in_default
returns-in_default g c = record {
  ends = folder_told g.C.Calls.log c.args.self.now _ (Ok NoRoom) c.args.room c.args.folder.now ((refl, refl, refl), refl, refl) (in_no_room c.args.self.now c.args.room c.args.folder.now (g.C.Calls.log c.args.self.now.calls) (g.C.Calls.log c.args.self.now.calls) (λ path. TellsFolder (g.C.Calls.log c.args.self.now.calls) (g.C.Calls.log c.args.self.now.calls) path (folder_path path c.args.folder.now) NoRoom) c.in_ok-spot.field-0 c.in_default.is c.in_ok-spot.ensures.there refl) tt;
}

pub returns : goal.returns
returns g c =
    let room = room_path c.args.self.now c.args.room in
    let folder = folder_path room c.args.folder.now in
    let start = g.C.Calls.log c.args.self.now.calls in
    let later = g.C.Calls.log c.list_in-answer.new.calls in
    let Tells : List ℕ → List ℕ → Answer → Type 0 = λ room folder answer. TellsFolder start later room folder answer in
    let Fails : List ℕ → List ℕ → Failure → Type 0 = λ room folder failure. FailsToList start later room folder failure in
    record {
      ends = folder_told g.C.Calls.log c.args.self.now _ c.list_in-answer.result c.args.room c.args.folder.now ((refl, refl, refl), refl, refl)
          (in_folder c.args.self.now c.args.room c.args.folder.now start later Tells c.list_in-answer.result c.in_ok-spot.field-0 c.in-Some.spot c.in-Some.is c.in_ok-spot.ensures.absent c.in_ok-spot.ensures.room c.in_ok-spot.ensures.folder c.list_in-answer.ensures.lists)
          (fails_by_paths c.list_in-answer.result (string_bytes c.in-Some.spot.room) room (string_bytes c.in-Some.spot.folder) folder (FailsUncalled start later (IsNamedFolder c.args.self.now c.args.room c.args.folder.now)) Fails (of_one c.in_ok-spot.field-0 c.in-Some.spot (λ spot. string_bytes spot.room ≡ room) c.in-Some.is c.in_ok-spot.ensures.room) (of_one c.in_ok-spot.field-0 c.in-Some.spot (λ spot. string_bytes spot.folder ≡ folder) c.in-Some.is c.in_ok-spot.ensures.folder) c.list_in-answer.ensures.fails);
    }
