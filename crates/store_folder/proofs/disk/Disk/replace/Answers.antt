use Rattle.std.proofs.Common.{◌≡◌, ◌∙◌, inl, List, ℕ, Ok, Err, ap, refl, rules}
use Rattle.std.specs.Map.{remove_entry}
use Rattle.std.specs.Prelude.{string_bytes}
use Rattle.store_api.specs.declared.step.Answer.{Answer}
use Rattle.store_api.specs.declared.step.Answer.TheVariants.{NoRoom}
use Rattle.store_api.specs.Step.{replace}
use Rattle.folder_calls.specs.declared.failure.Failure.{Failure}
use Rattle.folder_calls.specs.declared.failure.Failure.TheVariants.{Failed}
use Rattle.folder_calls.specs.Keys.{same_file, with_name}
use Rattle.store_folder.specs.Failing.{FailsUncalled, FailsToReplace}
use Rattle.store_folder.specs.Files.{ReplacesFile}
use Rattle.store_folder.specs.Paths.{room_path, folder_path, IsNameable}
use Rattle.store_folder.specs.Places.{IsNamed}
use Rattle.store_folder.proofs.Ending.{ends_with, file_replaced}
use Rattle.store_folder.proofs.Entering.{fails_or_not}
use Rattle.store_folder.proofs.InRooms.{of_one, in_no_room, in_folder}
use Rattle.store_folder.proofs.Staying.{both_stay, neither_own, others_stay, stays_closed}
use Rattle.store_folder.proofs.disk.Disk.replace.Goals as goal

pub returns-in_err-spot : goal.returns-in_err-spot
unfolding IsNamed
returns-in_err-spot g c =
    let from = c.args.from.now in
    let to = c.args.to.now in
    let target = with_name from to in
    let failure = c.in_err-spot.field-0.0 in
    record {
      ends = ends_with g.C.Calls.log c.args.self.now _ (replace from.room from.folder from.file to) (Err failure) _ (search rules)
          (file_replaced g.C.Calls.log c.args.self.now _ (Err failure) from.room from.folder from.file to (refl, refl, refl)
          (stays_closed _ _ _ (c.take-2.ensures.others from) c.take.ensures.gone, c.take-2.ensures.gone)
          tt
          (inl ((λ named. c.in_err-spot.ensures.memory named.0.0 named.0.1), refl))
          (c.take-2.ensures.rest ∙ ap (λ entries. remove_entry (same_file target) entries) c.take.ensures.rest)
          (λ other held there. both_stay other held from target _ _ _ (c.take.ensures.others other) (c.take-2.ensures.others other) there)
          (λ other its. c.remove.ensures.only other (c.remove-2.ensures.only other its))
          (λ other one. neither_own (same_file from other) (same_file target other) _ _ (c.remove.ensures.gone other) (c.remove-2.ensures.gone other) (c.remove-2.ensures.only other) one)
          (λ other neither. others_stay (same_file from other) (same_file target other) _ _ _ (c.remove.ensures.others other) (c.remove-2.ensures.others other) neither));
    }

pub returns-in_default : goal.returns-in_default
returns-in_default g c =
    let from = c.args.from.now in
    let to = c.args.to.now in
    let target = with_name from to in
    record {
      ends = file_replaced g.C.Calls.log c.args.self.now _ (Ok NoRoom) from.room from.folder from.file to (refl, refl, refl)
          (stays_closed _ _ _ (c.take-2.ensures.others from) c.take.ensures.gone, c.take-2.ensures.gone)
          (in_no_room c.args.self.now from.room from.folder (g.C.Calls.log c.args.self.now.calls) (g.C.Calls.log c.args.self.now.calls) (λ path. ReplacesFile (g.C.Calls.log c.args.self.now.calls) (g.C.Calls.log c.args.self.now.calls) path (folder_path path from.folder) from.file to NoRoom) c.in_ok-spot.field-0 c.in_default.is c.in_ok-spot.ensures.there refl)
          tt
          (c.take-2.ensures.rest ∙ ap (λ entries. remove_entry (same_file target) entries) c.take.ensures.rest)
          (λ other held there. both_stay other held from target _ _ _ (c.take.ensures.others other) (c.take-2.ensures.others other) there)
          (λ other its. c.remove.ensures.only other (c.remove-2.ensures.only other its))
          (λ other one. neither_own (same_file from other) (same_file target other) _ _ (c.remove.ensures.gone other) (c.remove-2.ensures.gone other) (c.remove-2.ensures.only other) one)
          (λ other neither. others_stay (same_file from other) (same_file target other) _ _ _ (c.remove.ensures.others other) (c.remove-2.ensures.others other) neither);
    }

pub returns : goal.returns
unfolding IsNamed
returns g c =
    let from = c.args.from.now in
    let to = c.args.to.now in
    let target = with_name from to in
    let room = room_path c.args.self.now from.room in
    let folder = folder_path room from.folder in
    let start = g.C.Calls.log c.args.self.now.calls in
    let later = g.C.Calls.log c.replace_in-answer.new.calls in
    let end = c.replace_in-answer.result in
    let in_it = of_one c.in_ok-spot.field-0 c.in-Some.spot (λ spot. string_bytes spot.room ≡ room) c.in-Some.is c.in_ok-spot.ensures.room in
    let of_it = of_one c.in_ok-spot.field-0 c.in-Some.spot (λ spot. string_bytes spot.folder ≡ folder) c.in-Some.is c.in_ok-spot.ensures.folder in
    let Tells : List ℕ → List ℕ → Answer → Type 0 = λ room folder answer. ReplacesFile start later room folder from.file to answer in
    let Fails : List ℕ → List ℕ → Failure → Type 0 = λ room folder failure. (failure ≡ Failed) × FailsToReplace start later room folder from.file to in
    let Fewer : Failure → Type 0 = λ failure. FailsUncalled start later (IsNameable from.file × IsNameable to) failure in
    let Uncalled : Failure → Type 0 = λ failure. FailsUncalled start later (IsNamed c.args.self.now from × IsNameable to) failure in
    record {
      ends = file_replaced g.C.Calls.log c.args.self.now _ end from.room from.folder from.file to (refl, refl, refl)
          (stays_closed _ _ _ (c.take-2.ensures.others from) c.take.ensures.gone, c.take-2.ensures.gone)
          (in_folder c.args.self.now from.room from.folder start later Tells end c.in_ok-spot.field-0 c.in-Some.spot c.in-Some.is c.in_ok-spot.ensures.absent c.in_ok-spot.ensures.room c.in_ok-spot.ensures.folder c.replace_in-answer.ensures.replaces)
          (fails_or_not end (string_bytes c.in-Some.spot.room) room (string_bytes c.in-Some.spot.folder) folder Fewer Uncalled Fails in_it of_it (λ failure none. ((λ named. none.0 (named.0.2, named.1)), none.1)) c.replace_in-answer.ensures.fails)
          (c.take-2.ensures.rest ∙ ap (λ entries. remove_entry (same_file target) entries) c.take.ensures.rest)
          (λ other held there. both_stay other held from target _ _ _ (c.take.ensures.others other) (c.take-2.ensures.others other) there)
          (λ other its. c.remove.ensures.only other (c.remove-2.ensures.only other its))
          (λ other one. neither_own (same_file from other) (same_file target other) _ _ (c.remove.ensures.gone other) (c.remove-2.ensures.gone other) (c.remove-2.ensures.only other) one)
          (λ other neither. others_stay (same_file from other) (same_file target other) _ _ _ (c.remove.ensures.others other) (c.remove-2.ensures.others other) neither);
    }
