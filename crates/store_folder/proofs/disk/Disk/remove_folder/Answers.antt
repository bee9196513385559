use Rattle.std.proofs.Common.{◌≡◌, ◌==◌, inl, inr, length, Ok, Err, refl, rules}
use Rattle.std.specs.Prelude.{string_bytes}
use Rattle.store_api.specs.declared.step.Answer.{Answer}
use Rattle.store_api.specs.declared.step.Answer.TheVariants.{NoRoom}
use Rattle.store_api.specs.Step.{remove_folder}
use Rattle.store_folder.specs.Rooms.{InRoom}
use Rattle.store_folder.specs.Failing.{FailsToRemoveSpot, Fails}
use Rattle.store_folder.specs.Folders.{RemovesSpot, RemovesFolder}
use Rattle.store_folder.specs.Paths.{room_path, folder_path}
use Rattle.store_folder.proofs.Ending.{ends_with, folder_removed}
use Rattle.store_folder.proofs.Entering.{if_ok_map, if_err_map}
use Rattle.store_folder.proofs.InRooms.{of_one, some_absent, in_no_room}
use Rattle.store_folder.proofs.Removing.{spot_told, spot_failed}
use Rattle.store_folder.proofs.disk.Disk.remove_folder.Goals as goal

pub returns-in_err-spot : goal.returns-in_err-spot
returns-in_err-spot g c =
    let failure = c.in_err-spot.field-0.0 in
    record {
      ends = ends_with g.C.Calls.log c.args.self.now _ (remove_folder c.args.room c.args.folder.now) (Err failure) _ (search rules) (folder_removed g.C.Calls.log c.args.self.now _ (Err failure) c.args.room c.args.folder.now ((refl, refl, refl), refl, refl) tt (inl ((λ named. c.in_err-spot.ensures.memory named.0 named.1), refl)));
    }

pub returns-in_default : goal.returns-in_default
returns-in_default g c = record {
  ends = folder_removed g.C.Calls.log c.args.self.now _ (Ok NoRoom) c.args.room c.args.folder.now ((refl, refl, refl), refl, refl) (in_no_room c.args.self.now c.args.room c.args.folder.now (g.C.Calls.log c.args.self.now.calls) (g.C.Calls.log c.args.self.now.calls) (λ path. RemovesFolder (g.C.Calls.log c.args.self.now.calls) (g.C.Calls.log c.args.self.now.calls) path c.args.folder.now NoRoom) c.in_ok-spot.field-0 c.in_default.is c.in_ok-spot.ensures.there refl) tt;
}

pub returns : goal.returns
returns g c =
    let room = room_path c.args.self.now c.args.room in
    let folder = c.args.folder.now in
    let path = folder_path room folder in
    let start = g.C.Calls.log c.args.self.now.calls in
    let later = g.C.Calls.log c.remove_spot-answer.new.calls in
    let end = c.remove_spot-answer.result in
    let is_top = c.in-Some.spot.is_top in
    let shown = string_bytes c.in-Some.spot.room in
    let also = string_bytes c.in-Some.spot.folder in
    let in_it = of_one c.in_ok-spot.field-0 c.in-Some.spot (λ spot. string_bytes spot.room ≡ room) c.in-Some.is c.in_ok-spot.ensures.room in
    let of_it = of_one c.in_ok-spot.field-0 c.in-Some.spot (λ spot. string_bytes spot.folder ≡ path) c.in-Some.is c.in_ok-spot.ensures.folder in
    let is = of_one c.in_ok-spot.field-0 c.in-Some.spot (λ spot. spot.is_top ≡ (length folder == 0)) c.in-Some.is c.in_ok-spot.ensures.top in
    let Told : Answer → Type 0 = λ answer. InRoom c.args.self.now c.args.room answer start later (λ path. RemovesFolder start later path folder answer) in
    record {
      ends = folder_removed g.C.Calls.log c.args.self.now _ end c.args.room folder ((refl, refl, refl), refl, refl)
          (if_ok_map end (RemovesSpot start later is_top shown also) Told (λ answer told. ((λ past. absurd (some_absent c.in_ok-spot.field-0 c.in-Some.spot c.in-Some.is (c.in_ok-spot.ensures.absent past))), λ within. spot_told start later shown room in_it folder also is_top answer is of_it told)) c.remove_spot-answer.ensures.removes)
          (if_err_map end (FailsToRemoveSpot start later is_top shown also) (Fails c.args.self.now start later (remove_folder c.args.room folder)) (λ failure fails. inr (spot_failed start later shown room in_it folder also is_top failure is of_it fails)) c.remove_spot-answer.ensures.fails);
    }
