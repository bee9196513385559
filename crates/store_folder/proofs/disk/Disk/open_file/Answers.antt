use Rattle.std.proofs.Common.{◌≡◌, refl, rules}
use Rattle.std.specs.Prelude.{string_bytes}
use Rattle.store_folder.specs.Files.{uncalled}
use Rattle.store_folder.specs.Paths.{room_path, folder_path}
use Rattle.store_folder.specs.Places.{IsNamed}
use Rattle.store_folder.proofs.Entering.{if_err, opens_named}
use Rattle.store_folder.proofs.InRooms.{of_one}
use Rattle.store_folder.proofs.disk.Disk.open_file.Goals as goal

pub returns-in_err-spot-clause-fails : goal.returns-in_err-spot-clause-fails
unfolding IsNamed
returns-in_err-spot-clause-fails g c = if_err c.from_residual.result c.in_err-spot.field-0.0 _ (search rules) (uncalled (λ named. c.in_err-spot.ensures.memory named.0 named.1) refl)

pub returns-in_err-path-clause-fails : goal.returns-in_err-path-clause-fails
unfolding IsNamed
returns-in_err-path-clause-fails g c = if_err c.from_residual-in_err-path.result c.in_err-path.field-0.0 _ (search rules) (uncalled (λ named. c.in_err-path.ensures.memory named.2) refl)

pub returns-clause-fails : goal.returns-clause-fails
returns-clause-fails g c =
    let key = c.args.key.now in
    let room = room_path c.args.self.now key.room in
    opens_named _ _ _ key.file room (folder_path room key.folder) (string_bytes c.in-Some.spot.room) (string_bytes c.in-Some.spot.folder) c.open_in-found.result (of_one c.in_ok-spot.field-0 c.in-Some.spot (λ spot. string_bytes spot.room ≡ room) c.in-Some.is c.in_ok-spot.ensures.room) (of_one c.in_ok-spot.field-0 c.in-Some.spot (λ spot. string_bytes spot.folder ≡ folder_path room key.folder) c.in-Some.is c.in_ok-spot.ensures.folder) c.open_in-found.ensures.fails
