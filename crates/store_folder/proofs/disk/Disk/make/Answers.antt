use Rattle.std.proofs.Common.{rules}
use Rattle.store_folder.specs.Leaving.{unlisted, among}
use Rattle.store_folder.proofs.Staying.{no_numbers}
use Rattle.store_folder.proofs.disk.Disk.make.Goals as goal

pub returns-in_err-number_rooms : goal.returns-in_err-number_rooms
returns-in_err-number_rooms g c = record {
  attempted = unlisted c.in_err-number_rooms.field-0.0 (search rules) (no_numbers c.args.self.now.is_numbered _ c.number_rooms.result tt c.in_err-number_rooms.field-0.0 c.number_rooms.ensures.done (search rules)) c.in_err-number_rooms.ensures.failed c.in_err-number_rooms.ensures.fails;
}

pub returns : goal.returns
returns g c =
    let told = c.in_ok-number_rooms.ensures in
    record {
      attempted = among c.number_rooms.new.self (record { numbered = told.numbered; before = λ is. (told.done is).1; first = told.listed; root = told.root; kept_open = told.open; kept_own = told.own }) c.perform.ensures.ends;
    }
