use Rattle.std.proofs.Common.{◌+◌, ◌*◌}
use Rattle.unit_format.specs.declared.units.TheConstants.{REGION_SIZE}
use Rattle.unit_format.specs.Units.{unit_size, unit_spelling}
use Rattle.pack_files.specs.Putting.{put_program}
use Rattle.lone_flow.proofs.SmallReads.Broken.{begins_none}
use Rattle.lone_flow.proofs.SmallReads.Freely.{asks_so}
use Rattle.lone_flow.specs.Putting.{small_file}
use Rattle.lone_flow.proofs.SmallPuts.Breaking.{fits_so}
use Rattle.lone_flow.proofs.SmallPuts.Writers.{write_free}
use Rattle.lone_flow.proofs.putting.put_file.Goals as goal

pub drive_freely-requires : goal.drive_freely-requires
drive_freely-requires g c = record { free = asks_so _ _ c.in-Ok.ensures.standing (write_free c.args.handle c.args.at (unit_spelling (small_file c.args.file.now))); fine = c.requires.fine }

pub returns-in-Err-NoMemory-clause-broken_off : goal.returns-in-Err-NoMemory-clause-broken_off
returns-in-Err-NoMemory-clause-broken_off g c = record {
  fits = fits_so _ (c.args.at + unit_size (small_file c.args.file.now)) ((c.args.region + 1) * REGION_SIZE) c.put_of_file.ensures.full (λ full. let is = c.in-Err-NoMemory.is in let which = c.in-Err-NoMemory.field-0-is in cc);
  begins = begins_none (put_program c.args.handle c.args.at (small_file c.args.file.now)) c.args.mount.now;
}
