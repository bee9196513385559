use Rattle.pack_files.specs.Scanning.{scan_program}
use Rattle.lone_flow.proofs.SmallReads.Broken.{begins_so}
use Rattle.lone_flow.proofs.SmallReads.Freely.{asks_so, makes_so}
use Rattle.lone_flow.proofs.SmallReads.Looked.{looked_so}
use Rattle.lone_flow.proofs.SmallReads.Looks.{scan_free, scan_looks}
use Rattle.lone_flow.proofs.scanning.scan.Goals as goal

pub drive_freely-requires : goal.drive_freely-requires
drive_freely-requires g c = record { free = asks_so _ _ c.in_ok-machine.ensures (scan_free c.args.reader.now c.args.region); fine = c.requires.fine }

pub returns-clause-makes : goal.returns-clause-makes
returns-clause-makes g c = makes_so c.drive_freely.result _ (scan_program c.args.reader.now c.args.region) c.args.mount.now c.drive_freely.new.mount c.in_ok-machine.ensures c.drive_freely.ensures.drives

pub returns-clause-looks : goal.returns-clause-looks
returns-clause-looks g c =
    looked_so c.drive_freely.result _ (scan_program c.args.reader.now c.args.region) c.args.mount.now c.drive_freely.new.mount c.in_ok-machine.ensures (scan_looks c.args.reader.now c.args.region) c.drive_freely.ensures.drives c.drive_freely.ensures.broken_off

pub returns-clause-broken_off : goal.returns-clause-broken_off
returns-clause-broken_off g c = begins_so c.drive_freely.result _ (scan_program c.args.reader.now c.args.region) c.args.mount.now c.drive_freely.new.mount c.in_ok-machine.ensures c.drive_freely.ensures.broken_off
