use Rattle.opening_flow.specs.Opening.{opening_program}
use Rattle.lone_flow.proofs.SmallReads.Broken.{begins_so}
use Rattle.lone_flow.proofs.SmallReads.Freely.{asks_so, makes_so}
use Rattle.lone_flow.proofs.SmallReads.Looked.{looked_so}
use Rattle.lone_flow.proofs.SmallReads.Looks.{opening_free, opening_looks}
use Rattle.lone_flow.proofs.unpacking.open_reader.Goals as goal

pub drive_freely-requires : goal.drive_freely-requires
drive_freely-requires g c = record { free = asks_so _ _ c.new.ensures (opening_free c.args.name); fine = c.requires }

pub returns-clause-makes : goal.returns-clause-makes
returns-clause-makes g c = makes_so c.drive_freely.result _ (opening_program c.args.name 1) c.args.mount.now c.drive_freely.new.mount c.new.ensures c.drive_freely.ensures.drives

pub returns-clause-looks : goal.returns-clause-looks
returns-clause-looks g c = looked_so c.drive_freely.result _ (opening_program c.args.name 1) c.args.mount.now c.drive_freely.new.mount c.new.ensures (opening_looks c.args.name) c.drive_freely.ensures.drives c.drive_freely.ensures.broken_off

pub returns-clause-broken_off : goal.returns-clause-broken_off
returns-clause-broken_off g c = begins_so c.drive_freely.result _ (opening_program c.args.name 1) c.args.mount.now c.drive_freely.new.mount c.new.ensures c.drive_freely.ensures.broken_off
