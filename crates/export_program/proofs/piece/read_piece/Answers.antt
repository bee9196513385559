use Rattle.std.proofs.Common.{◌*◌}
use Rattle.read_plan.specs.Plan.{plan_of}
use Rattle.lone_flow.proofs.SmallReads.Broken.{begins_so}
use Rattle.lone_flow.proofs.SmallReads.Freely.{asks_so, makes_so}
use Rattle.export_program.specs.Pieces.{piece_length, piece_program}
use Rattle.export_program.proofs.Looks.{read_free}
use Rattle.export_program.proofs.piece.read_piece.Goals as goal

pub drive_freely-requires : goal.drive_freely-requires
drive_freely-requires g c = record { free = asks_so _ _ c.in_ok-machine.ensures.standing (read_free c.args.reader.now.room c.args.reader.now.hosts (plan_of c.args.reader.now.pieces c.args.reader.now.size (c.args.k * piece_length) piece_length)); fine = c.requires.fine }

pub returns-clause-makes : goal.returns-clause-makes
returns-clause-makes g c = makes_so c.drive_freely.result _ (piece_program c.args.reader.now c.args.k) c.args.mount.now c.drive_freely.new.mount c.in_ok-machine.ensures.standing c.drive_freely.ensures.drives

pub returns-clause-broken_off : goal.returns-clause-broken_off
returns-clause-broken_off g c = begins_so c.drive_freely.result _ (piece_program c.args.reader.now c.args.k) c.args.mount.now c.drive_freely.new.mount c.in_ok-machine.ensures.standing c.drive_freely.ensures.broken_off
