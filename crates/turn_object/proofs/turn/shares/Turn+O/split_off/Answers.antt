use Rattle.std.proofs.Common.{ℕ, subst, arith}
use Rattle.atomic_table.specs.Table.{Splits}
use Rattle.turn_object.specs.Shares.{kept_front, given_front}
use Rattle.turn_object.specs.Rule.{IsTurning}
use Rattle.turn_object.proofs.Shares.{splits}
use Rattle.turn_object.proofs.turn.shares.Turn+O.split_off.Goals as goal

pub split_seat-requires : goal.split_seat-requires
split_seat-requires g c =
    let shared = c.args.self.now.table.shared in
    let seat = c.args.seat.now in
    let P : ℕ → Type 0 = λ n. Splits (IsTurning g.O.Object.step g.O.Object.may shared.key.value) seat.id seat.me.0 (kept_front n seat.me.0) (given_front n seat.me.0) in (
      c.requires.table,
      omega (arith, c.args.self.now.shape.0),
      subst P c.requires.picked (splits g.O.Object.step g.O.Object.may shared.key.value seat.id seat.me.0 c.args.parts c.requires.parts.0 c.requires.parts.1 c.requires.idle.1),
    )
