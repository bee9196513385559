use Rattle.std.proofs.Common.{List, ℕ, sym, subst, arith, Option}
use mathlib.Core.Option as at
use Rattle.atomic_table.specs.Table.{Allows, step as table_step}
use Rattle.turn_object.specs.declared.slot.Resting.{Resting}
use Rattle.turn_object.specs.Rule.{IsTurning}
use Rattle.turn_object.specs.Steps.{Looked}
use Rattle.turn_object.proofs.Keeps.{looks}
use Rattle.turn_object.proofs.turn.calls.Turn+O.look.Goals as goal

pub load-requires : goal.load-requires
load-requires g c =
    let seat = c.args.seat.now in
    let shared = c.args.self.now.table.shared in
    let rule = IsTurning g.O.Object.step g.O.Object.may shared.key.value in
    let slots : ℕ = shared.table_id.slots in
    let st = table_step {S = Option (Resting g.row.O-Ask.Denot g.row.O-Reply.Denot g.row.O.Denot)} slots 1 0 0 at.none in
    let P : List (ℕ × Option (Resting g.row.O-Ask.Denot g.row.O-Reply.Denot g.row.O.Denot)) → Type 0 = λ held. Allows rule slots seat.id (seat.me.0, held) 1 (λ n. n) (Looked g.O.Object.step g.O.Object.may st (seat.me.0, held)) in
    let waiting = c.requires.waiting in
    (c.requires.table, omega (arith, c.args.self.now.shape.0), subst P (sym waiting.0) (looks g.O.Object.step g.O.Object.may shared.key.value slots seat.id seat.me.0 c.args.ticket st waiting.1 waiting.2))
