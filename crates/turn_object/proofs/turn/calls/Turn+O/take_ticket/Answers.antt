use Rattle.std.proofs.Common.{◌+◌, ◌^◌, ◌%◌, List, ℕ, sym, refl, subst, arith, Option}
use mathlib.Core.Option as at
use Rattle.atomic_table.specs.Table.{Allows, step as table_step}
use Rattle.turn_object.specs.declared.slot.Resting.{Resting}
use Rattle.turn_object.specs.Rule.{IsTurning}
use Rattle.turn_object.specs.Steps.{Took}
use Rattle.turn_object.proofs.Keeps.{takes_ticket}
use Rattle.turn_object.proofs.turn.calls.Turn+O.take_ticket.Goals as goal

pub fetch_add-requires : goal.fetch_add-requires
fetch_add-requires g c =
    let seat = c.args.seat.now in
    let shared = c.args.self.now.table.shared in
    let rule = IsTurning g.O.Object.step g.O.Object.may shared.key.value in
    let slots : ℕ = shared.table_id.slots in
    let P : List (ℕ × Option (Resting g.row.O-Ask.Denot g.row.O-Reply.Denot g.row.O.Denot)) → Type 0 = λ held. Allows rule slots seat.id (seat.me.0, held) 0 (λ n. (n + 1) % 2 ^ 64) (Took (table_step slots 0 1 0 at.none) (seat.me.0, held)) in
    let idle = c.requires.idle in
    (c.requires.table, omega (arith, c.args.self.now.shape.0), subst P (sym idle.0) (takes_ticket g.O.Object.step g.O.Object.may shared.key.value slots seat.id seat.me.0 1 refl idle.1 idle.2))
