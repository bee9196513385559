use Rattle.std.proofs.Common.{◌≡◌, ℕ, [], sym, ap, ◌∙◌, subst, arith, Option}
use mathlib.Core.Option as at
use Rattle.atomic_table.specs.Table.{Allows, Me, step as table_step}
use Rattle.turn_object.specs.declared.slot.Resting.{Resting}
use Rattle.turn_object.specs.declared.front.Front.{Front}
use Rattle.turn_object.specs.Shares.{joined_front}
use Rattle.turn_object.specs.Rule.{IsTurning}
use Rattle.turn_object.specs.Steps.{Learned}
use Rattle.turn_object.proofs.Shares.{joins, learns, learns_both}
use Rattle.turn_object.proofs.turn.shares.Turn+O.join_seats.Goals as goal

pub join_seat-requires : goal.join_seat-requires
join_seat-requires g c =
    let shared = c.args.self.now.table.shared in
    let seat = c.args.seat.now in
    let other = c.args.other in (
      c.requires.table.0,
      c.requires.table.1,
      c.requires.other.0,
      omega (arith, c.args.self.now.shape.0),
      joins g.O.Object.step g.O.Object.may shared.key.value seat.id seat.me.0 other.id other.me.0 c.requires.idle.2 c.requires.other.2 c.requires.idle.1 c.requires.other.1,
    )

pub load-requires : goal.load-requires
load-requires g c =
    let shared = c.args.self.now.table.shared in
    let seat = c.args.seat.now in
    let both = joined_front seat.me.0 c.args.other.me.0 in
    let slots : ℕ = shared.table_id.slots in
    let id : ℕ = c.join_seat.new.seat.id in
    let st = table_step {S = Option (Resting g.row.O-Ask.Denot g.row.O-Reply.Denot g.row.O.Denot)} slots 0 0 0 at.none in
    let P : Me (Option (Resting g.row.O-Ask.Denot g.row.O-Reply.Denot g.row.O.Denot)) (Front g.row.O-Ask.Denot g.row.O-Reply.Denot g.row.O.Denot) → Type 0
    = λ me. Allows (IsTurning g.O.Object.step g.O.Object.may shared.key.value) slots id me 0 (λ n. n) (Learned g.O.Object.step g.O.Object.may st me) in
    let me_is : c.join_seat.new.seat.me ≡ (both, []) = c.join_seat.ensures.2 ∙ ap (λ held. (both, held)) c.requires.idle.0 in
    let live = c.requires.idle.2 in (
      c.join_seat.ensures.0 ∙ c.requires.table.0,
      omega (arith, c.args.self.now.shape.0),
      subst P (sym me_is) (learns g.O.Object.step g.O.Object.may shared.key.value slots id both st (omega arith)),
    )

pub returns-clause-legal : goal.returns-clause-legal
returns-clause-legal g c =
    (learns_both g.O.Object.step g.O.Object.may c.args.self.now.table.shared.key.value c.args.seat.now.me.0 c.args.other.me.0 c.join_seat.new.seat.me c.load.new.seat.me
    c.requires.table.2 (ap (λ (m : Me _ _). m.0) c.join_seat.ensures.2) c.load.ensures.2.0 c.load.ensures.2.1).0

pub returns-clause-both : goal.returns-clause-both
returns-clause-both g c =
    (learns_both g.O.Object.step g.O.Object.may c.args.self.now.table.shared.key.value c.args.seat.now.me.0 c.args.other.me.0 c.join_seat.new.seat.me c.load.new.seat.me
    c.requires.table.2 (ap (λ (m : Me _ _). m.0) c.join_seat.ensures.2) c.load.ensures.2.0 c.load.ensures.2.1).1
