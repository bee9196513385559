use Rattle.std.proofs.Common.{rules, ◌≡◌, ◌+◌, ◌^◌, ◌%◌, ℕ, sym, refl, ap, ◌∙◌, subst, arith, Option, Some}
use mathlib.Core.Option as at
use Rattle.atomic_table.specs.Table.{Allows, Me, step as table_step}
use Rattle.turn_object.specs.declared.slot.Resting.{Resting}
use Rattle.turn_object.specs.declared.front.Front.{Front}
use Rattle.turn_object.specs.History.{state_after}
use Rattle.turn_object.specs.Rule.{IsTurning}
use Rattle.turn_object.specs.Steps.{Passed}
use Rattle.turn_object.specs.Pass.{start_of}
use Rattle.turn_object.proofs.Keeps.{passes_turn}
use Rattle.turn_object.proofs.Calls.{carried_state, held_twice, held_first, held_value}
use Rattle.turn_object.proofs.turn.calls.Turn+O.serve.Goals as goal

pub exchange-taken-requires : goal.exchange-taken-requires
exchange-taken-requires g c = (c.requires.table.0, (Some c.requires.slot.0, held_first _ _ c.requires.slot.1))

pub fetch_add-requires : goal.fetch_add-requires
fetch_add-requires g c =
    let shared = c.args.self.now.table.shared in
    let seat = c.args.seat.now in
    let step = g.O.Object.step in
    let may = g.O.Object.may in
    let rule = IsTurning step may shared.key.value in
    let slots : ℕ = shared.table_id.slots in
    let id : ℕ = c.exchange-left.new.seat.id in
    let P : Me (Option (Resting g.row.O-Ask.Denot g.row.O-Reply.Denot g.row.O.Denot)) (Front g.row.O-Ask.Denot g.row.O-Reply.Denot g.row.O.Denot) → Type 0
    = λ me. Allows rule slots id me 1 (λ n. (n + 1) % 2 ^ 64) (Passed (table_step slots 1 1 0 at.none) me) in
    let number = c.requires.number in
    let object = c.apply-reply.new.self in
    let begins = start_of c.args.self.now in
    let state = state_after begins seat.me.0.seen in
    let taken = c.in-Some.field-0 in
    let lies : taken.object ≡ state = ap (λ (z : Resting g.row.O-Ask.Denot g.row.O-Reply.Denot g.row.O.Denot). z.object) (held_value seat.me.1 c.exchange-taken.result c.requires.slot.0 taken c.requires.slot.1 c.exchange-taken.ensures.2 c.in-Some.is) ∙ c.requires.slot.2 in
    let asked : may state c.args.number c.of.result.value = subst (λ a. may state c.args.number a) (sym c.of.ensures) c.requires.may in
    let replied : step state c.args.number c.of.result.value c.of-2.result.value object
    = subst (λ (z : g.row.O.Denot × g.row.O-Ask.Denot × g.row.O-Reply.Denot). step z.0 c.args.number z.1 z.2 object) (λ i. (lies i, sym c.of.ensures i, sym c.of-2.ensures i)) c.apply-reply.ensures in (
      search rules,
      omega (arith, c.args.self.now.shape.0),
      subst P (sym (held_twice seat.me c.exchange-taken.new.seat.me c.exchange-left.new.seat.me _ _ _ c.requires.slot.1 c.exchange-taken.ensures.3 c.exchange-left.ensures.3))
          (passes_turn step may shared.key.value slots id seat.me.0 c.args.ticket 1 object c.of.result c.of-2.result refl c.requires.turn.0 c.requires.turn.1 c.requires.turn.2
          (carried_state (λ s n. may s n c.of.result.value) seat.me.0 begins c.args.number c.requires.table.1 number asked)
          (carried_state (λ s n. step s n c.of.result.value c.of-2.result.value object) seat.me.0 begins c.args.number c.requires.table.1 number replied)),
    )
