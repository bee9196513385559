use Rattle.std.proofs.Common.{sym, ◌∙◌}
use mathlib.Core.Option as at
use Rattle.turn_object.proofs.Ends.{closes}
use Rattle.turn_object.proofs.turn.ends.Turn+O.close.Goals as goal

pub taken_out-requires : goal.taken_out-requires
taken_out-requires g c =
    let shared = c.args.self.table.shared in
    let seat = c.args.pass.seat in
    let closed = closes g.O.Object.step g.O.Object.may shared.key.value seat.id seat.me.0 _ _ c.requires.all c.requires.pass.idle c.close_with-closed.ensures.values.2 in
    (closed.resting, at.some-injective _ _ (sym c.take-resting.ensures.value ∙ closed.there))

pub returns-clause-object : goal.returns-clause-object
returns-clause-object g c =
    let shared = c.args.self.table.shared in
    let seat = c.args.pass.seat in
    let closed = closes g.O.Object.step g.O.Object.may shared.key.value seat.id seat.me.0 _ _ c.requires.all c.requires.pass.idle c.close_with-closed.ensures.values.2 in
    c.taken_out.ensures closed.resting (at.some-injective _ _ (sym c.take-resting.ensures.value ∙ closed.there)) ∙ closed.object

pub returns-clause-legal : goal.returns-clause-legal
returns-clause-legal g c =
    let shared = c.args.self.table.shared in
    let seat = c.args.pass.seat in
    (closes g.O.Object.step g.O.Object.may shared.key.value seat.id seat.me.0 _ _ c.requires.all c.requires.pass.idle c.close_with-closed.ensures.values.2).legal

pub returns-clause-whole : goal.returns-clause-whole
returns-clause-whole g c =
    let shared = c.args.self.table.shared in
    let seat = c.args.pass.seat in
    (closes g.O.Object.step g.O.Object.may shared.key.value seat.id seat.me.0 _ _ c.requires.all c.requires.pass.idle c.close_with-closed.ensures.values.2).whole

pub returns-clause-apart : goal.returns-clause-apart
returns-clause-apart g c =
    let shared = c.args.self.table.shared in
    let seat = c.args.pass.seat in
    (closes g.O.Object.step g.O.Object.may shared.key.value seat.id seat.me.0 _ _ c.requires.all c.requires.pass.idle c.close_with-closed.ensures.values.2).differ
