use Rattle.std.proofs.Common.{sym, ap, ◌∙◌}
use Rattle.mount_model.specs.declared.row.Row.{Row}
use Rattle.mount_table.proofs.Rows.{found, past_all, not_here}
use Rattle.mount_table.proofs.Rolls.{read}
use Rattle.mount_table.proofs.places.place_of.Goals as goal
use Rattle.mount_table.proofs.places.place_of.Goals.{else-place-rows-via-then-place-rows+else-row-writer, else-place-rows-via-else-place-rows}

pub returns-then-row-writer-clause-some : goal.returns-then-row-writer-clause-some
returns-then-row-writer-clause-some c =
    let stands = read c.args.rows.now c.first_from-place.result c.index-rows-place.result c.if-place-rows.true c.index-rows-place.is in
    let is = ap (λ (r : Row). r.id) (sym c.row.ensures) ∙ c.if-row-writer.true in
    stands ∙ sym (found c.args.writer c.first_from-place.result c.args.rows.now c.index-rows-place.result c.first_from-place.ensures.passed stands is)

pub returns-else-place-rows-clause-none : goal.returns-else-place-rows-clause-none
returns-else-place-rows-clause-none c = elim c.else-place-rows.branch [
  | else-place-rows-via-then-place-rows+else-row-writer w ↦
      not_here c.args.writer c.first_from-place.result c.args.rows.now w.index-rows-place.result c.requires c.first_from-place.ensures.passed
      (read c.args.rows.now c.first_from-place.result w.index-rows-place.result w.if-place-rows.true w.index-rows-place.is)
      (λ e. w.if-row-writer.false (ap (λ (r : Row). r.id) w.row.ensures ∙ e))
  | else-place-rows-via-else-place-rows w ↦ past_all c.args.writer c.first_from-place.result c.args.rows.now c.first_from-place.ensures.passed w.if-place-rows.false
]
