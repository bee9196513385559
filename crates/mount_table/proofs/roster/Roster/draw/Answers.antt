use Rattle.std.proofs.Common.{◌≡◌, ◌+◌, ◌*◌, ◌^◌, ◌<◌, ℕ, refl, subst, sym, arith}
use Rattle.std.specs.List.{All}
use Rattle.mount_model.specs.declared.row.Row.{Row}
use Rattle.mount_model.specs.declared.row.Holder.{Holder}
use Rattle.mount_model.specs.declared.row.Flattening.{Flattening}
use Rattle.mount_model.specs.Entering.{next_id}
use Rattle.mount_table.specs.Roll.{Roll, bare}
use Rattle.mount_table.specs.Admitting.{IsNextId, with_next}
use Rattle.mount_table.specs.contracts.roster.Roster.{the_view}
use Rattle.mount_table.proofs.Admits.{next_keeps, granted, next_above, next_above_holders, next_above_flattenings}
use Rattle.mount_table.proofs.roster.Roster.draw.Goals as goal

pub invariant_of-self : goal.invariant_of-self
invariant_of-self c = next_keeps (the_view c.self.inside) c.self.invariant (omega arith)

pub returns-clause-ok : goal.returns-clause-ok
returns-clause-ok c =
    let roll = the_view c.self.inside in
    let is : next_id (bare roll) ≡ c.from.result * 2 ^ 32 + c.from-2.result = omega arith in
    subst (λ (r : Roll). IsNextId c.args.room r (c.from.result * 2 ^ 32 + c.from-2.result) (with_next roll)) c.self.view_is (record {
      granted = granted roll c.args.room c.if-room-self.false (omega arith);
      apart = c.if-room-self.false;
      id_is = sym is;
      left = refl;
      above_holders = subst (λ (n : ℕ). All (λ (h : Holder). h.number < n) roll.table.holders) is (next_above_holders roll c.self.invariant);
      above_flattenings = subst (λ (n : ℕ). All (λ (f : Flattening). f.id < n) roll.table.flattenings) is (next_above_flattenings roll c.self.invariant);
      above = subst (λ (n : ℕ). All (λ (row : Row). row.id < n) roll.table.writers) is (next_above roll c.self.invariant);
    })
