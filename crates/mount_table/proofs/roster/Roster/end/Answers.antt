use Rattle.std.proofs.Common.{rules, refl, not, ◌==◌}
use Rattle.std.proofs.lemmas.Fn.{filter_same}
use Rattle.mount_model.specs.declared.row.Holder.{Holder}
use Rattle.mount_model.specs.declared.row.Flattening.{Flattening}
use Rattle.mount_table.specs.contracts.roster.Roster.{the_view}
use Rattle.mount_table.proofs.Ended.{ended_keeps}
use Rattle.mount_table.proofs.roster.Roster.end.Goals as goal

pub invariant_of-self : goal.invariant_of-self
invariant_of-self c =
    let holders = filter_same _ (λ (h : Holder). not (h.owner == c.args.caller)) _ (λ x b f' k. search rules) _ _ c.retain.ensures.filtered in
    let flattenings = filter_same _ (λ (f : Flattening). not (f.owner == c.args.caller)) _ (λ x b f' k. search rules) _ _ c.retain-2.ensures.filtered in
    rw (c.end_rows.ensures) (ended_keeps c.args.caller (the_view c.self.inside) _ _ holders flattenings c.self.invariant)

pub returns : goal.returns
returns c =
    let holders = filter_same _ (λ (h : Holder). not (h.owner == c.args.caller)) _ (λ x b f' k. search rules) _ _ c.retain.ensures.filtered in
    let flattenings = filter_same _ (λ (f : Flattening). not (f.owner == c.args.caller)) _ (λ x b f' k. search rules) _ _ c.retain-2.ensures.filtered in
    rw (← c.self.view_is, c.end_rows.ensures, holders, flattenings) refl
