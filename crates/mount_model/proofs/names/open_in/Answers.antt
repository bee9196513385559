use Rattle.std.proofs.Common.{◌≡◌, ◌∙◌, rules, sym, subst, List, ℕ, Option, Some, None}
use Rattle.container_layout.specs.declared.items.Item.{Item}
use Rattle.container_layout.specs.declared.items.Item.TheVariants as item
use Rattle.container_layout.specs.Paths.{IsIn}
use Rattle.mount_model.proofs.Flows.NameLemmas.{open_in-is, open_in-not}
use Rattle.mount_model.proofs.names.open_in.Goals as goal

pub returns-in_err-host : goal.returns-in_err-host
returns-in_err-host c = c.from_residual.ensures ∙ sym (open_in-not c.args.name (λ host writer is.
    let i : Item = item.OpenHost host writer in
    let at : IsIn c.openhosts.result c.args.name i = subst (λ (f : List ℕ). IsIn f c.args.name i) (sym c.openhosts.ensures) is in
    let there : c.read.result ≡ Some i = c.read.ensures.only i at in
    let none : c.read.result ≡ None = c.in_err-host.was in
    let clash : ◌≡◌ {A = Option Item} None (Some i) = sym none ∙ there in
    absurd cc))

pub returns-in-OpenHost : goal.returns-in-OpenHost
returns-in-OpenHost c = search (rules, open_in-is)
