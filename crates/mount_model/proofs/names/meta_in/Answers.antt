use Rattle.std.proofs.Common.{◌≡◌, ◌∙◌, rules, sym, subst, List, ℕ, Option, Some, None}
use Rattle.container_layout.specs.declared.items.Item.{Item}
use Rattle.container_layout.specs.declared.items.Item.TheVariants as item
use Rattle.container_layout.specs.Paths.{IsIn}
use Rattle.mount_model.proofs.Flows.NameLemmas.{meta_in-is, meta_in-not}
use Rattle.mount_model.proofs.names.meta_in.Goals as goal

pub returns-in_err-last : goal.returns-in_err-last
returns-in_err-last c = c.from_residual.ensures ∙ sym (meta_in-not c.args.name (λ last bytes stamp host writer is.
    let i : Item = item.Meta last bytes stamp host writer in
    let at : IsIn c.metadata.result c.args.name i = subst (λ (f : List ℕ). IsIn f c.args.name i) (sym c.metadata.ensures) is in
    let there : c.read.result ≡ Some i = c.read.ensures.only i at in
    let none : c.read.result ≡ None = c.in_err-last.was in
    let clash : ◌≡◌ {A = Option Item} None (Some i) = sym none ∙ there in
    absurd cc))

pub returns-in-Meta : goal.returns-in-Meta
returns-in-Meta c = search (rules, meta_in-is)
