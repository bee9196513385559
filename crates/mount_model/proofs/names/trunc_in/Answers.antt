use Rattle.std.proofs.Common.{◌≡◌, ◌∙◌, rules, sym, subst, List, ℕ, Option, Some, None}
use Rattle.container_layout.specs.declared.items.Item.{Item}
use Rattle.container_layout.specs.declared.items.Item.TheVariants as item
use Rattle.container_layout.specs.Paths.{IsIn}
use Rattle.mount_model.proofs.Flows.NameLemmas.{trunc_in-is, trunc_in-not}
use Rattle.mount_model.proofs.names.trunc_in.Goals as goal

pub returns-in_err-stamp : goal.returns-in_err-stamp
returns-in_err-stamp c = c.from_residual.ensures ∙ sym (trunc_in-not c.args.name (λ stamp size is.
    let i : Item = item.Trunc stamp size in
    let at : IsIn c.truncs.result c.args.name i = subst (λ (f : List ℕ). IsIn f c.args.name i) (sym c.truncs.ensures) is in
    let there : c.read.result ≡ Some i = c.read.ensures.only i at in
    let none : c.read.result ≡ None = c.in_err-stamp.was in
    let clash : ◌≡◌ {A = Option Item} None (Some i) = sym none ∙ there in
    absurd cc))

pub returns-in-Trunc : goal.returns-in-Trunc
returns-in-Trunc c = search (rules, trunc_in-is)
