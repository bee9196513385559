use Rattle.std.proofs.Common.{◌≡◌, ◌∙◌, sym, Option, Some, None}
use Rattle.container_layout.specs.declared.items.Item.{Item}
use Rattle.index_reader.proofs.Containers.ItemLemmas.{flat_item-here, flat_item-other, flat_item-none}
use Rattle.index_reader.proofs.newest.flat_item.Goals as goal

pub returns-in_err-item : goal.returns-in_err-item
returns-in_err-item c = c.from_residual.ensures ∙ sym (flat_item-none c.args.path.now (λ it at.
    let there : c.read.result ≡ Some it = c.read.ensures.only it at in
    let none : c.read.result ≡ None = c.in_err-item.was in
    let clash : ◌≡◌ {A = Option Item} None (Some it) = sym none ∙ there in
    absurd cc))

pub returns-then-is_flats : goal.returns-then-is_flats
returns-then-is_flats c = sym (flat_item-here c.args.path.now c.in_ok-item.item (sym c.is_flats.ensures ∙ c.if-is_flats.true) c.in_ok-item.ensures.found)

pub returns-else-is_flats : goal.returns-else-is_flats
returns-else-is_flats c = sym (flat_item-other c.args.path.now c.in_ok-item.item (sym c.is_flats.ensures ∙ c.if-is_flats.false) c.in_ok-item.ensures.found)
