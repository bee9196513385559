use Rattle.std.proofs.Common.{◌≡◌, ◌∙◌, sym, Option, Some, None}
use Rattle.container_layout.specs.declared.items.Item.{Item}
use Rattle.index_reader.proofs.Containers.ItemLemmas.{hostdir_item-here, hostdir_item-other, hostdir_item-none}
use Rattle.index_reader.proofs.scanning.hostdir_item.Goals as goal

pub returns-in_err-item : goal.returns-in_err-item
returns-in_err-item c = c.from_residual.ensures ∙ sym (hostdir_item-none c.args.path.now (λ it at.
    let there : c.read.result ≡ Some it = c.read.ensures.only it at in
    let none : c.read.result ≡ None = c.in_err-item.was in
    let clash : ◌≡◌ {A = Option Item} None (Some it) = sym none ∙ there in
    absurd cc))

pub returns-then-is_of_hostdir : goal.returns-then-is_of_hostdir
returns-then-is_of_hostdir c = sym (hostdir_item-here c.args.path.now c.in_ok-item.item (sym c.is_of_hostdir.ensures ∙ c.if-is_of_hostdir.true) c.in_ok-item.ensures.found)

pub returns-else-is_of_hostdir : goal.returns-else-is_of_hostdir
returns-else-is_of_hostdir c = sym (hostdir_item-other c.args.path.now c.in_ok-item.item (sym c.is_of_hostdir.ensures ∙ c.if-is_of_hostdir.false) c.in_ok-item.ensures.found)
