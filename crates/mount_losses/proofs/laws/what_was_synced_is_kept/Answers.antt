use Rattle.std.proofs.Common.{◌∙◌, ap, sym}
use Rattle.std.specs.Prelude.{slice_get}
use Rattle.store_api.specs.declared.tree.Tree.{Tree}
use Rattle.mount_sound.proofs.Facts.{one_tree}
use Rattle.mount_losses.proofs.Losses.{marked_kept}
use Rattle.mount_losses.proofs.laws.what_was_synced_is_kept.Goals as goal

pub returns : goal.returns
returns c = λ issued state s tree told writer row room e there.
    marked_kept issued state s writer row room e (ap (λ (t : Tree). slice_get t.rooms row.room) (sym (one_tree tree s.shape.tree state.store.tree told s.shape.told)) ∙ there)
