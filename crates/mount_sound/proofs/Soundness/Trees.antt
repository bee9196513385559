-- Sound trees: the empty one, and that which a mount leaves.
use Rattle.std.proofs.Common.{◌≡◌, ℕ, List, [], Some, None, refl, ap, sym, ◌∙◌}
use Rattle.std.specs.Prelude.{slice_get}
use Rattle.store_api.specs.declared.tree.Room.{Room}
use Rattle.store_api.specs.declared.tree.Tree.{Tree}
use Rattle.mount_model.specs.declared.row.Row.{Row}
use Rattle.mount_model.specs.State.{State}
use Rattle.mount_sound.specs.Marks.{IsOfMark}
use Rattle.mount_sound.specs.Shape.{IsShapedTree}
use Rattle.mount_sound.proofs.Shapes.Facts.{left_shaped, empty_shaped}
use Rattle.mount_sound.specs.Flats.{AreRightFlats}
use Rattle.mount_sound.specs.Ledger.{AreWritesOf, Ledger}
use Rattle.mount_sound.specs.Sound.{AreSoundRooms, IsSoundFor, IsSoundTree}
use Rattle.mount_sound.proofs.Soundness.Landing.{no_writes, landed_ledger, whole, landed_fitting, landed_roomless, landed_valid}

no_room : (tree : Tree) (n : ℕ) (room : Room) → tree.rooms ≡ [] → slice_get tree.rooms n ≡ Some room → ⊥
no_room tree n room none at = let both : None ≡ Some room = ap (λ rooms. slice_get rooms n) (sym none) ∙ at in cc

-- A tree with no rooms is sound.
pub empty_sound : (tree : Tree) → tree.rooms ≡ [] → IsSoundTree tree
empty_sound tree none = record {
  shaped = empty_shaped tree none;
  issued = λ number writer. [];
  rooms = λ number room there. absurd (no_room tree number room none there);
  writes = λ number writer. no_writes writer;
  all_landed = λ number room there writer fits. absurd (no_room tree number room none there);
  fitting = λ number writer past. refl;
  roomless = λ number writer e. refl;
  flats = λ number room there. absurd (no_room tree number room none there);
}

-- A tree of the right shape whose rooms are sound for what was issued is sound: what hasn't landed is lost.
pub sound_tree : (issued : Ledger) (rows : List Row) (tree : Tree) → IsShapedTree (IsOfMark tree) tree → AreSoundRooms issued rows tree → ((number writer : ℕ) → AreWritesOf writer (issued number writer)) → AreRightFlats tree → IsSoundTree tree
sound_tree issued rows tree shaped rooms writes flats = record {
  shaped = shaped;
  issued = landed_ledger issued rows tree rooms;
  rooms = λ number room there. record {
    writers = λ writer fits. (whole issued rows tree rooms number room there writer fits).0;
    kept = λ id row e at. absurd (cc);
    truncates = (rooms number room there).truncates;
  };
  writes = landed_valid issued rows tree rooms writes;
  all_landed = λ number room there writer fits. (whole issued rows tree rooms number room there writer fits).1;
  fitting = landed_fitting issued rows tree rooms;
  roomless = landed_roomless issued rows tree rooms;
  flats = flats;
}

-- The tree that a mount leaves is sound for the next one.
pub left_sound : (issued : Ledger) (state : State) (s : IsSoundFor issued state) → IsSoundTree s.shape.tree
left_sound issued state s = sound_tree issued state.table.writers s.shape.tree (left_shaped state s.shape) s.sound.rooms s.sound.writes s.flats
