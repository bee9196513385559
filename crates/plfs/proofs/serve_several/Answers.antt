use Rattle.std.proofs.Common.{◌≡◌, true, List, [], ◌∷◌, map, arith}
use Rattle.spread_store.specs.Joined.{held_by, all_tell}
use Rattle.spread_store.specs.Opening.{RoomsDifferInEach}
use Rattle.store_folder.specs.declared.store.StoreByCalls.{StoreByCalls}
use Rattle.store_folder.specs.Stored.{stored_of}
use Rattle.plfs.proofs.serve_several.Goals as goal

-- no folder tells a tree
untold : {C F : Type 0} (stores : List (StoreByCalls C F)) → all_tell (held_by (map stored_of stores)) ≡ true → RoomsDifferInEach (held_by (map stored_of stores))
untold [] tell = λ store tree there. absurd (cc)
untold (s ∷ stores) tell = absurd (cc)

pub open-requires-clause-apart : goal.open-requires-clause-apart
open-requires-clause-apart g c = untold c.in-Ok.stores

pub open-requires-clause-some : goal.open-requires-clause-some
open-requires-clause-some g c = omega (arith, c.in-Ok.ensures.count, c.requires.some)

pub open-requires-clause-few : goal.open-requires-clause-few
open-requires-clause-few g c = omega (arith, c.in-Ok.ensures.count, c.requires.few)
