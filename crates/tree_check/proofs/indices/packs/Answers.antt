use Rattle.std.proofs.Common.{rules}
use Rattle.std.proofs.lemmas.Slice.Eq.{slice_eq-Decides}
use Rattle.index_pack.specs.Spelling.{Packs}
use Rattle.tree_check.proofs.IndexLemmas.{not_so, packed_tells}
use Rattle.tree_check.proofs.indices.packs.Goals as goal

pub returns-in-Some : goal.returns-in-Some
returns-in-Some c =
    packed_tells c.args.bytes.now c.args.entries.now c.in-Some.packed c.eq.result (rw c.in-Some.is at c.in_ok-found.ensures)
    (rw c.as_slice.ensures at (slice_eq-Decides (λ a b. search rules) c.as_slice.result.now c.args.entries.now c.eq.result c.eq.ensures))

pub returns-in-None : goal.returns-in-None
returns-in-None c = not_so (Packs c.args.bytes.now c.args.entries.now) ((rw c.in-None.is at c.in_ok-found.ensures) c.args.entries.now)
