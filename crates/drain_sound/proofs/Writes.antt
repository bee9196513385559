-- The first of a writer's writes, and more of them.
use Rattle.std.proofs.Common.{ℕ, List, [], ◌++◌, take, drop, refl, ap, sym, ◌∙◌, append_assoc}
use Rattle.std.proofs.lemmas.List.{take-append-drop}
use Rattle.mount_sound.specs.Growing.{IsMore}
use Rattle.mount_sound.specs.Ledger.{Written}

pub more_trans : (a b c : List Written) → IsMore a b → IsMore b c → IsMore a c
more_trans a b c p q = (p.0 ++ q.0, q.1 ∙ ap (λ l. l ++ q.0) p.1 ∙ append_assoc a p.0 q.0)

pub more_take : (n : ℕ) (all : List Written) → IsMore (take n all) all
more_take n all = (drop n all, sym (take-append-drop n all))

pub more_none : (all : List Written) → IsMore [] all
more_none all = (all, refl)
