-- What the passes of a turn know between them.
use Rattle.std.specs.Prelude.{◌≡◌, ℕ, ◌<◌, ◌⊎◌, List, [], ◌∷◌, length, Some}
use Rattle.std.specs.List.{All, Any}
use mathlib.Core.Option as at
use lib.ListN.{get_elem?}
use Rattle.turn_object.specs.declared.history.Entry.{Entry}
use Rattle.turn_object.specs.declared.history.Ended.{Ended}
use Rattle.turn_object.specs.declared.front.Front.{Front}
use Rattle.turn_object.specs.History.{StartsWith}
use Rattle.turn_object.specs.Callers.{made_by, IsOwn}
use Rattle.turn_object.specs.Ended.{AreApart}

module _ {A R S : Type 0} where
  -- a pass that was joined into another one is spent: it has no part, and is not live
  abbrev pub IsLive : Front A R S → Type 0
  IsLive v = 0 < v.parts

  -- these are all entries of their caller, seen and unseen, and this seat stands for the caller
  abbrev pub KeepsOwn : List (Entry A R S) → List (Entry A R S) → (ℕ → ℕ) → ℕ → List (Entry A R S) → Type 0
  KeepsOwn history seen owner seat [] = Unit {0}
  KeepsOwn history seen owner seat (e ∷ es) =
      (made_by e.caller history ≡ e ∷ es) × (made_by e.caller seen ≡ e ∷ es) × (owner e.caller ≡ seat) × (e.caller < length history)

  -- the same of a caller that ended, which is not the pass itself
  abbrev pub KeepsEnded : List (Entry A R S) → List (Entry A R S) → (ℕ → ℕ) → ℕ → List (Entry A R S) → Ended A R S → Type 0
  KeepsEnded history seen owner seat mine gone =
      (made_by gone.number history ≡ gone.entries) × (made_by gone.number seen ≡ gone.entries) × (owner gone.number ≡ seat)
      × (gone.number < length history) × ¬ (IsOwn mine gone.number)

  -- what a pass that is not spent knows is so
  pub record KnowsRight (history : List (Entry A R S)) (start : S) (owner : ℕ → ℕ) (seat : ℕ) (v : Front A R S) : Type 0 where
    pub begins : v.start ≡ Some start
    pub seen : StartsWith history v.seen
    pub shorter : StartsWith v.seen v.shorter
    pub own : KeepsOwn history v.seen owner seat v.mine
    pub ended : All (KeepsEnded history v.seen owner seat v.mine) v.ended
    pub differ : AreApart v.ended

  -- the seat that stands for this caller has its entries, as its own or among those that ended
  abbrev pub IsKnown : (ℕ → ℕ) → List (Front A R S) → Entry A R S → Type 0
  IsKnown owner fronts e =
      (v : Front A R S) × (get_elem? fronts (owner e.caller) ≡ at.some v) × IsLive v
      × (IsOwn v.mine e.caller ⊎ Any (λ (gone : Ended A R S). gone.number ≡ e.caller) v.ended)
