-- Histories in which calls are answered alike.
use Rattle.std.specs.Prelude.{◌≡◌, List, [], ◌∷◌}
use Rattle.turn_object.specs.declared.history.Entry.{Entry}

module _ {A R S : Type 0} where
  -- As long as both are the same, and the same caller asks the same in both, it is answered the same, and the object is
  -- the same after it.
  abbrev pub GoAlike : List (Entry A R S) → List (Entry A R S) → Type 0
  GoAlike [] others = Unit {0}
  GoAlike (e ∷ es) [] = Unit {0}
  GoAlike (e ∷ es) (f ∷ fs) = (e.caller ≡ f.caller → e.ask ≡ f.ask → (e.reply ≡ f.reply) × (e.after ≡ f.after)) × (e ≡ f → GoAlike es fs)
