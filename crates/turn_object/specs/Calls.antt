-- What a call asks of the pass, and what it does to it.
use Rattle.std.specs.Prelude.{◌≡◌, ℕ, List, [], ◌∷◌, ◌++◌, length}
use Rattle.turn_object.specs.declared.history.Entry.{Entry}
use Rattle.turn_object.specs.declared.front.Front.{Front}
use Rattle.turn_object.specs.History.{entry, state_after}
use Rattle.turn_object.specs.Callers.{number_or, MayCallAs}

module _ {A R S : Type 0} where
  -- the pass may ask this after all that it has seen, under each number under which it may call
  abbrev pub MayAsk : (S → ℕ → A → Type 0) → S → Front A R S → A → Type 0
  MayAsk may start v ask = (caller : ℕ) → MayCallAs v.seen v.mine caller → may (state_after start v.seen) caller ask

  -- The history up to the call begins with what the pass had seen, and ends with the call, which is one more entry of the pass's own.
  -- In the state before it the caller might ask this, and the reply and the state after are what the object may do there.
  pub record IsCalled (step : S → ℕ → A → R → S → Type 0) (may : S → ℕ → A → Type 0) (start : S) (v : Front A R S) (ask : A) (reply : R) (w : Front A R S) : Type 0 where
    pub between : List (Entry A R S)
    pub after : S
    pub caller : ℕ
    pub number : caller ≡ number_or v.mine (length (v.seen ++ between))
    pub allowed : may (state_after start (v.seen ++ between)) caller ask
    pub stepped : step (state_after start (v.seen ++ between)) caller ask reply after
    pub seen : w.seen ≡ (v.seen ++ between) ++ entry caller ask reply after ∷ []
    pub mine : w.mine ≡ v.mine ++ entry caller ask reply after ∷ []
    pub ended : w.ended ≡ v.ended
    pub parts : w.parts ≡ v.parts
