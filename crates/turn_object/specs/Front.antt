-- What a pass knows of the one history, and when that is right.
use Rattle.std.specs.Prelude.{◌≡◌, ℕ, ◌⊎◌, List, [], ◌∷◌}
use Rattle.std.specs.List.{All, Any}
use Rattle.turn_object.specs.declared.history.Entry.{Entry}
use Rattle.turn_object.specs.declared.history.Ended.{Ended}
use Rattle.turn_object.specs.declared.front.Front.{Front}
use Rattle.turn_object.specs.History.{Happens}
use Rattle.turn_object.specs.Callers.{made_by, IsOwn, AreNumbered}
use Rattle.turn_object.specs.Ended.{EndedIn}

module _ {A R S : Type 0} where
  -- these are all entries that their caller has here
  abbrev pub KeepsIn : List (Entry A R S) → List (Entry A R S) → Type 0
  KeepsIn seen [] = Unit {0}
  KeepsIn seen (e ∷ es) = made_by e.caller seen ≡ e ∷ es

  -- What was seen happened from this state on, and who calls for the first time does so under the place of its call or one before it.
  pub record IsHistory (step : S → ℕ → A → R → S → Type 0) (may : S → ℕ → A → Type 0) (start : S) (seen : List (Entry A R S)) : Type 0 where
    pub happens : Happens step may start seen
    pub numbered : AreNumbered 0 seen

  -- What was seen is a history from this state. The pass's own entries and those of the passes joined into it stand in it, each once, and no others of theirs.
  pub record IsLegalFront (step : S → ℕ → A → R → S → Type 0) (may : S → ℕ → A → Type 0) (start : S) (v : Front A R S) : Type 0 where
    pub legal : IsHistory step may start v.seen
    pub own : KeepsIn v.seen v.mine
    pub ended : All (EndedIn v.seen) v.ended

  -- every entry is the pass's own or of a pass that was joined into it
  abbrev pub IsWhole : Front A R S → Type 0
  IsWhole v = All (λ (e : Entry A R S). IsOwn v.mine e.caller ⊎ Any (λ (gone : Ended A R S). gone.number ≡ e.caller) v.ended) v.seen
