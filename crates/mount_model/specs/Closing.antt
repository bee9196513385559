-- The pass into which the passes of all actors were joined.
use Rattle.std.specs.Prelude.{◌≡◌, ℕ, List, [], ◌++◌}
use Rattle.std.specs.List.{All}
use Rattle.turn_object.specs.declared.history.Entry.{Entry}
use Rattle.turn_object.specs.declared.front.Front.{Front}
use Rattle.turn_object.specs.Ended.{as_ended, AreApart}
use Rattle.turn_object.specs.Front.{IsLegalFront, IsWhole}
use Rattle.mount_model.specs.MakesCalls.{one_history}
use Rattle.mount_model.specs.Players.{Player, HasEnded, ended_by}

module _ {A R S X L : Type 0} where
  -- It has seen the whole history, made no call itself, and the passes of these actors, who have all ended, were joined into it in this order.
  pub record HasAll (step : S → ℕ → A → R → S → Type 0) (may : S → ℕ → A → Type 0) (start : S) (main : Front A R S) (blocks : List (List (Entry A R S))) (players : List (Player A R S X L)) : Type 0 where
    pub in_phases : main.seen ≡ one_history blocks
    pub none : main.mine ≡ []
    pub ended : main.ended ≡ ended_by players
    pub known : IsLegalFront step may start main
    pub whole : IsWhole main
    pub apart : AreApart (as_ended main.mine ++ main.ended)
    pub played : All (HasEnded step may start main.seen blocks) players
