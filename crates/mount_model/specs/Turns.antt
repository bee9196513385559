-- One turn of an actor on one thread, and how a statement is carried to its end.
use Rattle.std.specs.Prelude.{◌≡◌, ℕ, Bool, List, [], ◌∷◌, MatchBool}
use Rattle.turn_object.specs.declared.history.Entry.{Entry}
use Rattle.mount_model.specs.Process.{Process, ends, pauses, tells, asks, shares}

module _ {A R S X L : Type 0} where
  -- In one turn the actor finishes what needs no call, and then makes one call; a free one takes no turn. It reads its workers' shares by itself.
  -- It tells these lines before the call, and goes on with `left` in its next turn. In a pause and at its end it takes no turn.
  abbrev pub TakesTurn : (A → Bool) → ℕ → Process A R X L → List (Entry A R S) → List L → Process A R X L → Type 0
  TakesTurn is_free number ends calls lines left = (calls ≡ []) × (lines ≡ []) × (left ≡ ends)
  TakesTurn is_free number (pauses p) calls lines left = (calls ≡ []) × (lines ≡ []) × (left ≡ pauses p)
  TakesTurn is_free number (tells line p) calls lines left = (more : List L) × (lines ≡ line ∷ more) × TakesTurn is_free number p calls more left
  TakesTurn is_free number (asks q k) [] lines left = ⊥
  TakesTurn is_free number (asks q k) (e ∷ calls) lines left = (e.caller ≡ number) × (e.ask ≡ q)
      × MatchBool (is_free q) (TakesTurn is_free number (k e.reply) calls lines left) ((calls ≡ []) × (lines ≡ []) × (left ≡ k e.reply))
  TakesTurn is_free number (shares ps k alone) calls lines left = TakesTurn is_free number alone calls lines left

  -- The actor carries a statement to its end, which is its next line.
  abbrev pub Finishes : ℕ → Process A R X L → List (Entry A R S) → L → Process A R X L → Type 0
  Finishes number ends calls line left = ⊥
  Finishes number (pauses p) calls line left = ⊥
  Finishes number (tells told p) calls line left = (calls ≡ []) × (line ≡ told) × (left ≡ p)
  Finishes number (asks q k) [] line left = ⊥
  Finishes number (asks q k) (e ∷ calls) line left = (e.caller ≡ number) × (e.ask ≡ q) × Finishes number (k e.reply) calls line left
  Finishes number (shares ps k alone) calls line left = Finishes number alone calls line left
