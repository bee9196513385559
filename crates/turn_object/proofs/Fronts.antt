-- What a pass knows stays right where no call is made.
use Rattle.std.proofs.Common.{◌≡◌, ℕ, List, [], sym, subst}
use Rattle.std.specs.List.{All}
use Rattle.std.proofs.lemmas.List.Elements.{All-nil}
use Rattle.turn_object.specs.declared.history.Entry.{Entry}
use Rattle.turn_object.specs.declared.history.Ended.{Ended}
use Rattle.turn_object.specs.declared.front.Front.{Front}
use Rattle.turn_object.specs.Ended.{EndedIn}
use Rattle.turn_object.specs.Front.{IsHistory, KeepsIn, IsLegalFront}

module _ {A R S : Type 0} (step : S → ℕ → A → R → S → Type 0) (may : S → ℕ → A → Type 0) (start : S) where
  -- a pass with no entries and no ended passes, as the first one and as one that was split off
  pub legal_new : (v : Front A R S) → IsHistory step may start v.seen → v.mine ≡ [] → v.ended ≡ [] → IsLegalFront step may start v
  legal_new v legal none no_ended = record {
    legal = legal;
    own = subst (KeepsIn v.seen) (sym none) tt;
    ended = subst (λ (z : List (Ended A R S)). All (EndedIn v.seen) z) (sym no_ended) (All-nil (EndedIn v.seen));
  }

  -- a pass that was split off has seen what the old one had
  pub legal_given : (v w : Front A R S) → IsLegalFront step may start v → w.seen ≡ v.seen → w.mine ≡ [] → w.ended ≡ [] → IsLegalFront step may start w
  legal_given v w known seen none no_ended = legal_new w (subst (λ (z : List (Entry A R S)). IsHistory step may start z) (sym seen) known.legal) none no_ended

  -- the old pass knows what it knew
  pub legal_kept : (v w : Front A R S) → IsLegalFront step may start v → w.seen ≡ v.seen → w.mine ≡ v.mine → w.ended ≡ v.ended → IsLegalFront step may start w
  legal_kept v w known seen mine ended = record {
    legal = subst (λ (z : List (Entry A R S)). IsHistory step may start z) (sym seen) known.legal;
    own = subst (λ (z : List (Entry A R S) × List (Entry A R S)). KeepsIn z.0 z.1) (λ i. (sym seen i, sym mine i)) known.own;
    ended = subst (λ (z : List (Entry A R S) × List (Ended A R S)). All (EndedIn z.0) z.1) (λ i. (sym seen i, sym ended i)) known.ended;
  }
