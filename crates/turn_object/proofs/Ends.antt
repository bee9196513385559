-- How a turn begins and ends, and how passes are split and joined.
use Rattle.std.proofs.Common.{◌≡◌, ℕ, ◌+◌, ◌^◌, ◌≤◌, ◌≢◌, ◌⊎◌, inl, zero, suc, List, [], ◌∷◌, ◌++◌, length, get_or, sym, refl, ap, ◌∙◌, subst, ⊎_elim, arith, Option, Some}
use Rattle.std.specs.List.{All, Any}
use mathlib.Core.Option as at
use Rattle.std.proofs.lemmas.List.Elements.{All-nil}
use mathlib.Core.Logic.{dite}
use native.Mathlib.Decide.{ℕ_discrete}
use lib.ListN.{get_elem?}
use Rattle.turn_object.specs.declared.history.Entry.{Entry}
use Rattle.turn_object.specs.declared.history.Ended.{Ended}
use Rattle.turn_object.specs.declared.front.Front.{Front}
use Rattle.turn_object.specs.declared.slot.Resting.{Resting}
use Rattle.turn_object.specs.declared.front.Stage.TheVariants.{Idle}
use Rattle.atomic_table.specs.Table.{State, opening, Final, Seen}
use Rattle.turn_object.specs.History.{state_after}
use Rattle.turn_object.specs.Callers.{IsOwn}
use Rattle.turn_object.specs.Ended.{AreApart, as_ended}
use Rattle.turn_object.specs.Front.{IsHistory, IsLegalFront, IsWhole}
use Rattle.turn_object.specs.Tickets.{tickets, HasTicket, total, parts_in, FitsStage}
use Rattle.turn_object.specs.Homes.{IsHome, IsOut}
use Rattle.turn_object.specs.Seats.{IsLive, KeepsEnded, KnowsRight, IsKnown}
use Rattle.turn_object.specs.Rule.{IsTurning}
use Rattle.turn_object.specs.Stages.{first_front}
use Rattle.turn_object.proofs.Keeps.{idle_not_serving, keeps_in_seen}

module _ {A R S : Type 0} where
  total_one : (f : (Front A R S) → ℕ) (vs : List (Front A R S)) (i : ℕ) (v : Front A R S) → get_elem? vs i ≡ at.some v → f v ≤ total f vs
  total_one f [] i v e = absurd (at.some-ne-none v (sym e))
  total_one f (x ∷ xs) zero v e = let same : f x ≡ f v = ap f (at.some-injective x v e) in omega arith
  total_one f (x ∷ xs) (suc i) v e = let t = total_one f xs i v e in omega arith

  total_two : (f : (Front A R S) → ℕ) (vs : List (Front A R S)) (i j : ℕ) (v w : Front A R S) → i ≢ j → get_elem? vs i ≡ at.some v → get_elem? vs j ≡ at.some w → f v + f w ≤ total f vs
  total_two f [] i j v w ne a b = absurd (at.some-ne-none v (sym a))
  total_two f (x ∷ xs) zero zero v w ne a b = absurd (ne refl)
  total_two f (x ∷ xs) zero (suc j) v w ne a b = let same : f x ≡ f v = ap f (at.some-injective x v a) in let t = total_one f xs j w b in omega arith
  total_two f (x ∷ xs) (suc i) zero v w ne a b = let same : f x ≡ f w = ap f (at.some-injective x w b) in let t = total_one f xs i v a in omega arith
  total_two f (x ∷ xs) (suc i) (suc j) v w ne a b = let t = total_two f xs i j v w (λ e. ne (ap suc e)) a b in omega arith

  sole : (x y : Front A R S) (i : ℕ) → get_elem? (x ∷ []) i ≡ at.some y → (i ≡ 0) × (x ≡ y)
  sole x y zero e = (refl, at.some-injective x y e)
  sole x y (suc i) e = absurd (at.some-ne-none y (sym e))

  -- a pass's own number differs from those of the passes that were joined into it
  apart_own : (mine : List (Entry A R S)) (ended : List (Ended A R S)) → All (λ (g : Ended A R S). ¬ (IsOwn mine g.number)) ended → AreApart ended → AreApart (as_ended mine ++ ended)
  apart_own [] ended never apart = apart
  apart_own (e ∷ es) ended never apart = (λ k d lt is. never k d lt (sym is), apart)

  module _ (step : S → ℕ → A → R → S → Type 0) (may : S → ℕ → A → Type 0) (start : S) where
    abbrev Rule : State (Option (Resting A R S)) (Front A R S) → Type 0
    Rule = IsTurning step may start

    pub opens : (resting : Resting A R S) → resting.object ≡ start → Rule (opening (0 ∷ 0 ∷ []) (Some resting ∷ []) (first_front start))
    opens resting is = let first : (Front A R S) = first_front start in record {
      history = [];
      owner = λ _. 0;
      words = refl;
      room = omega arith;
      legal = record { happens = tt; numbered = tt };
      slot = inl (resting, refl, is);
      parts = omega arith;
      stages = λ i v e. subst (λ (z : Front A R S). (tickets z.stage ≤ z.parts) × FitsStage [] (0 + (0 + 0)) z.seen z.stage) (sole first v i e).1 (omega arith, tt);
      apart = λ i j v w t a b has _. absurd (subst (λ (z : Front A R S). HasTicket z.stage t) (sym (sole first v i a).1) has);
      known = λ i v e live. subst (λ (z : Front A R S). KnowsRight [] start (λ _. 0) i z) (sole first v i e).1 record { begins = refl; seen = ([], refl); shorter = ([], refl); own = tt; ended = All-nil (KeepsEnded [] [] (λ _. 0) i []); differ = tt };
      longest = (0, first, refl, omega arith, refl);
      covered = All-nil (IsKnown (λ _. 0) (first ∷ []));
    }

    -- who has all parts is the only one who is not spent
    alone : (s : State (Option (Resting A R S)) (Front A R S)) (r : Rule s) (id : ℕ) (v : Front A R S) → get_elem? s.views id ≡ at.some v → v.parts ≡ 2 ^ 40 → (j : ℕ) (d : Front A R S) → get_elem? s.views j ≡ at.some d → IsLive d → j ≡ id
    alone s r id v here all j d there live = dite (ℕ_discrete j id) (λ e. e)
        (λ ne. let t = total_two parts_in s.views j id d v ne there here in let p = r.parts in absurd (omega arith))

    pub legal_of : (history : List (Entry A R S)) (owner : ℕ → ℕ) (seat : ℕ) (v : Front A R S) → IsHistory step may start v.seen → KnowsRight history start owner seat v → IsLegalFront step may start v
    legal_of history owner seat v legal k = record {
      legal = legal;
      own = keeps_in_seen step may start history v.seen owner seat v.mine k.own;
      ended = λ m d lt. (k.ended m d lt).1;
    }

    pub record IsClosed (v : Front A R S) (slots : List (Option (Resting A R S))) : Type 0 where
      pub resting : Resting A R S
      pub there : get_elem? slots 0 ≡ at.some (Some resting)
      pub object : resting.object ≡ state_after start v.seen
      pub legal : IsLegalFront step may start v
      pub whole : IsWhole v
      pub differ : AreApart (as_ended v.mine ++ v.ended)

    pub closes : (id : ℕ) (v : Front A R S) (words : List ℕ) (slots : List (Option (Resting A R S))) → v.parts ≡ 2 ^ 40 → v.stage ≡ Idle → Final (Seen Rule id v) words slots → IsClosed v slots
    closes id v words slots all idle f =
        let s = f.0 in
        let r : Rule s = f.1.0 in
        let here : get_elem? s.views id ≡ at.some v = f.1.1 in
        let live : IsLive v = omega arith in
        let l = r.longest in
        let longest_here : v ≡ l.1 = at.some-injective v l.1 (sym here ∙ (sym (ap (λ (z : ℕ). get_elem? s.views z) (alone s r id v here all l.0 l.1 l.2 l.3)) ∙ l.2)) in
        let whole : v.seen ≡ r.history = ap (λ (z : Front A R S). z.seen) longest_here ∙ l.4 in
        let K : KnowsRight r.history start r.owner id v = r.known id v here live in
        let home : IsHome s.homes (state_after start r.history) = ⊎_elim (λ h. h) (λ (o : IsOut s.homes s.views (length r.history)).
        let x = o.1.1 in
        let one : tickets x.stage ≡ 1 = ap tickets o.1.3 in
        let fits = (r.stages o.1.0 x o.1.2).0 in
        let me : o.1.0 ≡ id = alone s r id v here all o.1.0 x o.1.2 (omega arith) in
        absurd (idle_not_serving v.stage (length r.history) idle (ap (λ (z : Front A R S). z.stage) (at.some-injective v x (sym here ∙ (sym (ap (λ (z : ℕ). get_elem? s.views z) me) ∙ o.1.2))) ∙ o.1.3))) r.slot in
        record {
          resting = home.0;
          there = f.4 0 (Some home.0) (ap (λ (hs : List (at.Option (Option (Resting A R S)))). get_elem? hs 0) home.1);
          object = home.2 ∙ ap (state_after start) (sym whole);
          legal = legal_of r.history r.owner id v (subst (IsHistory step may start) (sym whole) r.legal) K;
          whole = subst (λ (z : List (Entry A R S)). All (λ (e : Entry A R S). IsOwn v.mine e.caller ⊎ Any (λ (g : (Ended A R S)). g.number ≡ e.caller) v.ended) z) (sym whole)
              (λ k d lt. let c = r.covered k d lt in
              let me : r.owner (get_or r.history k d).caller ≡ id = alone s r id v here all _ c.0 c.1 c.2 in
              let same : c.0 ≡ v = at.some-injective c.0 v (sym c.1 ∙ (ap (λ (z : ℕ). get_elem? s.views z) me ∙ here)) in
              subst (λ (z : Front A R S). IsOwn z.mine (get_or r.history k d).caller ⊎ Any (λ (g : (Ended A R S)). g.number ≡ (get_or r.history k d).caller) z.ended) same c.3);
          differ = apart_own v.mine v.ended (λ k d lt. (K.ended k d lt).4) K.differ;
        }
