-- An actor whose workers call by passes of their own.
use Rattle.std.proofs.Common.{◌≡◌, ℕ, inl, inr, List, [], ◌∷◌, ◌++◌, sym, refl, ap, ◌∙◌, subst, append_assoc}
use Rattle.std.proofs.lemmas.List.{append-nil}
use Rattle.std.specs.List.{All}
use Rattle.std.proofs.lemmas.List.Elements.{All-nil, All-cons, All-head, All-tail}
use Rattle.turn_object.specs.declared.history.Entry.{Entry}
use Rattle.turn_object.specs.declared.history.Ended.{Ended}
use Rattle.turn_object.specs.declared.front.Front.{Front}
use Rattle.turn_object.specs.History.{state_after, StartsWith}
use Rattle.turn_object.specs.Callers.{made_by, MayBeOf, MayCallAs}
use Rattle.turn_object.specs.Ended.{as_ended, EndedIn}
use Rattle.turn_object.specs.Front.{KeepsIn, IsHistory, IsLegalFront}
use Rattle.mount_model.specs.Program.{Program}
use Rattle.mount_model.specs.Process.{Process, shares}
use Rattle.mount_model.specs.Calls.{AreCallsOfEach}
use Rattle.mount_model.specs.MakesCalls.{with_numbers}
use Rattle.mount_model.specs.Safe.{AreFree, IsSafeProcess, PassSafeProcess}
use Rattle.mount_model.specs.Going.{IsNumberOf, IsNewTo, HasJoined, HasMade, HasGone}
use Rattle.turn_object.proofs.Facts.{state_append, starts_after, happens_rest}
use Rattle.mount_model.proofs.Stories.Numbers.{none_since, numbers-append, can_be_number, could_be}
use Rattle.mount_model.proofs.Stories.Parts.{entries_both}
use Rattle.mount_model.proofs.Stories.Safety.{others_of}

All-last : {T : Type 0} (P : T → Type 0) (xs ys : List T) → All P (xs ++ ys) → All P ys
All-last P [] ys all = all
All-last P (x ∷ xs) ys all = All-last P xs ys (All-tail P x (xs ++ ys) all)

module _ {A R S : Type 0} where
  -- the calls of a pass that had none before are calls of a new caller
  pub absent_made : {X : Type 0} (u w : Front A R S) (p q : Program A R X) → HasMade u p w q → u.mine ≡ [] → KeepsIn w.seen w.mine → IsNewTo u.seen w.mine
  absent_made u w p q m none keeps = at w.mine refl
    where
      at : (mine : List (Entry A R S)) → w.mine ≡ mine → IsNewTo u.seen mine
      at [] is = tt
      at (e ∷ es) is =
          let own : KeepsIn w.seen (e ∷ es) = subst (λ (z : List (Entry A R S)). KeepsIn w.seen z) is keeps in
          let t = m.number e.caller (subst (λ (z : List (Entry A R S)). IsNumberOf e.caller w.seen z) (sym is) (refl, own)) in
          t.0.1 ∙ none

  -- in what came after, the new callers have all their entries
  keeps_after : (seen mid : List (Entry A R S)) (mades : List (List (Entry A R S))) → All (EndedIn (seen ++ mid)) (with_numbers mades) → All (IsNewTo seen) mades → All (KeepsIn mid) mades
  keeps_after seen mid [] gone absent = All-nil (KeepsIn mid)
  keeps_after seen mid ([] ∷ mades) gone absent = All-cons (KeepsIn mid) [] mades tt (keeps_after seen mid mades gone (All-tail (IsNewTo seen) [] mades absent))
  keeps_after seen mid ((e ∷ es) ∷ mades) gone absent =
      let it : Ended A R S = record { number = e.caller; entries = e ∷ es } in
      let all : made_by e.caller (seen ++ mid) ≡ e ∷ es = All-head (EndedIn (seen ++ mid)) it (with_numbers mades) gone in
      let none : made_by e.caller seen ≡ [] = All-head (IsNewTo seen) (e ∷ es) mades absent in
      All-cons (KeepsIn mid) (e ∷ es) mades (ap (λ (z : List (Entry A R S)). z ++ made_by e.caller mid) (sym none) ∙ (sym (entries_both e.caller seen mid) ∙ all))
      (keeps_after seen mid mades (All-tail (EndedIn (seen ++ mid)) it (with_numbers mades) gone) (All-tail (IsNewTo seen) (e ∷ es) mades absent))

  -- no pass of a worker was joined yet
  pub took_none : (v w : Front A R S) → w.seen ≡ v.seen → w.mine ≡ v.mine → w.ended ≡ v.ended → HasJoined v w []
  took_none v w seen mine ended = record { seen = ([], seen ∙ sym (append-nil v.seen)); mine = mine; ended = ended ∙ sym (append-nil v.ended) }

  -- one more was
  pub took_more : (v u w x : Front A R S) (mades : List (List (Entry A R S))) → HasJoined v u mades → StartsWith w.seen u.seen → w.mine ≡ u.mine → w.ended ≡ u.ended ++ (x.ended ++ as_ended x.mine) → x.ended ≡ [] → HasJoined v w (mades ++ x.mine ∷ [])
  took_more v u w x mades t seen mine ended none = record {
    seen = starts_after w.seen u.seen v.seen seen t.seen;
    mine = mine ∙ t.mine;
    ended = ended ∙ ((λ i. t.ended i ++ (none i ++ as_ended x.mine)) ∙ (append_assoc v.ended (with_numbers mades) (as_ended x.mine)
        ∙ ap (λ (z : List (Ended A R S)). v.ended ++ z) (ap (λ (z : List (Ended A R S)). with_numbers mades ++ z) (sym (append-nil (as_ended x.mine))) ∙ sym (numbers-append mades (x.mine ∷ [])))));
  }

  -- an actor that goes on by itself
  pub went_alone : {X L : Type 0} (v w : Front A R S) (ps : List (Program A R X)) (k : List X → Process A R X L) (alone q : Process A R X L) (lines : List L) → HasGone v alone w q lines → HasGone v (shares ps k alone) w q lines
  went_alone v w ps k alone q lines g = record {
    part = g.part;
    workers = g.workers;
    seen = g.seen;
    ended = g.ended;
    parts = g.parts;
    number = g.number;
    plays = λ n is more later after left plays. inr (g.plays n is more later after left plays);
  }

  module _ (step : S → ℕ → A → R → S → Type 0) (may : S → ℕ → A → Type 0) (start : S) where
    -- the workers' passes were joined, and the actor goes on with their results
    pub went_shares : {X L : Type 0} (v w : Front A R S) (ps : List (Program A R X)) (k : List X → Process A R X L) (alone : Process A R X L) (mades : List (List (Entry A R S))) (results : List X)
        → IsLegalFront step may start v → IsLegalFront step may start w → HasJoined v w mades → w.parts ≡ v.parts → AreCallsOfEach ps mades results → All (IsNewTo v.seen) mades → HasGone v (shares ps k alone) w (k results) []
    went_shares {X} {L} v w ps k alone mades results before now t parts made absent = record {
      part = t.seen.0;
      workers = mades;
      seen = t.seen.1;
      ended = t.ended;
      parts = parts;
      number = λ n is. (subst (λ (z : List (Entry A R S)). MayBeOf z n) t.mine is.0, (since n is).0);
      plays = λ n is more later after left plays.
          let b = since n is in
          let gone : All (EndedIn (v.seen ++ t.seen.0)) (v.ended ++ with_numbers mades) =
          subst (λ (z : List (Entry A R S) × List (Ended A R S)). All (EndedIn z.0) z.1) (λ i. (t.seen.1 i, t.ended i)) now.ended in
          inl (record {
            before = [];
            during = t.seen.0;
            after = more;
            these = mades;
            later = later;
            results = results;
            all = refl;
            none_before = refl;
            none_during = b.1;
            made = made;
            whole = keeps_after v.seen t.seen.0 mades (All-last (EndedIn (v.seen ++ t.seen.0)) v.ended (with_numbers mades) gone) absent;
            are = refl;
            goes_on = plays;
          });
    }
      where
        since : (n : ℕ) → IsNumberOf n w.seen w.mine → (made_by n v.seen ≡ v.mine) × (made_by n t.seen.0 ≡ [])
        since n is = none_since n v.seen t.seen.0 v.mine before.own (subst (λ (z : List (Entry A R S)). MayBeOf z n) t.mine is.0) (ap (made_by n) (sym t.seen.1) ∙ (is.1 ∙ t.mine))

    -- what a worker is to do is safe, by a pass that has seen the same
    pub safe_worker : {X L : Type 0} (v : Front A R S) (ps : List (Program A R X)) (k : List X → Process A R X L) (alone : Process A R X L) → PassSafeProcess step may start v (shares ps k alone) → (n : ℕ) → MayCallAs v.seen v.mine n → AreFree step may ps (state_after start v.seen)
    safe_worker v ps k alone s n can = ((s n can).0 [] tt).0

    -- after the workers the rest is safe
    pub safe_shares : {X L : Type 0} (v w : Front A R S) (ps : List (Program A R X)) (k : List X → Process A R X L) (alone : Process A R X L) (mades : List (List (Entry A R S))) (results : List X) → IsLegalFront step may start v → IsLegalFront step may start w → HasJoined v w mades → AreCallsOfEach ps mades results
        → PassSafeProcess step may start v (shares ps k alone) → PassSafeProcess step may start w (k results)
    safe_shares v w ps k alone mades results before now t made s caller can =
        let can' : MayCallAs (v.seen ++ t.seen.0) v.mine caller = subst (λ (z : List (Entry A R S) × List (Entry A R S)). MayCallAs z.0 z.1 caller) (λ i. (t.seen.1 i, t.mine i)) can in
        let own : KeepsIn (v.seen ++ t.seen.0) v.mine = subst (λ (z : List (Entry A R S) × List (Entry A R S)). KeepsIn z.0 z.1) (λ i. (t.seen.1 i, t.mine i)) now.own in
        let legal : IsHistory step may start (v.seen ++ t.seen.0) = subst (IsHistory step may start) t.seen.1 now.legal in
        let is = can_be_number step may start (v.seen ++ t.seen.0) v.mine caller legal own can' in
        let b = none_since caller v.seen t.seen.0 v.mine before.own is.0 is.1 in
        let others = others_of step may caller (state_after start v.seen) t.seen.0 (happens_rest step may start v.seen t.seen.0 legal.happens) b.1 in
        subst (λ (z : S). IsSafeProcess step may caller (k results) z) (sym (ap (state_after start) t.seen.1 ∙ state_append start v.seen t.seen.0))
        (((s caller (could_be v.seen t.seen.0 v.mine caller can')).0 t.seen.0 others).1 mades results made)

    pub safe_alone : {X L : Type 0} (v : Front A R S) (ps : List (Program A R X)) (k : List X → Process A R X L) (alone : Process A R X L) → PassSafeProcess step may start v (shares ps k alone) → PassSafeProcess step may start v alone
    safe_alone v ps k alone s n can = (s n can).1
