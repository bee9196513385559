-- What happened, and under which numbers: one more entry, a beginning, and what comes after it.
use Rattle.std.proofs.Common.{◌≡◌, ℕ, ◌+◌, ◌<◌, ◌≤◌, ◌≢◌, Bool, cond, List, [], ◌∷◌, ◌++◌, length, sym, ap, ◌∙◌, refl, arith, eq-eqb, ne_eqb}
use Rattle.std.specs.List.{All}
use Rattle.std.proofs.lemmas.List.Elements.{All-cons}
use mathlib.Core.Logic.{dite}
use native.Mathlib.Decide.{ℕ_discrete}
use Rattle.turn_object.specs.declared.history.Entry.{Entry}
use Rattle.turn_object.specs.History.{state_after, Happens}
use Rattle.turn_object.specs.Callers.{made_by, AreNumbered}
use Rattle.turn_object.specs.Front.{IsHistory}

module _ {A R S : Type 0} where
  pub numbered_snoc : (place : ℕ) (xs : List (Entry A R S)) (e : Entry A R S) → AreNumbered place xs → e.caller ≤ place + length xs → AreNumbered place (xs ++ e ∷ [])
  numbered_snoc place [] e numbered low = (omega arith, tt)
  numbered_snoc place (x ∷ xs) e numbered low = (numbered.0, numbered_snoc (place + 1) xs e numbered.1 (omega arith))

  numbered_first : (place : ℕ) (xs ys : List (Entry A R S)) → AreNumbered place (xs ++ ys) → AreNumbered place xs
  numbered_first place [] ys numbered = tt
  numbered_first place (x ∷ xs) ys numbered = (numbered.0, numbered_first (place + 1) xs ys numbered.1)

  -- a number at or above the end of a numbered history has no entry in it
  pub none_above : (place n : ℕ) (xs : List (Entry A R S)) → AreNumbered place xs → place + length xs ≤ n → made_by n xs ≡ []
  none_above place n [] numbered le = refl
  none_above place n (x ∷ xs) numbered le = let low = numbered.0 in let ne : x.caller ≢ n = λ e. omega arith in
      ap (λ (b : Bool). cond b (x ∷ made_by n xs) (made_by n xs)) (ne_eqb x.caller n ne) ∙ none_above (place + 1) n xs numbered.1 (omega arith)

  -- each caller of a numbered history is below its end
  pub callers_below : (place : ℕ) (xs : List (Entry A R S)) → AreNumbered place xs → All (λ (e : Entry A R S). e.caller < place + length xs) xs
  callers_below place [] numbered = λ k d lt. absurd (omega arith)
  callers_below place (x ∷ xs) numbered = let low = numbered.0 in let rest = callers_below (place + 1) xs numbered.1 in
      All-cons (λ (e : Entry A R S). e.caller < place + length (x ∷ xs)) x xs (omega arith) (λ k d lt. let m = rest k d lt in omega arith)

  module _ (step : S → ℕ → A → R → S → Type 0) (may : S → ℕ → A → Type 0) where
    pub happens_snoc : (start : S) (xs : List (Entry A R S)) (e : Entry A R S) → Happens step may start xs → may (state_after start xs) e.caller e.ask → step (state_after start xs) e.caller e.ask e.reply e.after
        → Happens step may start (xs ++ e ∷ [])
    happens_snoc start [] e happens m st = (m, st, tt)
    happens_snoc start (x ∷ xs) e happens m st = (happens.0, happens.1, happens_snoc x.after xs e happens.2 m st)

    -- the rest of what happened did so from the state before it
    pub happens_rest : (start : S) (xs ys : List (Entry A R S)) → Happens step may start (xs ++ ys) → Happens step may (state_after start xs) ys
    happens_rest start [] ys happens = happens
    happens_rest start (x ∷ xs) ys happens = happens_rest x.after xs ys happens.2

    pub happens_first : (start : S) (xs ys : List (Entry A R S)) → Happens step may start (xs ++ ys) → Happens step may start xs
    happens_first start [] ys happens = tt
    happens_first start (x ∷ xs) ys happens = (happens.0, happens.1, happens_first x.after xs ys happens.2)

    -- a history stays one after one more allowed entry
    pub history_snoc : (start : S) (xs : List (Entry A R S)) (e : Entry A R S) → IsHistory step may start xs → e.caller ≤ length xs → may (state_after start xs) e.caller e.ask → step (state_after start xs) e.caller e.ask e.reply e.after
        → IsHistory step may start (xs ++ e ∷ [])
    history_snoc start xs e legal low m st = record {
      happens = happens_snoc start xs e legal.happens m st;
      numbered = numbered_snoc 0 xs e legal.numbered (omega (arith, low));
    }

    -- a beginning of a history is one
    pub history_first : (start : S) (xs ys : List (Entry A R S)) → IsHistory step may start (xs ++ ys) → IsHistory step may start xs
    history_first start xs ys legal = record {
      happens = happens_first start xs ys legal.happens;
      numbered = numbered_first 0 xs ys legal.numbered;
    }

    -- what a caller may ask it still may after entries of others
    pub may_along : ((old new : S) (caller other : ℕ) (ask : A) (asked : A) (reply : R) → other ≢ caller → may old caller ask → may old other asked → step old other asked reply new → may new caller ask)
        → (n : ℕ) (state : S) (ask : A) (rest : List (Entry A R S)) → Happens step may state rest → made_by n rest ≡ [] → may state n ask → may (state_after state rest) n ask
    may_along lasts n state ask [] happens none m = m
    may_along lasts n state ask (x ∷ xs) happens none m = dite (ℕ_discrete x.caller n)
        (λ is. let some_there : made_by n (x ∷ xs) ≡ x ∷ made_by n xs = ap (λ (b : Bool). cond b (x ∷ made_by n xs) (made_by n xs)) (eq-eqb x.caller n is) in
        let l : length (made_by n (x ∷ xs)) ≡ 0 = ap length none in let k : length (made_by n (x ∷ xs)) ≡ length (x ∷ made_by n xs) = ap length some_there in absurd (omega arith))
        (λ ne. let same : made_by n (x ∷ xs) ≡ made_by n xs = ap (λ (b : Bool). cond b (x ∷ made_by n xs) (made_by n xs)) (ne_eqb x.caller n ne) in
        may_along lasts n x.after ask xs happens.2 (sym same ∙ none) (lasts state x.after n x.caller ask x.ask x.reply ne m happens.0 happens.1))
