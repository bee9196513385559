-- Which calls are those of a program, taken one by one.
use Rattle.std.proofs.Common.{◌≡◌, ◌≢◌, ◌⊎◌, inl, inr, ℕ, List, [], ◌∷◌, ◌++◌, sym, refl, subst}
use mathlib.Core.Logic.{dite}
use native.Mathlib.Decide.{ℕ_discrete}
use Rattle.turn_object.specs.declared.history.Entry.{Entry}
use Rattle.turn_object.specs.Callers.{made_by}
use Rattle.mount_model.specs.Program.{Program, followed_by, done, ask}
use Rattle.mount_model.specs.Calls.{AreCallsOf}
use Rattle.mount_model.proofs.Stories.Parts.{entries_first, entries_not_first}

module _ {A R S X : Type 0} where
  -- the next entry is another caller's, or the program's next call
  pub next_call : (n : ℕ) (q : A) (k : R → Program A R X) (e : Entry A R S) (es : List (Entry A R S)) (result : X) → AreCallsOf (ask q k) (made_by n (e ∷ es)) result
      → ((e.caller ≢ n) × AreCallsOf (ask q k) (made_by n es) result) ⊎ ((e.caller ≡ n) × (e.ask ≡ q) × AreCallsOf (k e.reply) (made_by n es) result)
  next_call n q k e es result calls = dite (ℕ_discrete e.caller n)
      (λ own. let here = subst (λ (z : List (Entry A R S)). AreCallsOf (ask q k) z result) (entries_first n e es own) calls in inr (own, here.0, here.1))
      (λ other. inl (other, subst (λ (z : List (Entry A R S)). AreCallsOf (ask q k) z result) (entries_not_first n e es other) calls))

  -- after a program's end only others call
  pub no_call : (n : ℕ) (x : X) (e : Entry A R S) (es : List (Entry A R S)) (result : X) → AreCallsOf {R = R} (done x) (made_by n (e ∷ es)) result → (e.caller ≢ n) × AreCallsOf {R = R} (done x) (made_by n es) result
  no_call n x e es result calls = dite (ℕ_discrete e.caller n)
      (λ own. let none : e ∷ made_by n es ≡ [] = subst (λ (z : List (Entry A R S)). z ≡ []) (entries_first n e es own) calls.0 in absurd (cc))
      (λ other. (other, subst (λ (z : List (Entry A R S)). AreCallsOf {R = R} (done x) z result) (entries_not_first n e es other) calls))

  -- another caller's entry before a program's calls
  pub after_another : (n : ℕ) (p : Program A R X) (e : Entry A R S) (es : List (Entry A R S)) (result : X) → e.caller ≢ n → AreCallsOf p (made_by n es) result → AreCallsOf p (made_by n (e ∷ es)) result
  after_another n p e es result other calls = subst (λ (z : List (Entry A R S)). AreCallsOf p z result) (sym (entries_not_first n e es other)) calls

  -- a call of the program, and the calls after its reply
  pub after_own : (n : ℕ) (q : A) (k : R → Program A R X) (e : Entry A R S) (es : List (Entry A R S)) (result : X) → e.caller ≡ n → e.ask ≡ q → AreCallsOf (k e.reply) (made_by n es) result → AreCallsOf (ask q k) (made_by n (e ∷ es)) result
  after_own n q k e es result own asked calls = subst (λ (z : List (Entry A R S)). AreCallsOf (ask q k) z result) (sym (entries_first n e es own)) (asked, calls)

  -- the calls of one program and then of another are those of both
  pub calls_of_both : {Y : Type 0} (p : Program A R Y) (next : Y → Program A R X) (first rest : List (Entry A R S)) (value : Y) (result : X) → AreCallsOf p first value → AreCallsOf (next value) rest result → AreCallsOf (followed_by p next) (first ++ rest) result
  calls_of_both (done y) next first rest value result a b =
      subst (λ (z : List (Entry A R S)). AreCallsOf (next y) (z ++ rest) result) (sym a.0) (subst (λ y. AreCallsOf (next y) rest result) (sym a.1) b)
  calls_of_both (ask q k) next [] rest value result a b = absurd a
  calls_of_both (ask q k) next (e ∷ first) rest value result a b = (a.0, calls_of_both (k e.reply) next first rest value result a.1 b)

-- The calls of both programs, one after the other.
pub record CallsInTwo {A R S X Y : Type 0} (p : Program A R Y) (next : Y → Program A R X) (calls : List (Entry A R S)) (result : X) : Type 0 where
  pub first : List (Entry A R S)
  pub rest : List (Entry A R S)
  pub value : Y
  pub all : calls ≡ first ++ rest
  pub made : AreCallsOf p first value
  pub then_made : AreCallsOf (next value) rest result

module _ {A R S X Y : Type 0} where
  pub in_two : (p : Program A R Y) (next : Y → Program A R X) (calls : List (Entry A R S)) (result : X) → AreCallsOf (followed_by p next) calls result → CallsInTwo p next calls result
  in_two (done y) next calls result a = record { first = []; rest = calls; value = y; all = refl; made = (refl, refl); then_made = a }
  in_two (ask q k) next [] result a = absurd a
  in_two (ask q k) next (e ∷ calls) result a =
      let t = in_two (k e.reply) next calls result a.1 in
      record { first = e ∷ t.first; rest = t.rest; value = t.value; all = λ i. e ∷ t.all i; made = (a.0, t.made); then_made = t.then_made }
