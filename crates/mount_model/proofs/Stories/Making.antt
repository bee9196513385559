-- A pass makes the calls of a program.
use Rattle.std.proofs.Common.{◌≡◌, ℕ, List, [], ◌∷◌, ◌++◌, sym, refl, ap, ◌∙◌, subst, append_assoc}
use Rattle.std.proofs.lemmas.List.{append-nil}
use Rattle.turn_object.specs.declared.history.Entry.{Entry}
use Rattle.turn_object.specs.declared.front.Front.{Front}
use Rattle.turn_object.specs.History.{entry}
use Rattle.turn_object.specs.Callers.{made_by}
use Rattle.turn_object.specs.Front.{KeepsIn}
use Rattle.turn_object.specs.Calls.{IsCalled}
use Rattle.mount_model.specs.Program.{Program, done, ask}
use Rattle.mount_model.specs.Calls.{AreCallsOf}
use Rattle.mount_model.specs.Going.{HasMade}
use Rattle.turn_object.proofs.Facts.{entries_same}
use Rattle.mount_model.proofs.Stories.Numbers.{called_number, can_before_call}
use Rattle.mount_model.proofs.Stories.Parts.{entries_both}

module _ {A R S : Type 0} where
  pub made_none : {X : Type 0} (v : Front A R S) (p : Program A R X) → HasMade v p v p
  made_none v p = record {
    part = [];
    calls = [];
    seen = sym (append-nil v.seen);
    mine = sym (append-nil v.mine);
    ended = refl;
    parts = refl;
    number = λ n is. (is, refl);
    made = λ more result a. a;
    could = λ n c. c;
  }

  -- what a program's result is once it was made
  pub all_made : {X : Type 0} (v w : Front A R S) (p : Program A R X) (x : X) (m : HasMade v p w (done x)) → AreCallsOf p m.calls x
  all_made v w p x m = subst (λ (z : List (Entry A R S)). AreCallsOf p z x) (append-nil m.calls) (m.made [] x (refl, refl))

  module _ (step : S → ℕ → A → R → S → Type 0) (may : S → ℕ → A → Type 0) (start : S) where
    -- one call more
    pub made_more : {X : Type 0} (v u w : Front A R S) (p : Program A R X) (q : A) (k : R → Program A R X) (reply : R) → KeepsIn u.seen u.mine → HasMade v p u (ask q k) → IsCalled step may start u q reply w → HasMade v p w (k reply)
    made_more {X} v u w p q k reply keeps m c =
        let e : Entry A R S = entry c.caller q reply c.after in
        record {
          part = m.part ++ (c.between ++ e ∷ []);
          calls = m.calls ++ e ∷ [];
          seen = c.seen ∙ (ap (λ (z : List (Entry A R S)). (z ++ c.between) ++ e ∷ []) m.seen ∙ (append_assoc (v.seen ++ m.part) c.between (e ∷ []) ∙ append_assoc v.seen m.part (c.between ++ e ∷ [])));
          mine = c.mine ∙ (ap (λ (z : List (Entry A R S)). z ++ e ∷ []) m.mine ∙ append_assoc v.mine m.calls (e ∷ []));
          ended = c.ended ∙ m.ended;
          parts = c.parts ∙ m.parts;
          number = λ n is.
              let t = called_number step may start u w q reply keeps c n is in
              let b = m.number n t.0 in
              let last : made_by n (c.between ++ e ∷ []) ≡ e ∷ [] = entries_same n c.between e t.2 ∙ ap (λ (z : List (Entry A R S)). z ++ e ∷ []) t.1 in
              (b.0, entries_both n m.part (c.between ++ e ∷ []) ∙ (λ i. b.1 i ++ last i));
          made = λ more result a. subst (λ (z : List (Entry A R S)). AreCallsOf p z result) (sym (append_assoc m.calls (e ∷ []) more)) (m.made (e ∷ more) result (refl, a));
          could = λ n c'. m.could n (can_before_call step may start u w q reply c n c').1;
        }
