-- Under which numbers a pass calls, and which entries are its own.
use Rattle.std.proofs.Common.{◌≡◌, ℕ, List, [], ◌∷◌, ◌++◌, length, sym, refl, ap, ◌∙◌, subst, arith, length-append, append_assoc}
use Rattle.turn_object.specs.declared.history.Entry.{Entry}
use Rattle.turn_object.specs.declared.front.Front.{Front}
use Rattle.turn_object.specs.History.{entry}
use Rattle.turn_object.specs.Callers.{made_by, number_or, MayBeOf, MayCallAs}
use Rattle.turn_object.specs.Ended.{as_ended}
use Rattle.turn_object.specs.Front.{KeepsIn, IsHistory}
use Rattle.turn_object.specs.Calls.{IsCalled}
use Rattle.mount_model.specs.MakesCalls.{with_numbers}
use Rattle.mount_model.specs.Going.{IsNumberOf}
use Rattle.turn_object.proofs.Facts.{entries_same, none_above}
use Rattle.mount_model.proofs.Stories.Parts.{entries_both}

module _ {A R S : Type 0} where
  pub snoc_cancel : (xs ys : List (Entry A R S)) (e : Entry A R S) → xs ++ e ∷ [] ≡ ys ++ e ∷ [] → xs ≡ ys
  snoc_cancel [] [] e s = refl
  snoc_cancel [] (y ∷ ys) e s = let l = ap length s in let m = length-append ys (e ∷ []) in absurd (omega (arith, l, m))
  snoc_cancel (x ∷ xs) [] e s = let l = ap length s in let m = length-append xs (e ∷ []) in absurd (omega (arith, l, m))
  snoc_cancel (x ∷ xs) (y ∷ ys) e s = let a : x ≡ y = cc in let b : xs ++ e ∷ [] ≡ ys ++ e ∷ [] = cc in ap (λ (z : Entry A R S). z ∷ xs) a ∙ ap (λ (z : List (Entry A R S)). y ∷ z) (snoc_cancel xs ys e b)

  pub append_none : (xs ys : List (Entry A R S)) → xs ++ ys ≡ xs → ys ≡ []
  append_none xs [] e = refl
  append_none xs (y ∷ ys) e = let l = length-append xs (y ∷ ys) in let k : length (xs ++ y ∷ ys) ≡ length xs = ap length e in absurd (omega (arith, l, k))

  pub both_none : (xs ys : List (Entry A R S)) → xs ++ ys ≡ [] → (xs ≡ []) × (ys ≡ [])
  both_none [] ys e = (refl, e)
  both_none (x ∷ xs) ys e = let l : length (x ∷ (xs ++ ys)) ≡ length {A = Entry A R S} [] = ap length e in absurd (omega (arith, l))

  -- whose entries are all that the caller has later, and were all before, has none since
  pub none_since : (n : ℕ) (seen part mine : List (Entry A R S)) → KeepsIn seen mine → MayBeOf mine n → made_by n (seen ++ part) ≡ mine → (made_by n seen ≡ mine) × (made_by n part ≡ [])
  none_since n seen part [] keeps may all = both_none (made_by n seen) (made_by n part) (sym (entries_both n seen part) ∙ all)
  none_since n seen part (e ∷ es) keeps may all =
      let before : made_by n seen ≡ e ∷ es = subst (λ (z : ℕ). made_by z seen ≡ e ∷ es) (sym may) keeps in
      (before, append_none (e ∷ es) (made_by n part) (ap (λ (z : List (Entry A R S)). z ++ made_by n part) (sym before) ∙ (sym (entries_both n seen part) ∙ all)))

  pub one_number : (mine : List (Entry A R S)) (e : Entry A R S) (place n : ℕ) → e.caller ≡ number_or mine place → MayBeOf (mine ++ e ∷ []) n → (e.caller ≡ n) × MayBeOf mine n
  one_number [] e place n is may = (sym may, tt)
  one_number (x ∷ xs) e place n is may = (is ∙ sym may, may)

  pub numbers-append : (xs ys : List (List (Entry A R S))) → with_numbers (xs ++ ys) ≡ with_numbers xs ++ with_numbers ys
  numbers-append [] ys = refl
  numbers-append (x ∷ xs) ys = ap (λ z. as_ended x ++ z) (numbers-append xs ys) ∙ sym (append_assoc (as_ended x) (with_numbers xs) (with_numbers ys))

  -- and it could call under it before it saw more
  pub could_be : (seen part mine : List (Entry A R S)) (n : ℕ) → MayCallAs (seen ++ part) mine n → MayCallAs seen mine n
  could_be seen part [] n can = let l = length-append seen part in omega (arith, l, can)
  could_be seen part (e ∷ es) n can = can

  module _ (step : S → ℕ → A → R → S → Type 0) (may : S → ℕ → A → Type 0) (start : S) where
    -- a number under which a pass may call is a number of what it has
    pub can_be_number : (seen mine : List (Entry A R S)) (n : ℕ) → IsHistory step may start seen → KeepsIn seen mine → MayCallAs seen mine n → IsNumberOf n seen mine
    can_be_number seen [] n legal keeps can = (tt, none_above 0 n seen legal.numbered (omega (arith, can)))
    can_be_number seen (e ∷ es) n legal keeps can = (can, subst (λ (z : ℕ). made_by z seen ≡ e ∷ es) (sym can) keeps)

    -- the pass's number at a call
    pub called_number : (v w : Front A R S) (q : A) (reply : R) → KeepsIn v.seen v.mine → (c : IsCalled step may start v q reply w) → (n : ℕ) → IsNumberOf n w.seen w.mine
        → IsNumberOf n v.seen v.mine × (made_by n c.between ≡ []) × (c.caller ≡ n)
    called_number v w q reply keeps c n is =
        let e : Entry A R S = entry c.caller q reply c.after in
        let o = one_number v.mine e (length (v.seen ++ c.between)) n c.number (subst (λ (z : List (Entry A R S)). MayBeOf z n) c.mine is.0) in
        let all : made_by n ((v.seen ++ c.between) ++ e ∷ []) ≡ v.mine ++ e ∷ [] = ap (made_by n) (sym c.seen) ∙ (is.1 ∙ c.mine) in
        let before : made_by n (v.seen ++ c.between) ≡ v.mine = snoc_cancel (made_by n (v.seen ++ c.between)) v.mine e (sym (entries_same n (v.seen ++ c.between) e o.0) ∙ all) in
        let t = none_since n v.seen c.between v.mine keeps o.1 before in
        ((o.1, t.0), t.1, o.0)

    pub can_before_call : (v w : Front A R S) (q : A) (reply : R) (c : IsCalled step may start v q reply w) (n : ℕ) → MayCallAs w.seen w.mine n → (c.caller ≡ n) × MayCallAs v.seen v.mine n
    can_before_call v w q reply c n can = at v.mine refl
      where
        at : (mine : List (Entry A R S)) → v.mine ≡ mine → (c.caller ≡ n) × MayCallAs v.seen v.mine n
        at [] is =
            let e : Entry A R S = entry c.caller q reply c.after in
            let own : n ≡ c.caller = subst (λ (z : List (Entry A R S)). MayCallAs w.seen z n) (c.mine ∙ ap (λ (z : List (Entry A R S)). z ++ e ∷ []) is) can in
            let place : c.caller ≡ length (v.seen ++ c.between) = c.number ∙ ap (λ (z : List (Entry A R S)). number_or z (length (v.seen ++ c.between))) is in
            let l = length-append v.seen c.between in
            (sym own, subst (λ (z : List (Entry A R S)). MayCallAs v.seen z n) (sym is) (omega (arith, l, own, place)))
        at (x ∷ xs) is =
            let e : Entry A R S = entry c.caller q reply c.after in
            let own : n ≡ x.caller = subst (λ (z : List (Entry A R S)). MayCallAs w.seen z n) (c.mine ∙ ap (λ (z : List (Entry A R S)). z ++ e ∷ []) is) can in
            let place : c.caller ≡ x.caller = c.number ∙ ap (λ (z : List (Entry A R S)). number_or z (length (v.seen ++ c.between))) is in
            (place ∙ sym own, subst (λ (z : List (Entry A R S)). MayCallAs v.seen z n) (sym is) own)
