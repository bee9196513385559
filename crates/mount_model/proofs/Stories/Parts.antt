-- One caller's entries in a part of a history.
use Rattle.std.proofs.Common.{◌≡◌, ℕ, ◌≢◌, Bool, cond, List, [], ◌∷◌, ◌++◌, length, sym, refl, ap, ◌∙◌, subst, arith, eq-eqb, ne_eqb}
use Rattle.std.proofs.lemmas.List.Elements.{filter-append}
use mathlib.Core.Logic.{dite}
use native.Mathlib.Decide.{ℕ_discrete}
use Rattle.turn_object.specs.declared.history.Entry.{Entry}
use Rattle.turn_object.specs.Callers.{is_by, made_by}

module _ {A R S : Type 0} where
  pub entries_both : (n : ℕ) (xs ys : List (Entry A R S)) → made_by n (xs ++ ys) ≡ made_by n xs ++ made_by n ys
  entries_both n xs ys = filter-append (is_by n) xs ys

  -- two parts without entries of a caller
  pub none_both : (n : ℕ) (xs ys : List (Entry A R S)) → made_by n xs ≡ [] → made_by n ys ≡ [] → made_by n (xs ++ ys) ≡ []
  none_both n xs ys a b = entries_both n xs ys ∙ (ap (λ (z : List (Entry A R S)). z ++ made_by n ys) a ∙ b)

  pub entries_first : (n : ℕ) (x : Entry A R S) (xs : List (Entry A R S)) → x.caller ≡ n → made_by n (x ∷ xs) ≡ x ∷ made_by n xs
  entries_first n x xs is = ap (λ (b : Bool). cond b (x ∷ made_by n xs) (made_by n xs)) (eq-eqb x.caller n is)

  pub entries_not_first : (n : ℕ) (x : Entry A R S) (xs : List (Entry A R S)) → x.caller ≢ n → made_by n (x ∷ xs) ≡ made_by n xs
  entries_not_first n x xs ne = ap (λ (b : Bool). cond b (x ∷ made_by n xs) (made_by n xs)) (ne_eqb x.caller n ne)

  pub same_first : (x y : Entry A R S) (xs ys : List (Entry A R S)) → x ∷ xs ≡ y ∷ ys → x ≡ y
  same_first x y xs ys e = cc

  pub same_rest : (x y : Entry A R S) (xs ys : List (Entry A R S)) → x ∷ xs ≡ y ∷ ys → xs ≡ ys
  same_rest x y xs ys e = cc

  -- a part at its caller's first entry
  pub record AtFirst (n : ℕ) (part : List (Entry A R S)) (e : Entry A R S) (es : List (Entry A R S)) : Type 0 where
    pub before : List (Entry A R S)
    pub after : List (Entry A R S)
    pub all : part ≡ before ++ e ∷ after
    pub none : made_by n before ≡ []
    pub others : made_by n after ≡ es
    pub own : e.caller ≡ n

  pub at_first : (n : ℕ) (part : List (Entry A R S)) (e : Entry A R S) (es : List (Entry A R S)) → made_by n part ≡ e ∷ es → AtFirst n part e es
  at_first n [] e es is = let l : length {A = Entry A R S} [] ≡ length (e ∷ es) = ap length is in absurd (omega (arith, l))
  at_first n (x ∷ xs) e es is = dite (ℕ_discrete x.caller n)
      (λ own. let both : x ∷ made_by n xs ≡ e ∷ es = sym (entries_first n x xs own) ∙ is in
      let same = same_first x e (made_by n xs) es both in
      record {
        before = [];
        after = xs;
        all = ap (λ (z : Entry A R S). z ∷ xs) same;
        none = refl;
        others = same_rest x e (made_by n xs) es both;
        own = subst (λ (z : Entry A R S). z.caller ≡ n) same own;
      })
      (λ ne. let t = at_first n xs e es (sym (entries_not_first n x xs ne) ∙ is) in
      record {
        before = x ∷ t.before;
        after = t.after;
        all = ap (λ (z : List (Entry A R S)). x ∷ z) t.all;
        none = entries_not_first n x t.before ne ∙ t.none;
        others = t.others;
        own = t.own;
      })
