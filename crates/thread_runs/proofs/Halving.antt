-- What holds of calls at two parts of a list holds of the whole.
use Rattle.std.proofs.Common.{◌≡◌, ℕ, ◌+◌, ◌-◌, ◌<◌, inl, inr, List, ◌++◌, length, get_or, sym, refl, ap, ◌∙◌, subst, arith, length-append}
use Rattle.std.specs.Borrow.{MutBor}
use Rattle.std.specs.Fn.{Shared}
use Rattle.std.proofs.lemmas.List.{get_or_append_left, get_or-append_right, get_or_default}
use Rattle.std.proofs.lemmas.Bool.{cases_lt}
use Rattle.thread_runs.specs.Apart.{Takes, Leaves, TakesEach, LeavesEach}

module _ {F T : Type 0} (g : Shared F (MutBor T × Unit {0}) (Unit {0} × (MutBor T × Unit {0}))) (f : F) where
  pub takes_front : (all xs ys : List T) → all ≡ xs ++ ys → TakesEach g f all → TakesEach g f xs
  takes_front all xs ys is takes i p lt at =
      takes i p (omega (arith, lt, ap length is, length-append xs ys)) (at ∙ (sym (get_or_append_left xs ys p.now i lt) ∙ ap (λ z. get_or z i p.now) (sym is)))

  pub takes_back : (all xs ys : List T) → all ≡ xs ++ ys → TakesEach g f all → TakesEach g f ys
  takes_back all xs ys is takes i p lt at =
      let n = length xs in
      let back : n + i - n ≡ i = omega arith in
      takes (n + i) p (omega (arith, lt, ap length is, length-append xs ys))
      (at ∙ (ap (λ k. get_or ys k p.now) (sym back) ∙ (sym (get_or-append_right xs ys n (n + i) p.now refl (omega arith)) ∙ ap (λ z. get_or z (n + i) p.now) (sym is))))

  pub takes_one : (xs : List T) (i : ℕ) (x : T) → TakesEach g f xs → i < length xs → x ≡ get_or xs i x → Takes g f x
  takes_one xs i x takes lt is p at = takes i p lt (at ∙ (is ∙ get_or_default xs i x p.now lt))

  pub leaves_both : (all xs ys xs' ys' : List T) → all ≡ xs ++ ys → LeavesEach g f xs xs' → LeavesEach g f ys ys' → LeavesEach g f all (xs' ++ ys')
  leaves_both all xs ys xs' ys' is front back = record {
    len = (let a = front.len in let b = back.len in omega (arith, a, b, ap length is, length-append xs ys, length-append xs' ys'));
    each = λ i d lt.
        let n = length xs in
        let same : length xs' ≡ n = front.len in
        elim (cases_lt i n) as (λ _. Leaves g f (get_or all i d) (get_or (xs' ++ ys') i d)) [
          | inl low ↦
              let olds : get_or xs i d ≡ get_or all i d = sym (get_or_append_left xs ys d i low) ∙ ap (λ z. get_or z i d) (sym is) in
              let news : get_or xs' i d ≡ get_or (xs' ++ ys') i d = sym (get_or_append_left xs' ys' d i (omega (arith, low, same))) in
              both (get_or xs i d) (get_or all i d) (get_or xs' i d) (get_or (xs' ++ ys') i d) olds news (front.each i d low)
          | inr high ↦
              let olds : get_or ys (i - n) d ≡ get_or all i d = sym (get_or-append_right xs ys n i d refl high) ∙ ap (λ z. get_or z i d) (sym is) in
              let news : get_or ys' (i - n) d ≡ get_or (xs' ++ ys') i d = sym (get_or-append_right xs' ys' n i d same high) in
              both (get_or ys (i - n) d) (get_or all i d) (get_or ys' (i - n) d) (get_or (xs' ++ ys') i d) olds news (back.each (i - n) d (omega (arith, lt, high, ap length is, length-append xs ys)))
        ];
  }
    where
      both : (a b u v : T) → a ≡ b → u ≡ v → Leaves g f a u → Leaves g f b v
      both a b u v old new l = subst (λ z. Leaves g f z v) old (subst (λ z. Leaves g f a z) new l)
