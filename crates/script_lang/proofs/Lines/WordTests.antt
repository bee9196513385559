-- Tests of words, and what they tell.
use Rattle.std.proofs.Common.{◌≡◌, ◌≢◌, ℕ, ◌≤◌, ◌&&◌, ◌||◌, nat_le, not, Bool, true, false, List, [], ◌∷◌, length, get_or, refl, sym, inl, inr, arith}
use Rattle.std.specs.Prelude.{codes, ◌⊎◌}
use Rattle.std.specs.List.{list_all}
use Rattle.std.specs.Cmp.Lexicographic.{same_text, other_text}
use Rattle.std.proofs.lemmas.Bool.Decides.{nat_tests}
use Rattle.std.proofs.lemmas.List.Sums.{AllPass-from_list_all, list_all-from_AllPass}
use Rattle.script_lang.specs.ActorNames.{IsKeyword, IsActorName, is_word, is_lower_letter, is_actor_byte}
use Rattle.script_lang.specs.Names.{is_keyword, is_actor_name}

pub same_word : (a b : List ℕ) → is_word a b ≡ true → a ≡ b
same_word a b is = same_text a b (sym is)

pub other_word : (a b : List ℕ) → is_word a b ≡ false → a ≢ b
other_word a b is = other_text a b (sym is)

pub word_differs : (a b : List ℕ) → a ≢ b → is_word a b ≡ false
word_differs a b other = by (is_word a b) refl
  where
    by : (test : Bool) → is_word a b ≡ test → is_word a b ≡ false
    by false is = is
    by true is = absurd (other (same_word a b is))

none_of : (a b c : Bool) → a ≡ false → b ≡ false → c ≡ false → (a || b || c) ≡ false
none_of a b c ha hb hc = rw (ha, hb, hc) refl

pub no_keyword : (word : List ℕ) → (IsKeyword word → ⊥) → is_keyword word ≡ false
no_keyword word free =
    none_of (is_word word (codes "actor")) (is_word word (codes "phase")) (is_word word (codes "turn"))
    (word_differs word (codes "actor") (λ is. free (inl is)))
    (word_differs word (codes "phase") (λ is. free (inr (inl is))))
    (word_differs word (codes "turn") (λ is. free (inr (inr is))))

is_word_of : (a b : List ℕ) → a ≡ b → is_word a b ≡ true
is_word_of a b is = by (is_word a b) refl
  where
    by : (test : Bool) → is_word a b ≡ test → is_word a b ≡ true
    by true same = same
    by false same = absurd (other_word a b same is)

keyword_hides : (a b c : Bool) → (a || b || c) ≡ false → (a ≡ true) ⊎ (b ≡ true) ⊎ (c ≡ true) → ⊥
keyword_hides true b c none some = cc
keyword_hides false true c none some = cc
keyword_hides false false true none some = cc
keyword_hides false false false none (inl h) = cc
keyword_hides false false false none (inr (inl h)) = cc
keyword_hides false false false none (inr (inr h)) = cc

negated : (b : Bool) → not b ≡ true → b ≡ false
negated true is = cc
negated false is = refl

each_true : (a b c d : Bool) → (a && b && c && d) ≡ true → (a ≡ true) × (b ≡ true) × (c ≡ true) × (d ≡ true)
each_true true true true true is = (refl, refl, refl, refl)
each_true true true true false is = cc
each_true true true false d is = cc
each_true true false c d is = cc
each_true false b c d is = cc

all_true : (a b c d : Bool) → a ≡ true → b ≡ true → c ≡ true → d ≡ false → (a && b && c && not d) ≡ true
all_true a b c d ha hb hc hd = rw (ha, hb, hc, hd) refl

begins_some : (word : List ℕ) → is_lower_letter (get_or word 0 0) ≡ true → 1 ≤ length word
begins_some [] letter = cc
begins_some (b ∷ bytes) letter = omega arith

-- the test of an actor's name is the rule
pub is_name : (word : List ℕ) → is_actor_name word ≡ true → IsActorName word
is_name word is =
    let each = each_true (nat_le (length word) 16) (list_all is_actor_byte word) (is_lower_letter (get_or word 0 0)) (not (is_keyword word)) is in
    record {
      not_empty = begins_some word each.2;
      short = let h = each.0 in grind (arith, nat_tests);
      bytes = AllPass-from_list_all is_actor_byte word each.1;
      letter = each.2;
      free = λ word_is. let no = negated (is_keyword word) each.3 in absurd (is_free word no word_is);
    }
  where
    is_free : (w : List ℕ) → is_keyword w ≡ false → IsKeyword w → ⊥
    is_free w none (inl is) = let h = is_word_of w (codes "actor") is in keyword_hides (is_word w (codes "actor")) (is_word w (codes "phase")) (is_word w (codes "turn")) none (inl h)
    is_free w none (inr (inl is)) = let h = is_word_of w (codes "phase") is in keyword_hides (is_word w (codes "actor")) (is_word w (codes "phase")) (is_word w (codes "turn")) none (inr (inl h))
    is_free w none (inr (inr is)) = let h = is_word_of w (codes "turn") is in keyword_hides (is_word w (codes "actor")) (is_word w (codes "phase")) (is_word w (codes "turn")) none (inr (inr h))

pub name_passes : (word : List ℕ) → IsActorName word → is_actor_name word ≡ true
name_passes word rule =
    all_true (nat_le (length word) 16) (list_all is_actor_byte word) (is_lower_letter (get_or word 0 0)) (is_keyword word)
    (let h = rule.short in grind (arith, nat_tests)) (list_all-from_AllPass is_actor_byte word rule.bytes) rule.letter (no_keyword word rule.free)
