-- A table whose keys are the names of its values.
use Rattle.std.proofs.Common.{◌≡◌, ℕ, suc, ◌+◌, ◌≤◌, Bool, true, false, cond, not, List, [], ◌∷◌, ◌++◌, length, map, None, refl, ap, arith}
use Rattle.std.specs.List.{position_or_len, position}
use Rattle.std.specs.Map.{keys_of, values_of}
use Rattle.indexmap.specs.IndexMap.{insert_entry}
use Rattle.script_lang.specs.Names.{is_word}
use Rattle.script_lang.proofs.Scripts.Cuts.{unguarded}

module _ {K V : Type 0} (key : K → List ℕ) (name : V → List ℕ) where
  same_first : (t : List ℕ → Bool) (es : List (K × V)) → map (λ e. key e.0) es ≡ map (λ e. name e.1) es → position_or_len (λ k. t (key k)) (keys_of es) ≡ position_or_len (λ v. t (name v)) (values_of es)
  same_first t [] agree = refl
  same_first t (e ∷ es) agree =
      let head : key e.0 ≡ name e.1 = cc in
      let tail : map (λ e. key e.0) es ≡ map (λ e. name e.1) es = cc in
      rw (head, same_first t es tail) refl

  same_length : (es : List (K × V)) → length (keys_of es) ≡ length (values_of es)
  same_length [] = refl
  same_length (e ∷ es) = ap (λ n. suc n) (same_length es)

  -- a name is found at one place among the keys and among the values
  pub same_place : (t : List ℕ → Bool) (es : List (K × V)) → map (λ e. key e.0) es ≡ map (λ e. name e.1) es → position (λ k. t (key k)) (keys_of es) ≡ position (λ v. t (name v)) (values_of es)
  same_place t es agree = rw (same_first t es agree, same_length es) refl

  appended : (k : K) (v : V) (e : K × V) (es : List (K × V)) (same : Bool) → is_word (key k) (key e.0) ≡ same → (length (values_of es) ≤ position_or_len (λ w. is_word (name v) (name w)) (values_of es) → insert_entry (λ a b. is_word (key a) (key b)) es k v ≡ es ++ (k, v) ∷ []) → suc (length (values_of es)) ≤ cond (not same) (1 + position_or_len (λ w. is_word (name v) (name w)) (values_of es)) 0 → cond same ((e.0, v) ∷ es) (e ∷ insert_entry (λ a b. is_word (key a) (key b)) es k v) ≡ e ∷ (es ++ (k, v) ∷ [])
  appended k v e es true is rest none = absurd (omega arith)
  appended k v e es false is rest none =
      let fewer : length (values_of es) ≤ position_or_len (λ w. is_word (name v) (name w)) (values_of es) = omega arith in
      ap (λ others. e ∷ others) (rest fewer)

  inserted : (k : K) (v : V) (es : List (K × V)) → key k ≡ name v → map (λ e. key e.0) es ≡ map (λ e. name e.1) es → length (values_of es) ≤ position_or_len (λ w. is_word (name v) (name w)) (values_of es) → insert_entry (λ a b. is_word (key a) (key b)) es k v ≡ es ++ (k, v) ∷ []
  inserted k v [] named agree none = refl
  inserted k v (e ∷ es) named agree none =
      let head : key e.0 ≡ name e.1 = cc in
      let tail : map (λ e. key e.0) es ≡ map (λ e. name e.1) es = cc in
      let same : is_word (key k) (key e.0) ≡ is_word (name v) (name e.1) = rw (named, head) refl in
      appended k v e es (is_word (key k) (key e.0)) refl (inserted k v es named tail) (rw same none)

  -- a new name goes behind the others
  pub inserted_behind : (k : K) (v : V) (es : List (K × V)) → key k ≡ name v → map (λ e. key e.0) es ≡ map (λ e. name e.1) es → position (λ w. is_word (name v) (name w)) (values_of es) ≡ None → insert_entry (λ a b. is_word (key a) (key b)) es k v ≡ es ++ (k, v) ∷ []
  inserted_behind k v es named agree none = inserted k v es named agree (unguarded (position_or_len (λ w. is_word (name v) (name w)) (values_of es)) (length (values_of es)) _ refl none)

  -- and the table stays one of names
  pub agree_behind : (k : K) (v : V) (es : List (K × V)) → key k ≡ name v → map (λ e. key e.0) es ≡ map (λ e. name e.1) es → map (λ e. key e.0) (es ++ (k, v) ∷ []) ≡ map (λ e. name e.1) (es ++ (k, v) ∷ [])
  agree_behind k v [] named agree = rw named refl
  agree_behind k v (e ∷ es) named agree =
      let head : key e.0 ≡ name e.1 = cc in
      let tail : map (λ e. key e.0) es ≡ map (λ e. name e.1) es = cc in
      rw (head, agree_behind k v es named tail) refl

  pub values_behind : (k : K) (v : V) (es : List (K × V)) → values_of (es ++ (k, v) ∷ []) ≡ values_of es ++ v ∷ []
  values_behind k v [] = refl
  values_behind k v (e ∷ es) = ap (λ others. e.1 ∷ others) (values_behind k v es)
