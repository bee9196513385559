-- Laws of histories: entries of one caller, the state after them, and beginnings.
use Rattle.std.proofs.Common.{◌≡◌, ℕ, ◌≤◌, ◌≢◌, Bool, true, false, cond, List, [], ◌∷◌, ◌++◌, length, sym, refl, ap, ◌∙◌, arith, eq-eqb, ne_eqb, length-append, append_assoc, ltb}
use Rattle.std.proofs.lemmas.List.{append-nil}
use Rattle.std.proofs.lemmas.List.Elements.{filter-append}
use Rattle.turn_object.specs.declared.history.Entry.{Entry}
use Rattle.turn_object.specs.History.{state_after, StartsWith}
use Rattle.turn_object.specs.Callers.{is_by, made_by}
use Rattle.turn_object.specs.Shares.{longer, shorter_of}
use Rattle.std.proofs.lemmas.Bool.{ltb-false, ltb-true}

module _ {A R S : Type 0} where
  entries_of_one : (n : ℕ) (e : Entry A R S) (b : Bool) → is_by n e ≡ b → made_by n (e ∷ []) ≡ cond b (e ∷ []) []
  entries_of_one n e b is = ap (λ (z : Bool). cond z (e ∷ []) []) is

  -- one more entry of another caller
  pub entries_other : (n : ℕ) (xs : List (Entry A R S)) (e : Entry A R S) → e.caller ≢ n → made_by n (xs ++ e ∷ []) ≡ made_by n xs
  entries_other n xs e ne = filter-append (is_by n) xs (e ∷ []) ∙ (ap (λ (z : List (Entry A R S)). made_by n xs ++ z) (entries_of_one n e false (ne_eqb e.caller n ne)) ∙ append-nil (made_by n xs))

  -- one more entry of this caller
  pub entries_same : (n : ℕ) (xs : List (Entry A R S)) (e : Entry A R S) → e.caller ≡ n → made_by n (xs ++ e ∷ []) ≡ made_by n xs ++ e ∷ []
  entries_same n xs e is = filter-append (is_by n) xs (e ∷ []) ∙ ap (λ (z : List (Entry A R S)). made_by n xs ++ z) (entries_of_one n e true (eq-eqb e.caller n is))

  -- what begins a beginning begins the whole
  pub starts_after : (xs ys zs : List (Entry A R S)) → StartsWith xs ys → StartsWith ys zs → StartsWith xs zs
  starts_after xs ys zs a b = (b.0 ++ a.0, a.1 ∙ (ap (λ (l : List (Entry A R S)). l ++ a.0) b.1 ∙ append_assoc zs b.0 a.0))

  -- a beginning stays one after one more entry
  pub starts_snoc : (xs ys : List (Entry A R S)) (e : Entry A R S) → StartsWith xs ys → StartsWith (xs ++ e ∷ []) ys
  starts_snoc xs ys e a = (a.0 ++ e ∷ [], ap (λ (l : List (Entry A R S)). l ++ e ∷ []) a.1 ∙ append_assoc ys a.0 (e ∷ []))

  -- the state after the last entry is the one that stands in it
  pub state_snoc : (start : S) (xs : List (Entry A R S)) (e : Entry A R S) → state_after start (xs ++ e ∷ []) ≡ e.after
  state_snoc start [] e = refl
  state_snoc start (x ∷ xs) e = state_snoc x.after xs e

  -- the state after two parts, one after the other
  pub state_append : (start : S) (xs ys : List (Entry A R S)) → state_after start (xs ++ ys) ≡ state_after (state_after start xs) ys
  state_append start [] ys = refl
  state_append start (x ∷ xs) ys = state_append x.after xs ys

  append_left : (xs ys : List (Entry A R S)) → xs ++ ys ≡ xs → ys ≡ []
  append_left xs [] e = refl
  append_left xs (y ∷ ys) e = let l = length-append xs (y ∷ ys) in let k : length (xs ++ y ∷ ys) ≡ length xs = ap length e in absurd (omega (arith, l, k))

  -- whoever had all its entries before has none since
  pub none_since : (n : ℕ) (seen rest mine : List (Entry A R S)) → made_by n (seen ++ rest) ≡ mine → made_by n seen ≡ mine → made_by n rest ≡ []
  none_since n seen rest mine all before = append_left mine (made_by n rest) (ap (λ (z : List (Entry A R S)). z ++ made_by n rest) (sym before) ∙ (sym (filter-append (is_by n) seen rest) ∙ all))

  grow_none : (m xs ys : List (Entry A R S)) → (m ++ xs) ++ ys ≡ m → xs ≡ []
  grow_none m [] ys e = refl
  grow_none m (x ∷ xs) ys e = let l = length-append m (x ∷ xs) in let k = length-append (m ++ x ∷ xs) ys in let n : length ((m ++ x ∷ xs) ++ ys) ≡ length m = ap length e in absurd (omega (arith, l, k, n))

  abbrev rest_of : List (Entry A R S) → List (Entry A R S)
  rest_of [] = []
  rest_of (x ∷ xs) = xs

  abbrev first_or : (Entry A R S) → List (Entry A R S) → (Entry A R S)
  first_or d [] = d
  first_or d (x ∷ xs) = x

  -- two lists that begin each other are one
  pub squeeze : (xs ys : List (Entry A R S)) → StartsWith xs ys → StartsWith ys xs → ys ≡ xs
  squeeze xs ys a b = let none : b.0 ≡ [] = grow_none xs b.0 a.0 (ap (λ (z : List (Entry A R S)). z ++ a.0) (sym b.1) ∙ sym a.1) in b.1 ∙ (ap (λ (z : List (Entry A R S)). xs ++ z) none ∙ append-nil xs)

  -- of two beginnings of one list the shorter begins the longer
  begins_other : (xs a ys b : List (Entry A R S)) → xs ++ a ≡ ys ++ b → length xs ≤ length ys → StartsWith ys xs
  begins_other [] a ys b e le = (ys, refl)
  begins_other (x ∷ xs) a [] b e le = absurd (omega arith)
  begins_other (x ∷ xs) a (y ∷ ys) b e le = let t = begins_other xs a ys b (ap rest_of e) (omega arith) in (t.0, λ i. sym (ap (first_or x) e) i ∷ t.1 i)

  longer_by : (b : Bool) (h xs ys : List (Entry A R S)) → ltb (length xs) (length ys) ≡ b → StartsWith h xs → StartsWith h ys
      → StartsWith (cond b ys xs) xs × StartsWith (cond b ys xs) ys × StartsWith (cond b ys xs) (cond b xs ys)
  longer_by true h xs ys is x y = let lt = ltb-true (length xs) (length ys) is in
      let t = begins_other xs x.0 ys y.0 (sym x.1 ∙ y.1) (omega arith) in (t, ([], sym (append-nil ys)), t)
  longer_by false h xs ys is x y = let le = ltb-false (length xs) (length ys) is in
      let t = begins_other ys y.0 xs x.0 (sym y.1 ∙ x.1) (omega arith) in (([], sym (append-nil xs)), t, t)

  -- the longer of two beginnings of one history begins with both
  pub longer_begins : (h xs ys : List (Entry A R S)) → StartsWith h xs → StartsWith h ys → StartsWith (longer xs ys) xs × StartsWith (longer xs ys) ys × StartsWith (longer xs ys) (shorter_of xs ys)
  longer_begins h xs ys x y = longer_by (ltb (length xs) (length ys)) h xs ys refl x y

  longer_either : (P : List (Entry A R S) → Type 0) (b : Bool) (xs ys : List (Entry A R S)) → P xs → P ys → P (cond b ys xs)
  longer_either P true xs ys x y = y
  longer_either P false xs ys x y = x

  -- what holds of both histories holds of the longer
  pub longer_is : (P : List (Entry A R S) → Type 0) (xs ys : List (Entry A R S)) → P xs → P ys → P (longer xs ys)
  longer_is P xs ys x y = longer_either P (ltb (length xs) (length ys)) xs ys x y

  -- between a beginning that has all of a caller's entries and the whole there are no more of them
  pub still_all : (h seen seen' : List (Entry A R S)) → StartsWith h seen' → StartsWith seen' seen → (n : ℕ) (mine : List (Entry A R S)) → made_by n h ≡ mine → made_by n seen ≡ mine → made_by n seen' ≡ mine
  still_all h seen seen' a b n mine all before =
      let more : made_by n seen' ≡ mine ++ made_by n b.0 = ap (made_by n) b.1 ∙ (filter-append (is_by n) seen b.0 ∙ ap (λ (z : List (Entry A R S)). z ++ made_by n b.0) before) in
      let whole : made_by n seen' ++ made_by n a.0 ≡ mine = sym (filter-append (is_by n) seen' a.0) ∙ (ap (made_by n) (sym a.1) ∙ all) in
      let none : made_by n b.0 ≡ [] = grow_none mine (made_by n b.0) (made_by n a.0) (ap (λ (z : List (Entry A R S)). z ++ made_by n a.0) (sym more) ∙ whole) in
      more ∙ (ap (λ (z : List (Entry A R S)). mine ++ z) none ∙ append-nil mine)
