-- The droppings of a container are dealt to workers, each once.
use Rattle.std.proofs.Common.{◌≡◌, ◌≢◌, ℕ, zero, suc, ◌+◌, ◌-◌, ◌<◌, ◌≤◌, ◌%◌, ◌⊎◌, inl, inr, Bool, true, false, List, [], ◌∷◌, ◌++◌, map, refl, sym, ap, ◌∙◌, subst, arith, eq-eqb, ne_eqb}
use Rattle.std.specs.Prelude.{◌==◌}
use Rattle.std.specs.List.{All, AllByRecursion, range_with_len}
use mathlib.Core.Logic.{dite}
use native.Mathlib.Decide.{ℕ_discrete}
use Rattle.std.proofs.lemmas.List.Elements.{All-from_recursion, recursion_from_All}
use Rattle.std.proofs.Math.Nat.{mod-lt}
use Rattle.plain_file.proofs.Facts.{Among, All-Among}
use Rattle.index_reader.specs.declared.listing.Dropping.{Dropping as Listed}
use Rattle.index_reader.specs.Listing.{AreByWriter}
use Rattle.plfs_types.specs.Places.{IsAmong}
use Rattle.reader_laws.proofs.Gathered.Facts.{among_left, among_right, is_among}
use Rattle.reader_laws.specs.Opening.{Portion, droppings_of, WritersDiffer, AreDealt}
use Rattle.gather_flow.specs.Dealing.{its_own, dealt_to}
use Rattle.sharing_laws.specs.Dealing.{dealt_all}

-- ---- members

pub all_members : {X : Type 0} (P : X → Type 0) (xs : List X) → ((x : X) → Among x xs → P x) → AllByRecursion P xs
all_members P [] f = tt
all_members P (x ∷ xs) f = (f x (inl refl), all_members P xs (λ y a. f y (inr a)))

pub in_either : {X : Type 0} (x : X) (xs ys : List X) → Among x (xs ++ ys) → Among x xs ⊎ Among x ys
in_either x [] ys a = inr a
in_either x (y ∷ xs) ys (inl e) = inl (inl e)
in_either x (y ∷ xs) ys (inr a) = elim (in_either x xs ys a) as (λ _. Among x (y ∷ xs) ⊎ Among x ys) [ inl l ↦ inl (inr l) | inr r ↦ inr r ]

-- ---- one worker's

own_is : (b : Bool) (d e : Listed) → Among e (its_own b d) → (b ≡ true) × (e ≡ d)
own_is true d e (inl is) = (refl, is)
own_is true d e (inr a) = absurd a
own_is false d e a = absurd a

pub dealt_among : (workers worker j : ℕ) (ds : List Listed) (d : Listed) → Among d (dealt_to workers worker j ds) → Among d ds
dealt_among workers worker j [] d a = absurd a
dealt_among workers worker j (x ∷ ds) d a = elim (in_either d (its_own (j % workers == worker) x) (dealt_to workers worker (j + 1) ds) a) as (λ _. Among d (x ∷ ds)) [
  | inl here ↦ inl (own_is (j % workers == worker) x d here).1
  | inr later ↦ inr (dealt_among workers worker (j + 1) ds d later)
]

-- each of them was listed
pub dealt_listed : (workers worker : ℕ) (ds : List Listed) → All (λ (d : Listed). IsAmong d ds) (dealt_to workers worker 0 ds)
dealt_listed workers worker ds = All-from_recursion (λ (d : Listed). IsAmong d ds) _ (all_members (λ (d : Listed). IsAmong d ds) (dealt_to workers worker 0 ds) (λ d a. is_among ds d (dealt_among workers worker 0 ds d a)))

-- the number of a worker that has it
its_worker : (workers j : ℕ) (ds : List Listed) (d : Listed) → 1 ≤ workers → Among d ds → (worker : ℕ) × (worker < workers) × Among d (dealt_to workers worker j ds)
its_worker workers j [] d some a = absurd a
its_worker workers j (x ∷ ds) d some (inl e) = (
  j % workers,
  mod-lt j some,
  among_left d (its_own (j % workers == j % workers) x) (dealt_to workers (j % workers) (j + 1) ds) (subst (λ b. Among d (its_own b x)) (sym (eq-eqb (j % workers) (j % workers) refl)) (inl e)),
)
its_worker workers j (x ∷ ds) d some (inr a) =
    let w = its_worker workers (j + 1) ds d some a in
    (w.0, w.1, among_right d (its_own (j % workers == w.0) x) (dealt_to workers w.0 (j + 1) ds) w.2)

-- ---- writers differ

differ_head : (x : Listed) (ds : List Listed) (e : Listed) → WritersDiffer (x ∷ ds) → Among e ds → e.writer ≡ x.writer → ⊥
differ_head x ds e differ a = All-Among (λ (y : Listed). y.writer ≡ x.writer → ⊥) ds e differ.0 a

differ_own : (b : Bool) (x : Listed) (ds : List Listed) → ((e : Listed) → Among e ds → e.writer ≡ x.writer → ⊥) → WritersDiffer ds → WritersDiffer (its_own b x ++ ds)
differ_own true x ds apart differ = (all_members (λ (y : Listed). y.writer ≡ x.writer → ⊥) ds apart, differ)
differ_own false x ds apart differ = differ

dealt_differ : (workers worker j : ℕ) (ds : List Listed) → WritersDiffer ds → WritersDiffer (dealt_to workers worker j ds)
dealt_differ workers worker j [] differ = tt
dealt_differ workers worker j (x ∷ ds) differ =
    differ_own (j % workers == worker) x (dealt_to workers worker (j + 1) ds) (λ e a. differ_head x ds e differ (dealt_among workers worker (j + 1) ds e a)) (dealt_differ workers worker (j + 1) ds differ.1)

test_is : (a b : ℕ) → (a == b) ≡ true → a ≡ b
test_is a b t = dite (ℕ_discrete a b) (λ e. e) (λ ne. let f : (a == b) ≡ false = ne_eqb a b ne in let clash : true ≡ false = sym t ∙ f in absurd (cc))

dealt_apart : (workers one other j : ℕ) (ds : List Listed) → one ≢ other → WritersDiffer ds → (d e : Listed) → Among d (dealt_to workers one j ds) → Among e (dealt_to workers other j ds) → e.writer ≡ d.writer → ⊥
dealt_apart workers one other j [] ne differ d e a b same = absurd a
dealt_apart workers one other j (x ∷ ds) ne differ d e a b same =
    elim (in_either d (its_own (j % workers == one) x) (dealt_to workers one (j + 1) ds) a) as (λ _. ⊥) [
      | inl here ↦
          let i = own_is (j % workers == one) x d here in
          elim (in_either e (its_own (j % workers == other) x) (dealt_to workers other (j + 1) ds) b) as (λ _. ⊥) [
            | inl there ↦ ne (sym (test_is (j % workers) one i.0) ∙ test_is (j % workers) other (own_is (j % workers == other) x e there).0)
            | inr later ↦ differ_head x ds e differ (dealt_among workers other (j + 1) ds e later) (same ∙ ap (λ (z : Listed). z.writer) i.1)
          ]
      | inr mine ↦
          elim (in_either e (its_own (j % workers == other) x) (dealt_to workers other (j + 1) ds) b) as (λ _. ⊥) [
            | inl there ↦
                let i = own_is (j % workers == other) x e there in
                differ_head x ds d differ (dealt_among workers one (j + 1) ds d mine) (sym same ∙ ap (λ (z : Listed). z.writer) i.1)
            | inr later ↦ dealt_apart workers one other (j + 1) ds ne differ.1 d e mine later same
          ]
    ]

differ_both : (xs ys : List Listed) → WritersDiffer xs → WritersDiffer ys → ((d e : Listed) → Among d xs → Among e ys → e.writer ≡ d.writer → ⊥) → WritersDiffer (xs ++ ys)
differ_both [] ys a b apart = b
differ_both (x ∷ xs) ys a b apart = (
  all_members (λ (y : Listed). y.writer ≡ x.writer → ⊥) (xs ++ ys) (λ e m. elim (in_either e xs ys m) as (λ _. e.writer ≡ x.writer → ⊥) [ inl l ↦ differ_head x xs e a l | inr r ↦ apart x e (inl refl) r ]),
  differ_both xs ys a.1 b (λ d e l r. apart d e (inr l) r),
)

-- ---- all workers'

pub all_among : (workers : ℕ) (ds : List Listed) (numbers : List ℕ) (d : Listed) → Among d (dealt_all workers ds numbers) → Among d ds
all_among workers ds [] d a = absurd a
all_among workers ds (w ∷ numbers) d a = elim (in_either d (dealt_to workers w 0 ds) (dealt_all workers ds numbers) a) as (λ _. Among d ds) [
  | inl mine ↦ dealt_among workers w 0 ds d mine
  | inr others ↦ all_among workers ds numbers d others
]

has_all : (workers : ℕ) (ds : List Listed) (numbers : List ℕ) (w : ℕ) (d : Listed) → Among w numbers → Among d (dealt_to workers w 0 ds) → Among d (dealt_all workers ds numbers)
has_all workers ds [] w d at a = absurd at
has_all workers ds (x ∷ numbers) w d (inl e) a = among_left d (dealt_to workers x 0 ds) (dealt_all workers ds numbers) (subst (λ n. Among d (dealt_to workers n 0 ds)) e a)
has_all workers ds (x ∷ numbers) w d (inr at) a = among_right d (dealt_to workers x 0 ds) (dealt_all workers ds numbers) (has_all workers ds numbers w d at a)

in_range : (from n w : ℕ) → from ≤ w → w < from + n → Among w (range_with_len from n)
in_range from zero w low high = absurd (omega (arith, low, high))
in_range from (suc n) w low high = dite (ℕ_discrete w from) (λ e. inl e) (λ ne. inr (in_range (from + 1) n w (omega (arith, low, ne)) (omega (arith, high))))

range_from : (from n w : ℕ) → Among w (range_with_len from n) → from ≤ w
range_from from zero w a = absurd a
range_from from (suc n) w (inl e) = omega (arith, e)
range_from from (suc n) w (inr a) = omega (arith, range_from (from + 1) n w a)

all_differ : (workers : ℕ) (ds : List Listed) (from n : ℕ) → WritersDiffer ds → WritersDiffer (dealt_all workers ds (range_with_len from n))
all_differ workers ds from zero differ = tt
all_differ workers ds from (suc n) differ =
    differ_both (dealt_to workers from 0 ds) (dealt_all workers ds (range_with_len (from + 1) n)) (dealt_differ workers from 0 ds differ) (all_differ workers ds (from + 1) n differ)
    (λ d e l r. elsewhere (from + 1) n (omega arith) d e l r)
  where
    elsewhere : (k m : ℕ) → from < k → (d e : Listed) → Among d (dealt_to workers from 0 ds) → Among e (dealt_all workers ds (range_with_len k m)) → e.writer ≡ d.writer → ⊥
    elsewhere k zero lt d e l r = absurd r
    elsewhere k (suc m) lt d e l r = elim (in_either e (dealt_to workers k 0 ds) (dealt_all workers ds (range_with_len (k + 1) m)) r) as (λ _. e.writer ≡ d.writer → ⊥) [
      | inl here ↦ dealt_apart workers from k 0 ds (λ is. omega (arith, is, lt)) differ d e l here
      | inr later ↦ elsewhere (k + 1) m (omega (arith, lt)) d e l later
    ]

-- droppings by rising writer are of different writers
pub rising_differ : (ds : List Listed) → AreByWriter ds → WritersDiffer ds
rising_differ [] rise = tt
rising_differ (d ∷ ds) rise = (of ds (recursion_from_All (λ later. d.writer < later) (map (λ (x : Listed). x.writer) ds) rise.0), rising_differ ds rise.1)
  where
    of : (es : List Listed) → AllByRecursion (λ later. d.writer < later) (map (λ (x : Listed). x.writer) es) → AllByRecursion (λ (e : Listed). e.writer ≡ d.writer → ⊥) es
    of [] above = tt
    of (e ∷ es) above = ((λ is. omega (arith, is, above.0)), of es above.1)

-- The portions of all workers have each dropping once.
pub dealt : (workers : ℕ) (ds : List Listed) (portions : List Portion) → 1 ≤ workers → AreByWriter ds → droppings_of portions ≡ dealt_all workers ds (range_with_len 0 (workers - 0)) → AreDealt ds portions
dealt workers ds portions some rise are =
    let numbers : List ℕ = range_with_len 0 (workers - 0) in
    record {
      all = All-from_recursion (λ (d : Listed). IsAmong d (droppings_of portions)) ds (all_members (λ (d : Listed). IsAmong d (droppings_of portions)) ds (λ d a.
          let w = its_worker workers 0 ds d some a in
          is_among (droppings_of portions) d (subst (Among d) (sym are) (has_all workers ds numbers w.0 d (in_range 0 (workers - 0) w.0 (omega arith) (omega (arith, w.1))) w.2))));
      only = All-from_recursion (λ (d : Listed). IsAmong d ds) (droppings_of portions) (all_members (λ (d : Listed). IsAmong d ds) (droppings_of portions) (λ d a.
          is_among ds d (all_among workers ds numbers d (subst (Among d) are a))));
      once = subst WritersDiffer (sym are) (all_differ workers ds 0 (workers - 0) (rising_differ ds rise));
    }
