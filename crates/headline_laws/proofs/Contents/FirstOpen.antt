-- The first line of an actor that opened a writer, and what is told of the writer without one.
use Rattle.std.proofs.Common.{◌≡◌, ◌⊎◌, inl, inr, ℕ, Bool, true, false, nat_eq, List, [], ◌∷◌, ◌++◌, refl, sym, ap, ◌∙◌, arith, if◌then◌else◌}
use Rattle.std.specs.List.{AllByRecursion}
use Rattle.std.proofs.lemmas.Bool.Decides.{nat_tests}
use Rattle.plain_file.proofs.Facts.{Among}
use Rattle.script_lang.specs.declared.line.Outcome.{Outcome}
use Rattle.script_lang.specs.declared.line.Outcome.TheVariants as line
use Rattle.script_lang.specs.declared.script.Statement.{Statement}
use Rattle.headline.specs.Run.{Told}
use Rattle.headline.specs.Writers.{Account, account_of, nothing, told_of}

pub opened_by : (id : ℕ) (o : Outcome) → (o ≡ line.Opened id) ⊎ (o ≡ line.Opened id → ⊥)
opened_by id (line.Opened other) = by (nat_eq other id) refl
  where
    same_id : nat_eq other id ≡ true → other ≡ id
    same_id is = grind (arith, nat_tests)

    one : line.Opened other ≡ line.Opened id → other ≡ id
    one is = cc

    apart : nat_eq other id ≡ false → other ≡ id → ⊥
    apart off is = let on : nat_eq other id ≡ true = grind (arith, nat_tests) in let clash : true ≡ false = sym on ∙ off in absurd (cc)

    by : (b : Bool) → nat_eq other id ≡ b → (line.Opened other ≡ line.Opened id) ⊎ (line.Opened other ≡ line.Opened id → ⊥)
    by true is = inl (ap (λ k. line.Opened k) (same_id is))
    by false is = inr (λ same. apart is (one same))
opened_by id o = inr (λ is. cc)

abbrev pub OpensNot : ℕ → Told → Type 0
OpensNot id q = q.outcome ≡ line.Opened id → ⊥

pub record FirstOpen (id : ℕ) (xs : List Told) : Type 0 where
  pub pre : List Told
  pub o : Told
  pub post : List Told
  pub is : xs ≡ pre ++ o ∷ post
  pub says : o.outcome ≡ line.Opened id
  pub none : AllByRecursion (OpensNot id) pre

pub first_open : (id : ℕ) (xs : List Told) (q : Told) → Among q xs → q.outcome ≡ line.Opened id → FirstOpen id xs
first_open id [] q at says = absurd at
first_open id (x ∷ xs) q at says = by (opened_by id x.outcome) at (λ later. first_open id xs q later says)
  where
    by : (x.outcome ≡ line.Opened id) ⊎ (x.outcome ≡ line.Opened id → ⊥) → Among q (x ∷ xs) → (Among q xs → FirstOpen id xs) → FirstOpen id (x ∷ xs)
    by (inl is) there rest = record { pre = []; o = x; post = xs; is = refl; says = is; none = tt }
    by (inr not) (inl same) rest = absurd (not (ap (λ (z : Told). z.outcome) (sym same) ∙ says))
    by (inr not) (inr later) rest = (let f = rest later in record { pre = x ∷ f.pre; o = f.o; post = f.post; is = ap (λ z. x ∷ z) f.is; says = f.says; none = (not, f.none) })

-- of a writer that no line has opened nothing is told
told_none : (id cap : ℕ) (s : Statement) (o : Outcome) → (o ≡ line.Opened id → ⊥) → told_of id cap (nothing false) s o ≡ nothing false
told_none id cap s (line.Opened other) not = by (nat_eq other id) refl
  where
    same_id : nat_eq other id ≡ true → other ≡ id
    same_id is = grind (arith, nat_tests)

    by : (b : Bool) → nat_eq other id ≡ b → (if b then nothing true else nothing false) ≡ nothing false
    by true is = absurd (not (ap (λ k. line.Opened k) (same_id is)))
    by false is = refl
told_none id cap s o not = refl

pub none_told : (id cap : ℕ) (ts : List Told) → AllByRecursion (OpensNot id) ts → account_of id cap (nothing false) ts ≡ nothing false
none_told id cap [] none = refl
none_told id cap (t ∷ ts) none = ap (λ (a : Account). account_of id cap a ts) (told_none id cap t.statement t.outcome none.0) ∙ none_told id cap ts none.1

pub all_first : (P : Told → Type 0) (xs ys : List Told) → AllByRecursion P (xs ++ ys) → AllByRecursion P xs
all_first P [] ys all = tt
all_first P (x ∷ xs) ys all = (all.0, all_first P xs ys all.1)

pub all_rest : (P : Told → Type 0) (xs ys : List Told) → AllByRecursion P (xs ++ ys) → AllByRecursion P ys
all_rest P [] ys all = all
all_rest P (x ∷ xs) ys all = all_rest P xs ys all.1

pub account_more : (id cap : ℕ) (a : Account) (ts : List Told) (t : Told) → account_of id cap a (ts ++ t ∷ []) ≡ told_of id cap (account_of id cap a ts) t.statement t.outcome
account_more id cap a [] t = refl
account_more id cap a (q ∷ ts) t = account_more id cap (told_of id cap a q.statement q.outcome) ts t
