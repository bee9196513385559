-- Entries have one list of runs that are as long as they can be.
use Rattle.std.proofs.Common.{◌≡◌, ℕ, zero, suc, ◌+◌, ◌-◌, ◌*◌, ◌<◌, List, [], ◌∷◌, ◌++◌, length, refl, sym, ap, ◌∙◌, subst, arith, inl, inr}
use Rattle.std.proofs.lemmas.Bool.{cases_lt}
use Rattle.plfs_types.specs.declared.entries.Entry.{Entry}
use Rattle.index_pack.specs.declared.runs.Run.{Run}
use Rattle.index_pack.specs.Runs.{entry_of, entries_from, run_entries, entries_of, IsRun, CouldGoOn, AreMaximal}
use Rattle.index_pack.proofs.Following.{head_of, one_less}

-- ---- two runs, each with more entries behind it, that make one list

-- where one has more entries, the next entry of the list is one of its own
next_is : (r q : Run) (k n m : ℕ) (xs ys : List Entry) → entries_from r k n ++ xs ≡ entries_from q k m ++ ys → n < m
    → (rest : List Entry) × (xs ≡ entry_of q (k + n) ∷ rest)
next_is r q k n zero xs ys same lt = absurd (omega arith)
next_is r q k zero (suc m) xs ys same lt =
    (entries_from q (suc k) m ++ ys, same ∙ ap (λ (i : ℕ). entry_of q i ∷ (entries_from q (suc k) m ++ ys)) (omega arith))
next_is r q k (suc n) (suc m) xs ys same lt =
    let tails : entries_from r (suc k) n ++ xs ≡ entries_from q (suc k) m ++ ys = cc in
    let later = next_is r q (suc k) n m xs ys tails (omega arith) in
    (later.0, later.1 ∙ ap (λ (i : ℕ). entry_of q i ∷ later.0) (omega arith))

-- where they have as many, the rest is the same
rest_is : (r q : Run) (k n : ℕ) (xs ys : List Entry) → entries_from r k n ++ xs ≡ entries_from q k n ++ ys → xs ≡ ys
rest_is r q k zero xs ys same = same
rest_is r q k (suc n) xs ys same = let tails : entries_from r (suc k) n ++ xs ≡ entries_from q (suc k) n ++ ys = cc in rest_is r q (suc k) n xs ys tails

first_same : (r q : Run) (n m : ℕ) (xs ys : List Entry) → entries_from r 0 (suc n) ++ xs ≡ entries_from q 0 (suc m) ++ ys → entry_of r 0 ≡ entry_of q 0
first_same r q n m xs ys same = cc

second_same : (r q : Run) (n m : ℕ) (xs ys : List Entry) → entries_from r 0 (suc (suc n)) ++ xs ≡ entries_from q 0 (suc (suc m)) ++ ys → entry_of r 1 ≡ entry_of q 1
second_same r q n m xs ys same =
    let tails : entries_from r 1 (suc n) ++ xs ≡ entries_from q 1 (suc m) ++ ys = cc in cc

-- what two runs with the same first entry have in common
record HaveFirst (r q : Run) : Type 0 where
  start : r.start ≡ q.start
  len : r.len ≡ q.len
  physical : r.physical ≡ q.physical
  stamp : r.stamp ≡ q.stamp
  writer : r.writer ≡ q.writer

have_first : (r q : Run) → entry_of r 0 ≡ entry_of q 0 → HaveFirst r q
have_first r q same = record {
  start = omega (arith, ap (λ (e : Entry). e.at) same);
  len = ap (λ (e : Entry). e.len) same;
  physical = omega (arith, ap (λ (e : Entry). e.physical) same);
  stamp = omega (arith, ap (λ (e : Entry). e.stamp) same);
  writer = ap (λ (e : Entry). e.writer) same;
}

stride_same : (r q : Run) → HaveFirst r q → entry_of r 1 ≡ entry_of q 1 → r.stride ≡ q.stride
stride_same r q first same = omega (arith, ap (λ (e : Entry). e.at) same, first.start)

step_same : (r q : Run) → HaveFirst r q → entry_of r 1 ≡ entry_of q 1 → r.step ≡ q.step
step_same r q first same = omega (arith, ap (λ (e : Entry). e.stamp) same, first.stamp)

entries_same : (r q : Run) → HaveFirst r q → r.stride ≡ q.stride → r.step ≡ q.step → (k : ℕ) → entry_of r k ≡ entry_of q k
entries_same r q first strides steps k =
    let at_same : r.start + k * r.stride ≡ q.start + k * q.stride = ap (λ (n : ℕ). n + k * r.stride) first.start ∙ ap (λ (n : ℕ). q.start + k * n) strides in
    let physical_same : r.physical + k * r.len ≡ q.physical + k * q.len = ap (λ (n : ℕ). n + k * r.len) first.physical ∙ ap (λ (n : ℕ). q.physical + k * n) first.len in
    let stamp_same : r.stamp + k * r.step ≡ q.stamp + k * q.step = ap (λ (n : ℕ). n + k * r.step) first.stamp ∙ ap (λ (n : ℕ). q.stamp + k * n) steps in
    λ i. record { at = at_same i; len = first.len i; physical = physical_same i; stamp = stamp_same i; writer = first.writer i }

-- the shorter run could go on with the longer one's next entry
goes_on : (r q : Run) (xs ys : List Entry) → IsRun r → IsRun q → run_entries r ++ xs ≡ run_entries q ++ ys → r.count < q.count → CouldGoOn r (entry_of q r.count)
goes_on r q xs ys is_r is_q same lt =
    let n : ℕ = r.count - 1 in
    let m : ℕ = q.count - 1 in
    let R : ℕ → Type 0 = λ c. entries_from r 0 c ++ xs ≡ run_entries q ++ ys in
    let one : entries_from r 0 (suc n) ++ xs ≡ run_entries q ++ ys = subst R (one_less r is_r) same in
    let Q : ℕ → Type 0 = λ c. entries_from r 0 (suc n) ++ xs ≡ entries_from q 0 c ++ ys in
    let both : entries_from r 0 (suc n) ++ xs ≡ entries_from q 0 (suc m) ++ ys = subst Q (one_less q is_q) one in
    let first : HaveFirst r q = have_first r q (first_same r q n m xs ys both) in
    elim (cases_lt 1 r.count) [
      | inr alone ↦ inl (omega (arith, alone, is_r.counted), sym first.len, omega (arith, first.start))
      | inl several ↦ (
          let n2 : ℕ = r.count - 2 in
          let m2 : ℕ = q.count - 2 in
          let A : ℕ → Type 0 = λ c. entries_from r 0 c ++ xs ≡ entries_from q 0 q.count ++ ys in
          let B : ℕ → Type 0 = λ c. entries_from r 0 (suc (suc n2)) ++ xs ≡ entries_from q 0 c ++ ys in
          let two_r : r.count ≡ suc (suc n2) = omega (arith, several) in
          let two_q : q.count ≡ suc (suc m2) = omega (arith, several, lt) in
          let second : entry_of r 1 ≡ entry_of q 1 = second_same r q n2 m2 xs ys (subst B two_q (subst A two_r same)) in
          inr (several, sym (entries_same r q first (stride_same r q first second) (step_same r q first second) r.count)))
    ]

-- so the first run of such a list isn't shorter
not_shorter : (r q : Run) (rs qs : List Run) → AreMaximal (r ∷ rs) → AreMaximal (q ∷ qs) → entries_of (r ∷ rs) ≡ entries_of (q ∷ qs) → r.count < q.count → ⊥
not_shorter r q [] qs a b same lt =
    let next = next_is r q 0 r.count q.count [] (entries_of qs) same lt in
    let none : [] ≡ entry_of q (0 + r.count) ∷ next.0 = next.1 in
    omega (arith, ap length none)
not_shorter r q (s ∷ rs) qs a b same lt =
    let next = next_is r q 0 r.count q.count (entries_of (s ∷ rs)) (entries_of qs) same lt in
    let begins : entry_of s 0 ∷ (entries_from s 1 (s.count - 1) ++ entries_of rs) ≡ entry_of q (0 + r.count) ∷ next.0 =
    ap (λ (es : List Entry). es ++ entries_of rs) (sym (head_of s a.2.0)) ∙ next.1 in
    let is : entry_of s 0 ≡ entry_of q (0 + r.count) = cc in
    let index : 0 + r.count ≡ r.count = omega arith in
    let P : Entry → Type 0 = λ e. CouldGoOn r e in
    a.1 (subst P (sym (is ∙ ap (λ (i : ℕ). entry_of q i) index)) (goes_on r q (entries_of (s ∷ rs)) (entries_of qs) a.0 b.0 same lt))

count_same : (r q : Run) (rs qs : List Run) → AreMaximal (r ∷ rs) → AreMaximal (q ∷ qs) → entries_of (r ∷ rs) ≡ entries_of (q ∷ qs) → r.count ≡ q.count
count_same r q rs qs a b same = elim (cases_lt r.count q.count) [
  | inl lt ↦ absurd (not_shorter r q rs qs a b same lt)
  | inr ge ↦ elim (cases_lt q.count r.count) [
    | inl lt ↦ absurd (not_shorter q r qs rs b a (sym same) lt)
    | inr le ↦ omega arith
  ]
]

run_same : (r q : Run) (xs ys : List Entry) → IsRun r → IsRun q → r.count ≡ q.count → run_entries r ++ xs ≡ run_entries q ++ ys → r ≡ q
run_same r q xs ys is_r is_q counts same =
    let n : ℕ = r.count - 1 in
    let m : ℕ = q.count - 1 in
    let R : ℕ → Type 0 = λ c. entries_from r 0 c ++ xs ≡ run_entries q ++ ys in
    let Q : ℕ → Type 0 = λ c. entries_from r 0 (suc n) ++ xs ≡ entries_from q 0 c ++ ys in
    let both : entries_from r 0 (suc n) ++ xs ≡ entries_from q 0 (suc m) ++ ys = subst Q (one_less q is_q) (subst R (one_less r is_r) same) in
    let first : HaveFirst r q = have_first r q (first_same r q n m xs ys both) in
    let rises : (r.stride ≡ q.stride) × (r.step ≡ q.step) = elim (cases_lt 1 r.count) [
      | inr alone ↦ (
          let r_alone = is_r.alone (omega (arith, alone, is_r.counted)) in
          let q_alone = is_q.alone (omega (arith, alone, is_r.counted, counts)) in
          (r_alone.0 ∙ sym q_alone.0, r_alone.1 ∙ sym q_alone.1))
      | inl several ↦ (
          let n2 : ℕ = r.count - 2 in
          let m2 : ℕ = q.count - 2 in
          let A : ℕ → Type 0 = λ c. entries_from r 0 c ++ xs ≡ entries_from q 0 q.count ++ ys in
          let B : ℕ → Type 0 = λ c. entries_from r 0 (suc (suc n2)) ++ xs ≡ entries_from q 0 c ++ ys in
          let two_r : r.count ≡ suc (suc n2) = omega (arith, several) in
          let two_q : q.count ≡ suc (suc m2) = omega (arith, several, counts) in
          let second : entry_of r 1 ≡ entry_of q 1 = second_same r q n2 m2 xs ys (subst B two_q (subst A two_r same)) in
          (stride_same r q first second, step_same r q first second))
    ] in
    λ i. record {
      start = first.start i;
      stride = rises.0 i;
      len = first.len i;
      count = counts i;
      physical = first.physical i;
      stamp = first.stamp i;
      step = rises.1 i;
      writer = first.writer i;
    }

some_entries : (r : Run) (rs : List Run) → IsRun r → entries_of (r ∷ rs) ≡ [] → ⊥
some_entries r rs is none =
    let begins : entry_of r 0 ∷ (entries_from r 1 (r.count - 1) ++ entries_of rs) ≡ [] = ap (λ (es : List Entry). es ++ entries_of rs) (sym (head_of r is)) ∙ none in
    omega (arith, ap length begins)

pub runs_are_one : (rs qs : List Run) → AreMaximal rs → AreMaximal qs → entries_of rs ≡ entries_of qs → rs ≡ qs
runs_are_one [] [] a b same = refl
runs_are_one [] (q ∷ qs) a b same = absurd (some_entries q qs b.0 (sym same))
runs_are_one (r ∷ rs) [] a b same = absurd (some_entries r rs a.0 same)
runs_are_one (r ∷ rs) (q ∷ qs) a b same =
    let counts : r.count ≡ q.count = count_same r q rs qs a b same in
    let head : r ≡ q = run_same r q (entries_of rs) (entries_of qs) a.0 b.0 counts same in
    let P : ℕ → Type 0 = λ c. entries_from r 0 c ++ entries_of rs ≡ entries_from q 0 q.count ++ entries_of qs in
    let tail : rs ≡ qs = runs_are_one rs qs a.2 b.2 (rest_is r q 0 q.count (entries_of rs) (entries_of qs) (subst P counts same)) in
    cc
