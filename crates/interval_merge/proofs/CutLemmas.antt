-- Truncates in order, and the limit that their cuts tell.
use Rattle.std.proofs.Common.{◌≡◌, ℕ, zero, suc, ◌<◌, ◌≤◌, ◌^◌, inl, inr, true, false, nat_lt, nat_le, min, List, [], ◌∷◌, length, get_or, refl, ◌∙◌, arith}
use Rattle.std.specs.Ordering.{is_lt, nat_cmp}
use Rattle.std.specs.List.{AllByRecursion, AllWithin}
use Rattle.std.specs.List.Sorted.{IsPermutation, IsPartitionedBy, IsSortedBy}
use Rattle.std.proofs.lemmas.Cmp.{nat_cmp_total, on_total}
use Rattle.std.proofs.lemmas.Bool.{cases_lt, cond-true, cond-false, lt-ltb, le-ltb, le-leb, leb-true, leb-false}
use Rattle.std.proofs.lemmas.Map.Keys.{ge_from_not_lt}
use Rattle.std.proofs.lemmas.List.Elements.{recursion_from_All, All-from_recursion}
use Rattle.std.proofs.lemmas.List.Sorted.{All-permutation, IsPermutation-sym}
use Rattle.plfs_types.specs.declared.entries.Trunc.{Trunc}
use Rattle.plain_file.proofs.Facts.{Descends, Descends-from_sort}
use Rattle.interval_merge.specs.Clip.{limit, StampsFall, SizesFall, AreWithin, AreCutsOf}
use Rattle.interval_merge.proofs.ClipLemmas.{limit-small}

-- the limit below a truncate, and below none

limit-passed : (t : Trunc) (truncs : List Trunc) (stamp : ℕ) → t.stamp < stamp → limit (t ∷ truncs) stamp ≡ limit truncs stamp
limit-passed t truncs stamp h = cond-true (nat_lt t.stamp stamp) (limit truncs stamp) (min t.size (limit truncs stamp)) (lt-ltb t.stamp stamp h)

limit-taken : (t : Trunc) (truncs : List Trunc) (stamp : ℕ) → stamp ≤ t.stamp → limit (t ∷ truncs) stamp ≡ min t.size (limit truncs stamp)
limit-taken t truncs stamp h = cond-false (nat_lt t.stamp stamp) (limit truncs stamp) (min t.size (limit truncs stamp)) (le-ltb t.stamp stamp h)

limit-none : (n stamp : ℕ) (truncs : List Trunc) → AllByRecursion (λ (u : Trunc). u.stamp ≤ n) truncs → n < stamp → limit truncs stamp ≡ 2 ^ 40
limit-none n stamp [] all h = refl
limit-none n stamp (t ∷ truncs) all h = limit-passed t truncs stamp (omega (arith, all.0)) ∙ limit-none n stamp truncs all.1 h

-- n is at most the size of each truncate with this stamp or a later one
abbrev IsBelow : ℕ → ℕ → Trunc → Type 0
IsBelow n stamp t = stamp ≤ t.stamp → n ≤ t.size

limit-bounds : (n stamp : ℕ) (truncs : List Trunc) → n ≤ limit truncs stamp → AllByRecursion (IsBelow n stamp) truncs
limit-bounds n stamp [] h = tt
limit-bounds n stamp (t ∷ truncs) h = elim (cases_lt t.stamp stamp) [
  | inl passed ↦ (λ taken. absurd (omega arith), limit-bounds n stamp truncs (omega (arith, limit-passed t truncs stamp passed)))
  | inr taken ↦ (λ _. omega (arith, limit-taken t truncs stamp taken), limit-bounds n stamp truncs (omega (arith, limit-taken t truncs stamp taken)))
]

limit-greatest : (n stamp : ℕ) (truncs : List Trunc) → n ≤ 2 ^ 40 → AllByRecursion (IsBelow n stamp) truncs → n ≤ limit truncs stamp
limit-greatest n stamp [] small all = small
limit-greatest n stamp (t ∷ truncs) small all = elim (cases_lt t.stamp stamp) [
  | inl passed ↦ omega (arith, limit-passed t truncs stamp passed, limit-greatest n stamp truncs small all.1)
  | inr taken ↦ (let first : n ≤ t.size = all.0 taken in omega (arith, limit-taken t truncs stamp taken, limit-greatest n stamp truncs small all.1))
]

limit-permuted_le : (stamp : ℕ) (truncs others : List Trunc) → IsPermutation truncs others → limit truncs stamp ≤ limit others stamp
limit-permuted_le stamp truncs others moved =
    let n : ℕ = limit truncs stamp in
    let P : Trunc → Type 0 = IsBelow n stamp in
    limit-greatest n stamp others (limit-small truncs stamp)
    (recursion_from_All P others (All-permutation P truncs others moved (All-from_recursion P truncs (limit-bounds n stamp truncs (omega arith)))))

-- truncates in another order have the same limits
pub limit-permuted : (stamp : ℕ) (truncs others : List Trunc) → IsPermutation truncs others → limit others stamp ≡ limit truncs stamp
limit-permuted stamp truncs others moved =
    omega (arith, limit-permuted_le stamp truncs others moved, limit-permuted_le stamp others truncs (IsPermutation-sym truncs others moved))

-- a sort by falling stamps

All-falls : (t : Trunc) (truncs : List Trunc) → AllByRecursion (λ (u : Trunc). is_lt (nat_cmp t.stamp u.stamp) ≡ false) truncs → AllByRecursion (λ (u : Trunc). u.stamp ≤ t.stamp) truncs
All-falls t [] all = tt
All-falls t (u ∷ truncs) all = (ge_from_not_lt t.stamp u.stamp all.0, All-falls t truncs all.1)

falls : (truncs : List Trunc) → Descends (λ (t u : Trunc). nat_cmp t.stamp u.stamp) truncs → StampsFall truncs
falls [] down = tt
falls (t ∷ truncs) down = (All-falls t truncs down.0, falls truncs down.1)

pub StampsFall-from_sort : (truncs : List Trunc) → IsSortedBy (λ (t u : Trunc). is_lt (nat_cmp u.stamp t.stamp)) truncs → StampsFall truncs
StampsFall-from_sort truncs up =
    falls truncs (Descends-from_sort (λ (t u : Trunc). nat_cmp t.stamp u.stamp) (on_total (λ (t : Trunc). t.stamp) nat_cmp_total) truncs up)

-- sizes that were lowered

-- the truncates, newest first, each with the least of its own size and those before it
abbrev pub lowered : ℕ → List Trunc → List Trunc
lowered least [] = []
lowered least (t ∷ truncs) = record { stamp = t.stamp; size = min least t.size } ∷ lowered (min least t.size) truncs

All-lowered : (n least : ℕ) (truncs : List Trunc) → AllByRecursion (λ (u : Trunc). u.stamp ≤ n) truncs → AllByRecursion (λ (u : Trunc). u.stamp ≤ n) (lowered least truncs)
All-lowered n least [] all = tt
All-lowered n least (t ∷ truncs) all = (all.0, All-lowered n (min least t.size) truncs all.1)

StampsFall-lowered : (least : ℕ) (truncs : List Trunc) → StampsFall truncs → StampsFall (lowered least truncs)
StampsFall-lowered least [] fall = tt
StampsFall-lowered least (t ∷ truncs) fall = (All-lowered t.stamp (min least t.size) truncs fall.0, StampsFall-lowered (min least t.size) truncs fall.1)

lowered-small : (n least : ℕ) (truncs : List Trunc) → least ≤ n → AllByRecursion (λ (u : Trunc). u.size ≤ n) (lowered least truncs)
lowered-small n least [] small = tt
lowered-small n least (t ∷ truncs) small = (omega arith, lowered-small n (min least t.size) truncs (omega arith))

SizesFall-lowered : (least : ℕ) (truncs : List Trunc) → SizesFall (lowered least truncs)
SizesFall-lowered least [] = tt
SizesFall-lowered least (t ∷ truncs) = (lowered-small (min least t.size) (min least t.size) truncs (omega arith), SizesFall-lowered (min least t.size) truncs)

-- below the least size they have the same limits
limit-lowered : (least stamp : ℕ) (truncs : List Trunc) → StampsFall truncs → min least (limit (lowered least truncs) stamp) ≡ min least (limit truncs stamp)
limit-lowered least stamp [] fall = refl
limit-lowered least stamp (t ∷ truncs) fall =
    let m : ℕ = min least t.size in
    let first : Trunc = record { stamp = t.stamp; size = m } in
    elim (cases_lt t.stamp stamp) [
      | inl passed ↦ omega (
        arith,
        limit-passed t truncs stamp passed,
        limit-passed first (lowered m truncs) stamp passed,
        limit-none t.stamp stamp truncs fall.0 passed,
        limit-none t.stamp stamp (lowered m truncs) (All-lowered t.stamp m truncs fall.0) passed,
      )
      | inr taken ↦ omega (arith, limit-taken t truncs stamp taken, limit-taken first (lowered m truncs) stamp taken, limit-lowered m stamp truncs fall.1)
    ]

pub AreCutsOf-lowered : (order : List Trunc) → StampsFall order → AreCutsOf order (lowered (2 ^ 40) order)
AreCutsOf-lowered order fall = record {
  fall = StampsFall-lowered (2 ^ 40) order fall;
  lower = SizesFall-lowered (2 ^ 40) order;
  within = lowered-small (2 ^ 40) (2 ^ 40) order (omega arith);
  limits = λ stamp. omega (arith, limit-lowered (2 ^ 40) stamp order fall, limit-small order stamp, limit-small (lowered (2 ^ 40) order) stamp);
}

-- cuts of truncates in another order
pub AreCutsOf-permuted : (truncs order cuts : List Trunc) → ((stamp : ℕ) → limit order stamp ≡ limit truncs stamp) → AreCutsOf order cuts → AreCutsOf truncs cuts
AreCutsOf-permuted truncs order cuts same c = record {
  fall = c.fall;
  lower = c.lower;
  within = c.within;
  limits = λ stamp. c.limits stamp ∙ same stamp;
}

-- a search among cuts

at_most : (of : Trunc → ℕ) (n : ℕ) (truncs : List Trunc) (j : ℕ) (d : Trunc) → AllByRecursion (λ (u : Trunc). of u ≤ n) truncs → j < length truncs → of (get_or truncs j d) ≤ n
at_most of n [] j d all h = absurd (omega arith)
at_most of n (t ∷ truncs) zero d all h = all.0
at_most of n (t ∷ truncs) (suc j) d all h = at_most of n truncs j d all.1 (omega arith)

parted : (stamp : ℕ) (cuts : List Trunc) → StampsFall cuts → IsPartitionedBy (λ (t : Trunc). nat_le stamp t.stamp) cuts
parted stamp [] fall i j d le lt h = absurd (omega arith)
parted stamp (t ∷ cuts) fall zero zero d le lt h = h
parted stamp (t ∷ cuts) fall (suc i) zero d le lt h = absurd (omega arith)
parted stamp (t ∷ cuts) fall zero (suc j) d le lt h =
    let below : (get_or cuts j d).stamp ≤ t.stamp = at_most (λ (u : Trunc). u.stamp) t.stamp cuts j d fall.0 (omega arith) in
    le-leb stamp t.stamp (omega (arith, leb-true stamp (get_or cuts j d).stamp h))
parted stamp (t ∷ cuts) fall (suc i) (suc j) d le lt h = parted stamp cuts fall.1 i j d (omega arith) (omega arith) h

pub partitioned : (stamp : ℕ) (cuts : List Trunc) → StampsFall cuts → IsPartitionedBy (λ (t : Trunc). nat_le stamp t.stamp) cuts
partitioned stamp cuts fall = λ i j d le lt h. parted stamp cuts fall i j d le lt h

pub limit-no_later : (stamp : ℕ) (cuts : List Trunc) → AllWithin (λ (t : Trunc). nat_le stamp t.stamp ≡ false) cuts 0 (length cuts) → limit cuts stamp ≡ 2 ^ 40
limit-no_later stamp [] older = refl
limit-no_later stamp (t ∷ cuts) older =
    limit-passed t cuts stamp (leb-false stamp t.stamp (older 0 t (omega arith) (omega arith)))
    ∙ limit-no_later stamp cuts (λ k d low high. older (suc k) d (omega arith) (omega arith))

pub limit-last : (stamp : ℕ) (cuts : List Trunc) (n : ℕ) (d : Trunc) → SizesFall cuts → AreWithin cuts → AllWithin (λ (t : Trunc). nat_le stamp t.stamp ≡ true) cuts 0 (suc n)
    → AllWithin (λ (t : Trunc). nat_le stamp t.stamp ≡ false) cuts (suc n) (length cuts) → n < length cuts → limit cuts stamp ≡ (get_or cuts n d).size
limit-last stamp [] n d lower within newer older h = absurd (omega arith)
limit-last stamp (t ∷ cuts) zero d lower within newer older h =
    let rest : limit cuts stamp ≡ 2 ^ 40 = limit-no_later stamp cuts (λ k e low high. older (suc k) e (omega arith) (omega arith)) in
    limit-taken t cuts stamp (leb-true stamp t.stamp (newer 0 t (omega arith) (omega arith))) ∙ omega (arith, rest, within.0)
limit-last stamp (t ∷ cuts) (suc n) d lower within newer older h =
    let rest : limit cuts stamp ≡ (get_or cuts n d).size =
    limit-last stamp cuts n d lower.1 within.1 (λ k e low high. newer (suc k) e (omega arith) (omega arith)) (λ k e low high. older (suc k) e (omega arith) (omega arith)) (omega arith) in
    let less : (get_or cuts n d).size ≤ t.size = at_most (λ (u : Trunc). u.size) t.size cuts n d lower.0 (omega arith) in
    limit-taken t cuts stamp (leb-true stamp t.stamp (newer 0 t (omega arith) (omega arith))) ∙ omega (arith, rest, less)
