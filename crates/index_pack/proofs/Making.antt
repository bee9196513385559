-- All entries that can be packed have a packed index.
use Rattle.std.proofs.Common.{◌≡◌, ℕ, ◌+◌, ◌-◌, ◌*◌, ◌<◌, ◌≤◌, ◌^◌, List, [], ◌∷◌, ◌++◌, length, refl, sym, ap, ◌∙◌, subst, arith, inl, inr, ◌⊎◌, append_assoc}
use Rattle.std.specs.List.{AllByRecursion}
use Rattle.std.proofs.lemmas.Bool.{cases_lt}
use Rattle.std.proofs.lemmas.List.{append-nil, length-append}
use Rattle.std.proofs.Math.Nat.{mul-le-mul_right, mul-le-mul_left}
use Rattle.plfs_types.specs.declared.entries.Entry.{Entry}
use Rattle.index_entry.specs.Entries.{AreEntriesOf, logged, last_stamp}
use Rattle.index_pack.specs.declared.runs.Run.{Run}
use Rattle.index_pack.specs.RunEnds.{EndsWell}
use Rattle.index_pack.specs.Runs.{entry_of, entries_from, run_entries, entries_of, IsRun, CouldGoOn, AreMaximal}
use Rattle.index_pack.specs.Spelling.{FitsRun, Packs, pack_spelling}
use Rattle.index_pack.specs.Valid.{CanBePacked, AreValidBehind}
use Rattle.index_pack.proofs.Ends.{valid_ends_well}
use Rattle.index_pack.proofs.Following.{first_packed_of}
use Rattle.index_pack.proofs.Growing.{IsBehind, behind_last, few_runs, followed, followed_entries, last_shape, lengthened, lengthened_entries, one_more}
use Rattle.index_pack.proofs.Judging.{valid_of_owner}

-- ---- whether a run could go on

same_or_not : (a b : ℕ) → (a ≡ b) ⊎ (a ≡ b → ⊥)
same_or_not a b = elim (cases_lt a b) [
  | inl lt ↦ inr (λ same. omega (arith, lt, same))
  | inr ge ↦ elim (cases_lt b a) [
    | inl lt ↦ inr (λ same. omega (arith, lt, same))
    | inr le ↦ inl (omega (arith, ge, le))
  ]
]

same_entry_or_not : (e f : Entry) → (e ≡ f) ⊎ (e ≡ f → ⊥)
same_entry_or_not e f = elim (same_or_not e.at f.at) [
  | inr other ↦ inr (λ same. other (ap (λ (x : Entry). x.at) same))
  | inl at_same ↦ elim (same_or_not e.len f.len) [
    | inr other ↦ inr (λ same. other (ap (λ (x : Entry). x.len) same))
    | inl len_same ↦ elim (same_or_not e.physical f.physical) [
      | inr other ↦ inr (λ same. other (ap (λ (x : Entry). x.physical) same))
      | inl physical_same ↦ elim (same_or_not e.stamp f.stamp) [
        | inr other ↦ inr (λ same. other (ap (λ (x : Entry). x.stamp) same))
        | inl stamp_same ↦ elim (same_or_not e.writer f.writer) [
          | inr other ↦ inr (λ same. other (ap (λ (x : Entry). x.writer) same))
          | inl writer_same ↦ inl (λ i. record { at = at_same i; len = len_same i; physical = physical_same i; stamp = stamp_same i; writer = writer_same i })
        ]
      ]
    ]
  ]
]

goes_on_or_not : (r : Run) (e : Entry) → CouldGoOn r e ⊎ (CouldGoOn r e → ⊥)
goes_on_or_not r e = elim (same_or_not r.count 1) [
  | inl alone ↦ elim (same_or_not e.len r.len) [
    | inr other ↦ inr (λ could. elim could [ inl second ↦ other second.1 | inr later ↦ omega (arith, alone, later.0) ])
    | inl len ↦ elim (cases_lt e.at r.start) [
      | inl lt ↦ inr (λ could. elim could [ inl second ↦ omega (arith, lt, second.2) | inr later ↦ omega (arith, alone, later.0) ])
      | inr ge ↦ inl (inl (alone, len, ge))
    ]
  ]
  | inr several ↦ elim (cases_lt 1 r.count) [
    | inr le ↦ inr (λ could. elim could [ inl second ↦ several second.0 | inr later ↦ omega (arith, le, later.0) ])
    | inl lt ↦ elim (same_entry_or_not e (entry_of r r.count)) [
      | inl same ↦ inl (inr (lt, same))
      | inr other ↦ inr (λ could. elim could [ inl second ↦ several second.0 | inr later ↦ other later.1 ])
    ]
  ]
]

-- ---- the runs of one entry, and with one entry more

record HasEntries (entries : List Entry) : Type 0 where
  run : Run
  shape : IsRun run
  same : run_entries run ≡ entries

alone : (e : Entry) → HasEntries (e ∷ [])
alone e =
    let r : Run = record { start = e.at; stride = 0; len = e.len; count = 1; physical = e.physical; stamp = e.stamp; step = 0; writer = e.writer } in
    let at_same : e.at + 0 * 0 ≡ e.at = omega arith in
    let physical_same : e.physical + 0 * e.len ≡ e.physical = omega arith in
    let stamp_same : e.stamp + 0 * 0 ≡ e.stamp = omega arith in
    let first : entry_of r 0 ≡ e = λ i. record { at = at_same i; len = e.len; physical = physical_same i; stamp = stamp_same i; writer = e.writer } in
    record {
      run = r;
      shape = record { counted = omega arith; alone = λ one. (refl, refl); rises = λ lt. absurd (omega (arith, lt)) };
      same = ap (λ (x : Entry). x ∷ []) first;
    }

second : (r : Run) (e : Entry) → IsRun r → r.count ≡ 1 → e.len ≡ r.len → r.start ≤ e.at → IsBehind r e → HasEntries (run_entries r ++ e ∷ [])
second r e is one len ge behind =
    let q : Run = record { start = r.start; stride = e.at - r.start; len = r.len; count = 2; physical = r.physical; stamp = r.stamp; step = e.stamp - r.stamp; writer = r.writer } in
    let none : (r.count - 1) * r.step ≡ 0 * r.step = ap (λ (n : ℕ). (n - 1) * r.step) one in
    let later : r.stamp < e.stamp = omega (arith, behind.later, none) in
    let lens : r.count * r.len ≡ 1 * r.len = ap (λ (n : ℕ). n * r.len) one in
    let at_first : r.start + 0 * (e.at - r.start) ≡ r.start + 0 * r.stride = omega arith in
    let stamp_first : r.stamp + 0 * (e.stamp - r.stamp) ≡ r.stamp + 0 * r.step = omega arith in
    let first : entry_of q 0 ≡ entry_of r 0 = λ i. record { at = at_first i; len = r.len; physical = r.physical + 0 * r.len; stamp = stamp_first i; writer = r.writer } in
    let at_same : r.start + 1 * (e.at - r.start) ≡ e.at = omega (arith, ge) in
    let physical_same : r.physical + 1 * r.len ≡ e.physical = omega (arith, behind.place, lens) in
    let stamp_same : r.stamp + 1 * (e.stamp - r.stamp) ≡ e.stamp = omega (arith, later) in
    let next : entry_of q 1 ≡ e = λ i. record { at = at_same i; len = sym len i; physical = physical_same i; stamp = stamp_same i; writer = sym behind.owner i } in
    let own : run_entries r ≡ entry_of r 0 ∷ [] = ap (λ (n : ℕ). entries_from r 0 n) one in
    record {
      run = q;
      shape = record { counted = omega arith; alone = λ alone. absurd (omega (arith, alone)); rises = λ lt. omega (arith, later) };
      same = ap (λ (x : Entry). x ∷ entry_of q 1 ∷ []) first ∙ ap (λ (x : Entry). entry_of r 0 ∷ x ∷ []) next ∙ ap (λ (es : List Entry). es ++ e ∷ []) (sym own);
    }

further : (r : Run) (e : Entry) → IsRun r → 1 < r.count → e ≡ entry_of r r.count → HasEntries (run_entries r ++ e ∷ [])
further r e is several same = record {
  run = record r { count = r.count + 1 };
  shape = record { counted = omega arith; alone = λ alone. absurd (omega (arith, alone, several)); rises = λ lt. is.rises several };
  same = one_more r e (inr (several, same)) (λ alone. omega (arith, alone, several));
}

longer : (r : Run) (e : Entry) → IsRun r → CouldGoOn r e → IsBehind r e → HasEntries (run_entries r ++ e ∷ [])
longer r e is (inl to) behind = second r e is to.0 to.1 to.2 behind
longer r e is (inr to) behind = further r e is to.0 to.1

-- ---- the longest runs of all

record HasRuns (entries : List Entry) : Type 0 where
  runs : List Run
  maximal : AreMaximal runs
  same : entries_of runs ≡ entries

regrouped : (first : List Entry) (e : Entry) (es : List Entry) → (first ++ e ∷ []) ++ es ≡ first ++ e ∷ es
regrouped first e es = append_assoc first (e ∷ []) es

some_there : (first : List Entry) (e : Entry) → 1 ≤ length (first ++ e ∷ [])
some_there first e = omega (arith, length-append first (e ∷ []))

runs_with : (runs : List Run) (last : Run) (es : List Entry) → AreMaximal (runs ++ last ∷ []) → CanBePacked (entries_of (runs ++ last ∷ []) ++ es) → HasRuns (entries_of (runs ++ last ∷ []) ++ es)
runs_with runs last [] are can = record { runs = runs ++ last ∷ []; maximal = are; same = sym (append-nil (entries_of (runs ++ last ∷ []))) }
runs_with runs last (e ∷ es) are can =
    let so_far : List Entry = entries_of (runs ++ last ∷ []) in
    let whole : (so_far ++ e ∷ []) ++ es ≡ so_far ++ e ∷ es = regrouped so_far e es in
    let first : CanBePacked (so_far ++ e ∷ []) = first_packed_of (so_far ++ e ∷ []) es (some_there so_far e) (subst CanBePacked (sym whole) can) in
    let behind : IsBehind last e = behind_last runs last e are first in
    elim (goes_on_or_not last e) [
      | inl could ↦ (
          let q = longer last e (last_shape runs last are) could behind in
          let now : entries_of (runs ++ q.run ∷ []) ≡ so_far ++ e ∷ [] = lengthened_entries runs last q.run e q.same in
          let all : entries_of (runs ++ q.run ∷ []) ++ es ≡ so_far ++ e ∷ es = ap (λ (xs : List Entry). xs ++ es) now ∙ whole in
          subst HasRuns all (runs_with runs q.run es (lengthened runs last q.run e are q.shape q.same) (subst CanBePacked (sym all) can)))
      | inr cannot ↦ (
          let q = alone e in
          let now : entries_of ((runs ++ last ∷ []) ++ q.run ∷ []) ≡ so_far ++ e ∷ [] = followed_entries (runs ++ last ∷ []) q.run e q.same in
          let all : entries_of ((runs ++ last ∷ []) ++ q.run ∷ []) ++ es ≡ so_far ++ e ∷ es = ap (λ (xs : List Entry). xs ++ es) now ∙ whole in
          subst HasRuns all (runs_with (runs ++ last ∷ []) q.run es (followed runs last q.run e are q.shape q.same cannot) (subst CanBePacked (sym all) can)))
    ]

runs_of : (entries : List Entry) → CanBePacked entries → HasRuns entries
runs_of [] can = absurd (omega (arith, can.counted.0))
runs_of (e ∷ es) can =
    let q = alone e in
    let one : entries_of (q.run ∷ []) ≡ e ∷ [] = followed_entries [] q.run e q.same in
    let all : entries_of (q.run ∷ []) ++ es ≡ e ∷ es = ap (λ (xs : List Entry). xs ++ es) one in
    subst HasRuns all (runs_with [] q.run es (q.shape, tt, tt) (subst CanBePacked (sym all) can))

-- ---- and their bytes

-- a factor is no more than the product
factor : (n m : ℕ) → 1 ≤ n → m ≤ n * m
factor n m some = let once : 1 * m ≤ n * m = mul-le-mul_right m some in omega (arith, once)

rise_fits : (n m bound : ℕ) → (n ≡ 1 → m ≡ 0) → 1 ≤ n → (n - 1) * m ≤ bound → m ≤ bound
rise_fits n m bound none some product = elim (cases_lt 1 n) [
  | inl several ↦ (let once : m ≤ (n - 1) * m = factor (n - 1) m (omega (arith, several)) in omega (arith, once, product))
  | inr one ↦ omega (arith, none (omega (arith, one, some)))
]

run_fits : (writer last offset : ℕ) (r : Run) → EndsWell writer last offset r → writer < 2 ^ 64 → FitsRun r
run_fits writer last offset r well small =
    let strides : r.stride ≤ 2 ^ 40 = rise_fits r.count r.stride (2 ^ 40) (λ one. (well.shape.alone one).0) well.shape.counted (omega (arith, well.within)) in
    let steps : r.step ≤ 2 ^ 63 = rise_fits r.count r.step (2 ^ 63) (λ one. (well.shape.alone one).1) well.shape.counted (omega (arith, well.in_range)) in
    let counts : r.count * 1 ≤ r.count * r.len = mul-le-mul_left r.count well.some in
    record {
      start_fits = omega (arith, well.within);
      stride_fits = omega (arith, strides);
      len_fits = omega (arith, well.within);
      count_fits = omega (arith, counts, well.near);
      physical_fits = omega (arith, well.near, well.place);
      stamp_fits = omega (arith, well.in_range);
      step_fits = omega (arith, steps);
      writer_fits = omega (arith, well.owner, small);
    }

runs_fit : (writer last offset : ℕ) (runs : List Run) → AreValidBehind writer last offset runs → writer < 2 ^ 64 → AllByRecursion FitsRun runs
runs_fit writer last offset [] valid small = tt
runs_fit writer last offset (r ∷ runs) valid small = (
  run_fits writer last offset r (valid_ends_well writer last offset r runs valid.0) small,
  runs_fit writer (last_stamp last (run_entries r)) (offset + logged (run_entries r)) runs valid.1 small,
)

pub packing : (entries : List Entry) → (can : CanBePacked entries) → can.owner < 2 ^ 64 → (bytes : List ℕ) × Packs bytes entries
packing entries can small =
    let all = runs_of entries can in
    let P : List Entry → Type 0 = λ es. AreEntriesOf can.owner 0 0 es in
    let valid : AreValidBehind can.owner 0 0 all.runs =
    valid_of_owner can.owner all.runs all.maximal (subst P (sym all.same) can.in_order) (omega (arith, can.near, ap logged all.same)) in (
      pack_spelling (length entries) all.runs,
      record {
        valid = can;
        runs = all.runs;
        maximal = all.maximal;
        same = all.same;
        spells = record {
          counted = omega (arith, can.counted.1);
          runs_counted = omega (arith, can.counted.1, few_runs all.runs all.maximal, ap length all.same);
          runs_fit = runs_fit can.owner 0 0 all.runs valid small;
          spelled = refl;
        };
      },
    )
