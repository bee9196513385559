-- Runs with an entry more.
use Rattle.std.proofs.Common.{◌≡◌, ℕ, zero, suc, ◌+◌, ◌-◌, ◌*◌, ◌<◌, ◌≤◌, ◌^◌, List, [], ◌∷◌, ◌++◌, length, refl, sym, ap, ◌∙◌, subst, arith, inl, inr, add-one, append_assoc}
use Rattle.std.proofs.lemmas.List.{append-nil, length-append}
use Rattle.std.proofs.lemmas.List.Concat.{flat_map-append}
use Rattle.plfs_types.specs.declared.entries.Entry.{Entry}
use Rattle.index_entry.specs.Entries.{AreEntriesOf, logged, last_stamp}
use Rattle.index_pack.specs.declared.runs.Run.{Run}
use Rattle.index_pack.specs.RunEnds.{run_stamp}
use Rattle.index_pack.specs.Runs.{entry_of, entries_from, run_entries, entries_of, IsRun, CouldGoOn, AreMaximal}
use Rattle.index_pack.specs.Valid.{CanBePacked}
use Rattle.index_pack.proofs.Following.{first_of, rest_of, head_of, last_stamp-run_entries, logged-run_entries, length-run_entries}

-- ---- one run

-- the count doesn't matter for the entries before it
same_from : (r : Run) (count k n : ℕ) → entries_from (record r { count = count }) k n ≡ entries_from r k n
same_from r count k zero = refl
same_from r count k (suc n) = ap (λ (es : List Entry). entry_of r k ∷ es) (same_from r count (suc k) n)

more_from : (r : Run) (k n : ℕ) → entries_from r k (suc n) ≡ entries_from r k n ++ entry_of r (k + n) ∷ []
more_from r k zero = ap (λ (i : ℕ). entry_of r i ∷ []) (omega arith)
more_from r k (suc n) =
    ap (λ (es : List Entry). entry_of r k ∷ es) (more_from r (suc k) n
    ∙ ap (λ (i : ℕ). entries_from r (suc k) n ++ entry_of r i ∷ []) (omega arith))

-- one more behind the first so many
pub entries_further : (r : Run) (n : ℕ) → entries_from r 0 (n + 1) ≡ entries_from r 0 n ++ entry_of r n ∷ []
entries_further r n =
    ap (λ (m : ℕ). entries_from r 0 m) (add-one n)
    ∙ more_from r 0 n
    ∙ ap (λ (i : ℕ). entries_from r 0 n ++ entry_of r i ∷ []) (omega arith)

pub one_more : (r : Run) (e : Entry) → CouldGoOn r e → (r.count ≡ 1 → ⊥) → run_entries (record r { count = r.count + 1 }) ≡ run_entries r ++ e ∷ []
one_more r e (inl single) several = absurd (several single.0)
one_more r e (inr next) several =
    same_from r (r.count + 1) 0 (r.count + 1)
    ∙ entries_further r r.count
    ∙ ap (λ (x : Entry). run_entries r ++ x ∷ []) (sym next.1)

-- the first entry of a run
pub first_is : (r : Run) (e : Entry) (es : List Entry) → IsRun r → run_entries r ≡ e ∷ es → entry_of r 0 ≡ e
first_is r e es is same = let both : entry_of r 0 ∷ entries_from r 1 (r.count - 1) ≡ e ∷ es = sym (head_of r is) ∙ same in cc

pub first_stays : (r q : Run) (es : List Entry) → IsRun r → IsRun q → run_entries q ≡ run_entries r ++ es → entry_of q 0 ≡ entry_of r 0
first_stays r q es is_r is_q same =
    first_is q (entry_of r 0) (entries_from r 1 (r.count - 1) ++ es) is_q (same ∙ ap (λ (xs : List Entry). xs ++ es) (head_of r is_r))

-- ---- runs, and a last one

pub entries_of-push : (runs : List Run) (r : Run) → entries_of (runs ++ r ∷ []) ≡ entries_of runs ++ run_entries r
entries_of-push runs r = flat_map-append run_entries runs (r ∷ []) ∙ ap (λ (es : List Entry). entries_of runs ++ es) (append-nil (run_entries r))

pub last_shape : (runs : List Run) (r : Run) → AreMaximal (runs ++ r ∷ []) → IsRun r
last_shape [] r are = are.0
last_shape (q ∷ runs) r are = last_shape runs r are.2

pub replace_last : (runs : List Run) (r q : Run) → AreMaximal (runs ++ r ∷ []) → IsRun q → entry_of q 0 ≡ entry_of r 0 → AreMaximal (runs ++ q ∷ [])
replace_last [] r q are is same = (is, tt, tt)
replace_last (p ∷ []) r q are is same = let P : Entry → Type 0 = λ e. CouldGoOn p e → ⊥ in (are.0, subst P (sym same) are.1, (is, tt, tt))
replace_last (p ∷ o ∷ runs) r q are is same = (are.0, are.1, replace_last (o ∷ runs) r q are.2 is same)

pub push_last : (runs : List Run) (r q : Run) → AreMaximal (runs ++ r ∷ []) → IsRun q → (CouldGoOn r (entry_of q 0) → ⊥) → AreMaximal ((runs ++ r ∷ []) ++ q ∷ [])
push_last [] r q are is ends = (are.0, ends, (is, tt, tt))
push_last (p ∷ []) r q are is ends = (are.0, are.1, push_last [] r q are.2 is ends)
push_last (p ∷ o ∷ runs) r q are is ends = (are.0, are.1, push_last (o ∷ runs) r q are.2 is ends)

-- the entry is the one behind the run's entries
pub record IsBehind (r : Run) (e : Entry) : Type 0 where
  pub later : run_stamp r < e.stamp
  pub place : e.physical ≡ r.physical + r.count * r.len
  pub owner : e.writer ≡ r.writer
  pub few : r.count < 2 ^ 20

behind_run : (writer last offset : ℕ) (r : Run) (e : Entry) → IsRun r → AreEntriesOf writer last offset (run_entries r ++ e ∷ []) → r.count < 2 ^ 20 → IsBehind r e
behind_run writer last offset r e is are few =
    let firsts : AreEntriesOf writer last offset (entry_of r 0 ∷ entries_from r 1 (r.count - 1)) =
    subst (λ (es : List Entry). AreEntriesOf writer last offset es) (head_of r is) (first_of writer last offset (run_entries r) (e ∷ []) are) in
    let rest : AreEntriesOf writer (last_stamp last (run_entries r)) (offset + logged (run_entries r)) (e ∷ []) =
    rest_of writer last offset (offset + logged (run_entries r)) (run_entries r) (e ∷ []) refl are in
    record {
      later = omega (arith, rest.0.later, last_stamp-run_entries r last is);
      place = omega (arith, rest.0.place, logged-run_entries r, firsts.0.place);
      owner = rest.0.owner ∙ sym firsts.0.owner;
      few = few;
    }

pub behind_last : (runs : List Run) (r : Run) (e : Entry) → AreMaximal (runs ++ r ∷ []) → CanBePacked (entries_of (runs ++ r ∷ []) ++ e ∷ []) → IsBehind r e
behind_last runs r e are can =
    let regrouped : entries_of (runs ++ r ∷ []) ++ e ∷ [] ≡ entries_of runs ++ (run_entries r ++ e ∷ []) =
    ap (λ (es : List Entry). es ++ e ∷ []) (entries_of-push runs r) ∙ append_assoc (entries_of runs) (run_entries r) (e ∷ []) in
    let whole : AreEntriesOf can.owner 0 0 (entries_of runs ++ (run_entries r ++ e ∷ [])) =
    subst (λ (es : List Entry). AreEntriesOf can.owner 0 0 es) regrouped can.in_order in
    let rest : AreEntriesOf can.owner (last_stamp 0 (entries_of runs)) (logged (entries_of runs)) (run_entries r ++ e ∷ []) =
    rest_of can.owner 0 0 (logged (entries_of runs)) (entries_of runs) (run_entries r ++ e ∷ []) (omega arith) whole in
    let long : length (entries_of (runs ++ r ∷ []) ++ e ∷ []) ≡ length (entries_of runs) + (r.count + 1) =
    ap length regrouped ∙ length-append (entries_of runs) (run_entries r ++ e ∷ [])
    ∙ ap (λ (n : ℕ). length (entries_of runs) + n) (length-append (run_entries r) (e ∷ []) ∙ ap (λ (n : ℕ). n + 1) (length-run_entries r)) in
    behind_run can.owner (last_stamp 0 (entries_of runs)) (logged (entries_of runs)) r e (last_shape runs r are) rest (omega (arith, can.counted.1, long))

-- ---- the entry's run behind them, or the last run with the entry

pub lengthened : (runs : List Run) (r q : Run) (e : Entry) → AreMaximal (runs ++ r ∷ []) → IsRun q → run_entries q ≡ run_entries r ++ e ∷ [] → AreMaximal (runs ++ q ∷ [])
lengthened runs r q e are is same = replace_last runs r q are is (first_stays r q (e ∷ []) (last_shape runs r are) is same)

pub lengthened_entries : (runs : List Run) (r q : Run) (e : Entry) → run_entries q ≡ run_entries r ++ e ∷ [] → entries_of (runs ++ q ∷ []) ≡ entries_of (runs ++ r ∷ []) ++ e ∷ []
lengthened_entries runs r q e same =
    entries_of-push runs q
    ∙ ap (λ (es : List Entry). entries_of runs ++ es) same
    ∙ sym (append_assoc (entries_of runs) (run_entries r) (e ∷ []))
    ∙ ap (λ (es : List Entry). es ++ e ∷ []) (sym (entries_of-push runs r))

pub followed : (runs : List Run) (r q : Run) (e : Entry) → AreMaximal (runs ++ r ∷ []) → IsRun q → run_entries q ≡ e ∷ [] → (CouldGoOn r e → ⊥) → AreMaximal ((runs ++ r ∷ []) ++ q ∷ [])
followed runs r q e are is same ends =
    let P : Entry → Type 0 = λ x. CouldGoOn r x → ⊥ in
    push_last runs r q are is (subst P (sym (first_is q e [] is same)) ends)

pub followed_entries : (runs : List Run) (q : Run) (e : Entry) → run_entries q ≡ e ∷ [] → entries_of (runs ++ q ∷ []) ≡ entries_of runs ++ e ∷ []
followed_entries runs q e same = entries_of-push runs q ∙ ap (λ (es : List Entry). entries_of runs ++ es) same

-- there are no more runs than entries
pub few_runs : (runs : List Run) → AreMaximal runs → length runs ≤ length (entries_of runs)
few_runs [] are = omega arith
few_runs (r ∷ runs) are = omega (arith, are.0.counted, few_runs runs are.2, length-append (run_entries r) (entries_of runs), length-run_entries r)
