-- What is told of the bytes of a packed index.
use Rattle.std.proofs.Common.{◌≡◌, ◌<◌, ◌≤◌, ◌+◌, ◌*◌, inl, inr, ℕ, zero, suc, nat_le, nat_lt, ◌==◌, ◌&&◌, true, if◌then◌else◌, List, [], ◌∷◌, length, take, None, Some, Ok, Err, refl, ap, ◌∙◌, sym, subst, arith}
use Rattle.std.specs.Prelude.{option_map}
use Rattle.std.specs.Bool.{Decides}
use Rattle.std.proofs.lemmas.Bool.{cases_Bool, cond-true, cond-false}
use Rattle.std.proofs.lemmas.Bool.Decides.{Decides-and, Decides-at, Decides-eqb, Decides-ltb, not_from_Decides}
use Rattle.plfs_types.specs.declared.entries.Entry.{Entry}
use Rattle.plfs_types.specs.declared.limits.TheConstants.{MAX_LOG, MAX_SIZE, MAX_STAMP}
use Rattle.index_entry.specs.Entries.{MayFollow, AreEntriesOf, logged, last_stamp}
use Rattle.index_entry.specs.Spelling.{number_in}
use Rattle.index_pack.specs.declared.runs.Run.{Run}
use Rattle.index_pack.specs.declared.trouble.TheConstants.{HEAD_SIZE, RUN_SIZE}
use Rattle.plfs_types.specs.declared.limits.TheConstants.{MAX_PACKED}
use Rattle.index_pack.specs.Bad.{HasHead, HasCount, HasLength, BreaksAt, BreaksFirst, IsBadAt}
use Rattle.index_pack.specs.Reading.{runs_in}
use Rattle.index_pack.specs.Runs.{IsRun, CouldGoOn, Ends, entry_of, run_entries, entries_of}
use Rattle.index_pack.specs.Spelling.{letters, Packs, SpellsRuns}
use Rattle.index_pack.specs.Valid.{IsCount, IsValidRun, AreValidBehind, AreValidRuns, writer_of}
use Rattle.index_pack.proofs.Facts.{packed_valid, count_spelled, head_spelled, length_spelled, runs_spelled}
use Rattle.index_reader.specs.Searching.{same_bytes}
use Rattle.index_reader.specs.Breaks.{unless_broken}
use Rattle.index_reader.specs.PackRules.{is_run, may_follow, are_entries, same_entry, could_go_on, ends_with, is_valid_run, bad_run, has_head, has_count, has_length, judged, pack_told}
use Rattle.index_reader.proofs.Indices.Deciding.{le_decides, bytes_decide, broken, not_decides}

-- ---- runs

run_decides : (r : Run) → Decides (is_run r) (IsRun r)
run_decides r = elim (cases_Bool (r.count == 1)) [
  | inl t ↦ (let e : r.count ≡ 1 = (Decides-eqb r.count 1).0 t in
      let d : Decides ((r.stride == 0) && (r.step == 0)) ((r.stride ≡ 0) × (r.step ≡ 0)) = Decides-and (r.stride == 0) (r.step == 0) (Decides-eqb r.stride 0) (Decides-eqb r.step 0) in
      let k : Decides ((r.stride == 0) && (r.step == 0)) (IsRun r) = (λ h. record { counted = omega (arith, e); alone = λ one. d.0 h; rises = λ more. absurd (omega (arith, e, more)) }, λ s. d.1 (s.alone e)) in
      Decides-at (is_run r) ((r.stride == 0) && (r.step == 0)) (cond-true (r.count == 1) ((r.stride == 0) && (r.step == 0)) (nat_lt 1 r.count && nat_le 1 r.step) t) k)
  | inr f ↦ (let ne : r.count ≡ 1 → ⊥ = not_from_Decides (r.count == 1) (Decides-eqb r.count 1) f in
      let d : Decides (nat_lt 1 r.count && nat_le 1 r.step) ((1 < r.count) × (1 ≤ r.step)) = Decides-and (nat_lt 1 r.count) (nat_le 1 r.step) (Decides-ltb 1 r.count) (le_decides 1 r.step) in
      let k : Decides (nat_lt 1 r.count && nat_le 1 r.step) (IsRun r) = (
        λ h. record { counted = omega (arith, (d.0 h).0); alone = λ one. absurd (ne one); rises = λ more. (d.0 h).1 },
        λ s. (let more : 1 < r.count = omega (arith, s.counted, ne) in d.1 (more, s.rises more)),
      ) in
      Decides-at (is_run r) (nat_lt 1 r.count && nat_le 1 r.step) (cond-false (r.count == 1) ((r.stride == 0) && (r.step == 0)) (nat_lt 1 r.count && nat_le 1 r.step) f) k)
]

follow_decides : (writer last offset : ℕ) (e : Entry) → Decides (may_follow writer last offset e) (MayFollow writer last offset e)
follow_decides writer last offset e =
    let d : Decides (may_follow writer last offset e) ((1 ≤ e.len) × ((e.at + e.len ≤ MAX_SIZE) × ((e.writer ≡ writer) × ((last < e.stamp) × ((e.stamp ≤ MAX_STAMP) × (e.physical ≡ offset)))))) =
    Decides-and (nat_le 1 e.len) _ (le_decides 1 e.len)
    (Decides-and (nat_le (e.at + e.len) MAX_SIZE) _ (le_decides (e.at + e.len) MAX_SIZE)
    (Decides-and (e.writer == writer) _ (Decides-eqb e.writer writer)
    (Decides-and (nat_lt last e.stamp) _ (Decides-ltb last e.stamp)
    (Decides-and (nat_le e.stamp MAX_STAMP) (e.physical == offset) (le_decides e.stamp MAX_STAMP) (Decides-eqb e.physical offset))))) in (
      λ t. (let h = d.0 t in record { some = h.0; within = h.1.0; owner = h.1.1.0; later = h.1.1.1.0; in_range = h.1.1.1.1.0; place = h.1.1.1.1.1 }),
      λ r. d.1 (r.some, (r.within, (r.owner, (r.later, (r.in_range, r.place))))),
    )

entries_decide : (writer last offset : ℕ) (es : List Entry) → Decides (are_entries writer last offset es) (AreEntriesOf writer last offset es)
entries_decide writer last offset [] = (λ t. tt, λ r. refl)
entries_decide writer last offset (e ∷ es) = Decides-and (may_follow writer last offset e) (are_entries writer e.stamp (offset + e.len) es) (follow_decides writer last offset e) (entries_decide writer e.stamp (offset + e.len) es)

same_decides : (e f : Entry) → Decides (same_entry e f) (e ≡ f)
same_decides e f =
    let d : Decides (same_entry e f) ((e.at ≡ f.at) × ((e.len ≡ f.len) × ((e.physical ≡ f.physical) × ((e.stamp ≡ f.stamp) × (e.writer ≡ f.writer))))) =
    Decides-and (e.at == f.at) _ (Decides-eqb e.at f.at)
    (Decides-and (e.len == f.len) _ (Decides-eqb e.len f.len)
    (Decides-and (e.physical == f.physical) _ (Decides-eqb e.physical f.physical)
    (Decides-and (e.stamp == f.stamp) (e.writer == f.writer) (Decides-eqb e.stamp f.stamp) (Decides-eqb e.writer f.writer)))) in (
      λ t. (let h = d.0 t in λ i. record { at = h.0 i; len = h.1.0 i; physical = h.1.1.0 i; stamp = h.1.1.1.0 i; writer = h.1.1.1.1 i }),
      λ s. d.1 (ap (λ (x : Entry). x.at) s, (ap (λ (x : Entry). x.len) s, (ap (λ (x : Entry). x.physical) s, (ap (λ (x : Entry). x.stamp) s, ap (λ (x : Entry). x.writer) s)))),
    )

go_on_decides : (r : Run) (e : Entry) → Decides (could_go_on r e) (CouldGoOn r e)
go_on_decides r e = elim (cases_Bool (r.count == 1)) [
  | inl t ↦ (let one : r.count ≡ 1 = (Decides-eqb r.count 1).0 t in
      let d : Decides ((e.len == r.len) && nat_le r.start e.at) ((e.len ≡ r.len) × (r.start ≤ e.at)) = Decides-and (e.len == r.len) (nat_le r.start e.at) (Decides-eqb e.len r.len) (le_decides r.start e.at) in
      let k : Decides ((e.len == r.len) && nat_le r.start e.at) (CouldGoOn r e) = (
        λ h. inl (one, (d.0 h).0, (d.0 h).1),
        λ s. elim s as (λ _. ((e.len == r.len) && nat_le r.start e.at) ≡ true) [
          | inl a ↦ d.1 (a.1, a.2)
          | inr b ↦ absurd (omega (arith, one, b.0))
        ],
      ) in
      Decides-at (could_go_on r e) ((e.len == r.len) && nat_le r.start e.at) (cond-true (r.count == 1) ((e.len == r.len) && nat_le r.start e.at) (nat_lt 1 r.count && same_entry e (entry_of r r.count)) t) k)
  | inr f ↦ (let ne : r.count ≡ 1 → ⊥ = not_from_Decides (r.count == 1) (Decides-eqb r.count 1) f in
      let d : Decides (nat_lt 1 r.count && same_entry e (entry_of r r.count)) ((1 < r.count) × (e ≡ entry_of r r.count)) =
      Decides-and (nat_lt 1 r.count) (same_entry e (entry_of r r.count)) (Decides-ltb 1 r.count) (same_decides e (entry_of r r.count)) in
      let k : Decides (nat_lt 1 r.count && same_entry e (entry_of r r.count)) (CouldGoOn r e) = (
        λ h. inr ((d.0 h).0, (d.0 h).1),
        λ s. elim s as (λ _. (nat_lt 1 r.count && same_entry e (entry_of r r.count)) ≡ true) [
          | inl a ↦ absurd (ne a.0)
          | inr b ↦ d.1 (b.0, b.1)
        ],
      ) in
      Decides-at (could_go_on r e) (nat_lt 1 r.count && same_entry e (entry_of r r.count)) (cond-false (r.count == 1) ((e.len == r.len) && nat_le r.start e.at) (nat_lt 1 r.count && same_entry e (entry_of r r.count)) f) k)
]

ends_decides : (r : Run) (later : List Run) → Decides (ends_with r later) (Ends r later)
ends_decides r [] = (λ t. tt, λ s. refl)
ends_decides r (next ∷ later) = not_decides (could_go_on r (entry_of next 0)) (go_on_decides r (entry_of next 0))

valid_decides : (writer last offset : ℕ) (r : Run) (later : List Run) → Decides (is_valid_run writer last offset r later) (IsValidRun writer last offset r later)
valid_decides writer last offset r later =
    let d : Decides (is_valid_run writer last offset r later) (IsRun r × (AreEntriesOf writer last offset (run_entries r) × ((offset + logged (run_entries r) ≤ MAX_LOG) × Ends r later))) =
    Decides-and (is_run r) _ (run_decides r)
    (Decides-and (are_entries writer last offset (run_entries r)) _ (entries_decide writer last offset (run_entries r))
    (Decides-and (nat_le (offset + logged (run_entries r)) MAX_LOG) (ends_with r later) (le_decides (offset + logged (run_entries r)) MAX_LOG) (ends_decides r later))) in
    (λ t. (let h = d.0 t in record { shape = h.0; in_order = h.1.0; near = h.1.1.0; ends = h.1.1.1 }), λ s. d.1 (s.shape, (s.in_order, (s.near, s.ends))))

-- ---- the first run that breaks a rule

bad_run-there : (writer last offset : ℕ) (runs : List Run) (index : ℕ) → BreaksAt writer last offset runs index → bad_run writer last offset runs ≡ Some index
bad_run-there writer last offset [] index b = elim b [ ]
bad_run-there writer last offset (r ∷ runs) zero b =
    cond-false (is_valid_run writer last offset r runs) (option_map (λ index. suc index) (bad_run writer (last_stamp last (run_entries r)) (offset + logged (run_entries r)) runs)) (Some 0)
    (broken (is_valid_run writer last offset r runs) (valid_decides writer last offset r runs) b)
bad_run-there writer last offset (r ∷ runs) (suc index) b =
    cond-true (is_valid_run writer last offset r runs) (option_map (λ index. suc index) (bad_run writer (last_stamp last (run_entries r)) (offset + logged (run_entries r)) runs)) (Some 0)
    ((valid_decides writer last offset r runs).1 b.0)
    ∙ ap (option_map (λ index. suc index)) (bad_run-there writer (last_stamp last (run_entries r)) (offset + logged (run_entries r)) runs index b.1)

bad_run-none : (writer last offset : ℕ) (runs : List Run) → AreValidBehind writer last offset runs → bad_run writer last offset runs ≡ None
bad_run-none writer last offset [] are = refl
bad_run-none writer last offset (r ∷ runs) are =
    cond-true (is_valid_run writer last offset r runs) (option_map (λ index. suc index) (bad_run writer (last_stamp last (run_entries r)) (offset + logged (run_entries r)) runs)) (Some 0)
    ((valid_decides writer last offset r runs).1 are.0)
    ∙ ap (option_map (λ index. suc index)) (bad_run-none writer (last_stamp last (run_entries r)) (offset + logged (run_entries r)) runs are.1)

-- ---- bytes

pub head_decides : (bytes : List ℕ) → Decides (has_head bytes) (HasHead bytes)
head_decides bytes =
    let d : Decides (has_head bytes) ((HEAD_SIZE ≤ length bytes) × (take 8 bytes ≡ letters)) =
    Decides-and (nat_le HEAD_SIZE (length bytes)) (same_bytes (take 8 bytes) letters) (le_decides HEAD_SIZE (length bytes)) (bytes_decide (take 8 bytes) letters) in
    (λ t. (let h = d.0 t in record { long = h.0; lettered = h.1 }), λ r. d.1 (r.long, r.lettered))

pub count_decides : (bytes : List ℕ) → Decides (has_count bytes) (HasCount bytes)
count_decides bytes = Decides-and (nat_le 1 (number_in 8 bytes)) (nat_le (number_in 8 bytes) MAX_PACKED) (le_decides 1 (number_in 8 bytes)) (le_decides (number_in 8 bytes) MAX_PACKED)

pub length_decides : (bytes : List ℕ) → Decides (has_length (length bytes) bytes) (HasLength bytes)
length_decides bytes = Decides-eqb (length bytes) (HEAD_SIZE + RUN_SIZE * number_in 16 bytes)

judged-valid : (count : ℕ) (runs : List Run) → AreValidRuns runs → length (entries_of runs) ≡ count → judged count runs ≡ Ok (entries_of runs)
judged-valid count runs are counts =
    ap (λ o. unless_broken o (λ index. HEAD_SIZE + RUN_SIZE * index) (if length (entries_of runs) == count then Ok (entries_of runs) else Err 8)) (bad_run-none (writer_of runs) 0 0 runs are)
    ∙ cond-true (length (entries_of runs) == count) (Ok (entries_of runs)) (Err 8) ((Decides-eqb (length (entries_of runs)) count).1 counts)

judged-broken : (count : ℕ) (runs : List Run) (place : ℕ) → BreaksFirst count runs place → judged count runs ≡ Err place
judged-broken count runs place (inl bad) =
    ap (λ o. unless_broken o (λ index. HEAD_SIZE + RUN_SIZE * index) (if length (entries_of runs) == count then Ok (entries_of runs) else Err 8)) (bad_run-there (writer_of runs) 0 0 runs bad.0 bad.1)
    ∙ ap Err (sym bad.2)
judged-broken count runs place (inr bad) =
    ap (λ o. unless_broken o (λ index. HEAD_SIZE + RUN_SIZE * index) (if length (entries_of runs) == count then Ok (entries_of runs) else Err 8)) (bad_run-none (writer_of runs) 0 0 runs bad.0)
    ∙ cond-false (length (entries_of runs) == count) (Ok (entries_of runs)) (Err 8) (broken (length (entries_of runs) == count) (Decides-eqb (length (entries_of runs)) count) bad.1)
    ∙ ap Err (sym bad.2)

-- what bytes with a head, a count in range and the right length tell
told-whole : (bytes : List ℕ) → HasHead bytes → HasCount bytes → HasLength bytes → pack_told bytes ≡ judged (number_in 8 bytes) (runs_in (number_in 16 bytes) bytes)
unfolding pack_told
told-whole bytes head count len =
    cond-true (has_head bytes) _ (Err 0) ((head_decides bytes).1 head)
    ∙ cond-true (has_count bytes) _ (Err 8) ((count_decides bytes).1 count)
    ∙ cond-true (has_length (length bytes) bytes) (judged (number_in 8 bytes) (runs_in (number_in 16 bytes) bytes)) (Err 16) ((length_decides bytes).1 len)

told-runs : (bytes : List ℕ) (count : ℕ) (runs : List Run) → SpellsRuns bytes count runs → IsCount count → pack_told bytes ≡ judged count runs
told-runs bytes count runs spells is =
    told-whole bytes (head_spelled bytes count runs spells) (subst IsCount (sym (count_spelled bytes count runs spells)) is) (length_spelled bytes count runs spells)
    ∙ ap (λ n. judged n (runs_in (number_in 16 bytes) bytes)) (count_spelled bytes count runs spells) ∙ ap (judged count) (sym (runs_spelled bytes count runs spells))

-- the entries whose packed index the bytes are, are told
pub pack_told-packs : (bytes : List ℕ) (entries : List Entry) → Packs bytes entries → pack_told bytes ≡ Ok entries
pack_told-packs bytes entries p =
    told-runs bytes (length entries) p.runs p.spells p.valid.counted
    ∙ judged-valid (length entries) p.runs (packed_valid bytes entries p) (ap length p.same) ∙ ap Ok p.same

-- the place of the first fault is told
pub pack_told-bad : (bytes : List ℕ) (place : ℕ) → IsBadAt bytes place → pack_told bytes ≡ Err place
unfolding pack_told
pack_told-bad bytes place (inl bad) = cond-false (has_head bytes) _ (Err 0) (broken (has_head bytes) (head_decides bytes) bad.0) ∙ ap Err (sym bad.1)
pack_told-bad bytes place (inr (inl bad)) =
    cond-true (has_head bytes) _ (Err 0) ((head_decides bytes).1 bad.0)
    ∙ cond-false (has_count bytes) _ (Err 8) (broken (has_count bytes) (count_decides bytes) bad.1) ∙ ap Err (sym bad.2)
pack_told-bad bytes place (inr (inr (inl bad))) =
    cond-true (has_head bytes) _ (Err 0) ((head_decides bytes).1 bad.0)
    ∙ cond-true (has_count bytes) _ (Err 8) ((count_decides bytes).1 bad.1)
    ∙ cond-false (has_length (length bytes) bytes) (judged (number_in 8 bytes) (runs_in (number_in 16 bytes) bytes)) (Err 16) (broken (has_length (length bytes) bytes) (length_decides bytes) bad.2)
    ∙ ap Err (sym bad.3)
pack_told-bad bytes place (inr (inr (inr bad))) = told-runs bytes bad.0 bad.1 bad.2 bad.3 ∙ judged-broken bad.0 bad.1 place bad.4
