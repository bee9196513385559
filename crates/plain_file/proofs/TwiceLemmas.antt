-- Pieces that truncates cut before more writes and truncates came.
use Rattle.std.proofs.Common.{◌≡◌, ℕ, ◌+◌, ◌-◌, ◌<◌, ◌≤◌, inl, inr, Bool, true, false, ◌&&◌, ◌||◌, ◌==◌, nat_lt, max, cond, List, [], ◌∷◌, ◌++◌, Option, None, Some, option_map, refl, ap, ◌∙◌, sym, subst, arith}
use Rattle.std.specs.List.{All}
use Rattle.std.proofs.lemmas.Bool.{cases_Bool, cases_lt, cond-true, cond-false, and_from, and_parts, false≢true, ltb-true, false_from_ne_true}
use Rattle.std.proofs.lemmas.Bool.Decides.{nat_tests}
use Rattle.std.proofs.lemmas.List.Elements.{recursion_from_All}
use Rattle.plfs_types.specs.declared.entries.Entry.{Entry}
use Rattle.plfs_types.specs.declared.entries.Trunc.{Trunc}
use Rattle.plain_file.specs.declared.changes.Change.{Change}
use Rattle.plain_file.specs.declared.pieces.Piece.{Piece}
use Rattle.plain_file.specs.File.{plain, plain_size, HasItsBytes}
use Rattle.plain_file.specs.Keys.{KeysDiffer}
use Rattle.plain_file.specs.Newest.{outlasts, newest_at}
use Rattle.plain_file.specs.Order.{newest_first}
use Rattle.plain_file.specs.Runs.{AreRuns, ArePieces}
use Rattle.plain_file.specs.Shows.{entries_of, truncs_of}
use Rattle.plain_file.specs.Size.{is_later, later, last_trunc, is_after, end_after, size_given, size_from}
use Rattle.plain_file.specs.Sources.{Source, source_of, source_at, newer_source, kept_source, after_source}
use Rattle.plain_file.proofs.ChangeLemmas.{Descends-newest_first, All-newest_first}
use Rattle.plain_file.proofs.MergeLemmas.{newer_source-of, newest_at-append, newest_at-clipped, kept_source-of}
use Rattle.plain_file.proofs.SameLemmas.{cases_Option, newest_at-same, OnePerKey-from_KeysDiffer, SameElements-entries, SameElements-truncs, SameElements-newest_first, SameElements-sym}
use Rattle.plain_file.proofs.SizeLemmas.{IsSize, IsSize-file_after, ends_by_size, reaches_end, last-same}

-- ---- a test that only newer sources pass

-- the source, where it passes
abbrev passed : (Source → Bool) → Option Source → Option Source
passed q None = None
passed q (Some s) = cond (q s) (Some s) None

-- what passes for a source passes for one of a later stamp
abbrev Rises : (Source → Bool) → Type 0
Rises q = (s t : Source) → s.stamp ≤ t.stamp → q s ≡ true → q t ≡ true

below : (s t : Source) → (nat_lt s.stamp t.stamp || (s.stamp == t.stamp && nat_lt s.writer t.writer)) ≡ false → t.stamp ≤ s.stamp
below s t h = grind (arith, nat_tests)

passed_some : (q : Source → Bool) (o : Option Source) (s : Source) → passed q o ≡ Some s → o ≡ Some s
passed_some q None s h = absurd (cc)
passed_some q (Some t) s h = elim (cases_Bool (q t)) [
  | inl passes ↦ sym (cond-true (q t) (Some t) None passes) ∙ h
  | inr fails ↦ (let clash : None ≡ Some s = sym (cond-false (q t) (Some t) None fails) ∙ h in absurd (cc))
]

-- a source that fails hides none that passes
failed : (q : Source → Bool) → Rises q → (s : Source) (o : Option Source) → q s ≡ false → passed q o ≡ passed q (newer_source (Some s) o)
failed q rises s None fails = sym (cond-false (q s) (Some s) None fails)
failed q rises s (Some t) fails =
    let newer : Bool = nat_lt s.stamp t.stamp || (s.stamp == t.stamp && nat_lt s.writer t.writer) in
    elim (cases_Bool newer) [
      | inl above ↦ sym (ap (passed q) (cond-true newer (Some t) (Some s) above))
      | inr under ↦
          cond-false (q t) (Some t) None (false_from_ne_true (q t) (λ passes. false≢true (sym fails ∙ rises t s (below s t under) passes)))
          ∙ sym (ap (passed q) (cond-false newer (Some t) (Some s) under) ∙ cond-false (q s) (Some s) None fails)
    ]

-- Where former truncates took only what fails anyway, it doesn't matter that they did.
passed_late : (q : Source → Bool) → Rises q → (old : List Trunc) (x : ℕ) → ((s : Source) → q s ≡ true → outlasts old x s.stamp ≡ true) → (o p : Option Source)
    → passed q (newer_source (kept_source old x o) p) ≡ passed q (newer_source o p)
passed_late q rises old x lasts None p = refl
passed_late q rises old x lasts (Some s) p = elim (cases_Bool (outlasts old x s.stamp)) [
  | inl kept ↦ ap (λ k. passed q (newer_source k p)) (cond-true (outlasts old x s.stamp) (Some s) None kept)
  | inr taken ↦
      ap (λ k. passed q (newer_source k p)) (cond-false (outlasts old x s.stamp) (Some s) None taken)
      ∙ failed q rises s p (false_from_ne_true (q s) (λ passes. false≢true (sym taken ∙ lasts s passes)))
]

-- ---- what outlasts truncates

outlasts_later : (ts : List Trunc) (x a b : ℕ) → a ≤ b → outlasts ts x a ≡ true → outlasts ts x b ≡ true
outlasts_later [] x a b l h = refl
outlasts_later (t ∷ ts) x a b l h =
    let parts = and_parts (nat_lt x t.size || nat_lt t.stamp a) (outlasts ts x a) h in
    and_from (nat_lt x t.size || nat_lt t.stamp b) (outlasts ts x b) (one t x a b l parts.0) (outlasts_later ts x a b l parts.1)
  where
    one : (t : Trunc) (x a b : ℕ) → a ≤ b → (nat_lt x t.size || nat_lt t.stamp a) ≡ true → (nat_lt x t.size || nat_lt t.stamp b) ≡ true
    one t x a b l h = grind (arith, nat_tests)

outlasts_first : (old more : List Trunc) (x a : ℕ) → outlasts (old ++ more) x a ≡ true → outlasts old x a ≡ true
outlasts_first [] more x a h = refl
outlasts_first (t ∷ old) more x a h =
    let parts = and_parts (nat_lt x t.size || nat_lt t.stamp a) (outlasts (old ++ more) x a) h in
    and_from (nat_lt x t.size || nat_lt t.stamp a) (outlasts old x a) parts.0 (outlasts_first old more x a parts.1)

passed_kept : (ts : List Trunc) (x : ℕ) (o : Option Source) → kept_source ts x o ≡ passed (λ s. outlasts ts x s.stamp) o
passed_kept ts x None = refl
passed_kept ts x (Some s) = refl

-- what was clipped before is clipped at last as if it had not been
pub kept_late : (old more : List Trunc) (x : ℕ) (o p : Option Source) → kept_source (old ++ more) x (newer_source (kept_source old x o) p) ≡ kept_source (old ++ more) x (newer_source o p)
kept_late old more x o p =
    let q : Source → Bool = λ s. outlasts (old ++ more) x s.stamp in
    passed_kept (old ++ more) x (newer_source (kept_source old x o) p)
    ∙ passed_late q (λ s t l h. outlasts_later (old ++ more) x s.stamp t.stamp l h) old x (λ s h. outlasts_first old more x s.stamp h) o p
    ∙ sym (passed_kept (old ++ more) x (newer_source o p))

-- ---- what was written after the last truncate

passed_after : (last : Option Trunc) (o : Option Source) → after_source last o ≡ passed (λ s. is_after last s.stamp) o
passed_after last None = refl
passed_after last (Some s) = refl

after_rises : (last : Option Trunc) (a b : ℕ) → a ≤ b → is_after last a ≡ true → is_after last b ≡ true
after_rises None a b l h = refl
after_rises (Some t) a b l h = grind (arith, nat_tests)

-- after the later of two is after both
after_later : (t : Trunc) (o : Option Trunc) (a : ℕ) → is_after (later (Some t) o) a ≡ true → (nat_lt t.stamp a ≡ true) × (is_after o a ≡ true)
after_later t None a h = (h, refl)
after_later t (Some u) a h = elim (cases_Bool (is_later u t)) [
  | inl above ↦ (let of_u : nat_lt u.stamp a ≡ true = ap (λ l. is_after l a) (sym (cond-true (is_later u t) (Some u) (Some t) above)) ∙ h in (both_u t u a above of_u, of_u))
  | inr under ↦ (let of_t : nat_lt t.stamp a ≡ true = ap (λ l. is_after l a) (sym (cond-false (is_later u t) (Some u) (Some t) under)) ∙ h in (of_t, both_t t u a under of_t))
]
  where
    both_u : (t u : Trunc) (a : ℕ) → is_later u t ≡ true → nat_lt u.stamp a ≡ true → nat_lt t.stamp a ≡ true
    both_u t u a above h = grind (arith, nat_tests)

    both_t : (t u : Trunc) (a : ℕ) → is_later u t ≡ false → nat_lt t.stamp a ≡ true → nat_lt u.stamp a ≡ true
    both_t t u a under h = grind (arith, nat_tests)

-- what came after all truncates outlasts them
after_outlasts : (ts : List Trunc) (x a : ℕ) → is_after (last_trunc ts) a ≡ true → outlasts ts x a ≡ true
after_outlasts [] x a h = refl
after_outlasts (t ∷ ts) x a h =
    let both = after_later t (last_trunc ts) a h in
    and_from (nat_lt x t.size || nat_lt t.stamp a) (outlasts ts x a) (either (nat_lt x t.size) (nat_lt t.stamp a) both.0) (after_outlasts ts x a both.1)
  where
    either : (b c : Bool) → c ≡ true → (b || c) ≡ true
    either true c h = refl
    either false c h = h

-- what was clipped before shows, of what was written after the last truncate, all that shows
pub after_late : (old more : List Trunc) (x : ℕ) (o p : Option Source)
    → after_source (last_trunc (old ++ more)) (newer_source (kept_source old x o) p) ≡ after_source (last_trunc (old ++ more)) (newer_source o p)
after_late old more x o p =
    let last : Option Trunc = last_trunc (old ++ more) in
    let q : Source → Bool = λ s. is_after last s.stamp in
    passed_after last (newer_source (kept_source old x o) p)
    ∙ passed_late q (λ s t l h. after_rises last s.stamp t.stamp l h) old x (λ s h. outlasts_first old more x s.stamp (after_outlasts (old ++ more) x s.stamp h)) o p
    ∙ sym (passed_after last (newer_source o p))

-- ---- pieces

-- what shows at a byte
abbrev pub shown_at : List Entry → List Trunc → ℕ → Option Source
shown_at entries truncs x = option_map (source_of x) (newest_at entries truncs x)

pub shown-clipped : (es : List Entry) (ts : List Trunc) (x : ℕ) → shown_at es ts x ≡ kept_source ts x (shown_at es [] x)
shown-clipped es ts x = ap (option_map (source_of x)) (newest_at-clipped es ts x) ∙ kept_source-of ts x (newest_at es [] x)

pub shown-append : (es fs : List Entry) (ts : List Trunc) (x : ℕ) → shown_at (es ++ fs) ts x ≡ newer_source (shown_at es ts x) (shown_at fs ts x)
shown-append es fs ts x = ap (option_map (source_of x)) (newest_at-append es fs ts x) ∙ newer_source-of x (newest_at es ts x) (newest_at fs ts x)

-- what former pieces, clipped, and those of more writes say, against the entries of both
newer_late : (es fs : List Entry) (old : List Trunc) (before tails : List Piece) → ArePieces es old before → ArePieces fs [] tails → (x : ℕ)
    → newer_source (source_at before x) (source_at tails x) ≡ newer_source (kept_source old x (shown_at es [] x)) (shown_at fs [] x)
newer_late es fs old before tails of_before of_tails x =
    ap (λ o. newer_source o (source_at tails x)) (of_before.shown x ∙ shown-clipped es old x) ∙ ap (newer_source (kept_source old x (shown_at es [] x))) (of_tails.shown x)

-- Pieces that were clipped before, merged with those of more writes and clipped by all truncates, are the clipped pieces of
-- everything.
pub ArePieces-clipped_before : (es fs : List Entry) (old more : List Trunc) (before tails clipped : List Piece) → ArePieces es old before → ArePieces fs [] tails → AreRuns clipped
    → ((x : ℕ) → source_at clipped x ≡ kept_source (old ++ more) x (newer_source (source_at before x) (source_at tails x))) → ArePieces (es ++ fs) (old ++ more) clipped
ArePieces-clipped_before es fs old more before tails clipped of_before of_tails runs says = record {
  runs = runs;
  shown = λ x.
      says x ∙ ap (kept_source (old ++ more) x) (newer_late es fs old before tails of_before of_tails x)
      ∙ kept_late old more x (shown_at es [] x) (shown_at fs [] x)
      ∙ sym (shown-clipped (es ++ fs) (old ++ more) x ∙ ap (kept_source (old ++ more) x) (shown-append es fs [] x));
}

-- ---- the size

-- of what was written after the last truncate, the pieces say at each byte what shows
abbrev pub SaysAfter : Option Trunc → List Entry → List Piece → Type 0
SaysAfter last entries pieces = (x : ℕ) → after_source last (source_at pieces x) ≡ after_source last (shown_at entries [] x)

after_some : (last : Option Trunc) (o p : Option Source) (s : Source) → after_source last o ≡ after_source last p → o ≡ Some s → is_after last s.stamp ≡ true → p ≡ Some s
after_some last o p s same is after =
    passed_some (λ r. is_after last r.stamp) p s
    (sym (passed_after last p) ∙ sym same ∙ ap (after_source last) is ∙ cond-true (is_after last s.stamp) (Some s) None after)

size_by_after : (last : Option Trunc) (entries : List Entry) (pieces : List Piece) (n : ℕ) → AreRuns pieces → SaysAfter last entries pieces → IsSize last entries n → n ≡ max (size_given last) (end_after last pieces)
size_by_after last entries pieces n runs says is =
    let reached_by : end_after last pieces ≤ n = ends_by_size last pieces n runs (λ x s l h. false_from_ne_true (is_after last s.stamp) (λ after.
    let there : shown_at entries [] x ≡ Some s = after_some last (source_at pieces x) (shown_at entries [] x) s (says x) h after in
    not_past x s l there after)) in
    let given : size_given last ≤ n = is.given in
    elim (cases_lt (size_given last) n) [
      | inr all_given ↦ omega arith
      | inl more ↦ (let r = is.reached more in
          let there : source_at pieces (n - 1) ≡ Some (source_of (n - 1) r.0) =
          after_some last (shown_at entries [] (n - 1)) (source_at pieces (n - 1)) (source_of (n - 1) r.0) (sym (says (n - 1))) (ap (option_map (source_of (n - 1))) r.1) r.2 in
          let reach : n - 1 < end_after last pieces = reaches_end last pieces (n - 1) (source_of (n - 1) r.0) there r.2 in
          omega arith)
    ]
  where
    not_past : (x : ℕ) (s : Source) → n ≤ x → shown_at entries [] x ≡ Some s → is_after last s.stamp ≡ true → ⊥
    not_past x s l there after = elim (cases_Option (newest_at entries [] x)) [
      | inl none ↦ (let clash : None ≡ Some s = sym (ap (option_map (source_of x)) none) ∙ there in absurd (cc))
      | inr found ↦ (let one : Some (source_of x found.0) ≡ Some s = sym (ap (option_map (source_of x)) found.1) ∙ there in
          let same : source_of x found.0 ≡ s = cc in
          false≢true (sym (is.past x found.0 l found.1) ∙ ap (λ (r : Source). is_after last r.stamp) same ∙ after))
    ]

-- The size of the plain file, from runs that say what shows of what was written after the last truncate.
pub size-from_after : (cs : List Change) (pieces : List Piece) → KeysDiffer (entries_of cs) → All HasItsBytes cs → AreRuns pieces → SaysAfter (last_trunc (truncs_of cs)) (entries_of cs) pieces → plain_size cs ≡ size_from pieces (truncs_of cs)
size-from_after cs pieces keys bytes runs says =
    let order = newest_first cs in
    let s = SameElements-newest_first cs in
    let is : IsSize (last_trunc (truncs_of order)) (entries_of order) (plain_size cs) =
    IsSize-file_after order (Descends-newest_first cs) (All-newest_first HasItsBytes cs (recursion_from_All HasItsBytes cs bytes)) in
    let last : last_trunc (truncs_of order) ≡ last_trunc (truncs_of cs) = last-same (truncs_of order) (truncs_of cs) (SameElements-truncs order cs s) in
    let same : (x : ℕ) → shown_at (entries_of cs) [] x ≡ shown_at (entries_of order) [] x = λ x.
    ap (option_map (source_of x)) (newest_at-same (entries_of cs) (entries_of order) [] [] (OnePerKey-from_KeysDiffer (entries_of cs) keys) (SameElements-sym (entries_of order) (entries_of cs) (SameElements-entries order cs s)) (record { to = λ t m. m; back = λ t m. m }) x) in
    let ordered : SaysAfter (last_trunc (truncs_of order)) (entries_of order) pieces =
    subst (λ l. SaysAfter l (entries_of order) pieces) (sym last) (λ x. says x ∙ ap (after_source (last_trunc (truncs_of cs))) (same x)) in
    size_by_after (last_trunc (truncs_of order)) (entries_of order) pieces (plain_size cs) runs ordered is
    ∙ ap (λ o. max (size_given o) (end_after o pieces)) last

-- So the size is told by pieces that were clipped before, merged with those of more writes.
pub SaysAfter-clipped_before : (es fs : List Entry) (old more : List Trunc) (before tails merged : List Piece) → ArePieces es old before → ArePieces fs [] tails
    → ((x : ℕ) → source_at merged x ≡ newer_source (source_at before x) (source_at tails x)) → SaysAfter (last_trunc (old ++ more)) (es ++ fs) merged
SaysAfter-clipped_before es fs old more before tails merged of_before of_tails says x =
    let last : Option Trunc = last_trunc (old ++ more) in
    ap (after_source last) (says x ∙ newer_late es fs old before tails of_before of_tails x)
    ∙ after_late old more x (shown_at es [] x) (shown_at fs [] x)
    ∙ sym (ap (after_source last) (shown-append es fs [] x))
