-- Runs cut off where truncates leave nothing more.
use Rattle.std.proofs.Common.{◌≡◌, ℕ, ◌+◌, ◌-◌, ◌<◌, ◌≤◌, ◌^◌, inl, inr, true, false, ◌||◌, nat_lt, min, cond, List, [], ◌∷◌, None, Some, refl, ap, ◌∙◌, sym, subst, arith}
use Rattle.std.specs.List.{list_all}
use Rattle.std.proofs.lemmas.Bool.{cases_lt, cond-true, cond-false, lt-ltb, le-ltb}
use Rattle.std.proofs.lemmas.Bool.Decides.{nat_tests}
use Rattle.plfs_types.specs.declared.entries.Trunc.{Trunc}
use Rattle.plain_file.specs.declared.pieces.Piece.{Piece}
use Rattle.plain_file.specs.Sources.{Source, source_in, source_at, kept_source}
use Rattle.plain_file.specs.Runs.{AreRuns, IsPiece, Follows}
use Rattle.plain_file.proofs.Facts.{Starts, Starts-after, source_at-here, source_at-past, source_at-before}
use Rattle.interval_merge.specs.Clip.{limit}

-- a byte survives the truncates where it lies below the limit
pub survives_below : (truncs : List Trunc) (stamp x : ℕ) → x < 2 ^ 40 → list_all (λ (t : Trunc). nat_lt x t.size || nat_lt t.stamp stamp) truncs ≡ nat_lt x (limit truncs stamp)
survives_below [] stamp x h = sym (lt-ltb x (2 ^ 40) h)
survives_below (t ∷ truncs) stamp x h = let rest = survives_below truncs stamp x h in grind (arith, nat_tests)

abbrev pub end_of : List Trunc → Piece → ℕ
end_of truncs p = min (limit truncs p.stamp) (p.at + p.len)

abbrev pub cut_off : List Trunc → Piece → Piece
cut_off truncs p = record { at = p.at; len = end_of truncs p - p.at; physical = p.physical; stamp = p.stamp; writer = p.writer }

-- what the truncates leave of each piece
abbrev pub clipped : List Trunc → List Piece → List Piece
clipped truncs [] = []
clipped truncs (p ∷ pieces) = cond (nat_lt p.at (end_of truncs p)) (cut_off truncs p ∷ clipped truncs pieces) (clipped truncs pieces)

pub clipped-kept : (truncs : List Trunc) (p : Piece) (pieces : List Piece) → p.at < end_of truncs p → clipped truncs (p ∷ pieces) ≡ cut_off truncs p ∷ clipped truncs pieces
clipped-kept truncs p pieces h = cond-true (nat_lt p.at (end_of truncs p)) (cut_off truncs p ∷ clipped truncs pieces) (clipped truncs pieces) (lt-ltb p.at (end_of truncs p) h)

pub clipped-gone : (truncs : List Trunc) (p : Piece) (pieces : List Piece) → end_of truncs p ≤ p.at → clipped truncs (p ∷ pieces) ≡ clipped truncs pieces
clipped-gone truncs p pieces h = cond-false (nat_lt p.at (end_of truncs p)) (cut_off truncs p ∷ clipped truncs pieces) (clipped truncs pieces) (le-ltb p.at (end_of truncs p) h)

starts_less : (n m : ℕ) (pieces : List Piece) → n ≤ m → Starts m pieces → Starts n pieces
starts_less n m [] le h = tt
starts_less n m (p ∷ pieces) le h = omega arith

Starts-clipped : (truncs : List Trunc) (n : ℕ) (pieces : List Piece) → AreRuns pieces → Starts n pieces → Starts n (clipped truncs pieces)
Starts-clipped truncs n [] runs h = tt
Starts-clipped truncs n (p ∷ pieces) runs h = elim (cases_lt p.at (end_of truncs p)) [
  | inl kept ↦ subst (λ (ps : List Piece). Starts n ps) (sym (clipped-kept truncs p pieces kept)) h
  | inr gone ↦ subst (λ (ps : List Piece). Starts n ps) (sym (clipped-gone truncs p pieces gone)) (Starts-clipped truncs n pieces runs.2 (starts_less n (p.at + p.len) pieces (omega arith) (Starts-after p pieces runs.1)))
]

Follows-far : (p : Piece) (n : ℕ) (pieces : List Piece) → p.at + p.len < n → Starts n pieces → Follows p pieces
Follows-far p n [] h s = tt
Follows-far p n (q ∷ pieces) h s = (omega arith, λ j. absurd (omega (arith, j.touch)))

Follows-clipped : (truncs : List Trunc) (p : Piece) (pieces : List Piece) → AreRuns pieces → Follows p pieces → Follows p (clipped truncs pieces)
Follows-clipped truncs p [] runs h = tt
Follows-clipped truncs p (q ∷ pieces) runs h = elim (cases_lt q.at (end_of truncs q)) [
  | inl kept ↦ subst (λ (ps : List Piece). Follows p ps) (sym (clipped-kept truncs q pieces kept))
      (h.0, λ j. h.1 (record { touch = j.touch; stamps = j.stamps; writers = j.writers; logs = j.logs }))
  | inr gone ↦ subst (λ (ps : List Piece). Follows p ps) (sym (clipped-gone truncs q pieces gone))
      (Follows-far p (q.at + q.len) (clipped truncs pieces) (omega (arith, h.0, runs.0.not_empty)) (Starts-clipped truncs (q.at + q.len) pieces runs.2 (Starts-after q pieces runs.1)))
]

-- a shorter piece is followed by what follows the whole one
Follows-shorter : (p q : Piece) (pieces : List Piece) → q.at ≡ p.at → q.len ≤ p.len → q.physical ≡ p.physical → q.stamp ≡ p.stamp → q.writer ≡ p.writer → Follows p pieces → Follows q pieces
Follows-shorter p q [] at len log stamp writer h = tt
Follows-shorter p q (r ∷ pieces) at len log stamp writer h = (
  omega (arith, h.0),
  λ j.
      h.1 (record { touch = omega (arith, h.0, j.touch); stamps = sym stamp ∙ j.stamps; writers = sym writer ∙ j.writers; logs = omega (arith, h.0, j.touch, j.logs) }),
)

pub AreRuns-clipped : (truncs : List Trunc) (pieces : List Piece) → AreRuns pieces → AreRuns (clipped truncs pieces)
AreRuns-clipped truncs [] runs = tt
AreRuns-clipped truncs (p ∷ pieces) runs = elim (cases_lt p.at (end_of truncs p)) [
  | inr gone ↦ subst (λ (ps : List Piece). AreRuns ps) (sym (clipped-gone truncs p pieces gone)) (AreRuns-clipped truncs pieces runs.2)
  | inl kept ↦ subst (λ (ps : List Piece). AreRuns ps) (sym (clipped-kept truncs p pieces kept))
      (let whole : IsPiece p = runs.0 in
      let cut : IsPiece (cut_off truncs p) = record { not_empty = omega arith; within = omega (arith, whole.within); in_log = omega (arith, whole.in_log) } in
      (cut, Follows-shorter p (cut_off truncs p) (clipped truncs pieces) refl (omega arith) refl refl refl (Follows-clipped truncs p pieces runs.2 runs.1), AreRuns-clipped truncs pieces runs.2))
]

-- below the limit of its stamp a byte stays, and from there on it is gone
kept_below : (truncs : List Trunc) (x : ℕ) (s : Source) → x < 2 ^ 40 → x < limit truncs s.stamp → kept_source truncs x (Some s) ≡ Some s
kept_below truncs x s h l = cond-true (list_all (λ (t : Trunc). nat_lt x t.size || nat_lt t.stamp s.stamp) truncs) (Some s) None (survives_below truncs s.stamp x h ∙ lt-ltb x (limit truncs s.stamp) l)

kept_above : (truncs : List Trunc) (x : ℕ) (s : Source) → x < 2 ^ 40 → limit truncs s.stamp ≤ x → kept_source truncs x (Some s) ≡ None
kept_above truncs x s h l = cond-false (list_all (λ (t : Trunc). nat_lt x t.size || nat_lt t.stamp s.stamp) truncs) (Some s) None (survives_below truncs s.stamp x h ∙ le-ltb x (limit truncs s.stamp) l)

clipped_past : (truncs : List Trunc) (p : Piece) (pieces : List Piece) (x : ℕ) → p.at + p.len ≤ x → source_at (clipped truncs (p ∷ pieces)) x ≡ source_at (clipped truncs pieces) x
clipped_past truncs p pieces x h = elim (cases_lt p.at (end_of truncs p)) [
  | inl kept ↦ ap (λ ps. source_at ps x) (clipped-kept truncs p pieces kept) ∙ source_at-past (cut_off truncs p) (clipped truncs pieces) x (omega arith)
  | inr gone ↦ ap (λ ps. source_at ps x) (clipped-gone truncs p pieces gone)
]

cut_past : (truncs : List Trunc) (p : Piece) (pieces : List Piece) (x : ℕ) → p.at ≤ x → limit truncs p.stamp ≤ x → source_at (clipped truncs (p ∷ pieces)) x ≡ source_at (clipped truncs pieces) x
cut_past truncs p pieces x from h = elim (cases_lt p.at (end_of truncs p)) [
  | inl kept ↦ ap (λ ps. source_at ps x) (clipped-kept truncs p pieces kept) ∙ source_at-past (cut_off truncs p) (clipped truncs pieces) x (omega arith)
  | inr gone ↦ ap (λ ps. source_at ps x) (clipped-gone truncs p pieces gone)
]

pub clipped-says : (truncs : List Trunc) (pieces : List Piece) → AreRuns pieces → (x : ℕ) → source_at (clipped truncs pieces) x ≡ kept_source truncs x (source_at pieces x)
clipped-says truncs [] runs x = refl
clipped-says truncs (p ∷ pieces) runs x =
    let rest = clipped-says truncs pieces runs.2 x in
    let later_start : Starts (p.at + p.len) (clipped truncs pieces) = Starts-clipped truncs (p.at + p.len) pieces runs.2 (Starts-after p pieces runs.1) in
    let later_runs = AreRuns-clipped truncs pieces runs.2 in
    let small = runs.0.within in
    elim (cases_lt x p.at) [
      | inl before ↦ source_at-before p.at (clipped truncs (p ∷ pieces)) x (AreRuns-clipped truncs (p ∷ pieces) runs) (Starts-clipped truncs p.at (p ∷ pieces) runs (omega arith)) before
          ∙ sym (ap (kept_source truncs x) (source_at-before p.at (p ∷ pieces) x runs (omega arith) before))
      | inr from ↦ elim (cases_lt x (p.at + p.len)) [
        | inr past_it ↦ clipped_past truncs p pieces x past_it ∙ rest ∙ sym (ap (kept_source truncs x) (source_at-past p pieces x past_it))
        | inl within ↦ elim (cases_lt x (limit truncs p.stamp)) [
          | inl stays ↦ ap (λ ps. source_at ps x) (clipped-kept truncs p pieces (omega arith)) ∙ source_at-here (cut_off truncs p) (clipped truncs pieces) x from (omega arith)
              ∙ sym (ap (kept_source truncs x) (source_at-here p pieces x from within) ∙ kept_below truncs x (source_in x p) (omega arith) stays)
          | inr goes ↦ cut_past truncs p pieces x from goes ∙ source_at-before (p.at + p.len) (clipped truncs pieces) x later_runs later_start within
              ∙ sym (ap (kept_source truncs x) (source_at-here p pieces x from within) ∙ kept_above truncs x (source_in x p) (omega arith) goes)
        ]
      ]
    ]

pub limit-small : (truncs : List Trunc) (stamp : ℕ) → limit truncs stamp ≤ 2 ^ 40
limit-small [] stamp = omega arith
limit-small (t ∷ truncs) stamp = let rest = limit-small truncs stamp in
    elim (nat_lt t.stamp stamp) as (λ b. cond b (limit truncs stamp) (min t.size (limit truncs stamp)) ≤ 2 ^ 40) [ true ↦ rest | false ↦ omega arith ]
