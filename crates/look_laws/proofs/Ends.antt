-- How far the entries reach that came after the last truncate.
use Rattle.std.proofs.Common.{◌≡◌, inl, inr, ℕ, ◌+◌, ◌-◌, ◌<◌, ◌≤◌, Bool, true, false, ◌&&◌, nat_lt, nat_le, max, cond, List, [], ◌∷◌, filter, Option, None, Some, option_map, refl, ap, ◌∙◌, sym, subst, arith}
use Rattle.std.specs.Prelude.{if◌then◌else◌}
use Rattle.std.proofs.lemmas.Bool.{cases_Bool, cond-true, cond-false, and_from, and_parts, ltb-true}
use Rattle.std.proofs.lemmas.Bool.Decides.{nat_tests}
use Rattle.plfs_types.specs.declared.entries.Entry.{Entry}
use Rattle.plfs_types.specs.declared.entries.Trunc.{Trunc}
use Rattle.plain_file.specs.declared.pieces.Piece.{Piece}
use Rattle.plain_file.specs.Newest.{covers, survives, is_newer, newer, newest, newest_at}
use Rattle.plain_file.specs.Runs.{ArePieces, AreRuns}
use Rattle.plain_file.specs.Size.{is_after, end_after}
use Rattle.plain_file.specs.Sources.{Source, has_byte, source_at, source_in, source_of}
use Rattle.plain_file.proofs.Facts.{Among, cases_Option, filtered-Among, newest-is, source_at-here, source_at-later}

-- the greatest end of the entries that came after the truncate
abbrev pub reach : Option Trunc → List Entry → ℕ
reach last [] = 0
reach last (e ∷ es) = if is_after last e.stamp then max (e.at + e.len) (reach last es) else reach last es

-- ---- of the entries

reach_after : (last : Option Trunc) (e : Entry) (es : List Entry) → is_after last e.stamp ≡ true → reach last (e ∷ es) ≡ max (e.at + e.len) (reach last es)
reach_after last e es h = cond-true (is_after last e.stamp) (max (e.at + e.len) (reach last es)) (reach last es) h

reach_before : (last : Option Trunc) (e : Entry) (es : List Entry) → is_after last e.stamp ≡ false → reach last (e ∷ es) ≡ reach last es
reach_before last e es h = cond-false (is_after last e.stamp) (max (e.at + e.len) (reach last es)) (reach last es) h

-- each of them ends there or before
pub reached : (last : Option Trunc) (es : List Entry) (e : Entry) → Among e es → is_after last e.stamp ≡ true → e.at + e.len ≤ reach last es
reached last [] e a h = absurd a
reached last (d ∷ es) e (inl same) h =
    let is : is_after last d.stamp ≡ true = ap (λ (x : Entry). is_after last x.stamp) (sym same) ∙ h in
    omega (arith, reach_after last d es is, ap (λ (x : Entry). x.at + x.len) same)
reached last (d ∷ es) e (inr a) h = elim (cases_Bool (is_after last d.stamp)) as (λ _. e.at + e.len ≤ reach last (d ∷ es)) [
  | inl after ↦ omega (arith, reach_after last d es after, reached last es e a h)
  | inr before ↦ omega (arith, reach_before last d es before, reached last es e a h)
]

-- and where each ends before a place, so do they all
pub reach_within : (last : Option Trunc) (es : List Entry) (n : ℕ) → ((e : Entry) → Among e es → is_after last e.stamp ≡ true → e.at + e.len ≤ n) → reach last es ≤ n
reach_within last [] n all = omega arith
reach_within last (d ∷ es) n all =
    let rest : reach last es ≤ n = reach_within last es n (λ e a. all e (inr a)) in
    elim (cases_Bool (is_after last d.stamp)) as (λ _. reach last (d ∷ es) ≤ n) [
      | inl after ↦ omega (arith, reach_after last d es after, rest, all d (inl refl) after)
      | inr before ↦ omega (arith, reach_before last d es before, rest)
    ]

-- ---- of the pieces

ends_within : (last : Option Trunc) (pieces : List Piece) (n : ℕ) → AreRuns pieces → ((x : ℕ) (s : Source) → source_at pieces x ≡ Some s → is_after last s.stamp ≡ true → x < n) → end_after last pieces ≤ n
ends_within last [] n runs all = omega arith
ends_within last (p ∷ pieces) n runs all =
    let rest : end_after last pieces ≤ n = ends_within last pieces n runs.2 (λ x s h. all x s (source_at-later p pieces x s runs h)) in
    elim (cases_Bool (is_after last p.stamp)) as (λ _. end_after last (p ∷ pieces) ≤ n) [
      | inr before ↦ (let e = cond-false (is_after last p.stamp) (max (p.at + p.len) (end_after last pieces)) (end_after last pieces) before in omega (arith, e, rest))
      | inl after ↦
          (let e = cond-true (is_after last p.stamp) (max (p.at + p.len) (end_after last pieces)) (end_after last pieces) after in
          let full : 0 < p.len = runs.0.not_empty in
          let x : ℕ = p.at + p.len - 1 in
          let here : x < n = all x (source_in x p) (source_at-here p pieces x (omega (arith, full)) (omega (arith, full))) after in
          omega (arith, e, rest, here, full))
    ]

shown_before : (last : Option Trunc) (pieces : List Piece) (x : ℕ) (s : Source) → source_at pieces x ≡ Some s → is_after last s.stamp ≡ true → x < end_after last pieces
shown_before last [] x s h after = absurd (cc)
shown_before last (p ∷ pieces) x s h after = elim (cases_Bool (has_byte p x)) as (λ _. x < end_after last (p ∷ pieces)) [
  | inl here ↦
      (let one : Some (source_in x p) ≡ Some s = sym (cond-true (has_byte p x) (Some (source_in x p)) (source_at pieces x) here) ∙ h in
      let same : source_in x p ≡ s = cc in
      let after_p : is_after last p.stamp ≡ true = ap (λ (r : Source). is_after last r.stamp) same ∙ after in
      let e = cond-true (is_after last p.stamp) (max (p.at + p.len) (end_after last pieces)) (end_after last pieces) after_p in
      let until : x < p.at + p.len = ltb-true x (p.at + p.len) (and_parts (nat_le p.at x) (nat_lt x (p.at + p.len)) here).1 in
      omega (arith, e, until))
  | inr elsewhere ↦
      (let rest = shown_before last pieces x s (sym (cond-false (has_byte p x) (Some (source_in x p)) (source_at pieces x) elsewhere) ∙ h) after in
      elim (cases_Bool (is_after last p.stamp)) as (λ _. x < end_after last (p ∷ pieces)) [
        | inl yes_after ↦ (let e = cond-true (is_after last p.stamp) (max (p.at + p.len) (end_after last pieces)) (end_after last pieces) yes_after in omega (arith, e, rest))
        | inr not_after ↦ (let e = cond-false (is_after last p.stamp) (max (p.at + p.len) (end_after last pieces)) (end_after last pieces) not_after in omega (arith, e, rest))
      ])
]

-- ---- the newest entry at a byte

newer_some : (e : Entry) (o : Option Entry) → newer (Some e) o ≡ None → ⊥
newer_some e None h = cc
newer_some e (Some d) h = elim (is_newer d e) as (λ b. (if b then Some d else Some e) ≡ None → ⊥) [ true ↦ λ k. cc | false ↦ λ k. cc ] h

newest_some : (es : List Entry) (e : Entry) → Among e es → newest es ≡ None → ⊥
newest_some [] e a h = a
newest_some (d ∷ es) e a h = newer_some d (newest es) h

kept_among : (p : Entry → Bool) (es : List Entry) (e : Entry) → p e ≡ true → Among e es → Among e (filter p es)
kept_among p [] e t a = absurd a
kept_among p (d ∷ es) e t (inl same) = subst (Among e) (sym (cond-true (p d) (d ∷ filter p es) (filter p es) (ap p (sym same) ∙ t))) (inl same)
kept_among p (d ∷ es) e t (inr a) = let rest = kept_among p es e t a in elim (p d) as (λ b. Among e (cond b (d ∷ filter p es) (filter p es))) [ true ↦ inr rest | false ↦ rest ]

-- where an entry covers a byte, one shows there that is no older
shown_newest : (es : List Entry) (e : Entry) (x : ℕ) → Among e es → covers e x ≡ true → (d : Entry) × (newest_at es [] x ≡ Some d) × (e.stamp ≤ d.stamp)
shown_newest es e x a h =
    let p : Entry → Bool = λ (d : Entry). covers d x && survives [] x d in
    let there : Among e (filter p es) = kept_among p es e (and_from (covers e x) true h refl) a in
    elim (cases_Option (newest (filter p es))) as (λ _. (d : Entry) × (newest_at es [] x ≡ Some d) × (e.stamp ≤ d.stamp)) [
      | inl none ↦ absurd (newest_some (filter p es) e there none)
      | inr (d, some) ↦ (d, some, no_older e d ((newest-is (filter p es) d some).1 e there))
    ]
  where
    no_older : (e d : Entry) → is_newer e d ≡ false → e.stamp ≤ d.stamp
    no_older e d k = grind (arith, nat_tests)

later_after : (last : Option Trunc) (a b : ℕ) → a ≤ b → is_after last a ≡ true → is_after last b ≡ true
later_after None a b l h = refl
later_after (Some t) a b l h = grind (arith, nat_tests)

covered_so : (e : Entry) (x : ℕ) → e.at ≤ x → x < e.at + e.len → covers e x ≡ true
covered_so e x l h = grind (arith, nat_tests)

covered_until : (e : Entry) (x : ℕ) → covers e x ≡ true → x < e.at + e.len
covered_until e x h = grind (arith, nat_tests)

-- The pieces of entries that have bytes reach as far as these.
pub pieces_reach : (last : Option Trunc) (es : List Entry) (pieces : List Piece) → ((e : Entry) → Among e es → 1 ≤ e.len) → ArePieces es [] pieces → end_after last pieces ≡ reach last es
pieces_reach last es pieces full are =
    let up : end_after last pieces ≤ reach last es = ends_within last pieces (reach last es) are.runs (λ x s h after. shown x s h after) in
    let down : reach last es ≤ end_after last pieces = reach_within last es (end_after last pieces) (λ e a after. there e a after) in
    omega (arith, up, down)
  where
    shown : (x : ℕ) (s : Source) → source_at pieces x ≡ Some s → is_after last s.stamp ≡ true → x < reach last es
    shown x s h after = elim (cases_Option (newest_at es [] x)) as (λ _. x < reach last es) [
      | inl none ↦ absurd (let clash : None ≡ Some s = sym (are.shown x ∙ ap (option_map (source_of x)) none) ∙ h in cc)
      | inr (e, some) ↦
          let one : Some (source_of x e) ≡ Some s = sym (are.shown x ∙ ap (option_map (source_of x)) some) ∙ h in
          let same : source_of x e ≡ s = cc in
          let p : Entry → Bool = λ (d : Entry). covers d x && survives [] x d in
          let f = filtered-Among p es e (newest-is (filter p es) e some).0 in
          let until : x < e.at + e.len = covered_until e x (and_parts (covers e x) (survives [] x e) f.0).0 in
          omega (arith, until, reached last es e f.1 (ap (λ (r : Source). is_after last r.stamp) same ∙ after))
    ]

    there : (e : Entry) → Among e es → is_after last e.stamp ≡ true → e.at + e.len ≤ end_after last pieces
    there e a after =
        let x : ℕ = e.at + e.len - 1 in
        let some : 1 ≤ e.len = full e a in
        let n = shown_newest es e x a (covered_so e x (omega (arith, some)) (omega (arith, some))) in
        let here : source_at pieces x ≡ Some (source_of x n.0) = are.shown x ∙ ap (option_map (source_of x)) n.1 in
        let before : x < end_after last pieces = shown_before last pieces x (source_of x n.0) here (later_after last e.stamp n.0.stamp n.2 after) in
        omega (arith, before, some)
