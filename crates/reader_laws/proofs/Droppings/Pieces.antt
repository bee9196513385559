-- The pieces that the programs of a reader come to are those of what was read.
use Rattle.std.proofs.Common.{◌≡◌, ℕ, zero, suc, ◌+◌, ◌-◌, ◌<◌, ◌≤◌, ◌^◌, ◌==◌, nat_le, nat_lt, inl, inr, true, false, ◌&&◌, List, [], ◌∷◌, map, Option, None, Some, option_map, refl, ap, ◌∙◌, sym, subst, arith}
use Rattle.std.specs.List.{AllByRecursion}
use Rattle.std.proofs.lemmas.Bool.{cases_lt, cases_order, cases_Bool, and_parts, cond-true, cond-false}
use Rattle.std.proofs.lemmas.Bool.Decides.{nat_tests}
use Rattle.plfs_types.specs.declared.entries.Entry.{Entry}
use Rattle.plain_file.specs.declared.pieces.Piece.{Piece}
use Rattle.plain_file.specs.Newest.{newest_at, covers, survives}
use Rattle.plain_file.specs.Sources.{Source, source_of, source_in, source_at, newer_source}
use Rattle.plain_file.specs.Runs.{IsPiece, Joins, Follows, AreRuns, ArePieces}
use Rattle.plain_file.proofs.Facts.{Among, All-Among, cases_Option, filtered-Among, newest-is, newest_at-append, newer_source-of, Starts, source_at-here, source_at-past, source_at-before}
use Rattle.interval_merge.specs.Lists.{newest_source}
use Rattle.interval_merge.specs.Writer.{HasPiece}
use Rattle.index_reader.specs.Runs.{one_byte, grown, goes_on, with_byte, runs_from, runs_of, pieces_of, merged_of}
use Rattle.reader_laws.specs.Gathering.{Gathered}
use Rattle.reader_laws.specs.View.{tails_of}
use Rattle.reader_laws.proofs.Gathered.Facts.{All-append}

-- ---- the runs of a question by bytes

-- runs that begin at a byte or past it, and say there what a question says up to another byte, and nothing from it on
record Says (says : ℕ → Option Source) (from end : ℕ) (pieces : List Piece) : Type 0 where
  pub runs : AreRuns pieces
  pub starts : Starts from pieces
  pub same : (x : ℕ) → from ≤ x → x < end → source_at pieces x ≡ says x
  pub past : (x : ℕ) → end ≤ x → source_at pieces x ≡ None

-- no place of a log has its end past 64 bits
abbrev IsShort : (ℕ → Option Source) → Type 0
IsShort says = (x : ℕ) (s : Source) → says x ≡ Some s → s.place + 1 < 2 ^ 64

one_is_piece : (x : ℕ) (s : Source) → x < 2 ^ 40 → s.place + 1 < 2 ^ 64 → IsPiece (one_byte x s)
one_is_piece x s h l = record { not_empty = omega arith; within = omega arith; in_log = omega arith }

source_eq : (x : ℕ) (s : Source) → source_in x (one_byte x s) ≡ s
source_eq x s = let e : s.place + (x - x) ≡ s.place = omega arith in λ i. record { stamp = s.stamp; writer = s.writer; place = e i }

-- what goes on behind a byte
goes_on-parts : (x : ℕ) (s : Source) (p : Piece) → goes_on x s p ≡ true → (p.at ≡ x + 1) × (p.stamp ≡ s.stamp) × (p.writer ≡ s.writer) × (p.physical ≡ s.place + 1)
goes_on-parts x s p h =
    let a = and_parts (p.at == x + 1) ((p.stamp == s.stamp) && ((p.writer == s.writer) && (p.physical == s.place + 1))) h in
    let b = and_parts (p.stamp == s.stamp) ((p.writer == s.writer) && (p.physical == s.place + 1)) a.1 in
    let c = and_parts (p.writer == s.writer) (p.physical == s.place + 1) b.1 in
    (grind (arith, nat_tests, a.0), grind (arith, nat_tests, b.0), grind (arith, nat_tests, c.0), grind (arith, nat_tests, c.1))

not_joined : (x : ℕ) (s : Source) (p : Piece) → goes_on x s p ≡ false → Joins (one_byte x s) p → ⊥
not_joined x s p h j =
    let a : x + 1 ≡ p.at = j.touch in
    let b : s.stamp ≡ p.stamp = j.stamps in
    let c : s.writer ≡ p.writer = j.writers in
    let d : s.place + 1 ≡ p.physical = j.logs in
    grind (arith, nat_tests, h)

byte_here : (x : ℕ) (s : Source) (pieces : List Piece) → source_at (one_byte x s ∷ pieces) x ≡ Some s
byte_here x s pieces = source_at-here (one_byte x s) pieces x (omega arith) (omega arith) ∙ ap Some (source_eq x s)

byte_past : (x : ℕ) (s : Source) (pieces : List Piece) (y : ℕ) → x < y → source_at (one_byte x s ∷ pieces) y ≡ source_at pieces y
byte_past x s pieces y h = source_at-past (one_byte x s) pieces y (omega arith)

Starts-less : (n m : ℕ) (pieces : List Piece) → n ≤ m → Starts m pieces → Starts n pieces
Starts-less n m [] le h = tt
Starts-less n m (p ∷ pieces) le h = omega arith

-- a piece that stands alone before what does not go on
alone_runs : (x : ℕ) (s : Source) (pieces : List Piece) → x < 2 ^ 40 → s.place + 1 < 2 ^ 64 → AreRuns pieces → Follows (one_byte x s) pieces → AreRuns (one_byte x s ∷ pieces)
alone_runs x s pieces h l runs follows = (one_is_piece x s h l, follows, runs)

-- one byte that goes on in the first piece
grown_runs : (x : ℕ) (s : Source) (p : Piece) (pieces : List Piece) → goes_on x s p ≡ true → AreRuns (p ∷ pieces) → AreRuns (grown x s p ∷ pieces)
grown_runs x s p [] g runs =
    let parts = goes_on-parts x s p g in
    let piece : IsPiece (grown x s p) = record { not_empty = omega arith; within = omega (arith, runs.0.within, parts.0); in_log = omega (arith, runs.0.in_log, parts.3) } in
    (piece, tt, tt)
grown_runs x s p (q ∷ pieces) g runs =
    let parts = goes_on-parts x s p g in
    let piece : IsPiece (grown x s p) = record { not_empty = omega arith; within = omega (arith, runs.0.within, parts.0); in_log = omega (arith, runs.0.in_log, parts.3) } in
    let touches : x + (p.len + 1) ≤ q.at = omega (arith, runs.1.0, parts.0) in
    let apart : Joins (grown x s p) q → ⊥ = λ j. runs.1.1 (record { touch = omega (arith, j.touch, parts.0); stamps = parts.1 ∙ j.stamps; writers = parts.2 ∙ j.writers; logs = omega (arith, j.logs, parts.3) }) in
    (piece, (touches, apart), runs.2)

grown_source : (x : ℕ) (s : Source) (p : Piece) (y : ℕ) → goes_on x s p ≡ true → p.at ≤ y → source_in y (grown x s p) ≡ source_in y p
grown_source x s p y g h =
    let parts = goes_on-parts x s p g in
    let stamp : s.stamp ≡ p.stamp = sym parts.1 in
    let writer : s.writer ≡ p.writer = sym parts.2 in
    let place : s.place + (y - x) ≡ p.physical + (y - p.at) = omega (arith, parts.0, parts.3) in
    λ i. record { stamp = stamp i; writer = writer i; place = place i }

grown_here : (x : ℕ) (s : Source) (p : Piece) (pieces : List Piece) → source_at (grown x s p ∷ pieces) x ≡ Some s
grown_here x s p pieces =
    let e : s.place + (x - x) ≡ s.place = omega arith in
    source_at-here (grown x s p) pieces x (omega arith) (omega arith) ∙ (λ i. Some (record { stamp = s.stamp; writer = s.writer; place = e i }))

grown_past : (x : ℕ) (s : Source) (p : Piece) (pieces : List Piece) (y : ℕ) → goes_on x s p ≡ true → x < y → source_at (grown x s p ∷ pieces) y ≡ source_at (p ∷ pieces) y
grown_past x s p pieces y g h =
    let parts = goes_on-parts x s p g in
    elim (cases_lt y (p.at + p.len)) [
      | inl within ↦ source_at-here (grown x s p) pieces y (omega arith) (omega (arith, parts.0)) ∙ ap Some (grown_source x s p y g (omega (arith, parts.0))) ∙ sym (source_at-here p pieces y (omega (arith, parts.0)) within)
      | inr after ↦ source_at-past (grown x s p) pieces y (omega (arith, parts.0)) ∙ sym (source_at-past p pieces y after)
    ]

-- what one byte more before the pieces makes of them
record Adds (x : ℕ) (o : Option Source) (pieces new : List Piece) : Type 0 where
  pub runs : AreRuns new
  pub starts : Starts x new
  pub here : source_at new x ≡ o
  pub later : (y : ℕ) → x < y → source_at new y ≡ source_at pieces y

adds_alone : (x : ℕ) (s : Source) (pieces : List Piece) → x < 2 ^ 40 → s.place + 1 < 2 ^ 64 → AreRuns pieces → Follows (one_byte x s) pieces → Adds x (Some s) pieces (one_byte x s ∷ pieces)
adds_alone x s pieces h l runs follows = record {
  runs = alone_runs x s pieces h l runs follows;
  starts = omega arith;
  here = byte_here x s pieces;
  later = byte_past x s pieces;
}

adds_grown : (x : ℕ) (s : Source) (p : Piece) (pieces : List Piece) → goes_on x s p ≡ true → AreRuns (p ∷ pieces) → Adds x (Some s) (p ∷ pieces) (grown x s p ∷ pieces)
adds_grown x s p pieces g runs = record {
  runs = grown_runs x s p pieces g runs;
  starts = omega arith;
  here = grown_here x s p pieces;
  later = λ y h. grown_past x s p pieces y g h;
}

adds : (x : ℕ) (o : Option Source) (pieces : List Piece) → x < 2 ^ 40 → ((s : Source) → o ≡ Some s → s.place + 1 < 2 ^ 64) → AreRuns pieces → Starts (x + 1) pieces → Adds x o pieces (with_byte x o pieces)
adds x None pieces h l runs starts = record { runs = runs; starts = Starts-less x (x + 1) pieces (omega arith) starts; here = source_at-before (x + 1) pieces x runs starts (omega arith); later = λ y g. refl }
adds x (Some s) [] h l runs starts = adds_alone x s [] h (l s refl) tt tt
adds x (Some s) (p ∷ pieces) h l runs starts = elim (cases_Bool (goes_on x s p)) [
  | inl goes ↦ subst (Adds x (Some s) (p ∷ pieces)) (sym (cond-true (goes_on x s p) (grown x s p ∷ pieces) (one_byte x s ∷ p ∷ pieces) goes)) (adds_grown x s p pieces goes runs)
  | inr ends ↦ subst (Adds x (Some s) (p ∷ pieces)) (sym (cond-false (goes_on x s p) (grown x s p ∷ pieces) (one_byte x s ∷ p ∷ pieces) ends)) (adds_alone x s (p ∷ pieces) h (l s refl) runs (starts, not_joined x s p ends))
]

-- the runs of so many bytes say what the question says of them, and nothing past them
runs_say : (says : ℕ → Option Source) (n from end : ℕ) → IsShort says → from + n ≡ end → end ≤ 2 ^ 40 → Says says from end (runs_from says from n)
runs_say says zero from end short e h = record { runs = tt; starts = tt; same = λ x l m. absurd (omega arith); past = λ x l. refl }
runs_say says (suc n) from end short e h =
    let rest = runs_say says n (from + 1) end short (omega arith) h in
    let more = adds from (says from) (runs_from says (from + 1) n) (omega arith) (short from) rest.runs rest.starts in
    record {
      runs = more.runs;
      starts = more.starts;
      same = λ x l m. elim (cases_order from x) [
        | inl here ↦ subst (λ y. source_at (runs_from says from (suc n)) y ≡ says y) here more.here
        | inr other ↦ elim other [ inl later ↦ more.later x later ∙ rest.same x (omega arith) m | inr before ↦ absurd (omega arith) ]
      ];
      past = λ x l. more.later x (omega arith) ∙ rest.past x l;
    }

-- what a question says lies within a file and a log
abbrev pub IsBounded : (ℕ → Option Source) → Type 0
IsBounded says = (x : ℕ) (s : Source) → says x ≡ Some s → (x < 2 ^ 40) × (s.place + 1 < 2 ^ 64)

-- The runs of such a question say what it says.
pub record AreRunsOf (says : ℕ → Option Source) (pieces : List Piece) : Type 0 where
  pub runs : AreRuns pieces
  pub same : (x : ℕ) → source_at pieces x ≡ says x

pub runs_are : (says : ℕ → Option Source) → IsBounded says → AreRunsOf says (runs_of says)
unfolding runs_of
runs_are says bounded =
    let made = runs_say says (2 ^ 40) 0 (2 ^ 40) (λ x s e. (bounded x s e).1) refl (omega arith) in
    record {
      runs = made.runs;
      same = λ x. elim (cases_lt x (2 ^ 40)) [
        | inl within ↦ made.same x (omega arith) within
        | inr past ↦ elim (cases_Option (says x)) [
          | inl none ↦ made.past x past ∙ sym none
          | inr some ↦ (let h : x < 2 ^ 40 = (bounded x some.0 some.1).0 in absurd (omega (arith, h, past)))
        ]
      ];
    }

-- ---- the pieces of entries

-- it covers the byte, as one of the entries does
shown_covers : (es : List Entry) (x : ℕ) (e : Entry) → newest_at es [] x ≡ Some e → Among e es × (covers e x ≡ true)
shown_covers es x e h =
    let f = filtered-Among (λ (d : Entry). covers d x && survives [] x d) es e (newest-is _ e h).0 in
    (f.1, (and_parts (covers e x) (survives [] x e) f.0).0)

-- what entries say by bytes
abbrev shown_by : List Entry → ℕ → Option Source
shown_by es x = option_map (source_of x) (newest_at es [] x)

entry_bounds : (e : Entry) (x : ℕ) → HasPiece e → covers e x ≡ true → (x < 2 ^ 40) × (e.physical + (x - e.at) + 1 < 2 ^ 64)
entry_bounds e x p h =
    let parts = and_parts (nat_le e.at x) (nat_lt x (e.at + e.len)) h in
    let from : e.at ≤ x = grind (arith, nat_tests, parts.0) in
    let below : x < e.at + e.len = grind (arith, nat_tests, parts.1) in
    (omega (arith, below, p.within), omega (arith, from, below, p.in_log))

shown_bounded : (es : List Entry) → AllByRecursion HasPiece es → IsBounded (shown_by es)
shown_bounded es all x s h = elim (cases_Option (newest_at es [] x)) [
  | inl none ↦ (let clash : None ≡ Some s = sym (ap (option_map (source_of x)) none) ∙ h in absurd (cc))
  | inr (e, some) ↦
      let one : Some (source_of x e) ≡ Some s = sym (ap (option_map (source_of x)) some) ∙ h in
      let is : source_of x e ≡ s = cc in
      let c = shown_covers es x e some in
      let b = entry_bounds e x (All-Among HasPiece es e all c.0) c.1 in
      (b.0, omega (arith, b.1, ap (λ (t : Source). t.place) is))
]

pieces_are : (es : List Entry) → AllByRecursion HasPiece es → ArePieces es [] (pieces_of es)
pieces_are es all = let r = runs_are (shown_by es) (shown_bounded es all) in record { runs = r.runs; shown = r.same }

-- ---- the pieces of what was gathered

-- all lists of pieces together say what all entries say
gathered_say : (gathered : List Gathered) → AllByRecursion (λ (g : Gathered). AllByRecursion HasPiece g.tail) gathered → (x : ℕ) → newest_source (map (λ (g : Gathered). pieces_of g.tail) gathered) x ≡ shown_by (tails_of gathered) x
gathered_say [] all x = refl
gathered_say (g ∷ gathered) all x =
    ap (λ o. newer_source o (newest_source (map (λ (h : Gathered). pieces_of h.tail) gathered) x)) ((pieces_are g.tail all.0).shown x)
    ∙ ap (newer_source (shown_by g.tail x)) (gathered_say gathered all.1 x)
    ∙ sym (newer_source-of x (newest_at g.tail [] x) (newest_at (tails_of gathered) [] x))
    ∙ ap (option_map (source_of x)) (sym (newest_at-append g.tail (tails_of gathered) [] x))

tails_have_pieces : (gathered : List Gathered) → AllByRecursion (λ (g : Gathered). AllByRecursion HasPiece g.tail) gathered → AllByRecursion HasPiece (tails_of gathered)
tails_have_pieces [] all = tt
tails_have_pieces (g ∷ gathered) all = All-append HasPiece g.tail (tails_of gathered) all.0 (tails_have_pieces gathered all.1)

-- The merged pieces of what was gathered of each dropping are those of all its entries.
pub gathered_pieces : (gathered : List Gathered) → AllByRecursion (λ (g : Gathered). AllByRecursion HasPiece g.tail) gathered → ArePieces (tails_of gathered) [] (merged_of (map (λ (g : Gathered). pieces_of g.tail) gathered))
gathered_pieces gathered all =
    let says : (x : ℕ) → newest_source (map (λ (g : Gathered). pieces_of g.tail) gathered) x ≡ shown_by (tails_of gathered) x = gathered_say gathered all in
    let bounded : IsBounded (newest_source (map (λ (g : Gathered). pieces_of g.tail) gathered)) = λ x s h. shown_bounded (tails_of gathered) (tails_have_pieces gathered all) x s (sym (says x) ∙ h) in
    let r = runs_are (newest_source (map (λ (g : Gathered). pieces_of g.tail) gathered)) bounded in
    record { runs = r.runs; shown = λ x. r.same x ∙ says x }
