-- The parts of a plan lie in what the writers of the cut had issued.
use Rattle.std.proofs.Common.{◌≡◌, ℕ, ◌+◌, ◌-◌, ◌<◌, ◌≤◌, ◌==◌, ◌&&◌, nat_lt, nat_le, min, max, Bool, true, false, List, [], ◌∷◌, None, Some, option_map, length, filter, refl, ap, sym, ◌∙◌, inl, inr, subst, arith, length-append}
use Rattle.std.specs.Prelude.{if◌then◌else◌}
use Rattle.std.specs.List.{AllByRecursion, All}
use Rattle.std.proofs.lemmas.Bool.{cases_lt, and_parts, leb-true, ltb-true}
use Rattle.std.proofs.lemmas.List.Elements.{All-from_recursion}
use Rattle.plfs_types.specs.declared.entries.Entry.{Entry}
use Rattle.plfs_types.specs.declared.entries.Trunc.{Trunc}
use Rattle.plain_file.specs.declared.pieces.Piece.{Piece}
use Rattle.plain_file.specs.Newest.{covers, survives, newest_at}
use Rattle.plain_file.specs.Sources.{Source, source_of, source_in, source_at}
use Rattle.plain_file.specs.Runs.{AreRuns, ArePieces}
use Rattle.plain_file.proofs.Facts.{Among, All-Among, newest-is, filtered-Among, cases_Option, source_at-here, source_at-later}
use Rattle.read_plan.specs.declared.part.Part.{Part}
use Rattle.read_plan.specs.declared.part.Part.TheVariants.{Hole}
use Rattle.read_plan.specs.Plan.{hole, piece_part, filled, plan_of}
use Rattle.read_plan.specs.Ranges.{end_of, pieces_in_range}
use Rattle.read_plan.proofs.Facts.{pieces_in-met, pieces_in-missed}
use Rattle.mount_sound.specs.Entries.{AreEntriesOf}
use Rattle.mount_sound.specs.Ledger.{Written, entries_in, content, AreFull}
use Rattle.reader_laws.specs.Moments.{Moment, IsSoundAt, issued_by}
use Rattle.reader_laws.specs.Gathering.{Gathered}
use Rattle.reader_laws.specs.View.{writes_in, own_entries}
use Rattle.reader_laws.specs.Parts.{IsOfLog, IsPartOf}
use Rattle.reader_laws.proofs.Gathered.Containers.Members.{found_any}
use Rattle.reader_laws.proofs.Gathered.OpenReaders.Viewing.{All-append, All-take, All-weaker, entries_split}

-- a writer of the cut had issued so many bytes
abbrev HasIssued : Moment → List Gathered → ℕ → ℕ → Type 0
HasIssued end cut writer bytes = (g : Gathered) × Among g cut × (g.dropping.writer ≡ writer) × (bytes ≤ length (content (issued_by end g.dropping)))

-- ---------- entries

own_within : (writer last offset most : ℕ) (writes : List Written) → offset + length (content writes) ≤ most → AreEntriesOf writer last offset (entries_in writes) → AreFull writes
    → AllByRecursion (λ (e : Entry). (writer ≡ e.writer) × (e.physical + e.len ≤ most)) (entries_in writes)
own_within writer last offset most [] fits o f = tt
own_within writer last offset most (w ∷ writes) fits o f =
    let bytes : length (content (w ∷ writes)) ≡ length w.bytes + length (content writes) = length-append w.bytes (content writes) in
    ((sym o.0.owner, omega (arith, o.0.place, f.0, bytes, fits)), own_within writer w.entry.stamp (offset + w.entry.len) most writes (omega (arith, f.0, bytes, fits)) o.1 f.1)

one_more : (end : Moment) (g : Gathered) (cut : List Gathered) (e : Entry) → HasIssued end cut e.writer (e.physical + e.len) → HasIssued end (g ∷ cut) e.writer (e.physical + e.len)
one_more end g cut e (h, its, of, within) = (h, inr its, of, within)

entries_within : (end : Moment) (cut : List Gathered) → IsSoundAt end → AllByRecursion (λ (e : Entry). HasIssued end cut e.writer (e.physical + e.len)) (entries_in (writes_in end cut))
entries_within end [] s = tt
entries_within end (g ∷ cut) s =
    let w = s.sound.writes g.dropping.room g.dropping.writer in
    let most : ℕ = length (content (issued_by end g.dropping)) in
    let all = own_within g.dropping.writer 0 0 most (issued_by end g.dropping) (omega arith) w.in_order w.full in
    let P : Entry → Type 0 = λ e. HasIssued end (g ∷ cut) e.writer (e.physical + e.len) in
    let own : AllByRecursion P (own_entries end g) =
    All-take P g.count (entries_in (issued_by end g.dropping)) (All-weaker (λ (e : Entry). (g.dropping.writer ≡ e.writer) × (e.physical + e.len ≤ most)) P (entries_in (issued_by end g.dropping)) (λ e l. (g, inl refl, l.0, l.1)) all) in
    let others : AllByRecursion P (entries_in (writes_in end cut)) =
    All-weaker (λ (e : Entry). HasIssued end cut e.writer (e.physical + e.len)) P (entries_in (writes_in end cut)) (one_more end g cut) (entries_within end cut s) in
    subst (AllByRecursion P) (sym (entries_split end g cut)) (All-append P (own_entries end g) (entries_in (writes_in end cut)) own others)

-- ---------- pieces

-- the byte that an entry shows lies where the entry does
shown_within : (end : Moment) (cut : List Gathered) (es : List Entry) (truncs : List Trunc) (x : ℕ) (e : Entry) → AllByRecursion (λ (d : Entry). HasIssued end cut d.writer (d.physical + d.len)) es → newest_at es truncs x ≡ Some e
    → HasIssued end cut e.writer (e.physical + (x - e.at) + 1)
shown_within end cut es truncs x e all shows =
    let p : Entry → Bool = λ (d : Entry). covers d x && survives truncs x d in
    let among = filtered-Among p es e (newest-is (filter p es) e shows).0 in
    let parts = and_parts (nat_le e.at x) (nat_lt x (e.at + e.len)) (and_parts (covers e x) (survives truncs x e) among.0).0 in
    let from : e.at ≤ x = leb-true e.at x parts.0 in
    let until : x < e.at + e.len = ltb-true x (e.at + e.len) parts.1 in
    let its : HasIssued end cut e.writer (e.physical + e.len) = All-Among (λ (d : Entry). HasIssued end cut d.writer (d.physical + d.len)) es e all among.1 in
    (its.0, its.1, its.2, omega (arith, its.3, from, until))

source_within : (end : Moment) (cut : List Gathered) (es : List Entry) (truncs : List Trunc) (x : ℕ) (s : Source) → AllByRecursion (λ (d : Entry). HasIssued end cut d.writer (d.physical + d.len)) es → option_map (source_of x) (newest_at es truncs x) ≡ Some s
    → HasIssued end cut s.writer (s.place + 1)
source_within end cut es truncs x s all is = elim (cases_Option (newest_at es truncs x)) [
  | inl none ↦ (let clash : None ≡ Some s = sym (ap (option_map (source_of x)) none) ∙ is in absurd (cc))
  | inr found ↦ (let one : Some (source_of x found.0) ≡ Some s = sym (ap (option_map (source_of x)) found.1) ∙ is in
      let same : source_of x found.0 ≡ s = cc in
      let P : Source → Type 0 = λ t. HasIssued end cut t.writer (t.place + 1) in
      subst P same (shown_within end cut es truncs x found.0 all found.1))
]

-- a piece lies where its last byte does
pieces_within : (end : Moment) (cut : List Gathered) (pieces : List Piece) → AreRuns pieces → ((x : ℕ) (s : Source) → source_at pieces x ≡ Some s → HasIssued end cut s.writer (s.place + 1))
    → AllByRecursion (λ (p : Piece). HasIssued end cut p.writer (p.physical + p.len)) pieces
pieces_within end cut [] runs says = tt
pieces_within end cut (p ∷ pieces) runs says =
    let full : 0 < p.len = runs.0.not_empty in
    let x : ℕ = p.at + p.len - 1 in
    let last : HasIssued end cut p.writer (p.physical + (x - p.at) + 1) = says x (source_in x p) (source_at-here p pieces x (omega arith) (omega arith)) in
    ((last.0, last.1, last.2, omega (arith, last.3, full)), pieces_within end cut pieces runs.2 (λ y s e. says y s (source_at-later p pieces y s runs e)))

-- what a range has of them has bytes, and lies there too
range_within : (end : Moment) (cut : List Gathered) (at until : ℕ) (pieces : List Piece) → AllByRecursion (λ (p : Piece). HasIssued end cut p.writer (p.physical + p.len)) pieces
    → AllByRecursion (λ (p : Piece). IsPartOf end cut (piece_part p)) (pieces_in_range at until pieces)
range_within end cut at until [] all = tt
range_within end cut at until (p ∷ pieces) all =
    let P : List Piece → Type 0 = AllByRecursion (λ (q : Piece). IsPartOf end cut (piece_part q)) in
    let rest : P (pieces_in_range at until pieces) = range_within end cut at until pieces all.1 in
    let its : HasIssued end cut p.writer (p.physical + p.len) = all.0 in
    let from : ℕ = p.physical + (max at p.at - p.at) in
    let len : ℕ = min until (p.at + p.len) - max at p.at in
    elim (cases_lt (max at p.at) (min until (p.at + p.len))) [
      | inl there ↦
          (let part : IsOfLog end p.writer from len its.0 = record { log_of = its.2; some = omega arith; within = omega (arith, its.3) } in
          subst P (sym (pieces_in-met at until p pieces there)) (found_any (IsOfLog end p.writer from len) cut its.0 its.1 part, rest))
      | inr missed ↦ subst P (sym (pieces_in-missed at until p pieces missed)) rest
    ]

-- ---------- plans

hole_all : (P : Part → Type 0) (len : ℕ) → P (Hole len) → AllByRecursion P (hole len)
hole_all P len h = elim (len == 0) as (λ b. AllByRecursion P (if b then [] else Hole len ∷ [])) [ true ↦ tt | false ↦ (h, tt) ]

-- what holds of holes and of each piece's part holds of all parts
filled_all : (P : Part → Type 0) (from until : ℕ) (pieces : List Piece) → ((len : ℕ) → P (Hole len)) → AllByRecursion (λ (p : Piece). P (piece_part p)) pieces → AllByRecursion P (filled from until pieces)
filled_all P from until [] holes all = hole_all P (until - from) (holes (until - from))
filled_all P from until (p ∷ pieces) holes all =
    All-append P (hole (p.at - from)) (piece_part p ∷ filled (p.at + p.len) until pieces) (hole_all P (p.at - from) (holes (p.at - from))) (all.0, filled_all P (p.at + p.len) until pieces holes all.1)

pub plan_within : (end : Moment) (cut : List Gathered) (truncs : List Trunc) (pieces : List Piece) (size at len : ℕ) → IsSoundAt end → ArePieces (entries_in (writes_in end cut)) truncs pieces → AllByRecursion (IsPartOf end cut) (plan_of pieces size at len)
plan_within end cut truncs pieces size at len s are =
    let es : List Entry = entries_in (writes_in end cut) in
    let all : AllByRecursion (λ (p : Piece). HasIssued end cut p.writer (p.physical + p.len)) pieces =
    pieces_within end cut pieces are.runs (λ x source h. source_within end cut es truncs x source (entries_within end cut s) (sym (are.shown x) ∙ h)) in
    let until : ℕ = end_of size at len in
    filled_all (IsPartOf end cut) at until (pieces_in_range at until pieces) (λ n. tt) (range_within end cut at until pieces all)

-- Each part of a read is a hole, or bytes of a gathered writer's log that it had issued.
pub parts_in_logs : (end : Moment) (cut : List Gathered) (truncs : List Trunc) (pieces : List Piece) (size at len : ℕ) → IsSoundAt end → ArePieces (entries_in (writes_in end cut)) truncs pieces → All (IsPartOf end cut) (plan_of pieces size at len)
parts_in_logs end cut truncs pieces size at len s are = All-from_recursion (IsPartOf end cut) (plan_of pieces size at len) (plan_within end cut truncs pieces size at len s are)
