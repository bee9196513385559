-- The parts that the program of a refresh ends with are those of a reader that was refreshed.
use Rattle.std.proofs.Common.{◌≡◌, ℕ, ◌+◌, ◌-◌, ◌<◌, ◌^◌, true, false, Bool, List, [], ◌∷◌, ◌++◌, Option, Some, None, refl, ap, sym, ◌∙◌, inl, inr, subst, arith}
use Rattle.std.specs.Prelude.{◌==◌, ◌&&◌, ◌||◌, nat_lt, if◌then◌else◌}
use Rattle.std.proofs.lemmas.Bool.{cases_Bool, cases_lt, cond-true, cond-false}
use Rattle.std.proofs.lemmas.Bool.Decides.{nat_tests}
use Rattle.std.proofs.lemmas.List.{append-nil}
use Rattle.plfs_types.specs.declared.entries.Entry.{Entry}
use Rattle.plfs_types.specs.declared.entries.Trunc.{Trunc}
use Rattle.plain_file.specs.declared.parts.ReaderParts.{ReaderParts}
use Rattle.plain_file.specs.declared.pieces.Piece.{Piece}
use Rattle.plain_file.specs.Newest.{outlasts}
use Rattle.plain_file.specs.Runs.{AreRuns, ArePieces}
use Rattle.plain_file.specs.Shows.{entries_of, truncs_of}
use Rattle.plain_file.specs.Size.{size_from, last_trunc}
use Rattle.plain_file.specs.Sources.{Source, source_at, source_in, newer_source, kept_source}
use Rattle.plain_file.proofs.Facts.{SaysAfter, SaysAfter-clipped_before, shown_at, shown-clipped, size-from_after, source_at-before, source_at-here, source_at-past}
use Rattle.interval_merge.proofs.ListsLemmas.{newer_source-none}
use Rattle.mount_sound.specs.Ledger.{entries_in}
use Rattle.index_reader.specs.declared.gathered.Gathered.{Gathered as Came}
use Rattle.index_reader.specs.declared.listing.Listing.{Listing}
use Rattle.index_reader.specs.declared.sharing.Share.{Share}
use Rattle.index_reader.specs.Gathered.{AreFirstOf}
use Rattle.index_reader.specs.Hosts.{hosts_of}
use Rattle.index_reader.specs.Opened.{reader_from}
use Rattle.index_reader.specs.Runs.{merged_of}
use Rattle.index_reader.proofs.Indices.RunLemmas.{merged_of-is}
use Rattle.gather_flow.specs.OneIndex.{gathered_of}
use Rattle.gather_flow.proofs.CoverLemmas.{first_is, first_rise}
use Rattle.reader_laws.specs.Moments.{Moment, IsSoundAt}
use Rattle.reader_laws.specs.Gathering.{Gathered}
use Rattle.reader_laws.specs.View.{writes_in, changes_in}
use Rattle.reader_laws.proofs.Gathered.OpenReaders.Viewing.{bytes_all, entries_of-changes, keys_differ, truncs_of-changes}
use Rattle.reader_laws.specs.Opened.{HasOpenReader}
use Rattle.reader_laws.proofs.Facts.{AreRunsOf, IsBounded, runs_are}
use Rattle.refresh_index.specs.Hosts.{hosts_with}
use Rattle.refresh_index.specs.Refreshing.{as_held, behind, clipped, merged, nothing_came, refreshed, same_truncs, with_tails}
use Rattle.refresh_laws.specs.Refreshing.{IsRefreshOf}

-- ---- what pieces say lies within a file and a log

pub source_bounded : (pieces : List Piece) → AreRuns pieces → IsBounded (source_at pieces)
source_bounded [] runs x s is = absurd (cc)
source_bounded (p ∷ pieces) runs x s is = elim (cases_lt x (p.at + p.len)) [
  | inl within ↦ elim (cases_lt x p.at) [
    | inl before ↦ (let none : source_at (p ∷ pieces) x ≡ None = source_at-before p.at (p ∷ pieces) x runs (omega arith) before in let clash : None ≡ Some s = sym none ∙ is in absurd (cc))
    | inr from ↦
        let one : Some (source_in x p) ≡ Some s = sym (source_at-here p pieces x from within) ∙ is in
        let same : source_in x p ≡ s = cc in
        let place : p.physical + (x - p.at) ≡ s.place = ap (λ (t : Source). t.place) same in
        (omega (arith, runs.0.within), omega (arith, runs.0.in_log))
  ]
  | inr after ↦ source_bounded pieces runs.2 x s (sym (source_at-past p pieces x after) ∙ is)
]

newer_bounded : (a b : Option Source) (x : ℕ) → ((s : Source) → a ≡ Some s → (x < 2 ^ 40) × (s.place + 1 < 2 ^ 64)) → ((s : Source) → b ≡ Some s → (x < 2 ^ 40) × (s.place + 1 < 2 ^ 64))
    → (s : Source) → newer_source a b ≡ Some s → (x < 2 ^ 40) × (s.place + 1 < 2 ^ 64)
newer_bounded None b x of_a of_b s is = of_b s is
newer_bounded (Some t) None x of_a of_b s is = of_a s is
newer_bounded (Some t) (Some u) x of_a of_b s is = elim (cases_Bool (newer t u)) [
  | inl yes_ ↦ of_b s (sym (cond-true (newer t u) (Some u) (Some t) yes_) ∙ is)
  | inr no_ ↦ of_a s (sym (cond-false (newer t u) (Some u) (Some t) no_) ∙ is)
]
  where
    newer : Source → Source → Bool
    newer a b = nat_lt a.stamp b.stamp || (a.stamp == b.stamp && nat_lt a.writer b.writer)

kept_bounded : (truncs : List Trunc) (pieces : List Piece) → AreRuns pieces → IsBounded (λ x. kept_source truncs x (source_at pieces x))
kept_bounded truncs pieces runs x s is = kept (source_at pieces x) refl is
  where
    kept : (o : Option Source) → source_at pieces x ≡ o → kept_source truncs x o ≡ Some s → (x < 2 ^ 40) × (s.place + 1 < 2 ^ 64)
    kept None at none = absurd (let e : None ≡ Some s = none in cc)
    kept (Some t) at some = elim (cases_Bool (outlasts truncs x t.stamp)) [
      | inl stays ↦ source_bounded pieces runs x s (at ∙ sym (cond-true (outlasts truncs x t.stamp) (Some t) None stays) ∙ some)
      | inr goes ↦ absurd (let e : None ≡ Some s = sym (cond-false (outlasts truncs x t.stamp) (Some t) None goes) ∙ some in cc)
    ]

pub merged_runs : (held tails : List Piece) → AreRuns held → AreRuns tails → AreRunsOf (λ x. newer_source (source_at held x) (source_at tails x)) (merged held tails)
merged_runs held tails of_held of_tails =
    runs_are (λ x. newer_source (source_at held x) (source_at tails x))
    (λ x s is. newer_bounded (source_at held x) (source_at tails x) x (source_bounded held of_held x) (source_bounded tails of_tails x) s is)

pub clipped_runs : (truncs : List Trunc) (pieces : List Piece) → AreRuns pieces → AreRunsOf (λ x. kept_source truncs x (source_at pieces x)) (clipped truncs pieces)
clipped_runs truncs pieces runs = runs_are (λ x. kept_source truncs x (source_at pieces x)) (kept_bounded truncs pieces runs)

-- the pieces of one share
pub of_one : (pieces : List Piece) → AreRuns pieces → merged_of ([] ∷ pieces ∷ []) ≡ pieces
of_one pieces runs = sym (merged_of-is ([] ∷ pieces ∷ []) pieces runs (λ x. sym (newer_source-none (source_at pieces x))))

-- ---- where nothing came

both_tests : (a b c d : ℕ) → ((a == b) && (c == d)) ≡ true → (a ≡ b) × (c ≡ d)
both_tests a b c d t = (grind (arith, nat_tests), grind (arith, nat_tests))

pub same_truncates : (ts us : List Trunc) → same_truncs ts us ≡ true → us ≡ ts
same_truncates [] [] same = refl
same_truncates [] (u ∷ us) same = absurd (let e : false ≡ true = same in cc)
same_truncates (t ∷ ts) [] same = absurd (let e : false ≡ true = same in cc)
same_truncates (t ∷ ts) (u ∷ us) same = elim (cases_Bool ((u.stamp == t.stamp) && (u.size == t.size))) [
  | inl one ↦
      (let parts = both_tests u.stamp t.stamp u.size t.size one in
      let first : u ≡ t = λ i. record { stamp = parts.0 i; size = parts.1 i } in
      let rest : us ≡ ts = same_truncates ts us (sym (cond-true ((u.stamp == t.stamp) && (u.size == t.size)) (same_truncs ts us) false one) ∙ same) in
      λ i. first i ∷ rest i)
  | inr other ↦ absurd (let e : false ≡ true = sym (cond-false ((u.stamp == t.stamp) && (u.size == t.size)) (same_truncs ts us) false other) ∙ same in cc)
]

pub none_came : (held : List Trunc) (tails : List Piece) (truncs : List Trunc) → nothing_came held tails truncs ≡ true → (tails ≡ []) × (truncs ≡ held)
none_came held [] truncs same = (refl, same_truncates held truncs same)
none_came held (p ∷ tails) truncs same = absurd (let e : false ≡ true = same in cc)

kept_twice : (ts : List Trunc) (x : ℕ) (o : Option Source) → kept_source ts x (kept_source ts x o) ≡ kept_source ts x o
kept_twice ts x None = refl
kept_twice ts x (Some s) = elim (outlasts ts x s.stamp) as (λ b. outlasts ts x s.stamp ≡ b → kept_source ts x (if b then Some s else None) ≡ (if b then Some s else None)) [
  | true ↦ λ stays. cond-true (outlasts ts x s.stamp) (Some s) None stays
  | false ↦ λ goes. refl
] refl

module _ (start end : Moment) (held : ReaderParts) (former : List Gathered) (has : HasOpenReader start end (reader_from held) former) (s : IsSoundAt end) where
  -- pieces that were clipped are not clipped again
  clipped_once : (x : ℕ) → source_at held.pieces x ≡ kept_source held.truncs x (source_at held.pieces x)
  clipped_once x =
      let es : List Entry = entries_in (writes_in end former) in
      let once : source_at held.pieces x ≡ kept_source held.truncs x (shown_at es [] x) = has.pieces.shown x ∙ shown-clipped es held.truncs x in
      once ∙ sym (kept_twice held.truncs x (shown_at es [] x)) ∙ ap (kept_source held.truncs x) (sym once)

  -- they tell the size
  size_told : held.size ≡ size_from held.pieces held.truncs
  size_told =
      let es : List Entry = entries_in (writes_in end former) in
      let none : ArePieces [] [] [] = record { runs = tt; shown = λ x. refl } in
      let all : truncs_of (changes_in end former held.truncs) ≡ held.truncs ++ [] = truncs_of-changes (writes_in end former) held.truncs ∙ sym (append-nil held.truncs) in
      let entries : entries_of (changes_in end former held.truncs) ≡ es ++ [] = entries_of-changes (writes_in end former) held.truncs ∙ sym (append-nil es) in
      let says : SaysAfter (last_trunc (held.truncs ++ [])) (es ++ []) held.pieces =
      SaysAfter-clipped_before es [] held.truncs [] held.pieces [] held.pieces has.pieces none (λ x. sym (newer_source-none (source_at held.pieces x))) in
      let told : SaysAfter (last_trunc (truncs_of (changes_in end former held.truncs))) (entries_of (changes_in end former held.truncs)) held.pieces =
      subst (λ (fs : List Entry). SaysAfter (last_trunc (truncs_of (changes_in end former held.truncs))) fs held.pieces) (sym entries)
      (subst (λ (ts : List Trunc). SaysAfter (last_trunc ts) (es ++ []) held.pieces) (sym all) says) in
      has.size
      ∙ size-from_after (changes_in end former held.truncs) held.pieces (keys_differ end s held.room former held.truncs has.view.rise) (bytes_all end s held.room former held.truncs has.view.rise) has.pieces.runs told
      ∙ ap (size_from held.pieces) (truncs_of-changes (writes_in end former) held.truncs)

  module _ (listing : Listing) (share : Share) (truncs : List Trunc) (runs : AreRuns share.pieces) (hosts : hosts_with held.hosts listing.droppings ≡ hosts_of listing.droppings)
      (unpacked_hosts : hosts_with held.hosts (behind held listing).droppings ≡ hosts_with held.hosts listing.droppings) where
    abbrev pub came : Came
    came = gathered_of (behind held listing) (share ∷ []) truncs

    tails_are : came.flat.pieces ≡ share.pieces
    tails_are = of_one share.pieces runs

    covers_first : AreFirstOf (share.covers ++ held.covers) came.flat.covers
    covers_first =
        subst (λ cs. AreFirstOf (cs ++ held.covers) came.flat.covers) (append-nil share.covers)
        (record { ascend = first_rise ((share.covers ++ []) ++ held.covers); each = λ w. first_is ((share.covers ++ []) ++ held.covers) w })

    by_tails : IsRefreshOf (reader_from held) listing share truncs (reader_from (with_tails held came))
    by_tails =
        let all : List Piece = merged held.pieces came.flat.pieces in
        let of_tails : AreRuns came.flat.pieces = subst AreRuns (sym tails_are) runs in
        let m = merged_runs held.pieces came.flat.pieces has.pieces.runs of_tails in
        let c = clipped_runs truncs all m.runs in
        record {
          room = refl;
          hosts = unpacked_hosts ∙ hosts;
          covers = covers_first;
          truncates = refl;
          merged = all;
          runs = m.runs;
          newest = λ x. m.same x ∙ ap (λ ps. newer_source (source_at held.pieces x) (source_at ps x)) tails_are;
          size = refl;
          are_runs = c.runs;
          kept = c.same;
        }

    by_held : nothing_came held.truncs came.flat.pieces truncs ≡ true → IsRefreshOf (reader_from held) listing share truncs (reader_from (as_held held came))
    by_held nothing =
        let none = none_came held.truncs came.flat.pieces truncs nothing in
        let no_tails : share.pieces ≡ [] = sym tails_are ∙ none.0 in
        record {
          room = refl;
          hosts = unpacked_hosts ∙ hosts;
          covers = covers_first;
          truncates = refl;
          merged = held.pieces;
          runs = has.pieces.runs;
          newest = λ x. sym (ap (λ ps. newer_source (source_at held.pieces x) (source_at ps x)) no_tails ∙ newer_source-none (source_at held.pieces x));
          size = size_told ∙ ap (size_from held.pieces) (sym none.1);
          are_runs = has.pieces.runs;
          kept = λ x. clipped_once x ∙ ap (λ ts. kept_source ts x (source_at held.pieces x)) (sym none.1);
        }

    pub is_refresh : IsRefreshOf (reader_from held) listing share truncs (reader_from (refreshed held came))
    is_refresh = elim (cases_Bool (nothing_came held.truncs came.flat.pieces truncs)) [
      | inl nothing ↦ subst (λ (p : ReaderParts). IsRefreshOf (reader_from held) listing share truncs (reader_from p)) (sym (cond-true (nothing_came held.truncs came.flat.pieces truncs) (as_held held came) (with_tails held came) nothing)) (by_held nothing)
      | inr some ↦ subst (λ (p : ReaderParts). IsRefreshOf (reader_from held) listing share truncs (reader_from p)) (sym (cond-false (nothing_came held.truncs came.flat.pieces truncs) (as_held held came) (with_tails held came) some)) by_tails
    ]
