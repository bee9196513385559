-- The reader that is made of shares is one of what was read.
use Rattle.std.proofs.Common.{◌≡◌, ℕ, ◌+◌, ◌-◌, ◌<◌, ◌^◌, ◌&&◌, ◌||◌, true, false, inl, inr, List, [], ◌∷◌, ◌++◌, nat_lt, Option, Some, None, option_map, refl, sym, ap, ◌∙◌, arith}
use Rattle.std.specs.Prelude.{if◌then◌else◌, ◌==◌}
use Rattle.std.specs.List.{AllByRecursion}
use Rattle.std.proofs.lemmas.Bool.{cases_lt}
use Rattle.plfs_types.specs.declared.entries.Cover.{Cover}
use Rattle.plfs_types.specs.declared.entries.Entry.{Entry}
use Rattle.plfs_types.specs.declared.entries.Trunc.{Trunc}
use Rattle.plain_file.specs.declared.pieces.Piece.{Piece}
use Rattle.plain_file.specs.Newest.{newest_at, outlasts}
use Rattle.plain_file.specs.Runs.{AreRuns}
use Rattle.plain_file.specs.Sources.{Source, source_at, source_in, source_of, newer_source, kept_source}
use Rattle.plain_file.proofs.Facts.{ArePieces-clipped, newer_source-of, newest_at-append, source_at-before, source_at-here, source_at-past}
use Rattle.interval_merge.specs.Lists.{newest_source, ArePiecesOfEach, joined}
use Rattle.index_reader.specs.declared.gathered.Gathered.{Gathered as Parts}
use Rattle.index_reader.specs.declared.listing.Listing.{Listing}
use Rattle.index_reader.specs.declared.sharing.Share.{Share}
use Rattle.index_reader.specs.Gathered.{covers_of, pieces_of_each, IsGatheredOf}
use Rattle.index_reader.specs.Runs.{runs_of, merged_of}
use Rattle.reader_laws.specs.Opened.{IsReaderOf}
use Rattle.reader_laws.proofs.Facts.{AreRunsOf, IsBounded, runs_are}
use Rattle.gather_flow.specs.OneIndex.{first_covers, reader_of}
use Rattle.gather_flow.proofs.CoverLemmas.{first_is, first_rise}

source_bounded : (pieces : List Piece) → AreRuns pieces → IsBounded (source_at pieces)
source_bounded [] runs x s is = absurd (cc)
source_bounded (p ∷ pieces) runs x s is = elim (cases_lt x (p.at + p.len)) [
  | inl within ↦ elim (cases_lt x p.at) [
    | inl before ↦ (let none : source_at (p ∷ pieces) x ≡ None = source_at-before p.at (p ∷ pieces) x runs (omega arith) before in let clash : None ≡ Some s = sym none ∙ is in absurd (cc))
    | inr from ↦
        let one : Some (source_in x p) ≡ Some s = sym (source_at-here p pieces x from within) ∙ is in
        let same : source_in x p ≡ s = cc in
        let place : p.physical + (x - p.at) ≡ s.place = ap (λ (t : Source). t.place) same in
        (omega (arith, within, runs.0.within), omega (arith, from, within, place, runs.0.in_log))
  ]
  | inr after ↦ source_bounded pieces runs.2 x s (sym (source_at-past p pieces x after) ∙ is)
]

newer_bounded : (one other : Option Source) (x : ℕ) → ((s : Source) → one ≡ Some s → (x < 2 ^ 40) × (s.place + 1 < 2 ^ 64)) → ((s : Source) → other ≡ Some s → (x < 2 ^ 40) × (s.place + 1 < 2 ^ 64)) → (s : Source) → newer_source one other ≡ Some s → (x < 2 ^ 40) × (s.place + 1 < 2 ^ 64)
newer_bounded None other x a b s is = b s is
newer_bounded (Some t) None x a b s is = a s is
newer_bounded (Some t) (Some u) x a b s is =
    elim (nat_lt t.stamp u.stamp || (t.stamp == u.stamp && nat_lt t.writer u.writer)) as (λ c. (if c then Some u else Some t) ≡ Some s → (x < 2 ^ 40) × (s.place + 1 < 2 ^ 64)) [
      | true ↦ λ e. b s e
      | false ↦ λ e. a s e
    ] is

lists_bounded : (lists : List (List Piece)) → AllByRecursion AreRuns lists → IsBounded (newest_source lists)
lists_bounded [] all x s is = absurd (cc)
lists_bounded (pieces ∷ lists) all x s is = newer_bounded (source_at pieces x) (newest_source lists x) x (source_bounded pieces all.0 x) (lists_bounded lists all.1 x) s is

kept_bounded : (truncs : List Trunc) (says : ℕ → Option Source) → IsBounded says → IsBounded (λ x. kept_source truncs x (says x))
kept_bounded truncs says bounded x s is = of (says x) (bounded x) is
  where
    of : (o : Option Source) → ((t : Source) → o ≡ Some t → (x < 2 ^ 40) × (t.place + 1 < 2 ^ 64)) → kept_source truncs x o ≡ Some s → (x < 2 ^ 40) × (s.place + 1 < 2 ^ 64)
    of None b e = absurd (cc)
    of (Some t) b e = elim (outlasts truncs x t.stamp) as (λ c. (if c then Some t else None) ≡ Some s → (x < 2 ^ 40) × (s.place + 1 < 2 ^ 64)) [
      | true ↦ λ some. b s some
      | false ↦ λ none. absurd (cc)
    ] e

-- all lists of pieces say by bytes what all entries say
joined_say : (each : List (List Entry)) (lists : List (List Piece)) → ArePiecesOfEach each lists → (x : ℕ) → newest_source lists x ≡ option_map (source_of x) (newest_at (joined each) [] x)
joined_say [] [] are x = refl
joined_say [] (pieces ∷ lists) are x = absurd are
joined_say (entries ∷ more) [] are x = absurd are
joined_say (entries ∷ more) (pieces ∷ lists) are x =
    ap (λ o. newer_source o (newest_source lists x)) (are.0.shown x)
    ∙ ap (newer_source (option_map (source_of x) (newest_at entries [] x))) (joined_say more lists are.1 x)
    ∙ sym (newer_source-of x (newest_at entries [] x) (newest_at (joined more) [] x))
    ∙ ap (option_map (source_of x)) (sym (newest_at-append entries (joined more) [] x))

pub parts_of : Listing → List Share → List Trunc → Parts
parts_of listing shares truncs = record {
  room = listing.room;
  flat = record { covers = first_covers (covers_of shares ++ listing.flat.covers); pieces = merged_of (listing.flat.pieces ∷ pieces_of_each shares) };
  droppings = listing.droppings;
  truncs = truncs;
}

pub parts_gathered : (listing : Listing) (shares : List Share) (truncs : List Trunc) → AllByRecursion AreRuns (listing.flat.pieces ∷ pieces_of_each shares) → IsGatheredOf listing shares truncs (parts_of listing shares truncs)
unfolding parts_of
parts_gathered listing shares truncs runs =
    let lists : List (List Piece) = listing.flat.pieces ∷ pieces_of_each shares in
    let r : AreRunsOf (newest_source lists) (merged_of lists) = runs_are (newest_source lists) (lists_bounded lists runs) in
    let told : List Cover = covers_of shares ++ listing.flat.covers in
    record {
      room = refl;
      droppings = refl;
      truncates = refl;
      covers = record { ascend = first_rise told; each = λ w. first_is told w };
      pieces = record { newest = r.same; entries = λ each are. record { runs = r.runs; shown = λ x. r.same x ∙ joined_say each lists are x } };
    }

pub reader_made : (listing : Listing) (shares : List Share) (truncs : List Trunc) → AllByRecursion AreRuns (listing.flat.pieces ∷ pieces_of_each shares) → IsReaderOf (parts_of listing shares truncs) (reader_of listing shares truncs)
unfolding parts_of
reader_made listing shares truncs runs =
    let lists : List (List Piece) = listing.flat.pieces ∷ pieces_of_each shares in
    let bounded : IsBounded (newest_source lists) = lists_bounded lists runs in
    let whole : AreRunsOf (newest_source lists) (merged_of lists) = runs_are (newest_source lists) bounded in
    let kept : AreRunsOf (λ x. kept_source truncs x (newest_source lists x)) (runs_of (λ x. kept_source truncs x (newest_source lists x))) = runs_are (λ x. kept_source truncs x (newest_source lists x)) (kept_bounded truncs (newest_source lists) bounded) in
    record {
      room = refl;
      hosts = refl;
      covers = refl;
      truncates = refl;
      size = refl;
      pieces = λ entries are. ArePieces-clipped entries truncs (merged_of lists) (runs_of (λ x. kept_source truncs x (newest_source lists x))) are kept.runs (λ x. kept.same x ∙ ap (kept_source truncs x) (sym (whole.same x)));
    }
