-- Pieces of a flattened index, merged with those of the tails, are those of all entries of the cut.
use Rattle.std.proofs.Common.{◌≡◌, ℕ, List, [], ◌∷◌, ◌++◌, take, drop, refl, ap, sym, ◌∙◌, ◌⊎◌, inl, inr, subst}
use Rattle.std.specs.Prelude.{option_map}
use Rattle.std.specs.List.{All, AllByRecursion}
use Rattle.std.proofs.lemmas.List.{take-append-drop}
use Rattle.std.proofs.lemmas.List.Elements.{recursion_from_All}
use Rattle.plfs_types.specs.declared.entries.Entry.{Entry}
use Rattle.plain_file.specs.declared.pieces.Piece.{Piece}
use Rattle.plain_file.specs.Runs.{AreRuns, ArePieces}
use Rattle.plain_file.specs.Sources.{source_at, source_of, newer_source}
use Rattle.plain_file.proofs.Facts.{Among, SameElements, OnePerKey-from_KeysDiffer, newest_at-same, ArePieces-merged}
use Rattle.mount_sound.specs.Ledger.{entries_in}
use Rattle.reader_laws.specs.Moments.{Moment, IsSoundAt}
use Rattle.reader_laws.specs.Gathering.{Gathered}
use Rattle.reader_laws.specs.View.{writes_in, own_entries, covered_in, tails_in, WritersRise}
use Rattle.reader_laws.proofs.Gathered.Containers.Members.{among_left, among_right}
use Rattle.reader_laws.proofs.Gathered.OpenReaders.Viewing.{entries_split, keys_in}

among_either : (x : Entry) (xs ys : List Entry) → Among x (xs ++ ys) → Among x xs ⊎ Among x ys
among_either x [] ys a = inr a
among_either x (y ∷ xs) ys (inl e) = inl (inl e)
among_either x (y ∷ xs) ys (inr a) = elim (among_either x xs ys a) as (λ _. Among x (y ∷ xs) ⊎ Among x ys) [ inl l ↦ inl (inr l) | inr r ↦ inr r ]

to_parts : (end : Moment) (cut : List Gathered) (x : Entry) → Among x (entries_in (writes_in end cut)) → Among x (covered_in end cut) ⊎ Among x (tails_in end cut)
to_parts end [] x a = absurd a
to_parts end (g ∷ cut) x a = elim (among_either x (own_entries end g) (entries_in (writes_in end cut)) (subst (Among x) (entries_split end g cut) a)) as (λ _. Among x (covered_in end (g ∷ cut)) ⊎ Among x (tails_in end (g ∷ cut))) [
  | inl mine ↦ elim (among_either x (take g.covered (own_entries end g)) (drop g.covered (own_entries end g)) (subst (Among x) (sym (take-append-drop g.covered (own_entries end g))) mine)) as (λ _. Among x (covered_in end (g ∷ cut)) ⊎ Among x (tails_in end (g ∷ cut))) [
    | inl front ↦ inl (among_left x (take g.covered (own_entries end g)) (covered_in end cut) front)
    | inr tail ↦ inr (among_left x (drop g.covered (own_entries end g)) (tails_in end cut) tail)
  ]
  | inr others ↦ elim (to_parts end cut x others) as (λ _. Among x (covered_in end (g ∷ cut)) ⊎ Among x (tails_in end (g ∷ cut))) [
    | inl front ↦ inl (among_right x (take g.covered (own_entries end g)) (covered_in end cut) front)
    | inr tail ↦ inr (among_right x (drop g.covered (own_entries end g)) (tails_in end cut) tail)
  ]
]

from_mine : (end : Moment) (g : Gathered) (cut : List Gathered) (x : Entry) → Among x (own_entries end g) ⊎ Among x (entries_in (writes_in end cut)) → Among x (entries_in (writes_in end (g ∷ cut)))
from_mine end g cut x (inl a) = subst (Among x) (sym (entries_split end g cut)) (among_left x (own_entries end g) (entries_in (writes_in end cut)) a)
from_mine end g cut x (inr a) = subst (Among x) (sym (entries_split end g cut)) (among_right x (own_entries end g) (entries_in (writes_in end cut)) a)

from_covered : (end : Moment) (cut : List Gathered) (x : Entry) → Among x (covered_in end cut) → Among x (entries_in (writes_in end cut))
from_covered end [] x a = absurd a
from_covered end (g ∷ cut) x a = elim (among_either x (take g.covered (own_entries end g)) (covered_in end cut) a) as (λ _. Among x (entries_in (writes_in end (g ∷ cut)))) [
  | inl mine ↦ from_mine end g cut x (inl (subst (Among x) (take-append-drop g.covered (own_entries end g)) (among_left x (take g.covered (own_entries end g)) (drop g.covered (own_entries end g)) mine)))
  | inr others ↦ from_mine end g cut x (inr (from_covered end cut x others))
]

from_tails : (end : Moment) (cut : List Gathered) (x : Entry) → Among x (tails_in end cut) → Among x (entries_in (writes_in end cut))
from_tails end [] x a = absurd a
from_tails end (g ∷ cut) x a = elim (among_either x (drop g.covered (own_entries end g)) (tails_in end cut) a) as (λ _. Among x (entries_in (writes_in end (g ∷ cut)))) [
  | inl mine ↦ from_mine end g cut x (inl (subst (Among x) (take-append-drop g.covered (own_entries end g)) (among_right x (take g.covered (own_entries end g)) (drop g.covered (own_entries end g)) mine)))
  | inr others ↦ from_mine end g cut x (inr (from_tails end cut x others))
]

pub same_entries : (end : Moment) (cut : List Gathered) → SameElements (entries_in (writes_in end cut)) (covered_in end cut ++ tails_in end cut)
same_entries end cut = record {
  to = λ x a. elim (to_parts end cut x a) as (λ _. Among x (covered_in end cut ++ tails_in end cut)) [ inl front ↦ among_left x (covered_in end cut) (tails_in end cut) front | inr tail ↦ among_right x (covered_in end cut) (tails_in end cut) tail ];
  back = λ x a. elim (among_either x (covered_in end cut) (tails_in end cut) a) as (λ _. Among x (entries_in (writes_in end cut))) [ inl front ↦ from_covered end cut x front | inr tail ↦ from_tails end cut x tail ];
}

-- A flattened index that is right for its covered counts changes no piece.
pub flattened_pieces : (end : Moment) (room : ℕ) (cut : List Gathered) (flat tails merged : List Piece) → IsSoundAt end → WritersRise room cut
    → ArePieces (covered_in end cut) [] flat → ArePieces (tails_in end cut) [] tails
    → AreRuns merged → ((x : ℕ) → source_at merged x ≡ newer_source (source_at flat x) (source_at tails x)) → ArePieces (entries_in (writes_in end cut)) [] merged
flattened_pieces end room cut flat tails merged s rise f t runs says =
    let both : ArePieces (covered_in end cut ++ tails_in end cut) [] merged = ArePieces-merged (covered_in end cut) (tails_in end cut) [] flat tails merged f t runs says in
    record {
      runs = runs;
      shown = λ x. both.shown x ∙ ap (option_map (source_of x)) (sym (newest_at-same (entries_in (writes_in end cut)) (covered_in end cut ++ tails_in end cut) [] [] (OnePerKey-from_KeysDiffer (entries_in (writes_in end cut)) (keys_in end s room cut rise)) (same_entries end cut) (record { to = λ u a. a; back = λ u a. a }) x));
    }

-- ---------- without a flattened index

none_dropped : (es : List Entry) → drop 0 es ≡ es
none_dropped [] = refl
none_dropped (e ∷ es) = refl

all_tails : (end : Moment) (cut : List Gathered) → AllByRecursion (λ (g : Gathered). g.covered ≡ 0) cut → tails_in end cut ≡ entries_in (writes_in end cut)
all_tails end [] none = refl
all_tails end (g ∷ cut) none =
    ap (λ n. drop n (own_entries end g) ++ tails_in end cut) none.0
    ∙ ap (λ l. l ++ tails_in end cut) (none_dropped (own_entries end g))
    ∙ ap (λ l. own_entries end g ++ l) (all_tails end cut none.1)
    ∙ sym (entries_split end g cut)

-- Where no entry is covered, the tails are all entries of the cut.
pub uncovered_tails : (end : Moment) (cut : List Gathered) → All (λ (g : Gathered). g.covered ≡ 0) cut → tails_in end cut ≡ entries_in (writes_in end cut)
uncovered_tails end cut none = all_tails end cut (recursion_from_All (λ (g : Gathered). g.covered ≡ 0) cut none)
