-- Covers and pieces of writers' entries are those of a valid flattened index.
use Rattle.std.proofs.Common.{◌≡◌, ℕ, ◌+◌, ◌-◌, ◌<◌, ◌≤◌, ◌&&◌, nat_lt, nat_le, Bool, List, [], ◌∷◌, ◌++◌, map, length, None, Some, option_map, filter, refl, ap, sym, ◌∙◌, inl, inr, ◌⊎◌, subst, arith}
use Rattle.std.specs.List.{AllByRecursion}
use Rattle.std.proofs.lemmas.Bool.{and_parts, leb-true, ltb-true}
use Rattle.std.proofs.lemmas.List.Elements.{recursion_from_All}
use Rattle.plfs_types.specs.declared.entries.Cover.{Cover}
use Rattle.plfs_types.specs.declared.entries.Entry.{Entry}
use Rattle.plfs_types.specs.declared.limits.TheConstants.{MAX_LOG, MAX_STAMP}
use Rattle.plain_file.specs.declared.pieces.Piece.{Piece}
use Rattle.plain_file.specs.Newest.{covers, survives, newest_at}
use Rattle.plain_file.specs.Runs.{AreRuns, ArePieces}
use Rattle.plain_file.specs.Sources.{Source, source_of, source_in, source_at}
use Rattle.plain_file.proofs.Facts.{Among, newest-is, filtered-Among, cases_Option, source_at-here, source_at-later}
use Rattle.index_entry.specs.Entries.{AreEntriesOf, last_stamp, logged}
use Rattle.flat_format.specs.declared.flat.Flat.{Flat}
use Rattle.flat_format.specs.Covers.{AnyCovers, AreCovers, IsCover, IsCoveredBy, IsFlatPiece, Precedes}
use Rattle.flat_format.specs.Valid.{IsFlat}
use Rattle.index_reader.specs.Covered.{AreByWriter}
use Rattle.flatten_laws.proofs.Owns.{Own, IsOwn, AreOwn, all_entries, own_cover}

-- ---- a writer's entries

latest_least : (writer last offset : ℕ) (es : List Entry) → AreEntriesOf writer last offset es → last ≤ last_stamp last es
latest_least writer last offset [] o = omega arith
latest_least writer last offset (e ∷ es) o = omega (arith, o.0.later, latest_least writer e.stamp (offset + e.len) es o.1)

latest_most : (writer last offset : ℕ) (es : List Entry) → AreEntriesOf writer last offset es → last ≤ MAX_STAMP → last_stamp last es ≤ MAX_STAMP
latest_most writer last offset [] o most = most
latest_most writer last offset (e ∷ es) o most = latest_most writer e.stamp (offset + e.len) es o.1 o.0.in_range

each_logs : (writer last offset : ℕ) (es : List Entry) → AreEntriesOf writer last offset es → length es ≤ logged es
each_logs writer last offset [] o = omega arith
each_logs writer last offset (e ∷ es) o = omega (arith, o.0.some, each_logs writer e.stamp (offset + e.len) es o.1)

-- one of them
pub record IsOneOf (writer last latest most : ℕ) (e : Entry) : Type 0 where
  pub owner : writer ≡ e.writer
  pub later : last < e.stamp
  pub earlier : e.stamp ≤ latest
  pub fits : e.stamp ≤ MAX_STAMP
  pub within : e.physical + e.len ≤ most

one_of : (writer last offset : ℕ) (es : List Entry) → AreEntriesOf writer last offset es → (e : Entry) → Among e es → IsOneOf writer last (last_stamp last es) (offset + logged es) e
one_of writer last offset [] o e a = absurd a
one_of writer last offset (x ∷ es) o e (inl same) =
    subst (IsOneOf writer last (last_stamp last (x ∷ es)) (offset + logged (x ∷ es))) (sym same)
    (record { owner = sym o.0.owner; later = o.0.later; earlier = latest_least writer x.stamp (offset + x.len) es o.1; fits = o.0.in_range; within = omega (arith, o.0.place) })
one_of writer last offset (x ∷ es) o e (inr a) =
    let r = one_of writer x.stamp (offset + x.len) es o.1 e a in
    record { owner = r.owner; later = omega (arith, o.0.later, r.later); earlier = r.earlier; fits = r.fits; within = omega (arith, r.within) }

-- ---- covers

cover_valid : (o : Own) → IsOwn o → IsCover (own_cover o)
cover_valid o is = record {
  counted = omega (arith, is.some);
  stored = omega (arith, each_logs o.writer 0 0 o.entries is.in_order);
  near = omega (arith, is.small);
  stamped = stamped o.entries is.in_order is.some;
  stamp_fits = latest_most o.writer 0 0 o.entries is.in_order (omega arith);
}
  where
    stamped : (es : List Entry) → AreEntriesOf o.writer 0 0 es → 1 ≤ length es → 1 ≤ last_stamp 0 es
    stamped [] order some = absurd (omega (arith, some))
    stamped (e ∷ es) order some = omega (arith, order.0.later, latest_least o.writer e.stamp (0 + e.len) es order.1)

precedes : (o : Own) (owns : List Own) → AreByWriter (own_cover o ∷ map own_cover owns) → Precedes (own_cover o) (map own_cover owns)
precedes o [] by = tt
precedes o (p ∷ owns) by = (recursion_from_All (λ later. o.writer < later) (map (λ (c : Cover). c.writer) (map own_cover (p ∷ owns))) by.0).0

covers_valid : (owns : List Own) → AreOwn owns → AreByWriter (map own_cover owns) → AreCovers (map own_cover owns)
covers_valid [] are by = tt
covers_valid (o ∷ owns) are by = (cover_valid o are.0, precedes o owns by, covers_valid owns are.1 by.1)

-- ---- pieces

-- a byte of an entry of one of these
pub record IsOfOwn (owns : List Own) (s : Source) : Type 0 where
  pub own : Own
  pub among : Among own owns
  pub owner : own.writer ≡ s.writer
  pub stamped : 1 ≤ s.stamp
  pub earlier : s.stamp ≤ last_stamp 0 own.entries
  pub fits : s.stamp ≤ MAX_STAMP
  pub within : s.place + 1 ≤ logged own.entries

in_either : {X : Type 0} (x : X) (xs ys : List X) → Among x (xs ++ ys) → Among x xs ⊎ Among x ys
in_either x [] ys a = inr a
in_either x (y ∷ xs) ys (inl e) = inl (inl e)
in_either x (y ∷ xs) ys (inr a) = elim (in_either x xs ys a) as (λ _. Among x (y ∷ xs) ⊎ Among x ys) [ inl l ↦ inl (inr l) | inr r ↦ inr r ]

-- the writer whose entry it is
whose : (owns : List Own) (e : Entry) → AreOwn owns → Among e (all_entries owns) → (o : Own) × Among o owns × IsOwn o × Among e o.entries
whose [] e are a = absurd a
whose (o ∷ owns) e are a = elim (in_either e o.entries (all_entries owns) a) as (λ _. (p : Own) × Among p (o ∷ owns) × IsOwn p × Among e p.entries) [
  | inl own ↦ (o, inl refl, are.0, own)
  | inr rest ↦ (let w = whose owns e are.1 rest in (w.0, inr w.1, w.2, w.3))
]

shown_of : (owns : List Own) → AreOwn owns → (x : ℕ) (e : Entry) → newest_at (all_entries owns) [] x ≡ Some e → IsOfOwn owns (source_of x e)
shown_of owns are x e shows =
    let p : Entry → Bool = λ (d : Entry). covers d x && survives [] x d in
    let among = filtered-Among p (all_entries owns) e (newest-is (filter p (all_entries owns)) e shows).0 in
    let parts = and_parts (nat_le e.at x) (nat_lt x (e.at + e.len)) (and_parts (covers e x) (survives [] x e) among.0).0 in
    let from : e.at ≤ x = leb-true e.at x parts.0 in
    let until : x < e.at + e.len = ltb-true x (e.at + e.len) parts.1 in
    let w = whose owns e are among.1 in
    let one = one_of w.0.writer 0 0 w.0.entries w.2.in_order e w.3 in
    record { own = w.0; among = w.1; owner = one.owner; stamped = omega (arith, one.later); earlier = one.earlier; fits = one.fits; within = omega (arith, one.within, from, until) }

source_of_own : (owns : List Own) → AreOwn owns → (x : ℕ) (s : Source) → option_map (source_of x) (newest_at (all_entries owns) [] x) ≡ Some s → IsOfOwn owns s
source_of_own owns are x s is = elim (cases_Option (newest_at (all_entries owns) [] x)) [
  | inl none ↦ (let clash : None ≡ Some s = sym (ap (option_map (source_of x)) none) ∙ is in absurd (cc))
  | inr found ↦ (let one : Some (source_of x found.0) ≡ Some s = sym (ap (option_map (source_of x)) found.1) ∙ is in
      let same : source_of x found.0 ≡ s = cc in
      subst (IsOfOwn owns) same (shown_of owns are x found.0 found.1))
]

any_covers : (owns : List Own) (o : Own) (p : Piece) → Among o owns → IsCoveredBy p (own_cover o) → AnyCovers p (map own_cover owns)
any_covers [] o p a is = absurd a
any_covers (x ∷ owns) o p (inl same) is = inl (subst (λ y. IsCoveredBy p (own_cover y)) same is)
any_covers (x ∷ owns) o p (inr a) is = inr (any_covers owns o p a is)

pieces_valid : (owns : List Own) (pieces : List Piece) → AreRuns pieces → ((x : ℕ) (s : Source) → source_at pieces x ≡ Some s → IsOfOwn owns s) → AllByRecursion (IsFlatPiece (map own_cover owns)) pieces
pieces_valid owns [] runs says = tt
pieces_valid owns (p ∷ pieces) runs says =
    let full : 0 < p.len = runs.0.not_empty in
    let x : ℕ = p.at + p.len - 1 in
    let last : IsOfOwn owns (source_in x p) = says x (source_in x p) (source_at-here p pieces x (omega arith) (omega arith)) in (
      record {
        valid = record { not_empty = omega (arith, full); near = runs.0.within; stamped = last.stamped; stamp_fits = last.fits };
        counted = any_covers owns last.own p last.among (record { writers = last.owner; stamps = last.earlier; logged = omega (arith, last.within, full) });
      },
      pieces_valid owns pieces runs.2 (λ y s e. says y s (source_at-later p pieces y s runs e)),
    )

-- So it is of all of them.
pub flat_valid : (owns : List Own) (pieces : List Piece) → AreOwn owns → AreByWriter (map own_cover owns) → ArePieces (all_entries owns) [] pieces → IsFlat (record { covers = map own_cover owns; pieces = pieces })
flat_valid owns pieces are by shown = record {
  covers = covers_valid owns are by;
  pieces = record { runs = shown.runs; covered = pieces_valid owns pieces shown.runs (λ x s e. source_of_own owns are x s (sym (shown.shown x) ∙ e)) };
}
