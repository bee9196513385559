-- The entries of writers that a flattened index covers, and its covers.
use Rattle.std.proofs.Common.{◌≡◌, ℕ, ◌+◌, ◌≤◌, ◌==◌, Bool, true, false, List, [], ◌∷◌, ◌++◌, map, length, take, refl, ap, sym, ◌∙◌, arith, append_assoc}
use Rattle.std.specs.Prelude.{if◌then◌else◌}
use Rattle.std.proofs.lemmas.Bool.Decides.{nat_tests}
use Rattle.std.proofs.lemmas.List.{map-append}
use Rattle.plfs_types.specs.declared.entries.Cover.{Cover}
use Rattle.plfs_types.specs.declared.entries.Entry.{Entry}
use Rattle.plfs_types.specs.declared.limits.TheConstants.{MAX_LOG}
use Rattle.index_entry.specs.Entries.{AreEntriesOf, logged}
use Rattle.mount_sound.specs.Ledger.{Written, entries_in}
use Rattle.mount_sound.proofs.Facts.{entries_take, in_order_take, logged_take}
use Rattle.reader_laws.specs.Moments.{Moment, IsSoundAt, issued_by}
use Rattle.reader_laws.specs.Gathering.{Gathered}
use Rattle.reader_laws.specs.View.{own_entries, writes_in}
use Rattle.reader_laws.specs.Covering.{counts_in, cover_with, empty_cover}

-- the first entries of a writer
pub record Own : Type 0 where
  pub host : ℕ
  pub writer : ℕ
  pub entries : List Entry

abbrev pub own_cover : Own → Cover
own_cover o = cover_with (empty_cover o.writer) o.entries

abbrev pub all_entries : List Own → List Entry
all_entries [] = []
all_entries (o ∷ owns) = o.entries ++ all_entries owns

-- there are some, by the rules of a writer's entries, and a log can have their bytes
pub record IsOwn (o : Own) : Type 0 where
  pub in_order : AreEntriesOf o.writer 0 0 o.entries
  pub some : 1 ≤ length o.entries
  pub small : logged o.entries ≤ MAX_LOG

abbrev pub AreOwn : List Own → Type 0
AreOwn [] = Unit {0}
AreOwn (o ∷ owns) = IsOwn o × AreOwn owns

-- ---- those of a cut

module _ (end : Moment) where
  abbrev pub own_of : Gathered → Own
  own_of g = record { host = g.dropping.host; writer = g.dropping.writer; entries = own_entries end g }

  abbrev pub own_if : Bool → Own → List Own
  own_if true o = []
  own_if false o = o ∷ []

  -- of each that has entries
  abbrev pub owns_in : List Gathered → List Own
  owns_in [] = []
  owns_in (g ∷ cut) = own_if ((own_cover (own_of g)).count == 0) (own_of g) ++ owns_in cut

  pub counts_owns : (cut : List Gathered) → counts_in end cut ≡ map own_cover (owns_in cut)
  counts_owns [] = refl
  counts_owns (g ∷ cut) = elim ((own_cover (own_of g)).count == 0) as (λ b. (if b then [] else own_cover (own_of g) ∷ []) ++ counts_in end cut ≡ map own_cover (own_if b (own_of g) ++ owns_in cut)) [
    | true ↦ counts_owns cut
    | false ↦ ap (λ l. own_cover (own_of g) ∷ l) (counts_owns cut)
  ]

  is_none : (n : ℕ) → (0 + n == 0) ≡ true → n ≡ 0
  is_none n h = grind (arith, nat_tests)

  is_some : (n : ℕ) → (0 + n == 0) ≡ false → 1 ≤ n
  is_some n h = grind (arith, nat_tests)

  no_entries : (es : List Entry) → length es ≡ 0 → es ≡ []
  no_entries [] e = refl
  no_entries (x ∷ es) e = absurd (omega (arith, e))

  its_entries : (g : Gathered) (b : Bool) → ((own_cover (own_of g)).count == 0) ≡ b → all_entries (own_if b (own_of g)) ≡ own_entries end g
  its_entries g true e = sym (no_entries (own_entries end g) (is_none (length (own_entries end g)) e))
  its_entries g false e = appended (own_entries end g)
    where
      appended : (es : List Entry) → es ++ [] ≡ es
      appended [] = refl
      appended (x ∷ es) = ap (λ l. x ∷ l) (appended es)

  all_both : (xs ys : List Own) → all_entries (xs ++ ys) ≡ all_entries xs ++ all_entries ys
  all_both [] ys = refl
  all_both (x ∷ xs) ys = ap (λ l. x.entries ++ l) (all_both xs ys) ∙ sym (append_assoc x.entries (all_entries xs) (all_entries ys))

  -- they are the entries of the cut
  pub entries_owns : (cut : List Gathered) → all_entries (owns_in cut) ≡ entries_in (writes_in end cut)
  entries_owns [] = refl
  entries_owns (g ∷ cut) =
      all_both (own_if ((own_cover (own_of g)).count == 0) (own_of g)) (owns_in cut)
      ∙ ap (λ l. l ++ all_entries (owns_in cut)) (its_entries g ((own_cover (own_of g)).count == 0) refl)
      ∙ ap (λ l. own_entries end g ++ l) (entries_owns cut)
      ∙ ap (λ l. l ++ entries_in (writes_in end cut)) (sym (entries_take g.count (issued_by end g.dropping)))
      ∙ sym (map-append (λ (w : Written). w.entry) (take g.count (issued_by end g.dropping)) (writes_in end cut))

  own_is : (s : IsSoundAt end) (g : Gathered) → 1 ≤ length (own_entries end g) → IsOwn (own_of g)
  own_is s g some =
      let w = s.sound.writes g.dropping.room g.dropping.writer in
      record {
        in_order = in_order_take g.count g.dropping.writer 0 0 (entries_in (issued_by end g.dropping)) w.in_order;
        some = some;
        small = omega (arith, w.small, logged_take g.count (entries_in (issued_by end g.dropping)));
      }

  own_both : (xs ys : List Own) → AreOwn xs → AreOwn ys → AreOwn (xs ++ ys)
  own_both [] ys a b = b
  own_both (x ∷ xs) ys a b = (a.0, own_both xs ys a.1 b)

  own_when : (s : IsSoundAt end) (g : Gathered) (b : Bool) → ((own_cover (own_of g)).count == 0) ≡ b → AreOwn (own_if b (own_of g))
  own_when s g true e = tt
  own_when s g false e = (own_is s g (is_some (length (own_entries end g)) e), tt)

  pub are_own : (s : IsSoundAt end) (cut : List Gathered) → AreOwn (owns_in cut)
  are_own s [] = tt
  are_own s (g ∷ cut) = own_both (own_if ((own_cover (own_of g)).count == 0) (own_of g)) (owns_in cut) (own_when s g ((own_cover (own_of g)).count == 0) refl) (are_own s cut)
