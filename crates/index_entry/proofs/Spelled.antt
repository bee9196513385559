-- What the spelling of entries is like: its length, its parts, and that it determines the entries.
use Rattle.std.proofs.Common.{◌≡◌, ℕ, zero, suc, ◌+◌, ◌*◌, ◌<◌, ◌^◌, List, [], ◌∷◌, ◌++◌, length, get_or, take, drop, refl, ap, sym, ◌∙◌, arith, append_assoc}
use Rattle.std.specs.List.{AllByRecursion}
use Rattle.std.proofs.lemmas.List.{append-nil, length-append, take_all, drop_all, take_at, drop_at}
use Rattle.std.proofs.Math.Seq.{take-append-add, drop-append-add}
use Rattle.std.proofs.lemmas.List.Concat.{flat_map-append}
use Rattle.plfs_types.specs.declared.entries.Entry.{Entry}
use Rattle.index_entry.specs.Spelling.{spelling, spelling_all, FitsPlaces, Spells}
use Rattle.index_entry.specs.Valid.{IsValidEntry}
use Rattle.index_entry.proofs.NumberLemmas.{read_again}

-- ---- one entry

pub length-spelling : (entry : Entry) → length (spelling entry) ≡ 40
unfolding spelling
length-spelling entry = refl

-- bytes spell at most one entry
pub one_entry : (bytes : List ℕ) (a b : Entry) → Spells bytes a → Spells bytes b → a ≡ b
one_entry bytes a b in_a in_b = sym (read_again bytes a in_a) ∙ read_again bytes b in_b

-- ---- entries one after the other

pub length-spelling_all : (entries : List Entry) → length (spelling_all entries) ≡ 40 * length entries
length-spelling_all [] = refl
length-spelling_all (e ∷ es) =
    omega (arith, length-append (spelling e) (spelling_all es), length-spelling e, length-spelling_all es)

pub spelling_all-append : (front back : List Entry) → spelling_all (front ++ back) ≡ spelling_all front ++ spelling_all back
spelling_all-append front back = flat_map-append spelling front back

pub spelling_all-one : (entry : Entry) → spelling_all (entry ∷ []) ≡ spelling entry
spelling_all-one entry = append-nil (spelling entry)

pub spelling_all-push : (entries : List Entry) (entry : Entry) → spelling_all (entries ++ entry ∷ []) ≡ spelling_all entries ++ spelling entry
spelling_all-push entries entry = spelling_all-append entries (entry ∷ []) ∙ ap (λ (bytes : List ℕ). spelling_all entries ++ bytes) (spelling_all-one entry)

-- the bytes of the first entries
pub take-spelling_all : (count : ℕ) (entries : List Entry) → take (40 * count) (spelling_all entries) ≡ spelling_all (take count entries)
take-spelling_all zero entries = refl
take-spelling_all (suc count) [] = take_all (40 * suc count) [] (omega arith)
take-spelling_all (suc count) (e ∷ es) =
    let more : 40 * suc count ≡ length (spelling e) + 40 * count = omega (arith, length-spelling e) in
    rw (more, take-append-add) (ap (λ (bytes : List ℕ). spelling e ++ bytes) (take-spelling_all count es))

-- the bytes of the entries after the first ones
pub drop-spelling_all : (count : ℕ) (entries : List Entry) → drop (40 * count) (spelling_all entries) ≡ spelling_all (drop count entries)
drop-spelling_all zero entries = refl
drop-spelling_all (suc count) [] = drop_all (40 * suc count) [] (omega arith)
drop-spelling_all (suc count) (e ∷ es) =
    let more : 40 * suc count ≡ length (spelling e) + 40 * count = omega (arith, length-spelling e) in
    rw (more, drop-append-add) (drop-spelling_all count es)

-- the bytes of one entry, whatever stands behind the entries
pub spelling_all-at : (entries : List Entry) (rest : List ℕ) (index : ℕ) (default : Entry) → index < length entries
    → take 40 (drop (40 * index) (spelling_all entries ++ rest)) ≡ spelling (get_or entries index default)
spelling_all-at (e ∷ es) rest zero default here =
    rw append_assoc (take_at (spelling e) (spelling_all es ++ rest) 40 (length-spelling e))
spelling_all-at (e ∷ es) rest (suc index) default here =
    let more : 40 * suc index ≡ length (spelling e) + 40 * index = omega (arith, length-spelling e) in
    rw (append_assoc, more, drop-append-add) (spelling_all-at es rest index default (omega arith))
spelling_all-at [] rest index default here = absurd (omega arith)

-- ---- which entries have a spelling that determines them

pub valid_fits_places : (entry : Entry) → IsValidEntry entry → entry.physical < 2 ^ 64 → entry.writer < 2 ^ 64 → FitsPlaces entry
valid_fits_places entry valid physical_fits writer_fits = record {
  at_fits = omega (arith, valid.near);
  len_fits = omega (arith, valid.near);
  physical_fits = physical_fits;
  stamp_fits = omega (arith, valid.stamp_fits);
  writer_fits = writer_fits;
}

-- bytes spell at most one list of entries
pub one_list : (a b : List Entry) → AllByRecursion FitsPlaces a → AllByRecursion FitsPlaces b → spelling_all a ≡ spelling_all b → a ≡ b
one_list [] [] fit_a fit_b same = refl
one_list [] (f ∷ fs) fit_a fit_b same =
    absurd (omega (arith, ap length same, length-append (spelling f) (spelling_all fs), length-spelling f))
one_list (e ∷ es) [] fit_a fit_b same =
    absurd (omega (arith, ap length same, length-append (spelling e) (spelling_all es), length-spelling e))
one_list (e ∷ es) (f ∷ fs) fit_a fit_b same =
    let head : spelling e ≡ spelling f =
    sym (take_at (spelling e) (spelling_all es) 40 (length-spelling e)) ∙ ap (take 40) same ∙ take_at (spelling f) (spelling_all fs) 40 (length-spelling f) in
    let tail : spelling_all es ≡ spelling_all fs =
    sym (drop_at (spelling e) (spelling_all es) 40 (length-spelling e)) ∙ ap (drop 40) same ∙ drop_at (spelling f) (spelling_all fs) 40 (length-spelling f) in
    let one : e ≡ f = one_entry (spelling f) e f (record { places = fit_a.0; spelled = sym head }) (record { places = fit_b.0; spelled = refl }) in
    let rest : es ≡ fs = one_list es fs fit_a.1 fit_b.1 tail in
    cc
