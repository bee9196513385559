-- The first kind of fault of a line's words.
use Rattle.std.proofs.Common.{◌≡◌, ◌≢◌, ℕ, zero, suc, ◌<◌, true, false, List, [], ◌∷◌, length, Option, Some, None, Result, Ok, Err, refl, sym, ap, subst, ◌∙◌, inl, inr, arith}
use Rattle.std.specs.Prelude.{Contains}
use Rattle.std.specs.List.{list_any}
use Rattle.std.proofs.lemmas.Bool.{cases_Bool, cases_lt}
use Rattle.std.proofs.lemmas.List.Elements.{All-contains, All-from_recursion}
use Rattle.plfs_types.specs.Names.{is_logical, IsLogicalName}
use Rattle.plfs_types.proofs.NameTests.{passes_rule, rule_passes}
use Rattle.pack_input.specs.declared.files.NamedFile.{NamedFile}
use Rattle.pack_input.specs.declared.trouble.Kind.{Kind}
use Rattle.pack_input.specs.declared.trouble.Kind.TheVariants.{Long, Spaces, Count, Name, Data}
use Rattle.pack_input.specs.Input.{HasKind, IsFirst, order}
use Rattle.pack_input.specs.Reading.{content_of, with_content, judged, two_words, file_of}
use Rattle.plfs_types.specs.Parts.{is_empty}
use Rattle.pack_input.proofs.Contents.{content_found, no_content}
use Rattle.pack_input.proofs.SaidFiles.{words_found}
use Rattle.pack_input.proofs.Layouts.{empty_word, full_words}

no_spaces : (words : List (List ℕ)) → list_any is_empty words ≡ false → Contains words [] → ⊥
no_spaces words none has = All-contains (λ (w : List ℕ). w ≢ []) words [] (All-from_recursion (λ (w : List ℕ). w ≢ []) words (full_words words none)) has refl

-- ---- no kind before this one

before_spaces : (words : List (List ℕ)) (other : Kind) → order other < 1 → HasKind words other → ⊥
before_spaces words Long less has = has
before_spaces words Spaces less has = omega (arith, less)
before_spaces words Count less has = omega (arith, less)
before_spaces words Name less has = omega (arith, less)
before_spaces words Data less has = omega (arith, less)

before_count : (words : List (List ℕ)) → list_any is_empty words ≡ false → (other : Kind) → order other < 2 → HasKind words other → ⊥
before_count words none Long less has = has
before_count words none Spaces less has = no_spaces words none has
before_count words none Count less has = omega (arith, less)
before_count words none Name less has = omega (arith, less)
before_count words none Data less has = omega (arith, less)

before_name : (words : List (List ℕ)) → list_any is_empty words ≡ false → length words ≡ 2 → (other : Kind) → order other < 3 → HasKind words other → ⊥
before_name words none two Long less has = has
before_name words none two Spaces less has = no_spaces words none has
before_name words none two Count less has = has two
before_name words none two Name less has = omega (arith, less)
before_name words none two Data less has = omega (arith, less)

no_bad_name : (words : List (List ℕ)) (name word : List ℕ) → words ≡ name ∷ word ∷ [] → IsLogicalName name → HasKind words Name → ⊥
no_bad_name words name word two named (other, more, is, unnamed) =
    let same : name ≡ other = cc in
    unnamed (subst (λ (n : List ℕ). IsLogicalName n) same named)

before_data : (words : List (List ℕ)) → list_any is_empty words ≡ false → (name word : List ℕ) → words ≡ name ∷ word ∷ [] → IsLogicalName name → (other : Kind) → order other < 4 → HasKind words other → ⊥
before_data words none name word two named Long less has = has
before_data words none name word two named Spaces less has = no_spaces words none has
before_data words none name word two named Count less has = has (ap length two)
before_data words none name word two named Name less has = no_bad_name words name word two named has
before_data words none name word two named Data less has = omega (arith, less)

-- ---- the kind that is told is the first

is_first : (words : List (List ℕ)) (kind told : Kind) → told ≡ kind → IsFirst words told → IsFirst words kind
is_first words kind told same first = subst (λ (k : Kind). IsFirst words k) same first

with_kind : (name word : List ℕ) (kind : Kind) → list_any is_empty (name ∷ word ∷ []) ≡ false → IsLogicalName name → (content : Option (List ℕ)) → content_of word ≡ content → with_content name content ≡ Err kind → IsFirst (name ∷ word ∷ []) kind
with_kind name word kind none named (Some content) read is = cc
with_kind name word kind none named None read is = is_first (name ∷ word ∷ []) kind Data (cc) (record {
  has = (name, word, refl, no_content word read);
  first = before_data (name ∷ word ∷ []) none name word refl named;
})

judged_kind : (name word : List ℕ) (kind : Kind) → list_any is_empty (name ∷ word ∷ []) ≡ false → judged name word ≡ Err kind → IsFirst (name ∷ word ∷ []) kind
judged_kind name word kind none is = elim (cases_Bool (is_logical name)) [
  | inl logical ↦
      let so : judged name word ≡ with_content name (content_of word) = rw logical refl in
      with_kind name word kind none (passes_rule name logical) (content_of word) refl (sym so ∙ is)
  | inr unnamed ↦
      let so : judged name word ≡ Err Name = rw unnamed refl in
      is_first (name ∷ word ∷ []) kind Name (cc) (record {
        has = (name, word, refl, λ named. let logical : is_logical name ≡ true = rule_passes name named in cc);
        first = before_name (name ∷ word ∷ []) none refl;
      })
]

miscounted : (words : List (List ℕ)) (kind : Kind) → list_any is_empty words ≡ false → length words ≢ 2 → ◌≡◌ {A = Result NamedFile Kind} (Err Count) (Err kind) → IsFirst words kind
miscounted words kind none other is = is_first words kind Count (cc) (record { has = other; first = before_count words none })

two_kind : (words : List (List ℕ)) (kind : Kind) → list_any is_empty words ≡ false → two_words words ≡ Err kind → IsFirst words kind
two_kind [] kind none is = miscounted [] kind none (λ e. omega (arith, e)) is
two_kind (name ∷ []) kind none is = miscounted (name ∷ []) kind none (λ e. omega (arith, e)) is
two_kind (name ∷ word ∷ []) kind none is = judged_kind name word kind none is
two_kind (name ∷ word ∷ more ∷ words) kind none is = miscounted (name ∷ word ∷ more ∷ words) kind none (λ e. omega (arith, e)) is

pub kind_found : (words : List (List ℕ)) (kind : Kind) → file_of words ≡ Err kind → IsFirst words kind
kind_found words kind is = elim (cases_Bool (list_any is_empty words)) [
  | inl some ↦
      let so : file_of words ≡ Err Spaces = rw some refl in
      is_first words kind Spaces (cc) (record { has = empty_word words some; first = before_spaces words })
  | inr none ↦
      let so : file_of words ≡ two_words words = rw none refl in
      two_kind words kind none (sym so ∙ is)
]

-- ---- the first kind is told

says_none : (words : List (List ℕ)) (f : NamedFile) → file_of words ≡ Ok f → (kind : Kind) → HasKind words kind → ⊥
says_none words f is Long has = has
says_none words f is Spaces has = no_spaces words (words_found words f is).0 has
says_none words f is Count has = has (ap length (words_found words f is).1.two)
says_none words f is Name has = let so = (words_found words f is).1 in no_bad_name words so.name so.word so.two so.named has
says_none words f is Data (name, word, two, nothing) =
    let both = words_found words f is in
    let so = both.1 in
    let same : so.word ≡ word = (let one : so.name ∷ so.word ∷ [] ≡ name ∷ word ∷ [] = sym so.two ∙ two in cc) in
    let full = full_words (name ∷ word ∷ []) (ap (list_any is_empty) (sym two) ∙ both.0) in
    let content = content_found word f.content full.1.0 (ap content_of (sym same) ∙ so.says) in
    nothing f.content content.0 content.1

abbrev kind_at : ℕ → Kind
kind_at zero = Long
kind_at (suc zero) = Spaces
kind_at (suc (suc zero)) = Count
kind_at (suc (suc (suc zero))) = Name
kind_at (suc (suc (suc (suc n)))) = Data

at_order : (k : Kind) → kind_at (order k) ≡ k
at_order Long = refl
at_order Spaces = refl
at_order Count = refl
at_order Name = refl
at_order Data = refl

same_kind : (words : List (List ℕ)) (k l : Kind) → IsFirst words k → IsFirst words l → k ≡ l
same_kind words k l one other = elim (cases_lt (order k) (order l)) [
  | inl less ↦ absurd (other.first k less one.has)
  | inr most ↦ elim (cases_lt (order l) (order k)) [
    | inl less ↦ absurd (one.first l less other.has)
    | inr least ↦
        let same : order k ≡ order l = omega (arith, most, least) in
        sym (at_order k) ∙ ap kind_at same ∙ at_order l
  ]
]

pub kind_again : (words : List (List ℕ)) (kind : Kind) → IsFirst words kind → file_of words ≡ Err kind
kind_again words kind first = by (file_of words) refl
  where
    by : (read : Result NamedFile Kind) → file_of words ≡ read → file_of words ≡ Err kind
    by (Ok f) is = absurd (says_none words f is kind first.has)
    by (Err told) is = is ∙ ap Err (same_kind words told kind (kind_found words told is) first)
