-- What a scan makes of the bytes at a unit's place.
use Rattle.std.proofs.Common.{◌≡◌, ℕ, ◌+◌, ◌-◌, ◌<◌, ◌≤◌, ◌^◌, min, nat_le, nat_lt, nat_eq, true, false, List, [], ◌∷◌, ◌++◌, length, take, drop, replicate, Option, Some, None, Result, Ok, Err, refl, sym, ap, subst, ◌∙◌, inl, inr, arith}
use Rattle.std.specs.Prelude.{◌==◌, ◌&&◌, ◌||◌, ◌≢◌}
use Rattle.std.specs.List.{AllByRecursion, list_all}
use Rattle.std.specs.Int.{w64, to_le_bytes, from_le_bytes}
use Rattle.std.proofs.lemmas.Bool.{and_from, and_parts, cases_Bool, cases_lt, cases_eq, false≢true}
use Rattle.std.proofs.lemmas.Bool.Decides.{nat_tests}
use Rattle.std.proofs.lemmas.List.{append_assoc, take-take, take_all, take_at, drop_at, drop-drop, length-take-le, length-drop}
use Rattle.index_entry.specs.Records.{IsBytes}
use Rattle.index_entry.specs.Spelling.{number_in}
use Rattle.index_entry.proofs.Facts.{number_back}
use Rattle.plfs_types.specs.Names.{IsLogicalName, is_logical}
use Rattle.plfs_types.proofs.NameTests.{passes_rule, rule_passes}
use Rattle.unit_format.specs.declared.units.TheConstants.{MAX_CONTENT}
use Rattle.unit_format.specs.declared.finding.Unit.{Unit as Found}
use Rattle.unit_format.specs.declared.finding.Region.{Region}
use Rattle.unit_format.specs.declared.scanner.Part.TheVariants.{Size, Name, Content, Over, Bad}
use Rattle.unit_format.specs.declared.scanner.Scanner.{Scanner}
use Rattle.plfs_types.specs.Names.{name_of}
use Rattle.unit_format.specs.Units.{unit_size, unseen_unit}
use Rattle.unit_format.specs.Regions.{IsOver, BeginsUnit, placed_at}
use Rattle.unit_format.specs.Scanning.{number_of, begins_at, expects, after_count, after_size, after_file, after_name, sizes_fit, eaten, finished}
use Rattle.unit_format.proofs.Eating.{with_got, eaten_part, eaten_short, eaten_settled}
use Rattle.unit_format.proofs.Spelled.{ReadsAs, read_again, file_in, spelled_so}

-- ---- numbers

first_number : (bytes : List ℕ) → 8 ≤ length bytes → number_of (take 8 bytes) ≡ number_in 0 bytes
first_number bytes long =
    let eight : length (take 8 bytes) ≡ 8 = length-take-le 8 bytes long in
    let test : nat_lt (length (take 8 bytes)) 8 ≡ false = grind (arith, nat_tests, eight) in
    rw test (ap (from_le_bytes w64) (take-take 8 8 bytes (omega arith)))

abbrev IsZero : ℕ → Type 0
IsZero b = b ≡ 0

zeros_are : (bytes : List ℕ) → AllByRecursion IsZero bytes → bytes ≡ replicate (length bytes) 0
zeros_are [] all = refl
zeros_are (b ∷ bytes) all = ap (λ (k : ℕ). k ∷ bytes) all.0 ∙ ap (λ (xs : List ℕ). 0 ∷ xs) (zeros_are bytes all.1)

zeros_number : (bytes : List ℕ) → 8 ≤ length bytes → AllByRecursion IsZero (take 8 bytes) → number_in 0 bytes ≡ 0
zeros_number bytes long all =
    ap (from_le_bytes w64) (zeros_are (take 8 bytes) all)
    ∙ ap (λ (k : ℕ). from_le_bytes w64 (replicate k 0)) (length-take-le 8 bytes long)

number_zeros : (bytes : List ℕ) → IsBytes bytes → 8 ≤ length bytes → number_in 0 bytes ≡ 0 → AllByRecursion IsZero (take 8 bytes)
number_zeros bytes are long none =
    let eight : to_le_bytes w64 0 ≡ take 8 bytes = ap (to_le_bytes w64) (sym none) ∙ number_back 0 bytes are (omega arith) in
    let zeros : AllByRecursion IsZero (to_le_bytes w64 0) = (refl, (refl, (refl, (refl, (refl, (refl, (refl, (refl, tt)))))))) in
    subst (λ (xs : List ℕ). AllByRecursion IsZero xs) eight zeros

all_pass : (bytes : List ℕ) → AllByRecursion IsZero bytes → list_all (λ b. b == 0) bytes ≡ true
all_pass [] all = refl
all_pass (b ∷ bytes) all =
    let one : nat_eq b 0 ≡ true = grind (arith, nat_tests, all.0) in
    and_from (nat_eq b 0) (list_all (λ b. b == 0) bytes) one (all_pass bytes all.1)

pass_all : (bytes : List ℕ) → list_all (λ b. b == 0) bytes ≡ true → AllByRecursion IsZero bytes
pass_all [] passed = tt
pass_all (b ∷ bytes) passed =
    let both = and_parts (nat_eq b 0) (list_all (λ b. b == 0) bytes) passed in
    let first : nat_eq b 0 ≡ true = both.0 in
    let one : b ≡ 0 = grind (arith, nat_tests, first) in
    (one, pass_all bytes both.1)

-- ---- what fits

pub record Fit (place end n d : ℕ) : Type 0 where
  pub some : 1 ≤ n
  pub short : n ≤ 64
  pub small : d ≤ MAX_CONTENT
  pub within : place + 16 + n + d ≤ end

fits_from : (place end n d : ℕ) → Fit place end n d → sizes_fit place end n d ≡ true
fits_from place end n d fit =
    let a : nat_le 1 n ≡ true = grind (arith, nat_tests, fit.some) in
    let b : nat_le n 64 ≡ true = grind (arith, nat_tests, fit.short) in
    let c : nat_le d MAX_CONTENT ≡ true = grind (arith, nat_tests, fit.small) in
    let e : nat_le (place + 16 + n + d) end ≡ true = grind (arith, nat_tests, fit.within) in
    rw (a, b, c, e) refl

fit_of : (place end n d : ℕ) → sizes_fit place end n d ≡ true → Fit place end n d
fit_of place end n d passed =
    let last = and_parts (nat_le 1 n && nat_le n 64 && nat_le d MAX_CONTENT) (nat_le (place + 16 + n + d) end) passed in
    let third = and_parts (nat_le 1 n && nat_le n 64) (nat_le d MAX_CONTENT) last.0 in
    let two = and_parts (nat_le 1 n) (nat_le n 64) third.0 in
    let a : nat_le 1 n ≡ true = two.0 in
    let b : nat_le n 64 ≡ true = two.1 in
    let c : nat_le d MAX_CONTENT ≡ true = third.1 in
    let e : nat_le (place + 16 + n + d) end ≡ true = last.1 in
    record {
      some = grind (arith, nat_tests, a);
      short = grind (arith, nat_tests, b);
      small = grind (arith, nat_tests, c);
      within = grind (arith, nat_tests, e);
    }

-- ---- part by part

pub begins_over : (stop end place : ℕ) (files : List Found) (bytes : List ℕ) → 8 ≤ length bytes → number_in 0 bytes ≡ 0
    → finished (eaten (begins_at stop end place files) bytes) ≡ Ok (record { units = files; end = place })
begins_over stop end place files bytes long none =
    let number : number_of (take 8 bytes) ≡ 0 = first_number bytes long ∙ none in
    let one : eaten (begins_at stop end place files) bytes ≡ eaten (after_count (with_got (begins_at stop end place files) 0 (take 8 bytes)) (number_of (take 8 bytes))) (drop 8 bytes) =
    eaten_part (begins_at stop end place files) bytes refl long in
    let two : eaten (begins_at stop end place files) bytes ≡ eaten (expects (begins_at stop end place files) Over 0) (drop 8 bytes) =
    one ∙ ap (λ (n : ℕ). eaten (after_count (with_got (begins_at stop end place files) 0 (take 8 bytes)) n) (drop 8 bytes)) number in
    ap finished (two ∙ eaten_settled (expects (begins_at stop end place files) Over 0) (drop 8 bytes) refl)

begins_size : (stop end place : ℕ) (files : List Found) (bytes : List ℕ) → 8 ≤ length bytes → number_in 0 bytes ≢ 0
    → eaten (begins_at stop end place files) bytes ≡ eaten (expects (begins_at stop end place files) (Size (number_in 0 bytes)) 7) (drop 8 bytes)
begins_size stop end place files bytes long some =
    let test : nat_eq (number_in 0 bytes) 0 ≡ false = grind (arith, nat_tests, some) in
    let one : eaten (begins_at stop end place files) bytes ≡ eaten (after_count (with_got (begins_at stop end place files) 0 (take 8 bytes)) (number_of (take 8 bytes))) (drop 8 bytes) =
    eaten_part (begins_at stop end place files) bytes refl long in
    let two : after_count (with_got (begins_at stop end place files) 0 (take 8 bytes)) (number_in 0 bytes) ≡ expects (begins_at stop end place files) (Size (number_in 0 bytes)) 7 =
    rw test refl in
    one ∙ ap (λ (n : ℕ). eaten (after_count (with_got (begins_at stop end place files) 0 (take 8 bytes)) n) (drop 8 bytes)) (first_number bytes long)
    ∙ ap (λ (t : Scanner). eaten t (drop 8 bytes)) two

size_part : (stop end place n : ℕ) (files : List Found) (bytes : List ℕ) → 16 ≤ length bytes
    → eaten (expects (begins_at stop end place files) (Size n) 7) (drop 8 bytes)
    ≡ eaten (after_size (begins_at stop end place files) n (number_in 8 bytes)) (drop 16 bytes)
size_part stop end place n files bytes long =
    let eight : 8 ≤ length (drop 8 bytes) = simp length-drop (omega arith) in
    let one : eaten (expects (begins_at stop end place files) (Size n) 7) (drop 8 bytes)
    ≡ eaten (after_size (begins_at stop end place files) n (number_of (take 8 (drop 8 bytes)))) (drop 8 (drop 8 bytes)) =
    eaten_part (expects (begins_at stop end place files) (Size n) 7) (drop 8 bytes) refl eight in
    one ∙ ap (λ (d : ℕ). eaten (after_size (begins_at stop end place files) n d) (drop 8 (drop 8 bytes))) (first_number (drop 8 bytes) eight)
    ∙ ap (eaten (after_size (begins_at stop end place files) n (number_in 8 bytes))) (drop-drop 8 8 bytes)

name_part : (stop end place at d n : ℕ) (files : List Found) (bytes : List ℕ) → 1 ≤ n → n ≤ length bytes
    → eaten (expects (begins_at stop end place files) (Name at d) (n - 1)) bytes
    ≡ eaten (after_name (begins_at stop end place files) (name_of (take n bytes)) at d) (drop n bytes)
name_part stop end place at d n files bytes some long =
    let again : n - 1 + 1 ≡ n = omega arith in
    eaten_part (expects (begins_at stop end place files) (Name at d) (n - 1)) bytes refl (omega arith)
    ∙ ap (λ (k : ℕ). eaten (after_name (begins_at stop end place files) (name_of (take k bytes)) at d) (drop k bytes)) again

content_part : (stop end place d : ℕ) (files : List Found) (bytes : List ℕ) → 1 ≤ d → d ≤ length bytes
    → eaten (record { stop = stop; end = end; place = place; part = Content; more = d - 1; got = []; units = files }) bytes
    ≡ eaten (begins_at stop end place files) (drop d bytes)
content_part stop end place d files bytes some long =
    let again : d - 1 + 1 ≡ d = omega arith in
    eaten_part (record { stop = stop; end = end; place = place; part = Content; more = d - 1; got = []; units = files }) bytes refl (omega arith)
    ∙ ap (λ (k : ℕ). eaten (begins_at stop end place files) (drop k bytes)) again

file_part : (stop end place next : ℕ) (files : List Found) (file : Found) (bytes : List ℕ) → file.len ≤ length bytes
    → eaten (after_file (begins_at stop end place files) file next) bytes ≡ eaten (begins_at stop end next (files ++ file ∷ [])) (drop file.len bytes)
file_part stop end place next files file bytes long = elim (cases_eq file.len 0) [
  | inl none ↦
      let test : nat_eq file.len 0 ≡ true = grind (arith, nat_tests, none) in
      rw test (ap (λ (k : ℕ). eaten (begins_at stop end next (files ++ file ∷ [])) (drop k bytes)) (sym none))
  | inr some ↦
      let test : nat_eq file.len 0 ≡ false = grind (arith, nat_tests, some) in
      rw test (content_part stop end next file.len (files ++ file ∷ []) bytes (omega (arith, some)) long)
]

-- where the lengths fit, the name is judged
sized : (stop end place : ℕ) (files : List Found) (bytes : List ℕ) → 16 ≤ length bytes → Fit place end (number_in 0 bytes) (number_in 8 bytes)
    → place + length bytes ≡ end
    → eaten (begins_at stop end place files) bytes
    ≡ eaten (after_name (begins_at stop end place files) (name_of (take (number_in 0 bytes) (drop 16 bytes))) (place + 16 + number_in 0 bytes) (number_in 8 bytes)) (drop (number_in 0 bytes) (drop 16 bytes))
sized stop end place files bytes long fit ends =
    let n = number_in 0 bytes in
    let d = number_in 8 bytes in
    let some : n ≢ 0 = λ e. let none : 1 ≤ n = fit.some in omega (arith, none, e) in
    let passed : sizes_fit place end n d ≡ true = fits_from place end n d fit in
    let judged_so : after_size (begins_at stop end place files) n d ≡ expects (begins_at stop end place files) (Name (place + 16 + n) d) (n - 1) = rw passed refl in
    let body_long : length (drop 16 bytes) ≡ length bytes - 16 = length-drop 16 bytes in
    begins_size stop end place files bytes (omega arith) some
    ∙ size_part stop end place n files bytes long
    ∙ ap (λ (t : Scanner). eaten t (drop 16 bytes)) judged_so
    ∙ name_part stop end place (place + 16 + n) d n files (drop 16 bytes) fit.some (omega (arith, fit.within, fit.some, body_long, ends))

-- a whole unit is taken in
unit_part : (stop end place : ℕ) (files : List Found) (bytes : List ℕ) → 16 ≤ length bytes → Fit place end (number_in 0 bytes) (number_in 8 bytes)
    → place + length bytes ≡ end → end < 2 ^ 64 → is_logical (take (number_in 0 bytes) (drop 16 bytes)) ≡ true
    → eaten (begins_at stop end place files) bytes
    ≡ eaten (begins_at stop end (place + 16 + number_in 0 bytes + number_in 8 bytes) (files ++ unseen_unit (take (number_in 0 bytes) (drop 16 bytes)) (place + 16 + number_in 0 bytes) (number_in 8 bytes) ∷ []))
    (drop (number_in 8 bytes) (drop (number_in 0 bytes) (drop 16 bytes)))
unit_part stop end place files bytes long fit ends fits logical =
    let n = number_in 0 bytes in
    let d = number_in 8 bytes in
    let file : Found = unseen_unit (take n (drop 16 bytes)) (place + 16 + n) d in
    let body_long : length (drop 16 bytes) ≡ length bytes - 16 = length-drop 16 bytes in
    let tail_long : length (drop n (drop 16 bytes)) ≡ length (drop 16 bytes) - n = length-drop n (drop 16 bytes) in
    let named : name_of (take n (drop 16 bytes)) ≡ Some (take n (drop 16 bytes)) = rw logical refl in
    let next : min (place + 16 + n + d) (2 ^ 64 - 1) ≡ place + 16 + n + d = omega (arith, fit.within) in
    sized stop end place files bytes long fit ends
    ∙ ap (λ (o : Option (List ℕ)). eaten (after_name (begins_at stop end place files) o (place + 16 + n) d) (drop n (drop 16 bytes))) named
    ∙ ap (λ (k : ℕ). eaten (after_file (begins_at stop end place files) file k) (drop n (drop 16 bytes))) next
    ∙ file_part stop end place (place + 16 + n + d) files file (drop n (drop 16 bytes)) (omega (arith, fit.within, body_long, tail_long, ends))

-- ---- a unit in front

-- the lengths and the name of a unit that stands in front
pub record HasFront (place end : ℕ) (bytes : List ℕ) (u : BeginsUnit bytes) : Type 0 where
  pub reads : ReadsAs bytes u.file u.rest
  pub long : 16 ≤ length bytes
  pub fit : place + length bytes ≡ end → Fit place end (number_in 0 bytes) (number_in 8 bytes)
  pub named : take (number_in 0 bytes) (drop 16 bytes) ≡ u.file.name
  pub logical : is_logical (take (number_in 0 bytes) (drop 16 bytes)) ≡ true

pub front_of : (place end : ℕ) (bytes : List ℕ) (u : BeginsUnit bytes) → HasFront place end bytes u
front_of place end bytes u =
    let rule : IsLogicalName u.file.name = u.small.named in
    let short : length u.file.name ≤ 64 = rule.short in
    let some : 1 ≤ length u.file.name = rule.not_empty in
    let small : length u.file.content ≤ MAX_CONTENT = u.small.small in
    let reads : ReadsAs bytes u.file u.rest =
    subst (λ (xs : List ℕ). ReadsAs xs u.file u.rest) (sym u.spelled) (read_again u.file u.rest (omega arith) (omega arith)) in
    let named : take (number_in 0 bytes) (drop 16 bytes) ≡ u.file.name =
    ap (take (number_in 0 bytes)) (reads.behind ∙ append_assoc u.file.name u.file.content u.rest) ∙ take_at u.file.name (u.file.content ++ u.rest) (number_in 0 bytes) (sym reads.name) in
    record {
      reads = reads;
      long = omega (arith, reads.long);
      fit = λ ends. record {
        some = omega (arith, reads.name);
        short = omega (arith, reads.name);
        small = omega (arith, reads.content);
        within = omega (arith, reads.name, reads.content, reads.long, ends);
      };
      named = named;
      logical = ap is_logical named ∙ rule_passes u.file.name rule;
    }

-- ---- the three ways

-- No further unit begins, or one stands in front, or the place is told as bad.
pub data Front (place stop : ℕ) (bytes : List ℕ) (files : List Found) (told : Result Region ℕ) : Type 0 where
  over : IsOver (stop - place) bytes → told ≡ Ok (record { units = files; end = place }) → Front place stop bytes files told
  unit : (IsOver (stop - place) bytes → ⊥) → BeginsUnit bytes → Front place stop bytes files told
  bad : (IsOver (stop - place) bytes → ⊥) → (BeginsUnit bytes → ⊥) → told ≡ Err place → Front place stop bytes files told

no_unit_in_few : (bytes : List ℕ) → length bytes < 16 → BeginsUnit bytes → ⊥
no_unit_in_few bytes few u = let long : 16 ≤ length bytes = (front_of 0 (length bytes) bytes u).long in omega (arith, long)

over_test : (left : ℕ) (bytes : List ℕ) → length bytes < 8 → (nat_lt left 8 || list_all (λ b. b == 0) bytes) ≡ true → IsOver left bytes
over_test left bytes few passed = elim (cases_Bool (nat_lt left 8)) [
  | inl near ↦ let test : nat_lt left 8 ≡ true = near in inl (grind (arith, nat_tests, test))
  | inr far ↦
      let zeros : list_all (λ b. b == 0) bytes ≡ true = rw far at passed in
      inr (subst (λ (xs : List ℕ). AllByRecursion IsZero xs) (sym (take_all 8 bytes (omega arith))) (pass_all bytes zeros))
]

over_passes : (left : ℕ) (bytes : List ℕ) → length bytes < 8 → IsOver left bytes → (nat_lt left 8 || list_all (λ b. b == 0) bytes) ≡ true
over_passes left bytes few (inl near) =
    let test : nat_lt left 8 ≡ true = grind (arith, nat_tests, near) in
    rw test refl
over_passes left bytes few (inr zeros) = elim (cases_Bool (nat_lt left 8)) [
  | inl near ↦ rw near refl
  | inr far ↦
      let all : AllByRecursion IsZero bytes = subst (λ (xs : List ℕ). AllByRecursion IsZero xs) (take_all 8 bytes (omega arith)) zeros in
      rw far (all_pass bytes all)
]

front_few : (stop end place : ℕ) (files : List Found) (bytes : List ℕ) → length bytes < 8
    → Front place stop bytes files (finished (eaten (begins_at stop end place files) bytes))
front_few stop end place files bytes few =
    let got : eaten (begins_at stop end place files) bytes ≡ with_got (begins_at stop end place files) (7 - length bytes) bytes =
    eaten_short (begins_at stop end place files) bytes refl (omega arith) in
    elim (cases_Bool (nat_lt (stop - place) 8 || list_all (λ b. b == 0) bytes)) [
      | inl passed ↦
          let told : finished (with_got (begins_at stop end place files) (7 - length bytes) bytes) ≡ Ok (record { units = files; end = place }) = rw passed refl in
          over (over_test (stop - place) bytes few passed) (ap finished got ∙ told)
      | inr not_passed ↦
          let told : finished (with_got (begins_at stop end place files) (7 - length bytes) bytes) ≡ Err place = rw not_passed refl in
          bad (λ is_over. false≢true (sym not_passed ∙ over_passes (stop - place) bytes few is_over)) (no_unit_in_few bytes (omega arith)) (ap finished got ∙ told)
    ]

goes_on : (stop end place : ℕ) (bytes : List ℕ) → 8 ≤ length bytes → place + length bytes ≡ end → end ≤ stop → number_in 0 bytes ≢ 0 → IsOver (stop - place) bytes → ⊥
goes_on stop end place bytes long ends within some (inl near) = omega arith
goes_on stop end place bytes long ends within some (inr zeros) = some (zeros_number bytes long zeros)

front_sized : (stop end place : ℕ) (files : List Found) (bytes : List ℕ) → IsBytes bytes → 16 ≤ length bytes → place + length bytes ≡ end → end ≤ stop → end < 2 ^ 64
    → number_in 0 bytes ≢ 0 → Front place stop bytes files (finished (eaten (begins_at stop end place files) bytes))
front_sized stop end place files bytes are long ends within fits some =
    let n = number_in 0 bytes in
    let d = number_in 8 bytes in
    elim (cases_Bool (sizes_fit place end n d)) [
      | inr unfit ↦
          let judged_so : after_size (begins_at stop end place files) n d ≡ expects (begins_at stop end place files) Bad 0 = rw unfit refl in
          let told : eaten (begins_at stop end place files) bytes ≡ expects (begins_at stop end place files) Bad 0 =
          begins_size stop end place files bytes (omega arith) some
          ∙ size_part stop end place n files bytes long
          ∙ ap (λ (t : Scanner). eaten t (drop 16 bytes)) judged_so
          ∙ eaten_settled (expects (begins_at stop end place files) Bad 0) (drop 16 bytes) refl in
          bad (goes_on stop end place bytes (omega arith) ends within some)
          (λ u. false≢true (sym unfit ∙ fits_from place end n d ((front_of place end bytes u).fit ends))) (ap finished told)
      | inl passed ↦ elim (cases_Bool (is_logical (take n (drop 16 bytes)))) [
        | inl logical ↦
            let fit : Fit place end n d = fit_of place end n d passed in
            unit (goes_on stop end place bytes (omega arith) ends within some) (record {
              file = file_in n d bytes;
              rest = drop d (drop n (drop 16 bytes));
              small = record {
                named = passes_rule (take n (drop 16 bytes)) logical;
                small = (
                    let body_long : length (drop 16 bytes) ≡ length bytes - 16 = length-drop 16 bytes in
                    let tail_long : length (drop n (drop 16 bytes)) ≡ length (drop 16 bytes) - n = length-drop n (drop 16 bytes) in
                    let is : length (take d (drop n (drop 16 bytes))) ≡ d = length-take-le d (drop n (drop 16 bytes)) (omega (arith, fit.within, body_long, tail_long, ends)) in
                    omega (arith, is, fit.small));
              };
              spelled = spelled_so bytes are n d refl refl (omega (arith, fit.within, ends));
            })
        | inr unnamed ↦
            let none : name_of (take n (drop 16 bytes)) ≡ None = rw unnamed refl in
            let told : eaten (begins_at stop end place files) bytes ≡ expects (begins_at stop end place files) Bad 0 =
            sized stop end place files bytes long (fit_of place end n d passed) ends
            ∙ ap (λ (o : Option (List ℕ)). eaten (after_name (begins_at stop end place files) o (place + 16 + n) d) (drop n (drop 16 bytes))) none
            ∙ eaten_settled (expects (begins_at stop end place files) Bad 0) (drop n (drop 16 bytes)) refl in
            bad (goes_on stop end place bytes (omega arith) ends within some)
            (λ u. false≢true (sym unnamed ∙ (front_of place end bytes u).logical)) (ap finished told)
      ]
    ]

front_many : (stop end place : ℕ) (files : List Found) (bytes : List ℕ) → IsBytes bytes → 8 ≤ length bytes → place + length bytes ≡ end → end ≤ stop → end < 2 ^ 64
    → Front place stop bytes files (finished (eaten (begins_at stop end place files) bytes))
front_many stop end place files bytes are long ends within fits = elim (cases_eq (number_in 0 bytes) 0) [
  | inl none ↦ over (inr (number_zeros bytes are long none)) (begins_over stop end place files bytes long none)
  | inr some ↦ elim (cases_lt (length bytes) 16) [
    | inl few ↦
        let body_long : length (drop 8 bytes) ≡ length bytes - 8 = length-drop 8 bytes in
        let told : eaten (begins_at stop end place files) bytes
        ≡ with_got (expects (begins_at stop end place files) (Size (number_in 0 bytes)) 7) (7 - length (drop 8 bytes)) (drop 8 bytes) =
        begins_size stop end place files bytes long some
        ∙ eaten_short (expects (begins_at stop end place files) (Size (number_in 0 bytes)) 7) (drop 8 bytes) refl (omega (arith, body_long)) in
        bad (goes_on stop end place bytes long ends within some) (no_unit_in_few bytes few) (ap finished told)
    | inr many ↦ front_sized stop end place files bytes are many ends within fits some
  ]
]

pub front : (stop end place : ℕ) (files : List Found) (bytes : List ℕ) → IsBytes bytes → place + length bytes ≡ end → end ≤ stop → end < 2 ^ 64
    → Front place stop bytes files (finished (eaten (begins_at stop end place files) bytes))
front stop end place files bytes are ends within fits = elim (cases_lt (length bytes) 8) [
  | inl few ↦ front_few stop end place files bytes few
  | inr many ↦ front_many stop end place files bytes are many ends within fits
]

-- a unit in front is taken in
pub takes_unit : (stop end place : ℕ) (files : List Found) (bytes : List ℕ) (u : BeginsUnit bytes) → place + length bytes ≡ end → end < 2 ^ 64
    → eaten (begins_at stop end place files) bytes
    ≡ eaten (begins_at stop end (place + unit_size u.file) (files ++ placed_at place u.file ∷ [])) u.rest
takes_unit stop end place files bytes u ends fits =
    let has = front_of place end bytes u in
    let n = number_in 0 bytes in
    let d = number_in 8 bytes in
    let behind : drop d (drop n (drop 16 bytes)) ≡ u.rest =
    ap (λ (xs : List ℕ). drop d (drop n xs)) (has.reads.behind ∙ append_assoc u.file.name u.file.content u.rest)
    ∙ ap (drop d) (drop_at u.file.name (u.file.content ++ u.rest) n (sym has.reads.name))
    ∙ drop_at u.file.content u.rest d (sym has.reads.content) in
    let next : place + 16 + n + d ≡ place + unit_size u.file = omega (arith, has.reads.name, has.reads.content) in
    let B : ℕ → List ℕ → ℕ → ℕ → List ℕ → Scanner = λ k name at len rest. eaten (begins_at stop end k (files ++ unseen_unit name at len ∷ [])) rest in
    unit_part stop end place files bytes has.long (has.fit ends) ends fits has.logical
    ∙ ap (λ (k : ℕ). B k (take n (drop 16 bytes)) (place + 16 + n) d (drop d (drop n (drop 16 bytes)))) next
    ∙ ap (λ (name : List ℕ). B (place + unit_size u.file) name (place + 16 + n) d (drop d (drop n (drop 16 bytes)))) has.named
    ∙ ap (λ (k : ℕ). B (place + unit_size u.file) u.file.name (place + 16 + k) d (drop d (drop n (drop 16 bytes)))) has.reads.name
    ∙ ap (λ (k : ℕ). B (place + unit_size u.file) u.file.name (place + 16 + length u.file.name) k (drop d (drop n (drop 16 bytes)))) has.reads.content
    ∙ ap (λ (rest : List ℕ). B (place + unit_size u.file) u.file.name (place + 16 + length u.file.name) (length u.file.content) rest) behind
