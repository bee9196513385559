-- Records of one width, one behind the other.
use Rattle.std.proofs.Common.{◌≡◌, ℕ, zero, suc, ◌+◌, ◌*◌, ◌≤◌, List, [], ◌∷◌, ◌++◌, length, take, drop, refl, sym, ap, ◌∙◌, arith, append_assoc, mul-suc, add-one}
use Rattle.std.specs.List.{AllByRecursion, flat_map}
use Rattle.std.proofs.lemmas.List.{length-append, length-drop, drop-drop, drop_at}
use Rattle.std.proofs.Math.Seq.{take-add}
use Rattle.index_entry.specs.Records.{IsBytes, IsFormat, records_in}
use Rattle.index_entry.proofs.NumberLemmas.{IsBytes-drop}

pub length-records_in : {A : Type 0} (read : List ℕ → A) (width n : ℕ) (bytes : List ℕ) → length (records_in read width n bytes) ≡ n
length-records_in read width zero bytes = refl
length-records_in read width (suc n) bytes = omega (arith, length-records_in read width n (drop width bytes))

nothing : (width : ℕ) → 0 ≡ width * 0
nothing width = omega arith

one_more : {A : Type 0} (read : List ℕ → A) (width n : ℕ) (bytes : List ℕ)
    → records_in read width (suc n) bytes ≡ records_in read width n bytes ++ read (drop (width * n) bytes) ∷ []
one_more read width zero bytes = ap (λ (k : ℕ). read (drop k bytes) ∷ []) (nothing width)
one_more read width (suc n) bytes =
    let skipped : drop (width * n) (drop width bytes) ≡ drop (width * suc n) bytes =
    drop-drop (width * n) width bytes ∙ ap (λ (k : ℕ). drop k bytes) (omega (arith, mul-suc width n)) in
    ap (λ xs. read bytes ∷ xs) (one_more read width n (drop width bytes)
    ∙ ap (λ (rest : List ℕ). records_in read width n (drop width bytes) ++ read rest ∷ []) skipped)

-- one record more
pub records_in-more : {A : Type 0} (read : List ℕ → A) (width n : ℕ) (bytes : List ℕ)
    → records_in read width (n + 1) bytes ≡ records_in read width n bytes ++ read (drop (width * n) bytes) ∷ []
records_in-more read width n bytes = ap (λ (k : ℕ). records_in read width k bytes) (add-one n) ∙ one_more read width n bytes

-- the first of them
pub take-records_in : {A : Type 0} (read : List ℕ → A) (width k n : ℕ) (bytes : List ℕ) → k ≤ n
    → take k (records_in read width n bytes) ≡ records_in read width k bytes
take-records_in read width zero n bytes in_n = refl
take-records_in read width (suc k) zero bytes in_n = absurd (omega arith)
take-records_in read width (suc k) (suc n) bytes in_n = ap (λ xs. read bytes ∷ xs) (take-records_in read width k n (drop width bytes) (omega arith))

-- what is spelled is read, whatever stands behind it
pub records_again : {A : Type 0} {width : ℕ} {spell : A → List ℕ} {read : List ℕ → A} {Fits : A → Type 0} → IsFormat A width spell read Fits
    → (xs : List A) (rest : List ℕ) → AllByRecursion Fits xs → records_in read width (length xs) (flat_map spell xs ++ rest) ≡ xs
records_again format [] rest fit = refl
records_again {A} {width} {spell} {read} format (x ∷ xs) rest fit =
    let regrouped : flat_map spell (x ∷ xs) ++ rest ≡ spell x ++ (flat_map spell xs ++ rest) = append_assoc (spell x) (flat_map spell xs) rest in
    let head : read (flat_map spell (x ∷ xs) ++ rest) ≡ x = ap read regrouped ∙ format.again x (flat_map spell xs ++ rest) fit.0 in
    let tail : drop width (flat_map spell (x ∷ xs) ++ rest) ≡ flat_map spell xs ++ rest =
    ap (drop width) regrouped ∙ drop_at (spell x) (flat_map spell xs ++ rest) width (format.wide x) in
    let others : records_in read width (length xs) (drop width (flat_map spell (x ∷ xs) ++ rest)) ≡ xs =
    ap (records_in read width (length xs)) tail ∙ records_again format xs rest fit.1 in
    cc

-- any bytes are spelled by the records that are read of them
pub records_back : {A : Type 0} {width : ℕ} {spell : A → List ℕ} {read : List ℕ → A} {Fits : A → Type 0} → IsFormat A width spell read Fits
    → (n : ℕ) (bytes : List ℕ) → IsBytes bytes → width * n ≤ length bytes → flat_map spell (records_in read width n bytes) ≡ take (width * n) bytes
records_back {A} {width} format zero bytes are long = ap (λ (k : ℕ). take k bytes) (nothing width)
records_back {A} {width} {spell} {read} format (suc n) bytes are long =
    let longer : width + width * n ≤ length bytes = omega (arith, mul-suc width n) in
    let one : spell (read bytes) ≡ take width bytes = format.back bytes are (omega arith) in
    let rest : flat_map spell (records_in read width n (drop width bytes)) ≡ take (width * n) (drop width bytes) =
    records_back format n (drop width bytes) (IsBytes-drop width bytes are) (simp length-drop (omega arith)) in
    let joined : take (width + width * n) bytes ≡ take width bytes ++ take (width * n) (drop width bytes) = take-add width (width * n) bytes in
    let same : width * suc n ≡ width + width * n = omega (arith, mul-suc width n) in
    rw (one, rest, same) (sym joined)

pub records_fit : {A : Type 0} {width : ℕ} {spell : A → List ℕ} {read : List ℕ → A} {Fits : A → Type 0} → IsFormat A width spell read Fits
    → (n : ℕ) (bytes : List ℕ) → IsBytes bytes → AllByRecursion Fits (records_in read width n bytes)
records_fit format zero bytes are = tt
records_fit {A} {width} format (suc n) bytes are = (format.fits bytes are, records_fit format n (drop width bytes) (IsBytes-drop width bytes are))

-- the length of a list of records
pub length-spelled : {A : Type 0} {width : ℕ} {spell : A → List ℕ} {read : List ℕ → A} {Fits : A → Type 0} → IsFormat A width spell read Fits
    → (xs : List A) → length (flat_map spell xs) ≡ width * length xs
length-spelled {A} {width} format [] = nothing width
length-spelled {A} {width} {spell} format (x ∷ xs) =
    omega (arith, length-append (spell x) (flat_map spell xs), format.wide x, length-spelled format xs, mul-suc width (length xs))

-- a list of the first records, and the one behind them
pub grows : {A : Type 0} (read : List ℕ → A) (width begin n : ℕ) (bytes : List ℕ) (xs : List A) (x : A)
    → xs ≡ records_in read width n (drop begin bytes) → x ≡ read (drop (begin + width * n) bytes)
    → records_in read width (n + 1) (drop begin bytes) ≡ xs ++ x ∷ []
grows read width begin n bytes xs x first next =
    let skipped : drop (width * n) (drop begin bytes) ≡ drop (begin + width * n) bytes = drop-drop (width * n) begin bytes in
    let last : x ≡ read (drop (width * n) (drop begin bytes)) = next ∙ ap read (sym skipped) in
    let more : records_in read width (n + 1) (drop begin bytes) ≡ records_in read width n (drop begin bytes) ++ read (drop (width * n) (drop begin bytes)) ∷ [] =
    records_in-more read width n (drop begin bytes) in
    cc
