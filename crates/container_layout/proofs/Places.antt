-- Which item stands at a path: at most one, and in which folder.
use Rattle.std.proofs.Common.{◌≡◌, ℕ, ◌<◌, ◌≤◌, ◌^◌, List, [], ◌∷◌, eqb, false, get_or, drop, Option, Some, None, refl, sym, ap, ◌∙◌, arith}
use Rattle.std.specs.Prelude.{IfSome, IfNone}
use Rattle.std.specs.Fmt.{decimal}
use Rattle.std.proofs.lemmas.Bool.{eqb-false}
use Rattle.std.proofs.lemmas.Fmt.{decimal_nonempty}
use Rattle.plfs_types.specs.declared.names.Path.{Path}
use Rattle.container_layout.specs.declared.items.Item.{Item}
use Rattle.container_layout.specs.declared.items.Item.TheVariants.{Access, OpenHost, Meta, Trunc, Flat, TmpFlat, Index, Log, Packed, TmpPacked}
use Rattle.container_layout.specs.Items.{IsItem}
use Rattle.container_layout.specs.Numbers.{dotted, IsNumber, AreNumbers}
use Rattle.container_layout.specs.Paths.{path_of, IsAt}
use Rattle.container_layout.proofs.Decimals.{byte_of}
use Rattle.container_layout.proofs.Dots.{one_list, one_number}

-- ---- what the table says of two items

-- a number does not begin as a word
pub no_word : (byte : ℕ) (rest : List ℕ) (n : ℕ) → IsNumber (byte ∷ rest) n → 58 ≤ byte → ⊥
no_word byte rest n is letter =
    let digit = byte_of n 0 is.fits (decimal_nonempty n is.fits) in
    let first : byte ≡ get_or (decimal n) 0 0 = ap (λ (t : List ℕ). get_or t 0 0) is.printed in
    omega (arith, digit.1, first, letter)

pub one_id : (a b : ℕ) → a < 2 ^ 64 → b < 2 ^ 64 → dotted (a ∷ []) ≡ dotted (b ∷ []) → a ≡ b
one_id a b a_lt b_lt same = one_number (decimal a) a b (record { fits = a_lt; printed = refl }) (record { fits = b_lt; printed = same })

pub one_pair : (a b a' b' : ℕ) → (a < 2 ^ 64) × (b < 2 ^ 64) → (a' < 2 ^ 64) × (b' < 2 ^ 64)
    → dotted (a ∷ b ∷ []) ≡ dotted (a' ∷ b' ∷ []) → (a ≡ a') × (b ≡ b')
one_pair a b a' b' fit fit' same =
    let ns : AreNumbers (dotted (a ∷ b ∷ [])) (a ∷ b ∷ []) = record { fit = (fit.0, (fit.1, tt)); printed = refl } in
    let ms : AreNumbers (dotted (a ∷ b ∷ [])) (a' ∷ b' ∷ []) = record { fit = (fit'.0, (fit'.1, tt)); printed = same } in
    let e : a ∷ b ∷ [] ≡ a' ∷ b' ∷ [] = one_list _ (a ∷ b ∷ []) (a' ∷ b' ∷ []) refl ns ms in
    (ap (λ (t : List ℕ). get_or t 0 0) e, ap (λ (t : List ℕ). get_or t 1 0) e)

one_host_item : (h n h' n' : ℕ) → (h < 2 ^ 32) × (n < 2 ^ 64) → (h' < 2 ^ 32) × (n' < 2 ^ 64)
    → dotted (h ∷ n ∷ []) ≡ dotted (h' ∷ n' ∷ []) → (h ≡ h') × (n ≡ n')
one_host_item h n h' n' fit fit' same = one_pair h n h' n' (omega (arith, fit.0), fit.1) (omega (arith, fit'.0), fit'.1) same

pub pair_numbers : {text : List ℕ} (a b : ℕ) → a < 2 ^ 64 → b < 2 ^ 64 → text ≡ dotted (a ∷ b ∷ []) → AreNumbers text (a ∷ b ∷ [])
pair_numbers a b a_lt b_lt printed = record { fit = (a_lt, (b_lt, tt)); printed = printed }

pub meta_numbers : {text : List ℕ} (last bytes stamp h w : ℕ) → IsItem (Meta last bytes stamp h w) → text ≡ dotted (last ∷ bytes ∷ stamp ∷ h ∷ w ∷ [])
    → AreNumbers text (last ∷ bytes ∷ stamp ∷ h ∷ w ∷ [])
meta_numbers last bytes stamp h w is printed = record {
  fit = (
    omega (arith, is.in_range.last_fits),
    (
      omega (arith, is.in_range.bytes_fit),
      (
        omega (arith, is.in_range.stamp_fits),
        (omega (arith, is.widths.0), (is.widths.1, tt)),
      ),
    ),
  );
  printed = printed;
}

-- two bytes that are not the same
pub elsewhere : {P : Type 0} {x y : ℕ} → x ≡ y → eqb x y ≡ false → P
elsewhere {P} {x} {y} same unequal = absurd (eqb-false x y unequal same)

pub first_of_folder : {p q : Path} → p ≡ q → get_or p.folder 0 0 ≡ get_or q.folder 0 0
first_of_folder same = ap (λ (p : Path). get_or p.folder 0 0) same

-- two items with one path are one item
pub same_items : (a b : Item) → IsItem a → IsItem b → path_of a ≡ path_of b → a ≡ b
same_items Access Access is_a is_b same = refl
same_items (OpenHost h w) (OpenHost h' w') is_a is_b same =
    let e = one_host_item h w h' w' is_a.widths is_b.widths (ap (λ (p : Path). p.file) same) in
    let host : h ≡ h' = e.0 in
    let writer : w ≡ w' = e.1 in cc
same_items (Meta last bytes stamp h w) (Meta last' bytes' stamp' h' w') is_a is_b same =
    let e = one_list (dotted (last ∷ bytes ∷ stamp ∷ h ∷ w ∷ [])) (last ∷ bytes ∷ stamp ∷ h ∷ w ∷ []) (last' ∷ bytes' ∷ stamp' ∷ h' ∷ w' ∷ []) refl
    (meta_numbers last bytes stamp h w is_a refl) (meta_numbers last' bytes' stamp' h' w' is_b (ap (λ (p : Path). p.file) same)) in cc
same_items (Trunc stamp size) (Trunc stamp' size') is_a is_b same =
    let e = one_pair stamp size stamp' size'
    (omega (arith, is_a.in_range.stamp_fits), omega (arith, is_a.in_range.size_fits))
    (omega (arith, is_b.in_range.stamp_fits), omega (arith, is_b.in_range.size_fits)) (ap (λ (p : Path). p.file) same) in
    let stamps : stamp ≡ stamp' = e.0 in
    let sizes : size ≡ size' = e.1 in cc
same_items (Flat id) (Flat id') is_a is_b same = ap (λ (n : ℕ). Flat n) (one_id id id' is_a.widths is_b.widths (ap (λ (p : Path). p.file) same))
same_items (Flat id) (TmpFlat id') is_a is_b same =
    absurd (no_word 116 _ id (record { fits = is_a.widths; printed = sym (ap (λ (p : Path). p.file) same) }) (omega arith))
same_items (TmpFlat id) (Flat id') is_a is_b same =
    absurd (no_word 116 _ id' (record { fits = is_b.widths; printed = ap (λ (p : Path). p.file) same }) (omega arith))
same_items (TmpFlat id) (TmpFlat id') is_a is_b same =
    ap (λ (n : ℕ). TmpFlat n) (one_id id id' is_a.widths is_b.widths (ap (λ (p : Path). drop 4 p.file) same))
same_items (Index h w) (Index h' w') is_a is_b same =
    let e = one_host_item h w h' w' is_a.widths is_b.widths (ap (λ (p : Path). drop 6 p.file) same) in
    let host : h ≡ h' = e.0 in
    let writer : w ≡ w' = e.1 in cc
same_items (Log h w) (Log h' w') is_a is_b same =
    let e = one_host_item h w h' w' is_a.widths is_b.widths (ap (λ (p : Path). drop 4 p.file) same) in
    let host : h ≡ h' = e.0 in
    let writer : w ≡ w' = e.1 in cc
same_items (Packed h w) (Packed h' w') is_a is_b same =
    let e = one_host_item h w h' w' is_a.widths is_b.widths (ap (λ (p : Path). drop 7 p.file) same) in
    let host : h ≡ h' = e.0 in
    let writer : w ≡ w' = e.1 in cc
same_items (TmpPacked h w) (TmpPacked h' w') is_a is_b same =
    let e = one_host_item h w h' w' is_a.widths is_b.widths (ap (λ (p : Path). drop 5 p.file) same) in
    let host : h ≡ h' = e.0 in
    let id : w ≡ w' = e.1 in cc
same_items (Index h w) (Log h' w') is_a is_b same = elsewhere (ap (λ (p : Path). get_or p.file 0 0) same) refl
same_items (Index h w) (Packed h' w') is_a is_b same = elsewhere (ap (λ (p : Path). get_or p.file 5 0) same) refl
same_items (Index h w) (TmpPacked h' w') is_a is_b same = elsewhere (ap (λ (p : Path). get_or p.file 0 0) same) refl
same_items (Log h w) (Index h' w') is_a is_b same = elsewhere (ap (λ (p : Path). get_or p.file 0 0) same) refl
same_items (Log h w) (Packed h' w') is_a is_b same = elsewhere (ap (λ (p : Path). get_or p.file 0 0) same) refl
same_items (Log h w) (TmpPacked h' w') is_a is_b same = elsewhere (ap (λ (p : Path). get_or p.file 0 0) same) refl
same_items (Packed h w) (Index h' w') is_a is_b same = elsewhere (ap (λ (p : Path). get_or p.file 5 0) same) refl
same_items (Packed h w) (Log h' w') is_a is_b same = elsewhere (ap (λ (p : Path). get_or p.file 0 0) same) refl
same_items (Packed h w) (TmpPacked h' w') is_a is_b same = elsewhere (ap (λ (p : Path). get_or p.file 0 0) same) refl
same_items (TmpPacked h w) (Index h' w') is_a is_b same = elsewhere (ap (λ (p : Path). get_or p.file 0 0) same) refl
same_items (TmpPacked h w) (Log h' w') is_a is_b same = elsewhere (ap (λ (p : Path). get_or p.file 0 0) same) refl
same_items (TmpPacked h w) (Packed h' w') is_a is_b same = elsewhere (ap (λ (p : Path). get_or p.file 0 0) same) refl
same_items Access b is_a is_b same = elsewhere (first_of_folder same) refl
same_items (OpenHost h w) b is_a is_b same = elsewhere (first_of_folder same) refl
same_items (Meta last bytes stamp h w) b is_a is_b same = elsewhere (first_of_folder same) refl
same_items (Trunc stamp size) b is_a is_b same = elsewhere (first_of_folder same) refl
same_items (Flat id) b is_a is_b same = elsewhere (first_of_folder same) refl
same_items (TmpFlat id) b is_a is_b same = elsewhere (first_of_folder same) refl
same_items (Index h w) b is_a is_b same = elsewhere (first_of_folder same) refl
same_items (Log h w) b is_a is_b same = elsewhere (first_of_folder same) refl
same_items (Packed h w) b is_a is_b same = elsewhere (first_of_folder same) refl
same_items (TmpPacked h w) b is_a is_b same = elsewhere (first_of_folder same) refl

pub one_item : (path : Path) (a b : Item) → IsAt path a → IsAt path b → a ≡ b
one_item path a b at_a at_b = same_items a b at_a.is_item at_b.is_item (sym at_a.printed ∙ at_b.printed)

-- an answer that is the path's item wherever it has one
pub item_found : (path : Path) (answer : Option Item) → IfSome answer (IsAt path) → IfNone answer ((item : Item) → ¬ (IsAt path item))
    → (item : Item) → IsAt path item → answer ≡ Some item
item_found path None found none item at_path = absurd (none item at_path)
item_found path (Some other) found none item at_path = ap (λ (x : Item). Some x) (one_item path other item found at_path)
