-- What stands in a sound tree by the path of a truncate, of an index or of who has a container open is such an item in its ranges.
use Rattle.std.proofs.Common.{◌≡◌, ◌≤◌, ◌<◌, ◌+◌, ◌^◌, inl, inr, ℕ, zero, suc, false, List, [], ◌∷◌, ◌++◌, length, drop, get_or, refl, sym, ap, ◌∙◌, subst, arith, if◌then◌else◌, length-append}
use Rattle.std.specs.Prelude.{◌/◌, ◌%◌, slice_get}
use Rattle.std.specs.Fmt.{decimal, digit_glyph, digits, digits_onto}
use Rattle.std.specs.Str.Parse.{AllDigits, digits_value}
use Rattle.std.proofs.lemmas.Bool.{cases_lt, ne_eqb}
use Rattle.std.proofs.lemmas.Fmt.{decimal_is_IsNumeral_wide, length-decimal-le}
use Rattle.std.proofs.lemmas.Str.Parse.{digit_at}
use Rattle.plfs_types.specs.declared.entries.Trunc.{Trunc}
use Rattle.plfs_types.specs.declared.names.Path.{Path}
use Rattle.container_layout.specs.declared.items.Item.{Item}
use Rattle.container_layout.specs.declared.items.Item.TheVariants.{Index, Log, OpenHost, Packed, TmpPacked, Trunc as Truncate}
use Rattle.container_layout.specs.Items.{IsItem}
use Rattle.container_layout.specs.Numbers.{dotted}
use Rattle.container_layout.specs.Paths.{path_of}
use Rattle.container_layout.proofs.Facts.{elsewhere, first_of_folder}
use Rattle.store_api.specs.Names.{marks_folder}
use Rattle.store_api.specs.declared.tree.Tree.{Tree}
use Rattle.mount_sound.specs.Shape.{IsShapedTree}
use Rattle.reader_laws.proofs.Gathered.Facts.{in_a_room}
use Rattle.headline.specs.Trees.{Has}
use Rattle.headline.specs.Views.{item_of}
use Rattle.headline_laws.proofs.Trees.Still.{file_of}

-- ---- the decimal form of any number

-- as many digits as are asked for, where the number has more
long : (k n : ℕ) (acc : List ℕ) → 10 ^ k ≤ n → length (digits_onto k 10 false n acc) ≡ k + length acc
long zero n acc most = omega arith
long (suc k) n acc most =
    let next : 10 ^ k ≤ n / 10 = omega (arith, most) in
    ap (λ b. length (if b then digit_glyph false (n % 10) ∷ acc else digits_onto k 10 false (n / 10) (digit_glyph false (n % 10) ∷ acc))) (ne_eqb (n / 10) 0 (λ none. nothing k (n / 10) next none))
    ∙ long k (n / 10) (digit_glyph false (n % 10) ∷ acc) next ∙ omega arith
  where
    nothing : (j m : ℕ) → 10 ^ j ≤ m → m ≡ 0 → ⊥
    nothing zero m most none = omega (arith, most, none)
    nothing (suc j) m most none = nothing j m (omega (arith, most)) none

spelled : (n : ℕ) → digits_onto 64 10 false n [] ≡ decimal n
unfolding digits
spelled n = refl

long_form : (k n : ℕ) → k ≡ 64 → 10 ^ k ≤ n → length (decimal n) ≡ k
long_form k n is most = ap length (sym (spelled n)) ∙ ap (λ j. length (digits_onto j 10 false n [])) (sym is) ∙ long k n [] most ∙ omega arith

below : (n : ℕ) → length (decimal n) < 64 → n < 10 ^ 64
below n short = elim (cases_lt n (10 ^ 64)) as (λ _. n < 10 ^ 64) [
  | inl less ↦ less
  | inr most ↦ absurd (let many = long_form 64 n refl most in omega (arith, many, short))
]

short_form : (n : ℕ) → n < 2 ^ 64 → length (decimal n) ≤ 20
short_form n fits = length-decimal-le 20 n (omega arith) (omega arith) fits

-- ---- two numbers with a dot between them

dot_less : (c : ℕ) (ds : List ℕ) → AllDigits 10 (c ∷ ds) → c ≡ 46 → ⊥
dot_less c ds all dot = let d = digit_at (c ∷ ds) 0 all (omega arith) in omega (arith, d.0, d.1, dot)

parts : (p q r s : List ℕ) → AllDigits 10 p → AllDigits 10 q → p ++ 46 ∷ r ≡ q ++ 46 ∷ s → (p ≡ q) × (r ≡ s)
parts [] [] r s all_p all_q same = (refl, ap (drop 1) same)
parts [] (c ∷ q) r s all_p all_q same = absurd (dot_less c q all_q (sym (ap (λ (t : List ℕ). get_or t 0 0) same)))
parts (c ∷ p) [] r s all_p all_q same = absurd (dot_less c p all_p (ap (λ (t : List ℕ). get_or t 0 0) same))
parts (c ∷ p) (d ∷ q) r s all_p all_q same =
    let rest = parts p q r s all_p.1 all_q.1 (ap (drop 1) same) in
    let first : c ≡ d = ap (λ (t : List ℕ). get_or t 0 0) same in
    (ap (λ x. x ∷ p) first ∙ ap (λ t. d ∷ t) rest.0, rest.1)

one_number : (a b : ℕ) → a < 10 ^ 64 → b < 10 ^ 64 → decimal a ≡ decimal b → a ≡ b
one_number a b a_less b_less same = sym (decimal_is_IsNumeral_wide a a_less).1 ∙ ap (digits_value 10) same ∙ (decimal_is_IsNumeral_wide b b_less).1

one_pair : (a b x y : ℕ) → x < 2 ^ 64 → y < 2 ^ 64 → dotted (a ∷ b ∷ []) ≡ dotted (x ∷ y ∷ []) → (a ≡ x) × (b ≡ y)
one_pair a b x y x_fits y_fits same =
    let text : decimal a ++ 46 ∷ decimal b ≡ decimal x ++ 46 ∷ decimal y = same in
    let long_x = short_form x x_fits in
    let long_y = short_form y y_fits in
    let lengths : length (decimal a ++ 46 ∷ decimal b) ≡ length (decimal x ++ 46 ∷ decimal y) = ap length text in
    let of_a = length-append (decimal a) (46 ∷ decimal b) in
    let of_x = length-append (decimal x) (46 ∷ decimal y) in
    let a_less : a < 10 ^ 64 = below a (omega (arith, lengths, of_a, of_x, long_x, long_y)) in
    let b_less : b < 10 ^ 64 = below b (omega (arith, lengths, of_a, of_x, long_x, long_y)) in
    let x_less : x < 10 ^ 64 = omega (arith, x_fits) in
    let y_less : y < 10 ^ 64 = omega (arith, y_fits) in
    let p = parts (decimal a) (decimal x) (decimal b) (decimal y) (decimal_is_IsNumeral_wide a a_less).0.1 (decimal_is_IsNumeral_wide x x_less).0.1 text in
    (one_number a x a_less x_less p.0, one_number b y b_less y_less p.1)

-- ---- items by their paths

trunc_so : (stamp size : ℕ) (own : Item) → IsItem own → path_of (Truncate stamp size) ≡ path_of own → IsItem (Truncate stamp size)
trunc_so stamp size (Truncate x y) is same =
    let e = one_pair stamp size x y (omega (arith, is.in_range.stamp_fits)) (omega (arith, is.in_range.size_fits)) (ap (λ (p : Path). p.file) same) in
    subst (λ k. IsItem (Truncate k size)) (sym e.0) (subst (λ k. IsItem (Truncate x k)) (sym e.1) is)
trunc_so stamp size own is same = elsewhere (first_of_folder same) refl

open_so : (host id : ℕ) (own : Item) → IsItem own → path_of (OpenHost host id) ≡ path_of own → IsItem (OpenHost host id)
open_so host id (OpenHost x y) is same =
    let e = one_pair host id x y (omega (arith, is.widths.0)) is.widths.1 (ap (λ (p : Path). p.file) same) in
    subst (λ k. IsItem (OpenHost k id)) (sym e.0) (subst (λ k. IsItem (OpenHost x k)) (sym e.1) is)
open_so host id own is same = elsewhere (first_of_folder same) refl

index_so : (host id : ℕ) (own : Item) → IsItem own → path_of (Index host id) ≡ path_of own → IsItem (Index host id)
index_so host id (Index x y) is same =
    let e = one_pair host id x y (omega (arith, is.widths.0)) is.widths.1 (ap (λ (p : Path). drop 6 p.file) same) in
    subst (λ k. IsItem (Index k id)) (sym e.0) (subst (λ k. IsItem (Index x k)) (sym e.1) is)
index_so host id (Log h w) is same = elsewhere (ap (λ (p : Path). get_or p.file 0 0) same) refl
index_so host id (Packed h w) is same = elsewhere (ap (λ (p : Path). get_or p.file 5 0) same) refl
index_so host id (TmpPacked h w) is same = elsewhere (ap (λ (p : Path). get_or p.file 0 0) same) refl
index_so host id own is same = elsewhere (first_of_folder same) refl

-- ---- what stands

module _ (allowed : ℕ → Type 0) (tree : Tree) (shaped : IsShapedTree allowed tree) where
  own_of : (n : ℕ) (item : Item) → ((path_of item).folder ≡ marks_folder → ⊥) → Has tree n item → (own : Item) × IsItem own × (path_of item ≡ path_of own)
  own_of n item apart (bytes, is) =
      let r = in_a_room (slice_get tree.rooms n) (path_of item) bytes (sym (file_of tree n item) ∙ is) in
      elim (shaped.rooms n r.0 r.1) as (λ _. (own : Item) × IsItem own × (path_of item ≡ path_of own)) [
        | inl marks ↦ let f = marks.files (path_of item) bytes r.2 in absurd (apart (ap (λ (p : Path). p.folder) f.3))
        | inr container ↦ let f = container.files (path_of item) bytes r.2 in (f.item, f.is_at.is_item, f.is_at.printed)
      ]

  pub truncs_fit : (n : ℕ) (u : Trunc) → Has tree n (item_of u) → IsItem (item_of u)
  truncs_fit n u has = (let o = own_of n (item_of u) (λ e. elsewhere (ap (λ (name : List ℕ). get_or name 0 0) e) refl) has in trunc_so u.stamp u.size o.0 o.1 o.2)

  pub opens_fit : (n host id : ℕ) → Has tree n (OpenHost host id) → IsItem (OpenHost host id)
  opens_fit n host id has = (let o = own_of n (OpenHost host id) (λ e. elsewhere (ap (λ (name : List ℕ). get_or name 0 0) e) refl) has in open_so host id o.0 o.1 o.2)

  pub indices_fit : (n host id : ℕ) → Has tree n (Index host id) → IsItem (Index host id)
  indices_fit n host id has = (let o = own_of n (Index host id) (λ e. elsewhere (ap (λ (name : List ℕ). get_or name 0 0) e) refl) has in index_so host id o.0 o.1 o.2)
