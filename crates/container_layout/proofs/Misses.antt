-- Why a path that was not read is no item's.
use Rattle.std.proofs.Common.{◌≡◌, ℕ, ◌<◌, ◌^◌, List, [], ◌∷◌, ◌++◌, true, false, not, eqb, get_or, drop, refl, sym, ap, subst, ◌∙◌, arith}
use Rattle.std.specs.Prelude.{codes}
use Rattle.std.specs.Cmp.Lexicographic.{pointwise}
use Rattle.std.proofs.lemmas.Slice.Eq.{bytes_eq-Decides}
use Rattle.plfs_types.specs.declared.names.Path.{Path}
use Rattle.container_layout.specs.declared.items.Item.{Item}
use Rattle.container_layout.specs.declared.items.Item.TheVariants.{Meta, Trunc, Flat, TmpFlat}
use Rattle.container_layout.specs.Items.{IsMetaRange, IsTruncRange}
use Rattle.container_layout.specs.Numbers.{IsNumber, AreNumbers}
use Rattle.container_layout.specs.Paths.{hostdir_of, IsIn}
use Rattle.container_layout.proofs.Dots.{one_list}
use Rattle.container_layout.proofs.Places.{elsewhere, first_of_folder, no_word, meta_numbers, pair_numbers}

-- the host is the one that the numbers say
pub one_host : (text : List ℕ) (host writer h w : ℕ) → AreNumbers text (host ∷ writer ∷ []) → AreNumbers text (h ∷ w ∷ []) → host ≡ h
one_host text host writer h w are also =
    ap (λ (ns : List ℕ). get_or ns 0 0) (one_list text (host ∷ writer ∷ []) (h ∷ w ∷ []) refl are also)

pub no_meta : (file : List ℕ) (last bytes stamp host writer : ℕ) → AreNumbers file (last ∷ bytes ∷ stamp ∷ host ∷ writer ∷ [])
    → (IsMetaRange last bytes stamp → host < 2 ^ 32 → ⊥) → (item : Item) → IsIn (codes "metadata") file item → ⊥
no_meta file last bytes stamp host writer are out (Meta last' bytes' stamp' host' writer') is =
    let same = one_list file (last ∷ bytes ∷ stamp ∷ host ∷ writer ∷ []) (last' ∷ bytes' ∷ stamp' ∷ host' ∷ writer' ∷ []) refl are
    (meta_numbers last' bytes' stamp' host' writer' is.is_item (ap (λ (p : Path). p.file) is.printed)) in
    let Out : List ℕ → Type 0 = λ ns. IsMetaRange (get_or ns 0 0) (get_or ns 1 0) (get_or ns 2 0) → get_or ns 3 0 < 2 ^ 32 → ⊥ in
    subst Out same out is.is_item.in_range is.is_item.widths.0
no_meta file last bytes stamp host writer are out item is = elsewhere (first_of_folder is.printed) refl

pub no_trunc : (file : List ℕ) (stamp size : ℕ) → AreNumbers file (stamp ∷ size ∷ [])
    → (IsTruncRange stamp size → ⊥) → (item : Item) → IsIn (codes "truncs") file item → ⊥
no_trunc file stamp size are out (Trunc stamp' size') is =
    let range = is.is_item.in_range in
    let same = one_list file (stamp ∷ size ∷ []) (stamp' ∷ size' ∷ []) refl are
    (pair_numbers stamp' size' (omega (arith, range.stamp_fits)) (omega (arith, range.size_fits)) (ap (λ (p : Path). p.file) is.printed)) in
    let Out : List ℕ → Type 0 = λ ns. IsTruncRange (get_or ns 0 0) (get_or ns 1 0) → ⊥ in
    subst Out same out range
no_trunc file stamp size are out item is = elsewhere (first_of_folder is.printed) refl

-- behind `tmp.` stands no number
pub no_flat : (file rest : List ℕ) → file ≡ codes "tmp." ++ rest → ((n : ℕ) → IsNumber rest n → ⊥) → (item : Item) → IsIn (codes "flats") file item → ⊥
no_flat file rest cut none (Flat id) is =
    no_word 116 (drop 1 (codes "tmp.") ++ rest) id (record { fits = is.is_item.widths; printed = sym cut ∙ ap (λ (p : Path). p.file) is.printed }) (omega arith)
no_flat file rest cut none (TmpFlat id) is =
    none id (record { fits = is.is_item.widths; printed = ap (drop 4) (sym cut ∙ ap (λ (p : Path). p.file) is.printed) })
no_flat file rest cut none item is = elsewhere (first_of_folder is.printed) refl

-- the folder is not that of the host that the numbers say
pub no_hostdir : (folder shown text : List ℕ) (host writer h w : ℕ) → AreNumbers text (host ∷ writer ∷ []) → AreNumbers text (h ∷ w ∷ [])
    → shown ≡ hostdir_of host → true ≡ not (pointwise eqb folder shown) → folder ≡ hostdir_of h → ⊥
no_hostdir folder shown text host writer h w are also printed differs is =
    let one : folder ≡ shown = is ∙ ap hostdir_of (sym (one_host text host writer h w are also)) ∙ sym printed in
    let yes : pointwise eqb folder shown ≡ true = (bytes_eq-Decides folder shown).1 one in
    let bad : true ≡ false = differs ∙ ap not yes in absurd cc
