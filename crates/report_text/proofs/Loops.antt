-- Reading item by item, as a loop does.
use Rattle.std.proofs.Common.{◌≡◌, ℕ, ◌+◌, ◌*◌, ◌==◌, true, false, cond, List, [], ◌∷◌, ◌++◌, length, Option, Some, None, refl, sym, ap, ◌∙◌, append_assoc, append-nil, arith}
use Rattle.std.specs.List.{slice_split}
use Rattle.hex.specs.Hex.{hex_digit_value}
use Rattle.report_text.specs.Reading.{◌>>=◌, FailsAsText, cut, all_at, name_at, byte_at, escape_at}
use Rattle.report_text.specs.declared.trouble.Trouble.{Trouble}
use Rattle.report_text.specs.declared.trouble.Trouble.TheVariants.{Bad, NoMemory}
use Rattle.report_text.proofs.Cuts.{cut-some, cut-none}

-- what was read before, and what is still read
abbrev pub with_front : {X : Type 0} → List X → Option (List X) → Option (List X)
with_front front read = read >>= λ items. Some (front ++ items)

pub with_front-nil : {X : Type 0} (read : Option (List X)) → with_front [] read ≡ read
with_front-nil (Some items) = refl
with_front-nil None = refl

with_front-cons : {X : Type 0} (front : List X) (item : X) (read : Option (List X)) → with_front front (read >>= λ items. Some (item ∷ items)) ≡ with_front (front ++ item ∷ []) read
with_front-cons front item (Some items) = ap Some (sym (append_assoc front (item ∷ []) items))
with_front-cons front item None = refl

-- ---- the items of a list

module _ {X : Type 0} (read : List ℕ → Option X) (c : ℕ) where
  abbrev pub items_from : List ℕ → Option (List X)
  items_from text = all_at read (slice_split (λ b. b == c) text)

  pub goes_on : (front : List X) (text item others : List ℕ) (x : X) (total : Option (List X)) → cut c text ≡ Some (item, others) → read item ≡ Some x
      → with_front front (items_from text) ≡ total → with_front (front ++ x ∷ []) (items_from others) ≡ total
  unfolding all_at
  goes_on front text item others x total found is so_far =
      let step : with_front front (items_from text) ≡ with_front (front ++ x ∷ []) (items_from others) =
      rw ((cut-some c text item others found).parts, is) (with_front-cons front x (items_from others)) in
      sym step ∙ so_far

  pub ends : (e : Trouble) (front : List X) (text item others : List ℕ) (total : Option (List X)) → cut c text ≡ Some (item, others) → FailsAsText e (read item)
      → with_front front (items_from text) ≡ total → FailsAsText e total
  unfolding all_at
  ends NoMemory front text item others total found is so_far = tt
  ends Bad front text item others total found is so_far =
      let step : with_front front (items_from text) ≡ None = rw ((cut-some c text item others found).parts, is) refl in
      sym so_far ∙ step

  pub is_done : (front : List X) (text : List ℕ) (x : X) (total : Option (List X)) → cut c text ≡ None → read text ≡ Some x
      → with_front front (items_from text) ≡ total → total ≡ Some (front ++ x ∷ [])
  unfolding all_at
  is_done front text x total found is so_far =
      let step : with_front front (items_from text) ≡ Some (front ++ x ∷ []) = rw (cut-none c text found, is) refl in
      sym so_far ∙ step

  pub ends_last : (e : Trouble) (front : List X) (text : List ℕ) (total : Option (List X)) → cut c text ≡ None → FailsAsText e (read text)
      → with_front front (items_from text) ≡ total → FailsAsText e total
  unfolding all_at
  ends_last NoMemory front text total found is so_far = tt
  ends_last Bad front text total found is so_far =
      let step : with_front front (items_from text) ≡ None = rw (cut-none c text found, is) refl in
      sym so_far ∙ step

-- ---- the bytes of a name

abbrev found : ℕ → List ℕ → Option (ℕ × List ℕ)
found b rest = Some (b, rest)

-- a byte before the others
abbrev pub before_others : ℕ × List ℕ → Option (List ℕ)
before_others p = name_at p.1 >>= λ name. Some (p.0 ∷ name)

escaped_step : (first second : Option ℕ) (rest : List ℕ) →
    (first >>= λ high. second >>= λ low. name_at rest >>= λ name. Some ((high * 16 + low) ∷ name))
    ≡ ((first >>= λ high. second >>= λ low. found (high * 16 + low) rest) >>= before_others)
escaped_step (Some high) (Some low) rest = refl
escaped_step (Some high) None rest = refl
escaped_step None second rest = refl

-- a byte is read, and then the others
pub by_byte : (b : ℕ) (others : List ℕ) → name_at (b ∷ others) ≡ (byte_at b others >>= before_others)
unfolding name_at byte_at escape_at
by_byte b [] = elim (b == 37) as (λ v. cond v None (Some (b ∷ [])) ≡ (cond v None (found b []) >>= before_others)) [ true ↦ refl | false ↦ refl ]
by_byte b (h ∷ []) =
    elim (b == 37) as (λ v. cond v None (name_at (h ∷ []) >>= λ name. Some (b ∷ name)) ≡ (cond v None (found b (h ∷ [])) >>= before_others)) [ true ↦ refl | false ↦ refl ]
by_byte b (h ∷ l ∷ rest) =
    elim (b == 37) as (λ v. cond v (hex_digit_value h >>= λ high. hex_digit_value l >>= λ low. name_at rest >>= λ name. Some ((high * 16 + low) ∷ name)) (name_at (h ∷ l ∷ rest) >>= λ name. Some (b ∷ name))
    ≡ (cond v (escape_at (h ∷ l ∷ rest)) (found b (h ∷ l ∷ rest)) >>= before_others)) [ true ↦ escaped_step (hex_digit_value h) (hex_digit_value l) rest | false ↦ refl ]

pub byte_goes_on : (front text : List ℕ) (b : ℕ) (others : List ℕ) (x : ℕ) (behind : List ℕ) (total : Option (List ℕ)) → text ≡ b ∷ others → byte_at b others ≡ Some (x, behind)
    → with_front front (name_at text) ≡ total → with_front (front ++ x ∷ []) (name_at behind) ≡ total
byte_goes_on front text b others x behind total is found so_far =
    let step : name_at text ≡ (name_at behind >>= λ name. Some (x ∷ name)) = ap name_at is ∙ by_byte b others ∙ rw found refl in
    sym (ap (with_front front) step ∙ with_front-cons front x (name_at behind)) ∙ so_far

pub byte_ends : (e : Trouble) (front text : List ℕ) (b : ℕ) (others : List ℕ) (total : Option (List ℕ)) → text ≡ b ∷ others → FailsAsText e (byte_at b others)
    → with_front front (name_at text) ≡ total → FailsAsText e total
byte_ends NoMemory front text b others total is found so_far = tt
byte_ends Bad front text b others total is found so_far =
    let step : name_at text ≡ None = ap name_at is ∙ by_byte b others ∙ rw found refl in
    sym so_far ∙ ap (with_front front) step

pub name_done : (front text : List ℕ) (total : Option (List ℕ)) → length text ≡ 0 → with_front front (name_at text) ≡ total → total ≡ Some front
unfolding name_at
name_done front [] total none so_far = sym so_far ∙ ap Some (append-nil front)
name_done front (b ∷ text) total none so_far = absurd (omega arith)
