-- The folders that a path lies in, by the places of its slashes.
use Rattle.std.proofs.Common.{◌≡◌, ◌⊎◌, inl, inr, ℕ, ◌+◌, ◌<◌, List, ◌∷◌, ◌++◌, length, take, drop, get_or, Option, sym, ap, ◌∙◌, subst, arith, codes, length-append, take-append-drop}
use Rattle.std.proofs.lemmas.Bool.{cases_lt}
use Rattle.std.proofs.lemmas.List.{drop_more}
use Rattle.std.proofs.Math.Seq.{get_or-append_seam, take-append_seam}
use Rattle.system_edge.specs.declared.lock.Denial.{Denial}
use Rattle.system_edge.specs.declared.lock.Denial.TheVariants as denial
use Rattle.system_edge.specs.Roots.{IsRightDenial, IsUnseenItem, LiesIn, Seen}

pub lies_in : (path : List ℕ) (k : ℕ) → k < length path → get_or path k 0 ≡ 47 → LiesIn path (take k path)
lies_in path k within slash = (drop (k + 1) path, sym (take-append-drop k path) ∙ ap (λ l. take k path ++ l) (drop_more path k 0 within) ∙ ap (λ b. take k path ++ b ∷ drop (k + 1) path) slash)

-- of what stands before a slash this holds, up to this place
abbrev pub SoFar : (List ℕ → Type 0) → List ℕ → ℕ → Type 0
SoFar P path place = (k : ℕ) → k < place → get_or path k 0 ≡ 47 → P (take k path)

pub none_so_far : (P : List ℕ → Type 0) (path : List ℕ) → SoFar P path 0
none_so_far P path k less slash = absurd (omega (arith, less))

pub one_more : (P : List ℕ → Type 0) (path : List ℕ) (place : ℕ) → SoFar P path place → (get_or path place 0 ≡ 47 → P (take place path)) → SoFar P path (place + 1)
one_more P path place so_far here k less slash = elim (cases_lt k place) as (λ _. P (take k path)) [
  | inl before ↦ so_far k before slash
  | inr not_before ↦
      let same : place ≡ k = omega (arith, less, not_before) in
      subst (λ (n : ℕ). P (take n path)) same (here (subst (λ (n : ℕ). get_or path n 0 ≡ 47) (sym same) slash))
]

pub all_apart : (P : List ℕ → Type 0) (path : List ℕ) → SoFar P path (length path) → (holder : List ℕ) → LiesIn path holder → P holder
all_apart P path so_far holder (rest, is) =
    let within : length holder < length path = omega (arith, ap (λ l. length l) is, length-append holder (47 ∷ rest)) in
    let slash : get_or path (length holder) 0 ≡ 47 = ap (λ l. get_or l (length holder) 0) is ∙ get_or-append_seam holder 47 rest 0 in
    let front : take (length holder) path ≡ holder = ap (λ l. take (length holder) l) is ∙ take-append_seam holder (47 ∷ rest) in
    subst P front (so_far (length holder) within slash)

pub denied_so : (told : List ℕ → Option Seen) (path folder : List ℕ) (why : Denial) → (folder ≡ path) ⊎ LiesIn path folder → IsUnseenItem (told (folder ++ codes "/access")) why → IsRightDenial told path why
denied_so told path folder denial.NoMemory where_it_is unseen = tt
denied_so told path folder (denial.Unseen error) where_it_is unseen = (folder, where_it_is, unseen)
denied_so told path folder why where_it_is unseen = absurd unseen
