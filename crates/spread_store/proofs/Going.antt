-- How the joined tree goes on where one store's does, and the count of faults.
use Rattle.std.proofs.Common.{◌≡◌, ◌≤◌, ◌+◌, inl, inr, ℕ, zero, suc, Bool, true, false, cond, ◌&&◌, List, [], ◌∷◌, slice_get, slice_set, Option, Some, None, refl, ap, sym, ◌∙◌, subst, arith}
use Rattle.std.specs.Prelude.{is_some}
use Rattle.plfs_types.specs.Counts.{HasRisen}
use Rattle.store_api.specs.declared.tree.Tree.{Tree}
use Rattle.store_api.specs.Acts.{Stored, Goes}
use Rattle.spread_store.specs.declared.places.Place.{Place}
use Rattle.spread_store.specs.declared.places.Doubt.{Doubt}
use Rattle.spread_store.specs.Joined.{Held, held_by, all_tell, faults_of, joined, spreading, tree_of}
use Rattle.spread_store.specs.Fits.{Fits, IsFit}
use Rattle.spread_store.proofs.Lists.{map_slice_set, get_map}
use Rattle.spread_store.proofs.Held.{with_tree}

-- ---- faults

pub faults_set : (stores : List Stored) (n : ℕ) (before after : Stored) → slice_get stores n ≡ Some before → faults_of (slice_set stores n after) + before.faults ≡ faults_of stores + after.faults
faults_set [] n before after e = absurd (cc)
faults_set (s ∷ stores) zero before after e = let is : s ≡ before = cc in let same : s.faults ≡ before.faults = ap (λ (x : Stored). x.faults) is in omega (arith, same)
faults_set (s ∷ stores) (suc n) before after e = let rest = faults_set stores n before after e in omega (arith, rest)

pub faults_in : (stores : List Stored) (n : ℕ) (before : Stored) → slice_get stores n ≡ Some before → before.faults ≤ faults_of stores
faults_in [] n before e = absurd (cc)
faults_in (s ∷ stores) zero before e = let is : s ≡ before = cc in let same : s.faults ≡ before.faults = ap (λ (x : Stored). x.faults) is in omega (arith, same)
faults_in (s ∷ stores) (suc n) before e = let rest = faults_in stores n before e in omega (arith, rest)

module _ (old : List Stored) (n : ℕ) (before after : Stored) (was : slice_get old n ≡ Some before) where
  pub faults_same : after.faults ≡ before.faults → faults_of (slice_set old n after) ≡ faults_of old
  faults_same same = omega (arith, faults_set old n before after was, same)

  pub faults_more : before.faults ≤ after.faults → faults_of old ≤ faults_of (slice_set old n after)
  faults_more more = omega (arith, faults_set old n before after was, more)

  pub faults_risen : HasRisen before.faults after.faults → HasRisen (faults_of old) (faults_of (slice_set old n after))
  faults_risen (inl less) = inl (omega (arith, faults_set old n before after was, less))
  faults_risen (inr all) = inr (omega (arith, faults_set old n before after was, faults_in old n before was, all))

-- ---- who tells

pub told_at : (held : Held) (n : ℕ) (o : Option Tree) → all_tell held ≡ true → slice_get held n ≡ Some o → (t : Tree) × (o ≡ Some t)
told_at [] n o tell at = absurd (cc)
told_at (None ∷ held) n o tell at = absurd (cc)
told_at (Some t ∷ held) zero o tell at = let same : Some t ≡ o = cc in (t, sym same)
told_at (Some t ∷ held) (suc n) o tell at = told_at held n o tell at

pub tell_set : (held : Held) (n : ℕ) (o new : Option Tree) → slice_get held n ≡ Some o → is_some new ≡ is_some o → all_tell (slice_set held n new) ≡ all_tell held
tell_set [] n o new at same = refl
tell_set (x ∷ held) zero o new at same = let is : x ≡ o = cc in ap (λ b. b && all_tell held) (same ∙ ap is_some (sym is))
tell_set (x ∷ held) (suc n) o new at same = ap (λ b. is_some x && b) (tell_set held n o new at same)

goes_same : (R : Tree → Tree → Type 0) (o new : Option Tree) → Goes R o new → is_some new ≡ is_some o
goes_same R None new g = ap is_some g
goes_same R (Some t) new g = ap is_some g.1

pub goes_cond : (Q : Tree → Tree → Type 0) (b c : Bool) (x y : Tree) → c ≡ b → (b ≡ true → Q x y) → Goes Q (cond b (Some x) None) (cond c (Some y) None)
goes_cond Q true true x y e h = (y, refl, h refl)
goes_cond Q true false x y e h = absurd (cc)
goes_cond Q false true x y e h = absurd (cc)
goes_cond Q false false x y e h = refl

-- ---- the joined tree goes on by Q where a store's goes on by R

module _ (old : List Stored) (n : ℕ) (before after : Stored) (places more : List Place) (doubt next : Option Doubt) (R Q : Tree → Tree → Type 0)
    (was : slice_get old n ≡ Some before) (goes : Goes R before.tree after.tree)
    (so : (t new : Tree) → all_tell (held_by old) ≡ true → slice_get (held_by old) n ≡ Some (Some t) → R t new
    → Q (joined (held_by old) places doubt) (joined (with_tree (held_by old) n new) more next) × Fits (with_tree (held_by old) n new) more next) where
  was_held : slice_get (held_by old) n ≡ Some before.tree
  was_held = get_map (λ (s : Stored). s.tree) old n before was

  is_held : held_by (slice_set old n after) ≡ slice_set (held_by old) n after.tree
  is_held = map_slice_set (λ (s : Stored). s.tree) old n after

  tells_same : all_tell (held_by (slice_set old n after)) ≡ all_tell (held_by old)
  tells_same = ap all_tell is_held ∙ tell_set (held_by old) n before.tree after.tree was_held (goes_same R before.tree after.tree goes)

  both : all_tell (held_by old) ≡ true → Q (joined (held_by old) places doubt) (joined (held_by (slice_set old n after)) more next) × Fits (held_by (slice_set old n after)) more next
  both tell =
      let t = told_at (held_by old) n before.tree tell was_held in
      let there : slice_get (held_by old) n ≡ Some (Some t.0) = was_held ∙ ap (λ o. Some o) t.1 in
      let g : Goes R (Some t.0) after.tree = subst (λ o. Goes R o after.tree) t.1 goes in
      let new_held : held_by (slice_set old n after) ≡ with_tree (held_by old) n g.0 = is_held ∙ ap (λ o. slice_set (held_by old) n o) g.1 in
      subst (λ h. Q (joined (held_by old) places doubt) (joined h more next) × Fits h more next) (sym new_held) (so t.0 g.0 tell there g.2)

  pub tree_goes : Goes Q (tree_of (spreading old places doubt)) (tree_of (spreading (slice_set old n after) more next))
  tree_goes = goes_cond Q (all_tell (held_by old)) (all_tell (held_by (slice_set old n after))) (joined (held_by old) places doubt) (joined (held_by (slice_set old n after)) more next) tells_same (λ tell. (both tell).0)

  pub fit_goes : IsFit (spreading (slice_set old n after) more next)
  fit_goes tell = (both (sym tells_same ∙ tell)).1

-- what holds of what is held afterwards
pub held_goes : (old : List Stored) (n : ℕ) (before after : Stored) (R : Tree → Tree → Type 0) (P : Held → Type 0) → slice_get old n ≡ Some before → Goes R before.tree after.tree
    → ((t new : Tree) → all_tell (held_by old) ≡ true → slice_get (held_by old) n ≡ Some (Some t) → R t new → P (with_tree (held_by old) n new))
    → all_tell (held_by (slice_set old n after)) ≡ true → P (held_by (slice_set old n after))
held_goes old n before after R P was goes so tells =
    let was_there : slice_get (held_by old) n ≡ Some before.tree = get_map (λ (s : Stored). s.tree) old n before was in
    let is_there : held_by (slice_set old n after) ≡ slice_set (held_by old) n after.tree = map_slice_set (λ (s : Stored). s.tree) old n after in
    let tell : all_tell (held_by old) ≡ true = sym (tell_set (held_by old) n before.tree after.tree was_there (goes_same R before.tree after.tree goes)) ∙ sym (ap all_tell is_there) ∙ tells in
    let t = told_at (held_by old) n before.tree tell was_there in
    let g : Goes R (Some t.0) after.tree = subst (λ o. Goes R o after.tree) t.1 goes in
    subst P (sym (is_there ∙ ap (λ o. slice_set (held_by old) n o) g.1)) (so t.0 g.0 tell (was_there ∙ ap (λ o. Some o) t.1) g.2)
