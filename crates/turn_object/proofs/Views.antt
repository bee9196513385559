-- Facts about the views of a turn's seats.
use Rattle.std.proofs.Common.{◌≡◌, ℕ, ◌+◌, ◌<◌, ◌≤◌, ◌≢◌, zero, suc, List, [], ◌∷◌, length, set, sym, refl, ap, subst, ⊎_elim, arith}
use mathlib.Core.Option as at
use lib.ListN.{get_elem?}
use Rattle.atomic_table.proofs.Lists.{at_set}
use Rattle.turn_object.specs.declared.history.Entry.{Entry}
use Rattle.turn_object.specs.declared.front.Front.{Front}
use Rattle.turn_object.specs.declared.front.Stage.{Stage}
use Rattle.turn_object.specs.declared.front.Stage.TheVariants.{Idle, Waiting, Serving}
use Rattle.turn_object.specs.Tickets.{HasTicket, total, FitsStage}

module _ {A R S : Type 0} where
  pub total_set : (f : (Front A R S) → ℕ) (vs : List (Front A R S)) (i : ℕ) (v w : Front A R S) → get_elem? vs i ≡ at.some v → total f (set vs i w) + f v ≡ total f vs + f w
  total_set f [] i v w e = absurd (at.some-ne-none v (sym e))
  total_set f (x ∷ xs) zero v w e = let same : f x ≡ f v = ap f (at.some-injective x v e) in omega arith
  total_set f (x ∷ xs) (suc i) v w e = let t = total_set f xs i v w e in omega arith

  pub total_le : (f g : (Front A R S) → ℕ) (vs : List (Front A R S)) → ((i : ℕ) (v : Front A R S) → get_elem? vs i ≡ at.some v → f v ≤ g v) → total f vs ≤ total g vs
  total_le f g [] h = omega arith
  total_le f g (x ∷ xs) h = let a = h 0 x refl in let b = total_le f g xs (λ i v e. h (suc i) v e) in omega arith

  -- what holds of each seat still does after one changed
  pub each_set : (P : ℕ → (Front A R S) → Type 0) (vs : List (Front A R S)) (me : ℕ) (w : Front A R S) → P me w → ((j : ℕ) (d : Front A R S) → j ≢ me → get_elem? vs j ≡ at.some d → P j d)
      → (j : ℕ) (d : Front A R S) → get_elem? (set vs me w) j ≡ at.some d → P j d
  each_set P vs me w mine others j d e = ⊎_elim (λ (t : (j ≡ me) × (w ≡ d)). subst (λ (x : ℕ × (Front A R S)). P x.0 x.1) (λ i. (sym t.0 i, t.1 i)) mine)
      (λ (t : (j ≢ me) × (get_elem? vs j ≡ at.some d)). others j d t.0 t.1) (at_set vs me j w d e)

  pub inside : (vs : List (Front A R S)) (i : ℕ) (v : Front A R S) → get_elem? vs i ≡ at.some v → i < length vs
  inside [] i v e = absurd (at.some-ne-none v (sym e))
  inside (x ∷ xs) zero v e = omega arith
  inside (x ∷ xs) (suc i) v e = let t = inside xs i v e in omega arith

  -- a ticket that is out is below the next one
  pub below_next : (history : List (Entry A R S)) (next : ℕ) (seen : List (Entry A R S)) (stage : Stage) (ticket : ℕ) → FitsStage history next seen stage → HasTicket stage ticket → ticket < next
  below_next history next seen Idle ticket fits has = absurd has
  below_next history next seen (Waiting t) ticket fits has = let a = fits.1 in let b : t ≡ ticket = has in omega arith
  below_next history next seen (Serving t) ticket fits has = let a = fits.1 in let b : t ≡ ticket = has in omega arith

  pub more_tickets : (history : List (Entry A R S)) (next next' : ℕ) (seen : List (Entry A R S)) (stage : Stage) → next ≤ next' → FitsStage history next seen stage → FitsStage history next' seen stage
  more_tickets history next next' seen Idle le fits = tt
  more_tickets history next next' seen (Waiting t) le fits = let b = fits.1 in (fits.0, omega arith)
  more_tickets history next next' seen (Serving t) le fits = let b = fits.1 in (fits.0, omega arith, fits.2)
