-- A list by rising numbers of all things of a kind, of which there is one at most for each number.
use Rattle.std.proofs.Common.{◌≡◌, ◌<◌, ◌⊎◌, ℕ, zero, suc, List, [], ◌∷◌, ◌++◌, sym, inl, inr, subst, arith}
use Rattle.std.specs.List.{AllByRecursion}
use Rattle.std.proofs.lemmas.Bool.{cases_eq}
use Rattle.plain_file.proofs.Facts.{Among}
use Rattle.reader_laws.proofs.Gathered.Facts.{among_left, among_right}

-- something holds of a number below the bound, or of none
pub search_below : (P : ℕ → Type 0) → ((n : ℕ) → P n ⊎ (P n → ⊥)) → (bound : ℕ) → ((n : ℕ) × P n) ⊎ ((n : ℕ) → n < bound → P n → ⊥)
search_below P decide zero = inr (λ n less. absurd (omega (arith, less)))
search_below P decide (suc bound) = elim (decide bound) as (λ _. ((n : ℕ) × P n) ⊎ ((n : ℕ) → n < suc bound → P n → ⊥)) [
  | inl p ↦ inl (bound, p)
  | inr none ↦ elim (search_below P decide bound) as (λ _. ((n : ℕ) × P n) ⊎ ((n : ℕ) → n < suc bound → P n → ⊥)) [
    | inl found ↦ inl found
    | inr nowhere ↦ inr (λ n less p. elim (cases_eq n bound) as (λ _. ⊥) [
      | inl same ↦ none (subst P same p)
      | inr other ↦ nowhere n (omega (arith, less, other)) p
    ])
  ]
]

module _ (X : Type 0) (key : X → ℕ) (Good : X → Type 0) where
  -- each number is below those behind it
  abbrev pub Rises : List X → Type 0
  Rises [] = Unit {0}
  Rises (x ∷ xs) = AllByRecursion (λ (later : X). key x < key later) xs × Rises xs

  -- the one thing of this number, or there is none
  abbrev pub OneOf : ℕ → Type 0
  OneOf k = ((x : X) × Good x × (key x ≡ k) × ((y : X) → Good y → key y ≡ k → y ≡ x)) ⊎ ((y : X) → Good y → key y ≡ k → ⊥)

  pub record AreBelow (bound : ℕ) : Type 0 where
    pub xs : List X
    pub rise : Rises xs
    pub good : AllByRecursion Good xs
    pub below : AllByRecursion (λ (x : X). key x < bound) xs
    pub all : (x : X) → Good x → key x < bound → Among x xs

  good_push : (P : X → Type 0) (xs : List X) (x : X) → AllByRecursion P xs → P x → AllByRecursion P (xs ++ x ∷ [])
  good_push P [] x all p = (p, tt)
  good_push P (y ∷ xs) x all p = (all.0, good_push P xs x all.1 p)

  rises_push : (xs : List X) (x : X) → Rises xs → AllByRecursion (λ (y : X). key y < key x) xs → Rises (xs ++ x ∷ [])
  rises_push [] x rise below = (tt, tt)
  rises_push (y ∷ xs) x rise below = (good_push (λ (later : X). key y < key later) xs x rise.0 below.0, rises_push xs x rise.1 below.1)

  wider : (bound : ℕ) (xs : List X) → AllByRecursion (λ (x : X). key x < bound) xs → AllByRecursion (λ (x : X). key x < suc bound) xs
  wider bound [] below = tt
  wider bound (x ∷ xs) below = (omega (arith, below.0), wider bound xs below.1)

  one_more : (bound : ℕ) → OneOf bound → AreBelow bound → AreBelow (suc bound)
  one_more bound (inr none) l = record {
    xs = l.xs;
    rise = l.rise;
    good = l.good;
    below = wider bound l.xs l.below;
    all = λ x good less. elim (cases_eq (key x) bound) as (λ _. Among x l.xs) [ inl same ↦ absurd (none x good same) | inr other ↦ l.all x good (omega (arith, less, other)) ];
  }
  one_more bound (inl (x, good, is, one)) l = record {
    xs = l.xs ++ x ∷ [];
    rise = rises_push l.xs x l.rise (subst (λ k. AllByRecursion (λ (y : X). key y < k) l.xs) (sym is) l.below);
    good = good_push Good l.xs x l.good good;
    below = good_push (λ (y : X). key y < suc bound) l.xs x (wider bound l.xs l.below) (omega (arith, is));
    all = λ y its less. elim (cases_eq (key y) bound) as (λ _. Among y (l.xs ++ x ∷ [])) [
      | inl same ↦ among_right y l.xs (x ∷ []) (inl (one y its same))
      | inr other ↦ among_left y l.xs (x ∷ []) (l.all y its (omega (arith, less, other)))
    ];
  }

  -- All things whose numbers are below a bound, by rising numbers.
  pub listed_below : ((k : ℕ) → OneOf k) → (bound : ℕ) → AreBelow bound
  listed_below ones zero = record { xs = []; rise = tt; good = tt; below = tt; all = λ x good less. absurd (omega (arith, less)) }
  listed_below ones (suc bound) = one_more bound (ones bound) (listed_below ones bound)
