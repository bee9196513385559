-- What is owed for a call is decided by its numbers, so that it is owed where that is merely known.
use Rattle.std.proofs.Common.{◌≡◌, ℕ, ◌*◌, ◌≤◌, ◌<◌, ◌^◌, ◌⊎◌, inl, inr, arith}
use Rattle.std.proofs.lemmas.Bool.{cases_lt}
use Rattle.std.proofs.lemmas.Grind.{not_there}
use Rattle.plfs_types.specs.declared.limits.TheConstants.{ENTRY_SIZE, MAX_LOG, MAX_SIZE, MAX_STAMP}
use Rattle.mount_model.specs.declared.call.Call.{Call}
use Rattle.mount_model.specs.declared.call.Call.TheVariants.{Enter, Mend, MendMeta}
use Rattle.mount_model.specs.Step.{OwedBy}

-- an order that is merely known
known_order : {A : Type 0} (a b : ℕ) → ∥ A ∥₁ → (A → a ≤ b) → a ≤ b
known_order a b t f = elim (cases_lt b a) as (λ _. a ≤ b) [
  | inl more ↦ absurd (not_there t (λ x. omega (arith, f x, more)))
  | inr few ↦ few
]

-- all are 0, or none is
abbrev AllOrNone : ℕ → ℕ → ℕ → Type 0
AllOrNone a b c = ((a ≡ 0) × (b ≡ 0) × (c ≡ 0)) ⊎ ((0 < a) × (0 < b) × (0 < c))

none_where : (a b c : ℕ) → AllOrNone a b c → a ≡ 0 → (b ≡ 0) × (c ≡ 0)
none_where a b c (inl all) e = (all.1, all.2)
none_where a b c (inr some) e = absurd (omega (arith, some.0, e))

some_where : (a b c : ℕ) → AllOrNone a b c → 0 < a → (0 < b) × (0 < c)
some_where a b c (inl all) l = absurd (omega (arith, all.0, l))
some_where a b c (inr some) l = (some.1, some.2)

known_zero : {A : Type 0} (n : ℕ) → ∥ A ∥₁ → (A → n ≡ 0) → n ≡ 0
known_zero n t f = let l : n ≤ 0 = known_order n 0 t (λ x. omega (arith, f x)) in omega (arith, l)

known_all : {X : Type 0} (a b c : ℕ) → ∥ X ∥₁ → (X → AllOrNone a b c) → AllOrNone a b c
known_all a b c t f = elim (cases_lt 0 a) as (λ _. AllOrNone a b c) [
  | inl some ↦ inr (some, known_order 1 b t (λ x. (some_where a b c (f x) some).0), known_order 1 c t (λ x. (some_where a b c (f x) some).1))
  | inr none ↦
      let e : a ≡ 0 = omega (arith, none) in
      inl (e, known_zero b t (λ x. (none_where a b c (f x) e).0), known_zero c t (λ x. (none_where a b c (f x) e).1))
]

known_less : {A : Type 0} (a b : ℕ) → ∥ A ∥₁ → (A → a < b) → a < b
known_less a b t f = elim (cases_lt a b) as (λ _. a < b) [
  | inl less ↦ less
  | inr more ↦ absurd (not_there t (λ x. omega (arith, f x, more)))
]

pub owed_whole : (call : Call) → ∥ OwedBy call ∥₁ → OwedBy call
owed_whole (Enter room host cap) t = (known_order 1 cap t (λ x. x.0), known_order cap 4096 t (λ x. x.1))
owed_whole (Mend room host writer count) t = known_less (ENTRY_SIZE * count) (2 ^ 64) t (λ x. x)
owed_whole (MendMeta room host cover last) t = record {
  last_fits = known_order last MAX_SIZE t (λ x. x.last_fits);
  bytes_fit = known_order cover.bytes MAX_LOG t (λ x. x.bytes_fit);
  stamp_fits = known_order cover.stamp MAX_STAMP t (λ x. x.stamp_fits);
  all_or_none = known_all last cover.bytes cover.stamp t (λ x. x.all_or_none);
}
owed_whole call t = tt
