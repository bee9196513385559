-- The first byte that passes a test stands at the place that is told.
use Rattle.std.proofs.Common.{◌≡◌, ◌==◌, ℕ, zero, suc, ◌+◌, ◌<◌, Bool, true, false, nat_lt, List, [], ◌∷◌, length, slice_index, Option, Some, None, refl, arith}
use Rattle.std.specs.Prelude.{IfSome, position}
use Rattle.std.specs.List.{position_or_len}
use Rattle.std.proofs.lemmas.Bool.Decides.{nat_tests}
use Rattle.memchr.specs.Find.{IsFirstByte, is_byte}

not_passed : (b : Bool) → ¬ (b ≡ true) → b ≡ false
not_passed true none = absurd (none refl)
not_passed false none = refl

stands_at : (p : ℕ → Bool) (bytes : List ℕ) (k : ℕ) → k < length bytes → p (slice_index bytes k) ≡ true → ((j : ℕ) → j < k → p (slice_index bytes j) ≡ false) → position_or_len p bytes ≡ k
stands_at p [] k within passes before = absurd (omega (arith, within))
stands_at p (b ∷ bytes) zero within passes before = rw passes refl
stands_at p (b ∷ bytes) (suc k) within passes before =
    let here : p b ≡ false = before zero (omega arith) in
    let later : position_or_len p bytes ≡ k = stands_at p bytes k (omega (arith, within)) passes (λ j less. before (suc j) (omega (arith, less))) in
    let more : 1 + position_or_len p bytes ≡ suc k = omega (arith, later) in
    rw here more

stands_nowhere : (p : ℕ → Bool) (bytes : List ℕ) → ((j : ℕ) → j < length bytes → p (slice_index bytes j) ≡ false) → position_or_len p bytes ≡ length bytes
stands_nowhere p [] none = refl
stands_nowhere p (b ∷ bytes) none =
    let here : p b ≡ false = none zero (omega arith) in
    let later : position_or_len p bytes ≡ length bytes = stands_nowhere p bytes (λ j less. none (suc j) (omega (arith, less))) in
    let more : 1 + position_or_len p bytes ≡ suc (length bytes) = omega (arith, later) in
    rw here more

as_position : (p : ℕ → Bool) (bytes : List ℕ) (r : Option ℕ) → IsFirstByte p bytes r → r ≡ position p bytes
as_position p bytes None first =
    let all : position_or_len p bytes ≡ length bytes = stands_nowhere p bytes (λ j less. not_passed (p (slice_index bytes j)) (first j (omega arith) less)) in
    let behind : nat_lt (length bytes) (length bytes) ≡ false = grind (arith, nat_tests) in
    rw (all, behind) refl
as_position p bytes (Some k) first =
    let within : k < length bytes = first.0.high in
    let there : position_or_len p bytes ≡ k = stands_at p bytes k within first.1 (λ j less. not_passed (p (slice_index bytes j)) (first.0.before j (omega arith) less)) in
    let before : nat_lt k (length bytes) ≡ true = grind (arith, nat_tests) in
    rw (there, before) refl

is_within : (p : ℕ → Bool) (bytes : List ℕ) (r : Option ℕ) → IsFirstByte p bytes r → IfSome r (λ place. place < length bytes)
is_within p bytes None first = tt
is_within p bytes (Some k) first = first.0.high

pub first_place : (at : ℕ) (bytes : List ℕ) (r : Option ℕ) → IsFirstByte (is_byte at) bytes r → (r ≡ position (λ b. b == at) bytes) × IfSome r (λ place. place < length bytes)
first_place at bytes r first = (as_position (λ b. b == at) bytes r first, is_within (λ b. b == at) bytes r first)
