-- Bytes that are compared as one number.
use Rattle.std.proofs.Common.{◌≡◌, ◌<◌, ℕ, Bool, true, false, List, length, get_or, nat_eq, refl, sym, ap, ◌∙◌}
use Rattle.std.specs.Bool.{Decides}
use Rattle.std.specs.Int.{from_le_bytes, to_le_bytes, w64}
use Rattle.std.specs.Cmp.Lexicographic.{pointwise, bytes_decides}
use Rattle.std.proofs.lemmas.Bool.Decides.{same_from_decides, Decides-eqb}
use Rattle.std.proofs.lemmas.Nat.{le_bytes_8}

-- two lists of eight bytes are the same exactly where their numbers are
pub same_eight : (a b : List ℕ) (m n : ℕ) → length a ≡ 8 → length b ≡ 8 → ((i : ℕ) → get_or a i 0 < 256) → ((i : ℕ) → get_or b i 0 < 256) → m ≡ from_le_bytes w64 a → n ≡ from_le_bytes w64 b → nat_eq m n ≡ pointwise nat_eq a b
same_eight a b m n a_long b_long a_fit b_fit is also =
    let numbers : Decides (nat_eq m n) (m ≡ n) = Decides-eqb m n in
    let lists : Decides (pointwise nat_eq a b) (a ≡ b) = bytes_decides a b in
    let back : m ≡ n → a ≡ b = λ same. sym (le_bytes_8 a m a_long a_fit is) ∙ ap (to_le_bytes w64) same ∙ le_bytes_8 b n b_long b_fit also in
    let there : a ≡ b → m ≡ n = λ same. is ∙ ap (from_le_bytes w64) same ∙ sym also in
    same_from_decides (nat_eq m n) (pointwise nat_eq a b) (λ t. back (numbers.0 t), λ same. numbers.1 (there same)) lists
