-- Bytes that are text.
use Rattle.std.proofs.Common.{◌≡◌, ℕ, Bool, true, false, List, nat_eq, codes, refl, sym, ◌&&◌, ap, ◌∙◌}
use Rattle.std.specs.Prelude.{Result, Ok, Err, is_ok, MatchResult}
use Rattle.std.specs.Borrow.{Bor}
use Rattle.std.specs.declared.str.Utf8Error.{Utf8Error}
use Rattle.std.specs.List.{starts_with}
use Rattle.std.specs.Str.{IsUtf8, IsValidUpTo, is_utf8, valid_up_to}
use Rattle.std.proofs.lemmas.Str.{IsUtf8-from_is_utf8, is_utf8-from_IsUtf8}
use Rattle.system_edge.specs.Telling.{from_space, is_of_damage}

-- reading bytes as text tells whether they are
pub is_text : (bytes : List ℕ) (read : Result (Bor (List ℕ)) Utf8Error) → MatchResult read (λ s. (s.now ≡ bytes) × IsUtf8 bytes) (λ e. ¬ (IsUtf8 bytes) × IsValidUpTo bytes (valid_up_to e)) → is_ok read ≡ is_utf8 bytes
is_text bytes (Ok text) told = sym (is_utf8-from_IsUtf8 bytes told.1)
is_text bytes (Err why) told = (elim (is_utf8 bytes) as (λ y. is_utf8 bytes ≡ y → false ≡ y) [ true ↦ λ t. absurd (told.0 (IsUtf8-from_is_utf8 bytes t)) | false ↦ λ t. refl ]) refl

-- a line with the word is of damage where it is text
pub of_damage : (line behind : List ℕ) (said ok : Bool) → behind ≡ from_space line → said ≡ starts_with nat_eq behind (codes " damaged ") → said ≡ true → ok ≡ is_utf8 line → ok ≡ is_of_damage line
of_damage line behind said ok is told true_is text =
    let word : starts_with nat_eq (from_space line) (codes " damaged ") ≡ true = sym (told ∙ ap (λ b. starts_with nat_eq b (codes " damaged ")) is) ∙ true_is in
    text ∙ ap (λ w. w && is_utf8 line) (sym word)
