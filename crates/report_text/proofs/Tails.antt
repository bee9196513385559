-- The text of a write's line, from its end.
use Rattle.std.proofs.Common.{◌≡◌, ℕ, ◌+◌, ◌<◌, ◌≤◌, ◌^◌, List, [], ◌∷◌, ◌++◌, length, ap, ◌∙◌, append_assoc, arith, length-append}
use Rattle.std.specs.Prelude.{codes, Some}
use Rattle.std.specs.Fmt.{decimal}
use Rattle.std.proofs.lemmas.Fmt.{length-decimal-le}
use Rattle.script_lang.specs.declared.line.Outcome.TheVariants.{Wrote}
use Rattle.report_text.specs.Text.{text_of_line}

pub at_most_20 : (n : ℕ) → n < 2 ^ 64 → length (decimal n) ≤ 20
at_most_20 n small = length-decimal-le 20 n (omega arith) (omega (arith, small)) small

-- with a number in front a text is longer by 20 bytes at most
pub longer_by_20 : (n : ℕ) (text more : List ℕ) → n < 2 ^ 64 → more ≡ decimal n ++ text → length more ≤ length text + 20
longer_by_20 n text more small is =
    let both : length more ≡ length (decimal n) + length text = ap length is ∙ length-append (decimal n) text in
    omega (arith, both, at_most_20 n small)

-- the line of a write is its number, `wrote`, its three numbers and the line feed
pub line_of_write : (number at len stamp : ℕ) → text_of_line (record { number = number; outcome = Wrote at len (Some stamp) })
    ≡ decimal number ++ (codes " wrote " ++ (decimal at ++ (32 ∷ (decimal len ++ (32 ∷ (decimal stamp ++ (10 ∷ [])))))))
line_of_write number at len stamp = joined (decimal number) (decimal at) (decimal len) (decimal stamp)
  where
    joined : (a b c d : List ℕ) → (a ++ (32 ∷ (codes "wrote" ++ (32 ∷ (b ++ (32 ∷ (c ++ (32 ∷ d)))))))) ++ (10 ∷ [])
        ≡ a ++ (codes " wrote " ++ (b ++ (32 ∷ (c ++ (32 ∷ (d ++ (10 ∷ [])))))))
    joined a b c d =
        append_assoc a (codes " wrote " ++ (b ++ (32 ∷ (c ++ (32 ∷ d))))) (10 ∷ [])
        ∙ ap (λ rest. a ++ (codes " wrote " ++ rest)) (append_assoc b (32 ∷ (c ++ (32 ∷ d))) (10 ∷ [])
        ∙ ap (λ rest. b ++ (32 ∷ rest)) (append_assoc c (32 ∷ d) (10 ∷ [])))
