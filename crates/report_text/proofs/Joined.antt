-- Texts of lists, as they are appended item by item.
use Rattle.std.proofs.Common.{◌≡◌, ℕ, List, [], ◌∷◌, ◌++◌, ap, sym, ◌∙◌, map, append-nil, ◌<◌, length, arith}
use Rattle.std.specs.List.{flat_map, join_with_byte}
use Rattle.std.proofs.lemmas.List.Folds.{flat_map-map}
use Rattle.plfs_types.specs.declared.entries.Entry.{Entry}
use Rattle.script_lang.specs.declared.line.Line.{Line}
use Rattle.report_text.specs.Items.{list_text, piece_text}
use Rattle.report_text.specs.Words.{outcome_words, words_of_pieces}
use Rattle.report_text.specs.Text.{body_of_line}
use Rattle.std.specs.Fmt.{decimal}

-- the first text, and each other one behind the byte
pub join_with_byte-cons : (c : ℕ) (w : List ℕ) (ws : List (List ℕ)) → join_with_byte c (w ∷ ws) ≡ w ++ flat_map (λ v. c ∷ v) ws
join_with_byte-cons c w [] = sym (append-nil w)
join_with_byte-cons c w (v ∷ ws) = ap (λ rest. w ++ (c ∷ rest)) (join_with_byte-cons c v ws)

pub list_text_cons : {X : Type 0} (text : X → List ℕ) (x : X) (xs : List X) → list_text text (x ∷ xs) ≡ text x ++ flat_map (λ y. 44 ∷ text y) xs
list_text_cons text x xs = join_with_byte-cons 44 (text x) (map text xs) ∙ ap (λ rest. text x ++ rest) (flat_map-map (λ v. 44 ∷ v) text xs)

-- where there are pieces, each stands behind a space
pub pieces_behind : (pieces : List Entry) → 0 < length pieces → flat_map (λ v. 32 ∷ v) (words_of_pieces pieces) ≡ flat_map (λ piece. 32 ∷ piece_text piece) pieces
pieces_behind [] some = absurd (omega arith)
pieces_behind (piece ∷ pieces) some = flat_map-map (λ v. 32 ∷ v) piece_text (piece ∷ pieces)

pub body_of_line_words : (line : Line) → body_of_line line ≡ decimal line.number ++ flat_map (λ w. 32 ∷ w) (outcome_words line.outcome)
body_of_line_words line = join_with_byte-cons 32 (decimal line.number) (outcome_words line.outcome)
