-- A part of a file that stands between others.
use Rattle.std.proofs.Common.{◌≡◌, ℕ, ◌+◌, List, ◌++◌, length, take, drop, refl, sym, ap, ◌∙◌}
use Rattle.std.proofs.lemmas.List.{append_assoc, take_at, drop_at, drop-drop, take-append-drop}
use Rattle.plain_file.specs.File.{slice}

pub sliced : (file : List ℕ) (start : ℕ) (before part behind : List ℕ) → drop start file ≡ before ++ (part ++ behind) → slice file (start + length before) (length part) ≡ part
sliced file start before part behind is =
    let there : drop (start + length before) file ≡ part ++ behind =
    sym (drop-drop (length before) start file) ∙ ap (λ (xs : List ℕ). drop (length before) xs) is ∙ drop_at before (part ++ behind) (length before) refl in
    ap (λ (xs : List ℕ). take (length part) xs) there ∙ take_at part behind (length part) refl

-- what a slice has between others, the file has too
pub unsliced : (file : List ℕ) (start size : ℕ) (before part behind : List ℕ) → slice file start size ≡ before ++ (part ++ behind) → drop start file ≡ before ++ (part ++ (behind ++ drop size (drop start file)))
unsliced file start size before part behind is =
    let rest : List ℕ = drop size (drop start file) in
    sym (take-append-drop size (drop start file)) ∙ ap (λ (xs : List ℕ). xs ++ rest) is ∙ append_assoc before (part ++ behind) rest ∙ ap (λ (xs : List ℕ). before ++ xs) (append_assoc part behind rest)
