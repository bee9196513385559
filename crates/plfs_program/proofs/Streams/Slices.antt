-- The pieces of a file, one behind the other.
use Rattle.std.proofs.Common.{ℕ, ◌≡◌, ◌+◌, ◌*◌, ◌≤◌, List, [], ◌∷◌, ◌++◌, length, take, drop, refl, sym, ap, ◌∙◌, subst, take-add, arith}
use Rattle.std.proofs.lemmas.Grind.{common_steps, div_ceil_times}
use Rattle.std.proofs.lemmas.List.{take_all}
use Rattle.plain_file.specs.File.{slice}
use Rattle.script_lang.specs.declared.line.Line.{Line}
use Rattle.plfs_program.specs.Cat.{content_of, contents, piece_length, pieces_of}

-- the lines tell the pieces of the file from this one on
abbrev pub AreSlices : List ℕ → ℕ → List Line → Type 0
AreSlices file k [] = Unit {0}
AreSlices file k (line ∷ lines) = (content_of line.outcome ≡ slice file (k * piece_length) piece_length) × AreSlices file (k + 1) lines

dropped : (m n : ℕ) (xs : List ℕ) → drop (m + n) xs ≡ drop n (drop m xs)
dropped m n xs = grind (arith, common_steps)

-- they are the bytes of the file from its place on
pub slices_front : (file : List ℕ) (k : ℕ) (lines : List Line) → AreSlices file k lines → contents lines ≡ take (length lines * piece_length) (drop (k * piece_length) file)
slices_front file k [] are = refl
slices_front file k (line ∷ lines) (first, later) =
    let others = slices_front file (k + 1) lines later in
    let place : (k + 1) * piece_length ≡ k * piece_length + piece_length = omega arith in
    let behind : drop ((k + 1) * piece_length) file ≡ drop piece_length (drop (k * piece_length) file) = ap (λ n. drop n file) place ∙ dropped (k * piece_length) piece_length file in
    let long : piece_length + length lines * piece_length ≡ length (line ∷ lines) * piece_length = omega arith in
    ap (λ z. z ++ contents lines) first
    ∙ ap (λ z. take piece_length (drop (k * piece_length) file) ++ z) (others ∙ ap (λ z. take (length lines * piece_length) z) behind)
    ∙ sym (take-add piece_length (length lines * piece_length) (drop (k * piece_length) file))
    ∙ ap (λ n. take n (drop (k * piece_length) file)) long

-- all of them are all of its bytes
pub slices_whole : (file : List ℕ) (size : ℕ) (lines : List Line) → size ≡ length file → length lines ≡ pieces_of size → AreSlices file 0 lines → contents lines ≡ file
slices_whole file size lines is long are =
    let bound = (div_ceil_times size piece_length (omega arith)).0 in
    let enough : length file ≤ length lines * piece_length = subst (λ n. length file ≤ n * piece_length) (sym long) (subst (λ n. n ≤ pieces_of size * piece_length) is bound) in
    slices_front file 0 lines are ∙ take_all (length lines * piece_length) file enough
