-- The files of an input are small, since a line has two digits for each byte of its file.
use Rattle.std.proofs.Common.{◌≡◌, ◌+◌, ◌^◌, ◌≤◌, ℕ, List, [], ◌∷◌, ◌++◌, length, ap, subst, sym, ◌∙◌, arith}
use Rattle.std.specs.Prelude.{All}
use Rattle.std.proofs.lemmas.List.{length-append}
use Rattle.std.proofs.lemmas.List.Elements.{All-append, All-cons, All-head, All-nil, All-tail}
use Rattle.hex.specs.Hex.{lower_digits}
use Rattle.hex.proofs.HexLemmas.{length-encode_with}
use Rattle.unit_format.specs.declared.units.TheConstants.{MAX_CONTENT}
use Rattle.pack_input.specs.Input.{AreFiles, HasFault, IsInput, SaysFile, content_word}
use Rattle.pack_input.specs.Layout.{unless_empty}
use Rattle.plfs_types.specs.Parts.{ended}
use Rattle.pack_input.specs.declared.files.NamedFile.{NamedFile}
use Rattle.pack_input.specs.declared.trouble.Kind.{Kind}

-- a line of at most n bytes, and a file of at most n
abbrev IsShort : ℕ → List ℕ → Type 0
IsShort n line = length line ≤ n

abbrev IsSmall : ℕ → NamedFile → Type 0
IsSmall n f = length f.content ≤ n

content_short : (content : List ℕ) → length content ≤ length (content_word content)
content_short [] = omega arith
content_short (b ∷ bytes) = let long = length-encode_with lower_digits (b ∷ bytes) in omega (arith, long)

says_short : (line : List ℕ) (f : NamedFile) → SaysFile line f → length f.content ≤ length line
says_short line f says =
    let long : length line ≡ length f.name + length (32 ∷ content_word f.content) = ap length says.spelled ∙ length-append f.name (32 ∷ content_word f.content) in
    omega (arith, long, content_short f.content)

files_small : (n : ℕ) (lines : List (List ℕ)) (files : List NamedFile) → AreFiles lines files → All (IsShort n) lines → All (IsSmall n) files
files_small n [] [] are short = All-nil (IsSmall n)
files_small n [] (f ∷ files) are short = absurd are
files_small n (line ∷ lines) [] are short = absurd are
files_small n (line ∷ lines) (f ∷ files) (says, are) short =
    let first : length line ≤ n = All-head (IsShort n) line lines short in
    let mine : length f.content ≤ length line = says_short line f says in
    All-cons (IsSmall n) f files (omega arith) (files_small n lines files are (All-tail (IsShort n) line lines short))

ended_short : (n : ℕ) (fed : List (List ℕ)) → length (ended fed) ≤ n → All (IsShort n) fed
ended_short n [] within = All-nil (IsShort n)
ended_short n (line ∷ fed) within =
    let long : length (ended (line ∷ fed)) ≡ length (line ++ 10 ∷ []) + length (ended fed) = length-append (line ++ 10 ∷ []) (ended fed) in
    let fed_line : length (line ++ 10 ∷ []) ≡ length line + 1 = length-append line (10 ∷ []) in
    All-cons (IsShort n) line fed (omega arith) (ended_short n fed (omega arith))

last_short : (n : ℕ) (last : List ℕ) → length last ≤ n → All (IsShort n) (unless_empty last)
last_short n [] within = All-nil (IsShort n)
last_short n (b ∷ bytes) within = All-cons (IsShort n) (b ∷ bytes) [] within (All-nil (IsShort n))

pub input_small : (bytes : List ℕ) (files : List NamedFile) → IsInput bytes files → All (λ (f : NamedFile). length f.content ≤ MAX_CONTENT) files
input_small bytes files input =
    let fed = input.are.fed in
    let last = input.are.last in
    let long : length bytes ≡ length (ended fed) + length last = ap length input.are.spelled ∙ length-append (ended fed) last in
    let within : length bytes ≤ 2 ^ 20 = input.short in
    let all : All (IsShort (2 ^ 20)) (fed ++ unless_empty last) = All-append (IsShort (2 ^ 20)) fed (unless_empty last) (ended_short (2 ^ 20) fed (omega arith)) (last_short (2 ^ 20) last (omega arith)) in
    files_small (2 ^ 20) input.lines files input.say (subst (All (IsShort (2 ^ 20))) (sym input.are.are) all)

-- the same fault by other names of its line and its kind
pub fault_value : (bytes : List ℕ) (line same_line : ℕ) (kind same_kind : Kind) → line ≡ same_line → kind ≡ same_kind → HasFault bytes (record { line = same_line; kind = same_kind }) → HasFault bytes (record { line = line; kind = kind })
fault_value bytes line same_line kind same_kind lines kinds has =
    subst (λ (n : ℕ). HasFault bytes (record { line = n; kind = kind })) (sym lines) (subst (λ (k : Kind). HasFault bytes (record { line = same_line; kind = k })) (sym kinds) has)
