-- Reading an input, word by word.
use Rattle.std.specs.Prelude.{ℕ, ◌+◌, ◌^◌, ◌==◌, nat_lt, Bool, false, if◌then◌else◌, List, [], ◌∷◌, length, Option, Some, None, Result, Ok, Err}
use Rattle.std.specs.List.{list_any}
use Rattle.plfs_types.specs.Names.{name_of}
use Rattle.pack_input.specs.declared.files.NamedFile.{NamedFile}
use Rattle.pack_input.specs.declared.trouble.Kind.{Kind}
use Rattle.pack_input.specs.declared.trouble.Kind.TheVariants.{Long, Spaces, Count, Name, Data}
use Rattle.pack_input.specs.Digits.{digits_of}
use Rattle.pack_input.specs.Input.{Fault}
use Rattle.pack_input.specs.Words.{lines_of}
use Rattle.plfs_types.specs.Parts.{is_empty, words_of}

-- ---- words

abbrev pub is_dash : List ℕ → Bool
is_dash [] = false
is_dash (b ∷ []) = b == 45
is_dash (b ∷ c ∷ bytes) = false

-- the bytes that a word says
abbrev pub content_of : List ℕ → Option (List ℕ)
content_of word = if is_dash word then Some [] else digits_of word

-- ---- lines

abbrev pub with_content : List ℕ → Option (List ℕ) → Result NamedFile Kind
with_content name None = Err Data
with_content name (Some content) = Ok (record { name = name; content = content })

abbrev pub with_name : Option (List ℕ) → List ℕ → Result NamedFile Kind
with_name None word = Err Name
with_name (Some name) word = with_content name (content_of word)

abbrev pub judged : List ℕ → List ℕ → Result NamedFile Kind
judged name word = with_name (name_of name) word

abbrev pub two_words : List (List ℕ) → Result NamedFile Kind
two_words [] = Err Count
two_words (name ∷ []) = Err Count
two_words (name ∷ word ∷ []) = judged name word
two_words (name ∷ word ∷ more ∷ words) = Err Count

-- the file that the words of a line say, or the first kind of fault
abbrev pub file_of : List (List ℕ) → Result NamedFile Kind
file_of words = if list_any is_empty words then Err Spaces else two_words words

-- ---- the input

abbrev pub in_front : NamedFile → Result (List NamedFile) Fault → Result (List NamedFile) Fault
in_front f (Ok files) = Ok (f ∷ files)
in_front f (Err fault) = Err fault

abbrev pub behind_line : ℕ → Result NamedFile Kind → Result (List NamedFile) Fault → Result (List NamedFile) Fault
behind_line number (Ok f) later = in_front f later
behind_line number (Err kind) later = Err (record { line = number; kind = kind })

-- the files of these lines, the first of which has this number
abbrev pub files_of : ℕ → List (List ℕ) → Result (List NamedFile) Fault
files_of number [] = Ok []
files_of number (line ∷ lines) = behind_line number (file_of (words_of line)) (files_of (number + 1) lines)

abbrev pub input_of : List ℕ → Result (List NamedFile) Fault
input_of bytes = if nat_lt (2 ^ 20) (length bytes) then Err (record { line = 0; kind = Long }) else files_of 1 (lines_of bytes)
