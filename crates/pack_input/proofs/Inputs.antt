-- An input: what is read is there, and what is there is read.
use Rattle.std.proofs.Common.{◌≡◌, ℕ, ◌+◌, ◌<◌, ◌≤◌, ◌^◌, nat_lt, true, false, List, [], ◌∷◌, ◌++◌, length, Result, Ok, Err, refl, sym, ap, subst, ◌∙◌, inl, inr, arith}
use Rattle.std.specs.Prelude.{IfOk, IfErr}
use Rattle.std.proofs.lemmas.Bool.{cases_lt}
use Rattle.std.proofs.lemmas.Bool.Decides.{nat_tests}
use Rattle.std.proofs.lemmas.List.{append_assoc}
use Rattle.pack_input.specs.declared.files.NamedFile.{NamedFile}
use Rattle.pack_input.specs.declared.trouble.InputTrouble.{InputTrouble}
use Rattle.pack_input.specs.declared.trouble.InputTrouble.TheVariants as trouble
use Rattle.pack_input.specs.declared.trouble.Kind.{Kind}
use Rattle.pack_input.specs.declared.trouble.Kind.TheVariants.{Long}
use Rattle.pack_input.specs.Answers.{AnswersAsRead, IsAnswered, IsTrouble, AddsAsRead}
use Rattle.pack_input.specs.Input.{AreFiles, Fault, HasFault, HasFaultyLine, IsInput, long, faulty}
use Rattle.pack_input.specs.Layout.{AreLines}
use Rattle.pack_input.specs.Reading.{in_front, behind_line, file_of, files_of, input_of}
use Rattle.pack_input.specs.Words.{lines_of}
use Rattle.plfs_types.specs.Parts.{words_of}
use Rattle.pack_input.proofs.SaidFiles.{file_again, file_found}
use Rattle.pack_input.proofs.FirstKinds.{kind_again, kind_found}
use Rattle.pack_input.proofs.Layouts.{are_lines, are_words, lines_are, words_are}

-- ---- files

-- a line says a file, and those behind it the others
record SaysMore (number : ℕ) (line : List ℕ) (lines : List (List ℕ)) (files : List NamedFile) : Type 0 where
  f : NamedFile
  others : List NamedFile
  line_says : file_of (words_of line) ≡ Ok f
  others_say : files_of (number + 1) lines ≡ Ok others
  same : f ∷ others ≡ files

says_more : (number : ℕ) (line : List ℕ) (lines : List (List ℕ)) (files : List NamedFile) (read : Result NamedFile Kind) (later : Result (List NamedFile) Fault)
    → file_of (words_of line) ≡ read → files_of (number + 1) lines ≡ later → behind_line number read later ≡ Ok files → SaysMore number line lines files
says_more number line lines files (Ok f) (Ok others) a b is = let same : f ∷ others ≡ files = cc in record { f = f; others = others; line_says = a; others_say = b; same = same }
says_more number line lines files (Ok f) (Err fault) a b is = cc
says_more number line lines files (Err kind) later a b is = cc

files_found : (number : ℕ) (lines : List (List ℕ)) (files : List NamedFile) → files_of number lines ≡ Ok files → AreFiles lines files
files_found number [] [] is = tt
files_found number [] (f ∷ files) is = cc
files_found number (line ∷ lines) files is =
    let more = says_more number line lines files (file_of (words_of line)) (files_of (number + 1) lines) refl refl is in
    subst (λ (fs : List NamedFile). AreFiles (line ∷ lines) fs) more.same (file_found line more.f more.line_says, files_found (number + 1) lines more.others more.others_say)

files_again : (number : ℕ) (lines : List (List ℕ)) (files : List NamedFile) → AreFiles lines files → files_of number lines ≡ Ok files
files_again number [] [] all = refl
files_again number [] (f ∷ files) all = absurd all
files_again number (line ∷ lines) [] all = absurd all
files_again number (line ∷ lines) (f ∷ files) all =
    ap (λ (read : Result NamedFile Kind). behind_line number read (files_of (number + 1) lines)) (file_again line f all.0)
    ∙ ap (in_front f) (files_again (number + 1) lines files all.1)

-- ---- faults

-- the lines before a line say files, and this one has the fault
record FailsAt (number : ℕ) (lines : List (List ℕ)) (fault : Fault) : Type 0 where
  before : List (List ℕ)
  line : List ℕ
  behind : List (List ℕ)
  so_far : List NamedFile
  split : lines ≡ before ++ line ∷ behind
  counted : fault.line ≡ length before + number
  say : AreFiles before so_far
  fails : file_of (words_of line) ≡ Err fault.kind

fails_at : (number : ℕ) (line : List ℕ) (lines : List (List ℕ)) (fault : Fault) (read : Result NamedFile Kind) (later : Result (List NamedFile) Fault)
    → file_of (words_of line) ≡ read → files_of (number + 1) lines ≡ later → behind_line number read later ≡ Err fault
    → (files_of (number + 1) lines ≡ Err fault → FailsAt (number + 1) lines fault) → FailsAt number (line ∷ lines) fault
fails_at number line lines fault (Ok f) (Ok others) a b is later = cc
fails_at number line lines fault (Ok f) (Err told) a b is later =
    let same : told ≡ fault = cc in
    let h = later (b ∙ ap Err same) in
    record {
      before = line ∷ h.before;
      line = h.line;
      behind = h.behind;
      so_far = f ∷ h.so_far;
      split = ap (λ (ls : List (List ℕ)). line ∷ ls) h.split;
      counted = omega (arith, h.counted);
      say = (file_found line f a, h.say);
      fails = h.fails;
    }
fails_at number line lines fault (Err kind) told a b is later =
    let same : record { line = number; kind = kind } ≡ fault = cc in
    let counted : number ≡ fault.line = ap (λ (g : Fault). g.line) same in
    record {
      before = [];
      line = line;
      behind = lines;
      so_far = [];
      split = refl;
      counted = omega (arith, counted);
      say = tt;
      fails = a ∙ ap (λ (g : Fault). Err g.kind) same;
    }

fault_found : (number : ℕ) (lines : List (List ℕ)) (fault : Fault) → files_of number lines ≡ Err fault → FailsAt number lines fault
fault_found number [] fault is = cc
fault_found number (line ∷ lines) fault is =
    fails_at number line lines fault (file_of (words_of line)) (files_of (number + 1) lines) refl refl is (λ later. fault_found (number + 1) lines fault later)

abbrev told : ℕ → Kind → Result (List NamedFile) Fault
told number kind = Err (record { line = number; kind = kind })

fault_again : (number at : ℕ) (before : List (List ℕ)) (line : List ℕ) (behind : List (List ℕ)) (so_far : List NamedFile) (kind : Kind) → AreFiles before so_far → file_of (words_of line) ≡ Err kind
    → at ≡ length before + number → files_of number (before ++ line ∷ behind) ≡ told at kind
fault_again number at [] line behind [] kind say fails counted =
    let here : number ≡ at = omega (arith, counted) in
    ap (λ (read : Result NamedFile Kind). behind_line number read (files_of (number + 1) behind)) fails ∙ ap (λ (n : ℕ). told n kind) here
fault_again number at [] line behind (f ∷ so_far) kind say fails counted = absurd say
fault_again number at (first ∷ before) line behind [] kind say fails counted = absurd say
fault_again number at (first ∷ before) line behind (f ∷ so_far) kind say fails counted =
    ap (λ (read : Result NamedFile Kind). behind_line number read (files_of (number + 1) (before ++ line ∷ behind))) (file_again first f say.0)
    ∙ ap (in_front f) (fault_again (number + 1) at before line behind so_far kind say.1 fails (omega (arith, counted)))

-- ---- the whole input

short_reads : (bytes : List ℕ) → length bytes ≤ 2 ^ 20 → input_of bytes ≡ files_of 1 (lines_of bytes)
short_reads bytes short = let test : nat_lt (2 ^ 20) (length bytes) ≡ false = grind (arith, nat_tests, short) in rw test refl

long_fails : (bytes : List ℕ) → 2 ^ 20 < length bytes → input_of bytes ≡ told 0 Long
long_fails bytes many = let test : nat_lt (2 ^ 20) (length bytes) ≡ true = grind (arith, nat_tests, many) in rw test refl

input_again : (bytes : List ℕ) (files : List NamedFile) → IsInput bytes files → input_of bytes ≡ Ok files
input_again bytes files is = short_reads bytes is.short ∙ ap (files_of 1) (lines_are bytes is.lines is.are) ∙ files_again 1 is.lines files is.say

line_again : (bytes : List ℕ) (fault : Fault) → HasFaultyLine bytes fault.line fault.kind → files_of 1 (lines_of bytes) ≡ Err fault
line_again bytes fault h =
    ap (files_of 1) (lines_are bytes (h.before ++ h.line ∷ h.behind) h.cut)
    ∙ fault_again 1 fault.line h.before h.line h.behind h.so_far fault.kind h.say (ap file_of (words_are h.line h.words h.are) ∙ kind_again h.words fault.kind h.faulty) h.counted

has_again : (bytes : List ℕ) (fault : Fault) → HasFault bytes fault → input_of bytes ≡ Err fault
has_again bytes fault (long many is) = long_fails bytes many ∙ ap Err (sym is)
has_again bytes fault (faulty few h) = short_reads bytes few ∙ line_again bytes fault h

input_found : (bytes : List ℕ) (files : List NamedFile) → input_of bytes ≡ Ok files → IsInput bytes files
input_found bytes files is = elim (cases_lt (2 ^ 20) (length bytes)) [
  | inl many ↦ let none : input_of bytes ≡ told 0 Long = long_fails bytes many in absurd (cc)
  | inr few ↦ record {
    short = few;
    lines = lines_of bytes;
    are = are_lines bytes;
    say = files_found 1 (lines_of bytes) files (sym (short_reads bytes few) ∙ is);
  }
]

has_found : (bytes : List ℕ) (fault : Fault) → input_of bytes ≡ Err fault → HasFault bytes fault
has_found bytes fault is = elim (cases_lt (2 ^ 20) (length bytes)) [
  | inl many ↦
      let one : Err fault ≡ told 0 Long = sym is ∙ long_fails bytes many in
      let same : fault ≡ record { line = 0; kind = Long } = cc in
      long many same
  | inr few ↦
      let h = fault_found 1 (lines_of bytes) fault (sym (short_reads bytes few) ∙ is) in
      faulty few (record {
        before = h.before;
        line = h.line;
        behind = h.behind;
        cut = subst (λ (lines : List (List ℕ)). AreLines bytes lines) h.split (are_lines bytes);
        counted = h.counted;
        so_far = h.so_far;
        say = h.say;
        words = words_of h.line;
        are = are_words h.line;
        faulty = kind_found (words_of h.line) fault.kind h.fails;
      })
]

-- ---- told apart

pub one_input : (bytes : List ℕ) (a b : List NamedFile) → IsInput bytes a → IsInput bytes b → a ≡ b
one_input bytes a b x y = let same : Ok a ≡ Ok b = sym (input_again bytes a x) ∙ input_again bytes b y in cc

pub one_fault : (bytes : List ℕ) (a b : Fault) → HasFault bytes a → HasFault bytes b → a ≡ b
one_fault bytes a b x y = let same : Err a ≡ Err b = sym (has_again bytes a x) ∙ has_again bytes b y in cc

pub never_both : (bytes : List ℕ) (files : List NamedFile) (fault : Fault) → IsInput bytes files → HasFault bytes fault → ⊥
never_both bytes files fault x y = let same : Ok files ≡ Err fault = sym (input_again bytes files x) ∙ has_again bytes fault y in cc

-- ---- in the words of the contract

pub found : (bytes : List ℕ) (result : Result (List NamedFile) InputTrouble) → AnswersAsRead result (input_of bytes) → IfOk result (IsInput bytes)
found bytes (Ok files) read = input_found bytes files read
found bytes (Err why) read = tt

pub refused : (bytes : List ℕ) (result : Result (List NamedFile) InputTrouble) → AnswersAsRead result (input_of bytes) → IfErr result (IsTrouble bytes)
refused bytes (Ok files) read = tt
refused bytes (Err (trouble.Fault line kind)) read = has_found bytes (record { line = line; kind = kind }) read
refused bytes (Err trouble.NoMemory) read = tt

answers : (result : Result (List NamedFile) InputTrouble) (read : Result (List NamedFile) Fault) (files : List NamedFile) → AnswersAsRead result read → read ≡ Ok files → IsAnswered result (Ok files)
answers (Ok others) read files is so = inl (cc)
answers (Err (trouble.Fault line kind)) read files is so = absurd (cc)
answers (Err trouble.NoMemory) read files is so = inr refl

fails_so : (result : Result (List NamedFile) InputTrouble) (read : Result (List NamedFile) Fault) (fault : Fault) → AnswersAsRead result read → read ≡ Err fault → IsAnswered result (Err (trouble.Fault fault.line fault.kind))
fails_so (Ok others) read fault is so = absurd (cc)
fails_so (Err (trouble.Fault line kind)) read fault is so =
    let same : record { line = line; kind = kind } ≡ fault = cc in
    inl (ap (λ (g : Fault). Err (trouble.Fault g.line g.kind)) same)
fails_so (Err trouble.NoMemory) read fault is so = inr refl

pub only : (bytes : List ℕ) (result : Result (List NamedFile) InputTrouble) → AnswersAsRead result (input_of bytes) → (files : List NamedFile) → IsInput bytes files → IsAnswered result (Ok files)
only bytes result read files is = answers result (input_of bytes) files read (input_again bytes files is)

pub exact : (bytes : List ℕ) (result : Result (List NamedFile) InputTrouble) → AnswersAsRead result (input_of bytes) → (fault : Fault) → HasFault bytes fault → IsAnswered result (Err (trouble.Fault fault.line fault.kind))
exact bytes result read fault has = fails_so result (input_of bytes) fault read (has_again bytes fault has)

-- ---- line by line

-- the files so far, in front of those of the lines that are left
abbrev pub behind_files : List NamedFile → Result (List NamedFile) Fault → Result (List NamedFile) Fault
behind_files files (Ok others) = Ok (files ++ others)
behind_files files (Err fault) = Err fault

pub behind_none : (read : Result (List NamedFile) Fault) → behind_files [] read ≡ read
behind_none (Ok files) = refl
behind_none (Err fault) = refl

one_behind : (files : List NamedFile) (f : NamedFile) (later : Result (List NamedFile) Fault) → behind_files files (in_front f later) ≡ behind_files (files ++ f ∷ []) later
one_behind files f (Ok others) = ap Ok (sym (append_assoc files (f ∷ []) others))
one_behind files f (Err fault) = refl

-- one line more
pub next_line : (bytes line rest : List ℕ) (number : ℕ) (files new : List NamedFile) → lines_of bytes ≡ line ∷ lines_of rest → AddsAsRead (Ok tt) number files new (file_of (words_of line))
    → behind_files files (files_of number (lines_of bytes)) ≡ behind_files new (files_of (number + 1) (lines_of rest))
next_line bytes line rest number files new cut (f, says, made) =
    ap (λ (lines : List (List ℕ)). behind_files files (files_of number lines)) cut
    ∙ ap (λ (read : Result NamedFile Kind). behind_files files (behind_line number read (files_of (number + 1) (lines_of rest)))) says
    ∙ one_behind files f (files_of (number + 1) (lines_of rest))
    ∙ ap (λ (fs : List NamedFile). behind_files fs (files_of (number + 1) (lines_of rest))) (sym made)

-- the fault of this line
pub line_fails : (bytes line rest : List ℕ) (number : ℕ) (files new : List NamedFile) (why : InputTrouble) → lines_of bytes ≡ line ∷ lines_of rest → AddsAsRead (Err why) number files new (file_of (words_of line))
    → AnswersAsRead (Err why) (behind_files files (files_of number (lines_of bytes)))
line_fails bytes line rest number files new (trouble.Fault at kind) cut (here, fails) =
    ap (λ (lines : List (List ℕ)). behind_files files (files_of number lines)) cut
    ∙ ap (λ (read : Result NamedFile Kind). behind_files files (behind_line number read (files_of (number + 1) (lines_of rest)))) fails
    ∙ ap (λ (n : ℕ). told n kind) (sym here)
line_fails bytes line rest number files new trouble.NoMemory cut adds = tt
