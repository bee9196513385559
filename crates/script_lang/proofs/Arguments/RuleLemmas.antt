-- Arguments and their rules.
use Rattle.std.proofs.Common.{◌≡◌, ℕ, ◌^◌, ◌<◌, List, [], ◌∷◌, Option, Some, None, Result, Ok, Err, refl, sym, ap, ◌∙◌, inl, inr, arith}
use Rattle.std.specs.List.{AllByRecursion}
use Rattle.script_lang.specs.declared.trouble.Kind.{Kind}
use Rattle.script_lang.specs.Data.{data_in}
use Rattle.script_lang.specs.Forms.{Rule, number, file, content, Keeps, kind_of}
use Rattle.script_lang.specs.Conditions.{BreaksRule}
use Rattle.script_lang.specs.Names.{file_name}
use Rattle.script_lang.specs.Numbers.{number_within}
use Rattle.script_lang.proofs.Arguments.DataLemmas.{data_again, data_found, data_refused}
use Rattle.script_lang.proofs.Arguments.FileNames.{name_found, name_again, name_refused}
use Rattle.script_lang.proofs.Arguments.NumberLemmas.{number_found, number_again, number_refused}

-- the fault of what is read
abbrev pub fault_of : {A : Type 0} → Result A Kind → Option Kind
fault_of (Ok x) = None
fault_of (Err kind) = Some kind

-- the fault of a word under a rule
abbrev pub broken : Rule → List ℕ → Option Kind
broken (number least most) word = fault_of (number_within least most word)
broken file word = fault_of (file_name word)
broken content word = fault_of (data_in word)

-- the first of two faults
abbrev pub or_then : Option Kind → Option Kind → Option Kind
or_then (Some kind) later = Some kind
or_then None later = later

-- the first fault of some words under their rules
abbrev pub first_broken : List Rule → List (List ℕ) → Option Kind
first_broken [] words = None
first_broken (rule ∷ rules) [] = None
first_broken (rule ∷ rules) (word ∷ words) = or_then (broken rule word) (first_broken rules words)

-- no rule asks for more than 64 bits
abbrev pub IsSmall : Rule → Type 0
IsSmall (number least most) = most < 2 ^ 64
IsSmall file = Unit {0}
IsSmall content = Unit {0}

faultless : {A : Type 0} (read : Result A Kind) → fault_of read ≡ None → (x : A) × (read ≡ Ok x)
faultless (Ok x) none = (x, refl)
faultless (Err kind) none = cc

pub faulty : {A : Type 0} (read : Result A Kind) (kind : Kind) → fault_of read ≡ Some kind → read ≡ Err kind
faulty (Ok x) kind some = cc
faulty (Err other) kind some = let same : other ≡ kind = cc in ap (λ k. Err k) same

kept : (rule : Rule) (word : List ℕ) → broken rule word ≡ None → Keeps rule word
kept (number least most) word none =
    let read = faultless (number_within least most word) none in
    let found = number_found least most read.0 word read.1 in
    (read.0, found.1, found.2, found.0)
kept file word none =
    let read = faultless (file_name word) none in
    let found = name_found word read.0 read.1 in
    rw found.1 found.0
kept content word none =
    let read = faultless (data_in word) none in
    let found = data_found word read.0 read.1 in
    (read.0, found.0, found.1)

not_kept : (rule : Rule) (word : List ℕ) (kind : Kind) → IsSmall rule → broken rule word ≡ Some kind → (Keeps rule word → ⊥) × (kind ≡ kind_of rule)
not_kept (number least most) word kind small some =
    let failed = faulty (number_within least most word) kind some in
    (λ keeps. let again = number_again least most keeps.0 (omega (arith, keeps.2)) keeps.1 keeps.2 in let same = ap (number_within least most) keeps.3 in cc, number_refused least most word kind failed)
not_kept file word kind small some =
    let failed = faulty (file_name word) kind some in
    (λ keeps. let again = name_again word keeps in cc, name_refused word kind failed)
not_kept content word kind small some =
    let failed = faulty (data_in word) kind some in
    (λ keeps. let again = data_again keeps.0 keeps.1 in let same = ap data_in keeps.2 in cc, data_refused word kind failed)

-- the first fault is the first breach
pub breaks : (rules : List Rule) (words : List (List ℕ)) (kind : Kind) → AllByRecursion IsSmall rules → first_broken rules words ≡ Some kind → BreaksRule rules words kind
breaks [] words kind small is = cc
breaks (rule ∷ rules) [] kind small is = cc
breaks (rule ∷ rules) (word ∷ words) kind small is = by (breaks rules words kind small.1) (broken rule word) refl is
  where
    by : (first_broken rules words ≡ Some kind → BreaksRule rules words kind) → (first : Option Kind) → broken rule word ≡ first → or_then first (first_broken rules words) ≡ Some kind → BreaksRule (rule ∷ rules) (word ∷ words) kind
    by rest None none later = inr (kept rule word none, rest later)
    by rest (Some other) some later = let same : other ≡ kind = cc in inl (not_kept rule word kind small.0 (some ∙ ap (λ k. Some k) same))

pub breach_is_first : (rules : List Rule) (words : List (List ℕ)) (kind : Kind) → AllByRecursion IsSmall rules → BreaksRule rules words kind → first_broken rules words ≡ Some kind
breach_is_first [] words kind small is = absurd is
breach_is_first (rule ∷ rules) [] kind small is = absurd is
breach_is_first (rule ∷ rules) (word ∷ words) kind small (inl (lost, is)) = by (broken rule word) refl
  where
    by : (first : Option Kind) → broken rule word ≡ first → or_then first (first_broken rules words) ≡ Some kind
    by None none = absurd (lost (kept rule word none))
    by (Some other) some = let this = not_kept rule word other small.0 some in ap (λ k. Some k) (this.1 ∙ sym is)
breach_is_first (rule ∷ rules) (word ∷ words) kind small (inr (keeps, later)) = by (breach_is_first rules words kind small.1 later) (broken rule word) refl
  where
    by : first_broken rules words ≡ Some kind → (first : Option Kind) → broken rule word ≡ first → or_then first (first_broken rules words) ≡ Some kind
    by rest None none = rest
    by rest (Some other) some = absurd ((not_kept rule word other small.0 some).0 keeps)
