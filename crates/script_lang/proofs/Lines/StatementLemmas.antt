-- Statements: what is read of their words, and how they are written.
use Rattle.std.proofs.Common.{◌≡◌, ◌≢◌, ℕ, suc, ◌-◌, ◌^◌, ◌<◌, ◌≤◌, true, List, [], ◌∷◌, length, Option, Some, None, Result, Ok, Err, refl, sym, ap, ◌∙◌, inl, inr, arith}
use Rattle.std.specs.Prelude.{codes}
use Rattle.std.specs.Fmt.{decimal}
use Rattle.std.specs.List.{AllByRecursion}
use Rattle.std.proofs.lemmas.Fmt.{decimal_nonempty}
use Rattle.plfs_types.specs.Names.{IsLogicalName}
use Rattle.script_lang.specs.declared.script.Statement.{Statement}
use Rattle.script_lang.specs.declared.script.Statement.TheVariants as statement
use Rattle.script_lang.specs.declared.trouble.Kind.{Kind}
use Rattle.script_lang.specs.declared.verb.Verb.{Verb}
use Rattle.script_lang.specs.declared.verb.Verb.TheVariants as verb
use Rattle.script_lang.specs.Data.{data_in}
use Rattle.script_lang.specs.Names.{file_name}
use Rattle.script_lang.specs.Numbers.{number_within, number_or}
use Rattle.script_lang.specs.Reading.{◌>>=◌}
use Rattle.script_lang.specs.Spelling.{data_word, SpellsStatement}
use Rattle.script_lang.specs.Statements.{statement_of}
use Rattle.script_lang.specs.Verbs.{verb_of, has_words}
use Rattle.script_lang.specs.Words.{first_word, later_words}
use Rattle.script_lang.proofs.Arguments.DataLemmas.{data_again, data_found}
use Rattle.script_lang.proofs.Arguments.FileNames.{name_found, name_again}
use Rattle.script_lang.proofs.Arguments.NumberLemmas.{number_found, number_again}
use Rattle.script_lang.proofs.Arguments.RuleLemmas.{fault_of, or_then, first_broken}
use Rattle.script_lang.proofs.Lines.VerbLemmas.{word_of, rules_of, least_of, verb_known}

-- ---- the first fault of the arguments

none_left : {X : Type 0} (xs : List X) → length xs ≤ 0 → xs ≡ []
none_left [] few = refl
none_left (x ∷ xs) few = absurd (omega arith)

one_left : {X : Type 0} (xs : List X) → 1 ≤ length xs → length xs ≤ 1 → (x : X) × (xs ≡ x ∷ [])
one_left [] some few = absurd (omega arith)
one_left (x ∷ []) some few = (x, refl)
one_left (x ∷ y ∷ xs) some few = absurd (omega arith)

two_left : {X : Type 0} (xs : List X) → 2 ≤ length xs → length xs ≤ 2 → (x : X) × (y : X) × (xs ≡ x ∷ y ∷ [])
two_left [] some few = absurd (omega arith)
two_left (x ∷ []) some few = absurd (omega arith)
two_left (x ∷ y ∷ []) some few = (x, y, refl)
two_left (x ∷ y ∷ z ∷ xs) some few = absurd (omega arith)

after_one : {A : Type 0} (r : Result A Kind) (f : A → Statement) → fault_of (r >>= (λ x. Ok (f x))) ≡ or_then (fault_of r) None
after_one (Ok x) f = refl
after_one (Err kind) f = refl

after_two : {A B : Type 0} (r : Result A Kind) (s : Result B Kind) (f : A → B → Statement) → fault_of (r >>= (λ x. s >>= (λ y. Ok (f x y)))) ≡ or_then (fault_of r) (or_then (fault_of s) None)
after_two (Ok x) (Ok y) f = refl
after_two (Ok x) (Err kind) f = refl
after_two (Err kind) s f = refl

pub number_there : (other least most : ℕ) (word : List ℕ) → word ≢ [] → number_or other least most word ≡ number_within least most word
number_there other least most [] some = absurd (some refl)
number_there other least most (b ∷ bytes) some = refl

abbrev pub reading : Verb → List (List ℕ) → Result Statement Kind
reading v arguments = statement_of v (first_word arguments) (first_word (later_words arguments))

-- the workers of a reader may be left out
ropen_fault : (arguments : List (List ℕ)) → 1 ≤ length arguments → length arguments ≤ 2 → AllByRecursion (λ word. word ≢ []) arguments → fault_of (reading verb.Ropen arguments) ≡ first_broken (rules_of verb.Ropen) arguments
ropen_fault [] some few full = absurd (omega arith)
ropen_fault (a ∷ []) some few full = after_one (file_name a) (λ name. statement.Ropen name 1)
ropen_fault (a ∷ b ∷ []) some few full =
    ap (λ (r : Result ℕ Kind). fault_of (file_name a >>= (λ name. r >>= (λ workers. Ok (statement.Ropen name workers))))) (number_there 1 1 16 b full.1.0)
    ∙ after_two (file_name a) (number_within 1 16 b) (λ name workers. statement.Ropen name workers)
ropen_fault (a ∷ b ∷ c ∷ more) some few full = absurd (omega arith)

pub first_fault : (v : Verb) (arguments : List (List ℕ)) → least_of v ≤ length arguments → length arguments ≤ length (rules_of v) → AllByRecursion (λ word. word ≢ []) arguments → fault_of (reading v arguments) ≡ first_broken (rules_of v) arguments
first_fault verb.Open arguments low high full = let one = one_left arguments low high in rw one.1 (after_one (file_name one.0) (λ name. statement.Open name))
first_fault verb.Write arguments low high full = let two = two_left arguments low high in rw two.2 (after_two (number_within 0 (2 ^ 64 - 1) two.0) (data_in two.1) (λ at written. statement.Write at written))
first_fault verb.Sync arguments low high full = refl
first_fault verb.Close arguments low high full = refl
first_fault verb.Ropen arguments low high full = ropen_fault arguments low high full
first_fault verb.Read arguments low high full = let two = two_left arguments low high in rw two.2 (after_two (number_within 0 (2 ^ 64 - 1) two.0) (number_within 0 (2 ^ 24) two.1) (λ at len. statement.Read at len))
first_fault verb.Verify arguments low high full = let two = two_left arguments low high in rw two.2 (after_two (number_within 0 (2 ^ 64 - 1) two.0) (data_in two.1) (λ at written. statement.Verify at written))
first_fault verb.Map arguments low high full = refl
first_fault verb.Refresh arguments low high full = refl
first_fault verb.Rclose arguments low high full = refl
first_fault verb.Stat arguments low high full = let one = one_left arguments low high in rw one.1 (after_one (file_name one.0) (λ name. statement.Stat name))
first_fault verb.Flatten arguments low high full = let one = one_left arguments low high in rw one.1 (after_one (file_name one.0) (λ name. statement.Flatten name))
first_fault verb.Recover arguments low high full = let one = one_left arguments low high in rw one.1 (after_one (file_name one.0) (λ name. statement.Recover name))
first_fault verb.Trunc arguments low high full = let two = two_left arguments low high in rw two.2 (after_two (file_name two.0) (number_within 0 (2 ^ 64 - 1) two.1) (λ name size. statement.Trunc name size))
first_fault verb.Rename arguments low high full = let two = two_left arguments low high in rw two.2 (after_two (file_name two.0) (file_name two.1) (λ name to. statement.Rename name to))
first_fault verb.Ls arguments low high full = refl
first_fault verb.Stop arguments low high full = let two = two_left arguments low high in rw two.2 (after_two (number_within 1 (2 ^ 64 - 1) two.0) (number_within 0 (2 ^ 64 - 1) two.1) (λ call bytes. statement.Stop call bytes))

-- ---- what is read is so written

one_read : {A : Type 0} (r : Result A Kind) (f : A → Statement) (made : Statement) → r >>= (λ x. Ok (f x)) ≡ Ok made → (x : A) × (r ≡ Ok x) × (f x ≡ made)
one_read (Ok x) f made is = let same : f x ≡ made = cc in (x, refl, same)
one_read (Err kind) f made is = cc

two_read : {A B : Type 0} (r : Result A Kind) (s : Result B Kind) (f : A → B → Statement) (made : Statement) → r >>= (λ x. s >>= (λ y. Ok (f x y))) ≡ Ok made → (x : A) × (y : B) × (r ≡ Ok x) × (s ≡ Ok y) × (f x y ≡ made)
two_read (Ok x) (Ok y) f made is = let same : f x y ≡ made = cc in (x, y, refl, refl, same)
two_read (Ok x) (Err kind) f made is = cc
two_read (Err kind) s f made is = cc

both_words : (w : List ℕ) {a b c d : List ℕ} → a ≡ c → b ≡ d → w ∷ a ∷ b ∷ [] ≡ w ∷ c ∷ d ∷ []
both_words w ha hb = rw (ha, hb) refl

ropen_read : (arguments : List (List ℕ)) (made : Statement) → 1 ≤ length arguments → length arguments ≤ 2 → AllByRecursion (λ word. word ≢ []) arguments → reading verb.Ropen arguments ≡ Ok made → SpellsStatement made (codes "ropen" ∷ arguments)
ropen_read [] made some few full is = absurd (omega arith)
ropen_read (a ∷ []) made some few full is =
    let read = one_read (file_name a) (λ name. statement.Ropen name 1) made is in
    let name = name_found a read.0 read.1 in
    rw (← read.2) (name.0, omega arith, omega arith, inr (ap (λ w. codes "ropen" ∷ w ∷ []) name.1, refl))
ropen_read (a ∷ b ∷ []) made some few full is =
    let as_read = sym (ap (λ (r : Result ℕ Kind). file_name a >>= (λ name. r >>= (λ workers. Ok (statement.Ropen name workers)))) (number_there 1 1 16 b full.1.0)) ∙ is in
    let read = two_read (file_name a) (number_within 1 16 b) (λ name workers. statement.Ropen name workers) made as_read in
    let name = name_found a read.0 read.2 in
    let workers = number_found 1 16 read.1 b read.3 in
    rw (← read.4) (name.0, workers.1, workers.2, inl (both_words (codes "ropen") name.1 workers.0))
ropen_read (a ∷ b ∷ c ∷ more) made some few full is = absurd (omega arith)

name_read : (w : List ℕ) (f : List ℕ → Statement) (arguments : List (List ℕ)) (made : Statement) → 1 ≤ length arguments → length arguments ≤ 1 → file_name (first_word arguments) >>= (λ name. Ok (f name)) ≡ Ok made
    → (name : List ℕ) × (f name ≡ made) × IsLogicalName name × (w ∷ arguments ≡ w ∷ name ∷ [])
name_read w f arguments made low high is =
    let one = one_left arguments low high in
    let as_read = ap (λ (words : List (List ℕ)). file_name (first_word words) >>= (λ name. Ok (f name))) (sym one.1) ∙ is in
    let read = one_read (file_name one.0) f made as_read in
    let name = name_found one.0 read.0 read.1 in
    (read.0, read.2, name.0, ap (λ words. w ∷ words) one.1 ∙ ap (λ n. w ∷ n ∷ []) name.1)

-- two arguments that are read
args_read : {A B : Type 0} (w : List ℕ) (r : List ℕ → Result A Kind) (s : List ℕ → Result B Kind) (f : A → B → Statement) (arguments : List (List ℕ)) (made : Statement) → 2 ≤ length arguments → length arguments ≤ 2
    → r (first_word arguments) >>= (λ x. s (first_word (later_words arguments)) >>= (λ y. Ok (f x y))) ≡ Ok made
    → (a : List ℕ) × (b : List ℕ) × (x : A) × (y : B) × (w ∷ arguments ≡ w ∷ a ∷ b ∷ []) × (r a ≡ Ok x) × (s b ≡ Ok y) × (f x y ≡ made)
args_read w r s f arguments made low high is =
    let two = two_left arguments low high in
    let as_read = ap (λ (words : List (List ℕ)). r (first_word words) >>= (λ x. s (first_word (later_words words)) >>= (λ y. Ok (f x y)))) (sym two.2) ∙ is in
    let read = two_read (r two.0) (s two.1) f made as_read in
    (two.0, two.1, read.0, read.1, ap (λ words. w ∷ words) two.2, read.2, read.3, read.4)

bare : (w : List ℕ) (s made : Statement) (arguments : List (List ℕ)) → length arguments ≤ 0 → ◌≡◌ {A = Result Statement Kind} (Ok s) (Ok made) → (s ≡ made) × (w ∷ arguments ≡ w ∷ [])
bare w s made arguments few is = let same : s ≡ made = cc in (same, ap (λ words. w ∷ words) (none_left arguments few))

pub spells : (v : Verb) (arguments : List (List ℕ)) (made : Statement) → least_of v ≤ length arguments → length arguments ≤ length (rules_of v) → AllByRecursion (λ word. word ≢ []) arguments → reading v arguments ≡ Ok made → SpellsStatement made (word_of v ∷ arguments)
spells verb.Open arguments made low high full is = let read = name_read (codes "open") (λ name. statement.Open name) arguments made low high is in rw (← read.1) (read.2, read.3)
spells verb.Write arguments made low high full is =
    let read = args_read (codes "write") (number_within 0 (2 ^ 64 - 1)) data_in (λ at written. statement.Write at written) arguments made low high is in
    let at = number_found 0 (2 ^ 64 - 1) read.2 read.0 read.5 in
    let written = data_found read.1 read.3 read.6 in
    rw (← read.7) (at.3, written.0, read.4 ∙ both_words (codes "write") at.0 written.1)
spells verb.Sync arguments made low high full is = let read = bare (codes "sync") statement.Sync made arguments high is in rw (← read.0) read.1
spells verb.Close arguments made low high full is = let read = bare (codes "close") statement.Close made arguments high is in rw (← read.0) read.1
spells verb.Ropen arguments made low high full is = ropen_read arguments made low high full is
spells verb.Read arguments made low high full is =
    let read = args_read (codes "read") (number_within 0 (2 ^ 64 - 1)) (number_within 0 (2 ^ 24)) (λ at len. statement.Read at len) arguments made low high is in
    let at = number_found 0 (2 ^ 64 - 1) read.2 read.0 read.5 in
    let len = number_found 0 (2 ^ 24) read.3 read.1 read.6 in
    rw (← read.7) (at.3, len.2, read.4 ∙ both_words (codes "read") at.0 len.0)
spells verb.Verify arguments made low high full is =
    let read = args_read (codes "verify") (number_within 0 (2 ^ 64 - 1)) data_in (λ at written. statement.Verify at written) arguments made low high is in
    let at = number_found 0 (2 ^ 64 - 1) read.2 read.0 read.5 in
    let written = data_found read.1 read.3 read.6 in
    rw (← read.7) (at.3, written.0, read.4 ∙ both_words (codes "verify") at.0 written.1)
spells verb.Map arguments made low high full is = let read = bare (codes "map") statement.Map made arguments high is in rw (← read.0) read.1
spells verb.Refresh arguments made low high full is = let read = bare (codes "refresh") statement.Refresh made arguments high is in rw (← read.0) read.1
spells verb.Rclose arguments made low high full is = let read = bare (codes "rclose") statement.Rclose made arguments high is in rw (← read.0) read.1
spells verb.Stat arguments made low high full is = let read = name_read (codes "stat") (λ name. statement.Stat name) arguments made low high is in rw (← read.1) (read.2, read.3)
spells verb.Flatten arguments made low high full is = let read = name_read (codes "flatten") (λ name. statement.Flatten name) arguments made low high is in rw (← read.1) (read.2, read.3)
spells verb.Recover arguments made low high full is = let read = name_read (codes "recover") (λ name. statement.Recover name) arguments made low high is in rw (← read.1) (read.2, read.3)
spells verb.Trunc arguments made low high full is =
    let read = args_read (codes "trunc") file_name (number_within 0 (2 ^ 64 - 1)) (λ name size. statement.Trunc name size) arguments made low high is in
    let name = name_found read.0 read.2 read.5 in
    let size = number_found 0 (2 ^ 64 - 1) read.3 read.1 read.6 in
    rw (← read.7) (name.0, size.3, read.4 ∙ both_words (codes "trunc") name.1 size.0)
spells verb.Rename arguments made low high full is =
    let read = args_read (codes "rename") file_name file_name (λ name to. statement.Rename name to) arguments made low high is in
    let name = name_found read.0 read.2 read.5 in
    let to = name_found read.1 read.3 read.6 in
    rw (← read.7) (name.0, to.0, read.4 ∙ both_words (codes "rename") name.1 to.1)
spells verb.Ls arguments made low high full is = let read = bare (codes "ls") statement.Ls made arguments high is in rw (← read.0) read.1
spells verb.Stop arguments made low high full is =
    let read = args_read (codes "stop") (number_within 1 (2 ^ 64 - 1)) (number_within 0 (2 ^ 64 - 1)) (λ call bytes. statement.Stop call bytes) arguments made low high is in
    let call = number_found 1 (2 ^ 64 - 1) read.2 read.0 read.5 in
    let bytes = number_found 0 (2 ^ 64 - 1) read.3 read.1 read.6 in
    rw (← read.7) (call.1, call.3, bytes.3, read.4 ∙ both_words (codes "stop") call.0 bytes.0)

-- ---- what is so written is read

-- the statement is read of these words
pub record IsReadOf (made : Statement) (words : List (List ℕ)) : Type 0 where
  pub does : Verb
  pub arguments : List (List ℕ)
  pub split : words ≡ word_of does ∷ arguments
  pub counts : has_words does (suc (suc (length arguments))) ≡ true
  pub reads_so : reading does arguments ≡ Ok made

small_again : (n : ℕ) → n < 2 ^ 64 → number_within 0 (2 ^ 64 - 1) (decimal n) ≡ Ok n
small_again n small = number_again 0 (2 ^ 64 - 1) n small (omega arith) (omega arith)

limited_again : (least most n : ℕ) → most < 2 ^ 64 → least ≤ n → n ≤ most → number_within least most (decimal n) ≡ Ok n
limited_again least most n small low high = number_again least most n (omega arith) low high

workers_again : (n : ℕ) → 1 ≤ n → n ≤ 16 → number_or 1 1 16 (decimal n) ≡ Ok n
workers_again n low high =
    let some : decimal n ≢ [] = λ none. let long = decimal_nonempty n (omega arith) in let short : length (decimal n) ≡ 0 = ap length none in omega arith in
    number_there 1 1 16 (decimal n) some ∙ limited_again 1 16 n (omega arith) low high

pub read_of : (made : Statement) (words : List (List ℕ)) → SpellsStatement made words → IsReadOf made words
read_of (statement.Open name) words (rule, is) = record { does = verb.Open; arguments = name ∷ []; split = is; counts = refl; reads_so = rw (name_again name rule) refl }
read_of (statement.Write at written) words (small, fits, is) = record { does = verb.Write; arguments = decimal at ∷ data_word written ∷ []; split = is; counts = refl; reads_so = rw (small_again at small, data_again written fits) refl }
read_of statement.Sync words is = record { does = verb.Sync; arguments = []; split = is; counts = refl; reads_so = refl }
read_of statement.Close words is = record { does = verb.Close; arguments = []; split = is; counts = refl; reads_so = refl }
read_of (statement.Ropen name workers) words (rule, low, high, inl is) = record { does = verb.Ropen; arguments = name ∷ decimal workers ∷ []; split = is; counts = refl; reads_so = rw (name_again name rule, workers_again workers low high) refl }
read_of (statement.Ropen name workers) words (rule, low, high, inr (is, one)) = record { does = verb.Ropen; arguments = name ∷ []; split = is; counts = refl; reads_so = rw (name_again name rule, one) refl }
read_of (statement.Read at len) words (small, short, is) = record { does = verb.Read; arguments = decimal at ∷ decimal len ∷ []; split = is; counts = refl; reads_so = rw (small_again at small, limited_again 0 (2 ^ 24) len (omega arith) (omega arith) short) refl }
read_of (statement.Verify at written) words (small, fits, is) = record { does = verb.Verify; arguments = decimal at ∷ data_word written ∷ []; split = is; counts = refl; reads_so = rw (small_again at small, data_again written fits) refl }
read_of statement.Map words is = record { does = verb.Map; arguments = []; split = is; counts = refl; reads_so = refl }
read_of statement.Refresh words is = record { does = verb.Refresh; arguments = []; split = is; counts = refl; reads_so = refl }
read_of statement.Rclose words is = record { does = verb.Rclose; arguments = []; split = is; counts = refl; reads_so = refl }
read_of (statement.Stat name) words (rule, is) = record { does = verb.Stat; arguments = name ∷ []; split = is; counts = refl; reads_so = rw (name_again name rule) refl }
read_of (statement.Flatten name) words (rule, is) = record { does = verb.Flatten; arguments = name ∷ []; split = is; counts = refl; reads_so = rw (name_again name rule) refl }
read_of (statement.Recover name) words (rule, is) = record { does = verb.Recover; arguments = name ∷ []; split = is; counts = refl; reads_so = rw (name_again name rule) refl }
read_of (statement.Trunc name size) words (rule, small, is) = record { does = verb.Trunc; arguments = name ∷ decimal size ∷ []; split = is; counts = refl; reads_so = rw (name_again name rule, small_again size small) refl }
read_of (statement.Rename name to) words (rule, other, is) = record { does = verb.Rename; arguments = name ∷ to ∷ []; split = is; counts = refl; reads_so = rw (name_again name rule, name_again to other) refl }
read_of statement.Ls words is = record { does = verb.Ls; arguments = []; split = is; counts = refl; reads_so = refl }
read_of (statement.Stop call bytes) words (low, small, few, is) = record { does = verb.Stop; arguments = decimal call ∷ decimal bytes ∷ []; split = is; counts = refl; reads_so = rw (limited_again 1 (2 ^ 64 - 1) call (omega arith) low (omega arith), small_again bytes few) refl }

-- no words are two statements
pub one_statement : (words : List (List ℕ)) (a b : Statement) → SpellsStatement a words → SpellsStatement b words → a ≡ b
one_statement words a b is also =
    let one = read_of a words is in
    let other = read_of b words also in
    let words_are : word_of one.does ∷ one.arguments ≡ word_of other.does ∷ other.arguments = sym one.split ∙ other.split in
    let word : word_of one.does ≡ word_of other.does = cc in
    let arguments : one.arguments ≡ other.arguments = cc in
    let known : ◌≡◌ {A = Option Verb} (Some one.does) (Some other.does) = sym (verb_known one.does) ∙ (ap verb_of word ∙ verb_known other.does) in
    let verb : one.does ≡ other.does = cc in
    let first = one.reads_so in
    let second = other.reads_so in
    let read : reading one.does one.arguments ≡ reading other.does other.arguments = rw (verb, arguments) refl in
    cc
