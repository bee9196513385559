-- Statements by their words, and how many arguments each has.
use Rattle.std.proofs.Common.{◌≡◌, ℕ, suc, ◌-◌, ◌^◌, ◌<◌, ◌≤◌, ◌&&◌, nat_le, Bool, true, false, cond, List, [], ◌∷◌, length, Option, Some, None, refl, ap, ◌∙◌, inl, inr, arith}
use Rattle.std.specs.Prelude.{codes, ◌⊎◌}
use Rattle.std.specs.List.{AllByRecursion}
use Rattle.std.proofs.lemmas.Bool.Decides.{nat_tests}
use Rattle.script_lang.specs.declared.verb.Verb.{Verb}
use Rattle.script_lang.specs.declared.verb.Verb.TheVariants as verb
use Rattle.script_lang.specs.Forms.{Rule, number, file, content, place, Form, opens, writes, syncs, closes, ropens, reads, verifies, maps, refreshes, rcloses, stats, flattens, recovers, truncates, renames, lists, stops}
use Rattle.script_lang.specs.Names.{is_word}
use Rattle.script_lang.specs.Verbs.{writer_verb, reader_verb, asking_verb, or_else, verb_of, most_words, least_words, has_words}
use Rattle.script_lang.proofs.Arguments.RuleLemmas.{IsSmall}
use Rattle.script_lang.proofs.Lines.WordTests.{same_word}

-- ---- the words of statements

abbrev pub word_of : Verb → List ℕ
word_of verb.Open = codes "open"
word_of verb.Write = codes "write"
word_of verb.Sync = codes "sync"
word_of verb.Close = codes "close"
word_of verb.Ropen = codes "ropen"
word_of verb.Read = codes "read"
word_of verb.Verify = codes "verify"
word_of verb.Map = codes "map"
word_of verb.Refresh = codes "refresh"
word_of verb.Rclose = codes "rclose"
word_of verb.Stat = codes "stat"
word_of verb.Flatten = codes "flatten"
word_of verb.Recover = codes "recover"
word_of verb.Trunc = codes "trunc"
word_of verb.Rename = codes "rename"
word_of verb.Ls = codes "ls"
word_of verb.Stop = codes "stop"

abbrev pub rules_of : Verb → List Rule
rules_of verb.Open = file ∷ []
rules_of verb.Write = place ∷ content ∷ []
rules_of verb.Sync = []
rules_of verb.Close = []
rules_of verb.Ropen = file ∷ number 1 16 ∷ []
rules_of verb.Read = place ∷ number 0 (2 ^ 24) ∷ []
rules_of verb.Verify = place ∷ content ∷ []
rules_of verb.Map = []
rules_of verb.Refresh = []
rules_of verb.Rclose = []
rules_of verb.Stat = file ∷ []
rules_of verb.Flatten = file ∷ []
rules_of verb.Recover = file ∷ []
rules_of verb.Trunc = file ∷ place ∷ []
rules_of verb.Rename = file ∷ file ∷ []
rules_of verb.Ls = []
rules_of verb.Stop = number 1 (2 ^ 64 - 1) ∷ place ∷ []

abbrev pub least_of : Verb → ℕ
least_of verb.Ropen = 1
least_of v = length (rules_of v)

pub small_rules : (v : Verb) → AllByRecursion IsSmall (rules_of v)
small_rules verb.Open = (tt, tt)
small_rules verb.Write = (omega arith, (tt, tt))
small_rules verb.Sync = tt
small_rules verb.Close = tt
small_rules verb.Ropen = (tt, (omega arith, tt))
small_rules verb.Read = (omega arith, (omega arith, tt))
small_rules verb.Verify = (omega arith, (tt, tt))
small_rules verb.Map = tt
small_rules verb.Refresh = tt
small_rules verb.Rclose = tt
small_rules verb.Stat = (tt, tt)
small_rules verb.Flatten = (tt, tt)
small_rules verb.Recover = (tt, tt)
small_rules verb.Trunc = (tt, (omega arith, tt))
small_rules verb.Rename = (tt, (tt, tt))
small_rules verb.Ls = tt
small_rules verb.Stop = (omega arith, (omega arith, tt))

pub form_of : (v : Verb) → Form (word_of v) (rules_of v) (least_of v)
form_of verb.Open = opens
form_of verb.Write = writes
form_of verb.Sync = syncs
form_of verb.Close = closes
form_of verb.Ropen = ropens
form_of verb.Read = reads
form_of verb.Verify = verifies
form_of verb.Map = maps
form_of verb.Refresh = refreshes
form_of verb.Rclose = rcloses
form_of verb.Stat = stats
form_of verb.Flatten = flattens
form_of verb.Recover = recovers
form_of verb.Trunc = truncates
form_of verb.Rename = renames
form_of verb.Ls = lists
form_of verb.Stop = stops

pub form_verb : (word : List ℕ) (rules : List Rule) (least : ℕ) → Form word rules least → (v : Verb) × (word ≡ word_of v) × (rules ≡ rules_of v) × (least ≡ least_of v)
form_verb word rules least opens = (verb.Open, refl, refl, refl)
form_verb word rules least writes = (verb.Write, refl, refl, refl)
form_verb word rules least syncs = (verb.Sync, refl, refl, refl)
form_verb word rules least closes = (verb.Close, refl, refl, refl)
form_verb word rules least ropens = (verb.Ropen, refl, refl, refl)
form_verb word rules least reads = (verb.Read, refl, refl, refl)
form_verb word rules least verifies = (verb.Verify, refl, refl, refl)
form_verb word rules least maps = (verb.Map, refl, refl, refl)
form_verb word rules least refreshes = (verb.Refresh, refl, refl, refl)
form_verb word rules least rcloses = (verb.Rclose, refl, refl, refl)
form_verb word rules least stats = (verb.Stat, refl, refl, refl)
form_verb word rules least flattens = (verb.Flatten, refl, refl, refl)
form_verb word rules least recovers = (verb.Recover, refl, refl, refl)
form_verb word rules least truncates = (verb.Trunc, refl, refl, refl)
form_verb word rules least renames = (verb.Rename, refl, refl, refl)
form_verb word rules least lists = (verb.Ls, refl, refl, refl)
form_verb word rules least stops = (verb.Stop, refl, refl, refl)

pub verb_known : (v : Verb) → verb_of (word_of v) ≡ Some v
verb_known verb.Open = refl
verb_known verb.Write = refl
verb_known verb.Sync = refl
verb_known verb.Close = refl
verb_known verb.Ropen = refl
verb_known verb.Read = refl
verb_known verb.Verify = refl
verb_known verb.Map = refl
verb_known verb.Refresh = refl
verb_known verb.Rclose = refl
verb_known verb.Stat = refl
verb_known verb.Flatten = refl
verb_known verb.Recover = refl
verb_known verb.Trunc = refl
verb_known verb.Rename = refl
verb_known verb.Ls = refl
verb_known verb.Stop = refl

tested : (word : List ℕ) (v w : Verb) (rest : Option Verb) (b : Bool) → is_word word (word_of v) ≡ b → cond b (Some v) rest ≡ Some w → (rest ≡ Some w → word ≡ word_of w) → word ≡ word_of w
tested word v w rest true is found later = let same : v ≡ w = cc in same_word word (word_of v) is ∙ ap word_of same
tested word v w rest false is found later = later found

step : (word : List ℕ) (v w : Verb) (rest : Option Verb) → (rest ≡ Some w → word ≡ word_of w) → cond (is_word word (word_of v)) (Some v) rest ≡ Some w → word ≡ word_of w
step word v w rest later found = tested word v w rest (is_word word (word_of v)) refl found later

either : (word : List ℕ) (w : Verb) (a b : Option Verb) → (a ≡ Some w → word ≡ word_of w) → (b ≡ Some w → word ≡ word_of w) → or_else a b ≡ Some w → word ≡ word_of w
either word w (Some v) b left right is = left is
either word w None b left right is = right is

pub verb_word : (word : List ℕ) (w : Verb) → verb_of word ≡ Some w → word ≡ word_of w
verb_word word w =
    either word w (writer_verb word) _ (step word verb.Open w _ (step word verb.Write w _ (step word verb.Sync w _ (step word verb.Close w None (λ none. cc)))))
    (either word w (reader_verb word) _ (step word verb.Ropen w _ (step word verb.Read w _ (step word verb.Verify w _ (step word verb.Map w _ (step word verb.Refresh w _ (step word verb.Rclose w None (λ none. cc)))))))
    (either word w (asking_verb word) _ (step word verb.Stat w _ (step word verb.Flatten w _ (step word verb.Recover w _ (step word verb.Ls w None (λ none. cc)))))
    (step word verb.Trunc w _ (step word verb.Rename w _ (step word verb.Stop w None (λ none. cc))))))

-- a word that no statement has
pub no_verb : (word : List ℕ) → verb_of word ≡ None → (rules : List Rule) (least : ℕ) → Form word rules least → ⊥
no_verb word none rules least form =
    let known = form_verb word rules least form in
    let found = verb_known known.0 in
    let same = ap verb_of known.1 in
    cc

-- ---- how many

least_is : (v : Verb) → least_words v ≡ suc (suc (least_of v))
least_is verb.Open = refl
least_is verb.Write = refl
least_is verb.Sync = refl
least_is verb.Close = refl
least_is verb.Ropen = refl
least_is verb.Read = refl
least_is verb.Verify = refl
least_is verb.Map = refl
least_is verb.Refresh = refl
least_is verb.Rclose = refl
least_is verb.Stat = refl
least_is verb.Flatten = refl
least_is verb.Recover = refl
least_is verb.Trunc = refl
least_is verb.Rename = refl
least_is verb.Ls = refl
least_is verb.Stop = refl

most_is : (v : Verb) → most_words v ≡ suc (suc (length (rules_of v)))
most_is verb.Open = refl
most_is verb.Write = refl
most_is verb.Sync = refl
most_is verb.Close = refl
most_is verb.Ropen = refl
most_is verb.Read = refl
most_is verb.Verify = refl
most_is verb.Map = refl
most_is verb.Refresh = refl
most_is verb.Rclose = refl
most_is verb.Stat = refl
most_is verb.Flatten = refl
most_is verb.Recover = refl
most_is verb.Trunc = refl
most_is verb.Rename = refl
most_is verb.Ls = refl
most_is verb.Stop = refl

split_and : (a b : Bool) → (a && b) ≡ true → (a ≡ true) × (b ≡ true)
split_and true true is = (refl, refl)
split_and true false is = cc
split_and false b is = cc

pub counted : (v : Verb) (n : ℕ) → has_words v (suc (suc n)) ≡ true → (least_of v ≤ n) × (n ≤ length (rules_of v))
counted v n is =
    let each = split_and (nat_le (least_words v) (suc (suc n))) (nat_le (suc (suc n)) (most_words v)) is in
    let low : least_words v ≤ suc (suc n) = let h = each.0 in grind (arith, nat_tests) in
    let high : suc (suc n) ≤ most_words v = let h = each.1 in grind (arith, nat_tests) in
    (omega (arith, least_is v), omega (arith, most_is v))

failed_and : (a b : Bool) → (a && b) ≡ false → (a ≡ false) ⊎ (b ≡ false)
failed_and true b is = inr is
failed_and false b is = inl refl

pub miscounted : (v : Verb) (n : ℕ) → has_words v (suc (suc n)) ≡ false → (n < least_of v) ⊎ (length (rules_of v) < n)
miscounted v n is =
    elim (failed_and (nat_le (least_words v) (suc (suc n))) (nat_le (suc (suc n)) (most_words v)) is) [
      | inl few ↦ let low : suc (suc n) < least_words v = grind (arith, nat_tests) in inl (omega (arith, least_is v))
      | inr many ↦ let high : most_words v < suc (suc n) = grind (arith, nat_tests) in inr (omega (arith, most_is v))
    ]

not_both : (a b : Bool) → (a ≡ false) ⊎ (b ≡ false) → (a && b) ≡ false
not_both true b (inl is) = cc
not_both false b (inl is) = refl
not_both true b (inr is) = is
not_both false b (inr is) = refl

pub wrong_count : (v : Verb) (n : ℕ) → (n < least_of v) ⊎ (length (rules_of v) < n) → has_words v (suc (suc n)) ≡ false
wrong_count v n (inl few) =
    let low : suc (suc n) < least_words v = omega (arith, least_is v) in
    not_both (nat_le (least_words v) (suc (suc n))) (nat_le (suc (suc n)) (most_words v)) (inl (grind (arith, nat_tests)))
wrong_count v n (inr many) =
    let high : most_words v < suc (suc n) = omega (arith, most_is v) in
    not_both (nat_le (least_words v) (suc (suc n))) (nat_le (suc (suc n)) (most_words v)) (inr (grind (arith, nat_tests)))
