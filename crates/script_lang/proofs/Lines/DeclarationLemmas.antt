-- Lines that declare actors.
use Rattle.std.proofs.Common.{◌≡◌, ◌≢◌, ℕ, suc, ◌-◌, ◌^◌, ◌<◌, ◌≤◌, ◌==◌, ◌||◌, nat_le, nat_lt, not, Bool, true, false, cond, List, [], ◌∷◌, length, Option, Some, None, Result, Ok, Err, refl, sym, ap, ◌∙◌, inl, inr, arith}
use Rattle.std.specs.Prelude.{codes, is_some, ◌⊎◌}
use Rattle.std.specs.Fmt.{decimal}
use Rattle.std.specs.List.{AllByRecursion}
use Rattle.std.proofs.lemmas.Bool.Decides.{nat_tests}
use Rattle.std.proofs.lemmas.Fmt.{decimal_nonempty}
use Rattle.script_lang.specs.declared.meaning.Meaning.{Meaning}
use Rattle.script_lang.specs.declared.meaning.Meaning.TheVariants as meaning
use Rattle.script_lang.specs.declared.script.ActorDecl.{ActorDecl}
use Rattle.script_lang.specs.declared.script.Script.{Script}
use Rattle.script_lang.specs.declared.trouble.Kind.{Kind}
use Rattle.script_lang.specs.declared.trouble.Kind.TheVariants as kinds
use Rattle.script_lang.specs.ActorNames.{IsActorName, actor_place}
use Rattle.script_lang.specs.Forms.{Rule, number}
use Rattle.script_lang.specs.Declarations.{IsDeclaredBy, Declares}
use Rattle.script_lang.specs.Phases.{empty_phase}
use Rattle.script_lang.specs.Conditions.{IsRefused, malformed, doubled, late, too_many}
use Rattle.script_lang.specs.Lines.{is_refused, declared, declaration}
use Rattle.script_lang.specs.Names.{is_actor_name}
use Rattle.script_lang.specs.Numbers.{number_within, number_or}
use Rattle.script_lang.specs.Reading.{◌>>=◌}
use Rattle.script_lang.specs.Spoken.{Spoken, spoken}
use Rattle.script_lang.proofs.Arguments.NumberLemmas.{number_found, number_again}
use Rattle.script_lang.proofs.Arguments.RuleLemmas.{fault_of, or_then, first_broken}
use Rattle.script_lang.proofs.Lines.StatementLemmas.{number_there}
use Rattle.script_lang.proofs.Lines.WordTests.{is_name, name_passes}

-- ---- who may be declared

one_of : (a b c d : Bool) → (a || b || not c || d) ≡ true → (a ≡ true) ⊎ (b ≡ true) ⊎ (c ≡ false) ⊎ (d ≡ true)
one_of true b c d is = inl refl
one_of false true c d is = inr (inl refl)
one_of false false false d is = inr (inr (inl refl))
one_of false false true true is = inr (inr (inr refl))
one_of false false true false is = cc

none_of : (a b c d : Bool) → (a || b || not c || d) ≡ false → (a ≡ false) × (b ≡ false) × (c ≡ true) × (d ≡ false)
none_of true b c d is = cc
none_of false true c d is = cc
none_of false false false d is = cc
none_of false false true true is = cc
none_of false false true false is = (refl, refl, refl, refl)

any_of : (a b c d : Bool) → (a ≡ true) ⊎ (b ≡ true) ⊎ (c ≡ false) ⊎ (d ≡ true) → (a || b || not c || d) ≡ true
any_of true b c d is = refl
any_of false true c d is = refl
any_of false false false d is = refl
any_of false false true true is = refl
any_of false false true false (inl is) = cc
any_of false false true false (inr (inl is)) = cc
any_of false false true false (inr (inr (inl is))) = cc
any_of false false true false (inr (inr (inr is))) = cc

taken : (found : Option ℕ) → is_some found ≡ true → found ≢ None
taken None is = cc
taken (Some place) is = λ none. cc

free : (found : Option ℕ) → is_some found ≡ false → found ≡ None
free None is = refl
free (Some place) is = cc

is_taken : (found : Option ℕ) → found ≢ None → is_some found ≡ true
is_taken None some = absurd (some refl)
is_taken (Some place) some = refl

no_name : (name : List ℕ) → (IsActorName name → ⊥) → is_actor_name name ≡ false
no_name name wrong = by (is_actor_name name) refl
  where
    by : (b : Bool) → is_actor_name name ≡ b → is_actor_name name ≡ false
    by false is = is
    by true is = absurd (wrong (is_name name is))

pub refused_so : (before : Script) (begun : Bool) (name : List ℕ) → (begun ≡ true → before.phases ≢ empty_phase ∷ []) → is_refused before.actors begun name ≡ true → IsRefused before name
refused_so before begun name when is =
    elim (one_of begun (nat_le 256 (length before.actors)) (is_actor_name name) (is_some (actor_place before.actors name)) is) [
      | inl begins ↦ late (when begins)
      | inr (inl many) ↦ too_many (grind (arith, nat_tests))
      | inr (inr (inl wrong)) ↦ malformed (λ rule. let passes = name_passes name rule in cc)
      | inr (inr (inr there)) ↦ doubled (taken (actor_place before.actors name) there)
    ]

pub refused_is : (before : Script) (begun : Bool) (name : List ℕ) → (before.phases ≢ empty_phase ∷ [] → begun ≡ true) → IsRefused before name → is_refused before.actors begun name ≡ true
refused_is before begun name when (malformed wrong) = any_of begun (nat_le 256 (length before.actors)) (is_actor_name name) (is_some (actor_place before.actors name)) (inr (inr (inl (no_name name wrong))))
refused_is before begun name when (doubled some) = any_of begun (nat_le 256 (length before.actors)) (is_actor_name name) (is_some (actor_place before.actors name)) (inr (inr (inr (is_taken (actor_place before.actors name) some))))
refused_is before begun name when (late more) = any_of begun (nat_le 256 (length before.actors)) (is_actor_name name) (is_some (actor_place before.actors name)) (inl (when more))
refused_is before begun name when (too_many many) = any_of begun (nat_le 256 (length before.actors)) (is_actor_name name) (is_some (actor_place before.actors name)) (inr (inl (grind (arith, nat_tests))))

pub accepted : (actors : List ActorDecl) (begun : Bool) (name : List ℕ) → is_refused actors begun name ≡ false → (begun ≡ false) × (length actors < 256) × IsActorName name × (actor_place actors name ≡ None)
accepted actors begun name is =
    let each = none_of begun (nat_le 256 (length actors)) (is_actor_name name) (is_some (actor_place actors name)) is in
    let few : length actors < 256 = let h = each.1 in grind (arith, nat_tests) in
    (each.0, few, is_name name each.2, free (actor_place actors name) each.3)

all_false : (a b c d : Bool) → a ≡ false → b ≡ false → c ≡ true → d ≡ false → (a || b || not c || d) ≡ false
all_false a b c d ha hb hc hd = rw (ha, hb, hc, hd) refl

pub accepts : (actors : List ActorDecl) (begun : Bool) (name : List ℕ) → begun ≡ false → length actors < 256 → IsActorName name → actor_place actors name ≡ None → is_refused actors begun name ≡ false
accepts actors begun name early few rule none =
    all_false begun (nat_le 256 (length actors)) (is_actor_name name) (is_some (actor_place actors name)) early (grind (arith, nat_tests)) (name_passes name rule) (rw none refl)

-- ---- how a declaration is read

abbrev pub line_of : List (List ℕ) → Spoken
line_of behind = spoken (codes "actor" ∷ behind)

pub short_line : (actors : List ActorDecl) (begun : Bool) (name : List ℕ) (arguments : List (List ℕ)) → length arguments ≤ 2 → declaration actors begun (line_of (name ∷ arguments)) ≡ cond (is_refused actors begun name) (Err kinds.Actor) (declared (line_of (name ∷ arguments)))
short_line actors begun name [] few = refl
short_line actors begun name (a ∷ []) few = refl
short_line actors begun name (a ∷ b ∷ []) few = refl
short_line actors begun name (a ∷ b ∷ c ∷ more) few = absurd (omega arith)

long_count : (one many : Bool) (refused : Bool) (read : Result Meaning Kind) → one ≡ false → many ≡ true → cond one (Err kinds.Count) (cond refused (Err kinds.Actor) (cond many (Err kinds.Count) read)) ≡ cond refused (Err kinds.Actor) (Err kinds.Count)
long_count one many refused read is_one is_many = rw (is_one, is_many) refl

pub long_line : (actors : List ActorDecl) (begun : Bool) (name : List ℕ) (arguments : List (List ℕ)) → 2 < length arguments → declaration actors begun (line_of (name ∷ arguments)) ≡ cond (is_refused actors begun name) (Err kinds.Actor) (Err kinds.Count)
long_line actors begun name arguments many =
    let count : ℕ = suc (suc (length arguments)) in
    let not_one : (count == 1) ≡ false = grind (arith, nat_tests) in
    let past : nat_lt 4 count ≡ true = grind (arith, nat_tests) in
    long_count (count == 1) (nat_lt 4 count) (is_refused actors begun name) (declared (line_of (name ∷ arguments))) not_one past

abbrev pub host_and_cap : List Rule
host_and_cap = number 0 (2 ^ 32 - 1) ∷ number 1 4096 ∷ []

after_both : (r s : Result ℕ Kind) (f : ℕ → ℕ → Meaning) → fault_of (r >>= (λ x. s >>= (λ y. Ok (f x y)))) ≡ or_then (fault_of r) (or_then (fault_of s) None)
after_both (Ok x) (Ok y) f = refl
after_both (Ok x) (Err kind) f = refl
after_both (Err kind) s f = refl

after_host : (r : Result ℕ Kind) (f : ℕ → Meaning) → fault_of (r >>= (λ x. Ok (f x))) ≡ or_then (fault_of r) None
after_host (Ok x) f = refl
after_host (Err kind) f = refl

abbrev pub actor_of : ℕ → ℕ → List ℕ → Meaning
actor_of host cap name = meaning.Declares (record { host = host; cap = cap; name = name })

pub declared_fault : (name : List ℕ) (arguments : List (List ℕ)) → length arguments ≤ 2 → AllByRecursion (λ word. word ≢ []) arguments → fault_of (declared (line_of (name ∷ arguments))) ≡ first_broken host_and_cap arguments
declared_fault name [] few full = refl
declared_fault name (a ∷ []) few full =
    ap (λ (r : Result ℕ Kind). fault_of (r >>= (λ host. Ok (actor_of host 64 name)))) (number_there 0 0 (2 ^ 32 - 1) a full.0)
    ∙ after_host (number_within 0 (2 ^ 32 - 1) a) (λ host. actor_of host 64 name)
declared_fault name (a ∷ b ∷ []) few full =
    ap (λ (r : Result ℕ Kind). fault_of (r >>= (λ host. number_or 64 1 4096 b >>= (λ cap. Ok (actor_of host cap name))))) (number_there 0 0 (2 ^ 32 - 1) a full.0)
    ∙ ap (λ (s : Result ℕ Kind). fault_of (number_within 0 (2 ^ 32 - 1) a >>= (λ host. s >>= (λ cap. Ok (actor_of host cap name))))) (number_there 64 1 4096 b full.1.0)
    ∙ after_both (number_within 0 (2 ^ 32 - 1) a) (number_within 1 4096 b) (λ host cap. actor_of host cap name)
declared_fault name (a ∷ b ∷ c ∷ more) few full = absurd (omega arith)

host_read : (r : Result ℕ Kind) (f : ℕ → Meaning) (said : Meaning) → r >>= (λ x. Ok (f x)) ≡ Ok said → (x : ℕ) × (r ≡ Ok x) × (f x ≡ said)
host_read (Ok x) f said is = let same : f x ≡ said = cc in (x, refl, same)
host_read (Err kind) f said is = cc

both_read : (r s : Result ℕ Kind) (f : ℕ → ℕ → Meaning) (said : Meaning) → r >>= (λ x. s >>= (λ y. Ok (f x y))) ≡ Ok said → (x : ℕ) × (y : ℕ) × (r ≡ Ok x) × (s ≡ Ok y) × (f x y ≡ said)
both_read (Ok x) (Ok y) f said is = let same : f x y ≡ said = cc in (x, y, refl, refl, same)
both_read (Ok x) (Err kind) f said is = cc
both_read (Err kind) s f said is = cc

-- what is read of a declaration is so written
pub declared_so : (name : List ℕ) (arguments : List (List ℕ)) (said : Meaning) → length arguments ≤ 2 → AllByRecursion (λ word. word ≢ []) arguments → declared (line_of (name ∷ arguments)) ≡ Ok said
    → (actor : ActorDecl) × (meaning.Declares actor ≡ said) × (actor.name ≡ name) × (actor.host < 2 ^ 32) × (1 ≤ actor.cap) × (actor.cap ≤ 4096) × IsDeclaredBy (codes "actor" ∷ name ∷ arguments) actor
declared_so name [] said few full is = let same : actor_of 0 64 name ≡ said = cc in (record { host = 0; cap = 64; name = name }, same, refl, omega arith, omega arith, omega arith, inl (refl, refl, refl))
declared_so name (a ∷ []) said few full is =
    let as_read = sym (ap (λ (r : Result ℕ Kind). r >>= (λ host. Ok (actor_of host 64 name))) (number_there 0 0 (2 ^ 32 - 1) a full.0)) ∙ is in
    let read = host_read (number_within 0 (2 ^ 32 - 1) a) (λ host. actor_of host 64 name) said as_read in
    let host = number_found 0 (2 ^ 32 - 1) read.0 a read.1 in
    (record { host = read.0; cap = 64; name = name }, read.2, refl, omega (arith, host.2), omega arith, omega arith, inr (inl (ap (λ w. codes "actor" ∷ name ∷ w ∷ []) host.0, refl)))
declared_so name (a ∷ b ∷ []) said few full is =
    let as_read = sym (ap (λ (s : Result ℕ Kind). number_within 0 (2 ^ 32 - 1) a >>= (λ host. s >>= (λ cap. Ok (actor_of host cap name)))) (number_there 64 1 4096 b full.1.0))
    ∙ (sym (ap (λ (r : Result ℕ Kind). r >>= (λ host. number_or 64 1 4096 b >>= (λ cap. Ok (actor_of host cap name)))) (number_there 0 0 (2 ^ 32 - 1) a full.0)) ∙ is) in
    let read = both_read (number_within 0 (2 ^ 32 - 1) a) (number_within 1 4096 b) (λ host cap. actor_of host cap name) said as_read in
    let host = number_found 0 (2 ^ 32 - 1) read.0 a read.2 in
    let cap = number_found 1 4096 read.1 b read.3 in
    (record { host = read.0; cap = read.1; name = name }, read.4, refl, omega (arith, host.2), cap.1, cap.2, inr (inr (both (codes "actor") name host.0 cap.0)))
  where
    both : (w n : List ℕ) {a' b' c d : List ℕ} → a' ≡ c → b' ≡ d → w ∷ n ∷ a' ∷ b' ∷ [] ≡ w ∷ n ∷ c ∷ d ∷ []
    both w n ha hb = rw (ha, hb) refl
declared_so name (a ∷ b ∷ c ∷ more) said few full is = absurd (omega arith)

number_or_again : (other least most n : ℕ) → n < 2 ^ 64 → least ≤ n → n ≤ most → number_or other least most (decimal n) ≡ Ok n
number_or_again other least most n small low high =
    let some : decimal n ≢ [] = λ none. let long = decimal_nonempty n small in let short : length (decimal n) ≡ 0 = ap length none in omega arith in
    number_there other least most (decimal n) some ∙ number_again least most n small low high

-- and what is so written is read
pub declared_again : (actors : List ActorDecl) (begun : Bool) (words : List (List ℕ)) (actor : ActorDecl) → Declares words actor → begun ≡ false → length actors < 256 → actor_place actors actor.name ≡ None → declaration actors begun (spoken words) ≡ Ok (meaning.Declares actor)
declared_again actors begun words actor declares early few none =
    let may = accepts actors begun actor.name early few declares.rightly none in
    let host = number_or_again 0 0 (2 ^ 32 - 1) actor.host (let h = declares.on_host in omega arith) (omega arith) (let h = declares.on_host in omega arith) in
    let cap = number_or_again 64 1 4096 actor.cap (let h = declares.most in omega arith) declares.least declares.most in
    elim declares.spelled [
      | inl (is, host_is, cap_is) ↦ ap (λ ws. declaration actors begun (spoken ws)) is ∙ short_line actors begun actor.name [] (omega arith) ∙ rw (may, host_is, cap_is) refl
      | inr (inl (is, cap_is)) ↦ ap (λ ws. declaration actors begun (spoken ws)) is ∙ short_line actors begun actor.name (decimal actor.host ∷ []) (omega arith) ∙ rw (may, host, cap_is) refl
      | inr (inr is) ↦ ap (λ ws. declaration actors begun (spoken ws)) is ∙ short_line actors begun actor.name (decimal actor.host ∷ decimal actor.cap ∷ []) (omega arith) ∙ rw (may, host, cap) refl
    ]
