-- The first of the faults of a line's words.
use Rattle.std.proofs.Common.{◌≡◌, ◌≢◌, ℕ, suc, ◌+◌, ◌-◌, ◌^◌, ◌<◌, ◌≤◌, ◌==◌, nat_le, Bool, true, false, cond, List, [], ◌∷◌, length, Option, Some, None, Result, Ok, Err, refl, sym, ap, ◌∙◌, inl, inr, arith}
use Rattle.std.specs.Prelude.{codes, ◌⊎◌}
use Rattle.std.specs.List.{AllByRecursion}
use Rattle.std.proofs.lemmas.Bool.Decides.{nat_tests}
use Rattle.script_lang.specs.declared.meaning.Meaning.{Meaning}
use Rattle.script_lang.specs.declared.meaning.Meaning.TheVariants as meaning
use Rattle.script_lang.specs.declared.script.Script.{Script}
use Rattle.script_lang.specs.declared.script.Statement.{Statement}
use Rattle.script_lang.specs.declared.script.Statement.TheVariants as statement
use Rattle.script_lang.specs.declared.trouble.Kind.{Kind}
use Rattle.script_lang.specs.declared.trouble.Kind.TheVariants as kinds
use Rattle.script_lang.specs.declared.verb.Verb.{Verb}
use Rattle.script_lang.specs.ActorNames.{IsKeyword, actor_place}
use Rattle.script_lang.specs.Forms.{Rule, number, file, content, Form}
use Rattle.script_lang.specs.Grammar.{read_length, asked}
use Rattle.script_lang.specs.Phases.{empty_phase}
use Rattle.script_lang.specs.Conditions.{unknown, refused, undeclared, actor_words, phase_words, turn_words, lone_name, statement_words, of_actor, of_turn, of_statement, BreaksRule, HasBreach, AsksTooMuch}
use Rattle.script_lang.specs.Kinds.{HasKind, order}
use Rattle.script_lang.specs.Lines.{is_refused, declared, declaration, beginning, turns_at, turning, within_reads, says_by, says_at, meaning_of}
use Rattle.script_lang.specs.Numbers.{number_within}
use Rattle.script_lang.specs.Reading.{◌>>=◌}
use Rattle.script_lang.specs.Spelling.{SpellsStatement}
use Rattle.script_lang.specs.Spoken.{spoken}
use Rattle.script_lang.specs.Verbs.{verb_of, has_words}
use Rattle.script_lang.proofs.Lines.DeclarationLemmas.{refused_so, line_of, short_line, long_line, host_and_cap, declared_fault}
use Rattle.script_lang.proofs.Lines.MeaningLemmas.{Full, is_actor, is_phase, is_turn, is_other, first_is, of_other, two_up}
use Rattle.script_lang.proofs.Arguments.RuleLemmas.{fault_of, first_broken, IsSmall, breaks}
use Rattle.script_lang.proofs.Lines.StatementLemmas.{reading, first_fault, spells}
use Rattle.script_lang.proofs.Lines.VerbLemmas.{rules_of, least_of, small_rules, form_of, verb_word, no_verb, counted, miscounted}

-- ---- the kinds of arguments

pub three_kinds : (rules : List Rule) (words : List (List ℕ)) (kind : Kind) → BreaksRule rules words kind → (kind ≡ kinds.Number) ⊎ (kind ≡ kinds.Name) ⊎ (kind ≡ kinds.Data)
three_kinds [] words kind is = absurd is
three_kinds (rule ∷ rules) [] kind is = absurd is
three_kinds (number least most ∷ rules) (word ∷ words) kind (inl (lost, is)) = inl is
three_kinds (file ∷ rules) (word ∷ words) kind (inl (lost, is)) = inr (inl is)
three_kinds (content ∷ rules) (word ∷ words) kind (inl (lost, is)) = inr (inr is)
three_kinds (rule ∷ rules) (word ∷ words) kind (inr (keeps, later)) = three_kinds rules words kind later

breach : (before : Script) (words : List (List ℕ)) (kind : Kind) → HasBreach words kind → HasKind before words kind
breach before words kind has =
    elim (three_kinds has.1 has.0 kind has.3) [
      | inl is ↦ rw is (rw is at has)
      | inr (inl is) ↦ rw is (rw is at has)
      | inr (inr is) ↦ rw is (rw is at has)
    ]

pub of_arguments : (rules : List Rule) (words : List (List ℕ)) (kind : Kind) → BreaksRule rules words kind → order kind ≡ 5
of_arguments rules words kind has =
    elim (three_kinds rules words kind has) [
      | inl is ↦ ap order is
      | inr (inl is) ↦ ap order is
      | inr (inr is) ↦ ap order is
    ]

-- ---- the place of a line

-- what the lines before a line have: whether one was no declaration, and how many bytes they ask for
pub record IsPlace (before : Script) (begun : Bool) (reads : ℕ) : Type 0 where
  pub late : begun ≡ true → before.phases ≢ empty_phase ∷ []
  pub begins : before.phases ≢ empty_phase ∷ [] → begun ≡ true
  pub sum : reads ≡ asked before.phases
  pub few : reads ≤ 2 ^ 28

pub small_host_and_cap : AllByRecursion IsSmall host_and_cap
small_host_and_cap = (omega arith, (omega arith, tt))

abbrev pub turn_rules : List Rule
turn_rules = number 1 (2 ^ 32 - 1) ∷ []

pub small_turns : AllByRecursion IsSmall turn_rules
small_turns = (omega arith, tt)

pub same_kind : {A : Type 0} (a b : Kind) → ◌≡◌ {A = Result A Kind} (Err a) (Err b) → a ≡ b
same_kind a b is = cc

number_failed : (r : Result ℕ Kind) (f : ℕ → Meaning) (kind : Kind) → r >>= (λ count. Ok (f count)) ≡ Err kind → r ≡ Err kind
number_failed (Ok count) f kind is = cc
number_failed (Err other) f kind is = ap (λ k. Err k) (same_kind other kind is)

is_read : (made : Statement) → 0 < read_length made → (at : ℕ) × (len : ℕ) × (made ≡ statement.Read at len)
is_read (statement.Read at len) some = (at, len, refl)
is_read other some = absurd (omega arith)

within_failed : (place : ℕ) (made : Statement) (sum : ℕ) (kind : Kind) (b : Bool) → nat_le sum (2 ^ 28) ≡ b → cond b (Ok (meaning.Says place made sum)) (Err kinds.Reads) ≡ Err kind → (kinds.Reads ≡ kind) × (2 ^ 28 < sum)
within_failed place made sum kind true fits is = cc
within_failed place made sum kind false fits is = (same_kind kinds.Reads kind is, grind (arith, nat_tests))

-- why a statement is not taken
statement_failed : (place reads : ℕ) (r : Result Statement Kind) (kind : Kind) → r >>= (λ made. within_reads place made (reads + read_length made)) ≡ Err kind → (r ≡ Err kind) ⊎ ((made : Statement) × (r ≡ Ok made) × (kinds.Reads ≡ kind) × (2 ^ 28 < reads + read_length made))
statement_failed place reads (Ok made) kind is = let failed = within_failed place made (reads + read_length made) kind (nat_le (reads + read_length made) (2 ^ 28)) refl is in inr (made, refl, failed.0, failed.1)
statement_failed place reads (Err other) kind is = inl (ap (λ k. Err k) (same_kind other kind is))

module _ (before : Script) (begun : Bool) (reads : ℕ) (stands : IsPlace before begun reads) where
  actor_short : (name : List ℕ) (arguments : List (List ℕ)) (kind : Kind) → length arguments ≤ 2 → Full arguments → declaration before.actors begun (line_of (name ∷ arguments)) ≡ Err kind → HasKind before (codes "actor" ∷ name ∷ arguments) kind
  actor_short name arguments kind few full is = by (is_refused before.actors begun name) refl (sym (short_line before.actors begun name arguments few) ∙ is)
    where
      by : (b : Bool) → is_refused before.actors begun name ≡ b → cond b (Err kinds.Actor) (declared (line_of (name ∷ arguments))) ≡ Err kind → HasKind before (codes "actor" ∷ name ∷ arguments) kind
      by true bad read = let same = same_kind kinds.Actor kind read in rw (← same) (refused name arguments refl (refused_so before begun name stands.late bad))
      by false fine read =
          let first = sym (declared_fault name arguments few full) ∙ ap fault_of read in
          breach before (codes "actor" ∷ name ∷ arguments) kind (arguments, host_and_cap, of_actor name refl refl, breaks host_and_cap arguments kind small_host_and_cap first)

  actor_long : (name a b c : List ℕ) (more : List (List ℕ)) (kind : Kind) → declaration before.actors begun (line_of (name ∷ a ∷ b ∷ c ∷ more)) ≡ Err kind → HasKind before (codes "actor" ∷ name ∷ a ∷ b ∷ c ∷ more) kind
  actor_long name a b c more kind is = by (is_refused before.actors begun name) refl (sym (long_line before.actors begun name (a ∷ b ∷ c ∷ more) (omega arith)) ∙ is)
    where
      by : (bad : Bool) → is_refused before.actors begun name ≡ bad → ◌≡◌ {A = Result Meaning Kind} (cond bad (Err kinds.Actor) (Err kinds.Count)) (Err kind) → HasKind before (codes "actor" ∷ name ∷ a ∷ b ∷ c ∷ more) kind
      by true bad read = let same = same_kind kinds.Actor kind read in rw (← same) (refused name (a ∷ b ∷ c ∷ more) refl (refused_so before begun name stands.late bad))
      by false fine read = let same = same_kind kinds.Count kind read in rw (← same) (actor_words (name ∷ a ∷ b ∷ c ∷ more) refl (inr (omega arith)))

  actor_fault : (behind : List (List ℕ)) (kind : Kind) → Full behind → declaration before.actors begun (line_of behind) ≡ Err kind → HasKind before (codes "actor" ∷ behind) kind
  actor_fault [] kind full is = let same = same_kind kinds.Count kind is in rw (← same) (actor_words [] refl (inl (omega arith)))
  actor_fault (name ∷ []) kind full is = actor_short name [] kind (omega arith) full.1 is
  actor_fault (name ∷ a ∷ []) kind full is = actor_short name (a ∷ []) kind (omega arith) full.1 is
  actor_fault (name ∷ a ∷ b ∷ []) kind full is = actor_short name (a ∷ b ∷ []) kind (omega arith) full.1 is
  actor_fault (name ∷ a ∷ b ∷ c ∷ more) kind full is = actor_long name a b c more kind is

  phase_fault : (behind : List (List ℕ)) (kind : Kind) → beginning (spoken (codes "phase" ∷ behind)) ≡ Err kind → HasKind before (codes "phase" ∷ behind) kind
  phase_fault [] kind is = cc
  phase_fault (word ∷ behind) kind is =
      let same = by (suc (suc (length behind)) == 1) (two_up (length behind)) is in
      rw (← same) (phase_words (word ∷ behind) refl (λ none. let n : ℕ = suc (length behind) in let h : n ≡ 0 = none in omega arith))
    where
      by : (b : Bool) → b ≡ false → cond b (Ok meaning.Begins) (Err kinds.Count) ≡ Err kind → kinds.Count ≡ kind
      by true other failed = cc
      by false other failed = same_kind kinds.Count kind failed

  turn_at : (whose : List ℕ) (found : Option ℕ) (arguments : List (List ℕ)) (kind : Kind) → actor_place before.actors whose ≡ found → turns_at found (spoken (codes "turn" ∷ whose ∷ arguments)) ≡ Err kind → HasKind before (codes "turn" ∷ whose ∷ arguments) kind
  turn_at whose None arguments kind there is = let same = same_kind kinds.Actor kind is in rw (← same) (undeclared whose arguments refl there)
  turn_at whose (Some place) [] kind there is = let same = same_kind kinds.Count kind is in rw (← same) (turn_words (whose ∷ []) refl (λ e. let n : ℕ = 1 in let h : n ≡ 2 = e in omega arith))
  turn_at whose (Some place) (word ∷ []) kind there is =
      let failed = number_failed (number_within 1 (2 ^ 32 - 1) word) (λ count. meaning.Turns (record { actor = place; count = count })) kind is in
      let first : first_broken turn_rules (word ∷ []) ≡ Some kind = rw failed refl in
      breach before (codes "turn" ∷ whose ∷ word ∷ []) kind (word ∷ [], turn_rules, of_turn whose refl refl, breaks turn_rules (word ∷ []) kind small_turns first)
  turn_at whose (Some place) (word ∷ more ∷ others) kind there is =
      let n : ℕ = suc (suc (suc (length others))) in
      let past : 2 < n = omega arith in
      let same = by (suc n == 3) _ (let m : ℕ = suc n in let four : 3 < m = omega arith in grind (arith, nat_tests)) is in
      rw (← same) (turn_words (whose ∷ word ∷ more ∷ others) refl (λ e. let h : n ≡ 2 = e in omega arith))
    where
      by : (b : Bool) (r : Result Meaning Kind) → b ≡ false → cond b r (Err kinds.Count) ≡ Err kind → kinds.Count ≡ kind
      by true r other failed = cc
      by false r other failed = same_kind kinds.Count kind failed

  turn_fault : (behind : List (List ℕ)) (kind : Kind) → turning before.actors (spoken (codes "turn" ∷ behind)) ≡ Err kind → HasKind before (codes "turn" ∷ behind) kind
  turn_fault [] kind is = let same = same_kind kinds.Count kind is in rw (← same) (turn_words [] refl (λ e. let n : ℕ = 0 in let h : n ≡ 2 = e in omega arith))
  turn_fault (whose ∷ arguments) kind is = turn_at whose (actor_place before.actors whose) arguments kind refl (by (suc (suc (length arguments)) == 1) (two_up (length arguments)) is)
    where
      by : (b : Bool) → b ≡ false → cond b (Err kinds.Count) (turns_at (actor_place before.actors whose) (spoken (codes "turn" ∷ whose ∷ arguments))) ≡ Err kind → turns_at (actor_place before.actors whose) (spoken (codes "turn" ∷ whose ∷ arguments)) ≡ Err kind
      by true other read = cc
      by false other read = read

  verb_fault : (whose word : List ℕ) (arguments : List (List ℕ)) (place : ℕ) (found : Option Verb) (kind : Kind) → (IsKeyword whose → ⊥) → Full arguments → verb_of word ≡ found → says_by place found reads (spoken (whose ∷ word ∷ arguments)) ≡ Err kind → HasKind before (whose ∷ word ∷ arguments) kind
  verb_fault whose word arguments place None kind free full known is =
      let same = same_kind kinds.Word kind is in
      rw (← same) (word, arguments, record { whose = whose; free = free; split = refl }, no_verb word known)
  verb_fault whose word arguments place (Some v) kind free full known is = by (has_words v (suc (suc (length arguments)))) refl is
    where
      form : Form word (rules_of v) (least_of v)
      form = rw (verb_word word v known) (form_of v)

      asks_more : (made : Statement) → reading v arguments ≡ Ok made → SpellsStatement made (word ∷ arguments) → 2 ^ 28 < reads + read_length made → AsksTooMuch before (whose ∷ word ∷ arguments)
      asks_more made read spelled much =
          let some : 0 < read_length made = let h = stands.few in omega arith in
          let is = is_read made some in
          let more : 2 ^ 28 < reads + is.1 = rw (is.2) at much in
          let sum = stands.sum in
          record { whose = whose; behind = word ∷ arguments; free = free; at = is.0; len = is.1; split = refl; spelled = rw is.2 at spelled; much = rw (← sum) more }

      by : (b : Bool) → has_words v (suc (suc (length arguments))) ≡ b → cond b (reading v arguments >>= (λ made. within_reads place made (reads + read_length made))) (Err kinds.Count) ≡ Err kind → HasKind before (whose ∷ word ∷ arguments) kind
      by false counts read = let same = same_kind kinds.Count kind read in rw (← same) (statement_words word arguments (rules_of v) (least_of v) (record { whose = whose; free = free; split = refl }) form (miscounted v (length arguments) counts))
      by true counts read =
          let limits = counted v (length arguments) counts in
          elim (statement_failed place reads (reading v arguments) kind read) [
            | inl failed ↦
                let first = sym (first_fault v arguments limits.0 limits.1 full) ∙ ap fault_of failed in
                breach before (whose ∷ word ∷ arguments) kind (arguments, rules_of v, of_statement word (least_of v) (record { whose = whose; free = free; split = refl }) form, breaks (rules_of v) arguments kind (small_rules v) first)
            | inr (made, made_is, same, much) ↦
                let spelled = spells v arguments made limits.0 limits.1 full made_is in
                rw (← same) (asks_more made made_is (rw (verb_word word v known) spelled) much)
          ]

  other_at : (whose : List ℕ) (found : Option ℕ) (behind : List (List ℕ)) (kind : Kind) → (IsKeyword whose → ⊥) → Full behind → actor_place before.actors whose ≡ found → says_at found reads (spoken (whose ∷ behind)) ≡ Err kind → HasKind before (whose ∷ behind) kind
  other_at whose None behind kind free full there is = let same = same_kind kinds.Actor kind is in rw (← same) (unknown whose behind refl free there)
  other_at whose (Some place) [] kind free full there is = let same = same_kind kinds.Count kind is in rw (← same) (lone_name whose refl free)
  other_at whose (Some place) (word ∷ arguments) kind free full there is = verb_fault whose word arguments place (verb_of word) kind free full.1 refl (by (suc (suc (length arguments)) == 1) (two_up (length arguments)) is)
    where
      by : (b : Bool) → b ≡ false → cond b (Err kinds.Count) (says_by place (verb_of word) reads (spoken (whose ∷ word ∷ arguments))) ≡ Err kind → says_by place (verb_of word) reads (spoken (whose ∷ word ∷ arguments)) ≡ Err kind
      by true other read = cc
      by false other read = read

  -- a fault that is found is there
  pub fault_so : (whose : List ℕ) (behind : List (List ℕ)) (kind : Kind) → Full behind → meaning_of before.actors begun reads (spoken (whose ∷ behind)) ≡ Err kind → HasKind before (whose ∷ behind) kind
  fault_so whose behind kind full is =
      elim (first_is whose) [
        | is_actor same ↦ rw same (actor_fault behind kind full (rw same at is))
        | is_phase same ↦ rw same (phase_fault behind kind (rw same at is))
        | is_turn same ↦ rw same (turn_fault behind kind (rw same at is))
        | is_other free ↦ other_at whose (actor_place before.actors whose) behind kind free full refl (sym (of_other before.actors begun reads whose behind free) ∙ is)
      ]
