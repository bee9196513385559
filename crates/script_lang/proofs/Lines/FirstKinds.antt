-- Words that have a fault are refused, by that fault or by one that comes before it.
use Rattle.std.proofs.Common.{◌≡◌, ◌≢◌, ℕ, suc, ◌+◌, ◌-◌, ◌^◌, ◌<◌, ◌≤◌, ◌==◌, nat_le, Bool, true, false, cond, List, [], ◌∷◌, length, Option, Some, None, Result, Err, refl, sym, ap, subst, ◌∙◌, inl, inr, arith}
use Rattle.std.specs.Prelude.{codes, ◌⊎◌}
use Rattle.std.proofs.lemmas.Bool.Decides.{nat_tests}
use Rattle.std.proofs.lemmas.List.Elements.{All-contains, All-from_recursion}
use Rattle.script_lang.specs.declared.meaning.Meaning.{Meaning}
use Rattle.script_lang.specs.declared.script.Script.{Script}
use Rattle.script_lang.specs.declared.script.Statement.{Statement}
use Rattle.script_lang.specs.declared.script.Statement.TheVariants as statement
use Rattle.script_lang.specs.declared.trouble.Kind.{Kind}
use Rattle.script_lang.specs.declared.trouble.Kind.TheVariants as kinds
use Rattle.script_lang.specs.declared.verb.Verb.{Verb}
use Rattle.script_lang.specs.ActorNames.{IsKeyword, actor_place}
use Rattle.script_lang.specs.Forms.{Rule, Form}
use Rattle.script_lang.specs.Grammar.{read_length, asked}
use Rattle.script_lang.specs.Conditions.{HasNoActor, unknown, refused, undeclared, IsNoStatement, IsMiscounted, actor_words, phase_words, turn_words, lone_name, statement_words, HasArguments, of_actor, of_turn, of_statement, BreaksRule}
use Rattle.script_lang.specs.Kinds.{HasKind, order, IsFirst}
use Rattle.script_lang.specs.Lines.{is_refused, declared, declaration, within_reads, says_by, meaning_of}
use Rattle.script_lang.specs.Numbers.{number_within}
use Rattle.script_lang.specs.Reading.{◌>>=◌}
use Rattle.script_lang.specs.Spelling.{SpellsStatement}
use Rattle.script_lang.specs.Spoken.{spoken}
use Rattle.script_lang.specs.Verbs.{verb_of, has_words}
use Rattle.script_lang.proofs.Lines.DeclarationLemmas.{refused_is, line_of, short_line, long_line, host_and_cap, declared_fault}
use Rattle.script_lang.proofs.Lines.KindLemmas.{of_arguments, IsPlace, small_host_and_cap, turn_rules, small_turns, same_kind, fault_so}
use Rattle.script_lang.proofs.Lines.MeaningLemmas.{Full, of_other, two_up}
use Rattle.script_lang.proofs.Arguments.RuleLemmas.{fault_of, or_then, faulty, breach_is_first}
use Rattle.script_lang.proofs.Lines.StatementLemmas.{reading, first_fault, read_of}
use Rattle.script_lang.proofs.Lines.VerbLemmas.{word_of, rules_of, least_of, small_rules, form_of, form_verb, verb_known, verb_word, counted, wrong_count}

-- the reading has a fault: of this kind, or of one before it
abbrev pub Falls : Result Meaning Kind → Kind → Type 0
Falls read kind = (failed : Kind) × (read ≡ Err failed) × ((order failed < order kind) ⊎ (failed ≡ kind))

hits : (read : Result Meaning Kind) (kind : Kind) → read ≡ Err kind → Falls read kind
hits read kind is = (kind, is, inr refl)

early : (read : Result Meaning Kind) (failed kind : Kind) → read ≡ Err failed → order failed < order kind → Falls read kind
early read failed kind is before = (failed, is, inl before)

alone_first : (found : Option Kind) {kind : Kind} → or_then found None ≡ Some kind → found ≡ Some kind
alone_first (Some other) is = is
alone_first None is = cc

short_or_long : (n : ℕ) → (n ≤ 2) ⊎ (2 < n)
short_or_long n = by (nat_le n 2) refl
  where
    by : (b : Bool) → nat_le n 2 ≡ b → (n ≤ 2) ⊎ (2 < n)
    by true is = inl (grind (arith, nat_tests))
    by false is = inr (grind (arith, nat_tests))

fourth_or_later : (n : ℕ) → 4 ≤ n → (n ≡ 4) ⊎ (4 < n)
fourth_or_later n low = elim (short_or_long (n - 2)) [ inl few ↦ inl (omega arith) | inr more ↦ inr (omega arith) ]

module _ (before : Script) (begun : Bool) (reads : ℕ) (stands : IsPlace before begun reads) where
  abbrev read_of_words : List (List ℕ) → Result Meaning Kind
  read_of_words words = meaning_of before.actors begun reads (spoken words)

  -- ---- lines of actors

  not_there : (whose : List ℕ) (behind : List (List ℕ)) → (IsKeyword whose → ⊥) → actor_place before.actors whose ≡ None → read_of_words (whose ∷ behind) ≡ Err kinds.Actor
  not_there whose behind free none = of_other before.actors begun reads whose behind free ∙ rw none refl

  name_alone : (whose : List ℕ) (place : ℕ) → (IsKeyword whose → ⊥) → actor_place before.actors whose ≡ Some place → read_of_words (whose ∷ []) ≡ Err kinds.Count
  name_alone whose place free there = of_other before.actors begun reads whose [] free ∙ rw there refl

  with_word : (whose word : List ℕ) (arguments : List (List ℕ)) (place : ℕ) (found : Option Verb) → (IsKeyword whose → ⊥) → actor_place before.actors whose ≡ Some place → verb_of word ≡ found → read_of_words (whose ∷ word ∷ arguments) ≡ says_by place found reads (spoken (whose ∷ word ∷ arguments))
  with_word whose word arguments place found free there known = of_other before.actors begun reads whose (word ∷ arguments) free ∙ rw (there, two_up (length arguments), known) refl

  falls_word : (whose word : List ℕ) (arguments : List (List ℕ)) → (IsKeyword whose → ⊥) → IsNoStatement word → Falls (read_of_words (whose ∷ word ∷ arguments)) kinds.Word
  falls_word whose word arguments free none = by (actor_place before.actors whose) (verb_of word) refl refl
    where
      by : (found : Option ℕ) (known : Option Verb) → actor_place before.actors whose ≡ found → verb_of word ≡ known → Falls (read_of_words (whose ∷ word ∷ arguments)) kinds.Word
      by None known there word_is = early (read_of_words (whose ∷ word ∷ arguments)) kinds.Actor kinds.Word (not_there whose (word ∷ arguments) free there) (omega arith)
      by (Some place) None there word_is = hits (read_of_words (whose ∷ word ∷ arguments)) kinds.Word (with_word whose word arguments place None free there word_is)
      by (Some place) (Some v) there word_is = absurd (none (rules_of v) (least_of v) (rw (verb_word word v word_is) (form_of v)))

  falls_alone : (whose : List ℕ) → (IsKeyword whose → ⊥) → Falls (read_of_words (whose ∷ [])) kinds.Count
  falls_alone whose free = by (actor_place before.actors whose) refl
    where
      by : (found : Option ℕ) → actor_place before.actors whose ≡ found → Falls (read_of_words (whose ∷ [])) kinds.Count
      by None there = early (read_of_words (whose ∷ [])) kinds.Actor kinds.Count (not_there whose [] free there) (omega arith)
      by (Some place) there = hits (read_of_words (whose ∷ [])) kinds.Count (name_alone whose place free there)

  known_verb : (whose word : List ℕ) (arguments : List (List ℕ)) (place : ℕ) (v : Verb) (b : Bool) → (IsKeyword whose → ⊥) → actor_place before.actors whose ≡ Some place → word ≡ word_of v → has_words v (suc (suc (length arguments))) ≡ b
      → read_of_words (whose ∷ word ∷ arguments) ≡ cond b (reading v arguments >>= (λ made. within_reads place made (reads + read_length made))) (Err kinds.Count)
  known_verb whose word arguments place v b free there word_is counts = with_word whose word arguments place (Some v) free there (ap verb_of word_is ∙ verb_known v) ∙ rw counts refl

  falls_statement_count : (whose word : List ℕ) (arguments : List (List ℕ)) (rules : List Rule) (least : ℕ) → (IsKeyword whose → ⊥) → Form word rules least → (length arguments < least) ⊎ (length rules < length arguments) → Falls (read_of_words (whose ∷ word ∷ arguments)) kinds.Count
  falls_statement_count whose word arguments rules least free form wrong = by (actor_place before.actors whose) refl (form_verb word rules least form)
    where
      by : (found : Option ℕ) → actor_place before.actors whose ≡ found → (v : Verb) × (word ≡ word_of v) × (rules ≡ rules_of v) × (least ≡ least_of v) → Falls (read_of_words (whose ∷ word ∷ arguments)) kinds.Count
      by None there v = early (read_of_words (whose ∷ word ∷ arguments)) kinds.Actor kinds.Count (not_there whose (word ∷ arguments) free there) (omega arith)
      by (Some place) there (v, word_is, rules_are, least_is) =
          let too_many : (length arguments < least_of v) ⊎ (length (rules_of v) < length arguments) = rw (rules_are, least_is) at wrong in
          hits (read_of_words (whose ∷ word ∷ arguments)) kinds.Count (known_verb whose word arguments place v false free there word_is (wrong_count v (length arguments) too_many))

  falls_statement_breach : (whose word : List ℕ) (arguments : List (List ℕ)) (rules : List Rule) (least : ℕ) (kind : Kind) → (IsKeyword whose → ⊥) → Full arguments → Form word rules least → BreaksRule rules arguments kind → Falls (read_of_words (whose ∷ word ∷ arguments)) kind
  falls_statement_breach whose word arguments rules least kind free full form has = by (actor_place before.actors whose) refl (form_verb word rules least form)
    where
      fifth : order kind ≡ 5
      fifth = of_arguments rules arguments kind has

      taken : (place : ℕ) (v : Verb) → actor_place before.actors whose ≡ Some place → word ≡ word_of v → BreaksRule (rules_of v) arguments kind → (b : Bool) → has_words v (suc (suc (length arguments))) ≡ b → Falls (read_of_words (whose ∷ word ∷ arguments)) kind
      taken place v there word_is breaks_it false counts = early (read_of_words (whose ∷ word ∷ arguments)) kinds.Count kind (known_verb whose word arguments place v false free there word_is counts) (omega (arith, fifth))
      taken place v there word_is breaks_it true counts =
          let limits = counted v (length arguments) counts in
          let first = breach_is_first (rules_of v) arguments kind (small_rules v) breaks_it in
          let failed = faulty (reading v arguments) kind (first_fault v arguments limits.0 limits.1 full ∙ first) in
          hits (read_of_words (whose ∷ word ∷ arguments)) kind (known_verb whose word arguments place v true free there word_is counts ∙ ap (λ (r : Result Statement Kind). r >>= (λ made. within_reads place made (reads + read_length made))) failed)

      by : (found : Option ℕ) → actor_place before.actors whose ≡ found → (v : Verb) × (word ≡ word_of v) × (rules ≡ rules_of v) × (least ≡ least_of v) → Falls (read_of_words (whose ∷ word ∷ arguments)) kind
      by None there v = early (read_of_words (whose ∷ word ∷ arguments)) kinds.Actor kind (not_there whose (word ∷ arguments) free there) (omega (arith, fifth))
      by (Some place) there (v, word_is, rules_are, least_is) = taken place v there word_is (rw rules_are at has) (has_words v (suc (suc (length arguments)))) refl

  too_much : (place : ℕ) (made : Statement) (sum : ℕ) → 2 ^ 28 < sum → within_reads place made sum ≡ Err kinds.Reads
  too_much place made sum much = let past : nat_le sum (2 ^ 28) ≡ false = grind (arith, nat_tests) in rw past refl

  falls_reads : (whose : List ℕ) (behind : List (List ℕ)) (at len : ℕ) → (IsKeyword whose → ⊥) → SpellsStatement (statement.Read at len) behind → 2 ^ 28 < asked before.phases + len → Falls (read_of_words (whose ∷ behind)) kinds.Reads
  falls_reads whose behind at len free spelled much = by (actor_place before.actors whose) refl
    where
      by : (found : Option ℕ) → actor_place before.actors whose ≡ found → Falls (read_of_words (whose ∷ behind)) kinds.Reads
      by None there = early (read_of_words (whose ∷ behind)) kinds.Actor kinds.Reads (not_there whose behind free there) (omega arith)
      by (Some place) there =
          let read = read_of (statement.Read at len) behind spelled in
          let does = read.does in
          let counts = read.counts in
          let reads_so = read.reads_so in
          let sum = stands.sum in
          let more : 2 ^ 28 < reads + len = rw sum much in
          hits (read_of_words (whose ∷ behind)) kinds.Reads (ap (λ ws. read_of_words (whose ∷ ws)) read.split ∙ known_verb whose (word_of does) read.arguments place does true free there refl counts ∙ rw (reads_so, too_much place (statement.Read at len) (reads + len) more) refl)

  -- ---- lines of keywords

  falls_refused : (name : List ℕ) (arguments : List (List ℕ)) → is_refused before.actors begun name ≡ true → declaration before.actors begun (line_of (name ∷ arguments)) ≡ Err kinds.Actor
  falls_refused name arguments bad =
      elim (short_or_long (length arguments)) [
        | inl few ↦ short_line before.actors begun name arguments few ∙ rw bad refl
        | inr many ↦ long_line before.actors begun name arguments many ∙ rw bad refl
      ]

  falls_long : (name : List ℕ) (arguments : List (List ℕ)) (kind : Kind) → 2 < length arguments → 4 ≤ order kind → (order kind ≡ 4 → kind ≡ kinds.Count) → Falls (declaration before.actors begun (line_of (name ∷ arguments))) kind
  falls_long name arguments kind many late counts = by (is_refused before.actors begun name) refl
    where
      fourth : (order kind ≡ 4) ⊎ (4 < order kind) → declaration before.actors begun (line_of (name ∷ arguments)) ≡ Err kinds.Count → Falls (declaration before.actors begun (line_of (name ∷ arguments))) kind
      fourth (inl is) failed = (kinds.Count, failed, inr (sym (counts is)))
      fourth (inr past) failed = (kinds.Count, failed, inl past)

      by : (b : Bool) → is_refused before.actors begun name ≡ b → Falls (declaration before.actors begun (line_of (name ∷ arguments))) kind
      by true bad = early (declaration before.actors begun (line_of (name ∷ arguments))) kinds.Actor kind (falls_refused name arguments bad) (omega arith)
      by false fine = fourth (fourth_or_later (order kind) late) (long_line before.actors begun name arguments many ∙ rw fine refl)

  falls_actor_count : (behind : List (List ℕ)) → (length behind < 1) ⊎ (3 < length behind) → Falls (read_of_words (codes "actor" ∷ behind)) kinds.Count
  falls_actor_count [] wrong = hits (read_of_words (codes "actor" ∷ [])) kinds.Count refl
  falls_actor_count (name ∷ arguments) (inl few) = absurd (omega arith)
  falls_actor_count (name ∷ arguments) (inr many) = falls_long name arguments kinds.Count (omega arith) (omega arith) (λ is. refl)

  falls_actor_breach : (name : List ℕ) (arguments : List (List ℕ)) (kind : Kind) → Full arguments → BreaksRule host_and_cap arguments kind → Falls (read_of_words (codes "actor" ∷ name ∷ arguments)) kind
  falls_actor_breach name arguments kind full has =
      elim (short_or_long (length arguments)) [
        | inl few ↦ by few (is_refused before.actors begun name) refl
        | inr many ↦ falls_long name arguments kind many (omega (arith, fifth)) (λ is. let n : ℕ = order kind in let h : n ≡ 5 = fifth in let g : n ≡ 4 = is in absurd (omega arith))
      ]
    where
      fifth : order kind ≡ 5
      fifth = of_arguments host_and_cap arguments kind has

      by : length arguments ≤ 2 → (b : Bool) → is_refused before.actors begun name ≡ b → Falls (read_of_words (codes "actor" ∷ name ∷ arguments)) kind
      by few true bad = early (read_of_words (codes "actor" ∷ name ∷ arguments)) kinds.Actor kind (falls_refused name arguments bad) (omega (arith, fifth))
      by few false fine =
          let first = breach_is_first host_and_cap arguments kind small_host_and_cap has in
          let failed = faulty (declared (line_of (name ∷ arguments))) kind (declared_fault name arguments few full ∙ first) in
          hits (read_of_words (codes "actor" ∷ name ∷ arguments)) kind (short_line before.actors begun name arguments few ∙ rw fine failed)

  falls_phase_count : (behind : List (List ℕ)) → length behind ≢ 0 → Falls (read_of_words (codes "phase" ∷ behind)) kinds.Count
  falls_phase_count [] some = absurd (some refl)
  falls_phase_count (word ∷ behind) some = hits (read_of_words (codes "phase" ∷ word ∷ behind)) kinds.Count (rw (two_up (length behind)) refl)

  not_declared : (whose : List ℕ) (arguments : List (List ℕ)) → actor_place before.actors whose ≡ None → read_of_words (codes "turn" ∷ whose ∷ arguments) ≡ Err kinds.Actor
  not_declared whose arguments none = rw (two_up (length arguments), none) refl

  many_turns : (whose word more : List ℕ) (others : List (List ℕ)) (place : ℕ) → actor_place before.actors whose ≡ Some place → read_of_words (codes "turn" ∷ whose ∷ word ∷ more ∷ others) ≡ Err kinds.Count
  many_turns whose word more others place there =
      let four : ℕ = suc (suc (suc (suc (length others)))) in
      let past : 3 < four = omega arith in
      let not_three : (suc (suc (suc (suc (length others)))) == 3) ≡ false = grind (arith, nat_tests) in
      rw (two_up (suc (suc (length others))), there, not_three) refl

  falls_turn_count : (behind : List (List ℕ)) → length behind ≢ 2 → Falls (read_of_words (codes "turn" ∷ behind)) kinds.Count
  falls_turn_count [] wrong = hits (read_of_words (codes "turn" ∷ [])) kinds.Count refl
  falls_turn_count (whose ∷ arguments) wrong = by (actor_place before.actors whose) arguments refl wrong
    where
      by : (found : Option ℕ) (args : List (List ℕ)) → actor_place before.actors whose ≡ found → suc (length args) ≢ 2 → Falls (read_of_words (codes "turn" ∷ whose ∷ args)) kinds.Count
      by None args there bad = early (read_of_words (codes "turn" ∷ whose ∷ args)) kinds.Actor kinds.Count (not_declared whose args there) (omega arith)
      by (Some place) [] there bad = hits (read_of_words (codes "turn" ∷ whose ∷ [])) kinds.Count (rw there refl)
      by (Some place) (word ∷ []) there bad = absurd (bad refl)
      by (Some place) (word ∷ more ∷ others) there bad = hits (read_of_words (codes "turn" ∷ whose ∷ word ∷ more ∷ others)) kinds.Count (many_turns whose word more others place there)

  falls_turn_breach : (whose : List ℕ) (arguments : List (List ℕ)) (kind : Kind) → BreaksRule turn_rules arguments kind → Falls (read_of_words (codes "turn" ∷ whose ∷ arguments)) kind
  falls_turn_breach whose arguments kind has = by (actor_place before.actors whose) arguments refl has
    where
      fifth : order kind ≡ 5
      fifth = of_arguments turn_rules arguments kind has

      by : (found : Option ℕ) (args : List (List ℕ)) → actor_place before.actors whose ≡ found → BreaksRule turn_rules args kind → Falls (read_of_words (codes "turn" ∷ whose ∷ args)) kind
      by None args there bad = early (read_of_words (codes "turn" ∷ whose ∷ args)) kinds.Actor kind (not_declared whose args there) (omega (arith, fifth))
      by (Some place) [] there bad = absurd bad
      by (Some place) (word ∷ []) there bad =
          let first = breach_is_first turn_rules (word ∷ []) kind small_turns bad in
          let failed = faulty (number_within 1 (2 ^ 32 - 1) word) kind (alone_first (fault_of (number_within 1 (2 ^ 32 - 1) word)) first) in
          hits (read_of_words (codes "turn" ∷ whose ∷ word ∷ [])) kind (rw (there, failed) refl)
      by (Some place) (word ∷ more ∷ others) there bad = early (read_of_words (codes "turn" ∷ whose ∷ word ∷ more ∷ others)) kinds.Count kind (many_turns whose word more others place there) (omega (arith, fifth))

  -- ---- all kinds

  no_actor : (words : List (List ℕ)) → HasNoActor before words → Falls (read_of_words words) kinds.Actor
  no_actor words (unknown whose behind is free none) = hits (read_of_words words) kinds.Actor (ap read_of_words is ∙ not_there whose behind free none)
  no_actor words (refused name behind is bad) = hits (read_of_words words) kinds.Actor (ap read_of_words is ∙ falls_refused name behind (refused_is before begun name stands.begins bad))
  no_actor words (undeclared whose behind is none) = hits (read_of_words words) kinds.Actor (ap read_of_words is ∙ not_declared whose behind none)

  moved : (words others : List (List ℕ)) (kind : Kind) → words ≡ others → Falls (read_of_words others) kind → Falls (read_of_words words) kind
  moved words others kind is falls = rw is falls

  miscount : (words : List (List ℕ)) → IsMiscounted words → Falls (read_of_words words) kinds.Count
  miscount words (actor_words behind is wrong) = moved words (codes "actor" ∷ behind) kinds.Count is (falls_actor_count behind wrong)
  miscount words (phase_words behind is wrong) = moved words (codes "phase" ∷ behind) kinds.Count is (falls_phase_count behind wrong)
  miscount words (turn_words behind is wrong) = moved words (codes "turn" ∷ behind) kinds.Count is (falls_turn_count behind wrong)
  miscount words (lone_name whose is free) = moved words (whose ∷ []) kinds.Count is (falls_alone whose free)
  miscount words (statement_words word arguments rules least line form wrong) = moved words (line.whose ∷ word ∷ arguments) kinds.Count line.split (falls_statement_count line.whose word arguments rules least line.free form wrong)

  full_behind : (words : List (List ℕ)) (a b : List ℕ) (arguments : List (List ℕ)) → Full words → words ≡ a ∷ b ∷ arguments → Full arguments
  full_behind words a b arguments full is = let all = subst (λ (ws : List (List ℕ)). Full ws) is full in all.1.1

  of_breach : (words arguments : List (List ℕ)) (rules : List Rule) (kind : Kind) → Full words → HasArguments words arguments rules → BreaksRule rules arguments kind → Falls (read_of_words words) kind
  of_breach words arguments rules kind full (of_actor name is rules_are) has = moved words (codes "actor" ∷ name ∷ arguments) kind is (falls_actor_breach name arguments kind (full_behind words (codes "actor") name arguments full is) (rw rules_are at has))
  of_breach words arguments rules kind full (of_turn whose is rules_are) has = moved words (codes "turn" ∷ whose ∷ arguments) kind is (falls_turn_breach whose arguments kind (rw rules_are at has))
  of_breach words arguments rules kind full (of_statement word least line form) has =
      moved words (line.whose ∷ word ∷ arguments) kind line.split (falls_statement_breach line.whose word arguments rules least kind line.free (full_behind words line.whose word arguments full line.split) form has)

  pub falls : (words : List (List ℕ)) (kind : Kind) → Full words → HasKind before words kind → Falls (read_of_words words) kind
  falls words kinds.Spaces full has = absurd (All-contains (λ word. word ≢ []) words [] (All-from_recursion (λ word. word ≢ []) words full) has refl)
  falls words kinds.Actor full has = no_actor words has
  falls words kinds.Word full (word, arguments, line, none) = moved words (line.whose ∷ word ∷ arguments) kinds.Word line.split (falls_word line.whose word arguments line.free none)
  falls words kinds.Count full has = miscount words has
  falls words kinds.Number full (arguments, rules, are, has) = of_breach words arguments rules kinds.Number full are has
  falls words kinds.Name full (arguments, rules, are, has) = of_breach words arguments rules kinds.Name full are has
  falls words kinds.Data full (arguments, rules, are, has) = of_breach words arguments rules kinds.Data full are has
  falls words kinds.Reads full has = moved words (has.whose ∷ has.behind) kinds.Reads has.split (falls_reads has.whose has.behind has.at has.len has.free has.spelled has.much)
  falls words kinds.Long full has = absurd has

  -- ---- the first kind

  -- the fault that is found is the first
  pub first_found : (whose : List ℕ) (behind : List (List ℕ)) (kind : Kind) → Full (whose ∷ behind) → read_of_words (whose ∷ behind) ≡ Err kind → IsFirst before (whose ∷ behind) kind
  first_found whose behind kind full is = record {
    has = fault_so before begun reads stands whose behind kind full.1 is;
    first = λ other earlier has. none_before other earlier (falls (whose ∷ behind) other full has);
  }
    where
      none_before : (other : Kind) → order other < order kind → Falls (read_of_words (whose ∷ behind)) other → ⊥
      none_before other earlier (failed, failed_is, place) =
          let same : failed ≡ kind = same_kind failed kind (sym failed_is ∙ is) in
          let one : order failed ≡ order kind = ap order same in
          elim place [ inl less ↦ omega arith | inr equal ↦ let two : order failed ≡ order other = ap order equal in omega arith ]

  -- and the first fault is found
  pub first_is_found : (whose : List ℕ) (behind : List (List ℕ)) (kind : Kind) → Full (whose ∷ behind) → IsFirst before (whose ∷ behind) kind → read_of_words (whose ∷ behind) ≡ Err kind
  first_is_found whose behind kind full first = by (falls (whose ∷ behind) kind full first.has)
    where
      by : Falls (read_of_words (whose ∷ behind)) kind → read_of_words (whose ∷ behind) ≡ Err kind
      by (failed, is, inl less) = absurd (first.first failed less (fault_so before begun reads stands whose behind failed full.1 is))
      by (failed, is, inr same) = is ∙ ap (λ k. Err k) same
