-- What the words of a line say, and the first of their faults.
use Rattle.std.proofs.Common.{◌≡◌, ◌≢◌, ℕ, suc, ◌+◌, ◌-◌, ◌^◌, ◌<◌, ◌≤◌, ◌==◌, nat_le, Bool, true, false, cond, List, [], ◌∷◌, length, Option, Some, None, Result, Ok, Err, refl, sym, ap, ◌∙◌, inl, inr, arith}
use Rattle.std.specs.Prelude.{codes}
use Rattle.std.specs.Fmt.{decimal}
use Rattle.std.specs.List.{AllByRecursion}
use Rattle.std.proofs.lemmas.Bool.Decides.{nat_tests}
use Rattle.script_lang.specs.declared.meaning.Meaning.{Meaning}
use Rattle.script_lang.specs.declared.meaning.Meaning.TheVariants as meaning
use Rattle.script_lang.specs.declared.script.ActorDecl.{ActorDecl}
use Rattle.script_lang.specs.declared.script.Statement.{Statement}
use Rattle.script_lang.specs.declared.trouble.Kind.{Kind}
use Rattle.script_lang.specs.declared.trouble.Kind.TheVariants as kinds
use Rattle.script_lang.specs.declared.verb.Verb.{Verb}
use Rattle.script_lang.specs.ActorNames.{IsKeyword, is_word, actor_place}
use Rattle.script_lang.specs.Declarations.{Declares}
use Rattle.script_lang.specs.Grammar.{read_length}
use Rattle.script_lang.specs.Phases.{Turns, States}
use Rattle.script_lang.specs.Lines.{is_refused, declared, declaration, beginning, turns_at, turning, within_reads, says_by, says_at, saying, meaning_of}
use Rattle.script_lang.specs.Numbers.{number_within}
use Rattle.script_lang.specs.Reading.{◌>>=◌}
use Rattle.script_lang.specs.Spoken.{spoken}
use Rattle.script_lang.specs.Verbs.{verb_of, has_words}
use Rattle.script_lang.proofs.Lines.DeclarationLemmas.{accepted, line_of, short_line, long_line, declared_so, declared_again}
use Rattle.script_lang.proofs.Arguments.NumberLemmas.{number_found, number_again}
use Rattle.script_lang.proofs.Lines.StatementLemmas.{reading, spells, read_of}
use Rattle.script_lang.proofs.Lines.VerbLemmas.{word_of, verb_known, verb_word, counted}
use Rattle.script_lang.proofs.Lines.WordTests.{same_word, other_word, word_differs}

-- ---- the kinds of lines

-- a first word, by its kind
pub data First (whose : List ℕ) : Type 0 where
  is_actor : whose ≡ codes "actor" → First whose
  is_phase : whose ≡ codes "phase" → First whose
  is_turn : whose ≡ codes "turn" → First whose
  is_other : (IsKeyword whose → ⊥) → First whose

pub first_is : (whose : List ℕ) → First whose
first_is whose = by (is_word whose (codes "actor")) (is_word whose (codes "phase")) (is_word whose (codes "turn")) refl refl refl
  where
    by : (a b c : Bool) → is_word whose (codes "actor") ≡ a → is_word whose (codes "phase") ≡ b → is_word whose (codes "turn") ≡ c → First whose
    by true b c ha hb hc = is_actor (same_word whose (codes "actor") ha)
    by false true c ha hb hc = is_phase (same_word whose (codes "phase") hb)
    by false false true ha hb hc = is_turn (same_word whose (codes "turn") hc)
    by false false false ha hb hc = is_other (λ word. elim word [ inl is ↦ other_word whose (codes "actor") ha is | inr (inl is) ↦ other_word whose (codes "phase") hb is | inr (inr is) ↦ other_word whose (codes "turn") hc is ])

-- the line of an actor
pub of_other : (actors : List ActorDecl) (begun : Bool) (reads : ℕ) (whose : List ℕ) (behind : List (List ℕ)) → (IsKeyword whose → ⊥) → meaning_of actors begun reads (spoken (whose ∷ behind)) ≡ saying actors reads (spoken (whose ∷ behind))
of_other actors begun reads whose behind free =
    let actor = word_differs whose (codes "actor") (λ is. free (inl is)) in
    let phase = word_differs whose (codes "phase") (λ is. free (inr (inl is))) in
    let turn = word_differs whose (codes "turn") (λ is. free (inr (inr is))) in
    rw (actor, phase, turn) refl

pub two_up : (n : ℕ) → (suc (suc n) == 1) ≡ false
two_up n = let two : ℕ = suc (suc n) in let past : 1 < two = omega arith in grind (arith, nat_tests)

-- ---- what is said

-- the words say this, where these actors are declared, other lines have begun or not, and so many bytes are asked for
abbrev pub Says : List ActorDecl → Bool → ℕ → List (List ℕ) → Meaning → Type 0
Says actors begun reads words meaning.Passed = ⊥
Says actors begun reads words (meaning.Declares actor) = Declares words actor × (begun ≡ false) × (length actors < 256) × (actor_place actors actor.name ≡ None)
Says actors begun reads words meaning.Begins = words ≡ codes "phase" ∷ []
Says actors begun reads words (meaning.Turns turned) = Turns actors words turned
Says actors begun reads words (meaning.Says place made sum) = States actors words place made × (sum ≡ reads + read_length made) × (sum ≤ 2 ^ 28)

-- no word is empty
abbrev pub Full : List (List ℕ) → Type 0
Full words = AllByRecursion (λ word. word ≢ []) words

neither : (refused : Bool) (first second : Kind) (said : Meaning) → cond refused (Err first) (Err second) ≡ Ok said → ⊥
neither true first second said is = cc
neither false first second said is = cc

module _ (actors : List ActorDecl) (begun : Bool) (reads : ℕ) where
  actor_short : (name : List ℕ) (arguments : List (List ℕ)) (said : Meaning) → length arguments ≤ 2 → Full arguments → declaration actors begun (line_of (name ∷ arguments)) ≡ Ok said → Says actors begun reads (codes "actor" ∷ name ∷ arguments) said
  actor_short name arguments said few full is = by (is_refused actors begun name) refl (sym (short_line actors begun name arguments few) ∙ is)
    where
      by : (b : Bool) → is_refused actors begun name ≡ b → cond b (Err kinds.Actor) (declared (line_of (name ∷ arguments))) ≡ Ok said → Says actors begun reads (codes "actor" ∷ name ∷ arguments) said
      by true bad read = cc
      by false fine read =
          let may = accepted actors begun name fine in
          let found = declared_so name arguments said few full read in
          rw (← found.1) (record { rightly = rw found.2 may.2; on_host = found.3; least = found.4; most = found.5; spelled = found.6 }, may.0, may.1, rw found.2 may.3)

  actor_said : (behind : List (List ℕ)) (said : Meaning) → Full behind → declaration actors begun (line_of behind) ≡ Ok said → Says actors begun reads (codes "actor" ∷ behind) said
  actor_said [] said full is = cc
  actor_said (name ∷ []) said full is = actor_short name [] said (omega arith) full.1 is
  actor_said (name ∷ a ∷ []) said full is = actor_short name (a ∷ []) said (omega arith) full.1 is
  actor_said (name ∷ a ∷ b ∷ []) said full is = actor_short name (a ∷ b ∷ []) said (omega arith) full.1 is
  actor_said (name ∷ a ∷ b ∷ c ∷ more) said full is =
      absurd (neither (is_refused actors begun name) kinds.Actor kinds.Count said (sym (long_line actors begun name (a ∷ b ∷ c ∷ more) (omega arith)) ∙ is))

  phase_said : (behind : List (List ℕ)) (said : Meaning) → beginning (spoken (codes "phase" ∷ behind)) ≡ Ok said → Says actors begun reads (codes "phase" ∷ behind) said
  phase_said [] said is = let same : meaning.Begins ≡ said = cc in rw (← same) refl
  phase_said (word ∷ behind) said is =
      let wrong : cond (suc (suc (length behind)) == 1) (Ok meaning.Begins) (Err kinds.Count) ≡ Ok said = is in
      let other = two_up (length behind) in
      absurd (failed (suc (suc (length behind)) == 1) other wrong)
    where
      failed : (b : Bool) → b ≡ false → cond b (Ok meaning.Begins) (Err kinds.Count) ≡ Ok said → ⊥
      failed true other wrong = cc
      failed false other wrong = cc

  turn_read : (whose word : List ℕ) (place : ℕ) (r : Result ℕ Kind) (said : Meaning) → r >>= (λ count. Ok (meaning.Turns (record { actor = place; count = count }))) ≡ Ok said → (count : ℕ) × (r ≡ Ok count) × (meaning.Turns (record { actor = place; count = count }) ≡ said)
  turn_read whose word place (Ok count) said is = let same : meaning.Turns (record { actor = place; count = count }) ≡ said = cc in (count, refl, same)
  turn_read whose word place (Err kind) said is = cc

  turn_at : (whose : List ℕ) (found : Option ℕ) (arguments : List (List ℕ)) (said : Meaning) → actor_place actors whose ≡ found → turns_at found (spoken (codes "turn" ∷ whose ∷ arguments)) ≡ Ok said → Says actors begun reads (codes "turn" ∷ whose ∷ arguments) said
  turn_at whose None arguments said there is = cc
  turn_at whose (Some place) [] said there is = cc
  turn_at whose (Some place) (word ∷ []) said there is =
      let read = turn_read whose word place (number_within 1 (2 ^ 32 - 1) word) said is in
      let count = number_found 1 (2 ^ 32 - 1) read.0 word read.1 in
      rw (← read.2) (record { whose = whose; declared = there; least = count.1; most = omega (arith, count.2); spelled = ap (λ w. codes "turn" ∷ whose ∷ w ∷ []) count.0 })
  turn_at whose (Some place) (word ∷ more ∷ others) said there is = absurd (failed (suc (suc (suc (suc (length others)))) == 3) _ (let four : ℕ = suc (suc (suc (suc (length others)))) in let past : 3 < four = omega arith in grind (arith, nat_tests)) is)
    where
      failed : (b : Bool) (r : Result Meaning Kind) → b ≡ false → cond b r (Err kinds.Count) ≡ Ok said → ⊥
      failed true r other wrong = cc
      failed false r other wrong = cc

  turn_said : (behind : List (List ℕ)) (said : Meaning) → turning actors (spoken (codes "turn" ∷ behind)) ≡ Ok said → Says actors begun reads (codes "turn" ∷ behind) said
  turn_said [] said is = cc
  turn_said (whose ∷ arguments) said is = turn_at whose (actor_place actors whose) arguments said refl (by (suc (suc (length arguments)) == 1) (two_up (length arguments)) is)
    where
      by : (b : Bool) → b ≡ false → cond b (Err kinds.Count) (turns_at (actor_place actors whose) (spoken (codes "turn" ∷ whose ∷ arguments))) ≡ Ok said → turns_at (actor_place actors whose) (spoken (codes "turn" ∷ whose ∷ arguments)) ≡ Ok said
      by true other read = cc
      by false other read = read

  kept_within : (place : ℕ) (made : Statement) (sum : ℕ) (said : Meaning) (b : Bool) → nat_le sum (2 ^ 28) ≡ b → cond b (Ok (meaning.Says place made sum)) (Err kinds.Reads) ≡ Ok said → (meaning.Says place made sum ≡ said) × (sum ≤ 2 ^ 28)
  kept_within place made sum said true fits is = let same : meaning.Says place made sum ≡ said = cc in (same, grind (arith, nat_tests))
  kept_within place made sum said false fits is = cc

  statement_read : (place : ℕ) (r : Result Statement Kind) (said : Meaning) → r >>= (λ made. within_reads place made (reads + read_length made)) ≡ Ok said → (made : Statement) × (r ≡ Ok made) × (meaning.Says place made (reads + read_length made) ≡ said) × (reads + read_length made ≤ 2 ^ 28)
  statement_read place (Ok made) said is = let kept = kept_within place made (reads + read_length made) said (nat_le (reads + read_length made) (2 ^ 28)) refl is in (made, refl, kept.0, kept.1)
  statement_read place (Err kind) said is = cc

  verb_said : (whose word : List ℕ) (arguments : List (List ℕ)) (place : ℕ) (found : Option Verb) (said : Meaning) → (IsKeyword whose → ⊥) → Full arguments → actor_place actors whose ≡ Some place → verb_of word ≡ found → says_by place found reads (spoken (whose ∷ word ∷ arguments)) ≡ Ok said → Says actors begun reads (whose ∷ word ∷ arguments) said
  verb_said whose word arguments place None said free full there known is = cc
  verb_said whose word arguments place (Some v) said free full there known is = by (has_words v (suc (suc (length arguments)))) refl is
    where
      by : (b : Bool) → has_words v (suc (suc (length arguments))) ≡ b → cond b (reading v arguments >>= (λ made. within_reads place made (reads + read_length made))) (Err kinds.Count) ≡ Ok said → Says actors begun reads (whose ∷ word ∷ arguments) said
      by false counts read = cc
      by true counts read =
          let limits = counted v (length arguments) counts in
          let found = statement_read place (reading v arguments) said read in
          let spelled = spells v arguments found.0 limits.0 limits.1 full found.1 in
          rw (← found.2) (record { whose = whose; behind = word ∷ arguments; free = free; declared = there; split = refl; spelled = rw (verb_word word v known) spelled }, refl, found.3)

  other_at : (whose : List ℕ) (found : Option ℕ) (behind : List (List ℕ)) (said : Meaning) → (IsKeyword whose → ⊥) → Full behind → actor_place actors whose ≡ found → says_at found reads (spoken (whose ∷ behind)) ≡ Ok said → Says actors begun reads (whose ∷ behind) said
  other_at whose None behind said free full there is = cc
  other_at whose (Some place) [] said free full there is = cc
  other_at whose (Some place) (word ∷ arguments) said free full there is = verb_said whose word arguments place (verb_of word) said free full.1 there refl (by (suc (suc (length arguments)) == 1) (two_up (length arguments)) is)
    where
      by : (b : Bool) → b ≡ false → cond b (Err kinds.Count) (says_by place (verb_of word) reads (spoken (whose ∷ word ∷ arguments))) ≡ Ok said → says_by place (verb_of word) reads (spoken (whose ∷ word ∷ arguments)) ≡ Ok said
      by true other read = cc
      by false other read = read

  -- what is read of a line is so written
  pub said_so : (whose : List ℕ) (behind : List (List ℕ)) (said : Meaning) → Full behind → meaning_of actors begun reads (spoken (whose ∷ behind)) ≡ Ok said → Says actors begun reads (whose ∷ behind) said
  said_so whose behind said full is =
      elim (first_is whose) [
        | is_actor same ↦ back same (actor_said behind said full (onto same is))
        | is_phase same ↦ back same (phase_said behind said (onto same is))
        | is_turn same ↦ back same (turn_said behind said (onto same is))
        | is_other free ↦ other_at whose (actor_place actors whose) behind said free full refl (sym (of_other actors begun reads whose behind free) ∙ is)
      ]
    where
      onto : {w : List ℕ} → whose ≡ w → meaning_of actors begun reads (spoken (whose ∷ behind)) ≡ Ok said → meaning_of actors begun reads (spoken (w ∷ behind)) ≡ Ok said
      onto same read = ap (λ w. meaning_of actors begun reads (spoken (w ∷ behind))) (sym same) ∙ read

      back : {w : List ℕ} → whose ≡ w → Says actors begun reads (w ∷ behind) said → Says actors begun reads (whose ∷ behind) said
      back same says = rw same says

  -- ---- what is so written is read

  turn_again : (words : List (List ℕ)) (place count : ℕ) (turns : Turns actors words (record { actor = place; count = count })) → meaning_of actors begun reads (spoken words) ≡ Ok (meaning.Turns (record { actor = place; count = count }))
  turn_again words place count turns =
      let there = turns.declared in
      let number = number_again 1 (2 ^ 32 - 1) count (let h = turns.most in omega arith) turns.least (let h = turns.most in omega arith) in
      ap (λ ws. meaning_of actors begun reads (spoken ws)) turns.spelled ∙ rw (there, number) refl

  within_again : (place : ℕ) (made : Statement) (sum : ℕ) → sum ≤ 2 ^ 28 → within_reads place made sum ≡ Ok (meaning.Says place made sum)
  within_again place made sum few = let fits : nat_le sum (2 ^ 28) ≡ true = grind (arith, nat_tests) in rw fits refl

  verb_again : (whose : List ℕ) (arguments : List (List ℕ)) (place : ℕ) (v : Verb) → (IsKeyword whose → ⊥) → actor_place actors whose ≡ Some place → meaning_of actors begun reads (spoken (whose ∷ word_of v ∷ arguments)) ≡ cond (has_words v (suc (suc (length arguments)))) (reading v arguments >>= (λ made. within_reads place made (reads + read_length made))) (Err kinds.Count)
  verb_again whose arguments place v free there = of_other actors begun reads whose (word_of v ∷ arguments) free ∙ rw (there, verb_known v, two_up (length arguments)) refl

  statement_again : (words : List (List ℕ)) (place : ℕ) (made : Statement) → States actors words place made → reads + read_length made ≤ 2 ^ 28 → meaning_of actors begun reads (spoken words) ≡ Ok (meaning.Says place made (reads + read_length made))
  statement_again words place made states few =
      let read = read_of made states.behind states.spelled in
      let split : words ≡ states.whose ∷ word_of read.does ∷ read.arguments = states.split ∙ ap (λ ws. states.whose ∷ ws) read.split in
      let does = read.does in
      let counts = read.counts in
      let reads_so = read.reads_so in
      ap (λ ws. meaning_of actors begun reads (spoken ws)) split ∙ verb_again states.whose read.arguments place read.does states.free states.declared ∙ rw (counts, reads_so, within_again place made (reads + read_length made) few) refl

  pub says_so : (words : List (List ℕ)) (said : Meaning) → Says actors begun reads words said → meaning_of actors begun reads (spoken words) ≡ Ok said
  says_so words meaning.Passed is = absurd is
  says_so words (meaning.Declares actor) (declares, early, few, none) = ap (λ ws. meaning_of actors begun reads (spoken ws)) (named actor declares).1 ∙ sym (ap (λ ws. declaration actors begun (spoken ws)) (named actor declares).1) ∙ declared_again actors begun words actor declares early few none
    where
      named : (a : ActorDecl) → Declares words a → (behind : List (List ℕ)) × (words ≡ codes "actor" ∷ behind)
      named a declares = elim declares.spelled [ inl (is, host, cap) ↦ (a.name ∷ [], is) | inr (inl (is, cap)) ↦ (a.name ∷ decimal a.host ∷ [], is) | inr (inr is) ↦ (a.name ∷ decimal a.host ∷ decimal a.cap ∷ [], is) ]
  says_so words meaning.Begins is = ap (λ ws. meaning_of actors begun reads (spoken ws)) is
  says_so words (meaning.Turns turned) turns = turn_again words turned.actor turned.count turns
  says_so words (meaning.Says place made sum) (states, is, few) = statement_again words place made states (rw (← is) few) ∙ ap (λ (n : ℕ). Ok (meaning.Says place made n)) (sym is)
