-- Drafts of scripts, line after line.
use Rattle.std.proofs.Common.{◌≡◌, ◌≢◌, ℕ, suc, ◌+◌, ◌^◌, ◌<◌, ◌≤◌, nat_lt, Bool, true, false, List, [], ◌∷◌, ◌++◌, length, get_or, None, refl, sym, ap, ◌∙◌, arith, append_assoc, length-append}
use Rattle.std.specs.Prelude.{AllPairs, sum_by}
use Rattle.std.specs.List.{position_or_len}
use Rattle.std.proofs.lemmas.List.{append-nil}
use Rattle.std.proofs.lemmas.List.Quantifiers.{all_pairs_push}
use Rattle.std.proofs.lemmas.List.Sums.{sum_by-cons, sum_by-append, fails_before_first}
use Rattle.script_lang.specs.declared.draft.Draft.{Draft}
use Rattle.script_lang.specs.declared.meaning.Meaning.{Meaning}
use Rattle.script_lang.specs.declared.meaning.Meaning.TheVariants as meaning
use Rattle.script_lang.specs.declared.script.ActorDecl.{ActorDecl}
use Rattle.script_lang.specs.declared.script.Numbered.{Numbered}
use Rattle.script_lang.specs.declared.script.Phase.{Phase}
use Rattle.script_lang.specs.declared.script.Turned.{Turned}
use Rattle.script_lang.specs.ActorNames.{is_word, actor_place}
use Rattle.script_lang.specs.Drafts.{empty_draft, draft_with, script_in}
use Rattle.script_lang.specs.Grammar.{read_length, asked}
use Rattle.script_lang.specs.Phases.{empty_phase, with_turn, with_statement}
use Rattle.script_lang.proofs.Scripts.Cuts.{unguarded}
use Rattle.script_lang.proofs.Lines.KindLemmas.{IsPlace}
use Rattle.script_lang.proofs.Lines.LineLemmas.{LineSays, is_passed_over, has_words}
use Rattle.script_lang.proofs.Lines.WordTests.{other_word}

-- ---- what is asked for

abbrev pub asked_in : Phase → ℕ
asked_in phase = sum_by (λ (numbered : Numbered). read_length numbered.statement) phase.statements

pub asked_cons : (phase : Phase) (phases : List Phase) → asked (phase ∷ phases) ≡ asked_in phase + asked phases
asked_cons phase phases = sum_by-cons asked_in phase phases

pub asked_last : (phases : List Phase) (phase : Phase) → asked (phases ++ phase ∷ []) ≡ asked phases + asked_in phase
asked_last phases phase = let one = asked_cons phase [] in let more = sum_by-append asked_in phases (phase ∷ []) in omega arith

pub asked_more : (phase : Phase) (numbered : Numbered) → asked_in (record { turns = phase.turns; statements = phase.statements ++ numbered ∷ [] }) ≡ asked_in phase + read_length numbered.statement
asked_more phase numbered =
    let more = sum_by-append (λ (n : Numbered). read_length n.statement) phase.statements (numbered ∷ []) in
    let one = sum_by-cons (λ (n : Numbered). read_length n.statement) numbered [] in
    omega arith

pub asked_first : (phase : Phase) (numbered : Numbered) → asked_in (with_statement numbered phase) ≡ read_length numbered.statement + asked_in phase
asked_first phase numbered = sum_by-cons (λ (n : Numbered). read_length n.statement) numbered phase.statements

-- ---- names that differ

other_names : (actors : List ActorDecl) (name : List ℕ) → actor_place actors name ≡ None → (k : ℕ) (d : ActorDecl) → k < length actors → (get_or actors k d).name ≢ name
other_names actors name none k d within same =
    let past = unguarded (position_or_len (λ (a : ActorDecl). is_word name a.name) actors) (length actors) (nat_lt (position_or_len (λ (a : ActorDecl). is_word name a.name) actors) (length actors)) refl none in
    let fails = fails_before_first (λ (a : ActorDecl). is_word name a.name) actors k d (omega arith) in
    other_word name (get_or actors k d).name fails (sym same)

-- ---- what a draft keeps

abbrev pub Differ : ActorDecl → ActorDecl → Type 0
Differ a b = a.name ≢ b.name

pub record Holds (d : Draft) : Type 0 where
  pub distinct : AllPairs Differ d.cast
  pub few : length d.cast ≤ 256
  pub waits : d.begun ≡ false → (d.phases ≡ []) × (d.phase ≡ empty_phase)
  pub works : d.begun ≡ true → d.phases ++ d.phase ∷ [] ≢ empty_phase ∷ []
  pub sum : d.reads ≡ asked (d.phases ++ d.phase ∷ [])
  pub limit : d.reads ≤ 2 ^ 28

pub holds_first : Holds empty_draft
holds_first = record {
  distinct = λ i j d less within. absurd (omega arith);
  few = omega arith;
  waits = λ early. (refl, refl);
  works = λ late. cc;
  sum = refl;
  limit = omega arith;
}

lone : (phases : List Phase) (phase other : Phase) → phases ++ phase ∷ [] ≡ other ∷ [] → phase ≡ other
lone [] phase other is = cc
lone (p ∷ []) phase other is = cc
lone (p ∷ q ∷ phases) phase other is = cc

no_turn : (turns : List Turned) (turned : Turned) → turns ++ turned ∷ [] ≢ []
no_turn [] turned is = cc
no_turn (t ∷ turns) turned is = cc

no_statement : (statements : List Numbered) (numbered : Numbered) → statements ++ numbered ∷ [] ≢ []
no_statement [] numbered is = cc
no_statement (s ∷ statements) numbered is = cc

two_phases : (phases : List Phase) (phase : Phase) → (phases ++ phase ∷ []) ++ empty_phase ∷ [] ≢ empty_phase ∷ []
two_phases [] phase is = cc
two_phases (p ∷ phases) phase is = let many = length-append (phases ++ phase ∷ []) (empty_phase ∷ []) in let one : suc (length ((phases ++ phase ∷ []) ++ empty_phase ∷ [])) ≡ 1 = ap length is in omega arith

-- a line keeps it
pub holds_on : (number : ℕ) (line : List ℕ) (said : Meaning) (d : Draft) → Holds d → LineSays d.cast d.begun d.reads line said → Holds (draft_with number said d)
holds_on number line said d holds (is_passed_over over is) = rw is holds
holds_on number line meaning.Passed d holds (has_words words has says) = absurd says
holds_on number line (meaning.Declares actor) d holds (has_words words has says) = record {
  distinct = all_pairs_push Differ d.cast actor holds.distinct (other_names d.cast actor.name says.3);
  few = omega (arith, length-append d.cast (actor ∷ []), says.2);
  waits = holds.waits;
  works = holds.works;
  sum = holds.sum;
  limit = holds.limit;
}
holds_on number line meaning.Begins d holds (has_words words has says) = record {
  distinct = holds.distinct;
  few = holds.few;
  waits = λ early. absurd cc;
  works = λ late. two_phases d.phases d.phase;
  sum = let more = asked_last (d.phases ++ d.phase ∷ []) empty_phase in let is = holds.sum in omega arith;
  limit = holds.limit;
}
holds_on number line (meaning.Turns turned) d holds (has_words words has says) = record {
  distinct = holds.distinct;
  few = holds.few;
  waits = λ early. absurd cc;
  works = λ late is. no_turn d.phase.turns turned (ap (λ (p : Phase). p.turns) (lone d.phases (record { turns = d.phase.turns ++ turned ∷ []; statements = d.phase.statements }) empty_phase is));
  sum =
      let before = asked_last d.phases d.phase in
      let after = asked_last d.phases (record { turns = d.phase.turns ++ turned ∷ []; statements = d.phase.statements }) in
      let is = holds.sum in omega arith;
  limit = holds.limit;
}
holds_on number line (meaning.Says actor made reads) d holds (has_words words has says) = record {
  distinct = holds.distinct;
  few = holds.few;
  waits = λ early. absurd cc;
  works = λ late is. no_statement d.phase.statements (record { line = number; actor = actor; statement = made }) (ap (λ (p : Phase). p.statements) (lone d.phases (record { turns = d.phase.turns; statements = d.phase.statements ++ record { line = number; actor = actor; statement = made } ∷ [] }) empty_phase is));
  sum =
      let before = asked_last d.phases d.phase in
      let after = asked_last d.phases (record { turns = d.phase.turns; statements = d.phase.statements ++ record { line = number; actor = actor; statement = made } ∷ [] }) in
      let more = asked_more d.phase (record { line = number; actor = actor; statement = made }) in
      let is = holds.sum in
      let sum_is = says.1 in
      omega arith;
  limit = says.2;
}

-- so the draft tells the place of the next line
pub place_in : (d : Draft) → Holds d → IsPlace (script_in d) d.begun d.reads
place_in d holds = record { late = holds.works; begins = begun_if d.begun refl; sum = holds.sum; few = holds.limit }
  where
    begun_if : (b : Bool) → d.begun ≡ b → d.phases ++ d.phase ∷ [] ≢ empty_phase ∷ [] → d.begun ≡ true
    begun_if true is more = is
    begun_if false is more = let waits = holds.waits is in let phases = waits.0 in let phase = waits.1 in absurd (more (rw (phases, phase) refl))

-- ---- phases, put behind what has begun

abbrev pub joined : Phase → Phase → Phase
joined before later = record { turns = before.turns ++ later.turns; statements = before.statements ++ later.statements }

abbrev pub onto : Phase → List Phase → List Phase
onto phase [] = []
onto phase (first ∷ others) = joined phase first ∷ others

whole : (turns others : List Turned) (statements more : List Numbered) → turns ≡ others → statements ≡ more → ◌≡◌ {A = Phase} (record { turns = turns; statements = statements }) (record { turns = others; statements = more })
whole turns others statements more ht hs = rw (ht, hs) refl

pub onto_nothing : (phase : Phase) → onto phase (empty_phase ∷ []) ≡ phase ∷ []
onto_nothing phase = ap (λ (p : Phase). p ∷ []) (whole (phase.turns ++ []) phase.turns (phase.statements ++ []) phase.statements (append-nil phase.turns) (append-nil phase.statements))

pub onto_begins : (phases : List Phase) (phase first : Phase) (others : List Phase) → (phases ++ phase ∷ []) ++ onto empty_phase (first ∷ others) ≡ phases ++ onto phase (empty_phase ∷ first ∷ others)
onto_begins phases phase first others =
    append_assoc phases (phase ∷ []) (first ∷ others)
    ∙ ap (λ (p : Phase). phases ++ p ∷ first ∷ others) (sym (whole (phase.turns ++ []) phase.turns (phase.statements ++ []) phase.statements (append-nil phase.turns) (append-nil phase.statements)))

pub onto_turn : (phases : List Phase) (phase first : Phase) (others : List Phase) (turned : Turned) → phases ++ onto (record { turns = phase.turns ++ turned ∷ []; statements = phase.statements }) (first ∷ others) ≡ phases ++ onto phase (with_turn turned first ∷ others)
onto_turn phases phase first others turned =
    ap (λ (p : Phase). phases ++ p ∷ others) (whole ((phase.turns ++ turned ∷ []) ++ first.turns) (phase.turns ++ turned ∷ first.turns) (phase.statements ++ first.statements) (phase.statements ++ first.statements) (append_assoc phase.turns (turned ∷ []) first.turns) refl)

pub onto_statement : (phases : List Phase) (phase first : Phase) (others : List Phase) (numbered : Numbered) → phases ++ onto (record { turns = phase.turns; statements = phase.statements ++ numbered ∷ [] }) (first ∷ others) ≡ phases ++ onto phase (with_statement numbered first ∷ others)
onto_statement phases phase first others numbered =
    ap (λ (p : Phase). phases ++ p ∷ others) (whole (phase.turns ++ first.turns) (phase.turns ++ first.turns) ((phase.statements ++ numbered ∷ []) ++ first.statements) (phase.statements ++ numbered ∷ first.statements) refl (append_assoc phase.statements (numbered ∷ []) first.statements))
