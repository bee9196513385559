-- The phases of a script without turns, one after the other, are steps of the plain machine.
use Rattle.std.proofs.Common.{◌≡◌, ℕ, zero, suc, List, [], ◌∷◌, ◌++◌, length, map, Option, Some, refl, sym, ap, ◌∙◌, subst}
use Rattle.std.specs.Prelude.{slice_get}
use Rattle.std.specs.List.{AllByRecursion}
use Rattle.std.proofs.lemmas.List.Elements.{recursion_from_All}
use Rattle.mount_model.specs.History.{Event}
use Rattle.mount_sound.specs.Owed.{IsLawful}
use Rattle.mount_model.specs.InTurns.{AllInTurn, AllToEnd, InTurns, PhaseInTurns}
use Rattle.mount_model.specs.Performers.{NoneAhead, paused, performer}
use Rattle.mount_model.specs.Process.{pauses}
use Rattle.script_lang.specs.declared.line.Line.{Line}
use Rattle.script_lang.specs.declared.script.ActorDecl.{ActorDecl}
use Rattle.script_lang.specs.declared.script.Numbered.{Numbered}
use Rattle.script_lang.specs.declared.script.Phase.{Phase}
use Rattle.script_lang.specs.declared.script.Turned.{Turned}
use Rattle.reader_laws.specs.Moments.{Moment, moment_after}
use Rattle.reader_laws.proofs.Gathered.Facts.{legal_first, legal_rest, moment-append}
use Rattle.actor_core.specs.declared.kept.Kept.{Kept}
use Rattle.run_core.specs.Breaking.{One}
use Rattle.run_core.specs.Cast.{statements_in}
use Rattle.run_core.specs.Course.{Course, through}
use Rattle.run_core.specs.Written.{is_greeting, turns_of, whose, written_of}
use Rattle.plain_machine.specs.Machine.{Plain}
use Rattle.plain_machine.specs.Running.{TakesAll}
use Rattle.plain_plays.specs.Mirrors.{Mirrors}
use Rattle.plain_plays.proofs.NotAlive.{DeadStayOut}
use Rattle.plain_plays.proofs.Standing.{Stands}
use Rattle.plain_plays.proofs.Written.{AllWell, AreBefore, AreTaken, IsMeant, all_taken, well_first, well_rest}

-- ---- actors between phases

-- the actor of this place stands as the machine has it, before these phases
pub record IsResting (m : Moment) (p : Plain) (phases : List Phase) (place : ℕ) (declared : ActorDecl) (one : Option One) : Type 0 where
  pub kept : Kept
  pub stands : Stands m place p declared kept
  pub is : one ≡ Some (performer place (through place phases kept) [])

abbrev pub AreResting : Moment → Plain → List Phase → List ActorDecl → List One → Type 0
AreResting m p phases actors ones = (place : ℕ) (declared : ActorDecl) → slice_get actors place ≡ Some declared → IsResting m p phases place declared (slice_get ones place)

-- a phase that the law is about
pub record IsMeantPhase (count : ℕ) (phase : Phase) : Type 0 where
  pub no_turns : phase.turns ≡ []
  pub statements : AllByRecursion (IsMeant count) phase.statements

-- it begins the next one
begins : (m : Moment) (p : Plain) (phase : Phase) (later : List Phase) (actors : List ActorDecl) (ones : List One) → AreResting m p (phase ∷ later) actors ones → AreBefore m p phase.statements later actors ones
begins m p phase later actors ones rest place declared at = let r = rest place declared at in record { kept = r.kept; stands = r.stands; is = r.is }

none_at : {X : Type 0} (n : ℕ) (x : X) → slice_get [] n ≡ Some x → ⊥
none_at n x e = cc

some_one : {X : Type 0} (a b : X) → Some a ≡ Some b → a ≡ b
some_one a b e = cc

same_left : (a b : Course) → pauses a ≡ pauses b → a ≡ b
same_left a b e = cc

-- an actor that paused was so before
unpaused : (place : ℕ) (left : Course) (ones : List One) (n : ℕ) → AllByRecursion (λ (one : One). one.ahead ≡ []) ones → slice_get (map paused ones) n ≡ Some (performer place (pauses left) []) → slice_get ones n ≡ Some (performer place left [])
unpaused place left [] n none e = absurd (none_at n _ e)
unpaused place left (one ∷ ones) zero none e =
    let is : paused one ≡ performer place (pauses left) [] = some_one _ _ e in
    let number : one.number ≡ place = ap (λ (x : One). x.number) is in
    let goes : one.left ≡ left = same_left one.left left (ap (λ (x : One). x.left) is) in
    ap Some (λ i. performer (number i) (goes i) (none.0 i))
unpaused place left (one ∷ ones) (suc n) none e = unpaused place left ones n none.1 e

-- it ended this one
ends_phase : (m : Moment) (p : Plain) (later : List Phase) (actors : List ActorDecl) (ones : List One) → NoneAhead ones → AreBefore m p [] later actors (map paused ones) → AreResting m p later actors ones
ends_phase m p later actors ones none stood place declared at =
    let b = stood place declared at in
    record { kept = b.kept; stands = b.stands; is = unpaused place (through place later b.kept) ones place (recursion_from_All (λ (one : One). one.ahead ≡ []) ones none) b.is }

-- ---- lines of two parts

pub takes_both : (actors : List ActorDecl) (first rest : List Numbered) (lines others : List Line) (p mid last : Plain) → TakesAll actors p first lines mid → TakesAll actors mid rest others last → TakesAll actors p (first ++ rest) (lines ++ others) last
takes_both actors [] rest [] others p mid last a b = subst (λ (q : Plain). TakesAll actors q rest others last) a b
takes_both actors [] rest (line ∷ lines) others p mid last a b = absurd a
takes_both actors (s ∷ first) rest [] others p mid last a b = absurd a
takes_both actors (s ∷ first) rest (line ∷ lines) others p mid last a b = (a.0, a.1, takes_both actors first rest lines others a.0 mid last a.2 b)

-- ---- all phases

-- The machine took the statements of all phases, with these lines.
pub record PhasesTaken (m : Moment) (p : Plain) (actors : List ActorDecl) (phases : List Phase) (lines : List Line) : Type 0 where
  pub last : Plain
  pub takes : TakesAll actors p (statements_in phases) lines last
  pub mirrors : Mirrors m last
  pub out : DeadStayOut m.state last

module _ (actors : List ActorDecl) where
  one_phase : (phase : Phase) (later : List Phase) (told : List Line) (m : Moment) (p : Plain) (ones next : List One) (block : List Event) → Mirrors m p → DeadStayOut m.state p → IsMeantPhase (length actors) phase → AreResting m p (phase ∷ later) actors ones
      → IsLawful m.state block → AllWell block → PhaseInTurns is_greeting (written_of phase) ones block told next → AreTaken (moment_after m block) p actors phase.statements told later (map paused next)
  one_phase phase later told m p ones next block o out meant rest lawful well ph =
      let turns : AllInTurn is_greeting [] ones ph.first ph.mid = subst (λ (ts : List Turned). AllInTurn is_greeting (turns_of ts) ones ph.first ph.mid) meant.no_turns ph.turns in
      let is : block ≡ ph.rest = ph.all ∙ ap (λ (es : List Event). es ++ ph.rest) turns.0 in
      let ends : AllToEnd (whose phase.statements) told ones ph.rest (map paused next) = subst (λ (l : List One). AllToEnd (whose phase.statements) told l ph.rest (map paused next)) turns.1 ph.statements in
      let here = subst (λ (es : List Event). AllToEnd (whose phase.statements) told ones es (map paused next)) (sym is) ends in
      all_taken actors later phase.statements told m p ones (map paused next) block o out meant.statements (begins m p phase later actors ones rest) lawful well here

  pub phases_taken : (phases : List Phase) (lines : List Line) (m : Moment) (p : Plain) (ones : List One) (history : List Event) → Mirrors m p → DeadStayOut m.state p → AllByRecursion (IsMeantPhase (length actors)) phases → AreResting m p phases actors ones
      → IsLawful m.state history → AllWell history → InTurns is_greeting (map written_of phases) ones history lines → PhasesTaken (moment_after m history) p actors phases lines
  phases_taken [] lines m p ones history o out meant rest lawful well turns =
      let T : List Event × List Line → Type 0 = λ z. PhasesTaken (moment_after m z.0) p actors [] z.1 in
      subst T (λ i. (sym turns.0 i, sym turns.1 i)) (record { last = p; takes = refl; mirrors = o; out = out })
  phases_taken (phase ∷ later) lines m p ones history o out meant rest lawful well (block, more, told, others, next, is, lines_are, ph, turns) =
      let whole : IsLawful m.state (block ++ more) = subst (IsLawful m.state) is lawful in
      let all : AllWell (block ++ more) = subst AllWell is well in
      let t = one_phase phase later told m p ones next block o out meant.0 rest (legal_first m block more whole) (well_first block more all) ph in
      let now : Moment = moment_after m block in
      let stood : AreResting now t.last later actors next = ends_phase now t.last later actors next ph.none_ahead t.before in
      let l = phases_taken later others now t.last next more t.mirrors t.out meant.1 stood (legal_rest m block more whole) (well_rest block more all) turns in
      let end : moment_after now more ≡ moment_after m history = sym (moment-append m block more) ∙ ap (moment_after m) (sym is) in
      let T : Moment × List Line → Type 0 = λ z. PhasesTaken z.0 p actors (phase ∷ later) z.1 in
      subst T (λ i. (end i, sym lines_are i)) (record { last = l.last; takes = takes_both actors phase.statements (statements_in later) told others p t.last l.last t.takes l.takes; mirrors = l.mirrors; out = l.out })
