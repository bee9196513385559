-- The statements of a phase, one after the other as they are written, are steps of the plain machine.
use Rattle.std.proofs.Common.{◌≡◌, ◌≢◌, ◌<◌, ℕ, zero, suc, inl, inr, List, [], ◌∷◌, ◌++◌, length, Option, Some, refl, sym, ap, ◌∙◌, subst, arith}
use Rattle.std.specs.Prelude.{set, slice_get}
use Rattle.std.specs.List.{AllByRecursion}
use Rattle.std.proofs.lemmas.Bool.Decides.{eqb_tells}
use Rattle.mount_model.specs.declared.reply.Reply.TheVariants.{Fault, NoMemory}
use Rattle.mount_model.specs.History.{Event}
use Rattle.mount_sound.specs.Owed.{IsLawful}
use Rattle.mount_model.specs.InTurns.{AllToEnd, ToItsEnd}
use Rattle.mount_model.specs.Performers.{performer}
use Rattle.mount_model.specs.Process.{pauses}
use Rattle.script_lang.specs.declared.line.Line.{Line}
use Rattle.script_lang.specs.declared.script.ActorDecl.{ActorDecl}
use Rattle.script_lang.specs.declared.script.Numbered.{Numbered}
use Rattle.script_lang.specs.declared.script.Phase.{Phase}
use Rattle.script_lang.specs.Ranges.{FitsNumbered}
use Rattle.reader_laws.specs.Moments.{Moment, moment_after}
use Rattle.reader_laws.proofs.Gathered.Facts.{legal_first, legal_rest, moment-append}
use Rattle.actor_core.specs.declared.kept.Kept.{Kept}
use Rattle.actor_core.specs.Statements.{work_of}
use Rattle.run_core.specs.Breaking.{One}
use Rattle.run_core.specs.Course.{Course, one_by_one, own, then_line, through}
use Rattle.run_core.specs.Written.{whose}
use Rattle.run_core.proofs.Facts.{own_no, own_yes, same_some}
use Rattle.plain_machine.specs.Machine.{Plain, PlainActor}
use Rattle.plain_machine.specs.Running.{IsNoStop, TakesAll, TakesLine}
use Rattle.plain_plays.specs.Mirrors.{Mirrors}
use Rattle.plain_plays.specs.Served.{GoesWell}
use Rattle.plain_plays.proofs.PlainSteps.Facts.{reader_stays, set_here, set_there}
use Rattle.plain_plays.proofs.NotAlive.{DeadStayOut, dead_are_out, dead_next}
use Rattle.plain_plays.proofs.Standing.{GoesOn, Stands}
use Rattle.plain_plays.proofs.Statements.{work_so}

-- ---- calls that go well

-- no call met a fault, and none was refused memory
abbrev pub AllWell : List Event → Type 0
AllWell events = AllByRecursion (λ (e : Event). (e.reply ≢ Fault) × (e.reply ≢ NoMemory)) events

pub well_first : (first rest : List Event) → AllWell (first ++ rest) → AllWell first
well_first [] rest well = tt
well_first (e ∷ first) rest well = (well.0, well_first first rest well.1)

pub well_rest : (first rest : List Event) → AllWell (first ++ rest) → AllWell rest
well_rest [] rest well = well
well_rest (e ∷ first) rest well = well_rest first rest well.1

pub goes_well : (me : ℕ) (events : List Event) → AllWell events → GoesWell me events
goes_well me [] well = tt
goes_well me (e ∷ events) well = (λ own. well.0, goes_well me events well.1)

-- ---- actors before some statements

-- what an actor does behind the statements of a phase
abbrev pub waits : ℕ → List Phase → Kept → Course
waits place later kept = pauses (through place later kept)

-- The actor of this place stands as the machine has it, before its statements of these, and then before these phases.
pub record IsBefore (m : Moment) (p : Plain) (statements : List Numbered) (later : List Phase) (place : ℕ) (declared : ActorDecl) (one : Option One) : Type 0 where
  pub kept : Kept
  pub stands : Stands m place p declared kept
  pub is : one ≡ Some (performer place (one_by_one (own place statements) (waits place later) kept) [])

abbrev pub AreBefore : Moment → Plain → List Numbered → List Phase → List ActorDecl → List One → Type 0
AreBefore m p statements later actors ones = (place : ℕ) (declared : ActorDecl) → slice_get actors place ≡ Some declared → IsBefore m p statements later place declared (slice_get ones place)

-- a statement that the law is about, of one of so many actors
pub record IsMeant (count : ℕ) (s : Numbered) : Type 0 where
  pub fits : FitsNumbered count s
  pub no_stop : IsNoStop s.statement

pub there_is : {X : Type 0} (xs : List X) (n : ℕ) → n < length xs → (x : X) × (slice_get xs n ≡ Some x)
there_is [] n less = absurd (omega (arith, less))
there_is (x ∷ xs) zero less = (x, refl)
there_is (x ∷ xs) (suc n) less = there_is xs n (omega (arith, less))

-- The machine took the statements, with these lines, and the actors stand behind them.
pub record AreTaken (m : Moment) (p : Plain) (actors : List ActorDecl) (statements : List Numbered) (lines : List Line) (later : List Phase) (ones : List One) : Type 0 where
  pub last : Plain
  pub takes : TakesAll actors p statements lines last
  pub mirrors : Mirrors m last
  pub out : DeadStayOut m.state last
  pub before : AreBefore m last [] later actors ones

module _ (actors : List ActorDecl) (later : List Phase) where
  -- the actor of the first of these statements carries it to its end
  carried : (m : Moment) (p : Plain) (s : Numbered) (ss : List Numbered) (line : Line) (first : List Event) (declared : ActorDecl) (before after : One) → Mirrors m p → DeadStayOut m.state p → (b : IsBefore m p (s ∷ ss) later s.actor declared (Some before)) → IsMeant (length actors) s
      → IsLawful m.state first → AllWell first → ToItsEnd line before first after
      → (left : Course) × GoesOn m s.actor p declared b.stands.actor s.statement s.line (λ kept. one_by_one (own s.actor ss) (waits s.actor later) kept) line left (moment_after m first) × (after ≡ performer s.actor left [])
  carried m p s ss line first declared before after o out b meant lawful well ends =
      let next : Kept → Course = λ kept. one_by_one (own s.actor ss) (waits s.actor later) kept in
      let is : before ≡ performer s.actor (one_by_one (own s.actor (s ∷ ss)) (waits s.actor later) b.kept) [] = same_some _ _ b.is in
      let mine : own s.actor (s ∷ ss) ≡ s ∷ own s.actor ss = own_yes s.actor s ss refl in
      let now : before ≡ performer s.actor (then_line s.line next (work_of b.kept s.statement)) [] = is ∙ ap (λ (z : List Numbered). performer s.actor (one_by_one z (waits s.actor later) b.kept) []) mine in
      let does : ToItsEnd line (performer s.actor (then_line s.line next (work_of b.kept s.statement)) []) first after = subst (λ (x : One). ToItsEnd line x first after) now ends in
      (does.0, work_so m s.actor p declared b.kept b.stands o s.line next first line does.0 s.statement lawful (goes_well s.actor first well) meant.no_stop meant.fits.1 (dead_are_out m.state p out) does.1, does.2)

  -- all stand before the other statements then
  stand_on : (m : Moment) (p : Plain) (s : Numbered) (ss : List Numbered) (line : Line) (left : Course) (first : List Event) (declared : ActorDecl) (actor : PlainActor) (ones mid : List One) (before after : One) → slice_get actors s.actor ≡ Some declared → IsLawful m.state first → AreBefore m p (s ∷ ss) later actors ones
      → slice_get ones s.actor ≡ Some before → mid ≡ set ones s.actor after → after ≡ performer s.actor left []
      → (g : GoesOn m s.actor p declared actor s.statement s.line (λ kept. one_by_one (own s.actor ss) (waits s.actor later) kept) line left (moment_after m first)) → AreBefore (moment_after m first) g.new ss later actors mid
  stand_on m p s ss line left first declared actor ones mid before after there lawful stood here mid_is after_is g place other at = elim (eqb_tells s.actor place) as (λ _. IsBefore (moment_after m first) g.new ss later place other (slice_get mid place)) [
    | inl (yes_so, same) ↦
        let own_decl : declared ≡ other = same_some declared other (sym there ∙ ap (λ (n : ℕ). slice_get actors n) same ∙ at) in
        let mine : IsBefore (moment_after m first) g.new ss later s.actor declared (slice_get mid s.actor) = record {
          kept = g.kept;
          stands = g.stands;
          is = ap (λ (l : List One). slice_get l s.actor) mid_is ∙ set_here ones s.actor before after here ∙ ap Some (after_is ∙ ap (λ (c : Course). performer s.actor c []) g.goes_on);
        } in
        subst (λ (z : ℕ × ActorDecl). IsBefore (moment_after m first) g.new ss later z.0 z.1 (slice_get mid z.0)) (λ i. (same i, own_decl i)) mine
    | inr (no_so, apart) ↦
        let b : IsBefore m p (s ∷ ss) later place other (slice_get ones place) = stood place other at in
        let another : place ≢ s.actor = λ e. apart (sym e) in
        record {
          kept = b.kept;
          stands = record {
            actor = b.stands.actor;
            has = record { there = g.others place another ∙ b.stands.has.there; its_own = g.handles place b.kept.writer b.stands.actor.writer another b.stands.has.its_own };
            reader = reader_stays m first b.kept.reader b.stands.actor.reader lawful b.stands.reader;
            host = b.stands.host;
            cap = b.stands.cap;
            unarmed = b.stands.unarmed;
            stays = b.stands.stays;
          };
          is = ap (λ (l : List One). slice_get l place) mid_is ∙ set_there ones s.actor place after another ∙ b.is ∙ ap (λ (z : List Numbered). Some (performer place (one_by_one z (waits place later) b.kept) [])) (own_no place s ss apart);
        }
  ]

  -- The statements of a phase are steps of the machine, one after the other.
  pub all_taken : (statements : List Numbered) (lines : List Line) (m : Moment) (p : Plain) (ones new : List One) (calls : List Event) → Mirrors m p → DeadStayOut m.state p → AllByRecursion (IsMeant (length actors)) statements → AreBefore m p statements later actors ones
      → IsLawful m.state calls → AllWell calls → AllToEnd (whose statements) lines ones calls new → AreTaken (moment_after m calls) p actors statements lines later new
  all_taken [] [] m p ones new calls o out meant stood lawful well ends =
      let T : List Event × List One → Type 0 = λ z. AreTaken (moment_after m z.0) p actors [] [] later z.1 in
      subst T (λ i. (sym ends.0 i, sym ends.1 i)) (record { last = p; takes = refl; mirrors = o; out = out; before = stood })
  all_taken [] (line ∷ lines) m p ones new calls o out meant stood lawful well ends = absurd ends
  all_taken (s ∷ ss) [] m p ones new calls o out meant stood lawful well ends = absurd ends
  all_taken (s ∷ ss) (line ∷ lines) m p ones new calls o out meant stood lawful well (first, more, mid, is, moves, rest) =
      let d = there_is actors s.actor meant.0.fits.0 in
      let b : IsBefore m p (s ∷ ss) later s.actor d.0 (Some moves.before) = subst (IsBefore m p (s ∷ ss) later s.actor d.0) moves.here (stood s.actor d.0 d.1) in
      let whole : IsLawful m.state (first ++ more) = subst (IsLawful m.state) is lawful in
      let all : AllWell (first ++ more) = subst AllWell is well in
      let begun = legal_first m first more whole in
      let c = carried m p s ss line first d.0 moves.before moves.after o out b meant.0 begun (well_first first more all) moves.does in
      let g = c.1 in
      let now : Moment = moment_after m first in
      let stand = stand_on m p s ss line c.0 first d.0 b.stands.actor ones mid moves.before moves.after d.1 begun stood moves.here moves.new_is c.2 g in
      let t = all_taken ss lines now g.new mid new more g.mirrors (dead_next m first s.actor d.0 b.stands.actor p s.statement line.outcome g.new begun out g.takes) meant.1 stand (legal_rest m first more whole) (well_rest first more all) rest in
      let taken : TakesLine actors p s line g.new = (d.0, b.stands.actor, d.1, b.stands.has.there, g.numbered, g.takes) in
      let last : moment_after now more ≡ moment_after m calls = sym (moment-append m first more) ∙ ap (moment_after m) (sym is) in
      subst (λ (x : Moment). AreTaken x p actors (s ∷ ss) (line ∷ lines) later new) last (record { last = t.last; takes = (g.new, taken, t.takes); mirrors = t.mirrors; out = t.out; before = t.before })
