-- An actor that keeps what the plain machine gives it, and goes on from a statement to the next.
use Rattle.std.proofs.Common.{◌≡◌, ◌≢◌, ℕ, false, List, [], Option, Some, None, refl, sym, ap, ◌∙◌, subst}
use Rattle.std.specs.Prelude.{slice_get}
use Rattle.script_lang.specs.declared.line.Line.{Line}
use Rattle.script_lang.specs.declared.line.Outcome.{Outcome}
use Rattle.script_lang.specs.declared.script.ActorDecl.{ActorDecl}
use Rattle.script_lang.specs.declared.script.Statement.{Statement}
use Rattle.mount_model.specs.History.{Event}
use Rattle.mount_sound.specs.Owed.{IsLawful}
use Rattle.reader_laws.specs.Moments.{Moment, moment_after}
use Rattle.index_reader.specs.declared.opened.OpenReader.{OpenReader}
use Rattle.writer_flow.specs.declared.handle.WriterHandle.{WriterHandle}
use Rattle.actor_core.specs.declared.kept.Kept.{Kept}
use Rattle.actor_core.specs.Endings.{Ending}
use Rattle.actor_core.specs.Progress.{line_of}
use Rattle.run_core.specs.Course.{Course}
use Rattle.plain_machine.specs.Machine.{Plain, PlainActor, PlainOwn, PlainReader}
use Rattle.plain_machine.specs.Statements.{Takes}
use Rattle.plain_plays.specs.Mirrors.{Mirrors, MirrorsHandle}
use Rattle.plain_plays.specs.Readers.{HasReader, MirrorsReader, TakesOnReader}
use Rattle.plain_plays.specs.Stepping.{HasActor, TakesStep}
use Rattle.plain_plays.proofs.PlainSteps.Facts.{reader_stays}

-- The actor of this place, which is declared so, has the writer and the reader that the machine gives it, and no stop is armed.
pub record Stands (m : Moment) (me : ℕ) (p : Plain) (declared : ActorDecl) (kept : Kept) : Type 0 where
  pub actor : PlainActor
  pub has : HasActor m me p kept.writer actor
  pub reader : HasReader m kept.reader actor.reader
  pub host : kept.host ≡ declared.host
  pub cap : kept.cap ≡ declared.cap
  pub unarmed : kept.armed ≡ None
  pub stays : kept.gone ≡ false

-- only its writer and its reader may be others
pub record KeepsOn (kept left : Kept) : Type 0 where
  pub host : left.host ≡ kept.host
  pub cap : left.cap ≡ kept.cap
  pub armed : left.armed ≡ kept.armed
  pub gone : left.gone ≡ kept.gone

-- The machine took the statement, with this line, and the actor goes on with what it keeps. The others have what they had.
pub record GoesOn (m : Moment) (me : ℕ) (p : Plain) (declared : ActorDecl) (actor : PlainActor) (statement : Statement) (number : ℕ) (next : Kept → Course) (line : Line) (left : Course) (after : Moment) : Type 0 where
  pub new : Plain
  pub kept : Kept
  pub numbered : line.number ≡ number
  pub takes : Takes me declared actor p statement line.outcome new
  pub goes_on : left ≡ next kept
  pub mirrors : Mirrors after new
  pub stands : Stands after me new declared kept
  pub others : (other : ℕ) → other ≢ me → slice_get new.actors other ≡ slice_get p.actors other
  pub handles : (other : ℕ) (h : Option WriterHandle) (own : Option PlainOwn) → other ≢ me → MirrorsHandle m other p h own → MirrorsHandle after other new h own

pub no_own_writer : (m : Moment) (me : ℕ) (p : Plain) (own : Option PlainOwn) → MirrorsHandle m me p None own → own ≡ None
no_own_writer m me p None x = refl
no_own_writer m me p (Some own) x = absurd x

pub no_file : (m : Moment) (file : Option PlainReader) → HasReader m None file → file ≡ None
no_file m None x = refl
no_file m (Some file) x = absurd x

pub its_file : (m : Moment) (reader : OpenReader) (file : Option PlainReader) → HasReader m (Some reader) file → (f : PlainReader) × (file ≡ Some f) × MirrorsReader m reader f
its_file m reader None x = absurd x
its_file m reader (Some f) x = (f, refl, x)

module _ (m : Moment) (me : ℕ) (p : Plain) (declared : ActorDecl) (kept : Kept) (s : Stands m me p declared kept) (number : ℕ) (next : Kept → Course) (calls : List Event) (line : Line) (left : Course) where
  abbrev pub Goes : Statement → Type 0
  Goes statement = GoesOn m me p declared s.actor statement number next line left (moment_after m calls)

  -- by a statement on its writer, or by the name of a file
  pub steps_on : (statement : Statement) (ending : Ending) → IsLawful m.state calls → line ≡ line_of number ending → left ≡ next ending.kept → KeepsOn kept ending.kept → ending.kept.reader ≡ kept.reader
      → TakesStep m me declared s.actor p statement ending.outcome (moment_after m calls) ending.kept.writer → Goes statement
  steps_on statement ending lawful line_is left_is keeps reader t = record {
    new = t.new;
    kept = ending.kept;
    numbered = ap (λ (l : Line). l.number) line_is;
    takes = subst (λ (o : Outcome). Takes me declared s.actor p statement o t.new) (sym (ap (λ (l : Line). l.outcome) line_is)) t.takes;
    goes_on = left_is;
    mirrors = t.mirrors;
    stands = record {
      actor = t.left;
      has = t.its_actor;
      reader = subst (λ (r : Option OpenReader). HasReader (moment_after m calls) r t.left.reader) (sym reader)
          (subst (λ (r : Option PlainReader). HasReader (moment_after m calls) kept.reader r) (sym t.reader) (reader_stays m calls kept.reader s.actor.reader lawful s.reader));
      host = keeps.host ∙ s.host;
      cap = keeps.cap ∙ s.cap;
      unarmed = keeps.armed ∙ s.unarmed;
      stays = keeps.gone ∙ s.stays;
    };
    others = t.others;
    handles = t.handles;
  }

  -- by one on its reader
  pub reader_steps : (statement : Statement) (ending : Ending) → line ≡ line_of number ending → left ≡ next ending.kept → KeepsOn kept ending.kept → ending.kept.writer ≡ kept.writer
      → TakesOnReader m me declared s.actor p statement ending.outcome (moment_after m calls) kept.writer ending.kept.reader → Goes statement
  reader_steps statement ending line_is left_is keeps writer t = record {
    new = t.new;
    kept = ending.kept;
    numbered = ap (λ (l : Line). l.number) line_is;
    takes = subst (λ (o : Outcome). Takes me declared s.actor p statement o t.new) (sym (ap (λ (l : Line). l.outcome) line_is)) t.takes;
    goes_on = left_is;
    mirrors = t.mirrors;
    stands = record {
      actor = t.left;
      has = subst (λ (h : Option WriterHandle). HasActor (moment_after m calls) me t.new h t.left) (sym writer) t.its_actor;
      reader = t.its_reader;
      host = keeps.host ∙ s.host;
      cap = keeps.cap ∙ s.cap;
      unarmed = keeps.armed ∙ s.unarmed;
      stays = keeps.gone ∙ s.stays;
    };
    others = t.others;
    handles = t.handles;
  }

  -- without a call, and nothing changes
  pub stays_so : (statement : Statement) (ending : Ending) → Mirrors m p → IsLawful m.state calls → (calls ≡ []) × (line ≡ line_of number ending) × (left ≡ next ending.kept) → KeepsOn kept ending.kept → ending.kept.reader ≡ kept.reader → ending.kept.writer ≡ kept.writer
      → Takes me declared s.actor p statement ending.outcome p → Goes statement
  stays_so statement ending o lawful f keeps reader writer takes =
      let here : TakesStep m me declared s.actor p statement ending.outcome m ending.kept.writer = record {
        new = p;
        takes = takes;
        mirrors = o;
        left = s.actor;
        its_actor = subst (λ (h : Option WriterHandle). HasActor m me p h s.actor) (sym writer) s.has;
        reader = refl;
        others = λ other apart. refl;
        handles = λ other h own apart x. x;
      } in
      steps_on statement ending lawful f.1 f.2 keeps reader (subst (λ (es : List Event). TakesStep m me declared s.actor p statement ending.outcome (moment_after m es) ending.kept.writer) (sym f.0) here)
