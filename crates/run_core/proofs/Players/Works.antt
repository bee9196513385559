-- What an actor does next in its statement.
use Rattle.std.proofs.Common.{◌≡◌, ℕ, List, [], ◌∷◌, Option, Some, None, refl, sym, ap, ◌∙◌, subst}
use Rattle.std.specs.Prelude.{MatchBool}
use Rattle.mount_model.specs.declared.call.Ask.{Ask}
use Rattle.mount_model.specs.declared.reply.Reply.{Reply}
use Rattle.mount_model.specs.History.{Event}
use Rattle.mount_model.specs.State.{State}
use Rattle.mount_model.specs.Step.{IsStep}
use Rattle.mount_sound.specs.Owed.{May, Permits}
use Rattle.mount_model.specs.Process.{ends, pauses, tells, asks, shares}
use Rattle.mount_model.specs.Safe.{IsSafeProcess}
use Rattle.mount_model.specs.Turns.{TakesTurn, Finishes}
use Rattle.script_lang.specs.declared.line.Line.{Line}
use Rattle.script_lang.specs.declared.script.Numbered.{Numbered}
use Rattle.actor_core.specs.declared.kept.Kept.{Kept}
use Rattle.actor_core.specs.Work.{Work}
use Rattle.actor_core.specs.Progress.{Progress, idle, going, asked, handed, told, next_ask, ask_of, given, waiting_line, line_taken, line_of, IsIdle, IsReady, IsAsked}
use Rattle.run_core.specs.Course.{Course, one_by_one}
use Rattle.run_core.specs.Written.{is_greeting}
use Rattle.run_core.specs.Coming.{ComesToLine}
use Rattle.run_core.specs.Players.{IsSafeProgress, course_at, in_progress}

pub same_some : {X : Type 0} (a b : X) → Some a ≡ Some b → a ≡ b
same_some a b e = cc

-- How the actor that calls under this number goes on in this state of the mount once this question is out.
pub record AsksNext (me : ℕ) (now : State) (old : Progress) (question : Ask) : Type 0 where
  pub number : ℕ
  pub next : Reply → Work
  pub out : given old ≡ asked number next
  pub busy : in_progress old ≡ 1
  pub may : May now me question
  pub safe : (reply : Reply) (after : State) → IsStep now me question reply after → IsSafeProgress me (going number (next reply)) after
  pub turn : (n : ℕ) (statements : List Numbered) (later : Kept → Course) (e : Event) (more : List Event) (lines : List Line) (left : Course) → e.caller ≡ n → e.ask ≡ question
      → MatchBool (is_greeting question) (TakesTurn is_greeting n (course_at (going number (next e.reply)) statements later) more lines left) ((more ≡ []) × (lines ≡ []) × (left ≡ course_at (going number (next e.reply)) statements later))
      → TakesTurn is_greeting n (course_at old statements later) (e ∷ more) lines left
  pub finishes : (n : ℕ) (statements : List Numbered) (later : Kept → Course) (e : Event) (more : List Event) (line : Line) (left : Course) → e.caller ≡ n → e.ask ≡ question
      → Finishes n (course_at (going number (next e.reply)) statements later) more line left
      → Finishes n (course_at old statements later) (e ∷ more) line left

asks_work : (me : ℕ) (now : State) (number : ℕ) (work : Work) (question : Ask) → ComesToLine work → IsSafeProcess IsStep Permits me work now → Some question ≡ next_ask work → AsksNext me now (going number work) question
asks_work me now number ends question comes safe is = absurd comes
asks_work me now number (pauses work) question comes safe is = absurd comes
asks_work me now number (tells ending work) question comes safe is = absurd (cc)
asks_work me now number (asks q k) question comes safe is =
    let same : question ≡ q = same_some question q is in
    let here = safe [] tt in
    record {
      number = number;
      next = k;
      out = refl;
      busy = refl;
      may = subst (λ (z : Ask). May now me z) (sym same) here.0.1;
      safe = λ reply after step. (comes reply, here.1 reply after (subst (λ (z : Ask). IsStep now me z reply after) same step));
      turn = λ n statements later e more lines left own asked_it goes.
          let T : Ask → Type 0 = λ z. MatchBool (is_greeting z) (TakesTurn is_greeting n (course_at (going number (k e.reply)) statements later) more lines left) ((more ≡ []) × (lines ≡ []) × (left ≡ course_at (going number (k e.reply)) statements later)) in
          (own, asked_it ∙ same, subst T same goes);
      finishes = λ n statements later e more line left own asked_it goes. (own, asked_it ∙ same, goes);
    }
asks_work me now number (shares programs k alone) question comes safe is =
    let a = asks_work me now number alone question comes.1 safe.1 is in
    record { number = a.number; next = a.next; out = a.out; busy = refl; may = a.may; safe = a.safe; turn = a.turn; finishes = a.finishes }

pub asks_next : (me : ℕ) (now : State) (old : Progress) (question : Ask) → IsSafeProgress me old now → Some question ≡ ask_of old → AsksNext me now old question
asks_next me now (idle kept) question safe is = absurd (cc)
asks_next me now (going number work) question safe is = asks_work me now number work question safe.0 safe.1 is
asks_next me now (asked number k) question safe is = absurd safe
asks_next me now (handed number k) question safe is = absurd safe
asks_next me now (told line kept) question safe is = absurd (cc)

-- How an actor goes on from its line.
pub record TellsNext (old : Progress) (line : Line) : Type 0 where
  pub kept : Kept
  pub out : given old ≡ told line kept
  pub busy : in_progress old ≡ 1
  pub turn : (n : ℕ) (statements : List Numbered) (later : Kept → Course) (more : List Event) (lines : List Line) (left : Course)
      → TakesTurn is_greeting n (one_by_one statements later kept) more lines left
      → TakesTurn is_greeting n (course_at old statements later) more (line ∷ lines) left
  pub finishes : (n : ℕ) (statements : List Numbered) (later : Kept → Course) → Finishes {S = State} n (course_at old statements later) [] line (one_by_one statements later kept)

-- without a further call, an actor has its line, or no statement is in progress
pub data HasNoCall (old : Progress) : Type 0 where
  rests : (kept : Kept) → old ≡ idle kept → HasNoCall old
  says : (line : Line) → TellsNext old line → HasNoCall old

no_call_work : (number : ℕ) (work : Work) → ComesToLine work → None ≡ next_ask work → (line : Line) × TellsNext (going number work) line
no_call_work number ends comes is = absurd comes
no_call_work number (pauses work) comes is = absurd comes
no_call_work number (tells ending work) comes is = (
  line_of number ending,
  record { kept = ending.kept; out = refl; busy = refl; turn = λ n statements later more lines left goes. (lines, refl, goes); finishes = λ n statements later. (refl, refl, refl) },
)
no_call_work number (asks q k) comes is = absurd (cc)
no_call_work number (shares programs k alone) comes is =
    let a = no_call_work number alone comes.1 is in
    (a.0, record { kept = a.1.kept; out = a.1.out; busy = refl; turn = a.1.turn; finishes = a.1.finishes })

pub no_call : (me : ℕ) (now : State) (old : Progress) → IsSafeProgress me old now → None ≡ ask_of old → HasNoCall old
no_call me now (idle kept) safe is = rests kept refl
no_call me now (going number work) safe is = let a = no_call_work number work safe.0 is in says a.0 a.1
no_call me now (asked number k) safe is = absurd safe
no_call me now (handed number k) safe is = absurd safe
no_call me now (told line kept) safe is = says line (record { kept = kept; out = refl; busy = refl; turn = λ n statements later more lines left goes. (lines, refl, goes); finishes = λ n statements later. (refl, refl, refl) })

pub ready : (me : ℕ) (now : State) (progress : Progress) → IsSafeProgress me progress now → IsReady progress
ready me now (idle kept) safe = tt
ready me now (going number work) safe = tt
ready me now (asked number k) safe = absurd safe
ready me now (handed number k) safe = absurd safe
ready me now (told line kept) safe = tt

pub is_out : (me : ℕ) (now : State) (old : Progress) (question : Ask) → AsksNext me now old question → (new : Progress) → new ≡ given old → IsAsked new
is_out me now old question a new is = subst IsAsked (sym (is ∙ a.out)) tt

pub not_idle : (progress : Progress) (number : ℕ) (work : Work) → progress ≡ going number work → IsIdle progress → ⊥
not_idle progress number work is idles = let P : Progress → Type 0 = λ z. IsIdle z in subst P is idles

pub idle_kept : (progress : Progress) → IsIdle progress → (kept : Kept) × (progress ≡ idle kept)
idle_kept (idle kept) rest = (kept, refl)
idle_kept (going number work) rest = absurd rest
idle_kept (asked number k) rest = absurd rest
idle_kept (handed number k) rest = absurd rest
idle_kept (told line kept) rest = absurd rest

-- a statement without a further call has its line
pub record HasItsLine (old mid : Progress) : Type 0 where
  pub line : Line
  pub next : TellsNext old line
  pub waits : waiting_line mid ≡ Some line
  pub leaves : line_taken mid ≡ idle next.kept

pub its_line : (me : ℕ) (now : State) (old mid : Progress) → IsSafeProgress me old now → (IsIdle old → ⊥) → None ≡ ask_of old → mid ≡ given old → HasItsLine old mid
its_line me now old mid safe busy none is = elim (no_call me now old safe none) as (λ _. HasItsLine old mid) [
  | rests kept same ↦ absurd (busy (let P : Progress → Type 0 = λ z. IsIdle z in subst P (sym same) tt))
  | says line t ↦ record { line = line; next = t; waits = ap waiting_line (is ∙ t.out); leaves = ap line_taken (is ∙ t.out) }
]

pub no_line_left : (me : ℕ) (now : State) (old mid : Progress) (found : Option Line) → IsSafeProgress me old now → (IsIdle old → ⊥) → None ≡ ask_of old → mid ≡ given old → found ≡ waiting_line mid → found ≡ None → ⊥
no_line_left me now old mid found safe busy none is waits gone =
    let h = its_line me now old mid safe busy none is in
    let bad : None ≡ Some h.line = sym gone ∙ (waits ∙ h.waits) in
    cc
