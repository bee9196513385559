-- What an actor does next in its statement, by its pass.
use Rattle.std.proofs.Common.{◌≡◌, ◌≢◌, ℕ, List, [], ◌∷◌, length, Option, Some, None, refl, sym, ap, ◌∙◌, subst, arith}
use Rattle.turn_object.specs.History.{state_after, Happens}
use Rattle.turn_object.specs.Callers.{MayCallAs}
use Rattle.turn_object.specs.Front.{KeepsIn, IsLegalFront}
use Rattle.turn_object.specs.Calls.{MayAsk, IsCalled}
use Rattle.turn_object.specs.Pass.{start_of, front, IsPassOf}
use Rattle.mount_model.specs.declared.call.Ask.{Ask}
use Rattle.mount_model.specs.declared.reply.Reply.{Reply}
use Rattle.mount_model.specs.declared.reply.Reply.TheVariants.{NoMemory}
use Rattle.mount_model.specs.State.{State}
use Rattle.mount_model.specs.Step.{IsStep}
use Rattle.mount_model.specs.History.{Event}
use Rattle.mount_sound.specs.Owed.{Permits}
use Rattle.mount_sound.specs.Sound.{IsFine}
use Rattle.mount_sound.proofs.Facts.{step_fine}
use Rattle.script_lang.specs.declared.line.Line.{Line}
use Rattle.script_lang.specs.declared.script.Numbered.{Numbered}
use Rattle.mount_model.specs.Process.{ends, pauses, tells, asks, shares}
use Rattle.mount_model.specs.Safe.{PassSafeProcess}
use Rattle.mount_model.proofs.Stories.Facts.{process_may, safe_call}
use Rattle.actor_core.specs.declared.kept.Kept.{Kept}
use Rattle.actor_core.specs.Work.{Work}
use Rattle.actor_core.specs.Progress.{Progress, idle, going, asked, handed, told, next_ask, ask_of, given, with_reply, waiting_line, line_taken, line_of, IsIdle, IsReady, IsAsked}
use Rattle.run_core.specs.Course.{Course, then_line, one_by_one}
use Rattle.run_core.specs.Players.{ComesToLine, IsSafeProgress, course_at}
use Rattle.run_core.proofs.Facts.{same_some}
use Rattle.share_workers.specs.Passes.{View, ThePass, TheTurn}
use Rattle.thread_runs.specs.Going.{Goes}
use Rattle.thread_runs.specs.Driving.{MayGoOn, IsBrokenOff, ComesToIts, IsDriven}
use Rattle.thread_runs.proofs.Going.{breaks_none, breaks_after, breaks_call, breaks_alone, goes_none, goes_then, goes_tells, goes_call, goes_alone}

-- a state after allowed calls from a fine one is fine
pub fine_along : (start : State) (events : List Event) → Happens IsStep Permits start events → IsFine start → IsFine (state_after start events)
fine_along start [] happens fine = fine
fine_along start (e ∷ es) happens fine = fine_along e.after es happens.2 (step_fine start e.after e.caller e.ask e.reply happens.0.1 happens.1 fine)

-- a number under which the pass may call
pub a_number : (seen mine : List Event) → (n : ℕ) × MayCallAs seen mine n
a_number seen [] = (length seen, omega arith)
a_number seen (e ∷ es) = (e.caller, refl)

pub as_one : (start : State) (v : View) (progress : Progress) → MayGoOn start v progress → (n : ℕ) × IsSafeProgress n progress (state_after start v.seen)
as_one start v progress may = let n = a_number v.seen v.mine in (n.0, may n.0 n.1)

-- How the actor goes on once this question is out.
pub record PassAsks (start : State) (v : View) (old : Progress) (question : Ask) : Type 0 where
  pub number : ℕ
  pub next : Reply → Work
  pub out : given old ≡ asked number next
  pub may : MayAsk Permits start v question
  pub safe : (w : View) (reply : Reply) → IsCalled IsStep Permits start v question reply w → IsLegalFront IsStep Permits start w → MayGoOn start w (going number (next reply))
  pub goes : (w : View) (reply : Reply) → IsCalled IsStep Permits start v question reply w → reply ≢ NoMemory → (statements : List Numbered) (later : Kept → Course)
      → Goes v (course_at old statements later) w (course_at (going number (next reply)) statements later) []
  pub breaks : (w : View) (reply : Reply) → IsCalled IsStep Permits start v question reply w → IsBrokenOff v old w

asks_work : (start : State) (v : View) (number : ℕ) (work : Work) (question : Ask) → KeepsIn v.seen v.mine → ComesToLine work → PassSafeProcess IsStep Permits start v work → Some question ≡ next_ask work → PassAsks start v (going number work) question
asks_work start v number ends question own comes safe is = absurd comes
asks_work start v number (pauses work) question own comes safe is = absurd comes
asks_work start v number (tells ending work) question own comes safe is = absurd (cc)
asks_work start v number (asks q k) question own comes safe is =
    let P : Ask → Type 0 = λ z. PassAsks start v (going number (asks q k)) z in
    subst P (sym (same_some question q is)) (record {
      number = number;
      next = k;
      out = refl;
      may = process_may IsStep Permits start v q k safe;
      safe = λ w reply called known caller can. (comes reply, safe_call IsStep Permits start v w q k reply own called known safe caller can);
      goes = λ w reply called memory statements later. goes_call start v w q (λ r. then_line number (λ kept. one_by_one statements later kept) (k r)) reply own called memory;
      breaks = λ w reply called statements later. breaks_call start v w q (λ r. then_line number (λ kept. one_by_one statements later kept) (k r)) reply own called;
    })
asks_work start v number (shares programs k alone) question own comes safe is =
    let a = asks_work start v number alone question own comes.1 (λ caller can. (safe caller can).1) is in
    record {
      number = a.number;
      next = a.next;
      out = a.out;
      may = a.may;
      safe = a.safe;
      goes = λ w reply called memory statements later.
          let next : Kept → Course = λ kept. one_by_one statements later kept in
          goes_alone v w programs (λ results. then_line number next (k results)) (then_line number next alone) (then_line a.number next (a.next reply)) [] (a.goes w reply called memory statements later);
      breaks = λ w reply called statements later.
          let next : Kept → Course = λ kept. one_by_one statements later kept in
          breaks_alone v w programs (λ results. then_line number next (k results)) (then_line number next alone) (a.breaks w reply called statements later);
    }

pub pass_asks : (start : State) (v : View) (old : Progress) (question : Ask) → KeepsIn v.seen v.mine → MayGoOn start v old → Some question ≡ ask_of old → PassAsks start v old question
pass_asks start v (idle kept) question own may is = absurd (cc)
pass_asks start v (going number work) question own may is = asks_work start v number work question own (as_one start v (going number work) may).1.0 (λ caller can. (may caller can).1) is
pass_asks start v (asked number k) question own may is = absurd (as_one start v (asked number k) may).1
pass_asks start v (handed number k) question own may is = absurd (as_one start v (handed number k) may).1
pass_asks start v (told line kept) question own may is = absurd (cc)

-- How the actor tells its line.
pub record PassTells (v : View) (old : Progress) : Type 0 where
  pub line : Line
  pub kept : Kept
  pub out : given old ≡ told line kept
  pub goes : (statements : List Numbered) (later : Kept → Course) → Goes v (course_at old statements later) v (one_by_one statements later kept) (line ∷ [])

tells_work : (v : View) (number : ℕ) (work : Work) → ComesToLine work → None ≡ next_ask work → PassTells v (going number work)
tells_work v number ends comes is = absurd comes
tells_work v number (pauses work) comes is = absurd comes
tells_work v number (tells ending work) comes is = record {
  line = line_of number ending;
  kept = ending.kept;
  out = refl;
  goes = λ statements later. goes_tells v (line_of number ending) (one_by_one statements later ending.kept);
}
tells_work v number (asks q k) comes is = absurd (cc)
tells_work v number (shares programs k alone) comes is =
    let a = tells_work v number alone comes.1 is in
    record {
      line = a.line;
      kept = a.kept;
      out = a.out;
      goes = λ statements later.
          let next : Kept → Course = λ kept. one_by_one statements later kept in
          goes_alone v v programs (λ results. then_line number next (k results)) (then_line number next alone) (next a.kept) (a.line ∷ []) (a.goes statements later);
    }

pass_tells : (v : View) (n : ℕ) (now : State) (old : Progress) → IsSafeProgress n old now → (IsIdle old → ⊥) → None ≡ ask_of old → PassTells v old
pass_tells v n now (idle kept) safe busy is = absurd (busy tt)
pass_tells v n now (going number work) safe busy is = tells_work v number work safe.0 is
pass_tells v n now (asked number k) safe busy is = absurd safe
pass_tells v n now (handed number k) safe busy is = absurd safe
pass_tells v n now (told line kept) safe busy is = record { line = line; kept = kept; out = refl; goes = λ statements later. goes_tells v line (one_by_one statements later kept) }

ready_at : (n : ℕ) (now : State) (progress : Progress) → IsSafeProgress n progress now → IsReady progress
ready_at n now (idle kept) safe = tt
ready_at n now (going number work) safe = tt
ready_at n now (asked number k) safe = absurd safe
ready_at n now (handed number k) safe = absurd safe
ready_at n now (told line kept) safe = tt

-- no reply is awaited, and no results of workers
pub ready_now : (start : State) (v : View) (progress : Progress) → MayGoOn start v progress → IsReady progress
ready_now start v progress may = let one = as_one start v progress may in ready_at one.0 _ progress one.1

module _ {P : Type 0} (turn : TheTurn P) where
  pub driven_first : (pass : ThePass) (progress : Progress) → IsPassOf turn pass → IsLegalFront IsStep Permits (start_of turn) (front pass) → MayGoOn (start_of turn) (front pass) progress → (IsIdle progress → ⊥) → IsDriven turn pass progress pass progress
  driven_first pass progress pass_of known may busy = record {
    after = record { pass = pass_of; known = known; parts = refl };
    may = may;
    busy = busy;
    goes = λ statements later. goes_none (front pass) (course_at progress statements later);
  }

  pub driven_ready : (first now : ThePass) (old progress : Progress) → IsDriven turn first old now progress → IsReady progress
  driven_ready first now old progress d = ready_now (start_of turn) (front now) progress d.may

  pub driven_asks : (first now : ThePass) (old progress : Progress) (question : Ask) → IsDriven turn first old now progress → Some question ≡ ask_of progress → PassAsks (start_of turn) (front now) progress question
  driven_asks first now old progress question d is = pass_asks (start_of turn) (front now) progress question d.after.known.own d.may is

  pub driven_out : (first now : ThePass) (old progress out : Progress) (question : Ask) → IsDriven turn first old now progress → Some question ≡ ask_of progress → out ≡ given progress → IsAsked out
  driven_out first now old progress out question d is goes = subst IsAsked (sym (goes ∙ (driven_asks first now old progress question d is).out)) tt

  -- a call more
  pub driven_more : (first now next : ThePass) (old progress out new : Progress) (question : Ask) (reply : Reply) → IsDriven turn first old now progress → Some question ≡ ask_of progress → out ≡ given progress
      → IsPassOf turn next → IsCalled IsStep Permits (start_of turn) (front now) question reply (front next) → IsLegalFront IsStep Permits (start_of turn) (front next) → reply ≢ NoMemory → new ≡ with_reply out reply → IsDriven turn first old next new
  driven_more first now next old progress out new question reply d is goes pass_of called known memory took =
      let a = driven_asks first now old progress question d is in
      let reached : going a.number (a.next reply) ≡ new = sym (took ∙ ap (λ z. with_reply z reply) (goes ∙ a.out)) in
      let Q : Progress → Type 0 = λ z. IsDriven turn first old next z in
      subst Q reached (record {
        after = record { pass = pass_of; known = known; parts = called.parts ∙ d.after.parts };
        may = a.safe (front next) reply called known;
        busy = λ none. none;
        goes = λ statements later.
            goes_then (front first) (front now) (front next) (course_at old statements later) (course_at progress statements later) (course_at (going a.number (a.next reply)) statements later) [] []
            (d.goes statements later) (a.goes (front next) reply called memory statements later);
      })

  driven_tells : (first now : ThePass) (old progress : Progress) → IsDriven turn first old now progress → None ≡ ask_of progress → PassTells (front now) progress
  driven_tells first now old progress d is = let one = as_one (start_of turn) (front now) progress d.may in pass_tells (front now) one.0 _ progress one.1 d.busy is

  pub has_line : (first now : ThePass) (old progress out : Progress) (found : Option Line) → IsDriven turn first old now progress → None ≡ ask_of progress → out ≡ given progress → found ≡ waiting_line out → found ≡ None → ⊥
  has_line first now old progress out found d is goes waits none =
      let t = driven_tells first now old progress d is in
      let bad : None ≡ Some t.line = sym none ∙ (waits ∙ ap waiting_line (goes ∙ t.out)) in
      cc

  -- its line
  pub driven_line : (first now : ThePass) (old progress out new : Progress) (line : Line) → IsDriven turn first old now progress → None ≡ ask_of progress → out ≡ given progress → Some line ≡ waiting_line out → new ≡ line_taken out
      → ComesToIts line (front first) old (front now) new
  driven_line first now old progress out new line d is goes waits taken =
      let t = driven_tells first now old progress d is in
      let same : t.line ≡ line = sym (same_line line t.line (waits ∙ ap waiting_line (goes ∙ t.out))) in
      let Q : Line → Type 0 = λ z. ComesToIts z (front first) old (front now) new in
      subst Q same (record {
        kept = t.kept;
        rests = taken ∙ ap line_taken (goes ∙ t.out);
        goes = λ statements later.
            goes_then (front first) (front now) (front now) (course_at old statements later) (course_at progress statements later) (one_by_one statements later t.kept) [] (t.line ∷ [])
            (d.goes statements later) (t.goes statements later);
      })
    where
      same_line : (a b : Line) → Some a ≡ Some b → a ≡ b
      same_line a b e = cc

  -- broken off, without a call more
  pub driven_broken : (first now : ThePass) (old progress : Progress) → IsDriven turn first old now progress → IsBrokenOff (front first) old (front now)
  driven_broken first now old progress d = λ statements later.
      breaks_after (front first) (front now) (front now) (course_at old statements later) (course_at progress statements later) [] (d.goes statements later) (breaks_none (front now) (course_at progress statements later))

  -- broken off behind a call more
  pub driven_breaks : (first now next : ThePass) (old progress : Progress) (question : Ask) (reply : Reply) → IsDriven turn first old now progress → Some question ≡ ask_of progress
      → IsCalled IsStep Permits (start_of turn) (front now) question reply (front next) → IsBrokenOff (front first) old (front next)
  driven_breaks first now next old progress question reply d is called = λ statements later.
      breaks_after (front first) (front now) (front next) (course_at old statements later) (course_at progress statements later) [] (d.goes statements later)
      ((driven_asks first now old progress question d is).breaks (front next) reply called statements later)

  -- broken off in what comes then
  pub driven_then_breaks : (first now next : ThePass) (old progress : Progress) → IsDriven turn first old now progress → IsBrokenOff (front now) progress (front next) → IsBrokenOff (front first) old (front next)
  driven_then_breaks first now next old progress d broken = λ statements later.
      breaks_after (front first) (front now) (front next) (course_at old statements later) (course_at progress statements later) [] (d.goes statements later) (broken statements later)
