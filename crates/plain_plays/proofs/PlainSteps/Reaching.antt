-- How a caller whose calls go well comes to the next one, whatever others call before it.
use Rattle.std.proofs.Common.{append_assoc, ◌≡◌, ◌≢◌, ◌⊎◌, ℕ, List, [], ◌∷◌, ◌++◌, None, refl, ap, inl, inr, subst, ◌∙◌, sym}
use Rattle.mount_model.specs.declared.call.Ask.{Ask}
use Rattle.mount_model.specs.declared.call.Call.{Call}
use Rattle.mount_model.specs.declared.reply.Refusal.{Refusal}
use Rattle.mount_model.specs.declared.reply.Reply.{Reply}
use Rattle.mount_model.specs.declared.reply.Reply.TheVariants.{Refused}
use Rattle.mount_model.specs.Replies.{IsAnswerTo}
use Rattle.mount_model.specs.History.{Event}
use Rattle.mount_model.specs.State.{State}
use Rattle.mount_model.specs.Step.{Answers}
use Rattle.mount_sound.specs.Owed.{IsLawful, May}
use Rattle.mount_model.specs.Program.{Program, ask, done}
use Rattle.mount_model.specs.Running.{Runs, unbroken}
use Rattle.mount_model.proofs.Flows.Facts.{runs_done, runs_next}
use Rattle.reader_laws.specs.Moments.{IsSoundAt, Moment, moment_after, next_moment}
use Rattle.reader_laws.proofs.Gathered.Facts.{moment-append, sound_after}
use Rattle.refusal_laws.specs.Reasons.{HasReason}
use Rattle.refusal_laws.proofs.Facts.{does_work}
use Rattle.writer_laws.proofs.Stops.{whole_answers}
use Rattle.plain_plays.specs.Calls.{AtSome, HasCalled}
use Rattle.mount_model.specs.History.{AreBy}
use Rattle.plain_plays.specs.Served.{GoesWell}

-- what others call keeps it
abbrev pub StaysUnderOthers : ℕ → (Moment → Type 0) → Type 0
StaysUnderOthers me fact = (m : Moment) (event : Event) (rest : List Event) → IsSoundAt m → IsLawful m.state (event ∷ rest) → event.caller ≢ me → fact m → fact (next_moment m event)

-- the call did its work, or was refused for its reason
abbrev pub IsServed : ℕ → State → Call → Reply → Type 0
IsServed me old q reply = IsAnswerTo q reply ⊎ ((why : Refusal) × (reply ≡ Refused why) × HasReason old me q why)

module _ (me : ℕ) (fact : Moment → Type 0) (stays : StaysUnderOthers me fact) where
  -- The next call was made at this moment, and was served. What others keep holds there.
  pub record Reached {R : Type 0} (m : Moment) (q : Call) (k : Reply → Program Call Reply R) (events : List Event) (out : R) : Type 0 where
    pub mid : Moment
    pub event : Event
    pub rest : List Event
    pub sound : IsSoundAt mid
    pub holds : fact mid
    pub before : List Event
    pub split : events ≡ before ++ event ∷ rest
    pub at : mid ≡ moment_after m before
    pub own : event.caller ≡ me
    pub asked : event.ask ≡ unbroken q
    pub may : May mid.state me (unbroken q)
    pub answers : Answers mid.state me q event.reply event.after
    pub served : IsServed me mid.state q event.reply
    pub then_sound : IsSoundAt (next_moment mid event)
    pub whole : IsLawful mid.state (event ∷ rest)
    pub lawful : IsLawful event.after rest
    pub well : GoesWell me rest
    pub runs : Runs me (k event.reply) rest out
    pub ends : moment_after (next_moment mid event) rest ≡ moment_after m events
    pub alone : AreBy me events → (mid ≡ m) × AreBy me rest

  pub reached : {R : Type 0} (m : Moment) (q : Call) (k : Reply → Program Call Reply R) (events : List Event) (out : R) → IsSoundAt m → IsLawful m.state events → GoesWell me events → fact m → Runs me (ask q k) events out → Reached m q k events out
  reached m q k [] out sound lawful well holds runs = absurd runs
  reached {R} m q k (event ∷ events) out sound lawful well holds runs =
      let later : IsSoundAt (next_moment m event) = sound_after m (event ∷ []) (lawful.0, lawful.1, tt) sound in
      elim (runs_next me q k event events out runs) as (λ _. Reached m q k (event ∷ events) out) [
        | inl (other, on) ↦
            let r = reached (next_moment m event) q k events out later lawful.2 well.1 (stays m event events sound lawful other holds) on in
            record {
              mid = r.mid;
              event = r.event;
              rest = r.rest;
              sound = r.sound;
              holds = r.holds;
              before = event ∷ r.before;
              split = ap (λ (l : List Event). event ∷ l) r.split;
              at = r.at;
              own = r.own;
              asked = r.asked;
              may = r.may;
              answers = r.answers;
              served = r.served;
              then_sound = r.then_sound;
              whole = r.whole;
              lawful = r.lawful;
              well = r.well;
              runs = r.runs;
              ends = r.ends;
              alone = λ by. absurd (other by.0);
            }
        | inr (mine, asked, on) ↦
            let whole : event.ask.stop ≡ None = ap (λ (a : Ask). a.stop) asked in
            let is : event.ask.call ≡ q = ap (λ (a : Ask). a.call) asked in
            record {
              mid = m;
              event = event;
              rest = events;
              sound = sound;
              holds = holds;
              before = [];
              split = refl;
              at = refl;
              own = mine;
              asked = asked;
              may = subst (λ a. May m.state me a) asked (subst (λ n. May m.state n event.ask) mine lawful.0);
              answers = subst (λ c. Answers m.state me c event.reply event.after) is (subst (λ n. Answers m.state n event.ask.call event.reply event.after) mine (whole_answers m.state event.caller event.ask event.reply event.after whole lawful.1));
              served = subst (λ c. IsServed me m.state c event.reply) is (subst (λ n. IsServed n m.state event.ask.call event.reply) mine
                  (does_work m.issued m.state event.after event.caller event.ask event.reply lawful.0 lawful.1 sound whole (well.0 mine).0 (well.0 mine).1));
              then_sound = later;
              whole = lawful;
              lawful = lawful.2;
              well = well.1;
              runs = on;
              ends = refl;
              alone = λ by. (refl, by.1);
            }
      ]

-- a program that is over has come to its result
pub ended : {R : Type 0} (me : ℕ) (r : R) (events : List Event) (out : R) → Runs me (done r) events out → r ≡ out
ended me r [] out runs = runs.1
ended me r (event ∷ events) out runs = ended me r events out (runs_done me r event events out runs).1

-- where nobody else calls, nothing is called behind its end
pub over_alone : {R : Type 0} (me : ℕ) (r : R) (events : List Event) (out : R) → AreBy me events → Runs me (done r) events out → events ≡ []
over_alone me r [] out by runs = refl
over_alone me r (event ∷ events) out by runs = absurd ((runs_done me r event events out runs).0 by.0)

-- a moment of later events is one of all
pub some_later : (m : Moment) (before : List Event) (event : Event) (rest events : List Event) (holds : Moment → Type 0) → events ≡ before ++ event ∷ rest → AtSome (next_moment (moment_after m before) event) rest holds → AtSome m events holds
some_later m before event rest events holds split a = record {
  before = before ++ event ∷ a.before;
  later = a.later;
  split = split ∙ ap (λ (l : List Event). before ++ event ∷ l) a.split ∙ sym (append_assoc before (event ∷ a.before) a.later);
  held = subst holds (sym (moment-append m before (event ∷ a.before))) a.held;
}

-- a call of later events is one of all
pub called_later : (me : ℕ) (call : Call) (reply : Reply) (before : List Event) (event : Event) (rest events : List Event) → events ≡ before ++ event ∷ rest → HasCalled me call reply rest → HasCalled me call reply events
called_later me call reply before event rest events split c = record {
  before = before ++ event ∷ c.before;
  event = c.event;
  later = c.later;
  split = split ∙ ap (λ (l : List Event). before ++ event ∷ l) c.split ∙ sym (append_assoc before (event ∷ c.before) (c.event ∷ c.later));
  own = c.own;
  asked = c.asked;
  told = c.told;
}
