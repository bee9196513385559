-- How a caller comes to the next call of a program on its writer, and to its end.
use Rattle.std.proofs.Common.{◌≡◌, ◌≢◌, inl, inr, ℕ, List, [], ◌∷◌, refl, ap, ◌∙◌, subst}
use Rattle.mount_model.specs.declared.call.Ask.{Ask}
use Rattle.mount_model.specs.declared.call.Call.{Call}
use Rattle.mount_model.specs.declared.reply.Reply.{Reply}
use Rattle.mount_model.specs.declared.row.Row.{Row}
use Rattle.mount_model.specs.History.{Event}
use Rattle.mount_model.specs.Step.{Answers}
use Rattle.mount_sound.specs.Owed.{IsLawful}
use Rattle.mount_model.specs.Program.{Program, ask, done}
use Rattle.mount_model.specs.Running.{Runs, unbroken}
use Rattle.mount_model.proofs.Flows.Facts.{runs_done, runs_next}
use Rattle.reader_laws.specs.Moments.{Dropping, Moment, landed, moment_after, next_moment}
use Rattle.reader_laws.proofs.Gathered.Moments.Stepping.{sound_next}
use Rattle.writer_laws.proofs.Stops.{spared_row, whole_answers}
use Rattle.headline_laws.proofs.Landed.Between.{AtPlace}
use Rattle.headline_laws.proofs.Landed.Sparing.{spared_next}

module _ (me : ℕ) (d : Dropping) where
  -- another caller's call leaves it there
  pub later : (m : Moment) (e : Event) (rest : List Event) (row : Row) → AtPlace m me d row → IsLawful m.state (e ∷ rest) → (e.caller ≢ me) → AtPlace (next_moment m e) me d row
  later m e rest row at lawful other = record {
    sound = sound_next m e rest lawful at.sound;
    has = spared_row me d.writer row m.state e.caller e.ask e.reply e.after (λ mine. absurd (other mine)) at.has lawful.1;
    room = at.room;
    host = at.host;
  }

  -- The program's next call was made. Until then the row is as before, and nothing has landed.
  pub record Reach {R : Type 0} (m : Moment) (row : Row) (q : Call) (k : Reply → Program Call Reply R) (events : List Event) (out : R) : Type 0 where
    pub mid : Moment
    pub event : Event
    pub rest : List Event
    pub at : AtPlace mid me d row
    pub same : landed mid d ≡ landed m d
    pub asked : event.ask ≡ unbroken q
    pub own : event.caller ≡ me
    pub answers : Answers mid.state me q event.reply event.after
    pub lawful : IsLawful mid.state (event ∷ rest)
    pub runs : Runs me (k event.reply) rest out
    pub ends : moment_after (next_moment mid event) rest ≡ moment_after m events

  pub reach : {R : Type 0} (m : Moment) (row : Row) (q : Call) (k : Reply → Program Call Reply R) (events : List Event) (out : R) → AtPlace m me d row → IsLawful m.state events → Runs me (ask q k) events out → Reach m row q k events out
  reach m row q k [] out at lawful runs = absurd runs
  reach {R} m row q k (event ∷ events) out at lawful runs = elim (runs_next me q k event events out runs) as (λ _. Reach m row q k (event ∷ events) out) [
    | inl (other, on) ↦
        let g = reach (next_moment m event) row q k events out (later m event events row at lawful other) lawful.2 on in
        record {
          mid = g.mid;
          event = g.event;
          rest = g.rest;
          at = g.at;
          same = g.same ∙ spared_next m event events me d row at lawful (λ mine. absurd (other mine));
          asked = g.asked;
          own = g.own;
          answers = g.answers;
          lawful = g.lawful;
          runs = g.runs;
          ends = g.ends;
        }
    | inr (mine, asked, on) ↦ record {
      mid = m;
      event = event;
      rest = events;
      at = at;
      same = refl;
      asked = asked;
      own = mine;
      answers = subst (λ c. Answers m.state me c event.reply event.after) (ap (λ (a : Ask). a.call) asked) (subst (λ n. Answers m.state n event.ask.call event.reply event.after) mine (whole_answers m.state event.caller event.ask event.reply event.after (ap (λ (a : Ask). a.stop) asked) lawful.1));
      lawful = lawful;
      runs = on;
      ends = refl;
    }
  ]

  -- The program is over: the row stays, and nothing lands.
  pub record Over {R : Type 0} (m : Moment) (row : Row) (r : R) (events : List Event) (out : R) : Type 0 where
    pub at : AtPlace (moment_after m events) me d row
    pub same : landed (moment_after m events) d ≡ landed m d
    pub is : r ≡ out

  pub over : {R : Type 0} (m : Moment) (row : Row) (r : R) (events : List Event) (out : R) → AtPlace m me d row → IsLawful m.state events → Runs me (done r) events out → Over m row r events out
  over m row r [] out at lawful runs = record { at = at; same = refl; is = runs.1 }
  over {R} m row r (event ∷ events) out at lawful runs =
      let more = runs_done me r event events out runs in
      let o = over (next_moment m event) row r events out (later m event events row at lawful more.0) lawful.2 more.1 in
      record { at = o.at; same = o.same ∙ spared_next m event events me d row at lawful (λ mine. absurd (more.0 mine)); is = o.is }
