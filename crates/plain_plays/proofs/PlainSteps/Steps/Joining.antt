-- An opening of an actor is a step of a plain machine, where nobody else calls.
use Rattle.std.proofs.Common.{◌≡◌, ◌≢◌, ℕ, List, [], ◌∷◌, Option, Some, None, Result, refl, sym, ap, ◌∙◌, inl, inr, subst}
use Rattle.std.specs.Prelude.{MatchOption, slice_get}
use Rattle.script_lang.specs.declared.line.Outcome.TheVariants.{Refused}
use Rattle.script_lang.specs.declared.line.Why.TheVariants as why
use Rattle.script_lang.specs.declared.script.ActorDecl.{ActorDecl}
use Rattle.script_lang.specs.declared.script.Statement.TheVariants.{Open}
use Rattle.mount_model.specs.declared.call.Ask.{Ask}
use Rattle.mount_model.specs.declared.call.Call.TheVariants.{MakeContainer}
use Rattle.mount_model.specs.History.{Event}
use Rattle.mount_model.specs.Paths.{Name}
use Rattle.mount_model.specs.Step.{Answers}
use Rattle.mount_sound.specs.Issued.{issued_after}
use Rattle.mount_sound.specs.Owed.{IsLawful}
use Rattle.mount_model.specs.declared.stuck.Stuck.{Stuck}
use Rattle.mount_model.specs.Running.{Runs}
use Rattle.reader_laws.specs.Moments.{Moment, moment_after, next_moment}
use Rattle.outcomes.specs.Outcomes.{open_outcome}
use Rattle.writer_flow.specs.declared.handle.WriterHandle.{WriterHandle}
use Rattle.writer_flow.specs.Opening.{if_made, open_program}
use Rattle.plain_machine.specs.Machine.{Plain, PlainActor, PlainOwn}
use Rattle.plain_machine.specs.Becoming.{made}
use Rattle.plain_machine.specs.Cases.{InRoom, IsRefused}
use Rattle.plain_machine.specs.Finding.{find}
use Rattle.plain_machine.specs.Writers.{Enters, Opens}
use Rattle.mount_model.specs.History.{AreBy}
use Rattle.plain_plays.specs.Mirrors.{Mirrors, MirrorsAt, MirrorsHandle, room_then, room_told}
use Rattle.plain_plays.specs.Served.{GoesWell}
use Rattle.plain_plays.specs.Stepping.{HasActor, TakesStep, handle_in}
use Rattle.plain_plays.proofs.PlainSteps.Steps.Alone.{first_call}
use Rattle.plain_plays.proofs.PlainSteps.Entering.{IsContainerAt, its_room, made_there}
use Rattle.plain_plays.proofs.PlainSteps.Steps.Making.{HasRoomNow, container_made, some_room}
use Rattle.plain_plays.proofs.PlainSteps.Steps.Owners.{by_another, own_stays}
use Rattle.plain_plays.proofs.PlainSteps.Steps.Entered.{enters_so, more_rooms}

-- ---- an opening

no_writer : (m : Moment) (me : ℕ) (p : Plain) (own : Option PlainOwn) → MirrorsHandle m me p None own → own ≡ None
no_writer m me p None x = refl
no_writer m me p (Some own) x = absurd x

-- one that has a writer is refused
pub already : (place : ℕ) (declared : ActorDecl) (actor : PlainActor) (p : Plain) (name : Name) (own : PlainOwn) → actor.writer ≡ Some own → Opens place declared actor p name (Refused why.AlreadyOpen) p
already place declared actor p name own e = subst (λ w. MatchOption w (let x = made p name (find p name) in InRoom x.0 x.1 (λ room. Enters place declared actor x.0 x.1 room (Refused why.AlreadyOpen) p)) (λ (o : PlainOwn). IsRefused (Refused why.AlreadyOpen) why.AlreadyOpen p p)) (sym e) (refl, refl)

-- An opening ends as the machine's does.
pub open_takes : (m : Moment) (me : ℕ) (p : Plain) (actor : PlainActor) → Mirrors m p → HasActor m me p None actor → (declared : ActorDecl) (name : Name) (events : List Event) (out : Result WriterHandle Stuck) → IsLawful m.state events → GoesWell me events → AreBy me events → Runs me (open_program name declared.host declared.cap) events out
    → TakesStep m me declared actor p (Open name) (open_outcome out) (moment_after m events) (handle_in out)
open_takes m me p actor o has declared name events out lawful well by runs =
    let none : actor.writer ≡ None = no_writer m me p actor.writer has.its_own in
    let a = first_call m me (MakeContainer name) (if_made declared.host declared.cap) events out o.sound lawful well by runs in
    let m1 : Moment = next_moment m a.event in
    elim a.served as (λ _. TakesStep m me declared actor p (Open name) (open_outcome out) (moment_after m events) (handle_in out)) [
      | inr (why, told, reason) ↦ absurd reason
      | inl (n, told) ↦
          let answers = subst (λ x. Answers m.state me (MakeContainer name) x a.event.after) told a.answers in
          let ledger : m1.issued ≡ m.issued = ap (λ (x : Ask). issued_after m.issued m.state x.call a.event.reply) a.asked in
          let c = container_made m me p name n a.event o a.sound ledger answers in
          let had : IsContainerAt n m1 = made_there m me name n a.event o.sound a.sound answers in
          let r = its_room m1 a.sound n had in
          let tree_there : room_then m1 n ≡ Some r.0 = ap (λ t. room_told t n) a.sound.shape.told ∙ r.1 in
          let s = some_room m1 n r.0 (slice_get c.now.rooms n) (subst (λ x. MirrorsAt m1 n x (slice_get c.now.rooms n)) tree_there (c.mirrors.rooms n)) in
          let there : slice_get c.now.actors me ≡ Some actor = ap (λ (l : List PlainActor). slice_get l me) c.actors ∙ has.there in
          let e = enters_so m1 me c.now actor declared n s.0 c.mirrors there none s.1 had a.rest out a.whole.2 a.well a.by (subst (λ x. Runs me (if_made declared.host declared.cap x) a.rest out) told a.runs) in
          subst (λ x. TakesStep m me declared actor p (Open name) (open_outcome out) x (handle_in out)) a.ends (record {
            new = e.new;
            takes = subst (λ w. MatchOption w (let x = made p name (find p name) in InRoom x.0 x.1 (λ room. Enters me declared actor x.0 x.1 room (open_outcome out) e.new)) (λ own. IsRefused (open_outcome out) why.AlreadyOpen p e.new)) (sym none)
                (subst (λ (x : Plain × ℕ). InRoom x.0 x.1 (λ room. Enters me declared actor x.0 x.1 room (open_outcome out) e.new)) (sym c.is) (s.0, s.1, e.takes));
            mirrors = e.mirrors;
            left = e.left;
            its_actor = e.its_actor;
            reader = e.reader;
            others = λ other apart. e.others other apart ∙ ap (λ (l : List PlainActor). slice_get l other) c.actors;
            handles = λ other h own apart x. e.handles other h own apart (earlier n a.event c a.rest a.whole (a.own, tt) other h own apart x);
          })
    ]
  where
    earlier : (n : ℕ) (event : Event) (c : HasRoomNow m (next_moment m event) p name n) (rest : List Event) → IsLawful m.state (event ∷ rest) → AreBy me (event ∷ []) → (other : ℕ) (h : Option WriterHandle) (own : Option PlainOwn) → other ≢ me → MirrorsHandle m other p h own → MirrorsHandle (next_moment m event) other c.now h own
    earlier n event c rest whole by_it other None None apart x = tt
    earlier n event c rest whole by_it other (Some h) None apart x = absurd x
    earlier n event c rest whole by_it other None (Some own) apart x = absurd x
    earlier n event c rest whole by_it other (Some h) (Some own) apart x = (x.0, more_rooms p c.now own x.0 c.rooms x.1, own_stays (event ∷ []) m other own.room h x.0 (whole.0, whole.1, tt) (by_another (event ∷ []) me other apart by_it) x.2)
