-- The statements on the actor's writer: it is opened, it writes, and it is synced and closed.
use Rattle.std.proofs.Common.{◌≡◌, ◌≤◌, ◌+◌, ◌||◌, ℕ, List, [], ◌∷◌, length, Option, Some, None, Result, Err, refl, sym, ap, ◌∙◌, subst, arith}
use Rattle.std.specs.Prelude.{◌==◌, nat_le, nat_lt, MatchOption, slice_get}
use Rattle.plfs_types.specs.declared.limits.TheConstants.{MAX_LOG, MAX_SIZE, MAX_STAMP}
use Rattle.script_lang.specs.declared.line.Outcome.{Outcome}
use Rattle.script_lang.specs.declared.line.Outcome.TheVariants.{Damaged, Fault, Refused}
use Rattle.script_lang.specs.declared.line.Why.{Why}
use Rattle.script_lang.specs.declared.line.Why.TheVariants as why
use Rattle.script_lang.specs.declared.script.Data.TheVariants.{Hex}
use Rattle.script_lang.specs.declared.script.Statement.{Statement}
use Rattle.script_lang.specs.declared.script.Statement.TheVariants.{Close, Open, Sync, Write}
use Rattle.mount_model.specs.Paths.{Name}
use Rattle.mount_model.specs.State.{State}
use Rattle.mount_model.specs.declared.reply.Refusal.{Refusal}
use Rattle.mount_model.specs.declared.stuck.Stuck.{Stuck}
use Rattle.mount_model.specs.declared.stuck.Stuck.TheVariants as stuck
use Rattle.mount_sound.specs.Entries.{logged}
use Rattle.mount_sound.specs.Ledger.{entries_in}
use Rattle.reader_laws.specs.Moments.{Moment, moment_after}
use Rattle.unit_format.specs.Units.{SmallFile, unit_spelling}
use Rattle.pack_files.specs.Putting.{put_program}
use Rattle.lone_flow.specs.Driving.{Makes}
use Rattle.outcomes.specs.Outcomes.{close_outcome, open_outcome, stuck_outcome, sync_outcome, write_outcome}
use Rattle.writer_flow.specs.Closing.{close_program}
use Rattle.writer_flow.specs.declared.handle.WriterHandle.{WriterHandle}
use Rattle.writer_flow.specs.declared.handle.WriterOut.{WriterOut}
use Rattle.writer_flow.specs.Opening.{open_program}
use Rattle.writer_flow.specs.Syncing.{sync_program}
use Rattle.plain_machine.specs.Machine.{Plain, PlainActor, PlainOwn, PlainRoom, PlainWriter}
use Rattle.plain_machine.specs.Becoming.{is_spent, made}
use Rattle.plain_machine.specs.Cases.{IsRefused, OnOwn}
use Rattle.plain_machine.specs.Finding.{find, owned_writer}
use Rattle.plain_machine.specs.Landed.{last_of}
use Rattle.plain_machine.specs.Statements.{Takes}
use Rattle.plain_machine.specs.Writers.{Enters, Syncs, Writes, WritesNow}
use Rattle.plain_plays.specs.Packings.{packer}
use Rattle.plain_plays.specs.Stepping.{HasActor, handle_in}
use Rattle.plain_plays.proofs.Dead.{either_so, maybe_so}
use Rattle.plain_plays.proofs.Packings.Called.{MeetsNoFault, called}
use Rattle.plain_plays.proofs.Packings.Taking.{HasTaken, IsThere, one_taken, zero_line}
use Rattle.plain_plays.proofs.PlainSteps.Facts.{close_takes, its_own, open_takes, sync_takes}
use Rattle.plain_plays.proofs.PlainSteps.Steps.Keeping.{write_steps}
use Rattle.plain_plays.proofs.Standing.{no_own_writer}

-- ---- troubles that a machine tells

-- a trouble that is a refusal
abbrev pub IsRefusalOf : Stuck → Type 0
IsRefusalOf trouble = (because : Refusal) × (trouble ≡ stuck.Refused because)

abbrev IsTrouble : Outcome → Type 0
IsTrouble Fault = Unit {0}
IsTrouble (Damaged folder file place) = Unit {0}
IsTrouble (Refused because) = Unit {0}
IsTrouble other = ⊥

trouble_is : (trouble : Stuck) → IsTrouble (stuck_outcome trouble)
trouble_is stuck.Fault = tt
trouble_is (stuck.Damaged folder file place) = tt
trouble_is (stuck.Refused because) = tt

-- its line is of no trouble
not_told : (trouble : Stuck) (outcome : Outcome) → stuck_outcome trouble ≡ outcome → (IsTrouble outcome → ⊥) → ⊥
not_told trouble outcome is none = none (subst IsTrouble is (trouble_is trouble))

-- its line is of a refusal
refused_by : (trouble : Stuck) (because : Why) → stuck_outcome trouble ≡ Refused because → IsRefusalOf trouble
refused_by stuck.Fault because is = absurd (let wrong : Fault ≡ Refused because = is in cc)
refused_by (stuck.Damaged folder file place) because is = absurd (let wrong : Damaged folder file place ≡ Refused because = is in cc)
refused_by (stuck.Refused other) because is = (other, refl)

-- ---- what the machine says

enters_refused : (actor : PlainActor) (p : Plain) (number : ℕ) (room : PlainRoom) (trouble : Stuck) (new : Plain) → Enters 0 packer actor p number room (stuck_outcome trouble) new → IsRefusalOf trouble
enters_refused actor p number room trouble new e = either_so (is_spent p) _ _ (λ r. refused_by trouble why.IdsSpent r.0)
    (λ x. either_so room.is_held _ _ (λ r. refused_by trouble why.Held r.0) (λ y. absurd (not_told trouble _ y.0 (λ z. z))) x) e

open_refused : (actor : PlainActor) (p : Plain) (name : Name) (trouble : Stuck) (new : Plain) → Takes 0 packer actor p (Open name) (stuck_outcome trouble) new → IsRefusalOf trouble
open_refused actor p name trouble new t = maybe_so actor.writer _ _
    (λ x. enters_refused actor (made p name (find p name)).0 (made p name (find p name)).1 x.0 trouble new x.2)
    (λ own r. refused_by trouble why.AlreadyOpen r.0) t

now_refused : (p : Plain) (own : PlainOwn) (room : PlainRoom) (w : PlainWriter) (at : ℕ) (bytes : List ℕ) (trouble : Stuck) (new : Plain) → WritesNow p own room w at bytes (stuck_outcome trouble) new → IsRefusalOf trouble
now_refused p own room w at bytes trouble new o = either_so (nat_lt MAX_SIZE (at + length bytes) || nat_lt MAX_LOG (logged (entries_in w.issued) + length bytes)) _ _ (λ r. refused_by trouble why.TooFar r.0)
    (λ x. either_so (nat_le MAX_STAMP (last_of w.issued) || nat_le MAX_STAMP w.floor) _ _ (λ r. refused_by trouble why.StampsSpent r.0) (λ y. absurd (not_told trouble _ y.3.0 (λ z. z))) x) o

write_refused : (actor : PlainActor) (p : Plain) (at : ℕ) (bytes : List ℕ) (trouble : Stuck) (new : Plain) → Writes actor p at bytes (stuck_outcome trouble) new → IsRefusalOf trouble
write_refused actor p at bytes trouble new t = maybe_so actor.writer _ _ (λ r. refused_by trouble why.NotOpen r.0)
    (λ own x. either_so (length bytes == 0) _ _ (λ y. absurd (not_told trouble _ y.0 (λ z. z))) (λ y. now_refused p own x.0 _ at bytes trouble new y) x.4) t

-- an actor that has a writer isn't refused
on_its_own : (actor : PlainActor) (own : PlainOwn) (p : Plain) (outcome : Outcome) (new : Plain) (does : PlainOwn → PlainRoom → PlainWriter → Type 0) → actor.writer ≡ Some own → OnOwn actor p outcome new does → (room : PlainRoom) × (w : PlainWriter) × does own room w
on_its_own actor own p outcome new does is t =
    let On : PlainOwn → Type 0 = λ o. (room : PlainRoom) × (w : PlainWriter) × (slice_get p.rooms o.room ≡ Some room) × (owned_writer p o ≡ Some w) × does o room w in
    let x : On own = subst (λ o. MatchOption o (IsRefused outcome why.NotOpen p new) On) is t in
    (x.0, x.1, x.4)

-- ---- the actor's handle

-- the actors are as before
now_same : (p : Plain) (own : PlainOwn) (room : PlainRoom) (w : PlainWriter) (at : ℕ) (bytes : List ℕ) (outcome : Outcome) (new : Plain) → WritesNow p own room w at bytes outcome new → new.actors ≡ p.actors
now_same p own room w at bytes outcome new o = either_so (nat_lt MAX_SIZE (at + length bytes) || nat_lt MAX_LOG (logged (entries_in w.issued) + length bytes)) _ _ (λ r. ap (λ (q : Plain). q.actors) r.1)
    (λ x. either_so (nat_le MAX_STAMP (last_of w.issued) || nat_le MAX_STAMP w.floor) _ _ (λ r. ap (λ (q : Plain). q.actors) r.1) (λ y. ap (λ (q : Plain). q.actors) y.3.1) x) o

write_same : (actor : PlainActor) (p : Plain) (at : ℕ) (bytes : List ℕ) (outcome : Outcome) (new : Plain) → Writes actor p at bytes outcome new → new.actors ≡ p.actors
write_same actor p at bytes outcome new t = maybe_so actor.writer _ _ (λ r. ap (λ (q : Plain). q.actors) r.1)
    (λ own x. either_so (length bytes == 0) _ _ (λ y. ap (λ (q : Plain). q.actors) y.1) (λ y. now_same p own x.0 _ at bytes outcome new y) x.4) t

sync_same : (actor : PlainActor) (p : Plain) (outcome : Outcome) (new : Plain) → Syncs actor p outcome new → new.actors ≡ p.actors
sync_same actor p outcome new t = maybe_so actor.writer _ _ (λ r. ap (λ (q : Plain). q.actors) r.1) (λ own x. ap (λ (q : Plain). q.actors) x.4.1) t

one_actor : (a b : PlainActor) → Some a ≡ Some b → a ≡ b
one_actor a b e = cc

none_or_some : (own : PlainOwn) (o : Option PlainOwn) → o ≡ None → o ≡ Some own → ⊥
none_or_some own o none some = let wrong : None ≡ Some own = sym none ∙ some in cc

-- it has a handle then, as it had one before
has_one : (m next : Moment) (p new : Plain) (actor after : PlainActor) (handle : WriterHandle) (left : Option WriterHandle) → HasActor m 0 p (Some handle) actor → HasActor next 0 new left after → new.actors ≡ p.actors → (left ≡ None → ⊥)
has_one m next p new actor after handle left has now same gone =
    let it = its_own m 0 p handle actor has in
    let one : after ≡ actor = one_actor after actor (sym now.there ∙ ap (λ (l : List PlainActor). slice_get l 0) same ∙ has.there) in
    let none : after.writer ≡ None = no_own_writer next 0 new after.writer (subst (λ h. HasActor next 0 new h after) gone now).its_own in
    none_or_some it.own after.writer none (ap (λ (a : PlainActor). a.writer) one ∙ it.is)

-- ---- the statements, as they are made

-- The statement was made, with this outcome. A trouble of this kind is of this cause.
pub record MadeStatement (p : Plain) (statement : Statement) (outcome : Outcome) (left : Option WriterHandle) (end : State) (trouble : Stuck → Type 0) (Cause : Stuck → Type 0) : Type 0 where
  pub taken : HasTaken p (statement ∷ []) (zero_line outcome ∷ []) left end
  pub caused : (because : Stuck) → trouble because → Cause because

module _ (m : Moment) (p : Plain) (start end : State) (at : m.state ≡ start) (quiet : MeetsNoFault start end) where
  pub opens_on : (name : Name) (out : Result WriterHandle Stuck) → IsThere m p None → Makes (open_program name 0 64) start out end → MadeStatement p (Open name) (open_outcome out) (handle_in out) end (λ because. out ≡ Err because) IsRefusalOf
  opens_on name out s makes =
      let c = called m (open_program name 0 64) start out end at makes quiet in
      let t = open_takes m 0 p s.actor s.mirrors s.has packer name c.events out c.lawful c.well c.by c.runs in
      record {
        taken = one_taken m p None (handle_in out) s c.events end (Open name) (open_outcome out) c.lawful c.ends t;
        caused = λ because is. open_refused s.actor p name because t.new (subst (λ o. Takes 0 packer s.actor p (Open name) (open_outcome o) t.new) is t.takes);
      }

  module _ (handle : WriterHandle) (s : IsThere m p (Some handle)) where
    pub writes_on : (place : ℕ) (f : SmallFile) (out : WriterOut) → Makes (put_program handle place f) start out end
        → MadeStatement p (Write place (Hex (unit_spelling f))) (write_outcome place (length (unit_spelling f)) out.result) out.handle end (λ because. out.result ≡ Err because) IsRefusalOf × (out.handle ≡ None → ⊥)
    writes_on place f out makes =
        let c = called m (put_program handle place f) start out end at makes quiet in
        let some : 1 ≤ length (unit_spelling f) = omega arith in
        let t = write_steps m 0 p handle s.actor packer place (Hex (unit_spelling f)) c.events out c.lawful c.well c.by s.mirrors s.has some c.runs in (
          record {
            taken = one_taken m p (Some handle) out.handle s c.events end (Write place (Hex (unit_spelling f))) (write_outcome place (length (unit_spelling f)) out.result) c.lawful c.ends t;
            caused = λ because is. write_refused s.actor p place (unit_spelling f) because t.new (subst (λ r. Writes s.actor p place (unit_spelling f) (write_outcome place (length (unit_spelling f)) r) t.new) is t.takes);
          },
          has_one m (moment_after m c.events) p t.new s.actor t.left handle out.handle s.has t.its_actor (write_same s.actor p place (unit_spelling f) _ t.new t.takes),
        )

    pub syncs_on : (out : WriterOut) → Makes (sync_program handle) start out end → MadeStatement p Sync (sync_outcome out.result) out.handle end (λ because. out.result ≡ Err because) (λ because. ⊥) × (out.handle ≡ None → ⊥)
    syncs_on out makes =
        let c = called m (sync_program handle) start out end at makes quiet in
        let t = sync_takes m 0 p handle s.actor s.mirrors s.has packer c.events out c.lawful c.well c.by c.runs in
        let it = its_own m 0 p handle s.actor s.has in (
          record {
            taken = one_taken m p (Some handle) out.handle s c.events end Sync (sync_outcome out.result) c.lawful c.ends t;
            caused = λ because is.
                let x = on_its_own s.actor it.own p (sync_outcome out.result) t.new _ it.is t.takes in
                not_told because _ (sym (ap sync_outcome is) ∙ x.2.0) (λ z. z);
          },
          has_one m (moment_after m c.events) p t.new s.actor t.left handle out.handle s.has t.its_actor (sync_same s.actor p _ t.new t.takes),
        )

    pub closes_on : (out : WriterOut) → Makes (close_program handle) start out end → MadeStatement p Close (close_outcome out.result) out.handle end (λ because. out.result ≡ Err because) (λ because. ⊥)
    closes_on out makes =
        let c = called m (close_program handle) start out end at makes quiet in
        let t = close_takes m 0 p handle s.actor s.mirrors s.has packer c.events out c.lawful c.well c.by c.runs in
        let it = its_own m 0 p handle s.actor s.has in
        record {
          taken = one_taken m p (Some handle) out.handle s c.events end Close (close_outcome out.result) c.lawful c.ends t;
          caused = λ because is.
              let x = on_its_own s.actor it.own p (close_outcome out.result) t.new _ it.is t.takes in
              not_told because _ (sym (ap close_outcome is) ∙ x.2.0) (λ z. z);
        }
