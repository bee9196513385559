-- A statement on a writer that is stopped within one of its calls: whatever landed of it lies within what it had issued, and no more lands.
use Rattle.std.proofs.Common.{◌≡◌, ◌≤◌, inl, inr, ℕ, Bool, true, false, nat_eq, List, [], ◌∷◌, Some, refl, ap, sym, ◌∙◌, subst, arith}
use Rattle.std.specs.Prelude.{if◌then◌else◌}
use Rattle.mount_model.specs.declared.call.Ask.{Ask}
use Rattle.mount_model.specs.declared.call.Call.{Call}
use Rattle.mount_model.specs.declared.call.Call.TheVariants.{Exit, Write}
use Rattle.mount_model.specs.declared.reply.Reply.{Reply}
use Rattle.mount_model.specs.declared.reply.Reply.TheVariants.{NoMemory, Stopped}
use Rattle.mount_model.specs.declared.row.Row.{Row}
use Rattle.mount_model.specs.History.{Event}
use Rattle.mount_model.specs.Replies.{FitsAsk}
use Rattle.mount_model.specs.Step.{IsStep}
use Rattle.mount_model.proofs.Facts.{step_fits}
use Rattle.mount_sound.specs.Owed.{IsLawful}
use Rattle.reader_laws.specs.Moments.{Dropping, Moment, landed, next_moment}
use Rattle.reader_laws.proofs.Gathered.Facts.{grows_after}
use Rattle.reader_laws.proofs.Gathered.Moments.Stepping.{sound_next}
use Rattle.writer_laws.specs.Counting.{StaysInAt, wrote_by, wrote_count}
use Rattle.headline_laws.proofs.Landed.Leaving.{drawn_next, row_drawn, stop_kills}
use Rattle.writer_laws.proofs.Stops.{StepKept, any_kept}
use Rattle.headline.specs.Writers.{Account, any_landed}
use Rattle.headline_laws.proofs.Landed.Between.{AtPlace, IsBetween, between}
use Rattle.headline_laws.proofs.Landed.Settled.{IsSettled}
use Rattle.headline_laws.proofs.Landed.Writes.{HoldsNow}

stays_stopped : (w : ℕ) (c : Call) → StaysInAt w c Stopped
stays_stopped w (Exit other) = tt
stays_stopped w c = tt

wrote_none : (w : ℕ) (c : Call) → wrote_by w c Stopped ≡ 0
wrote_none w (Write other at block) = none_so (nat_eq other w)
  where
    none_so : (b : Bool) → (if b then wrote_count Stopped else 0) ≡ 0
    none_so true = refl
    none_so false = refl
wrote_none w c = refl

stopped_or_not : (a : Ask) (bytes : ℕ) (reply : Reply) → a.stop ≡ Some bytes → FitsAsk a reply → (reply ≡ NoMemory → ⊥) → reply ≡ Stopped
stopped_or_not a bytes reply broken fits had =
    elim (subst (λ o. FitsAsk (record { call = a.call; stop = o }) reply) broken fits) as (λ _. reply ≡ Stopped) [
      | inl is ↦ is
      | inr none ↦ absurd (had none)
    ]

-- The broken call of its caller: the writer is out, and what has landed lies within what it had issued.
pub stop_settles : (m : Moment) (e : Event) (rest : List Event) (me : ℕ) (d : Dropping) (row : Row) (acc : Account) (bytes : ℕ) → AtPlace m me d row → HoldsNow m d row acc → IsLawful m.state (e ∷ rest) → e.caller ≡ me → e.ask.stop ≡ Some bytes → (e.reply ≡ NoMemory → ⊥) → IsSettled (next_moment m e) d (any_landed acc)
stop_settles m e rest me d row acc bytes at holds lawful own broken had =
    let is : e.reply ≡ Stopped = stopped_or_not e.ask bytes e.reply broken (step_fits m.state e.after e.caller e.ask e.reply lawful.1) had in
    let k : StepKept me d.writer row e.caller e.ask e.reply e.after = any_kept me d.writer row m.state e.caller e.ask e.reply e.after at.has lawful.1 (subst (StaysInAt d.writer e.ask.call) (sym is) (stays_stopped d.writer e.ask.call)) in
    let none : wrote_by d.writer e.ask.call e.reply ≡ 0 = ap (wrote_by d.writer e.ask.call) is ∙ wrote_none d.writer e.ask.call in
    let next : Moment = next_moment m e in
    let there : AtPlace next me d k.after = record { sound = sound_next m e rest lawful at.sound; has = k.has; room = k.placed.0 ∙ at.room; host = k.placed.1 ∙ at.host } in
    let b : IsBetween next d k.after = between next me d k.after there in
    let more : landed m d ≤ landed next d = (grows_after m (e ∷ []) (lawful.0, lawful.1, tt) at.sound).landed d b.named in
    record {
      out = record {
        named = b.named;
        sound = there.sound;
        dead = stop_kills me d.writer row m.state bytes e.ask e.reply e.after at.has broken (subst (λ n. IsStep m.state n e.ask e.reply e.after) own lawful.1) had;
        drawn = omega (arith, row_drawn d.writer row m.state at.sound.regular at.has.there, drawn_next m e rest lawful);
      };
      least = omega (arith, holds.least, holds.no_fewer, more);
      most = omega (arith, b.no_more, k.total, none, holds.issued_is);
      few = omega (arith, b.no_more, k.total, none, holds.issued_is);
    }
