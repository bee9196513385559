-- What an actor's statement comes to that makes the calls of a program, while others call, and may be stopped within one.
use Rattle.std.proofs.Common.{◌≡◌, ◌≢◌, inl, inr, ℕ, true, false, List, [], ◌∷◌, ◌++◌, Option, Some, refl, sym, ap, ◌∙◌, subst, if◌then◌else◌}
use Rattle.turn_object.specs.Callers.{made_by}
use Rattle.mount_model.specs.Program.{Program, ask, done}
use Rattle.mount_model.specs.declared.call.Ask.{Ask}
use Rattle.mount_model.specs.declared.call.Call.{Call}
use Rattle.mount_model.specs.declared.reply.Reply.{Reply}
use Rattle.mount_model.specs.History.{Event}
use Rattle.mount_model.specs.Step.{Answers, IsStep}
use Rattle.mount_model.specs.Table.{holder_at}
use Rattle.mount_model.proofs.Facts.{is_holding, step_flattens, step_holds}
use Rattle.mount_sound.specs.Owed.{IsLawful}
use Rattle.container_layout.specs.declared.items.Item.TheVariants.{Access}
use Rattle.mount_model.specs.Running.{Runs, unbroken}
use Rattle.mount_model.proofs.Flows.Facts.{runs_next}
use Rattle.reader_laws.specs.Moments.{IsSoundAt, Moment, moment_after, next_moment}
use Rattle.reader_laws.proofs.Gathered.Facts.{grows_after, legal_first, legal_rest, sound_after}
use Rattle.reader_laws.proofs.Gathered.Moments.Stepping.{sound_next}
use Rattle.refusal_laws.specs.Reasons.{HasReason}
use Rattle.refusal_laws.proofs.Facts.{has_reason}
use Rattle.writer_laws.proofs.Stops.{spared_row, whole_answers}
use Rattle.actor_core.specs.declared.kept.Stop.{Stop}
use Rattle.actor_core.specs.Endings.{Ending}
use Rattle.actor_core.specs.Stopping.{carried, is_due, one_nearer}
use Rattle.actor_core.specs.Work.{Work}
use Rattle.headline_laws.proofs.Plays.Facts.{ComesTo}
use Rattle.headline_laws.proofs.Makers.Holding.{holder_found, not_own}
use Rattle.headline_laws.proofs.Reasons.Goes.{Fact, Goes, IsSo, Stepped, anything, flattens, held, rowed, staged, stands}
use Rattle.headline_laws.proofs.Story.Opened.{unbroken_ask}

-- ---- while others call

others : (n : ℕ) (fact : Fact) (m : Moment) (e : Event) (rest : List Event) → IsSoundAt m → IsLawful m.state (e ∷ rest) → e.caller ≢ n → IsSo n fact m → IsSo n fact (next_moment m e)
others n anything m e rest sound lawful other so = tt
others n (stands room) m e rest sound lawful other so = (grows_after m (e ∷ []) (lawful.0, lawful.1, tt) sound).stands room Access tt so
others n (staged w stage) m e rest sound lawful other (row, has, at) = (row, spared_row n w row m.state e.caller e.ask e.reply e.after (λ mine. absurd (other mine)) has lawful.1, at)
others n (rowed w row) m e rest sound lawful other has = spared_row n w row m.state e.caller e.ask e.reply e.after (λ mine. absurd (other mine)) has lawful.1
others n (held holder) m e rest sound lawful other (h, has) =
    let is = is_holding n holder m.state.table.holders h has in
    let found : holder_at holder e.after.table.holders ≡ Some h = step_holds m.state e.after e.caller e.ask e.reply holder h lawful.1 is.found (λ own. other (sym own ∙ is.owned)) in
    (h, holder_found n holder e.after.table.holders h found is.owned)
others n (flattens id at) m e rest sound lawful other (f, u) = (f, record { found = step_flattens m.state e.after e.caller e.ask e.reply id f lawful.1 u.found (λ own. other (sym own ∙ u.owned)); is = u.is; owned = u.owned; staged = u.staged })

meanwhile : (n : ℕ) (fact : Fact) (m : Moment) (events : List Event) → IsSoundAt m → IsLawful m.state events → made_by n events ≡ [] → IsSo n fact m → IsSo n fact (moment_after m events)
meanwhile n fact m [] sound lawful none so = so
meanwhile n fact m (e ∷ events) sound lawful none so =
    let rest = not_own n e events none in
    meanwhile n fact (next_moment m e) events (sound_next m e events lawful sound) lawful.2 rest.1 (others n fact m e events sound lawful rest.0 so)

-- ---- a program that its actor may stop within

pub stepped : (n : ℕ) (m : Moment) (e : Event) (rest : List Event) (call : Call) → IsSoundAt m → IsLawful m.state (e ∷ rest) → e.caller ≡ n → e.ask ≡ unbroken call → Stepped n m call e.reply (next_moment m e)
stepped n m e rest call sound lawful own asked = record {
  sound = sound;
  sound_then = sound_next m e rest lawful sound;
  answers = subst (λ c. Answers m.state n c e.reply e.after) (ap (λ (a : Ask). a.call) asked)
      (subst (λ k. Answers m.state k e.ask.call e.reply e.after) own (whole_answers m.state e.caller e.ask e.reply e.after (ap (λ (a : Ask). a.stop) asked) lawful.1));
  reason = λ why is. subst (λ c. HasReason m.state n c why) (ap (λ (a : Ask). a.call) asked)
      (subst (λ k. HasReason m.state k e.ask.call why) own (has_reason m.issued m.state e.after e.caller e.ask why lawful.0 (subst (λ r. IsStep m.state e.caller e.ask r e.after) is lawful.1) sound));
  grows = λ room had. (grows_after m (e ∷ []) (lawful.0, lawful.1, tt) sound).stands room Access tt had;
}

-- Behind it either its result leads on, or its actor was stopped within a call.
pub carried_goes : {R : Type 0} (n : ℕ) (good : R → Type 0) (P : Type 0) (e : Ending) (next : Option Stop → R → Work) (halted : Work)
    → ((left : Option Stop) (r : R) (m : Moment) (rest : List Event) (spent : List (List Event)) → good r → IsSoundAt m → IsLawful m.state rest → ComesTo n (next left r) rest spent e → P) → ((rest : List Event) (spent : List (List Event)) → ComesTo n halted rest spent e → P)
    → (p : Program Call Reply R) (stop : Option Stop) (fact : Fact) (m : Moment) (mine : List Event) (spent : List (List Event)) → Goes n good fact p → IsSoundAt m → IsSo n fact m → IsLawful m.state mine → ComesTo n (carried p stop next halted) mine spent e → P
carried_goes n good P e next halted leads stops (done r) stop fact m mine spent goes sound so lawful comes = leads stop r m mine spent goes sound lawful comes
carried_goes n good P e next halted leads stops (ask call k) stop fact m mine spent goes sound so lawful c =
    let split : IsLawful m.state (c.before ++ c.call ∷ c.after) = subst (IsLawful m.state) c.all lawful in
    let first : IsLawful m.state c.before = legal_first m c.before (c.call ∷ c.after) split in
    let mid : Moment = moment_after m c.before in
    let here : IsLawful mid.state (c.call ∷ c.after) = legal_rest m c.before (c.call ∷ c.after) split in
    let sound_here : IsSoundAt mid = sound_after m c.before first sound in
    let so_here : IsSo n fact mid = meanwhile n fact m c.before sound first c.none_before so in
    elim (is_due stop) as (λ x. is_due stop ≡ x → ComesTo n (if x then halted else carried (k c.call.reply) (one_nearer stop) next halted) c.after spent e → P) [
      | true ↦ λ due on. stops c.after spent on
      | false ↦ λ later on.
          let s : Stepped n mid call c.call.reply (next_moment mid c.call) = stepped n mid c.call c.after call sound_here here c.own (c.asked ∙ unbroken_ask call stop later) in
          let g = goes mid (next_moment mid c.call) c.call.reply s so_here in
          carried_goes n good P e next halted leads stops (k c.call.reply) (one_nearer stop) g.0 (next_moment mid c.call) c.after spent g.2 s.sound_then g.1 here.2 on
    ] refl c.goes_on

-- ---- a program that ran to its end

pub runs_goes : {R : Type 0} (n : ℕ) (good : R → Type 0) (fact : Fact) (p : Program Call Reply R) (m : Moment) (events : List Event) (out : R) → Goes n good fact p → IsSoundAt m → IsSo n fact m → IsLawful m.state events → Runs n p events out → good out
runs_goes n good fact (done r) m events out goes sound so lawful runs = subst good runs.1 goes
runs_goes n good fact (ask call k) m [] out goes sound so lawful runs = absurd runs
runs_goes n good fact (ask call k) m (e ∷ events) out goes sound so lawful runs = elim (runs_next n call k e events out runs) as (λ _. good out) [
  | inl (other, on) ↦ runs_goes n good fact (ask call k) (next_moment m e) events out goes (sound_next m e events lawful sound) (others n fact m e events sound lawful other so) lawful.2 on
  | inr (own, asked, on) ↦
      let s = stepped n m e events call sound lawful own asked in
      let g = goes m (next_moment m e) e.reply s so in
      runs_goes n good g.0 (k e.reply) (next_moment m e) events out g.2 s.sound_then g.1 lawful.2 on
]
