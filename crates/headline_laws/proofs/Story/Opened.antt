-- A line of an opened writer: its actor ran the opening to its end.
use Rattle.std.proofs.Common.{◌≡◌, ◌⊎◌, inl, inr, ℕ, true, false, List, [], ◌∷◌, ◌++◌, Option, Some, None, Result, Ok, Err, refl, sym, ap, ◌∙◌, subst, append_assoc, if◌then◌else◌}
use Rattle.turn_object.specs.Callers.{made_by}
use Rattle.mount_model.specs.Calls.{AreCallsOf}
use Rattle.mount_model.specs.Program.{Program, ask, done}
use Rattle.mount_model.specs.Process.{asks}
use Rattle.mount_model.proofs.Stories.Facts.{after_own, entries_both}
use Rattle.mount_model.specs.Running.{Runs, asking, unbroken}
use Rattle.mount_model.specs.declared.stuck.Stuck.{Stuck}
use Rattle.mount_model.specs.declared.stuck.Stuck.TheVariants as stuck
use Rattle.mount_model.specs.declared.call.Call.{Call}
use Rattle.mount_model.specs.declared.call.Call.TheVariants.{Greet}
use Rattle.mount_model.specs.declared.reply.Reply.{Reply}
use Rattle.mount_model.specs.History.{Event}
use Rattle.script_lang.specs.declared.line.Outcome.TheVariants as line
use Rattle.script_lang.specs.declared.script.Statement.TheVariants.{Open}
use Rattle.writer_flow.specs.declared.handle.WriterHandle.{WriterHandle}
use Rattle.writer_flow.specs.Opening.{open_program}
use Rattle.actor_core.specs.declared.kept.Kept.{Kept}
use Rattle.actor_core.specs.declared.kept.Stop.{Stop}
use Rattle.actor_core.specs.Endings.{Ending, gone, opened, stopped}
use Rattle.actor_core.specs.Statements.{disarmed, does, greeted, greeted_work, work_of}
use Rattle.actor_core.specs.Stopping.{carried, due_bytes, is_due, one_nearer, stoppable}
use Rattle.actor_core.specs.Work.{Work, finishes}
use Rattle.actor_core.specs.Writers.{opens}
use Rattle.headline_laws.proofs.Story.Parts.{Comes}

-- ---- a program that a stop may break off

not_broken : (stop : Option Stop) → is_due stop ≡ false → due_bytes stop ≡ None
not_broken None later = refl
not_broken (Some stop) later = ap (λ b. if b then Some stop.bytes else None) later

pub unbroken_ask : (call : Call) (stop : Option Stop) → is_due stop ≡ false → stoppable stop call ≡ unbroken call
unbroken_ask call stop later = ap (λ (b : Option ℕ). record { call = call; stop = b }) (not_broken stop later)

pub one_more : {R : Type 0} (n : ℕ) (call : Call) (k : Reply → Program Call Reply R) (before : List Event) (event : Event) (mine : List Event) (result : R) → made_by n before ≡ [] → event.caller ≡ n → event.ask ≡ unbroken call → Runs n (k event.reply) mine result
    → Runs n (ask call k) (before ++ event ∷ mine) result
one_more {R} n call k before event mine result none own asked runs =
    subst (λ (z : List Event). AreCallsOf (asking (ask call k)) z result) (sym (entries_both n before (event ∷ mine) ∙ ap (λ z. z ++ made_by n (event ∷ mine)) none)) (after_own n (unbroken call) (λ reply. asking (k reply)) event mine result own asked runs)

-- the program ran to this result in the first of these events, and what follows came to this end
pub record RanTo {R : Type 0} (n : ℕ) (p : Program Call Reply R) (next : Option Stop → R → Work) (mine : List Event) (spent : List (List Event)) (e : Ending) : Type 0 where
  pub first : List Event
  pub rest : List Event
  pub stop : Option Stop
  pub result : R
  pub all : mine ≡ first ++ rest
  pub runs : Runs n p first result
  pub on : Comes n (next stop result) rest spent e

pub carried_came : {R : Type 0} (n : ℕ) (p : Program Call Reply R) (stop : Option Stop) (next : Option Stop → R → Work) (halted : Work) (mine : List Event) (spent : List (List Event)) (e : Ending) → Comes n (carried p stop next halted) mine spent e
    → RanTo n p next mine spent e ⊎ ((rest : List Event) × Comes n halted rest spent e)
carried_came n (done r) stop next halted mine spent e comes = inl (record { first = []; rest = mine; stop = stop; result = r; all = refl; runs = (refl, refl); on = comes })
carried_came {R} n (ask call k) stop next halted mine spent e m =
    elim (is_due stop) as (λ b. is_due stop ≡ b → Comes n (if b then halted else carried (k m.call.reply) (one_nearer stop) next halted) m.after spent e → RanTo n (ask call k) next mine spent e ⊎ ((rest : List Event) × Comes n halted rest spent e)) [
      | true ↦ λ due on. inr (m.after, on)
      | false ↦ λ later on. elim (carried_came n (k m.call.reply) (one_nearer stop) next halted m.after spent e on) as (λ _. RanTo n (ask call k) next mine spent e ⊎ ((rest : List Event) × Comes n halted rest spent e)) [
        | inl r ↦ inl (record {
          first = m.before ++ m.call ∷ r.first;
          rest = r.rest;
          stop = r.stop;
          result = r.result;
          all = m.all ∙ ap (λ z. m.before ++ m.call ∷ z) r.all ∙ sym (append_assoc m.before (m.call ∷ r.first) r.rest);
          runs = one_more n call k m.before m.call r.first r.result m.none_before m.own (m.asked ∙ unbroken_ask call stop later) r.runs;
          on = r.on;
        })
        | inr h ↦ inr h
      ]
    ] refl m.goes_on

-- ---- an opening

-- in these events the caller opened the writer of this id by a container's name, with its host and capacity
pub record OpenRun (n : ℕ) (kept : Kept) (name : List ℕ) (id : ℕ) (mine : List Event) (e : Ending) : Type 0 where
  pub pre : List Event
  pub first : List Event
  pub rest : List Event
  pub handle : WriterHandle
  pub all : mine ≡ pre ++ (first ++ rest)
  pub runs : Runs n (open_program name kept.host kept.cap) first (Ok handle)
  pub is : handle.writer ≡ id
  -- behind it no more is called, and the actor keeps the handle
  pub over : rest ≡ []
  pub keeps : e.kept.writer ≡ Some handle

module _ (n : ℕ) (name : List ℕ) (id : ℕ) (spent : List (List Event)) (e : Ending) (says : e.outcome ≡ line.Opened id) where
  ends_not : (other : Ending) → (other.outcome ≡ line.Opened id → ⊥) → (mine : List Event) → Comes n (finishes other) mine spent e → ⊥
  ends_not other clash mine comes = clash (ap (λ (x : Ending). x.outcome) comes.2 ∙ says)

  result_came : (kept : Kept) (mine first rest : List Event) (result : Result WriterHandle Stuck) → mine ≡ first ++ rest → Runs n (open_program name kept.host kept.cap) first result → Comes n (finishes (opened kept result)) rest spent e → OpenRun n kept name id mine e
  result_came kept mine first rest (Ok handle) all runs comes =
      let is : line.Opened handle.writer ≡ line.Opened id = ap (λ (x : Ending). x.outcome) comes.2 ∙ says in
      record { pre = []; first = first; rest = rest; handle = handle; all = all; runs = runs; is = cc; over = comes.0; keeps = sym (ap (λ (x : Ending). x.kept.writer) comes.2) }
  result_came kept mine first rest (Err stuck.Fault) all runs comes = absurd (ends_not (opened kept (Err stuck.Fault)) (λ is. cc) rest comes)
  result_came kept mine first rest (Err (stuck.Damaged folder file place)) all runs comes = absurd (ends_not (opened kept (Err (stuck.Damaged folder file place))) (λ is. cc) rest comes)
  result_came kept mine first rest (Err (stuck.Refused why)) all runs comes = absurd (ends_not (opened kept (Err (stuck.Refused why))) (λ is. cc) rest comes)

  opens_came : (kept : Kept) (stop : Option Stop) (writer : Option WriterHandle) (mine : List Event) → Comes n (opens kept stop name writer) mine spent e → OpenRun n kept name id mine e
  opens_came kept stop (Some handle) mine comes = absurd (ends_not _ (λ is. cc) mine comes)
  opens_came kept stop None mine comes =
      elim (carried_came n (open_program name kept.host kept.cap) stop (λ left result. finishes (opened kept result)) (finishes (stopped kept)) mine spent e comes) as (λ _. OpenRun n kept name id mine e) [
        | inl r ↦ result_came kept mine r.first r.rest r.result r.all r.runs r.on
        | inr (rest, halted) ↦ absurd (ends_not (stopped kept) (λ is. cc) rest halted)
      ]

  greeted_came : (kept : Kept) (mine : List Event) → Comes n (greeted_work kept (Open name)) mine spent e → OpenRun n kept name id mine e
  greeted_came kept mine comes =
      elim kept.gone as (λ b. Comes n (if b then finishes (gone kept) else does (disarmed kept) kept.armed (Open name)) mine spent e → OpenRun n kept name id mine e) [
        | true ↦ λ c. absurd (ends_not (gone kept) (λ is. cc) mine c)
        | false ↦ λ c. (let r = opens_came (disarmed kept) kept.armed kept.writer mine c in record { pre = r.pre; first = r.first; rest = r.rest; handle = r.handle; all = r.all; runs = r.runs; is = r.is; over = r.over; keeps = r.keeps })
      ] comes

  pub opening_came : (kept : Kept) (mine : List Event) → Comes n (work_of kept (Open name)) mine spent e → OpenRun n kept name id mine e
  opening_came kept mine comes =
      elim kept.greeted as (λ b. Comes n (if b then greeted_work kept (Open name) else asks (unbroken Greet) (λ reply. greeted_work (greeted kept) (Open name))) mine spent e → OpenRun n kept name id mine e) [
        | true ↦ λ c. greeted_came kept mine c
        | false ↦ λ m.
            let r = greeted_came (greeted kept) m.after m.goes_on in
            record {
              pre = m.before ++ m.call ∷ r.pre;
              first = r.first;
              rest = r.rest;
              handle = r.handle;
              all = m.all ∙ ap (λ z. m.before ++ m.call ∷ z) r.all ∙ sym (append_assoc m.before (m.call ∷ r.pre) (r.first ++ r.rest));
              runs = r.runs;
              is = r.is;
              over = r.over;
              keeps = r.keeps;
            }
      ] comes
