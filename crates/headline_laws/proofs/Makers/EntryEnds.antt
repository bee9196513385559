-- The call by which the statement of an opening enters a container: which one it is, and how the line ends behind it.
use Rattle.std.proofs.Common.{◌≡◌, inl, inr, ℕ, Bool, true, false, List, [], ◌∷◌, ◌++◌, Option, Some, None, Result, Ok, Err, refl, sym, ap, ◌∙◌, subst, if◌then◌else◌}
use Rattle.std.specs.Prelude.{⊤}
use Rattle.turn_object.specs.Callers.{made_by}
use Rattle.mount_model.specs.Process.{asks}
use Rattle.mount_model.specs.Program.{AsksOnly, done}
use Rattle.mount_model.proofs.Stories.Facts.{entries_both, entries_first}
use Rattle.mount_model.specs.declared.call.Ask.{Ask}
use Rattle.mount_model.specs.declared.call.Call.{Call}
use Rattle.mount_model.specs.declared.call.Call.TheVariants.{Enter, Greet, MakeContainer}
use Rattle.mount_model.specs.declared.reply.Reply.{Reply}
use Rattle.mount_model.specs.declared.reply.Reply.TheVariants as reply
use Rattle.mount_model.specs.declared.row.Stage.TheVariants as stage
use Rattle.mount_model.specs.History.{Event}
use Rattle.mount_model.specs.declared.stuck.Stuck.{Stuck}
use Rattle.mount_model.specs.declared.stuck.Stuck.TheVariants as stuck
use Rattle.mount_model.specs.Running.{unbroken}
use Rattle.mount_sound.specs.Owed.{IsLawful}
use Rattle.reader_laws.specs.Moments.{IsSoundAt, Moment, moment_after, next_moment}
use Rattle.reader_laws.proofs.Gathered.Facts.{legal_first, legal_rest, sound_after}
use Rattle.reader_laws.proofs.Gathered.Moments.Stepping.{sound_next}
use Rattle.script_lang.specs.declared.line.Outcome.{Outcome}
use Rattle.script_lang.specs.declared.line.Outcome.TheVariants as line
use Rattle.script_lang.specs.declared.script.Statement.TheVariants as say
use Rattle.writer_flow.specs.declared.handle.WriterHandle.{WriterHandle}
use Rattle.writer_flow.specs.Handle.{opened_of}
use Rattle.writer_flow.specs.Opening.{Opening, enters, finds_floor, if_done, if_entered, if_floored, if_made, makes_hostdir, makes_index, makes_log, open_program}
use Rattle.outcomes.specs.Outcomes.{open_outcome}
use Rattle.actor_core.specs.declared.kept.Kept.{Kept}
use Rattle.actor_core.specs.declared.kept.Stop.{Stop}
use Rattle.actor_core.specs.Endings.{Ending, gone, opened, stopped}
use Rattle.actor_core.specs.Statements.{disarmed, does, greeted, greeted_work, work_of}
use Rattle.actor_core.specs.Stopping.{carried, is_due, one_nearer, stoppable}
use Rattle.actor_core.specs.Work.{Work, finishes}
use Rattle.actor_core.specs.Writers.{opens}
use Rattle.headline_laws.proofs.Plays.Callers.Coming.{carried_goes as asks_so}
use Rattle.headline_laws.proofs.Plays.Facts.{Anyhow, ComesTo}
use Rattle.headline_laws.proofs.Makers.Entering.{trouble_ends}
use Rattle.headline_laws.proofs.Makers.Opens.{Behind, First, IsNoEnter, TroubleEnd, no_enter_entered, next_or}
use Rattle.headline_laws.proofs.Makers.Rows.{entered_so}
use Rattle.headline_laws.proofs.Reasons.Along.{carried_goes, stepped}
use Rattle.headline_laws.proofs.Reasons.Goes.{Stepped, staged}
use Rattle.headline_laws.proofs.Reasons.Opening.{EntersSo, floor_goes}
use Rattle.headline_laws.proofs.Story.Attributed.{came_asks, none_there}
use Rattle.headline_laws.proofs.Story.Lines.{entered_or, entered_room, first_entered}
use Rattle.headline_laws.proofs.Story.Opened.{unbroken_ask}

-- ---- how it ends behind the reply

-- who entered opens this writer, or fails, or is stopped; else it ends in the trouble of the reply
abbrev pub OpensOr : ℕ → Outcome → Type 0
OpensOr w (line.Opened id) = id ≡ w
OpensOr w line.Fault = ⊤
OpensOr w line.Stopped = ⊤
OpensOr w (line.Damaged folder file place) = ⊤
OpensOr w o = ⊥

abbrev pub EnterEnd : Reply → Outcome → Type 0
EnterEnd (reply.Entered w) o = OpensOr w o
EnterEnd r o = TroubleEnd r o

opens_told : (w : ℕ) (result : Result WriterHandle Stuck) → EntersSo w result → OpensOr w (open_outcome result)
opens_told w (Ok handle) is = is
opens_told w (Err stuck.Fault) is = tt
opens_told w (Err (stuck.Damaged folder file place)) is = tt
opens_told w (Err (stuck.Refused why)) is = absurd is

stopped_end : (r : Reply) → EnterEnd r line.Stopped
stopped_end (reply.Entered w) = tt
stopped_end r = tt

-- ---- behind it nobody enters

done_none : (w : ℕ) (next : Opening) → AsksOnly IsNoEnter next → (r : Reply) → AsksOnly IsNoEnter (if_done w next r)
done_none w next goes reply.Done = goes
done_none w next goes r = (tt, λ last. tt)

log_none : (w cap : ℕ) → AsksOnly IsNoEnter (makes_log w cap)
log_none w cap = (tt, done_none w (done (Ok (opened_of w cap))) tt)

index_none : (w cap : ℕ) → AsksOnly IsNoEnter (makes_index w cap)
index_none w cap = (tt, done_none w (makes_log w cap) (log_none w cap))

hostdir_none : (w cap : ℕ) → AsksOnly IsNoEnter (makes_hostdir w cap)
hostdir_none w cap = (tt, done_none w (makes_index w cap) (index_none w cap))

floored_none : (w cap : ℕ) (r : Reply) → AsksOnly IsNoEnter (if_floored w cap r)
floored_none w cap (reply.Floored floor) = hostdir_none w cap
floored_none w cap r = (tt, λ last. tt)

entered_none : (cap : ℕ) (r : Reply) → AsksOnly IsNoEnter (if_entered cap r)
entered_none cap (reply.Entered w) = (tt, floored_none w cap)
entered_none cap r = tt

not_enter : (call : Call) (room host most : ℕ) → IsNoEnter call → call ≡ Enter room host most → ⊥
not_enter call room host most none is = subst IsNoEnter is none

-- ---- in the calls of a statement

module _ (n : ℕ) where
  -- It entered the container that the first such call asks for, under the actor's host, and ended so.
  pub record EntryMade (host : ℕ) (mine : List Event) (room its : ℕ) (ev : Event) (e : Ending) : Type 0 where
    pub its_host : its ≡ host
    pub room_is : (nothing : ℕ) → entered_room n nothing mine ≡ room
    pub ended : EnterEnd ev.reply e.outcome

  -- a call that doesn't enter, in front of the others
  behind_it : (host room its : ℕ) (ev : Event) (e : Ending) (mine before after : List Event) (call : Event) → mine ≡ before ++ call ∷ after → made_by n before ≡ [] → call.caller ≡ n → IsNoEnter call.ask.call → EntryMade host after room its ev e → EntryMade host mine room its ev e
  behind_it host room its ev e mine before after call all none own other k = record {
    its_host = k.its_host;
    room_is = λ nothing. ap (first_entered nothing) own_calls ∙ no_enter_entered call.ask.call (first_entered nothing (made_by n after)) other ∙ k.room_is nothing;
    ended = k.ended;
  }
    where
      own_calls : made_by n mine ≡ call ∷ made_by n after
      own_calls = ap (made_by n) all ∙ entries_both n before (call ∷ after) ∙ ap (λ z. z ++ made_by n (call ∷ after)) none ∙ entries_first n call after own

  module _ (left : Kept) (host cap : ℕ) where
    abbrev Then : Option Stop → Result WriterHandle Stuck → Work
    Then later result = finishes (opened left result)

    abbrev Halted : Work
    Halted = finishes (stopped left)

    none_after : (stop : Option Stop) (rep : Reply) (b : Bool) (after : List Event) (spent : List (List Event)) (e : Ending) → ComesTo n (if b then Halted else carried (if_entered cap rep) (one_nearer stop) Then Halted) after spent e
        → (pre : List Event) (ev : Event) (post : List Event) → after ≡ pre ++ ev ∷ post → ev.caller ≡ n → (room its most : ℕ) → ev.ask.call ≡ Enter room its most → ⊥
    none_after stop rep true after spent e comes pre ev post split own room its most asked = none_there n after pre ev post split (ap (made_by n) comes.0) own
    none_after stop rep false after spent e comes pre ev post split own room its most asked =
        not_enter ev.ask.call room its most
        (came_asks n IsNoEnter Anyhow (carried (if_entered cap rep) (one_nearer stop) Then Halted) after spent e (asks_so IsNoEnter Anyhow left (if_entered cap rep) (one_nearer stop) Then (entered_none cap rep) tt (λ later result. tt)) comes pre ev post split own) asked

    -- where it is to enter
    entering : (room : ℕ) (stop : Option Stop) (m : Moment) (mine : List Event) (spent : List (List Event)) (e : Ending) → IsSoundAt m → IsLawful m.state mine → ComesTo n (carried (enters room host cap) stop Then Halted) mine spent e
        → (pre : List Event) (ev : Event) (post : List Event) → mine ≡ pre ++ ev ∷ post → ev.caller ≡ n → (number its most : ℕ) → ev.ask.call ≡ Enter number its most → EntryMade host mine number its ev e
    entering room stop m mine spent e sound lawful c pre ev post split own number its most asked = elim (next_or n (stoppable stop (Enter room host cap)) c.before c.call c.after mine c.all c.none_before pre ev post split own) as (λ _. EntryMade host mine number its ev e) [
      | inl f ↦ here f
      | inr b ↦ absurd (none_after stop c.call.reply (is_due stop) c.after spent e c.goes_on b.mid ev post b.rest own number its most asked)
    ]
      where
        call_is : c.call.ask.call ≡ Enter room host cap
        call_is = ap (λ (a : Ask). a.call) c.asked

        own_calls : made_by n mine ≡ c.call ∷ made_by n c.after
        own_calls = ap (made_by n) c.all ∙ entries_both n c.before (c.call ∷ c.after) ∙ ap (λ z. z ++ made_by n (c.call ∷ c.after)) c.none_before ∙ entries_first n c.call c.after c.own

        apart : IsLawful m.state (c.before ++ c.call ∷ c.after)
        apart = subst (IsLawful m.state) c.all lawful

        mid : Moment
        mid = moment_after m c.before

        on_it : IsLawful mid.state (c.call ∷ c.after)
        on_it = legal_rest m c.before (c.call ∷ c.after) apart

        sound_mid : IsSoundAt mid
        sound_mid = sound_after m c.before (legal_first m c.before (c.call ∷ c.after) apart) sound

        replied : (rep : Reply) → Stepped n mid (Enter room host cap) rep (next_moment mid c.call) → ComesTo n (carried (if_entered cap rep) (one_nearer stop) Then Halted) c.after spent e → EnterEnd rep e.outcome
        replied (reply.Entered w) s on =
            let r = entered_so n room host cap w mid.state c.call.after sound_mid.regular s.answers in
            carried_goes n (EntersSo w) (OpensOr w e.outcome) e Then Halted
            (λ later result there rest others good so goes ended. subst (λ (x : Ending). OpensOr w x.outcome) ended.2 (opens_told w result good)) (λ rest others ended. subst (λ (x : Ending). OpensOr w x.outcome) ended.2 tt)
            (finds_floor w cap) (one_nearer stop) (staged w stage.Entered) (next_moment mid c.call) c.after spent (floor_goes n w cap) s.sound_then (r.row, r.has, r.begun) on_it.2 on
        replied rep s on = subst (λ (x : Ending). TroubleEnd rep x.outcome) on.2 (trouble_ends left rep)

        ended : EnterEnd c.call.reply e.outcome
        ended = elim (is_due stop) as (λ b. is_due stop ≡ b → ComesTo n (if b then Halted else carried (if_entered cap c.call.reply) (one_nearer stop) Then Halted) c.after spent e → EnterEnd c.call.reply e.outcome) [
          | true ↦ λ due on. subst (λ (x : Ending). EnterEnd c.call.reply x.outcome) on.2 (stopped_end c.call.reply)
          | false ↦ λ later on. replied c.call.reply (stepped n mid c.call c.after (Enter room host cap) sound_mid on_it c.own (c.asked ∙ unbroken_ask (Enter room host cap) stop later)) on
        ] refl c.goes_on

        here : First n (stoppable stop (Enter room host cap)) c.call c.before c.after pre ev post → EntryMade host mine number its ev e
        here f =
            let same : Enter number its most ≡ Enter room host cap = sym asked ∙ ap (λ (x : Event). x.ask.call) (sym f.same) ∙ call_is in
            let rooms : room ≡ number = cc in
            let hosts : its ≡ host = cc in
            record {
              its_host = hosts;
              room_is = λ nothing. ap (first_entered nothing) own_calls ∙ ap (λ q. entered_or q (first_entered nothing (made_by n c.after))) call_is ∙ rooms;
              ended = subst (λ (x : Event). EnterEnd x.reply e.outcome) f.same ended;
            }

    -- the whole program
    program_enters : (name : List ℕ) (stop : Option Stop) (m : Moment) (mine : List Event) (spent : List (List Event)) (e : Ending) → IsSoundAt m → IsLawful m.state mine → ComesTo n (carried (open_program name host cap) stop Then Halted) mine spent e
        → (pre : List Event) (ev : Event) (post : List Event) → mine ≡ pre ++ ev ∷ post → ev.caller ≡ n → (number its most : ℕ) → ev.ask.call ≡ Enter number its most → EntryMade host mine number its ev e
    program_enters name stop m mine spent e sound lawful c pre ev post split own number its most asked = elim (next_or n (stoppable stop (MakeContainer name)) c.before c.call c.after mine c.all c.none_before pre ev post split own) as (λ _. EntryMade host mine number its ev e) [
      | inl f ↦ absurd (let clash : MakeContainer name ≡ Enter number its most = sym call_is ∙ ap (λ (x : Event). x.ask.call) f.same ∙ asked in cc)
      | inr b ↦ behind_it host number its ev e mine c.before c.after c.call c.all c.none_before c.own (subst IsNoEnter (sym call_is) tt) (goes_on b (is_due stop) c.goes_on)
    ]
      where
        call_is : c.call.ask.call ≡ MakeContainer name
        call_is = ap (λ (a : Ask). a.call) c.asked

        apart : IsLawful m.state (c.before ++ c.call ∷ c.after)
        apart = subst (IsLawful m.state) c.all lawful

        mid : Moment
        mid = moment_after m c.before

        on_it : IsLawful mid.state (c.call ∷ c.after)
        on_it = legal_rest m c.before (c.call ∷ c.after) apart

        sound_then : IsSoundAt (next_moment mid c.call)
        sound_then = sound_next mid c.call c.after on_it (sound_after m c.before (legal_first m c.before (c.call ∷ c.after) apart) sound)

        nothing_there : c.after ≡ [] → Behind n c.call c.before c.after pre ev post → ⊥
        nothing_there none b = none_there n c.after b.mid ev post b.rest (ap (made_by n) none) own

        replied : (rep : Reply) → Behind n c.call c.before c.after pre ev post → ComesTo n (carried (if_made host cap rep) (one_nearer stop) Then Halted) c.after spent e → EntryMade host c.after number its ev e
        replied (reply.Room room) b on = entering room (one_nearer stop) (next_moment mid c.call) c.after spent e sound_then on_it.2 on b.mid ev post b.rest own number its most asked
        replied rep b on = absurd (nothing_there on.0 b)

        goes_on : Behind n c.call c.before c.after pre ev post → (b : Bool) → ComesTo n (if b then Halted else carried (if_made host cap c.call.reply) (one_nearer stop) Then Halted) c.after spent e → EntryMade host c.after number its ev e
        goes_on b true on = absurd (nothing_there on.0 b)
        goes_on b false on = replied c.call.reply b on

  -- ---- the statement

  module _ (m : Moment) (mine : List Event) (spent : List (List Event)) (e : Ending) (sound : IsSoundAt m) (lawful : IsLawful m.state mine) (pre : List Event) (ev : Event) (post : List Event) (split : mine ≡ pre ++ ev ∷ post) (own : ev.caller ≡ n) (number its most : ℕ) (asked : ev.ask.call ≡ Enter number its most) where
    abbrev Made : ℕ → Type 0
    Made host = EntryMade host mine number its ev e

    opens_enter : (left : Kept) (stop : Option Stop) (name : List ℕ) (writer : Option WriterHandle) → ComesTo n (opens left stop name writer) mine spent e → Made left.host
    opens_enter left stop name (Some handle) comes = absurd (none_there n mine pre ev post split (ap (made_by n) comes.0) own)
    opens_enter left stop name None comes = program_enters left left.host left.cap name stop m mine spent e sound lawful comes pre ev post split own number its most asked

    greeted_enters : (kept : Kept) (name : List ℕ) → ComesTo n (greeted_work kept (say.Open name)) mine spent e → Made kept.host
    greeted_enters kept name comes = elim kept.gone as (λ b. ComesTo n (if b then finishes (gone kept) else does (disarmed kept) kept.armed (say.Open name)) mine spent e → Made kept.host) [
      | true ↦ λ c. absurd (none_there n mine pre ev post split (ap (made_by n) c.0) own)
      | false ↦ λ c. opens_enter (disarmed kept) kept.armed name kept.writer c
    ] comes

  -- the law of this file
  pub entry_made : (kept : Kept) (name : List ℕ) (m : Moment) (mine : List Event) (spent : List (List Event)) (e : Ending) → IsSoundAt m → IsLawful m.state mine → ComesTo n (work_of kept (say.Open name)) mine spent e
      → (pre : List Event) (ev : Event) (post : List Event) → mine ≡ pre ++ ev ∷ post → ev.caller ≡ n → (number its most : ℕ) → ev.ask.call ≡ Enter number its most → EntryMade kept.host mine number its ev e
  entry_made kept name m mine spent e sound lawful comes pre ev post split own number its most asked =
      elim kept.greeted as (λ b. ComesTo n (if b then greeted_work kept (say.Open name) else asks (unbroken Greet) (λ r. greeted_work (greeted kept) (say.Open name))) mine spent e → EntryMade kept.host mine number its ev e) [
        | true ↦ λ c. greeted_enters m mine spent e sound lawful pre ev post split own number its most asked kept name c
        | false ↦ λ c. greets c.before c.call c.after c.all c.none_before c.own c.asked c.goes_on
      ] comes
    where
      greets : (before : List Event) (call : Event) (after : List Event) → mine ≡ before ++ call ∷ after → made_by n before ≡ [] → call.caller ≡ n → call.ask ≡ unbroken Greet → ComesTo n (greeted_work (greeted kept) (say.Open name)) after spent e → EntryMade kept.host mine number its ev e
      greets before call after all none its_own greeting on = elim (next_or n (unbroken Greet) before call after mine all none pre ev post split own) as (λ _. EntryMade kept.host mine number its ev e) [
        | inl f ↦ absurd (let clash : Greet ≡ Enter number its most = sym (ap (λ (a : Ask). a.call) greeting) ∙ ap (λ (x : Event). x.ask.call) f.same ∙ asked in cc)
        | inr b ↦ behind_it kept.host number its ev e mine before after call all none its_own (subst IsNoEnter (sym (ap (λ (a : Ask). a.call) greeting)) tt) (
            let apart : IsLawful m.state (before ++ call ∷ after) = subst (IsLawful m.state) all lawful in
            let mid : Moment = moment_after m before in
            let on_it : IsLawful mid.state (call ∷ after) = legal_rest m before (call ∷ after) apart in
            greeted_enters (next_moment mid call) after spent e (sound_next mid call after on_it (sound_after m before (legal_first m before (call ∷ after) apart) sound)) on_it.2 b.mid ev post b.rest own number its most asked (greeted kept) name on
            )
      ]
