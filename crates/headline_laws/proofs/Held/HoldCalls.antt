-- What a truncate and a rename call behind their hold, whatever is replied: nothing that changes who holds, until they let go or are stopped.
use Rattle.std.proofs.Common.{◌≡◌, ◌⊎◌, inl, inr, ℕ, Bool, true, false, nat_eq, List, [], ◌∷◌, ◌++◌, Option, Some, None, Result, Ok, Err, refl, sym, ap, ◌∙◌, subst, append_assoc, if◌then◌else◌}
use Rattle.std.specs.Prelude.{⊤}
use Rattle.std.proofs.lemmas.List.{append-nil}
use Rattle.turn_object.specs.Callers.{made_by}
use Rattle.mount_model.specs.Process.{asks, ends, pauses, shares, tells}
use Rattle.mount_model.specs.Program.{ask, done}
use Rattle.mount_model.proofs.Stories.Facts.{entries_both, entries_first}
use Rattle.mount_model.specs.declared.call.Ask.{Ask}
use Rattle.mount_model.specs.declared.call.Call.{Call}
use Rattle.mount_model.specs.declared.call.Call.TheVariants.{Find, Greet, Hold, Look, Mark, Move, Release}
use Rattle.mount_model.specs.declared.call.Look.TheVariants.{List as ListFolder}
use Rattle.mount_model.specs.declared.reply.Reply.{Reply}
use Rattle.mount_model.specs.declared.reply.Reply.TheVariants as reply
use Rattle.mount_model.specs.declared.stuck.Stuck.{Stuck}
use Rattle.mount_model.specs.FlowListed.{told_by}
use Rattle.mount_model.specs.FlowReplies.{Tries, failure, given, room_in}
use Rattle.mount_model.specs.History.{Event}
use Rattle.mount_model.specs.Paths.{Name, metadata, truncs}
use Rattle.mount_model.specs.Running.{unbroken}
use Rattle.mount_model.proofs.Facts.{IsElsewhere}
use Rattle.trunc_rename.specs.Holding.{holder_in, holds, lets_go, or_lets_go, released}
use Rattle.trunc_rename.specs.Renaming.{moved, moves}
use Rattle.trunc_rename.specs.Tops.{metadata_top, truncs_top}
use Rattle.trunc_rename.specs.Truncating.{lists_metadata, lists_truncs, marked, marks}
use Rattle.script_lang.specs.declared.line.Outcome.TheVariants as line
use Rattle.script_lang.specs.declared.script.Statement.TheVariants as say
use Rattle.actor_core.specs.declared.kept.Kept.{Kept}
use Rattle.actor_core.specs.declared.kept.Stop.{Stop}
use Rattle.actor_core.specs.Along.{IfWhole}
use Rattle.actor_core.specs.Endings.{Ending, gone, renamed, stopped, truncated}
use Rattle.actor_core.specs.Statements.{disarmed, does, greeted, greeted_work, work_of}
use Rattle.actor_core.specs.Stopping.{carried, is_due, one_nearer}
use Rattle.actor_core.specs.Work.{Work, finishes}
use Rattle.headline_laws.proofs.Plays.Facts.{Anyhow, ComesTo}
use Rattle.headline_laws.proofs.Story.Attributed.{either_part, head_of, none_there, tail_of}
use Rattle.headline_laws.proofs.Story.Lines.{first_held, held_or, held_room}
use Rattle.headline_laws.proofs.Makers.Holding.{IsNoHold}
use Rattle.headline_laws.proofs.Makers.Holds.{TellsSo, hold_or, no_hold_held, told_none}

-- ---- kinds of work

abbrev IsStopped : Ending → Type 0
IsStopped e = e.outcome ≡ line.Stopped

-- it lets go of this hold, or the call changes nothing of who holds
abbrev IfReleases : ℕ → Call → Type 0 → Type 0 → Type 0
IfReleases holder (Release k) one other = (k ≡ holder) × one
IfReleases holder call one other = IsElsewhere call × other

-- by this hold it goes on until it lets go, or is stopped
abbrev GoesOn : ℕ → Work → Type 0
GoesOn holder ends = ⊥
GoesOn holder (pauses work) = ⊥
GoesOn holder (tells e work) = ⊥
GoesOn holder (asks q k) = IsNoHold q.call × IfWhole q.stop (IfReleases holder q.call ((r : Reply) → TellsSo Anyhow (k r)) ((r : Reply) → GoesOn holder (k r))) ((r : Reply) → TellsSo IsStopped (k r))
GoesOn holder (shares programs k alone) = ⊥

-- it was granted, or it is at its end
abbrev Granted : Reply → Work → Type 0
Granted (reply.Holding holder) work = GoesOn holder work
Granted r work = TellsSo Anyhow work

abbrev IfHolds : Call → Type 0 → Type 0 → Type 0
IfHolds (Hold room) one other = one
IfHolds call one other = other

-- it holds one container, if any, and lets go of it
abbrev pub HoldsOnce : Work → Type 0
HoldsOnce ends = ⊥
HoldsOnce (pauses work) = ⊥
HoldsOnce (tells e work) = ⊤
HoldsOnce (asks q k) = IfHolds q.call (IfWhole q.stop ((r : Reply) → Granted r (k r)) ((r : Reply) → TellsSo IsStopped (k r))) ((r : Reply) → HoldsOnce (k r))
HoldsOnce (shares programs k alone) = ⊥

releases_or : (holder : ℕ) (call : Call) (one other : Type 0) → IfReleases holder call one other → ((call ≡ Release holder) × one) ⊎ (IsElsewhere call × other)
releases_or holder (Release k) one other it = inl (ap Release it.0, it.1)
releases_or holder call one other it = inr it

granted_or : (r : Reply) (work : Work) → Granted r work → ((holder : ℕ) × (r ≡ reply.Holding holder) × GoesOn holder work) ⊎ (((holder : ℕ) → r ≡ reply.Holding holder → ⊥) × TellsSo Anyhow work)
granted_or (reply.Holding holder) work is = inl (holder, refl, is)
granted_or r work is = inr (λ holder told. cc, is)

holds_so : (call : Call) (room : ℕ) (one other : Type 0) → call ≡ Hold room → IfHolds call one other → one
holds_so call room one other is it = subst (λ c. IfHolds c one other) is it

holds_not : (call : Call) (one other : Type 0) → IsNoHold call → IfHolds call one other → other
holds_not (Hold room) one other none it = absurd none
holds_not call one other none it = it

at_reply : (stop : Option ℕ) (one other : Reply → Type 0) (r : Reply) → IfWhole stop ((x : Reply) → one x) ((x : Reply) → other x) → IfWhole stop (one r) (other r)
at_reply None one other r goes = goes r
at_reply (Some bytes) one other r goes = goes r

-- ---- its own calls in a part

module _ (n : ℕ) where
  -- each own call of these is such a one
  abbrev pub EachOwn : (Event → Type 0) → List Event → Type 0
  EachOwn P events = (a : List Event) (x : Event) (b : List Event) → events ≡ a ++ x ∷ b → x.caller ≡ n → P x

  none_own : (P : Event → Type 0) (events : List Event) → made_by n events ≡ [] → EachOwn P events
  none_own P events none a x b is own = absurd (none_there n events a x b is none own)

  one_more : (P : Event → Type 0) (before : List Event) (call : Event) (after : List Event) → made_by n before ≡ [] → P call → EachOwn P after → EachOwn P (before ++ call ∷ after)
  one_more P before call after none here later a x b is own = elim (either_part before (call ∷ after) a x b is) as (λ _. P x) [
    | inl (u, front, rest) ↦ absurd (none_there n before a x u front none own)
    | inr (u, front, rest) ↦ by u rest
  ]
    where
      by : (u : List Event) → call ∷ after ≡ u ++ x ∷ b → P x
      by [] rest = subst P (head_of call x after b rest) here
      by (y ∷ u) rest = later u x b (tail_of call y after (u ++ x ∷ b) rest) own

  abbrev pub IsNone : Event → Type 0
  IsNone x = IsNoHold x.ask.call

  -- the call is whole, and changes nothing of who holds
  abbrev pub IsAside : Event → Type 0
  IsAside x = (x.ask.stop ≡ None) × IsElsewhere x.ask.call

  -- ---- behind a hold that was granted

  data Behind (holder : ℕ) (mine : List Event) (e : Ending) : Type 0 where
    stops : (u : List Event) (x : Event) (v : List Event) (bytes : ℕ) → mine ≡ u ++ x ∷ v → x.caller ≡ n → x.ask.stop ≡ Some bytes → e.outcome ≡ line.Stopped → Behind holder mine e
    frees : (u : List Event) (last : Event) (v : List Event) → mine ≡ u ++ last ∷ v → EachOwn IsAside u → last.caller ≡ n → last.ask ≡ unbroken (Release holder) → Behind holder mine e

  later_on : (holder : ℕ) (before : List Event) (call : Event) (after mine : List Event) (e : Ending) → mine ≡ before ++ call ∷ after → made_by n before ≡ [] → IsAside call → Behind holder after e → Behind holder mine e
  later_on holder before call after mine e all none aside (stops u x v bytes is own broken told) = stops (before ++ call ∷ u) x v bytes (all ∙ ap (λ z. before ++ call ∷ z) is ∙ sym (append_assoc before (call ∷ u) (x ∷ v))) own broken told
  later_on holder before call after mine e all none aside (frees u last v is each own asked) =
      frees (before ++ call ∷ u) last v (all ∙ ap (λ z. before ++ call ∷ z) is ∙ sym (append_assoc before (call ∷ u) (last ∷ v))) (one_more IsAside before call u none aside each) own asked

  goes_on : (holder : ℕ) (work : Work) (mine : List Event) (spent : List (List Event)) (e : Ending) → GoesOn holder work → ComesTo n work mine spent e → Behind holder mine e × EachOwn IsNone mine
  goes_on holder ends mine spent e goes comes = absurd goes
  goes_on holder (pauses work) mine spent e goes comes = absurd goes
  goes_on holder (tells end work) mine spent e goes comes = absurd goes
  goes_on holder (asks q k) mine spent e goes m =
      elim q.stop as (λ o. q.stop ≡ o → IfWhole o (IfReleases holder q.call ((r : Reply) → TellsSo Anyhow (k r)) ((r : Reply) → GoesOn holder (k r))) ((r : Reply) → TellsSo IsStopped (k r)) → Behind holder mine e × EachOwn IsNone mine) [
        | Some bytes ↦ λ stop over.
            let t = told_none n IsStopped (k m.call.reply) m.after spent e (over m.call.reply) m.goes_on in
            (stops m.before m.call m.after bytes m.all m.own (ap (λ (a : Ask). a.stop) m.asked ∙ stop) t.1, more (none_own IsNone m.after (ap (made_by n) t.0)))
        | None ↦ λ stop whole. elim (releases_or holder q.call ((r : Reply) → TellsSo Anyhow (k r)) ((r : Reply) → GoesOn holder (k r)) whole) as (λ _. Behind holder mine e × EachOwn IsNone mine) [
          | inl (is, over) ↦
              let t = told_none n Anyhow (k m.call.reply) m.after spent e (over m.call.reply) m.goes_on in (
                frees m.before m.call m.after m.all (none_own IsAside m.before m.none_before) m.own (m.asked ∙ ap (λ c. record { call = c; stop = q.stop }) is ∙ ap (λ s. record { call = Release holder; stop = s }) stop),
                more (none_own IsNone m.after (ap (made_by n) t.0)),
              )
          | inr (aside, on) ↦
              let b = goes_on holder (k m.call.reply) m.after spent e (on m.call.reply) m.goes_on in
              (later_on holder m.before m.call m.after mine e m.all m.none_before (ap (λ (a : Ask). a.stop) m.asked ∙ stop, subst (λ (a : Ask). IsElsewhere a.call) (sym m.asked) aside) b.0, more b.1)
        ]
      ] refl goes.1
    where
      more : EachOwn IsNone m.after → EachOwn IsNone mine
      more each = subst (EachOwn IsNone) (sym m.all) (one_more IsNone m.before m.call m.after m.none_before (subst (λ (a : Ask). IsNoHold a.call) (sym m.asked) goes.0) each)
  goes_on holder (shares programs k alone) mine spent e goes comes = absurd goes

  -- ---- the hold

  -- how the statement goes on: it is stopped in this call or a later one, it lets go, or it was not granted
  pub data HeldEnd (ev : Event) (post : List Event) (e : Ending) : Type 0 where
    halted : (u : List Event) (x : Event) (v : List Event) (bytes : ℕ) → ev ∷ post ≡ u ++ x ∷ v → x.caller ≡ n → x.ask.stop ≡ Some bytes → e.outcome ≡ line.Stopped → HeldEnd ev post e
    let_go : (holder : ℕ) (u : List Event) (last : Event) (v : List Event) → ev.ask.stop ≡ None → ev.reply ≡ reply.Holding holder → post ≡ u ++ last ∷ v → EachOwn IsAside u → last.caller ≡ n → last.ask ≡ unbroken (Release holder) → HeldEnd ev post e
    ungranted : ev.ask.stop ≡ None → ((holder : ℕ) → ev.reply ≡ reply.Holding holder → ⊥) → HeldEnd ev post e

  behind_hold : (ev : Event) (work : Work) (after : List Event) (spent : List (List Event)) (e : Ending) → ev.caller ≡ n → IfWhole ev.ask.stop (Granted ev.reply work) (TellsSo IsStopped work) → ComesTo n work after spent e → HeldEnd ev after e × EachOwn IsNone after
  behind_hold ev work after spent e own goes comes = elim ev.ask.stop as (λ o. ev.ask.stop ≡ o → IfWhole o (Granted ev.reply work) (TellsSo IsStopped work) → HeldEnd ev after e × EachOwn IsNone after) [
    | Some bytes ↦ λ stop over. (let t = told_none n IsStopped work after spent e over comes in (halted [] ev after bytes refl own stop t.1, none_own IsNone after (ap (made_by n) t.0)))
    | None ↦ λ stop whole. elim (granted_or ev.reply work whole) as (λ _. HeldEnd ev after e × EachOwn IsNone after) [
      | inl (holder, told, on) ↦ (let b = goes_on holder work after spent e on comes in (by stop holder told b.0, b.1))
      | inr (never, over) ↦ (ungranted stop never, none_own IsNone after (ap (made_by n) (told_none n Anyhow work after spent e over comes).0))
    ]
  ] refl goes
    where
      by : ev.ask.stop ≡ None → (holder : ℕ) → ev.reply ≡ reply.Holding holder → Behind holder after e → HeldEnd ev after e
      by stop holder told (stops u x v bytes is its broken ended) = halted (ev ∷ u) x v bytes (ap (λ z. ev ∷ z) is) its broken ended
      by stop holder told (frees u last v is each its asked) = let_go holder u last v stop told is each its asked

  -- Its one hold: no other call of it holds.
  pub record HeldOnce (mine pre : List Event) (ev : Event) (post : List Event) (room : ℕ) (e : Ending) : Type 0 where
    pub room_is : (nothing : ℕ) → held_room n nothing mine ≡ room
    pub before : EachOwn IsNone pre
    pub behind : EachOwn IsNone post
    pub ended : HeldEnd ev post e

  pub holds_once : (work : Work) (mine : List Event) (spent : List (List Event)) (e : Ending) → HoldsOnce work → ComesTo n work mine spent e → (pre : List Event) (ev : Event) (post : List Event) → mine ≡ pre ++ ev ∷ post → ev.caller ≡ n → (room : ℕ) → ev.ask.call ≡ Hold room → HeldOnce mine pre ev post room e
  holds_once ends mine spent e once comes pre ev post split own room holding = absurd once
  holds_once (pauses work) mine spent e once comes pre ev post split own room holding = absurd once
  holds_once (tells end work) mine spent e once comes pre ev post split own room holding = absurd (none_there n mine pre ev post split (ap (made_by n) comes.0) own)
  holds_once (asks q k) mine spent e once m pre ev post split own room holding = elim (either_part m.before (m.call ∷ m.after) pre ev post (sym m.all ∙ split)) as (λ _. HeldOnce mine pre ev post room e) [
    | inl (u, front, later) ↦ absurd (none_there n m.before pre ev u front m.none_before own)
    | inr (u, front, later) ↦ by u front later (λ goes v more. holds_once (k m.call.reply) m.after spent e goes m.goes_on v ev post more own room holding)
  ]
    where
      call_is : m.call.ask.call ≡ q.call
      call_is = ap (λ (a : Ask). a.call) m.asked

      own_calls : made_by n mine ≡ m.call ∷ made_by n m.after
      own_calls = ap (made_by n) m.all ∙ entries_both n m.before (m.call ∷ m.after) ∙ ap (λ z. z ++ made_by n (m.call ∷ m.after)) m.none_before ∙ entries_first n m.call m.after m.own

      -- behind the hold
      its_hold : (other : ℕ) → q.call ≡ Hold other → HeldEnd m.call m.after e × EachOwn IsNone m.after
      its_hold other is = behind_hold m.call (k m.call.reply) m.after spent e m.own
          (at_reply m.call.ask.stop (λ r. Granted r (k r)) (λ r. TellsSo IsStopped (k r)) m.call.reply
          (subst (λ (a : Ask). IfWhole a.stop ((r : Reply) → Granted r (k r)) ((r : Reply) → TellsSo IsStopped (k r))) (sym m.asked)
          (holds_so q.call other (IfWhole q.stop ((r : Reply) → Granted r (k r)) ((r : Reply) → TellsSo IsStopped (k r))) ((r : Reply) → HoldsOnce (k r)) is once))) m.goes_on

      by : (u : List Event) → pre ≡ m.before ++ u → m.call ∷ m.after ≡ u ++ ev ∷ post → (HoldsOnce (k m.call.reply) → (v : List Event) → m.after ≡ v ++ ev ∷ post → HeldOnce m.after v ev post room e) → HeldOnce mine pre ev post room e
      by [] front later on =
          let same : m.call ≡ ev = head_of m.call ev m.after post later in
          let rest : m.after ≡ post = tail_of m.call ev m.after post later in
          let is : q.call ≡ Hold room = sym call_is ∙ ap (λ (x : Event). x.ask.call) same ∙ holding in
          let b = its_hold room is in
          record {
            room_is = λ nothing. ap (first_held nothing) own_calls ∙ ap (λ c. held_or c (first_held nothing (made_by n m.after))) (call_is ∙ is);
            before = subst (EachOwn IsNone) (sym (front ∙ append-nil m.before)) (none_own IsNone m.before m.none_before);
            behind = subst (EachOwn IsNone) rest b.1;
            ended = subst (λ x. HeldEnd x post e) same (subst (λ z. HeldEnd m.call z e) rest b.0);
          }
      by (y ∷ u) front later on =
          let same : m.call ≡ y = head_of m.call y m.after (u ++ ev ∷ post) later in
          let more : m.after ≡ u ++ ev ∷ post = tail_of m.call y m.after (u ++ ev ∷ post) later in
          elim (hold_or q.call) as (λ _. HeldOnce mine pre ev post room e) [
            | inl (other, is) ↦ absurd (subst IsNoHold holding ((its_hold other is).1 u ev post more own))
            | inr none ↦
                let c = on (holds_not q.call (IfWhole q.stop ((r : Reply) → Granted r (k r)) ((r : Reply) → TellsSo IsStopped (k r))) ((r : Reply) → HoldsOnce (k r)) none once m.call.reply) u more in
                let here : pre ≡ m.before ++ m.call ∷ u = front ∙ ap (λ x. m.before ++ x ∷ u) (sym same) in
                record {
                  room_is = λ nothing. ap (first_held nothing) own_calls ∙ no_hold_held m.call.ask.call (first_held nothing (made_by n m.after)) (subst IsNoHold (sym call_is) none) ∙ c.room_is nothing;
                  before = subst (EachOwn IsNone) (sym here) (one_more IsNone m.before m.call u m.none_before (subst IsNoHold (sym call_is) none) c.before);
                  behind = c.behind;
                  ended = c.ended;
                }
          ]
  holds_once (shares programs k alone) mine spent e once comes pre ev post split own room holding = absurd once

-- ---- the statements

module _ {R : Type 0} (kept : Kept) (says : Result R Stuck → Ending) where
  abbrev Then : Option Stop → Result R Stuck → Work
  Then left result = finishes (says result)

  abbrev Halted : Work
  Halted = finishes (stopped kept)

  abbrev Carried : Tries R → Option Stop → Work
  Carried p stop = carried p stop Then Halted

  on_ask : (holder : ℕ) (call : Call) (k : Reply → Tries R) (stop : Option Stop) → IsNoHold call → ((later : Option Stop) → IfReleases holder call ((r : Reply) → TellsSo Anyhow (Carried (k r) later)) ((r : Reply) → GoesOn holder (Carried (k r) later))) → GoesOn holder (Carried (ask call k) stop)
  on_ask holder call k None none goes = (none, goes None)
  on_ask holder call k (Some s) none goes = (
    none,
    elim (nat_eq s.call 1) as (λ b. IfWhole (if b then Some s.bytes else None) (IfReleases holder call ((r : Reply) → TellsSo Anyhow (if b then Halted else Carried (k r) (one_nearer (Some s)))) ((r : Reply) → GoesOn holder (if b then Halted else Carried (k r) (one_nearer (Some s))))) ((r : Reply) → TellsSo IsStopped (if b then Halted else Carried (k r) (one_nearer (Some s))))) [
      | true ↦ λ r. refl
      | false ↦ goes (one_nearer (Some s))
    ],
  )

  frees_on : (holder : ℕ) (outcome : Result R Stuck) (stop : Option Stop) → GoesOn holder (Carried (lets_go holder outcome) stop)
  frees_on holder outcome stop = on_ask holder (Release holder) (λ r. done (released outcome r)) stop tt (λ later. (refl, λ r. tt))

  or_on : {A : Type 0} (holder : ℕ) (next : A → Tries R) (result : Result A Stuck) (stop : Option Stop) → ((a : A) (later : Option Stop) → GoesOn holder (Carried (next a) later)) → GoesOn holder (Carried (or_lets_go holder next result) stop)
  or_on holder next (Ok a) stop goes = goes a stop
  or_on holder next (Err why) stop goes = frees_on holder (Err why) stop

  granted_so : (next : ℕ → Tries R) → ((holder : ℕ) (later : Option Stop) → GoesOn holder (Carried (next holder) later)) → (r : Reply) (later : Option Stop) → Granted r (Carried (given (holder_in r) (failure r) next) later)
  granted_so next goes (reply.Holding holder) later = goes holder later
  granted_so next goes r later = tt

  hold_once : (room : ℕ) (next : ℕ → Tries R) (stop : Option Stop) → ((holder : ℕ) (later : Option Stop) → GoesOn holder (Carried (next holder) later)) → HoldsOnce (Carried (holds room next) stop)
  hold_once room next None goes = λ r. granted_so next goes r None
  hold_once room next (Some s) goes = elim (nat_eq s.call 1) as (λ b. IfWhole (if b then Some s.bytes else None) ((r : Reply) → Granted r (if b then Halted else Carried (given (holder_in r) (failure r) next) (one_nearer (Some s)))) ((r : Reply) → TellsSo IsStopped (if b then Halted else Carried (given (holder_in r) (failure r) next) (one_nearer (Some s))))) [
    | true ↦ λ r. refl
    | false ↦ λ r. granted_so next goes r (one_nearer (Some s))
  ]

  found_once : (next : ℕ → ℕ → Tries R) → ((room holder : ℕ) (later : Option Stop) → GoesOn holder (Carried (next room holder) later)) → (r : Reply) (b : Bool) (stop : Option Stop) → HoldsOnce (if b then Halted else Carried (given (room_in r) (failure r) (λ room. holds room (next room))) stop)
  found_once next goes r true stop = tt
  found_once next goes (reply.Room room) false stop = hold_once room (next room) stop (goes room)
  found_once next goes r false stop = tt

  by_name_once : (name : Name) (next : ℕ → ℕ → Tries R) (stop : Option Stop) → ((room holder : ℕ) (later : Option Stop) → GoesOn holder (Carried (next room holder) later)) → HoldsOnce (Carried (ask (Find name) (λ r. given (room_in r) (failure r) (λ room. holds room (next room)))) stop)
  by_name_once name next stop goes = λ r. found_once next goes r (is_due stop) (one_nearer stop)

module _ (kept : Kept) where
  module _ (size : ℕ) where
    abbrev CarriedTrunc : Tries ℕ → Option Stop → Work
    CarriedTrunc p stop = carried p stop (λ left result. finishes (truncated kept result)) (finishes (stopped kept))

    marks_on : (holder top : ℕ) (stop : Option Stop) → GoesOn holder (CarriedTrunc (marks size holder top) stop)
    marks_on holder top stop = on_ask kept (truncated kept) holder (Mark holder size top) (λ r. lets_go holder (marked r)) stop tt (λ later. (tt, λ r. frees_on kept (truncated kept) holder (marked r) later))

    truncs_on : (room holder top : ℕ) (stop : Option Stop) → GoesOn holder (CarriedTrunc (lists_truncs size room holder top) stop)
    truncs_on room holder top stop = on_ask kept (truncated kept) holder (Look room (ListFolder truncs)) (λ r. or_lets_go holder (marks size holder) (told_by truncs (λ names. truncs_top names top) r)) stop tt
        (λ later. (tt, λ r. or_on kept (truncated kept) holder (marks size holder) (told_by truncs (λ names. truncs_top names top) r) later (λ next armed. marks_on holder next armed)))

    metadata_on : (room holder : ℕ) (stop : Option Stop) → GoesOn holder (CarriedTrunc (lists_metadata size room holder) stop)
    metadata_on room holder stop = on_ask kept (truncated kept) holder (Look room (ListFolder metadata)) (λ r. or_lets_go holder (lists_truncs size room holder) (told_by metadata (λ names. metadata_top names 0) r)) stop tt
        (λ later. (tt, λ r. or_on kept (truncated kept) holder (lists_truncs size room holder) (told_by metadata (λ names. metadata_top names 0) r) later (λ top armed. truncs_on room holder top armed)))

  moves_on : (to : Name) (holder : ℕ) (stop : Option Stop) → GoesOn holder (carried (moves to holder) stop (λ left result. finishes (renamed kept result)) (finishes (stopped kept)))
  moves_on to holder stop = on_ask kept (renamed kept) holder (Move holder to) (λ r. lets_go holder (moved r)) stop tt (λ later. (tt, λ r. frees_on kept (renamed kept) holder (moved r) later))

  truncates_once : (stop : Option Stop) (name : Name) (size : ℕ) → HoldsOnce (does kept stop (say.Trunc name size))
  truncates_once stop name size = by_name_once kept (truncated kept) name (lists_metadata size) stop (λ room holder later. metadata_on size room holder later)

  renames_once : (stop : Option Stop) (name to : Name) → HoldsOnce (does kept stop (say.Rename name to))
  renames_once stop name to = by_name_once kept (renamed kept) name (λ room. moves to) stop (λ room holder later. moves_on to holder later)

greeted_truncate : (kept : Kept) (name : Name) (size : ℕ) → HoldsOnce (greeted_work kept (say.Trunc name size))
greeted_truncate kept name size = elim kept.gone as (λ b. HoldsOnce (if b then finishes (gone kept) else does (disarmed kept) kept.armed (say.Trunc name size))) [
  | true ↦ tt
  | false ↦ truncates_once (disarmed kept) kept.armed name size
]

greeted_rename : (kept : Kept) (name to : Name) → HoldsOnce (greeted_work kept (say.Rename name to))
greeted_rename kept name to = elim kept.gone as (λ b. HoldsOnce (if b then finishes (gone kept) else does (disarmed kept) kept.armed (say.Rename name to))) [
  | true ↦ tt
  | false ↦ renames_once (disarmed kept) kept.armed name to
]

-- the laws of this file
pub truncate_holds : (kept : Kept) (name : Name) (size : ℕ) → HoldsOnce (work_of kept (say.Trunc name size))
truncate_holds kept name size = elim kept.greeted as (λ b. HoldsOnce (if b then greeted_work kept (say.Trunc name size) else asks (unbroken Greet) (λ r. greeted_work (greeted kept) (say.Trunc name size)))) [
  | true ↦ greeted_truncate kept name size
  | false ↦ λ r. greeted_truncate (greeted kept) name size
]

pub rename_holds : (kept : Kept) (name to : Name) → HoldsOnce (work_of kept (say.Rename name to))
rename_holds kept name to = elim kept.greeted as (λ b. HoldsOnce (if b then greeted_work kept (say.Rename name to) else asks (unbroken Greet) (λ r. greeted_work (greeted kept) (say.Rename name to)))) [
  | true ↦ greeted_rename kept name to
  | false ↦ λ r. greeted_rename (greeted kept) name to
]
