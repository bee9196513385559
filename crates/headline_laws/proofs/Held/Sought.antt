-- The call by which an opening or a recovery is refused as held: the one finds its container shut, the other finds it held.
use Rattle.std.proofs.Common.{◌≡◌, ◌⊎◌, inl, inr, ℕ, Bool, true, false, List, [], ◌∷◌, ◌++◌, Option, Some, None, Result, Ok, Err, refl, sym, ap, ◌∙◌, subst, append_assoc, if◌then◌else◌}
use Rattle.std.specs.Prelude.{◌==◌}
use Rattle.turn_object.specs.Callers.{made_by}
use Rattle.mount_model.specs.Program.{done}
use Rattle.mount_model.proofs.Stories.Facts.{entries_both}
use Rattle.mount_model.specs.declared.call.Ask.{Ask}
use Rattle.mount_model.specs.declared.call.Call.TheVariants.{Enter, Find, Look, MakeContainer, MendHold}
use Rattle.mount_model.specs.declared.call.Look.TheVariants.{List as ListFolder}
use Rattle.mount_model.specs.declared.reply.Refusal.{Refusal}
use Rattle.mount_model.specs.declared.reply.Refusal.TheVariants as refusal
use Rattle.mount_model.specs.declared.reply.Reply.{Reply}
use Rattle.mount_model.specs.declared.reply.Reply.TheVariants as reply
use Rattle.mount_model.specs.declared.row.Stage.TheVariants as stage
use Rattle.mount_model.specs.declared.stuck.Stuck.{Stuck}
use Rattle.mount_model.specs.declared.stuck.Stuck.TheVariants as stuck
use Rattle.mount_model.specs.Entering.{EntersAs, draw_check}
use Rattle.mount_model.specs.FlowListed.{told_by}
use Rattle.mount_model.specs.FlowReplies.{failure, given, is_no_folder, room_in}
use Rattle.mount_model.specs.History.{Event}
use Rattle.mount_model.specs.Making.{Refuses, or_reason}
use Rattle.mount_model.specs.Paths.{Name}
use Rattle.mount_model.specs.Running.{Runs}
use Rattle.mount_model.specs.Step.{Answers}
use Rattle.mount_model.specs.Table.{is_held_room}
use Rattle.container_layout.specs.Paths.{openhosts}
use Rattle.mount_model.proofs.Facts.{match_cases, may_enter}
use Rattle.mount_sound.specs.Owed.{IsLawful}
use Rattle.reader_laws.specs.Moments.{IsSoundAt, Moment, moment_after, next_moment}
use Rattle.reader_laws.specs.Failing.{IsContainerAt}
use Rattle.reader_laws.proofs.Gathered.Facts.{grows_after, legal_first, legal_rest, moment-append, sound_after}
use Rattle.container_layout.specs.declared.items.Item.TheVariants.{Access}
use Rattle.script_lang.specs.declared.line.Outcome.{Outcome}
use Rattle.script_lang.specs.declared.line.Outcome.TheVariants as line
use Rattle.script_lang.specs.declared.line.Why.TheVariants as why_is
use Rattle.script_lang.specs.declared.script.Statement.TheVariants as say
use Rattle.writer_flow.specs.declared.handle.WriterHandle.{WriterHandle}
use Rattle.writer_flow.specs.Ending.{trouble}
use Rattle.writer_flow.specs.Opening.{Opening, enters, finds_floor, if_entered, if_made, open_program}
use Rattle.torn_tail.specs.declared.recovering.Recovered.{Recovered}
use Rattle.torn_tail.specs.Recovering.{entries_named, hold_mended, lists_open, mends_hold, recover_program, recovers_listed}
use Rattle.outcomes.specs.Outcomes.{or_stuck, stuck_outcome}
use Rattle.actor_core.specs.declared.kept.Kept.{Kept}
use Rattle.actor_core.specs.declared.kept.Stop.{Stop}
use Rattle.actor_core.specs.Endings.{Ending, opened, recovered, refused, stopped}
use Rattle.actor_core.specs.Statements.{disarmed, does, work_of}
use Rattle.actor_core.specs.Work.{finishes}
use Rattle.actor_core.specs.Writers.{opens}
use Rattle.headline_laws.specs.Refusing.{WasShut}
use Rattle.headline_laws.proofs.Plays.Facts.{ComesTo}
use Rattle.headline_laws.proofs.Plays.Refused.Unheld.{HasAsked, given_or_not, has_asked, refused_so}
use Rattle.headline_laws.proofs.Landed.Machines.{Greeted, alive_does, greets}
use Rattle.headline_laws.proofs.Makers.Rows.{entered_so}
use Rattle.headline_laws.proofs.Reasons.Along.{runs_goes, stepped}
use Rattle.headline_laws.proofs.Reasons.Containers.{found_there}
use Rattle.headline_laws.proofs.Reasons.Goes.{Stepped, staged, stands}
use Rattle.headline_laws.proofs.Reasons.Holds.{draw_so}
use Rattle.headline_laws.proofs.Reasons.Opening.{EntersSo, floor_goes}
use Rattle.headline_laws.proofs.Reasons.Recovering.{listed_goes, look_fine, told_so}
use Rattle.headline_laws.proofs.Story.Opened.{RanTo, carried_came}

-- ---- results

abbrev Held : {R : Type 0} → Result R Stuck
Held = Err (stuck.Refused refusal.Held)

no_held : (why : Stuck) → stuck_outcome why ≡ line.Refused why_is.Held → why ≡ stuck.Refused refusal.Held
no_held stuck.Fault is = absurd (let clash : line.Fault ≡ line.Refused why_is.Held = is in cc)
no_held (stuck.Damaged folder file place) is = absurd (let clash : line.Damaged folder file place ≡ line.Refused why_is.Held = is in cc)
no_held (stuck.Refused refusal.Held) is = refl
no_held (stuck.Refused other) is = absurd (cc)

told_held : {A : Type 0} (says : A → Outcome) → ((a : A) → says a ≡ line.Refused why_is.Held → ⊥) → (result : Result A Stuck) → or_stuck says result ≡ line.Refused why_is.Held → result ≡ Held
told_held says never (Ok a) is = absurd (never a is)
told_held says never (Err why) is = ap (λ w. Err w) (no_held why is)

same_why : {R : Type 0} (a b : Stuck) → ◌≡◌ {A = Result R Stuck} (Err a) (Err b) → a ≡ b
same_why a b is = cc

trouble_held : (rep : Reply) (why : Refusal) → trouble rep ≡ stuck.Refused why → rep ≡ reply.Refused why
trouble_held (reply.Refused other) why is = let same : other ≡ why = cc in ap reply.Refused same
trouble_held rep why is = absurd (cc)

-- ---- an opening

-- the call that enters finds the container shut
pub record EntersShut (n : ℕ) (m : Moment) (mine : List Event) : Type 0 where
  pub room : ℕ
  pub host : ℕ
  pub most : ℕ
  pub first : List Event
  pub event : Event
  pub rest : List Event
  pub is : mine ≡ first ++ event ∷ rest
  pub own : event.caller ≡ n
  pub asked : event.ask.call ≡ Enter room host most
  pub shut : WasShut (moment_after m first) room
  pub apart : room ≡ (moment_after m first).state.marks → ⊥

module _ (n : ℕ) where
  -- a call that enters, and is refused as held
  shut_so : (room host most : ℕ) (m next : Moment) → Stepped n m (Enter room host most) (reply.Refused refusal.Held) next → WasShut m room × (room ≡ m.state.marks → ⊥)
  shut_so room host most m next s = (shows, passed)
    where
      unchecked : draw_check m.state room ≡ Some refusal.Held → ⊥
      unchecked is = elim (draw_so m.state room refusal.Held is) as (λ _. ⊥) [
        | inl clash ↦ cc
        | inr clash ↦ cc
      ]

      shows : WasShut m room
      shows = elim (s.reason refusal.Held refl) as (λ _. WasShut m room) [
        | inl check ↦ absurd (unchecked check)
        | inr (inl lacks) ↦ absurd (let clash : refusal.Held ≡ refusal.NoRoom = lacks.0 in cc)
        | inr (inr shut) ↦ shut.1
      ]

      passed : room ≡ m.state.marks → ⊥
      passed = elim (match_cases (draw_check m.state room) (EntersAs n room host most m.state (reply.Refused refusal.Held) next.state) (λ why. Refuses why m.state (reply.Refused refusal.Held) next.state) s.answers) as (λ _. room ≡ m.state.marks → ⊥) [
        | inl (none, does) ↦ (may_enter m.state room none).0
        | inr (why, some, refused_here) ↦ absurd (let is : reply.Refused refusal.Held ≡ reply.Refused why = refused_here.0 in let same : refusal.Held ≡ why = cc in unchecked (some ∙ ap (λ w. Some w) (sym same)))
      ]

  entered_or : (host cap : ℕ) (rep : Reply) → ((w : ℕ) × (rep ≡ reply.Entered w)) ⊎ (if_entered cap rep ≡ done (Err (trouble rep)))
  entered_or host cap (reply.Entered w) = inl (w, refl)
  entered_or host cap rep = inr refl

  made_or : (host cap : ℕ) (rep : Reply) → ((room : ℕ) × (rep ≡ reply.Room room)) ⊎ (if_made host cap rep ≡ done (Err (trouble rep)))
  made_or host cap (reply.Room room) = inl (room, refl)
  made_or host cap rep = inr refl

  enters_shut : (room host cap : ℕ) (m : Moment) (events : List Event) → IsSoundAt m → IsLawful m.state events → Runs n (enters room host cap) events Held → EntersShut n m events
  enters_shut room host cap m events sound lawful runs = elim (entered_or host cap g.event.reply) as (λ _. EntersShut n m events) [
    | inl (w, is) ↦
        let r = entered_so n room host cap w at.state g.event.after g.sound.regular (subst (λ x. Answers at.state n (Enter room host cap) x g.event.after) is s.answers) in
        absurd (runs_goes n (EntersSo w) (staged w stage.Entered) (finds_floor w cap) (next_moment at g.event) g.later Held (floor_goes n w cap) s.sound_then (r.row, r.has, r.begun) g.lawful.2 (subst (λ x. Runs n (if_entered cap x) g.later Held) is g.runs))
    | inr over ↦
        let refused_so_ : g.event.reply ≡ reply.Refused refusal.Held = trouble_held g.event.reply refusal.Held (same_why {R = WriterHandle} (trouble g.event.reply) (stuck.Refused refusal.Held) (subst (λ (p : Opening). Runs n p g.later Held) over g.runs).1) in
        let found = shut_so room host cap at (next_moment at g.event) (subst (λ x. Stepped n at (Enter room host cap) x (next_moment at g.event)) refused_so_ s) in
        record { room = room; host = host; most = cap; first = g.before; event = g.event; rest = g.later; is = g.split; own = g.own; asked = ap (λ (a : Ask). a.call) g.asked; shut = found.0; apart = found.1 }
  ]
    where
      g : HasAsked n m (Enter room host cap) (if_entered cap) events Held
      g = has_asked n m (Enter room host cap) (if_entered cap) events Held lawful sound runs

      at : Moment
      at = moment_after m g.before

      s : Stepped n at (Enter room host cap) g.event.reply (next_moment at g.event)
      s = stepped n at g.event g.later (Enter room host cap) g.sound g.lawful g.own g.asked

  -- behind other events
  further : (m : Moment) (before rest mine : List Event) → mine ≡ before ++ rest → EntersShut n (moment_after m before) rest → EntersShut n m mine
  further m before rest mine all k =
      let there : moment_after m (before ++ k.first) ≡ moment_after (moment_after m before) k.first = moment-append m before k.first in
      record {
        room = k.room;
        host = k.host;
        most = k.most;
        first = before ++ k.first;
        event = k.event;
        rest = k.rest;
        is = all ∙ ap (λ z. before ++ z) k.is ∙ sym (append_assoc before k.first (k.event ∷ k.rest));
        own = k.own;
        asked = k.asked;
        shut = subst (λ x. WasShut x k.room) (sym there) k.shut;
        apart = subst (λ (x : Moment). k.room ≡ x.state.marks → ⊥) (sym there) k.apart;
      }

  -- of a part of these events
  longer : (m : Moment) (first rest mine : List Event) → mine ≡ first ++ rest → EntersShut n m first → EntersShut n m mine
  longer m first rest mine all k = record { room = k.room; host = k.host; most = k.most; first = k.first; event = k.event; rest = k.rest ++ rest; is = all ∙ ap (λ z. z ++ rest) k.is ∙ append_assoc k.first (k.event ∷ k.rest) rest; own = k.own; asked = k.asked; shut = k.shut; apart = k.apart }

  opening_shut : (name : Name) (host cap : ℕ) (m : Moment) (events : List Event) → IsSoundAt m → IsLawful m.state events → Runs n (open_program name host cap) events Held → EntersShut n m events
  opening_shut name host cap m events sound lawful runs = elim (made_or host cap f.event.reply) as (λ _. EntersShut n m events) [
    | inl (room, is) ↦ further m f.before (f.event ∷ f.later) events f.split (later_on (enters_shut room host cap (next_moment at f.event) f.later s.sound_then f.lawful.2 (subst (λ x. Runs n (if_made host cap x) f.later Held) is f.runs)))
    | inr over ↦ absurd (s.reason refusal.Held (trouble_held f.event.reply refusal.Held (same_why {R = WriterHandle} (trouble f.event.reply) (stuck.Refused refusal.Held) (subst (λ (p : Opening). Runs n p f.later Held) over f.runs).1)))
  ]
    where
      f : HasAsked n m (MakeContainer name) (if_made host cap) events Held
      f = has_asked n m (MakeContainer name) (if_made host cap) events Held lawful sound runs

      at : Moment
      at = moment_after m f.before

      s : Stepped n at (MakeContainer name) f.event.reply (next_moment at f.event)
      s = stepped n at f.event f.later (MakeContainer name) f.sound f.lawful f.own f.asked

      later_on : EntersShut n (next_moment at f.event) f.later → EntersShut n at (f.event ∷ f.later)
      later_on k = record { room = k.room; host = k.host; most = k.most; first = f.event ∷ k.first; event = k.event; rest = k.rest; is = ap (λ z. f.event ∷ z) k.is; own = k.own; asked = k.asked; shut = k.shut; apart = k.apart }

module _ (n : ℕ) (spent : List (List Event)) (e : Ending) (says : e.outcome ≡ line.Refused why_is.Held) (m : Moment) where
  ends_not : (other : Ending) → (other.outcome ≡ line.Refused why_is.Held → ⊥) → (mine : List Event) → ComesTo n (finishes other) mine spent e → ⊥
  ends_not other clash mine comes = clash (ap (λ (x : Ending). x.outcome) comes.2 ∙ says)

  opens_shut : (left : Kept) (stop : Option Stop) (name : Name) (writer : Option WriterHandle) (mine : List Event) → IsSoundAt m → IsLawful m.state mine → ComesTo n (opens left stop name writer) mine spent e → EntersShut n m mine
  opens_shut left stop name (Some handle) mine sound lawful comes = absurd (ends_not (refused left why_is.AlreadyOpen) (λ is. let clash : line.Refused why_is.AlreadyOpen ≡ line.Refused why_is.Held = is in cc) mine comes)
  opens_shut left stop name None mine sound lawful comes = elim (carried_came n (open_program name left.host left.cap) stop (λ later result. finishes (opened left result)) (finishes (stopped left)) mine spent e comes) as (λ _. EntersShut n m mine) [
    | inr (rest, halted) ↦ absurd (ends_not (stopped left) (λ is. let clash : line.Stopped ≡ line.Refused why_is.Held = is in cc) rest halted)
    | inl r ↦
        let held : r.result ≡ Held = told_held (λ (handle : WriterHandle). line.Opened handle.writer) (λ handle is. let clash : line.Opened handle.writer ≡ line.Refused why_is.Held = is in cc) r.result (ap (λ (x : Ending). x.outcome) r.on.2 ∙ says) in
        longer n m r.first r.rest mine r.all (opening_shut n name left.host left.cap m r.first sound (legal_first m r.first r.rest (subst (IsLawful m.state) r.all lawful)) (subst (Runs n (open_program name left.host left.cap) r.first) held r.runs))
  ]

-- the law of openings
pub open_enters : (n : ℕ) (kept : Kept) (name : Name) (m : Moment) (mine : List Event) (spent : List (List Event)) (e : Ending) → e.outcome ≡ line.Refused why_is.Held → kept.gone ≡ false → IsSoundAt m → IsLawful m.state mine → ComesTo n (work_of kept (say.Open name)) mine spent e → EntersShut n m mine
open_enters n kept name m mine spent e says alive sound lawful comes =
    let g = greets n kept (say.Open name) mine spent e comes in
    let both : IsLawful m.state (g.first ++ g.rest) = subst (IsLawful m.state) g.all lawful in
    let first : IsLawful m.state g.first = legal_first m g.first g.rest both in
    further n m g.first g.rest mine g.all
    (opens_shut n spent e says (moment_after m g.first) (disarmed g.left) g.left.armed name g.left.writer g.rest (sound_after m g.first first sound) (legal_rest m g.first g.rest both) (alive_does n g.left (say.Open name) g.rest spent e (g.gone_is ∙ alive) g.comes))

-- ---- a recovery

-- its last call is to end a hold, and finds the container held
pub record FindsHolder (n : ℕ) (m : Moment) (mine : List Event) (room : ℕ) : Type 0 where
  pub first : List Event
  pub event : Event
  pub rest : List Event
  pub is : mine ≡ first ++ event ∷ rest
  pub own : event.caller ≡ n
  pub asked : event.ask.call ≡ MendHold room
  pub last : made_by n rest ≡ []
  pub held : is_held_room room (moment_after m first).state.table.holders ≡ true

module _ (n : ℕ) where
  beyond : (m : Moment) (before rest mine : List Event) (room : ℕ) → mine ≡ before ++ rest → FindsHolder n (moment_after m before) rest room → FindsHolder n m mine room
  beyond m before rest mine room all k = record {
    first = before ++ k.first;
    event = k.event;
    rest = k.rest;
    is = all ∙ ap (λ z. before ++ z) k.is ∙ sym (append_assoc before k.first (k.event ∷ k.rest));
    own = k.own;
    asked = k.asked;
    last = k.last;
    held = ap (λ (x : Moment). is_held_room room x.state.table.holders) (moment-append m before k.first) ∙ k.held;
  }

  behind_one : (m : Moment) (e : Event) (rest : List Event) (room : ℕ) → FindsHolder n (next_moment m e) rest room → FindsHolder n m (e ∷ rest) room
  behind_one m e rest room k = record { first = e ∷ k.first; event = k.event; rest = k.rest; is = ap (λ z. e ∷ z) k.is; own = k.own; asked = k.asked; last = k.last; held = k.held }

  checked_so : (marks held : Bool) → or_reason (if marks then Some refusal.NoRoom else None) (if held then Some refusal.Held else None) ≡ Some refusal.Held → held ≡ true
  checked_so true held is = absurd (cc)
  checked_so false true is = refl
  checked_so false false is = absurd (cc)

  holder_so : (room : ℕ) (m next : Moment) → Stepped n m (MendHold room) (reply.Refused refusal.Held) next → is_held_room room m.state.table.holders ≡ true
  holder_so room m next s = elim (s.reason refusal.Held refl) as (λ _. is_held_room room m.state.table.holders ≡ true) [
    | inl check ↦ checked_so (room == m.state.marks) (is_held_room room m.state.table.holders) check
    | inr lacks ↦ absurd (let clash : refusal.Held ≡ refusal.NoRoom = lacks.0 in cc)
  ]

  mended_held : (rep : Reply) → hold_mended rep ≡ Held → rep ≡ reply.Refused refusal.Held
  mended_held (reply.Mended made) is = absurd (cc)
  mended_held rep is = refused_so rep refusal.Held (same_why {R = Recovered} (failure rep) (stuck.Refused refusal.Held) is)

  mends_held : (room : ℕ) (m : Moment) (events : List Event) → IsSoundAt m → IsLawful m.state events → Runs n (mends_hold room) events Held → FindsHolder n m events room
  mends_held room m events sound lawful runs =
      let g = has_asked n m (MendHold room) (λ rep. done (hold_mended rep)) events Held lawful sound runs in
      let at = moment_after m g.before in
      let s = stepped n at g.event g.later (MendHold room) g.sound g.lawful g.own g.asked in
      let told : g.event.reply ≡ reply.Refused refusal.Held = mended_held g.event.reply g.runs.1 in
      record { first = g.before; event = g.event; rest = g.later; is = g.split; own = g.own; asked = ap (λ (a : Ask). a.call) g.asked; last = g.runs.0; held = holder_so room at (next_moment at g.event) (subst (λ x. Stepped n at (MendHold room) x (next_moment at g.event)) told s) }

  abbrev Never : Refusal → Type 0
  Never why = ⊥

  -- where it is there
  lists_held : (room : ℕ) (m : Moment) (events : List Event) → IsSoundAt m → IsContainerAt m room → IsLawful m.state events → Runs n (lists_open room) events Held → FindsHolder n m events room
  lists_held room m events sound had lawful runs = beyond m h.before (h.event ∷ h.later) events room h.split (behind_one at h.event h.later room (by (is_no_folder h.event.reply) h.runs))
    where
      h : HasAsked n m (Look room (ListFolder openhosts)) (λ rep. if is_no_folder rep then mends_hold room else recovers_listed room (told_by openhosts (λ names. entries_named names []) rep)) events Held
      h = has_asked n m (Look room (ListFolder openhosts)) (λ rep. if is_no_folder rep then mends_hold room else recovers_listed room (told_by openhosts (λ names. entries_named names []) rep)) events Held lawful sound runs

      at : Moment
      at = moment_after m h.before

      s : Stepped n at (Look room (ListFolder openhosts)) h.event.reply (next_moment at h.event)
      s = stepped n at h.event h.later (Look room (ListFolder openhosts)) h.sound h.lawful h.own h.asked

      then_had : IsContainerAt at room
      then_had = (grows_after m h.before (legal_first m h.before (h.event ∷ h.later) (subst (IsLawful m.state) h.split lawful)) sound).stands room Access tt had

      by : (b : Bool) → Runs n (if b then mends_hold room else recovers_listed room (told_by openhosts (λ names. entries_named names []) h.event.reply)) h.later Held → FindsHolder n (next_moment at h.event) h.later room
      by true on = mends_held room (next_moment at h.event) h.later s.sound_then h.lawful.2 on
      by false on = absurd (runs_goes n _ (stands room) (recovers_listed room (told_by openhosts (λ names. entries_named names []) h.event.reply)) (next_moment at h.event) h.later Held
          (listed_goes n Never room (told_by openhosts (λ names. entries_named names []) h.event.reply) (told_so n Never h.event.reply (look_fine n Never room (ListFolder openhosts) at (next_moment at h.event) h.event.reply s then_had)))
          s.sound_then (s.grows room then_had) h.lawful.2 on)

  -- the container was found by its name, and is held
  pub record RecoversHeld (name : Name) (m : Moment) (mine : List Event) : Type 0 where
    pub room : ℕ
    pub before : List Event
    pub finding : Event
    pub after : List Event
    pub in_it : mine ≡ before ++ finding ∷ after
    pub sought : finding.ask.call ≡ Find name
    pub found : finding.reply ≡ reply.Room room
    pub its : FindsHolder n m mine room

  recovery_held : (name : Name) (m : Moment) (events : List Event) → IsSoundAt m → IsLawful m.state events → Runs n (recover_program name) events Held → RecoversHeld name m events
  recovery_held name m events sound lawful runs = elim (given_or_not n (room_in f.event.reply) (failure f.event.reply) lists_open f.later (stuck.Refused refusal.Held) f.runs) as (λ _. RecoversHeld name m events) [
    | inl fails ↦ absurd (let none = s.reason refusal.Held (refused_so f.event.reply refusal.Held fails) in let clash : refusal.Held ≡ refusal.NoRoom = none.0 in cc)
    | inr (room, found, on) ↦
        let had : IsContainerAt at room = found_there at n name room f.event.after f.sound (subst (λ x. Answers at.state n (Find name) x f.event.after) (found_so f.event.reply room found) s.answers) in
        record {
          room = room;
          before = f.before;
          finding = f.event;
          after = f.later;
          in_it = f.split;
          sought = ap (λ (a : Ask). a.call) f.asked;
          found = found_so f.event.reply room found;
          its = beyond m f.before (f.event ∷ f.later) events room f.split (behind_one at f.event f.later room (lists_held room (next_moment at f.event) f.later s.sound_then (s.grows room had) f.lawful.2 on));
        }
  ]
    where
      f : HasAsked n m (Find name) (λ rep. given (room_in rep) (failure rep) lists_open) events Held
      f = has_asked n m (Find name) (λ rep. given (room_in rep) (failure rep) lists_open) events Held lawful sound runs

      at : Moment
      at = moment_after m f.before

      s : Stepped n at (Find name) f.event.reply (next_moment at f.event)
      s = stepped n at f.event f.later (Find name) f.sound f.lawful f.own f.asked

      found_so : (rep : Reply) (room : ℕ) → room_in rep ≡ Some room → rep ≡ reply.Room room
      found_so (reply.Room r) room is = let same : r ≡ room = cc in ap reply.Room same
      found_so rep room is = absurd (cc)

-- the law of recoveries
pub recover_finds : (n : ℕ) (kept : Kept) (name : Name) (m : Moment) (mine : List Event) (spent : List (List Event)) (e : Ending) → e.outcome ≡ line.Refused why_is.Held → kept.gone ≡ false → IsSoundAt m → IsLawful m.state mine → ComesTo n (work_of kept (say.Recover name)) mine spent e → RecoversHeld n name m mine
recover_finds n kept name m mine spent e says alive sound lawful comes = behind (by (carried_came n (recover_program name) g.left.armed (λ later result. finishes (recovered left result)) (finishes (stopped left)) g.rest spent e (alive_does n g.left (say.Recover name) g.rest spent e (g.gone_is ∙ alive) g.comes)))
  where
    g : Greeted n kept (say.Recover name) mine spent e
    g = greets n kept (say.Recover name) mine spent e comes

    left : Kept
    left = disarmed g.left

    both : IsLawful m.state (g.first ++ g.rest)
    both = subst (IsLawful m.state) g.all lawful

    now : Moment
    now = moment_after m g.first

    first : IsLawful m.state g.first
    first = legal_first m g.first g.rest both

    behind : RecoversHeld n name now g.rest → RecoversHeld n name m mine
    behind k = record {
      room = k.room;
      before = g.first ++ k.before;
      finding = k.finding;
      after = k.after;
      in_it = g.all ∙ ap (λ z. g.first ++ z) k.in_it ∙ sym (append_assoc g.first k.before (k.finding ∷ k.after));
      sought = k.sought;
      found = k.found;
      its = beyond n m g.first g.rest mine k.room g.all k.its;
    }

    by : RanTo n (recover_program name) (λ later result. finishes (recovered left result)) g.rest spent e ⊎ ((rest : List Event) × ComesTo n (finishes (stopped left)) rest spent e) → RecoversHeld n name now g.rest
    by (inr (rest, halted)) = absurd (let clash : line.Stopped ≡ line.Refused why_is.Held = ap (λ (x : Ending). x.outcome) halted.2 ∙ says in cc)
    by (inl r) =
        let held : r.result ≡ Held = told_held (λ (x : Recovered). line.Recovered x.buried x.alive x.hold) (λ x is. let clash : line.Recovered x.buried x.alive x.hold ≡ line.Refused why_is.Held = is in cc) r.result (ap (λ (x : Ending). x.outcome) r.on.2 ∙ says) in
        let k = recovery_held n name now r.first (sound_after m g.first first sound) (legal_first now r.first r.rest (subst (IsLawful now.state) r.all (legal_rest m g.first g.rest both))) (subst (Runs n (recover_program name) r.first) held r.runs) in
        let i = k.its in
        record {
          room = k.room;
          before = k.before;
          finding = k.finding;
          after = k.after ++ r.rest;
          in_it = r.all ∙ ap (λ z. z ++ r.rest) k.in_it ∙ append_assoc k.before (k.finding ∷ k.after) r.rest;
          sought = k.sought;
          found = k.found;
          its = record { first = i.first; event = i.event; rest = i.rest ++ r.rest; is = r.all ∙ ap (λ z. z ++ r.rest) i.is ∙ append_assoc i.first (i.event ∷ i.rest) r.rest; own = i.own; asked = i.asked; last = none_more i.rest i.last; held = i.held };
        }
      where
        none_more : (rest : List Event) → made_by n rest ≡ [] → made_by n (rest ++ r.rest) ≡ []
        none_more rest none = entries_both n rest r.rest ∙ ap (λ z. z ++ made_by n r.rest) none ∙ ap (made_by n) r.on.0
