-- A container is found by its name and held, and what the caller does by its hold is done to it.
use Rattle.std.proofs.Common.{◌≡◌, ℕ, suc, true, false, nat_eq, List, [], ◌∷◌, ◌++◌, Option, Some, None, Result, Ok, Err, refl, sym, ap, ◌∙◌, inl, inr, subst, arith, append_assoc, eq-eqb}
use Rattle.std.specs.Prelude.{if◌then◌else◌}
use Rattle.turn_object.specs.Callers.{made_by}
use Rattle.store_api.specs.declared.step.Answer.TheVariants.{Made, NoFolder, NoRoom, NotEmpty}
use Rattle.store_api.specs.declared.store.Trouble.TheVariants as trouble_of
use Rattle.store_api.specs.declared.tree.Tree.{Tree}
use Rattle.mount_model.specs.declared.call.Ask.{Ask}
use Rattle.mount_model.specs.declared.call.Call.{Call}
use Rattle.mount_model.specs.declared.call.Call.TheVariants.{Find, Hold, Look, Release}
use Rattle.mount_model.specs.declared.call.Look.{Look as Sight}
use Rattle.mount_model.specs.declared.reply.Reply.{Reply}
use Rattle.mount_model.specs.declared.reply.Reply.TheVariants.{Damaged, Done, Holding, Refused, Room}
use Rattle.mount_model.specs.declared.reply.Refusal.TheVariants.{Busy, Held}
use Rattle.mount_model.specs.declared.row.Holder.{Holder}
use Rattle.mount_model.specs.Entering.{draw_check, next_id}
use Rattle.mount_model.specs.History.{Event}
use Rattle.mount_model.specs.Holding.{HoldOutcome, HoldsRoom, holding}
use Rattle.mount_model.specs.Making.{Refuses, Told, otherwise}
use Rattle.mount_model.specs.Paths.{Name}
use Rattle.container_layout.specs.Paths.{openhosts}
use Rattle.mount_model.specs.State.{State, Table}
use Rattle.mount_model.specs.Step.{Answers, IsStep}
use Rattle.mount_model.specs.Table.{holder_at}
use Rattle.mount_model.proofs.Facts.{IsHolding, held_before-push, match_cases, next_not_held, step_held}
use Rattle.mount_sound.specs.Owed.{IsLawful}
use Rattle.mount_model.specs.declared.stuck.Stuck.{Stuck}
use Rattle.mount_model.specs.Running.{Runs, unbroken}
use Rattle.mount_model.specs.Program.{Program, ask, done}
use Rattle.mount_model.specs.FlowReplies.{Tries, failure, given, room_in}
use Rattle.trunc_rename.specs.Holding.{holder_in, holds, lets_go, or_lets_go, released}
use Rattle.reader_laws.specs.Moments.{Moment, IsSoundAt, moment_after, next_moment}
use Rattle.reader_laws.proofs.Gathered.Facts.{legal_first, legal_rest, moment-append, sound_after}
use Rattle.reader_laws.proofs.Facts.{IsFirstOf, answered, first_of}
use Rattle.headline_laws.specs.Changing.{Change, IsAnswered, IsChange, IsHolderOf}
use Rattle.reader_laws.specs.Naming.{IsRoomNamed}
use Rattle.headline_laws.specs.Opening.{Stretch}
use Rattle.headline_laws.proofs.Plays.Callers.Finding.{name_found}

-- ---- replies

pub went_on : {A R : Type 0} (found : Option A) (why : Stuck) (next : A → Tries R) (n : ℕ) (events : List Event) (out : R) → Runs n (given found why next) events (Ok out) → (a : A) × (found ≡ Some a) × Runs n (next a) events (Ok out)
went_on {A} {R} None why next n events out made = (let clash : ◌≡◌ {A = Result R Stuck} (Err why) (Ok out) = made.1 in absurd (cc))
went_on (Some a) why next n events out made = (a, refl, made)

pub found_room : (reply : Reply) (room : ℕ) → room_in reply ≡ Some room → reply ≡ Room room
found_room (Room r) room e = let same : r ≡ room = cc in ap Room same
found_room reply room e = absurd (cc)

found_holder : (reply : Reply) (holder : ℕ) → holder_in reply ≡ Some holder → reply ≡ Holding holder
found_holder (Holding number) holder e = let same : number ≡ holder = cc in ap Holding same
found_holder reply holder e = absurd (cc)

-- a store tells one tree
pub one_tree : (a b : Tree) (o : Option Tree) → o ≡ Some a → o ≡ Some b → a ≡ b
one_tree a b o p q = cc

-- the caller's call, in its place
pub answered_so : (n : ℕ) (call : Call) (reply : Reply) (event : Event) → event.caller ≡ n → event.ask ≡ unbroken call → event.reply ≡ reply → IsAnswered n call reply event
answered_so n call reply event own asked told = record { own = own; asked = ap (λ (a : Ask). a.call) asked; told = told }

-- it is a step of the caller's
pub its_step : (n : ℕ) (call : Call) (reply : Reply) (state : State) (event : Event) → event.caller ≡ n → event.ask ≡ unbroken call → event.reply ≡ reply → IsStep state event.caller event.ask event.reply event.after → IsStep state n (unbroken call) reply event.after
its_step n call reply state event own asked told step =
    subst (λ r. IsStep state n (unbroken call) r event.after) told (subst (λ a. IsStep state n a event.reply event.after) asked (subst (λ c. IsStep state c event.ask event.reply event.after) own step))

-- ---- what a hold is of

-- a hold of this number that the caller has is of this room
abbrev pub HoldsOnly : ℕ → ℕ → ℕ → State → Type 0
HoldsOnly n holder room state = (h : Holder) → IsHolding n holder state.table.holders h → h.room ≡ room

-- it is so after a step of another
only_later : (n holder room : ℕ) (m : Moment) (event : Event) → IsSoundAt m → (event.caller ≡ n → ⊥) → IsStep m.state event.caller event.ask event.reply event.after → HoldsOnly n holder room m.state → HoldsOnly n holder room event.after
only_later n holder room m event sound other step only h is = only h (record {
  found = step_held m.state event.after event.caller event.ask event.reply holder h sound.regular step is.found (λ own. other (sym own ∙ is.owned));
  is = is.is;
  owned = is.owned;
})

-- and after a look of its own, which changes nothing of who holds
pub only_looked : (n holder room number : ℕ) (look : Sight) (reply : Reply) (m : Moment) (after : State) → IsSoundAt m → IsStep m.state n (unbroken (Look number look)) reply after → HoldsOnly n holder room m.state → HoldsOnly n holder room after
only_looked n holder room number look reply m after sound step only h is = only h (record {
  found = step_held m.state after (suc n) (unbroken (Look number look)) reply holder h sound.regular (record { does = step.does }) is.found (λ own. another n (sym own ∙ is.owned));
  is = is.is;
  owned = is.owned;
})
  where
    another : (k : ℕ) → suc k ≡ k → ⊥
    another k e = omega (arith, e)

not_own : (n : ℕ) (event : Event) (events : List Event) → made_by n (event ∷ events) ≡ [] → (event.caller ≡ n → ⊥) × (made_by n events ≡ [])
not_own n event events none = elim (nat_eq event.caller n) as (λ b. nat_eq event.caller n ≡ b → (if b then event ∷ made_by n events else made_by n events) ≡ [] → (event.caller ≡ n → ⊥) × (made_by n events ≡ [])) [
  | true ↦ λ t e. absurd (cc)
  | false ↦ λ t e. (λ own. (let same : nat_eq event.caller n ≡ true = eq-eqb event.caller n own in let clash : true ≡ false = sym same ∙ t in absurd (cc)), e)
] refl none

-- so it is after calls of others
pub only_on : (n holder room : ℕ) (m : Moment) (events : List Event) → IsLawful m.state events → IsSoundAt m → made_by n events ≡ [] → HoldsOnly n holder room m.state → HoldsOnly n holder room (moment_after m events).state
only_on n holder room m [] lawful sound none only = only
only_on n holder room m (event ∷ events) lawful sound none only =
    let other = not_own n event events none in
    only_on n holder room (next_moment m event) events lawful.2 (sound_after m (event ∷ []) (lawful.0, lawful.1, tt) sound) other.1 (only_later n holder room m event sound other.0 lawful.1 only)

-- ---- a hold begins

not_held : (folder file : Name) (told : Told) (holder : ℕ) → Holding holder ≡ otherwise folder file told → ⊥
not_held folder file (Ok NoRoom) holder e = absurd cc
not_held folder file (Ok NoFolder) holder e = absurd cc
not_held folder file (Ok answer) holder e = absurd cc
not_held folder file (Err trouble_of.Fault) holder e = absurd cc
not_held folder file (Err trouble_of.NoMemory) holder e = absurd cc

pushed : (h : Holder) (table : Table) (told : Told) (holder : ℕ) (after : Table) → HoldOutcome h table told (Holding holder) after → (holder ≡ h.number) × (after.holders ≡ table.holders ++ h ∷ [])
pushed h table (Ok Made) holder after o = (let e : Holding holder ≡ Holding h.number = o.0 in cc, ap (λ (t : Table). t.holders) o.1)
pushed h table (Ok NoFolder) holder after o = absurd (let e : Holding holder ≡ Refused Held = o.0 in cc)
pushed h table (Ok (NotEmpty least)) holder after o = absurd (elim o.0 as (λ _. ⊥) [
  | inl busy ↦ (let e : Holding holder ≡ Refused (Busy busy.0 busy.1) = busy.3 in cc)
  | inr other ↦ (let e : Holding holder ≡ Damaged openhosts least = other.1 in cc)
])
pushed h table told holder after o = absurd (not_held openhosts [] told holder o.0)

-- the number is a new one, so that the hold is of the room that was asked for
only_begun : (n room holder : ℕ) (m : Moment) (after : State) → IsSoundAt m → Answers m.state n (Hold room) (Holding holder) after → HoldsOnly n holder room after
only_begun n room holder m after sound a h is =
    elim (match_cases (draw_check m.state room) (HoldsRoom n room m.state (Holding holder) after) (λ why. Refuses why m.state (Holding holder) after) a) as (λ _. h.room ≡ room) [
      | inr (why, some, refused) ↦ absurd (let e : Holding holder ≡ Refused why = refused.0 in cc)
      | inl (none, does) ↦
          (let p = pushed (holding m.state n room) m.state.table does.told holder after.table does.outcome in
          let found : holder_at holder (m.state.table.holders ++ holding m.state n room ∷ []) ≡ Some h = ap (λ hs. holder_at holder hs) (sym p.1) ∙ is.found in
          elim (held_before-push m.state.table.holders (holding m.state n room) holder h found) as (λ _. h.room ≡ room) [
            | inr new_one ↦ ap (λ (x : Holder). x.room) new_one.1
            | inl old_one ↦ absurd (let none : holder_at (next_id m.state) m.state.table.holders ≡ None = next_not_held m.state.mount m.state.serial m.state.marks m.state.table.holders sound.regular.holders in
                let some : holder_at (next_id m.state) m.state.table.holders ≡ Some h = ap (λ k. holder_at k m.state.table.holders) (sym p.0) ∙ old_one in cc)
          ])
    ]

-- ---- a container is found and held

-- The caller found the container of this name and held it, and went on so.
pub record HasHeld {R : Type 0} (n : ℕ) (m : Moment) (name : Name) (next : ℕ → ℕ → Tries R) (events : List Event) (result : Result R Stuck) : Type 0 where
  pub room : ℕ
  pub holder : ℕ
  pub earlier : List Event
  pub finding : Event
  pub between : List Event
  pub holding : Event
  pub rest : List Event
  pub split : events ≡ earlier ++ (finding ∷ between ++ (holding ∷ rest))
  pub finds : IsAnswered n (Find name) (Room room) finding
  pub named : IsRoomNamed (moment_after m earlier) name room
  pub holds : IsAnswered n (Hold room) (Holding holder) holding
  pub now : Moment
  pub is_now : (later : List Event) → moment_after m (earlier ++ (finding ∷ between ++ (holding ∷ later))) ≡ moment_after now later
  pub lawful : IsLawful now.state rest
  pub sound : IsSoundAt now
  pub only : HoldsOnly n holder room now.state
  pub runs : Runs n (next room holder) rest result

abbrev pub OnFind : {R : Type 0} → (ℕ → ℕ → Tries R) → Reply → Tries R
OnFind next reply = given (room_in reply) (failure reply) (λ room. holds room (next room))

abbrev pub OnHold : {R : Type 0} → (ℕ → ℕ → Tries R) → ℕ → Reply → Tries R
OnHold next room reply = given (holder_in reply) (failure reply) (next room)

-- by the calls that found and held it
pub held_so : {R : Type 0} (n : ℕ) (m : Moment) (name : Name) (next : ℕ → ℕ → Tries R) (events : List Event) (result : Result R Stuck) → IsLawful m.state events → IsSoundAt m
    → (f : IsFirstOf n (Find name) (OnFind next) events result) (room : ℕ) → room_in f.event.reply ≡ Some room → (g : IsFirstOf n (Hold room) (OnHold next room) f.later result) (holder : ℕ) → holder_in g.event.reply ≡ Some holder
    → Runs n (next room holder) g.later result → HasHeld n m name next events result
held_so n m name next events result lawful sound f room found_so g holder held_by runs =
    let room_told : f.event.reply ≡ Room room = found_room f.event.reply room found_so in
    let holder_told : g.event.reply ≡ Holding holder = found_holder g.event.reply holder held_by in
    let all : IsLawful m.state (f.before ++ f.event ∷ f.later) = subst (IsLawful m.state) f.split lawful in
    let at_find : Moment = moment_after m f.before in
    let sound_find : IsSoundAt at_find = sound_after m f.before (legal_first m f.before (f.event ∷ f.later) all) sound in
    let from_find : IsLawful at_find.state (f.event ∷ f.later) = legal_rest m f.before (f.event ∷ f.later) all in
    let found : Moment = next_moment at_find f.event in
    let sound_found : IsSoundAt found = sound_after at_find (f.event ∷ []) (from_find.0, from_find.1, tt) sound_find in
    let from_found : IsLawful found.state (g.before ++ g.event ∷ g.later) = subst (IsLawful found.state) g.split from_find.2 in
    let at_hold : Moment = moment_after found g.before in
    let sound_hold : IsSoundAt at_hold = sound_after found g.before (legal_first found g.before (g.event ∷ g.later) from_found) sound_found in
    let from_hold : IsLawful at_hold.state (g.event ∷ g.later) = legal_rest found g.before (g.event ∷ g.later) from_found in
    let now : Moment = next_moment at_hold g.event in
    let find_step : IsStep at_find.state n (unbroken (Find name)) (Room room) f.event.after = its_step n (Find name) (Room room) at_find.state f.event f.by_caller f.asked room_told from_find.1 in
    let hold_step : IsStep at_hold.state n (unbroken (Hold room)) (Holding holder) g.event.after = its_step n (Hold room) (Holding holder) at_hold.state g.event g.by_caller g.asked holder_told from_hold.1 in
    record {
      room = room;
      holder = holder;
      earlier = f.before;
      finding = f.event;
      between = g.before;
      holding = g.event;
      rest = g.later;
      split = f.split ∙ ap (λ z. f.before ++ f.event ∷ z) g.split;
      finds = answered_so n (Find name) (Room room) f.event f.by_caller f.asked room_told;
      named = λ tree has. name_found at_find.state n name room f.event.after tree (answered at_find.state n (Find name) (unbroken (Find name)) (Room room) f.event.after refl find_step) has;
      holds = answered_so n (Hold room) (Holding holder) g.event g.by_caller g.asked holder_told;
      now = now;
      is_now = λ later. moment-append m f.before (f.event ∷ g.before ++ (g.event ∷ later)) ∙ moment-append found g.before (g.event ∷ later);
      lawful = from_hold.2;
      sound = sound_after at_hold (g.event ∷ []) (from_hold.0, from_hold.1, tt) sound_hold;
      only = only_begun n room holder at_hold g.event.after sound_hold (answered at_hold.state n (Hold room) (unbroken (Hold room)) (Holding holder) g.event.after refl hold_step);
      runs = runs;
    }

pub has_held : {R : Type 0} (n : ℕ) (m : Moment) (name : Name) (next : ℕ → ℕ → Tries R) (events : List Event) (out : R) → IsLawful m.state events → IsSoundAt m → Runs n (ask (Find name) (λ reply. given (room_in reply) (failure reply) (λ room. holds room (next room)))) events (Ok out) → HasHeld n m name next events (Ok out)
has_held {R} n m name next events out lawful sound runs =
    let f = first_of n (Find name) (OnFind next) events (Ok out) runs in
    let a = went_on (room_in f.event.reply) (failure f.event.reply) (λ room. holds room (next room)) n f.later out f.rest in
    let g = first_of n (Hold a.0) (OnHold next a.0) f.later (Ok out) a.2 in
    let b = went_on (holder_in g.event.reply) (failure g.event.reply) (next a.0) n g.later out g.rest in
    held_so n m name next events (Ok out) lawful sound f a.0 a.1 g b.0 b.1 b.2

-- ---- what it calls next

-- The caller's next call of those of a program has its place, and a hold that it has of this number is of this room there.
pub record HasCalled {X : Type 0} (n holder room : ℕ) (m : Moment) (call : Call) (k : Reply → Program Call Reply X) (events : List Event) (out : X) : Type 0 where
  pub before : List Event
  pub event : Event
  pub later : List Event
  pub split : events ≡ before ++ event ∷ later
  pub own : event.caller ≡ n
  pub asked : event.ask ≡ unbroken call
  pub lawful : IsLawful (moment_after m before).state (event ∷ later)
  pub sound : IsSoundAt (moment_after m before)
  pub only : HoldsOnly n holder room (moment_after m before).state
  pub runs : Runs n (k event.reply) later out

pub has_called : {X : Type 0} (n holder room : ℕ) (m : Moment) (call : Call) (k : Reply → Program Call Reply X) (events : List Event) (out : X) → IsLawful m.state events → IsSoundAt m → HoldsOnly n holder room m.state → Runs n (ask call k) events out → HasCalled n holder room m call k events out
has_called n holder room m call k events out lawful sound only runs =
    let f = first_of n call k events out runs in
    let all : IsLawful m.state (f.before ++ f.event ∷ f.later) = subst (IsLawful m.state) f.split lawful in
    let first : IsLawful m.state f.before = legal_first m f.before (f.event ∷ f.later) all in
    record {
      before = f.before;
      event = f.event;
      later = f.later;
      split = f.split;
      own = f.by_caller;
      asked = f.asked;
      lawful = legal_rest m f.before (f.event ∷ f.later) all;
      sound = sound_after m f.before first sound;
      only = only_on n holder room m f.before first sound f.waits only;
      runs = f.rest;
    }

-- It looked at something, and nothing else.
pub record HasLooked {X : Type 0} (n holder room : ℕ) (m : Moment) (number : ℕ) (look : Sight) (k : Reply → Program Call Reply X) (events : List Event) (out : X) : Type 0 where
  pub first : List Event
  pub rest : List Event
  pub reply : Reply
  pub split : events ≡ first ++ rest
  pub lawful : IsLawful (moment_after m first).state rest
  pub sound : IsSoundAt (moment_after m first)
  pub only : HoldsOnly n holder room (moment_after m first).state
  pub runs : Runs n (k reply) rest out
  -- at this moment, behind these calls
  pub calls : List Event
  pub looking : Event
  pub first_is : first ≡ calls ++ looking ∷ []
  pub so : IsStep (moment_after m calls).state n (unbroken (Look number look)) reply looking.after
  pub sound_at : IsSoundAt (moment_after m calls)

pub has_looked : {X : Type 0} (n holder room : ℕ) (m : Moment) (number : ℕ) (look : Sight) (k : Reply → Program Call Reply X) (events : List Event) (out : X) → IsLawful m.state events → IsSoundAt m → HoldsOnly n holder room m.state → Runs n (ask (Look number look) k) events out → HasLooked n holder room m number look k events out
has_looked n holder room m number look k events out lawful sound only runs =
    let c = has_called n holder room m (Look number look) k events out lawful sound only runs in
    let there : Moment = moment_after m c.before in
    let is : moment_after m (c.before ++ c.event ∷ []) ≡ next_moment there c.event = moment-append m c.before (c.event ∷ []) in
    record {
      first = c.before ++ c.event ∷ [];
      rest = c.later;
      reply = c.event.reply;
      split = c.split ∙ sym (append_assoc c.before (c.event ∷ []) c.later);
      lawful = subst (λ (x : Moment). IsLawful x.state c.later) (sym is) c.lawful.2;
      sound = subst IsSoundAt (sym is) (sound_after there (c.event ∷ []) (c.lawful.0, c.lawful.1, tt) c.sound);
      only = subst (λ (x : Moment). HoldsOnly n holder room x.state) (sym is)
          (only_looked n holder room number look c.event.reply there c.event.after c.sound (its_step n (Look number look) c.event.reply there.state c.event c.own c.asked refl c.lawful.1) c.only);
      runs = c.runs;
      calls = c.before;
      looking = c.event;
      first_is = refl;
      so = its_step n (Look number look) c.event.reply there.state c.event c.own c.asked refl c.lawful.1;
      sound_at = c.sound;
    }

-- ---- it lets go

released_ok : {R : Type 0} (result : Result R Stuck) (reply : Reply) (out : R) → released result reply ≡ Ok out → result ≡ Ok out
released_ok (Err why) reply out e = e
released_ok (Ok r) Done out e = e
released_ok {R} (Ok r) reply out e = (let clash : ◌≡◌ {A = Result R Stuck} (Err (failure reply)) (Ok out) = e in absurd (cc))

-- where it came to a good end, so had what came before
pub let_go_so : {R : Type 0} (n holder : ℕ) (result : Result R Stuck) (events : List Event) (out : R) → Runs n (lets_go holder result) events (Ok out) → result ≡ Ok out
let_go_so n holder result events out runs =
    let f : IsFirstOf n (Release holder) (λ reply. done (released result reply)) events (Ok out) = first_of n (Release holder) (λ reply. done (released result reply)) events (Ok out) runs in
    released_ok result f.event.reply out f.rest.1

pub went_past : {A R : Type 0} (n holder : ℕ) (next : A → Tries R) (result : Result A Stuck) (events : List Event) (out : R) → Runs n (or_lets_go holder next result) events (Ok out) → (a : A) × Runs n (next a) events (Ok out) × (result ≡ Ok a)
went_past n holder next (Ok a) events out runs = (a, runs, refl)
went_past {A} {R} n holder next (Err why) events out runs = (let clash : ◌≡◌ {A = Result R Stuck} (Err why) (Ok out) = let_go_so {R = R} n holder (Err why) events out runs in absurd (cc))

-- ---- the change

abbrev pub alone : List Event → Stretch
alone events = record { before = []; events = events }

-- the calls by which it was changed
abbrev pub change_of : {R : Type 0} (n : ℕ) (m : Moment) (name : Name) (next : ℕ → ℕ → Tries R) (events : List Event) (result : Result R Stuck) → HasHeld n m name next events result → List Event → Event → List Event → Change
change_of n m name next events result h more changing later = record {
  room = h.room;
  holder = h.holder;
  earlier = h.earlier;
  finding = h.finding;
  between = h.between;
  holding = h.holding;
  more = more;
  changing = changing;
  later = later;
}

pub changed : {R : Type 0} (n : ℕ) (m : Moment) (name : Name) (next : ℕ → ℕ → Tries R) (events : List Event) (result : Result R Stuck) (call : ℕ → Call) (reply : Reply) (h : HasHeld n m name next events result) (more : List Event) (changing : Event) (later : List Event)
    → h.rest ≡ more ++ changing ∷ later → IsAnswered n (call h.holder) reply changing → IsHolderOf (moment_after h.now more) n h.holder h.room → IsChange m n (alone events) name call reply (change_of n m name next events result h more changing later)
changed n m name next events result call reply h more changing later split answers holds = record {
  split = h.split ∙ ap (λ z. h.earlier ++ (h.finding ∷ h.between ++ (h.holding ∷ z))) split;
  finds = h.finds;
  named = h.named;
  holds = h.holds;
  changes = answers;
  held = subst (λ x. IsHolderOf x n h.holder h.room) (sym (h.is_now more)) holds;
}
