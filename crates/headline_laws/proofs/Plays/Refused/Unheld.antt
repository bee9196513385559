-- A container is found by its name, and is not held, since a writer has it open, or since it is held.
use Rattle.std.proofs.Common.{◌≡◌, ◌⊎◌, ℕ, List, [], ◌∷◌, ◌++◌, Bool, true, false, Option, Some, None, Result, Ok, Err, refl, sym, ap, ◌∙◌, inl, inr, subst}
use Rattle.std.specs.Prelude.{◌==◌, ◌-◌, ◌^◌, nat_le, if◌then◌else◌}
use Rattle.plfs_types.specs.declared.names.Path.{Path}
use Rattle.container_layout.specs.declared.items.Item.TheVariants.{OpenHost}
use Rattle.container_layout.specs.Paths.{IsIn}
use Rattle.store_api.specs.declared.step.Answer.TheVariants.{Made, NoFolder, NoRoom, NotEmpty}
use Rattle.store_api.specs.declared.store.Trouble.TheVariants as trouble_of
use Rattle.store_api.specs.declared.tree.Tree.{Tree}
use Rattle.store_api.specs.Room.{is_top}
use Rattle.store_laws.specs.Files.{file_at}
use Rattle.store_laws.specs.Says.{WhyNoFolderRemoved}
use Rattle.store_laws.specs.There.{LacksFolder, ListsFolder}
use Rattle.store_laws.proofs.Facts.{acts_told, remove_folder_told}
use Rattle.mount_model.specs.declared.call.Ask.{Ask}
use Rattle.mount_model.specs.declared.call.Call.{Call}
use Rattle.mount_model.specs.declared.call.Call.TheVariants.{Find, Hold}
use Rattle.mount_model.specs.declared.reply.Refusal.{Refusal}
use Rattle.mount_model.specs.declared.reply.Refusal.TheVariants as refusal
use Rattle.mount_model.specs.declared.reply.Reply.{Reply}
use Rattle.mount_model.specs.declared.reply.Reply.TheVariants.{Damaged, Holding, Refused, Room}
use Rattle.mount_model.specs.declared.row.Holder.{Holder}
use Rattle.mount_model.specs.Entering.{draw_check}
use Rattle.mount_model.specs.History.{Event}
use Rattle.mount_model.specs.Holding.{HoldOutcome, HoldsRoom, hold_step, holding}
use Rattle.mount_model.specs.Making.{Refuses, Told, or_reason, otherwise}
use Rattle.mount_model.specs.Paths.{Name, open_path}
use Rattle.container_layout.specs.Paths.{openhosts}
use Rattle.mount_model.specs.Replies.{FitsAsk, FitsCall}
use Rattle.mount_model.specs.State.{State, Table}
use Rattle.mount_model.specs.Step.{Answers}
use Rattle.mount_model.proofs.Facts.{match_cases, step_fits}
use Rattle.mount_sound.specs.Owed.{IsLawful}
use Rattle.mount_model.specs.declared.stuck.Stuck.{Stuck}
use Rattle.mount_model.specs.declared.stuck.Stuck.TheVariants as stuck
use Rattle.mount_model.specs.Running.{Runs, unbroken}
use Rattle.mount_model.specs.Program.{Program, ask}
use Rattle.mount_model.specs.FlowReplies.{Tries, failure, given, room_in}
use Rattle.trunc_rename.specs.Holding.{holder_in, holds}
use Rattle.reader_laws.specs.Moments.{IsSoundAt, Moment, file_in_room, file_told, moment_after, next_moment}
use Rattle.reader_laws.proofs.Gathered.Facts.{legal_first, legal_rest, moment-append, named_file, sound_after}
use Rattle.reader_laws.proofs.Facts.{answered, first_of}
use Rattle.headline_laws.specs.Refusing.{Attempt, FindsHeld, FindsOpen, HadOpenFirst, IsAttempt, as_tried}
use Rattle.headline_laws.proofs.Plays.Callers.Finding.{name_found}
use Rattle.headline_laws.proofs.Plays.Holds.Held.{OnFind, OnHold, alone, answered_so, found_room, its_step, one_tree}
use Rattle.headline_laws.proofs.Plays.Refused.Plainly.{Anything, IsPlain, find_plain}
use Rattle.headline_laws.proofs.Plays.Refused.Reasons.{GoesFor, IsReplyFor}

-- ---- a call, and what comes of its reply

-- The caller's next call of those of a program has its place.
pub record HasAsked {X : Type 0} (n : ℕ) (m : Moment) (call : Call) (k : Reply → Program Call Reply X) (events : List Event) (out : X) : Type 0 where
  pub before : List Event
  pub event : Event
  pub later : List Event
  pub split : events ≡ before ++ event ∷ later
  pub own : event.caller ≡ n
  pub asked : event.ask ≡ unbroken call
  pub lawful : IsLawful (moment_after m before).state (event ∷ later)
  pub sound : IsSoundAt (moment_after m before)
  pub fits : FitsCall call event.reply
  pub runs : Runs n (k event.reply) later out

pub has_asked : {X : Type 0} (n : ℕ) (m : Moment) (call : Call) (k : Reply → Program Call Reply X) (events : List Event) (out : X) → IsLawful m.state events → IsSoundAt m → Runs n (ask call k) events out → HasAsked n m call k events out
has_asked n m call k events out lawful sound runs =
    let f = first_of n call k events out runs in
    let all : IsLawful m.state (f.before ++ f.event ∷ f.later) = subst (IsLawful m.state) f.split lawful in
    let on : IsLawful (moment_after m f.before).state (f.event ∷ f.later) = legal_rest m f.before (f.event ∷ f.later) all in
    record {
      before = f.before;
      event = f.event;
      later = f.later;
      split = f.split;
      own = f.by_caller;
      asked = f.asked;
      lawful = on;
      sound = sound_after m f.before (legal_first m f.before (f.event ∷ f.later) all) sound;
      fits = subst (λ (a : Ask). FitsAsk a f.event.reply) f.asked (step_fits (moment_after m f.before).state f.event.after f.event.caller f.event.ask f.event.reply on.1);
      runs = f.rest;
    }

-- it ended with the reply's trouble, or went on with what the reply gave
pub given_or_not : {A R : Type 0} (n : ℕ) (found : Option A) (trouble : Stuck) (next : A → Tries R) (events : List Event) (why : Stuck) → Runs n (given found trouble next) events (Err why) → (trouble ≡ why) ⊎ ((a : A) × (found ≡ Some a) × Runs n (next a) events (Err why))
given_or_not {A} {R} n None trouble next events why runs = inl (let same : ◌≡◌ {A = Result R Stuck} (Err trouble) (Err why) = runs.1 in cc)
given_or_not n (Some a) trouble next events why runs = inr (a, refl, runs)

pub refused_so : (reply : Reply) (why : Refusal) → failure reply ≡ stuck.Refused why → reply ≡ Refused why
refused_so (Refused other) why e = let same : other ≡ why = cc in ap Refused same
refused_so reply why e = absurd (cc)

-- ---- a container is found, and not held

-- The caller found the container of this name, and its call to hold it was refused so.
pub record HasTried (n : ℕ) (m : Moment) (name : Name) (why : Refusal) (events : List Event) : Type 0 where
  pub attempt : Attempt
  pub made : IsAttempt m n (alone events) name why attempt
  pub sound : IsSoundAt (as_tried m (alone events) attempt)
  pub does : Answers (as_tried m (alone events) attempt).state n (Hold attempt.room) (Refused why) attempt.holding.after

module _ {R : Type 0} (n : ℕ) (name : Name) (next : ℕ → ℕ → Tries R) (why : Refusal) where
  abbrev Trouble : Result R Stuck
  Trouble = Err (stuck.Refused why)

  module _ (m : Moment) (events : List Event) (f : HasAsked n m (Find name) (OnFind next) events Trouble) (room : ℕ) (found : room_in f.event.reply ≡ Some room) where
    abbrev Behind : Moment
    Behind = next_moment (moment_after m f.before) f.event

    tried : (g : HasAsked n Behind (Hold room) (OnHold next room) f.later Trouble) → failure g.event.reply ≡ stuck.Refused why → HasTried n m name why events
    tried g fails =
        let at_hold : Moment = moment_after Behind g.before in
        let room_told : f.event.reply ≡ Room room = found_room f.event.reply room found in
        let refused_told : g.event.reply ≡ Refused why = refused_so g.event.reply why fails in
        let there : moment_after m (f.before ++ (f.event ∷ g.before)) ≡ at_hold = moment-append m f.before (f.event ∷ g.before) in
        record {
          attempt = record { room = room; earlier = f.before; finding = f.event; between = g.before; holding = g.event; later = g.later };
          made = record {
            split = f.split ∙ ap (λ z. f.before ++ f.event ∷ z) g.split;
            finds = answered_so n (Find name) (Room room) f.event f.own f.asked room_told;
            named = λ tree has. name_found (moment_after m f.before).state n name room f.event.after tree
                (answered (moment_after m f.before).state n (Find name) (unbroken (Find name)) (Room room) f.event.after refl (its_step n (Find name) (Room room) (moment_after m f.before).state f.event f.own f.asked room_told f.lawful.1)) has;
            refuses = answered_so n (Hold room) (Refused why) g.event g.own g.asked refused_told;
          };
          sound = subst IsSoundAt (sym there) g.sound;
          does = subst (λ (x : Moment). Answers x.state n (Hold room) (Refused why) g.event.after) (sym there)
              (answered at_hold.state n (Hold room) (unbroken (Hold room)) (Refused why) g.event.after refl (its_step n (Hold room) (Refused why) at_hold.state g.event g.own g.asked refused_told g.lawful.1));
        }

    tries : (IsPlain why → ⊥) → ((room holder : ℕ) → GoesFor IsPlain Anything n (next room holder)) → IsSoundAt m → Runs n (holds room (next room)) f.later Trouble → HasTried n m name why events
    tries unplain plainly sound runs =
        let g = has_asked n Behind (Hold room) (OnHold next room) f.later Trouble f.lawful.2 (sound_after (moment_after m f.before) (f.event ∷ []) (f.lawful.0, f.lawful.1, tt) f.sound) runs in
        elim (given_or_not n (holder_in g.event.reply) (failure g.event.reply) (next room) g.later (stuck.Refused why) g.runs) as (λ _. HasTried n m name why events) [
          | inl fails ↦ tried g fails
          | inr (holder, held, on) ↦ absurd (unplain (plainly room holder (next_moment (moment_after Behind g.before) g.event) g.later Trouble (sound_after (moment_after Behind g.before) (g.event ∷ []) (g.lawful.0, g.lawful.1, tt) g.sound) tt g.lawful.2 on))
        ]

  -- Where what follows a hold never ends in this refusal, nor does the call that finds the container, the hold was refused so.
  pub has_tried : (m : Moment) (events : List Event) → (IsPlain why → ⊥) → ((room holder : ℕ) → GoesFor IsPlain Anything n (next room holder)) → IsLawful m.state events → IsSoundAt m
      → Runs n (ask (Find name) (λ reply. given (room_in reply) (failure reply) (λ room. holds room (next room)))) events (Err (stuck.Refused why)) → HasTried n m name why events
  has_tried m events unplain plainly lawful sound runs =
      let f = has_asked n m (Find name) (OnFind next) events Trouble lawful sound runs in
      elim (given_or_not n (room_in f.event.reply) (failure f.event.reply) (λ room. holds room (next room)) f.later (stuck.Refused why) f.runs) as (λ _. HasTried n m name why events) [
        | inl fails ↦ absurd (unplain (subst (λ r. IsReplyFor IsPlain r) (refused_so f.event.reply why fails) (find_plain name f.event.reply f.fits)))
        | inr (room, found, on) ↦ tries m events f room found unplain plainly sound on
      ]

-- ---- what the store told

-- why no serial is drawn for a hold
pub draw_reason : (marks spent : Bool) (why : Refusal) → or_reason (if marks then Some refusal.NoRoom else None) (if spent then Some refusal.IdsSpent else None) ≡ Some why → ((marks ≡ true) × (why ≡ refusal.NoRoom)) ⊎ (why ≡ refusal.IdsSpent)
draw_reason true spent why e = inl (refl, (let same : refusal.NoRoom ≡ why = cc in sym same))
draw_reason false true why e = inr (let same : refusal.IdsSpent ≡ why = cc in sym same)
draw_reason false false why e = absurd (cc)

check_plain : (old : State) (room : ℕ) (why : Refusal) → draw_check old room ≡ Some why → IsPlain why
check_plain old room why e = elim (draw_reason (room == old.marks) (nat_le (2 ^ 32 - 1) old.serial) why e) as (λ _. IsPlain why) [
  | inl (marks, is) ↦ subst IsPlain (sym is) tt
  | inr is ↦ subst IsPlain (sym is) tt
]

plainly_answered : (why : Refusal) (told : Told) → (IsPlain why → ⊥) → Refused why ≡ otherwise openhosts [] told → ⊥
plainly_answered why (Ok NoRoom) unplain e = (let same : why ≡ refusal.NoRoom = cc in unplain (subst IsPlain (sym same) tt))
plainly_answered why (Ok NoFolder) unplain e = absurd cc
plainly_answered why (Ok answer) unplain e = absurd cc
plainly_answered why (Err trouble_of.Fault) unplain e = absurd cc
plainly_answered why (Err trouble_of.NoMemory) unplain e = absurd cc

-- the act was made
act_made : (m : Moment) (n room : ℕ) (why : Refusal) (after : State) → (IsPlain why → ⊥) → Answers m.state n (Hold room) (Refused why) after → HoldsRoom n room m.state (Refused why) after
act_made m n room why after unplain a = elim (match_cases (draw_check m.state room) (HoldsRoom n room m.state (Refused why) after) (λ reason. Refuses reason m.state (Refused why) after) a) as (λ _. HoldsRoom n room m.state (Refused why) after) [
  | inl (none, does) ↦ does
  | inr (reason, some, refused) ↦ absurd (let e : Refused why ≡ Refused reason = refused.0 in let same : why ≡ reason = cc in unplain (subst IsPlain (sym same) (check_plain m.state room reason some)))
]

-- the least name of those who have the container open, and whose it is
record LeastIs (told : Told) (host writer : ℕ) : Type 0 where
  pub least : Name
  pub is : told ≡ Ok (NotEmpty least)
  pub entry : IsIn openhosts least (OpenHost host writer)

busy_told : (h : Holder) (table : Table) (told : Told) (host writer : ℕ) (after : Table) → HoldOutcome h table told (Refused (refusal.Busy host writer)) after → LeastIs told host writer
busy_told h table (Ok Made) host writer after o = absurd (let e : Refused (refusal.Busy host writer) ≡ Holding h.number = o.0 in cc)
busy_told h table (Ok NoFolder) host writer after o = absurd (let e : Refused (refusal.Busy host writer) ≡ Refused refusal.Held = o.0 in cc)
busy_told h table (Ok (NotEmpty least)) host writer after o = elim o.0 as (λ _. LeastIs (Ok (NotEmpty least)) host writer) [
  | inl busy ↦ (let e : Refused (refusal.Busy host writer) ≡ Refused (refusal.Busy busy.0 busy.1) = busy.3 in
      let same_host : busy.0 ≡ host = cc in
      let same_writer : busy.1 ≡ writer = cc in
      record { least = least; is = refl; entry = subst (λ w. IsIn openhosts least (OpenHost host w)) same_writer (subst (λ k. IsIn openhosts least (OpenHost k busy.1)) same_host busy.2) })
  | inr other ↦ absurd (let e : Refused (refusal.Busy host writer) ≡ Damaged openhosts least = other.1 in cc)
]
busy_told h table told host writer after o = absurd (plainly_answered (refusal.Busy host writer) told (λ plain. plain) o.0)

held_told : (h : Holder) (table : Table) (told : Told) (after : Table) → HoldOutcome h table told (Refused refusal.Held) after → told ≡ Ok NoFolder
held_told h table (Ok Made) after o = absurd (let e : Refused refusal.Held ≡ Holding h.number = o.0 in cc)
held_told h table (Ok NoFolder) after o = refl
held_told h table (Ok (NotEmpty least)) after o = absurd (elim o.0 as (λ _. ⊥) [
  | inl busy ↦ (let e : Refused refusal.Held ≡ Refused (refusal.Busy busy.0 busy.1) = busy.3 in cc)
  | inr other ↦ (let e : Refused refusal.Held ≡ Damaged openhosts least = other.1 in cc)
])
held_told h table told after o = absurd (plainly_answered refusal.Held told (λ plain. plain) o.0)

module _ (m : Moment) (s : IsSoundAt m) (n room : ℕ) (after : State) where
  module _ (host writer : ℕ) where
    below_top : is_top openhosts ≡ false
    below_top = refl

    -- this name is the least, so that its file is there
    first_there : (least : Name) (others : List Name) → IsIn openhosts least (OpenHost host writer) → ListsFolder s.shape.tree room openhosts (least ∷ others) → HadOpenFirst m room host writer
    first_there least others entry lists =
        let f = named_file lists.room openhosts least (least ∷ others) below_top lists.entries (inl refl) in
        let name_is : least ≡ (open_path host writer).file = ap (λ (p : Path). p.file) entry.printed in
        record {
          stands = record {
            is_item = entry.is_item;
            bytes = f.0;
            there = ap (λ o. file_told o room (open_path host writer)) s.shape.told ∙ ap (λ o. file_in_room o (open_path host writer)) lists.has_room ∙ subst (λ (p : Path). file_at lists.room p ≡ Some f.0) entry.printed f.1;
          };
          tree = s.shape.tree;
          told = s.shape.told;
          others = others;
          least = subst (λ x. ListsFolder s.shape.tree room openhosts (x ∷ others)) name_is lists;
        }

    open_first : Answers m.state n (Hold room) (Refused (refusal.Busy host writer)) after → HadOpenFirst m room host writer
    open_first a =
        let does = act_made m n room (refusal.Busy host writer) after (λ plain. plain) a in
        let b = busy_told (holding m.state n room) m.state.table does.told host writer after.table does.outcome in
        let t = acts_told (hold_step room) m.state.store after.store s.shape.tree does.told s.shape.told does.made in
        let why : WhyNoFolderRemoved s.shape.tree room openhosts (NotEmpty b.least) = ((remove_folder_told room openhosts s.shape.tree does.told t.0 t.2).stays (NotEmpty b.least) b.is (λ e. cc)).1 in
        first_there b.least why.0 b.entry why.1

  shut_there : Answers m.state n (Hold room) (Refused refusal.Held) after → LacksFolder s.shape.tree room openhosts
  shut_there a =
      let does = act_made m n room refusal.Held after (λ plain. plain) a in
      let is : does.told ≡ Ok NoFolder = held_told (holding m.state n room) m.state.table does.told after.table does.outcome in
      let t = acts_told (hold_step room) m.state.store after.store s.shape.tree does.told s.shape.told does.made in
      ((remove_folder_told room openhosts s.shape.tree does.told t.0 t.2).stays NoFolder is (λ e. cc)).1

-- ---- how it was not held

pub finds_open : (n : ℕ) (m : Moment) (name : Name) (host writer : ℕ) (events : List Event) → HasTried n m name (refusal.Busy host writer) events → FindsOpen m n (alone events) name host writer
finds_open n m name host writer events t = record {
  attempt = t.attempt;
  made = t.made;
  entry = open_first (as_tried m (alone events) t.attempt) t.sound n t.attempt.room t.attempt.holding.after host writer t.does;
}

pub finds_held : (n : ℕ) (m : Moment) (name : Name) (events : List Event) → HasTried n m name refusal.Held events → FindsHeld m n (alone events) name
finds_held n m name events t =
    let there : Moment = as_tried m (alone events) t.attempt in
    record {
      attempt = t.attempt;
      made = t.made;
      shut = λ tree told. subst (λ (x : Tree). LacksFolder x t.attempt.room openhosts) (one_tree t.sound.shape.tree tree there.state.store.tree t.sound.shape.told told) (shut_there there t.sound n t.attempt.room t.attempt.holding.after t.does);
    }
