-- A statement that seeks a file by its name is refused since there is none only where no container had the name when it was sought: what was found is there on.
use Rattle.std.proofs.Common.{◌≡◌, ◌⊎◌, inl, inr, ℕ, ◌-◌, Bool, true, false, List, [], ◌∷◌, ◌++◌, map, Option, Some, None, Result, Ok, Err, refl, sym, ap, ◌∙◌, subst, append_assoc}
use Rattle.std.specs.Prelude.{⊤}
use Rattle.std.specs.List.{AllByRecursion, range_with_len}
use Rattle.std.proofs.lemmas.List.Elements.{recursion_from_All}
use Rattle.turn_object.specs.Front.{KeepsIn}
use Rattle.mount_model.specs.Calls.{AreCallsOf, AreCallsOfEach}
use Rattle.mount_model.specs.Moves.{WorkersCall}
use Rattle.mount_model.specs.Program.{ask, done, followed_by}
use Rattle.container_layout.specs.declared.items.Item.TheVariants.{Access}
use Rattle.plfs_types.specs.declared.entries.Cover.{Cover}
use Rattle.plfs_types.specs.declared.names.Path.{Path}
use Rattle.store_api.specs.declared.step.Answer.TheVariants.{NoFolder}
use Rattle.mount_model.specs.declared.call.Call.TheVariants.{Find, StartFlat, SyncDropping}
use Rattle.mount_model.specs.declared.reply.Refusal.{Refusal}
use Rattle.mount_model.specs.declared.reply.Refusal.TheVariants as refusal
use Rattle.mount_model.specs.declared.reply.Reply.{Reply}
use Rattle.mount_model.specs.declared.reply.Reply.TheVariants as reply
use Rattle.mount_model.specs.History.{Event}
use Rattle.mount_model.specs.Paths.{Name, metadata, truncs}
use Rattle.mount_model.specs.Step.{Answers}
use Rattle.mount_sound.specs.Owed.{IsLawful}
use Rattle.flat_format.specs.declared.flat.Flat.{Flat}
use Rattle.flat_format.specs.declared.flat.TheConstants.{HEAD_SIZE}
use Rattle.flat_format.specs.Spelling.{flat_spelling}
use Rattle.mount_model.specs.declared.stuck.Stuck.{Stuck}
use Rattle.mount_model.specs.declared.stuck.Stuck.TheVariants as stuck
use Rattle.mount_model.specs.FlowListed.{file_in}
use Rattle.mount_model.specs.FlowReplies.{Tries, failure, given, on_ok, room_in, trouble}
use Rattle.mount_model.specs.Running.{Runs, asking}
use Rattle.mount_model.proofs.Flows.Facts.{runs_in_two}
use Rattle.attr_flow.specs.declared.attr.Attr.{Attr}
use Rattle.attr_flow.specs.declared.attr_flow.AttrOut.{AttrOut}
use Rattle.attr_flow.specs.declared.attr_flow.AttrOut.TheVariants.{Cached, MustMerge}
use Rattle.attr_flow.specs.Asking.{attr_program, attributes, if_open, lists_metadata, lists_open, lists_truncs}
use Rattle.attr_flow.specs.Listings.{is_open, metadata_named, truncs_named}
use Rattle.mount_model.specs.declared.names.Metadata.{Metadata}
use Rattle.mount_model.specs.FlowListed.{told_by}
use Rattle.plfs_types.specs.declared.entries.Trunc.{Trunc}
use Rattle.flatten_core.specs.declared.flattening.Flattened.{Flattened as WasFlattened}
use Rattle.flatten_core.specs.declared.starting.Started.{Started}
use Rattle.flatten_core.specs.Covered.{covered}
use Rattle.flatten_core.specs.Flattening.{flatten_program, flattened as told_of_flat, gathers, installs_gathered, lists}
use Rattle.flatten_core.specs.Installing.{done_or, if_done, install_program, installs, puts, syncs, syncs_covered, syncs_flat, syncs_index, syncs_listed}
use Rattle.flatten_core.specs.Starting.{begins, begun}
use Rattle.gather_flow.specs.declared.all_read.AllRead.{AllRead}
use Rattle.gather_flow.specs.Gathering.{if_truncs_listed, reads_truncs, shares_from}
use Rattle.gather_flow.specs.OneIndex.{flat_of}
use Rattle.gather_flow.specs.Shares.{by_itself, programs_from, worker_program}
use Rattle.gather_flow.specs.Dealing.{dealt_to}
use Rattle.gather_flow.specs.Workers.{all_of, and_share}
use Rattle.index_reader.specs.declared.listing.Dropping.{Dropping}
use Rattle.index_reader.specs.declared.listing.Listing.{Listing}
use Rattle.index_reader.specs.declared.opened.OpenReader.{OpenReader}
use Rattle.index_reader.specs.declared.sharing.Share.{Share}
use Rattle.index_reader.specs.Opening.{no_flat, open_at_program, open_read_program, scan_program}
use Rattle.index_reader.specs.Truncs.{trunc_program}
use Rattle.torn_tail.specs.declared.recovering.Recovered.{Recovered}
use Rattle.torn_tail.specs.Recovering.{lists_open as lists_writers, recover_program}
use Rattle.script_lang.specs.declared.line.Outcome.{Outcome}
use Rattle.script_lang.specs.declared.line.Outcome.TheVariants as line
use Rattle.script_lang.specs.declared.line.Why.TheVariants as why_is
use Rattle.script_lang.specs.declared.script.Statement.TheVariants as say
use Rattle.outcomes.specs.Counts.{counts_of}
use Rattle.outcomes.specs.Outcomes.{or_stuck, stuck_outcome}
use Rattle.actor_core.specs.declared.kept.Kept.{Kept}
use Rattle.actor_core.specs.declared.kept.Stop.{Stop}
use Rattle.actor_core.specs.Endings.{Ending, ending, flattened, recovered, refused, stopped, told_of}
use Rattle.actor_core.specs.Opened.{if_truncs, opens, reader_opened}
use Rattle.actor_core.specs.Readers.{if_listed, opens_reader}
use Rattle.actor_core.specs.Sharing.{shared}
use Rattle.actor_core.specs.Statements.{does}
use Rattle.actor_core.specs.Stopping.{carried}
use Rattle.actor_core.specs.Telling.{if_asked, if_relisted, tells_by}
use Rattle.actor_core.specs.Work.{finishes}
use Rattle.reader_laws.specs.Moments.{IsSoundAt, Moment, moment_after, next_moment}
use Rattle.reader_laws.proofs.Gathered.Facts.{grows_after, legal_first, legal_rest, moment-append, sound_after}
use Rattle.reader_laws.specs.Failing.{IsContainerAt}
use Rattle.reader_laws.proofs.Facts.{IsFirstOf, at_run, first_of}
use Rattle.headline_laws.specs.Changing.{IsFreeName}
use Rattle.headline_laws.proofs.Plays.Facts.{ComesTo}
use Rattle.headline_laws.proofs.Reasons.Along.{runs_goes, stepped}
use Rattle.headline_laws.proofs.Reasons.Asking.{open_seeks}
use Rattle.headline_laws.proofs.Reasons.Containers.{drawn_spent, found_there, has_room, no_check}
use Rattle.headline_laws.proofs.Reasons.Goes.{EndsSo, Goes, IsTroubleSo, Stepped, anything, stands}
use Rattle.headline_laws.proofs.Reasons.Holds.{failure_so}
use Rattle.headline_laws.proofs.Reasons.Looks.{At, EndsFine, IsWell, Seeks, each_looks, never_refused, on_ok_goes, open_at_looks, share_looks, telling_looks, then_goes, there_goes, top_looks, truncs_look}
use Rattle.headline_laws.proofs.Reasons.Recovering.{RoomRecovered, room_goes}
use Rattle.headline_laws.proofs.Story.Opened.{RanTo, carried_came}

-- ---- no container has the name

-- at some moment of these events
pub record FreeIn (m : Moment) (events : List Event) (name : Name) : Type 0 where
  pub upto : List Event
  pub rest : List Event
  pub split : events ≡ upto ++ rest
  pub none : IsFreeName (moment_after m upto) name

free_first : (m : Moment) (events first rest : List Event) (name : Name) → events ≡ first ++ rest → FreeIn m first name → FreeIn m events name
free_first m events first rest name is f = record { upto = f.upto; rest = f.rest ++ rest; split = is ∙ ap (λ z. z ++ rest) f.split ∙ append_assoc f.upto f.rest rest; none = f.none }

-- ---- results

-- it is not that there is no such container
abbrev pub IsElse : Refusal → Type 0
IsElse refusal.NoRoom = ⊥
IsElse other = Unit {0}

abbrev pub NotLost : {R : Type 0} → Result R Stuck → Type 0
NotLost result = EndsSo (λ r. Unit {0}) IsElse result

abbrev Lost : {R : Type 0} → Result R Stuck
Lost = Err (stuck.Refused refusal.NoRoom)

lost_not : {R : Type 0} (why : Stuck) → IsTroubleSo IsElse why → ◌≡◌ {A = Result R Stuck} (Err why) Lost → ⊥
lost_not stuck.Fault fine is = cc
lost_not (stuck.Damaged folder file place) fine is = cc
lost_not (stuck.Refused refusal.NoRoom) fine is = fine
lost_not (stuck.Refused other) fine is = cc

fine_else : (why : Stuck) → IsTroubleSo never_refused why → IsTroubleSo IsElse why
fine_else stuck.Fault fine = tt
fine_else (stuck.Damaged folder file place) fine = tt
fine_else (stuck.Refused why) fine = absurd fine

never_lost : {R : Type 0} (result : Result R Stuck) → NotLost result → result ≡ Lost → ⊥
never_lost (Ok r) good is = cc
never_lost (Err why) good is = lost_not why good is

-- a recovery that is held is not lost
lost_not_held : (result : Result Recovered Stuck) → RoomRecovered result → result ≡ Lost → ⊥
lost_not_held (Ok r) good is = cc
lost_not_held (Err stuck.Fault) good is = cc
lost_not_held (Err (stuck.Damaged folder file place)) good is = cc
lost_not_held (Err (stuck.Refused refusal.NoRoom)) good is = good
lost_not_held (Err (stuck.Refused other)) good is = cc

-- ---- what lines say of them

abbrev pub IsUnrefused : Outcome → Type 0
IsUnrefused (line.Refused why) = ⊥
IsUnrefused other = ⊤

stuck_fine : (why : Stuck) → IsTroubleSo never_refused why → IsUnrefused (stuck_outcome why)
stuck_fine stuck.Fault fine = tt
stuck_fine (stuck.Damaged folder file place) fine = tt
stuck_fine (stuck.Refused why) fine = fine

no_file : (why : Stuck) → stuck_outcome why ≡ line.Refused why_is.NoFile → why ≡ stuck.Refused refusal.NoRoom
no_file stuck.Fault is = absurd (let clash : line.Fault ≡ line.Refused why_is.NoFile = is in cc)
no_file (stuck.Damaged folder file place) is = absurd (let clash : line.Damaged folder file place ≡ line.Refused why_is.NoFile = is in cc)
no_file (stuck.Refused refusal.NoRoom) is = refl
no_file (stuck.Refused other) is = absurd (cc)

-- ---- a name is sought

abbrev IsPlain : Reply → Type 0
IsPlain (reply.Room room) = ⊥
IsPlain (reply.Refused why) = ⊥
IsPlain rep = Unit {0}

not_room : (rep : Reply) → IsPlain rep → room_in rep ≡ None
not_room (reply.Room room) plain = absurd plain
not_room rep plain = refl

failure_plain : (rep : Reply) → IsPlain rep → IsTroubleSo never_refused (failure rep)
failure_plain (reply.Room room) plain = absurd plain
failure_plain (reply.Refused why) plain = absurd plain
failure_plain (reply.Damaged folder file) plain = tt
failure_plain rep plain = tt

trouble_plain : (path : Path) (rep : Reply) → IsPlain rep → IsTroubleSo never_refused (trouble path rep)
trouble_plain path (reply.Room room) plain = absurd plain
trouble_plain path (reply.Refused why) plain = absurd plain
trouble_plain path (reply.Damaged folder file) plain = tt
trouble_plain path (reply.Looked NoFolder) plain = tt
trouble_plain path (reply.Looked answer) plain = tt
trouble_plain path rep plain = tt

module _ {R : Type 0} (n : ℕ) (name : Name) (k : Reply → Tries R) (m : Moment) (events : List Event) (out : Result R Stuck) (P : Type 0) (sound : IsSoundAt m) (lawful : IsLawful m.state events) where
  -- Either none had the name, or a container was found, which is there from then on, or nothing was told.
  sought : Runs n (ask (Find name) k) events out → (FreeIn m events name → (later : List Event) → Runs n (k (reply.Refused refusal.NoRoom)) later out → P)
      → ((room : ℕ) (at : Moment) (later : List Event) → IsSoundAt at → IsContainerAt at room → IsLawful at.state later → IsContainerAt (moment_after m events) room → Runs n (k (reply.Room room)) later out → P)
      → ((rep : Reply) (later : List Event) → IsPlain rep → Runs n (k rep) later out → P) → P
  sought runs free found other = by f.event.reply refl
    where
      f : IsFirstOf n (Find name) k events out
      f = first_of n (Find name) k events out runs

      At_find : Moment
      At_find = moment_after m f.before

      all : IsLawful m.state (f.before ++ f.event ∷ f.later)
      all = subst (IsLawful m.state) f.split lawful

      here : IsSoundAt At_find
      here = sound_after m f.before (legal_first m f.before (f.event ∷ f.later) all) sound

      on : IsLawful At_find.state (f.event ∷ f.later)
      on = legal_rest m f.before (f.event ∷ f.later) all

      s : Stepped n At_find (Find name) f.event.reply (next_moment At_find f.event)
      s = stepped n At_find f.event f.later (Find name) here on f.by_caller f.asked

      by : (rep : Reply) → f.event.reply ≡ rep → P
      by (reply.Room room) is =
          let had : IsContainerAt At_find room = found_there At_find n name room f.event.after here (subst (λ r. Answers At_find.state n (Find name) r f.event.after) is s.answers) in
          let then_had : IsContainerAt (next_moment At_find f.event) room = s.grows room had in
          let ends : moment_after m events ≡ moment_after (next_moment At_find f.event) f.later = ap (moment_after m) f.split ∙ moment-append m f.before (f.event ∷ f.later) in
          found room (next_moment At_find f.event) f.later s.sound_then then_had on.2
          (subst (λ (x : Moment). IsContainerAt x room) (sym ends) ((grows_after (next_moment At_find f.event) f.later on.2 s.sound_then).stands room Access tt then_had)) (subst (λ r. Runs n (k r) f.later out) is f.rest)
      by (reply.Refused why) is =
          let lacks = s.reason why is in
          free (record { upto = f.before; rest = f.event ∷ f.later; split = f.split; none = lacks.1 }) f.later (subst (λ w. Runs n (k (reply.Refused w)) f.later out) lacks.0 (subst (λ r. Runs n (k r) f.later out) is f.rest))
      by rep is = other rep f.later tt (subst (λ r. Runs n (k r) f.later out) is f.rest)

given_plain : {R : Type 0} (n : ℕ) (rep : Reply) (why : Stuck) (q : ℕ → Tries R) (later : List Event) (out : Result R Stuck) → IsPlain rep → Runs n (given (room_in rep) why q) later out → ◌≡◌ {A = Result R Stuck} (Err why) out
given_plain n rep why q later out plain runs = (let on = subst (λ o. Runs n (given o why q) later out) (not_room rep plain) runs in on.1)

-- ---- one program after another

module _ {A R : Type 0} (n : ℕ) (p : Tries A) (next : A → Tries R) (m : Moment) (events : List Event) (out : Result R Stuck) (P : Type 0) (sound : IsSoundAt m) (lawful : IsLawful m.state events) where
  in_two : Runs n (followed_by p (on_ok next)) events out → ((first : List Event) (why : Stuck) → IsLawful m.state first → Runs n p first (Err why) → ◌≡◌ {A = Result R Stuck} (Err why) out → P)
      → ((first rest : List Event) (a : A) → IsLawful m.state first → Runs n p first (Ok a) → IsSoundAt (moment_after m first) → IsLawful (moment_after m first).state rest → ((room : ℕ) → IsContainerAt m room → IsContainerAt (moment_after m first) room) → Runs n (next a) rest out → P) → P
  in_two runs fails on =
      let t = runs_in_two n p (on_ok next) events out runs in
      let all : IsLawful m.state (t.first ++ t.rest) = subst (IsLawful m.state) t.all lawful in
      by t.first t.rest t.value (legal_first m t.first t.rest all) (legal_rest m t.first t.rest all) t.runs t.then_runs
    where
      by : (first rest : List Event) (value : Result A Stuck) → IsLawful m.state first → IsLawful (moment_after m first).state rest → Runs n p first value → Runs n (on_ok next value) rest out → P
      by first rest (Ok a) whole later ran then_ran = on first rest a whole ran (sound_after m first whole sound) later (λ room had. (grows_after m first whole sound).stands room Access tt had) then_ran
      by first rest (Err why) whole later ran then_ran = fails first why whole ran then_ran.1

-- ---- a program that looks at a container

module _ (n room : ℕ) where
  runs_fine : {A : Type 0} (p : Tries A) (m : Moment) (events : List Event) (out : Result A Stuck) → Seeks never_refused (At room) p → IsSoundAt m → IsContainerAt m room → IsLawful m.state events → Runs n p events out → IsWell out
  runs_fine p m events out seeks sound had lawful runs = runs_goes n (EndsFine never_refused (At room)) (stands room) p m events out (there_goes n room p seeks) sound had lawful runs

-- ---- how it ends

-- a line that tells of no such file tells so of its statement's result
told_lost : {A : Type 0} (says : A → Outcome) → ((a : A) → says a ≡ line.Refused why_is.NoFile → ⊥) → (result : Result A Stuck) → or_stuck says result ≡ line.Refused why_is.NoFile → result ≡ Lost
told_lost says never (Ok a) is = absurd (never a is)
told_lost says never (Err why) is = ap (λ w. Err w) (no_file why is)

-- ---- what tells of a file

-- the index that is to be read is that of this container
abbrev MergesAt : ℕ → Result AttrOut Stuck → Type 0
MergesAt room (Ok (MustMerge k)) = k ≡ room
MergesAt room other = Unit {0}

module _ (n room : ℕ) where
  attributes_merge : (metas : List Metadata) (listed : Result (List Trunc) Stuck) → MergesAt room (attributes metas listed)
  attributes_merge metas (Ok listed) = tt
  attributes_merge metas (Err why) = tt

  truncs_merge : (metas : List Metadata) → Goes n (MergesAt room) anything (lists_truncs room metas)
  truncs_merge metas = λ m next rep s so. (anything, tt, attributes_merge metas (told_by truncs (λ names. truncs_named names []) rep))

  metadata_merge : Goes n (MergesAt room) anything (lists_metadata room)
  metadata_merge = λ m next rep s so. (anything, tt, by (told_by metadata (λ names. metadata_named names []) rep))
    where
      by : (listed : Result (List Metadata) Stuck) → Goes n (MergesAt room) anything (on_ok (lists_truncs room) listed)
      by (Ok metas) = truncs_merge metas
      by (Err why) = tt

  opens_merge : Goes n (MergesAt room) anything (lists_open room)
  opens_merge = λ m next rep s so. (anything, tt, by (is_open rep))
    where
      by : (listed : Result Bool Stuck) → Goes n (MergesAt room) anything (on_ok (if_open room) listed)
      by (Ok true) = refl
      by (Ok false) = metadata_merge
      by (Err why) = tt

ends_unrefused : (n : ℕ) (end : Ending) (mine : List Event) (spent : List (List Event)) (e : Ending) → IsUnrefused end.outcome → ComesTo n (finishes end) mine spent e → IsUnrefused e.outcome
ends_unrefused n end mine spent e fine comes = subst (λ (x : Ending). IsUnrefused x.outcome) comes.2 fine

module _ (n : ℕ) (left : Kept) (name : Name) (spent : List (List Event)) (e : Ending) where
  stat_end : (result : Result Attr Stuck) (mine : List Event) → IsWell result → ComesTo n (finishes (told_of left result)) mine spent e → IsUnrefused e.outcome
  stat_end (Ok attr) mine fine comes = ends_unrefused n (told_of left (Ok attr)) mine spent e tt comes
  stat_end (Err why) mine fine comes = ends_unrefused n (told_of left (Err why)) mine spent e (stuck_fine why fine) comes

  module _ (room : ℕ) where
    telling : (listing : Listing) → listing.room ≡ room → (stop : Option Stop) (m : Moment) (mine : List Event) → IsSoundAt m → IsContainerAt m room → IsLawful m.state mine → ComesTo n (if_relisted left stop (Ok listing)) mine spent e → IsUnrefused e.outcome
    telling listing is stop m mine sound had lawful comes =
        elim (carried_came n (by_itself (programs_from 1 listing 0) [] (tells_by listing)) stop (λ last result. finishes (told_of left result)) (finishes (stopped left)) mine spent e comes) as (λ _. IsUnrefused e.outcome) [
          | inl r ↦ stat_end r.result r.rest (runs_fine n room (by_itself (programs_from 1 listing 0) [] (tells_by listing)) m r.first r.result (telling_looks never_refused (At room) listing is) sound had (legal_first m r.first r.rest (subst (IsLawful m.state) r.all lawful)) r.runs) r.on
          | inr (rest, halted) ↦ ends_unrefused n (stopped left) rest spent e tt halted
        ]

    relisted : (stop : Option Stop) (result : Result Listing Stuck) (m : Moment) (mine : List Event) → IsWell result → ((listing : Listing) → result ≡ Ok listing → listing.room ≡ room) → IsSoundAt m → IsContainerAt m room → IsLawful m.state mine → ComesTo n (if_relisted left stop result) mine spent e → IsUnrefused e.outcome
    relisted stop (Err why) m mine fine is sound had lawful comes = stat_end (Err why) mine fine comes
    relisted stop (Ok listing) m mine fine is sound had lawful comes = telling listing (is listing refl) stop m mine sound had lawful comes

    gathers_it : (stop : Option Stop) (m : Moment) (mine : List Event) → IsSoundAt m → IsContainerAt m room → IsLawful m.state mine → ComesTo n (if_asked left stop (Ok (MustMerge room))) mine spent e → IsUnrefused e.outcome
    gathers_it stop m mine sound had lawful comes =
        elim (carried_came n (open_at_program room) stop (if_relisted left) (finishes (stopped left)) mine spent e comes) as (λ _. IsUnrefused e.outcome) [
          | inl r ↦
              let all : IsLawful m.state (r.first ++ r.rest) = subst (IsLawful m.state) r.all lawful in
              let whole : IsLawful m.state r.first = legal_first m r.first r.rest all in
              relisted r.stop r.result (moment_after m r.first) r.rest (runs_fine n room (open_at_program room) m r.first r.result (open_at_looks never_refused (At room) room refl) sound had whole r.runs)
              (λ listing same. (at_run n room m r.first listing whole sound (subst (λ x. Runs n (open_at_program room) r.first x) same r.runs)).room_is)
              (sound_after m r.first whole sound) ((grows_after m r.first whole sound).stands room Access tt had) (legal_rest m r.first r.rest all) r.on
          | inr (rest, halted) ↦ ends_unrefused n (stopped left) rest spent e tt halted
        ]

    asked : (stop : Option Stop) (result : Result AttrOut Stuck) (m : Moment) (mine : List Event) → IsWell result → MergesAt room result → IsSoundAt m → IsContainerAt m room → IsLawful m.state mine → ComesTo n (if_asked left stop result) mine spent e → IsUnrefused e.outcome
    asked stop (Err why) m mine fine is sound had lawful comes = stat_end (Err why) mine fine comes
    asked stop (Ok (Cached attr)) m mine fine is sound had lawful comes = stat_end (Ok attr) mine tt comes
    asked stop (Ok (MustMerge k)) m mine fine is sound had lawful comes = gathers_it stop m mine sound had lawful (subst (λ x. ComesTo n (if_asked left stop (Ok (MustMerge x))) mine spent e) is comes)

  -- it is not refused, or since none had the name
  pub stat_came : (stop : Option Stop) (m : Moment) (mine : List Event) → IsSoundAt m → IsLawful m.state mine → ComesTo n (does left stop (say.Stat name)) mine spent e → IsUnrefused e.outcome ⊎ (FreeIn m mine name × (e.outcome ≡ line.Refused why_is.NoFile))
  stat_came stop m mine sound lawful comes = elim (carried_came n (attr_program name) stop (if_asked left) (finishes (stopped left)) mine spent e comes) as (λ _. Came) [
    | inl r ↦ by_run r
    | inr (rest, halted) ↦ inl (ends_unrefused n (stopped left) rest spent e tt halted)
  ]
    where
      Came : Type 0
      Came = IsUnrefused e.outcome ⊎ (FreeIn m mine name × (e.outcome ≡ line.Refused why_is.NoFile))

      by_run : RanTo n (attr_program name) (if_asked left) mine spent e → Came
      by_run r =
          let all : IsLawful m.state (r.first ++ r.rest) = subst (IsLawful m.state) r.all lawful in
          let whole : IsLawful m.state r.first = legal_first m r.first r.rest all in
          sought n name (λ rep. given (room_in rep) (failure rep) lists_open) m r.first r.result Came sound whole r.runs
          (λ fr later ran. (let c = subst (λ x. ComesTo n (if_asked left r.stop x) r.rest spent e) (sym ran.1) r.on in inr (free_first m mine r.first r.rest name r.all fr, ap (λ (x : Ending). x.outcome) (sym c.2))))
          (λ room at later s had on there ran. inl (asked room r.stop r.result (moment_after m r.first) r.rest (runs_fine n room (lists_open room) at later r.result (open_seeks room) s had on ran)
          (runs_goes n (MergesAt room) anything (lists_open room) at later r.result (opens_merge n room) s tt on ran) (sound_after m r.first whole sound) there (legal_rest m r.first r.rest all) r.on))
          (λ rep later plain ran. inl (stat_end (Err (failure rep)) r.rest (failure_plain rep plain) (subst (λ x. ComesTo n (if_asked left r.stop x) r.rest spent e) (sym (given_plain n rep (failure rep) lists_open later r.result plain ran)) r.on)))

-- ---- a flattening, of a container that was found

module _ (n room : ℕ) where
  abbrev Else : Reply → Type 0
  Else rep = (why : Refusal) → rep ≡ reply.Refused why → IsElse why

  abbrev On : Tries (Unit {0}) → Type 0
  On program = Goes n NotLost (stands room) program

  not_begun : (why : Refusal) → why ≡ refusal.NotOpen → IsElse why
  not_begun why is = subst IsElse (sym is) tt

  flat_ended : (rep : Reply) → Else rep → NotLost (done_or rep)
  flat_ended reply.Done each = tt
  flat_ended rep each = failure_so IsElse rep each

  done_goes : (program : Tries (Unit {0})) (rep : Reply) → Else rep → On program → On (if_done program rep)
  done_goes program reply.Done each goes = goes
  done_goes program rep each goes = failure_so IsElse rep each

  installs_go : (id : ℕ) → On (installs id)
  installs_go id = λ m next rep s so. (stands room, s.grows room so, flat_ended rep (λ why is. not_begun why (s.reason why is).0))

  syncs_go : (id : ℕ) → On (syncs_flat id)
  syncs_go id = λ m next rep s so. (stands room, s.grows room so, done_goes (installs id) rep (λ why is. not_begun why (s.reason why is).0) (installs_go id))

  puts_go : (id : ℕ) (bytes : List ℕ) → On (puts id bytes)
  puts_go id bytes = λ m next rep s so. (stands room, s.grows room so, done_goes (syncs_flat id) rep (λ why is. not_begun why (s.reason why is).0) (syncs_go id))

  sync_else : (host w : ℕ) (is_log : Bool) (m next : Moment) (rep : Reply) → Stepped n m (SyncDropping room host w is_log) rep next → IsContainerAt m room → Else rep
  sync_else host w is_log m next rep s had why is = absurd (no_check m s.sound room had why (s.reason why is))

  droppings_go : (id : ℕ) (bytes : List ℕ) (ds : List Dropping) → On (syncs room id bytes ds)
  droppings_go id bytes [] = puts_go id bytes
  droppings_go id bytes (d ∷ ds) = λ m next rep s so. (
    stands room,
    s.grows room so,
    done_goes (syncs_index room d (syncs room id bytes ds)) rep (sync_else d.host d.writer true m next rep s so)
        (λ then_m then_next then_rep t then_so. (stands room, t.grows room then_so, done_goes (syncs room id bytes ds) then_rep (sync_else d.host d.writer false then_m then_next then_rep t then_so) (droppings_go id bytes ds))),
  )

  covered_go : (id : ℕ) (bytes : List ℕ) (found : Result (List Dropping) ℕ) → On (syncs_covered room id bytes found)
  covered_go id bytes (Err place) = tt
  covered_go id bytes (Ok ds) = droppings_go id bytes ds

  -- what was begun is in this room
  abbrev BegunAt : Result Started Stuck → Type 0
  BegunAt (Ok started) = started.room ≡ room
  BegunAt (Err why) = IsTroubleSo IsElse why

  start_else : (m next : Moment) (rep : Reply) → Stepped n m (StartFlat room) rep next → IsContainerAt m room → Else rep
  start_else m next rep s had why is = elim (s.reason why is) as (λ _. IsElse why) [
    | inl check ↦ subst IsElse (sym (drawn_spent m s.sound room had why check)) tt
    | inr lacks ↦ absurd (has_room m s.sound room had (lacks.1 s.sound.shape.tree s.sound.shape.told))
  ]

  begun_at : (rep : Reply) → Else rep → BegunAt (begun room rep)
  begun_at (reply.Started flat) each = refl
  begun_at (reply.Refused why) each = each why refl
  begun_at (reply.Damaged folder file) each = tt
  begun_at rep each = tt

  begins_go : Goes n BegunAt (stands room) (begins room)
  begins_go = λ m next rep s so. (stands room, s.grows room so, begun_at rep (start_else m next rep s so))

module _ (n : ℕ) (started : Started) where
  abbrev Home : ℕ
  Home = started.room

  install_kept : (covers : List Cover) (bytes : List ℕ) (m : Moment) (events : List Event) (out : Result (Unit {0}) Stuck) → IsSoundAt m → IsContainerAt m Home → IsLawful m.state events → Runs n (install_program Home started.flat covers bytes) events out → NotLost out
  install_kept covers bytes m events out sound had lawful runs =
      in_two n (scan_program Home) (syncs_listed Home started.flat covers bytes) m events out (NotLost out) sound lawful runs
      (λ first why whole ran same. subst (λ r. NotLost r) same (fine_else why (runs_fine n Home (scan_program Home) m first (Err why) (top_looks never_refused (At Home) Home refl 0 no_flat) sound had whole ran)))
      (λ first rest listing whole ran s on lasts then_ran. runs_goes n NotLost (stands Home) (syncs_listed Home started.flat covers bytes listing) (moment_after m first) rest out (covered_go n Home started.flat bytes (covered listing.droppings HEAD_SIZE covers [])) s (lasts Home had) on then_ran)

  gathered_kept : (all : AllRead) (m : Moment) (events : List Event) (out : Result WasFlattened Stuck) → IsSoundAt m → IsContainerAt m Home → IsLawful m.state events → Runs n (installs_gathered started all) events out → NotLost out
  gathered_kept all m events out sound had lawful runs =
      let index : Flat = flat_of all.listed all.shares in
      in_two n (install_program Home started.flat index.covers (flat_spelling index)) (λ (made : Unit {0}). done (Ok (told_of_flat started index))) m events out (NotLost out) sound lawful runs
      (λ first why whole ran same. subst (λ r. NotLost r) same (install_kept index.covers (flat_spelling index) m first (Err why) sound had whole ran))
      (λ first rest made whole ran s on lasts then_ran. subst (λ r. NotLost r) then_ran.1 tt)

  shares_seek : (listing : Listing) → listing.room ≡ Home → Seeks never_refused (At Home) (shares_from 1 listing 0 [])
  shares_seek listing is = each_looks never_refused (At Home) 1 listing is (range_with_len 0 (1 - 0)) [] (reads_truncs listing) (λ shares. then_goes never_refused (At Home) (trunc_program listing.room) (if_truncs_listed listing shares) (truncs_look never_refused (At Home) listing.room is) (λ truncs. tt))

  gathers_kept : (listing : Listing) → listing.room ≡ Home → (m : Moment) (events : List Event) (out : Result WasFlattened Stuck) → IsSoundAt m → IsContainerAt m Home → IsLawful m.state events → Runs n (gathers started listing) events out → NotLost out
  gathers_kept listing is m events out sound had lawful runs =
      in_two n (shares_from 1 listing 0 []) (installs_gathered started) m events out (NotLost out) sound lawful runs
      (λ first why whole ran same. subst (λ r. NotLost r) same (fine_else why (runs_fine n Home (shares_from 1 listing 0 []) m first (Err why) (shares_seek listing is) sound had whole ran)))
      (λ first rest all whole ran s on lasts then_ran. gathered_kept all (moment_after m first) rest out s (lasts Home had) on then_ran)

  lists_kept : (m : Moment) (events : List Event) (out : Result WasFlattened Stuck) → IsSoundAt m → IsContainerAt m Home → IsLawful m.state events → Runs n (lists started) events out → NotLost out
  lists_kept m events out sound had lawful runs =
      in_two n (open_at_program Home) (gathers started) m events out (NotLost out) sound lawful runs
      (λ first why whole ran same. subst (λ r. NotLost r) same (fine_else why (runs_fine n Home (open_at_program Home) m first (Err why) (open_at_looks never_refused (At Home) Home refl) sound had whole ran)))
      (λ first rest listing whole ran s on lasts then_ran. gathers_kept listing (at_run n Home m first listing whole sound ran).room_is (moment_after m first) rest out s (lasts Home had) on then_ran)

flatten_kept : (n room : ℕ) (m : Moment) (events : List Event) (out : Result WasFlattened Stuck) → IsSoundAt m → IsContainerAt m room → IsLawful m.state events → Runs n (followed_by (begins room) (on_ok lists)) events out → NotLost out
flatten_kept n room m events out sound had lawful runs =
    in_two n (begins room) lists m events out (NotLost out) sound lawful runs
    (λ first why whole ran same. subst (λ r. NotLost r) same (runs_goes n (BegunAt n room) (stands room) (begins room) m first (Err why) (begins_go n room) sound had whole ran))
    (λ first rest started whole ran s on lasts then_ran. lists_kept n started (moment_after m first) rest out s
    (subst (IsContainerAt (moment_after m first)) (sym (runs_goes n (BegunAt n room) (stands room) (begins room) m first (Ok started) (begins_go n room) sound had whole ran)) (lasts room had)) on then_ran)

-- ---- a reader

module _ (n room : ℕ) (workers : ℕ) (listing : Listing) (is : listing.room ≡ room) where
  abbrev Reads : {R : Type 0} → Tries R → Type 0
  Reads p = Seeks never_refused (At room) p

  opens_seek : (shares : List Share) → Reads (opens listing shares)
  opens_seek shares = then_goes never_refused (At room) (trunc_program listing.room) (if_truncs listing shares) (truncs_look never_refused (At room) listing.room is) (λ truncs. tt)

  -- ---- its workers

  module _ (m : Moment) (during : List Event) (sound : IsSoundAt m) (had : IsContainerAt m room) (lawful : IsLawful m.state during) where
    worker_fine : (p : Tries Share) (calls : List Event) (out : Result Share Stuck) → Reads p → KeepsIn during calls → AreCallsOf (asking p) calls out → IsWell out
    worker_fine (done r) [] out seeks kept made = subst (λ x. IsWell x) made.1 seeks
    worker_fine (ask call k) [] out seeks kept made = absurd made
    worker_fine p (c ∷ calls) out seeks kept made = runs_fine c.caller room p m during out seeks sound had lawful (subst (λ es. AreCallsOf (asking p) es out) (sym kept) made)

    share_more : (share : Share) (results : Result (List Share) Stuck) → IsWell results → IsWell (and_share share results)
    share_more share (Ok others) fine = tt
    share_more share (Err why) fine = fine

    share_or : (out : Result Share Stuck) (results : List (Result Share Stuck)) → IsWell out → IsWell (all_of results) → IsWell (all_of (out ∷ results))
    share_or (Ok share) results fine more = share_more share (all_of results) more
    share_or (Err why) results fine more = fine

    workers_fine : (numbers : List ℕ) (calls : List (List Event)) (results : List (Result Share Stuck)) → AllByRecursion (KeepsIn during) calls → AreCallsOfEach (map asking (map (worker_program workers listing) numbers)) calls results → IsWell (all_of results)
    workers_fine [] [] [] kept made = tt
    workers_fine [] [] (x ∷ xs) kept made = absurd made
    workers_fine [] (c ∷ cs) xs kept made = absurd made
    workers_fine (w ∷ ws) [] xs kept made = absurd made
    workers_fine (w ∷ ws) (c ∷ cs) [] kept made = absurd made
    workers_fine (w ∷ ws) (c ∷ cs) (x ∷ xs) kept made =
        share_or x xs (worker_fine (worker_program workers listing w) c x (share_looks never_refused (At room) listing.room is (dealt_to workers w 0 listing.droppings) listing.flat.covers) kept.0 made.0) (workers_fine ws cs xs kept.1 made.1)

  -- ---- its line

  module _ (left : Kept) (e : Ending) where
    opened_end : (result : Result OpenReader Stuck) (mine : List Event) (spent : List (List Event)) → IsWell result → ComesTo n (finishes (reader_opened left result)) mine spent e → IsUnrefused e.outcome
    opened_end (Ok reader) mine spent fine comes = ends_unrefused n (reader_opened left (Ok reader)) mine spent e tt comes
    opened_end (Err why) mine spent fine comes = ends_unrefused n (reader_opened left (Err why)) mine spent e (stuck_fine why fine) comes

    reads_end : (p : Tries OpenReader) (stop : Option Stop) (m : Moment) (mine : List Event) (spent : List (List Event)) → Reads p → IsSoundAt m → IsContainerAt m room → IsLawful m.state mine → ComesTo n (carried p stop (λ later result. finishes (reader_opened left result)) (finishes (stopped left))) mine spent e → IsUnrefused e.outcome
    reads_end p stop m mine spent seeks sound had lawful comes =
        elim (carried_came n p stop (λ later result. finishes (reader_opened left result)) (finishes (stopped left)) mine spent e comes) as (λ _. IsUnrefused e.outcome) [
          | inl r ↦ opened_end r.result r.rest spent (runs_fine n room p m r.first r.result seeks sound had (legal_first m r.first r.rest (subst (IsLawful m.state) r.all lawful)) r.runs) r.on
          | inr (rest, halted) ↦ ends_unrefused n (stopped left) rest spent e tt halted
        ]

    alone_end : (stop : Option Stop) (m : Moment) (mine : List Event) (spent : List (List Event)) → IsSoundAt m → IsContainerAt m room → IsLawful m.state mine → ComesTo n (carried (by_itself (programs_from workers listing 0) [] (opens listing)) stop (λ later result. finishes (reader_opened left result)) (finishes (stopped left))) mine spent e → IsUnrefused e.outcome
    alone_end stop m mine spent sound had lawful comes = reads_end (by_itself (programs_from workers listing 0) [] (opens listing)) stop m mine spent (each_looks never_refused (At room) workers listing is (range_with_len 0 (workers - 0)) [] (opens listing) opens_seek) sound had lawful comes

    by_workers : (m : Moment) (mine : List Event) (spent : List (List Event)) → IsSoundAt m → IsContainerAt m room → IsLawful m.state mine
        → WorkersCall n (map asking (programs_from workers listing 0)) mine spent (λ results after later. ComesTo n (carried (on_ok (opens listing) (all_of results)) None (λ left_stop result. finishes (reader_opened left result)) (finishes (stopped left))) after later e) → IsUnrefused e.outcome
    by_workers m mine spent sound had lawful w =
        let all : IsLawful m.state (w.before ++ (w.during ++ w.after)) = subst (IsLawful m.state) w.all lawful in
        let first : IsLawful m.state w.before = legal_first m w.before (w.during ++ w.after) all in
        let at : Moment = moment_after m w.before in
        let s : IsSoundAt at = sound_after m w.before first sound in
        let there : IsContainerAt at room = (grows_after m w.before first sound).stands room Access tt had in
        let rest : IsLawful at.state (w.during ++ w.after) = legal_rest m w.before (w.during ++ w.after) all in
        let mid : IsLawful at.state w.during = legal_first at w.during w.after rest in
        let fine = workers_fine at w.during s there mid (range_with_len 0 (workers - 0)) w.these w.results (recursion_from_All (KeepsIn w.during) w.these w.whole) w.made in
        reads_end (on_ok (opens listing) (all_of w.results)) None (moment_after at w.during) w.after w.later (on_ok_goes never_refused (At room) (opens listing) (all_of w.results) fine opens_seek)
        (sound_after at w.during mid s) ((grows_after at w.during mid s).stands room Access tt there) (legal_rest at w.during w.after rest) w.goes_on

    shared_end : (stop : Option Stop) (m : Moment) (mine : List Event) (spent : List (List Event)) → IsSoundAt m → IsContainerAt m room → IsLawful m.state mine → ComesTo n (shared stop (programs_from workers listing 0) (opens listing) (λ later result. finishes (reader_opened left result)) (finishes (stopped left))) mine spent e → IsUnrefused e.outcome
    shared_end None m mine spent sound had lawful (inl w) = by_workers m mine spent sound had lawful w
    shared_end None m mine spent sound had lawful (inr comes) = alone_end None m mine spent sound had lawful comes
    shared_end (Some stop) m mine spent sound had lawful comes = alone_end (Some stop) m mine spent sound had lawful comes

-- ---- statements that are refused so

module _ (n : ℕ) (left : Kept) (name : Name) (spent : List (List Event)) (e : Ending) (says : e.outcome ≡ line.Refused why_is.NoFile) where
  not_so : (end : Ending) (mine : List Event) → (end.outcome ≡ line.Refused why_is.NoFile → ⊥) → ComesTo n (finishes end) mine spent e → ⊥
  not_so end mine other comes = other (ap (λ (x : Ending). x.outcome) comes.2 ∙ says)

  not_stopped : (mine : List Event) → ComesTo n (finishes (stopped left)) mine spent e → ⊥
  not_stopped mine halted = not_so (stopped left) mine (λ is. let clash : line.Stopped ≡ line.Refused why_is.NoFile = is in cc) halted

  refused_fine : IsUnrefused e.outcome → ⊥
  refused_fine fine = subst IsUnrefused says fine

  module _ (stop : Option Stop) (m : Moment) (mine : List Event) (sound : IsSoundAt m) (lawful : IsLawful m.state mine) where
    abbrev pub Free : Type 0
    Free = FreeIn m mine name

    pub stat_missing : ComesTo n (does left stop (say.Stat name)) mine spent e → Free
    stat_missing comes = elim (stat_came n left name spent e stop m mine sound lawful comes) as (λ _. Free) [
      | inl fine ↦ absurd (refused_fine fine)
      | inr came ↦ came.0
    ]

    flatten_run : RanTo n (flatten_program name) (λ later result. finishes (flattened left result)) mine spent e → Free
    flatten_run r =
        let lost : r.result ≡ Lost = told_lost (λ (f : WasFlattened). line.Flattened f.flat f.pieces (counts_of f.covers)) (λ f is. cc) r.result (ap (λ (x : Ending). x.outcome) r.on.2 ∙ says) in
        sought n name (λ rep. followed_by (given (room_in rep) (failure rep) begins) (on_ok lists)) m r.first r.result Free sound (legal_first m r.first r.rest (subst (IsLawful m.state) r.all lawful)) r.runs
        (λ fr later ran. free_first m mine r.first r.rest name r.all fr)
        (λ room at later s had on there ran. absurd (never_lost r.result (flatten_kept n room at later r.result s had on ran) lost))
        (λ rep later plain ran. absurd (lost_not (failure rep) (fine_else (failure rep) (failure_plain rep plain)) ((subst (λ o. Runs n (followed_by (given o (failure rep) begins) (on_ok lists)) later r.result) (not_room rep plain) ran).1 ∙ lost)))

    pub flatten_missing : ComesTo n (does left stop (say.Flatten name)) mine spent e → Free
    flatten_missing comes = elim (carried_came n (flatten_program name) stop (λ later result. finishes (flattened left result)) (finishes (stopped left)) mine spent e comes) as (λ _. Free) [
      | inl r ↦ flatten_run r
      | inr (rest, halted) ↦ absurd (not_stopped rest halted)
    ]

    recover_run : RanTo n (recover_program name) (λ later result. finishes (recovered left result)) mine spent e → Free
    recover_run r =
        let lost : r.result ≡ Lost = told_lost (λ (x : Recovered). line.Recovered x.buried x.alive x.hold) (λ x is. cc) r.result (ap (λ (x : Ending). x.outcome) r.on.2 ∙ says) in
        sought n name (λ rep. given (room_in rep) (failure rep) lists_writers) m r.first r.result Free sound (legal_first m r.first r.rest (subst (IsLawful m.state) r.all lawful)) r.runs
        (λ fr later ran. free_first m mine r.first r.rest name r.all fr)
        (λ room at later s had on there ran. absurd (lost_not_held r.result (runs_goes n RoomRecovered (stands room) (lists_writers room) at later r.result (room_goes n room) s had on ran) lost))
        (λ rep later plain ran. absurd (lost_not (failure rep) (fine_else (failure rep) (failure_plain rep plain)) (given_plain n rep (failure rep) lists_writers later r.result plain ran ∙ lost)))

    pub recover_missing : ComesTo n (does left stop (say.Recover name)) mine spent e → Free
    recover_missing comes = elim (carried_came n (recover_program name) stop (λ later result. finishes (recovered left result)) (finishes (stopped left)) mine spent e comes) as (λ _. Free) [
      | inl r ↦ recover_run r
      | inr (rest, halted) ↦ absurd (not_stopped rest halted)
    ]

    listed_missing : (workers : ℕ) (r : RanTo n (open_read_program name) (if_listed left workers) mine spent e) → Free
    listed_missing workers r =
        let all : IsLawful m.state (r.first ++ r.rest) = subst (IsLawful m.state) r.all lawful in
        let whole : IsLawful m.state r.first = legal_first m r.first r.rest all in
        sought n name (λ rep. given (room_in rep) (trouble (file_in [] []) rep) open_at_program) m r.first r.result Free sound whole r.runs
        (λ fr later ran. free_first m mine r.first r.rest name r.all fr)
        (λ room at later s had on there ran. absurd (refused_fine (found room at later s had on there (legal_rest m r.first r.rest all) (sound_after m r.first whole sound) r.result ran r.on)))
        (λ rep later plain ran. absurd (refused_fine (ends_unrefused n (ending (stuck_outcome (trouble (file_in [] []) rep)) left) r.rest spent e (stuck_fine (trouble (file_in [] []) rep) (trouble_plain (file_in [] []) rep plain)) (subst (λ x. ComesTo n (if_listed left workers r.stop x) r.rest spent e) (sym (given_plain n rep (trouble (file_in [] []) rep) open_at_program later r.result plain ran)) r.on))))
      where
        found : (room : ℕ) (at : Moment) (later : List Event) → IsSoundAt at → IsContainerAt at room → IsLawful at.state later → IsContainerAt (moment_after m r.first) room → IsLawful (moment_after m r.first).state r.rest → IsSoundAt (moment_after m r.first) → (result : Result Listing Stuck) → Runs n (open_at_program room) later result → ComesTo n (if_listed left workers r.stop result) r.rest spent e → IsUnrefused e.outcome
        found room at later s had on there after sound_there (Ok listing) ran comes = shared_end n room workers listing (at_run n room at later listing on s ran).room_is left e r.stop (moment_after m r.first) r.rest spent sound_there there after comes
        found room at later s had on there after sound_there (Err why) ran comes = ends_unrefused n (ending (stuck_outcome why) left) r.rest spent e (stuck_fine why (runs_fine n room (open_at_program room) at later (Err why) (open_at_looks never_refused (At room) room refl) s had on ran)) comes

    ropen_missing : (workers : ℕ) (reader : Option OpenReader) → ComesTo n (opens_reader left stop name workers reader) mine spent e → Free
    ropen_missing workers (Some reader) comes = absurd (not_so (refused left why_is.AlreadyOpen) mine (λ is. let clash : line.Refused why_is.AlreadyOpen ≡ line.Refused why_is.NoFile = is in cc) comes)
    ropen_missing workers None comes = elim (carried_came n (open_read_program name) stop (if_listed left workers) (finishes (stopped left)) mine spent e comes) as (λ _. Free) [
      | inl r ↦ listed_missing workers r
      | inr (rest, halted) ↦ absurd (not_stopped rest halted)
    ]

    pub opens_missing : (workers : ℕ) → ComesTo n (does left stop (say.Ropen name workers)) mine spent e → Free
    opens_missing workers comes = ropen_missing workers left.reader comes
