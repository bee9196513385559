-- What the line of a truncate shows of its container.
use Rattle.std.proofs.Common.{◌≡◌, ℕ, ◌<◌, List, [], ◌∷◌, ◌++◌, Some, None, Result, Ok, Err, refl, sym, ap, ◌∙◌, inl, inr, subst, arith, append_assoc}
use Rattle.std.specs.Prelude.{slice_get}
use Rattle.std.proofs.lemmas.List.Elements.{All-from_recursion}
use Rattle.plfs_types.specs.declared.limits.TheConstants.{MAX_STAMP}
use Rattle.plfs_types.specs.declared.names.Path.{Path}
use Rattle.container_layout.specs.declared.items.Item.TheVariants.{Trunc}
use Rattle.container_layout.specs.Items.{IsItem}
use Rattle.store_api.specs.declared.step.Answer.TheVariants.{Made, NoFolder, NoRoom}
use Rattle.store_api.specs.declared.store.Trouble.TheVariants.{Fault, NoMemory}
use Rattle.store_api.specs.declared.tree.Tree.{Tree}
use Rattle.store_laws.specs.Changes.{Created}
use Rattle.store_laws.specs.Files.{file_at}
use Rattle.store_laws.proofs.Facts.{acts_told, create_told, slice_get-slice_set}
use Rattle.mount_model.specs.declared.call.Call.TheVariants.{Look, Mark}
use Rattle.mount_model.specs.declared.call.Look.TheVariants.{List as ListFolder}
use Rattle.mount_model.specs.declared.reply.Reply.{Reply}
use Rattle.mount_model.specs.declared.reply.Reply.TheVariants.{Marked, Refused}
use Rattle.mount_model.specs.declared.row.Holder.{Holder}
use Rattle.mount_model.specs.History.{Event}
use Rattle.mount_model.specs.Holding.{TruncatesAt, truncate_check, truncate_outcome, truncate_stamp, truncate_step}
use Rattle.mount_model.specs.Making.{Refuses, Told}
use Rattle.mount_model.specs.declared.stuck.Stuck.{Stuck}
use Rattle.mount_model.specs.FlowListed.{told_by}
use Rattle.mount_model.specs.FlowReplies.{Tries}
use Rattle.mount_model.specs.Paths.{Name, metadata, trunc_path, truncs}
use Rattle.mount_model.specs.State.{State, Table}
use Rattle.mount_model.specs.Replies.{FitsCall}
use Rattle.mount_model.specs.Step.{Answers, IsStep}
use Rattle.mount_model.specs.Table.{holder_of}
use Rattle.mount_model.proofs.Facts.{MayTruncate, is_holding, match_cases, may_truncate, step_fits}
use Rattle.mount_sound.specs.Ledger.{Written}
use Rattle.mount_sound.specs.Owed.{IsLawful}
use Rattle.mount_model.specs.Running.{Runs, unbroken}
use Rattle.trunc_rename.specs.Holding.{lets_go, or_lets_go}
use Rattle.trunc_rename.specs.Tops.{metadata_top, truncs_top}
use Rattle.trunc_rename.specs.Truncating.{lists_metadata, lists_truncs, marked, marks, truncate_program}
use Rattle.reader_laws.specs.Moments.{HadTrunc, IsSoundAt, Moment, file_in_room, file_told, moment_after, next_moment}
use Rattle.reader_laws.proofs.Gathered.Facts.{in_a_room, in_tree, legal_first, legal_rest, moment-append, sound_after}
use Rattle.reader_laws.proofs.Gathered.Moments.Stepping.{IsAboveThen, above_room, trunc_next}
use Rattle.reader_laws.proofs.Facts.{answered}
use Rattle.headline_laws.specs.Changing.{IsHolderOf, IsTimed, IsTopIn, IsTruncated, TruncatesFile}
use Rattle.headline_laws.proofs.Plays.Holds.Held.{HoldsOnly, alone, answered_so, change_of, changed, has_called, has_held, has_looked, its_step, let_go_so, went_past}
use Rattle.headline_laws.proofs.Plays.Holds.Issued.{issues_above}
use Rattle.headline_laws.proofs.Plays.Holds.Tops.{metas_told, top_later, truncs_told}
use Rattle.headline_laws.proofs.Plays.Refused.Reasons.{EndsFor, IsNoStamp, metadata_for, truncs_for}

-- ---- what a truncate did

told_made : (stamp size : ℕ) (table : Table) (told : Told) (answer : ℕ) → Marked answer ≡ (truncate_outcome stamp size table told).reply → (told ≡ Ok Made) × (answer ≡ stamp)
told_made stamp size table (Ok Made) answer e = (refl, cc)
told_made stamp size table (Ok NoRoom) answer e = absurd (cc)
told_made stamp size table (Ok NoFolder) answer e = absurd (cc)
told_made stamp size table (Ok other) answer e = absurd (cc)
told_made stamp size table (Err Fault) answer e = absurd (cc)
told_made stamp size table (Err NoMemory) answer e = absurd (cc)

-- The caller's hold is of this room, and the truncate was made there.
record IsMarked (n holder size stamp : ℕ) (m : Moment) (sound : IsSoundAt m) (after : State) : Type 0 where
  pub h : Holder
  pub held : holder_of n holder m.state.table.holders ≡ Some h
  pub item : IsItem (Trunc stamp size)
  pub tree : Tree
  pub told : after.store.tree ≡ Some tree
  pub made : Created sound.shape.tree h.room (trunc_path stamp size) tree

stamped : (time top size : ℕ) → MayTruncate size top → IsItem (Trunc (truncate_stamp time top) size)
stamped time top size may = let left : top < MAX_STAMP = may.stamp_left in record { in_range = record { stamped = omega arith; stamp_fits = omega (arith, left); size_fits = may.near }; widths = tt }

is_marked : (n holder size top stamp : ℕ) (m : Moment) (sound : IsSoundAt m) (after : State) → Answers m.state n (Mark holder size top) (Marked stamp) after → IsMarked n holder size stamp m sound after
is_marked n holder size top stamp m sound after a = elim (match_cases (holder_of n holder m.state.table.holders) _ _ a) as (λ _. IsMarked n holder size stamp m sound after) [
  | inl (none, refused) ↦ absurd (let e = refused.0 in cc)
  | inr (h, held, does) ↦ elim (match_cases (truncate_check size top) (TruncatesAt h size top m.state (Marked stamp) after) (λ why. Refuses why m.state (Marked stamp) after) does) as (λ _. IsMarked n holder size stamp m sound after) [
    | inr (why, some, refused) ↦ absurd (let e : Marked stamp ≡ Refused why = refused.0 in cc)
    | inl (passed, t) ↦
        let is = told_made (truncate_stamp t.time top) size m.state.table t.makes.told stamp t.makes.answered in
        let path : ℕ → Path = λ s. trunc_path s size in
        let a = acts_told (truncate_step h (truncate_stamp t.time top) size) m.state.store after.store sound.shape.tree t.makes.told sound.shape.told t.makes.made in
        let c : Created sound.shape.tree h.room (path (truncate_stamp t.time top)) a.0 = (create_told h.room (path (truncate_stamp t.time top)) sound.shape.tree t.makes.told a.0 a.2).done is.0 in
        record {
          h = h;
          held = held;
          item = subst (λ s. IsItem (Trunc s size)) (sym is.1) (stamped t.time top size (may_truncate size top passed));
          tree = a.0;
          told = a.1;
          made = subst (λ s. Created sound.shape.tree h.room (path s) a.0) (sym is.1) c;
        }
  ]
]

-- by the clock
is_timed : (n holder room size top stamp : ℕ) (m : Moment) (after : State) → Answers m.state n (Mark holder size top) (Marked stamp) after → IsTopIn m room top → IsTimed m room stamp
is_timed n holder room size top stamp m after a stood = elim (match_cases (holder_of n holder m.state.table.holders) _ _ a) as (λ _. IsTimed m room stamp) [
  | inl (none, refused) ↦ absurd (let e = refused.0 in cc)
  | inr (h, held, does) ↦ elim (match_cases (truncate_check size top) (TruncatesAt h size top m.state (Marked stamp) after) (λ why. Refuses why m.state (Marked stamp) after) does) as (λ _. IsTimed m room stamp) [
    | inr (why, some, refused) ↦ absurd (let e : Marked stamp ≡ Refused why = refused.0 in cc)
    | inl (passed, t) ↦ record {
      time = t.time;
      times = t.times;
      ticks = t.ticks;
      top = top;
      stood = stood;
      is = (told_made (truncate_stamp t.time top) size m.state.table t.makes.told stamp t.makes.answered).1;
      left = (may_truncate size top passed).stamp_left;
    }
  ]
]

module _ (n holder room size stamp : ℕ) (m : Moment) (sound : IsSoundAt m) (event : Event) (lawful : IsLawful m.state (event ∷ [])) (only : HoldsOnly n holder room m.state) (k : IsMarked n holder size stamp m sound event.after) (timed : IsTimed m room stamp) where
  its_room : k.h.room ≡ room
  its_room = only k.h (is_holding n holder m.state.table.holders k.h k.held)

  path : Path
  path = trunc_path stamp size

  there : slice_get k.tree.rooms k.h.room ≡ Some k.made.new
  there = ap (λ (t : Tree). slice_get t.rooms k.h.room) k.made.gives ∙ slice_get-slice_set sound.shape.tree.rooms k.h.room k.made.room k.made.new k.made.has_room

  -- it stands in the container then
  stands_so : HadTrunc (next_moment m event) k.h.room stamp size
  stands_so = record {
    is_item = k.item;
    bytes = [];
    there = ap (λ o. file_told o k.h.room (trunc_path stamp size)) k.told ∙ ap (λ o. file_in_room o (trunc_path stamp size)) there ∙ k.made.now;
  }

  -- and did not before
  absent_so : HadTrunc m k.h.room stamp size → ⊥
  absent_so had =
      let r = in_a_room (slice_get sound.shape.tree.rooms k.h.room) (trunc_path stamp size) had.bytes (in_tree m sound k.h.room (trunc_path stamp size) had.bytes had.there) in
      let both : Some r.0 ≡ Some k.made.room = sym r.1 ∙ k.made.has_room in
      let same : r.0 ≡ k.made.room = cc in
      let none : file_at r.0 (trunc_path stamp size) ≡ None = ap (λ x. file_at x (trunc_path stamp size)) same ∙ k.made.none in
      let some : file_at r.0 (trunc_path stamp size) ≡ Some had.bytes = r.2 in
      cc

  mark_stands : HadTrunc (next_moment m event) room stamp size
  mark_stands = subst (λ r. HadTrunc (next_moment m event) r stamp size) its_room stands_so

  mark_above : IsAboveThen m room stamp
  mark_above = elim (trunc_next m event [] room stamp size lawful sound mark_stands) as (λ _. IsAboveThen m room stamp) [
    | inl was ↦ absurd (absent_so (subst (λ r. HadTrunc m r stamp size) (sym its_room) was))
    | inr above ↦ above
  ]

  mark_truncates : IsTruncated m (next_moment m event) room size stamp
  mark_truncates = record {
    above = above_room m sound room stamp mark_above;
    stands = mark_stands;
    below = λ later writer on.
        let more = issues_above (next_moment m event) later room writer stamp size on (sound_after m (event ∷ []) lawful sound) mark_stands in
        (more.0, more.1, All-from_recursion (λ (w : Written). stamp < w.entry.stamp) more.0 more.2);
    timed = timed;
  }

-- ---- the calls of a truncate

marked_by : (reply : Reply) (stamp : ℕ) → marked reply ≡ Ok stamp → reply ≡ Marked stamp
marked_by (Marked other) stamp e = let same : other ≡ stamp = cc in ap Marked same
marked_by reply stamp e = absurd (cc)

-- What was called from the hold on to the truncate's call, and that call, which was answered so.
pub record HasMarked (n holder room size : ℕ) (reply : Reply) (m : Moment) (events : List Event) : Type 0 where
  pub top : ℕ
  pub more : List Event
  pub event : Event
  pub later : List Event
  pub split : events ≡ more ++ event ∷ later
  pub own : event.caller ≡ n
  pub asked : event.ask ≡ unbroken (Mark holder size top)
  pub told : event.reply ≡ reply
  pub lawful : IsLawful (moment_after m more).state (event ∷ later)
  pub sound : IsSoundAt (moment_after m more)
  pub only : HoldsOnly n holder room (moment_after m more).state
  pub stood : IsTopIn (moment_after m more) room top

-- behind a look
behind_look : (n holder room size : ℕ) (reply : Reply) (m : Moment) (first rest events : List Event) → events ≡ first ++ rest → HasMarked n holder room size reply (moment_after m first) rest → HasMarked n holder room size reply m events
behind_look n holder room size reply m first rest events is k =
    let there : moment_after m (first ++ k.more) ≡ moment_after (moment_after m first) k.more = moment-append m first k.more in
    record {
      top = k.top;
      more = first ++ k.more;
      event = k.event;
      later = k.later;
      split = is ∙ ap (λ z. first ++ z) k.split ∙ sym (append_assoc first k.more (k.event ∷ k.later));
      own = k.own;
      asked = k.asked;
      told = k.told;
      lawful = subst (λ (x : Moment). IsLawful x.state (k.event ∷ k.later)) (sym there) k.lawful;
      sound = subst IsSoundAt (sym there) k.sound;
      only = subst (λ (x : Moment). HoldsOnly n holder room x.state) (sym there) k.only;
      stood = subst (λ (x : Moment). IsTopIn x room k.top) (sym there) k.stood;
    }

-- what stood as it looked stands behind that
stood_behind : (n room top : ℕ) (m : Moment) (calls first rest events : List Event) (looking : Event) → first ≡ calls ++ looking ∷ [] → events ≡ first ++ rest → IsLawful m.state events → IsSoundAt (moment_after m calls) → IsTopIn (moment_after m calls) room top → IsTopIn (moment_after m first) room top
stood_behind n room top m calls first rest events looking is split lawful sound stood =
    let all : IsLawful m.state (calls ++ (looking ∷ [] ++ rest)) = subst (IsLawful m.state) (split ∙ ap (λ z. z ++ rest) is ∙ append_assoc calls (looking ∷ []) rest) lawful in
    let on : IsLawful (moment_after m calls).state (looking ∷ []) = legal_first (moment_after m calls) (looking ∷ []) rest (legal_rest m calls (looking ∷ [] ++ rest) all) in
    subst (λ x. IsTopIn x room top) (sym (ap (moment_after m) is ∙ moment-append m calls (looking ∷ []))) (top_later (moment_after m calls) (looking ∷ []) room top on sound stood)

-- Where it comes to this end, the truncate's call was answered so, and each listing told a stamp.
pub record ComesBy (n holder room : ℕ) (out : Result ℕ Stuck) (reply : Reply) : Type 0 where
  pub ends : (r : Reply) (m : Moment) (events : List Event) → IsLawful m.state events → Runs n (lets_go holder (marked r)) events out → r ≡ reply
  pub past : (folder : Name) (tells : List Name → Result ℕ Stuck) (next : ℕ → Tries ℕ) (r : Reply) (m : Moment) (events : List Event) → FitsCall (Look room (ListFolder folder)) r → ((names : List Name) → EndsFor IsNoStamp (tells names)) → IsLawful m.state events → Runs n (or_lets_go holder next (told_by folder tells r)) events out
      → (a : ℕ) × Runs n (next a) events out × (told_by folder tells r ≡ Ok a)

module _ (n holder room size : ℕ) (out : Result ℕ Stuck) (reply : Reply) (by : ComesBy n holder room out reply) where
  marks_so : (top : ℕ) (m : Moment) (events : List Event) → IsLawful m.state events → IsSoundAt m → HoldsOnly n holder room m.state → IsTopIn m room top → Runs n (marks size holder top) events out → HasMarked n holder room size reply m events
  marks_so top m events lawful sound only stood runs =
      let c = has_called n holder room m (Mark holder size top) (λ r. lets_go holder (marked r)) events out lawful sound only runs in
      record {
        top = top;
        more = c.before;
        event = c.event;
        later = c.later;
        split = c.split;
        own = c.own;
        asked = c.asked;
        told = by.ends c.event.reply (next_moment (moment_after m c.before) c.event) c.later c.lawful.2 c.runs;
        lawful = c.lawful;
        sound = c.sound;
        only = c.only;
        stood = top_later m c.before room top (legal_first m c.before (c.event ∷ c.later) (subst (IsLawful m.state) c.split lawful)) sound stood;
      }

  fits_look : (folder : Name) (m : Moment) (r : Reply) (after : State) → IsStep m.state n (unbroken (Look room (ListFolder folder))) r after → FitsCall (Look room (ListFolder folder)) r
  fits_look folder m r after step = step_fits m.state after n (unbroken (Look room (ListFolder folder))) r step

  truncs_so : (top : ℕ) (m : Moment) (events : List Event) → IsLawful m.state events → IsSoundAt m → HoldsOnly n holder room m.state → IsTopIn m room top → Runs n (lists_truncs size room holder top) events out → HasMarked n holder room size reply m events
  truncs_so top m events lawful sound only stood runs =
      let l = has_looked n holder room m room (ListFolder truncs) (λ r. or_lets_go holder (marks size holder) (told_by truncs (λ names. truncs_top names top) r)) events out lawful sound only runs in
      let w = by.past truncs (λ names. truncs_top names top) (marks size holder) l.reply (moment_after m l.first) l.rest (fits_look truncs (moment_after m l.calls) l.reply l.looking.after l.so) (λ names. truncs_for IsNoStamp names top) l.lawful l.runs in
      let all : IsLawful m.state (l.calls ++ (l.looking ∷ [] ++ l.rest)) = subst (IsLawful m.state) (l.split ∙ ap (λ z. z ++ l.rest) l.first_is ∙ append_assoc l.calls (l.looking ∷ []) l.rest) lawful in
      let then_so : IsTopIn (moment_after m l.calls) room top = top_later m l.calls room top (legal_first m l.calls (l.looking ∷ [] ++ l.rest) all) sound stood in
      let here : IsTopIn (moment_after m l.calls) room w.0 = truncs_told (moment_after m l.calls) l.sound_at n room l.reply l.looking.after top w.0 l.so w.2 then_so in
      behind_look n holder room size reply m l.first l.rest events l.split (marks_so w.0 (moment_after m l.first) l.rest l.lawful l.sound l.only (stood_behind n room w.0 m l.calls l.first l.rest events l.looking l.first_is l.split lawful l.sound_at here) w.1)

  pub metadata_so : (m : Moment) (events : List Event) → IsLawful m.state events → IsSoundAt m → HoldsOnly n holder room m.state → Runs n (lists_metadata size room holder) events out → HasMarked n holder room size reply m events
  metadata_so m events lawful sound only runs =
      let l = has_looked n holder room m room (ListFolder metadata) (λ r. or_lets_go holder (lists_truncs size room holder) (told_by metadata (λ names. metadata_top names 0) r)) events out lawful sound only runs in
      let w = by.past metadata (λ names. metadata_top names 0) (lists_truncs size room holder) l.reply (moment_after m l.first) l.rest (fits_look metadata (moment_after m l.calls) l.reply l.looking.after l.so) (λ names. metadata_for IsNoStamp names 0) l.lawful l.runs in
      let here : IsTopIn (moment_after m l.calls) room w.0 = metas_told (moment_after m l.calls) l.sound_at n room l.reply l.looking.after w.0 l.so w.2 in
      behind_look n holder room size reply m l.first l.rest events l.split (truncs_so w.0 (moment_after m l.first) l.rest l.lawful l.sound l.only (stood_behind n room w.0 m l.calls l.first l.rest events l.looking l.first_is l.split lawful l.sound_at here) w.1)

-- with a stamp
by_stamp : (n holder room stamp : ℕ) → ComesBy n holder room (Ok stamp) (Marked stamp)
by_stamp n holder room stamp = record {
  ends = λ r m events lawful runs. marked_by r stamp (let_go_so n holder (marked r) events stamp runs);
  past = λ folder tells next r m events fits told lawful runs. went_past n holder next (told_by folder tells r) events stamp runs;
}

-- ---- the truncate

pub truncated : (n : ℕ) (m : Moment) (name : Name) (size stamp : ℕ) (events : List Event) → IsLawful m.state events → IsSoundAt m → Runs n (truncate_program name size) events (Ok stamp) → TruncatesFile m n (alone events) name size stamp
truncated n m name size stamp events lawful sound runs =
    let h = has_held n m name (lists_metadata size) events stamp lawful sound runs in
    let k = metadata_so n h.holder h.room size (Ok stamp) (Marked stamp) (by_stamp n h.holder h.room stamp) h.now h.rest h.lawful h.sound h.only h.runs in
    let there : Moment = moment_after h.now k.more in
    let one : IsLawful there.state (k.event ∷ []) = (k.lawful.0, k.lawful.1, tt) in
    let a = answered there.state n (Mark h.holder size k.top) (unbroken (Mark h.holder size k.top)) (Marked stamp) k.event.after refl (its_step n (Mark h.holder size k.top) (Marked stamp) there.state k.event k.own k.asked k.told k.lawful.1) in
    let i = is_marked n h.holder size k.top stamp there k.sound k.event.after a in
    let holds : IsHolderOf there n h.holder h.room = (i.h, i.held, k.only i.h (is_holding n h.holder there.state.table.holders i.h i.held)) in
    record {
      top = k.top;
      change = change_of n m name (lists_metadata size) events (Ok stamp) h k.more k.event k.later;
      made = changed n m name (lists_metadata size) events (Ok stamp) (λ holder. Mark holder size k.top) (Marked stamp) h k.more k.event k.later k.split (answered_so n (Mark h.holder size k.top) (Marked stamp) k.event k.own k.asked k.told) holds;
      truncated = subst (λ (x : Moment). IsTruncated x (next_moment x k.event) h.room size stamp) (sym (h.is_now k.more)) (mark_truncates n h.holder h.room size stamp there k.sound k.event one k.only i (is_timed n h.holder h.room size k.top stamp there k.event.after a k.stood));
    }
