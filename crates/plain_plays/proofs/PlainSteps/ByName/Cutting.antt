-- A truncate is a step of a plain machine, where nobody else calls.
use Rattle.std.proofs.Common.{◌≡◌, ◌≤◌, ◌<◌, ◌+◌, ℕ, true, false, nat_le, nat_lt, List, [], ◌∷◌, ◌++◌, Option, Some, None, Result, Ok, Err, refl, sym, ap, ◌∙◌, inl, inr, subst, arith}
use Rattle.std.specs.Prelude.{slice_get}
use Rattle.plfs_types.specs.declared.entries.Trunc.{Trunc}
use Rattle.plfs_types.specs.declared.limits.TheConstants.{MAX_SIZE, MAX_STAMP}
use Rattle.plfs_types.specs.declared.names.Path.{Path}
use Rattle.plfs_types.specs.Stamps.{next_stamp}
use Rattle.plain_file.proofs.Facts.{Among}
use Rattle.container_layout.specs.declared.items.Item.TheVariants as item
use Rattle.container_layout.specs.Paths.{path_of}
use Rattle.container_layout.specs.Items.{IsItem}
use Rattle.edge_io.specs.Clock.{Ticks}
use Rattle.script_lang.specs.declared.line.Outcome.{Outcome}
use Rattle.script_lang.specs.declared.line.Outcome.TheVariants.{Refused as Refusing, Truncated}
use Rattle.script_lang.specs.declared.line.Why.TheVariants as why
use Rattle.script_lang.specs.declared.script.ActorDecl.{ActorDecl}
use Rattle.script_lang.specs.declared.script.Statement.TheVariants.{Trunc as TruncOf}
use Rattle.store_api.specs.declared.tree.Room.{Room as RoomThere}
use Rattle.store_laws.specs.Changes.{Created, with_room as tree_with}
use Rattle.store_laws.specs.Files.{file_at}
use Rattle.store_laws.proofs.Facts.{acts_told, create_told, has_folder_same}
use Rattle.mount_model.specs.declared.call.Ask.{Ask}
use Rattle.mount_model.specs.declared.call.Call.TheVariants.{Look, Mark}
use Rattle.mount_model.specs.declared.call.Look.TheVariants.{List as ListFolder}
use Rattle.mount_model.specs.declared.reply.Refusal.{Refusal}
use Rattle.mount_model.specs.declared.reply.Refusal.TheVariants as refusal
use Rattle.mount_model.specs.declared.reply.Reply.TheVariants.{Marked, Refused}
use Rattle.mount_model.specs.declared.row.Holder.{Holder}
use Rattle.mount_model.specs.History.{Event}
use Rattle.mount_model.specs.Holding.{TruncatesAt, truncate_check, truncate_stamp, truncate_step}
use Rattle.mount_model.specs.Making.{Refuses, UnlessRefused}
use Rattle.mount_model.specs.Paths.{Name, metadata, trunc_path, truncs}
use Rattle.container_layout.specs.Paths.{openhosts}
use Rattle.mount_model.specs.State.{State, Table}
use Rattle.mount_model.specs.Step.{Answers}
use Rattle.mount_model.specs.Table.{holder_of}
use Rattle.mount_model.proofs.Facts.{match_cases}
use Rattle.mount_sound.specs.Owed.{InRoom, IsLawful, IsTop, May}
use Rattle.mount_model.specs.declared.stuck.Stuck.{Stuck}
use Rattle.mount_model.specs.declared.stuck.Stuck.TheVariants as stuck
use Rattle.mount_model.specs.FlowListed.{told_by}
use Rattle.mount_model.specs.FlowReplies.{failure, given, room_in}
use Rattle.mount_model.specs.Running.{Runs, unbroken}
use Rattle.reader_laws.specs.GatheringListing.{AreTruncsAt}
use Rattle.reader_laws.specs.Moments.{IsSoundAt, Moment, moment_after, next_moment}
use Rattle.outcomes.specs.Outcomes.{truncate_outcome as said_of}
use Rattle.trunc_rename.specs.Holding.{holds, lets_go, or_lets_go}
use Rattle.trunc_rename.specs.Tops.{metadata_top, truncs_top}
use Rattle.trunc_rename.specs.Truncating.{lists_metadata, lists_truncs, marked, marks, truncate_program}
use Rattle.writer_flow.specs.declared.handle.WriterHandle.{WriterHandle}
use Rattle.plain_machine.specs.Machine.{Plain, PlainActor, PlainRoom}
use Rattle.plain_machine.specs.Becoming.{drawn, with_room}
use Rattle.plain_machine.specs.ByName.{Holds, cut_to}
use Rattle.plain_machine.specs.Cases.{IsRefused, When}
use Rattle.plain_machine.specs.Landed.{top_of}
use Rattle.plain_machine.specs.Statements.{Takes}
use Rattle.mount_model.specs.History.{AreBy}
use Rattle.plain_plays.specs.Mirrors.{Mirrors, MirrorsRoom, room_told}
use Rattle.plain_plays.specs.Served.{GoesWell}
use Rattle.plain_plays.specs.Stepping.{HasActor, TakesStep}
use Rattle.plain_plays.specs.Tops.{IsReached}
use Rattle.plain_plays.proofs.PlainSteps.Entering.{IsContainerAt}
use Rattle.plain_plays.proofs.PlainSteps.Reaching.{ended, over_alone}
use Rattle.plain_plays.proofs.PlainSteps.Steps.Alone.{First, first_call}
use Rattle.plain_plays.proofs.PlainSteps.Steps.Floors.{below_last}
use Rattle.plain_plays.proofs.PlainSteps.ByName.Found.{finds, no_room, on_room, step_later}
use Rattle.plain_plays.proofs.PlainSteps.ByName.Greatest.{greatest_is_top}
use Rattle.plain_plays.proofs.PlainSteps.ByName.Holding.{HasToItself, table_kept}
use Rattle.plain_plays.proofs.PlainSteps.ByName.Holds.{holding_takes}
use Rattle.plain_plays.proofs.PlainSteps.Steps.Keeping.{unless, when}
use Rattle.plain_plays.proofs.PlainSteps.ByName.LetGo.{HasDone, ends_with, folder_files, plain_room}
use Rattle.plain_plays.proofs.PlainSteps.ByName.Listed.{AreListed, folder_names, metas_known, truncs_known}
use Rattle.plain_plays.proofs.PlainSteps.ByName.Looking.{IsAlike, IsSight, alike_both, alike_same, changes_nothing, event_alike, handle_alike}
use Rattle.plain_plays.proofs.PlainSteps.Steps.Rooms.{set_here, set_there}
use Rattle.plain_plays.proofs.PlainSteps.ByName.Turning.{Turns, all_kept, had_now, room_so, truncs_kept, turns_both, turns_none, turns_so}
use Rattle.plain_plays.proofs.PlainSteps.Truncating.{metas_known as metas_reach_it, one_step, truncs_known as truncs_reach_it}
use Rattle.plain_plays.proofs.PlainSteps.ByName.Marking.{check_none, check_why, marked_told, metas_tell, new_item, truncs_tell}
use Rattle.plain_plays.proofs.PlainSteps.ByName.MoreTruncs.{more_truncs, not_droppings}

-- what the machine does with the room, where it has it to itself
abbrev Cuts : ℕ → ℕ → PlainRoom → Outcome → Plain → Plain → Type 0
Cuts size number room outcome new q =
    When (nat_lt MAX_SIZE size) (IsRefused outcome why.TooFar q new)
    (When (nat_le MAX_STAMP (top_of room)) (IsRefused outcome why.StampsSpent q new)
    ((time : ℕ) × (left : Option (List ℕ)) × Ticks q.times left time
    × (let stamp = next_stamp time (top_of room) (top_of room) in
    (outcome ≡ Truncated stamp) × (new ≡ with_room number (cut_to stamp size room) (record q { times = left })))))

abbrev says : ℕ → Outcome
says stamp = Truncated stamp

module _ (m : Moment) (me : ℕ) (p : Plain) (actor : PlainActor) (handle : Option WriterHandle) (declared : ActorDecl) (name : Name) (size : ℕ) (o : Mirrors m p) (has : HasActor m me p handle actor) (n : ℕ) (room : PlainRoom) (there : slice_get p.rooms n ≡ Some room) (had : IsContainerAt n m)
    (holder : ℕ) (x : Moment) (h : HasToItself me n holder m x) (shows : MirrorsRoom m n h.old room) (takes_on : (outcome : Outcome) (q : Plain) → Cuts size n room outcome q (drawn p) → Takes me declared actor p (TruncOf name size) outcome q) (free : room.is_held ≡ false) (out : Result ℕ Stuck) where
  abbrev Does : Moment → Type 0
  Does last = TakesStep m me declared actor p (TruncOf name size) (said_of out) last handle

  -- at a moment that is alike
  module _ (y : Moment) (alike : IsAlike x y) (sound : IsSoundAt y) where
    turned : Turns n h.new h.new x y
    turned = turns_none n h.new x y h.turns.now alike.tree (record { issued = alike.issued; writers = ap (λ (t : Table). t.writers) alike.table; marks = alike.marks; mount = alike.mount; drawn = let e = alike.serial in omega (arith, e) })

    turned_all : Turns n h.old h.new m y
    turned_all = turns_both n h.old h.new h.new m x y h.turns turned

    files_same : (path : Path) → file_at h.new path ≡ file_at h.old path
    files_same = folder_files h.old h.new openhosts h.same

    had_then : IsContainerAt n y
    had_then = had_now n h.old h.new m y turned_all item.Access (files_same (path_of item.Access)) had

    -- the room, as the machine has it, but held
    shows_then : MirrorsRoom y n h.new (plain_room room.name true room.truncs room.writers)
    shows_then = room_so n h.old h.new m y turned_all (all_kept h.old h.new files_same) room room.name true room.truncs shows (h.same.name ∙ shows.name) h.shut (truncs_kept n h.old h.new m y turned_all files_same room.truncs shows.truncs)

    holds_then : holder_of me holder y.state.table.holders ≡ Some h.h
    holds_then = ap (λ (t : Table). holder_of me holder t.holders) alike.table ∙ h.holds

    in_tree : slice_get sound.shape.tree.rooms n ≡ Some h.new
    in_tree = sym (ap (λ t. room_told t n) sound.shape.told) ∙ turned.now

    -- ---- the mark

    module _ (top : ℕ) (reached : IsReached n top y) (events : List Event) (lawful : IsLawful y.state events) (well : GoesWell me events) (by : AreBy me events) (runs : Runs me (marks size holder top) events out) where
      abbrev Call3 : First y me (Mark holder size top) (λ reply. lets_go holder (marked reply)) events out
      Call3 = first_call y me (Mark holder size top) (λ reply. lets_go holder (marked reply)) events out sound lawful well by runs

      abbrev After : Moment
      After = next_moment y Call3.event

      may : May y.state me (unbroken (Mark holder size top))
      may = subst (λ a. May y.state me a) Call3.asked (subst (λ k. May y.state k Call3.event.ask) Call3.own Call3.whole.0)

      top_is : top ≡ top_of room
      top_is = greatest_is_top y sound n h.new turned.now (plain_room room.name true room.truncs room.writers) shows_then top
          (record { above = subst (λ k. InRoom y.state k (λ r. IsTop r top)) h.room_is (may.owes sound.clean h.h holds_then); reached = reached })

      -- it is refused, and the room is let go as it was
      refused_so : (reason : Refusal) → Call3.event.reply ≡ Refused reason → Call3.event.after ≡ y.state → (outcome : Outcome) → said_of (Err (stuck.Refused reason)) ≡ outcome → Cuts size n room outcome (drawn p) (drawn p) → Does (moment_after y events)
      refused_so reason told same outcome said cuts =
          let turns : Turns n h.new h.new y After = turns_none n h.new y After turned.now (ap (λ (s : State). s.store.tree) same) (table_kept y Call3.event (Mark holder size top) Call3.asked refl (ap (λ (s : State). s.table.writers) same) (ap (λ (s : State). s.marks) same) (ap (λ (s : State). s.mount) same) (let e = ap (λ (s : State). s.serial) same in omega (arith, e))) in
          let d : HasDone n h.new h.new x After = record { turns = turns_both n h.new h.new h.new x y After turned turns; folder = refl; holders = ap (λ (s : State). s.table.holders) same ∙ ap (λ (t : Table). t.holders) alike.table; serial = ap (λ (s : State). s.serial) same ∙ alike.serial } in
          subst Does Call3.ends
          (ends_with says m me p actor handle declared (TruncOf name size) o has n room there holder x h shows After Call3.sound h.new d (all_kept h.new h.new (λ path. refl)) Call3.rest (Err (stuck.Refused reason)) out Call3.whole.2 Call3.well Call3.by (subst (λ r. Runs me (lets_go holder (marked r)) Call3.rest out) told Call3.runs)
          outcome (drawn p) room.name room.truncs said (h.same.name ∙ shows.name) (λ last final all kept final_files. truncs_kept n h.old final m last all (λ path. kept path refl) room.truncs shows.truncs)
          (there ∙ ap (λ b. Some (plain_room room.name b room.truncs room.writers)) free) (λ j other. refl) refl
          (ap (λ (s : State). s.times) same ∙ alike.times ∙ h.times ∙ o.times) refl (ap (λ k. k + 1) o.serial) (takes_on outcome (drawn p) cuts))

      -- the truncate is made
      module _ (stamp : ℕ) (told : Call3.event.reply ≡ Marked stamp) where
        abbrev At : Holder → Type 0
        At g = TruncatesAt g size top y.state (Marked stamp) Call3.event.after

        -- the call was made on the caller's hold
        record OnIt : Type 0 where
          g : Holder
          here : g.room ≡ n
          far : nat_lt MAX_SIZE size ≡ false
          left : nat_le MAX_STAMP top ≡ false
          does : At g

        on_it : OnIt
        on_it =
            let a = subst (λ r. Answers y.state me (Mark holder size top) r Call3.event.after) told Call3.answers in
            elim (match_cases (holder_of me holder y.state.table.holders) (Refuses refusal.NotHolder y.state (Marked stamp) Call3.event.after) (λ g. UnlessRefused (truncate_check size top) y.state (Marked stamp) Call3.event.after (At g)) a) as (λ _. OnIt) [
              | inl (none, refused) ↦ absurd (let e : Marked stamp ≡ Refused refusal.NotHolder = refused.0 in cc)
              | inr (g, some, d) ↦ elim (match_cases (truncate_check size top) (At g) (λ reason. Refuses reason y.state (Marked stamp) Call3.event.after) d) as (λ _. OnIt) [
                | inr (reason, check, refused) ↦ absurd (let e : Marked stamp ≡ Refused reason = refused.0 in cc)
                | inl (none, does) ↦
                    let one : g ≡ h.h = (let both : Some g ≡ Some h.h = sym some ∙ holds_then in cc) in
                    let c = check_none size top none in
                    record { g = g; here = ap (λ (k : Holder). k.room) one ∙ h.room_is; far = c.0; left = c.1; does = does }
              ]
            ]

        marked_so : Does (moment_after y events)
        marked_so =
            let i = on_it in
            let acts = i.does.makes in
            let told_so = marked_told (truncate_stamp i.does.time top) size y.state.table acts.told stamp acts.answered in
            let at : ℕ = truncate_stamp i.does.time top in
            let t = acts_told (truncate_step i.g at size) y.state.store Call3.event.after.store sound.shape.tree acts.told sound.shape.told acts.made in
            let c : Created sound.shape.tree i.g.room (trunc_path at size) t.0 = (create_told i.g.room (trunc_path at size) sound.shape.tree acts.told t.0 t.2).done told_so.0 in
            let was : slice_get sound.shape.tree.rooms n ≡ Some c.room = ap (λ k. slice_get sound.shape.tree.rooms k) (sym i.here) ∙ c.has_room in
            let one : c.room ≡ h.new = (let both : Some c.room ≡ Some h.new = sym was ∙ in_tree in cc) in
            let table : Call3.event.after.table ≡ y.state.table = ap (λ (s : State). s.table) acts.after ∙ told_so.2 in
            let serial : Call3.event.after.serial ≡ y.state.serial = ap (λ (s : State). s.serial) acts.after in
            let turns : Turns n h.new c.new y After = turns_so n h.new c.new y After sound.shape.tree t.0 sound.shape.told t.1 in_tree (c.gives ∙ ap (λ k. tree_with sound.shape.tree k c.new) i.here)
            (table_kept y Call3.event (Mark holder size top) Call3.asked refl (ap (λ (k : Table). k.writers) table) (ap (λ (s : State). s.marks) acts.after) (ap (λ (s : State). s.mount) acts.after) (omega (arith, serial))) in
            let others : (other : Path) → (other.folder ≡ truncs → other.file ≡ (trunc_path at size).file → ⊥) → file_at c.new other ≡ file_at h.new other = λ other two. c.others.files other two ∙ ap (λ r. file_at r other) one in
            let d : HasDone n h.new c.new x After = record {
              turns = turns_both n h.new h.new c.new x y After turned turns;
              folder = has_folder_same h.new c.new openhosts (c.others.folders ∙ ap (λ (r : RoomThere). r.folders) one);
              holders = ap (λ (k : Table). k.holders) table ∙ ap (λ (k : Table). k.holders) alike.table;
              serial = serial ∙ alike.serial;
            } in
            let near : nat_lt MAX_SIZE size ≡ false = i.far in
            let some_left : nat_le MAX_STAMP top ≡ false = i.left in
            let item_new : IsItem (item.Trunc at size) = new_item i.does.time top size some_left near in
            let stamp_is : stamp ≡ next_stamp i.does.time (top_of room) (top_of room) = told_so.1 ∙ ap (λ k. next_stamp i.does.time k k) top_is in
            let q : Plain = with_room n (cut_to stamp size room) (record (drawn p) { times = i.does.times }) in
            let ticks : Ticks (drawn p).times i.does.times i.does.time = subst (λ ts. Ticks ts i.does.times i.does.time) (alike.times ∙ h.times ∙ o.times) i.does.ticks in
            let not_spent : nat_le MAX_STAMP (top_of room) ≡ false = ap (nat_le MAX_STAMP) (sym top_is) ∙ some_left in
            subst Does Call3.ends
            (ends_with says m me p actor handle declared (TruncOf name size) o has n room there holder x h shows After Call3.sound c.new d (not_droppings at size h.new c.new others) Call3.rest (Ok stamp) out Call3.whole.2 Call3.well Call3.by (subst (λ r. Runs me (lets_go holder (marked r)) Call3.rest out) told Call3.runs)
            (Truncated stamp) q room.name (room.truncs ++ record { stamp = stamp; size = size } ∷ []) refl (c.others.name ∙ ap (λ (r : RoomThere). r.name) one ∙ h.same.name ∙ shows.name)
            (λ last final all kept final_files.
            subst (λ k. AreTruncsAt last n (room.truncs ++ record { stamp = k; size = size } ∷ [])) (sym told_so.1)
            (more_truncs m n h.old room shows at size top (top_below top_is) (above i.does.time top) item_new last final all (final_files (trunc_path at size) ∙ c.now) (λ other two. kept other (others other two))))
            (set_here p.rooms n room (cut_to stamp size room) there ∙ ap (λ b. Some (plain_room room.name b (room.truncs ++ record { stamp = stamp; size = size } ∷ []) room.writers)) free)
            (λ j other. set_there p.rooms n j (cut_to stamp size room) other) refl (ap (λ (s : State). s.times) acts.after) refl (ap (λ k. k + 1) o.serial)
            (takes_on (Truncated stamp) q (unless (nat_lt MAX_SIZE size) _ _ near (unless (nat_le MAX_STAMP (top_of room)) _ _ not_spent (i.does.time, i.does.times, ticks, (ap Truncated stamp_is, ap (λ k. with_room n (cut_to k size room) (record (drawn p) { times = i.does.times })) stamp_is))))))
          where
            above : (time k : ℕ) → k < truncate_stamp time k
            above time k = omega arith

            top_below : top ≡ top_of room → (t : Trunc) → Among t room.truncs → t.stamp ≤ top
            top_below is t a = let l = below_last room.truncs t a in omega (arith, is, l)

      marks_take : Does (moment_after y events)
      marks_take = elim Call3.served as (λ _. Does (moment_after y events)) [
        | inl (stamp, told) ↦ marked_so stamp told
        | inr (reason, told, because) ↦ elim because as (λ _. Does (moment_after y events)) [
          | inl lost ↦ absurd (let clash : Some h.h ≡ None = sym holds_then ∙ lost.1 in cc)
          | inr check ↦
              let same : Call3.event.after ≡ y.state = unchanged reason check (subst (λ r. Answers y.state me (Mark holder size top) r Call3.event.after) told Call3.answers) in
              elim (check_why size top reason check) as (λ _. Does (moment_after y events)) [
                | inl (far, is) ↦ refused_so reason told same (Refusing why.TooFar) (ap (λ k. said_of (Err (stuck.Refused k))) is) (when (nat_lt MAX_SIZE size) _ _ far (refl, refl))
                | inr (near, spent, is) ↦ refused_so reason told same (Refusing why.StampsSpent) (ap (λ k. said_of (Err (stuck.Refused k))) is) (unless (nat_lt MAX_SIZE size) _ _ near (when (nat_le MAX_STAMP (top_of room)) _ _ (ap (nat_le MAX_STAMP) (sym top_is) ∙ spent) (refl, refl)))
              ]
        ]
      ]
        where
          unchanged : (reason : Refusal) → truncate_check size top ≡ Some reason → Answers y.state me (Mark holder size top) (Refused reason) Call3.event.after → Call3.event.after ≡ y.state
          unchanged reason check a = elim (match_cases (holder_of me holder y.state.table.holders) (Refuses refusal.NotHolder y.state (Refused reason) Call3.event.after) (λ g. UnlessRefused (truncate_check size top) y.state (Refused reason) Call3.event.after (TruncatesAt g size top y.state (Refused reason) Call3.event.after)) a) as (λ _. Call3.event.after ≡ y.state) [
            | inl (none, refused) ↦ refused.1
            | inr (g, some, d) ↦ elim (match_cases (truncate_check size top) (TruncatesAt g size top y.state (Refused reason) Call3.event.after) (λ k. Refuses k y.state (Refused reason) Call3.event.after) d) as (λ _. Call3.event.after ≡ y.state) [
              | inr (k, is, refused) ↦ refused.1
              | inl (none, does) ↦ absurd (let clash : None ≡ Some reason = sym none ∙ check in cc)
            ]
          ]

    -- ---- the listings

    module _ (least : ℕ) (reached : IsReached n least y) (events : List Event) (lawful : IsLawful y.state events) (well : GoesWell me events) (by : AreBy me events) (runs : Runs me (lists_truncs size n holder least) events out) where
      abbrev Call2 : First y me (Look n (ListFolder truncs)) (λ reply. or_lets_go holder (marks size holder) (told_by truncs (λ names. truncs_top names least) reply)) events out
      Call2 = first_call y me (Look n (ListFolder truncs)) (λ reply. or_lets_go holder (marks size holder) (told_by truncs (λ names. truncs_top names least) reply)) events out sound lawful well by runs

      abbrev Then : Moment
      Then = next_moment y Call2.event

      listed : AreListed sound.shape.tree n truncs Call2.event.reply
      listed = folder_names y sound n had_then me truncs (λ r c. c.has_truncs) Call2.event.reply Call2.event.after Call2.answers Call2.served

      alike_then : IsAlike x Then
      alike_then = alike_both x y Then alike (event_alike y sound Call2.event (Call2.whole.0, Call2.whole.1, tt) (ap (λ (a : Ask). a.stop) Call2.asked) (subst (λ (a : Ask). IsSight a.call) (sym Call2.asked) tt))

  truncs_take : (y : Moment) (alike : IsAlike x y) (sound : IsSoundAt y) (least : ℕ) (reached : IsReached n least y) (events : List Event) (lawful : IsLawful y.state events) (well : GoesWell me events) (by : AreBy me events) (runs : Runs me (lists_truncs size n holder least) events out) → Does (moment_after y events)
  truncs_take y alike sound least reached events lawful well by runs =
      let c = Call2 y alike sound least reached events lawful well by runs in
      let l = listed y alike sound least reached events lawful well by runs in
      let then_moment : Moment = next_moment y c.event in
      let top = truncs_tell l.names least (truncs_known l) in
      let told : told_by truncs (λ names. truncs_top names least) c.event.reply ≡ Ok top.0 = ap (told_by truncs (λ names. truncs_top names least)) l.told ∙ top.1 in
      let now : IsReached n top.0 y = truncs_reach_it y sound me n l.names least top.0 c.event.after (subst (λ r. Answers y.state me (Look n (ListFolder truncs)) r c.event.after) l.told c.answers) top.1 reached in
      subst Does c.ends (marks_take then_moment (alike_then y alike sound least reached events lawful well by runs) c.sound top.0 (one_step n top.0 y c.event c.rest sound c.whole now) c.rest c.whole.2 c.well c.by
      (subst (λ r. Runs me (or_lets_go holder (marks size holder) r) c.rest out) told c.runs))

  metas_take : (sound : IsSoundAt x) (events : List Event) → IsLawful x.state events → GoesWell me events → AreBy me events → Runs me (lists_metadata size n holder) events out → Does (moment_after x events)
  metas_take sound events lawful well by runs =
      let same : IsAlike x x = alike_same x in
      let c = first_call x me (Look n (ListFolder metadata)) (λ reply. or_lets_go holder (lists_truncs size n holder) (told_by metadata (λ names. metadata_top names 0) reply)) events out sound lawful well by runs in
      let then_moment : Moment = next_moment x c.event in
      let l = folder_names x sound n (had_then x same sound) me metadata (λ r k. k.has_metadata) c.event.reply c.event.after c.answers c.served in
      let top = metas_tell l.names 0 (metas_known l) in
      let told : told_by metadata (λ names. metadata_top names 0) c.event.reply ≡ Ok top.0 = ap (told_by metadata (λ names. metadata_top names 0)) l.told ∙ top.1 in
      let now : IsReached n top.0 x = metas_reach_it x sound me n l.names top.0 c.event.after (subst (λ r. Answers x.state me (Look n (ListFolder metadata)) r c.event.after) l.told c.answers) top.1 in
      let alike : IsAlike x then_moment = event_alike x sound c.event (c.whole.0, c.whole.1, tt) (ap (λ (a : Ask). a.stop) c.asked) (subst (λ (a : Ask). IsSight a.call) (sym c.asked) tt) in
      subst Does c.ends (truncs_take then_moment alike c.sound top.0 (one_step n top.0 x c.event c.rest sound c.whole now) c.rest c.whole.2 c.well c.by (subst (λ r. Runs me (or_lets_go holder (lists_truncs size n holder) r) c.rest out) told c.runs))

-- A truncate ends as the machine's does.
pub truncate_takes : (m : Moment) (me : ℕ) (p : Plain) (handle : Option WriterHandle) (actor : PlainActor) (declared : ActorDecl) (name : Name) (size : ℕ) (events : List Event) (out : Result ℕ Stuck) → IsLawful m.state events → GoesWell me events → AreBy me events → Mirrors m p → HasActor m me p handle actor → Runs me (truncate_program name size) events out
    → TakesStep m me declared actor p (TruncOf name size) (said_of out) (moment_after m events) handle
truncate_takes m me p handle actor declared name size events out lawful well by o has runs =
    elim (finds m me p o name (λ reply. given (room_in reply) (failure reply) (λ room. holds room (lists_metadata size room))) events out lawful well by runs) as (λ _. TakesStep m me declared actor p (TruncOf name size) (said_of out) (moment_after m events) handle) [
      | inr (g, alike, none) ↦
          let missing : Err (stuck.Refused refusal.NoRoom) ≡ out = ended me (Err (stuck.Refused refusal.NoRoom)) g.rest out g.runs in
          let same : g.mid ≡ moment_after m events = ap (moment_after g.mid) (sym (over_alone me (Err (stuck.Refused refusal.NoRoom)) g.rest out g.by g.runs)) ∙ g.ends in
          subst (λ last. TakesStep m me declared actor p (TruncOf name size) (said_of out) last handle) same
          (changes_nothing m g.mid alike g.sound me declared p actor (TruncOf name size) (said_of out) handle o has (no_room p name (said_of out) p (λ number room. Holds p room (said_of out) p (Cuts size number room (said_of out) p)) none (ap said_of (sym missing), refl)))
      | inl (n, g, f) ↦
          let has_then : HasActor g.mid me p handle actor = record { there = has.there; its_own = handle_alike m g.mid f.alike g.sound p me handle actor.writer has.its_own } in
          let takes_on : (outcome : Outcome) (q : Plain) → Holds p f.room outcome q (Cuts size n f.room outcome q) → Takes me declared actor p (TruncOf name size) outcome q = λ outcome q does. on_room p name outcome q (λ number room. Holds p room outcome q (Cuts size number room outcome q)) n f.room f.is f.there does in
          subst (λ last. TakesStep m me declared actor p (TruncOf name size) (said_of out) last handle) g.ends
          (step_later m g.mid (moment_after g.mid g.rest) me declared actor p (TruncOf name size) (said_of out) handle f.alike g.sound
          (holding_takes says g.mid me p actor handle declared (TruncOf name size) f.mirrors has_then n f.room f.there f.old f.at f.has f.had (λ outcome q. Cuts size n f.room outcome q) takes_on (lists_metadata size n) g.rest out g.lawful g.well g.by g.runs
          (λ holder x sound h one next_takes free none rest lawful_then well_then by_then runs_then.
          metas_take g.mid me p actor handle declared name size f.mirrors has_then n f.room f.there f.had holder x h (subst (λ y. MirrorsRoom g.mid n y f.room) (sym one) f.has) next_takes free out sound rest lawful_then well_then by_then runs_then)))
    ]
