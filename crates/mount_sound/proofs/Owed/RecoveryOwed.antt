-- What is owed where a writer's metadata dropping is made, and where it is buried, lasts through each step.
use Rattle.std.proofs.Common.{◌≡◌, ◌≤◌, ◌*◌, ℕ, List, length, min, take, Some, ap, sym, ◌∙◌, inl, inr, subst, arith}
use Rattle.std.specs.Prelude.{slice_get}
use Rattle.plfs_types.specs.declared.entries.Cover.{Cover}
use Rattle.container_layout.specs.declared.items.Item.TheVariants.{Index, Meta}
use Rattle.store_api.specs.declared.tree.Room.{Room}
use Rattle.store_api.specs.declared.tree.Tree.{Tree}
use Rattle.store_api.specs.Step.{Step}
use Rattle.store_laws.specs.Files.{file_at, kept_at}
use Rattle.mount_model.specs.declared.call.Ask.{Ask}
use Rattle.mount_model.specs.declared.call.Call.{Call}
use Rattle.mount_model.specs.declared.reply.Reply.{Reply}
use Rattle.mount_model.specs.Entering.{next_id}
use Rattle.mount_model.specs.Paths.{index_path, log_path}
use Rattle.mount_model.specs.State.{State, last_id}
use Rattle.mount_model.specs.Step.{IsStep}
use Rattle.mount_model.proofs.Facts.{step_place}
use Rattle.mount_sound.specs.Dropping.{IsToldOf}
use Rattle.mount_sound.specs.Entries.{logged}
use Rattle.mount_sound.specs.Issued.{issued_after}
use Rattle.mount_sound.specs.Items.{HasItem, HasMeta}
use Rattle.mount_sound.specs.Landed.{whole}
use Rattle.mount_sound.specs.Ledger.{Written, entries_in, Ledger}
use Rattle.mount_sound.specs.Owed.{InRoom, IsNotLive, May, MayBury, MayMendMeta, StandsInRoom}
use Rattle.mount_sound.specs.Sound.{IsSoundFor}
use Rattle.mount_sound.specs.There.{landed_entries, landed_in}
use Rattle.mount_sound.proofs.Calls.Acting.{ActsOn, step_acts}
use Rattle.mount_sound.proofs.Calls.Aside.{IsAside, IsFrom, rooms_from}
use Rattle.mount_sound.proofs.Owed.DroppingOwed.{drawn_there, gone_later, in_later, index_now, landed_now, not_live_later, stay_later, whole_now}
use Rattle.mount_sound.proofs.Kept.EntriesLater.{first_more}
use Rattle.mount_sound.proofs.DeadWriters.GoneActs.{gone_anywhere}
use Rattle.mount_sound.proofs.DeadWriters.GoneLater.{StayGone}
use Rattle.mount_sound.proofs.Moments.Growing.{call_issues}
use Rattle.mount_sound.proofs.Kept.Keeping.{AreKeptIn, landed_number}
use Rattle.mount_sound.proofs.Kept.KeptLater.{step_keeps_kept}
use Rattle.mount_sound.proofs.Soundness.Local.{some_room}
use Rattle.mount_sound.proofs.Calls.Making.{its_writers, one_tree}
use Rattle.mount_sound.proofs.Holds.NewRooms.{hostdir_below, no_item}
use Rattle.mount_sound.proofs.Soundness.Orders.{take_all}
use Rattle.mount_sound.proofs.Moments.SoundLater.{IsAsideCall, its_acts}
use Rattle.mount_sound.proofs.Soundness.There.{told_in_sound}

module _ (l : Ledger) (old new : State) (other : ℕ) (ask : Ask) (reply : Reply) (may : May old other ask) (step : IsStep old other ask reply new) (s : IsSoundFor l old) (s' : IsSoundFor (issued_after l old ask.call reply) new) where
  -- ---- a metadata dropping

  module _ (number host : ℕ) (cover : Cover) (last : ℕ) (room : Room) (there : slice_get s.shape.tree.rooms number ≡ Some room) (m : MayMendMeta host cover last room) where
    few : List Written
    few = l number cover.writer

    many : List Written
    many = issued_after l old ask.call reply number cover.writer

    landed_few : landed_entries room host cover.writer ≡ take cover.count (entries_in (l number cover.writer))
    landed_few =
        let told = told_in_sound l old s number room there host cover.writer m.content m.stands in
        told ∙ ap (λ n. take n (entries_in (l number cover.writer))) (sym counted)
      where
        counted : cover.count ≡ min (whole m.content) (length (l number cover.writer))
        counted = m.all ∙ landed_number room host cover.writer (l number cover.writer) ((s.sound.rooms number room there).writers cover.writer m.stands.is_item.widths.1) (s.sound.writes number cover.writer) m.content m.stands

    issued_were : cover.count ≤ length (l number cover.writer)
    issued_were = omega (arith, m.all, landed_number room host cover.writer (l number cover.writer) ((s.sound.rooms number room there).writers cover.writer m.stands.is_item.widths.1) (s.sound.writes number cover.writer) m.content m.stands)

    are_kept : AreKeptIn s.shape.tree number host cover.writer (l number cover.writer) cover.count
    are_kept = record {
      room = room;
      there = there;
      are_kept = record {
        bytes = m.content;
        has = m.stands;
        issued_were = issued_were;
        long = omega (arith, m.exact);
        index = omega (arith, m.exact, m.index_kept);
        log = omega (arith, m.log_kept, m.told.sum, ap logged landed_few);
      };
    }

    kept_now : AreKeptIn s'.shape.tree number host cover.writer (issued_after l old ask.call reply number cover.writer) cover.count
    kept_now = step_keeps_kept l old new other ask reply (may.owes s.clean) step (its_writers l old s) s'.shape.tree s'.shape.told number host cover.writer cover.count are_kept

    first_same : take cover.count (entries_in (issued_after l old ask.call reply number cover.writer)) ≡ take cover.count (entries_in (l number cover.writer))
    first_same = first_more cover.count (l number cover.writer) (issued_after l old ask.call reply number cover.writer) (call_issues l old ask.call reply number cover.writer) issued_were

    meta_now : (now : Room) → slice_get s'.shape.tree.rooms number ≡ Some now → StayGone host cover.writer room now → MayMendMeta host cover last now
    meta_now now here g =
        let i = index_now l old new other ask reply may step s s' number host cover.writer room now there here g m.content m.stands in
        let same : i.bytes ≡ m.content = elim i.are as (λ _. i.bytes ≡ m.content) [
          | inl e ↦ e
          | inr (e, long) ↦ e ∙ take_all m.content (40 * landed_in room host cover.writer) (omega (arith, m.exact, m.all))
        ] in
        let landed : landed_entries now host cover.writer ≡ landed_entries room host cover.writer = landed_now l old new other ask reply may step s s' number host cover.writer room now there here g m.content m.stands in
        let one : kept_now.room ≡ now = some_room kept_now.room now (slice_get s'.shape.tree.rooms number) kept_now.there here in
        record {
          content = m.content;
          stands = subst (HasItem now (Index host cover.writer)) same i.stands;
          some = m.some;
          all = m.all ∙ ap length (sym landed);
          told = subst (IsToldOf last cover.bytes cover.stamp) (sym landed) m.told;
          exact = m.exact;
          index_kept = omega (arith, m.exact, kept_now.are_kept.index, ap (λ r. kept_at r (index_path host cover.writer)) one);
          log_kept = omega (arith, m.told.sum, ap logged landed_few, ap logged first_same, kept_now.are_kept.log, ap (λ r. kept_at r (log_path host cover.writer)) one);
        }

  -- What is owed where a metadata dropping is made lasts.
  pub mend_meta_lasts : (number host : ℕ) (cover : Cover) (last : ℕ) → IsNotLive old cover.writer → StandsInRoom old number (MayMendMeta host cover last) → IsNotLive new cover.writer × StandsInRoom new number (MayMendMeta host cover last)
  mend_meta_lasts number host cover last dead owed =
      let was = owed s.shape.tree s.shape.told in
      let m : MayMendMeta host cover last was.0 = was.2 in
      let g = gone_later l old new other ask reply may step s s' number host cover.writer m.stands.is_item (gone_anywhere number cover.writer old.table.writers dead) was.0 was.1 in (
        not_live_later l old new other ask reply may step s cover.writer (drawn_there l old s number was.0 was.1 host cover.writer m.content m.stands) dead,
        in_later l old new other ask reply may step s s' number (MayMendMeta host cover last) (g.0, g.1, meta_now number host cover last was.0 was.1 m g.0 g.1 g.2),
      )

  -- ---- a writer that is buried

  pub room_was : (number : ℕ) (now : Room) → slice_get s'.shape.tree.rooms number ≡ Some now → IsFrom s.shape.tree number now
  room_was number now here =
      let P : Call → Step → Type 0 = λ call x. IsAsideCall call → IsAside x in
      let g = step_acts P old new other ask reply s.shape.tree (its_acts old.table (next_id old) other) step s.shape.told in
      rooms_from (P ask.call) s.shape.tree s'.shape.tree (subst (ActsOn (P ask.call) s.shape.tree) (one_tree g.0 s'.shape.tree new.store.tree g.1 s'.shape.told) g.2) number now here

  module _ (number host writer : ℕ) (dead : IsNotLive old writer) (now : Room) (here : slice_get s'.shape.tree.rooms number ≡ Some now) where
    pub meta_stays : (room : Room) → slice_get s.shape.tree.rooms number ≡ Some room → HasMeta room host writer → HasMeta now host writer
    meta_stays room there m =
        let x = stay_later l old new other ask reply may step s s' number room (Meta m.last m.bytes m.stamp host writer) m.content there tt m.has in
        record { last = m.last; bytes = m.bytes; stamp = m.stamp; content = x.1; has = subst (λ r. HasItem r (Meta m.last m.bytes m.stamp host writer) x.1) (some_room x.0 now (slice_get s'.shape.tree.rooms number) x.2 here) x.3 }

    pub none_whole : (room : Room) → slice_get s.shape.tree.rooms number ≡ Some room → ((h : ℕ) (content : List ℕ) → HasItem room (Index h writer) content → whole content ≡ 0) → (h : ℕ) (bytes : List ℕ) → HasItem now (Index h writer) bytes → whole bytes ≡ 0
    none_whole room there none h bytes stands =
        let x = gone_later l old new other ask reply may step s s' number h writer stands.is_item (gone_anywhere number writer old.table.writers dead) room there in
        let g : StayGone h writer room now = subst (StayGone h writer room) (some_room x.0 now (slice_get s'.shape.tree.rooms number) x.1 here) x.2 in
        let had : (content : List ℕ) → file_at room (index_path h writer) ≡ Some content → whole bytes ≡ 0 = λ content e.
        let was : HasItem room (Index h writer) content = record { is_item = stands.is_item; there = e } in
        whole_now l old new other ask reply may step s s' number h writer room now there here g content was bytes stands (none h content was) in
        elim g.index as (λ _. whole bytes ≡ 0) [
          | inl same ↦ had bytes (sym same ∙ stands.there)
          | inr (content, e, long, cuts) ↦ had content e
        ]

    bury_now : InRoom old number (MayBury host writer) → MayBury host writer now
    bury_now owed = elim (room_was number now here) as (λ _. MayBury host writer now) [
      | inl (room, there) ↦ elim (owed s.shape.tree room s.shape.told there) as (λ _. MayBury host writer now) [
        | inl m ↦ inl (meta_stays room there m)
        | inr none ↦ inr (none_whole room there none)
      ]
      | inr bare ↦ inr (λ h bytes stands. absurd (no_item now (Index h writer) bytes bare (hostdir_below h) stands))
    ]

  -- What is owed where a writer is buried lasts.
  pub bury_lasts : (number host writer : ℕ) → IsNotLive old writer → writer ≤ last_id old → InRoom old number (MayBury host writer) → IsNotLive new writer × (writer ≤ last_id new) × InRoom new number (MayBury host writer)
  bury_lasts number host writer dead drawn owed = (
    not_live_later l old new other ask reply may step s writer drawn dead,
    omega (arith, drawn, (step_place old new other ask reply step).serial, (step_place old new other ask reply step).mount),
    λ tree room told there.
        let same : tree ≡ s'.shape.tree = one_tree tree s'.shape.tree new.store.tree told s'.shape.told in
        bury_now number host writer dead room (ap (λ (t : Tree). slice_get t.rooms number) (sym same) ∙ there) owed,
  )
