-- What is owed of droppings and of writers that aren't live lasts through each step.
use Rattle.std.proofs.Common.{◌≡◌, ◌≤◌, ◌*◌, ℕ, List, length, take, Bool, true, false, Some, refl, ap, sym, ◌∙◌, ◌⊎◌, inl, inr, subst, arith}
use Rattle.std.specs.Prelude.{slice_get}
use Rattle.std.proofs.lemmas.List.{length-take-le}
use Rattle.container_layout.specs.declared.items.Item.{Item}
use Rattle.container_layout.specs.declared.items.Item.TheVariants.{Index, Log}
use Rattle.container_layout.specs.Items.{IsItem}
use Rattle.store_api.specs.declared.tree.Room.{Room}
use Rattle.store_api.specs.declared.tree.Tree.{Tree}
use Rattle.store_laws.specs.Files.{file_at}
use Rattle.mount_model.specs.declared.call.Ask.{Ask}
use Rattle.mount_model.specs.declared.reply.Reply.{Reply}
use Rattle.mount_model.specs.Paths.{index_path}
use Rattle.mount_model.specs.State.{State, last_id}
use Rattle.mount_model.specs.Step.{IsStep}
use Rattle.mount_model.proofs.Facts.{step_stays_dead}
use Rattle.mount_sound.specs.Marks.{IsMarksRoom}
use Rattle.mount_sound.proofs.Shapes.Facts.{item_drawn}
use Rattle.mount_sound.specs.Dropping.{bytes_of, log_bytes}
use Rattle.mount_sound.specs.Growing.{ItemsStay, Stays}
use Rattle.mount_sound.specs.Issued.{issued_after}
use Rattle.mount_sound.specs.Items.{HasItem}
use Rattle.mount_sound.specs.Landed.{whole}
use Rattle.mount_sound.specs.Ledger.{Ledger}
use Rattle.mount_sound.specs.Owed.{HasDropping, IsNotLive, May, MayMend, StandsInRoom}
use Rattle.mount_sound.specs.Sound.{IsSoundFor}
use Rattle.mount_sound.specs.There.{entries_there, landed_entries, landed_in}
use Rattle.mount_sound.proofs.DeadWriters.GoneActs.{IsGoneFrom, gone_anywhere}
use Rattle.mount_sound.proofs.DeadWriters.GoneLater.{StayGone, StayGoneIn, step_leaves_gone}
use Rattle.mount_sound.proofs.Moments.Growing.{call_issues}
use Rattle.mount_sound.proofs.Moments.LandedLater.{landed_from}
use Rattle.mount_sound.proofs.Soundness.Local.{some_room}
use Rattle.mount_sound.proofs.Calls.Making.{all_fit, one_tree}
use Rattle.mount_sound.proofs.Moments.Mounting.{mark_folder_apart}
use Rattle.mount_sound.proofs.Soundness.Orders.{take_all}
use Rattle.mount_sound.proofs.Moments.SoundLater.{step_keeps}
use Rattle.mount_sound.proofs.Moments.Staying.{at_least, step_stays}

-- ---- what a step leaves of a dropping

-- a writer whose index dropping stands in a room has an id that was drawn
pub drawn_there : (l : Ledger) (state : State) (s : IsSoundFor l state) (number : ℕ) (room : Room) → slice_get s.shape.tree.rooms number ≡ Some room → (host writer : ℕ) (content : List ℕ) → HasItem room (Index host writer) content → writer ≤ last_id state
drawn_there l state s number room there host writer content h = (item_drawn state s.shape.tree number room (Index host writer) content s.shape s.shape.told there apart h.is_item h.there).1
  where
    no_mark : (r : Room) → IsMarksRoom r → file_at r (index_path host writer) ≡ Some content → ⊥
    no_mark r m e = let f = m.files (index_path host writer) content e in mark_folder_apart (Index host writer) (ap (λ p. p.folder) f.3)

    apart : number ≡ state.marks → ⊥
    apart same =
        let one : room ≡ s.shape.marks = some_room room s.shape.marks (slice_get s.shape.tree.rooms state.marks) (ap (λ n. slice_get s.shape.tree.rooms n) (sym same) ∙ there) s.shape.has_marks in
        no_mark s.shape.marks s.shape.is_marks (ap (λ r. file_at r (index_path host writer)) (sym one) ∙ h.there)

module _ (l : Ledger) (old new : State) (other : ℕ) (ask : Ask) (reply : Reply) (may : May old other ask) (step : IsStep old other ask reply new) (s : IsSoundFor l old) where
  pub later : IsSoundFor (issued_after l old ask.call reply) new
  later = step_keeps l old new other ask reply may step s

  -- what holds of a room of the later tree holds as the store tells it
  pub in_later : (s' : IsSoundFor (issued_after l old ask.call reply) new) (number : ℕ) (holds : Room → Type 0) → (now : Room) × (slice_get s'.shape.tree.rooms number ≡ Some now) × holds now → StandsInRoom new number holds
  in_later s' number holds p tree told = subst (λ (t : Tree). (now : Room) × (slice_get t.rooms number ≡ Some now) × holds now) (one_tree s'.shape.tree tree new.store.tree s'.shape.told told) p

  pub stay_later : (s' : IsSoundFor (issued_after l old ask.call reply) new) → ItemsStay s.shape.tree s'.shape.tree
  stay_later s' = let g = step_stays l old s other new ask reply (may.owes s.clean) step in subst (ItemsStay s.shape.tree) (one_tree g.0 s'.shape.tree new.store.tree g.1 s'.shape.told) g.2

  pub item_later : (item : Item) → Stays item → (number : ℕ) → StandsInRoom old number (λ room. (content : List ℕ) × HasItem room item content) → StandsInRoom new number (λ room. (content : List ℕ) × HasItem room item content)
  item_later item stays number owed =
      let was = owed s.shape.tree s.shape.told in
      let x = stay_later later number was.0 item was.2.0 was.1 stays was.2.1 in
      in_later later number (λ room. (content : List ℕ) × HasItem room item content) (x.0, x.2, (x.1, x.3))

  -- What is owed of a dropping that is synced lasts.
  pub sync_dropping_lasts : (room host writer : ℕ) (is_log : Bool) → StandsInRoom old room (HasDropping host writer is_log) → StandsInRoom new room (HasDropping host writer is_log)
  sync_dropping_lasts room host writer true owed = item_later (Log host writer) tt room owed
  sync_dropping_lasts room host writer false owed = item_later (Index host writer) tt room owed

  -- ---- of a writer that isn't live

  pub not_live_later : (writer : ℕ) → writer ≤ last_id old → IsNotLive old writer → IsNotLive new writer
  not_live_later writer drawn dead = step_stays_dead old new other ask reply writer step (λ same. omega (arith, drawn, same)) dead

  pub gone_later : (s' : IsSoundFor (issued_after l old ask.call reply) new) (number host writer : ℕ) → IsItem (Index host writer) → IsGoneFrom number writer old.table.writers → (room : Room) → slice_get s.shape.tree.rooms number ≡ Some room → StayGoneIn s'.shape.tree number host writer room
  gone_later s' number host writer item gone room there =
      let g = step_leaves_gone old new s.shape.tree s.shape.told (all_fit old s.regular) number host writer item other ask reply gone (may.owes s.clean) step room there in
      subst (λ t. StayGoneIn t number host writer room) (one_tree g.0 s'.shape.tree new.store.tree g.1 s'.shape.told) g.2

  module _ (s' : IsSoundFor (issued_after l old ask.call reply) new) (number host writer : ℕ) (room now : Room) (there : slice_get s.shape.tree.rooms number ≡ Some room) (here : slice_get s'.shape.tree.rooms number ≡ Some now) (g : StayGone host writer room now) (content : List ℕ) (h : HasItem room (Index host writer) content) where
    -- the bytes that its index dropping has then
    pub record IndexNow : Type 0 where
      pub bytes : List ℕ
      pub stands : HasItem now (Index host writer) bytes
      pub are : (bytes ≡ content) ⊎ ((bytes ≡ take (40 * landed_in room host writer) content) × (40 * landed_in room host writer ≤ length content))

    pub index_now : IndexNow
    index_now = elim g.index as (λ _. IndexNow) [
      | inl same ↦ record { bytes = content; stands = record { is_item = h.is_item; there = same ∙ h.there }; are = inl refl }
      | inr (old_bytes, was, long, cuts) ↦
          let both : Some old_bytes ≡ Some content = sym was ∙ h.there in
          let one : old_bytes ≡ content = cc in
          record {
            bytes = take (40 * landed_in room host writer) content;
            stands = record { is_item = h.is_item; there = cuts ∙ ap (λ b. Some (take (40 * landed_in room host writer) b)) one };
            are = inr (refl, omega (arith, long, ap length one));
          }
    ]

    by_cut : (bytes : List ℕ) → HasItem now (Index host writer) bytes → length bytes ≡ 40 * landed_in room host writer → landed_entries now host writer ≡ landed_entries room host writer
    by_cut bytes stands exact =
        let from = landed_from l (issued_after l old ask.call reply) old new s s' number room now there here host writer content bytes h stands (call_issues l old ask.call reply number writer) (omega (arith, exact)) in
        let few : landed_in now host writer ≤ landed_in room host writer = omega (arith, at_least now (Index host writer) bytes stands, exact) in
        sym (take_all (landed_entries now host writer) (landed_in room host writer) few) ∙ from.1

    -- The entries that have landed are the same.
    pub landed_now : landed_entries now host writer ≡ landed_entries room host writer
    landed_now = elim g.index as (λ _. landed_entries now host writer ≡ landed_entries room host writer) [
      | inl same ↦ ap (λ f. entries_there (bytes_of f) (log_bytes now host writer)) same ∙ ap (λ f. entries_there (bytes_of (file_at room (index_path host writer))) (bytes_of f)) g.log
      | inr (old_bytes, was, long, cuts) ↦ by_cut (take (40 * landed_in room host writer) old_bytes) (record { is_item = h.is_item; there = cuts }) (length-take-le (40 * landed_in room host writer) old_bytes long)
    ]

    -- it has no more whole entries
    pub whole_now : (bytes : List ℕ) → HasItem now (Index host writer) bytes → whole content ≡ 0 → whole bytes ≡ 0
    whole_now bytes stands none =
        let i : IndexNow = index_now in
        let both : Some bytes ≡ Some i.bytes = sym stands.there ∙ i.stands.there in
        let one : bytes ≡ i.bytes = cc in
        elim i.are as (λ _. whole bytes ≡ 0) [
          | inl same ↦ ap whole (one ∙ same) ∙ none
          | inr (is, long) ↦ omega (arith, none, ap length (one ∙ is), length-take-le (40 * landed_in room host writer) content long)
        ]

  -- What is owed where an index dropping is mended lasts.
  pub mend_lasts : (room host writer count : ℕ) → IsNotLive old writer → StandsInRoom old room (MayMend host writer count) → IsNotLive new writer × StandsInRoom new room (MayMend host writer count)
  mend_lasts number host writer count dead owed =
      let was = owed s.shape.tree s.shape.told in
      let m : MayMend host writer count was.0 = was.2 in
      let g = gone_later later number host writer m.stands.is_item (gone_anywhere number writer old.table.writers dead) was.0 was.1 in
      let i = index_now later number host writer was.0 g.0 was.1 g.1 g.2 m.content m.stands in (
        not_live_later writer (drawn_there l old s number was.0 was.1 host writer m.content m.stands) dead,
        in_later later number (MayMend host writer count) (
          g.0,
          g.1,
          record { content = i.bytes; stands = i.stands; landed = m.landed ∙ ap length (sym (landed_now later number host writer was.0 g.0 was.1 g.1 g.2 m.content m.stands)) },
        ),
      )
