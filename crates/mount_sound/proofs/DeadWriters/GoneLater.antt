-- What each step leaves of the droppings of a writer that isn't live in their room: they are as they were, or the index
-- dropping was cut to the entries that have landed.
use Rattle.std.proofs.Common.{◌≡◌, ◌≤◌, ◌*◌, ℕ, List, length, take, Some, None, refl, ap, sym, ◌∙◌, ◌⊎◌, inl, inr, subst}
use Rattle.std.specs.Prelude.{slice_get}
use Rattle.container_layout.specs.declared.items.Item.TheVariants.{Index}
use Rattle.container_layout.specs.Items.{IsItem}
use Rattle.container_layout.proofs.Facts.{elsewhere}
use Rattle.store_api.specs.declared.tree.Room.{Room}
use Rattle.store_api.specs.declared.tree.Tree.{Tree}
use Rattle.store_api.specs.Step.{Step}
use Rattle.store_laws.specs.Changes.{WasCut}
use Rattle.store_laws.specs.Files.{file_at, AreTwo}
use Rattle.store_laws.specs.Tells.{Tells}
use Rattle.store_laws.proofs.Facts.{changed_room, cut_told, keeps_rooms}
use Rattle.mount_model.specs.declared.call.Ask.{Ask}
use Rattle.mount_model.specs.declared.call.Call.{Call}
use Rattle.mount_model.specs.declared.reply.Reply.{Reply}
use Rattle.mount_model.specs.Making.{Told}
use Rattle.mount_model.specs.Paths.{index_path, log_path}
use Rattle.mount_model.specs.Recovering.{mend_step}
use Rattle.mount_model.specs.State.{State, timed}
use Rattle.mount_model.specs.Step.{Answers, IsStep}
use Rattle.mount_model.specs.Stopped.{IsLeftBy}
use Rattle.mount_model.proofs.Facts.{step_cases, stop_left}
use Rattle.mount_sound.specs.Owed.{Owes}
use Rattle.mount_sound.specs.There.{landed_in}
use Rattle.mount_sound.proofs.Calls.Acting.{ActsOn, answer_acts}
use Rattle.mount_sound.proofs.Soundness.Local.{AllFit, some_room}
use Rattle.mount_sound.proofs.Moments.Steps.{untimed_owes}
use Rattle.mount_sound.proofs.DeadWriters.GoneActs.{IsGoneFrom, IsOnAnother, SparesGone, its_acts, letter, on_another}

-- The droppings are as they were, or the index dropping was cut.
pub record StayGone (host writer : ℕ) (room new : Room) : Type 0 where
  pub log : file_at new (log_path host writer) ≡ file_at room (log_path host writer)
  pub index : (file_at new (index_path host writer) ≡ file_at room (index_path host writer))
      ⊎ ((old : List ℕ) × (file_at room (index_path host writer) ≡ Some old) × (40 * landed_in room host writer ≤ length old) × (file_at new (index_path host writer) ≡ Some (take (40 * landed_in room host writer) old)))

-- so they are in the room of this number
abbrev pub StayGoneIn : Tree → ℕ → ℕ → ℕ → Room → Type 0
StayGoneIn after number host writer room = (new : Room) × (slice_get after.rooms number ≡ Some new) × StayGone host writer room new

-- ---- an answered call

module _ (old : State) (tree : Tree) (told : old.store.tree ≡ Some tree) (fit : AllFit old.table.writers) (number host writer : ℕ) (item : IsItem (Index host writer)) (caller : ℕ) where
  module _ (room : Room) (there : slice_get tree.rooms number ≡ Some room) where
    as_before : (after : Tree) → after ≡ tree → StayGoneIn after number host writer room
    as_before after same = (room, ap (λ (t : Tree). slice_get t.rooms number) same ∙ there, record { log = refl; index = inl refl })

    was_cut : (after : Tree) (c : WasCut tree number (index_path host writer) (40 * landed_in room host writer) after) → StayGoneIn after number host writer room
    was_cut after c =
        let is : c.room ≡ room = some_room c.room room (slice_get tree.rooms number) c.has_room there in
        let apart : AreTwo (log_path host writer) (index_path host writer) = λ folder file. elsewhere (letter 0 _ _ file) refl in (
          c.new,
          ap (λ (t : Tree). slice_get t.rooms number) c.gives ∙ changed_room tree number c.room c.new c.has_room,
          record {
            log = c.others.files (log_path host writer) apart ∙ ap (λ r. file_at r (log_path host writer)) is;
            index = inr (c.old, ap (λ r. file_at r (index_path host writer)) (sym is) ∙ c.there, c.within, c.now);
          },
        )

    told_left : (step : Step) (answer : Told) (after : Tree) → SparesGone tree number host writer step → Tells step tree answer after → StayGoneIn after number host writer room
    told_left step answer after spared t = elim spared.index as (λ _. StayGoneIn after number host writer room) [
      | inl named ↦
          let k = keeps_rooms step tree answer after t number room there in
          (k.0, k.1, record { log = k.2.files (log_path host writer) spared.log; index = inl (k.2.files (index_path host writer) named) })
      | inr (count, is, landed) ↦
          let cuts : Tells (mend_step number host writer count) tree answer after = subst (λ x. Tells x tree answer after) is t in
          let exactly : Tells (mend_step number host writer (landed_in room host writer)) tree answer after = subst (λ n. Tells (mend_step number host writer n) tree answer after) (landed room there) cuts in
          elim (cut_told number (index_path host writer) (40 * landed_in room host writer) tree answer after exactly).either as (λ _. StayGoneIn after number host writer room) [
            | inl c ↦ was_cut after c
            | inr same ↦ as_before after same
          ]
    ]

    -- whatever an answered call does
    answered : (call : Call) (reply : Reply) (new : State) → IsGoneFrom number writer old.table.writers → Owes old caller call → Answers old caller call reply new → (after : Tree) × (new.store.tree ≡ Some after) × StayGoneIn after number host writer room
    answered call reply new gone owes a = elim (on_another number writer old gone caller reply new call a) as (λ _. (after : Tree) × (new.store.tree ≡ Some after) × StayGoneIn after number host writer room) [
      | inr same ↦ (tree, ap (λ (x : State). x.store.tree) same ∙ told, as_before tree refl)
      | inl on ↦
          let g = answer_acts (λ c step. Owes old caller c → IsOnAnother number writer old.table.writers c → SparesGone tree number host writer step) old caller (its_acts old tree told fit number host writer item caller) call reply new tree a told in
          (g.0, g.1, left g.0 g.2 on)
    ]
      where
        left : (after : Tree) → ActsOn (λ step. Owes old caller call → IsOnAnother number writer old.table.writers call → SparesGone tree number host writer step) tree after → IsOnAnother number writer old.table.writers call → StayGoneIn after number host writer room
        left after (inl same) on = as_before after same
        left after (inr act) on = told_left act.step act.told after (act.holds owes on) act.tells

-- Each step leaves the droppings of a writer that isn't live there as they were, or cut to what has landed.
pub step_leaves_gone : (old new : State) (tree : Tree) → old.store.tree ≡ Some tree → AllFit old.table.writers → (number host writer : ℕ) → IsItem (Index host writer) → (caller : ℕ) (ask : Ask) (reply : Reply) → IsGoneFrom number writer old.table.writers → Owes old caller ask.call → IsStep old caller ask reply new
    → (room : Room) → slice_get tree.rooms number ≡ Some room → (after : Tree) × (new.store.tree ≡ Some after) × StayGoneIn after number host writer room
step_leaves_gone old new tree told fit number host writer item caller ask reply gone owes step room there = step_cases old caller ask reply new ((after : Tree) × (new.store.tree ≡ Some after) × StayGoneIn after number host writer room) step
    (λ none a. answered old tree told fit number host writer item caller room there ask.call reply new gone owes a)
    (λ k some x.
    let left : IsLeftBy old caller ask.call new = stop_left old caller k ask.call reply new x in
    elim left.short as (λ _. (after : Tree) × (new.store.tree ≡ Some after) × StayGoneIn after number host writer room) [
      | inl same ↦ (tree, left.like.tree ∙ ap (λ (s : State). s.store.tree) same ∙ told, as_before (timed None old) tree told fit number host writer item caller room there tree refl)
      | inr (r, which, a) ↦
          let g = answered (timed None old) tree told fit number host writer item caller room there ask.call r left.cut gone (untimed_owes old caller ask.call owes) a in
          (g.0, left.like.tree ∙ g.1, g.2)
    ])
