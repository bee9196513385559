-- What a caller knows of a container that it holds, whatever others do meanwhile.
use Rattle.std.proofs.Common.{◌≡◌, ℕ, Option, Some, max, ap, sym, ◌∙◌, subst, inl, inr}
use Rattle.std.specs.Prelude.{◌≢◌, slice_get}
use Rattle.container_layout.specs.declared.items.Item.TheVariants.{Trunc}
use Rattle.store_api.specs.declared.tree.Room.{Room}
use Rattle.store_api.specs.declared.tree.Tree.{Tree}
use Rattle.store_api.specs.Acts.{Stored}
use Rattle.mount_model.specs.Running.{unbroken}
use Rattle.mount_model.specs.declared.call.Ask.{Ask}
use Rattle.mount_model.specs.declared.call.Call.TheVariants.{Mark}
use Rattle.mount_model.specs.declared.reply.Reply.{Reply}
use Rattle.mount_model.specs.declared.row.Holder.{Holder}
use Rattle.mount_model.specs.State.{State}
use Rattle.mount_model.specs.Step.{IsStep}
use Rattle.mount_model.proofs.Facts.{IsHolding, step_held, step_place}
use Rattle.mount_sound.specs.Held.{IsHeldIn}
use Rattle.mount_sound.specs.Items.{HasItem}
use Rattle.mount_sound.specs.Owed.{May, Owes, InRoom}
use Rattle.mount_sound.specs.Sound.{IsClean, IsFine, IsSound}
use Rattle.mount_sound.proofs.Facts.{may_last, step_fine, step_stays}
use Rattle.recovery_laws.proofs.Holds.Safety.{LastsOne}
use Rattle.recovery_laws.proofs.Holds.Greatest.{Stands}

-- The state is fine, and a hold of this number that the caller has is of this room.
pub record Waits (caller room holder : ℕ) (state : State) : Type 0 where
  pub fine : IsFine state
  pub holds : (h : Holder) → IsHolding caller holder state.table.holders h → h.room ≡ room

-- The same, and no entry of the room has a stamp above this top, or above that of a truncate that stands there.
pub record Bounded (caller room holder top : ℕ) (state : State) : Type 0 where
  pub waits : Waits caller room holder state
  pub known : IsClean state → (last : ℕ) × Owes state caller (Mark holder 0 (max top last))
      × ((h : Holder) → IsHolding caller holder state.table.holders h → InRoom state h.room (Stands last))

was_clean : (old new : State) (caller : ℕ) (ask : Ask) (reply : Reply) → IsStep old caller ask reply new → IsClean new → IsClean old
was_clean old new caller ask reply step clean = (clean.0, ap (λ (x : Stored). x.tree) (sym (step_place old new caller ask reply step).opened) ∙ clean.1, clean.2)

pub one_tree : (a b : Tree) (o : Option Tree) → o ≡ Some a → o ≡ Some b → a ≡ b
one_tree a b o p q = cc

pub one_room : (a b : Room) (o : Option Room) → o ≡ Some a → o ≡ Some b → a ≡ b
one_room a b o p q = cc

-- a hold that another caller's step left was there
held_before : (caller holder : ℕ) (old new : State) (other : ℕ) (asked : Ask) (reply : Reply) → other ≢ caller → IsFine old → IsStep old other asked reply new → (h : Holder) → IsHolding caller holder new.table.holders h → IsHolding caller holder old.table.holders h
held_before caller holder old new other asked reply differ fine step h is = record {
  found = step_held old new other asked reply holder h fine.regular step is.found (λ own. differ (sym own ∙ is.owned));
  is = is.is;
  owned = is.owned;
}

pub waits_lasts : (caller room holder : ℕ) → LastsOne caller (Waits caller room holder)
waits_lasts caller room holder old new other asked reply differ may step w = record {
  fine = step_fine old new other asked reply may.1 step w.fine;
  holds = λ h is. w.holds h (held_before caller holder old new other asked reply differ w.fine step h is);
}

pub bounded_lasts : (caller room holder top : ℕ) → LastsOne caller (Bounded caller room holder top)
bounded_lasts caller room holder top old new other asked reply differ may step b = record {
  waits = waits_lasts caller room holder old new other asked reply differ may step b.waits;
  known = λ clean.
      let was : IsClean old = was_clean old new other asked reply step clean in
      let k = b.known was in
      let s : IsSound old = b.waits.fine.sound was in
      let mine : May old caller (unbroken (Mark holder 0 (max top k.0))) = record { numbers = tt; owes = λ _. k.1 } in
      let later : May new caller (unbroken (Mark holder 0 (max top k.0))) = may_last old new caller other (unbroken (Mark holder 0 (max top k.0))) asked reply differ b.waits.fine mine may.1 step in (
        k.0,
        later.owes clean,
        λ h is tree now told here.
            let stood : IsHolding caller holder old.table.holders h = held_before caller holder old new other asked reply differ b.waits.fine step h is in
            let i : IsHeldIn s.1.shape.tree h = s.1.held.each holder h stood.found in
            elim (k.2 h stood s.1.shape.tree i.room s.1.shape.told i.there) as (λ _. Stands k.0 now) [
              | inl none ↦ inl none
              | inr t ↦ (let g = step_stays s.0 old s.1 other new asked reply (may.1.owes was) step in
                  let trees : g.0 ≡ tree = one_tree g.0 tree new.store.tree g.1 told in
                  let x = g.2 h.room i.room (Trunc k.0 t.0) t.1 i.there tt t.2 in
                  let rooms : x.0 ≡ now = one_room x.0 now (slice_get tree.rooms h.room) (ap (λ (y : Tree). slice_get y.rooms h.room) (sym trees) ∙ x.2) here in
                  inr (t.0, x.1, subst (λ r. HasItem r (Trunc k.0 t.0) x.1) rooms x.3))
            ],
      );
}
