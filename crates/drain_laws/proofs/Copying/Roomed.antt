-- The rooms that a drain makes at its target, or finds there.
use Rattle.std.proofs.Common.{◌≡◌, ℕ, zero, suc, List, [], ◌∷◌, ◌++◌, length, Option, Some, None, refl, ap, sym, ◌∙◌, ◌⊎◌, inl, inr, subst}
use Rattle.std.specs.Prelude.{Ok, Err, slice_get}
use Rattle.std.proofs.lemmas.Bool.{cases_eq}
use Rattle.store_api.specs.declared.step.Answer.{Answer}
use Rattle.store_api.specs.declared.step.Answer.TheVariants.{Number, Old}
use Rattle.store_api.specs.declared.store.Trouble.TheVariants.{Fault, NoMemory}
use Rattle.store_api.specs.declared.tree.Room.{Room}
use Rattle.store_api.specs.declared.tree.Tree.{Tree}
use Rattle.store_api.specs.Step.{make_room}
use Rattle.store_laws.specs.Tells.{Tells}
use Rattle.store_laws.specs.There.{IsFree}
use Rattle.store_laws.proofs.Facts.{added_room, earlier_room, make_room_told}
use Rattle.mount_model.specs.Paths.{Name}
use Rattle.mount_sound.proofs.Facts.{IsBare, made_bare}
use Rattle.mount_model.specs.Making.{Told}
use Rattle.drain_copy.specs.Telling.{folder_alone, or_damaged, roomed, told_well}
use Rattle.drain_sound.specs.Steps.{IsNamedRoom}

pub added_or_was : (rooms : List Room) (new room : Room) (n : ℕ) → slice_get (rooms ++ new ∷ []) n ≡ Some room → (slice_get rooms n ≡ Some room) ⊎ (room ≡ new)
added_or_was [] new room zero e = inr (cc)
added_or_was [] new room (suc n) e = absurd (cc)
added_or_was (r ∷ rooms) new room zero e = inl e
added_or_was (r ∷ rooms) new room (suc n) e = added_or_was rooms new room n e

some_number : (a b : ℕ) → Some a ≡ Some b → a ≡ b
some_number a b e = cc

-- the room that an answer told, made or there
pub data Roomed (t after : Tree) (name : Name) (folders files : List Name) (n : ℕ) : Type 0 where
  came : (new : Room) → IsNamedRoom after n name new → IsFree t name → IsBare new → ((k : ℕ) (r : Room) → slice_get t.rooms k ≡ Some r → slice_get after.rooms k ≡ Some r) → ((k : ℕ) (r : Room) → slice_get after.rooms k ≡ Some r → (slice_get t.rooms k ≡ Some r) ⊎ (r ≡ new)) → Roomed t after name folders files n
  stood : (room : Room) → IsNamedRoom t n name room → after ≡ t → Roomed t after name folders files n

pub room_told : (t after : Tree) (name : Name) (folders files : List Name) (answer : Answer) (n : ℕ) → Tells (make_room name folders files) t (Ok answer) after → roomed answer ≡ Some n → Roomed t after name folders files n
room_told t after name folders files (Number k) n tells e = elim (cases_eq k (length t.rooms)) as (λ _. Roomed t after name folders files n) [
  | inl last ↦
      let c = (make_room_told name folders files t (Ok (Number k)) after tells).done (ap (λ x. Ok (Number x)) last) in
      let here : slice_get after.rooms (length t.rooms) ≡ Some c.new = ap (λ (x : Tree). slice_get x.rooms (length t.rooms)) c.gives ∙ added_room t c.new in
      let is : length t.rooms ≡ n = sym last ∙ some_number k n e in
      subst (Roomed t after name folders files) is (came c.new (record { there = here; named = c.named }) c.free (made_bare t name folders files after c)
      (λ j r there. ap (λ (x : Tree). slice_get x.rooms j) c.gives ∙ earlier_room t j r c.new there)
      (λ j r there. added_or_was t.rooms c.new r j (sym (ap (λ (x : Tree). slice_get x.rooms j) c.gives) ∙ there)))
  | inr other ↦ absurd ((make_room_told name folders files t (Ok (Number k)) after tells).stays (Number k) refl (λ same. other (cc))).1
]
room_told t after name folders files (Old k) n tells e =
    let s = (make_room_told name folders files t (Ok (Old k)) after tells).stays (Old k) refl (λ same. cc) in
    subst (Roomed t after name folders files) (some_number k n e) (stood s.1.room (record { there = s.1.has_room; named = s.1.named }) s.0)
room_told t after name folders files answer n tells e = absurd (cc)

-- so is the one of an answer that is taken for good
undamaged : {X : Type 0} (o : Option X) (x : X) → or_damaged (folder_alone []) o ≡ Ok x → o ≡ Some x
undamaged None x e = absurd (cc)
undamaged (Some y) x e = let same : y ≡ x = cc in ap (λ z. Some z) same

pub room_there : (t after : Tree) (name : Name) (folders files : List Name) (told : Told) (n : ℕ) → Tells (make_room name folders files) t told after → told_well (folder_alone []) roomed told ≡ Ok n → Roomed t after name folders files n
room_there t after name folders files (Ok answer) n tells e = room_told t after name folders files answer n tells (undamaged (roomed answer) n e)
room_there t after name folders files (Err Fault) n tells e = absurd (cc)
room_there t after name folders files (Err NoMemory) n tells e = absurd (cc)
