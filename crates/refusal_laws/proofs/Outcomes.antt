-- What a call was told that is refused behind its checks: mostly that there is no such room.
use Rattle.std.proofs.Common.{◌≡◌, ℕ, Option, Some, None, Ok, Err, refl, sym, ap, ◌∙◌, inl, inr, subst}
use Rattle.store_api.specs.declared.step.Answer.TheVariants.{NoFolder, NoRoom}
use Rattle.store_api.specs.declared.store.Trouble.TheVariants.{Fault, NoMemory}
use Rattle.store_api.specs.declared.tree.Tree.{Tree}
use Rattle.store_api.specs.Step.{Step}
use Rattle.store_laws.specs.Tells.{Tells}
use Rattle.store_laws.specs.There.{LacksRoom}
use Rattle.store_laws.proofs.Facts.{acts_told}
use Rattle.mount_model.specs.declared.reply.Refusal.{Refusal}
use Rattle.mount_model.specs.declared.reply.Refusal.TheVariants as refusal
use Rattle.mount_model.specs.declared.reply.Reply.TheVariants.{Refused}
use Rattle.mount_model.specs.Making.{CallOutcome, MakesAct, Told, UnlessRefused, Refuses, otherwise}
use Rattle.mount_model.specs.Paths.{Name}
use Rattle.mount_model.specs.State.{State}
use Rattle.mount_model.proofs.Facts.{match_cases}

-- a refusal for this reason is this reason
pub same_why : (why other : Refusal) → Refused why ≡ Refused other → why ≡ other
same_why why other e = cc

pub otherwise_refused : (folder file : Name) (told : Told) (why : Refusal) → Refused why ≡ otherwise folder file told → (told ≡ Ok NoRoom) × (why ≡ refusal.NoRoom)
otherwise_refused folder file (Ok NoRoom) why e = (refl, same_why why refusal.NoRoom e)
otherwise_refused folder file (Ok NoFolder) why e = absurd (cc)
otherwise_refused folder file (Ok answer) why e = absurd (cc)
otherwise_refused folder file (Err Fault) why e = absurd (cc)
otherwise_refused folder file (Err NoMemory) why e = absurd (cc)

-- such a call is refused only where it was told that there is no such room
abbrev pub IsPlain : (Told → CallOutcome) → Type 0
IsPlain outcome = (told : Told) (why : Refusal) → Refused why ≡ (outcome told).reply → (told ≡ Ok NoRoom) × (why ≡ refusal.NoRoom)

pub act_lacks : (step : Step) (outcome : Told → CallOutcome) (from new : State) (why : Refusal) (tree : Tree) (room : ℕ) → from.store.tree ≡ Some tree → IsPlain outcome → ((after : Tree) → Tells step tree (Ok NoRoom) after → LacksRoom tree room) → MakesAct step outcome from (Refused why) new → (why ≡ refusal.NoRoom) × LacksRoom tree room
act_lacks step outcome from new why tree room is plain lacks m =
    let t = acts_told step from.store new.store tree m.told is m.made in
    let p = plain m.told why m.answered in
    (p.1, lacks t.0 (subst (λ told. Tells step tree told t.0) p.0 t.2))

-- a call is refused by its check, or behind it
pub by_check : (check : Option Refusal) (old new : State) (why : Refusal) (does R : Type 0) → UnlessRefused check old (Refused why) new does → (check ≡ Some why → R) → (check ≡ None → does → R) → R
by_check check old new why does R on checked passed = elim (match_cases check does (λ other. Refuses other old (Refused why) new) on) as (λ _. R) [
  | inl (none, made) ↦ passed none made
  | inr (other, some, refused) ↦ checked (some ∙ ap Some (sym (same_why why other refused.0)))
]

-- the tree that a store tells is one
pub one_told : (tree other : Tree) (o : Option Tree) → o ≡ Some tree → o ≡ Some other → tree ≡ other
one_told tree other o p q = cc
