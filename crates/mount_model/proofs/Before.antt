-- What another caller holds and flattens after a step it held and flattened before it.
use Rattle.std.proofs.Common.{◌≡◌, ℕ, [], ◌∷◌, ◌++◌, Some, ap, ◌∙◌, subst, inl, inr}
use Rattle.mount_model.specs.declared.call.Ask.{Ask}
use Rattle.mount_model.specs.declared.call.Call.{Call}
use Rattle.mount_model.specs.declared.call.Call.TheVariants.{Hold, Release, StartFlat, PutFlat, SyncFlat, InstallFlat, StartPack}
use Rattle.mount_model.specs.declared.reply.Reply.{Reply}
use Rattle.mount_model.specs.declared.row.Flattening.{Flattening}
use Rattle.mount_model.specs.declared.row.Making.{Making}
use Rattle.mount_model.specs.declared.row.Making.TheVariants as making
use Rattle.mount_model.specs.declared.row.FlatStage.TheVariants.{Put, Synced}
use Rattle.mount_model.specs.declared.row.Holder.{Holder}
use Rattle.mount_model.specs.Flattening.{begun_flat}
use Rattle.mount_model.specs.Holding.{holding}
use Rattle.mount_model.specs.Regular.{IsRegular}
use Rattle.mount_model.specs.State.{State, Table}
use Rattle.mount_model.specs.Step.{IsStep}
use Rattle.mount_model.specs.Stopping.{begun, without_caller}
use Rattle.mount_model.specs.Table.{holder_at, flattening_at}
use Rattle.mount_model.proofs.Deciding.{step_cases}
use Rattle.mount_model.proofs.Holders.{held_before-ended, held_before-push, held_before-without_holder, found_before-ended, found_before-push, found_before-with_flattening, found_before-without_flattening}
use Rattle.mount_model.proofs.Holding.{FlatteningsMade, HoldersMade, TurnsHolders, answers_turn, by_end}
use Rattle.mount_model.proofs.Stopping.{begun_table}

module _ (old : State) (caller : ℕ) (after : Table) (r : IsRegular old) where
  made_held : (call : Call) (q : ℕ) (h : Holder) → HoldersMade old caller call after → holder_at q after.holders ≡ Some h → (h.owner ≡ caller → ⊥) → holder_at q old.table.holders ≡ Some h
  made_held (Hold room) q h e found other = elim (held_before-push old.table.holders (holding old caller room) q h (subst (λ hs. holder_at q hs ≡ Some h) e found)) as (λ _. holder_at q old.table.holders ≡ Some h) [
    | inl was ↦ was
    | inr is ↦ absurd (other (ap (λ (x : Holder). x.owner) is.1))
  ]
  made_held (Release number) q h (mine, is, e) found other = (held_before-without_holder mine.number old.table.holders q h r.holders.ascending (subst (λ hs. holder_at q hs ≡ Some h) e found)).1
  made_held call q h e found other = absurd e

  begun_before : (room : ℕ) (makes : Making) (q : ℕ) (f : Flattening) → after.flattenings ≡ old.table.flattenings ++ begun_flat old caller room makes ∷ [] → flattening_at q after.flattenings ≡ Some f → (f.owner ≡ caller → ⊥)
      → flattening_at q old.table.flattenings ≡ Some f
  begun_before room makes q f e found other = elim (found_before-push old.table.flattenings (begun_flat old caller room makes) q f (subst (λ fs. flattening_at q fs ≡ Some f) e found)) as (λ _. flattening_at q old.table.flattenings ≡ Some f) [
    | inl was ↦ was
    | inr is ↦ absurd (other (ap (λ (x : Flattening). x.owner) is.1))
  ]

  made_flattened : (call : Call) (q : ℕ) (f : Flattening) → FlatteningsMade old caller call after → flattening_at q after.flattenings ≡ Some f → (f.owner ≡ caller → ⊥) → flattening_at q old.table.flattenings ≡ Some f
  made_flattened (StartFlat room) q f e found other = begun_before room making.Flat q f e found other
  made_flattened (PutFlat flat bytes) q f (mine, is, e) found other =
      elim (found_before-with_flattening (record mine { stage = Put }) old.table.flattenings q f (subst (λ fs. flattening_at q fs ≡ Some f) e found)) as (λ _. flattening_at q old.table.flattenings ≡ Some f) [
        | inl was ↦ was.1
        | inr its ↦ absurd (other (ap (λ (x : Flattening). x.owner) its.1 ∙ is.owned))
      ]
  made_flattened (SyncFlat flat) q f (mine, is, e) found other =
      elim (found_before-with_flattening (record mine { stage = Synced }) old.table.flattenings q f (subst (λ fs. flattening_at q fs ≡ Some f) e found)) as (λ _. flattening_at q old.table.flattenings ≡ Some f) [
        | inl was ↦ was.1
        | inr its ↦ absurd (other (ap (λ (x : Flattening). x.owner) its.1 ∙ is.owned))
      ]
  made_flattened (InstallFlat flat) q f (mine, is, e) found other = (found_before-without_flattening mine.id old.table.flattenings q f r.flattenings.ascending (subst (λ fs. flattening_at q fs ≡ Some f) e found)).1
  made_flattened (StartPack room host writer) q f e found other = begun_before room (making.Pack host writer) q f e found other
  made_flattened call q f e found other = absurd e

  turned_held : (call : Call) (q : ℕ) (h : Holder) → TurnsHolders old caller call after → holder_at q after.holders ≡ Some h → (h.owner ≡ caller → ⊥) → holder_at q old.table.holders ≡ Some h
  turned_held call q h t found other = elim t.holders as (λ _. holder_at q old.table.holders ≡ Some h) [
    | inl e ↦ subst (λ hs. holder_at q hs ≡ Some h) e found
    | inr made ↦ made_held call q h made found other
  ]

  turned_flattened : (call : Call) (q : ℕ) (f : Flattening) → TurnsHolders old caller call after → flattening_at q after.flattenings ≡ Some f → (f.owner ≡ caller → ⊥) → flattening_at q old.table.flattenings ≡ Some f
  turned_flattened call q f t found other = elim t.flattenings as (λ _. flattening_at q old.table.flattenings ≡ Some f) [
    | inl e ↦ subst (λ fs. flattening_at q fs ≡ Some f) e found
    | inr made ↦ made_flattened call q f made found other
  ]

-- Who holds a room after another's step held it before.
pub step_held : (old new : State) (caller : ℕ) (ask : Ask) (reply : Reply) (q : ℕ) (h : Holder) → IsRegular old → IsStep old caller ask reply new
    → holder_at q new.table.holders ≡ Some h → (h.owner ≡ caller → ⊥) → holder_at q old.table.holders ≡ Some h
step_held old new caller ask reply q h r s found other = step_cases old caller ask reply new (holder_at q old.table.holders ≡ Some h) s
    (λ whole a. turned_held old caller new.table r ask.call q h (answers_turn old caller ask.call reply new a) found other)
    (λ k some x.
    let same : (begun old ask.call).table ≡ old.table = begun_table old ask.call in
    by_end (λ t. holder_at q t.holders ≡ Some h → holder_at q old.table.holders ≡ Some h) x.told reply _ caller new x.after
    (λ e. subst (λ (t : Table). holder_at q t.holders ≡ Some h) same e)
    (λ e. (held_before-ended caller old.table.holders q h r.holders.ascending (subst (λ (t : Table). holder_at q (without_caller caller t).holders ≡ Some h) same e)).0) found)

-- A flattening that is found after another's step was there before, as it is.
pub step_flattened : (old new : State) (caller : ℕ) (ask : Ask) (reply : Reply) (q : ℕ) (f : Flattening) → IsRegular old → IsStep old caller ask reply new
    → flattening_at q new.table.flattenings ≡ Some f → (f.owner ≡ caller → ⊥) → flattening_at q old.table.flattenings ≡ Some f
step_flattened old new caller ask reply q f r s found other = step_cases old caller ask reply new (flattening_at q old.table.flattenings ≡ Some f) s
    (λ whole a. turned_flattened old caller new.table r ask.call q f (answers_turn old caller ask.call reply new a) found other)
    (λ k some x.
    let same : (begun old ask.call).table ≡ old.table = begun_table old ask.call in
    by_end (λ t. flattening_at q t.flattenings ≡ Some f → flattening_at q old.table.flattenings ≡ Some f) x.told reply _ caller new x.after
    (λ e. subst (λ (t : Table). flattening_at q t.flattenings ≡ Some f) same e)
    (λ e. (found_before-ended caller old.table.flattenings q f r.flattenings.ascending (subst (λ (t : Table). flattening_at q (without_caller caller t).flattenings ≡ Some f) same e)).0) found)
