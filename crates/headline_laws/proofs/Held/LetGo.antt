-- A hold that was granted is the caller's until it lets go, or is stopped; and who lets go opens the container.
use Rattle.std.proofs.Common.{◌≡◌, ◌⊎◌, inl, inr, ℕ, List, [], ◌∷◌, ◌++◌, Some, None, Ok, Err, refl, sym, ap, ◌∙◌, subst}
use Rattle.std.specs.Prelude.{slice_get}
use mathlib.Core.Logic.{dite}
use native.Mathlib.Decide.{ℕ_discrete}
use Rattle.container_layout.specs.Paths.{openhosts}
use Rattle.store_api.specs.declared.step.Answer.TheVariants.{Made, NoRoom, Old}
use Rattle.store_api.specs.declared.store.Trouble.TheVariants as trouble
use Rattle.store_api.specs.declared.tree.Tree.{Tree}
use Rattle.store_laws.specs.Tells.{Tells}
use Rattle.store_laws.specs.There.{HoldsFolder}
use Rattle.store_laws.proofs.Facts.{acts_told, make_folder_told, slice_get-slice_set}
use Rattle.mount_model.specs.declared.call.Ask.{Ask}
use Rattle.mount_model.specs.declared.call.Call.TheVariants.{Hold, Release}
use Rattle.mount_model.specs.declared.reply.Refusal.TheVariants.{NotHolder}
use Rattle.mount_model.specs.declared.reply.Reply.TheVariants as reply
use Rattle.mount_model.specs.declared.row.Holder.{Holder}
use Rattle.mount_model.specs.Entering.{draw_check}
use Rattle.mount_model.specs.History.{Event}
use Rattle.mount_model.specs.Holding.{HoldsRoom, holding, release_outcome, release_step}
use Rattle.mount_model.specs.Making.{MakesAct, Refuses, Told}
use Rattle.mount_model.specs.Running.{unbroken}
use Rattle.mount_model.specs.State.{State, Table}
use Rattle.mount_model.specs.Step.{Answers, IsStep}
use Rattle.mount_model.specs.Stopping.{IsEndedBy, without_caller}
use Rattle.mount_model.specs.Table.{holder_at, holder_of, without_holder}
use Rattle.mount_model.proofs.Facts.{answers_keep, begun_table, held_before-ended, held_before-without_holder, holder_at-push, is_holding, match_cases, next_not_held, step_cases, step_holds}
use Rattle.mount_sound.specs.Owed.{IsLawful}
use Rattle.reader_laws.specs.Moments.{IsSoundAt, Moment, moment_after, next_moment}
use Rattle.headline_laws.specs.Refusing.{WasShut}
use Rattle.headline_laws.proofs.Held.HoldCalls.{EachOwn, IsAside}
use Rattle.headline_laws.proofs.Held.Shut.{not_both}
use Rattle.headline_laws.proofs.Makers.Holding.{holder_found, pushed, whole_answer}

-- ---- it was granted

-- the caller's row
pub record HasRow (n q room : ℕ) (state : State) : Type 0 where
  pub row : Holder
  pub found : holder_at q state.table.holders ≡ Some row
  pub owned : row.owner ≡ n
  pub of : row.room ≡ room

granted_row : (n room q : ℕ) (m : Moment) (after : State) → IsSoundAt m → Answers m.state n (Hold room) (reply.Holding q) after → HasRow n q room after
granted_row n room q m after s a = elim (match_cases (draw_check m.state room) (HoldsRoom n room m.state (reply.Holding q) after) (λ why. Refuses why m.state (reply.Holding q) after) a) as (λ _. HasRow n q room after) [
  | inr (why, some, refused) ↦ absurd (let clash : reply.Holding q ≡ reply.Refused why = refused.0 in cc)
  | inl (none, does) ↦
      let mine : Holder = holding m.state n room in
      let p = pushed mine m.state.table does.told q after.table does.outcome in
      record {
        row = mine;
        found = ap (holder_at q) p.1 ∙ ap (λ k. holder_at k (m.state.table.holders ++ mine ∷ [])) p.0 ∙ holder_at-push m.state.table.holders mine (next_not_held m.state.mount m.state.serial m.state.marks m.state.table.holders s.regular.holders);
        owned = refl;
        of = refl;
      }
]

pub has_row : (n room q : ℕ) (m : Moment) (e : Event) → IsSoundAt m → IsStep m.state e.caller e.ask e.reply e.after → e.caller ≡ n → e.ask.call ≡ Hold room → e.ask.stop ≡ None → e.reply ≡ reply.Holding q → HasRow n q room e.after
has_row n room q m e s step own asked whole told =
    granted_row n room q m e.after s (subst (λ r. Answers m.state n (Hold room) r e.after) told (subst (λ c. Answers m.state n c e.reply e.after) asked (subst (λ k. Answers m.state k e.ask.call e.reply e.after) own (whole_answer m.state e step whole))))

-- ---- it goes on

pub row_stays : (n q : ℕ) (h : Holder) (m : Moment) (events : List Event) → h.owner ≡ n → IsLawful m.state events → EachOwn n (IsAside n) events → holder_at q m.state.table.holders ≡ Some h → holder_at q (moment_after m events).state.table.holders ≡ Some h
row_stays n q h m [] owned lawful each found = found
row_stays n q h m (e ∷ events) owned lawful each found =
    row_stays n q h (next_moment m e) events owned lawful.2 (λ a x b is own. each (e ∷ a) x b (ap (λ z. e ∷ z) is) own)
    (dite (ℕ_discrete e.caller n)
    (λ own.
    let aside = each [] e events refl own in
    let keeps = answers_keep m.state e.reply e.after e.caller e.ask.call aside.1 (whole_answer m.state e lawful.1 aside.0) in
    ap (holder_at q) keeps.holders ∙ found)
    (λ other. step_holds m.state e.after e.caller e.ask e.reply q h lawful.1 found (λ own. other (sym own ∙ owned))))

-- ---- it is let go

module _ (m : Moment) (s : IsSoundAt m) (n q : ℕ) (h : Holder) (e : Event) (step : IsStep m.state e.caller e.ask e.reply e.after) (own : e.caller ≡ n) (asked : e.ask ≡ unbroken (Release q)) (found : holder_at q m.state.table.holders ≡ Some h) (owned : h.owner ≡ n) (had : e.reply ≡ reply.NoMemory → ⊥) where
  -- nobody holds by its number then, and the container can be entered, or the store failed
  pub record IsReleased : Type 0 where
    pub gone : (k : Holder) → holder_at q e.after.table.holders ≡ Some k → ⊥
    pub opened : (e.reply ≡ reply.Fault) ⊎ (WasShut (next_moment m e) h.room → ⊥)

  held_number : h.number ≡ q
  held_number = (is_holding n q m.state.table.holders h (holder_found n q m.state.table.holders h found owned)).is

  gone_so : e.after.table.holders ≡ without_holder h.number m.state.table.holders → (k : Holder) → holder_at q e.after.table.holders ≡ Some k → ⊥
  gone_so without k is = (held_before-without_holder h.number m.state.table.holders q k s.regular.holders.ascending (ap (holder_at q) (sym without) ∙ is)).0 (sym held_number)

  open_not : (after : Tree) → e.after.store.tree ≡ Some after → HoldsFolder after h.room openhosts → WasShut (next_moment m e) h.room → ⊥
  open_not after told holds shut = not_both after h.room holds (shut after told)

  module _ (table : e.after.table.holders ≡ without_holder h.number m.state.table.holders) where
    fault_so : e.reply ≡ reply.Fault → IsReleased
    fault_so is = record { gone = gone_so table; opened = inl is }

    opened_so : (after : Tree) → e.after.store.tree ≡ Some after → HoldsFolder after h.room openhosts → IsReleased
    opened_so after told holds = record { gone = gone_so table; opened = inr (open_not after told holds) }

  told_so : (told : Told) (after : Tree) → e.after.store.tree ≡ Some after → Tells (release_step h) s.shape.tree told after → e.reply ≡ (release_outcome h m.state.table told).reply → e.after.table ≡ (release_outcome h m.state.table told).table → IsReleased
  told_so (Ok Made) after is tells answered table =
      let c = (make_folder_told h.room openhosts s.shape.tree (Ok Made) after tells).done refl in
      opened_so (ap (λ (t : Table). t.holders) table) after is (record { room = c.new; has_room = ap (λ (t : Tree). slice_get t.rooms h.room) c.gives ∙ slice_get-slice_set s.shape.tree.rooms h.room c.room c.new c.has_room; there = c.now })
  told_so (Ok (Old k)) after is tells answered table =
      let st = (make_folder_told h.room openhosts s.shape.tree (Ok (Old k)) after tells).stays (Old k) refl (λ clash. cc) in
      opened_so (ap (λ (t : Table). t.holders) table) after is (subst (λ t. HoldsFolder t h.room openhosts) (sym st.0) st.1.1)
  told_so (Ok NoRoom) after is tells answered table =
      let st = (make_folder_told h.room openhosts s.shape.tree (Ok NoRoom) after tells).stays NoRoom refl (λ clash. cc) in
      let i = s.held.each q h found in
      absurd (let clash : None ≡ Some i.room = sym st.1 ∙ i.there in cc)
  told_so (Ok answer) after is tells answered table = absurd ((make_folder_told h.room openhosts s.shape.tree (Ok answer) after tells).stays answer refl (λ clash. cc)).1
  told_so (Err trouble.Fault) after is tells answered table = fault_so (ap (λ (t : Table). t.holders) table) answered
  told_so (Err trouble.NoMemory) after is tells answered table = absurd (had answered)

  pub is_released : IsReleased
  is_released = elim (match_cases (holder_of n q m.state.table.holders) (Refuses NotHolder m.state e.reply e.after) (λ x. MakesAct (release_step x) (release_outcome x m.state.table) m.state e.reply e.after) answers) as (λ _. IsReleased) [
    | inl (none, refused) ↦ absurd (let clash : None ≡ Some h = sym none ∙ mine in cc)
    | inr (x, is, does) ↦ by x (let both : Some x ≡ Some h = sym is ∙ mine in cc) does
  ]
    where
      mine : holder_of n q m.state.table.holders ≡ Some h
      mine = holder_found n q m.state.table.holders h found owned

      answers : Answers m.state n (Release q) e.reply e.after
      answers = subst (λ c. Answers m.state n c e.reply e.after) (ap (λ (a : Ask). a.call) asked) (subst (λ k. Answers m.state k e.ask.call e.reply e.after) own (whole_answer m.state e step (ap (λ (a : Ask). a.stop) asked)))

      by : (x : Holder) → x ≡ h → MakesAct (release_step x) (release_outcome x m.state.table) m.state e.reply e.after → IsReleased
      by x same does =
          let d = subst (λ (k : Holder). MakesAct (release_step k) (release_outcome k m.state.table) m.state e.reply e.after) same does in
          let t = acts_told (release_step h) m.state.store e.after.store s.shape.tree d.told s.shape.told d.made in
          told_so d.told t.0 t.1 t.2 d.answered (ap (λ (x : State). x.table) d.after)

-- ---- its caller is stopped

pub stopped_row : (m : Moment) (n q : ℕ) (h : Holder) (e : Event) (bytes : ℕ) → IsSoundAt m → IsStep m.state e.caller e.ask e.reply e.after → e.caller ≡ n → e.ask.stop ≡ Some bytes → (e.reply ≡ reply.NoMemory → ⊥) → h.owner ≡ n → holder_at q e.after.table.holders ≡ Some h → ⊥
stopped_row m n q h e bytes s step own broken had owned found = step_cases m.state e.caller e.ask e.reply e.after ⊥ step
    (λ none a. let clash : None ≡ Some bytes = sym none ∙ broken in cc)
    (λ k some x. by x.told _ (begun_table m.state e.ask.call) x.after)
  where
    out : (at : State) → at.table ≡ m.state.table → e.after.table ≡ without_caller e.caller at.table → ⊥
    out at same is =
        (held_before-ended e.caller m.state.table.holders q h s.regular.holders.ascending (subst (λ (t : Table). holder_at q t.holders ≡ Some h) (is ∙ ap (without_caller e.caller) same) found)).1 (owned ∙ sym own)

    by : (told : Told) (at : State) → at.table ≡ m.state.table → IsEndedBy told e.reply at e.caller e.after → ⊥
    by (Err trouble.NoMemory) at same i = had i.0
    by (Err trouble.Fault) at same i = out at same (ap (λ (x : State). x.table) i.1)
    by (Ok answer) at same i = out at same (ap (λ (x : State). x.table) i.1)
