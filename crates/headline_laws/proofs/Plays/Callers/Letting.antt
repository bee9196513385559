-- A statement none of whose calls is on a writer lets each writer be, up to a call that is broken off.
use Rattle.std.proofs.Common.{◌≡◌, inl, inr, ℕ, true, List, [], ◌∷◌, ◌++◌, Some, None, refl, sym, ap, ◌∙◌, subst, append_assoc}
use Rattle.turn_object.specs.Callers.{made_by}
use Rattle.mount_model.specs.Process.{asks, ends, pauses, shares, tells}
use Rattle.mount_model.specs.declared.call.Ask.{Ask}
use Rattle.mount_model.specs.History.{Event}
use Rattle.mount_model.proofs.Facts.{IsOnNoWriter}
use Rattle.writer_laws.specs.Waiting.{IsOn, LeavesAlone, LetsBe}
use Rattle.actor_core.specs.Along.{IfWhole}
use Rattle.actor_core.specs.Endings.{Ending}
use Rattle.actor_core.specs.Work.{Work}
use Rattle.headline_laws.proofs.Plays.Callers.Coming.{ComesTo, GoesSo, IsOver, lets_both, lets_none, lets_one, not_on, over_gone}

-- The caller lets the writer be, or it does so up to a call that is broken off, and makes none behind it.
pub data LetsUpTo (n writer : ℕ) (mine : List Event) (ending : Ending) : Type 0 where
  lets : LetsBe n writer mine → LetsUpTo n writer mine ending
  breaks : (front : List Event) (event : Event) (later : List Event) (bytes : ℕ) → mine ≡ front ++ event ∷ later → LetsBe n writer front → event.caller ≡ n → event.ask.stop ≡ Some bytes → (IsOn writer event.ask.call → ⊥) → made_by n later ≡ [] → ending.kept.gone ≡ true → LetsUpTo n writer mine ending

module _ (n writer : ℕ) where
  -- behind events of others
  behind : (first mine : List Event) (ending : Ending) → LetsBe n writer first → LetsUpTo n writer mine ending → LetsUpTo n writer (first ++ mine) ending
  behind first mine ending one (lets other) = lets (lets_both n writer first mine one other)
  behind first mine ending one (breaks front event later bytes is other own broken off none gone) = breaks (first ++ front) event later bytes (ap (λ z. first ++ z) is ∙ sym (append_assoc first front (event ∷ later))) (lets_both n writer first front one other) own broken off none gone

  calls_no_more : (good : Ending → Type 0) (work : Work) (mine : List Event) (spent : List (List Event)) (ending : Ending) → IsOver good work → ComesTo n work mine spent ending → made_by n mine ≡ []
  calls_no_more good ends mine spent ending over comes = absurd over
  calls_no_more good (pauses work) mine spent ending over comes = absurd over
  calls_no_more good (tells end work) mine spent ending over comes = ap (made_by n) comes.0
  calls_no_more good (asks question k) mine spent ending over comes = absurd over
  calls_no_more good (shares programs k alone) mine spent ending over comes = absurd over

  pub came_up_to : (good : Ending → Type 0) (work : Work) (mine : List Event) (spent : List (List Event)) (ending : Ending) → GoesSo IsOnNoWriter good work → ComesTo n work mine spent ending → LetsUpTo n writer mine ending
  came_up_to good ends mine spent ending goes comes = absurd goes
  came_up_to good (pauses work) mine spent ending goes comes = absurd goes
  came_up_to good (tells end work) mine spent ending goes comes = lets (subst (LetsBe n writer) (sym comes.0) (lets_none n writer [] refl))
  came_up_to good (asks question k) mine spent ending goes m =
      elim question.stop as (λ o. question.stop ≡ o → IfWhole o (GoesSo IsOnNoWriter good (k m.call.reply)) (IsOver good (k m.call.reply)) → LetsUpTo n writer mine ending) [
        | None ↦ λ is whole.
            let alone : LeavesAlone writer m.call.ask = subst (LeavesAlone writer) (sym m.asked) (is, not_on question.call writer goes.0) in
            subst (λ es. LetsUpTo n writer es ending) (sym m.all)
            (behind m.before (m.call ∷ m.after) ending (lets_none n writer m.before m.none_before)
            (behind (m.call ∷ []) m.after ending (lets_one n writer m.call alone) (came_up_to good (k m.call.reply) m.after spent ending whole m.goes_on)))
        | Some bytes ↦ λ is over.
            breaks m.before m.call m.after bytes m.all (lets_none n writer m.before m.none_before) m.own (ap (λ (a : Ask). a.stop) m.asked ∙ is) (subst (λ (a : Ask). IsOn writer a.call → ⊥) (sym m.asked) (not_on question.call writer goes.0))
            (calls_no_more good (k m.call.reply) m.after spent ending over m.goes_on) (over_gone n good (k m.call.reply) m.after spent ending over m.goes_on)
      ] refl (goes.1 m.call.reply)
  came_up_to good (shares programs k alone) mine spent ending goes (inl w) =
      subst (λ es. LetsUpTo n writer es ending) (sym w.all)
      (behind w.before (w.during ++ w.after) ending (lets_none n writer w.before w.none_before)
      (behind w.during w.after ending (lets_none n writer w.during w.none_during) (came_up_to good (k w.results) w.after w.later ending (goes.0 w.results) w.goes_on)))
  came_up_to good (shares programs k alone) mine spent ending goes (inr comes) = came_up_to good alone mine spent ending goes.1 comes
