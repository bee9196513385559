-- Histories of calls.
use Rattle.std.specs.Prelude.{◌≡◌, ℕ, List, [], ◌∷◌, Option}
use Rattle.std.specs.List.{AllByRecursion}
use Rattle.store_api.specs.declared.tree.Tree.{Tree}
use Rattle.turn_object.specs.declared.history.Entry as turn
use Rattle.turn_object.specs.History as history
use Rattle.mount_model.specs.declared.call.Ask.{Ask}
use Rattle.mount_model.specs.declared.reply.Reply.{Reply}
use Rattle.mount_model.specs.State.{State}
use Rattle.mount_model.specs.Step.{IsStep}

-- one call: who made it, what was asked and answered, and the state after it
abbrev pub Event : Type 0
Event = turn.Entry Ask Reply State

-- each event is a step from the state before it
abbrev pub IsLegal : State → List Event → Type 0
IsLegal start [] = Unit {0}
IsLegal start (event ∷ events) = IsStep start event.caller event.ask event.reply event.after × IsLegal event.after events

-- the state after the events
abbrev pub state_after : State → List Event → State
state_after start events = history.state_after start events

-- the tree that the store tells after them
abbrev pub told_tree_after : State → List Event → Option Tree
told_tree_after start events = (state_after start events).store.tree

-- all of them are this caller's: nobody else calls
abbrev pub AreBy : ℕ → List Event → Type 0
AreBy caller events = AllByRecursion (λ (event : Event). event.caller ≡ caller) events
