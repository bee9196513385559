-- What happened in two parts, one after the other.
use Rattle.std.proofs.Common.{◌≡◌, ℕ, List, [], ◌∷◌, ◌++◌, Some, refl, ap, ◌∙◌}
use Rattle.store_api.specs.declared.tree.Tree.{Tree}
use Rattle.store_api.specs.Acts.{Stored}
use Rattle.store_api.specs.Step.{Step, write_at}
use Rattle.store_laws.specs.Outcomes.{IsLook}
use Rattle.store_laws.proofs.Facts.{acts_told, look_told}
use Rattle.mount_model.specs.declared.call.Call.{Call}
use Rattle.mount_model.specs.History.{Event}
use Rattle.mount_model.specs.Paths.{Name}
use Rattle.mount_sound.specs.Owed.{IsLawful}
use Rattle.reader_laws.specs.Moments.{Moment, moment_after, next_moment}
use Rattle.drain_sound.specs.Draining.{Happening, IsDraining, at_source, at_target, source_after, target_after}
use Rattle.drain_sound.specs.Steps.{looks}
use Rattle.drain_laws.specs.Driving.{AreMade, FindsRoom}
use Rattle.drain_laws.specs.Gathered.{events_in}
use Rattle.drain_laws.specs.Reading.{AllReadBehind}
use Rattle.drain_laws.specs.Resting.{CopiesNothing, SparesAll, SparesLogs, WritesNothing}

-- ---- both parts

pub source_both : (m : Moment) (first rest : List Happening) → source_after m (first ++ rest) ≡ source_after (source_after m first) rest
source_both m [] rest = refl
source_both m (at_source e ∷ first) rest = source_both (next_moment m e) first rest
source_both m (at_target a ∷ first) rest = source_both m first rest

pub target_both : (store : Stored) (first rest : List Happening) → target_after store (first ++ rest) ≡ target_after (target_after store first) rest
target_both store [] rest = refl
target_both store (at_source e ∷ first) rest = target_both store first rest
target_both store (at_target a ∷ first) rest = target_both a.after first rest

pub events_both : (first rest : List Happening) → events_in (first ++ rest) ≡ events_in first ++ events_in rest
events_both [] rest = refl
events_both (at_source e ∷ first) rest = ap (λ es. e ∷ es) (events_both first rest)
events_both (at_target a ∷ first) rest = events_both first rest

pub source_is : (m : Moment) (happened : List Happening) → source_after m happened ≡ moment_after m (events_in happened)
source_is m [] = refl
source_is m (at_source e ∷ happened) = source_is (next_moment m e) happened
source_is m (at_target a ∷ happened) = source_is m happened

pub made_first : (m : Moment) (store : Stored) (first rest : List Happening) → AreMade m store (first ++ rest) → AreMade m store first
made_first m store [] rest made = tt
made_first m store (at_source e ∷ first) rest made = (made.0, made_first (next_moment m e) store first rest made.1)
made_first m store (at_target a ∷ first) rest made = (made.0, made_first m a.after first rest made.1)

pub made_rest : (m : Moment) (store : Stored) (first rest : List Happening) → AreMade m store (first ++ rest) → AreMade (source_after m first) (target_after store first) rest
made_rest m store [] rest made = made
made_rest m store (at_source e ∷ first) rest made = made_rest (next_moment m e) store first rest made.1
made_rest m store (at_target a ∷ first) rest made = made_rest m a.after first rest made.1

pub finds_rest : (caller number : ℕ) (first rest : List Happening) → FindsRoom caller number (first ++ rest) → FindsRoom caller number rest
finds_rest caller number [] rest finds = finds
finds_rest caller number (at_source e ∷ first) rest finds = finds_rest caller number first rest finds.1
finds_rest caller number (at_target a ∷ first) rest finds = finds_rest caller number first rest finds

pub lawful_events : (m : Moment) (store : Stored) (happened : List Happening) → AreMade m store happened → IsLawful m.state (events_in happened)
lawful_events m store [] made = tt
lawful_events m store (at_source e ∷ happened) made = (made.0.0, made.0.1, lawful_events (next_moment m e) store happened made.1)
lawful_events m store (at_target a ∷ happened) made = lawful_events m a.after happened made.1

-- ---- looks alone at the target, and calls at the source of which this holds

abbrev pub IsIdle : (Call → Type 0) → ℕ → List Happening → Type 0
IsIdle P caller [] = Unit {0}
IsIdle P caller (at_source e ∷ rest) = (e.caller ≡ caller → P e.ask.call) × IsIdle P caller rest
IsIdle P caller (at_target a ∷ rest) = IsLook a.step × IsIdle P caller rest

module _ (caller : ℕ) where
  pub idle_both : (P : Call → Type 0) (first rest : List Happening) → IsIdle P caller first → IsIdle P caller rest → IsIdle P caller (first ++ rest)
  idle_both P [] rest a b = b
  idle_both P (at_source e ∷ first) rest a b = (a.0, idle_both P first rest a.1 b)
  idle_both P (at_target x ∷ first) rest a b = (a.0, idle_both P first rest a.1 b)

  pub idle_weaker : (P Q : Call → Type 0) (happened : List Happening) → ((call : Call) → P call → Q call) → IsIdle P caller happened → IsIdle Q caller happened
  idle_weaker P Q [] h a = tt
  idle_weaker P Q (at_source e ∷ happened) h a = (λ own. h e.ask.call (a.0 own), idle_weaker P Q happened h a.1)
  idle_weaker P Q (at_target x ∷ happened) h a = (a.0, idle_weaker P Q happened h a.1)

  -- the target's tree stays
  pub idle_tree : (P : Call → Type 0) (m : Moment) (store : Stored) (t : Tree) (happened : List Happening) → IsIdle P caller happened → AreMade m store happened → store.tree ≡ Some t → (target_after store happened).tree ≡ Some t
  idle_tree P m store t [] idle made told = told
  idle_tree P m store t (at_source e ∷ happened) idle made told = idle_tree P (next_moment m e) store t happened idle.1 made.1 told
  idle_tree P m store t (at_target a ∷ happened) idle made told =
      let after = acts_told a.step store a.after t a.answer told made.0 in
      idle_tree P m a.after t happened idle.1 made.1 (after.1 ∙ ap (λ x. Some x) (look_told a.step t a.answer after.0 idle.0 after.2))

  -- ---- what holds of what came after such a part holds of both

  pub idle_draining : (P : Call → Type 0) (m : Moment) (store : Stored) (number : ℕ) (name : Name) (first rest : List Happening) → IsIdle P caller first → AreMade m store (first ++ rest) → IsDraining (source_after m first) number name (target_after store first) rest → IsDraining m number name store (first ++ rest)
  idle_draining P m store number name [] rest idle made drains = drains
  idle_draining P m store number name (at_source e ∷ first) rest idle made drains = (made.0, idle_draining P (next_moment m e) store number name first rest idle.1 made.1 drains)
  idle_draining P m store number name (at_target a ∷ first) rest idle made drains = (made.0, λ tree there. looks a.step idle.0, idle_draining P m a.after number name first rest idle.1 made.1 drains)

  pub idle_reads : (name : Name) (store : Stored) (first rest : List Happening) → IsIdle SparesLogs caller first → AllReadBehind caller name (target_after store first) rest → AllReadBehind caller name store (first ++ rest)
  idle_reads name store [] rest idle reads = reads
  idle_reads name store (at_source e ∷ first) rest idle reads = (λ own from host writer at len is. absurd (idle.0 own from host writer at len is), idle_reads name store first rest idle.1 reads)
  idle_reads name store (at_target a ∷ first) rest idle reads = idle_reads name a.after first rest idle.1 reads

  pub idle_nothing : (first rest : List Happening) → IsIdle SparesAll caller first → CopiesNothing caller rest → CopiesNothing caller (first ++ rest)
  idle_nothing [] rest idle nothing = nothing
  idle_nothing (at_source e ∷ first) rest idle nothing = (idle.0, idle_nothing first rest idle.1 nothing)
  idle_nothing (at_target a ∷ first) rest idle nothing = (no_write a.step idle.0, idle_nothing first rest idle.1 nothing)
    where
      no_write : (step : Step) → IsLook step → WritesNothing step
      no_write (write_at n folder file at bytes) look = absurd look
      no_write step look = tt

-- ---- lawful events, one part after the other

pub lawful_both : (m : Moment) (first rest : List Event) → IsLawful m.state first → IsLawful (moment_after m first).state rest → IsLawful m.state (first ++ rest)
lawful_both m [] rest a b = b
lawful_both m (e ∷ first) rest a b = (a.0, a.1, lawful_both (next_moment m e) first rest a.2 b)
