-- Nobody enters a room that is held, and none of its writers writes; a truncate comes after all of its room.
use Rattle.std.proofs.Common.{◌≡◌, ◌≤◌, ◌<◌, ◌⊎◌, ℕ, List, [], ◌∷◌, true, false, Some, refl, ap, sym, ◌∙◌, inl, inr, subst, arith, Ok, Err}
use Rattle.std.specs.List.{AllByRecursion}
use Rattle.plfs_types.specs.declared.entries.Entry.{Entry}
use Rattle.store_api.specs.Acts.{Acts}
use Rattle.store_api.specs.declared.step.Answer.TheVariants.{Made, NoFolder}
use Rattle.store_api.specs.declared.store.Trouble.TheVariants as trouble
use Rattle.store_api.specs.declared.tree.Room.{Room}
use Rattle.store_api.specs.Room.{has_folder}
use Rattle.store_laws.specs.Tells.{made}
use Rattle.store_laws.proofs.Facts.{acts_told, create_told}
use Rattle.mount_model.specs.declared.call.Ask.{Ask}
use Rattle.mount_model.specs.declared.call.Call.TheVariants.{Enter, Mark, Write}
use Rattle.mount_model.specs.declared.reply.Reply.{Reply}
use Rattle.mount_model.specs.declared.reply.Reply.TheVariants.{Entered, Marked, Wrote, Stopped, NoMemory, Refused}
use Rattle.mount_model.specs.declared.row.Holder.{Holder}
use Rattle.mount_model.specs.declared.row.Row.{Row}
use Rattle.mount_model.specs.declared.row.Stage.TheVariants as stage
use Rattle.mount_model.specs.Entering.{draw_check, enter_outcome, enter_step, entered, next_id}
use Rattle.mount_model.specs.History.{Event}
use Rattle.mount_model.specs.Holding.{truncate_check, truncate_outcome, truncate_stamp}
use Rattle.mount_model.specs.Making.{Told}
use Rattle.mount_model.specs.Paths.{open_path}
use Rattle.container_layout.specs.Paths.{openhosts}
use Rattle.mount_model.specs.State.{State, Table}
use Rattle.mount_model.specs.Step.{Answers, IsStep}
use Rattle.mount_model.specs.declared.reply.Refusal.TheVariants.{NotOpen}
use Rattle.mount_model.specs.Table.{holder_at, holder_of, only, row_of, writer_of}
use Rattle.mount_model.proofs.Facts.{at_only, is_held, match_cases, step_cases, stop_replies}
use Rattle.mount_sound.specs.Excluding.{IsAboveAll, KeepOut}
use Rattle.mount_sound.specs.Held.{IsHeldIn}
use Rattle.mount_sound.specs.Issued.{issued_after}
use Rattle.mount_sound.specs.Ledger.{Ledger}
use Rattle.mount_sound.specs.Owed.{InRoom, IsLawful, IsTop, May, Owes}
use Rattle.mount_sound.specs.There.{landed_entries}
use Rattle.mount_sound.specs.Sound.{IsSoundFor}
use Rattle.mount_sound.proofs.Holds.Holding.{none_live, stamp_above}
use Rattle.mount_sound.proofs.Moments.SoundLater.{step_keeps}
use Rattle.mount_sound.proofs.Writers.Stages.{live_stage}

-- ---- replies

not_stopped : (reply : Reply) → (reply ≡ Stopped) ⊎ (reply ≡ NoMemory) → (other : Reply) → reply ≡ other → (other ≡ Stopped → ⊥) → (other ≡ NoMemory → ⊥) → ⊥
not_stopped reply (inl s) other is a b = a (sym is ∙ s)
not_stopped reply (inr m) other is a b = b (sym is ∙ m)

-- only where the entry was made the writer is told to have entered
made_only : (row : Row) (table : Table) (told : Told) (writer : ℕ) → (enter_outcome row table told).reply ≡ Entered writer → told ≡ made
made_only row table (Ok Made) writer e = refl
made_only row table (Ok NoFolder) writer e = absurd (cc)
made_only row table (Err trouble.Fault) writer e = absurd (cc)
made_only row table (Err trouble.NoMemory) writer e = absurd (cc)
made_only row table (Ok answer) writer e = absurd (cc)

-- ---- who holds a room

module _ (l : Ledger) (old : State) (s : IsSoundFor l old) (number : ℕ) (h : Holder) (found : holder_at number old.table.holders ≡ Some h) where
  its_room : IsHeldIn s.shape.tree h
  its_room = s.held.each number h found

  -- no entry was made in it
  not_made : (new : State) (host : ℕ) (reply : Reply) (table : Told → Reply) → (told : Told) → Acts (enter_step old h.room host) old.store new.store told → told ≡ made → ⊥
  not_made new host reply table told acts done =
      let t = acts_told (enter_step old h.room host) old.store new.store s.shape.tree told s.shape.told acts in
      let c = (create_told h.room (open_path host (next_id old)) s.shape.tree told t.0 t.2).done done in
      let rooms : Some c.room ≡ Some its_room.room = sym c.has_room ∙ its_room.there in
      let same : c.room ≡ its_room.room = cc in
      let shut : has_folder c.room openhosts ≡ false = ap (λ (r : Room). has_folder r openhosts) same ∙ its_room.closed in
      let there : has_folder c.room openhosts ≡ true = c.folder in
      cc

  enters_none : (new : State) (caller host most writer : ℕ) (ask : Ask) (reply : Reply) → IsStep old caller ask reply new → ask.call ≡ Enter h.room host most → reply ≡ Entered writer → ⊥
  enters_none new caller host most writer ask reply step call is = step_cases old caller ask reply new ⊥ step
      (λ whole a. entering (subst (λ c. Answers old caller c reply new) call a))
      (λ k some x. not_stopped reply (stop_replies old caller k ask.call reply new x) (Entered writer) is (λ e. absurd (cc)) (λ e. absurd (cc)))
    where
      entering : Answers old caller (Enter h.room host most) reply new → ⊥
      entering a = elim (match_cases (draw_check old h.room) _ _ a) as (λ _. ⊥) [
        | inr (why, some, refused) ↦ let e : Refused why ≡ Entered writer = sym refused.0 ∙ is in absurd (cc)
        | inl (none, e) ↦ not_made new host reply (λ told. reply) e.makes.told e.makes.made (made_only (entered old caller h.room host most) old.table e.makes.told writer (sym e.makes.answered ∙ is))
      ]

  writes_none : (new : State) (caller writer at stamp : ℕ) (block : List ℕ) (row : Row) (ask : Ask) (reply : Reply) → IsStep old caller ask reply new → ask.call ≡ Write writer at block → row_of writer old.table.writers ≡ Some row → row.room ≡ h.room → reply ≡ Wrote stamp → ⊥
  writes_none new caller writer at stamp block row ask reply step call there here is = step_cases old caller ask reply new ⊥ step
      (λ whole a. writing (subst (λ c. Answers old caller c reply new) call a))
      (λ k some x. not_stopped reply (stop_replies old caller k ask.call reply new x) (Wrote stamp) is (λ e. absurd (cc)) (λ e. absurd (cc)))
    where
      writing : Answers old caller (Write writer at block) reply new → ⊥
      writing a = elim (match_cases (writer_of caller (only stage.Open) writer old.table.writers) _ _ a) as (λ _. ⊥) [
        | inl (none, refused) ↦ let e : Refused NotOpen ≡ Wrote stamp = sym refused.0 ∙ is in absurd (cc)
        | inr (its, found_it, does) ↦
            let held = is_held caller (only stage.Open) writer old.table.writers its found_it in
            let rows : Some row ≡ Some its = sym there ∙ held.found in
            let same : row ≡ its = cc in
            none_live l old s.regular s.shape s.shape.tree s.shape.told s.sound s.held number h found writer its held.found (ap (λ (r : Row). r.room) (sym same) ∙ here)
            (live_stage its.stage (omega (arith, at_only stage.Open its.stage held.staged)))
      ]

-- Along a lawful history who holds a room keeps writers out of it.
pub keep_out : (l : Ledger) (start : State) (events : List Event) → IsLawful start events → IsSoundFor l start → KeepOut start events
keep_out l start [] legal s = tt
keep_out l start (e ∷ events) legal s = (
  λ number h found. (
    λ host most writer call is. enters_none l start s number h found e.after e.caller host most writer e.ask e.reply legal.1 call is,
    λ writer at stamp block row call there here is. writes_none l start s number h found e.after e.caller writer at stamp block row e.ask e.reply legal.1 call there here is,
  ),
  keep_out (issued_after l start e.ask.call e.reply) e.after events legal.2 (step_keeps l start e.after e.caller e.ask e.reply legal.0 legal.1 s),
)

-- ---- a truncate

marked_stamp : (stamp size : ℕ) (table : Table) (told : Told) (answered : ℕ) → (truncate_outcome stamp size table told).reply ≡ Marked answered → answered ≡ stamp
marked_stamp stamp size table (Ok Made) answered e = cc
marked_stamp stamp size table (Err trouble.Fault) answered e = absurd (cc)
marked_stamp stamp size table (Err trouble.NoMemory) answered e = absurd (cc)
marked_stamp stamp size table (Ok answer) answered e = absurd (cc)

below : (top stamp : ℕ) → top < stamp → (es : List Entry) → AllByRecursion (λ (e : Entry). e.stamp ≤ top) es → AllByRecursion (λ (e : Entry). e.stamp < stamp) es
below top stamp l [] all = tt
below top stamp l (e ∷ es) all = (omega (arith, all.0, l), below top stamp l es all.1)

above_all : (room : Room) (top stamp : ℕ) → top < stamp → IsTop room top → IsAboveAll room stamp
above_all room top stamp l is = record {
  truncates = λ earlier size content has. omega (arith, is.truncates earlier size content has, l);
  entries = λ host writer content has. below top stamp l (landed_entries room host writer) (is.entries host writer content has);
}

-- Its stamp is above all of its room.
pub truncated_above : (l : Ledger) (old new : State) (caller holder size top stamp : ℕ) (ask : Ask) → IsSoundFor l old → May old caller ask → ask.call ≡ Mark holder size top → IsStep old caller ask (Marked stamp) new
    → (h : Holder) → holder_of caller holder old.table.holders ≡ Some h → InRoom old h.room (λ room. IsAboveAll room stamp)
truncated_above l old new caller holder size top stamp ask s may call step h found tree room told there = step_cases old caller ask (Marked stamp) new (IsAboveAll room stamp) step
    (λ whole a. marking (subst (λ c. Answers old caller c (Marked stamp) new) call a))
    (λ k some x. absurd (not_stopped (Marked stamp) (stop_replies old caller k ask.call (Marked stamp) new x) (Marked stamp) refl (λ e. absurd (cc)) (λ e. absurd (cc))))
  where
    owed : Owes old caller (Mark holder size top)
    owed = subst (Owes old caller) call (may.owes s.clean)

    marking : Answers old caller (Mark holder size top) (Marked stamp) new → IsAboveAll room stamp
    marking a = elim (match_cases (holder_of caller holder old.table.holders) _ _ a) as (λ _. IsAboveAll room stamp) [
      | inl (none, refused) ↦ absurd (cc)
      | inr (its, is, does) ↦ elim (match_cases (truncate_check size top) _ _ does) as (λ _. IsAboveAll room stamp) [
        | inr (why, some, refused) ↦ let e : Refused why ≡ Marked stamp = sym refused.0 in absurd (cc)
        | inl (passed, t) ↦
            let same : stamp ≡ truncate_stamp t.time top = marked_stamp (truncate_stamp t.time top) size old.table t.makes.told stamp (sym t.makes.answered) in
            above_all room top stamp (omega (arith, stamp_above t.time top, same)) (owed h found tree room told there)
      ]
    ]
