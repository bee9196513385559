-- What a step makes of who holds a room, and of flattenings.
use Rattle.std.proofs.Common.{◌≡◌, ℕ, List, [], ◌∷◌, ◌++◌, Option, Some, refl, sym, ap, ◌∙◌, subst, ◌⊎◌, inl, inr, Bool, Ok, Err}
use Rattle.plfs_types.specs.declared.entries.Entry.{Entry}
use Rattle.store_api.specs.declared.step.Answer.TheVariants.{Made, NoFolder, NotEmpty, Names}
use Rattle.store_api.specs.declared.store.Trouble.TheVariants as trouble
use Rattle.store_api.specs.Step.{Step}
use Rattle.mount_model.specs.declared.row.Row.{Row}
use Rattle.mount_model.specs.declared.row.Stage.{Stage}
use Rattle.mount_model.specs.declared.row.Holder.{Holder}
use Rattle.mount_model.specs.declared.row.Flattening.{Flattening}
use Rattle.mount_model.specs.declared.row.Making.TheVariants as making
use Rattle.mount_model.specs.declared.row.FlatStage.{FlatStage}
use Rattle.mount_model.specs.declared.row.FlatStage.TheVariants.{Begun, Put, Synced}
use Rattle.mount_model.specs.declared.call.Call.{Call}
use Rattle.mount_model.specs.declared.call.Call.TheVariants.{Greet, Find, MakeContainer, Rooms, Look, Enter, Floor, MakeHostdir, MakeIndex, MakeLog, Write, Flush, SyncLog, SyncIndex, PutMeta, Exit, Hold, Mark, Move, Release, StartFlat, PutFlat, SyncFlat, InstallFlat, StartPack, SyncDropping, Inspect, Mend, MendMeta, Bury, MendHold}
use Rattle.mount_model.specs.declared.call.Ask.{Ask}
use Rattle.mount_model.specs.declared.reply.Refusal.{Refusal}
use Rattle.mount_model.specs.declared.reply.Reply.{Reply}
use Rattle.mount_model.specs.declared.reply.Reply.TheVariants.{Done}
use Rattle.mount_model.specs.Table.{holder_at, without_holder, flattening_at, with_flattening, without_flattening}
use Rattle.mount_model.specs.State.{State, Table, drawn, timed}
use Rattle.mount_model.specs.Making.{Told, CallOutcome, MakesAct, OnWriter, UnlessRefused}
use Rattle.mount_model.specs.Entering.{EntersAs, entered}
use Rattle.mount_model.specs.Flooring.{FloorOutcome}
use Rattle.mount_model.specs.Writing.{WritesAt, stamp_at}
use Rattle.mount_model.specs.Flushing.{FlushesRow}
use Rattle.mount_model.specs.Holding.{holding, HoldOutcome, HoldsRoom, OnHolder, TruncatesAt, RenamesRoom, let_go}
use Rattle.mount_model.specs.Flattening.{OnFlattening, begun_flat, StartsPackOf, put_flat_outcome, sync_flat_outcome, install_outcome}
use Rattle.mount_model.specs.Recovering.{SyncsIt, alive_check, MendsIt, MendsItsMeta, BuriesIt}
use Rattle.mount_model.specs.Stopping.{without_caller, begun, IsEndedBy}
use Rattle.mount_model.specs.Step.{Answers, IsStep}
use Rattle.mount_model.proofs.Deciding.{IsHolding, IsUnderway, on_writer, on_holder, on_flattening, unless_refused, step_cases}
use Rattle.mount_model.proofs.Holders.{holder_at_other-without_holder, still_held-push, still_held-ended, flattening_at_other-with_flattening, flattening_at_other-without_flattening, still_found-push, still_found-ended}
use Rattle.mount_model.proofs.Stopping.{begun_table}
use Rattle.mount_model.proofs.Outcomes as table

-- ---- calls that keep both

-- who holds a room, and what is being flattened, stays
pub record KeepsHolders (old new : Table) : Type 0 where
  pub holders : new.holders ≡ old.holders
  pub flattenings : new.flattenings ≡ old.flattenings

-- the call is none that begins or ends a hold, or goes on with a flattening
abbrev pub IsElsewhere : Call → Type 0
IsElsewhere (Hold room) = ⊥
IsElsewhere (Release holder) = ⊥
IsElsewhere (StartFlat room) = ⊥
IsElsewhere (PutFlat flat bytes) = ⊥
IsElsewhere (SyncFlat flat) = ⊥
IsElsewhere (InstallFlat flat) = ⊥
IsElsewhere (StartPack room host writer) = ⊥
IsElsewhere call = Unit {0}

same : (old : Table) → KeepsHolders old old
same old = record { holders = refl; flattenings = refl }

as_before : (old new : State) → new ≡ old → KeepsHolders old.table new.table
as_before old new e = record { holders = ap (λ (s : State). s.table.holders) e; flattenings = ap (λ (s : State). s.table.flattenings) e }

-- a state with that table has them
with_table : (old : Table) (table : Table) (new : State) → new.table ≡ table → KeepsHolders old table → KeepsHolders old new.table
with_table old table new e k = record { holders = ap (λ (t : Table). t.holders) e ∙ k.holders; flattenings = ap (λ (t : Table). t.flattenings) e ∙ k.flattenings }

module _ (old : State) (reply : Reply) (new : State) where
  by_act : (step : Step) (outcome : Told → CallOutcome) (from : State) → ((told : Told) → KeepsHolders old.table (outcome told).table) → MakesAct step outcome from reply new → KeepsHolders old.table new.table
  by_act step outcome from keeps m = with_table old.table (outcome m.told).table new (ap (λ (s : State). s.table) m.after) (keeps m.told)

  by_writer : (caller : ℕ) (stages : Stage → Bool) (id : ℕ) (does : Row → Type 0) → OnWriter caller stages id old reply new does → ((row : Row) → does row → KeepsHolders old.table new.table) → KeepsHolders old.table new.table
  by_writer caller stages id does on keeps = on_writer caller stages id old reply new does (KeepsHolders old.table new.table) on (as_before old new) (λ row held. keeps row)

  by_holder : (caller number : ℕ) (does : Holder → Type 0) → OnHolder caller number old reply new does → ((h : Holder) → does h → KeepsHolders old.table new.table) → KeepsHolders old.table new.table
  by_holder caller number does on keeps = on_holder caller number old reply new does (KeepsHolders old.table new.table) on (as_before old new) (λ h is. keeps h)

  by_check : (check : Option Refusal) (does : Type 0) → UnlessRefused check old reply new does → (does → KeepsHolders old.table new.table) → KeepsHolders old.table new.table
  by_check check does on keeps = unless_refused check old reply new does (KeepsHolders old.table new.table) on (as_before old new) (λ none. keeps)

  entering : (caller room host most : ℕ) → EntersAs caller room host most old reply new → KeepsHolders old.table new.table
  entering caller room host most e = by_act _ _ (drawn old) (table.enter_table (KeepsHolders old.table) old.table (same old.table) (entered old caller room host most) (record { holders = refl; flattenings = refl })) e.makes

  floor_told : (row : Row) (after : Table) (told : Told) → FloorOutcome row old.table told reply after → KeepsHolders old.table after
  floor_told row after (Ok (Names names)) o = elim o as (λ _. KeepsHolders old.table after) [
    | inl (floor, is, answered, e) ↦ record { holders = ap (λ (t : Table). t.holders) e; flattenings = ap (λ (t : Table). t.flattenings) e }
    | inr (name, foreign, answered, e) ↦ record { holders = ap (λ (t : Table). t.holders) e; flattenings = ap (λ (t : Table). t.flattenings) e }
  ]
  floor_told row after told o = record { holders = ap (λ (t : Table). t.holders) o.1; flattenings = ap (λ (t : Table). t.flattenings) o.1 }

  flushing : (row : Row) (pending : List Entry) → FlushesRow row pending old reply new → KeepsHolders old.table new.table
  flushing row [] f = as_before old new f.1
  flushing row (first ∷ rest) f = by_act _ _ old (table.flush_table (KeepsHolders old.table) old.table (same old.table) row (record { holders = refl; flattenings = refl })) f

  pub answers_keep : (caller : ℕ) (call : Call) → IsElsewhere call → Answers old caller call reply new → KeepsHolders old.table new.table
  answers_keep caller Greet elsewhere a = as_before old new a.1
  answers_keep caller (Find name) elsewhere a = by_act _ _ old (table.find_table (KeepsHolders old.table) old.table (same old.table)) a.makes
  answers_keep caller (MakeContainer name) elsewhere a = by_act _ _ old (table.make_table (KeepsHolders old.table) old.table (same old.table)) a.makes
  answers_keep caller Rooms elsewhere a = with_table old.table old.table new (ap (λ (s : State). s.table) a.after) (same old.table)
  answers_keep caller (Look room look) elsewhere a = by_check _ _ a (by_act _ _ old (λ told. same old.table))
  answers_keep caller (Enter room host most) elsewhere a = by_check _ _ a (entering caller room host most)
  answers_keep caller (Floor writer) elsewhere a = by_writer caller _ writer _ a (λ row f. floor_told row new.table f.told f.outcome)
  answers_keep caller (MakeHostdir writer) elsewhere a = by_writer caller _ writer _ a (λ row. by_act _ _ old (table.build_table (KeepsHolders old.table) old.table (same old.table) _ _ _ row (record { holders = refl; flattenings = refl })))
  answers_keep caller (MakeIndex writer) elsewhere a = by_writer caller _ writer _ a (λ row. by_act _ _ old (table.build_table (KeepsHolders old.table) old.table (same old.table) _ _ _ row (record { holders = refl; flattenings = refl })))
  answers_keep caller (MakeLog writer) elsewhere a = by_writer caller _ writer _ a (λ row. by_act _ _ old (table.build_table (KeepsHolders old.table) old.table (same old.table) _ _ _ row (record { holders = refl; flattenings = refl })))
  answers_keep caller (Write writer at block) elsewhere a = by_writer caller _ writer _ a (λ row u. by_check _ _ u (λ (w : WritesAt row at block old reply new).
      by_act _ _ (timed w.times old) (table.write_table (KeepsHolders old.table) old.table (same old.table) (stamp_at w.time row) row at _ (record { holders = refl; flattenings = refl })) w.makes))
  answers_keep caller (Flush writer) elsewhere a = by_writer caller _ writer _ a (λ row. flushing row row.pending.entries)
  answers_keep caller (SyncLog writer) elsewhere a = by_writer caller _ writer _ a (λ row. by_act _ _ old (table.sync_log_table (KeepsHolders old.table) old.table (same old.table) row (record { holders = refl; flattenings = refl })))
  answers_keep caller (SyncIndex writer) elsewhere a = by_writer caller _ writer _ a (λ row. by_act _ _ old (table.sync_index_table (KeepsHolders old.table) old.table (same old.table) row (record { holders = refl; flattenings = refl })))
  answers_keep caller (PutMeta writer) elsewhere a = by_writer caller _ writer _ a (λ row u. by_check _ _ u
      (by_act _ _ old (table.put_meta_table (KeepsHolders old.table) old.table (same old.table) row (record { holders = refl; flattenings = refl }) (record { holders = refl; flattenings = refl }))))
  answers_keep caller (Exit writer) elsewhere a = by_writer caller _ writer _ a (λ row u. by_check _ _ u
      (by_act _ _ old (table.exit_table (KeepsHolders old.table) old.table (same old.table) row (record { holders = refl; flattenings = refl }) (record { holders = refl; flattenings = refl }))))
  answers_keep caller (Hold room) elsewhere a = absurd elsewhere
  answers_keep caller (Mark holder size top) elsewhere a = by_holder caller holder _ a (λ h u. by_check _ _ u (λ (t : TruncatesAt h size top old reply new).
      by_act _ _ (timed t.times old) (table.truncate_table (KeepsHolders old.table) old.table (same old.table) _ size) t.makes))
  answers_keep caller (Move holder to) elsewhere a = by_holder caller holder _ a (λ h. λ (x : RenamesRoom h to old reply new). by_act _ _ old (table.rename_table (KeepsHolders old.table) old.table (same old.table)) x.makes)
  answers_keep caller (Release holder) elsewhere a = absurd elsewhere
  answers_keep caller (StartFlat room) elsewhere a = absurd elsewhere
  answers_keep caller (PutFlat flat bytes) elsewhere a = absurd elsewhere
  answers_keep caller (SyncFlat flat) elsewhere a = absurd elsewhere
  answers_keep caller (InstallFlat flat) elsewhere a = absurd elsewhere
  answers_keep caller (StartPack room host writer) elsewhere a = absurd elsewhere
  answers_keep caller (SyncDropping room host writer is_log) elsewhere a = by_check _ _ a (λ (x : SyncsIt room host writer is_log old reply new). by_act _ _ old (table.done_table (KeepsHolders old.table) old.table (same old.table) _ _) x.makes)
  answers_keep caller (Inspect writer) elsewhere a = by_check (alive_check old writer) ((reply ≡ Done) × (new ≡ old)) a (λ x. as_before old new x.1)
  answers_keep caller (Mend room host writer count) elsewhere a = by_check _ _ a (λ (x : MendsIt room host writer count old reply new). by_act _ _ old (table.done_table (KeepsHolders old.table) old.table (same old.table) _ _) x.makes)
  answers_keep caller (MendMeta room host cover last) elsewhere a = by_check _ _ a (λ (x : MendsItsMeta room host cover last old reply new). by_act _ _ old (table.mend_meta_table (KeepsHolders old.table) old.table (same old.table) _) x.makes)
  answers_keep caller (Bury room host writer) elsewhere a = by_check _ _ a (λ (x : BuriesIt room host writer old reply new). by_act _ _ old (table.bury_table (KeepsHolders old.table) old.table (same old.table) _) x.makes)
  answers_keep caller (MendHold room) elsewhere a = by_check _ _ a (by_act _ _ old (table.mend_hold_table (KeepsHolders old.table) old.table (same old.table)))

-- ---- calls that change them

-- what the call makes of who holds a room, where it changes that
abbrev pub HoldersMade : State → ℕ → Call → Table → Type 0
HoldersMade old caller (Hold room) after = after.holders ≡ old.table.holders ++ holding old caller room ∷ []
HoldersMade old caller (Release number) after = (h : Holder) × IsHolding caller number old.table.holders h × (after.holders ≡ without_holder h.number old.table.holders)
HoldersMade old caller call after = ⊥

-- and of flattenings
abbrev pub FlatteningsMade : State → ℕ → Call → Table → Type 0
FlatteningsMade old caller (StartFlat room) after = after.flattenings ≡ old.table.flattenings ++ begun_flat old caller room making.Flat ∷ []
FlatteningsMade old caller (PutFlat flat bytes) after = (f : Flattening) × IsUnderway caller Begun flat old.table.flattenings f × (after.flattenings ≡ with_flattening (record f { stage = Put }) old.table.flattenings)
FlatteningsMade old caller (SyncFlat flat) after = (f : Flattening) × IsUnderway caller Put flat old.table.flattenings f × (after.flattenings ≡ with_flattening (record f { stage = Synced }) old.table.flattenings)
FlatteningsMade old caller (InstallFlat flat) after = (f : Flattening) × IsUnderway caller Synced flat old.table.flattenings f × (after.flattenings ≡ without_flattening f.id old.table.flattenings)
FlatteningsMade old caller (StartPack room host writer) after = after.flattenings ≡ old.table.flattenings ++ begun_flat old caller room (making.Pack host writer) ∷ []
FlatteningsMade old caller call after = ⊥

-- they stay, or the call makes that of them
pub record TurnsHolders (old : State) (caller : ℕ) (call : Call) (after : Table) : Type 0 where
  pub holders : (after.holders ≡ old.table.holders) ⊎ HoldersMade old caller call after
  pub flattenings : (after.flattenings ≡ old.table.flattenings) ⊎ FlatteningsMade old caller call after

turned : (old : State) (caller : ℕ) (call : Call) (after : Table) → KeepsHolders old.table after → TurnsHolders old caller call after
turned old caller call after k = record { holders = inl k.holders; flattenings = inl k.flattenings }

module _ (old : State) (caller : ℕ) (call : Call) (reply : Reply) (new : State) where
  turned_same : new ≡ old → TurnsHolders old caller call new.table
  turned_same e = turned old caller call new.table (as_before old new e)

  turned_act : (step : Step) (outcome : Told → CallOutcome) (from : State) → ((told : Told) → TurnsHolders old caller call (outcome told).table) → MakesAct step outcome from reply new → TurnsHolders old caller call new.table
  turned_act step outcome from turns m = subst (TurnsHolders old caller call) (sym (ap (λ (s : State). s.table) m.after)) (turns m.told)

  turned_flat : (stage : FlatStage) (flat : ℕ) (step : Flattening → Step) (outcome : Flattening → Told → CallOutcome)
      → ((f : Flattening) → IsUnderway caller stage flat old.table.flattenings f → (told : Told) → TurnsHolders old caller call (outcome f told).table)
      → OnFlattening caller stage flat old reply new (λ f. MakesAct (step f) (outcome f) old reply new) → TurnsHolders old caller call new.table
  turned_flat stage flat step outcome turns on = on_flattening caller stage flat old reply new _ (TurnsHolders old caller call new.table) on turned_same
      (λ f is m. turned_act (step f) (outcome f) old (turns f is) m)

hold_turns : (old : State) (caller room : ℕ) (reply : Reply) (after : Table) (told : Told) → HoldOutcome (holding old caller room) old.table told reply after → TurnsHolders old caller (Hold room) after
hold_turns old caller room reply after (Ok Made) o = record { holders = inr (ap (λ (t : Table). t.holders) o.1); flattenings = inl (ap (λ (t : Table). t.flattenings) o.1) }
hold_turns old caller room reply after (Ok NoFolder) o = record { holders = inl (ap (λ (t : Table). t.holders) o.1); flattenings = inl (ap (λ (t : Table). t.flattenings) o.1) }
hold_turns old caller room reply after (Ok (NotEmpty least)) o = record { holders = inl (ap (λ (t : Table). t.holders) o.1); flattenings = inl (ap (λ (t : Table). t.flattenings) o.1) }
hold_turns old caller room reply after told o = record { holders = inl (ap (λ (t : Table). t.holders) o.1); flattenings = inl (ap (λ (t : Table). t.flattenings) o.1) }

release_turns : (old : State) (caller number : ℕ) (h : Holder) → IsHolding caller number old.table.holders h → TurnsHolders old caller (Release number) (let_go h.number old.table)
release_turns old caller number h is = record { holders = inr (h, is, refl); flattenings = inl refl }

-- What a call that is answered makes of them.
pub answers_turn : (old : State) (caller : ℕ) (call : Call) (reply : Reply) (new : State) → Answers old caller call reply new → TurnsHolders old caller call new.table
answers_turn old caller (Hold room) reply new a = unless_refused _ old reply new _ (TurnsHolders old caller (Hold room) new.table) a (turned_same old caller (Hold room) reply new)
    (λ none. λ (h : HoldsRoom caller room old reply new). hold_turns old caller room reply new.table h.told h.outcome)
answers_turn old caller (Release number) reply new a = on_holder caller number old reply new _ (TurnsHolders old caller (Release number) new.table) a (turned_same old caller (Release number) reply new)
    (λ h is m. turned_act old caller (Release number) reply new _ _ old
    (table.release_table (TurnsHolders old caller (Release number)) old.table (turned old caller (Release number) old.table (same old.table)) h (release_turns old caller number h is)) m)
answers_turn old caller (StartFlat room) reply new a = unless_refused _ old reply new _ (TurnsHolders old caller (StartFlat room) new.table) a (turned_same old caller (StartFlat room) reply new)
    (λ none m. turned_act old caller (StartFlat room) reply new _ _ (drawn old)
    (table.start_table (TurnsHolders old caller (StartFlat room)) old.table (turned old caller (StartFlat room) old.table (same old.table)) (begun_flat old caller room making.Flat) (record { holders = inl refl; flattenings = inr refl })) m)
answers_turn old caller (PutFlat flat bytes) reply new a = turned_flat old caller (PutFlat flat bytes) reply new Begun flat _ (λ f. put_flat_outcome f old.table)
    (λ f is. table.put_flat_table (TurnsHolders old caller (PutFlat flat bytes)) old.table (turned old caller (PutFlat flat bytes) old.table (same old.table)) f (record { holders = inl refl; flattenings = inr (f, is, refl) })) a
answers_turn old caller (SyncFlat flat) reply new a = turned_flat old caller (SyncFlat flat) reply new Put flat _ (λ f. sync_flat_outcome f old.table)
    (λ f is. table.sync_flat_table (TurnsHolders old caller (SyncFlat flat)) old.table (turned old caller (SyncFlat flat) old.table (same old.table)) f (record { holders = inl refl; flattenings = inr (f, is, refl) })) a
answers_turn old caller (InstallFlat flat) reply new a = turned_flat old caller (InstallFlat flat) reply new Synced flat _ (λ f. install_outcome f old.table)
    (λ f is. table.install_table (TurnsHolders old caller (InstallFlat flat)) old.table (turned old caller (InstallFlat flat) old.table (same old.table)) f (record { holders = inl refl; flattenings = inr (f, is, refl) })) a
answers_turn old caller (StartPack room host writer) reply new a = unless_refused _ old reply new _ (TurnsHolders old caller (StartPack room host writer) new.table) a (turned_same old caller (StartPack room host writer) reply new)
    (λ none. λ (x : StartsPackOf caller room host writer old reply new). turned_act old caller (StartPack room host writer) reply new _ _ (drawn old)
    (table.start_table (TurnsHolders old caller (StartPack room host writer)) old.table (turned old caller (StartPack room host writer) old.table (same old.table)) (begun_flat old caller room (making.Pack host writer)) (record { holders = inl refl; flattenings = inr refl })) x.makes)
answers_turn old caller call reply new a = turned old caller call new.table (answers_keep old reply new caller call tt a)

-- ---- what is another caller's

-- another caller's hold is not the one that is let go, nor its flattening one that goes on or ends
held_apart : (caller number q : ℕ) (holders : List Holder) (h mine : Holder) → IsHolding caller number holders mine → holder_at q holders ≡ Some h → (h.owner ≡ caller → ⊥) → q ≡ mine.number → ⊥
held_apart caller number q holders h mine is found other same_number =
    let there : holder_at q holders ≡ Some mine = subst (λ n. holder_at n holders ≡ Some mine) (sym (same_number ∙ is.is)) is.found in
    let one : mine ≡ h = cc in
    other (subst (λ (x : Holder). x.owner ≡ caller) one is.owned)

found_apart : (caller : ℕ) (stage : FlatStage) (id q : ℕ) (flattenings : List Flattening) (f mine : Flattening) → IsUnderway caller stage id flattenings mine → flattening_at q flattenings ≡ Some f → (f.owner ≡ caller → ⊥) → q ≡ mine.id → ⊥
found_apart caller stage id q flattenings f mine is found other same_id =
    let there : flattening_at q flattenings ≡ Some mine = subst (λ n. flattening_at n flattenings ≡ Some mine) (sym (same_id ∙ is.is)) is.found in
    let one : mine ≡ f = cc in
    other (subst (λ (x : Flattening). x.owner ≡ caller) one is.owned)

module _ (old : State) (caller : ℕ) (after : Table) where
  made_holds : (call : Call) (q : ℕ) (h : Holder) → HoldersMade old caller call after → holder_at q old.table.holders ≡ Some h → (h.owner ≡ caller → ⊥) → holder_at q after.holders ≡ Some h
  made_holds (Hold room) q h e found other = subst (λ hs. holder_at q hs ≡ Some h) (sym e) (still_held-push old.table.holders (holding old caller room) q h found)
  made_holds (Release number) q h (mine, is, e) found other =
      subst (λ hs. holder_at q hs ≡ Some h) (sym e)
      (holder_at_other-without_holder mine.number old.table.holders q (held_apart caller number q old.table.holders h mine is found other) ∙ found)
  made_holds call q h e found other = absurd e

  made_flattens : (call : Call) (q : ℕ) (f : Flattening) → FlatteningsMade old caller call after → flattening_at q old.table.flattenings ≡ Some f → (f.owner ≡ caller → ⊥) → flattening_at q after.flattenings ≡ Some f
  made_flattens (StartFlat room) q f e found other = subst (λ fs. flattening_at q fs ≡ Some f) (sym e) (still_found-push old.table.flattenings (begun_flat old caller room making.Flat) q f found)
  made_flattens (PutFlat flat bytes) q f (mine, is, e) found other =
      subst (λ fs. flattening_at q fs ≡ Some f) (sym e)
      (flattening_at_other-with_flattening (record mine { stage = Put }) old.table.flattenings q (found_apart caller Begun flat q old.table.flattenings f mine is found other) ∙ found)
  made_flattens (SyncFlat flat) q f (mine, is, e) found other =
      subst (λ fs. flattening_at q fs ≡ Some f) (sym e)
      (flattening_at_other-with_flattening (record mine { stage = Synced }) old.table.flattenings q (found_apart caller Put flat q old.table.flattenings f mine is found other) ∙ found)
  made_flattens (InstallFlat flat) q f (mine, is, e) found other =
      subst (λ fs. flattening_at q fs ≡ Some f) (sym e)
      (flattening_at_other-without_flattening mine.id old.table.flattenings q (found_apart caller Synced flat q old.table.flattenings f mine is found other) ∙ found)
  made_flattens (StartPack room host writer) q f e found other = subst (λ fs. flattening_at q fs ≡ Some f) (sym e) (still_found-push old.table.flattenings (begun_flat old caller room (making.Pack host writer)) q f found)
  made_flattens call q f e found other = absurd e

  turned_holds : (call : Call) (q : ℕ) (h : Holder) → TurnsHolders old caller call after → holder_at q old.table.holders ≡ Some h → (h.owner ≡ caller → ⊥) → holder_at q after.holders ≡ Some h
  turned_holds call q h t found other = elim t.holders as (λ _. holder_at q after.holders ≡ Some h) [
    | inl e ↦ subst (λ hs. holder_at q hs ≡ Some h) (sym e) found
    | inr made ↦ made_holds call q h made found other
  ]

  turned_flattens : (call : Call) (q : ℕ) (f : Flattening) → TurnsHolders old caller call after → flattening_at q old.table.flattenings ≡ Some f → (f.owner ≡ caller → ⊥) → flattening_at q after.flattenings ≡ Some f
  turned_flattens call q f t found other = elim t.flattenings as (λ _. flattening_at q after.flattenings ≡ Some f) [
    | inl e ↦ subst (λ fs. flattening_at q fs ≡ Some f) (sym e) found
    | inr made ↦ made_flattens call q f made found other
  ]

-- a call that was broken off leaves them, or takes its caller's out
pub by_end : (P : Table → Type 0) (told : Told) (reply : Reply) (at : State) (caller : ℕ) (new : State) → IsEndedBy told reply at caller new → P at.table → P (without_caller caller at.table) → P new.table
by_end P (Err trouble.NoMemory) reply at caller new e stays ends = subst (λ (s : State). P s.table) (sym e.1) stays
by_end P (Err trouble.Fault) reply at caller new e stays ends = subst (λ (s : State). P s.table) (sym e.1) ends
by_end P (Ok answer) reply at caller new e stays ends = subst (λ (s : State). P s.table) (sym e.1) ends

-- Who holds a room holds it until it calls itself.
pub step_holds : (old new : State) (caller : ℕ) (ask : Ask) (reply : Reply) (q : ℕ) (h : Holder) → IsStep old caller ask reply new
    → holder_at q old.table.holders ≡ Some h → (h.owner ≡ caller → ⊥) → holder_at q new.table.holders ≡ Some h
step_holds old new caller ask reply q h s found other = step_cases old caller ask reply new (holder_at q new.table.holders ≡ Some h) s
    (λ whole a. turned_holds old caller new.table ask.call q h (answers_turn old caller ask.call reply new a) found other)
    (λ k some x.
    let there : holder_at q (begun old ask.call).table.holders ≡ Some h = subst (λ (t : Table). holder_at q t.holders ≡ Some h) (sym (begun_table old ask.call)) found in
    by_end (λ t. holder_at q t.holders ≡ Some h) x.told reply _ caller new x.after there (still_held-ended caller (begun old ask.call).table.holders q h there other))

-- A flattening stays as it is until its caller calls.
pub step_flattens : (old new : State) (caller : ℕ) (ask : Ask) (reply : Reply) (q : ℕ) (f : Flattening) → IsStep old caller ask reply new
    → flattening_at q old.table.flattenings ≡ Some f → (f.owner ≡ caller → ⊥) → flattening_at q new.table.flattenings ≡ Some f
step_flattens old new caller ask reply q f s found other = step_cases old caller ask reply new (flattening_at q new.table.flattenings ≡ Some f) s
    (λ whole a. turned_flattens old caller new.table ask.call q f (answers_turn old caller ask.call reply new a) found other)
    (λ k some x.
    let there : flattening_at q (begun old ask.call).table.flattenings ≡ Some f = subst (λ (t : Table). flattening_at q t.flattenings ≡ Some f) (sym (begun_table old ask.call)) found in
    by_end (λ t. flattening_at q t.flattenings ≡ Some f) x.told reply _ caller new x.after there (still_found-ended caller (begun old ask.call).table.flattenings q f there other))
