-- The times that a mount has still to come are an end of its clock's, whatever is called.
use Rattle.std.proofs.Common.{◌≡◌, ◌⊎◌, inl, inr, ℕ, Bool, List, [], ◌∷◌, Option, Some, None, Ok, Err, refl, sym, ap, ◌∙◌, subst}
use Rattle.plfs_types.specs.declared.entries.Entry.{Entry}
use Rattle.plain_file.proofs.Facts.{Among}
use Rattle.edge_io.specs.Clock.{Ticks, first_time, later_times}
use Rattle.store_api.specs.Acts.{Stored}
use Rattle.store_api.specs.Step.{Step}
use Rattle.store_api.specs.declared.store.Trouble.TheVariants as trouble
use Rattle.mount_model.specs.declared.row.Row.{Row}
use Rattle.mount_model.specs.declared.row.Stage.{Stage}
use Rattle.mount_model.specs.declared.row.Holder.{Holder}
use Rattle.mount_model.specs.declared.row.Flattening.{Flattening}
use Rattle.mount_model.specs.declared.row.FlatStage.{FlatStage}
use Rattle.mount_model.specs.declared.row.FlatStage.TheVariants as flat_stage
use Rattle.mount_model.specs.declared.call.Ask.{Ask}
use Rattle.mount_model.specs.declared.call.Call.{Call}
use Rattle.mount_model.specs.declared.call.Call.TheVariants.{Greet, Find, MakeContainer, Rooms, Look, Enter, Floor, MakeHostdir, MakeIndex, MakeLog, Write, Flush, SyncLog, SyncIndex, PutMeta, Exit, Hold, Mark, Move, Release, StartFlat, PutFlat, SyncFlat, InstallFlat, StartPack, SyncDropping, Inspect, Mend, MendMeta, Bury, MendHold}
use Rattle.mount_model.specs.declared.reply.Refusal.{Refusal}
use Rattle.mount_model.specs.declared.reply.Reply.{Reply}
use Rattle.mount_model.specs.declared.reply.Reply.TheVariants.{Done}
use Rattle.mount_model.specs.Entering.{EntersAs}
use Rattle.mount_model.specs.Flattening.{OnFlattening, StartsPackOf}
use Rattle.mount_model.specs.Flooring.{FloorsRow}
use Rattle.mount_model.specs.Flushing.{FlushesRow}
use Rattle.mount_model.specs.History.{Event}
use Rattle.mount_model.specs.Holding.{HoldsRoom, OnHolder, RenamesRoom, TruncatesAt}
use Rattle.mount_model.specs.Making.{CallOutcome, MakesAct, OnWriter, Told, UnlessRefused}
use Rattle.mount_model.specs.Mounting.{IsMounted}
use Rattle.mount_model.specs.Recovering.{BuriesIt, MendsIt, MendsItsMeta, SyncsIt}
use Rattle.mount_model.specs.State.{State, drawn, timed}
use Rattle.mount_model.specs.Step.{Answers, IsStep}
use Rattle.mount_model.specs.Stopping.{IsEndedBy, TicksFor, begun}
use Rattle.mount_model.specs.Writing.{WritesAt}
use Rattle.mount_model.proofs.Facts.{on_flattening, on_holder, on_writer, step_cases, unless_refused}
use Rattle.mount_sound.specs.Owed.{IsLawful}
use Rattle.reader_laws.specs.Moments.{Moment, moment_after, next_moment}
use Rattle.reader_laws.proofs.Gathered.Facts.{is_among}
use Rattle.headline.specs.Changes.{IsTime, one_of, untold}

-- ---- a clock

-- the last of all its times are still to come; it tells none, or there were none, or one of them is left
pub data AreLeft (all now : Option (List ℕ)) : Type 0 where
  none_told : all ≡ None → now ≡ None → AreLeft all now
  some_left : (ts us : List ℕ) → all ≡ Some ts → now ≡ Some us → ((t : ℕ) → Among t us → Among t ts) → (us ≡ [] → ts ≡ []) → AreLeft all now

later_among : (us : List ℕ) (t : ℕ) → Among t (later_times us) → Among t us
later_among [] t at = at
later_among (x ∷ []) t at = at
later_among (x ∷ y ∷ us) t at = inr at

later_some : (us : List ℕ) → later_times us ≡ [] → us ≡ []
later_some [] is = refl
later_some (x ∷ []) is = absurd (cc)
later_some (x ∷ y ∷ us) is = absurd (cc)

first_or : (us : List ℕ) → (us ≡ []) ⊎ Among (first_time us) us
first_or [] = inl refl
first_or (x ∷ us) = inr (inl refl)

-- a time that it gives is one of its times, and the later ones are left
pub ticked : (all old new : Option (List ℕ)) (time : ℕ) → AreLeft all old → Ticks old new time → AreLeft all new × IsTime all time
ticked all old new time (none_told none is) ticks = (none_told none (subst (λ o. Ticks o new time) is ticks), untold none)
ticked all old new time (some_left ts us all_is is within some) ticks = (some_left ts (later_times us) all_is t.1 (λ x at. within x (later_among us x at)) (λ none. some (later_some us none)), by (first_or us))
  where
    t : Ticks (Some us) new time
    t = subst (λ o. Ticks o new time) is ticks

    by : (us ≡ []) ⊎ Among (first_time us) us → IsTime all time
    by (inl none) = one_of ts all_is (inr (some none, t.0 ∙ ap first_time none))
    by (inr at) = one_of ts all_is (inl (is_among ts time (within time (subst (λ x. Among x us) (sym t.0) at))))

-- ---- a step asks it or not

abbrev pub AsksOrNot : State → State → Type 0
AsksOrNot old new = (new.times ≡ old.times) ⊎ ((time : ℕ) × Ticks old.times new.times time)

module _ (old : State) (reply : Reply) (new : State) where
  abbrev Keeps : Type 0
  Keeps = AsksOrNot old new

  as_before : new ≡ old → Keeps
  as_before e = inl (ap (λ (s : State). s.times) e)

  made : (step : Step) (outcome : Told → CallOutcome) → MakesAct step outcome old reply new → Keeps
  made step outcome m = inl (ap (λ (s : State). s.times) m.after)

  drawing : (step : Step) (outcome : Told → CallOutcome) → MakesAct step outcome (drawn old) reply new → Keeps
  drawing step outcome m = inl (ap (λ (s : State). s.times) m.after)

  timing : (step : Step) (outcome : Told → CallOutcome) (times : Option (List ℕ)) (time : ℕ) → Ticks old.times times time → MakesAct step outcome (timed times old) reply new → Keeps
  timing step outcome times time ticks m = inr (time, subst (λ o. Ticks old.times o time) (sym (ap (λ (s : State). s.times) m.after)) ticks)

  by_writer : (caller : ℕ) (stages : Stage → Bool) (id : ℕ) (does : Row → Type 0) → OnWriter caller stages id old reply new does → ((row : Row) → does row → Keeps) → Keeps
  by_writer caller stages id does on keeps = on_writer caller stages id old reply new does Keeps on as_before (λ row held. keeps row)

  by_holder : (caller number : ℕ) (does : Holder → Type 0) → OnHolder caller number old reply new does → ((h : Holder) → does h → Keeps) → Keeps
  by_holder caller number does on keeps = on_holder caller number old reply new does Keeps on as_before (λ h held. keeps h)

  by_flattening : (caller : ℕ) (stage : FlatStage) (id : ℕ) (does : Flattening → Type 0) → OnFlattening caller stage id old reply new does → ((f : Flattening) → does f → Keeps) → Keeps
  by_flattening caller stage id does on keeps = on_flattening caller stage id old reply new does Keeps on as_before (λ f flat. keeps f)

  by_check : (check : Option Refusal) (does : Type 0) → UnlessRefused check old reply new does → (does → Keeps) → Keeps
  by_check check does on keeps = unless_refused check old reply new does Keeps on as_before (λ none. keeps)

  flushing : (row : Row) (pending : List Entry) → FlushesRow row pending old reply new → Keeps
  flushing row [] f = as_before f.1
  flushing row (first ∷ rest) f = made _ _ f

  answers_ask : (caller : ℕ) (call : Call) → Answers old caller call reply new → Keeps
  answers_ask caller Greet a = as_before a.1
  answers_ask caller (Find name) a = made _ _ a.makes
  answers_ask caller (MakeContainer name) a = made _ _ a.makes
  answers_ask caller Rooms a = inl (ap (λ (s : State). s.times) a.after)
  answers_ask caller (Look room look) a = by_check _ _ a (λ m. made _ _ m)
  answers_ask caller (Enter room host most) a = by_check _ _ a (λ (e : EntersAs caller room host most old reply new). drawing _ _ e.makes)
  answers_ask caller (Floor writer) a = by_writer caller _ writer _ a (λ row (f : FloorsRow row old reply new). inl (ap (λ (s : State). s.times) f.after))
  answers_ask caller (MakeHostdir writer) a = by_writer caller _ writer _ a (λ row m. made _ _ m)
  answers_ask caller (MakeIndex writer) a = by_writer caller _ writer _ a (λ row m. made _ _ m)
  answers_ask caller (MakeLog writer) a = by_writer caller _ writer _ a (λ row m. made _ _ m)
  answers_ask caller (Write writer at block) a = by_writer caller _ writer _ a (λ row u. by_check _ _ u (λ (w : WritesAt row at block old reply new). timing _ _ w.times w.time w.ticks w.makes))
  answers_ask caller (Flush writer) a = by_writer caller _ writer _ a (λ row. flushing row row.pending.entries)
  answers_ask caller (SyncLog writer) a = by_writer caller _ writer _ a (λ row m. made _ _ m)
  answers_ask caller (SyncIndex writer) a = by_writer caller _ writer _ a (λ row m. made _ _ m)
  answers_ask caller (PutMeta writer) a = by_writer caller _ writer _ a (λ row u. by_check _ _ u (λ m. made _ _ m))
  answers_ask caller (Exit writer) a = by_writer caller _ writer _ a (λ row u. by_check _ _ u (λ m. made _ _ m))
  answers_ask caller (Hold room) a = by_check _ _ a (λ (h : HoldsRoom caller room old reply new). inl (ap (λ (s : State). s.times) h.after))
  answers_ask caller (Mark number size top) a = by_holder caller number _ a (λ h u. by_check _ _ u (λ (t : TruncatesAt h size top old reply new). timing _ _ t.times t.time t.ticks t.makes))
  answers_ask caller (Move number to) a = by_holder caller number _ a (λ h (r : RenamesRoom h to old reply new). made _ _ r.makes)
  answers_ask caller (Release number) a = by_holder caller number _ a (λ h m. made _ _ m)
  answers_ask caller (StartFlat room) a = by_check _ _ a (λ m. drawing _ _ m)
  answers_ask caller (PutFlat flat bytes) a = by_flattening caller flat_stage.Begun flat _ a (λ f m. made _ _ m)
  answers_ask caller (SyncFlat flat) a = by_flattening caller flat_stage.Put flat _ a (λ f m. made _ _ m)
  answers_ask caller (InstallFlat flat) a = by_flattening caller flat_stage.Synced flat _ a (λ f m. made _ _ m)
  answers_ask caller (StartPack room host writer) a = by_check _ _ a (λ (x : StartsPackOf caller room host writer old reply new). drawing _ _ x.makes)
  answers_ask caller (SyncDropping room host writer is_log) a = by_check _ _ a (λ (m : SyncsIt room host writer is_log old reply new). made _ _ m.makes)
  answers_ask caller (Inspect writer) a = by_check _ ((reply ≡ Done) × (new ≡ old)) a (λ m. as_before m.1)
  answers_ask caller (Mend room host writer count) a = by_check _ _ a (λ (m : MendsIt room host writer count old reply new). made _ _ m.makes)
  answers_ask caller (MendMeta room host cover last) a = by_check _ _ a (λ (m : MendsItsMeta room host cover last old reply new). made _ _ m.makes)
  answers_ask caller (Bury room host writer) a = by_check _ _ a (λ (m : BuriesIt room host writer old reply new). made _ _ m.makes)
  answers_ask caller (MendHold room) a = by_check _ _ a (λ m. made _ _ m)

-- a call that is broken off asks it where it would make a truncate's dropping
stop_asks : (call : Call) (part : Option Step) (old left : Option (List ℕ)) (time : ℕ) → TicksFor call part old left time → (left ≡ old) ⊎ ((t : ℕ) × Ticks old left t)
stop_asks (Mark holder size top) (Some step) old left time ticks = inr (time, ticks.1)
stop_asks call part old left time same = inl same

end_times : (told : Told) (reply : Reply) (at : State) (caller : ℕ) (new : State) → IsEndedBy told reply at caller new → new.times ≡ at.times
end_times (Err trouble.NoMemory) reply at caller new e = ap (λ (s : State). s.times) e.1
end_times (Err trouble.Fault) reply at caller new e = ap (λ (s : State). s.times) e.1
end_times (Ok answer) reply at caller new e = ap (λ (s : State). s.times) e.1

step_asks : (old new : State) (caller : ℕ) (ask : Ask) (reply : Reply) → IsStep old caller ask reply new → AsksOrNot old new
step_asks old new caller ask reply s = step_cases old caller ask reply new (AsksOrNot old new) s
    (λ none a. answers_ask old reply new caller ask.call a)
    (λ k some x. subst (λ o. (o ≡ old.times) ⊎ ((time : ℕ) × Ticks old.times o time)) (sym (end_times x.told reply (record (begun old ask.call) { store = x.store; times = x.times }) caller new x.after)) (stop_asks ask.call _ old.times x.times x.time x.ticks))

-- ---- in a history

left_next : (all : Option (List ℕ)) (old new : State) → AreLeft all old.times → AsksOrNot old new → AreLeft all new.times
left_next all old new left (inl same) = subst (AreLeft all) (sym same) left
left_next all old new left (inr (time, ticks)) = (ticked all old.times new.times time left ticks).0

pub left_after : (all : Option (List ℕ)) (m : Moment) (events : List Event) → IsLawful m.state events → AreLeft all m.state.times → AreLeft all (moment_after m events).state.times
left_after all m [] lawful left = left
left_after all m (e ∷ events) lawful left = left_after all (next_moment m e) events lawful.2 (left_next all m.state e.after left (step_asks m.state e.after e.caller e.ask e.reply lawful.1))

pub left_first : (times : Option (List ℕ)) (opened : Stored) (start : State) → IsMounted 0 times opened start → AreLeft times start.times
left_first times opened start mounted = subst (AreLeft times) (sym mounted.times_are) (by times refl)
  where
    by : (o : Option (List ℕ)) → times ≡ o → AreLeft times times
    by None is = none_told is is
    by (Some ts) is = some_left ts ts is is (λ t at. at) (λ none. none)
