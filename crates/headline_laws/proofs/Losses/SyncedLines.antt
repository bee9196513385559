-- Behind the line of a sync so many entries of the writer are kept as it tells.
use Rattle.std.proofs.Common.{◌≡◌, inl, inr, ℕ, Bool, true, false, List, [], ◌++◌, Option, Some, None, Result, Ok, Err, sym, ap, ◌∙◌, subst, arith, if◌then◌else◌}
use Rattle.mount_model.specs.declared.row.Row.{Row}
use Rattle.mount_model.specs.History.{Event, state_after}
use Rattle.mount_sound.specs.Owed.{IsLawful}
use Rattle.mount_model.specs.Running.{Runs}
use Rattle.mount_model.specs.declared.stuck.Stuck.{Stuck}
use Rattle.mount_model.specs.declared.stuck.Stuck.TheVariants as stuck
use Rattle.index_reader.specs.declared.opened.OpenReader.{OpenReader}
use Rattle.script_lang.specs.declared.line.Outcome.{Outcome}
use Rattle.script_lang.specs.declared.line.Outcome.TheVariants as line
use Rattle.script_lang.specs.declared.line.Why.TheVariants.{NotOpen}
use Rattle.script_lang.specs.declared.script.Statement.{Statement}
use Rattle.script_lang.specs.declared.script.Statement.TheVariants as say
use Rattle.writer_flow.specs.declared.handle.WriterHandle.{WriterHandle}
use Rattle.writer_flow.specs.declared.handle.WriterOut.{WriterOut}
use Rattle.writer_flow.specs.Syncing.{sync_program}
use Rattle.outcomes.specs.Outcomes.{sync_outcome}
use Rattle.actor_core.specs.declared.kept.Kept.{Kept}
use Rattle.actor_core.specs.declared.kept.Stop.{Stop}
use Rattle.actor_core.specs.Endings.{Ending, refused, stopped, synced}
use Rattle.actor_core.specs.Stopping.{carried}
use Rattle.actor_core.specs.Work.{finishes}
use Rattle.actor_core.specs.Writers.{syncs}
use Rattle.run_core.specs.Leading.{HadMemory}
use Rattle.reader_laws.specs.Moments.{Dropping, IsSoundAt, Moment, moment_after}
use Rattle.reader_laws.proofs.Gathered.Facts.{follows, moment-append}
use Rattle.writer_laws.specs.Counting.{entry_count}
use Rattle.writer_laws.specs.Knowing.{HasRow, IsSynced, Knows}
use Rattle.writer_laws.proofs.Facts.{sync_ends}
use Rattle.headline_laws.specs.OneFile.{OneFile}
use Rattle.headline_laws.specs.OneWriter.{OneWriter}
use Rattle.headline_laws.proofs.Plays.Facts.{ComesTo, Next}
use Rattle.headline.specs.Run.{Told}
use Rattle.headline.specs.Causes.{WasMade}
use Rattle.headline.specs.Writers.{Account}
use Rattle.headline_laws.proofs.Landed.Between.{AtPlace}
use Rattle.headline_laws.proofs.Landed.Bounded.{Keeps, at_statement}
use Rattle.headline_laws.proofs.Landed.Carried.{Carried, carried_ends, halted, ran}
use Rattle.headline_laws.proofs.Landed.Machines.{IsOpenSo, KeepsTo, sync_steady}
use Rattle.headline_laws.proofs.Landed.Syncs.{sync_within}
use Rattle.headline_laws.proofs.Landed.Writes.{HoldsNow, IsHandle, one_row}
use Rattle.headline_laws.proofs.Losses.KeptNow.{KeepsNow, marks_keep}
use Rattle.headline_laws.proofs.Statements.Did.{Did, Had, IsThere}
use Rattle.headline_laws.proofs.Statements.Does.{Ended, did, was_gone}
use Rattle.headline_laws.proofs.Story.Parts.{PartOf}
use Rattle.headline_laws.proofs.Story.Shown.{IsShown}

told_ok : (result : Result ℕ Stuck) (count : ℕ) → sync_outcome result ≡ line.Synced count → result ≡ Ok count
told_ok (Ok k) count is = cc
told_ok (Err stuck.Fault) count is = absurd (cc)
told_ok (Err (stuck.Damaged folder file place_of)) count is = absurd (cc)
told_ok (Err (stuck.Refused why)) count is = absurd (cc)

one_handle : (a b : WriterHandle) (o : Option WriterHandle) → o ≡ Some a → o ≡ Some b → a ≡ b
one_handle a b o p q = cc

-- ---- the statement

module _ (n : ℕ) (d : Dropping) (cap : ℕ) (left : Kept) (stop : Option Stop) (handle : WriterHandle) (m : Moment) (row : Row) (acc : Account) (latest : acc.latest ≡ true) (h : IsHandle d cap handle row) (place : AtPlace m n d row) (holds : HoldsNow m d row acc) where
  ran_keeps : (mine : List Event) (out : WriterOut) (count : ℕ) → IsLawful m.state mine → Runs n (sync_program handle) mine out → out.result ≡ Ok count → KeepsNow (moment_after m mine) d count
  ran_keeps mine out count lawful runs ok =
      let later : Moment = moment_after m mine in
      let e = sync_within n d cap handle m row acc mine out h place holds lawful runs in
      let knows : Knows n handle row m.state = record { has = subst (λ w. HasRow n w row m.state) (sym h.writer) place.has; pending = h.pending_is } in
      let y : IsSynced n handle (entry_count row) out (state_after m.state mine) = sync_ends n handle row m.state mine out knows lawful runs in
      let has : HasRow n y.handle.writer y.row later.state = subst (λ st. HasRow n y.handle.writer y.row st) (sym (follows m mine).0) y.knows.has in
      let rows : y.row ≡ e.row = one_row n d later y.row e.row (subst (λ w. HasRow n w y.row later.state) (y.same ∙ h.writer) has) e.at.has in
      let marks = y.marked count ok in
      marks_keep later n d e.row e.at count (omega (arith, marks.0, ap (λ (r : Row). r.index_mark) rows)) (sym (ap (λ (r : Row). r.log_mark) rows) ∙ marks.1 ∙ ap (λ (r : Row). r.stored) rows)

  sync_keeps : (mine : List Event) (spent : List (List Event)) (e : Ending) → IsLawful m.state mine → HadMemory mine → ComesTo n (syncs left stop (Some handle)) mine spent e → (count : ℕ) → e.outcome ≡ line.Synced count → KeepsNow (moment_after m mine) d count
  sync_keeps mine spent e lawful had comes count says =
      elim handle.closing as (λ b. ComesTo n (if b then finishes (refused left NotOpen) else carried (sync_program handle) stop (λ later out. finishes (synced left out)) (finishes (stopped left))) mine spent e → KeepsNow (moment_after m mine) d count) [
        | true ↦ λ c. absurd (let clash : line.Refused NotOpen ≡ line.Synced count = ap (λ (x : Ending). x.outcome) c.2 ∙ says in cc)
        | false ↦ λ c. by_end (carried_ends n d (λ out. synced left out) (stopped left) m acc (omega (arith, holds.least, holds.no_fewer)) (sync_program handle) stop m mine spent e (sync_steady handle) (λ more. record { row = row; at = place; issued = holds.issued_is; more = omega arith }) lawful had c)
      ] comes
    where
      by_end : Carried n d (λ out. synced left out) (stopped left) m acc (omega (arith, holds.least, holds.no_fewer)) (sync_program handle) m mine e → KeepsNow (moment_after m mine) d count
      by_end (ran out runs is) = ran_keeps mine out count lawful runs (told_ok out.result count (ap (λ (x : Ending). x.outcome) is ∙ says))
      by_end (halted is settled) = absurd (let clash : line.Stopped ≡ line.Synced count = ap (λ (x : Ending). x.outcome) is ∙ says in cc)

-- ---- its line

true_not_false : (b : Bool) → b ≡ true → b ≡ false → ⊥
true_not_false b x y = cc

had_writer : (count : ℕ) (w : Option WriterHandle) (reader : Option OpenReader) (z : Statement) (x : Outcome) → w ≡ None → z ≡ say.Sync → x ≡ line.Synced count → (WasMade x → Had w reader z) → ⊥
had_writer count w reader z x none is told uses = subst IsThere none (subst (Had w reader) is (uses (subst WasMade (sym told) tt)))

module _ (m : Moment) (sound : IsSoundAt m) (n : ℕ) (history : List Event) (blocks : List (List Event)) (whole : Next m [] history) (cap : ℕ) (d : Dropping) where
  module _ (kept : Kept) (file : Option OneFile) (writer : Option OneWriter) (t : Told) (p : PartOf n history blocks kept t.phase t.statement) (says : t.outcome ≡ p.e.outcome) (s : IsShown m sound n history blocks whole kept file writer t p.earlier p.mine) (acc : Account) where
    pub line_syncs : (count : ℕ) → acc.latest ≡ true → t.statement ≡ say.Sync → t.outcome ≡ line.Synced count → Keeps m sound n history blocks whole cap d p.earlier kept acc → KeepsNow (moment_after m (p.earlier ++ p.mine)) d count
    line_syncs count latest asked synced_so keeps = subst (λ x. KeepsNow x d count) (sym (moment-append m p.earlier p.mine)) (by keeps p.ended)
      where
        now : Moment
        now = moment_after m p.earlier

        told : p.e.outcome ≡ line.Synced count
        told = sym says ∙ synced_so

        here : (o : IsOpenSo n d cap now kept acc) → kept.gone ≡ false → Did kept.armed false None kept.writer kept.reader t.statement p.e → KeepsNow (moment_after now p.mine) d count
        here o alive dd =
            let a = at_statement m sound n history blocks whole cap d kept file writer t p says s acc o alive dd say.Sync asked in
            subst (λ x. KeepsNow x d count) a.ends
            (sync_keeps n d cap a.left a.armed o.handle a.mid o.row acc latest o.is a.at a.holds a.rest p.spent p.e a.lawful a.had
            (subst (λ w. ComesTo n (syncs a.left a.armed w) a.rest p.spent p.e) a.has a.comes) count told)

        by : KeepsTo n d cap now kept acc → Ended kept t.statement p.e → KeepsNow (moment_after now p.mine) d count
        by keeps_so (was_gone is over after) = absurd (let clash : line.Gone ≡ line.Synced count = sym over ∙ told in cc)
        by (inl o) (did alive dd) = here o alive dd
        by (inr o) (did alive dd) = elim (o.idle latest) as (λ _. KeepsNow (moment_after now p.mine) d count) [
          | inl is ↦ absurd (true_not_false kept.gone is alive)
          | inr none ↦ absurd (had_writer count kept.writer kept.reader t.statement p.e.outcome none asked told dd.uses)
        ]
