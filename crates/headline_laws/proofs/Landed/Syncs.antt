-- What a sync leaves of its writer: it stays as its line tells of it.
use Rattle.std.proofs.Common.{◌≡◌, ℕ, true, false, nat_eq, List, ◌∷◌, length, Result, Ok, Err, refl, ap, sym, ◌∙◌, subst, arith}
use Rattle.std.specs.Prelude.{if◌then◌else◌}
use Rattle.std.proofs.lemmas.Bool.Decides.{nat_tests}
use Rattle.mount_model.specs.declared.stuck.Stuck.{Stuck}
use Rattle.mount_model.specs.declared.stuck.Stuck.TheVariants as stuck
use Rattle.mount_model.specs.Running.{Runs, unbroken}
use Rattle.mount_model.specs.Program.{ask, done}
use Rattle.mount_model.specs.declared.call.Ask.{Ask}
use Rattle.mount_model.specs.declared.call.Call.{Call}
use Rattle.mount_model.specs.declared.call.Call.TheVariants.{Flush, SyncIndex, SyncLog}
use Rattle.mount_model.specs.declared.reply.Reply.{Reply}
use Rattle.mount_model.specs.declared.reply.Reply.TheVariants as reply
use Rattle.mount_model.specs.declared.row.Row.{Row}
use Rattle.mount_model.specs.History.{Event}
use Rattle.mount_model.specs.Step.{Answers}
use Rattle.mount_sound.specs.Owed.{IsLawful}
use Rattle.writer_flow.specs.declared.handle.WriterHandle.{WriterHandle}
use Rattle.writer_flow.specs.declared.handle.WriterOut.{WriterOut}
use Rattle.writer_flow.specs.Ending.{stays_with, trouble}
use Rattle.writer_flow.specs.Handle.{flushed_of, synced_of}
use Rattle.writer_flow.specs.Syncing.{flushes_and_syncs, if_log_synced, if_synced, sync_program, syncs_index}
use Rattle.writer_flow.specs.Writing.{if_flushed}
use Rattle.reader_laws.specs.Bounds.{SparesIndex}
use Rattle.reader_laws.specs.Moments.{Dropping, Moment, landed, moment_after, next_moment}
use Rattle.writer_laws.specs.Counting.{StaysInAt, entry_count}
use Rattle.writer_laws.proofs.Own.{LogSyncedOwn, MarkedOwn, SyncedOwn, sync_index_own, sync_log_own}
use Rattle.outcomes.specs.Outcomes.{sync_outcome}
use Rattle.headline.specs.Writers.{Account, after_sync, all_landed, any_landed}
use Rattle.headline_laws.proofs.Landed.Between.{AtPlace}
use Rattle.headline_laws.proofs.Landed.Numbers.{Holds, holds_all, holds_any}
use Rattle.headline_laws.proofs.Landed.Reaching.{reach}
use Rattle.headline_laws.proofs.Landed.Sparing.{spared_next}
use Rattle.headline_laws.proofs.Landed.Writes.{EndsWithin, FlushNext, HoldsNow, IsHandle, OwnNext, all_counted, flush_any, flush_next, one_row, own_next, settled}

-- what the result of a sync or a close tells
abbrev pub if_synced_all : Account → Result ℕ Stuck → Account
if_synced_all acc (Ok count) = all_landed count acc
if_synced_all acc (Err why) = any_landed acc

module _ (me : ℕ) (d : Dropping) where
  -- ---- a call that changes marks alone

  record MarkNext (m : Moment) (e : Event) (row : Row) : Type 0 where
    pub after : Row
    pub at : AtPlace (next_moment m e) me d after
    pub same : landed (next_moment m e) d ≡ landed m d
    pub total : entry_count after ≡ entry_count row
    pub pending : length after.pending.entries ≡ length row.pending.entries
    pub counted : after.landed ≡ row.landed

  mark_next : (m : Moment) (e : Event) (rest : List Event) (q : Call) (row : Row) → AtPlace m me d row → IsLawful m.state (e ∷ rest) → e.ask ≡ unbroken q → StaysInAt d.writer q e.reply → SparesIndex q d → MarkedOwn me d.writer row e.after → MarkNext m e row
  mark_next m e rest q row place lawful asked stays spares k =
      let o : OwnNext me d m e q row = own_next me d m e rest q row place lawful asked stays in
      let same : k.after ≡ o.after = one_row me d (next_moment m e) k.after o.after k.has o.at.has in
      record {
        after = k.after;
        at = record { sound = o.at.sound; has = k.has; room = ap (λ (r : Row). r.room) same ∙ o.at.room; host = ap (λ (r : Row). r.host) same ∙ o.at.host };
        same = spared_next m e rest me d row place lawful (λ mine. subst (λ c. SparesIndex c d) (sym (ap (λ (a : Ask). a.call) asked)) spares);
        total = k.total;
        pending = k.pending;
        counted = k.landed;
      }

  held_still : (m : Moment) (e : Event) (row : Row) (acc : Account) → (k : MarkNext m e row) → HoldsNow m d row acc → HoldsNow (next_moment m e) d k.after acc
  held_still m e row acc k holds =
      subst (λ n. Holds (entry_count k.after) k.after.landed n acc) (sym k.same) (subst (λ n. Holds (entry_count k.after) n (landed m d) acc) (sym k.counted) (subst (λ n. Holds n row.landed (landed m d) acc) (sym k.total) holds))

  -- ---- the ends of a sync

  failed_so : (capacity : ℕ) (handle : WriterHandle) (rep : Reply) (m : Moment) (row : Row) (acc : Account) (events : List Event) (out : WriterOut) → IsHandle d capacity handle row → AtPlace m me d row → HoldsNow m d row (any_landed acc) → IsLawful m.state events
      → Runs me (done (stays_with handle (Err (trouble rep)))) events out → EndsWithin me d capacity (moment_after m events) out (if_synced_all acc out.result)
  failed_so capacity handle rep m row acc events out h at holds lawful runs =
      let s = settled me d capacity handle (Err (trouble rep)) m row (any_landed acc) events out h at holds lawful runs in
      subst (λ r. EndsWithin me d capacity (moment_after m events) out (if_synced_all acc r)) s.1 s.0

  any_now : (m : Moment) (row : Row) (acc : Account) → HoldsNow m d row acc → HoldsNow m d row (any_landed acc)
  any_now m row acc holds = holds_any (entry_count row) row.landed (landed m d) row.landed (landed m d) acc holds (omega arith) holds.no_fewer holds.no_more

  after_index : (capacity : ℕ) (handle : WriterHandle) (row : Row) (acc : Account) (rep : Reply) (m : Moment) (events : List Event) (out : WriterOut) → IsHandle d capacity handle row → AtPlace m me d row → HoldsNow m d row acc → length row.pending.entries ≡ 0 → ((n : ℕ) → rep ≡ reply.Synced n → n ≡ entry_count row) → IsLawful m.state events → Runs me (if_synced handle rep) events out
      → EndsWithin me d capacity (moment_after m events) out (if_synced_all acc out.result)
  after_index capacity handle row acc (reply.Synced n) m events out h at holds none number lawful runs =
      let c = all_counted me d m row at none in
      let all : HoldsNow m d row (all_landed n acc) =
      subst (λ k. Holds (entry_count row) row.landed k (all_landed n acc)) (sym c.1) (subst (λ k. Holds (entry_count row) k (entry_count row) (all_landed n acc)) (sym c.0) (holds_all (entry_count row) n acc holds.issued_is (number n refl))) in
      let s = settled me d capacity (synced_of n handle) (Ok n) m row (all_landed n acc) events out (record { writer = h.writer; cap_is = h.cap_is; pending_is = h.pending_is }) at all lawful runs in
      subst (λ r. EndsWithin me d capacity (moment_after m events) out (if_synced_all acc r)) s.1 s.0
  after_index capacity handle row acc rep m events out h at holds none number lawful runs = failed_so capacity handle rep m row acc events out h at (any_now m row acc holds) lawful runs

  -- SyncIndex is next, and nothing is pending
  before_index : (capacity : ℕ) (handle : WriterHandle) (m : Moment) (row : Row) (acc : Account) (events : List Event) (out : WriterOut) → IsHandle d capacity handle row → AtPlace m me d row → HoldsNow m d row acc → length row.pending.entries ≡ 0 → IsLawful m.state events → Runs me (syncs_index handle) events out
      → EndsWithin me d capacity (moment_after m events) out (if_synced_all acc out.result)
  before_index capacity handle m row acc events out h place holds none lawful runs =
      let g = reach me d m row (SyncIndex handle.writer) (if_synced handle) events out place lawful runs in
      let asked : g.event.ask ≡ unbroken (SyncIndex d.writer) = g.asked ∙ ap (λ w. unbroken (SyncIndex w)) h.writer in
      let o : SyncedOwn me d.writer row g.event.reply g.event.after = sync_index_own me d.writer row g.mid.state g.event.reply g.event.after g.at.has (subst (λ w. Answers g.mid.state me (SyncIndex w) g.event.reply g.event.after) h.writer g.answers) in
      let k = mark_next g.mid g.event g.rest (SyncIndex d.writer) row g.at g.lawful asked tt tt o.is_marked in
      let here : HoldsNow g.mid d row acc = subst (λ n. Holds (entry_count row) row.landed n acc) (sym g.same) holds in
      let next : Moment = next_moment g.mid g.event in
      subst (λ x. EndsWithin me d capacity x out (if_synced_all acc out.result)) g.ends
      (after_index capacity handle k.after acc g.event.reply next g.rest out (record { writer = h.writer; cap_is = h.cap_is; pending_is = h.pending_is ∙ sym k.pending }) k.at (held_still g.mid g.event row acc k here) (k.pending ∙ none)
      (λ n said. omega (arith, o.number n said, none, k.total)) g.lawful.2 g.runs)

  after_flush : (capacity : ℕ) (handle : WriterHandle) (row : Row) (acc : Account) (m : Moment) (e : Event) (rep : Reply) (rest : List Event) (out : WriterOut) → e.reply ≡ rep → IsHandle d capacity handle row → AtPlace m me d row → HoldsNow m d row acc → FlushNext me d m e row → IsLawful (next_moment m e).state rest
      → Runs me (if_flushed handle (syncs_index (flushed_of handle)) rep) rest out → EndsWithin me d capacity (moment_after (next_moment m e) rest) out (if_synced_all acc out.result)
  after_flush capacity handle row acc m e (reply.Flushed n) rest out is h place holds f lawful runs =
      let next : Moment = next_moment m e in
      let c = all_counted me d next f.after f.at (f.emptied n is) in
      let any : HoldsNow next d f.after (any_landed acc) = flush_any me d m e row acc place holds f (omega (arith, c.0, f.total)) in
      as_any acc (EndsWithin me d capacity (moment_after next rest) out) out.result
      (before_index capacity (flushed_of handle) next f.after (any_landed acc) rest out (record { writer = h.writer; cap_is = h.cap_is; pending_is = sym (f.emptied n is) }) f.at any (f.emptied n is) lawful runs)
    where
      as_any : (s : Account) (E : Account → Type 0) (result : Result ℕ Stuck) → E (if_synced_all (any_landed s) result) → E (if_synced_all s result)
      as_any s E (Ok count) x = x
      as_any s E (Err why) x = x
  after_flush capacity handle row acc m e rep rest out is h place holds f lawful runs =
      let never : (n : ℕ) → rep ≡ reply.Flushed n → ⊥ = λ n said. cc in
      let same : row ≡ f.after = sym (f.kept (λ n said. never n (sym is ∙ said))) in
      let any : HoldsNow (next_moment m e) d f.after (any_landed acc) = flush_any me d m e row acc place holds f (omega (arith, ap (λ (r : Row). r.landed) same)) in
      failed_so capacity handle rep (next_moment m e) f.after acc rest out (record { writer = h.writer; cap_is = h.cap_is; pending_is = h.pending_is ∙ ap (λ (r : Row). length r.pending.entries) same }) f.at any lawful runs

  before_flush : (capacity : ℕ) (handle : WriterHandle) (m : Moment) (row : Row) (acc : Account) (events : List Event) (out : WriterOut) → IsHandle d capacity handle row → AtPlace m me d row → HoldsNow m d row acc → IsLawful m.state events → Runs me (flushes_and_syncs handle) events out
      → EndsWithin me d capacity (moment_after m events) out (if_synced_all acc out.result)
  before_flush capacity handle m row acc events out h place holds lawful runs =
      elim (nat_eq handle.pending 0) as (λ b. nat_eq handle.pending 0 ≡ b → Runs me (if b then syncs_index handle else ask (Flush handle.writer) (if_flushed handle (syncs_index (flushed_of handle)))) events out → EndsWithin me d capacity (moment_after m events) out (if_synced_all acc out.result)) [
        | true ↦ λ t on. let none : handle.pending ≡ 0 = grind (arith, nat_tests) in before_index capacity handle m row acc events out h place holds (sym h.pending_is ∙ none) lawful on
        | false ↦ λ t on.
            let g = reach me d m row (Flush handle.writer) (if_flushed handle (syncs_index (flushed_of handle))) events out place lawful on in
            let asked : g.event.ask ≡ unbroken (Flush d.writer) = g.asked ∙ ap (λ w. unbroken (Flush w)) h.writer in
            let f = flush_next me d g.mid g.event g.rest row g.at g.lawful asked (subst (λ w. Answers g.mid.state me (Flush w) g.event.reply g.event.after) h.writer g.answers) in
            let here : HoldsNow g.mid d row acc = subst (λ k. Holds (entry_count row) row.landed k acc) (sym g.same) holds in
            subst (λ x. EndsWithin me d capacity x out (if_synced_all acc out.result)) g.ends
            (after_flush capacity handle row acc g.mid g.event g.event.reply g.rest out refl h g.at here f g.lawful.2 g.runs)
      ] refl runs

  after_log : (capacity : ℕ) (handle : WriterHandle) (row : Row) (acc : Account) (rep : Reply) (m : Moment) (events : List Event) (out : WriterOut) → IsHandle d capacity handle row → AtPlace m me d row → HoldsNow m d row acc → IsLawful m.state events → Runs me (if_log_synced handle rep) events out
      → EndsWithin me d capacity (moment_after m events) out (if_synced_all acc out.result)
  after_log capacity handle row acc reply.Done m events out h at holds lawful runs = before_flush capacity handle m row acc events out h at holds lawful runs
  after_log capacity handle row acc rep m events out h at holds lawful runs = failed_so capacity handle rep m row acc events out h at (any_now m row acc holds) lawful runs

  -- what a result leaves is what the line tells
  by_line : (acc : Account) (result : Result ℕ Stuck) (E : Account → Type 0) → E (if_synced_all acc result) → E (after_sync acc (sync_outcome result))
  by_line acc (Ok n) E x = x
  by_line acc (Err stuck.Fault) E x = x
  by_line acc (Err (stuck.Damaged folder file place)) E x = x
  by_line acc (Err (stuck.Refused why)) E x = x

  pub sync_ends_within : (capacity : ℕ) (handle : WriterHandle) (m : Moment) (row : Row) (acc : Account) (events : List Event) (out : WriterOut) → IsHandle d capacity handle row → AtPlace m me d row → HoldsNow m d row acc → IsLawful m.state events → Runs me (sync_program handle) events out
      → EndsWithin me d capacity (moment_after m events) out (if_synced_all acc out.result)
  sync_ends_within capacity handle m row acc events out h place holds lawful runs =
      let g = reach me d m row (SyncLog handle.writer) (if_log_synced handle) events out place lawful runs in
      let asked : g.event.ask ≡ unbroken (SyncLog d.writer) = g.asked ∙ ap (λ w. unbroken (SyncLog w)) h.writer in
      let o : LogSyncedOwn me d.writer row g.event.reply g.event.after = sync_log_own me d.writer row g.mid.state g.event.reply g.event.after g.at.has (subst (λ w. Answers g.mid.state me (SyncLog w) g.event.reply g.event.after) h.writer g.answers) in
      let k = mark_next g.mid g.event g.rest (SyncLog d.writer) row g.at g.lawful asked tt tt o.is_marked in
      let here : HoldsNow g.mid d row acc = subst (λ n. Holds (entry_count row) row.landed n acc) (sym g.same) holds in
      subst (λ x. EndsWithin me d capacity x out (if_synced_all acc out.result)) g.ends
      (after_log capacity handle k.after acc g.event.reply (next_moment g.mid g.event) g.rest out (record { writer = h.writer; cap_is = h.cap_is; pending_is = h.pending_is ∙ sym k.pending }) k.at (held_still g.mid g.event row acc k here) g.lawful.2 g.runs)

  -- A sync leaves its writer as its line tells of it.
  pub sync_within : (capacity : ℕ) (handle : WriterHandle) (m : Moment) (row : Row) (acc : Account) (events : List Event) (out : WriterOut) → IsHandle d capacity handle row → AtPlace m me d row → HoldsNow m d row acc → IsLawful m.state events → Runs me (sync_program handle) events out
      → EndsWithin me d capacity (moment_after m events) out (after_sync acc (sync_outcome out.result))
  sync_within capacity handle m row acc events out h place holds lawful runs =
      by_line acc out.result (EndsWithin me d capacity (moment_after m events) out) (sync_ends_within capacity handle m row acc events out h place holds lawful runs)
