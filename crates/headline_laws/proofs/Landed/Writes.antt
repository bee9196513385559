-- What a write leaves of its writer: it stays as its line tells of it.
use Rattle.std.proofs.Common.{◌≡◌, ◌≤◌, ◌<◌, ◌+◌, inl, inr, ℕ, true, false, nat_eq, nat_le, List, ◌∷◌, length, Option, Some, Result, Ok, Err, refl, ap, sym, ◌∙◌, subst, arith}
use Rattle.std.specs.Prelude.{if◌then◌else◌}
use Rattle.std.proofs.lemmas.Bool.Decides.{nat_tests}
use Rattle.mount_model.specs.declared.stuck.Stuck.{Stuck}
use Rattle.mount_model.specs.declared.stuck.Stuck.TheVariants as stuck
use Rattle.mount_model.specs.Running.{Runs, unbroken}
use Rattle.mount_model.specs.Program.{ask, done}
use Rattle.mount_model.specs.declared.call.Ask.{Ask}
use Rattle.mount_model.specs.declared.call.Call.{Call}
use Rattle.mount_model.specs.declared.call.Call.TheVariants.{Flush, Write}
use Rattle.mount_model.specs.declared.reply.Refusal.TheVariants as refusal
use Rattle.mount_model.specs.declared.reply.Reply.{Reply}
use Rattle.mount_model.specs.declared.reply.Reply.TheVariants as reply
use Rattle.mount_model.specs.declared.row.Row.{Row}
use Rattle.mount_model.specs.History.{Event}
use Rattle.mount_model.specs.Replies.{FitsAsk, FitsCall, damaged, fault, no_memory, refused}
use Rattle.mount_model.specs.Table.{row_of}
use Rattle.mount_model.specs.Step.{Answers}
use Rattle.mount_model.proofs.Facts.{step_fits}
use Rattle.mount_sound.specs.Owed.{IsLawful}
use Rattle.writer_flow.specs.declared.handle.WriterHandle.{WriterHandle}
use Rattle.writer_flow.specs.declared.handle.WriterOut.{WriterOut}
use Rattle.writer_flow.specs.Ending.{stays_with, trouble}
use Rattle.writer_flow.specs.Handle.{flushed_of, one_more_of}
use Rattle.writer_flow.specs.Writing.{if_flushed, if_wrote, write_program, writes}
use Rattle.reader_laws.specs.Bounds.{SparesIndex}
use Rattle.reader_laws.specs.Moments.{Dropping, Moment, landed, moment_after, next_moment}
use Rattle.reader_laws.proofs.Gathered.Moments.Stepping.{sound_next}
use Rattle.writer_laws.specs.Counting.{StaysInAt, entry_count, wrote_by, wrote_count}
use Rattle.writer_laws.specs.Knowing.{HasRow}
use Rattle.writer_laws.proofs.Own.{FlushedOwn, WroteOwn, flush_own, write_own}
use Rattle.writer_laws.proofs.Stops.{any_kept}
use Rattle.outcomes.specs.Outcomes.{write_outcome}
use Rattle.headline.specs.Writers.{Account, after_write, any_landed, made_room, one_more}
use Rattle.headline_laws.proofs.Landed.Between.{AtPlace, IsBetween, between}
use Rattle.headline_laws.proofs.Landed.Numbers.{Holds, holds_any, holds_emptied, holds_one, holds_unfilled}
use Rattle.headline_laws.proofs.Landed.Reaching.{over, reach}
use Rattle.headline_laws.proofs.Landed.Sparing.{spared_next}

-- the handle is of the writer, tells of its buffer, and that has this capacity
pub record IsHandle (d : Dropping) (capacity : ℕ) (handle : WriterHandle) (row : Row) : Type 0 where
  pub writer : handle.writer ≡ d.writer
  pub cap_is : handle.cap ≡ capacity
  pub pending_is : handle.pending ≡ length row.pending.entries

-- the table and the tree have it as the lines tell of it
abbrev pub HoldsNow : Moment → Dropping → Row → Account → Type 0
HoldsNow m d row acc = Holds (entry_count row) row.landed (landed m d) acc

same_row : (a b : Row) (o : Option Row) → o ≡ Some a → o ≡ Some b → a ≡ b
same_row a b o p q = cc

module _ (me : ℕ) (d : Dropping) where
  -- ---- the caller's own call

  pub record OwnNext (m : Moment) (e : Event) (q : Call) (row : Row) : Type 0 where
    pub after : Row
    pub at : AtPlace (next_moment m e) me d after
    pub total : entry_count after ≡ entry_count row + wrote_by d.writer q e.reply

  pub own_next : (m : Moment) (e : Event) (rest : List Event) (q : Call) (row : Row) → AtPlace m me d row → IsLawful m.state (e ∷ rest) → e.ask ≡ unbroken q → StaysInAt d.writer q e.reply → OwnNext m e q row
  own_next m e rest q row at lawful asked stays =
      let is : e.ask.call ≡ q = ap (λ (a : Ask). a.call) asked in
      let k = any_kept me d.writer row m.state e.caller e.ask e.reply e.after at.has lawful.1 (subst (λ c. StaysInAt d.writer c e.reply) (sym is) stays) in
      record {
        after = k.after;
        at = record { sound = sound_next m e rest lawful at.sound; has = k.has; room = k.placed.0 ∙ at.room; host = k.placed.1 ∙ at.host };
        total = subst (λ c. entry_count k.after ≡ entry_count row + wrote_by d.writer c e.reply) is k.total;
      }

  pub one_row : (m : Moment) (a b : Row) → HasRow me d.writer a m.state → HasRow me d.writer b m.state → a ≡ b
  one_row m a b x y = same_row a b (row_of d.writer m.state.table.writers) x.there y.there

  -- ---- a flush

  pub record FlushNext (m : Moment) (e : Event) (row : Row) : Type 0 where
    pub after : Row
    pub at : AtPlace (next_moment m e) me d after
    pub total : entry_count after ≡ entry_count row
    pub emptied : (n : ℕ) → e.reply ≡ reply.Flushed n → length after.pending.entries ≡ 0
    pub kept : ((n : ℕ) → e.reply ≡ reply.Flushed n → ⊥) → after ≡ row

  pub flush_next : (m : Moment) (e : Event) (rest : List Event) (row : Row) → AtPlace m me d row → IsLawful m.state (e ∷ rest) → e.ask ≡ unbroken (Flush d.writer) → Answers m.state me (Flush d.writer) e.reply e.after → FlushNext m e row
  flush_next m e rest row at lawful asked answers =
      let f : FlushedOwn me d.writer row e.reply e.after = flush_own me d.writer row m.state e.reply e.after at.has answers in
      let o : OwnNext m e (Flush d.writer) row = own_next m e rest (Flush d.writer) row at lawful asked tt in
      let same : f.after ≡ o.after = one_row (next_moment m e) f.after o.after f.has o.at.has in
      record {
        after = f.after;
        at = record { sound = o.at.sound; has = f.has; room = ap (λ (r : Row). r.room) same ∙ o.at.room; host = ap (λ (r : Row). r.host) same ∙ o.at.host };
        total = f.total;
        emptied = f.empty;
        kept = f.kept;
      }

  -- after it what is told holds still where anything may have landed
  pub flush_any : (m : Moment) (e : Event) (row : Row) (acc : Account) → AtPlace m me d row → HoldsNow m d row acc → (f : FlushNext m e row) → row.landed ≤ f.after.landed → HoldsNow (next_moment m e) d f.after (any_landed acc)
  flush_any m e row acc at h f more =
      let b : IsBetween (next_moment m e) d f.after = between (next_moment m e) me d f.after f.at in
      subst (λ n. Holds n f.after.landed (landed (next_moment m e) d) (any_landed acc)) (sym f.total)
      (holds_any (entry_count row) row.landed (landed m d) f.after.landed (landed (next_moment m e) d) acc h more b.no_fewer (omega (arith, b.no_more, f.total)))

  -- all of its entries have landed
  pub all_counted : (m : Moment) (row : Row) → AtPlace m me d row → length row.pending.entries ≡ 0 → (row.landed ≡ entry_count row) × (landed m d ≡ entry_count row)
  all_counted m row at none =
      let b : IsBetween m d row = between m me d row at in
      let count : row.landed ≡ entry_count row = omega (arith, none) in
      (count, omega (arith, count, b.no_fewer, b.no_more))

  -- ---- the write

  pub record WriteNext (m : Moment) (e : Event) (row : Row) : Type 0 where
    pub after : Row
    pub at : AtPlace (next_moment m e) me d after
    pub same : landed (next_moment m e) d ≡ landed m d
    pub more : (n : ℕ) → e.reply ≡ reply.Wrote n → (length after.pending.entries ≡ length row.pending.entries + 1) × (after.landed ≡ row.landed)
    pub kept : ((n : ℕ) → e.reply ≡ reply.Wrote n → ⊥) → after ≡ row

  itself : (n : ℕ) (x : ℕ) → (if nat_eq n n then x else 0) ≡ x
  itself n x =
      let t : nat_eq n n ≡ true = grind (arith, nat_tests) in
      rw t refl

  write_next : (m : Moment) (e : Event) (rest : List Event) (at : ℕ) (block : List ℕ) (row : Row) → AtPlace m me d row → IsLawful m.state (e ∷ rest) → e.ask ≡ unbroken (Write d.writer at block) → Answers m.state me (Write d.writer at block) e.reply e.after → WriteNext m e row
  write_next m e rest at block row place lawful asked answers =
      let w : WroteOwn me d.writer row e.reply e.after = write_own me d.writer row at block m.state e.reply e.after place.has answers in
      let o : OwnNext m e (Write d.writer at block) row = own_next m e rest (Write d.writer at block) row place lawful asked tt in
      let same : w.after ≡ o.after = one_row (next_moment m e) w.after o.after w.has o.at.has in
      let total : entry_count w.after ≡ entry_count row + wrote_count e.reply = ap (λ (r : Row). entry_count r) same ∙ o.total ∙ ap (λ n. entry_count row + n) (itself d.writer (wrote_count e.reply)) in
      record {
        after = w.after;
        at = record { sound = o.at.sound; has = w.has; room = ap (λ (r : Row). r.room) same ∙ o.at.room; host = ap (λ (r : Row). r.host) same ∙ o.at.host };
        same = spared_next m e rest me d row place lawful (λ mine. subst (λ c. SparesIndex c d) (sym (ap (λ (a : Ask). a.call) asked)) tt);
        more = λ n said.
            let one : wrote_count e.reply ≡ 1 = ap wrote_count said in
            (w.more n said, omega (arith, total, one, w.more n said));
        kept = w.kept;
      }

  -- it ended so: the handle that is left tells of the buffer, and the writer is as the lines tell of it
  pub record EndsWithin (capacity : ℕ) (m : Moment) (out : WriterOut) (acc : Account) : Type 0 where
    pub handle : WriterHandle
    pub row : Row
    pub kept : out.handle ≡ Some handle
    pub is : IsHandle d capacity handle row
    pub at : AtPlace m me d row
    pub holds : HoldsNow m d row acc

  -- what the write by itself leaves of what is told
  abbrev pub if_told : ℕ → List ℕ → Account → Result ℕ Stuck → Account
  if_told at block acc (Ok stamp) = one_more d.writer at block stamp acc
  if_told at block acc (Err why) = acc

  pub settled : (capacity : ℕ) (handle : WriterHandle) (result : Result ℕ Stuck) (m : Moment) (row : Row) (acc : Account) (events : List Event) (out : WriterOut) → IsHandle d capacity handle row → AtPlace m me d row → HoldsNow m d row acc → IsLawful m.state events
      → Runs me (done (stays_with handle result)) events out → EndsWithin capacity (moment_after m events) out acc × (result ≡ out.result)
  settled capacity handle result m row acc events out h at holds lawful runs =
      let o = over me d m row (stays_with handle result) events out at lawful runs in (
        record {
          handle = handle;
          row = row;
          kept = sym (ap (λ (x : WriterOut). x.handle) o.is);
          is = h;
          at = o.at;
          holds = subst (λ k. Holds (entry_count row) row.landed k acc) (sym o.same) holds;
        },
        ap (λ (x : WriterOut). x.result) o.is,
      )

  wrote_so : (capacity at : ℕ) (block : List ℕ) (handle : WriterHandle) (row : Row) (acc : Account) (m : Moment) (rep : Reply) (after : Row) (events : List Event) (out : WriterOut) → IsHandle d capacity handle row → AtPlace m me d after → Holds (entry_count row) row.landed (landed m d) acc
      → ((k : ℕ) → rep ≡ reply.Wrote k → (length after.pending.entries ≡ length row.pending.entries + 1) × (after.landed ≡ row.landed)) → (((k : ℕ) → rep ≡ reply.Wrote k → ⊥) → after ≡ row) → IsLawful m.state events → Runs me (if_wrote handle rep) events out
      → EndsWithin capacity (moment_after m events) out (if_told at block acc out.result)
  wrote_so capacity at block handle row acc m (reply.Wrote k) after events out h there holds more kept lawful runs =
      let x = more k refl in
      let next : Account = one_more d.writer at block k acc in
      let total : entry_count row + 1 ≡ entry_count after = omega (arith, x.0, x.1) in
      let one : HoldsNow m d after next = subst (λ c. Holds (entry_count after) c (landed m d) next) (sym x.1) (subst (λ c. Holds c row.landed (landed m d) next) total (holds_one (entry_count row) row.landed (landed m d) d.writer at block k acc holds)) in
      let s = settled capacity (one_more_of handle) (Ok k) m after next events out (record { writer = h.writer; cap_is = h.cap_is; pending_is = ap (λ c. c + 1) h.pending_is ∙ sym x.0 }) there one lawful runs in
      subst (λ r. EndsWithin capacity (moment_after m events) out (if_told at block acc r)) s.1 s.0
  wrote_so capacity at block handle row acc m rep after events out h there holds more kept lawful runs =
      let same : row ≡ after = sym (kept (λ k e. cc)) in
      let s = settled capacity handle (Err (trouble rep)) m after acc events out (record { writer = h.writer; cap_is = h.cap_is; pending_is = h.pending_is ∙ ap (λ (r : Row). length r.pending.entries) same }) there (subst (λ r. HoldsNow m d r acc) same holds) lawful runs in
      subst (λ r. EndsWithin capacity (moment_after m events) out (if_told at block acc r)) s.1 s.0

  before_write : (capacity : ℕ) (handle : WriterHandle) (m : Moment) (row : Row) (acc : Account) (at : ℕ) (block : List ℕ) (events : List Event) (out : WriterOut) → IsHandle d capacity handle row → AtPlace m me d row → HoldsNow m d row acc → IsLawful m.state events → Runs me (writes handle at block) events out
      → EndsWithin capacity (moment_after m events) out (if_told at block acc out.result)
  before_write capacity handle m row acc at block events out h place holds lawful runs =
      let g = reach me d m row (Write handle.writer at block) (if_wrote handle) events out place lawful runs in
      let asked : g.event.ask ≡ unbroken (Write d.writer at block) = g.asked ∙ ap (λ w. unbroken (Write w at block)) h.writer in
      let w = write_next g.mid g.event g.rest at block row g.at g.lawful asked (subst (λ w. Answers g.mid.state me (Write w at block) g.event.reply g.event.after) h.writer g.answers) in
      let here : Holds (entry_count row) row.landed (landed (next_moment g.mid g.event) d) acc = subst (λ k. Holds (entry_count row) row.landed k acc) (sym (w.same ∙ g.same)) holds in
      subst (λ x. EndsWithin capacity x out (if_told at block acc out.result)) g.ends
      (wrote_so capacity at block handle row acc (next_moment g.mid g.event) g.event.reply w.after g.rest out h w.at here w.more w.kept g.lawful.2 g.runs)

  -- ---- by its line

  -- what the line tells of a write that got to be made
  pick : (capacity : ℕ) (acc : Account) (at : ℕ) (block : List ℕ) (result : Result ℕ Stuck) (E : Account → Type 0) → E (if_told at block (made_room capacity acc) result) → E (if_told at block (any_landed acc) result) → E (after_write d.writer capacity at block acc (write_outcome at (length block) result))
  pick capacity acc at block (Ok stamp) E made any = made
  pick capacity acc at block (Err stuck.Fault) E made any = any
  pick capacity acc at block (Err (stuck.Damaged folder file place)) E made any = any
  pick capacity acc at block (Err (stuck.Refused refusal.TooFar)) E made any = made
  pick capacity acc at block (Err (stuck.Refused refusal.StampsSpent)) E made any = made
  pick capacity acc at block (Err (stuck.Refused refusal.NoRoom)) E made any = any
  pick capacity acc at block (Err (stuck.Refused refusal.Held)) E made any = any
  pick capacity acc at block (Err (stuck.Refused (refusal.Busy host id))) E made any = any
  pick capacity acc at block (Err (stuck.Refused refusal.Exists)) E made any = any
  pick capacity acc at block (Err (stuck.Refused refusal.Full)) E made any = any
  pick capacity acc at block (Err (stuck.Refused refusal.NotFlushed)) E made any = any
  pick capacity acc at block (Err (stuck.Refused refusal.NoMeta)) E made any = any
  pick capacity acc at block (Err (stuck.Refused refusal.IdsSpent)) E made any = any
  pick capacity acc at block (Err (stuck.Refused refusal.NotOpen)) E made any = any
  pick capacity acc at block (Err (stuck.Refused refusal.NotHolder)) E made any = any
  pick capacity acc at block (Err (stuck.Refused refusal.Alive)) E made any = any

  -- what it tells where the flush before it failed
  flush_failed : (capacity : ℕ) (acc : Account) (at : ℕ) (block : List ℕ) (w : ℕ) (rep : Reply) (E : Account → Type 0) → FitsCall (Flush w) rep → ((n : ℕ) → rep ≡ reply.Flushed n → ⊥) → E (any_landed acc) → E (after_write d.writer capacity at block acc (write_outcome at (length block) (Err (trouble rep))))
  flush_failed capacity acc at block w rep E (inl (n, e)) never any = absurd (never n e)
  flush_failed capacity acc at block w rep E (inr (refused why (inl f) e)) never any = subst (λ r. E (after_write d.writer capacity at block acc (write_outcome at (length block) (Err (trouble r))))) (sym e) (subst (λ y. E (after_write d.writer capacity at block acc (write_outcome at (length block) (Err (stuck.Refused y))))) (sym f) any)
  flush_failed capacity acc at block w rep E (inr (refused why (inr (inl f)) e)) never any = subst (λ r. E (after_write d.writer capacity at block acc (write_outcome at (length block) (Err (trouble r))))) (sym e) (subst (λ y. E (after_write d.writer capacity at block acc (write_outcome at (length block) (Err (stuck.Refused y))))) (sym f) any)
  flush_failed capacity acc at block w rep E (inr (refused why (inr (inr f)) e)) never any = absurd f
  flush_failed capacity acc at block w rep E (inr (damaged folder file e)) never any = subst (λ r. E (after_write d.writer capacity at block acc (write_outcome at (length block) (Err (trouble r))))) (sym e) any
  flush_failed capacity acc at block w rep E (inr (fault e)) never any = subst (λ r. E (after_write d.writer capacity at block acc (write_outcome at (length block) (Err (trouble r))))) (sym e) any
  flush_failed capacity acc at block w rep E (inr (no_memory e)) never any = subst (λ r. E (after_write d.writer capacity at block acc (write_outcome at (length block) (Err (trouble r))))) (sym e) any

  pub fits_call : (m : Moment) (e : Event) (rest : List Event) (q : Call) → IsLawful m.state (e ∷ rest) → e.ask ≡ unbroken q → FitsCall q e.reply
  fits_call m e rest q lawful asked = subst (λ a. FitsAsk a e.reply) asked (step_fits m.state e.after e.caller e.ask e.reply lawful.1)

  flushed_so : (capacity : ℕ) (handle : WriterHandle) (row : Row) (acc : Account) (at : ℕ) (block : List ℕ) (m : Moment) (e : Event) (rep : Reply) (rest : List Event) (out : WriterOut) → e.reply ≡ rep → IsHandle d capacity handle row → AtPlace m me d row → HoldsNow m d row acc → capacity + row.landed ≤ entry_count row
      → FlushNext m e row → FitsCall (Flush d.writer) rep → IsLawful (next_moment m e).state rest → Runs me (if_flushed handle (writes (flushed_of handle) at block) rep) rest out
      → EndsWithin capacity (moment_after (next_moment m e) rest) out (after_write d.writer capacity at block acc (write_outcome at (length block) out.result))
  flushed_so capacity handle row acc at block m e (reply.Flushed n) rest out is h place holds full f fits lawful runs =
      let next : Moment = next_moment m e in
      let c = all_counted next f.after f.at (f.emptied n is) in
      let all : HoldsNow next d f.after (made_room capacity acc) =
      subst (λ k. Holds (entry_count f.after) f.after.landed k (made_room capacity acc)) (sym c.1)
      (subst (λ k. Holds (entry_count f.after) k (entry_count f.after) (made_room capacity acc)) (sym c.0)
      (subst (λ k. Holds k k k (made_room capacity acc)) (sym f.total) (holds_emptied capacity (entry_count row) row.landed (landed m d) acc holds full))) in
      let any : HoldsNow next d f.after (any_landed acc) = flush_any m e row acc place holds f (omega (arith, c.0, f.total)) in
      let empty : IsHandle d capacity (flushed_of handle) f.after = record { writer = h.writer; cap_is = h.cap_is; pending_is = sym (f.emptied n is) } in
      pick capacity acc at block out.result (EndsWithin capacity (moment_after next rest) out)
      (before_write capacity (flushed_of handle) next f.after (made_room capacity acc) at block rest out empty f.at all lawful runs)
      (before_write capacity (flushed_of handle) next f.after (any_landed acc) at block rest out empty f.at any lawful runs)
  flushed_so capacity handle row acc at block m e rep rest out is h place holds full f fits lawful runs =
      let next : Moment = next_moment m e in
      let never : (n : ℕ) → rep ≡ reply.Flushed n → ⊥ = λ n said. cc in
      let same : row ≡ f.after = sym (f.kept (λ n said. never n (sym is ∙ said))) in
      let any : HoldsNow next d f.after (any_landed acc) = flush_any m e row acc place holds f (omega (arith, ap (λ (r : Row). r.landed) same)) in
      let s = settled capacity handle (Err (trouble rep)) next f.after (any_landed acc) rest out (record { writer = h.writer; cap_is = h.cap_is; pending_is = h.pending_is ∙ ap (λ (r : Row). length r.pending.entries) same }) f.at any lawful runs in
      subst (λ r. EndsWithin capacity (moment_after next rest) out (after_write d.writer capacity at block acc (write_outcome at (length block) r))) s.1
      (flush_failed capacity acc at block d.writer rep (EndsWithin capacity (moment_after next rest) out) fits never s.0)

  -- A write leaves its writer as its line tells of it.
  pub write_within : (capacity : ℕ) (handle : WriterHandle) (m : Moment) (row : Row) (acc : Account) (at : ℕ) (block : List ℕ) (events : List Event) (out : WriterOut) → IsHandle d capacity handle row → AtPlace m me d row → HoldsNow m d row acc → IsLawful m.state events → Runs me (write_program handle at block) events out
      → EndsWithin capacity (moment_after m events) out (after_write d.writer capacity at block acc (write_outcome at (length block) out.result))
  write_within capacity handle m row acc at block events out h place holds lawful runs =
      let End : Type 0 = EndsWithin capacity (moment_after m events) out (after_write d.writer capacity at block acc (write_outcome at (length block) out.result)) in
      elim (nat_le handle.cap handle.pending) as (λ b. nat_le handle.cap handle.pending ≡ b → Runs me (if b then ask (Flush handle.writer) (if_flushed handle (writes (flushed_of handle) at block)) else writes handle at block) events out → End) [
        | true ↦ λ t on.
            let long : handle.cap ≤ handle.pending = grind (arith, nat_tests) in
            let g = reach me d m row (Flush handle.writer) (if_flushed handle (writes (flushed_of handle) at block)) events out place lawful on in
            let asked : g.event.ask ≡ unbroken (Flush d.writer) = g.asked ∙ ap (λ w. unbroken (Flush w)) h.writer in
            let f = flush_next g.mid g.event g.rest row g.at g.lawful asked (subst (λ w. Answers g.mid.state me (Flush w) g.event.reply g.event.after) h.writer g.answers) in
            let here : HoldsNow g.mid d row acc = subst (λ k. Holds (entry_count row) row.landed k acc) (sym g.same) holds in
            subst (λ x. EndsWithin capacity x out (after_write d.writer capacity at block acc (write_outcome at (length block) out.result))) g.ends
            (flushed_so capacity handle row acc at block g.mid g.event g.event.reply g.rest out refl h g.at here (omega (arith, long, h.cap_is, h.pending_is)) f (fits_call g.mid g.event g.rest (Flush d.writer) g.lawful asked) g.lawful.2 g.runs)
        | false ↦ λ t on.
            let few : handle.pending < handle.cap = grind (arith, nat_tests) in
            let same : HoldsNow m d row (made_room capacity acc) = holds_unfilled capacity (entry_count row) row.landed (landed m d) acc holds (omega (arith, few, h.cap_is, h.pending_is)) in
            let any : HoldsNow m d row (any_landed acc) = holds_any (entry_count row) row.landed (landed m d) row.landed (landed m d) acc holds (omega arith) holds.no_fewer holds.no_more in
            pick capacity acc at block out.result (EndsWithin capacity (moment_after m events) out)
            (before_write capacity handle m row (made_room capacity acc) at block events out h place same lawful on)
            (before_write capacity handle m row (any_landed acc) at block events out h place any lawful on)
      ] refl runs
