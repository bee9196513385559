-- What each call on an open writer leaves of it, where it did its work.
use Rattle.std.proofs.Common.{◌≡◌, ℕ, Bool, true, nat_eq, List, [], ◌∷◌, Option, Some, None, Ok, Err, refl, sym, ap, ◌∙◌, inl, inr, subst, arith, length}
use Rattle.std.proofs.lemmas.Bool.Decides.{nat_tests}
use Rattle.plfs_types.specs.declared.entries.Entry.{Entry}
use Rattle.store_api.specs.declared.step.Answer.TheVariants as answer
use Rattle.store_api.specs.declared.store.Trouble.TheVariants as trouble
use Rattle.edge_io.specs.Clock.{Ticks}
use Rattle.writer_laws.specs.Counting.{entry_count}
use Rattle.mount_model.specs.Writing.{WritesAt, stamp_at, write_check, write_outcome, wrote}
use Rattle.mount_model.specs.declared.call.Call.TheVariants.{Flush, PutMeta, SyncIndex, SyncLog, Write}
use Rattle.mount_model.specs.declared.reply.Refusal.{Refusal}
use Rattle.mount_model.specs.declared.reply.Refusal.TheVariants as refusal
use Rattle.mount_model.specs.declared.reply.Reply.{Reply}
use Rattle.mount_model.specs.declared.reply.Reply.TheVariants.{Done, Flushed, Synced, Wrote}
use Rattle.mount_model.specs.declared.row.Row.{Row}
use Rattle.mount_model.specs.declared.row.Stage.{Stage}
use Rattle.mount_model.specs.declared.row.Stage.TheVariants as stage
use Rattle.mount_model.specs.Flushing.{FlushesRow, flush_outcome, flushed, index_synced, log_synced, sync_index_outcome, sync_index_step, sync_log_outcome, sync_log_step}
use Rattle.mount_model.specs.Leaving.{closed, put_meta_check, put_meta_outcome, put_meta_step}
use Rattle.mount_model.specs.Making.{MakesAct, OnWriter, Refuses, Told, UnlessRefused}
use Rattle.mount_model.specs.State.{State, Table, put}
use Rattle.mount_model.specs.Step.{Answers}
use Rattle.mount_model.specs.Table.{held_by, may_close, only, row_of, with_row, writer_of}
use Rattle.mount_model.proofs.Facts.{match_cases, row_of-with_row, row_of_id}
use Rattle.refusal_laws.specs.Reasons.{HasNoWriter}
use Rattle.writer_laws.specs.Knowing.{HasRow}
use Rattle.writer_laws.proofs.Stops.{spared_row}
use Rattle.plain_plays.specs.Served.{HasOpen}
use Rattle.plain_plays.proofs.PlainSteps.Reaching.{StaysUnderOthers}

-- ---- a writer of the caller

held_so : (me : ℕ) (stages : Stage → Bool) (o : Option Row) (row : Row) → o ≡ Some row → row.owner ≡ me → stages row.stage ≡ true → held_by me stages o ≡ Some row
held_so me stages None row e owned staged = absurd (cc)
held_so me stages (Some x) row e owned staged =
    let same : x ≡ row = cc in
    let mine : nat_eq row.owner me ≡ true = grind (arith, nat_tests, owned) in
    subst (λ (r : Row). held_by me stages (Some r) ≡ Some row) (sym same) (rw mine (rw staged refl))

module _ (me w : ℕ) where
  -- it is found in each of these stages
  pub found : (stages : Stage → Bool) (row : Row) (state : State) → HasRow me w row state → stages row.stage ≡ true → writer_of me stages w state.table.writers ≡ Some row
  found stages row state has staged = held_so me stages (row_of w state.table.writers) row has.there has.owned staged

  -- so no call is refused since there is none
  pub not_none : (stages : Stage → Bool) (row : Row) (state : State) (why : Refusal) (R : Type 0) → HasRow me w row state → stages row.stage ≡ true → HasNoWriter me stages w state why → R
  not_none stages row state why R has staged none = absurd (let clash : Some row ≡ None = sym (found stages row state has staged) ∙ none.1 in cc)

  -- others leave it as it is
  pub row_stays : (row : Row) → StaysUnderOthers me (λ m. HasRow me w row m.state)
  row_stays row m event rest sound lawful other h = spared_row me w row m.state event.caller event.ask event.reply event.after (λ mine. absurd (other mine)) h lawful.1

  pub open_stays : (row : Row) → StaysUnderOthers me (λ m. HasOpen me w row m.state)
  open_stays row m event rest sound lawful other h = record { has = row_stays row m event rest sound lawful other h.has; is_open = h.is_open }

  -- what is done with the row
  pub its_row : (stages : Stage → Bool) (row : Row) (old : State) (reply : Reply) (new : State) (does : Row → Type 0) → HasRow me w row old → stages row.stage ≡ true → OnWriter me stages w old reply new does → does row
  its_row stages row old reply new does has staged on = elim (match_cases (writer_of me stages w old.table.writers) (Refuses refusal.NotOpen old reply new) does on) as (λ _. does row) [
    | inl (none, refused) ↦ absurd (let clash : Some row ≡ None = sym (found stages row old has staged) ∙ none in cc)
    | inr (r, some, made) ↦ subst does (let same : Some r ≡ Some row = sym some ∙ found stages row old has staged in cc) made
  ]

  -- another row stands in its place
  pub put_row : (row after : Row) (old new : State) → HasRow me w row old → after.id ≡ row.id → after.owner ≡ row.owner → new.table ≡ put after old.table → HasRow me w after new
  put_row row after old new has same owner is =
      let id_is : after.id ≡ w = same ∙ row_of_id w old.table.writers row has.there in
      record {
        there = subst (λ (t : Table). row_of w t.writers ≡ Some after) (sym is) (subst (λ id. row_of id (with_row after old.table.writers) ≡ Some after) id_is
            (row_of-with_row after old.table.writers row (subst (λ id. row_of id old.table.writers ≡ Some row) (sym id_is) has.there)));
        owned = owner ∙ has.owned;
      }

  -- ---- what was told where a call did its work

  log_made : (row : Row) (table : Table) (told : Told) → Done ≡ (sync_log_outcome row table told).reply → (sync_log_outcome row table told).table ≡ put (log_synced row) table
  log_made row table (Ok answer.Made) e = refl
  log_made row table (Ok answer.NoRoom) e = absurd (cc)
  log_made row table (Ok answer.NoFolder) e = absurd (cc)
  log_made row table (Ok other) e = absurd (cc)
  log_made row table (Err trouble.Fault) e = absurd (cc)
  log_made row table (Err trouble.NoMemory) e = absurd (cc)

  index_made : (row : Row) (table : Table) (told : Told) (n : ℕ) → Synced n ≡ (sync_index_outcome row table told).reply → (sync_index_outcome row table told).table ≡ put (index_synced row) table
  index_made row table (Ok answer.Made) n e = refl
  index_made row table (Ok answer.NoRoom) n e = absurd (cc)
  index_made row table (Ok answer.NoFolder) n e = absurd (cc)
  index_made row table (Ok other) n e = absurd (cc)
  index_made row table (Err trouble.Fault) n e = absurd (cc)
  index_made row table (Err trouble.NoMemory) n e = absurd (cc)

  flush_made : (row : Row) (table : Table) (told : Told) (n : ℕ) → Flushed n ≡ (flush_outcome row table told).reply → (flush_outcome row table told).table ≡ put (flushed row) table
  flush_made row table (Ok answer.Made) n e = refl
  flush_made row table (Ok answer.NoRoom) n e = absurd (cc)
  flush_made row table (Ok answer.NoFolder) n e = absurd (cc)
  flush_made row table (Ok other) n e = absurd (cc)
  flush_made row table (Err trouble.Fault) n e = absurd (cc)
  flush_made row table (Err trouble.NoMemory) n e = absurd (cc)

  write_made : (stamp : ℕ) (row : Row) (at len : ℕ) (table : Table) (told : Told) (n : ℕ) → Wrote n ≡ (write_outcome stamp row at len table told).reply → ((write_outcome stamp row at len table told).table ≡ put (wrote stamp row at len) table) × (n ≡ stamp)
  write_made stamp row at len table (Ok answer.Made) n e = (refl, cc)
  write_made stamp row at len table (Ok answer.NoRoom) n e = absurd (cc)
  write_made stamp row at len table (Ok answer.NoFolder) n e = absurd (cc)
  write_made stamp row at len table (Ok other) n e = absurd (cc)
  write_made stamp row at len table (Err trouble.Fault) n e = absurd (cc)
  write_made stamp row at len table (Err trouble.NoMemory) n e = absurd (cc)

  index_number : (row : Row) (table : Table) (told : Told) (n : ℕ) → Synced n ≡ (sync_index_outcome row table told).reply → n ≡ row.landed
  index_number row table (Ok answer.Made) n e = cc
  index_number row table (Ok answer.NoRoom) n e = absurd (cc)
  index_number row table (Ok answer.NoFolder) n e = absurd (cc)
  index_number row table (Ok other) n e = absurd (cc)
  index_number row table (Err trouble.Fault) n e = absurd (cc)
  index_number row table (Err trouble.NoMemory) n e = absurd (cc)

  meta_made : (row : Row) (table : Table) (told : Told) → Done ≡ (put_meta_outcome row table told).reply → (put_meta_outcome row table told).table ≡ put (closed row) table
  meta_made row table (Ok answer.Made) e = refl
  meta_made row table (Ok (answer.Old room)) e = refl
  meta_made row table (Ok answer.NoRoom) e = absurd (cc)
  meta_made row table (Ok answer.NoFolder) e = absurd (cc)
  meta_made row table (Ok other) e = absurd (cc)
  meta_made row table (Err trouble.Fault) e = absurd (cc)
  meta_made row table (Err trouble.NoMemory) e = absurd (cc)

  module _ (row : Row) (old new : State) (h : HasOpen me w row old) where
    pub log_does : Answers old me (SyncLog w) Done new → HasOpen me w (log_synced row) new
    log_does a =
        let m = its_row (only stage.Open) row old Done new (λ r. MakesAct (sync_log_step r) (sync_log_outcome r old.table) old Done new) h.has h.is_open a in
        record { has = put_row row (log_synced row) old new h.has refl refl (ap (λ (s : State). s.table) m.after ∙ log_made row old.table m.told m.answered); is_open = h.is_open }

    pub index_does : (n : ℕ) → Answers old me (SyncIndex w) (Synced n) new → HasOpen me w (index_synced row) new
    index_does n a =
        let m = its_row (only stage.Open) row old (Synced n) new (λ r. MakesAct (sync_index_step r) (sync_index_outcome r old.table) old (Synced n) new) h.has h.is_open a in
        record { has = put_row row (index_synced row) old new h.has refl refl (ap (λ (s : State). s.table) m.after ∙ index_made row old.table m.told n m.answered); is_open = h.is_open }

    pub number_told : (n : ℕ) → Answers old me (SyncIndex w) (Synced n) new → n ≡ row.landed
    number_told n a =
        let m = its_row (only stage.Open) row old (Synced n) new (λ r. MakesAct (sync_index_step r) (sync_index_outcome r old.table) old (Synced n) new) h.has h.is_open a in
        index_number row old.table m.told n m.answered

    -- what a flush leaves: nothing waits, and all else is as it was
    pub record Emptied : Type 0 where
      pub after : Row
      pub now : HasOpen me w after new
      pub none : after.pending.entries ≡ []
      pub stored : after.stored ≡ row.stored
      pub last : after.last ≡ row.last
      pub floor : after.floor ≡ row.floor
      pub capacity : after.pending.capacity ≡ row.pending.capacity
      pub log_mark : after.log_mark ≡ row.log_mark
      pub room : after.room ≡ row.room
      pub host : after.host ≡ row.host
      pub total : entry_count after ≡ entry_count row

    pub flush_does : (n : ℕ) → Answers old me (Flush w) (Flushed n) new → Emptied
    flush_does n a = flushes row.pending.entries refl (its_row (only stage.Open) row old (Flushed n) new (λ r. FlushesRow r r.pending.entries old (Flushed n) new) h.has h.is_open a)
      where
        flushes : (es : List Entry) → row.pending.entries ≡ es → FlushesRow row es old (Flushed n) new → Emptied
        flushes [] none f = record {
          after = row;
          now = subst (λ s. HasOpen me w row s) (sym f.1) h;
          none = none;
          stored = refl;
          last = refl;
          floor = refl;
          capacity = refl;
          log_mark = refl;
          room = refl;
          host = refl;
          total = refl;
        }
        flushes (first ∷ rest) some m = record {
          after = flushed row;
          now = record { has = put_row row (flushed row) old new h.has refl refl (ap (λ (s : State). s.table) m.after ∙ flush_made row old.table m.told n m.answered); is_open = h.is_open };
          none = refl;
          stored = refl;
          last = refl;
          floor = refl;
          capacity = refl;
          log_mark = refl;
          room = refl;
          host = refl;
          total = omega arith;
        }

    -- it doesn't ask the clock
    pub flush_times : (n : ℕ) → Answers old me (Flush w) (Flushed n) new → new.times ≡ old.times
    flush_times n a = same row.pending.entries (its_row (only stage.Open) row old (Flushed n) new (λ r. FlushesRow r r.pending.entries old (Flushed n) new) h.has h.is_open a)
      where
        same : (es : List Entry) → FlushesRow row es old (Flushed n) new → new.times ≡ old.times
        same [] f = ap (λ (s : State). s.times) f.1
        same (first ∷ rest) m = ap (λ (s : State). s.times) m.after

    -- what a write leaves: its entry waits
    pub record WroteOne (at : ℕ) (block : List ℕ) (stamp : ℕ) : Type 0 where
      pub time : ℕ
      pub times : Option (List ℕ)
      pub ticks : Ticks old.times times time
      pub is : stamp ≡ stamp_at time row
      pub now : HasOpen me w (wrote stamp row at (length block)) new
      pub left : new.times ≡ times

    pub write_does : (at : ℕ) (block : List ℕ) (stamp : ℕ) → Answers old me (Write w at block) (Wrote stamp) new → WroteOne at block stamp
    write_does at block stamp a =
        let d = its_row (only stage.Open) row old (Wrote stamp) new (λ r. UnlessRefused (write_check r at (length block)) old (Wrote stamp) new (WritesAt r at block old (Wrote stamp) new)) h.has h.is_open a in
        elim (match_cases (write_check row at (length block)) (WritesAt row at block old (Wrote stamp) new) (λ why. Refuses why old (Wrote stamp) new) d) as (λ _. WroteOne at block stamp) [
          | inr (why, some, refused) ↦ absurd (let other = refused.0 in cc)
          | inl (none, x) ↦
              let made = write_made (stamp_at x.time row) row at (length block) old.table x.makes.told stamp x.makes.answered in
              record {
                time = x.time;
                times = x.times;
                ticks = x.ticks;
                is = made.1;
                now = subst (λ n. HasOpen me w (wrote n row at (length block)) new) (sym made.1) (record { has = put_row row (wrote (stamp_at x.time row) row at (length block)) old new h.has refl refl (ap (λ (s : State). s.table) x.makes.after ∙ made.0); is_open = h.is_open });
                left = ap (λ (s : State). s.times) x.makes.after;
              }
        ]

    -- a write that its check refuses changes nothing
    pub refused_same : (at : ℕ) (block : List ℕ) (why : Refusal) (reply : Reply) → write_check row at (length block) ≡ Some why → Answers old me (Write w at block) reply new → new ≡ old
    refused_same at block why reply check a =
        let d = its_row (only stage.Open) row old reply new (λ r. UnlessRefused (write_check r at (length block)) old reply new (WritesAt r at block old reply new)) h.has h.is_open a in
        elim (match_cases (write_check row at (length block)) (WritesAt row at block old reply new) (λ other. Refuses other old reply new) d) as (λ _. new ≡ old) [
          | inl (none, x) ↦ absurd (let clash : None ≡ Some why = sym none ∙ check in cc)
          | inr (other, some, refused) ↦ refused.1
        ]

    -- the metadata dropping was made: the writer may leave
    pub meta_does : may_close row.stage ≡ true → put_meta_check row ≡ None → Answers old me (PutMeta w) Done new → HasRow me w (closed row) new
    meta_does may free a =
        let d = its_row may_close row old Done new (λ r. UnlessRefused (put_meta_check r) old Done new (MakesAct (put_meta_step r) (put_meta_outcome r old.table) old Done new)) h.has may a in
        elim (match_cases (put_meta_check row) (MakesAct (put_meta_step row) (put_meta_outcome row old.table) old Done new) (λ why. Refuses why old Done new) d) as (λ _. HasRow me w (closed row) new) [
          | inl (none, m) ↦ put_row row (closed row) old new h.has refl refl (ap (λ (s : State). s.table) m.after ∙ meta_made row old.table m.told m.answered)
          | inr (why, some, refused) ↦ absurd (let clash : None ≡ Some why = sym free ∙ some in cc)
        ]
