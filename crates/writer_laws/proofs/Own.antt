-- What a caller's own calls leave of its writer.
use Rattle.std.proofs.Common.{◌≡◌, ◌≢◌, ℕ, ◌+◌, List, [], ◌∷◌, ◌++◌, length, Some, refl, sym, ap, ◌∙◌, inl, inr, subst, arith, Bool, length-append}
use Rattle.mount_model.specs.declared.call.Call.{Call}
use Rattle.mount_model.specs.declared.call.Call.TheVariants as call
use Rattle.mount_model.specs.declared.reply.Reply.{Reply}
use Rattle.mount_model.specs.declared.reply.Reply.TheVariants as reply
use Rattle.mount_model.specs.declared.row.Row.{Row}
use Rattle.mount_model.specs.declared.row.Stage.{Stage}
use Rattle.mount_model.specs.declared.row.Stage.TheVariants as stage
use Rattle.mount_model.specs.Table.{row_of, with_row, writer_of, only, may_close, is_live}
use Rattle.mount_model.specs.State.{State, Table, put}
use Rattle.mount_model.specs.Making.{MakesAct, UnlessRefused}
use Rattle.mount_model.specs.Writing.{write_check, write_outcome, stamp_at, wrote as with_write, WritesAt}
use Rattle.mount_model.specs.Flushing.{flushed, log_synced, index_synced, FlushesRow, sync_log_step, sync_log_outcome, sync_index_step, sync_index_outcome}
use Rattle.mount_model.specs.Leaving.{closing, closed, put_meta_check, put_meta_step, put_meta_outcome, exit_check, exit_step, exit_outcome}
use Rattle.mount_model.specs.Step.{Answers}
use Rattle.plfs_types.specs.declared.entries.Entry.{Entry}
use Rattle.writer_laws.specs.Counting.{wrote_count, entry_count, StaysInAt}
use Rattle.writer_laws.specs.Knowing.{HasRow}
use Rattle.writer_laws.specs.Waiting.{IsOn}
use Rattle.writer_laws.proofs.Rows.{row_of_id, row_of-put, held_row, some_eq}
use Rattle.writer_laws.proofs.Steps.{on_writer, unless_refused, flush_table, sync_log_table, sync_index_table, write_table, meta_table, exit_table}

has_same : (me w : ℕ) (row : Row) (old new : State) → HasRow me w row old → new.table ≡ old.table → HasRow me w row new
has_same me w row old new h t = record { there = subst (λ (s : Table). row_of w s.writers ≡ Some row) (sym t) h.there; owned = h.owned }

has_put : (me w : ℕ) (old new : State) (stages : Stage → Bool) (r x : Row) → writer_of me stages w old.table.writers ≡ Some r → x.id ≡ r.id → x.owner ≡ r.owner → new.table ≡ put x old.table → HasRow me w x new
has_put me w old new stages r x e same_id same_owner t =
    let f = held_row me stages (row_of w old.table.writers) r e in
    let x_id : x.id ≡ w = same_id ∙ row_of_id w old.table.writers r f.0 in
    let rows : new.table.writers ≡ with_row x old.table.writers = ap (λ (s : Table). s.writers) t in
    let at : row_of x.id old.table.writers ≡ Some r = subst (λ i. row_of i old.table.writers ≡ Some r) (sym x_id) f.0 in
    record {
      there = subst (λ rs. row_of w rs ≡ Some x) (sym rows) (subst (λ i. row_of i (with_row x old.table.writers) ≡ Some x) x_id (row_of-put x old.table.writers r at));
      owned = same_owner ∙ f.1;
    }

-- the row that was found is the caller's
found : (me w : ℕ) (row : Row) (old : State) (stages : Stage → Bool) (r : Row) → HasRow me w row old → writer_of me stages w old.table.writers ≡ Some r → r ≡ row
found me w row old stages r h e = some_eq r row (row_of w old.table.writers) (held_row me stages (row_of w old.table.writers) r e).0 h.there

-- the caller synced a dropping: the row has other marks, and the same entries
pub record MarkedOwn (me w : ℕ) (row : Row) (new : State) : Type 0 where
  pub after : Row
  pub has : HasRow me w after new
  pub total : entry_count after ≡ entry_count row
  pub pending : length after.pending.entries ≡ length row.pending.entries
  pub landed : after.landed ≡ row.landed
  pub stored : after.stored ≡ row.stored

unmarked : (me w : ℕ) (row : Row) (old new : State) → HasRow me w row old → new.table ≡ old.table → MarkedOwn me w row new
unmarked me w row old new h t = record { after = row; has = has_same me w row old new h t; total = refl; pending = refl; landed = refl; stored = refl }

marked : (me w : ℕ) (row : Row) (old new : State) (r x : Row) → writer_of me (only stage.Open) w old.table.writers ≡ Some r → r ≡ row → x.id ≡ r.id → x.owner ≡ r.owner → entry_count x ≡ entry_count r → length x.pending.entries ≡ length r.pending.entries → x.landed ≡ r.landed → x.stored ≡ r.stored → new.table ≡ put x old.table → MarkedOwn me w row new
marked me w row old new r x e is same_id same_owner total pending landed stored t = record {
  after = x;
  has = has_put me w old new (only stage.Open) r x e same_id same_owner t;
  total = total ∙ ap (λ (y : Row). entry_count y) is;
  pending = pending ∙ ap (λ (y : Row). length y.pending.entries) is;
  landed = landed ∙ ap (λ (y : Row). y.landed) is;
  stored = stored ∙ ap (λ (y : Row). y.stored) is;
}

-- the caller synced its log
pub record LogSyncedOwn (me w : ℕ) (row : Row) (rep : Reply) (new : State) : Type 0 where
  pub is_marked : MarkedOwn me w row new
  pub synced : rep ≡ reply.Done → is_marked.after.log_mark ≡ is_marked.after.stored

log_marked : (me w : ℕ) (row : Row) (old new : State) (r : Row) (rep : Reply) → writer_of me (only stage.Open) w old.table.writers ≡ Some r → r ≡ row → new.table ≡ put (log_synced r) old.table → LogSyncedOwn me w row rep new
unfolding marked
log_marked me w row old new r rep e is t = record { is_marked = marked me w row old new r (log_synced r) e is refl refl refl refl refl refl t; synced = λ said. refl }

pub sync_log_own : (me w : ℕ) (row : Row) (old : State) (rep : Reply) (new : State) → HasRow me w row old → Answers old me (call.SyncLog w) rep new → LogSyncedOwn me w row rep new
sync_log_own me w row old rep new h a = elim (on_writer me (only stage.Open) w old rep new (λ r. MakesAct (sync_log_step r) (sync_log_outcome r old.table) old rep new) a) as (λ _. LogSyncedOwn me w row rep new) [
  | inl refused ↦ record { is_marked = unmarked me w row old new h (ap (λ (s : State). s.table) refused.1); synced = λ e. absurd (let f = refused.0 in cc) }
  | inr (r, e, m) ↦ elim (sync_log_table r old.table m.told) as (λ _. LogSyncedOwn me w row rep new) [
    | inl is ↦ log_marked me w row old new r rep e (found me w row old (only stage.Open) r h e) (ap (λ (s : State). s.table) m.after ∙ is.1)
    | inr is ↦ record { is_marked = unmarked me w row old new h (ap (λ (s : State). s.table) m.after ∙ is.1); synced = λ said. absurd (is.0 (sym m.answered ∙ said)) }
  ]
]

-- the caller synced its index dropping
pub record SyncedOwn (me w : ℕ) (row : Row) (rep : Reply) (new : State) : Type 0 where
  pub is_marked : MarkedOwn me w row new
  pub number : (n : ℕ) → rep ≡ reply.Synced n → n ≡ row.landed
  pub synced : (n : ℕ) → rep ≡ reply.Synced n → is_marked.after.index_mark ≡ n
  pub log_mark : is_marked.after.log_mark ≡ row.log_mark

synced_count : (n m : ℕ) → reply.Synced n ≡ reply.Synced m → n ≡ m
synced_count n m e = cc

index_marked : (me w : ℕ) (row : Row) (old new : State) (r : Row) (rep : Reply) → writer_of me (only stage.Open) w old.table.writers ≡ Some r → r ≡ row → new.table ≡ put (index_synced r) old.table → rep ≡ reply.Synced r.landed → SyncedOwn me w row rep new
unfolding marked
index_marked me w row old new r rep e is t said = record {
  is_marked = marked me w row old new r (index_synced r) e is refl refl refl refl refl refl t;
  number = λ n again. synced_count n r.landed (sym again ∙ said) ∙ ap (λ (x : Row). x.landed) is;
  synced = λ n again. sym (synced_count n r.landed (sym again ∙ said));
  log_mark = ap (λ (x : Row). x.log_mark) is;
}

not_synced : (me w : ℕ) (row : Row) (old new : State) (rep : Reply) → HasRow me w row old → new.table ≡ old.table → ((n : ℕ) → rep ≡ reply.Synced n → ⊥) → SyncedOwn me w row rep new
unfolding unmarked
not_synced me w row old new rep h t never = record { is_marked = unmarked me w row old new h t; number = λ n e. absurd (never n e); synced = λ n e. absurd (never n e); log_mark = refl }

pub sync_index_own : (me w : ℕ) (row : Row) (old : State) (rep : Reply) (new : State) → HasRow me w row old → Answers old me (call.SyncIndex w) rep new → SyncedOwn me w row rep new
sync_index_own me w row old rep new h a = elim (on_writer me (only stage.Open) w old rep new (λ r. MakesAct (sync_index_step r) (sync_index_outcome r old.table) old rep new) a) as (λ _. SyncedOwn me w row rep new) [
  | inl refused ↦ not_synced me w row old new rep h (ap (λ (s : State). s.table) refused.1) (λ n e. let f = refused.0 in cc)
  | inr (r, e, m) ↦ elim (sync_index_table r old.table m.told) as (λ _. SyncedOwn me w row rep new) [
    | inl is ↦ index_marked me w row old new r rep e (found me w row old (only stage.Open) r h e) (ap (λ (s : State). s.table) m.after ∙ is.1) (m.answered ∙ is.0)
    | inr is ↦ not_synced me w row old new rep h (ap (λ (s : State). s.table) m.after ∙ is.1) (λ n said. is.0 n (sym m.answered ∙ said))
  ]
]

-- the caller flushed its writer
pub record FlushedOwn (me w : ℕ) (row : Row) (rep : Reply) (new : State) : Type 0 where
  pub after : Row
  pub has : HasRow me w after new
  pub total : entry_count after ≡ entry_count row
  pub log_mark : after.log_mark ≡ row.log_mark
  pub stored : after.stored ≡ row.stored
  pub empty : (n : ℕ) → rep ≡ reply.Flushed n → length after.pending.entries ≡ 0
  pub kept : ((n : ℕ) → rep ≡ reply.Flushed n → ⊥) → after ≡ row

flush_found : (me w : ℕ) (row : Row) (old : State) (rep : Reply) (new : State) (r : Row) → HasRow me w row old → writer_of me (only stage.Open) w old.table.writers ≡ Some r → r ≡ row → (entries : List Entry) → r.pending.entries ≡ entries → FlushesRow r entries old rep new → FlushedOwn me w row rep new
flush_found me w row old rep new r h e is [] none f = record {
  after = row;
  has = has_same me w row old new h (ap (λ (s : State). s.table) f.1);
  total = refl;
  log_mark = refl;
  stored = refl;
  empty = λ n said. ap (λ (x : Row). length x.pending.entries) (sym is) ∙ ap length none;
  kept = λ never. refl;
}
flush_found me w row old rep new r h e is (x ∷ xs) some f = elim (flush_table r old.table f.told) as (λ _. FlushedOwn me w row rep new) [
  | inl (said, t) ↦ record {
    after = flushed r;
    has = has_put me w old new (only stage.Open) r (flushed r) e refl refl (ap (λ (s : State). s.table) f.after ∙ t);
    total = let same : entry_count r ≡ entry_count row = ap (λ (y : Row). entry_count y) is in omega arith;
    log_mark = ap (λ (y : Row). y.log_mark) is;
    stored = ap (λ (y : Row). y.stored) is;
    empty = λ n again. refl;
    kept = λ never. absurd (never (flushed r).landed (f.answered ∙ said));
  }
  | inr (never, t) ↦ record {
    after = row;
    has = has_same me w row old new h (ap (λ (s : State). s.table) f.after ∙ t);
    total = refl;
    log_mark = refl;
    stored = refl;
    empty = λ n said. absurd (never n (sym f.answered ∙ said));
    kept = λ n. refl;
  }
]

pub flush_own : (me w : ℕ) (row : Row) (old : State) (rep : Reply) (new : State) → HasRow me w row old → Answers old me (call.Flush w) rep new → FlushedOwn me w row rep new
flush_own me w row old rep new h a = elim (on_writer me (only stage.Open) w old rep new (λ r. FlushesRow r r.pending.entries old rep new) a) as (λ _. FlushedOwn me w row rep new) [
  | inl refused ↦ record {
    after = row;
    has = has_same me w row old new h (ap (λ (s : State). s.table) refused.1);
    total = refl;
    log_mark = refl;
    stored = refl;
    empty = λ n said. absurd (let f = refused.0 in cc);
    kept = λ never. refl;
  }
  | inr (r, e, f) ↦ flush_found me w row old rep new r h e (found me w row old (only stage.Open) r h e) r.pending.entries refl f
]

-- the caller wrote
pub record WroteOwn (me w : ℕ) (row : Row) (rep : Reply) (new : State) : Type 0 where
  pub after : Row
  pub has : HasRow me w after new
  pub more : (n : ℕ) → rep ≡ reply.Wrote n → length after.pending.entries ≡ length row.pending.entries + 1
  pub kept : ((n : ℕ) → rep ≡ reply.Wrote n → ⊥) → after ≡ row

length_more : (xs : List Entry) (x : Entry) → length (xs ++ x ∷ []) ≡ length xs + 1
length_more xs x = length-append xs (x ∷ [])

unwritten : (me w : ℕ) (row : Row) (rep : Reply) (old new : State) → HasRow me w row old → new.table ≡ old.table → wrote_count rep ≡ 0 → WroteOwn me w row rep new
unwritten me w row rep old new h t none = record {
  after = row;
  has = has_same me w row old new h t;
  more = λ n said. let one : wrote_count rep ≡ 1 = ap wrote_count said in absurd (omega arith);
  kept = λ never. refl;
}

write_found : (me w : ℕ) (row : Row) (at : ℕ) (bytes : List ℕ) (old : State) (rep : Reply) (new : State) (r : Row) → HasRow me w row old → writer_of me (only stage.Open) w old.table.writers ≡ Some r → r ≡ row → WritesAt r at bytes old rep new → WroteOwn me w row rep new
write_found me w row at bytes old rep new r h e is f =
    let stamp : ℕ = stamp_at f.time r in
    let t : new.table ≡ (write_outcome stamp r at (length bytes) old.table f.makes.told).table = ap (λ (s : State). s.table) f.makes.after in
    elim (write_table stamp r at (length bytes) old.table f.makes.told) as (λ _. WroteOwn me w row rep new) [
      | inl (said, put_is) ↦ record {
        after = with_write stamp r at (length bytes);
        has = has_put me w old new (only stage.Open) r (with_write stamp r at (length bytes)) e refl refl (t ∙ put_is);
        more = λ n again. length_more r.pending.entries _ ∙ ap (λ (x : Row). length x.pending.entries + 1) is;
        kept = λ never. absurd (never stamp (f.makes.answered ∙ said));
      }
      | inr (none, same) ↦ unwritten me w row rep old new h (t ∙ same) (subst (λ x. wrote_count x ≡ 0) (sym f.makes.answered) none)
    ]

pub write_own : (me w : ℕ) (row : Row) (at : ℕ) (block : List ℕ) (old : State) (rep : Reply) (new : State) → HasRow me w row old → Answers old me (call.Write w at block) rep new → WroteOwn me w row rep new
write_own me w row at block old rep new h a = elim (on_writer me (only stage.Open) w old rep new (λ r. UnlessRefused (write_check r at (length block)) old rep new (WritesAt r at block old rep new)) a) as (λ _. WroteOwn me w row rep new) [
  | inl refused ↦ unwritten me w row rep old new h (ap (λ (s : State). s.table) refused.1) (subst (λ x. wrote_count x ≡ 0) (sym refused.0) refl)
  | inr (r, e, u) ↦ elim (unless_refused (write_check r at (length block)) old rep new (WritesAt r at block old rep new) u) as (λ _. WroteOwn me w row rep new) [
    | inl (why, refused) ↦ unwritten me w row rep old new h (ap (λ (s : State). s.table) refused.1) (subst (λ x. wrote_count x ≡ 0) (sym refused.0) refl)
    | inr f ↦ write_found me w row at block old rep new r h e (found me w row old (only stage.Open) r h e) f
  ]
]

-- the caller asked for the metadata dropping
pub record MetaOwn (me w : ℕ) (row : Row) (new : State) : Type 0 where
  pub after : Row
  pub has : HasRow me w after new
  pub total : entry_count after ≡ entry_count row
  pub pending : length after.pending.entries ≡ length row.pending.entries

meta_same : (me w : ℕ) (row : Row) (old new : State) → HasRow me w row old → new.table ≡ old.table → MetaOwn me w row new
meta_same me w row old new h t = record { after = row; has = has_same me w row old new h t; total = refl; pending = refl }

meta_put : (me w : ℕ) (row : Row) (old new : State) (r x : Row) → writer_of me may_close w old.table.writers ≡ Some r → r ≡ row → x.id ≡ r.id → x.owner ≡ r.owner → entry_count x ≡ entry_count r → length x.pending.entries ≡ length r.pending.entries → new.table ≡ put x old.table → MetaOwn me w row new
meta_put me w row old new r x e is same_id same_owner same_total same_pending t = record {
  after = x;
  has = has_put me w old new may_close r x e same_id same_owner t;
  total = same_total ∙ ap (λ (y : Row). entry_count y) is;
  pending = same_pending ∙ ap (λ (y : Row). length y.pending.entries) is;
}

pub put_meta_own : (me w : ℕ) (row : Row) (old : State) (rep : Reply) (new : State) → HasRow me w row old → Answers old me (call.PutMeta w) rep new → MetaOwn me w row new
put_meta_own me w row old rep new h a = elim (on_writer me may_close w old rep new (λ r. UnlessRefused (put_meta_check r) old rep new (MakesAct (put_meta_step r) (put_meta_outcome r old.table) old rep new)) a) as (λ _. MetaOwn me w row new) [
  | inl refused ↦ meta_same me w row old new h (ap (λ (s : State). s.table) refused.1)
  | inr (r, e, u) ↦ elim (unless_refused (put_meta_check r) old rep new (MakesAct (put_meta_step r) (put_meta_outcome r old.table) old rep new) u) as (λ _. MetaOwn me w row new) [
    | inl (why, refused) ↦ meta_same me w row old new h (ap (λ (s : State). s.table) refused.1)
    | inr m ↦
        let t : new.table ≡ (put_meta_outcome r old.table m.told).table = ap (λ (s : State). s.table) m.after in
        let is : r ≡ row = found me w row old may_close r h e in
        elim (meta_table r old.table m.told) as (λ _. MetaOwn me w row new) [
          | inl put_is ↦ meta_put me w row old new r (closed r) e is refl refl refl refl (t ∙ put_is)
          | inr rest ↦ elim rest as (λ _. MetaOwn me w row new) [
            | inl put_is ↦ meta_put me w row old new r (closing r) e is refl refl refl refl (t ∙ put_is)
            | inr same ↦ meta_same me w row old new h (t ∙ same)
          ]
        ]
  ]
]

-- a caller whose leaving neither was made nor failed has its writer as before
pub exit_own : (me w : ℕ) (row : Row) (old : State) (rep : Reply) (new : State) → HasRow me w row old → Answers old me (call.Exit w) rep new → rep ≢ reply.Done → rep ≢ reply.Fault → HasRow me w row new
exit_own me w row old rep new h a not_done not_fault = elim (on_writer me is_live w old rep new (λ r. UnlessRefused (exit_check r) old rep new (MakesAct (exit_step r) (exit_outcome r old.table) old rep new)) a) as (λ _. HasRow me w row new) [
  | inl refused ↦ has_same me w row old new h (ap (λ (s : State). s.table) refused.1)
  | inr (r, e, u) ↦ elim (unless_refused (exit_check r) old rep new (MakesAct (exit_step r) (exit_outcome r old.table) old rep new) u) as (λ _. HasRow me w row new) [
    | inl (why, refused) ↦ has_same me w row old new h (ap (λ (s : State). s.table) refused.1)
    | inr m ↦
        let t : new.table ≡ (exit_outcome r old.table m.told).table = ap (λ (s : State). s.table) m.after in
        elim (exit_table r old.table m.told) as (λ _. HasRow me w row new) [
          | inl (said, is) ↦ absurd (not_done (m.answered ∙ said))
          | inr rest ↦ elim rest as (λ _. HasRow me w row new) [
            | inl (said, is) ↦ absurd (not_fault (m.answered ∙ said))
            | inr same ↦ has_same me w row old new h (t ∙ same)
          ]
        ]
  ]
]

-- only a call of its caller on it takes the writer out
pub stays_spared : (me w : ℕ) (row : Row) (old : State) (caller : ℕ) (c : Call) (rep : Reply) (new : State) → (caller ≡ me → IsOn w c → ⊥) → HasRow me w row old → Answers old caller c rep new → StaysInAt w c rep
stays_spared me w row old caller (call.Exit id) reply.Done new spared h a = λ is. elim (on_writer caller is_live id old reply.Done new (λ r. UnlessRefused (exit_check r) old reply.Done new (MakesAct (exit_step r) (exit_outcome r old.table) old reply.Done new)) a) as (λ _. ⊥) [
  | inl refused ↦ let f = refused.0 in absurd (cc)
  | inr (r, e, u) ↦
      let f = held_row caller is_live (row_of id old.table.writers) r e in
      let same : r ≡ row = some_eq r row (row_of w old.table.writers) (subst (λ i. row_of i old.table.writers ≡ Some r) is f.0) h.there in
      spared (sym f.1 ∙ ap (λ (x : Row). x.owner) same ∙ h.owned) is
]
stays_spared me w row old caller (call.Exit id) rep new spared h a = tt
stays_spared me w row old caller c rep new spared h a = tt
