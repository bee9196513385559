-- A writer that was opened has no writes, and one that was synced keeps all of them.
use Rattle.std.proofs.Common.{◌≡◌, ℕ, ◌-◌, ◌≤◌, ◌<◌, List, [], ◌∷◌, length, take, Some, Ok, refl, sym, ap, ◌∙◌, subst, inl, inr, arith}
use Rattle.std.specs.Prelude.{slice_get}
use Rattle.std.proofs.lemmas.Bool.{cases_lt}
use Rattle.std.proofs.lemmas.List.{append-nil, length-drop, length-map}
use Rattle.turn_object.specs.Callers.{made_by}
use Rattle.plfs_types.specs.declared.entries.Entry.{Entry}
use Rattle.container_layout.specs.declared.items.Item.TheVariants.{Index}
use Rattle.store_api.specs.declared.tree.Room.{Room}
use Rattle.mount_model.specs.declared.row.Row.{Row}
use Rattle.mount_model.specs.History.{state_after}
use Rattle.mount_model.specs.Paths.{Name}
use Rattle.mount_model.specs.State.{State}
use Rattle.mount_model.specs.Table.{row_of}
use Rattle.mount_losses.proofs.Facts.{has_index, least_safe_of, marked_kept}
use Rattle.mount_sound.specs.Entries.{logged}
use Rattle.mount_sound.specs.Items.{HasItem}
use Rattle.mount_sound.specs.Keeping.{kept_in, safe_of}
use Rattle.mount_sound.specs.Kept.{IsKept}
use Rattle.mount_sound.specs.Ledger.{Written, entries_in}
use Rattle.mount_sound.proofs.Facts.{logged_take}
use Rattle.writer_flow.specs.declared.handle.WriterHandle.{WriterHandle}
use Rattle.writer_flow.specs.declared.handle.WriterOut.{WriterOut}
use Rattle.writer_flow.specs.Opening.{open_program}
use Rattle.writer_flow.specs.Syncing.{sync_program}
use Rattle.writer_laws.specs.Counting.{entry_count, writes_told}
use Rattle.writer_laws.specs.Knowing.{HasRow, IsOpened, IsSynced, Knows}
use Rattle.writer_laws.proofs.Facts.{Goes, Spares, goes, opened_ends, some_eq, sync_ends, sync_list}
use Rattle.reader_laws.specs.Moments.{Dropping, IsSoundAt, Moment, issued_by, moment_after, next_moment}
use Rattle.reader_laws.proofs.Gathered.Facts.{follows, sound_after}
use Rattle.packing_laws.specs.Lasting.{KeepsSome, KeepsWrites}
use Rattle.packing_laws.proofs.OnlyUnits.Alone.{IsMade, behind, greeting_issues}
use Rattle.packing_laws.proofs.Puts.Issuing.{none_told_issued}
use Rattle.packing_laws.proofs.Puts.Putting.{HasWritten, waits}

no_writes_of : (writes : List Written) → length (entries_in writes) ≡ 0 → writes ≡ []
no_writes_of [] none = refl
no_writes_of (w ∷ writes) none = absurd (omega (arith, none))

none_of : (writes : List Written) → length writes ≡ 0 → writes ≡ []
none_of [] none = refl
none_of (w ∷ writes) none = absurd (omega (arith, none))

-- as many entries as the row counts were issued
record Counts (row : Row) (writes : List Written) : Type 0 where
  pub all : entry_count row ≡ length writes
  pub few : row.landed ≤ length writes

counts : (room : Room) (row : Row) (writes : List Written) → IsKept room row writes → Counts row writes
counts room row writes k =
    let long : length (entries_in writes) ≡ length writes = length-map writes (λ (w : Written). w.entry) in
    let rest : length row.pending.entries ≡ length (entries_in writes) - row.landed = ap (λ (es : List Entry). length es) k.numbers.pending ∙ length-drop row.landed (entries_in writes) in
    record { all = omega (arith, long, rest, k.numbers.landed); few = omega (arith, long, k.numbers.landed) }

-- ---- an opening

-- the writer that was opened, with no writes
pub record Opens (m : Moment) (handle : WriterHandle) (name : Name) (host cap : ℕ) (end : State) (b : IsMade (open_program name host cap) m (Ok handle) end) : Type 0 where
  pub d : Dropping
  pub has : HasWritten (behind (open_program name host cap) m (Ok handle) end b) handle d []

pub opens : (m : Moment) (handle : WriterHandle) (name : Name) (host cap : ℕ) (end : State) → IsSoundAt m → (b : IsMade (open_program name host cap) m (Ok handle) end) → Opens m handle name host cap end b
opens m handle name host cap end sound b =
    let g : Moment = next_moment m b.greeting in
    let e : Moment = moment_after g b.events in
    let first : IsSoundAt g = sound_after m (b.greeting ∷ []) (b.lawful.0, b.lawful.1, tt) sound in
    let then : IsSoundAt e = sound_after g b.events b.lawful.2 first in
    let o : IsOpened 0 handle (state_after g.state b.events) = opened_ends 0 name host cap g.state b.events (Ok handle) handle first.regular b.lawful.2 b.runs refl in
    let knows : Knows 0 handle o.row e.state = subst (λ (s : State). Knows 0 handle o.row s) (sym (follows g b.events).0) o.knows in
    let place = then.sound.placed handle.writer o.row knows.has.there in
    let k : IsKept place.0 o.row (e.issued o.row.room handle.writer) = (then.sound.rooms o.row.room place.0 place.1).kept handle.writer o.row knows.has.there refl in
    let c = counts place.0 o.row (e.issued o.row.room handle.writer) k in
    record {
      d = record { room = o.row.room; host = o.row.host; writer = handle.writer };
      has = record { row = o.row; knows = knows; is_writer = refl; room = refl; host = refl; issued = none_of (e.issued o.row.room handle.writer) (omega (arith, c.all, o.none)) };
    }

-- ---- a sync

-- where the log was synced all marked entries are safe
safe_all : (room : Room) (row : Row) (writes : List Written) → IsKept room row writes → row.log_mark ≡ row.stored → row.index_mark ≤ safe_of row writes
safe_all room row writes k synced =
    let logs : logged (take row.index_mark (entries_in writes)) ≤ row.log_mark = omega (arith, logged_take row.index_mark (entries_in writes), k.numbers.stored, synced) in
    least_safe_of row writes (omega (arith, k.numbers.index_mark, k.numbers.landed)) logs

-- the marks of a row tell that all its writes are kept
record IsMarked (row : Row) (n : ℕ) : Type 0 where
  pub total : entry_count row ≡ n
  pub landed : row.landed ≡ n
  pub index : row.index_mark ≡ n
  pub log : row.log_mark ≡ row.stored

at_least : (n mark safe kept : ℕ) → mark ≡ n → mark ≤ safe → safe ≤ kept → n ≤ kept
at_least n mark safe kept is one other = omega (arith, is, one, other)

kept_some : (e : Moment) → IsSoundAt e → (id n : ℕ) (row : Row) (d : Dropping) (writes : List Written) → row_of id e.state.table.writers ≡ Some row → id ≡ d.writer → row.room ≡ d.room → row.host ≡ d.host → e.issued row.room id ≡ writes → n ≡ length writes → 0 < n → IsMarked row n
    → KeepsSome e d writes
kept_some e sound id n row d writes there is_writer in_room of_host issued all some marks =
    let place = sound.sound.placed id row there in
    let k : IsKept place.0 row (e.issued row.room id) = (sound.sound.rooms row.room place.0 place.1).kept id row there refl in
    let i = has_index e.issued e.state sound id row place.0 there place.1 (subst (λ k. 1 ≤ k) (sym marks.landed) some) in
    let kept : n ≤ kept_in place.0 row.host id = at_least n row.index_mark (safe_of row (e.issued row.room id)) (kept_in place.0 row.host id) marks.index (safe_all place.0 row (e.issued row.room id) k marks.log) (marked_kept e.issued e.state sound id row place.0 there place.1) in
    let Item : ℕ → ℕ → Type 0 = λ host writer. HasItem place.0 (Index host writer) i.bytes in
    let Kept : ℕ → ℕ → Type 0 = λ host writer. length writes ≤ kept_in place.0 host writer in
    let Issued : ℕ → ℕ → Type 0 = λ room writer. e.issued room writer ≡ writes in
    record {
      first = ([], subst (λ w. Issued d.room w) is_writer (subst (λ r. Issued r id) in_room issued) ∙ sym (append-nil writes));
      tree = sound.shape.tree;
      told = sound.shape.told;
      room = place.0;
      there = ap (λ r. slice_get sound.shape.tree.rooms r) (sym in_room) ∙ place.1;
      bytes = i.bytes;
      stands = subst (λ w. Item d.host w) is_writer (subst (λ x. Item x id) of_host i.item);
      kept = subst (λ w. Kept d.host w) is_writer (subst (λ x. Kept x id) of_host (subst (λ k. k ≤ kept_in place.0 row.host id) all kept));
    }

keeps_marked : (e : Moment) → IsSoundAt e → (id n : ℕ) (row : Row) (d : Dropping) (writes : List Written) → row_of id e.state.table.writers ≡ Some row → id ≡ d.writer → row.room ≡ d.room → row.host ≡ d.host → e.issued row.room id ≡ writes → IsMarked row n → KeepsWrites e d writes
keeps_marked e sound id n row d writes there is_writer in_room of_host issued marks =
    let place = sound.sound.placed id row there in
    let c = counts place.0 row (e.issued row.room id) ((sound.sound.rooms row.room place.0 place.1).kept id row there refl) in
    let all : n ≡ length writes = sym marks.total ∙ c.all ∙ ap (λ (ws : List Written). length ws) issued in
    elim (cases_lt 0 n) as (λ _. KeepsWrites e d writes) [
      | inr zero ↦ inl (none_of writes (omega (arith, all, zero)))
      | inl some ↦ inr (kept_some e sound id n row d writes there is_writer in_room of_host issued all some marks)
    ]

pub synced_keeps : (m : Moment) (handle : WriterHandle) (d : Dropping) (writes : List Written) (out : WriterOut) (end : State) (n : ℕ) → IsSoundAt m → HasWritten m handle d writes → (b : IsMade (sync_program handle) m out end) → out.result ≡ Ok n
    → KeepsWrites (behind (sync_program handle) m out end b) d writes
synced_keeps m handle d writes out end n sound h b ok =
    let id : ℕ = handle.writer in
    let g : Moment = next_moment m b.greeting in
    let e : Moment = moment_after g b.events in
    let knows : Knows 0 handle h.row g.state = waits m handle h.row b.greeting b.events b.lawful b.asks h.knows in
    let y : IsSynced 0 handle (entry_count h.row) out (state_after g.state b.events) = sync_ends 0 handle h.row g.state b.events out knows b.lawful.2 b.runs in
    let spares : Spares id (made_by 0 b.events) = sync_list handle (made_by 0 b.events) out b.runs in
    let went : Goes 0 id h.row b.events (state_after g.state b.events) = goes 0 id h.row g.state b.events knows.has b.lawful.2 spares.stays in
    let none : writes_told d.writer b.events ≡ 0 = ap (λ k. writes_told k b.events) (sym h.is_writer) ∙ went.own ∙ spares.none in
    let issued : issued_by e d ≡ writes = none_told_issued g b.events d.room d.writer none ∙ greeting_issues (sync_program handle) m out end b d.room d.writer ∙ h.issued in
    let mine : HasRow 0 id y.row (state_after g.state b.events) = subst (λ k. HasRow 0 k y.row (state_after g.state b.events)) y.same y.knows.has in
    let row : y.row ≡ went.after = some_eq y.row went.after (row_of id (state_after g.state b.events).table.writers) mine.there went.has.there in
    let in_room : y.row.room ≡ d.room = ap (λ (x : Row). x.room) row ∙ went.placed.0 ∙ h.room in
    let of_host : y.row.host ≡ d.host = ap (λ (x : Row). x.host) row ∙ went.placed.1 ∙ h.host in
    let there : row_of id e.state.table.writers ≡ Some y.row = ap (λ (s : State). row_of id s.table.writers) (follows g b.events).0 ∙ mine.there in
    let number = y.number n ok in
    let marks = y.marked n ok in
    keeps_marked e (sound_after m (b.greeting ∷ b.events) b.lawful sound) id n y.row d writes there h.is_writer in_room of_host
    (ap (λ r. e.issued r id) in_room ∙ ap (λ w. e.issued d.room w) h.is_writer ∙ issued)
    (record { total = y.total ∙ sym number.0; landed = number.2; index = marks.0; log = marks.1 })
