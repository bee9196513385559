-- Bounds on what has landed: what a flush or a sync told, and what was issued at the last flush.
use Rattle.std.proofs.Common.{◌≡◌, ℕ, ◌≤◌, ◌<◌, List, [], ◌∷◌, length, min, Option, Some, None, refl, ap, sym, ◌∙◌, inl, inr, subst, arith}
use Rattle.std.specs.Prelude.{Ok, Err, MatchOption}
use Rattle.std.specs.List.{Any, AllByRecursion}
use Rattle.plfs_types.specs.declared.entries.Entry.{Entry}
use Rattle.plfs_types.specs.declared.entries.Trunc.{Trunc}
use Rattle.store_api.specs.declared.step.Answer.TheVariants.{Made, NoRoom, NoFolder}
use Rattle.store_api.specs.declared.store.Trouble.TheVariants.{Fault, NoMemory}
use Rattle.store_laws.specs.Files.{file_at}
use Rattle.plain_file.proofs.Facts.{Among, cases_Option}
use Rattle.mount_model.specs.declared.call.Call.TheVariants.{Flush, SyncIndex}
use Rattle.mount_model.specs.declared.reply.Reply.TheVariants.{Flushed, Synced}
use Rattle.mount_model.specs.declared.row.Row.{Row}
use Rattle.mount_model.specs.Paths.{index_path, trunc_path}
use Rattle.mount_model.specs.State.{State, Table}
use Rattle.mount_model.specs.Table.{row_of, with_row, rank}
use Rattle.mount_model.specs.Making.{Told, MakesAct}
use Rattle.mount_model.specs.Flushing.{flushed, flush_outcome, FlushesRow, index_synced, sync_index_step, sync_index_outcome}
use Rattle.mount_model.specs.Step.{Answers}
use Rattle.mount_model.specs.History.{Event}
use Rattle.mount_sound.specs.Excluding.{IsAboveAll}
use Rattle.mount_sound.specs.Owed.{InRoom, IsLawful}
use Rattle.mount_sound.specs.Ledger.{entries_in}
use Rattle.mount_sound.proofs.Facts.{Fits, all_fit, live_stage, one_row}
use Rattle.mount_sound.specs.Dropping.{bytes_of}
use Rattle.mount_sound.specs.Kept.{Begins, IsKept}
use Rattle.mount_model.proofs.Facts.{row_of_id, row_of-with_row}
use Rattle.mount_sound.specs.Landed.{whole}
use Rattle.reader_laws.specs.Moments.{Moment, IsSoundAt, next_moment, moment_after, file_in_room, file_told, file_then, Dropping, IsNamed, issued_by, index_then, landed_by, landed, HadTrunc, Grows}
use Rattle.reader_laws.specs.Gathering.{Gathered, IsPrefixOf}
use Rattle.reader_laws.specs.Bounds.{IsOf, LandedAtLeast, IsFlushedIn, IsSyncedIn, AllSpareIndex}
use Rattle.reader_laws.specs.GatheringOpening.{HasView}
use Rattle.reader_laws.proofs.Gathered.Containers.Replied.{answers_as}
use Rattle.reader_laws.proofs.Gathered.Moments.Growing.{trunc_grows, stood_grows}
use Rattle.reader_laws.proofs.Gathered.Moments.Seeing.{grows_after}
use Rattle.reader_laws.proofs.Gathered.Moments.Stepping.{IsAboveThen, above_room, sound_next, grows_next, lands_none_next, trunc_next}
use Rattle.reader_laws.proofs.Gathered.Logs.Fronts.{length-entries, landed_whole, landed_stay}
use Rattle.reader_laws.proofs.Gathered.OpenReaders.Viewing.{All-take}
use Rattle.reader_laws.proofs.Gathered.Containers.Members.{any_found, found_any}
use Rattle.reader_laws.proofs.Gathered.OpenReaders.Answering.{prefix_of}
use Rattle.reader_laws.proofs.Gathered.Moments.Issuing.{open_row}

-- ---------- what the table counts has landed

kept_landed : (landed : ℕ) (issued : List Entry) (file : Option (List ℕ)) → MatchOption file (landed ≡ 0) (Begins issued landed) → landed ≤ whole (bytes_of file)
kept_landed landed issued None m = omega (arith, m)
kept_landed landed issued (Some bytes) m = omega (arith, m.long)

-- the dropping of a writer in the table
abbrev its_dropping : Row → Dropping
its_dropping row = record { room = row.room; host = row.host; writer = row.id }

-- what the table counts of an open writer has landed
row_landed : (m : Moment) (s : IsSoundAt m) (row : Row) → row_of row.id m.state.table.writers ≡ Some row → rank row.stage ≡ 4 → LandedAtLeast m (its_dropping row) row.landed
row_landed m s row held ready =
    let p = s.sound.placed row.id row held in
    let k : IsKept p.0 row (m.issued row.room row.id) = (s.sound.rooms row.room p.0 p.1).kept row.id row held refl in
    let file : file_at p.0 (index_path row.host row.id) ≡ index_then m (its_dropping row) = sym (ap (λ o. file_told o row.room (index_path row.host row.id)) s.shape.told ∙ ap (λ o. file_in_room o (index_path row.host row.id)) p.1) in
    let there = (k.alive (live_stage row.stage (omega (arith, ready)))).indexed (omega (arith, ready)) in
    let fits : Fits row = all_fit m.state s.regular row.id row held in
    let named : IsNamed (its_dropping row) = record { in_range = tt; widths = (fits.host, fits.id) } in
    record {
      stands = record { is_item = named; bytes = there.0; there = sym file ∙ there.1 };
      counted = subst (λ n. row.landed ≤ n) (sym (landed_whole m s (its_dropping row) named)) (subst (λ f. row.landed ≤ min (whole (bytes_of f)) (length (m.issued row.room row.id))) file (omega (arith, kept_landed row.landed (entries_in (m.issued row.room row.id)) (file_at p.0 (index_path row.host row.id)) k.index, k.numbers.landed, length-entries (m.issued row.room row.id))));
    }

-- ---------- rows after a flush and a sync

-- the writer's row after the call that told this count
record CallTold (new : State) (writer count : ℕ) : Type 0 where
  pub row : Row
  pub stands : row_of writer new.table.writers ≡ Some row
  pub counted : row.landed ≡ count
  pub ready : rank row.stage ≡ 4

flush_told : (row : Row) (table : Table) (told : Told) (n : ℕ) → Flushed n ≡ (flush_outcome row table told).reply → ((flush_outcome row table told).table ≡ record table { writers = with_row (flushed row) table.writers }) × (n ≡ (flushed row).landed)
flush_told row table (Ok Made) n e = (refl, cc)
flush_told row table (Ok NoRoom) n e = absurd (cc)
flush_told row table (Ok NoFolder) n e = absurd (cc)
flush_told row table (Ok answer) n e = absurd (cc)
flush_told row table (Err Fault) n e = absurd (cc)
flush_told row table (Err NoMemory) n e = absurd (cc)

flushed_row : (old new : State) (row : Row) (writer n : ℕ) (entries : List Entry) → row.id ≡ writer → row_of writer old.table.writers ≡ Some row → rank row.stage ≡ 4 → FlushesRow row entries old (Flushed n) new → CallTold new writer n
flushed_row old new row writer n [] is held ready f =
    let count : n ≡ row.landed = (let e : Flushed n ≡ Flushed row.landed = f.0 in cc) in
    record { row = row; stands = ap (λ (s : State). row_of writer s.table.writers) f.1 ∙ held; counted = sym count; ready = ready }
flushed_row old new row writer n (x ∷ entries) is held ready f =
    let t = flush_told row old.table f.told n f.answered in
    let rows : new.table.writers ≡ with_row (flushed row) old.table.writers = ap (λ (s : State). s.table.writers) f.after ∙ ap (λ (b : Table). b.writers) t.0 in
    let put : row_of row.id (with_row (flushed row) old.table.writers) ≡ Some (flushed row) = row_of-with_row (flushed row) old.table.writers row (subst (λ w. row_of w old.table.writers ≡ Some row) (sym is) held) in
    record { row = flushed row; stands = ap (row_of writer) rows ∙ subst (λ w. row_of w (with_row (flushed row) old.table.writers) ≡ Some (flushed row)) is put; counted = sym t.1; ready = ready }

flush_row : (old : State) (caller writer n : ℕ) (new : State) → Answers old caller (Flush writer) (Flushed n) new → CallTold new writer n
flush_row old caller writer n new f =
    open_row caller writer old (Flushed n) new (λ row. FlushesRow row row.pending.entries old (Flushed n) new) f
    (λ r. absurd (let e = r.0 in cc))
    (λ row is held ready does. flushed_row old new row writer n row.pending.entries is held ready does)

sync_told : (row : Row) (table : Table) (told : Told) (n : ℕ) → Synced n ≡ (sync_index_outcome row table told).reply → ((sync_index_outcome row table told).table ≡ record table { writers = with_row (index_synced row) table.writers }) × (n ≡ row.landed)
sync_told row table (Ok Made) n e = (refl, cc)
sync_told row table (Ok NoRoom) n e = absurd (cc)
sync_told row table (Ok NoFolder) n e = absurd (cc)
sync_told row table (Ok answer) n e = absurd (cc)
sync_told row table (Err Fault) n e = absurd (cc)
sync_told row table (Err NoMemory) n e = absurd (cc)

sync_row : (old : State) (caller writer n : ℕ) (new : State) → Answers old caller (SyncIndex writer) (Synced n) new → CallTold new writer n
sync_row old caller writer n new f =
    open_row caller writer old (Synced n) new (λ row. MakesAct (sync_index_step row) (sync_index_outcome row old.table) old (Synced n) new) f
    (λ r. absurd (let e = r.0 in cc))
    (λ row is held ready does.
    let t = sync_told row old.table does.told n does.answered in
    let rows : new.table.writers ≡ with_row (index_synced row) old.table.writers = ap (λ (s : State). s.table.writers) does.after ∙ ap (λ (b : Table). b.writers) t.0 in
    let put : row_of row.id (with_row (index_synced row) old.table.writers) ≡ Some (index_synced row) = row_of-with_row (index_synced row) old.table.writers row (subst (λ w. row_of w old.table.writers ≡ Some row) (sym is) held) in
    record { row = index_synced row; stands = ap (row_of writer) rows ∙ subst (λ w. row_of w (with_row (index_synced row) old.table.writers) ≡ Some (index_synced row)) is put; counted = sym t.1; ready = ready })

-- ---------- what a flush or a sync told has landed

-- the dropping of a writer whose call told a count, and what of it has landed
abbrev pub Lands : Moment → ℕ → ℕ → Type 0
Lands m writer count = (d : Dropping) × (d.writer ≡ writer) × IsOf m.state d × LandedAtLeast m d count

told_lands : (m : Moment) (s : IsSoundAt m) (writer count : ℕ) → CallTold m.state writer count → Lands m writer count
told_lands m s writer count t =
    let id : t.row.id ≡ writer = row_of_id writer m.state.table.writers t.row t.stands in
    let held : row_of t.row.id m.state.table.writers ≡ Some t.row = subst (λ w. row_of w m.state.table.writers ≡ Some t.row) (sym id) t.stands in
    (its_dropping t.row, id, record { row = t.row; held = held; room = refl; host = refl }, subst (LandedAtLeast m (its_dropping t.row)) t.counted (row_landed m s t.row held t.ready))

pub flush_lands : (m : Moment) (event : Event) (writer count : ℕ) → IsLawful m.state (event ∷ []) → IsSoundAt m → event.ask.call ≡ Flush writer → event.reply ≡ Flushed count → Lands (next_moment m event) writer count
flush_lands m event writer count legal s call reply =
    let a : Answers m.state event.caller (Flush writer) (Flushed count) event.after = answers_as m.state event.caller event.ask (Flush writer) event.reply (Flushed count) event.after call reply refl legal.1 in
    told_lands (next_moment m event) (sound_next m event [] legal s) writer count (flush_row m.state event.caller writer count event.after a)

pub sync_lands : (m : Moment) (event : Event) (writer count : ℕ) → IsLawful m.state (event ∷ []) → IsSoundAt m → event.ask.call ≡ SyncIndex writer → event.reply ≡ Synced count → Lands (next_moment m event) writer count
sync_lands m event writer count legal s call reply =
    let a : Answers m.state event.caller (SyncIndex writer) (Synced count) event.after = answers_as m.state event.caller event.ask (SyncIndex writer) event.reply (Synced count) event.after call reply refl legal.1 in
    told_lands (next_moment m event) (sound_next m event [] legal s) writer count (sync_row m.state event.caller writer count event.after a)

landed_later : (a b : Moment) (d : Dropping) (count : ℕ) → Grows a b → LandedAtLeast a d count → LandedAtLeast b d count
landed_later a b d count g h = record { stands = stood_grows a b d g h.stands; counted = omega (arith, h.counted, g.landed d h.stands.is_item) }

-- the table has one dropping of a writer
one_of : (state : State) (a b : Dropping) → a.writer ≡ b.writer → IsOf state a → IsOf state b → a ≡ b
one_of state a b writer of_a of_b =
    let same : of_a.row ≡ of_b.row = one_row state.table.writers b.writer of_a.row of_b.row (subst (λ w. row_of w state.table.writers ≡ Some of_a.row) writer of_a.held) of_b.held in
    let room : a.room ≡ b.room = sym of_a.room ∙ ap (λ (r : Row). r.room) same ∙ of_b.room in
    let host : a.host ≡ b.host = sym of_a.host ∙ ap (λ (r : Row). r.host) same ∙ of_b.host in
    λ i. record { room = room i; host = host i; writer = writer i }

-- what this event told of the writer has landed after it
abbrev Tells : Event → ℕ → ℕ → Type 0
Tells e writer count = (m : Moment) → IsLawful m.state (e ∷ []) → IsSoundAt m → Lands (next_moment m e) writer count

-- and after all events
told_landed : (m : Moment) (events : List Event) (d : Dropping) (count : ℕ) (e : Event) → IsLawful m.state events → IsSoundAt m → Among e events → Tells e d.writer count → IsOf e.after d → LandedAtLeast (moment_after m events) d count
told_landed m [] d count e legal s a tells of = absurd a
told_landed m (v ∷ events) d count e legal s (inl same) tells of =
    let next : Moment = next_moment m v in
    let l = subst (λ (x : Event). Tells x d.writer count) same tells m (legal.0, legal.1, tt) s in
    let one : l.0 ≡ d = one_of v.after l.0 d l.1 l.2 (subst (λ (x : Event). IsOf x.after d) same of) in
    landed_later next (moment_after next events) d count (grows_after next events legal.2 (sound_next m v events legal s)) (subst (λ x. LandedAtLeast next x count) one l.3)
told_landed m (v ∷ events) d count e legal s (inr more) tells of = told_landed (next_moment m v) events d count e legal.2 (sound_next m v events legal s) more tells of

-- it is in a cut that is admissible from there
landed_gathered : (start end : Moment) (room : ℕ) (cut : List Gathered) (truncs : List Trunc) (d : Dropping) (count : ℕ) → HasView start end room cut truncs → d.room ≡ room → LandedAtLeast start d count → Any (λ (g : Gathered). (g.dropping ≡ d) × (count ≤ g.count)) cut
landed_gathered start end room cut truncs d count view its landed_then =
    let (g, among_cut, is) = any_found (λ (x : Gathered). x.dropping ≡ d) cut (view.complete d its landed_then.stands) in
    let p : IsPrefixOf start end g = prefix_of start end cut g view.admissible among_cut in
    found_any (λ (x : Gathered). (x.dropping ≡ d) × (count ≤ x.count)) cut g among_cut (is, omega (arith, landed_then.counted, p.least, ap (λ x. landed start x) is))

-- A reader has all of the room that was synced before its first call.
pub synced_gathered : (first : Moment) (before : List Event) (end : Moment) (room : ℕ) (cut : List Gathered) (truncs : List Trunc) (d : Dropping) (count : ℕ) → IsLawful first.state before → IsSoundAt first → HasView (moment_after first before) end room cut truncs
    → d.room ≡ room → IsSyncedIn before d count → Any (λ (g : Gathered). (g.dropping ≡ d) × (count ≤ g.count)) cut
synced_gathered first before end room cut truncs d count legal s view its synced =
    let (e, a, (call, reply, of)) = any_found (λ (x : Event). (x.ask.call ≡ SyncIndex d.writer) × (x.reply ≡ Synced count) × IsOf x.after d) before synced in
    landed_gathered (moment_after first before) end room cut truncs d count view its (told_landed first before d count e legal s a (λ m l sound. sync_lands m e d.writer count l sound call reply) of)

-- And all that was flushed.
pub flushed_gathered : (first : Moment) (before : List Event) (end : Moment) (room : ℕ) (cut : List Gathered) (truncs : List Trunc) (d : Dropping) (count : ℕ) → IsLawful first.state before → IsSoundAt first → HasView (moment_after first before) end room cut truncs
    → d.room ≡ room → IsFlushedIn before d count → Any (λ (g : Gathered). (g.dropping ≡ d) × (count ≤ g.count)) cut
flushed_gathered first before end room cut truncs d count legal s view its flushed_so =
    let (e, a, (call, reply, of)) = any_found (λ (x : Event). (x.ask.call ≡ Flush d.writer) × (x.reply ≡ Flushed count) × IsOf x.after d) before flushed_so in
    landed_gathered (moment_after first before) end room cut truncs d count view its (told_landed first before d count e legal s a (λ m l sound. flush_lands m e d.writer count l sound call reply) of)

-- ---------- nothing lands but by the writer's own flushes

landed_stays : (m : Moment) (events : List Event) (d : Dropping) → IsNamed d → IsLawful m.state events → IsSoundAt m → AllSpareIndex events d → landed (moment_after m events) d ≡ landed m d
landed_stays m [] d named legal s spare = refl
landed_stays m (e ∷ events) d named legal s spare =
    landed_stays (next_moment m e) events d named legal.2 (sound_next m e events legal s) spare.1 ∙ lands_none_next m e events d named legal s spare.0

-- No more of a writer has landed than it had issued when it last was flushed.
pub landed_most : (m : Moment) (events : List Event) (d : Dropping) → IsNamed d → IsLawful m.state events → IsSoundAt m → AllSpareIndex events d → landed (moment_after m events) d ≤ length (issued_by m d)
landed_most m events d named legal s spare = omega (arith, landed_stays m events d named legal s spare, landed_whole m s d named)

-- ---------- truncates

-- a truncate that is there stays
pub trunc_stays : (m : Moment) (events : List Event) (room stamp size : ℕ) → IsLawful m.state events → IsSoundAt m → HadTrunc m room stamp size → HadTrunc (moment_after m events) room stamp size
trunc_stays m events room stamp size legal s had = trunc_grows m (moment_after m events) room stamp size (grows_after m events legal s) had

-- what is above all is above all that was there earlier
above_earlier : (a b : Moment) (room stamp : ℕ) → IsSoundAt a → IsSoundAt b → Grows a b → IsAboveThen b room stamp → IsAboveThen a room stamp
above_earlier a b room stamp s t grows above = record {
  truncates = λ other size had. above.truncates other size (trunc_grows a b room other size grows had);
  entries = λ d named its.
      let P : Entry → Type 0 = λ (e : Entry). e.stamp < stamp in
      subst (AllByRecursion P) (sym (landed_stay a b s t d named grows)) (All-take P (landed a d) (landed_by b d) (above.entries d named its));
}

-- A truncate that comes has a stamp above every truncate of its room that was there before it, and every entry that had
-- landed.
pub truncs_above : (m : Moment) (events : List Event) (room stamp size : ℕ) → IsLawful m.state events → IsSoundAt m → (HadTrunc m room stamp size → ⊥) → HadTrunc (moment_after m events) room stamp size → IsAboveThen m room stamp
truncs_above m [] room stamp size legal s none had = absurd (none had)
truncs_above m (e ∷ events) room stamp size legal s none had =
    let next : Moment = next_moment m e in
    let then : IsSoundAt next = sound_next m e events legal s in
    elim (cases_Option (file_then next room (trunc_path stamp size))) as (λ _. IsAboveThen m room stamp) [
      | inl absent ↦
          above_earlier m next room stamp s then (grows_next m e events legal s)
          (truncs_above next events room stamp size legal.2 then (λ h. let clash : None ≡ Some h.bytes = sym absent ∙ h.there in cc) had)
      | inr (bytes, there) ↦ elim (trunc_next m e events room stamp size legal s (record { is_item = had.is_item; bytes = bytes; there = there })) as (λ _. IsAboveThen m room stamp) [
        | inl was ↦ absurd (none was)
        | inr above ↦ above
      ]
    ]

-- So it is in its room, as the store told it.
pub truncs_come_above : (m : Moment) (events : List Event) (number stamp size : ℕ) → IsLawful m.state events → IsSoundAt m → (HadTrunc m number stamp size → ⊥) → HadTrunc (moment_after m events) number stamp size → InRoom m.state number (λ room. IsAboveAll room stamp)
truncs_come_above m events number stamp size legal s none had = above_room m s number stamp (truncs_above m events number stamp size legal s none had)
