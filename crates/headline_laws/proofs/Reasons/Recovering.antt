-- Which refusals the program of a recovery ends in, whatever is answered.
use Rattle.std.proofs.Common.{◌≡◌, inl, inr, ℕ, zero, suc, ◌+◌, ◌-◌, ◌*◌, ◌/◌, Bool, true, false, nat_eq, nat_le, List, [], ◌∷◌, ◌++◌, length, drop, min, Option, Some, None, Result, Ok, Err, refl, sym, ap, subst, if◌then◌else◌}
use Rattle.std.specs.Prelude.{◌==◌}
use Rattle.index_entry.specs.Spelling.{entry_in}
use Rattle.store_api.specs.declared.step.Answer.TheVariants.{Names, NoFolder}
use Rattle.mount_model.specs.Program.{done, followed_by}
use Rattle.mount_model.specs.declared.call.Call.TheVariants.{Bury, Find, Inspect, Look, MendHold, SyncDropping}
use Rattle.mount_model.specs.declared.call.Look.{Look as LookAt}
use Rattle.mount_model.specs.declared.call.Look.TheVariants.{List as ListFolder}
use Rattle.mount_model.specs.declared.reply.Refusal.{Refusal}
use Rattle.mount_model.specs.declared.reply.Refusal.TheVariants as refusal
use Rattle.mount_model.specs.declared.reply.Reply.{Reply}
use Rattle.mount_model.specs.declared.reply.Reply.TheVariants as reply
use Rattle.mount_model.specs.declared.row.Row.{Row}
use Rattle.mount_model.specs.Making.{or_reason}
use Rattle.mount_model.specs.Paths.{Name, index_path, log_path}
use Rattle.mount_model.specs.Recovering.{live_reason}
use Rattle.mount_model.specs.Table.{is_held_room, is_live, row_of}
use Rattle.container_layout.specs.Paths.{openhosts}
use Rattle.plfs_types.specs.declared.names.Path.{Path}
use Rattle.mount_model.specs.declared.stuck.Stuck.{Stuck}
use Rattle.mount_model.specs.declared.stuck.Stuck.TheVariants as stuck
use Rattle.mount_model.specs.declared.names.OpenEntry.{OpenEntry}
use Rattle.mount_model.specs.Entries.{is_next, next_read, reads_of}
use Rattle.mount_model.specs.FlowListed.{known, told_by}
use Rattle.mount_model.specs.Names.{open_in}
use Rattle.mount_model.specs.Order.{entries_by_writer}
use Rattle.mount_model.specs.FlowReplies.{Tries, bytes_in, failure, given, is_no_folder, length_in, on_ok, room_in, trouble}
use Rattle.torn_tail.specs.declared.recovering.Recovered.{Recovered}
use Rattle.torn_tail.specs.Words.{Run}
use Rattle.torn_tail.specs.Entries.{checked, longer, looked, no_entries}
use Rattle.torn_tail.specs.Recovering.{entries_named, hold_mended, lists_open, mends_hold, noted, nothing, recover_program, recovers, recovers_listed}
use Rattle.torn_tail.specs.Writers.{buries, found, if_checked, if_done, if_synced, keeps, measures_index, measures_log, mends, mends_meta, not_done, reads, reads_then, syncs_index, syncs_log, writer_program}
use Rattle.reader_laws.specs.Moments.{IsSoundAt, Moment}
use Rattle.reader_laws.specs.Failing.{IsContainerAt}
use Rattle.headline_laws.proofs.Reasons.Containers.{found_there, has_room, no_check}
use Rattle.headline_laws.proofs.Reasons.Goes.{EndsSo, Fact, Goes, IsSo, IsTroubleSo, Stepped, anything, goes_more, stands}
use Rattle.headline_laws.proofs.Reasons.Holds.{failure_so}

-- what becomes of a writer
abbrev result_type : {R : Type 0} → Tries R → Type 0
result_type {R} program = R

abbrev Fate : Type 0
Fate = result_type (buries 0 (record { host = 0; writer = 0 }) 0)

-- no such file, or it is held; a writer that turns out to be live is passed over
abbrev pub MayRefuseRecovery : Refusal → Type 0
MayRefuseRecovery refusal.NoRoom = Unit {0}
MayRefuseRecovery refusal.Held = Unit {0}
MayRefuseRecovery other = ⊥

-- where the container is there, it is held
abbrev pub IsHeld : Refusal → Type 0
IsHeld refusal.Held = Unit {0}
IsHeld other = ⊥

-- a refusal of a call on one writer
abbrev OrAlive : (Refusal → Type 0) → Refusal → Type 0
OrAlive fine refusal.Alive = Unit {0}
OrAlive fine why = fine why

-- ---- what the calls are refused for

alive_so : (row : Option Row) (why : Refusal) → live_reason row ≡ Some why → why ≡ refusal.Alive
alive_so None why is = absurd (cc)
alive_so (Some row) why is = live_so (is_live row.stage) is
  where
    live_so : (b : Bool) → (if b then Some refusal.Alive else None) ≡ Some why → why ≡ refusal.Alive
    live_so true is = (let same : refusal.Alive ≡ why = cc in sym same)
    live_so false is = absurd (cc)

module _ (m : Moment) (sound : IsSoundAt m) (room : ℕ) (had : IsContainerAt m room) where
  marked_not : (room == m.state.marks) ≡ true → ⊥
  marked_not is = no_check m sound room had refusal.NoRoom (ap (λ b. if b then Some refusal.NoRoom else None) is)

  mend_so : (fine : Refusal → Type 0) (row : Option Row) (why : Refusal) → or_reason (if room == m.state.marks then Some refusal.NoRoom else None) (live_reason row) ≡ Some why → OrAlive fine why
  mend_so fine row why is = by (room == m.state.marks) refl is
    where
      by : (b : Bool) → (room == m.state.marks) ≡ b → or_reason (if b then Some refusal.NoRoom else None) (live_reason row) ≡ Some why → OrAlive fine why
      by true marks check = absurd (marked_not marks)
      by false marks check = subst (OrAlive fine) (sym (alive_so row why check)) tt

  shut_so : (held : Bool) (why : Refusal) → or_reason (if room == m.state.marks then Some refusal.NoRoom else None) (if held then Some refusal.Held else None) ≡ Some why → IsHeld why
  shut_so held why is = by (room == m.state.marks) held refl is
    where
      by : (b taken : Bool) → (room == m.state.marks) ≡ b → or_reason (if b then Some refusal.NoRoom else None) (if taken then Some refusal.Held else None) ≡ Some why → IsHeld why
      by true taken marks check = absurd (marked_not marks)
      by false true marks check = (let same : refusal.Held ≡ why = cc in subst IsHeld same tt)
      by false false marks check = absurd (cc)

-- it ended so, or with such a refusal
abbrev pub RecoveredSo : Result Recovered Stuck → Type 0
RecoveredSo = EndsSo (λ (r : Recovered). Unit {0}) MayRefuseRecovery

-- the same of a container that is there
abbrev pub RoomRecovered : Result Recovered Stuck → Type 0
RoomRecovered = EndsSo (λ (r : Recovered). Unit {0}) IsHeld

room_more : (result : Result Recovered Stuck) → RoomRecovered result → RecoveredSo result
room_more (Ok r) good = tt
room_more (Err stuck.Fault) good = tt
room_more (Err (stuck.Damaged folder file place)) good = tt
room_more (Err (stuck.Refused refusal.Held)) good = tt
room_more (Err (stuck.Refused other)) good = absurd good

-- a program that recovers writers is refused for these reasons alone
module _ (n : ℕ) (may : Refusal → Type 0) where
  abbrev pub Fine : Reply → Type 0
  Fine rep = (why : Refusal) → rep ≡ reply.Refused why → may why

  abbrev FineOrAlive : Reply → Type 0
  FineOrAlive rep = (why : Refusal) → rep ≡ reply.Refused why → OrAlive may why

  pub look_fine : (room : ℕ) (look : LookAt) (m next : Moment) (rep : Reply) → Stepped n m (Look room look) rep next → IsContainerAt m room → Fine rep
  look_fine room look m next rep s had why is = elim (s.reason why is) as (λ _. may why) [
    | inl check ↦ absurd (no_check m s.sound room had why check)
    | inr none ↦ absurd (has_room m s.sound room had (none.1 s.sound.shape.tree s.sound.shape.told))
  ]

  sync_fine : (room host w : ℕ) (is_log : Bool) (m next : Moment) (rep : Reply) → Stepped n m (SyncDropping room host w is_log) rep next → IsContainerAt m room → Fine rep
  sync_fine room host w is_log m next rep s had why is = absurd (no_check m s.sound room had why (s.reason why is))

  inspect_fine : (w : ℕ) (m next : Moment) (rep : Reply) → Stepped n m (Inspect w) rep next → FineOrAlive rep
  inspect_fine w m next rep s why is = subst (OrAlive may) (sym (alive_so (row_of w m.state.table.writers) why (s.reason why is))) tt

  bury_fine : (room host w : ℕ) (m next : Moment) (rep : Reply) → Stepped n m (Bury room host w) rep next → IsContainerAt m room → FineOrAlive rep
  bury_fine room host w m next rep s had why is = elim (s.reason why is) as (λ _. OrAlive may why) [
    | inl check ↦ mend_so m s.sound room had may (row_of w m.state.table.writers) why check
    | inr none ↦ absurd (has_room m s.sound room had (none.1 s.sound.shape.tree s.sound.shape.told))
  ]

  -- ---- the calls for one writer

  abbrev Fated : Result Fate Stuck → Type 0
  Fated = EndsSo (λ (fate : Fate). Unit {0}) may

  abbrev pub Well : Result Recovered Stuck → Type 0
  Well = EndsSo (λ (r : Recovered). Unit {0}) may

  trouble_fine : (path : Path) (rep : Reply) → Fine rep → IsTroubleSo may (trouble path rep)
  trouble_fine path (reply.Refused why) fine = fine why refl
  trouble_fine path (reply.Damaged folder file) fine = tt
  trouble_fine path (reply.Looked NoFolder) fine = tt
  trouble_fine path (reply.Looked answer) fine = tt
  trouble_fine path rep fine = tt

  passed_over : (rep : Reply) → FineOrAlive rep → Fated (not_done rep)
  passed_over (reply.Refused refusal.Alive) fine = tt
  passed_over (reply.Refused why) fine = fine why refl
  passed_over (reply.Damaged folder file) fine = tt
  passed_over rep fine = tt

  -- what follows a writer's calls
  module _ (room : ℕ) (after : Result Fate Stuck → Tries Recovered) (on : (result : Result Fate Stuck) → Fated result → Goes n Well (stands room) (after result)) where
    abbrev Then : Tries Fate → Type 0
    Then program = Goes n Well (stands room) (followed_by program after)

    done_goes : (program : Tries Fate) (rep : Reply) → FineOrAlive rep → Then program → Then (if_done program rep)
    done_goes program reply.Done fine goes = goes
    done_goes program rep fine goes = on (not_done rep) (passed_over rep fine)

    synced_goes : (program : Tries Fate) (rep : Reply) → Fine rep → Then program → Then (if_synced program rep)
    synced_goes program reply.Done fine goes = goes
    synced_goes program rep fine goes = on (Err (failure rep)) (failure_so may rep fine)

    given_goes : {A : Type 0} (item : Option A) (path : Path) (rep : Reply) (program : A → Tries Fate) → Fine rep → ((a : A) → Then (program a)) → Then (given item (trouble path rep) program)
    given_goes None path rep program fine goes = on (Err (trouble path rep)) (trouble_fine path rep fine)
    given_goes (Some a) path rep program fine goes = goes a

    module _ (e : OpenEntry) where
      buries_go : (count : ℕ) → Then (buries room e count)
      buries_go count = λ m next rep s so. (stands room, s.grows room so, done_goes (done (Ok _)) rep (bury_fine room e.host e.writer m next rep s so) (on (Ok _) tt))

      meta_goes : (run : Run) → Then (mends_meta room e run)
      meta_goes run = λ m next rep s so. (stands room, s.grows room so, done_goes (buries room e run.cover.count) rep (λ why is. mend_so m s.sound room so may (row_of run.cover.writer m.state.table.writers) why (s.reason why is)) (buries_go run.cover.count))

      index_goes : (run : Run) → Then (syncs_index room e run)
      index_goes run = λ m next rep s so. (stands room, s.grows room so, synced_goes (mends_meta room e run) rep (sync_fine room e.host e.writer false m next rep s so) (meta_goes run))

      log_goes : (run : Run) → Then (syncs_log room e run)
      log_goes run = λ m next rep s so. (stands room, s.grows room so, synced_goes (syncs_index room e run) rep (sync_fine room e.host e.writer true m next rep s so) (index_goes run))

      keeps_go : (run : Run) → Then (keeps room e run)
      keeps_go run = elim (nat_eq run.cover.count 0) as (λ b. Then (if b then buries room e 0 else syncs_log room e run)) [
        | true ↦ buries_go 0
        | false ↦ log_goes run
      ]

      found_goes : (told : ℕ) (run : Run) → Then (found room e told run)
      found_goes told run = elim (nat_eq told (40 * run.cover.count)) as (λ b. Then (if b then keeps room e run else mends room e run)) [
        | true ↦ keeps_go run
        | false ↦ λ m next rep s so. (stands room, s.grows room so, done_goes (keeps room e run) rep (λ why is. mend_so m s.sound room so may (row_of e.writer m.state.table.writers) why (s.reason why is)) (keeps_go run))
      ]

      -- whether a Read was full, and what follows it
      either_goes : (b : Bool) (p q : Tries Fate) → Then p → Then q → Then (if b then p else q)
      either_goes true p q one other = one
      either_goes false p q one other = other

      either_of : {X : Type 0} (P : X → Type 0) (b : Bool) (x y : X) → P x → P y → P (if b then x else y)
      either_of P true x y one other = one
      either_of P false x y one other = other

      module _ (told : ℕ) (more : Bool → Run → Tries Fate) (full : Bool) (goes : (past : Bool) (further : Run) → Then (more past further)) where
        checked_goes : (log k : ℕ) (bytes : List ℕ) (run : Run) → Then (if_checked e (found room e told) more full (checked log k bytes run))
        checked_goes log zero bytes run = either_goes full (more false run) (found room e told run) (goes false run) (found_goes told run)
        checked_goes log (suc k) bytes run =
            either_of (λ went. Then (if_checked e (found room e told) more full went)) (is_next run.cover (entry_in bytes)) _ _
            (either_of (λ went. Then (if_checked e (found room e told) more full went)) (nat_le ((entry_in bytes).physical + (entry_in bytes).len) log) _ _
            (checked_goes log k (drop 40 bytes) (longer (entry_in bytes) run))
            (either_goes full (more true run) (found room e told run) (goes true run) (found_goes told run)))
            (on (Err _) tt)

        looked_goes : (ended : Bool) (log asked : ℕ) (bytes : List ℕ) (run : Run) → Then (if_checked e (found room e told) more full (looked ended log asked bytes run))
        looked_goes true log asked bytes run = either_goes full (more true run) (found room e told run) (goes true run) (found_goes told run)
        looked_goes false log asked bytes run = checked_goes log (min (length bytes / 40) asked) bytes run

      then_goes : (told log left : ℕ) (ended : Bool) (run : Run) (more : Bool → Run → Tries Fate) → ((past : Bool) (further : Run) → Then (more past further)) → Then (reads_then room e told log left ended run more)
      then_goes told log left ended run more goes = λ m next rep s so. (stands room, s.grows room so, given_goes (bytes_in rep) (index_path e.host e.writer) rep _ (look_fine room _ m next rep s so) (λ bytes. looked_goes told more (nat_le (40 * next_read left) (length bytes)) goes ended log (next_read left) bytes run))

      reads_go : (k told log left : ℕ) (ended : Bool) (run : Run) → Then (reads k room e told log left ended run)
      reads_go zero told log left ended run = found_goes told run
      reads_go (suc k) told log left ended run = then_goes told log left ended run _ (λ past longer. reads_go k told log (left - next_read left) past longer)

      log_measured : (told : ℕ) → Then (measures_log room e told)
      log_measured told = λ m next rep s so. (stands room, s.grows room so, given_goes (length_in rep) (log_path e.host e.writer) rep _ (look_fine room _ m next rep s so) (λ log. reads_go (reads_of (told / 40)) told log (told / 40) false (no_entries e.writer)))

      index_measured : Then (measures_index room e)
      index_measured = λ m next rep s so. (stands room, s.grows room so, given_goes (length_in rep) (index_path e.host e.writer) rep (measures_log room e) (look_fine room _ m next rep s so) log_measured)

      writer_goes : Then (writer_program room e)
      writer_goes = λ m next rep s so. (stands room, s.grows room so, done_goes (measures_index room e) rep (inspect_fine e.writer m next rep s) index_measured)

  -- ---- one writer after the other

  fated_goes : (room : ℕ) (next : Fate → Tries Recovered) (result : Result Fate Stuck) → Fated result → ((fate : Fate) → Goes n Well (stands room) (next fate)) → Goes n Well (stands room) (on_ok next result)
  fated_goes room next (Ok fate) fine goes = goes fate
  fated_goes room next (Err why) fine goes = fine

  recovers_go : (room : ℕ) (entries : List OpenEntry) (sofar : Recovered) → Goes n Well (stands room) (recovers room entries sofar)
  recovers_go room [] sofar = tt
  recovers_go room (e ∷ entries) sofar = writer_goes room (on_ok (λ fate. recovers room entries (noted e fate sofar))) (λ result fine. fated_goes room (λ fate. recovers room entries (noted e fate sofar)) result fine (λ fate. recovers_go room entries (noted e fate sofar))) e

  abbrev pub Listed : Result (List OpenEntry) Stuck → Type 0
  Listed = EndsSo (λ (entries : List OpenEntry). Unit {0}) may

  known_so : {A : Type 0} (folder name : Name) (item : Option A) (goes_on : A → Result (List OpenEntry) Stuck) → ((a : A) → Listed (goes_on a)) → Listed (known folder name item goes_on)
  known_so folder name None goes_on each = tt
  known_so folder name (Some a) goes_on each = each a

  named_so : (names : List Name) (sofar : List OpenEntry) → Listed (entries_named names sofar)
  named_so [] sofar = tt
  named_so (name ∷ names) sofar = known_so openhosts name (open_in name) (λ (e : OpenEntry). entries_named names (sofar ++ e ∷ [])) (λ (e : OpenEntry). named_so names (sofar ++ e ∷ []))

  pub told_so : (rep : Reply) → Fine rep → Listed (told_by openhosts (λ names. entries_named names []) rep)
  told_so (reply.Looked (Names names)) fine = named_so names []
  told_so (reply.Looked answer) fine = tt
  told_so (reply.Refused why) fine = fine why refl
  told_so rep fine = tt

  pub listed_goes : (room : ℕ) (listed : Result (List OpenEntry) Stuck) → Listed listed → Goes n Well (stands room) (recovers_listed room listed)
  listed_goes room (Ok entries) fine = recovers_go room (entries_by_writer entries) nothing
  listed_goes room (Err why) fine = fine

module _ (n : ℕ) where
  mended_so : (rep : Reply) → Fine n IsHeld rep → RoomRecovered (hold_mended rep)
  mended_so (reply.Mended made) fine = tt
  mended_so rep fine = failure_so IsHeld rep fine

  mend_reason : (room : ℕ) (m next : Moment) (rep : Reply) (why : Refusal) → Stepped n m (MendHold room) rep next → IsContainerAt m room → rep ≡ reply.Refused why → IsHeld why
  mend_reason room m next rep why s had is = elim (s.reason why is) as (λ _. IsHeld why) [
    | inl check ↦ shut_so m s.sound room had (is_held_room room m.state.table.holders) why check
    | inr none ↦ absurd (has_room m s.sound room had (none.1 s.sound.shape.tree s.sound.shape.told))
  ]

  mends_go : (room : ℕ) → Goes n RoomRecovered (stands room) (mends_hold room)
  mends_go room = λ m next rep s so. (stands room, s.grows room so, mended_so rep (λ why is. mend_reason room m next rep why s so is))

  -- of a container that is there
  pub room_goes : (room : ℕ) → Goes n RoomRecovered (stands room) (lists_open room)
  room_goes room = λ m next rep s so. (stands room, s.grows room so, by rep (look_fine n IsHeld room (ListFolder openhosts) m next rep s so))
    where
      by : (rep : Reply) → Fine n IsHeld rep → Goes n RoomRecovered (stands room) (if is_no_folder rep then mends_hold room else recovers_listed room (told_by openhosts (λ names. entries_named names []) rep))
      by rep fine = elim (is_no_folder rep) as (λ b. Goes n RoomRecovered (stands room) (if b then mends_hold room else recovers_listed room (told_by openhosts (λ names. entries_named names []) rep))) [
        | true ↦ mends_go room
        | false ↦ listed_goes n IsHeld room (told_by openhosts (λ names. entries_named names []) rep) (told_so n IsHeld rep fine)
      ]

  sought_goes : (name : Name) (rep : Reply) (m next : Moment) → Stepped n m (Find name) rep next → (after : Fact) × IsSo n after next × Goes n RecoveredSo after (given (room_in rep) (failure rep) lists_open)
  sought_goes name (reply.Room room) m next s = (stands room, s.grows room (found_there m n name room next.state s.sound s.answers), goes_more n RoomRecovered RecoveredSo room_more (stands room) (lists_open room) (room_goes room))
  sought_goes name (reply.Refused why) m next s = (anything, tt, subst MayRefuseRecovery (sym (s.reason why refl).0) tt)
  sought_goes name (reply.Damaged folder file) m next s = (anything, tt, tt)
  sought_goes name rep m next s = (anything, tt, tt)

  -- the whole program
  pub recover_goes : (name : Name) → Goes n RecoveredSo anything (recover_program name)
  recover_goes name = λ m next rep s so. sought_goes name rep m next s
