-- The recovery of one writer shows no damage.
use Rattle.std.proofs.Common.{◌≡◌, ◌≤◌, ◌+◌, ◌-◌, ◌*◌, ◌/◌, ℕ, zero, suc, nat_le, Bool, true, false, List, [], ◌∷◌, ◌++◌, length, take, drop, get_or, Option, Some, None, refl, ap, sym, ◌∙◌, ◌⊎◌, inl, inr, subst, arith}
use Rattle.std.specs.Prelude.{◌≢◌, ◌==◌, Ok, Err, slice_get, if◌then◌else◌}
use Rattle.std.proofs.lemmas.Bool.Decides.{nat_tests}
use Rattle.plfs_types.specs.declared.entries.Entry.{Entry}
use Rattle.plfs_types.specs.declared.names.Path.{Path}
use Rattle.container_layout.specs.declared.items.Item.TheVariants.{Index}
use Rattle.container_layout.proofs.Facts.{elsewhere}
use Rattle.store_api.specs.declared.step.Answer.TheVariants as answer
use Rattle.store_api.specs.declared.store.Trouble.TheVariants as trouble_
use Rattle.store_api.specs.declared.tree.Room.{Room}
use Rattle.store_laws.specs.Files.{file_at}
use Rattle.mount_model.specs.declared.call.Call.{Call}
use Rattle.mount_model.specs.declared.call.Call.TheVariants.{Bury, Inspect, Look, Mend, MendMeta, SyncDropping}
use Rattle.mount_model.specs.declared.call.Look.TheVariants.{Length, Read}
use Rattle.mount_model.specs.declared.call.Ask.{Ask}
use Rattle.mount_model.specs.declared.reply.Reply.{Reply}
use Rattle.mount_model.specs.declared.reply.Reply.TheVariants.{Damaged, Done, Looked, Refused}
use Rattle.mount_model.specs.declared.reply.Refusal.TheVariants.{Alive}
use Rattle.mount_model.specs.Looking.{length_reply, look_outcome, look_step}
use Rattle.mount_model.specs.Making.{MakesAct, Refuses, Told, room_check}
use Rattle.mount_model.specs.Paths.{index_path, log_path}
use Rattle.mount_model.specs.Recovering.{IsHostAndWriter}
use Rattle.mount_model.specs.State.{State, last_id}
use Rattle.mount_model.specs.Step.{IsStep}
use Rattle.mount_model.proofs.Facts.{match_cases, step_place}
use Rattle.mount_sound.specs.Issued.{issued_after}
use Rattle.mount_sound.specs.Items.{HasItem}
use Rattle.mount_sound.specs.Ledger.{Ledger}
use Rattle.mount_sound.specs.Owed.{IsNotLive, May, StandsInRoom}
use Rattle.mount_sound.specs.Sound.{IsSoundFor}
use Rattle.mount_sound.proofs.Facts.{gone_anywhere, gone_later, in_later, index_now, is_index, later, not_live_later, only_dead, some_room}
use Rattle.mount_undamaged.specs.Damage.{ShowsNoDamage}
use Rattle.mount_undamaged.proofs.Facts.{step_shows}
use Rattle.mount_model.specs.Running.{unbroken}
use Rattle.mount_model.specs.Program.{ask, done}
use Rattle.mount_model.specs.declared.names.OpenEntry.{OpenEntry}
use Rattle.mount_model.specs.FlowReplies.{Tries, bytes_in, failure, given, length_in, trouble}
use Rattle.torn_tail.specs.Entries.{looked, no_entries}
use Rattle.torn_tail.specs.Writers.{buries, found, if_checked, if_done, if_synced, keeps, measures_index, measures_log, mends, mends_meta, not_done, reads, reads_left, syncs_index, syncs_log, writer_program}
use Rattle.mount_model.specs.Entries.{next_read, reads_of}
use Rattle.torn_tail.specs.Words.{Run, Went}
use Rattle.reader_laws.specs.Moments.{Dropping, Moment, IsSoundAt, file_in_room, file_told, file_then}
use Rattle.reader_laws.proofs.Gathered.Facts.{length_told, read_ends}
use Rattle.reader_laws.proofs.Facts.{HasEntries, answered, has_entries}
use Rattle.trouble_laws.specs.Undamaged.{IsNoDamage, IsUndamaged}
use Rattle.trouble_laws.proofs.Checks.{GoesOn, IsFrontOf, front_cut, read_so}
use Rattle.trouble_laws.proofs.Finding.{failure_plain}
use Rattle.trouble_laws.proofs.Listed.{IsPlain}
use Rattle.trouble_laws.proofs.Walking.{Ends, Stays, ends_ask, ends_call, ends_done}

-- ---- replies

not_done_plain : (reply : Reply) → ShowsNoDamage reply → IsUndamaged (not_done reply)
not_done_plain (Damaged folder file) shows = absurd shows
not_done_plain (Refused Alive) shows = tt
not_done_plain (Refused why) shows = tt
not_done_plain reply shows = tt

-- what became of a writer
abbrev result_of : {R : Type 0} → Tries R → Type 0
result_of {R} program = R

abbrev pub Fate : Type 0
Fate = result_of (writer_program 0 (record { host = 0; writer = 0 }))

-- what follows the reply to a program's first call
abbrev after_reply : {R : Type 0} → Tries R → Reply → Tries R
after_reply (done result) reply = done result
after_reply (ask call k) reply = k reply

-- a length was told, or the file is not there, or nothing is told
abbrev LengthEnds : Reply → Type 0
LengthEnds reply = ((size : ℕ) × (reply ≡ Looked (answer.Number size))) ⊎ (((reply ≡ Looked answer.Absent) ⊎ (reply ≡ Looked answer.NoFolder)) ⊎ IsPlain reply)

length_shape : (path : Path) (told : Told) (reply : Reply) → ShowsNoDamage reply → reply ≡ length_reply path told → LengthEnds reply
length_shape path (Ok (answer.Number size)) reply shows is = inl (size, is)
length_shape path (Ok answer.Absent) reply shows is = inr (inl (inl is))
length_shape path (Ok answer.NoFolder) reply shows is = inr (inl (inr is))
length_shape path (Ok answer.NoRoom) reply shows is = inr (inr (subst IsPlain (sym is) tt))
length_shape path (Ok found_) reply shows is = absurd (subst ShowsNoDamage is shows)
length_shape path (Err trouble_.Fault) reply shows is = inr (inr (subst IsPlain (sym is) tt))
length_shape path (Err trouble_.NoMemory) reply shows is = inr (inr (subst IsPlain (sym is) tt))

length_ends : (state : State) (caller number : ℕ) (path : Path) (reply : Reply) (after : State) → ShowsNoDamage reply → IsStep state caller (unbroken (Look number (Length path))) reply after → LengthEnds reply
length_ends state caller number path reply after shows step =
    elim (match_cases (room_check state number) (MakesAct (look_step number (Length path)) (look_outcome (Length path) state) state reply after) (λ why. Refuses why state reply after) step.does) as (λ _. LengthEnds reply) [
      | inl (none, m) ↦ length_shape path m.told reply shows m.answered
      | inr (why, some, refused) ↦ inr (inr (subst IsPlain (sym refused.0) tt))
    ]

plain_trouble : (path : Path) (reply : Reply) → IsPlain reply → IsNoDamage (trouble path reply)
plain_trouble path (Looked found_) plain = absurd plain
plain_trouble path (Damaged folder file) plain = absurd plain
plain_trouble path reply plain = tt

plain_length : (reply : Reply) → IsPlain reply → length_in reply ≡ None
plain_length (Looked found_) plain = absurd plain
plain_length (Damaged folder file) plain = absurd plain
plain_length reply plain = refl

plain_bytes : (reply : Reply) → IsPlain reply → bytes_in reply ≡ None
plain_bytes (Looked found_) plain = absurd plain
plain_bytes (Damaged folder file) plain = absurd plain
plain_bytes reply plain = refl

-- ---- what is known of a writer

pub drawn_stays : (writer : ℕ) → Stays (λ state. writer ≤ last_id state)
drawn_stays writer issued old new other asked reply may step s drawn = omega (arith, drawn, (step_place old new other asked reply step).serial, (step_place old new other asked reply step).mount)

-- it isn't live, and its id was drawn
abbrev IsGone : OpenEntry → State → Type 0
IsGone e state = IsNotLive state e.writer × (e.writer ≤ last_id state)

gone_stays : (e : OpenEntry) → Stays (IsGone e)
gone_stays e issued old new other asked reply may step s f = (not_live_later issued old new other asked reply may step s e.writer f.1 f.0, drawn_stays e.writer issued old new other asked reply may step s f.1)

-- its index dropping has the first of these entries
record HasFront (e : OpenEntry) (entries : List Entry) (room : Room) : Type 0 where
  pub now : List ℕ
  pub stands : HasItem room (Index e.host e.writer) now
  pub front : IsFrontOf entries now

abbrev IsLeft : ℕ → OpenEntry → List Entry → State → Type 0
IsLeft number e entries state = IsGone e state × StandsInRoom state number (HasFront e entries)

left_stays : (number : ℕ) (e : OpenEntry) (entries : List Entry) → Stays (IsLeft number e entries)
left_stays number e entries issued old new other asked reply may step s f = (
  gone_stays e issued old new other asked reply may step s f.0,
  (
      let was = f.1 s.shape.tree s.shape.told in
      let h : HasFront e entries was.0 = was.2 in
      let s' : IsSoundFor (issued_after issued old asked.call reply) new = later issued old new other asked reply may step s in
      let g = gone_later issued old new other asked reply may step s s' number e.host e.writer h.stands.is_item (gone_anywhere number e.writer old.table.writers f.0.0) was.0 was.1 in
      let i = index_now issued old new other asked reply may step s s' number e.host e.writer was.0 g.0 was.1 g.1 g.2 h.now h.stands in
      in_later issued old new other asked reply may step s s' number (HasFront e entries) (
        g.0,
        g.1,
        record {
          now = i.bytes;
          stands = i.stands;
          front = elim i.are as (λ _. IsFrontOf entries i.bytes) [
            | inl same ↦ subst (IsFrontOf entries) (sym same) h.front
            | inr (is, long) ↦ subst (IsFrontOf entries) (sym is) (front_cut entries h.now _ h.front)
          ];
        },
      )
      ),
)

module _ (caller number : ℕ) (e : OpenEntry) (fits : IsHostAndWriter e.host e.writer) where
  abbrev FateEnds : Tries Fate → State → Type 0
  FateEnds program state = Ends caller IsUndamaged program state

  -- ---- behind what was read

  if_done_ends : (next : Tries Fate) → ((state : State) → FateEnds next state) → (reply : Reply) → ShowsNoDamage reply → (state : State) → FateEnds (if_done next reply) state
  if_done_ends next on Done shows = on
  if_done_ends next on reply shows = ends_done caller IsUndamaged (not_done reply) (not_done_plain reply shows)

  if_synced_ends : (next : Tries Fate) → ((state : State) → FateEnds next state) → (reply : Reply) → ShowsNoDamage reply → (state : State) → FateEnds (if_synced next reply) state
  if_synced_ends next on Done shows = on
  if_synced_ends next on reply shows = ends_done caller IsUndamaged (Err (failure reply)) (failure_plain reply shows)

  buries_end : (count : ℕ) (state : State) → FateEnds (buries number e count) state
  buries_end count = ends_call caller IsUndamaged (Bury number e.host e.writer) (after_reply (buries number e count)) buried
    where
      buried : (reply : Reply) → ShowsNoDamage reply → (state : State) → FateEnds (after_reply (buries number e count) reply) state
      buried Done shows = ends_done caller IsUndamaged _ tt
      buried reply shows = ends_done caller IsUndamaged (not_done reply) (not_done_plain reply shows)

  meta_ends : (run : Run) (state : State) → FateEnds (mends_meta number e run) state
  meta_ends run = ends_call caller IsUndamaged (MendMeta number e.host run.cover run.last) (if_done (buries number e run.cover.count)) (if_done_ends (buries number e run.cover.count) (buries_end run.cover.count))

  sync_index_ends : (run : Run) (state : State) → FateEnds (syncs_index number e run) state
  sync_index_ends run = ends_call caller IsUndamaged (SyncDropping number e.host e.writer false) (if_synced (mends_meta number e run)) (if_synced_ends (mends_meta number e run) (meta_ends run))

  sync_log_ends : (run : Run) (state : State) → FateEnds (syncs_log number e run) state
  sync_log_ends run = ends_call caller IsUndamaged (SyncDropping number e.host e.writer true) (if_synced (syncs_index number e run)) (if_synced_ends (syncs_index number e run) (sync_index_ends run))

  either_ends : (b : Bool) (p q : Tries Fate) → ((state : State) → FateEnds p state) → ((state : State) → FateEnds q state) → (state : State) → FateEnds (if b then p else q) state
  either_ends true p q one other = one
  either_ends false p q one other = other

  keeps_end : (run : Run) (state : State) → FateEnds (keeps number e run) state
  keeps_end run = either_ends (run.cover.count == 0) (buries number e 0) (syncs_log number e run) (buries_end 0) (sync_log_ends run)

  mends_end : (run : Run) (state : State) → FateEnds (mends number e run) state
  mends_end run = ends_call caller IsUndamaged (Mend number e.host e.writer run.cover.count) (if_done (keeps number e run)) (if_done_ends (keeps number e run) (keeps_end run))

  found_end : (told : ℕ) (run : Run) (state : State) → FateEnds (found number e told run) state
  found_end told run = either_ends (told == 40 * run.cover.count) (keeps number e run) (mends number e run) (keeps_end run) (mends_end run)

  -- ---- entries are read

  module _ (entries : List Entry) (log told : ℕ) where
    -- so far none ended past the log, and these come next
    abbrev SoFar : Bool → ℕ → Run → Type 0
    SoFar past left run = past ≡ false → GoesOn run (drop (told / 40 - left) entries)

    abbrev ReadsEnd : ℕ → Type 0
    ReadsEnd n = (left : ℕ) (past : Bool) (run : Run) → left ≤ told / 40 → SoFar past left run → (state : State) → IsLeft number e entries state → FateEnds (reads n number e told log left past run) state

    its_path : Path
    its_path = index_path e.host e.writer

    -- it is in no room of marks
    apart_of : (m : Moment) (s : IsSoundAt m) (bytes : List ℕ) (room : Room) → slice_get s.shape.tree.rooms number ≡ Some room → file_at room (index_path e.host e.writer) ≡ Some bytes → number ≢ m.state.marks
    apart_of m s bytes room there is same =
        let one : room ≡ s.shape.marks = some_room room s.shape.marks (slice_get s.shape.tree.rooms number) there (ap (λ n. slice_get s.shape.tree.rooms n) same ∙ s.shape.has_marks) in
        let mark = s.shape.is_marks.files (index_path e.host e.writer) bytes (subst (λ r. file_at r (index_path e.host e.writer) ≡ Some bytes) one is) in
        elsewhere (ap (λ (p : Path). get_or p.folder 0 0) mark.3) refl

    abbrev place : ℕ → ℕ
    place left = told / 40 - left

    abbrev read_call : ℕ → Call
    read_call left = Look number (Read (index_path e.host e.writer) (40 * (told / 40 - left)) (40 * next_read left))

    -- the reply gives what the dropping has there, or tells nothing
    gave : (issued : Ledger) (state : State) (left : ℕ) (reply : Reply) (after : State) → IsStep state caller (unbroken (read_call left)) reply after → (s : IsSoundFor issued state) → IsLeft number e entries state
        → ((bytes : List ℕ) × (f : IsFrontOf entries bytes) × (reply ≡ Looked (answer.Bytes (take (40 * next_read left) (drop (40 * (told / 40 - left)) bytes))))) ⊎ IsPlain reply
    gave issued state left reply after step s l =
        let m : Moment = record { state = state; issued = issued } in
        let x = l.1 s.shape.tree s.shape.told in
        let h : HasFront e entries x.0 = x.2 in
        let there : file_then m number (index_path e.host e.writer) ≡ Some h.now = ap (λ o. file_told o number (index_path e.host e.writer)) s.shape.told ∙ ap (λ o. file_in_room o (index_path e.host e.writer)) x.1 ∙ h.stands.there in
        elim (read_ends m s caller number (index_path e.host e.writer) (40 * (told / 40 - left)) (40 * next_read left) h.now reply after (apart_of m s h.now x.0 x.1 h.stands.there) there (answered state caller (read_call left) (unbroken (read_call left)) reply after refl step))
        as (λ _. ((bytes : List ℕ) × (f : IsFrontOf entries bytes) × (reply ≡ Looked (answer.Bytes (take (40 * next_read left) (drop (40 * (told / 40 - left)) bytes))))) ⊎ IsPlain reply) [
          | inl is ↦ inl (h.now, h.front, is)
          | inr (inl (is, rose)) ↦ inr (subst IsPlain (sym is) tt)
          | inr (inr (is, same)) ↦ inr (subst IsPlain (sym is) tt)
        ]

    module _ (n left : ℕ) (past : Bool) (run : Run) (within : left ≤ told / 40) (again : ReadsEnd n) where
      abbrev More : Bool → Run → Tries Fate
      More also longer_run = reads n number e told log (left - next_read left) also longer_run

      abbrev Checked : Bool → Went × Run → Tries Fate
      Checked full p = if_checked e (found number e told) More full p

      rest_within : left - next_read left ≤ told / 40
      rest_within = omega (arith, within)

      full_is : (a b : ℕ) → nat_le a b ≡ true → a ≤ b
      full_is a b h = grind (arith, nat_tests)

      -- after one ended past the log
      ended_end : (full : Bool) (last : Run) (state : State) → IsLeft number e entries state → FateEnds (if full then More true last else found number e told last) state
      ended_end true last state f = again (left - next_read left) true last rest_within (λ never. absurd (let clash : true ≡ false = never in cc)) state f
      ended_end false last state f = found_end told last state

      on_end : (full : Bool) (new : Run) → (full ≡ true → GoesOn new (drop (told / 40 - (left - next_read left)) entries)) → (state : State) → IsLeft number e entries state → FateEnds (if full then More false new else found number e told new) state
      on_end true new goes state f = again (left - next_read left) false new rest_within (λ so. goes refl) state f
      on_end false new goes state f = found_end told new state

      read_end : (bytes : List ℕ) (b : List ℕ) → IsFrontOf entries bytes → b ≡ take (40 * next_read left) (drop (40 * (told / 40 - left)) bytes) → (is : Bool) → past ≡ is → SoFar past left run → (state : State) → IsLeft number e entries state
          → FateEnds (Checked (nat_le (40 * next_read left) (length b)) (looked is log (next_read left) b run)) state
      read_end bytes b front got true is sofar state f = ended_end (nat_le (40 * next_read left) (length b)) run state f
      read_end bytes b front got false is sofar state f =
          let full : Bool = nat_le (40 * next_read left) (length b) in
          let goes : GoesOn run (drop (told / 40 - left) (front.kept ++ front.left)) = subst (λ es. GoesOn run (drop (told / 40 - left) es)) front.all (sofar is) in
          let step : told / 40 - left + next_read left ≡ told / 40 - (left - next_read left) = omega (arith, within) in
          elim (read_so front.kept front.left front.tail (told / 40 - left) (next_read left) log run b (got ∙ ap (λ l. take (40 * next_read left) (drop (40 * (told / 40 - left)) l)) front.spelled) front.torn goes)
          as (λ _. FateEnds (Checked (nat_le (40 * next_read left) (length b)) (looked false log (next_read left) b run)) state) [
            | inl (new, went, on) ↦ subst (λ p. FateEnds (Checked (nat_le (40 * next_read left) (length b)) p) state) (sym went)
                (on_end full new (λ whole. subst (λ es. GoesOn new (drop (told / 40 - (left - next_read left)) es)) (sym front.all) (subst (λ k. GoesOn new (drop k (front.kept ++ front.left))) step (on (full_is (40 * next_read left) (length b) whole)))) state f)
            | inr (last, went) ↦ subst (λ p. FateEnds (Checked (nat_le (40 * next_read left) (length b)) p) state) (sym went) (ended_end full last state f)
          ]

      next_end : SoFar past left run → (state : State) → IsLeft number e entries state → FateEnds (reads (suc n) number e told log left past run) state
      next_end sofar = ends_ask caller IsUndamaged (IsLeft number e entries) (left_stays number e entries) (read_call left)
          (λ reply. given (bytes_in reply) (trouble (index_path e.host e.writer) reply) (λ b. Checked (nat_le (40 * next_read left) (length b)) (looked past log (next_read left) b run)))
          (λ issued state reply after may step s f.
          let f' : IsLeft number e entries after = left_stays number e entries issued state after caller (unbroken (read_call left)) reply may step s f in
          elim (gave issued state left reply after step s f)
          as (λ _. FateEnds (given (bytes_in reply) (trouble (index_path e.host e.writer) reply) (λ b. Checked (nat_le (40 * next_read left) (length b)) (looked past log (next_read left) b run))) after) [
            | inl (bytes, front, is) ↦ subst (λ r. FateEnds (given (bytes_in r) (trouble (index_path e.host e.writer) r) (λ b. Checked (nat_le (40 * next_read left) (length b)) (looked past log (next_read left) b run))) after) (sym is)
                (read_end bytes (take (40 * next_read left) (drop (40 * (told / 40 - left)) bytes)) front refl past refl sofar after f')
            | inr plain ↦ subst (λ o. FateEnds (given o (trouble (index_path e.host e.writer) reply) (λ b. Checked (nat_le (40 * next_read left) (length b)) (looked past log (next_read left) b run))) after) (sym (plain_bytes reply plain))
                (ends_done caller IsUndamaged (Err (trouble (index_path e.host e.writer) reply)) (plain_trouble (index_path e.host e.writer) reply plain) after)
          ])

    reads_end : (n : ℕ) → ReadsEnd n
    reads_end zero left past run within sofar state f = found_end told run state
    reads_end (suc n) left past run within sofar state f = next_end n left past run within (reads_end n) sofar state f

  -- ---- the log is measured

  -- it left no index dropping, or one that has these entries
  abbrev WasLeft : ℕ → State → Type 0
  WasLeft told state = (told ≡ 0) ⊎ ((entries : List Entry) × GoesOn (no_entries e.writer) entries × IsLeft number e entries state)

  was_left_stays : (told : ℕ) → Stays (WasLeft told)
  was_left_stays told issued old new other asked reply may step s (inl f) = inl f
  was_left_stays told issued old new other asked reply may step s (inr f) = inr (f.0, f.1, left_stays number e f.0 issued old new other asked reply may step s f.2)

  first_of_all : (k : ℕ) (es : List Entry) → es ≡ drop (k - k) es
  first_of_all k es = none k (k - k) (omega arith) es
    where
      none : (k j : ℕ) → j ≡ 0 → (es : List Entry) → es ≡ drop j es
      none k zero z [] = refl
      none k zero z (x ∷ es) = refl
      none k (suc j) z es = absurd (omega (arith, z))

  logged_end : (log told : ℕ) (state : State) → WasLeft told state → FateEnds (reads_left number e told log (told / 40) false (no_entries e.writer)) state
  logged_end log told state (inl zero_it) = subst (λ t. FateEnds (reads_left number e t log (t / 40) false (no_entries e.writer)) state) (sym zero_it) (found_end 0 (no_entries e.writer) state)
  logged_end log told state (inr (entries, goes, left)) =
      reads_end entries log told (reads_of (told / 40)) (told / 40) false (no_entries e.writer) (omega arith) (λ so. subst (GoesOn (no_entries e.writer)) (first_of_all (told / 40) entries) goes) state left

  -- a length that was told leads on
  on_length : (path : Path) (next : ℕ → Tries Fate) (reply : Reply) (state : State) → LengthEnds reply → ((size : ℕ) → (reply ≡ Looked (answer.Number size)) ⊎ (size ≡ 0) → FateEnds (next size) state) → FateEnds (given (length_in reply) (trouble path reply) next) state
  on_length path next reply state (inl (size, is)) on = subst (λ r. FateEnds (given (length_in r) (trouble path r) next) state) (sym is) (on size (inl is))
  on_length path next reply state (inr (inl (inl is))) on = subst (λ r. FateEnds (given (length_in r) (trouble path r) next) state) (sym is) (on 0 (inr refl))
  on_length path next reply state (inr (inl (inr is))) on = subst (λ r. FateEnds (given (length_in r) (trouble path r) next) state) (sym is) (on 0 (inr refl))
  on_length path next reply state (inr (inr plain)) on = subst (λ o. FateEnds (given o (trouble path reply) next) state) (sym (plain_length reply plain)) (ends_done caller IsUndamaged (Err (trouble path reply)) (plain_trouble path reply plain) state)

  log_ends : (told : ℕ) (state : State) → WasLeft told state → FateEnds (measures_log number e told) state
  log_ends told = ends_ask caller IsUndamaged (WasLeft told) (was_left_stays told) (Look number (Length (log_path e.host e.writer)))
      (λ reply. given (length_in reply) (trouble (log_path e.host e.writer) reply) (λ log. reads_left number e told log (told / 40) false (no_entries e.writer)))
      (λ issued state reply after may step s f.
      let q : Ask = unbroken (Look number (Length (log_path e.host e.writer))) in
      let f' : WasLeft told after = was_left_stays told issued state after caller q reply may step s f in
      on_length (log_path e.host e.writer) (λ log. reads_left number e told log (told / 40) false (no_entries e.writer)) reply after
      (length_ends state caller number (log_path e.host e.writer) reply after (step_shows issued state after caller q reply may step s) step) (λ log told_so. logged_end log told after f'))

  -- ---- the index dropping is measured

  abbrev index_call : Call
  index_call = Look number (Length (index_path e.host e.writer))

  measured : (issued : Ledger) (state : State) (size : ℕ) (reply : Reply) (after : State) → IsStep state caller (unbroken index_call) reply after → (s : IsSoundFor issued state) → IsGone e state → (reply ≡ Looked (answer.Number size)) ⊎ (size ≡ 0) → WasLeft size state
  measured issued state size reply after step s gone (inr zero_it) = inl zero_it
  measured issued state size reply after step s gone (inl is) =
      let m : Moment = record { state = state; issued = issued } in
      let d : Dropping = record { room = number; host = e.host; writer = e.writer } in
      let named = is_index e.host e.writer fits.host_fits fits.writer_fits in
      let t = length_told m s caller number (index_path e.host e.writer) size after (answered state caller index_call (unbroken index_call) (Looked (answer.Number size)) after refl (subst (λ r. IsStep state caller (unbroken index_call) r after) is step)) in
      let h : HasEntries m d t.0 = has_entries m s d t.0 named t.1 in
      inr (
        h.entries,
        record { fits = fits.writer_fits; order = h.order; small = omega (arith, h.small) },
        (
          gone,
          λ tree told.
              let r = in_room_of (slice_get tree.rooms number) t.0 (subst (λ o. file_told o number (index_path e.host e.writer) ≡ Some t.0) told t.1) in
              (r.0, r.1, record { now = t.0; stands = record { is_item = named; there = r.2 }; front = record { kept = h.entries; left = []; tail = h.tail; all = sym (append_none h.entries); spelled = h.spelled; torn = h.torn } }),
        ),
      )
    where
      in_room_of : (o : Option Room) (bytes : List ℕ) → file_in_room o (index_path e.host e.writer) ≡ Some bytes → (room : Room) × (o ≡ Some room) × (file_at room (index_path e.host e.writer) ≡ Some bytes)
      in_room_of None bytes is = absurd (cc)
      in_room_of (Some room) bytes is = (room, refl, is)

      append_none : (es : List Entry) → es ++ [] ≡ es
      append_none [] = refl
      append_none (x ∷ es) = ap (λ l. x ∷ l) (append_none es)

  index_ends : (state : State) → IsGone e state → FateEnds (measures_index number e) state
  index_ends = ends_ask caller IsUndamaged (IsGone e) (gone_stays e) index_call (λ reply. given (length_in reply) (trouble (index_path e.host e.writer) reply) (measures_log number e))
      (λ issued state reply after may step s gone.
      on_length (index_path e.host e.writer) (measures_log number e) reply after (length_ends state caller number (index_path e.host e.writer) reply after (step_shows issued state after caller (unbroken index_call) reply may step s) step)
      (λ size told. log_ends size after (was_left_stays size issued state after caller (unbroken index_call) reply may step s (measured issued state size reply after step s gone told))))

  -- ---- all of its calls

  pub writer_ends : (state : State) → e.writer ≤ last_id state → FateEnds (writer_program number e) state
  writer_ends = ends_ask caller IsUndamaged (λ state. e.writer ≤ last_id state) (drawn_stays e.writer) (Inspect e.writer) (if_done (measures_index number e))
      (λ issued state reply after may step s drawn. inspected issued state reply after may step s drawn)
    where
      inspected : (issued : Ledger) (state : State) (reply : Reply) (after : State) → May state caller (unbroken (Inspect e.writer)) → IsStep state caller (unbroken (Inspect e.writer)) reply after → IsSoundFor issued state → e.writer ≤ last_id state → FateEnds (if_done (measures_index number e) reply) after
      inspected issued state Done after may step s drawn = index_ends after (gone_stays e issued state after caller (unbroken (Inspect e.writer)) Done may step s (only_dead state after caller e.writer (unbroken (Inspect e.writer)) refl step, drawn))
      inspected issued state reply after may step s drawn = ends_done caller IsUndamaged (not_done reply) (not_done_plain reply (step_shows issued state after caller (unbroken (Inspect e.writer)) reply may step s)) after
