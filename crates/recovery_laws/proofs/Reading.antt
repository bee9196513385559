-- Each call by which a recovery measures what one writer left may be made.
use Rattle.std.proofs.Common.{◌≡◌, ◌≤◌, ◌<◌, ◌+◌, ◌-◌, ◌*◌, ◌/◌, ℕ, zero, suc, nat_le, Bool, true, false, List, length, take, drop, Option, Some, None, refl, ap, sym, ◌∙◌, ◌⊎◌, inl, inr, subst, arith}
use Rattle.std.specs.Prelude.{slice_get, if◌then◌else◌}
use Rattle.std.proofs.lemmas.Bool.Decides.{nat_tests}
use Rattle.container_layout.specs.declared.items.Item.TheVariants.{Index, Log}
use Rattle.container_layout.specs.Items.{IsItem}
use Rattle.container_layout.specs.Paths.{path_of}
use Rattle.container_layout.specs.declared.items.Item.{Item}
use Rattle.index_entry.specs.Within.{within_log}
use Rattle.store_api.specs.declared.tree.Room.{Room}
use Rattle.store_api.specs.declared.tree.Tree.{Tree}
use Rattle.store_api.specs.declared.step.Answer.TheVariants.{Absent, Bytes, NoFolder, Number}
use Rattle.store_api.specs.Room.{has_folder}
use Rattle.store_laws.specs.Files.{file_at}
use Rattle.store_laws.specs.There.{LacksFolder}
use Rattle.mount_model.specs.Running.{asking, unbroken}
use Rattle.mount_model.specs.Program.{followed_by}
use Rattle.mount_model.specs.Safe.{IsSafe}
use Rattle.mount_model.specs.declared.names.OpenEntry.{OpenEntry}
use Rattle.mount_model.specs.FlowReplies.{bytes_in, given, length_in, on_ok, trouble}
use Rattle.mount_model.specs.declared.call.Call.TheVariants.{Inspect, Look}
use Rattle.mount_model.specs.declared.call.Look.TheVariants.{Length, Read}
use Rattle.mount_model.specs.declared.call.Call.{Call}
use Rattle.mount_model.specs.declared.reply.Reply.{Reply}
use Rattle.mount_model.specs.declared.reply.Reply.TheVariants.{Done, Looked}
use Rattle.mount_model.specs.Paths.{index_path, log_path}
use Rattle.mount_model.specs.Recovering.{IsHostAndWriter}
use Rattle.mount_model.specs.State.{State, last_id}
use Rattle.mount_model.specs.Step.{IsStep}
use Rattle.mount_sound.specs.Shape.{IsDrawnBy}
use Rattle.mount_sound.proofs.Shapes.Facts.{container_at, item_held, shape_of}
use Rattle.mount_sound.specs.Dropping.{bytes_of, log_bytes}
use Rattle.mount_sound.specs.Items.{HasItem}
use Rattle.mount_sound.specs.Ledger.{Ledger}
use Rattle.mount_sound.specs.Owed.{MayBury, Permits}
use Rattle.mount_sound.specs.Sound.{IsSoundFor}
use Rattle.mount_sound.proofs.Facts.{is_index, is_log, one_tree, only_dead, some_room}
use Rattle.recovery_laws.proofs.Holds.Facts.{may_free}
use Rattle.torn_tail.specs.Entries.{no_entries, checked, looked}
use Rattle.torn_tail.specs.Recovering.{recovers, noted}
use Rattle.torn_tail.specs.Writers.{found, if_checked, measures_index, measures_log, not_done, reads, reads_left, writer_program}
use Rattle.mount_model.specs.Entries.{next_read, reads_of}
use Rattle.torn_tail.specs.declared.recovering.Recovered.{Recovered}
use Rattle.torn_tail.specs.Words.{Went, Run, all_there, ends, breaks}
use Rattle.recovery_laws.proofs.Checking.{IsSoFar, checked_ended, ended_tells, full_checked, looked_ending, none_left_tells, short_checked, short_tells}
use Rattle.recovery_laws.proofs.Cleanly.{Cleanly, Stays, asks_safe, cleanly_so, cleanly_then, stays_both}
use Rattle.recovery_laws.proofs.Counting.{came}
use Rattle.recovery_laws.proofs.Leftovers.{AreEntered, IsBuriable, IsEntered, IsGone, IsMeasured, WasMeasured, all_entered_stay, buriable_stays, entered_stays, gone_stays, measured_stays}
use Rattle.recovery_laws.proofs.Looking.{absence_told, length_told, looked_apart, no_folder_told, read_told}
use Rattle.recovery_laws.proofs.OneHost.{IsOfHost}
use Rattle.recovery_laws.proofs.Ranges.{IsCounted, looked_counts, none_counted}
use Rattle.recovery_laws.proofs.Writers.{Found, after_reply, ended, mendable_stays, safe_found}

-- ---- replies

of_bytes : (reply : Reply) (bytes : List ℕ) → bytes_in reply ≡ Some bytes → reply ≡ Looked (Bytes bytes)
of_bytes (Looked (Bytes told)) bytes e = let same : told ≡ bytes = cc in ap (λ b. Looked (Bytes b)) same
of_bytes reply bytes e = absurd cc

-- a length was told, or there is no such file
abbrev LengthWas : Reply → ℕ → Type 0
LengthWas reply n = (reply ≡ Looked (Number n)) ⊎ (((reply ≡ Looked Absent) ⊎ (reply ≡ Looked NoFolder)) × (n ≡ 0))

of_length : (reply : Reply) (n : ℕ) → length_in reply ≡ Some n → LengthWas reply n
of_length (Looked (Number value)) n e = let same : value ≡ n = cc in inl (ap (λ k. Looked (Number k)) same)
of_length (Looked Absent) n e = let same : 0 ≡ n = cc in inr (inl refl_absent, sym same)
  where
    refl_absent : Looked Absent ≡ Looked Absent
    refl_absent = λ i. Looked Absent
of_length (Looked NoFolder) n e = let same : 0 ≡ n = cc in inr (inr refl_folder, sym same)
  where
    refl_folder : Looked NoFolder ≡ Looked NoFolder
    refl_folder = λ i. Looked NoFolder
of_length reply n e = absurd cc

-- ---- what isn't there

absent : (o : Option (List ℕ)) → ((bytes : List ℕ) → o ≡ Some bytes → ⊥) → o ≡ None
absent None not = refl
absent (Some bytes) not = absurd (not bytes refl)

module _ (l : Ledger) (state : State) (s : IsSoundFor l state) (number : ℕ) (apart : number ≡ state.marks → ⊥) (item : Item) (is : IsItem item) where
  -- no file is in a folder that isn't there
  none_without : (lacks : LacksFolder s.shape.tree number (path_of item).folder) → file_at lacks.room (path_of item) ≡ None
  none_without lacks = absent (file_at lacks.room (path_of item)) (λ bytes e.
      let housed : has_folder lacks.room (path_of item).folder ≡ true =
      (item_held (IsDrawnBy (last_id state) s.shape.tree) lacks.room item bytes (container_at (last_id state) state.marks state.mount number s.shape.tree lacks.room (shape_of state s.shape) apart lacks.has_room) is e).housed in
      let none : has_folder lacks.room (path_of item).folder ≡ false = lacks.none in
      absurd (let clash : true ≡ false = sym housed ∙ none in cc))

module _ (caller number : ℕ) (e : OpenEntry) (entries : List OpenEntry) (sofar : Recovered)
    (rest_safe : (then_so : Recovered) (state : State) → Cleanly (AreEntered number entries) state → IsSafe IsStep Permits caller (asking (recovers number entries then_so)) state) where
  abbrev Also : (State → Type 0) → State → Type 0
  Also fact state = fact state × AreEntered number entries state

  also_stays : (fact : State → Type 0) → Stays fact → Stays (Also fact)
  also_stays fact stays = stays_both fact (AreEntered number entries) stays (all_entered_stay number entries)

  after_look : (fact now : State → Type 0) (state after : State) (q : Call) (reply : Reply) → Permits state caller (unbroken q) → IsStep state caller (unbroken q) reply after → Cleanly (Also fact) state → Stays now → ((l : Ledger) → IsSoundFor l state → fact state → now state) → Cleanly (Also now) after
  after_look fact now state after q reply may step f stays so = cleanly_then (Also fact) (Also now) state after caller (unbroken q) reply may step f
      (λ l s holds. (stays l state after caller (unbroken q) reply may.1 step s (so l s holds.0), all_entered_stay number entries l state after caller (unbroken q) reply may.1 step s holds.1))

  -- ---- entries are read

  -- it left nothing, or so many of the entries that were measured are left to be read
  abbrev Reading : ℕ → ℕ → Bool → ℕ → Run → State → Type 0
  Reading log told past left run state =
      ((told ≡ 0) × (left ≡ 0) × (run.cover.count ≡ 0) × IsBuriable number e state)
      ⊎ ((all : List ℕ) × (long : length all ≡ told) × IsSoFar log told e.writer all long past left run × WasMeasured number e log told all state)

  reading_stays : (log told : ℕ) (past : Bool) (left : ℕ) (run : Run) → Stays (Reading log told past left run)
  reading_stays log told past left run l old new other asked reply may step s (inl f) = inl (f.0, f.1, f.2, buriable_stays number e l old new other asked reply may step s f.3)
  reading_stays log told past left run l old new other asked reply may step s (inr f) = inr (f.0, f.1, f.2, measured_stays number e log told f.0 l old new other asked reply may step s f.3)

  all_read : (log told : ℕ) (past : Bool) (run : Run) (state : State) → Reading log told past 0 run state → Found caller number e entries sofar rest_safe told run state
  all_read log told past run state (inl f) = inl (f.0, f.2, f.3)
  all_read log told true run state (inr f) = inr (log, f.0, f.1, ended_tells log told e.writer f.0 f.1 run f.2, f.3)
  all_read log told false run state (inr f) = inr (log, f.0, f.1, none_left_tells log told e.writer f.0 f.1 run f.2, f.3)

  le_true : (a b : ℕ) → nat_le a b ≡ true → a ≤ b
  le_true a b h = grind (arith, nat_tests)

  le_false : (a b : ℕ) → nat_le a b ≡ false → b < a
  le_false a b h = grind (arith, nat_tests)

  -- the bytes that a Read gave of what was measured
  gave : (l : Ledger) (state : State) (s : IsSoundFor l state) (log told left : ℕ) (all bytes : List ℕ) (after : State) → WasMeasured number e log told all state
      → IsStep state caller (unbroken (Look number (Read (index_path e.host e.writer) (40 * (told / 40 - left)) (40 * next_read left)))) (Looked (Bytes bytes)) after
      → (room : Room) × (m : IsMeasured e.host e.writer log told all room) × (bytes ≡ take (40 * next_read left) (drop (40 * (told / 40 - left)) m.now))
  gave l state s log told left all bytes after w step =
      let x = w.1 s.shape.tree s.shape.told in
      let r = read_told state s.shape.tree s.shape.told caller number (index_path e.host e.writer) (40 * (told / 40 - left)) (40 * next_read left) bytes after step in
      let same : r.0 ≡ x.0 = some_room r.0 x.0 (slice_get s.shape.tree.rooms number) r.2 x.1 in
      let both : Some r.1 ≡ Some x.2.now = sym r.3 ∙ ap (λ y. file_at y (index_path e.host e.writer)) same ∙ x.2.stands.there in
      let is : r.1 ≡ x.2.now = cc in
      (x.0, x.2, r.4 ∙ ap (λ b. take (40 * next_read left) (drop (40 * (told / 40 - left)) b)) is)

  abbrev read_call : ℕ → ℕ → Call
  read_call told left = Look number (Read (index_path e.host e.writer) (40 * (told / 40 - left)) (40 * next_read left))

  module _ (log told left : ℕ) (within : left ≤ told / 40) (some : 1 ≤ left) (run : Run) (state : State) (bytes : List ℕ) (after : State) (step : IsStep state caller (unbroken (read_call told left)) (Looked (Bytes bytes)) after) where
    not_none : {A : Type 0} → left ≡ 0 → A
    not_none z = absurd (omega (arith, some, z))

    full_on : (more : Run) → nat_le (40 * next_read left) (length bytes) ≡ true → looked false log (next_read left) bytes run ≡ came all_there more → (l : Ledger) → IsSoundFor l state → Reading log told false left run state → Reading log told false (left - next_read left) more state
    full_on more full is l s (inl f) = not_none f.1
    full_on more full is l s (inr f) =
        let g = gave l state s log told left f.0 bytes after f.3 step in
        inr (f.0, f.1, sym (full_checked log told e.writer f.0 f.1 left (next_read left) refl within run f.2 g.1.now bytes g.1.cut g.2 (le_true (40 * next_read left) (length bytes) full)) ∙ is, f.3)

    full_ended : (more : Run) → nat_le (40 * next_read left) (length bytes) ≡ true → looked false log (next_read left) bytes run ≡ came ends more → (l : Ledger) → IsSoundFor l state → Reading log told false left run state → Reading log told true (left - next_read left) more state
    full_ended more full is l s (inl f) = not_none f.1
    full_ended more full is l s (inr f) =
        let g = gave l state s log told left f.0 bytes after f.3 step in
        let checks : checked log (told / 40 - (left - next_read left)) f.0 (no_entries e.writer) ≡ came ends more =
        sym (full_checked log told e.writer f.0 f.1 left (next_read left) refl within run f.2 g.1.now bytes g.1.cut g.2 (le_true (40 * next_read left) (length bytes) full)) ∙ is in
        inr (f.0, f.1, checked_ended log (told / 40 - (left - next_read left)) (told / 40) f.0 (no_entries e.writer) more checks (omega arith), f.3)

    short_found : (went : Went) (more : Run) → nat_le (40 * next_read left) (length bytes) ≡ false → looked false log (next_read left) bytes run ≡ came went more → (went ≡ breaks → ⊥) → (l : Ledger) → IsSoundFor l state → Reading log told false left run state → Found caller number e entries sofar rest_safe told more state
    short_found went more short is not l s (inl f) = not_none f.1
    short_found went more short is not l s (inr f) =
        let g = gave l state s log told left f.0 bytes after f.3 step in
        let checks : checked log (length (within_log log (told / 40) f.0)) f.0 (no_entries e.writer) ≡ came went more =
        sym (short_checked log told e.writer f.0 f.1 left (next_read left) refl within run f.2 g.1.now bytes g.1.cut g.2 (le_false (40 * next_read left) (length bytes) short)) ∙ is in
        inr (log, f.0, f.1, short_tells log told e.writer f.0 f.1 went more checks not, f.3)

    ended_on : (l : Ledger) → IsSoundFor l state → Reading log told true left run state → Reading log told true (left - next_read left) run state
    ended_on l s (inl f) = not_none f.1
    ended_on l s (inr f) = inr (f.0, f.1, f.2, f.3)

    ended_found : (l : Ledger) → IsSoundFor l state → Reading log told true left run state → Found caller number e entries sofar rest_safe told run state
    ended_found l s (inl f) = not_none f.1
    ended_found l s (inr f) = inr (log, f.0, f.1, ended_tells log told e.writer f.0 f.1 run f.2, f.3)

  found_stays : (told : ℕ) (run : Run) → Stays (Found caller number e entries sofar rest_safe told run)
  found_stays told run l old new other asked reply may step s (inl f) = inl (f.0, f.1, buriable_stays number e l old new other asked reply may step s f.2)
  found_stays told run l old new other asked reply may step s (inr f) = inr (mendable_stays caller number e entries sofar rest_safe told run l old new other asked reply may step s f)

  not_breaks : all_there ≡ breaks → ⊥
  not_breaks x = cc

  ends_not : ends ≡ breaks → ⊥
  ends_not x = cc

  module _ (n log told left : ℕ) (past : Bool) (run : Run) (few : left ≤ 4096 * suc n) (one : 1 ≤ left) (many : 4096 * suc n < left + 4096) (within : left ≤ told / 40) (counted : IsCounted run)
      (again : (rest : ℕ) (past_so : Bool) (more : Run) → rest ≤ 4096 * n → (1 ≤ n → 1 ≤ rest) → (1 ≤ n → 4096 * n < rest + 4096) → rest ≤ told / 40 → IsCounted more → (state : State) → Cleanly (Also (Reading log told past_so rest more)) state
      → IsSafe IsStep Permits caller (asking (followed_by (reads n number e told log rest past_so more) (on_ok (λ fate. recovers number entries (noted e fate sofar))))) state) where
    goes_reads : (state : State) (bytes : List ℕ) (after : State) → IsStep state caller (unbroken (read_call told left)) (Looked (Bytes bytes)) after → Permits state caller (unbroken (read_call told left)) → Cleanly (Also (Reading log told past left run)) state → (also_past : Bool) (more : Run) → IsCounted more
        → ((l : Ledger) → IsSoundFor l state → Reading log told past left run state → Reading log told also_past (left - next_read left) more state) → IsSafe IsStep Permits caller (asking (followed_by (reads n number e told log (left - next_read left) also_past more) (on_ok (λ fate. recovers number entries (noted e fate sofar))))) after
    goes_reads state bytes after step may f also_past more counts so = again (left - next_read left) also_past more
        (omega (arith, few)) (λ h. omega (arith, h, many)) (λ h. omega (arith, h, many, few)) (omega (arith, within)) counts after
        (after_look (Reading log told past left run) (Reading log told also_past (left - next_read left) more) state after (read_call told left) (Looked (Bytes bytes)) may step f (reading_stays log told also_past (left - next_read left) more) so)

    goes_found : (state : State) (bytes : List ℕ) (after : State) → IsStep state caller (unbroken (read_call told left)) (Looked (Bytes bytes)) after → Permits state caller (unbroken (read_call told left)) → Cleanly (Also (Reading log told past left run)) state → (more : Run) → IsCounted more
        → ((l : Ledger) → IsSoundFor l state → Reading log told past left run state → Found caller number e entries sofar rest_safe told more state) → IsSafe IsStep Permits caller (asking (followed_by (found number e told more) (on_ok (λ fate. recovers number entries (noted e fate sofar))))) after
    goes_found state bytes after step may f more counts so = safe_found caller number e entries sofar rest_safe told more counts after
        (after_look (Reading log told past left run) (Found caller number e entries sofar rest_safe told more) state after (read_call told left) (Looked (Bytes bytes)) may step f (found_stays told more) so)

    -- after the entries of a Read were looked at
    went : (past_is : Bool) → past ≡ past_is → (state : State) (bytes : List ℕ) (after : State) → IsStep state caller (unbroken (read_call told left)) (Looked (Bytes bytes)) after → Permits state caller (unbroken (read_call told left)) → Cleanly (Also (Reading log told past left run)) state
        → IsSafe IsStep Permits caller (asking (followed_by (if_checked e (found number e told) (λ also longer_run. reads n number e told log (left - next_read left) also longer_run) (nat_le (40 * next_read left) (length bytes)) (looked past_is log (next_read left) bytes run)) (on_ok (λ fate. recovers number entries (noted e fate sofar))))) after
    went true is state bytes after step may f =
        elim (nat_le (40 * next_read left) (length bytes)) as (λ b. nat_le (40 * next_read left) (length bytes) ≡ b → IsSafe IsStep Permits caller (asking (followed_by (if b then reads n number e told log (left - next_read left) true run else found number e told run) (on_ok (λ fate. recovers number entries (noted e fate sofar))))) after) [
          | true ↦ λ h. goes_reads state bytes after step may f true run counted (λ l s holds. ended_on log told left within one run state bytes after step l s (subst (λ b. Reading log told b left run state) is holds))
          | false ↦ λ h. goes_found state bytes after step may f run counted (λ l s holds. ended_found log told left within one run state bytes after step l s (subst (λ b. Reading log told b left run state) is holds))
        ] refl
    went false is state bytes after step may f =
        elim (looked_ending false log (next_read left) bytes run) as (λ _. IsSafe IsStep Permits caller (asking (followed_by (if_checked e (found number e told) (λ also longer_run. reads n number e told log (left - next_read left) also longer_run) (nat_le (40 * next_read left) (length bytes)) (looked false log (next_read left) bytes run)) (on_ok (λ fate. recovers number entries (noted e fate sofar))))) after) [
          | inl (more, eq) ↦
              let counts : IsCounted more = subst (λ p. IsCounted p.1) eq (looked_counts false log (next_read left) bytes run counted) in
              subst (λ p. IsSafe IsStep Permits caller (asking (followed_by (if_checked e (found number e told) (λ also longer_run. reads n number e told log (left - next_read left) also longer_run) (nat_le (40 * next_read left) (length bytes)) p) (on_ok (λ fate. recovers number entries (noted e fate sofar))))) after) (sym eq)
              (elim (nat_le (40 * next_read left) (length bytes)) as (λ b. nat_le (40 * next_read left) (length bytes) ≡ b → IsSafe IsStep Permits caller (asking (followed_by (if b then reads n number e told log (left - next_read left) false more else found number e told more) (on_ok (λ fate. recovers number entries (noted e fate sofar))))) after) [
                | true ↦ λ h. goes_reads state bytes after step may f false more counts (λ l s holds. full_on log told left within one run state bytes after step more h eq l s (subst (λ b. Reading log told b left run state) is holds))
                | false ↦ λ h. goes_found state bytes after step may f more counts (λ l s holds. short_found log told left within one run state bytes after step all_there more h eq not_breaks l s (subst (λ b. Reading log told b left run state) is holds))
              ] refl)
          | inr (inl (more, eq)) ↦
              let counts : IsCounted more = subst (λ p. IsCounted p.1) eq (looked_counts false log (next_read left) bytes run counted) in
              subst (λ p. IsSafe IsStep Permits caller (asking (followed_by (if_checked e (found number e told) (λ also longer_run. reads n number e told log (left - next_read left) also longer_run) (nat_le (40 * next_read left) (length bytes)) p) (on_ok (λ fate. recovers number entries (noted e fate sofar))))) after) (sym eq)
              (elim (nat_le (40 * next_read left) (length bytes)) as (λ b. nat_le (40 * next_read left) (length bytes) ≡ b → IsSafe IsStep Permits caller (asking (followed_by (if b then reads n number e told log (left - next_read left) true more else found number e told more) (on_ok (λ fate. recovers number entries (noted e fate sofar))))) after) [
                | true ↦ λ h. goes_reads state bytes after step may f true more counts (λ l s holds. full_ended log told left within one run state bytes after step more h eq l s (subst (λ b. Reading log told b left run state) is holds))
                | false ↦ λ h. goes_found state bytes after step may f more counts (λ l s holds. short_found log told left within one run state bytes after step ends more h eq ends_not l s (subst (λ b. Reading log told b left run state) is holds))
              ] refl)
          | inr (inr (more, eq)) ↦ subst (λ p. IsSafe IsStep Permits caller (asking (followed_by (if_checked e (found number e told) (λ also longer_run. reads n number e told log (left - next_read left) also longer_run) (nat_le (40 * next_read left) (length bytes)) p) (on_ok (λ fate. recovers number entries (noted e fate sofar))))) after) (sym eq) tt
        ]

    given_bytes : (state : State) (reply : Reply) (after : State) → IsStep state caller (unbroken (read_call told left)) reply after → Permits state caller (unbroken (read_call told left)) → Cleanly (Also (Reading log told past left run)) state → (o : Option (List ℕ)) → bytes_in reply ≡ o
        → IsSafe IsStep Permits caller (asking (followed_by (given o (trouble (index_path e.host e.writer) reply) (λ bytes. if_checked e (found number e told) (λ also longer_run. reads n number e told log (left - next_read left) also longer_run) (nat_le (40 * next_read left) (length bytes)) (looked past log (next_read left) bytes run))) (on_ok (λ fate. recovers number entries (noted e fate sofar))))) after
    given_bytes state reply after step may f None is = tt
    given_bytes state reply after step may f (Some bytes) is = went past refl state bytes after (subst (λ r. IsStep state caller (unbroken (read_call told left)) r after) (of_bytes reply bytes is) step) may f

    pub safe_next : (state : State) → Cleanly (Also (Reading log told past left run)) state → IsSafe IsStep Permits caller (asking (followed_by (reads (suc n) number e told log left past run) (on_ok (λ fate. recovers number entries (noted e fate sofar))))) state
    safe_next = asks_safe caller (Also (Reading log told past left run)) (also_stays (Reading log told past left run) (reading_stays log told past left run)) (read_call told left)
        (λ reply. followed_by (after_reply (reads (suc n) number e told log left past run) reply) (on_ok (λ fate. recovers number entries (noted e fate sofar))))
        (λ state f. may_free state caller (read_call told left) (tt, tt) f.0)
        (λ state reply after step may f. given_bytes state reply after step may f (bytes_in reply) refl)

  pub safe_reads : (n log told left : ℕ) (past : Bool) (run : Run) → left ≤ 4096 * n → (1 ≤ n → 1 ≤ left) → (1 ≤ n → 4096 * n < left + 4096) → left ≤ told / 40 → IsCounted run → (state : State) → Cleanly (Also (Reading log told past left run)) state → IsSafe IsStep Permits caller (asking (followed_by (reads n number e told log left past run) (on_ok (λ fate. recovers number entries (noted e fate sofar))))) state
  safe_reads zero log told left past run few some many within counted = λ state f.
      safe_found caller number e entries sofar rest_safe told run counted state (cleanly_so (Also (Reading log told past left run)) (Also (Found caller number e entries sofar rest_safe told run)) state
      (λ l s holds. (all_read log told past run state (subst (λ k. Reading log told past k run state) (none_left left few) holds.0), holds.1)) f)
    where
      none_left : (k : ℕ) → k ≤ 4096 * 0 → k ≡ 0
      none_left k h = omega (arith, h)
  safe_reads (suc n) log told left past run few some many within counted = safe_next n log told left past run few (some (omega arith)) (many (omega arith)) within counted (λ rest past_so more a b c d counts. safe_reads n log told rest past_so more a b c d counts)

  -- ---- the log is measured

  -- it left nothing, or its index dropping was measured
  abbrev Left : ℕ → State → Type 0
  Left told state = ((told ≡ 0) × IsBuriable number e state) ⊎ ((log : ℕ) × (all : List ℕ) × (length all ≡ told) × WasMeasured number e log told all state)

  left_stays : (told : ℕ) → Stays (Left told)
  left_stays told l old new other asked reply may step s (inl f) = inl (f.0, buriable_stays number e l old new other asked reply may step s f.1)
  left_stays told l old new other asked reply may step s (inr f) = inr (f.0, f.1, f.2, measured_stays number e f.0 told f.1 l old new other asked reply may step s f.3)

  -- the log was so long
  log_was : (l : Ledger) (state : State) (s : IsSoundFor l state) (room : Room) → slice_get s.shape.tree.rooms number ≡ Some room → IsHostAndWriter e.host e.writer → (n : ℕ) (reply : Reply) (after : State) → IsStep state caller (unbroken (Look number (Length (log_path e.host e.writer)))) reply after → LengthWas reply n → length (log_bytes room e.host e.writer) ≡ n
  log_was l state s room there fits n reply after step (inl is) =
      let x = length_told state s.shape.tree s.shape.told caller number (log_path e.host e.writer) n after (subst (λ r. IsStep state caller (unbroken (Look number (Length (log_path e.host e.writer)))) r after) is step) in
      ap (λ r. length (log_bytes r e.host e.writer)) (some_room room x.0 (slice_get s.shape.tree.rooms number) there x.2) ∙ ap (λ f. length (bytes_of f)) x.3 ∙ x.4
  log_was l state s room there fits n reply after step (inr (inl is, zero_it)) =
      let x = absence_told state s.shape.tree s.shape.told caller number (log_path e.host e.writer) after (subst (λ r. IsStep state caller (unbroken (Look number (Length (log_path e.host e.writer)))) r after) is step) in
      ap (λ r. length (log_bytes r e.host e.writer)) (some_room room x.room (slice_get s.shape.tree.rooms number) there x.has_room) ∙ ap (λ f. length (bytes_of f)) x.none ∙ sym zero_it
  log_was l state s room there fits n reply after step (inr (inr is, zero_it)) =
      let found = subst (λ r. IsStep state caller (unbroken (Look number (Length (log_path e.host e.writer)))) r after) is step in
      let x = no_folder_told state s.shape.tree s.shape.told caller number (log_path e.host e.writer) after found in
      let none : file_at x.room (log_path e.host e.writer) ≡ None = none_without l state s number (looked_apart state caller number (Length (log_path e.host e.writer)) NoFolder after found) (Log e.host e.writer) (is_log e.host e.writer fits.host_fits fits.writer_fits) x in
      ap (λ r. length (log_bytes r e.host e.writer)) (some_room room x.room (slice_get s.shape.tree.rooms number) there x.has_room) ∙ ap (λ f. length (bytes_of f)) none ∙ sym zero_it

  none_of_all : (n : ℕ) → n - n ≡ 0
  none_of_all n = omega arith

  begins : (told : ℕ) (fits : IsHostAndWriter e.host e.writer) (state : State) (n : ℕ) (reply : Reply) (after : State) → IsStep state caller (unbroken (Look number (Length (log_path e.host e.writer)))) reply after → LengthWas reply n → (l : Ledger) → IsSoundFor l state → Left told state → Reading n told false (told / 40) (no_entries e.writer) state
  begins told fits state n reply after step was l s (inl f) = inl (f.0, omega (arith, f.0), refl, f.1)
  begins told fits state n reply after step was l s (inr f) =
      let x = f.3.1 s.shape.tree s.shape.told in
      let same : f.0 ≡ n = sym x.2.logs ∙ log_was l state s x.0 x.1 fits n reply after step was in
      inr (f.1, f.2, ap (λ k. checked n k f.1 (no_entries e.writer)) (none_of_all (told / 40)), subst (λ g. WasMeasured number e g told f.1 state) same f.3)

  reads_enough : (left : ℕ) → left ≤ 4096 * reads_of left
  reads_enough left = omega arith

  reads_needed : (left : ℕ) → 1 ≤ reads_of left → 1 ≤ left
  reads_needed left h = omega (arith, h)

  reads_most : (left : ℕ) → 1 ≤ reads_of left → 4096 * reads_of left < left + 4096
  reads_most left h = omega arith

  pub safe_log : (told : ℕ) → IsHostAndWriter e.host e.writer → (state : State) → Cleanly (Also (Left told)) state → IsSafe IsStep Permits caller (asking (followed_by (measures_log number e told) (on_ok (λ fate. recovers number entries (noted e fate sofar))))) state
  safe_log told fits = asks_safe caller (Also (Left told)) (also_stays (Left told) (left_stays told)) (Look number (Length (log_path e.host e.writer)))
      (λ reply. followed_by (after_reply (measures_log number e told) reply) (on_ok (λ fate. recovers number entries (noted e fate sofar))))
      (λ state f. may_free state caller (Look number (Length (log_path e.host e.writer))) (tt, tt) f.0)
      (λ state reply after step may f. given_log state reply after step may f (length_in reply) refl)
    where
      given_log : (state : State) (reply : Reply) (after : State) → IsStep state caller (unbroken (Look number (Length (log_path e.host e.writer)))) reply after → Permits state caller (unbroken (Look number (Length (log_path e.host e.writer)))) → Cleanly (Also (Left told)) state → (o : Option ℕ) → length_in reply ≡ o
          → IsSafe IsStep Permits caller (asking (followed_by (given o (trouble (log_path e.host e.writer) reply) (λ log. reads_left number e told log (told / 40) false (no_entries e.writer))) (on_ok (λ fate. recovers number entries (noted e fate sofar))))) after
      given_log state reply after step may f None is = tt
      given_log state reply after step may f (Some n) is =
          safe_reads (reads_of (told / 40)) n told (told / 40) false (no_entries e.writer) (reads_enough (told / 40)) (reads_needed (told / 40)) (reads_most (told / 40)) (omega arith) (none_counted e.writer) after
          (after_look (Left told) (Reading n told false (told / 40) (no_entries e.writer)) state after (Look number (Length (log_path e.host e.writer))) reply may step f (reading_stays n told false (told / 40) (no_entries e.writer)) (begins told fits state n reply after step (of_length reply n is)))

  -- ---- the index dropping is measured

  -- the writer isn't live, and what the room has of it is of its host
  abbrev Dead : State → Type 0
  Dead state = IsGone e state × IsEntered number e state

  dead_stays : Stays Dead
  dead_stays = stays_both (IsGone e) (IsEntered number e) (gone_stays e) (entered_stays number e)

  missing_index : (room : Room) → IsOfHost e.host e.writer room → file_at room (index_path e.host e.writer) ≡ None → MayBury e.host e.writer room
  missing_index room of none = inr (λ other content h.
      let here : HasItem room (Index e.host e.writer) content = subst (λ o. HasItem room (Index o e.writer) content) (of other content (inl h)) h in
      let clash : Some content ≡ None = sym here.there ∙ none in
      absurd (no_some content clash))
    where
      no_some : (content : List ℕ) → ◌≡◌ {A = Option (List ℕ)} (Some content) None → ⊥
      no_some content clash = cc

  measured_at : (state : State) → Dead state → (tree : Tree) → state.store.tree ≡ Some tree → (room : Room) → slice_get tree.rooms number ≡ Some room → (all : List ℕ) → HasItem room (Index e.host e.writer) all → (told : ℕ) → length all ≡ told → Left told state
  measured_at state dead tree is room there all h told long = inr (
    length (log_bytes room e.host e.writer),
    all,
    long,
    (
      dead.0,
      λ other other_is.
          let same : tree ≡ other = one_tree tree other state.store.tree is other_is in (
            room,
            ap (λ (t : Tree). slice_get t.rooms number) (sym same) ∙ there,
            record {
              now = all;
              stands = h;
              cut = inl refl;
              landed = ap (λ f. within_log (length (log_bytes room e.host e.writer)) (length (bytes_of f) / 40) (bytes_of f)) h.there ∙ ap (λ n. within_log (length (log_bytes room e.host e.writer)) (n / 40) all) long;
              logs = refl;
            },
          ),
    ),
  )

  nothing_left : (state : State) → Dead state → (tree : Tree) → state.store.tree ≡ Some tree → (room : Room) → slice_get tree.rooms number ≡ Some room → file_at room (index_path e.host e.writer) ≡ None → (told : ℕ) → told ≡ 0 → Left told state
  nothing_left state dead tree is room there none told zero_it = inl (
    zero_it,
    (
      dead.0.0,
      dead.0.1,
      λ other r other_is here.
          let same : r ≡ room = some_room r room (slice_get tree.rooms number) (ap (λ (t : Tree). slice_get t.rooms number) (one_tree tree other state.store.tree is other_is) ∙ here) there in
          missing_index r (dead.1.2 other r other_is here) (ap (λ x. file_at x (index_path e.host e.writer)) same ∙ none),
    ),
  )

  index_was : (l : Ledger) (state : State) (s : IsSoundFor l state) → Dead state → (told : ℕ) (reply : Reply) (after : State) → IsStep state caller (unbroken (Look number (Length (index_path e.host e.writer)))) reply after → LengthWas reply told → Left told state
  index_was l state s dead told reply after step (inl is) =
      let x = length_told state s.shape.tree s.shape.told caller number (index_path e.host e.writer) told after (subst (λ r. IsStep state caller (unbroken (Look number (Length (index_path e.host e.writer)))) r after) is step) in
      measured_at state dead s.shape.tree s.shape.told x.0 x.2 x.1 (record { is_item = is_index e.host e.writer dead.1.0.host_fits dead.1.0.writer_fits; there = x.3 }) told x.4
  index_was l state s dead told reply after step (inr (inl is, zero_it)) =
      let x = absence_told state s.shape.tree s.shape.told caller number (index_path e.host e.writer) after (subst (λ r. IsStep state caller (unbroken (Look number (Length (index_path e.host e.writer)))) r after) is step) in
      nothing_left state dead s.shape.tree s.shape.told x.room x.has_room x.none told zero_it
  index_was l state s dead told reply after step (inr (inr is, zero_it)) =
      let found = subst (λ r. IsStep state caller (unbroken (Look number (Length (index_path e.host e.writer)))) r after) is step in
      let x = no_folder_told state s.shape.tree s.shape.told caller number (index_path e.host e.writer) after found in
      let none : file_at x.room (index_path e.host e.writer) ≡ None = none_without l state s number (looked_apart state caller number (Length (index_path e.host e.writer)) NoFolder after found) (Index e.host e.writer) (is_index e.host e.writer dead.1.0.host_fits dead.1.0.writer_fits) x in
      nothing_left state dead s.shape.tree s.shape.told x.room x.has_room none told zero_it

  pub safe_index : IsHostAndWriter e.host e.writer → (state : State) → Cleanly (Also Dead) state → IsSafe IsStep Permits caller (asking (followed_by (measures_index number e) (on_ok (λ fate. recovers number entries (noted e fate sofar))))) state
  safe_index fits = asks_safe caller (Also Dead) (also_stays Dead dead_stays) (Look number (Length (index_path e.host e.writer)))
      (λ reply. followed_by (after_reply (measures_index number e) reply) (on_ok (λ fate. recovers number entries (noted e fate sofar))))
      (λ state f. may_free state caller (Look number (Length (index_path e.host e.writer))) (tt, tt) f.0)
      (λ state reply after step may f. given_index state reply after step may f (length_in reply) refl)
    where
      given_index : (state : State) (reply : Reply) (after : State) → IsStep state caller (unbroken (Look number (Length (index_path e.host e.writer)))) reply after → Permits state caller (unbroken (Look number (Length (index_path e.host e.writer)))) → Cleanly (Also Dead) state → (o : Option ℕ) → length_in reply ≡ o
          → IsSafe IsStep Permits caller (asking (followed_by (given o (trouble (index_path e.host e.writer) reply) (measures_log number e)) (on_ok (λ fate. recovers number entries (noted e fate sofar))))) after
      given_index state reply after step may f None is = tt
      given_index state reply after step may f (Some told) is =
          safe_log told fits after (after_look Dead (Left told) state after (Look number (Length (index_path e.host e.writer))) reply may step f (left_stays told) (λ l s dead. index_was l state s dead told reply after step (of_length reply told is)))

  -- ---- all of its calls

  pub safe_writer : IsHostAndWriter e.host e.writer → (state : State) → Cleanly (Also (IsEntered number e)) state → IsSafe IsStep Permits caller (asking (followed_by (writer_program number e) (on_ok (λ fate. recovers number entries (noted e fate sofar))))) state
  safe_writer fits = asks_safe caller (Also (IsEntered number e)) (also_stays (IsEntered number e) (entered_stays number e)) (Inspect e.writer)
      (λ reply. followed_by (after_reply (writer_program number e) reply) (on_ok (λ fate. recovers number entries (noted e fate sofar))))
      (λ state f. may_free state caller (Inspect e.writer) (tt, tt) f.0)
      went
    where
      went : (state : State) (reply : Reply) (after : State) → IsStep state caller (unbroken (Inspect e.writer)) reply after → Permits state caller (unbroken (Inspect e.writer)) → Cleanly (Also (IsEntered number e)) state → IsSafe IsStep Permits caller (asking (followed_by (after_reply (writer_program number e) reply) (on_ok (λ fate. recovers number entries (noted e fate sofar))))) after
      went state Done after step may f = safe_index fits after
          (after_look (IsEntered number e) Dead state after (Inspect e.writer) Done may step f dead_stays (λ l s entered. ((only_dead state after caller e.writer (unbroken (Inspect e.writer)) refl step, entered.1), entered)))
      went state reply after step may f = ended caller number e entries sofar rest_safe (not_done reply) (λ fate. noted e fate sofar) after
          (cleanly_then (Also (IsEntered number e)) (AreEntered number entries) state after caller (unbroken (Inspect e.writer)) reply may step f (λ l s holds. all_entered_stay number entries l state after caller (unbroken (Inspect e.writer)) reply may.1 step s holds.1))
