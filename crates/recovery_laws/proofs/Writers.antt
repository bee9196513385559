-- Each call of the recovery of one writer may be made, and those of the others after it.
use Rattle.std.proofs.Common.{◌≡◌, ◌≤◌, ◌<◌, ◌*◌, ◌/◌, ◌^◌, ◌==◌, ℕ, true, false, List, length, Some, refl, ap, sym, ◌∙◌, ◌⊎◌, inl, inr, subst, arith}
use Rattle.std.specs.Prelude.{slice_get, if◌then◌else◌, Result, Err}
use Rattle.std.proofs.lemmas.Bool.Decides.{nat_tests}
use Rattle.std.proofs.lemmas.List.{length-take, take_all}
use Rattle.plfs_types.specs.declared.entries.Entry.{Entry}
use Rattle.plfs_types.specs.declared.limits.TheConstants.{MAX_LOG}
use Rattle.container_layout.specs.declared.items.Item.TheVariants.{Index}
use Rattle.index_entry.specs.Within.{within_log}
use Rattle.store_api.specs.declared.tree.Room.{Room}
use Rattle.store_api.specs.declared.tree.Tree.{Tree}
use Rattle.store_laws.specs.Files.{kept_at}
use Rattle.mount_model.specs.declared.stuck.Stuck.{Stuck}
use Rattle.mount_model.specs.Running.{asking, unbroken}
use Rattle.mount_model.specs.Program.{Program, done, ask, followed_by}
use Rattle.mount_model.specs.Safe.{IsSafe}
use Rattle.mount_model.specs.declared.names.OpenEntry.{OpenEntry}
use Rattle.mount_model.specs.FlowReplies.{failure, on_ok}
use Rattle.mount_model.specs.declared.call.Ask.{Ask}
use Rattle.mount_model.specs.declared.call.Call.{Call}
use Rattle.mount_model.specs.declared.call.Call.TheVariants.{Bury, Mend, MendMeta, SyncDropping}
use Rattle.mount_model.specs.declared.reply.Reply.{Reply}
use Rattle.mount_model.specs.declared.reply.Reply.TheVariants.{Done}
use Rattle.mount_model.specs.Paths.{index_path, log_path}
use Rattle.mount_model.specs.State.{State}
use Rattle.mount_model.specs.Step.{IsStep}
use Rattle.mount_sound.specs.Dropping.{IsWriter, bytes_of}
use Rattle.mount_sound.specs.Items.{HasItem, HasMeta}
use Rattle.mount_sound.specs.Ledger.{Ledger}
use Rattle.mount_sound.specs.Owed.{HasDropping, IsNotLive, MayBury, MayMend, MayMendMeta, Permits, StandsInRoom}
use Rattle.mount_sound.specs.Recovered.{IsMended, IsSyncedWhole}
use Rattle.mount_sound.specs.Sound.{IsSoundFor}
use Rattle.mount_sound.specs.There.{landed_entries}
use Rattle.mount_sound.proofs.Facts.{has_recovered, in_later, in_room, is_log, later, one_tree, some_room}
use Rattle.torn_tail.specs.Recovering.{recovers, noted}
use Rattle.torn_tail.specs.Writers.{buries, keeps, mends, mends_meta, not_done, syncs_index, syncs_log, found}
use Rattle.torn_tail.specs.declared.recovering.Recovered.{Recovered}
use Rattle.torn_tail.specs.Words.{Run}
use Rattle.recovery_laws.specs.Counting.{TellsOf}
use Rattle.recovery_laws.proofs.Cleanly.{Cleanly, Stays, asks_safe, cleanly_so, cleanly_then, safe_on_ok, stays_both}
use Rattle.recovery_laws.proofs.FirstEntries.{AreLogged, HasFirst, in_log, log_there}
use Rattle.recovery_laws.proofs.Leftovers.{AreEntered, IsBuriable, IsExact, IsGone, IsLeftExact, IsLeftLogged, IsMeasured, IsTellable, WasMeasured, all_entered_stay, buriable_stays, exact_stays, gone_stays, left_logged_stays, measured_stays, tellable_stays}
use Rattle.recovery_laws.proofs.Ranges.{IsCounted, meta_range}

-- what a program goes on with after a reply
abbrev pub after_reply : {R : Type 0} → Program Call Reply R → Reply → Program Call Reply R
after_reply (done x) reply = done x
after_reply (ask q k) reply = k reply

-- what holds of one room of a number holds where another thing does
stand_both : (state : State) (number : ℕ) (one two : Room → Type 0) → StandsInRoom state number one → StandsInRoom state number two → StandsInRoom state number (λ room. one room × two room)
stand_both state number one two a b tree told =
    let x = a tree told in
    let y = b tree told in
    (x.0, x.1, (x.2, subst two (some_room y.0 x.0 (slice_get tree.rooms number) y.1 x.1) y.2))

stand_so : (state : State) (number : ℕ) (one two : Room → Type 0) → ((room : Room) → one room → two room) → StandsInRoom state number one → StandsInRoom state number two
stand_so state number one two so a tree told = let x = a tree told in (x.0, x.1, so x.0 x.2)

-- ---- of one room

one_content : (room : Room) (host writer : ℕ) (a b : List ℕ) → HasItem room (Index host writer) a → HasItem room (Index host writer) b → a ≡ b
one_content room host writer a b x y = let both : Some a ≡ Some b = sym x.there ∙ y.there in cc

may_tell : (room : Room) (host : ℕ) (run : Run) → 1 ≤ run.cover.count → (writer : ℕ) → run.cover.writer ≡ writer → (x : IsExact host writer run room) → length x.content ≤ kept_at room (index_path host writer) → run.cover.bytes ≤ kept_at room (log_path host writer) → MayMendMeta host run.cover run.last room
may_tell room host run some writer own = subst (λ w. (x : IsExact host w run room) → length x.content ≤ kept_at room (index_path host w) → run.cover.bytes ≤ kept_at room (log_path host w) → MayMendMeta host run.cover run.last room) own
    (λ x index log. record {
      content = x.content;
      stands = x.stands;
      some = some;
      all = x.tells.counts;
      told = x.tells.told;
      exact = x.exact;
      index_kept = index;
      log_kept = log;
    })

-- what was synced is told
synced_tells : (room : Room) (host writer : ℕ) (run : Run) (es : List Entry) → 1 ≤ run.cover.count → TellsOf writer run es → IsExact host writer run room × (AreLogged host writer es room × IsSyncedWhole host writer false room) → MayMendMeta host run.cover run.last room
synced_tells room host writer run es some tells (x, (logs, synced)) =
    may_tell room host run some writer tells.own x
    (omega (arith, synced.kept, ap length (one_content room host writer x.content synced.content x.stands synced.stands)))
    (omega (arith, logs.kept, tells.told.sum))

all_first : (room : Room) (host writer : ℕ) (content : List ℕ) → HasItem room (Index host writer) content → HasFirst host writer (landed_entries room host writer) room
all_first room host writer content h = record { content = content; stands = h; many = omega arith; first = take_all (length (landed_entries room host writer)) (landed_entries room host writer) (omega arith) }

none_whole_here : (room : Room) (host writer : ℕ) (run : Run) → run.cover.count ≡ 0 → ((other : ℕ) (content : List ℕ) → HasItem room (Index other writer) content → other ≡ host) → IsExact host writer run room → MayBury host writer room
none_whole_here room host writer run none one x = inr (λ other content h.
    let here : HasItem room (Index host writer) content = subst (λ o. HasItem room (Index o writer) content) (one other content h) h in
    let same : content ≡ x.content = one_content room host writer content x.content here x.stands in
    omega (arith, ap length same, x.exact, none))

-- what was measured is exactly what counts, where it is so long
measured_exact : (room : Room) (host writer log told : ℕ) (all : List ℕ) (run : Run) → length all ≡ told → told ≡ 40 * run.cover.count → TellsOf writer run (within_log log (told / 40) all) → IsMeasured host writer log told all room → IsExact host writer run room
measured_exact room host writer log told all run long is tells m = record {
  content = m.now;
  stands = m.stands;
  exact = elim m.cut as (λ _. length m.now ≡ 40 * run.cover.count) [
    | inl same ↦ omega (arith, ap length same, long, is)
    | inr part ↦ omega (arith, ap length part, length-take (40 * length (within_log log (told / 40) all)) all, tells.counts, long, is)
  ];
  tells = subst (TellsOf writer run) (sym m.landed) tells;
}

mended_exact : (room : Room) (host writer log told : ℕ) (all : List ℕ) (run : Run) → TellsOf writer run (within_log log (told / 40) all) → IsMeasured host writer log told all room × IsMended host writer run.cover.count room → IsExact host writer run room
mended_exact room host writer log told all run tells (m, mended) = record {
  content = mended.content;
  stands = mended.stands;
  exact = mended.exact;
  tells = subst (TellsOf writer run) (sym m.landed) tells;
}

may_mend_measured : (room : Room) (host writer log told : ℕ) (all : List ℕ) (run : Run) → TellsOf writer run (within_log log (told / 40) all) → IsMeasured host writer log told all room → MayMend host writer run.cover.count room
may_mend_measured room host writer log told all run tells m = record { content = m.now; stands = m.stands; landed = tells.counts ∙ ap length (sym m.landed) }

module _ (caller number : ℕ) (e : OpenEntry) (entries : List OpenEntry) (sofar : Recovered)
    (rest_safe : (then_so : Recovered) (state : State) → Cleanly (AreEntered number entries) state → IsSafe IsStep Permits caller (asking (recovers number entries then_so)) state) where
  -- the others are recovered whatever became of this one
  abbrev Others : State → Type 0
  Others = AreEntered number entries

  -- with what holds of the writer
  abbrev pub With : (State → Type 0) → State → Type 0
  With fact state = fact state × AreEntered number entries state

  pub with_stays : (fact : State → Type 0) → Stays fact → Stays (With fact)
  with_stays fact stays = stays_both fact (AreEntered number entries) stays (all_entered_stay number entries)

  pub ended : {F : Type 0} (r : Result F Stuck) (next : F → Recovered) (state : State) → Cleanly (AreEntered number entries) state → IsSafe IsStep Permits caller (asking (on_ok (λ fate. recovers number entries (next fate)) r)) state
  ended r next state f = safe_on_ok caller r (λ fate. recovers number entries (next fate)) state (λ fate. rest_safe (next fate) state f)

  others_now : (fact : State → Type 0) → Stays fact → (state after : State) (q : Call) (reply : Reply) → Permits state caller (unbroken q) → IsStep state caller (unbroken q) reply after → Cleanly (With fact) state → Cleanly (AreEntered number entries) after
  others_now fact stays state after q reply may step f = cleanly_then (With fact) (AreEntered number entries) state after caller (unbroken q) reply may step f (λ l s holds. all_entered_stay number entries l state after caller (unbroken q) reply may.1 step s holds.1)

  -- ---- it is buried

  pub safe_bury : (count : ℕ) (state : State) → Cleanly (With (IsBuriable number e)) state → IsSafe IsStep Permits caller (asking (followed_by (buries number e count) (on_ok (λ fate. recovers number entries (noted e fate sofar))))) state
  safe_bury count = asks_safe caller (With (IsBuriable number e)) (with_stays (IsBuriable number e) (buriable_stays number e)) (Bury number e.host e.writer)
      (λ reply. followed_by (after_reply (buries number e count) reply) (on_ok (λ fate. recovers number entries (noted e fate sofar))))
      (λ state f. (f.0, record { numbers = tt; owes = λ clean. (f.1 clean).0 }))
      (λ state reply after step may f. went reply after (others_now (IsBuriable number e) (buriable_stays number e) state after (Bury number e.host e.writer) reply may step f))
    where
      went : (reply : Reply) (after : State) → Cleanly (AreEntered number entries) after → IsSafe IsStep Permits caller (asking (followed_by (after_reply (buries number e count) reply) (on_ok (λ fate. recovers number entries (noted e fate sofar))))) after
      went Done after f = rest_safe _ after f
      went reply after f = ended (not_done reply) (λ fate. noted e fate sofar) after f

  -- ---- its metadata dropping is made

  -- the run is of this writer
  abbrev Tellable : Run → State → Type 0
  Tellable run state = (IsTellable number e run state × IsGone e state) × (run.cover.writer ≡ e.writer)

  tellable_all_stays : (run : Run) → Stays (Tellable run)
  tellable_all_stays run l old new other asked reply may step s f = (
    (tellable_stays number e run l old new other asked reply may step s f.0.0, (measured_gone l old new other asked reply may step s f.0.1)),
    f.1,
  )
    where
      measured_gone : Stays (IsGone e)
      measured_gone = gone_stays e

  pub safe_meta : (run : Run) → 1 ≤ run.cover.count → IsCounted run → (state : State) → Cleanly (With (Tellable run)) state → IsSafe IsStep Permits caller (asking (followed_by (mends_meta number e run) (on_ok (λ fate. recovers number entries (noted e fate sofar))))) state
  safe_meta run some counted = asks_safe caller (With (Tellable run)) (with_stays (Tellable run) (tellable_all_stays run)) (MendMeta number e.host run.cover run.last)
      (λ reply. followed_by (after_reply (mends_meta number e run) reply) (on_ok (λ fate. recovers number entries (noted e fate sofar))))
      (λ state f. (f.0, record { numbers = meta_range run some counted; owes = λ clean. (f.1 clean).0.0.0 }))
      went
    where
      went : (state : State) (reply : Reply) (after : State) → IsStep state caller (unbroken (MendMeta number e.host run.cover run.last)) reply after → Permits state caller (unbroken (MendMeta number e.host run.cover run.last)) → Cleanly (With (Tellable run)) state
          → IsSafe IsStep Permits caller (asking (followed_by (after_reply (mends_meta number e run) reply) (on_ok (λ fate. recovers number entries (noted e fate sofar))))) after
      went state Done after step may f = safe_bury run.cover.count after
          (cleanly_then (With (Tellable run)) (With (IsBuriable number e)) state after caller (unbroken (MendMeta number e.host run.cover run.last)) Done may step f
          (λ l s holds.
          let gone : IsGone e after = gone_stays e l state after caller (unbroken (MendMeta number e.host run.cover run.last)) Done may.1 step s holds.0.0.1 in
          let met : StandsInRoom after number (λ now. HasMeta now e.host run.cover.writer) = has_recovered l state after caller (unbroken (MendMeta number e.host run.cover run.last)) s may.1 step in
          let mine : StandsInRoom after number (λ now. HasMeta now e.host e.writer) = subst (λ w. StandsInRoom after number (λ now. HasMeta now e.host w)) holds.0.1 met in (
            (gone.0, gone.1, in_room after number (MayBury e.host e.writer) (stand_so after number (λ now. HasMeta now e.host e.writer) (MayBury e.host e.writer) (λ room m. inl m) mine)),
            all_entered_stay number entries l state after caller (unbroken (MendMeta number e.host run.cover run.last)) Done may.1 step s holds.1,
          )))
      went state reply after step may f = ended (not_done reply) (λ fate. noted e fate sofar) after (others_now (Tellable run) (tellable_all_stays run) state after (MendMeta number e.host run.cover run.last) reply may step f)

  -- ---- its droppings are synced

  abbrev Logged : Run → State → Type 0
  Logged run state = IsLeftExact number e run state × IsLeftLogged number e run state

  logged_all_stays : (run : Run) → Stays (Logged run)
  logged_all_stays run = stays_both (IsLeftExact number e run) (IsLeftLogged number e run) (exact_stays number e run) (left_logged_stays number e run)

  pub safe_sync_index : (run : Run) → 1 ≤ run.cover.count → IsCounted run → (state : State) → Cleanly (With (Logged run)) state → IsSafe IsStep Permits caller (asking (followed_by (syncs_index number e run) (on_ok (λ fate. recovers number entries (noted e fate sofar))))) state
  safe_sync_index run some counted = asks_safe caller (With (Logged run)) (with_stays (Logged run) (logged_all_stays run)) (SyncDropping number e.host e.writer false)
      (λ reply. followed_by (after_reply (syncs_index number e run) reply) (on_ok (λ fate. recovers number entries (noted e fate sofar))))
      (λ state f. (f.0, record { numbers = tt; owes = λ clean. stand_so state number (IsExact e.host e.writer run) (HasDropping e.host e.writer false) (λ room x. (x.content, x.stands)) (f.1 clean).0.0.1 }))
      went
    where
      went : (state : State) (reply : Reply) (after : State) → IsStep state caller (unbroken (SyncDropping number e.host e.writer false)) reply after → Permits state caller (unbroken (SyncDropping number e.host e.writer false)) → Cleanly (With (Logged run)) state
          → IsSafe IsStep Permits caller (asking (followed_by (after_reply (syncs_index number e run) reply) (on_ok (λ fate. recovers number entries (noted e fate sofar))))) after
      went state Done after step may f = safe_meta run some counted after
          (cleanly_then (With (Logged run)) (With (Tellable run)) state after caller (unbroken (SyncDropping number e.host e.writer false)) Done may step f
          (λ l s holds.
          let q : Ask = unbroken (SyncDropping number e.host e.writer false) in
          let now = logged_all_stays run l state after caller q Done may.1 step s holds.0 in
          let synced : StandsInRoom after number (IsSyncedWhole e.host e.writer false) = has_recovered l state after caller q s may.1 step in
          let logs = now.1 in
          let all = stand_both after number (IsExact e.host e.writer run) (λ room. AreLogged e.host e.writer logs.0 room × IsSyncedWhole e.host e.writer false room) now.0.1
          (stand_both after number (AreLogged e.host e.writer logs.0) (IsSyncedWhole e.host e.writer false) logs.2 synced) in
          let tells = stand_so after number (λ room. IsExact e.host e.writer run room × (AreLogged e.host e.writer logs.0 room × IsSyncedWhole e.host e.writer false room)) (MayMendMeta e.host run.cover run.last) (λ room x. synced_tells room e.host e.writer run logs.0 some logs.1 x) all in (
            (((subst (IsNotLive after) (sym logs.1.own) now.0.0.0, tells), now.0.0), logs.1.own),
            all_entered_stay number entries l state after caller q Done may.1 step s holds.1,
          )))
      went state reply after step may f = ended (Err (failure reply)) (λ fate. noted e fate sofar) after (others_now (Logged run) (logged_all_stays run) state after (SyncDropping number e.host e.writer false) reply may step f)

  -- the log is there where entries count
  has_log : (l : Ledger) (state : State) (s : IsSoundFor l state) (run : Run) → 1 ≤ run.cover.count → IsCounted run → StandsInRoom state number (IsExact e.host e.writer run) → StandsInRoom state number (HasDropping e.host e.writer true)
  has_log l state s run some counted exact tree told =
      let x = exact tree told in
      let there : slice_get s.shape.tree.rooms number ≡ Some x.0 = ap (λ (t : Tree). slice_get t.rooms number) (one_tree s.shape.tree tree state.store.tree s.shape.told told) ∙ x.1 in
      let log = log_there l state s number x.0 there e.host e.writer (landed_entries x.0 e.host e.writer) (all_first x.0 e.host e.writer x.2.content x.2.stands) (omega (arith, some, counted.counted, x.2.tells.told.sum)) in
      (x.0, x.1, (log.0, record { is_item = is_log e.host e.writer x.2.stands.is_item.widths.0 x.2.stands.is_item.widths.1; there = log.1 }))

  pub safe_sync_log : (run : Run) → 1 ≤ run.cover.count → IsCounted run → (state : State) → Cleanly (With (IsLeftExact number e run)) state → IsSafe IsStep Permits caller (asking (followed_by (syncs_log number e run) (on_ok (λ fate. recovers number entries (noted e fate sofar))))) state
  safe_sync_log run some counted = asks_safe caller (With (IsLeftExact number e run)) (with_stays (IsLeftExact number e run) (exact_stays number e run)) (SyncDropping number e.host e.writer true)
      (λ reply. followed_by (after_reply (syncs_log number e run) reply) (on_ok (λ fate. recovers number entries (noted e fate sofar))))
      (λ state f. (f.0, record { numbers = tt; owes = λ clean. let s = f.0.sound clean in has_log s.0 state s.1 run some counted (f.1 clean).0.1 }))
      went
    where
      -- what was synced of the log has the bytes of what landed
      are_logged : (l : Ledger) (after : State) (s' : IsSoundFor l after) (now : Room) → slice_get s'.shape.tree.rooms number ≡ Some now → IsExact e.host e.writer run now → IsSyncedWhole e.host e.writer true now → AreLogged e.host e.writer (landed_entries now e.host e.writer) now
      are_logged l after s' now here x synced =
          let h = all_first now e.host e.writer x.content x.stands in
          record { has = h; kept = omega (arith, synced.kept, in_log l after s' number now here e.host e.writer (landed_entries now e.host e.writer) h, ap (λ f. length (bytes_of f)) synced.stands.there) }

      went : (state : State) (reply : Reply) (after : State) → IsStep state caller (unbroken (SyncDropping number e.host e.writer true)) reply after → Permits state caller (unbroken (SyncDropping number e.host e.writer true)) → Cleanly (With (IsLeftExact number e run)) state
          → IsSafe IsStep Permits caller (asking (followed_by (after_reply (syncs_log number e run) reply) (on_ok (λ fate. recovers number entries (noted e fate sofar))))) after
      went state Done after step may f = safe_sync_index run some counted after
          (cleanly_then (With (IsLeftExact number e run)) (With (Logged run)) state after caller (unbroken (SyncDropping number e.host e.writer true)) Done may step f
          (λ l s holds.
          let q : Ask = unbroken (SyncDropping number e.host e.writer true) in
          let s' = later l state after caller q Done may.1 step s in
          let now = exact_stays number e run l state after caller q Done may.1 step s holds.0 in
          let synced : StandsInRoom after number (IsSyncedWhole e.host e.writer true) = has_recovered l state after caller q s may.1 step in
          let both = stand_both after number (IsExact e.host e.writer run) (IsSyncedWhole e.host e.writer true) now.1 synced s'.shape.tree s'.shape.told in
          let es : List Entry = landed_entries both.0 e.host e.writer in (
            (
              now,
              (
                landed_entries both.0 e.host e.writer,
                both.2.0.tells,
                in_later l state after caller q Done may.1 step s s' number (AreLogged e.host e.writer (landed_entries both.0 e.host e.writer))
                    (both.0, both.1, are_logged _ after s' both.0 both.1 both.2.0 both.2.1),
              ),
            ),
            all_entered_stay number entries l state after caller q Done may.1 step s holds.1,
          )))
      went state reply after step may f = ended (Err (failure reply)) (λ fate. noted e fate sofar) after (others_now (IsLeftExact number e run) (exact_stays number e run) state after (SyncDropping number e.host e.writer true) reply may step f)

  -- ---- what landed is exactly there, or there is nothing

  abbrev Kept : Run → State → Type 0
  Kept run state = IsLeftExact number e run state ⊎ ((run.cover.count ≡ 0) × IsBuriable number e state)

  kept_none : (run : Run) (state : State) (l : Ledger) → IsSoundFor l state → run.cover.count ≡ 0 → Kept run state → IsBuriable number e state
  kept_none run state l s none (inr (zero_it, b)) = b
  kept_none run state l s none (inl (gone, exact)) = (
    gone.0,
    gone.1,
    λ tree room told there.
        let x = exact tree told in
        let same : x.0 ≡ room = some_room x.0 room (slice_get tree.rooms number) x.1 there in
        let at : slice_get s.shape.tree.rooms number ≡ Some x.0 = ap (λ (t : Tree). slice_get t.rooms number) (one_tree s.shape.tree tree state.store.tree s.shape.told told) ∙ x.1 in
        let w : IsWriter x.0 e.writer (l number e.writer) = (s.sound.rooms number x.0 at).writers e.writer x.2.stands.is_item.widths.1 in
        subst (MayBury e.host e.writer) same (none_whole_here x.0 e.host e.writer run none (λ other content h. w.one_host other (inl (content, h)) ∙ sym (w.one_host e.host (inl (x.2.content, x.2.stands)))) x.2),
  )

  kept_some : (run : Run) (state : State) → 1 ≤ run.cover.count → Kept run state → IsLeftExact number e run state
  kept_some run state some (inl exact) = exact
  kept_some run state some (inr (zero_it, b)) = absurd (omega (arith, some, zero_it))

  is_zero : (n : ℕ) → (n == 0) ≡ true → n ≡ 0
  is_zero n h = grind (arith, nat_tests)

  is_some : (n : ℕ) → (n == 0) ≡ false → 1 ≤ n
  is_some n h = grind (arith, nat_tests)

  pub safe_keeps : (run : Run) → IsCounted run → (state : State) → Cleanly (With (Kept run)) state → IsSafe IsStep Permits caller (asking (followed_by (keeps number e run) (on_ok (λ fate. recovers number entries (noted e fate sofar))))) state
  safe_keeps run counted state f = elim (run.cover.count == 0) as (λ b. (run.cover.count == 0) ≡ b → IsSafe IsStep Permits caller (asking (followed_by (if b then buries number e 0 else syncs_log number e run) (on_ok (λ fate. recovers number entries (noted e fate sofar))))) state) [
    | true ↦ λ h. safe_bury 0 state (cleanly_so (With (Kept run)) (With (IsBuriable number e)) state (λ l s holds. (kept_none run state l s (is_zero run.cover.count h) holds.0, holds.1)) f)
    | false ↦ λ h. safe_sync_log run (is_some run.cover.count h) counted state (cleanly_so (With (Kept run)) (With (IsLeftExact number e run)) state (λ l s holds. (kept_some run state (is_some run.cover.count h) holds.0, holds.1)) f)
  ] refl

  -- ---- it is mended

  -- the run tells of what was measured
  abbrev pub Mendable : ℕ → Run → State → Type 0
  Mendable told run state = (log : ℕ) × (all : List ℕ) × (length all ≡ told) × TellsOf e.writer run (within_log log (told / 40) all) × WasMeasured number e log told all state

  pub mendable_stays : (told : ℕ) (run : Run) → Stays (Mendable told run)
  mendable_stays told run l old new other asked reply may step s f = (f.0, f.1, f.2, f.3, measured_stays number e f.0 told f.1 l old new other asked reply may step s f.4)

  counted_fits : (n bytes : ℕ) → n ≤ bytes → bytes ≤ MAX_LOG → 40 * n < 2 ^ 64
  counted_fits n bytes l m = omega (arith, l, m)

  pub safe_mend : (told : ℕ) (run : Run) → IsCounted run → (state : State) → Cleanly (With (Mendable told run)) state → IsSafe IsStep Permits caller (asking (followed_by (mends number e run) (on_ok (λ fate. recovers number entries (noted e fate sofar))))) state
  safe_mend told run counted = asks_safe caller (With (Mendable told run)) (with_stays (Mendable told run) (mendable_stays told run)) (Mend number e.host e.writer run.cover.count)
      (λ reply. followed_by (after_reply (mends number e run) reply) (on_ok (λ fate. recovers number entries (noted e fate sofar))))
      (λ state f. (
        f.0,
        record {
          numbers = counted_fits run.cover.count run.cover.bytes counted.counted counted.logged;
          owes = λ clean. let m = (f.1 clean).0 in (m.4.0.0, stand_so state number (IsMeasured e.host e.writer m.0 told m.1) (MayMend e.host e.writer run.cover.count) (λ room x. may_mend_measured room e.host e.writer m.0 told m.1 run m.3 x) m.4.1);
        },
      ))
      went
    where
      went : (state : State) (reply : Reply) (after : State) → IsStep state caller (unbroken (Mend number e.host e.writer run.cover.count)) reply after → Permits state caller (unbroken (Mend number e.host e.writer run.cover.count)) → Cleanly (With (Mendable told run)) state
          → IsSafe IsStep Permits caller (asking (followed_by (after_reply (mends number e run) reply) (on_ok (λ fate. recovers number entries (noted e fate sofar))))) after
      went state Done after step may f = safe_keeps run counted after
          (cleanly_then (With (Mendable told run)) (With (Kept run)) state after caller (unbroken (Mend number e.host e.writer run.cover.count)) Done may step f
          (λ l s holds.
          let q : Ask = unbroken (Mend number e.host e.writer run.cover.count) in
          let m = mendable_stays told run l state after caller q Done may.1 step s holds.0 in
          let mended : StandsInRoom after number (IsMended e.host e.writer run.cover.count) = has_recovered l state after caller q s may.1 step in (
            inl (
              m.4.0,
              stand_so after number (λ room. IsMeasured e.host e.writer m.0 told m.1 room × IsMended e.host e.writer run.cover.count room) (IsExact e.host e.writer run)
                  (λ room x. mended_exact room e.host e.writer m.0 told m.1 run m.3 x)
                  (stand_both after number (IsMeasured e.host e.writer m.0 told m.1) (IsMended e.host e.writer run.cover.count) m.4.1 mended),
            ),
            all_entered_stay number entries l state after caller q Done may.1 step s holds.1,
          )))
      went state reply after step may f = ended (not_done reply) (λ fate. noted e fate sofar) after (others_now (Mendable told run) (mendable_stays told run) state after (Mend number e.host e.writer run.cover.count) reply may step f)

  -- ---- its entries are found

  -- it left nothing, or the run tells of what was measured
  abbrev pub Found : ℕ → Run → State → Type 0
  Found told run state = ((told ≡ 0) × (run.cover.count ≡ 0) × IsBuriable number e state) ⊎ Mendable told run state

  same_number : (a b : ℕ) → (a == b) ≡ true → a ≡ b
  same_number a b h = grind (arith, nat_tests)

  other_number : (a b : ℕ) → (a == b) ≡ false → a ≡ b → ⊥
  other_number a b h same = absurd (let x : (a == b) ≡ true = grind (arith, nat_tests) in let y : true ≡ false = sym x ∙ h in cc)

  found_exact : (told : ℕ) (run : Run) (state : State) → told ≡ 40 * run.cover.count → Found told run state → Kept run state
  found_exact told run state is (inl (none, zero_it, b)) = inr (zero_it, b)
  found_exact told run state is (inr m) = inl (m.4.0, stand_so state number (IsMeasured e.host e.writer m.0 told m.1) (IsExact e.host e.writer run) (λ room x. measured_exact room e.host e.writer m.0 told m.1 run m.2 is m.3 x) m.4.1)

  found_more : (told : ℕ) (run : Run) (state : State) → (told ≡ 40 * run.cover.count → ⊥) → Found told run state → Mendable told run state
  found_more told run state other (inl (none, zero_it, b)) = absurd (other (omega (arith, none, zero_it)))
  found_more told run state other (inr m) = m

  pub safe_found : (told : ℕ) (run : Run) → IsCounted run → (state : State) → Cleanly (With (Found told run)) state → IsSafe IsStep Permits caller (asking (followed_by (found number e told run) (on_ok (λ fate. recovers number entries (noted e fate sofar))))) state
  safe_found told run counted state f = elim (told == 40 * run.cover.count) as (λ b. (told == 40 * run.cover.count) ≡ b → IsSafe IsStep Permits caller (asking (followed_by (if b then keeps number e run else mends number e run) (on_ok (λ fate. recovers number entries (noted e fate sofar))))) state) [
    | true ↦ λ h. safe_keeps run counted state (cleanly_so (With (Found told run)) (With (Kept run)) state (λ l s holds. (found_exact told run state (same_number told (40 * run.cover.count) h) holds.0, holds.1)) f)
    | false ↦ λ h. safe_mend told run counted state (cleanly_so (With (Found told run)) (With (Mendable told run)) state (λ l s holds. (found_more told run state (other_number told (40 * run.cover.count) h) holds.0, holds.1)) f)
  ] refl
