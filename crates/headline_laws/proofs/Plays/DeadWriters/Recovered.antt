-- What the line of a recovery shows of its container.
use Rattle.std.proofs.Common.{◌≡◌, ℕ, zero, suc, ◌+◌, ◌-◌, ◌*◌, ◌/◌, inl, inr, Bool, true, false, nat_eq, nat_le, List, [], ◌∷◌, ◌++◌, length, drop, min, Option, Some, None, Result, Ok, Err, refl, sym, ap, ◌∙◌, subst, arith, append_assoc}
use Rattle.std.specs.Prelude.{if◌then◌else◌, slice_get}
use Rattle.std.proofs.lemmas.Bool.Decides.{nat_tests}
use Rattle.std.proofs.lemmas.List.{append-nil}
use Rattle.plfs_types.specs.declared.entries.WriterCount.{WriterCount}
use Rattle.index_entry.specs.Spelling.{entry_in}
use Rattle.store_api.specs.declared.tree.Room.{Room as RoomThere}
use Rattle.mount_model.specs.declared.call.Call.{Call}
use Rattle.mount_model.specs.declared.call.Call.TheVariants.{Bury, Inspect, Look, Mend, MendMeta, SyncDropping}
use Rattle.mount_model.specs.declared.call.Look.TheVariants.{Length}
use Rattle.mount_model.specs.declared.reply.Refusal.TheVariants.{Alive}
use Rattle.mount_model.specs.declared.reply.Reply.{Reply}
use Rattle.mount_model.specs.declared.reply.Reply.TheVariants.{Damaged, Done, Refused}
use Rattle.mount_model.specs.History.{Event}
use Rattle.mount_model.specs.Making.{Refuses}
use Rattle.mount_model.specs.Paths.{Name, index_path}
use Rattle.mount_model.specs.Recovering.{BuriesIt, mend_check}
use Rattle.mount_model.specs.State.{State}
use Rattle.mount_model.specs.Step.{Answers, IsStep}
use Rattle.mount_model.proofs.Facts.{match_cases}
use Rattle.mount_sound.specs.Owed.{IsLawful, IsNotLive, May}
use Rattle.mount_sound.specs.There.{landed_in}
use Rattle.mount_sound.proofs.Facts.{has_recovered, only_dead}
use Rattle.mount_model.specs.declared.stuck.Stuck.{Stuck}
use Rattle.mount_model.specs.Running.{Runs, unbroken}
use Rattle.mount_model.specs.Program.{Program, ask}
use Rattle.mount_model.specs.declared.names.OpenEntry.{OpenEntry}
use Rattle.mount_model.specs.Entries.{is_next}
use Rattle.mount_model.specs.FlowReplies.{Tries, bytes_in, given, length_in}
use Rattle.torn_tail.specs.declared.recovering.Recovered.{Recovered}
use Rattle.torn_tail.specs.Recovering.{noted}
use Rattle.torn_tail.specs.Entries.{checked, longer, looked, no_entries}
use Rattle.torn_tail.specs.Words.{Run, Went, all_there, breaks, ends}
use Rattle.torn_tail.specs.Writers.{buries, found, if_checked, if_done, if_synced, keeps, measures_index, measures_log, mends, mends_meta, not_done, reads, syncs_index, syncs_log, writer_program}
use Rattle.mount_model.specs.Entries.{next_read, reads_of}
use Rattle.reader_laws.specs.Moments.{Dropping, IsNamed, IsSoundAt, Moment, landed, moment_after}
use Rattle.reader_laws.proofs.Gathered.Facts.{landed_at, legal_first, legal_rest, sound_after}
use Rattle.reader_laws.proofs.Facts.{answered, first_of}
use Rattle.headline_laws.specs.Changing.{IsAnswered}
use Rattle.headline_laws.specs.Recovering.{IsBuried, IsFoundLive}
use Rattle.headline_laws.proofs.Plays.DeadWriters.Alive.{bury_refused_not, inspect_live, mend_not, meta_refused_not}
use Rattle.headline_laws.proofs.Plays.Holds.Held.{alone, answered_so, its_step}
use Rattle.headline_laws.proofs.Plays.DeadWriters.NoBytes.{empty_there}
use Rattle.headline_laws.proofs.Plays.DeadWriters.OpenWriters.{Adds, IsListed}

same_number : (a b : ℕ) → nat_eq a b ≡ true → a ≡ b
same_number a b e = grind (arith, nat_tests)

abbrev result_of : {R : Type 0} → Tries R → Type 0
result_of {R} program = R

-- what became of a writer
abbrev pub Fate : Type 0
Fate = result_of (writer_program 0 (record { host = 0; writer = 0 }))

module _ (n room : ℕ) (names : List Name) (m : Moment) (events : List Event) (lawful : IsLawful m.state events) (sound : IsSoundAt m) (IsOut : WriterCount → Type 0) (IsOn : ℕ → Type 0) (is_out : (told : WriterCount) → IsBuried m n (alone events) room names told → IsOut told) (is_on : (writer : ℕ) → IsFoundLive m n (alone events) writer → IsOn writer) where
  -- these events come first, and those behind them
  abbrev pub Here : List Event → List Event → Type 0
  Here first rest = events ≡ first ++ rest

  abbrev pub at : List Event → Moment
  at first = moment_after m first

  lawful_at : (first rest : List Event) → Here first rest → IsLawful (at first).state rest
  lawful_at first rest here = legal_rest m first rest (subst (IsLawful m.state) here lawful)

  sound_at : (first rest : List Event) → Here first rest → IsSoundAt (at first)
  sound_at first rest here = sound_after m first (legal_first m first rest (subst (IsLawful m.state) here lawful)) sound

  -- it is told as what became of it, where it came to an end
  abbrev pub EndsSo : OpenEntry → Result Fate Stuck → Type 0
  EndsSo e (Ok fate) = (sofar : Recovered) → Adds IsOut IsOn e sofar (noted e fate sofar)
  EndsSo e (Err why) = Unit {0}

  -- ---- a call

  -- the caller's next call has its place
  pub record Calls {X : Type 0} (first : List Event) (call : Call) (k : Reply → Program Call Reply X) (out : X) : Type 0 where
    pub until : List Event
    pub event : Event
    pub later : List Event
    pub before : List Event
    pub until_is : until ≡ first ++ before
    pub here : Here until (event ∷ later)
    pub on : Here (until ++ event ∷ []) later
    pub own : event.caller ≡ n
    pub asked : event.ask ≡ unbroken call
    pub runs : Runs n (k event.reply) later out

  pub calls : {X : Type 0} (first rest : List Event) (call : Call) (k : Reply → Program Call Reply X) (out : X) → Here first rest → Runs n (ask call k) rest out → Calls first call k out
  calls first rest call k out here runs =
      let f = first_of n call k rest out runs in
      let there : Here (first ++ f.before) (f.event ∷ f.later) = here ∙ ap (λ z. first ++ z) f.split ∙ sym (append_assoc first f.before (f.event ∷ f.later)) in
      record {
        until = first ++ f.before;
        event = f.event;
        later = f.later;
        before = f.before;
        until_is = refl;
        here = there;
        on = there ∙ sym (append_assoc (first ++ f.before) (f.event ∷ []) f.later);
        own = f.by_caller;
        asked = f.asked;
        runs = f.rest;
      }

  its_may : (first : List Event) (event : Event) (later : List Event) (call : Call) → Here first (event ∷ later) → event.caller ≡ n → event.ask ≡ unbroken call → May (at first).state n (unbroken call)
  its_may first event later call here own asked = subst (λ a. May (at first).state n a) asked (subst (λ c. May (at first).state c event.ask) own (lawful_at first (event ∷ later) here).0)

  step_of : (first : List Event) (event : Event) (later : List Event) (call : Call) (reply : Reply) → Here first (event ∷ later) → event.caller ≡ n → event.ask ≡ unbroken call → event.reply ≡ reply → IsStep (at first).state n (unbroken call) reply event.after
  step_of first event later call reply here own asked told = its_step n call reply (at first).state event own asked told (lawful_at first (event ∷ later) here).1

  answer_of : (first : List Event) (event : Event) (later : List Event) (call : Call) (reply : Reply) → Here first (event ∷ later) → event.caller ≡ n → event.ask ≡ unbroken call → event.reply ≡ reply → Answers (at first).state n call reply event.after
  answer_of first event later call reply here own asked told = answered (at first).state n call (unbroken call) reply event.after refl (step_of first event later call reply here own asked told)

  -- ---- a writer that is live

  live_so : (e : OpenEntry) (first : List Event) (event : Event) (later : List Event) → Here first (event ∷ later) → event.caller ≡ n → event.ask ≡ unbroken (Inspect e.writer) → event.reply ≡ Refused Alive → EndsSo e (not_done (Refused Alive))
  live_so e first event later here own asked told = λ sofar.
      let step = step_of first event later (Inspect e.writer) (Refused Alive) here own asked told in
      let on : IsOn e.writer = is_on e.writer (record {
        earlier = first;
        inspecting = event;
        later = later;
        split = here;
        inspects = answered_so n (Inspect e.writer) (Refused Alive) event own asked told;
        live = inspect_live (at first).state n event.after e.writer (answered (at first).state n (Inspect e.writer) (unbroken (Inspect e.writer)) (Refused Alive) event.after refl step);
      }) in
      inr (on, refl)

  not_done_so : (e : OpenEntry) (reply : Reply) → (reply ≡ Refused Alive → EndsSo e (not_done (Refused Alive))) → EndsSo e (not_done reply)
  not_done_so e (Refused Alive) live = live refl
  not_done_so e (Refused why) live = tt
  not_done_so e (Damaged folder file) live = tt
  not_done_so e reply live = tt

  -- it goes on after Done, or the writer was told to be live, or there was trouble
  done_or : (e : OpenEntry) (next : Tries Fate) (later : List Event) (result : Result Fate Stuck) (reply : Reply) → Runs n (if_done next reply) later result → (reply ≡ Refused Alive → EndsSo e (not_done (Refused Alive))) → (reply ≡ Done → Runs n next later result → EndsSo e result) → EndsSo e result
  done_or e next later result Done runs live on = on refl runs
  done_or e next later result reply runs live on = subst (EndsSo e) runs.1 (not_done_so e reply live)

  synced_or : (e : OpenEntry) (next : Tries Fate) (later : List Event) (result : Result Fate Stuck) (reply : Reply) → Runs n (if_synced next reply) later result → (Runs n next later result → EndsSo e result) → EndsSo e result
  synced_or e next later result Done runs on = on runs
  synced_or e next later result reply runs on = subst (EndsSo e) runs.1 tt

  -- ---- a writer that is taken out

  module _ (e : OpenEntry) (is_listed : IsListed names e) where
    abbrev d : Dropping
    d = record { room = room; host = e.host; writer = e.writer }

    -- it was inspected in these events, and found not live
    pub record WasInspected (first : List Event) : Type 0 where
      pub earlier : List Event
      pub inspecting : Event
      pub between : List Event
      pub is : first ≡ earlier ++ (inspecting ∷ between)
      pub inspects : IsAnswered n (Inspect e.writer) Done inspecting
      pub dead : IsNotLive (at earlier).state e.writer

    inspected_on : (first more : List Event) → WasInspected first → WasInspected (first ++ more)
    inspected_on first more w = record {
      earlier = w.earlier;
      inspecting = w.inspecting;
      between = w.between ++ more;
      is = ap (λ z. z ++ more) w.is ∙ append_assoc w.earlier (w.inspecting ∷ w.between) more;
      inspects = w.inspects;
      dead = w.dead;
    }

    -- behind that, so many of its entries had landed
    pub record WasCounted (count : ℕ) (first : List Event) : Type 0 where
      pub so_far : List Event
      pub more : List Event
      pub is : first ≡ so_far ++ more
      pub inspected : WasInspected so_far
      pub counted : IsNamed d → landed (at so_far) d ≡ count

    counted_on : (count : ℕ) (first before until : List Event) → until ≡ first ++ before → WasCounted count first → WasCounted count until
    counted_on count first before until is w = record {
      so_far = w.so_far;
      more = w.more ++ before;
      is = is ∙ ap (λ z. z ++ before) w.is ∙ append_assoc w.so_far w.more before;
      inspected = w.inspected;
      counted = w.counted;
    }

    -- who is buried has a name
    its_name : (old new : State) → IsStep old n (unbroken (Bury room e.host e.writer)) Done new → IsNamed d
    its_name old new step = elim (match_cases (mend_check old room e.writer) (BuriesIt room e.host e.writer old Done new) (λ why. Refuses why old Done new) (answered old n (Bury room e.host e.writer) (unbroken (Bury room e.host e.writer)) Done new refl step)) as (λ _. IsNamed d) [
      | inl (none, b) ↦ record { in_range = tt; widths = (b.named.host_fits, b.named.writer_fits) }
      | inr (why, some, refused) ↦ absurd (let e : Done ≡ Refused why = refused.0 in cc)
    ]

    out_so : (count : ℕ) (until : List Event) (event : Event) (later : List Event) → Here until (event ∷ later) → event.caller ≡ n → event.ask ≡ unbroken (Bury room e.host e.writer) → event.reply ≡ Done → WasCounted count until → IsOut (record { writer = e.writer; count = count })
    out_so count until event later here own asked told w =
        let i = w.inspected in
        let step = step_of until event later (Bury room e.host e.writer) Done here own asked told in
        is_out (record { writer = e.writer; count = count }) (record {
          burial = record { host = e.host; earlier = i.earlier; inspecting = i.inspecting; between = i.between; more = w.more; burying = event; later = later };
          split = here ∙ ap (λ z. z ++ event ∷ later) (w.is ∙ ap (λ z. z ++ w.more) i.is) ∙ append_assoc (i.earlier ++ (i.inspecting ∷ i.between)) w.more (event ∷ later) ∙ append_assoc i.earlier (i.inspecting ∷ i.between) (w.more ++ event ∷ later);
          listed = is_listed;
          inspects = i.inspects;
          dead = i.dead;
          counted = subst (λ z. landed (at z) d ≡ count) i.is (w.counted (its_name (at until).state event.after step));
          buries = answered_so n (Bury room e.host e.writer) Done event own asked told;
          gone = has_recovered (at until).issued (at until).state event.after n (unbroken (Bury room e.host e.writer)) (sound_at until (event ∷ later) here) (its_may until event later (Bury room e.host e.writer) here own asked) step;
        })

    buries_so : (count : ℕ) (first rest : List Event) (result : Result Fate Stuck) → Here first rest → WasCounted count first → Runs n (buries room e count) rest result → EndsSo e result
    buries_so count first rest result here w runs =
        let c = calls first rest (Bury room e.host e.writer) _ result here runs in
        done_or e _ c.later result c.event.reply c.runs (λ told. absurd (bury_refused_not (at c.until).state n c.event.after e.writer room e.host ((its_may c.until c.event c.later (Bury room e.host e.writer) c.here c.own c.asked).owes (sound_at c.until (c.event ∷ c.later) c.here).clean).0 (answer_of c.until c.event c.later (Bury room e.host e.writer) (Refused Alive) c.here c.own c.asked told)))
        (λ told ended. subst (EndsSo e) ended.1 (λ sofar. inl (record { writer = e.writer; count = count }, refl, out_so count c.until c.event c.later c.here c.own c.asked told (counted_on count first c.before c.until c.until_is w), refl)))

    -- what is known of the count where it is 0
    abbrev pub IfNone : Run → List Event → Type 0
    IfNone run first = run.cover.count ≡ 0 → WasCounted 0 first

    none_on : (run : Run) (first before until : List Event) → until ≡ first ++ before → IfNone run first → IfNone run until
    none_on run first before until is none zero_is = counted_on 0 first before until is (none zero_is)

    -- what a call of the caller's was owed there
    counted_there : (count : ℕ) (until : List Event) (event : Event) (later : List Event) → Here until (event ∷ later) → WasInspected until → ((s : IsSoundAt (at until)) → (there : RoomThere) × (slice_get s.shape.tree.rooms room ≡ Some there) × (count ≡ landed_in there e.host e.writer)) → WasCounted count until
    counted_there count until event later here i owed =
        let s = sound_at until (event ∷ later) here in
        let o = owed s in
        record {
          so_far = until;
          more = [];
          is = sym (append-nil until);
          inspected = i;
          counted = λ is. ap length (landed_at (at until) s d o.0 o.1) ∙ sym o.2;
        }

    meta_so : (run : Run) (first rest : List Event) (result : Result Fate Stuck) → run.cover.writer ≡ e.writer → Here first rest → WasInspected first → Runs n (mends_meta room e run) rest result → EndsSo e result
    meta_so run first rest result its here i runs =
        let c = calls first rest (MendMeta room e.host run.cover run.last) _ result here runs in
        let until_i : WasInspected c.until = subst WasInspected (sym c.until_is) (inspected_on first c.before i) in
        let may : May (at c.until).state n (unbroken (MendMeta room e.host run.cover run.last)) = its_may c.until c.event c.later (MendMeta room e.host run.cover run.last) c.here c.own c.asked in
        let w : WasCounted run.cover.count c.until = counted_there run.cover.count c.until c.event c.later c.here until_i (λ s.
        let o = (may.owes s.clean).1 s.shape.tree s.shape.told in
        (o.0, o.1, subst (λ k. run.cover.count ≡ landed_in o.0 e.host k) its o.2.all)) in
        done_or e _ c.later result c.event.reply c.runs (λ told. absurd (meta_refused_not (at c.until).state n c.event.after room e.host run.cover run.last (may.owes (sound_at c.until (c.event ∷ c.later) c.here).clean).0 (answer_of c.until c.event c.later (MendMeta room e.host run.cover run.last) (Refused Alive) c.here c.own c.asked told)))
        (λ told on. buries_so run.cover.count (c.until ++ c.event ∷ []) c.later result c.on (counted_on run.cover.count c.until (c.event ∷ []) (c.until ++ c.event ∷ []) refl w) on)

    index_so : (run : Run) (first rest : List Event) (result : Result Fate Stuck) → run.cover.writer ≡ e.writer → Here first rest → WasInspected first → Runs n (syncs_index room e run) rest result → EndsSo e result
    index_so run first rest result its here i runs =
        let c = calls first rest (SyncDropping room e.host e.writer false) (if_synced (mends_meta room e run)) result here runs in
        let on_i : WasInspected (c.until ++ c.event ∷ []) = inspected_on c.until (c.event ∷ []) (subst WasInspected (sym c.until_is) (inspected_on first c.before i)) in
        synced_or e (mends_meta room e run) c.later result c.event.reply c.runs (λ on. meta_so run (c.until ++ c.event ∷ []) c.later result its c.on on_i on)

    log_so : (run : Run) (first rest : List Event) (result : Result Fate Stuck) → run.cover.writer ≡ e.writer → Here first rest → WasInspected first → Runs n (syncs_log room e run) rest result → EndsSo e result
    log_so run first rest result its here i runs =
        let c = calls first rest (SyncDropping room e.host e.writer true) (if_synced (syncs_index room e run)) result here runs in
        let on_i : WasInspected (c.until ++ c.event ∷ []) = inspected_on c.until (c.event ∷ []) (subst WasInspected (sym c.until_is) (inspected_on first c.before i)) in
        synced_or e (syncs_index room e run) c.later result c.event.reply c.runs (λ on. index_so run (c.until ++ c.event ∷ []) c.later result its c.on on_i on)

    keeps_so : (run : Run) (first rest : List Event) (result : Result Fate Stuck) → run.cover.writer ≡ e.writer → Here first rest → WasInspected first → IfNone run first → Runs n (keeps room e run) rest result → EndsSo e result
    keeps_so run first rest result its here i none runs =
        elim (nat_eq run.cover.count 0) as (λ b. nat_eq run.cover.count 0 ≡ b → Runs n (if b then buries room e 0 else syncs_log room e run) rest result → EndsSo e result) [
          | true ↦ λ t on. buries_so 0 first rest result here (none (same_number run.cover.count 0 t)) on
          | false ↦ λ t on. log_so run first rest result its here i on
        ] refl runs

    mends_so : (run : Run) (first rest : List Event) (result : Result Fate Stuck) → run.cover.writer ≡ e.writer → Here first rest → WasInspected first → Runs n (mends room e run) rest result → EndsSo e result
    mends_so run first rest result its here i runs =
        let c = calls first rest (Mend room e.host e.writer run.cover.count) (if_done (keeps room e run)) result here runs in
        let until_i : WasInspected c.until = subst WasInspected (sym c.until_is) (inspected_on first c.before i) in
        let may : May (at c.until).state n (unbroken (Mend room e.host e.writer run.cover.count)) = its_may c.until c.event c.later (Mend room e.host e.writer run.cover.count) c.here c.own c.asked in
        let w : WasCounted run.cover.count c.until = counted_there run.cover.count c.until c.event c.later c.here until_i (λ s.
        let o = (may.owes s.clean).1 s.shape.tree s.shape.told in
        (o.0, o.1, o.2.landed)) in
        let then_on : List Event = c.until ++ c.event ∷ [] in
        done_or e (keeps room e run) c.later result c.event.reply c.runs (λ told. absurd (mend_not (at c.until).state n c.event.after e.writer room e.host run.cover.count (may.owes (sound_at c.until (c.event ∷ c.later) c.here).clean).0 (answer_of c.until c.event c.later (Mend room e.host e.writer run.cover.count) (Refused Alive) c.here c.own c.asked told)))
        (λ told on. keeps_so run then_on c.later result its c.on (inspected_on c.until (c.event ∷ []) until_i) (λ zero_is. counted_on 0 c.until (c.event ∷ []) then_on refl (subst (λ k. WasCounted k c.until) zero_is w)) on)

    -- where the index dropping had no bytes, nothing had landed
    abbrev pub IfEmpty : ℕ → List Event → Type 0
    IfEmpty told first = told ≡ 0 → WasCounted 0 first

    found_so : (told : ℕ) (run : Run) (first rest : List Event) (result : Result Fate Stuck) → run.cover.writer ≡ e.writer → Here first rest → WasInspected first → IfEmpty told first → Runs n (found room e told run) rest result → EndsSo e result
    found_so told run first rest result its here i none runs =
        elim (nat_eq told (40 * run.cover.count)) as (λ b. nat_eq told (40 * run.cover.count) ≡ b → Runs n (if b then keeps room e run else mends room e run) rest result → EndsSo e result) [
          | true ↦ λ t on. keeps_so run first rest result its here i (λ zero_is. none (omega (arith, same_number told (40 * run.cover.count) t, zero_is))) on
          | false ↦ λ t on. mends_so run first rest result its here i on
        ] refl runs

    empty_on : (told : ℕ) (first before until : List Event) → until ≡ first ++ before → IfEmpty told first → IfEmpty told until
    empty_on told first before until is none zero_is = counted_on 0 first before until is (none zero_is)

    -- ---- what is read

    module _ (P : Went × Run → Type 0) (all_good : (run : Run) → run.cover.writer ≡ e.writer → P (all_there, run)) (some_good : (run : Run) → run.cover.writer ≡ e.writer → P (ends, run)) (bad : (run : Run) → P (breaks, run)) where
      checked_so : (log k : ℕ) (bytes : List ℕ) (run : Run) → run.cover.writer ≡ e.writer → P (checked log k bytes run)
      checked_so log zero bytes run its = all_good run its
      checked_so log (suc k) bytes run its = elim (is_next run.cover (entry_in bytes)) as (λ b. P (if b then (if nat_le ((entry_in bytes).physical + (entry_in bytes).len) log then checked log k (drop 40 bytes) (longer (entry_in bytes) run) else (ends, run)) else (breaks, run))) [
        | true ↦ elim (nat_le ((entry_in bytes).physical + (entry_in bytes).len) log) as (λ b. P (if b then checked log k (drop 40 bytes) (longer (entry_in bytes) run) else (ends, run))) [
          | true ↦ checked_so log k (drop 40 bytes) (longer (entry_in bytes) run) its
          | false ↦ some_good run its
        ]
        | false ↦ bad run
      ]

      looked_so : (past : Bool) (log asked : ℕ) (bytes : List ℕ) (run : Run) → run.cover.writer ≡ e.writer → P (looked past log asked bytes run)
      looked_so true log asked bytes run its = some_good run its
      looked_so false log asked bytes run its = checked_so log (min (length bytes / 40) asked) bytes run its

    given_so : {A : Type 0} (found : Option A) (why : Stuck) (next : A → Tries Fate) (later : List Event) (result : Result Fate Stuck) → Runs n (given found why next) later result → ((a : A) → found ≡ Some a → Runs n (next a) later result → EndsSo e result) → EndsSo e result
    given_so None why next later result runs on = subst (EndsSo e) runs.1 tt
    given_so (Some a) why next later result runs on = on a refl runs

    either : (later : List Event) (result : Result Fate Stuck) (b : Bool) (p q : Tries Fate) → Runs n (if b then p else q) later result → (Runs n p later result → EndsSo e result) → (Runs n q later result → EndsSo e result) → EndsSo e result
    either later result true p q go one other = one go
    either later result false p q go one other = other go

    -- so it is whatever the Reads tell
    reads_so : (k told log left : ℕ) (past : Bool) (run : Run) (first rest : List Event) (result : Result Fate Stuck) → run.cover.writer ≡ e.writer → Here first rest → WasInspected first → IfEmpty told first → Runs n (reads k room e told log left past run) rest result → EndsSo e result
    reads_so zero told log left past run first rest result its here i none runs = found_so told run first rest result its here i none runs
    reads_so (suc k) told log left past run first rest result its here i none runs =
        let c = calls first rest _ _ result here runs in
        let then_on : List Event = c.until ++ c.event ∷ [] in
        let split : then_on ≡ first ++ (c.before ++ c.event ∷ []) = ap (λ z. z ++ c.event ∷ []) c.until_is ∙ append_assoc first c.before (c.event ∷ []) in
        let on_i : WasInspected then_on = subst WasInspected (sym split) (inspected_on first (c.before ++ c.event ∷ []) i) in
        let on_none : IfEmpty told then_on = empty_on told first (c.before ++ c.event ∷ []) then_on split none in
        let more : Bool → Run → Tries Fate = λ after_all longer_run. reads k room e told log (left - next_read left) after_all longer_run in
        given_so (bytes_in c.event.reply) _ _ c.later result c.runs (λ bytes is on.
        let full : Bool = nat_le (40 * next_read left) (length bytes) in
        looked_so (λ w. Runs n (if_checked e (found room e told) more full w) c.later result → EndsSo e result)
        (λ r its_r go. either c.later result full (more false r) (found room e told r) go (λ go_on. reads_so k told log (left - next_read left) false r then_on c.later result its_r c.on on_i on_none go_on) (λ at_end. found_so told r then_on c.later result its_r c.on on_i on_none at_end))
        (λ r its_r go. either c.later result full (more true r) (found room e told r) go (λ go_on. reads_so k told log (left - next_read left) true r then_on c.later result its_r c.on on_i on_none go_on) (λ at_end. found_so told r then_on c.later result its_r c.on on_i on_none at_end))
        (λ r go. subst (EndsSo e) go.1 tt)
        past log (next_read left) bytes run its on)

    log_measured : (told : ℕ) (first rest : List Event) (result : Result Fate Stuck) → Here first rest → WasInspected first → IfEmpty told first → Runs n (measures_log room e told) rest result → EndsSo e result
    log_measured told first rest result here i none runs =
        let c = calls first rest _ _ result here runs in
        let then_on : List Event = c.until ++ c.event ∷ [] in
        let split : then_on ≡ first ++ (c.before ++ c.event ∷ []) = ap (λ z. z ++ c.event ∷ []) c.until_is ∙ append_assoc first c.before (c.event ∷ []) in
        given_so (length_in c.event.reply) _ _ c.later result c.runs (λ log is on.
        reads_so (reads_of (told / 40)) told log (told / 40) false (no_entries e.writer) then_on c.later result refl c.on (subst WasInspected (sym split) (inspected_on first (c.before ++ c.event ∷ []) i)) (empty_on told first (c.before ++ c.event ∷ []) then_on split none) on)

    index_measured : (first rest : List Event) (result : Result Fate Stuck) → Here first rest → WasInspected first → Runs n (measures_index room e) rest result → EndsSo e result
    index_measured first rest result here i runs =
        let c = calls first rest (Look room (Length (index_path e.host e.writer))) _ result here runs in
        let then_on : List Event = c.until ++ c.event ∷ [] in
        let until_i : WasInspected c.until = subst WasInspected (sym c.until_is) (inspected_on first c.before i) in
        given_so (length_in c.event.reply) _ _ c.later result c.runs (λ told is on.
        log_measured told then_on c.later result c.on (inspected_on c.until (c.event ∷ []) until_i)
        (λ zero_is. record {
          so_far = c.until;
          more = c.event ∷ [];
          is = refl;
          inspected = until_i;
          counted = empty_there n room e.host e.writer (at c.until) (sound_at c.until (c.event ∷ c.later) c.here) c.event.after c.event.reply told
              (answered (at c.until).state n (Look room (Length (index_path e.host e.writer))) (unbroken (Look room (Length (index_path e.host e.writer)))) c.event.reply c.event.after refl (step_of c.until c.event c.later (Look room (Length (index_path e.host e.writer))) c.event.reply c.here c.own c.asked refl)) is zero_is;
        }) on)

    pub writer_so : (rest : List Event) (result : Result Fate Stuck) → Here [] rest → Runs n (writer_program room e) rest result → EndsSo e result
    writer_so rest result here runs =
        let c = calls [] rest (Inspect e.writer) (if_done (measures_index room e)) result here runs in
        done_or e (measures_index room e) c.later result c.event.reply c.runs (λ told. live_so e c.until c.event c.later c.here c.own c.asked told)
        (λ told on. index_measured (c.until ++ c.event ∷ []) c.later result c.on (record {
          earlier = c.until;
          inspecting = c.event;
          between = [];
          is = refl;
          inspects = answered_so n (Inspect e.writer) Done c.event c.own c.asked told;
          dead = only_dead (at c.until).state c.event.after n e.writer (unbroken (Inspect e.writer)) refl (step_of c.until c.event c.later (Inspect e.writer) Done c.here c.own c.asked told);
        }) on)
