-- A program's run in which nobody else calls, and which calls programs on a writer make.
use Rattle.std.proofs.Common.{◌≡◌, ◌⊎◌, ℕ, true, false, nat_eq, nat_le, List, [], ◌∷◌, ◌++◌, None, refl, sym, ap, inl, inr, subst, if◌then◌else◌}
use Rattle.std.specs.List.{AllByRecursion}
use Rattle.std.specs.Prelude.{Err, Ok, Result}
use Rattle.mount_model.specs.declared.call.Ask.{Ask}
use Rattle.mount_model.specs.declared.call.Call.{Call}
use Rattle.mount_model.specs.declared.reply.Reply.{Reply}
use Rattle.mount_model.specs.declared.reply.Reply.TheVariants.{Done, Floored, Flushed, Synced, Wrote}
use Rattle.mount_model.specs.History.{Event}
use Rattle.mount_model.specs.Step.{Answers}
use Rattle.mount_sound.specs.Owed.{IsLawful}
use Rattle.reader_laws.specs.Moments.{IsSoundAt, Moment, moment_after, next_moment}
use Rattle.reader_laws.proofs.Gathered.Facts.{sound_after}
use Rattle.refusal_laws.proofs.Facts.{does_work}
use Rattle.writer_laws.proofs.Stops.{whole_answers}
use Rattle.plain_plays.specs.Served.{GoesWell}
use Rattle.plain_plays.proofs.PlainSteps.Reaching.{IsServed}
use Rattle.mount_model.specs.Program.{AsksOnly, Program, ask, done}
use Rattle.mount_model.specs.declared.stuck.Stuck.{Stuck}
use Rattle.mount_model.specs.Running.{Runs, unbroken}
use Rattle.mount_model.proofs.Flows.Facts.{runs_done, runs_next}
use Rattle.writer_flow.specs.declared.handle.WriterHandle.{WriterHandle}
use Rattle.writer_flow.specs.Handle.{flushed_of, opened_of}
use Rattle.writer_flow.specs.Opening.{finds_floor, if_done, if_floored, makes_index, makes_log}
use Rattle.writer_flow.specs.Syncing.{flushes_and_syncs, if_log_synced, if_synced, sync_program, syncs_index}
use Rattle.writer_flow.specs.Writing.{flush_then, if_flushed, if_wrote, write_program, writes}
use Rattle.writer_laws.specs.Waiting.{IsOn}
use Rattle.mount_model.specs.History.{AreBy}
use Rattle.plain_plays.proofs.PlainSteps.Steps.Leaving.{IsNoExit, IsNoWrite}

-- ---- where nobody else calls, each event is the program's next call

pub record Next {R : Type 0} (me : ℕ) (q : Call) (k : Reply → Program Call Reply R) (events : List Event) (out : R) : Type 0 where
  pub event : Event
  pub rest : List Event
  pub are : events ≡ event ∷ rest
  pub asked : event.ask ≡ unbroken q
  pub by : AreBy me rest
  pub runs : Runs me (k event.reply) rest out

pub next : {R : Type 0} (me : ℕ) (q : Call) (k : Reply → Program Call Reply R) (events : List Event) (out : R) → AreBy me events → Runs me (ask q k) events out → Next me q k events out
next me q k [] out by runs = absurd runs
next {R} me q k (event ∷ events) out by runs = elim (runs_next me q k event events out runs) as (λ _. Next me q k (event ∷ events) out) [
  | inl (other, on) ↦ absurd (other by.0)
  | inr (mine, asked, on) ↦ record { event = event; rest = events; are = refl; asked = asked; by = by.1; runs = on }
]

-- The program's next call is the first one, and was served.
pub record First {R : Type 0} (m : Moment) (me : ℕ) (q : Call) (k : Reply → Program Call Reply R) (events : List Event) (out : R) : Type 0 where
  pub event : Event
  pub rest : List Event
  pub are : events ≡ event ∷ rest
  pub own : event.caller ≡ me
  pub asked : event.ask ≡ unbroken q
  pub whole : IsLawful m.state (event ∷ rest)
  pub answers : Answers m.state me q event.reply event.after
  pub served : IsServed me m.state q event.reply
  pub sound : IsSoundAt (next_moment m event)
  pub well : GoesWell me rest
  pub by : AreBy me rest
  pub runs : Runs me (k event.reply) rest out
  pub ends : moment_after (next_moment m event) rest ≡ moment_after m events

pub first_call : {R : Type 0} (m : Moment) (me : ℕ) (q : Call) (k : Reply → Program Call Reply R) (events : List Event) (out : R) → IsSoundAt m → IsLawful m.state events → GoesWell me events → AreBy me events → Runs me (ask q k) events out → First m me q k events out
first_call m me q k [] out sound lawful well by runs = absurd runs
first_call {R} m me q k (event ∷ events) out sound lawful well by runs = elim (runs_next me q k event events out runs) as (λ _. First m me q k (event ∷ events) out) [
  | inl (other, on) ↦ absurd (other by.0)
  | inr (mine, asked, on) ↦
      let whole : event.ask.stop ≡ None = ap (λ (a : Ask). a.stop) asked in
      let is : event.ask.call ≡ q = ap (λ (a : Ask). a.call) asked in
      record {
        event = event;
        rest = events;
        are = refl;
        own = mine;
        asked = asked;
        whole = lawful;
        answers = subst (λ c. Answers m.state me c event.reply event.after) is (subst (λ n. Answers m.state n event.ask.call event.reply event.after) mine (whole_answers m.state event.caller event.ask event.reply event.after whole lawful.1));
        served = subst (λ c. IsServed me m.state c event.reply) is (subst (λ n. IsServed n m.state event.ask.call event.reply) mine (does_work m.issued m.state event.after event.caller event.ask event.reply lawful.0 lawful.1 sound whole (well.0 mine).0 (well.0 mine).1));
        sound = sound_after m (event ∷ []) (lawful.0, lawful.1, tt) sound;
        well = well.1;
        by = by.1;
        runs = on;
        ends = refl;
      }
]

pub by_first : (me : ℕ) (first rest : List Event) → AreBy me (first ++ rest) → AreBy me first
by_first me [] rest by = tt
by_first me (e ∷ first) rest by = (by.0, by_first me first rest by.1)

pub by_rest : (me : ℕ) (first rest : List Event) → AreBy me (first ++ rest) → AreBy me rest
by_rest me [] rest by = by
by_rest me (e ∷ first) rest by = by_rest me first rest by.1

-- each call is whole, and one of those that the program asks
pub asked_only : {R : Type 0} (these : Call → Type 0) (me : ℕ) (events : List Event) (p : Program Call Reply R) (out : R) → AsksOnly these p → AreBy me events → Runs me p events out → AllByRecursion (λ (e : Event). (e.ask.stop ≡ None) × these e.ask.call) events
asked_only these me [] p out only by runs = tt
asked_only these me (event ∷ events) (done r) out only by runs = absurd ((runs_done me r event events out runs).0 by.0)
asked_only these me (event ∷ events) (ask q k) out only by runs = elim (runs_next me q k event events out runs) as (λ _. AllByRecursion (λ (e : Event). (e.ask.stop ≡ None) × these e.ask.call) (event ∷ events)) [
  | inl (other, on) ↦ absurd (other by.0)
  | inr (mine, asked, on) ↦ ((ap (λ (a : Ask). a.stop) asked, subst these (sym (ap (λ (a : Ask). a.call) asked)) only.0), asked_only these me events (k event.reply) out (only.1 event.reply) by.1 on)
]

-- ---- what programs on a writer ask

-- on the writer, and no exit
abbrev pub IsInside : ℕ → Call → Type 0
IsInside w call = IsOn w call × IsNoExit call

-- nor a write
abbrev pub IsSyncing : ℕ → Call → Type 0
IsSyncing w call = IsOn w call × IsNoExit call × IsNoWrite call

module _ (w : ℕ) where
  synced_asks : (h : WriterHandle) (reply : Reply) → AsksOnly (IsSyncing w) (if_synced h reply)
  synced_asks h (Synced n) = tt
  synced_asks h reply = tt

  index_asks : (h : WriterHandle) → h.writer ≡ w → AsksOnly (IsSyncing w) (syncs_index h)
  index_asks h is = ((is, tt, tt), synced_asks h)

  flushed_asks : (h : WriterHandle) → h.writer ≡ w → (reply : Reply) → AsksOnly (IsSyncing w) (if_flushed h (syncs_index (flushed_of h)) reply)
  flushed_asks h is (Flushed n) = index_asks (flushed_of h) is
  flushed_asks h is reply = tt

  pending_asks : (h : WriterHandle) → h.writer ≡ w → AsksOnly (IsSyncing w) (flushes_and_syncs h)
  pending_asks h is = elim (nat_eq h.pending 0) as (λ b. AsksOnly (IsSyncing w) (if b then syncs_index h else flush_then h (syncs_index (flushed_of h)))) [
    | true ↦ index_asks h is
    | false ↦ ((is, tt, tt), flushed_asks h is)
  ]

  log_asks : (h : WriterHandle) → h.writer ≡ w → (reply : Reply) → AsksOnly (IsSyncing w) (if_log_synced h reply)
  log_asks h is Done = pending_asks h is
  log_asks h is reply = tt

  pub sync_asks : (h : WriterHandle) → h.writer ≡ w → AsksOnly (IsSyncing w) (sync_program h)
  sync_asks h is = ((is, tt, tt), log_asks h is)

  wrote_asks : (h : WriterHandle) (reply : Reply) → AsksOnly (IsInside w) (if_wrote h reply)
  wrote_asks h (Wrote stamp) = tt
  wrote_asks h reply = tt

  now_asks : (h : WriterHandle) (at : ℕ) (block : List ℕ) → h.writer ≡ w → AsksOnly (IsInside w) (writes h at block)
  now_asks h at block is = ((is, tt), wrote_asks h)

  emptied_asks : (h : WriterHandle) (at : ℕ) (block : List ℕ) → h.writer ≡ w → (reply : Reply) → AsksOnly (IsInside w) (if_flushed h (writes (flushed_of h) at block) reply)
  emptied_asks h at block is (Flushed n) = now_asks (flushed_of h) at block is
  emptied_asks h at block is reply = tt

  pub write_asks : (h : WriterHandle) (at : ℕ) (block : List ℕ) → h.writer ≡ w → AsksOnly (IsInside w) (write_program h at block)
  write_asks h at block is = elim (nat_le h.cap h.pending) as (λ b. AsksOnly (IsInside w) (if b then flush_then h (writes (flushed_of h) at block) else writes h at block)) [
    | true ↦ ((is, tt), emptied_asks h at block is)
    | false ↦ now_asks h at block is
  ]

-- ---- an opening, behind its entering

-- every result of the program is this
abbrev pub EndsOnly : {R : Type 0} → (R → Type 0) → Program Call Reply R → Type 0
EndsOnly these (done r) = these r
EndsOnly these (ask q k) = (reply : Reply) → EndsOnly these (k reply)

-- the program asks these, until it has come where every result is that
abbrev pub AsksUnless : {R : Type 0} → (Call → Type 0) → (R → Type 0) → Program Call Reply R → Type 0
AsksUnless these bad (done r) = Unit {0}
AsksUnless these bad (ask q k) = EndsOnly bad (ask q k) ⊎ (these q × ((reply : Reply) → AsksUnless these bad (k reply)))

ends_so : {R : Type 0} (bad : R → Type 0) (me : ℕ) (events : List Event) (p : Program Call Reply R) (out : R) → EndsOnly bad p → AreBy me events → Runs me p events out → bad out
ends_so bad me [] (done r) out only by runs = subst bad runs.1 only
ends_so bad me [] (ask q k) out only by runs = absurd runs
ends_so bad me (event ∷ events) (done r) out only by runs = absurd ((runs_done me r event events out runs).0 by.0)
ends_so bad me (event ∷ events) (ask q k) out only by runs = elim (runs_next me q k event events out runs) as (λ _. bad out) [
  | inl (other, on) ↦ absurd (other by.0)
  | inr (mine, asked, on) ↦ ends_so bad me events (k event.reply) out (only event.reply) by.1 on
]

pub asked_unless : {R : Type 0} (these : Call → Type 0) (bad : R → Type 0) (me : ℕ) (events : List Event) (p : Program Call Reply R) (out : R) → AsksUnless these bad p → (bad out → ⊥) → AreBy me events → Runs me p events out → AllByRecursion (λ (e : Event). (e.ask.stop ≡ None) × these e.ask.call) events
asked_unless these bad me [] p out only good by runs = tt
asked_unless these bad me (event ∷ events) (done r) out only good by runs = absurd ((runs_done me r event events out runs).0 by.0)
asked_unless these bad me (event ∷ events) (ask q k) out (inl only) good by runs = absurd (good (ends_so bad me (event ∷ events) (ask q k) out only by runs))
asked_unless these bad me (event ∷ events) (ask q k) out (inr only) good by runs = elim (runs_next me q k event events out runs) as (λ _. AllByRecursion (λ (e : Event). (e.ask.stop ≡ None) × these e.ask.call) (event ∷ events)) [
  | inl (other, on) ↦ absurd (other by.0)
  | inr (mine, asked, on) ↦ ((ap (λ (a : Ask). a.stop) asked, subst these (sym (ap (λ (a : Ask). a.call) asked)) only.0), asked_unless these bad me events (k event.reply) out (only.1 event.reply) good by.1 on)
]

-- an opening that failed
abbrev pub HasFailed : Result WriterHandle Stuck → Type 0
HasFailed (Ok handle) = ⊥
HasFailed (Err why) = Unit {0}

module _ (w cap : ℕ) where
  log_unless : (reply : Reply) → AsksUnless (IsSyncing w) HasFailed (if_done w (done (Ok (opened_of w cap))) reply)
  log_unless Done = tt
  log_unless reply = inl (λ answer. tt)

  index_unless : (reply : Reply) → AsksUnless (IsSyncing w) HasFailed (if_done w (makes_log w cap) reply)
  index_unless Done = inr ((refl, tt, tt), log_unless)
  index_unless reply = inl (λ answer. tt)

  hostdir_unless : (reply : Reply) → AsksUnless (IsSyncing w) HasFailed (if_done w (makes_index w cap) reply)
  hostdir_unless Done = inr ((refl, tt, tt), index_unless)
  hostdir_unless reply = inl (λ answer. tt)

  floor_unless : (reply : Reply) → AsksUnless (IsSyncing w) HasFailed (if_floored w cap reply)
  floor_unless (Floored floor) = inr ((refl, tt, tt), hostdir_unless)
  floor_unless reply = inl (λ answer. tt)

  pub opening_unless : AsksUnless (IsSyncing w) HasFailed (finds_floor w cap)
  opening_unless = inr ((refl, tt, tt), floor_unless)
