-- A recovery measures what a writer left by looks alone: it comes to what it does with a run of the writer, or ends in damage.
use Rattle.std.proofs.Common.{◌≡◌, ◌+◌, ◌-◌, ◌*◌, ◌/◌, ℕ, zero, suc, Bool, true, false, nat_le, List, [], ◌∷◌, length, drop, Option, Some, None, Result, Err, refl, sym, inl, inr, subst, if◌then◌else◌}
use Rattle.std.specs.Prelude.{min}
use Rattle.plfs_types.specs.declared.names.Path.{Path}
use Rattle.store_api.specs.declared.step.Answer.{Answer}
use Rattle.store_api.specs.declared.step.Answer.TheVariants as answer
use Rattle.index_entry.specs.Spelling.{entry_in}
use Rattle.mount_model.specs.declared.call.Call.TheVariants.{Look}
use Rattle.mount_model.specs.declared.call.Look.{Look as Sight}
use Rattle.mount_model.specs.declared.call.Look.TheVariants.{Length, Read}
use Rattle.mount_model.specs.declared.reply.Reply.{Reply}
use Rattle.mount_model.specs.declared.reply.Reply.TheVariants.{Looked}
use Rattle.mount_model.specs.History.{AreBy, Event}
use Rattle.mount_model.specs.Paths.{index_path, log_path}
use Rattle.mount_sound.specs.Owed.{IsLawful}
use Rattle.mount_model.specs.Program.{ask, done, followed_by}
use Rattle.mount_model.specs.declared.names.OpenEntry.{OpenEntry}
use Rattle.mount_model.specs.declared.stuck.Stuck.{Stuck}
use Rattle.mount_model.specs.declared.stuck.Stuck.TheVariants as stuck
use Rattle.mount_model.specs.Entries.{is_next, next_read, reads_of}
use Rattle.mount_model.specs.FlowReplies.{Tries, bytes_in, on_ok, given, length_in, trouble}
use Rattle.mount_model.specs.Running.{Runs}
use Rattle.mount_model.proofs.Flows.Facts.{runs_next}
use Rattle.reader_laws.specs.Moments.{IsSoundAt, Moment, moment_after, next_moment}
use Rattle.torn_tail.specs.declared.recovering.Recovered.{Recovered}
use Rattle.torn_tail.specs.Recovering.{noted, recovers}
use Rattle.torn_tail.specs.Words.{Run, Went, all_there, breaks, ends}
use Rattle.torn_tail.specs.Entries.{checked, longer, looked, no_entries}
use Rattle.torn_tail.specs.Writers.{found, if_checked, measures_log, reads, reads_left}
use Rattle.trouble_laws.specs.Undamaged.{IsUndamaged}
use Rattle.plain_plays.specs.Served.{GoesWell}
use Rattle.plain_plays.proofs.PlainSteps.Entering.{IsContainerAt}
use Rattle.plain_plays.proofs.PlainSteps.Reaching.{ended}
use Rattle.plain_plays.proofs.PlainSteps.ByName.Looking.{IsAlike, alike_both, alike_same}
use Rattle.plain_plays.proofs.PlainSteps.Looks.Answered.{look_answered}

-- ---- entries that are checked

-- all are there, or the next one ends past the log, or breaks a rule; and the run is the writer's
module _ (P : Went × Run → Type 0) (writer : ℕ) (all_so : (run : Run) → run.cover.writer ≡ writer → P (all_there, run)) (ends_so : (run : Run) → run.cover.writer ≡ writer → P (ends, run)) (breaks_so : (run : Run) → run.cover.writer ≡ writer → P (breaks, run)) where
  checked_cases : (log n : ℕ) (bytes : List ℕ) (run : Run) → run.cover.writer ≡ writer → P (checked log n bytes run)
  checked_cases log zero bytes run own = all_so run own
  checked_cases log (suc n) bytes run own = elim (is_next run.cover (entry_in bytes)) as (λ b. P (if b then (if nat_le ((entry_in bytes).physical + (entry_in bytes).len) log then checked log n (drop 40 bytes) (longer (entry_in bytes) run) else (ends, run)) else (breaks, run))) [
    | true ↦ elim (nat_le ((entry_in bytes).physical + (entry_in bytes).len) log) as (λ b. P (if b then checked log n (drop 40 bytes) (longer (entry_in bytes) run) else (ends, run))) [
      | true ↦ checked_cases log n (drop 40 bytes) (longer (entry_in bytes) run) own
      | false ↦ ends_so run own
    ]
    | false ↦ breaks_so run own
  ]

  looked_cases : (past : Bool) (log asked : ℕ) (bytes : List ℕ) (run : Run) → run.cover.writer ≡ writer → P (looked past log asked bytes run)
  looked_cases true log asked bytes run own = ends_so run own
  looked_cases false log asked bytes run own = checked_cases log (min (length bytes / 40) asked) bytes run own

-- ---- programs that measure

module _ (n : ℕ) (e : OpenEntry) (es : List OpenEntry) (sofar : Recovered) (told : ℕ) where
  -- it looks at the room until it has a run of the writer, or ends in damage
  pub data Measures : Tries Recovered → Type 0 where
    at_end : (run : Run) → run.cover.writer ≡ e.writer → Measures (followed_by (found n e told run) (on_ok (λ fate. recovers n es (noted e fate sofar))))
    broken : (folder file : List ℕ) (place : ℕ) → Measures (done (Err (stuck.Damaged folder file place)))
    looks : (look : Sight) (k : Reply → Tries Recovered) → ((answered : Answer) → Measures (k (Looked answered))) → Measures (ask (Look n look) k)

  troubled : (path : Path) (answered : Answer) → Measures (done (Err (trouble path (Looked answered))))
  troubled path answer.NoFolder = broken path.folder [] 0
  troubled path other = broken path.folder path.file 0

  given_on : {A B : Type 0} (path : Path) (answered : Answer) (o : Option A) (f : A → Tries B) (next : B → Tries Recovered) → ((a : A) → Measures (followed_by (f a) (on_ok next))) → Measures (followed_by (given o (trouble path (Looked answered)) f) (on_ok next))
  given_on path answered None f next goes = troubled path answered
  given_on path answered (Some a) f next goes = goes a

  reads_on : (calls log left : ℕ) (past : Bool) (run : Run) → run.cover.writer ≡ e.writer → Measures (followed_by (reads calls n e told log left past run) (on_ok (λ fate. recovers n es (noted e fate sofar))))
  reads_on zero log left past run own = at_end run own
  reads_on (suc calls) log left past run own = looks (Read (index_path e.host e.writer) (40 * (told / 40 - left)) (40 * next_read left)) _
      (λ answered. given_on (index_path e.host e.writer) answered (bytes_in (Looked answered)) (λ bytes. if_checked e (found n e told) (λ then_past then_run. reads calls n e told log (left - next_read left) then_past then_run) (nat_le (40 * next_read left) (length bytes)) (looked past log (next_read left) bytes run)) (λ fate. recovers n es (noted e fate sofar))
      (λ bytes. looked_cases (λ went. Measures (followed_by (if_checked e (found n e told) (λ then_past then_run. reads calls n e told log (left - next_read left) then_past then_run) (nat_le (40 * next_read left) (length bytes)) went) (on_ok (λ fate. recovers n es (noted e fate sofar))))) e.writer
      (λ r r_own. elim (nat_le (40 * next_read left) (length bytes)) as (λ b. Measures (followed_by (if b then reads calls n e told log (left - next_read left) false r else found n e told r) (on_ok (λ fate. recovers n es (noted e fate sofar))))) [ true ↦ reads_on calls log (left - next_read left) false r r_own | false ↦ at_end r r_own ])
      (λ r r_own. elim (nat_le (40 * next_read left) (length bytes)) as (λ b. Measures (followed_by (if b then reads calls n e told log (left - next_read left) true r else found n e told r) (on_ok (λ fate. recovers n es (noted e fate sofar))))) [ true ↦ reads_on calls log (left - next_read left) true r r_own | false ↦ at_end r r_own ])
      (λ r r_own. broken (index_path e.host e.writer).folder (index_path e.host e.writer).file (40 * r.cover.count))
      past log (next_read left) bytes run own))

  pub log_on : Measures (followed_by (measures_log n e told) (on_ok (λ fate. recovers n es (noted e fate sofar))))
  log_on = looks (Length (log_path e.host e.writer)) _
      (λ answered. given_on (log_path e.host e.writer) answered (length_in (Looked answered)) (λ log. reads_left n e told log (told / 40) false (no_entries e.writer)) (λ fate. recovers n es (noted e fate sofar)) (λ log. reads_on (reads_of (told / 40)) log (told / 40) false (no_entries e.writer) refl))

-- ---- runs of them

-- The caller has come to a run of the writer, and all is as it was.
pub record HasMeasured (n : ℕ) (e : OpenEntry) (es : List OpenEntry) (sofar : Recovered) (told me : ℕ) (m : Moment) (events : List Event) (out : Result Recovered Stuck) : Type 0 where
  pub run : Run
  pub own : run.cover.writer ≡ e.writer
  pub mid : Moment
  pub alike : IsAlike m mid
  pub sound : IsSoundAt mid
  pub had : IsContainerAt n mid
  pub rest : List Event
  pub lawful : IsLawful mid.state rest
  pub well : GoesWell me rest
  pub by : AreBy me rest
  pub runs : Runs me (followed_by (found n e told run) (on_ok (λ fate. recovers n es (noted e fate sofar)))) rest out
  pub ends_at : moment_after mid rest ≡ moment_after m events

pub measured : (n : ℕ) (e : OpenEntry) (es : List OpenEntry) (sofar : Recovered) (told me : ℕ) (events : List Event) (p : Tries Recovered) (m : Moment) (out : Result Recovered Stuck) → Measures n e es sofar told p → IsSoundAt m → IsContainerAt n m → IsLawful m.state events → GoesWell me events → AreBy me events → IsUndamaged out → Runs me p events out → HasMeasured n e es sofar told me m events out
measured n e es sofar told me events p m out (at_end run own) s had lawful well by plain runs = record { run = run; own = own; mid = m; alike = alike_same m; sound = s; had = had; rest = events; lawful = lawful; well = well; by = by; runs = runs; ends_at = refl }
measured n e es sofar told me events p m out (broken folder file place) s had lawful well by plain runs = absurd (subst IsUndamaged (sym (ended me (Err (stuck.Damaged folder file place)) events out runs)) plain)
measured n e es sofar told me [] p m out (looks look k goes) s had lawful well by plain runs = absurd runs
measured n e es sofar told me (x ∷ events) p m out (looks look k goes) s had lawful well by plain runs = elim (runs_next me (Look n look) k x events out runs) as (λ _. HasMeasured n e es sofar told me m (x ∷ events) out) [
  | inl (other, on) ↦ absurd (other by.0)
  | inr (own, asked, on) ↦
      let a = look_answered m s n had me look x events lawful well own asked in
      let h = measured n e es sofar told me events (k (Looked a.found)) (next_moment m x) out (goes a.found) a.sound a.had lawful.2 well.1 by.1 plain (subst (λ reply. Runs me (k reply) events out) a.told on) in
      record {
        run = h.run;
        own = h.own;
        mid = h.mid;
        alike = alike_both m (next_moment m x) h.mid a.alike h.alike;
        sound = h.sound;
        had = h.had;
        rest = h.rest;
        lawful = h.lawful;
        well = h.well;
        by = h.by;
        runs = h.runs;
        ends_at = h.ends_at;
      }
]
