-- For which reasons a statement is refused, whatever its actor keeps and is answered.
use Rattle.std.proofs.Common.{inl, inr, ◌≡◌, ◌≤◌, ◌<◌, ◌+◌, ℕ, true, false, nat_eq, List, length, Option, Some, None, Result, Ok, Err, sym, subst, arith, if◌then◌else◌}
use Rattle.std.specs.Prelude.{⊤}
use Rattle.plfs_types.specs.declared.limits.TheConstants.{MAX_SIZE}
use Rattle.mount_model.specs.declared.reply.Refusal.{Refusal}
use Rattle.mount_model.specs.declared.reply.Refusal.TheVariants as refusal
use Rattle.mount_model.specs.declared.reply.Reply.{Reply}
use Rattle.mount_model.specs.declared.reply.Reply.TheVariants as reply
use Rattle.mount_model.specs.History.{Event}
use Rattle.mount_sound.specs.Owed.{IsLawful}
use Rattle.mount_model.specs.declared.stuck.Stuck.{Stuck}
use Rattle.mount_model.specs.declared.stuck.Stuck.TheVariants as stuck
use Rattle.script_lang.specs.declared.line.Outcome.{Outcome}
use Rattle.script_lang.specs.declared.line.Outcome.TheVariants as line
use Rattle.script_lang.specs.declared.line.Why.{Why}
use Rattle.script_lang.specs.declared.line.Why.TheVariants as why_is
use Rattle.script_lang.specs.declared.script.Data.{Data}
use Rattle.script_lang.specs.declared.script.Statement.{Statement}
use Rattle.script_lang.specs.declared.script.Statement.TheVariants as say
use Rattle.writer_flow.specs.declared.handle.WriterHandle.{WriterHandle}
use Rattle.writer_flow.specs.Closing.{close_program}
use Rattle.writer_flow.specs.Opening.{open_program}
use Rattle.writer_flow.specs.Syncing.{sync_program}
use Rattle.writer_flow.specs.Writing.{write_program}
use Rattle.flatten_core.specs.declared.flattening.Flattened.{Flattened as WasFlattened}
use Rattle.flatten_core.specs.Flattening.{flatten_program}
use Rattle.torn_tail.specs.declared.recovering.Recovered.{Recovered}
use Rattle.torn_tail.specs.Recovering.{recover_program}
use Rattle.trunc_rename.specs.Renaming.{rename_program}
use Rattle.trunc_rename.specs.Truncating.{truncate_program}
use Rattle.outcomes.specs.Data.{bytes_of}
use Rattle.outcomes.specs.Outcomes.{close_outcome, flatten_outcome, list_outcome, open_outcome, recover_outcome, rename_outcome, sync_outcome, truncate_outcome, write_outcome}
use Rattle.outcomes.proofs.DataLemmas.{length_is}
use Rattle.actor_core.specs.declared.kept.Kept.{Kept}
use Rattle.actor_core.specs.declared.kept.Stop.{Stop}
use Rattle.actor_core.specs.Endings.{Ending, closed, flattened, names_listed, opened, recovered, refused, renamed, stopped, synced, truncated, wrote, wrote_nothing}
use Rattle.actor_core.specs.Names.{names_program, names_told}
use Rattle.actor_core.specs.Statements.{does}
use Rattle.actor_core.specs.Stopping.{carried}
use Rattle.actor_core.specs.Work.{finishes}
use Rattle.actor_core.specs.Writers.{closes, opens, syncs, writes, writes_bytes}
use Rattle.reader_laws.specs.Moments.{IsSoundAt, Moment}
use Rattle.headline_laws.proofs.Plays.Facts.{ComesTo}
use Rattle.headline.specs.Causes.{EndsTooFar}
use Rattle.headline.specs.Reasons.{IsReasonOf}
use Rattle.headline_laws.proofs.Reasons.Along.{carried_goes}
use Rattle.headline_laws.proofs.Reasons.Flattening.{FlattenedSo, flatten_goes}
use Rattle.headline_laws.proofs.Reasons.Goes.{EndsSo, Goes, anything}
use Rattle.headline_laws.proofs.Reasons.Holds.{MayRefuseRename, MayRefuseTruncate, Renamed, Truncated, failure_so, rename_goes, truncate_goes}
use Rattle.headline_laws.proofs.Reasons.Lacking.{IsUnrefused, stat_came}
use Rattle.headline_laws.proofs.Reasons.Looks.{never_refused}
use Rattle.headline_laws.proofs.Reasons.Opening.{MayRefuseOpen, OpenedSo, open_goes}
use Rattle.headline_laws.proofs.Reasons.Recovering.{MayRefuseRecovery, RecoveredSo, recover_goes}
use Rattle.headline_laws.proofs.Reasons.Writers.{IsNotOpen, MayRefuseWrite, SyncedSo, WroteSo, close_goes, sync_goes, write_goes}

-- ---- what is shown of an outcome

-- a truncate that is refused as too far is
abbrev pub FarIf : Statement → Type 0
FarIf (say.Trunc name size) = MAX_SIZE < size
FarIf other = ⊤

pub record IsRefusedSo (s : Statement) (why : Why) : Type 0 where
  pub kind : IsReasonOf s why
  pub near : why ≡ why_is.StampsSpent → EndsTooFar s → ⊥
  pub far : why ≡ why_is.TooFar → FarIf s

abbrev pub ShowsReason : Statement → Outcome → Type 0
ShowsReason s (line.Refused why) = IsRefusedSo s why
ShowsReason s (line.Wrote at len (Some stamp)) = EndsTooFar s → ⊥
ShowsReason s (line.Truncated stamp) = EndsTooFar s → ⊥
ShowsReason s other = ⊤

-- ---- what results say

write_told : (at : ℕ) (content : Data) (result : Result ℕ Stuck) → EndsSo (λ (stamp : ℕ). at + length (bytes_of content) ≤ MAX_SIZE) (MayRefuseWrite (at + length (bytes_of content))) result → ShowsReason (say.Write at content) (write_outcome at (length (bytes_of content)) result)
write_told at content (Ok stamp) good = λ far. omega (arith, good, far, length_is content)
write_told at content (Err stuck.Fault) good = tt
write_told at content (Err (stuck.Damaged folder file place)) good = tt
write_told at content (Err (stuck.Refused refusal.TooFar)) good = record { kind = tt; near = λ is. absurd (let clash : why_is.TooFar ≡ why_is.StampsSpent = is in cc); far = λ is. tt }
write_told at content (Err (stuck.Refused refusal.StampsSpent)) good = record { kind = tt; near = λ is far. omega (arith, good, far, length_is content); far = λ is. tt }
write_told at content (Err (stuck.Refused refusal.NotOpen)) good = record { kind = tt; near = λ is. absurd (let clash : why_is.NotOpen ≡ why_is.StampsSpent = is in cc); far = λ is. tt }
write_told at content (Err (stuck.Refused refusal.Full)) good = record { kind = tt; near = λ is. absurd (let clash : why_is.NotOpen ≡ why_is.StampsSpent = is in cc); far = λ is. tt }
write_told at content (Err (stuck.Refused other)) good = absurd good

sync_told : (result : Result ℕ Stuck) → EndsSo (λ (count : ℕ). Unit {0}) IsNotOpen result → ShowsReason say.Sync (sync_outcome result)
sync_told (Ok count) good = tt
sync_told (Err stuck.Fault) good = tt
sync_told (Err (stuck.Damaged folder file place)) good = tt
sync_told (Err (stuck.Refused refusal.NotOpen)) good = record { kind = tt; near = λ is far. far; far = λ is. tt }
sync_told (Err (stuck.Refused refusal.NotFlushed)) good = record { kind = tt; near = λ is far. far; far = λ is. tt }
sync_told (Err (stuck.Refused refusal.NoMeta)) good = record { kind = tt; near = λ is far. far; far = λ is. tt }
sync_told (Err (stuck.Refused other)) good = absurd good

close_told : (result : Result ℕ Stuck) → EndsSo (λ (count : ℕ). Unit {0}) IsNotOpen result → ShowsReason say.Close (close_outcome result)
close_told (Ok count) good = tt
close_told (Err stuck.Fault) good = tt
close_told (Err (stuck.Damaged folder file place)) good = tt
close_told (Err (stuck.Refused refusal.NotOpen)) good = record { kind = tt; near = λ is far. far; far = λ is. tt }
close_told (Err (stuck.Refused refusal.NotFlushed)) good = record { kind = tt; near = λ is far. far; far = λ is. tt }
close_told (Err (stuck.Refused refusal.NoMeta)) good = record { kind = tt; near = λ is far. far; far = λ is. tt }
close_told (Err (stuck.Refused other)) good = absurd good

rename_told : (name to : List ℕ) (result : Result (Unit {0}) Stuck) → EndsSo (λ (made : Unit {0}). Unit {0}) MayRefuseRename result → ShowsReason (say.Rename name to) (rename_outcome result)
rename_told name to (Ok made) good = tt
rename_told name to (Err stuck.Fault) good = tt
rename_told name to (Err (stuck.Damaged folder file place)) good = tt
rename_told name to (Err (stuck.Refused refusal.NoRoom)) good = record { kind = tt; near = λ is far. far; far = λ is. tt }
rename_told name to (Err (stuck.Refused refusal.Held)) good = record { kind = tt; near = λ is far. far; far = λ is. tt }
rename_told name to (Err (stuck.Refused (refusal.Busy host id))) good = record { kind = tt; near = λ is far. far; far = λ is. tt }
rename_told name to (Err (stuck.Refused refusal.IdsSpent)) good = record { kind = tt; near = λ is far. far; far = λ is. tt }
rename_told name to (Err (stuck.Refused refusal.Exists)) good = record { kind = tt; near = λ is far. far; far = λ is. tt }
rename_told name to (Err (stuck.Refused other)) good = absurd good

truncate_told : (name : List ℕ) (size : ℕ) (result : Result ℕ Stuck) → EndsSo (λ (stamp : ℕ). size ≤ MAX_SIZE) (MayRefuseTruncate size) result → ShowsReason (say.Trunc name size) (truncate_outcome result)
truncate_told name size (Ok stamp) good = λ far. omega (arith, good, far)
truncate_told name size (Err stuck.Fault) good = tt
truncate_told name size (Err (stuck.Damaged folder file place)) good = tt
truncate_told name size (Err (stuck.Refused refusal.NoRoom)) good = record { kind = tt; near = λ is. absurd (let clash : why_is.NoFile ≡ why_is.StampsSpent = is in cc); far = λ is. absurd (let clash : why_is.NoFile ≡ why_is.TooFar = is in cc) }
truncate_told name size (Err (stuck.Refused refusal.Held)) good = record { kind = tt; near = λ is. absurd (let clash : why_is.Held ≡ why_is.StampsSpent = is in cc); far = λ is. absurd (let clash : why_is.Held ≡ why_is.TooFar = is in cc) }
truncate_told name size (Err (stuck.Refused (refusal.Busy host id))) good = record { kind = tt; near = λ is. absurd (let clash : why_is.Busy host id ≡ why_is.StampsSpent = is in cc); far = λ is. absurd (let clash : why_is.Busy host id ≡ why_is.TooFar = is in cc) }
truncate_told name size (Err (stuck.Refused refusal.IdsSpent)) good = record { kind = tt; near = λ is. absurd (let clash : why_is.IdsSpent ≡ why_is.StampsSpent = is in cc); far = λ is. absurd (let clash : why_is.IdsSpent ≡ why_is.TooFar = is in cc) }
truncate_told name size (Err (stuck.Refused refusal.TooFar)) good = record { kind = tt; near = λ is. absurd (let clash : why_is.TooFar ≡ why_is.StampsSpent = is in cc); far = λ is. good }
truncate_told name size (Err (stuck.Refused refusal.StampsSpent)) good = record { kind = tt; near = λ is far. omega (arith, good, far); far = λ is. absurd (let clash : why_is.StampsSpent ≡ why_is.TooFar = is in cc) }
truncate_told name size (Err (stuck.Refused other)) good = absurd good

open_told : (name : List ℕ) (result : Result WriterHandle Stuck) → EndsSo (λ (handle : WriterHandle). Unit {0}) MayRefuseOpen result → ShowsReason (say.Open name) (open_outcome result)
open_told name (Ok handle) good = tt
open_told name (Err stuck.Fault) good = tt
open_told name (Err (stuck.Damaged folder file place)) good = tt
open_told name (Err (stuck.Refused refusal.Held)) good = record { kind = tt; near = λ is far. far; far = λ is. tt }
open_told name (Err (stuck.Refused refusal.IdsSpent)) good = record { kind = tt; near = λ is far. far; far = λ is. tt }
open_told name (Err (stuck.Refused other)) good = absurd good

recover_told : (name : List ℕ) (result : Result Recovered Stuck) → EndsSo (λ (r : Recovered). Unit {0}) MayRefuseRecovery result → ShowsReason (say.Recover name) (recover_outcome result)
recover_told name (Ok r) good = tt
recover_told name (Err stuck.Fault) good = tt
recover_told name (Err (stuck.Damaged folder file place)) good = tt
recover_told name (Err (stuck.Refused refusal.NoRoom)) good = record { kind = tt; near = λ is far. far; far = λ is. tt }
recover_told name (Err (stuck.Refused refusal.Held)) good = record { kind = tt; near = λ is far. far; far = λ is. tt }
recover_told name (Err (stuck.Refused other)) good = absurd good

stat_told : (name : List ℕ) (o : Outcome) → IsUnrefused o → ShowsReason (say.Stat name) o
stat_told name (line.Refused why) fine = absurd fine
stat_told name (line.Wrote at len (Some stamp)) fine = λ far. far
stat_told name (line.Truncated stamp) fine = λ far. far
stat_told name o fine = tt

flatten_told : (name : List ℕ) (result : Result WasFlattened Stuck) → FlattenedSo result → ShowsReason (say.Flatten name) (flatten_outcome result)
flatten_told name (Ok f) good = tt
flatten_told name (Err stuck.Fault) good = tt
flatten_told name (Err (stuck.Damaged folder file place)) good = tt
flatten_told name (Err (stuck.Refused refusal.NoRoom)) good = record { kind = tt; near = λ is far. far; far = λ is. tt }
flatten_told name (Err (stuck.Refused refusal.IdsSpent)) good = record { kind = tt; near = λ is far. far; far = λ is. tt }
flatten_told name (Err (stuck.Refused other)) good = absurd good

-- ---- all names

names_goes : (n : ℕ) → Goes n (EndsSo (λ (names : List (List ℕ)). Unit {0}) never_refused) anything names_program
names_goes n = λ m next rep s so. (anything, tt, by rep (s.reason))
  where
    by : (rep : Reply) → ((why : Refusal) → rep ≡ reply.Refused why → ⊥) → EndsSo (λ (names : List (List ℕ)). Unit {0}) never_refused (names_told rep)
    by (reply.Rooms names) never = tt
    by rep never = failure_so never_refused rep never

list_told : (result : Result (List (List ℕ)) Stuck) → EndsSo (λ (names : List (List ℕ)). Unit {0}) never_refused result → ShowsReason say.Ls (list_outcome result)
list_told (Ok names) good = tt
list_told (Err stuck.Fault) good = tt
list_told (Err (stuck.Damaged folder file place)) good = tt
list_told (Err (stuck.Refused why)) good = absurd good

-- ---- statements

-- those of a writer, and those on whole files but for what opens a reader
abbrev pub IsShownHere : Statement → Type 0
IsShownHere (say.Open name) = ⊤
IsShownHere (say.Write at content) = ⊤
IsShownHere say.Sync = ⊤
IsShownHere say.Close = ⊤
IsShownHere (say.Stat name) = ⊤
IsShownHere (say.Flatten name) = ⊤
IsShownHere (say.Recover name) = ⊤
IsShownHere (say.Trunc name size) = ⊤
IsShownHere (say.Rename name to) = ⊤
IsShownHere say.Ls = ⊤
IsShownHere (say.Stop call bytes) = ⊤
IsShownHere other = ⊥

module _ (n : ℕ) (left : Kept) (stop : Option Stop) (m : Moment) (mine : List Event) (spent : List (List Event)) (e : Ending) (sound : IsSoundAt m) (lawful : IsLawful m.state mine) where
  -- it ends at once
  at_end : (s : Statement) (end : Ending) (rest : List Event) (others : List (List Event)) → ShowsReason s end.outcome → ComesTo n (finishes end) rest others e → ShowsReason s e.outcome
  at_end s end rest others shows comes = subst (λ (x : Ending). ShowsReason s x.outcome) comes.2 shows

  write_shows : (at : ℕ) (content : Data) (writer : Option WriterHandle) → ComesTo n (writes left stop at (bytes_of content) writer) mine spent e → ShowsReason (say.Write at content) e.outcome
  write_shows at content None comes = at_end (say.Write at content) (refused left why_is.NotOpen) mine spent (record { kind = tt; near = λ is. absurd (let clash : why_is.NotOpen ≡ why_is.StampsSpent = is in cc); far = λ is. tt }) comes
  write_shows at content (Some handle) comes = elim handle.closing as (λ b. ComesTo n (if b then finishes (refused left why_is.NotOpen) else writes_bytes left stop at (bytes_of content) handle) mine spent e → ShowsReason (say.Write at content) e.outcome) [
    | true ↦ λ c. at_end (say.Write at content) (refused left why_is.NotOpen) mine spent (record { kind = tt; near = λ is. absurd (let clash : why_is.NotOpen ≡ why_is.StampsSpent = is in cc); far = λ is. tt }) c
    | false ↦ λ c. some_bytes c
  ] comes
    where
      some_bytes : ComesTo n (writes_bytes left stop at (bytes_of content) handle) mine spent e → ShowsReason (say.Write at content) e.outcome
      some_bytes c = elim (nat_eq (length (bytes_of content)) 0) as (λ b. ComesTo n (if b then finishes (wrote_nothing left at) else carried (write_program handle at (bytes_of content)) stop (λ later out. finishes (wrote left at (length (bytes_of content)) out)) (finishes (stopped left))) mine spent e → ShowsReason (say.Write at content) e.outcome) [
        | true ↦ λ on. at_end (say.Write at content) (wrote_nothing left at) mine spent tt on
        | false ↦ λ on. carried_goes n (WroteSo n (at + length (bytes_of content))) (ShowsReason (say.Write at content) e.outcome) e (λ later out. finishes (wrote left at (length (bytes_of content)) out)) (finishes (stopped left))
            (λ later out there rest others good so goes ended. at_end (say.Write at content) (wrote left at (length (bytes_of content)) out) rest others (write_told at content out.result good) ended) (λ rest others ended. at_end (say.Write at content) (stopped left) rest others tt ended)
            (write_program handle at (bytes_of content)) stop anything m mine spent (write_goes n at (bytes_of content) handle) sound tt lawful on
      ] c

  sync_shows : (writer : Option WriterHandle) → ComesTo n (syncs left stop writer) mine spent e → ShowsReason say.Sync e.outcome
  sync_shows None comes = at_end say.Sync (refused left why_is.NotOpen) mine spent (record { kind = tt; near = λ is far. far; far = λ is. tt }) comes
  sync_shows (Some handle) comes = elim handle.closing as (λ b. ComesTo n (if b then finishes (refused left why_is.NotOpen) else carried (sync_program handle) stop (λ later out. finishes (synced left out)) (finishes (stopped left))) mine spent e → ShowsReason say.Sync e.outcome) [
    | true ↦ λ c. at_end say.Sync (refused left why_is.NotOpen) mine spent (record { kind = tt; near = λ is far. far; far = λ is. tt }) c
    | false ↦ λ c. carried_goes n (SyncedSo n) (ShowsReason say.Sync e.outcome) e (λ later out. finishes (synced left out)) (finishes (stopped left))
        (λ later out there rest others good so goes ended. at_end say.Sync (synced left out) rest others (sync_told out.result good) ended) (λ rest others ended. at_end say.Sync (stopped left) rest others tt ended)
        (sync_program handle) stop anything m mine spent (sync_goes n handle) sound tt lawful c
  ] comes

  close_shows : (writer : Option WriterHandle) → ComesTo n (closes left stop writer) mine spent e → ShowsReason say.Close e.outcome
  close_shows None comes = at_end say.Close (refused left why_is.NotOpen) mine spent (record { kind = tt; near = λ is far. far; far = λ is. tt }) comes
  close_shows (Some handle) comes = carried_goes n (SyncedSo n) (ShowsReason say.Close e.outcome) e (λ later out. finishes (closed left out)) (finishes (stopped left))
      (λ later out there rest others good so goes ended. at_end say.Close (closed left out) rest others (close_told out.result good) ended) (λ rest others ended. at_end say.Close (stopped left) rest others tt ended)
      (close_program handle) stop anything m mine spent (close_goes n handle) sound tt lawful comes

  truncate_shows : (name : List ℕ) (size : ℕ) → ComesTo n (does left stop (say.Trunc name size)) mine spent e → ShowsReason (say.Trunc name size) e.outcome
  truncate_shows name size comes = carried_goes n (Truncated n size) (ShowsReason (say.Trunc name size) e.outcome) e (λ later result. finishes (truncated left result)) (finishes (stopped left))
      (λ later result there rest others good so goes ended. at_end (say.Trunc name size) (truncated left result) rest others (truncate_told name size result good) ended) (λ rest others ended. at_end (say.Trunc name size) (stopped left) rest others tt ended)
      (truncate_program name size) stop anything m mine spent (truncate_goes n size name) sound tt lawful comes

  rename_shows : (name to : List ℕ) → ComesTo n (does left stop (say.Rename name to)) mine spent e → ShowsReason (say.Rename name to) e.outcome
  rename_shows name to comes = carried_goes n (Renamed n) (ShowsReason (say.Rename name to) e.outcome) e (λ later result. finishes (renamed left result)) (finishes (stopped left))
      (λ later result there rest others good so goes ended. at_end (say.Rename name to) (renamed left result) rest others (rename_told name to result good) ended) (λ rest others ended. at_end (say.Rename name to) (stopped left) rest others tt ended)
      (rename_program name to) stop anything m mine spent (rename_goes n name to) sound tt lawful comes

  list_shows : ComesTo n (does left stop say.Ls) mine spent e → ShowsReason say.Ls e.outcome
  list_shows comes = carried_goes n (EndsSo (λ (names : List (List ℕ)). Unit {0}) never_refused) (ShowsReason say.Ls e.outcome) e (λ later result. finishes (names_listed left result)) (finishes (stopped left))
      (λ later result there rest others good so goes ended. at_end say.Ls (names_listed left result) rest others (list_told result good) ended) (λ rest others ended. at_end say.Ls (stopped left) rest others tt ended)
      names_program stop anything m mine spent (names_goes n) sound tt lawful comes

  open_shows : (name : List ℕ) (writer : Option WriterHandle) → ComesTo n (opens left stop name writer) mine spent e → ShowsReason (say.Open name) e.outcome
  open_shows name (Some handle) comes = at_end (say.Open name) (refused left why_is.AlreadyOpen) mine spent (record { kind = tt; near = λ is far. far; far = λ is. tt }) comes
  open_shows name None comes = carried_goes n OpenedSo (ShowsReason (say.Open name) e.outcome) e (λ later result. finishes (opened left result)) (finishes (stopped left))
      (λ later result there rest others good so goes ended. at_end (say.Open name) (opened left result) rest others (open_told name result good) ended) (λ rest others ended. at_end (say.Open name) (stopped left) rest others tt ended)
      (open_program name left.host left.cap) stop anything m mine spent (open_goes n name left.host left.cap) sound tt lawful comes

  recover_shows : (name : List ℕ) → ComesTo n (does left stop (say.Recover name)) mine spent e → ShowsReason (say.Recover name) e.outcome
  recover_shows name comes = carried_goes n RecoveredSo (ShowsReason (say.Recover name) e.outcome) e (λ later result. finishes (recovered left result)) (finishes (stopped left))
      (λ later result there rest others good so goes ended. at_end (say.Recover name) (recovered left result) rest others (recover_told name result good) ended) (λ rest others ended. at_end (say.Recover name) (stopped left) rest others tt ended)
      (recover_program name) stop anything m mine spent (recover_goes n name) sound tt lawful comes

  stat_shows : (name : List ℕ) → ComesTo n (does left stop (say.Stat name)) mine spent e → ShowsReason (say.Stat name) e.outcome
  stat_shows name comes = elim (stat_came n left name spent e stop m mine sound lawful comes) as (λ _. ShowsReason (say.Stat name) e.outcome) [
    | inl fine ↦ stat_told name e.outcome fine
    | inr came ↦ subst (ShowsReason (say.Stat name)) (sym came.1) (record { kind = tt; near = λ is far. far; far = λ is. tt })
  ]

  flatten_shows : (name : List ℕ) → ComesTo n (does left stop (say.Flatten name)) mine spent e → ShowsReason (say.Flatten name) e.outcome
  flatten_shows name comes = carried_goes n FlattenedSo (ShowsReason (say.Flatten name) e.outcome) e (λ later result. finishes (flattened left result)) (finishes (stopped left))
      (λ later result there rest others good so goes ended. at_end (say.Flatten name) (flattened left result) rest others (flatten_told name result good) ended) (λ rest others ended. at_end (say.Flatten name) (stopped left) rest others tt ended)
      (flatten_program name) stop anything m mine spent (flatten_goes n name) sound tt lawful comes

  pub does_show : (s : Statement) → IsShownHere s → ComesTo n (does left stop s) mine spent e → ShowsReason s e.outcome
  does_show (say.Open name) here comes = open_shows name left.writer comes
  does_show (say.Flatten name) here comes = flatten_shows name comes
  does_show (say.Stat name) here comes = stat_shows name comes
  does_show (say.Recover name) here comes = recover_shows name comes
  does_show (say.Write at content) here comes = write_shows at content left.writer comes
  does_show say.Sync here comes = sync_shows left.writer comes
  does_show say.Close here comes = close_shows left.writer comes
  does_show (say.Trunc name size) here comes = truncate_shows name size comes
  does_show (say.Rename name to) here comes = rename_shows name to comes
  does_show say.Ls here comes = list_shows comes
  does_show (say.Stop call bytes) here comes = subst (λ (x : Ending). ShowsReason (say.Stop call bytes) x.outcome) comes.2 tt
  does_show s here comes = absurd here
