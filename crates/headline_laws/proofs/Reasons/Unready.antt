-- What is refused as not open: its actor has no writer or reader that it uses, by the lines, or a writer that may be closed.
use Rattle.std.proofs.Common.{◌≡◌, inl, inr, ℕ, Bool, true, false, nat_eq, List, [], length, Option, Some, None, Result, Ok, Err, refl, sym, ap, ◌∙◌, subst, if◌then◌else◌}
use Rattle.std.specs.Prelude.{⊤, is_some}
use Rattle.store_api.specs.Acts.{Stored}
use Rattle.mount_model.specs.declared.reply.Refusal.TheVariants as refusal
use Rattle.mount_model.specs.declared.row.Row.{Row}
use Rattle.mount_model.specs.declared.row.Stage.TheVariants as stage
use Rattle.mount_model.specs.declared.stuck.Stuck.{Stuck}
use Rattle.mount_model.specs.declared.stuck.Stuck.TheVariants as stuck
use Rattle.mount_model.specs.History.{Event}
use Rattle.mount_model.specs.Mounting.{IsMounted}
use Rattle.mount_model.specs.State.{State}
use Rattle.mount_model.specs.Table.{row_of}
use Rattle.mount_sound.specs.Owed.{IsLawful}
use Rattle.mount_sound.specs.Sound.{IsSoundTree}
use Rattle.reader_laws.specs.Moments.{Dropping, IsSoundAt, Moment, moment_after}
use Rattle.script_lang.specs.Ranges.{FitsScript}
use Rattle.script_lang.specs.declared.line.Outcome.{Outcome}
use Rattle.script_lang.specs.declared.line.Outcome.TheVariants as line
use Rattle.script_lang.specs.declared.line.Why.TheVariants.{NotOpen}
use Rattle.script_lang.specs.declared.script.Statement.{Statement}
use Rattle.script_lang.specs.declared.script.Statement.TheVariants as say
use Rattle.writer_flow.specs.declared.handle.WriterHandle.{WriterHandle}
use Rattle.writer_flow.specs.Closing.{close_from}
use Rattle.writer_flow.specs.Syncing.{sync_program}
use Rattle.writer_flow.specs.Writing.{write_program}
use Rattle.writer_laws.specs.Knowing.{HasRow}
use Rattle.outcomes.specs.Data.{bytes_of}
use Rattle.outcomes.specs.Outcomes.{close_outcome, sync_outcome, write_outcome}
use Rattle.actor_core.specs.declared.kept.Kept.{Kept}
use Rattle.actor_core.specs.declared.kept.Stop.{Stop}
use Rattle.actor_core.specs.Endings.{Ending, closed, refused, stopped, synced, wrote, wrote_nothing}
use Rattle.actor_core.specs.Stopping.{carried}
use Rattle.actor_core.specs.Work.{finishes}
use Rattle.actor_core.specs.Writers.{closes, syncs, writes, writes_bytes}
use Rattle.run_core.specs.Play.{IsRight}
use Rattle.headline_laws.proofs.Plays.Facts.{ComesTo, Next}
use Rattle.headline.specs.Run.{Run, Says, Told}
use Rattle.headline.specs.Changes.{Writing, none, unsure, writer, writing_at}
use Rattle.headline.specs.Names.{name_of}
use Rattle.headline.specs.Files.{reader_at}
use Rattle.headline.specs.Causes.{MayBeReady, MayHave}
use Rattle.headline.specs.Reasons.{IsReasonOf}
use Rattle.headline.specs.Refusals.{UsesReader}
use Rattle.headline_laws.proofs.Statements.SureLines.{SureAt, SureLine, sure_line}
use Rattle.headline_laws.proofs.Contents.OpenedWriter.{First, Whole, sound_first}
use Rattle.headline_laws.proofs.Landed.Bounded.{Keeps, at_statement}
use Rattle.headline_laws.proofs.Landed.Machines.{IsOpenSo}
use Rattle.headline_laws.proofs.Reasons.Along.{carried_goes}
use Rattle.headline_laws.proofs.Reasons.Goes.{EndsSo, rowed}
use Rattle.headline_laws.proofs.Reasons.Looks.{never_refused}
use Rattle.headline_laws.proofs.Reasons.OpenWriters.{IsOfPlace, RefusedByPlace, Unrefused, open_close_goes, open_sync_goes, open_write_goes}
use Rattle.headline_laws.proofs.Reasons.Told.{reasons_told}
use Rattle.headline_laws.proofs.Statements.Did.{Did, IsOpen}
use Rattle.headline_laws.proofs.Statements.Does.{Ended, did, was_gone}
use Rattle.headline_laws.proofs.Statements.LivingLines.{not_out}
use Rattle.headline_laws.proofs.Story.Refused.{refusals_told}

-- ---- what outcomes say

-- it isn't refused as not open
abbrev pub IsReady : Outcome → Type 0
IsReady (line.Refused NotOpen) = ⊥
IsReady o = ⊤

sync_ready : (result : Result ℕ Stuck) → EndsSo (λ (count : ℕ). Unit {0}) never_refused result → IsReady (sync_outcome result)
sync_ready (Ok count) good = tt
sync_ready (Err stuck.Fault) good = tt
sync_ready (Err (stuck.Damaged folder file place)) good = tt
sync_ready (Err (stuck.Refused why)) good = absurd good

close_ready : (result : Result ℕ Stuck) → EndsSo (λ (count : ℕ). Unit {0}) never_refused result → IsReady (close_outcome result)
close_ready (Ok count) good = tt
close_ready (Err stuck.Fault) good = tt
close_ready (Err (stuck.Damaged folder file place)) good = tt
close_ready (Err (stuck.Refused why)) good = absurd good

write_ready : (at len : ℕ) (result : Result ℕ Stuck) → EndsSo (λ (stamp : ℕ). Unit {0}) IsOfPlace result → IsReady (write_outcome at len result)
write_ready at len (Ok stamp) good = tt
write_ready at len (Err stuck.Fault) good = tt
write_ready at len (Err (stuck.Damaged folder file place)) good = tt
write_ready at len (Err (stuck.Refused refusal.TooFar)) good = tt
write_ready at len (Err (stuck.Refused refusal.StampsSpent)) good = tt
write_ready at len (Err (stuck.Refused other)) good = absurd good

one_row : (a b : Row) (o : Option Row) → o ≡ Some a → o ≡ Some b → a ≡ b
one_row a b o p q = cc

clashes : (b : Bool) → b ≡ true → b ≡ false → ⊥
clashes b on off = cc

-- ---- a statement of a writer that is open

module _ (n : ℕ) (left : Kept) (stop : Option Stop) (handle : WriterHandle) (fresh : handle.closing ≡ false) (m : Moment) (row : Row) (has : HasRow n handle.writer row m.state) (open_is : row.stage ≡ stage.Open) (pending : handle.pending ≡ length row.pending.entries) (sound : IsSoundAt m)
    (mine : List Event) (lawful : IsLawful m.state mine) (spent : List (List Event)) (e : Ending) where
  at_end : (end : Ending) (rest : List Event) (others : List (List Event)) → IsReady end.outcome → ComesTo n (finishes end) rest others e → IsReady e.outcome
  at_end end rest others ready comes = subst (λ (x : Ending). IsReady x.outcome) comes.2 ready

  sync_comes : ComesTo n (syncs left stop (Some handle)) mine spent e → IsReady e.outcome
  sync_comes comes = carried_goes n (Unrefused n) (IsReady e.outcome) e (λ later out. finishes (synced left out)) (finishes (stopped left))
      (λ later out there rest others good so goes ended. at_end (synced left out) rest others (sync_ready out.result good) ended) (λ rest others ended. at_end (stopped left) rest others tt ended)
      (sync_program handle) stop (rowed handle.writer row) m mine spent (open_sync_goes n handle row open_is pending) sound has lawful
      (subst (λ b. ComesTo n (if b then finishes (refused left NotOpen) else carried (sync_program handle) stop (λ later out. finishes (synced left out)) (finishes (stopped left))) mine spent e) fresh comes)

  close_comes : ComesTo n (closes left stop (Some handle)) mine spent e → IsReady e.outcome
  close_comes comes = carried_goes n (Unrefused n) (IsReady e.outcome) e (λ later out. finishes (closed left out)) (finishes (stopped left))
      (λ later out there rest others good so goes ended. at_end (closed left out) rest others (close_ready out.result good) ended) (λ rest others ended. at_end (stopped left) rest others tt ended)
      (close_from false handle) stop (rowed handle.writer row) m mine spent (open_close_goes n handle row open_is pending) sound has lawful
      (subst (λ b. ComesTo n (carried (close_from b handle) stop (λ later out. finishes (closed left out)) (finishes (stopped left))) mine spent e) fresh comes)

  writes_comes : (at : ℕ) (bytes : List ℕ) → row.pending.capacity ≡ handle.cap → ComesTo n (writes left stop at bytes (Some handle)) mine spent e → IsReady e.outcome
  writes_comes at bytes capacity comes = by (subst (λ b. ComesTo n (if b then finishes (refused left NotOpen) else writes_bytes left stop at bytes handle) mine spent e) fresh comes)
    where
      by : ComesTo n (writes_bytes left stop at bytes handle) mine spent e → IsReady e.outcome
      by c = elim (nat_eq (length bytes) 0) as (λ b. ComesTo n (if b then finishes (wrote_nothing left at) else carried (write_program handle at bytes) stop (λ later out. finishes (wrote left at (length bytes) out)) (finishes (stopped left))) mine spent e → IsReady e.outcome) [
        | true ↦ λ on. at_end (wrote_nothing left at) mine spent tt on
        | false ↦ λ on. carried_goes n (RefusedByPlace n) (IsReady e.outcome) e (λ later out. finishes (wrote left at (length bytes) out)) (finishes (stopped left))
            (λ later out there rest others good so goes ended. at_end (wrote left at (length bytes) out) rest others (write_ready at (length bytes) out.result good) ended) (λ rest others ended. at_end (stopped left) rest others tt ended)
            (write_program handle at bytes) stop (rowed handle.writer row) m mine spent (open_write_goes n handle row at bytes open_is pending capacity) sound has lawful on
      ] c

-- ---- a line

-- it is of the writer that its actor has
abbrev pub IsOfWriter : Statement → Type 0
IsOfWriter (say.Write at content) = ⊤
IsOfWriter say.Sync = ⊤
IsOfWriter say.Close = ⊤
IsOfWriter s = ⊥

module _ (m : Moment) (sound : IsSoundAt m) (n : ℕ) (history : List Event) (blocks : List (List Event)) (whole : Next m [] history) (cap : ℕ) (d : Dropping) (t : Told) (x : SureAt m sound n history blocks whole cap d t) where
  abbrev now : Moment
  now = moment_after m x.p.earlier

  module _ (i : IsOpenSo n d cap now x.kept x.acc) (dd : Did x.kept.armed false None x.kept.writer x.kept.reader t.statement x.p.e) where
    fresh : i.handle.closing ≡ false
    fresh = subst IsOpen (i.keeps x.alive) x.fresh

    open_is : i.row.stage ≡ stage.Open
    open_is = ap (λ (r : Row). r.stage) (one_row i.row x.open_now.row (row_of d.writer now.state.table.writers) i.at.has.there x.open_now.has.there) ∙ x.open_now.is_open

    capacity : i.row.pending.capacity ≡ i.handle.cap
    capacity = x.caps i.row i.at.has.there ∙ sym i.is.cap_is

    has_row : (mid : Moment) → HasRow n d.writer i.row mid.state → HasRow n i.handle.writer i.row mid.state
    has_row mid has = subst (λ w. HasRow n w i.row mid.state) (sym i.is.writer) has

    ready_here : (s : Statement) → t.statement ≡ s → IsOfWriter s → IsReady x.p.e.outcome
    ready_here (say.Write at content) is of =
        let a = at_statement m sound n history blocks whole cap d x.kept x.file x.writer t x.p x.says x.shown x.acc i x.alive dd (say.Write at content) is in
        writes_comes n a.left a.armed i.handle fresh a.mid i.row (has_row a.mid a.at.has) open_is i.is.pending_is a.at.sound a.rest a.lawful x.p.spent x.p.e at (bytes_of content) capacity
        (subst (λ w. ComesTo n (writes a.left a.armed at (bytes_of content) w) a.rest x.p.spent x.p.e) a.has a.comes)
    ready_here say.Sync is of =
        let a = at_statement m sound n history blocks whole cap d x.kept x.file x.writer t x.p x.says x.shown x.acc i x.alive dd say.Sync is in
        sync_comes n a.left a.armed i.handle fresh a.mid i.row (has_row a.mid a.at.has) open_is i.is.pending_is a.at.sound a.rest a.lawful x.p.spent x.p.e
        (subst (λ w. ComesTo n (syncs a.left a.armed w) a.rest x.p.spent x.p.e) a.has a.comes)
    ready_here say.Close is of =
        let a = at_statement m sound n history blocks whole cap d x.kept x.file x.writer t x.p x.says x.shown x.acc i x.alive dd say.Close is in
        close_comes n a.left a.armed i.handle fresh a.mid i.row (has_row a.mid a.at.has) open_is i.is.pending_is a.at.sound a.rest a.lawful x.p.spent x.p.e
        (subst (λ w. ComesTo n (closes a.left a.armed w) a.rest x.p.spent x.p.e) a.has a.comes)
    ready_here s is of = absurd of

  pub line_ready : IsOfWriter t.statement → IsReady x.p.e.outcome
  line_ready of = by x.p.ended x.keeps
    where
      by : Ended x.kept t.statement x.p.e → Keeps m sound n history blocks whole cap d x.p.earlier x.kept x.acc → IsReady x.p.e.outcome
      by (was_gone is out after) keeps = absurd (clashes x.kept.gone is x.alive)
      by (did lives dd) (inl i) = ready_here i dd t.statement refl of
      by (did lives dd) (inr out) = absurd (not_out m sound n history blocks whole cap d x.p.earlier x.kept x.acc x.open_now out)

-- ---- the law

surely_not : (w : Writing) → ((id : ℕ) → w ≡ writer id → ⊥) → MayHave false w
surely_not none not = tt
surely_not (unsure id) not = tt
surely_not (writer id) not = not id refl

module _ (run : Run) (times : Option (List ℕ)) (mount : Stored) (start end : State) (fits : FitsScript run.script) (mounted : IsMounted 0 times mount start) (tells : mount.tree ≡ Some run.before) (sound : IsSoundTree run.before)
    (right : IsRight run.script start run.lines end) (left : end.store.tree ≡ Some run.after) where
  writer_unready : (t : Told) → Says run t (line.Refused NotOpen) → IsOfWriter t.statement → MayHave false (writing_at run t)
  writer_unready t says of = surely_not (writing_at run t) (λ id sure. by id sure (sure_line run times mount start end fits mounted tells sound right left t id says.is_line sure lives))
    where
      lives : t.outcome ≡ line.Gone → ⊥
      lives is = (let clash : line.Refused NotOpen ≡ line.Gone = sym says.says ∙ is in cc)

      by : (id : ℕ) → writing_at run t ≡ writer id → SureLine run times mount start end fits mounted tells sound right left t id → ⊥
      by id sure l = subst IsReady (sym l.at.says ∙ says.says)
          (line_ready (First run times mount start end fits mounted tells sound right left) (sound_first run times mount start end fits mounted tells sound right left) l.c.parts.number right.history right.calls.blocks (Whole run times mount start end fits mounted tells sound right left) l.cap l.d t l.at of)

  -- the law of this file
  pub unready_told : (t : Told) → Says run t (line.Refused NotOpen) → (name_of t.statement ≡ None) × MayBeReady false run t t.statement
  unready_told t says = by t.statement refl (kinds t says)
    where
      m : Moment
      m = First run times mount start end fits mounted tells sound right left

      s_m : IsSoundAt m
      s_m = sound_first run times mount start end fits mounted tells sound right left

      kinds : (x : Told) → Says run x (line.Refused NotOpen) → IsReasonOf x.statement NotOpen
      kinds x refused_so = (reasons_told run m end fits s_m right).kinds x NotOpen refused_so

      of_writer : (s : Statement) → t.statement ≡ s → IsOfWriter s → MayHave false (writing_at run t)
      of_writer s is of = writer_unready t says (subst IsOfWriter (sym is) of)

      no_reader : (s : Statement) → t.statement ≡ s → UsesReader s → is_some (reader_at run t) ≡ false
      no_reader s is uses = ap is_some ((refusals_told run m end fits s_m right).uses t NotOpen says (subst UsesReader (sym is) uses)).1

      by : (s : Statement) → t.statement ≡ s → IsReasonOf t.statement NotOpen → (name_of t.statement ≡ None) × MayBeReady false run t t.statement
      by s is kind = subst (λ x. (name_of x ≡ None) × MayBeReady false run t x) (sym is) (of s is (subst (λ x. IsReasonOf x NotOpen) is kind))
        where
          of : (s : Statement) → t.statement ≡ s → IsReasonOf s NotOpen → (name_of s ≡ None) × MayBeReady false run t s
          of (say.Write at content) is kind = (refl, of_writer (say.Write at content) is tt)
          of say.Sync is kind = (refl, of_writer say.Sync is tt)
          of say.Close is kind = (refl, of_writer say.Close is tt)
          of (say.Read at len) is kind = (refl, no_reader (say.Read at len) is tt)
          of (say.Verify at content) is kind = (refl, no_reader (say.Verify at content) is tt)
          of say.Map is kind = (refl, no_reader say.Map is tt)
          of say.Refresh is kind = (refl, no_reader say.Refresh is tt)
          of say.Rclose is kind = (refl, no_reader say.Rclose is tt)
          of s is kind = absurd kind
