-- What a write is refused as too far: it ends past the greatest size, or its writer's log would be longer than any may be.
use Rattle.std.proofs.Common.{◌≡◌, ◌⊎◌, ◌<◌, inl, inr, ℕ, Bool, true, false, nat_eq, nat_le, nat_lt, ◌||◌, List, [], ◌∷◌, ◌++◌, length, Option, Some, None, Result, Ok, Err, refl, sym, ap, ◌∙◌, subst, arith, if◌then◌else◌}
use Rattle.std.specs.Prelude.{◌+◌}
use Rattle.std.proofs.lemmas.Bool.Decides.{nat_tests}
use Rattle.plfs_types.specs.declared.entries.Entry.{Entry}
use Rattle.plain_file.specs.File.{stored_bytes}
use Rattle.plfs_types.specs.declared.limits.TheConstants.{MAX_LOG, MAX_SIZE, MAX_STAMP}
use Rattle.store_api.specs.Acts.{Stored}
use Rattle.store_api.specs.declared.step.Answer.TheVariants.{Made}
use Rattle.mount_model.specs.declared.call.Call.TheVariants.{Flush, Write}
use Rattle.mount_model.specs.declared.reply.Refusal.{Refusal}
use Rattle.mount_model.specs.declared.reply.Refusal.TheVariants as refusal
use Rattle.mount_model.specs.declared.reply.Reply.{Reply}
use Rattle.mount_model.specs.declared.reply.Reply.TheVariants as reply
use Rattle.mount_model.specs.declared.row.Row.{Row}
use Rattle.mount_model.specs.declared.row.Stage.TheVariants as stage
use Rattle.mount_model.specs.declared.stuck.Stuck.{Stuck}
use Rattle.mount_model.specs.declared.stuck.Stuck.TheVariants as stuck
use Rattle.mount_model.specs.Flushing.{FlushesRow, flush_outcome, flushed}
use Rattle.mount_model.specs.History.{Event}
use Rattle.mount_model.specs.Making.{Told as ActTold}
use Rattle.mount_model.specs.Mounting.{IsMounted}
use Rattle.mount_model.specs.State.{State, Table, put}
use Rattle.mount_model.specs.Step.{Answers}
use Rattle.mount_model.specs.Table.{only, row_of}
use Rattle.mount_model.specs.Writing.{write_check}
use Rattle.mount_model.proofs.Facts.{is_held, on_writer, row_of-with_row}
use Rattle.mount_sound.specs.Owed.{IsLawful}
use Rattle.mount_sound.specs.Sound.{IsSoundTree}
use Rattle.writer_flow.specs.declared.handle.WriterHandle.{WriterHandle}
use Rattle.writer_flow.specs.declared.handle.WriterOut.{WriterOut}
use Rattle.writer_flow.specs.Handle.{flushed_of}
use Rattle.writer_flow.specs.Writing.{flush_then, if_flushed, if_wrote, write_program, writes}
use Rattle.writer_laws.specs.Knowing.{HasRow}
use Rattle.writer_laws.proofs.Own.{FlushedOwn, flush_own}
use Rattle.reader_laws.specs.Moments.{Dropping, IsSoundAt, Moment, moment_after}
use Rattle.reader_laws.proofs.Gathered.Facts.{legal_first, legal_rest}
use Rattle.script_lang.specs.Ranges.{FitsScript}
use Rattle.script_lang.specs.declared.line.Outcome.TheVariants as line
use Rattle.script_lang.specs.declared.line.Why.TheVariants as why_is
use Rattle.script_lang.specs.declared.script.Data.{Data}
use Rattle.script_lang.specs.declared.script.Statement.TheVariants as say
use Rattle.outcomes.specs.Data.{bytes_of, length_of}
use Rattle.outcomes.specs.Outcomes.{write_outcome}
use Rattle.actor_core.specs.declared.kept.Kept.{Kept}
use Rattle.actor_core.specs.declared.kept.Stop.{Stop}
use Rattle.actor_core.specs.Endings.{Ending, refused, stopped, wrote, wrote_nothing}
use Rattle.actor_core.specs.Statements.{disarmed, does}
use Rattle.actor_core.specs.Stopping.{carried}
use Rattle.actor_core.specs.Work.{finishes}
use Rattle.actor_core.specs.Writers.{writes as writes_statement, writes_bytes}
use Rattle.run_core.specs.Play.{IsRight}
use Rattle.headline_laws.specs.OneFile.{OneFile}
use Rattle.headline_laws.specs.OneWriter.{OneWriter}
use Rattle.headline_laws.specs.Opening.{Stretch}
use Rattle.headline_laws.specs.Writing.{ShowsWriting}
use Rattle.headline_laws.proofs.Plays.Facts.{ComesTo, Next, OfWriter, Writes, next_first}
use Rattle.headline_laws.proofs.Plays.Readers.ReadLines.{length-data}
use Rattle.headline.specs.Run.{Run, Says, Told, before}
use Rattle.headline.specs.Writers.{account}
use Rattle.headline.specs.Changes.{writer_at}
use Rattle.headline.specs.Causes.{EndsTooFar, FillsLog}
use Rattle.headline_laws.proofs.Contents.Accounts.{row_stored}
use Rattle.headline_laws.proofs.Contents.Amounts.{sums_same}
use Rattle.headline_laws.proofs.Contents.Issues.{IsRowIn}
use Rattle.headline_laws.proofs.Contents.OpenedWriter.{First, Whole, sound_first}
use Rattle.headline_laws.proofs.Landed.Between.{AtPlace}
use Rattle.headline_laws.proofs.Landed.Lasting.{lasts}
use Rattle.headline_laws.proofs.Landed.Machines.{alive_does, greets}
use Rattle.headline_laws.proofs.Reasons.Along.{carried_goes}
use Rattle.headline_laws.proofs.Reasons.Goes.{EndsSo, Goes, Stepped, anything, rowed}
use Rattle.headline_laws.proofs.Stamps.Wrote.{HasAccount, has_account}
use Rattle.headline_laws.proofs.Statements.Did.{IsThere}
use Rattle.headline_laws.proofs.Statements.Does.{Ended, did, was_gone}
use Rattle.headline_laws.proofs.Statements.Known.{HasEntered, entered_more}
use Rattle.headline_laws.proofs.Story.Entered.{entered_once}
use Rattle.headline_laws.proofs.Story.Lines.{chain_of, whole_history}
use Rattle.headline_laws.proofs.Story.Parts.{PartOf}
use Rattle.headline_laws.proofs.Story.Refused.{stands_here}
use Rattle.headline_laws.proofs.Story.Shown.{IsShown, here_next}

-- ---- a write of a writer that has this last stamp and this floor

-- it ends past the greatest size, or its log would
abbrev IsFar : ℕ → ℕ → ℕ → Type 0
IsFar stored at len = (MAX_SIZE < at + len) ⊎ (MAX_LOG < stored + len)

-- so it is where a refusal is so
abbrev FarIf : ℕ → ℕ → ℕ → Refusal → Type 0
FarIf stored at len refusal.TooFar = IsFar stored at len
FarIf stored at len other = Unit {0}

one_row : (a b : Row) (o : Option Row) → o ≡ Some a → o ≡ Some b → a ≡ b
one_row a b o p q = cc

less_so : (m n : ℕ) → nat_lt m n ≡ true → m < n
less_so m n is = grind (arith, nat_tests)

far_by : (stored at len : ℕ) (a b spent filled : Bool) (why : Refusal) → nat_lt MAX_SIZE (at + len) ≡ a → nat_lt MAX_LOG (stored + len) ≡ b → (if a || b then Some refusal.TooFar else if spent then Some refusal.StampsSpent else if filled then Some refusal.Full else None) ≡ Some why → FarIf stored at len why
far_by stored at len true b spent filled why x y is = (let same : refusal.TooFar ≡ why = cc in subst (FarIf stored at len) same (inl (less_so MAX_SIZE (at + len) x)))
far_by stored at len false true spent filled why x y is = (let same : refusal.TooFar ≡ why = cc in subst (FarIf stored at len) same (inr (less_so MAX_LOG (stored + len) y)))
far_by stored at len false false true filled why x y is = (let same : refusal.StampsSpent ≡ why = cc in subst (FarIf stored at len) same tt)
far_by stored at len false false false true why x y is = (let same : refusal.Full ≡ why = cc in subst (FarIf stored at len) same tt)
far_by stored at len false false false false why x y is = absurd (cc)

-- a flush leaves what was stored
flush_rows : (r : Row) (pending : List Entry) (old : State) (rep : Reply) (new : State) → FlushesRow r pending old rep new → (new.table ≡ old.table) ⊎ (new.table ≡ put (flushed r) old.table)
flush_rows r [] old rep new f = inl (ap (λ (s : State). s.table) f.1)
flush_rows r (first ∷ rest) old rep new f = by f.told (ap (λ (s : State). s.table) f.after)
  where
    by : (told : ActTold) → new.table ≡ (flush_outcome r old.table told).table → (new.table ≡ old.table) ⊎ (new.table ≡ put (flushed r) old.table)
    by (Ok Made) is = inr is
    by told is = inl is

flush_keeps : (n w : ℕ) (row after : Row) (old : State) (rep : Reply) (new : State) → HasRow n w row old → HasRow n w after new → Answers old n (Flush w) rep new → after.stored ≡ row.stored
flush_keeps n w row after old rep new has then_has a = on_writer n (only stage.Open) w old rep new (λ r. FlushesRow r r.pending.entries old rep new) Keeps a (λ e. same_table (ap (λ (s : State). s.table) e)) (λ r held f. by r held.found held.is (flush_rows r r.pending.entries old rep new f))
  where
    Keeps : Type 0
    Keeps = after.stored ≡ row.stored

    same_table : new.table ≡ old.table → Keeps
    same_table e =
        let one : after ≡ row = one_row after row (row_of w new.table.writers) then_has.there (ap (λ (t : Table). row_of w t.writers) e ∙ has.there) in
        ap (λ (r : Row). r.stored) one

    by : (r : Row) → row_of w old.table.writers ≡ Some r → r.id ≡ w → (new.table ≡ old.table) ⊎ (new.table ≡ put (flushed r) old.table) → Keeps
    by r found is (inl e) = same_table e
    by r found is (inr e) =
        let its : r ≡ row = one_row r row (row_of w old.table.writers) found has.there in
        let there : row_of w new.table.writers ≡ Some (flushed r) =
        ap (λ (t : Table). row_of w t.writers) e ∙ ap (λ k. row_of k (put (flushed r) old.table).writers) (sym is) ∙ row_of-with_row (flushed r) old.table.writers r (ap (λ k. row_of k old.table.writers) is ∙ found) in
        let one : after ≡ flushed r = one_row after (flushed r) (row_of w new.table.writers) then_has.there there in
        ap (λ (x : Row). x.stored) one ∙ ap (λ (x : Row). x.stored) its

module _ (n stored at len : ℕ) where
  -- it ends in no refusal as too far where it is not so
  abbrev WroteSo : WriterOut → Type 0
  WroteSo out = EndsSo (λ (stamp : ℕ). Unit {0}) (FarIf stored at len) out.result

  wrote_told : (handle : WriterHandle) (rep : Reply) → ((why : Refusal) → rep ≡ reply.Refused why → FarIf stored at len why) → Goes n WroteSo anything (if_wrote handle rep)
  wrote_told handle (reply.Wrote stamp) each = tt
  wrote_told handle (reply.Refused why) each = each why refl
  wrote_told handle (reply.Damaged folder file) each = tt
  wrote_told handle rep each = tt

  writes_go : (handle : WriterHandle) (row : Row) (block : List ℕ) → length block ≡ len → row.stored ≡ stored → Goes n WroteSo (rowed handle.writer row) (writes handle at block)
  writes_go handle row block is_long is_stored = λ m next rep s has. (anything, tt, wrote_told handle rep (λ why is. spent m rep next s has why is))
    where
      by_check : (r : Row) (why : Refusal) → r ≡ row → write_check r at (length block) ≡ Some why → FarIf stored at len why
      by_check r why same check =
          let found : FarIf r.stored at (length block) why = far_by r.stored at (length block) (nat_lt MAX_SIZE (at + length block)) (nat_lt MAX_LOG (r.stored + length block)) (nat_le MAX_STAMP r.last || nat_le MAX_STAMP r.floor) (nat_le r.pending.capacity (length r.pending.entries)) why refl refl check in
          subst (λ k. FarIf stored at k why) is_long (subst (λ k. FarIf k at (length block) why) (ap (λ (x : Row). x.stored) same ∙ is_stored) found)

      spent : (m : Moment) (rep : Reply) (next : Moment) → Stepped n m (Write handle.writer at block) rep next → HasRow n handle.writer row m.state → (why : Refusal) → rep ≡ reply.Refused why → FarIf stored at len why
      spent m rep next s has why is = elim (s.reason why is) as (λ _. FarIf stored at len why) [
        | inl lacks ↦ subst (FarIf stored at len) (sym lacks.0) tt
        | inr found ↦ by_check found.0 why (one_row found.0 row (row_of handle.writer m.state.table.writers) (is_held n (only stage.Open) handle.writer m.state.table.writers found.0 found.1).found has.there) found.2
      ]

  flushed_told : (handle : WriterHandle) (row : Row) (block : List ℕ) (rep : Reply) → length block ≡ len → row.stored ≡ stored → ((why : Refusal) → rep ≡ reply.Refused why → FarIf stored at len why) → Goes n WroteSo (rowed handle.writer row) (if_flushed handle (writes (flushed_of handle) at block) rep)
  flushed_told handle row block (reply.Flushed count) is_long is_stored each = writes_go (flushed_of handle) row block is_long is_stored
  flushed_told handle row block (reply.Refused why) is_long is_stored each = each why refl
  flushed_told handle row block (reply.Damaged folder file) is_long is_stored each = tt
  flushed_told handle row block rep is_long is_stored each = tt

  write_goes : (handle : WriterHandle) (row : Row) (block : List ℕ) → length block ≡ len → row.stored ≡ stored → Goes n WroteSo (rowed handle.writer row) (write_program handle at block)
  write_goes handle row block is_long is_stored = elim (nat_le handle.cap handle.pending) as (λ b. Goes n WroteSo (rowed handle.writer row) (if b then flush_then handle (writes (flushed_of handle) at block) else writes handle at block)) [
    | true ↦ λ m next rep s has.
        let k : FlushedOwn n handle.writer row rep next.state = flush_own n handle.writer row m.state rep next.state has s.answers in
        let same = flush_keeps n handle.writer row k.after m.state rep next.state has k.has s.answers in
        (rowed handle.writer k.after, k.has, flushed_told handle k.after block rep is_long (same ∙ is_stored) (λ why is. subst (FarIf stored at len) (sym (s.reason why is).0) tt))
    | false ↦ writes_go handle row block is_long is_stored
  ]

  far_told : (result : Result ℕ Stuck) → EndsSo (λ (stamp : ℕ). Unit {0}) (FarIf stored at len) result → write_outcome at len result ≡ line.Refused why_is.TooFar → IsFar stored at len
  far_told (Ok stamp) good is = absurd (cc)
  far_told (Err stuck.Fault) good is = absurd (cc)
  far_told (Err (stuck.Damaged folder file place)) good is = absurd (cc)
  far_told (Err (stuck.Refused refusal.TooFar)) good is = good
  far_told (Err (stuck.Refused other)) good is = absurd (cc)

  -- ---- the statement

  module _ (left : Kept) (stop : Option Stop) (handle : WriterHandle) (m : Moment) (row : Row) (has : HasRow n handle.writer row m.state) (is_stored : row.stored ≡ stored) (sound : IsSoundAt m)
      (mine : List Event) (lawful : IsLawful m.state mine) (spent : List (List Event)) (e : Ending) (says : e.outcome ≡ line.Refused why_is.TooFar) where
    not_so : (end : Ending) (rest : List Event) (others : List (List Event)) → (end.outcome ≡ line.Refused why_is.TooFar → ⊥) → ComesTo n (finishes end) rest others e → IsFar stored at len
    not_so end rest others not comes = absurd (not (ap (λ (x : Ending). x.outcome) comes.2 ∙ says))

    write_far : (bytes : List ℕ) → length bytes ≡ len → ComesTo n (writes_statement left stop at bytes (Some handle)) mine spent e → IsFar stored at len
    write_far bytes long comes = elim handle.closing as (λ b. ComesTo n (if b then finishes (refused left why_is.NotOpen) else writes_bytes left stop at bytes handle) mine spent e → IsFar stored at len) [
      | true ↦ λ c. not_so (refused left why_is.NotOpen) mine spent (λ is. cc) c
      | false ↦ λ c. some_bytes c
    ] comes
      where
        some_bytes : ComesTo n (writes_bytes left stop at bytes handle) mine spent e → IsFar stored at len
        some_bytes c = elim (nat_eq (length bytes) 0) as (λ b. ComesTo n (if b then finishes (wrote_nothing left at) else carried (write_program handle at bytes) stop (λ later out. finishes (wrote left at (length bytes) out)) (finishes (stopped left))) mine spent e → IsFar stored at len) [
          | true ↦ λ on. not_so (wrote_nothing left at) mine spent (λ is. cc) on
          | false ↦ λ on. carried_goes n WroteSo (IsFar stored at len) e (λ later out. finishes (wrote left at (length bytes) out)) (finishes (stopped left))
              (λ later out there rest others good so goes ended. far_told out.result good (subst (λ k. write_outcome at k out.result ≡ line.Refused why_is.TooFar) long (ap (λ (x : Ending). x.outcome) ended.2 ∙ says))) (λ rest others ended. not_so (stopped left) rest others (λ is. cc) ended)
              (write_program handle at bytes) stop (rowed handle.writer row) m mine spent (write_goes handle row bytes long is_stored) sound has lawful on
        ] c

-- ---- a line

-- the writer that is known is the one that its actor keeps
its_handle : (n : ℕ) (done : List Event) (state : State) (kept : Option WriterHandle) (writer : Option OneWriter) (x : OneWriter) → writer ≡ Some x → Writes n done state kept writer → (handle : WriterHandle) × (kept ≡ Some handle) × OfWriter n done state handle x
its_handle n done state None None x is known = absurd (let clash : None ≡ Some x = is in cc)
its_handle n done state None (Some y) x is known = absurd known
its_handle n done state (Some handle) None x is known = absurd known
its_handle n done state (Some handle) (Some y) x is known = (let same : y ≡ x = cc in (handle, refl, subst (OfWriter n done state handle) same known))

-- a write that is refused otherwise than as `not-open` is of one
has_writer : (m : Moment) (n : ℕ) (stretch : Stretch) (at : ℕ) (content : Data) (writer new : Option OneWriter) → ShowsWriting m n stretch writer (say.Write at content) (line.Refused why_is.TooFar) new → (x : OneWriter) × (writer ≡ Some x)
has_writer m n stretch at content None new shows = absurd (let clash : why_is.TooFar ≡ why_is.NotOpen = shows.1 in cc)
has_writer m n stretch at content (Some x) new shows = (x, refl)

same_id : (x y : ℕ) → true ≡ nat_eq x y → x ≡ y
same_id x y is = (let equal : nat_eq x y ≡ true = sym is in grind (arith, nat_tests))

module _ (m : Moment) (sound : IsSoundAt m) (n : ℕ) (history : List Event) (blocks : List (List Event)) (whole : Next m [] history) (kept : Kept) (file : Option OneFile) (writer : Option OneWriter) (t : Told) (p : PartOf n history blocks kept t.phase t.statement) (says_so : t.outcome ≡ p.e.outcome)
    (s : IsShown m sound n history blocks whole kept file writer t p.earlier p.mine) (at : ℕ) (content : Data) (asked : t.statement ≡ say.Write at content) (says : t.outcome ≡ line.Refused why_is.TooFar) where
  alive : kept.gone ≡ false
  alive = by p.ended
    where
      by : Ended kept t.statement p.e → kept.gone ≡ false
      by (was_gone is out now) = absurd (let clash : line.Gone ≡ line.Refused why_is.TooFar = sym out ∙ sym says_so ∙ says in cc)
      by (did lives d) = lives

  it : (x : OneWriter) × (writer ≡ Some x)
  it = has_writer m n (record { before = p.earlier; events = s.front }) at content writer s.new_writer
      (subst (λ o. ShowsWriting m n (record { before = p.earlier; events = s.front }) writer (say.Write at content) o s.new_writer) says (subst (λ z. ShowsWriting m n (record { before = p.earlier; events = s.front }) writer z t.outcome s.new_writer) asked s.writes))

  abbrev now : Moment
  now = moment_after m p.earlier

  its : (handle : WriterHandle) × (kept.writer ≡ Some handle) × OfWriter n p.earlier now.state handle it.0
  its = its_handle n p.earlier now.state kept.writer writer it.0 it.1 (s.had.known alive)

  -- its actor has one
  there_kept : IsThere kept.writer
  there_kept = subst IsThere (sym its.1) tt

  abbrev d : Dropping
  d = it.0.dropping

  abbrev row : Row
  row = its.2.row

  next : Next m p.earlier p.mine
  next = next_first m p.earlier p.mine p.later (here_next m sound n history blocks whole p.earlier p.mine p.later p.split)

  at_place : AtPlace now n d row
  at_place = record { sound = next.sound; has = subst (λ w. HasRow n w row now.state) its.2.is_writer its.2.knows.has; room = its.2.room; host = its.2.host }

  -- it or its log would end too far
  row_far : IsFar row.stored at (length (bytes_of content))
  row_far =
      let g = greets n kept t.statement p.mine p.spent p.e p.comes in
      let both : IsLawful now.state (g.first ++ g.rest) = subst (IsLawful now.state) g.all next.lawful in
      let first : IsLawful now.state g.first = legal_first now g.first g.rest both in
      let l = lasts n d now row g.first at_place first (g.lets_be d.writer) in
      let has : HasRow n its.0.writer row (moment_after now g.first).state = subst (λ w. HasRow n w row (moment_after now g.first).state) (sym its.2.is_writer) l.at.has in
      let comes : ComesTo n (does (disarmed g.left) g.left.armed t.statement) g.rest p.spent p.e = alive_does n g.left t.statement g.rest p.spent p.e (g.gone_is ∙ alive) g.comes in
      let of_write : ComesTo n (writes_statement (disarmed g.left) g.left.armed at (bytes_of content) (disarmed g.left).writer) g.rest p.spent p.e = subst (λ z. ComesTo n (does (disarmed g.left) g.left.armed z) g.rest p.spent p.e) asked comes in
      write_far n row.stored at (length (bytes_of content)) (disarmed g.left) g.left.armed its.0 (moment_after now g.first) row has refl l.at.sound g.rest (legal_rest now g.first g.rest both) p.spent p.e (sym says_so ∙ says) (bytes_of content) refl
      (subst (λ w. ComesTo n (writes_statement (disarmed g.left) g.left.armed at (bytes_of content) w) g.rest p.spent p.e) (g.writer ∙ its.1) of_write)

-- ---- the law

some_of : (o : Option ℕ) → IsThere o → (id : ℕ) × (o ≡ Some id)
some_of None there = absurd there
some_of (Some id) there = (id, refl)

module _ (run : Run) (mount : Stored) (start end : State) (fits : FitsScript run.script) (mounted : IsMounted 0 run.times mount start) (tells : mount.tree ≡ Some run.before) (sound : IsSoundTree run.before)
    (right : IsRight run.script start run.lines end) (left : end.store.tree ≡ Some run.after) where
  abbrev Begins : Moment
  Begins = First run run.times mount start end fits mounted tells sound right left

  abbrev sound_begins : IsSoundAt Begins
  sound_begins = sound_first run run.times mount start end fits mounted tells sound right left

  abbrev WholeOf : Next Begins [] right.history
  WholeOf = Whole run run.times mount start end fits mounted tells sound right left

  module _ (t : Told) (says : Says run t (line.Refused why_is.TooFar)) (at : ℕ) (content : Data) (asked : t.statement ≡ say.Write at content) where
    -- by its lines the actor has a writer
    its_id : (id : ℕ) × (writer_at run t ≡ Some id)
    its_id =
        let n : ℕ = (chain_of run Begins end fits sound_begins right t says.is_line).parts.number in
        let l = stands_here run Begins end fits sound_begins right t says.is_line in
        let lives = alive Begins sound_begins n right.history right.calls.blocks (whole_history run Begins end fits sound_begins right) l.kept l.file l.writer t l.part l.says l.shown at content asked says.says in
        let there = there_kept Begins sound_begins n right.history right.calls.blocks (whole_history run Begins end fits sound_begins right) l.kept l.file l.writer t l.part l.says l.shown at content asked says.says in
        some_of (writer_at run t) ((l.stands lives).known there)

    abbrev Id : ℕ
    Id = its_id.0

    abbrev IsFarWrite : Type 0
    IsFarWrite = EndsTooFar (say.Write at content) ⊎ FillsLog run t (say.Write at content)

    k : HasAccount run mount start end fits mounted tells sound right left t Id says.is_line its_id.1
    k = has_account run mount start end fits mounted tells sound right left t Id says.is_line its_id.1

    -- the law of this file
    pub write_far_told : IsFarWrite
    write_far_told = by (row_far Begins sound_begins k.number right.history right.calls.blocks WholeOf k.at.kept k.at.file k.at.writer t k.at.p k.at.says k.at.shown at content asked says.says)
      where
        x : (x : OneWriter) × (k.at.writer ≡ Some x)
        x = it Begins sound_begins k.number right.history right.calls.blocks WholeOf k.at.kept k.at.file k.at.writer t k.at.p k.at.says k.at.shown at content asked says.says

        Row_here : Row
        Row_here = row Begins sound_begins k.number right.history right.calls.blocks WholeOf k.at.kept k.at.file k.at.writer t k.at.p k.at.says k.at.shown at content asked says.says

        place : AtPlace (moment_after Begins k.at.p.earlier) k.number x.0.dropping Row_here
        place = at_place Begins sound_begins k.number right.history right.calls.blocks WholeOf k.at.kept k.at.file k.at.writer t k.at.p k.at.says k.at.shown at content asked says.says

        is_its : x.0.dropping.writer ≡ Id
        is_its = same_id x.0.dropping.writer Id (sym k.latest ∙ k.at.agrees.latest x.0 x.1)

        entered : HasEntered k.number right.history x.0.dropping
        entered = subst (λ es. HasEntered k.number es x.0.dropping) (sym k.at.p.split) (entered_more k.number k.at.p.earlier (k.at.p.mine ++ k.at.p.later) x.0.dropping (k.at.known x.0 x.1))

        in_room : x.0.dropping.room ≡ k.d.room
        in_room = (entered_once start right.history k.number k.number x.0.dropping k.d right.leads.lawful entered k.entered (is_its ∙ sym k.d_id)).room

        held : row_of Id (moment_after Begins k.at.p.earlier).state.table.writers ≡ Some Row_here
        held = subst (λ w. row_of w (moment_after Begins k.at.p.earlier).state.table.writers ≡ Some Row_here) is_its place.has.there

        of : IsRowIn (moment_after Begins k.at.p.earlier).state k.d.room Id
        of = record { row = Row_here; held = held; here = place.room ∙ in_room }

        stored_is : Row_here.stored ≡ stored_bytes (account run t.actor Id (before run t)).writes
        stored_is = row_stored (moment_after Begins k.at.p.earlier) place.sound k.d.room Id of ∙ sym (sums_same ((moment_after Begins k.at.p.earlier).issued k.d.room Id)) ∙ ap stored_bytes k.at.agrees.writes

        many : length (bytes_of content) ≡ length_of content
        many = length-data content

        by : IsFar Row_here.stored at (length (bytes_of content)) → IsFarWrite
        by (inl far) = inl (subst (λ n. MAX_SIZE < at + n) many far)
        by (inr far) = inr (Id, its_id.1, subst (λ n. MAX_LOG < stored_bytes (account run t.actor Id (before run t)).writes + n) many (subst (λ n. MAX_LOG < n + length (bytes_of content)) stored_is far))
