-- A line whose actor surely has a writer: behind the line that opened it no line is of a close, and none tells of a stop. So the table has it open where the part of the line begins.
use Rattle.std.proofs.Common.{◌≡◌, ◌⊎◌, inl, inr, ℕ, Bool, true, false, List, [], ◌∷◌, ◌++◌, Option, Some, refl, sym, ap, ◌∙◌, subst, append_assoc}
use Rattle.std.specs.List.{AllByRecursion}
use Rattle.store_api.specs.Acts.{Stored}
use Rattle.mount_model.specs.History.{Event}
use Rattle.mount_model.specs.Mounting.{IsMounted}
use Rattle.mount_model.specs.State.{State}
use Rattle.mount_sound.specs.Owed.{IsLawful}
use Rattle.mount_sound.specs.Sound.{IsSoundTree}
use Rattle.reader_laws.specs.Moments.{Dropping, IsSoundAt, Moment, moment_after}
use Rattle.reader_laws.proofs.Gathered.Facts.{legal_first, legal_rest, moment-append, sound_after}
use Rattle.script_lang.specs.Ranges.{FitsScript}
use Rattle.script_lang.specs.declared.line.Outcome.{Outcome}
use Rattle.script_lang.specs.declared.line.Outcome.TheVariants as line
use Rattle.script_lang.specs.declared.line.Why.TheVariants.{AlreadyOpen}
use Rattle.script_lang.specs.declared.script.Statement.{Statement}
use Rattle.script_lang.specs.declared.script.Statement.TheVariants as say
use Rattle.writer_flow.specs.declared.handle.WriterHandle.{WriterHandle}
use Rattle.actor_core.specs.declared.kept.Kept.{Kept}
use Rattle.run_core.specs.Play.{IsRight}
use Rattle.headline_laws.specs.OneFile.{OneFile}
use Rattle.headline_laws.specs.OneWriter.{OneWriter}
use Rattle.headline_laws.proofs.Plays.Facts.{Next}
use Rattle.headline.specs.Run.{IsLine, Run, Told, before, own, told}
use Rattle.headline.specs.Writers.{Account, nothing, told_of}
use Rattle.headline.specs.Files.{reader_at}
use Rattle.headline.specs.Causes.{last_outcome}
use Rattle.headline.specs.Changes.{id_of, none, writer as sure_one, writer_at, writing_after, writing_at, writing_next}
use Rattle.headline_laws.proofs.Contents.AtLine.{OpenedIn, fo, none_among, opener, rest as lines_behind, split}
use Rattle.headline_laws.proofs.Contents.FirstOpen.{FirstOpen, OpensNot, all_first, all_rest}
use Rattle.headline_laws.proofs.Contents.OpenUntil.{line_goes}
use Rattle.headline_laws.proofs.Contents.OpenedWriter.{First, Opening, Whole, entered_so, sound_first, started}
use Rattle.headline_laws.proofs.Landed.Bounded.{Keeps, idle_keeps, line_keeps, none_opened}
use Rattle.headline_laws.proofs.Statements.Capacity.{HasCap, caps_later}
use Rattle.headline_laws.proofs.Landed.Leaving.{row_drawn}
use Rattle.headline_laws.proofs.OrderlyLines.Orderly.{Here, line_here}
use Rattle.headline_laws.proofs.OrderlyLines.Standing.{HasNone, IsAfter, goes, halted, is_stopped}
use Rattle.headline_laws.proofs.Statements.Did.{IsOpen, IsThere, WritesSo}
use Rattle.headline_laws.proofs.Statements.Does.{Ended, did, was_gone}
use Rattle.headline_laws.proofs.Statements.Known.{HasEntered, IsNotOpened, entered_more}
use Rattle.headline_laws.proofs.Statements.LivingLines.{GoesOn, Open, idle_open, never_opened, not_out}
use Rattle.headline_laws.proofs.Story.Attributed.{either_part}
use Rattle.headline_laws.proofs.Story.Lines.{ChainOf, chain_of, writing_append}
use Rattle.headline_laws.proofs.Story.Parts.{Idles, PartOf}
use Rattle.headline_laws.proofs.Story.Shown.{IsShown, ShownEach}
use Rattle.headline_laws.proofs.Trees.Kept.{both_all, sure_stays}

clashes : (b : Bool) → b ≡ true → b ≡ false → ⊥
clashes b on off = cc

-- a writer that may write may so behind a line that is of no close, where the actor has one then
fresh_next : (x y : Option WriterHandle) (s : Statement) (o : Outcome) → (s ≡ say.Close → ⊥) → WritesSo x s o y → IsThere y → IsOpen x → IsOpen y
fresh_next x y (say.Open name) (line.Opened new) unclosed writes there old = writes
fresh_next x y (say.Open name) (line.Refused AlreadyOpen) unclosed writes there old = writes.0 old
fresh_next x y (say.Open name) o unclosed writes there old = absurd (subst IsThere writes there)
fresh_next x y say.Close o unclosed writes there old = absurd (unclosed refl)
fresh_next x y s o unclosed writes there old = writes.0 old

-- and the lines say so
next_writing : (id : ℕ) (x y : Option WriterHandle) (s : Statement) (o : Outcome) → (s ≡ say.Close → ⊥) → WritesSo x s o y → IsThere y → IsNotOpened o → writing_next (sure_one id) s o ≡ sure_one id
next_writing id x y (say.Open name) (line.Opened new) unclosed writes there not = absurd not
next_writing id x y (say.Open name) (line.Refused AlreadyOpen) unclosed writes there not = refl
next_writing id x y (say.Open name) o unclosed writes there not = absurd (subst IsThere writes there)
next_writing id x y say.Close o unclosed writes there not = absurd (unclosed refl)
next_writing id x y s o unclosed writes there not = refl

module _ (m : Moment) (sound : IsSoundAt m) (n : ℕ) (history : List Event) (blocks : List (List Event)) (whole : Next m [] history) (cap : ℕ) (d : Dropping) where
  -- the buffer of the writer holds so many entries
  abbrev Caps : List Event → Type 0
  Caps done = HasCap d.writer cap (moment_after m done).state.table.writers

  later_caps : (done more rest : List Event) → history ≡ done ++ (more ++ rest) → Open m sound n history blocks whole cap d done → Caps done → Caps (done ++ more)
  later_caps done more rest is o caps =
      let all : IsLawful m.state (done ++ (more ++ rest)) = subst (IsLawful m.state) is whole.lawful in
      let s : IsSoundAt (moment_after m done) = sound_after m done (legal_first m done (more ++ rest) all) sound in
      subst (λ (z : Moment). HasCap d.writer cap z.state.table.writers) (sym (moment-append m done more))
      (caps_later d.writer cap (moment_after m done) more s (legal_first (moment_after m done) more rest (legal_rest m done (more ++ rest) all)) (row_drawn d.writer o.row (moment_after m done).state s.regular o.has.there) caps)

  idle_caps : (done later rest : List Event) → history ≡ later ++ rest → Idles n history blocks done later → Open m sound n history blocks whole cap d done → Caps done → Caps later
  idle_caps done later rest is i o caps = subst Caps (sym i.is) (later_caps done i.idle rest (is ∙ ap (λ z. z ++ rest) i.is ∙ append_assoc done i.idle rest) o caps)

  -- A line that is of no close, and behind which the writer is open and its actor goes on, leaves the actor the writer, and so do its lines.
  goes_sure : (kept : Kept) (q : Told) (p : PartOf n history blocks kept q.phase q.statement) → q.outcome ≡ p.e.outcome → (acc next : Account) → Keeps m sound n history blocks whole cap d p.earlier kept acc → Open m sound n history blocks whole cap d p.earlier → kept.gone ≡ false → IsOpen kept.writer
      → Open m sound n history blocks whole cap d (p.earlier ++ p.mine) → p.e.kept.gone ≡ false → Keeps m sound n history blocks whole cap d (p.earlier ++ p.mine) p.e.kept next → (q.statement ≡ say.Close → ⊥) → IsOpen p.e.kept.writer × ((id : ℕ) → writing_next (sure_one id) q.statement q.outcome ≡ sure_one id)
  goes_sure kept q p says acc next (inr out) o alive fresh o_then alive_then keeps_then unclosed = absurd (not_out m sound n history blocks whole cap d p.earlier kept acc o out)
  goes_sure kept q p says acc next (inl i) o alive fresh o_then alive_then (inr out) unclosed = absurd (not_out m sound n history blocks whole cap d (p.earlier ++ p.mine) p.e.kept next o_then out)
  goes_sure kept q p says acc next (inl i) o alive fresh o_then alive_then (inl j) unclosed = by p.ended
    where
      there : IsThere p.e.kept.writer
      there = subst IsThere (sym (j.keeps alive_then)) tt

      by : Ended kept q.statement p.e → IsOpen p.e.kept.writer × ((id : ℕ) → writing_next (sure_one id) q.statement q.outcome ≡ sure_one id)
      by (was_gone is out now) = absurd (clashes kept.gone is alive)
      by (did lives dd) = (
        fresh_next kept.writer p.e.kept.writer q.statement p.e.outcome unclosed dd.writes there fresh,
        λ id. ap (writing_next (sure_one id) q.statement) says
            ∙ next_writing id kept.writer p.e.kept.writer q.statement p.e.outcome unclosed dd.writes there (none_opened kept.writer i.handle kept.reader q.statement p.e.outcome (i.keeps alive) dd.kind dd.uses),
      )

  -- the part of the line, and what its actor has where it begins
  pub record SureAt (t : Told) : Type 0 where
    pub kept : Kept
    pub file : Option OneFile
    pub writer : Option OneWriter
    pub p : PartOf n history blocks kept t.phase t.statement
    pub says : t.outcome ≡ p.e.outcome
    pub shown : IsShown m sound n history blocks whole kept file writer t p.earlier p.mine
    pub acc : Account
    pub keeps : Keeps m sound n history blocks whole cap d p.earlier kept acc
    pub open_now : Open m sound n history blocks whole cap d p.earlier
    pub caps : HasCap d.writer cap (moment_after m p.earlier).state.table.writers
    pub alive : kept.gone ≡ false
    pub fresh : IsOpen kept.writer

  pub sure_at : (u : List Told) (t : Told) (rest : List Told) (done : List Event) (kept : Kept) (file : Option OneFile) (writer : Option OneWriter) (acc : Account) → ShownEach m sound n history blocks whole done kept file writer (u ++ t ∷ rest) → HasEntered n done d → Keeps m sound n history blocks whole cap d done kept acc
      → Open m sound n history blocks whole cap d done → Caps done → kept.gone ≡ false → IsOpen kept.writer → AllByRecursion GoesOn u → SureAt t
  sure_at [] t rest done kept file writer acc (p, says, idle, s, more) entered keeps o caps alive fresh goes_on = record {
    kept = kept;
    file = file;
    writer = writer;
    p = p;
    says = says;
    shown = s;
    acc = acc;
    keeps = idle_keeps m sound n history blocks whole cap d done p.earlier (p.mine ++ p.later) kept acc p.split idle keeps;
    open_now = idle_open m sound n history blocks whole cap d done p.earlier (p.mine ++ p.later) p.split idle o;
    caps = idle_caps done p.earlier (p.mine ++ p.later) p.split idle o caps;
    alive = alive;
    fresh = fresh;
  }
  sure_at (q ∷ u) t rest done kept file writer acc (p, says, idle, s, more) entered keeps o caps alive fresh goes_on =
      let entered_here : HasEntered n p.earlier d = subst (λ es. HasEntered n es d) (sym idle.is) (entered_more n done idle.idle d entered) in
      let keeps_here = idle_keeps m sound n history blocks whole cap d done p.earlier (p.mine ++ p.later) kept acc p.split idle keeps in
      let o_here = idle_open m sound n history blocks whole cap d done p.earlier (p.mine ++ p.later) p.split idle o in
      let on = line_goes m sound n history blocks whole 0 cap d kept file writer q p says s acc o_here keeps_here alive goes_on.0 in
      let keeps_then = line_keeps m sound n history blocks whole cap d kept file writer q p says s acc entered_here keeps_here in
      let its = goes_sure kept q p says acc (told_of d.writer cap acc q.statement q.outcome) keeps_here o_here alive fresh on.0 on.1 keeps_then goes_on.0.0 in
      sure_at u t rest (p.earlier ++ p.mine) p.e.kept s.new s.new_writer (told_of d.writer cap acc q.statement q.outcome) more (entered_more n p.earlier p.mine d entered_here) keeps_then on.0 (later_caps p.earlier p.mine p.later p.split o_here (idle_caps done p.earlier (p.mine ++ p.later) p.split idle o caps)) on.1 its.0 goes_on.1

  -- and its lines say that the actor has it
  pub sure_writing : (u : List Told) (t : Told) (rest : List Told) (done : List Event) (kept : Kept) (file : Option OneFile) (writer : Option OneWriter) (acc : Account) → ShownEach m sound n history blocks whole done kept file writer (u ++ t ∷ rest) → HasEntered n done d → Keeps m sound n history blocks whole cap d done kept acc
      → Open m sound n history blocks whole cap d done → kept.gone ≡ false → IsOpen kept.writer → AllByRecursion GoesOn u → (id : ℕ) → writing_after (sure_one id) u ≡ sure_one id
  sure_writing [] t rest done kept file writer acc each entered keeps o alive fresh goes_on id = refl
  sure_writing (q ∷ u) t rest done kept file writer acc (p, says, idle, s, more) entered keeps o alive fresh goes_on id =
      let entered_here : HasEntered n p.earlier d = subst (λ es. HasEntered n es d) (sym idle.is) (entered_more n done idle.idle d entered) in
      let keeps_here = idle_keeps m sound n history blocks whole cap d done p.earlier (p.mine ++ p.later) kept acc p.split idle keeps in
      let o_here = idle_open m sound n history blocks whole cap d done p.earlier (p.mine ++ p.later) p.split idle o in
      let on = line_goes m sound n history blocks whole 0 cap d kept file writer q p says s acc o_here keeps_here alive goes_on.0 in
      let keeps_then = line_keeps m sound n history blocks whole cap d kept file writer q p says s acc entered_here keeps_here in
      let its = goes_sure kept q p says acc (told_of d.writer cap acc q.statement q.outcome) keeps_here o_here alive fresh on.0 on.1 keeps_then goes_on.0.0 in
      ap (λ z. writing_after z u) (its.1 id) ∙ sure_writing u t rest (p.earlier ++ p.mine) p.e.kept s.new s.new_writer (told_of d.writer cap acc q.statement q.outcome) more (entered_more n p.earlier p.mine d entered_here) keeps_then on.0 on.1 its.0 goes_on.1 id

-- ---- which lines tell of no stop

unstopped : (ts : List Told) → HasNone ts → AllByRecursion (λ (s : Told). s.outcome ≡ line.Stopped → ⊥) ts
unstopped [] clear = tt
unstopped (t ∷ ts) clear = (λ is. clashes (is_stopped t.outcome) (ap is_stopped is) clear.0, unstopped ts clear.1)

module _ (run : Run) (times : Option (List ℕ)) (mount : Stored) (start end : State) (fits : FitsScript run.script) (mounted : IsMounted 0 times mount start) (tells : mount.tree ≡ Some run.before) (sound : IsSoundTree run.before)
    (right : IsRight run.script start run.lines end) (left : end.store.tree ≡ Some run.after) where
  abbrev Begins : Moment
  Begins = First run times mount start end fits mounted tells sound right left

  abbrev sound_begins : IsSoundAt Begins
  sound_begins = sound_first run times mount start end fits mounted tells sound right left

  abbrev WholeOf : Next Begins [] right.history
  WholeOf = Whole run times mount start end fits mounted tells sound right left

  -- where the part of the line t begins: the writer is that of its actor, and open
  pub record SureLine (t : Told) (id : ℕ) : Type 0 where
    pub c : ChainOf run Begins end fits sound_begins right t.actor
    pub cap : ℕ
    pub d : Dropping
    pub at : SureAt Begins sound_begins c.parts.number right.history right.calls.blocks WholeOf cap d t

  -- an actor whose line tells that it goes on was not stopped before
  none_stopped : (t : Told) → IsLine run t → (t.outcome ≡ line.Gone → ⊥) → AllByRecursion (λ (s : Told). s.outcome ≡ line.Stopped → ⊥) (own t.actor (before run t))
  none_stopped t is_line lives = by (line_here run start end fits right t is_line)
    where
      Clear : Type 0
      Clear = AllByRecursion (λ (s : Told). s.outcome ≡ line.Stopped → ⊥) (own t.actor (before run t))

      by : Here run t → Clear
      by h = from h.ended h.after
        where
          from : Ended h.kept t.statement h.e → IsAfter h.kept (writing_at run t) (reader_at run t) (last_outcome (own t.actor (before run t))) (own t.actor (before run t)) → Clear
          from (was_gone is out now) after = absurd (lives (h.says ∙ out))
          from (did alive dd) (goes going clear stands) = unstopped (own t.actor (before run t)) clear
          from (did alive dd) (halted is has) = absurd (clashes h.kept.gone is alive)

  module _ (t : Told) (id : ℕ) (is_line : IsLine run t) (sure : writing_at run t ≡ sure_one id) (lives : t.outcome ≡ line.Gone → ⊥) where
    its_id : writer_at run t ≡ Some id
    its_id = ap id_of sure

    abbrev c : ChainOf run Begins end fits sound_begins right t.actor
    c = chain_of run Begins end fits sound_begins right t is_line

    abbrev Mine : List Told
    Mine = own t.actor (before run t)

    abbrev behind : List Told
    behind = lines_behind run times mount start end fits mounted tells sound right left t id is_line its_id

    abbrev f : FirstOpen id (own t.actor (told run))
    f = fo run times mount start end fits mounted tells sound right left t id is_line its_id

    abbrev b : Opening run times mount start end fits mounted tells sound right left t.actor c id f.o.phase f.post []
    b = started run times mount start end fits mounted tells sound right left t.actor c id f.pre f.o f.post f.is f.says

    entered : HasEntered c.parts.number (b.earlier ++ b.mine) b.d
    entered = entered_so run times mount start end fits mounted tells sound right left t.actor c id f.o.phase f.post [] b

    from_open : (u : List Told) → Mine ≡ f.pre ++ f.o ∷ u → f.post ≡ u ++ t ∷ behind → SureLine t id
    from_open u earlier_is post_is = record {
      c = c;
      cap = b.cap;
      d = b.d;
      at = sure_at Begins sound_begins c.parts.number right.history right.calls.blocks WholeOf b.cap b.d u t behind (b.earlier ++ b.mine) b.kept b.file b.writer (nothing true)
          (subst (λ ts. ShownEach Begins sound_begins c.parts.number right.history right.calls.blocks WholeOf (b.earlier ++ b.mine) b.kept b.file b.writer ts) post_is b.more) entered b.keeps b.open_now b.caps b.alive b.fresh goes_on;
    }
      where
        not_again : AllByRecursion (OpensNot id) u
        not_again = all_first (OpensNot id) u (t ∷ behind) (subst (AllByRecursion (OpensNot id)) post_is
            (subst (λ k. AllByRecursion (OpensNot k) f.post) b.its_id (never_opened Begins sound_begins c.parts.number right.history right.calls.blocks WholeOf b.d (b.earlier ++ b.mine) b.kept b.file b.writer f.post b.more entered)))

        unclosed : AllByRecursion (λ (s : Told). s.statement ≡ say.Close → ⊥) u
        unclosed = (sure_stays id u (writing_next (writing_after none f.pre) f.o.statement f.o.outcome) not_again (sym (writing_append none f.pre f.o u) ∙ ap (writing_after none) (sym earlier_is) ∙ sure)).1

        clear : AllByRecursion (λ (s : Told). s.outcome ≡ line.Stopped → ⊥) u
        clear = (all_rest (λ (s : Told). s.outcome ≡ line.Stopped → ⊥) f.pre (f.o ∷ u) (subst (AllByRecursion (λ (s : Told). s.outcome ≡ line.Stopped → ⊥)) earlier_is (none_stopped t is_line lives))).1

        goes_on : AllByRecursion GoesOn u
        goes_on = both_all (λ (s : Told). s.statement ≡ say.Close → ⊥) (λ (s : Told). s.outcome ≡ line.Stopped → ⊥) u unclosed clear

    -- the law of this file
    pub sure_line : SureLine t id
    sure_line = by (either_part Mine (t ∷ behind) f.pre f.o f.post (sym (split run times mount start end fits mounted tells sound right left t id is_line its_id) ∙ f.is))
      where
        o : OpenedIn id Mine
        o = opener run times mount start end fits mounted tells sound right left t id is_line its_id

        by : ((u : List Told) × (Mine ≡ f.pre ++ f.o ∷ u) × (f.post ≡ u ++ t ∷ behind)) ⊎ ((u : List Told) × (f.pre ≡ Mine ++ u) × (t ∷ behind ≡ u ++ f.o ∷ f.post)) → SureLine t id
        by (inl (u, earlier_is, post_is)) = from_open u earlier_is post_is
        by (inr (u, pre_is, rest_is)) = absurd (none_among id Mine o.line_of (all_first (OpensNot id) Mine u (subst (AllByRecursion (OpensNot id)) pre_is f.none)) o.among_them o.says)
