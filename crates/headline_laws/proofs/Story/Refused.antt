-- A statement of a reader is refused only where its actor has none, or has one already, or where there is no file. What is refused as `already-open` opens what its actor has.
use Rattle.std.proofs.Common.{◌≡◌, ◌≢◌, ◌⊎◌, inl, inr, ℕ, Bool, true, false, List, [], ◌∷◌, ◌++◌, Option, Some, None, refl, sym, ap, ◌∙◌, subst}
use Rattle.std.specs.Prelude.{is_some}
use Rattle.mount_model.specs.History.{Event}
use Rattle.mount_model.specs.State.{State}
use Rattle.reader_laws.specs.Moments.{IsSoundAt, Moment, moment_after}
use Rattle.reader_laws.proofs.Gathered.Facts.{among}
use Rattle.index_reader.specs.declared.opened.OpenReader.{OpenReader}
use Rattle.script_lang.specs.Ranges.{FitsScript}
use Rattle.script_lang.specs.declared.line.Outcome.{Outcome}
use Rattle.script_lang.specs.declared.line.Outcome.TheVariants as line
use Rattle.script_lang.specs.declared.line.Why.{Why}
use Rattle.script_lang.specs.declared.line.Why.TheVariants.{AlreadyOpen, NoFile, NotOpen}
use Rattle.script_lang.specs.declared.script.Statement.{Statement}
use Rattle.script_lang.specs.declared.script.Statement.TheVariants.{Close, Flatten, Ls, Map, Open, Rclose, Read, Recover, Refresh, Rename, Ropen, Stat, Stop as Arms, Sync, Trunc, Verify, Write}
use Rattle.actor_core.specs.declared.kept.Kept.{Kept}
use Rattle.actor_core.specs.Statements.{work_of}
use Rattle.run_core.specs.Play.{IsRight}
use Rattle.headline_laws.specs.OneFile.{OneFile}
use Rattle.headline_laws.specs.OneWriter.{OneWriter}
use Rattle.headline_laws.specs.Opening.{Stretch}
use Rattle.headline_laws.specs.Showing.{Shows}
use Rattle.headline_laws.proofs.Plays.Facts.{Keeps, Next}
use Rattle.headline.specs.Run.{IsLine, Run, Says, Told, before, own, told}
use Rattle.headline.specs.Names.{name_of}
use Rattle.headline.specs.Files.{reader_after, reader_at, reader_next}
use Rattle.headline.specs.Changes.{Writing, none, writing_after, writing_at, writing_next}
use Rattle.headline.specs.Causes.{MayBeReady}
use Rattle.headline.specs.Refusals.{HasRefusals, UsesReader}
use Rattle.headline_laws.proofs.OrderlyLines.Places.{own_split}
use Rattle.headline_laws.proofs.OrderlyLines.Standing.{Stands, may_have, stand_next, stopped_or}
use Rattle.headline_laws.proofs.Statements.Again.{AgainBy, HasIt, statement_again}
use Rattle.headline_laws.proofs.Statements.Did.{IsThere}
use Rattle.headline_laws.proofs.Statements.Does.{Ended, did, was_gone}
use Rattle.headline_laws.proofs.Statements.Hosts.{comes_so}
use Rattle.headline_laws.proofs.Story.Lines.{ChainOf, chain_of, whole_history}
use Rattle.headline_laws.proofs.Story.Parts.{PartOf}
use Rattle.headline_laws.proofs.Story.Shown.{IsShown, ShownEach}

-- ---- what a refusal shows

module _ (m : Moment) (n : ℕ) (stretch : Stretch) where
  uses_none : (s : Statement) (old new : Option OneFile) (why : Why) → UsesReader s → Shows m n stretch old s (line.Refused why) new → (why ≡ NotOpen) × (old ≡ None)
  uses_none (Read at len) None new why uses shows = (shows.1, refl)
  uses_none (Read at len) (Some file) new why uses shows = absurd shows.1
  uses_none (Verify at content) None new why uses shows = (shows.1, refl)
  uses_none (Verify at content) (Some file) new why uses shows = absurd shows.1
  uses_none Map None new why uses shows = (shows.1, refl)
  uses_none Map (Some file) new why uses shows = absurd (let clash = shows.1 in cc)
  uses_none Refresh None new why uses shows = (shows.1, refl)
  uses_none Refresh (Some file) new why uses shows = absurd shows.1
  uses_none Rclose None new why uses shows = (shows.1, refl)
  uses_none Rclose (Some file) new why uses shows = absurd (let clash = shows.1 in cc)
  uses_none s old new why uses shows = absurd uses

  opens_none : (name : List ℕ) (workers : ℕ) (old new : Option OneFile) (why : Why) → Shows m n stretch old (Ropen name workers) (line.Refused why) new → (why ≡ NoFile) ⊎ ((why ≡ AlreadyOpen) × ((file : OneFile) × (old ≡ Some file)))
  opens_none name workers None new why shows = inl shows.1
  opens_none name workers (Some file) new why shows = inr (shows.1, (file, refl))

-- the reader that an actor keeps is there where a file is
no_reader : (m : Moment) (reader : Option OpenReader) (file : Option OneFile) → Keeps m reader file → file ≡ None → IsThere reader → ⊥
no_reader m None file keeps empty there = there
no_reader m (Some reader) None keeps empty there = keeps
no_reader m (Some reader) (Some file) keeps empty there = let clash : Some file ≡ None = empty in cc

some_reader : (m : Moment) (reader : Option OpenReader) (file : OneFile) (old : Option OneFile) → Keeps m reader old → old ≡ Some file → IsThere reader
some_reader m None file None keeps is = let clash : None ≡ Some file = is in cc
some_reader m None file (Some other) keeps is = absurd keeps
some_reader m (Some reader) file old keeps is = tt

is_none : (r : Option Told) → (IsThere r → ⊥) → r ≡ None
is_none None not = refl
is_none (Some t) not = absurd (not tt)

some_told : (r : Option Told) → IsThere r → r ≢ None
some_told None there = absurd there
some_told (Some t) there = λ is. let clash : Some t ≡ None = is in absurd (cc)

-- ---- a line in its part, with what the lines before it say of what its actor keeps

clashes : (b : Bool) → b ≡ true → b ≡ false → ⊥
clashes b on off = cc

module _ (m : Moment) (sound : IsSoundAt m) (n : ℕ) (history : List Event) (blocks : List (List Event)) (whole : Next m [] history) where
  pub record StandsAt (r : Option Told) (w : Writing) (xs : List Told) (t : Told) : Type 0 where
    pub kept : Kept
    pub file : Option OneFile
    pub writer : Option OneWriter
    pub part : PartOf n history blocks kept t.phase t.statement
    pub says : t.outcome ≡ part.e.outcome
    pub shown : IsShown m sound n history blocks whole kept file writer t part.earlier part.mine
    pub last : Option Outcome
    pub stands : kept.gone ≡ false → Stands kept (writing_after w xs) (reader_after r xs) last

  stands_behind : (kept : Kept) (w : Writing) (r : Option Told) (last : Option Outcome) (q : Told) (p : PartOf n history blocks kept q.phase q.statement) → q.outcome ≡ p.e.outcome → (kept.gone ≡ false → Stands kept w r last) → p.e.kept.gone ≡ false → Stands p.e.kept (writing_next w q.statement q.outcome) (reader_next r q q.outcome) (Some q.outcome)
  stands_behind kept w r last q p says stands goes_on = by p.ended
    where
      by : Ended kept q.statement p.e → Stands p.e.kept (writing_next w q.statement q.outcome) (reader_next r q q.outcome) (Some q.outcome)
      by (was_gone is out now) = absurd (clashes p.e.kept.gone now goes_on)
      by (did lives d) = elim (stopped_or kept.armed p.e.outcome p.e.kept.gone d.stops) as (λ _. Stands p.e.kept (writing_next w q.statement q.outcome) (reader_next r q q.outcome) (Some q.outcome)) [
        | inl stop ↦ absurd (clashes p.e.kept.gone stop.2 goes_on)
        | inr on ↦ stand_next kept w r last q p.e says on.0 d (stands lives)
      ]

  stands_at : (xs : List Told) (t : Told) (rest : List Told) (done : List Event) (kept : Kept) (file : Option OneFile) (writer : Option OneWriter) (r : Option Told) (w : Writing) (last : Option Outcome) → ShownEach m sound n history blocks whole done kept file writer (xs ++ t ∷ rest) → (kept.gone ≡ false → Stands kept w r last) → StandsAt r w xs t
  stands_at [] t rest done kept file writer r w last (p, says, idle, s, more) stands = record { kept = kept; file = file; writer = writer; part = p; says = says; shown = s; last = last; stands = stands }
  stands_at (q ∷ xs) t rest done kept file writer r w last (p, says, idle, s, more) stands =
      let l = stands_at xs t rest (p.earlier ++ p.mine) p.e.kept s.new s.new_writer (reader_next r q q.outcome) (writing_next w q.statement q.outcome) (Some q.outcome) more (stands_behind kept w r last q p says stands) in
      record { kept = l.kept; file = l.file; writer = l.writer; part = l.part; says = l.says; shown = l.shown; last = l.last; stands = l.stands }

  module _ (r : Option Told) (w : Writing) (xs : List Told) (t : Told) (why : Why) (says : t.outcome ≡ line.Refused why) (l : StandsAt r w xs t) where
    lives : l.kept.gone ≡ false
    lives = by l.part.ended
      where
        by : Ended l.kept t.statement l.part.e → l.kept.gone ≡ false
        by (was_gone is out now) = absurd (let clash : line.Gone ≡ line.Refused why = sym out ∙ sym l.says ∙ says in cc)
        by (did alive d) = alive

    shows_so : Shows m n (record { before = l.part.earlier; events = l.shown.front }) l.file t.statement (line.Refused why) l.shown.new
    shows_so = subst (λ o. Shows m n (record { before = l.part.earlier; events = l.shown.front }) l.file t.statement o l.shown.new) says l.shown.shows

    refused_uses : UsesReader t.statement → (why ≡ NotOpen) × (reader_after r xs ≡ None)
    refused_uses uses =
        let u = uses_none m n (record { before = l.part.earlier; events = l.shown.front }) t.statement l.file l.shown.new why uses shows_so in
        (u.0, is_none (reader_after r xs) (λ there. no_reader (moment_after m l.part.earlier) l.kept.reader l.file l.shown.had.keeps u.1 ((l.stands lives).reading.1 there)))

    refused_opens : (name : List ℕ) (workers : ℕ) → t.statement ≡ Ropen name workers → (why ≡ NoFile) ⊎ ((why ≡ AlreadyOpen) × (reader_after r xs ≢ None))
    refused_opens name workers asked = by (opens_none m n (record { before = l.part.earlier; events = l.shown.front }) name workers l.file l.shown.new why (subst (λ s. Shows m n (record { before = l.part.earlier; events = l.shown.front }) l.file s (line.Refused why) l.shown.new) asked shows_so))
      where
        by : (why ≡ NoFile) ⊎ ((why ≡ AlreadyOpen) × ((file : OneFile) × (l.file ≡ Some file))) → (why ≡ NoFile) ⊎ ((why ≡ AlreadyOpen) × (reader_after r xs ≢ None))
        by (inl is) = inl is
        by (inr (is, f)) = inr (is, some_told (reader_after r xs) ((l.stands lives).reading.0 (some_reader (moment_after m l.part.earlier) l.kept.reader f.0 l.file l.shown.had.keeps f.1)))

    -- the actor has the writer that it opens
    its_writer : why ≡ AlreadyOpen → HasIt l.kept.writer t.statement
    its_writer is = comes_so n (AgainBy l.kept t.statement) (work_of l.kept t.statement) l.part.mine l.part.spent l.part.e (statement_again l.kept t.statement) l.part.comes (sym l.says ∙ says ∙ ap (λ y. line.Refused y) is)

-- ---- all lines

not_none : {X : Type 0} (o : Option X) → o ≢ None → is_some o ≡ true
not_none None not = absurd (not refl)
not_none (Some x) not = refl

has_name : (name : List ℕ) → Some name ≢ None
has_name name is = cc

not_there : {X : Type 0} (o : Option X) → o ≡ None → IsThere o → ⊥
not_there o empty is = subst IsThere empty is

module _ (run : Run) (m : Moment) (end : State) (fits : FitsScript run.script) (sound : IsSoundAt m) (right : IsRight run.script m.state run.lines end) where
  abbrev pub At : {actor : ℕ} → ChainOf run m end fits sound right actor → List Told → Told → Type 0
  At c xs t = StandsAt m sound c.parts.number right.history right.calls.blocks (whole_history run m end fits sound right) None none xs t

  -- a line in its part, with what its actor's lines before it say of what that keeps
  pub stands_here : (t : Told) (is_line : IsLine run t) → At (chain_of run m end fits sound right t is_line) (own t.actor (before run t)) t
  stands_here t is_line =
      let c = chain_of run m end fits sound right t is_line in
      let split = own_split run t (among (told run) t is_line) in
      stands_at m sound c.parts.number right.history right.calls.blocks (whole_history run m end fits sound right) (own t.actor (before run t)) t split.rest [] c.parts.kept None None None none None
      (subst (λ ts. ShownEach m sound c.parts.number right.history right.calls.blocks (whole_history run m end fits sound right) [] c.parts.kept None None ts) split.is c.each)
      (λ lives. record {
        sure = λ id is. absurd (cc);
        known = λ is. absurd (not_there c.parts.kept.writer c.parts.no_writer is);
        reading = (λ is. absurd (not_there c.parts.kept.reader c.parts.no_reader is), λ is. absurd is);
        armed = λ some. absurd (some c.parts.no_stop);
      })

  line_stands : (t : Told) (why : Why) (says : Says run t (line.Refused why)) → At (chain_of run m end fits sound right t says.is_line) (own t.actor (before run t)) t
  line_stands t why says = stands_here t says.is_line

  again_told : (t : Told) → Says run t (line.Refused AlreadyOpen) → (name_of t.statement ≢ None) × MayBeReady false run t t.statement
  again_told t says = by t.statement refl
    where
      n : ℕ
      n = (chain_of run m end fits sound right t says.is_line).parts.number

      l : At (chain_of run m end fits sound right t says.is_line) (own t.actor (before run t)) t
      l = line_stands t AlreadyOpen says

      has : HasIt l.kept.writer t.statement
      has = its_writer m sound n right.history right.calls.blocks (whole_history run m end fits sound right) None none (own t.actor (before run t)) t AlreadyOpen says.says l refl

      stands : Stands l.kept (writing_at run t) (reader_at run t) l.last
      stands = l.stands (lives m sound n right.history right.calls.blocks (whole_history run m end fits sound right) None none (own t.actor (before run t)) t AlreadyOpen says.says l)

      not_used : UsesReader t.statement → ⊥
      not_used uses = (let u = refused_uses m sound n right.history right.calls.blocks (whole_history run m end fits sound right) None none (own t.actor (before run t)) t AlreadyOpen says.says l uses in let clash : AlreadyOpen ≡ NotOpen = u.0 in cc)

      has_reader : (AlreadyOpen ≡ NoFile) ⊎ ((AlreadyOpen ≡ AlreadyOpen) × (reader_at run t ≢ None)) → is_some (reader_at run t) ≡ true
      has_reader (inl no_file) = absurd (let clash : AlreadyOpen ≡ NoFile = no_file in cc)
      has_reader (inr (same, some)) = not_none (reader_at run t) some

      by : (s : Statement) → t.statement ≡ s → (name_of s ≢ None) × MayBeReady false run t s
      by (Open name) is = (has_name name, may_have (writing_at run t) (stands.known (subst (HasIt l.kept.writer) is has)))
      by (Ropen name workers) is = (has_name name, has_reader (refused_opens m sound n right.history right.calls.blocks (whole_history run m end fits sound right) None none (own t.actor (before run t)) t AlreadyOpen says.says l name workers is))
      by (Read at len) is = absurd (not_used (subst UsesReader (sym is) tt))
      by (Verify at content) is = absurd (not_used (subst UsesReader (sym is) tt))
      by Map is = absurd (not_used (subst UsesReader (sym is) tt))
      by Refresh is = absurd (not_used (subst UsesReader (sym is) tt))
      by Rclose is = absurd (not_used (subst UsesReader (sym is) tt))
      by (Write at content) is = absurd (subst (HasIt l.kept.writer) is has)
      by Sync is = absurd (subst (HasIt l.kept.writer) is has)
      by Close is = absurd (subst (HasIt l.kept.writer) is has)
      by (Stat name) is = absurd (subst (HasIt l.kept.writer) is has)
      by (Flatten name) is = absurd (subst (HasIt l.kept.writer) is has)
      by (Recover name) is = absurd (subst (HasIt l.kept.writer) is has)
      by (Trunc name size) is = absurd (subst (HasIt l.kept.writer) is has)
      by (Rename name to) is = absurd (subst (HasIt l.kept.writer) is has)
      by Ls is = absurd (subst (HasIt l.kept.writer) is has)
      by (Arms call bytes) is = absurd (subst (HasIt l.kept.writer) is has)

  -- the law of this file
  pub refusals_told : HasRefusals run
  refusals_told = record {
    uses = λ t why says uses. refused_uses m sound (chain_of run m end fits sound right t says.is_line).parts.number right.history right.calls.blocks (whole_history run m end fits sound right) None none (own t.actor (before run t)) t why says.says (line_stands t why says) uses;
    opens = λ t name workers why says asked. refused_opens m sound (chain_of run m end fits sound right t says.is_line).parts.number right.history right.calls.blocks (whole_history run m end fits sound right) None none (own t.actor (before run t)) t why says.says (line_stands t why says) name workers asked;
    again = again_told;
  }
