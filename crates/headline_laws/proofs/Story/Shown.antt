-- What each line of an actor shows in its own part of the history: of the file that the actor has open, and of its writer.
use Rattle.std.proofs.Common.{◌≡◌, ℕ, List, [], ◌∷◌, ◌++◌, Option, sym, ap, ◌∙◌, subst, append_assoc}
use Rattle.std.specs.List.{AllByRecursion}
use Rattle.turn_object.specs.Callers.{made_by}
use Rattle.mount_model.specs.Process.{ends}
use Rattle.mount_model.specs.History.{Event}
use Rattle.mount_model.specs.State.{State}
use Rattle.mount_sound.specs.Owed.{IsLawful}
use Rattle.reader_laws.specs.Moments.{IsSoundAt, Moment, moment_after}
use Rattle.reader_laws.proofs.Gathered.Facts.{follows, legal_first, legal_rest, moment-append}
use Rattle.script_lang.specs.Ranges.{FitsStatement}
use Rattle.actor_core.specs.declared.kept.Kept.{Kept}
use Rattle.actor_core.specs.Endings.{Ending}
use Rattle.actor_core.specs.Statements.{work_of}
use Rattle.headline_laws.specs.OneFile.{OneFile}
use Rattle.headline_laws.specs.OneWriter.{OneWriter}
use Rattle.headline_laws.specs.Showing.{Shows}
use Rattle.headline_laws.specs.Writing.{ShowsWriting}
use Rattle.headline_laws.proofs.Plays.Facts.{Keeps, KeepsWriter, Next, Showed, Writes, by_itself, end_alone, keeps_later, lets_none, next_first, next_is, next_rest, nothing_more, statement_ends, writes_later}
use Rattle.headline.specs.Run.{Told}
use Rattle.headline_laws.proofs.Story.Parts.{Idles, PartOf, ToldParts}

abbrev pub AllFit : List Told → Type 0
AllFit ts = AllByRecursion (λ (t : Told). FitsStatement t.statement) ts

-- From this state on, the history has these events, which it may, and the actor calls under this number.
module _ (m : Moment) (sound : IsSoundAt m) (n : ℕ) (history : List Event) (blocks : List (List Event)) (whole : Next m [] history) where
  -- ---- what a line shows

  -- what an actor has after these events: the file of the reader that it keeps, and the writer
  pub record HasSo (kept : Kept) (file : Option OneFile) (writer : Option OneWriter) (done : List Event) : Type 0 where
    pub keeps : Keeps (moment_after m done) kept.reader file
    pub known : KeepsWriter n done (moment_after m done).state kept writer

  -- In the first events of its part the line shows so much of the file and of the writer that its actor has, and the actor makes no call behind them.
  pub record IsShown (kept : Kept) (file : Option OneFile) (writer : Option OneWriter) (t : Told) (earlier mine : List Event) : Type 0 where
    pub had : HasSo kept file writer earlier
    pub front : List Event
    pub rest : List Event
    pub split : mine ≡ front ++ rest
    pub none_behind : made_by n rest ≡ []
    pub new : Option OneFile
    pub new_writer : Option OneWriter
    pub shows : Shows m n (record { before = earlier; events = front }) file t.statement t.outcome new
    pub writes : ShowsWriting m n (record { before = earlier; events = front }) writer t.statement t.outcome new_writer

  -- so it is of each line, one behind the other
  abbrev pub ShownEach : List Event → Kept → Option OneFile → Option OneWriter → List Told → Type 0
  ShownEach done kept file writer [] = Idles n history blocks done history
  ShownEach done kept file writer (t ∷ ts) =
      (p : PartOf n history blocks kept t.phase t.statement) × (t.outcome ≡ p.e.outcome) × Idles n history blocks done p.earlier
      × (s : IsShown kept file writer t p.earlier p.mine) × ShownEach (p.earlier ++ p.mine) p.e.kept s.new s.new_writer ts

  -- ---- an actor waits

  -- what it had it has still while it makes no call
  waits : (kept : Kept) (file : Option OneFile) (writer : Option OneWriter) (done idle : List Event) → IsLawful (moment_after m done).state idle → made_by n idle ≡ [] → HasSo kept file writer done → HasSo kept file writer (done ++ idle)
  waits kept file writer done idle lawful none has =
      let now : Moment = moment_after m done in
      let is : moment_after now idle ≡ moment_after m (done ++ idle) = sym (moment-append m done idle) in
      record {
        keeps = subst (λ x. Keeps x kept.reader file) is (keeps_later now kept.reader file idle lawful has.keeps);
        known = λ alive. subst (λ (st : State). Writes n (done ++ idle) st kept.writer writer) (sym (follows now idle).0 ∙ ap (λ (x : Moment). x.state) is) (writes_later n done now.state kept.writer writer idle lawful (λ id. lets_none n id idle none) (has.known alive)).0;
      }

  -- ---- one statement after the other

  same_end : (a b : Ending) (more : List Ending) → a ∷ [] ≡ b ∷ more → b ≡ a
  same_end a b more is = cc

  pub here_next : (earlier mine later : List Event) → history ≡ earlier ++ (mine ++ later) → Next m earlier (mine ++ later)
  here_next earlier mine later split = next_rest m [] earlier (mine ++ later) (next_is m [] history (earlier ++ (mine ++ later)) split whole)

  pub shown_each : (done : List Event) (kept : Kept) (file : Option OneFile) (writer : Option OneWriter) (ts : List Told) → AllFit ts → HasSo kept file writer done → ToldParts n history blocks done kept ts → ShownEach done kept file writer ts
  shown_each done kept file writer [] fits has parts = parts
  shown_each done kept file writer (t ∷ ts) fits has (p, says, idle, more) =
      let next : Next m p.earlier (p.mine ++ p.later) = here_next p.earlier p.mine p.later p.split in
      let before : HasSo kept file writer p.earlier = subst (HasSo kept file writer) (sym idle.is) (waits kept file writer done idle.idle (legal_rest m done idle.idle (subst (IsLawful m.state) idle.is next.was_lawful)) idle.none has) in
      let e = statement_ends m sound n end_alone nothing_more p.earlier kept t.statement file writer p.mine p.spent (p.e ∷ []) ends fits.0 before.keeps before.known (next_first m p.earlier p.mine p.later next) p.whole (by_itself n (work_of kept t.statement) p.mine p.spent p.e p.comes) in
      let g : Showed m n p.earlier file writer t.statement e.mine e.ending = e.good in
      let same : e.ending ≡ p.e = same_end p.e e.ending e.more e.told in
      let says_so : e.ending.outcome ≡ t.outcome = ap (λ (x : Ending). x.outcome) same ∙ sym says in
      let mine_next : Next m (p.earlier ++ e.mine) (e.rest ++ p.later) = next_rest m p.earlier e.mine (e.rest ++ p.later) (next_is m p.earlier (p.mine ++ p.later) (e.mine ++ (e.rest ++ p.later)) (ap (λ z. z ++ p.later) e.all ∙ append_assoc e.mine e.rest p.later) next) in
      let ended : HasSo p.e.kept g.new g.new_writer (p.earlier ++ e.mine) = subst (λ (x : Ending). HasSo x.kept g.new g.new_writer (p.earlier ++ e.mine)) same (record { keeps = g.keeps; known = g.keeps_writer }) in
      let after : HasSo p.e.kept g.new g.new_writer ((p.earlier ++ e.mine) ++ e.rest) = waits p.e.kept g.new g.new_writer (p.earlier ++ e.mine) e.rest (legal_first (moment_after m (p.earlier ++ e.mine)) e.rest p.later mine_next.lawful) e.goes_on.0.calls ended in
      let behind : (p.earlier ++ e.mine) ++ e.rest ≡ p.earlier ++ p.mine = append_assoc p.earlier e.mine e.rest ∙ ap (λ z. p.earlier ++ z) (sym e.all) in (
        p,
        says,
        idle,
        record {
          had = before;
          front = e.mine;
          rest = e.rest;
          split = e.all;
          none_behind = e.goes_on.0.calls;
          new = g.new;
          new_writer = g.new_writer;
          shows = subst (λ o. Shows m n (record { before = p.earlier; events = e.mine }) file t.statement o g.new) says_so g.shows;
          writes = subst (λ o. ShowsWriting m n (record { before = p.earlier; events = e.mine }) writer t.statement o g.new_writer) says_so g.writes;
        },
        shown_each (p.earlier ++ p.mine) p.e.kept g.new g.new_writer ts fits.1 (subst (HasSo p.e.kept g.new g.new_writer) behind after) more,
      )
