-- What the lines of one actor show, statement by statement and phase by phase.
use Rattle.std.proofs.Common.{◌≡◌, ℕ, List, [], ◌∷◌, ◌++◌, Option, Result, refl, sym, ap, ◌∙◌, subst, append_assoc}
use Rattle.std.specs.Prelude.{◌==◌}
use Rattle.std.specs.List.{AllByRecursion}
use Rattle.std.proofs.lemmas.List.Elements.{filter-append}
use Rattle.std.proofs.lemmas.List.{append-nil}
use Rattle.turn_object.specs.Callers.{made_by}
use Rattle.turn_object.specs.Front.{KeepsIn}
use Rattle.mount_model.specs.MakesCalls.{one_history}
use Rattle.mount_model.specs.Process.{ends, pauses}
use Rattle.mount_model.specs.Plays.{Plays, PlaysAll}
use Rattle.mount_model.proofs.Stories.Facts.{plays_after}
use Rattle.mount_model.specs.History.{Event}
use Rattle.mount_model.specs.declared.stuck.Stuck.{Stuck}
use Rattle.index_reader.specs.declared.sharing.Share.{Share}
use Rattle.script_lang.specs.declared.line.Line.{Line}
use Rattle.script_lang.specs.declared.script.Numbered.{Numbered}
use Rattle.script_lang.specs.declared.script.Phase.{Phase}
use Rattle.script_lang.specs.Ranges.{FitsStatement}
use Rattle.reader_laws.specs.Moments.{Moment, IsSoundAt, moment_after}
use Rattle.actor_core.specs.declared.kept.Kept.{Kept}
use Rattle.actor_core.specs.Progress.{line_of}
use Rattle.actor_core.specs.Statements.{work_of}
use Rattle.run_core.specs.Cast.{statements_in}
use Rattle.run_core.specs.Course.{Course, one_by_one, own, through}
use Rattle.headline_laws.specs.OneFile.{OneFile}
use Rattle.headline_laws.specs.Opening.{Stretch}
use Rattle.headline_laws.specs.Readers.{ShowsEach}
use Rattle.headline_laws.specs.OneWriter.{OneWriter}
use Rattle.headline_laws.proofs.Plays.Callers.Carrying.{behind, same_course}
use Rattle.headline_laws.proofs.Plays.Writers.OneWriters.{KeepsWriter}
use Rattle.headline_laws.proofs.Plays.Readers.Opened.{Keeps}
use Rattle.headline_laws.proofs.Plays.Callers.Standing.{AllOf, Next, all_of_later, keeps_first, next_first, next_is, next_rest}
use Rattle.headline_laws.proofs.Plays.Lines.Statements.{Showed, statement_ends}

abbrev pub AllFit : List Numbered → Type 0
AllFit statements = AllByRecursion (λ (s : Numbered). FitsStatement s.statement) statements

module _ (start : Moment) (sound : IsSoundAt start) (n : ℕ) where
  -- ---- one phase

  abbrev From : List Event → List Event → Stretch
  From before events = record { before = before; events = events }

  -- The caller made these statements in the first events of a part, with these lines, and goes on behind them.
  record MadeSome (before : List Event) (old : Option OneFile) (writer : Option OneWriter) (statements : List Numbered) (next : Kept → Course) (part : List Event) (ws : List (List Event)) (lines : List Line) (left : Course) : Type 0 where
    pub mine : List Event
    pub rest : List Event
    pub spent : List (List Event)
    pub others : List (List Event)
    pub told : List Line
    pub more : List Line
    pub kept : Kept
    pub new : Option OneFile
    pub new_writer : Option OneWriter
    pub all : part ≡ mine ++ rest
    pub are : ws ≡ spent ++ others
    pub lines_are : lines ≡ told ++ more
    pub keeps : Keeps (moment_after start (before ++ mine)) kept.reader new
    pub keeps_writer : KeepsWriter n (before ++ mine) (moment_after start (before ++ mine)).state kept new_writer
    pub goes_on : Plays n (next kept) rest others more left
    pub shows : (later : List Event) (ss : List Numbered) (ls : List Line) → ShowsEach start n (From (before ++ mine) later) new new_writer ss ls → ShowsEach start n (From before (mine ++ later)) old writer (statements ++ ss) (told ++ ls)

  made_some : (statements : List Numbered) (next : Kept → Course) (kept : Kept) (before part : List Event) (old : Option OneFile) (writer : Option OneWriter) (ws : List (List Event)) (lines : List Line) (left : Course) → AllFit statements → Keeps (moment_after start before) kept.reader old → KeepsWriter n before (moment_after start before).state kept writer → Next start before part → AllOf before part ws
      → Plays n (one_by_one statements next kept) part ws lines left → MadeSome before old writer statements next part ws lines left
  made_some [] next kept before part old writer ws lines left fits keeps known whole all plays = record {
    mine = [];
    rest = part;
    spent = [];
    others = ws;
    told = [];
    more = lines;
    kept = kept;
    new = old;
    new_writer = writer;
    all = refl;
    are = refl;
    lines_are = refl;
    keeps = subst (λ es. Keeps (moment_after start es) kept.reader old) (sym (append-nil before)) keeps;
    keeps_writer = subst (λ es. KeepsWriter n es (moment_after start es).state kept writer) (sym (append-nil before)) known;
    goes_on = plays;
    shows = λ later ss ls shown. subst (λ es. ShowsEach start n (From es later) old writer ss ls) (append-nil before) shown;
  }
  made_some (s ∷ statements) next kept before part old writer ws lines left fits keeps known whole all plays =
      let later : Kept → Course = λ left_kept. one_by_one statements next left_kept in
      let e = statement_ends start sound n (λ ending. line_of s.line ending) later before kept s.statement old writer part ws lines left fits.0 keeps known whole all (subst (λ q. Plays n q part ws lines left) (same_course s.line later (work_of kept s.statement)) plays) in
      let g : Showed start n before old writer s.statement e.mine e.ending = e.good in
      let next_ones : Next start (before ++ e.mine) e.rest = next_rest start before e.mine e.rest (next_is start before part (e.mine ++ e.rest) e.all whole) in
      let r = made_some statements next e.ending.kept (before ++ e.mine) e.rest g.new g.new_writer e.others e.more left fits.1 g.keeps g.keeps_writer next_ones (all_of_later before part e.mine e.rest ws e.spent e.others e.all e.are all) e.goes_on in
      let one : Line = line_of s.line e.ending in
      record {
        mine = e.mine ++ r.mine;
        rest = r.rest;
        spent = e.spent ++ r.spent;
        others = r.others;
        told = one ∷ r.told;
        more = r.more;
        kept = r.kept;
        new = r.new;
        new_writer = r.new_writer;
        all = e.all ∙ ap (λ z. e.mine ++ z) r.all ∙ sym (append_assoc e.mine r.mine r.rest);
        are = e.are ∙ ap (λ z. e.spent ++ z) r.are ∙ sym (append_assoc e.spent r.spent r.others);
        lines_are = e.told ∙ ap (λ z. one ∷ z) r.lines_are;
        keeps = subst (λ es. Keeps (moment_after start es) r.kept.reader r.new) (append_assoc before e.mine r.mine) r.keeps;
        keeps_writer = subst (λ es. KeepsWriter n es (moment_after start es).state r.kept r.new_writer) (append_assoc before e.mine r.mine) r.keeps_writer;
        goes_on = r.goes_on;
        shows = λ later_events ss ls shown. (
          e.mine,
          r.mine ++ later_events,
          g.new,
          g.new_writer,
          append_assoc e.mine r.mine later_events,
          refl,
          g.shows,
          g.writes,
          r.shows later_events ss ls (subst (λ es. ShowsEach start n (From es later_events) r.new r.new_writer ss ls) (sym (append_assoc before e.mine r.mine)) shown),
        );
      }

  -- ---- one phase after the other

  abbrev AllPhasesFit : ℕ → List Phase → Type 0
  AllPhasesFit actor phases = AllByRecursion (λ (phase : Phase). AllFit (own actor phase.statements)) phases

  own_first : (actor : ℕ) (phase : Phase) (phases : List Phase) → own actor (statements_in (phase ∷ phases)) ≡ own actor phase.statements ++ own actor (statements_in phases)
  own_first actor phase phases = filter-append (λ (s : Numbered). s.actor == actor) phase.statements (statements_in phases)

  -- an actor at its end tells no more lines
  tells_none : (blocks : List (List Event)) (ws : List (List Event)) (lines : List Line) → PlaysAll {X = Result Share Stuck} n ends blocks ws lines ends → lines ≡ []
  tells_none [] ws lines plays = plays.1
  tells_none (block ∷ blocks) ws lines p =
      let rest : p.more ≡ [] = tells_none blocks p.later p.more (subst (λ q. PlaysAll n q blocks p.later p.more ends) p.plays.1 p.goes_on) in
      p.lines_are ∙ ap (λ z. z ++ p.more) p.plays.0.no_lines ∙ rest

  -- the workers of a phase, of which the later ones come behind
  first_of_all : (before idle block later_events : List Event) (ws these later : List (List Event)) → ws ≡ these ++ later → AllOf before (idle ++ (block ++ later_events)) ws → AllOf before (idle ++ block) these
  first_of_all before idle block later_events ws these later are all = record {
    tail = later_events ++ all.tail;
    keeps = subst (λ es. AllByRecursion (KeepsIn (before ++ es)) these) (ap (λ z. z ++ all.tail) (sym (append_assoc idle block later_events)) ∙ append_assoc (idle ++ block) later_events all.tail)
        (keeps_first (before ++ ((idle ++ (block ++ later_events)) ++ all.tail)) these later (subst (AllByRecursion (KeepsIn (before ++ ((idle ++ (block ++ later_events)) ++ all.tail)))) are all.keeps));
  }

  -- what the later phases show, wherever they begin
  abbrev Later : ℕ → List Phase → List (List Event) → Type 0
  Later actor phases blocks = (kept : Kept) (before idle : List Event) (old : Option OneFile) (writer : Option OneWriter) (ws : List (List Event)) (lines : List Line) → made_by n idle ≡ [] → Keeps (moment_after start before) kept.reader old → KeepsWriter n before (moment_after start before).state kept writer
      → Next start before (idle ++ one_history blocks) → AllOf before (idle ++ one_history blocks) ws → PlaysAll n (through actor phases kept) blocks ws lines ends
      → ShowsEach start n (From before (idle ++ one_history blocks)) old writer (own actor (statements_in phases)) lines

  -- a phase in its block, and those behind it
  phase_shows : (actor : ℕ) (phase : Phase) (phases : List Phase) (kept : Kept) (before idle block : List Event) (old : Option OneFile) (writer : Option OneWriter) (blocks these ws later : List (List Event)) (told lines more : List Line) (left : Course) → AllFit (own actor phase.statements) → Later actor phases blocks
      → Keeps (moment_after start before) kept.reader old → KeepsWriter n before (moment_after start before).state kept writer → Next start before (idle ++ (block ++ one_history blocks)) → AllOf before (idle ++ (block ++ one_history blocks)) ws → ws ≡ these ++ later → lines ≡ told ++ more
      → Plays n (through actor (phase ∷ phases) kept) (idle ++ block) these told left → PlaysAll n left blocks later more ends
      → ShowsEach start n (From before (idle ++ (block ++ one_history blocks))) old writer (own actor (statements_in (phase ∷ phases))) lines
  phase_shows actor phase phases kept before idle block old writer blocks these ws later told lines more left fits shows_later keeps known whole all are lines_are plays goes_on =
      let rest : List Event = one_history blocks in
      let together : idle ++ (block ++ rest) ≡ (idle ++ block) ++ rest = sym (append_assoc idle block rest) in
      let here : Next start before (idle ++ block) = next_first start before (idle ++ block) rest (next_is start before (idle ++ (block ++ rest)) ((idle ++ block) ++ rest) together whole) in
      let r = made_some (own actor phase.statements) (λ later_kept. pauses (through actor phases later_kept)) kept before (idle ++ block) old writer these told left fits keeps known here (first_of_all before idle block rest ws these later are all) plays in
      let rests = r.goes_on.0 in
      let split : idle ++ (block ++ rest) ≡ r.mine ++ (r.rest ++ rest) = together ∙ ap (λ z. z ++ rest) r.all ∙ append_assoc r.mine r.rest rest in
      let spent : ws ≡ these ++ later = are in
      let on : PlaysAll n (through actor phases r.kept) blocks later more ends = subst (λ q. PlaysAll n q blocks later more ends) r.goes_on.1 goes_on in
      let shown = shows_later r.kept (before ++ r.mine) r.rest r.new r.new_writer later more rests.calls r.keeps r.keeps_writer (next_rest start before r.mine (r.rest ++ rest) (next_is start before (idle ++ (block ++ rest)) (r.mine ++ (r.rest ++ rest)) split whole))
      (all_of_later before (idle ++ (block ++ rest)) r.mine (r.rest ++ rest) ws these later split spent all) on in
      let told_all : told ≡ r.told = r.lines_are ∙ ap (λ z. r.told ++ z) rests.no_lines ∙ append-nil r.told in
      let out : ShowsEach start n (From before (r.mine ++ (r.rest ++ rest))) old writer (own actor phase.statements ++ own actor (statements_in phases)) (r.told ++ more) = r.shows (r.rest ++ rest) (own actor (statements_in phases)) more shown in
      subst (λ es. ShowsEach start n (From before es) old writer (own actor (statements_in (phase ∷ phases))) lines) (sym split)
      (subst (λ ss. ShowsEach start n (From before (r.mine ++ (r.rest ++ rest))) old writer ss lines) (sym (own_first actor phase phases))
      (subst (ShowsEach start n (From before (r.mine ++ (r.rest ++ rest))) old writer (own actor phase.statements ++ own actor (statements_in phases))) (sym (lines_are ∙ ap (λ z. z ++ more) told_all)) out))

  -- In events of others the actor waits for a phase; it goes through its phases in these blocks.
  pub phases_show : (actor : ℕ) (phases : List Phase) (blocks : List (List Event)) → AllPhasesFit actor phases → (kept : Kept) (before idle : List Event) (old : Option OneFile) (writer : Option OneWriter) (ws : List (List Event)) (lines : List Line) → made_by n idle ≡ [] → Keeps (moment_after start before) kept.reader old → KeepsWriter n before (moment_after start before).state kept writer
      → Next start before (idle ++ one_history blocks) → AllOf before (idle ++ one_history blocks) ws → PlaysAll n (through actor phases kept) blocks ws lines ends
      → ShowsEach start n (From before (idle ++ one_history blocks)) old writer (own actor (statements_in phases)) lines
  phases_show actor [] blocks fits kept before idle old writer ws lines none keeps known whole all plays = tells_none blocks ws lines plays
  phases_show actor (phase ∷ phases) [] fits kept before idle old writer ws lines none keeps known whole all plays =
      let at_end : Plays n ends (idle ++ []) [] [] ends = (record { calls = behind n idle [] none; no_workers = refl; no_lines = refl }, refl) in
      phase_shows actor phase phases kept before idle [] old writer [] [] ws [] [] lines [] ends fits.0 (phases_show actor phases [] fits.1) keeps known whole all plays.0 plays.1 (subst (λ q. Plays n q (idle ++ []) [] [] ends) plays.2 at_end) (refl, refl, refl)
  phases_show actor (phase ∷ phases) (block ∷ blocks) fits kept before idle old writer ws lines none keeps known whole all p =
      phase_shows actor phase phases kept before idle block old writer blocks p.these ws p.later p.told lines p.more p.left fits.0 (phases_show actor phases blocks fits.1) keeps known whole all p.are p.lines_are
      (plays_after n (through actor (phase ∷ phases) kept) idle block p.these p.told p.left none p.plays) p.goes_on
