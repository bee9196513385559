-- A writer that a line opened is open in the table as long as no line of its actor tells of a stop, and none is of a close.
use Rattle.std.proofs.Common.{◌≡◌, ◌⊎◌, inl, inr, ℕ, Bool, true, false, List, [], ◌∷◌, ◌++◌, Option, Some, Ok, refl, sym, ap, ◌∙◌, subst, append_assoc}
use Rattle.std.specs.List.{AllByRecursion}
use Rattle.std.proofs.lemmas.List.{append-nil}
use Rattle.mount_model.specs.History.{Event}
use Rattle.mount_model.specs.Table.{is_live}
use Rattle.mount_model.proofs.Facts.{IsOnNoWriter}
use Rattle.mount_sound.specs.Owed.{IsLawful}
use Rattle.writer_flow.specs.declared.handle.WriterHandle.{WriterHandle}
use Rattle.mount_model.specs.Running.{Runs}
use Rattle.writer_flow.specs.Opening.{open_program}
use Rattle.reader_laws.specs.Moments.{Dropping, IsSoundAt, Moment, moment_after, next_moment}
use Rattle.reader_laws.proofs.Gathered.Facts.{legal_first, legal_rest, moment-append}
use Rattle.script_lang.specs.declared.line.Outcome.TheVariants as line
use Rattle.script_lang.specs.declared.script.Statement.{Statement}
use Rattle.script_lang.specs.declared.script.Statement.TheVariants as say
use Rattle.outcomes.specs.Data.{bytes_of}
use Rattle.actor_core.specs.declared.kept.Kept.{Kept}
use Rattle.actor_core.specs.Statements.{disarmed, work_of}
use Rattle.actor_core.specs.Writers.{syncs, writes as writes_statement}
use Rattle.headline_laws.specs.OneFile.{OneFile}
use Rattle.headline_laws.specs.OneWriter.{OneWriter}
use Rattle.headline_laws.proofs.Plays.Facts.{ComesTo, GoesSo, IsSparing, KeepsIts, LetsUpTo, Next, breaks, came_up_to, lets, lets_none, next_first, statement_spares}
use Rattle.headline.specs.Run.{Told}
use Rattle.headline.specs.Writers.{Account, told_of}
use Rattle.headline_laws.proofs.Contents.Entering.{never_twice, opens_in}
use Rattle.headline_laws.proofs.Landed.Bounded.{Keeps, idle_keeps, line_keeps}
use Rattle.headline_laws.proofs.Statements.Living.{StaysSo, lets_open, syncs_stays, writes_stays}
use Rattle.headline_laws.proofs.Landed.Machines.{IsOpenSo, IsOutSo, alive_does, greets}
use Rattle.headline_laws.proofs.OrderlyLines.Standing.{stopped_or}
use Rattle.headline_laws.proofs.Statements.Did.{IsOpen, StopsSo, WritesSo}
use Rattle.headline_laws.proofs.Statements.Does.{Ended, did, was_gone}
use Rattle.headline_laws.proofs.Statements.Known.{HasEntered, IsNotOpened, KeepsOld, OpensNew, entered_more, writer_step}
use Rattle.headline_laws.proofs.Story.Opened.{OpenRun, opening_came}
use Rattle.headline_laws.proofs.Story.Parts.{Comes, Idles, PartOf}
use Rattle.headline_laws.proofs.Story.Shown.{IsShown, ShownEach, here_next}
use Rattle.headline_laws.proofs.Trees.Openings.{IsOpenNow, log_opens, opening_makes}
use Rattle.headline_laws.proofs.Trees.WriterStands.{was_open}

clashes : (b : Bool) → b ≡ true → b ≡ false → ⊥
clashes b on off = cc

-- the line is of no close, and tells of no stop
abbrev pub GoesOn : Told → Type 0
GoesOn t = (t.statement ≡ say.Close → ⊥) × (t.outcome ≡ line.Stopped → ⊥)

module _ (m : Moment) (sound : IsSoundAt m) (n : ℕ) (history : List Event) (blocks : List (List Event)) (whole : Next m [] history) (cap : ℕ) (d : Dropping) where
  abbrev pub Open : List Event → Type 0
  Open done = IsOpenNow n d.writer (moment_after m done).state

  -- while its actor makes no call
  pub idle_open : (done later rest : List Event) → history ≡ later ++ rest → Idles n history blocks done later → Open done → Open later
  idle_open done later rest is i o =
      let ends : moment_after (moment_after m done) i.idle ≡ moment_after m later = sym (moment-append m done i.idle) ∙ ap (moment_after m) (sym i.is) in
      let lawful : IsLawful (moment_after m done).state i.idle = legal_rest m done i.idle (legal_first m (done ++ i.idle) rest (subst (IsLawful m.state) (is ∙ ap (λ z. z ++ rest) i.is) whole.lawful)) in
      subst (λ (x : Moment). IsOpenNow n d.writer x.state) ends (lets_open n d.writer (moment_after m done) i.idle lawful (lets_none n d.writer i.idle i.none) o)

  -- one line
  module _ (kept : Kept) (file : Option OneFile) (writer : Option OneWriter) (t : Told) (p : PartOf n history blocks kept t.phase t.statement) (s : IsShown m sound n history blocks whole kept file writer t p.earlier p.mine) where
    abbrev now : Moment
    now = moment_after m p.earlier

    next : Next m p.earlier p.mine
    next = next_first m p.earlier p.mine p.later (here_next m sound n history blocks whole p.earlier p.mine p.later p.split)

    module _ (handle : WriterHandle) (has : kept.writer ≡ Some handle) (its : handle.writer ≡ d.writer) (alive : kept.gone ≡ false) (o : IsOpenNow n d.writer now.state) where
      abbrev Stays : Type 0
      Stays = StaysSo n d.writer now p.mine p.e

      comes_so : (z : Statement) → t.statement ≡ z → ComesTo n (work_of kept z) p.mine p.spent p.e
      comes_so z is = subst (λ x. ComesTo n (work_of kept x) p.mine p.spent p.e) is p.comes

      -- a statement on no writer
      spared_stays : (z : Statement) → t.statement ≡ z → IsSparing (Some handle) z → Stays
      spared_stays z is spares = by up
        where
          goes : GoesSo IsOnNoWriter (KeepsIts kept.writer) (work_of kept z)
          goes = statement_spares kept z (subst (λ w. IsSparing w z) (sym has) spares)

          up : LetsUpTo n d.writer p.mine p.e
          up = came_up_to n d.writer (KeepsIts kept.writer) (work_of kept z) p.mine p.spent p.e goes (comes_so z is)

          by : LetsUpTo n d.writer p.mine p.e → Stays
          by (lets let_be) = inr (lets_open n d.writer now p.mine next.lawful let_be o)
          by (breaks front event later bytes is_split let_be own broken off none gone) = inl gone

      -- behind a greeting
      behind : (first rest : List Event) → p.mine ≡ first ++ rest → StaysSo n d.writer (moment_after now first) rest p.e → Stays
      behind first rest all (inl gone) = inl gone
      behind first rest all (inr after) = inr (subst (λ (x : Moment). IsOpenNow n d.writer x.state) (sym (moment-append now first rest) ∙ ap (moment_after now) (sym all)) after)

      by_statement : (z : Statement) → t.statement ≡ z → (z ≡ say.Close → ⊥) → Stays
      by_statement (say.Write at content) is unclosed =
          let g = greets n kept (say.Write at content) p.mine p.spent p.e (comes_so (say.Write at content) is) in
          let both : IsLawful now.state (g.first ++ g.rest) = subst (IsLawful now.state) g.all next.lawful in
          let comes = alive_does n g.left (say.Write at content) g.rest p.spent p.e (g.gone_is ∙ alive) g.comes in
          behind g.first g.rest g.all
          (writes_stays n d.writer (disarmed g.left) g.left.armed handle its (moment_after now g.first) g.rest p.spent p.e (legal_rest now g.first g.rest both) (lets_open n d.writer now g.first (legal_first now g.first g.rest both) (g.lets_be d.writer) o) at (bytes_of content)
          (subst (λ w. ComesTo n (writes_statement (disarmed g.left) g.left.armed at (bytes_of content) w) g.rest p.spent p.e) (g.writer ∙ has) comes))
      by_statement say.Sync is unclosed =
          let g = greets n kept say.Sync p.mine p.spent p.e (comes_so say.Sync is) in
          let both : IsLawful now.state (g.first ++ g.rest) = subst (IsLawful now.state) g.all next.lawful in
          let comes = alive_does n g.left say.Sync g.rest p.spent p.e (g.gone_is ∙ alive) g.comes in
          behind g.first g.rest g.all
          (syncs_stays n d.writer (disarmed g.left) g.left.armed handle its (moment_after now g.first) g.rest p.spent p.e (legal_rest now g.first g.rest both) (lets_open n d.writer now g.first (legal_first now g.first g.rest both) (g.lets_be d.writer) o)
          (subst (λ w. ComesTo n (syncs (disarmed g.left) g.left.armed w) g.rest p.spent p.e) (g.writer ∙ has) comes))
      by_statement say.Close is unclosed = absurd (unclosed refl)
      by_statement z is unclosed = spared_stays z is tt

      pub line_stays : (t.statement ≡ say.Close → ⊥) → p.e.kept.gone ≡ false → Open (p.earlier ++ p.mine)
      line_stays unclosed goes_on = by (by_statement t.statement refl unclosed)
        where
          by : Stays → Open (p.earlier ++ p.mine)
          by (inl gone) = absurd (clashes p.e.kept.gone gone goes_on)
          by (inr after) = subst (λ (x : Moment). IsOpenNow n d.writer x.state) (sym (moment-append m p.earlier p.mine)) after

  -- ---- all lines from its opening on

  -- a writer that is open in the table is not out
  pub not_out : (done : List Event) (kept : Kept) (acc : Account) → Open done → IsOutSo n d cap (moment_after m done) kept acc → ⊥
  not_out done kept acc o out = let dead : is_live o.row.stage ≡ false = out.settled.out.dead o.row o.has.there in let live : is_live o.row.stage ≡ true = subst (λ x. is_live x ≡ true) (sym o.is_open) refl in clashes (is_live o.row.stage) live dead

  pub lines_open : (done : List Event) (kept : Kept) (file : Option OneFile) (writer : Option OneWriter) (acc : Account) (ts : List Told) → ShownEach m sound n history blocks whole done kept file writer ts → HasEntered n done d → Keeps m sound n history blocks whole cap d done kept acc
      → Open done → kept.gone ≡ false → AllByRecursion GoesOn ts → Open history
  lines_open done kept file writer acc [] idle entered keeps o alive goes = idle_open done history [] (sym (append-nil history)) idle o
  lines_open done kept file writer acc (t ∷ ts) (p, says, idle, s, more) entered keeps o alive goes =
      by p.ended here (λ goes_on keeps_then open_then. lines_open (p.earlier ++ p.mine) p.e.kept s.new s.new_writer (told_of d.writer cap acc t.statement t.outcome) ts more (entered_more n p.earlier p.mine d entered_here) keeps_then open_then goes_on goes.1)
    where
      o_here : Open p.earlier
      o_here = idle_open done p.earlier (p.mine ++ p.later) p.split idle o

      here : Keeps m sound n history blocks whole cap d p.earlier kept acc
      here = idle_keeps m sound n history blocks whole cap d done p.earlier (p.mine ++ p.later) kept acc p.split idle keeps

      entered_here : HasEntered n p.earlier d
      entered_here = subst (λ es. HasEntered n es d) (sym idle.is) (entered_more n done idle.idle d entered)

      -- the lines behind it
      Later : Type 0
      Later = p.e.kept.gone ≡ false → Keeps m sound n history blocks whole cap d (p.earlier ++ p.mine) p.e.kept (told_of d.writer cap acc t.statement t.outcome) → Open (p.earlier ++ p.mine) → Open history

      on_line : IsOpenSo n d cap (moment_after m p.earlier) kept acc → p.e.kept.gone ≡ false → Later → Open history
      on_line i goes_on later = later goes_on (line_keeps m sound n history blocks whole cap d kept file writer t p says s acc entered_here here) (line_stays kept file writer t p s i.handle (i.keeps alive) i.is.writer alive o_here goes.0.0 goes_on)

      by : Ended kept t.statement p.e → Keeps m sound n history blocks whole cap d p.earlier kept acc → Later → Open history
      by (was_gone is out now_gone) k later = absurd (clashes kept.gone is alive)
      by (did lives dd) (inr out) later = absurd (not_out p.earlier kept acc o_here out)
      by (did lives dd) (inl i) later = elim (stopped_or kept.armed p.e.outcome p.e.kept.gone dd.stops) as (λ _. Open history) [
        | inl stop ↦ absurd (goes.0.1 (says ∙ stop.0))
        | inr on ↦ on_line i on.1 later
      ]

-- ---- no line behind it opens it again

module _ (m : Moment) (sound : IsSoundAt m) (n : ℕ) (history : List Event) (blocks : List (List Event)) (whole : Next m [] history) (d : Dropping) where
  one_id : (x y : ℕ) → line.Opened x ≡ line.Opened y → x ≡ y
  one_id x y is = cc

  opens_not : (kept : Kept) (file : Option OneFile) (writer : Option OneWriter) (t : Told) (p : PartOf n history blocks kept t.phase t.statement) (s : IsShown m sound n history blocks whole kept file writer t p.earlier p.mine) → HasEntered n p.earlier d → t.outcome ≡ line.Opened d.writer → ⊥
  opens_not kept file writer t p s entered is = by (writer_step m n (record { before = p.earlier; events = s.front }) writer t.statement t.outcome s.new_writer s.writes)
    where
      by : OpensNew m n (record { before = p.earlier; events = s.front }) t.statement t.outcome s.new_writer ⊎ KeepsOld writer t.outcome s.new_writer → ⊥
      by (inl opens) = never_twice m history p.earlier p.mine p.later n d opens.it.dropping whole.lawful p.split entered
          (subst (λ es. HasEntered n es opens.it.dropping) (sym s.split) (entered_more n s.front s.rest opens.it.dropping (opens_in m n p.earlier s.front opens.name opens.it opens.opens))) (sym opens.its_id ∙ one_id opens.id d.writer (sym opens.says ∙ is))
      by (inr keeps) = subst IsNotOpened is keeps.not_opened

  pub never_opened : (done : List Event) (kept : Kept) (file : Option OneFile) (writer : Option OneWriter) (ts : List Told) → ShownEach m sound n history blocks whole done kept file writer ts → HasEntered n done d → AllByRecursion (λ (t : Told). t.outcome ≡ line.Opened d.writer → ⊥) ts
  never_opened done kept file writer [] idle entered = tt
  never_opened done kept file writer (t ∷ ts) (p, says, idle, s, more) entered =
      let here : HasEntered n p.earlier d = subst (λ es. HasEntered n es d) (sym idle.is) (entered_more n done idle.idle d entered) in
      (opens_not kept file writer t p s here, never_opened (p.earlier ++ p.mine) p.e.kept s.new s.new_writer ts more (entered_more n p.earlier p.mine d here))

-- ---- behind the line that opened it

-- its log was made, and then its actor called no more
opened_open : (m : Moment) (n : ℕ) (name : List ℕ) (host cap : ℕ) (handle : WriterHandle) (earlier first later : List Event) → IsLawful m.state ((earlier ++ first) ++ later) → Runs n (open_program name host cap) first (Ok handle) → IsOpenNow n handle.writer (moment_after m (earlier ++ first)).state
opened_open m n name host cap handle earlier first later lawful runs =
    let l = opening_makes n name host cap first handle runs in
    let start : Moment = moment_after m earlier in
    let mid : Moment = moment_after start l.first in
    let mine : IsLawful start.state (l.first ++ l.event ∷ l.rest) = subst (IsLawful start.state) l.all (legal_rest m earlier first (legal_first m (earlier ++ first) later lawful)) in
    let here : IsLawful mid.state (l.event ∷ l.rest) = legal_rest start l.first (l.event ∷ l.rest) mine in
    let made : IsOpenNow n handle.writer l.event.after = log_opens n handle.writer mid.state l.event here.1 l.own l.asked l.made in
    let after = lets_open n handle.writer (next_moment mid l.event) l.rest here.2 (lets_none n handle.writer l.rest l.none) made in
    let ends : moment_after m (earlier ++ first) ≡ moment_after (next_moment mid l.event) l.rest = moment-append m earlier first ∙ ap (moment_after start) l.all ∙ moment-append start l.first (l.event ∷ l.rest) in
    subst (λ (x : Moment). IsOpenNow n handle.writer x.state) (sym ends) after

module _ (m : Moment) (n : ℕ) (history : List Event) (blocks : List (List Event)) (whole : Next m [] history) (id : ℕ) (kept : Kept) (t : Told) (p : PartOf n history blocks kept t.phase t.statement) (says : t.outcome ≡ p.e.outcome) (opened : t.outcome ≡ line.Opened id) where
  told_end : p.e.outcome ≡ line.Opened id
  told_end = sym says ∙ opened

  pub opened_alive : p.e.kept.gone ≡ false
  opened_alive = by p.ended
    where
      by : Ended kept t.statement p.e → p.e.kept.gone ≡ false
      by (was_gone is out now_gone) = absurd (let clash : line.Gone ≡ line.Opened id = sym out ∙ told_end in cc)
      by (did lives dd) = subst (λ o. StopsSo kept.armed false o p.e.kept.gone) told_end dd.stops

  pub opened_fresh : IsOpen p.e.kept.writer
  opened_fresh = by p.ended
    where
      its : (name : List ℕ) × (t.statement ≡ say.Open name)
      its = was_open kept t.statement p.e id told_end p.ended

      by : Ended kept t.statement p.e → IsOpen p.e.kept.writer
      by (was_gone is out now_gone) = absurd (let clash : line.Gone ≡ line.Opened id = sym out ∙ told_end in cc)
      by (did lives dd) = subst (λ o. WritesSo kept.writer (say.Open its.0) o p.e.kept.writer) told_end (subst (λ s. WritesSo kept.writer s p.e.outcome p.e.kept.writer) its.1 dd.writes)

  pub line_opens : IsOpenNow n id (moment_after m (p.earlier ++ p.mine)).state
  line_opens = by (was_open kept t.statement p.e id told_end p.ended)
    where
      from : (name : List ℕ) → OpenRun n kept name id p.mine p.e → IsOpenNow n id (moment_after m (p.earlier ++ p.mine)).state
      from name r =
          let same : p.earlier ++ p.mine ≡ (p.earlier ++ r.pre) ++ r.first = ap (λ z. p.earlier ++ z) (r.all ∙ ap (λ z. r.pre ++ (r.first ++ z)) r.over ∙ ap (λ z. r.pre ++ z) (append-nil r.first)) ∙ sym (append_assoc p.earlier r.pre r.first) in
          let lawful : IsLawful m.state (((p.earlier ++ r.pre) ++ r.first) ++ p.later) = subst (IsLawful m.state) (p.split ∙ sym (append_assoc p.earlier p.mine p.later) ∙ ap (λ z. z ++ p.later) same) whole.lawful in
          subst (λ k. IsOpenNow n k (moment_after m (p.earlier ++ p.mine)).state) r.is (subst (λ es. IsOpenNow n r.handle.writer (moment_after m es).state) (sym same) (opened_open m n name kept.host kept.cap r.handle (p.earlier ++ r.pre) r.first p.later lawful r.runs))

      by : (name : List ℕ) × (t.statement ≡ say.Open name) → IsOpenNow n id (moment_after m (p.earlier ++ p.mine)).state
      by (name, is) = from name (opening_came n name id p.spent p.e told_end kept p.mine (subst (λ s. Comes n (work_of kept s) p.mine p.spent p.e) is p.comes))
