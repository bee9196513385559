-- Behind the line that opened a writer nothing of it has landed, and its actor has it open.
use Rattle.std.proofs.Common.{◌≡◌, ◌≤◌, inl, ℕ, true, false, Bool, List, [], ◌∷◌, ◌++◌, length, Option, Some, Ok, refl, sym, ap, ◌∙◌, subst, append_assoc, arith, length-append}
use Rattle.std.proofs.lemmas.List.{append-nil}
use Rattle.mount_model.specs.declared.call.Ask.{Ask}
use Rattle.mount_model.specs.History.{Event, state_after}
use Rattle.mount_sound.specs.Owed.{IsLawful}
use Rattle.mount_model.specs.Running.{Runs}
use Rattle.reader_laws.specs.Moments.{Dropping, IsSoundAt, Moment, moment_after, next_moment}
use Rattle.reader_laws.proofs.Gathered.Moments.Stepping.{sound_next}
use Rattle.reader_laws.proofs.Gathered.Facts.{follows, legal_first, legal_rest, moment-append, sound_after}
use Rattle.writer_flow.specs.declared.handle.WriterHandle.{WriterHandle}
use Rattle.writer_flow.specs.Opening.{open_program}
use Rattle.writer_laws.specs.Knowing.{HasRow, IsOpened}
use Rattle.writer_laws.proofs.Facts.{EnteredBy, entered_by, opened_ends}
use Rattle.script_lang.specs.declared.line.Outcome.TheVariants as line
use Rattle.script_lang.specs.declared.script.Statement.TheVariants.{Open}
use Rattle.actor_core.specs.declared.kept.Kept.{Kept}
use Rattle.actor_core.specs.Statements.{work_of}
use Rattle.headline_laws.specs.OneFile.{OneFile}
use Rattle.headline_laws.specs.OneWriter.{OneWriter}
use Rattle.headline_laws.proofs.Plays.Facts.{Next}
use Rattle.headline.specs.Run.{Told}
use Rattle.headline.specs.Files.{reader_after, reader_next}
use Rattle.headline.specs.Changes.{Writing, writing_after, writing_next}
use Rattle.headline.specs.Writers.{nothing}
use Rattle.headline_laws.proofs.Contents.Entering.{entered_behind}
use Rattle.headline_laws.proofs.Landed.Between.{AtPlace}
use Rattle.headline_laws.proofs.Statements.Capacity.{HasCap, caps_later, row_has_cap}
use Rattle.headline_laws.proofs.Landed.Leaving.{row_drawn}
use Rattle.headline_laws.proofs.Makers.Rows.{EnteredRow, entered_row}
use Rattle.headline_laws.proofs.Landed.Machines.{IsOpenSo, KeepsTo}
use Rattle.headline_laws.proofs.Landed.Openings.{opened_cap, opened_within}
use Rattle.headline_laws.proofs.Statements.Hosts.{SameHost, comes_so, declared_of, statement_host}
use Rattle.headline_laws.proofs.Statements.Known.{HasEntered, Known, known_next, known_waits}
use Rattle.headline_laws.proofs.Story.Lines.{HasRooms, reads_in, room_here}
use Rattle.headline_laws.proofs.Story.Opened.{OpenRun, opening_came}
use Rattle.headline_laws.proofs.Story.Parts.{Comes, PartOf, idles_long}
use Rattle.headline_laws.proofs.Story.Shown.{IsShown, ShownEach}
use Rattle.headline_laws.proofs.Trees.WriterStands.{was_open}

-- ---- a line of an actor, with what it keeps and the lines behind it

module _ (m : Moment) (sound : IsSoundAt m) (n : ℕ) (history : List Event) (blocks : List (List Event)) (whole : Next m [] history) (nothing_is : ℕ) where
  pub record LineAt (of : Told → ℕ) (done : List Event) (first : Kept) (r : Option Told) (w : Writing) (xs : List Told) (t : Told) (rest : List Told) : Type 0 where
    pub kept : Kept
    pub file : Option OneFile
    pub writer : Option OneWriter
    pub part : PartOf n history blocks kept t.phase t.statement
    pub says : t.outcome ≡ part.e.outcome
    pub shown : IsShown m sound n history blocks whole kept file writer t part.earlier part.mine
    pub known : Known of n part.earlier (reader_after r xs) (writing_after w xs) file writer
    pub here : of t ≡ room_here m sound n history blocks whole nothing_is shown
    pub more : ShownEach m sound n history blocks whole (part.earlier ++ part.mine) part.e.kept shown.new shown.new_writer rest
    pub rooms_are : HasRooms m sound n history blocks whole nothing_is of (part.earlier ++ part.mine) part.e.kept shown.new shown.new_writer rest more
    pub behind : Known of n (part.earlier ++ part.mine) (reader_next (reader_after r xs) t t.outcome) (writing_next (writing_after w xs) t.statement t.outcome) shown.new shown.new_writer
    pub declared : declared_of kept ≡ declared_of first
    pub later : length done ≤ length part.earlier

  pub line_at : (of : Told → ℕ) (xs : List Told) (t : Told) (rest : List Told) (done : List Event) (kept : Kept) (file : Option OneFile) (writer : Option OneWriter) (r : Option Told) (w : Writing) (each : ShownEach m sound n history blocks whole done kept file writer (xs ++ t ∷ rest))
      → HasRooms m sound n history blocks whole nothing_is of done kept file writer (xs ++ t ∷ rest) each → Known of n done r w file writer → LineAt of done kept r w xs t rest
  line_at of [] t rest done kept file writer r w (p, says, idle, s, more) rooms_are known =
      let before : Known of n p.earlier r w file writer = subst (λ es. Known of n es r w file writer) (sym idle.is) (known_waits of n done idle.idle r w file writer known) in
      let after = known_next of m n p.earlier s.front s.rest r w t file s.new writer s.new_writer s.shows s.writes (reads_in of m n (record { before = p.earlier; events = s.front }) nothing_is file s.new s.new_writer t t.statement t.outcome s.shows rooms_are.0) before in
      record {
        kept = kept;
        file = file;
        writer = writer;
        part = p;
        says = says;
        shown = s;
        known = before;
        here = rooms_are.0;
        more = more;
        rooms_are = rooms_are.1;
        behind = subst (λ es. Known of n (p.earlier ++ es) (reader_next r t t.outcome) (writing_next w t.statement t.outcome) s.new s.new_writer) (sym s.split) after;
        declared = refl;
        later = idles_long n history blocks done p.earlier idle;
      }
  line_at of (q ∷ xs) t rest done kept file writer r w (p, says, idle, s, more) rooms_are known =
      let before : Known of n p.earlier r w file writer = subst (λ es. Known of n es r w file writer) (sym idle.is) (known_waits of n done idle.idle r w file writer known) in
      let after = known_next of m n p.earlier s.front s.rest r w q file s.new writer s.new_writer s.shows s.writes (reads_in of m n (record { before = p.earlier; events = s.front }) nothing_is file s.new s.new_writer q q.statement q.outcome s.shows rooms_are.0) before in
      let l = line_at of xs t rest (p.earlier ++ p.mine) p.e.kept s.new s.new_writer (reader_next r q q.outcome) (writing_next w q.statement q.outcome) more rooms_are.1 (subst (λ es. Known of n (p.earlier ++ es) (reader_next r q q.outcome) (writing_next w q.statement q.outcome) s.new s.new_writer) (sym s.split) after) in
      record {
        kept = l.kept;
        file = l.file;
        writer = l.writer;
        part = l.part;
        says = l.says;
        shown = l.shown;
        known = l.known;
        here = l.here;
        more = l.more;
        rooms_are = l.rooms_are;
        behind = l.behind;
        declared = l.declared ∙ comes_so n (SameHost kept) (work_of kept q.statement) p.mine p.spent p.e (statement_host kept q.statement) p.comes;
        later = (let here = idles_long n history blocks done p.earlier idle in let there = l.later in let long = length-append p.earlier p.mine in omega (arith, here, there, long));
      }

-- ---- an opening

-- the writer that was opened in these events
pub record Begun (m : Moment) (n cap : ℕ) (handle : WriterHandle) (earlier first : List Event) : Type 0 where
  pub d : Dropping
  pub its_id : d.writer ≡ handle.writer
  pub entered : HasEntered n first d
  pub keeps : (kept : Kept) → kept.writer ≡ Some handle → IsOpenSo n d cap (moment_after m (earlier ++ first)) kept (nothing true)
  pub caps : HasCap d.writer cap (moment_after m (earlier ++ first)).state.table.writers

not_both : (b : Bool) → b ≡ false → b ≡ true → ⊥
not_both b x y = cc

pub begun : (m : Moment) (n : ℕ) (name : List ℕ) (host cap : ℕ) (handle : WriterHandle) (earlier first later : List Event) → IsSoundAt m → IsLawful m.state ((earlier ++ first) ++ later) → Runs n (open_program name host cap) first (Ok handle) → Begun m n cap handle earlier first
begun m n name host cap handle earlier first later sound lawful runs = record {
  d = it;
  its_id = refl;
  entered = record {
    first = front;
    event = e.entering;
    later = e.rest;
    most = cap;
    all = entering;
    own = e.enters.0;
    asked = e.enters.1;
    entered = e.entered;
  };
  keeps = λ kept has. record {
    latest = refl;
    handle = handle;
    row = o.row;
    keeps = λ alive. has;
    is = record { writer = refl; cap_is = opened_cap n name host cap first handle runs; pending_is = o.knows.pending };
    told = λ closing. absurd (not_both handle.closing o.fresh closing);
    at = place;
    holds = opened_within (moment_after m (earlier ++ first)) n it o.row place o.none;
  };
  caps = its_caps;
}
  where
    start : Moment
    start = moment_after m earlier

    upto : IsLawful m.state (earlier ++ first)
    upto = legal_first m (earlier ++ first) later lawful

    start_sound : IsSoundAt start
    start_sound = sound_after m earlier (legal_first m earlier first upto) sound

    its_lawful : IsLawful start.state first
    its_lawful = legal_rest m earlier first upto

    o : IsOpened n handle (state_after start.state first)
    o = opened_ends n name host cap start.state first (Ok handle) handle start_sound.regular its_lawful runs refl

    e : EnteredBy n name host cap handle.writer start.state first
    e = entered_by n name host cap start.state first (Ok handle) handle start_sound.regular its_lawful runs refl

    it : Dropping
    it = record { room = e.room; host = host; writer = handle.writer }

    front : List Event
    front = e.first ++ e.making ∷ e.between

    entering : first ≡ front ++ e.entering ∷ e.rest
    entering = e.all ∙ sym (append_assoc e.first (e.making ∷ e.between) (e.entering ∷ e.rest))

    its_caps : HasCap handle.writer cap (moment_after m (earlier ++ first)).state.table.writers
    its_caps =
        let split : IsLawful start.state (front ++ e.entering ∷ e.rest) = subst (IsLawful start.state) entering its_lawful in
        let mid : Moment = moment_after start front in
        let mid_sound : IsSoundAt mid = sound_after start front (legal_first start front (e.entering ∷ e.rest) split) start_sound in
        let here : IsLawful mid.state (e.entering ∷ e.rest) = legal_rest start front (e.entering ∷ e.rest) split in
        let x : EnteredRow n e.room host cap handle.writer e.entering.after = entered_row n e.room host cap handle.writer mid e.entering mid_sound here.1 e.enters.0 (ap (λ (a : Ask). a.call) e.enters.1) e.entered in
        let next_sound : IsSoundAt (next_moment mid e.entering) = sound_next mid e.entering e.rest here mid_sound in
        let later = caps_later handle.writer cap (next_moment mid e.entering) e.rest next_sound here.2 (row_drawn handle.writer x.row e.entering.after next_sound.regular x.has.there)
        (row_has_cap handle.writer cap x.row e.entering.after.table.writers x.has.there x.capacity) in
        let is : moment_after m (earlier ++ first) ≡ moment_after (next_moment mid e.entering) e.rest = moment-append m earlier first ∙ ap (moment_after start) entering ∙ moment-append start front (e.entering ∷ e.rest) in
        subst (λ (z : Moment). HasCap handle.writer cap z.state.table.writers) (sym is) later

    ends : (moment_after m (earlier ++ first)).state ≡ state_after start.state first
    ends = ap (λ (x : Moment). x.state) (moment-append m earlier first) ∙ (follows start first).0

    place : AtPlace (moment_after m (earlier ++ first)) n it o.row
    place = (let placed = e.placed o.row o.knows.has in record {
      sound = sound_after m (earlier ++ first) upto sound;
      has = subst (HasRow n handle.writer o.row) (sym ends) o.knows.has;
      room = placed.0;
      host = placed.1;
    })

-- behind the line of an opening
module _ (m : Moment) (sound : IsSoundAt m) (n : ℕ) (history : List Event) (blocks : List (List Event)) (whole : Next m [] history) where
  pub record BegunLine (cap id : ℕ) (kept : Kept) (earlier mine : List Event) : Type 0 where
    pub d : Dropping
    pub its_id : d.writer ≡ id
    pub entered : HasEntered n mine d
    pub keeps : KeepsTo n d cap (moment_after m (earlier ++ mine)) kept (nothing true)
    pub caps : HasCap d.writer cap (moment_after m (earlier ++ mine)).state.table.writers

  pub begun_line : (id : ℕ) (kept : Kept) (t : Told) (p : PartOf n history blocks kept t.phase t.statement) → t.outcome ≡ p.e.outcome → t.outcome ≡ line.Opened id → BegunLine kept.cap id p.e.kept p.earlier p.mine
  begun_line id kept t p says opened = from (opening_came n o.0 id p.spent p.e ends kept p.mine (subst (λ s. Comes n (work_of kept s) p.mine p.spent p.e) o.1 p.comes))
    where
      ends : p.e.outcome ≡ line.Opened id
      ends = sym says ∙ opened

      o : (name : List ℕ) × (t.statement ≡ Open name)
      o = was_open kept t.statement p.e id ends p.ended

      from : OpenRun n kept o.0 id p.mine p.e → BegunLine kept.cap id p.e.kept p.earlier p.mine
      from r = by (begun m n o.0 kept.host kept.cap r.handle (p.earlier ++ r.pre) r.first p.later sound (subst (IsLawful m.state) (p.split ∙ sym (append_assoc p.earlier p.mine p.later) ∙ ap (λ z. z ++ p.later) same) whole.lawful) r.runs)
        where
          same : p.earlier ++ p.mine ≡ (p.earlier ++ r.pre) ++ r.first
          same = ap (λ z. p.earlier ++ z) (r.all ∙ ap (λ z. r.pre ++ (r.first ++ z)) r.over ∙ ap (λ z. r.pre ++ z) (append-nil r.first)) ∙ sym (append_assoc p.earlier r.pre r.first)

          mine_is : r.pre ++ r.first ≡ p.mine
          mine_is = sym (r.all ∙ ap (λ z. r.pre ++ (r.first ++ z)) r.over ∙ ap (λ z. r.pre ++ z) (append-nil r.first))

          by : Begun m n kept.cap r.handle (p.earlier ++ r.pre) r.first → BegunLine kept.cap id p.e.kept p.earlier p.mine
          by b = record {
            d = b.d;
            its_id = b.its_id ∙ r.is;
            entered = subst (λ es. HasEntered n es b.d) mine_is (entered_behind n r.pre r.first b.d b.entered);
            keeps = subst (λ es. KeepsTo n b.d kept.cap (moment_after m es) p.e.kept (nothing true)) (sym same) (inl (b.keeps p.e.kept r.keeps));
            caps = subst (λ es. HasCap b.d.writer kept.cap (moment_after m es).state.table.writers) (sym same) b.caps;
          }
