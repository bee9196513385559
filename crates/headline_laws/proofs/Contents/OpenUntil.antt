-- A writer that a line opened has its entry by the end of a later line, where by then no line of its actor is of a close or tells of a stop.
use Rattle.std.proofs.Common.{◌≡◌, ◌⊎◌, ◌≤◌, ◌<◌, ◌+◌, inl, inr, ℕ, Bool, true, false, nat_eq, List, [], ◌∷◌, ◌++◌, length, Option, Some, refl, sym, ap, ◌∙◌, subst, arith, append_assoc, length-append}
use Rattle.std.specs.Prelude.{not}
use Rattle.std.specs.List.{AllByRecursion}
use Rattle.std.proofs.lemmas.Bool.Decides.{nat_tests}
use Rattle.std.proofs.lemmas.List.{append-nil}
use Rattle.container_layout.specs.declared.items.Item.TheVariants.{OpenHost}
use Rattle.plain_file.proofs.Facts.{Among}
use Rattle.store_api.specs.Acts.{Stored}
use Rattle.mount_model.specs.declared.call.Ask.{Ask}
use Rattle.mount_model.specs.History.{Event}
use Rattle.mount_model.specs.Mounting.{IsMounted}
use Rattle.mount_model.specs.State.{State, last_id}
use Rattle.mount_sound.specs.Owed.{IsLawful}
use Rattle.mount_sound.specs.Sound.{IsSoundTree}
use Rattle.reader_laws.specs.Moments.{Dropping, HadItem, IsSoundAt, Moment, moment_after, next_moment}
use Rattle.reader_laws.proofs.Gathered.Facts.{among, is_among, legal_first, legal_rest, moment-append, sound_after, among_left, among_right}
use Rattle.reader_laws.proofs.Gathered.Moments.Stepping.{sound_next}
use Rattle.script_lang.specs.Ranges.{FitsScript}
use Rattle.script_lang.specs.declared.line.Outcome.TheVariants as line
use Rattle.actor_core.specs.declared.kept.Kept.{Kept}
use Rattle.run_core.specs.Play.{IsRight}
use Rattle.headline_laws.specs.OneFile.{OneFile}
use Rattle.headline_laws.specs.OneWriter.{OneWriter}
use Rattle.headline_laws.proofs.Plays.Facts.{Next}
use Rattle.headline.specs.Run.{IsLine, Run, Says, Told, before, own, surely_before, told}
use Rattle.headline.specs.Files.{reader_after, reader_at, reader_next}
use Rattle.headline.specs.Changes.{Writing, writing_after, writing_at, writing_next}
use Rattle.headline.specs.Writers.{Account, account_of, nothing, told_of}
use Rattle.headline_laws.proofs.Contents.FirstOpen.{all_first, all_rest}
use Rattle.headline_laws.proofs.Contents.OpenedWriter.{First as First_of, Home as Home_of, Opening, Whole as Whole_of, all_split, entered_so, its, sound_first as sound_first_of, started}
use Rattle.headline_laws.proofs.Landed.Bounded.{Keeps, idle_keeps, line_keeps}
use Rattle.headline_laws.proofs.Landed.Folded.{Through}
use Rattle.headline_laws.proofs.Landed.Leaving.{drawn_next, row_drawn}
use Rattle.headline_laws.proofs.Landed.Machines.{IsOpenSo}
use Rattle.headline_laws.proofs.Makers.Rows.{entered_row}
use Rattle.headline_laws.proofs.OrderlyLines.Answering.{among_filter}
use Rattle.headline_laws.proofs.OrderlyLines.Places.{own_split, Split}
use Rattle.headline_laws.proofs.OrderlyLines.Standing.{stopped_or}
use Rattle.headline_laws.proofs.Statements.Does.{Ended, did, was_gone}
use Rattle.headline_laws.proofs.Statements.Known.{HasEntered, Known, entered_more, known_next, known_waits}
use Rattle.headline_laws.proofs.Statements.LivingLines.{GoesOn, Open, idle_open, line_stays, not_out}
use Rattle.headline_laws.proofs.Story.Attributed.{either_part, head_of, tail_of}
use Rattle.headline_laws.proofs.Story.Lines.{AnyLine, ChainOf, HasRooms, chain_of, line_here, reads_in}
use Rattle.headline_laws.proofs.Story.Ordered.{Front, IsBehind, Ordered, all_own, begun_first, begun_phases, has_begun, is_sooner, own_ordered, sooner_is, ended_are, ended_first, ends_before}
use Rattle.headline_laws.proofs.Story.Parts.{PartOf, begins, begins_rise}
use Rattle.headline_laws.proofs.Story.Shown.{IsShown, ShownEach}
use Rattle.headline_laws.proofs.Trees.Kept.{entry_stands}
use Rattle.headline_laws.proofs.Trees.Reading.{fronts}

clashes : (b : Bool) → b ≡ true → b ≡ false → ⊥
clashes b on off = cc

-- ---- one line after the other leaves it open

module _ (m : Moment) (sound : IsSoundAt m) (n : ℕ) (history : List Event) (blocks : List (List Event)) (whole : Next m [] history) (nothing_is : ℕ) (cap : ℕ) (d : Dropping) where
  abbrev OpenBy : List Event → Type 0
  OpenBy done = Open m sound n history blocks whole cap d done

  abbrev KeepsBy : List Event → Kept → Account → Type 0
  KeepsBy done kept acc = Keeps m sound n history blocks whole cap d done kept acc

  pub line_goes : (kept : Kept) (file : Option OneFile) (writer : Option OneWriter) (t : Told) (p : PartOf n history blocks kept t.phase t.statement) → t.outcome ≡ p.e.outcome → IsShown m sound n history blocks whole kept file writer t p.earlier p.mine → (acc : Account) → OpenBy p.earlier → KeepsBy p.earlier kept acc → kept.gone ≡ false
      → GoesOn t → OpenBy (p.earlier ++ p.mine) × (p.e.kept.gone ≡ false)
  line_goes kept file writer t p says s acc o keeps alive goes = by p.ended keeps
    where
      Leaves : Type 0
      Leaves = OpenBy (p.earlier ++ p.mine) × (p.e.kept.gone ≡ false)

      on_line : IsOpenSo n d cap (moment_after m p.earlier) kept acc → p.e.kept.gone ≡ false → Leaves
      on_line i goes_on = (line_stays m sound n history blocks whole cap d kept file writer t p s i.handle (i.keeps alive) i.is.writer alive o goes.0 goes_on, goes_on)

      by : Ended kept t.statement p.e → KeepsBy p.earlier kept acc → Leaves
      by (was_gone is out now_gone) k = absurd (clashes kept.gone is alive)
      by (did lives dd) (inr out) = absurd (not_out m sound n history blocks whole cap d p.earlier kept acc o out)
      by (did lives dd) (inl i) = elim (stopped_or kept.armed p.e.outcome p.e.kept.gone dd.stops) as (λ _. Leaves) [
        | inl stop ↦ absurd (goes.1 (says ∙ stop.0))
        | inr on ↦ on_line i on.1
      ]

  -- behind the first lines it is open, and its actor goes on
  pub record OpenThrough (of : Told → ℕ) (done : List Event) (r : Option Told) (w : Writing) (acc : Account) (xs rest : List Told) : Type 0 where
    pub t : Through m sound n history blocks whole nothing_is cap d of done r w acc xs rest
    pub open_then : OpenBy t.from
    pub alive : t.kept.gone ≡ false

  pub open_through : (of : Told → ℕ) (xs rest : List Told) (done later : List Event) (kept : Kept) (file : Option OneFile) (writer : Option OneWriter) (r : Option Told) (w : Writing) (acc : Account) (each : ShownEach m sound n history blocks whole done kept file writer (xs ++ rest))
      → HasRooms m sound n history blocks whole nothing_is of done kept file writer (xs ++ rest) each → Known of n done r w file writer → history ≡ done ++ later → HasEntered n done d → KeepsBy done kept acc → OpenBy done → kept.gone ≡ false → AllByRecursion GoesOn xs → OpenThrough of done r w acc xs rest
  open_through of [] rest done later kept file writer r w acc each rooms_are known is entered keeps o alive goes = record {
    t = record {
      from = done;
      later = later;
      is = is;
      kept = kept;
      file = file;
      writer = writer;
      more = each;
      rooms_are = rooms_are;
      known = known;
      entered = entered;
      keeps = keeps;
      within = λ phase at all. at;
    };
    open_then = o;
    alive = alive;
  }
  open_through of (q ∷ xs) rest done later kept file writer r w acc (p, says, idle, s, more) rooms_are known is entered keeps o alive goes =
      let before : Known of n p.earlier r w file writer = subst (λ es. Known of n es r w file writer) (sym idle.is) (known_waits of n done idle.idle r w file writer known) in
      let after = known_next of m n p.earlier s.front s.rest r w q file s.new writer s.new_writer s.shows s.writes (reads_in of m n (record { before = p.earlier; events = s.front }) nothing_is file s.new s.new_writer q q.statement q.outcome s.shows rooms_are.0) before in
      let known_then = subst (λ es. Known of n (p.earlier ++ es) (reader_next r q q.outcome) (writing_next w q.statement q.outcome) s.new s.new_writer) (sym s.split) after in
      let entered_here : HasEntered n p.earlier d = subst (λ es. HasEntered n es d) (sym idle.is) (entered_more n done idle.idle d entered) in
      let keeps_here = idle_keeps m sound n history blocks whole cap d done p.earlier (p.mine ++ p.later) kept acc p.split idle keeps in
      let o_here = idle_open m sound n history blocks whole cap d done p.earlier (p.mine ++ p.later) p.split idle o in
      let on = line_goes kept file writer q p says s acc o_here keeps_here alive goes.0 in
      let x = open_through of xs rest (p.earlier ++ p.mine) p.later p.e.kept s.new s.new_writer (reader_next r q q.outcome) (writing_next w q.statement q.outcome) (told_of d.writer cap acc q.statement q.outcome) more rooms_are.1 known_then (p.split ∙ sym (append_assoc p.earlier p.mine p.later)) (entered_more n p.earlier p.mine d entered_here)
      (line_keeps m sound n history blocks whole cap d kept file writer q p says s acc entered_here keeps_here) on.0 on.1 goes.1 in
      let long = length-append p.earlier p.mine in
      record {
        t = record {
          from = x.t.from;
          later = x.t.later;
          is = x.t.is;
          kept = x.t.kept;
          file = x.t.file;
          writer = x.t.writer;
          more = x.t.more;
          rooms_are = x.t.rooms_are;
          known = x.t.known;
          entered = x.t.entered;
          keeps = x.t.keeps;
          within = λ phase at all. x.t.within phase (let rise = begins_rise blocks (q.phase + 1) phase (let low = all.0 in omega (arith, low)) in let high = p.within_phase in omega (arith, long, rise, high)) all.1;
        };
        open_then = x.open_then;
        alive = x.alive;
      }

  -- an open writer has its entry
  pub entry_by : (done : List Event) (kept : Kept) (acc : Account) → IsSoundAt (moment_after m done) → OpenBy done → KeepsBy done kept acc → HadItem (moment_after m done) d.room (OpenHost d.host d.writer)
  entry_by done kept acc s o (inl i) = entry_stands n (moment_after m done) s d i.row i.at o
  entry_by done kept acc s o (inr out) = absurd (not_out m sound n history blocks whole cap d done kept acc o out)

  -- up to the next line of its actor, or to the end
  pub record Until (rest : List Told) : Type 0 where
    pub till : List Event
    pub more : List Event
    pub is : history ≡ till ++ more
    pub entry : IsSoundAt (moment_after m till) → HadItem (moment_after m till) d.room (OpenHost d.host d.writer)
    pub behind : (phase : ℕ) → AllByRecursion (λ (t : Told). phase ≤ t.phase) rest → (begins blocks phase ≤ length till) ⊎ (more ≡ [])

  pub open_until : (from : List Event) (kept : Kept) (file : Option OneFile) (writer : Option OneWriter) (acc : Account) (rest : List Told) → ShownEach m sound n history blocks whole from kept file writer rest → OpenBy from → KeepsBy from kept acc → Until rest
  open_until from kept file writer acc [] idle o keeps =
      let all : history ≡ history ++ [] = sym (append-nil history) in
      record {
        till = history;
        more = [];
        is = all;
        entry = λ s. entry_by history kept acc s (idle_open m sound n history blocks whole cap d from history [] all idle o) (idle_keeps m sound n history blocks whole cap d from history [] kept acc all idle keeps);
        behind = λ phase none. inr refl;
      }
  open_until from kept file writer acc (q ∷ rest) (p, says, idle, s, more) o keeps = record {
    till = p.earlier;
    more = p.mine ++ p.later;
    is = p.split;
    entry = λ s. entry_by p.earlier kept acc s (idle_open m sound n history blocks whole cap d from p.earlier (p.mine ++ p.later) p.split idle o) (idle_keeps m sound n history blocks whole cap d from p.earlier (p.mine ++ p.later) kept acc p.split idle keeps);
    behind = λ phase all. inl (let rise = begins_rise blocks phase q.phase all.0 in let low = p.from_phase in omega (arith, rise, low));
  }

-- so many numbers were drawn, or more, whatever is called
pub drawn_later : (m : Moment) (events : List Event) → IsLawful m.state events → last_id m.state ≤ last_id (moment_after m events).state
drawn_later m [] lawful = omega arith
drawn_later m (e ∷ events) lawful =
    let first = drawn_next m e events lawful in
    let rest = drawn_later (next_moment m e) events lawful.2 in
    omega (arith, first, rest)

module _ (run : Run) (times : Option (List ℕ)) (mount : Stored) (start end : State) (fits : FitsScript run.script) (mounted : IsMounted 0 times mount start) (tells : mount.tree ≡ Some run.before) (sound : IsSoundTree run.before)
    (right : IsRight run.script start run.lines end) (left : end.store.tree ≡ Some run.after) where
  abbrev First : Moment
  First = First_of run times mount start end fits mounted tells sound right left

  abbrev sound_first : IsSoundAt First
  sound_first = sound_first_of run times mount start end fits mounted tells sound right left

  abbrev Home : Told → ℕ
  Home = Home_of run times mount start end fits mounted tells sound right left

  abbrev Whole : Next First [] right.history
  Whole = Whole_of run times mount start end fits mounted tells sound right left

  sound_by : (x xs : List Event) → right.history ≡ x ++ xs → IsSoundAt (moment_after First x)
  sound_by x xs is = sound_after First x (legal_first First x xs (subst (IsLawful First.state) is right.leads.lawful)) sound_first

  -- ---- which numbers were drawn

  pub drawn_rises : (x y xs ys : List Event) → right.history ≡ x ++ xs → right.history ≡ y ++ ys → length x ≤ length y → last_id (moment_after First x).state ≤ last_id (moment_after First y).state
  drawn_rises x y xs ys is also le =
      let gap = fronts x xs y ys (sym is ∙ also) le in
      let split : right.history ≡ x ++ (gap.0 ++ ys) = also ∙ ap (λ z. z ++ ys) gap.1 ∙ append_assoc x gap.0 ys in
      let rise = drawn_later (moment_after First x) gap.0 (legal_first (moment_after First x) gap.0 ys (legal_rest First x (gap.0 ++ ys) (subst (IsLawful First.state) split right.leads.lawful))) in
      subst (λ (m : Moment). last_id (moment_after First x).state ≤ last_id m.state) (sym (ap (moment_after First) gap.1 ∙ moment-append First x gap.0)) rise

  -- that of a writer that entered
  entered_drawn : (n : ℕ) (mine later : List Event) (d : Dropping) → right.history ≡ mine ++ later → HasEntered n mine d → d.writer ≤ last_id (moment_after First mine).state
  entered_drawn n mine later d is k =
      let on : List Event = k.later ++ later in
      let all : right.history ≡ k.first ++ (k.event ∷ on) = is ∙ ap (λ z. z ++ later) k.all ∙ append_assoc k.first (k.event ∷ k.later) later in
      let lawful : IsLawful First.state (k.first ++ (k.event ∷ on)) = subst (IsLawful First.state) all right.leads.lawful in
      let mid : Moment = moment_after First k.first in
      let s : IsSoundAt mid = sound_by k.first (k.event ∷ on) all in
      let here : IsLawful mid.state (k.event ∷ on) = legal_rest First k.first (k.event ∷ on) lawful in
      let row = entered_row n d.room d.host k.most d.writer mid k.event s here.1 k.own (ap (λ (a : Ask). a.call) k.asked) k.entered in
      let drawn : d.writer ≤ last_id k.event.after = row_drawn d.writer row.row k.event.after (sound_next mid k.event on here s).regular row.has.there in
      let then_split : right.history ≡ (k.first ++ k.event ∷ []) ++ on = all ∙ sym (append_assoc k.first (k.event ∷ []) on) in
      let rise = drawn_rises (k.first ++ k.event ∷ []) mine on later then_split is (let b = length-append k.first (k.event ∷ []) in let e = ap length k.all ∙ length-append k.first (k.event ∷ k.later) in omega (arith, b, e)) in
      let there : d.writer ≤ last_id (moment_after First (k.first ++ k.event ∷ [])).state = subst (λ (m : Moment). d.writer ≤ last_id m.state) (sym (moment-append First k.first (k.event ∷ []))) drawn in
      omega (arith, there, rise)

  -- ---- a line behind the opening

  -- By the end of the line's part the writer's number is drawn, and behind it the writer has its entry in the container.
  pub record StandsOpen (t : Told) (id : ℕ) : Type 0 where
    pub reader : Option Told
    pub writing : Writing
    pub its_line : AnyLine run First end fits sound_first right reader writing t
    pub drawn : id ≤ last_id (moment_after First its_line.line.part.earlier).state
    pub till : List Event
    pub more : List Event
    pub is : right.history ≡ till ++ more
    pub behind : length its_line.line.part.earlier + length its_line.line.part.mine ≤ length till
    pub host : ℕ
    pub entry : HadItem (moment_after First till) (Home t) (OpenHost host id)

  -- from so many events on, at some time
  pub record StandsTill (long : ℕ) (t : Told) (id : ℕ) : Type 0 where
    pub till : List Event
    pub more : List Event
    pub is : right.history ≡ till ++ more
    pub behind : long ≤ length till
    pub host : ℕ
    pub entry : HadItem (moment_after First till) (Home t) (OpenHost host id)

  -- behind the line's part, whether or not the number was drawn by its beginning
  pub record StandsBehind (t : Told) (id : ℕ) : Type 0 where
    pub reader : Option Told
    pub writing : Writing
    pub its_line : AnyLine run First end fits sound_first right reader writing t
    pub stands : StandsTill (length its_line.line.part.earlier + length its_line.line.part.mine) t id

  module _ (free : run.in_order ≡ false) (t o : Told) (id : ℕ) (is_line : IsLine run t) (goes : GoesOn t) (opens_not : t.outcome ≡ line.Opened id → ⊥) (opened : Says run o (line.Opened id)) (home : Home o ≡ Home t) (early : surely_before run t o ≡ false)
      (still : (s : Told) → IsLine run s → s.actor ≡ o.actor → o.place < s.place → surely_before run t s ≡ false → GoesOn s) where
    abbrev c : ChainOf run First end fits sound_first right o.actor
    c = chain_of run First end fits sound_first right o opened.is_line

    abbrev n : ℕ
    n = c.parts.number

    abbrev Earlier : List Told
    Earlier = own o.actor (before run o)

    -- the lines of its actor behind the opening
    module _ (post : List Told) (split : own o.actor (told run) ≡ Earlier ++ o ∷ post) where
      abbrev b : Opening run times mount start end fits mounted tells sound right left o.actor c id o.phase post []
      b = started run times mount start end fits mounted tells sound right left o.actor c id Earlier o post split opened.says

      room_is : b.d.room ≡ Home t
      room_is = (its run times mount start end fits mounted tells sound right left o id opened o.actor c o.phase post [] b).room ∙ home

      abbrev Behind : List Told → List Told → Type 0
      Behind u rest = OpenThrough First sound_first n right.history right.calls.blocks Whole (length run.after.rooms) b.cap b.d Home (b.earlier ++ b.mine) b.reader b.writing (nothing true) u rest

      go_open : (u rest : List Told) → post ≡ u ++ rest → AllByRecursion GoesOn u → Behind u rest
      go_open u rest is all = by (subst Chain_on is (b.more, b.rooms_are))
        where
          Chain_on : List Told → Type 0
          Chain_on ts = (each : ShownEach First sound_first n right.history right.calls.blocks Whole (b.earlier ++ b.mine) b.kept b.file b.writer ts) × HasRooms First sound_first n right.history right.calls.blocks Whole (length run.after.rooms) Home (b.earlier ++ b.mine) b.kept b.file b.writer ts each

          by : Chain_on (u ++ rest) → Behind u rest
          by (each, rooms_are) = open_through First sound_first n right.history right.calls.blocks Whole (length run.after.rooms) b.cap b.d Home u rest (b.earlier ++ b.mine) b.later b.kept b.file b.writer b.reader b.writing (nothing true) each rooms_are b.known
              (all_split run times mount start end fits mounted tells sound right left o.actor c id o.phase post [] b) (entered_so run times mount start end fits mounted tells sound right left o.actor c id o.phase post [] b) b.keeps b.open_now b.alive all

      -- the entry is that of the writer of the container
      named_so : (z : List Event) → HadItem (moment_after First z) b.d.room (OpenHost b.d.host b.d.writer) → HadItem (moment_after First z) (Home t) (OpenHost b.d.host id)
      named_so z had = subst (λ k. HadItem (moment_after First z) k (OpenHost b.d.host id)) room_is (subst (λ k. HadItem (moment_after First z) b.d.room (OpenHost b.d.host k)) b.its_id had)

      -- those that are behind it in writing, and began by the end of the line, go on
      tail_ordered : (xs : List Told) → Ordered (xs ++ o ∷ post) → AllByRecursion (IsBehind o) post
      tail_ordered [] ordered = ordered.0
      tail_ordered (x ∷ xs) ordered = tail_ordered xs ordered.1

      is_later : AllByRecursion (IsBehind o) post
      is_later = tail_ordered Earlier (subst Ordered split (own_ordered run free t o.actor))

      goes_so : (xs : List Told) → ((s : Told) → Among s xs → Among s (told run)) → AllByRecursion (λ (s : Told). s.actor ≡ o.actor) xs → AllByRecursion (IsBehind o) xs → AllByRecursion (λ (s : Told). surely_before run t s ≡ false) xs → AllByRecursion GoesOn xs
      goes_so [] lines own_ones later begun = tt
      goes_so (s ∷ xs) lines own_ones later begun = (still s (is_among (told run) s (lines s (inl refl))) own_ones.0 later.0.0 begun.0, goes_so xs (λ x at. lines x (inr at)) own_ones.1 later.1 begun.1)

      -- it isn't both before and behind
      not_later : (s : Told) → s.place < t.place → surely_before run t s ≡ false
      not_later s far = by (surely_before run t s) refl
        where
          by : (x : Bool) → surely_before run t s ≡ x → surely_before run t s ≡ false
          by false is = is
          by true is = let other = (sooner_is run free t t s is).0 in absurd (omega (arith, far, other))

      its_lines : (xs : List Told) → ((s : Told) → Among s xs → Among s (own o.actor (told run))) → (s : Told) → Among s xs → Among s (told run)
      its_lines xs within s at = among_filter (λ (x : Told). nat_eq x.actor o.actor) (told run) s (within s at)

      abbrev its_part : AnyLine run First end fits sound_first right (reader_at run t) (writing_at run t) t
      its_part = line_here run First end fits sound_first right t is_line

      -- of another actor whose line was before
      other_drawn : surely_before run o t ≡ true → (o.actor ≡ t.actor → ⊥) → id ≤ last_id (moment_after First its_part.line.part.earlier).state
      other_drawn sooner apart =
          let first = entered_drawn n (b.earlier ++ b.mine) b.later b.d (all_split run times mount start end fits mounted tells sound right left o.actor c id o.phase post [] b) (entered_so run times mount start end fits mounted tells sound right left o.actor c id o.phase post [] b) in
          let rise = begins_rise right.calls.blocks (o.phase + 1) t.phase (let low = phases in omega (arith, low)) in
          let long = length-append b.earlier b.mine in
          let within = b.within in
          let from = its_part.line.part.from_phase in
          let more = drawn_rises (b.earlier ++ b.mine) its_part.line.part.earlier b.later (its_part.line.part.mine ++ its_part.line.part.later) (all_split run times mount start end fits mounted tells sound right left o.actor c id o.phase post [] b) its_part.line.part.split (omega (arith, rise, long, within, from)) in
          let its_id = b.its_id in
          omega (arith, first, more, its_id)
        where
          phases : o.phase < t.phase
          phases = elim (sooner_is run free t o t sooner).1 as (λ _. o.phase < t.phase) [
            | inl low ↦ low
            | inr same ↦ absurd (apart same)
          ]

      -- of another actor
      of_other : (o.actor ≡ t.actor → ⊥) → StandsTill (length its_part.line.part.earlier + length its_part.line.part.mine) t id
      of_other apart = by (either_part f.front f.rest Earlier o post (sym f.is ∙ split))
        where
          f : Front (has_begun run free t) (own o.actor (told run))
          f = begun_first run free t o.actor

          late : AllByRecursion (λ (s : Told). t.phase + 1 ≤ s.phase) f.rest
          late = begun_phases run free t o.actor f.rest apart (all_own run free t o.actor f.front f.rest f.is).1 f.bad

          its_end : List Event
          its_end = its_part.line.part.earlier ++ its_part.line.part.mine

          begun_false : (ss : List Told) → AllByRecursion (λ (s : Told). has_begun run free t s ≡ true) ss → AllByRecursion (λ (s : Told). surely_before run t s ≡ false) ss
          begun_false [] all = tt
          begun_false (s ∷ ss) all = (off (surely_before run t s) all.0, begun_false ss all.1)
            where
              off : (x : Bool) → not x ≡ true → x ≡ false
              off true is = absurd (cc)
              off false is = refl

          far_end : (z zs : List Event) → right.history ≡ z ++ zs → (begins right.calls.blocks (t.phase + 1) ≤ length z) ⊎ (zs ≡ []) → length its_part.line.part.earlier + length its_part.line.part.mine ≤ length z
          far_end z zs is (inl far) = let within = its_part.line.part.within_phase in omega (arith, far, within)
          far_end z zs is (inr none) =
              let all : right.history ≡ z = is ∙ ap (λ x. z ++ x) none ∙ append-nil z in
              let both : its_end ++ its_part.line.part.later ≡ z = append_assoc its_part.line.part.earlier its_part.line.part.mine its_part.line.part.later ∙ sym its_part.line.part.split ∙ all in
              let long = length-append its_end its_part.line.part.later in
              let same = ap length both in
              let own_long = length-append its_part.line.part.earlier its_part.line.part.mine in
              omega (arith, long, same, own_long)

          behind_it : (u : List Told) → f.front ≡ Earlier ++ o ∷ u → post ≡ u ++ f.rest → StandsTill (length its_part.line.part.earlier + length its_part.line.part.mine) t id
          behind_it u front_is post_is =
              let begun = begun_false u (all_rest (λ (s : Told). has_begun run free t s ≡ true) (Earlier ++ o ∷ []) u (subst (AllByRecursion (λ (s : Told). has_begun run free t s ≡ true)) (front_is ∙ sym (append_assoc Earlier (o ∷ []) u)) f.good)) in
              let theirs = all_rest (λ (s : Told). s.actor ≡ o.actor) (Earlier ++ o ∷ []) u (subst (AllByRecursion (λ (s : Told). s.actor ≡ o.actor)) (front_is ∙ sym (append_assoc Earlier (o ∷ []) u)) (all_own run free t o.actor f.front f.rest f.is).0) in
              let later = all_first (IsBehind o) u f.rest (subst (AllByRecursion (IsBehind o)) post_is is_later) in
              let there : (s : Told) → Among s u → Among s (own o.actor (told run)) = λ s at. subst (Among s) (sym f.is) (among_left s f.front f.rest (subst (Among s) (sym front_is) (among_right s Earlier (o ∷ u) (inr at)))) in
              let T = go_open u f.rest post_is (goes_so u (its_lines u there) theirs later begun) in
              let U = open_until First sound_first n right.history right.calls.blocks Whole (length run.after.rooms) b.cap b.d T.t.from T.t.kept T.t.file T.t.writer (account_of b.d.writer b.cap (nothing true) u) f.rest T.t.more T.open_then T.t.keeps in
              record {
                till = U.till;
                more = U.more;
                is = U.is;
                behind = far_end U.till U.more U.is (U.behind (t.phase + 1) late);
                host = b.d.host;
                entry = named_so U.till (U.entry (sound_by U.till U.more U.is));
              }

          by : ((u : List Told) × (f.front ≡ Earlier ++ o ∷ u) × (post ≡ u ++ f.rest)) ⊎ ((u : List Told) × (Earlier ≡ f.front ++ u) × (f.rest ≡ u ++ o ∷ post)) → StandsTill (length its_part.line.part.earlier + length its_part.line.part.mine) t id
          by (inl (u, front_is, post_is)) = behind_it u front_is post_is
          by (inr (u, pre_is, rest_is)) =
              let bad : has_begun run free t o ≡ false = (all_rest (λ (s : Told). has_begun run free t s ≡ false) u (o ∷ post) (subst (AllByRecursion (λ (s : Told). has_begun run free t s ≡ false)) rest_is f.bad)).0 in
              let good : has_begun run free t o ≡ true = ap not early in
              absurd (not_both (has_begun run free t o) good bad)
            where
              not_both : (x : Bool) → x ≡ true → x ≡ false → ⊥
              not_both x on off = cc

      -- of the line's own actor
      of_own : (rest : List Told) (u : List Told) → own o.actor (before run t) ≡ Earlier ++ o ∷ u → post ≡ u ++ t ∷ rest → StandsOpen t id
      of_own rest u before_is post_is = from (go_open u (t ∷ rest) post_is goes_u)
        where
          f : Front (ends_before run free t) (own o.actor (told run))
          f = ended_first run free t o.actor

          front_is : f.front ≡ Earlier ++ o ∷ u
          front_is = sym (ended_are run free t o.actor) ∙ before_is

          sooner_so : (ss : List Told) → AllByRecursion (λ (s : Told). ends_before run free t s ≡ true) ss → AllByRecursion (λ (s : Told). surely_before run t s ≡ false) ss
          sooner_so [] all = tt
          sooner_so (s ∷ ss) all = (not_later s (sooner_is run free t s t all.0).0, sooner_so ss all.1)

          goes_u : AllByRecursion GoesOn u
          goes_u =
              let begun = sooner_so u (all_rest (λ (s : Told). ends_before run free t s ≡ true) (Earlier ++ o ∷ []) u (subst (AllByRecursion (λ (s : Told). ends_before run free t s ≡ true)) (front_is ∙ sym (append_assoc Earlier (o ∷ []) u)) f.good)) in
              let theirs = all_rest (λ (s : Told). s.actor ≡ o.actor) (Earlier ++ o ∷ []) u (subst (AllByRecursion (λ (s : Told). s.actor ≡ o.actor)) (front_is ∙ sym (append_assoc Earlier (o ∷ []) u)) (all_own run free t o.actor f.front f.rest f.is).0) in
              let later = all_first (IsBehind o) u (t ∷ rest) (subst (AllByRecursion (IsBehind o)) post_is is_later) in
              let there : (s : Told) → Among s u → Among s (own o.actor (told run)) = λ s at. subst (Among s) (sym f.is) (among_left s f.front f.rest (subst (Among s) (sym front_is) (among_right s Earlier (o ∷ u) (inr at)))) in
              goes_so u (its_lines u there) theirs later begun

          acc : Account
          acc = account_of b.d.writer b.cap (nothing true) u

          from : Behind u (t ∷ rest) → StandsOpen t id
          from T = by T.t.more T.t.rooms_are
            where
              by : (each : ShownEach First sound_first n right.history right.calls.blocks Whole T.t.from T.t.kept T.t.file T.t.writer (t ∷ rest)) → HasRooms First sound_first n right.history right.calls.blocks Whole (length run.after.rooms) Home T.t.from T.t.kept T.t.file T.t.writer (t ∷ rest) each → StandsOpen t id
              by (p, told_so, idle, s, more) rooms_are =
                  let split_so : right.history ≡ (p.earlier ++ p.mine) ++ p.later = p.split ∙ sym (append_assoc p.earlier p.mine p.later) in
                  let entered_here : HasEntered n p.earlier b.d = subst (λ es. HasEntered n es b.d) (sym idle.is) (entered_more n T.t.from idle.idle b.d T.t.entered) in
                  let keeps_here = idle_keeps First sound_first n right.history right.calls.blocks Whole b.cap b.d T.t.from p.earlier (p.mine ++ p.later) T.t.kept acc p.split idle T.t.keeps in
                  let open_here = idle_open First sound_first n right.history right.calls.blocks Whole b.cap b.d T.t.from p.earlier (p.mine ++ p.later) p.split idle T.open_then in
                  let on = line_goes First sound_first n right.history right.calls.blocks Whole (length run.after.rooms) b.cap b.d T.t.kept T.t.file T.t.writer t p told_so s acc open_here keeps_here T.alive goes in
                  let keeps_then = line_keeps First sound_first n right.history right.calls.blocks Whole b.cap b.d T.t.kept T.t.file T.t.writer t p told_so s acc entered_here keeps_here in
                  let first = entered_drawn n p.earlier (p.mine ++ p.later) b.d p.split entered_here in
                  let its_id = b.its_id in
                  let long = length-append p.earlier p.mine in
                  record {
                    reader = reader_after b.reader u;
                    writing = writing_after b.writing u;
                    its_line = record {
                      number = n;
                      line = record {
                        kept = T.t.kept;
                        file = T.t.file;
                        writer = T.t.writer;
                        part = p;
                        says = told_so;
                        shown = s;
                        known = subst (λ es. Known Home n es (reader_after b.reader u) (writing_after b.writing u) T.t.file T.t.writer) (sym idle.is) (known_waits Home n T.t.from idle.idle (reader_after b.reader u) (writing_after b.writing u) T.t.file T.t.writer T.t.known);
                        here = rooms_are.0;
                      };
                    };
                    drawn = omega (arith, first, its_id);
                    till = p.earlier ++ p.mine;
                    more = p.later;
                    is = split_so;
                    behind = omega (arith, long);
                    host = b.d.host;
                    entry = named_so (p.earlier ++ p.mine)
                        (entry_by First sound_first n right.history right.calls.blocks Whole (length run.after.rooms) b.cap b.d (p.earlier ++ p.mine) p.e.kept (told_of b.d.writer b.cap acc t.statement t.outcome) (sound_by (p.earlier ++ p.mine) p.later split_so) on.0 keeps_then);
                  }

      -- where its place is behind the opening
      own_so : o.actor ≡ t.actor → StandsOpen t id
      own_so same = by (either_part (own o.actor (before run t)) (t ∷ rest) Earlier o post (sym its_split ∙ split))
        where
          mine : Split run t (told run)
          mine = own_split run t (among (told run) t is_line)

          rest : List Told
          rest = mine.rest

          its_split : own o.actor (told run) ≡ own o.actor (before run t) ++ t ∷ rest
          its_split = ap (λ a. own a (told run)) same ∙ mine.is ∙ ap (λ a. own a (before run t) ++ t ∷ rest) (sym same)

          not_before : t.place < o.place → ⊥
          not_before far = by (is_sooner run free t t o far (inr (sym same)))
            where
              by : surely_before run t o ≡ true → ⊥
              by is = let clash : true ≡ false = sym is ∙ early in absurd (cc)

          tail_of_t : (xs : List Told) → Ordered (xs ++ t ∷ rest) → AllByRecursion (IsBehind t) rest
          tail_of_t [] ordered = ordered.0
          tail_of_t (x ∷ xs) ordered = tail_of_t xs ordered.1

          behind_t : AllByRecursion (IsBehind t) rest
          behind_t = tail_of_t (own o.actor (before run t)) (subst Ordered its_split (own_ordered run free t o.actor))

          none : (u : List Told) → t ∷ rest ≡ u ++ o ∷ post → ⊥
          none [] is = opens_not (ap (λ (s : Told). s.outcome) (head_of t o rest post is) ∙ opened.says)
          none (y ∷ u) is = not_before (all_rest (IsBehind t) u (o ∷ post) (subst (AllByRecursion (IsBehind t)) (tail_of t y rest (u ++ o ∷ post) is) behind_t)).0.0

          by : ((u : List Told) × (own o.actor (before run t) ≡ Earlier ++ o ∷ u) × (post ≡ u ++ t ∷ rest)) ⊎ ((u : List Told) × (Earlier ≡ own o.actor (before run t) ++ u) × (t ∷ rest ≡ u ++ o ∷ post)) → StandsOpen t id
          by (inl (u, before_is, post_is)) = of_own rest u before_is post_is
          by (inr (u, pre_is, rest_is)) = absurd (none u rest_is)

    its_own : Split run o (told run)
    its_own = own_split run o (among (told run) o opened.is_line)

    same_actor : nat_eq o.actor t.actor ≡ true → o.actor ≡ t.actor
    same_actor is = grind (arith, nat_tests)

    other_actor : nat_eq o.actor t.actor ≡ false → o.actor ≡ t.actor → ⊥
    other_actor off is = let on : nat_eq o.actor t.actor ≡ true = grind (arith, nat_tests) in let clash : true ≡ false = sym on ∙ off in absurd (cc)

    -- The laws of this file: its entry stands behind the line.
    pub stands_behind : StandsBehind t id
    stands_behind = by (nat_eq o.actor t.actor) refl
      where
        drop_drawn : StandsOpen t id → StandsBehind t id
        drop_drawn x = record { reader = x.reader; writing = x.writing; its_line = x.its_line; stands = record { till = x.till; more = x.more; is = x.is; behind = x.behind; host = x.host; entry = x.entry } }

        by : (x : Bool) → nat_eq o.actor t.actor ≡ x → StandsBehind t id
        by true is = drop_drawn (own_so its_own.rest its_own.is (same_actor is))
        by false off = record { reader = reader_at run t; writing = writing_at run t; its_line = its_part its_own.rest its_own.is; stands = of_other its_own.rest its_own.is (other_actor off) }

    pub stands_open : surely_before run o t ≡ true → StandsOpen t id
    stands_open sooner = by (nat_eq o.actor t.actor) refl
      where
        by : (x : Bool) → nat_eq o.actor t.actor ≡ x → StandsOpen t id
        by true is = own_so its_own.rest its_own.is (same_actor is)
        by false off = with_drawn (of_other its_own.rest its_own.is (other_actor off))
          where
            with_drawn : StandsTill (length (its_part its_own.rest its_own.is).line.part.earlier + length (its_part its_own.rest its_own.is).line.part.mine) t id → StandsOpen t id
            with_drawn e = record {
              reader = reader_at run t;
              writing = writing_at run t;
              its_line = its_part its_own.rest its_own.is;
              drawn = other_drawn its_own.rest its_own.is sooner (other_actor off);
              till = e.till;
              more = e.more;
              is = e.is;
              behind = e.behind;
              host = e.host;
              entry = e.entry;
            }
