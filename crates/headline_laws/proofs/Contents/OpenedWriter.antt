-- Of a writer that a line opened: where it was opened, and the lines of its actor from then on.
use Rattle.std.proofs.Common.{◌≡◌, ◌≤◌, ◌+◌, inl, ℕ, true, false, List, [], ◌∷◌, ◌++◌, length, Option, Some, None, refl, sym, ap, ◌∙◌, subst, arith, append_assoc, length-append}
use Rattle.std.specs.Prelude.{slice_get}
use Rattle.std.proofs.lemmas.List.{append-nil}
use Rattle.container_layout.specs.declared.items.Item.TheVariants.{Index}
use Rattle.container_layout.specs.Paths.{path_of}
use Rattle.store_api.specs.Acts.{Stored}
use Rattle.store_api.specs.declared.tree.Room.{Room}
use Rattle.mount_model.specs.History.{Event}
use Rattle.mount_model.specs.Mounting.{IsMounted}
use Rattle.mount_model.specs.State.{State}
use Rattle.mount_sound.specs.Dropping.{IsWriter as IsWriterOf}
use Rattle.mount_sound.specs.Items.{HasItemOf}
use Rattle.mount_sound.specs.Sound.{IsSoundTree}
use Rattle.reader_laws.specs.Moments.{Dropping, IsNamed, IsSoundAt, Moment, Stood, file_told, issued_by, landed, moment_after}
use Rattle.reader_laws.proofs.Gathered.Facts.{in_a_room, landed_whole, sound_after}
use Rattle.script_lang.specs.Ranges.{FitsScript}
use Rattle.script_lang.specs.declared.line.Outcome.TheVariants as line
use Rattle.actor_core.specs.declared.kept.Kept.{Kept}
use Rattle.run_core.specs.Play.{IsRight}
use Rattle.headline_laws.specs.OneFile.{OneFile}
use Rattle.headline_laws.specs.OneWriter.{OneWriter}
use Rattle.headline_laws.proofs.Plays.Facts.{Next}
use Rattle.headline.specs.Run.{Run, Says, Told, own, told}
use Rattle.headline.specs.Files.{reader_after, reader_next}
use Rattle.headline.specs.Changes.{Writing, none as no_writing, writing_after, writing_next}
use Rattle.headline.specs.Writers.{account_of, cap_of, host_of, nothing}
use Rattle.headline_laws.proofs.Contents.Accounts.{account_from}
use Rattle.headline_laws.proofs.Contents.Counted.{Begin, sound_begin}
use Rattle.headline_laws.proofs.Contents.Entering.{entered_behind, new_there}
use Rattle.headline_laws.proofs.Landed.Beginning.{LineAt, begun_line, line_at}
use Rattle.headline_laws.proofs.Statements.Capacity.{HasCap}
use Rattle.headline_laws.proofs.Landed.Folded.{Through, through}
use Rattle.headline_laws.proofs.Statements.LivingLines.{line_opens, opened_alive, opened_fresh}
use Rattle.headline_laws.proofs.Landed.Machines.{KeepsTo}
use Rattle.headline_laws.proofs.Statements.Did.{IsOpen}
use Rattle.headline_laws.proofs.Statements.Hosts.{declared_of}
use Rattle.headline_laws.proofs.Statements.Known.{HasEntered, Known, entered_more}
use Rattle.headline_laws.proofs.Story.Entered.{entered_once}
use Rattle.headline_laws.proofs.Story.Lines.{ChainOf, HasRooms, container, nothing_known, whole_history}
use Rattle.headline_laws.proofs.Story.Parts.{begins}
use Rattle.headline_laws.proofs.Story.Shown.{ShownEach}
use Rattle.headline_laws.proofs.Trees.Openings.{IsOpenNow}
use Rattle.headline_laws.proofs.Trees.Reading.{fronts, grows_to, lawful_to, opened_line}
use Rattle.headline_laws.proofs.Trees.WriterStands.{LineStands, line_stands}

nil_before : {X : Type 0} (old new more : List X) → new ≡ old ++ more → new ≡ [] → length old ≡ 0
nil_before old new more is none = (let long = length-append old more in let same = ap length (sym is ∙ none) in omega (arith, long, same))

module _ (run : Run) (times : Option (List ℕ)) (mount : Stored) (start end : State) (fits : FitsScript run.script) (mounted : IsMounted 0 times mount start) (tells : mount.tree ≡ Some run.before) (sound : IsSoundTree run.before)
    (right : IsRight run.script start run.lines end) (left : end.store.tree ≡ Some run.after) where
  abbrev pub First : Moment
  First = Begin run times mount start end fits mounted tells sound right left

  abbrev pub sound_first : IsSoundAt First
  sound_first = sound_begin run times mount start end fits mounted tells sound right left

  abbrev pub Home : Told → ℕ
  Home t = container run First end fits sound_first right t

  abbrev pub Whole : Next First [] right.history
  Whole = whole_history run First end fits sound_first right

  abbrev pub Last : Moment
  Last = moment_after First right.history

  pub sound_last : IsSoundAt Last
  sound_last = sound_after First right.history right.leads.lawful sound_first

  -- ---- one writer, one host

  record InRoom (d : Dropping) : Type 0 where
    pub room : Room
    pub there : slice_get sound_last.shape.tree.rooms d.room ≡ Some room
    pub has : HasItemOf room d.host d.writer

  in_room : (d : Dropping) → Stood Last d → InRoom d
  in_room d s =
      let r = in_a_room (slice_get sound_last.shape.tree.rooms d.room) (path_of (Index d.host d.writer)) s.bytes (ap (λ o. file_told o d.room (path_of (Index d.host d.writer))) (sym sound_last.shape.told) ∙ s.there) in
      record { room = r.0; there = r.1; has = inl (s.bytes, record { is_item = s.is_item; there = r.2 }) }

  same_room : (x y : Room) (o : Option Room) → o ≡ Some x → o ≡ Some y → y ≡ x
  same_room x y o is also = cc

  pub same_dropping : (d g : Dropping) → Stood Last d → Stood Last g → g.room ≡ d.room → g.writer ≡ d.writer → g ≡ d
  same_dropping d g s z rooms writers =
      let a = in_room d s in
      let b = in_room g z in
      let one : b.room ≡ a.room = same_room a.room b.room (slice_get sound_last.shape.tree.rooms d.room) a.there (ap (slice_get sound_last.shape.tree.rooms) (sym rooms) ∙ b.there) in
      let w : IsWriterOf a.room d.writer (Last.issued d.room d.writer) = (sound_last.sound.rooms d.room a.room a.there).writers d.writer s.is_item.widths.1 in
      let its : d.host ≡ w.host = w.one_host d.host a.has in
      let other : g.host ≡ w.host = w.one_host g.host (subst (λ k. HasItemOf a.room g.host k) writers (subst (λ x. HasItemOf x g.host g.writer) one b.has)) in
      let hosts : g.host ≡ d.host = other ∙ sym its in
      λ i. record { room = rooms i; host = hosts i; writer = writers i }

  pub stands_last : (x rest : List Event) (d : Dropping) → right.history ≡ x ++ rest → Stood (moment_after First x) d → Stood Last d
  stands_last x rest d is s = subst (λ es. Stood (moment_after First es) d) (sym is) ((grows_to run First end fits sound_first right x rest [] (is ∙ sym (append-nil (x ++ rest)))).stands d.room (Index d.host d.writer) tt s)

  -- more lands the later it is
  pub landed_rises : (d : Dropping) (x y xs ys : List Event) → IsNamed d → right.history ≡ x ++ xs → right.history ≡ y ++ ys → length x ≤ length y → landed (moment_after First x) d ≤ landed (moment_after First y) d
  landed_rises d x y xs ys named is also le =
      let gap = fronts x xs y ys (sym is ∙ also) le in
      let grows = grows_to run First end fits sound_first right x gap.0 ys (also ∙ ap (λ z. z ++ ys) gap.1) in
      let more : landed (moment_after First x) d ≤ landed (moment_after First (x ++ gap.0)) d = grows.landed d named in
      subst (λ z. landed (moment_after First x) d ≤ landed (moment_after First z) d) (sym gap.1) more

  -- ---- the writer of an opening

  -- where the part of an opening ends, what its actor has there, and its lines from then on
  pub record Opening (actor : ℕ) (c : ChainOf run First end fits sound_first right actor) (id phase : ℕ) (post : List Told) (done : List Event) : Type 0 where
    pub earlier : List Event
    pub mine : List Event
    pub later : List Event
    pub split : right.history ≡ earlier ++ (mine ++ later)
    pub behind : length done ≤ length earlier
    pub from_phase : begins right.calls.blocks phase ≤ length earlier
    pub within : length earlier + length mine ≤ begins right.calls.blocks (phase + 1)
    pub kept : Kept
    pub file : Option OneFile
    pub writer : Option OneWriter
    pub reader : Option Told
    pub writing : Writing
    pub more : ShownEach First sound_first c.parts.number right.history right.calls.blocks Whole (earlier ++ mine) kept file writer post
    pub rooms_are : HasRooms First sound_first c.parts.number right.history right.calls.blocks Whole (length run.after.rooms) Home (earlier ++ mine) kept file writer post more
    pub known : Known Home c.parts.number (earlier ++ mine) reader writing file writer
    pub cap : ℕ
    pub cap_is : cap ≡ cap_of (slice_get run.script.actors actor)
    pub d : Dropping
    pub its_id : d.writer ≡ id
    pub entered_in : HasEntered c.parts.number mine d
    pub keeps : KeepsTo c.parts.number d cap (moment_after First (earlier ++ mine)) kept (nothing true)
    -- the actor goes on, and the table has it open
    pub alive : kept.gone ≡ false
    pub fresh : IsOpen kept.writer
    pub caps : HasCap d.writer cap (moment_after First (earlier ++ mine)).state.table.writers
    pub open_now : IsOpenNow c.parts.number d.writer (moment_after First (earlier ++ mine)).state

  pub opening : (actor : ℕ) (c : ChainOf run First end fits sound_first right actor) (id : ℕ) (xs : List Told) (o : Told) (post : List Told) (done : List Event) (kept : Kept) (file : Option OneFile) (writer : Option OneWriter) (r : Option Told) (w : Writing)
      → (each : ShownEach First sound_first c.parts.number right.history right.calls.blocks Whole done kept file writer (xs ++ o ∷ post)) → HasRooms First sound_first c.parts.number right.history right.calls.blocks Whole (length run.after.rooms) Home done kept file writer (xs ++ o ∷ post) each
      → Known Home c.parts.number done r w file writer → declared_of kept ≡ declared_of c.parts.kept → o.outcome ≡ line.Opened id → Opening actor c id o.phase post done
  opening actor c id xs o post done kept file writer r w each rooms_are known same says =
      by (line_at First sound_first c.parts.number right.history right.calls.blocks Whole (length run.after.rooms) Home xs o post done kept file writer r w each rooms_are known)
    where
      by : LineAt First sound_first c.parts.number right.history right.calls.blocks Whole (length run.after.rooms) Home done kept r w xs o post → Opening actor c id o.phase post done
      by l =
          let b = begun_line First sound_first c.parts.number right.history right.calls.blocks Whole id l.kept o l.part l.says says in
          record {
            earlier = l.part.earlier;
            mine = l.part.mine;
            later = l.part.later;
            split = l.part.split;
            behind = l.later;
            from_phase = l.part.from_phase;
            within = l.part.within_phase;
            kept = l.part.e.kept;
            file = l.shown.new;
            writer = l.shown.new_writer;
            reader = reader_next (reader_after r xs) o o.outcome;
            writing = writing_next (writing_after w xs) o.statement o.outcome;
            more = l.more;
            rooms_are = l.rooms_are;
            known = l.behind;
            cap = l.kept.cap;
            cap_is = ap (λ (x : ℕ × ℕ). x.1) (l.declared ∙ same) ∙ c.parts.cap;
            d = b.d;
            its_id = b.its_id;
            entered_in = b.entered;
            keeps = b.keeps;
            caps = b.caps;
            alive = opened_alive First c.parts.number right.history right.calls.blocks Whole id l.kept o l.part l.says says;
            fresh = opened_fresh First c.parts.number right.history right.calls.blocks Whole id l.kept o l.part l.says says;
            open_now = subst (λ k. IsOpenNow c.parts.number k (moment_after First (l.part.earlier ++ l.part.mine)).state) (sym b.its_id) (line_opens First c.parts.number right.history right.calls.blocks Whole id l.kept o l.part l.says says);
          }

  module _ (actor : ℕ) (c : ChainOf run First end fits sound_first right actor) where
    abbrev pub n : ℕ
    n = c.parts.number

    -- from the actor's first line on
    abbrev pub Chain : List Told → Type 0
    Chain ts = (each : ShownEach First sound_first n right.history right.calls.blocks Whole [] c.parts.kept None None ts) × HasRooms First sound_first n right.history right.calls.blocks Whole (length run.after.rooms) Home [] c.parts.kept None None ts each

    pub chain_as : (ts : List Told) → own actor (told run) ≡ ts → Chain ts
    chain_as ts is = subst Chain is (c.each, c.rooms_are)

    pub started : (id : ℕ) (pre : List Told) (q : Told) (post : List Told) → own actor (told run) ≡ pre ++ q ∷ post → q.outcome ≡ line.Opened id → Opening actor c id q.phase post []
    started id pre q post is says = by (chain_as (pre ++ q ∷ post) is)
      where
        by : Chain (pre ++ q ∷ post) → Opening actor c id q.phase post []
        by (each, rooms_are) = opening actor c id pre q post [] c.parts.kept None None None no_writing each rooms_are (nothing_known run First end fits sound_first right n) refl says

    module _ (id phase : ℕ) (post : List Told) (done : List Event) (b : Opening actor c id phase post done) where
      pub entered_so : HasEntered n (b.earlier ++ b.mine) b.d
      entered_so = entered_in_all b.earlier b.mine b.d b.entered_in
        where
          entered_in_all : (earlier mine : List Event) (d : Dropping) → HasEntered n mine d → HasEntered n (earlier ++ mine) d
          entered_in_all earlier mine d k = entered_behind n earlier mine d k

      pub all_split : right.history ≡ (b.earlier ++ b.mine) ++ b.later
      all_split = b.split ∙ sym (append_assoc b.earlier b.mine b.later)

      -- behind further lines
      abbrev pub Behind : List Told → List Told → Type 0
      Behind u rest = Through First sound_first n right.history right.calls.blocks Whole (length run.after.rooms) b.cap b.d Home (b.earlier ++ b.mine) b.reader b.writing (nothing true) u rest

      pub go : (u rest : List Told) → post ≡ u ++ rest → Behind u rest
      go u rest is = by (subst Chain_on is (b.more, b.rooms_are))
        where
          Chain_on : List Told → Type 0
          Chain_on ts = (each : ShownEach First sound_first n right.history right.calls.blocks Whole (b.earlier ++ b.mine) b.kept b.file b.writer ts) × HasRooms First sound_first n right.history right.calls.blocks Whole (length run.after.rooms) Home (b.earlier ++ b.mine) b.kept b.file b.writer ts each

          by : Chain_on (u ++ rest) → Behind u rest
          by (each, rooms_are) = through First sound_first n right.history right.calls.blocks Whole (length run.after.rooms) b.cap b.d Home u rest (b.earlier ++ b.mine) b.later b.kept b.file b.writer b.reader b.writing (nothing true) each rooms_are b.known all_split entered_so b.keeps

      -- what the account of the line's actor is
      pub account_is : (pre : List Told) (q : Told) (u : List Told) → q.outcome ≡ line.Opened id → account_of id (cap_of (slice_get run.script.actors actor)) (nothing false) (pre ++ q ∷ u) ≡ account_of b.d.writer b.cap (nothing true) u
      account_is pre q u says = account_from id (cap_of (slice_get run.script.actors actor)) (nothing false) pre q u says ∙ ap (λ k. account_of k (cap_of (slice_get run.script.actors actor)) (nothing true) u) (sym b.its_id) ∙ ap (λ k. account_of b.d.writer k (nothing true) u) (sym b.cap_is)

  -- ---- which one it is

  module _ (o : Told) (id : ℕ) (opened : Says run o (line.Opened id)) where
    -- which one it is
    pub record ItsDropping (d : Dropping) : Type 0 where
      pub stood : Stood Last d
      pub room : d.room ≡ Home o
      pub host : d.host ≡ host_of (slice_get run.script.actors o.actor)

    pub its_dropping : (n : ℕ) (d : Dropping) → HasEntered n right.history d → d.writer ≡ id → ItsDropping d
    its_dropping n d entered is = by (line_stands run First end fits sound_first right o id opened)
      where
        by : LineStands run First right.history o id → ItsDropping d
        by l =
            let s = l.stands in
            let x = opened_line run First end fits sound_first right o id opened in
            let one = entered_once start right.history n l.number d s.dropping right.leads.lawful entered s.entered (is ∙ sym s.its_id) in
            let other = entered_once start right.history n x.number d x.dropping right.leads.lawful entered x.entered (is ∙ sym x.its_id) in
            let hosts : d.host ≡ host_of (slice_get run.script.actors o.actor) = one.host ∙ s.its_host in
            record {
              stood = subst (λ k. Stood Last (record { room = d.room; host = d.host; writer = k })) (sym is) (subst (λ h. Stood Last (record { room = d.room; host = h; writer = id })) (sym hosts) (subst (λ r. Stood Last (record { room = r; host = host_of (slice_get run.script.actors o.actor); writer = id })) (sym one.room) s.index));
              room = other.room ∙ sym x.in_room;
              host = hosts;
            }

    module _ (actor : ℕ) (c : ChainOf run First end fits sound_first right actor) (phase : ℕ) (post : List Told) (done : List Event) (b : Opening actor c id phase post done) where
      pub its : ItsDropping b.d
      its = its_dropping c.parts.number b.d (subst (λ es. HasEntered c.parts.number es b.d) (sym (all_split actor c id phase post done b)) (entered_more c.parts.number (b.earlier ++ b.mine) b.later b.d (entered_so actor c id phase post done b))) b.its_id

      -- nothing has landed before
      pub none_before : (y ys : List Event) → right.history ≡ y ++ ys → length y ≤ length b.earlier → landed (moment_after First y) b.d ≤ 0
      none_before y ys is short =
          let k = b.entered_in in
          let none = new_there First sound_first right.history b.earlier b.mine b.later c.parts.number b.d right.leads.lawful b.split k in
          let upto : List Event = b.earlier ++ k.first in
          let split : right.history ≡ upto ++ (k.event ∷ (k.later ++ b.later)) = b.split ∙ ap (λ z. b.earlier ++ (z ++ b.later)) k.all ∙ ap (λ z. b.earlier ++ z) (append_assoc k.first (k.event ∷ k.later) b.later) ∙ sym (append_assoc b.earlier k.first (k.event ∷ (k.later ++ b.later))) in
          let gap = fronts y ys upto (k.event ∷ (k.later ++ b.later)) (sym is ∙ split) (let long = length-append b.earlier k.first in omega (arith, short, long)) in
          let grown = (grows_to run First end fits sound_first right y gap.0 (k.event ∷ (k.later ++ b.later)) (split ∙ ap (λ z. z ++ (k.event ∷ (k.later ++ b.later))) gap.1)).issued b.d.room b.d.writer in
          let empty : length (issued_by (moment_after First y) b.d) ≡ 0 = nil_before (issued_by (moment_after First y) b.d) ((moment_after First (y ++ gap.0)).issued b.d.room b.d.writer) grown.0 grown.1 (subst (λ z. (moment_after First z).issued b.d.room b.d.writer ≡ []) gap.1 none) in
          let s = sound_after First y (lawful_to run First end fits sound_first right y ys is) sound_first in
          let all = landed_whole (moment_after First y) s b.d its.stood.is_item in
          omega (arith, all, empty)
