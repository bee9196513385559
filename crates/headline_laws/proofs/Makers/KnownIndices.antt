-- Each index that stands in the tree after is of the tree before, or of a line that opened its writer, or broke off.
use Rattle.std.proofs.Common.{◌≡◌, ◌⊎◌, inl, inr, ℕ, List, [], ◌∷◌, ◌++◌, length, get_or, Option, Some, None, refl, sym, ap, ◌∙◌, subst, append_assoc}
use Rattle.std.specs.Prelude.{slice_get}
use Rattle.std.proofs.lemmas.List.{append-nil}
use Rattle.container_layout.specs.declared.items.Item.TheVariants.{Index}
use Rattle.container_layout.specs.Items.{IsItem}
use Rattle.container_layout.specs.Paths.{path_of}
use Rattle.container_layout.proofs.Facts.{elsewhere}
use Rattle.store_api.specs.Acts.{Stored}
use Rattle.turn_object.specs.Callers.{made_by}
use Rattle.mount_model.proofs.Stories.Facts.{entries_both}
use Rattle.mount_model.specs.declared.call.Call.TheVariants.{Enter, MakeIndex, MakeLog}
use Rattle.mount_model.specs.declared.reply.Refusal.{Refusal}
use Rattle.mount_model.specs.declared.reply.Reply.TheVariants as reply
use Rattle.mount_model.specs.declared.row.Row.{Row}
use Rattle.mount_model.specs.History.{Event, state_after}
use Rattle.mount_model.specs.Mounting.{IsMounted}
use Rattle.mount_model.specs.State.{State}
use Rattle.mount_model.specs.Step.{IsStep}
use Rattle.mount_model.specs.Table.{row_of}
use Rattle.mount_model.proofs.Facts.{step_cases, stop_replies}
use Rattle.mount_sound.specs.Owed.{IsLawful}
use Rattle.mount_sound.specs.Sound.{IsSoundTree}
use Rattle.mount_sound.proofs.Facts.{hostdir_below, mounted_sound}
use Rattle.reader_laws.specs.Moments.{HadItem, IsSoundAt, Moment, file_in_room, file_told, moment_after, next_moment}
use Rattle.reader_laws.proofs.Gathered.Facts.{follows, in_a_room, in_tree, legal_first, legal_rest, moment-append, sound_after}
use Rattle.script_lang.specs.Ranges.{FitsScript}
use Rattle.script_lang.specs.declared.line.Outcome.{Outcome}
use Rattle.script_lang.specs.declared.line.Outcome.TheVariants as line
use Rattle.script_lang.specs.declared.script.Statement.{Statement}
use Rattle.script_lang.specs.declared.script.Statement.TheVariants.{Open}
use Rattle.actor_core.specs.Statements.{work_of}
use Rattle.run_core.specs.Play.{IsRight}
use Rattle.writer_laws.specs.Counting.{StaysIn}
use Rattle.writer_laws.proofs.Facts.{goes}
use Rattle.headline_laws.specs.OneFile.{OneFile}
use Rattle.headline_laws.specs.OneWriter.{OneWriter}
use Rattle.headline_laws.specs.Opening.{Stretch}
use Rattle.headline_laws.specs.Showing.{Shows}
use Rattle.headline_laws.proofs.Plays.Facts.{ComesTo, IsQuiet}
use Rattle.headline.specs.Run.{Run, Told}
use Rattle.headline.specs.Trees.{Has}
use Rattle.headline.specs.Names.{BrokeOff, Story, failed, stopped}
use Rattle.headline.specs.Changes.{OpensIn}
use Rattle.headline.specs.Indices.{HasIndices}
use Rattle.headline_laws.proofs.Contents.Written.{own_stay}
use Rattle.headline_laws.proofs.Statements.Known.{HasEntered}
use Rattle.headline_laws.proofs.Story.Attributed.{Attributed, attributed}
use Rattle.headline_laws.proofs.Story.Entered.{entered_once}
use Rattle.headline_laws.proofs.Story.Lines.{container, entered_room, first_entered, made_room, room_of}
use Rattle.headline_laws.proofs.Story.Namings.{story_of}
use Rattle.headline_laws.proofs.Makers.Back.{mounted_back}
use Rattle.headline_laws.proofs.Makers.Entering.{EntersAndMakes, enters_and_makes, open_free}
use Rattle.headline_laws.proofs.Makers.Holds.{IsRefusal}
use Rattle.headline_laws.proofs.Makers.IndexAsks.{index_asked}
use Rattle.headline_laws.proofs.Makers.NewIndices.{NewIndex, stood_or_new}
use Rattle.headline_laws.proofs.Makers.Opens.{IsIndexing, MadeSo, OpenEnd, TroubleEnd, left_then, log_then, opened_then, stopped_then}
use Rattle.headline_laws.proofs.Makers.Rows.{EnteredRow, entered_row, logs_then}
use Rattle.headline_laws.proofs.Trees.Reading.{last_tree, opened_line}
use Rattle.headline_laws.proofs.Trees.Still.{file_of}

-- ---- the container of a line that broke off

module _ (m : Moment) (n : ℕ) (before front : List Event) (nothing : ℕ) (old new : Option OneFile) (w : Option OneWriter) (name : List ℕ) where
  abbrev There : Stretch
  There = record { before = before; events = front }

  pub broken_room : (s : Statement) (o : Outcome) → s ≡ Open name → BrokeOff o → (shows : Shows m n There old s o new) → room_of m n There nothing old new w s o shows ≡ entered_room n (made_room m n There nothing) front
  broken_room (Open name2) line.Fault is broke shows = refl
  broken_room (Open name2) line.Stopped is broke shows = refl
  broken_room s o is (failed f) shows = absurd (cc)
  broken_room s o is (stopped f) shows = absurd (cc)

  -- no line of an opening tells of damage
  pub undamaged : (s : Statement) (folder file : List ℕ) (place : ℕ) (o : Outcome) → s ≡ Open name → o ≡ line.Damaged folder file place → Shows m n There old s o new → ⊥
  undamaged (Open name2) folder file place (line.Damaged folder2 file2 place2) is says shows = shows.1
  undamaged s folder file place o is says shows = absurd (cc)

one_row : (a b : Row) (o : Option Row) → o ≡ Some a → o ≡ Some b → a ≡ b
one_row a b o is also = cc

-- a call that was answered so was whole
pub whole_call : (old : State) (e : Event) (w : ℕ) → IsStep old e.caller e.ask e.reply e.after → e.reply ≡ reply.Entered w → e.ask.stop ≡ None
whole_call old e w step told = step_cases old e.caller e.ask e.reply e.after (e.ask.stop ≡ None) step (λ none a. none) (λ k some x. absurd (broken (stop_replies old e.caller k e.ask.call e.reply e.after x)))
  where
    broken : (e.reply ≡ reply.Stopped) ⊎ (e.reply ≡ reply.NoMemory) → ⊥
    broken (inl is) = let clash : reply.Stopped ≡ reply.Entered w = sym is ∙ told in absurd (cc)
    broken (inr is) = let clash : reply.NoMemory ≡ reply.Entered w = sym is ∙ told in absurd (cc)

module _ (run : Run) (m : Moment) (end : State) (fits : FitsScript run.script) (sound : IsSoundAt m) (right : IsRight run.script m.state run.lines end) where
  abbrev Of : Told → ℕ
  Of = container run m end fits sound right

  abbrev Nothing : ℕ
  Nothing = length run.after.rooms

  module _ (es rest : List Event) (all : right.history ≡ es ++ rest) (number host w : ℕ) (new : NewIndex m es number host w) where
    whole : right.history ≡ new.pre ++ new.event ∷ (new.post ++ rest)
    whole = all ∙ ap (λ z. z ++ rest) new.is ∙ append_assoc new.pre (new.event ∷ new.post) rest

    loud : IsQuiet new.event.ask.call → ⊥
    loud quiet = subst IsQuiet new.makes.asked quiet

    indexing : IsIndexing new.event.ask.call
    indexing = subst IsIndexing (sym new.makes.asked) tt

    abbrev Its : Type 0
    Its = Attributed run m end fits sound right new.pre new.event

    module _ (a : Its) (name : List ℕ) (says : a.t.statement ≡ Open name) where
      abbrev P : List Event
      P = a.line.line.part.earlier

      abbrev Mine : List Event
      Mine = a.line.line.part.mine

      abbrev Later : List Event
      Later = a.line.line.part.later

      abbrev N : ℕ
      N = a.line.number

      abbrev H : ℕ
      H = a.line.line.kept.host

      k : EntersAndMakes N H Mine a.first new.event a.later a.line.line.part.e
      k =
          let p = a.line.line.part in
          enters_and_makes N H (work_of a.line.line.kept (Open name)) p.mine p.spent p.e (open_free a.line.line.kept name) (subst (λ s. ComesTo N (work_of a.line.line.kept s) p.mine p.spent p.e) says p.comes) a.first new.event a.later a.in_it a.own indexing

      its : w ≡ k.writer
      its = k.makes.its w new.makes.asked

      -- ---- where it entered

      abbrev Pre : List Event
      Pre = P ++ k.first

      abbrev Rest : List Event
      Rest = k.mid ++ (new.event ∷ a.later ++ Later)

      split : right.history ≡ Pre ++ (k.enter ∷ Rest)
      split =
          a.line.line.part.split ∙ ap (λ z. P ++ (z ++ Later)) a.in_it ∙ ap (λ z. P ++ ((z ++ new.event ∷ a.later) ++ Later)) k.is
          ∙ ap (λ z. P ++ z) (append_assoc (k.first ++ k.enter ∷ k.mid) (new.event ∷ a.later) Later ∙ append_assoc k.first (k.enter ∷ k.mid) (new.event ∷ a.later ++ Later))
          ∙ sym (append_assoc P k.first (k.enter ∷ Rest))

      lawful : IsLawful m.state (Pre ++ (k.enter ∷ Rest))
      lawful = subst (IsLawful m.state) split right.leads.lawful

      abbrev At : Moment
      At = moment_after m Pre

      sound_at : IsSoundAt At
      sound_at = sound_after m Pre (legal_first m Pre (k.enter ∷ Rest) lawful) sound

      here : IsLawful At.state (k.enter ∷ Rest)
      here = legal_rest m Pre (k.enter ∷ Rest) lawful

      entered : EnteredRow N k.room H k.most k.writer k.enter.after
      entered = entered_row N k.room H k.most k.writer At k.enter sound_at here.1 k.own k.asked k.told

      abbrev Next : Moment
      Next = next_moment At k.enter

      -- its row is that of the index
      record InPlace : Type 0 where
        pub room : number ≡ k.room
        pub its_host : host ≡ H

      in_place : InPlace
      in_place =
          let stays : StaysIn k.writer (made_by N k.mid) = own_stay N k.writer k.mid k.makes.no_exits in
          let g = goes N k.writer entered.row Next.state k.mid entered.has (legal_first Next k.mid (new.event ∷ a.later ++ Later) here.2) stays in
          let then_is : (moment_after m new.pre).state ≡ state_after Next.state k.mid =
          ap (λ z. (moment_after m z).state) (a.before_is ∙ ap (λ z. P ++ z) k.is ∙ sym (append_assoc P k.first (k.enter ∷ k.mid))) ∙ ap (λ (x : Moment). x.state) (moment-append m Pre (k.enter ∷ k.mid)) ∙ (follows Next k.mid).0 in
          let there : row_of w (moment_after m new.pre).state.table.writers ≡ Some g.after = ap (λ (x : State). row_of w x.table.writers) then_is ∙ ap (λ x. row_of x (state_after Next.state k.mid).table.writers) its ∙ g.has.there in
          let same : new.makes.row ≡ g.after = one_row new.makes.row g.after (row_of w (moment_after m new.pre).state.table.writers) new.makes.held there in
          record {
            room = sym new.makes.room ∙ ap (λ (r : Row). r.room) same ∙ g.placed.0 ∙ entered.in_room;
            its_host = sym new.makes.its_host ∙ ap (λ (r : Row). r.host) same ∙ g.placed.1 ∙ entered.its_host;
          }

      -- ---- how its line ended

      abbrev Made : Type 0
      Made = (a.t.outcome ≡ line.Opened w) ⊎ BrokeOff a.t.outcome

      damaged_not : (folder file : List ℕ) (place : ℕ) → a.t.outcome ≡ line.Damaged folder file place → Made
      damaged_not folder file place told =
          let s = a.line.line.shown in
          absurd (undamaged m N P s.front Nothing a.line.line.file s.new s.new_writer name a.t.statement folder file place a.t.outcome says told s.shows)

      troubled : (r : _) (o : Outcome) → a.t.outcome ≡ o → (IsRefusal r → ⊥) → TroubleEnd r o → Made
      troubled r (line.Refused because) told never ends = absurd (never ends)
      troubled r line.Fault told never ends = inr (failed told)
      troubled r line.Stopped told never ends = inr (stopped told)
      troubled r (line.Damaged folder file place) told never ends = damaged_not folder file place told
      troubled r o told never ends = absurd ends

      opened_so : (o : Outcome) → a.t.outcome ≡ o → OpenEnd k.writer o → Made
      opened_so (line.Opened id) told is = inl (told ∙ ap (λ x. line.Opened x) (is ∙ sym its))
      opened_so line.Stopped told is = inr (stopped told)
      opened_so o told is = absurd is

      -- its log isn't refused
      unrefused : (x : List Event) (last : Event) (more : List Event) (why : Refusal) → a.later ≡ x ++ last ∷ more → made_by N x ≡ [] → last.caller ≡ N → last.ask.call ≡ MakeLog k.writer → new.event.ask.stop ≡ None → new.event.reply ≡ reply.Done → last.reply ≡ reply.Refused why → ⊥
      unrefused x last more why behind none own asked stop told refused =
          let pre : List Event = P ++ a.first in
          let on : List Event = new.event ∷ (x ++ last ∷ (more ++ Later)) in
          let is : right.history ≡ pre ++ on =
          a.line.line.part.split ∙ ap (λ z. P ++ (z ++ Later)) a.in_it ∙ ap (λ z. P ++ z) (append_assoc a.first (new.event ∷ a.later) Later) ∙ sym (append_assoc P a.first (new.event ∷ a.later ++ Later))
          ∙ ap (λ z. pre ++ (new.event ∷ (z ++ Later))) behind ∙ ap (λ z. pre ++ (new.event ∷ z)) (append_assoc x (last ∷ more) Later) in
          let law : IsLawful m.state (pre ++ on) = subst (IsLawful m.state) is right.leads.lawful in
          logs_then N k.writer (moment_after m pre) new.event x last (more ++ Later) why (sound_after m pre (legal_first m pre on law) sound) (legal_rest m pre on law) a.own (new.makes.asked ∙ ap MakeIndex its) stop told none own asked refused

      made : Made
      made = by k.makes.ended
        where
          by : MadeSo N new.event k.writer a.later a.line.line.part.e → Made
          by (stopped_then is) = inr (stopped (a.line.line.says ∙ is))
          by (left_then ends) = troubled new.event.reply a.t.outcome refl (λ why. new.unrefused why.0 why.1) (subst (TroubleEnd new.event.reply) (sym a.line.line.says) ends)
          by (opened_then is) = opened_so a.t.outcome refl (subst (OpenEnd k.writer) (sym a.line.line.says) is)
          by (log_then x last more behind none own asked stop told ends) = troubled last.reply a.t.outcome refl (λ why. unrefused x last more why.0 behind none own asked stop told why.1) (subst (TroubleEnd last.reply) (sym a.line.line.says) ends)

      -- ---- the container of the line

      abbrev Default : ℕ
      Default = made_room m N (record { before = P; events = a.line.line.shown.front }) Nothing

      front_entered : (d : ℕ) → entered_room N d a.line.line.shown.front ≡ entered_room N d Mine
      front_entered d =
          let s = a.line.line.shown in
          ap (first_entered d) (sym (ap (made_by N) s.split ∙ entries_both N s.front s.rest ∙ ap (λ z. made_by N s.front ++ z) s.none_behind ∙ append-nil (made_by N s.front)))

      has_entered : HasEntered N right.history (record { room = k.room; host = H; writer = k.writer })
      has_entered = record {
        first = Pre;
        event = k.enter;
        later = Rest;
        most = k.most;
        all = split;
        own = k.own;
        asked = ap (λ c. record { call = c; stop = k.enter.ask.stop }) k.asked ∙ ap (λ s. record { call = Enter k.room H k.most; stop = s }) (whole_call At.state k.enter k.writer here.1 k.told);
        entered = k.told;
      }

      of_number : Made → Of a.t ≡ number
      of_number (inr broke) =
          let s = a.line.line.shown in
          a.line.line.here ∙ broken_room m N P s.front Nothing a.line.line.file s.new s.new_writer name a.t.statement a.t.outcome says broke s.shows ∙ front_entered Default ∙ k.room_is Default ∙ sym in_place.room
      of_number (inl told) =
          let x = opened_line run m end fits sound right a.t w (record { is_line = a.is_line; says = told }) in
          let one = entered_once m.state right.history x.number N x.dropping (record { room = k.room; host = H; writer = k.writer }) right.leads.lawful x.entered has_entered (x.its_id ∙ its) in
          x.in_room ∙ one.room ∙ sym in_place.room

      opens_in : OpensIn run (story_of run m end fits sound right) a.t number host w
      opens_in = record { is_line = a.is_line; of = of_number made; by = sym a.its_host ∙ sym in_place.its_host; asked = (name, says); made = made }

    pub opened_by_line : (o : Told) × OpensIn run (story_of run m end fits sound right) o number host w
    opened_by_line =
        let a : Its = attributed run m end fits sound right new.pre new.event (new.post ++ rest) whole loud in
        let p = a.line.line.part in
        let asks = index_asked a.line.number a.line.line.kept a.t.statement p.mine p.spent p.e p.comes a.first new.event a.later a.in_it a.own indexing in
        (a.t, opens_in a asks.0 asks.1)

  -- those that stand in the end
  stands_last : end.store.tree ≡ Some run.after → (n host id : ℕ) → IsItem (Index host id) → Has run.after n (Index host id) → HadItem (moment_after m right.history) n (Index host id)
  stands_last left n host id is_item (bytes, has) =
      record { is_item = is_item; bytes = bytes; there = ap (λ o. file_told o n (path_of (Index host id))) (last_tree run m end fits sound right left) ∙ sym (file_of run.after n (Index host id)) ∙ has }

-- ---- from the tree before

module _ (run : Run) (times : Option (List ℕ)) (mount : Stored) (start end : State) (fits : FitsScript run.script) (mounted : IsMounted 0 times mount start) (tells : mount.tree ≡ Some run.before) (sound : IsSoundTree run.before)
    (right : IsRight run.script start run.lines end) (left : end.store.tree ≡ Some run.after) where
  abbrev Begins : Moment
  Begins = record { state = start; issued = sound.issued }

  abbrev sound_begins : IsSoundAt Begins
  sound_begins = mounted_sound 0 times mount start run.before mounted tells sound

  abbrev Homes : Story
  Homes = story_of run Begins end fits sound_begins right

  stood_before : (n host id : ℕ) → HadItem Begins n (Index host id) → Has run.before n (Index host id)
  stood_before n host id had =
      let path = path_of (Index host id) in
      let now = in_a_room (slice_get sound_begins.shape.tree.rooms n) path had.bytes (in_tree Begins sound_begins n path had.bytes had.there) in
      let was = mounted_back times mount start run.before sound_begins.shape.tree n (Index host id) mounted tells sound_begins.shape.told had.is_item (hostdir_below host) (λ e. elsewhere (ap (λ (name : List ℕ). get_or name 0 0) e) refl) (record { room = now.0; there = now.1; bytes = had.bytes; has = now.2 }) in
      (was.bytes, file_of run.before n (Index host id) ∙ ap (λ o. file_in_room o path) was.there ∙ was.has)

  -- the law of this file
  pub indices_known : HasIndices run Homes
  indices_known = record {
    known = λ n host id is_item has. elim (stood_or_new Begins right.history sound_begins right.leads.lawful n host id (stands_last run Begins end fits sound_begins right left n host id is_item has)) as (λ _. Has run.before n (Index host id) ⊎ ((o : Told) × OpensIn run Homes o n host id)) [
      | inl was ↦ inl (stood_before n host id was)
      | inr new ↦ inr (opened_by_line run Begins end fits sound_begins right right.history [] (sym (append-nil right.history)) n host id new)
    ];
  }
