-- Each entry of an open writer that stands is of the tree before, or of a line that opened its writer, or broke off.
use Rattle.std.proofs.Common.{◌≡◌, ◌⊎◌, inl, inr, ℕ, List, [], ◌∷◌, ◌++◌, length, get_or, Option, Some, refl, sym, ap, ◌∙◌, subst, append_assoc}
use Rattle.std.specs.Prelude.{slice_get}
use Rattle.std.proofs.lemmas.List.{append-nil}
use Rattle.container_layout.specs.declared.items.Item.TheVariants.{OpenHost}
use Rattle.container_layout.specs.Items.{IsItem}
use Rattle.container_layout.specs.Paths.{path_of}
use Rattle.container_layout.proofs.Facts.{elsewhere}
use Rattle.store_api.specs.Acts.{Stored}
use Rattle.turn_object.specs.Callers.{made_by}
use Rattle.mount_model.proofs.Stories.Facts.{entries_both}
use Rattle.mount_model.specs.declared.call.Call.TheVariants.{Enter}
use Rattle.mount_model.specs.declared.reply.Reply.{Reply}
use Rattle.mount_model.specs.declared.reply.Reply.TheVariants as reply
use Rattle.mount_model.specs.History.{Event}
use Rattle.mount_model.specs.Mounting.{IsMounted}
use Rattle.mount_model.specs.State.{State}
use Rattle.mount_sound.specs.Owed.{IsLawful}
use Rattle.mount_sound.specs.Sound.{IsSoundTree}
use Rattle.mount_sound.proofs.Facts.{mounted_sound}
use Rattle.reader_laws.specs.Moments.{HadItem, IsSoundAt, Moment, file_in_room, file_told, moment_after}
use Rattle.reader_laws.proofs.Gathered.Facts.{in_a_room, in_tree, legal_first, legal_rest, sound_after}
use Rattle.script_lang.specs.Ranges.{FitsScript}
use Rattle.script_lang.specs.declared.line.Outcome.{Outcome}
use Rattle.script_lang.specs.declared.line.Outcome.TheVariants as line
use Rattle.script_lang.specs.declared.script.Statement.TheVariants.{Open}
use Rattle.actor_core.specs.Statements.{work_of}
use Rattle.run_core.specs.Play.{IsRight}
use Rattle.headline_laws.proofs.Plays.Facts.{ComesTo, IsQuiet, MayAsk}
use Rattle.headline.specs.Run.{Run, Told}
use Rattle.headline.specs.Trees.{Has}
use Rattle.headline.specs.Names.{BrokeOff, Story, failed, stopped}
use Rattle.headline.specs.Changes.{OpensIn}
use Rattle.headline_laws.proofs.Statements.Known.{HasEntered}
use Rattle.headline_laws.proofs.Story.Attributed.{Attributed, attributed}
use Rattle.headline_laws.proofs.Story.Entered.{entered_once}
use Rattle.headline_laws.proofs.Story.Lines.{container, entered_room, first_entered, made_room}
use Rattle.headline_laws.proofs.Story.Namings.{story_of}
use Rattle.headline_laws.proofs.Makers.Back.{mounted_back}
use Rattle.headline_laws.proofs.Makers.EntryEnds.{EnterEnd, EntryMade, OpensOr, entry_made}
use Rattle.headline_laws.proofs.Makers.Holds.{IsRefusal}
use Rattle.headline_laws.proofs.Makers.KnownIndices.{broken_room, undamaged, whole_call}
use Rattle.headline_laws.proofs.Makers.NewEntries.{NewEntry, stood_or_new}
use Rattle.headline_laws.proofs.Makers.Opens.{TroubleEnd}
use Rattle.headline_laws.proofs.Trees.Reading.{last_tree, opened_line}
use Rattle.headline_laws.proofs.Trees.Still.{file_of}

module _ (run : Run) (m : Moment) (end : State) (fits : FitsScript run.script) (sound : IsSoundAt m) (right : IsRight run.script m.state run.lines end) where
  abbrev Of : Told → ℕ
  Of = container run m end fits sound right

  abbrev Nothing : ℕ
  Nothing = length run.after.rooms

  module _ (es rest : List Event) (all : right.history ≡ es ++ rest) (number host w : ℕ) (new : NewEntry m es number host w) where
    whole : right.history ≡ new.pre ++ new.event ∷ (new.post ++ rest)
    whole = all ∙ ap (λ z. z ++ rest) new.is ∙ append_assoc new.pre (new.event ∷ new.post) rest

    loud : IsQuiet new.event.ask.call → ⊥
    loud quiet = subst IsQuiet new.makes.asked quiet

    abbrev Its : Type 0
    Its = Attributed run m end fits sound right new.pre new.event

    module _ (a : Its) (name : List ℕ) (says : a.t.statement ≡ Open name) where
      abbrev P : List Event
      P = a.line.line.part.earlier

      abbrev Mine : List Event
      Mine = a.line.line.part.mine

      abbrev Later : List Event
      Later = a.line.line.part.later

      abbrev N : ℕ
      N = a.line.number

      -- what its part shows
      k : EntryMade N a.line.line.kept.host Mine number host new.event a.line.line.part.e
      k =
          let p = a.line.line.part in
          let lawful : IsLawful m.state (P ++ (Mine ++ Later)) = subst (IsLawful m.state) p.split right.leads.lawful in
          let at : Moment = moment_after m P in
          entry_made N a.line.line.kept name at Mine p.spent p.e (sound_after m P (legal_first m P (Mine ++ Later) lawful) sound) (legal_first at Mine Later (legal_rest m P (Mine ++ Later) lawful))
          (subst (λ s. ComesTo N (work_of a.line.line.kept s) Mine p.spent p.e) says p.comes) a.first new.event a.later a.in_it a.own number host new.makes.most new.makes.asked

      -- ---- how its line ended

      abbrev Made : Type 0
      Made = (a.t.outcome ≡ line.Opened w) ⊎ BrokeOff a.t.outcome

      damaged_not : (folder file : List ℕ) (place : ℕ) → a.t.outcome ≡ line.Damaged folder file place → Made
      damaged_not folder file place told =
          let s = a.line.line.shown in
          absurd (undamaged m N P s.front Nothing a.line.line.file s.new s.new_writer name a.t.statement folder file place a.t.outcome says told s.shows)

      troubled : (r : Reply) (o : Outcome) → a.t.outcome ≡ o → (IsRefusal r → ⊥) → TroubleEnd r o → Made
      troubled r (line.Refused because) told never ends = absurd (never ends)
      troubled r line.Fault told never ends = inr (failed told)
      troubled r line.Stopped told never ends = inr (stopped told)
      troubled r (line.Damaged folder file place) told never ends = damaged_not folder file place told
      troubled r o told never ends = absurd ends

      entered_so : (v : ℕ) (o : Outcome) → a.t.outcome ≡ o → v ≡ w → OpensOr v o → Made
      entered_so v (line.Opened id) told is same = inl (told ∙ ap (λ x. line.Opened x) (same ∙ is))
      entered_so v line.Fault told is same = inr (failed told)
      entered_so v line.Stopped told is same = inr (stopped told)
      entered_so v (line.Damaged folder file place) told is same = damaged_not folder file place told
      entered_so v o told is same = absurd same

      made : Made
      made = by new.event.reply refl (subst (EnterEnd new.event.reply) (sym a.line.line.says) k.ended)
        where
          by : (r : Reply) → new.event.reply ≡ r → EnterEnd r a.t.outcome → Made
          by (reply.Entered v) is ends = entered_so v a.t.outcome refl (new.its v is) ends
          by r is ends = troubled r a.t.outcome refl (λ why. new.unrefused why.0 (is ∙ why.1)) ends

      -- ---- the container of the line

      abbrev Default : ℕ
      Default = made_room m N (record { before = P; events = a.line.line.shown.front }) Nothing

      front_entered : (d : ℕ) → entered_room N d a.line.line.shown.front ≡ entered_room N d Mine
      front_entered d =
          let s = a.line.line.shown in
          ap (first_entered d) (sym (ap (made_by N) s.split ∙ entries_both N s.front s.rest ∙ ap (λ z. made_by N s.front ++ z) s.none_behind ∙ append-nil (made_by N s.front)))

      of_broken : BrokeOff a.t.outcome → Of a.t ≡ number
      of_broken broke =
          let s = a.line.line.shown in
          a.line.line.here ∙ broken_room m N P s.front Nothing a.line.line.file s.new s.new_writer name a.t.statement a.t.outcome says broke s.shows ∙ front_entered Default ∙ k.room_is Default

      of_number : Made → Of a.t ≡ number
      of_number (inr broke) = of_broken broke
      of_number (inl told) = by new.event.reply refl (subst (EnterEnd new.event.reply) (sym a.line.line.says ∙ told) k.ended)
        where
          opened_there : (v : ℕ) → new.event.reply ≡ reply.Entered v → v ≡ w → Of a.t ≡ number
          opened_there v is same =
              let x = opened_line run m end fits sound right a.t w (record { is_line = a.is_line; says = told }) in
              let lawful : IsLawful m.state (new.pre ++ new.event ∷ (new.post ++ rest)) = subst (IsLawful m.state) whole right.leads.lawful in
              let entered : HasEntered N right.history (record { room = number; host = host; writer = v }) = record {
                first = new.pre;
                event = new.event;
                later = new.post ++ rest;
                most = new.makes.most;
                all = whole;
                own = a.own;
                asked = ap (λ c. record { call = c; stop = new.event.ask.stop }) new.makes.asked ∙ ap (λ s. record { call = Enter number host new.makes.most; stop = s }) (whole_call (moment_after m new.pre).state new.event v (legal_rest m new.pre (new.event ∷ (new.post ++ rest)) lawful).1 is);
                entered = is;
              } in
              let one = entered_once m.state right.history x.number N x.dropping (record { room = number; host = host; writer = v }) right.leads.lawful x.entered entered (x.its_id ∙ sym same) in
              x.in_room ∙ one.room

          not_opened : (r : Reply) → TroubleEnd r (line.Opened w) → Of a.t ≡ number
          not_opened r ends = absurd ends

          by : (r : Reply) → new.event.reply ≡ r → EnterEnd r (line.Opened w) → Of a.t ≡ number
          by (reply.Entered v) is ends = opened_there v is (new.its v is)
          by r is ends = not_opened r ends

      opens_in : OpensIn run (story_of run m end fits sound right) a.t number host w
      opens_in = record { is_line = a.is_line; of = of_number made; by = sym a.its_host ∙ sym k.its_host; asked = (name, says); made = made }

    -- the line that made it, in its part
    pub record EnteredBy : Type 0 where
      pub its : Its
      pub opens : OpensIn run (story_of run m end fits sound right) its.t number host w

    pub entered_by_line : EnteredBy
    entered_by_line =
        let a : Its = attributed run m end fits sound right new.pre new.event (new.post ++ rest) whole loud in
        let asks = subst (MayAsk a.line.line.kept a.t.statement) new.makes.asked a.asks in
        record { its = a; opens = opens_in a asks.0 asks.1 }

  -- those that stand in the end
  stands_last : end.store.tree ≡ Some run.after → (n host id : ℕ) → IsItem (OpenHost host id) → Has run.after n (OpenHost host id) → HadItem (moment_after m right.history) n (OpenHost host id)
  stands_last left n host id is_item (bytes, has) =
      record { is_item = is_item; bytes = bytes; there = ap (λ o. file_told o n (path_of (OpenHost host id))) (last_tree run m end fits sound right left) ∙ sym (file_of run.after n (OpenHost host id)) ∙ has }

-- ---- from the tree before

module _ (run : Run) (times : Option (List ℕ)) (mount : Stored) (start end : State) (fits : FitsScript run.script) (mounted : IsMounted 0 times mount start) (tells : mount.tree ≡ Some run.before) (sound : IsSoundTree run.before)
    (right : IsRight run.script start run.lines end) (left : end.store.tree ≡ Some run.after) where
  abbrev Begins : Moment
  Begins = record { state = start; issued = sound.issued }

  abbrev sound_begins : IsSoundAt Begins
  sound_begins = mounted_sound 0 times mount start run.before mounted tells sound

  abbrev Homes : Story
  Homes = story_of run Begins end fits sound_begins right

  pub entry_before : (n host id : ℕ) → HadItem Begins n (OpenHost host id) → Has run.before n (OpenHost host id)
  entry_before n host id had =
      let path = path_of (OpenHost host id) in
      let now = in_a_room (slice_get sound_begins.shape.tree.rooms n) path had.bytes (in_tree Begins sound_begins n path had.bytes had.there) in
      let was = mounted_back times mount start run.before sound_begins.shape.tree n (OpenHost host id) mounted tells sound_begins.shape.told had.is_item refl (λ e. elsewhere (ap (λ (name : List ℕ). get_or name 0 0) e) refl) (record { room = now.0; there = now.1; bytes = had.bytes; has = now.2 }) in
      (was.bytes, file_of run.before n (OpenHost host id) ∙ ap (λ o. file_in_room o path) was.there ∙ was.has)

  -- the law of this file
  pub entries_known : (n host id : ℕ) → IsItem (OpenHost host id) → Has run.after n (OpenHost host id) → Has run.before n (OpenHost host id) ⊎ ((o : Told) × OpensIn run Homes o n host id)
  entries_known n host id is_item has = elim (stood_or_new Begins right.history sound_begins right.leads.lawful n host id (stands_last run Begins end fits sound_begins right left n host id is_item has)) as (λ _. Has run.before n (OpenHost host id) ⊎ ((o : Told) × OpensIn run Homes o n host id)) [
    | inl was ↦ inl (entry_before n host id was)
    | inr new ↦ (let by = entered_by_line run Begins end fits sound_begins right right.history [] (sym (append-nil right.history)) n host id new in inr (by.its.t, by.opens))
  ]
