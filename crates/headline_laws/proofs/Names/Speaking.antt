-- A line of which the story knows a container speaks of it by the name that its statement has, but for a refresh.
use Rattle.std.proofs.Common.{◌≡◌, ◌⊎◌, ◌<◌, inl, inr, ℕ, false, List, [], ◌∷◌, ◌++◌, length, Option, Some, refl, sym, ap, ◌∙◌, subst, arith, append_assoc}
use Rattle.std.specs.Prelude.{⊤, slice_get}
use Rattle.std.proofs.lemmas.List.{append-nil}
use Rattle.plain_file.proofs.Facts.{Among}
use Rattle.store_api.specs.Acts.{Stored}
use Rattle.store_api.specs.Step.{make_room}
use Rattle.store_laws.specs.There.{IsRoomOf}
use Rattle.store_laws.proofs.Facts.{acts_told, make_room_told, slice_get_last}
use Rattle.turn_object.specs.Callers.{made_by}
use Rattle.mount_model.proofs.Stories.Facts.{entries_both, entries_first}
use Rattle.mount_model.specs.declared.call.Call.TheVariants.{Find, MakeContainer}
use Rattle.mount_model.specs.declared.reply.Reply.TheVariants as reply
use Rattle.mount_model.specs.History.{Event}
use Rattle.mount_model.specs.Mounting.{IsMounted}
use Rattle.mount_model.specs.Paths.{Name, new_files, new_folders}
use Rattle.mount_model.specs.State.{State}
use Rattle.mount_model.specs.Step.{Answers}
use Rattle.mount_sound.specs.Owed.{IsLawful}
use Rattle.mount_sound.specs.Sound.{IsSoundTree}
use Rattle.reader_laws.specs.Moments.{IsSoundAt, Moment, moment_after, next_moment}
use Rattle.reader_laws.proofs.Gathered.Facts.{legal_first, legal_rest, moment-append, sound_after}
use Rattle.script_lang.specs.Ranges.{FitsScript}
use Rattle.script_lang.specs.declared.line.Outcome.{Outcome}
use Rattle.script_lang.specs.declared.line.Outcome.TheVariants as line
use Rattle.script_lang.specs.declared.line.Why.TheVariants.{Busy, Exists, Held, StampsSpent}
use Rattle.script_lang.specs.declared.script.Statement.{Statement}
use Rattle.script_lang.specs.declared.script.Statement.TheVariants.{Close, Flatten, Ls, Map, Open, Rclose, Read, Recover, Refresh, Rename, Ropen, Stat, Stop, Sync, Trunc, Verify, Write}
use Rattle.actor_core.specs.Statements.{work_of}
use Rattle.run_core.specs.Play.{IsRight}
use Rattle.headline.specs.Run.{IsLine, Run, Told}
use Rattle.headline.specs.Names.{AreNamed, Named, Story, name_of}
use Rattle.headline.specs.Spoken.{HasSpoken}
use Rattle.headline.specs.Files.{reader_at}
use Rattle.headline.specs.Changes.{Holds, writing_at}
use Rattle.headline_laws.specs.OneFile.{OneFile}
use Rattle.headline_laws.specs.OneWriter.{OneWriter}
use Rattle.headline_laws.specs.Opening.{Stretch}
use Rattle.headline_laws.specs.Refusing.{FindsHeld}
use Rattle.headline_laws.specs.Showing.{Shows}
use Rattle.headline_laws.proofs.Plays.Facts.{Anyhow, ComesTo, MayAsk, statement_asks}
use Rattle.headline_laws.proofs.Plays.Callers.Finding.{made_named, name_found}
use Rattle.headline_laws.proofs.Contents.OpenedWriter.{First, sound_first}
use Rattle.headline_laws.proofs.Names.Broken.{held_is, entered_told, held_told, rose_or}
use Rattle.headline_laws.proofs.Makers.Holding.{answered_call}
use Rattle.headline_laws.proofs.Names.ByOpening.{IsUnopened, many_names, unopened_room}
use Rattle.headline_laws.proofs.Names.ByRename.{kind_told}
use Rattle.headline_laws.proofs.Makers.NewNames.{added, another, made, moved, names_now, names_of, stay, step_names, with_name}
use Rattle.headline_laws.proofs.Names.Seeks.{IsSoughtBy, SoughtOr, sought}
use Rattle.headline_laws.proofs.Statements.Did.{IsOfKindOr}
use Rattle.headline_laws.proofs.Statements.Does.{Ended, did, was_gone}
use Rattle.headline_laws.proofs.Story.Attributed.{came_asks}
use Rattle.headline_laws.proofs.Story.Lines.{entered_room, first_entered, first_held, held_room, last_mended, made_room, many_rooms, room_of}
use Rattle.headline_laws.proofs.Story.Named.{FindsBy, held_at, its_name}
use Rattle.headline_laws.proofs.Story.Namings.{names_then, story_of}
use Rattle.headline_laws.proofs.Story.Spans.{Placed, placed_here}
use Rattle.headline_laws.proofs.Held.Shutting.{mended_is, recover_room}
use Rattle.headline_laws.proofs.Held.Sought.{RecoversHeld, recover_finds}
use Rattle.headline_laws.proofs.Names.Leading.{namings_lead}
use Rattle.headline_laws.proofs.Names.Spoken.{busy_its, exists_so, finds_its, lists_names, named_in, none_found, renamed_its, speaks_there, spoken_its}

-- ---- which lines the story knows a container of

-- it came to nothing, but did not find a writer that has the container open, nor a name that is taken
abbrev IsBroken : Statement → Outcome → Type 0
IsBroken (Trunc name size) (line.Reader whole cut truncs) = ⊥
IsBroken (Trunc name size) (line.Opened id) = ⊥
IsBroken (Trunc name size) (line.Truncated stamp) = ⊥
IsBroken (Trunc name size) (line.Refused StampsSpent) = ⊥
IsBroken (Trunc name size) (line.Refused (Busy host id)) = ⊥
IsBroken (Trunc name size) o = ⊤
IsBroken (Rename name to) (line.Reader whole cut truncs) = ⊥
IsBroken (Rename name to) (line.Opened id) = ⊥
IsBroken (Rename name to) line.Renamed = ⊥
IsBroken (Rename name to) (line.Refused Exists) = ⊥
IsBroken (Rename name to) (line.Refused (Busy host id)) = ⊥
IsBroken (Rename name to) o = ⊤
IsBroken (Open name) line.Fault = ⊤
IsBroken (Open name) line.Stopped = ⊤
IsBroken (Open name) (line.Refused because) = ⊤
IsBroken (Recover name) (line.Refused Held) = ⊤
IsBroken s o = ⊥

abbrev Sort : ℕ → ℕ → Statement → Outcome → Type 0
Sort room nothing s o = (room ≡ nothing) ⊎ ((name : Name) × FindsBy name s o) ⊎ (s ≡ Refresh) ⊎ IsBroken s o

module _ (m : Moment) (n : ℕ) (before front : List Event) (nothing : ℕ) (old new : Option OneFile) (w : Option OneWriter) where
  abbrev There : Stretch
  There = record { before = before; events = front }

  abbrev Sorted : Statement → Outcome → Type 0
  Sorted s o = (shows : Shows m n There old s o new) → (o ≡ line.Gone) ⊎ IsOfKindOr s o → Sort (room_of m n There nothing old new w s o shows) nothing s o

  of_reader : (size : ℕ) (cut : _) (truncs : _) (s : Statement) → Sorted s (line.Reader size cut truncs)
  of_reader size cut truncs (Ropen name workers) shows kind = inr (inl (name, refl))
  of_reader size cut truncs Refresh shows kind = inr (inr (inl refl))
  of_reader size cut truncs s shows (inl clash) = absurd (cc)
  of_reader size cut truncs s shows (inr kind) = absurd kind

  of_opened : (id : ℕ) (s : Statement) → Sorted s (line.Opened id)
  of_opened id (Open name) shows kind = inr (inl (name, refl))
  of_opened id s shows (inl clash) = absurd (cc)
  of_opened id s shows (inr kind) = absurd kind

  sort : (s : Statement) (o : Outcome) → Sorted s o
  sort s (line.Reader size cut truncs) shows kind = of_reader size cut truncs s shows kind
  sort s (line.Opened id) shows kind = of_opened id s shows kind
  sort (Stat name) (line.Stat size stored shares truncs) shows kind = inr (inl (name, refl))
  sort (Trunc name size) (line.Truncated stamp) shows kind = inr (inl (name, refl))
  sort (Trunc name size) (line.Refused StampsSpent) shows kind = inr (inl (name, refl))
  sort (Trunc name size) (line.Refused (Busy host id)) shows kind = inr (inl (name, refl))
  sort (Rename name to) (line.Refused (Busy host id)) shows kind = inr (inl (name, refl))
  sort (Rename name to) (line.Refused Exists) shows kind = inr (inl (name, refl))
  sort (Rename name to) line.Renamed shows kind = inr (inl (name, refl))
  sort (Open name) line.Fault shows kind = inr (inr (inr tt))
  sort (Open name) line.Stopped shows kind = inr (inr (inr tt))
  sort (Open name) (line.Refused because) shows kind = inr (inr (inr tt))
  sort (Recover name) (line.Recovered buried alive hold) shows kind = inr (inl (name, refl))
  sort (Recover name) (line.Refused Held) shows kind = inr (inr (inr tt))
  sort (Flatten name) (line.Flattened id many cut) shows kind = inr (inl (name, refl))
  sort (Open name) o shows kind = inl refl
  sort (Write at content) o shows kind = inl refl
  sort Sync o shows kind = inl refl
  sort Close o shows kind = inl refl
  sort (Ropen name workers) o shows kind = inl refl
  sort (Read at len) o shows kind = inl refl
  sort (Verify at content) o shows kind = inl refl
  sort Map o shows kind = inl refl
  sort Refresh o shows kind = inl refl
  sort Rclose o shows kind = inl refl
  sort (Stat name) o shows kind = inl refl
  sort (Flatten name) o shows kind = inl refl
  sort (Recover name) o shows kind = inl refl
  sort (Trunc name size) o shows kind = inr (inr (inr tt))
  sort (Rename name to) o shows kind = inr (inr (inr tt))
  sort Ls o shows kind = inl refl
  sort (Stop call bytes) o shows kind = inl refl

-- what came to nothing speaks of the container that it held, or was to hold
module _ (m : Moment) (n : ℕ) (before front : List Event) (nothing : ℕ) (old new : Option OneFile) (w : Option OneWriter) (name : Name) where
  abbrev Around : Stretch
  Around = record { before = before; events = front }

  truncate_room : (size : ℕ) (s : Statement) (o : Outcome) → s ≡ Trunc name size → IsBroken (Trunc name size) o → (shows : Shows m n Around old s o new) → room_of m n Around nothing old new w s o shows ≡ held_room n nothing front
  truncate_room size (Trunc name2 size2) (line.Reader whole cut truncs) is broke shows = absurd broke
  truncate_room size (Trunc name2 size2) (line.Opened id) is broke shows = absurd broke
  truncate_room size (Trunc name2 size2) (line.Truncated stamp) is broke shows = absurd broke
  truncate_room size (Trunc name2 size2) (line.Refused StampsSpent) is broke shows = absurd broke
  truncate_room size (Trunc name2 size2) (line.Refused (Busy host id)) is broke shows = absurd broke
  truncate_room size (Trunc name2 size2) o is broke shows = refl
  truncate_room size s o is broke shows = absurd (cc)

  rename_room : (to : Name) (s : Statement) (o : Outcome) → s ≡ Rename name to → IsBroken (Rename name to) o → (shows : Shows m n Around old s o new) → room_of m n Around nothing old new w s o shows ≡ held_room n nothing front
  rename_room to (Rename name2 to2) (line.Reader whole cut truncs) is broke shows = absurd broke
  rename_room to (Rename name2 to2) (line.Opened id) is broke shows = absurd broke
  rename_room to (Rename name2 to2) line.Renamed is broke shows = absurd broke
  rename_room to (Rename name2 to2) (line.Refused Exists) is broke shows = absurd broke
  rename_room to (Rename name2 to2) (line.Refused (Busy host id)) is broke shows = absurd broke
  rename_room to (Rename name2 to2) o is broke shows = refl
  rename_room to s o is broke shows = absurd (cc)

module _ (run : Run) (times : Option (List ℕ)) (mount : Stored) (start end : State) (fits : FitsScript run.script) (mounted : IsMounted 0 times mount start) (tells : mount.tree ≡ Some run.before) (sound : IsSoundTree run.before)
    (right : IsRight run.script start run.lines end) (left : end.store.tree ≡ Some run.after) (free : run.in_order ≡ false) where
  abbrev Begins : Moment
  Begins = First run times mount start end fits mounted tells sound right left

  abbrev sound_begins : IsSoundAt Begins
  sound_begins = sound_first run times mount start end fits mounted tells sound right left

  abbrev Tale : Story
  Tale = story_of run Begins end fits sound_begins right

  abbrev Then : List Event → List Name
  Then done = names_then run Begins end fits sound_begins right done

  abbrev Nothing : ℕ
  Nothing = length run.after.rooms

  -- ---- a line that broke off

  module _ (t : Told) (is_line : IsLine run t) where
    l : Placed run Begins end fits sound_begins right (reader_at run t) (writing_at run t) t
    l = placed_here run Begins end fits sound_begins right t is_line

    abbrev N : ℕ
    N = l.its.number

    abbrev P : List Event
    P = l.its.line.part.earlier

    abbrev Mine : List Event
    Mine = l.its.line.part.mine

    abbrev Front : List Event
    Front = l.its.line.shown.front

    abbrev Known_of : Type 0
    Known_of = (Tale.of t ≡ Nothing) ⊎ Named run Tale t

    own_front : made_by N Front ≡ made_by N Mine
    own_front =
        let s = l.its.line.shown in
        sym (ap (made_by N) s.split ∙ entries_both N s.front s.rest ∙ ap (λ z. made_by N s.front ++ z) s.none_behind ∙ append-nil (made_by N s.front))

    all_of : (upto more : List Event) → Mine ≡ upto ++ more → right.history ≡ (P ++ upto) ++ (more ++ l.its.line.part.later)
    all_of upto more mine = l.its.line.part.split ∙ ap (λ z. P ++ (z ++ l.its.line.part.later)) mine ∙ ap (λ z. P ++ z) (append_assoc upto more l.its.line.part.later) ∙ sym (append_assoc P upto (more ++ l.its.line.part.later))

    -- an own call in it, and what was told of it
    module _ (upto : List Event) (e : Event) (more : List Event) (mine : Mine ≡ upto ++ e ∷ more) where
      abbrev At : Moment
      At = moment_after Begins (P ++ upto)

      whole : right.history ≡ (P ++ upto) ++ (e ∷ (more ++ l.its.line.part.later))
      whole = all_of upto (e ∷ more) mine

      sound_at : IsSoundAt At
      sound_at = sound_after Begins (P ++ upto) (legal_first Begins (P ++ upto) (e ∷ (more ++ l.its.line.part.later)) (subst (IsLawful Begins.state) whole right.leads.lawful)) sound_begins

      here : IsLawful At.state (e ∷ (more ++ l.its.line.part.later))
      here = legal_rest Begins (P ++ upto) (e ∷ (more ++ l.its.line.part.later)) (subst (IsLawful Begins.state) whole right.leads.lawful)

      answers : (room : ℕ) → e.reply ≡ reply.Room room → Answers At.state e.caller e.ask.call (reply.Room room) e.after
      answers room is = subst (λ r. Answers At.state e.caller e.ask.call r e.after) is
          (answered_call At.state e here.1 (λ x. let clash : reply.Stopped ≡ reply.Room room = sym x ∙ is in cc) (λ x. let clash : reply.NoMemory ≡ reply.Room room = sym x ∙ is in cc))

      behind_is : moment_after Begins (P ++ (upto ++ e ∷ [])) ≡ next_moment At e
      behind_is = ap (moment_after Begins) (sym (append_assoc P upto (e ∷ []))) ∙ moment-append Begins (P ++ upto) (e ∷ [])

      mine_behind : Mine ≡ (upto ++ e ∷ []) ++ more
      mine_behind = mine ∙ sym (append_assoc upto (e ∷ []) more)

      -- it was found
      found_named : (name : Name) (room : ℕ) → e.ask.call ≡ Find name → e.reply ≡ reply.Room room → name_of t.statement ≡ Some name → Tale.of t ≡ room → Named run Tale t
      found_named name room asked told asks of =
          let r = name_found At.state e.caller name room e.after sound_at.shape.tree (subst (λ q. Answers At.state e.caller q (reply.Room room) e.after) asked (answers room told)) sound_at.shape.told in
          named_in run times mount start end fits mounted tells sound right left free l is_line name room upto (e ∷ more) asks mine
          (ap (λ (ns : List Name). slice_get ns room) (ap names_of sound_at.shape.told) ∙ its_name sound_at.shape.tree room r.room name r.has_room r.named) of

      -- or found or made
      made_told : (name : Name) (room : ℕ) → e.ask.call ≡ MakeContainer name → e.reply ≡ reply.Room room → name_of t.statement ≡ Some name → Tale.of t ≡ room → Named run Tale t
      made_told name room asked told asks of =
          let a = subst (λ q. Answers At.state e.caller q (reply.Room room) e.after) asked (answers room told) in
          let k = a.makes in
          let tree = sound_at.shape.tree in
          let z = acts_told (make_room name new_folders new_files) At.state.store e.after.store tree k.told sound_at.shape.told k.made in
          let r : IsRoomOf z.0 name room = made_named tree z.0 name new_folders new_files k.told At.state.table room k.answered (make_room_told name new_folders new_files tree k.told z.0 z.2) in
          named_in run times mount start end fits mounted tells sound right left free l is_line name room (upto ++ e ∷ []) more asks mine_behind
          (ap (λ (ns : List Name). slice_get ns room) (ap (λ (x : Moment). names_now x.state) behind_is ∙ ap names_of z.1) ∙ its_name z.0 room r.room name r.has_room r.named) of

      -- or it was made, whatever was told
      made_there : (name : Name) → t.statement ≡ Open name → e.caller ≡ N → many_rooms At.state < many_rooms e.after → Tale.of t ≡ many_rooms At.state → Named run Tale t
      made_there name says own rises of =
          elim (step_names At.state e.after e.caller e.ask e.reply sound_at.shape.tree here.1 sound_at.shape.told) as (λ _. Named run Tale t) [
            | stay same ↦
                let x = many_names At.state.store.tree in
                let y = many_names e.after.store.tree in
                let z = ap length same in
                absurd (omega (arith, x, y, z, rises))
            | another number other (made asked is unused) new ↦
                let one : Open name ≡ Open other = sym says ∙ subst (MayAsk l.its.line.kept t.statement) asked asks in
                let names : other ≡ name = cc in
                let there : names_now e.after ≡ names_now At.state ++ name ∷ [] = new ∙ ap (λ k. with_name (names_now At.state) k other) is ∙ added (names_now At.state) other ∙ ap (λ z. names_now At.state ++ z ∷ []) names in
                let many = many_names At.state.store.tree in
                named_in run times mount start end fits mounted tells sound right left free l is_line name (length (names_now At.state)) (upto ++ e ∷ []) more (ap name_of says) mine_behind
                (ap (λ (ns : List Name). slice_get ns (length (names_now At.state))) (ap (λ (x : Moment). names_now x.state) behind_is ∙ there) ∙ slice_get_last (names_now At.state) name) (of ∙ many)
            | another number other (moved holder h asked held is within unused) new ↦
                let r = subst (MayAsk l.its.line.kept t.statement) asked asks in
                absurd (let clash : Open name ≡ Rename r.0 other = sym says ∙ r.1 in cc)
          ]
        where
          asks : MayAsk l.its.line.kept t.statement e.ask.call
          asks = came_asks N (MayAsk l.its.line.kept t.statement) Anyhow (work_of l.its.line.kept t.statement) Mine l.its.line.part.spent l.its.line.part.e (statement_asks l.its.line.kept t.statement) l.its.line.part.comes upto e more mine own

    sought_by : (s : Statement) (call : _) → t.statement ≡ s → IsSoughtBy s call → SoughtOr N call Mine l.its.line.part.e
    sought_by s call says by = sought N call l.its.line.kept s Mine l.its.line.part.spent l.its.line.part.e by (subst (λ x. ComesTo N (work_of l.its.line.kept x) Mine l.its.line.part.spent l.its.line.part.e) says l.its.line.part.comes)

    -- a truncate or a rename
    held_known : (s : Statement) (name : Name) → t.statement ≡ s → IsSoughtBy s (Find name) → name_of s ≡ Some name → Tale.of t ≡ held_room N Nothing Front → Known_of
    held_known s name says by asks of = elim (held_told N Mine l.its.line.part.e Nothing name (sought_by s (Find name) says by)) as (λ _. Known_of) [
      | inl none ↦ inl (of ∙ ap (first_held Nothing) own_front ∙ none)
      | inr (z, room, told, is) ↦ inr (found_named z.before z.event z.after z.is name room z.asked told (ap name_of says ∙ asks) (of ∙ ap (first_held Nothing) own_front ∙ is))
    ]

    -- an opening
    abbrev Default : ℕ
    Default = made_room Begins N (record { before = P; events = Front }) Nothing

    made_known : (name : Name) → t.statement ≡ Open name → Tale.of t ≡ Default → Known_of
    made_known name says of = elim (rose_or N Nothing (moment_after Begins P) Front) as (λ _. Known_of) [
      | inl none ↦ inl (of ∙ none)
      | inr r ↦
          let s = l.its.line.shown in
          let mine : Mine ≡ r.a ++ r.e ∷ (r.u ++ s.rest) = s.split ∙ ap (λ z. z ++ s.rest) r.is ∙ append_assoc r.a (r.e ∷ r.u) s.rest in
          let is : moment_after (moment_after Begins P) r.a ≡ moment_after Begins (P ++ r.a) = sym (moment-append Begins P r.a) in
          inr (made_there r.a r.e (r.u ++ s.rest) mine name says r.own (subst (λ (x : Moment). many_rooms x.state < many_rooms r.e.after) is r.rises) (of ∙ r.value ∙ ap (λ (x : Moment). many_rooms x.state) is))
    ]

    opens_known : (name : Name) → t.statement ≡ Open name → Tale.of t ≡ entered_room N Default Front → Known_of
    opens_known name says of = elim (entered_told N Mine l.its.line.part.e Default name (sought_by (Open name) (MakeContainer name) says refl)) as (λ _. Known_of) [
      | inl none ↦ made_known name says (of ∙ ap (first_entered Default) own_front ∙ none)
      | inr (z, room, told, is) ↦ inr (made_told z.before z.event z.after z.is name room z.asked told (ap name_of says) (of ∙ ap (first_entered Default) own_front ∙ is))
    ]

    -- a recovery that found its container held
    mended_known : (name : Name) → t.statement ≡ Recover name → t.outcome ≡ line.Refused Held → Known_of
    mended_known name says told = inr (found_named k.before k.finding k.after k.in_it name k.room k.sought k.found (ap name_of says) of)
      where
        alive : Ended l.its.line.kept t.statement l.its.line.part.e → l.its.line.kept.gone ≡ false
        alive (was_gone is out now) = absurd (let clash : line.Gone ≡ line.Refused Held = sym out ∙ sym l.its.line.says ∙ told in cc)
        alive (did lives d) = lives

        lawful : IsLawful Begins.state (P ++ (Mine ++ l.its.line.part.later))
        lawful = subst (IsLawful Begins.state) l.its.line.part.split right.leads.lawful

        k : RecoversHeld N name (moment_after Begins P) Mine
        k = recover_finds N l.its.line.kept name (moment_after Begins P) Mine l.its.line.part.spent l.its.line.part.e (sym l.its.line.says ∙ told) (alive l.its.line.part.ended) (sound_after Begins P (legal_first Begins P (Mine ++ l.its.line.part.later) lawful) sound_begins)
            (legal_first (moment_after Begins P) Mine l.its.line.part.later (legal_rest Begins P (Mine ++ l.its.line.part.later) lawful)) (subst (λ x. ComesTo N (work_of l.its.line.kept x) Mine l.its.line.part.spent l.its.line.part.e) says l.its.line.part.comes)

        of : Tale.of t ≡ k.room
        of =
            let i = k.its in
            l.its.line.here ∙ recover_room Begins N P Front Nothing l.its.line.file l.its.line.shown.new l.its.line.shown.new_writer name t.statement t.outcome says told l.its.line.shown.shows ∙ ap (last_mended Nothing) own_front
            ∙ mended_is N Nothing k.room Mine i.first i.event i.rest i.is i.own i.asked i.last

    abbrev Shown_as : Statement → Outcome → Type 0
    Shown_as s o = Shows Begins N (record { before = P; events = Front }) l.its.line.file s o l.its.line.shown.new

    broken_known : (s : Statement) (o : Outcome) → t.statement ≡ s → t.outcome ≡ o → IsBroken s o → Known_of
    broken_known (Trunc name size) o says told is = held_known (Trunc name size) name says refl refl
        (l.its.line.here ∙ truncate_room Begins N P Front Nothing l.its.line.file l.its.line.shown.new l.its.line.shown.new_writer name size t.statement t.outcome says (subst (IsBroken (Trunc name size)) (sym told) is) l.its.line.shown.shows)
    broken_known (Rename name to) o says told is = held_known (Rename name to) name says refl refl
        (l.its.line.here ∙ rename_room Begins N P Front Nothing l.its.line.file l.its.line.shown.new l.its.line.shown.new_writer name to t.statement t.outcome says (subst (IsBroken (Rename name to)) (sym told) is) l.its.line.shown.shows)
    broken_known (Open name) o says told is = opens_known name says
        (l.its.line.here ∙ unopened_room Begins N P Front Nothing l.its.line.file l.its.line.shown.new l.its.line.shown.new_writer name t.statement t.outcome says (subst IsUnopened (sym told) (unopened o is)) l.its.line.shown.shows)
      where
        unopened : (o : Outcome) → IsBroken (Open name) o → IsUnopened o
        unopened line.Fault is = tt
        unopened line.Stopped is = tt
        unopened (line.Refused because) is = tt
        unopened o is = absurd is
    broken_known (Recover name) (line.Refused Held) says told is = mended_known name says told
    broken_known s o says told is = absurd is

    -- ---- what was to be held while it was held

    own_among_front : (pre : List Event) (x : Event) (post : List Event) → Front ≡ pre ++ x ∷ post → x.caller ≡ N → Among x (made_by N Mine)
    own_among_front pre x post is own = subst (Among x) (ap (made_by N) (sym is) ∙ own_front) (made_there_too pre)
      where
        behind : (xs : List Event) → Among x (xs ++ x ∷ made_by N post)
        behind [] = inl refl
        behind (y ∷ xs) = inr (behind xs)

        made_there_too : (xs : List Event) → Among x (made_by N (xs ++ x ∷ post))
        made_there_too xs = subst (Among x) (sym (entries_both N xs (x ∷ post) ∙ ap (λ z. made_by N xs ++ z) (entries_first N x post own))) (behind (made_by N xs))

    held_named : (s : Statement) (name : Name) → t.statement ≡ s → IsSoughtBy s (Find name) → name_of s ≡ Some name → FindsHeld Begins N (record { before = P; events = Front }) name → Tale.of t ≡ held_room N Nothing Front → Named run Tale t
    held_named s name says by asks f of =
        let a = f.attempt in
        let own = own_among_front (a.earlier ++ (a.finding ∷ a.between)) a.holding a.later (f.made.split ∙ sym (append_assoc a.earlier (a.finding ∷ a.between) (a.holding ∷ a.later))) f.made.refuses.own in
        speaks_there run times mount start end fits mounted tells sound right left free l is_line name a.room a.earlier (a.finding ∷ a.between ++ a.holding ∷ a.later) (ap name_of says ∙ asks) f.made.split f.made.named
        (of ∙ ap (first_held Nothing) own_front ∙ held_is N Nothing a.room Mine l.its.line.part.e name (sought_by s (Find name) says by) a.holding own f.made.refuses.asked)

    pub held_spoken : t.outcome ≡ line.Refused Held → Holds t.statement → Named run Tale t
    held_spoken told holds = by t.statement refl holds
      where
        by : (s : Statement) → t.statement ≡ s → Holds s → Named run Tale t
        by (Trunc name size) says is = held_named (Trunc name size) name says refl refl
            (held_at Begins N P Front Nothing name l.its.line.file l.its.line.shown.new t.statement t.outcome (inl (size, says)) told l.its.line.shown.shows)
            (l.its.line.here ∙ truncate_room Begins N P Front Nothing l.its.line.file l.its.line.shown.new l.its.line.shown.new_writer name size t.statement t.outcome says (subst (IsBroken (Trunc name size)) (sym told) tt) l.its.line.shown.shows)
        by (Rename name to) says is = held_named (Rename name to) name says refl refl
            (held_at Begins N P Front Nothing name l.its.line.file l.its.line.shown.new t.statement t.outcome (inr (to, says)) told l.its.line.shown.shows)
            (l.its.line.here ∙ rename_room Begins N P Front Nothing l.its.line.file l.its.line.shown.new l.its.line.shown.new_writer name to t.statement t.outcome says (subst (IsBroken (Rename name to)) (sym told) tt) l.its.line.shown.shows)
        by s says is = absurd is

    -- ---- each line

    speaks : Tale.of t < length run.after.rooms → Named run Tale t ⊎ (t.statement ≡ Refresh)
    speaks within =
        by (sort Begins N P Front Nothing l.its.line.file l.its.line.shown.new l.its.line.shown.new_writer t.statement t.outcome l.its.line.shown.shows (kind_told l.its.line.kept t.statement l.its.line.part.e t.outcome (sym l.its.line.says) l.its.line.part.ended))
      where
        by : Sort (room_of Begins N (record { before = P; events = Front }) Nothing l.its.line.file l.its.line.shown.new l.its.line.shown.new_writer t.statement t.outcome l.its.line.shown.shows) Nothing t.statement t.outcome → Named run Tale t ⊎ (t.statement ≡ Refresh)
        by (inl none) = (let is = l.its.line.here ∙ none in absurd (omega (arith, is, within)))
        by (inr (inl (name, finds))) = inl (finds_its run times mount start end fits mounted tells sound right left free t name is_line finds)
        by (inr (inr (inl refreshes))) = inr refreshes
        by (inr (inr (inr broken))) = elim (broken_known t.statement t.outcome refl refl broken) as (λ _. Named run Tale t ⊎ (t.statement ≡ Refresh)) [
          | inl none ↦ absurd (omega (arith, none, within))
          | inr named ↦ inl named
        ]

  -- the law of this file
  pub are_named : AreNamed run Tale
  are_named = record { lead = namings_lead run times mount start end fits mounted tells sound right left free; speak = λ t is_line within. speaks t is_line within }

  pub spoken_told : HasSpoken run Tale
  spoken_told = record {
    finds = spoken_its run times mount start end fits mounted tells sound right left free;
    renamed = renamed_its run times mount start end fits mounted tells sound right left free;
    busy = busy_its run times mount start end fits mounted tells sound right left free;
    held = λ t says holds. held_spoken t says.is_line says.says holds;
    listed = lists_names run times mount start end fits mounted tells sound right left free;
    missing = none_found run times mount start end fits mounted tells sound right left free;
    exists = exists_so run times mount start end fits mounted tells sound right left free;
  }
