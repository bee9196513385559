-- Of one number all entries of open writers and all writers of a container are of one host, whenever each of them stood.
use Rattle.std.proofs.Common.{◌≡◌, ◌⊎◌, ◌≤◌, ◌<◌, ◌^◌, inl, inr, ℕ, true, List, [], ◌∷◌, ◌++◌, length, get_or, Option, Some, None, refl, sym, ap, ◌∙◌, subst, arith, append_assoc, length-append}
use Rattle.std.specs.Prelude.{slice_get}
use Rattle.std.proofs.lemmas.Bool.{cases_lt}
use Rattle.container_layout.specs.declared.items.Item.TheVariants.{Index, OpenHost}
use Rattle.container_layout.specs.Paths.{path_of}
use Rattle.container_layout.proofs.Facts.{elsewhere}
use Rattle.store_api.specs.Acts.{Stored}
use Rattle.store_api.specs.declared.tree.Room.{Room}
use Rattle.store_laws.specs.Files.{file_at}
use Rattle.mount_model.specs.declared.call.Ask.{Ask}
use Rattle.mount_model.specs.declared.row.Stage.{Stage}
use Rattle.mount_model.specs.History.{Event}
use Rattle.mount_model.specs.Mounting.{IsMounted}
use Rattle.mount_model.specs.Paths.{open_path}
use Rattle.mount_model.specs.State.{State, last_id}
use Rattle.mount_model.specs.Table.{is_live}
use Rattle.mount_model.proofs.Facts.{row_of_id}
use Rattle.mount_sound.specs.Owed.{IsLawful}
use Rattle.mount_sound.specs.Sound.{IsSoundTree}
use Rattle.mount_sound.proofs.Facts.{all_fit}
use Rattle.reader_laws.specs.Moments.{Dropping, HadItem, IsNamed, IsSoundAt, Moment, Stood, file_in_room, file_told, moment_after, next_moment}
use Rattle.reader_laws.proofs.Gathered.Facts.{in_a_room, in_tree, legal_first, legal_rest, moment-append, sound_after}
use Rattle.reader_laws.proofs.Gathered.Moments.Stepping.{sound_next}
use Rattle.script_lang.specs.Ranges.{FitsScript}
use Rattle.script_lang.specs.declared.line.Outcome.TheVariants as line
use Rattle.run_core.specs.Play.{IsRight}
use Rattle.headline.specs.Run.{Run, Says, Told}
use Rattle.headline.specs.Writers.{Writer}
use Rattle.headline.specs.Views.{IsWriter, opened, stood}
use Rattle.headline_laws.proofs.Contents.Counted.{homes}
use Rattle.headline_laws.proofs.Contents.OpenUntil.{drawn_rises}
use Rattle.headline_laws.proofs.Contents.OpenedWriter.{First, its_dropping, sound_first}
use Rattle.headline_laws.proofs.Makers.Back.{has_or_not}
use Rattle.headline_laws.proofs.Makers.Rows.{EnteredRow, entered_row}
use Rattle.headline_laws.proofs.Statements.Known.{HasEntered}
use Rattle.headline_laws.proofs.Story.Entered.{later_entered}
use Rattle.headline_laws.proofs.Trees.Away.{IsAway, away_later}
use Rattle.headline_laws.proofs.Trees.Old.{begins_with}
use Rattle.headline_laws.proofs.Trees.OpenListed.{entry_drawn, entry_of_index, one_entry}
use Rattle.headline_laws.proofs.Trees.Reading.{fronts, grows_to}
use Rattle.headline_laws.proofs.Trees.WriterStands.{line_stands}

-- a writer that has entered has its entry
entry_begun : (m : Moment) → IsSoundAt m → (n room host most w : ℕ) → EnteredRow n room host most w m.state → HadItem m room (OpenHost host w)
entry_begun m s n room host most w e =
    let placed = s.sound.placed w e.row e.has.there in
    let kept = (s.sound.rooms e.row.room placed.0 placed.1).kept w e.row e.has.there refl in
    let stands = (kept.alive (subst (λ (x : Stage). is_live x ≡ true) (sym e.begun) refl)).opened in
    let fits = all_fit m.state s.regular w e.row e.has.there in
    let had : HadItem m e.row.room (OpenHost e.row.host e.row.id) = record {
      is_item = record { in_range = tt; widths = (fits.host, fits.id) };
      bytes = [];
      there = ap (λ t. file_told t e.row.room (open_path e.row.host e.row.id)) s.shape.told ∙ ap (λ r. file_in_room r (open_path e.row.host e.row.id)) placed.1 ∙ stands;
    } in
    subst (λ r. HadItem m r (OpenHost host w)) e.in_room (subst (λ h. HadItem m e.row.room (OpenHost h w)) e.its_host (subst (λ k. HadItem m e.row.room (OpenHost e.row.host k)) (row_of_id w m.state.table.writers e.row e.has.there) had))

-- an entry that isn't there, in a container that has another one of its number, is away
away_beside : (m : Moment) → IsSoundAt m → (n host other id : ℕ) → HadItem m n (OpenHost other id) → (HadItem m n (OpenHost host id) → ⊥) → host < 2 ^ 32 → IsAway m (record { room = n; host = host; writer = id })
away_beside m s n host other id had none small =
    let r = in_a_room (slice_get s.shape.tree.rooms n) (path_of (OpenHost other id)) had.bytes (in_tree m s n (path_of (OpenHost other id)) had.bytes had.there) in
    record { tree = s.shape.tree; told = s.shape.told; away = record { room = r.0; there = r.1; none = by r.0 r.1 (file_at r.0 (open_path host id)) refl }; drawn = entry_drawn m s n other id had }
  where
    by : (room : Room) → slice_get s.shape.tree.rooms n ≡ Some room → (o : Option (List ℕ)) → file_at room (open_path host id) ≡ o → file_at room (open_path host id) ≡ None
    by room there None is = is
    by room there (Some bytes) is = absurd (none (record {
      is_item = record { in_range = tt; widths = (small, had.is_item.widths.1) };
      bytes = bytes;
      there = ap (λ o. file_told o n (open_path host id)) s.shape.told ∙ ap (λ o. file_in_room o (open_path host id)) there ∙ is;
    }))

module _ (run : Run) (times : Option (List ℕ)) (mount : Stored) (start end : State) (fits : FitsScript run.script) (mounted : IsMounted 0 times mount start) (tells : mount.tree ≡ Some run.before) (sound : IsSoundTree run.before)
    (right : IsRight run.script start run.lines end) (left : end.store.tree ≡ Some run.after) where
  abbrev Begins : Moment
  Begins = First run times mount start end fits mounted tells sound right left

  abbrev sound_begins : IsSoundAt Begins
  sound_begins = sound_first run times mount start end fits mounted tells sound right left

  sound_by : (x xs : List Event) → right.history ≡ x ++ xs → IsSoundAt (moment_after Begins x)
  sound_by x xs is = sound_after Begins x (legal_first Begins x xs (subst (IsLawful Begins.state) is right.leads.lawful)) sound_begins

  -- an entry that is away at some time isn't there later
  away_rises : (x xs y ys : List Event) → right.history ≡ x ++ xs → right.history ≡ y ++ ys → length x ≤ length y → (d : Dropping) → IsNamed d → IsAway (moment_after Begins x) d → IsAway (moment_after Begins y) d
  away_rises x xs y ys is also le d named a =
      let gap = fronts x xs y ys (sym is ∙ also) le in
      let split : right.history ≡ x ++ (gap.0 ++ ys) = also ∙ ap (λ z. z ++ ys) gap.1 ∙ append_assoc x gap.0 ys in
      let lawful : IsLawful Begins.state (x ++ (gap.0 ++ ys)) = subst (IsLawful Begins.state) split right.leads.lawful in
      let later = away_later (moment_after Begins x) gap.0 d named (sound_after Begins x (legal_first Begins x (gap.0 ++ ys) lawful) sound_begins) (legal_first (moment_after Begins x) gap.0 ys (legal_rest Begins x (gap.0 ++ ys) lawful)) a in
      subst (λ m. IsAway m d) (sym (ap (moment_after Begins) gap.1 ∙ moment-append Begins x gap.0)) later

  away_not : (m : Moment) (d : Dropping) → IsAway m d → HadItem m d.room (OpenHost d.host d.writer) → ⊥
  away_not m d a had =
      let none : file_told m.state.store.tree d.room (open_path d.host d.writer) ≡ None = ap (λ o. file_told o d.room (open_path d.host d.writer)) a.told ∙ ap (λ r. file_in_room r (open_path d.host d.writer)) a.away.there ∙ a.away.none in
      let clash : None ≡ Some had.bytes = sym none ∙ had.there in
      absurd (cc)

  -- ---- an entry stands at some time

  module _ (n host id : ℕ) (till more : List Event) (is : right.history ≡ till ++ more) (had : HadItem (moment_after Begins till) n (OpenHost host id)) where
    -- a writer of the tree before is of its host
    of_old : (other : ℕ) → HadItem Begins n (Index other id) → other ≡ host
    of_old other index =
        let stands : Stood (moment_after Begins till) (record { room = n; host = other; writer = id }) = (grows_to run Begins end fits sound_begins right [] till more is).stands n (Index other id) tt index in
        sym (entry_of_index (moment_after Begins till) (sound_by till more is) n host other id had stands)

    -- and so is one that entered, where its number was drawn by then
    of_entered : (k : ℕ) (d : Dropping) → d.room ≡ n → d.writer ≡ id → HasEntered k right.history d → d.host ≡ host
    of_entered k d room its e = by (cases_lt (length e.first) (length till))
      where
        mid : Moment
        mid = moment_after Begins e.first

        lawful_here : IsLawful mid.state (e.event ∷ e.later)
        lawful_here = legal_rest Begins e.first (e.event ∷ e.later) (subst (IsLawful Begins.state) e.all right.leads.lawful)

        upto : List Event
        upto = e.first ++ e.event ∷ []

        upto_split : right.history ≡ upto ++ e.later
        upto_split = e.all ∙ sym (append_assoc e.first (e.event ∷ []) e.later)

        upto_is : moment_after Begins upto ≡ next_moment mid e.event
        upto_is = moment-append Begins e.first (e.event ∷ [])

        entry : HadItem (moment_after Begins upto) n (OpenHost d.host id)
        entry =
            let row = entered_row k d.room d.host e.most d.writer mid e.event (sound_by e.first (e.event ∷ e.later) e.all) lawful_here.1 e.own (ap (λ (a : Ask). a.call) e.asked) e.entered in
            let there : HadItem (next_moment mid e.event) d.room (OpenHost d.host d.writer) = entry_begun (next_moment mid e.event) (sound_next mid e.event e.later lawful_here (sound_by e.first (e.event ∷ e.later) e.all)) k d.room d.host e.most d.writer row in
            subst (λ m. HadItem m n (OpenHost d.host id)) (sym upto_is) (subst (λ r. HadItem (next_moment mid e.event) r (OpenHost d.host id)) room (subst (λ w. HadItem (next_moment mid e.event) d.room (OpenHost d.host w)) its there))

        -- its number was drawn then
        not_later : length till ≤ length e.first → ⊥
        not_later short =
            let drawn : id ≤ last_id (moment_after Begins till).state = entry_drawn (moment_after Begins till) (sound_by till more is) n host id had in
            let rise : last_id (moment_after Begins till).state ≤ last_id (moment_after Begins e.first).state = drawn_rises run times mount start end fits mounted tells sound right left till e.first more (e.event ∷ e.later) is e.all short in
            let new : last_id (moment_after Begins e.first).state < d.writer = later_entered mid.state [] e.event e.later k d.room d.host e.most d.writer lawful_here e.own e.asked e.entered in
            omega (arith, drawn, rise, new, its)

        one : length upto ≤ length till → HadItem (moment_after Begins upto) n (OpenHost host id) ⊎ (HadItem (moment_after Begins upto) n (OpenHost host id) → ⊥) → d.host ≡ host
        one long (inl same) = one_entry (moment_after Begins upto) (sound_by upto e.later upto_split) n d.host host id entry same
        one long (inr none) =
            let a = away_beside (moment_after Begins upto) (sound_by upto e.later upto_split) n host d.host id entry none had.is_item.widths.0 in
            absurd (away_not (moment_after Begins till) (record { room = n; host = host; writer = id }) (away_rises upto e.later till more upto_split is long (record { room = n; host = host; writer = id }) (record { in_range = tt; widths = (had.is_item.widths.0, had.is_item.widths.1) }) a) had)

        by : (length e.first < length till) ⊎ (length till ≤ length e.first) → d.host ≡ host
        by (inr short) = absurd (not_later short)
        by (inl far) = one (let b = length-append e.first (e.event ∷ []) in omega (arith, b, far)) (has_or_not (moment_after Begins upto) n (OpenHost host id) had.is_item)

    -- the law of this file
    pub one_host : (sure maybe : List Told) (w : Writer) → w.id ≡ id → IsWriter run (homes run times mount start end fits mounted tells sound right left) n sure maybe w → w.host ≡ host
    one_host sure maybe w its (stood is_item has is_old) =
        of_old w.host (subst (λ k. HadItem Begins n (Index w.host k)) its (begins_with run times mount start end fits mounted tells sound right n (Index w.host w.id) is_item (λ e. elsewhere (ap (λ (name : List ℕ). get_or name 0 0) e) refl) has))
    one_host sure maybe w its (opened o is_line says home is_new) =
        let so : Says run o (line.Opened w.id) = record { is_line = is_line; says = says } in
        let l = line_stands run Begins end fits sound_begins right o w.id so in
        let k = its_dropping run times mount start end fits mounted tells sound right left o w.id so l.number l.stands.dropping l.stands.entered l.stands.its_id in
        ap (λ (x : Writer). x.host) is_new ∙ sym k.host ∙ of_entered l.number l.stands.dropping (k.room ∙ home) (l.stands.its_id ∙ its) l.stands.entered
