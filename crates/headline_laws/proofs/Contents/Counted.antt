-- A reader's line counts of each writer the first writes that the lines tell, or that the tree before has.
use Rattle.std.proofs.Common.{◌≡◌, ◌≤◌, ◌<◌, ◌^◌, inl, inr, ℕ, Bool, true, false, nat_eq, List, [], ◌∷◌, ◌++◌, length, map, take, Option, Some, None, refl, sym, ap, ◌∙◌, subst, arith, append_assoc, length-append, if◌then◌else◌}
use Rattle.std.specs.Prelude.{MatchOption, slice_get}
use Rattle.std.specs.List.{AllByRecursion}
use Rattle.std.proofs.lemmas.Bool.{cases_lt}
use Rattle.std.proofs.lemmas.Bool.Decides.{nat_tests}
use Rattle.std.proofs.lemmas.List.{append-nil, length-map, map-append, take-append-le}
use Rattle.container_layout.specs.declared.items.Item.TheVariants.{Index}
use Rattle.container_layout.specs.Paths.{path_of}
use Rattle.plain_file.specs.File.{stored_bytes}
use Rattle.attr_flow.specs.Shares.{with_share}
use Rattle.look_laws.specs.Shares.{shares_seen}
use Rattle.store_api.specs.Acts.{Stored}
use Rattle.store_api.specs.declared.tree.Room.{Room}
use Rattle.store_laws.specs.Files.{file_at}
use Rattle.mount_model.specs.Mounting.{IsMounted}
use Rattle.mount_model.specs.Paths.{index_path}
use Rattle.mount_model.specs.State.{State}
use Rattle.mount_model.specs.Table.{row_of}
use Rattle.mount_model.specs.declared.row.Row.{Row}
use Rattle.mount_model.specs.History.{Event}
use Rattle.mount_sound.specs.Dropping.{IsDropping, IsWriter as IsWriterOf, log_bytes}
use Rattle.mount_sound.specs.Items.{HasItem}
use Rattle.mount_sound.specs.Entries.{logged}
use Rattle.mount_sound.specs.Ledger.{Written, entries_in}
use Rattle.mount_sound.specs.Sound.{IsSoundTree}
use Rattle.mount_sound.proofs.Facts.{mounted_sound}
use Rattle.reader_laws.specs.Gathering.{Gathered, IsAdmissible}
use Rattle.reader_laws.specs.Moments.{Dropping, IsSoundAt, Moment, file_in_room, issued_by, moment_after}
use Rattle.reader_laws.specs.View.{WritersRise, own_entries, writes_in}
use Rattle.mount_sound.specs.Ledger.{change_of}
use Rattle.reader_laws.proofs.Gathered.Facts.{length-entries, sound_after}
use Rattle.script_lang.specs.Ranges.{FitsScript}
use Rattle.script_lang.specs.declared.line.Outcome.TheVariants as line
use Rattle.run_core.specs.Play.{IsRight}
use Rattle.headline_laws.specs.OneFile.{printed_cut}
use Rattle.headline.specs.Run.{Run, Says, Told, before, so_far, told}
use Rattle.headline.specs.Trees.{Has}
use Rattle.headline.specs.Writers.{Writer, new_writer, old_writer}
use Rattle.headline.specs.Names.{Story}
use Rattle.headline.specs.Views.{IsWriter, Seen, counted, opened, shared, stood, writes_of}
use Rattle.headline_laws.proofs.Statements.Known.{HasEntered, entered_more}
use Rattle.headline_laws.proofs.Story.Entered.{entered_once}
use Rattle.headline_laws.proofs.Story.Namings.{story_of}
use Rattle.headline_laws.proofs.Trees.Reading.{grows_to, lawful_to, opened_line}
use Rattle.headline_laws.proofs.Trees.Still.{Led, file_of, same as issued_still, take_map, told_before}
use Rattle.headline_laws.proofs.Contents.Accounts.{issued_told}
use Rattle.headline_laws.proofs.Contents.Amounts.{have_some, some_logged, sums_same}
use Rattle.headline_laws.proofs.Contents.Issues.{found_write}
use Rattle.headline_laws.proofs.Contents.Written.{written}

one_row : (a b : Row) (o : Option Row) → o ≡ Some a → o ≡ Some b → a ≡ b
one_row a b o is also = cc

module _ (run : Run) (times : Option (List ℕ)) (mount : Stored) (start end : State) (fits : FitsScript run.script) (mounted : IsMounted 0 times mount start) (tells : mount.tree ≡ Some run.before) (sound : IsSoundTree run.before)
    (right : IsRight run.script start run.lines end) (left : end.store.tree ≡ Some run.after) where
  abbrev pub Begin : Moment
  Begin = record { state = start; issued = sound.issued }

  abbrev pub sound_begin : IsSoundAt Begin
  sound_begin = mounted_sound 0 times mount start run.before mounted tells sound

  abbrev pub homes : Story
  homes = story_of run Begin end fits sound_begin right

  -- all that is issued in the run
  abbrev pub InAll : ℕ → ℕ → List Written
  InAll room id = (moment_after Begin right.history).issued room id

  -- a writer of this container, with all its writes
  pub record Whole (t : Told) (id : ℕ) : Type 0 where
    pub writer : Writer
    pub its_id : writer.id ≡ id
    pub is_writer : IsWriter run homes (homes.of t) (before run t) (so_far run t) writer
    pub writes : writer.writes ≡ map change_of (InAll (homes.of t) id)

  -- ---- a writer of the tree before

  -- a writer that had issued writes before has an index
  record OldIndex (room id : ℕ) : Type 0 where
    pub host : ℕ
    pub is_in : Room
    pub there : slice_get run.before.rooms room ≡ Some is_in
    pub bytes : List ℕ
    pub has : HasItem is_in (Index host id) bytes

  not_none : (x : Written) (xs ys : List Written) → ys ≡ x ∷ xs → ys ≡ [] → ⊥
  not_none x xs ys is none = let clash : [] ≡ x ∷ xs = sym none ∙ is in absurd (cc)

  landed_index : (landed : ℕ) (R : List ℕ → Type 0) (o : Option (List ℕ)) → 1 ≤ landed → MatchOption o (landed ≡ 0) R → (bytes : List ℕ) × (o ≡ Some bytes)
  landed_index landed R None some is = absurd (omega (arith, some, is))
  landed_index landed R (Some bytes) some is = (bytes, refl)

  id_fits : (room id : ℕ) (x : Written) (xs : List Written) → sound.issued room id ≡ x ∷ xs → id < 2 ^ 64
  id_fits room id x xs is = elim (cases_lt id (2 ^ 64)) as (λ _. id < 2 ^ 64) [
    | inl below ↦ below
    | inr above ↦ absurd (not_none x xs (sound.issued room id) is (sound.fitting room id above))
  ]

  old_index : (room id : ℕ) (x : Written) (xs : List Written) → sound.issued room id ≡ x ∷ xs → OldIndex room id
  old_index room id x xs is = by_room (slice_get run.before.rooms room) refl
    where
      by_room : (o : Option Room) → slice_get run.before.rooms room ≡ o → OldIndex room id
      by_room None there = absurd (not_none x xs (sound.issued room id) is (sound.roomless room id there))
      by_room (Some r) there =
          let fits_id : id < 2 ^ 64 = id_fits room id x xs is in
          let w : IsWriterOf r id (sound.issued room id) = (sound.rooms room r there).writers id fits_id in
          let all : w.landed ≡ length (sound.issued room id) = sound.all_landed room r there id fits_id in
          let long : length (sound.issued room id) ≡ length (x ∷ xs) = ap length is in
          let f = landed_index w.landed (IsDropping id (sound.issued room id) w.landed (length (log_bytes r w.host id))) (file_at r (index_path w.host id)) (omega (arith, all, long)) w.index in
          record { host = w.host; is_in = r; there = there; bytes = f.0; has = record { is_item = record { in_range = tt; widths = (w.host_fits, fits_id) }; there = f.1 } }

  abbrev led : Led run times mount start right.history end
  led = record { mounted = mounted; told = tells; sound = sound; leads = right.leads; left = left }

  old_whole : (t : Told) (id : ℕ) (x : Written) (xs : List Written) → sound.issued (homes.of t) id ≡ x ∷ xs → Whole t id
  old_whole t id x xs is =
      let n : ℕ = homes.of t in
      let i = old_index n id x xs is in
      let d : Dropping = record { room = n; host = i.host; writer = id } in
      let before_so = told_before run times mount start right.history end led d i.is_in i.bytes i.there i.has in
      let still = issued_still run times mount start right.history end led d i.is_in i.bytes i.there i.has in
      let has : Has run.before n (Index i.host id) = (i.bytes, file_of run.before n (Index i.host id) ∙ ap (λ o. file_in_room o (path_of (Index i.host id))) i.there ∙ i.has.there) in
      record { writer = old_writer run.before n i.host id; its_id = refl; is_writer = stood i.has.is_item has refl; writes = before_so.writes ∙ ap (map change_of) (sym still) }

  -- ---- a writer that a line opened

  new_whole : (t : Told) (id : ℕ) (es rest : List Event) → right.history ≡ es ++ rest → sound.issued (homes.of t) id ≡ [] → 1 ≤ length ((moment_after Begin es).issued (homes.of t) id) → Whole t id
  new_whole t id es rest is none some =
      let n : ℕ = homes.of t in
      let f = found_write Begin es n id (λ same. (let long = ap length (same ∙ none) in omega (arith, some, long))) in
      let all : right.history ≡ f.pre ++ f.event ∷ (f.post ++ rest) = is ∙ ap (λ z. z ++ rest) f.is ∙ append_assoc f.pre (f.event ∷ f.post) rest in
      let v = written run Begin end fits sound_begin right f.pre f.event (f.post ++ rest) id all f.write in
      let o : Told = v.opened.line in
      let rows : v.of.row ≡ f.of.row = one_row v.of.row f.of.row (row_of id (moment_after Begin f.pre).state.table.writers) v.of.held f.of.held in
      let room : v.it.dropping.room ≡ n = sym v.of.here ∙ ap (λ (r : Row). r.room) rows ∙ f.of.here in
      let says : Says run o (line.Opened id) = record { is_line = v.opened.good; says = v.opened.says ∙ ap (λ k. line.Opened k) v.its_id } in
      let x = opened_line run Begin end fits sound_begin right o id says in
      let behind : right.history ≡ v.done ++ (v.first ++ f.event ∷ (f.post ++ rest)) = all ∙ ap (λ z. z ++ f.event ∷ (f.post ++ rest)) v.before_is ∙ append_assoc v.done v.first (f.event ∷ (f.post ++ rest)) in
      let entered : HasEntered v.number right.history v.it.dropping = subst (λ z. HasEntered v.number z v.it.dropping) (sym behind) (entered_more v.number v.done (v.first ++ f.event ∷ (f.post ++ rest)) v.it.dropping v.entered) in
      let one = entered_once start right.history v.number x.number v.it.dropping x.dropping right.leads.lawful entered x.entered (v.its_id ∙ sym x.its_id) in
      let home : homes.of o ≡ n = x.in_room ∙ sym one.room ∙ room in
      record {
        writer = new_writer run o.actor id (told run) (before run t) (so_far run t);
        its_id = refl;
        is_writer = opened o says.is_line says.says home refl;
        writes = sym (issued_told run Begin end fits sound_begin right o id says) ∙ ap (λ k. map change_of (InAll k id)) home;
      }

  -- ---- all counts of a line

  abbrev pub IsSeen : Told → Seen → Type 0
  IsSeen t s = (1 ≤ s.count) × (s.count ≤ length s.writer.writes) × IsWriter run homes (homes.of t) (before run t) (so_far run t) s.writer

  pub record HasSeen (t : Told) (moment : Moment) (cut : List Gathered) : Type 0 where
    pub seen : List Seen
    pub known : AllByRecursion (IsSeen t) seen
    pub counts : printed_cut cut ≡ map counted seen
    pub writes : writes_of seen ≡ map change_of (writes_in moment cut)
    pub shares : shares_seen moment cut ≡ map shared seen

  module _ (t : Told) (moment : Moment) (es rest : List Event) (is : right.history ≡ es ++ rest) (moment_is : moment ≡ moment_after Begin es) where
    pub whole_of : (g : Gathered) → g.dropping.room ≡ homes.of t → 1 ≤ g.count → g.count ≤ length (issued_by moment g.dropping) → Whole t g.dropping.writer
    whole_of g room some few = by_issued (sound.issued (homes.of t) g.dropping.writer) refl
      where
        by_issued : (ws : List Written) → sound.issued (homes.of t) g.dropping.writer ≡ ws → Whole t g.dropping.writer
        by_issued [] none =
            let there : length (issued_by moment g.dropping) ≡ length ((moment_after Begin es).issued (homes.of t) g.dropping.writer) = ap (λ (x : Moment). length (issued_by x g.dropping)) moment_is ∙ ap (λ k. length ((moment_after Begin es).issued k g.dropping.writer)) room in
            new_whole t g.dropping.writer es rest is none (omega (arith, some, few, there))
        by_issued (x ∷ xs) were = old_whole t g.dropping.writer x xs were

    -- the first writes of the whole are those that were issued by then
    record First (g : Gathered) (w : Writer) : Type 0 where
      pub few : g.count ≤ length w.writes
      pub same : take g.count w.writes ≡ map change_of (take g.count (issued_by moment g.dropping))

    first_of : (g : Gathered) → g.dropping.room ≡ homes.of t → g.count ≤ length (issued_by moment g.dropping) → (w : Whole t g.dropping.writer) → First g w.writer
    first_of g room few w =
        let id : ℕ = g.dropping.writer in
        let grown = (grows_to run Begin end fits sound_begin right es rest [] (is ∙ sym (append-nil (es ++ rest)))).issued g.dropping.room id in
        let then_is : (moment_after Begin es).issued g.dropping.room id ≡ issued_by moment g.dropping = ap (λ (x : Moment). issued_by x g.dropping) (sym moment_is) in
        let more : InAll (homes.of t) id ≡ issued_by moment g.dropping ++ grown.0 = ap (λ k. InAll k id) (sym room) ∙ ap (λ zs. (moment_after Begin zs).issued g.dropping.room id) is ∙ grown.1 ∙ ap (λ z. z ++ grown.0) then_is in
        let long : length w.writer.writes ≡ length (issued_by moment g.dropping ++ grown.0) = ap length w.writes ∙ length-map (InAll (homes.of t) id) change_of ∙ ap length more in
        let both = length-append (issued_by moment g.dropping) grown.0 in
        record {
          few = omega (arith, few, long, both);
          same = ap (take g.count) w.writes ∙ take_map change_of g.count (InAll (homes.of t) id) ∙ ap (λ z. map change_of (take g.count z)) more ∙ ap (map change_of) (take-append-le g.count (issued_by moment g.dropping) grown.0 few);
        }

    -- its first writes have these bytes
    bytes_are : (g : Gathered) (w : Writer) → take g.count w.writes ≡ map change_of (take g.count (issued_by moment g.dropping)) → stored_bytes (take g.count w.writes) ≡ logged (own_entries moment g)
    bytes_are g w same = ap stored_bytes same ∙ sums_same (take g.count (issued_by moment g.dropping)) ∙ ap logged (sym (take_map (λ (x : Written). x.entry) g.count (issued_by moment g.dropping)))

    bytes_some : (g : Gathered) → 1 ≤ g.count → g.count ≤ length (issued_by moment g.dropping) → nat_eq (logged (own_entries moment g)) 0 ≡ false
    bytes_some g many few =
        let s : IsSoundAt moment = subst IsSoundAt (sym moment_is) (sound_after Begin es (lawful_to run Begin end fits sound_begin right es rest is) sound_begin) in
        let long = length-entries (issued_by moment g.dropping) in
        let some : 1 ≤ logged (own_entries moment g) = some_logged (entries_in (issued_by moment g.dropping)) g.count (have_some g.dropping.writer 0 0 (entries_in (issued_by moment g.dropping)) (s.sound.writes g.dropping.room g.dropping.writer).in_order) many (omega (arith, few, long)) in
        grind (arith, nat_tests)

    pub all_seen : (first : Moment) (cut : List Gathered) → WritersRise (homes.of t) cut → IsAdmissible first moment cut → HasSeen t moment cut
    all_seen first [] rise all = record { seen = []; known = tt; counts = refl; writes = refl; shares = refl }
    all_seen first (g ∷ cut) rise all = by_count (nat_eq g.count 0) refl (all_seen first cut rise.2 all.1)
      where
        none : nat_eq g.count 0 ≡ true → HasSeen t moment cut → HasSeen t moment (g ∷ cut)
        none is_zero h =
            let zero_is : g.count ≡ 0 = grind (arith, nat_tests) in
            record {
              seen = h.seen;
              known = h.known;
              counts = ap (λ b. if b then printed_cut cut else record { writer = g.dropping.writer; count = g.count } ∷ printed_cut cut) is_zero ∙ h.counts;
              writes = h.writes ∙ ap (λ k. map change_of (take k (issued_by moment g.dropping) ++ writes_in moment cut)) (sym zero_is);
              shares = ap (λ k. with_share g.dropping.writer (logged (take k (entries_in (issued_by moment g.dropping)))) (shares_seen moment cut)) zero_is ∙ h.shares;
            }

        some : nat_eq g.count 0 ≡ false → HasSeen t moment cut → HasSeen t moment (g ∷ cut)
        some not_zero h =
            let many : 1 ≤ g.count = grind (arith, nat_tests) in
            let w = whole_of g rise.0 many all.0.were_issued in
            let f = first_of g rise.0 all.0.were_issued w in
            let it : Seen = record { writer = w.writer; count = g.count } in
            let count_is : counted it ≡ record { writer = g.dropping.writer; count = g.count } = ap (λ k. record { writer = k; count = g.count }) w.its_id in
            let share_is : shared it ≡ record { writer = g.dropping.writer; bytes = logged (own_entries moment g) } = λ i. record { writer = w.its_id i; bytes = bytes_are g w.writer f.same i } in
            record {
              seen = it ∷ h.seen;
              known = ((many, f.few, w.is_writer), h.known);
              counts = ap (λ b. if b then printed_cut cut else record { writer = g.dropping.writer; count = g.count } ∷ printed_cut cut) not_zero ∙ ap (λ z. z ∷ printed_cut cut) (sym count_is) ∙ ap (λ z. counted it ∷ z) h.counts;
              writes = ap (λ z. z ++ writes_of h.seen) f.same ∙ ap (λ z. map change_of (take g.count (issued_by moment g.dropping)) ++ z) h.writes ∙ sym (map-append change_of (take g.count (issued_by moment g.dropping)) (writes_in moment cut));
              shares = ap (λ b. if b then shares_seen moment cut else record { writer = g.dropping.writer; bytes = logged (own_entries moment g) } ∷ shares_seen moment cut) (bytes_some g many all.0.were_issued) ∙ ap (λ z. z ∷ shares_seen moment cut) (sym share_is) ∙ ap (λ z. shared it ∷ z) h.shares;
            }

        by_count : (b : Bool) → nat_eq g.count 0 ≡ b → HasSeen t moment cut → HasSeen t moment (g ∷ cut)
        by_count true is_zero h = none is_zero h
        by_count false not_zero h = some not_zero h
