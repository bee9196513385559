-- What a reader's line has of the tree before.
use Rattle.std.proofs.Common.{◌≡◌, ◌≤◌, inl, inr, ℕ, List, [], ◌∷◌, ◌++◌, length, get_or, Some, refl, sym, ap, ◌∙◌, subst, arith, append_assoc}
use Rattle.std.proofs.lemmas.List.{length-map}
use Rattle.std.specs.Prelude.{Option, slice_get}
use Rattle.std.specs.List.{Any}
use Rattle.plfs_types.specs.declared.entries.Trunc.{Trunc}
use Rattle.plfs_types.specs.declared.entries.WriterCount.{WriterCount}
use Rattle.container_layout.specs.declared.items.Item.{Item}
use Rattle.container_layout.specs.declared.items.Item.TheVariants.{Index}
use Rattle.container_layout.specs.Items.{IsItem}
use Rattle.container_layout.specs.Paths.{path_of}
use Rattle.container_layout.proofs.Facts.{elsewhere}
use Rattle.store_api.specs.Acts.{Stored}
use Rattle.store_api.specs.declared.tree.Room.{Room}
use Rattle.store_api.specs.declared.tree.Tree.{Tree}
use Rattle.store_laws.specs.Files.{file_at}
use Rattle.mount_model.specs.History.{Event, state_after}
use Rattle.mount_model.specs.Mounting.{IsMounted}
use Rattle.store_api.specs.Names.{marks_folder}
use Rattle.mount_model.specs.State.{State}
use Rattle.mount_sound.specs.Items.{HasItem}
use Rattle.mount_sound.specs.Sound.{IsSoundTree}
use Rattle.mount_sound.proofs.Facts.{mounted_sound}
use Rattle.reader_laws.specs.Gathering.{Gathered, IsAdmissible}
use Rattle.reader_laws.specs.Moments.{Dropping, HadItem, IsSoundAt, Moment, Stood, file_in_room, file_told, landed, moment_after}
use Rattle.reader_laws.proofs.Gathered.Facts.{any_found, follows, found_any, in_a_room, length-entries, sound_after}
use Rattle.plain_file.proofs.Facts.{Among}
use Rattle.script_lang.specs.Ranges.{FitsScript}
use Rattle.script_lang.specs.declared.line.Outcome.TheVariants as line
use Rattle.run_core.specs.Play.{IsRight}
use Rattle.headline_laws.specs.OneFile.{OneFile, printed_cut}
use Rattle.headline.specs.Run.{Run, Says, Told}
use Rattle.plfs_types.specs.Places.{IsAmong}
use Rattle.headline.specs.Trees.{Has, landed_writes}
use Rattle.headline.specs.Views.{item_of}
use Rattle.headline.specs.Files.{reader_at}
use Rattle.headline.specs.Changes.{writing_at}
use Rattle.headline.specs.Readers.{HasOld}
use Rattle.headline_laws.proofs.OrderlyLines.Answering.{printed_there}
use Rattle.headline_laws.proofs.Story.Lines.{container, line_here}
use Rattle.headline_laws.proofs.Story.Namings.{story_of}
use Rattle.headline_laws.proofs.Trees.Reading.{grows_to, lawful_to, reader_line}
use Rattle.headline_laws.proofs.Trees.Still.{Led, all_last, file_of, mounting_keeps, told_before, written}

module _ (run : Run) (times : Option (List ℕ)) (opened : Stored) (start end : State) (fits : FitsScript run.script) (mounted : IsMounted 0 times opened start) (told : opened.tree ≡ Some run.before) (sound : IsSoundTree run.before)
    (right : IsRight run.script start run.lines end) where
  abbrev pub Begin : Moment
  Begin = record { state = start; issued = sound.issued }

  abbrev pub sound_begin : IsSoundAt Begin
  sound_begin = mounted_sound 0 times opened start run.before mounted told sound

  -- a room of the tree before has the file
  pub record IsThere (n : ℕ) (item : Item) : Type 0 where
    pub bytes : List ℕ
    pub room : Room
    pub there : slice_get run.before.rooms n ≡ Some room
    pub has : file_at room (path_of item) ≡ Some bytes

  pub is_there : (n : ℕ) (item : Item) → Has run.before n item → IsThere n item
  is_there n item (bytes, is) =
      let r = in_a_room (slice_get run.before.rooms n) (path_of item) bytes (sym (file_of run.before n item) ∙ is) in
      record { bytes = bytes; room = r.0; there = r.1; has = r.2 }

  -- the mount began with it
  pub begins_with : (n : ℕ) (item : Item) → IsItem item → ((path_of item).folder ≡ marks_folder → ⊥) → Has run.before n item → HadItem Begin n item
  begins_with n item is_item apart has =
      let f = is_there n item has in
      let m = mounting_keeps times opened start run.before n (path_of item) f.bytes mounted told apart (f.room, f.there, f.has) in
      record { is_item = is_item; bytes = f.bytes; there = ap (λ o. file_told o n (path_of item)) m.1 ∙ ap (λ o. file_in_room o (path_of item)) m.2.1 ∙ m.2.2 }

  -- ---- truncates

  trunc_seen : (t : Told) (size : ℕ) (cut : List WriterCount) (truncs : List Trunc) (u : Trunc) → Says run t (line.Reader size cut truncs) → IsItem (item_of u) → Has run.before (container run Begin end fits sound_begin right t) (item_of u) → IsAmong u truncs
  trunc_seen t size cut truncs u says is_item has =
      let l = line_here run Begin end fits sound_begin right t says.is_line in
      let z = reader_line run Begin end fits sound_begin right (reader_at run t) (writing_at run t) t l size cut truncs says.says in
      let es : List Event = l.line.part.earlier ++ z.upto in
      let had = begins_with (container run Begin end fits sound_begin right t) (item_of u) is_item (λ e. elsewhere (ap (λ (name : List ℕ). get_or name 0 0) e) refl) has in
      let grows = grows_to run Begin end fits sound_begin right [] es z.rest z.split in
      let there : HadItem (moment_after Begin es) z.so.file.room (item_of u) = subst (λ k. HadItem (moment_after Begin es) k (item_of u)) z.in_room (grows.stands (container run Begin end fits sound_begin right t) (item_of u) tt had) in
      subst (λ ts. IsAmong u ts) (sym z.so.tells.truncates) (z.so.sees.view.all_truncs.all u (subst (λ x. HadItem x z.so.file.room (item_of u)) (sym z.moment) there))

  -- ---- writers

  -- the tree then, in place of the tree after
  abbrev run_to : Tree → Run
  run_to tree = record run { after = tree }

  led_to : (es rest : List Event) → right.history ≡ es ++ rest → (tree : Tree) → (state_after start es).store.tree ≡ Some tree → Led (run_to tree) times opened start es (state_after start es)
  led_to es rest is tree tells = record { mounted = mounted; told = told; sound = sound; leads = record { lawful = lawful_to run Begin end fits sound_begin right es rest is; ends = refl }; left = tells }

  module _ (d : Dropping) (room : Room) (bytes : List ℕ) (there : slice_get run.before.rooms d.room ≡ Some room) (has : HasItem room (Index d.host d.writer) bytes) where
    -- as many have landed at each moment as were issued before the mount
    pub landed_then : (es rest : List Event) → right.history ≡ es ++ rest → landed (moment_after Begin es) d ≡ length (sound.issued d.room d.writer)
    unfolding led_to
    landed_then es rest is =
        let s = sound_after Begin es (lawful_to run Begin end fits sound_begin right es rest is) sound_begin in
        let tells : (state_after start es).store.tree ≡ Some s.shape.tree = ap (λ (st : State). st.store.tree) (sym (follows Begin es).0) ∙ s.shape.told in
        ap length (all_last (run_to s.shape.tree) times opened start es (state_after start es) (led_to es rest is s.shape.tree tells) d room bytes there has) ∙ length-entries (sound.issued d.room d.writer)

    -- which the tree before tells
    pub told_landed : length (landed_writes run.before d.room d.host d.writer) ≡ length (sound.issued d.room d.writer)
    unfolding led_to
    told_landed =
        let tells : (state_after start []).store.tree ≡ Some sound_begin.shape.tree = sound_begin.shape.told in
        let t = told_before (run_to sound_begin.shape.tree) times opened start [] start (led_to [] right.history refl sound_begin.shape.tree tells) d room bytes there has in
        ap length t.writes ∙ length-map (sound.issued d.room d.writer) written

  counted_between : (first last : Moment) (cut : List Gathered) (g : Gathered) → Among g cut → IsAdmissible first last cut → (landed first g.dropping ≤ g.count) × (g.count ≤ landed last g.dropping)
  counted_between first last [] g at all = absurd at
  counted_between first last (h ∷ cut) g at all = by at (λ later. counted_between first last cut g later all.1)
    where
      by : Among g (h ∷ cut) → (Among g cut → (landed first g.dropping ≤ g.count) × (g.count ≤ landed last g.dropping)) → (landed first g.dropping ≤ g.count) × (g.count ≤ landed last g.dropping)
      by (inl same) rest = subst (λ (x : Gathered). (landed first x.dropping ≤ x.count) × (x.count ≤ landed last x.dropping)) (sym same) (all.0.least, all.0.most)
      by (inr later) rest = rest later

  writer_seen : (t : Told) (size host id : ℕ) (cut : List WriterCount) (truncs : List Trunc) → Says run t (line.Reader size cut truncs) → IsItem (Index host id) → Has run.before (container run Begin end fits sound_begin right t) (Index host id)
      → 1 ≤ length (landed_writes run.before (container run Begin end fits sound_begin right t) host id)
      → Any (λ (c : WriterCount). (c.writer ≡ id) × (c.count ≡ length (landed_writes run.before (container run Begin end fits sound_begin right t) host id))) cut
  writer_seen t size host id cut truncs says is_item has some =
      let n : ℕ = container run Begin end fits sound_begin right t in
      let d : Dropping = record { room = n; host = host; writer = id } in
      let f = is_there n (Index host id) has in
      let item : HasItem f.room (Index host id) f.bytes = record { is_item = is_item; there = f.has } in
      let l = line_here run Begin end fits sound_begin right t says.is_line in
      let z = reader_line run Begin end fits sound_begin right (reader_at run t) (writing_at run t) t l size cut truncs says.says in
      let file : OneFile = z.so.file in
      let from : List Event = l.line.part.earlier ++ z.so.earlier in
      let es : List Event = l.line.part.earlier ++ z.upto in
      let split : right.history ≡ from ++ (z.begun ++ z.rest) =
      z.split ∙ ap (λ u. (l.line.part.earlier ++ u) ++ z.rest) z.upto_is ∙ ap (λ u. u ++ z.rest) (sym (append_assoc l.line.part.earlier z.so.earlier z.begun)) ∙ append_assoc from z.begun z.rest in
      let had : Stood Begin d = begins_with n (Index host id) is_item (λ e. elsewhere (ap (λ (name : List ℕ). get_or name 0 0) e) refl) has in
      let stood_then : Stood (moment_after Begin from) d = (grows_to run Begin end fits sound_begin right [] from (z.begun ++ z.rest) split).stands n (Index host id) tt had in
      let g = any_found (λ (g : Gathered). g.dropping ≡ d) file.cut (z.so.sees.view.complete d z.in_room stood_then) in
      let between = counted_between (moment_after Begin from) file.moment file.cut g.0 g.1 z.so.sees.view.admissible in
      let least : landed (moment_after Begin from) d ≤ g.0.count = subst (λ x. landed (moment_after Begin from) x ≤ g.0.count) g.2 between.0 in
      let most : g.0.count ≤ landed (moment_after Begin es) d = subst (λ x. g.0.count ≤ landed x d) z.moment (subst (λ x. g.0.count ≤ landed file.moment x) g.2 between.1) in
      let one = landed_then d f.room f.bytes f.there item from (z.begun ++ z.rest) split in
      let other = landed_then d f.room f.bytes f.there item es z.rest z.split in
      let tells = told_landed d f.room f.bytes f.there item in
      let count : g.0.count ≡ length (landed_writes run.before n host id) = omega (arith, least, most, one, other, tells) in
      subst (λ c. Any (λ (c : WriterCount). (c.writer ≡ id) × (c.count ≡ length (landed_writes run.before n host id))) c) (sym z.so.tells.counts)
      (found_any (λ (c : WriterCount). (c.writer ≡ id) × (c.count ≡ length (landed_writes run.before n host id))) (printed_cut file.cut) (record { writer = g.0.dropping.writer; count = g.0.count }) (printed_there file.cut g.0 g.1 (omega (arith, some, count)))
      (ap (λ (x : Dropping). x.writer) g.2, count))

  pub old_seen : HasOld run (story_of run Begin end fits sound_begin right)
  old_seen = record { truncs = trunc_seen; writers = writer_seen }
