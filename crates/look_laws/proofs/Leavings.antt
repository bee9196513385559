-- What the metadata of a container tells of those who left it.
use Rattle.std.proofs.Common.{◌≡◌, inl, inr, ℕ, ◌<◌, ◌^◌, ◌||◌, Bool, true, false, List, [], take, Option, Some, None, Ok, Err, refl, sym, ap, ◌∙◌, subst}
use Rattle.std.specs.Prelude.{is_some, slice_get, ◌&&◌}
use Rattle.plfs_types.specs.declared.names.Path.{Path}
use Rattle.container_layout.specs.declared.items.Item.{Item}
use Rattle.container_layout.specs.declared.items.Item.TheVariants as item
use Rattle.container_layout.specs.Paths.{IsIn, path_of}
use Rattle.plain_file.proofs.Facts.{Among, cases_Option}
use Rattle.store_api.specs.declared.step.Answer.TheVariants.{Names, NoFolder}
use Rattle.store_api.specs.declared.store.Trouble.TheVariants as trouble_of
use Rattle.store_api.specs.declared.tree.Room.{Room}
use Rattle.store_api.specs.Room.{has_folder, is_top}
use Rattle.store_laws.specs.Differ.{is_listed}
use Rattle.store_laws.specs.Files.{file_at}
use Rattle.store_laws.specs.Says.{ListTells}
use Rattle.store_laws.specs.Tells.{Tells}
use Rattle.store_laws.specs.There.{LacksFolder, ListsFolder}
use Rattle.store_laws.proofs.Facts.{acts_told, list_tells, look_answered, ordered_differ}
use Rattle.mount_model.specs.declared.call.Call.TheVariants.{Look}
use Rattle.mount_model.specs.declared.call.Look.TheVariants.{List as ListFolder}
use Rattle.mount_model.specs.declared.reply.Reply.TheVariants.{Looked, Refused}
use Rattle.mount_model.specs.Looking.{listing_reply, look_outcome, look_step}
use Rattle.mount_model.specs.Making.{MakesAct, Refuses, Told, room_check}
use Rattle.mount_model.specs.Paths.{Name, metadata, open_path}
use Rattle.container_layout.specs.Paths.{openhosts}
use Rattle.mount_model.specs.State.{State, last_id}
use Rattle.mount_model.specs.Step.{Answers}
use Rattle.mount_model.proofs.Facts.{is_container, match_cases}
use Rattle.mount_sound.specs.Shape.{IsDrawnBy}
use Rattle.mount_sound.proofs.Shapes.Facts.{container_at, item_held, shape_of}
use Rattle.mount_sound.specs.Dropping.{IsToldOf, IsWriter}
use Rattle.mount_sound.specs.Items.{HasItem}
use Rattle.mount_sound.specs.Ledger.{entries_in}
use Rattle.mount_sound.specs.There.{landed_entries}
use Rattle.mount_sound.proofs.Facts.{writer_told}
use Rattle.mount_model.specs.declared.names.Metadata.{Metadata}
use Rattle.mount_model.specs.Names.{meta_in}
use Rattle.mount_model.proofs.Flows.Facts.{meta_in-found, meta_in-is}
use Rattle.reader_laws.specs.Moments.{Dropping, HadItem, IsSoundAt, Moment, file_in_room, file_told, landed_by}
use Rattle.reader_laws.proofs.Gathered.Facts.{file_named, folder_listed, in_a_room, in_tree, landed_at, named_file}
use Rattle.look_laws.proofs.Named.{AreOf, differ_so, name_of, told_by_name}
use Rattle.look_laws.proofs.Orders.{Differ}

-- ---- who has it open

-- the room is there, and no writer has an entry among those that have it open
pub record HasNobody (m : Moment) (sound : IsSoundAt m) (number : ℕ) : Type 0 where
  pub room : Room
  pub there : slice_get sound.shape.tree.rooms number ≡ Some room
  pub none : (host writer : ℕ) → host < 2 ^ 32 → writer < 2 ^ 64 → file_at room (open_path host writer) ≡ None

none_there : (o : Option (List ℕ)) (b : Bool) → false ≡ is_some o || b → o ≡ None
none_there None b e = refl
none_there (Some bytes) b e = absurd (cc)

module _ (n number : ℕ) (m : Moment) (s : IsSoundAt m) (after : State) where
  abbrev Made : Type 0
  Made = MakesAct (look_step number (ListFolder openhosts)) (look_outcome (ListFolder openhosts) m.state) m.state (Looked NoFolder) after

  looked_at : Answers m.state n (Look number (ListFolder openhosts)) (Looked NoFolder) after → (number ≡ m.state.marks → ⊥) × Made
  looked_at a = elim (match_cases (room_check m.state number) Made (λ why. Refuses why m.state (Looked NoFolder) after) a) as (λ _. (number ≡ m.state.marks → ⊥) × Made) [
    | inl (none, made) ↦ (is_container m.state number none, made)
    | inr (why, some, refused) ↦ absurd (let e : Looked NoFolder ≡ Refused why = refused.0 in cc)
  ]

  folder_told : (told : Told) → Looked NoFolder ≡ listing_reply openhosts told → told ≡ Ok NoFolder
  folder_told (Ok NoFolder) e = refl
  folder_told (Ok answer) e = absurd (cc)
  folder_told (Err trouble_of.Fault) e = absurd (cc)
  folder_told (Err trouble_of.NoMemory) e = absurd (cc)

  lacks : Made → LacksFolder s.shape.tree number openhosts
  lacks l =
      let step = look_step number (ListFolder openhosts) in
      let t = acts_told step m.state.store after.store s.shape.tree l.told s.shape.told l.made in
      (look_answered step s.shape.tree (ListTells s.shape.tree number openhosts) (list_tells s.shape.tree number openhosts) NoFolder t.0 (subst (λ o. Tells step s.shape.tree o t.0) (folder_told l.told l.answered) t.2)).1

  pub nobody_there : Answers m.state n (Look number (ListFolder openhosts)) (Looked NoFolder) after → HasNobody m s number
  nobody_there a =
      let l = looked_at a in
      let no : LacksFolder s.shape.tree number openhosts = lacks l.1 in
      record {
        room = no.room;
        there = no.has_room;
        none = λ host writer small fits. elim (cases_Option (file_at no.room (open_path host writer))) as (λ _. file_at no.room (open_path host writer) ≡ None) [
          | inl none ↦ none
          | inr some ↦ absurd (let c = container_at (last_id m.state) m.state.marks m.state.mount number s.shape.tree no.room (shape_of m.state s.shape) l.0 no.has_room in
              let housed : has_folder no.room openhosts ≡ true = (item_held (IsDrawnBy (last_id m.state) s.shape.tree) no.room (item.OpenHost host writer) some.0 c (record { in_range = tt; widths = (small, fits) }) some.1).housed in
              let clash : true ≡ false = sym housed ∙ no.none in cc)
        ];
      }

  pub nobody_listed : Answers m.state n (Look number (ListFolder openhosts)) (Looked (Names [])) after → HasNobody m s number
  nobody_listed a =
      let l = folder_listed m s n number openhosts [] after a in
      record {
        room = l.room;
        there = l.has_room;
        none = λ host writer small fits. none_there (file_at l.room (open_path host writer)) (is_top openhosts && is_listed (open_path host writer).file l.room.folders) (l.entries.exactly (open_path host writer).file);
      }

-- ---- what they left

-- what the room has stood in it then
pub had_item : (m : Moment) (s : IsSoundAt m) (number : ℕ) (room : Room) (it : Item) (content : List ℕ) → slice_get s.shape.tree.rooms number ≡ Some room → HasItem room it content → HadItem m number it
had_item m s number room it content there h = record {
  is_item = h.is_item;
  bytes = content;
  there = ap (λ o. file_told o number (path_of it)) s.shape.told ∙ ap (λ o. file_in_room o (path_of it)) there ∙ h.there;
}

abbrev pub left_by : ℕ → Metadata → Dropping
left_by room x = record { room = room; host = x.host; writer = x.writer }

abbrev pub writer_left : Metadata → ℕ
writer_left x = x.writer

-- These are what all left whose metadata droppings stood in the room, one a writer. Each tells of the writer's entries that had landed.
pub record AreLeft (m : Moment) (room : ℕ) (metas : List Metadata) : Type 0 where
  pub differ : Differ writer_left metas
  pub stood : (x : Metadata) → Among x metas → HadItem m room (item.Meta x.last x.bytes x.stamp x.host x.writer)
  pub told : (x : Metadata) → Among x metas → IsToldOf x.last x.bytes x.stamp (landed_by m (left_by room x))
  pub all : (last bytes stamp host writer : ℕ) → HadItem m room (item.Meta last bytes stamp host writer) → (x : Metadata) × Among x metas × (x.writer ≡ writer)

module _ (m : Moment) (s : IsSoundAt m) (number : ℕ) (names : List Name) (metas : List Metadata) (l : ListsFolder s.shape.tree number metadata names) (are : AreOf meta_in names metas) where
  below_top : is_top metadata ≡ false
  below_top = refl

  -- the dropping of a name that tells it
  standing : (name : Name) (x : Metadata) → Among name names → meta_in name ≡ Some x → (content : List ℕ) × HasItem l.room (item.Meta x.last x.bytes x.stamp x.host x.writer) content
  standing name x a is =
      let here = meta_in-found name x is in
      let f = named_file l.room metadata name names below_top l.entries a in
      (f.0, record { is_item = here.is_item; there = subst (λ (p : Path). file_at l.room p ≡ Some f.0) here.printed f.1 })

  its_writer : (x : Metadata) (content : List ℕ) → HasItem l.room (item.Meta x.last x.bytes x.stamp x.host x.writer) content → IsWriter l.room x.writer (m.issued number x.writer)
  its_writer x content h = (s.sound.rooms number l.room l.has_room).writers x.writer h.is_item.widths.1

  one_host : (x : Metadata) (content : List ℕ) (h : HasItem l.room (item.Meta x.last x.bytes x.stamp x.host x.writer) content) (w : IsWriter l.room x.writer (m.issued number x.writer)) → x.host ≡ w.host
  one_host x content h w = w.one_host x.host (inr (inr (record { last = x.last; bytes = x.bytes; stamp = x.stamp; content = content; has = h })))

  told_of : (x : Metadata) (content : List ℕ) (h : HasItem l.room (item.Meta x.last x.bytes x.stamp x.host x.writer) content) (w : IsWriter l.room x.writer (m.issued number x.writer)) → IsToldOf x.last x.bytes x.stamp (take w.landed (entries_in (m.issued number x.writer)))
  told_of x content h w = w.told x.last x.bytes x.stamp content (subst (λ k. HasItem l.room (item.Meta x.last x.bytes x.stamp k x.writer) content) (one_host x content h w) h)

  landed_of : (x : Metadata) (content : List ℕ) (h : HasItem l.room (item.Meta x.last x.bytes x.stamp x.host x.writer) content) (w : IsWriter l.room x.writer (m.issued number x.writer)) → landed_by m (left_by number x) ≡ take w.landed (entries_in (m.issued number x.writer))
  landed_of x content h w =
      landed_at m s (left_by number x) l.room l.has_room ∙ ap (λ k. landed_entries l.room k x.writer) (one_host x content h w)
      ∙ writer_told l.room x.writer (m.issued number x.writer) w h.is_item.widths.1 (s.sound.writes number x.writer)

  one_name : (name other : Name) (x y : Metadata) → Among name names → Among other names → meta_in name ≡ Some x → meta_in other ≡ Some y → x.writer ≡ y.writer → name ≡ other
  one_name name other x y a b is also same =
      let f = standing name x a is in
      let g = standing other y b also in
      let w : IsWriter l.room x.writer (m.issued number x.writer) = its_writer x f.0 f.1 in
      let here : HasItem l.room (item.Meta y.last y.bytes y.stamp y.host x.writer) g.0 = subst (λ k. HasItem l.room (item.Meta y.last y.bytes y.stamp y.host k) g.0) (sym same) g.1 in
      let moved : Metadata = record { last = y.last; bytes = y.bytes; stamp = y.stamp; host = y.host; writer = x.writer } in
      let one = told_of x f.0 f.1 w in
      let two = told_of moved g.0 here w in
      let hosts : x.host ≡ y.host = one_host x f.0 f.1 w ∙ sym (one_host moved g.0 here w) in
      let lasts : x.last ≡ y.last = one.end ∙ sym two.end in
      let sums : x.bytes ≡ y.bytes = one.sum ∙ sym two.sum in
      let stamps : x.stamp ≡ y.stamp = one.latest ∙ sym two.latest in
      ap (λ (p : Path). p.file) (meta_in-found name x is).printed
      ∙ (λ i. (path_of (item.Meta (lasts i) (sums i) (stamps i) (hosts i) (same i))).file)
      ∙ sym (ap (λ (p : Path). p.file) (meta_in-found other y also).printed)

  some_room : (a b : Room) (o : Option Room) → o ≡ Some a → o ≡ Some b → a ≡ b
  some_room a b o p q = cc

  listed_one : (last bytes stamp host writer : ℕ) → HadItem m number (item.Meta last bytes stamp host writer) → (x : Metadata) × Among x metas × (x.writer ≡ writer)
  listed_one last bytes stamp host writer had =
      let path : Path = path_of (item.Meta last bytes stamp host writer) in
      let x : Metadata = record { last = last; bytes = bytes; stamp = stamp; host = host; writer = writer } in
      let r = in_a_room (slice_get s.shape.tree.rooms number) path had.bytes (in_tree m s number path had.bytes had.there) in
      let same : r.0 ≡ l.room = some_room r.0 l.room (slice_get s.shape.tree.rooms number) r.1 l.has_room in
      let a : Among path.file names = file_named l.room metadata path.file names had.bytes l.entries (ap (λ (q : Room). file_at q path) (sym same) ∙ r.2) in
      let its : IsIn metadata path.file (item.Meta last bytes stamp host writer) = record { is_item = had.is_item; printed = refl } in
      (x, told_by_name meta_in names metas are path.file a x (meta_in-is path.file last bytes stamp host writer its), refl)

  pub are_left : AreLeft m number metas
  are_left = record {
    differ = differ_so meta_in writer_left names names metas (λ n a. a) (ordered_differ names l.entries.ordered) are one_name;
    stood = λ x a. (let n = name_of meta_in names metas are x a in let f = standing n.0 x n.1 n.2 in had_item m s number l.room (item.Meta x.last x.bytes x.stamp x.host x.writer) f.0 l.has_room f.1);
    told = λ x a.
        let n = name_of meta_in names metas are x a in
        let f = standing n.0 x n.1 n.2 in
        let w = its_writer x f.0 f.1 in
        subst (IsToldOf x.last x.bytes x.stamp) (sym (landed_of x f.0 f.1 w)) (told_of x f.0 f.1 w);
    all = listed_one;
  }
