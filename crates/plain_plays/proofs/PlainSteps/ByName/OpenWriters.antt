-- Who has a room open: the entries of the tree's folder are the open writers of a plain machine.
use Rattle.std.proofs.Common.{◌≡◌, ℕ, Bool, true, false, ◌||◌, List, [], ◌∷◌, map, filter, get_or, Option, Some, None, refl, sym, ap, ◌∙◌, inl, inr, subst, if◌then◌else◌}
use Rattle.std.specs.Prelude.{is_some, slice_get}
use Rattle.std.specs.List.{AllByRecursion, Any}
use Rattle.plain_file.proofs.Facts.{All-Among, Among}
use Rattle.container_layout.specs.declared.items.Item.{Item}
use Rattle.container_layout.specs.declared.items.Item.TheVariants as item
use Rattle.container_layout.specs.Items.{IsItem}
use Rattle.container_layout.specs.Paths.{path_of}
use Rattle.container_layout.proofs.Facts.{elsewhere, same_items}
use Rattle.plfs_types.specs.declared.names.Path.{Path}
use Rattle.store_api.specs.declared.tree.Room.{Room}
use Rattle.store_api.specs.Names.{in_byte_order}
use Rattle.store_laws.specs.Differ.{is_listed}
use Rattle.store_laws.specs.Files.{file_at}
use Rattle.store_laws.specs.There.{AreNamesOf, ListsFolder, has_entry}
use Rattle.store_laws.proofs.Facts.{in_order, listed_in_order, ordered_one}
use Rattle.mount_model.specs.Paths.{Name, access_path, open_path}
use Rattle.store_api.specs.Names.{marks_folder}
use Rattle.container_layout.specs.Paths.{openhosts}
use Rattle.reader_laws.specs.Moments.{Dropping, HadItem, IsNamed, IsSoundAt, Moment, file_in_room, file_then}
use Rattle.reader_laws.proofs.Gathered.Containers.Entries.{among_listed, listed_among}
use Rattle.reader_laws.proofs.Gathered.Facts.{any_found, found_any}
use Rattle.plain_machine.specs.Machine.{PlainRoom, PlainWriter}
use Rattle.plain_machine.specs.ByName.{IsLeastOpen, open_name}
use Rattle.plain_machine.specs.Finding.{open_writers}
use Rattle.plain_plays.specs.Mirrors.{MirrorsRoom, MirrorsWriter, room_then, room_told}
use Rattle.plain_plays.specs.Plainly.{dropping_of}
use Rattle.plain_plays.proofs.PlainSteps.Entering.{IsContainerAt}
use Rattle.plain_plays.proofs.PlainSteps.ByName.Turning.{by_room}

-- ---- lists

pub among_filter : (ws : List PlainWriter) (w : PlainWriter) → Among w ws → w.is_open ≡ true → Among w (filter (λ (x : PlainWriter). x.is_open) ws)
among_filter [] w a e = absurd a
among_filter (x ∷ ws) w (inl same) e =
    let t : x.is_open ≡ true = ap (λ (y : PlainWriter). y.is_open) (sym same) ∙ e in
    subst (λ b. Among w (if b then x ∷ filter (λ (y : PlainWriter). y.is_open) ws else filter (λ (y : PlainWriter). y.is_open) ws)) (sym t) (inl same)
among_filter (x ∷ ws) w (inr a) e = elim x.is_open as (λ b. Among w (if b then x ∷ filter (λ (y : PlainWriter). y.is_open) ws else filter (λ (y : PlainWriter). y.is_open) ws)) [ true ↦ inr (among_filter ws w a e) | false ↦ among_filter ws w a e ]

pub of_filter : (ws : List PlainWriter) (w : PlainWriter) → Among w (filter (λ (x : PlainWriter). x.is_open) ws) → Among w ws × (w.is_open ≡ true)
of_filter [] w a = absurd a
of_filter (x ∷ ws) w a = elim x.is_open as (λ b. x.is_open ≡ b → Among w (if b then x ∷ filter (λ (y : PlainWriter). y.is_open) ws else filter (λ (y : PlainWriter). y.is_open) ws) → Among w (x ∷ ws) × (w.is_open ≡ true)) [
  | true ↦ λ t m. elim m as (λ _. Among w (x ∷ ws) × (w.is_open ≡ true)) [
    | inl same ↦ (inl same, ap (λ (y : PlainWriter). y.is_open) same ∙ t)
    | inr more ↦ let r = of_filter ws w more in (inr r.0, r.1)
  ]
  | false ↦ λ t m. let r = of_filter ws w m in (inr r.0, r.1)
] refl a

none_open : (ws : List PlainWriter) → AllByRecursion (λ (w : PlainWriter). w.is_open ≡ false) ws → filter (λ (w : PlainWriter). w.is_open) ws ≡ []
none_open [] a = refl
none_open (w ∷ ws) a = rw a.0 (none_open ws a.1)

name_among : (ws : List PlainWriter) (name : Name) → Among name (map open_name ws) → (w : PlainWriter) × Among w ws × (name ≡ open_name w)
name_among [] name a = absurd a
name_among (w ∷ ws) name (inl same) = (w, inl refl, same)
name_among (w ∷ ws) name (inr a) = let r = name_among ws name a in (r.0, inr r.1, r.2)

pub among_names : (ws : List PlainWriter) (w : PlainWriter) → Among w ws → Among (open_name w) (map open_name ws)
among_names [] w a = absurd a
among_names (x ∷ ws) w (inl same) = inl (ap open_name same)
among_names (x ∷ ws) w (inr a) = inr (among_names ws w a)

any_among : (ws : List PlainWriter) (w : PlainWriter) → Among w ws → Any (λ (x : PlainWriter). x ≡ w) ws
any_among ws w a = found_any (λ (x : PlainWriter). x ≡ w) ws w a refl

-- ---- an item in the folder of open writers

first_byte : (a b : Name) → a ≡ b → get_or a 0 0 ≡ get_or b 0 0
first_byte a b e = ap (λ (n : Name). get_or n 0 0) e

open_item : (i : Item) → openhosts ≡ (path_of i).folder → (host : ℕ) × (writer : ℕ) × (i ≡ item.OpenHost host writer)
open_item (item.OpenHost host writer) e = (host, writer, refl)
open_item item.Access e = elsewhere (first_byte _ _ e) refl
open_item (item.Meta last bytes stamp host writer) e = elsewhere (first_byte _ _ e) refl
open_item (item.Trunc stamp size) e = elsewhere (first_byte _ _ e) refl
open_item (item.Flat id) e = elsewhere (first_byte _ _ e) refl
open_item (item.TmpFlat id) e = elsewhere (first_byte _ _ e) refl
open_item (item.Index host writer) e = elsewhere (first_byte _ _ e) refl
open_item (item.Log host writer) e = elsewhere (first_byte _ _ e) refl
open_item (item.Packed host writer) e = elsewhere (first_byte _ _ e) refl
open_item (item.TmpPacked host id) e = elsewhere (first_byte _ _ e) refl

abbrev entry_path : Name → Path
entry_path name = record { folder = openhosts; file = name }

no_mark : [] ≡ marks_folder → ⊥
no_mark clash = elsewhere (first_byte _ _ clash) refl

-- an entry of an open writer
pub record IsEntryOf (room : PlainRoom) (name : Name) : Type 0 where
  pub w : PlainWriter
  pub among : Among w (open_writers room)
  pub name_is : name ≡ open_name w
  pub is_item : IsItem (item.OpenHost w.host w.id)

module _ (m : Moment) (s : IsSoundAt m) (n : ℕ) (had : IsContainerAt n m) (r : Room) (at : room_then m n ≡ Some r) (room : PlainRoom) (o : MirrorsRoom m n r room) where
  in_tree : slice_get s.shape.tree.rooms n ≡ Some r
  in_tree = sym (ap (λ t. room_told t n) s.shape.told) ∙ at

  file_here : (path : Path) → file_then m n path ≡ file_at r path
  file_here path = by_room m.state.store.tree n path ∙ ap (λ x. file_in_room x path) at

  its_named : (w : PlainWriter) → Among w room.writers → MirrorsWriter m n w
  its_named w a = All-Among (MirrorsWriter m n) room.writers w o.writers a

  opens_so : (w : PlainWriter) → Among w room.writers → is_some (file_at r (open_path w.host w.id)) ≡ w.is_open
  opens_so w a = ap is_some (sym (file_here (open_path w.host w.id))) ∙ (its_named w a).opens

  -- nobody has the room open whose folder of open writers has no file
  pub nobody_open : ((file : Name) → file_at r (record { folder = openhosts; file = file }) ≡ None) → open_writers room ≡ []
  nobody_open bare = none_open room.writers (each room.writers (λ w a. a))
    where
      each : (ws : List PlainWriter) → ((w : PlainWriter) → Among w ws → Among w room.writers) → AllByRecursion (λ (w : PlainWriter). w.is_open ≡ false) ws
      each [] among = tt
      each (w ∷ ws) among = (sym (opens_so w (among w (inl refl))) ∙ ap is_some (bare (open_path w.host w.id).file), each ws (λ x a. among x (inr a)))

  pub its_writer : (name : Name) (bytes : List ℕ) → file_at r (record { folder = openhosts; file = name }) ≡ Some bytes → IsEntryOf room name
  its_writer name bytes there = elim (s.shape.shaped.rooms n r in_tree) as (λ _. IsEntryOf room name) [
    | inl marks ↦ absurd (let mark = marks.files access_path had.bytes (sym (file_here access_path) ∙ had.there) in no_mark (ap (λ (p : Path). p.folder) mark.3))
    | inr c ↦
        let f = c.files (record { folder = openhosts; file = name }) bytes there in
        let i = open_item f.item (ap (λ (p : Path). p.folder) f.is_at.printed) in
        let d : Dropping = record { room = n; host = i.0; writer = i.1 } in
        let is_open : IsItem (item.OpenHost i.0 i.1) = subst IsItem i.2 f.is_at.is_item in
        let named : IsNamed d = record { in_range = tt; widths = is_open.widths } in
        let path : entry_path name ≡ open_path i.0 i.1 = f.is_at.printed ∙ ap path_of i.2 in
        let entry : HadItem m n (item.OpenHost i.0 i.1) = record { is_item = is_open; bytes = bytes; there = file_here (open_path i.0 i.1) ∙ ap (file_at r) (sym path) ∙ there } in
        let w = any_found (λ (x : PlainWriter). dropping_of n x ≡ d) room.writers (o.all d named refl (inr entry)) in
        let same : open_path w.0.host w.0.id ≡ open_path i.0 i.1 = ap (λ (x : Dropping). open_path x.host x.writer) w.2 in
        let open_now : w.0.is_open ≡ true = sym (opens_so w.0 w.1) ∙ ap (λ p. is_some (file_at r p)) (same ∙ sym path) ∙ ap is_some there in
        record {
          w = w.0;
          among = among_filter room.writers w.0 w.1 open_now;
          name_is = ap (λ (p : Path). p.file) (path ∙ sym same);
          is_item = record { in_range = tt; widths = (its_named w.0 w.1).named.widths };
        }
  ]

  abbrev Names : List Name
  Names = map open_name (open_writers room)

  abbrev entry_at : Name → Option (List ℕ)
  entry_at name = file_at r (record { folder = openhosts; file = name })

  both : (name : Name) (b : Bool) (f : Option (List ℕ)) → is_listed name Names ≡ b → entry_at name ≡ f → is_listed name Names ≡ (is_some (entry_at name) || false)
  both name true (Some bytes) l e = l ∙ sym (ap (λ f. is_some f || false) e)
  both name false None l e = l ∙ sym (ap (λ f. is_some f || false) e)
  both name true None l e =
      let w = name_among (open_writers room) name (listed_among name Names l) in
      let is = of_filter room.writers w.0 w.1 in
      let clash : true ≡ false = sym is.1 ∙ sym (opens_so w.0 is.0) ∙ ap (λ k. is_some (entry_at k)) (sym w.2) ∙ ap is_some e in
      absurd (cc)
  both name false (Some bytes) l e =
      let w = its_writer name bytes e in
      let clash : true ≡ false = sym (among_listed name Names (subst (λ k. Among k Names) (sym w.name_is) (among_names (open_writers room) w.w w.among))) ∙ l in
      absurd (cc)

  -- whether a name is that of an open writer
  pub names_open : (name : Name) → is_listed name Names ≡ has_entry r openhosts name
  names_open name = both name (is_listed name Names) (entry_at name) refl refl

  some_entry : (name : Name) (later : List Name) → AreNamesOf r openhosts (name ∷ later) → (f : Option (List ℕ)) → entry_at name ≡ f → (bytes : List ℕ) × (entry_at name ≡ Some bytes)
  some_entry name later names (Some bytes) e = (bytes, e)
  some_entry name later names None e =
      let listed : is_listed name (name ∷ later) ≡ true = among_listed name (name ∷ later) (inl refl) in
      let clash : false ≡ true = sym (ap (λ f. is_some f || false) e) ∙ sym (names.exactly name) ∙ listed in
      absurd (cc)

  -- the least entry is that of the least open writer
  pub least_open : (host writer : ℕ) (later : List Name) → IsItem (item.OpenHost host writer) → ListsFolder s.shape.tree n openhosts ((open_path host writer).file ∷ later) → (w : PlainWriter) × IsLeastOpen room w × (w.host ≡ host) × (w.id ≡ writer)
  least_open host writer later is l =
      let one : l.room ≡ r = (let both_there : Some l.room ≡ Some r = sym l.has_room ∙ in_tree in cc) in
      let first : Name = (open_path host writer).file in
      let names : AreNamesOf r openhosts (first ∷ later) = subst (λ x. AreNamesOf x openhosts (first ∷ later)) one l.entries in
      let same : in_byte_order Names ≡ first ∷ later = ordered_one (in_byte_order Names) (first ∷ later) (in_order Names) names.ordered (λ name. listed_in_order name Names ∙ names_open name ∙ sym (names.exactly name)) in
      let there = some_entry first later names (entry_at first) refl in
      let w = its_writer first there.0 there.1 in
      let item_same : item.OpenHost host writer ≡ item.OpenHost w.w.host w.w.id = same_items (item.OpenHost host writer) (item.OpenHost w.w.host w.w.id) is w.is_item (λ i. record { folder = openhosts; file = w.name_is i }) in
      let host_same : host ≡ w.w.host = cc in
      let id_same : writer ≡ w.w.id = cc in
      (w.w, (any_among (open_writers room) w.w w.among, (later, same ∙ ap (λ name. name ∷ later) w.name_is)), sym host_same, sym id_same)
