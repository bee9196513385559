-- The greatest stamp of a container is that of the plain machine's room.
use Rattle.std.proofs.Common.{◌≡◌, ◌≤◌, ◌<◌, ◌^◌, ℕ, suc, List, [], ◌∷◌, length, Option, Some, None, refl, sym, ap, ◌∙◌, inl, inr, subst, arith}
use Rattle.std.specs.Prelude.{slice_get, take}
use Rattle.std.specs.List.{AllByRecursion}
use Rattle.plfs_types.specs.declared.entries.Entry.{Entry}
use Rattle.plfs_types.specs.declared.entries.Trunc.{Trunc}
use Rattle.plfs_types.specs.declared.names.Path.{Path}
use Rattle.plain_file.proofs.Facts.{All-Among, Among}
use Rattle.container_layout.specs.declared.items.Item.TheVariants as item
use Rattle.container_layout.specs.Paths.{path_of}
use Rattle.store_api.specs.declared.tree.Room.{Room}
use Rattle.store_laws.specs.Files.{file_at}
use Rattle.mount_model.specs.Paths.{index_path}
use Rattle.mount_sound.specs.Dropping.{IsWriter, bytes_of, log_bytes}
use Rattle.mount_sound.specs.Entries.{last_stamp}
use Rattle.mount_sound.specs.Items.{HasItem}
use Rattle.mount_sound.specs.Ledger.{entries_in}
use Rattle.mount_sound.specs.Owed.{IsTop}
use Rattle.mount_sound.specs.There.{entries_there, landed_entries}
use Rattle.mount_sound.proofs.Facts.{entries_take, writer_told}
use Rattle.reader_laws.specs.Moments.{Dropping, HadItem, HadTrunc, IsNamed, IsSoundAt, Moment, file_in_room, file_then, issued_by, landed, landed_by}
use Rattle.reader_laws.proofs.Gathered.Facts.{all_at, among, any_found, landed_at, landed_is_first}
use Rattle.plain_machine.specs.Machine.{PlainRoom, PlainWriter}
use Rattle.plain_machine.specs.Landed.{landed_of, last_landed, last_of, top_of}
use Rattle.plain_plays.specs.Mirrors.{MirrorsRoom, MirrorsWriter, room_then, room_told}
use Rattle.plain_plays.specs.Plainly.{dropping_of}
use Rattle.plain_plays.specs.Tops.{IsGreatestIn}
use Rattle.plain_plays.proofs.PlainSteps.Steps.Floors.{below_last, last_below}
use Rattle.plain_plays.proofs.PlainSteps.ByName.Turning.{by_room}

last_stamp_within : (top start : ℕ) (es : List Entry) → start ≤ top → AllByRecursion (λ (e : Entry). e.stamp ≤ top) es → last_stamp start es ≤ top
last_stamp_within top start [] within all = within
last_stamp_within top start (e ∷ es) within all = last_stamp_within top e.stamp es all.0 all.1

below_landed : (ws : List PlainWriter) (w : PlainWriter) → Among w ws → last_of (landed_of w) ≤ last_landed ws
below_landed [] w a = absurd a
below_landed (x ∷ ws) w (inl same) = let e : last_of (landed_of w) ≡ last_of (landed_of x) = ap (λ (y : PlainWriter). last_of (landed_of y)) same in omega (arith, e)
below_landed (x ∷ ws) w (inr a) = let l = below_landed ws w a in omega (arith, l)

landed_below : (ws : List PlainWriter) (top : ℕ) → ((w : PlainWriter) → Among w ws → last_of (landed_of w) ≤ top) → last_landed ws ≤ top
landed_below [] top each = omega arith
landed_below (x ∷ ws) top each = let a = each x (inl refl) in let b = landed_below ws top (λ w m. each w (inr m)) in omega (arith, a, b)

-- A room at a moment of the mount, with what the machine has of it.
module _ (y : Moment) (s : IsSoundAt y) (n : ℕ) (r : Room) (at : room_then y n ≡ Some r) (room : PlainRoom) (o : MirrorsRoom y n r room) (top : ℕ) (g : IsGreatestIn n top y) where
  in_tree : slice_get s.shape.tree.rooms n ≡ Some r
  in_tree = sym (ap (λ t. room_told t n) s.shape.told) ∙ at

  file_here : (path : Path) → file_then y n path ≡ file_at r path
  file_here path = by_room y.state.store.tree n path ∙ ap (λ x. file_in_room x path) at

  is_top : IsTop r top
  is_top = g.above s.shape.tree r s.shape.told in_tree

  trunc_below : (t : Trunc) → Among t room.truncs → t.stamp ≤ top
  trunc_below t a =
      let had : HadTrunc y n t.stamp t.size = all_at (λ (x : Trunc). HadTrunc y n x.stamp x.size) room.truncs t o.truncs.there a in
      is_top.truncates t.stamp t.size had.bytes (record { is_item = had.is_item; there = sym (file_here (path_of (item.Trunc t.stamp t.size))) ∙ had.there })

  -- what has landed of a writer, by the tree and by the machine
  landed_same : (w : PlainWriter) → MirrorsWriter y n w → landed_entries r w.host w.id ≡ entries_in (landed_of w)
  landed_same w x =
      let d : Dropping = dropping_of n w in
      sym (landed_at y s d r in_tree) ∙ landed_is_first y s d x.named ∙ ap (λ k. take k (entries_in (issued_by y d))) x.landed_is ∙ ap (λ l. take w.landed (entries_in l)) x.issued ∙ sym (entries_take w.landed w.issued)

  writer_below : (w : PlainWriter) → Among w room.writers → last_of (landed_of w) ≤ top
  writer_below w a = by_index (file_at r (index_path w.host w.id)) refl
    where
      x : MirrorsWriter y n w
      x = All-Among (MirrorsWriter y n) room.writers w o.writers a

      within : AllByRecursion (λ (e : Entry). e.stamp ≤ top) (landed_entries r w.host w.id) → last_of (landed_of w) ≤ top
      within all = subst (λ es. last_stamp 0 es ≤ top) (landed_same w x) (last_stamp_within top 0 (landed_entries r w.host w.id) (omega arith) all)

      by_index : (f : Option (List ℕ)) → file_at r (index_path w.host w.id) ≡ f → last_of (landed_of w) ≤ top
      by_index (Some bytes) e = within (is_top.entries w.host w.id bytes (record { is_item = x.named; there = e }))
      by_index None e = within (subst (λ b. AllByRecursion (λ (e : Entry). e.stamp ≤ top) (entries_there (bytes_of b) (log_bytes r w.host w.id))) (sym e) tt)

  no_more : top_of room ≤ top
  no_more = let a = last_below room.truncs top trunc_below in let b = landed_below room.writers top writer_below in omega (arith, a, b)

  -- the last of the entries that have landed
  by_count : (d : Dropping) → d.room ≡ n → IsNamed d → (es : List Entry) → landed_by y d ≡ es → last_stamp 0 (landed_by y d) ≤ last_landed room.writers
  by_count d here named [] e = let none : last_stamp 0 (landed_by y d) ≡ 0 = ap (last_stamp 0) e in omega (arith, none)
  by_count d here named (first ∷ es) e =
      let many : landed y d ≡ suc (length es) = ap length e in
      let w = any_found (λ (x : PlainWriter). dropping_of n x ≡ d) room.writers (o.all d named here (inl (omega (arith, many)))) in
      let x : MirrorsWriter y n w.0 = All-Among (MirrorsWriter y n) room.writers w.0 o.writers w.1 in
      let same : landed_by y d ≡ entries_in (landed_of w.0) = ap (landed_by y) (sym w.2) ∙ landed_at y s (dropping_of n w.0) r in_tree ∙ landed_same w.0 x in
      let l = below_landed room.writers w.0 w.1 in
      let last : last_stamp 0 (landed_by y d) ≡ last_of (landed_of w.0) = ap (last_stamp 0) same in
      omega (arith, l, last)

  -- a metadata dropping tells of the last of its writer's writes that have landed
  by_meta : (last bytes host writer : ℕ) → HadItem y n (item.Meta last bytes top host writer) → top ≤ last_landed room.writers
  by_meta last bytes host writer had =
      let fits : writer < 2 ^ 64 = had.is_item.widths.1 in
      let has : HasItem r (item.Meta last bytes top host writer) had.bytes = record { is_item = had.is_item; there = sym (file_here (path_of (item.Meta last bytes top host writer))) ∙ had.there } in
      let w : IsWriter r writer (y.issued n writer) = (s.sound.rooms n r in_tree).writers writer fits in
      let same_host : host ≡ w.host = w.one_host host (inr (inr (record { last = last; bytes = bytes; stamp = top; content = had.bytes; has = has }))) in
      let told = w.told last bytes top had.bytes (subst (λ h. HasItem r (item.Meta last bytes top h writer) had.bytes) same_host has) in
      let d : Dropping = record { room = n; host = host; writer = writer } in
      let named : IsNamed d = record { in_range = tt; widths = had.is_item.widths } in
      let entries : landed_by y d ≡ take w.landed (entries_in (y.issued n writer)) =
      landed_at y s d r in_tree ∙ ap (λ h. landed_entries r h writer) same_host ∙ writer_told r writer (y.issued n writer) w fits (s.sound.writes n writer) in
      let is : top ≡ last_stamp 0 (landed_by y d) = told.latest ∙ ap (last_stamp 0) (sym entries) in
      let l = by_count d refl named (landed_by y d) refl in
      omega (arith, is, l)

  reached : top ≤ top_of room
  reached = elim g.reached as (λ _. top ≤ top_of room) [
    | inl none ↦ omega (arith, none)
    | inr (inl (size, had)) ↦ let t : Trunc = record { stamp = top; size = size } in let l = below_last room.truncs t (among room.truncs t (o.truncs.all t had)) in omega (arith, l)
    | inr (inr (last, bytes, host, writer, had)) ↦ let l = by_meta last bytes host writer had in omega (arith, l)
  ]

  -- no stamp of the room is greater, and it is one of them
  pub greatest_is_top : top ≡ top_of room
  greatest_is_top = let a = no_more in let b = reached in omega (arith, a, b)
