-- A mount over a store without rooms has what a machine has that begins.
use Rattle.std.proofs.Common.{◌≡◌, ℕ, zero, suc, List, [], ◌∷◌, get_or, length, Option, Some, None, Ok, refl, sym, ap, ◌∙◌, inl, inr, subst, arith}
use Rattle.std.specs.Prelude.{slice_get, slice_set}
use Rattle.std.proofs.lemmas.List.Elements.{All-from_recursion}
use Rattle.plfs_types.specs.declared.entries.Trunc.{Trunc}
use Rattle.plfs_types.specs.declared.names.Path.{Path}
use Rattle.container_layout.specs.declared.items.Item.TheVariants as item
use Rattle.container_layout.specs.Paths.{path_of}
use Rattle.container_layout.proofs.Facts.{elsewhere}
use Rattle.store_api.specs.Acts.{Stored}
use Rattle.store_api.specs.declared.step.Answer.TheVariants.{Made, Names}
use Rattle.store_api.specs.declared.tree.Room.{Room}
use Rattle.store_api.specs.declared.tree.Tree.{Tree}
use Rattle.store_laws.specs.Changes.{Created}
use Rattle.store_laws.specs.Files.{file_at}
use Rattle.store_laws.proofs.Facts.{acts_told, create_told, look_told, make_room_told}
use Rattle.mount_model.specs.Mounting.{IsMounted, list_step, mark_step, marks_step}
use Rattle.mount_model.specs.Paths.{Name, mark_path}
use Rattle.store_api.specs.Names.{marks_folder}
use Rattle.store_api.specs.Names.{marks_name}
use Rattle.mount_sound.specs.Marks.{IsMarksRoom}
use Rattle.mount_sound.specs.Dropping.{bytes_of}
use Rattle.mount_sound.specs.There.{entries_there}
use Rattle.reader_laws.specs.Moments.{Dropping, HadItem, HadTrunc, IsSoundAt, Moment, file_then, file_told, landed, log_then}
use Rattle.plain_machine.specs.Machine.{PlainActor}
use Rattle.plain_machine.specs.Becoming.{empty_room}
use Rattle.plain_plays.specs.Beginning.{bare_tree, first_machine}
use Rattle.plain_plays.specs.Mirrors.{HasTrace, Mirrors, MirrorsAt, MirrorsRoom, room_told}

-- ---- one room

-- the tree has one room, which is that of the marks
record HasOneRoom (tree : Option Tree) (marks : ℕ) : Type 0 where
  room : Room
  is : tree ≡ Some (record { rooms = room ∷ [] })
  zero_is : marks ≡ 0

first_is : (r x : Room) (n : ℕ) → slice_get (r ∷ []) n ≡ Some x → n ≡ 0
first_is r x zero e = refl
first_is r x (suc n) e = absurd (cc)

one_room : (serial : ℕ) (times : Option (List ℕ)) (opened : Stored) (m : Moment) → opened.tree ≡ Some bare_tree → IsMounted serial times opened m.state → HasOneRoom m.state.store.tree m.state.marks
one_room serial times opened m bare mounted =
    let d = mounted.draws in
    let t = acts_told marks_step opened d.roomed bare_tree d.tells.told bare d.tells.made in
    let l = acts_told (list_step m.state.marks) d.roomed d.listed t.0 (Ok (Names d.names)) t.1 d.lists in
    let same : l.0 ≡ t.0 = look_told (list_step m.state.marks) t.0 (Ok (Names d.names)) l.0 tt l.2 in
    let put = acts_told (mark_step m.state.marks m.state.mount) d.listed m.state.store t.0 (Ok Made) (l.1 ∙ ap Some same) d.marked in
    let c : Created t.0 m.state.marks (mark_path m.state.mount) put.0 = (create_told m.state.marks (mark_path m.state.mount) t.0 (Ok Made) put.0 put.2).done refl in
    elim (make_room_told marks_name (marks_folder ∷ []) [] bare_tree d.tells.told t.0 t.2).either as (λ _. HasOneRoom m.state.store.tree m.state.marks) [
      | inl made ↦
          let has : slice_get (made.new ∷ []) m.state.marks ≡ Some c.room = sym (ap (λ (x : Tree). slice_get x.rooms m.state.marks) made.gives) ∙ c.has_room in
          let zero_so : m.state.marks ≡ 0 = first_is made.new c.room m.state.marks has in
          let gives : put.0 ≡ record { rooms = c.new ∷ [] } = c.gives ∙ (λ i. record { rooms = slice_set (made.gives i).rooms (zero_so i) c.new }) in
          record { room = c.new; is = put.1 ∙ ap Some gives; zero_is = zero_so }
      | inr none ↦ absurd (no_room m.state.marks c.room (sym (ap (λ (x : Tree). slice_get x.rooms m.state.marks) none) ∙ c.has_room))
    ]
  where
    no_room : (n : ℕ) (x : Room) → slice_get [] n ≡ Some x → ⊥
    no_room n x e = cc

-- ---- the machine

first_byte : (a b : Name) → a ≡ b → get_or a 0 0 ≡ get_or b 0 0
first_byte a b e = ap (λ (n : Name). get_or n 0 0) e

module _ (m : Moment) (s : IsSoundAt m) (one : HasOneRoom m.state.store.tree m.state.marks) where
  marks_room : IsMarksRoom one.room
  marks_room =
      let both : Some s.shape.tree ≡ Some (record { rooms = one.room ∷ [] }) = sym s.shape.told ∙ one.is in
      let tree : s.shape.tree ≡ record { rooms = one.room ∷ [] } = cc in
      let has : Some one.room ≡ Some s.shape.marks = sym (λ i. slice_get (tree i).rooms (one.zero_is i)) ∙ s.shape.has_marks in
      let is : s.shape.marks ≡ one.room = (let e : one.room ≡ s.shape.marks = cc in sym e) in
      subst IsMarksRoom is s.shape.is_marks

  file_there : (path : Path) (bytes : List ℕ) → file_then m 0 path ≡ Some bytes → path.folder ≡ marks_folder
  file_there path bytes e =
      let at : file_at one.room path ≡ Some bytes = sym (ap (λ t. file_told t 0 path) one.is) ∙ e in
      let f = marks_room.files path bytes at in
      ap (λ (p : Path). p.folder) f.3

  no_trunc : (t : Trunc) → HadTrunc m 0 t.stamp t.size → ⊥
  no_trunc t had = elsewhere (first_byte _ _ (file_there (path_of (item.Trunc t.stamp t.size)) had.bytes had.there)) refl

  no_open : (d : Dropping) → HadItem m 0 (item.OpenHost d.host d.writer) → ⊥
  no_open d had = elsewhere (first_byte _ _ (file_there (path_of (item.OpenHost d.host d.writer)) had.bytes had.there)) refl

  none_landed : (d : Dropping) (file : Option (List ℕ)) → file_then m 0 (path_of (item.Index d.host d.writer)) ≡ file → length (entries_there (bytes_of file) (bytes_of (log_then m d))) ≡ 0
  none_landed d None e = refl
  none_landed d (Some bytes) e = elsewhere (first_byte _ _ (file_there (path_of (item.Index d.host d.writer)) bytes e)) refl

  no_trace : (d : Dropping) → d.room ≡ 0 → HasTrace m d → ⊥
  no_trace d here (inr had) = no_open d (subst (λ k. HadItem m k (item.OpenHost d.host d.writer)) here had)
  no_trace d here (inl some) =
      let none : landed m d ≡ 0 = ap (λ k. length (entries_there (bytes_of (file_then m k (path_of (item.Index d.host d.writer)))) (bytes_of (log_then m d)))) here ∙ none_landed d (file_then m 0 (path_of (item.Index d.host d.writer))) refl in
      omega (arith, some, none)

  first_room : MirrorsRoom m 0 one.room (empty_room marks_name)
  first_room = record {
    name = marks_room.named;
    held = λ apart. absurd (apart (sym one.zero_is));
    truncs = record { rise = tt; there = All-from_recursion (λ (t : Trunc). HadTrunc m 0 t.stamp t.size) [] tt; all = λ t had. absurd (no_trunc t had) };
    writers = tt;
    rise = tt;
    all = λ d named here trace. absurd (no_trace d here trace);
  }

  rooms_so : (n : ℕ) → MirrorsAt m n (slice_get (one.room ∷ []) n) (slice_get (empty_room marks_name ∷ []) n)
  rooms_so zero = first_room
  rooms_so (suc n) = tt

pub begins_so : (times : Option (List ℕ)) (opened : Stored) (m : Moment) (actors : List PlainActor) → opened.tree ≡ Some bare_tree → IsMounted 0 times opened m.state → IsSoundAt m → Mirrors m (first_machine actors times m.state.mount)
begins_so times opened m actors bare mounted s =
    let one = one_room 0 times opened m bare mounted in
    record {
      sound = s;
      rooms = λ n. subst (λ t. MirrorsAt m n (room_told t n) (slice_get (empty_room marks_name ∷ []) n)) (sym one.is) (rooms_so m s one n);
      times = mounted.times_are;
      mark = refl;
      serial = mounted.serial_is;
      none_hold = mounted.no_holders;
    }
