-- The mounts of which the ids of a source's writers are, and the marks that a drain makes for them.
use Rattle.std.proofs.Common.{◌≡◌, ℕ, ◌≤◌, ◌<◌, ◌^◌, true, List, [], ◌∷◌, Option, Some, None, refl, ap, sym, ◌∙◌, ◌⊎◌, inl, inr, subst, arith}
use Rattle.std.specs.Prelude.{slice_get}
use Rattle.std.specs.List.{AllByRecursion}
use Rattle.std.proofs.lemmas.Bool.{cases_Bool, cond-true, cond-false}
use Rattle.std.proofs.lemmas.Bool.Decides.{nat_tests}
use Rattle.std.proofs.lemmas.Fmt.{decimal_injective}
use Rattle.plain_file.proofs.Facts.{Among}
use Rattle.container_layout.specs.declared.items.Item.TheVariants.{Index}
use Rattle.store_api.specs.declared.tree.Room.{Room}
use Rattle.store_laws.specs.Files.{file_at}
use Rattle.mount_model.specs.Paths.{index_path, mark_path}
use Rattle.mount_model.specs.State.{id_of}
use Rattle.mount_sound.specs.Marks.{IsMarkFile, IsOfMark}
use Rattle.mount_sound.proofs.Shapes.Facts.{item_drawn}
use Rattle.reader_laws.specs.Moments.{IsSoundAt, Moment, Stood}
use Rattle.reader_laws.proofs.Gathered.Facts.{in_a_room, in_tree}
use Rattle.drain_read.specs.declared.read.WriterRead.{WriterRead}
use Rattle.drain_copy.specs.Planning.{is_same, mount_of, mounts_behind, mounts_of}
use Rattle.drain_sound.specs.Fronts.{dropping_in}
use Rattle.drain_sound.proofs.Facts.{item_apart, no_marks}
use Rattle.drain_laws.proofs.Copying.Mild.{some_room}

-- ---- ids

-- the id is of a serial of a mount, both from 1 on
pub record IsIdOf (writer : ℕ) : Type 0 where
  pub mount : ℕ
  pub serial : ℕ
  pub some_mount : 1 ≤ mount
  pub mount_fits : mount < 2 ^ 32
  pub some : 1 ≤ serial
  pub fits : serial < 2 ^ 32
  pub is : writer ≡ id_of mount serial

module _ (m : Moment) (s : IsSoundAt m) (number host writer : ℕ) (stood : Stood m (dropping_in number host writer)) where
  its_room : (room : Room) × (slice_get s.shape.tree.rooms number ≡ Some room) × (file_at room (index_path host writer) ≡ Some stood.bytes)
  its_room = in_a_room (slice_get s.shape.tree.rooms number) (index_path host writer) stood.bytes (in_tree m s number (index_path host writer) stood.bytes stood.there)

  -- the file of an item is no mark
  no_mark_file : (path_ : IsMarkFile (index_path host writer) stood.bytes) → ⊥
  no_mark_file (n, some, fits, is, empty) = item_apart (Index host writer) n (ap (λ p. p.folder) is) (ap (λ p. p.file) is)

  no_marks_room : number ≡ m.state.marks → ⊥
  no_marks_room same =
      let one : its_room.0 ≡ s.shape.marks = some_room its_room.0 s.shape.marks (slice_get s.shape.tree.rooms m.state.marks) (subst (λ k. slice_get s.shape.tree.rooms k ≡ Some its_room.0) same its_room.1) s.shape.has_marks in
      no_mark_file (s.shape.is_marks.files (index_path host writer) stood.bytes (subst (λ r. file_at r (index_path host writer) ≡ Some stood.bytes) one its_room.2))

  of_mark : IsOfMark s.shape.tree writer
  of_mark = (item_drawn m.state s.shape.tree number its_room.0 (Index host writer) stood.bytes s.shape s.shape.told its_room.1 no_marks_room stood.is_item its_room.2).0

  from_one : (n : ℕ) → mark_path of_mark.mount ≡ mark_path n → 1 ≤ n → n < 2 ^ 32 → 1 ≤ of_mark.mount
  from_one n is some fits =
      let same : of_mark.mount ≡ n = decimal_injective of_mark.mount n (omega (arith, of_mark.mount_fits)) (omega (arith, fits)) (ap (λ p. p.file) is) in
      omega (arith, same, some)

  some_mount : 1 ≤ of_mark.mount
  some_mount = elim (s.shape.shaped.rooms of_mark.has_mark.number of_mark.has_mark.room of_mark.has_mark.there) as (λ _. 1 ≤ of_mark.mount) [
    | inl marks ↦ let f = marks.files (mark_path of_mark.mount) [] of_mark.has_mark.mark in from_one f.0 f.3 f.1 f.2
    | inr container ↦ absurd (no_marks of_mark.has_mark.room.name of_mark.has_mark.room container.named refl of_mark.has_mark.named)
  ]

  pub id_is : IsIdOf writer
  id_is = record { mount = of_mark.mount; serial = of_mark.serial; some_mount = some_mount; mount_fits = of_mark.mount_fits; some = of_mark.some; fits = of_mark.serial_fits; is = of_mark.is }

pub mount_is : (writer : ℕ) (i : IsIdOf writer) → mount_of writer ≡ i.mount
mount_is writer i = omega (arith, i.is, i.fits)

-- ---- the mounts of writers

same_mount : (last : Option ℕ) (mount : ℕ) → is_same last mount ≡ true → last ≡ Some mount
same_mount None mount e = absurd (cc)
same_mount (Some n) mount e = let same : n ≡ mount = grind (arith, nat_tests, e) in ap (λ k. Some k) same

-- each is told, or is the last one before
mount_told : (last : Option ℕ) (ws : List WriterRead) (w : WriterRead) → Among w ws → Among (mount_of w.writer) (mounts_behind last ws) ⊎ (last ≡ Some (mount_of w.writer))
mount_told last [] w a = absurd a
mount_told last (v ∷ ws) w a = elim (cases_Bool (is_same last (mount_of v.writer))) as (λ _. Among (mount_of w.writer) (mounts_behind last (v ∷ ws)) ⊎ (last ≡ Some (mount_of w.writer))) [
  | inl same ↦
      let is : mounts_behind last (v ∷ ws) ≡ mounts_behind last ws = cond-true (is_same last (mount_of v.writer)) (mounts_behind last ws) (mount_of v.writer ∷ mounts_behind (Some (mount_of v.writer)) ws) same in
      subst (λ l. Among (mount_of w.writer) l ⊎ (last ≡ Some (mount_of w.writer))) (sym is) (skipped a (same_mount last (mount_of v.writer) same) (λ b. mount_told last ws w b))
  | inr new ↦
      let is : mounts_behind last (v ∷ ws) ≡ mount_of v.writer ∷ mounts_behind (Some (mount_of v.writer)) ws = cond-false (is_same last (mount_of v.writer)) (mounts_behind last ws) (mount_of v.writer ∷ mounts_behind (Some (mount_of v.writer)) ws) new in
      inl (subst (Among (mount_of w.writer)) (sym is) (told a (λ b. mount_told (Some (mount_of v.writer)) ws w b)))
]
  where
    skipped : Among w (v ∷ ws) → last ≡ Some (mount_of v.writer) → (Among w ws → Among (mount_of w.writer) (mounts_behind last ws) ⊎ (last ≡ Some (mount_of w.writer))) → Among (mount_of w.writer) (mounts_behind last ws) ⊎ (last ≡ Some (mount_of w.writer))
    skipped (inl same) e more = inr (e ∙ ap (λ (x : WriterRead). Some (mount_of x.writer)) (sym same))
    skipped (inr b) e more = more b

    told : Among w (v ∷ ws) → (Among w ws → Among (mount_of w.writer) (mounts_behind (Some (mount_of v.writer)) ws) ⊎ (Some (mount_of v.writer) ≡ Some (mount_of w.writer))) → Among (mount_of w.writer) (mount_of v.writer ∷ mounts_behind (Some (mount_of v.writer)) ws)
    told (inl same) more = inl (ap (λ (x : WriterRead). mount_of x.writer) same)
    told (inr b) more = elim (more b) as (λ _. Among (mount_of w.writer) (mount_of v.writer ∷ mounts_behind (Some (mount_of v.writer)) ws)) [
      | inl later ↦ inr later
      | inr e ↦ inl (let same : mount_of v.writer ≡ mount_of w.writer = cc in sym same)
    ]

pub mount_among : (ws : List WriterRead) (w : WriterRead) → Among w ws → Among (mount_of w.writer) (mounts_of ws)
mount_among ws w a = elim (mount_told None ws w a) as (λ _. Among (mount_of w.writer) (mounts_of ws)) [ inl told ↦ told | inr e ↦ absurd (cc) ]

-- what holds of each writer's mount holds of each that is told
pub all_mounts : (P : ℕ → Type 0) (last : Option ℕ) (ws : List WriterRead) → AllByRecursion (λ (w : WriterRead). P (mount_of w.writer)) ws → AllByRecursion P (mounts_behind last ws)
all_mounts P last [] all = tt
all_mounts P last (w ∷ ws) all = elim (cases_Bool (is_same last (mount_of w.writer))) as (λ _. AllByRecursion P (mounts_behind last (w ∷ ws))) [
  | inl same ↦ subst (AllByRecursion P) (sym (cond-true (is_same last (mount_of w.writer)) (mounts_behind last ws) (mount_of w.writer ∷ mounts_behind (Some (mount_of w.writer)) ws) same)) (all_mounts P last ws all.1)
  | inr new ↦ subst (AllByRecursion P) (sym (cond-false (is_same last (mount_of w.writer)) (mounts_behind last ws) (mount_of w.writer ∷ mounts_behind (Some (mount_of w.writer)) ws) new)) (all.0, all_mounts P (Some (mount_of w.writer)) ws all.1)
]
