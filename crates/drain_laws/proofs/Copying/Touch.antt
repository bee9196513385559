-- What a step of a drain leaves of the container's files: none goes, and each ends where it ended, or where it was written to.
use Rattle.std.proofs.Common.{◌≡◌, true, ℕ, ◌+◌, ◌≤◌, List, [], ◌∷◌, length, take, Some, refl, ap, sym, ◌∙◌, inl, inr, subst, arith}
use Rattle.std.specs.Prelude.{slice_get, ◌||◌}
use Rattle.std.specs.List.{list_any}
use Rattle.std.proofs.lemmas.Bool.{cases_eq}
use Rattle.std.proofs.lemmas.List.{length-take}
use Rattle.plfs_types.specs.Bytes.{overwritten}
use Rattle.plfs_types.specs.declared.names.Path.{Path}
use Rattle.store_api.specs.declared.tree.Room.{Room}
use Rattle.store_api.specs.declared.tree.Tree.{Tree}
use Rattle.store_api.specs.Names.{same_name}
use Rattle.store_api.specs.Room.{has_folder, is_top}
use Rattle.store_api.specs.Step.{Step, create, cut, make_room, remove, replace, write_at}
use Rattle.store_laws.specs.Files.{file_at}
use Rattle.store_laws.specs.Naming.{KeepsRoom, NamesFolder, NamesRoom, OnlyAdds}
use Rattle.store_laws.specs.Changes.{RoomMade, Wrote}
use Rattle.store_laws.specs.Tells.{Tells}
use Rattle.store_laws.proofs.Facts.{changed_room, create_told, keeps_rooms, length-overwritten, lengthens_told, look_told, make_room_told, other_room, path_cases, write_told}
use Rattle.mount_model.specs.Paths.{Name, mark_path, new_files, new_folders}
use Rattle.store_api.specs.Names.{marks_folder}
use Rattle.container_layout.specs.Paths.{openhosts}
use Rattle.store_api.specs.Names.{marks_name}
use Rattle.mount_sound.specs.Dropping.{bytes_of}
use Rattle.mount_sound.proofs.Facts.{IsBare, made_bare}
use Rattle.reader_laws.specs.Moments.{Moment}
use Rattle.reader_laws.proofs.Faults.ScanFails.{no_openhosts}
use Rattle.mount_model.specs.Making.{Told}
use Rattle.drain_sound.specs.Fronts.{IsTarget}
use Rattle.drain_sound.specs.Steps.{IsDrainStep, IsNamedRoom}
use Rattle.drain_sound.specs.Steps as step
use Rattle.drain_sound.proofs.Facts.{no_marks}
use Rattle.drain_laws.proofs.Copying.Mild.{WritesFile, no_longer, some_room}
use Rattle.drain_laws.proofs.Copying.Roomed.{added_or_was}

-- where the step's bytes end
abbrev pub write_end : Step → ℕ
write_end (write_at n folder file at bytes) = at + length bytes
write_end step = 0

-- the room before the step and after it
pub record RoomGoes (x : Step) (n : ℕ) (room new : Room) : Type 0 where
  pub stays : (path : Path) (bytes : List ℕ) → file_at room path ≡ Some bytes → (later : List ℕ) × (file_at new path ≡ Some later)
  pub ends : (path : Path) (most : ℕ) → length (bytes_of (file_at room path)) ≤ most → (WritesFile x n path → write_end x ≤ most) → length (bytes_of (file_at new path)) ≤ most
  pub opens : has_folder room openhosts ≡ true → has_folder new openhosts ≡ true

-- the container came with the step, and is bare, or was there
pub data Goes (x : Step) (t : Tree) (n : ℕ) (name : Name) (new : Room) : Type 0 where
  bare : IsBare new → has_folder new openhosts ≡ true → Goes x t n name new
  was : (room : Room) → IsNamedRoom t n name room → RoomGoes x n room new → Goes x t n name new

same_goes : (x : Step) (n : ℕ) (room new : Room) → new ≡ room → RoomGoes x n room new
same_goes x n room new e = record {
  stays = λ path bytes f. (bytes, ap (λ r. file_at r path) e ∙ f);
  ends = λ path most l written. omega (arith, l, ap (λ r. length (bytes_of (file_at r path))) e);
  opens = λ has. ap (λ r. has_folder r openhosts) e ∙ has;
}

-- ---- a file that is written to

wrote_ends : (n : ℕ) (folder file : Name) (at : ℕ) (bytes part : List ℕ) (t after : Tree) (new : Room) (path : Path) (most : ℕ) → length part ≤ length bytes → Wrote t n (record { folder = folder; file = file }) at part after → slice_get after.rooms n ≡ Some new → path ≡ record { folder = folder; file = file }
    → ((room : Room) → slice_get t.rooms n ≡ Some room → length (bytes_of (file_at room path)) ≤ most) → at + length bytes ≤ most → length (bytes_of (file_at new path)) ≤ most
wrote_ends n folder file at bytes part t after new path most few w here same old l =
    let last : slice_get after.rooms n ≡ Some w.new = ap (λ (y : Tree). slice_get y.rooms n) w.gives ∙ changed_room t n w.room w.new w.has_room in
    let is : new ≡ w.new = some_room new w.new (slice_get after.rooms n) here last in
    let now : file_at new path ≡ Some (overwritten w.old at part) = (λ i. file_at (is i) (same i)) ∙ w.now in
    let before : file_at w.room path ≡ Some w.old = ap (file_at w.room) same ∙ w.there in
    omega (arith, ap (λ o. length (bytes_of o)) now, length-overwritten w.old at part w.within, old w.room w.has_room, ap (λ o. length (bytes_of o)) before, few, l)

write_ends : (n : ℕ) (folder file : Name) (at : ℕ) (bytes : List ℕ) (t after : Tree) (told : Told) (room new : Room) (path : Path) (most : ℕ) → Tells (write_at n folder file at bytes) t told after → slice_get t.rooms n ≡ Some room → slice_get after.rooms n ≡ Some new → KeepsRoom (write_at n folder file at bytes) n room new
    → length (bytes_of (file_at room path)) ≤ most → (WritesFile (write_at n folder file at bytes) n path → at + length bytes ≤ most) → length (bytes_of (file_at new path)) ≤ most
write_ends n folder file at bytes t after told room new path most tells there here keeps l written = elim (path_cases path (record { folder = folder; file = file })) as (λ _. length (bytes_of (file_at new path)) ≤ most) [
  | inr two ↦ omega (arith, l, no_longer (write_at n folder file at bytes) t told after n room new path tt tells there here keeps (λ w. two w.1.0 w.1.1))
  | inl same ↦
      let old : (r : Room) → slice_get t.rooms n ≡ Some r → length (bytes_of (file_at r path)) ≤ most = λ r e. subst (λ y. length (bytes_of (file_at y path)) ≤ most) (some_room room r (slice_get t.rooms n) there e) l in
      let within : at + length bytes ≤ most = written (refl, (ap (λ (p : Path). p.folder) same, ap (λ (p : Path). p.file) same)) in
      elim (write_told n (record { folder = folder; file = file }) at bytes t told after tells) as (λ _. length (bytes_of (file_at new path)) ≤ most) [
        | inl (made, w) ↦ wrote_ends n folder file at bytes bytes t after new path most (omega arith) w here same old within
        | inr (unmade, inl stays) ↦ old new (ap (λ (y : Tree). slice_get y.rooms n) (sym stays) ∙ here)
        | inr (unmade, inr (k, few, w)) ↦ wrote_ends n folder file at bytes (take k bytes) t after new path most (omega (arith, length-take k bytes)) w here same old within
      ]
]

-- ---- a step in the container

goes_in : (x : Step) (t after : Tree) (told : Told) (n : ℕ) (room new : Room) → OnlyAdds x → Tells x t told after → slice_get t.rooms n ≡ Some room → slice_get after.rooms n ≡ Some new → KeepsRoom x n room new → (NamesFolder x n openhosts → ⊥) → RoomGoes x n room new
goes_in x t after told n room new adds tells there here keeps spares = record {
  stays = λ path bytes e.
      let l = lengthens_told x t told after adds tells n room path bytes there e in
      let same : l.0 ≡ new = some_room l.0 new (slice_get after.rooms n) l.2 here in
      (l.1, ap (λ r. file_at r path) (sym same) ∙ l.3);
  ends = λ path most l written. by_step x adds tells keeps path most l written;
  opens = λ has. keeps.folders openhosts spares ∙ has;
}
  where
    by_step : (y : Step) → OnlyAdds y → Tells y t told after → KeepsRoom y n room new → (path : Path) (most : ℕ) → length (bytes_of (file_at room path)) ≤ most → (WritesFile y n path → write_end y ≤ most) → length (bytes_of (file_at new path)) ≤ most
    by_step (write_at m folder file at bytes) adds tells keeps path most l written = elim (cases_eq n m) as (λ _. length (bytes_of (file_at new path)) ≤ most) [
      | inl same ↦
          write_ends n folder file at bytes t after told room new path most (subst (λ k. Tells (write_at k folder file at bytes) t told after) (sym same) tells) there here (subst (λ k. KeepsRoom (write_at k folder file at bytes) n room new) (sym same) keeps) l (λ w. written (same, w.1))
      | inr other ↦ omega (arith, l, no_longer (write_at m folder file at bytes) t told after n room new path tt tells there here keeps (λ w. other w.0))
    ]
    by_step (remove m folder file) adds tells keeps path most l written = absurd adds
    by_step (replace m folder from to) adds tells keeps path most l written = absurd adds
    by_step (cut m folder file len) adds tells keeps path most l written = absurd adds
    by_step y adds tells keeps path most l written = omega (arith, l, no_longer y t told after n room new path adds tells there here keeps (λ w. w))

module _ (g : Moment) (number : ℕ) (name : Name) (t after : Tree) (target : IsTarget g number name t) (good : IsTarget g number name after) (told : Told) where
  in_room : (x : Step) → OnlyAdds x → ((k : ℕ) → NamesRoom x k → ⊥) → ((k : ℕ) → NamesFolder x k openhosts → ⊥) → Tells x t told after → (m : ℕ) (room : Room) → IsNamedRoom t m name room → (n : ℕ) (new : Room) → IsNamedRoom after n name new → Goes x t n name new
  in_room x adds no_names spares tells m room at n new here =
      let k = keeps_rooms x t told after tells m room at.there in
      let now : IsNamedRoom after m name k.0 = record { there = k.1; named = k.2.name (no_names m) ∙ at.named } in
      let number_is : m ≡ n = good.sound.shaped.rooms_differ m n k.0 new now.there here.there (now.named ∙ sym here.named) in
      let same : k.0 ≡ new = some_room k.0 new (slice_get after.rooms n) (subst (λ j. slice_get after.rooms j ≡ Some k.0) number_is k.1) here.there in
      subst (λ j. Goes x t j name new) number_is
      (was room at (goes_in x t after told m room new adds tells at.there (subst (λ r. slice_get after.rooms m ≡ Some r) same k.1) (subst (KeepsRoom x m room) same k.2) (spares m)))

  -- another room has come, or this one
  roomed : (of : Name) (folders files : List Name) → ((c : RoomMade t of folders files after) → c.new.name ≡ name → has_folder c.new openhosts ≡ true) → Tells (make_room of folders files) t told after → (n : ℕ) (new : Room) → IsNamedRoom after n name new → Goes (make_room of folders files) t n name new
  roomed of folders files opened tells n new here = elim (make_room_told of folders files t told after tells).either as (λ _. Goes (make_room of folders files) t n name new) [
    | inr same ↦ was new (subst (λ x. IsNamedRoom x n name new) same here) (same_goes (make_room of folders files) n new new refl)
    | inl c ↦ elim (added_or_was t.rooms c.new new n (sym (ap (λ (y : Tree). slice_get y.rooms n) c.gives) ∙ here.there)) as (λ _. Goes (make_room of folders files) t n name new) [
      | inl there ↦ was new (record { there = there; named = here.named }) (same_goes (make_room of folders files) n new new refl)
      | inr is ↦ bare (subst IsBare (sym is) (made_bare t of folders files after c)) (subst (λ r. has_folder r openhosts ≡ true) (sym is) (opened c (ap (λ (r : Room). r.name) (sym is) ∙ here.named)))
    ]
  ]

  -- a mark is no file of the container
  marked : (m mount : ℕ) (room : Room) → IsNamedRoom t m marks_name room → Tells (create m (mark_path mount).folder (mark_path mount).file) t told after → (n : ℕ) (new : Room) → IsNamedRoom after n name new → Goes (create m (mark_path mount).folder (mark_path mount).file) t n name new
  marked m mount room at tells n new here = elim (create_told m (mark_path mount) t told after tells).either as (λ _. Goes (create m (mark_path mount).folder (mark_path mount).file) t n name new) [
    | inr same ↦ was new (subst (λ x. IsNamedRoom x n name new) same here) (same_goes (create m (mark_path mount).folder (mark_path mount).file) n new new refl)
    | inl c ↦ elim (cases_eq n m) as (λ _. Goes (create m (mark_path mount).folder (mark_path mount).file) t n name new) [
      | inl same ↦
          let is : c.room ≡ room = some_room c.room room (slice_get t.rooms m) c.has_room at.there in
          let there : slice_get after.rooms m ≡ Some c.new = ap (λ (y : Tree). slice_get y.rooms m) c.gives ∙ changed_room t m c.room c.new c.has_room in
          let one : new ≡ c.new = some_room new c.new (slice_get after.rooms m) (subst (λ j. slice_get after.rooms j ≡ Some new) same here.there) there in
          absurd (no_marks name new target.logical here.named (ap (λ (r : Room). r.name) one ∙ c.others.name ∙ ap (λ (r : Room). r.name) is ∙ at.named))
      | inr other ↦ was new (record { there = sym (ap (λ (y : Tree). slice_get y.rooms n) c.gives ∙ other_room t m n c.new other) ∙ here.there; named = here.named }) (same_goes (create m (mark_path mount).folder (mark_path mount).file) n new new refl)
    ]
  ]

  pub room_goes : (x : Step) → IsDrainStep g number name t x → Tells x t told after → (n : ℕ) (new : Room) → IsNamedRoom after n name new → Goes x t n name new
  room_goes x (step.looks look is) tells n new here =
      let same : after ≡ t = look_told look t told after is tells in
      was new (subst (λ y. IsNamedRoom y n name new) same here) (same_goes look n new new refl)
  room_goes x step.marks tells n new here = roomed marks_name (marks_folder ∷ []) [] (λ c its_name. absurd (no_marks name c.new target.logical its_name c.named)) tells n new here
  room_goes x (step.mark m mount room at some fits) tells n new here = marked m mount room at tells n new here
  room_goes x step.container tells n new here = roomed name new_folders new_files (λ c its_name. ap (λ fs. is_top openhosts || list_any (λ n. same_name n openhosts) fs) c.has_folders) tells n new here
  room_goes x (step.opens m host writer room at may) tells n new here = in_room x tt (λ k named. named) (λ k named. named) tells m room at n new here
  room_goes x (step.houses m host room at) tells n new here = in_room x tt (λ k named. named) (λ k named. no_openhosts host (sym named.1)) tells m room at n new here
  room_goes x (step.index m host writer room at copied) tells n new here = in_room x tt (λ k named. named) (λ k named. named) tells m room at n new here
  room_goes x (step.log m host writer room at copied) tells n new here = in_room x tt (λ k named. named) (λ k named. named) tells m room at n new here
  room_goes x (step.writes_log m host writer at len room named copied behind) tells n new here = in_room x tt (λ k named. named) (λ k named. named) tells m room named n new here
  room_goes x (step.writes_index m host writer from len room named copied behind) tells n new here = in_room x tt (λ k named. named) (λ k named. named) tells m room named n new here
  room_goes x (step.syncs_log m host writer room at) tells n new here = in_room x tt (λ k named. named) (λ k named. named) tells m room at n new here
  room_goes x (step.syncs_index m host writer room at) tells n new here = in_room x tt (λ k named. named) (λ k named. named) tells m room at n new here
  room_goes x (step.truncates m stamp size room at had) tells n new here = in_room x tt (λ k named. named) (λ k named. named) tells m room at n new here
