-- How a drain's steps are answered at a target: they were made, or the store failed.
use Rattle.std.proofs.Common.{◌≡◌, ◌≤◌, ℕ, Bool, true, false, List, [], length, Option, Some, None, refl, ap, sym, ◌∙◌, subst, arith}
use Rattle.std.specs.Prelude.{Result, Ok, Err, slice_get}
use Rattle.plfs_types.specs.declared.names.Path.{Path}
use Rattle.store_api.specs.declared.step.Answer.{Answer}
use Rattle.store_api.specs.declared.step.Answer.TheVariants.{Absent, Beyond, Made, NoFolder, NoRoom, Number, Old}
use Rattle.store_api.specs.declared.tree.Room.{Room}
use Rattle.store_api.specs.declared.tree.Tree.{Tree}
use Rattle.store_api.specs.Room.{has_folder}
use Rattle.store_api.specs.Step.{Name as FolderName, create, make_folder, make_room, sync, write_at}
use Rattle.store_laws.specs.Files.{file_at}
use Rattle.store_laws.specs.Tells.{Tells}
use Rattle.store_laws.specs.There.{HoldsFile, LacksFile, LacksFolder}
use Rattle.store_laws.proofs.Facts.{create_told, make_folder_told, make_room_told, sync_told, write_refused}
use Rattle.mount_model.specs.Paths.{Name}
use Rattle.container_layout.specs.Paths.{openhosts}
use Rattle.drain_copy.specs.declared.outcome.DrainStuck.{DrainStuck}
use Rattle.drain_copy.specs.declared.outcome.DrainStuck.TheVariants.{TargetDamaged, TargetFault}
use Rattle.mount_model.specs.Making.{Told}
use Rattle.drain_copy.specs.Telling.{entry_made, made_now, made_or_old, or_damaged, roomed, told_well}
use Rattle.drain_sound.specs.Steps.{IsNamedRoom}
use Rattle.drain_laws.specs.Ending.{LacksOpenhosts}
use Rattle.drain_laws.proofs.Copying.Mild.{some_room}
use Rattle.drain_laws.proofs.Planning.Aims.{IsFair}

-- ---- a room, and its folders and files

-- a room that is there is not missing
is_there : (room : Room) (o : Option Room) → o ≡ Some room → o ≡ None → ⊥
is_there room o has lacks = let clash : Some room ≡ None = sym has ∙ lacks in cc

both_ways : (b : Bool) → b ≡ true → b ≡ false → ⊥
both_ways b p q = let clash : true ≡ false = sym p ∙ q in cc

some_bytes : (a b : List ℕ) (o : Option (List ℕ)) → o ≡ Some a → o ≡ Some b → a ≡ b
some_bytes a b o p q = cc

no_bytes : (a : List ℕ) (o : Option (List ℕ)) → o ≡ Some a → o ≡ None → ⊥
no_bytes a o p q = let clash : Some a ≡ None = sym p ∙ q in cc

module _ (n : ℕ) (t : Tree) (room : Room) (there : slice_get t.rooms n ≡ Some room) where
  has_it : (folder : FolderName) → has_folder room folder ≡ true → LacksFolder t n folder → ⊥
  has_it folder has lacks = both_ways (has_folder room folder) has (ap (λ r. has_folder r folder) (some_room room lacks.room (slice_get t.rooms n) there lacks.has_room) ∙ lacks.none)

  holds_it : (path : Path) (bytes : List ℕ) → file_at room path ≡ Some bytes → LacksFile t n path → ⊥
  holds_it path bytes here lacks = no_bytes bytes (file_at room path) here (ap (λ r. file_at r path) (some_room room lacks.room (slice_get t.rooms n) there lacks.has_room) ∙ lacks.none)

  -- its bytes are these
  same_bytes : (path : Path) (bytes : List ℕ) → file_at room path ≡ Some bytes → (held : HoldsFile t n path) → held.bytes ≡ bytes
  same_bytes path bytes here held = some_bytes held.bytes bytes (file_at room path) (ap (λ r. file_at r path) (some_room room held.room (slice_get t.rooms n) there held.has_room) ∙ held.there) here

  -- ---- what is answered

  -- a file is made in a folder that is there, or it was there
  pub created_well : (path : Path) (after : Tree) (answer : Answer) → has_folder room path.folder ≡ true → Tells (create n path.folder path.file) t (Ok answer) after → made_or_old answer ≡ None → ⊥
  created_well path after Made has tells none = cc
  created_well path after (Old k) has tells none = cc
  created_well path after NoRoom has tells none = is_there room (slice_get t.rooms n) there ((create_told n path t (Ok NoRoom) after tells).stays NoRoom refl (λ same. cc)).1
  created_well path after NoFolder has tells none = has_it path.folder has ((create_told n path t (Ok NoFolder) after tells).stays NoFolder refl (λ same. cc)).1
  created_well path after answer has tells none = ((create_told n path t (Ok answer) after tells).stays answer refl (λ same. cc)).1

  -- so is a folder
  pub folder_made_well : (folder : FolderName) (after : Tree) (answer : Answer) → Tells (make_folder n folder) t (Ok answer) after → made_or_old answer ≡ None → ⊥
  folder_made_well folder after Made tells none = cc
  folder_made_well folder after (Old k) tells none = cc
  folder_made_well folder after NoRoom tells none = is_there room (slice_get t.rooms n) there ((make_folder_told n folder t (Ok NoRoom) after tells).stays NoRoom refl (λ same. cc)).1
  folder_made_well folder after answer tells none = ((make_folder_told n folder t (Ok answer) after tells).stays answer refl (λ same. cc)).1

  -- bytes are written into a file that is there, from within it or its end on
  pub written_well : (path : Path) (at : ℕ) (b bytes : List ℕ) (after : Tree) (answer : Answer) → has_folder room path.folder ≡ true → file_at room path ≡ Some bytes → at ≤ length bytes → Tells (write_at n path.folder path.file at b) t (Ok answer) after → made_now answer ≡ None → ⊥
  written_well path at b bytes after Made has here within tells none = cc
  written_well path at b bytes after NoRoom has here within tells none = is_there room (slice_get t.rooms n) there (write_refused n path at b t NoRoom after tells (λ same. cc)).1
  written_well path at b bytes after NoFolder has here within tells none = has_it path.folder has (write_refused n path at b t NoFolder after tells (λ same. cc)).1
  written_well path at b bytes after Absent has here within tells none = holds_it path bytes here (write_refused n path at b t Absent after tells (λ same. cc)).1
  written_well path at b bytes after Beyond has here within tells none =
      let short = (write_refused n path at b t Beyond after tells (λ same. cc)).1 in
      omega (arith, within, short.1, ap length (same_bytes path bytes here short.0))
  written_well path at b bytes after answer has here within tells none = (write_refused n path at b t answer after tells (λ same. cc)).1

  -- a file that is there is synced
  pub synced_well : (path : Path) (bytes : List ℕ) (after : Tree) (answer : Answer) → has_folder room path.folder ≡ true → file_at room path ≡ Some bytes → Tells (sync n path.folder path.file) t (Ok answer) after → made_now answer ≡ None → ⊥
  synced_well path bytes after Made has here tells none = cc
  synced_well path bytes after NoRoom has here tells none = is_there room (slice_get t.rooms n) there ((sync_told n path t (Ok NoRoom) after tells).stays NoRoom refl (λ same. cc)).1
  synced_well path bytes after NoFolder has here tells none = has_it path.folder has ((sync_told n path t (Ok NoFolder) after tells).stays NoFolder refl (λ same. cc)).1
  synced_well path bytes after Absent has here tells none = holds_it path bytes here ((sync_told n path t (Ok Absent) after tells).stays Absent refl (λ same. cc)).1
  synced_well path bytes after answer has here tells none = ((sync_told n path t (Ok answer) after tells).stays answer refl (λ same. cc)).1

-- a room is made, or one has the name
pub roomed_well : (name : Name) (folders files : List Name) (t after : Tree) (answer : Answer) → Tells (make_room name folders files) t (Ok answer) after → roomed answer ≡ None → ⊥
roomed_well name folders files t after (Number k) tells none = cc
roomed_well name folders files t after (Old k) tells none = cc
roomed_well name folders files t after answer tells none = ((make_room_told name folders files t (Ok answer) after tells).stays answer refl (λ same. cc)).1

-- ---- so a step ends a drain only where the store failed

pub told_fair : {X : Type 0} (name : Name) (t : Tree) (path : Path) (good : Answer → Option X) (told : Told) (why : DrainStuck) → ((answer : Answer) → told ≡ Ok answer → good answer ≡ None → ⊥) → told_well path good told ≡ Err why → IsFair name t why
told_fair {X} name t path good (Err trouble) why never e =
    let is : ◌≡◌ {A = Result X DrainStuck} (Err TargetFault) (Err why) = e in
    let same : TargetFault ≡ why = cc in
    subst (IsFair name t) same tt
told_fair {X} name t path good (Ok answer) why never e = by_good (good answer) refl e
  where
    by_good : (o : Option X) → good answer ≡ o → or_damaged path o ≡ Err why → IsFair name t why
    by_good None none f = absurd (never answer refl none)
    by_good (Some x) is f = let clash : ◌≡◌ {A = Result X DrainStuck} (Ok x) (Err why) = f in absurd (cc)

-- An entry among those that have the container open is made, or was there, or their folder is missing.
module _ (name : Name) (n : ℕ) (t after : Tree) (room : Room) (at : IsNamedRoom t n name room) (path : Path) (folder_is : path.folder ≡ openhosts) where
  -- so the folder is missing after it too
  lacks_it : Tells (create n path.folder path.file) t (Ok NoFolder) after → IsFair name after (TargetDamaged openhosts [] 0)
  lacks_it tells =
      let s = (create_told n path t (Ok NoFolder) after tells).stays NoFolder refl (λ same. cc) in
      let same : room ≡ s.1.room = some_room room s.1.room (slice_get t.rooms n) at.there s.1.has_room in
      let lacks : LacksOpenhosts name t = record { n = n; room = room; at = at; none = (λ i. has_folder (same i) (sym folder_is i)) ∙ s.1.none } in
      (refl, refl, refl, subst (LacksOpenhosts name) (sym s.0) lacks)

  other_well : (answer : Answer) → (answer ≡ NoFolder → ⊥) → Tells (create n path.folder path.file) t (Ok answer) after → made_or_old answer ≡ None → ⊥
  other_well Made other tells none = cc
  other_well (Old k) other tells none = cc
  other_well NoFolder other tells none = other refl
  other_well NoRoom other tells none = is_there room (slice_get t.rooms n) at.there ((create_told n path t (Ok NoRoom) after tells).stays NoRoom refl (λ same. cc)).1
  other_well answer other tells none = ((create_told n path t (Ok answer) after tells).stays answer refl (λ same. cc)).1

  pub entry_fair : (told : Told) (why : DrainStuck) → Tells (create n path.folder path.file) t told after → entry_made path told ≡ Err why → IsFair name after why
  entry_fair (Ok NoFolder) why tells e =
      let is : ◌≡◌ {A = Result (Unit {0}) DrainStuck} (Err (TargetDamaged openhosts [] 0)) (Err why) = e in
      let same : TargetDamaged openhosts [] 0 ≡ why = cc in
      subst (IsFair name after) same (lacks_it tells)
  entry_fair (Ok answer) why tells e = told_fair name after path made_or_old (Ok answer) why (λ other is none.
      let told_so : ◌≡◌ {A = Told} (Ok answer) (Ok other) = is in
      let same : answer ≡ other = cc in
      other_well answer (λ bad. cc) tells (ap made_or_old same ∙ none)) e
  entry_fair (Err trouble) why tells e =
      let is : ◌≡◌ {A = Result (Unit {0}) DrainStuck} (Err TargetFault) (Err why) = e in
      let same : TargetFault ≡ why = cc in
      subst (IsFair name after) same tt
