-- What the answers to a drain's steps tell of its target, and a Read's reply of its source.
use Rattle.std.proofs.Common.{◌≡◌, ℕ, ◌+◌, ◌≤◌, nat_lt, true, List, [], length, Option, Some, None, refl, ap, sym, ◌∙◌, inl, inr, subst, arith}
use Rattle.std.specs.Prelude.{Result, Ok, Err, slice_get}
use Rattle.std.proofs.lemmas.Bool.{cases_Bool, cond-true, cond-false}
use Rattle.std.proofs.lemmas.Bool.Decides.{nat_tests}
use Rattle.plfs_types.specs.Bytes.{overwritten}
use Rattle.plfs_types.specs.declared.names.Path.{Path}
use Rattle.store_api.specs.declared.step.Answer.{Answer}
use Rattle.store_api.specs.declared.step.Answer.TheVariants.{Bytes, Made, NoFolder, Old}
use Rattle.store_api.specs.declared.store.Trouble.TheVariants.{Fault, NoMemory}
use Rattle.store_api.specs.declared.tree.Room.{Room}
use Rattle.store_api.specs.declared.tree.Tree.{Tree}
use Rattle.store_api.specs.Room.{has_folder}
use Rattle.store_api.specs.Step.{Name as FolderName, create, make_folder, sync, write_at}
use Rattle.store_laws.specs.Files.{file_at}
use Rattle.store_laws.specs.Losing.{KeepsFront}
use Rattle.store_laws.specs.Tells.{Tells}
use Rattle.store_laws.proofs.Facts.{changed_room, create_told, length-overwritten, make_folder_told, sync_told, write_told}
use Rattle.mount_model.specs.declared.reply.Reply.{Reply}
use Rattle.mount_model.specs.declared.reply.Reply.TheVariants.{Looked}
use Rattle.mount_sound.specs.Dropping.{bytes_of}
use Rattle.mount_model.specs.FlowReplies.{damage}
use Rattle.drain_copy.specs.declared.outcome.DrainStuck.{DrainStuck}
use Rattle.drain_copy.specs.declared.outcome.DrainStuck.TheVariants.{Source}
use Rattle.mount_model.specs.Making.{Told}
use Rattle.drain_copy.specs.Copying.{part_told, whole_part}
use Rattle.drain_copy.specs.Telling.{entry_made, made_now, made_or_old, or_damaged, told_well}
use Rattle.drain_laws.proofs.Copying.Mild.{some_room}

-- ---- what an answer tells

-- a file that was made, or was there, is there
pub record IsThere (t : Tree) (to : ℕ) (path : Path) : Type 0 where
  pub room : Room
  pub has_room : slice_get t.rooms to ≡ Some room
  pub bytes : List ℕ
  pub there : file_at room path ≡ Some bytes

pub created : (to : ℕ) (path : Path) (t after : Tree) (answer : Answer) → Tells (create to path.folder path.file) t (Ok answer) after → (made_or_old answer ≡ None → ⊥) → IsThere after to path
created to path t after Made tells good =
    let c = (create_told to path t (Ok Made) after tells).done refl in
    record { room = c.new; has_room = ap (λ (x : Tree). slice_get x.rooms to) c.gives ∙ changed_room t to c.room c.new c.has_room; bytes = []; there = c.now }
created to path t after (Old n) tells good =
    let s = (create_told to path t (Ok (Old n)) after tells).stays (Old n) refl (λ same. cc) in
    let h = s.1.1 in
    record { room = h.room; has_room = ap (λ (x : Tree). slice_get x.rooms to) s.0 ∙ h.has_room; bytes = h.bytes; there = h.there }
created to path t after answer tells good = absurd (good refl)

undamaged : (path : Path) (o : Option (Unit {0})) (x : Unit {0}) → or_damaged path o ≡ Ok x → o ≡ None → ⊥
undamaged path None x good none = cc
undamaged path (Some made) x good none = cc

entry_good : (path : Path) (answer : Answer) (x : Unit {0}) → entry_made path (Ok answer) ≡ Ok x → made_or_old answer ≡ None → ⊥
entry_good path Made x good none = cc
entry_good path (Old n) x good none = cc
entry_good path NoFolder x good none = cc
entry_good path answer x good none = cc

pub entry_there : (to : ℕ) (path : Path) (t after : Tree) (told : Told) (x : Unit {0}) → Tells (create to path.folder path.file) t told after → entry_made path told ≡ Ok x → IsThere after to path
entry_there to path t after (Ok answer) x tells good = created to path t after answer tells (entry_good path answer x good)
entry_there to path t after (Err Fault) x tells good = absurd (cc)
entry_there to path t after (Err NoMemory) x tells good = absurd (cc)

pub file_there : (to : ℕ) (path of : Path) (t after : Tree) (told : Told) (x : Unit {0}) → Tells (create to path.folder path.file) t told after → told_well of made_or_old told ≡ Ok x → IsThere after to path
file_there to path of t after (Ok answer) x tells good = created to path t after answer tells (undamaged of (made_or_old answer) x good)
file_there to path of t after (Err Fault) x tells good = absurd (cc)
file_there to path of t after (Err NoMemory) x tells good = absurd (cc)

-- a folder that was made, or was there, is there
folder_so : (to : ℕ) (folder : FolderName) (t after : Tree) (new : Room) (answer : Answer) → Tells (make_folder to folder) t (Ok answer) after → (made_or_old answer ≡ None → ⊥) → slice_get after.rooms to ≡ Some new → has_folder new folder ≡ true
folder_so to folder t after new Made tells good here =
    let c = (make_folder_told to folder t (Ok Made) after tells).done refl in
    let there : slice_get after.rooms to ≡ Some c.new = ap (λ (x : Tree). slice_get x.rooms to) c.gives ∙ changed_room t to c.room c.new c.has_room in
    ap (λ r. has_folder r folder) (some_room new c.new (slice_get after.rooms to) here there) ∙ c.now
folder_so to folder t after new (Old n) tells good here =
    let s = (make_folder_told to folder t (Ok (Old n)) after tells).stays (Old n) refl (λ same. cc) in
    let h = s.1.1 in
    let there : slice_get after.rooms to ≡ Some h.room = ap (λ (x : Tree). slice_get x.rooms to) s.0 ∙ h.has_room in
    ap (λ r. has_folder r folder) (some_room new h.room (slice_get after.rooms to) here there) ∙ h.there
folder_so to folder t after new answer tells good here = absurd (good refl)

pub folder_there : (to : ℕ) (folder : FolderName) (of : Path) (t after : Tree) (new : Room) (told : Told) (x : Unit {0}) → Tells (make_folder to folder) t told after → told_well of made_or_old told ≡ Ok x → slice_get after.rooms to ≡ Some new → has_folder new folder ≡ true
folder_there to folder of t after new (Ok answer) x tells good here = folder_so to folder t after new answer tells (undamaged of (made_or_old answer) x good) here
folder_there to folder of t after new (Err Fault) x tells good here = absurd (cc)
folder_there to folder of t after new (Err NoMemory) x tells good here = absurd (cc)

-- Bytes that were written are there: so much behind the file's start at least, and no more than that and what was there before.
pub record HasBytes (t after : Tree) (to : ℕ) (path : Path) (end : ℕ) : Type 0 where
  pub room : Room
  pub has_room : slice_get after.rooms to ≡ Some room
  pub bytes : List ℕ
  pub there : file_at room path ≡ Some bytes
  pub long : end ≤ length bytes
  pub was : Room
  pub had_room : slice_get t.rooms to ≡ Some was
  pub most : (limit : ℕ) → length (bytes_of (file_at was path)) ≤ limit → end ≤ limit → length bytes ≤ limit

now_made : (answer : Answer) → (made_now answer ≡ None → ⊥) → answer ≡ Made
now_made Made good = refl
now_made answer good = absurd (good refl)

wrote_so : (to : ℕ) (path : Path) (at : ℕ) (b : List ℕ) (t after : Tree) (answer : Answer) → answer ≡ Made → Tells (write_at to path.folder path.file at b) t (Ok answer) after → HasBytes t after to path (at + length b)
wrote_so to path at b t after answer is tells = elim (write_told to path at b t (Ok answer) after tells) as (λ _. HasBytes t after to path (at + length b)) [
  | inl (made, w) ↦ record {
    room = w.new;
    has_room = ap (λ (x : Tree). slice_get x.rooms to) w.gives ∙ changed_room t to w.room w.new w.has_room;
    bytes = overwritten w.old at b;
    there = w.now;
    long = omega (arith, length-overwritten w.old at b w.within);
    was = w.room;
    had_room = w.has_room;
    most = λ limit before behind. omega (arith, length-overwritten w.old at b w.within, ap (λ o. length (bytes_of o)) w.there, before, behind);
  }
  | inr (unmade, part) ↦ absurd (unmade (ap (λ x. Ok x) is))
]

pub bytes_there : (to : ℕ) (path of : Path) (at : ℕ) (b : List ℕ) (t after : Tree) (told : Told) (x : Unit {0}) → Tells (write_at to path.folder path.file at b) t told after → told_well of made_now told ≡ Ok x → HasBytes t after to path (at + length b)
bytes_there to path of at b t after (Ok answer) x tells good = wrote_so to path at b t after answer (now_made answer (undamaged of (made_now answer) x good)) tells
bytes_there to path of at b t after (Err Fault) x tells good = absurd (cc)
bytes_there to path of at b t after (Err NoMemory) x tells good = absurd (cc)

-- the first bytes of a file that was synced are kept
synced_so : (to : ℕ) (path : Path) (t after : Tree) (room : Room) (answer : Answer) (front : ℕ) → answer ≡ Made → Tells (sync to path.folder path.file) t (Ok answer) after → slice_get t.rooms to ≡ Some room → front ≤ length (bytes_of (file_at room path)) → KeepsFront after to path front
synced_so to path t after room answer front is tells there within =
    let c = (sync_told to path t (Ok answer) after tells).done (ap (λ x. Ok x) is) in
    let same : c.room ≡ room = some_room c.room room (slice_get t.rooms to) c.has_room there in
    let old : file_at room path ≡ Some c.old = ap (λ r. file_at r path) (sym same) ∙ c.there in
    let long : front ≤ length c.old = omega (arith, within, ap (λ o. length (bytes_of o)) old) in
    record {
      room = c.new;
      bytes = c.old;
      has_room = ap (λ (x : Tree). slice_get x.rooms to) c.gives ∙ changed_room t to c.room c.new c.has_room;
      there = c.now;
      long = long;
      kept = omega (arith, long, c.kept);
    }

pub synced_there : (to : ℕ) (path of : Path) (t after : Tree) (room : Room) (told : Told) (x : Unit {0}) (front : ℕ) → Tells (sync to path.folder path.file) t told after → told_well of made_now told ≡ Ok x → slice_get t.rooms to ≡ Some room → front ≤ length (bytes_of (file_at room path)) → KeepsFront after to path front
synced_there to path of t after room (Ok answer) x front tells good there within = synced_so to path t after room answer front (now_made answer (undamaged of (made_now answer) x good)) tells there within
synced_there to path of t after room (Err Fault) x front tells good there within = absurd (cc)
synced_there to path of t after room (Err NoMemory) x front tells good there within = absurd (cc)

-- a Read of a part that told well gave all of it
whole_good : (log : Path) (at len : ℕ) (b bytes : List ℕ) → whole_part log at len b ≡ Ok bytes → (b ≡ bytes) × (len ≤ length bytes)
whole_good log at len b bytes good = elim (cases_Bool (nat_lt (length b) len)) as (λ _. (b ≡ bytes) × (len ≤ length bytes)) [
  | inl short ↦ let clash : ◌≡◌ {A = Result (List ℕ) DrainStuck} (Err (Source (damage log (at + length b)))) (Ok bytes) = sym (cond-true (nat_lt (length b) len) (Err (Source (damage log (at + length b)))) (Ok b) short) ∙ good in absurd (cc)
  | inr full ↦
      let same : ◌≡◌ {A = Result (List ℕ) DrainStuck} (Ok b) (Ok bytes) = sym (cond-false (nat_lt (length b) len) (Err (Source (damage log (at + length b)))) (Ok b) full) ∙ good in
      let is : b ≡ bytes = cc in
      (is, subst (λ x. len ≤ length x) is (grind (arith, nat_tests, full)))
]

pub part_good : (log : Path) (at len : ℕ) (reply : Reply) (bytes : List ℕ) → part_told log at len reply ≡ Ok bytes → (reply ≡ Looked (Bytes bytes)) × (len ≤ length bytes)
part_good log at len (Looked (Bytes b)) bytes good = let w = whole_good log at len b bytes good in (ap (λ x. Looked (Bytes x)) w.0, w.1)
part_good log at len reply bytes good = absurd (cc)
