-- What an answer to a look tells of a tree of which all is kept.
use Rattle.std.proofs.Common.{◌≡◌, ℕ, ◌≤◌, inl, inr, true, ◌||◌, List, [], ◌∷◌, Option, Some, None, Result, Ok, Err, refl, ap, sym, ◌∙◌, subst, arith}
use Rattle.std.specs.Prelude.{IfOk, IfErr, slice_get, map, option_map}
use Rattle.std.specs.List.{list_any}
use Rattle.std.proofs.lemmas.Option.{slice_get-map}
use Rattle.plfs_types.specs.declared.names.Path.{Path}
use Rattle.store_api.specs.declared.tree.Room.{Room}
use Rattle.store_api.specs.declared.tree.Tree.{Tree}
use Rattle.store_api.specs.declared.step.Answer.{Answer}
use Rattle.store_api.specs.declared.step.Answer.TheVariants.{Made, Old, Absent, NoRoom, NoFolder, NotEmpty, TargetThere, Names, Number, Bytes, Beyond}
use Rattle.store_api.specs.declared.store.Trouble.{Trouble}
use Rattle.store_api.specs.declared.store.Trouble.TheVariants as trouble
use Rattle.store_api.specs.Acts.{Stored, Acts, Goes}
use Rattle.store_api.specs.Effect.{effect}
use Rattle.store_api.specs.Leaves.{MayLeave}
use Rattle.store_api.specs.AllKept.{all_kept, room_kept}
use Rattle.store_api.specs.Names.{same_name}
use Rattle.store_api.specs.Room.{has_folder}
use Rattle.store_api.specs.Step.{Step, Name, rooms, find_room, list_folder, length_of, read_at}
use Rattle.store_laws.specs.Files.{file_at}
use Rattle.store_laws.specs.Outcomes.{IsLook, Looks}
use Rattle.store_laws.specs.Says.{AreRoomNames, RoomsTell, FindTells, ListTells, LengthTells, ReadTells}
use Rattle.store_laws.proofs.Facts.{acts_told, look_answered, look_told, rooms_tell, find_tells, list_tells, length_tells, read_tells}
use Rattle.shape_check.specs.declared.finding.Finding.{Finding}
use Rattle.shape_check.specs.declared.finding.Finding.TheVariants.{Broken, Fault, NoMemory, Untold}
use Rattle.shape_check.specs.Rightness.{Fails, NoAnswer}
use Rattle.shape_check.specs.Seeing.{IsSeen, IsLookedAt, HasRoom, IsOrderlyFile, IsAny}
use Rattle.shape_check.specs.Told.{TellsFolder, TellsLength, TellsBytes, FolderAnswer, LengthAnswer, BytesAnswer, TellsRoom, names_of, length_in, bytes_in, rooms_in, number_in}
use Rattle.shape_check.proofs.Seen.{file_kept_so, entry_kept, told_room}

goes_untold : (moves : Tree → Tree → Type 0) (old new : Option Tree) → old ≡ None → Goes moves old new → new ≡ None
goes_untold moves None new e g = g
goes_untold moves (Some t) new e g = absurd (cc)

tree_stays : (step : Step) (old new : Stored) (told : Result Answer Trouble) (found : Option Tree) → IsLook step → Acts step old new told → old.tree ≡ found → new.tree ≡ old.tree
tree_stays step old new (Ok answer) None look a e = goes_untold (λ before after. effect before step ≡ record { tree = after; answer = answer }) old.tree new.tree e a.tree ∙ sym e
tree_stays step old new (Err trouble.Fault) None look a e = goes_untold (λ before after. MayLeave before step after) old.tree new.tree e a.tree ∙ sym e
tree_stays step old new (Err trouble.NoMemory) None look a e = ap (λ (s : Stored). s.tree) a
tree_stays step old new told (Some tree) look a e =
    let goes = acts_told step old new tree told e a in
    goes.1 ∙ ap Some (look_told step tree told goes.0 look goes.2) ∙ sym e

counted : (step : Step) (old new : Stored) (told : Result Answer Trouble) → Acts step old new told → old.faults ≤ new.faults
counted step old new (Ok answer) a = omega (arith, a.faults)
counted step old new (Err trouble.Fault) a = a.faults
counted step old new (Err trouble.NoMemory) a = omega (arith, ap (λ (s : Stored). s.faults) a)

-- a look leaves the tree, whatever is told
pub looked : (step : Step) (old new : Stored) (told : Result Answer Trouble) → IsLook step → Acts step old new told → IsLookedAt old new
looked step old new told look a = record { same = tree_stays step old new told old.tree look a refl; counted = counted step old new told a }

-- the answer tells of the tree that the store tells
answered : (step : Step) (old new : Stored) (answer : Answer) (says : Answer → Type 0) (tree : Tree) → old.tree ≡ Some tree → Looks tree says (effect tree step) → Acts step old new (Ok answer) → says answer
answered step old new answer says tree e l a = let goes = acts_told step old new tree (Ok answer) e a in (look_answered step tree says l answer goes.0 goes.2).1

-- ---- of each look

folder_of : (told : Tree) (n : ℕ) (before : Room) (folder : Name) (answer : Answer) → slice_get told.rooms n ≡ Some before → ListTells told n folder answer → FolderAnswer (room_kept before) folder answer
folder_of told n before folder (Names names) there t =
    let same : t.room ≡ before = cc in
    subst (λ (r : Room). FolderAnswer (room_kept r) folder (Names names)) same (
      t.there,
      record {
        exactly = λ name. t.entries.exactly name ∙ sym (entry_kept t.room folder name);
        ordered = t.entries.ordered;
      },
    )
folder_of told n before folder NoRoom there t = absurd (cc)
folder_of told n before folder NoFolder there t =
    let same : t.room ≡ before = cc in
    subst (λ (r : Room). FolderAnswer (room_kept r) folder NoFolder) same t.none
folder_of told n before folder Made there t = absurd t
folder_of told n before folder (Old number) there t = absurd t
folder_of told n before folder Absent there t = absurd t
folder_of told n before folder (NotEmpty least) there t = absurd t
folder_of told n before folder TargetThere there t = absurd t
folder_of told n before folder (Number value) there t = absurd t
folder_of told n before folder (Bytes bytes) there t = absurd t
folder_of told n before folder Beyond there t = absurd t

pub folder_told : (old new : Stored) (n : ℕ) (folder : Name) (answer : Answer) → Acts (list_folder n folder) old new (Ok answer) → (tree : Tree) (room : Room) → IsSeen old tree → slice_get tree.rooms n ≡ Some room → FolderAnswer room folder answer
folder_told old new n folder answer a tree room s there =
    let before = told_room s.told tree n room s.kept there in
    subst (λ (r : Room). FolderAnswer r folder answer) (sym before.2)
    (folder_of s.told n before.0 folder answer before.1 (answered (list_folder n folder) old new answer (ListTells s.told n folder) s.told s.tells (list_tells s.told n folder) a))

file_kept_told : (before : Room) (path : Path) (found : Option (List ℕ)) → file_at before path ≡ found → file_at (room_kept before) path ≡ found
file_kept_told before path found e = file_kept_so before path ∙ e

length_of_file : (told : Tree) (n : ℕ) (before : Room) (path : Path) (answer : Answer) → slice_get told.rooms n ≡ Some before → LengthTells told n path answer → LengthAnswer (room_kept before) path answer
length_of_file told n before path (Number len) there t =
    let same : t.0.room ≡ before = cc in
    subst (λ (r : Room). LengthAnswer (room_kept r) path (Number len)) same (t.0.bytes, file_kept_told t.0.room path (Some t.0.bytes) t.0.there, t.1)
length_of_file told n before path NoRoom there t = absurd (cc)
length_of_file told n before path NoFolder there t =
    let same : t.room ≡ before = cc in
    subst (λ (r : Room). LengthAnswer (room_kept r) path NoFolder) same (inl t.none)
length_of_file told n before path Absent there t =
    let same : t.room ≡ before = cc in
    subst (λ (r : Room). LengthAnswer (room_kept r) path Absent) same (inr (file_kept_told t.room path None t.none))
length_of_file told n before path Made there t = absurd t
length_of_file told n before path (Old number) there t = absurd t
length_of_file told n before path (NotEmpty least) there t = absurd t
length_of_file told n before path TargetThere there t = absurd t
length_of_file told n before path (Names names) there t = absurd t
length_of_file told n before path (Bytes bytes) there t = absurd t
length_of_file told n before path Beyond there t = absurd t

pub length_told : (old new : Stored) (n : ℕ) (path : Path) (answer : Answer) → Acts (length_of n path.folder path.file) old new (Ok answer) → (tree : Tree) (room : Room) → IsSeen old tree → slice_get tree.rooms n ≡ Some room → LengthAnswer room path answer
length_told old new n path answer a tree room s there =
    let before = told_room s.told tree n room s.kept there in
    subst (λ (r : Room). LengthAnswer r path answer) (sym before.2)
    (length_of_file s.told n before.0 path answer before.1 (answered (length_of n path.folder path.file) old new answer (LengthTells s.told n path) s.told s.tells (length_tells s.told n path) a))

-- ---- why a look gave nothing

pub no_answer : (P : Tree → Type 0) (old new : Stored) (finding : Finding) → NoAnswer old new finding → Fails P old new finding
no_answer P old new (Broken complaint) n = absurd n
no_answer P old new Fault n = record { cause = λ e. n; right = λ tree seen has. tt }
no_answer P old new NoMemory n = record { cause = λ e. absurd (cc); right = λ tree seen has. tt }
no_answer P old new Untold n = absurd n

-- an answer that no tree gives comes of no tree
pub untold : (P : Tree → Type 0) (old new : Stored) → ((tree : Tree) → IsSeen old tree → P tree → ⊥) → Fails P old new Untold
untold P old new none = record { cause = λ e. absurd (cc); right = none }

-- ---- each look as its function has it

pub folder_ok : (old new : Stored) (n : ℕ) (folder : Name) (answer : Answer) → Acts (list_folder n folder) old new (Ok answer) → IfOk (names_of answer) (λ found. (tree : Tree) (room : Room) → IsSeen old tree → slice_get tree.rooms n ≡ Some room → TellsFolder room folder found)
folder_ok old new n folder Made a = tt
folder_ok old new n folder (Old number) a = tt
folder_ok old new n folder Absent a = tt
folder_ok old new n folder NoRoom a = tt
folder_ok old new n folder NoFolder a = folder_told old new n folder NoFolder a
folder_ok old new n folder (NotEmpty least) a = tt
folder_ok old new n folder TargetThere a = tt
folder_ok old new n folder (Names names) a = folder_told old new n folder (Names names) a
folder_ok old new n folder (Number value) a = tt
folder_ok old new n folder (Bytes bytes) a = tt
folder_ok old new n folder Beyond a = tt

pub folder_err : (old new : Stored) (n : ℕ) (folder : Name) (answer : Answer) → Acts (list_folder n folder) old new (Ok answer) → IfErr (names_of answer) (Fails (HasRoom n) old new)
folder_err old new n folder Made a = untold (HasRoom n) old new (λ tree seen has. folder_told old new n folder Made a tree has.0 seen has.1)
folder_err old new n folder (Old number) a = untold (HasRoom n) old new (λ tree seen has. folder_told old new n folder (Old number) a tree has.0 seen has.1)
folder_err old new n folder Absent a = untold (HasRoom n) old new (λ tree seen has. folder_told old new n folder Absent a tree has.0 seen has.1)
folder_err old new n folder NoRoom a = untold (HasRoom n) old new (λ tree seen has. folder_told old new n folder NoRoom a tree has.0 seen has.1)
folder_err old new n folder NoFolder a = tt
folder_err old new n folder (NotEmpty least) a = untold (HasRoom n) old new (λ tree seen has. folder_told old new n folder (NotEmpty least) a tree has.0 seen has.1)
folder_err old new n folder TargetThere a = untold (HasRoom n) old new (λ tree seen has. folder_told old new n folder TargetThere a tree has.0 seen has.1)
folder_err old new n folder (Names names) a = tt
folder_err old new n folder (Number value) a = untold (HasRoom n) old new (λ tree seen has. folder_told old new n folder (Number value) a tree has.0 seen has.1)
folder_err old new n folder (Bytes bytes) a = untold (HasRoom n) old new (λ tree seen has. folder_told old new n folder (Bytes bytes) a tree has.0 seen has.1)
folder_err old new n folder Beyond a = untold (HasRoom n) old new (λ tree seen has. folder_told old new n folder Beyond a tree has.0 seen has.1)

pub length_ok : (old new : Stored) (n : ℕ) (path : Path) (answer : Answer) → Acts (length_of n path.folder path.file) old new (Ok answer) → IfOk (length_in answer) (λ found. (tree : Tree) (room : Room) → IsSeen old tree → slice_get tree.rooms n ≡ Some room → TellsLength room path found)
length_ok old new n path Made a = tt
length_ok old new n path (Old number) a = tt
length_ok old new n path Absent a = length_told old new n path Absent a
length_ok old new n path NoRoom a = tt
length_ok old new n path NoFolder a = length_told old new n path NoFolder a
length_ok old new n path (NotEmpty least) a = tt
length_ok old new n path TargetThere a = tt
length_ok old new n path (Names names) a = tt
length_ok old new n path (Number value) a = length_told old new n path (Number value) a
length_ok old new n path (Bytes bytes) a = tt
length_ok old new n path Beyond a = tt

pub length_err : (old new : Stored) (n : ℕ) (path : Path) (answer : Answer) → Acts (length_of n path.folder path.file) old new (Ok answer) → IfErr (length_in answer) (Fails (HasRoom n) old new)
length_err old new n path Made a = untold (HasRoom n) old new (λ tree seen has. length_told old new n path Made a tree has.0 seen has.1)
length_err old new n path (Old number) a = untold (HasRoom n) old new (λ tree seen has. length_told old new n path (Old number) a tree has.0 seen has.1)
length_err old new n path Absent a = tt
length_err old new n path NoRoom a = untold (HasRoom n) old new (λ tree seen has. length_told old new n path NoRoom a tree has.0 seen has.1)
length_err old new n path NoFolder a = tt
length_err old new n path (NotEmpty least) a = untold (HasRoom n) old new (λ tree seen has. length_told old new n path (NotEmpty least) a tree has.0 seen has.1)
length_err old new n path TargetThere a = untold (HasRoom n) old new (λ tree seen has. length_told old new n path TargetThere a tree has.0 seen has.1)
length_err old new n path (Names names) a = untold (HasRoom n) old new (λ tree seen has. length_told old new n path (Names names) a tree has.0 seen has.1)
length_err old new n path (Number value) a = tt
length_err old new n path (Bytes bytes) a = untold (HasRoom n) old new (λ tree seen has. length_told old new n path (Bytes bytes) a tree has.0 seen has.1)
length_err old new n path Beyond a = untold (HasRoom n) old new (λ tree seen has. length_told old new n path Beyond a tree has.0 seen has.1)

-- ---- bytes

bytes_of_file : (told : Tree) (n : ℕ) (before : Room) (path : Path) (at len : ℕ) (answer : Answer) → slice_get told.rooms n ≡ Some before → ReadTells told n path at len answer → BytesAnswer (room_kept before) path at len answer
bytes_of_file told n before path at len (Bytes bytes) there t =
    let same : t.0.room ≡ before = cc in
    subst (λ (r : Room). BytesAnswer (room_kept r) path at len (Bytes bytes)) same (t.0.bytes, file_kept_told t.0.room path (Some t.0.bytes) t.0.there, t.1)
bytes_of_file told n before path at len NoRoom there t = absurd (cc)
bytes_of_file told n before path at len NoFolder there t =
    let same : t.room ≡ before = cc in
    subst (λ (r : Room). BytesAnswer (room_kept r) path at len NoFolder) same (inl t.none)
bytes_of_file told n before path at len Absent there t =
    let same : t.room ≡ before = cc in
    subst (λ (r : Room). BytesAnswer (room_kept r) path at len Absent) same (inr (file_kept_told t.room path None t.none))
bytes_of_file told n before path at len Made there t = absurd t
bytes_of_file told n before path at len (Old number) there t = absurd t
bytes_of_file told n before path at len (NotEmpty least) there t = absurd t
bytes_of_file told n before path at len TargetThere there t = absurd t
bytes_of_file told n before path at len (Names names) there t = absurd t
bytes_of_file told n before path at len (Number value) there t = absurd t
bytes_of_file told n before path at len Beyond there t = absurd t

bytes_told : (old new : Stored) (n : ℕ) (path : Path) (at len : ℕ) (answer : Answer) → Acts (read_at n path.folder path.file at len) old new (Ok answer) → (tree : Tree) (room : Room) → IsSeen old tree → slice_get tree.rooms n ≡ Some room → BytesAnswer room path at len answer
bytes_told old new n path at len answer a tree room s there =
    let before = told_room s.told tree n room s.kept there in
    subst (λ (r : Room). BytesAnswer r path at len answer) (sym before.2)
    (bytes_of_file s.told n before.0 path at len answer before.1 (answered (read_at n path.folder path.file at len) old new answer (ReadTells s.told n path at len) s.told s.tells (read_tells s.told n path at len) a))

no_bytes : (old new : Stored) (n : ℕ) (path : Path) (at len : ℕ) (answer : Answer) → Acts (read_at n path.folder path.file at len) old new (Ok answer) → ((room : Room) → BytesAnswer room path at len answer → TellsLength room path None) → Fails (IsOrderlyFile n path) old new Untold
no_bytes old new n path at len answer a gone = untold (IsOrderlyFile n path) old new (λ tree seen has. there_is tree has (gone has.0 (bytes_told old new n path at len answer a tree has.0 seen has.1)))
  where
    there_is : (tree : Tree) (has : IsOrderlyFile n path tree) → TellsLength has.0 path None → ⊥
    there_is tree has (inl none) = let both : has_folder has.0 path.folder ≡ true = has.2 in absurd (cc)
    there_is tree has (inr none) = let some : file_at has.0 path ≡ Some has.3.0 = has.3.1 in absurd (cc)

pub bytes_ok : (old new : Stored) (n : ℕ) (path : Path) (at len : ℕ) (answer : Answer) → Acts (read_at n path.folder path.file at len) old new (Ok answer) → IfOk (bytes_in answer) (λ bytes. (tree : Tree) (room : Room) → IsSeen old tree → slice_get tree.rooms n ≡ Some room → TellsBytes room path at len bytes)
bytes_ok old new n path at len Made a = tt
bytes_ok old new n path at len (Old number) a = tt
bytes_ok old new n path at len Absent a = tt
bytes_ok old new n path at len NoRoom a = tt
bytes_ok old new n path at len NoFolder a = tt
bytes_ok old new n path at len (NotEmpty least) a = tt
bytes_ok old new n path at len TargetThere a = tt
bytes_ok old new n path at len (Names names) a = tt
bytes_ok old new n path at len (Number value) a = tt
bytes_ok old new n path at len (Bytes bytes) a = bytes_told old new n path at len (Bytes bytes) a
bytes_ok old new n path at len Beyond a = tt

pub bytes_err : (old new : Stored) (n : ℕ) (path : Path) (at len : ℕ) (answer : Answer) → Acts (read_at n path.folder path.file at len) old new (Ok answer) → IfErr (bytes_in answer) (Fails (IsOrderlyFile n path) old new)
bytes_err old new n path at len Made a = no_bytes old new n path at len Made a (λ room t. absurd t)
bytes_err old new n path at len (Old number) a = no_bytes old new n path at len (Old number) a (λ room t. absurd t)
bytes_err old new n path at len Absent a = no_bytes old new n path at len Absent a (λ room t. t)
bytes_err old new n path at len NoRoom a = no_bytes old new n path at len NoRoom a (λ room t. absurd t)
bytes_err old new n path at len NoFolder a = no_bytes old new n path at len NoFolder a (λ room t. t)
bytes_err old new n path at len (NotEmpty least) a = no_bytes old new n path at len (NotEmpty least) a (λ room t. absurd t)
bytes_err old new n path at len TargetThere a = no_bytes old new n path at len TargetThere a (λ room t. absurd t)
bytes_err old new n path at len (Names names) a = no_bytes old new n path at len (Names names) a (λ room t. absurd t)
bytes_err old new n path at len (Number value) a = no_bytes old new n path at len (Number value) a (λ room t. absurd t)
bytes_err old new n path at len (Bytes bytes) a = tt
bytes_err old new n path at len Beyond a = no_bytes old new n path at len Beyond a (λ room t. absurd t)

-- ---- rooms

names_kept : (rooms : List Room) (name : Name) → list_any (λ (r : Room). same_name r.name name) (map room_kept rooms) ≡ list_any (λ (r : Room). same_name r.name name) rooms
names_kept [] name = refl
names_kept (r ∷ rs) name = ap (λ b. same_name r.name name || b) (names_kept rs name)

rooms_kept : (told : Tree) (answer : Answer) → RoomsTell told answer → RoomsTell (all_kept told) answer
rooms_kept told (Names names) t = record { exactly = λ name. t.exactly name ∙ sym (names_kept told.rooms name); ordered = t.ordered }
rooms_kept told Made t = absurd t
rooms_kept told (Old number) t = absurd t
rooms_kept told Absent t = absurd t
rooms_kept told NoRoom t = absurd t
rooms_kept told NoFolder t = absurd t
rooms_kept told (NotEmpty least) t = absurd t
rooms_kept told TargetThere t = absurd t
rooms_kept told (Number value) t = absurd t
rooms_kept told (Bytes bytes) t = absurd t
rooms_kept told Beyond t = absurd t

rooms_told : (old new : Stored) (answer : Answer) → Acts rooms old new (Ok answer) → (tree : Tree) → IsSeen old tree → RoomsTell tree answer
rooms_told old new answer a tree s = subst (λ (t : Tree). RoomsTell t answer) (sym s.kept) (rooms_kept s.told answer (answered rooms old new answer (RoomsTell s.told) s.told s.tells (rooms_tell s.told) a))

number_kept : (told : Tree) (name : Name) (answer : Answer) → FindTells told name answer → FindTells (all_kept told) name answer
number_kept told name (Number n) t = record {
  room = room_kept t.room;
  has_room = slice_get-map room_kept told.rooms n ∙ ap (option_map room_kept) t.has_room;
  named = t.named;
  first = λ k other less there named. (let before = told_room told (all_kept told) k other refl there in t.first k before.0 less before.1 (ap (λ (r : Room). r.name) (sym before.2) ∙ named));
}
number_kept told name Absent t = λ n room there named. (let before = told_room told (all_kept told) n room refl there in t n before.0 before.1 (ap (λ (r : Room). r.name) (sym before.2) ∙ named))
number_kept told name Made t = absurd t
number_kept told name (Old number) t = absurd t
number_kept told name NoRoom t = absurd t
number_kept told name NoFolder t = absurd t
number_kept told name (NotEmpty least) t = absurd t
number_kept told name TargetThere t = absurd t
number_kept told name (Names names) t = absurd t
number_kept told name (Bytes bytes) t = absurd t
number_kept told name Beyond t = absurd t

number_told : (old new : Stored) (name : Name) (answer : Answer) → Acts (find_room name) old new (Ok answer) → (tree : Tree) → IsSeen old tree → FindTells tree name answer
number_told old new name answer a tree s = subst (λ (t : Tree). FindTells t name answer) (sym s.kept) (number_kept s.told name answer (answered (find_room name) old new answer (FindTells s.told name) s.told s.tells (find_tells s.told name) a))

pub rooms_ok : (old new : Stored) (answer : Answer) → Acts rooms old new (Ok answer) → IfOk (rooms_in answer) (λ names. (tree : Tree) → IsSeen old tree → AreRoomNames tree names)
rooms_ok old new Made a = tt
rooms_ok old new (Old number) a = tt
rooms_ok old new Absent a = tt
rooms_ok old new NoRoom a = tt
rooms_ok old new NoFolder a = tt
rooms_ok old new (NotEmpty least) a = tt
rooms_ok old new TargetThere a = tt
rooms_ok old new (Names names) a = rooms_told old new (Names names) a
rooms_ok old new (Number value) a = tt
rooms_ok old new (Bytes bytes) a = tt
rooms_ok old new Beyond a = tt

pub rooms_err : (old new : Stored) (answer : Answer) → Acts rooms old new (Ok answer) → IfErr (rooms_in answer) (Fails IsAny old new)
rooms_err old new Made a = untold IsAny old new (λ tree seen any. rooms_told old new Made a tree seen)
rooms_err old new (Old number) a = untold IsAny old new (λ tree seen any. rooms_told old new (Old number) a tree seen)
rooms_err old new Absent a = untold IsAny old new (λ tree seen any. rooms_told old new Absent a tree seen)
rooms_err old new NoRoom a = untold IsAny old new (λ tree seen any. rooms_told old new NoRoom a tree seen)
rooms_err old new NoFolder a = untold IsAny old new (λ tree seen any. rooms_told old new NoFolder a tree seen)
rooms_err old new (NotEmpty least) a = untold IsAny old new (λ tree seen any. rooms_told old new (NotEmpty least) a tree seen)
rooms_err old new TargetThere a = untold IsAny old new (λ tree seen any. rooms_told old new TargetThere a tree seen)
rooms_err old new (Names names) a = tt
rooms_err old new (Number value) a = untold IsAny old new (λ tree seen any. rooms_told old new (Number value) a tree seen)
rooms_err old new (Bytes bytes) a = untold IsAny old new (λ tree seen any. rooms_told old new (Bytes bytes) a tree seen)
rooms_err old new Beyond a = untold IsAny old new (λ tree seen any. rooms_told old new Beyond a tree seen)

pub number_ok : (old new : Stored) (name : Name) (answer : Answer) → Acts (find_room name) old new (Ok answer) → IfOk (number_in answer) (λ found. (tree : Tree) → IsSeen old tree → TellsRoom tree name found)
number_ok old new name Made a = tt
number_ok old new name (Old number) a = tt
number_ok old new name Absent a = number_told old new name Absent a
number_ok old new name NoRoom a = tt
number_ok old new name NoFolder a = tt
number_ok old new name (NotEmpty least) a = tt
number_ok old new name TargetThere a = tt
number_ok old new name (Names names) a = tt
number_ok old new name (Number value) a = number_told old new name (Number value) a
number_ok old new name (Bytes bytes) a = tt
number_ok old new name Beyond a = tt

pub number_err : (old new : Stored) (name : Name) (answer : Answer) → Acts (find_room name) old new (Ok answer) → IfErr (number_in answer) (Fails IsAny old new)
number_err old new name Made a = untold IsAny old new (λ tree seen any. number_told old new name Made a tree seen)
number_err old new name (Old number) a = untold IsAny old new (λ tree seen any. number_told old new name (Old number) a tree seen)
number_err old new name Absent a = tt
number_err old new name NoRoom a = untold IsAny old new (λ tree seen any. number_told old new name NoRoom a tree seen)
number_err old new name NoFolder a = untold IsAny old new (λ tree seen any. number_told old new name NoFolder a tree seen)
number_err old new name (NotEmpty least) a = untold IsAny old new (λ tree seen any. number_told old new name (NotEmpty least) a tree seen)
number_err old new name TargetThere a = untold IsAny old new (λ tree seen any. number_told old new name TargetThere a tree seen)
number_err old new name (Names names) a = untold IsAny old new (λ tree seen any. number_told old new name (Names names) a tree seen)
number_err old new name (Number value) a = tt
number_err old new name (Bytes bytes) a = untold IsAny old new (λ tree seen any. number_told old new name (Bytes bytes) a tree seen)
number_err old new name Beyond a = untold IsAny old new (λ tree seen any. number_told old new name Beyond a tree seen)
