-- Each answer to a look comes exactly where what it says is so.
use Rattle.std.proofs.Common.{◌≡◌, ℕ, true, List, length, take, drop, slice_get, Some, refl, ap, sym, ◌∙◌}
use Rattle.plfs_types.specs.declared.names.Path.{Path}
use Rattle.store_api.specs.declared.tree.File.{File}
use Rattle.store_api.specs.declared.tree.Room.{Room}
use Rattle.store_api.specs.declared.tree.Tree.{Tree}
use Rattle.store_api.specs.declared.step.Answer.{Answer}
use Rattle.store_api.specs.declared.step.Answer.TheVariants.{Absent, NoRoom, NoFolder, Names, Number, Bytes}
use Rattle.store_api.specs.Step.{Name, list_folder, length_of, read_at}
use Rattle.store_api.specs.Room.{stays, has_folder, listing, in_file}
use Rattle.store_api.specs.Effect.{effect, in_room, or_no_room}
use Rattle.store_laws.specs.There.{LacksRoom, LacksFolder, HoldsFile, LacksFile}
use Rattle.store_laws.proofs.Steps.Rooms.{file_at_found, file_at_none}
use Rattle.store_laws.proofs.Steps.Entering.{file_cases}

-- a step on a file that tells something of it where it is there
abbrev asked : Tree → ℕ → Path → (File → Answer) → Answer
asked tree n path tell = (in_room tree n (λ r. in_file r path.folder path.file (λ place file. stays r (tell file)))).answer

in_its_room : (tree : Tree) (n : ℕ) (path : Path) (tell : File → Answer) (room : Room) → slice_get tree.rooms n ≡ Some room → asked tree n path tell ≡ (in_file room path.folder path.file (λ place file. stays room (tell file))).answer
in_its_room tree n path tell room e = ap (λ found. (or_no_room tree n (λ r. in_file r path.folder path.file (λ place file. stays r (tell file))) found).answer) e

no_room : (tree : Tree) (n : ℕ) (path : Path) (tell : File → Answer) → LacksRoom tree n → asked tree n path tell ≡ NoRoom
no_room tree n path tell e = ap (λ found. (or_no_room tree n (λ r. in_file r path.folder path.file (λ place file. stays r (tell file))) found).answer) e

no_folder : (tree : Tree) (n : ℕ) (path : Path) (tell : File → Answer) → LacksFolder tree n path.folder → asked tree n path tell ≡ NoFolder
no_folder tree n path tell lacks = in_its_room tree n path tell lacks.room lacks.has_room ∙ rw (lacks.none) refl

no_file : (tree : Tree) (n : ℕ) (path : Path) (tell : File → Answer) → LacksFile tree n path → asked tree n path tell ≡ Absent
no_file tree n path tell lacks =
    in_its_room tree n path tell lacks.room lacks.has_room
    ∙ file_cases lacks.room path (λ place file. stays lacks.room (tell file)) (λ out. out.answer ≡ Absent)
    (λ none. let there = lacks.folder in absurd (cc))
    (λ there none. refl)
    (λ place file there f. let some = file_at_found lacks.room path file f.found in let none = lacks.none in absurd (cc))

there : (tree : Tree) (n : ℕ) (path : Path) (tell : File → Answer) (say : List ℕ → Answer) → ((file : File) → tell file ≡ say file.bytes) → (held : HoldsFile tree n path) → asked tree n path tell ≡ say held.bytes
there tree n path tell say is held =
    in_its_room tree n path tell held.room held.has_room
    ∙ file_cases held.room path (λ place file. stays held.room (tell file)) (λ out. out.answer ≡ say held.bytes)
    (λ none. let has = held.folder in absurd (cc))
    (λ has none. let lost = file_at_none held.room path none in let some = held.there in absurd (cc))
    (λ place file has f.
    let some : Some file.bytes ≡ Some held.bytes = sym (file_at_found held.room path file f.found) ∙ held.there in
    let same : file.bytes ≡ held.bytes = cc in
    is file ∙ ap say same)

-- ---- lengths

pub length_no_room : (tree : Tree) (n : ℕ) (path : Path) → LacksRoom tree n → (effect tree (length_of n path.folder path.file)).answer ≡ NoRoom
length_no_room tree n path lacks = no_room tree n path (λ file. Number (length file.bytes)) lacks

pub length_no_folder : (tree : Tree) (n : ℕ) (path : Path) → LacksFolder tree n path.folder → (effect tree (length_of n path.folder path.file)).answer ≡ NoFolder
length_no_folder tree n path lacks = no_folder tree n path (λ file. Number (length file.bytes)) lacks

pub length_absent : (tree : Tree) (n : ℕ) (path : Path) → LacksFile tree n path → (effect tree (length_of n path.folder path.file)).answer ≡ Absent
length_absent tree n path lacks = no_file tree n path (λ file. Number (length file.bytes)) lacks

pub length_there : (tree : Tree) (n : ℕ) (path : Path) (held : HoldsFile tree n path) → (effect tree (length_of n path.folder path.file)).answer ≡ Number (length held.bytes)
length_there tree n path held = there tree n path (λ file. Number (length file.bytes)) (λ bytes. Number (length bytes)) (λ file. refl) held

-- ---- bytes

pub read_no_room : (tree : Tree) (n : ℕ) (path : Path) (at len : ℕ) → LacksRoom tree n → (effect tree (read_at n path.folder path.file at len)).answer ≡ NoRoom
read_no_room tree n path at len lacks = no_room tree n path (λ file. Bytes (take len (drop at file.bytes))) lacks

pub read_no_folder : (tree : Tree) (n : ℕ) (path : Path) (at len : ℕ) → LacksFolder tree n path.folder → (effect tree (read_at n path.folder path.file at len)).answer ≡ NoFolder
read_no_folder tree n path at len lacks = no_folder tree n path (λ file. Bytes (take len (drop at file.bytes))) lacks

pub read_absent : (tree : Tree) (n : ℕ) (path : Path) (at len : ℕ) → LacksFile tree n path → (effect tree (read_at n path.folder path.file at len)).answer ≡ Absent
read_absent tree n path at len lacks = no_file tree n path (λ file. Bytes (take len (drop at file.bytes))) lacks

pub read_there : (tree : Tree) (n : ℕ) (path : Path) (at len : ℕ) (held : HoldsFile tree n path) → (effect tree (read_at n path.folder path.file at len)).answer ≡ Bytes (take len (drop at held.bytes))
read_there tree n path at len held = there tree n path (λ file. Bytes (take len (drop at file.bytes))) (λ bytes. Bytes (take len (drop at bytes))) (λ file. refl) held

-- ---- names

pub list_no_room : (tree : Tree) (n : ℕ) (folder : Name) → LacksRoom tree n → (effect tree (list_folder n folder)).answer ≡ NoRoom
list_no_room tree n folder e = rw e refl

pub list_no_folder : (tree : Tree) (n : ℕ) (folder : Name) → LacksFolder tree n folder → (effect tree (list_folder n folder)).answer ≡ NoFolder
list_no_folder tree n folder lacks = rw (lacks.has_room, lacks.none) refl

pub list_there : (tree : Tree) (n : ℕ) (folder : Name) (room : Room) → slice_get tree.rooms n ≡ Some room → has_folder room folder ≡ true → (effect tree (list_folder n folder)).answer ≡ Names (listing room folder)
list_there tree n folder room e has = rw (e, has) refl
