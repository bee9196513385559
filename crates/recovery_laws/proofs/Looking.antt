-- What an answered look at a file says of the room at that moment.
use Rattle.std.proofs.Common.{◌≡◌, ℕ, List, [], length, true, false, take, drop, Some, refl, ap, subst, inl, inr}
use Rattle.std.specs.Prelude.{Ok, Err, if◌then◌else◌, nat_le, slice_get}
use Rattle.plfs_types.specs.declared.names.Path.{Path}
use Rattle.store_api.specs.declared.tree.Room.{Room}
use Rattle.store_api.specs.declared.tree.Tree.{Tree}
use Rattle.store_api.specs.declared.step.Answer.{Answer}
use Rattle.store_api.specs.declared.step.Answer.TheVariants.{Absent, NoFolder, Names, Number, Bytes}
use Rattle.store_api.specs.declared.store.Trouble.TheVariants.{Fault, NoMemory}
use Rattle.store_api.specs.Effect.{effect}
use Rattle.store_laws.specs.Files.{file_at}
use Rattle.store_laws.specs.Outcomes.{Looks}
use Rattle.store_laws.specs.There.{LacksFile, LacksFolder, ListsFolder}
use Rattle.store_laws.specs.Says.{LengthTells, ListTells, ReadTells}
use Rattle.store_laws.specs.Tells.{Tells}
use Rattle.store_laws.proofs.Facts.{acts_told, length_tells, list_tells, look_answered, read_tells}
use Rattle.mount_model.specs.Running.{unbroken}
use Rattle.mount_model.specs.declared.call.Call.TheVariants.{Look}
use Rattle.mount_model.specs.declared.call.Look.{Look as Sight}
use Rattle.mount_model.specs.declared.call.Look.TheVariants.{Length, List as ListFolder, Read}
use Rattle.mount_model.specs.declared.reply.Reply.TheVariants.{Looked, Damaged, Refused}
use Rattle.mount_model.specs.Looking.{look_step, look_outcome, length_reply, listing_reply, read_reply}
use Rattle.mount_model.specs.Paths.{Name}
use Rattle.mount_model.specs.Making.{MakesAct, Refuses, Told, room_check}
use Rattle.mount_model.specs.State.{State}
use Rattle.mount_model.specs.Step.{IsStep}
use Rattle.mount_model.proofs.Facts.{is_container, match_cases}

abbrev Made : ℕ → Sight → State → Answer → State → Type 0
Made room look old answer new = MakesAct (look_step room look) (look_outcome look old) old (Looked answer) new

made : (old : State) (caller room : ℕ) (look : Sight) (answer : Answer) (new : State) → IsStep old caller (unbroken (Look room look)) (Looked answer) new → Made room look old answer new
made old caller room look answer new f = elim (match_cases (room_check old room) (Made room look old answer new) (λ why. Refuses why old (Looked answer) new) f.does) as (λ _. Made room look old answer new) [
  | inl (none, m) ↦ m
  | inr (why, some, r) ↦ absurd (let e : Looked answer ≡ Refused why = r.0 in cc)
]

-- a room that was looked at isn't that of the marks
pub looked_apart : (old : State) (caller room : ℕ) (look : Sight) (answer : Answer) (new : State) → IsStep old caller (unbroken (Look room look)) (Looked answer) new → room ≡ old.marks → ⊥
looked_apart old caller room look answer new f = elim (match_cases (room_check old room) (Made room look old answer new) (λ why. Refuses why old (Looked answer) new) f.does) as (λ _. room ≡ old.marks → ⊥) [
  | inl (none, m) ↦ is_container old room none
  | inr (why, some, r) ↦ absurd (let e : Looked answer ≡ Refused why = r.0 in cc)
]

names_told : (folder : Name) (told : Told) (names : List Name) → Looked (Names names) ≡ listing_reply folder told → told ≡ Ok (Names names)
names_told folder (Ok (Names listed)) names e = let same : listed ≡ names = cc in ap (λ n. Ok (Names n)) same
names_told folder (Ok answer) names e = absurd (cc)
names_told folder (Err Fault) names e = absurd (cc)
names_told folder (Err NoMemory) names e = absurd (cc)

number_told : (path : Path) (told : Told) (value : ℕ) → Looked (Number value) ≡ length_reply path told → told ≡ Ok (Number value)
number_told path (Ok (Number n)) value e = let same : n ≡ value = cc in ap (λ k. Ok (Number k)) same
number_told path (Ok answer) value e = absurd (cc)
number_told path (Err Fault) value e = absurd (cc)
number_told path (Err NoMemory) value e = absurd (cc)

absent_told : (path : Path) (told : Told) → Looked Absent ≡ length_reply path told → told ≡ Ok Absent
absent_told path (Ok (Number n)) e = absurd (cc)
absent_told path (Ok Absent) e = refl
absent_told path (Ok answer) e = absurd (cc)
absent_told path (Err Fault) e = absurd (cc)
absent_told path (Err NoMemory) e = absurd (cc)

folder_told : (path : Path) (told : Told) → Looked NoFolder ≡ length_reply path told → told ≡ Ok NoFolder
folder_told path (Ok NoFolder) e = refl
folder_told path (Ok answer) e = absurd (cc)
folder_told path (Err Fault) e = absurd (cc)
folder_told path (Err NoMemory) e = absurd (cc)

abbrev told_bytes : List ℕ → Told
told_bytes bytes = Ok (Bytes bytes)

bytes_told : (path : Path) (len : ℕ) (told : Told) (bytes : List ℕ) → Looked (Bytes bytes) ≡ read_reply path len told → told ≡ Ok (Bytes bytes)
bytes_told path len (Ok (Bytes read)) bytes e = elim (nat_le (length read) len) as (λ b. Looked (Bytes bytes) ≡ (if b then Looked (Bytes read) else Damaged path.folder path.file) → told_bytes read ≡ told_bytes bytes) [
  | true ↦ λ f. let same : read ≡ bytes = cc in ap told_bytes same
  | false ↦ λ f. absurd (cc)
] e
bytes_told path len (Ok answer) bytes e = absurd (cc)
bytes_told path len (Err Fault) bytes e = absurd (cc)
bytes_told path len (Err NoMemory) bytes e = absurd (cc)

module _ (old : State) (tree : Tree) (told : old.store.tree ≡ Some tree) (caller number : ℕ) (path : Path) where
  -- what an answer to a look says of the tree of its moment
  says_of : (look : Sight) (answer : Answer) (new : State) (says : Answer → Type 0) (l : Made number look old answer new) → l.told ≡ Ok answer → Looks tree says (effect tree (look_step number look)) → says answer
  says_of look answer new says l is looks =
      let t = acts_told (look_step number look) old.store new.store tree l.told told l.made in
      (look_answered (look_step number look) tree says looks answer t.0 (subst (λ o. Tells (look_step number look) tree o t.0) is t.2)).1

  -- A Length that was answered tells the file's length,
  pub length_told : (value : ℕ) (new : State) → IsStep old caller (unbroken (Look number (Length path))) (Looked (Number value)) new → (room : Room) × (bytes : List ℕ) × (slice_get tree.rooms number ≡ Some room) × (file_at room path ≡ Some bytes) × (length bytes ≡ value)
  length_told value new f =
      let l = made old caller number (Length path) (Number value) new f in
      let says = says_of (Length path) (Number value) new (LengthTells tree number path) l (number_told path l.told value l.answered) (length_tells tree number path) in
      (says.0.room, says.0.bytes, says.0.has_room, says.0.there, says.1)

  -- or that it isn't there,
  pub absence_told : (new : State) → IsStep old caller (unbroken (Look number (Length path))) (Looked Absent) new → LacksFile tree number path
  absence_told new f =
      let l = made old caller number (Length path) Absent new f in
      says_of (Length path) Absent new (LengthTells tree number path) l (absent_told path l.told l.answered) (length_tells tree number path)

  -- or that its folder isn't.
  pub no_folder_told : (new : State) → IsStep old caller (unbroken (Look number (Length path))) (Looked NoFolder) new → LacksFolder tree number path.folder
  no_folder_told new f =
      let l = made old caller number (Length path) NoFolder new f in
      says_of (Length path) NoFolder new (LengthTells tree number path) l (folder_told path l.told l.answered) (length_tells tree number path)

  -- A Read tells the file's bytes.
  pub read_told : (at len : ℕ) (bytes : List ℕ) (new : State) → IsStep old caller (unbroken (Look number (Read path at len))) (Looked (Bytes bytes)) new → (room : Room) × (all : List ℕ) × (slice_get tree.rooms number ≡ Some room) × (file_at room path ≡ Some all) × (bytes ≡ take len (drop at all))
  read_told at len bytes new f =
      let l = made old caller number (Read path at len) (Bytes bytes) new f in
      let says = says_of (Read path at len) (Bytes bytes) new (ReadTells tree number path at len) l (bytes_told path len l.told bytes l.answered) (read_tells tree number path at len) in
      (says.0.room, says.0.bytes, says.0.has_room, says.0.there, says.1)

-- A listing of a folder names what stands in it.
pub folder_listed : (old : State) (tree : Tree) (caller number : ℕ) (folder : Name) (names : List Name) (new : State) → old.store.tree ≡ Some tree → IsStep old caller (unbroken (Look number (ListFolder folder))) (Looked (Names names)) new → ListsFolder tree number folder names
folder_listed old tree caller number folder names new told f =
    let l = made old caller number (ListFolder folder) (Names names) new f in
    says_of old tree told caller number (record { folder = folder; file = [] }) (ListFolder folder) (Names names) new (ListTells tree number folder) l (names_told folder l.told names l.answered) (list_tells tree number folder)
