-- Calls on containers show no damage in a sound mount.
use Rattle.std.proofs.Common.{◌≡◌, ◌≤◌, ℕ, List, [], length, take, drop, Some, true, nat_le, refl, ap, sym, subst, arith}
use Rattle.std.specs.Prelude.{Ok, Err}
use Rattle.std.proofs.lemmas.Bool.Decides.{nat_tests}
use Rattle.std.proofs.lemmas.List.{length-take}
use Rattle.plfs_types.specs.declared.names.Path.{Path}
use Rattle.store_api.specs.declared.step.Answer.{Answer}
use Rattle.store_api.specs.declared.step.Answer.TheVariants.{Old, Absent, NoRoom, NoFolder, Names, Number, Bytes}
use Rattle.store_api.specs.declared.store.Trouble.TheVariants.{Fault, NoMemory}
use Rattle.store_api.specs.declared.tree.Tree.{Tree}
use Rattle.store_api.specs.Step.{find_room, make_room, rooms as all_rooms, list_folder, length_of, read_at}
use Rattle.store_laws.specs.Says.{WhyNoRoomMade, RoomsTell, FindTells, ListTells, LengthTells, ReadTells}
use Rattle.store_laws.specs.Tells.{Tells}
use Rattle.store_laws.proofs.Facts.{rooms_tell, find_tells, list_tells, length_tells, read_tells, look_answered, acts_told, make_room_told}
use Rattle.mount_model.specs.declared.call.Look.{Look}
use Rattle.mount_model.specs.declared.call.Look.TheVariants.{Top, List as ListFolder, Length, Read}
use Rattle.mount_model.specs.declared.reply.Reply.{Reply}
use Rattle.mount_model.specs.Finding.{find_outcome, Finds, make_outcome, MakesContainer, RoomsReply, NamesRooms}
use Rattle.mount_model.specs.Looking.{look_step, listing_reply, length_reply, read_reply, look_reply, look_outcome, LooksAt}
use Rattle.mount_model.specs.Making.{Told, MakesAct, room_check}
use Rattle.mount_model.specs.Paths.{Name, new_folders, new_files}
use Rattle.mount_model.specs.State.{State, Table}
use Rattle.mount_undamaged.specs.Damage.{ShowsNoDamage}
use Rattle.mount_undamaged.proofs.Acting.{makes_show, check_shows}

-- ---- finding and making

find_reply : (tree : Tree) (name : Name) (table : Table) (told : Told) → ((answer : Answer) → told ≡ Ok answer → FindTells tree name answer) → ShowsNoDamage (find_outcome table told).reply
find_reply tree name table (Ok (Number room)) says = tt
find_reply tree name table (Ok Absent) says = tt
find_reply tree name table (Err Fault) says = tt
find_reply tree name table (Err NoMemory) says = tt
find_reply tree name table (Ok answer) says = absurd (says answer refl)

pub find_shows : (old : State) (name : Name) (reply : Reply) (new : State) (tree : Tree) → old.store.tree ≡ Some tree → Finds name old reply new → ShowsNoDamage reply
find_shows old name reply new tree e f =
    makes_show (find_room name) (find_outcome old.table) old reply new tree e
    (λ told after t. find_reply tree name old.table told (λ answer is. (look_answered (find_room name) tree (FindTells tree name) (find_tells tree name) answer after (subst (λ x. Tells (find_room name) tree x after) is t)).1))
    f.makes

make_reply : (tree : Tree) (name : Name) (table : Table) (told : Told) → ((answer : Answer) → told ≡ Ok answer → ((n : ℕ) → answer ≡ Number n → ⊥) → WhyNoRoomMade tree name answer) → ShowsNoDamage (make_outcome table told).reply
make_reply tree name table (Ok (Number room)) why = tt
make_reply tree name table (Ok (Old room)) why = tt
make_reply tree name table (Err Fault) why = tt
make_reply tree name table (Err NoMemory) why = tt
make_reply tree name table (Ok answer) why = absurd (why answer refl (λ n e. cc))

pub make_shows : (old : State) (name : Name) (reply : Reply) (new : State) (tree : Tree) → old.store.tree ≡ Some tree → MakesContainer name old reply new → ShowsNoDamage reply
make_shows old name reply new tree e f =
    makes_show (make_room name new_folders new_files) (make_outcome old.table) old reply new tree e
    (λ told after t. make_reply tree name old.table told (λ answer is other. ((make_room_told name new_folders new_files tree told after t).stays answer is (other (length tree.rooms))).1))
    f.makes

rooms_reply : (tree : Tree) (told : Told) (reply : Reply) → ((answer : Answer) → told ≡ Ok answer → RoomsTell tree answer) → RoomsReply told reply → ShowsNoDamage reply
rooms_reply tree (Ok (Names names)) reply says r = subst ShowsNoDamage (sym r.1) tt
rooms_reply tree (Err Fault) reply says r = subst ShowsNoDamage (sym r) tt
rooms_reply tree (Err NoMemory) reply says r = subst ShowsNoDamage (sym r) tt
rooms_reply tree (Ok answer) reply says r = absurd (says answer refl)

pub rooms_show : (old : State) (reply : Reply) (new : State) (tree : Tree) → old.store.tree ≡ Some tree → NamesRooms old reply new → ShowsNoDamage reply
rooms_show old reply new tree e f =
    let t = acts_told all_rooms old.store new.store tree f.told e f.made in
    rooms_reply tree f.told reply (λ answer is. (look_answered all_rooms tree (RoomsTell tree) (rooms_tell tree) answer t.0 (subst (λ x. Tells all_rooms tree x t.0) is t.2)).1) f.answered

-- ---- looking

list_reply : (tree : Tree) (n : ℕ) (folder : Name) (told : Told) → ((answer : Answer) → told ≡ Ok answer → ListTells tree n folder answer) → ShowsNoDamage (listing_reply folder told)
list_reply tree n folder (Ok (Names names)) says = tt
list_reply tree n folder (Ok NoFolder) says = tt
list_reply tree n folder (Ok NoRoom) says = tt
list_reply tree n folder (Err Fault) says = tt
list_reply tree n folder (Err NoMemory) says = tt
list_reply tree n folder (Ok answer) says = absurd (says answer refl)

len_reply : (tree : Tree) (n : ℕ) (path : Path) (told : Told) → ((answer : Answer) → told ≡ Ok answer → LengthTells tree n path answer) → ShowsNoDamage (length_reply path told)
len_reply tree n path (Ok (Number value)) says = tt
len_reply tree n path (Ok NoFolder) says = tt
len_reply tree n path (Ok Absent) says = tt
len_reply tree n path (Ok NoRoom) says = tt
len_reply tree n path (Err Fault) says = tt
len_reply tree n path (Err NoMemory) says = tt
len_reply tree n path (Ok answer) says = absurd (says answer refl)

within : (a b : ℕ) → a ≤ b → nat_le a b ≡ true
within a b l = grind (arith, nat_tests)

few : (bytes rest : List ℕ) (len : ℕ) → bytes ≡ take len rest → length bytes ≤ len
few bytes rest len e = omega (arith, ap length e, length-take len rest)

bytes_reply : (tree : Tree) (n : ℕ) (path : Path) (at len : ℕ) (told : Told) → ((answer : Answer) → told ≡ Ok answer → ReadTells tree n path at len answer) → ShowsNoDamage (read_reply path len told)
bytes_reply tree n path at len (Ok (Bytes bytes)) says =
    let r = says (Bytes bytes) refl in
    rw (within (length bytes) len (few bytes (drop at r.0.bytes) len r.1)) tt
bytes_reply tree n path at len (Ok NoFolder) says = tt
bytes_reply tree n path at len (Ok Absent) says = tt
bytes_reply tree n path at len (Ok NoRoom) says = tt
bytes_reply tree n path at len (Err Fault) says = tt
bytes_reply tree n path at len (Err NoMemory) says = tt
bytes_reply tree n path at len (Ok answer) says = absurd (says answer refl)

looked : (room : ℕ) (l : Look) (tree : Tree) (told : Told) (after : Tree) → Tells (look_step room l) tree told after → ShowsNoDamage (look_reply l told)
looked room Top tree told after t = list_reply tree room [] told (λ answer is. (look_answered (list_folder room []) tree (ListTells tree room []) (list_tells tree room []) answer after (subst (λ x. Tells (list_folder room []) tree x after) is t)).1)
looked room (ListFolder folder) tree told after t = list_reply tree room folder told (λ answer is. (look_answered (list_folder room folder) tree (ListTells tree room folder) (list_tells tree room folder) answer after (subst (λ x. Tells (list_folder room folder) tree x after) is t)).1)
looked room (Length path) tree told after t = len_reply tree room path told (λ answer is. (look_answered (length_of room path.folder path.file) tree (LengthTells tree room path) (length_tells tree room path) answer after (subst (λ x. Tells (length_of room path.folder path.file) tree x after) is t)).1)
looked room (Read path at len) tree told after t = bytes_reply tree room path at len told (λ answer is. (look_answered (read_at room path.folder path.file at len) tree (ReadTells tree room path at len) (read_tells tree room path at len) answer after (subst (λ x. Tells (read_at room path.folder path.file at len) tree x after) is t)).1)

pub look_shows : (old : State) (room : ℕ) (l : Look) (reply : Reply) (new : State) (tree : Tree) → old.store.tree ≡ Some tree → LooksAt room l old reply new → ShowsNoDamage reply
look_shows old room l reply new tree e f =
    check_shows (room_check old room) old reply new (MakesAct (look_step room l) (look_outcome l old) old reply new) f
    (λ none makes. makes_show (look_step room l) (look_outcome l old) old reply new tree e (λ told after t. looked room l tree told after t) makes)
