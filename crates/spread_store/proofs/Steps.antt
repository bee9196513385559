-- Steps within a room: what they do there, whatever the room's number is.
use Rattle.std.proofs.Common.{◌≡◌, ℕ, Bool, true, false, List, [], ◌∷◌, Option, Some, None, slice_get, refl, ap, ◌∙◌, if◌then◌else◌, nat_le, length}
use Rattle.store_api.specs.declared.tree.File.{File}
use Rattle.store_api.specs.declared.tree.Room.{Room}
use Rattle.store_api.specs.declared.tree.Tree.{Tree}
use Rattle.store_api.specs.Step.{Step, Name, rooms, find_room, make_room, rename_room, make_folder, remove_folder, list_folder, create, remove, replace, length_of, read_at, write_at, cut, sync as sync_file}
use Rattle.store_api.specs.Names.{same_name}
use Rattle.store_api.specs.Room.{Outcome, has_folder, in_folder, or_absent, at_place, in_file, place_of, removed_if_empty, listing, made_if_absent, without_file, file_named}
use Rattle.store_api.specs.Effect.{effect, in_room}
use Rattle.store_api.specs.Leaves.{with_first}
use Rattle.spread_store.specs.InRoom.{number_in, at_room}
use Rattle.store_api.specs.InRoom.{room_outcome}

pub effect_at : (step : Step) (tree : Tree) (k i : ℕ) → number_in step ≡ Some k → effect tree (at_room i step) ≡ in_room tree i (room_outcome step)
effect_at rooms tree k i e = absurd (cc)
effect_at (find_room name) tree k i e = absurd (cc)
effect_at (make_room name folders files) tree k i e = absurd (cc)
effect_at (rename_room n to) tree k i e = absurd (cc)
effect_at (make_folder n folder) tree k i e = refl
effect_at (remove_folder n folder) tree k i e = refl
effect_at (list_folder n folder) tree k i e = refl
effect_at (create n folder file) tree k i e = refl
effect_at (remove n folder file) tree k i e = refl
effect_at (replace n folder from to) tree k i e = refl
effect_at (length_of n folder file) tree k i e = refl
effect_at (read_at n folder file at len) tree k i e = refl
effect_at (write_at n folder file at bytes) tree k i e = refl
effect_at (cut n folder file len) tree k i e = refl
effect_at (sync_file n folder file) tree k i e = refl

pub at_same : (step : Step) (k : ℕ) → number_in step ≡ Some k → at_room k step ≡ step
at_same rooms k e = refl
at_same (find_room name) k e = refl
at_same (make_room name folders files) k e = refl
at_same (rename_room n to) k e = absurd (cc)
at_same (make_folder n folder) k e = let same : k ≡ n = cc in ap (λ z. make_folder z folder) same
at_same (remove_folder n folder) k e = let same : k ≡ n = cc in ap (λ z. remove_folder z folder) same
at_same (list_folder n folder) k e = let same : k ≡ n = cc in ap (λ z. list_folder z folder) same
at_same (create n folder file) k e = let same : k ≡ n = cc in ap (λ z. create z folder file) same
at_same (remove n folder file) k e = let same : k ≡ n = cc in ap (λ z. remove z folder file) same
at_same (replace n folder from to) k e = let same : k ≡ n = cc in ap (λ z. replace z folder from to) same
at_same (length_of n folder file) k e = let same : k ≡ n = cc in ap (λ z. length_of z folder file) same
at_same (read_at n folder file at len) k e = let same : k ≡ n = cc in ap (λ z. read_at z folder file at len) same
at_same (write_at n folder file at bytes) k e = let same : k ≡ n = cc in ap (λ z. write_at z folder file at bytes) same
at_same (cut n folder file len) k e = let same : k ≡ n = cc in ap (λ z. cut z folder file len) same
at_same (sync_file n folder file) k e = let same : k ≡ n = cc in ap (λ z. sync_file z folder file) same

-- the first bytes of a write are the same step in the same room
pub first_at : (step : Step) (j i : ℕ) → with_first j (at_room i step) ≡ at_room i (with_first j step)
first_at (write_at n folder file at bytes) j i = refl
first_at step j i = refl

pub first_in : (step : Step) (j : ℕ) → number_in (with_first j step) ≡ number_in step
first_in (write_at n folder file at bytes) j = refl
first_in step j = refl

-- ---- the room keeps its name

abbrev Keeps : Room → Outcome → Type 0
Keeps r out = out.room.name ≡ r.name

by_test : (b : Bool) (r : Room) (x y : Outcome) → Keeps r x → Keeps r y → Keeps r (if b then x else y)
by_test true r x y h g = h
by_test false r x y h g = g

at_found : (r : Room) (file : Option File) (f : File → Outcome) → ((file : File) → Keeps r (f file)) → Keeps r (or_absent r file f)
at_found r None f h = refl
at_found r (Some file) f h = h file

at_placed : (r : Room) (place : Option ℕ) (f : ℕ → File → Outcome) → ((place : ℕ) (file : File) → Keeps r (f place file)) → Keeps r (at_place r place f)
at_placed r None f h = refl
at_placed r (Some place) f h = at_found r (slice_get r.files place) (f place) (h place)

in_a_folder : (r : Room) (folder : Name) (out : Outcome) → Keeps r out → Keeps r (in_folder r folder out)
in_a_folder r folder out h = by_test (has_folder r folder) r _ _ h refl

in_a_file : (r : Room) (folder name : Name) (f : ℕ → File → Outcome) → ((place : ℕ) (file : File) → Keeps r (f place file)) → Keeps r (in_file r folder name f)
in_a_file r folder name f h = in_a_folder r folder _ (at_placed r (place_of r folder name) f h)

if_empty : (r : Room) (folder : Name) (names : List Name) → Keeps r (removed_if_empty r folder names)
if_empty r folder [] = refl
if_empty r folder (least ∷ names) = refl

if_absent : (r : Room) (folder name : Name) (place : Option ℕ) → Keeps r (made_if_absent r folder name place)
if_absent r folder name None = refl
if_absent r folder name (Some place) = refl

without_named : (r : Room) (place : Option ℕ) → (without_file r place).name ≡ r.name
without_named r None = refl
without_named r (Some place) = refl

named_in : (r : Room) (folder from to : Name) → Keeps r (file_named r folder from to)
named_in r folder from to = in_a_file r folder from _ (λ place file. refl)

pub name_stays : (step : Step) (r : Room) → Keeps r (room_outcome step r)
name_stays rooms r = refl
name_stays (find_room name) r = refl
name_stays (make_room name folders files) r = refl
name_stays (rename_room n to) r = refl
name_stays (make_folder n folder) r = by_test (has_folder r folder) r _ _ refl refl
name_stays (remove_folder n folder) r = in_a_folder r folder _ (if_empty r folder (listing r folder))
name_stays (list_folder n folder) r = in_a_folder r folder _ refl
name_stays (create n folder file) r = in_a_folder r folder _ (if_absent r folder file (place_of r folder file))
name_stays (remove n folder file) r = in_a_file r folder file _ (λ place found. refl)
name_stays (replace n folder from to) r = in_a_file r folder from _ (λ place found. by_test (same_name from to) r _ _ refl
    (named_in (without_file r (place_of r folder to)) folder from to ∙ without_named r (place_of r folder to)))
name_stays (length_of n folder file) r = in_a_file r folder file _ (λ place found. refl)
name_stays (read_at n folder file at len) r = in_a_file r folder file _ (λ place found. refl)
name_stays (write_at n folder file at bytes) r = in_a_file r folder file _ (λ place found. by_test (nat_le at (length found.bytes)) r _ _ refl refl)
name_stays (cut n folder file len) r = in_a_file r folder file _ (λ place found. by_test (nat_le len (length found.bytes)) r _ _ refl refl)
name_stays (sync_file n folder file) r = in_a_file r folder file _ (λ place found. refl)
