-- Where a room is made, found or renamed, none of the calls for it failed.
use Rattle.std.proofs.Common.{ℕ, zero, suc, inl, inr, List, [], ◌∷◌, Bool, true, false, Option, Some, None, Ok, refl, ◌∙◌}
use Rattle.std.proofs.lemmas.Bool.{cases_eq}
use Rattle.store_api.specs.declared.step.Answer.{Answer}
use Rattle.store_api.specs.declared.step.Answer.TheVariants.{Made, Old, Absent, NoRoom, NoFolder, NotEmpty, TargetThere, Names, Number, Bytes, Beyond}
use Rattle.folder_calls.specs.declared.reason.Kind.{Kind}
use Rattle.folder_calls.specs.declared.reason.Kind.TheVariants.{Absent as Nothing, File, Folder, Other}
use Rattle.folder_calls.specs.Calls.{Log, failed_calls}
use Rattle.folder_calls.specs.Parts.{IsRoomName}
use Rattle.store_folder.specs.declared.disk.Disk.{Disk}
use Rattle.store_folder.specs.Leftovers.{RemovesLeftover, ClearsItem, Empties, Clears, emptied, left, Tries, at_once, after_clearing, never, PassesBy}
use Rattle.store_folder.specs.NewRooms.{BuildsFolder, PutsFile, BuildsFile, TakesPlace, Fills, MakesRoom}
use Rattle.store_folder.specs.Paths.{item_of, building_path}
use Rattle.store_folder.specs.Rooms.{LooksForRoom, FindsRooms, ListsRooms, AddsRoom, RenamesRoom}
use Rattle.store_folder.proofs.Answered.{NoneFailed, unchanged, one, two, each}

module _ {F : Type 0} where
  leftover_removed : (path : List ℕ) (kind : Kind) (log later : Log F) → RemovesLeftover path kind log later → NoneFailed log later
  leftover_removed path Folder log later made = one _ _ _ made.1 refl
  leftover_removed path (File zero) log later made = one _ _ _ made.1 refl
  leftover_removed path (File (suc len)) log later made = unchanged made
  leftover_removed path Nothing log later made = unchanged made
  leftover_removed path Other log later made = unchanged made

  item_cleared : (folder name : List ℕ) (log later : Log F) → ClearsItem folder name log later → NoneFailed log later
  item_cleared folder name log later made = leftover_removed (item_of folder name) made.0 made.1 later made.3 ∙ one _ _ _ made.2 refl

  folder_emptied : (path : List ℕ) (log later : Log F) (is_gone : Bool) → Empties path log later is_gone → NoneFailed log later
  folder_emptied path log later is_gone made = one _ _ _ made.removes refl ∙ (each (ClearsItem path) (item_cleared path) made.names made.told made.cleared made.clears ∙ one _ _ _ made.lists refl)

  place_cleared : (path : List ℕ) (log later : Log F) (is_gone : Bool) → Clears path log later is_gone → NoneFailed log later
  place_cleared path log later is_gone (emptied seen looks empties) = folder_emptied path seen later is_gone empties ∙ one _ _ _ looks refl
  place_cleared path log later is_gone (left kind stays is looks) = one _ _ _ looks refl

  place_tried : (path : List ℕ) (log later : Log F) (is_made : Bool) → Tries path log later is_made → NoneFailed log later
  place_tried path log later is_made (at_once is made) = one _ _ _ made refl
  place_tried path log later is_made (after_clearing taken cleared was_taken clears made) = one _ _ _ made refl ∙ (place_cleared path taken cleared true clears ∙ one _ _ _ was_taken refl)
  place_tried path log later is_made (never taken is was_taken clears) = place_cleared path taken later false clears ∙ one _ _ _ was_taken refl

  places_passed : (root : List ℕ) (k : ℕ) (log later : Log F) → PassesBy root k log later → NoneFailed log later
  places_passed root zero log later made = unchanged made
  places_passed root (suc k) log later made = place_tried (building_path root k) made.0 later false made.2 ∙ places_passed root k log made.0 made.1

  place_taken : (root new : List ℕ) (log later : Log F) → TakesPlace root new log later → NoneFailed log later
  place_taken root new log later made = place_tried (building_path root made.k) made.passed later true made.takes ∙ places_passed root made.k log made.passed made.passes

  folder_built : (new name : List ℕ) (log later : Log F) → BuildsFolder new name log later → NoneFailed log later
  folder_built new name log later made = two _ _ _ _ made.1 refl refl

  file_put : (path : List ℕ) (made : Option F) (log later : Log F) → PutsFile path made log later → NoneFailed log later
  file_put path (Some made) log later puts = two _ _ _ _ puts refl refl
  file_put path None log later puts = two _ _ _ _ puts.1 refl refl

  file_built : (new name : List ℕ) (log later : Log F) → BuildsFile new name log later → NoneFailed log later
  file_built new name log later made = file_put (item_of new name) made.0 log later made.1

  folder_filled : (new path : List ℕ) (folders files : List (List ℕ)) (log later : Log F) → Fills new path folders files log later → NoneFailed log later
  folder_filled new path folders files log later made =
      two _ _ _ _ made.moves refl refl ∙ (each (BuildsFile new) (file_built new) files made.between made.filled made.with_files ∙ each (BuildsFolder new) (folder_built new) folders log made.between made.with_folders)

  room_made : (root path : List ℕ) (folders files : List (List ℕ)) (log later : Log F) → MakesRoom root path folders files (Ok tt) log later → NoneFailed log later
  room_made root path folders files log later made =
      let built = made.1 in
      one _ _ _ made.2 refl ∙ (folder_filled built.new path folders files built.found made.0 built.fills ∙ place_taken root built.new log built.found built.takes)

  -- a name is a room's or isn't, and the calls for it are well in either case
  room_looked_for : (root name : List ℕ) (is_room : Bool) (log later : Log F) → LooksForRoom root name is_room log later → NoneFailed log later
  room_looked_for root name is_room log later looks = elim (cases_eq (failed_calls later) (failed_calls log)) [
    | inl same ↦ same
    | inr differ ↦
        let no_name : ¬ IsRoomName name = λ named. (let look = looks.named named in differ (one _ _ _ look.1 refl)) in
        unchanged (looks.unnamed no_name).0
  ]

  rooms_found : (root : List ℕ) (names rooms : List (List ℕ)) (log later : Log F) → FindsRooms root names rooms log later → NoneFailed log later
  rooms_found root [] rooms log later finds = unchanged finds.1
  rooms_found root (name ∷ names) rooms log later (is_room, rest, between, are, looks, finds) =
      rooms_found root names rest between later finds ∙ room_looked_for root name is_room log between looks

  pub rooms_listed : (root : List ℕ) (rooms : List (List ℕ)) (log later : Log F) → ListsRooms root rooms log later → NoneFailed log later
  rooms_listed root rooms log later made = rooms_found root made.names made.found made.told later made.finds ∙ one _ _ _ made.lists refl

module _ {C F : Type 0} (old new : Disk C F) (name : List ℕ) (log later : Log F) where
  pub room_added : (folders files : List (List ℕ)) (answer : Answer) → AddsRoom old new name log later folders files answer → NoneFailed log later
  room_added folders files (Old number) made = unchanged made.1
  room_added folders files (Number value) (none, is, has, made) = room_made _ _ folders files log later made
  room_added folders files Made made = absurd made
  room_added folders files Absent made = absurd made
  room_added folders files NoRoom made = absurd made
  room_added folders files NoFolder made = absurd made
  room_added folders files (NotEmpty least) made = absurd made
  room_added folders files TargetThere made = absurd made
  room_added folders files (Names names) made = absurd made
  room_added folders files (Bytes bytes) made = absurd made
  room_added folders files Beyond made = absurd made

  pub room_renamed : (room : ℕ) (answer : Answer) (path : List ℕ) → RenamesRoom old new name log later room answer path → NoneFailed log later
  room_renamed room Made path (none, are, moves) = two _ _ _ _ moves refl refl
  room_renamed room TargetThere path made = unchanged made.1
  room_renamed room (Old number) path made = absurd made
  room_renamed room Absent path made = absurd made
  room_renamed room NoRoom path made = absurd made
  room_renamed room NoFolder path made = absurd made
  room_renamed room (NotEmpty least) path made = absurd made
  room_renamed room (Names names) path made = absurd made
  room_renamed room (Number value) path made = absurd made
  room_renamed room (Bytes bytes) path made = absurd made
  room_renamed room Beyond path made = absurd made
