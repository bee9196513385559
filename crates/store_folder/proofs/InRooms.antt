-- What is done by the paths of a room is done in the room.
use Rattle.std.proofs.Common.{◌≡◌, ℕ, ◌≤◌, ◌<◌, List, [], ◌∷◌, length, Option, Some, None, Result, Ok, Err, refl, subst, rules}
use Rattle.std.proofs.lemmas.Bool.{false≢true}
use Rattle.std.specs.Prelude.{IfOk, IfSome, IsSome, string_bytes}
use Rattle.store_api.specs.declared.step.Answer.{Answer}
use Rattle.store_api.specs.declared.step.Answer.TheVariants.{NoRoom}
use Rattle.folder_calls.specs.declared.failure.Failure.{Failure}
use Rattle.folder_calls.specs.Calls.{Log, Makes, synced_folder}
use Rattle.store_folder.specs.declared.disk.Disk.{Disk}
use Rattle.store_folder.specs.declared.folders.Spot.{Spot}
use Rattle.store_folder.specs.NewRooms.{BuildsRoom, MakesRoom}
use Rattle.store_folder.specs.Paths.{room_path, folder_path}
use Rattle.store_folder.specs.Rooms.{InRoom}

-- what holds of a value where there is one holds of this one
pub of_one : {A : Type 0} (found : Option A) (one : A) (P : A → Type 0) → found ≡ Some one → IfSome found P → P one
of_one {A} found one P is holds =
    let Holds : Option A → Type 0 = λ found. IfSome found P in
    subst Holds is holds

-- there is none, or there is one
pub none_there : {A : Type 0} (found : Option A) → found ≡ None → IsSome found → ⊥
none_there None is there = false≢true there
none_there (Some one) is there = cc

pub some_absent : {A : Type 0} (found : Option A) (one : A) → found ≡ Some one → ◌≡◌ {A = Result (Option A) Failure} (Ok found) (Ok None) → ⊥
some_absent found one is absent = cc

module _ {C F : Type 0} (disk : Disk C F) (room : ℕ) (folder : List ℕ) (log later : Log F) where
  -- what is answered where there is no room of this number
  pub in_no_room : {A : Type 0} (says : List ℕ → Type 0) (found : Option A) → found ≡ None → (room < length disk.rooms.items → IsSome found) → later ≡ log → InRoom disk room NoRoom log later says
  in_no_room says found is there same = ((λ past. (refl, same)), λ within. absurd (none_there found is (there within)))

  -- what is answered by the paths of a folder's spot
  pub in_folder : (says : List ℕ → List ℕ → Answer → Type 0) (result : Result Answer Failure) (found : Option Spot) (spot : Spot) → found ≡ Some spot → (length disk.rooms.items ≤ room → ◌≡◌ {A = Result (Option Spot) Failure} (Ok found) (Ok None)) → IfSome found (λ spot. string_bytes spot.room ≡ room_path disk room) → IfSome found (λ spot. string_bytes spot.folder ≡ folder_path (room_path disk room) folder) → IfOk result (says (string_bytes spot.room) (string_bytes spot.folder)) → IfOk result (λ answer. InRoom disk room answer log later (λ path. says path (folder_path path folder) answer))
  in_folder says (Err failure) found spot is absent in_it of_it told = tt
  in_folder says (Ok answer) found spot is absent in_it of_it told =
      let shown = of_one found spot (λ spot. string_bytes spot.room ≡ room_path disk room) is in_it in
      let also = of_one found spot (λ spot. string_bytes spot.folder ≡ folder_path (room_path disk room) folder) is of_it in
      let InRoomOf : List ℕ → Type 0 = λ path. says path (string_bytes spot.folder) answer in
      let InFolderOf : List ℕ → Type 0 = λ path. says (room_path disk room) path answer in (
        (λ past. absurd (search (rules, is, absent past))),
        λ within. subst InFolderOf also (subst InRoomOf shown told),
      )

module _ {F : Type 0} (root path : List ℕ) (folders files : List (List ℕ)) (end : Result (Unit {0}) Failure) (log built later : Log F) where
  -- a room was built by these texts of the paths
  pub makes_room : (shown_root shown_path again : List ℕ) → shown_root ≡ root → shown_path ≡ path → again ≡ root → BuildsRoom shown_root shown_path folders files log built → Makes (synced_folder again end ∷ []) built later → MakesRoom root path folders files end log later
  makes_room shown_root shown_path again is_root is_path is_again builds syncs =
      let Built : List ℕ → Type 0 = λ text. BuildsRoom text shown_path folders files log built in
      let BuiltAt : List ℕ → Type 0 = λ text. BuildsRoom root text folders files log built in
      let Synced : List ℕ → Type 0 = λ text. Makes (synced_folder text end ∷ []) built later in
      (built, subst BuiltAt is_path (subst Built is_root builds), subst Synced is_again syncs)
