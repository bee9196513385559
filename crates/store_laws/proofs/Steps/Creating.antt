-- A step that makes a file.
use Rattle.std.proofs.Common.{◌≡◌, ℕ, true, slice_get, Option, Some, None, refl, inl, inr}
use Rattle.plfs_types.specs.declared.names.Path.{Path}
use Rattle.store_api.specs.declared.tree.File.{File}
use Rattle.store_api.specs.declared.tree.Room.{Room}
use Rattle.store_api.specs.declared.tree.Tree.{Tree}
use Rattle.store_api.specs.declared.step.Answer.TheVariants.{Made, Old, NoFolder}
use Rattle.store_api.specs.Step.{create}
use Rattle.store_api.specs.Kept.{empty_file}
use Rattle.store_api.specs.Room.{has_folder, place_of, file_in, with_new_file, made_if_absent, file_created}
use Rattle.store_api.specs.Effect.{Effect, effect, room_after}
use Rattle.store_laws.specs.Changes.{Created}
use Rattle.store_laws.specs.Says.{WhyNotCreated}
use Rattle.store_laws.specs.Outcomes.{ChangesOrStays}
use Rattle.store_laws.proofs.Steps.Rooms.{file_at_found, file_at_none, with_new_file_now, with_new_file_kept, with_new_file_others, with_new_file_differs}
use Rattle.store_laws.proofs.Names.Searches.{find_unplaced}
use Rattle.store_laws.proofs.Steps.Entering.{placed_file, room_cases, folder_cases, stays_in}

-- how the step ends
abbrev Makes : Tree → ℕ → Path → Effect → Type 0
Makes tree n path out = ChangesOrStays tree Made (Created tree n path) (WhyNotCreated tree n path) out

by_place : (tree : Tree) (n : ℕ) (path : Path) (room : Room) → slice_get tree.rooms n ≡ Some room → has_folder room path.folder ≡ true → (place : Option ℕ) → place_of room path.folder path.file ≡ place
    → Makes tree n path (room_after tree n (made_if_absent room path.folder path.file place))
by_place tree n path room e there None at =
    let none : file_in room path.folder path.file ≡ None = find_unplaced _ room.files at in
    let file : File = empty_file path.folder path.file in
    inl (
      refl,
      record {
        room = room;
        new = with_new_file room file;
        has_room = e;
        folder = there;
        none = file_at_none room path none;
        now = with_new_file_now room path file none refl;
        kept = with_new_file_kept room path file none refl;
        others = with_new_file_others room path file refl;
        differ = with_new_file_differs room path file none refl;
        gives = refl;
      },
    )
by_place tree n path room e there (Some place) at =
    let found = placed_file room path place at in
    inr (stays_in tree n room (Old 0) Made (WhyNotCreated tree n path) e (λ m. cc)
    (refl, record { room = room; bytes = found.0.bytes; has_room = e; folder = there; there = file_at_found room path found.0 found.1.found }))

-- a file is made, or the tree stays
pub create_cases : (tree : Tree) (n : ℕ) (path : Path) → ChangesOrStays tree Made (Created tree n path) (WhyNotCreated tree n path) (effect tree (create n path.folder path.file))
create_cases tree n path =
    room_cases tree n (λ r. file_created r path.folder path.file) (Makes tree n path)
    (λ none. inr record { same = refl; unmade = λ m. cc; why = none })
    (λ room e. folder_cases room path.folder (made_if_absent room path.folder path.file (place_of room path.folder path.file)) (λ out. Makes tree n path (room_after tree n out))
    (λ none. inr (stays_in tree n room NoFolder Made (WhyNotCreated tree n path) e (λ m. cc) record { room = room; has_room = e; none = none }))
    (λ there. by_place tree n path room e there (place_of room path.folder path.file) refl))
