-- The step that an owned one stands for.
use Rattle.store_api.specs.Step.{Step, rooms, find_room, make_room, rename_room, make_folder, remove_folder, list_folder, create, remove, replace, length_of, read_at, write_at, cut, sync}
use Rattle.store_api.specs.declared.owned.OwnedStep.{OwnedStep}
use Rattle.store_api.specs.declared.owned.OwnedStep.TheVariants as variant

abbrev pub step_given : OwnedStep → Step
step_given variant.Rooms = rooms
step_given (variant.FindRoom name) = find_room name
step_given (variant.MakeRoom name folders files) = make_room name folders files
step_given (variant.RenameRoom room to) = rename_room room to
step_given (variant.MakeFolder room folder) = make_folder room folder
step_given (variant.RemoveFolder room folder) = remove_folder room folder
step_given (variant.List room folder) = list_folder room folder
step_given (variant.Create room folder file) = create room folder file
step_given (variant.Remove room folder file) = remove room folder file
step_given (variant.Replace room folder from to) = replace room folder from to
step_given (variant.Length room folder file) = length_of room folder file
step_given (variant.ReadAt room folder file at len) = read_at room folder file at len
step_given (variant.WriteAt room folder file at bytes) = write_at room folder file at bytes
step_given (variant.Cut room folder file len) = cut room folder file len
step_given (variant.Sync room folder file) = sync room folder file
