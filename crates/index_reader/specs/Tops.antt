-- The top of a container: which names it has, and which folders of droppings it shows.
use Rattle.std.specs.Prelude.{ℕ, if◌then◌else◌, List, [], ◌∷◌, map, Option, Some, None, Result, Ok, Err, codes}
use Rattle.plfs_types.specs.declared.names.Path.{Path}
use Rattle.container_layout.specs.Paths.{hostdir_of}
use Rattle.mount_model.specs.declared.stuck.Stuck.{Stuck}
use Rattle.mount_model.specs.FlowReplies.{damage}
use Rattle.mount_model.specs.FlowListed.{file_in}
use Rattle.mount_model.specs.Paths.{Name, metadata, truncs, flats}
use Rattle.container_layout.specs.Paths.{openhosts}
use Rattle.index_reader.specs.Searching.{has_name}
use Rattle.index_reader.specs.Scanning.{unless_foreign}
use Rattle.container_layout.specs.Paths.{hostdirs}

abbrev pub access : Name
access = codes "access"

-- the names that the top may have
abbrev pub top_names : List Name
top_names = access ∷ openhosts ∷ metadata ∷ truncs ∷ flats ∷ map hostdir_of hostdirs

-- the first name that it may not have
abbrev pub foreign_at_top : List Name → Option Name
foreign_at_top [] = None
foreign_at_top (name ∷ names) = if has_name name top_names then foreign_at_top names else Some name

-- it goes on where the name is there, or else this file or folder is missing
abbrev pub required : {X : Type 0} → Name → Path → List Name → Result X Stuck → Result X Stuck
required name path names next = if has_name name names then next else Err (damage path 0)

-- those of the folders of droppings that are there
abbrev pub shown : List Name → List ℕ → List ℕ
shown names [] = []
shown names (k ∷ ks) = if has_name (hostdir_of k) names then k ∷ shown names ks else shown names ks

-- The folders of droppings that the top shows, in order. A foreign name is damage, and then what is missing.
abbrev pub top_shows : List Name → Result (List ℕ) Stuck
top_shows names = unless_foreign [] (foreign_at_top names)
    (required access (file_in [] access) names
    (required flats (file_in flats []) names
    (required metadata (file_in metadata []) names
    (required truncs (file_in truncs []) names
    (Ok (shown names hostdirs))))))
