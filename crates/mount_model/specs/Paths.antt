-- Where the folders and files of a container lie.
use Rattle.std.specs.Prelude.{ℕ, List, [], ◌∷◌, codes, Bool, if◌then◌else◌}
use Rattle.std.specs.Fmt.{decimal}
use Rattle.plfs_types.specs.declared.names.Path.{Path}
use Rattle.container_layout.specs.declared.items.Item.{Item}
use Rattle.container_layout.specs.declared.items.Item.TheVariants.{Access, OpenHost, Meta, Trunc, Flat, TmpFlat, Index, Log, Packed, TmpPacked}
use Rattle.container_layout.specs.Paths.{path_of}
use Rattle.mount_model.specs.declared.row.Flattening.{Flattening}
use Rattle.mount_model.specs.declared.row.Making.{Making}
use Rattle.mount_model.specs.declared.row.Making.TheVariants as making
pub use Rattle.container_layout.specs.Paths.{openhosts}
use Rattle.store_api.specs.Names.{marks_folder}

abbrev pub Name : Type 0
Name = List ℕ

abbrev pub metadata : Name
metadata = codes "metadata"

abbrev pub truncs : Name
truncs = codes "truncs"

abbrev pub flats : Name
flats = codes "flats"

-- the folders and the top files of a new container
abbrev pub new_folders : List Name
new_folders = openhosts ∷ metadata ∷ truncs ∷ flats ∷ []

abbrev pub new_files : List Name
new_files = codes "access" ∷ []

-- the name of a mount's mark
abbrev pub mark_name : ℕ → Name
mark_name mount = decimal mount

abbrev pub mark_path : ℕ → Path
mark_path mount = record { folder = marks_folder; file = mark_name mount }

abbrev pub access_path : Path
access_path = path_of Access

-- a writer's entry in the folder of who has the container open
abbrev pub open_path : ℕ → ℕ → Path
open_path host writer = path_of (OpenHost host writer)

abbrev pub index_path : ℕ → ℕ → Path
index_path host writer = path_of (Index host writer)

abbrev pub log_path : ℕ → ℕ → Path
log_path host writer = path_of (Log host writer)

-- the metadata dropping of a writer with this greatest end, so many bytes and this last stamp
abbrev pub meta_path : ℕ → ℕ → ℕ → ℕ → ℕ → Path
meta_path last bytes stamp host writer = path_of (Meta last bytes stamp host writer)

abbrev pub trunc_path : ℕ → ℕ → Path
trunc_path stamp size = path_of (Trunc stamp size)

abbrev pub flat_path : ℕ → Path
flat_path id = path_of (Flat id)

-- the item to which a flattening is written, and the one that it becomes
abbrev pub temporary_item : Making → ℕ → Item
temporary_item making.Flat id = TmpFlat id
temporary_item (making.Pack host writer) id = TmpPacked host id

abbrev pub installed_item : Making → ℕ → Item
installed_item making.Flat id = Flat id
installed_item (making.Pack host writer) id = Packed host writer

abbrev pub temporary_of : Making → ℕ → Path
temporary_of makes id = path_of (temporary_item makes id)

abbrev pub installed_of : Making → ℕ → Path
installed_of makes id = path_of (installed_item makes id)

abbrev pub temporary : Flattening → Path
temporary f = temporary_of f.makes f.id

abbrev pub installed : Flattening → Path
installed f = installed_of f.makes f.id

-- a writer's log, or its index dropping
abbrev pub dropping_path : Bool → ℕ → ℕ → Path
dropping_path is_log host writer = if is_log then log_path host writer else index_path host writer
