-- The table of items: where each one stands, and how its file is named.
use Rattle.std.specs.Prelude.{◌≡◌, ℕ, ◌%◌, List, [], ◌∷◌, ◌++◌, codes}
use Rattle.std.specs.Fmt.{decimal}
use Rattle.std.specs.List.{range_with_len}
use Rattle.plfs_types.specs.declared.names.Path.{Path}
use Rattle.container_layout.specs.declared.items.Item.{Item}
use Rattle.container_layout.specs.declared.items.Item.TheVariants.{Access, OpenHost, Meta, Trunc, Flat, TmpFlat, Index, Log, Packed, TmpPacked}
use Rattle.container_layout.specs.Items.{IsItem}
use Rattle.container_layout.specs.Numbers.{dotted}

-- the folder of a host's droppings
abbrev pub hostdir_of : ℕ → List ℕ
hostdir_of host = codes "hostdir." ++ decimal (host % 32)

-- the numbers of folders of droppings
abbrev pub hostdirs : List ℕ
hostdirs = range_with_len 0 32

-- the folder of the marks of who has a container open
abbrev pub openhosts : List ℕ
openhosts = codes "openhosts"

-- a folder, what the file's name begins with, and the numbers behind that
pub record Row : Type 0 where
  pub folder : List ℕ
  pub word : List ℕ
  pub numbers : List ℕ

abbrev pub path_parts : Item → Row
path_parts Access = record { folder = []; word = codes "access"; numbers = [] }
path_parts (OpenHost host writer) = record { folder = openhosts; word = []; numbers = host ∷ writer ∷ [] }
path_parts (Meta last bytes stamp host writer) = record { folder = codes "metadata"; word = []; numbers = last ∷ bytes ∷ stamp ∷ host ∷ writer ∷ [] }
path_parts (Trunc stamp size) = record { folder = codes "truncs"; word = []; numbers = stamp ∷ size ∷ [] }
path_parts (Flat id) = record { folder = codes "flats"; word = []; numbers = id ∷ [] }
path_parts (TmpFlat id) = record { folder = codes "flats"; word = codes "tmp."; numbers = id ∷ [] }
path_parts (Index host writer) = record { folder = hostdir_of host; word = codes "index."; numbers = host ∷ writer ∷ [] }
path_parts (Log host writer) = record { folder = hostdir_of host; word = codes "log."; numbers = host ∷ writer ∷ [] }
path_parts (Packed host writer) = record { folder = hostdir_of host; word = codes "index2."; numbers = host ∷ writer ∷ [] }
path_parts (TmpPacked host id) = record { folder = hostdir_of host; word = codes "tmp2."; numbers = host ∷ id ∷ [] }

-- the one path of an item
abbrev pub path_of : Item → Path
path_of item = record { folder = (path_parts item).folder; file = (path_parts item).word ++ dotted (path_parts item).numbers }

-- the path is the printed form of the item
pub record IsAt (path : Path) (item : Item) : Type 0 where
  pub is_item : IsItem item
  pub printed : path ≡ path_of item

-- the same in two parts
abbrev pub IsIn : List ℕ → List ℕ → Item → Type 0
IsIn folder file item = IsAt (record { folder = folder; file = file }) item
