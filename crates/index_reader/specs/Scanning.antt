-- What the listings of a container's folders of droppings show.
use Rattle.std.specs.Prelude.{ℕ, nat_lt, Bool, if◌then◌else◌, is_some, List, [], ◌∷◌, Option, Some, None, Result, Ok, Err}
use Rattle.plfs_types.specs.declared.names.Path.{Path}
use Rattle.container_layout.specs.declared.items.Item.{Item}
use Rattle.container_layout.specs.declared.items.Item.TheVariants as item
use Rattle.mount_model.specs.declared.stuck.Stuck.{Stuck}
use Rattle.mount_model.specs.FlowListed.{file_in}
use Rattle.mount_model.specs.FlowReplies.{damage}
use Rattle.mount_model.specs.Paths.{Name}
use Rattle.index_reader.specs.declared.owners.Owner.{Owner}
use Rattle.index_reader.specs.declared.scanning.Scan.{Scan}
use Rattle.index_reader.specs.Found.{item_of, AscendBy}
use Rattle.index_reader.specs.Items.{hostdir_item}

abbrev pub owner : ℕ → ℕ → Owner
owner host writer = record { host = host; writer = writer }

-- ---- writers in order

-- the first one of this writer
abbrev pub owner_of : ℕ → List Owner → Option Owner
owner_of writer owners = item_of (λ (o : Owner). o.writer) writer owners

abbrev pub has_writer : ℕ → List Owner → Bool
has_writer writer owners = is_some (owner_of writer owners)

-- each writer is above those before it
abbrev pub Ascends : List Owner → Type 0
Ascends owners = AscendBy (λ (o : Owner). o.writer) owners

-- with one more, before the first of a greater writer
abbrev pub placed : Owner → List Owner → List Owner
placed o [] = o ∷ []
placed o (p ∷ owners) = if nat_lt o.writer p.writer then o ∷ p ∷ owners else p ∷ placed o owners

-- ---- one listing

abbrev pub nothing_found : Scan
nothing_found = record { indices = []; packs = [] }

-- this name, where it is no item's
abbrev pub foreign_or : Name → Option Item → Option Name → Option Name
foreign_or name None later = Some name
foreign_or name (Some it) later = later

-- the first name that is no item of this folder
abbrev pub foreign_in : Name → List Name → Option Name
foreign_in folder [] = None
foreign_in folder (name ∷ names) = foreign_or name (hostdir_item (file_in folder name)) (foreign_in folder names)

-- An index dropping or a packed index is one more, or damage where its writer has one already.
abbrev pub taken : Path → Option Item → Scan → (Scan → Result Scan Stuck) → Result Scan Stuck
taken path (Some (item.Index host writer)) scan next =
    if has_writer writer scan.indices then Err (damage path 0) else next (record { indices = placed (owner host writer) scan.indices; packs = scan.packs })
taken path (Some (item.Packed host writer)) scan next =
    if has_writer writer scan.packs then Err (damage path 0) else next (record { indices = scan.indices; packs = placed (owner host writer) scan.packs })
taken path other scan next = next scan

abbrev pub taken_all : Name → List Name → Scan → Result Scan Stuck
taken_all folder [] scan = Ok scan
taken_all folder (name ∷ names) scan = taken (file_in folder name) (hostdir_item (file_in folder name)) scan (λ more. taken_all folder names more)

-- a foreign name is damage, before all else in its listing
abbrev pub unless_foreign : {X : Type 0} → Name → Option Name → Result X Stuck → Result X Stuck
unless_foreign folder None next = next
unless_foreign folder (Some name) next = Err (damage (file_in folder name) 0)

-- what the names of one folder show, with what was found before
abbrev pub scanned : Name → List Name → Scan → Result Scan Stuck
scanned folder names scan = unless_foreign folder (foreign_in folder names) (taken_all folder names scan)
