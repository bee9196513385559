-- The calls of a whole flattening: it begins, gathers the container as one share, and installs what was gathered.
use Rattle.std.specs.Prelude.{[], length, Result, Ok}
use Rattle.flat_format.specs.declared.flat.Flat.{Flat}
use Rattle.flat_format.specs.Spelling.{flat_spelling}
use Rattle.mount_model.specs.declared.stuck.Stuck.{Stuck}
use Rattle.mount_model.specs.Program.{done, followed_by}
use Rattle.mount_model.specs.Paths.{Name}
use Rattle.mount_model.specs.FlowReplies.{Tries, on_ok}
use Rattle.index_reader.specs.declared.listing.Listing.{Listing}
use Rattle.index_reader.specs.Opening.{open_at_program}
use Rattle.gather_flow.specs.declared.all_read.AllRead.{AllRead}
use Rattle.gather_flow.specs.Gathering.{shares_from}
use Rattle.gather_flow.specs.OneIndex.{flat_of}
use Rattle.flatten_core.specs.declared.flattening.Flattened.{Flattened}
use Rattle.flatten_core.specs.declared.starting.Started.{Started}
use Rattle.flatten_core.specs.Starting.{start_program}
use Rattle.flatten_core.specs.Installing.{install_program}

-- what is told of a flattened index that was installed
abbrev pub flattened : Started → Flat → Flattened
flattened started index = record { flat = started.flat; pieces = length index.pieces; covers = index.covers }

-- it is told in the end, unless there was a trouble
abbrev pub tells : Flattened → Result (Unit {0}) Stuck → Tries Flattened
tells told = on_ok (λ installed. done (Ok told))

-- an index is installed in its one spelling
abbrev pub installs_index : Started → Flat → Tries Flattened
installs_index started index =
    followed_by (install_program started.room started.flat index.covers (flat_spelling index)) (tells (flattened started index))

-- all that was gathered is one index, whatever the truncates took away
abbrev pub installs_gathered : Started → AllRead → Tries Flattened
installs_gathered started all = installs_index started (flat_of all.listed all.shares)

-- the index droppings are read as one share, and then the truncates are listed
abbrev pub gathers : Started → Listing → Tries Flattened
gathers started listing = followed_by (shares_from 1 listing 0 []) (on_ok (installs_gathered started))

-- the container is listed
abbrev pub lists : Started → Tries Flattened
lists started = followed_by (open_at_program started.room) (on_ok (gathers started))

abbrev pub flatten_program : Name → Tries Flattened
flatten_program name = followed_by (start_program name) (on_ok lists)
