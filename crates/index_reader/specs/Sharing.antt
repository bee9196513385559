-- The calls that read a share of a container's index droppings, one after the other.
use Rattle.std.specs.Prelude.{ℕ, ◌==◌, if◌then◌else◌, List, [], ◌∷◌, ◌++◌, Ok}
use Rattle.plfs_types.specs.declared.entries.Cover.{Cover}
use Rattle.mount_model.specs.FlowReplies.{Tries, on_ok}
use Rattle.mount_model.specs.Program.{done, followed_by}
use Rattle.index_reader.specs.declared.listing.Dropping.{Dropping}
use Rattle.index_reader.specs.declared.entries.Tail.{Tail}
use Rattle.index_reader.specs.declared.sharing.Share.{Share}
use Rattle.index_reader.specs.declared.sharing.Sofar.{Sofar}
use Rattle.index_reader.specs.Runs.{pieces_of, merged_of}
use Rattle.index_reader.specs.Covered.{cover_of}
use Rattle.index_reader.specs.Tails.{tail_program}
use Rattle.index_reader.specs.Packs.{no_tail, packed_path, pack_program}

abbrev pub nothing : Sofar
nothing = record { covers = []; lists = [] }

-- a writer without entries has no cover
abbrev pub covered : Cover → List Cover
covered cover = if cover.count == 0 then [] else cover ∷ []

-- with the tail of one dropping more
abbrev pub added : Tail → Sofar → Sofar
added tail sofar = record { covers = sofar.covers ++ covered tail.cover; lists = sofar.lists ++ pieces_of tail.entries ∷ [] }

-- all that was read, with the pieces merged
abbrev pub share_of : Sofar → Share
share_of sofar = record { covers = sofar.covers; pieces = merged_of sofar.lists }

-- a dropping is read by its packed index, where there is one
abbrev pub dropping_program : ℕ → Dropping → Cover → Tries Tail
dropping_program room d cover = if d.packed then pack_program room (packed_path d.host d.writer) cover else tail_program room d (no_tail cover)

-- the droppings that are left, behind what was read so far
abbrev pub gathers : ℕ → List Cover → List Dropping → Sofar → Tries Share
gathers room covers [] sofar = done (Ok (share_of sofar))
gathers room covers (d ∷ ds) sofar = followed_by (dropping_program room d (cover_of d.writer covers)) (on_ok (λ tail. gathers room covers ds (added tail sofar)))

abbrev pub share_program : ℕ → List Dropping → List Cover → Tries Share
share_program room share covers = gathers room covers share nothing
