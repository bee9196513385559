-- The calls of a migration: Find, Look Top, List of the metadata, List of each folder of droppings that the top shows;
-- then, by ascending id, those of each writer that is to be packed.
use Rattle.std.specs.Prelude.{ℕ, List, [], ◌∷◌, Result, Ok}
use Rattle.mount_model.specs.declared.stuck.Stuck.{Stuck}
use Rattle.mount_model.specs.Program.{done, ask, followed_by}
use Rattle.mount_model.specs.declared.call.Call.TheVariants.{Find, Look}
use Rattle.mount_model.specs.declared.call.Look.TheVariants.{List as ListFolder, Top}
use Rattle.mount_model.specs.Paths.{Name, metadata}
use Rattle.mount_model.specs.declared.names.Metadata.{Metadata}
use Rattle.mount_model.specs.FlowListed.{told_by, file_in}
use Rattle.mount_model.specs.FlowReplies.{Tries, given, on_ok, room_in, failure, names_in, trouble}
use Rattle.index_reader.specs.declared.listing.Listing.{Listing}
use Rattle.index_reader.specs.Opening.{no_flat, scans}
use Rattle.index_reader.specs.Scanning.{nothing_found}
use Rattle.index_reader.specs.Tops.{top_shows}
use Rattle.migrate_core.specs.declared.migrated.Migrated.{Migrated}
use Rattle.migrate_core.specs.Counting.{nothing, noted}
use Rattle.migrate_core.specs.Chosen.{metas_named, chosen}
use Rattle.migrate_core.specs.Writers.{writer_program}

-- the writers that are left, behind what was done so far
abbrev pub migrates : ℕ → List Metadata → Migrated → Tries Migrated
migrates room [] sofar = done (Ok sofar)
migrates room (m ∷ metas) sofar = followed_by (writer_program room m) (on_ok (λ fate. migrates room metas (noted fate sofar)))

-- those that the listings show
abbrev pub migrates_listed : ℕ → List Metadata → Listing → Tries Migrated
migrates_listed room metas listing = migrates room (chosen listing.droppings metas) nothing

-- the folders of droppings are listed, once the metadata were
abbrev pub scans_then : ℕ → Tries Listing → Result (List Metadata) Stuck → Tries Migrated
scans_then room scan listed = on_ok (λ metas. followed_by scan (on_ok (migrates_listed room metas))) listed

abbrev pub lists_metadata : ℕ → Tries Listing → Tries Migrated
lists_metadata room scan = ask (Look room (ListFolder metadata)) (λ reply. scans_then room scan (told_by metadata (λ names. metas_named names []) reply))

-- the folders of droppings that the top shows
abbrev pub migrates_shown : ℕ → List ℕ → Tries Migrated
migrates_shown room folders = lists_metadata room (scans room 0 no_flat folders nothing_found)

abbrev pub migrate_at_program : ℕ → Tries Migrated
migrate_at_program room = ask
    (Look room Top)
    (λ reply. given (names_in reply) (trouble (file_in [] []) reply) (λ names. on_ok (migrates_shown room) (top_shows names)))

abbrev pub migrate_program : Name → Tries Migrated
migrate_program name = ask (Find name) (λ reply. given (room_in reply) (failure reply) migrate_at_program)
