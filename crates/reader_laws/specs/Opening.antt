-- How a caller opens a reader: which programs it runs.
use Rattle.std.specs.Prelude.{◌≡◌, ◌⊎◌, ℕ, List, [], ◌∷◌, ◌++◌, map, Ok}
use Rattle.std.specs.List.{All, AllByRecursion, flat_map}
use Rattle.plfs_types.specs.declared.entries.Cover.{Cover}
use Rattle.plfs_types.specs.declared.entries.Trunc.{Trunc}
use Rattle.mount_model.specs.Paths.{Name}
use Rattle.mount_model.specs.History.{Event}
use Rattle.mount_model.specs.Running.{Runs}
use Rattle.mount_model.specs.FlowReplies.{Tries}
use Rattle.index_reader.specs.declared.listing.Dropping.{Dropping as Listed}
use Rattle.index_reader.specs.declared.listing.Listing.{Listing}
use Rattle.index_reader.specs.declared.sharing.Share.{Share}
use Rattle.index_reader.specs.Opening.{open_at_program, open_read_program}
use Rattle.index_reader.specs.Sharing.{share_program}
use Rattle.index_reader.specs.Truncs.{trunc_program}
use Rattle.reader_laws.specs.Seen.{calls_of}
use Rattle.plfs_types.specs.Places.{IsAmong}

-- it lists a container, which it finds by its name or its number
abbrev pub Lists : Tries Listing → Type 0
Lists program = ((name : Name) × (program ≡ open_read_program name)) ⊎ ((room : ℕ) × (program ≡ open_at_program room))

-- droppings that a reader handed to one worker, or read together, and what came of them
pub record Portion : Type 0 where
  pub droppings : List Listed
  pub share : Share

abbrev pub droppings_of : List Portion → List Listed
droppings_of portions = flat_map (λ (p : Portion). p.droppings) portions

abbrev pub shares_of : List Portion → List Share
shares_of portions = map (λ (p : Portion). p.share) portions

-- no two of the droppings are of one writer
abbrev pub WritersDiffer : List Listed → Type 0
WritersDiffer [] = Unit {0}
WritersDiffer (d ∷ ds) = AllByRecursion (λ (e : Listed). e.writer ≡ d.writer → ⊥) ds × WritersDiffer ds

-- The portions have each dropping that was listed once, and no other.
pub record AreDealt (listed : List Listed) (portions : List Portion) : Type 0 where
  pub all : All (λ (d : Listed). IsAmong d (droppings_of portions)) listed
  pub only : All (λ (d : Listed). IsAmong d listed) (droppings_of portions)
  pub once : WritersDiffer (droppings_of portions)

-- the caller reads the portions in these events, one after the other
abbrev pub ReadsInTurn : ℕ → ℕ → List Cover → List Portion → List Event → Type 0
ReadsInTurn caller room covers [] events = calls_of caller events ≡ []
ReadsInTurn caller room covers (p ∷ portions) events =
    (mine rest : List Event) × (events ≡ mine ++ rest) × Runs caller (share_program room p.droppings covers) mine (Ok p.share) × ReadsInTurn caller room covers portions rest

-- a portion, and the worker that reads it
pub record Work : Type 0 where
  pub worker : ℕ
  pub portion : Portion

abbrev pub portions_of : List Work → List Portion
portions_of works = map (λ (w : Work). w.portion) works

-- each worker reads its portion in these events
abbrev pub WorkersRead : ℕ → List Cover → List Work → List Event → Type 0
WorkersRead room covers works events = All (λ (w : Work). Runs w.worker (share_program room w.portion.droppings covers) events (Ok w.portion.share)) works

-- The caller runs the programs of an opening in these events, and all end well: it lists the container, reads the
-- portions one after the other, and lists the truncates.
pub record OpensAlone (caller : ℕ) (events : List Event) (listing : Listing) (portions : List Portion) (truncs : List Trunc) : Type 0 where
  pub program : Tries Listing
  pub lists : Lists program
  pub scanning : List Event
  pub gathering : List Event
  pub listing_truncs : List Event
  pub split : events ≡ scanning ++ (gathering ++ listing_truncs)
  pub scans : Runs caller program scanning (Ok listing)
  pub dealt : AreDealt listing.droppings portions
  pub reads : ReadsInTurn caller listing.room listing.flat.covers portions gathering
  pub truncates : Runs caller (trunc_program listing.room) listing_truncs (Ok truncs)

-- The same where each portion is read by a worker, in the events between the caller's last call of the listing and its
-- call that lists the truncates.
pub record OpensByWorkers (caller : ℕ) (events : List Event) (listing : Listing) (works : List Work) (truncs : List Trunc) : Type 0 where
  pub program : Tries Listing
  pub lists : Lists program
  pub scanning : List Event
  pub gathering : List Event
  pub last : Event
  pub later : List Event
  pub split : events ≡ scanning ++ (gathering ++ last ∷ later)
  pub scans : Runs caller program scanning (Ok listing)
  pub dealt : AreDealt listing.droppings (portions_of works)
  pub reads : WorkersRead listing.room listing.flat.covers works gathering
  pub by_caller : last.caller ≡ caller
  pub truncates : Runs caller (trunc_program listing.room) (last ∷ later) (Ok truncs)
