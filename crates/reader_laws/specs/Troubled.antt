-- How the opening of a reader ends in trouble.
use Rattle.std.specs.Prelude.{◌≡◌, ◌⊎◌, ℕ, List, ◌++◌, Ok, Err}
use Rattle.std.specs.List.{All}
use Rattle.mount_model.specs.History.{Event}
use Rattle.mount_model.specs.declared.stuck.Stuck.{Stuck}
use Rattle.mount_model.specs.Running.{Runs}
use Rattle.mount_model.specs.FlowReplies.{Tries}
use Rattle.index_reader.specs.declared.listing.Dropping.{Dropping as Listed}
use Rattle.index_reader.specs.declared.listing.Listing.{Listing}
use Rattle.index_reader.specs.Sharing.{share_program}
use Rattle.index_reader.specs.Truncs.{trunc_program}
use Rattle.plfs_types.specs.Places.{IsAmong}
use Rattle.reader_laws.specs.Opening.{Lists}

-- the caller reads a share of what was listed in these events, and ends in this trouble
abbrev pub IsStuckInShare : ℕ → Listing → List Event → Stuck → Type 0
IsStuckInShare caller listing events why =
    (ds : List Listed) × All (λ (d : Listed). IsAmong d listing.droppings) ds × Runs caller (share_program listing.room ds listing.flat.covers) events (Err why)

-- it lists the truncates, and ends in this trouble
abbrev pub IsStuckInTruncs : ℕ → Listing → List Event → Stuck → Type 0
IsStuckInTruncs caller listing events why = Runs caller (trunc_program listing.room) events (Err why)

-- Another caller or the same listed the container well before, and a share of it ends in this trouble, or the list of
-- truncates, whenever it is made.
pub record IsStuckBehind (lister caller : ℕ) (program : Tries Listing) (events : List Event) (why : Stuck) : Type 0 where
  pub listing : Listing
  pub scanning : List Event
  pub between : List Event
  pub reading : List Event
  pub later : List Event
  pub split : events ≡ scanning ++ (between ++ (reading ++ later))
  pub scans : Runs lister program scanning (Ok listing)
  pub ends : IsStuckInShare caller listing reading why ⊎ IsStuckInTruncs caller listing reading why

-- One of the programs of an opening, whose container the lister lists, ends in this trouble, when the caller runs it.
pub record OpensInTrouble (lister caller : ℕ) (events : List Event) (why : Stuck) : Type 0 where
  pub program : Tries Listing
  pub lists : Lists program
  pub ends : ((caller ≡ lister) × Runs lister program events (Err why)) ⊎ IsStuckBehind lister caller program events why
