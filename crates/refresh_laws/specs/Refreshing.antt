-- How a caller refreshes a reader, and what the reader then has.
use Rattle.std.specs.Prelude.{◌≡◌, ◌≤◌, ℕ, List, [], ◌∷◌, ◌++◌, Result, Ok, Err}
use Rattle.std.specs.List.{All, Any}
use Rattle.plfs_types.specs.declared.entries.Trunc.{Trunc}
use Rattle.plain_file.specs.declared.parts.ReaderParts.{ReaderParts}
use Rattle.plain_file.specs.declared.pieces.Piece.{Piece}
use Rattle.plain_file.specs.Runs.{AreRuns}
use Rattle.plain_file.specs.Size.{size_from}
use Rattle.plain_file.specs.Sources.{source_at, newer_source, kept_source}
use Rattle.mount_model.specs.History.{Event}
use Rattle.mount_model.specs.declared.stuck.Stuck.{Stuck}
use Rattle.mount_model.specs.Running.{Runs}
use Rattle.index_reader.specs.declared.listing.Listing.{Listing}
use Rattle.index_reader.specs.declared.opened.OpenReader.{OpenReader}
use Rattle.index_reader.specs.declared.sharing.Share.{Share}
use Rattle.index_reader.specs.Gathered.{AreFirstOf}
use Rattle.index_reader.specs.Hosts.{hosts_of}
use Rattle.index_reader.specs.Opened.{reader_from}
use Rattle.index_reader.specs.Opening.{scan_program}
use Rattle.index_reader.specs.Sharing.{share_program}
use Rattle.index_reader.specs.Truncs.{trunc_program}
use Rattle.reader_laws.specs.Moments.{Moment}
use Rattle.reader_laws.specs.Gathering.{Gathered}
use Rattle.reader_laws.specs.Failing.{FailsByStore}
use Rattle.reader_laws.specs.Opened.{HasOpenedIn}
use Rattle.refresh_index.specs.declared.refreshing.RefreshOut.{RefreshOut}
use Rattle.refresh_index.specs.Refreshing.{all_unpacked}

-- The caller runs the programs of a refresh in these events, and all end well: it lists the container's top and folders of
-- droppings, reads of each index dropping what is behind the entries that the reader has, and lists the truncates.
pub record RefreshesAlone (caller : ℕ) (events : List Event) (held : OpenReader) (listing : Listing) (share : Share) (truncs : List Trunc) : Type 0 where
  pub scanning : List Event
  pub gathering : List Event
  pub listing_truncs : List Event
  pub split : events ≡ scanning ++ (gathering ++ listing_truncs)
  pub scans : Runs caller (scan_program held.room) scanning (Ok listing)
  pub reads : Runs caller (share_program held.room (all_unpacked listing.droppings) held.covers) gathering (Ok share)
  pub truncates : Runs caller (trunc_program held.room) listing_truncs (Ok truncs)

-- The new reader is what is made of the former one and of what was read: of each writer the cover of the share, or else the
-- former one, and the former pieces, clipped as they are, merged with the share's and clipped by all truncates.
pub record IsRefreshOf (held : OpenReader) (listing : Listing) (share : Share) (truncs : List Trunc) (new : OpenReader) : Type 0 where
  pub room : new.room ≡ held.room
  pub hosts : new.hosts ≡ hosts_of listing.droppings
  pub covers : AreFirstOf (share.covers ++ held.covers) new.covers
  pub truncates : new.truncs ≡ truncs
  pub merged : List Piece
  pub runs : AreRuns merged
  pub newest : (x : ℕ) → source_at merged x ≡ newer_source (source_at held.pieces x) (source_at share.pieces x)
  pub size : new.size ≡ size_from merged truncs
  pub are_runs : AreRuns new.pieces
  pub kept : (x : ℕ) → source_at new.pieces x ≡ kept_source truncs x (source_at merged x)

-- the later cut has each dropping of the former one, with no fewer entries
abbrev pub IsNotBelow : List Gathered → List Gathered → Type 0
IsNotBelow former cut = All (λ (g : Gathered). Any (λ (h : Gathered). (h.dropping ≡ g.dropping) × (g.count ≤ h.count)) cut) former

-- In these events the caller refreshed the reader: what it then has is what a reader of the same room has that is opened in these
-- events; its cut is not below the former one, and its truncates are the former ones and such as came later.
pub record HasRefreshedIn (caller : ℕ) (start : Moment) (events : List Event) (former : List Gathered) (held new : OpenReader) : Type 0 where
  pub room : new.room ≡ held.room
  pub opened : HasOpenedIn caller start events new
  pub above : IsNotBelow former opened.cut
  pub more : List Trunc
  pub truncates : new.truncs ≡ held.truncs ++ more

-- The cuts have the same droppings and the same counts of them, however much of each was covered.
abbrev pub HaveSameCounts : List Gathered → List Gathered → Type 0
HaveSameCounts [] [] = Unit {0}
HaveSameCounts [] (h ∷ others) = ⊥
HaveSameCounts (g ∷ cut) [] = ⊥
HaveSameCounts (g ∷ cut) (h ∷ others) = (g.dropping ≡ h.dropping) × (g.count ≡ h.count) × HaveSameCounts cut others

-- What the program of a refresh came to: the reader is refreshed, or it is as it was, since the store failed meanwhile or memory
-- was wanted.
abbrev pub EndsWith : ℕ → Moment → List Event → List Gathered → ReaderParts → ReaderParts → Result (Unit {0}) Stuck → Type 0
EndsWith caller start events former held new (Ok done) = HasRefreshedIn caller start events former (reader_from held) (reader_from new)
EndsWith caller start events former held new (Err why) = (new ≡ held) × FailsByStore caller start.state events why

abbrev pub RefreshEnds : ℕ → Moment → List Event → List Gathered → ReaderParts → RefreshOut → Type 0
RefreshEnds caller start events former held out = EndsWith caller start events former held out.parts out.result
