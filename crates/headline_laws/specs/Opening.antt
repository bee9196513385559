-- How a statement opens a file for a reader.
use Rattle.std.specs.Prelude.{◌≡◌, ◌≤◌, ℕ, List, ◌∷◌, ◌++◌}
use Rattle.std.specs.List.{All, Any}
use Rattle.plfs_types.specs.declared.entries.Trunc.{Trunc}
use Rattle.mount_model.specs.Paths.{Name}
use Rattle.mount_model.specs.declared.call.Call.TheVariants.{Find, Greet}
use Rattle.mount_model.specs.declared.reply.Reply.TheVariants.{Room}
use Rattle.mount_model.specs.History.{Event}
use Rattle.reader_laws.specs.Moments.{Moment, Dropping, moment_after}
use Rattle.reader_laws.specs.Seen.{Asked, asked_in, calls_of}
use Rattle.reader_laws.specs.Gathering.{Gathered}
use Rattle.mount_sound.specs.Owed.{IsLawful}
use Rattle.reader_laws.specs.GatheringListing.{AreTruncsAt}
use Rattle.reader_laws.specs.GatheringOpening.{ListsTruncs, HasView}
use Rattle.reader_laws.specs.View.{IsAboveCut}
use Rattle.reader_laws.specs.Bounds.{IsSyncedIn}
use Rattle.reader_laws.specs.Naming.{IsRoomNamed}
use Rattle.headline_laws.specs.OneFile.{OneFile}

-- a stretch of a history, and all that went before it
pub record Stretch : Type 0 where
  pub before : List Event
  pub events : List Event

-- What the caller saw of a container in this stretch, from its first call on, which comes behind these events. A later call listed the truncates, which are the
-- file's. The cut has of each writer at least what had landed at the first call, and so all that was synced by then, and at most what had landed at the
-- listing; and it misses no writer whose dropping stood at the first call. Truncates that come later are above all its writes.
pub record SeesOneFile (start : Moment) (caller : ℕ) (stretch : Stretch) (earlier : List Event) (first : Event) (file : OneFile) : Type 0 where
  pub more : List Event
  pub listing : Event
  pub later : List Event
  pub split : stretch.events ≡ earlier ++ (first ∷ more ++ listing ∷ later)
  -- but for a greeting the caller makes no call before the first
  pub waits : All (λ (a : Asked). a.ask.call ≡ Greet) (calls_of caller earlier)
  pub begins : first.caller ≡ caller
  pub lists : listing.caller ≡ caller
  pub truncates : ListsTruncs file.room file.truncs (asked_in listing)
  pub until : file.moment ≡ moment_after start (stretch.before ++ (earlier ++ first ∷ more))
  pub view : HasView (moment_after start (stretch.before ++ earlier)) file.moment file.room file.cut file.truncs
  pub synced : (d : Dropping) (count : ℕ) → d.room ≡ file.room → IsSyncedIn (stretch.before ++ earlier) d count → Any (λ (g : Gathered). (g.dropping ≡ d) × (count ≤ g.count)) file.cut
  pub above : (events : List Event) (ts : List Trunc) → IsLawful file.moment.state events → AreTruncsAt (moment_after file.moment events) file.room ts → (more : List Trunc) × (ts ≡ file.truncs ++ more) × All (IsAboveCut file.moment file.cut) more

-- In this stretch the caller opened the file of this name: its first call found the container.
pub record OpensOneFile (start : Moment) (caller : ℕ) (stretch : Stretch) (name : Name) (file : OneFile) : Type 0 where
  pub earlier : List Event
  pub first : Event
  pub sees : SeesOneFile start caller stretch earlier first file
  pub finds : first.ask.call ≡ Find name
  pub found : first.reply ≡ Room file.room
  pub named : IsRoomNamed (moment_after start (stretch.before ++ earlier)) name file.room
