-- What a caller found that looked at a file which nobody had open.
use Rattle.std.specs.Prelude.{◌≡◌, ℕ, List, [], ◌∷◌, ◌++◌}
use Rattle.plain_file.specs.File.{plain_size}
use Rattle.mount_model.specs.declared.call.Call.TheVariants.{Find}
use Rattle.mount_model.specs.declared.reply.Reply.TheVariants.{Room}
use Rattle.mount_model.specs.Paths.{Name}
use Rattle.mount_model.specs.History.{Event}
use Rattle.attr_flow.specs.declared.attr.Attr.{Attr}
use Rattle.attr_flow.specs.Shares.{stored_in}
use Rattle.reader_laws.specs.Gathering.{Gathered}
use Rattle.reader_laws.specs.Moments.{Moment, moment_after}
use Rattle.reader_laws.specs.GatheringOpening.{HasView, ListsTruncs}
use Rattle.reader_laws.specs.Seen.{asked_in, calls_of}
use Rattle.reader_laws.specs.View.{changes_in}
use Rattle.look_laws.specs.Shares.{shares_seen}

-- What is told is that of the plain file of the cut and the truncates: its size, the bytes of each writer, and of all of them.
pub record TellsOf (end : Moment) (cut : List Gathered) (attr : Attr) : Type 0 where
  pub size_is : attr.size ≡ plain_size (changes_in end cut attr.truncs)
  pub shares_are : attr.shares ≡ shares_seen end cut
  pub stored_is : attr.stored ≡ stored_in attr.shares

-- In these events the caller found the file of this name by its first call, and listed its truncates by a later one. What it tells is that of a cut that lies
-- between these two calls.
pub record HasToldOf (caller : ℕ) (start : Moment) (events : List Event) (name : Name) (attr : Attr) : Type 0 where
  pub room : ℕ
  pub before : List Event
  pub first : Event
  pub more : List Event
  pub listing : Event
  pub later : List Event
  pub split : events ≡ before ++ (first ∷ more ++ listing ∷ later)
  pub waits : calls_of caller before ≡ []
  pub begins : first.caller ≡ caller
  pub finds : first.ask.call ≡ Find name
  pub found : first.reply ≡ Room room
  pub lists : listing.caller ≡ caller
  pub truncates : ListsTruncs room attr.truncs (asked_in listing)
  pub cut : List Gathered
  pub view : HasView (moment_after start before) (moment_after (moment_after start before) (first ∷ more)) room cut attr.truncs
  pub tells : TellsOf (moment_after (moment_after start before) (first ∷ more)) cut attr
