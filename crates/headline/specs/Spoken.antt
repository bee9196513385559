-- By which names lines speak of containers, whatever is renamed meanwhile.
use Rattle.std.specs.Prelude.{ℕ, List}
use Rattle.script_lang.specs.declared.line.Outcome.TheVariants.{Listed, Refused, Renamed}
use Rattle.script_lang.specs.declared.line.Why.TheVariants.{Busy, Exists, Held, NoFile}
use Rattle.headline.specs.Run.{IsLine, Run, Says, Told}
use Rattle.headline.specs.Names.{Named, Story}
use Rattle.headline.specs.Changes.{Holds}
use Rattle.headline.specs.Causes.{HasCause}
use Rattle.headline.specs.Listing.{ListsNames}
use Rattle.headline.specs.Readers.{SpeaksOf}

-- A line that tells of a container speaks of it by its statement's name: the container had that name at a time of the line. So do a rename, and a truncate or a
-- rename that is refused as busy or as held. Names that are listed all stood at one time of the line. Where no file was found none had the name. Where a rename
-- was refused as `exists` one had the new name.
pub record HasSpoken (run : Run) (story : Story) : Type 0 where
  pub finds : (t : Told) (name : List ℕ) → IsLine run t → SpeaksOf name t.statement t.outcome → Named run story t
  pub renamed : (t : Told) → Says run t Renamed → Named run story t
  pub busy : (t : Told) (host id : ℕ) → Says run t (Refused (Busy host id)) → Named run story t
  pub held : (t : Told) → Says run t (Refused Held) → Holds t.statement → Named run story t
  pub listed : (t : Told) (names : List (List ℕ)) → Says run t (Listed names) → ListsNames run story t names
  pub missing : (t : Told) → Says run t (Refused NoFile) → HasCause run story t NoFile
  pub exists : (t : Told) → Says run t (Refused Exists) → HasCause run story t Exists
