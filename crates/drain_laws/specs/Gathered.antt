-- When a drain gathered its source: the places of two of its calls there.
use Rattle.std.specs.Prelude.{◌≡◌, ℕ, List, [], ◌∷◌, ◌++◌}
use Rattle.turn_object.specs.Callers.{made_by}
use Rattle.mount_model.specs.declared.call.Call.TheVariants.{Look}
use Rattle.mount_model.specs.declared.call.Look.TheVariants.{List as ListFolder}
use Rattle.mount_model.specs.History.{Event}
use Rattle.mount_model.specs.Paths.{truncs}
use Rattle.reader_laws.specs.Moments.{Moment, moment_after}
use Rattle.drain_sound.specs.Draining.{Happening, at_source, at_target}

-- the calls at the source
abbrev pub events_in : List Happening → List Event
events_in [] = []
events_in (at_source event ∷ rest) = event ∷ events_in rest
events_in (at_target act ∷ rest) = events_in rest

-- The caller's first call, and its listing of the truncates of the room of this number.
pub record HasGathered (caller number : ℕ) (events : List Event) : Type 0 where
  pub before : List Event
  pub first : Event
  pub between : List Event
  pub listing : Event
  pub later : List Event
  pub split : events ≡ before ++ ((first ∷ between) ++ listing ∷ later)
  pub none_before : made_by caller before ≡ []
  pub by_caller : first.caller ≡ caller
  pub listed_by : listing.caller ≡ caller
  pub lists : listing.ask.call ≡ Look number (ListFolder truncs)

-- the source as the first call is made, and as the truncates are listed
abbrev pub began_at : {caller number : ℕ} {events : List Event} → Moment → HasGathered caller number events → Moment
began_at source g = moment_after source g.before

abbrev pub listed_at : {caller number : ℕ} {events : List Event} → Moment → HasGathered caller number events → Moment
listed_at source g = moment_after (began_at source g) (g.first ∷ g.between)
