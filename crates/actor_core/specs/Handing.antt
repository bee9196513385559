-- The shares of a reader that an actor hands out to workers, and what comes back of them.
use Rattle.std.specs.Prelude.{◌≡◌, ℕ, List, Option, Some, None, Result}
use Rattle.mount_model.specs.Program.{Program}
use Rattle.mount_model.specs.Process.{shares}
use Rattle.mount_model.specs.declared.stuck.Stuck.{Stuck}
use Rattle.mount_model.specs.declared.call.Ask.{Ask}
use Rattle.mount_model.specs.declared.reply.Reply.{Reply}
use Rattle.index_reader.specs.declared.sharing.Share.{Share}
use Rattle.index_reader.specs.declared.sharing.ShareRead.{ShareRead}
use Rattle.gather_flow.specs.Workers.{AreMachinesOf}
use Rattle.actor_core.specs.Work.{Work}
use Rattle.actor_core.specs.Progress.{Progress, going, handed}

-- What an actor may hand out: a program for each worker, and how the statement of this line goes on with their results.
pub record Handing : Type 0 where
  pub line : ℕ
  pub programs : List (Program Ask Reply (Result Share Stuck))
  pub goes_on : List (Result Share Stuck) → Work

abbrev pub handing_in : ℕ → Work → Option Handing
handing_in number (shares programs k alone) = Some (record { line = number; programs = programs; goes_on = k })
handing_in number _ = None

-- it may where the shares come next
abbrev pub handing_of : Progress → Option Handing
handing_of (going number work) = handing_in number work
handing_of _ = None

-- what may be handed out is, as machines; where there is nothing to hand out, nothing changes
abbrev pub Hands : Option Handing → Progress → Option (List ShareRead) → Progress → Type 0
Hands None old None new = new ≡ old
Hands None old (Some works) new = ⊥
Hands (Some handing) old None new = ⊥
Hands (Some handing) old (Some works) new = AreMachinesOf handing.programs works × (new ≡ handed handing.line handing.goes_on)

abbrev pub IsHandedOut : Progress → Option (List ShareRead) → Progress → Type 0
IsHandedOut old works new = Hands (handing_of old) old works new

-- the results of workers are awaited
abbrev pub IsHanded : Progress → Type 0
IsHanded (handed number k) = Unit {0}
IsHanded _ = ⊥

-- it goes on with the results
abbrev pub with_results : Progress → List (Result Share Stuck) → Progress
with_results (handed number k) results = going number (k results)
with_results other results = other
