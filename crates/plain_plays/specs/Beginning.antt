-- A machine that begins: over a store where nothing was, and beside any mount.
use Rattle.std.specs.Prelude.{◌≡◌, ℕ, List, [], ◌∷◌, Option}
use Rattle.store_api.specs.declared.tree.Tree.{Tree}
use Rattle.store_api.specs.Names.{marks_name}
use Rattle.reader_laws.specs.Moments.{Moment}
use Rattle.plain_machine.specs.Machine.{Plain, PlainActor}
use Rattle.plain_machine.specs.Becoming.{empty_room}
use Rattle.plain_plays.specs.Mirrors.{Mirrors}

-- a store without rooms
abbrev pub bare_tree : Tree
bare_tree = record { rooms = [] }

-- the machine of a mount over it, with these actors: it has the room of the marks alone
abbrev pub first_machine : List PlainActor → Option (List ℕ) → ℕ → Plain
first_machine actors times mark = record { rooms = empty_room marks_name ∷ []; actors = actors; times = times; mark = mark; serial = 0 }

-- a machine with these actors has what the mount has then
pub record HasMachine (m : Moment) (actors : List PlainActor) : Type 0 where
  pub machine : Plain
  pub has_actors : machine.actors ≡ actors
  pub mirrors : Mirrors m machine
