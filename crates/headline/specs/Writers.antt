-- What the lines of an actor tell of a writer: its writes, and how many of these have landed at least and at most.
use Rattle.std.specs.Prelude.{ℕ, ◌-◌, ◌==◌, nat_le, Bool, true, false, if◌then◌else◌, List, [], ◌∷◌, ◌++◌, length, Option, Some, None, slice_get}
use Rattle.plain_file.specs.declared.changes.Change.{Change}
use Rattle.plain_file.specs.declared.changes.Change.TheVariants.{Write as Written}
use Rattle.plain_file.specs.File.{stored_bytes}
use Rattle.store_api.specs.declared.tree.Tree.{Tree}
use Rattle.script_lang.specs.declared.line.Outcome.{Outcome}
use Rattle.script_lang.specs.declared.line.Outcome.TheVariants.{Closed, Gone, Opened, Refused, Synced, Wrote}
use Rattle.script_lang.specs.declared.line.Why.TheVariants.{StampsSpent, TooFar}
use Rattle.script_lang.specs.declared.script.ActorDecl.{ActorDecl}
use Rattle.script_lang.specs.declared.script.Statement.{Statement}
use Rattle.script_lang.specs.declared.script.Statement.TheVariants.{Close, Sync, Write}
use Rattle.outcomes.specs.Data.{bytes_of}
use Rattle.headline.specs.Run.{Run, Told, own}
use Rattle.headline.specs.Trees.{landed_writes}

-- A writer of a container: its writes, the oldest first, and how many of them have landed at least and at most.
pub record Writer : Type 0 where
  pub host : ℕ
  pub id : ℕ
  pub writes : List Change
  pub least : ℕ
  pub most : ℕ

-- whether it is the one that its actor opened last, and what is told of it
pub record Account : Type 0 where
  pub latest : Bool
  pub writes : List Change
  pub least : ℕ
  pub most : ℕ

abbrev pub nothing : Bool → Account
nothing latest = record { latest = latest; writes = []; least = 0; most = 0 }

-- this many have landed, and any that were written
abbrev pub all_landed : ℕ → Account → Account
all_landed count a = record { latest = a.latest; writes = a.writes; least = count; most = count }

abbrev pub any_landed : Account → Account
any_landed a = record { latest = a.latest; writes = a.writes; least = a.least; most = length a.writes }

-- Its buffer holds so many entries. A write that may have met a full one had it emptied first, and surely where it is sure how many had landed.
abbrev pub made_room : ℕ → Account → Account
made_room capacity a =
    if nat_le capacity (length a.writes - a.least)
    then record { latest = a.latest; writes = a.writes; least = if a.least == a.most then length a.writes else a.least; most = length a.writes }
    else a

-- one write more, whose bytes lie behind those of the others
abbrev pub one_more : ℕ → ℕ → List ℕ → ℕ → Account → Account
one_more id at bytes stamp a = record {
  latest = a.latest;
  writes = a.writes ++ Written (record { at = at; len = length bytes; physical = stored_bytes a.writes; stamp = stamp; writer = id }) bytes ∷ [];
  least = a.least;
  most = a.most;
}

-- After the line of a statement of its actor. A write of no bytes makes no call, nor does an actor that was stopped. After any other end, as a fault or a stop,
-- more may have landed.
abbrev pub after_write : ℕ → ℕ → ℕ → List ℕ → Account → Outcome → Account
after_write id capacity at bytes a (Wrote place len (Some stamp)) = one_more id at bytes stamp (made_room capacity a)
after_write id capacity at bytes a (Wrote place len None) = a
after_write id capacity at bytes a (Refused TooFar) = made_room capacity a
after_write id capacity at bytes a (Refused StampsSpent) = made_room capacity a
after_write id capacity at bytes a Gone = a
after_write id capacity at bytes a other = any_landed a

abbrev pub after_sync : Account → Outcome → Account
after_sync a (Synced count) = all_landed count a
after_sync a (Closed count) = all_landed count a
after_sync a Gone = a
after_sync a other = any_landed a

abbrev pub after_line : ℕ → ℕ → Account → Statement → Outcome → Account
after_line id capacity a (Write at content) outcome = after_write id capacity at (bytes_of content) a outcome
after_line id capacity a Sync outcome = after_sync a outcome
after_line id capacity a Close outcome = after_sync a outcome
after_line id capacity a other outcome = a

abbrev pub told_of : ℕ → ℕ → Account → Statement → Outcome → Account
told_of id capacity a statement (Opened other) = if other == id then nothing true else record { latest = false; writes = a.writes; least = a.least; most = a.most }
told_of id capacity a statement outcome = if a.latest then after_line id capacity a statement outcome else a

abbrev pub account_of : ℕ → ℕ → Account → List Told → Account
account_of id capacity a [] = a
account_of id capacity a (t ∷ lines) = account_of id capacity (told_of id capacity a t.statement t.outcome) lines

-- the actor's host, and the capacity of its buffers
abbrev pub host_of : Option ActorDecl → ℕ
host_of None = 0
host_of (Some declared) = declared.host

abbrev pub cap_of : Option ActorDecl → ℕ
cap_of None = 0
cap_of (Some declared) = declared.cap

-- what these lines tell of the writer of this id of the actor at this place
abbrev pub account : Run → ℕ → ℕ → List Told → Account
account run actor id lines = account_of id (cap_of (slice_get run.script.actors actor)) (nothing false) (own actor lines)

-- a writer that the tree had before
abbrev pub old_writer : Tree → ℕ → ℕ → ℕ → Writer
old_writer tree n host id = record { host = host; id = id; writes = landed_writes tree n host id; least = length (landed_writes tree n host id); most = length (landed_writes tree n host id) }

-- one that the actor opened, of which as much has landed as these lines make sure, and no more than those allow
abbrev pub new_writer : Run → ℕ → ℕ → List Told → List Told → List Told → Writer
new_writer run actor id all sure maybe = record {
  host = host_of (slice_get run.script.actors actor);
  id = id;
  writes = (account run actor id all).writes;
  least = (account run actor id sure).least;
  most = (account run actor id maybe).most;
}
