-- Which container a line speaks of. Containers get names by `open` and `rename` lines, in some order that agrees with that of the lines.
use Rattle.std.specs.Prelude.{◌≡◌, ◌⊎◌, ◌<◌, ℕ, ◌+◌, false, List, [], ◌∷◌, ◌++◌, map, length, take, drop, Option, Some, None, slice_get}
use Rattle.std.specs.List.{All, AllByRecursion, Any}
use Rattle.store_api.specs.declared.tree.Tree.{Tree}
use Rattle.store_api.specs.Names.{marks_name}
use Rattle.script_lang.specs.declared.line.Outcome.{Outcome}
use Rattle.script_lang.specs.declared.line.Outcome.TheVariants.{Fault, Opened, Refused, Renamed, Stopped}
use Rattle.script_lang.specs.declared.line.Why.TheVariants.{Held, IdsSpent}
use Rattle.script_lang.specs.declared.script.Statement.{Statement}
use Rattle.script_lang.specs.declared.script.Statement.TheVariants.{Flatten, Open, Recover, Refresh, Rename, Ropen, Stat, Trunc}
use Rattle.headline.specs.Run.{IsLine, Run, Told, surely_before}
use Rattle.plfs_types.specs.Places.{IsAmong}

abbrev pub Name : Type 0
Name = List ℕ

-- by the line, the container of this number got this name
pub record Naming : Type 0 where
  pub by : Told
  pub number : ℕ
  pub name : Name

-- Who reads a run has to know in which order its containers got their names, and which container each line speaks of.
pub record Story : Type 0 where
  pub namings : List Naming
  pub of : Told → ℕ

-- the names of the containers, by their numbers, once they were named so
abbrev pub named : List Name → List Naming → List Name
named names [] = names
named names (n ∷ namings) = named (take n.number names ++ n.name ∷ drop (n.number + 1) names) namings

abbrev pub names_in : Tree → List Name
names_in tree = map (λ room. room.name) tree.rooms

abbrev pub IsFree : Name → List Name → Type 0
IsFree name names = IsAmong name names → ⊥

-- those at first; the marks of mounts have a room of their own
pub data AreFirstNames (run : Run) (names : List Name) : Type 0 where
  marked : IsAmong marks_name (names_in run.before) → names ≡ names_in run.before → AreFirstNames run names
  fresh : IsFree marks_name (names_in run.before) → names ≡ names_in run.before ++ marks_name ∷ [] → AreFirstNames run names

-- a line that may have changed something before it broke
pub data BrokeOff (outcome : Outcome) : Type 0 where
  failed : outcome ≡ Fault → BrokeOff outcome
  stopped : outcome ≡ Stopped → BrokeOff outcome

-- A container is made by the first `open` of its name, whether a writer was opened or not, and no other has the name. A rename gives the container that it
-- found another name, which no container has. (By then it may have lost the one by which it was found to another rename.)
pub data MayName (names : List Name) (n : Naming) : Type 0 where
  made : n.by.statement ≡ Open n.name → ((id : ℕ) × (n.by.outcome ≡ Opened id)) ⊎ (n.by.outcome ≡ Refused Held) ⊎ (n.by.outcome ≡ Refused IdsSpent) ⊎ BrokeOff n.by.outcome → n.number ≡ length names → IsFree n.name names → MayName names n
  moved : (old : Name) → n.by.statement ≡ Rename old n.name → (n.by.outcome ≡ Renamed) ⊎ BrokeOff n.by.outcome → n.number < length names → IsFree n.name names → MayName names n

-- one after the other, and none before one that ended before it began
abbrev pub MayBeNamed : Run → List Name → List Naming → Type 0
MayBeNamed run names [] = Unit {0}
MayBeNamed run names (n ∷ later) =
    IsLine run n.by × MayName names n × AllByRecursion (λ (m : Naming). (surely_before run m.by n.by ≡ false) × (m.by.place ≡ n.by.place → ⊥)) later
    × MayBeNamed run (named names (n ∷ [])) later

-- These may be the names while the line's statement is made.
pub record MayStand (run : Run) (story : Story) (t : Told) (names : List Name) : Type 0 where
  pub first : List Name
  pub are_first : AreFirstNames run first
  pub earlier : List Naming
  pub later : List Naming
  pub split : story.namings ≡ earlier ++ later
  pub begun : AllByRecursion (λ (n : Naming). surely_before run t n.by ≡ false) earlier
  pub not_ended : AllByRecursion (λ (n : Naming). surely_before run n.by t ≡ false) later
  pub stand : names ≡ named first earlier

-- the container that a statement names
abbrev pub name_of : Statement → Option Name
name_of (Open name) = Some name
name_of (Ropen name workers) = Some name
name_of (Stat name) = Some name
name_of (Flatten name) = Some name
name_of (Recover name) = Some name
name_of (Trunc name size) = Some name
name_of (Rename name to) = Some name
name_of other = None

-- The line speaks of its container by the name that its statement has.
pub record Named (run : Run) (story : Story) (t : Told) : Type 0 where
  pub name : Name
  pub asked : name_of t.statement ≡ Some name
  pub names : List Name
  pub stand : MayStand run story t names
  pub found : slice_get names (story.of t) ≡ Some name

-- The namings lead from the names before to those after. Each is of the container that its line speaks of, and each rename that was told is one of them.
pub record NamingsLead (run : Run) (story : Story) : Type 0 where
  pub first : List Name
  pub are_first : AreFirstNames run first
  pub may_be : MayBeNamed run first story.namings
  pub left : names_in run.after ≡ named first story.namings
  pub found : All (λ (n : Naming). story.of n.by ≡ n.number) story.namings
  pub renamed : (t : Told) → IsLine run t → t.outcome ≡ Renamed → Any (λ (n : Naming). n.by ≡ t) story.namings

pub record AreNamed (run : Run) (story : Story) : Type 0 where
  pub lead : NamingsLead run story
  -- a line of which `of` is no container speaks of none, and one of which it is one speaks of it by its name, but for a refresh
  pub speak : (t : Told) → IsLine run t → story.of t < length run.after.rooms → Named run story t ⊎ (t.statement ≡ Refresh)
