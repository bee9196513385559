-- What is seen of a run over a store that told its tree before and after.
use Rattle.std.specs.Prelude.{◌≡◌, ℕ, false, List, Option, Some}
use Rattle.store_api.specs.declared.tree.Tree.{Tree}
use Rattle.store_api.specs.Acts.{Stored}
use Rattle.script_lang.specs.declared.line.Line.{Line}
use Rattle.script_lang.specs.declared.script.Script.{Script}
use Rattle.headline.specs.Run.{Run}
use Rattle.headline.specs.Headline.{IsOrderly}
use Rattle.headline.specs.Names.{Story}
use Rattle.headline.specs.Still.{HasStill}
use Rattle.headline.specs.Stories.{Fits}
use Rattle.program_ends.specs.SoundTrees.{TellsSoundTree}

-- the script and its lines, the tree before and after, the clock's times, and the counts of faults
abbrev pub seen_run : Option (List ℕ) → Stored → Script → List Line → Stored → Tree → Tree → Run
seen_run times before script lines after tree later = record {
  script = script;
  before = tree;
  lines = lines;
  after = later;
  in_order = false;
  times = times;
  faults = before.faults;
  faults_after = after.faults;
}

-- Where the store told a sound tree before and tells one after, the lines are orderly.
abbrev pub TellsOrderly : Option (List ℕ) → Stored → Script → List Line → Stored → Type 0
TellsOrderly times before script lines after =
    TellsSoundTree before → (tree later : Tree) → before.tree ≡ Some tree → after.tree ≡ Some later → IsOrderly (seen_run times before script lines after tree later)

-- Where the store told a sound tree before and tells one after, what stood in that one stands still.
abbrev pub TellsStill : Option (List ℕ) → Stored → Script → List Line → Stored → Type 0
TellsStill times before script lines after =
    TellsSoundTree before → (tree later : Tree) → before.tree ≡ Some tree → after.tree ≡ Some later → HasStill (seen_run times before script lines after tree later)

-- So there is a story that fits: of which container each line speaks.
abbrev pub TellsStory : Option (List ℕ) → Stored → Script → List Line → Stored → Type 0
TellsStory times before script lines after =
    TellsSoundTree before → (tree later : Tree) → before.tree ≡ Some tree → after.tree ≡ Some later → (story : Story) × Fits (seen_run times before script lines after tree later) story
