-- A run of an engine that served what it was asked for, and what is seen of it.
use Rattle.std.specs.Prelude.{◌≡◌, ◌⊎◌, ◌++◌, ℕ, false, List, Some, length}
use Rattle.edge_io.specs.Source.{Given}
use Rattle.store_api.specs.Acts.{Stored}
use Rattle.store_api.specs.declared.tree.Tree.{Tree}
use Rattle.mount_model.specs.Mounting.{IsMounted}
use Rattle.mount_model.specs.State.{State}
use Rattle.mount_sound.specs.Sound.{IsSoundTree}
use Rattle.script_lang.specs.declared.line.Line.{Line}
use Rattle.script_lang.specs.declared.script.Numbered.{Numbered}
use Rattle.run_core.specs.Play.{IsPlay}
use Rattle.headline.specs.Headline.{IsOrderly}
use Rattle.headline.specs.Names.{Story}
use Rattle.headline.specs.Run.{Run}
use Rattle.headline.specs.Still.{HasStill}
use Rattle.headline.specs.Stories.{Fits}
use Rattle.program_ends.specs.Ends.{Ends}
use Rattle.serve_core.specs.declared.client.Client.{Client}
use Rattle.serve_core.specs.Serving.{script_of}
use Rattle.serve_program.specs.declared.exchange.Stop.{Stop}
use Rattle.serve_program.specs.Closing.{closings}
use Rattle.serve_program.specs.Exchange.{ExchangeEnds}
use Rattle.serve_program.specs.Words.{actors_on}

-- the input ended behind a frame, or within one, or the output failed
abbrev pub EndsWell : ℕ → Type 0
EndsWell status = (status ≡ 0) ⊎ (status ≡ 5) ⊎ (status ≡ 6)

-- It mounted the store and exchanged these requests, with these lines. Then each client closed its writer, with these further lines, and that is what is left.
pub record Serves (host : ℕ) (given given_after : Given) (e : Ends) (asked : List Numbered) (lines more : List Line) : Type 0 where
  pub start : State
  pub end : State
  pub mounted : IsMounted 0 e.times e.stored start
  pub stop : Stop
  pub clients : List Client
  pub mid : State
  pub exchanged : ExchangeEnds (actors_on host) start given e.taking stop asked lines clients mid given_after e.taking_after
  pub play : IsPlay (script_of (actors_on host) (asked ++ closings (length (actors_on host)))) start (lines ++ more) end
  pub kept : e.stored_after ≡ Some end.store

-- it served some requests so
pub record HasServed (host : ℕ) (given given_after : Given) (e : Ends) : Type 0 where
  pub asked : List Numbered
  pub lines : List Line
  pub more : List Line
  pub serves : Serves host given given_after e asked lines more

-- the store told this sound tree before, and what is left tells this one
pub record SeesTrees (e : Ends) (before : Tree) (left : Stored) (after : Tree) : Type 0 where
  pub told : e.stored.tree ≡ Some before
  pub sound : IsSoundTree before
  pub left_is : e.stored_after ≡ Some left
  pub tells : left.tree ≡ Some after

-- what was asked for with the closings behind it, its lines, and the trees
abbrev pub seen_of : ℕ → Ends → List Numbered → List Line → Tree → Stored → Tree → Run
seen_of host e asked lines before left after = record {
  script = script_of (actors_on host) (asked ++ closings (length (actors_on host)));
  before = before;
  lines = lines;
  after = after;
  in_order = false;
  times = e.times;
  faults = e.stored.faults;
  faults_after = left.faults;
}

-- The lines are orderly, what stood in the tree before stands still, and a story fits: of which container each line speaks.
pub record KeepsItsWord (run : Run) : Type 0 where
  pub orderly : IsOrderly run
  pub still : HasStill run
  pub story : Story
  pub fits : Fits run story
