-- What the program of an opening comes to.
use Rattle.std.specs.Prelude.{ℕ, List, Result, Ok, Err}
use Rattle.mount_model.specs.History.{Event}
use Rattle.mount_model.specs.declared.stuck.Stuck.{Stuck}
use Rattle.index_reader.specs.declared.opened.OpenReader.{OpenReader}
use Rattle.reader_laws.specs.Moments.{Moment}
use Rattle.reader_laws.specs.Failing.{FailsOrLacks}
use Rattle.reader_laws.specs.Opened.{HasOpenedIn}

-- the caller opened the reader in these events, or the store failed or lacks the container
abbrev pub OpeningEnds : ℕ → Moment → List Event → Result OpenReader Stuck → Type 0
OpeningEnds caller start events (Ok reader) = HasOpenedIn caller start events reader
OpeningEnds caller start events (Err why) = FailsOrLacks caller start.state events why
