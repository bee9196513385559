-- How many bytes the writers of a cut have.
use Rattle.std.specs.Prelude.{List, [], ◌∷◌}
use Rattle.plfs_types.specs.declared.entries.ShareBytes.{ShareBytes}
use Rattle.index_entry.specs.Entries.{logged}
use Rattle.attr_flow.specs.Shares.{with_share}
use Rattle.reader_laws.specs.Gathering.{Gathered}
use Rattle.reader_laws.specs.Moments.{Moment}
use Rattle.reader_laws.specs.View.{own_entries}

-- how many bytes the first writes of each writer have, as many as the cut says; writers that have none are left out
abbrev pub shares_seen : Moment → List Gathered → List ShareBytes
shares_seen moment [] = []
shares_seen moment (g ∷ cut) = with_share g.dropping.writer (logged (own_entries moment g)) (shares_seen moment cut)
