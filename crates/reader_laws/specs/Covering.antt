-- What covers tell of writers' entries.
use Rattle.std.specs.Prelude.{ℕ, ◌+◌, List, [], ◌∷◌, ◌++◌, length}
use Rattle.plfs_types.specs.declared.entries.Cover.{Cover}
use Rattle.plfs_types.specs.declared.entries.Entry.{Entry}
use Rattle.index_entry.specs.Entries.{logged, last_stamp}
use Rattle.index_reader.specs.Sharing.{covered}
use Rattle.reader_laws.specs.Moments.{Moment}
use Rattle.reader_laws.specs.Gathering.{Gathered}
use Rattle.reader_laws.specs.View.{own_entries}

-- the cover with these entries more
abbrev pub cover_with : Cover → List Entry → Cover
cover_with c es = record { writer = c.writer; count = c.count + length es; bytes = c.bytes + logged es; stamp = last_stamp c.stamp es }

-- a cover of no entries
abbrev pub empty_cover : ℕ → Cover
empty_cover writer = record { writer = writer; count = 0; bytes = 0; stamp = 0 }

-- Of each writer of the cut that has entries there the cover of these: how many they are, their bytes and last stamp.
abbrev pub counts_in : Moment → List Gathered → List Cover
counts_in end [] = []
counts_in end (g ∷ cut) = covered (cover_with (empty_cover g.dropping.writer) (own_entries end g)) ++ counts_in end cut
