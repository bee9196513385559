-- What a flattened index covers of a writer.
use Rattle.std.specs.Prelude.{ℕ, List, Option, Some, None}
use Rattle.plfs_types.specs.declared.entries.Cover.{Cover}
use Rattle.index_reader.specs.Found.{item_of, AscendBy}

-- covers by ascending writer
abbrev pub AreByWriter : List Cover → Type 0
AreByWriter covers = AscendBy (λ (c : Cover). c.writer) covers

-- a writer without a cover has none of its entries covered
abbrev pub or_nothing : ℕ → Option Cover → Cover
or_nothing writer None = record { writer = writer; count = 0; bytes = 0; stamp = 0 }
or_nothing writer (Some cover) = cover

-- the cover of a writer, or one of no entries
abbrev pub cover_of : ℕ → List Cover → Cover
cover_of writer covers = or_nothing writer (item_of (λ (c : Cover). c.writer) writer covers)
