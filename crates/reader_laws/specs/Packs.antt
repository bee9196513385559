-- How a reader gathers the entries of a writer from its packed index.
use Rattle.std.specs.Prelude.{◌≡◌, ◌≢◌, ◌⊎◌, ◌<◌, ◌^◌, ℕ, List, [], ◌∷◌, ◌++◌, drop}
use Rattle.std.specs.Int.{w64, to_le_bytes}
use Rattle.plfs_types.specs.declared.entries.Entry.{Entry}
use Rattle.plfs_types.specs.declared.names.Path.{Path}
use Rattle.container_layout.specs.declared.items.Item.TheVariants.{Packed}
use Rattle.container_layout.specs.Paths.{path_of}
use Rattle.index_pack.specs.declared.trouble.TheConstants.{HEAD_SIZE}
use Rattle.index_pack.specs.Spelling.{letters, Packs}
use Rattle.reader_laws.specs.Moments.{Dropping}
use Rattle.reader_laws.specs.Seen.{Asked}
use Rattle.reader_laws.specs.Files.{IsFileLength, IsFileRead, AreFileReads}

-- where the packed index of the dropping lies
abbrev pub pack_of : Dropping → Path
pack_of d = path_of (Packed d.host d.writer)

-- the first bytes of a packed index, which tell that it has so many entries
pub record TellsCount (head : List ℕ) (count : ℕ) : Type 0 where
  pub runs : ℕ
  pub fits : count < 2 ^ 64
  pub spelled : head ≡ letters ++ to_le_bytes w64 count ++ to_le_bytes w64 runs

-- Where all of so many entries are covered, no more is read. Else the rest is, up to the length that was told, and the
-- bytes are the packed index of the writer's entries, of which those behind the covered ones are the tail.
abbrev pub ReadsRest : Dropping → ℕ → ℕ → ℕ → List ℕ → List Asked → List Entry → Type 0
ReadsRest d told count covered head reads tail =
    ((count ≡ covered) × (reads ≡ []) × (tail ≡ []))
    ⊎ ((count ≢ covered) × ((content : List ℕ) × (entries : List Entry) × AreFileReads d.room (pack_of d) HEAD_SIZE told reads content × Packs (head ++ content) entries × (tail ≡ drop covered entries)))

-- The calls that gathered a writer's entries: the length of its packed index, its first bytes, and then the rest, where not
-- all of its entries are covered.
pub record ReadsPack (d : Dropping) (covered count : ℕ) (tail : List Entry) (asked : List Asked) : Type 0 where
  pub first : Asked
  pub second : Asked
  pub reads : List Asked
  pub calls : asked ≡ first ∷ second ∷ reads
  pub told : ℕ
  pub head : List ℕ
  pub pack_length : IsFileLength d.room (pack_of d) told first
  pub pack_head : IsFileRead d.room (pack_of d) 0 HEAD_SIZE head second
  pub tells : TellsCount head count
  pub rest : ReadsRest d told count covered head reads tail
