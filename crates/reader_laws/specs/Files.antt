-- How a reader reads a file.
use Rattle.std.specs.Prelude.{◌≡◌, ◌+◌, ℕ, List, [], ◌∷◌, ◌++◌, length}
use Rattle.plfs_types.specs.declared.names.Path.{Path}
use Rattle.store_api.specs.declared.step.Answer.TheVariants.{Number, Bytes}
use Rattle.mount_model.specs.declared.call.Call.TheVariants.{Look}
use Rattle.mount_model.specs.declared.call.Look.TheVariants.{Length, Read}
use Rattle.mount_model.specs.declared.reply.Reply.TheVariants.{Looked}
use Rattle.reader_laws.specs.Seen.{Asked}

-- the length of the file was asked and told
pub record IsFileLength (room : ℕ) (path : Path) (length : ℕ) (asked : Asked) : Type 0 where
  pub call : asked.ask.call ≡ Look room (Length path)
  pub reply : asked.reply ≡ Looked (Number length)

-- bytes of the file were asked and told
pub record IsFileRead (room : ℕ) (path : Path) (at len : ℕ) (bytes : List ℕ) (asked : Asked) : Type 0 where
  pub call : asked.ask.call ≡ Look room (Read path at len)
  pub reply : asked.reply ≡ Looked (Bytes bytes)

-- Reads of the file's bytes from this place on, each from where the one before it ended, until they have come to that
-- one, and what they gave.
abbrev pub AreFileReads : ℕ → Path → ℕ → ℕ → List Asked → List ℕ → Type 0
AreFileReads room path at end [] content = (at ≡ end) × (content ≡ [])
AreFileReads room path at end (asked ∷ rest) content =
    (len : ℕ) × (bytes more : List ℕ) × IsFileRead room path at len bytes asked × AreFileReads room path (at + length bytes) end rest more × (content ≡ bytes ++ more)

-- The file's length was asked, and then all its bytes.
pub record ReadsFile (room : ℕ) (path : Path) (content : List ℕ) (asked : List Asked) : Type 0 where
  pub first : Asked
  pub reads : List Asked
  pub calls : asked ≡ first ∷ reads
  pub told : ℕ
  pub call : first.ask.call ≡ Look room (Length path)
  pub reply : first.reply ≡ Looked (Number told)
  pub bytes : AreFileReads room path 0 told reads content
