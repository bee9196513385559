-- Readers of one cut and the same truncates are alike.
use Rattle.std.proofs.Common.{◌≡◌, List, ap, sym, ◌∙◌, subst}
use Rattle.plain_file.specs.File.{plain_size}
use Rattle.plain_file.specs.Runs.{ArePieces}
use Rattle.plain_file.proofs.Facts.{same_runs}
use Rattle.mount_sound.specs.Ledger.{entries_in}
use Rattle.index_reader.specs.declared.opened.OpenReader.{OpenReader}
use Rattle.reader_laws.specs.Moments.{Moment}
use Rattle.reader_laws.specs.Gathering.{Gathered}
use Rattle.reader_laws.specs.View.{changes_in, writes_in}
use Rattle.reader_laws.specs.Opened.{HasOpenReader}

pub readers_alike : (start other end : Moment) (a b : OpenReader) (cut : List Gathered) → HasOpenReader start end a cut → HasOpenReader other end b cut → a.truncs ≡ b.truncs → (a.pieces ≡ b.pieces) × (a.size ≡ b.size) × (a.covers ≡ b.covers)
readers_alike start other end a b cut f g same =
    let of_b : ArePieces (entries_in (writes_in end cut)) a.truncs b.pieces = subst (λ ts. ArePieces (entries_in (writes_in end cut)) ts b.pieces) (sym same) g.pieces in (
      same_runs a.pieces b.pieces f.pieces.runs of_b.runs (λ x. f.pieces.shown x ∙ sym (of_b.shown x)),
      f.size ∙ ap (λ ts. plain_size (changes_in end cut ts)) same ∙ sym g.size,
      f.covers ∙ sym g.covers,
    )
