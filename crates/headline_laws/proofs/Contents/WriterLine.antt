-- What the line of a statement says of writes: it opened a writer, or it wrote by the one that is open, or it did neither.
use Rattle.std.proofs.Common.{◌≡◌, ◌⊎◌, inl, inr, ℕ, Option, Some, None, refl, subst}
use Rattle.std.specs.Prelude.{⊤}
use Rattle.writer_laws.specs.Counting.{writes_told}
use Rattle.reader_laws.specs.Moments.{Moment}
use Rattle.script_lang.specs.declared.line.Outcome.{Outcome}
use Rattle.script_lang.specs.declared.line.Outcome.TheVariants as line
use Rattle.script_lang.specs.declared.line.Why.{Why}
use Rattle.script_lang.specs.declared.script.Data.{Data}
use Rattle.script_lang.specs.declared.script.Statement.{Statement}
use Rattle.script_lang.specs.declared.script.Statement.TheVariants as say
use Rattle.outcomes.specs.Data.{bytes_of}
use Rattle.headline_laws.specs.Ending.{DoesNothing}
use Rattle.headline_laws.specs.OneWriter.{OneWriter, WritesOnce, one_more as and_one}
use Rattle.headline_laws.specs.Opening.{Stretch}
use Rattle.headline_laws.specs.Writing.{ShowsWriting}
use Rattle.headline_laws.proofs.OrderlyLines.Synced.{IsOther}
use Rattle.headline_laws.proofs.Statements.Known.{IsNotOpened, KeepsOld, OpensNew, writer_step}

abbrev pub IsNoWrite : Statement → Type 0
IsNoWrite (say.Write at content) = ⊥
IsNoWrite other = ⊤

-- The statement opened a writer, or it wrote by the one that is open, or it did neither.
pub data WriterLine (m : Moment) (n : ℕ) (stretch : Stretch) (old : Option OneWriter) (s : Statement) (o : Outcome) (new : Option OneWriter) : Type 0 where
  an_opening : OpensNew m n stretch s o new → WriterLine m n stretch old s o new
  a_write : (x : OneWriter) (at place len stamp : ℕ) (content : Data) → s ≡ say.Write at content → o ≡ line.Wrote place len (Some stamp) → old ≡ Some x → new ≡ Some (and_one x) → WritesOnce n stretch.events x at (bytes_of content) stamp → WriterLine m n stretch old s o new
  neither : IsOther o → KeepsOld old o new → IsNoWrite s ⊎ ((o ≡ line.Stopped) ⊎ (o ≡ line.Gone)) ⊎ ((x : OneWriter) → old ≡ Some x → writes_told x.dropping.writer stretch.events ≡ 0) → WriterLine m n stretch old s o new

abbrev IsNotWrote : Outcome → Type 0
IsNotWrote (line.Wrote place len (Some stamp)) = ⊥
IsNotWrote other = ⊤

is_other : (o : Outcome) → IsNotOpened o → IsNotWrote o → IsOther o
is_other (line.Opened id) a b = absurd a
is_other (line.Wrote place len (Some stamp)) a b = absurd b
is_other o a b = tt

nothing_wrote : (why : Why) (o : Outcome) → DoesNothing why o → IsNotWrote o
nothing_wrote why (line.Wrote place len (Some stamp)) does = absurd does
nothing_wrote why o does = tt

module _ (m : Moment) (n : ℕ) (stretch : Stretch) where
  not_wrote : (s : Statement) (old : Option OneWriter) (o : Outcome) (new : Option OneWriter) → IsNoWrite s → ShowsWriting m n stretch old s o new → IsNotWrote o
  not_wrote (say.Write at content) old o new is shows = absurd is
  not_wrote (say.Open name) None (line.Wrote place len (Some stamp)) new is shows = absurd shows.0
  not_wrote (say.Open name) (Some x) (line.Wrote place len (Some stamp)) new is shows = absurd shows.0
  not_wrote say.Sync None (line.Wrote place len (Some stamp)) new is shows = absurd shows.1
  not_wrote say.Sync (Some x) (line.Wrote place len (Some stamp)) new is shows = absurd shows.0
  not_wrote say.Close None (line.Wrote place len (Some stamp)) new is shows = absurd shows.1
  not_wrote say.Close (Some x) (line.Wrote place len (Some stamp)) new is shows = absurd shows.0
  not_wrote s old (line.Wrote place len (Some stamp)) new is shows = absurd shows.0
  not_wrote s old o new is shows = tt

  none_told : (x y : OneWriter) → writes_told x.dropping.writer stretch.events ≡ 0 → Some x ≡ Some y → writes_told y.dropping.writer stretch.events ≡ 0
  none_told x y none is = let same : x ≡ y = cc in subst (λ (z : OneWriter). writes_told z.dropping.writer stretch.events ≡ 0) same none

  -- of a write by a writer that is open, whose line tells of no opening
  write_line : (at : ℕ) (content : Data) (x : OneWriter) (o : Outcome) (new : Option OneWriter) → KeepsOld (Some x) o new → ShowsWriting m n stretch (Some x) (say.Write at content) o new → WriterLine m n stretch (Some x) (say.Write at content) o new
  write_line at content x (line.Wrote place len (Some stamp)) new keeps shows = a_write x at place len stamp content refl refl refl shows.2 shows.3
  write_line at content x (line.Wrote place len None) new keeps shows = neither tt keeps (inr (inr (λ y is. none_told x y shows.3.1 is)))
  write_line at content x line.Stopped new keeps shows = neither tt keeps (inr (inl (inl refl)))
  write_line at content x line.Gone new keeps shows = neither tt keeps (inr (inl (inr refl)))
  write_line at content x (line.Opened id) new keeps shows = absurd keeps.not_opened
  write_line at content x o new keeps shows = neither tt keeps (inr (inr (λ y is. none_told x y shows.1.1 is)))

  not_some : (x : OneWriter) → None ≡ Some x → ⊥
  not_some x is = cc

  keeps_line : (s : Statement) (old : Option OneWriter) (o : Outcome) (new : Option OneWriter) → KeepsOld old o new → ShowsWriting m n stretch old s o new → WriterLine m n stretch old s o new
  keeps_line (say.Write at content) None o new keeps shows = neither (is_other o keeps.not_opened (nothing_wrote _ o shows.1)) keeps (inr (inr (λ y is. absurd (not_some y is))))
  keeps_line (say.Write at content) (Some x) o new keeps shows = write_line at content x o new keeps shows
  keeps_line (say.Open name) old o new keeps shows = neither (is_other o keeps.not_opened (not_wrote (say.Open name) old o new tt shows)) keeps (inl tt)
  keeps_line say.Sync old o new keeps shows = neither (is_other o keeps.not_opened (not_wrote say.Sync old o new tt shows)) keeps (inl tt)
  keeps_line say.Close old o new keeps shows = neither (is_other o keeps.not_opened (not_wrote say.Close old o new tt shows)) keeps (inl tt)
  keeps_line s old o new keeps shows = neither (is_other o keeps.not_opened (not_wrote s old o new tt shows)) keeps (inl tt)

  pub writer_line : (s : Statement) (old : Option OneWriter) (o : Outcome) (new : Option OneWriter) → ShowsWriting m n stretch old s o new → WriterLine m n stretch old s o new
  writer_line s old o new shows = elim (writer_step m n stretch old s o new shows) as (λ _. WriterLine m n stretch old s o new) [
    | inl it ↦ an_opening it
    | inr keeps ↦ keeps_line s old o new keeps shows
  ]
