-- What is refused for want of a stamp: the last one of all stood in the container of a truncate, or was the last of a write's writer, or that of a truncate there.
use Rattle.std.proofs.Common.{◌≡◌, ◌≤◌, inl, inr, ℕ, List, ◌∷◌, ◌++◌, length, Option, Some, refl, sym, ap, ◌∙◌, subst, arith, append_assoc}
use Rattle.plfs_types.specs.declared.limits.TheConstants.{MAX_STAMP}
use Rattle.store_api.specs.Acts.{Stored}
use Rattle.mount_model.specs.History.{Event}
use Rattle.mount_model.specs.Mounting.{IsMounted}
use Rattle.mount_model.specs.State.{State}
use Rattle.mount_sound.specs.Sound.{IsSoundTree}
use Rattle.reader_laws.specs.Moments.{IsSoundAt, Moment, moment_after}
use Rattle.script_lang.specs.Ranges.{FitsScript}
use Rattle.script_lang.specs.declared.line.Outcome.{Outcome}
use Rattle.script_lang.specs.declared.line.Outcome.TheVariants as line
use Rattle.script_lang.specs.declared.line.Why.TheVariants.{StampsSpent}
use Rattle.script_lang.specs.declared.script.Statement.{Statement}
use Rattle.script_lang.specs.declared.script.Statement.TheVariants.{Trunc, Write}
use Rattle.run_core.specs.Play.{IsRight}
use Rattle.headline_laws.specs.Changing.{IsTopIn}
use Rattle.headline_laws.specs.OneFile.{OneFile}
use Rattle.headline_laws.specs.OneWriter.{OneWriter}
use Rattle.headline_laws.specs.Refusing.{FindsSpent}
use Rattle.headline_laws.specs.Showing.{Shows}
use Rattle.headline.specs.Run.{Run, Says, Told}
use Rattle.headline.specs.Files.{reader_at}
use Rattle.headline.specs.Changes.{IsStampIn, Writing, writing_at}
use Rattle.headline.specs.Causes.{AreStampsSpent, of_container}
use Rattle.headline.specs.Reasons.{IsReasonOf}
use Rattle.headline_laws.proofs.Contents.Counted.{homes}
use Rattle.headline_laws.proofs.Contents.OpenedWriter.{First, Home, sound_first}
use Rattle.headline_laws.proofs.Reasons.Told.{reasons_told}
use Rattle.headline_laws.proofs.Stamps.Marks.{top_left}
use Rattle.headline_laws.proofs.Stamps.Spent.{write_out}
use Rattle.headline_laws.proofs.Story.Lines.{AnyLine, line_here, room_of}
use Rattle.headline_laws.proofs.Trees.Reading.{in_part}

-- ---- a truncate

-- in these events the last stamp stood in the container
record StoodIn (m : Moment) (before front : List Event) (room : ℕ) : Type 0 where
  pub until : List Event
  pub rest : List Event
  pub split : front ≡ until ++ rest
  pub top : ℕ
  pub stood : IsTopIn (moment_after m (before ++ until)) room top
  pub spent : MAX_STAMP ≤ top

stood_of : (m : Moment) (n : ℕ) (before front : List Event) (name : List ℕ) (size : ℕ) (f : FindsSpent m n (record { before = before; events = front }) name size) → StoodIn m before front f.change.room
stood_of m n before front name size f =
    let c = f.change in
    record {
      until = c.earlier ++ (c.finding ∷ c.between ++ (c.holding ∷ c.more));
      rest = c.changing ∷ c.later;
      split = f.made.split ∙ ap (λ z. c.earlier ++ z) (sym (append_assoc (c.finding ∷ c.between) (c.holding ∷ c.more) (c.changing ∷ c.later))) ∙ sym (append_assoc c.earlier (c.finding ∷ c.between ++ (c.holding ∷ c.more)) (c.changing ∷ c.later));
      top = f.top;
      stood = f.stood;
      spent = f.spent;
    }

stood_in : (m : Moment) (n : ℕ) (before front : List Event) (nothing : ℕ) (old new : Option OneFile) (w : Option OneWriter) (name : List ℕ) (size : ℕ) (s : Statement) (o : Outcome) → s ≡ Trunc name size → o ≡ line.Refused StampsSpent
    → (shows : Shows m n (record { before = before; events = front }) old s o new) → StoodIn m before front (room_of m n (record { before = before; events = front }) nothing old new w s o shows)
stood_in m n before front nothing old new w name size (Trunc name2 size2) (line.Refused StampsSpent) is says shows = stood_of m n before front name2 size2 shows.1
stood_in m n before front nothing old new w name size s o is says shows = absurd (cc)

zero_not : (top : ℕ) → top ≡ 0 → MAX_STAMP ≤ top → top ≤ MAX_STAMP
zero_not top zero_is spent = omega (arith, zero_is, spent)

fits_so : (m : Moment) (room top : ℕ) → MAX_STAMP ≤ top → IsTopIn m room top → top ≤ MAX_STAMP
fits_so m room top spent (inl zero_is) = zero_not top zero_is spent
fits_so m room top spent (inr (inl (size, had))) = had.is_item.in_range.stamp_fits
fits_so m room top spent (inr (inr (last, bytes, host, writer, had))) = had.is_item.in_range.stamp_fits

exactly : (most n : ℕ) → most ≤ n → n ≤ most → n ≡ most
exactly most n low high = omega (arith, low, high)

module _ (run : Run) (mount : Stored) (start end : State) (fits : FitsScript run.script) (mounted : IsMounted 0 run.times mount start) (tells : mount.tree ≡ Some run.before) (sound : IsSoundTree run.before)
    (right : IsRight run.script start run.lines end) (left : end.store.tree ≡ Some run.after) where
  abbrev Begins : Moment
  Begins = First run run.times mount start end fits mounted tells sound right left

  abbrev sound_begins : IsSoundAt Begins
  sound_begins = sound_first run run.times mount start end fits mounted tells sound right left

  abbrev HomeOf : Told → ℕ
  HomeOf t = Home run run.times mount start end fits mounted tells sound right left t

  top_out : (r : Option Told) (w : Writing) (t : Told) (l : AnyLine run Begins end fits sound_begins right r w t) (name : List ℕ) (size : ℕ) → t.statement ≡ Trunc name size → t.outcome ≡ line.Refused StampsSpent → IsStampIn run (HomeOf t) MAX_STAMP
  top_out r w t l name size asked says =
      let p = l.line.part in
      let h = l.line.shown in
      let k = stood_in Begins l.number p.earlier h.front (length run.after.rooms) l.line.file h.new h.new_writer name size t.statement t.outcome asked says h.shows in
      let whole : right.history ≡ (p.earlier ++ k.until) ++ (k.rest ++ (h.rest ++ p.later)) = in_part right.history p.earlier p.mine p.later h.front h.rest k.until k.rest p.split h.split k.split in
      let stood : IsTopIn (moment_after Begins (p.earlier ++ k.until)) (HomeOf t) k.top = subst (λ z. IsTopIn (moment_after Begins (p.earlier ++ k.until)) z k.top) (sym l.line.here) k.stood in
      subst (IsStampIn run (HomeOf t)) (exactly MAX_STAMP k.top k.spent (fits_so (moment_after Begins (p.earlier ++ k.until)) (HomeOf t) k.top k.spent stood))
      (top_left run mount start end fits mounted tells sound right left (p.earlier ++ k.until) (k.rest ++ (h.rest ++ p.later)) whole (HomeOf t) k.top stood)

  -- the law of this file
  pub stamps_out : (t : Told) → Says run t (line.Refused StampsSpent) → AreStampsSpent run (homes run run.times mount start end fits mounted tells sound right left) t
  stamps_out t says = by t.statement refl ((reasons_told run Begins end fits sound_begins right).kinds t StampsSpent says)
    where
      by : (s : Statement) → t.statement ≡ s → IsReasonOf t.statement StampsSpent → AreStampsSpent run (homes run run.times mount start end fits mounted tells sound right left) t
      by (Write at content) is kind = write_out run mount start end fits mounted tells sound right left t says at content is
      by (Trunc name size) is kind = of_container name size is (top_out (reader_at run t) (writing_at run t) t (line_here run Begins end fits sound_begins right t says.is_line) name size is says.says)
      by s is kind = absurd (subst (λ x. IsReasonOf x StampsSpent) is kind)
