-- The page of a run from a mount over a sound tree on, where no number of a mount was wanting.
use Rattle.std.proofs.Common.{◌≡◌, ◌⊎◌, ◌≤◌, inl, false, Some, refl, sym, ap, ◌∙◌, subst}
use Rattle.store_api.specs.Acts.{Stored}
use Rattle.store_api.specs.declared.tree.Tree.{Tree}
use Rattle.mount_model.specs.Mounting.{IsMounted}
use Rattle.mount_model.specs.State.{State, last_id}
use Rattle.mount_sound.specs.Marks.{IsOfMark}
use Rattle.mount_sound.specs.Shape.{IsDrawnBy, IsShapedTree}
use Rattle.mount_sound.specs.Sound.{IsClean, IsSoundTree}
use Rattle.mount_sound.proofs.Facts.{mounted_fine}
use Rattle.reader_laws.specs.Moments.{IsSoundAt, Moment, moment_after}
use Rattle.reader_laws.proofs.Gathered.Facts.{follows, sound_after}
use Rattle.script_lang.specs.Ranges.{FitsScript}
use Rattle.script_lang.specs.declared.line.Outcome.TheVariants as line
use Rattle.script_lang.specs.declared.line.Why.TheVariants.{IdsSpent, TooFar}
use Rattle.script_lang.specs.declared.script.Statement.{Statement}
use Rattle.script_lang.specs.declared.script.Statement.TheVariants as say
use Rattle.run_core.specs.Play.{IsRight}
use Rattle.headline.specs.Run.{Run, Says, Told}
use Rattle.headline.specs.Names.{Story}
use Rattle.headline.specs.Causes.{EndsTooFar, FillsLog, HasCause}
use Rattle.headline.specs.Headline.{Headline, IsOrderly}
use Rattle.headline.specs.Reasons.{IsReasonOf}
use Rattle.headline.specs.Still.{HasStill}
use Rattle.headline_laws.proofs.Contents.Counted.{homes}
use Rattle.headline_laws.proofs.Contents.OpenedWriter.{First, sound_first}
use Rattle.headline_laws.proofs.OrderlyLines.Orderly.{orderly}
use Rattle.headline_laws.proofs.Reasons.Told.{reasons_told}
use Rattle.headline_laws.proofs.Trees.Still.{still}
use Rattle.headline_laws.proofs.Whole.Assembled.{Parts, whole}
use Rattle.headline_laws.proofs.Whole.HeldNames.{held_named}
use Rattle.headline_laws.proofs.Whole.TooFar.{write_far_told}

one_tree : (a b : Tree) → Some a ≡ Some b → a ≡ b
one_tree a b is = cc

module _ (run : Run) (opened : Stored) (start end : State) (fits : FitsScript run.script) (mounted : IsMounted 0 run.times opened start) (told : opened.tree ≡ Some run.before) (sound : IsSoundTree run.before)
    (right : IsRight run.script start run.lines end) (left : end.store.tree ≡ Some run.after) (free : run.in_order ≡ false) where
  abbrev Begins : Moment
  Begins = First run run.times opened start end fits mounted told sound right left

  abbrev sound_begins : IsSoundAt Begins
  sound_begins = sound_first run run.times opened start end fits mounted told sound right left

  abbrev Tale : Story
  Tale = homes run run.times opened start end fits mounted told sound right left

  abbrev End : Moment
  End = moment_after Begins right.history

  shaped_after : IsShapedTree (IsDrawnBy (last_id End.state) run.after) run.after
  shaped_after =
      let s = sound_after Begins right.history right.leads.lawful sound_begins in
      let tells : End.state.store.tree ≡ Some run.after = ap (λ (x : State). x.store.tree) ((follows Begins right.history).0 ∙ right.leads.ends) ∙ left in
      let same : s.shape.tree ≡ run.after = one_tree s.shape.tree run.after (sym s.shape.told ∙ tells) in
      subst (λ x. IsShapedTree (IsDrawnBy (last_id End.state) x) x) same s.shape.shaped

  clean : IsClean start
  clean = (run.before, ap (λ (z : Stored). z.tree) mounted.opened_is ∙ told, sound)

  -- ---- a refusal as too far

  far : (t : Told) → Says run t (line.Refused TooFar) → HasCause run Tale t TooFar
  far t says = by t.statement refl ((reasons_told run Begins end fits sound_begins right).kinds t TooFar says)
    where
      Cause : Statement → Type 0
      Cause s = EndsTooFar s ⊎ FillsLog run t s

      by : (s : Statement) → t.statement ≡ s → IsReasonOf t.statement TooFar → HasCause run Tale t TooFar
      by (say.Write at content) is kind = subst Cause (sym is) (write_far_told run opened start end fits mounted told sound right left t says at content is)
      by (say.Trunc name size) is kind = inl ((reasons_told run Begins end fits sound_begins right).far t name size says is)
      by s is kind = absurd (subst (λ x. IsReasonOf x TooFar) is kind)

  -- the law of this file
  pub page : run.faults ≤ start.store.faults → end.store.faults ≡ run.faults_after → Parts run Tale → ((t : Told) → Says run t (line.Refused IdsSpent) → ⊥) → Headline run Tale
  page low high parts none =
      let lines : IsOrderly run = orderly run start end fits (mounted_fine 0 run.times opened start mounted) clean right low high in
      let stood : HasStill run = still run run.times opened start right.history end mounted told sound right.leads left in
      whole run Tale (IsOfMark run.before) (IsDrawnBy (last_id End.state) run.after) sound.shaped shaped_after lines stood parts
      (held_named run run.times opened start end fits mounted told sound right left free) far (λ t says. absurd (none t says))
