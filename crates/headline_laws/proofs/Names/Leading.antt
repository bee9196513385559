-- The namings of the story lead from the names of the tree before to those of the tree after.
use Rattle.std.proofs.Common.{◌≡◌, ℕ, false, List, Option, Some, refl, sym, ◌∙◌, subst}
use Rattle.std.specs.List.{Any}
use Rattle.store_api.specs.Acts.{Stored}
use Rattle.mount_model.specs.Mounting.{IsMounted}
use Rattle.mount_model.specs.State.{State}
use Rattle.mount_sound.specs.Sound.{IsSoundTree}
use Rattle.reader_laws.specs.Moments.{IsSoundAt, Moment}
use Rattle.script_lang.specs.Ranges.{FitsScript}
use Rattle.script_lang.specs.declared.line.Outcome.TheVariants as line
use Rattle.script_lang.specs.declared.script.Statement.{Statement}
use Rattle.script_lang.specs.declared.script.Statement.TheVariants.{Rename}
use Rattle.run_core.specs.Play.{IsRight}
use Rattle.headline.specs.Run.{IsLine, Run, Told}
use Rattle.headline.specs.Files.{reader_at}
use Rattle.headline.specs.Changes.{writing_at}
use Rattle.headline.specs.Names.{Naming, NamingsLead}
use Rattle.headline_laws.proofs.Contents.OpenedWriter.{First, sound_first}
use Rattle.headline_laws.proofs.Names.Following.{all_found, all_may_be, renamed_by}
use Rattle.headline_laws.proofs.Makers.NewNames.{names_now}
use Rattle.headline_laws.proofs.Statements.Did.{IsOfKindOr}
use Rattle.headline_laws.proofs.Story.FirstNames.{first_names}
use Rattle.headline_laws.proofs.Story.Namings.{names_left, namings, story_of}
use Rattle.headline_laws.proofs.Story.Spans.{Placed, placed_here}
use Rattle.headline_laws.proofs.Names.Spoken.{renamed_kind}

module _ (run : Run) (times : Option (List ℕ)) (mount : Stored) (start end : State) (fits : FitsScript run.script) (mounted : IsMounted 0 times mount start) (tells : mount.tree ≡ Some run.before) (sound : IsSoundTree run.before)
    (right : IsRight run.script start run.lines end) (left : end.store.tree ≡ Some run.after) (free : run.in_order ≡ false) where
  abbrev Begins : Moment
  Begins = First run times mount start end fits mounted tells sound right left

  abbrev sound_begins : IsSoundAt Begins
  sound_begins = sound_first run times mount start end fits mounted tells sound right left

  renamed_among : (t : Told) → IsLine run t → t.outcome ≡ line.Renamed → Any (λ (n : Naming). n.by ≡ t) (namings run Begins end fits sound_begins right)
  renamed_among t is_line told = by t.statement refl (renamed_kind l.its.line.kept t.statement l.its.line.part.e (sym l.its.line.says ∙ told) l.its.line.part.ended)
    where
      l : Placed run Begins end fits sound_begins right (reader_at run t) (writing_at run t) t
      l = placed_here run Begins end fits sound_begins right t is_line

      by : (s : Statement) → t.statement ≡ s → IsOfKindOr t.statement line.Renamed → Any (λ (n : Naming). n.by ≡ t) (namings run Begins end fits sound_begins right)
      by (Rename old to) is kind = renamed_by run Begins end fits sound_begins right free t old to is_line is told
      by s is kind = absurd (subst (λ x. IsOfKindOr x line.Renamed) is kind)

  pub namings_lead : NamingsLead run (story_of run Begins end fits sound_begins right)
  namings_lead = record {
    first = names_now Begins.state;
    are_first = first_names run times mount start mounted tells;
    may_be = all_may_be run Begins end fits sound_begins right free;
    left = names_left run Begins end fits sound_begins right free (first_names run times mount start mounted tells) run.after left;
    found = all_found run Begins end fits sound_begins right free;
    renamed = renamed_among;
  }
