-- The laws of the page, of what an engine served.
use Rattle.std.proofs.Common.{◌≡◌, ◌≤◌, ◌++◌, ℕ, List, Option, Result, Ok, Err, Some, refl, ap, sym, subst, ◌∙◌, arith}
use Rattle.edge_io.specs.Source.{Given}
use Rattle.store_api.specs.declared.step.Answer.{Answer}
use Rattle.store_api.specs.declared.step.Answer.TheVariants.{Made, Names}
use Rattle.store_api.specs.declared.store.Trouble.{Trouble}
use Rattle.store_api.specs.declared.store.Trouble.TheVariants.{Fault, NoMemory}
use Rattle.store_api.specs.declared.tree.Tree.{Tree}
use Rattle.store_api.specs.Acts.{Acts, Stored}
use Rattle.store_api.specs.Step.{Step}
use Rattle.mount_model.specs.Mounting.{IsMounted, list_step, mark_step, marks_step}
use Rattle.mount_model.specs.State.{State}
use Rattle.mount_sound.specs.Sound.{IsClean}
use Rattle.mount_sound.proofs.Facts.{mounted_fine}
use Rattle.script_lang.specs.declared.line.Line.{Line}
use Rattle.script_lang.specs.declared.script.Numbered.{Numbered}
use Rattle.script_lang.specs.Ranges.{FitsScript}
use Rattle.headline_laws.proofs.Facts.{play_has_story, play_orderly, still}
use Rattle.program_ends.specs.Ends.{Ends}
use Rattle.serve_program.proofs.Facts.{served_script_fits}
use Rattle.serving_laws.specs.Served.{KeepsItsWord, SeesTrees, Serves, seen_of}

-- ---- the mounting

acts_keep : (step : Step) (old new : Stored) (told : Result Answer Trouble) → Acts step old new told → old.faults ≤ new.faults
acts_keep step old new (Ok answer) made = omega (arith, made.faults)
acts_keep step old new (Err Fault) made = made.faults
acts_keep step old new (Err NoMemory) made = omega (arith, ap (λ (s : Stored). s.faults) made)

mounting_keeps : (times : Option (List ℕ)) (before : Stored) (start : State) → IsMounted 0 times before start → before.faults ≤ start.store.faults
mounting_keeps times before start m =
    let d = m.draws in
    let first = acts_keep marks_step before d.roomed d.tells.told d.tells.made in
    let second = acts_keep (list_step start.marks) d.roomed d.listed (Ok (Names d.names)) d.lists in
    let third = acts_keep (mark_step start.marks start.mount) d.listed start.store (Ok Made) d.marked in
    omega (arith, first, second, third)

same_stored : (one other : Stored) → Some one ≡ Some other → one ≡ other
same_stored one other is = cc

-- ---- the lines

pub keeps_its_word : (host : ℕ) (given given_after : Given) (e : Ends) (asked : List Numbered) (lines more : List Line) (left : Stored) (before after : Tree)
    → Serves host given given_after e asked lines more → SeesTrees e before left after → KeepsItsWord (seen_of host e asked (lines ++ more) before left after)
keeps_its_word host given given_after e asked lines more left before after s t =
    let run = seen_of host e asked (lines ++ more) before left after in
    let fits : FitsScript run.script = served_script_fits host s.start s.mid given given_after e.taking e.taking_after s.stop asked lines s.clients s.exchanged in
    let clean : IsClean s.start = (before, ap (λ (z : Stored). z.tree) s.mounted.opened_is ∙ t.told, t.sound) in
    let same : s.end.store ≡ left = same_stored s.end.store left (sym s.kept ∙ t.left_is) in
    let tells : s.end.store.tree ≡ Some after = ap (λ (z : Stored). z.tree) same ∙ t.tells in
    let story = play_has_story run e.stored s.start s.end fits s.mounted t.told t.sound s.play tells refl (mounting_keeps e.times e.stored s.start s.mounted) (ap (λ (z : Stored). z.faults) same) in
    record {
      orderly = play_orderly run s.start s.end fits (mounted_fine 0 e.times e.stored s.start s.mounted) clean s.play (mounting_keeps e.times e.stored s.start s.mounted) (ap (λ (z : Stored). z.faults) same);
      still = still run e.times e.stored s.start s.play.history s.end s.mounted t.told t.sound s.play.leads tells;
      story = story.0;
      fits = story.1;
    }
