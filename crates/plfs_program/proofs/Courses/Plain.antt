-- What the lines of a play over a sound tree show.
use Rattle.std.proofs.Common.{ℕ, ◌≡◌, false, List, Option, Some, refl, sym, ap, ◌∙◌, subst}
use Rattle.std.proofs.lemmas.List.Folds.{list_any_none}
use Rattle.plfs_types.specs.Counts.{HasRisen}
use Rattle.store_api.specs.Acts.{Stored}
use Rattle.store_api.specs.declared.tree.Tree.{Tree}
use Rattle.mount_model.specs.History.{Event}
use Rattle.mount_model.specs.State.{State}
use Rattle.mount_model.specs.Mounting.{IsMounted}
use Rattle.mount_sound.specs.Sound.{IsClean, IsFine, IsSoundTree}
use Rattle.mount_sound.proofs.Facts.{mounted_fine, mounted_sound}
use Rattle.script_lang.specs.Ranges.{FitsScript}
use Rattle.script_lang.specs.declared.line.Line.{Line}
use Rattle.script_lang.specs.declared.line.Outcome.{Outcome}
use Rattle.script_lang.specs.declared.line.Outcome.TheVariants as of
use Rattle.script_lang.specs.declared.script.Script.{Script}
use Rattle.run_core.specs.Leading.{Leads}
use Rattle.plain_plays.specs.OverStores.{TellsPlainly}
use Rattle.plain_plays.proofs.Facts.{no_fault, plays_over}
use Rattle.headline_laws.specs.Undamaged.{AreUndamaged, IsUndamaged}
use Rattle.headline_laws.specs.Counting.{CountWrites}
use Rattle.headline_laws.proofs.Plays.Facts.{play_counts, play_shows, play_undamaged, readers_show, right_counts, right_undamaged}
use Rattle.program_ends.specs.Outcomes.{has_line, is_damage}
use Rattle.headline_laws.proofs.Facts.{has_story, orderly, play_has_story, play_orderly, still}
use Rattle.plfs_program.specs.Seen.{TellsOrderly, TellsStill, TellsStory, seen_run}
use Rattle.program_ends.specs.SoundTrees.{TellsSoundTree}
use Rattle.plfs_program.specs.Ways.{Way, HasLines, ShowsFiles, by_turns, on_threads}
use Rattle.plfs_program.proofs.Courses.Lines.{mounting_keeps}

-- a mount over a store that told a sound tree begins clean
pub mounted_clean : (times : Option (List ℕ)) (before : Stored) (start : State) → IsMounted 0 times before start → TellsSoundTree before → IsClean start
mounted_clean times before start made (tree, told, sound) = (tree, ap (λ (s : Stored). s.tree) made.opened_is ∙ told, sound)

-- the lines of each reader are those of one plain file
pub plain_on : (way : Way) (times : Option (List ℕ)) (before : Stored) (script : Script) (lines : List Line) (start end : State) → FitsScript script → IsMounted 0 times before start → (play : HasLines way script start lines end) → TellsSoundTree before → ShowsFiles way script start lines end play
plain_on by_turns times before script lines start end fits made play told = play_shows script start lines end fits (mounted_fine 0 times before start made) (mounted_clean times before start made told) play
plain_on on_threads times before script lines start end fits made right (tree, told, sound) =
    let begins = mounted_sound 0 times before start tree made told sound in
    record { issued = sound.issued; sound = begins; show = readers_show script (record { state = start; issued = sound.issued }) lines end fits begins right }

-- ---- the numbers of syncs and closes

are_counted : (way : Way) (script : Script) (start : State) (lines : List Line) (end : State) → FitsScript script → IsFine start → IsClean start → HasLines way script start lines end → CountWrites script lines
are_counted by_turns script start lines end fits fine clean play = play_counts script start lines end fits fine clean play
are_counted on_threads script start lines end fits fine clean right = right_counts script start lines end fits fine clean right

-- they count the lines of writes
pub counted_on : (way : Way) (times : Option (List ℕ)) (before : Stored) (script : Script) (lines : List Line) (start end : State) → FitsScript script → IsMounted 0 times before start → HasLines way script start lines end → TellsSoundTree before → CountWrites script lines
counted_on way times before script lines start end fits made play told = are_counted way script start lines end fits (mounted_fine 0 times before start made) (mounted_clean times before start made told) play

-- ---- the lines are orderly

pub orderly_on : (way : Way) (times : Option (List ℕ)) (before : Stored) (script : Script) (lines : List Line) (after : Stored) (start end : State) → FitsScript script → IsMounted 0 times before start → HasLines way script start lines end → after ≡ end.store → TellsOrderly times before script lines after
orderly_on by_turns times before script lines after start end fits made play left told tree later is_before is_after =
    play_orderly (seen_run times before script lines after tree later) start end fits (mounted_fine 0 times before start made) (mounted_clean times before start made told) play (mounting_keeps times before start made) (ap (λ (s : Stored). s.faults) (sym left))
orderly_on on_threads times before script lines after start end fits made right left told tree later is_before is_after =
    orderly (seen_run times before script lines after tree later) start end fits (mounted_fine 0 times before start made) (mounted_clean times before start made told) right (mounting_keeps times before start made) (ap (λ (s : Stored). s.faults) (sym left))

-- ---- what stood stands

-- the one tree that the store told
sound_tree : (before : Stored) (tree : Tree) → TellsSoundTree before → before.tree ≡ Some tree → IsSoundTree tree
sound_tree before tree told is_before = let both : Some told.0 ≡ Some tree = sym told.1 ∙ is_before in let same : told.0 ≡ tree = cc in subst IsSoundTree same told.2

-- the calls that were made
leads_on : (way : Way) (script : Script) (lines : List Line) (start end : State) → HasLines way script start lines end → (events : List Event) × Leads start events end
leads_on by_turns script lines start end play = (play.history, play.leads)
leads_on on_threads script lines start end right = (right.history, right.leads)

pub still_on : (way : Way) (times : Option (List ℕ)) (before : Stored) (script : Script) (lines : List Line) (after : Stored) (start end : State) → IsMounted 0 times before start → HasLines way script start lines end → after ≡ end.store → TellsStill times before script lines after
still_on way times before script lines after start end made play left told tree later is_before is_after =
    let l = leads_on way script lines start end play in
    still (seen_run times before script lines after tree later) times before start l.0 end made is_before (sound_tree before tree told is_before) l.1 (ap (λ (s : Stored). s.tree) (sym left) ∙ is_after)

-- ---- a story fits

pub story_on : (way : Way) (times : Option (List ℕ)) (before : Stored) (script : Script) (lines : List Line) (after : Stored) (start end : State) → FitsScript script → IsMounted 0 times before start → HasLines way script start lines end → after ≡ end.store → TellsStory times before script lines after
story_on by_turns times before script lines after start end fits made play left told tree later is_before is_after =
    play_has_story (seen_run times before script lines after tree later) before start end fits made is_before (sound_tree before tree told is_before) play (ap (λ (s : Stored). s.tree) (sym left) ∙ is_after) refl (mounting_keeps times before start made)
    (ap (λ (s : Stored). s.faults) (sym left))
story_on on_threads times before script lines after start end fits made right left told tree later is_before is_after =
    has_story (seen_run times before script lines after tree later) before start end fits made is_before (sound_tree before tree told is_before) right (ap (λ (s : Stored). s.tree) (sym left) ∙ is_after) refl (mounting_keeps times before start made)
    (ap (λ (s : Stored). s.faults) (sym left))

-- ---- a plain machine says the lines

pub plainly_on : (way : Way) (times : Option (List ℕ)) (before : Stored) (script : Script) (lines : List Line) (after : Stored) (start end : State) → FitsScript script → IsMounted 0 times before start → HasLines way script start lines end → after ≡ end.store
    → way ≡ by_turns → (HasRisen before.faults after.faults → ⊥) → TellsPlainly script times before lines after
plainly_on by_turns times before script lines after start end fits made play left turns none =
    let well = no_fault script before start end lines (mounting_keeps times before start made) play (subst (λ (s : Stored). HasRisen before.faults s.faults → ⊥) left none) in
    subst (λ s. TellsPlainly script times before lines s) (sym left) (plays_over script times before start end lines fits made play well)
plainly_on on_threads times before script lines after start end fits made right left turns none = absurd (cc)

-- ---- no line is damaged

not_damage : (outcome : Outcome) → IsUndamaged outcome → is_damage outcome ≡ false
not_damage (of.Damaged folder file place) none = absurd none
not_damage of.Fault none = refl
not_damage (of.Listed names) none = refl
not_damage (of.Opened writer) none = refl
not_damage (of.Wrote at len stamp) none = refl
not_damage (of.Synced landed) none = refl
not_damage (of.Closed landed) none = refl
not_damage (of.Reader size cut truncs) none = refl
not_damage (of.Read at content) none = refl
not_damage of.Same none = refl
not_damage (of.Differs place) none = refl
not_damage (of.Map pieces) none = refl
not_damage of.ReaderClosed none = refl
not_damage (of.Stat size stored shares truncs) none = refl
not_damage (of.Truncated stamp) none = refl
not_damage of.Renamed none = refl
not_damage (of.Flattened flat pieces cut) none = refl
not_damage (of.Recovered buried alive hold) none = refl
not_damage of.Armed none = refl
not_damage of.Stopped none = refl
not_damage of.Gone none = refl
not_damage (of.Refused why) none = refl

are_undamaged : (way : Way) (script : Script) (start : State) (lines : List Line) (end : State) → FitsScript script → IsFine start → IsClean start → HasLines way script start lines end → AreUndamaged lines
are_undamaged by_turns script start lines end fits fine clean play = play_undamaged script start lines end fits fine clean play
are_undamaged on_threads script start lines end fits fine clean right = right_undamaged script start lines end fits fine clean right

pub undamaged_on : (way : Way) (times : Option (List ℕ)) (before : Stored) (script : Script) (lines : List Line) (start end : State) → FitsScript script → IsMounted 0 times before start → HasLines way script start lines end → TellsSoundTree before → has_line is_damage lines ≡ false
undamaged_on way times before script lines start end fits made play told =
    let all = are_undamaged way script start lines end fits (mounted_fine 0 times before start made) (mounted_clean times before start made told) play in
    list_any_none (λ (line : Line). is_damage line.outcome) lines (λ k d lt. not_damage _ (all k d lt))
