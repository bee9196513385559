-- Of each writer that a line opened, the container that it entered has the index and the log in the tree after. What readers see of that which was told before.
use Rattle.std.proofs.Common.{◌≡◌, ◌≤◌, ℕ, false, Some, sym, ◌∙◌, subst}
use Rattle.std.specs.Prelude.{slice_get}
use Rattle.container_layout.specs.declared.items.Item.{Item}
use Rattle.container_layout.specs.declared.items.Item.TheVariants.{Index, Log}
use Rattle.store_api.specs.Acts.{Stored}
use Rattle.mount_model.specs.Mounting.{IsMounted}
use Rattle.mount_model.specs.State.{State}
use Rattle.mount_sound.specs.Sound.{IsSoundTree}
use Rattle.mount_sound.proofs.Facts.{mounted_sound}
use Rattle.reader_laws.specs.Moments.{HadItem, IsSoundAt, Moment, moment_after}
use Rattle.script_lang.specs.Ranges.{FitsScript}
use Rattle.script_lang.specs.declared.line.Outcome.TheVariants as line
use Rattle.script_lang.specs.declared.line.Why.TheVariants.{Busy}
use Rattle.run_core.specs.Play.{IsPlay, IsRight}
use Rattle.run_core.proofs.Facts.{play_right}
use Rattle.headline.specs.Run.{Run, Says, Told}
use Rattle.headline.specs.Trees.{Has}
use Rattle.headline.specs.Writers.{host_of}
use Rattle.headline.specs.Names.{Story}
use Rattle.headline.specs.Entries.{HasEntries}
use Rattle.headline.specs.Stories.{Fits}
use Rattle.headline_laws.proofs.Contents.Answered.{contents}
use Rattle.headline_laws.proofs.Contents.Stats.{stats_told}
use Rattle.headline_laws.proofs.Reasons.Busy.{busy_holds, is_open_in}
use Rattle.headline_laws.proofs.Reasons.Missing.{missing_told}
use Rattle.headline_laws.proofs.Reasons.Told.{reasons_told}
use Rattle.headline_laws.proofs.Reasons.Unready.{unready_told}
use Rattle.headline_laws.proofs.Stamps.Marks.{truncate_stamped}
use Rattle.headline_laws.proofs.Stamps.Topped.{stamps_out}
use Rattle.headline_laws.proofs.Stamps.Wrote.{next_stamped}
use Rattle.headline_laws.proofs.Story.Entered.{entered_once}
use Rattle.headline_laws.proofs.Story.Namings.{story_of}
use Rattle.headline_laws.proofs.Story.Named.{names_told}
use Rattle.headline_laws.proofs.Story.OneOpener.{opened_by_one}
use Rattle.headline_laws.proofs.Story.Refused.{refusals_told}
use Rattle.headline_laws.proofs.Held.HeldLines.{held_told}
use Rattle.headline_laws.proofs.Losses.Surviving.{told_survives}
use Rattle.headline_laws.proofs.Trees.Departed.{writers_departed}
use Rattle.headline_laws.proofs.Trees.Flattened.{flattened_told}
use Rattle.headline_laws.proofs.Trees.Fresh.{number_new}
use Rattle.headline_laws.proofs.Trees.Kept.{writers_kept}
use Rattle.headline_laws.proofs.Makers.Ended.{recoveries_end}
use Rattle.headline_laws.proofs.Makers.Known.{truncs_known}
use Rattle.headline_laws.proofs.Makers.KnownEntries.{entries_known}
use Rattle.headline_laws.proofs.Makers.KnownIndices.{indices_known}
use Rattle.headline_laws.proofs.Names.Speaking.{are_named, spoken_told}
use Rattle.headline_laws.proofs.Trees.Left.{writers_left}
use Rattle.headline_laws.proofs.Trees.Listed.{names_are_listed}
use Rattle.headline_laws.proofs.Trees.Old.{old_seen}
use Rattle.headline_laws.proofs.Trees.Reading.{last_item, opened_line, readers_told}
use Rattle.headline_laws.proofs.Trees.Recovered.{recoveries_told}
use Rattle.headline_laws.proofs.Trees.Truncated.{truncates_told}
use Rattle.headline_laws.proofs.Trees.WriterStands.{line_stands}
use Rattle.headline_laws.proofs.Whole.Assembled.{Parts}
use Rattle.headline_laws.proofs.Whole.Page.{page}

module _ (run : Run) (opened : Stored) (start end : State) (fits : FitsScript run.script) (mounted : IsMounted 0 run.times opened start) (told : opened.tree ≡ Some run.before) (sound : IsSoundTree run.before)
    (right : IsRight run.script start run.lines end) (left : end.store.tree ≡ Some run.after) where
  abbrev Begin : Moment
  Begin = record { state = start; issued = sound.issued }

  abbrev sound_begin : IsSoundAt Begin
  sound_begin = mounted_sound 0 run.times opened start run.before mounted told sound

  -- the container of each line
  abbrev homes : Story
  homes = story_of run Begin end fits sound_begin right

  both_here : (t : Told) (id : ℕ) → Says run t (line.Opened id) → Has run.after (homes.of t) (Index (host_of (slice_get run.script.actors t.actor)) id) × Has run.after (homes.of t) (Log (host_of (slice_get run.script.actors t.actor)) id)
  both_here t id says =
      let l = line_stands run Begin end fits sound_begin right t id says in
      let s = l.stands in
      let x = opened_line run Begin end fits sound_begin right t id says in
      let one = entered_once start right.history l.number x.number s.dropping x.dropping right.leads.lawful s.entered x.entered (s.its_id ∙ sym x.its_id) in
      let room : s.dropping.room ≡ homes.of t = one.room ∙ sym x.in_room in
      let there : (item : Item) → HadItem (moment_after Begin right.history) s.dropping.room item → Has run.after (homes.of t) item = λ item had. subst (λ k. Has run.after k item) room (last_item run Begin end fits sound_begin right left s.dropping.room item had) in
      (there (Index (host_of (slice_get run.script.actors t.actor)) id) s.index, there (Log (host_of (slice_get run.script.actors t.actor)) id) s.log)

  entries_told : run.in_order ≡ false → HasEntries run homes
  entries_told free = record {
    known = entries_known run run.times opened start end fits mounted told sound right left;
    busy = λ t host id says. (let may = (reasons_told run Begin end fits sound_begin right).kinds t (Busy host id) says in (busy_holds t.statement host id may, is_open_in run run.times opened start end fits mounted told sound right left free t host id says may));
  }

  parts_told : run.in_order ≡ false → run.faults ≤ start.store.faults → end.store.faults ≡ run.faults_after → Parts run homes
  parts_told free low high = record {
    are_named = are_named run run.times opened start end fits mounted told sound right left free;
    spoken = spoken_told run run.times opened start end fits mounted told sound right left free;
    opened = record { index = λ t id says. (both_here t id says).0; log = λ t id says. (both_here t id says).1; new = number_new run run.times opened start end fits mounted told sound right; alone = λ s t id. opened_by_one run run.times opened start end fits mounted told sound right left id s t };
    readers = readers_told run Begin end fits sound_begin right left free;
    old = old_seen run run.times opened start end fits mounted told sound right;
    contents = contents run run.times opened start end fits mounted told sound right left free;
    stats = stats_told run run.times opened start end fits mounted told sound right left free;
    stamped = record { wrote = next_stamped run opened start end fits mounted told sound right left; truncated = truncate_stamped run opened start end fits mounted told sound right left };
    truncated = truncates_told run run.times opened start end fits mounted told sound right left free;
    truncs = truncs_known run run.times opened start end fits mounted told sound right left free;
    indices = indices_known run run.times opened start end fits mounted told sound right left;
    flattened = flattened_told run run.times opened start end fits mounted told sound right left free;
    recovered = recoveries_told run run.times opened start end fits mounted told sound right left free;
    ended = recoveries_end run run.times opened start end fits mounted told sound right left free;
    entries = entries_told free;
    held = held_told run run.times opened start end fits mounted told sound right left free low high;
    refusals = refusals_told run Begin end fits sound_begin right;
    reasons = reasons_told run Begin end fits sound_begin right;
    unready = unready_told run run.times opened start end fits mounted told sound right left;
    spent = stamps_out run opened start end fits mounted told sound right left;
    left = writers_left run run.times opened start end fits mounted told sound right left;
    closed = writers_departed run run.times opened start end fits mounted told sound right left;
    kept = writers_kept run run.times opened start end fits mounted told sound right left;
  }

  pub has_story : run.in_order ≡ false → run.faults ≤ start.store.faults → end.store.faults ≡ run.faults_after → (story : Story) × Fits run story
  has_story free low high =
      let p = parts_told free low high in (
        homes,
        record {
          names = names_told run Begin end fits sound_begin right left;
          are_named = p.are_named;
          spoken = p.spoken;
          opened = p.opened;
          readers = p.readers;
          old = p.old;
          contents = p.contents;
          stats = p.stats;
          stamped = p.stamped;
          truncated = p.truncated;
          truncs = p.truncs;
          indices = p.indices;
          flattened = p.flattened;
          listed = names_are_listed run run.times opened start end fits mounted told sound right left free;
          refusals = p.refusals;
          recovered = p.recovered;
          ended = p.ended;
          entries = p.entries;
          held = p.held;
          reasons = p.reasons;
          missing = missing_told run run.times opened start end fits mounted told sound right left free;
          unready = p.unready;
          spent = p.spent;
          left = p.left;
          closed = p.closed;
          kept = p.kept;
          losses = told_survives run run.times opened start end fits mounted told sound right left;
          headline = page run opened start end fits mounted told sound right left free low high p;
        },
      )

pub play_has_story : (run : Run) (opened : Stored) (start end : State) → FitsScript run.script → IsMounted 0 run.times opened start → opened.tree ≡ Some run.before → IsSoundTree run.before → IsPlay run.script start run.lines end → end.store.tree ≡ Some run.after
    → run.in_order ≡ false → run.faults ≤ start.store.faults → end.store.faults ≡ run.faults_after → (story : Story) × Fits run story
play_has_story run opened start end fits mounted told sound play left free low high = has_story run opened start end fits mounted told sound (play_right run.script start run.lines end play) left free low high
