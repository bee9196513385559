-- What a mount's calls lead to.
use Rattle.std.proofs.Common.{ℕ, ◌≡◌, inl, inr, List, Option, Result, Ok, Err, sym}
use Rattle.std.specs.Prelude.{IfOk, OnErr}
use Rattle.store_api.specs.Acts.{Stored}
use Rattle.mount_model.specs.State.{State}
use Rattle.mount_model.specs.Mounting.{IsMounted}
use Rattle.lone_flow.specs.Looking.{HasLooked}
use Rattle.pack_input.specs.declared.files.NamedFile.{NamedFile}
use Rattle.lone_flow.specs.Calling.{HasCalled}
use Rattle.lone_flow.proofs.SmallPuts.Calls.{begun_packing_called, packed_called}
use Rattle.script_lang.specs.declared.line.Line.{Line}
use Rattle.script_lang.specs.declared.script.Script.{Script}
use Rattle.script_lang.specs.Ranges.{FitsScript}
use Rattle.run_core.specs.Breaking.{IsPlayBroken}
use Rattle.run_core.specs.Leading.{GoesOn}
use Rattle.run_core.specs.Play.{IsPlay}
use Rattle.run_core.proofs.Facts.{went_both}
use Rattle.program_ends.specs.Leaving.{IsRun}
use Rattle.plfs_program.specs.Calling.{IsPlayedOn}
use Rattle.plfs_program.specs.Catting.{WentOn}
use Rattle.plfs_program.specs.Ways.{Way, HasBegun, HasLines, IsBrokenOff, by_turns, on_threads}
use Rattle.plfs_program.specs.Migrating.{HasBegunIt}
use Rattle.plfs_program.specs.Packing.{HasBegunToPack}
use Rattle.plfs_program.specs.SmallFiles.{Begins, Does, HasBegunToRead}
use Rattle.plfs_program.proofs.Courses.Plain.{counted_on, orderly_on, plain_on, plainly_on, still_on, story_on}

-- a mount was made, and the script was played on it
pub was_played : (way : Way) (times : Option (List ℕ)) (before after : Stored) (script : Script) (lines : List Line) (start end : State) → FitsScript script → IsMounted 0 times before start → HasLines way script start lines end → after ≡ end.store
    → IsPlayedOn way times before script lines after
was_played way times before after script lines start end fits mounted play left = record {
  start = start;
  end = end;
  mounted = mounted;
  play = play;
  left = sym left;
  plain = plain_on way times before script lines start end fits mounted play;
  counted = counted_on way times before script lines start end fits mounted play;
  orderly = orderly_on way times before script lines after start end fits mounted play left;
  still = still_on way times before script lines after start end mounted play left;
  story = story_on way times before script lines after start end fits mounted play left;
  machine = plainly_on way times before script lines after start end fits mounted play left;
}

-- the calls that a script's lines follow from
lines_go_on : (way : Way) (script : Script) (start : State) (lines : List Line) (end : State) → HasLines way script start lines end → GoesOn start end
lines_go_on by_turns script start lines end play = record { events = play.history; leads = play.leads }
lines_go_on on_threads script start lines end right = record { events = right.history; leads = right.leads }

-- they are calls of a mount
pub play_runs : (way : Way) (times : Option (List ℕ)) (before after : Stored) (script : Script) (lines : List Line) → IsPlayedOn way times before script lines after → IsRun GoesOn times before after
play_runs way times before after script lines played = record {
  start = played.start;
  end = played.end;
  mounted = played.mounted;
  called = lines_go_on way script played.start lines played.end played.play;
  left = played.left;
}

-- what was begun was made by lawful calls
broken_leads : (way : Way) (script : Script) (start end : State) → IsBrokenOff way script start end → GoesOn start end
broken_leads by_turns script start end broken = record { events = broken.history; leads = broken.leads }
broken_leads on_threads script start end begun = record { events = begun.history; leads = begun.leads }

pub begun_leads : (way : Way) (script : Script) (start end : State) → HasBegun way script start end → GoesOn start end
begun_leads way script start end (inl (lines, has)) = lines_go_on way script start lines end has
begun_leads way script start end (inr broken) = broken_leads way script start end broken

-- a play that was made, to its end or not
pub begun_so : {E : Type 0} (script : Script) (start end : State) (result : Result (List Line) E) → IfOk result (λ lines. IsPlay script start lines end) → OnErr result (IsPlayBroken script start end) → HasBegun by_turns script start end
begun_so script start end (Ok lines) plays broken = inl (lines, plays)
begun_so script start end (Err none) plays broken = inr broken

pub migration_leads : (name : List ℕ) (start end : State) → HasBegunIt name start end → GoesOn start end
migration_leads name start end (inl (ended, m)) = record { events = m.events; leads = record { lawful = m.made.lawful; ends = m.made.ends } }
migration_leads name start end (inr m) = record { events = m.events; leads = record { lawful = m.made.lawful; ends = m.made.ends } }

-- so are greetings and looks
pub looked_leads : (start end : State) → HasLooked start end → GoesOn start end
looked_leads start end l = record { events = l.events; leads = record { lawful = l.made.lawful; ends = l.made.ends } }

pub reading_leads : {R : Type 0} (Reads : Does R) (Broken : Begins) (start end : State) → HasBegunToRead Reads Broken start end → GoesOn start end
reading_leads Reads Broken start end r = looked_leads start end r.looked

-- so are the calls of a packing, to its end or not
called_leads : (start end : State) → HasCalled start end → GoesOn start end
called_leads start end c = record { events = c.events; leads = record { lawful = c.made.lawful; ends = c.made.ends } }

pub packing_leads : (name : List ℕ) (region : ℕ) (files : List NamedFile) (start end : State) → HasBegunToPack name region files start end → GoesOn start end
packing_leads name region files start end (inl (result, packs)) = called_leads start end (packed_called name region files start result end packs)
packing_leads name region files start end (inr begun) = called_leads start end (begun_packing_called name region files start end begun)

-- the calls behind a play of a file that is written out are calls of a mount
pub went_runs : (name : List ℕ) (times : Option (List ℕ)) (before after : Stored) (lines : List Line) (start end : State) → IsMounted 0 times before start → WentOn name start lines end → end.store ≡ after → IsRun GoesOn times before after
went_runs name times before after lines start end mounted went left = record {
  start = start;
  end = end;
  mounted = mounted;
  called = went_both start went.mid end (record { events = went.play.history; leads = went.play.leads }) went.later;
  left = left;
}
