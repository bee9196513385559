-- The numbers of syncs and closes count the lines of writes.
use Rattle.std.proofs.Common.{◌≡◌, ℕ, ◌+◌, List, [], ◌∷◌, ◌++◌, Option, Some, None, inl, inr, sym, ap, ◌∙◌, subst}
use Rattle.mount_model.specs.History.{Event}
use Rattle.mount_model.specs.Paths.{Name}
use Rattle.mount_model.specs.State.{State}
use Rattle.mount_sound.specs.Sound.{IsClean, IsFine}
use Rattle.script_lang.specs.declared.line.Line.{Line}
use Rattle.script_lang.specs.declared.line.Outcome.{Outcome}
use Rattle.script_lang.specs.declared.line.Outcome.TheVariants.{Closed, Fault, Gone, Opened, Refused, Stopped, Synced, Wrote}
use Rattle.script_lang.specs.declared.script.Numbered.{Numbered}
use Rattle.script_lang.specs.declared.script.Script.{Script}
use Rattle.script_lang.specs.declared.script.Statement.{Statement}
use Rattle.script_lang.specs.declared.script.Statement.TheVariants.{Close, Open, Sync, Write}
use Rattle.script_lang.specs.Ranges.{FitsScript}
use Rattle.outcomes.specs.Data.{bytes_of}
use Rattle.reader_laws.specs.Moments.{Moment}
use Rattle.run_core.specs.Play.{IsPlay, IsRight}
use Rattle.run_core.proofs.Facts.{play_right}
use Rattle.headline_laws.specs.Counting.{CountWrites, TellCounts, TellsCount, written_after}
use Rattle.headline_laws.specs.Ending.{DoesNothing}
use Rattle.headline_laws.specs.OneFile.{OneFile}
use Rattle.headline_laws.specs.Opening.{Stretch}
use Rattle.headline_laws.specs.Readers.{ShowsEach}
use Rattle.headline_laws.specs.OneWriter.{OneWriter}
use Rattle.headline_laws.specs.Writing.{ShowsClosed, ShowsNoWriting, ShowsSynced, ShowsWriterOpened, ShowsWriting, ShowsWritten, StaysOpen}
use Rattle.headline_laws.proofs.Plays.Lines.Casts.{readers_show}

-- the writer that is open has so many writes
abbrev Has : ℕ → Option OneWriter → Type 0
Has count None = Unit {0}
Has count (Some writer) = writer.count ≡ count

-- the line tells the count, and the writer that is open then has as many writes as there are lines
abbrev Counts : ℕ → Outcome → Option OneWriter → Type 0
Counts count outcome new = TellsCount count outcome × Has (written_after count outcome) new

same_has : (count : ℕ) (old new : Option OneWriter) → new ≡ old → Has count old → Has count new
same_has count old new is has = subst (Has count) (sym is) has

no_writing : (count : ℕ) (events : List Event) (old : Option OneWriter) (outcome : Outcome) (new : Option OneWriter) → ShowsNoWriting events old outcome new → Has count old → Counts count outcome new
no_writing count events old (Opened id) new shows has = absurd shows.0
no_writing count events old (Wrote place len stamp) new shows has = absurd shows.0
no_writing count events old (Synced landed) new shows has = absurd shows.0
no_writing count events old (Closed landed) new shows has = absurd shows.0
no_writing count events old Stopped new shows has = (tt, same_has count old new shows.1 has)
no_writing count events old Gone new shows has = (tt, same_has count old new shows.1 has)
no_writing count events old outcome new shows has = (tt, same_has count old new shows.1.0 has)

opening : (count : ℕ) (start : Moment) (caller : ℕ) (stretch : Stretch) (name : Name) (outcome : Outcome) (new : Option OneWriter) → ShowsWriterOpened start caller stretch name outcome new → Counts count outcome new
opening count start caller stretch name (Opened id) new (writer, is, number, opens) = (tt, subst (Has 0) (sym is) opens.none)
opening count start caller stretch name (Wrote place len stamp) new shows = absurd shows.0
opening count start caller stretch name (Synced landed) new shows = absurd shows.0
opening count start caller stretch name (Closed landed) new shows = absurd shows.0
opening count start caller stretch name outcome new shows = (tt, subst (Has count) (sym shows.1) tt)

written : (count caller : ℕ) (stretch : Stretch) (writer : OneWriter) (at : ℕ) (bytes : List ℕ) (outcome : Outcome) (new : Option OneWriter) → ShowsWritten caller stretch writer at bytes outcome new → writer.count ≡ count → Counts count outcome new
written count caller stretch writer at bytes (Wrote place len (Some stamp)) new shows has = (tt, subst (Has (count + 1)) (sym shows.2) (ap (λ k. k + 1) has))
written count caller stretch writer at bytes (Wrote place len None) new shows has = (tt, same_has count (Some writer) new shows.3.0 has)
written count caller stretch writer at bytes outcome new shows has = no_writing count stretch.events (Some writer) outcome new shows has

syncing : (count : ℕ) (stretch : Stretch) (writer : OneWriter) (outcome : Outcome) (new : Option OneWriter) → ShowsSynced stretch writer outcome new → writer.count ≡ count → Counts count outcome new
syncing count stretch writer (Synced landed) new shows has = (shows.0 ∙ has, same_has count (Some writer) new shows.2.0 has)
syncing count stretch writer outcome new shows has = no_writing count stretch.events (Some writer) outcome new shows has

closing : (count : ℕ) (stretch : Stretch) (writer : OneWriter) (outcome : Outcome) (new : Option OneWriter) → ShowsClosed stretch writer outcome new → writer.count ≡ count → Counts count outcome new
closing count stretch writer (Closed landed) new shows has = (shows.0 ∙ has, subst (Has count) (sym shows.2) tt)
closing count stretch writer Fault new (none, inl same) has = (tt, same_has count (Some writer) new same has)
closing count stretch writer Fault new (none, inr gone) has = (tt, subst (Has count) (sym gone) tt)
closing count stretch writer outcome new shows has = no_writing count stretch.events (Some writer) outcome new shows has

-- a statement that is refused where no writer is open, or where one is
not_open : (count : ℕ) (outcome : Outcome) (new : Option OneWriter) → (why : _) → new ≡ None → DoesNothing why outcome → Counts count outcome new
not_open count (Refused because) new why none does = (tt, subst (Has count) (sym none) tt)
not_open count Gone new why none does = (tt, subst (Has count) (sym none) tt)
not_open count outcome new why none does = absurd does

still_open : (count : ℕ) (events : List Event) (writer : OneWriter) (outcome : Outcome) (new : Option OneWriter) → (why : _) → DoesNothing why outcome → StaysOpen events (Some writer) outcome new → writer.count ≡ count → Counts count outcome new
still_open count events writer (Refused because) new why does stays has = (tt, same_has count (Some writer) new stays.0 has)
still_open count events writer Gone new why does stays has = (tt, same_has count (Some writer) new stays has)
still_open count events writer outcome new why does stays has = absurd does

-- ---- one statement after the other

one_counts : (count : ℕ) (start : Moment) (caller : ℕ) (stretch : Stretch) (old : Option OneWriter) (statement : Statement) (outcome : Outcome) (new : Option OneWriter) → ShowsWriting start caller stretch old statement outcome new → Has count old → Counts count outcome new
one_counts count start caller stretch None (Open name) outcome new shows has = opening count start caller stretch name outcome new shows
one_counts count start caller stretch (Some writer) (Open name) outcome new shows has = still_open count stretch.events writer outcome new _ shows.0 shows.1 has
one_counts count start caller stretch None (Write at content) outcome new shows has = not_open count outcome new _ shows.0 shows.1
one_counts count start caller stretch (Some writer) (Write at content) outcome new shows has = written count caller stretch writer at (bytes_of content) outcome new shows has
one_counts count start caller stretch None Sync outcome new shows has = not_open count outcome new _ shows.0 shows.1
one_counts count start caller stretch (Some writer) Sync outcome new shows has = syncing count stretch writer outcome new shows has
one_counts count start caller stretch None Close outcome new shows has = not_open count outcome new _ shows.0 shows.1
one_counts count start caller stretch (Some writer) Close outcome new shows has = closing count stretch writer outcome new shows has
one_counts count start caller stretch old statement outcome new shows has = no_writing count stretch.events old outcome new shows has

each_counts : (count : ℕ) (start : Moment) (caller : ℕ) (stretch : Stretch) (file : Option OneFile) (writer : Option OneWriter) (statements : List Numbered) (lines : List Line) → ShowsEach start caller stretch file writer statements lines → Has count writer → TellCounts count lines
each_counts count start caller stretch file writer [] lines shows has = subst (TellCounts count) (sym shows) tt
each_counts count start caller stretch file writer (s ∷ statements) [] shows has = absurd shows
each_counts count start caller stretch file writer (s ∷ statements) (line ∷ lines) (mine, rest, new_file, new_writer, split, number, shows, writes, more) has =
    let c = one_counts count start caller (record { before = stretch.before; events = mine }) writer s.statement line.outcome new_writer writes has in
    (c.0, each_counts (written_after count line.outcome) start caller (record { before = stretch.before ++ mine; events = rest }) new_file new_writer statements lines more c.1)

-- ---- the law

pub right_counts : (script : Script) (start : State) (lines : List Line) (end : State) → FitsScript script → IsFine start → IsClean start → IsRight script start lines end → CountWrites script lines
right_counts script start lines end fits fine clean right place declared here =
    let s = fine.sound clean in
    let m : Moment = record { state = start; issued = s.0 } in
    let shown = readers_show script m lines end fits s.1 right place declared here in
    each_counts 0 m shown.0.number (record { before = []; events = right.history }) None None _ _ shown.2 tt

pub play_counts : (script : Script) (start : State) (lines : List Line) (end : State) → FitsScript script → IsFine start → IsClean start → IsPlay script start lines end → CountWrites script lines
play_counts script start lines end fits fine clean play = right_counts script start lines end fits fine clean (play_right script start lines end play)
