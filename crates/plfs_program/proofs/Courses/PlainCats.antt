-- A file is written out as a plain machine has it, where nothing breaks.
use Rattle.std.proofs.Common.{ℕ, zero, suc, ◌≡◌, ◌≢◌, ◌+◌, ◌*◌, true, false, List, [], ◌∷◌, ◌++◌, length, Option, Some, None, refl, sym, ap, ◌∙◌, subst, append-nil}
use Rattle.std.specs.Prelude.{map, option_map, set, slice_get, MatchOption}
use Rattle.std.specs.List.{range_with_len}
use Rattle.std.proofs.lemmas.List.Elements.{All-cons, All-map, All-nil}
use Rattle.plfs_types.specs.Counts.{HasRisen}
use Rattle.edge_io.specs.Sink.{Taking}
use Rattle.edge_io.specs.Source.{Given}
use Rattle.store_api.specs.Acts.{Stored}
use Rattle.mount_model.specs.Mounting.{IsMounted}
use Rattle.mount_model.specs.State.{State}
use Rattle.plain_file.specs.File.{slice}
use Rattle.command_line.specs.Commands.{IsCommand}
use Rattle.command_line.specs.declared.commands.Command.{Command}
use Rattle.command_line.specs.declared.commands.Command.TheVariants as command
use Rattle.script_lang.specs.declared.line.Line.{Line}
use Rattle.script_lang.specs.declared.line.Outcome.{Outcome}
use Rattle.script_lang.specs.declared.line.Outcome.TheVariants.{Read as WasRead, Reader, Refused}
use Rattle.script_lang.specs.declared.line.Why.TheVariants.{MountsSpent, NoFile}
use Rattle.script_lang.specs.declared.script.Numbered.{Numbered}
use Rattle.report_text.specs.Text.{text_of}
use Rattle.plain_machine.specs.Machine.{Plain, PlainActor, PlainReader, PlainRoom}
use Rattle.plain_machine.specs.Cases.{InRoom, IsRefused}
use Rattle.plain_machine.specs.Finding.{find}
use Rattle.plain_machine.specs.Landed.{bytes_seen, counts, file_of}
use Rattle.plain_machine.specs.Readers.{OpensReader, Reads, Sees}
use Rattle.plain_machine.specs.Running.{IsNoStop, IsPlainPhase, IsPlainScript, TakesAll, nobody}
use Rattle.plain_plays.specs.Saying.{BeginsPlainly}
use Rattle.plain_plays.specs.OverStores.{BeginsOver, IsSaidByOne, IsSaidOver, MountsAs, TellsPlainly, as_mounted, bare}
use Rattle.program_ends.specs.Ends.{Ends}
use Rattle.program_ends.specs.Outcomes.{status_of}
use Rattle.program_ends.specs.Output.{IsPrinted}
use Rattle.program_ends.specs.Reported.{line_zero}
use Rattle.plfs_program.specs.Cat.{IsRead, cat_script, cat_statements, content_of, contents, is_read, opening, piece_length, pieces_of, reader_size, reading}
use Rattle.plfs_program.specs.Catting.{CatCourse, IsReadOut}
use Rattle.plfs_program.specs.Commands.{IsBuiltCommand, IsPlanned, actor}
use Rattle.plfs_program.specs.Complete.{HadNoTrouble}
use Rattle.plfs_program.specs.Course.{Course, usage, unread, read, planned, cats, migrates, packs_unread, packs, unpacks, names_all, hungry}
use Rattle.plfs_program.specs.Lines.{AreLinesOf, mounted, unmounted}
use Rattle.plfs_program.specs.PlainCat.{IsWrittenAs, IsWrittenOverSound, IsWrittenPlainly, WritesFile, file_named, file_under, spent, written}
use Rattle.plfs_program.specs.Plainly.{SaysOverSound}
use Rattle.plfs_program.specs.Plainly as plainly
use Rattle.plfs_program.specs.Ways.{by_turns, on_threads}
use Rattle.plfs_program.proofs.Courses.PlainMounts.{sound_says}
use Rattle.plfs_program.proofs.Courses.PlainRuns.{lines_plain, never_unmounted, none_some}
use Rattle.plfs_program.proofs.SingleRuns.Cats.{Told, stuck, told_so, unopened, whole}
use Rattle.plfs_program.proofs.SingleRuns.Quiet.{cat_quiet}
use Rattle.plfs_program.proofs.SingleRuns.Twice.{calm_of}
use Rattle.plfs_program.proofs.Streams.Slices.{AreSlices, slices_whole}
use Rattle.plfs_program.proofs.Streams.Words.{one_command}

-- ---- the script has no `turn` and no `stop` lines

abbrev DoesNotStop : Numbered → Type 0
DoesNotStop s = IsNoStop s.statement

is_plain : (name : List ℕ) (count : ℕ) → IsPlainScript (cat_script name count)
is_plain name count =
    let rest = map reading (range_with_len 0 count) in
    let phase : IsPlainPhase (record { turns = []; statements = cat_statements name count }) = record {
      no_turns = refl;
      no_stops = All-cons DoesNotStop (opening name) rest tt (All-map DoesNotStop reading (range_with_len 0 count) (λ k d lt. tt));
    } in
    All-cons IsPlainPhase (record { turns = []; statements = cat_statements name count }) [] phase (All-nil IsPlainPhase)

-- ---- what the machine says

-- an actor that has this reader alone
abbrev seeing : PlainReader → PlainActor
seeing file = record { writer = None; reader = Some file }

one_actor : (p : Plain) (a b : PlainActor) → p.actors ≡ b ∷ [] → slice_get p.actors 0 ≡ Some a → b ≡ a
one_actor p a b only there = let e : Some b ≡ Some a = sym (ap (λ (l : List PlainActor). slice_get l 0) only) ∙ there in cc

-- pieces from this one on, as many as statements, each with its bytes
record AreRead (file : PlainReader) (k n : ℕ) (lines : List Line) : Type 0 where
  long : length lines ≡ n
  slices : AreSlices (bytes_seen file) k lines
  all_read : (before after : List Line) (line : Line) → lines ≡ before ++ line ∷ after → IsRead line

-- one more in front
read_more : (file : PlainReader) (k n : ℕ) (line : Line) (lines : List Line) → line.outcome ≡ WasRead (k * piece_length) (slice (bytes_seen file) (k * piece_length) piece_length) → AreRead file (k + 1) n lines → AreRead file k (suc n) (line ∷ lines)
read_more file k n line lines is rest = record { long = ap suc rest.long; slices = (ap content_of is, rest.slices); all_read = among }
  where
    among : (before after : List Line) (x : Line) → line ∷ lines ≡ before ++ x ∷ after → IsRead x
    among [] after x same = let first : line ≡ x = cc in subst IsRead first (ap is_read is)
    among (y ∷ before) after x same = let later : lines ≡ before ++ x ∷ after = cc in rest.all_read before after x later

pieces_read : (file : PlainReader) (k n : ℕ) (p last : Plain) (lines : List Line) → p.actors ≡ seeing file ∷ [] → TakesAll (actor ∷ []) p (map reading (range_with_len k n)) lines last → AreRead file k n lines
pieces_read file k zero p last [] has takes = record { long = refl; slices = tt; all_read = λ before after line same. none before after line same }
  where
    none : (before after : List Line) (line : Line) → [] ≡ before ++ line ∷ after → IsRead line
    none [] after line same = cc
    none (x ∷ before) after line same = cc
pieces_read file k zero p last (line ∷ lines) has takes = absurd takes
pieces_read file k (suc n) p last [] has takes = absurd takes
pieces_read file k (suc n) p last (line ∷ lines) has (next, (declared, a, at, there, number, one), rest) =
    let R : PlainActor → Type 0 = λ x. Reads x p (k * piece_length) piece_length line.outcome next in
    let (told, same) = subst R (sym (one_actor p a (seeing file) has there)) one in
    read_more file k n line lines told (pieces_read file (k + 1) n next last lines (ap (λ (q : Plain). q.actors) same ∙ has) rest)

-- what the line of the opening says, and the machine has then
data Opens (name : List ℕ) (p : Plain) (outcome : Outcome) (next : Plain) : Type 0 where
  refused : find p name ≡ None → outcome ≡ Refused NoFile → Opens name p outcome next
  seen : (number : ℕ) (room : PlainRoom) → find p name ≡ Some number → slice_get p.rooms number ≡ Some room → outcome ≡ Reader (length (bytes_seen (file_of number room))) (counts room.writers) room.truncs
      → next.actors ≡ seeing (file_of number room) ∷ [] → Opens name p outcome next

-- the same, where the machine finds this
abbrev OpensAt : Plain → Outcome → Plain → Option ℕ → Type 0
OpensAt p outcome next at = MatchOption at (IsRefused outcome NoFile p next) (λ number. InRoom p number (λ room. Sees 0 (nobody actor) p number room outcome next))

opens_at : (name : List ℕ) (p next : Plain) (outcome : Outcome) (at : Option ℕ) → p.actors ≡ nobody actor ∷ [] → find p name ≡ at → OpensAt p outcome next at → Opens name p outcome next
opens_at name p next outcome None has is (told, stays) = refused is told
opens_at name p next outcome (Some number) has is (room, stands, (told, goes)) =
    seen number room is stands told (ap (λ (q : Plain). q.actors) goes ∙ ap (λ (l : List PlainActor). set l 0 (seeing (file_of number room))) has)

opens_so : (name : List ℕ) (p next : Plain) (outcome : Outcome) (a : PlainActor) → p.actors ≡ nobody actor ∷ [] → slice_get p.actors 0 ≡ Some a → OpensReader 0 a p name outcome next → Opens name p outcome next
opens_so name p next outcome a has there opens =
    opens_at name p next outcome (find p name) has refl (subst (λ (x : PlainActor). OpensReader 0 x p name outcome next) (sym (one_actor p a (nobody actor) has there)) opens)

-- ---- what is printed

-- the opening and the readings, as the machine takes them
record IsCat (name : List ℕ) (count : ℕ) (p : Plain) (opened : Line) (reads : List Line) : Type 0 where
  next : Plain
  last : Plain
  number : opened.number ≡ 0
  opens : Opens name p opened.outcome next
  rest : TakesAll (actor ∷ []) next (map reading (range_with_len 0 count)) reads last

cat_so : (name : List ℕ) (count : ℕ) (p : Plain) (opened : Line) (reads : List Line) (after : Stored) → p.actors ≡ nobody actor ∷ [] → IsSaidOver (cat_script name count) p (opened ∷ reads) after → IsCat name count p opened reads
cat_so name count p opened reads after has said =
    let takes : TakesAll (actor ∷ []) p (cat_statements name count) (opened ∷ reads) said.says.last = subst (λ (ss : List Numbered). TakesAll (actor ∷ []) p ss (opened ∷ reads) said.says.last) (append-nil (cat_statements name count)) said.says.takes in
    let (next, (declared, a, at, there, number, opens), rest) = takes in
    record { next = next; last = said.says.last; number = number; opens = opens_so name p next opened.outcome a has there opens; rest = rest }

pub missing_file : (name : List ℕ) (p : Plain) → find p name ≡ None → file_named p name ≡ None
missing_file name p missing = ap (file_under p) missing

pub found_file : (name : List ℕ) (p : Plain) (number : ℕ) (room : PlainRoom) → find p name ≡ Some number → slice_get p.rooms number ≡ Some room → file_named p name ≡ Some (file_of number room)
found_file name p number room found stands = ap (file_under p) found ∙ ap (λ (r : Option PlainRoom). option_map (file_of number) r) stands

module _ (name : List ℕ) (p : Plain) (taking taking_after : Taking) (status : ℕ) where
  -- no reader was opened
  none_so : (line : Line) (next : Plain) → line.number ≡ 0 → reader_size line.outcome ≡ None → IsPrinted (text_of (line ∷ [])) taking taking_after → status ≡ status_of (line ∷ []) → Opens name p line.outcome next → WritesFile (file_named p name) taking taking_after status
  none_so line next number none text is (refused missing told) =
      let Printed : ℕ × Outcome → Type 0 = λ z. IsPrinted (text_of (record { number = z.0; outcome = z.1 } ∷ [])) taking taking_after in
      let Decided : ℕ × Outcome → Type 0 = λ z. status ≡ status_of (record { number = z.0; outcome = z.1 } ∷ []) in
      let same : (line.number, line.outcome) ≡ (0, Refused NoFile) = λ i. (number i, told i) in
      subst (λ (f : Option PlainReader). WritesFile f taking taking_after status) (sym (missing_file name p missing)) (subst Printed same text, subst Decided same is)
  none_so line next number none text is (seen at room found stands told only) = absurd (let e : Some (length (bytes_seen (file_of at room))) ≡ None = sym (ap reader_size told) ∙ none in cc)

  -- all pieces were read
  all_so : (opened : Line) (reads : List Line) (size : ℕ) (next last : Plain) → reader_size opened.outcome ≡ Some size → IsPrinted (contents reads) taking taking_after → status ≡ 0 → TakesAll (actor ∷ []) next (map reading (range_with_len 0 (pieces_of size))) reads last
      → Opens name p opened.outcome next → WritesFile (file_named p name) taking taking_after status
  all_so opened reads size next last some text is rest (refused missing told) = absurd (let e : None ≡ Some size = sym (ap reader_size told) ∙ some in cc)
  all_so opened reads size next last some text is rest (seen at room found stands told only) =
      let file = file_of at room in
      let r = pieces_read file 0 (pieces_of size) next last reads only rest in
      let e : Some size ≡ Some (length (bytes_seen file)) = sym some ∙ ap reader_size told in
      let long : size ≡ length (bytes_seen file) = cc in
      subst (λ (f : Option PlainReader). WritesFile f taking taking_after status) (sym (found_file name p at room found stands))
      (subst (λ (bytes : List ℕ). IsPrinted bytes taking taking_after) (slices_whole (bytes_seen file) size reads long r.long r.slices) text, is)

  -- a piece was not read
  stuck_so : (opened : Line) (reads : List Line) (last_line : Line) (size n : ℕ) (next last : Plain) → reader_size opened.outcome ≡ Some size → is_read last_line.outcome ≡ false → TakesAll (actor ∷ []) next (map reading (range_with_len 0 n)) (reads ++ last_line ∷ []) last
      → Opens name p opened.outcome next → WritesFile (file_named p name) taking taking_after status
  stuck_so opened reads last_line size n next last some not rest (refused missing told) = absurd (let e : None ≡ Some size = sym (ap reader_size told) ∙ some in cc)
  stuck_so opened reads last_line size n next last some not rest (seen at room found stands told only) =
      let r = pieces_read (file_of at room) 0 n next last (reads ++ last_line ∷ []) only rest in
      absurd (let wrong : true ≡ false = sym (r.all_read reads [] last_line refl) ∙ not in cc)

-- ---- the machine that begins

begins_with : (name : List ℕ) (a b : ℕ) (start : State) (p : Plain) → BeginsPlainly (cat_script name a) start p → BeginsPlainly (cat_script name b) start p
begins_with name a b start p it = record { mirrored = it.mirrored; actors = it.actors; dead_out = it.dead_out }

mounts_with : (name : List ℕ) (a b : ℕ) (times : Option (List ℕ)) (opened : Stored) (p : Plain) → MountsAs (cat_script name a) times opened p → MountsAs (cat_script name b) times opened p
mounts_with name a b times opened p m = record { mounts = m.mounts; begins = λ start made. begins_with name a b start p (m.begins start made) }

over_with : (name : List ℕ) (a b : ℕ) (times : Option (List ℕ)) (opened : Stored) (p : Plain) → BeginsOver (cat_script name a) times opened p → BeginsOver (cat_script name b) times opened p
over_with name a b times opened p (bare is first) = bare is first
over_with name a b times opened p (as_mounted m) = as_mounted (mounts_with name a b times opened p m)

actors_so : (name : List ℕ) (count : ℕ) (times : Option (List ℕ)) (opened : Stored) (start : State) (p : Plain) → IsMounted 0 times opened start → BeginsOver (cat_script name count) times opened p → p.actors ≡ nobody actor ∷ []
actors_so name count times opened start p made (bare is first) = ap (λ (q : Plain). q.actors) first
actors_so name count times opened start p made (as_mounted m) = (m.begins start made).actors

-- ---- the run

-- it has these lines, and no count of the store has risen
module _ (name : List ℕ) (e : Ends) (status count : ℕ) (lines : List Line) (r : IsReadOut name count lines e) (quiet : HasRisen e.stored.faults r.played.after.faults → ⊥) (writes : (p : Plain) → p.actors ≡ nobody actor ∷ [] → IsSaidOver (cat_script name count) p lines r.played.after → WritesFile (file_named p name) e.taking e.taking_after status) (unmarked : lines ≡ line_zero (Refused MountsSpent) ∷ [] → IsPrinted (text_of (line_zero (Refused MountsSpent) ∷ [])) e.taking e.taking_after × (status ≡ 1)) where
  says : TellsPlainly (cat_script name count) e.times e.stored lines r.played.after
  says = lines_plain (cat_script name count) e.times e.stored r.played.after lines r.played.in_turn r.played.cause quiet

  has_actors : (p : Plain) → BeginsOver (cat_script name count) e.times e.stored p → AreLinesOf by_turns e.times e.stored r.played.after (cat_script name count) lines → p.actors ≡ nobody actor ∷ []
  has_actors p begins (mounted on) = actors_so name count e.times e.stored on.start p on.mounted begins
  has_actors p begins (unmounted why failed told) = absurd (never_unmounted (cat_script name count) e.times e.stored r.played.after lines why p begins failed told r.played.cause quiet)

  written_as : (p : Plain) → BeginsOver (cat_script name count) e.times e.stored p → IsWrittenAs name p r.played.after e status
  written_as p begins =
      let said = says (is_plain name count) p begins in
      record { writes = writes p (has_actors p begins r.played.in_turn) said; count = count; lines = lines; says = said }

  over_sound : SaysOverSound (cat_script name count) e.times e.stored lines r.played.after → IsWrittenOverSound name r.played.after e status
  over_sound (plainly.spent tree told marks only) = let u = unmarked only in spent tree told marks u.0 u.1
  over_sound (plainly.said one) =
      let it : IsSaidByOne (cat_script name count) e.times e.stored lines r.played.after = one (is_plain name count) in
      written it.machine (mounts_with name count 0 e.times e.stored it.machine it.begins) (written_as it.machine (as_mounted it.begins))

  plainly_so : IsWrittenPlainly name e status
  plainly_so = record {
    after = r.played.after;
    left = r.played.left;
    plain = λ p begins. written_as p (over_with name 0 count e.times e.stored p begins);
    sound = λ told. over_sound (sound_says (cat_script name count) e.times e.stored r.played.after lines r.played.in_turn r.played.cause quiet says told);
  }

-- a line of a mount that has no mark left is no reader's
no_reader : (opened : Line) (reads : List Line) (size : ℕ) → reader_size opened.outcome ≡ Some size → opened ∷ reads ≡ line_zero (Refused MountsSpent) ∷ [] → ⊥
no_reader opened reads size some only =
    let first : opened ≡ line_zero (Refused MountsSpent) = cc in
    let e : None ≡ Some size = sym (ap (λ (line : Line). reader_size line.outcome) first) ∙ some in
    cc

told_plainly : (given after : Given) (name : List ℕ) (e : Ends) (status : ℕ) → HadNoTrouble given after e → Told name e status [] → IsWrittenPlainly name e status
told_plainly given after name e status quiet (unopened line r none text is) =
    plainly_so name e status 0 (line ∷ []) r.out (quiet.store r.out.played.after r.out.played.left)
    (λ p has said. let c = cat_so name 0 p line [] r.out.played.after has said in none_so name p e.taking e.taking_after status line c.next c.number none text is c.opens)
    (λ only. (subst (λ ls. IsPrinted (text_of ls) e.taking e.taking_after) only text, is ∙ ap status_of only))
told_plainly given after name e status quiet (whole opened reads size some r all text is) =
    plainly_so name e status (pieces_of size) (opened ∷ reads) r.out (quiet.store r.out.played.after r.out.played.left)
    (λ p has said. let c = cat_so name (pieces_of size) p opened reads r.out.played.after has said in all_so name p e.taking e.taking_after status opened reads size c.next c.last some text is c.rest c.opens)
    (λ only. absurd (no_reader opened reads size some only))
told_plainly given after name e status quiet (stuck opened reads last size some few r all not text is) =
    plainly_so name e status (length reads + 1) (opened ∷ (reads ++ last ∷ [])) r.out (quiet.store r.out.played.after r.out.played.left)
    (λ p has said. let c = cat_so name (length reads + 1) p opened (reads ++ last ∷ []) r.out.played.after has said in stuck_so name p e.taking e.taking_after status opened reads last size (length reads + 1) c.next c.last some not c.rest c.opens)
    (λ only. absurd (no_reader opened (reads ++ last ∷ []) size some only))

-- ---- what the words ask for

-- only `cat` writes a file out
abbrev IsCatCommand : Command → Type 0
IsCatCommand (command.Cat name) = Unit {0}
IsCatCommand other = ⊥

named : (a b : List ℕ) → command.Cat a ≡ command.Cat b → a ≡ b
named a b same = cc

module _ (given after : Given) (e : Ends) (status : ℕ) (quiet : HadNoTrouble given after e) (fed : status ≢ 3) (Serves : Command → Type 0) (built : (asked : Command) → IsBuiltCommand asked → Serves asked) (words : List (List ℕ)) (name : List ℕ) (is : IsCommand words (command.Cat name)) where
  other_words : (asked : Command) → IsCommand words asked → IsCatCommand asked
  other_words asked other = subst IsCatCommand (one_command words (command.Cat name) asked is other) tt

  pub course_cats : Course Serves words given after e status → IsWrittenPlainly name e status
  course_cats (usage none same kept said two) = absurd (none (command.Cat name) (built (command.Cat name) tt) is)
  course_cats (unread way served other risen kept same five) = absurd (quiet.source risen)
  course_cats (read by_turns input served other whole_input course) = absurd (other_words command.Play other)
  course_cats (read on_threads input served other whole_input course) = absurd (other_words command.Run other)
  course_cats (planned asked plan other has same course) = absurd (none_some plan (subst (λ c. IsPlanned c plan) (one_command words asked (command.Cat name) other is) has))
  course_cats (cats also other same course) =
      let one : also ≡ name = named also name (one_command words (command.Cat also) (command.Cat name) other is) in
      let its : CatCourse name e status = subst (λ n. CatCourse n e status) one course in
      told_plainly given after name e status quiet (told_so given after name e status [] (calm_of given after e quiet) its (cat_quiet given after e quiet name status fed its))
  course_cats (migrates also other same course) = absurd (other_words (command.Migrate also) other)
  course_cats (packs_unread also region other risen kept same five) = absurd (quiet.source risen)
  course_cats (packs also region input other whole_input course) = absurd (other_words (command.Pack also region) other)
  course_cats (unpacks also file other same course) = absurd (other_words (command.Unpack also file) other)
  course_cats (names_all also other same course) = absurd (other_words (command.Names also) other)
  course_cats (hungry well kept same three) = absurd (fed three)
