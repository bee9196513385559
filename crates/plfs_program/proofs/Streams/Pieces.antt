-- The pieces that a reader of one file was told.
use Rattle.std.proofs.Common.{ℕ, zero, suc, ◌≡◌, ◌+◌, ◌*◌, true, if◌then◌else◌, List, [], ◌∷◌, ◌++◌, length, map, take, Option, Some, None, refl, sym, ap, ◌∙◌, subst, append-nil, arith}
use Rattle.std.specs.List.{range_with_len}
use Rattle.std.specs.Prelude.{◌==◌, All}
use Rattle.std.proofs.lemmas.List.Elements.{All-head, All-tail}
use Rattle.plfs_types.specs.declared.entries.Trunc.{Trunc}
use Rattle.plfs_types.specs.declared.entries.WriterCount.{WriterCount}
use Rattle.mount_model.specs.History.{Event}
use Rattle.mount_model.specs.State.{State}
use Rattle.mount_sound.specs.Sound.{IsSoundFor}
use Rattle.mount_model.specs.Performers.{told_at}
use Rattle.script_lang.specs.declared.line.Line.{Line}
use Rattle.script_lang.specs.declared.line.Outcome.{Outcome}
use Rattle.script_lang.specs.declared.line.Outcome.TheVariants as of
use Rattle.script_lang.specs.declared.script.Numbered.{Numbered}
use Rattle.plain_file.specs.File.{slice}
use Rattle.reader_laws.specs.Moments.{Moment}
use Rattle.run_core.specs.Cast.{statements_in}
use Rattle.run_core.specs.Course.{own}
use Rattle.run_core.specs.Play.{IsPlay}
use Rattle.run_core.specs.Written.{whose}
use Rattle.headline_laws.specs.OneFile.{OneFile, seen_bytes}
use Rattle.headline_laws.specs.Opening.{Stretch, OpensOneFile}
use Rattle.headline_laws.specs.Readers.{ShowsEach, PlayShows}
use Rattle.headline_laws.specs.OneWriter.{OneWriter}
use Rattle.headline_laws.specs.Showing.{ShowsOpening, ShowsRead}
use Rattle.plfs_program.specs.Cat.{IsRead, is_read, content_of, contents, cat_script, cat_statements, piece_length, pieces_of, reader_size, reading}
use Rattle.plfs_program.specs.Commands.{actor}
use Rattle.plfs_program.specs.ReadOut.{ShowOneFile}
use Rattle.plfs_program.proofs.Streams.CatLemmas.{IsFirst, all_first}
use Rattle.plfs_program.proofs.Streams.Slices.{AreSlices, slices_front, slices_whole}

-- ---- what lines tell

-- the size of a reader's line
abbrev TellsSize : ℕ → Outcome → Type 0
TellsSize size outcome = (told : ℕ) × (cut : List WriterCount) × (truncs : List Trunc) × (outcome ≡ of.Reader told cut truncs) × (told ≡ size)

some_is : (a b : ℕ) → Some a ≡ Some b → a ≡ b
some_is a b e = cc

is_reader : (outcome : Outcome) (size : ℕ) → reader_size outcome ≡ Some size → TellsSize size outcome
is_reader (of.Reader told cut truncs) size is = (told, cut, truncs, refl, some_is told size is)
is_reader (of.Listed names) size is = cc
is_reader (of.Opened writer) size is = cc
is_reader (of.Wrote at len stamp) size is = cc
is_reader (of.Synced landed) size is = cc
is_reader (of.Closed landed) size is = cc
is_reader (of.Read at content) size is = cc
is_reader of.Same size is = cc
is_reader (of.Differs place) size is = cc
is_reader (of.Map pieces) size is = cc
is_reader of.ReaderClosed size is = cc
is_reader (of.Stat bytes stored shares truncs) size is = cc
is_reader (of.Truncated stamp) size is = cc
is_reader of.Renamed size is = cc
is_reader (of.Flattened flat pieces cut) size is = cc
is_reader (of.Recovered buried alive hold) size is = cc
is_reader of.Armed size is = cc
is_reader of.Stopped size is = cc
is_reader of.Gone size is = cc
is_reader (of.Refused why) size is = cc
is_reader of.Fault size is = cc
is_reader (of.Damaged folder file place) size is = cc

-- the bytes of a reading's line
abbrev TellsBytes : Outcome → Type 0
TellsBytes outcome = (at : ℕ) × (content : List ℕ) × (outcome ≡ of.Read at content)

was_read : (outcome : Outcome) → is_read outcome ≡ true → TellsBytes outcome
was_read (of.Read at content) is = (at, content, refl)
was_read (of.Listed names) is = cc
was_read (of.Opened writer) is = cc
was_read (of.Wrote at len stamp) is = cc
was_read (of.Synced landed) is = cc
was_read (of.Closed landed) is = cc
was_read (of.Reader size cut truncs) is = cc
was_read of.Same is = cc
was_read (of.Differs place) is = cc
was_read (of.Map pieces) is = cc
was_read of.ReaderClosed is = cc
was_read (of.Stat size stored shares truncs) is = cc
was_read (of.Truncated stamp) is = cc
was_read of.Renamed is = cc
was_read (of.Flattened flat pieces cut) is = cc
was_read (of.Recovered buried alive hold) is = cc
was_read of.Armed is = cc
was_read of.Stopped is = cc
was_read of.Gone is = cc
was_read (of.Refused why) is = cc
was_read of.Fault is = cc
was_read (of.Damaged folder file place) is = cc

-- ---- pieces

module _ (start : Moment) (caller : ℕ) (file : OneFile) where
  piece : (stretch : Stretch) (at len : ℕ) (outcome : Outcome) → is_read outcome ≡ true → ShowsRead start stretch file at len outcome → content_of outcome ≡ slice (seen_bytes file) at len
  piece stretch at len outcome is shows =
      let told = was_read outcome is in
      let S : Outcome → Type 0 = λ o. ShowsRead start stretch file at len o in
      ap content_of told.2 ∙ (subst S told.2 shows).1

  -- pieces from this one on are those of the file
  pieces_are : (k count : ℕ) (stretch : Stretch) (writer : Option OneWriter) (reads more : List Line) → All IsRead reads → ShowsEach start caller stretch (Some file) writer (map reading (range_with_len k count)) (reads ++ more)
      → AreSlices (seen_bytes file) k reads
  pieces_are k count stretch writer [] more all shows = tt
  pieces_are k zero stretch writer (line ∷ reads) more all shows = cc
  pieces_are k (suc count) stretch writer (line ∷ reads) more all (mine, rest, new, new_writer, split, number, (same, shown), writes, later) =
      let P : Option OneFile → Type 0 = λ o. ShowsEach start caller (record { before = stretch.before ++ mine; events = rest }) o new_writer (map reading (range_with_len (k + 1) count)) (reads ++ more) in (
        piece (record { before = stretch.before; events = mine }) (k * piece_length) piece_length line.outcome (All-head IsRead line reads all) shown,
        pieces_are (k + 1) count (record { before = stretch.before ++ mine; events = rest }) new_writer reads more (All-tail IsRead line reads all) (subst P same later),
      )

  pieces_front : (count : ℕ) (stretch : Stretch) (writer : Option OneWriter) (reads more : List Line) → All IsRead reads → ShowsEach start caller stretch (Some file) writer (map reading (range_with_len 0 count)) (reads ++ more)
      → contents reads ≡ take (length reads * piece_length) (seen_bytes file)
  pieces_front count stretch writer reads more all shows = slices_front (seen_bytes file) 0 reads (pieces_are 0 count stretch writer reads more all shows)

  -- all of them are all of its bytes
  pieces_whole : (size : ℕ) (stretch : Stretch) (writer : Option OneWriter) (count : ℕ) (lines : List Line) → size ≡ length (seen_bytes file) → All IsRead lines → length lines ≡ pieces_of size → ShowsEach start caller stretch (Some file) writer (map reading (range_with_len 0 count)) lines
      → contents lines ≡ seen_bytes file
  pieces_whole size stretch writer count lines is all long shows =
      let S : List Line → Type 0 = λ ls. ShowsEach start caller stretch (Some file) writer (map reading (range_with_len 0 count)) ls in
      slices_whole (seen_bytes file) size lines is long (pieces_are 0 count stretch writer lines [] all (subst S (sym (append-nil lines)) shows))

-- ---- the lines of the one actor

own_all : (statements : List Numbered) → All IsFirst statements → own 0 statements ≡ statements
own_all [] all = refl
own_all (s ∷ ss) all =
    let first : s.actor ≡ 0 = All-head IsFirst s ss all in
    let P : ℕ → Type 0 = λ n. (if n == 0 then s ∷ own 0 ss else own 0 ss) ≡ s ∷ ss in
    subst P (sym first) (ap (λ z. s ∷ z) (own_all ss (All-tail IsFirst s ss all)))

told_all : (statements : List Numbered) (lines : List Line) → All IsFirst statements → length lines ≡ length statements → told_at 0 (whose statements) lines ≡ lines
told_all [] [] all long = refl
told_all [] (line ∷ lines) all long = absurd (omega (arith, long))
told_all (s ∷ ss) [] all long = refl
told_all (s ∷ ss) (line ∷ lines) all long =
    let first : s.actor ≡ 0 = All-head IsFirst s ss all in
    let rest = told_all ss lines (All-tail IsFirst s ss all) (omega (arith, long)) in
    subst (λ n. told_at 0 (n ∷ whose ss) (line ∷ lines) ≡ line ∷ lines) (sym first) (ap (λ z. line ∷ z) rest)

-- ---- the law

module _ (name : List ℕ) (count : ℕ) (start : State) (end : State) where
  shown_so : (lines : List Line) (history : List Event) (m : Moment) (caller : ℕ) (sound : IsSoundFor m.issued start) → m.state ≡ start → ShowsEach m caller (record { before = []; events = history }) None None (cat_statements name count) lines → ShowOneFile start history name lines
  shown_so [] history m caller sound at shows = tt
  shown_so (opened ∷ lines) history m caller sound at (mine, rest, new, new_writer, split, number, shown, writes, later) = λ size told.
      let r = is_reader opened.outcome size told in
      let O : Outcome → Type 0 = λ o. ShowsOpening m caller (record { before = []; events = mine }) name o new in
      let o = subst O r.3 shown in
      let P : Option OneFile → Type 0 = λ z. ShowsEach m caller (record { before = mine; events = rest }) z new_writer (map reading (range_with_len 0 count)) lines in
      let reads = subst P o.1 later in
      let long : size ≡ length (seen_bytes o.0) = sym r.4 ∙ o.3.size_is in
      record {
        file = o.0;
        opened = record { issued = m.issued; sound = sound; caller = caller; first = mine; later = rest; all = split; opens = subst (λ st. OpensOneFile (record { state = st; issued = m.issued }) caller (record { before = []; events = mine }) name o.0) at o.2 };
        long = long;
        front = λ done more is all. (let S : List Line → Type 0 = λ ls. ShowsEach m caller (record { before = mine; events = rest }) (Some o.0) new_writer (map reading (range_with_len 0 count)) ls in pieces_front m caller o.0 count (record { before = mine; events = rest }) new_writer done more all (subst S is reads));
        whole = λ all pieces. pieces_whole m caller o.0 size (record { before = mine; events = rest }) new_writer count lines long all pieces reads;
      }

  -- where the lines of its readers show one plain file, so do its pieces
  pub cat_shows : (lines : List Line) (play : IsPlay (cat_script name count) start lines end) → PlayShows (cat_script name count) start lines end play → ShowOneFile start play.history name lines
  cat_shows lines play shows =
      let m : Moment = record { state = start; issued = shows.issued } in
      let statements = cat_statements name count in
      let whole : statements_in (cat_script name count).phases ≡ statements = append-nil statements in
      let one = shows.show 0 actor refl in
      let long : length lines ≡ length statements = shows.right.long ∙ ap length whole in
      let T : List Numbered × List Numbered → Type 0 = λ z. ShowsEach m one.0.number (record { before = []; events = shows.right.history }) None None z.0 (told_at 0 (whose z.1) lines) in
      let mine : T (own 0 statements, statements) = subst T (λ i. (own 0 (whole i), whole i)) one.2 in
      let told = subst (λ ls. ShowsEach m one.0.number (record { before = []; events = shows.right.history }) None None statements ls) (told_all statements lines (all_first name count) long) (subst (λ ss. ShowsEach m one.0.number (record { before = []; events = shows.right.history }) None None ss (told_at 0 (whose statements) lines)) (own_all statements (all_first name count)) mine) in
      subst (λ es. ShowOneFile start es name lines) shows.same (shown_so lines shows.right.history m one.0.number shows.sound refl told)
