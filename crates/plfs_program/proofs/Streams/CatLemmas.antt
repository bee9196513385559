-- How a file that is written out comes to its end.
use Rattle.std.proofs.Common.{◌≡◌, ℕ, ◌+◌, ◌<◌, ◌⊎◌, inl, inr, false, List, [], ◌∷◌, ◌++◌, length, map, Option, Some, None, refl, sym, ap, ◌∙◌, subst, append_assoc, append-nil, arith}
use Rattle.std.specs.Prelude.{All}
use Rattle.std.specs.List.{range_with_len}
use Rattle.std.proofs.lemmas.List.{length-append}
use Rattle.std.proofs.lemmas.List.Elements.{All-nil, All-cons, All-append, All-map}
use Rattle.std.proofs.lemmas.List.FromFn.{map-range_with_len_more}
use Rattle.edge_io.specs.Sink.{Taking, TakesOn}
use Rattle.mount_model.specs.State.{State}
use Rattle.script_lang.specs.declared.line.Line.{Line}
use Rattle.script_lang.specs.declared.script.ActorDecl.{ActorDecl}
use Rattle.script_lang.specs.declared.script.Numbered.{Numbered}
use Rattle.actor_core.specs.declared.kept.Kept.{Kept}
use Rattle.actor_core.specs.Progress.{fresh}
use Rattle.report_text.specs.Text.{text_of}
use Rattle.run_core.specs.Breaking.{IsPlayBroken}
use Rattle.run_core.specs.Broken.{OneIsBroken}
use Rattle.run_core.specs.Play.{IsPlay}
use Rattle.run_core.specs.declared.lone_reader.LoneReader.{LoneReader}
use Rattle.run_core.specs.Making.{Keeps, HasMade, HasMadeOne, Makes}
use Rattle.run_core.proofs.Facts.{made_none, made_more, made_play, one_breaks}
use Rattle.plfs_program.specs.Cat.{CatEnds, unopened, unsaid, whole, stuck, broken, starved, hungry, IsRead, is_read, content_of, contents, opening, reading, cat_statements, cat_script, pieces_of, reader_size}
use Rattle.plfs_program.specs.Catting.{CatsOn, Reads, Writes, FailsAt, starves, sticks, breaks}
use Rattle.plfs_program.specs.Commands.{script_of, actor}
use Rattle.program_ends.specs.Outcomes.{status_of}
use Rattle.program_ends.specs.Output.{IsPrinted, IsCutOff}

-- ---- what was written

none_taken : (old : Option (List ℕ)) → TakesOn [] old old
none_taken None = refl
none_taken (Some before) = ap Some (sym (append-nil before))

taken_both : (first second : List ℕ) (old mid new : Option (List ℕ)) → TakesOn first old mid → TakesOn second mid new → TakesOn (first ++ second) old new
taken_both first second None mid new a b = let P : Option (List ℕ) → Type 0 = λ o. TakesOn second o new in subst P a b
taken_both first second (Some before) mid new a b =
    let P : Option (List ℕ) → Type 0 = λ o. TakesOn second o new in
    subst P a b ∙ ap Some (append_assoc before first second)

none_printed : (taking : Taking) → IsPrinted [] taking taking
none_printed taking = record { bytes = none_taken taking.taken; faults = omega arith; stalls = omega arith }

printed_both : (first second : List ℕ) (old mid new : Taking) → IsPrinted first old mid → IsPrinted second mid new → IsPrinted (first ++ second) old new
printed_both first second old mid new a b = record { bytes = taken_both first second old.taken mid.taken new.taken a.bytes b.bytes; faults = omega (arith, a.faults, b.faults); stalls = omega (arith, a.stalls, b.stalls) }

contents_more : (lines : List Line) (line : Line) → contents (lines ++ line ∷ []) ≡ contents lines ++ content_of line.outcome
contents_more [] line = append-nil (content_of line.outcome)
contents_more (l ∷ lines) line = ap (λ z. content_of l.outcome ++ z) (contents_more lines line) ∙ sym (append_assoc (content_of l.outcome) (contents lines) (content_of line.outcome))

-- ---- what was read

abbrev pub IsFirst : Numbered → Type 0
IsFirst s = s.actor ≡ 0

pub all_first : (name : List ℕ) (count : ℕ) → All IsFirst (cat_statements name count)
all_first name count = All-cons IsFirst (opening name) (map reading (range_with_len 0 count)) refl (All-map IsFirst reading (range_with_len 0 count) (λ k d lt. refl))

is_play : (name : List ℕ) (count : ℕ) (start end : State) (lines : List Line) (kept : Kept) → HasMade actor (cat_statements name count) start lines kept end → IsPlay (cat_script name count) start lines end
is_play name count start end lines kept made = made_play actor (cat_statements name count) start end lines kept (all_first name count) made

more_statements : (name : List ℕ) (k : ℕ) → cat_statements name k ++ reading k ∷ [] ≡ cat_statements name (k + 1)
more_statements name k = ap (λ z. opening name ∷ z) (sym (map-range_with_len_more reading 0 k k (let same : 0 + k ≡ k = omega arith in same)))

one_longer : {X : Type 0} (xs : List X) (x : X) → length (xs ++ x ∷ []) ≡ length xs + 1
one_longer xs x = length-append xs (x ∷ [])

-- the statement is made behind those that were made
one_more : (name : List ℕ) (start now later : State) (opened line : Line) (k : ℕ) (lines : List Line) (kept left : Kept) → HasMade actor (cat_statements name k) start (opened ∷ lines) kept now → Makes (reading k) kept now line left later
    → HasMade actor (cat_statements name (k + 1)) start (opened ∷ (lines ++ line ∷ [])) left later
one_more name start now later opened line k lines kept left made one =
    let P : List Numbered → Type 0 = λ z. HasMade actor z start (opened ∷ (lines ++ line ∷ [])) left later in
    subst P (more_statements name k) (made_more actor (cat_statements name k) (reading k) start now later (opened ∷ lines) line kept left refl made one)

-- the opening alone
opened_alone : (name : List ℕ) (start now : State) (line : Line) (left : Kept) → Makes (opening name) (fresh actor.host actor.cap) start line left now → HasMade actor (cat_statements name 0) start (line ∷ []) left now
opened_alone name start now line left one = made_more actor [] (opening name) start start now [] line (fresh actor.host actor.cap) left refl (made_none actor start) one

pub opening_plays : (name : List ℕ) (start now : State) (line : Line) (fresh_one reader : LoneReader) → Keeps fresh_one (fresh actor.host actor.cap) → ((kept : Kept) → Keeps fresh_one kept → HasMadeOne (opening name) kept start line reader now)
    → IsPlay (cat_script name 0) start (line ∷ []) now
opening_plays name start now line fresh_one reader keeps made =
    let m = made (fresh actor.host actor.cap) keeps in
    is_play name 0 start now (line ∷ []) m.0 (opened_alone name start now line m.0 m.2)

-- no piece is read yet
pub reads_none : (name : List ℕ) (start now : State) (line : Line) (fresh_one reader : LoneReader) (taking : Taking) → Keeps fresh_one (fresh actor.host actor.cap) → ((kept : Kept) → Keeps fresh_one kept → HasMadeOne (opening name) kept start line reader now)
    → Reads name start line 0 taking reader now taking
reads_none name start now line fresh_one reader taking keeps made =
    let m = made (fresh actor.host actor.cap) keeps in
    record {
      lines = [];
      kept = m.0;
      keeps = m.1;
      made = opened_alone name start now line m.0 m.2;
      long = refl;
      read = All-nil IsRead;
      printed = none_printed taking;
    }

-- one piece more
pub reads_more : (name : List ℕ) (start now later : State) (opened : Line) (k : ℕ) (taking mid after : Taking) (reader new : LoneReader) → Reads name start opened k taking reader now mid → Writes k reader now mid new later after
    → Reads name start opened (k + 1) taking new later after
reads_more name start now later opened k taking mid after reader new r writes =
    let w = writes r.kept r.keeps in
    let P : List ℕ → Type 0 = λ z. IsPrinted z taking after in
    record {
      lines = r.lines ++ w.0 ∷ [];
      kept = w.1.0;
      keeps = w.1.1;
      made = one_more name start now later opened w.0 k r.lines r.kept w.1.0 r.made w.1.2;
      long = one_longer r.lines w.0 ∙ ap (λ n. n + 1) r.long;
      read = All-append IsRead r.lines (w.0 ∷ []) r.read (All-cons IsRead w.0 [] w.2 (All-nil IsRead));
      printed = subst P (sym (contents_more r.lines w.0)) (printed_both (contents r.lines) (content_of w.0.outcome) taking mid after r.printed w.3);
    }

-- ---- one piece

made_of : (k : ℕ) (s : Numbered) (kept : Kept) (now later : State) (line : Line) (new : LoneReader) → s ≡ reading k → HasMadeOne s kept now line new later → HasMadeOne (reading k) kept now line new later
made_of k s kept now later line new same made = let P : Numbered → Type 0 = λ z. HasMadeOne z kept now line new later in subst P same made

pub writes_so : (k : ℕ) (s : Numbered) (reader new : LoneReader) (now later : State) (old after : Taking) (line : Line) (bytes : List ℕ) → s ≡ reading k → ((kept : Kept) → Keeps reader kept → HasMadeOne s kept now line new later)
    → bytes ≡ content_of line.outcome → IsRead line → IsPrinted bytes old after → Writes k reader now old new later after
writes_so k s reader new now later old after line bytes same made shown read printed = λ kept keeps.
    let P : List ℕ → Type 0 = λ z. IsPrinted z old after in
    (line, made_of k s kept now later line new same (made kept keeps), read, subst P shown printed)

pub sticks_so : (k : ℕ) (s : Numbered) (reader new : LoneReader) (now later : State) (taking : Taking) (line : Line) (status : ℕ) → s ≡ reading k → ((kept : Kept) → Keeps reader kept → HasMadeOne s kept now line new later)
    → is_read line.outcome ≡ false → status ≡ status_of (line ∷ []) → FailsAt k reader now taking later taking status
sticks_so k s reader new now later taking line status same made not_read is =
    sticks (λ kept keeps. let m = made_of k s kept now later line new same (made kept keeps) in (line, m.0, m.2, not_read, is)) refl

broken_of : (k : ℕ) (s : Numbered) (kept : Kept) (now later : State) → s ≡ reading k → OneIsBroken s kept now later → OneIsBroken (reading k) kept now later
broken_of k s kept now later same broken_off = let P : Numbered → Type 0 = λ z. OneIsBroken z kept now later in subst P same broken_off

pub starves_so : (k : ℕ) (s : Numbered) (reader : LoneReader) (now later : State) (taking : Taking) → s ≡ reading k → ((kept : Kept) → Keeps reader kept → OneIsBroken s kept now later) → FailsAt k reader now taking later taking 3
starves_so k s reader now later taking same broken_off = starves (λ kept keeps. broken_of k s kept now later same (broken_off kept keeps)) refl refl

pub breaks_so : (k : ℕ) (s : Numbered) (reader new : LoneReader) (now later : State) (old after : Taking) (line : Line) (bytes : List ℕ) (status : ℕ) → s ≡ reading k → ((kept : Kept) → Keeps reader kept → HasMadeOne s kept now line new later)
    → bytes ≡ content_of line.outcome → IsRead line → IsCutOff bytes old after → status ≡ 6 → FailsAt k reader now old later after status
breaks_so k s reader new now later old after line bytes status same made shown read cut is =
    let P : List ℕ → Type 0 = λ z. IsCutOff z old after in
    breaks (λ kept keeps. let m = made_of k s kept now later line new same (made kept keeps) in (line, m.0, m.2, read, subst P shown cut)) is

-- ---- the end

-- all pieces are read
pub reads_all : (name : List ℕ) (start end : State) (opened : Line) (k size : ℕ) (taking after : Taking) (reader : LoneReader) → reader_size opened.outcome ≡ Some size → k ≡ pieces_of size → Reads name start opened k taking reader end after
    → CatsOn name start taking end after 0
reads_all name start end opened k size taking after reader told all r =
    let P : ℕ → Type 0 = λ n. IsPlay (cat_script name n) start (opened ∷ r.lines) end in
    whole opened r.lines size told (subst P all (is_play name k start end (opened ∷ r.lines) r.kept r.made)) r.read r.printed refl

same_taking : (written : List ℕ) (old mid new : Taking) → new ≡ mid → IsPrinted written old mid → IsPrinted written old new
same_taking written old mid new same is = subst (IsPrinted written old) (sym same) is

-- a front of the next piece's calls is a front of a play with one piece more
broken_piece : (name : List ℕ) (start now end : State) (opened : Line) (k : ℕ) (lines : List Line) (kept : Kept) → HasMade actor (cat_statements name k) start (opened ∷ lines) kept now → OneIsBroken (reading k) kept now end → IsPlayBroken (cat_script name (k + 1)) start end
broken_piece name start now end opened k lines kept made b =
    let more : cat_statements name k ++ reading k ∷ [] ≡ cat_statements name (k + 1) = more_statements name k in
    let P : List Numbered → Type 0 = λ z. IsPlayBroken (script_of z) start end in
    subst P more (one_breaks actor (cat_statements name k) (reading k) start now end (opened ∷ lines) kept refl (subst (λ (z : List Numbered). All IsFirst z) (sym more) (all_first name (k + 1))) made b)

-- a front of the opening's calls is a front of a play without a piece
pub broken_opening : (name : List ℕ) (start end : State) (reader : LoneReader) → Keeps reader (fresh actor.host actor.cap) → ((kept : Kept) → Keeps reader kept → OneIsBroken (opening name) kept start end) → IsPlayBroken (cat_script name 0) start end
broken_opening name start end reader keeps breaks_off =
    one_breaks actor [] (opening name) start start end [] (fresh actor.host actor.cap) refl (all_first name 0) (made_none actor start) (breaks_off (fresh actor.host actor.cap) keeps)

-- memory was refused as it was opened
pub opening_starves : (name : List ℕ) (start end : State) (declared : ActorDecl) (s : Numbered) (reader : LoneReader) (taking : Taking) → declared ≡ actor → s ≡ opening name → Keeps reader (fresh declared.host declared.cap)
    → ((kept : Kept) → Keeps reader kept → OneIsBroken s kept start end) → CatsOn name start taking end taking 3
opening_starves name start end declared s reader taking is same keeps broken_off =
    let K : ActorDecl → Type 0 = λ z. Keeps reader (fresh z.host z.cap) in
    let B : Numbered → Type 0 = λ z. (kept : Kept) → Keeps reader kept → OneIsBroken z kept start end in
    hungry (inr (broken_opening name start end reader (subst K is keeps) (subst B same broken_off))) refl refl

-- a piece was not written
pub reads_fail : (name : List ℕ) (start now end : State) (opened : Line) (k size status : ℕ) (taking mid after : Taking) (reader : LoneReader) → reader_size opened.outcome ≡ Some size → k < pieces_of size → Reads name start opened k taking reader now mid
    → FailsAt k reader now mid end after status → CatsOn name start taking end after status
reads_fail name start now end opened k size status taking mid after reader told less r (starves breaks_off same is) =
    let b = breaks_off r.kept r.keeps in
    starved opened r.lines (record {
      count = k;
      mid = now;
      play = is_play name k start now (opened ∷ r.lines) r.kept r.made;
      later = record { events = b.events; leads = b.leads };
      broken = broken_piece name start now end opened k r.lines r.kept r.made b;
    }) r.read (same_taking (contents r.lines) taking mid after same r.printed) is
reads_fail name start now end opened k size status taking mid after reader told less r (sticks line same) =
    let l = line r.kept r.keeps in
    let P : ℕ → Type 0 = λ n. IsPlay (cat_script name n) start (opened ∷ (r.lines ++ l.0 ∷ [])) end in
    let count : k + 1 ≡ length r.lines + 1 = ap (λ n. n + 1) (sym r.long) in
    stuck opened r.lines l.0 size told (omega (arith, r.long, less)) (subst P count (is_play name (k + 1) start end (opened ∷ (r.lines ++ l.0 ∷ [])) l.1 (one_more name start now end opened l.0 k r.lines r.kept l.1 r.made l.2)))
    r.read l.3 (same_taking (contents r.lines) taking mid after same r.printed) l.4
reads_fail name start now end opened k size status taking mid after reader told less r (breaks line is) =
    let l = line r.kept r.keeps in
    let P : ℕ → Type 0 = λ n. IsPlay (cat_script name n) start (opened ∷ (r.lines ++ l.0 ∷ [])) end in
    let count : k + 1 ≡ length r.lines + 1 = ap (λ n. n + 1) (sym r.long) in
    broken opened r.lines l.0 size mid told (omega (arith, r.long, less)) (subst P count (is_play name (k + 1) start end (opened ∷ (r.lines ++ l.0 ∷ [])) l.1 (one_more name start now end opened l.0 k r.lines r.kept l.1 r.made l.2)))
    r.read l.3 r.printed l.4 is

-- how the printing of one line ended
abbrev pub Said : Line → Taking → Taking → ℕ → Type 0
Said line taking after status =
    ((status ≡ status_of (line ∷ [])) × IsPrinted (text_of (line ∷ [])) taking after) ⊎ ((status ≡ 6) × IsCutOff (text_of (line ∷ [])) taking after) ⊎ ((status ≡ 3) × (after ≡ taking))

-- there is no reader
pub no_reader : (name : List ℕ) (start end : State) (line : Line) (status : ℕ) (taking after : Taking) → reader_size line.outcome ≡ None → IsPlay (cat_script name 0) start (line ∷ []) end → Said line taking after status
    → CatsOn name start taking end after status
no_reader name start end line status taking after none play (inl (is, all)) = unopened line play none all is
no_reader name start end line status taking after none play (inr (inl (is, part))) = unsaid line play none part is
no_reader name start end line status taking after none play (inr (inr (is, same))) = hungry (inl (line ∷ [], play)) same is

-- ---- from a mount to the run

module _ (name : List ℕ) (Played More : ℕ → List Line → Type 0) (Left Rest : Type 0) (Went Behind : List Line → Type 0) (played : (count : ℕ) (lines : List Line) → Played count lines → More count lines) (left : Left → Rest) (behind : (lines : List Line) → Went lines → Behind lines) where
  pub seen_so : (taking after : Taking) (status : ℕ) → CatEnds name Played Left Went taking after status → CatEnds name More Rest Behind taking after status
  seen_so taking after status (unopened line play none all is) = unopened line (played 0 (line ∷ []) play) none all is
  seen_so taking after status (unsaid line play none part is) = unsaid line (played 0 (line ∷ []) play) none part is
  seen_so taking after status (whole opened reads size told play read all is) = whole opened reads size told (played (pieces_of size) (opened ∷ reads) play) read all is
  seen_so taking after status (stuck opened reads last size told within play read not_read all is) = stuck opened reads last size told within (played (length reads + 1) (opened ∷ (reads ++ last ∷ [])) play) read not_read all is
  seen_so taking after status (broken opened reads last size mid told within play read last_read all part is) =
      broken opened reads last size mid told within (played (length reads + 1) (opened ∷ (reads ++ last ∷ [])) play) read last_read all part is
  seen_so taking after status (starved opened reads went_on read all is) = starved opened reads (behind (opened ∷ reads) went_on) read all is
  seen_so taking after status (hungry rest same is) = hungry (left rest) same is
