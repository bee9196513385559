-- All answers of a reader are of one file, and a refresh tells of a later one, by the law that its lines show one.
use Rattle.std.proofs.Common.{◌≡◌, ◌≢◌, ◌⊎◌, ◌<◌, ◌≤◌, ◌+◌, ◌==◌, inl, inr, ℕ, Bool, true, false, nat_eq, List, [], ◌∷◌, ◌++◌, length, map, filter, Option, Some, None, refl, sym, ap, ◌∙◌, subst, arith, if◌then◌else◌}
use Rattle.std.specs.Prelude.{⊤}
use Rattle.std.specs.List.{All, AllByRecursion, Any}
use Rattle.std.proofs.lemmas.List.Elements.{All-from_recursion, recursion_from_All}
use Rattle.std.proofs.lemmas.Bool.Decides.{nat_tests}
use Rattle.plfs_types.specs.declared.entries.Trunc.{Trunc}
use Rattle.plfs_types.specs.declared.entries.WriterCount.{WriterCount}
use Rattle.plain_file.proofs.Facts.{Among}
use Rattle.reader_laws.specs.Moments.{Dropping, Moment}
use Rattle.reader_laws.specs.Gathering.{Gathered}
use Rattle.reader_laws.proofs.Gathered.Facts.{among, any_found, found_any}
use Rattle.mount_model.specs.Performers.{told_at}
use Rattle.script_lang.specs.declared.line.Line.{Line}
use Rattle.script_lang.specs.declared.line.Outcome.{Outcome}
use Rattle.script_lang.specs.declared.line.Outcome.TheVariants as line
use Rattle.script_lang.specs.declared.script.Numbered.{Numbered}
use Rattle.script_lang.specs.declared.script.Statement.TheVariants.{Refresh}
use Rattle.run_core.specs.Course.{own as own_statements}
use Rattle.headline_laws.specs.OneFile.{OneFile, printed_cut, seen_bytes}
use Rattle.headline_laws.specs.OneWriter.{OneWriter}
use Rattle.headline_laws.specs.Opening.{Stretch}
use Rattle.headline_laws.specs.Readers.{ShowsEach}
use Rattle.headline_laws.specs.Showing.{TellsOneFile}
use Rattle.headline.specs.Run.{IsLine, Phased, Run, Says, Told, before, beside, own, phased, surely_before, told}
use Rattle.headline.specs.Files.{Answers, reader_after, reader_at, reader_next}
use Rattle.headline_laws.proofs.OrderlyLines.Places.{Rise, actors, among_later, beside_rise, own_split}
use Rattle.headline_laws.proofs.OrderlyLines.AnswerSteps.{MapsSo, Next, RefreshesSo, Step, TellsLater, step_of}

-- ---- one line after the other

abbrev pub FileChain : Option OneFile → List Numbered → List Line → Type 0
FileChain file [] lines = ⊤
FileChain file (s ∷ ss) [] = ⊥
FileChain file (s ∷ ss) (l ∷ lines) = (new : Option OneFile) × Step file s.statement l.outcome new × FileChain new ss lines

pub each_chain : (start : Moment) (caller : ℕ) (stretch : Stretch) (file : Option OneFile) (writer : Option OneWriter) (ss : List Numbered) (lines : List Line) → ShowsEach start caller stretch file writer ss lines → FileChain file ss lines
each_chain start caller stretch file writer [] lines shows = tt
each_chain start caller stretch file writer (s ∷ ss) [] shows = absurd shows
each_chain start caller stretch file writer (s ∷ ss) (l ∷ lines) (mine, rest, new_file, new_writer, split, number, shows, writes, more) = (
  new_file,
  step_of start caller (record { before = stretch.before; events = mine }) file s.statement l.outcome new_file shows,
  each_chain start caller (record { before = stretch.before ++ mine; events = rest }) new_file new_writer ss lines more,
)

abbrev pub Shown : Option OneFile → List Told → Type 0
Shown file [] = ⊤
Shown file (t ∷ ts) = (new : Option OneFile) × Step file t.statement t.outcome new × Shown new ts

own_shown : (actor place : ℕ) (ss : List Phased) (lines : List Line) (file : Option OneFile) → FileChain file (own_statements actor (map (λ (s : Phased). s.is) ss)) (told_at actor (actors ss) lines) → Shown file (own actor (beside place ss lines))
own_shown actor place [] lines file chain = tt
own_shown actor place (s ∷ ss) [] file chain = tt
own_shown actor place (s ∷ ss) (l ∷ lines) file chain =
    let t : Told = record { phase = s.phase; place = place; actor = s.is.actor; statement = s.is.statement; outcome = l.outcome } in
    let mine = own_statements actor (map (λ (s : Phased). s.is) ss) in
    let theirs = told_at actor (actors ss) lines in
    let later = own actor (beside (place + 1) ss lines) in
    elim (nat_eq s.is.actor actor) as (λ b. FileChain file (if b then s.is ∷ mine else mine) (if b then l ∷ theirs else theirs) → Shown file (if b then t ∷ later else later)) [
      | true ↦ λ c. (c.0, c.1, own_shown actor (place + 1) ss lines c.0 c.2)
      | false ↦ λ c. own_shown actor (place + 1) ss lines file c
    ] chain

-- ---- the lines of one reader

abbrev pub AllBehind : ℕ → List Told → Type 0
AllBehind n ts = AllByRecursion (λ (t : Told). n < t.place) ts

pub rise_behind : (n place : ℕ) (ts : List Told) → n < place → Rise place ts → AllBehind n ts
rise_behind n place [] far rise = tt
rise_behind n place (t ∷ ts) far rise = (omega (arith, far, rise.0), rise_behind n (t.place + 1) ts (omega (arith, far, rise.0)) rise.1)

heads : {X : Type 0} (x y : X) (xs ys : List X) → x ∷ xs ≡ y ∷ ys → x ≡ y
heads x y xs ys is = cc

tails : {X : Type 0} (x y : X) (xs ys : List X) → x ∷ xs ≡ y ∷ ys → xs ≡ ys
tails x y xs ys is = cc

same_one : (f g : OneFile) → Some f ≡ Some g → f ≡ g
same_one f g is = cc

-- the line says so of the reader's file
abbrev pub SaysOf : OneFile → Told → Type 0
SaysOf f0 s = Answers (seen_bytes f0) s.statement s.outcome × RefreshesSo f0 s.statement s.outcome × MapsSo f0 s.statement s.outcome

module _ (t0 : Told) where
  -- where it is the reader, the actor's file is this one
  abbrev pub Agrees : OneFile → Option Told → Option OneFile → Type 0
  Agrees f0 r file = r ≡ Some t0 → (f : OneFile) → file ≡ Some f → f0 ≡ f

  apart : (t : Told) → t0.place < t.place → t ≡ t0 → ⊥
  apart t far same = let is : t.place ≡ t0.place = ap (λ (z : Told). z.place) same in absurd (omega (arith, far, is))

  pub apart_before : (t : Told) → t.place < t0.place → t ≡ t0 → ⊥
  apart_before t far same = let is : t.place ≡ t0.place = ap (λ (z : Told). z.place) same in absurd (omega (arith, far, is))

  some_apart : (t : Told) → (t ≡ t0 → ⊥) → Some t ≡ Some t0 → ⊥
  some_apart t far is = far (let same : t ≡ t0 = cc in same)

  agrees_next : (f0 : OneFile) (r : Option Told) (file new : Option OneFile) (t : Told) (o : Outcome) → t0.place < t.place → Next file o new → Agrees f0 r file → Agrees f0 (reader_next r t o) new
  agrees_next f0 r file new t (line.Reader size cut truncs) far next agrees = λ is f e. absurd (some_apart t (apart t far) is)
  agrees_next f0 r file new t line.ReaderClosed far next agrees = λ is f e. absurd (cc)
  agrees_next f0 r file new t o far next agrees = λ is f e. agrees is f (next f e)

  pub later : (f0 : OneFile) (ts : List Told) (file : Option OneFile) (r : Option Told) → AllBehind t0.place ts → Shown file ts → Agrees f0 r file → (pre : List Told) (s : Told) (post : List Told) → ts ≡ pre ++ s ∷ post → reader_after r pre ≡ Some t0 → SaysOf f0 s
  later f0 [] file r behind shown agrees [] s post is after = absurd (cc)
  later f0 [] file r behind shown agrees (p ∷ pre) s post is after = absurd (cc)
  later f0 (t ∷ ts) file r behind (new, step, more) agrees [] s post is after = subst (SaysOf f0) (heads t s ts post is) (step.answers f0 (λ f e. agrees after f e), step.refreshes f0 (λ f e. agrees after f e), step.maps f0 (λ f e. agrees after f e))
  later f0 (t ∷ ts) file r behind (new, step, more) agrees (p ∷ pre) s post is after =
      later f0 ts new (reader_next r t t.outcome) behind.1 more (agrees_next f0 r file new t t.outcome behind.0 step.next agrees) pre s post (tails t p ts (pre ++ s ∷ post) is)
      (subst (λ (z : Told). reader_after (reader_next r z z.outcome) pre ≡ Some t0) (sym (heads t p ts (pre ++ s ∷ post) is)) after)

  pub not_next : (r : Option Told) (t : Told) (o : Outcome) → (t ≡ t0 → ⊥) → r ≢ Some t0 → reader_next r t o ≢ Some t0
  not_next r t (line.Reader size cut truncs) far other = some_apart t far
  not_next r t line.ReaderClosed far other = λ is. absurd (cc)
  not_next r t o far other = other

  -- the file of a reader's line, and that all its answers are of it
  record IsAnswered (size : ℕ) (cut : List WriterCount) (truncs : List Trunc) (r : Option Told) (ts : List Told) : Type 0 where
    pub file : OneFile
    pub tells : TellsOneFile size cut truncs file
    pub answers : (pre : List Told) (s : Told) (post : List Told) → ts ≡ pre ++ s ∷ post → reader_after r pre ≡ Some t0 → SaysOf file s

  answered : (size : ℕ) (cut : List WriterCount) (truncs : List Trunc) → t0.outcome ≡ line.Reader size cut truncs → (ts : List Told) (place : ℕ) → Rise place ts → (file : Option OneFile) (r : Option Told) → r ≢ Some t0 → Shown file ts → Among t0 ts → IsAnswered size cut truncs r ts
  answered size cut truncs says [] place rise file r other shown at = absurd at
  answered size cut truncs says (t ∷ ts) place rise file r other (new, step, more) (inl same) =
      let next = subst (λ o. Next file o new) (sym (ap (λ (z : Told). z.outcome) same) ∙ says) step.next in
      let far : t0.place < t.place + 1 = let is : t0.place ≡ t.place = ap (λ (z : Told). z.place) same in omega (arith, is) in
      record {
        file = next.0;
        tells = next.2;
        answers = λ pre s post is after. here next.0 next.1 (rise_behind t0.place (t.place + 1) ts far rise.1) pre s post is after;
      }
    where
      here : (f : OneFile) → new ≡ Some f → AllBehind t0.place ts → (pre : List Told) (s : Told) (post : List Told) → t ∷ ts ≡ pre ++ s ∷ post → reader_after r pre ≡ Some t0 → SaysOf f s
      here f has behind [] s post is after = absurd (other after)
      here f has behind (p ∷ pre) s post is after =
          later f ts new (reader_next r t t.outcome) behind more (λ of_it g e. same_one f g (sym has ∙ e)) pre s post (tails t p ts (pre ++ s ∷ post) is)
          (subst (λ (z : Told). reader_after (reader_next r z z.outcome) pre ≡ Some t0) (sym (heads t p ts (pre ++ s ∷ post) is)) after)
  answered size cut truncs says (t ∷ ts) place rise file r other (new, step, more) (inr at) =
      let far : t.place + 1 ≤ t0.place = among_later (t.place + 1) ts t0 rise.1 at in
      let a = answered size cut truncs says ts (t.place + 1) rise.1 new (reader_next r t t.outcome) (not_next r t t.outcome (apart_before t (omega (arith, far))) other) more at in
      record { file = a.file; tells = a.tells; answers = λ pre s post is after. behind a pre s post is after }
    where
      behind : (a : IsAnswered size cut truncs (reader_next r t t.outcome) ts) (pre : List Told) (s : Told) (post : List Told) → t ∷ ts ≡ pre ++ s ∷ post → reader_after r pre ≡ Some t0 → SaysOf a.file s
      behind a [] s post is after = absurd (other after)
      behind a (p ∷ pre) s post is after =
          a.answers pre s post (tails t p ts (pre ++ s ∷ post) is) (subst (λ (z : Told). reader_after (reader_next r z z.outcome) pre ≡ Some t0) (sym (heads t p ts (pre ++ s ∷ post) is)) after)

-- ---- the lines of one actor among all

weaker : (place later : ℕ) (ts : List Told) → place ≤ later → Rise later ts → Rise place ts
weaker place later [] le rise = tt
weaker place later (t ∷ ts) le rise = (omega (arith, le, rise.0), rise.1)

pub own_rise : (actor place : ℕ) (ts : List Told) → Rise place ts → Rise place (own actor ts)
own_rise actor place [] rise = tt
own_rise actor place (t ∷ ts) rise =
    let rest = own_rise actor (t.place + 1) ts rise.1 in
    elim (nat_eq t.actor actor) as (λ b. Rise place (if b then t ∷ own actor ts else own actor ts)) [
      | true ↦ (rise.0, rest)
      | false ↦ weaker place (t.place + 1) (own actor ts) (let le = rise.0 in omega (arith, le)) rest
    ]

pub among_own : (ts : List Told) (t : Told) → Among t ts → Among t (own t.actor ts)
among_own [] t at = absurd at
among_own (s ∷ ts) t (inl same) =
    subst (λ (z : Told). Among t (own t.actor (z ∷ ts))) same
    (let is : nat_eq t.actor t.actor ≡ true = grind (arith, nat_tests) in subst (λ b. Among t (if b then t ∷ own t.actor ts else own t.actor ts)) (sym is) (inl refl))
among_own (s ∷ ts) t (inr at) =
    let rest = among_own ts t at in
    elim (nat_eq s.actor t.actor) as (λ b. Among t (if b then s ∷ own t.actor ts else own t.actor ts)) [
      | true ↦ inr rest
      | false ↦ rest
    ]

pub own_actor : (actor : ℕ) (ts : List Told) (t : Told) → Among t (own actor ts) → t.actor ≡ actor
own_actor actor [] t at = absurd at
own_actor actor (s ∷ ts) t at =
    elim (nat_eq s.actor actor) as (λ b. nat_eq s.actor actor ≡ b → Among t (if b then s ∷ own actor ts else own actor ts) → t.actor ≡ actor) [
      | true ↦ λ is here. of_first is here (λ rest. own_actor actor ts t rest)
      | false ↦ λ is here. own_actor actor ts t here
    ] refl at
  where
    of_first : nat_eq s.actor actor ≡ true → Among t (s ∷ own actor ts) → (Among t (own actor ts) → t.actor ≡ actor) → t.actor ≡ actor
    of_first is (inl same) rest = let first : s.actor ≡ actor = grind (arith, nat_tests) in ap (λ (z : Told). z.actor) same ∙ first
    of_first is (inr at) rest = rest at

-- the reader is the one before these lines, or one of them
next_among : (r : Option Told) (s : Told) (o : Outcome) (t : Told) (ts : List Told) → reader_next r s o ≡ Some t → (r ≡ Some t) ⊎ Among t (s ∷ ts)
next_among r s (line.Reader size cut truncs) t ts is = inr (inl (let same : t ≡ s = cc in same))
next_among r s line.ReaderClosed t ts is = absurd (cc)
next_among r s o t ts is = inl is

reader_among : (ts : List Told) (r : Option Told) (t : Told) → reader_after r ts ≡ Some t → (r ≡ Some t) ⊎ Among t ts
reader_among [] r t is = inl is
reader_among (s ∷ ts) r t is = by_rest (reader_among ts (reader_next r s s.outcome) t is)
  where
    by_rest : (reader_next r s s.outcome ≡ Some t) ⊎ Among t ts → (r ≡ Some t) ⊎ Among t (s ∷ ts)
    by_rest (inl here) = next_among r s s.outcome t ts here
    by_rest (inr at) = inr (inr at)

pub among_none : (ts : List Told) (t : Told) → reader_after None ts ≡ Some t → Among t ts
among_none ts t is = by_either (reader_among ts None t is)
  where
    by_either : (None ≡ Some t) ⊎ Among t ts → Among t ts
    by_either (inl no_reader) = absurd (cc)
    by_either (inr at) = at

-- ---- the fields

pub among_filter : (p : Told → Bool) (ts : List Told) (t : Told) → Among t (filter p ts) → Among t ts
among_filter p [] t at = absurd at
among_filter p (s ∷ ts) t at = by_first (p s) at (λ rest. among_filter p ts t rest)
  where
    by_first : (b : Bool) → Among t (if b then s ∷ filter p ts else filter p ts) → (Among t (filter p ts) → Among t ts) → Among t (s ∷ ts)
    by_first true (inl same) rest = inl same
    by_first true (inr here) rest = inr (rest here)
    by_first false here rest = inr (rest here)

-- the chain of the actor's statements and lines
abbrev pub OwnChain : Run → ℕ → Type 0
OwnChain run actor = FileChain None (own_statements actor (map (λ (s : Phased). s.is) (phased 0 run.script.phases))) (told_at actor (actors (phased 0 run.script.phases)) run.lines)

answered_in : (run : Run) (t : Told) (size : ℕ) (cut : List WriterCount) (truncs : List Trunc) → OwnChain run t.actor → Among t (told run) → t.outcome ≡ line.Reader size cut truncs → IsAnswered t size cut truncs None (own t.actor (told run))
answered_in run t size cut truncs chain at says =
    let ss = phased 0 run.script.phases in
    answered t size cut truncs says (own t.actor (told run)) 0 (own_rise t.actor 0 (told run) (beside_rise 0 ss run.lines)) None None (λ is. absurd (cc)) (own_shown t.actor 0 ss run.lines None chain) (among_own (told run) t at)

-- the reader's line is one of the same actor
pub reader_actor : (run : Run) (s t : Told) → reader_at run s ≡ Some t → t.actor ≡ s.actor
reader_actor run s t reader = own_actor s.actor (before run s) t (among_none (own s.actor (before run s)) t reader)

-- what a line says of the file of its actor's reader
says_of : (run : Run) (t : Told) (size : ℕ) (cut : List WriterCount) (truncs : List Trunc) (a : IsAnswered t size cut truncs None (own t.actor (told run))) (s : Told) → IsLine run s → reader_at run s ≡ Some t → SaysOf a.file s
says_of run t size cut truncs a s is_line reader =
    let same : t.actor ≡ s.actor = reader_actor run s t reader in
    let split = own_split run s (among (told run) s is_line) in
    a.answers (own s.actor (before run s)) s split.rest (ap (λ n. own n (told run)) same ∙ split.is) reader

-- The field `answers`, from what the lines of its actor show.
pub answers_tell : (run : Run) (t : Told) (size : ℕ) (cut : List WriterCount) (truncs : List Trunc) → OwnChain run t.actor → Says run t (line.Reader size cut truncs)
    → (file : List ℕ) × (size ≡ length file) × ((s : Told) → IsLine run s → reader_at run s ≡ Some t → Answers file s.statement s.outcome)
answers_tell run t size cut truncs chain says =
    let a = answered_in run t size cut truncs chain (among (told run) t says.is_line) says.says in
    (seen_bytes a.file, a.tells.size_is, λ s is_line reader. let of = says_of run t size cut truncs a s is_line reader in of.0)

-- as it is printed, a later cut isn't below a former one
abbrev HasNoLess : List WriterCount → WriterCount → Type 0
HasNoLess cut b = Any (λ (c : WriterCount). (c.writer ≡ b.writer) × (b.count ≤ c.count)) cut

pub printed_there : (cut : List Gathered) (h : Gathered) → Among h cut → 1 ≤ h.count → Among (record { writer = h.dropping.writer; count = h.count }) (printed_cut cut)
printed_there [] h at some = absurd at
printed_there (g ∷ cut) h (inl same) some =
    subst (λ (z : Gathered). Among (record { writer = h.dropping.writer; count = h.count }) (printed_cut (z ∷ cut))) same
    (let is : nat_eq h.count 0 ≡ false = grind (arith, nat_tests) in
    subst (λ b. Among (record { writer = h.dropping.writer; count = h.count }) (if b then printed_cut cut else record { writer = h.dropping.writer; count = h.count } ∷ printed_cut cut)) (sym is) (inl refl))
printed_there (g ∷ cut) h (inr at) some = by_count (nat_eq g.count 0) (printed_there cut h at some)
  where
    by_count : (b : Bool) → Among (record { writer = h.dropping.writer; count = h.count }) (printed_cut cut) → Among (record { writer = h.dropping.writer; count = h.count }) (if b then printed_cut cut else record { writer = g.dropping.writer; count = g.count } ∷ printed_cut cut)
    by_count true rest = rest
    by_count false rest = inr rest

printed_no_less : (former cut : List Gathered) → AllByRecursion (λ (g : Gathered). Any (λ (h : Gathered). (h.dropping ≡ g.dropping) × (g.count ≤ h.count)) cut) former → AllByRecursion (HasNoLess (printed_cut cut)) (printed_cut former)
printed_no_less [] cut all = tt
printed_no_less (g ∷ former) cut all = by_count (nat_eq g.count 0) refl (printed_no_less former cut all.1)
  where
    here : nat_eq g.count 0 ≡ false → HasNoLess (printed_cut cut) (record { writer = g.dropping.writer; count = g.count })
    here is =
        let f = any_found (λ (h : Gathered). (h.dropping ≡ g.dropping) × (g.count ≤ h.count)) cut all.0 in
        let some : 1 ≤ g.count = grind (arith, nat_tests) in
        let same : f.0.dropping ≡ g.dropping = f.2.0 in
        let more : g.count ≤ f.0.count = f.2.1 in
        found_any (λ (c : WriterCount). (c.writer ≡ g.dropping.writer) × (g.count ≤ c.count)) (printed_cut cut) (record { writer = f.0.dropping.writer; count = f.0.count }) (printed_there cut f.0 f.1 (omega (arith, some, more))) (ap (λ (d : Dropping). d.writer) same, more)

    by_count : (b : Bool) → nat_eq g.count 0 ≡ b → AllByRecursion (HasNoLess (printed_cut cut)) (printed_cut former) → AllByRecursion (HasNoLess (printed_cut cut)) (if b then printed_cut former else record { writer = g.dropping.writer; count = g.count } ∷ printed_cut former)
    by_count true is rest = rest
    by_count false is rest = (here is, rest)

-- The field `refreshed`.
pub refreshed_tell : (run : Run) (t former : Told) (size was : ℕ) (cut counts : List WriterCount) (truncs stood : List Trunc) → OwnChain run former.actor → t.statement ≡ Refresh → Says run t (line.Reader size cut truncs) → reader_at run t ≡ Some former
    → former.outcome ≡ line.Reader was counts stood → All (HasNoLess cut) counts × ((came : List Trunc) × (truncs ≡ stood ++ came))
refreshed_tell run t former size was cut counts truncs stood chain asked says reader had =
    let mine = among_none (own t.actor (before run t)) former reader in
    let at : Among former (told run) = among_filter (λ (s : Told). surely_before run s t) (told run) former (among_filter (λ (s : Told). s.actor == t.actor) (before run t) former mine) in
    let a = answered_in run former was counts stood chain at had in
    let of = says_of run former was counts stood a t says.is_line reader in
    let so : TellsLater a.file (line.Reader size cut truncs) = subst (λ o. TellsLater a.file o) says.says (subst (λ s. RefreshesSo a.file s t.outcome) asked of.1) in (
      subst (λ c. All (HasNoLess c) counts) (sym so.2) (subst (λ c. All (HasNoLess (printed_cut so.0.cut)) c) (sym a.tells.counts)
          (All-from_recursion (HasNoLess (printed_cut so.0.cut)) (printed_cut a.file.cut) (printed_no_less a.file.cut so.0.cut (recursion_from_All (λ (g : Gathered). Any (λ (h : Gathered). (h.dropping ≡ g.dropping) × (g.count ≤ h.count)) so.0.cut) a.file.cut so.1)))),
      (so.3.0, so.3.1 ∙ ap (λ ts. ts ++ so.3.0) (sym a.tells.truncates)),
    )
