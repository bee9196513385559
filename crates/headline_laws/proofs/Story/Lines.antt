-- The chain of each actor's lines, and of each line the container that it speaks of.
use Rattle.std.proofs.Common.{◌≡◌, ◌≤◌, ◌<◌, ◌+◌, ◌&&◌, ◌||◌, inl, inr, ℕ, true, false, nat_eq, nat_lt, List, [], ◌∷◌, ◌++◌, length, map, Option, Some, None, refl, sym, ap, ◌∙◌, subst, arith, length-append, if◌then◌else◌, append_assoc}
use Rattle.std.specs.Prelude.{⊤, slice_get}
use Rattle.std.specs.List.{AllByRecursion}
use Rattle.std.proofs.lemmas.Bool.Decides.{nat_tests}
use Rattle.std.proofs.lemmas.List.Elements.{recursion_from_All}
use Rattle.turn_object.specs.Callers.{made_by}
use Rattle.mount_model.specs.declared.call.Call.{Call}
use Rattle.mount_model.specs.declared.call.Call.TheVariants.{Enter, Hold, MendHold}
use Rattle.mount_model.specs.History.{Event}
use Rattle.mount_model.specs.State.{State}
use Rattle.store_api.specs.declared.tree.Tree.{Tree}
use Rattle.reader_laws.specs.Moments.{IsSoundAt, Moment, moment_after}
use Rattle.plain_file.proofs.Facts.{Among}
use Rattle.reader_laws.proofs.Gathered.Facts.{among}
use Rattle.script_lang.specs.Ranges.{FitsNumbered, FitsPhase, FitsScript, FitsStatement}
use Rattle.script_lang.specs.declared.line.Line.{Line}
use Rattle.script_lang.specs.declared.line.Outcome.{Outcome}
use Rattle.script_lang.specs.declared.line.Outcome.TheVariants as line
use Rattle.script_lang.specs.declared.line.Why.TheVariants.{Busy, Exists, Held, StampsSpent}
use Rattle.script_lang.specs.declared.script.ActorDecl.{ActorDecl}
use Rattle.script_lang.specs.declared.script.Numbered.{Numbered}
use Rattle.script_lang.specs.declared.script.Phase.{Phase}
use Rattle.script_lang.specs.declared.script.Statement.{Statement}
use Rattle.script_lang.specs.declared.script.Statement.TheVariants.{Flatten, Open, Recover, Rename, Stat, Trunc}
use Rattle.actor_core.specs.declared.kept.Kept.{Kept}
use Rattle.run_core.specs.Play.{IsRight}
use Rattle.headline_laws.specs.OneFile.{OneFile}
use Rattle.headline_laws.specs.OneWriter.{OneWriter}
use Rattle.headline_laws.specs.Opening.{Stretch}
use Rattle.headline_laws.specs.Showing.{Shows}
use Rattle.headline_laws.proofs.Plays.Facts.{Keeps, Next, Writes}
use Rattle.headline.specs.Run.{IsLine, Phased, Run, Told, before, beside, own, phased, surely_before, told}
use Rattle.headline.specs.Files.{reader_after, reader_at, reader_next}
use Rattle.headline.specs.Changes.{Writing, none, writing_after, writing_at, writing_next}
use Rattle.headline_laws.proofs.OrderlyLines.Answering.{among_own, own_actor, own_rise}
use Rattle.headline_laws.proofs.Story.Apart.{OwnParts, both_true, halves, is_less, is_same, one_true, parts_of}
use Rattle.headline_laws.proofs.Statements.Known.{Known, ReadsIn, known_next, known_waits}
use Rattle.headline_laws.proofs.OrderlyLines.Orderly.{plays_here}
use Rattle.headline_laws.proofs.Story.Parts.{LinePart, PartOf, phases_apart}
use Rattle.headline_laws.proofs.OrderlyLines.Places.{Rise, among_later, beside_rise, own_split}
use Rattle.headline_laws.proofs.Story.Shown.{AllFit, IsShown, ShownEach, shown_each}

-- ---- statements in their ranges

phase_fits : (count phase : ℕ) (ss : List Numbered) → AllByRecursion (FitsNumbered count) ss → AllByRecursion (λ (s : Phased). FitsStatement s.is.statement) (map (λ (s : Numbered). record { phase = phase; is = s }) ss)
phase_fits count phase [] fits = tt
phase_fits count phase (s ∷ ss) fits = (fits.0.1, phase_fits count phase ss fits.1)

both_fit : (xs ys : List Phased) → AllByRecursion (λ (s : Phased). FitsStatement s.is.statement) xs → AllByRecursion (λ (s : Phased). FitsStatement s.is.statement) ys → AllByRecursion (λ (s : Phased). FitsStatement s.is.statement) (xs ++ ys)
both_fit [] ys a b = b
both_fit (x ∷ xs) ys a b = (a.0, both_fit xs ys a.1 b)

phases_fit : (count phase : ℕ) (phases : List Phase) → AllByRecursion (FitsPhase count) phases → AllByRecursion (λ (s : Phased). FitsStatement s.is.statement) (phased phase phases)
phases_fit count phase [] fits = tt
phases_fit count phase (p ∷ phases) fits =
    both_fit (map (λ (s : Numbered). record { phase = phase; is = s }) p.statements) (phased (phase + 1) phases) (phase_fits count phase p.statements (recursion_from_All (FitsNumbered count) p.statements fits.0.numbered)) (phases_fit count (phase + 1) phases fits.1)

lines_fit : (actor place : ℕ) (ss : List Phased) (lines : List Line) → AllByRecursion (λ (s : Phased). FitsStatement s.is.statement) ss → AllFit (own actor (beside place ss lines))
lines_fit actor place [] lines fits = tt
lines_fit actor place (s ∷ ss) [] fits = tt
lines_fit actor place (s ∷ ss) (l ∷ lines) fits =
    let rest = lines_fit actor (place + 1) ss lines fits.1 in
    let t : Told = record { phase = s.phase; place = place; actor = s.is.actor; statement = s.is.statement; outcome = l.outcome } in
    elim (nat_eq s.is.actor actor) as (λ b. AllFit (if b then t ∷ own actor (beside (place + 1) ss lines) else own actor (beside (place + 1) ss lines))) [
      | true ↦ (fits.0, rest)
      | false ↦ rest
    ]

-- ---- the container of a line

-- that of a file or a writer, or this number
abbrev pub file_room : ℕ → Option OneFile → ℕ
file_room nothing None = nothing
file_room nothing (Some f) = f.room

abbrev pub writer_room : ℕ → Option OneWriter → ℕ
writer_room nothing None = nothing
writer_room nothing (Some w) = w.dropping.room

-- the container that the first of a caller's calls that holds asks for, or this number
abbrev pub held_or : Call → ℕ → ℕ
held_or (Hold room) later = room
held_or call later = later

abbrev pub first_held : ℕ → List Event → ℕ
first_held nothing [] = nothing
first_held nothing (e ∷ events) = held_or e.ask.call (first_held nothing events)

abbrev pub held_room : ℕ → ℕ → List Event → ℕ
held_room n nothing events = first_held nothing (made_by n events)

-- and the one that the first that enters asks for
abbrev pub entered_or : Call → ℕ → ℕ
entered_or (Enter room host most) later = room
entered_or call later = later

abbrev pub first_entered : ℕ → List Event → ℕ
first_entered nothing [] = nothing
first_entered nothing (e ∷ events) = entered_or e.ask.call (first_entered nothing events)

abbrev pub entered_room : ℕ → ℕ → List Event → ℕ
entered_room n nothing events = first_entered nothing (made_by n events)

-- how many containers are told
abbrev pub many_in : Option Tree → ℕ
many_in None = 0
many_in (Some tree) = length tree.rooms

abbrev pub many_rooms : State → ℕ
many_rooms state = many_in state.store.tree

-- and the one that the first of them made that made one
abbrev pub first_made : ℕ → ℕ → State → List Event → ℕ
first_made n nothing state [] = nothing
first_made n nothing state (e ∷ events) = if nat_eq e.caller n && nat_lt (many_rooms state) (many_rooms e.after) then many_rooms state else first_made n nothing e.after events

abbrev pub made_room : Moment → ℕ → Stretch → ℕ → ℕ
made_room m n stretch nothing = first_made n nothing (moment_after m stretch.before).state stretch.events

-- and the one whose hold the last is to end
abbrev pub mended_or : Call → ℕ → ℕ
mended_or (MendHold room) nothing = room
mended_or call nothing = nothing

abbrev pub last_mended : ℕ → List Event → ℕ
last_mended nothing [] = nothing
last_mended nothing (e ∷ []) = mended_or e.ask.call nothing
last_mended nothing (e ∷ f ∷ events) = last_mended nothing (f ∷ events)

abbrev pub mended_room : ℕ → ℕ → List Event → ℕ
mended_room n nothing events = last_mended nothing (made_by n events)

-- A truncate and a rename that came to nothing speak of the container that they held or were to hold, and an opening in which no writer was opened of the one that it
-- was to enter, or made. A recovery that was refused as held speaks of the one whose hold it was to end. One that no stamp was left for speaks of the one in which
-- the last stands.
abbrev pub changed_room : (m : Moment) (n : ℕ) (stretch : Stretch) → ℕ → (file new : Option OneFile) (s : Statement) (o : Outcome) → Shows m n stretch file s o new → ℕ
changed_room m n stretch nothing file new (Stat name) (line.Stat size stored shares truncs) shows = shows.1.0.room
changed_room m n stretch nothing file new (Trunc name size) (line.Truncated stamp) shows = shows.1.change.room
changed_room m n stretch nothing file new (Trunc name size) (line.Refused StampsSpent) shows = shows.1.change.room
changed_room m n stretch nothing file new (Trunc name size) (line.Refused (Busy host id)) shows = shows.1.attempt.room
changed_room m n stretch nothing file new (Rename name to) (line.Refused (Busy host id)) shows = shows.1.attempt.room
changed_room m n stretch nothing file new (Open name) line.Fault shows = entered_room n (made_room m n stretch nothing) stretch.events
changed_room m n stretch nothing file new (Open name) line.Stopped shows = entered_room n (made_room m n stretch nothing) stretch.events
changed_room m n stretch nothing file new (Open name) (line.Refused because) shows = entered_room n (made_room m n stretch nothing) stretch.events
changed_room m n stretch nothing file new (Rename name to) line.Renamed shows = shows.1.change.room
changed_room m n stretch nothing file new (Rename name to) (line.Refused Exists) shows = shows.1.change.room
changed_room m n stretch nothing file new (Recover name) (line.Recovered buried alive hold) shows = shows.1.room
changed_room m n stretch nothing file new (Flatten name) (line.Flattened id many cut) shows = shows.1.room
changed_room m n stretch nothing file new (Trunc name size) o shows = held_room n nothing stretch.events
changed_room m n stretch nothing file new (Rename name to) o shows = held_room n nothing stretch.events
changed_room m n stretch nothing file new (Recover name) (line.Refused Held) shows = mended_room n nothing stretch.events
changed_room m n stretch nothing file new s o shows = nothing

abbrev pub room_of : (m : Moment) (n : ℕ) (stretch : Stretch) → ℕ → (file new : Option OneFile) → Option OneWriter → (s : Statement) (o : Outcome) → Shows m n stretch file s o new → ℕ
room_of m n stretch nothing file new w s (line.Reader size cut truncs) shows = file_room nothing new
room_of m n stretch nothing file new w s (line.Opened id) shows = writer_room nothing w
room_of m n stretch nothing file new w s o shows = changed_room m n stretch nothing file new s o shows

pub reads_in : (of : Told → ℕ) (m : Moment) (n : ℕ) (stretch : Stretch) (nothing : ℕ) (file new : Option OneFile) (w : Option OneWriter) (t : Told) (s : Statement) (o : Outcome) (shows : Shows m n stretch file s o new) → of t ≡ room_of m n stretch nothing file new w s o shows → ReadsIn of t o new
reads_in of m n stretch nothing file new w t s (line.Reader size cut truncs) shows is = λ f has. is ∙ ap (file_room nothing) has
reads_in of m n stretch nothing file new w t s o shows is = tt

-- ---- the lines of one actor

module _ (m : Moment) (sound : IsSoundAt m) (n : ℕ) (history : List Event) (blocks : List (List Event)) (whole : Next m [] history) (nothing : ℕ) where
  -- the container of a line that shows so much
  abbrev pub room_here : {kept : Kept} {file : Option OneFile} {writer : Option OneWriter} {t : Told} {earlier mine : List Event} → IsShown m sound n history blocks whole kept file writer t earlier mine → ℕ
  room_here {file = file} {t = t} {earlier = earlier} s = room_of m n (record { before = earlier; events = s.front }) nothing file s.new s.new_writer t.statement t.outcome s.shows

  -- that of the line at a place
  unfoldable pub rooms : (done : List Event) (kept : Kept) (file : Option OneFile) (writer : Option OneWriter) (ts : List Told) → ShownEach m sound n history blocks whole done kept file writer ts → ℕ → ℕ
  rooms done kept file writer [] each place = nothing
  rooms done kept file writer (t ∷ ts) (p, says, idle, s, more) place = if nat_eq t.place place then room_here s else rooms (p.earlier ++ p.mine) p.e.kept s.new s.new_writer ts more place

  -- these are the containers of the lines
  abbrev pub HasRooms : (Told → ℕ) → (done : List Event) (kept : Kept) (file : Option OneFile) (writer : Option OneWriter) (ts : List Told) → ShownEach m sound n history blocks whole done kept file writer ts → Type 0
  HasRooms of done kept file writer [] each = ⊤
  HasRooms of done kept file writer (t ∷ ts) (p, says, idle, s, more) = (of t ≡ room_here s) × HasRooms of (p.earlier ++ p.mine) p.e.kept s.new s.new_writer ts more

  pub has_rooms : (of : Told → ℕ) (place : ℕ) (done : List Event) (kept : Kept) (file : Option OneFile) (writer : Option OneWriter) (ts : List Told) (each : ShownEach m sound n history blocks whole done kept file writer ts) → Rise place ts → ((s : Told) → Among s ts → of s ≡ rooms done kept file writer ts each s.place) → HasRooms of done kept file writer ts each
  unfolding rooms
  has_rooms of place done kept file writer [] each rise are = tt
  has_rooms of place done kept file writer (t ∷ ts) (p, says, idle, s, more) rise are =
      let later : Told → ℕ = λ r. rooms (p.earlier ++ p.mine) p.e.kept s.new s.new_writer ts more r.place in
      let here : nat_eq t.place t.place ≡ true = grind (arith, nat_tests) in (
        are t (inl refl) ∙ ap (λ b. if b then room_here s else later t) here,
        has_rooms of (t.place + 1) (p.earlier ++ p.mine) p.e.kept s.new s.new_writer ts more rise.1
            (λ r at. let far : t.place + 1 ≤ r.place = among_later (t.place + 1) ts r rise.1 at in
            let other : nat_eq t.place r.place ≡ false = grind (arith, nat_tests) in
            are r (inr at) ∙ ap (λ b. if b then room_here s else later r) other),
      )

  -- a line in its part, with what is known of its actor's reader and writer before it
  pub record ShownLine (of : Told → ℕ) (r : Option Told) (w : Writing) (t : Told) : Type 0 where
    pub kept : Kept
    pub file : Option OneFile
    pub writer : Option OneWriter
    pub part : PartOf n history blocks kept t.phase t.statement
    pub says : t.outcome ≡ part.e.outcome
    pub shown : IsShown m sound n history blocks whole kept file writer t part.earlier part.mine
    pub known : Known of n part.earlier r w file writer
    pub here : of t ≡ room_here shown

  pub shown_at : (of : Told → ℕ) (ts : List Told) (t : Told) (rest : List Told) (done : List Event) (kept : Kept) (file : Option OneFile) (writer : Option OneWriter) (r : Option Told) (w : Writing) (each : ShownEach m sound n history blocks whole done kept file writer (ts ++ t ∷ rest)) → HasRooms of done kept file writer (ts ++ t ∷ rest) each
      → Known of n done r w file writer
      → (l : ShownLine of (reader_after r ts) (writing_after w ts) t) × (length done ≤ length l.part.earlier) × ShownEach m sound n history blocks whole (l.part.earlier ++ l.part.mine) l.part.e.kept l.shown.new l.shown.new_writer rest
  shown_at of [] t rest done kept file writer r w (p, says, idle, s, more) rooms_are k =
      let long = ap length idle.is ∙ length-append done idle.idle in
      (record { kept = kept; file = file; writer = writer; part = p; says = says; shown = s; known = subst (λ es. Known of n es r w file writer) (sym idle.is) (known_waits of n done idle.idle r w file writer k); here = rooms_are.0 }, omega (arith, long), more)
  shown_at of (q ∷ ts) t rest done kept file writer r w (p, says, idle, s, more) rooms_are k =
      let before : Known of n p.earlier r w file writer = subst (λ es. Known of n es r w file writer) (sym idle.is) (known_waits of n done idle.idle r w file writer k) in
      let after = known_next of m n p.earlier s.front s.rest r w q file s.new writer s.new_writer s.shows s.writes (reads_in of m n (record { before = p.earlier; events = s.front }) nothing file s.new s.new_writer q q.statement q.outcome s.shows rooms_are.0) before in
      let l = shown_at of ts t rest (p.earlier ++ p.mine) p.e.kept s.new s.new_writer (reader_next r q q.outcome) (writing_next w q.statement q.outcome) more rooms_are.1 (subst (λ es. Known of n (p.earlier ++ es) (reader_next r q q.outcome) (writing_next w q.statement q.outcome) s.new s.new_writer) (sym s.split) after) in
      let long = ap length idle.is ∙ length-append done idle.idle in
      let behind = length-append p.earlier p.mine in
      let far = l.1 in
      (l.0, omega (arith, long, behind, far), l.2)

  -- of two lines of the actor the part of the later one lies behind
  pub record TwoLines (of : Told → ℕ) (r : Option Told) (w : Writing) (s : Told) (mid : List Told) (t : Told) : Type 0 where
    pub one : ShownLine of r w s
    pub reader_then : Option Told
    pub writing_then : Writing
    pub writing_is : writing_then ≡ writing_after (writing_next w s.statement s.outcome) mid
    pub other : ShownLine of reader_then writing_then t
    pub behind : length one.part.earlier + length one.part.mine ≤ length other.part.earlier

  pub shown_two : (of : Told → ℕ) (ts : List Told) (s : Told) (mid : List Told) (t : Told) (rest : List Told) (done : List Event) (kept : Kept) (file : Option OneFile) (writer : Option OneWriter) (r : Option Told) (w : Writing) (each : ShownEach m sound n history blocks whole done kept file writer (ts ++ s ∷ (mid ++ t ∷ rest)))
      → HasRooms of done kept file writer (ts ++ s ∷ (mid ++ t ∷ rest)) each → Known of n done r w file writer → TwoLines of (reader_after r ts) (writing_after w ts) s mid t
  shown_two of [] s mid t rest done kept file writer r w (p, says, idle, h, more) rooms_are k =
      let before : Known of n p.earlier r w file writer = subst (λ es. Known of n es r w file writer) (sym idle.is) (known_waits of n done idle.idle r w file writer k) in
      let after = known_next of m n p.earlier h.front h.rest r w s file h.new writer h.new_writer h.shows h.writes (reads_in of m n (record { before = p.earlier; events = h.front }) nothing file h.new h.new_writer s s.statement s.outcome h.shows rooms_are.0) before in
      let l = shown_at of mid t rest (p.earlier ++ p.mine) p.e.kept h.new h.new_writer (reader_next r s s.outcome) (writing_next w s.statement s.outcome) more rooms_are.1 (subst (λ es. Known of n (p.earlier ++ es) (reader_next r s s.outcome) (writing_next w s.statement s.outcome) h.new h.new_writer) (sym h.split) after) in
      let long = length-append p.earlier p.mine in
      let far = l.1 in
      record {
        one = record { kept = kept; file = file; writer = writer; part = p; says = says; shown = h; known = before; here = rooms_are.0 };
        reader_then = reader_after (reader_next r s s.outcome) mid;
        writing_then = writing_after (writing_next w s.statement s.outcome) mid;
        writing_is = refl;
        other = l.0;
        behind = omega (arith, long, far);
      }
  shown_two of (q ∷ ts) s mid t rest done kept file writer r w (p, says, idle, h, more) rooms_are k =
      let before : Known of n p.earlier r w file writer = subst (λ es. Known of n es r w file writer) (sym idle.is) (known_waits of n done idle.idle r w file writer k) in
      let after = known_next of m n p.earlier h.front h.rest r w q file h.new writer h.new_writer h.shows h.writes (reads_in of m n (record { before = p.earlier; events = h.front }) nothing file h.new h.new_writer q q.statement q.outcome h.shows rooms_are.0) before in
      shown_two of ts s mid t rest (p.earlier ++ p.mine) p.e.kept h.new h.new_writer (reader_next r q q.outcome) (writing_next w q.statement q.outcome) more rooms_are.1 (subst (λ es. Known of n (p.earlier ++ es) (reader_next r q q.outcome) (writing_next w q.statement q.outcome) h.new h.new_writer) (sym h.split) after)

same_head : (a b : Told) (xs ys : List Told) → a ∷ xs ≡ b ∷ ys → a ≡ b
same_head a b xs ys same = cc

same_tail : (a b : Told) (xs ys : List Told) → a ∷ xs ≡ b ∷ ys → xs ≡ ys
same_tail a b xs ys same = cc

pub among_there : (t : Told) (us vs : List Told) → Among t (us ++ t ∷ vs)
among_there t [] vs = inl refl
among_there t (u ∷ us) vs = inr (among_there t us vs)

-- of lines that rise one stands once
front_once : (place : ℕ) (xs ys us vs : List Told) (t : Told) → Rise place (xs ++ t ∷ ys) → xs ++ t ∷ ys ≡ us ++ t ∷ vs → xs ≡ us
front_once place [] ys [] vs t rise is = refl
front_once place [] ys (u ∷ us) vs t rise is =
    let late : t.place + 1 ≤ t.place = among_later (t.place + 1) ys t rise.1 (subst (Among t) (sym (same_tail t u ys (us ++ t ∷ vs) is)) (among_there t us vs)) in
    absurd (omega (arith, late))
front_once place (x ∷ xs) ys [] vs t rise is =
    let late : x.place + 1 ≤ t.place = among_later (x.place + 1) (xs ++ t ∷ ys) t rise.1 (among_there t xs ys) in
    let places : x.place ≡ t.place = ap (λ (z : Told). z.place) (same_head x t (xs ++ t ∷ ys) vs is) in
    absurd (omega (arith, late, places))
front_once place (x ∷ xs) ys (u ∷ us) vs t rise is =
    ap (λ z. z ∷ xs) (same_head x u (xs ++ t ∷ ys) (us ++ t ∷ vs) is) ∙ ap (λ zs. u ∷ zs) (front_once (x.place + 1) xs ys us vs t rise.1 (same_tail x u (xs ++ t ∷ ys) (us ++ t ∷ vs) is))

pub writing_append : (v : Writing) (xs : List Told) (t : Told) (ts : List Told) → writing_after v (xs ++ t ∷ ts) ≡ writing_after (writing_next (writing_after v xs) t.statement t.outcome) ts
writing_append v [] t ts = refl
writing_append v (x ∷ xs) t ts = writing_append (writing_next v x.statement x.outcome) xs t ts

-- ---- all actors

module _ (run : Run) (m : Moment) (end : State) (fits : FitsScript run.script) (sound : IsSoundAt m) (right : IsRight run.script m.state run.lines end) where
  pub whole_history : Next m [] right.history
  whole_history = record { was_lawful = tt; lawful = right.leads.lawful; sound = sound; had = right.had_memory }

  abbrev pub Nothing : ℕ
  Nothing = length run.after.rooms

  abbrev pub Each : (actor : ℕ) → OwnParts run m.state end fits right actor → Type 0
  Each actor o = ShownEach m sound o.number right.history right.calls.blocks whole_history [] o.kept None None (own actor (told run))

  pub each_of : (actor : ℕ) (o : OwnParts run m.state end fits right actor) → Each actor o
  each_of actor o =
      shown_each m sound o.number right.history right.calls.blocks whole_history [] o.kept None None (own actor (told run))
      (lines_fit actor 0 (phased 0 run.script.phases) run.lines (phases_fit (length run.script.actors) 0 run.script.phases (recursion_from_All (FitsPhase (length run.script.actors)) run.script.phases fits.phased)))
      (record { keeps = subst (λ r. Keeps m r None) (sym o.no_reader) tt; known = λ alive. subst (λ w. Writes o.number [] m.state w None) (sym o.no_writer) tt }) o.parts

  -- the container of each line of an actor, by the line's place
  abbrev pub at_places : (actor : ℕ) → (d : Option ActorDecl) → slice_get run.script.actors actor ≡ d → ℕ → ℕ
  at_places actor None here place = Nothing
  at_places actor (Some d) here place =
      let o = parts_of run m.state end fits right actor d here in
      rooms m sound o.number right.history right.calls.blocks whole_history Nothing [] o.kept None None (own actor (told run)) (each_of actor o) place

  abbrev pub container : Told → ℕ
  container t = at_places t.actor (slice_get run.script.actors t.actor) refl t.place

  -- the chain of an actor, in which the lines have these containers
  pub record ChainOf (actor : ℕ) : Type 0 where
    pub parts : OwnParts run m.state end fits right actor
    pub each : Each actor parts
    pub rooms_are : HasRooms m sound parts.number right.history right.calls.blocks whole_history Nothing container [] parts.kept None None (own actor (told run)) each

  pub chain_here : (actor : ℕ) (d : ActorDecl) → slice_get run.script.actors actor ≡ Some d → ChainOf actor
  chain_here actor d here = by (slice_get run.script.actors actor) refl here (λ t same. ap (λ a. at_places a (slice_get run.script.actors a) refl t.place) same)
    where
      by : (o : Option ActorDecl) (e : slice_get run.script.actors actor ≡ o) → o ≡ Some d → ((t : Told) → t.actor ≡ actor → container t ≡ at_places actor o e t.place) → ChainOf actor
      by None e same at = absurd (cc)
      by (Some declared) e same at =
          let o = parts_of run m.state end fits right actor declared e in
          record {
            parts = o;
            each = each_of actor o;
            rooms_are = has_rooms m sound o.number right.history right.calls.blocks whole_history Nothing container 0 [] o.kept None None (own actor (told run)) (each_of actor o) (own_rise actor 0 (told run) (beside_rise 0 (phased 0 run.script.phases) run.lines))
                (λ s among. at s (own_actor actor (told run) s among));
          }

  pub chain_of : (t : Told) → IsLine run t → ChainOf t.actor
  chain_of t is_line = (let (d, here, p) = plays_here run m.state end fits right t is_line in chain_here t.actor d here)

  pub nothing_known : (number : ℕ) → Known container number [] None none None None
  nothing_known number = record { reads = λ former is f has. absurd (cc); its = λ id is x has. absurd (cc); entered = λ x has. absurd (cc) }

  -- a line in its part, whoever calls
  pub record AnyLine (r : Option Told) (w : Writing) (t : Told) : Type 0 where
    pub number : ℕ
    pub line : ShownLine m sound number right.history right.calls.blocks whole_history Nothing container r w t

  -- the chain of an actor's lines, however they are split
  abbrev ChainIs : {actor : ℕ} → ChainOf actor → List Told → Type 0
  ChainIs c all =
      (each : ShownEach m sound c.parts.number right.history right.calls.blocks whole_history [] c.parts.kept None None all)
      × HasRooms m sound c.parts.number right.history right.calls.blocks whole_history Nothing container [] c.parts.kept None None all each

  -- with the actor's lines behind it
  pub record LineOn (t : Told) (rest : List Told) : Type 0 where
    pub its : AnyLine (reader_at run t) (writing_at run t) t
    pub more : ShownEach m sound its.number right.history right.calls.blocks whole_history (its.line.part.earlier ++ its.line.part.mine) its.line.part.e.kept its.line.shown.new its.line.shown.new_writer rest

  pub line_on : (t : Told) (is_line : IsLine run t) → LineOn t (own_split run t (among (told run) t is_line)).rest
  line_on t is_line =
      let c = chain_of t is_line in
      let split = own_split run t (among (told run) t is_line) in
      let chain : ChainIs c (own t.actor (before run t) ++ t ∷ split.rest) = subst (ChainIs c) split.is (c.each, c.rooms_are) in
      let l = shown_at m sound c.parts.number right.history right.calls.blocks whole_history Nothing container (own t.actor (before run t)) t split.rest [] c.parts.kept None None None none chain.0 chain.1 (nothing_known c.parts.number) in
      record { its = record { number = c.parts.number; line = l.0 }; more = l.2 }

  pub line_here : (t : Told) → IsLine run t → AnyLine (reader_at run t) (writing_at run t) t
  line_here t is_line = (line_on t is_line).its

  -- of two lines the part of the one ends where that of the other begins, or before that
  pub record TwoHere (s t : Told) : Type 0 where
    pub one : AnyLine (reader_at run s) (writing_at run s) s
    pub reader_then : Option Told
    pub writing_then : Writing
    pub writing_is : writing_then ≡ writing_at run t
    pub other : AnyLine reader_then writing_then t
    pub behind : length one.line.part.earlier + length one.line.part.mine ≤ length other.line.part.earlier

  -- a later line of the actor stands behind
  pub stands_behind : (s t : Told) (xs ys : List Told) (place : ℕ) → Rise place (xs ++ s ∷ ys) → s.place < t.place → Among t (xs ++ s ∷ ys) → Among t ys
  stands_behind s t [] ys place rise far (inl same) = let is : t.place ≡ s.place = ap (λ (z : Told). z.place) same in absurd (omega (arith, is, far))
  stands_behind s t [] ys place rise far (inr at) = at
  stands_behind s t (x ∷ xs) ys place rise far (inl same) =
      let is : t.place ≡ x.place = ap (λ (z : Told). z.place) same in
      let late : x.place + 1 ≤ s.place = among_later (x.place + 1) (xs ++ s ∷ ys) s rise.1 (it_is_there xs) in
      absurd (omega (arith, is, far, late))
    where
      it_is_there : (zs : List Told) → Among s (zs ++ s ∷ ys)
      it_is_there [] = inl refl
      it_is_there (z ∷ zs) = inr (it_is_there zs)
  stands_behind s t (x ∷ xs) ys place rise far (inr at) = stands_behind s t xs ys (x.place + 1) rise.1 far at

  by_actor : (s t : Told) → IsLine run s → IsLine run t → s.place < t.place → t.actor ≡ s.actor → TwoHere s t
  by_actor s t is_s is_t far same =
      let c = chain_of s is_s in
      let split = own_split run s (among (told run) s is_s) in
      let there : Among t (own s.actor (told run)) = subst (λ a. Among t (own a (told run))) same (among_own (told run) t (among (told run) t is_t)) in
      let rise : Rise 0 (own s.actor (told run)) = own_rise s.actor 0 (told run) (beside_rise 0 (phased 0 run.script.phases) run.lines) in
      let later : Among t split.rest = stands_behind s t (own s.actor (before run s)) split.rest 0 (subst (Rise 0) split.is rise) far (subst (Among t) split.is there) in
      let h = halves t split.rest later in
      let all : own s.actor (told run) ≡ own s.actor (before run s) ++ s ∷ (h.front ++ t ∷ h.rest) = split.is ∙ ap (λ z. own s.actor (before run s) ++ s ∷ z) h.is in
      let chain : ChainIs c (own s.actor (before run s) ++ s ∷ (h.front ++ t ∷ h.rest)) = subst (ChainIs c) all (c.each, c.rooms_are) in
      let its = own_split run t (among (told run) t is_t) in
      let first : own s.actor (before run s) ++ s ∷ h.front ≡ own t.actor (before run t) =
      front_once 0 (own s.actor (before run s) ++ s ∷ h.front) h.rest (own t.actor (before run t)) its.rest t (subst (Rise 0) (all ∙ sym (append_assoc (own s.actor (before run s)) (s ∷ h.front) (t ∷ h.rest))) rise)
      (append_assoc (own s.actor (before run s)) (s ∷ h.front) (t ∷ h.rest) ∙ sym all ∙ ap (λ a. own a (told run)) (sym same) ∙ its.is) in
      let two = shown_two m sound c.parts.number right.history right.calls.blocks whole_history Nothing container (own s.actor (before run s)) s h.front t h.rest [] c.parts.kept None None None none chain.0 chain.1 (nothing_known c.parts.number) in
      record {
        one = record { number = c.parts.number; line = two.one };
        reader_then = two.reader_then;
        writing_then = two.writing_then;
        writing_is = two.writing_is ∙ sym (writing_append none (own s.actor (before run s)) s h.front) ∙ ap (writing_after none) first;
        other = record { number = c.parts.number; line = two.other };
        behind = two.behind;
      }

  by_phase : (s t : Told) → IsLine run s → IsLine run t → s.phase < t.phase → TwoHere s t
  by_phase s t is_s is_t sooner =
      let l = line_here s is_s in
      let k = line_here t is_t in
      let p : LinePart l.number right.history right.calls.blocks s = record { kept = l.line.kept; part = l.line.part; says = l.line.says } in
      let q : LinePart k.number right.history right.calls.blocks t = record { kept = k.line.kept; part = k.line.part; says = k.line.says } in
      record { one = l; reader_then = reader_at run t; writing_then = writing_at run t; writing_is = refl; other = k; behind = phases_apart l.number k.number right.history right.calls.blocks s t p q sooner }

  -- a line that is surely before another is so
  pub two_here : run.in_order ≡ false → (s t : Told) → IsLine run s → IsLine run t → surely_before run s t ≡ true → TwoHere s t
  two_here free s t is_s is_t sooner =
      let places = both_true (nat_lt s.place t.place) (run.in_order || nat_lt s.phase t.phase || nat_eq s.actor t.actor) sooner in
      elim (one_true run.in_order (nat_lt s.phase t.phase) (nat_eq s.actor t.actor) free places.1) as (λ _. TwoHere s t) [
        | inl phases ↦ by_phase s t is_s is_t (is_less s.phase t.phase phases)
        | inr same ↦ by_actor s t is_s is_t (is_less s.place t.place places.0) (sym (is_same s.actor t.actor same))
      ]
