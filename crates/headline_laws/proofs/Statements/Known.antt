-- What is known of the reader and of the writer that an actor has, by its lines so far.
use Rattle.std.proofs.Common.{◌≡◌, ◌⊎◌, inl, inr, ℕ, List, ◌∷◌, ◌++◌, Option, Some, None, refl, sym, ap, ◌∙◌, subst, append_assoc}
use Rattle.std.specs.Prelude.{⊤}
use Rattle.mount_model.specs.declared.call.Call.TheVariants.{Enter}
use Rattle.mount_model.specs.declared.reply.Reply.TheVariants.{Entered}
use Rattle.mount_model.specs.History.{Event}
use Rattle.mount_model.specs.Running.{unbroken}
use Rattle.reader_laws.specs.Moments.{Dropping, Moment}
use Rattle.script_lang.specs.declared.line.Outcome.{Outcome}
use Rattle.script_lang.specs.declared.line.Outcome.TheVariants as line
use Rattle.script_lang.specs.declared.line.Why.{Why}
use Rattle.script_lang.specs.declared.line.Why.TheVariants.{AlreadyOpen}
use Rattle.script_lang.specs.declared.script.Statement.{Statement}
use Rattle.script_lang.specs.declared.script.Statement.TheVariants.{Close, Open, Sync, Write}
use Rattle.outcomes.specs.Data.{bytes_of}
use Rattle.headline_laws.specs.Ending.{DoesNothing}
use Rattle.headline_laws.specs.OneFile.{OneFile}
use Rattle.headline_laws.specs.OneWriter.{OneWriter, OpensOneWriter, one_more}
use Rattle.headline_laws.specs.Opening.{Stretch}
use Rattle.headline_laws.specs.Showing.{Shows}
use Rattle.headline_laws.specs.Writing.{ShowsClosed, ShowsNoWriting, ShowsSynced, ShowsWriting, ShowsWritten, StaysOpen, TellsOfNoWriter}
use Rattle.headline.specs.Run.{Told}
use Rattle.headline.specs.Files.{reader_next}
use Rattle.headline.specs.Changes.{Writing, after_close, after_open, id_of, in_doubt, none, unsure, writer, writing_next}
use Rattle.headline_laws.proofs.OrderlyLines.AnswerSteps.{Next as NextFile, step_of}

-- ---- the writer behind a statement

abbrev pub IsNotOpened : Outcome → Type 0
IsNotOpened (line.Opened id) = ⊥
IsNotOpened other = ⊤

-- a writer was opened
pub record OpensNew (m : Moment) (n : ℕ) (stretch : Stretch) (s : Statement) (o : Outcome) (new : Option OneWriter) : Type 0 where
  pub name : List ℕ
  pub asked : s ≡ Open name
  pub id : ℕ
  pub says : o ≡ line.Opened id
  pub it : OneWriter
  pub has : new ≡ Some it
  pub its_id : id ≡ it.dropping.writer
  pub opens : OpensOneWriter m n stretch name it

-- or no other is there than before
pub record KeepsOld (old : Option OneWriter) (o : Outcome) (new : Option OneWriter) : Type 0 where
  pub not_opened : IsNotOpened o
  pub same : (x : OneWriter) → new ≡ Some x → (y : OneWriter) × (old ≡ Some y) × (x.dropping ≡ y.dropping)

stays_so : (events : List Event) (old : Option OneWriter) (o : Outcome) (new : Option OneWriter) → StaysOpen events old o new → new ≡ old
stays_so events old line.Stopped new stays = stays
stays_so events old line.Gone new stays = stays
stays_so events old o new stays = stays.0

no_writer_line : (o : Outcome) → TellsOfNoWriter o → IsNotOpened o
no_writer_line (line.Opened id) tells = absurd tells
no_writer_line o tells = tt

nothing_line : (why : Why) (o : Outcome) → DoesNothing why o → IsNotOpened o
nothing_line why (line.Opened id) does = absurd does
nothing_line why o does = tt

old_same : (old : Option OneWriter) (o : Outcome) (new : Option OneWriter) → IsNotOpened o → new ≡ old → KeepsOld old o new
old_same old o new not_opened is = record { not_opened = not_opened; same = λ x has. (x, sym is ∙ has, refl) }

old_none : (old : Option OneWriter) (o : Outcome) (new : Option OneWriter) → IsNotOpened o → new ≡ None → KeepsOld old o new
old_none old o new not_opened is = record { not_opened = not_opened; same = λ x has. let clash : None ≡ Some x = sym is ∙ has in absurd (cc) }

same_some : (x y : OneWriter) → Some x ≡ Some y → x ≡ y
same_some x y is = cc

no_writing : (events : List Event) (old : Option OneWriter) (o : Outcome) (new : Option OneWriter) → ShowsNoWriting events old o new → KeepsOld old o new
no_writing events old o new shows = old_same old o new (no_writer_line o shows.0) (stays_so events old o new shows.1)

module _ (m : Moment) (n : ℕ) (stretch : Stretch) where
  written_keeps : (x : OneWriter) (at : ℕ) (bytes : List ℕ) (o : Outcome) (new : Option OneWriter) → ShowsWritten n stretch x at bytes o new → KeepsOld (Some x) o new
  written_keeps x at bytes (line.Wrote place len (Some stamp)) new shows = record { not_opened = tt; same = λ z has. (x, refl, ap (λ (w : OneWriter). w.dropping) (sym (same_some (one_more x) z (sym shows.2 ∙ has)))) }
  written_keeps x at bytes (line.Wrote place len None) new shows = old_same (Some x) (line.Wrote place len None) new tt (stays_so stretch.events (Some x) (line.Wrote place len None) new shows.3)
  written_keeps x at bytes o new shows = no_writing stretch.events (Some x) o new shows

  synced_keeps : (x : OneWriter) (o : Outcome) (new : Option OneWriter) → ShowsSynced stretch x o new → KeepsOld (Some x) o new
  synced_keeps x (line.Synced landed) new shows = old_same (Some x) (line.Synced landed) new tt (stays_so stretch.events (Some x) (line.Synced landed) new shows.2)
  synced_keeps x o new shows = no_writing stretch.events (Some x) o new shows

  closed_keeps : (x : OneWriter) (o : Outcome) (new : Option OneWriter) → ShowsClosed stretch x o new → KeepsOld (Some x) o new
  closed_keeps x (line.Closed landed) new shows = old_none (Some x) (line.Closed landed) new tt shows.2
  closed_keeps x line.Fault new (none_written, inl same) = old_same (Some x) line.Fault new tt same
  closed_keeps x line.Fault new (none_written, inr gone) = old_none (Some x) line.Fault new tt gone
  closed_keeps x o new shows = no_writing stretch.events (Some x) o new shows

  opening_keeps : (name : List ℕ) (o : Outcome) (new : Option OneWriter) → ShowsWriting m n stretch None (Open name) o new → OpensNew m n stretch (Open name) o new ⊎ KeepsOld None o new
  opening_keeps name (line.Opened id) new (it, has, is, opens) = inl (record { name = name; asked = refl; id = id; says = refl; it = it; has = has; its_id = is; opens = opens })
  opening_keeps name o new shows = inr (old_none None o new (no_writer_line o shows.0) shows.1)

  pub writer_step : (old : Option OneWriter) (s : Statement) (o : Outcome) (new : Option OneWriter) → ShowsWriting m n stretch old s o new → OpensNew m n stretch s o new ⊎ KeepsOld old o new
  writer_step None (Open name) o new shows = opening_keeps name o new shows
  writer_step (Some x) (Open name) o new shows = inr (old_same (Some x) o new (nothing_line AlreadyOpen o shows.0) (stays_so stretch.events (Some x) o new shows.1))
  writer_step None (Write at content) o new shows = inr (old_none None o new (nothing_line _ o shows.1) shows.0)
  writer_step (Some x) (Write at content) o new shows = inr (written_keeps x at (bytes_of content) o new shows)
  writer_step None Sync o new shows = inr (old_none None o new (nothing_line _ o shows.1) shows.0)
  writer_step (Some x) Sync o new shows = inr (synced_keeps x o new shows)
  writer_step None Close o new shows = inr (old_none None o new (nothing_line _ o shows.1) shows.0)
  writer_step (Some x) Close o new shows = inr (closed_keeps x o new shows)
  writer_step old s o new shows = inr (no_writing stretch.events old o new shows)

-- ---- which writer the lines say

not_open_next : (w : Writing) (o : Outcome) (id : ℕ) → IsNotOpened o → id_of (after_open w o) ≡ Some id → id_of w ≡ Some id
not_open_next w (line.Opened other) id not_opened is = absurd not_opened
not_open_next w (line.Refused AlreadyOpen) id not_opened is = is
not_open_next w o id not_opened is = absurd (cc)

doubt_same : (w : Writing) → id_of (in_doubt w) ≡ id_of w
doubt_same none = refl
doubt_same (unsure id) = refl
doubt_same (writer id) = refl

close_next : (w : Writing) (o : Outcome) (id : ℕ) → id_of (after_close w o) ≡ Some id → id_of w ≡ Some id
close_next w (line.Closed count) id is = absurd (cc)
close_next w o id is = sym (doubt_same w) ∙ is

pub same_next : (w : Writing) (s : Statement) (o : Outcome) (id : ℕ) → IsNotOpened o → id_of (writing_next w s o) ≡ Some id → id_of w ≡ Some id
same_next w (Open name) o id not_opened is = not_open_next w o id not_opened is
same_next w Close o id not_opened is = close_next w o id is
same_next w s o id not_opened is = is

-- ---- what is known

-- in these events the caller entered this dropping's container as its writer
pub record HasEntered (n : ℕ) (done : List Event) (d : Dropping) : Type 0 where
  pub first : List Event
  pub event : Event
  pub later : List Event
  pub most : ℕ
  pub all : done ≡ first ++ event ∷ later
  pub own : event.caller ≡ n
  pub asked : event.ask ≡ unbroken (Enter d.room d.host most)
  pub entered : event.reply ≡ Entered d.writer

pub entered_more : (n : ℕ) (done more : List Event) (d : Dropping) → HasEntered n done d → HasEntered n (done ++ more) d
entered_more n done more d h = record {
  first = h.first;
  event = h.event;
  later = h.later ++ more;
  most = h.most;
  all = ap (λ z. z ++ more) h.all ∙ append_assoc h.first (h.event ∷ h.later) more;
  own = h.own;
  asked = h.asked;
  entered = h.entered;
}

pub opens_entered : (m : Moment) (n : ℕ) (before events : List Event) (name : List ℕ) (w : OneWriter) → OpensOneWriter m n (record { before = before; events = events }) name w → HasEntered n (before ++ events) w.dropping
opens_entered m n before events name w o = record {
  first = before ++ (o.earlier ++ o.making ∷ o.between);
  event = o.entering;
  later = o.later;
  most = o.most;
  all = ap (λ z. before ++ z) (o.split ∙ sym (append_assoc o.earlier (o.making ∷ o.between) (o.entering ∷ o.later))) ∙ sym (append_assoc before (o.earlier ++ o.making ∷ o.between) (o.entering ∷ o.later));
  own = o.enters.0;
  asked = o.enters.1;
  entered = o.entered;
}

-- of an actor's reader and writer: which containers they are of, as `of` tells it, and that the writer was entered
pub record Known (of : Told → ℕ) (n : ℕ) (done : List Event) (r : Option Told) (w : Writing) (file : Option OneFile) (writer_is : Option OneWriter) : Type 0 where
  pub reads : (former : Told) → r ≡ Some former → (f : OneFile) → file ≡ Some f → of former ≡ f.room
  pub its : (id : ℕ) → id_of w ≡ Some id → (x : OneWriter) → writer_is ≡ Some x → x.dropping.writer ≡ id
  pub entered : (x : OneWriter) → writer_is ≡ Some x → HasEntered n done x.dropping

-- what a line of a reader says of its container
abbrev pub ReadsIn : (Told → ℕ) → Told → Outcome → Option OneFile → Type 0
ReadsIn of t (line.Reader size cut truncs) new = (f : OneFile) → new ≡ Some f → of t ≡ f.room
ReadsIn of t other new = ⊤

same_told : (t former : Told) → Some t ≡ Some former → t ≡ former
same_told t former is = cc

reads_next : (of : Told → ℕ) (r : Option Told) (t : Told) (o : Outcome) (file new : Option OneFile) → NextFile file o new → ReadsIn of t o new → ((former : Told) → r ≡ Some former → (f : OneFile) → file ≡ Some f → of former ≡ f.room)
    → (former : Told) → reader_next r t o ≡ Some former → (f : OneFile) → new ≡ Some f → of former ≡ f.room
reads_next of r t (line.Reader size cut truncs) file new next here known former is f has = ap of (sym (same_told t former is)) ∙ here f has
reads_next of r t line.ReaderClosed file new next here known former is f has = absurd (cc)
reads_next of r t o file new next here known former is f has = known former is f (next f has)

its_next : (m : Moment) (n : ℕ) (stretch : Stretch) (w : Writing) (s : Statement) (o : Outcome) (old new : Option OneWriter) → OpensNew m n stretch s o new ⊎ KeepsOld old o new → ((id : ℕ) → id_of w ≡ Some id → (x : OneWriter) → old ≡ Some x → x.dropping.writer ≡ id)
    → (id : ℕ) → id_of (writing_next w s o) ≡ Some id → (x : OneWriter) → new ≡ Some x → x.dropping.writer ≡ id
its_next m n stretch w s o old new (inl opens) known id is x has =
    let there : id_of (writing_next w (Open opens.name) (line.Opened opens.id)) ≡ Some id = subst (λ z. id_of (writing_next w z (line.Opened opens.id)) ≡ Some id) opens.asked (subst (λ z. id_of (writing_next w s z) ≡ Some id) opens.says is) in
    let one : opens.it ≡ x = same_some opens.it x (sym opens.has ∙ has) in
    let same : opens.id ≡ id = cc in
    ap (λ (y : OneWriter). y.dropping.writer) (sym one) ∙ sym opens.its_id ∙ same
its_next m n stretch w s o old new (inr keeps) known id is x has =
    let k = keeps.same x has in
    ap (λ (d : Dropping). d.writer) k.2 ∙ known id (same_next w s o id keeps.not_opened is) k.0 k.1

pub entered_next : (m : Moment) (n : ℕ) (before events : List Event) (s : Statement) (o : Outcome) (old new : Option OneWriter) → OpensNew m n (record { before = before; events = events }) s o new ⊎ KeepsOld old o new → ((x : OneWriter) → old ≡ Some x → HasEntered n before x.dropping)
    → (x : OneWriter) → new ≡ Some x → HasEntered n (before ++ events) x.dropping
entered_next m n before events s o old new (inl opens) known x has = subst (λ (y : OneWriter). HasEntered n (before ++ events) y.dropping) (same_some opens.it x (sym opens.has ∙ has)) (opens_entered m n before events opens.name opens.it opens.opens)
entered_next m n before events s o old new (inr keeps) known x has =
    let k = keeps.same x has in
    subst (HasEntered n (before ++ events)) (sym k.2) (entered_more n before events k.0.dropping (known k.0 k.1))

-- behind one line more
pub known_next : (of : Told → ℕ) (m : Moment) (n : ℕ) (before front rest : List Event) (r : Option Told) (w : Writing) (t : Told) (file new : Option OneFile) (old new_writer : Option OneWriter) → Shows m n (record { before = before; events = front }) file t.statement t.outcome new
    → ShowsWriting m n (record { before = before; events = front }) old t.statement t.outcome new_writer → ReadsIn of t t.outcome new → Known of n before r w file old → Known of n (before ++ (front ++ rest)) (reader_next r t t.outcome) (writing_next w t.statement t.outcome) new new_writer
known_next of m n before front rest r w t file new old new_writer shows writes here k =
    let step = step_of m n (record { before = before; events = front }) file t.statement t.outcome new shows in
    let wrote = writer_step m n (record { before = before; events = front }) old t.statement t.outcome new_writer writes in
    record {
      reads = reads_next of r t t.outcome file new step.next here k.reads;
      its = its_next m n (record { before = before; events = front }) w t.statement t.outcome old new_writer wrote k.its;
      entered = λ x has. subst (λ es. HasEntered n es x.dropping) (append_assoc before front rest) (entered_more n (before ++ front) rest x.dropping (entered_next m n before front t.statement t.outcome old new_writer wrote k.entered x has));
    }

-- after events of others
pub known_waits : (of : Told → ℕ) (n : ℕ) (done idle : List Event) (r : Option Told) (w : Writing) (file : Option OneFile) (old : Option OneWriter) → Known of n done r w file old → Known of n (done ++ idle) r w file old
known_waits of n done idle r w file old k = record { reads = k.reads; its = k.its; entered = λ x has. entered_more n done idle x.dropping (k.entered x has) }
