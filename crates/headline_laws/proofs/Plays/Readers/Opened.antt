-- A reader that was opened has one file.
use Rattle.std.proofs.Common.{◌≡◌, ℕ, zero, suc, ◌+◌, true, false, List, [], ◌∷◌, ◌++◌, length, map, filter, nat_lt, Option, Some, None, refl, sym, ap, ◌∙◌, subst, arith, append_assoc, eq-eqb, ne_eqb}
use Rattle.std.specs.Prelude.{if◌then◌else◌, ◌==◌}
use Rattle.std.specs.List.{All}
use Rattle.std.proofs.lemmas.Bool.Decides.{nat_tests}
use Rattle.plfs_types.specs.declared.entries.Cover.{Cover}
use Rattle.plfs_types.specs.declared.entries.Entry.{Entry}
use Rattle.plfs_types.specs.declared.entries.WriterCount.{WriterCount}
use Rattle.turn_object.specs.Callers.{made_by}
use Rattle.mount_model.specs.declared.call.Ask.{Ask}
use Rattle.mount_model.specs.declared.call.Call.TheVariants.{Find, Greet}
use Rattle.mount_model.specs.declared.reply.Reply.TheVariants.{Room}
use Rattle.mount_model.specs.Paths.{Name}
use Rattle.mount_model.specs.History.{Event}
use Rattle.mount_sound.specs.Ledger.{entries_in}
use Rattle.mount_model.specs.Step.{Answers, IsStep}
use Rattle.mount_sound.specs.Owed.{IsLawful}
use Rattle.mount_model.specs.Running.{unbroken}
use Rattle.index_reader.specs.declared.listing.Listing.{Listing}
use Rattle.index_reader.specs.declared.opened.OpenReader.{OpenReader}
use Rattle.index_reader.specs.Sharing.{covered}
use Rattle.reader_laws.specs.Moments.{Moment, IsSoundAt, issued_by, moment_after}
use Rattle.reader_laws.specs.Seen.{Asked, asked_in, calls_of}
use Rattle.reader_laws.specs.Gathering.{Gathered, IsAdmissible}
use Rattle.reader_laws.specs.View.{own_entries}
use Rattle.reader_laws.proofs.Gathered.Facts.{grows_after, its_call, legal_first, legal_rest, length-entries, length_taken, moment-append, sound_after}
use Rattle.reader_laws.specs.Covering.{cover_with, empty_cover, counts_in}
use Rattle.reader_laws.specs.Failing.{IsContainerAt}
use Rattle.reader_laws.specs.Opened.{HasOpenReader, HasOpenedIn}
use Rattle.reader_laws.proofs.Facts.{answered, calls_append, calls_are, container_later}
use Rattle.script_lang.specs.declared.script.Statement.{Statement}
use Rattle.actor_core.specs.Endings.{Ending}
use Rattle.outcomes.specs.Counts.{counted, cut_of}
use Rattle.headline_laws.specs.OneFile.{OneFile, printed_cut}
use Rattle.headline_laws.specs.Opening.{OpensOneFile, SeesOneFile}
use Rattle.headline_laws.specs.Showing.{Shows, TellsOneFile}
use Rattle.headline_laws.proofs.Plays.Callers.Finding.{container_found, name_found}
use Rattle.headline_laws.proofs.Plays.Readers.Listings.{FindsFirst}
use Rattle.headline_laws.proofs.Plays.Readers.Seeing.{behind_both, seen_so}
use Rattle.headline_laws.proofs.Plays.Callers.Standing.{Next, lawful_together}

-- ---- the printed counts

pub none_test : (n : ℕ) → n ≡ 0 → (n == 0) ≡ true
none_test n e = eq-eqb n 0 e

pub some_test : (n k : ℕ) → n ≡ suc k → (n == 0) ≡ false
some_test n k e = ne_eqb n 0 (λ none. omega (arith, e, none))

above_none : (n k : ℕ) → n ≡ suc k → nat_lt 0 n ≡ true
above_none n k e = grind (arith, nat_tests)

counted_first : (c : Cover) (covers : List Cover) (k : ℕ) → c.count ≡ k → cut_of (covered c ++ covers) ≡ (if k == 0 then cut_of covers else record { writer = c.writer; count = k } ∷ cut_of covers)
counted_first c covers zero e = ap (λ b. cut_of ((if b then [] else c ∷ []) ++ covers)) (none_test c.count e)
counted_first c covers (suc k) e =
    ap (λ b. cut_of ((if b then [] else c ∷ []) ++ covers)) (some_test c.count k e)
    ∙ ap (λ b. map counted (if b then c ∷ filter (λ (d : Cover). nat_lt 0 d.count) covers else filter (λ (d : Cover). nat_lt 0 d.count) covers)) (above_none c.count k e)
    ∙ ap (λ n. record { writer = c.writer; count = n } ∷ cut_of covers) e
    ∙ sym (ap (λ b. if b then cut_of covers else record { writer = c.writer; count = suc k } ∷ cut_of covers) (some_test (suc k) k refl))

from_none : (k : ℕ) → 0 + k ≡ k
from_none k = omega arith

pub counts_printed : (start end : Moment) (cut : List Gathered) → IsAdmissible start end cut → cut_of (counts_in end cut) ≡ printed_cut cut
counts_printed start end [] all = refl
counts_printed start end (g ∷ cut) all =
    let es : List Entry = own_entries end g in
    let long : 0 + length es ≡ g.count = from_none (length es) ∙ length_taken g.count (entries_in (issued_by end g.dropping)) (omega (arith, all.0.were_issued, length-entries (issued_by end g.dropping))) in
    counted_first (cover_with (empty_cover g.dropping.writer) es) (counts_in end cut) g.count long
    ∙ ap (λ (z : List WriterCount). if g.count == 0 then z else record { writer = g.dropping.writer; count = g.count } ∷ z) (counts_printed start end cut all.1)

-- ---- the file of a reader

-- The reader that the actor keeps has this file still.
pub record HasFile (now : Moment) (reader : OpenReader) (file : OneFile) : Type 0 where
  pub room : file.room ≡ reader.room
  pub opened : Moment
  pub has : HasOpenReader opened file.moment reader file.cut
  pub truncates : file.truncs ≡ reader.truncs
  pub sound : IsSoundAt file.moment
  pub container : IsContainerAt file.moment reader.room
  pub between : List Event
  pub lawful : IsLawful file.moment.state between
  pub is_now : moment_after file.moment between ≡ now

-- what an actor keeps as its reader has what it has open
abbrev pub Keeps : Moment → Option OpenReader → Option OneFile → Type 0
Keeps now None None = Unit {0}
Keeps now None (Some file) = ⊥
Keeps now (Some reader) None = ⊥
Keeps now (Some reader) (Some file) = HasFile now reader file

pub has_later : (now : Moment) (reader : OpenReader) (file : OneFile) (events : List Event) → HasFile now reader file → IsLawful now.state events → HasFile (moment_after now events) reader file
has_later now reader file events h lawful = record {
  room = h.room;
  opened = h.opened;
  has = h.has;
  truncates = h.truncates;
  sound = h.sound;
  container = h.container;
  between = h.between ++ events;
  lawful = lawful_together file.moment h.between events h.lawful (subst (λ (m : Moment). IsLawful m.state events) (sym h.is_now) lawful);
  is_now = moment-append file.moment h.between events ∙ ap (λ m. moment_after m events) h.is_now;
}

pub keeps_later : (now : Moment) (reader : Option OpenReader) (file : Option OneFile) (events : List Event) → IsLawful now.state events → Keeps now reader file → Keeps (moment_after now events) reader file
keeps_later now None None events lawful keeps = tt
keeps_later now None (Some file) events lawful keeps = absurd keeps
keeps_later now (Some reader) None events lawful keeps = absurd keeps
keeps_later now (Some reader) (Some file) events lawful keeps = has_later now reader file events keeps lawful

-- ---- what an opening shows

pub no_calls : (n : ℕ) (events : List Event) → made_by n events ≡ [] → calls_of n events ≡ []
no_calls n events none = calls_are n events ∙ ap (map asked_in) none

same_asked : (a b : Asked) (xs ys : List Asked) → a ∷ xs ≡ b ∷ ys → a ≡ b
same_asked a b xs ys e = cc

-- the first call of a caller is one
first_calls : (n : ℕ) (before : List Event) (event : Event) (later : List Event) → calls_of n before ≡ [] → event.caller ≡ n → calls_of n (before ++ event ∷ later) ≡ asked_in event ∷ calls_of n later
first_calls n before event later none own = calls_append n before (event ∷ later) ∙ ap (λ z. z ++ calls_of n (event ∷ later)) none ∙ its_call n event later own

-- what the statement opened, the line's size, counts and truncates, and what the actor keeps
pub record HasOpenedFile (start : Moment) (n : ℕ) (before greeting mine : List Event) (name : Name) (reader : OpenReader) : Type 0 where
  pub file : OneFile
  pub opens : OpensOneFile start n (record { before = before; events = greeting ++ mine }) name file
  pub tells : TellsOneFile reader.size (cut_of reader.covers) reader.truncs file
  pub keeps : HasFile (moment_after (moment_after start (before ++ greeting)) mine) reader file

-- the file of a reader that was opened
abbrev pub file_of : (n : ℕ) (m : Moment) (mine : List Event) (reader : OpenReader) → HasOpenedIn n m mine reader → OneFile
file_of n m mine reader h = record { room = reader.room; moment = moment_after (moment_after m h.before) (h.first ∷ h.more); cut = h.cut; truncs = reader.truncs }

-- what the caller saw of it, behind a greeting
pub opened_sees : (start : Moment) (n : ℕ) (before greeting mine : List Event) (reader : OpenReader) → IsSoundAt start → Next start (before ++ greeting) mine → All (λ (a : Asked). a.ask.call ≡ Greet) (calls_of n greeting) → (h : HasOpenedIn n (moment_after start (before ++ greeting)) mine reader)
    → SeesOneFile start n (record { before = before; events = greeting ++ mine }) (greeting ++ h.before) h.first (file_of n (moment_after start (before ++ greeting)) mine reader h)
opened_sees start n before greeting mine reader sound next greets h =
    seen_so start n before greeting mine h.before h.first h.more h.listing h.later reader.room h.cut reader.truncs sound next greets h.split h.waits h.begins h.lists h.truncates h.has.view

pub opened_tells : (n : ℕ) (m : Moment) (mine : List Event) (reader : OpenReader) (h : HasOpenedIn n m mine reader) → TellsOneFile reader.size (cut_of reader.covers) reader.truncs (file_of n m mine reader h)
opened_tells n m mine reader h = record {
  size_is = h.has.size;
  counts = ap cut_of h.has.covers ∙ counts_printed (moment_after m h.before) (moment_after (moment_after m h.before) (h.first ∷ h.more)) h.cut h.has.view.admissible;
  truncates = refl;
}

-- the actor that keeps the reader has the file, where the room was a container's at the first call
pub opened_keeps : (n : ℕ) (m : Moment) (mine : List Event) (reader : OpenReader) (h : HasOpenedIn n m mine reader) → IsSoundAt m → IsLawful m.state mine → IsContainerAt (moment_after m h.before) reader.room → HasFile (moment_after m mine) reader (file_of n m mine reader h)
opened_keeps n m mine reader h sound lawful container =
    let from : Moment = moment_after m h.before in
    let all : IsLawful m.state (h.before ++ (h.first ∷ h.more ++ h.listing ∷ h.later)) = subst (IsLawful m.state) h.split lawful in
    let s0 : IsSoundAt from = sound_after m h.before (legal_first m h.before (h.first ∷ h.more ++ h.listing ∷ h.later) all) sound in
    let r0 = legal_rest m h.before (h.first ∷ h.more ++ h.listing ∷ h.later) all in
    let l1 = legal_first from (h.first ∷ h.more) (h.listing ∷ h.later) r0 in
    record {
      room = refl;
      opened = from;
      has = h.has;
      truncates = refl;
      sound = sound_after from (h.first ∷ h.more) l1 s0;
      container = container_later from (moment_after from (h.first ∷ h.more)) reader.room (grows_after from (h.first ∷ h.more) l1 s0) container;
      between = h.listing ∷ h.later;
      lawful = legal_rest from (h.first ∷ h.more) (h.listing ∷ h.later) r0;
      is_now = sym (moment-append from (h.first ∷ h.more) (h.listing ∷ h.later)) ∙ sym (moment-append m h.before (h.first ∷ h.more ++ h.listing ∷ h.later)) ∙ ap (moment_after m) (sym h.split);
    }

pub file_opened : (start : Moment) (n : ℕ) (before greeting mine scanning rest : List Event) (name : Name) (listing : Listing) (reader : OpenReader) → IsSoundAt start → Next start (before ++ greeting) mine → All (λ (a : Asked). a.ask.call ≡ Greet) (calls_of n greeting)
    → mine ≡ scanning ++ rest → FindsFirst n name scanning listing → reader.room ≡ listing.room → HasOpenedIn n (moment_after start (before ++ greeting)) mine reader → HasOpenedFile start n before greeting mine name reader
file_opened start n before greeting mine scanning rest name listing reader sound next greets split f room_is h =
    let m : Moment = moment_after start (before ++ greeting) in
    let from : Moment = moment_after m h.before in
    let all : IsLawful m.state (h.before ++ (h.first ∷ h.more ++ h.listing ∷ h.later)) = subst (IsLawful m.state) h.split next.lawful in
    let s0 : IsSoundAt from = sound_after m h.before (legal_first m h.before (h.first ∷ h.more ++ h.listing ∷ h.later) all) next.sound in
    let r0 = legal_rest m h.before (h.first ∷ h.more ++ h.listing ∷ h.later) all in
    let whole : h.before ++ (h.first ∷ h.more ++ h.listing ∷ h.later) ≡ f.before ++ f.event ∷ (f.later ++ rest) = sym h.split ∙ split ∙ ap (λ z. z ++ rest) f.split ∙ append_assoc f.before (f.event ∷ f.later) rest in
    let one : asked_in h.first ≡ asked_in f.event = same_asked (asked_in h.first) (asked_in f.event) (calls_of n (h.more ++ h.listing ∷ h.later)) (calls_of n (f.later ++ rest))
    (sym (first_calls n h.before h.first (h.more ++ h.listing ∷ h.later) h.waits h.begins) ∙ ap (calls_of n) whole ∙ first_calls n f.before f.event (f.later ++ rest) (no_calls n f.before f.waits) f.own) in
    let asks : h.first.ask ≡ unbroken (Find name) = ap (λ (a : Asked). a.ask) one ∙ f.asks in
    let told : h.first.reply ≡ Room reader.room = ap (λ (a : Asked). a.reply) one ∙ f.told ∙ ap Room (sym room_is) in
    let finds : Answers from.state h.first.caller (Find name) (Room reader.room) h.first.after =
    answered from.state h.first.caller (Find name) h.first.ask (Room reader.room) h.first.after asks (subst (λ reply. IsStep from.state h.first.caller h.first.ask reply h.first.after) told r0.1) in
    let there : moment_after start (before ++ (greeting ++ h.before)) ≡ from = behind_both start before greeting h.before in
    let finds_there : Answers (moment_after start (before ++ (greeting ++ h.before))).state h.first.caller (Find name) (Room reader.room) h.first.after = subst (λ (x : Moment). Answers x.state h.first.caller (Find name) (Room reader.room) h.first.after) (sym there) finds in
    record {
      file = file_of n m mine reader h;
      opens = record {
        earlier = greeting ++ h.before;
        first = h.first;
        sees = opened_sees start n before greeting mine reader sound next greets h;
        finds = ap (λ (q : Ask). q.call) asks;
        found = told;
        named = λ tree has. name_found (moment_after start (before ++ (greeting ++ h.before))).state h.first.caller name reader.room h.first.after tree finds_there has;
      };
      tells = opened_tells n m mine reader h;
      keeps = opened_keeps n m mine reader h next.sound next.lawful (container_found from s0 h.first.caller reader.room name h.first.after finds);
    }

-- ---- what is owed of a statement

-- The line shows so much, and what the actor then keeps is what it has open. These events come behind a greeting, or behind none.
abbrev pub Good : Moment → ℕ → List Event → List Event → Option OneFile → Statement → List Event → Ending → Type 0
Good start n before greeting old statement mine ending = (new : Option OneFile) × Shows start n (record { before = before; events = greeting ++ mine }) old statement ending.outcome new × Keeps (moment_after (moment_after start (before ++ greeting)) mine) ending.kept.reader new
