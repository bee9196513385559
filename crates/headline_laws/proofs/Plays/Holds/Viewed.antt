-- What the caller of a flattening saw of its container: a cut of its writers, from the call that found it on.
use Rattle.std.proofs.Common.{◌≡◌, ℕ, zero, suc, ◌+◌, List, [], ◌∷◌, ◌++◌, length, refl, sym, ap, ◌∙◌, subst, arith, append_assoc}
use Rattle.std.specs.Prelude.{if◌then◌else◌, ◌==◌}
use Rattle.std.specs.List.{All}
use Rattle.plfs_types.specs.declared.entries.Cover.{Cover}
use Rattle.plfs_types.specs.declared.entries.Entry.{Entry}
use Rattle.plfs_types.specs.declared.entries.WriterCount.{WriterCount}
use Rattle.plain_file.specs.Runs.{ArePieces}
use Rattle.flat_format.specs.declared.flat.Flat.{Flat}
use Rattle.turn_object.specs.Callers.{made_by}
use Rattle.mount_model.specs.declared.call.Call.TheVariants.{Greet}
use Rattle.mount_model.specs.History.{Event}
use Rattle.mount_sound.specs.Ledger.{entries_in}
use Rattle.mount_sound.specs.Owed.{IsLawful}
use Rattle.index_reader.specs.Sharing.{covered}
use Rattle.reader_laws.specs.Covering.{counts_in, cover_with, empty_cover}
use Rattle.reader_laws.specs.Gathering.{Gathered, IsAdmissible}
use Rattle.reader_laws.specs.GatheringOpening.{HasView}
use Rattle.reader_laws.specs.Moments.{Grows, IsSoundAt, Moment, issued_by, moment_after, next_moment}
use Rattle.reader_laws.specs.Seen.{Asked, calls_of}
use Rattle.reader_laws.specs.View.{own_entries, writes_in}
use Rattle.reader_laws.proofs.Gathered.Facts.{grows_after, legal_first, legal_rest, length-entries, length_taken, moment-append, sound_after}
use Rattle.flatten_laws.proofs.Facts.{IsOfView}
use Rattle.outcomes.specs.Counts.{counts_of}
use Rattle.headline_laws.specs.OneFile.{OneFile, printed_cut}
use Rattle.headline_laws.specs.Opening.{SeesOneFile}
use Rattle.headline_laws.proofs.Plays.Callers.Earlier.{view_earlier}
use Rattle.headline_laws.proofs.Plays.Callers.Standing.{Next}
use Rattle.headline_laws.proofs.Plays.Readers.Opened.{no_calls, none_test, some_test}
use Rattle.headline_laws.proofs.Plays.Readers.Seeing.{seen_so}

-- ---- the printed counts

all_counted : (c : Cover) (covers : List Cover) (k : ℕ) → c.count ≡ k → counts_of (covered c ++ covers) ≡ (if k == 0 then counts_of covers else record { writer = c.writer; count = k } ∷ counts_of covers)
all_counted c covers zero e = ap (λ b. counts_of ((if b then [] else c ∷ []) ++ covers)) (none_test c.count e)
all_counted c covers (suc k) e =
    ap (λ b. counts_of ((if b then [] else c ∷ []) ++ covers)) (some_test c.count k e)
    ∙ ap (λ n. record { writer = c.writer; count = n } ∷ counts_of covers) e
    ∙ sym (ap (λ b. if b then counts_of covers else record { writer = c.writer; count = suc k } ∷ counts_of covers) (some_test (suc k) k refl))

from_none : (k : ℕ) → 0 + k ≡ k
from_none k = omega arith

all_printed : (start end : Moment) (cut : List Gathered) → IsAdmissible start end cut → counts_of (counts_in end cut) ≡ printed_cut cut
all_printed start end [] all = refl
all_printed start end (g ∷ cut) all =
    let es : List Entry = own_entries end g in
    let long : 0 + length es ≡ g.count = from_none (length es) ∙ length_taken g.count (entries_in (issued_by end g.dropping)) (omega (arith, all.0.were_issued, length-entries (issued_by end g.dropping))) in
    all_counted (cover_with (empty_cover g.dropping.writer) es) (counts_in end cut) g.count long
    ∙ ap (λ (z : List WriterCount). if g.count == 0 then z else record { writer = g.dropping.writer; count = g.count } ∷ z) (all_printed start end cut all.1)

-- ---- what was seen

-- As a reader the caller would have had this file. The index has the counts of its cut, and the pieces of its writes before any truncate.
pub record ViewedFile (start : Moment) (n : ℕ) (before greeting mine first : List Event) (finding : Event) (room : ℕ) (index : Flat) : Type 0 where
  pub file : OneFile
  pub sees : SeesOneFile start n (record { before = before; events = greeting ++ mine }) (greeting ++ first) finding file
  pub in_room : file.room ≡ room
  pub counted : counts_of index.covers ≡ printed_cut file.cut
  pub shown : ArePieces (entries_in (writes_in file.moment file.cut)) [] index.pieces

-- where the view begins behind further calls
viewed_file : (start : Moment) (n : ℕ) (before greeting mine first : List Event) (finding : Event) (between gathering rest : List Event) (room : ℕ) (index : Flat) → IsSoundAt start → Next start (before ++ greeting) mine → All (λ (a : Asked). a.ask.call ≡ Greet) (calls_of n greeting)
    → mine ≡ first ++ (finding ∷ between ++ (gathering ++ rest)) → made_by n first ≡ [] → finding.caller ≡ n → IsOfView n room index (moment_after (moment_after (moment_after start (before ++ greeting)) first) (finding ∷ between)) gathering → ViewedFile start n before greeting mine first finding room index
viewed_file start n before greeting mine first finding between gathering rest room index sound next greets split waits own v =
    let m : Moment = moment_after start (before ++ greeting) in
    let from : Moment = moment_after m first in
    let there : Moment = moment_after from (finding ∷ between) in
    let more : List Event = between ++ v.until in
    let later : List Event = v.later ++ rest in
    let end : Moment = moment_after from (finding ∷ more) in
    let ends : moment_after there v.until ≡ end = sym (moment-append from (finding ∷ between) v.until) in
    let behind : finding ∷ between ++ (gathering ++ rest) ≡ finding ∷ more ++ v.listing ∷ later =
    ap (λ z. finding ∷ between ++ (z ++ rest)) v.split ∙ ap (λ z. finding ∷ between ++ z) (append_assoc v.until (v.listing ∷ v.later) rest) ∙ ap (λ z. finding ∷ z) (sym (append_assoc between v.until (v.listing ∷ later))) in
    let all : mine ≡ first ++ (finding ∷ more ++ v.listing ∷ later) = split ∙ ap (λ z. first ++ z) behind in
    let lawful : IsLawful m.state (first ++ (finding ∷ between ++ (gathering ++ rest))) = subst (IsLawful m.state) split next.lawful in
    let on : IsLawful from.state ((finding ∷ between) ++ (gathering ++ rest)) = legal_rest m first (finding ∷ between ++ (gathering ++ rest)) lawful in
    let grows : Grows from there = grows_after from (finding ∷ between) (legal_first from (finding ∷ between) (gathering ++ rest) on) (sound_after m first (legal_first m first (finding ∷ between ++ (gathering ++ rest)) lawful) next.sound) in
    let view : HasView from end room v.cut v.truncs = subst (λ x. HasView from x room v.cut v.truncs) ends (view_earlier from there (moment_after there v.until) room v.cut v.truncs grows v.view) in
    record {
      file = record { room = room; moment = end; cut = v.cut; truncs = v.truncs };
      sees = seen_so start n before greeting mine first finding more v.listing later room v.cut v.truncs sound next greets all (no_calls n first waits) own v.lists v.truncates view;
      in_room = refl;
      counted = ap counts_of v.covers ∙ all_printed there (moment_after there v.until) v.cut v.view.admissible;
      shown = subst (λ x. ArePieces (entries_in (writes_in x v.cut)) [] index.pieces) ends v.pieces;
    }

-- The law of this file: the container was found, the flattening was begun, and then it was gathered.
pub viewed_behind : (start : Moment) (n : ℕ) (before greeting mine begun gathered first : List Event) (finding : Event) (found second : List Event) (starting : Event) (third gathering rest : List Event) (room : ℕ) (index : Flat) → IsSoundAt start → Next start (before ++ greeting) mine
    → All (λ (a : Asked). a.ask.call ≡ Greet) (calls_of n greeting) → mine ≡ begun ++ gathered → begun ≡ first ++ finding ∷ found → found ≡ second ++ starting ∷ third → gathered ≡ gathering ++ rest → made_by n first ≡ [] → finding.caller ≡ n
    → IsOfView n room index (moment_after (next_moment (moment_after (next_moment (moment_after (moment_after start (before ++ greeting)) first) finding) second) starting) third) gathering → ViewedFile start n before greeting mine first finding room index
viewed_behind start n before greeting mine begun gathered first finding found second starting third gathering rest room index sound next greets all begun_is found_is gathered_is waits own v =
    let m : Moment = next_moment (moment_after (moment_after start (before ++ greeting)) first) finding in
    let between : List Event = second ++ starting ∷ third in
    let front : begun ++ gathered ≡ (first ++ finding ∷ between) ++ gathered = ap (λ z. z ++ gathered) (begun_is ∙ ap (λ z. first ++ finding ∷ z) found_is) in
    let whole : (first ++ finding ∷ between) ++ gathered ≡ first ++ (finding ∷ between ++ gathered) = append_assoc first (finding ∷ between) gathered in
    let split : mine ≡ first ++ (finding ∷ between ++ (gathering ++ rest)) = all ∙ front ∙ whole ∙ ap (λ z. first ++ (finding ∷ between ++ z)) gathered_is in
    let view : IsOfView n room index (moment_after m between) gathering = subst (λ x. IsOfView n room index x gathering) (sym (moment-append m second (starting ∷ third))) v in
    viewed_file start n before greeting mine first finding between gathering rest room index sound next greets split waits own view
