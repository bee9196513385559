-- The reader's law over a history.
use Rattle.std.proofs.Common.{◌≡◌, ℕ, ◌≤◌, List, [], ◌∷◌, ◌++◌, Option, length, take, map, refl, ap, sym, ◌∙◌, subst, arith}
use Rattle.std.specs.List.{Any}
use Rattle.std.proofs.lemmas.List.{take-append-le}
use Rattle.plfs_types.specs.declared.entries.Trunc.{Trunc}
use Rattle.flat_format.specs.declared.flat.Flat.{Flat}
use Rattle.plain_file.specs.File.{slice, plain}
use Rattle.plain_file.specs.Runs.{ArePieces}
use Rattle.plain_file.proofs.Facts.{Among}
use Rattle.mount_model.specs.History.{Event}
use Rattle.mount_sound.specs.Owed.{IsLawful}
use Rattle.mount_sound.specs.Ledger.{Written}
use Rattle.reader_laws.specs.Moments.{Moment, IsSoundAt, moment_after, Dropping, Stood, issued_by, Grows}
use Rattle.reader_laws.specs.Seen.{Asked, asked_in, calls_of, IsSeen}
use Rattle.reader_laws.specs.Gathering.{Gathered, IsAdmissible}
use Rattle.reader_laws.specs.View.{covered_in, cut_off, writes_in, view}
use Rattle.mount_sound.specs.Ledger.{change_of}
use Rattle.reader_laws.specs.Flats.{pieces_of}
use Rattle.reader_laws.specs.GatheringOpening.{IsCutOf, IsOpening, IsSharedOpening, ReadsSo, HasView}
use Rattle.reader_laws.proofs.Gathered.Moments.Growing.{grows_trans, stood_grows}
use Rattle.reader_laws.proofs.Gathered.Moments.Seeing.{seen, seen_split, seen_grows, seen_waits, sound_after, grows_after}
use Rattle.reader_laws.proofs.Gathered.Logs.Gathers.{gathers_all}
use Rattle.reader_laws.proofs.Gathered.Containers.Listings.{scan_found}
use Rattle.reader_laws.proofs.Gathered.Containers.Truncates.{truncs_listed}
use Rattle.reader_laws.proofs.Gathered.OpenReaders.Viewing.{tails_are}
use Rattle.reader_laws.proofs.Gathered.OpenReaders.Answering.{answer_is_slice}
use Rattle.reader_laws.proofs.Gathered.Containers.Members.{all_at}
use Rattle.reader_laws.proofs.Gathered.Indices.Covering.{IsTaken, flat_taken}
use Rattle.reader_laws.proofs.Gathered.OpenReaders.Shares.{gathered_admissible, shares_admissible}
use Rattle.reader_laws.proofs.Gathered.Moments.Placing.{legal_first, legal_rest, moment-append}

-- ---------- the cut's writes stay

taken_more : (n : ℕ) (xs more : List Written) → n ≤ length xs → take n (xs ++ more) ≡ take n xs
taken_more n xs more l = take-append-le n xs more l

pub writes_stay : (start end later : Moment) (cut : List Gathered) → IsAdmissible start end cut → Grows end later → writes_in later cut ≡ writes_in end cut
writes_stay start end later [] a g = refl
writes_stay start end later (h ∷ cut) a g =
    let more = g.issued h.dropping.room h.dropping.writer in
    ap (λ l. take h.count l ++ writes_in later cut) more.1
    ∙ ap (λ l. l ++ writes_in later cut) (taken_more h.count (issued_by end h.dropping) more.0 a.0.were_issued)
    ∙ ap (λ l. take h.count (issued_by end h.dropping) ++ l) (writes_stay start end later cut a.1 g)

-- The file that a reader sees is the same at each later moment.
pub view_kept : (start end later : Moment) (cut : List Gathered) (truncs : List Trunc) → IsAdmissible start end cut → Grows end later → view later cut truncs ≡ view end cut truncs
view_kept start end later cut truncs a g = ap (λ ws. plain (map change_of ws ++ map cut_off truncs)) (writes_stay start end later cut a g)

pub view_stays : (start end : Moment) (events : List Event) (cut : List Gathered) (truncs : List Trunc) → IsLawful end.state events → IsSoundAt end → IsAdmissible start end cut → view (moment_after end events) cut truncs ≡ view end cut truncs
view_stays start end events cut truncs legal s a = view_kept start end (moment_after end events) cut truncs a (grows_after end events legal s)

-- ---------- the laws

-- a view that is complete between two moments, from an earlier start
view_waits : (first start end : Moment) (room : ℕ) (cut : List Gathered) → Grows first start → IsAdmissible start end cut → IsAdmissible first end cut
view_waits first start end room [] g a = tt
view_waits first start end room (h ∷ cut) g (p, more) = (
  record { least = omega (arith, g.landed h.dropping p.stands.is_item, p.least); most = p.most; were_issued = p.were_issued; stands = p.stands; entries = p.entries },
  view_waits first start end room cut g more,
)

-- What the calls of an opening gathered: an admissible cut that misses no dropping that stood at first, and what a
-- flattened index covers of it.
pub record HasCut (start end : Moment) (room : ℕ) (cut : List Gathered) (flat : Option Flat) : Type 0 where
  pub admissible : IsAdmissible start end cut
  pub complete : (d : Dropping) → d.room ≡ room → Stood start d → Any (λ (g : Gathered). g.dropping ≡ d) cut
  pub pieces : ArePieces (covered_in end cut) [] (pieces_of flat)

-- those of the droppings that were found
found_all : (room : ℕ) (ds : List Dropping) (cut : List Gathered) → IsCutOf room ds cut → (d : Dropping) → Among d ds → Any (λ (g : Gathered). g.dropping ≡ d) cut
found_all room ds cut cuts d a = all_at (λ (x : Dropping). Any (λ (g : Gathered). g.dropping ≡ x) cut) ds d cuts.all a

-- the calls of an opening: what it scanned and what it gathered
pub gathered_seen : (caller room : ℕ) (start end : Moment) (cut : List Gathered) (truncs : List Trunc) (calls : List Asked) (listing : Asked) → IsSeen caller start calls end → (o : IsOpening room cut truncs calls listing) → HasCut start end room cut o.flat
gathered_seen caller room start end cut truncs calls listing seen opening =
    let s = seen_split caller start end opening.earlier (opening.flattened ++ (opening.scan ++ opening.entries)) (subst (λ a. IsSeen caller start a end) opening.split seen) in
    let f = seen_split caller s.0 end opening.flattened (opening.scan ++ opening.entries) s.2 in
    let t = seen_split caller f.0 end opening.scan opening.entries f.2 in
    let found : (d : Dropping) → d.room ≡ room → Stood f.0 d → Any (λ (g : Gathered). g.dropping ≡ d) cut = λ d its stood.
    found_all room opening.droppings cut opening.cuts d (scan_found caller room f.0 t.0 opening.scan opening.droppings d t.1 opening.scans its stood) in
    let taken : IsTaken s.0 f.0 cut opening.flat = flat_taken caller room s.0 f.0 opening.flat opening.flattened cut f.1 opening.reads opening.cuts.rise opening.covered found in
    let first : Grows start s.0 = seen_grows caller start s.0 opening.earlier s.1 in
    let scanned : Grows f.0 t.0 = seen_grows caller f.0 t.0 opening.scan t.1 in
    let gathered : Grows t.0 end = seen_grows caller t.0 end opening.entries t.2 in
    let begins : Grows start taken.m = grows_trans start s.0 taken.m first taken.begins in
    let admissible : IsAdmissible taken.m end cut =
    gathered_admissible taken.m end opening.gathered cut (gathers_all caller taken.m end opening.gathered opening.entries (seen_waits caller taken.m t.0 end opening.entries (grows_trans taken.m f.0 t.0 taken.ends scanned) t.2) opening.gathers) opening.has taken.landed in
    record {
      admissible = view_waits start taken.m end room cut begins admissible;
      complete = λ d its stood. found d its (stood_grows start f.0 d (grows_trans start taken.m f.0 begins taken.ends) stood);
      pieces = taken.pieces end (grows_trans f.0 t.0 end scanned gathered) admissible;
    }

pub opened : (caller room : ℕ) (start : Moment) (gathering : List Event) (listing : Event) (later : List Event) (cut : List Gathered) (truncs : List Trunc) → IsLawful start.state (gathering ++ listing ∷ later) → IsSoundAt start → IsOpening room cut truncs (calls_of caller gathering) (asked_in listing)
    → HasView start (moment_after start gathering) room cut truncs
opened caller room start gathering listing later cut truncs legal sound opening =
    let end : Moment = moment_after start gathering in
    let first = legal_first start gathering (listing ∷ later) legal in
    let rest = legal_rest start gathering (listing ∷ later) legal in
    let s : IsSoundAt end = sound_after start gathering first sound in
    let g = gathered_seen caller room start end cut truncs (calls_of caller gathering) (asked_in listing) (seen caller start gathering first sound) opening in
    record {
      rise = opening.cuts.rise;
      admissible = g.admissible;
      complete = g.complete;
      all_truncs = truncs_listed end s listing.caller room truncs (asked_in listing) listing.after rest.1 opening.lists;
      entries = tails_are start end cut g.admissible;
    }

-- Each answer of who has a view is a slice of its plain file, whatever goes on.
pub view_answers : (caller room : ℕ) (start end : Moment) (cut : List Gathered) (truncs : List Trunc) (between reading rest : List Event) (at len : ℕ) (answer : List ℕ)
    → IsLawful end.state (between ++ (reading ++ rest)) → IsSoundAt end → HasView start end room cut truncs
    → ReadsSo end cut truncs at len (calls_of caller reading) answer → answer ≡ slice (view end cut truncs) at len
view_answers caller room start end cut truncs between reading rest at len answer legal s v a =
    let first = legal_first end between (reading ++ rest) legal in
    let last = legal_rest end between (reading ++ rest) legal in
    let from : Moment = moment_after end between in
    let then : IsSoundAt from = sound_after end between first s in
    answer_is_slice caller start end from (moment_after from reading) room cut truncs a.pieces a.size at len (calls_of caller reading) answer s v.admissible v.rise a.runs a.sized (grows_after end between first s)
    (seen caller from reading (legal_first from reading rest last) then) a.made

-- The same of one who opened a reader, with the file as it is at the history's end.
pub answers_last : (caller room : ℕ) (start : Moment) (gathering : List Event) (listing : Event) (between reading rest : List Event) (cut : List Gathered) (truncs : List Trunc) (at len : ℕ) (answer : List ℕ)
    → IsLawful start.state (gathering ++ listing ∷ (between ++ (reading ++ rest))) → IsSoundAt start → IsOpening room cut truncs (calls_of caller gathering) (asked_in listing)
    → ReadsSo (moment_after start gathering) cut truncs at len (calls_of caller reading) answer
    → answer ≡ slice (view (moment_after start (gathering ++ listing ∷ (between ++ (reading ++ rest)))) cut truncs) at len
answers_last caller room start gathering listing between reading rest cut truncs at len answer legal sound opening a =
    let later : List Event = between ++ (reading ++ rest) in
    let end : Moment = moment_after start gathering in
    let s : IsSoundAt end = sound_after start gathering (legal_first start gathering (listing ∷ later) legal) sound in
    let v = opened caller room start gathering listing later cut truncs legal sound opening in
    view_answers caller room start end cut truncs (listing ∷ between) reading rest at len answer (legal_rest start gathering (listing ∷ later) legal) s v a
    ∙ ap (λ f. slice f at len) (sym (view_stays start end (listing ∷ later) cut truncs (legal_rest start gathering (listing ∷ later) legal) s v.admissible))
    ∙ ap (λ m. slice (view m cut truncs) at len) (sym (moment-append start gathering (listing ∷ later)))

-- The pieces of the flattened index that an opening read are those of the covered entries of its cut.
pub opened_flat : (caller room : ℕ) (start : Moment) (gathering : List Event) (listing : Event) (cut : List Gathered) (truncs : List Trunc) → IsLawful start.state gathering → IsSoundAt start → (o : IsOpening room cut truncs (calls_of caller gathering) (asked_in listing))
    → ArePieces (covered_in (moment_after start gathering) cut) [] (pieces_of o.flat)
opened_flat caller room start gathering listing cut truncs legal sound opening =
    (gathered_seen caller room start (moment_after start gathering) cut truncs (calls_of caller gathering) (asked_in listing) (seen caller start gathering legal sound) opening).pieces

-- ---------- workers

-- what the calls of an opening and its workers gathered
shared_seen : (caller room : ℕ) (start : Moment) (scanning gathering : List Event) (cut : List Gathered) (truncs : List Trunc) (listing : Asked) → IsLawful start.state scanning → IsLawful (moment_after start scanning).state gathering → IsSoundAt start
    → (o : IsSharedOpening room cut truncs (calls_of caller scanning) gathering listing) → HasCut start (moment_after (moment_after start scanning) gathering) room cut o.flat
shared_seen caller room start scanning gathering cut truncs listing l1 l2 sound opening =
    let middle : Moment = moment_after start scanning in
    let end : Moment = moment_after middle gathering in
    let s1 : IsSoundAt middle = sound_after start scanning l1 sound in
    let s = seen_split caller start middle opening.earlier (opening.flattened ++ opening.scan) (subst (λ a. IsSeen caller start a middle) opening.split (seen caller start scanning l1 sound)) in
    let f = seen_split caller s.0 middle opening.flattened opening.scan s.2 in
    let found : (d : Dropping) → d.room ≡ room → Stood f.0 d → Any (λ (g : Gathered). g.dropping ≡ d) cut = λ d its stood.
    found_all room opening.droppings cut opening.cuts d (scan_found caller room f.0 middle opening.scan opening.droppings d f.2 opening.scans its stood) in
    let taken : IsTaken s.0 f.0 cut opening.flat = flat_taken caller room s.0 f.0 opening.flat opening.flattened cut f.1 opening.reads opening.cuts.rise opening.covered found in
    let begins : Grows start taken.m = grows_trans start s.0 taken.m (seen_grows caller start s.0 opening.earlier s.1) taken.begins in
    let scanned : Grows f.0 middle = seen_grows caller f.0 middle opening.scan f.2 in
    let goes : Grows middle end = grows_after middle gathering l2 s1 in
    let admissible : IsAdmissible taken.m end cut = shares_admissible taken.m middle gathering opening.shares cut (grows_trans taken.m f.0 middle taken.ends scanned) l2 s1 opening.gathers opening.shared taken.landed in
    record {
      admissible = view_waits start taken.m end room cut begins admissible;
      complete = λ d its stood. found d its (stood_grows start f.0 d (grows_trans start taken.m f.0 begins taken.ends) stood);
      pieces = taken.pieces end (grows_trans f.0 middle end scanned goes) admissible;
    }

-- The same of a reader whose workers gather.
pub shared_opened : (caller room : ℕ) (start : Moment) (scanning gathering : List Event) (listing : Event) (later : List Event) (cut : List Gathered) (truncs : List Trunc)
    → IsLawful start.state (scanning ++ (gathering ++ listing ∷ later)) → IsSoundAt start → IsSharedOpening room cut truncs (calls_of caller scanning) gathering (asked_in listing)
    → HasView start (moment_after (moment_after start scanning) gathering) room cut truncs
shared_opened caller room start scanning gathering listing later cut truncs legal sound opening =
    let middle : Moment = moment_after start scanning in
    let end : Moment = moment_after middle gathering in
    let l1 = legal_first start scanning (gathering ++ listing ∷ later) legal in
    let l2 = legal_rest start scanning (gathering ++ listing ∷ later) legal in
    let s1 : IsSoundAt middle = sound_after start scanning l1 sound in
    let l3 = legal_first middle gathering (listing ∷ later) l2 in
    let l4 = legal_rest middle gathering (listing ∷ later) l2 in
    let s2 : IsSoundAt end = sound_after middle gathering l3 s1 in
    let g = shared_seen caller room start scanning gathering cut truncs (asked_in listing) l1 l3 sound opening in
    record {
      rise = opening.cuts.rise;
      admissible = g.admissible;
      complete = g.complete;
      all_truncs = truncs_listed end s2 listing.caller room truncs (asked_in listing) listing.after l4.1 opening.lists;
      entries = tails_are start end cut g.admissible;
    }

pub shared_flat : (caller room : ℕ) (start : Moment) (scanning gathering : List Event) (listing : Event) (cut : List Gathered) (truncs : List Trunc) → IsLawful start.state scanning → IsLawful (moment_after start scanning).state gathering → IsSoundAt start
    → (o : IsSharedOpening room cut truncs (calls_of caller scanning) gathering (asked_in listing)) → ArePieces (covered_in (moment_after (moment_after start scanning) gathering) cut) [] (pieces_of o.flat)
shared_flat caller room start scanning gathering listing cut truncs l1 l2 sound opening = (shared_seen caller room start scanning gathering cut truncs (asked_in listing) l1 l2 sound opening).pieces
