-- The reader's law for an actor's list of calls.
use Rattle.std.proofs.Common.{◌≡◌, ℕ, List, ◌∷◌, ◌++◌, map, refl, ap, sym, ◌∙◌, subst}
use Rattle.plfs_types.specs.declared.entries.Trunc.{Trunc}
use Rattle.plain_file.specs.File.{slice, plain_size}
use Rattle.plain_file.specs.Runs.{ArePieces}
use Rattle.mount_model.specs.History.{Event}
use Rattle.mount_sound.specs.Owed.{IsLawful}
use Rattle.mount_sound.specs.Ledger.{entries_in}
use Rattle.reader_laws.specs.Moments.{Moment, IsSoundAt, moment_after, Grows}
use Rattle.reader_laws.specs.Seen.{Asked, asked_in, calls_of}
use Rattle.reader_laws.specs.Gathering.{Gathered}
use Rattle.reader_laws.specs.View.{cut_off, writes_in, view}
use Rattle.mount_sound.specs.Ledger.{change_of}
use Rattle.reader_laws.specs.GatheringOpening.{IsOpening, ReadsSo, HasOpened}
use Rattle.reader_laws.proofs.Gathered.Moments.Seeing.{sound_after, grows_after}
use Rattle.reader_laws.proofs.Gathered.Moments.Placing.{legal_first, legal_rest, moment-append, place_of, its_call, parted}
use Rattle.reader_laws.proofs.Gathered.OpenReaders.Opening.{opened, answers_last, writes_stay}

-- The reader of an actor's list of calls has a view, from the place of its first call to that of its listing.
pub actor_opened : (caller room : ℕ) (start : Moment) (events : List Event) (earlier : List Asked) (first : Asked) (more : List Asked) (listing : Asked) (rest : List Asked) (cut : List Gathered) (truncs : List Trunc)
    → IsLawful start.state events → IsSoundAt start → calls_of caller events ≡ earlier ++ first ∷ (more ++ listing ∷ rest) → IsOpening room cut truncs (first ∷ more) listing
    → (o : HasOpened caller start events earlier (first ∷ more) room cut truncs) × (asked_in o.listing ≡ listing) × (calls_of caller o.later ≡ rest)
actor_opened caller room start events earlier first more listing rest cut truncs legal sound e opening =
    let p = place_of caller events earlier first (more ++ listing ∷ rest) e in
    let q = place_of caller p.rest more listing rest p.calls_after in
    let gathering : List Event = p.event ∷ q.first in
    let split : events ≡ p.first ++ (gathering ++ q.event ∷ q.rest) = p.split ∙ ap (λ l. p.first ++ p.event ∷ l) q.split in
    let legal2 : IsLawful start.state (p.first ++ (gathering ++ q.event ∷ q.rest)) = subst (IsLawful start.state) split legal in
    let from : Moment = moment_after start p.first in
    let s : IsSoundAt from = sound_after start p.first (legal_first start p.first (gathering ++ q.event ∷ q.rest) legal2) sound in
    let calls : calls_of caller gathering ≡ first ∷ more = its_call caller p.event q.first p.by_caller ∙ ap (λ x. x ∷ calls_of caller q.first) p.is ∙ ap (λ l. first ∷ l) q.calls_before in
    let o1 : IsOpening room cut truncs (calls_of caller gathering) listing = subst (λ c. IsOpening room cut truncs c listing) (sym calls) opening in
    let o2 : IsOpening room cut truncs (calls_of caller gathering) (asked_in q.event) = subst (IsOpening room cut truncs (calls_of caller gathering)) (sym q.is) o1 in
    let v = opened caller room from gathering q.event q.rest cut truncs (legal_rest start p.first (gathering ++ q.event ∷ q.rest) legal2) s o2 in
    (record { before = p.first; gathering = gathering; listing = q.event; later = q.rest; first = p.event; more = q.first; begins = refl; by_caller = p.by_caller; listed_by = q.by_caller; split = split; calls_before = p.calls_before; calls_then = calls; has_view = v }, q.is, q.calls_after)

-- pieces and size by the writes at the end are those by the writes at the listing
answers_then : (end last : Moment) (cut : List Gathered) (truncs : List Trunc) (at len : ℕ) (calls : List Asked) (answer : List ℕ) → writes_in last cut ≡ writes_in end cut → ReadsSo last cut truncs at len calls answer → ReadsSo end cut truncs at len calls answer
answers_then end last cut truncs at len calls answer same a = record {
  pieces = a.pieces;
  size = a.size;
  runs = subst (λ ws. ArePieces (entries_in ws) truncs a.pieces) same a.runs;
  sized = a.sized ∙ ap (λ ws. plain_size (map change_of ws ++ map cut_off truncs)) same;
  made = a.made;
}

-- Each answer of an actor's reader is a slice of one plain file.
pub actor_answers : (caller room : ℕ) (start : Moment) (events : List Event) (earlier : List Asked) (first : Asked) (more : List Asked) (listing : Asked) (between reading rest : List Asked) (cut : List Gathered) (truncs : List Trunc) (at len : ℕ) (answer : List ℕ)
    → IsLawful start.state events → IsSoundAt start → calls_of caller events ≡ earlier ++ first ∷ (more ++ listing ∷ (between ++ (reading ++ rest))) → IsOpening room cut truncs (first ∷ more) listing
    → ReadsSo (moment_after start events) cut truncs at len reading answer → answer ≡ slice (view (moment_after start events) cut truncs) at len
actor_answers caller room start events earlier first more listing between reading rest cut truncs at len answer legal sound e opening a =
    let (o, is, calls) = actor_opened caller room start events earlier first more listing (between ++ (reading ++ rest)) cut truncs legal sound e opening in
    let b = parted caller o.later between (reading ++ rest) calls in
    let r = parted caller b.rest reading rest b.calls_rest in
    let later : o.later ≡ b.first ++ (r.first ++ r.rest) = b.split ∙ ap (λ l. b.first ++ l) r.split in
    let whole : List Event = o.gathering ++ o.listing ∷ (b.first ++ (r.first ++ r.rest)) in
    let split : events ≡ o.before ++ whole = o.split ∙ ap (λ l. o.before ++ (o.gathering ++ o.listing ∷ l)) later in
    let legal2 : IsLawful start.state (o.before ++ whole) = subst (IsLawful start.state) split legal in
    let from : Moment = moment_after start o.before in
    let s : IsSoundAt from = sound_after start o.before (legal_first start o.before whole legal2) sound in
    let legal3 : IsLawful from.state whole = legal_rest start o.before whole legal2 in
    let end : Moment = moment_after from o.gathering in
    let tail : List Event = o.listing ∷ (b.first ++ (r.first ++ r.rest)) in
    let s2 : IsSoundAt end = sound_after from o.gathering (legal_first from o.gathering tail legal3) s in
    let goes : Grows end (moment_after end tail) = grows_after end tail (legal_rest from o.gathering tail legal3) s2 in
    let last : moment_after start events ≡ moment_after end tail = ap (moment_after start) split ∙ moment-append start o.before whole ∙ moment-append from o.gathering tail in
    let same : writes_in (moment_after start events) cut ≡ writes_in end cut = ap (λ m. writes_in m cut) last ∙ writes_stay from end (moment_after end tail) cut o.has_view.admissible goes in
    let o2 : IsOpening room cut truncs (calls_of caller o.gathering) (asked_in o.listing) = subst (λ c. IsOpening room cut truncs c (asked_in o.listing)) (sym o.calls_then) (subst (IsOpening room cut truncs (first ∷ more)) (sym is) opening) in
    let a2 : ReadsSo end cut truncs at len (calls_of caller r.first) answer = subst (λ c. ReadsSo end cut truncs at len c answer) (sym r.calls_first) (answers_then end (moment_after start events) cut truncs at len reading answer same a) in
    let so : answer ≡ slice (view (moment_after from whole) cut truncs) at len = answers_last caller room from o.gathering o.listing b.first r.first r.rest cut truncs at len answer legal3 s o2 a2 in
    let then : moment_after from whole ≡ moment_after start events = moment-append from o.gathering tail ∙ sym last in
    subst (λ m. answer ≡ slice (view m cut truncs) at len) then so
