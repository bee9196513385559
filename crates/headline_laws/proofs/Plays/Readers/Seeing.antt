-- What a caller saw of a container, told of the whole stretch of its statement.
use Rattle.std.proofs.Common.{◌≡◌, ℕ, List, [], ◌∷◌, ◌++◌, sym, ap, ◌∙◌, subst, append_assoc}
use Rattle.std.specs.List.{All}
use Rattle.std.proofs.lemmas.List.{append-nil}
use Rattle.plfs_types.specs.declared.entries.Trunc.{Trunc}
use Rattle.mount_model.specs.declared.call.Call.TheVariants.{Greet}
use Rattle.mount_model.specs.History.{Event}
use Rattle.mount_sound.specs.Owed.{IsLawful}
use Rattle.reader_laws.specs.Gathering.{Gathered}
use Rattle.reader_laws.specs.Moments.{IsSoundAt, Moment, moment_after}
use Rattle.reader_laws.specs.GatheringOpening.{HasView, ListsTruncs}
use Rattle.reader_laws.specs.Seen.{Asked, asked_in, calls_of}
use Rattle.reader_laws.proofs.Gathered.Facts.{later_truncates, legal_first, legal_rest, moment-append, sound_after, synced_gathered}
use Rattle.reader_laws.proofs.Facts.{calls_append}
use Rattle.headline_laws.specs.Opening.{SeesOneFile}
use Rattle.headline_laws.proofs.Plays.Callers.Standing.{Next, lawful_together}

-- the moment behind events that come after the greeting
pub behind_both : (start : Moment) (before greeting front : List Event) → moment_after start (before ++ (greeting ++ front)) ≡ moment_after (moment_after start (before ++ greeting)) front
behind_both start before greeting front = ap (moment_after start) (sym (append_assoc before greeting front)) ∙ moment-append start (before ++ greeting) front

-- the view of a cut of the room's writers, from the caller's first call behind the greeting on
pub seen_so : (start : Moment) (n : ℕ) (before greeting mine front : List Event) (first : Event) (more : List Event) (listing : Event) (later : List Event) (room : ℕ) (cut : List Gathered) (truncs : List Trunc)
    → IsSoundAt start → Next start (before ++ greeting) mine → All (λ (a : Asked). a.ask.call ≡ Greet) (calls_of n greeting) → mine ≡ front ++ (first ∷ more ++ listing ∷ later) → calls_of n front ≡ [] → first.caller ≡ n → listing.caller ≡ n → ListsTruncs room truncs (asked_in listing)
    → HasView (moment_after (moment_after start (before ++ greeting)) front) (moment_after (moment_after (moment_after start (before ++ greeting)) front) (first ∷ more)) room cut truncs
    → SeesOneFile start n (record { before = before; events = greeting ++ mine }) (greeting ++ front) first (record { room = room; moment = moment_after (moment_after (moment_after start (before ++ greeting)) front) (first ∷ more); cut = cut; truncs = truncs })
seen_so start n before greeting mine front first more listing later room cut truncs sound next greets split waits begins lists truncates sees =
    let m : Moment = moment_after start (before ++ greeting) in
    let from : Moment = moment_after m front in
    let end : Moment = moment_after from (first ∷ more) in
    let earlier : List Event = greeting ++ front in
    let all : IsLawful m.state (front ++ (first ∷ more ++ listing ∷ later)) = subst (IsLawful m.state) split next.lawful in
    let l0 = legal_first m front (first ∷ more ++ listing ∷ later) all in
    let s0 : IsSoundAt from = sound_after m front l0 next.sound in
    let l1 = legal_first from (first ∷ more) (listing ∷ later) (legal_rest m front (first ∷ more ++ listing ∷ later) all) in
    let there : moment_after start (before ++ earlier) ≡ from = behind_both start before greeting front in
    let lawful_until : IsLawful start.state (before ++ earlier) = subst (IsLawful start.state) (append_assoc before greeting front) (lawful_together start (before ++ greeting) front next.was_lawful l0) in
    let view : HasView (moment_after start (before ++ earlier)) end room cut truncs = subst (λ (x : Moment). HasView x end room cut truncs) (sym there) sees in
    record {
      more = more;
      listing = listing;
      later = later;
      split = ap (λ z. greeting ++ z) split ∙ sym (append_assoc greeting front (first ∷ more ++ listing ∷ later));
      waits = subst (λ calls. All (λ (a : Asked). a.ask.call ≡ Greet) calls) (sym (calls_append n greeting front ∙ ap (λ z. calls_of n greeting ++ z) waits ∙ append-nil (calls_of n greeting))) greets;
      begins = begins;
      lists = lists;
      truncates = truncates;
      until = sym (ap (moment_after start) (sym (append_assoc before earlier (first ∷ more))) ∙ moment-append start (before ++ earlier) (first ∷ more) ∙ ap (λ x. moment_after x (first ∷ more)) there);
      view = view;
      synced = λ d count in_room told. synced_gathered start (before ++ earlier) end room cut truncs d count lawful_until sound view in_room told;
      above = λ events ts lawful at_it. later_truncates (moment_after start (before ++ earlier)) end events room cut truncs ts lawful (sound_after from (first ∷ more) l1 s0) view at_it;
    }
