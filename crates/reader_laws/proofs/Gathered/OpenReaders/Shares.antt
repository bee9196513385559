-- A reader that was split over workers has an admissible cut.
use Rattle.std.proofs.Common.{List, [], ◌∷◌, inl, inr, subst, sym}
use Rattle.std.specs.List.{All, Any, AllByRecursion}
use Rattle.std.proofs.lemmas.List.Elements.{recursion_from_All}
use Rattle.plain_file.proofs.Facts.{Among, All-Among}
use Rattle.mount_model.specs.History.{Event}
use Rattle.mount_sound.specs.Owed.{IsLawful}
use Rattle.plfs_types.specs.Places.{IsAmong}
use Rattle.reader_laws.specs.Moments.{Moment, IsSoundAt, moment_after, Grows}
use Rattle.reader_laws.specs.Seen.{calls_of}
use Rattle.reader_laws.specs.Gathering.{Gathered, AreGathered, Share, GatherShares, AreShared, CoversLanded, IsPrefixOf, IsAdmissible}
use Rattle.reader_laws.proofs.Gathered.Moments.Growing.{grows_refl}
use Rattle.reader_laws.proofs.Gathered.Moments.Seeing.{seen, seen_waits}
use Rattle.reader_laws.proofs.Gathered.Logs.Gathers.{AdmissibleEach, gathers_all}
use Rattle.reader_laws.proofs.Gathered.Containers.Members.{any_found, among}

each_of : (start end : Moment) (gathered : List Gathered) (g : Gathered) → AdmissibleEach start end gathered → IsAmong g gathered → CoversLanded start g → IsPrefixOf start end g
each_of start end gathered g each is = All-Among (λ (h : Gathered). CoversLanded start h → IsPrefixOf start end h) gathered g each (among gathered g is)

gathered_each : (start end : Moment) (gathered cut : List Gathered) → AdmissibleEach start end gathered → AllByRecursion (λ (g : Gathered). IsAmong g gathered) cut → AllByRecursion (CoversLanded start) cut → IsAdmissible start end cut
gathered_each start end gathered [] each all covers = tt
gathered_each start end gathered (g ∷ cut) each all covers = (each_of start end gathered g each all.0 covers.0, gathered_each start end gathered cut each all.1 covers.1)

-- a cut of what was gathered is admissible where all of that is
pub gathered_admissible : (start end : Moment) (gathered cut : List Gathered) → AdmissibleEach start end gathered → AreGathered gathered cut → AllByRecursion (CoversLanded start) cut → IsAdmissible start end cut
gathered_admissible start end gathered cut each are covers = gathered_each start end gathered cut each (recursion_from_All (λ (g : Gathered). IsAmong g gathered) cut are) covers

-- each worker's calls lie between the two places
share_gathered : (first start : Moment) (events : List Event) (shares : List Share) (share : Share) → Grows first start → IsLawful start.state events → IsSoundAt start → GatherShares events shares → Among share shares → AdmissibleEach first (moment_after start events) share.part
share_gathered first start events [] share waits legal sound gather a = absurd a
share_gathered first start events (mine ∷ others) share waits legal sound gather (inl same) =
    subst (λ (x : Share). AdmissibleEach first (moment_after start events) x.part) (sym same)
    (gathers_all mine.worker first (moment_after start events) mine.part (calls_of mine.worker events) (seen_waits mine.worker first start (moment_after start events) (calls_of mine.worker events) waits (seen mine.worker start events legal sound)) gather.0)
share_gathered first start events (mine ∷ others) share waits legal sound gather (inr more) = share_gathered first start events others share waits legal sound gather.1 more

from_shares : (first start : Moment) (events : List Event) (shares : List Share) (cut : List Gathered) → Grows first start → IsLawful start.state events → IsSoundAt start → GatherShares events shares
    → AllByRecursion (λ (g : Gathered). Any (λ (share : Share). IsAmong g share.part) shares) cut → AllByRecursion (CoversLanded first) cut → IsAdmissible first (moment_after start events) cut
from_shares first start events shares [] waits legal sound gather all covers = tt
from_shares first start events shares (g ∷ cut) waits legal sound gather all covers =
    let (share, a, is) = any_found (λ (x : Share). IsAmong g x.part) shares all.0 in
    (each_of first (moment_after start events) share.part g (share_gathered first start events shares share waits legal sound gather a) is covers.0, from_shares first start events shares cut waits legal sound gather all.1 covers.1)

-- A cut of the shares is admissible from a moment at which what is covered had landed, up to the second place.
pub shares_admissible : (first start : Moment) (events : List Event) (shares : List Share) (cut : List Gathered) → Grows first start → IsLawful start.state events → IsSoundAt start → GatherShares events shares → AreShared shares cut → AllByRecursion (CoversLanded first) cut → IsAdmissible first (moment_after start events) cut
shares_admissible first start events shares cut waits legal sound gather shared covers =
    from_shares first start events shares cut waits legal sound gather (recursion_from_All (λ (g : Gathered). Any (λ (share : Share). IsAmong g share.part) shares) cut shared) covers

-- The same where it is said of all members of the cut at once.
pub workers_gathered : (start : Moment) (events : List Event) (shares : List Share) (cut : List Gathered) → IsLawful start.state events → IsSoundAt start → GatherShares events shares → AreShared shares cut → All (CoversLanded start) cut → IsAdmissible start (moment_after start events) cut
workers_gathered start events shares cut legal sound gather shared covers = shares_admissible start start events shares cut (grows_refl start) legal sound gather shared (recursion_from_All (CoversLanded start) cut covers)
