-- What a listing read of a flattened index.
use Rattle.std.proofs.Common.{ℕ, List, ◌∷◌, ◌++◌, Option, Some, None, subst}
use Rattle.plain_file.specs.Runs.{AreRuns}
use Rattle.flat_format.specs.declared.flat.Flat.{Flat}
use Rattle.mount_model.specs.Paths.{Name}
use Rattle.mount_model.specs.History.{Event}
use Rattle.mount_sound.specs.Owed.{IsLawful}
use Rattle.index_reader.specs.declared.listing.Listing.{Listing}
use Rattle.reader_laws.specs.Flats.{IsFlatName, TakesNewest, pieces_of}
use Rattle.reader_laws.specs.Moments.{Moment, IsSoundAt, moment_after}
use Rattle.reader_laws.specs.Seen.{Asked, calls_of, IsSeen}
use Rattle.reader_laws.proofs.Gathered.Facts.{WasRight, any_found, flat_right, seen, seen_split}
use Rattle.reader_laws.specs.Listing.{HasListed}

-- the pieces of the flattened index that a listing read are in order
pub flat_runs : (caller : ℕ) (start : Moment) (listing : Listing) (scanning : List Event) (h : HasListed listing (calls_of caller scanning)) → IsLawful start.state scanning → IsSoundAt start → AreRuns listing.flat.pieces
flat_runs caller start listing scanning h lawful sound =
    let room : ℕ = listing.room in
    let middle : Moment = moment_after start scanning in
    let s = seen_split caller start middle h.earlier (h.flattened ++ h.scan) (subst (λ a. IsSeen caller start a middle) h.split (seen caller start scanning lawful sound)) in
    let f = seen_split caller s.0 middle h.flattened h.scan s.2 in
    let first : IsSeen caller s.0 (h.reads.first ∷ h.reads.reads) f.0 = subst (λ a. IsSeen caller s.0 a f.0) h.reads.calls f.1 in
    subst AreRuns h.pieces (newest_runs room first.0 f.0 h.reads.names h.flat h.reads.reads first.2 h.reads.takes)
  where
    newest_runs : (room : ℕ) (from middle : Moment) (names : List Name) (flat : Option Flat) (asked : List Asked) → IsSeen caller from asked middle → TakesNewest room names flat asked → AreRuns (pieces_of flat)
    newest_runs room from middle names None asked seen takes = tt
    newest_runs room from middle names (Some flat) asked seen (id, content, newest, reads, spells) =
        let (name, a, named) = any_found (λ n. IsFlatName n id) names newest.named in
        let w : WasRight from middle room flat = flat_right caller room id from middle asked content flat seen named.is_item reads spells in
        w.pieces.runs
