-- One share that was joined of others stands for them.
use Rattle.std.proofs.Common.{◌≡◌, ℕ, List, [], ◌∷◌, ◌++◌, Option, None, Some, refl, ap, ◌∙◌}
use Rattle.std.proofs.lemmas.List.{append-nil}
use Rattle.plfs_types.specs.declared.entries.Trunc.{Trunc}
use Rattle.plain_file.specs.declared.pieces.Piece.{Piece}
use Rattle.plain_file.specs.Size.{size_from}
use Rattle.plain_file.specs.Sources.{Source, source_at, newer_source, kept_source}
use Rattle.interval_merge.specs.Lists.{newest_source}
use Rattle.attr_flow.specs.Attributes.{gathered as told_by}
use Rattle.index_reader.specs.declared.listing.Listing.{Listing}
use Rattle.index_reader.specs.declared.sharing.Share.{Share}
use Rattle.index_reader.specs.Hosts.{hosts_of}
use Rattle.index_reader.specs.Runs.{runs_of}
use Rattle.index_reader.specs.Gathered.{IsJoinedOf, pieces_of_each, covers_of}
use Rattle.gather_flow.specs.OneIndex.{first_covers, reader_of, attr_of}
use Rattle.gather_flow.proofs.CoverLemmas.{cover_in, first_same, same_behind}

none_newer : (source : Option Source) → newer_source source None ≡ source
none_newer None = refl
none_newer (Some s) = refl

-- each byte has the same newest source
same_newest : (flat : List Piece) (shares : List Share) (share : Share) → IsJoinedOf shares share
    → (x : ℕ) → newest_source (flat ∷ pieces_of_each (share ∷ [])) x ≡ newest_source (flat ∷ pieces_of_each shares) x
same_newest flat shares share joined x =
    ap (newer_source (source_at flat x)) (none_newer (source_at share.pieces x) ∙ joined.pieces.newest x)

-- each writer has the same cover
same_covers_told : (listing : Listing) (shares : List Share) (share : Share) → IsJoinedOf shares share
    → first_covers (covers_of (share ∷ []) ++ listing.flat.covers) ≡ first_covers (covers_of shares ++ listing.flat.covers)
same_covers_told listing shares share joined =
    first_same (covers_of (share ∷ []) ++ listing.flat.covers) (covers_of shares ++ listing.flat.covers)
    (same_behind (covers_of (share ∷ [])) (covers_of shares) listing.flat.covers
    (λ n. ap (cover_in n) (append-nil share.covers) ∙ joined.covers.each n))

pub joined_reader : (listing : Listing) (shares : List Share) (share : Share) (truncs : List Trunc) → IsJoinedOf shares share
    → reader_of listing (share ∷ []) truncs ≡ reader_of listing shares truncs
joined_reader listing shares share truncs joined =
    let covers = same_covers_told listing shares share joined in
    λ i. record {
      room = listing.room;
      hosts = hosts_of listing.droppings;
      pieces = runs_of (λ x. kept_source truncs x (same_newest listing.flat.pieces shares share joined x i));
      size = size_from (runs_of (λ x. same_newest listing.flat.pieces shares share joined x i)) truncs;
      covers = covers i;
      truncs = truncs;
    }

pub joined_told : (listing : Listing) (shares : List Share) (share : Share) (truncs : List Trunc) → IsJoinedOf shares share
    → attr_of listing (share ∷ []) truncs ≡ attr_of listing shares truncs
joined_told listing shares share truncs joined =
    let covers = same_covers_told listing shares share joined in
    λ i. told_by (record { covers = covers i; pieces = runs_of (λ x. same_newest listing.flat.pieces shares share joined x i) }) truncs
