-- What was gathered as one index, and what comes of it.
use Rattle.std.specs.Prelude.{◌==◌, nat_lt, if◌then◌else◌, List, [], ◌∷◌, ◌++◌, Result, Ok, Err}
use Rattle.plfs_types.specs.declared.entries.Cover.{Cover}
use Rattle.plfs_types.specs.declared.entries.Trunc.{Trunc}
use Rattle.plain_file.specs.Size.{size_from}
use Rattle.plain_file.specs.Sources.{kept_source}
use Rattle.interval_merge.specs.Lists.{newest_source}
use Rattle.flat_format.specs.declared.flat.Flat.{Flat}
use Rattle.mount_model.specs.declared.stuck.Stuck.{Stuck}
use Rattle.attr_flow.specs.declared.attr.Attr.{Attr}
use Rattle.attr_flow.specs.Attributes.{gathered as told_by}
use Rattle.index_reader.specs.declared.listing.Listing.{Listing}
use Rattle.index_reader.specs.declared.sharing.Share.{Share}
use Rattle.index_reader.specs.declared.opened.OpenReader.{OpenReader}
use Rattle.index_reader.specs.declared.gathered.Gathered.{Gathered}
use Rattle.index_reader.specs.Hosts.{hosts_of}
use Rattle.index_reader.specs.Runs.{runs_of, merged_of}
use Rattle.index_reader.specs.Gathered.{covers_of, pieces_of_each}
use Rattle.gather_flow.specs.declared.all_read.AllRead.{AllRead}

-- with the cover, before the first of a greater writer, and in the place of one of its writer
abbrev pub with_cover : Cover → List Cover → List Cover
with_cover c [] = c ∷ []
with_cover c (d ∷ covers) =
    if nat_lt c.writer d.writer then c ∷ d ∷ covers
    else if c.writer == d.writer then c ∷ covers
    else d ∷ with_cover c covers

-- of each writer the first cover, by ascending writer
abbrev pub first_covers : List Cover → List Cover
first_covers [] = []
first_covers (c ∷ covers) = with_cover c (first_covers covers)

-- the index of what was listed and of the shares
abbrev pub flat_of : Listing → List Share → Flat
flat_of listing shares = record {
  covers = first_covers (covers_of shares ++ listing.flat.covers);
  pieces = merged_of (listing.flat.pieces ∷ pieces_of_each shares);
}

-- all that was gathered
abbrev pub gathered_of : Listing → List Share → List Trunc → Gathered
gathered_of listing shares truncs = record { room = listing.room; flat = flat_of listing shares; droppings = listing.droppings; truncs = truncs }

-- The reader of what was listed, the shares and the truncates: a share tells all entries of a writer, in the place of what the flattened index covers, and the
-- newest piece of each byte shows, unless a truncate took it away.
abbrev pub reader_of : Listing → List Share → List Trunc → OpenReader
reader_of listing shares truncs = record {
  room = listing.room;
  hosts = hosts_of listing.droppings;
  pieces = runs_of (λ x. kept_source truncs x (newest_source (listing.flat.pieces ∷ pieces_of_each shares) x));
  size = size_from (merged_of (listing.flat.pieces ∷ pieces_of_each shares)) truncs;
  covers = first_covers (covers_of shares ++ listing.flat.covers);
  truncs = truncs;
}

-- what the index and the truncates tell
abbrev pub attr_of : Listing → List Share → List Trunc → Attr
attr_of listing shares truncs = told_by (flat_of listing shares) truncs

-- what is made of all that was read
abbrev pub made_of : {R : Type 0} → (Listing → List Share → List Trunc → R) → Result AllRead Stuck → Result R Stuck
made_of makes (Ok all) = Ok (makes all.listed all.shares all.truncs)
made_of makes (Err because) = Err because
