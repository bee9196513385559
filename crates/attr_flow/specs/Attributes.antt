-- What is told of a file.
use Rattle.std.specs.Prelude.{List}
use Rattle.plfs_types.specs.declared.entries.Trunc.{Trunc}
use Rattle.plain_file.specs.Size.{size_from}
use Rattle.flat_format.specs.declared.flat.Flat.{Flat}
use Rattle.mount_model.specs.declared.names.Metadata.{Metadata}
use Rattle.mount_model.specs.Order.{metadata_by_writer, truncs_by_stamp}
use Rattle.attr_flow.specs.declared.attr.Attr.{Attr}
use Rattle.attr_flow.specs.Sizes.{cached_size}
use Rattle.attr_flow.specs.Shares.{shares_left, shares_covered, stored_in}

-- what the metadata and the truncates tell
abbrev pub cached : List Metadata → List Trunc → Attr
cached metas truncs = record {
  size = cached_size metas truncs;
  stored = stored_in (shares_left (metadata_by_writer metas));
  shares = shares_left (metadata_by_writer metas);
  truncs = truncs_by_stamp truncs;
}

-- what a gathered index and the truncates tell
abbrev pub gathered : Flat → List Trunc → Attr
gathered flat truncs = record {
  size = size_from flat.pieces truncs;
  stored = stored_in (shares_covered flat.covers);
  shares = shares_covered flat.covers;
  truncs = truncs;
}
