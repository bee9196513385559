use Rattle.index_entry.specs.Spelling.{spelling}
use Rattle.flat_format.proofs.Joined.{five_joined}
use Rattle.flat_format.proofs.writing.push_piece.Goals as goal

pub returns : goal.returns
unfolding spelling
returns c = five_joined c.args.bytes.now.items _ _ _ _ _ _ _ _ _ _ _ _ c.in_ok-extend_from_slice.ensures.items c.as_flattened.ensures.value
    c.to_le_bytes.ensures c.to_le_bytes-2.ensures c.to_le_bytes-3.ensures c.to_le_bytes-4.ensures c.to_le_bytes-5.ensures
