use Rattle.folder_calls.proofs.Eights.{same_eight}
use Rattle.folder_calls.proofs.cache.are_same_eight.Goals as goal

pub returns : goal.returns
returns c = same_eight c.args.a.now c.args.b.now _ _ c.told-a c.told-b c.fits-a c.fits-b c.from_le_bytes.ensures c.from_le_bytes-2.ensures
