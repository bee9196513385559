-- The hosts that droppings tell stand as they do.
use Rattle.std.proofs.Common.{◌≡◌, List, [], ◌∷◌, map, refl, ap, sym, subst}
use Rattle.mount_model.specs.Regular.{Ascend}
use Rattle.plain_file.specs.declared.parts.WriterHost.{WriterHost}
use Rattle.index_reader.specs.declared.listing.Dropping.{Dropping}
use Rattle.index_reader.specs.Hosts.{AreByWriter, hosts_of}
use Rattle.index_reader.specs.Listing.{AreByWriter as AreDroppingsByWriter}

writers_same : (ds : List Dropping) → map (λ (h : WriterHost). h.writer) (hosts_of ds) ≡ map (λ (d : Dropping). d.writer) ds
writers_same [] = refl
writers_same (d ∷ ds) = ap (λ l. d.writer ∷ l) (writers_same ds)

pub hosts_ascend : (ds : List Dropping) → AreDroppingsByWriter ds → AreByWriter (hosts_of ds)
hosts_ascend ds by = subst Ascend (sym (writers_same ds)) by
