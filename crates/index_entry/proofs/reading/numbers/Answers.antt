use Rattle.std.proofs.Common.{rules}
use Rattle.index_entry.proofs.Places.{side_by_side}
use Rattle.index_entry.proofs.reading.numbers.Goals as goal

pub returns : goal.returns
returns c = record {
  places = record {
    at_fits = c.number_at.type_inv;
    len_fits = c.number_at-2.type_inv;
    physical_fits = c.number_at-3.type_inv;
    stamp_fits = c.number_at-4.type_inv;
    writer_fits = c.number_at-5.type_inv;
  };
  spelled = side_by_side c.args.bytes.now _ (search rules)
      c.number_at.ensures c.number_at-2.ensures c.number_at-3.ensures c.number_at-4.ensures c.number_at-5.ensures;
}
