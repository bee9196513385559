use Rattle.std.proofs.Common.{sym}
use Rattle.index_reader.proofs.Indices.PackRuleLemmas.{pack_told-packs, pack_told-bad}
use Rattle.index_reader.proofs.Indices.PackedLemmas.{packed_of_one, packed_whole}
use Rattle.index_reader.proofs.packed.told.Goals as goal

pub returns-in-Ok-clause-value : goal.returns-in-Ok-clause-value
returns-in-Ok-clause-value c = sym (pack_told-packs c.args.bytes.now c.in-Ok.entries c.in-Ok.ensures.found)

pub returns-in-Ok-clause-one : goal.returns-in-Ok-clause-one
returns-in-Ok-clause-one c = packed_of_one c.args.bytes.now c.in-Ok.entries c.in-Ok.ensures.found

pub returns-in-Ok-clause-whole : goal.returns-in-Ok-clause-whole
returns-in-Ok-clause-whole c = packed_whole c.args.bytes.now c.in-Ok.entries c.in-Ok.ensures.found

pub returns-in-Err-Bad-clause-value : goal.returns-in-Err-Bad-clause-value
returns-in-Err-Bad-clause-value c = sym (pack_told-bad c.args.bytes.now c.in-Err-Bad.place (rw c.in-Err-Bad.field-0-is at c.in-Err-Bad.ensures.bad))
