use Rattle.std.proofs.Common.{Ok, ap, sym, ◌∙◌}
use Rattle.index_reader.proofs.Indices.FlatRuleLemmas.{flat_told-valid, flat_told-bad}
use Rattle.index_reader.proofs.flats.told.Goals as goal

pub returns-in-Ok : goal.returns-in-Ok
returns-in-Ok c = ap Ok c.of.ensures ∙ sym (flat_told-valid c.args.bytes.now c.in-Ok.flat c.in-Ok.ensures.found.0 c.in-Ok.ensures.found.1)

pub returns-in-Err-Bad : goal.returns-in-Err-Bad
returns-in-Err-Bad c = sym (flat_told-bad c.args.bytes.now c.in-Err-Bad.place (rw c.in-Err-Bad.field-0-is at c.in-Err-Bad.ensures.bad))
