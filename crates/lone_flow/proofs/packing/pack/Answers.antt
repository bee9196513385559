use Rattle.std.proofs.Common.{Ok, Err, refl}
use Rattle.mount_core.proofs.Memory.{on_err}
use Rattle.lone_flow.specs.Packing.{begins_stuck, to_find_place}
use Rattle.lone_flow.proofs.SmallPuts.Breaking.{pack_broken}
use Rattle.lone_flow.proofs.SmallPuts.Outcomes.{begins_value, begun_and_packed}
use Rattle.lone_flow.proofs.packing.pack.Goals as goal

pub returns-in-Ok-clause-packs : goal.returns-in-Ok-clause-packs
returns-in-Ok-clause-packs g c =
    begun_and_packed c.args.name c.args.region c.args.files.now c.args.mount.now c.in-Ok.at c.begin.new.mount c.pack_from.new.mount c.pack_from.result
    (begins_value c.args.name c.args.region c.args.mount.now c.in_ok-at.field-0 (Ok c.in-Ok.at) c.begin.new.mount c.in-Ok.is c.in_ok-at.ensures.begins) c.pack_from.ensures.packs

pub returns-in-Err-clause-packs : goal.returns-in-Err-clause-packs
returns-in-Err-clause-packs g c = begins_stuck c.in-Err.why (begins_value c.args.name c.args.region c.args.mount.now c.in_ok-at.field-0 (Err c.in-Err.why) c.begin.new.mount c.in-Err.is c.in_ok-at.ensures.begins) refl

pub returns-in_err-at-clause-broken_off : goal.returns-in_err-at-clause-broken_off
returns-in_err-at-clause-broken_off g c = on_err c.from_residual.result _ (to_find_place c.in_err-at.ensures.broken_off)

pub returns-in-Ok-clause-broken_off : goal.returns-in-Ok-clause-broken_off
returns-in-Ok-clause-broken_off g c =
    pack_broken c.args.name c.args.region c.args.files.now c.args.mount.now c.in-Ok.at c.begin.new.mount c.pack_from.new.mount c.pack_from.result
    (begins_value c.args.name c.args.region c.args.mount.now c.in_ok-at.field-0 (Ok c.in-Ok.at) c.begin.new.mount c.in-Ok.is c.in_ok-at.ensures.begins) c.pack_from.ensures.broken_off
