use Rattle.std.proofs.Common.{◌≡◌, ◌+◌, List, Option, None, length, sym, subst, arith}
use Rattle.unit_format.specs.declared.finding.Region.{Region}
use Rattle.pack_files.specs.declared.scan.ScanStuck.{ScanStuck}
use Rattle.lone_flow.specs.Scans.{AddsScan, ScansFrom}
use Rattle.mount_core.proofs.Memory.{on_err}
use Rattle.lone_flow.proofs.SmallReads.Breaking.{scan_broken}
use Rattle.lone_flow.proofs.SmallReads.Looked.{looked_both}
use Rattle.lone_flow.proofs.SmallReads.Scanned.{one_longer, scans_more}
use Rattle.lone_flow.proofs.scanning.scan_all.Goals as goal

pub loop-region-preserved : goal.loop-region-preserved
loop-region-preserved g c =
    let added : AddsScan c.args.reader.now c.loop-region.region c.loop-region.regions c.add_scan.new.regions c.loop-region.mount None c.add_scan.new.mount =
    subst (λ (stuck : Option ScanStuck). AddsScan c.args.reader.now c.loop-region.region c.loop-region.regions c.add_scan.new.regions c.loop-region.mount stuck c.add_scan.new.mount) c.in_default.is c.in_ok-why.ensures.adds in
    let at : c.loop-region.region ≡ 0 + length c.loop-region.regions = omega (arith, c.loop-region.invariant.count) in
    record {
      scans = subst (λ (regions : List Region). ScansFrom c.args.reader.now 0 c.args.mount.now regions c.add_scan.new.mount) (sym added.1)
          (scans_more c.args.reader.now 0 c.loop-region.region c.args.mount.now c.loop-region.regions c.loop-region.mount added.0 c.add_scan.new.mount at c.loop-region.invariant.scans added.2);
      count = one_longer c.loop-region.regions c.add_scan.new.regions added.0 c.loop-region.region added.1 c.loop-region.invariant.count;
      looks = looked_both c.args.mount.now c.loop-region.mount c.add_scan.new.mount c.loop-region.invariant.looks c.add_scan.ensures.looks;
      fine = c.add_scan.ensures.fine;
    }

pub returns-in_err-why-clause-broken_off : goal.returns-in_err-why-clause-broken_off
returns-in_err-why-clause-broken_off g c =
    on_err c.from_residual.result _ (
    scan_broken c.args.reader.now c.args.mount.now c.loop-region.mount c.add_scan.new.mount c.loop-region.regions c.loop-region.region c.loop-region.invariant.count (omega arith) c.loop-region.invariant.scans c.in_err-why.ensures.broken_off)
